-- A name that means a routine means one of the module's: its number is below n, the number of routines. So it is in every scope.
use mathlib.Core.List.{List, [], ◌∷◌, map}
use Prim.Native.Nat.{ℕ, suc, ◌+◌, ◌≤◌, ◌<◌}
use native.Mathlib.Omega.{arith}
use lib.ListN.{length}
use lib.IntN.{ℤ}
use mathlib.Core.Option.{Option, none, some}
use Rattle.laws.specs.Options.{WhereSome}
use Rattle.paper.specs.Sorts.{equal_texts}
use Rattle.paper.specs.Words.{Word}
use Rattle.paper.specs.Terms.{Ref}
use Rattle.paper.specs.Trees.{Content, variable_data, initial_data, array_data, constant_data, Declared, Parameter, Routine, Module}
use Rattle.paper.specs.Names.{DataType, Meaning, unknown, loop, uses_of, routine_in, Text, Names, text_of, Scopes, look_in, protected, meaning, cannot_declare, declare, enter, spelled}
use Rattle.paper.specs.Types.{Fault}
use Rattle.paper.specs.Declarations.{Data, Filling, declare_name, declare_content, declare_data, declare_parameters, no_data, routine_names, module_data, module_scopes, routine_filling, routine_data, routine_scopes}
use Rattle.paper.specs.Steps.{routine_of}
use Rattle.raised.proofs.Choices.{chosen, forked}
use Rattle.demands.proofs.Alls.{◌and◌, first_of, rest_of}
use Rattle.demands.specs.Vocabulary.{All, nothing, ◌also◌}

module _ (n : ℕ) where
  abbrev pub InRange : Meaning → Type 0
  InRange m = WhereSome (λ k. k < n) (uses_of m).routine

  abbrev pub NamesIn : Names → Type 0
  NamesIn names = All (λ x. InRange x.1) names

  pub record ScopesIn (S : Scopes) : Type 0 where
    pub loops : NamesIn S.loops
    pub own : NamesIn S.own
    pub globals : NamesIn S.globals
    pub routines : NamesIn S.routines

  look-in : (names : Names) (text : Text) (otherwise : Meaning) → NamesIn names → InRange otherwise → InRange (look_in names text otherwise)
  unfolding look_in
  look-in [] text otherwise h o = o
  look-in (x ∷ names) text otherwise h o = forked InRange (equal_texts x.0 text) _ _ (first_of h) (look-in names text otherwise (rest_of h) o)

  protected-in : NamesIn protected
  unfolding protected
  protected-in = tt also tt also tt also tt also tt also nothing

  pub meaning-in : (S : Scopes) (text : Text) → ScopesIn S → InRange (meaning S text)
  unfolding meaning
  meaning-in S text h =
      look-in protected text _ protected-in
      (look-in S.loops text _ h.loops (look-in S.own text _ h.own (look-in S.globals text _ h.globals (look-in S.routines text unknown h.routines tt))))

  -- The routine of a callee, if it is one; else 0.
  pub routine-in : (m : Meaning) → InRange m → 0 < n → routine_of (routine_in m) < n
  unfolding routine_in routine_of
  routine-in m h z = by-routine (uses_of m).routine h
    where
      by-routine : (o : Option ℕ) → WhereSome (λ k. k < n) o → routine_of o < n
      by-routine none f = z
      by-routine (some k) f = f

  -- ---- declarations
  declare-in : (text : Text) (m : Meaning) (names : Names) → InRange m → NamesIn names → NamesIn (declare text m names)
  unfolding declare
  declare-in text m names h g = chosen NamesIn (cannot_declare (map text_of names) text) _ _ g (h also g)

  pub enter-in : (text : Text) (r : Ref) (S : Scopes) → ScopesIn S → ScopesIn (enter text r S)
  unfolding enter
  enter-in text r S h = record { loops = declare-in text (loop r) [] tt nothing and h.loops; own = h.own; globals = h.globals; routines = h.routines }

  module _ (W : List Word) (F : Filling) where
    name_in : (i : ℕ) (m : Ref → Meaning) (words : List ℤ) (fs : List Fault) (D : Data) → ((r : Ref) → InRange (m r)) → NamesIn D.names → NamesIn (declare_name W F i m words fs D).names
    unfolding declare_name
    name_in i m words fs D f h = declare-in _ _ D.names (f _) h

    content-in : (t : DataType) (i : ℕ) (c : Content) (D : Data) → NamesIn D.names → NamesIn (declare_content W F t i c D).names
    unfolding declare_content
    content-in t i variable_data D h = name_in i _ _ _ D (λ r. tt) h
    content-in t i (initial_data e) D h = name_in i _ _ _ D (λ r. tt) h
    content-in t i (array_data e) D h = name_in i _ _ _ D (λ r. tt) h
    content-in t i (constant_data e) D h = name_in i _ _ _ D (λ r. tt) h

    data-in : (ds : List Declared) (D : Data) → NamesIn D.names → NamesIn (declare_data W F ds D).names
    unfolding declare_data
    data-in [] D h = h
    data-in (d ∷ ds) D h = data-in ds _ (content-in _ d.name d.content D h)

    parameters-in : (ps : List Parameter) (D : Data) → NamesIn D.names → NamesIn (declare_parameters W F ps D).names
    unfolding declare_parameters
    parameters-in [] D h = h
    parameters-in (p ∷ ps) D h = parameters-in ps _ (name_in p.name _ _ _ D (λ r. tt) h)

  routine-names-in : (W : List Word) (earlier : List Text) (k : ℕ) (rs : List Routine) → k + length rs ≤ n → NamesIn (routine_names W earlier k rs)
  unfolding routine_names
  routine-names-in W earlier k [] h = nothing
  routine-names-in W earlier k (r ∷ rs) h =
      forked NamesIn (cannot_declare earlier (spelled W r.name)) _ _
      (routine-names-in W earlier (suc k) rs (omega arith))
      (lower also routine-names-in W (spelled W r.name ∷ earlier) (suc k) rs (omega arith))
    where
      lower : k < n
      lower = omega arith

module _ (W : List Word) (m : Module) where
  abbrev pub count : ℕ
  count = length m.routines

  pub module-in : ScopesIn count (module_scopes W m)
  unfolding module_scopes module_data
  module-in =
      record {
        loops = nothing;
        own = nothing;
        globals = data-in count W _ m.declared no_data nothing;
        routines = routine-names-in count W _ 0 m.routines (omega arith);
      }

  pub scopes-in : (r : Routine) → ScopesIn count (routine_scopes W m r)
  unfolding routine_scopes routine_filling routine_data
  scopes-in r =
      record {
        loops = nothing;
        own = data-in count W (routine_filling W m) r.declared _ (parameters-in count W (routine_filling W m) r.parameters no_data nothing);
        globals = module-in.globals;
        routines = module-in.routines;
      }
