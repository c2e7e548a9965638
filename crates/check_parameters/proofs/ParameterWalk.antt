-- The parameters of a routine.
use mathlib.Core.Path.{◌≡◌, refl, sym, ap, subst, ◌∙◌}
use mathlib.Core.Bool.{Bool, true, false}
use mathlib.Core.List.{List, [], ◌∷◌, ◌++◌, map}
use Prim.Native.Nat.{ℕ, zero, suc, ◌+◌, ◌-◌, ◌*◌, ◌/◌, ◌<◌, ◌≤◌}
use native.Mathlib.Omega.{arith}
use lib.ListN.{length, get_or, replicate, length-replicate, replicate-append-replicate}
use lib.IntN.{ℤ, pos}
use mir.Syntax.{w32, w64}
use mir.Val.{Fits, to_z}
use Rattle.laws.proofs.Tests.{by-same, false-true}
use Rattle.paper.specs.Sorts.{comma}
use Rattle.paper.specs.Words.{word_limit}
use Rattle.paper.specs.Trees.{Parameter}
use Rattle.paper.specs.Names.{DataType, variable, Text, text_of, sort_in, spelled, is_among, cannot_declare, type_of}
use Rattle.paper.specs.Types.{Fault}
use Rattle.paper.specs.Declarations.{Data, no_data, Filling, declare_name, declare_parameters, routine_word_limit}
use Rattle.store_cells.specs.Cells.{cells_of}
use Rattle.code.specs.Cells.{first_window, op_in, place_in, link_in, op_at}
use Rattle.check_names.specs.Numbers.{number_of}
use Rattle.layout.specs.Parts.{kind_part}
use Rattle.layout.specs.Rules.{taken_name, too_many}
use Rattle.check_names.specs.Meanings.{a_variable, cell_with, type_with, ref_with, meaning_with, meaning_in}
use Rattle.check_names.specs.Promises.{number_at}
use Rattle.check_names.proofs.Tables.{meaning-with, declare-keeps}
use Rattle.store_writing.proofs.Rewriting.{rewritten-other}
use Rattle.grammar.specs.Form.{Parses, SeparatedAt, ParameterAt}
use Rattle.grammar.proofs.Inversions.{FirstOf, separated_first, closed_none, closed_some}
use Rattle.grammar.proofs.Places.{separated-grows, closed-grows, parameter-grows}
use Rattle.faults.specs.First.{First}
use Rattle.faults.specs.Added.{name_faults, parameter_faults}
use Rattle.faults.proofs.Expressions.{grows}
use Rattle.faults.proofs.Declarations.{name-taken, name-crosses, name-fits, parameters-on, parameters-found}
use Rattle.check_expressions.specs.Known.{Loaded}
use Rattle.check_expressions.proofs.Starts.{loaded-part}
use Rattle.check_names.specs.declared.Scope.{Scope}
use Rattle.check_names.specs.Scopes.{with_used, with_parameter}
use Rattle.check_names.specs.Scopes as scopes
use Rattle.check_names.specs.Scopes.{Walked}
use Rattle.std.specs.Prelude.{Ok, Err}
use Rattle.layout.specs.Broken.{as_fault}
use Rattle.layout.specs.declared.rules.Breach.{Breach}
use Rattle.layout.specs.declared.rules.Rule.TheVariants.{TakenName, TooMany}
use Rattle.check_sites.specs.Sites.{a_routine, filling, own_of, scopes_of, Owns, Placed, owned, Filled}
use Rattle.check_sites.specs.Walks.{KeepsAll, name_words}
use Rattle.check_parameters.specs.Answers.{Unopened, with_parameters, Opened, Opens, OtherWords, ParametersStand, parameters_after, ParametersFilled, SaysParameters, DeclaresParameters}
use Rattle.check_sites.specs.Parts.{base_of, Fills, Taken, Makes}
use Rattle.check_parameters.specs.Parts.{ParameterBegins, parameter_after, ParameterGoes, SaysParameter, DeclaresParameter}
use Rattle.check_sites.proofs.TwoSites.{site-ref, own-here, among-new, used-most, filled_on, crossing, not-crossing, own-routine, limit-routine}
use Rattle.check_sites.proofs.WordsKept.{data-plain, keeps-outer, not-among, loaded-changed}
use Rattle.check_sites.proofs.DataChain.{Agrees, Settled, Each, keeps-more, among-append, among-declared, map-append}

-- ---- one parameter
module _ {code values : List ℕ} {used i : ℕ} (b : ParameterBegins code values used i) where
  abbrev F : Filling
  F = filling b.W (a_routine b.m)

  abbrev type : DataType
  type = type_of b.p.type

  pub parameter-room : (i + 2) * 8 + 8 ≤ length code
  parameter-room = let r = b.loaded.room in omega (arith, r, b.stands.after)

  pub parameter-near : i + 2 < word_limit
  parameter-near = let l = b.loaded.last in omega (arith, l, b.stands.after)

  pub parameter-used : used ≤ 64
  parameter-used = omega (arith, used-most b.W (a_routine b.m) b.D.words b.filled.most b.filled.window, b.used-is, limit-routine b.W b.m)

  number-here : number_at (cells_of code) (i + 1) ≡ number_of b.W (i + 1)
  number-here = (b.loaded.words (i + 1) (omega arith) (omega (arith, b.stands.after))).number b.stands.name

  module _ (t : Bool) (taken : Taken code values 1 (i + 1) t) where
    taken_is : t ≡ cannot_declare (map text_of b.D.names) (spelled b.W (i + 1))
    taken_is =
        taken.is b.routine b.W (scopes_of b.W (a_routine b.m) b.D) b.D.names b.filled.means b.stands.name number-here
        (subst (λ (k : ℕ). Owns k b.D.names (scopes_of b.W (a_routine b.m) b.D)) (sym (own-routine b.m)) b.filled.owns)

    name-is : t ≡ cannot_declare (map text_of b.D.names) (spelled b.W b.p.name)
    name-is = taken_is ∙ ap (λ (k : ℕ). cannot_declare (map text_of b.D.names) (spelled b.W k)) (sym b.stands.named)

  room-left : length b.D.words ≤ F.limit
  room-left = used-most b.W (a_routine b.m) b.D.words b.filled.most b.filled.window

  module _ (code' mid values' : List ℕ) (free : cannot_declare (map text_of b.D.names) (spelled b.W (i + 1)) ≡ false) (fits : used < routine_word_limit)
      (made : Makes code values code' mid (i + 1) a_variable 1 used) (fills : Fills mid values' (first_window + used) 1 0) where
    room : (i + 1) * 8 + 8 ≤ length code
    room = omega (arith, parameter-room)

    type-is : type_with made.bool ≡ type
    type-is =
        let e : i + 1 - 1 ≡ i = omega arith in
        made.type.is ∙ ap type_of (ap (op_at (cells_of code)) e ∙ (b.loaded.words i (omega arith) (omega (arith, b.stands.after))).sort ∙ sym b.stands.type)

    ref-is : ref_with 1 used ≡ F.ref (length b.D.words)
    ref-is = ap (λ (k : ℕ). ref_with k used) (own-routine b.m) ∙ ap (ref_with (own_of (a_routine b.m))) b.used-is ∙ sym (site-ref b.W (a_routine b.m) (length b.D.words))

    now-means : meaning_in b.routine (cell_with a_variable made.bool 1 used) ≡ variable type (F.ref (length b.D.words))
    unfolding meaning_with
    now-means = meaning-with b.routine a_variable made.bool 1 used (omega arith) made.type.small (omega arith) ∙ ap (λ (t : DataType). variable t (ref_with 1 used)) type-is ∙ ap (variable type) ref-is

    from_is : first_window + used ≡ base_of (own_of (a_routine b.m)) + length b.D.words
    unfolding base_of own_of
    from_is = ap (λ (k : ℕ). first_window + k) b.used-is

    own_is : owned (own_of (a_routine b.m)) (variable type (F.ref (length b.D.words))) ≡ true
    unfolding owned
    own_is = own-here b.W (a_routine b.m) (length b.D.words)

    placed-is : Placed (F.memory_with (b.D.words ++ pos 0 ∷ [])) (variable type (F.ref (length b.D.words)))
    unfolding Placed
    placed-is = record { room = among-new b.W (a_routine b.m) b.D.words (pos 0 ∷ []) (length b.D.words) 1 (omega arith); some = omega arith; ranged = λ e. false-true e }

    starts_is : (j : ℕ) → j < 1 → get_or (pos 0 ∷ []) j (pos 0) ≡ to_z w32 0
    starts_is zero l = refl
    starts_is (suc j) l = absurd (omega arith)

    now-filled : Filled b.W b.routine (a_routine b.m) (parameter_after b) values'
    unfolding declare_name
    now-filled =
        let g = filled_on b.W b.routine (a_routine b.m) b.D values mid values' code code' (i + 1) (cell_with a_variable made.bool 1 used) (variable type (F.ref (length b.D.words))) (pos 0 ∷ []) 0 b.filled
        b.stands.name free number-here made.declared (data-plain (a_variable * kind_part) made.bool 1 used (omega arith) made.type.small (omega arith)) now-means
        (subst (λ (k : ℕ). Fills mid values' k 1 0) from_is fills) starts_is (omega (arith, fits, b.used-is, limit-routine b.W b.m)) own_is placed-is
        (declare_name b.W F (i + 1) (variable type) (pos 0 ∷ []) [] b.D).faults in
        subst (λ (k : ℕ). Filled b.W b.routine (a_routine b.m) (declare_name b.W F k (variable type) (pos 0 ∷ []) [] b.D) values') (sym b.stands.named) g

    goes : ParameterGoes b code' values' (i + 2) (used + 1)
    goes = record {
      none = name-fits b.W F b.p.name (pos 0 ∷ []) b.D (ap (λ (k : ℕ). cannot_declare (map text_of b.D.names) (spelled b.W k)) b.stands.named ∙ free)
          (not-crossing F.limit (length b.D.words) 1 (omega (arith, fits, b.used-is, limit-routine b.W b.m)));
      next-is = sym b.stands.after;
      used-is = refl;
      filled = now-filled;
      keeps = record {
        near = omega (arith, parameter-near);
        name = b.stands.name;
        keeps = keeps-outer b.routine b.W (a_routine b.m) b.D.names (cells_of code') (i + 1) (not-among (map text_of b.D.names) (spelled b.W (i + 1)) free)
            (declare-keeps b.routine b.W (scopes_of b.W (a_routine b.m) b.D) (scopes_of b.W (a_routine b.m) b.D) (i + 1) b.stands.name code values code' mid _ room made.declared number-here b.filled.means);
      };
      others = record {
        is = λ k d. rewritten-other made.declared.word room k (λ e. d 0 (omega arith) (omega (arith, e))) (λ e. d 0 (omega arith) (omega (arith, e)));
      };
    }

module _ (code values : List ℕ) (used i : ℕ) (t : Bool) (taken : Taken code values 1 (i + 1) t) where
  pub parameter-taken : t ≡ true → DeclaresParameter code values code values used i (Err (record { rule = TakenName; word = i + 1 }))
  unfolding SaysParameter
  parameter-taken h = record {
    is = λ b. subst (λ (k : ℕ). First (record { number = taken_name; at = k }) (name_faults b.W (F b) b.p.name (pos 0 ∷ []) b.D)) b.stands.named
        (name-taken b.W (F b) b.p.name (pos 0 ∷ []) b.D (sym (name-is b t taken) ∙ h));
  }

  pub parameter-crosses : t ≡ false → routine_word_limit ≤ used → DeclaresParameter code values code values used i (Err (record { rule = TooMany; word = i + 1 }))
  unfolding SaysParameter
  parameter-crosses h over = record {
    is = λ b. subst (λ (k : ℕ). First (record { number = too_many; at = k }) (name_faults b.W (F b) b.p.name (pos 0 ∷ []) b.D)) b.stands.named
        (name-crosses b.W (F b) b.p.name (pos 0 ∷ []) b.D (sym (name-is b t taken) ∙ h)
        (crossing (F b).limit (length b.D.words) 1 (room-left b) (omega (arith, over, b.used-is, limit-routine b.W b.m))));
  }

  pub parameter-goes : t ≡ false → used < routine_word_limit → (code' mid values' : List ℕ) → Makes code values code' mid (i + 1) a_variable 1 used → Fills mid values' (first_window + used) 1 0
      → (scope filled : Scope) → filled ≡ with_used (used + 1) scope → (counted : Scope) → counted ≡ with_parameter filled → DeclaresParameter code values code' values' used i (Ok (i + 2, counted))
  unfolding SaysParameter
  parameter-goes h fits code' mid values' made fills scope filled e counted c = record {
    is = λ b. subst (λ (s : Scope). SaysParameter b code' values' (Ok (i + 2, s))) (sym (c ∙ ap with_parameter e)) (goes b code' mid values' (sym (taken_is b t taken) ∙ h) fits made fills);
  }

-- ---- the words of their names
pub names_more : (first n : ℕ) → name_words first (suc n) ≡ name_words first n ++ (first + 3 * n + 1) ∷ []
unfolding name_words
names_more first zero = ap (λ (k : ℕ). k ∷ []) (omega arith)
names_more first (suc n) =
    let e : first + 3 + 3 * n + 1 ≡ first + 3 * suc n + 1 = omega arith in
    ap (λ (l : List ℕ). (first + 1) ∷ l) (names_more (first + 3) n ∙ ap (λ (k : ℕ). name_words (first + 3) n ++ k ∷ []) e)

names-below : (first n i : ℕ) → first + 3 * n ≤ i → Each (Settled i i) (name_words first n)
unfolding Each name_words
names-below first zero i h = tt
names-below first (suc n) i h = (record { below = omega arith; apart = λ e. omega arith }, names-below (first + 3) n i (omega arith))

-- ---- what is left of them
pub record Passed {code₀ values₀ : List ℕ} {at : ℕ} (b : ParametersStand code₀ values₀ at) (code values : List ℕ) (i used : ℕ) : Type 0 where
  pub D : Data
  pub rest : List Parameter
  pub left : declare_parameters b.W (filling b.W (a_routine b.m)) b.ps no_data ≡ declare_parameters b.W (filling b.W (a_routine b.m)) rest D
  pub faults-left : parameter_faults b.W (filling b.W (a_routine b.m)) b.ps no_data ≡ parameter_faults b.W (filling b.W (a_routine b.m)) rest D
  pub filled : Filled b.W b.routine (a_routine b.m) D values
  pub stand : SeparatedAt (sort_in b.W) (ParameterAt (sort_in b.W) (Parses (sort_in b.W))) rest i b.to
  pub loaded : Loaded b.W code i b.to
  pub count : length b.ps ≡ used + length rest
  pub words_are : D.words ≡ replicate used (pos 0)
  pub keeps : KeepsAll b.routine b.W (a_routine b.m) (cells_of code) (name_words at used)
  pub covers : (u : Text) → is_among (map (spelled b.W) (name_words at used)) u ≡ false → is_among (map text_of D.names) u ≡ false

pub record ParametersWalk (code₀ values₀ : List ℕ) (at : ℕ) (code values : List ℕ) (i used : ℕ) : Type 0 where
  pub long : length code ≡ length code₀
  pub long-values : length values ≡ length values₀
  pub passed : (b : ParametersStand code₀ values₀ at) → Passed b code values i used
  pub place : i ≡ at + 3 * used
  pub others : OtherWords (cells_of code₀) (cells_of code) at used

-- ---- none
module _ (code values : List ℕ) (at s : ℕ) (s-is : s ≡ op_at (cells_of code) at) where
  at_on : (b : ParametersStand code values at) → at ≤ b.to
  at_on b = closed-grows (sort_in b.W) (ParameterAt (sort_in b.W) (Parses (sort_in b.W))) (parameter-grows (sort_in b.W) (Parses (sort_in b.W)) (grows b.W)) b.stand

  sort-at : (b : ParametersStand code values at) → sort_in b.W at ≡ s
  sort-at b = sym (s-is ∙ (b.loaded.words at (omega arith) (at_on b)).sort)

  pub parameters-none : s ≡ 7 → (scope : Scope) → Unopened scope → DeclaresParameters code values code values at (Ok (at, scope))
  unfolding SaysParameters KeepsAll name_words parameter_faults declare_parameters
  parameters-none h scope u = subst (λ (n : ℕ). (DeclaresParameters code values code values at (Ok (at, with_used n scope)))) (sym u.no_word) (record {
    is = λ b.
        let n = closed_none (sort_in b.W) (ParameterAt (sort_in b.W) (Parses (sort_in b.W))) b.stand (sort-at b ∙ h) in
        let G = filling b.W (a_routine b.m) in
        let e : parameters_after b ≡ no_data = ap (λ (ps : List Parameter). declare_parameters b.W G ps no_data) n.0 in
        record {
          none = ap (λ (ps : List Parameter). parameter_faults b.W G ps no_data) n.0;
          next-is = sym n.1;
          used-is = sym (ap length n.0);
          words_are = ap (λ (D : Data). D.words) e ∙ ap (λ (ps : List Parameter). replicate (length ps) (pos 0)) (sym n.0);
          filled = subst (λ (D : Data). Filled b.W b.routine (a_routine b.m) D values) (sym e) b.filled;
          keeps = tt;
          covers = λ u q. ap (λ (D : Data). is_among (map text_of D.names) u) e ∙ q;
          others = record { is = λ k d. refl };
        };
  })

  pub parameters-begun : (s ≡ 7 → ⊥) → (scope : Scope) → Unopened scope → ParametersWalk code values at code values at scope.used
  unfolding KeepsAll name_words
  parameters-begun h scope u = subst (ParametersWalk code values at code values at) (sym u.no_word) (record {
    long = refl;
    long-values = refl;
    passed = λ b. record {
      D = no_data;
      rest = b.ps;
      left = refl;
      faults-left = refl;
      filled = b.filled;
      stand = closed_some (sort_in b.W) (ParameterAt (sort_in b.W) (Parses (sort_in b.W))) b.stand (λ e. h (sym (sort-at b) ∙ e));
      loaded = b.loaded;
      count = omega arith;
      words_are = refl;
      keeps = tt;
      covers = λ u q. q;
    };
    place = omega arith;
    others = record { is = λ k d. refl };
  })

pub parameters-room : (code values : List ℕ) (at : ℕ) → ParametersStand code values at → at * 8 + 8 ≤ length code
parameters-room code values at b =
    let g = closed-grows (sort_in b.W) (ParameterAt (sort_in b.W) (Parses (sort_in b.W))) (parameter-grows (sort_in b.W) (Parses (sort_in b.W)) (grows b.W)) b.stand in
    let r = b.loaded.room in
    omega (arith, g, r)

-- ---- the next one
module _ {code₀ values₀ : List ℕ} {at : ℕ} (b : ParametersStand code₀ values₀ at) {code values : List ℕ} {i used : ℕ} (h : Passed b code values i used) where
  abbrev One : Parameter → (at to : ℕ) → Type 0
  One = ParameterAt (sort_in b.W) (Parses (sort_in b.W))

  first-left : FirstOf (sort_in b.W) One h.rest i b.to
  first-left = separated_first (sort_in b.W) One h.stand

  -- its next word is there
  first-end : first-left.n ≤ b.to
  first-end =
      by-same (sort_in b.W first-left.n) 5
      (λ c. let g = separated-grows (sort_in b.W) One (parameter-grows (sort_in b.W) (Parses (sort_in b.W)) (grows b.W)) (first-left.more c) in omega (arith, g))
      (λ c. omega (arith, (first-left.done c).1))

  abbrev begins : ParameterBegins code values used i
  begins = record {
    W = b.W;
    routine = b.routine;
    m = b.m;
    D = h.D;
    p = first-left.a;
    to = first-left.n;
    used-is = sym (ap length h.words_are ∙ length-replicate used (pos 0));
    filled = h.filled;
    stands = first-left.one;
    loaded = loaded-part b.W code i b.to i first-left.n h.loaded (omega arith) first-end;
  }

  abbrev G : Filling
  G = filling b.W (a_routine b.m)

  found : (f : Fault) → First f (name_faults b.W G first-left.a.name (pos 0 ∷ []) h.D) → First f (parameter_faults b.W G b.ps no_data)
  found f q =
      subst (First f) (sym (h.faults-left ∙ ap (λ (ps : List Parameter). parameter_faults b.W G ps h.D) first-left.is))
      (parameters-found b.W G h.D (subst (λ (ps : List Parameter). SeparatedAt (sort_in b.W) One ps i b.to) first-left.is h.stand) q)

  module _ (code' values' : List ℕ) (n used' : ℕ) (g : ParameterGoes begins code' values' n used') (long : length code' ≡ length code) (place : i ≡ at + 3 * used) where
    one_more : used' ≡ used + 1
    one_more = g.used-is

    next-is : n ≡ i + 2
    next-is = g.next-is ∙ first-left.one.after

    -- words before this one's, and behind it
    stays : (k : ℕ) → (k / 2 ≡ i + 1 → ⊥) → get_or (cells_of code') k 0 ≡ get_or (cells_of code) k 0
    stays k d = g.others.is k (λ j l e. d (omega (arith, e, l)))

    agrees : Agrees (cells_of code) (cells_of code') i i
    agrees = record {
      heads = λ j l. stays (j * 2) (λ e. omega (arith, e, l));
      places = λ j l. ap place_in (stays (j * 2 + 1) (λ e. omega (arith, e, l)));
      links = λ j l d. ap link_in (stays (j * 2 + 1) (λ e. omega (arith, e, l)));
    }

    abbrev E : Data
    E = parameter_after begins

    names-are : name_words at used' ≡ name_words at used ++ (i + 1) ∷ []
    names-are = let e : at + 3 * used + 1 ≡ i + 1 = omega (arith, place) in let y : used' ≡ suc used = omega (arith, one_more) in ap (name_words at) y ∙ names_more at used ∙ ap (λ (k : ℕ). name_words at used ++ k ∷ []) e

    left-on : declare_parameters b.W G b.ps no_data ≡ declare_parameters b.W G first-left.rest E
    unfolding declare_parameters
    left-on = h.left ∙ ap (λ (ps : List Parameter). declare_parameters b.W G ps h.D) first-left.is

    faults-on : parameter_faults b.W G b.ps no_data ≡ parameter_faults b.W G first-left.rest E
    faults-on = h.faults-left ∙ ap (λ (ps : List Parameter). parameter_faults b.W G ps h.D) first-left.is ∙ parameters-on b.W G first-left.a first-left.rest h.D g.none

    count-on : length b.ps ≡ used' + length first-left.rest
    count-on = let e : length h.rest ≡ suc (length first-left.rest) = ap length first-left.is in omega (arith, h.count, e, one_more)

    words-on : E.words ≡ replicate used' (pos 0)
    unfolding declare_name
    words-on = ap (λ (l : List ℤ). l ++ pos 0 ∷ []) h.words_are ∙ replicate-append-replicate used 1 (pos 0) ∙ ap (λ (k : ℕ). replicate k (pos 0)) (sym one_more)

    keeps_on : KeepsAll b.routine b.W (a_routine b.m) (cells_of code') (name_words at used')
    keeps_on = subst (KeepsAll b.routine b.W (a_routine b.m) (cells_of code')) (sym names-are)
        (keeps-more b.routine b.W (a_routine b.m) (cells_of code) (cells_of code') i i agrees (name_words at used) (i + 1) (names-below at used i (omega (arith, place))) h.keeps g.keeps)

    covers-on : (u : Text) → is_among (map (spelled b.W) (name_words at used')) u ≡ false → is_among (map text_of E.names) u ≡ false
    unfolding declare_name
    covers-on u q =
        let W = b.W in
        let e : map (spelled W) (name_words at used') ≡ map (spelled W) (name_words at used) ++ spelled W (i + 1) ∷ [] = ap (map (spelled W)) names-are ∙ map-append (spelled W) (name_words at used) ((i + 1) ∷ []) in
        let z = among-append (map (spelled W) (name_words at used)) (spelled W (i + 1) ∷ []) u (subst (λ (l : List Text). is_among l u ≡ false) e q) in
        among-declared h.D.names (spelled W first-left.a.name) u _ (h.covers u z.0) (ap (λ (k : ℕ). is_among (spelled W k ∷ []) u) first-left.one.named ∙ z.1)

    more : sort_in b.W n ≡ 5 → Passed b code' values' (n + 1) used'
    more comma =
        let e : first-left.n ≡ n = sym g.next-is in
        let s = first-left.more (ap (sort_in b.W) e ∙ comma) in
        let o : n + 1 < b.to = let q = separated-grows (sort_in b.W) One (parameter-grows (sort_in b.W) (Parses (sort_in b.W)) (grows b.W)) s in omega (arith, q, e) in
        record {
          D = E;
          rest = first-left.rest;
          left = left-on;
          faults-left = faults-on;
          filled = g.filled;
          stand = subst (λ (k : ℕ). SeparatedAt (sort_in b.W) One first-left.rest (k + 1) b.to) e s;
          loaded = loaded-changed b.W code code' (n + 1) (n + 1) b.to long (λ k l. stays k (λ q. omega (arith, q, l, next-is))) (omega arith)
              (loaded-part b.W code i b.to (n + 1) b.to h.loaded (omega (arith, next-is)) (omega arith));
          count = count-on;
          words_are = words-on;
          keeps = keeps_on;
          covers = covers-on;
        }

    all : (sort_in b.W n ≡ 5 → ⊥) → (others : OtherWords (cells_of code₀) (cells_of code') at used') → ParametersFilled b code' values' n used'
    unfolding declare_parameters parameter_faults
    all comma others =
        let e : first-left.n ≡ n = sym g.next-is in
        let d = first-left.done (λ c. comma (ap (sort_in b.W) (sym e) ∙ c)) in
        let z : parameters_after b ≡ E = left-on ∙ ap (λ (ps : List Parameter). declare_parameters b.W G ps E) d.0 in
        let c : length b.ps ≡ used' = let y : length first-left.rest ≡ 0 = ap length d.0 in omega (arith, count-on, y) in
        record {
          none = faults-on ∙ ap (λ (ps : List Parameter). parameter_faults b.W G ps E) d.0;
          next-is = sym e ∙ sym d.1;
          used-is = sym c;
          words_are = ap (λ (D : Data). D.words) z ∙ words-on ∙ ap (λ (k : ℕ). replicate k (pos 0)) (sym c);
          filled = subst (λ (D : Data). Filled b.W b.routine (a_routine b.m) D values') (sym z) g.filled;
          keeps = keeps_on;
          covers = λ u q. ap (λ (D : Data). is_among (map text_of D.names) u) z ∙ covers-on u q;
          others = others;
        }

says-goes : {code values : List ℕ} {used i : ℕ} (b : ParameterBegins code values used i) (code' values' : List ℕ) (r : Walked) (n : ℕ) (scope : Scope) → r ≡ Ok (n, scope) → SaysParameter b code' values' r → ParameterGoes b code' values' n scope.used
unfolding SaysParameter
says-goes b code' values' r n scope q h = subst (SaysParameter b code' values') q h

says-faulty : {code values : List ℕ} {used i : ℕ} (b : ParameterBegins code values used i) (code' values' : List ℕ) (r : Walked) (broken : Breach) → r ≡ Err broken → SaysParameter b code' values' r
    → First (as_fault broken) (name_faults b.W (filling b.W (a_routine b.m)) b.p.name (pos 0 ∷ []) b.D)
unfolding SaysParameter
says-faulty b code' values' r broken q h = subst (SaysParameter b code' values') q h

-- ---- the loop
module _ (code₀ values₀ : List ℕ) (at : ℕ) (code values : List ℕ) (i used : ℕ) (m : ParametersWalk code₀ values₀ at code values i used) where
  pub parameters-next : ParametersStand code₀ values₀ at → ParameterBegins code values used i
  parameters-next b = begins b (m.passed b)

  pub parameters-long : length code ≡ length code₀
  parameters-long = m.long

  pub parameters-long-values : length values ≡ length values₀
  parameters-long-values = m.long-values

  module _ (code' values' : List ℕ) (r : Walked) (d : DeclaresParameter code values code' values' used i r) where
    pub parameters-faulty : (broken : Breach) → r ≡ Err broken → DeclaresParameters code₀ values₀ code' values' at (Err broken)
    unfolding SaysParameters
    parameters-faulty broken q = record {
      is = λ b. found b (m.passed b) (as_fault broken) (says-faulty (begins b (m.passed b)) code' values' r broken q (d.is (begins b (m.passed b))));
    }

    module _ (n : ℕ) (scope : Scope) (q : r ≡ Ok (n, scope)) where
      abbrev used' : ℕ
      used' = scope.used

      went : (b : ParametersStand code₀ values₀ at) → ParameterGoes (begins b (m.passed b)) code' values' n used'
      went b = says-goes (begins b (m.passed b)) code' values' r n scope q (d.is (begins b (m.passed b)))

      n-is : ParametersStand code₀ values₀ at → n ≡ i + 2
      n-is b = (went b).next-is ∙ (first-left b (m.passed b)).one.after

      n-on : (b : ParametersStand code₀ values₀ at) → n ≤ b.to
      n-on b = omega (arith, first-end b (m.passed b), (went b).next-is)

      -- where word n is
      pub end-room : ParametersStand code₀ values₀ at → n * 8 + 8 ≤ length code
      end-room b = let r = (m.passed b).loaded.room in omega (arith, r, n-on b)

      pub behind-adds : ParametersStand code₀ values₀ at → Fits w64 (n + 1)
      behind-adds b = let l = (m.passed b).loaded.last in record { fits = omega (arith, l, n-on b) }

      end-near : ParametersStand code₀ values₀ at → n < word_limit
      end-near b = let l = (m.passed b).loaded.last in omega (arith, l, n-on b)

      pub parameters-fall : ParametersStand code₀ values₀ at → word_limit - (n + 1) < word_limit - i
      parameters-fall b = omega (arith, n-is b, end-near b)

      others-on : ParametersStand code₀ values₀ at → OtherWords (cells_of code₀) (cells_of code') at used'
      others-on b = record {
        is = λ k e. (went b).others.is k (λ j l y. e used (omega (arith, (went b).used-is)) (omega (arith, y, l, m.place))) ∙ m.others.is k (λ j l y. e j (omega (arith, l, (went b).used-is)) y);
      }

      module _ (s : ℕ) (s-is : s ≡ op_at (cells_of code') n) (long : length code' ≡ length code) where
        sort-end : (b : ParametersStand code₀ values₀ at) → sort_in b.W n ≡ s
        sort-end b =
            let p = m.passed b in
            sym (s-is ∙ ap op_in ((went b).others.is (n * 2) (λ j l e. omega (arith, e, l, n-is b))) ∙ (p.loaded.words n (omega (arith, n-is b)) (n-on b)).sort)

        pub parameters-done : (s ≡ comma → ⊥) → DeclaresParameters code₀ values₀ code' values' at (Ok (n, scope))
        unfolding SaysParameters
        parameters-done last = record {
          is = λ b. all b (m.passed b) code' values' n used' (went b) long m.place (λ e. last (sym (sort-end b) ∙ e)) (others-on b);
        }

        pub parameters-go : s ≡ comma → ParametersStand code₀ values₀ at → length values' ≡ length values → ParametersWalk code₀ values₀ at code' values' (n + 1) used'
        parameters-go is-comma b₀ long-values = record {
          long = long ∙ m.long;
          long-values = long-values ∙ m.long-values;
          passed = λ b. more b (m.passed b) code' values' n used' (went b) long m.place (sort-end b ∙ is-comma);
          place = omega (arith, n-is b₀, m.place, (went b₀).used-is);
          others = others-on b₀;
        }

-- ---- the scope
pub counting-few : (scope filled : Scope) → filled ≡ with_used (scope.used + 1) scope → scope.names ≡ scope.used → filled.names ≤ filled.used
counting-few scope filled e n = subst (λ (s : Scope). s.names ≤ s.used) (sym e) (omega (arith, n))

pub counting-fits : (scope filled : Scope) → filled ≡ with_used (scope.used + 1) scope → scope.used < routine_word_limit → scopes.Fits filled 0
counting-fits scope filled e h = subst (λ (s : Scope). scopes.Fits s 0) (sym e) (omega (arith, h))

abbrev opening : Scope → (used names : ℕ) → Scope
opening s used names = record { used = used; loops = s.loops; names = names; first = s.first; head = s.head }

pub parameter-opens : (scope filled counted : Scope) → filled ≡ with_used (scope.used + 1) scope → counted ≡ with_parameter filled → scope.names ≡ scope.used → Opened scope counted
parameter-opens scope filled counted e c n =
    let is : counted ≡ with_parameter (with_used (scope.used + 1) scope) = c ∙ ap with_parameter e in
    record { is = is ∙ ap (λ (k : ℕ). opening scope (scope.used + 1) (k + 1)) n ∙ ap (λ (k : ℕ). with_parameters k scope) (sym (ap (λ (s : Scope). s.used) is)) }

pub unopened-self : (scope : Scope) → Unopened scope → Opened scope scope
unopened-self scope u = record { is = ap (opening scope scope.used) (u.no_name ∙ sym u.no_word) }

pub opened-names : (entered scope : Scope) → Opened entered scope → scope.names ≡ scope.used
opened-names entered scope o = ap (λ (s : Scope). s.names) o.is

opens-on : (entered scope r : Scope) → Opened entered scope → Opened scope r → Opened entered r
opens-on entered scope r e f = record { is = f.is ∙ ap (with_parameters r.used) e.is }

pub opens-upto : (entered scope : Scope) (w : Walked) → Opened entered scope → Opens scope w → (next : ℕ) (r : Scope) → w ≡ Ok (next, r) → Opened entered r
opens-upto entered scope w e h next r q = opens-on entered scope r e (subst (Opens scope) q h)
