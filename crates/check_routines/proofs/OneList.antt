-- A list of a routine: what its walk asks, and what it leaves.
use Rattle.check_names.specs.Promises.{number_limit}
use mathlib.Core.Path.{◌≡◌, refl, sym, ap, subst, ◌∙◌}
use mathlib.Core.List.{List}
use mathlib.Core.Option.{Option, none, some}
use Prim.Native.Nat.{ℕ, ◌+◌, ◌*◌, ◌%◌, ◌≤◌}
use native.Mathlib.Omega.{arith}
use lib.ListN.{length}
use Rattle.paper.specs.Words.{Word}
use Rattle.paper.specs.Trees.{RoutineList, Routine, Module}
use Rattle.paper.specs.Names.{sort_in}
use Rattle.paper.specs.Expressions.{nestings}
use Rattle.paper.specs.Declarations.{result_asked, routine_scopes, signatures}
use Rattle.paper.specs.Checks.{WhichList, is_some, setting_in, fors_in_list, list_faults}
use Rattle.store_cells.specs.Cells.{cells_of}
use Rattle.code.specs.Cells.{op_in, value_in, place_in, head_at, op_at, place_at}
use Rattle.store_evaluation.specs.Answers.{call_slots}
use Rattle.grammar.specs.Form.{Parses, RoutineListAt}
use Rattle.faults.specs.Parts.{memory_of}
use Rattle.check_links.specs.Raw.{Ground, SameWords, RawList, end_of}
use Rattle.check_links.proofs.Framing.{list-frame}
use Rattle.check_around.specs.declared.Setting.{Setting}
use Rattle.check_around.specs.Around.{ResultIs, Tells}
use Rattle.check_compounds.specs.Here.{Outside}
use Rattle.check_statements.specs.Answers.{Lists, Listed, Answer}
use Rattle.check_program.specs.Routines.{words_in_all, ground_for, RawLines}
use Rattle.check_routines.specs.Answers.{ground_of}
use Rattle.check_routines.specs.Parts.{Inside, Onward, ground_in, data_slots}
use Rattle.check_routines.proofs.KnownInside.{around, here, ground-is}
use Rattle.layout.specs.Types.{given_back}
use Rattle.layout.specs.declared.types.ValueType.{ValueType}
use Rattle.std.specs.Prelude as core
use Rattle.std.specs.Prelude.{Some, None}
use Rattle.check_names.specs.Scopes.{Walked}

-- ---- cells outside
pub outside-on : {C D E : List ℕ} {a b x y p q : ℕ} → p ≤ a → p ≤ x → b ≤ q → y ≤ q → Outside C D a b → Outside D E x y → Outside C E p q
outside-on g h i j s t = record { below = λ k z. t.below k (omega arith) ∙ s.below k (omega arith); above = λ k z. t.above k (omega arith) ∙ s.above k (omega arith) }

-- ---- the result
kind-asked : (W : List Word) (k : ℕ) (o : Option ℕ) → is_some (result_asked W k o) ≡ is_some o
unfolding is_some result_asked
kind-asked W k none = refl
kind-asked W k (some t) = refl

given-some : (result : core.Option ValueType) → core.is_some result ≡ is_some (given_back result)
unfolding is_some
given-some None = refl
given-some (Some type) = refl

-- the flag that the code computes: none is a PROC's
pub function-flag : (result : core.Option ValueType) (o : Option ℕ) (W : List Word) (k : ℕ) → ResultIs (result_asked W k o) result → core.is_some result ≡ is_some o
function-flag result o W k e = given-some result ∙ sym (ap is_some e.is) ∙ kind-asked W k o

module _ {text values : List ℕ} {k h : ℕ} (s : Inside text values k h) where
  abbrev W : List Word
  W = s.stands.W

  abbrev m : Module
  m = s.stands.m

  abbrev r : Routine
  r = s.stands.r

  -- ---- going on
  pub onward-on : (code code' : List ℕ) (at from : ℕ) → Onward s code at → at ≤ from → from ≤ s.stands.form.end + 1 → Outside (cells_of code) (cells_of code') at from → length code' ≡ length code
      → Onward s code' from
  onward-on code code' at from o a b q long = record {
    unread = record {
      loaded = record {
        words = λ i x y. let z = o.unread.loaded.words i (omega arith) y in
            let e : head_at (cells_of code') i ≡ head_at (cells_of code) i = q.above (i * 2) (omega arith) in
            record { sort = ap op_in e ∙ z.sort; value = λ n. ap value_in e ∙ z.value n; number = λ n. ap (λ (w : ℕ). value_in w % number_limit) e ∙ z.number n };
        last = o.unread.loaded.last;
        room = omega (arith, o.unread.loaded.room);
        whole = ap (λ (x : ℕ). x % 8) long ∙ o.unread.loaded.whole;
      };
      strings = λ i x y z. ap value_in (q.above (i * 2) (omega arith)) ∙ o.unread.strings i (omega arith) y z;
      places = λ i x y. ap place_in (q.above (i * 2 + 1) (omega arith)) ∙ o.unread.places i (omega arith) y;
    };
    calls = λ D x. o.calls D (record {
      below = λ i y. x.below i (omega arith) ∙ q.below (i * 2) (omega arith);
      above = λ i y. x.above i (omega arith) ∙ q.above (i * 2) (omega arith);
    });
    room = omega (arith, o.room);
  }

  -- ---- a list
  pub list-stands : (l : WhichList) (rl : RoutineList) (code : List ℕ) (at to used : ℕ) (g : Setting) → Onward s code at → Tells g (setting_in W (signatures W m 0 m.routines) k r l)
      → RoutineListAt (sort_in W) (Parses (sort_in W)) rl at to → to ≤ s.stands.form.end → data_slots s ≤ used → used ≤ call_slots → used + fors_in_list rl.statements ≤ words_in_all (ground_in s) m r
      → Lists text code values g used at
  unfolding around ground_of
  list-stands l rl code at to used g o t f e many few room = record {
    to = to;
    around = around s l;
    here = here s l code at at to used o g t (omega arith) e many few;
    d = nestings;
    l = rl.statements;
    is = f.statements;
    room = room;
  }

  -- its answer, in the paper's words
  pub list-answered : (l : WhichList) (rl : RoutineList) (code : List ℕ) (at to used : ℕ) (g : Setting) → Onward s code at → Tells g (setting_in W (signatures W m 0 m.routines) k r l)
      → RoutineListAt (sort_in W) (Parses (sort_in W)) rl at to → to ≤ s.stands.form.end → data_slots s ≤ used → used ≤ call_slots → used + fors_in_list rl.statements ≤ words_in_all (ground_in s) m r
      → (after values' : List ℕ) (x : Walked) → Listed text code values after values' g used at x
      → Answer (list_faults W (setting_in W (signatures W m 0 m.routines) k r l) (memory_of W m r) rl.statements (routine_scopes W m r) used) code after values values' at to (used + fors_in_list rl.statements)
      (RawList (ground_for (ground_in s) m r) (words_in_all (ground_in s) m r) (cells_of after) rl.statements (routine_scopes W m r) used at to) x
  unfolding list-stands around
  list-answered l rl code at to used g o t f e many few room after values' x y =
      subst (λ (q : Ground). Answer (list_faults W (setting_in W (signatures W m 0 m.routines) k r l) (memory_of W m r) rl.statements (routine_scopes W m r) used) code after values values' at to
      (used + fors_in_list rl.statements) (RawList q (words_in_all (ground_in s) m r) (cells_of after) rl.statements (routine_scopes W m r) used at to) x) (ground-is s l)
      (y.is (list-stands l rl code at to used g o t f e many few room))

-- what is written of a list stays, and the word that closes it is its end
pub lines_of : (g : Ground) (C D : List ℕ) (m : Module) (r : Routine) (which : WhichList) (l : RoutineList) (used at : ℕ) → RawList (ground_for g m r) (words_in_all g m r) C l.statements (routine_scopes g.W m r) used at l.closes
    → SameWords C D at l.closes → op_at D l.closes ≡ end_of which (is_some r.result) → place_at D l.closes ≡ g.offset l.closes → RawLines g D m r which l used at
unfolding ground_for
lines_of g C D m r which l used at x same op place = record {
  list = list-frame (ground_for g m r) (words_in_all g m r) (words_in_all g m r) (omega arith) C D at l.closes same l.statements (routine_scopes g.W m r) used at l.closes (omega arith) (omega arith) x;
  op = op;
  place = place;
}
