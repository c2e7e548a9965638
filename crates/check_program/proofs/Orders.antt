-- Where the parts of a routine lie, and what is known of its optional lists.
use mathlib.Core.Path.{◌≡◌, refl, sym}
use mathlib.Core.List.{List}
use mathlib.Core.Option.{Option, none, some}
use Prim.Native.Nat.{ℕ, ◌+◌, ◌<◌, ◌≤◌}
use native.Mathlib.Omega.{arith}
use Rattle.code.proofs.Options.{none-some, same_some}
use Rattle.paper.specs.Words.{Word}
use Rattle.paper.specs.Terms.{Memory}
use Rattle.paper.specs.Trees.{Expr, RoutineList, Routine, Module}
use Rattle.paper.specs.Names.{Scopes, sort_in}
use Rattle.paper.specs.Checks.{WhichList}
use Rattle.paper.specs.Steps.{Action, Step, list_steps, optional_steps}
use Rattle.code.specs.Closed.{Every, done}
use Rattle.grammar.specs.Form.{Parses, RoutineListAt, ListBehindAt, a-list, RoutineAt}
use Rattle.grammar.proofs.Places.{parameters-grow, declarations-grow, list-grows, behind-grows, head-grows}
use Rattle.faults.proofs.Expressions.{grows}
use Rattle.check_links.specs.Raw.{Ground}
use Rattle.check_program.specs.Routines.{RawBehind, RawOptional}

-- ---- order
pub record Lies (W : List Word) {r : Routine} {at to : ℕ} (f : RoutineAt (sort_in W) (Parses (sort_in W)) r at to) : Type 0 where
  pub name : at < r.name
  pub opens : r.name + 1 < f.begin
  pub body : f.begin ≤ r.body.closes
  pub handler : r.body.closes ≤ f.undo_at
  pub end : f.undo_at ≤ f.end
  pub after : to ≡ f.end + 1

pub lies : (W : List Word) {r : Routine} {at to : ℕ} (f : RoutineAt (sort_in W) (Parses (sort_in W)) r at to) → Lies W f
lies W f = record {
  name = head-grows (sort_in W) (Parses (sort_in W)) (grows W) f.head;
  opens = omega (arith, parameters-grow (sort_in W) (Parses (sort_in W)) (grows W) f.parameters, declarations-grow (sort_in W) (Parses (sort_in W)) (grows W) f.declared);
  body = list-grows (sort_in W) (Parses (sort_in W)) (grows W) f.body.statements;
  handler = behind-grows (sort_in W) (Parses (sort_in W)) (grows W) f.handler;
  end = behind-grows (sort_in W) (Parses (sort_in W)) (grows W) f.undo;
  after = f.after;
}

-- ---- a list behind another, that is there
pub behind-form : (W : ℕ → ℕ) (E : (d at : ℕ) → Expr → (to : ℕ) → Type 0) {sort : ℕ} (o : Option RoutineList) (at to : ℕ) (l : RoutineList) → o ≡ some l → ListBehindAt W E sort o at to → RoutineListAt W E l (at + 1) to
behind-form W E none at to l e x = none-some l e
behind-form W E (some k) at to l e (a-list c h) = rw (sym (same_some k l e)) h

pub behind-raw : (g : Ground) (C : List ℕ) (m : Module) (r : Routine) (which : WhichList) (o : Option RoutineList) (used closes leads : ℕ) (l : RoutineList) → o ≡ some l
    → RawOptional g C m r which o used closes leads → RawBehind g C m r which l used closes leads
unfolding RawOptional
behind-raw g C m r which none used closes leads l e x = none-some l e
behind-raw g C m r which (some k) used closes leads l e x = rw (sym (same_some k l e)) x

-- what holds of the steps of a list holds of those of one that may be there or not
pub optional-every : (A : Step → Type 0) (W : List Word) (end : Action) (M : Memory) (S : Scopes) (n : ℕ) (o : Option RoutineList)
    → ((l : RoutineList) → o ≡ some l → Every A (list_steps W end M S n l)) → Every A (optional_steps W end M S n o)
unfolding optional_steps
optional-every A W end M S n none f = done
optional-every A W end M S n (some l) f = f l refl
