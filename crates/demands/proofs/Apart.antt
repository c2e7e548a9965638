-- The steps of an UNDO list are named by words behind its word UNDO, those of the other lists by words up to it: no name is in both.
use mathlib.Core.Path.{◌≡◌}
use mathlib.Core.Bool.{Bool}
use mathlib.Core.List.{List, [], ◌∷◌}
use mathlib.Core.Option.{Option}
use Prim.Native.Nat.{ℕ, ◌+◌, ◌≤◌, ◌<◌}
use native.Mathlib.Omega.{arith}
use Rattle.paper.specs.Words.{Word}
use Rattle.paper.specs.Terms.{Memory}
use Rattle.paper.specs.Trees.{Expr, RoutineList, Routine, Module}
use Rattle.paper.specs.Expressions.{got}
use Rattle.paper.specs.Form.{formed}
use Rattle.paper.specs.Names.{sort_in, Scopes}
use Rattle.paper.specs.Steps.{Action, Step, optional_steps}
use Rattle.grammar.specs.Form.{RepeatedAt, none-starts, one-starts, ListBehindAt, no-list, a-list, RoutineAt}
use Rattle.grammar.specs.Grammar.{Derives}
use Rattle.grammar.specs.Places.{Within, no-step-left, one-step}
use Rattle.grammar.proofs.Grammar.{sound}
use Rattle.grammar.proofs.Levels.{disjunction-grows}
use Rattle.grammar.proofs.Places.{behind-grows, routine-list-within}
use Rattle.demands.proofs.Alls.{◌and◌}
use Rattle.demands.proofs.Tables.{Known}
use Rattle.demands.specs.Vocabulary.{All, nothing, ◌also◌, here, there}
use Rattle.demands.specs.Aborts.{own_steps, undo_steps}

-- Each of these steps is named by a word from a on and before b.
abbrev Between : (a b : ℕ) → List Step → Type 0
Between a b l = All (λ s. (a ≤ s.name) × (s.name < b)) l

between : {a b : ℕ} {l : List Step} → Within a b l → Between a b l
between no-step-left = nothing
between (one-step low high r) = (low, high) also between r

named-between : {a b i : ℕ} (l : List Step) → Between a b l → Known l i → (a ≤ i) × (i < b)
named-between [] h m = elim m [ ]
named-between (s ∷ l) (h also r) here = h
named-between (s ∷ l) (h also r) (there k) = named-between l r k

all-repeated : {A : Type 0} (W : ℕ → ℕ) (starts : ℕ → Bool) (One : A → (at to : ℕ) → Type 0) (Q : A → Type 0) → ((a : A) (at to : ℕ) → One a at to → Q a)
    → {l : List A} {at to : ℕ} → RepeatedAt W starts One l at to → All Q l
all-repeated W starts One Q f (none-starts s e) = nothing
all-repeated W starts One Q f (one-starts s k r) = f _ _ _ k also all-repeated W starts One Q f r

module _ (W : List Word) (m : Module) where
  abbrev words : ℕ → ℕ
  words = sort_in W

  grows : (d at : ℕ) (e : Expr) (to : ℕ) → Derives words d at e to → at < to
  grows d at e to h = disjunction-grows words h.derived

  optional-between : {sort : ℕ} {o : Option RoutineList} {at to : ℕ} (a b : ℕ) → ListBehindAt words (Derives words) sort o at to → a ≤ at + 1 → to < b
      → (end : Action) (M : Memory) (S : Scopes) (n : ℕ) → Between a b (optional_steps W end M S n o)
  unfolding optional_steps
  optional-between a b (no-list f e) low high end M S n = nothing
  optional-between a b (a-list c k) low high end M S n = between (routine-list-within words (Derives words) grows W M a b k low high end S n)

  lists-apart : (r : Routine) (at to : ℕ) → RoutineAt words (Derives words) r at to → (i : ℕ) → Known (own_steps W m r) i → Known (undo_steps W m r) i → ⊥
  unfolding own_steps undo_steps
  lists-apart r at to h i k u =
      let before = behind-grows words (Derives words) grows h.handler in
      let own = named-between _
      (between (routine-list-within words (Derives words) grows W _ 0 (h.undo_at + 1) h.body (omega arith) (omega (arith, before)) _ _ _)
      and optional-between 0 (h.undo_at + 1) h.handler (omega arith) (omega arith) _ _ _ _) k in
      let undo = named-between _ (optional-between (h.undo_at + 1) (h.end + 1) h.undo (omega arith) (omega arith) _ _ _ _) u in
      omega (arith, own, undo)

  pub all_apart : formed words ≡ got m → All (λ r. (i : ℕ) → Known (own_steps W m r) i → Known (undo_steps W m r) i → ⊥) m.routines
  all_apart e = all-repeated words _ (RoutineAt words (Derives words)) _ lists-apart (sound words m e).form.routines
