-- Answers of the check: the word after a piece, or its first fault. Whatever faults the paper finds in the piece, they allow one answer.
use Rattle.std.specs.Prelude.{Ok, Err}
use mathlib.Core.Path.{◌≡◌, sym, ap, ap₂, ◌∙◌}
use mathlib.Core.List.{List, [], ◌∷◌}
use mathlib.Core.Option.{none, some}
use Prim.Native.Nat.{ℕ, ◌*◌, ◌<◌, ◌≤◌}
use lib.ListN.{length, get_or, take, drop}
use Rattle.laws.proofs.Tests.{apart}
use Rattle.paper.specs.Types.{Fault}
use Rattle.code.specs.Cells.{link_at}
use Rattle.layout.specs.Broken.{as_fault}
use Rattle.layout.specs.declared.rules.Breach.{Breach}
use Rattle.faults.specs.First.{First}
use Rattle.faults.proofs.First.{least-none, least_first}
use Rattle.store_writing.specs.Promises.{Kept}
use Rattle.store_writing.specs.Chains.{Leads, last_of, Chain}
use Rattle.check_names.specs.declared.Scope.{Scope}
use Rattle.check_names.specs.Scopes.{Walked}
use Rattle.check_expressions.proofs.Unique.{same_breaches}
use Rattle.check_sites.specs.Walks.{Changed}
use Rattle.check_around.specs.Answers.{Stepped, Tell, Answer}

-- ---- the first fault
module _ (fs : List Fault) where
  pub first-unique : (f g : Fault) → First f fs → First g fs → f ≡ g
  first-unique f g p q = let e : some f ≡ some g = sym (least_first f fs p) ∙ least_first g fs q in cc

  pub no-first : {A : Type 0} (f : Fault) → fs ≡ [] → First f fs → A
  no-first f e p = let z : none ≡ some f = sym (least-none fs e) ∙ least_first f fs p in apart (cc)

  -- rule and word
  pub same_answer : (f g : Breach) → First (as_fault f) fs → First (as_fault g) fs → f ≡ g
  same_answer f g p q = same_breaches f g (first-unique (as_fault f) (as_fault g) p q)

-- ---- a walk that fills a scope
-- From a piece with these faults it comes to the word `to`, with this scope.
unfoldable pub Comes : (fs : List Fault) (to : ℕ) (end : Scope) → Walked → Type 0
Comes fs to end (Ok (next, scope)) = (fs ≡ []) × (next ≡ to) × (scope ≡ end)
Comes fs to end (Err broken) = First (as_fault broken) fs

pub walk-unique : (fs : List Fault) (to : ℕ) (end : Scope) (r s : Walked) → Comes fs to end r → Comes fs to end s → r ≡ s
unfolding Comes
walk-unique fs to end (Ok (a, x)) (Ok (b, y)) p q = ap₂ (λ (next : ℕ) (scope : Scope). Ok (next, scope)) (p.1 ∙ sym q.1) (p.2 ∙ sym q.2)
walk-unique fs to end (Ok (a, x)) (Err g) p q = no-first fs (as_fault g) p.0 q
walk-unique fs to end (Err f) (Ok (b, y)) p q = no-first fs (as_fault f) q.0 p
walk-unique fs to end (Err f) (Err g) p q = ap Err (same_answer fs f g p q)

-- where it comes so far, something holds of the stores
pub record SameWalk (r s : Walked) (holds : Type 0) : Type 0 where
  pub answer : r ≡ s
  pub stores : (next : ℕ) (scope : Scope) → r ≡ Ok (next, scope) → holds

-- ---- the code store outside of a piece
-- Two stores that differ at most in the words from `from` up to `to`.
pub record SameOutside (a b : List ℕ) (from to : ℕ) : Type 0 where
  pub below : take (from * 8) a ≡ take (from * 8) b
  pub above : drop (to * 8) a ≡ drop (to * 8) b
  pub long : length a ≡ length b

pub kept-unique : (before a b : List ℕ) (from to : ℕ) → Kept before a from to → Kept before b from to → SameOutside a b from to
kept-unique before a b from to p q = record {
  below = p.below ∙ sym q.below;
  above = p.above ∙ sym q.above;
  long = p.long ∙ sym q.long;
}

-- the same by cells
pub record SameOthers (C D : List ℕ) (from to : ℕ) : Type 0 where
  pub below : (k : ℕ) → k < from * 2 → get_or C k 0 ≡ get_or D k 0
  pub above : (k : ℕ) → to * 2 ≤ k → get_or C k 0 ≡ get_or D k 0

pub changed-unique : (before C D : List ℕ) (from to : ℕ) → Changed before C from to → Changed before D from to → SameOthers C D from to
changed-unique before C D from to p q = record { below = λ k h. p.below k h ∙ sym (q.below k h); above = λ k h. p.above k h ∙ sym (q.above k h) }

-- and in one cell before them, of which something else is said
pub record SameBut (C D : List ℕ) (cell from to : ℕ) : Type 0 where
  pub below : (k : ℕ) → k < from * 2 → (k ≡ cell → ⊥) → get_or C k 0 ≡ get_or D k 0
  pub above : (k : ℕ) → to * 2 ≤ k → get_or C k 0 ≡ get_or D k 0

-- a chain says where its first word leads
pub first-link : (C D : List ℕ) (b : ℕ) (ds : List ℕ) (end : ℕ) → Chain C b ds end → Chain D b ds end → link_at C b ≡ link_at D b
unfolding Leads last_of
first-link C D b [] end p q = p.ends ∙ sym q.ends
first-link C D b (x ∷ ds) end p q = p.leads.0 ∙ sym q.leads.0

-- ---- a piece of a routine
-- Answers that say the same: the next word and, by the two stores, what is written nowhere else; or the same rule and word.
unfoldable pub SaySame : (c d : List ℕ) (at to : ℕ) → Stepped → Stepped → Type 0
SaySame c d at to (Ok next) (Ok other) = (next ≡ other) × SameOutside c d at to
SaySame c d at to (Ok next) (Err g) = ⊥
SaySame c d at to (Err f) (Ok other) = ⊥
SaySame c d at to (Err f) (Err g) = f ≡ g

module _ (fs : List Fault) (code c d : List ℕ) (at to : ℕ) (X Y : Type 0) where
  tell-unique : (r s : Stepped) → Tell fs code c at to X r → Tell fs code d at to Y s → SaySame c d at to r s
  unfolding Tell SaySame
  tell-unique (Ok a) (Ok b) p q = (p.next-is ∙ sym q.next-is, kept-unique code c d at to p.kept q.kept)
  tell-unique (Ok a) (Err g) p q = no-first fs (as_fault g) p.none q
  tell-unique (Err f) (Ok b) p q = no-first fs (as_fault f) q.none p
  tell-unique (Err f) (Err g) p q = same_answer fs f g p q

  pub answer-unique : (r s : Stepped) → Answer fs code c at to X r → Answer fs code d at to Y s → SaySame c d at to r s
  answer-unique r s p q = tell-unique r s p.tells q.tells
