-- Routines by their numbers, and by the words that they begin with.
use mathlib.Core.Path.{◌≡◌, refl, sym, ap, ◌∙◌}
use mathlib.Core.List.{List, [], ◌∷◌}
use mathlib.Core.Option.{Option, none, some}
use Prim.Native.Nat.{ℕ, zero, suc, ◌+◌, ◌-◌, ◌<◌, ◌≤◌}
use native.Mathlib.Omega.{arith}
use lib.ListN.{length, get_or, drop}
use borrow.Author.Tests.{eq-eqb, ne_eqb}
use Rattle.laws.proofs.Tests.{by-same, apart}
use Rattle.paper.specs.Words.{Word}
use Rattle.paper.specs.Trees.{Routine, Module}
use Rattle.paper.specs.Declarations.{signature, signatures}
use Rattle.paper.specs.Checks.{no_signature}
use Rattle.code.specs.Steps.{Head, no_head, numbered}
use Rattle.grammar.specs.Form.{Parses, none-starts, one-starts, HeadAt, a-proc, a-func, RoutineAt, RoutinesAt}
use Rattle.grammar.proofs.Places.{routine-grows}
use Rattle.check_heads.specs.Trees.{word_of, head_for, heads_for}
use Rattle.check_heads.proofs.WordsInside.{expression-grows}

empty-some : {A B : Type 0} {a : A} {l : List A} → [] ≡ a ∷ l → B
empty-some e = apart (cc)

first-same : {A : Type 0} {a b : A} {l m : List A} → a ∷ l ≡ b ∷ m → a ≡ b
first-same e = cc

-- ---- what stands at a number
module _ {A : Type 0} where
  pub drop-next : (l : List A) (k : ℕ) (a : A) (r : List A) → drop k l ≡ a ∷ r → drop (suc k) l ≡ r
  drop-next [] zero a r e = empty-some e
  drop-next [] (suc k) a r e = empty-some e
  drop-next (b ∷ l) zero a r e = cc
  drop-next (b ∷ l) (suc k) a r e = drop-next l k a r e

  pub drop-less : (l : List A) (k : ℕ) (a : A) (r : List A) → drop k l ≡ a ∷ r → k < length l
  drop-less [] zero a r e = empty-some e
  drop-less [] (suc k) a r e = empty-some e
  drop-less (b ∷ l) zero a r e = omega arith
  drop-less (b ∷ l) (suc k) a r e = omega (arith, drop-less l k a r e)

  pub drop_all : (l : List A) (k : ℕ) → drop k l ≡ [] → length l ≤ k
  drop_all [] k e = omega arith
  drop_all (b ∷ l) zero e = empty-some (sym e)
  drop_all (b ∷ l) (suc k) e = omega (arith, drop_all l k e)

pub heads-length : (rs : List Routine) → length (heads_for rs) ≡ length rs
unfolding heads_for
heads-length [] = refl
heads-length (r ∷ rs) = ap suc (heads-length rs)

pub head-at : (rs : List Routine) (k : ℕ) (r : Routine) (rest : List Routine) → drop k rs ≡ r ∷ rest → get_or (heads_for rs) k no_head ≡ head_for r
unfolding heads_for
head-at [] zero r rest e = empty-some e
head-at [] (suc k) r rest e = empty-some e
head-at (a ∷ rs) zero r rest e = ap head_for (first-same e)
head-at (a ∷ rs) (suc k) r rest e = head-at rs k r rest e

module _ (W : List Word) (m : Module) where
  pub signatures-length : (j : ℕ) (rs : List Routine) → length (signatures W m j rs) ≡ length rs
  unfolding signatures
  signatures-length j [] = refl
  signatures-length j (r ∷ rs) = ap suc (signatures-length (suc j) rs)

  signature-from : (j : ℕ) (rs : List Routine) (k : ℕ) (r : Routine) (rest : List Routine) → drop k rs ≡ r ∷ rest → get_or (signatures W m j rs) k no_signature ≡ signature W m (j + k) r
  unfolding signatures
  signature-from j [] zero r rest e = empty-some e
  signature-from j [] (suc k) r rest e = empty-some e
  signature-from j (a ∷ rs) zero r rest e = let z : j + 0 ≡ j = omega arith in rw z (ap (signature W m j) (first-same e))
  signature-from j (a ∷ rs) (suc k) r rest e = let z : j + suc k ≡ suc j + k = omega arith in rw z (signature-from (suc j) rs k r rest e)

  pub signature_at : (rs : List Routine) (k : ℕ) (r : Routine) (rest : List Routine) → drop k rs ≡ r ∷ rest → get_or (signatures W m 0 rs) k no_signature ≡ signature W m k r
  signature_at rs k r rest e = let z : 0 + k ≡ k = omega arith in signature-from 0 rs k r rest e ∙ ap (λ (q : ℕ). signature W m q r) z

-- ---- words
module _ (W : ℕ → ℕ) where
  head-word : {result : Option ℕ} {closing at name : ℕ} → HeadAt W (Parses W) result closing at name → (elim result [ none ↦ name - 1 | some t ↦ name - 2 ]) ≡ at
  head-word (a-proc p n c) = omega arith
  head-word (a-func p t k n c) = omega arith

  pub word_at : (r : Routine) (at to : ℕ) → RoutineAt W (Parses W) r at to → word_of r ≡ at
  unfolding word_of
  word_at r at to h = head-word h.head

  later-word : {rs : List Routine} {at to : ℕ} → RoutinesAt W (Parses W) rs at to → (k : ℕ) (r : Routine) (rest : List Routine) → drop k rs ≡ r ∷ rest → at ≤ word_of r
  later-word (none-starts s e) zero r rest q = empty-some q
  later-word (none-starts s e) (suc k) r rest q = empty-some q
  later-word (one-starts {a = a} {at = at} {n = n} s one h) zero r rest q = omega (arith, word_at a at n one, ap word_of (first-same q))
  later-word (one-starts {a = a} {at = at} {n = n} s one h) (suc k) r rest q = omega (arith, routine-grows W (Parses W) (expression-grows W) a at n one, later-word h k r rest q)

  -- each routine has the number of the word that it begins with
  pub numbered-at : {rs : List Routine} {at to : ℕ} → RoutinesAt W (Parses W) rs at to → (k : ℕ) (r : Routine) (rest : List Routine) → drop k rs ≡ r ∷ rest → numbered (heads_for rs) (word_of r) ≡ k
  unfolding numbered heads_for head_for
  numbered-at (none-starts s e) zero r rest q = empty-some q
  numbered-at (none-starts s e) (suc k) r rest q = empty-some q
  numbered-at (one-starts {a = a} {at = at} {n = n} s one h) zero r rest q = rw (eq-eqb (word_of a) (word_of r) (ap word_of (first-same q)), numbered)
  numbered-at (one-starts {a = a} {at = at} {n = n} s one h) (suc k) r rest q =
      rw (ne_eqb (word_of a) (word_of r) (λ e. omega (arith, word_at a at n one, routine-grows W (Parses W) (expression-grows W) a at n one, later-word h k r rest q)), numbered)
      (ap suc (numbered-at h k r rest q))

-- the word with a number
pub numbered-back : (R : List Head) (k w : ℕ) → k < length R → numbered R w ≡ k → (get_or R k no_head).word ≡ w
unfolding numbered
numbered-back [] k w h e = absurd (omega arith)
numbered-back (r ∷ R) zero w h e = by-same r.word w (λ q. q) (λ d. absurd (omega (arith, rw (ne_eqb r.word w d, numbered) at e)))
numbered-back (r ∷ R) (suc k) w h e =
    by-same r.word w (λ q. absurd (omega (arith, rw (eq-eqb r.word w q, numbered) at e))) (λ d. numbered-back R k w (omega arith) (less (rw (ne_eqb r.word w d, numbered) at e)))
  where
    less : suc (numbered R w) ≡ suc k → numbered R w ≡ k
    less z = omega arith
