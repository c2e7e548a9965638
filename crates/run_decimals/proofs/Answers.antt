-- What a caller knows by the answer, and that a promise allows one outcome alone.
use mathlib.Core.Path.{◌≡◌, sym, ◌∙◌}
use mathlib.Core.List.{List}
use Prim.Native.Nat.{ℕ, ◌+◌, ◌≤◌, ◌<◌}
use lib.IntN.{ℤ}
use lib.ListN.{length}
use borrow.Author.Tests.{leb-true, leb-false}
use Rattle.std.specs.Prelude.{Option, Some, None}
use Rattle.laws.specs.Lists.{replaced}
use Rattle.laws.proofs.Tests.{test, apart}
use Rattle.paper.specs.Numbers.{decimal}
use Rattle.run_decimals.specs.Placed.{fit, answer, placed, Puts, Takes, PutsNumber}

-- it fitted: the next place, and every byte
pub record Whole (before after : List ℕ) (at : ℕ) (s : List ℕ) (next : ℕ) : Type 0 where
  pub room : at + length s ≤ length before
  pub place : next ≡ at + length s
  pub bytes : after ≡ replaced before at s (length s)

-- it did not: nothing is touched
pub record Lacks (before after : List ℕ) (at : ℕ) (s : List ℕ) : Type 0 where
  pub lack : length before < at + length s
  pub bytes : after ≡ before

module _ (before after : List ℕ) (at : ℕ) (s : List ℕ) where
  pub was-done : (next : ℕ) → Puts before after at s (Some next) → Whole before after at s next
  unfolding answer placed
  was-done next p = test (fit before at s)
      (λ e. record {
        room = leb-true (at + length s) (length before) e;
        place = let q : Some next ≡ Some (at + length s) = p.result ∙ rw (e, answer) in cc;
        bytes = p.bytes ∙ rw (e, placed);
      })
      (λ e. let q : Some next ≡ None = p.result ∙ rw (e, answer) in apart (cc))

  pub had-none : Puts before after at s None → Lacks before after at s
  unfolding answer placed
  had-none p = test (fit before at s)
      (λ e. let q : None ≡ Some (at + length s) = p.result ∙ rw (e, answer) in apart (cc))
      (λ e. record { lack = leb-false (at + length s) (length before) e; bytes = p.bytes ∙ rw (e, placed) })

pub put-unique : (before a b : List ℕ) (at : ℕ) (s : List ℕ) (m n : Option ℕ) → Puts before a at s m → Puts before b at s n → (a ≡ b) × (m ≡ n)
put-unique before a b at s m n p q = (p.bytes ∙ sym q.bytes, p.result ∙ sym q.result)

pub put-number-unique : (before a b : List ℕ) (at : ℕ) (z : ℤ) (m n : Option ℕ) → PutsNumber before a at z m → PutsNumber before b at z n → (a ≡ b) × (m ≡ n)
put-number-unique before a b at z m n p q = put-unique before a b at (decimal z) m n p q

pub length-unique : (z : ℤ) (m n : ℕ) → Takes z m → Takes z n → m ≡ n
length-unique z m n p q = p ∙ sym q
