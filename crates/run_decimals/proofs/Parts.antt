-- A part that was lent on, from a place to the end, and written at its front.
use mathlib.Core.Path.{◌≡◌, sym, ap, ◌∙◌}
use mathlib.Core.Bool.{true, false}
use mathlib.Core.List.{List, [], ◌∷◌, ◌++◌, append_assoc, append-nil}
use Prim.Native.Nat.{ℕ, suc, ◌+◌, ◌-◌, ◌≤◌, ◌<◌}
use native.Mathlib.Omega.{arith}
use lib.ListN.{length, take, drop, set}
use lib.Seq.{drop-drop, drop-length}
use lib.IntN.{ℤ}
use mir.Syntax.{w64}
use mir.Val.{SFits}
use mir.Facts.{to_z-of_z}
use borrow.Author.Tests.{le-leb, lt-leb}
use borrow.Rule.Slice.PartMut.{mid_of, post_of, put_mid, Post-is}
use Rattle.std.specs.Prelude.{Some, None}
use Rattle.laws.specs.Lists.{replaced}
use Rattle.laws.proofs.Lists.{part-rest}
use Rattle.paper.specs.Numbers.{decimal}
use Rattle.store_numbers.proofs.Whole.{read}
use Rattle.run_decimals.specs.Placed.{fit, answer, placed, Puts}

-- the part from a on has s at its front then
pub put_front : (l s : List ℕ) (a n : ℕ) → a ≤ length l → put_mid a (length l - a) l (s ++ drop n (mid_of a (length l - a) l)) ≡ replaced l a s n
put_front l s a n h =
    let m : mid_of a (length l - a) l ≡ drop a l = part-rest l a in
    let p : post_of a (length l - a) l ≡ [] = Post-is a (length l) l h ∙ drop-length l in
    rw (m, p, drop-drop, append-nil) (sym (append_assoc (take a l) s (drop (a + n) l)))

-- a sign, and then s at the front of the part behind it
pub signed : (l s ys : List ℕ) (c : ℕ) → 1 ≤ c → c ≤ length l
    → ys ≡ s ++ drop (c - 1) (mid_of 1 (length (set l 0 45) - 1) (set l 0 45))
    → put_mid 1 (length (set l 0 45) - 1) (set l 0 45) ys ≡ 45 ∷ (s ++ drop c l)
signed [] s ys c h g e = absurd (omega arith)
signed (x ∷ l) s ys c h g e =
    let q : 1 + (c - 1) ≡ suc (c - 1) = omega arith in
    let d : c ≡ suc (c - 1) = omega arith in
    ap (put_mid 1 (length (45 ∷ l) - 1) (45 ∷ l)) e
    ∙ put_front (45 ∷ l) s 1 (c - 1) (omega arith)
    ∙ rw q (sym (ap (λ (k : ℕ). 45 ∷ (s ++ drop k (x ∷ l))) d))

-- the n bytes s were put, or do not fit
module _ (before : List ℕ) (at n : ℕ) (s : List ℕ) (e : n ≡ length s) where
  pub puts-done : at ≤ length before → n ≤ length before - at → (ys : List ℕ) → ys ≡ s ++ drop n (mid_of at (length before - at) before)
      → Puts before (put_mid at (length before - at) before ys) at s (Some (at + n))
  unfolding answer placed
  puts-done h g ys d =
      let t : fit before at s ≡ true = le-leb (at + length s) (length before) (omega arith) in
      record {
        result = rw (t, answer) (ap (λ (k : ℕ). Some (at + k)) e);
        bytes = ap (put_mid at (length before - at) before) d ∙ put_front before s at n h ∙ rw (t, placed) (rw e);
      }

  pub puts_none : length before < at + n → Puts before before at s None
  unfolding answer placed
  puts_none h =
      let t : fit before at s ≡ false = lt-leb (at + length s) (length before) (omega arith) in
      record { result = rw (t, answer); bytes = rw (t, placed) }

-- the same of a number, as the code reads it
module _ (before : List ℕ) (at n : ℕ) (z : ℤ) (f : SFits w64 z) (e : n ≡ length (decimal (read z))) where
  count : n ≡ length (decimal z)
  count = rw (to_z-of_z f) at e

  pub number-done : at ≤ length before → n ≤ length before - at → (ys : List ℕ) → ys ≡ decimal (read z) ++ drop n (mid_of at (length before - at) before)
      → Puts before (put_mid at (length before - at) before ys) at (decimal z) (Some (at + n))
  number-done h g ys d = puts-done before at n (decimal z) count h g ys (rw (to_z-of_z f) at d)

  pub number_past : length before < at → Puts before before at (decimal z) None
  number_past h = puts_none before at n (decimal z) count (omega arith)

  pub number_short : at ≤ length before → length before - at < n → Puts before before at (decimal z) None
  number_short h g = puts_none before at n (decimal z) count (omega arith)
