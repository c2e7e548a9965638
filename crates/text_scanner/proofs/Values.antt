-- Numbers: values above the largest may be any.
use mathlib.Core.Path.{◌≡◌, refl, sym, ap, ◌∙◌}
use mathlib.Core.Bool.{Bool, true, false}
use mathlib.Core.List.{List, [], ◌∷◌, ◌++◌}
use Prim.Native.Nat.{ℕ, suc, ◌+◌, ◌*◌, ◌-◌, ◌<◌, ◌≤◌}
use native.Mathlib.Numerals.{add-one}
use native.Mathlib.Omega.{arith}
use lib.ListN.{length, get_or, take, get_or-eq_default}
use lib.Seq.{take-suc}
use borrow.Author.Tests.{lt-ltb, le-ltb}
use Rattle.laws.proofs.Tests.{by_less}
use Rattle.paper.specs.Sorts.{NUMBER}
use Rattle.paper.specs.Words.{largest_number, between, letter, leading, digit, value_of, spoils_number, scan_number, word, refused, malformed}
use Rattle.layout.specs.Rules.{too_large}
use Rattle.text_scanner.specs.Answers.{capped, value_bound, Digits·of}
use Rattle.text_reserved.proofs.Ranges.{range}
use Rattle.text_reserved.proofs.Runs.{Run, run-start, run_more, run-stop, run_out}

capped-large : (v : ℕ) → largest_number < v → capped v ≡ suc largest_number
unfolding capped
capped-large v h = rw (lt-ltb largest_number v h, capped)

capped_small : (v : ℕ) → v ≤ largest_number → capped v ≡ v
unfolding capped
capped_small v h = rw (le-ltb largest_number v h, capped)

pub still-large : (v d : ℕ) → largest_number < v → capped v ≡ capped (v * 10 + d)
still-large v d h = capped-large v h ∙ sym (capped-large (v * 10 + d) (omega arith))

-- what is large stays large, what is not is known
capped_is : (x y : ℕ) → capped x ≡ capped y → (y ≤ largest_number → x ≡ y) × (largest_number < y → largest_number < x)
capped_is x y e =
    by_less largest_number x
    (λ l. ((λ h. absurd (let z : suc largest_number ≡ y = sym (capped-large x l) ∙ e ∙ capped_small y h in omega arith)), (λ h. l)))
    (λ l. ((λ h. sym (capped_small x l) ∙ e ∙ capped_small y h), (λ h. absurd (let z : x ≡ suc largest_number = sym (capped_small x l) ∙ e ∙ capped-large y h in omega arith))))

capped-more : (x y d : ℕ) → capped x ≡ capped y → capped (x * 10 + d) ≡ capped (y * 10 + d)
capped-more x y d e =
    by_less largest_number y
    (λ l. sym (still-large x d ((capped_is x y e).1 l)) ∙ e ∙ still-large y d l)
    (λ l. ap (λ (v : ℕ). capped (v * 10 + d)) ((capped_is x y e).0 l))

value-more : (l : List ℕ) (b v : ℕ) → value_of (l ++ b ∷ []) v ≡ value_of l v * 10 + (b - 48)
unfolding value_of
value-more [] b v = refl
value-more (a ∷ l) b v = value-more l b (v * 10 + (a - 48))

-- What n digits write, as far as the value counts.
pub record Passed (text : List ℕ) (n v : ℕ) : Type 0 where
  pub digits : Run digit text n
  pub worth : capped v ≡ capped (value_of (take n text) 0)
  pub small : v < value_bound

module _ (text : List ℕ) where
  pub passed_start : Passed text 0 0
  unfolding value_of
  passed_start = record { digits = run-start digit text; worth = refl; small = omega arith }

  module _ (n v : ℕ) (at : Passed text n v) where
    pub passed-out : length text ≤ n → Digits·of text n v
    passed-out h = record { count = run_out digit text n at.digits h; worth = at.worth }

    -- a byte that is a digit may be read into the value
    pub passed-digit : (b : ℕ) (t : Bool) → t ≡ digit b → t ≡ true → (48 ≤ b) × (b ≤ 57) × (v < value_bound)
    unfolding digit
    passed-digit b t is g = let d = range 48 57 b (sym is ∙ g) in (d.0, d.1, at.small)

    module _ (t : Bool) (h : n < length text) (is : t ≡ digit (get_or text n 0)) where
      pub passed-more : (w : ℕ) → t ≡ true → (capped w ≡ capped (v * 10 + (get_or text n 0 - 48))) × (w < value_bound) → Passed text (n + 1) w
      passed-more w g e = record {
        digits = run_more digit text n at.digits t h is g;
        worth =
            e.0 ∙ capped-more v (value_of (take n text) 0) (get_or text n 0 - 48) at.worth
            ∙ ap capped (sym (value-more (take n text) (get_or text n 0) 0))
            ∙ ap (λ (l : List ℕ). capped (value_of l 0)) (sym (rw add-one (take-suc text n 0 h)));
        small = e.1;
      }

      pub passed-stop : t ≡ false → Digits·of text n v
      passed-stop g = record { count = run-stop digit text n at.digits t h is g; worth = at.worth }

-- ---- what follows the digits
pub nothing-spoils : (text : List ℕ) (n : ℕ) → length text ≤ n → false ≡ spoils_number (get_or text n 0)
unfolding spoils_number letter between
nothing-spoils text n h = rw (get_or-eq_default text 0 h)

module _ (text : List ℕ) (n v : ℕ) (t : Bool) (d : Digits·of text n v) (is : t ≡ spoils_number (get_or text n 0)) where
  length-is : leading digit text ≡ n
  length-is = sym d.count.exact

  spoiled-is : t ≡ spoils_number (get_or text (leading digit text) 0)
  spoiled-is = rw length-is is

  pub number-spoiled : t ≡ true → malformed ≡ scan_number largest_number text
  unfolding scan_number
  number-spoiled h = rw (sym spoiled-is ∙ h, scan_number)

  pub number-large : t ≡ false → largest_number < v → refused too_large 0 ≡ scan_number largest_number text
  unfolding scan_number
  number-large h g =
      let big = (capped_is (value_of (take n text) 0) v (sym d.worth)).1 g in
      rw (sym spoiled-is ∙ h, scan_number) (rw length-is (rw (lt-ltb largest_number _ big)))

  pub number-good : t ≡ false → v ≤ largest_number → word NUMBER n v ≡ scan_number largest_number text
  unfolding scan_number
  number-good h g =
      let same = (capped_is (value_of (take n text) 0) v (sym d.worth)).0 g in
      let fits : value_of (take n text) 0 ≤ largest_number = omega arith in
      rw (sym spoiled-is ∙ h, scan_number) (rw length-is (rw (le-ltb largest_number _ fits) (rw (length-is, same))))
