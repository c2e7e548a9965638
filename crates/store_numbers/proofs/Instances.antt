-- The promise of a product at a range whose products leave 64 bits: whole numbers of size up to 2^52.
use mathlib.Core.Path.{◌≡◌}
use Prim.Native.Nat.{ℕ, ◌*◌, ◌-◌, ◌≤◌, ◌<◌}
use native.Mathlib.Omega.{arith}
use lib.IntN.{ℤ, pos, negsuc, nat_abs, ◌*ℤ◌}
use borrow.Author.Tests.{lt-ltb, le-ltb}
use Rattle.std.specs.Prelude.{Ok, Err}
use Rattle.paper.specs.Numbers.{multiply, ranged}
use Rattle.store_numbers.specs.Answers.{Num, value_of, Held, Product}
use Rattle.store_numbers.specs.declared.Range.{Range}
use Rattle.store_numbers.specs.declared.ArithmeticError.TheVariants.{Overflow}
use Rattle.store_numbers.proofs.Whole.{abs-mul}
use Rattle.store_numbers.proofs.Unique.{product-unique}

abbrev most : ℕ
most = 4503599627370496

unfoldable pub wide : Range
wide = record { low = negsuc (most - 1); high = pos most }

-- held to it, by the size alone
inside : (z : ℤ) → nat_abs z ≤ most → Held wide z (Ok z)
unfolding value_of ranged wide
inside (pos n) h = rw (le-ltb most n h, ranged)
inside (negsuc n) h = rw (le-ltb (most - 1) n (omega arith), ranged)

outside : (z : ℤ) → most < nat_abs z → Held wide z (Err Overflow)
unfolding value_of ranged wide
outside (pos n) h = rw (lt-ltb most n h, ranged)
outside (negsuc n) h = rw (lt-ltb (most - 1) n (omega arith), ranged)

-- the product where its size is at most 2^52, and else the overflow
module _ (a b : ℤ) (n : Num) (promised : Product wide a b n) where
  pub wide-product : nat_abs a * nat_abs b ≤ most → n ≡ Ok (a *ℤ b)
  unfolding multiply
  wide-product h = product-unique wide a b n (Ok (a *ℤ b)) promised (inside (a *ℤ b) (omega (arith, abs-mul a b)))

  pub wide-overflow : most < nat_abs a * nat_abs b → n ≡ Err Overflow
  unfolding multiply
  wide-overflow h = product-unique wide a b n (Err Overflow) promised (outside (a *ℤ b) (omega (arith, abs-mul a b)))
