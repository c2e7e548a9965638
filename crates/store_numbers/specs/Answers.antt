-- What the types of this crate stand for in the paper, and what each function promises.
use Rattle.std.specs.Prelude.{◌≡◌, List, [], ◌∷◌, ℕ, ℤ, nat_abs, Result, Ok, Err}
use Rattle.std.specs.Int.Signed.{lt_z}
use Rattle.std.specs.Int.{w32}
use Rattle.std.specs.Ordering.{is_lt, is_eq, is_gt}
use Rattle.std.specs.declared.cmp.Ordering.{Ordering}
use Rattle.std.proofs.Common.{to_z, of_z}
use Rattle.paper.specs.Numbers as paper
use Rattle.store_numbers.specs.declared.Range.{Range}
use Rattle.store_numbers.specs.declared.ArithmeticError.{ArithmeticError}
use Rattle.store_numbers.specs.declared.ArithmeticError.TheVariants.{Overflow, DivZero}

abbrev pub range_of : Range → paper.Range
range_of r = record { low = r.low; high = r.high }

-- the number of the error in the paper
abbrev pub raised_by : ArithmeticError → ℕ
raised_by Overflow = paper.overflow
raised_by DivZero = paper.div_zero

abbrev pub Num : Type 0
Num = Result ℤ ArithmeticError

unfoldable pub value_of : Num → paper.Value
value_of (Ok z) = paper.value z
value_of (Err e) = paper.error (raised_by e)

-- r is the range of num.
abbrev pub NumRange : Range → Type 0
NumRange r = range_of r ≡ paper.num

-- the errors that have a name
abbrev pub error_numbers : List ℕ
error_numbers = paper.overflow ∷ paper.div_zero ∷ paper.out_of_bound ∷ paper.ill_raise ∷ []

-- n is z, held to the range r. In the same way n is the exact sum of a and b, held to r, and so on: what the paper gives.
abbrev pub Held : (r : Range) (z : ℤ) (n : Num) → Type 0
Held r z n = value_of n ≡ paper.ranged (range_of r) z

abbrev pub Sum : (r : Range) (a b : ℤ) (n : Num) → Type 0
Sum r a b n = value_of n ≡ paper.add (range_of r) a b

abbrev pub Difference : (r : Range) (a b : ℤ) (n : Num) → Type 0
Difference r a b n = value_of n ≡ paper.subtract (range_of r) a b

abbrev pub Product : (r : Range) (a b : ℤ) (n : Num) → Type 0
Product r a b n = value_of n ≡ paper.multiply (range_of r) a b

abbrev pub Opposite : (r : Range) (a : ℤ) (n : Num) → Type 0
Opposite r a n = value_of n ≡ paper.minus (range_of r) a

abbrev pub Quotient : (r : Range) (a b : ℤ) (n : Num) → Type 0
Quotient r a b n = value_of n ≡ paper.divide (range_of r) a b

abbrev pub Remainder : (r : Range) (a b : ℤ) (n : Num) → Type 0
Remainder r a b n = value_of n ≡ paper.modulo (range_of r) a b

-- n is the size of a.
abbrev pub Size : (a : ℤ) (n : ℕ) → Type 0
Size a n = n ≡ nat_abs a

-- z is the number of the word x, in two's complement, and x is the word of z.
abbrev pub NumberOf : (x : ℕ) (z : ℤ) → Type 0
NumberOf x z = z ≡ to_z w32 x

abbrev pub WordOf : (z : ℤ) (x : ℕ) → Type 0
WordOf z x = x ≡ of_z w32 z

-- How a stands to b: one of the three holds.
pub record Compared (a b : ℤ) (o : Ordering) : Type 0 where
  pub below : lt_z a b ≡ is_lt o
  pub same : paper.same a b ≡ is_eq o
  pub above : lt_z b a ≡ is_gt o
