-- Each promise settles the result: two that it allows are equal.
use mathlib.Core.Path.{◌≡◌, refl, sym, ap, ap₂, ◌∙◌}
use Prim.Native.Nat.{ℕ}
use native.Mathlib.Omega.{arith}
use lib.IntN.{ℤ}
use Rattle.std.specs.Prelude.{Ok, Err}
use Rattle.std.specs.Ordering.{is_lt, is_eq}
use Rattle.std.specs.declared.cmp.Ordering.{Ordering}
use Rattle.std.specs.declared.cmp.Ordering.TheVariants.{Less, Equal, Greater}
use Rattle.paper.specs.Numbers as paper
use Rattle.store_numbers.specs.Answers.{Num, range_of, value_of, raised_by, NumRange, Held, Sum, Difference, Product, Opposite, Quotient, Remainder, Size, Compared, NumberOf, WordOf}
use Rattle.store_numbers.specs.declared.Range.{Range}
use Rattle.store_numbers.specs.declared.ArithmeticError.{ArithmeticError}
use Rattle.store_numbers.specs.declared.ArithmeticError.TheVariants.{Overflow, DivZero}

-- whatever value v the paper gives
pub value-unique : (v : paper.Value) (m n : Num) → value_of m ≡ v → value_of n ≡ v → m ≡ n
unfolding value_of
value-unique v (Ok a) (Ok b) p q = ap Ok (cc)
value-unique v (Ok a) (Err b) p q = let z : paper.value a ≡ paper.error (raised_by b) = p ∙ sym q in cc
value-unique v (Err a) (Ok b) p q = let z : paper.error (raised_by a) ≡ paper.value b = p ∙ sym q in cc
value-unique v (Err a) (Err b) p q = ap Err (apart a b (cc))
  where
    apart : (a b : ArithmeticError) → raised_by a ≡ raised_by b → a ≡ b
    apart Overflow Overflow e = refl
    apart Overflow DivZero e = absurd (omega (arith, e))
    apart DivZero Overflow e = absurd (omega (arith, e))
    apart DivZero DivZero e = refl

module _ (r : Range) (a b : ℤ) (m n : Num) where
  pub held-unique : Held r a m → Held r a n → m ≡ n
  held-unique p q = value-unique (paper.ranged (range_of r) a) m n p q

  pub sum-unique : Sum r a b m → Sum r a b n → m ≡ n
  sum-unique p q = value-unique (paper.add (range_of r) a b) m n p q

  pub difference-unique : Difference r a b m → Difference r a b n → m ≡ n
  difference-unique p q = value-unique (paper.subtract (range_of r) a b) m n p q

  pub product-unique : Product r a b m → Product r a b n → m ≡ n
  product-unique p q = value-unique (paper.multiply (range_of r) a b) m n p q

  pub opposite-unique : Opposite r a m → Opposite r a n → m ≡ n
  opposite-unique p q = value-unique (paper.minus (range_of r) a) m n p q

  pub quotient-unique : Quotient r a b m → Quotient r a b n → m ≡ n
  quotient-unique p q = value-unique (paper.divide (range_of r) a b) m n p q

  pub remainder-unique : Remainder r a b m → Remainder r a b n → m ≡ n
  remainder-unique p q = value-unique (paper.modulo (range_of r) a b) m n p q

pub range_unique : (m n : Range) → NumRange m → NumRange n → m ≡ n
range_unique m n p q =
    let l : m.low ≡ n.low = ap (λ (x : paper.Range). x.low) (p ∙ sym q) in
    let h : m.high ≡ n.high = ap (λ (x : paper.Range). x.high) (p ∙ sym q) in
    ap₂ ends l h
  where
    ends : ℤ → ℤ → Range
    ends l h = record { low = l; high = h }

pub size-unique : (a : ℤ) (m n : ℕ) → Size a m → Size a n → m ≡ n
size-unique a m n p q = p ∙ sym q

pub number-unique : (x : ℕ) (y z : ℤ) → NumberOf x y → NumberOf x z → y ≡ z
number-unique x y z p q = p ∙ sym q

pub word-unique : (z : ℤ) (x y : ℕ) → WordOf z x → WordOf z y → x ≡ y
word-unique z x y p q = p ∙ sym q

pub order-unique : (a b : ℤ) (m n : Ordering) → Compared a b m → Compared a b n → m ≡ n
order-unique a b m n p q = go m n (sym p.below ∙ q.below) (sym p.same ∙ q.same)
  where
    go : (m n : Ordering) → is_lt m ≡ is_lt n → is_eq m ≡ is_eq n → m ≡ n
    go Less Less e d = refl
    go Less Equal e d = cc
    go Less Greater e d = cc
    go Equal Less e d = cc
    go Equal Equal e d = refl
    go Equal Greater e d = cc
    go Greater Less e d = cc
    go Greater Equal e d = cc
    go Greater Greater e d = refl
