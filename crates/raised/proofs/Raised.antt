-- What holds of the number of every error that an expression raises, or RAISE; and that it has 16 bits.
use mathlib.Core.Path.{◌≡◌, refl, subst}
use mathlib.Core.Bool.{Bool, true, false, ◌||◌}
use Prim.Native.Nat.{ℕ, ◌<◌, ◌≤◌}
use native.Mathlib.Omega.{arith}
use lib.IntN.{ℤ, pos, negsuc}
use lib.Dec.{eqb, ltb}
use lib.Signed.{lt_z}
use borrow.Author.Tests.{ltb-false}
use Rattle.std.specs.Prelude.{if◌then◌else◌}
use Rattle.paper.specs.Numbers.{Range, Value, value, error, ranged, add, subtract, multiply, minus, divide, modulo, is_zero, num, overflow, div_zero, out_of_bound, ill_raise}
use Rattle.paper.specs.Terms.{Term, literal, errno, stored, element_at, unary, binary, Memory, Ref, Located, at, fails, locate, load_from, applied, operated, known, combined, worth}
use Rattle.paper.specs.Sorts.{NOT, minus_sign, plus, times, DIV, MOD, AND, OR, equal, unequal, less, less_equal, greater, greater_equal}
use Rattle.paper.specs.Running.{raised, highest_raised}
use Rattle.raised.proofs.Choices.{chosen, forked}

-- A value is sound if it is no error, or one whose number has the property; a place likewise.
abbrev pub Sound : (ℕ → Type 0) → Value → Type 0
Sound Q (value z) = Unit
Sound Q (error e) = Q e

abbrev pub SoundPlace : (ℕ → Type 0) → Located → Type 0
SoundPlace Q (at r) = Unit
SoundPlace Q (fails e) = Q e

-- the errors that the rules name have it
pub record OfNamed (Q : ℕ → Type 0) : Type 0 where
  pub of-overflow : Q overflow
  pub of-div_zero : Q div_zero
  pub of-bound : Q out_of_bound
  pub of-ill_raise : Q ill_raise

module _ (Q : ℕ → Type 0) (q : OfNamed Q) where
  pub ranged-sound : (R : Range) (z : ℤ) → Sound Q (ranged R z)
  unfolding ranged
  ranged-sound R z = forked (Sound Q) (lt_z z R.low) _ _ q.of-overflow (forked (Sound Q) (lt_z R.high z) _ _ q.of-overflow tt)

  divide-sound : (R : Range) (a b : ℤ) → Sound Q (divide R a b)
  unfolding divide
  divide-sound R a b = forked (Sound Q) (is_zero b) _ _ q.of-div_zero (ranged-sound R _)

  modulo-sound : (R : Range) (a b : ℤ) → Sound Q (modulo R a b)
  unfolding modulo
  modulo-sound R a b = forked (Sound Q) (is_zero b) _ _ q.of-div_zero (ranged-sound R _)

  -- an index
  pub locate-sound : (r : Ref) (n : ℕ) (v : Value) → Sound Q v → SoundPlace Q (locate r n v)
  unfolding locate
  locate-sound r n (error e) h = h
  locate-sound r n (value i) h = chosen (SoundPlace Q) (lt_z i (pos 1)) _ _ q.of-bound (chosen (SoundPlace Q) (lt_z (pos n) i) _ _ q.of-bound tt)

  load-sound : (M : Memory) (l : Located) → SoundPlace Q l → Sound Q (load_from M l)
  unfolding load_from
  load-sound M (at r) h = tt
  load-sound M (fails e) h = h

  -- operators
  applied-sound : (op : ℕ) (v : Value) → Sound Q v → Sound Q (applied op v)
  unfolding applied minus
  applied-sound op (error e) h = h
  applied-sound op (value a) h = chosen (Sound Q) (eqb op NOT) _ _ tt (chosen (Sound Q) (eqb op minus_sign) _ _ (ranged-sound num _) tt)

  operated-sound : (op : ℕ) (a b : ℤ) → Sound Q (operated op a b)
  unfolding operated add subtract multiply
  operated-sound op a b =
      chosen (Sound Q) (eqb op plus) _ _ (ranged-sound num _)
      (chosen (Sound Q) (eqb op minus_sign) _ _ (ranged-sound num _)
      (chosen (Sound Q) (eqb op times) _ _ (ranged-sound num _)
      (chosen (Sound Q) (eqb op DIV) _ _ (divide-sound num a b)
      (chosen (Sound Q) (eqb op MOD) _ _ (modulo-sound num a b)
      (chosen (Sound Q) (eqb op equal) _ _ tt
      (chosen (Sound Q) (eqb op unequal) _ _ tt
      (chosen (Sound Q) (eqb op less) _ _ tt
      (chosen (Sound Q) (eqb op less_equal) _ _ tt
      (chosen (Sound Q) (eqb op greater) _ _ tt
      (chosen (Sound Q) (eqb op greater_equal) _ _ tt
      (chosen (Sound Q) (eqb op AND || eqb op OR) _ _ tt tt)))))))))))

  combined-sound : (op : ℕ) (v w : Value) → Sound Q v → Sound Q w → Sound Q (combined op v w)
  unfolding combined
  combined-sound op (error e) w h g = h
  combined-sound op (value a) (error e) h g = g
  combined-sound op (value a) (value b) h g = operated-sound op a b

  pub worth-sound : (M : Memory) (t : Term) → Sound Q (worth M t)
  unfolding worth
  worth-sound M (literal z) = tt
  worth-sound M errno = tt
  worth-sound M (stored r) = tt
  worth-sound M (element_at r n e) = load-sound M _ (locate-sound r n _ (worth-sound M e))
  worth-sound M (unary op e) = applied-sound op _ (worth-sound M e)
  worth-sound M (binary op a b) = forked (Sound Q) (known op (worth M a)) _ _ (worth-sound M a) (combined-sound op _ _ (worth-sound M a) (worth-sound M b))

  -- "`RAISE e` raises e in 1..90, any other value ERR_ILLRAISE"
  pub raised-sound : ((n : ℕ) → 1 ≤ n → n ≤ highest_raised → Q n) → (z : ℤ) → Q (raised z)
  unfolding raised
  raised-sound p (pos n) = in-range n (ltb n 1) (ltb highest_raised n) refl refl
    where
      in-range : (n : ℕ) (low high : Bool) → ltb n 1 ≡ low → ltb highest_raised n ≡ high → Q (if low || high then ill_raise else n)
      in-range n true high l h = q.of-ill_raise
      in-range n false true l h = q.of-ill_raise
      in-range n false false l h = p n (omega (arith, ltb-false n 1 l)) (omega (arith, ltb-false highest_raised n h))
  raised-sound p (negsuc n) = q.of-ill_raise

-- ---- 16 bits
abbrev pub errors : ℕ
errors = 65536

abbrev Low : ℕ → Type 0
Low e = e < errors

low : OfNamed Low
low = record { of-overflow = omega arith; of-div_zero = omega arith; of-bound = omega arith; of-ill_raise = omega arith }

pub worth-error : (M : Memory) (t : Term) (e : ℕ) → worth M t ≡ error e → e < errors
worth-error M t e h = subst (Sound Low) h (worth-sound Low low M t)

pub raised-low : (z : ℤ) → raised z < errors
raised-low = raised-sound Low low (λ n a b. omega arith)
