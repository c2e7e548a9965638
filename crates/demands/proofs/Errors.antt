-- Every error that a value raises has a number of the paper's.
use Prim.Native.Nat.{ℕ}
use native.Mathlib.Omega.{arith}
use lib.IntN.{ℤ}
use Rattle.paper.specs.Numbers.{Range, Value, ranged}
use Rattle.paper.specs.Terms.{Term, Memory, Ref, Located, locate, worth}
use Rattle.paper.specs.Running.{raised}
use Rattle.raised.proofs.Raised as raising
use Rattle.demands.specs.Vocabulary.{ErrorNumber, by-raise, named}

-- A value is sound if it is no error, or one with a number of the paper's.
abbrev pub Sound : Value → Type 0
Sound = raising.Sound ErrorNumber

abbrev pub SoundPlace : Located → Type 0
SoundPlace = raising.SoundPlace ErrorNumber

all_named : raising.OfNamed ErrorNumber
all_named = record {
  of-overflow = named (omega arith) (omega arith);
  of-div_zero = named (omega arith) (omega arith);
  of-bound = named (omega arith) (omega arith);
  of-ill_raise = named (omega arith) (omega arith);
}

pub ranged-sound : (R : Range) (z : ℤ) → Sound (ranged R z)
ranged-sound = raising.ranged-sound ErrorNumber all_named

-- an index
pub locate-sound : (r : Ref) (n : ℕ) (v : Value) → Sound v → SoundPlace (locate r n v)
locate-sound = raising.locate-sound ErrorNumber all_named

pub worth-sound : (M : Memory) (t : Term) → Sound (worth M t)
worth-sound = raising.worth-sound ErrorNumber all_named

-- "`RAISE e` raises e in 1..90, any other value ERR_ILLRAISE"
pub raised-number : (z : ℤ) → ErrorNumber (raised z)
raised-number = raising.raised-sound ErrorNumber all_named (λ n a b. by-raise a b)
