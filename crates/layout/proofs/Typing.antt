-- Two types that differ are two of the paper's, and each has a number of its own.
use mathlib.Core.Path.{◌≡◌, refl, sym, ap, ◌∙◌}
use mathlib.Core.Bool.{true}
use mathlib.Core.Option.{none, some}
use Prim.Native.Nat.{ℕ}
use lib.Dec.{eqb}
use borrow.Author.Tests.{eqb-true}
use Rattle.std.specs.Prelude.{if◌then◌else◌}
use Rattle.laws.proofs.Tests.{test, apart}
use Rattle.paper.specs.Names.{DataType, a_num, a_bool}
use Rattle.paper.specs.Types.{differs}
use Rattle.layout.specs.Types.{type_in, num_type, bool_type, type_number, type_said}
use Rattle.layout.specs.declared.types.ValueType.{ValueType}
use Rattle.layout.specs.declared.types.ValueType.TheVariants.{Num, Bool}

pub type-injective : (a b : ValueType) → type_in a ≡ type_in b → a ≡ b
type-injective Num Num e = refl
type-injective Bool Bool e = refl
type-injective Num Bool e = apart (cc)
type-injective Bool Num e = apart (cc)

pub types-differ : (a b : ValueType) → (a ≡ b → ⊥) → differs (type_in a) (type_in b) ≡ true
unfolding differs
types-differ Num Num d = absurd (d refl)
types-differ Num Bool d = refl
types-differ Bool Num d = refl
types-differ Bool Bool d = absurd (d refl)

-- ---- by number
-- the number of a type says it
pub number-says : (a : ValueType) → type_said (type_number a) ≡ some (type_in a)
unfolding type_said
number-says Num = refl
number-says Bool = refl

same_some : (t u : DataType) → some t ≡ some u → t ≡ u
same_some t u e = cc

-- a number that says a type is that of one
pub record Said (n : ℕ) (t : DataType) : Type 0 where
  pub type : ValueType
  pub number-is : type_number type ≡ n
  pub type-is : type_in type ≡ t

pub said : (n : ℕ) (t : DataType) → type_said n ≡ some t → Said n t
unfolding type_said
said n t e =
    test (eqb n num_type)
    (λ a. record { type = Num; number-is = sym (eqb-true n num_type a); type-is = same_some a_num t (sym (rw (a, type_said)) ∙ e) })
    (λ a. test (eqb n bool_type)
    (λ b. record { type = Bool; number-is = sym (eqb-true n bool_type b); type-is = same_some a_bool t (sym (rw (a, b, type_said)) ∙ e) })
    (λ b. none-some t (sym (rw (a, b, type_said)) ∙ e)))
  where
    none-some : {A : Type 0} (t : DataType) → none ≡ some t → A
    none-some t e = apart (cc)

-- the type whose number it is
pub said_as : (a : ValueType) (n : ℕ) (t : DataType) → type_said n ≡ some t → type_number a ≡ n → type_in a ≡ t
said_as a n t e y = same_some (type_in a) t (sym (number-says a) ∙ ap type_said y ∙ e)
