-- The readings of a cell.
use mathlib.Core.Path.{◌≡◌, refl, sym, ap, ◌∙◌}
use mathlib.Core.Option.{some}
use Prim.Native.Nat.{ℕ, ◌+◌, ◌*◌, ◌/◌, ◌%◌, ◌<◌, ◌≤◌}
use native.Mathlib.Omega.{arith}
use lib.Dec.{leb}
use borrow.Author.Tests.{eq-eqb, ne_eqb, le-leb, lt-leb}
use Rattle.laws.proofs.Tests.{by_last, by_most}
use Rattle.std.specs.Prelude.{if◌then◌else◌}
use Rattle.paper.specs.Sorts.{NUM}
use Rattle.paper.specs.Names.{type_of}
use Rattle.layout.specs.declared.types.ValueType.TheVariants.{Num, Bool}
use Rattle.check_names.specs.Meanings.{an_errno, kind_in, bool_in, type_with}
use Rattle.check_names.specs.Promises.{TypeOf, TypeNamed, Protects}

pub tells-num : (cell : ℕ) → bool_in cell ≡ 0 → TypeOf cell Num
tells-num cell e = record { is = rw e refl }

pub tells-bool : (cell : ℕ) → (bool_in cell ≡ 0 → ⊥) → TypeOf cell Bool
tells-bool cell d = let e : bool_in cell ≡ 1 = omega arith in record { is = rw e refl }

pub names-num : (s : ℕ) → s ≡ NUM → TypeNamed s Num
unfolding type_of
names-num s e = record { is = rw (e, type_of) refl }

pub names-bool : (s : ℕ) → (s ≡ NUM → ⊥) → TypeNamed s Bool
unfolding type_of
names-bool s d = record { is = rw (ne_eqb s NUM d, type_of) refl }

-- a kind tells whether its name is protected
pub protects-by : (m kind : ℕ) → kind ≡ kind_in m → Protects m (leb an_errno kind)
protects-by m kind e =
    by_most an_errno kind
    (λ h. le-leb an_errno kind h ∙ sym (le-leb (an_errno * 4 + 2 * 0 + 0 + 256 * 0) (m % 256) (omega arith)))
    (λ h. lt-leb an_errno kind h ∙ sym (lt-leb (an_errno * 4 + 2 * 0 + 0 + 256 * 0) (m % 256) (omega arith)))
