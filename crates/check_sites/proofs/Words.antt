-- Types and cells: from what the code tests and writes to what is said of it.
use mathlib.Core.Path.{◌≡◌, refl, ap, subst, ◌∙◌}
use mathlib.Core.List.{List}
use Prim.Native.Nat.{ℕ, ◌+◌, ◌-◌, ◌*◌, ◌<◌, ◌≤◌}
use native.Mathlib.Omega.{arith}
use lib.ListN.{length, get_or}
use Rattle.laws.proofs.Tests.{by-same}
use Rattle.store_cells.specs.Cells.{cells_of, Put}
use Rattle.store_cells.proofs.Kept.{put-length, put_same, put_other}
use Rattle.code.specs.Cells.{op_at}
use Rattle.check_names.specs.declared.Scope.{Scope}
use Rattle.check_names.specs.Meanings.{cell_with}
use Rattle.check_names.specs.Promises.{TypeNamed}
use Rattle.check_names.specs.Promises as names
use Rattle.layout.specs.declared.types.ValueType.TheVariants.{Num, Bool}
use Rattle.check_names.specs.Scopes.{Declares}
use Rattle.check_sites.specs.Parts.{TypeBit, Fills, MakesIn}

-- ---- sorts
pub type-num : (s : ℕ) → TypeNamed s Num → TypeBit s 0
type-num s t = record { small = omega arith; is = t.is }

pub type-bool : (s : ℕ) → TypeNamed s Bool → TypeBit s 1
type-bool s t = record { small = omega arith; is = t.is }

-- ---- cells
pub fills-none : (values : List ℕ) (from v : ℕ) → Fills values values from 0 v
fills-none values from v = record { long = refl; here = λ k h. absurd (omega arith); below = λ k h. refl; above = λ k h. refl }

pub fills-more : (values mid after : List ℕ) (from count k v : ℕ) → (from + count) * 4 ≤ length values → k < count → Fills values mid from k v → Put mid after (from + k) v → Fills values after from (k + 1) v
fills-more values mid after from count k v room less f p =
    let r : (from + k) * 4 + 4 ≤ length mid = omega (arith, f.long) in
    record {
      long = put-length p r ∙ f.long;
      here = λ j l. by-same j k (λ e. ap (λ (i : ℕ). get_or (cells_of after) (from + i) 0) e ∙ put_same p r) (λ d. put_other p r (from + j) (λ e. d (omega arith)) ∙ f.here j (omega (arith, d)));
      below = λ j l. put_other p r j (λ e. omega arith) ∙ f.below j l;
      above = λ j l. put_other p r j (λ e. omega arith) ∙ f.above j (omega arith);
    }

pub fills-long : (before after : List ℕ) (from count v : ℕ) → Fills before after from count v → length after ≡ length before
fills-long before after from count v f = f.long

pub fills-done : (before after : List ℕ) (from count k v : ℕ) → Fills before after from k v → k ≤ count → count ≤ k → Fills before after from count v
fills-done before after from count k v f h g = let e : k ≡ count = omega arith in subst (λ (n : ℕ). Fills before after from n v) e f

-- ---- a name
pub makes : (scope r : Scope) (code values code' values' : List ℕ) (i kind own value words s bool m : ℕ) → s ≡ op_at (cells_of code) (i - 1) → TypeBit s bool → m ≡ cell_with kind bool own value
    → Declares scope code values i m words code' values' r → MakesIn scope code values code' values' i kind own value words r
makes scope r code values code' values' i kind own value words s bool m e t q d = record {
  makes = record { bool = bool; type = subst (λ (k : ℕ). TypeBit k bool) e t; declared = subst (λ (k : ℕ). names.Declared code values i k code' values') q d.known };
  scope-is = d.scope-is;
}

-- a bit that a type has
pub bit-small : (s bool : ℕ) → TypeBit s bool → bool < 2
bit-small s bool t = t.small
