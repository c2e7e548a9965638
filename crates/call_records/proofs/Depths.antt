-- Depths that the paper allows.
use mathlib.Core.Path.{◌≡◌, refl}
use mathlib.Core.Bool.{Bool, true, false, ◌||◌}
use Prim.Native.Nat.{ℕ, ◌<◌, ◌≤◌}
use native.Mathlib.Omega.{arith}
use lib.Dec.{eqb, ltb}
use borrow.Author.Tests.{eqb-false, ltb-false}
use Rattle.laws.proofs.Tests.{false-true}
use Rattle.paper.specs.Answer.{depth_limit}

abbrev pub is_bad : ℕ → Bool
is_bad d = eqb d 0 || ltb depth_limit d

neither : (a b : Bool) → false ≡ (a || b) → (a ≡ false) × (b ≡ false)
neither false false e = (refl, refl)
neither false true e = false-true e
neither true b e = false-true e

pub good : (d : ℕ) → false ≡ is_bad d → (0 < d) × (d ≤ depth_limit)
good d e =
    let (z, l) = neither (eqb d 0) (ltb depth_limit d) e in
    let n : d ≡ 0 → ⊥ = eqb-false d 0 z in
    (omega (arith, n), ltb-false depth_limit d l)
