-- What holds of both branches holds of a choice, however it is written.
use mathlib.Core.Path.{◌≡◌, refl}
use mathlib.Core.Bool.{Bool, true, false}
use Rattle.std.specs.Prelude.{if◌then◌else◌}

pub chosen {ℓ} : {A : Type 0} (P : A → Type ℓ) (b : Bool) (x y : A) → P x → P y → P (if b then x else y)
chosen P true x y h g = h
chosen P false x y h g = g

pub forked {ℓ} : {A : Type 0} (P : A → Type ℓ) (b : Bool) (x y : A) → P x → P y → P (elim b [ true ↦ x | false ↦ y ])
forked P true x y h g = h
forked P false x y h g = g

-- The same, where a branch may use what the test says.
pub chosen_by {ℓ} : {A : Type 0} (P : A → Type ℓ) (b : Bool) (x y : A) → (b ≡ true → P x) → (b ≡ false → P y) → P (if b then x else y)
chosen_by P true x y h g = h refl
chosen_by P false x y h g = g refl

pub forked-by {ℓ} : {A : Type 0} (P : A → Type ℓ) (b : Bool) (x y : A) → (b ≡ true → P x) → (b ≡ false → P y) → P (elim b [ true ↦ x | false ↦ y ])
forked-by P true x y h g = h refl
forked-by P false x y h g = g refl
