-- The public promise settles the result.
use mathlib.Core.Path.{◌≡◌, ap₂}
use mathlib.Core.List.{List}
use Prim.Native.Nat.{ℕ}
use Rattle.text_reserved.specs.declared.Name.{Name}
use Rattle.text_reserved.specs.Promise.{Named}

pub read-name-unique : (text : List ℕ) (r s : Name) → Named text r → Named text s → r ≡ s
read-name-unique text r s h g =
    let e : r.length ≡ s.length = cc in
    let f : r.sort ≡ s.sort = cc in
    ap₂ (λ (x y : ℕ). record { length = x; sort = y }) e f
