-- The public promise settles the result. Nothing is lent to be written.
use mathlib.Core.Path.{◌≡◌, sym, ◌∙◌}
use mathlib.Core.List.{List}
use Prim.Native.Nat.{ℕ}
use Rattle.call_asking.specs.Asking.{Told}

pub rapid-ask-unique : (text : List ℕ) (place r s : ℕ) → Told text place r → Told text place s → r ≡ s
rapid-ask-unique text place r s h g = h.size_is ∙ sym g.size_is
