-- A promise that is an equation with something that the call does not change, `λ r. ⌜ r ≡ v ⌝`, allows one result alone, whatever it is.
use mathlib.Core.Path.{◌≡◌, sym, ◌∙◌}

pub two-equal : {A : Type 0} (v r s : A) → r ≡ v → s ≡ v → r ≡ s
two-equal v r s p q = p ∙ sym q
