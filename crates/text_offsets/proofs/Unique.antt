-- Two results that the contract allows are equal.
use mathlib.Core.Path.{◌≡◌, sym, ◌∙◌}
use mathlib.Core.List.{List}
use Prim.Native.Nat.{ℕ}
use Rattle.text_offsets.specs.Offsets.{Offset}

pub offset-unique : (text : List ℕ) (i r s : ℕ) → Offset text i r → Offset text i s → r ≡ s
offset-unique text i r s a b = a ∙ sym b
