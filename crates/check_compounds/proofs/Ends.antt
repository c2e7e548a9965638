-- What is written at the end of a statement that holds a list.
use mathlib.Core.Path.{◌≡◌, subst}
use mathlib.Core.List.{List}
use Prim.Native.Nat.{ℕ, ◌+◌, ◌*◌}
use Rattle.store_cells.specs.Cells.{cells_of}
use Rattle.code.specs.Cells.{place_at}
use Rattle.store_writing.specs.Promises.{tail_with, Rewritten, Linked}
use Rattle.check_compounds.specs.Parts.{ForEnded}
use Rattle.code.specs.Steps.{a_for, a_for_test, a_do}

pub for-ended : (before one two after : List ℕ) (used i d e p : ℕ) → Linked before one d a_do (d + 1) 0 → Linked one two i a_for used (e + 1) → p ≡ place_at (cells_of two) i
    → Rewritten two after e (a_for_test + 256 * (used + 256 * i)) (tail_with p (d + 1)) → ForEnded before after used i d e
for-ended before one two after used i d e p l h q r =
    record { one = one; two = two; opens = l; head = h; test = subst (λ (x : ℕ). Rewritten two after e (a_for_test + 256 * (used + 256 * i)) (tail_with x (d + 1))) q r }
