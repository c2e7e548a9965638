-- The definitions give each row its answer: antt computes both sides.
use mathlib.Core.Path.{◌≡◌, refl}
use mathlib.Core.List.{[], ◌∷◌, map}
use Rattle.paper.specs.Examples as examples
use Rattle.classes.specs.Classes.{ClassResult, class_result, lengths_of}
use Rattle.classes.specs.Computing.{computed_class}
use Rattle.classes.specs.Rows.{ClassRow, joined, lending, asking, comes, class_row, refused_row, echo, classes, refusals}

abbrev pub answered : ClassRow → ClassResult
answered r = class_result r.question

abbrev pub expected : ClassRow → ClassResult
expected r = r.expected

pub classes-hold : map answered classes ≡ map expected classes
unfolding computed_class examples.lines examples.fields examples.tray examples.module_of joined lending asking comes class_row refused_row echo classes
classes-hold = refl

pub refusals-hold : map answered refusals ≡ map expected refusals
unfolding computed_class joined lending asking refused_row refusals
refusals-hold = refl

-- "a part word is left out", and a length is no negative number
pub part-word : lengths_of (1 ∷ 0 ∷ 0 ∷ 0 ∷ 255 ∷ 255 ∷ 255 ∷ 255 ∷ 9 ∷ 9 ∷ 9 ∷ []) ≡ 1 ∷ 4294967295 ∷ []
unfolding lengths_of
part-word = refl
