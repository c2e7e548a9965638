-- No theorem on classes holds for want of cases: antt computes one.
use mathlib.Core.Path.{◌≡◌, refl}
use mathlib.Core.List.{[], ◌∷◌, ◌++◌}
use lib.ListN.{replicate}
use Rattle.paper.specs.Answer.{low_first}
use Rattle.paper.specs.Examples as examples
use Rattle.classes.specs.Classes.{modules_of, class_call}
use Rattle.classes.specs.Computing.{computed_class_call}
use Rattle.classes.specs.Lesson.{refusal_in}
use Rattle.classes.specs.Instances.{two_modules}

not-refused : refusal_in two_modules ≡ 0
unfolding computed_class_call examples.lines examples.tray two_modules
not-refused = refl

two : modules_of two_modules ≡ 2
unfolding computed_class_call examples.lines examples.tray two_modules
two = refl

-- The first share is written, the second and the byte behind both are not. The first module ends with 1 after 10 steps, with ERRNO 7, and n is 4; the second is refused by 8, and its data are zeros.
-- The stores are zeros, and what lies beyond is as it was.
answered : class_call two_modules
    ≡ record {
      returned = 0;
      output = 110 ∷ 61 ∷ 52 ∷ 10 ∷ replicate 5 1;
      code = replicate 65536 0 ++ (1 ∷ []);
      values = replicate 65536 0 ++ (1 ∷ 1 ∷ []);
      records = low_first 8 1 ++ low_first 8 0 ++ low_first 8 0 ++ low_first 8 10 ++ low_first 8 7 ++ low_first 8 4 ++ low_first 8 0 ++ low_first 8 1 ++ low_first 8 0 ++ low_first 8 8 ++ replicate 48 0 ++ (1 ∷ []);
      module-data = (4 ∷ replicate 8191 0) ++ (1 ∷ []);
    }
unfolding computed_class_call examples.lines examples.tray two_modules
answered = refl
