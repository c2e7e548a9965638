-- A class in bytes, of which antt computes all that the theorems speak of.
use Rattle.std.specs.Prelude.{List, [], ◌∷◌, ◌++◌, ℕ, length, replicate}
use Rattle.paper.specs.Answer.{low_first}
use Rattle.paper.specs.Examples.{lines, tray}
use Rattle.classes.specs.Classes.{ClassLent}

-- The tray of (a), and an empty text, which is refused: nine bytes of output, and lists that have one byte more than they need. All that is lent holds ones.
unfoldable pub two_modules : ClassLent
two_modules =
    record {
      texts = lines tray;
      lengths = low_first 4 (length (lines tray)) ++ low_first 4 0;
      steps = 10000;
      depth = 16;
      inputs = [];
      output = replicate 9 1;
      code = replicate 65537 1;
      values = replicate 65538 1;
      records = replicate 129 1;
      module-data = replicate 8193 1;
    }
