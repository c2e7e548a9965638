-- What is promised of a name.
use Rattle.std.specs.Prelude.{◌≡◌, List, map, ℕ, take}
use Rattle.paper.specs.Sorts.{folded, name_sort}
use Rattle.paper.specs.Words.{leading, in_name}
use Rattle.text_reserved.specs.declared.Name.{Name}

-- r is the name that a text begins with: its length, and its sort, letter case ignored
pub record Named (text : List ℕ) (r : Name) : Type 0 where
  pub count : r.length ≡ leading in_name text
  pub kind : r.sort ≡ name_sort (map folded (take r.length text))
