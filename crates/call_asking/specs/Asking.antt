-- What is asked about a place, as one number.
use Rattle.std.specs.Prelude.{◌≡◌, List, ℕ, length}
use Rattle.std.proofs.Math.Option.{Option, none, some}
use Rattle.paper.specs.Words.{asked}

-- How many bytes a part has, 0 where there is none.
abbrev pub size : Option (List ℕ) → ℕ
size none = 0
size (some part) = length part

-- The word's length is told, and 0 says that no word starts at the place.
pub record Told (text : List ℕ) (place r : ℕ) : Type 0 where
  pub size_is : r ≡ size (asked text place)
  pub nothing : r ≡ 0 → asked text place ≡ none
