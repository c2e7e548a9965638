-- What a word of a sort starts, where the paper names no sorts of their own.
use Rattle.std.specs.Prelude.{Bool, ◌||◌, ℕ, eqb}
use Rattle.paper.specs.Sorts.{IF, FOR, WHILE, TEST}

-- a compound statement
unfoldable pub starts_compound : (sort : ℕ) → Bool
starts_compound s = eqb s IF || eqb s FOR || eqb s WHILE || eqb s TEST
