-- The sorts that the code names: the kinds of words that have a value, the first sign and the first reserved word, and the paper's two tables in their order.
use Rattle.std.specs.Prelude.{List, [], ◌∷◌, ◌++◌, ℕ}
use Rattle.paper.specs.Sorts.{signs, reserved, sorts_of, sign_sort, name_sort, first_sign, first_reserved, NOTHING, NAME, NUMBER, STRING}

unfoldable pub named : List ℕ
named = (NOTHING ∷ NAME ∷ NUMBER ∷ STRING ∷ first_sign ∷ first_reserved ∷ []) ++ sorts_of sign_sort signs ++ sorts_of name_sort reserved
