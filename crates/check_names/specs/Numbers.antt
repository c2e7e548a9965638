-- The numbers of names: of all names of one spelling, the index of the first.
use Rattle.std.specs.Prelude.{◌≡◌, true, false, List, [], ◌∷◌, map, ℕ, suc, eqb}
use Rattle.paper.specs.Sorts.{folded, equal_texts, NAME}
use Rattle.paper.specs.Words.{Word}
use Rattle.paper.specs.Names.{Text, sort_in, spelled}

-- The index of the first word that is a name with this text; without one, how many words there are.
unfoldable pub first_named : List Word → Text → ℕ
first_named [] text = 0
first_named (w ∷ r) text =
    elim (eqb w.sort NAME) [
      | false ↦ suc (first_named r text)
      | true ↦ elim (equal_texts (map folded w.covers) text) [ true ↦ 0 | false ↦ suc (first_named r text) ]
    ]

abbrev pub number_of : List Word → ℕ → ℕ
number_of W i = first_named W (spelled W i)

-- word i is a name
abbrev pub IsName : List Word → ℕ → Type 0
IsName W i = sort_in W i ≡ NAME
