-- The chain of a routine's data: a word leads to the first of them by its link, and each to the next; the last one's link is the parenthesis that ends them.
use Rattle.std.specs.Prelude.{◌≡◌, List, [], ◌∷◌, ◌++◌, ℕ, ◌<◌, replicate, ℤ}
use Rattle.code.specs.Cells.{op_at, place_at, link_at}
use Rattle.code.specs.Steps.{constant_at, a_datum}

-- ---- chains, over the code store's cells `C`
-- From word b on, links lead to these words one after another, and each is a datum's first.
unfoldable pub Leads : (C : List ℕ) → (b : ℕ) → List ℕ → Type 0
Leads C b [] = Unit {0}
Leads C b (d ∷ r) = (link_at C b ≡ d) × (op_at C d ≡ a_datum) × Leads C d r

unfoldable pub last_of : (b : ℕ) → List ℕ → ℕ
last_of b [] = b
last_of b (d ∷ r) = last_of d r

pub record Chain (C : List ℕ) (b : ℕ) (ds : List ℕ) (end : ℕ) : Type 0 where
  pub leads : Leads C b ds
  pub ends : link_at C (last_of b ds) ≡ end

-- The words that they start with: in place of its offset each has how many words it is.
unfoldable pub starts_in : (C : List ℕ) → List ℕ → List ℤ
starts_in C [] = []
starts_in C (d ∷ r) = replicate (place_at C d) (constant_at C d) ++ starts_in C r

-- One stands behind the other, from behind b on and before `to`.
unfoldable pub Rise : (b to : ℕ) → List ℕ → Type 0
Rise b to [] = b < to
Rise b to (d ∷ r) = (b < d) × Rise d to r
