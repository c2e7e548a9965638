-- Where the steps of a tree stand.
use Rattle.std.specs.Prelude.{List, [], ◌∷◌, ℕ, ◌≤◌, ◌<◌}
use Rattle.paper.specs.Steps.{Step}

-- Each step is named by a word from a on and before b.
pub data Within (a b : ℕ) : List Step → Type 0 where
  no-step-left : Within a b []
  one-step : {s : Step} {r : List Step} → a ≤ s.name → s.name < b → Within a b r → Within a b (s ∷ r)
