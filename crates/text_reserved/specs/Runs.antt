-- Runs of bytes of a kind.
use Rattle.std.specs.Prelude.{◌≡◌, Bool, List, ℕ, ◌≤◌, length}
use Rattle.paper.specs.Words.{leading}

-- n is how many bytes from the first on are such bytes
pub record Counted (such : ℕ → Bool) (text : List ℕ) (n : ℕ) : Type 0 where
  pub exact : n ≡ leading such text
  pub within : n ≤ length text
