-- A list of bytes read as cells, the 32-bit words of a store: "four each, low byte first (a part word is left out)".
use Rattle.std.specs.Prelude.{◌≡◌, List, [], ◌∷◌, ℕ, ◌+◌, ◌*◌, ◌/◌, ◌%◌, get_or, set, replicate}
pub use Rattle.laws.specs.Lists.{replaced}
use Rattle.paper.specs.Answer.{low_first}

abbrev pub cell : ℕ → ℕ → ℕ → ℕ → ℕ
cell a b c d = a + 256 * b + 65536 * c + 16777216 * d

unfoldable pub cells_of : List ℕ → List ℕ
cells_of [] = []
cells_of (a ∷ []) = []
cells_of (a ∷ b ∷ []) = []
cells_of (a ∷ b ∷ c ∷ []) = []
cells_of (a ∷ b ∷ c ∷ d ∷ r) = cell a b c d ∷ cells_of r

-- The bytes of cells.
unfoldable pub bytes_of : List ℕ → List ℕ
bytes_of [] = []
bytes_of (v ∷ r) = (v % 256) ∷ (v / 256 % 256) ∷ (v / 65536 % 256) ∷ (v / 16777216) ∷ bytes_of r

-- v is cell i.
abbrev pub Got : (bytes : List ℕ) (i v : ℕ) → Type 0
Got bytes i v = v ≡ get_or (cells_of bytes) i 0

-- Cell i is v now, and every byte outside it is as it was.
pub record Put (before after : List ℕ) (i v : ℕ) : Type 0 where
  pub bytes : after ≡ replaced before (i * 4) (bytes_of (v ∷ [])) 4
  pub words : cells_of after ≡ set (cells_of before) i v

-- The cells from `from` on are 0 now, `count` of them, and every byte outside them is as it was.
pub record Cleared (before after : List ℕ) (from count : ℕ) : Type 0 where
  pub bytes : after ≡ replaced before (from * 4) (replicate (count * 4) 0) (count * 4)
  pub words : cells_of after ≡ replaced (cells_of before) from (replicate count 0) count

-- "eight a field": field i is v now, low byte first, and every byte outside it is as it was.
pub record PutField (before after : List ℕ) (i v : ℕ) : Type 0 where
  pub bytes : after ≡ replaced before (i * 8) (low_first 8 v) 8
