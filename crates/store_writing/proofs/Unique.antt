-- Each promise settles the result, and what is lent: by its bytes, or by its words and the bytes around the word that is written.
use mathlib.Core.Path.{◌≡◌, sym, ◌∙◌}
use mathlib.Core.List.{List}
use Prim.Native.Nat.{ℕ, ◌+◌, ◌*◌}
use lib.ListN.{take, drop}
use Rattle.store_cells.specs.Cells.{cells_of}
use Rattle.store_writing.specs.Promises.{Rewritten, Linked}

pub rewrite-unique : (before a b : List ℕ) (i head tail : ℕ) → Rewritten before a i head tail → Rewritten before b i head tail → a ≡ b
rewrite-unique before a b i head tail p q = p.bytes ∙ sym q.bytes

pub linked-unique : (before a b : List ℕ) (i op value link : ℕ) → Linked before a i op value link → Linked before b i op value link
    → (cells_of a ≡ cells_of b) × (take (i * 8) a ≡ take (i * 8) b) × (drop ((i + 1) * 8) a ≡ drop ((i + 1) * 8) b)
linked-unique before a b i op value link p q =
    (p.words ∙ sym q.words, p.kept.below ∙ sym q.kept.below, p.kept.above ∙ sym q.kept.above)
