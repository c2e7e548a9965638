-- What the functions promise: every cell of the code store after the call.
use Rattle.std.specs.Prelude.{◌≡◌, List, [], ◌∷◌, ℕ, ◌+◌, ◌*◌, length, take, drop, set}
use Rattle.laws.specs.Lists.{replaced}
use Rattle.store_cells.specs.Cells.{cells_of, bytes_of}
use Rattle.layout.specs.Parts.{value_part, link_part}
use Rattle.code.specs.Cells.{op_at, value_at, place_at, link_at}

abbrev pub head_with : (op value : ℕ) → ℕ
head_with op value = op + value_part * value

abbrev pub tail_with : (place link : ℕ) → ℕ
tail_with place link = place + link_part * link

-- Word i has this head and this tail now, and every byte outside its two cells is as it was.
pub record Rewritten (before after : List ℕ) (i head tail : ℕ) : Type 0 where
  pub bytes : after ≡ replaced before (i * 8) (bytes_of (head ∷ tail ∷ [])) 8
  pub words : cells_of after ≡ set (set (cells_of before) (i * 2) head) (i * 2 + 1) tail

-- Nothing but the words from `from` up to `to` has changed; what these hold, their places too, is said by what was written there.
-- That is enough for offsets, which are asked of a statement's first word, of callees, of strings, and of words that the check has not come to. Each of them stands outside of the
-- expressions that are checked around it, so it is before `from` or from `to` on; or it was written by itself, and `Linked` says that its place is what it was (D129).
pub record Kept (before after : List ℕ) (from to : ℕ) : Type 0 where
  pub below : take (from * 8) after ≡ take (from * 8) before
  pub above : drop (to * 8) after ≡ drop (to * 8) before
  pub long : length after ≡ length before

-- Word i has this op, value and link now, and its place still; no other word has changed.
pub record Linked (before after : List ℕ) (i op value link : ℕ) : Type 0 where
  pub words : cells_of after ≡ set (set (cells_of before) (i * 2) (head_with op value)) (i * 2 + 1) (tail_with (place_at (cells_of before) i) link)
  pub op-is : op_at (cells_of after) i ≡ op
  pub value-is : value_at (cells_of after) i ≡ value
  pub place_is : place_at (cells_of after) i ≡ place_at (cells_of before) i
  pub link-is : link_at (cells_of after) i ≡ link
  pub kept : Kept before after i (i + 1)

-- Its head alone has changed.
abbrev pub Headed : (before after : List ℕ) (i op value : ℕ) → Type 0
Headed before after i op value = Linked before after i op value (link_at (cells_of before) i)

-- Its link alone has changed.
abbrev pub Relinked : (before after : List ℕ) (i link : ℕ) → Type 0
Relinked before after i link = Linked before after i (op_at (cells_of before) i) (value_at (cells_of before) i) link
