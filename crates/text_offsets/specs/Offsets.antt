-- Where a word of a text starts, by its index.
use Rattle.std.specs.Prelude.{◌≡◌, List, ℕ}
use Rattle.paper.specs.Words.{reading}
use Rattle.paper.specs.Answer.{offset_of}

-- r is the offset of word i; past the last one, the text's length.
abbrev pub Offset : (text : List ℕ) (i r : ℕ) → Type 0
Offset text i r = r ≡ offset_of text (reading text).words i
