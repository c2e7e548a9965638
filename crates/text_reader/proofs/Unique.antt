-- Each public promise settles the result, and with it what a text gives.
use mathlib.Core.Path.{◌≡◌, sym, ◌∙◌}
use mathlib.Core.List.{List}
use Prim.Native.Nat.{ℕ}
use Rattle.text_words.specs.Answers.{Step}
use Rattle.text_words.proofs.Unique.{told-one}
use Rattle.text_reader.specs.declared.Reader.{Reader}
use Rattle.text_reader.specs.Reads.{Read}

-- of `word_at`, `next` and `read`
pub read-unique : (text : List ℕ) (place words : ℕ) (r s : Step) → Read text place words r → Read text place words s → r ≡ s
read-unique text place words r s h g = told-one r s (h ∙ sym g)

-- of `open` and `moved`, whose promises name the whole reader
pub reader-unique : (is r s : Reader) → r ≡ is → s ≡ is → r ≡ s
reader-unique is r s h g = h ∙ sym g
