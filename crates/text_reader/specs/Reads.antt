-- What a reader promises: the paper's listing, one word after another.
use Rattle.std.specs.Prelude.{List, [], ◌∷◌, ℕ, ◌+◌, None, Some, Ok, Err}
use Rattle.std.proofs.Math.Option.{Option, none, some}
use Rattle.std.specs.Borrow.{Bor}
use Rattle.paper.specs.Words as paper
use Rattle.text_words.specs.declared.Refusal.{Refusal}
use Rattle.text_words.specs.Answers.{as_refusal, Step, word_of, after, Stepped}
use Rattle.text_reader.specs.declared.Reader.{Reader}

abbrev pub opened : Bor (List ℕ) → Reader
opened text = record { text = text; place = 0; words = 0 }

abbrev pub moved_to : Reader → (place words : ℕ) → Reader
moved_to r place words = record { text = r.text; place = place; words = words }

-- What comes next in the reading of a text, at a place, after so many words.
abbrev pub Read : List ℕ → (place words : ℕ) → Step → Type 0
Read text place words s = Stepped text (record { place = place; words = words }) s

-- Read on from a place, after so many words, a text gives these words, "each with its kind and place", and then ends or is refused.
pub data Gives (text : List ℕ) : (place words : ℕ) → List paper.Listed → Option paper.Refusal → Type 0 where
  a_word : (place words : ℕ) (w : paper.Word) (l : List paper.Listed) (f : Option paper.Refusal) → Read text place words (Ok (Some (word_of w, after words w)))
      → Gives text (paper.place_after w) (words + 1) l f → Gives text place words (paper.listed w ∷ l) f
  the_end : (place words : ℕ) → Read text place words (Ok None) → Gives text place words [] none
  a-refusal : (place words : ℕ) (r : Refusal) → Read text place words (Err r) → Gives text place words [] (some (as_refusal r))
