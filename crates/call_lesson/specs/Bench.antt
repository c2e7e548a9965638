-- The bench program: "reads the text from standard input, allows 10,000 steps, depth 16, no inputs, 4,096 output bytes, prints the output, then the eight fields of the record".
use Rattle.std.specs.Prelude.{◌≡◌, List, [], ◌++◌, ℕ, ◌+◌, ◌≤◌, length, take}
use Rattle.paper.specs.Undoing.{plainly}
use Rattle.paper.specs.Answer.{Question, result, store_words}
use Rattle.call_screen.specs.declared.Shown.{Shown}
use Rattle.paper.specs.Words.{text_limit}
use Rattle.call_screen.specs.Screen.{screen_of}

-- A longer text is refused whatever more it has.
abbrev pub text_room : ℕ
text_room = text_limit + 1

unfoldable pub asks : (text : List ℕ) → Question
asks text = record { text = text; steps = 10000; depth = 16; inputs = []; room = 4096; code = store_words; values = store_words; asked = plainly }

-- What is printed for a text: the first bytes of the output and those of the line, one behind the other.
pub record Benched (text : List ℕ) (r : Shown) (out line : List ℕ) : Type 0 where
  pub screen : take r.output out ++ take r.line line ≡ screen_of (result (asks text))
  pub output-inside : r.output ≤ length out
  pub line-inside : r.line ≤ length line
