-- The bench's call asks what the paper says, and the paper's example is printed as the paper says.
use mathlib.Core.Path.{◌≡◌, sym, ap, ◌∙◌}
use mathlib.Core.List.{List, [], ◌∷◌}
use Prim.Native.Nat.{ℕ}
use native.Mathlib.Omega.{arith}
use lib.ListN.{length, take, length-map}
use mir.Syntax.{w32}
use mir.Val.{to_z}
use Rattle.paper.specs.Answer.{Question, question_of, lent_of, Result, refused_with, result, cells_of, store_words}
use Rattle.paper.specs.Undoing.{plainly}
use Rattle.paper.specs.Numbers.{decimal, digits}
use Rattle.paper.specs.Sorts.{bytes}
use Rattle.paper.specs.Examples.{lines, tray, asking, row, fields, examples}
use Rattle.paper.proofs.Examples.{examples-hold}
use Rattle.store_cells.specs.Cells as cells
use Rattle.store_cells.proofs.Laws.{length-words}
use Rattle.store_cells.proofs.Paper.{words-paper}
use Rattle.call_pendant.specs.Calls.{lent}
use Rattle.call_screen.specs.declared.Shown.{Shown}
use Rattle.call_screen.specs.Screen.{line_of, record_line, screen_of, Shows}
use Rattle.call_screen.proofs.Screens.{shows-screen}
use Rattle.layout.specs.Named.{store_bytes}
use Rattle.call_lesson.specs.Bench.{asks, Benched}

store-words : (bytes : List ℕ) → store_bytes ≡ length bytes → length (cells_of bytes) ≡ store_words
store-words bytes e = ap length (words-paper bytes) ∙ length-map (cells.cells_of bytes) (to_z w32) ∙ omega (arith, length-words bytes)

asks-is : (text out code values : List ℕ) → 4096 ≡ length out → store_bytes ≡ length code → store_bytes ≡ length values
    → question_of (lent_of (lent plainly text 10000 16 (take 0 text) out code values [])) ≡ asks text
unfolding question_of lent_of lent asks cells_of
asks-is text out code values o c v = λ i.
    record { text = text; steps = 10000; depth = 16; inputs = []; room = sym o i; code = store-words code c i; values = store-words values v i; asked = plainly }

pub bench-law : (text out code values line : List ℕ) (r : Shown) (out' code' values' line' : List ℕ) → 4096 ≡ length out → store_bytes ≡ length code → store_bytes ≡ length values
    → Shows (lent plainly text 10000 16 (take 0 text) out code values []) line r out' code' values' line' → Benched text r out' line'
bench-law text out code values line r out' code' values' line' o c v s = record {
  screen = shows-screen (lent plainly text 10000 16 (take 0 text) out code values []) line r out' code' values' line' s ∙ ap (λ (q : Question). screen_of (result q)) (asks-is text out code values o c v);
  output-inside = s.output-inside;
  line-inside = s.line-inside;
}

-- "Given [the module tray] it prints `n=4` and `1 0 0 10 7 4 0 1`."
abbrev first-row : List Result → Result
first-row [] = refused_with (record { number = 0; offset = 0 })
first-row (r ∷ rows) = r

pub tray-printed : screen_of (result (asks (lines tray))) ≡ lines ("n=4" ∷ "1 0 0 10 7 4 0 1" ∷ [])
unfolding screen_of record_line line_of decimal digits asks asking row fields examples lines bytes
tray-printed = ap (λ (r : List Result). screen_of (first-row r)) examples-hold
