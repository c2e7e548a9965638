-- What is known where the check comes to words of a list, and what it leaves as it was.
use Rattle.std.specs.Prelude.{◌≡◌, List, ℕ, ◌*◌, ◌<◌, ◌≤◌, get_or}
use Rattle.paper.specs.Names.{Text, spelled, meaning}
use Rattle.store_cells.specs.Cells.{cells_of}
use Rattle.code.specs.Cells.{errno_cell}
use Rattle.check_names.specs.Numbers.{IsName}
use Rattle.store_evaluation.specs.Answers.{call_slots, first_negative}
use Rattle.check_expressions.specs.Known.{Within}
use Rattle.check_constants.specs.Answers.{Fine}
use Rattle.check_around.specs.declared.Setting.{Setting}
use Rattle.check_around.specs.Around.{Around, Unread, Calls, Tells}

-- ---- the code store
-- D has the cells of C but for those of the words from `at` up to `to`.
pub record Outside (C D : List ℕ) (at to : ℕ) : Type 0 where
  pub below : (i : ℕ) → i < at * 2 → get_or D i 0 ≡ get_or C i 0
  pub above : (i : ℕ) → to * 2 ≤ i → get_or D i 0 ≡ get_or C i 0

-- ---- what is asked
-- The check comes to the words from `at` up to `to`, with `used` words of the routine taken so far: names mean words of these, and of those that are constants the value store
-- has the values. (The routine has more words in the end, which `check_around` knows; constant expressions are worked out before there are so many.)
pub record Here {text values : List ℕ} (around : Around text values) (code : List ℕ) (k : Setting) (used at to : ℕ) : Type 0 where
  pub tells : Tells k around.K
  pub few : used ≤ call_slots
  pub within : (i : ℕ) → IsName around.known.W i → Within around.known.m used (meaning around.known.S (spelled around.known.W i))
  pub fine : (t : Text) → Fine around.known.m used (cells_of values) around.M (meaning around.known.S t)
  pub number : get_or (cells_of values) errno_cell 0 < first_negative
  pub unread : Unread around.known.W code at to
  pub calls : Calls around code at to
