-- What the check of a simple statement asks, and what it answers.
use Rattle.std.specs.Prelude.{◌≡◌, List, ℕ, ◌+◌}
use Rattle.paper.specs.Sorts.{semicolon}
use Rattle.paper.specs.Trees.{Simple}
use Rattle.paper.specs.Names.{sort_in}
use Rattle.paper.specs.Checks.{simple_faults}
use Rattle.store_cells.specs.Cells.{cells_of}
use Rattle.grammar.specs.Form.{Parses, SimpleAt}
use Rattle.check_links.specs.Raw.{RawSimple}
use Rattle.check_around.specs.declared.Setting.{Setting}
use Rattle.check_around.specs.Around.{Around, ground_of, Unread, Calls, Tells}
use Rattle.check_around.specs.Answers.{Stepped, Answer}

-- ---- a simple statement
-- It stands from `at` up to its semicolon at `to`, and the check has not come to it.
pub record Stands (code values : List ℕ) (at : ℕ) : Type 0 where
  pub text : List ℕ
  pub around : Around text values
  pub s : Simple
  pub to : ℕ
  pub is : SimpleAt (sort_in around.known.W) (Parses (sort_in around.known.W)) s at to
  pub ends : sort_in around.known.W to ≡ semicolon
  pub unread : Unread around.known.W code at to
  pub calls : Calls around code at to

-- Its faults are those of the paper; the word after its semicolon comes next, and the steps of a run stand in its words.
abbrev pub Answers : {code values : List ℕ} {at : ℕ} → (g : Stands code values at) → (after : List ℕ) → Stepped → Type 0
Answers {code} {at = at} g after r =
    Answer (simple_faults g.around.known.W g.around.K g.around.known.S g.s) code after at (g.to + 1)
    (RawSimple (ground_of g.around) g.around.known.n (cells_of after) g.around.known.S g.s at (g.to + 1)) r

-- The same for `statement`, which is told the text and the setting.
pub record Statement (text code values : List ℕ) (k : Setting) (at : ℕ) : Type 0 where
  pub stands : Stands code values at
  pub text-is : stands.text ≡ text
  pub tells : Tells k stands.around.K

pub record Stated (text code values after : List ℕ) (k : Setting) (at : ℕ) (r : Stepped) : Type 0 where
  pub is : (g : Statement text code values k at) → Answers g.stands after r
