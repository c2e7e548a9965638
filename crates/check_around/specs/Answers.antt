-- What is answered of a piece of a routine: of a simple statement, of what stands in one, of what opens a statement that holds lists.
use Rattle.layout.specs.Broken.{as_fault}
use Rattle.layout.specs.declared.rules.Breach.{Breach}
use Rattle.std.specs.Prelude.{◌≡◌, List, [], ℕ, length, Result, Ok, Err}
use Rattle.paper.specs.Types.{Fault}
use Rattle.store_writing.specs.Promises.{Kept}
use Rattle.faults.specs.First.{First}

-- Of a piece with these faults, from `at` up to `to`: there are none, the next word is `to`, and what is written there holds.
pub record Fine (fs : List Fault) (before after : List ℕ) (at to next : ℕ) (holds : Type 0) : Type 0 where
  pub none : fs ≡ []
  pub next-is : next ≡ to
  pub written : holds
  pub kept : Kept before after at to

-- what is answered: the word after it; or the rule broken, and its word
abbrev pub Stepped : Type 0
Stepped = Result ℕ Breach

unfoldable pub Tell : (fs : List Fault) (before after : List ℕ) (at to : ℕ) (holds : Type 0) → Stepped → Type 0
Tell fs before after at to holds (Ok next) = Fine fs before after at to next holds
Tell fs before after at to holds (Err broken) = First (as_fault broken) fs

-- Where a rule is broken nothing is promised of what is written.
pub record Answer (fs : List Fault) (before after : List ℕ) (at to : ℕ) (holds : Type 0) (r : Stepped) : Type 0 where
  pub tells : Tell fs before after at to holds r
  pub long : length after ≡ length before
