-- The most that a stored case is lent.
use Rattle.std.specs.Prelude.{List, ℕ, ◌+◌, ◌*◌, ◌≤◌, length}
use Rattle.paper.specs.Words.{text_limit}
use Rattle.layout.specs.Named.{store_bytes}
use Rattle.call_vectors.specs.declared.Case.{Case}

-- texts and stores may be larger than they need be
abbrev pub beyond : ℕ
beyond = 64

abbrev pub most_inputs : ℕ
most_inputs = 16

abbrev pub most_output : ℕ
most_output = 4096

-- How much of everything a case asks for.
pub record Asks (case : Case) : Type 0 where
  pub room-few : case.room ≤ most_output
  pub code-few : case.codes ≤ store_bytes + beyond
  pub values-few : case.worths ≤ store_bytes + beyond
  pub inputs-few : case.inputs ≤ most_inputs
  pub text-few : case.text ≤ text_limit + beyond

-- The same, when its text and its inputs are read.
pub record Lends (case : Case) (text inputs : List ℕ) : Type 0 where
  pub text-few : length text ≤ text_limit + beyond
  pub inputs-few : length inputs ≤ most_inputs * 4
  pub room-few : case.room ≤ most_output
  pub code-few : case.codes ≤ store_bytes + beyond
  pub values-few : case.worths ≤ store_bytes + beyond
