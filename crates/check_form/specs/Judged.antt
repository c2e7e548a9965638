-- What the second pass promises.
use Rattle.std.specs.Prelude.{◌≡◌, List, ℕ, Result, Ok, Err}
use Rattle.paper.specs.Trees.{Module}
use Rattle.paper.specs.Types.{Fault}
use Rattle.paper.specs.Expressions.{Parsed, got, no}
use Rattle.paper.specs.Form.{formed}
use Rattle.layout.specs.Broken.{as_fault}
use Rattle.layout.specs.declared.rules.Breach.{Breach}
use Rattle.check_form.specs.Places.{sorts_in}

-- An answer as a host is told it: with the number of the rule that is broken.
abbrev pub told : {A : Type 0} → Result A Breach → Result A Fault
told (Ok x) = Ok x
told (Err broken) = Err (as_fault broken)

-- The answer for what the paper's parser makes of the words: that they form a module, or the refusal's number and the index of its word.
abbrev pub outcome : Parsed Module → Result (Unit {0}) Fault
outcome (got m) = Ok tt
outcome (no k i) = Err (record { number = k; at = i })

-- The words that lie in the code are judged so.
abbrev pub Judged : (code : List ℕ) → (words : ℕ) → Result (Unit {0}) Breach → Type 0
Judged code words r = told r ≡ outcome (formed (sorts_in code words))
