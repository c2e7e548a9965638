-- Where a run goes on after an error, and a list that may be missing.
use Rattle.std.specs.Prelude.{ℕ, zero, suc, Option, Some, None}
use Rattle.run_errors.specs.declared.Machine.{Machine}

-- the step that takes an error and the window of its call, or none: the run dies of it
abbrev pub Taken : Type 0
Taken = Option Machine

-- where a list begins, or none: 0 in the code store
abbrev pub Listed : Type 0
Listed = Option ℕ

abbrev pub listed : ℕ → Listed
listed zero = None
listed (suc n) = Some (suc n)
