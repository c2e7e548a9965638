-- What holds of the value store as a run goes on, besides what the state is that it holds.
use Rattle.std.specs.Prelude.{◌≡◌, true, List, ℕ, zero, suc, ◌+◌, ◌<◌, length, get_or}
use Rattle.paper.specs.Steps.{Code, Program}
use Rattle.paper.specs.Running.{code_at, step_named}
use Rattle.code.specs.Cells.{window_of, errno_cell}
use Rattle.code.specs.Steps.{Head, no_head, numbered}
use Rattle.code.specs.Closed.{is_named}
use Rattle.code.specs.Windows.{routine_cell, waits_cell, after_cell, failed_cell, result_cell}
use Rattle.store_evaluation.specs.Answers.{first_negative}

-- how many words a call of a routine has
abbrev pub slots_of_call : Code → ℕ
slots_of_call c = length c.words + c.fors

module _ (P : Program) (R : List Head) (X : List ℕ) where
  -- of the call with e callers: a cell of its window, the number of its routine, its routine
  abbrev pub cell_of_call : (e cell : ℕ) → ℕ
  cell_of_call e k = get_or X (window_of e + k) 0

  abbrev pub routine_of_call : (e : ℕ) → ℕ
  routine_of_call e = numbered R (cell_of_call e routine_cell)

  abbrev pub code_of_call : (e : ℕ) → Code
  code_of_call e = code_at P (routine_of_call e)

  -- Where its result goes: nowhere, to a word of the module, or to a word of its caller.
  pub data ResultFits (e r : ℕ) : Type 0 where
    nowhere : r ≡ 0 → ResultFits e r
    in_module : (k : ℕ) → k < length P.words → r ≡ suc k → ResultFits e r
    in_caller : (c k : ℕ) → e ≡ suc c → k < slots_of_call (code_of_call c) → r ≡ suc (window_of c + k) → ResultFits e r

  -- The step that failed: none, or a step of its routine.
  pub data FailedFits (e f : ℕ) : Type 0 where
    none_failed : f ≡ 0 → FailedFits e f
    has_failed : is_named (code_of_call e).steps f ≡ true → FailedFits e f

  -- a live call
  pub record Sane (e : ℕ) : Type 0 where
    pub routine : routine_of_call e < length R
    pub word : (get_or R (routine_of_call e) no_head).word ≡ cell_of_call e routine_cell
    pub failed : FailedFits e (cell_of_call e failed_cell)
    pub result : ResultFits e (cell_of_call e result_cell)

  -- a call that waits for the next one
  pub record Waits (e : ℕ) : Type 0 where
    pub sane : Sane e
    pub waits : is_named (code_of_call e).steps (cell_of_call e waits_cell) ≡ true
    pub after : cell_of_call e after_cell ≡ (step_named (code_of_call e).steps (cell_of_call e waits_cell)).after

  unfoldable pub Below : (d : ℕ) → Type 0
  Below zero = Unit {0}
  Below (suc d) = Waits d × Below d

  -- The newest call has d callers, and its next step is a step of its routine.
  pub record Live (d next : ℕ) : Type 0 where
    pub top : Sane d
    pub named : is_named (code_of_call d).steps next ≡ true
    pub below : Below d
    pub errno : get_or X errno_cell 0 < first_negative
