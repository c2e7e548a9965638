-- The two exported calls: what they ask of the one behind them.
use mathlib.Core.Path.{◌≡◌, sym, ◌∙◌}
use mathlib.Core.List.{List}
use Prim.Native.Nat.{ℕ}
use borrow.Author.Tests.{eq-eqb, ne_eqb}
use Rattle.paper.specs.Undoing.{plainly}
use Rattle.paper.specs.Answer.{flagged_call}
use Rattle.run_whole.specs.declared.Abort.TheVariants.{Never, At}
use Rattle.run_whole.specs.Runs.{abort_of}
use Rattle.call_judging.specs.Carries.{asked_by}
use Rattle.call_pendant.specs.Calls.{lent, Calls, until, FlaggedCalls}

module _ (text : List ℕ) (steps depth : ℕ) (inputs out code values fields : List ℕ) where
  pub run-called : (r : ℕ) (out' code' values' fields' : List ℕ) → Calls (lent (asked_by Never) text steps depth inputs out code values fields) r out' code' values' fields'
      → Calls (lent plainly text steps depth inputs out code values fields) r out' code' values' fields'
  unfolding abort_of
  run-called r out' code' values' fields' k = k

  module _ (flags at undo : ℕ) where
    -- a flag that is not known
    pub until-flagged : (flags ≡ 0 → ⊥) → FlaggedCalls flags (lent (until at undo) text steps depth inputs out code values fields) 0 out code values fields
    unfolding lent flagged_call
    until-flagged d = record { is = sym (rw (ne_eqb flags 0 d, flagged_call)) }

    pub until-called : flags ≡ 0 → (r : ℕ) (out' code' values' fields' : List ℕ) → Calls (lent (asked_by (At at undo)) text steps depth inputs out code values fields) r out' code' values' fields'
        → FlaggedCalls flags (lent (until at undo) text steps depth inputs out code values fields) r out' code' values' fields'
    unfolding abort_of flagged_call
    until-called e r out' code' values' fields' k = record { is = k.is ∙ sym (rw (eq-eqb flags 0 e, flagged_call)) }
