-- What the pendant's calls promise: the paper's answer, on every lent byte.
use Rattle.std.specs.Prelude.{◌≡◌, List, ℕ}
use Rattle.std.proofs.Math.Option.{some}
use Rattle.paper.specs.Undoing.{Asked}
use Rattle.paper.specs.Answer.{LentBytes, flagged_call}
-- the call without K: what `pendant_call` says
unfoldable pub use Rattle.call_judging.specs.Calls.{lent}
pub use Rattle.call_judging.specs.Calls.{Calls}

-- the run with K
abbrev pub until : (at undo : ℕ) → Asked
until at undo = record { abort = some (record { at = at; undo = undo }) }

pub record FlaggedCalls (flags : ℕ) (l : LentBytes) (r : ℕ) (out code values fields : List ℕ) : Type 0 where
  pub is : record { returned = r; output = out; code = code; values = values; fields = fields } ≡ flagged_call flags l
