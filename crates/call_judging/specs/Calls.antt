-- What a call of one run promises: the paper's answer, on every lent byte.
use Rattle.std.specs.Prelude.{◌≡◌, List, ℕ}
use Rattle.paper.specs.Undoing.{Asked}
use Rattle.paper.specs.Answer.{LentBytes, pendant_call}

unfoldable pub lent : Asked → (text : List ℕ) → (steps depth : ℕ) → (inputs out code values record' : List ℕ) → LentBytes
lent asked text steps depth inputs out code values fields =
    record { text = text; steps = steps; depth = depth; inputs = inputs; output = out; code = code; values = values; fields = fields; asked = asked }

pub record Calls (l : LentBytes) (r : ℕ) (out code values fields : List ℕ) : Type 0 where
  pub is : record { returned = r; output = out; code = code; values = values; fields = fields } ≡ pendant_call l
