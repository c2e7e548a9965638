-- What the marking call promises: the answer of request 14, on every lent byte.
use Rattle.std.specs.Prelude.{◌≡◌, List, ℕ}
use Rattle.marks.specs.Marks.{MarkLent, mark_call}

unfoldable pub mark_lent : (text : List ℕ) → (steps depth : ℕ) → (inputs out code values listing record' answer : List ℕ) → MarkLent
mark_lent text steps depth inputs out code values listing fields answer =
    record { text = text; steps = steps; depth = depth; inputs = inputs; output = out; code = code; values = values; listing = listing; fields = fields; answer = answer }

pub record Marks (l : MarkLent) (r : ℕ) (out code values fields answer : List ℕ) : Type 0 where
  pub is : record { call = record { returned = r; output = out; code = code; values = values; fields = fields }; answer = answer } ≡ mark_call l
