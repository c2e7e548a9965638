-- What the call of a class promises: the request's answer, on every lent byte.
use Rattle.std.specs.Prelude.{◌≡◌, List, ℕ}
use Rattle.classes.specs.Classes.{ClassLent, class_call}

unfoldable pub lent : (texts lengths : List ℕ) → (steps depth : ℕ) → (inputs out code values records' data' : List ℕ) → ClassLent
lent texts lengths steps depth inputs out code values records' data' =
    record { texts = texts; lengths = lengths; steps = steps; depth = depth; inputs = inputs; output = out; code = code; values = values; records = records'; module-data = data' }

pub record Classes (l : ClassLent) (r : ℕ) (out code values records' data' : List ℕ) : Type 0 where
  pub is : record { returned = r; output = out; code = code; values = values; records = records'; module-data = data' } ≡ class_call l
