-- A refusal before the text is looked at, and what any refusal tells.
use mathlib.Core.Path.{◌≡◌, refl}
use mathlib.Core.List.{List}
use Prim.Native.Nat.{ℕ}
use native.Mathlib.Omega.{arith}
use Rattle.paper.specs.Answer.{refused_with}
use Rattle.layout.specs.Rules.{wrong_depth}
use Rattle.call_records.specs.Records.{refused_fields, Written, Empties, Emptied}
use Rattle.call_records.specs.Leaves.{Rooms, Refuses, Tells}
use Rattle.call_records.proofs.Stores.{left-empty}

pub deep-empties : (code values fields : List ℕ) → Rooms code values fields → Empties code values 0
deep-empties code values fields r = record { code-room = r.code-room; values-room = r.values-room; few = omega arith }

pub deep-refused : (code values fields code' values' fields' : List ℕ) (number : ℕ) → number ≡ wrong_depth → Rooms code values fields → Emptied code values code' values' 0
    → Written fields fields' (refused_fields number 0) → Refuses wrong_depth 0 code values fields code' values' fields'
deep-refused code values fields code' values' fields' number n r e w =
    record { code-left = left-empty code code' r.code-room e.code-cleared; values-left = left-empty values values' r.values-room e.values-cleared; told = rw n at w }

pub refusal-tells : {code values fields code' values' fields' : List ℕ} (out : List ℕ) (number offset : ℕ) → Refuses number offset code values fields code' values' fields'
    → Tells (refused_with (record { number = number; offset = offset })) out code values fields out code' values' fields'
unfolding refused_with refused_fields
refusal-tells out number offset f = record { output = refl; code-left = f.code-left; values-left = f.values-left; told = f.told }
