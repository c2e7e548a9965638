-- The promise allows one outcome alone.
use mathlib.Core.Path.{◌≡◌, sym, ap, ◌∙◌}
use mathlib.Core.List.{List}
use Prim.Native.Nat.{ℕ}
use Rattle.marks.specs.Marks.{MarkLent, MarkAnswer}
use Rattle.call_marking.specs.Marks.{Marks}

-- What is returned, and every lent byte.
pub mark-unique : {l : MarkLent} {r r' : ℕ} {out out' code code' values values' fields fields' answer answer' : List ℕ}
    → Marks l r out code values fields answer → Marks l r' out' code' values' fields' answer'
    → (r ≡ r') × (out ≡ out') × (code ≡ code') × (values ≡ values') × (fields ≡ fields') × (answer ≡ answer')
mark-unique p q =
    let e = p.is ∙ sym q.is in (
      ap (λ (x : MarkAnswer). x.call.returned) e,
      ap (λ (x : MarkAnswer). x.call.output) e,
      ap (λ (x : MarkAnswer). x.call.code) e,
      ap (λ (x : MarkAnswer). x.call.values) e,
      ap (λ (x : MarkAnswer). x.call.fields) e,
      ap (λ (x : MarkAnswer). x.answer) e,
    )
