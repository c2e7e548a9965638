-- The promise allows one outcome alone.
use mathlib.Core.Path.{◌≡◌, sym, ap, ◌∙◌}
use mathlib.Core.List.{List}
use Prim.Native.Nat.{ℕ}
use Rattle.paper.specs.Answer.{LentBytes, BytesAnswer}
use Rattle.call_pendant.specs.Calls.{Calls, FlaggedCalls}

abbrev Left : (r : ℕ) (out code values fields : List ℕ) → BytesAnswer
Left r out code values fields = record { returned = r; output = out; code = code; values = values; fields = fields }

-- What is returned, and every lent byte.
abbrev pub One : (r r' : ℕ) (out out' code code' values values' fields fields' : List ℕ) → Type 0
One r r' out out' code code' values values' fields fields' = (r ≡ r') × (out ≡ out') × (code ≡ code') × (values ≡ values') × (fields ≡ fields')

module _ {r r' : ℕ} {out out' code code' values values' fields fields' : List ℕ} where
  one : Left r out code values fields ≡ Left r' out' code' values' fields' → One r r' out out' code code' values values' fields fields'
  one e = (ap (λ (x : BytesAnswer). x.returned) e, ap (λ (x : BytesAnswer). x.output) e, ap (λ (x : BytesAnswer). x.code) e, ap (λ (x : BytesAnswer). x.values) e, ap (λ (x : BytesAnswer). x.fields) e)

  pub call-unique : {l : LentBytes} → Calls l r out code values fields → Calls l r' out' code' values' fields' → One r r' out out' code code' values values' fields fields'
  call-unique p q = one (p.is ∙ sym q.is)

  pub flagged-unique : {flags : ℕ} {l : LentBytes} → FlaggedCalls flags l r out code values fields → FlaggedCalls flags l r' out' code' values' fields'
      → One r r' out out' code code' values values' fields fields'
  flagged-unique p q = one (p.is ∙ sym q.is)
