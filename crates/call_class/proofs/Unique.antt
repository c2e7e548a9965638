-- The promise allows one outcome alone.
use mathlib.Core.Path.{◌≡◌, sym, ap, ◌∙◌}
use mathlib.Core.List.{List}
use Prim.Native.Nat.{ℕ}
use Rattle.classes.specs.Classes.{ClassLent, ClassAnswer}
use Rattle.call_class.specs.Classes.{Classes}

-- What is returned, and every lent byte.
pub class-unique : {l : ClassLent} {r r' : ℕ} {out out' code code' values values' records'' records' data'' data' : List ℕ}
    → Classes l r out code values records'' data'' → Classes l r' out' code' values' records' data'
    → (r ≡ r') × (out ≡ out') × (code ≡ code') × (values ≡ values') × (records'' ≡ records') × (data'' ≡ data')
class-unique p q =
    let e = p.is ∙ sym q.is in
    (ap (λ (x : ClassAnswer). x.returned) e, ap (λ (x : ClassAnswer). x.output) e, ap (λ (x : ClassAnswer). x.code) e, ap (λ (x : ClassAnswer). x.values) e, ap (λ (x : ClassAnswer). x.records) e, ap (λ (x : ClassAnswer). x.module-data) e)
