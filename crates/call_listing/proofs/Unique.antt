-- The public promise settles the result and every lent byte.
use mathlib.Core.Path.{◌≡◌, sym, ◌∙◌}
use mathlib.Core.List.{List}
use Prim.Native.Nat.{ℕ}
use Rattle.call_listing.specs.Listing.{Exported}

pub rapid-list-unique : (text out answer : List ℕ) (r s : ℕ) (o p a b : List ℕ) → Exported text out answer r o a → Exported text out answer s p b
    → (r ≡ s) × (o ≡ p) × (a ≡ b)
rapid-list-unique text out answer r s o p a b h g =
    (h.result ∙ sym g.result, h.entries ∙ sym g.entries, h.summary ∙ sym g.summary)
