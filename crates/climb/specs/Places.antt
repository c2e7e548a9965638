-- Where the words of an expression stand.
use Rattle.std.specs.Prelude.{◌≡◌, ℕ, ◌+◌, ◌-◌}
use Rattle.paper.specs.Trees.{Expr, leaf, element, nested, signed, joined}

-- Its words are those from a up to b.
unfoldable pub Spans : Expr → (a b : ℕ) → Type 0
Spans (leaf i) a b = (i ≡ a) × (b ≡ a + 1)
Spans (element i e) a b = (i ≡ a) × Spans e (a + 2) (b - 1)
Spans (nested i e) a b = (i ≡ a) × Spans e (a + 1) (b - 1)
Spans (signed i e) a b = (i ≡ a) × Spans e (a + 1) b
Spans (joined i l r) a b = Spans l a i × Spans r (i + 1) b
