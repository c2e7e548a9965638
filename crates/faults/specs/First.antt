-- Where the faults of a piece lie, and which of them comes first.
use Rattle.std.specs.Prelude.{◌≡◌, true, ℕ, ◌≤◌, ◌<◌}
use mathlib.Core.List.{List, [], ◌∷◌, Memᴰ}
use Rattle.paper.specs.Types.{Fault, comes_first}

-- Something holds of every fault of a list.
infixr 5 ◌also◌
pub data Every (Q : Fault → Type 0) : List Fault → Type 0 where
  no-fault : Every Q []
  ◌also◌ : {f : Fault} {r : List Fault} → Q f → Every Q r → Every Q (f ∷ r)

-- A fault is at a word from a on and before b.
pub record Between (a b : ℕ) (f : Fault) : Type 0 where
  pub low : a ≤ f.at
  pub high : f.at < b

abbrev pub Inside : (a b : ℕ) → List Fault → Type 0
Inside a b fs = Every (Between a b) fs

-- f comes before g, or is g.
pub record Precedes (f g : Fault) : Type 0 where
  pub comes : comes_first f g ≡ true

abbrev pub Leads : Fault → List Fault → Type 0
Leads f fs = Every (Precedes f) fs

-- The fault to be answered: one of them, that comes before all others.
pub record First (f : Fault) (fs : List Fault) : Type 0 where
  pub among : Memᴰ f fs
  pub leads : Leads f fs

-- The fault at the head of a list, if there is one, comes first: a walk in the order of the text finds it.
pub data Headed : List Fault → Type 0 where
  none-there : Headed []
  leads-others : {f : Fault} {r : List Fault} → Leads f r → Headed (f ∷ r)

-- The faults of the words from a up to b, as a walk over them finds them.
pub record Ordered (a b : ℕ) (fs : List Fault) : Type 0 where
  pub inside : Inside a b fs
  pub headed : Headed fs
