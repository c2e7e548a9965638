-- What it is to put bytes into a lent slice at a place, whole or not at all, and what each function promises.
use Rattle.std.specs.Prelude.{◌≡◌, Bool, true, false, List, ℕ, ◌+◌, leb, ℤ, length, Option, Some, None}
use Rattle.laws.specs.Lists.{replaced}
use Rattle.paper.specs.Numbers.{decimal}

-- The bytes s fit from `at` on.
abbrev pub fit : List ℕ → ℕ → List ℕ → Bool
fit out at s = leb (at + length s) (length out)

-- The answer: the place after the last byte, or none.
unfoldable pub answer : List ℕ → ℕ → List ℕ → Option ℕ
answer out at s = elim (fit out at s) [ true ↦ Some (at + length s) | false ↦ None ]

-- The slice then: the earlier bytes, s, and what is past it, as it was; unchanged where s does not fit.
unfoldable pub placed : List ℕ → ℕ → List ℕ → List ℕ
placed out at s = elim (fit out at s) [ true ↦ replaced out at s (length s) | false ↦ out ]

pub record Puts (before after : List ℕ) (at : ℕ) (s : List ℕ) (r : Option ℕ) : Type 0 where
  pub result : r ≡ answer before at s
  pub bytes : after ≡ placed before at s

-- z in plain decimal takes k bytes.
abbrev pub Takes : (z : ℤ) (k : ℕ) → Type 0
Takes z k = k ≡ length (decimal z)

-- z in plain decimal is put at `at`.
abbrev pub PutsNumber : (before after : List ℕ) (at : ℕ) (z : ℤ) (r : Option ℕ) → Type 0
PutsNumber before after at z r = Puts before after at (decimal z) r
