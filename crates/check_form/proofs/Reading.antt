-- What the code reads of single words, and how answers go on.
use mathlib.Core.Path.{◌≡◌, refl, sym, ◌∙◌}
use mathlib.Core.List.{List}
use Prim.Native.Nat.{ℕ, ◌+◌, ◌*◌, ◌%◌, ◌<◌, ◌≤◌}
use native.Mathlib.Omega.{arith}
use lib.ListN.{get_or}
use mir.Syntax.{w64}
use mir.Val.{Fits}
use borrow.Author.Tests.{lt-ltb, le-ltb}
use Rattle.laws.proofs.Tests.{by_less}
use Rattle.store_cells.specs.Cells.{cells_of}
use Rattle.std.specs.Prelude.{Ok, Err}
use Rattle.layout.specs.declared.rules.Breach.{Breach}
use Rattle.check_form.specs.Places.{Read, Parted, Lent, sorts_in, ◌▸◌, ◌▹◌}

-- ---- answers

-- what is read on from a place, and from a refusal
pub ok-then : (n : ℕ) (f : ℕ → Read) → (Ok n ▸ f) ≡ f n
unfolding ◌▸◌
ok-then n f = refl

pub err-then : (b : Breach) (f : ℕ → Read) → (Err b ▸ f) ≡ Err b
unfolding ◌▸◌
err-then b f = refl

pub ok-into : (n : ℕ) (f : ℕ → Parted) → (Ok n ▹ f) ≡ f n
unfolding ◌▹◌
ok-into n f = refl

pub err-into : (b : Breach) (f : ℕ → Parted) → (Err b ▹ f) ≡ Err b
unfolding ◌▹◌
err-into b f = refl

-- what the code's proofs are found with
pub ruleset steps = (ok-then, err-then, ok-into, err-into)

-- ---- sorts

module _ (code : List ℕ) (words : ℕ) where
  pub sort-in : (at v : ℕ) → at < words → v ≡ get_or (cells_of code) (2 * at) 0 → v % 256 ≡ sorts_in code words at
  unfolding sorts_in
  sort-in at v h e = rw (lt-ltb at words h, e)

  pub sort-past : (at : ℕ) → words ≤ at → 0 ≡ sorts_in code words at
  unfolding sorts_in
  sort-past at h = rw (le-ltb at words h)

  -- a word is there
  pub within : (at : ℕ) → (sorts_in code words at ≡ 0 → ⊥) → at < words
  within at h = by_less at words (λ l. l) (λ l. absurd (h (sym (sort-past at l))))

  -- and so the place after it fits
  pub place-fits : Lent code words → (at v : ℕ) → v ≡ sorts_in code words at → (v ≡ 0 → ⊥) → Fits w64 (at + 1)
  place-fits f at v e h = record { fits = omega (arith, within at (λ q. h (e ∙ q)), f.few) }
