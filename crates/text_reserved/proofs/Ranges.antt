-- Tests of a byte: chains of them, and ranges.
use mathlib.Core.Path.{◌≡◌, refl, sym, ◌∙◌}
use mathlib.Core.Bool.{Bool, true, false, ◌||◌}
use Prim.Native.Nat.{ℕ, ◌<◌, ◌≤◌}
use lib.Dec.{ltb, leb}
use borrow.Author.Tests.{ltb-false, eq-eqb, ne_eqb, lt-ltb, le-ltb, le-leb, leb-true}
use Rattle.laws.proofs.Tests.{test, false-true}
use Rattle.paper.specs.Words.{between}

-- A chain is true where one of its tests is, and is its last test where the others are false.
pub passed : (x y : Bool) → x ≡ true → x || y ≡ true
passed true y h = refl
passed false y h = false-true h

pub passed-by : (x y : Bool) → x ≡ false → y ≡ true → x || y ≡ true
passed-by x y h g = rw h g

pub failed : (x y : Bool) → x ≡ false → y ≡ false → x || y ≡ false
failed x y h g = rw h g

pub left-to : (r x y : Bool) → x ≡ false → r ≡ y → r ≡ x || y
left-to r x y h g = rw h g

pub said : (t x r : Bool) → t ≡ x → t ≡ r → x ≡ r
said t x r h g = sym h ∙ g

pub answers : (x : Bool) → x ≡ true → true ≡ x
answers x h = sym h

-- what answers a chain from the tests before it
pub ruleset chain = (passed, passed-by, failed, left-to, said, answers, eq-eqb, ne_eqb)

pub below-range : (low high b : ℕ) → b < low → false ≡ between low high b
unfolding between
below-range low high b h = rw (lt-ltb b low h, between)

pub in-range : (low high b : ℕ) → low ≤ b → leb b high ≡ between low high b
unfolding between
in-range low high b h = rw (le-ltb b low h, between)

pub range : (low high b : ℕ) → between low high b ≡ true → (low ≤ b) × (b ≤ high)
unfolding between
range low high b t =
    test (ltb b low) (λ e. false-true (rw (e, between) at t)) (λ e. (ltb-false b low e, leb-true b high (rw (e, between) at t)))

pub ranges : (low high b : ℕ) → low ≤ b → b ≤ high → between low high b ≡ true
ranges low high b h g = sym (in-range low high b h) ∙ le-leb b high g
