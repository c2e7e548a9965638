-- Runs of bytes of a kind.
use mathlib.Core.Path.{◌≡◌, refl, sym, ◌∙◌}
use mathlib.Core.Bool.{Bool, true, false, ◌||◌}
use mathlib.Core.List.{List, [], ◌∷◌}
use Prim.Native.Nat.{ℕ, suc, ◌+◌, ◌<◌, ◌≤◌}
use native.Mathlib.Nat.{zero-add}
use native.Mathlib.Omega.{arith}
use lib.Dec.{eqb}
use lib.ListN.{length, get_or, drop, drop_of_length-le, get_or-eq_default}
use Rattle.laws.proofs.Lists.{rest}
use Rattle.laws.proofs.Tests.{test, false-true, by_less}
use Rattle.paper.specs.Words.{UNDERSCORE, between, leading, letter, digit, in_name}
use Rattle.text_reserved.specs.Runs.{Counted}

-- What is left of a leading of which n bytes are passed.
pub record Run (such : ℕ → Bool) (text : List ℕ) (n : ℕ) : Type 0 where
  pub place : n ≤ length text
  pub left : leading such text ≡ n + leading such (drop n text)

module _ (such : ℕ → Bool) (text : List ℕ) where
  pub run-start : Run such text 0
  run-start = record { place = omega arith; left = sym (zero-add (leading such text)) }

  module _ (n : ℕ) (at : Run such text n) where
    pub run_out : length text ≤ n → Counted such text n
    unfolding leading
    run_out h = record {
      exact = let e : leading such (drop n text) ≡ 0 = rw (drop_of_length-le text h) in omega (arith, at.left);
      within = at.place;
    }

    module _ (t : Bool) (h : n < length text) (is : t ≡ such (get_or text n 0)) where
      pub run_more : t ≡ true → Run such text (n + 1)
      unfolding leading
      run_more g = record {
        place = omega arith;
        left = let e : leading such (drop n text) ≡ suc (leading such (drop (n + 1) text)) = rw (rest text n h) (rw (sym is ∙ g, leading)) in omega (arith, at.left);
      }

      pub run-stop : t ≡ false → Counted such text n
      unfolding leading
      run-stop g = record {
        exact = let e : leading such (drop n text) ≡ 0 = rw (rest text n h) (rw (sym is ∙ g, leading)) in omega (arith, at.left);
        within = at.place;
      }

-- ---- a name that begins with letters
letter-in-name : (b : ℕ) → letter b ≡ true → in_name b ≡ true
unfolding in_name
letter-in-name b t = rw (t, in_name)

-- by what follows the letters
pub goes_by : (b : ℕ) (t more : Bool) → t ≡ letter b → t ≡ false → more ≡ digit b || eqb b UNDERSCORE → more ≡ in_name b
unfolding in_name
goes_by b t more is h e = rw (sym is ∙ h, in_name) e

letters-in-name : (l : List ℕ) → leading in_name l ≡ leading letter l + leading in_name (drop (leading letter l) l)
unfolding leading
letters-in-name [] = refl
letters-in-name (b ∷ r) =
    test (letter b) (λ t. rw (t, leading) (rw (letter-in-name b t, leading) (omega (arith, letters-in-name r)))) (λ t. rw (t, leading) (omega arith))

pub none-behind : (text : List ℕ) (n : ℕ) → length text ≤ n → false ≡ in_name (get_or text n 0)
unfolding in_name letter digit between
none-behind text n h = rw (get_or-eq_default text 0 h)

module _ (text : List ℕ) (n : ℕ) (is : Counted letter text n) where
  pub letters-run : Run in_name text n
  letters-run = record { place = is.within; left = rw is.exact (letters-in-name text) }

  -- by the byte after the letters
  pub goes-on : in_name (get_or text n 0) ≡ true → n < leading in_name text
  unfolding leading
  goes-on t =
      by_less n (length text)
      (λ h. let e : leading in_name (drop n text) ≡ suc (leading in_name (drop (n + 1) text)) = rw (rest text n h) (rw (t, leading)) in omega (arith, letters-run.left))
      (λ h. false-true (none-behind text n h ∙ t))

  pub goes-off : in_name (get_or text n 0) ≡ false → n ≡ leading in_name text
  unfolding leading
  goes-off t =
      by_less n (length text)
      (λ h. let e : leading in_name (drop n text) ≡ 0 = rw (rest text n h) (rw (t, leading)) in omega (arith, letters-run.left))
      (λ h. let e : leading in_name (drop n text) ≡ 0 = rw (drop_of_length-le text h) in omega (arith, letters-run.left))
