-- Letters and texts with letter case folded.
use mathlib.Core.Path.{◌≡◌, sym, ap, ap₂, ◌∙◌}
use mathlib.Core.Bool.{Bool, true, false, not}
use mathlib.Core.List.{List, ◌∷◌, map}
use Prim.Native.Nat.{ℕ, ◌+◌, ◌<◌, ◌≤◌}
use native.Mathlib.Omega.{arith}
use lib.Dec.{eqb}
use lib.ListN.{length, get_or, drop, length-map, drop_of_length-le}
use borrow.Author.Tests.{not-true, not-false, eq-eqb, lt-ltb, le-ltb, le-leb, lt-leb}
use Rattle.std.specs.Char.{to_ascii_uppercase}
use Rattle.std.proofs.lemmas.Str.Ascii.{uppercase_is}
use Rattle.laws.proofs.Tests.{by_less, by_most}
use Rattle.laws.proofs.Lists.{rest}
use Rattle.paper.specs.Sorts.{folded, equal_texts}
use Rattle.check_names.proofs.Spellings.{texts-differ}

-- ---- letters
-- the library's capital of a letter is the paper's
pub folds : (b x : ℕ) → x ≡ to_ascii_uppercase b → x ≡ folded b
unfolding folded
folds b x e =
    let up = uppercase_is b in
    by_less b 97 (λ h. rw (lt-ltb b 97 h, folded) (e ∙ up.1 h))
    (λ h. by_most b 122 (λ g. rw (le-ltb b 97 h, folded) (rw (le-leb b 122 g) (omega (arith, e, up.0 (h, g))))) (λ g. rw (le-ltb b 97 h, folded) (rw (lt-leb b 122 g) (e ∙ up.2 g))))

pub alike-equal : (a b : ℕ) → a ≡ b → true ≡ eqb (folded a) (folded b)
alike-equal a b e = sym (eq-eqb (folded a) (folded b) (ap folded e))

pub alike-folded : (a b x y : ℕ) → x ≡ to_ascii_uppercase a → y ≡ to_ascii_uppercase b → eqb x y ≡ eqb (folded a) (folded b)
alike-folded a b x y e g = ap₂ eqb (folds a x e) (folds b y g)

-- ---- texts
abbrev pub same_names : List ℕ → List ℕ → Bool
same_names a b = equal_texts (map folded a) (map folded b)

-- up to i they agree
pub record Agrees (a b : List ℕ) (i : ℕ) : Type 0 where
  pub sizes : length a ≡ length b
  pub left : same_names a b ≡ same_names (drop i a) (drop i b)

pub lengths_differ : (a b : List ℕ) → (length a ≡ length b → ⊥) → false ≡ same_names a b
lengths_differ a b d = sym (texts-differ (map folded a) (map folded b) (λ e. d (sym (length-map a folded) ∙ ap length e ∙ length-map b folded)))

module _ (a b : List ℕ) (i : ℕ) (at : Agrees a b i) where
  pub agrees-end : length a ≤ i → true ≡ same_names a b
  unfolding equal_texts
  agrees-end h =
      let g : length b ≤ i = omega (arith, at.sizes) in
      sym (at.left ∙ rw (drop_of_length-le a h, drop_of_length-le b g))

  module _ (h : i < length a) where
    here : same_names (drop i a) (drop i b) ≡ same_names (get_or a i 0 ∷ drop (i + 1) a) (get_or b i 0 ∷ drop (i + 1) b)
    here = ap₂ same_names (rest a i h) (rest b i (omega (arith, at.sizes)))

    pub agrees-not : (r : Bool) → r ≡ eqb (folded (get_or a i 0)) (folded (get_or b i 0)) → not r ≡ true → false ≡ same_names a b
    unfolding equal_texts
    agrees-not r e f = sym (at.left ∙ here ∙ rw (sym e ∙ not-true r f, equal_texts))

    pub agrees_on : (r : Bool) → r ≡ eqb (folded (get_or a i 0)) (folded (get_or b i 0)) → not r ≡ false → Agrees a b (i + 1)
    unfolding equal_texts
    agrees_on r e f = record { sizes = at.sizes; left = at.left ∙ here ∙ rw (sym e ∙ not-false r f, equal_texts) }
