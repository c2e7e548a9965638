-- Signs.
use mathlib.Core.Path.{◌≡◌, refl, sym, ◌∙◌}
use mathlib.Core.Bool.{Bool, true, false}
use mathlib.Core.List.{List, [], ◌∷◌}
use Prim.Native.Nat.{ℕ, zero, suc, ◌<◌, ◌≤◌}
use native.Mathlib.Omega.{arith}
use lib.ListN.{length, get_or}
use Rattle.laws.proofs.Tests.{test}
use Rattle.paper.specs.Sorts.{sign_sort}
use Rattle.paper.specs.Words.{permitted, scan_sign, word, refused, malformed}
use Rattle.layout.specs.Rules.{bad_byte}
use Rattle.text_scanner.specs.Answers.{pair_sort, sign_or_none}
use Rattle.text_scanner.proofs.Bytes.{unpaired-below, unpaired-above, sign-permitted}

pub no-pair : (text : List ℕ) → length text ≤ 1 → 0 ≡ pair_sort text
unfolding pair_sort
no-pair [] h = refl
no-pair (b ∷ []) h = refl
no-pair (b ∷ c ∷ r) h = absurd (omega arith)

pub a_pair : (text : List ℕ) (s : ℕ) → 1 < length text → s ≡ sign_sort (get_or text 0 0 ∷ get_or text 1 0 ∷ []) → s ≡ pair_sort text
unfolding pair_sort
a_pair [] s h e = absurd (omega arith)
a_pair (b ∷ []) s h e = absurd (omega arith)
a_pair (b ∷ c ∷ r) s h e = e

pub no-pair-below : (text : List ℕ) → get_or text 0 0 < 58 → 0 ≡ pair_sort text
unfolding pair_sort
no-pair-below [] h = refl
no-pair-below (b ∷ []) h = refl
no-pair-below (b ∷ c ∷ r) h = unpaired-below b c h

pub no-pair-above : (text : List ℕ) → 62 < get_or text 0 0 → 0 ≡ pair_sort text
unfolding pair_sort
no-pair-above [] h = refl
no-pair-above (b ∷ []) h = refl
no-pair-above (b ∷ c ∷ r) h = unpaired-above b c h

-- a sort is no zero
picked : (s : ℕ) {A : Type 0} (f : ℕ → A) (a : A) → (s ≡ 0 → ⊥) → elim s [ zero ↦ a | suc m ↦ f (suc m) ] ≡ f s
picked zero f a h = absurd (h refl)
picked (suc m) f a h = refl

-- ---- what the definition says, by the sorts of the first two bytes and of the first
sign-two : (text : List ℕ) (s : ℕ) → s ≡ pair_sort text → (s ≡ 0 → ⊥) → word s 2 0 ≡ scan_sign text
unfolding pair_sort scan_sign
sign-two [] s e h = absurd (h e)
sign-two (b ∷ []) s e h = absurd (h e)
sign-two (b ∷ c ∷ r) s e h = rw (← e, scan_sign) (sym (picked s (λ x. word x 2 0) _ h))

sign-one : (text : List ℕ) (p s : ℕ) → 0 < length text → p ≡ pair_sort text → p ≡ 0 → s ≡ sign_sort (get_or text 0 0 ∷ []) → (s ≡ 0 → ⊥) → word s 1 0 ≡ scan_sign text
unfolding pair_sort scan_sign
sign-one [] p s g e z i h = absurd (omega arith)
sign-one (b ∷ []) p s g e z i h = rw (← i, scan_sign) (sym (picked s (λ x. word x 1 0) _ h))
sign-one (b ∷ c ∷ r) p s g e z i h = rw (sym e ∙ z, scan_sign) (rw (← i) (sym (picked s (λ x. word x 1 0) _ h)))

sign-none : (text : List ℕ) (p s : ℕ) → 0 < length text → p ≡ pair_sort text → p ≡ 0 → s ≡ sign_sort (get_or text 0 0 ∷ []) → s ≡ 0 → malformed ≡ scan_sign text
unfolding pair_sort scan_sign
sign-none [] p s g e z i h = absurd (omega arith)
sign-none (b ∷ []) p s g e z i h = rw (sym i ∙ h, scan_sign) (rw (sym i ∙ h))
sign-none (b ∷ c ∷ r) p s g e z i h = rw (sym e ∙ z, scan_sign) (rw (sym i ∙ h))

-- ---- the answers, given that a sign begins with a permitted byte
permitted-two : (text : List ℕ) → (pair_sort text ≡ 0 → ⊥) → permitted (get_or text 0 0) ≡ true
unfolding pair_sort
permitted-two [] h = absurd (h refl)
permitted-two (b ∷ []) h = absurd (h refl)
permitted-two (b ∷ c ∷ r) h = test (permitted b) (λ t. t) (λ t. absurd (h (sign-permitted b (c ∷ []) t)))

permitted-one : (b : ℕ) → (sign_sort (b ∷ []) ≡ 0 → ⊥) → permitted b ≡ true
permitted-one b h = test (permitted b) (λ t. t) (λ t. absurd (h (sign-permitted b [] t)))

pub pair-told : (text : List ℕ) (s : ℕ) → s ≡ pair_sort text → (s ≡ 0 → ⊥) → word s 2 0 ≡ sign_or_none text
unfolding sign_or_none
pair-told text s e h = rw (permitted-two text (λ z. h (e ∙ z)), sign_or_none) (sign-two text s e h)

module _ (text : List ℕ) (p s : ℕ) (some : 0 < length text) (e : p ≡ pair_sort text) (z : p ≡ 0) (i : s ≡ sign_sort (get_or text 0 0 ∷ [])) where
  pub sign-told : (s ≡ 0 → ⊥) → word s 1 0 ≡ sign_or_none text
  unfolding sign_or_none
  sign-told h = rw (permitted-one (get_or text 0 0) (λ y. h (i ∙ y)), sign_or_none) (sign-one text p s some e z i h)

  module _ (y : s ≡ 0) (t : Bool) (is : t ≡ permitted (get_or text 0 0)) where
    pub none_told : t ≡ true → malformed ≡ sign_or_none text
    unfolding sign_or_none
    none_told g = rw (sym is ∙ g, sign_or_none) (sign-none text p s some e z i y)

    pub bad-told : t ≡ false → refused bad_byte 0 ≡ sign_or_none text
    unfolding sign_or_none
    bad-told g = rw (sym is ∙ g, sign_or_none)
