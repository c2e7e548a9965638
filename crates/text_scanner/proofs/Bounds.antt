-- A word lies in the text that it is scanned in, and so does a refusal.
use mathlib.Core.Path.{◌≡◌, refl}
use mathlib.Core.Bool.{Bool, true, false}
use mathlib.Core.List.{List, [], ◌∷◌}
use mathlib.Core.Option.{Option, none, some}
use Prim.Native.Nat.{ℕ, zero, suc, ◌<◌, ◌≤◌}
use native.Mathlib.Omega.{arith}
use lib.Dec.{eqb, ltb}
use lib.ListN.{length, get_or, take, length-take}
use Rattle.laws.proofs.Tests.{test}
use Rattle.paper.specs.Sorts.{sign_sort}
use Rattle.paper.specs.Words.{Scan, word, refused, name_limit, string_limit, leading, in_name, letter, digit, permitted, permitted_inside, spoils_number, value_of, string_end, scan_name, scan_number, scan_string, scan_sign, scan}
use Rattle.text_scanner.proofs.Strings.{end-within}

abbrev pub Within : List ℕ → Scan → Type 0
Within l (word sort n v) = (0 < n) × (n ≤ length l)
Within l (refused number after) = after ≤ length l

leading_length : (such : ℕ → Bool) (l : List ℕ) → leading such l ≤ length l
unfolding leading
leading_length such [] = omega arith
leading_length such (b ∷ r) = test (such b) (λ t. rw (t, leading) (omega (arith, leading_length such r))) (λ t. rw (t, leading) (omega arith))

module _ (b : ℕ) (r : List ℕ) where
  leading-some : (such : ℕ → Bool) → such b ≡ true → (0 < leading such (b ∷ r)) × (leading such (b ∷ r) ≤ length (b ∷ r))
  unfolding leading
  leading-some such t = (rw (t, leading) (omega arith), leading_length such (b ∷ r))

  name-within : letter b ≡ true → Within (b ∷ r) (scan_name (b ∷ r))
  unfolding scan_name in_name
  name-within h =
      test (ltb name_limit (leading in_name (b ∷ r))) (λ t. rw (t, scan_name) (omega arith))
      (λ t. rw (t, scan_name) (leading-some in_name (rw (h, in_name))))

  number-within : (largest : ℕ) → digit b ≡ true → Within (b ∷ r) (scan_number largest (b ∷ r))
  unfolding scan_number
  number-within largest h =
      test (spoils_number (get_or (b ∷ r) (leading digit (b ∷ r)) 0)) (λ t. rw (t, scan_number) (omega arith))
      (λ t. test (ltb largest (value_of (take (leading digit (b ∷ r)) (b ∷ r)) 0))
      (λ g. rw (t, scan_number) (rw g (omega arith)))
      (λ g. rw (t, scan_number) (rw g (leading-some digit h))))

  string-within : Within (b ∷ r) (scan_string (b ∷ r))
  unfolding scan_string
  string-within = ended (string_end string_limit false r 1) refl
    where
      inside : (n : ℕ) → string_end string_limit false r 1 ≡ some n → (1 ≤ n) × (n ≤ length (b ∷ r))
      inside n e = let x = end-within string_limit false r 1 n e in (omega arith, omega arith)

      ended : (o : Option ℕ) → string_end string_limit false r 1 ≡ o → Within (b ∷ r) (scan_string (b ∷ r))
      ended none e = rw (e, scan_string) (omega arith)
      ended (some n) e =
          test (ltb (leading permitted_inside (b ∷ r)) n)
          (λ t. rw (e, scan_string) (rw t (leading_length permitted_inside (b ∷ r))))
          (λ t. rw (e, scan_string) (rw t (inside n e)))

  sign-within : Within (b ∷ r) (scan_sign (b ∷ r))
  unfolding scan_sign
  sign-within = pair (sign_sort (take 2 (b ∷ r))) refl
    where
      one : (s : ℕ) → sign_sort (take 2 (b ∷ r)) ≡ 0 → sign_sort (take 1 (b ∷ r)) ≡ s → Within (b ∷ r) (scan_sign (b ∷ r))
      one zero z e = rw (z, scan_sign) (rw e (omega arith))
      one (suc s) z e = rw (z, scan_sign) (rw e (omega arith, omega arith))

      pair : (s : ℕ) → sign_sort (take 2 (b ∷ r)) ≡ s → Within (b ∷ r) (scan_sign (b ∷ r))
      pair zero e = one (sign_sort (take 1 (b ∷ r))) e refl
      pair (suc s) e = rw (e, scan_sign) (simp length-take (omega arith), simp length-take (omega arith))

  pub scan-within : (largest : ℕ) → Within (b ∷ r) (scan largest b (b ∷ r))
  unfolding scan
  scan-within largest =
      test (permitted b) (λ p. test (letter b) (λ t. rw (p, scan) (rw t (name-within t)))
      (λ t. test (digit b) (λ d. rw (p, scan) (rw t (rw d (number-within largest d))))
      (λ d. test (eqb b 34) (λ q. rw (p, scan) (rw t (rw d (rw q string-within))))
      (λ q. rw (p, scan) (rw t (rw d (rw q sign-within)))))))
      (λ p. rw (p, scan) (omega arith))
