-- How a word starts.
use mathlib.Core.Path.{◌≡◌, refl, sym, ap, ◌∙◌}
use mathlib.Core.Bool.{Bool, true, false}
use mathlib.Core.List.{List, [], ◌∷◌}
use Prim.Native.Nat.{ℕ, ◌<◌, ◌≤◌}
use native.Mathlib.Omega.{arith}
use lib.ListN.{length, get_or}
use borrow.Author.Tests.{eq-eqb, ne_eqb, lt-ltb, le-ltb}
use Rattle.paper.specs.Words.{Scan, word, refused, malformed, name_limit, largest_number, leading, in_name, between, permitted, letter, digit, scan_name, scan_number, scan_string, scan}
use Rattle.layout.specs.Rules.{bad_byte}
use Rattle.laws.proofs.Tests.{test}
use Rattle.text_reserved.specs.declared.Name.{Name}
use Rattle.text_reserved.specs.Promise.{Named}
use Rattle.text_scanner.specs.Answers.{sign_or_none}
use Rattle.text_scanner.proofs.Bytes.{letter-permitted, digit-permitted, quote-permitted}

abbrev front : List ℕ → ℕ
front text = get_or text 0 0

pub nothing : (text : List ℕ) → length text ≡ 0 → refused bad_byte 0 ≡ scan largest_number (front text) text
unfolding scan permitted between
nothing [] h = refl
nothing (b ∷ r) h = absurd (omega arith)

module _ (text : List ℕ) (l : Bool) (letters : l ≡ letter (front text)) where
  pub a-name : (s : Scan) → l ≡ true → s ≡ scan_name text → s ≡ scan largest_number (front text) text
  unfolding scan
  a-name s g e = let t = sym letters ∙ g in e ∙ sym (rw (letter-permitted (front text) t, scan) (rw t))

  module _ (g : l ≡ false) (d : Bool) (digits : d ≡ digit (front text)) where
    no-letter : letter (front text) ≡ false
    no-letter = sym letters ∙ g

    pub a-number : (s : Scan) → d ≡ true → s ≡ scan_number largest_number text → s ≡ scan largest_number (front text) text
    unfolding scan
    a-number s k e = let t = sym digits ∙ k in e ∙ sym (rw (digit-permitted (front text) t, scan) (rw no-letter (rw t)))

    module _ (k : d ≡ false) where
      pub a-string : (s : Scan) → front text ≡ 34 → s ≡ scan_string text → s ≡ scan largest_number (front text) text
      unfolding scan
      a-string s q e =
          e ∙ sym (rw (quote-permitted (front text) q, scan) (rw no-letter (rw (sym digits ∙ k) (rw (eq-eqb (front text) 34 q)))))

      pub a-sign : (s : Scan) → (front text ≡ 34 → ⊥) → s ≡ sign_or_none text → s ≡ scan largest_number (front text) text
      unfolding scan sign_or_none
      a-sign s q e =
          test (permitted (front text))
          (λ t. e ∙ rw (t, sign_or_none) (sym (rw (t, scan) (rw no-letter (rw (sym digits ∙ k) (rw (ne_eqb (front text) 34 q)))))))
          (λ t. e ∙ rw (t, sign_or_none) (sym (rw (t, scan))))

-- ---- names
module _ (text : List ℕ) (n : Name) (is : Named text n) where
  pub name-long : name_limit < n.length → malformed ≡ scan_name text
  unfolding scan_name
  name-long h = let g : name_limit < leading in_name text = omega (arith, is.count) in rw (lt-ltb name_limit (leading in_name text) g, scan_name)

  pub name-short : n.length ≤ name_limit → word n.sort n.length 0 ≡ scan_name text
  unfolding scan_name
  name-short h =
      let g : leading in_name text ≤ name_limit = omega (arith, is.count) in
      rw (le-ltb name_limit (leading in_name text) g, scan_name) (rw (← is.count) (ap (λ (x : ℕ). word x n.length 0) is.kind))
