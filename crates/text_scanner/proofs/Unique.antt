-- Each public promise settles the result.
use mathlib.Core.Path.{◌≡◌, sym, ap, ◌∙◌}
use mathlib.Core.List.{List}
use Prim.Native.Nat.{ℕ}
use Rattle.laws.proofs.Tests.{apart}
use Rattle.std.specs.Prelude.{Ok, Err}
use Rattle.layout.specs.declared.rules.Rule.{Rule}
use Rattle.layout.proofs.RuleNumbers.{number-injective}
use Rattle.text_scanner.specs.Answers.{Scan, Gap, scan_of, gap_of, Scanned, Skipped}

pub scan-of-one : (r s : Scan) → scan_of r ≡ scan_of s → r ≡ s
scan-of-one (Ok t) (Ok u) h =
    let sort : t.sort ≡ u.sort = cc in
    let size : t.length ≡ u.length = cc in
    let value : t.value ≡ u.value = cc in
    ap Ok (ap (λ (x : ℕ). record { sort = x; length = t.length; value = t.value }) sort
    ∙ ap (λ (x : ℕ). record { sort = u.sort; length = x; value = t.value }) size
    ∙ ap (λ (x : ℕ). record { sort = u.sort; length = u.length; value = x }) value)
scan-of-one (Ok t) (Err g) h = apart (cc)
scan-of-one (Err f) (Ok u) h = apart (cc)
scan-of-one (Err f) (Err g) h =
    let rule : f.rule ≡ g.rule = number-injective f.rule g.rule (cc) in
    let after : f.after ≡ g.after = cc in
    ap Err (ap (λ (x : Rule). record { after = f.after; rule = x }) rule ∙ ap (λ (x : ℕ). record { after = x; rule = g.rule }) after)

gap-of-one : (r s : Gap) → gap_of r ≡ gap_of s → r ≡ s
gap-of-one (Ok a) (Ok b) h = cc
gap-of-one (Ok a) (Err b) h = apart (cc)
gap-of-one (Err a) (Ok b) h = apart (cc)
gap-of-one (Err a) (Err b) h = let place : a.place ≡ b.place = cc in ap (λ (x : ℕ). Err (record { place = x })) place

pub scan-word-unique : (text : List ℕ) (r s : Scan) → Scanned text r → Scanned text s → r ≡ s
scan-word-unique text r s h g = scan-of-one r s (h ∙ sym g)

pub skip-gap-unique : (text : List ℕ) (at : ℕ) (r s : Gap) → Skipped text at r → Skipped text at s → r ≡ s
skip-gap-unique text at r s h g = gap-of-one r s (h ∙ sym g)
