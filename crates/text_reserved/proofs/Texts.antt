-- Words as texts: of capitals, with the number of those behind the first; and tables of words.
use mathlib.Core.Path.{◌≡◌, refl, sym, ap, ◌∙◌}
use mathlib.Core.Bool.{Bool, true, false}
use mathlib.Core.List.{List, [], ◌∷◌, map}
use Prim.Native.Nat.{ℕ, ◌+◌, ◌*◌, ◌-◌}
use Prim.Native.String.{String}
use native.Mathlib.Omega.{arith}
use lib.Dec.{eqb}
use lib.ListN.{length, get_or}
use borrow.Author.Tests.{eqb-true}
use Rattle.laws.proofs.Tests.{test, false-true}
use Rattle.paper.specs.Sorts.{bytes, folded, reserved, equal_texts, number_in, name_sort, first_reserved, NAME}
use Rattle.paper.specs.Words.{between}
use Rattle.text_reserved.specs.Keys.{packed, behind}
use Rattle.text_reserved.proofs.Ranges.{range}

unfoldable pub capitals : List ℕ → Bool
capitals [] = true
capitals (b ∷ r) = elim (between 65 90 b) [ true ↦ capitals r | false ↦ false ]

-- as many letters with the same number are the same letters
same_text : (a b : List ℕ) (x y : ℕ) → capitals a ≡ true → capitals b ≡ true → length a ≡ length b → packed a x ≡ packed b y → (x ≡ y) × (a ≡ b)
unfolding packed capitals
same_text [] [] x y la lb n e = (e, refl)
same_text [] (c ∷ s) x y la lb n e = absurd (omega arith)
same_text (d ∷ r) [] x y la lb n e = absurd (omega arith)
same_text (d ∷ r) (c ∷ s) x y la lb n e =
    test (between 65 90 d) (λ t. test (between 65 90 c) (λ u.
    let dl = range 65 90 d t in let cl = range 65 90 c u in
    let more = same_text r s (x * 32 + (d - 65)) (y * 32 + (c - 65)) (rw (t, capitals) at la) (rw (u, capitals) at lb) (omega arith) e in
    let first : x ≡ y = omega arith in
    let byte : d ≡ c = omega arith in
    (first, cc))
    (λ u. false-true (rw (u, capitals) at lb))) (λ t. false-true (rw (t, capitals) at la))

pub same_word : (a b : List ℕ) → capitals a ≡ true → capitals b ≡ true → length a ≡ length b → get_or a 0 0 ≡ get_or b 0 0 → behind a ≡ behind b → a ≡ b
unfolding behind capitals
same_word [] [] la lb n f e = refl
same_word [] (c ∷ s) la lb n f e = absurd (omega arith)
same_word (d ∷ r) [] la lb n f e = absurd (omega arith)
same_word (d ∷ r) (c ∷ s) la lb n f e =
    test (between 65 90 d) (λ t. test (between 65 90 c)
    (λ u. let more = (same_text r s 0 0 (rw (t, capitals) at la) (rw (u, capitals) at lb) (omega arith) e).1 in cc)
    (λ u. false-true (rw (u, capitals) at lb))) (λ t. false-true (rw (t, capitals) at la))

pub equal-text : (a b : List ℕ) → equal_texts a b ≡ true → a ≡ b
unfolding equal_texts
equal-text [] [] t = refl
equal-text [] (b ∷ s) t = false-true t
equal-text (a ∷ r) [] t = false-true t
equal-text (a ∷ r) (b ∷ s) t =
    test (eqb a b) (λ e. let x = eqb-true a b e in let y = equal-text r s (rw (e, equal_texts) at t) in cc) (λ e. false-true (rw (e, equal_texts) at t))

-- ---- what every word of a table is, and a text is not
unfoldable pub every : (List ℕ → Bool) → List String → Bool
every such [] = true
every such (s ∷ r) = elim (such (map folded (bytes s))) [ true ↦ every such r | false ↦ false ]

pub unlike : (such : List ℕ → Bool) (ss : List String) (n : ℕ) (text : List ℕ) → every such ss ≡ true → such text ≡ false → number_in ss n text ≡ 0
unfolding every number_in
unlike such [] n text t h = refl
unlike such (s ∷ r) n text t h =
    test (such (map folded (bytes s))) (λ e.
    test (equal_texts (map folded (bytes s)) text)
    (λ g. false-true (sym h ∙ ap such (sym (equal-text _ text g)) ∙ e))
    (λ g. rw (g, number_in) (unlike such r (n + 1) text (rw (e, every) at t) h)))
    (λ e. false-true (rw (e, every) at t))

all-capitals : every capitals reserved ≡ true
unfolding every capitals between bytes folded reserved
all-capitals = refl

pub no-reserved : (text : List ℕ) → capitals text ≡ false → NAME ≡ name_sort text
unfolding name_sort
no-reserved text h = sym (rw (unlike capitals reserved first_reserved text all-capitals h, name_sort))
