-- Two listings: they are equal, or part somewhere.
use mathlib.Core.Path.{◌≡◌, refl, sym, ap, ap₂, ◌∙◌}
use mathlib.Core.Bool.{true, false}
use mathlib.Core.List.{List, [], ◌∷◌}
use Prim.Native.Nat.{ℕ, zero, suc, ◌≤◌}
use native.Mathlib.Omega.{arith}
use lib.Dec.{eqb}
use lib.ListN.{length, take, drop}
use borrow.Author.Tests.{eqb-true, eqb-false, eq-eqb, ne_eqb}
use Rattle.laws.proofs.Tests.{test, apart, false-true}
use Rattle.paper.specs.Sorts.{equal_texts}
use Rattle.marks.specs.Marks.{Mark, yes, differs, shared, marked, marking}
use Rattle.marks.specs.Theorems.{Parted, another, missing, surplus, PartedAt, Judged, Judging}

-- ---- two entries
equal-goes : (a b : ℕ) (r s : List ℕ) → a ≡ b → equal_texts (a ∷ r) (b ∷ s) ≡ equal_texts r s
unfolding equal_texts
equal-goes a b r s e = rw (eq-eqb a b e, equal_texts)

equal-stops : (a b : ℕ) (r s : List ℕ) → (a ≡ b → ⊥) → equal_texts (a ∷ r) (b ∷ s) ≡ false
unfolding equal_texts
equal-stops a b r s d = rw (ne_eqb a b d, equal_texts)

pub shared_goes : (a b : ℕ) (r s : List ℕ) → a ≡ b → shared (a ∷ r) (b ∷ s) ≡ suc (shared r s)
unfolding shared
shared_goes a b r s e = rw (eq-eqb a b e, shared)

pub shared-stops : (a b : ℕ) (r s : List ℕ) → (a ≡ b → ⊥) → shared (a ∷ r) (b ∷ s) ≡ 0
unfolding shared
shared-stops a b r s d = rw (ne_eqb a b d, shared)

-- ---- equal
pub equal-same : (o t : List ℕ) → equal_texts o t ≡ true → o ≡ t
unfolding equal_texts
equal-same [] [] e = refl
equal-same [] (b ∷ s) e = false-true e
equal-same (a ∷ r) [] e = false-true e
equal-same (a ∷ r) (b ∷ s) e =
    test (eqb a b) (λ t. ap₂ (λ (x : ℕ) (l : List ℕ). x ∷ l) (eqb-true a b t) (equal-same r s (rw (t, equal_texts) at e))) (λ t. false-true (rw (t, equal_texts) at e))

pub equal-self : (o : List ℕ) → equal_texts o o ≡ true
unfolding equal_texts
equal-self [] = refl
equal-self (a ∷ r) = equal-goes a a r r refl ∙ equal-self r

pub shared-self : (o : List ℕ) → shared o o ≡ length o
unfolding shared
shared-self [] = refl
shared-self (a ∷ r) = shared_goes a a r r refl ∙ ap suc (shared-self r)

pub shared-low : (o t : List ℕ) → shared o t ≤ length o
unfolding shared
shared-low [] t = omega arith
shared-low (a ∷ r) [] = omega arith
shared-low (a ∷ r) (b ∷ s) =
    test (eqb a b) (λ t. let n = shared-low r s in omega (arith, shared_goes a b r s (eqb-true a b t))) (λ t. omega (arith, shared-stops a b r s (eqb-false a b t)))

-- ---- parted
behind-on : (a b : ℕ) (r s : List ℕ) (i : ℕ) → a ≡ b → PartedAt i r s → PartedAt (suc i) (a ∷ r) (b ∷ s)
behind-on a b r s i e p = record { common = ap₂ (λ (x : ℕ) (l : List ℕ). x ∷ l) e p.common; behind = p.behind }

unequal-parted : (o t : List ℕ) → equal_texts o t ≡ false → PartedAt (shared o t) o t
unfolding equal_texts shared
unequal-parted [] [] e = false-true (sym e)
unequal-parted [] (b ∷ s) e = record { common = refl; behind = surplus }
unequal-parted (a ∷ r) [] e = record { common = refl; behind = missing }
unequal-parted (a ∷ r) (b ∷ s) e =
    test (eqb a b)
    (λ t. let q = eqb-true a b t in rw (shared_goes a b r s q) (behind-on a b r s (shared r s) q (unequal-parted r s (sym (equal-goes a b r s q) ∙ e))))
    (λ t. let d = eqb-false a b t in rw (shared-stops a b r s d) (record { common = refl; behind = another d }))

-- What parts at i is not equal, and has so much in common.
record PartsThere (i : ℕ) (o t : List ℕ) : Type 0 where
  unequal : equal_texts o t ≡ false
  there : shared o t ≡ i

parted-here : (o t : List ℕ) → Parted o t → PartsThere 0 o t
unfolding equal_texts shared
parted-here o t (another {a = a} {b = b} {r = r} {s = s} d) = record { unequal = equal-stops a b r s d; there = shared-stops a b r s d }
parted-here o t missing = record { unequal = refl; there = refl }
parted-here o t surplus = record { unequal = refl; there = refl }

nothing-parted : {A : Type 0} (o t : List ℕ) → Parted o t → o ≡ [] → t ≡ [] → A
nothing-parted o t (another d) p q = apart (cc)
nothing-parted o t missing p q = apart (cc)
nothing-parted o t surplus p q = apart (cc)

parts-there : (i : ℕ) (o t : List ℕ) → PartedAt i o t → PartsThere i o t
parts-there zero o t p = parted-here o t p.behind
parts-there (suc i) [] [] p = nothing-parted [] [] p.behind refl refl
parts-there (suc i) [] (b ∷ s) p = let e = p.common in apart (cc)
parts-there (suc i) (a ∷ r) [] p = let e = p.common in apart (cc)
parts-there (suc i) (a ∷ r) (b ∷ s) p =
    let e = p.common in
    let q : a ≡ b = cc in
    let w : take i r ≡ take i s = cc in
    let n = parts-there i r s (record { common = w; behind = p.behind }) in
    record { unequal = equal-goes a b r s q ∙ n.unequal; there = shared_goes a b r s q ∙ ap suc n.there }

-- ---- the mark
marked-yes : (o t : List ℕ) → equal_texts o t ≡ true → marked o t ≡ yes
unfolding marked
marked-yes o t e = rw (e, marked)

marked_differs : (o t : List ℕ) → equal_texts o t ≡ false → marked o t ≡ differs (shared o t)
unfolding marked
marked_differs o t e = rw (e, marked)

module _ (o t : List ℕ) where
  pub marked-equal : o ≡ t → marked o t ≡ yes
  marked-equal e = marked-yes o t (rw (← e) (equal-self o))

  pub equal-marked : marked o t ≡ yes → o ≡ t
  equal-marked e = test (equal_texts o t) (equal-same o t) (λ u. let d = marked_differs o t u in apart (cc))

  differs-parted : (i : ℕ) → marked o t ≡ differs i → PartedAt i o t
  differs-parted i e =
      test (equal_texts o t)
      (λ u. let y = marked-yes o t u in apart (cc))
      (λ u. let d = marked_differs o t u in let q : shared o t ≡ i = cc in rw (← q) (unequal-parted o t u))

  parted-differs : (i : ℕ) → PartedAt i o t → marked o t ≡ differs i
  parted-differs i p = let n = parts-there i o t p in marked_differs o t n.unequal ∙ ap differs n.there

  -- the two numbers, by the mark
  pub marking-yes : marked o t ≡ yes → marking o t ≡ record { same = 1; index = length o }
  unfolding marking
  marking-yes e = rw (e, marking)

  pub marking-differs : (i : ℕ) → marked o t ≡ differs i → marking o t ≡ record { same = 0; index = i }
  unfolding marking
  marking-differs i e = rw (e, marking)

  pub unequal-marking : (o ≡ t → ⊥) → marking o t ≡ record { same = 0; index = shared o t }
  unequal-marking d = test (equal_texts o t) (λ u. absurd (d (equal-same o t u))) (λ u. marking-differs (shared o t) (marked_differs o t u))

  pub told-shared : (marking o t).index ≡ shared o t
  told-shared =
      test (equal_texts o t)
      (λ u. ap (λ m. m.index) (marking-yes (marked-yes o t u)) ∙ sym (shared-self o) ∙ ap (shared o) (equal-same o t u))
      (λ u. ap (λ m. m.index) (marking-differs (shared o t) (marked_differs o t u)))

pub judging : Judging
unfolding Judging
judging o t = record {
  equal-yes = marked-equal o t;
  yes-equal = equal-marked o t;
  differs-parted = differs-parted o t;
  parted-differs = parted-differs o t;
  told-shared = told-shared o t;
}
