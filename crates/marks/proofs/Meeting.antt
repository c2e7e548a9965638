-- The listing of our run as it grows, entry by entry, beside another: how much they have in common.
use mathlib.Core.Path.{◌≡◌, refl, sym, ap, ◌∙◌}
use mathlib.Core.Bool.{true, false}
use mathlib.Core.List.{List, [], ◌∷◌, ◌++◌}
use Prim.Native.Nat.{ℕ, zero, suc, ◌≤◌, ◌<◌}
use native.Mathlib.Omega.{arith}
use lib.Dec.{eqb}
use lib.ListN.{length, get_or}
use borrow.Author.Tests.{eqb-true, eqb-false}
use Rattle.laws.proofs.Tests.{test}
use Rattle.marks.specs.Marks.{shared, Marking, marking}
use Rattle.marks.proofs.Parting.{shared_goes, shared-stops, shared-low, shared-self, marked-equal, marking-yes, unequal-marking, equal-same}

shared-empty : (l : List ℕ) → shared l [] ≡ 0
unfolding shared
shared-empty [] = refl
shared-empty (x ∷ l) = refl

-- They have parted: what comes behind it changes nothing.
pub parted-before : (o t l : List ℕ) → (shared o t ≡ length o → ⊥) → shared (o ++ l) t ≡ shared o t
unfolding shared
parted-before [] t l d = absurd (d refl)
parted-before (a ∷ o) [] l d = refl
parted-before (a ∷ o) (b ∷ t) l d =
    test (eqb a b)
    (λ u. let q = eqb-true a b u in
    shared_goes a b (o ++ l) t q ∙ ap suc (parted-before o t l (λ e. d (shared_goes a b o t q ∙ ap suc e))) ∙ sym (shared_goes a b o t q))
    (λ u. let q = eqb-false a b u in shared-stops a b (o ++ l) t q ∙ sym (shared-stops a b o t q))

-- The other has come to its end.
pub ended-before : (o t l : List ℕ) → shared o t ≡ length o → length t ≤ length o → shared (o ++ l) t ≡ shared o t
unfolding shared
ended-before [] [] l e h = shared-empty l
ended-before [] (b ∷ t) l e h = absurd (omega arith)
ended-before (a ∷ o) [] l e h = refl
ended-before (a ∷ o) (b ∷ t) l e h =
    test (eqb a b)
    (λ u. let q = eqb-true a b u in
    shared_goes a b (o ++ l) t q ∙ ap suc (ended-before o t l (omega (arith, shared_goes a b o t q)) (omega arith)) ∙ sym (shared_goes a b o t q))
    (λ u. absurd (omega (arith, shared-stops a b o t (eqb-false a b u))))

-- The next entry is another.
pub parts-now : (o t : List ℕ) (x : ℕ) → shared o t ≡ length o → length o < length t → (get_or t (length o) 0 ≡ x → ⊥) → shared (o ++ (x ∷ [])) t ≡ shared o t
unfolding shared
parts-now [] [] x e h d = absurd (omega arith)
parts-now [] (b ∷ t) x e h d = shared-stops x b [] t (λ q. d (sym q))
parts-now (a ∷ o) [] x e h d = refl
parts-now (a ∷ o) (b ∷ t) x e h d =
    test (eqb a b)
    (λ u. let q = eqb-true a b u in
    shared_goes a b (o ++ (x ∷ [])) t q ∙ ap suc (parts-now o t x (omega (arith, shared_goes a b o t q)) (omega arith) d) ∙ sym (shared_goes a b o t q))
    (λ u. absurd (omega (arith, shared-stops a b o t (eqb-false a b u))))

-- The next entry is the same.
pub meets-now : (o t : List ℕ) (x : ℕ) → shared o t ≡ length o → length o < length t → get_or t (length o) 0 ≡ x → shared (o ++ (x ∷ [])) t ≡ suc (shared o t)
unfolding shared
meets-now [] [] x e h q = absurd (omega arith)
meets-now [] (b ∷ t) x e h q = shared_goes x b [] t (sym q)
meets-now (a ∷ o) [] x e h q = absurd (omega arith)
meets-now (a ∷ o) (b ∷ t) x e h w =
    test (eqb a b)
    (λ u. let q = eqb-true a b u in
    shared_goes a b (o ++ (x ∷ [])) t q ∙ ap suc (meets-now o t x (omega (arith, shared_goes a b o t q)) (omega arith) w) ∙ sym (ap suc (shared_goes a b o t q)))
    (λ u. absurd (omega (arith, shared-stops a b o t (eqb-false a b u))))

-- ---- at the end
-- All of both is shared: they are equal.
all-shared : (o t : List ℕ) → shared o t ≡ length o → shared o t ≡ length t → o ≡ t
unfolding shared
all-shared [] [] e f = refl
all-shared [] (b ∷ t) e f = absurd (omega arith)
all-shared (a ∷ o) [] e f = absurd (omega arith)
all-shared (a ∷ o) (b ∷ t) e f =
    test (eqb a b)
    (λ u. let q = eqb-true a b u in
    let r : o ≡ t = all-shared o t (omega (arith, shared_goes a b o t q)) (omega (arith, shared_goes a b o t q)) in
    cc)
    (λ u. absurd (omega (arith, shared-stops a b o t (eqb-false a b u))))

module _ (o t : List ℕ) where
  pub marking-all : shared o t ≡ length o → shared o t ≡ length t → marking o t ≡ record { same = 1; index = shared o t }
  marking-all e f = marking-yes o t (marked-equal o t (all-shared o t e f)) ∙ ap (λ (n : ℕ). record { same = 1; index = n }) (sym e)

  -- not all of ours, or not all of theirs
  pub marking-ours : (shared o t ≡ length o → ⊥) → marking o t ≡ record { same = 0; index = shared o t }
  marking-ours d = unequal-marking o t (λ e. d (ap (shared o) (sym e) ∙ shared-self o))

  pub marking-theirs : (shared o t ≡ length t → ⊥) → marking o t ≡ record { same = 0; index = shared o t }
  marking-theirs d = unequal-marking o t (λ e. d (ap (shared o) (sym e) ∙ shared-self o ∙ ap length e))
