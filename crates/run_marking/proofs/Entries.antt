-- One entry more, and the end: what the tests say of both listings.
use mathlib.Core.Path.{◌≡◌, sym, ap, ◌∙◌}
use mathlib.Core.Bool.{Bool, true, false}
use mathlib.Core.List.{List, [], ◌∷◌}
use Prim.Native.Nat.{ℕ, suc, ◌+◌, ◌*◌, ◌/◌, ◌≤◌, ◌<◌}
use native.Mathlib.Omega.{arith}
use lib.Dec.{eqb}
use lib.ListN.{length, get_or}
use borrow.Author.Tests.{eqb-true, eq-eqb}
use Rattle.laws.proofs.Tests.{test, false-true}
use Rattle.store_cells.specs.Cells.{cells_of}
use Rattle.store_cells.proofs.Laws.{length-words}
use Rattle.marks.proofs.Meeting.{parted-before, ended-before, parts-now, meets-now, marking-all, marking-ours, marking-theirs}
use Rattle.run_marking.specs.Beside.{Meets, Agrees}

module _ (listing : List ℕ) (common made : ℕ) where
  -- ---- one more
  module _ (at : ℕ) where
    pub meet-parted : (common ≡ made → ⊥) → Meets listing common made at common
    meet-parted d = record { is = λ o l e. parted-before o (cells_of listing) (at ∷ []) (λ q. d (sym e ∙ q ∙ l)) ∙ e }

    module _ (c : common ≡ made) where
      pub meet-ended : length listing / 4 ≤ made → Meets listing common made at common
      meet-ended h = record { is = λ o l e. ended-before o (cells_of listing) (at ∷ []) (e ∙ c ∙ sym l) (omega (arith, length-words listing, l)) ∙ e }

      module _ (h : made < length listing / 4) where
        pub meet-in : made * 4 + 4 ≤ length listing
        meet-in = omega arith

        module _ (x : ℕ) (g : x ≡ get_or (cells_of listing) made 0) where
          pub meet-other : (x ≡ at → ⊥) → Meets listing common made at common
          meet-other d = record {
            is = λ o l e.
                parts-now o (cells_of listing) at (e ∙ c ∙ sym l) (omega (arith, length-words listing, l)) (λ q. d (g ∙ ap (λ (k : ℕ). get_or (cells_of listing) k 0) (sym l) ∙ q)) ∙ e;
          }

          pub meet-same : x ≡ at → Meets listing common made at (common + 1)
          meet-same d = record {
            is = λ o l e.
                meets-now o (cells_of listing) at (e ∙ c ∙ sym l) (omega (arith, length-words listing, l)) (ap (λ (k : ℕ). get_or (cells_of listing) k 0) l ∙ sym g ∙ d)
                ∙ ap suc e ∙ (let w : suc common ≡ common + 1 = omega arith in w);
          }

  -- ---- the end
  pub agree-ours : (common ≡ made → ⊥) → Agrees listing common made false
  agree-ours d = record { is = λ o l e. marking-ours o (cells_of listing) (λ q. d (sym e ∙ q ∙ l)) ∙ ap (λ (n : ℕ). record { same = 0; index = n }) e }

  pub agree-so : common ≡ made → (b : Bool) → b ≡ eqb common (length listing / 4) → Agrees listing common made b
  agree-so c b eb = test (eqb common (length listing / 4))
      (λ t. rw (eb ∙ t) (agree-all (eqb-true common (length listing / 4) t)))
      (λ t. rw (eb ∙ t) (agree-theirs (λ d. false-true (sym t ∙ eq-eqb common (length listing / 4) d))))
    where
      agree-theirs : (common ≡ length listing / 4 → ⊥) → Agrees listing common made false
      agree-theirs d = record { is = λ o l e. marking-theirs o (cells_of listing) (λ q. d (sym e ∙ q ∙ length-words listing)) ∙ ap (λ (n : ℕ). record { same = 0; index = n }) e }

      agree-all : common ≡ length listing / 4 → Agrees listing common made true
      agree-all d = record {
        is = λ o l e.
            marking-all o (cells_of listing) (e ∙ c ∙ sym l) (e ∙ d ∙ sym (length-words listing)) ∙ ap (λ (n : ℕ). record { same = 1; index = n }) e;
      }
