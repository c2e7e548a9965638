-- What lies between words.
use mathlib.Core.Path.{◌≡◌, refl, sym, ap, subst, ◌∙◌}
use mathlib.Core.Bool.{Bool, true, false}
use mathlib.Core.List.{List, ◌∷◌}
use Prim.Native.Nat.{ℕ, ◌+◌, ◌-◌, ◌<◌, ◌≤◌}
use native.Mathlib.Omega.{arith}
use lib.ListN.{length, get_or, drop, drop_of_length-le}
use borrow.Author.Tests.{eq-eqb, ne_eqb}
use Rattle.laws.proofs.Lists.{rest}
use Rattle.paper.specs.Words.{permitted_inside, separates, gap, up_to}
use Rattle.std.specs.Prelude.{Ok, Err}
use Rattle.text_scanner.specs.declared.BadByte.{BadByte}
use Rattle.text_scanner.specs.Answers.{Gap, gap_of, Commented}

-- What is left of a gap from a place on, in a comment or not.
pub record Left (comment : Bool) (text : List ℕ) (start place : ℕ) : Type 0 where
  pub from : start ≤ place
  pub left : gap comment (drop start text) start ≡ gap comment (drop place text) place

pub left-start : (comment : Bool) (text : List ℕ) (start : ℕ) → Left comment text start start
left-start comment text start = record { from = omega arith; left = refl }

-- the definition at a place where the byte there is known
at_byte : (comment : Bool) (text : List ℕ) (start place : ℕ) → Left comment text start place → place < length text → gap comment (drop start text) start ≡ gap comment (get_or text place 0 ∷ drop (place + 1) text) place
at_byte comment text start place at h = at.left ∙ ap (λ (l : List ℕ). gap comment l place) (rest text place h)

-- ---- in a comment
module _ (text : List ℕ) (start place : ℕ) (at : Left true text start place) where
  pub comment-out : length text ≤ place → Commented text start (Ok place)
  unfolding Commented gap
  comment-out h = (at.from, at.left ∙ rw (drop_of_length-le text h))

  module _ (h : place < length text) where
    pub line-end : get_or text place 0 ≡ 10 → Commented text start (Ok (place + 1))
    unfolding Commented gap
    line-end b = (omega (arith, at.from), at_byte true text start place at h ∙ rw (eq-eqb _ 10 b, gap))

    module _ (t : Bool) (b : get_or text place 0 ≡ 10 → ⊥) (is : t ≡ permitted_inside (get_or text place 0)) where
      pub commented : t ≡ true → Left true text start (place + 1)
      unfolding gap
      commented g = record {
        from = omega (arith, at.from);
        left = at_byte true text start place at h ∙ rw (ne_eqb _ 10 b, gap) (rw (sym is ∙ g));
      }

      pub bad : t ≡ false → Commented text start (Err (record { place = place }))
      unfolding Commented gap
      bad g = at_byte true text start place at h ∙ rw (ne_eqb _ 10 b, gap) (rw (sym is ∙ g))

-- ---- outside
module _ (text : List ℕ) (start place : ℕ) (at : Left false text start place) where
  pub gap-out : length text ≤ place → up_to place ≡ gap false (drop start text) start
  unfolding gap
  gap-out h = sym (at.left ∙ rw (drop_of_length-le text h))

  module _ (h : place < length text) (t : Bool) (is : t ≡ separates (get_or text place 0)) where
    pub separated : t ≡ true → Left false text start (place + 1)
    unfolding gap
    separated g = record { from = omega (arith, at.from); left = at_byte false text start place at h ∙ rw (sym is ∙ g, gap) }

    module _ (g : t ≡ false) where
      pub ends : (get_or text place 0 ≡ 33 → ⊥) → up_to place ≡ gap false (drop start text) start
      unfolding gap
      ends b = sym (at_byte false text start place at h ∙ rw (sym is ∙ g, gap) (rw (ne_eqb _ 33 b)))

      module _ (b : get_or text place 0 ≡ 33) (r : Gap) (comment : Commented text (place + 1) r) (p : ℕ) where
        opened : gap false (drop start text) start ≡ gap true (drop (place + 1) text) (place + 1)
        unfolding gap
        opened = at_byte false text start place at h ∙ rw (sym is ∙ g, gap) (rw (eq-eqb _ 33 b))

        pub comment-less : r ≡ Ok p → length text - p < length text - place
        unfolding Commented
        comment-less e = let k = subst (λ (x : Gap). Commented text (place + 1) x) e comment in omega (arith, k.0)

        pub comment-passed : r ≡ Ok p → Left false text start p
        unfolding Commented
        comment-passed e =
            let k = subst (λ (x : Gap). Commented text (place + 1) x) e comment in
            record { from = omega (arith, at.from, k.0); left = opened ∙ k.1 }

        pub comment-bad : (bad : BadByte) → r ≡ Err bad → gap_of (Err bad) ≡ gap false (drop start text) start
        unfolding Commented
        comment-bad bad e = sym (opened ∙ subst (λ (x : Gap). Commented text (place + 1) x) e comment)
