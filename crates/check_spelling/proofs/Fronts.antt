-- Fours of bytes from the front on, compared as words.
use mathlib.Core.Path.{◌≡◌, refl, sym, ap, ap₂, ◌∙◌}
use mathlib.Core.List.{List, [], ◌∷◌, ◌++◌, map, map-append}
use Prim.Native.Nat.{ℕ, ◌+◌, ◌*◌, ◌/◌, ◌<◌, ◌≤◌}
use native.Mathlib.Omega.{arith}
use native.Mathlib.Numerals.{add-one}
use lib.ListN.{length, take, drop, length-take, take-append-drop, get_or-eq_default}
use lib.Seq.{get_or-take, length-take-le, take_all, take-suc}
use borrow.Author.Tests.{eq-eqb}
use Rattle.laws.proofs.Tests.{by_less}
use Rattle.store_cells.specs.Cells.{cells_of, bytes_of, Got}
use Rattle.store_cells.proofs.Laws.{Bytes, length-words, bytes-words, words_take}
use Rattle.paper.specs.Sorts.{folded, equal_texts}
use Rattle.check_spelling.specs.Fronts.{Fours}
use Rattle.check_spelling.proofs.Letters.{same_names, Agrees}

-- bytes up to a place, by their words
pub front_bytes : (n : ℕ) (l : List ℕ) → Bytes l → n * 4 ≤ length l → take (n * 4) l ≡ bytes_of (take n (cells_of l))
front_bytes n l b h =
    let size : length (take (n * 4) l) ≡ n * 4 = length-take-le (n * 4) l h in
    sym (take_all (length (cells_of (take (n * 4) l)) * 4) (take (n * 4) l) (omega (arith, length-words (take (n * 4) l))))
    ∙ sym (bytes-words (take (n * 4) l) (few n l b)) ∙ ap bytes_of (words_take n l)
  where
    few : (n : ℕ) (l : List ℕ) → Bytes l → Bytes (take (n * 4) l)
    few n l b i =
        by_less i (n * 4) (λ h. rw (get_or-take (n * 4) l i 0 h) (b i))
        (λ h. let short : length (take (n * 4) l) ≤ i = simp length-take (omega arith) in rw (get_or-eq_default (take (n * 4) l) 0 short) (omega arith))

-- ---- the loop
pub fours-start : (a b : List ℕ) → Fours a b 0
fours-start a b = record { inside = omega arith; same = refl }

pub fours-on : (a b : List ℕ) (k x y : ℕ) → length a ≡ length b → Fours a b k → k < length a / 4 → Got a k x → Got b k y → x ≡ y → Fours a b (k + 1)
fours-on a b k x y e f h p q z =
    let ha : k < length (cells_of a) = omega (arith, length-words a) in
    let hb : k < length (cells_of b) = omega (arith, length-words b) in
    record { inside = omega arith; same = rw (add-one k, take-suc (cells_of a) k 0 ha, take-suc (cells_of b) k 0 hb, f.same, sym p ∙ z ∙ q) }

-- ---- what is equal in front need not be compared again
front_same : (x u v : List ℕ) → equal_texts (x ++ u) (x ++ v) ≡ equal_texts u v
unfolding equal_texts
front_same [] u v = refl
front_same (z ∷ x) u v = rw (eq-eqb z z refl, equal_texts) (front_same x u v)

pub agrees-fours : (a b : List ℕ) (r : ℕ) → Bytes a → Bytes b → length a ≡ length b → Fours a b r → Agrees a b (r * 4)
agrees-fours a b r ha hb e f =
    let front : take (r * 4) a ≡ take (r * 4) b = front_bytes r a ha f.inside ∙ ap bytes_of f.same ∙ sym (front_bytes r b hb (omega (arith, f.inside))) in
    record {
      sizes = e;
      left = ap₂ same_names (sym (take-append-drop (r * 4) a)) (sym (take-append-drop (r * 4) b) ∙ ap (λ (x : List ℕ). x ++ drop (r * 4) b) (sym front))
          ∙ ap₂ equal_texts (map-append folded (take (r * 4) a) (drop (r * 4) a)) (map-append folded (take (r * 4) a) (drop (r * 4) b))
          ∙ front_same (map folded (take (r * 4) a)) (map folded (drop (r * 4) a)) (map folded (drop (r * 4) b));
    }
