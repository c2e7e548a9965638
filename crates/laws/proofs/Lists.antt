-- Lists by places: parts, walks, and the n elements from a on replaced.
use mathlib.Core.Path.{◌≡◌, refl, sym, ap, ap₂, ◌∙◌}
use mathlib.Core.List.{List, [], ◌∷◌, ◌++◌, map, append_assoc, map-append}
use Prim.Native.Nat.{ℕ, zero, suc, ◌+◌, ◌-◌, ◌≤◌, ◌<◌}
use native.Mathlib.Numerals.{add-one}
use native.Mathlib.Omega.{arith}
use lib.ListN.{length, take, drop, set, replicate, get_or, length-append, length-drop, get_or-append}
use lib.Seq.{take_all, take-append-le, take-take, take_at, drop_at, drop-cons, drop-drop, length-take-le, get_or-take, get_or-drop, get_or-append-add}
use Rattle.laws.specs.Lists.{replaced}

-- ---- parts

-- the rest of a list from a place on begins with the element there
pub rest : (l : List ℕ) (n : ℕ) → n < length l → drop n l ≡ get_or l n 0 ∷ drop (n + 1) l
rest l n h = rw (add-one, drop-cons l n 0)

pub part_length : (l : List ℕ) (a n : ℕ) → a + n ≤ length l → length (take n (drop a l)) ≡ n
part_length l a n h = length-take-le n (drop a l) (rw length-drop (omega arith))

-- a part up to the end is the rest
pub part-rest : (l : List ℕ) (a : ℕ) → take (length l - a) (drop a l) ≡ drop a l
part-rest l a = take_all (length l - a) (drop a l) (omega (arith, length-drop a l))

-- ---- walks: q is a place that a walk over l reaches, which starts at p

abbrev pub Reached : ℕ → ℕ → List ℕ → Type 0
Reached p q l = (p ≤ q) × (q ≤ p + length l)

pub reached-here : (p q : ℕ) (l : List ℕ) → p ≡ q → Reached p q l
reached-here p q l e = (omega arith, omega arith)

pub reached-on : (p q b : ℕ) (l : List ℕ) → Reached (p + 1) q l → Reached p q (b ∷ l)
reached-on p q b l h = (omega arith, omega arith)

-- ---- the n elements from a on replaced by m

module _ {A : Type 0} (l m : List A) (a n : ℕ) (e : length m ≡ n) (h : a + n ≤ length l) where
  head-length : length (take a l ++ m) ≡ a + n
  head-length = length-append (take a l) m ∙ omega (arith, length-take-le a l (omega arith))

  pub replaced-length : length (replaced l a m n) ≡ length l
  replaced-length = length-append (take a l ++ m) (drop (a + n) l) ∙ omega (arith, head-length, length-drop (a + n) l)

  -- before a
  pub replaced-take : (k : ℕ) → k ≤ a → take k (replaced l a m n) ≡ take k l
  replaced-take k g =
      let t : length (take a l) ≡ a = length-take-le a l (omega arith) in
      take-append-le k (take a l ++ m) (drop (a + n) l) (omega (arith, head-length))
      ∙ take-append-le k (take a l) m (omega arith)
      ∙ take-take k a l g

  -- from a + n on
  pub replaced-drop : (k : ℕ) → a + n ≤ k → drop k (replaced l a m n) ≡ drop k l
  replaced-drop k g =
      let q : a + n + (k - (a + n)) ≡ k = omega arith in
      sym (ap (λ (j : ℕ). drop j (replaced l a m n)) q)
      ∙ sym (drop-drop (k - (a + n)) (a + n) (replaced l a m n))
      ∙ ap (drop (k - (a + n))) (drop_at (take a l ++ m) (drop (a + n) l) (a + n) head-length)
      ∙ drop-drop (k - (a + n)) (a + n) l
      ∙ ap (λ (j : ℕ). drop j l) q

  -- element by element
  pub replaced-at : (j : ℕ) (d : A) → j < n → get_or (replaced l a m n) (a + j) d ≡ get_or m j d
  replaced-at j d g =
      let t : length (take a l) ≡ a = length-take-le a l (omega arith) in
      get_or-append (take a l ++ m) (drop (a + n) l) d (a + j) (omega (arith, head-length))
      ∙ sym (ap (λ (k : ℕ). get_or (take a l ++ m) (k + j) d) t)
      ∙ get_or-append-add (take a l) m j d

  pub replaced-below : (j : ℕ) (d : A) → j < a → get_or (replaced l a m n) j d ≡ get_or l j d
  replaced-below j d g =
      sym (get_or-take (suc j) (replaced l a m n) j d (omega arith))
      ∙ ap (λ (x : List A). get_or x j d) (replaced-take (suc j) g)
      ∙ get_or-take (suc j) l j d (omega arith)

  pub replaced-above : (j : ℕ) (d : A) → a + n ≤ j → get_or (replaced l a m n) j d ≡ get_or l j d
  replaced-above j d g =
      let q : j + 0 ≡ j = omega arith in
      sym (ap (λ (k : ℕ). get_or (replaced l a m n) k d) q)
      ∙ sym (get_or-drop j (replaced l a m n) 0 d)
      ∙ ap (λ (x : List A). get_or x 0 d) (replaced-drop j g)
      ∙ get_or-drop j l 0 d
      ∙ ap (λ (k : ℕ). get_or l k d) q

  -- what follows at once replaced too: one change
  pub replaced-on : (k : List A) (p : ℕ) → replaced (replaced l a m n) (a + n) k p ≡ replaced l a (m ++ k) (n + p)
  replaced-on k p =
      let q : a + n + p ≡ a + (n + p) = omega arith in
      ap₂ (λ (x y : List A). x ++ k ++ y) (take_at (take a l ++ m) (drop (a + n) l) (a + n) head-length) (replaced-drop (a + n + p) (omega arith))
      ∙ ap₂ (λ (x : List A) (j : ℕ). x ++ drop j l) (append_assoc (take a l) m k) q

-- ---- a function at every element

module _ {A B : Type 0} (f : A → B) where
  pub map-set : (l : List A) (i : ℕ) (x : A) → map f (set l i x) ≡ set (map f l) i (f x)
  map-set [] i x = refl
  map-set (y ∷ l) zero x = refl
  map-set (y ∷ l) (suc i) x = ap (λ (r : List B). f y ∷ r) (map-set l i x)

  pub map-take : (n : ℕ) (l : List A) → map f (take n l) ≡ take n (map f l)
  map-take zero l = refl
  map-take (suc n) [] = refl
  map-take (suc n) (x ∷ l) = ap (λ (r : List B). f x ∷ r) (map-take n l)

  pub map-drop : (n : ℕ) (l : List A) → map f (drop n l) ≡ drop n (map f l)
  map-drop zero l = refl
  map-drop (suc n) [] = refl
  map-drop (suc n) (x ∷ l) = map-drop n l

  pub map-replicate : (n : ℕ) (x : A) → map f (replicate n x) ≡ replicate n (f x)
  map-replicate zero x = refl
  map-replicate (suc n) x = ap (λ (r : List B). f x ∷ r) (map-replicate n x)

  pub map-replaced : (l : List A) (a : ℕ) (m : List A) (n : ℕ) → map f (replaced l a m n) ≡ replaced (map f l) a (map f m) n
  map-replaced l a m n = simp (map-append, map-take, map-drop)
