-- Parts of one size, one behind another.
use mathlib.Core.Path.{◌≡◌, refl, sym, ap, ◌∙◌}
use mathlib.Core.List.{List, [], ◌++◌, append_assoc}
use Prim.Native.Nat.{ℕ, zero, suc, ◌+◌, ◌-◌, ◌*◌, ◌<◌, ◌≤◌}
use native.Mathlib.Nat.{suc-mul}
use native.Mathlib.Omega.{arith}
use lib.ListN.{length, take, drop, length-append, length-drop}
use lib.Seq.{take_at, drop_at, drop-drop}
use Rattle.laws.specs.Lists.{replaced}
use Rattle.laws.proofs.Tests.{by_last, apart}
use Rattle.classes.specs.Classes.{part, in_order, filled}

module _ (f : ℕ → List ℕ) (size : ℕ) where
  -- Parts up to the n-th are all of the size.
  abbrev pub Sized : ℕ → Type 0
  Sized n = (i : ℕ) → i < n → length (f i) ≡ size

  pub order-length : (n : ℕ) → Sized n → length (in_order f n) ≡ n * size
  unfolding in_order
  order-length zero h = omega arith
  order-length (suc n) h = length-append (in_order f n) (f n) ∙ omega (arith, order-length n (λ i g. h i (omega arith)), h n (omega arith), suc-mul n size)

  order-part : (n : ℕ) (rest : List ℕ) → Sized n → (i : ℕ) → i < n → part size i (in_order f n ++ rest) ≡ f i
  unfolding in_order part
  order-part zero rest h i g = apart (omega arith)
  order-part (suc n) rest h i g =
      let s : Sized n = λ j k. h j (omega arith) in
      ap (part size i) (append_assoc (in_order f n) (f n) rest)
      ∙ by_last i n g
      (λ q.
      ap (λ (j : ℕ). part size j (in_order f n ++ (f n ++ rest))) q
      ∙ ap (take size) (drop_at (in_order f n) (f n ++ rest) (n * size) (order-length n s))
      ∙ take_at (f n) rest size (h n (omega arith))
      ∙ ap f (sym q))
      (order-part n (f n ++ rest) s i)

  module _ (n : ℕ) (list : List ℕ) (s : Sized n) where
    pub filled-part : (i : ℕ) → i < n → part size i (filled f size n list) ≡ f i
    unfolding filled
    filled-part i g = order-part n (drop (n * size) list) s i g

    pub filled-past : drop (n * size) (filled f size n list) ≡ drop (n * size) list
    unfolding filled
    filled-past = drop_at (in_order f n) (drop (n * size) list) (n * size) (order-length n s)

    pub filled-length : n * size ≤ length list → length (filled f size n list) ≡ length list
    unfolding filled
    filled-length h = length-append (in_order f n) (drop (n * size) list) ∙ omega (arith, order-length n s, length-drop (n * size) list)

    -- the next part is as it was
    pub filled-here : part size n (filled f size n list) ≡ part size n list
    unfolding part
    filled-here = ap (take size) filled-past

    -- and once it is replaced, there is one more
    pub filled_next : (x : List ℕ) → x ≡ f n → replaced (filled f size n list) (n * size) x size ≡ filled f size (suc n) list
    unfolding filled in_order
    filled_next x e =
        let A = in_order f n in
        let D = drop (n * size) list in
        let q : n * size + size ≡ suc n * size = sym (suc-mul n size) in
        ap (λ (y : List ℕ). y ++ x ++ drop (n * size + size) (A ++ D)) (take_at A D (n * size) (order-length n s))
        ∙ ap (λ (y : List ℕ). A ++ y ++ drop (n * size + size) (A ++ D)) e
        ∙ ap (λ (y : List ℕ). A ++ f n ++ y) (sym (drop-drop size (n * size) (A ++ D)) ∙ ap (drop size) filled-past ∙ drop-drop size (n * size) list ∙ ap (λ (k : ℕ). drop k list) q)
