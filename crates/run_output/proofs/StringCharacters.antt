-- The characters of a string, copied one by one; and as they stand, where no quote is among them.
use mathlib.Core.Path.{◌≡◌, refl, sym, ap, ap₂, ◌∙◌}
use mathlib.Core.Bool.{true, false}
use mathlib.Core.List.{List, [], ◌∷◌, ◌++◌}
use Prim.Native.Nat.{ℕ, zero, suc, ◌+◌, ◌-◌, ◌*◌, ◌≤◌, ◌<◌}
use native.Mathlib.Omega.{arith}
use native.Mathlib.Numerals.{add-one}
use lib.Dec.{eqb}
use lib.ListN.{length, get_or, take, drop, set, length-set, length-take, drop_of_length-le}
use lib.Seq.{take-suc, drop-cons, take_all, take-nil, drop-nil, drop-drop, set_at, append_snoc, length-take-le}
use borrow.Author.Tests.{eq-eqb, ne_eqb}
use Rattle.laws.proofs.Tests.{test, by_less, apart}
use Rattle.std.specs.Prelude.{if◌then◌else◌}
use Rattle.paper.specs.Words.{QUOTE}
use Rattle.layout.specs.Parts.{width_of}
use Rattle.paper.specs.Steps.{unquoted}
use Rattle.run_output.specs.Output.{Copies, Copied, Spelled}
use Rattle.store_evaluation.specs.Parts.{addresses}

-- ---- characters
pub width_small : (b : ℕ) → (1 ≤ width_of b) × (width_of b ≤ 2)
width_small b = test (eqb b 34) (λ e. rw e (omega arith)) (λ e. rw e (omega arith))

two-first : (b c : ℕ) (r : List ℕ) → unquoted (b ∷ c ∷ r) ≡ elim (eqb b QUOTE) as (λ _. List ℕ) [ true ↦ b ∷ unquoted r | false ↦ b ∷ unquoted (c ∷ r) ]
unfolding unquoted
two-first b c r = refl

one-first : (b : ℕ) → unquoted (b ∷ []) ≡ b ∷ unquoted []
unfolding unquoted
one-first b = refl

-- the first character of a string's bytes, and the rest of them
first_of : (b : ℕ) (r : List ℕ) → unquoted (b ∷ r) ≡ b ∷ unquoted (drop (width_of b - 1) r)
first_of b [] = one-first b ∙ sym (ap (λ (l : List ℕ). b ∷ unquoted l) (drop-nil (width_of b - 1)))
first_of b (c ∷ r) = two-first b c r ∙ test (eqb b 34) (λ e. rw e) (λ e. rw e)

drop-take : (j n : ℕ) (l : List ℕ) → drop j (take n l) ≡ take (n - j) (drop j l)
drop-take zero n l = let e : n ≡ n - 0 = omega arith in ap (λ (k : ℕ). take k l) e
drop-take (suc j) zero l = let e : 0 ≡ 0 - suc j = omega arith in ap (λ (k : ℕ). take k (drop (suc j) l)) e
drop-take (suc j) (suc n) [] = sym (take-nil (suc n - suc j))
drop-take (suc j) (suc n) (x ∷ l) = let e : n - j ≡ suc n - suc j = omega arith in drop-take j n l ∙ ap (λ (k : ℕ). take k (drop j l)) e

-- ---- what the loop keeps
-- of the characters s, k are written; what is left stands from p on
pub record Left (text before out : List ℕ) (k p bytes : ℕ) : Type 0 where
  pub q : ℕ
  pub rest : drop k (unquoted (take bytes text)) ≡ unquoted (take q (drop p text))
  pub written : out ≡ take k (unquoted (take bytes text)) ++ drop k before

pub record Copying (text before out : List ℕ) (count k p : ℕ) : Type 0 where
  pub within : k ≤ count
  pub long : length out ≡ length before
  pub left : (bytes : ℕ) → length (unquoted (take bytes text)) ≡ count → Left text before out k p bytes

pub copy_start : (text out : List ℕ) (count : ℕ) → Copying text out out count 0 0
copy_start text out count = record { within = omega arith; long = refl; left = λ m e. record { q = m; rest = refl; written = refl } }

-- one character more
record Next (text : List ℕ) (p q : ℕ) (a : ℕ) (r : List ℕ) : Type 0 where
  pub room : p < length text
  pub byte : a ≡ get_or text p 0
  pub n : ℕ
  pub more : r ≡ unquoted (take n (drop (p + width_of (get_or text p 0)) text))

next_of : (text : List ℕ) (p q a : ℕ) (r : List ℕ) → unquoted (take q (drop p text)) ≡ a ∷ r → Next text p q a r
unfolding unquoted
next_of text p zero a r e = apart (cc)
next_of text p (suc q) a r e =
    by_less p (length text)
    (λ h.
    let b = get_or text p 0 in
    let d : drop p text ≡ b ∷ drop (suc p) text = drop-cons text p 0 h in
    let f : a ∷ r ≡ b ∷ unquoted (drop (width_of b - 1) (take q (drop (suc p) text))) = sym e ∙ ap (λ (l : List ℕ). unquoted (take (suc q) l)) d ∙ first_of b (take q (drop (suc p) text)) in
    let w : suc p + (width_of b - 1) ≡ p + width_of b = omega (arith, (width_small b).0) in
    record {
      room = h;
      byte = cc;
      n = q - (width_of b - 1);
      more = let g : r ≡ unquoted (drop (width_of b - 1) (take q (drop (suc p) text))) = cc in
          g ∙ ap unquoted (drop-take (width_of b - 1) q (drop (suc p) text) ∙ ap (take (q - (width_of b - 1))) (drop-drop (width_of b - 1) (suc p) text ∙ ap (λ (k : ℕ). drop k text) w));
    })
    (λ h. let z : unquoted (take (suc q) (drop p text)) ≡ [] = ap (λ (l : List ℕ). unquoted (take (suc q) l)) (drop_of_length-le text h) in apart (cc))

module _ (text before out : List ℕ) (count k p : ℕ) (s : Copying text before out count k p) (h : k < count) where
  turn : (m : ℕ) (e : length (unquoted (take m text)) ≡ count) → Next text p (s.left m e).q (get_or (unquoted (take m text)) k 0) (drop (suc k) (unquoted (take m text)))
  turn m e =
      let l = s.left m e in
      next_of text p l.q (get_or (unquoted (take m text)) k 0) (drop (suc k) (unquoted (take m text))) (sym l.rest ∙ drop-cons (unquoted (take m text)) k 0 (omega arith))

  pub copy-in : Copies text before count → p < length text
  copy-in c = (turn c.bytes c.many).room

  pub copy-fits : Copies text before count → (w : ℕ) → w ≡ width_of (get_or text p 0) → length text * 1 < 9223372036854775808 → p + w < addresses
  copy-fits c w e l = omega (arith, copy-in c, (width_small (get_or text p 0)).1)

  pub copy_step : (w : ℕ) → w ≡ width_of (get_or text p 0) → count ≤ length before → Copying text before (set out k (get_or text p 0)) count (k + 1) (p + w)
  copy_step w ew g = record {
    within = omega arith;
    long = length-set out k (get_or text p 0) ∙ s.long;
    left = λ m e.
        let l = s.left m e in
        let t = turn m e in
        let c = unquoted (take m text) in
        let lc : length (take k c) ≡ k = length-take-le k c (omega arith) in
        record {
          q = t.n;
          rest = rw (add-one, ew) t.more;
          written =
              ap (λ (x : List ℕ). set x k (get_or text p 0)) (l.written ∙ ap (λ (x : List ℕ). take k c ++ x) (drop-cons before k 0 (omega arith)))
              ∙ set_at (take k c) (get_or before k 0) (drop (suc k) before) (get_or text p 0) k lc
              ∙ sym (append_snoc (take k c) (get_or text p 0) (drop (suc k) before))
              ∙ rw add-one (ap (λ (x : List ℕ). x ++ drop (suc k) before) (ap (λ (a : ℕ). take k c ++ (a ∷ [])) (sym t.byte) ∙ sym (take-suc c k 0 (omega arith))));
        };
  }

pub copy-end : (text before out : List ℕ) (count k p : ℕ) → Copying text before out count k p → count ≤ k → Copied text before out count
copy-end text before out count k p s h = record {
  is = λ m e.
      let q : k ≡ count = omega (arith, s.within) in
      (s.left m e).written ∙ ap₂ (λ (x : List ℕ) (j : ℕ). x ++ drop j before) (take_all k (unquoted (take m text)) (omega arith)) q;
}

-- ---- no quote
shorter : (l : List ℕ) → length (unquoted l) ≤ length l
unfolding unquoted
shorter [] = omega arith
shorter (b ∷ []) = omega arith
shorter (b ∷ c ∷ r) = test (eqb b 34) (λ e. rw (e, length) (omega (arith, shorter r))) (λ e. rw (e, length) (omega (arith, shorter (c ∷ r))))

-- as many characters as bytes: they are the bytes
as-it-stands : (l : List ℕ) → length l ≤ length (unquoted l) → unquoted l ≡ l
unfolding unquoted
as-it-stands [] h = refl
as-it-stands (b ∷ []) h = refl
as-it-stands (b ∷ c ∷ r) h =
    two-first b c r
    ∙ test (eqb b 34)
    (λ e. absurd (omega (arith, shorter r, (rw (e, length) at h))))
    (λ e. rw e (ap (λ (l : List ℕ). b ∷ l) (as-it-stands (c ∷ r) (omega (arith, (rw (e, length) at h))))))

module _ (text out : List ℕ) (count bytes : ℕ) (s : Spelled text out count bytes) where
  pub quoted-copies : Copies text out count
  quoted-copies = record { bytes = bytes - 2; many = s.many; room = s.room }

  pub quoted-done : (after : List ℕ) → Copied text out after count → after ≡ unquoted (take (bytes - 2) text) ++ drop count out
  quoted-done after c = c.is (bytes - 2) s.many

  module _ (q : bytes ≡ count + 2) where
    same_bytes : bytes - 2 ≡ count
    same_bytes = omega arith

    plain : length (unquoted (take count text)) ≡ count
    plain = ap (λ (k : ℕ). length (unquoted (take k text))) (sym same_bytes) ∙ s.many

    pub plain_in : count ≤ length text
    plain_in = omega (arith, shorter (take count text), plain, length-take count text)

    pub plain_done : (after : List ℕ) → after ≡ take count text ++ drop count out → after ≡ unquoted (take (bytes - 2) text) ++ drop count out
    plain_done after e =
        e
        ∙ ap (λ (x : List ℕ). x ++ drop count out)
        (sym (as-it-stands (take count text) (omega (arith, plain, length-take count text))) ∙ ap (λ (k : ℕ). unquoted (take k text)) (sym same_bytes))

-- what the loop keeps
pub record Plainly (text before out : List ℕ) (count k : ℕ) : Type 0 where
  pub within : k ≤ count
  pub long : length out ≡ length before
  pub is : out ≡ take k text ++ drop k before

pub plainly-start : (text out : List ℕ) (count : ℕ) → Plainly text out out count 0
plainly-start text out count = record { within = omega arith; long = refl; is = refl }

pub plainly-step : (text before out : List ℕ) (count k : ℕ) → Plainly text before out count k → k < count → count ≤ length text → count ≤ length before
    → Plainly text before (set out k (get_or text k 0)) count (k + 1)
plainly-step text before out count k s h g f = record {
  within = omega arith;
  long = length-set out k (get_or text k 0) ∙ s.long;
  is =
      ap (λ (x : List ℕ). set x k (get_or text k 0)) (s.is ∙ ap (λ (x : List ℕ). take k text ++ x) (drop-cons before k 0 (omega arith)))
      ∙ set_at (take k text) (get_or before k 0) (drop (suc k) before) (get_or text k 0) k (length-take-le k text (omega arith))
      ∙ sym (append_snoc (take k text) (get_or text k 0) (drop (suc k) before))
      ∙ rw add-one (ap (λ (x : List ℕ). x ++ drop (suc k) before) (sym (take-suc text k 0 (omega arith))));
}

pub plainly-end : (text before out : List ℕ) (count k : ℕ) → Plainly text before out count k → count ≤ k → out ≡ take count text ++ drop count before
plainly-end text before out count k s h = let q : k ≡ count = omega (arith, s.within) in s.is ∙ ap (λ (j : ℕ). take j text ++ drop j before) q
