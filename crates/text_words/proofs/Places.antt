-- The next word lies in what is left of the text, after the place where its search began.
use mathlib.Core.Path.{◌≡◌, refl, ap, ◌∙◌}
use mathlib.Core.Bool.{Bool, true, false}
use mathlib.Core.List.{List, [], ◌∷◌}
use Prim.Native.Nat.{ℕ, ◌+◌, ◌-◌, ◌<◌, ◌≤◌}
use native.Mathlib.Omega.{arith}
use lib.Dec.{eqb}
use lib.ListN.{length, take, drop, length-drop}
use lib.Seq.{drop-drop, length-take-le}
use Rattle.laws.proofs.Tests.{test, apart}
use Rattle.laws.proofs.Lists.{Reached, reached-here, reached-on}
use Rattle.text_scanner.proofs.Bounds.{Within, scan-within}
use Rattle.paper.specs.Words.{Gap, up_to, bad_byte, separates, permitted_inside, gap, Scan, word, refused, scan, largest_number, Next, next, ended, refusal, scanned, word_at, following}

-- ---- the gap
up_same : (p q : ℕ) (l : List ℕ) → up_to p ≡ up_to q → Reached p q l
up_same p q l e = reached-here p q l (cc)

pub gap_within : (comment : Bool) (l : List ℕ) (p q : ℕ) → gap comment l p ≡ up_to q → Reached p q l
unfolding gap
gap_within comment [] p q e = up_same p q [] e
gap_within false (b ∷ r) p q e =
    test (separates b) (λ s. reached-on p q b r (gap_within false r (p + 1) q (rw (s, gap) at e)))
    (λ s. test (eqb b 33) (λ t. reached-on p q b r (gap_within true r (p + 1) q (rw t at (rw (s, gap) at e))))
    (λ t. up_same p q (b ∷ r) (rw t at (rw (s, gap) at e))))
gap_within true (b ∷ r) p q e =
    test (eqb b 10) (λ s. reached-on p q b r (gap_within false r (p + 1) q (rw (s, gap) at e)))
    (λ s. test (permitted_inside b) (λ t. reached-on p q b r (gap_within true r (p + 1) q (rw t at (rw (s, gap) at e))))
    (λ t. let x : bad_byte p ≡ up_to q = rw t at (rw (s, gap) at e) in apart (cc)))

-- ---- the word
-- a part with some bytes, at a place of what is left of a text: the bytes l from p on
pub record Lies (p : ℕ) (l : List ℕ) (place : ℕ) (part : List ℕ) : Type 0 where
  pub behind : p ≤ place
  pub some_bytes : 0 < length part
  pub inside : place + length part ≤ p + length l
  pub is : part ≡ take (length part) (drop (place - p) l)

pub lies-nearer : (p q n : ℕ) (l : List ℕ) (place : ℕ) (part : List ℕ) → q ≡ p + n → n ≤ length l → Lies q (drop n l) place part → Lies p l place part
lies-nearer p q n l place part e h k =
    let bound : place + length part ≤ q + (length l - n) = rw length-drop at k.inside in
    let further : n + (place - q) ≡ place - p = omega (arith, k.behind) in
    record {
      behind = omega (arith, k.behind);
      some_bytes = k.some_bytes;
      inside = omega arith;
      is = k.is ∙ ap (take (length part)) (drop-drop (place - q) n l ∙ ap (λ (i : ℕ). drop i l) further);
    }

-- in a whole text
pub lies-is : (text : List ℕ) (place : ℕ) (part : List ℕ) → Lies 0 text place part → part ≡ take (length part) (drop place text)
lies-is text place part k = k.is ∙ ap (λ (i : ℕ). take (length part) (drop i text)) (whole place)
  where
    whole : (place : ℕ) → place - 0 ≡ place
    whole place = omega arith

-- a word comes in a text that is not full
abbrev pub NextLies : Bool → ℕ → List ℕ → Next → Type 0
NextLies full p l (next w) = Lies p l w.place w.covers × (full ≡ false)
NextLies full p l ended = Unit {0}
NextLies full p l (refusal r) = Unit {0}

front-lies : (p n : ℕ) (l : List ℕ) → 0 < n → n ≤ length l → Lies p l p (take n l)
front-lies p n l h k =
    let size : length (take n l) ≡ n = length-take-le n l k in
    let here : p - p ≡ 0 = omega arith in
    record { behind = omega arith; some_bytes = omega arith; inside = omega arith; is = rw (size, here) }

scanned-lies : (full : Bool) (p : ℕ) (l : List ℕ) (s : Scan) → Within l s → NextLies full p l (scanned full p l s)
unfolding scanned
scanned-lies false p l (word sort n v) h = (front-lies p n l h.0 h.1, refl)
scanned-lies true p l (word sort n v) h = tt
scanned-lies false p l (refused number after) h = tt
scanned-lies true p l (refused number after) h =
    test (eqb after 0) (λ t. rw (t, scanned) tt) (λ t. rw (t, scanned) tt)

word-lies : (full : Bool) (p : ℕ) (l : List ℕ) → NextLies full p l (word_at full p l)
unfolding word_at
word-lies full p [] = tt
word-lies full p (b ∷ r) = scanned-lies full p (b ∷ r) (scan largest_number b (b ∷ r)) (scan-within b r largest_number)

nearer : (full : Bool) (p q : ℕ) (l : List ℕ) (x : Next) → Reached p q l → NextLies full q (drop (q - p) l) x → NextLies full p l x
nearer full p q l (next w) h k = (lies-nearer p q (q - p) l w.place w.covers (omega arith) (omega arith) k.0, k.1)
nearer full p q l ended h k = tt
nearer full p q l (refusal r) h k = tt

pub following-lies : (full : Bool) (p : ℕ) (l : List ℕ) → NextLies full p l (following full p l)
unfolding following
following-lies full p l = go (gap false l p) refl
  where
    go : (g : Gap) → gap false l p ≡ g → NextLies full p l (following full p l)
    go (bad_byte q) e = rw (e, following) tt
    go (up_to q) e =
        rw (e, following)
        (nearer full p q l (word_at full q (drop (q - p) l)) (gap_within false l p q e) (word-lies full q (drop (q - p) l)))
