-- A store as a call leaves it, in words and in bytes.
use mathlib.Core.Path.{◌≡◌, refl, sym, ap, ap₂, ◌∙◌}
use mathlib.Core.List.{List, [], ◌++◌, map}
use Prim.Native.Nat.{ℕ, ◌+◌, ◌-◌, ◌*◌, ◌/◌, ◌≤◌}
use native.Mathlib.Omega.{arith}
use lib.IntN.{ℤ, pos}
use lib.ListN.{length, get_or, take, drop, replicate, length-replicate}
use lib.Seq.{drop-drop}
use mir.Syntax.{w8, w32}
use mir.Val.{Fits, to_z}
use Rattle.laws.specs.Lists.{replaced}
use Rattle.laws.proofs.Lists.{map-drop}
use Rattle.paper.specs.Answer as paper
use Rattle.paper.specs.Answer.{store_words, store_after, bytes_after}
use Rattle.store_cells.specs.Cells.{cells_of, Cleared}
use Rattle.store_cells.proofs.Laws.{words-drop, words-replaced, words-zeros}
use Rattle.store_cells.proofs.Kept.{clear-length, clear-drop}
use Rattle.store_cells.proofs.Paper.{words-paper, clear-paper, kept-none, kept-paper}
use Rattle.layout.specs.Named.{store_bytes}
use Rattle.call_records.specs.Leaves.{Left}

-- every element of a lent slice is a byte
abbrev pub AllBytes : List ℕ → Type 0
AllBytes l = (i : ℕ) → Fits w8 (get_or l i 0)

-- ---- past the store
words-past : (l : List ℕ) → drop store_words (paper.cells_of l) ≡ paper.cells_of (drop store_bytes l)
words-past l =
    ap (drop store_words) (words-paper l)
    ∙ sym (map-drop (to_z w32) store_words (cells_of l))
    ∙ ap (map (to_z w32)) (sym (words-drop store_words l))
    ∙ sym (words-paper (drop store_bytes l))

same-past : (l m : List ℕ) → drop store_bytes l ≡ drop store_bytes m → drop store_words (paper.cells_of l) ≡ drop store_words (paper.cells_of m)
same-past l m e = words-past l ∙ ap paper.cells_of e ∙ sym (words-past m)

drop-further : (l m : List ℕ) (n k : ℕ) → n ≤ k → drop n l ≡ drop n m → drop k l ≡ drop k m
drop-further l m n k h e =
    let q : n + (k - n) ≡ k = omega arith in
    sym (ap (λ (j : ℕ). drop j l) q) ∙ sym (drop-drop (k - n) n l) ∙ ap (drop (k - n)) e ∙ drop-drop (k - n) n m ∙ ap (λ (j : ℕ). drop j m) q

-- ---- a store that was cleared from word m on
module _ (before mid after : List ℕ) (m : ℕ) (c : Cleared mid after m (store_words - m)) (few : m ≤ store_words) (room : store_bytes ≤ length before)
    (size : length mid ≡ length before) (past : drop store_bytes mid ≡ drop store_bytes before) where
  fits : (m + (store_words - m)) * 4 ≤ length mid
  fits = omega arith

  pub left-cleared : (kept : List ℤ) → length kept ≡ m → take m (paper.cells_of mid) ≡ kept → Left kept before after
  unfolding store_after
  left-cleared kept n k =
      let q : m + (store_words - m) ≡ store_words = omega arith in
      let z : ℕ → List ℤ = λ j. replicate (store_words - j) (pos 0) in
      record {
        words = clear-paper c
            ∙ ap₂ (λ (x y : List ℤ). x ++ z m ++ y) k (ap (λ (j : ℕ). drop j (paper.cells_of mid)) q ∙ same-past mid before past)
            ∙ ap (λ (j : ℕ). kept ++ z j ++ drop store_words (paper.cells_of before)) (sym n);
        size = clear-length c fits ∙ size;
        past = clear-drop c fits store_bytes (omega arith) ∙ past;
      }

zeros-cleared : (before after : List ℕ) (n : ℕ) → n * 4 ≤ length before → after ≡ replicate (n * 4) 0 ++ drop (n * 4) before → Cleared before after 0 n
zeros-cleared before after n h e =
    let z : List ℕ = replicate (n * 4) 0 in
    let q : n * 4 ≡ 0 + n * 4 = omega arith in
    let b : after ≡ replaced before (0 * 4) z (n * 4) = e ∙ ap (λ (j : ℕ). z ++ drop j before) q in
    record {
      bytes = b;
      words = ap cells_of b ∙ words-replaced before z 0 n (omega arith) (length-replicate (n * 4) 0) ∙ rw (words-zeros n);
    }

-- all of it
pub left-empty : (before after : List ℕ) → store_bytes ≤ length before → Cleared before after 0 store_words → Left [] before after
left-empty before after h c = left-cleared before before after 0 c (omega arith) h refl refl [] refl refl

pub left-emptied : (before after : List ℕ) → store_bytes ≤ length before → after ≡ replicate store_bytes 0 ++ drop store_bytes before → Left [] before after
left-emptied before after h e = left-empty before after h (zeros-cleared before after store_words h e)

-- ---- the store that was lent first
pub left-on : {kept : List ℤ} {a b c : List ℕ} → length b ≡ length a → drop store_bytes b ≡ drop store_bytes a → Left kept b c → Left kept a c
unfolding store_after
left-on {kept} {a} {b} {c} size past l =
    record {
      words = l.words ∙ ap (λ (x : List ℤ). kept ++ replicate (store_words - length kept) (pos 0) ++ x) (same-past b a past);
      size = l.size ∙ size;
      past = l.past ∙ past;
    }

-- ---- bytes
pub left-bytes : {kept : List ℤ} {before after : List ℕ} → store_bytes ≤ length before → Left kept before after → AllBytes after
    → after ≡ bytes_after (store_after kept (paper.cells_of before)) before
left-bytes {kept} {before} {after} room l s =
    kept-paper (record { size = l.size; part = drop-further after before store_bytes (length before / 4 * 4) (omega arith) l.past }) (λ i. (s i).fits)
    ∙ ap (λ (w : List ℤ). bytes_after w before) l.words

pub same_bytes : (l : List ℕ) → AllBytes l → l ≡ bytes_after (paper.cells_of l) l
same_bytes l s = kept-paper (kept-none l) (λ i. (s i).fits)
