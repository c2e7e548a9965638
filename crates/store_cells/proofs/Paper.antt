-- The paper's words and bytes against this crate's: the paper's words are numbers with a sign, this crate's are below 2^32.
use mathlib.Core.Path.{◌≡◌, refl, sym, ap, ap₂, ◌∙◌}
use mathlib.Core.List.{List, [], ◌∷◌, ◌++◌, map}
use Prim.Native.Nat.{ℕ, suc, ◌+◌, ◌*◌, ◌/◌, ◌%◌, ◌≤◌, ◌<◌}
use native.Mathlib.Omega.{arith}
use lib.IntN.{ℤ, pos}
use lib.ListN.{length, get_or, set, take, drop, replicate, length-append, length-map, take-append-drop}
use mir.Syntax.{w32}
use mir.Val.{SFits, to_z, of_z}
use mir.Facts.{of_z-to_z, Fits-of_z}
use Rattle.laws.specs.Lists.{replaced}
use Rattle.laws.proofs.Lists.{map-set, map-replaced, map-replicate, replaced-on}
use Rattle.paper.specs.Answer as paper
use Rattle.paper.specs.Answer.{low_first, Record, record_bytes}
use Rattle.store_cells.specs.Cells.{cells_of, bytes_of, Put, Cleared, PutField}
use Rattle.store_cells.proofs.Laws.{Bytes, Words, length-words, words_small, bytes-words}
use Rattle.store_cells.proofs.Kept.{put-length, put-drop, clear-length, clear-drop}

-- ---- words

pub words-paper : (bytes : List ℕ) → paper.cells_of bytes ≡ map (to_z w32) (cells_of bytes)
unfolding cells_of paper.cells_of
words-paper [] = refl
words-paper (a ∷ []) = refl
words-paper (a ∷ b ∷ []) = refl
words-paper (a ∷ b ∷ c ∷ []) = refl
words-paper (a ∷ b ∷ c ∷ d ∷ r) = ap (λ (x : List ℤ). to_z w32 (a + 256 * b + 65536 * c + 16777216 * d) ∷ x) (words-paper r)

-- ---- bytes

four_low : (v : ℕ) → v < 4294967296 → low_first 4 v ≡ bytes_of (v ∷ [])
unfolding low_first bytes_of
four_low v h =
    let c : v / 256 / 256 ≡ v / 65536 = omega arith in
    let d : v / 65536 / 256 % 256 ≡ v / 16777216 = omega arith in
    rw (c, d)

pub bytes-paper : (numbers : List ℤ) → ((i : ℕ) → SFits w32 (get_or numbers i (pos 0))) → paper.bytes_of numbers ≡ bytes_of (map (of_z w32) numbers)
unfolding bytes_of paper.bytes_of
bytes-paper [] s = refl
bytes-paper (z ∷ r) s = ap₂ ◌++◌ (four_low (of_z w32 z) (Fits-of_z (s 0)).fits) (bytes-paper r (λ i. s (suc i)))

-- the numbers of words have the words' bytes
pub bytes-numbers : (words : List ℕ) → Words words → paper.bytes_of (map (to_z w32) words) ≡ bytes_of words
unfolding bytes_of paper.bytes_of
bytes-numbers [] s = refl
bytes-numbers (v ∷ r) s =
    ap₂ ◌++◌ (ap (low_first 4) (of_z-to_z {w = w32} (record { fits = s 0 })) ∙ four_low v (s 0)) (bytes-numbers r (λ i. s (suc i)))

-- ---- changes

pub put-paper : {before after : List ℕ} {i v : ℕ} → Put before after i v → paper.cells_of after ≡ set (paper.cells_of before) i (to_z w32 v)
put-paper {before} {after} {i} {v} p =
    words-paper after ∙ ap (map (to_z w32)) p.words ∙ map-set (to_z w32) (cells_of before) i v ∙ ap (λ (x : List ℤ). set x i (to_z w32 v)) (sym (words-paper before))

pub clear-paper : {before after : List ℕ} {from count : ℕ} → Cleared before after from count
    → paper.cells_of after ≡ replaced (paper.cells_of before) from (replicate count (pos 0)) count
clear-paper {before} {after} {from} {count} p =
    words-paper after
    ∙ ap (map (to_z w32)) p.words
    ∙ map-replaced (to_z w32) (cells_of before) from (replicate count 0) count
    ∙ ap₂ (λ (x y : List ℤ). replaced x from y count) (sym (words-paper before)) (map-replicate (to_z w32) count 0)

-- Whole words may have changed; a part word at the end is as it was.
pub record Kept (before after : List ℕ) : Type 0 where
  pub size : length after ≡ length before
  pub part : drop (length before / 4 * 4) after ≡ drop (length before / 4 * 4) before

pub kept-none : (bytes : List ℕ) → Kept bytes bytes
kept-none bytes = record { size = refl; part = refl }

pub kept_on : {a b c : List ℕ} → Kept a b → Kept b c → Kept a c
kept_on {a} {b} {c} p q = record { size = q.size ∙ p.size; part = (rw p.size at q.part) ∙ p.part }

pub put-kept : {before after : List ℕ} {i v : ℕ} → Put before after i v → i * 4 + 4 ≤ length before → Kept before after
put-kept {before} p h = record { size = put-length p h; part = put-drop p h (length before / 4 * 4) (omega arith) }

pub clear_kept : {before after : List ℕ} {from count : ℕ} → Cleared before after from count → (from + count) * 4 ≤ length before → Kept before after
clear_kept {before} p h = record { size = clear-length p h; part = clear-drop p h (length before / 4 * 4) (omega arith) }

-- after such a change the bytes are what the paper says by the words
pub kept-paper : {before after : List ℕ} → Kept before after → Bytes after → after ≡ paper.bytes_after (paper.cells_of after) before
unfolding paper.bytes_after
kept-paper {before} {after} k s =
    let n : length (paper.cells_of after) ≡ length before / 4 = ap length (words-paper after) ∙ length-map (cells_of after) (to_z w32) ∙ length-words after ∙ ap (λ (x : ℕ). x / 4) k.size in
    let q : length before / 4 * 4 ≡ 4 * length (paper.cells_of after) = omega arith in
    let whole : paper.bytes_of (paper.cells_of after) ≡ take (length before / 4 * 4) after =
    ap paper.bytes_of (words-paper after) ∙ bytes-numbers (cells_of after) (words_small after s) ∙ bytes-words after s
    ∙ ap (λ (x : ℕ). take (x * 4) after) (length-words after ∙ ap (λ (x : ℕ). x / 4) k.size) in
    sym (take-append-drop (length before / 4 * 4) after)
    ∙ ap₂ ◌++◌ (sym whole) (k.part ∙ ap (λ (x : ℕ). drop x before) q)

-- ---- fields

eight-low : (v : ℕ) → v < 18446744073709551616 → bytes_of (v % 4294967296 ∷ []) ++ bytes_of (v / 4294967296 ∷ []) ≡ low_first 8 v
unfolding low_first bytes_of
eight-low v h =
    let high : v / 4294967296 < 4294967296 = omega arith in
    let r : ℕ = v % 4294967296 in
    let a : r % 256 ≡ v % 256 = omega arith in
    let qb : v / 256 ≡ r / 256 + 256 * (65536 * (v / 4294967296)) = omega arith in
    let b : r / 256 % 256 ≡ v / 256 % 256 = rw qb (omega arith) in
    let qc : v / 256 / 256 ≡ r / 65536 + 256 * (256 * (v / 4294967296)) = omega arith in
    let c : r / 65536 % 256 ≡ v / 256 / 256 % 256 = rw qc (omega arith) in
    let qd : v / 256 / 256 / 256 ≡ r / 16777216 + 256 * (v / 4294967296) = omega arith in
    let d : r / 16777216 ≡ v / 256 / 256 / 256 % 256 = rw qd (omega arith) in
    let e : v / 256 / 256 / 256 / 256 ≡ v / 4294967296 = omega arith in
    rw (a, b, c, d, e) (ap (λ (x : List ℕ). v % 256 ∷ v / 256 % 256 ∷ v / 256 / 256 % 256 ∷ v / 256 / 256 / 256 % 256 ∷ x) (sym (four_low (v / 4294967296) high)))

-- two words put, one behind the other
pub field-law : (before between after : List ℕ) (i v : ℕ) → v < 18446744073709551616 → i * 8 + 8 ≤ length before
    → Put before between (i * 2) (v % 4294967296) → Put between after (i * 2 + 1) (v / 4294967296) → PutField before after i v
unfolding bytes_of
field-law before between after i v s h p q =
    let x : List ℕ = bytes_of (v % 4294967296 ∷ []) in
    let y : List ℕ = bytes_of (v / 4294967296 ∷ []) in
    let first : i * 2 * 4 ≡ i * 8 = omega arith in
    let next : (i * 2 + 1) * 4 ≡ i * 8 + 4 = omega arith in
    record {
      bytes = q.bytes
          ∙ ap₂ (λ (l : List ℕ) (a : ℕ). replaced l a y 4) (p.bytes ∙ ap (λ (a : ℕ). replaced before a x 4) first) next
          ∙ replaced-on before x (i * 8) 4 refl (omega arith) y 4
          ∙ ap (λ (m : List ℕ). replaced before (i * 8) m 8) (eight-low v s);
    }

-- one field after another, from the first on, makes the record
record Fields (before after done : List ℕ) (i : ℕ) : Type 0 where
  pub size : length done ≡ i * 8
  pub bytes : after ≡ replaced before 0 done (i * 8)

fields-none : (bytes : List ℕ) → Fields bytes bytes [] 0
fields-none bytes = record { size = refl; bytes = refl }

fields-more : {before now after done : List ℕ} {i v : ℕ} → i * 8 + 8 ≤ length before → Fields before now done i → PutField now after i v
    → Fields before after (done ++ low_first 8 v) (i + 1)
unfolding low_first
fields-more {before} {now} {after} {done} {i} {v} h f p =
    let q : (i + 1) * 8 ≡ i * 8 + 8 = omega arith in
    let o : 0 + i * 8 ≡ i * 8 = omega arith in
    record {
      size = length-append done (low_first 8 v) ∙ omega (arith, f.size);
      bytes = p.bytes
          ∙ ap₂ (λ (l : List ℕ) (a : ℕ). replaced l a (low_first 8 v) 8) f.bytes (sym o)
          ∙ replaced-on before done 0 (i * 8) f.size (omega arith) (low_first 8 v) 8
          ∙ ap (replaced before 0 (done ++ low_first 8 v)) (sym q);
    }

-- the record's eight fields, in its order
pub record-law : (a b c d e f g h i : List ℕ) (r : Record) → 64 ≤ length a
    → PutField a b 0 r.ending → PutField b c 1 r.refusal → PutField c d 2 r.offset → PutField d e 3 r.steps
    → PutField e f 4 r.errno → PutField f g 5 r.output → PutField g h 6 r.inputs → PutField h i 7 r.words
    → i ≡ record_bytes r ++ drop 64 a
unfolding record_bytes
record-law a b c d e f g h i r room p q s t u v w x =
    let one = fields-more (omega arith) (fields-none a) p in
    let two = fields-more (omega arith) one q in
    let three = fields-more (omega arith) two s in
    let four = fields-more (omega arith) three t in
    let five = fields-more (omega arith) four u in
    let six = fields-more (omega arith) five v in
    let seven = fields-more (omega arith) six w in
    (fields-more (omega arith) seven x).bytes
