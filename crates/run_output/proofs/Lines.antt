-- Lines: the bytes of one, and what is written then.
use mathlib.Core.Path.{◌≡◌, refl, sym, ap, ap₂, ◌∙◌}
use mathlib.Core.List.{List, [], ◌∷◌, ◌++◌, append-nil}
use Prim.Native.Nat.{ℕ, suc, ◌+◌, ◌-◌, ◌*◌, ◌/◌, ◌%◌, ◌≤◌, ◌<◌}
use native.Mathlib.Nat.{add-zero}
use native.Mathlib.Numerals.{add-one}
use native.Mathlib.Omega.{arith}
use lib.ListN.{length, get_or, take, drop, set, length-append, length-drop, take-append-drop, drop_of_length-le, get_or-eq_default}
use lib.Seq.{take-nil, set_split, append_snoc}
use lib.IntN.{ℤ}
use mir.Syntax.{w64}
use mir.Val.{SFits}
use mir.Facts.{to_z-of_z}
use borrow.Rule.Slice.PartMut.{mid_of, put_mid}
use Rattle.laws.specs.Lists.{replaced}
use Rattle.laws.proofs.Lists.{part-rest, replaced-length, replaced-on}
use Rattle.laws.proofs.Tests.{by_most}
use Rattle.paper.specs.Words.{LF}
use Rattle.paper.specs.Numbers.{decimal}
use Rattle.paper.specs.Steps.{unquoted}
use Rattle.store_cells.specs.Cells.{cells_of, Put}
use Rattle.store_cells.proofs.Laws.{length-words}
use Rattle.store_cells.proofs.Kept.{put-length}
use Rattle.store_numbers.proofs.Whole.{read}
use Rattle.run_decimals.proofs.Parts.{put_front}
use Rattle.code.specs.Cells.{value_at, place_at}
use Rattle.store_reading.specs.Reading.{cell_values, value_end}
use Rattle.store_evaluation.specs.Parts.{addresses}
use Rattle.store_evaluation.proofs.Places.{value-in}
use Rattle.layout.specs.Parts.{characters_part}
use Rattle.code.specs.Windows.{written_cell, count_at}
use Rattle.run_output.specs.Output.{count_in, with_count, Counted, Spelled, characters_at, Placed, line_at, line_of, HasRoom, Added}

next-is : (c : ℕ) → c + 1 ≡ suc c
next-is c = omega arith

pub count_of : (X : List ℕ) (c a b : ℕ) → a ≡ get_or X c 0 → b ≡ get_or X (c + 1) 0 → a + cell_values * b ≡ count_at X c
count_of X c a b x y = ap₂ (λ (m n : ℕ). m + cell_values * n) x (y ∙ ap (λ (k : ℕ). get_or X k 0) (next-is c))

pub counted : (before mid after : List ℕ) (c n : ℕ) → suc (suc c) * 4 ≤ length before → Put before mid c (n % cell_values) → Put mid after (c + 1) (n / cell_values) → Counted before after c n
counted before mid after c n h p q =
    let l : length mid ≡ length before = put-length p (omega arith) in
    record { words = q.words ∙ ap₂ (λ (x : List ℕ) (k : ℕ). set x k (n / cell_values)) p.words (next-is c); long = put-length q (omega arith) ∙ l }

empty_of : (l : List ℕ) → length l ≡ 0 → l ≡ []
empty_of [] e = refl
empty_of (x ∷ l) e = absurd (omega arith)

-- ---- a string
pub no-characters : (code : List ℕ) (i : ℕ) → length code % 8 ≡ 0 → length code / 8 ≤ i → (0 ≡ value_at (cells_of code) i / characters_part) × (0 < value_end / characters_part)
no-characters code i w h = (sym (ap (λ (x : ℕ). x / characters_part / characters_part) (get_or-eq_default (cells_of code) 0 {n = i * 2} (omega (arith, length-words code)))), omega arith)

pub string-there : (code : List ℕ) (i n : ℕ) → n ≡ value_at (cells_of code) i / characters_part → length code % 8 ≡ 0 → (n ≡ 0 → ⊥) → i * 8 + 8 ≤ length code
string-there code i n e w d = value-in code i w (λ z. d (e ∙ ap (λ (x : ℕ). x / characters_part) z))

module _ (text C : List ℕ) (i n : ℕ) (en : n ≡ value_at C i / characters_part) (many : value_at C i / characters_part ≡ length (characters_at text C i)) where
  -- none of its bytes is read where it is empty, wherever it stands
  pub string-none : n ≡ 0 → (out : List ℕ) (at : ℕ) → Placed out out at (characters_at text C i) at
  string-none z out at =
      let l : length (characters_at text C i) ≡ 0 = sym many ∙ sym en ∙ z in
      let e : characters_at text C i ≡ [] = empty_of (characters_at text C i) l in
      record {
        bytes = rw e (sym (ap (λ (x : List ℕ). x ++ drop (at + 0) out) (append-nil (take at out)) ∙ ap (λ (k : ℕ). take at out ++ drop k out) (add-zero at) ∙ take-append-drop at out));
        place = omega arith;
      }

  module _ (p : ℕ) (ep : p ≡ place_at C i) (some : n ≡ 0 → ⊥) where
    pub string-in : p + 1 ≤ length text
    unfolding characters_at unquoted
    string-in =
        by_most (p + 1) (length text) (λ h. h)
        (λ h. absurd (some (en ∙ many ∙ ap (λ (l : List ℕ). length (unquoted l)) (ap (take (value_at C i % characters_part - 2)) (ap (λ (k : ℕ). drop (k + 1) text) (sym ep) ∙ drop_of_length-le text {i = p + 1} (omega arith)) ∙ take-nil (value_at C i % characters_part - 2)))))

    rest-is : mid_of (p + 1) (length text - (p + 1)) text ≡ drop (place_at C i + 1) text
    rest-is = part-rest text (p + 1) ∙ ap (λ (k : ℕ). drop (k + 1) text) ep

    characters-in : unquoted (take (value_at C i % characters_part - 2) (mid_of (p + 1) (length text - (p + 1)) text)) ≡ characters_at text C i
    unfolding characters_at
    characters-in = ap (λ (l : List ℕ). unquoted (take (value_at C i % characters_part - 2) l)) rest-is

    many-in : length (unquoted (take (value_at C i % characters_part - 2) (mid_of (p + 1) (length text - (p + 1)) text))) ≡ n
    many-in = ap length characters-in ∙ sym many ∙ sym en

    module _ (out : List ℕ) (at : ℕ) (h : at + length (characters_at text C i) ≤ length out) where
      count : n ≡ length (characters_at text C i)
      count = en ∙ many

      pub string-spelled : (v : ℕ) → v ≡ value_at C i → Spelled (mid_of (p + 1) (length text - (p + 1)) text) (mid_of at (length out - at) out) n (v % characters_part)
      string-spelled v ev = record { many = rw ev many-in; room = rw (part-rest out at, length-drop) (omega (arith, count)); few = omega arith }

      pub string-done : (v : ℕ) → v ≡ value_at C i → (ys : List ℕ)
          → ys ≡ unquoted (take (v % characters_part - 2) (mid_of (p + 1) (length text - (p + 1)) text)) ++ drop n (mid_of at (length out - at) out)
          → Placed out (put_mid at (length out - at) out ys) at (characters_at text C i) (at + n)
      string-done v ev ys c = record {
        bytes = ap (put_mid at (length out - at) out) (c ∙ ap (λ (x : ℕ). unquoted (take (x % characters_part - 2) (mid_of (p + 1) (length text - (p + 1)) text)) ++ drop n (mid_of at (length out - at) out)) ev ∙ ap (λ (s : List ℕ). s ++ drop n (mid_of at (length out - at) out)) characters-in)
            ∙ put_front out (characters_at text C i) at n (omega arith)
            ∙ ap (replaced out at (characters_at text C i)) count;
        place = omega (arith, count);
      }

-- ---- a number
module _ (out : List ℕ) (at n : ℕ) (z : ℤ) (s : SFits w64 z) (e : n ≡ length (decimal z)) (h : at + n ≤ length out) where
  pub number-room : n ≤ length (mid_of at (length out - at) out)
  number-room = rw (part-rest out at, length-drop) (omega arith)

  pub number-takes : (n ≡ length (decimal (read z))) × (n ≤ length (mid_of at (length out - at) out))
  number-takes = (e ∙ ap (λ (y : ℤ). length (decimal y)) (sym (to_z-of_z s)), number-room)

  pub number_put : (ys : List ℕ) → ys ≡ decimal (read z) ++ drop n (mid_of at (length out - at) out) → Placed out (put_mid at (length out - at) out ys) at (decimal z) (at + n)
  number_put ys q = record {
    bytes = ap (put_mid at (length out - at) out) (q ∙ ap (λ (y : ℤ). decimal y ++ drop n (mid_of at (length out - at) out)) (to_z-of_z s))
        ∙ put_front out (decimal z) at n (omega arith)
        ∙ ap (replaced out at (decimal z)) e;
    place = ap (λ (k : ℕ). at + k) e;
  }

-- ---- a line
set_is : (l : List ℕ) (j b : ℕ) → j < length l → set l j b ≡ replaced l j (b ∷ []) 1
set_is l j b h = set_split l j b h ∙ ap (λ (k : ℕ). take j l ++ (b ∷ drop k l)) (sym (add-one j)) ∙ sym (append_snoc (take j l) b (drop (j + 1) l))

-- one byte more behind s
one_more : (out s : List ℕ) (w b : ℕ) → w + length s < length out → set (replaced out w s (length s)) (w + length s) b ≡ replaced out w (s ++ (b ∷ [])) (length (s ++ (b ∷ [])))
one_more out s w b h =
    let l : length (replaced out w s (length s)) ≡ length out = replaced-length out s w (length s) refl (omega arith) in
    set_is (replaced out w s (length s)) (w + length s) b (omega arith)
    ∙ replaced-on out s w (length s) refl (omega arith) (b ∷ []) 1
    ∙ ap (replaced out w (s ++ (b ∷ []))) (sym (length-append s (b ∷ [])))

module _ (text C values out : List ℕ) (i : ℕ) (f : HasRoom values out (line_at text C i)) where
  line-length : length (line_at text C i) ≡ length (characters_at text C i) + 1
  line-length = length-append (characters_at text C i) (LF ∷ [])

  pub line-string : (w : ℕ) → w ≡ count_in (cells_of values) → w + length (characters_at text C i) ≤ length out
  line-string w e = omega (arith, f.room, line-length)

  module _ (w : ℕ) (ew : w ≡ count_in (cells_of values)) (out1 : List ℕ) (e : ℕ) (p : Placed out out1 w (characters_at text C i) e) where
    out1-length : length out1 ≡ length out
    out1-length = ap length p.bytes ∙ replaced-length out (characters_at text C i) w (length (characters_at text C i)) refl (omega (arith, line-string w ew))

    pub line-room : e < length out1
    line-room = omega (arith, out1-length, f.room, line-length, p.place)

    pub line-done : (after : List ℕ) → Counted values after written_cell (e + 1) → Added values after out (set out1 e LF) (line_at text C i)
    line-done after c =
        let q : e + 1 ≡ count_in (cells_of values) + length (line_at text C i) = omega (arith, line-length, p.place) in
        record {
          count = record { words = c.words ∙ ap (with_count (cells_of values) written_cell) q; long = c.long };
          bytes =
              ap₂ (λ (x : List ℕ) (j : ℕ). set x j LF) p.bytes p.place
              ∙ one_more out (characters_at text C i) w LF (omega (arith, f.room, line-length))
              ∙ ap (λ (k : ℕ). replaced out k (line_at text C i) (length (line_at text C i))) ew;
        }

    pub line-fits : length out < addresses → e + 1 < addresses
    line-fits h = omega (arith, out1-length, line-room)

-- with a number
module _ (text C values out : List ℕ) (i : ℕ) (z : ℤ) (s : SFits w64 z) (f : HasRoom values out (line_of text C i z)) where
  of_length : length (line_of text C i z) ≡ length (characters_at text C i) + length (decimal z) + 1
  of_length = length-append (characters_at text C i ++ decimal z) (LF ∷ []) ∙ ap (λ (n : ℕ). n + 1) (length-append (characters_at text C i) (decimal z))

  pub of-string : (w : ℕ) → w ≡ count_in (cells_of values) → w + length (characters_at text C i) ≤ length out
  of-string w e = omega (arith, f.room, of_length)

  module _ (w : ℕ) (ew : w ≡ count_in (cells_of values)) (out1 : List ℕ) (e : ℕ) (p : Placed out out1 w (characters_at text C i) e) (n : ℕ) (n-is : n ≡ length (decimal z)) where
    of1-length : length out1 ≡ length out
    of1-length = ap length p.bytes ∙ replaced-length out (characters_at text C i) w (length (characters_at text C i)) refl (omega (arith, of-string w ew))

    pub of-fits : length out < addresses → e + n + 1 < addresses
    of-fits h = omega (arith, of1-length, f.room, of_length, p.place, n-is)

    pub of-fits-first : length out < addresses → e + n < addresses
    of-fits-first h = omega (arith, of-fits h)

    pub of_number : e + n ≤ length out1
    of_number = omega (arith, of1-length, f.room, of_length, p.place, n-is)

    pub of-takes : (n ≡ length (decimal (read z))) × (e + n ≤ length out1)
    of-takes = (n-is ∙ ap (λ (y : ℤ). length (decimal y)) (sym (to_z-of_z s)), of_number)

    module _ (out2 : List ℕ) (q : Placed out1 out2 e (decimal (read z)) (e + n)) where
      number-placed : out2 ≡ replaced out w (characters_at text C i ++ decimal z) (length (characters_at text C i ++ decimal z))
      number-placed =
          let c = characters_at text C i in
          let d = decimal z in
          q.bytes
          ∙ ap (λ (y : ℤ). replaced out1 e (decimal y) (length (decimal y))) (to_z-of_z s)
          ∙ ap₂ (λ (x : List ℕ) (j : ℕ). replaced x j d (length d)) p.bytes p.place
          ∙ replaced-on out c w (length c) refl (omega (arith, of-string w ew)) d (length d)
          ∙ ap (replaced out w (c ++ d)) (sym (length-append c d))

      of2-length : length out2 ≡ length out
      of2-length =
          ap length number-placed
          ∙ replaced-length out (characters_at text C i ++ decimal z) w (length (characters_at text C i ++ decimal z)) refl (omega (arith, length-append (characters_at text C i) (decimal z), f.room, of_length))

      pub of_room : e + n < length out2
      of_room = omega (arith, of2-length, f.room, of_length, p.place, n-is)

      pub of-done : (after : List ℕ) → Counted values after written_cell (e + n + 1) → Added values after out (set out2 (e + n) LF) (line_of text C i z)
      of-done after c =
          let l = length-append (characters_at text C i) (decimal z) in
          let k : e + n + 1 ≡ count_in (cells_of values) + length (line_of text C i z) = omega (arith, of_length, p.place, n-is) in
          let j : e + n ≡ w + length (characters_at text C i ++ decimal z) = omega (arith, p.place, n-is, l) in
          record {
            count = record { words = c.words ∙ ap (with_count (cells_of values) written_cell) k; long = c.long };
            bytes =
                ap₂ (λ (x : List ℕ) (j : ℕ). set x j LF) number-placed j
                ∙ one_more out (characters_at text C i ++ decimal z) w LF (omega (arith, f.room, of_length, l))
                ∙ ap (λ (k : ℕ). replaced out k (line_of text C i z) (length (line_of text C i z))) ew;
          }
