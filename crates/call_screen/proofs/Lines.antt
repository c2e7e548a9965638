-- Numbers put into a line, one behind the other.
use Rattle.std.specs.Prelude.{Option, Some, None}
use mathlib.Core.Path.{◌≡◌, refl, sym, ap, ap₂, subst, ◌∙◌}
use mathlib.Core.List.{List, [], ◌∷◌, ◌++◌, append_assoc}
use Prim.Native.Nat.{ℕ, zero, suc, ◌+◌, ◌*◌, ◌≤◌, ◌<◌}
use native.Mathlib.Numerals.{add-one}
use native.Mathlib.Omega.{arith}
use lib.IntN.{pos}
use lib.ListN.{length, get_or, take, drop, set, length-append}
use lib.Seq.{take_at, drop_at, drop-drop, length-take-le, set_split}
use mir.Syntax.{w32, w64}
use mir.Val.{to_z, Fits}
use borrow.Author.Tests.{lt-ltb, eq-eqb, ne_eqb}
use Rattle.laws.specs.Lists.{replaced}
use Rattle.laws.proofs.Lists.{replaced-length, replaced-drop}
use Rattle.paper.specs.Answer.{record_size}
use Rattle.paper.specs.Numbers.{decimal}
use Rattle.store_cells.specs.Cells.{cells_of, Got}
use Rattle.run_decimals.specs.Placed.{PutsNumber}
use Rattle.run_decimals.proofs.Answers.{Whole, was-done, had-none}
use Rattle.run_decimals.proofs.Digits.{few}
use Rattle.call_screen.specs.Screen.{field_room, line_room, numbered, line_of, behind_at, low_fields, PutOne, PutLine}

few-digits : (n : ℕ) → length (decimal (pos n)) ≤ 20
unfolding decimal
few-digits n = few 20 n

-- a word is a number of 64 bits with a sign
word_number : (n : ℕ) → Fits w32 n → to_z w64 n ≡ pos n
word_number n h = rw (lt-ltb n 9223372036854775808 (omega (arith, h.fits)))

-- ---- one number
module _ (before mid : List ℕ) (at n : ℕ) (h : Fits w32 n) (room : at + field_room ≤ length before) (r : Option ℕ) (p : PutsNumber before mid at (to_z w64 n) r) where
  puts : PutsNumber before mid at (pos n) r
  puts = rw (word_number n h) at p

  -- there is room
  pub one_none : (behind : ℕ) → r ≡ None → PutOne before mid at n behind at
  one_none behind e = absurd (omega (arith, few-digits n, (had-none before mid at (decimal (pos n)) (rw e at puts)).lack))

  module _ (next : ℕ) (e : r ≡ Some next) where
    whole : Whole before mid at (decimal (pos n)) next
    whole = was-done before mid at (decimal (pos n)) next (rw e at puts)

    mid-length : length mid ≡ length before
    mid-length = ap length whole.bytes ∙ replaced-length before (decimal (pos n)) at (length (decimal (pos n))) refl whole.room

    pub one_inside : next < length mid
    one_inside = omega (arith, few-digits n, whole.place, mid-length)

    pub one-near : next + 1 ≤ length before
    one-near = omega (arith, one_inside, mid-length)

    pub one-done : (behind : ℕ) → PutOne before (set mid next behind) at n behind (next + 1)
    one-done behind =
        let d : List ℕ = decimal (pos n) in
        let long : length (numbered n behind) ≡ length d + 1 = length-append d (behind ∷ []) in
        let near : at + length d + 1 ≤ length before = omega (arith, few-digits n) in
        let q : suc next ≡ at + length (numbered n behind) = omega (arith, whole.place, long) in
        let head : length (take at before ++ d) ≡ next = length-append (take at before) d ∙ omega (arith, length-take-le at before (omega arith), whole.place) in
        let front : take next mid ≡ take at before ++ d = ap (take next) whole.bytes ∙ take_at (take at before ++ d) (drop (at + length d) before) next head in
        let back : drop (suc next) mid ≡ drop (at + length (numbered n behind)) before =
        ap (drop (suc next)) whole.bytes ∙ replaced-drop before d at (length d) refl whole.room (suc next) (omega (arith, whole.place)) ∙ ap (λ (k : ℕ). drop k before) q in
        let changed : set mid next behind ≡ replaced before at (numbered n behind) (length (numbered n behind)) =
        set_split mid next behind one_inside ∙ ap₂ (λ (x y : List ℕ). x ++ (behind ∷ y)) front back ∙ simp append_assoc in
        record {
          bytes = changed;
          place = omega (arith, whole.place, long);
          near = omega (arith, whole.place, few-digits n);
          size = ap length changed ∙ replaced-length before (numbered n behind) at (length (numbered n behind)) refl (omega (arith, long));
        }

-- ---- one number behind another
-- The bytes s stand in front, and what lies behind them is as it was.
pub record Begun (before after s : List ℕ) (at : ℕ) : Type 0 where
  pub bytes : after ≡ s ++ drop at before
  pub place : at ≡ length s

begun-none : (before : List ℕ) → Begun before before [] 0
begun-none before = record { bytes = refl; place = refl }

begun_more : {before mid after s : List ℕ} {at n behind r : ℕ} → Begun before mid s at → PutOne mid after at n behind r → Begun before after (s ++ numbered n behind) r
begun_more {before} {mid} {after} {s} {at} {n} {behind} {r} b p =
    let t : List ℕ = numbered n behind in
    let front : take at mid ≡ s = ap (take at) b.bytes ∙ take_at s (drop at before) at (sym b.place) in
    let back : drop (at + length t) mid ≡ drop r before =
    sym (drop-drop (length t) at mid) ∙ ap (λ (x : List ℕ). drop (length t) (drop at x)) b.bytes ∙ ap (drop (length t)) (drop_at s (drop at before) at (sym b.place))
    ∙ drop-drop (length t) at before ∙ ap (λ (k : ℕ). drop k before) (sym p.place) in
    record {
      bytes = p.bytes ∙ ap₂ (λ (x y : List ℕ). x ++ t ++ y) front back;
      place = p.place ∙ omega (arith, b.place, length-append s t);
    }

-- ---- the fields of the record, one behind the other
pub behind-last : (k : ℕ) → k ≡ 7 → 10 ≡ behind_at k
unfolding behind_at
behind-last k e = rw (eq-eqb k 7 e, behind_at)

pub behind-other : (k : ℕ) → (k ≡ 7 → ⊥) → 32 ≡ behind_at k
unfolding behind_at
behind-other k e = rw (ne_eqb k 7 e, behind_at)

-- the first k of them
unfoldable pub first_of : (W : List ℕ) → (k : ℕ) → List ℕ
first_of W zero = []
first_of W (suc k) = first_of W k ++ numbered (get_or W (k * 2) 0) (behind_at k)

all-fields : (fields : List ℕ) → first_of (cells_of fields) 8 ≡ line_of (low_fields fields)
unfolding first_of line_of behind_at
all-fields fields = simp append_assoc

-- The first k fields stand in front of the line.
pub record Lined (before line fields : List ℕ) (k at : ℕ) : Type 0 where
  pub few : k ≤ 8
  pub near : at ≤ 21 * k
  pub size : length line ≡ length before
  pub begun : Begun before line (first_of (cells_of fields) k) at

pub lined-none : (line fields : List ℕ) → Lined line line fields 0 0
unfolding first_of
lined-none line fields = record { few = omega arith; near = omega arith; size = refl; begun = begun-none line }

module _ (before line fields : List ℕ) (k at : ℕ) (l : Lined before line fields k at) (more : k < 8) where
  pub lined-get : record_size ≤ length fields → k * 2 * 4 + 4 ≤ length fields
  lined-get room = omega arith

  pub lined-room : line_room ≤ length before → at + field_room ≤ length line
  lined-room room = omega (arith, l.near, l.size)

  pub lined-more : (n b : ℕ) → Got fields (k * 2) n → b ≡ behind_at k → (after : List ℕ) (r : ℕ) → PutOne line after at n b r → Lined before after fields (k + 1) r
  unfolding first_of
  lined-more n b g e after r p =
      let q : PutOne line after at (get_or (cells_of fields) (k * 2) 0) (behind_at k) r = subst (λ (x : ℕ). PutOne line after at x (behind_at k) r) g (subst (λ (x : ℕ). PutOne line after at n x r) e p) in
      record {
        few = omega arith;
        near = omega (arith, p.near, l.near);
        size = p.size ∙ l.size;
        begun = rw (add-one k) (begun_more l.begun q);
      }

pub lined-all : (before line fields : List ℕ) (k at : ℕ) → Lined before line fields k at → 8 ≤ k → PutLine before line (low_fields fields) at
lined-all before line fields k at l past =
    let eight : k ≡ 8 = omega (arith, l.few) in
    let b : Begun before line (line_of (low_fields fields)) at = subst (λ (s : List ℕ). Begun before line s at) (ap (first_of (cells_of fields)) eight ∙ all-fields fields) l.begun in
    record {
      bytes = b.bytes ∙ ap (λ (n : ℕ). line_of (low_fields fields) ++ drop n before) b.place;
      place = b.place;
      near = omega (arith, l.near, l.few);
      size = l.size;
    }
