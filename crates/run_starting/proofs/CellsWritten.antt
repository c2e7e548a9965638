-- Cells that hold numbers, written one after another.
use mathlib.Core.Path.{◌≡◌, refl, sym, ap, ap₂, subst, ◌∙◌}
use mathlib.Core.List.{List, [], ◌∷◌, ◌++◌, map, map-append}
use Prim.Native.Nat.{ℕ, zero, suc, ◌+◌, ◌*◌, ◌/◌, ◌<◌, ◌≤◌}
use native.Mathlib.Omega.{arith}
use lib.ListN.{length, get_or, take, drop, set, replicate, length-append, length-drop, length-replicate, length-set, get_or-replicate, replicate-append-replicate}
use lib.Seq.{ext_get_or, set_out, get_or-take, get_or-drop, take-suc-set, drop-set-add, take-add, drop-drop, get_or-set_same}
use lib.IntN.{ℤ, pos}
use mir.Syntax.{w32, w64}
use mir.Val.{SFits, to_z, of_z}
use mir.Facts.{to_z-of_z}
use Rattle.laws.proofs.Lists.{part_length}
use Rattle.laws.proofs.Tests.{by_less, by-same, by_last}
use Rattle.store_cells.specs.Cells.{cells_of}
use Rattle.store_cells.proofs.Laws.{length-words}
use Rattle.store_numbers.proofs.Whole.{read}
use Rattle.code.specs.Windows.{steps_cell, ends_cell}
use Rattle.store_reading.specs.Reading.{Stored}
use Rattle.run_starting.specs.Starting.{Holding, Wrote, Filled, Idled}
use Rattle.run_machine.proofs.Agreeing.{SameIn, set_same, part_same}

-- ---- numbers in cells
pub holding-one : (X : List ℕ) (a : ℕ) (zs : List ℤ) (w : ℕ) (v : ℤ) → Holding X a zs → a + length zs < length X → to_z w32 w ≡ v → Holding (set X (a + length zs) w) a (zs ++ (v ∷ []))
holding-one X a zs w v h l e =
    let n : length (zs ++ (v ∷ [])) ≡ suc (length zs) = length-append zs (v ∷ []) ∙ omega arith in
    ap₂ (λ (k : ℕ) (y : List ℕ). map (to_z w32) (take k y)) n (drop-set-add a X (length zs) w)
    ∙ ap (map (to_z w32)) (take-suc-set (drop a X) (length zs) w (omega (arith, length-drop a X)))
    ∙ map-append (to_z w32) (take (length zs) (drop a X)) (w ∷ [])
    ∙ ap₂ (λ (x : List ℤ) (y : ℤ). x ++ (y ∷ [])) h e

pub holding-append : (X : List ℕ) (a : ℕ) (xs ys : List ℤ) → Holding X a xs → Holding X (a + length xs) ys → Holding X a (xs ++ ys)
holding-append X a xs ys h g =
    ap (λ (k : ℕ). map (to_z w32) (take k (drop a X))) (length-append xs ys)
    ∙ ap (map (to_z w32)) (take-add (length xs) (length ys) (drop a X))
    ∙ map-append (to_z w32) (take (length xs) (drop a X)) (take (length ys) (drop (length xs) (drop a X)))
    ∙ ap₂ (λ (x y : List ℤ). x ++ y) h (ap (λ (y : List ℕ). map (to_z w32) (take (length ys) y)) (drop-drop (length xs) a X) ∙ g)

pub holding-same : (X Y : List ℕ) (a : ℕ) (zs : List ℤ) → length Y ≡ length X → SameIn X Y a (a + length zs) → Holding X a zs → Holding Y a zs
holding-same X Y a zs long s h = ap (map (to_z w32)) (part_same X Y long a (length zs) s) ∙ h

-- zeros
zeros-are : (n : ℕ) → map (to_z w32) (replicate n 0) ≡ replicate n (pos 0)
zeros-are zero = refl
zeros-are (suc n) = ap (λ (r : List ℤ). pos 0 ∷ r) (zeros-are n)

pub holding-zeros : (X : List ℕ) (a n : ℕ) → a + n ≤ length X → ((j : ℕ) → j < n → get_or X (a + j) 0 ≡ 0) → Holding X a (replicate n (pos 0))
holding-zeros X a n l z = ap (λ (k : ℕ). map (to_z w32) (take k (drop a X))) (length-replicate {A = ℤ} n (pos 0)) ∙ ap (map (to_z w32)) same ∙ zeros-are n
  where
    same : take n (drop a X) ≡ replicate n 0
    same =
        ext_get_or 0 (take n (drop a X)) (replicate n 0) (part_length X a n l ∙ sym (length-replicate n 0))
        (λ i h. let k : i < n = omega (arith, part_length X a n l) in get_or-take n (drop a X) i 0 k ∙ get_or-drop a X i 0 ∙ z i k ∙ sym (get_or-replicate {A = ℕ} n i 0 0 k))

-- ---- one after another
pub wrote_none : (before : List ℕ) (a : ℕ) → Wrote before before a []
wrote_none before a = record { long = refl; holds = refl; kept = λ c h. refl }

module _ (before between after : List ℕ) (a : ℕ) (zs : List ℤ) (w : Wrote before between a zs) where
  pub wrote_one : (v : ℤ) → SFits w32 v → (a + length zs) * 4 + 4 ≤ length between → Stored between after (a + length zs) v → Wrote before after a (zs ++ (v ∷ []))
  wrote_one v s l st = record {
    long = st.long ∙ w.long;
    holds = subst (λ (Y : List ℕ). Holding Y a (zs ++ (v ∷ []))) (sym st.words)
        (holding-one (cells_of between) a zs (of_z w32 v) v w.holds (omega (arith, length-words between)) (to_z-of_z s));
    kept = λ c h.
        ap (λ (Y : List ℕ). get_or Y c 0) st.words
        ∙ set_same (cells_of between) (a + length zs) (of_z w32 v) c (λ q. h (omega arith) (omega (arith, length-append zs (v ∷ []))))
        ∙ w.kept c (λ x y. h x (omega (arith, length-append zs (v ∷ []))));
  }

  pub wrote-more : (ys : List ℤ) → Wrote between after (a + length zs) ys → Wrote before after a (zs ++ ys)
  wrote-more ys g = record {
    long = g.long ∙ w.long;
    holds = holding-append (cells_of after) a zs ys
        (holding-same (cells_of between) (cells_of after) a zs (length-words after ∙ ap (λ (n : ℕ). n / 4) g.long ∙ sym (length-words between)) (λ c x y. g.kept c (λ p q. omega arith)) w.holds)
        g.holds;
    kept = λ c h. g.kept c (λ x y. h (omega arith) (omega (arith, length-append zs ys))) ∙ w.kept c (λ x y. h x (omega (arith, length-append zs ys)));
  }

-- ---- fill
pub record Filling (before now : List ℕ) (at count : ℕ) (v : ℤ) (k : ℕ) : Type 0 where
  pub wrote : Wrote before now at (replicate k v)
  pub low : k ≤ count
  pub small : SFits w32 v

pub fill_start : (before : List ℕ) (at count : ℕ) (v : ℤ) → SFits w64 v → SFits w32 v → Filling before before at count (read v) 0
fill_start before at count v s t = record { wrote = wrote_none before at; low = omega arith; small = rw (to_z-of_z s) t }

replicate-one : (k : ℕ) (v : ℤ) → replicate k v ++ (v ∷ []) ≡ replicate (k + 1) v
replicate-one k v = replicate-append-replicate k 1 v

module _ (before now : List ℕ) (at count k : ℕ) (v : ℤ) (f : Filling before now at count v k) where
  pub fill-inside : (at + count) * 4 ≤ length before → k < count → (at + k) * 4 + 4 ≤ length now
  fill-inside h l = omega (arith, f.wrote.long)

  pub fill_on : (after : List ℕ) → (at + count) * 4 ≤ length before → k < count → Stored now after (at + k) v → Filling before after at count v (k + 1)
  fill_on after h l st =
      let n : length (replicate k v) ≡ k = length-replicate k v in
      record {
        wrote = subst (Wrote before after at) (replicate-one k v)
            (wrote_one before now after at (replicate k v) f.wrote v f.small (omega (arith, f.wrote.long)) (subst (λ (j : ℕ). Stored now after (at + j) v) (sym n) st));
        low = omega arith;
        small = f.small;
      }

  pub fill_end : count ≤ k → Filled before now at count v (at + count)
  fill_end h = let e : k ≡ count = omega (arith, f.low) in record { wrote = subst (λ (j : ℕ). Wrote before now at (replicate j v)) e f.wrote; next = refl }

pub filled-read : (before now : List ℕ) (at count r : ℕ) (v : ℤ) → SFits w64 v → Filled before now at count (read v) r → Filled before now at count v r
filled-read before now at count r v s f = rw (to_z-of_z s) at f

pub fill_one : (before after : List ℕ) (at count : ℕ) (v : ℤ) → SFits w64 v → SFits w32 v → (at + count) * 4 ≤ length before → count ≡ 1 → Stored before after at (read v) → Filled before after at count v (at + 1)
fill_one before after at count v s t h e st =
    let here : at ≡ at + 0 = omega arith in
    let f = fill_on before before at count 0 (read v) (fill_start before at count v s t) after h (omega arith) (subst (λ (c : ℕ). Stored before after c (read v)) here st) in
    filled-read before after at count (at + 1) v s (record { wrote = subst (λ (j : ℕ). Wrote before after at (replicate j (read v))) (sym e) f.wrote; next = omega arith })

-- ---- loops
-- so many of them are idle
pub record Idling (before now : List ℕ) (at fors k : ℕ) : Type 0 where
  pub low : k ≤ fors
  pub idled : Idled before now at k

pub idle-start : (before : List ℕ) (at fors : ℕ) → Idling before before at fors 0
idle-start before at fors = record {
  low = omega arith;
  idled = record {
    long = refl;
    zeros = λ j h. absurd (omega arith);
    ends = λ j h. absurd (omega arith);
    steps = λ j h. absurd (omega arith);
    below = λ c h. refl;
    above = λ c h. refl;
  };
}

-- a cell that is 0 stays so as 0 is written anywhere
module _ (X : List ℕ) (a b : ℕ) where
  zero_in : a < length X → get_or (set X a 0) a 0 ≡ 0
  zero_in h = get_or-set_same X a 0 0 h

  zero-stays : get_or X b 0 ≡ 0 → get_or (set X a 0) b 0 ≡ 0
  zero-stays h = by-same b a (λ q. by_less a (length X) (λ l. ap (λ (j : ℕ). get_or (set X a 0) j 0) q ∙ zero_in l) (λ l. ap (λ (Y : List ℕ). get_or Y b 0) (set_out X a 0 l) ∙ h)) (λ q. set_same X a 0 b q ∙ h)

module _ (before now : List ℕ) (at fors k : ℕ) (i : Idling before now at fors k) (room : (at + fors + steps_cell) * 4 ≤ length before) (less : k < fors) where
  pub idle-inside : (at + k) * 4 + 4 ≤ length now
  idle-inside = omega (arith, i.idled.long)

  module _ (one : List ℕ) (s1 : Stored now one (at + k) (pos 0)) where
    pub idle-inside-ends : (at + k + ends_cell) * 4 + 4 ≤ length one
    idle-inside-ends = omega (arith, i.idled.long, s1.long)

    module _ (two : List ℕ) (s2 : Stored one two (at + k + ends_cell) (pos 0)) where
      pub idle-inside-steps : (at + k + steps_cell) * 4 + 4 ≤ length two
      idle-inside-steps = omega (arith, i.idled.long, s1.long, s2.long)

      module _ (three : List ℕ) (s3 : Stored two three (at + k + steps_cell) (pos 0)) where
        words_are : cells_of three ≡ set (set (set (cells_of now) (at + k) 0) (at + k + ends_cell) 0) (at + k + steps_cell) 0
        words_are =
            s3.words ∙ ap (λ (Y : List ℕ). set Y (at + k + steps_cell) 0) (s2.words ∙ ap (λ (Y : List ℕ). set Y (at + k + ends_cell) 0) s1.words)

        X : List ℕ
        X = cells_of now

        long-is : length X ≡ length before / 4
        unfolding X
        long-is = length-words now ∙ ap (λ (n : ℕ). n / 4) i.idled.long

        -- a cell that was 0, and the three
        was : (c : ℕ) → get_or X c 0 ≡ 0 → get_or (cells_of three) c 0 ≡ 0
        unfolding X
        was c h =
            ap (λ (Y : List ℕ). get_or Y c 0) words_are
            ∙ zero-stays (set (set X (at + k) 0) (at + k + ends_cell) 0) (at + k + steps_cell) c (zero-stays (set X (at + k) 0) (at + k + ends_cell) c (zero-stays X (at + k) c h))

        other : (c : ℕ) → (c ≡ at + k → ⊥) → (c ≡ at + k + ends_cell → ⊥) → (c ≡ at + k + steps_cell → ⊥) → get_or (cells_of three) c 0 ≡ get_or X c 0
        unfolding X
        other c a b d =
            ap (λ (Y : List ℕ). get_or Y c 0) words_are
            ∙ set_same (set (set X (at + k) 0) (at + k + ends_cell) 0) (at + k + steps_cell) 0 c d ∙ set_same (set X (at + k) 0) (at + k + ends_cell) 0 c b ∙ set_same X (at + k) 0 c a

        new : get_or (cells_of three) (at + k) 0 ≡ 0
        unfolding X
        new =
            ap (λ (Y : List ℕ). get_or Y (at + k) 0) words_are
            ∙ zero-stays (set (set X (at + k) 0) (at + k + ends_cell) 0) (at + k + steps_cell) (at + k) (zero-stays (set X (at + k) 0) (at + k + ends_cell) (at + k) (zero_in X (at + k) (at + k) (omega (arith, long-is))))

        new-end : get_or (cells_of three) (at + k + ends_cell) 0 ≡ 0
        unfolding X
        new-end =
            ap (λ (Y : List ℕ). get_or Y (at + k + ends_cell) 0) words_are
            ∙ zero-stays (set (set X (at + k) 0) (at + k + ends_cell) 0) (at + k + steps_cell) (at + k + ends_cell) (zero_in (set X (at + k) 0) (at + k + ends_cell) (at + k + ends_cell) (omega (arith, long-is, length-set X (at + k) 0)))

        new-step : get_or (cells_of three) (at + k + steps_cell) 0 ≡ 0
        unfolding X
        new-step =
            ap (λ (Y : List ℕ). get_or Y (at + k + steps_cell) 0) words_are
            ∙ zero_in (set (set X (at + k) 0) (at + k + ends_cell) 0) (at + k + steps_cell) (at + k + steps_cell) (omega (arith, long-is, length-set (set X (at + k) 0) (at + k + ends_cell) 0, length-set X (at + k) 0))

        pub idle-on : Idling before three at fors (k + 1)
        unfolding X
        idle-on = record {
          low = omega arith;
          idled = record {
            long = s3.long ∙ s2.long ∙ s1.long ∙ i.idled.long;
            zeros = λ j h. by_last j k (omega arith) (λ q. ap (λ (n : ℕ). get_or (cells_of three) (at + n) 0) q ∙ new) (λ l. was (at + j) (i.idled.zeros j l));
            ends = λ j h. by_last j k (omega arith) (λ q. ap (λ (n : ℕ). get_or (cells_of three) (at + n + ends_cell) 0) q ∙ new-end) (λ l. was (at + j + ends_cell) (i.idled.ends j l));
            steps = λ j h. by_last j k (omega arith) (λ q. ap (λ (n : ℕ). get_or (cells_of three) (at + n + steps_cell) 0) q ∙ new-step) (λ l. was (at + j + steps_cell) (i.idled.steps j l));
            below = λ c h. other c (λ q. omega arith) (λ q. omega arith) (λ q. omega arith) ∙ i.idled.below c h;
            above = λ c h. other c (λ q. omega arith) (λ q. omega arith) (λ q. omega arith) ∙ i.idled.above c (omega arith);
          };
        }

pub idle-end : (before now : List ℕ) (at fors k : ℕ) → Idling before now at fors k → fors ≤ k → Idled before now at fors
idle-end before now at fors k i h = let e : k ≡ fors = omega (arith, i.low) in subst (Idled before now at) e i.idled
