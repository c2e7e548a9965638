-- Operands: what is loaded, and that it is inside the store.
use mathlib.Core.Path.{◌≡◌, refl, sym, ap, subst, ◌∙◌}
use mathlib.Core.Bool.{Bool, true, false}
use mathlib.Core.List.{List, map}
use mathlib.Core.Option.{some}
use Prim.Native.Nat.{ℕ, ◌+◌, ◌-◌, ◌*◌, ◌/◌, ◌%◌, ◌<◌, ◌≤◌}
use native.Mathlib.Omega.{arith}
use lib.Dec.{T, eqb}
use lib.ListN.{length, get_or, take, drop, get_or-map}
use lib.Seq.{get_or-take, get_or-drop}
use lib.IntN.{ℤ, pos, negsuc, nat_abs, ◌-ℤ◌}
use lib.Signed.{lt_z, non_neg}
use mir.Syntax.{w32, w64}
use mir.Val.{Fits, SFits, to_z}
use mir.Facts.{to_z-of_z}
use mir.ValLaws.{to_z_pos}
use borrow.Author.Tests.{eq-eqb, ne_eqb, ltb-true, ltb-false, le-leb, lt-leb}
use Rattle.laws.proofs.Tests.{test, by-same}
use Rattle.paper.specs.Numbers.{Value, value, error, out_of_bound}
use Rattle.paper.specs.Terms.{of_module, of_routine, onward, Term, errno, unary, applied, worth, load, locate, load_from}
use Rattle.store_cells.specs.Cells.{cells_of}
use Rattle.store_numbers.proofs.Whole.{read, minus-cases}
use Rattle.code.specs.Cells.{op_in, value_in, errno_cell}
use Rattle.code.specs.Spans.{bias, a_literal, a_module_slot, a_call_slot, a_module_element, a_call_element, a_parenthesis, first_in, size_in, prefix_in, leaf_term, element_term, memory_in}
use Rattle.code.proofs.Options.{same_some}
use Rattle.code.proofs.Operands.{leaf-literal, leaf-errno, leaf-module, leaf-call, by-leaf, array_in, room_in, Shaped, shaped}
use Rattle.store_reading.specs.Reading.{cell_values, Loaded}
use Rattle.store_evaluation.specs.Answers.{first_error, decoded, Small, Gives, Counts, memory_of, Stores}
use Rattle.store_evaluation.specs.Parts.{Leaf, Read, cell_of, closed_term, opens_at, ends_at, nests_in, Nests, Array, Indexed, Closes, Closed}
use Rattle.store_evaluation.proofs.Numbers.{is-value, is-error, gives-value, gives-error, gives_same, told}

-- ---- a word
map_at : (X : List ℕ) (k : ℕ) → get_or (map (to_z w32) X) k (pos 0) ≡ to_z w32 (get_or X k 0)
map_at X k = get_or-map (to_z w32) X k 0

load-module : (m n : ℕ) (X : List ℕ) (base k : ℕ) → k < m → load (memory_in m n X base) (of_module k) ≡ to_z w32 (get_or X k 0)
unfolding memory_in load
load-module m n X base k h = map_at (take m X) k ∙ ap (to_z w32) (get_or-take m X k 0 h)

pub load-call : (m n : ℕ) (X : List ℕ) (base k : ℕ) → k < n → load (memory_in m n X base) (of_routine k) ≡ to_z w32 (get_or X (base + k) 0)
unfolding memory_in load
load-call m n X base k h = map_at (take n (drop base X)) k ∙ ap (to_z w32) (get_or-take n (drop base X) k 0 h ∙ get_or-drop base X k 0)

module _ (base op own k : ℕ) where
  pub cell-own : op ≡ own → k ≡ cell_of base op own k
  unfolding cell_of
  cell-own h = rw (eq-eqb op own h, cell_of)

  pub cell-call : (op ≡ own → ⊥) → base + k ≡ cell_of base op own k
  unfolding cell_of
  cell-call h = rw (ne_eqb op own h, cell_of)

-- ---- leaves
module _ (values : List ℕ) (base : ℕ) (st : Stores values base) (op v : ℕ) where
  -- where a leaf that is no literal stands, and what it is worth
  record At (c : Counts) (t : Term) : Type 0 where
    pub inside : cell_of base op a_module_slot v * 4 + 4 ≤ length values
    pub is : worth (memory_of c values base) t ≡ value (to_z w32 (get_or (cells_of values) (cell_of base op a_module_slot v) 0))

  at-cell : (c : Counts) (t : Term) (k : ℕ) → k ≡ cell_of base op a_module_slot v → k * 4 + 4 ≤ length values
      → worth (memory_of c values base) t ≡ value (to_z w32 (get_or (cells_of values) k 0)) → At c t
  at-cell c t k e h w = record { inside = omega arith; is = w ∙ ap (λ (j : ℕ). value (to_z w32 (get_or (cells_of values) j 0))) e }

  errno-worth : (c : Counts) → worth (memory_of c values base) errno ≡ value (to_z w32 (get_or (cells_of values) errno_cell 0))
  unfolding worth memory_in
  errno-worth c = ap value (sym (to_z_pos w32 (get_or (cells_of values) errno_cell 0) st.number))

  stands_at : (c : Counts) (t : Term) → (op ≡ a_literal → ⊥) → leaf_term c.m c.n op v ≡ some t → At c t
  unfolding worth
  stands_at c t h e =
      by-leaf c.m c.n op v t e (λ k. absurd (h k))
      (λ k.
      let d : leaf_term c.m c.n a_module_slot v ≡ some t = rw k at e in
      by-same v errno_cell
      (λ q.
      at-cell c t v (cell-own base op a_module_slot v k) (omega (arith, st.words))
      (ap (worth (memory_of c values base)) (sym (leaf-errno c.m c.n v t q d)) ∙ errno-worth c ∙ ap (λ (j : ℕ). value (to_z w32 (get_or (cells_of values) j 0))) (sym q)))
      (λ q.
      let g = leaf-module c.m c.n v t q d in
      let l = ltb-true v c.m g.holds in
      at-cell c t v (cell-own base op a_module_slot v k) (omega (arith, st.words, c.most))
      (ap (worth (memory_of c values base)) (sym g.is) ∙ ap value (load-module c.m c.n (cells_of values) base v l))))
      (λ k.
      let d : leaf_term c.m c.n a_call_slot v ≡ some t = rw k at e in
      let g = leaf-call c.m c.n v t d in
      let l = ltb-true v c.n g.holds in
      at-cell c t (base + v) (cell-call base op a_module_slot v (λ z. omega arith)) (omega (arith, st.call, c.window))
      (ap (worth (memory_of c values base)) (sym g.is) ∙ ap value (load-call c.m c.n (cells_of values) base v l)))

  module _ (lf : Leaf op v) where
    pub literal-fits : SFits w64 (to_z w64 v -ℤ pos bias)
    literal-fits =
        rw (to_z_pos w64 v (omega (arith, lf.bits)))
        (minus-cases (λ z. SFits w64 z) v bias (λ h. record { sfits = omega arith }) (λ h. record { sfits = omega (arith, lf.bits) }))

    literal-small : SFits w32 (pos v -ℤ pos bias)
    literal-small = minus-cases (λ z. SFits w32 z) v bias (λ h. record { sfits = omega arith }) (λ h. record { sfits = omega (arith, lf.bits) })

    pub read-literal : op ≡ 1 → Read values base op v (read (to_z w64 v -ℤ pos bias))
    unfolding worth
    read-literal h =
        rw (to_z-of_z literal-fits, to_z_pos w64 v (omega (arith, lf.bits)))
        (record {
          is = λ c t e. let d : leaf_term c.m c.n a_literal v ≡ some t = rw h at e in ap (worth (memory_of c values base)) (sym (leaf-literal c.m c.n v t d));
          small = literal-small;
        })

    module _ (h : op ≡ 1 → ⊥) where
      module _ (k : ℕ) (e : k ≡ cell_of base op 2 v) where
        pub leaf-inside : k * 4 + 4 ≤ length values
        leaf-inside = omega (arith, (stands_at lf.c lf.t h lf.is).inside)

        pub read_word : (z : ℤ) → SFits w64 z → Loaded (get_or (cells_of values) k 0) z → Read values base op v (read z)
        read_word z s l =
            rw (to_z-of_z s) (record {
              is = λ c t d. (stands_at c t h d).is ∙ ap (λ (j : ℕ). value (to_z w32 (get_or (cells_of values) j 0))) (sym e) ∙ ap value (sym l.is);
              small = l.small;
            })

-- ---- elements
module _ (values : List ℕ) (base op v i : ℕ) (c : Counts) (h : first_in v + i < room_in c.m c.n op) where
  load_at : load (memory_of c values base) (onward (array_in op v) i) ≡ to_z w32 (get_or (cells_of values) (cell_of base op a_module_element (first_in v) + i) 0)
  unfolding array_in room_in cell_of onward
  load_at =
      test (eqb op a_module_element)
      (λ t. rw (t, array_in) (load-module c.m c.n (cells_of values) base (first_in v + i) (rw (t, room_in) at h)))
      (λ t.
      let q : base + (first_in v + i) ≡ base + first_in v + i = omega arith in
      rw (t, array_in) (load-call c.m c.n (cells_of values) base (first_in v + i) (rw (t, room_in) at h) ∙ rw q))

  element-inside : Stores values base → (cell_of base op a_module_element (first_in v) + i) * 4 + 4 ≤ length values
  unfolding room_in cell_of
  element-inside st =
      test (eqb op a_module_element)
      (λ t. let l : first_in v + i < c.m = rw (t, room_in) at h in rw (t, cell_of) (omega (arith, st.words, c.most)))
      (λ t. let l : first_in v + i < c.n = rw (t, room_in) at h in rw (t, cell_of) (omega (arith, st.call, c.window)))

module _ (values : List ℕ) (base w : ℕ) (x : ℤ) (st : Stores values base) (ar : Array w) (sm : Small x) (s : SFits w64 x) (b : Bool) (eb : b ≡ lt_z (read x) (pos first_error)) where
  -- from an answer for the value of the index to one for its term
  answers : (r : ℤ) (y : Value) → Gives y r
      → ((c : Counts) (t u : Term) → Shaped c.m c.n (op_in w) (value_in w) t u → (z : Value) → decoded x ≡ z
      → y ≡ load_from (memory_of c values base) (locate (array_in (op_in w) (value_in w)) (size_in (value_in w)) z))
      → Indexed values base w x r
  unfolding worth
  answers r y g f = record {
    small = g.small;
    is = λ c t u k d.
        let h = shaped c.m c.n (op_in w) (value_in w) t u k in
        g.is ∙ f c t u h (worth (memory_of c values base) t) d ∙ ap (worth (memory_of c values base)) h.is;
  }

  located : Counts → Value → Value
  located c z = load_from (memory_of c values base) (locate (array_in (op_in w) (value_in w)) (size_in (value_in w)) z)

  pub index-error : b ≡ false → Indexed values base w x (read x)
  unfolding load_from locate located
  index-error h =
      let q = is-error x (told x b false s eb h) in
      rw (to_z-of_z s) (answers x (decoded x) (gives_same x sm) (λ c t u k z d. q ∙ ap (located c) (sym q ∙ d)))

  module _ (h : b ≡ true) where
    val : decoded x ≡ value x
    val = is-value x (told x b true s eb h)

    by_value : (r : ℤ) (y : Value) → Gives y r → ((c : Counts) (t u : Term) → Shaped c.m c.n (op_in w) (value_in w) t u → y ≡ located c (value x)) → Indexed values base w x r
    unfolding located
    by_value r y g f = answers r y g (λ c t u k z d. f c t u k ∙ ap (located c) (sym val ∙ d))

    pub index-low : lt_z (read x) (pos 1) ≡ true → Indexed values base w x (pos (first_error + out_of_bound))
    unfolding load_from locate located
    index-low l =
        let q : lt_z x (pos 1) ≡ true = rw (to_z-of_z s) at l in
        by_value (pos (first_error + out_of_bound)) (error out_of_bound) (gives-error out_of_bound) (λ c t u k. rw (q, locate))

    module _ (l : lt_z (read x) (pos 1) ≡ false) (n : w < cell_values) where
      low-is : lt_z x (pos 1) ≡ false
      low-is = rw (to_z-of_z s) at l

      high_is : (y : Bool) → lt_z (to_z w64 (w / 256 / 1024)) (read x) ≡ y → lt_z (pos (size_in (value_in w))) x ≡ y
      high_is y g = rw (to_z_pos w64 (w / 256 / 1024) (omega arith), to_z-of_z s) at g

      pub index-high : lt_z (to_z w64 (w / 256 / 1024)) (read x) ≡ true → Indexed values base w x (pos (first_error + out_of_bound))
      unfolding load_from locate located
      index-high g =
          by_value (pos (first_error + out_of_bound)) (error out_of_bound) (gives-error out_of_bound) (λ c t u k. rw (low-is, locate) (rw (high_is true g)))

      module _ (g : lt_z (to_z w64 (w / 256 / 1024)) (read x) ≡ false) where
        record Within : Type 0 where
          pub k : ℕ
          pub is : x ≡ pos k
          pub low : 1 ≤ k
          pub high : k ≤ size_in (value_in w)

        within_of : (y : ℤ) → x ≡ y → lt_z y (pos 1) ≡ false → lt_z (pos (size_in (value_in w))) y ≡ false → Within
        within_of (pos k) q a b = record { k = k; is = q; low = ltb-false k 1 a; high = ltb-false (size_in (value_in w)) k b }
        within_of (negsuc k) q a b = absurd (subst T a tt)

        within : Within
        within = within_of x refl low-is (high_is false g)

        abs_is : nat_abs (read x) ≡ within.k
        abs_is = ap nat_abs (to_z-of_z s ∙ within.is)

        pub index-cast : T (non_neg (read x)) × Fits w64 (nat_abs (read x))
        index-cast = (rw (to_z-of_z s) (rw within.is tt), record { fits = omega (arith, abs_is, within.high) })

        pub index-some : 1 ≤ nat_abs (read x)
        index-some = omega (arith, abs_is, within.low)

        room-is : (c : Counts) (t u : Term) → Shaped c.m c.n (op_in w) (value_in w) t u → first_in (value_in w) + (nat_abs (read x) - 1) < room_in c.m c.n (op_in w)
        room-is c t u k = omega (arith, abs_is, within.low, within.high, k.room)

        module _ (p : ℕ) (q : p ≡ cell_of base (w % 256) 4 (w / 256 % 1024)) where
          pub index-inside : (p + (nat_abs (read x) - 1)) * 4 + 4 ≤ length values
          index-inside =
              rw q (element-inside values base (op_in w) (value_in w) (nat_abs (read x) - 1) ar.c
              (room-is ar.c ar.t ar.u (shaped ar.c.m ar.c.n (op_in w) (value_in w) ar.t ar.u ar.is)) st)

          pub index-done : (z : ℤ) → SFits w64 z → Loaded (get_or (cells_of values) (p + (nat_abs (read x) - 1)) 0) z → Indexed values base w x (read z)
          unfolding load_from locate located
          index-done z y ld =
              rw (to_z-of_z y) (by_value z (value z) (gives-value z ld.small) (λ c t u k.
              rw (low-is, locate) (rw (high_is false g)
              (ap value (ld.is ∙ rw (q, to_z-of_z s) (sym (load_at values base (op_in w) (value_in w) (nat_abs x - 1) c (rw (to_z-of_z s) at (room-is c t u k)))))))))

-- ---- operands of several words
module _ (op at : ℕ) where
  pub opens-element : op ≤ 5 → at + 2 ≡ opens_at op at
  unfolding opens_at
  opens-element h = rw (le-leb op 5 h, opens_at)

  pub opens-other : 5 < op → at + 1 ≡ opens_at op at
  unfolding opens_at
  opens-other h = rw (lt-leb op 5 h, opens_at)

  pub ends-closed : op ≤ 6 → at + 1 ≡ ends_at op at
  unfolding ends_at
  ends-closed h = rw (le-leb op 6 h, ends_at)

  pub ends_open : 6 < op → at ≡ ends_at op at
  unfolding ends_at
  ends_open h = rw (lt-leb op 6 h, ends_at)

  -- how many may still open inside: here `at` is how many may around it
  pub nests-one : op ≤ 6 → Nests op at → 1 ≤ at
  nests-one h k = omega (arith, k h)

  pub nests-less : op ≤ 6 → at - 1 ≡ nests_in op at
  unfolding nests_in
  nests-less h = rw (le-leb op 6 h, nests_in)

  pub nests-same : 6 < op → at ≡ nests_in op at
  unfolding nests_in
  nests-same h = rw (lt-leb op 6 h, nests_in)

-- a parenthesis counts as a plus, which changes nothing
plus-same : (y : Value) → applied (prefix_in a_parenthesis) y ≡ y
unfolding applied prefix_in
plus-same (value z) = refl
plus-same (error e) = refl

module _ (values : List ℕ) (base w : ℕ) (x : ℤ) (s : SFits w64 x) where
  element-is : w % 256 ≤ 5 → (c : Counts) (t u : Term) → closed_term c (op_in w) (value_in w) t ≡ some u → element_term c.m c.n (op_in w) (value_in w) t ≡ some u
  unfolding closed_term
  element-is h c t u e = rw (le-leb (op_in w) a_call_element h, closed_term) at e

  pub closes-array : w % 256 ≤ 5 → Closes w → Array w
  closes-array h k = record { c = k.c; t = k.t; u = k.u; is = element-is h k.c k.t k.u k.is }

  pub closed-element : w % 256 ≤ 5 → (z : ℤ) → SFits w64 z → Indexed values base w (read x) z → Closed values base w x (read z)
  closed-element h z y i =
      let j : Indexed values base w x z = rw (to_z-of_z s) at i in
      rw (to_z-of_z y) (record { is = λ c t u k d. j.is c t u (element-is h c t u k) d; small = j.small })

  worth-is : 5 < w % 256 → (c : Counts) (t u : Term) → closed_term c (op_in w) (value_in w) t ≡ some u
      → applied (prefix_in (op_in w)) (worth (memory_of c values base) t) ≡ worth (memory_of c values base) u
  unfolding closed_term worth
  worth-is h c t u e =
      let d = rw (lt-leb (op_in w) a_call_element h, closed_term) at e in
      by-same (op_in w) a_parenthesis
      (λ q. rw q (plus-same (worth (memory_of c values base) t)) ∙ ap (worth (memory_of c values base)) (same_some t u (rw (eq-eqb (op_in w) a_parenthesis q) at d)))
      (λ q. ap (worth (memory_of c values base)) (same_some (unary (prefix_in (op_in w)) t) u (rw (ne_eqb (op_in w) a_parenthesis q) at d)))

  pub closed-other : 5 < w % 256 → (z : ℤ) → SFits w64 z → Gives (applied (prefix_in (w % 256)) (decoded (read x))) z → Closed values base w x (read z)
  closed-other h z y g =
      rw (to_z-of_z y) (record {
        is = λ c t u k d. g.is ∙ ap (λ (v : Value). applied (prefix_in (op_in w)) v) (ap decoded (to_z-of_z s) ∙ d) ∙ worth-is h c t u k;
        small = g.small;
      })

pub small-read : (a : ℤ) → SFits w64 a → Small a → Small (read a)
small-read a s m = rw (to_z-of_z s) m

pub small-leaf : {values : List ℕ} {base op v : ℕ} (z : ℤ) → SFits w64 z → Read values base op v z → Small (read z)
small-leaf z s r = rw (to_z-of_z s) (λ q. r.small)
