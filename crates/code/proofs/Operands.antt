-- Operands: what a word's head says of the term that it begins, by its op, there and back.
use mathlib.Core.Path.{◌≡◌, refl, sym, ap, ap₂, ◌∙◌}
use mathlib.Core.Bool.{true, false}
use mathlib.Core.Option.{Option, some}
use Prim.Native.Nat.{ℕ, ◌+◌, ◌<◌, ◌≤◌}
use native.Mathlib.Omega.{arith}
use lib.Dec.{eqb, ltb, leb}
use lib.IntN.{pos, ◌-ℤ◌}
use borrow.Author.Tests.{eq-eqb, ne_eqb, ltb-true, lt-ltb, leb-true, le-leb, lt-leb}
use Rattle.laws.proofs.Tests.{test, by_most, by-same}
use Rattle.paper.specs.Terms.{Ref, of_module, of_routine, Term, literal, errno, stored, element_at, unary}
use Rattle.code.specs.Cells.{op_in, value_in, errno_cell}
use Rattle.code.specs.Spans.{a_literal, a_module_slot, a_call_slot, a_module_element, a_call_element, a_parenthesis, bias, ◌then◌, first_in, size_in, prefix_in, module_leaf, leaf_term, element_term, operand_of}
use Rattle.code.proofs.Options.{none-some, same_some, Guarded, guarded, guards, went, goes}

-- ---- a leaf, by its op
module _ (m n v : ℕ) (t : Term) where
  pub leaf-literal : leaf_term m n a_literal v ≡ some t → literal (pos v -ℤ pos bias) ≡ t
  unfolding leaf_term
  leaf-literal e = same_some (literal (pos v -ℤ pos bias)) t e

  pub leaf-errno : v ≡ errno_cell → leaf_term m n a_module_slot v ≡ some t → errno ≡ t
  unfolding leaf_term module_leaf
  leaf-errno h e = same_some errno t (rw (h, module_leaf) at e)

  pub leaf-module : (v ≡ errno_cell → ⊥) → leaf_term m n a_module_slot v ≡ some t → Guarded (ltb v m) (stored (of_module v)) t
  unfolding leaf_term module_leaf
  leaf-module h e = guarded (ltb v m) (stored (of_module v)) t (rw (ne_eqb v errno_cell h, module_leaf) at e)

  pub leaf-call : leaf_term m n a_call_slot v ≡ some t → Guarded (ltb v n) (stored (of_routine v)) t
  unfolding leaf_term
  leaf-call e = guarded (ltb v n) (stored (of_routine v)) t e

-- no other op is a leaf's
pub by-leaf : {A : Type 0} (m n op v : ℕ) (t : Term) → leaf_term m n op v ≡ some t → (op ≡ a_literal → A) → (op ≡ a_module_slot → A) → (op ≡ a_call_slot → A) → A
unfolding leaf_term
by-leaf m n op v t e a b c =
    by-same op a_literal a (λ h.
    by-same op a_module_slot b (λ k.
    by-same op a_call_slot c (λ j.
    none-some t (rw (ne_eqb op a_call_slot j) at (rw (ne_eqb op a_module_slot k) at (rw (ne_eqb op a_literal h, leaf_term) at e))))))

-- ---- an element's head
unfoldable pub array_in : (op value : ℕ) → Ref
array_in op v = elim (eqb op a_module_element) [ true ↦ of_module (first_in v) | false ↦ of_routine (first_in v) ]

unfoldable pub room_in : (m n op : ℕ) → ℕ
room_in m n op = elim (eqb op a_module_element) [ true ↦ m | false ↦ n ]

pub record Shaped (m n op v : ℕ) (t u : Term) : Type 0 where
  pub is : element_at (array_in op v) (size_in v) t ≡ u
  pub room : first_in v + size_in v ≤ room_in m n op

pub shaped : (m n op v : ℕ) (t u : Term) → element_term m n op v t ≡ some u → Shaped m n op v t u
unfolding element_term array_in room_in
shaped m n op v t u e =
    test (eqb op a_module_element)
    (λ h. let g = guarded (leb (first_in v + size_in v) m) (element_at (of_module (first_in v)) (size_in v) t) u (rw (h, element_term) at e) in
    record { is = rw (h, array_in) g.is; room = rw (h, room_in) (leb-true (first_in v + size_in v) m g.holds) })
    (λ h. let g = guarded (leb (first_in v + size_in v) n) (element_at (of_routine (first_in v)) (size_in v) t) u (rw (h, element_term) at e) in
    record { is = rw (h, array_in) g.is; room = rw (h, room_in) (leb-true (first_in v + size_in v) n g.holds) })

pub shapes : (m n op v : ℕ) (t u : Term) → Shaped m n op v t u → element_term m n op v t ≡ some u
unfolding element_term array_in room_in
shapes m n op v t u s =
    test (eqb op a_module_element)
    (λ h. rw (h, element_term) (guards (leb (first_in v + size_in v) m) (element_at (of_module (first_in v)) (size_in v) t) u
    (le-leb (first_in v + size_in v) m (rw (h, room_in) at s.room)) (rw (h, array_in) at s.is)))
    (λ h. rw (h, element_term) (guards (leb (first_in v + size_in v) n) (element_at (of_routine (first_in v)) (size_in v) t) u
    (le-leb (first_in v + size_in v) n (rw (h, room_in) at s.room)) (rw (h, array_in) at s.is)))

-- ---- more words of data do no harm
module _ (m n p q : ℕ) (hm : m ≤ p) (hn : n ≤ q) where
  pub leaf-more : (op v : ℕ) (t : Term) → leaf_term m n op v ≡ some t → leaf_term p q op v ≡ some t
  unfolding leaf_term module_leaf
  leaf-more op v t e =
      by-leaf m n op v t e
      (λ h. rw h (rw h at e))
      (λ h. let d : leaf_term m n a_module_slot v ≡ some t = rw h at e in
      rw h (by-same v errno_cell (λ k. rw (k, module_leaf) (ap some (leaf-errno m n v t k d)))
      (λ k. let g = leaf-module m n v t k d in
      rw (ne_eqb v errno_cell k, module_leaf) (guards (ltb v p) (stored (of_module v)) t (lt-ltb v p (omega (arith, ltb-true v m g.holds))) g.is))))
      (λ h. let d : leaf_term m n a_call_slot v ≡ some t = rw h at e in
      let g = leaf-call m n v t d in
      rw h (guards (ltb v q) (stored (of_routine v)) t (lt-ltb v q (omega (arith, ltb-true v n g.holds))) g.is))

  room-more : (op : ℕ) → room_in m n op ≤ room_in p q op
  unfolding room_in
  room-more op = test (eqb op a_module_element) (λ h. rw (h, room_in) hm) (λ h. rw (h, room_in) hn)

  pub element-more : (op v : ℕ) (t u : Term) → element_term m n op v t ≡ some u → element_term p q op v t ≡ some u
  element-more op v t u e =
      let s = shaped m n op v t u e in
      shapes p q op v t u (record { is = s.is; room = omega (arith, s.room, room-more op) })

-- ---- an operand, by its op
module _ (m n w l : ℕ) (inner covered : ℕ → ℕ → Option Term) (at : ℕ) (x : Term × ℕ) where
  pub record LeafAt : Type 0 where
    pub is : leaf_term m n (op_in w) (value_in w) ≡ some x.0
    pub end : x.1 ≡ at + 1

  pub record ElementAt : Type 0 where
    pub t : Term
    pub inside : inner (at + 2) l ≡ some t
    pub is : element_term m n (op_in w) (value_in w) t ≡ some x.0
    pub end : x.1 ≡ l + 1

  pub record NestedAt : Type 0 where
    pub inside : inner (at + 1) l ≡ some x.0
    pub end : x.1 ≡ l + 1

  pub record PrefixAt : Type 0 where
    pub t : Term
    pub inside : covered (at + 1) l ≡ some t
    pub is : unary (prefix_in (op_in w)) t ≡ x.0
    pub end : x.1 ≡ l

  -- neither leaf nor element
  past : a_call_slot < op_in w → a_call_element < op_in w → operand_of m n w l inner covered at
      ≡ elim (eqb (op_in w) a_parenthesis) [ true ↦ inner (at + 1) l then (λ t. some (t, l + 1)) | false ↦ covered (at + 1) l then (λ t. some (unary (prefix_in (op_in w)) t, l)) ]
  unfolding operand_of
  past h k = rw (lt-leb (op_in w) a_call_slot h, operand_of) (rw (lt-leb (op_in w) a_call_element k))

  module _ (e : operand_of m n w l inner covered at ≡ some x) where
    pub of-leaf : op_in w ≤ a_call_slot → LeafAt
    unfolding operand_of
    of-leaf h =
        let g = went (leaf_term m n (op_in w) (value_in w)) (λ t. some (t, at + 1)) x (rw (le-leb (op_in w) a_call_slot h, operand_of) at e) in
        let q = same_some (g.a, at + 1) x g.next in
        record { is = g.first ∙ ap (λ (y : Term × ℕ). some y.0) q; end = sym (ap (λ (y : Term × ℕ). y.1) q) }

    module _ (h : a_call_slot < op_in w) where
      pub of-element : op_in w ≤ a_call_element → ElementAt
      unfolding operand_of
      of-element k =
          let g = went (inner (at + 2) l) (λ x. element_term m n (op_in w) (value_in w) x then (λ t. some (t, l + 1))) x
          (rw (le-leb (op_in w) a_call_element k) at (rw (lt-leb (op_in w) a_call_slot h, operand_of) at e)) in
          let d = went (element_term m n (op_in w) (value_in w) g.a) (λ t. some (t, l + 1)) x g.next in
          let q = same_some (d.a, l + 1) x d.next in
          record { t = g.a; inside = g.first; is = d.first ∙ ap (λ (y : Term × ℕ). some y.0) q; end = sym (ap (λ (y : Term × ℕ). y.1) q) }

      module _ (k : a_call_element < op_in w) where
        pub of-nested : op_in w ≡ a_parenthesis → NestedAt
        of-nested s =
            let g = went (inner (at + 1) l) (λ t. some (t, l + 1)) x (rw (eq-eqb (op_in w) a_parenthesis s) at (sym (past h k) ∙ e)) in
            let q = same_some (g.a, l + 1) x g.next in
            record { inside = g.first ∙ ap (λ (y : Term × ℕ). some y.0) q; end = sym (ap (λ (y : Term × ℕ). y.1) q) }

        pub of-prefix : (op_in w ≡ a_parenthesis → ⊥) → PrefixAt
        of-prefix s =
            let g = went (covered (at + 1) l) (λ t. some (unary (prefix_in (op_in w)) t, l)) x (rw (ne_eqb (op_in w) a_parenthesis s) at (sym (past h k) ∙ e)) in
            let q = same_some (unary (prefix_in (op_in w)) g.a, l) x g.next in
            record { t = g.a; inside = g.first; is = ap (λ (y : Term × ℕ). y.0) q; end = sym (ap (λ (y : Term × ℕ). y.1) q) }

  -- by cases
  pub of-any : {A : Type 0} → operand_of m n w l inner covered at ≡ some x
      → (op_in w ≤ a_call_slot → LeafAt → A)
      → (a_call_slot < op_in w → op_in w ≤ a_call_element → ElementAt → A)
      → (op_in w ≡ a_parenthesis → NestedAt → A)
      → (a_parenthesis < op_in w → PrefixAt → A)
      → A
  of-any e a b c d =
      by_most (op_in w) a_call_slot (λ h. a h (of-leaf e h)) (λ h.
      by_most (op_in w) a_call_element (λ k. b h k (of-element e h k)) (λ k.
      by-same (op_in w) a_parenthesis (λ s. c s (of-nested e h k s)) (λ s. d (omega (arith, s)) (of-prefix e h k s))))

  pair_is : (t : Term) (j : ℕ) → t ≡ x.0 → x.1 ≡ j → some (t, j) ≡ some x
  pair_is t j p q = ap₂ (λ (s : Term) (k : ℕ). some (s, k)) p (sym q)

  -- and back
  pub to-leaf : op_in w ≤ a_call_slot → LeafAt → operand_of m n w l inner covered at ≡ some x
  unfolding operand_of
  to-leaf h g =
      rw (le-leb (op_in w) a_call_slot h, operand_of) (goes (leaf_term m n (op_in w) (value_in w)) (λ t. some (t, at + 1)) x.0 g.is ∙ pair_is x.0 (at + 1) refl g.end)

  pub to-element : a_call_slot < op_in w → op_in w ≤ a_call_element → ElementAt → operand_of m n w l inner covered at ≡ some x
  unfolding operand_of
  to-element h k g =
      rw (lt-leb (op_in w) a_call_slot h, operand_of) (rw (le-leb (op_in w) a_call_element k)
      (goes (inner (at + 2) l) (λ x. element_term m n (op_in w) (value_in w) x then (λ t. some (t, l + 1))) g.t g.inside
      ∙ goes (element_term m n (op_in w) (value_in w) g.t) (λ t. some (t, l + 1)) x.0 g.is
      ∙ pair_is x.0 (l + 1) refl g.end))

  pub to-nested : op_in w ≡ a_parenthesis → NestedAt → operand_of m n w l inner covered at ≡ some x
  to-nested s g =
      past (omega arith) (omega arith) ∙ rw (eq-eqb (op_in w) a_parenthesis s)
      (goes (inner (at + 1) l) (λ t. some (t, l + 1)) x.0 g.inside ∙ pair_is x.0 (l + 1) refl g.end)

  pub to-prefix : a_parenthesis < op_in w → PrefixAt → operand_of m n w l inner covered at ≡ some x
  to-prefix s g =
      past (omega arith) (omega arith) ∙ rw (ne_eqb (op_in w) a_parenthesis (λ q. omega arith))
      (goes (covered (at + 1) l) (λ t. some (unary (prefix_in (op_in w)) t, l)) g.t g.inside
      ∙ pair_is (unary (prefix_in (op_in w)) g.t) l g.is g.end)
