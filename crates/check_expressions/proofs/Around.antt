-- Operands of several words and operators: what is answered of the parts is answered of the whole.
use mathlib.Core.Path.{◌≡◌, refl, sym, ap, subst, ◌∙◌}
use mathlib.Core.Bool.{false}
use mathlib.Core.List.{List, [], ◌∷◌, ◌++◌}
use mathlib.Core.Option.{some}
use Prim.Native.Nat.{ℕ, suc, ◌+◌, ◌*◌, ◌/◌, ◌%◌, ◌<◌, ◌≤◌}
use native.Mathlib.Omega.{arith}
use lib.ListN.{length}
use borrow.Author.Tests.{le-leb}
use mir.Syntax.{w64}
use mir.Val.{Fits}
use Rattle.laws.proofs.Tests.{by-same, by_last}
use Rattle.paper.specs.Words.{word_limit}
use Rattle.paper.specs.Terms.{Term, element_at, unary, binary}
use Rattle.paper.specs.Trees.{Expr, first}
use Rattle.paper.specs.Expressions.{nestings, level_of}
use Rattle.paper.specs.Names.{DataType, a_num, array_in}
use Rattle.paper.specs.Types.{Fault, fault, fault_if, judged, differs, wanted, judge_element, judge_signed, judge_joined}
use Rattle.paper.specs.Types as types
use Rattle.store_cells.specs.Cells.{cells_of}
use Rattle.code.specs.Cells.{value_in, op_at, value_at}
use Rattle.code.specs.Spans.{a_call_slot, a_module_element, a_parenthesis, guard, operator_in, leaf_term, element_term, term_within}
use Rattle.code.proofs.Operands.{by-leaf}
use Rattle.code.proofs.Spanning.{term-grows, single}
use Rattle.code.proofs.Composing.{nested-span, element-span, prefix-span, written-span, written-leaf}
use Rattle.layout.specs.Parts.{link_part}
use Rattle.layout.specs.Rules.{wrong_type}
use Rattle.layout.specs.Types.{type_in}
use Rattle.layout.specs.declared.types.ValueType.{ValueType}
use Rattle.layout.specs.declared.types.ValueType.TheVariants.{Num}
use Rattle.check_names.specs.Meanings.{an_array, kind_in, bool_in, own_in, type_with, ref_with, meaning_with, meaning_in}
use Rattle.check_names.specs.Promises.{TypeOf}
use Rattle.check_expressions.specs.Judgements.{Judged}
use Rattle.std.specs.Prelude.{Ok, Err}
use Rattle.layout.specs.Broken.{as_fault}
use Rattle.layout.specs.declared.rules.Breach.{Breach}
use Rattle.layout.specs.declared.rules.Rule.TheVariants.{WrongType}
use Rattle.check_expressions.specs.Known.{InRoom, Within}
use Rattle.check_expressions.specs.Answers.{Sound, SoundUnder, Refused, SaysUnder}
use Rattle.store_writing.specs.Promises.{Linked}
use Rattle.check_expressions.specs.Parts.{asked_of, result_of, Prefixes, SignType, Gives, signed_of, Tied, Meant, Short, Nested, Signed, Indexed, Right, Joined}
use Rattle.store_writing.proofs.Keeping.{kept-wider, kept-rewritten, within-above}
use Rattle.check_expressions.proofs.NoSteps.{low-written}
use Rattle.check_expressions.proofs.FaultsOfParts.{judged-faults, judged-term, judged-type, wanted-none, wanted-wrong, wanted-first, joined_is, signed_is, element-is}
use Rattle.check_expressions.proofs.Leaves.{judges-refused}

-- ---- answers by their cases
module _ (d m n : ℕ) (C : List ℕ) (at to : ℕ) (j : types.Judged) (r : Judged) where
  pub under-faulty : (broken : Breach) → r ≡ Err broken → SaysUnder d m n C at to j r → Refused j broken
  unfolding SaysUnder
  under-faulty broken e s = subst (SaysUnder d m n C at to j) e s

  pub under-typed : (type : ValueType) (next : ℕ) → r ≡ Ok (type, next) → SaysUnder d m n C at to j r → SoundUnder d m n C at to j type next
  unfolding SaysUnder
  under-typed type next e s = subst (SaysUnder d m n C at to j) e s

-- the same of a whole expression
module _ (m n : ℕ) (C : List ℕ) (at to : ℕ) (j : types.Judged) (r : Judged) where
  pub says-faulty : (broken : Breach) → r ≡ Err broken → SaysUnder nestings m n C at to j r → Refused j broken
  says-faulty broken e s = under-faulty nestings m n C at to j r broken e s

  pub says_typed : (type : ValueType) (next : ℕ) → r ≡ Ok (type, next) → SaysUnder nestings m n C at to j r → Sound m n C at to j type next
  says_typed type next e s = under-typed nestings m n C at to j r type next e s

-- what is judged, by its parts
module _ (j : types.Judged) (t : DataType) (fs : List Fault) (x : Term) (q : j ≡ judged t fs x) where
  pub refused_as : (broken : Breach) (others : List Fault) → fs ≡ as_fault broken ∷ others → Refused j broken
  refused_as broken others e = record { others = others; faults-are = ap (λ (k : types.Judged). k.faults) q ∙ judged-faults t fs x ∙ e }

  pub sound-as : (d m n : ℕ) (C : List ℕ) (at to : ℕ) (type : ValueType) (next : ℕ) → fs ≡ [] → type_in type ≡ t → next ≡ to → term_within m n C d at to ≡ some x → SoundUnder d m n C at to j type next
  sound-as d m n C at to type next e ty h s = record {
    none = ap (λ (k : types.Judged). k.faults) q ∙ judged-faults t fs x ∙ e;
    type-is = ty ∙ sym (ap (λ (k : types.Judged). k.type) q ∙ judged-type t fs x e);
    next-is = h;
    stands = s ∙ ap some (sym (judged-term t fs x) ∙ sym (ap (λ (k : types.Judged). k.term) q));
  }

-- ---- parentheses
pub nested-faulty : (code : List ℕ) (inner : Judged) (at : ℕ) (broken : Breach) → inner ≡ Err broken → Nested code code inner at (Err broken)
nested-faulty code inner at broken e = record {
  is = λ d m n to j s. judges-refused (suc d) m n code at (to + 1) j broken (under-faulty d m n (cells_of code) (at + 1) to j inner broken e s);
}

pub nested_typed : (before after : List ℕ) (inner : Judged) (at : ℕ) (b : ValueType) (end : ℕ) → inner ≡ Ok (b, end) → Linked before after at a_parenthesis 0 end → Nested before after inner at (Ok (b, end + 1))
unfolding SaysUnder
nested_typed before after inner at b end e l = record {
  is = λ d m n to j s.
      let t = under-typed d m n (cells_of before) (at + 1) to j inner b end e s in
      let g = term-grows m n (cells_of before) d (at + 1) to j.term t.stands in
      record {
        says = record {
          none = t.none;
          type-is = t.type-is;
          next-is = ap (λ (k : ℕ). k + 1) t.next-is;
          stands = nested-span m n (cells_of after) d at to j.term l.op-is (l.link-is ∙ t.next-is) (within-above l.kept d m n (at + 1) to j.term (omega arith) t.stands);
        };
        kept = kept-wider l.kept at (to + 1) (omega arith) (omega arith);
        low = low-written before after at l.kept (omega (arith, l.op-is));
      };
}

-- ---- NOT and signs
module _ (s : ℕ) (inner : Judged) (at : ℕ) where
  pub signed-faulty : (code : List ℕ) (broken : Breach) → inner ≡ Err broken → Signed code code s inner at (Err broken)
  signed-faulty code broken e = record {
    is = λ d m n to x j p f u.
        let r = under-faulty d m n (cells_of code) (at + 1) to j inner broken e u in
        let w = signed_of s in
        judges-refused d m n code at to (judge_signed s x j) broken
        (refused_as (judge_signed s x j) w (wanted w (first x) j) (unary s j.term) (signed_is s x j) broken (r.others ++ fault_if (differs w j.type) wrong_type (first x))
        (wanted-first w (first x) j (as_fault broken) r.others r.faults-are));
  }

  pub signed-wrong : (code : List ℕ) (b : ValueType) (end : ℕ) → inner ≡ Ok (b, end) → (wants : ValueType) → SignType s wants → (b ≡ wants → ⊥) → Signed code code s inner at (Err (record { rule = WrongType; word = at + 1 }))
  unfolding fault
  signed-wrong code b end e wants y ne = record {
    is = λ d m n to x j p f u.
        let t = under-typed d m n (cells_of code) (at + 1) to j inner b end e u in
        let w = signed_of s in
        judges-refused d m n code at to (judge_signed s x j) (record { rule = WrongType; word = at + 1 })
        (refused_as (judge_signed s x j) w (wanted w (first x) j) (unary s j.term) (signed_is s x j) (record { rule = WrongType; word = at + 1 }) []
        (wanted-wrong w (first x) j b wants y.is t.type-is ne t.none ∙ ap (fault wrong_type) f));
  }

  pub signed-typed : (before after : List ℕ) (b : ValueType) (end op : ℕ) → inner ≡ Ok (b, end) → (wants : ValueType) → SignType s wants → b ≡ wants → Prefixes s op → Linked before after at op 0 end → Signed before after s inner at (Ok (b, end))
  unfolding SaysUnder
  signed-typed before after b end op e wants y h p l = record {
    is = λ d m n to x j k f u.
        let t = under-typed d m n (cells_of before) (at + 1) to j inner b end e u in
        let g = term-grows m n (cells_of before) d (at + 1) to j.term t.stands in
        let w = signed_of s in
        let o : a_parenthesis < op_at (cells_of after) at = omega (arith, l.op-is, p.op) in
        record {
          says = sound-as (judge_signed s x j) w (wanted w (first x) j) (unary s j.term) (signed_is s x j) d m n (cells_of after) at to b end
              (wanted-none w (first x) j t.none (sym y.is ∙ ap type_in (sym h) ∙ t.type-is))
              (ap type_in h ∙ y.is) t.next-is
              (prefix-span m n (cells_of after) d at to j.term o (l.link-is ∙ t.next-is) (within-above l.kept d m n (at + 1) to j.term (omega arith) t.stands)
              ∙ ap (λ (q : ℕ). some (unary q j.term)) (rw l.op-is (p.is k)));
          kept = kept-wider l.kept at to (omega arith) (omega arith);
          low = low-written before after at l.kept (omega (arith, l.op-is, p.small));
        };
  }

-- ---- elements
module _ (cell : ℕ) (inner : Judged) (at : ℕ) where
  array-is : (routine : ℕ → ℕ) → kind_in cell ≡ an_array
      → array_in (meaning_in routine cell) ≡ some (type_with (bool_in cell), ref_with (own_in cell) (value_in cell % 1024), value_in cell / 1024)
  unfolding meaning_in meaning_with array_in
  array-is routine e = rw e

  array-room : (g : Meant cell) → kind_in cell ≡ an_array → InRoom g.m g.n (ref_with (own_in cell) (value_in cell % 1024)) (value_in cell / 1024)
  unfolding meaning_in meaning_with Within
  array-room g e = rw e at g.within

  element-term : (m n own v : ℕ) (t : Term) → own < 2 → InRoom m n (ref_with own (v % 1024)) (v / 1024) → element_term m n (a_module_element + own) v t ≡ some (element_at (ref_with own (v % 1024)) (v / 1024) t)
  unfolding element_term InRoom guard
  element-term m n own v t o r =
      by_last own 1 o
      (λ e. rw (e, le-leb (v % 1024 + v / 1024) n (rw e at r)))
      (λ e. let z : own ≡ 0 = omega arith in rw (z, le-leb (v % 1024 + v / 1024) m (rw z at r)))

  module _ (g : Meant cell) (x : Expr) (j : types.Judged) (k : kind_in cell ≡ an_array) where
    indexed-as : judge_element false (meaning_in g.routine cell) at x j
        ≡ judged (type_with (bool_in cell)) (wanted a_num (first x) j) (element_at (ref_with (own_in cell) (value_in cell % 1024)) (value_in cell / 1024) j.term)
    indexed-as = element-is (meaning_in g.routine cell) at x j (type_with (bool_in cell), ref_with (own_in cell) (value_in cell % 1024), value_in cell / 1024) (array-is g.routine k)

    indexed-refused : (broken : Breach) (others : List Fault) → wanted a_num (first x) j ≡ as_fault broken ∷ others
        → Refused (judge_element false (meaning_in g.routine cell) at x j) broken
    indexed-refused broken others e =
        refused_as (judge_element false (meaning_in g.routine cell) at x j) (type_with (bool_in cell)) (wanted a_num (first x) j)
        (element_at (ref_with (own_in cell) (value_in cell % 1024)) (value_in cell / 1024) j.term) indexed-as broken others e

  pub indexed-faulty : (code : List ℕ) (broken : Breach) → inner ≡ Err broken → Indexed code code cell inner at (Err broken)
  indexed-faulty code broken e = record {
    is = λ d g to x j k f u.
        let r = under-faulty d g.m g.n (cells_of code) (at + 2) to j inner broken e u in
        judges-refused (suc d) g.m g.n code at (to + 1) (judge_element false (meaning_in g.routine cell) at x j) broken
        (indexed-refused g x j k broken (r.others ++ fault_if (differs a_num j.type) wrong_type (first x))
        (wanted-first a_num (first x) j (as_fault broken) r.others r.faults-are));
  }

  pub indexed-wrong : (code : List ℕ) (b : ValueType) (end : ℕ) → inner ≡ Ok (b, end) → (b ≡ Num → ⊥) → Indexed code code cell inner at (Err (record { rule = WrongType; word = at + 2 }))
  unfolding fault
  indexed-wrong code b end e ne = record {
    is = λ d g to x j k f u.
        let t = under-typed d g.m g.n (cells_of code) (at + 2) to j inner b end e u in
        judges-refused (suc d) g.m g.n code at (to + 1) (judge_element false (meaning_in g.routine cell) at x j) (record { rule = WrongType; word = at + 2 })
        (indexed-refused g x j k (record { rule = WrongType; word = at + 2 }) []
        (wanted-wrong a_num (first x) j b Num refl t.type-is ne t.none ∙ ap (fault wrong_type) f));
  }

  pub indexed-typed : (before after : List ℕ) (b : ValueType) (end : ℕ) → inner ≡ Ok (b, end) → b ≡ Num → (own value : ℕ) (type : ValueType) → own ≡ own_in cell → value ≡ value_in cell → TypeOf cell type
      → Linked before after at (a_module_element + own) value end → Indexed before after cell inner at (Ok (type, end + 1))
  unfolding SaysUnder
  indexed-typed before after b end e isnum own value type o v y l = record {
    is = λ d g to x j k f u.
        let t = under-typed d g.m g.n (cells_of before) (at + 2) to j inner b end e u in
        let h = term-grows g.m g.n (cells_of before) d (at + 2) to j.term t.stands in
        let z : Term = element_at (ref_with (own_in cell) (value_in cell % 1024)) (value_in cell / 1024) j.term in
        record {
          says = sound-as (judge_element false (meaning_in g.routine cell) at x j) (type_with (bool_in cell)) (wanted a_num (first x) j) z (indexed-as g x j k) (suc d) g.m g.n (cells_of after) at (to + 1) type (end + 1)
              (wanted-none a_num (first x) j t.none (ap type_in (sym isnum) ∙ t.type-is))
              y.is (ap (λ (q : ℕ). q + 1) t.next-is)
              (element-span g.m g.n (cells_of after) d at to j.term z (omega (arith, l.op-is)) (omega (arith, l.op-is, o)) (l.link-is ∙ t.next-is)
              (within-above l.kept d g.m g.n (at + 2) to j.term (omega arith) t.stands)
              (rw (l.op-is, l.value-is, o, v) (element-term g.m g.n (own_in cell) (value_in cell) j.term (omega arith) (array-room g k))));
          kept = kept-wider l.kept at (to + 1) (omega arith) (omega arith);
          low = low-written before after at l.kept (omega (arith, l.op-is, o));
        };
  }

-- ---- two sides
-- a right side of one word is a leaf
leaf-small : (m n op v : ℕ) (t : Term) → leaf_term m n op v ≡ some t → (op ≡ 0 → ⊥) × (op ≤ a_call_slot)
leaf-small m n op v t e = (λ z. by-leaf m n op v t e (λ h. omega arith) (λ h. omega arith) (λ h. omega arith), by-leaf m n op v t e (λ h. omega arith) (λ h. omega arith) (λ h. omega arith))

module _ (s l i : ℕ) (right : Judged) where
  pub right-leaf : (code : List ℕ) (b : ValueType) (end : ℕ) → Right code s l i right → right ≡ Ok (b, end) → end ≡ i + 2 → op_at (cells_of code) (i + 1) ≤ a_call_slot
  right-leaf code b end r e h =
      let t = under-typed r.d r.m r.n (cells_of code) (i + 1) r.to r.j right b end e r.says in
      (leaf-small r.m r.n (op_at (cells_of code) (i + 1)) (value_at (cells_of code) (i + 1)) r.j.term
      (single r.m r.n (cells_of code) r.d (i + 1) r.to r.j.term (omega (arith, t.next-is)) t.stands)).1

  -- where it ends
  pub right-ends : (code : List ℕ) (b : ValueType) (end : ℕ) → Right code s l i right → right ≡ Ok (b, end) → (i + 1 < end) × (end < word_limit) × (end * 8 + 8 ≤ length code)
  right-ends code b end r e =
      let t = under-typed r.d r.m r.n (cells_of code) (i + 1) r.to r.j right b end e r.says in
      let g = term-grows r.m r.n (cells_of code) r.d (i + 1) r.to r.j.term t.stands in
      (omega (arith, t.next-is), omega (arith, t.next-is, r.last), omega (arith, t.next-is, r.room))

  pub right-room : (code : List ℕ) (b : ValueType) (end : ℕ) → Right code s l i right → right ≡ Ok (b, end) → i * 8 + 16 ≤ length code
  right-room code b end r e = let g = right-ends code b end r e in omega (arith, g.0, g.2)

  pub right_near : (code : List ℕ) (b : ValueType) (end : ℕ) → Right code s l i right → right ≡ Ok (b, end) → end < link_part
  right_near code b end r e = omega (arith, (right-ends code b end r e).1)

  pub right-some : (code : List ℕ) → Right code s l i right → 0 < level_of s
  right-some code r = omega (arith, r.level-is, r.some)

module _ (s i : ℕ) (wants : ValueType) (right : Judged) where
  -- what the left side leaves of the faults
  module _ (d m n at : ℕ) (C : List ℕ) (a b : Expr) (ja jb : types.Judged) (left : SoundUnder d m n C at i ja wants i) (asks : asked_of s ja.type ≡ ja.type) where
    joined-faults : wanted (asked_of s ja.type) (first a) ja ++ wanted (asked_of s ja.type) (first b) jb ≡ wanted ja.type (first b) jb
    joined-faults =
        ap (λ (t : DataType). wanted t (first a) ja ++ wanted t (first b) jb) asks
        ∙ ap (λ (f : List Fault). f ++ wanted ja.type (first b) jb) (wanted-none ja.type (first a) ja left.none refl)

    joined-refused : (broken : Breach) (others : List Fault) → wanted ja.type (first b) jb ≡ as_fault broken ∷ others → Refused (judge_joined s a b ja jb) broken
    joined-refused broken others e =
        refused_as (judge_joined s a b ja jb) (result_of s) (wanted (asked_of s ja.type) (first a) ja ++ wanted (asked_of s ja.type) (first b) jb) (binary s ja.term jb.term)
        (joined_is s a b ja jb) broken others (joined-faults ∙ e)

  pub join-faulty : (code : List ℕ) (broken : Breach) → right ≡ Err broken → Joined code code s wants i right (Err broken)
  join-faulty code broken e = record {
    is = λ d m n at to a b ja jb left asks f u.
        let r = under-faulty d m n (cells_of code) (i + 1) to jb right broken e u in
        judges-refused d m n code at to (judge_joined s a b ja jb) broken
        (joined-refused d m n at (cells_of code) a b ja jb left asks broken (r.others ++ fault_if (differs ja.type jb.type) wrong_type (first b))
        (wanted-first ja.type (first b) jb (as_fault broken) r.others r.faults-are));
  }

  pub join-wrong : (code : List ℕ) (b : ValueType) (end : ℕ) → right ≡ Ok (b, end) → (b ≡ wants → ⊥) → Joined code code s wants i right (Err (record { rule = WrongType; word = i + 1 }))
  unfolding fault
  join-wrong code t end e ne = record {
    is = λ d m n at to a b ja jb left asks f u.
        let r = under-typed d m n (cells_of code) (i + 1) to jb right t end e u in
        judges-refused d m n code at to (judge_joined s a b ja jb) (record { rule = WrongType; word = i + 1 })
        (joined-refused d m n at (cells_of code) a b ja jb left asks (record { rule = WrongType; word = i + 1 }) []
        (wanted-wrong ja.type (first b) jb t wants left.type-is r.type-is ne r.none ∙ ap (fault wrong_type) f));
  }

  pub join-typed : (before after : List ℕ) (b : ValueType) (end : ℕ) → right ≡ Ok (b, end) → b ≡ wants → (l : ℕ) → l ≡ level_of s → (type : ValueType) → Gives l type → Tied before after s i end → Joined before after s wants i right (Ok (type, end))
  unfolding SaysUnder
  join-typed before after k end e q l lv type y t = record {
    is = λ d m n at to a b ja jb left asks f u.
        let r = under-typed d m n (cells_of before) (i + 1) to jb right k end e u in
        let g = term-grows m n (cells_of before) d at i ja.term left.stands in
        let h = term-grows m n (cells_of before) d (i + 1) to jb.term r.stands in
        let rew = kept-rewritten before after i t.kept in
        let op : some (binary (operator_in (op_at (cells_of after) i)) ja.term jb.term) ≡ some (binary s ja.term jb.term) = ap (λ (o : ℕ). some (binary o ja.term jb.term)) t.operator-is in
        record {
          says = sound-as (judge_joined s a b ja jb) (result_of s) (wanted (asked_of s ja.type) (first a) ja ++ wanted (asked_of s ja.type) (first b) jb) (binary s ja.term jb.term) (joined_is s a b ja jb)
              d m n (cells_of after) at to type end
              (joined-faults d m n at (cells_of before) a b ja jb left asks ∙ wanted-none ja.type (first b) jb r.none (sym left.type-is ∙ ap type_in (sym q) ∙ r.type-is))
              (y.is s lv) r.next-is
              (by-same end (i + 2)
              (λ z.
              let sg = single m n (cells_of before) d (i + 1) to jb.term (omega (arith, r.next-is)) r.stands in
              let to2 : i + 2 ≡ to = omega (arith, r.next-is) in
              subst (λ (p : ℕ). term_within m n (cells_of after) d at p ≡ some (binary s ja.term jb.term)) to2
              (written-leaf d m n (cells_of before) (cells_of after) i rew at ja.term jb.term
              (λ h0. (leaf-small m n (op_at (cells_of before) (i + 1)) (value_at (cells_of before) (i + 1)) jb.term sg).0 (sym (t.leaf-op z) ∙ h0))
              left.stands (rw (t.leaf-op z, t.leaf-value z) sg) ∙ op))
              (λ z. written-span d m n (cells_of before) (cells_of after) i rew at to ja.term jb.term (t.span-op z) (t.span-link z ∙ r.next-is) left.stands r.stands ∙ op));
          kept = kept-wider t.kept at to (omega arith) (omega arith);
          low = low-written before after i t.kept t.small;
        };
  }

-- ---- where what is answered ends
module _ (inner : Judged) (b : ValueType) (end : ℕ) (s : Short inner) (e : inner ≡ Ok (b, end)) where
  short-end : end < word_limit
  unfolding Short
  short-end = subst Short e s

  pub short-link : end < link_part
  short-link = omega (arith, short-end)

  pub short-next : Fits w64 (end + 1)
  short-next = record { fits = omega (arith, short-end) }

pub right-next : (code : List ℕ) (s l i : ℕ) (right : Judged) (b : ValueType) (end : ℕ) → Right code s l i right → right ≡ Ok (b, end) → Fits w64 (i + 1)
right-next code s l i right b end r e = let g = right-ends s l i right code b end r e in record { fits = omega (arith, g.0, g.1) }
