-- A routine: rules 10 and 16 at its name, and then all behind it.
use mathlib.Core.Path.{◌≡◌, refl, sym, ap, subst, ◌∙◌}
use mathlib.Core.Bool.{Bool, true, false, ◌||◌}
use mathlib.Core.List.{List, []}
use mathlib.Core.Option.{Option, none, some}
use Prim.Native.Nat.{ℕ, ◌+◌, ◌*◌, ◌/◌, ◌%◌, ◌<◌, ◌≤◌}
use native.Mathlib.Omega.{arith}
use lib.Dec.{eqb}
use lib.ListN.{length, get_or}
use borrow.Author.Tests.{eq-eqb, ne_eqb, eqb-true, lt-ltb, le-ltb}
use Rattle.laws.proofs.Tests.{test, by-same, by_less, false-true}
use Rattle.std.specs.Prelude as core
use Rattle.std.specs.Prelude.{Some, None, Ok, Err}
use Rattle.paper.specs.Sorts.{NUM}
use Rattle.paper.specs.Words.{Word, word_limit}
use Rattle.paper.specs.Trees.{Routine}
use Rattle.paper.specs.Expressions.{is_type}
use Rattle.paper.specs.Names.{DataType, a_num, a_bool, type_of, the_routine, routine_in, Text, sort_in, spelled, meaning, cannot_declare}
use Rattle.paper.specs.Declarations.{routine_limit, crosses, result_asked, module_scopes, module_filling}
use Rattle.store_cells.specs.Cells.{cells_of}
use Rattle.code.specs.Cells.{op_in, value_in, op_at}
use Rattle.code.specs.Steps.{Head, numbered}
use Rattle.check_names.specs.Meanings.{kind_in, first_meaning, meaning_in}
use Rattle.check_names.specs.Promises.{Meant, number_at}
use Rattle.grammar.specs.Form.{Parses, HeadAt, a-proc, a-func}
use Rattle.faults.specs.Left.{head_faults}
use Rattle.faults.proofs.Routines.{head-taken, head-crosses, head-fits, found-in-head, found-behind}
use Rattle.check_heads.specs.Trees.{word_of, head_for, heads_for}
use Rattle.check_heads.proofs.RoutineNumbers.{drop-less, heads-length, head-at, word_at, numbered-back}
use Rattle.check_sites.specs.Sites.{filling}
use Rattle.check_around.specs.Around.{ResultIs}
use Rattle.check_program.proofs.Orders.{lies}
use Rattle.check_routines.specs.Answers.{Begins, Says, Checks}
use Rattle.check_routines.specs.Parts.{names_routine, result_in, name_with, ScopeStands, SaysScope, Scoped}
use Rattle.check_routines.proofs.RoutineName.{kind-routine, only-routine, name-means, name-other}
use Rattle.layout.specs.Kinds as kinds
use Rattle.layout.specs.Types.{type_in}
use Rattle.layout.specs.declared.types.ValueType.{ValueType}
use Rattle.layout.specs.declared.types.ValueType.TheVariants as types
use Rattle.check_names.specs.Scopes.{Walked}
use Rattle.layout.specs.declared.rules.Rule.TheVariants.{TakenName, TooMany}

-- ---- the head
type-bool : (s : ℕ) → s ≡ 90 → type_of s ≡ a_bool
unfolding type_of
type-bool s e = rw (ne_eqb s NUM (λ q. omega arith))

type-num : (s : ℕ) → is_type s ≡ true → (s ≡ 90 → ⊥) → type_of s ≡ a_num
unfolding type_of is_type
type-num s t d =
    test (eqb s NUM) (λ q. rw q) (λ q. false-true (sym (ne_eqb s 90 d) ∙ sym (ap (λ (b : Bool). b || eqb s 90) q) ∙ t))

read-proc : (C : List ℕ) (h : ℕ) → op_at C h ≡ 69 → result_in C h ≡ None
unfolding result_in
read-proc C h e = rw (eq-eqb (op_at C h) 69 e)

read-bool : (C : List ℕ) (h : ℕ) → (op_at C h ≡ 69 → ⊥) → op_at C (h + 1) ≡ 90 → result_in C h ≡ Some types.Bool
unfolding result_in
read-bool C h d e = rw (ne_eqb (op_at C h) 69 d) (rw (eq-eqb (op_at C (h + 1)) 90 e))

read-num : (C : List ℕ) (h : ℕ) → (op_at C h ≡ 69 → ⊥) → (op_at C (h + 1) ≡ 90 → ⊥) → result_in C h ≡ Some types.Num
unfolding result_in
read-num C h d e = rw (ne_eqb (op_at C h) 69 d) (rw (ne_eqb (op_at C (h + 1)) 90 e))

-- a cell that names the routine
names-so : (cell h : ℕ) → op_in cell / 4 ≡ kinds.a_routine → value_in cell ≡ h → names_routine cell h ≡ true
unfolding names_routine
names-so cell h a b = rw (eq-eqb (kind_in cell) 5 a) (eq-eqb (value_in cell) h b)

names-kind : (cell h : ℕ) → names_routine cell h ≡ true → op_in cell / 4 ≡ kinds.a_routine
unfolding names_routine
names-kind cell h q = by-same (kind_in cell) 5 (λ e. e) (λ d. false-true (rw (ne_eqb (kind_in cell) 5 d) at q))

names-value : (cell h : ℕ) → names_routine cell h ≡ true → value_in cell ≡ h
unfolding names_routine
names-value cell h q = eqb-true (value_in cell) h (rw (eq-eqb (kind_in cell) 5 (names-kind cell h q)) at q)

word-of : (r : Routine) → (head_for r).word ≡ word_of r
unfolding head_for
word-of r = refl

asked : (W : List Word) (k t : ℕ) → crosses routine_limit k 1 ≡ false → result_asked W k (some t) ≡ some (type_of t)
unfolding result_asked
asked W k t f = rw f

pub record HeadRead (W : List Word) (k : ℕ) (o : Option ℕ) (h name : ℕ) (result : core.Option ValueType) : Type 0 where
  pub name-is : name_with result h ≡ name
  pub result-is : crosses routine_limit k 1 ≡ false → ResultIs (result_asked W k o) result

typed : {o : Option DataType} {type : ValueType} {t : DataType} → type_in type ≡ t → o ≡ some t → ResultIs o (Some type)
typed w e = record { is = e ∙ ap some (sym w) }

pub head_read : (W : List Word) (k : ℕ) (C : List ℕ) {o : Option ℕ} {closing h name : ℕ} → HeadAt (sort_in W) (Parses (sort_in W)) o closing h name → op_at C h ≡ sort_in W h → op_at C (h + 1) ≡ sort_in W (h + 1)
    → HeadRead W k o h name (result_in C h)
unfolding name_with result_asked
head_read W k C {h = h} {name = name} (a-proc p n c) e f =
    subst (HeadRead W k none h name) (sym (read-proc C h (e ∙ p))) (record { name-is = sym n; result-is = λ q. record { is = refl } })
head_read W k C {h = h} {name = name} (a-func {t = t} p u ty n c) e f =
    by-same (op_at C (h + 1)) 90
    (λ q. subst (HeadRead W k (some t) h name) (sym (read-bool C h (λ z. omega (arith, e ∙ p)) q))
    (record { name-is = sym n; result-is = λ z. typed refl (asked W k t z ∙ ap some (ap type_of u ∙ type-bool (sort_in W (h + 1)) (sym f ∙ q))) }))
    (λ q. subst (HeadRead W k (some t) h name) (sym (read-num C h (λ z. omega (arith, e ∙ p)) q))
    (record { name-is = sym n; result-is = λ z. typed refl (asked W k t z ∙ ap some (ap type_of u ∙ type-num (sort_in W (h + 1)) ty (λ y. q (f ∙ y)))) }))

-- ---- rule 16
pub crosses-here : (k : ℕ) → k ≡ 64 → crosses routine_limit k 1 ≡ true
unfolding crosses
crosses-here k e = rw (le-ltb 64 k (omega arith)) (lt-ltb 64 (k + 1) (omega arith))

pub crosses-not : (k : ℕ) → (k ≡ 64 → ⊥) → crosses routine_limit k 1 ≡ false
unfolding crosses
crosses-not k d = by_less 64 k (λ l. rw (lt-ltb 64 k l)) (λ l. rw (le-ltb 64 k l) (le-ltb 64 (k + 1) (omega (arith, d))))

module _ (text code values : List ℕ) (k h : ℕ) where
  abbrev G : Type 0
  G = Begins text code values k h

  pub head-room : G → h * 8 + 16 ≤ length code
  head-room b = let o = lies b.stands.W b.stands.form in omega (arith, o.name, o.opens, o.body, o.handler, o.end, b.unread.loaded.room)

  pub head_small : G → h < word_limit
  head_small b = let o = lies b.stands.W b.stands.form in omega (arith, o.name, o.opens, o.body, o.handler, o.end, b.unread.loaded.last)

  module _ (result : core.Option ValueType) (name : ℕ) (t : result ≡ result_in (cells_of code) h) (n : name ≡ name_with result h) where
    read : (b : G) → HeadRead b.stands.W k b.stands.r.result h b.stands.r.name result
    read b =
        let o = lies b.stands.W b.stands.form in
        subst (HeadRead b.stands.W k b.stands.r.result h b.stands.r.name) (sym t)
        (head_read b.stands.W k (cells_of code) b.stands.form.head (b.unread.loaded.words h (omega arith) (omega (arith, o.name, o.opens, o.body, o.handler, o.end))).sort
        (b.unread.loaded.words (h + 1) (omega arith) (omega (arith, o.name, o.opens, o.body, o.handler, o.end))).sort)

    name-so : (b : G) → name ≡ b.stands.r.name
    name-so b = n ∙ (read b).name-is

    pub name-room : G → name * 8 + 8 ≤ length code
    name-room b = let o = lies b.stands.W b.stands.form in omega (arith, name-so b, o.opens, o.body, o.handler, o.end, b.unread.loaded.room)

    module _ (cell : ℕ) (c : Meant code values name cell) where
      -- what the name means
      meant : (b : G) → meaning_in (numbered (heads_for b.stands.m.routines)) cell ≡ meaning (module_scopes b.stands.W b.stands.m) (spelled b.stands.W b.stands.r.name)
      unfolding filling module_filling module_scopes
      meant b =
          let o = lies b.stands.W b.stands.form in
          let q = (b.unread.loaded.words b.stands.r.name (omega (arith, o.name)) (omega (arith, o.opens, o.body, o.handler, o.end))).number b.stands.form.name in
          ap (meaning_in (numbered (heads_for b.stands.m.routines)))
          (c ∙ ap (λ (i : ℕ). get_or (cells_of values) (first_meaning + number_at (cells_of code) i) 0) (name-so b) ∙ ap (λ (i : ℕ). get_or (cells_of values) (first_meaning + i) 0) q)
          ∙ b.filled.means.means b.stands.r.name b.stands.form.name

      free : (b : G) → names_routine cell h ≡ true → cannot_declare b.stands.earlier (spelled b.stands.W b.stands.r.name) ≡ false
      free b q =
          let u = spelled b.stands.W b.stands.r.name in
          test (cannot_declare b.stands.earlier u)
          (λ w. absurd (name-other b.stands.W b.stands.m k b.stands.r b.stands.rest b.stands.nth-is
          (sym (ap (λ (l : List Text). cannot_declare l u) b.stands.earlier-is) ∙ w)
          (sym (meant b) ∙ kind-routine (numbered (heads_for b.stands.m.routines)) cell (names-kind cell h q) ∙ ap (λ (i : ℕ). the_routine (numbered (heads_for b.stands.m.routines) i)) (names-value cell h q) ∙ ap the_routine b.stands.number_is)))
          (λ w. w)

      taken : (b : G) → names_routine cell h ≡ false → cannot_declare b.stands.earlier (spelled b.stands.W b.stands.r.name) ≡ true
      unfolding routine_in meaning_in
      taken b q =
          let u = spelled b.stands.W b.stands.r.name in
          let R = heads_for b.stands.m.routines in
          test (cannot_declare b.stands.earlier u) (λ w. w)
          (λ w.
          let z = name-means b.stands.W b.stands.m k b.stands.r b.stands.rest b.stands.nth-is (sym (ap (λ (l : List Text). cannot_declare l u) b.stands.earlier-is) ∙ w) in
          let p = only-routine (numbered R) (kind_in cell) (cell / 2 % 2) (cell % 2) (value_in cell) k (ap routine_in (meant b ∙ z)) in
          let inside : k < length R = omega (arith, heads-length b.stands.m.routines, drop-less b.stands.m.routines k b.stands.r b.stands.rest b.stands.nth-is) in
          let v : h ≡ value_in cell =
          sym (word_at (sort_in b.stands.W) b.stands.r h b.stands.to b.stands.form) ∙ sym (ap (λ (x : Head). x.word) (head-at b.stands.m.routines k b.stands.r b.stands.rest b.stands.nth-is) ∙ word-of b.stands.r)
          ∙ numbered-back R k (value_in cell) inside p.1 in
          false-true (sym q ∙ names-so cell h p.0 (sym v)))

      pub routine-taken : names_routine cell h ≡ false → Checks text code values code values k h (Err (record { rule = TakenName; word = name }))
      unfolding Says
      routine-taken q = record {
        is = λ b.
            subst (λ (i : ℕ). Says b code values (Err (record { rule = TakenName; word = i }))) (sym (name-so b))
            (found-in-head b.stands.W b.stands.m b.stands.earlier k b.stands.form (head-taken b.stands.W b.stands.earlier k b.stands.r (taken b q)));
      }

      pub routine-many : names_routine cell h ≡ true → k ≡ 64 → Checks text code values code values k h (Err (record { rule = TooMany; word = name }))
      unfolding Says
      routine-many q e = record {
        is = λ b.
            subst (λ (i : ℕ). Says b code values (Err (record { rule = TooMany; word = i }))) (sym (name-so b))
            (found-in-head b.stands.W b.stands.m b.stands.earlier k b.stands.form (head-crosses b.stands.W b.stands.earlier k b.stands.r (free b q) (crosses-here k e)));
      }

      module _ (q : names_routine cell h ≡ true) (e : k ≡ 64 → ⊥) where
        pub routine-scope : G → ScopeStands text code values result h name
        routine-scope b = record { k = k; begins = b; name-is = name-so b; result-is = (read b).result-is (crosses-not k e); fits = crosses-not k e }

        nothing : (b : G) → head_faults b.stands.W b.stands.earlier k b.stands.r ≡ []
        nothing b = head-fits b.stands.W b.stands.earlier k b.stands.r (free b q) (crosses-not k e)

        says : (b : G) (code' values' : List ℕ) (x : Walked) → SaysScope (routine-scope b) code' values' x → Says b code' values' x
        unfolding Says SaysScope routine-scope
        says b code' values' (Ok (next, scope)) y = record { none-in-head = nothing b; goes = y }
        says b code' values' (Err broken) y = found-behind b.stands.W b.stands.m b.stands.earlier k b.stands.r (nothing b) y

        pub routine-done : (code' values' : List ℕ) (x : Walked) → Scoped text code values code' values' result h name x → Checks text code values code' values' k h x
        routine-done code' values' x y = record { is = λ b. says b code' values' x (y.is (routine-scope b)) }
