-- What the word of a step says, taken apart by its op: one law for each.
use mathlib.Core.Path.{◌≡◌, refl, sym, ap, subst, ◌∙◌}
use mathlib.Core.Bool.{Bool, true, false, not}
use mathlib.Core.List.{List, [], ◌∷◌}
use mathlib.Core.Option.{Option, none, some}
use Prim.Native.Nat.{ℕ, zero, suc, ◌+◌, ◌-◌, ◌/◌, ◌%◌, ◌<◌, ◌≤◌}
use native.Mathlib.Omega.{arith}
use lib.Dec.{eqb, ltb, leb}
use lib.ListN.{length, get_or, take, drop}
use lib.IntN.{ℤ}
use borrow.Author.Tests.{eq-eqb, ne_eqb, lt-ltb, le-ltb, ltb-true, ltb-false, leb-true, eqb-true}
use Rattle.laws.proofs.Tests.{test, by_most, false-true}
use Rattle.std.specs.Prelude.{if◌then◌else◌}
use Rattle.paper.specs.Terms.{of_module, of_routine, Term}
use Rattle.paper.specs.Steps.{Spot, scalar, element_of, Action, store, call_for, call_of, give_back, raise, hand_on, exit, retry, try_next, write, read, choose, select, test_while, enter_for, repeat_for, end_list, end_undo, unquoted}
use Rattle.code.specs.Cells.{op_at, value_at, place_at, link_at}
use Rattle.code.specs.Spans.{guard, ◌then◌, first_in, size_in, term_in}
use Rattle.code.specs.Steps.{a_target, a_call_target, an_else_if, a_step, a_next_argument, a_procedure_call, a_return_of, a_return, a_raise_of, a_raise, an_exit, a_retry}
use Rattle.code.specs.Steps.{a_try_next, a_write, a_write_of, a_read, a_compact_if, an_if, a_while, a_for, a_for_test, a_test, an_end, a_function_end, an_undo_end}
use Rattle.code.specs.Steps.{Head, no_head, numbered, agree, parts, scalar_in, element_in, target_in, arguments_in, any_arguments, callee_in, characters_in, conditions_in, cases_in, for_step, for_in}
use Rattle.code.specs.Steps.{linked, store_in, call_for_in, call_of_in, with_term, write_in, write_of_in, read_in, compact_if_in, if_in, while_in, for_test_in, test_in, action_in}
use Rattle.code.proofs.Options.{none-some, same_some, guarded, went}
use Rattle.layout.specs.Parts.{characters_part, loop_part}

pub first-is : {A B : Type 0} (a : A) (b : B) (x : A × B) → some (a, b) ≡ some x → x.0 ≡ a
first-is {A} {B} a b x e = sym (ap (λ (y : A × B). y.0) (same_some (a, b) x e))

pub second_is : {A B : Type 0} (a : A) (b : B) (x : A × B) → some (a, b) ≡ some x → x.1 ≡ b
second_is {A} {B} a b x e = sym (ap (λ (y : A × B). y.1) (same_some (a, b) x e))

not_is : (b : Bool) → not b ≡ true → b ≡ false
not_is true e = false-true e
not_is false e = refl

agree-is : (a b : Bool) → agree a b ≡ true → b ≡ a
unfolding agree
agree-is true true e = refl
agree-is true false e = false-true e
agree-is false true e = false-true e
agree-is false false e = refl

-- The module has m words, the routine n, and it is a function or is none; `text` is the module's, `R` its routines, `C` the cells.
module _ (m n : ℕ) (function : Bool) (text : List ℕ) (R : List Head) (C : List ℕ) where
  -- ---- targets
  module _ (ops i : ℕ) (s : Spot) (j : ℕ) (e : target_in m n function text R C ops i ≡ some (s, j)) where
    pub record ModuleWord : Type 0 where
      pub fits : value_at C i < m
      pub is : s ≡ scalar (of_module (value_at C i))
      pub next : j ≡ i + 1

    pub record CallWord : Type 0 where
      pub fits : value_at C i < n
      pub is : s ≡ scalar (of_routine (value_at C i))
      pub next : j ≡ i + 1

    pub record ModuleElement : Type 0 where
      pub index : Term
      pub reads : term_in m n C (i + 2) (link_at C (i + 1)) ≡ some index
      pub fits : first_in (value_at C i) + size_in (value_at C i) ≤ m
      pub is : s ≡ element_of (of_module (first_in (value_at C i))) (size_in (value_at C i)) index
      pub next : j ≡ link_at C (i + 1) + 1

    pub record CallElement : Type 0 where
      pub index : Term
      pub reads : term_in m n C (i + 2) (link_at C (i + 1)) ≡ some index
      pub fits : first_in (value_at C i) + size_in (value_at C i) ≤ n
      pub is : s ≡ element_of (of_routine (first_in (value_at C i))) (size_in (value_at C i)) index
      pub next : j ≡ link_at C (i + 1) + 1

    -- a word, by its op
    record Word : Type 0 where
      pub spot : scalar_in m n function text R C ops i ≡ some s
      pub next : j ≡ i + 1

    word : op_at C i < ops + 2 → Word
    unfolding target_in
    word h =
        let g = went (scalar_in m n function text R C ops i) (λ s. some (s, i + 1)) (s, j) (rw (lt-ltb (op_at C i) (ops + 2) h, target_in) at e) in
        record { spot = g.first ∙ ap some (sym (first-is g.a (i + 1) (s, j) g.next)); next = second_is g.a (i + 1) (s, j) g.next }

    pub module-word : op_at C i ≡ ops → ModuleWord
    unfolding scalar_in
    module-word h =
        let g = word (omega arith) in
        let d = guarded (ltb (value_at C i) m) (scalar (of_module (value_at C i))) s (rw (eq-eqb (op_at C i) ops h, scalar_in) at g.spot) in
        record { fits = ltb-true (value_at C i) m d.holds; is = sym d.is; next = g.next }

    -- any other word than the module's is the call's
    pub call-word : (op_at C i ≡ ops → ⊥) → op_at C i < ops + 2 → CallWord
    unfolding scalar_in
    call-word h k =
        let g = word k in
        let d = guarded (ltb (value_at C i) n) (scalar (of_routine (value_at C i))) s (rw (ne_eqb (op_at C i) ops h, scalar_in) at g.spot) in
        record { fits = ltb-true (value_at C i) n d.holds; is = sym d.is; next = g.next }

    -- an element, by its op
    record Element : Type 0 where
      pub index : Term
      pub reads : term_in m n C (i + 2) (link_at C (i + 1)) ≡ some index
      pub spot : element_in m n function text R C ops i index ≡ some s
      pub next : j ≡ link_at C (i + 1) + 1

    element : ops + 2 ≤ op_at C i → Element
    unfolding target_in
    element h =
        let g = went (term_in m n C (i + 2) (link_at C (i + 1))) (λ t. element_in m n function text R C ops i t then (λ s. some (s, link_at C (i + 1) + 1))) (s, j)
        (rw (le-ltb (op_at C i) (ops + 2) h, target_in) at e) in
        let d = went (element_in m n function text R C ops i g.a) (λ s. some (s, link_at C (i + 1) + 1)) (s, j) g.next in
        record {
          index = g.a;
          reads = g.first;
          spot = d.first ∙ ap some (sym (first-is d.a (link_at C (i + 1) + 1) (s, j) d.next));
          next = second_is d.a (link_at C (i + 1) + 1) (s, j) d.next;
        }

    pub module-element : op_at C i ≡ ops + 2 → ModuleElement
    unfolding element_in
    module-element h =
        let g = element (omega arith) in
        let v = value_at C i in
        let d = guarded (leb (first_in v + size_in v) m) (element_of (of_module (first_in v)) (size_in v) g.index) s (rw (eq-eqb (op_at C i) (ops + 2) h, element_in) at g.spot) in
        record { index = g.index; reads = g.reads; fits = leb-true (first_in v + size_in v) m d.holds; is = sym d.is; next = g.next }

    pub call-element : ops + 2 < op_at C i → CallElement
    unfolding element_in
    call-element h =
        let g = element (omega arith) in
        let v = value_at C i in
        let d = guarded (leb (first_in v + size_in v) n) (element_of (of_routine (first_in v)) (size_in v) g.index) s
        (rw (ne_eqb (op_at C i) (ops + 2) (λ q. omega arith), element_in) at g.spot) in
        record { index = g.index; reads = g.reads; fits = leb-true (first_in v + size_in v) n d.holds; is = sym d.is; next = g.next }

  -- ---- arguments
  module _ (a b : ℕ) (es : List Term) (closes : ℕ) where
    pub record LastArgument : Type 0 where
      pub e : Term
      pub reads : term_in m n C a b ≡ some e
      pub es-is : es ≡ e ∷ []
      pub closes-is : closes ≡ b

    pub record Argument (f : ℕ) : Type 0 where
      pub e : Term
      pub reads : term_in m n C a b ≡ some e
      pub rest : List Term
      pub es-is : es ≡ e ∷ rest
      pub more : arguments_in m n function text R C f (b + 1) (link_at C b) ≡ some (rest, closes)

    -- an argument is read whatever follows
    pub arguments-some : (f : ℕ) → arguments_in m n function text R C f a b ≡ some (es, closes) → 0 < f
    unfolding arguments_in
    arguments-some zero e = none-some (es, closes) e
    arguments-some (suc f) e = omega arith

    module _ (f : ℕ) (e : arguments_in m n function text R C (suc f) a b ≡ some (es, closes)) where
      pub argument-more : op_at C b ≡ a_next_argument → Argument f
      unfolding arguments_in
      argument-more h =
          let g = went (term_in m n C a b) (λ t. elim (eqb (op_at C b) a_next_argument) [
            | true ↦ arguments_in m n function text R C f (b + 1) (link_at C b) then (λ r. some (t ∷ r.0, r.1))
            | false ↦ some (t ∷ [], b)
          ]) (es, closes) e in
          let d = went (arguments_in m n function text R C f (b + 1) (link_at C b)) (λ r. some (g.a ∷ r.0, r.1)) (es, closes) (rw (eq-eqb (op_at C b) a_next_argument h) at g.next) in
          record {
            e = g.a;
            reads = g.first;
            rest = d.a.0;
            es-is = first-is (g.a ∷ d.a.0) d.a.1 (es, closes) d.next;
            more = d.first ∙ ap (λ (k : ℕ). some (d.a.0, k)) (sym (second_is (g.a ∷ d.a.0) d.a.1 (es, closes) d.next));
          }

      pub argument-last : (op_at C b ≡ a_next_argument → ⊥) → LastArgument
      unfolding arguments_in
      argument-last h =
          let g = went (term_in m n C a b) (λ t. elim (eqb (op_at C b) a_next_argument) [
            | true ↦ arguments_in m n function text R C f (b + 1) (link_at C b) then (λ r. some (t ∷ r.0, r.1))
            | false ↦ some (t ∷ [], b)
          ]) (es, closes) e in
          let q : ◌≡◌ {A = Option (List Term × ℕ)} (some (g.a ∷ [], b)) (some (es, closes)) = rw (ne_eqb (op_at C b) a_next_argument h) at g.next in
          record { e = g.a; reads = g.first; es-is = first-is (g.a ∷ []) b (es, closes) q; closes-is = second_is (g.a ∷ []) b (es, closes) q }

    pub record NoArguments : Type 0 where
      pub es-is : es ≡ []
      pub closes-is : closes ≡ b

    pub no_arguments : a ≡ b → any_arguments m n function text R C a b ≡ some (es, closes) → NoArguments
    unfolding any_arguments
    no_arguments h e =
        let q : ◌≡◌ {A = Option (List Term × ℕ)} (some ([], b)) (some (es, closes)) = rw (eq-eqb a b h, any_arguments) at e in
        record { es-is = first-is {A = List Term} {B = ℕ} [] b (es, closes) q; closes-is = second_is {A = List Term} {B = ℕ} [] b (es, closes) q }

    pub some-arguments : (a ≡ b → ⊥) → any_arguments m n function text R C a b ≡ some (es, closes) → arguments_in m n function text R C parts a b ≡ some (es, closes)
    unfolding any_arguments
    some-arguments h e = rw (ne_eqb a b h, any_arguments) at e

  pub record Callee (f : Bool) (i : ℕ) (es : List Term) (k : ℕ) : Type 0 where
    pub number : k ≡ numbered R (value_at C i)
    pub word : (get_or R k no_head).word ≡ value_at C i
    pub function-is : (get_or R k no_head).function ≡ f
    pub as_many : length es ≡ (get_or R k no_head).parameters

  pub callee : (f : Bool) (i : ℕ) (es : List Term) (k : ℕ) → callee_in m n function text R C f i es ≡ some k → Callee f i es k
  unfolding callee_in
  callee f i es k e =
      let j = numbered R (value_at C i) in
      let h = get_or R j no_head in
      test (eqb h.word (value_at C i))
      (λ t. test (agree f h.function)
      (λ u.
      let g = guarded (eqb (length es) h.parameters) j k (rw u at (rw (t, callee_in) at e)) in
      record {
        number = sym g.is;
        word = ap (λ (x : ℕ). (get_or R x no_head).word) (sym g.is) ∙ eqb-true h.word (value_at C i) t;
        function-is = ap (λ (x : ℕ). (get_or R x no_head).function) (sym g.is) ∙ agree-is f h.function u;
        as_many = eqb-true (length es) h.parameters g.holds ∙ ap (λ (x : ℕ). (get_or R x no_head).parameters) g.is;
      })
      (λ u. none-some k (rw u at (rw (t, callee_in) at e))))
      (λ t. none-some k (rw (t, callee_in) at e))

  -- ---- strings
  pub record Characters (i : ℕ) (s : List ℕ) : Type 0 where
    pub is : s ≡ unquoted (take (value_at C i % characters_part - 2) (drop (place_at C i + 1) text))
    pub count : value_at C i / characters_part ≡ length s

  pub characters : (i : ℕ) (s : List ℕ) → characters_in m n function text R C i ≡ some s → Characters i s
  unfolding characters_in
  characters i s e =
      let t = unquoted (take (value_at C i % characters_part - 2) (drop (place_at C i + 1) text)) in
      let g = guarded (eqb (value_at C i / characters_part) (length t)) t s e in
      record { is = sym g.is; count = eqb-true (value_at C i / characters_part) (length t) g.holds ∙ ap length g.is }

  -- ---- the conditions of an IF
  module _ (i t : ℕ) (cs : List (Term × ℕ)) (o : ℕ) where
    pub record Condition (f : ℕ) : Type 0 where
      pub e : Term
      pub reads : term_in m n C (i + 1) t ≡ some e
      pub rest : List (Term × ℕ)
      pub cs-is : cs ≡ (e, value_at C t) ∷ rest
      pub more : conditions_in m n function text R C f (link_at C t) (value_at C (link_at C t)) ≡ some (rest, o)

    pub record LastCondition : Type 0 where
      pub e : Term
      pub reads : term_in m n C (i + 1) t ≡ some e
      pub cs-is : cs ≡ (e, value_at C t) ∷ []
      pub o_is : o ≡ link_at C t

    pub conditions-some : (f : ℕ) → conditions_in m n function text R C f i t ≡ some (cs, o) → 0 < f
    unfolding conditions_in
    conditions-some zero e = none-some (cs, o) e
    conditions-some (suc f) e = omega arith

    module _ (f : ℕ) (e : conditions_in m n function text R C (suc f) i t ≡ some (cs, o)) where
      pub condition-more : op_at C (link_at C t) ≡ an_else_if → Condition f
      unfolding conditions_in
      condition-more h =
          let g = went (term_in m n C (i + 1) t) (λ e. elim (eqb (op_at C (link_at C t)) an_else_if) [
            | true ↦ conditions_in m n function text R C f (link_at C t) (value_at C (link_at C t)) then (λ r. some ((e, value_at C t) ∷ r.0, r.1))
            | false ↦ some ((e, value_at C t) ∷ [], link_at C t)
          ]) (cs, o) e in
          let d = went (conditions_in m n function text R C f (link_at C t) (value_at C (link_at C t))) (λ r. some ((g.a, value_at C t) ∷ r.0, r.1)) (cs, o)
          (rw (eq-eqb (op_at C (link_at C t)) an_else_if h) at g.next) in
          record {
            e = g.a;
            reads = g.first;
            rest = d.a.0;
            cs-is = first-is ((g.a, value_at C t) ∷ d.a.0) d.a.1 (cs, o) d.next;
            more = d.first ∙ ap (λ (k : ℕ). some (d.a.0, k)) (sym (second_is ((g.a, value_at C t) ∷ d.a.0) d.a.1 (cs, o) d.next));
          }

      pub condition-last : (op_at C (link_at C t) ≡ an_else_if → ⊥) → LastCondition
      unfolding conditions_in
      condition-last h =
          let g = went (term_in m n C (i + 1) t) (λ e. elim (eqb (op_at C (link_at C t)) an_else_if) [
            | true ↦ conditions_in m n function text R C f (link_at C t) (value_at C (link_at C t)) then (λ r. some ((e, value_at C t) ∷ r.0, r.1))
            | false ↦ some ((e, value_at C t) ∷ [], link_at C t)
          ]) (cs, o) e in
          let q : ◌≡◌ {A = Option (List (Term × ℕ) × ℕ)} (some ((g.a, value_at C t) ∷ [], link_at C t)) (some (cs, o)) = rw (ne_eqb (op_at C (link_at C t)) an_else_if h) at g.next in
          record { e = g.a; reads = g.first; cs-is = first-is ((g.a, value_at C t) ∷ []) (link_at C t) (cs, o) q; o_is = second_is ((g.a, value_at C t) ∷ []) (link_at C t) (cs, o) q }

  -- ---- a FOR's STEP and DO
  module _ (i : ℕ) (c : Option Term) (d : ℕ) (q : for_step m n function text R C i ≡ some (c, d)) where
    pub record GivenStep : Type 0 where
      pub e : Term
      pub reads : term_in m n C (i + 1) (link_at C i) ≡ some e
      pub is : c ≡ some e
      pub do-is : d ≡ link_at C i

    pub record NoStep : Type 0 where
      pub is : c ≡ none
      pub do-is : d ≡ i

    pub given-step : op_at C i ≡ a_step → GivenStep
    unfolding for_step
    given-step h =
        let g = went (term_in m n C (i + 1) (link_at C i)) (λ c. some (some c, link_at C i)) (c, d) (rw (eq-eqb (op_at C i) a_step h, for_step) at q) in
        record { e = g.a; reads = g.first; is = first-is (some g.a) (link_at C i) (c, d) g.next; do-is = second_is (some g.a) (link_at C i) (c, d) g.next }

    pub no_step : (op_at C i ≡ a_step → ⊥) → NoStep
    unfolding for_step
    no_step h =
        let z : ◌≡◌ {A = Option (Option Term × ℕ)} (some (none, i)) (some (c, d)) = rw (ne_eqb (op_at C i) a_step h, for_step) at q in
        record { is = first-is {A = Option Term} {B = ℕ} none i (c, d) z; do-is = second_is {A = Option Term} {B = ℕ} none i (c, d) z }

  -- ---- actions
  module _ (i after : ℕ) (does : Action) where
    -- an action of one word
    pub record Plain (a : Action) : Type 0 where
      pub after_is : after ≡ link_at C i
      pub does-is : does ≡ a

    plain : (a : Action) → ◌≡◌ {A = Option (ℕ × Action)} (some (link_at C i, a)) (some (after, does)) → Plain a
    plain a e = record { after_is = first-is (link_at C i) a (after, does) e; does-is = second_is (link_at C i) a (after, does) e }

    -- an action with an expression that stands from the next word up to the word's value
    pub record Expression (f : Term → Action) : Type 0 where
      pub e : Term
      pub reads : term_in m n C (i + 1) (value_at C i) ≡ some e
      pub after_is : after ≡ link_at C i
      pub does-is : does ≡ f e

    expression : (f : Term → Action) → with_term m n function text R C i f ≡ some (after, does) → Expression f
    unfolding with_term linked
    expression f e =
        let g = went (term_in m n C (i + 1) (value_at C i)) (λ t. some (link_at C i, f t)) (after, does) e in
        let p = plain (f g.a) g.next in
        record { e = g.a; reads = g.first; after_is = p.after_is; does-is = p.does-is }

    pub record Stores : Type 0 where
      pub s : Spot
      pub j : ℕ
      pub target : target_in m n function text R C a_target i ≡ some (s, j)
      pub e : Term
      pub reads : term_in m n C (j + 1) (link_at C j) ≡ some e
      pub after_is : after ≡ link_at C i
      pub does-is : does ≡ store s e

    pub record CallsFor : Type 0 where
      pub s : Spot
      pub j : ℕ
      pub target : target_in m n function text R C a_call_target i ≡ some (s, j)
      pub es : List Term
      pub closes : ℕ
      pub arguments : any_arguments m n function text R C (j + 3) (link_at C (j + 1)) ≡ some (es, closes)
      pub k : ℕ
      pub called : Callee true (j + 1) es k
      pub after_is : after ≡ link_at C i
      pub does-is : does ≡ call_for s (j + 1) k es

    pub record CallsOf : Type 0 where
      pub es : List Term
      pub closes : ℕ
      pub arguments : any_arguments m n function text R C (i + 1) (link_at C i) ≡ some (es, closes)
      pub k : ℕ
      pub called : Callee false i es k
      pub after_is : after ≡ link_at C closes
      pub does-is : does ≡ call_of i k es

    pub record Writes : Type 0 where
      pub s : List ℕ
      pub says : characters_in m n function text R C (i + 1) ≡ some s
      pub after_is : after ≡ link_at C i
      pub does-is : does ≡ write s none

    pub record WritesOf : Type 0 where
      pub s : List ℕ
      pub says : characters_in m n function text R C (i + 1) ≡ some s
      pub e : Term
      pub reads : term_in m n C (i + 5) (value_at C i) ≡ some e
      pub after_is : after ≡ link_at C i
      pub does-is : does ≡ write s (some e)

    pub record ReadsNum : Type 0 where
      pub t : Spot
      pub j : ℕ
      pub target : target_in m n function text R C a_target (i + 1) ≡ some (t, j)
      pub s : List ℕ
      pub says : characters_in m n function text R C (value_at C i) ≡ some s
      pub after_is : after ≡ link_at C i
      pub does-is : does ≡ read t s

    pub record Chooses : Type 0 where
      pub cs : List (Term × ℕ)
      pub o : ℕ
      pub conditions : conditions_in m n function text R C parts i (value_at C i) ≡ some (cs, o)
      pub after_is : after ≡ link_at C i
      pub does-is : does ≡ choose cs o

    pub record EntersFor : Type 0 where
      pub from : Term
      pub from-reads : term_in m n C (i + 3) (link_at C (i + 2)) ≡ some from
      pub to : Term
      pub to_reads : term_in m n C (link_at C (i + 2) + 1) (link_at C (link_at C (i + 2))) ≡ some to
      pub c : Option Term
      pub d : ℕ
      pub step : for_step m n function text R C (link_at C (link_at C (i + 2))) ≡ some (c, d)
      pub fits : value_at C i < n
      pub after_is : after ≡ link_at C i
      pub does-is : does ≡ enter_for (value_at C i) from to c (value_at C d)

    pub record RepeatsFor : Type 0 where
      pub fits : value_at C i % loop_part < n
      pub after_is : after ≡ link_at C (value_at C i / loop_part)
      pub does-is : does ≡ repeat_for (value_at C i % loop_part) (link_at C i)

    pub record Selects : Type 0 where
      pub e : Term
      pub reads : term_in m n C (i + 1) (value_at C i) ≡ some e
      pub cs : List (List ℤ × ℕ)
      pub o : ℕ
      pub cases : cases_in m n function text R C parts (value_at C i) ≡ some (cs, o)
      pub after_is : after ≡ link_at C i
      pub does-is : does ≡ select e cs o

    pub record Ends (a : Action) : Type 0 where
      pub after_is : after ≡ i
      pub does-is : does ≡ a

    module _ (e : action_in m n function text R C i ≡ some (after, does)) where
      pub reads-store : a_target ≤ op_at C i → op_at C i < a_call_target → Stores
      unfolding action_in store_in linked
      reads-store h k =
          let q : store_in m n function text R C i ≡ some (after, does) = rw (lt-ltb (op_at C i) a_call_target k) at (rw (le-ltb (op_at C i) a_target h, action_in) at e) in
          let g = went (target_in m n function text R C a_target i) (λ s. term_in m n C (s.1 + 1) (link_at C s.1) then (λ e. some (linked m n function text R C i (store s.0 e)))) (after, does) q in
          let d = went (term_in m n C (g.a.1 + 1) (link_at C g.a.1)) (λ e. some (linked m n function text R C i (store g.a.0 e))) (after, does) g.next in
          let p = plain (store g.a.0 d.a) d.next in
          record { s = g.a.0; j = g.a.1; target = g.first; e = d.a; reads = d.first; after_is = p.after_is; does-is = p.does-is }

      pub reads-call-for : a_call_target ≤ op_at C i → op_at C i < a_procedure_call → CallsFor
      unfolding action_in call_for_in linked
      reads-call-for h k =
          let q : call_for_in m n function text R C i ≡ some (after, does) =
          rw (lt-ltb (op_at C i) a_procedure_call k) at (rw (le-ltb (op_at C i) a_call_target h) at (rw (le-ltb (op_at C i) a_target (omega arith), action_in) at e)) in
          let g = went (target_in m n function text R C a_call_target i)
          (λ s. any_arguments m n function text R C (s.1 + 3) (link_at C (s.1 + 1)) then (λ es.
          callee_in m n function text R C true (s.1 + 1) es.0 then (λ k. some (linked m n function text R C i (call_for s.0 (s.1 + 1) k es.0))))) (after, does) q in
          let a = went (any_arguments m n function text R C (g.a.1 + 3) (link_at C (g.a.1 + 1)))
          (λ es. callee_in m n function text R C true (g.a.1 + 1) es.0 then (λ k. some (linked m n function text R C i (call_for g.a.0 (g.a.1 + 1) k es.0)))) (after, does) g.next in
          let d = went (callee_in m n function text R C true (g.a.1 + 1) a.a.0) (λ k. some (linked m n function text R C i (call_for g.a.0 (g.a.1 + 1) k a.a.0))) (after, does) a.next in
          let p = plain (call_for g.a.0 (g.a.1 + 1) d.a a.a.0) d.next in
          record {
            s = g.a.0;
            j = g.a.1;
            target = g.first;
            es = a.a.0;
            closes = a.a.1;
            arguments = a.first;
            k = d.a;
            called = callee true (g.a.1 + 1) a.a.0 d.a d.first;
            after_is = p.after_is;
            does-is = p.does-is;
          }

      pub reads-call-of : op_at C i ≡ a_procedure_call → CallsOf
      unfolding action_in call_of_in
      reads-call-of h =
          let q : call_of_in m n function text R C i ≡ some (after, does) = rw (h, action_in) at e in
          let a = went (any_arguments m n function text R C (i + 1) (link_at C i)) (λ es. callee_in m n function text R C false i es.0 then (λ k. some (link_at C es.1, call_of i k es.0))) (after, does) q in
          let d = went (callee_in m n function text R C false i a.a.0) (λ k. some (link_at C a.a.1, call_of i k a.a.0)) (after, does) a.next in
          record {
            es = a.a.0;
            closes = a.a.1;
            arguments = a.first;
            k = d.a;
            called = callee false i a.a.0 d.a d.first;
            after_is = first-is (link_at C a.a.1) (call_of i d.a a.a.0) (after, does) d.next;
            does-is = second_is (link_at C a.a.1) (call_of i d.a a.a.0) (after, does) d.next;
          }

      -- RETURN with a value, and the routine is a function; without
      return_of : op_at C i ≡ a_return_of → (function ≡ true) × Expression (λ t. give_back (some t))
      unfolding action_in
      return_of h =
          let g = went (guard function i) (λ j. with_term m n function text R C j (λ t. give_back (some t))) (after, does) (rw (h, action_in) at e) in
          let d = guarded function i g.a g.first in
          (d.holds, expression (λ t. give_back (some t)) (subst (λ (j : ℕ). with_term m n function text R C j (λ t. give_back (some t)) ≡ some (after, does)) (sym d.is) g.next))

      pub returns-function : op_at C i ≡ a_return_of → function ≡ true
      returns-function h = (return_of h).0

      pub reads-return-of : op_at C i ≡ a_return_of → Expression (λ t. give_back (some t))
      reads-return-of h = (return_of h).1

      pub reads-return : op_at C i ≡ a_return → Plain (give_back none)
      unfolding action_in linked
      reads-return h =
          let g = guarded (not function) (linked m n function text R C i (give_back none)) (after, does) (rw (h, action_in) at e) in
          plain (give_back none) (ap some g.is)

      pub return-function : op_at C i ≡ a_return → function ≡ false
      unfolding action_in
      return-function h = not_is function (guarded (not function) (linked m n function text R C i (give_back none)) (after, does) (rw (h, action_in) at e)).holds

      pub reads-raise-of : op_at C i ≡ a_raise_of → Expression raise
      unfolding action_in
      reads-raise-of h = expression raise (rw (h, action_in) at e)

      pub reads-raise : op_at C i ≡ a_raise → Plain hand_on
      unfolding action_in linked
      reads-raise h = plain hand_on (rw (h, action_in) at e)

      pub reads_exit : op_at C i ≡ an_exit → Plain exit
      unfolding action_in linked
      reads_exit h = plain exit (rw (h, action_in) at e)

      pub reads-retry : op_at C i ≡ a_retry → Plain retry
      unfolding action_in linked
      reads-retry h = plain retry (rw (h, action_in) at e)

      pub reads-try-next : op_at C i ≡ a_try_next → Plain try_next
      unfolding action_in linked
      reads-try-next h = plain try_next (rw (h, action_in) at e)

      pub reads-write : op_at C i ≡ a_write → Writes
      unfolding action_in write_in linked
      reads-write h =
          let g = went (characters_in m n function text R C (i + 1)) (λ s. some (linked m n function text R C i (write s none))) (after, does) (rw (h, action_in) at e) in
          let p = plain (write g.a none) g.next in
          record { s = g.a; says = g.first; after_is = p.after_is; does-is = p.does-is }

      pub reads-write-of : op_at C i ≡ a_write_of → WritesOf
      unfolding action_in write_of_in linked
      reads-write-of h =
          let g = went (characters_in m n function text R C (i + 1)) (λ s. term_in m n C (i + 5) (value_at C i) then (λ e. some (linked m n function text R C i (write s (some e))))) (after, does) (rw (h, action_in) at e) in
          let d = went (term_in m n C (i + 5) (value_at C i)) (λ e. some (linked m n function text R C i (write g.a (some e)))) (after, does) g.next in
          let p = plain (write g.a (some d.a)) d.next in
          record { s = g.a; says = g.first; e = d.a; reads = d.first; after_is = p.after_is; does-is = p.does-is }

      pub reads-read : op_at C i ≡ a_read → ReadsNum
      unfolding action_in read_in linked
      reads-read h =
          let g = went (target_in m n function text R C a_target (i + 1)) (λ s. characters_in m n function text R C (value_at C i) then (λ t. some (linked m n function text R C i (read s.0 t)))) (after, does) (rw (h, action_in) at e) in
          let d = went (characters_in m n function text R C (value_at C i)) (λ t. some (linked m n function text R C i (read g.a.0 t))) (after, does) g.next in
          let p = plain (read g.a.0 d.a) d.next in
          record { t = g.a.0; j = g.a.1; target = g.first; s = d.a; says = d.first; after_is = p.after_is; does-is = p.does-is }

      pub reads-compact-if : op_at C i ≡ a_compact_if → Expression (λ t. choose ((t, value_at C i) ∷ []) (link_at C i))
      unfolding action_in compact_if_in
      reads-compact-if h = expression (λ t. choose ((t, value_at C i) ∷ []) (link_at C i)) (rw (h, action_in) at e)

      pub reads-if : op_at C i ≡ an_if → Chooses
      unfolding action_in if_in linked
      reads-if h =
          let g = went (conditions_in m n function text R C parts i (value_at C i)) (λ r. some (linked m n function text R C i (choose r.0 r.1))) (after, does) (rw (h, action_in) at e) in
          let p = plain (choose g.a.0 g.a.1) g.next in
          record { cs = g.a.0; o = g.a.1; conditions = g.first; after_is = p.after_is; does-is = p.does-is }

      pub reads-while : op_at C i ≡ a_while → Expression (λ t. test_while t (value_at C (value_at C i)))
      unfolding action_in while_in
      reads-while h = expression (λ t. test_while t (value_at C (value_at C i))) (rw (h, action_in) at e)

      pub reads-for : op_at C i ≡ a_for → EntersFor
      unfolding action_in for_in linked
      reads-for h =
          let b = link_at C (i + 2) in
          let z = went (for_in m n function text R C i) (λ a. some (linked m n function text R C i a)) (after, does) (rw (h, action_in) at e) in
          let g = went (term_in m n C (i + 3) b) (λ from. term_in m n C (b + 1) (link_at C b) then (λ to. for_step m n function text R C (link_at C b) then (λ s.
          guard (ltb (value_at C i) n) (enter_for (value_at C i) from to s.0 (value_at C s.1))))) z.a z.first in
          let d = went (term_in m n C (b + 1) (link_at C b)) (λ to. for_step m n function text R C (link_at C b) then (λ s.
          guard (ltb (value_at C i) n) (enter_for (value_at C i) g.a to s.0 (value_at C s.1)))) z.a g.next in
          let s = went (for_step m n function text R C (link_at C b)) (λ s. guard (ltb (value_at C i) n) (enter_for (value_at C i) g.a d.a s.0 (value_at C s.1))) z.a d.next in
          let x = guarded (ltb (value_at C i) n) (enter_for (value_at C i) g.a d.a s.a.0 (value_at C s.a.1)) z.a s.next in
          let p = plain z.a z.next in
          record {
            from = g.a;
            from-reads = g.first;
            to = d.a;
            to_reads = d.first;
            c = s.a.0;
            d = s.a.1;
            step = s.first;
            fits = ltb-true (value_at C i) n x.holds;
            after_is = p.after_is;
            does-is = p.does-is ∙ sym x.is;
          }

      pub reads-for-test : op_at C i ≡ a_for_test → RepeatsFor
      unfolding action_in for_test_in
      reads-for-test h =
          let v = value_at C i in
          let g = guarded (ltb (v % loop_part) n) (link_at C (v / loop_part), repeat_for (v % loop_part) (link_at C i)) (after, does) (rw (h, action_in) at e) in
          record {
            fits = ltb-true (v % loop_part) n g.holds;
            after_is = sym (ap (λ (y : ℕ × Action). y.0) g.is);
            does-is = sym (ap (λ (y : ℕ × Action). y.1) g.is);
          }

      pub reads-test : op_at C i ≡ a_test → Selects
      unfolding action_in test_in linked
      reads-test h =
          let g = went (term_in m n C (i + 1) (value_at C i)) (λ e. cases_in m n function text R C parts (value_at C i) then (λ r. some (linked m n function text R C i (select e r.0 r.1)))) (after, does) (rw (h, action_in) at e) in
          let d = went (cases_in m n function text R C parts (value_at C i)) (λ r. some (linked m n function text R C i (select g.a r.0 r.1))) (after, does) g.next in
          let p = plain (select g.a d.a.0 d.a.1) d.next in
          record { e = g.a; reads = g.first; cs = d.a.0; o = d.a.1; cases = d.first; after_is = p.after_is; does-is = p.does-is }

      ends_with : (b : Bool) → guard {A = ℕ × Action} b (i, end_list) ≡ some (after, does) → (b ≡ true) × Ends end_list
      ends_with b q =
          let g = guarded b (i, end_list) (after, does) q in
          (g.holds, record { after_is = sym (ap (λ (y : ℕ × Action). y.0) g.is); does-is = sym (ap (λ (y : ℕ × Action). y.1) g.is) })

      pub reads_end : op_at C i ≡ an_end → Ends end_list
      unfolding action_in
      reads_end h = (ends_with (not function) (rw (h, action_in) at e)).1

      pub end-function : op_at C i ≡ an_end → function ≡ false
      unfolding action_in
      end-function h = not_is function (ends_with (not function) (rw (h, action_in) at e)).0

      pub reads-function-end : op_at C i ≡ a_function_end → Ends end_list
      unfolding action_in
      reads-function-end h = (ends_with function (rw (h, action_in) at e)).1

      pub function-end-function : op_at C i ≡ a_function_end → function ≡ true
      unfolding action_in
      function-end-function h = (ends_with function (rw (h, action_in) at e)).0

      pub reads-undo-end : op_at C i ≡ an_undo_end → Ends end_undo
      unfolding action_in
      reads-undo-end h =
          let q : ◌≡◌ {A = Option (ℕ × Action)} (some (i, end_undo)) (some (after, does)) = rw (h, action_in) at e in
          record { after_is = first-is i end_undo (after, does) q; does-is = second_is i end_undo (after, does) q }

      -- a step's op is one of these
      pub op-low : a_target ≤ op_at C i
      unfolding action_in
      op-low = test (ltb (op_at C i) a_target) (λ t. none-some (after, does) (rw (t, action_in) at e)) (λ t. omega (arith, ltb-false (op_at C i) a_target t))

      pub op-high : op_at C i ≤ an_undo_end
      unfolding action_in
      op-high = by_most (op_at C i) an_undo_end (λ h. h) (λ h. none-some (after, does) (rw (
        le-ltb (op_at C i) a_call_target (omega arith),
        le-ltb (op_at C i) a_procedure_call (omega arith),
        ne_eqb (op_at C i) a_procedure_call (λ q. omega arith),
        ne_eqb (op_at C i) a_return_of (λ q. omega arith),
        ne_eqb (op_at C i) a_return (λ q. omega arith),
        ne_eqb (op_at C i) a_raise_of (λ q. omega arith),
        ne_eqb (op_at C i) a_raise (λ q. omega arith),
        ne_eqb (op_at C i) an_exit (λ q. omega arith),
        ne_eqb (op_at C i) a_retry (λ q. omega arith),
        ne_eqb (op_at C i) a_try_next (λ q. omega arith),
        ne_eqb (op_at C i) a_write (λ q. omega arith),
        ne_eqb (op_at C i) a_write_of (λ q. omega arith),
        ne_eqb (op_at C i) a_read (λ q. omega arith),
        ne_eqb (op_at C i) a_compact_if (λ q. omega arith),
        ne_eqb (op_at C i) an_if (λ q. omega arith),
        ne_eqb (op_at C i) a_while (λ q. omega arith),
        ne_eqb (op_at C i) a_for (λ q. omega arith),
        ne_eqb (op_at C i) a_for_test (λ q. omega arith),
        ne_eqb (op_at C i) a_test (λ q. omega arith),
        ne_eqb (op_at C i) an_end (λ q. omega arith),
        ne_eqb (op_at C i) a_function_end (λ q. omega arith),
        ne_eqb (op_at C i) an_undo_end (λ q. omega arith),
      ) at (rw (le-ltb (op_at C i) a_target (omega arith), action_in) at e)))
