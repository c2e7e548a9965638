-- The conditions of an IF, one after the other: what the loop keeps, and how it goes on and ends.
use mathlib.Core.Path.{◌≡◌, refl, sym, ap, subst, ◌∙◌}
use mathlib.Core.Bool.{Bool, true, false}
use mathlib.Core.List.{List, [], ◌∷◌, map}
use mathlib.Core.Option.{Option, some}
use Prim.Native.Nat.{ℕ, zero, suc, ◌+◌, ◌-◌, ◌*◌, ◌/◌, ◌%◌, ◌<◌, ◌≤◌}
use native.Mathlib.Omega.{arith}
use lib.Dec.{eqb}
use lib.ListN.{length}
use lib.IntN.{ℤ, pos}
use lib.Signed.{le_z}
use mir.Syntax.{w64}
use mir.Val.{SFits, to_z, of_z}
use mir.Facts.{to_z-of_z}
use borrow.Author.Tests.{eq-eqb, ne_eqb}
use Rattle.laws.proofs.Tests.{by-same}
use Rattle.paper.specs.Numbers.{Value, is_zero}
use Rattle.paper.specs.Terms.{Term, worth}
use Rattle.paper.specs.Steps.{Action, choose}
use Rattle.paper.specs.States.{Rooms, Effect, made, go_to, on_top, memory_of, with_value}
use Rattle.paper.specs.Running.{perform, choosing}
use Rattle.store_cells.specs.Cells.{cells_of}
use Rattle.store_numbers.proofs.Whole.{read}
use Rattle.code.specs.Cells.{op_in, value_in, head_at, op_at, value_at, link_at}
use Rattle.code.specs.Spans.{term_in}
use Rattle.code.specs.Steps.{an_else_if, parts, conditions_in, an_if}
use Rattle.code.specs.Closed.{is_named, Named, where_of, targets_of}
use Rattle.store_evaluation.specs.Answers.{first_error, Stores, Stands, Evaluated}
use Rattle.store_evaluation.proofs.Places.{op-in, value-in}
use Rattle.store_evaluation.proofs.Steps.{stands-in}
use Rattle.store_reading.specs.Reading.{value_end, half_end, Part}
use Rattle.run_machine.specs.Machine.{Here, effect_at, Performs, Says}
use Rattle.run_machine.proofs.Actions.{reads-if, conditions-some, condition-more, condition-last}
use Rattle.run_machine.proofs.Current.{code_here, step_here, m, n, call_here, state_here, action-here, whole_here, stores-here, stands_here, named-targets, small-name, effect-here, value-here, failed-here, goes-here, told-error, told-value, told-zero, told-other, performs}
use Rattle.run_machine.proofs.Deciding.{steps_here}
use Rattle.run_machine.proofs.Hops.{hops, hops-on, hops-end, hops-less}

-- ---- the measure: behind a THEN there is another condition, or there is none
abbrev further : List ℕ → ℕ → Bool
further C t = eqb (op_at C (link_at C t)) an_else_if

abbrev following : List ℕ → ℕ → ℕ
following C t = value_at C (link_at C t)

abbrev pub conditions_left : List ℕ → ℕ → ℕ
conditions_left code t = hops (further (cells_of code)) (following (cells_of code)) parts t

module _ (code values : List ℕ) (base i : ℕ) where
  module _ (h : Here code values base i) where
    abbrev conditions : (f j t : ℕ) → Option (List (Term × ℕ) × ℕ)
    conditions f j t = conditions_in (m code values base i h) (n code values base i h) (code_here code values base i h).function h.text h.R (cells_of code) f j t

    abbrev chooses : List (Term × ℕ) → ℕ → Type 0
    chooses cs o = (rooms : Rooms) (steps : ℕ) (out : List ℕ) → effect_at h.P h.R rooms (cells_of values) h.d i steps out
        ≡ choosing (memory_of (state_here code values base i h rooms steps out) (call_here code values base i h rooms steps out)) cs o (state_here code values base i h rooms steps out)

    -- what is left to try, from a word j whose THEN is t
    pub record Left (j t : ℕ) : Type 0 where
      pub f : ℕ
      pub within : f < parts
      pub cs : List (Term × ℕ)
      pub o : ℕ
      pub reads : conditions (suc f) j t ≡ some (cs, o)
      pub named : Named (steps_here code values base i h) (o ∷ map where_of cs)
      pub effect : chooses cs o

    -- the condition at j, and the rest
    record First (j t : ℕ) : Type 0 where
      pub e : Term
      pub rest : List (Term × ℕ)
      pub o : ℕ
      pub reads : term_in (m code values base i h) (n code values base i h) (cells_of code) (j + 1) t ≡ some e
      pub effect : chooses ((e, value_at (cells_of code) t) ∷ rest) o
      pub named : is_named (steps_here code values base i h) (value_at (cells_of code) t) ≡ true

    more : (j t : ℕ) → op_at (cells_of code) (link_at (cells_of code) t) ≡ an_else_if → Left j t → First j t
    unfolding Named
    more j t k l =
        let g = condition-more _ _ _ _ _ _ j t l.cs l.o l.f l.reads k in
        record {
          e = g.e;
          rest = g.rest;
          o = l.o;
          reads = g.reads;
          effect = subst (λ (y : List (Term × ℕ)). chooses y l.o) g.cs-is l.effect;
          named = (subst (λ (y : List (Term × ℕ)). Named (steps_here code values base i h) (l.o ∷ map where_of y)) g.cs-is l.named).1.0;
        }

    last : (j t : ℕ) → (op_at (cells_of code) (link_at (cells_of code) t) ≡ an_else_if → ⊥) → Left j t → First j t
    unfolding Named
    last j t k l =
        let g = condition-last _ _ _ _ _ _ j t l.cs l.o l.f l.reads k in
        record {
          e = g.e;
          rest = [];
          o = l.o;
          reads = g.reads;
          effect = subst (λ (y : List (Term × ℕ)). chooses y l.o) g.cs-is l.effect;
          named = (subst (λ (y : List (Term × ℕ)). Named (steps_here code values base i h) (l.o ∷ map where_of y)) g.cs-is l.named).1.0;
        }

    first : (j t : ℕ) → Left j t → First j t
    first j t l = by-same (op_at (cells_of code) (link_at (cells_of code) t)) an_else_if (λ k. more j t k l) (λ k. last j t k l)

    -- where there is none behind it
    otherwise-named : (j t : ℕ) → (op_at (cells_of code) (link_at (cells_of code) t) ≡ an_else_if → ⊥) → Left j t → is_named (steps_here code values base i h) (link_at (cells_of code) t) ≡ true
    unfolding Named
    otherwise-named j t k l =
        subst (λ (y : ℕ). is_named (steps_here code values base i h) y ≡ true) (condition-last _ _ _ _ _ _ j t l.cs l.o l.f l.reads k).o_is l.named.0

    -- as often as fuel says
    hops-enough : (f j t : ℕ) (cs : List (Term × ℕ)) (o : ℕ) → conditions (suc f) j t ≡ some (cs, o) → hops (further (cells_of code)) (following (cells_of code)) (suc f) t < suc f
    hops-enough zero j t cs o e =
        by-same (op_at (cells_of code) (link_at (cells_of code) t)) an_else_if
        (λ k. let g = condition-more _ _ _ _ _ _ j t cs o zero e k in absurd (omega (arith, conditions-some _ _ _ _ _ _ _ _ _ _ zero g.more)))
        (λ k. omega (arith, hops-end (further (cells_of code)) (following (cells_of code)) zero t (ne_eqb _ _ k)))
    hops-enough (suc f) j t cs o e =
        by-same (op_at (cells_of code) (link_at (cells_of code) t)) an_else_if
        (λ k.
        let g = condition-more _ _ _ _ _ _ j t cs o (suc f) e k in
        omega (arith, hops-on (further (cells_of code)) (following (cells_of code)) (suc f) t (eq-eqb _ _ k), hops-enough f (link_at (cells_of code) t) (following (cells_of code) t) g.rest o g.more))
        (λ k. omega (arith, hops-end (further (cells_of code)) (following (cells_of code)) (suc f) t (ne_eqb _ _ k)))

  -- ---- a condition was worked out
  module _ (j t : ℕ) (F : (h : Here code values base i) → First h j t) (r : ℤ) (s : SFits w64 r) (v : Evaluated code values base (j + 1) t r) where
    going : (h : Here code values base i) (rooms : Rooms) (steps : ℕ) (out : List ℕ) → Bool → Effect
    going h rooms steps out b =
        elim b [
          | true ↦ choosing (memory_of (state_here code values base i h rooms steps out) (call_here code values base i h rooms steps out)) (F h).rest (F h).o (state_here code values base i h rooms steps out)
          | false ↦ made (on_top (go_to (value_at (cells_of code) t)) (state_here code values base i h rooms steps out))
        ]

    tried : (h : Here code values base i) (rooms : Rooms) (steps : ℕ) (out : List ℕ) → effect_at h.P h.R rooms (cells_of values) h.d i steps out
        ≡ with_value (worth (memory_of (state_here code values base i h rooms steps out) (call_here code values base i h rooms steps out)) (F h).e) (state_here code values base i h rooms steps out)
        (λ z. going h rooms steps out (is_zero z))
    unfolding choosing going
    tried h rooms steps out = (F h).effect rooms steps out

    fails-so : le_z (pos first_error) (read r) ≡ true → Performs code values values base i (read r)
    fails-so k =
        rw (to_z-of_z s) (performs code values base i r (λ h rooms steps out.
        failed-here code values base i h rooms steps out (j + 1) t (F h).e (F h).reads r v (told-error r s k) (λ z. going h rooms steps out (is_zero z)) _ (tried h rooms steps out)))

    goes : le_z (pos first_error) (read r) ≡ false → (b : Bool) → is_zero r ≡ b → (h : Here code values base i) (rooms : Rooms) (steps : ℕ) (out : List ℕ)
        → effect_at h.P h.R rooms (cells_of values) h.d i steps out ≡ going h rooms steps out b
    unfolding with_value
    goes k b y h rooms steps out =
        tried h rooms steps out
        ∙ ap (λ (x : Value). with_value x (state_here code values base i h rooms steps out) (λ z. going h rooms steps out (is_zero z)))
        (value-here code values base i h rooms steps out (j + 1) t (F h).e (F h).reads r v (told-value r s k))
        ∙ ap (going h rooms steps out) y

  -- ---- what the loop keeps
  pub record Trying (j t : ℕ) : Type 0 where
    pub here : Here code values base i
    pub left : (h : Here code values base i) → Left h j t

  pub starts : (w : ℕ) → Says code i an_if w → Here code values base i → Trying i w
  unfolding perform targets_of
  starts w q here = record {
    here = here;
    left = λ h.
        let g = reads-if _ _ _ _ _ _ i _ _ (action-here code values base i h) q.op-is in
        record {
          f = parts - 1;
          within = omega arith;
          cs = g.cs;
          o = g.o;
          reads = ap (conditions h parts i) q.value-is ∙ g.conditions;
          named = subst (λ (a : Action). Named (steps_here code values base i h) (targets_of a)) g.does-is (named-targets code values base i h);
          effect = λ rooms steps out. effect-here code values base i h rooms steps out (step_here code values base i h).after (choose g.cs g.o) refl g.does-is;
        };
  }

  module _ (j t : ℕ) (l : Trying j t) where
    pub tries-store : Stores values base
    tries-store = stores-here code values base i l.here

    pub tries : Stands code (j + 1) t
    tries = let g = first l.here j t (l.left l.here) in stands_here code values base i l.here (j + 1) t g.e g.reads

    pub tries-in : (j + 1) * 8 + 8 ≤ length code
    tries-in = stands-in _ code values base (j + 1) t tries

    pub then-in : t * 8 + 8 ≤ length code
    then-in =
        value-in code t (whole_here code values base i l.here)
        (λ z. omega (arith, (small-name code values base i l.here (value_at (cells_of code) t) (first l.here j t (l.left l.here)).named).0))

    pub behind-in : (k : ℕ) → Part half_end (link_at (cells_of code) t) k → k * 8 + 8 ≤ length code
    behind-in k p =
        by-same (op_at (cells_of code) (link_at (cells_of code) t)) an_else_if
        (λ o. rw p.same (op-in code (link_at (cells_of code) t) (whole_here code values base i l.here) (λ z. omega arith)))
        (λ o. omega (arith, p.same, (small-name code values base i l.here (link_at (cells_of code) t) (otherwise-named l.here j t o (l.left l.here))).1, l.here.code-size))

    module _ (r : ℤ) (s : SFits w64 r) (v : Evaluated code values base (j + 1) t r) where
      pub condition-fails : le_z (pos first_error) (read r) ≡ true → Performs code values values base i (read r)
      condition-fails k = fails-so j t (λ h. first h j t (l.left h)) r s v k

      module _ (k : le_z (pos first_error) (read r) ≡ false) where
        pub condition-holds : (of_z w64 r ≡ 0 → ⊥) → (b : ℕ) → Part value_end (value_at (cells_of code) t) b → Performs code values values base i (to_z w64 b)
        unfolding going
        condition-holds z b p =
            rw p.same (performs code values base i (to_z w64 (value_at (cells_of code) t)) (λ h rooms steps out.
            goes-here code values base i h rooms steps out (value_at (cells_of code) t) _ (first h j t (l.left h)).named
            (goes j t (λ h. first h j t (l.left h)) r s v k false (told-other r s z) h rooms steps out)))

        module _ (z : of_z w64 r ≡ 0) (b : ℕ) (p : Part half_end (link_at (cells_of code) t) b) (w : ℕ) (ew : w ≡ head_at (cells_of code) b) where
          head-is : w ≡ head_at (cells_of code) (link_at (cells_of code) t)
          head-is = ew ∙ ap (head_at (cells_of code)) p.same

          op-is : op_in w ≡ op_at (cells_of code) (link_at (cells_of code) t)
          op-is = ap op_in head-is

          -- no other follows
          pub none-holds : (op_in w ≡ an_else_if → ⊥) → Performs code values values base i (to_z w64 b)
          unfolding going choosing last
          none-holds x =
              let o : op_at (cells_of code) (link_at (cells_of code) t) ≡ an_else_if → ⊥ = λ y. x (op-is ∙ y) in
              rw p.same (performs code values base i (to_z w64 (link_at (cells_of code) t)) (λ h rooms steps out.
              goes-here code values base i h rooms steps out (link_at (cells_of code) t) _ (otherwise-named h j t o (l.left h))
              (goes j t (λ h. last h j t o (l.left h)) r s v k true (told-zero r s z) h rooms steps out
              ∙ ap (λ (y : ℕ). made (on_top (go_to y) (state_here code values base i h rooms steps out))) (condition-last _ _ _ _ _ _ j t (l.left h).cs (l.left h).o (l.left h).f (l.left h).reads o).o_is)))

          module _ (x : op_in w ≡ an_else_if) where
            other : op_at (cells_of code) (link_at (cells_of code) t) ≡ an_else_if
            other = sym op-is ∙ x

            behind : (h : Here code values base i) → Left h (link_at (cells_of code) t) (value_at (cells_of code) (link_at (cells_of code) t))
            unfolding going more Named
            behind h =
                let a = l.left h in
                let g = condition-more _ _ _ _ _ _ j t a.cs a.o a.f a.reads other in
                let e = conditions-some _ _ _ _ _ _ _ _ _ _ a.f g.more in
                let q : a.f ≡ suc (a.f - 1) = omega arith in
                let y = subst (λ (y : List (Term × ℕ)). Named (steps_here code values base i h) (a.o ∷ map where_of y)) g.cs-is a.named in
                record {
                  f = a.f - 1;
                  within = omega (arith, a.within);
                  cs = g.rest;
                  o = a.o;
                  reads = subst (λ (y : ℕ). conditions h y (link_at (cells_of code) t) (value_at (cells_of code) (link_at (cells_of code) t)) ≡ some (g.rest, a.o)) q g.more;
                  named = (y.0, y.1.1);
                  effect = λ rooms steps out. goes j t (λ h. more h j t other (l.left h)) r s v k true (told-zero r s z) h rooms steps out;
                }

            value-is : value_in w ≡ value_at (cells_of code) (link_at (cells_of code) t)
            value-is = ap value_in head-is

            pub tries-next : Trying b (value_in w)
            tries-next = record { here = l.here; left = λ h. rw (p.same, value-is) (behind h) }

            pub tries-less : conditions_left code (value_in w) < conditions_left code t
            unfolding behind
            tries-less =
                let a = behind l.here in
                let o = l.left l.here in
                let e = conditions-some _ _ _ _ _ _ _ _ _ _ o.f (condition-more _ _ _ _ _ _ j t o.cs o.o o.f o.reads other).more in
                rw value-is (hops-less (further (cells_of code)) (following (cells_of code)) (suc a.f) parts t (eq-eqb _ _ other)
                (hops-enough l.here a.f (link_at (cells_of code) t) (value_at (cells_of code) (link_at (cells_of code) t)) a.cs a.o a.reads) (omega (arith, o.within)))
