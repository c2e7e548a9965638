-- Steps that only decide where to go on, and RAISE: one law for each place where the code returns, and for what it asks of its callees.
use mathlib.Core.Path.{◌≡◌, refl, sym, ap, subst, ◌∙◌}
use mathlib.Core.Bool.{true, false}
use mathlib.Core.List.{List, [], ◌∷◌}
use mathlib.Core.Option.{some}
use Prim.Native.Nat.{ℕ, ◌+◌, ◌-◌, ◌*◌, ◌<◌, ◌≤◌}
use native.Mathlib.Omega.{arith}
use lib.ListN.{length}
use lib.IntN.{ℤ, pos, negsuc, nat_abs, ◌+ℤ◌}
use lib.Signed.{lt_z, le_z}
use mir.Syntax.{w32, w64}
use mir.Val.{SFits, to_z, of_z}
use mir.Facts.{to_z-of_z}
use borrow.Author.Tests.{ltb-false}
use Rattle.laws.proofs.Tests.{false-true}
use Rattle.std.specs.Prelude.{if◌then◌else◌}
use Rattle.paper.specs.Numbers.{Value, is_zero, ill_raise}
use Rattle.paper.specs.Terms.{Term, worth}
use Rattle.paper.specs.Steps.{Action, Step, choose, test_while, raise}
use Rattle.paper.specs.States.{Call, Rooms, Effect, made, failing, go_to, on_top, memory_of, with_value}
use Rattle.paper.specs.Running.{perform, choosing, raised}
use Rattle.store_cells.specs.Cells.{cells_of}
use Rattle.store_numbers.proofs.Whole.{read}
use Rattle.code.specs.Cells.{value_at, link_at}
use Rattle.code.specs.Spans.{term_in}
use Rattle.code.specs.Closed.{is_named, Named, targets_of}
use Rattle.code.specs.Steps.{a_raise_of, a_compact_if, a_while}
use Rattle.layout.specs.Answers.{answers}
use Rattle.store_evaluation.specs.Answers.{first_error, Stands, Evaluated}
use Rattle.store_evaluation.proofs.Places.{value-in}
use Rattle.store_reading.specs.Reading.{value_end, half_end, Part}
use Rattle.run_machine.specs.Machine.{Here, fails, effect_at, Performs, Says}
use Rattle.run_machine.proofs.Actions.{Expression, reads-while, reads-compact-if, reads-raise-of}
use Rattle.raised.proofs.Raised.{raised-low}
use Rattle.run_machine.proofs.Current.{code_here, step_here, m, n, call_here, state_here, action-here, whole_here, stands_here, named-after, named-targets, small-name, step-in, effect-here, value-here, failed-here, goes-here, told-error, told-value, told-zero, told-other, performs}
use Rattle.run_machine.proofs.Deciding.{steps_here, Going, Deciding, decides, decided-stands, decided-fails, decided, decided-goes, action-named}

module _ (code values : List ℕ) (base i : ℕ) where
  -- ---- a compact IF
  module _ (t : ℕ) (q : Says code i a_compact_if t) where
    if_here : (h : Here code values base i) → Expression (m code values base i h) (n code values base i h) (code_here code values base i h).function h.text h.R (cells_of code) i
        (step_here code values base i h).after (step_here code values base i h).does (λ e. choose ((e, value_at (cells_of code) i) ∷ []) (link_at (cells_of code) i))
    if_here h = reads-compact-if _ _ _ _ _ _ i _ _ (action-here code values base i h) q.op-is

    if-goes : Going code values base i
    if-goes h rooms steps out z =
        elim (is_zero z) [
          | true ↦ made (on_top (go_to (link_at (cells_of code) i)) (state_here code values base i h rooms steps out))
          | false ↦ made (on_top (go_to (value_at (cells_of code) i)) (state_here code values base i h rooms steps out))
        ]

    if-decides : (h : Here code values base i) → Deciding code values base i t if-goes h
    unfolding if-goes perform choosing
    if-decides h = decides code values base i t a_compact_if q (λ e. choose ((e, value_at (cells_of code) i) ∷ []) (link_at (cells_of code) i)) if-goes h (if_here h) (λ rooms steps out c rest place. refl)

    if-named : (h : Here code values base i) → (is_named (steps_here code values base i h) (link_at (cells_of code) i) ≡ true) × (is_named (steps_here code values base i h) (value_at (cells_of code) i) ≡ true)
    unfolding Named targets_of
    if-named h =
        let g = action-named code values base i h (choose (((if_here h).e, value_at (cells_of code) i) ∷ []) (link_at (cells_of code) i)) (if_here h).does-is in
        (g.0, g.1.0)

    pub if-stands : Here code values base i → Stands code (i + 1) t
    if-stands h = decided-stands code values base i t if-goes if-decides h

    pub if-small : Here code values base i → SFits w64 (pos t)
    if-small h = record { sfits = omega (arith, q.value-is, (small-name code values base i h (value_at (cells_of code) i) (if-named h).1).1) }

    module _ (r : ℤ) (s : SFits w64 r) (v : Evaluated code values base (i + 1) t r) where
      pub if-fails : le_z (pos first_error) (read r) ≡ true → Performs code values values base i (read r)
      if-fails k = decided-fails code values base i t if-goes if-decides r s v k

      module _ (k : le_z (pos first_error) (read r) ≡ false) where
        pub if-then : (of_z w64 r ≡ 0 → ⊥) → Performs code values values base i (to_z w64 t)
        unfolding if-goes
        if-then z =
            decided-goes code values base i t if-goes if-decides r s v k t (value_at (cells_of code) i) q.value-is (λ h. (if-named h).1) (λ h rooms steps out. rw (told-other r s z, if-goes))

        pub if-else : of_z w64 r ≡ 0 → (b : ℕ) → Part half_end (link_at (cells_of code) i) b → Performs code values values base i (to_z w64 b)
        unfolding if-goes
        if-else z b p =
            decided-goes code values base i t if-goes if-decides r s v k b (link_at (cells_of code) i) p.same (λ h. (if-named h).0) (λ h rooms steps out. rw (told-zero r s z, if-goes))

  -- ---- WHILE
  module _ (t : ℕ) (q : Says code i a_while t) where
    while-here : (h : Here code values base i) → Expression (m code values base i h) (n code values base i h) (code_here code values base i h).function h.text h.R (cells_of code) i
        (step_here code values base i h).after (step_here code values base i h).does (λ e. test_while e (value_at (cells_of code) (value_at (cells_of code) i)))
    while-here h = reads-while _ _ _ _ _ _ i _ _ (action-here code values base i h) q.op-is

    while-goes : Going code values base i
    while-goes h rooms steps out z =
        made (on_top (go_to (if is_zero z then link_at (cells_of code) i else value_at (cells_of code) (value_at (cells_of code) i))) (state_here code values base i h rooms steps out))

    while-decides : (h : Here code values base i) → Deciding code values base i t while-goes h
    unfolding while-goes perform
    while-decides h = decides code values base i t a_while q (λ e. test_while e (value_at (cells_of code) (value_at (cells_of code) i))) while-goes h (while-here h) (λ rooms steps out c rest place. refl)

    body_is : value_at (cells_of code) t ≡ value_at (cells_of code) (value_at (cells_of code) i)
    body_is = ap (value_at (cells_of code)) q.value-is

    body-named : (h : Here code values base i) → is_named (steps_here code values base i h) (value_at (cells_of code) (value_at (cells_of code) i)) ≡ true
    unfolding Named targets_of
    body-named h = (action-named code values base i h (test_while (while-here h).e (value_at (cells_of code) (value_at (cells_of code) i))) (while-here h).does-is).0

    pub while-stands : Here code values base i → Stands code (i + 1) t
    while-stands h = decided-stands code values base i t while-goes while-decides h

    pub while-body-in : Here code values base i → t * 8 + 8 ≤ length code
    while-body-in h =
        value-in code t (whole_here code values base i h)
        (λ z. omega (arith, body_is, (small-name code values base i h (value_at (cells_of code) (value_at (cells_of code) i)) (body-named h)).0))

    module _ (r : ℤ) (s : SFits w64 r) (v : Evaluated code values base (i + 1) t r) where
      pub while-fails : le_z (pos first_error) (read r) ≡ true → Performs code values values base i (read r)
      while-fails k = decided-fails code values base i t while-goes while-decides r s v k

      module _ (k : le_z (pos first_error) (read r) ≡ false) where
        pub while-body : (of_z w64 r ≡ 0 → ⊥) → (b : ℕ) → Part value_end (value_at (cells_of code) t) b → Performs code values values base i (to_z w64 b)
        unfolding while-goes
        while-body z b p =
            decided-goes code values base i t while-goes while-decides r s v k b (value_at (cells_of code) (value_at (cells_of code) i)) (p.same ∙ body_is) body-named
            (λ h rooms steps out. rw (told-other r s z, while-goes))

        pub while-after : of_z w64 r ≡ 0 → (b : ℕ) → Part half_end (link_at (cells_of code) i) b → Performs code values values base i (to_z w64 b)
        unfolding while-goes
        while-after z b p =
            decided-goes code values base i t while-goes while-decides r s v k b (link_at (cells_of code) i) p.same
            (λ h. subst (λ (j : ℕ). is_named (steps_here code values base i h) j ≡ true) (while-here h).after_is (named-after code values base i h))
            (λ h rooms steps out. rw (told-zero r s z, while-goes))

  -- ---- RAISE
  module _ (t : ℕ) (q : Says code i a_raise_of t) where
    raise-goes : Going code values base i
    raise-goes h rooms steps out z = failing (raised z) (state_here code values base i h rooms steps out)

    raise-decides : (h : Here code values base i) → Deciding code values base i t raise-goes h
    unfolding raise-goes perform
    raise-decides h =
        decides code values base i t a_raise_of q raise raise-goes h (reads-raise-of _ _ _ _ _ _ i _ _ (action-here code values base i h) q.op-is) (λ rooms steps out c rest place. refl)

    pub raise-stands : Here code values base i → Stands code (i + 1) t
    raise-stands h = decided-stands code values base i t raise-goes raise-decides h

    module _ (r : ℤ) (s : SFits w64 r) (v : Evaluated code values base (i + 1) t r) where
      pub raise-fails : le_z (pos first_error) (read r) ≡ true → Performs code values values base i (read r)
      raise-fails k = decided-fails code values base i t raise-goes raise-decides r s v k

      module _ (k : le_z (pos first_error) (read r) ≡ false) where
        raises : (e : ℕ) → raised r ≡ e → Performs code values values base i (pos (first_error + e))
        unfolding raise-goes
        raises e w =
            performs code values base i (pos (first_error + e)) (λ h rooms steps out.
            fails e refl (subst (λ (j : ℕ). j < answers) w (raised-low r)) h.live
            (decided code values base i t raise-goes raise-decides r s v k h rooms steps out ∙ ap (λ (j : ℕ). failing j (state_here code values base i h rooms steps out)) w))

        pub raise-low : lt_z (read r) (pos 1) ≡ true → Performs code values values base i (pos (first_error + ill_raise))
        unfolding raised
        raise-low l = let g : lt_z r (pos 1) ≡ true = rw (to_z-of_z s) at l in raises ill_raise (rw (g, raised))

        module _ (l : lt_z (read r) (pos 1) ≡ false) where
          low-is : lt_z r (pos 1) ≡ false
          low-is = rw (to_z-of_z s) at l

          pub raise-high : lt_z (pos 90) (read r) ≡ true → Performs code values values base i (pos (first_error + ill_raise))
          unfolding raised
          raise-high u = let g : lt_z (pos 90) r ≡ true = rw (to_z-of_z s) at u in raises ill_raise (rw (low-is, raised) (rw g))

          module _ (u : lt_z (pos 90) (read r) ≡ false) where
            high_is : lt_z (pos 90) r ≡ false
            high_is = rw (to_z-of_z s) at u

            record Within : Type 0 where
              pub j : ℕ
              pub is : r ≡ pos j
              pub low : 1 ≤ j
              pub high : j ≤ 90

            within_of : (y : ℤ) → r ≡ y → lt_z y (pos 1) ≡ false → lt_z (pos 90) y ≡ false → Within
            within_of (pos j) e a b = record { j = j; is = e; low = ltb-false j 1 a; high = ltb-false 90 j b }
            within_of (negsuc j) e a b = false-true (sym a)

            within : Within
            within = within_of r refl low-is high_is

            sum_is : pos first_error +ℤ read r ≡ pos (first_error + within.j)
            sum_is = ap (λ (z : ℤ). pos first_error +ℤ z) (to_z-of_z s ∙ within.is)

            pub raise-fits : SFits w64 (pos first_error +ℤ read r)
            raise-fits = rw sum_is (record { sfits = omega (arith, within.high) })

            pub raise-given : Performs code values values base i (read (pos first_error +ℤ read r))
            unfolding raised
            raise-given = rw (to_z-of_z raise-fits) (rw sum_is (raises within.j (rw (low-is, raised) (rw high_is (ap nat_abs within.is)))))
