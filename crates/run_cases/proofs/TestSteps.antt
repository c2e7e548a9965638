-- TEST: its expression, and where it goes on.
use mathlib.Core.Path.{◌≡◌, refl, sym, ap, subst, ◌∙◌}
use mathlib.Core.Bool.{true, false}
use mathlib.Core.List.{List, [], ◌∷◌, map}
use mathlib.Core.Option.{some}
use Prim.Native.Nat.{ℕ, ◌+◌}
use native.Mathlib.Omega.{arith}
use lib.IntN.{ℤ, pos}
use lib.Signed.{le_z}
use mir.Syntax.{w64}
use mir.Val.{SFits, to_z}
use mir.Facts.{to_z-of_z}
use Rattle.laws.proofs.Tests.{test}
use Rattle.paper.specs.Steps.{Action, Step, select}
use Rattle.paper.specs.States.{made, go_to, on_top}
use Rattle.paper.specs.Running.{perform, holds, matching}
use Rattle.store_cells.specs.Cells.{cells_of}
use Rattle.store_numbers.proofs.Whole.{read}
use Rattle.code.specs.Spans.{term_in}
use Rattle.code.specs.Steps.{parts, cases_in, a_test}
use Rattle.code.specs.Closed.{is_named, Named, case_of, targets_of}
use Rattle.store_evaluation.specs.Answers.{first_error, Stands, Evaluated}
use Rattle.run_machine.specs.Machine.{Here, Comes, effect_at, Performs, Says}
use Rattle.run_cases.specs.Cases.{Cases, Matches}
use Rattle.run_machine.proofs.Actions.{Selects, reads-test}
use Rattle.run_machine.proofs.Current.{code_here, step_here, m, n, state_here, action-here, whole_here, named-targets, effect-here, goes-here, performs}
use Rattle.run_machine.proofs.Deciding.{steps_here, Going, Deciding, decided-stands, decided-fails, decided}

-- wherever it goes is a step
matching-named : (S : List Step) (z : ℤ) (cs : List (List ℤ × ℕ)) (o : ℕ) → Named S (o ∷ map case_of cs) → is_named S (matching z cs o) ≡ true
unfolding Named matching
matching-named S z [] o k = k.0
matching-named S z (c ∷ cs) o k =
    test (holds z c.0) (λ t. rw (t, matching) k.1.0) (λ t. rw (t, matching) (matching-named S z cs o (k.0, k.1.1)))

module _ (code values : List ℕ) (base i t : ℕ) (q : Says code i a_test t) where
  selects : (h : Here code values base i) → Selects (m code values base i h) (n code values base i h) (code_here code values base i h).function h.text h.R (cells_of code) i
      (step_here code values base i h).after (step_here code values base i h).does
  selects h = reads-test _ _ _ _ _ _ i _ _ (action-here code values base i h) q.op-is

  goes : Going code values base i
  goes h rooms steps out z = made (on_top (go_to (matching z (selects h).cs (selects h).o)) (state_here code values base i h rooms steps out))

  selecting : (h : Here code values base i) → Deciding code values base i t goes h
  unfolding goes perform
  selecting h = record {
    e = (selects h).e;
    reads = ap (term_in (m code values base i h) (n code values base i h) (cells_of code) (i + 1)) q.value-is ∙ (selects h).reads;
    effect = λ rooms steps out.
        effect-here code values base i h rooms steps out (step_here code values base i h).after (select (selects h).e (selects h).cs (selects h).o) refl (selects h).does-is;
  }

  cases-at : (h : Here code values base i) → cases_in (m code values base i h) (n code values base i h) (code_here code values base i h).function h.text h.R (cells_of code) parts t ≡ some ((selects h).cs, (selects h).o)
  cases-at h = ap (cases_in (m code values base i h) (n code values base i h) (code_here code values base i h).function h.text h.R (cells_of code) parts) q.value-is ∙ (selects h).cases

  pub test-stands : Here code values base i → Stands code (i + 1) t
  test-stands h = decided-stands code values base i t goes selecting h

  pub test-cases : Here code values base i → Cases code t
  test-cases h = record {
    m = m code values base i h;
    n = n code values base i h;
    function = (code_here code values base i h).function;
    text = h.text;
    R = h.R;
    cs = (selects h).cs;
    o = (selects h).o;
    is = cases-at h;
    whole = whole_here code values base i h;
  }

  module _ (r : ℤ) (s : SFits w64 r) (v : Evaluated code values base (i + 1) t r) where
    pub test-fails : le_z (pos first_error) (read r) ≡ true → Performs code values values base i (read r)
    test-fails k = decided-fails code values base i t goes selecting r s v k

    pub test-goes : le_z (pos first_error) (read r) ≡ false → (b : ℕ) → Matches code t (read r) b → Performs code values values base i (to_z w64 b)
    unfolding goes targets_of
    test-goes k b x =
        let y : Matches code t r b = rw (to_z-of_z s) at x in
        performs code values base i (to_z w64 b) (λ h rooms steps out.
        let g = selects h in
        let c = matching r g.cs g.o in
        let e = y.is (m code values base i h) (n code values base i h) (code_here code values base i h).function h.text h.R g.cs g.o (cases-at h) in
        let z = matching-named (steps_here code values base i h) r g.cs g.o (subst (λ (a : Action). Named (steps_here code values base i h) (targets_of a)) g.does-is (named-targets code values base i h)) in
        subst (λ (j : ℕ). Comes h.P h.R (cells_of code) h.offset h.d i steps (cells_of values) (cells_of values) out out (effect_at h.P h.R rooms (cells_of values) h.d i steps out) (to_z w64 j)) (sym e)
        (goes-here code values base i h rooms steps out c _ z (decided code values base i t goes selecting r s v k h rooms steps out)))
