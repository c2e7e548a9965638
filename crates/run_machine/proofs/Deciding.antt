-- Steps that only decide where to go on: they work out one expression, and its value says it. And what holds of every value of an expression.
use mathlib.Core.Path.{◌≡◌, ap, subst, ◌∙◌}
use mathlib.Core.Bool.{true, false}
use mathlib.Core.List.{List}
use mathlib.Core.Option.{some}
use Prim.Native.Nat.{ℕ, ◌+◌, ◌*◌, ◌≤◌}
use lib.ListN.{length}
use lib.IntN.{ℤ, pos}
use lib.Signed.{le_z}
use mir.Syntax.{w32, w64}
use mir.Val.{SFits, to_z}
use mir.Facts.{to_z-of_z}
use Rattle.paper.specs.Numbers.{Value}
use Rattle.paper.specs.Terms.{Term, worth}
use Rattle.paper.specs.Steps.{Action, Step}
use Rattle.paper.specs.States.{Call, Rooms, Effect, made, go_to, on_top, memory_of, with_value}
use Rattle.paper.specs.Running.{perform}
use Rattle.store_cells.specs.Cells.{cells_of}
use Rattle.store_numbers.proofs.Whole.{read}
use Rattle.code.specs.Cells.{link_at}
use Rattle.code.specs.Spans.{term_in}
use Rattle.code.specs.Closed.{is_named, Named, targets_of}
use Rattle.store_evaluation.specs.Answers.{first_error, Stands, Evaluated}
use Rattle.run_machine.specs.Machine.{Here, effect_at, Performs, Says}
use Rattle.run_machine.proofs.Actions.{Expression}
use Rattle.run_machine.proofs.Current.{code_here, step_here, m, n, call_here, state_here, stands_here, named-targets, step-in, effect-here, value-here, failed-here, goes-here, told-error, told-value, performs}

-- ---- values have 32 bits
pub value-small : (code values : List ℕ) (base from to : ℕ) (r : ℤ) → SFits w64 r → Evaluated code values base from to r → le_z (pos first_error) (read r) ≡ false → SFits w32 (read r)
value-small code values base from to r s v k = rw (to_z-of_z s) (v.small (told-value r s k))

module _ (code values : List ℕ) (base i : ℕ) where
  pub word_in : Here code values base i → i * 8 + 8 ≤ length code
  word_in h = step-in code values base i h

  abbrev pub steps_here : Here code values base i → List Step
  steps_here h = (code_here code values base i h).steps

  -- ---- a step with one expression, which stands from the next word up to t, and what is done with its value
  abbrev pub Going : Type 0
  Going = (h : Here code values base i) (rooms : Rooms) (steps : ℕ) (out : List ℕ) → ℤ → Effect

  pub record Deciding (t : ℕ) (go : Going) (h : Here code values base i) : Type 0 where
    pub e : Term
    pub reads : term_in (m code values base i h) (n code values base i h) (cells_of code) (i + 1) t ≡ some e
    pub effect : (rooms : Rooms) (steps : ℕ) (out : List ℕ) → effect_at h.P h.R rooms (cells_of values) h.d i steps out
        ≡ with_value (worth (memory_of (state_here code values base i h rooms steps out) (call_here code values base i h rooms steps out)) e) (state_here code values base i h rooms steps out) (go h rooms steps out)

  -- such a step, as its word is read
  pub decides : (t op : ℕ) (q : Says code i op t) (f : Term → Action) (go : Going) (h : Here code values base i)
      → (x : Expression (m code values base i h) (n code values base i h) (code_here code values base i h).function h.text h.R (cells_of code) i
      (step_here code values base i h).after (step_here code values base i h).does f)
      → ((rooms : Rooms) (steps : ℕ) (out : List ℕ) (c : Call) (rest : List Call) (place : ℕ) → perform h.P rooms c rest place (link_at (cells_of code) i) (f x.e) (state_here code values base i h rooms steps out)
      ≡ with_value (worth (memory_of (state_here code values base i h rooms steps out) c) x.e) (state_here code values base i h rooms steps out) (go h rooms steps out))
      → Deciding t go h
  decides t op q f go h x p = record {
    e = x.e;
    reads = ap (term_in (m code values base i h) (n code values base i h) (cells_of code) (i + 1)) q.value-is ∙ x.reads;
    effect = λ rooms steps out. effect-here code values base i h rooms steps out (link_at (cells_of code) i) (f x.e) x.after_is x.does-is ∙ p rooms steps out _ _ _;
  }

  module _ (t : ℕ) (go : Going) (d : (h : Here code values base i) → Deciding t go h) where
    pub decided-stands : Here code values base i → Stands code (i + 1) t
    decided-stands h = stands_here code values base i h (i + 1) t (d h).e (d h).reads

    module _ (r : ℤ) (s : SFits w64 r) (v : Evaluated code values base (i + 1) t r) where
      pub decided-fails : le_z (pos first_error) (read r) ≡ true → Performs code values values base i (read r)
      decided-fails k =
          rw (to_z-of_z s) (performs code values base i r (λ h rooms steps out.
          failed-here code values base i h rooms steps out (i + 1) t (d h).e (d h).reads r v (told-error r s k) (go h rooms steps out) _ ((d h).effect rooms steps out)))

      pub decided : le_z (pos first_error) (read r) ≡ false → (h : Here code values base i) (rooms : Rooms) (steps : ℕ) (out : List ℕ)
          → effect_at h.P h.R rooms (cells_of values) h.d i steps out ≡ go h rooms steps out r
      unfolding with_value
      decided k h rooms steps out =
          (d h).effect rooms steps out ∙ ap (λ (y : Value). with_value y (state_here code values base i h rooms steps out) (go h rooms steps out))
          (value-here code values base i h rooms steps out (i + 1) t (d h).e (d h).reads r v (told-value r s k))

      -- it goes on with b
      pub decided-goes : (k : le_z (pos first_error) (read r) ≡ false) (b c : ℕ) → b ≡ c → ((h : Here code values base i) → is_named (steps_here h) c ≡ true)
          → ((h : Here code values base i) (rooms : Rooms) (steps : ℕ) (out : List ℕ) → go h rooms steps out r ≡ made (on_top (go_to c) (state_here code values base i h rooms steps out)))
          → Performs code values values base i (to_z w64 b)
      decided-goes k b c e a g =
          rw e (performs code values base i (to_z w64 c) (λ h rooms steps out.
          goes-here code values base i h rooms steps out c _ (a h) (decided k h rooms steps out ∙ g h rooms steps out)))

  -- where an action can go on
  pub action-named : (h : Here code values base i) (a : Action) → (step_here code values base i h).does ≡ a → Named (steps_here h) (targets_of a)
  action-named h a e = subst (λ (x : Action). Named (steps_here h) (targets_of x)) e (named-targets code values base i h)
