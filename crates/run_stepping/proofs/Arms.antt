-- The arms of a step: what the function of each asks, by the op of the word, and what its promise says of the step.
use mathlib.Core.Path.{◌≡◌, refl, sym, ap, subst, ◌∙◌}
use mathlib.Core.Bool.{Bool}
use mathlib.Core.List.{List}
use mathlib.Core.Option.{none}
use Prim.Native.Nat.{ℕ, zero, suc, ◌+◌, ◌*◌, ◌/◌, ◌%◌, ◌≤◌}
use native.Mathlib.Omega.{arith}
use lib.ListN.{length}
use lib.IntN.{ℤ, pos}
use mir.Syntax.{w64}
use mir.Val.{SFits}
use mir.Facts.{to_z-of_z}
use Rattle.laws.proofs.Tests.{by-same}
use Rattle.std.specs.Prelude.{if◌then◌else◌}
use Rattle.paper.specs.Steps as action
use Rattle.paper.specs.States.{Rooms, Effect, ending, handing}
use Rattle.paper.specs.Running.{perform, returning, ending_list}
use Rattle.store_cells.specs.Cells.{cells_of}
use Rattle.store_numbers.proofs.Whole.{read}
use Rattle.code.specs.Cells.{op_at, value_at, head_at, op_in, value_in}
use Rattle.code.specs.Steps.{a_target, a_call_target, a_function_end, a_raise, a_return, a_write, an_end, an_exit, an_undo_end}
use Rattle.code.specs.Windows.{call_in, waiting}
use Rattle.layout.specs.declared.endings.Ending.TheVariants.{Exited, FellOff}
use Rattle.run_machine.specs.Machine.{Here, hands, ends, effect_at, Performs, Calls, Steps, Stepped}
use Rattle.run_targets.specs.Targets.{WordAt, of_module_word, of_call_word, ArrayAt, of_module_array, of_call_array}
use Rattle.run_returns.specs.Returning.{Returns, by_return, by_end}
use Rattle.run_output.specs.Output.{count_in, Prints, Writes, Wrote, WroteOf, WasRead}
use Rattle.run_machine.proofs.Actions.{reads-raise, reads_exit, reads-function-end, function-end-function, reads-undo-end, op-low, op-high}
use Rattle.run_machine.proofs.Current as here
use Rattle.layout.specs.Answers.{ended, handed}
use Rattle.layout.specs.Rules.{exited, fell_off}
use Rattle.layout.specs.Parts.{size_part}
use Rattle.run_output.proofs.OneLine.{count-is, silent}

-- ---- what the last arm knows: the op is none of the k from 128 on
unfoldable pub NoneOf : (op k : ℕ) → Type 0
NoneOf op zero = Unit {0}
NoneOf op (suc k) = NoneOf op k × (op ≡ a_target + k → ⊥)

past_all : (op k : ℕ) → a_target ≤ op → NoneOf op k → a_target + k ≤ op
unfolding NoneOf
past_all op zero low n = omega arith
past_all op (suc k) low n = let e = n.1 in omega (arith, past_all op k low n.0)

-- no op is above that of the end of an UNDO list
last-op : (code values : List ℕ) (base i : ℕ) → Here code values base i → NoneOf (op_at (cells_of code) i) 26 → (a_function_end ≤ op_at (cells_of code) i) × (op_at (cells_of code) i ≤ an_undo_end)
last-op code values base i h n =
    let s = here.step_here code values base i h in
    let low = op-low (here.m code values base i h) (here.n code values base i h) (here.code_here code values base i h).function h.text h.R (cells_of code) i s.after s.does (here.action-here code values base i h) in
    let high = op-high (here.m code values base i h) (here.n code values base i h) (here.code_here code values base i h).function h.text h.R (cells_of code) i s.after s.does (here.action-here code values base i h) in
    (omega (arith, past_all (op_at (cells_of code) i) 26 low n), high)

-- ---- steps that only answer
module _ (code values : List ℕ) (base i : ℕ) (h : Here code values base i) (rooms : Rooms) (steps : ℕ) (out : List ℕ) where
  abbrev E : Effect
  E = effect_at h.P h.R rooms (cells_of values) h.d i steps out

  raise-hands : op_at (cells_of code) i ≡ a_raise → E ≡ handing (here.state_here code values base i h rooms steps out)
  unfolding perform
  raise-hands o =
      let s = here.step_here code values base i h in
      here.effect-here code values base i h rooms steps out s.after action.hand_on refl
      (reads-raise (here.m code values base i h) (here.n code values base i h) (here.code_here code values base i h).function h.text h.R (cells_of code) i s.after s.does (here.action-here code values base i h) o).does-is

  exit-ends : op_at (cells_of code) i ≡ an_exit → E ≡ ending exited (here.state_here code values base i h rooms steps out)
  unfolding perform
  exit-ends o =
      let s = here.step_here code values base i h in
      here.effect-here code values base i h rooms steps out s.after action.exit refl
      (reads_exit (here.m code values base i h) (here.n code values base i h) (here.code_here code values base i h).function h.text h.R (cells_of code) i s.after s.does (here.action-here code values base i h) o).does-is

  -- a FUNC must not come to the end of its list
  function-ends : op_at (cells_of code) i ≡ a_function_end → E ≡ ending fell_off (here.state_here code values base i h rooms steps out)
  unfolding perform ending_list call_in
  function-ends o =
      let s = here.step_here code values base i h in
      let S = here.state_here code values base i h rooms steps out in
      here.effect-here code values base i h rooms steps out s.after action.end_list refl
      (reads-function-end (here.m code values base i h) (here.n code values base i h) (here.code_here code values base i h).function h.text h.R (cells_of code) i s.after s.does (here.action-here code values base i h) o).does-is
      ∙ ap (λ (b : Bool). if b then ending 4 S else returning h.P (here.call_here code values base i h rooms steps out) (waiting h.P h.R (cells_of values) h.d) none S)
      (function-end-function (here.m code values base i h) (here.n code values base i h) (here.code_here code values base i h).function h.text h.R (cells_of code) i s.after s.does (here.action-here code values base i h) o)

  -- nor does any run come to the end of an UNDO list
  undo-ends : op_at (cells_of code) i ≡ an_undo_end → E ≡ ending fell_off (here.state_here code values base i h rooms steps out)
  unfolding perform
  undo-ends o =
      let s = here.step_here code values base i h in
      here.effect-here code values base i h rooms steps out s.after action.end_undo refl
      (reads-undo-end (here.m code values base i h) (here.n code values base i h) (here.code_here code values base i h).function h.text h.R (cells_of code) i s.after s.does (here.action-here code values base i h) o).does-is

  -- the last arm has these two
  last-ends : NoneOf (op_at (cells_of code) i) 26 → E ≡ ending fell_off (here.state_here code values base i h rooms steps out)
  last-ends n = by-same (op_at (cells_of code) i) a_function_end function-ends (λ d. undo-ends (last d))
    where
      last : (op_at (cells_of code) i ≡ a_function_end → ⊥) → op_at (cells_of code) i ≡ an_undo_end
      last d = omega (arith, d, last-op code values base i h n)

-- ---- what a word says, by its op
module _ (code : List ℕ) (base i w : ℕ) (ew : w ≡ head_at (cells_of code) i) where
  op-at : (n : ℕ) → op_in w ≡ n → op_at (cells_of code) i ≡ n
  op-at n o = ap (λ (x : ℕ). op_in x) (sym ew) ∙ o

  value-is : value_in w ≡ value_at (cells_of code) i
  value-is = ap (λ (x : ℕ). value_in x) ew

  pub to-module-word : op_in w ≡ a_target → WordAt (cells_of code) base a_target i (value_in w)
  to-module-word o = of_module_word (op-at a_target o) value-is

  pub to-call-word : op_in w ≡ (a_target + 1) → WordAt (cells_of code) base a_target i (base + value_in w)
  to-call-word o = of_call_word (op-at (a_target + 1) o) (ap (λ (v : ℕ). base + v) value-is)

  pub to-module-element : op_in w ≡ (a_target + 2) → ArrayAt (cells_of code) base a_target i (value_in w % size_part) (value_in w / size_part)
  to-module-element o = of_module_array (op-at (a_target + 2) o) (ap (λ (v : ℕ). v % size_part) value-is) (ap (λ (v : ℕ). v / size_part) value-is)

  pub to-call-element : op_in w ≡ (a_target + 3) → ArrayAt (cells_of code) base a_target i (base + value_in w % size_part) (value_in w / size_part)
  to-call-element o = of_call_array (op-at (a_target + 3) o) (ap (λ (v : ℕ). base + v % size_part) value-is) (ap (λ (v : ℕ). v / size_part) value-is)

  pub for-module-word : op_in w ≡ a_call_target → WordAt (cells_of code) base a_call_target i (value_in w)
  for-module-word o = of_module_word (op-at a_call_target o) value-is

  pub for-call-word : op_in w ≡ (a_call_target + 1) → WordAt (cells_of code) base a_call_target i (base + value_in w)
  for-call-word o = of_call_word (op-at (a_call_target + 1) o) (ap (λ (v : ℕ). base + v) value-is)

  pub for-module-element : op_in w ≡ (a_call_target + 2) → ArrayAt (cells_of code) base a_call_target i (value_in w % size_part) (value_in w / size_part)
  for-module-element o = of_module_array (op-at (a_call_target + 2) o) (ap (λ (v : ℕ). v % size_part) value-is) (ap (λ (v : ℕ). v / size_part) value-is)

  pub for-call-element : op_in w ≡ (a_call_target + 3) → ArrayAt (cells_of code) base a_call_target i (base + value_in w % size_part) (value_in w / size_part)
  for-call-element o = of_call_array (op-at (a_call_target + 3) o) (ap (λ (v : ℕ). base + v % size_part) value-is) (ap (λ (v : ℕ). v / size_part) value-is)

  pub by-return : op_in w ≡ a_return → Returns (cells_of code) i
  by-return o = by_return (op-at a_return o)

  pub by-end : op_in w ≡ an_end → Returns (cells_of code) i
  by-end o = by_end (op-at an_end o)

-- ---- a step
module _ (text code values out : List ℕ) (base last i : ℕ) (s : Steps text code values out base last i) where
  pub step-inside : i * 8 + 8 ≤ length code
  step-inside = here.step-in code values base i s.here

  count : count_in (cells_of values) ≤ length out
  count = subst (λ (n : ℕ). n ≤ length out) (count-is s.here.P s.here.R (cells_of values)) s.written

  pub prints : Prints text code values out base i
  prints = record { here = s.here; text-is = s.text-is; written = count }

  -- ---- what a promise says of it
  module _ (after inputs : List ℕ) (r : ℤ) (f : SFits w64 r) where
    pub performed : Performs code values after base i r → Stepped text code values after inputs out out base last i (read r)
    performed p =
        subst (Stepped text code values after inputs out out base last i) (sym (to_z-of_z f))
        (silent text code values after inputs out base last i r p.long p.kept count (λ h t rooms lw l steps. p.does h rooms steps out))

    pub called : Calls code values after base last i r → Stepped text code values after inputs out out base last i (read r)
    called p =
        subst (Stepped text code values after inputs out out base last i) (sym (to_z-of_z f))
        (silent text code values after inputs out base last i r p.long p.kept count (λ h t rooms lw l steps. p.does h rooms lw steps out))

    module _ (out' : List ℕ) where
      pub wrote : Wrote text code values after out out' i r → Stepped text code values after inputs out out' base last i (read r)
      wrote p = subst (Stepped text code values after inputs out out' base last i) (sym (to_z-of_z f)) (p.steps inputs base last)

      pub wrote_of : WroteOf text code values after out out' base i r → Stepped text code values after inputs out out' base last i (read r)
      wrote_of p = subst (Stepped text code values after inputs out out' base last i) (sym (to_z-of_z f)) (p.steps inputs last)

      pub was_read : WasRead text code values after inputs out out' base i r → Stepped text code values after inputs out out' base last i (read r)
      was_read p = subst (Stepped text code values after inputs out out' base last i) (sym (to_z-of_z f)) (p.steps last)

  -- ---- by its word
  module _ (w : ℕ) (ew : w ≡ head_at (cells_of code) i) where
    pub writes : op_in w ≡ a_write → Writes text code values out i
    writes o = record { base = base; prints = prints; op = op-at code base i w ew a_write o }

    pub handed-on : op_in w ≡ a_raise → (inputs : List ℕ) → Stepped text code values values inputs out out base last i (pos handed)
    handed-on o inputs =
        silent text code values values inputs out base last i (pos handed) refl (λ c x y. refl) count
        (λ h t rooms lw l steps. hands refl refl refl (raise-hands code values base i h rooms steps out (op-at code base i w ew a_raise o)))

    pub exits : op_in w ≡ an_exit → (inputs : List ℕ) → Stepped text code values values inputs out out base last i (pos (ended + exited))
    exits o inputs =
        silent text code values values inputs out base last i (pos (ended + exited)) refl (λ c x y. refl) count
        (λ h t rooms lw l steps. ends Exited refl refl refl refl (exit-ends code values base i h rooms steps out (op-at code base i w ew an_exit o)))

    pub fell-off : NoneOf (op_in w) 26 → (inputs : List ℕ) → Stepped text code values values inputs out out base last i (pos (ended + fell_off))
    fell-off n inputs =
        let m = subst (λ (x : ℕ). NoneOf (op_in x) 26) ew n in
        silent text code values values inputs out base last i (pos (ended + fell_off)) refl (λ c x y. refl) count
        (λ h t rooms lw l steps. ends FellOff refl refl refl refl (last-ends code values base i h rooms steps out m))
