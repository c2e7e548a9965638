-- A call as it begins, in its window.
use mathlib.Core.Path.{◌≡◌, refl, sym, ap, ap₂, ◌∙◌}
use mathlib.Core.List.{List, ◌∷◌, ◌++◌, map}
use Prim.Native.Nat.{ℕ, zero, suc, ◌+◌, ◌<◌}
use native.Mathlib.Omega.{arith}
use lib.ListN.{length, get_or, take, drop, replicate, length-append, length-replicate, replicate-append-replicate}
use lib.Seq.{drop_at}
use lib.IntN.{ℤ, pos}
use mir.Syntax.{w32}
use mir.Val.{to_z}
use Rattle.paper.specs.Steps.{Code, Program}
use Rattle.paper.specs.States.{Loop}
use Rattle.paper.specs.Running.{code_at, idle, new_call}
use Rattle.code.specs.Steps.{Head, numbered}
use Rattle.code.specs.Holds.{optionally}
use Rattle.code.specs.Windows.{ends_cell, steps_cell, routine_cell, failed_cell, result_cell, result_in, loops_from, call_in}
use Rattle.run_machine.specs.Live.{slots_of_call}
use Rattle.run_starting.specs.Starting.{Holding}
use Rattle.run_machine.proofs.Agreeing.{call-eq, result-any}

module _ (P : Program) (R : List Head) where
  -- no loop is live
  pub loops-idle : (X : List ℕ) (base f k : ℕ) → ((j : ℕ) → j < f → (get_or X (base + ends_cell + (k + j)) 0 ≡ 0) × (get_or X (base + steps_cell + (k + j)) 0 ≡ 0)) → loops_from P R X base f k ≡ replicate f idle
  unfolding loops_from idle
  loops-idle X base zero k z = refl
  loops-idle X base (suc f) k z =
      let e : base + ends_cell + (k + 0) ≡ base + ends_cell + k = omega arith in
      let s : base + steps_cell + (k + 0) ≡ base + steps_cell + k = omega arith in
      ap₂ (λ (l : Loop) (r : List Loop). l ∷ r)
      (λ t. record {
        end = to_z w32 ((ap (λ (c : ℕ). get_or X c 0) (sym e) ∙ (z 0 (omega arith)).0) t);
        step = to_z w32 ((ap (λ (c : ℕ). get_or X c 0) (sym s) ∙ (z 0 (omega arith)).1) t);
      })
      (loops-idle X base f (suc k) (λ j h.
      let p : base + ends_cell + (suc k + j) ≡ base + ends_cell + (k + suc j) = omega arith in
      let q : base + steps_cell + (suc k + j) ≡ base + steps_cell + (k + suc j) = omega arith in
      let y = z (suc j) (omega arith) in
      (ap (λ (c : ℕ). get_or X c 0) p ∙ y.0, ap (λ (c : ℕ). get_or X c 0) q ∙ y.1)))

  -- The window holds the arguments, the routine's data, and zeros for the FOR variables.
  pub record FreshIn (X : List ℕ) (base k result : ℕ) (zs : List ℤ) : Type 0 where
    pub routine : numbered R (get_or X (base + routine_cell) 0) ≡ k
    pub starts : List ℤ
    pub words_are : (code_at P k).words ≡ replicate (length zs) (pos 0) ++ starts
    pub holds : Holding X base (zs ++ starts ++ replicate (code_at P k).fors (pos 0))
    pub idle-are : (j : ℕ) → j < (code_at P k).fors → (get_or X (base + ends_cell + (length (code_at P k).words + j)) 0 ≡ 0) × (get_or X (base + steps_cell + (length (code_at P k).words + j)) 0 ≡ 0)
    pub failed : get_or X (base + failed_cell) 0 ≡ 0
    pub result-is : get_or X (base + result_cell) 0 ≡ result

  module _ (X : List ℕ) (base k result : ℕ) (zs : List ℤ) (g : FreshIn X base k result zs) where
    code : Code
    code = code_at P k

    code_is : code_at P (numbered R (get_or X (base + routine_cell) 0)) ≡ code
    unfolding code
    code_is = ap (code_at P) g.routine

    length-is : length (zs ++ g.starts ++ replicate code.fors (pos 0)) ≡ slots_of_call code
    unfolding code
    length-is =
        length-append (zs ++ g.starts) (replicate (code_at P k).fors (pos 0))
        ∙ omega (arith, length-append zs g.starts, length-replicate {A = ℤ} (code_at P k).fors (pos 0), ap length g.words_are, length-append (replicate (length zs) (pos 0)) g.starts, length-replicate {A = ℤ} (length zs) (pos 0))

    starts-are : drop (length zs) code.words ≡ g.starts
    unfolding code
    starts-are = ap (drop (length zs)) g.words_are ∙ drop_at (replicate (length zs) (pos 0)) g.starts (length zs) (length-replicate (length zs) (pos 0))

    pub call-fresh : (Z : List ℕ) → call_in P R X base (code_at P k).start ≡ new_call P k zs (result_in P R Z result)
    unfolding call_in new_call code optionally
    call-fresh Z =
        call-eq (call_in P R X base (code_at P k).start) (new_call P k zs (result_in P R Z result))
        g.routine
        refl
        (ap (λ (c : Code). map (to_z w32) (take (slots_of_call c) (drop base X))) code_is
        ∙ sym (ap (λ (n : ℕ). map (to_z w32) (take n (drop base X))) length-is)
        ∙ g.holds
        ∙ sym (ap (λ (s : List ℤ). zs ++ s ++ replicate (code_at P k).fors (pos 0)) starts-are))
        (ap (λ (c : Code). replicate (length c.words) idle ++ loops_from P R X base c.fors (length c.words)) code_is
        ∙ ap (λ (l : List Loop). replicate (length (code_at P k).words) idle ++ l) (loops-idle X base (code_at P k).fors (length (code_at P k).words) g.idle-are)
        ∙ replicate-append-replicate (length (code_at P k).words) (code_at P k).fors idle)
        (ap optionally g.failed)
        (ap (result_in P R X) g.result-is ∙ result-any P R Z X result)
