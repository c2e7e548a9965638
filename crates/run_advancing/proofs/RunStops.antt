-- What the answer of a step says that ends the run.
use mathlib.Core.Path.{◌≡◌, refl, sym, ap, ap₂, subst, ◌∙◌}
use mathlib.Core.Bool.{Bool, true, false}
use mathlib.Core.List.{List}
use Prim.Native.Nat.{ℕ, ◌+◌, ◌-◌, ◌*◌, ◌/◌, ◌%◌, ◌<◌, ◌≤◌}
use native.Mathlib.Omega.{arith}
use lib.Dec.{eqb, ltb}
use lib.ListN.{length, get_or-eq_default}
use borrow.Author.Tests.{ne_eqb, lt-ltb, le-ltb}
use Rattle.laws.proofs.Tests.{by_less}
use Rattle.std.specs.Prelude.{if◌then◌else◌}
use Rattle.store_cells.specs.Cells.{cells_of}
use Rattle.store_cells.proofs.Laws.{length-words}
use Rattle.code.specs.Cells.{place_in, place_at}
use Rattle.run_machine.specs.Machine.{lacked_by}
use Rattle.layout.specs.Answers.{answers, ended, lacked, input_lacked, room_lacked}
use Rattle.layout.specs.Rules.{beyond_depth, no_room, main_returned}
use Rattle.layout.specs.declared.endings.Ending.{Ending}
use Rattle.layout.specs.declared.endings.Ending.TheVariants.{MainReturned, Exited, Unhandled, FellOff, StepsSpent, BeyondDepth, NoInput, NoRoom, Aborted, UndoSpent}
use Rattle.layout.specs.Endings.{ending_number, ends_step}
use Rattle.layout.proofs.EndingNumbers.{step-low}
use Rattle.run_advancing.specs.Turns.{halt, made_by, lack_by, Stops, by_step, by_lack, Stopped}

pub no_place : (code : List ℕ) (i : ℕ) → length code % 8 ≡ 0 → length code / 8 ≤ i → 0 ≡ place_at (cells_of code) i
no_place code i w h = sym (ap place_in (get_or-eq_default (cells_of code) 0 {n = i * 2 + 1} (omega (arith, length-words code))))

lacked-is : (n w answer : ℕ) → beyond_depth ≤ n → answer ≡ lacked_by n + w → answer ≡ lacked + answers * (n - beyond_depth) + w
unfolding lacked_by
lacked-is n w answer h e = e

-- ---- the ending that an answer tells
made-step : (e : Ending) → ends_step e ≡ true → (answer : ℕ) → answer ≡ ended + ending_number e → made_by answer ≡ e
made-step MainReturned t a q = ap made_by q
made-step Exited t a q = ap made_by q
made-step Unhandled t a q = cc
made-step FellOff t a q = ap made_by q
made-step StepsSpent t a q = cc
made-step BeyondDepth t a q = cc
made-step NoInput t a q = cc
made-step NoRoom t a q = cc
made-step Aborted t a q = cc
made-step UndoSpent t a q = cc

lack-number : (n w answer : ℕ) → beyond_depth ≤ n → n ≤ no_room → w < answers → answer ≡ lacked_by n + w → ending_number (lack_by answer) ≡ n
lack-number n w answer a b c q =
    let g = lacked-is n w answer a q in
    by_less answer input_lacked
    (λ h. ap (λ (t : Bool). ending_number (if t then BeyondDepth else if ltb answer room_lacked then NoInput else NoRoom)) (lt-ltb answer input_lacked h) ∙ omega arith)
    (λ h. ap (λ (t : Bool). ending_number (if t then BeyondDepth else if ltb answer room_lacked then NoInput else NoRoom)) (le-ltb answer input_lacked h)
    ∙ by_less answer room_lacked
    (λ k. ap (λ (t : Bool). ending_number (if t then NoInput else NoRoom)) (lt-ltb answer room_lacked k) ∙ omega arith)
    (λ k. ap (λ (t : Bool). ending_number (if t then NoInput else NoRoom)) (le-ltb answer room_lacked k) ∙ omega arith))

module _ (code : List ℕ) (answer : ℕ) where
  pub stops-whole : Stops code answer → length code % 8 ≡ 0
  stops-whole (by_step n h e s) = omega arith
  stops-whole (by_lack n w a b c e s) = omega arith

  module _ (i : ℕ) where
    pub stopped-main : answer < lacked → answer ≡ ended + main_returned → Stopped code i answer (halt MainReturned 0 true)
    stopped-main k q = record {
      by-step = λ e s z.
          let m : MainReturned ≡ e = sym (ap made_by q) ∙ made-step e s answer z in
          subst (λ (x : Ending). halt MainReturned 0 true ≡ halt x (if eqb (ending_number x) main_returned then 0 else place_at (cells_of code) i) true) m refl;
      by-lack = λ n w a b c z. absurd (omega (arith, lacked-is n w answer a z));
    }

    pub stopped-step : answer < lacked → (answer ≡ ended + main_returned → ⊥) → (x : Ending) → x ≡ made_by answer → (p : ℕ) → p ≡ place_at (cells_of code) i → Stopped code i answer (halt x p true)
    stopped-step k d x ex p ep = record {
      by-step = λ e s q.
          let t : eqb (ending_number e) main_returned ≡ false = ne_eqb (ending_number e) main_returned (λ z. d (omega (arith, q, z))) in
          ap₂ (λ (y : Ending) (z : ℕ). halt y z true) (ex ∙ made-step e s answer q) (ep ∙ sym (ap (λ (b : Bool). if b then 0 else place_at (cells_of code) i) t));
      by-lack = λ n w a b c q. absurd (omega (arith, lacked-is n w answer a q));
    }

    pub stopped-lack : lacked ≤ answer → (x : Ending) → x ≡ lack_by answer → (p : ℕ) → p ≡ place_at (cells_of code) (answer % answers) → Stopped code i answer (halt x p false)
    stopped-lack k x ex p ep = record {
      by-step = λ e s q. absurd (omega (arith, step-low e s));
      by-lack = λ n w a b c q.
          let g = lacked-is n w answer a q in
          let v : answer % answers ≡ w = omega arith in
          (x, ap ending_number ex ∙ lack-number n w answer a b c q, ap (λ (y : ℕ). halt x y false) (ep ∙ ap (place_at (cells_of code)) v));
    }
