-- A word that the newest call refers to: its cell, its location, and what a store to it does.
use mathlib.Core.Path.{◌≡◌, refl, sym, ap, ap₂, ◌∙◌}
use mathlib.Core.List.{List}
use Prim.Native.Nat.{ℕ, suc, ◌+◌, ◌-◌, ◌/◌, ◌%◌, ◌<◌, ◌≤◌}
use native.Mathlib.Omega.{arith}
use lib.ListN.{length, set}
use mir.Syntax.{w32}
use mir.Val.{to_z}
use borrow.Author.Tests.{lt-ltb, le-ltb}
use Rattle.paper.specs.Terms.{Ref, of_module, of_routine, Memory, at, fails}
use Rattle.paper.specs.Steps.{Program, Spot, scalar, element_of}
use Rattle.paper.specs.States.{Location, call_slot, location_of, State, store_at, Effect, failing, with_spot}
use Rattle.code.specs.Cells.{window_of, first_window, window_cells, errno_cell}
use Rattle.code.specs.Steps.{Head, numbered}
use Rattle.code.specs.Windows.{routine_cell, written_cell, location_in, state_in}
use Rattle.store_evaluation.specs.Answers.{call_slots}
use Rattle.run_machine.specs.Live.{slots_of_call, code_of_call, cell_of_call, Live}
use Rattle.run_targets.specs.Targets.{ref_cell, RefFits, spot_in}
use Rattle.run_machine.proofs.Agreeing.{Same, set_same}
use Rattle.paper.specs.Answer.{store_words}
use Rattle.run_machine.proofs.States.{Roomy, depth_is, on-top-word, module-word, call-word}
use Rattle.run_machine.proofs.Living.{live-module, live-call}

-- ---- where a spot is
located-same : (r w : Ref) → at r ≡ at w → r ≡ w
located-same r w e = cc

module _ (M : Memory) (S : State) (go : Location → Effect) where
  pub spot-found : (s : Spot) (w : Ref) → spot_in M s ≡ at w → with_spot M s S go ≡ go (location_of (length S.calls) w)
  unfolding spot_in with_spot
  spot-found (scalar r) w e = ap (λ (x : Ref). go (location_of (length S.calls) x)) (located-same r w e)
  spot-found (element_of r n t) w e = rw (e, with_spot)

  pub spot-lost : (s : Spot) (f : ℕ) → spot_in M s ≡ fails f → with_spot M s S go ≡ failing f S
  unfolding spot_in with_spot
  spot-lost (scalar r) f e = let z : ◌≡◌ {A = ℕ} 0 1 = cc in absurd (omega arith)
  spot-lost (element_of r n t) f e = rw (e, with_spot)

-- ---- its cell
module _ (P : Program) (R : List Head) (X : List ℕ) (d : ℕ) (g : Roomy P X d) where
  call-room : slots_of_call (code_of_call P R X d) ≤ call_slots
  call-room = g.calls (numbered R (cell_of_call P R X d routine_cell))

  abbrev pub FitsHere : Ref → Type 0
  FitsHere w = RefFits (length P.words) (slots_of_call (code_of_call P R X d)) w 1

  pub ref-inside : (w : Ref) → FitsHere w → ref_cell (window_of d) w < store_words
  unfolding RefFits ref_cell
  ref-inside (of_module k) h = omega (arith, g.words)
  ref-inside (of_routine k) h = omega (arith, call-room, g.deep)

  pub ref-word : (w : Ref) → FitsHere w → (v i steps : ℕ) (out : List ℕ)
      → state_in P R (set X (ref_cell (window_of d) w) v) d i steps out ≡ store_at (location_of (length (state_in P R X d i steps out).calls) w) (to_z w32 v) (state_in P R X d i steps out)
  unfolding RefFits ref_cell location_of
  ref-word (of_module k) h v i steps out = module-word P R X d g k v i steps out (omega arith)
  ref-word (of_routine k) h v i steps out =
      call-word P R X d g k v i steps out (omega arith)
      ∙ sym (on-top-word P R X d i steps out k (to_z w32 v))
      ∙ ap (λ (n : ℕ). store_at (call_slot n k) (to_z w32 v) (state_in P R X d i steps out)) (sym (depth_is P R X d i steps out))

  pub ref-live : (w : Ref) → FitsHere w → (v i : ℕ) → Live P R X d i → Live P R (set X (ref_cell (window_of d) w) v) d i
  unfolding RefFits ref_cell
  ref-live (of_module k) h v i l = live-module P R X d k v i l (omega (arith, g.words))
  ref-live (of_routine k) h v i l = live-call P R X d (window_of d + k) v i l d k (omega (arith, call-room)) refl

  pub ref-kept : (w : Ref) → FitsHere w → (v c : ℕ) → written_cell ≤ c → c < errno_cell → Same X (set X (ref_cell (window_of d) w) v) c
  unfolding RefFits ref_cell
  ref-kept (of_module k) h v c a b = set_same X k v c (λ q. omega (arith, g.words))
  ref-kept (of_routine k) h v c a b = set_same X (window_of d + k) v c (λ q. omega (arith, call-room))

  pub ref-location : (w : Ref) → FitsHere w → location_in P R X (ref_cell (window_of d) w) ≡ location_of (suc d) w
  unfolding RefFits ref_cell location_in location_of
  ref-location (of_module k) h = rw (lt-ltb k first_window (omega (arith, g.words)), location_in)
  ref-location (of_routine k) h =
      let a : (window_of d + k - first_window) / window_cells + 1 ≡ suc d = omega (arith, call-room) in
      let b : (window_of d + k - first_window) % window_cells ≡ k = omega (arith, call-room) in
      rw (le-ltb (window_of d + k) first_window (omega arith), location_in) (ap₂ call_slot a b)
