-- The next UNDO list as calls are dropped, and the one that is left.
use mathlib.Core.Path.{◌≡◌, refl, sym, ap, subst, ◌∙◌}
use mathlib.Core.Bool.{true, false}
use mathlib.Core.List.{List, [], ◌∷◌}
use mathlib.Core.Option.{none, some}
use Prim.Native.Nat.{ℕ, zero, suc, ◌+◌, ◌-◌, ◌<◌, ◌≤◌}
use native.Mathlib.Omega.{arith}
use lib.Dec.{T, leb}
use lib.ListN.{get_or}
use lib.IntN.{ℤ, pos, nat_abs}
use lib.Signed.{le_z, non_neg}
use mir.Syntax.{w64}
use mir.Val.{Fits, SFits}
use mir.Facts.{to_z-of_z}
use borrow.Author.Tests.{leb-false}
use Rattle.laws.proofs.Tests.{false-true}
use Rattle.paper.specs.Steps.{Program}
use Rattle.paper.specs.States.{Call, with_calls, go_to}
use Rattle.paper.specs.Running.{code_at}
use Rattle.paper.specs.Undoing.{dropping}
use Rattle.store_numbers.proofs.Whole.{read}
use Rattle.store_cells.specs.Cells.{cells_of, Put}
use Rattle.code.specs.Cells.{window_of, place_at, errno_cell, first_window, window_cells}
use Rattle.code.specs.Holds.{optionally}
use Rattle.code.specs.Windows.{waits_cell, call_in, waiting, state_in}
use Rattle.layout.specs.Answers.{first_error}
use Rattle.store_reading.specs.Reading.{cell_values}
use Rattle.std.specs.Prelude.{Some, None}
use Rattle.run_errors.specs.Taken.{Taken, listed}
use Rattle.run_errors.specs.Errors.{HasRoutine, Seeks, Raises}
use Rattle.run_errors.specs.Errors as errors
use Rattle.run_errors.proofs.Cases.{none-case, some-case, positive}
use Rattle.run_errors.proofs.CallsDropped.{word-is, has-routine, seek-first, come, come-above, seek-up, none-listed, some-listed, errno-here, raised-cast, raised-sub, raised-small}
use Rattle.run_machine.specs.Machine.{Here}
use Rattle.run_machine.proofs.Living.{live-next}
use Rattle.run_machine.proofs.Elsewhere.{caller}
use Rattle.run_machine.proofs.Current.{routine-holds, told-error}
use Rattle.run_undoing.specs.Dropping.{undo_at, Stands, Falls, gone, begins, Dropped, Quits, without, raises, Notes, Noted, Left}

-- ---- what is dropped
module _ (P : Program) (c : Call) (r : List Call) where
  dropped-is : dropping P (c ∷ r) ≡ (elim (code_at P c.routine).undo as (λ _. List Call) [ none ↦ dropping P r | some u ↦ go_to u c ∷ r ])
  unfolding dropping
  dropped-is = refl

  dropping-on : (code_at P c.routine).undo ≡ none → dropping P (c ∷ r) ≡ dropping P r
  dropping-on e = dropped-is ∙ none-case (code_at P c.routine).undo (dropping P r) (λ u. go_to u c ∷ r) e

  dropping-here : (u : ℕ) → (code_at P c.routine).undo ≡ some u → dropping P (c ∷ r) ≡ go_to u c ∷ r
  dropping-here u e = dropped-is ∙ some-case (code_at P c.routine).undo u (dropping P r) (λ u. go_to u c ∷ r) e

dropping-nobody : (P : Program) → dropping P [] ≡ []
unfolding dropping
dropping-nobody P = refl

zero-list : optionally 0 ≡ none
unfolding optionally
zero-list = refl

-- ---- the search
-- the calls below the window b have no UNDO list; the one there waits at some step, or is the newest
pub record Below (code values : List ℕ) (base i b : ℕ) (h : Here code values base i) : Type 0 where
  pub s : ℕ
  pub seeks : Seeks (List Call) (dropping h.P) h.P h.R (cells_of values) h.d i b s

abbrev pub Searching : (code values : List ℕ) (base b : ℕ) → Type 0
Searching code values base b = (i : ℕ) (h : Here code values base i) → Below code values base i b h

pub stands-routine : (code values : List ℕ) (base : ℕ) → Stands code values base → HasRoutine code values base
stands-routine code values base s = has-routine code values base s.i s.here

pub search-start : (code values : List ℕ) (base : ℕ) → Searching code values base base
search-start code values base i h = record { s = i; seeks = seek-first (List Call) dropping code values base i h }

module _ (code values : List ℕ) (base b : ℕ) (k : Searching code values base b) where
  abbrev u : ℕ
  u = undo_at code values b

  module _ (i : ℕ) (h : Here code values base i) where
    abbrev q : Seeks (List Call) (dropping h.P) h.P h.R (cells_of values) h.d i b (k i h).s
    q = (k i h).seeks

    abbrev come-here : Here code values b (k i h).s
    come-here = come (List Call) dropping code values base i b (k i h).s h q

    -- the list of the call that was come to
    undo-is : (code_at h.P (call_in h.P h.R (cells_of values) (window_of q.e) (k i h).s).routine).undo ≡ optionally u
    unfolding call_in
    undo-is =
        (routine-holds code values b (k i h).s come-here).undo-is
        ∙ ap (λ (w : ℕ). optionally (place_at (cells_of code) (w + 1))) (sym (word-is code values b (k i h).s come-here))

    -- none: the next call up
    above-here : u ≡ 0 → (b ≡ first_window → ⊥)
        → Seeks (List Call) (dropping h.P) h.P h.R (cells_of values) h.d i (b - window_cells) (get_or (cells_of values) (b - window_cells + waits_cell) 0)
    above-here z d =
        seek-up (List Call) dropping code values base i b (k i h).s h q d
        (dropping-on h.P (call_in h.P h.R (cells_of values) (window_of q.e) (k i h).s) (waiting h.P h.R (cells_of values) q.e)
        (undo-is ∙ ap optionally z ∙ zero-list))

  pub search-sub : Stands code values base → (b ≡ first_window → ⊥) → window_cells ≤ b
  search-sub s d = omega (arith, come-above (List Call) dropping code values base s.i b (k s.i s.here).s s.here (q s.i s.here) d)

  pub search-less : Stands code values base → (b ≡ first_window → ⊥) → b - window_cells < b
  search-less s d = omega (arith, come-above (List Call) dropping code values base s.i b (k s.i s.here).s s.here (q s.i s.here) d)

  -- the call that was come to
  pub search-routine : Stands code values base → HasRoutine code values b
  search-routine s = has-routine code values b (k s.i s.here).s (come-here s.i s.here)

  module _ (n : listed (undo_at code values b) ≡ None) (d : b ≡ first_window → ⊥) where
    pub search-on : Searching code values base (b - window_cells)
    search-on i h = record { s = get_or (cells_of values) (b - window_cells + waits_cell) 0; seeks = above-here i h (none-listed (undo_at code values b) n) d }

  -- no call is left
  pub search-none : listed (undo_at code values b) ≡ None → b ≡ first_window → Dropped code values base None
  unfolding waiting state_in
  search-none n m = record {
    does = λ i h steps out.
        let z : undo_at code values b ≡ 0 = none-listed (undo_at code values b) n in
        let e : (q i h).e ≡ 0 = omega (arith, (q i h).base-is) in
        gone refl
        (ap (λ (cs : List Call). with_calls cs (state_in h.P h.R (cells_of values) h.d i steps out))
        ((q i h).rest
        ∙ dropping-on h.P (call_in h.P h.R (cells_of values) (window_of (q i h).e) (k i h).s) (waiting h.P h.R (cells_of values) (q i h).e) (undo-is i h ∙ ap optionally z ∙ zero-list)
        ∙ ap (λ (j : ℕ). dropping h.P (waiting h.P h.R (cells_of values) j)) e
        ∙ dropping-nobody h.P));
  }

  -- its list begins
  pub search-found : (u : ℕ) → listed (undo_at code values b) ≡ Some u → Dropped code values base (Some (record { next = u; base = b }))
  unfolding state_in call_in
  search-found u n = record {
    does = λ i h steps out.
        let q' = some-listed (undo_at code values b) u n in
        let d : u ≡ 0 → ⊥ = q'.1 in
        let is : (code_at h.P (call_in h.P h.R (cells_of values) (window_of (q i h).e) (k i h).s).routine).undo ≡ some u = undo-is i h ∙ ap optionally (sym q'.0) ∙ positive u d in
        begins (q i h).e (record { next = u; base = b }) refl (omega (arith, d)) (q i h).base-is (omega (arith, (q i h).up, h.deep))
        (live-next h.P h.R (cells_of values) (q i h).e (k i h).s u (q i h).live ((routine-holds code values b (k i h).s (come-here i h)).closed.undoes u is))
        (ap (λ (cs : List Call). with_calls cs (state_in h.P h.R (cells_of values) h.d i steps out))
        ((q i h).rest ∙ dropping-here h.P (call_in h.P h.R (cells_of values) (window_of (q i h).e) (k i h).s) (waiting h.P h.R (cells_of values) (q i h).e) u is));
  }

-- ---- a list is left
-- what the tests say of the answer
error-number : (r : ℤ) → SFits w64 r → (e : ℕ) → r ≡ pos (first_error + e) → nat_abs (read r) - first_error ≡ e
error-number r f e z = ap (λ (x : ℤ). nat_abs x - first_error) (to_z-of_z f ∙ z) ∙ omega arith

not-raised : {A : Type 0} (r : ℤ) → SFits w64 r → (e : ℕ) → le_z (pos first_error) (read r) ≡ false → r ≡ pos (first_error + e) → A
not-raised r f e h z =
    let g : leb first_error (first_error + e) ≡ false = rw (to_z-of_z f, z) at h in
    absurd (omega (arith, leb-false first_error (first_error + e) g))

quits-raises : (r : ℤ) → SFits w64 r → Quits r → le_z (pos first_error) (read r) ≡ true → Raises r
quits-raises r f (without t) h = false-true (sym (told-error r f h) ∙ t)
quits-raises r f (raises e l z) h = errors.raises e l z

module _ (values : List ℕ) (r : ℤ) (f : SFits w64 r) (n : Notes values r) where
  module _ (h : le_z (pos first_error) (read r) ≡ true) where
    abbrev a : Raises r
    a = quits-raises r f n.quits h

    pub note-cast : T (non_neg (read r)) × Fits w64 (nat_abs (read r))
    note-cast = raised-cast r f a h

    pub note-sub : first_error ≤ nat_abs (read r)
    note-sub = raised-sub r f a h

    pub note-small : nat_abs (read r) - first_error < cell_values
    note-small = raised-small r f a h

    pub noted-error : (after : List ℕ) → Put values after errno_cell (nat_abs (read r) - first_error) → Noted values after r
    noted-error after p = record {
      same = λ t. false-true (sym (told-error r f h) ∙ t);
      errno = λ e z. subst (Put values after errno_cell) (error-number r f e z) p;
    }

  pub noted-none : le_z (pos first_error) (read r) ≡ false → Noted values values r
  noted-none h = record {
    same = λ t. refl;
    errno = λ e z. not-raised r f e h z;
  }

-- the call stands as it stood
pub noted_here : (code values after : List ℕ) (base i : ℕ) (r : ℤ) → Noted values after r → Quits r → Here code values base i → Here code after base i
noted_here code values after base i r n (without t) h = subst (λ (x : List ℕ). Here code x base i) (sym (n.same t)) h
noted_here code values after base i r n (raises e l z) h = errno-here code values after base i e (n.errno e z) h l

module _ (code values after : List ℕ) (base : ℕ) (r : ℤ) (f : SFits w64 r) (noted : Noted values after (read r)) where
  n : Noted values after r
  n = subst (Noted values after) (to_z-of_z f) noted

  pub left-main : base ≡ first_window → Left code values after base r None
  unfolding waiting state_in
  left-main m = record {
    notes = n;
    does = λ i h steps out.
        let e : h.d ≡ 0 = omega (arith, h.base-is) in
        gone refl
        (ap (λ (cs : List Call). with_calls cs (state_in h.P h.R (cells_of after) h.d i steps out))
        (ap (λ (j : ℕ). dropping h.P (waiting h.P h.R (cells_of after) j)) e ∙ dropping-nobody h.P));
  }

  module _ (m : base ≡ first_window → ⊥) where
    above : (i : ℕ) (h : Here code after base i) (e : ℕ) → h.d ≡ suc e → Here code after (base - window_cells) (get_or (cells_of after) (base - window_cells + waits_cell) 0)
    above i h e z = caller h e z (base - window_cells) (get_or (cells_of after) (base - window_cells + waits_cell) 0) (omega (arith, h.base-is)) refl

    stands-above : (i : ℕ) (h : Here code after base i) (d : ℕ) → h.d ≡ d → Stands code after (base - window_cells)
    stands-above i h zero z = absurd (m (h.base-is ∙ ap window_of z))
    stands-above i h (suc e) z = record { i = get_or (cells_of after) (base - window_cells + waits_cell) 0; here = above i h e z }

    pub left-stands : Stands code values base → Quits r → Stands code after (base - window_cells)
    left-stands s q = let h = noted_here code values after base s.i r n q s.here in stands-above s.i h h.d refl

    pub left-sub : Stands code values base → window_cells ≤ base
    left-sub s = sub s.here.d s.here.base-is
      where
        sub : (d : ℕ) → base ≡ window_of d → window_cells ≤ base
        sub zero z = absurd (m z)
        sub (suc d) z = omega arith

    module _ (t : Taken) (w : Dropped code after (base - window_cells) t) where
      falls : (i : ℕ) (h : Here code after base i) (steps : ℕ) (out : List ℕ) (d : ℕ) → h.d ≡ d
          → Falls h.P h.R (cells_of after) steps out t (with_calls (dropping h.P (waiting h.P h.R (cells_of after) h.d)) (state_in h.P h.R (cells_of after) h.d i steps out))
      unfolding waiting state_in above
      falls i h steps out zero z = absurd (m (h.base-is ∙ ap window_of z))
      falls i h steps out (suc e) z =
          let b : base - window_cells ≡ window_of e = omega (arith, h.base-is) in
          let q : call_in h.P h.R (cells_of after) (window_of e) (get_or (cells_of after) (base - window_cells + waits_cell) 0) ∷ waiting h.P h.R (cells_of after) e ≡ waiting h.P h.R (cells_of after) h.d =
          ap (λ (j : ℕ). call_in h.P h.R (cells_of after) (window_of e) (get_or (cells_of after) (j + waits_cell) 0) ∷ waiting h.P h.R (cells_of after) e) b ∙ sym (ap (waiting h.P h.R (cells_of after)) z) in
          subst (λ (cs : List Call). Falls h.P h.R (cells_of after) steps out t (with_calls (dropping h.P cs) (state_in h.P h.R (cells_of after) h.d i steps out))) q
          (w.does (get_or (cells_of after) (base - window_cells + waits_cell) 0) (above i h e z) steps out)

      pub left-on : Left code values after base r t
      left-on = record { notes = n; does = λ i h steps out. falls i h steps out h.d refl }
