-- What is kept of `Live` as the value store changes: it is told by few cells.
use mathlib.Core.Path.{◌≡◌, sym, ap, subst, ◌∙◌}
use mathlib.Core.Bool.{true}
use mathlib.Core.List.{List}
use Prim.Native.Nat.{ℕ, zero, suc, ◌+◌, ◌-◌, ◌<◌, ◌≤◌}
use native.Mathlib.Omega.{arith}
use lib.ListN.{length, get_or, set}
use lib.Seq.{get_or-set_same}
use Rattle.paper.specs.Steps.{Code, Program}
use Rattle.paper.specs.Running.{code_at, step_named}
use Rattle.code.specs.Cells.{window_of, errno_cell}
use Rattle.code.specs.Steps.{Head, no_head, numbered}
use Rattle.code.specs.Closed.{is_named}
use Rattle.code.specs.Windows.{routine_cell, waits_cell, after_cell, failed_cell, result_cell, written_cell}
use Rattle.store_evaluation.specs.Answers.{first_negative}
use Rattle.run_machine.specs.Live.{slots_of_call, cell_of_call, code_of_call, ResultFits, nowhere, in_module, in_caller, FailedFits, none_failed, has_failed, Sane, Waits, Below, Live}
use Rattle.run_machine.proofs.Agreeing.{Same, SameIn, call_cells, set_same}

module _ (P : Program) (R : List Head) (X Y : List ℕ) where
  -- the call with e callers is of the same routine
  abbrev pub SameRoutine : (e : ℕ) → Type 0
  SameRoutine e = Same X Y (window_of e + routine_cell)

  pub routine-code : (e : ℕ) → SameRoutine e → code_of_call P R Y e ≡ code_of_call P R X e
  routine-code e s = ap (λ (r : ℕ). code_at P (numbered R r)) s

  pub fits-same : (e r : ℕ) → ((c : ℕ) → e ≡ suc c → SameRoutine c) → ResultFits P R X e r → ResultFits P R Y e r
  fits-same e r s (nowhere z) = nowhere z
  fits-same e r s (in_module k h z) = in_module k h z
  fits-same e r s (in_caller c k q h z) = in_caller c k q (subst (λ (w : Code). k < slots_of_call w) (sym (routine-code c (s c q))) h) z

  pub failed-same : (e f : ℕ) → SameRoutine e → FailedFits P R X e f → FailedFits P R Y e f
  failed-same e f s (none_failed z) = none_failed z
  failed-same e f s (has_failed h) = has_failed (subst (λ (w : Code). is_named w.steps f ≡ true) (sym (routine-code e s)) h)

  -- a live call, but for its failed step and its result
  module _ (e : ℕ) (same : SameRoutine e) (s : Sane P R X e) where
    pub sane-with : FailedFits P R Y e (cell_of_call P R Y e failed_cell) → ResultFits P R Y e (cell_of_call P R Y e result_cell) → Sane P R Y e
    sane-with f r = record {
      routine = subst (λ (w : ℕ). numbered R w < length R) (sym same) s.routine;
      word = ap (λ (w : ℕ). (get_or R (numbered R w) no_head).word) same ∙ s.word ∙ sym same;
      failed = f;
      result = r;
    }

    failed-fits : Same X Y (window_of e + failed_cell) → FailedFits P R Y e (cell_of_call P R Y e failed_cell)
    failed-fits f = failed-same e (cell_of_call P R Y e failed_cell) same (subst (FailedFits P R X e) (sym f) s.failed)

    module _ (result : Same X Y (window_of e + result_cell)) (caller : (c : ℕ) → e ≡ suc c → SameRoutine c) where
      result_fits : ResultFits P R Y e (cell_of_call P R Y e result_cell)
      result_fits = fits-same e (cell_of_call P R Y e result_cell) caller (subst (ResultFits P R X e) (sym result) s.result)

      pub sane-same : Same X Y (window_of e + failed_cell) → Sane P R Y e
      sane-same f = sane-with (failed-fits f) result_fits

      -- another failed step
      pub sane-failed : FailedFits P R Y e (cell_of_call P R Y e failed_cell) → Sane P R Y e
      sane-failed f = sane-with f result_fits

  -- the cells that tell what a live call is
  abbrev pub SameMarks : (e : ℕ) → Type 0
  SameMarks e = SameIn X Y (window_of e + routine_cell) (window_of e + call_cells)

  pub waits-same : (e : ℕ) → ((a : ℕ) → a ≤ e → SameMarks a) → Waits P R X e → Waits P R Y e
  waits-same e s w =
      let r : SameRoutine e = s e (omega arith) (window_of e + routine_cell) (omega arith) (omega arith) in
      let q : Same X Y (window_of e + waits_cell) = s e (omega arith) (window_of e + waits_cell) (omega arith) (omega arith) in
      record {
        sane = sane-same e r w.sane (s e (omega arith) (window_of e + result_cell) (omega arith) (omega arith))
            (λ c z. s c (omega arith) (window_of c + routine_cell) (omega arith) (omega arith)) (s e (omega arith) (window_of e + failed_cell) (omega arith) (omega arith));
        waits = ap (λ (c : Code). is_named c.steps (cell_of_call P R Y e waits_cell)) (routine-code e r) ∙ ap (is_named (code_of_call P R X e).steps) q ∙ w.waits;
        after = s e (omega arith) (window_of e + after_cell) (omega arith) (omega arith) ∙ w.after
            ∙ sym (ap (λ (c : Code). (step_named c.steps (cell_of_call P R Y e waits_cell)).after) (routine-code e r) ∙ ap (λ (n : ℕ). (step_named (code_of_call P R X e).steps n).after) q);
      }

  pub below-same : (d : ℕ) → ((a : ℕ) → a < d → SameMarks a) → Below P R X d → Below P R Y d
  unfolding Below
  below-same zero s b = tt
  below-same (suc d) s b = (waits-same d (λ a h. s a (omega arith)) b.0, below-same d (λ a h. s a (omega arith)) b.1)

  -- the newest call too, but for what it waits for
  pub live_same : (d n : ℕ) → ((a : ℕ) → a < d → SameMarks a) → Same X Y (window_of d + routine_cell) → Same X Y (window_of d + failed_cell) → Same X Y (window_of d + result_cell) → Same X Y errno_cell
      → Live P R X d n → Live P R Y d n
  live_same d n s r f t e l = record {
    top = sane-same d r l.top t (λ c z. s c (omega arith) (window_of c + routine_cell) (omega arith) (omega arith)) f;
    named = ap (λ (c : Code). is_named c.steps n) (routine-code d r) ∙ l.named;
    below = below-same d s l.below;
    errno = subst (λ (w : ℕ). w < first_negative) (sym e) l.errno;
  }

module _ (P : Program) (R : List Head) (X : List ℕ) (d : ℕ) where
  -- another next step
  pub live-next : (i n : ℕ) → Live P R X d i → is_named (code_of_call P R X d).steps n ≡ true → Live P R X d n
  live-next i n l h = record { top = l.top; named = h; below = l.below; errno = l.errno }

  -- the caller goes on
  pub live-left : (e i : ℕ) → d ≡ suc e → Live P R X d i → Waits P R X e × Below P R X e
  unfolding Below
  live-left e i q l = subst (Below P R X) q l.below

  -- the caller is live too, at the call that it waits for
  pub live-caller : (e i : ℕ) → d ≡ suc e → Live P R X d i → (b w : ℕ) → b ≡ window_of e → w ≡ get_or X (b + waits_cell) 0 → Live P R X e w
  live-caller e i q l b w eb ew =
      let k = live-left e i q l in
      subst (Live P R X e) (sym (ew ∙ ap (λ (x : ℕ). get_or X (x + waits_cell) 0) eb)) (record { top = k.0.sane; named = k.0.waits; below = k.1; errno = l.errno })

  -- a store that differs past the newest call's window alone
  pub live-past : (Y : List ℕ) → SameIn X Y 0 (window_of (suc d)) → (i : ℕ) → Live P R X d i → Live P R Y d i
  live-past Y s i l =
      live_same P R X Y d i (λ a h c x y. s c (omega arith) (omega arith)) (s (window_of d + routine_cell) (omega arith) (omega arith)) (s (window_of d + failed_cell) (omega arith) (omega arith))
      (s (window_of d + result_cell) (omega arith) (omega arith)) (s errno_cell (omega arith) (omega arith)) l

  -- one cell
  module _ (c v i : ℕ) (l : Live P R X d i) where
    -- that tells nothing of a live call, and is not ERRNO
    pub live-set : (c ≡ errno_cell → ⊥) → ((e j : ℕ) → e ≤ d → routine_cell ≤ j → j < call_cells → c ≡ window_of e + j → ⊥) → Live P R (set X c v) d i
    live-set n o =
        let m : (e j : ℕ) → e ≤ d → routine_cell ≤ j → j < call_cells → Same X (set X c v) (window_of e + j) = λ e j a x y. set_same X c v (window_of e + j) (λ z. o e j a x y (sym z)) in
        live_same P R X (set X c v) d i
        (λ a h k x y. set_same X c v k (λ z. o a (k - window_of a) (omega arith) (omega arith) (omega arith) (omega arith)))
        (m d routine_cell (omega arith) (omega arith) (omega arith)) (m d failed_cell (omega arith) (omega arith) (omega arith)) (m d result_cell (omega arith) (omega arith) (omega arith))
        (set_same X c v errno_cell (λ z. n (sym z))) l

    -- a word of the module
    pub live-module : c < window_of 0 → Live P R (set X c v) d i
    live-module h = live-set (λ z. omega arith) (λ e j a x y z. omega arith)

    -- a word or a loop of a live call
    pub live-call : (e j : ℕ) → j < routine_cell → c ≡ window_of e + j → Live P R (set X c v) d i
    live-call e j h q = live-set (λ z. omega arith) (λ a k b x y z. omega arith)

    -- bytes written, inputs used
    pub live-run : written_cell ≤ c → c < errno_cell → Live P R (set X c v) d i
    live-run x h = live-set (λ z. omega arith) (λ a k b y w z. omega arith)

    -- what the newest call waits for
    pub live-waits : (j : ℕ) → waits_cell ≤ j → j ≤ after_cell → c ≡ window_of d + j → Live P R (set X c v) d i
    live-waits j x y q =
        live_same P R X (set X c v) d i (λ a h k m n. set_same X c v k (λ z. omega arith)) (set_same X c v (window_of d + routine_cell) (λ z. omega arith)) (set_same X c v (window_of d + failed_cell) (λ z. omega arith))
        (set_same X c v (window_of d + result_cell) (λ z. omega arith)) (set_same X c v errno_cell (λ z. omega arith)) l

    -- ERRNO
    pub live-errno : c ≡ errno_cell → c < length X → v < first_negative → Live P R (set X c v) d i
    live-errno q long h = record {
      top = sane-same P R X (set X c v) d (other d routine_cell (omega arith)) l.top (other d result_cell (omega arith)) (λ a z. other a routine_cell (omega arith)) (other d failed_cell (omega arith));
      named = ap (λ (w : Code). is_named w.steps i) (routine-code P R X (set X c v) d (other d routine_cell (omega arith))) ∙ l.named;
      below = below-same P R X (set X c v) d (λ a m k x y. set_same X c v k (λ z. omega arith)) l.below;
      errno = subst (λ (w : ℕ). w < first_negative) (sym (ap (λ (w : ℕ). get_or (set X c v) w 0) (sym q) ∙ get_or-set_same X c v 0 long)) h;
    }
      where
        other : (e j : ℕ) → j < call_cells → Same X (set X c v) (window_of e + j)
        other e j m = set_same X c v (window_of e + j) (λ z. omega arith)

    -- the failed step of the newest call, none or a step of its routine
    pub live-failed : c ≡ window_of d + failed_cell → c < length X → FailedFits P R X d v → Live P R (set X c v) d i
    live-failed q long f =
        let r : Same X (set X c v) (window_of d + routine_cell) = set_same X c v (window_of d + routine_cell) (λ z. omega arith) in
        let is : cell_of_call P R (set X c v) d failed_cell ≡ v = ap (λ (w : ℕ). get_or (set X c v) w 0) (sym q) ∙ get_or-set_same X c v 0 long in
        record {
          top = sane-failed P R X (set X c v) d r l.top (set_same X c v (window_of d + result_cell) (λ z. omega arith)) (λ a z. set_same X c v (window_of a + routine_cell) (λ y. omega arith))
              (failed-same P R X (set X c v) d (cell_of_call P R (set X c v) d failed_cell) r (subst (FailedFits P R X d) (sym is) f));
          named = ap (λ (w : Code). is_named w.steps i) (routine-code P R X (set X c v) d r) ∙ l.named;
          below = below-same P R X (set X c v) d (λ a m k x y. set_same X c v k (λ z. omega arith)) l.below;
          errno = subst (λ (w : ℕ). w < first_negative) (sym (set_same X c v errno_cell (λ z. omega arith))) l.errno;
        }
