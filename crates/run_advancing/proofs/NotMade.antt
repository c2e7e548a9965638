-- A step that is not made: a run ends, or a call takes the error; of an aborted one the UNDO list is left.
use mathlib.Core.Path.{◌≡◌, refl, sym, ap, ap₂, subst, ◌∙◌}
use mathlib.Core.Bool.{Bool, true, false}
use mathlib.Core.List.{List, [], ◌∷◌}
use Prim.Native.Nat.{ℕ, ◌+◌, ◌*◌, ◌<◌, ◌≤◌}
use native.Mathlib.Omega.{arith}
use lib.Dec.{T}
use lib.ListN.{length, get_or}
use lib.Seq.{get_or-set_other}
use lib.IntN.{ℤ, pos, nat_abs}
use lib.Signed.{lt_z, non_neg}
use mir.Syntax.{w64}
use mir.Val.{Fits, SFits}
use mir.Facts.{to_z-of_z}
use borrow.Author.Tests.{lt-ltb}
use Rattle.paper.specs.States.{Call, State, Effect, with_calls, with_errno, counted, lacking}
use Rattle.paper.specs.Running.{Outcome, goes_on, stopping}
use Rattle.paper.specs.Undoing.{dropping, leaving, undone}
use Rattle.store_numbers.proofs.Whole.{read}
use Rattle.store_cells.specs.Cells.{cells_of}
use Rattle.store_cells.proofs.Kept.{put-length}
use Rattle.code.specs.Cells.{place_at, errno_cell}
use Rattle.code.specs.Windows.{waiting, state_in}
use Rattle.layout.specs.Answers.{first_error, answers, lacked}
use Rattle.layout.specs.Rules.{unhandled, beyond_depth, no_room}
use Rattle.run_machine.specs.Live.{Live}
use Rattle.run_machine.specs.Machine.{ended, lacked_by, handed, Here, KeepsRun}
use Rattle.run_machine.proofs.Current.{step-in}
use Rattle.run_machine.proofs.Elsewhere.{elsewhere}
use Rattle.std.specs.Prelude.{Some, None}
use Rattle.layout.specs.declared.endings.Ending.{Ending}
use Rattle.layout.specs.declared.endings.Ending.TheVariants.{Unhandled, Aborted}
use Rattle.layout.specs.Endings.{ending_number}
use Rattle.layout.proofs.EndingNumbers.{step-low}
use Rattle.run_errors.specs.Taken.{Taken}
use Rattle.run_errors.specs.Errors.{Raises, raises, hands_on, Settles, stops, resumes, Arisen}
use Rattle.run_errors.proofs.CallsDropped.{errno-here, errno-state}
use Rattle.run_undoing.specs.Dropping as drops
use Rattle.run_undoing.specs.Dropping.{Falls, Quits, Left}
use Rattle.run_errors.specs.declared.Machine.{Machine}
use Rattle.run_advancing.specs.declared.Halt.{Halt}
use Rattle.run_advancing.specs.declared.Turn.TheVariants.{On, Over}
use Rattle.run_advancing.specs.Turns.{halt, Turns, on, over, gone, Breaks, ends, lacks, hands, fails, Unmade, outcome, Settled, is_lack, Stops, by_step, by_lack, Stopped}
use Rattle.run_advancing.proofs.OneStep.{lacks-stops, ends-stops, fails-arises, hands-arises}
use Rattle.run_advancing.proofs.Answers.{answer-below, answer-above, answer-is, answer-casts, lacked_by-is, lack-range, lack-outside, told-plain, told-there}

module _ (code values : List ℕ) (base i : ℕ) (r : ℤ) (s : SFits w64 r) (u : Unmade code values base i r) where
  -- of a store, a step and its callers: what the answer is of
  abbrev Broken : (h : Here code values base i) (steps : ℕ) (out : List ℕ) (E : Effect) → Type 0
  Broken h steps out E = Breaks h.P h.R (cells_of code) h.offset h.d i steps (cells_of values) out E r

  abbrev stood : (h : Here code values base i) (steps : ℕ) (out : List ℕ) → State
  stood h steps out = state_in h.P h.R (cells_of values) h.d i steps out

  abbrev came : (a : Bool) (h : Here code values base i) (place steps : ℕ) (out : List ℕ) (E : Effect) → Outcome
  came a h place steps out E = outcome a h.P place (waiting h.P h.R (cells_of values) h.d) (stood h steps out) E

  number_by : (h : Here code values base i) (steps : ℕ) (out : List ℕ) (E : Effect) → Broken h steps out E → (k : ℕ) × (r ≡ pos k)
  number_by h steps out E (ends n e f q) = (ended + ending_number n, e)
  number_by h steps out E (lacks n w at e f g l pl q) = (lacked_by n + w, e)
  number_by h steps out E (hands e q) = (handed, e)
  number_by h steps out E (fails n e f q) = (first_error + n, e)

  number : (k : ℕ) × (r ≡ pos k)
  number = number_by u.here u.steps u.out u.E u.broken

  pub unmade-cast : T (non_neg (read r)) × Fits w64 (nat_abs (read r))
  unmade-cast = let q = number in answer-casts r s q.0 q.1

  pub unmade-place : i * 8 + 8 ≤ length code
  unmade-place = step-in code values base i u.here

  -- ---- what a turn is
  turn-lacks : (a : Bool) (h : Here code values base i) (place steps : ℕ) (out : List ℕ) (E : Effect) (n w at : ℕ) → n ≤ no_room → beyond_depth ≤ n → place_at (cells_of code) w ≡ h.offset at → E ≡ lacking n at
      → (t : Halt) → (x : Ending) × (ending_number x ≡ n) × (t ≡ halt x (place_at (cells_of code) w) false) → Turns a h.P h.R h.offset h.d i steps (cells_of values) out (came a h place steps out E) (Over t)
  turn-lacks a h place steps out E n w at f g pl q t e =
      over e.0 at false
      (ap Over (e.2 ∙ ap (λ (x : ℕ). halt e.0 x false) (told-there h.offset (ending_number e.0) at (place_at (cells_of code) w) (omega (arith, e.1)) (omega (arith, e.1)) pl))) h.live
      (ap (came a h place steps out) q ∙ lacks-stops a h.P place (waiting h.P h.R (cells_of values) h.d) (stood h steps out) n at
      ∙ ap (λ (k : ℕ). stopping false k at (stood h steps out)) (sym e.1))

  -- ---- a run
  module _ (low : lt_z (read r) (pos handed) ≡ true) where
    not-handed : {A : Type 0} → r ≡ pos handed → A
    not-handed e = absurd (omega (arith, answer-below r s handed e handed low))

    not-failed : {A : Type 0} (e : ℕ) → r ≡ pos (first_error + e) → A
    not-failed e z = absurd (omega (arith, answer-below r s (first_error + e) z handed low))

    stops-by : (h : Here code values base i) (steps : ℕ) (out : List ℕ) (E : Effect) → Broken h steps out E → Stops code (nat_abs (read r))
    stops-by h steps out E (ends n e f q) = by_step n f (answer-is r s (ended + ending_number n) e) h.code-size
    stops-by h steps out E (lacks n w at e f g l pl q) = by_lack n w f g l (answer-is r s (lacked_by n + w) e) h.code-size
    stops-by h steps out E (hands e q) = not-handed e
    stops-by h steps out E (fails n e f q) = not-failed n e

    pub take-stops : Stops code (nat_abs (read r))
    take-stops = stops-by u.here u.steps u.out u.E u.broken

    module _ (t : Halt) (st : Stopped code i (nat_abs (read r)) t) where
      ends_by : (h : Here code values base i) (place steps : ℕ) (out : List ℕ) (E : Effect) → place_at (cells_of code) i ≡ h.offset place → Broken h steps out E
          → Turns false h.P h.R h.offset h.d i steps (cells_of values) out (came false h place steps out E) (Over t)
      ends_by h place steps out E pl (ends n e f q) =
          over n place true
          (ap Over (st.by-step n f (answer-is r s (ended + ending_number n) e) ∙ ap (λ (x : ℕ). halt n x true) (told-plain h.offset (ending_number n) place (place_at (cells_of code) i) (omega (arith, step-low n f)) pl))) h.live
          (ap (came false h place steps out) q ∙ ends-stops h.P place h.R (cells_of values) h.d i steps out _ _ (ending_number n))
      ends_by h place steps out E pl (lacks n w at e f g l lp q) = turn-lacks false h place steps out E n w at g f lp q t (st.by-lack n w f g l (answer-is r s (lacked_by n + w) e))
      ends_by h place steps out E pl (hands e q) = not-handed e
      ends_by h place steps out E pl (fails n e f q) = not-failed n e

      pub take_ends : Settled false code values values base i r (Over t)
      take_ends = record { long = refl; kept = λ c x y. refl; is = ends_by }

  -- an error
  module _ (high : lt_z (read r) (pos handed) ≡ false) where
    kind : (h : Here code values base i) (steps : ℕ) (out : List ℕ) (E : Effect) → Broken h steps out E → Raises r
    kind h steps out E (ends n e f q) = absurd (omega (arith, answer-above r s (ended + ending_number n) e handed high, step-low n f))
    kind h steps out E (lacks n w at e f g l pl q) = absurd (omega (arith, answer-above r s (lacked_by n + w) e handed high, lacked_by-is n))
    kind h steps out E (hands e q) = hands_on e
    kind h steps out E (fails n e f q) = raises n f e

    pub take-raises : Here code values base i × Raises (read r)
    take-raises = (u.here, subst Raises (sym (to_z-of_z s)) (kind u.here u.steps u.out u.E u.broken))

    module _ (after : List ℕ) (taken : Taken) (arisen : Arisen code values after base i (read r) taken) where
      ar : Arisen code values after base i r taken
      ar = subst (λ (q : ℤ). Arisen code values after base i q taken) (to_z-of_z s) arisen

      settles : (h : Here code values base i) (place steps : ℕ) (out : List ℕ) (E : Effect) → Broken h steps out E
          → Settles h.P h.R (cells_of after) h.d i (steps + 1) place out taken (came false h place steps out E)
      settles h place steps out E (ends n e f q) = absurd (omega (arith, answer-above r s (ended + ending_number n) e handed high, step-low n f))
      settles h place steps out E (lacks n w at e f g l pl q) = absurd (omega (arith, answer-above r s (lacked_by n + w) e handed high, lacked_by-is n))
      settles h place steps out E (hands e q) =
          subst (Settles h.P h.R (cells_of after) h.d i (steps + 1) place out taken)
          (sym (ap (came false h place steps out) q ∙ hands-arises h.P place h.R (cells_of values) h.d i steps out _))
          (ar.hands h e (steps + 1) place out)
      settles h place steps out E (fails n e f q) =
          subst (Settles h.P h.R (cells_of after) h.d i (steps + 1) place out taken)
          (sym (ap (came false h place steps out) q ∙ fails-arises h.P place h.R (cells_of values) h.d i steps out _ _ n))
          (ar.fails h n e (steps + 1) place out)

      -- nobody takes it
      module _ (nx : taken ≡ None) (p : ℕ) (ep : p ≡ place_at (cells_of code) i) where
        dies-by : (h : Here code values base i) (place steps : ℕ) (out : List ℕ) (o : Outcome) → place_at (cells_of code) i ≡ h.offset place
            → Settles h.P h.R (cells_of after) h.d i (steps + 1) place out taken o → Turns false h.P h.R h.offset h.d i steps (cells_of after) out o (Over (halt Unhandled p true))
        dies-by h place steps out o pl (stops z lv q) = over Unhandled place true (ap (λ (x : ℕ). Over (halt Unhandled x true)) (told-there h.offset unhandled place p (omega arith) (omega arith) (ep ∙ pl))) lv q
        dies-by h place steps out o pl (resumes c m z w b de lv q) = let k : None ≡ Some m = sym nx ∙ z in cc

        pub take-dies : Settled false code values after base i r (Over (halt Unhandled p true))
        take-dies = record { long = ar.long; kept = ar.kept; is = λ h place steps out E pl br. dies-by h place steps out _ pl (settles h place steps out E br) }

      -- a call takes it
      module _ (there : Machine) (nx : taken ≡ Some there) where
        resumes-by : (h : Here code values base i) (place steps : ℕ) (out : List ℕ) (o : Outcome)
            → Settles h.P h.R (cells_of after) h.d i (steps + 1) place out taken o → Turns false h.P h.R h.offset h.d i steps (cells_of after) out o (On there)
        resumes-by h place steps out o (stops z lv q) = let k : None ≡ Some there = sym z ∙ nx in cc
        resumes-by h place steps out o (resumes c m z w b de lv q) = on c m (ap On (let k : Some there ≡ Some m = sym nx ∙ z in cc)) de b lv q

        pub take-resumes : Settled false code values after base i r (On there)
        take-resumes = record { long = ar.long; kept = ar.kept; is = λ h place steps out E pl br. resumes-by h place steps out _ (settles h place steps out E br) }

  -- ---- an aborted run
  module _ (test : Bool) (tells : test ≡ is_lack (read r)) where
    -- 6 to 8
    module _ (yes : test ≡ true) where
      range : (m : ℕ) → r ≡ pos m → (lacked ≤ m) × (m < handed)
      range m e = lack-range m (subst (λ (z : ℤ). is_lack z ≡ true) (to_z-of_z s ∙ e) (sym tells ∙ yes))

      lack-by : (h : Here code values base i) (steps : ℕ) (out : List ℕ) (E : Effect) → Broken h steps out E → Stops code (nat_abs (read r))
      lack-by h steps out E (ends n e f q) = absurd (omega (arith, (range (ended + ending_number n) e).0, step-low n f))
      lack-by h steps out E (lacks n w at e f g l pl q) = by_lack n w f g l (answer-is r s (lacked_by n + w) e) h.code-size
      lack-by h steps out E (hands e q) = absurd (omega (arith, (range handed e).1))
      lack-by h steps out E (fails n e f q) = absurd (omega (arith, (range (first_error + n) e).1))

      pub quit-stops : Stops code (nat_abs (read r))
      quit-stops = lack-by u.here u.steps u.out u.E u.broken

      module _ (t : Halt) (st : Stopped code i (nat_abs (read r)) t) where
        quits-by : (h : Here code values base i) (place steps : ℕ) (out : List ℕ) (E : Effect) → Broken h steps out E
            → Turns true h.P h.R h.offset h.d i steps (cells_of values) out (came true h place steps out E) (Over t)
        quits-by h place steps out E (ends n e f q) = absurd (omega (arith, (range (ended + ending_number n) e).0, step-low n f))
        quits-by h place steps out E (lacks n w at e f g l lp q) = turn-lacks true h place steps out E n w at g f lp q t (st.by-lack n w f g l (answer-is r s (lacked_by n + w) e))
        quits-by h place steps out E (hands e q) = absurd (omega (arith, (range handed e).1))
        quits-by h place steps out E (fails n e f q) = absurd (omega (arith, (range (first_error + n) e).1))

        pub quit-ends : Settled true code values values base i r (Over t)
        quit-ends = record { long = refl; kept = λ c x y. refl; is = λ h place steps out E pl br. quits-by h place steps out E br }

    -- the list is left
    module _ (no : test ≡ false) where
      not-lack : {A : Type 0} (n w : ℕ) → beyond_depth ≤ n → n ≤ no_room → w < answers → r ≡ pos (lacked_by n + w) → A
      not-lack n w f g l e =
          absurd (lack-outside (lacked_by n + w) (subst (λ (z : ℤ). is_lack z ≡ false) (to_z-of_z s ∙ e) (sym tells ∙ no)) (omega (arith, lacked_by-is n)) (omega (arith, lacked_by-is n)))

      under : (m : ℕ) → r ≡ pos m → m < first_error → lt_z r (pos first_error) ≡ true
      under m e g = ap (λ (z : ℤ). lt_z z (pos first_error)) e ∙ lt-ltb m first_error g

      leaves_by : (h : Here code values base i) (steps : ℕ) (out : List ℕ) (E : Effect) → Broken h steps out E → Quits r
      leaves_by h steps out E (ends n e f q) = drops.without (under (ended + ending_number n) e (omega (arith, step-low n f)))
      leaves_by h steps out E (lacks n w at e f g l pl q) = not-lack n w f g l e
      leaves_by h steps out E (hands e q) = drops.without (under handed e (omega arith))
      leaves_by h steps out E (fails n e f q) = drops.raises n f e

      quits : Quits r
      quits = leaves_by u.here u.steps u.out u.E u.broken

      pub quit-stands : drops.Stands code values base × Quits (read r)
      quit-stands = (record { i = i; here = u.here }, subst Quits (sym (to_z-of_z s)) quits)

      -- and the next one begins, or none is left
      module _ (after : List ℕ) (taken : Taken) (given : Left code values after base (read r) taken) where
        lf : Left code values after base r taken
        lf = subst (λ (q : ℤ). Left code values after base q taken) (to_z-of_z s) given

        noted-long : Quits r → length after ≡ length values
        noted-long (drops.without f) = ap length (lf.notes.same f)
        noted-long (drops.raises e g o) = put-length (lf.notes.errno e o) (omega (arith, u.here.values-size))

        noted-kept : Quits r → KeepsRun (cells_of values) (cells_of after)
        noted-kept (drops.without f) = λ c x y. ap (λ (z : List ℕ). get_or (cells_of z) c 0) (lf.notes.same f)
        noted-kept (drops.raises e g o) = λ c x y. ap (λ (z : List ℕ). get_or z c 0) (lf.notes.errno e o).words ∙ get_or-set_other (cells_of values) errno_cell c e 0 (λ z. omega arith)

        module _ (h : Here code values base i) (steps : ℕ) (out : List ℕ) where
          abbrev dropped : (X : List ℕ) (k : ℕ) → State
          dropped X k = with_calls (dropping h.P (waiting h.P h.R X h.d)) (state_in h.P h.R X h.d i k out)

          counted-drop : (X : List ℕ) → counted (dropped X steps) ≡ dropped X (steps + 1)
          unfolding state_in
          counted-drop X = refl

          -- nothing else has changed
          unmoved : after ≡ values → goes_on (counted (dropped (cells_of values) steps)) ≡ goes_on (dropped (cells_of after) (steps + 1))
          unmoved e = ap goes_on (counted-drop (cells_of values) ∙ ap (λ (y : List ℕ). dropped (cells_of y) (steps + 1)) (sym e))

          -- but ERRNO
          module _ (e : ℕ) (g : e < answers) (o : r ≡ pos (first_error + e)) where
            noted-state : state_in h.P h.R (cells_of after) h.d i steps out ≡ with_errno e (stood h steps out)
            noted-state = errno-state code values after base i e (lf.notes.errno e o) h g steps out

            noted-callers : waiting h.P h.R (cells_of values) h.d ≡ waiting h.P h.R (cells_of after) h.d
            unfolding state_in
            noted-callers = ap tail (ap (λ (x : State). x.calls) (sym noted-state))
              where
                tail : List Call → List Call
                tail [] = []
                tail (c ∷ k) = k

            noted-moved : goes_on (counted (with_calls (dropping h.P (waiting h.P h.R (cells_of values) h.d)) (with_errno e (stood h steps out)))) ≡ goes_on (dropped (cells_of after) (steps + 1))
            noted-moved =
                ap goes_on (ap₂ (λ (cs : List Call) (x : State). counted (with_calls (dropping h.P cs) x)) noted-callers (sym noted-state) ∙ counted-drop (cells_of after))

          -- what the rules say is that the callers are dropped
          left_so : (place : ℕ) (E : Effect) → Broken h steps out E → came true h place steps out E ≡ goes_on (dropped (cells_of after) (steps + 1))
          unfolding outcome undone leaving
          left_so place E (ends n e f q) = ap (came true h place steps out) q ∙ unmoved (lf.notes.same (under (ended + ending_number n) e (omega (arith, step-low n f))))
          left_so place E (lacks n w at e f g l pl q) = not-lack n w f g l e
          left_so place E (hands e q) = ap (came true h place steps out) q ∙ unmoved (lf.notes.same (under handed e (omega arith)))
          left_so place E (fails n e f q) = ap (came true h place steps out) q ∙ noted-moved n f e

          -- the call stands as it stood
          noted-live : Quits r → Live h.P h.R (cells_of after) h.d i
          noted-live (drops.without f) = subst (λ (y : List ℕ). Live h.P h.R (cells_of y) h.d i) (sym (lf.notes.same f)) h.live
          noted-live (drops.raises e g o) = (errno-here code values after base i e (lf.notes.errno e o) h g).live

          falls : Falls h.P h.R (cells_of after) (steps + 1) out taken (dropped (cells_of after) (steps + 1))
          falls = lf.does i (elsewhere h after h.d base i (noted-long quits) h.deep h.base-is (noted-live quits)) (steps + 1) out

        -- none is left
        module _ (nx : taken ≡ None) where
          gone-by : (h : Here code values base i) (steps : ℕ) (out : List ℕ) (x : State) → Falls h.P h.R (cells_of after) (steps + 1) out taken x
              → Turns true h.P h.R h.offset h.d i steps (cells_of after) out (goes_on x) (Over (halt Aborted 0 true))
          gone-by h steps out x (drops.gone z q) = gone refl refl (ap goes_on q)
          gone-by h steps out x (drops.begins c m z w b de lv q) = let k : None ≡ Some m = sym nx ∙ z in cc

          pub quit-gone : Settled true code values after base i r (Over (halt Aborted 0 true))
          quit-gone = record {
            long = noted-long quits;
            kept = noted-kept quits;
            is = λ h place steps out E pl br.
                subst (λ (o : Outcome). Turns true h.P h.R h.offset h.d i steps (cells_of after) out o (Over (halt Aborted 0 true))) (sym (left_so h steps out place E br)) (gone-by h steps out _ (falls h steps out));
          }

        module _ (next-list : Machine) (nx : taken ≡ Some next-list) where
          begins-by : (h : Here code values base i) (steps : ℕ) (out : List ℕ) (x : State) → Falls h.P h.R (cells_of after) (steps + 1) out taken x
              → Turns true h.P h.R h.offset h.d i steps (cells_of after) out (goes_on x) (On next-list)
          begins-by h steps out x (drops.gone z q) = let k : None ≡ Some next-list = sym z ∙ nx in cc
          begins-by h steps out x (drops.begins c m z w b de lv q) = on c m (ap On (let k : Some next-list ≡ Some m = sym nx ∙ z in cc)) de b lv (ap goes_on q)

          pub quit-on : Settled true code values after base i r (On next-list)
          quit-on = record {
            long = noted-long quits;
            kept = noted-kept quits;
            is = λ h place steps out E pl br.
                subst (λ (o : Outcome). Turns true h.P h.R h.offset h.d i steps (cells_of after) out o (On next-list)) (sym (left_so h steps out place E br)) (begins-by h steps out _ (falls h steps out));
          }
