-- A call is entered: its window is made, and its caller waits.
use mathlib.Core.Path.{◌≡◌, refl, sym, ap, ap₂, subst, ◌∙◌}
use mathlib.Core.List.{List, ◌∷◌, ◌++◌}
use mathlib.Core.Option.{some}
use Prim.Native.Nat.{ℕ, suc, ◌+◌, ◌*◌, ◌<◌, ◌≤◌}
use native.Mathlib.Omega.{arith}
use lib.ListN.{length, get_or, set, replicate, length-set, length-append, length-replicate}
use lib.Seq.{get_or-set_same}
use lib.IntN.{pos}
use mir.Syntax.{w32, w64}
use mir.Val.{Fits, to_z}
use mir.ValLaws.{to_z_pos}
use Rattle.paper.specs.Steps.{Code, Program}
use Rattle.paper.specs.States.{Call, State, with_calls}
use Rattle.paper.specs.Running.{code_at, step_named, new_call}
use Rattle.store_cells.specs.Cells.{cells_of, Put}
use Rattle.store_cells.proofs.Laws.{length-words}
use Rattle.store_cells.proofs.Kept.{put-length}
use Rattle.code.specs.Cells.{place_at, value_at, link_at, window_of, window_cells}
use Rattle.code.specs.Steps.{Head, no_head, numbered, parts}
use Rattle.code.specs.Closed.{is_named}
use Rattle.code.specs.Holds.{data_in, HoldsRoutine}
use Rattle.code.specs.Windows.{ends_cell, steps_cell, routine_cell, waits_cell, after_cell, result_in, state_in, failed_cell, result_cell}
use Rattle.store_evaluation.specs.Answers.{call_slots}
use Rattle.store_reading.specs.Reading.{value_end, half_end, Part}
use Rattle.run_machine.specs.Live.{slots_of_call, code_of_call, ResultFits, nowhere, in_module, in_caller, none_failed, Sane, Waits, Below, Live}
use Rattle.run_machine.specs.Machine.{Here, entered, depth_limit, store_bytes}
use Rattle.run_starting.specs.Starting.{Holding, Starts, Started}
use Rattle.run_calls.specs.Calling.{Enters, MayEnter, Entered}
use Rattle.run_machine.proofs.Agreeing.{Same, SameIn, set_same}
use Rattle.paper.specs.Answer.{store_words}
use Rattle.run_machine.proofs.States.{Roomy, roomy, entered-state, past, call-waits}
use Rattle.run_machine.proofs.Living.{routine-code, fits-same, live-waits, live-past}
use Rattle.run_starting.proofs.CellsWritten.{holding-append, holding-same, holding-zeros}
use Rattle.run_starting.proofs.Fresh.{FreshIn, call-fresh}
use Rattle.paper.specs.Declarations.{module_word_limit}
use Rattle.run_machine.proofs.Current as here

-- a result goes to a cell that a word can name
pub result-small : (P : Program) (R : List Head) (X : List ℕ) (e r : ℕ) → length P.words ≤ module_word_limit → ((k : ℕ) → slots_of_call (code_at P k) ≤ call_slots) → e < depth_limit → ResultFits P R X e r → r < store_bytes
result-small P R X e r m n d (nowhere z) = omega arith
result-small P R X e r m n d (in_module k h z) = omega arith
result-small P R X e r m n d (in_caller c k q h z) = omega (arith, n (numbered R (get_or X (window_of c + routine_cell) 0)))

module _ (code values : List ℕ) (base i callee result after n : ℕ) where
  -- ---- the routine that is called
  module _ (h : Here code values base i) (e : Enters code values base i h callee result after n) where
    routine : HoldsRoutine (length h.P.words) h.text h.R h.offset (cells_of code) (get_or h.R e.k no_head) (code_at h.P e.k)
    routine = h.holds.routines e.k e.there

    words_count : length (code_at h.P e.k).words ≡ length e.zs + length routine.starts
    words_count =
        ap length routine.words_are ∙ length-append (replicate (get_or h.R e.k no_head).parameters (pos 0)) routine.starts
        ∙ ap (λ (x : ℕ). x + length routine.starts) (length-replicate (get_or h.R e.k no_head).parameters (pos 0) ∙ sym e.as_many)

    module _ (v : ℕ) (pv : Part value_end (value_at (cells_of code) callee) v) where
      word-is : (get_or h.R e.k no_head).word ≡ v
      word-is = e.word ∙ sym pv.same

      word_small : v + 1 < parts
      word_small = subst (λ (x : ℕ). x + 1 < parts) word-is routine.head_small

      reading : (l : ℕ) → Part half_end (link_at (cells_of code) v) l → data_in (cells_of code) parts l ≡ some (routine.starts, routine.opens)
      reading l pl = ap (data_in (cells_of code) parts) (pl.same ∙ ap (link_at (cells_of code)) (sym word-is)) ∙ routine.data_is

      start_is : (p : ℕ) → Part half_end (place_at (cells_of code) v) p → p ≡ (code_at h.P e.k).start
      start_is p pp = pp.same ∙ ap (place_at (cells_of code)) (sym word-is) ∙ sym routine.start_is

  -- ---- what is asked on the way
  module _ (q : MayEnter code values base i callee result after n) where
    pub step_fits : Fits w32 i
    step_fits = record { fits = omega (arith, (here.small-name code values base i q.here i q.here.live.named).1) }

    pub after-fits : Fits w32 after
    after-fits =
        record {
          fits = omega (arith, q.enters.after_is, (here.small-name code values base i q.here (here.step_here code values base i q.here).after (here.named-after code values base i q.here)).1);
        }

    pub result_fits : Fits w32 result
    result_fits = record {
      fits = omega (arith, result-small q.here.P q.here.R (cells_of values) (suc q.here.d) result (roomy q.here).words (roomy q.here).calls q.enters.deep q.enters.result_fits);
    }

    pub word-inside : (v : ℕ) → Part value_end (value_at (cells_of code) callee) v → v * 8 + 8 ≤ length code
    word-inside v pv = omega (arith, word_small q.here q.enters v pv, q.here.code-size)

    low-cell : (c : ℕ) → c < base + window_cells + window_cells → c * 4 + 4 ≤ length values
    low-cell c h = omega (arith, q.here.base-is, q.enters.deep, q.here.values-size)

    module _ (v1 v2 : List ℕ) (p1 : Put values v1 (base + waits_cell) i) (p2 : Put v1 v2 (base + after_cell) after) where
      long1 : length v1 ≡ length values
      long1 = put-length p1 (low-cell (base + waits_cell) (omega arith))

      long2 : length v2 ≡ length values
      long2 = put-length p2 (subst (λ (x : ℕ). (base + after_cell) * 4 + 4 ≤ x) (sym long1) (low-cell (base + after_cell) (omega arith))) ∙ long1

      module _ (v : ℕ) (pv : Part value_end (value_at (cells_of code) callee) v) (l : ℕ) (pl : Part half_end (link_at (cells_of code) v) l) where
        pub enter-starts : Starts code v2 l n
        enter-starts =
            let r = routine q.here q.enters in
            record {
              starts = r.starts;
              opens = r.opens;
              reads = reading q.here q.enters v pv l pl;
              whole = here.whole_here code values base i q.here;
              room = omega (arith, long2, q.here.values-size, q.here.base-is, q.enters.deep, q.enters.next, words_count q.here q.enters, r.fors-are, r.room);
            }

        -- ---- and what is made
        module _ (v3 v4 v5 v6 : List ℕ) (st : Started code v2 v3 l n) (p3 : Put v3 v4 (base + window_cells + routine_cell) v) (p4 : Put v4 v5 (base + window_cells + failed_cell) 0) (p5 : Put v5 v6 (base + window_cells + result_cell) result) where
          long3 : length v3 ≡ length values
          long3 = st.long ∙ long2

          long4 : length v4 ≡ length values
          long4 = put-length p3 (subst (λ (x : ℕ). (base + window_cells + routine_cell) * 4 + 4 ≤ x) (sym long3) (low-cell (base + window_cells + routine_cell) (omega arith))) ∙ long3

          long5 : length v5 ≡ length values
          long5 = put-length p4 (subst (λ (x : ℕ). (base + window_cells + failed_cell) * 4 + 4 ≤ x) (sym long4) (low-cell (base + window_cells + failed_cell) (omega arith))) ∙ long4

          long6 : length v6 ≡ length values
          long6 = put-length p5 (subst (λ (x : ℕ). (base + window_cells + result_cell) * 4 + 4 ≤ x) (sym long5) (low-cell (base + window_cells + result_cell) (omega arith))) ∙ long5

          words_long : (x : List ℕ) → length x ≡ length values → length (cells_of x) ≡ store_words
          words_long x e = length-words x ∙ omega (arith, e, q.here.values-size)

          -- the last three
          marks : cells_of v6 ≡ set (set (set (cells_of v3) (base + window_cells + routine_cell) v) (base + window_cells + failed_cell) 0) (base + window_cells + result_cell) result
          marks =
              p5.words ∙ ap (λ (x : List ℕ). set x (base + window_cells + result_cell) result) (p4.words ∙ ap (λ (x : List ℕ). set x (base + window_cells + failed_cell) 0) p3.words)

          other : (c : ℕ) → (c ≡ base + window_cells + routine_cell → ⊥) → (c ≡ base + window_cells + failed_cell → ⊥) → (c ≡ base + window_cells + result_cell → ⊥) → Same (cells_of v3) (cells_of v6) c
          other c x y z =
              ap (λ (w : List ℕ). get_or w c 0) marks
              ∙ set_same (set (set (cells_of v3) (base + window_cells + routine_cell) v) (base + window_cells + failed_cell) 0) (base + window_cells + result_cell) result c z
              ∙ set_same (set (cells_of v3) (base + window_cells + routine_cell) v) (base + window_cells + failed_cell) 0 c y ∙ set_same (cells_of v3) (base + window_cells + routine_cell) v c x

          room : (c : ℕ) → c < base + window_cells + window_cells → (x : List ℕ) → length x ≡ store_words → c < length x
          room c h x e = omega (arith, e, q.here.base-is, q.enters.deep)

          routine-cell : get_or (cells_of v6) (base + window_cells + routine_cell) 0 ≡ v
          routine-cell =
              ap (λ (w : List ℕ). get_or w (base + window_cells + routine_cell) 0) marks
              ∙ set_same (set (set (cells_of v3) (base + window_cells + routine_cell) v) (base + window_cells + failed_cell) 0) (base + window_cells + result_cell) result (base + window_cells + routine_cell) (λ z. omega arith)
              ∙ set_same (set (cells_of v3) (base + window_cells + routine_cell) v) (base + window_cells + failed_cell) 0 (base + window_cells + routine_cell) (λ z. omega arith)
              ∙ get_or-set_same (cells_of v3) (base + window_cells + routine_cell) v 0 (room (base + window_cells + routine_cell) (omega arith) (cells_of v3) (words_long v3 long3))

          failed-cell : get_or (cells_of v6) (base + window_cells + failed_cell) 0 ≡ 0
          failed-cell =
              ap (λ (w : List ℕ). get_or w (base + window_cells + failed_cell) 0) marks
              ∙ set_same (set (set (cells_of v3) (base + window_cells + routine_cell) v) (base + window_cells + failed_cell) 0) (base + window_cells + result_cell) result (base + window_cells + failed_cell) (λ z. omega arith)
              ∙ get_or-set_same (set (cells_of v3) (base + window_cells + routine_cell) v) (base + window_cells + failed_cell) 0 0
              (room (base + window_cells + failed_cell) (omega arith) (set (cells_of v3) (base + window_cells + routine_cell) v) (length-set (cells_of v3) (base + window_cells + routine_cell) v ∙ words_long v3 long3))

          result-cell : get_or (cells_of v6) (base + window_cells + result_cell) 0 ≡ result
          result-cell =
              ap (λ (w : List ℕ). get_or w (base + window_cells + result_cell) 0) p5.words
              ∙ get_or-set_same (cells_of v5) (base + window_cells + result_cell) result 0 (room (base + window_cells + result_cell) (omega arith) (cells_of v5) (words_long v5 long5))

          -- the first two
          X2 : List ℕ
          X2 = set (set (cells_of values) (base + waits_cell) i) (base + after_cell) after

          X2-is : cells_of v2 ≡ X2
          unfolding X2
          X2-is = p2.words ∙ ap (λ (x : List ℕ). set x (base + after_cell) after) p1.words

          module _ (h : Here code values base i) (e : Enters code values base i h callee result after n) where
            base-is : base + window_cells ≡ window_of (suc h.d)
            base-is = omega (arith, h.base-is)

            -- below the arguments' end
            low : (c : ℕ) → c < n → Same X2 (cells_of v6) c
            low c k =
                other c (λ z. omega (arith, e.next, words_count h e, (routine h e).room)) (λ z. omega (arith, e.next, words_count h e, (routine h e).room)) (λ z. omega (arith, e.next, words_count h e, (routine h e).room))
                ∙ st.below c k ∙ ap (λ (x : List ℕ). get_or x c 0) X2-is

            arguments-are : Holding (cells_of v6) (base + window_cells) e.zs
            unfolding X2
            arguments-are =
                holding-same (cells_of values) (cells_of v6) (base + window_cells) e.zs (words_long v6 long6 ∙ sym (words_long values refl))
                (λ c x y.
                low c (omega (arith, e.next))
                ∙ set_same (set (cells_of values) (base + waits_cell) i) (base + after_cell) after c (λ z. omega arith) ∙ set_same (cells_of values) (base + waits_cell) i c (λ z. omega arith))
                e.holds

            data-are : Holding (cells_of v6) n (routine h e).starts
            data-are =
                holding-same (cells_of v3) (cells_of v6) n (routine h e).starts (words_long v6 long6 ∙ sym (words_long v3 long3))
                (λ c x y. other c (λ z. omega (arith, e.next, words_count h e, (routine h e).room)) (λ z. omega (arith, e.next, words_count h e, (routine h e).room)) (λ z. omega (arith, e.next, words_count h e, (routine h e).room)))
                (st.is (routine h e).starts (routine h e).opens (reading h e v pv l pl))

            fors : ℕ
            fors = (code_at h.P e.k).fors

            idle-at : (j : ℕ) → j < fors → (c : ℕ) → c < base + window_cells + routine_cell → get_or (cells_of v3) c 0 ≡ 0 → get_or (cells_of v6) c 0 ≡ 0
            idle-at j k c m z = other c (λ y. omega arith) (λ y. omega arith) (λ y. omega arith) ∙ z

            idles : (j : ℕ) → j < fors → (get_or (cells_of v3) (n + length (routine h e).starts + j) 0 ≡ 0) × (get_or (cells_of v3) (n + length (routine h e).starts + j + ends_cell) 0 ≡ 0) × (get_or (cells_of v3) (n + length (routine h e).starts + j + steps_cell) 0 ≡ 0)
            unfolding fors
            idles j k = st.idle (routine h e).starts (routine h e).opens j (reading h e v pv l pl) (omega (arith, (routine h e).fors-are))

            fors-are : Holding (cells_of v6) (n + length (routine h e).starts) (replicate fors (pos 0))
            unfolding fors
            fors-are =
                holding-zeros (cells_of v6) (n + length (routine h e).starts) (code_at h.P e.k).fors
                (omega (arith, words_long v6 long6, e.next, words_count h e, (routine h e).room, q.here.base-is, q.enters.deep))
                (λ j k. idle-at j k (n + length (routine h e).starts + j) (omega (arith, e.next, words_count h e, (routine h e).room)) (idles j k).0)

            fresh : FreshIn h.P h.R (cells_of v6) (base + window_cells) e.k result e.zs
            unfolding fors
            fresh = record {
              routine = ap (numbered h.R) (routine-cell ∙ pv.same) ∙ sym e.number;
              starts = (routine h e).starts;
              words_are = (routine h e).words_are ∙ ap (λ (x : ℕ). replicate x (pos 0) ++ (routine h e).starts) (sym e.as_many);
              holds = holding-append (cells_of v6) (base + window_cells) (e.zs ++ (routine h e).starts) (replicate (code_at h.P e.k).fors (pos 0))
                  (holding-append (cells_of v6) (base + window_cells) e.zs (routine h e).starts arguments-are (subst (λ (x : ℕ). Holding (cells_of v6) x (routine h e).starts) e.next data-are))
                  (subst (λ (x : ℕ). Holding (cells_of v6) x (replicate (code_at h.P e.k).fors (pos 0))) ends_at fors-are);
              idle-are = λ j k. (
                ap (λ (c : ℕ). get_or (cells_of v6) c 0) (at-end j) ∙ idle-at j k (n + length (routine h e).starts + j + ends_cell) (omega (arith, e.next, words_count h e, (routine h e).room)) (idles j k).1,
                ap (λ (c : ℕ). get_or (cells_of v6) c 0) (at-step j) ∙ idle-at j k (n + length (routine h e).starts + j + steps_cell) (omega (arith, e.next, words_count h e, (routine h e).room)) (idles j k).2,
              );
              failed = failed-cell;
              result-is = result-cell;
            }
              where
                ends_at : n + length (routine h e).starts ≡ base + window_cells + length (e.zs ++ (routine h e).starts)
                ends_at = omega (arith, e.next, length-append e.zs (routine h e).starts)

                at-end : (j : ℕ) → base + window_cells + ends_cell + (length (code_at h.P e.k).words + j) ≡ n + length (routine h e).starts + j + ends_cell
                at-end j = omega (arith, e.next, words_count h e)

                at-step : (j : ℕ) → base + window_cells + steps_cell + (length (code_at h.P e.k).words + j) ≡ n + length (routine h e).starts + j + steps_cell
                at-step j = omega (arith, e.next, words_count h e)

            -- the caller waits for the step that it was in
            caller : List ℕ
            caller = set (set (cells_of values) (window_of h.d + waits_cell) i) (window_of h.d + after_cell) after

            caller-is : X2 ≡ caller
            unfolding X2 caller
            caller-is = ap (λ (b : ℕ). set (set (cells_of values) (b + waits_cell) i) (b + after_cell) after) h.base-is

            first-set : List ℕ
            first-set = set (cells_of values) (window_of h.d + waits_cell) i

            room-first : Roomy h.P first-set h.d
            unfolding first-set
            room-first = let g = roomy h in record { long = length-set (cells_of values) (window_of h.d + waits_cell) i ∙ g.long; deep = g.deep; words = g.words; calls = g.calls }

            room-caller : Roomy h.P caller h.d
            unfolding caller first-set
            room-caller = let g = room-first in record { long = length-set first-set (window_of h.d + after_cell) after ∙ g.long; deep = g.deep; words = g.words; calls = g.calls }

            low_same : SameIn caller (cells_of v6) 0 (window_of (suc h.d))
            low_same c x y = low c (omega (arith, e.next, base-is)) ∙ ap (λ (z : List ℕ). get_or z c 0) caller-is

            state-low : (steps : ℕ) (out : List ℕ) → state_in h.P h.R (cells_of v6) h.d i steps out ≡ state_in h.P h.R (cells_of values) h.d i steps out
            unfolding caller first-set
            state-low steps out =
                past h.P h.R caller h.d room-caller (cells_of v6) (words_long v6 long6 ∙ sym room-caller.long) low_same i steps out
                ∙ call-waits h.P h.R first-set h.d room-first after_cell after i steps out (omega arith) (omega arith)
                ∙ call-waits h.P h.R (cells_of values) h.d (roomy h) waits_cell i i steps out (omega arith) (omega arith)

            live-low : Live h.P h.R (cells_of v6) h.d i
            unfolding caller first-set
            live-low =
                live-past h.P h.R caller h.d (cells_of v6) low_same i
                (live-waits h.P h.R first-set h.d (window_of h.d + after_cell) after i
                (live-waits h.P h.R (cells_of values) h.d (window_of h.d + waits_cell) i i h.live waits_cell (omega arith) (omega arith) refl)
                after_cell (omega arith) (omega arith) refl)

            waits-cell : get_or (cells_of v6) (window_of h.d + waits_cell) 0 ≡ i
            unfolding caller first-set
            waits-cell =
                low_same (window_of h.d + waits_cell) (omega arith) (omega arith)
                ∙ set_same first-set (window_of h.d + after_cell) after (window_of h.d + waits_cell) (λ z. omega arith)
                ∙ get_or-set_same (cells_of values) (window_of h.d + waits_cell) i 0 (omega (arith, (roomy h).long, h.deep))

            after-cell : get_or (cells_of v6) (window_of h.d + after_cell) 0 ≡ after
            unfolding caller first-set
            after-cell =
                low_same (window_of h.d + after_cell) (omega arith) (omega arith)
                ∙ get_or-set_same first-set (window_of h.d + after_cell) after 0 (omega (arith, room-first.long, h.deep))

            same-routine : Same (cells_of values) (cells_of v6) (window_of h.d + routine_cell)
            unfolding caller first-set
            same-routine =
                low_same (window_of h.d + routine_cell) (omega arith) (omega arith)
                ∙ set_same first-set (window_of h.d + after_cell) after (window_of h.d + routine_cell) (λ z. omega arith)
                ∙ set_same (cells_of values) (window_of h.d + waits_cell) i (window_of h.d + routine_cell) (λ z. omega arith)

            same_code : code_of_call h.P h.R (cells_of v6) h.d ≡ code_of_call h.P h.R (cells_of values) h.d
            same_code = routine-code h.P h.R (cells_of values) (cells_of v6) h.d same-routine

            waits : Waits h.P h.R (cells_of v6) h.d
            waits = record {
              sane = live-low.top;
              waits = ap (is_named (code_of_call h.P h.R (cells_of v6) h.d).steps) waits-cell ∙ live-low.named;
              after = after-cell ∙ e.after_is
                  ∙ sym (ap₂ (λ (c : Code) (x : ℕ). (step_named c.steps x).after) same_code waits-cell);
            }

            fresh_at : FreshIn h.P h.R (cells_of v6) (window_of (suc h.d)) e.k result e.zs
            fresh_at = subst (λ (b : ℕ). FreshIn h.P h.R (cells_of v6) b e.k result e.zs) base-is fresh

            cell-is : get_or (cells_of v6) (window_of (suc h.d) + routine_cell) 0 ≡ value_at (cells_of code) callee
            cell-is = ap (λ (b : ℕ). get_or (cells_of v6) (b + routine_cell) 0) (sym base-is) ∙ routine-cell ∙ pv.same

            sane : Sane h.P h.R (cells_of v6) (suc h.d)
            sane = record {
              routine = subst (λ (x : ℕ). x < length h.R) (sym fresh_at.routine) e.there;
              word = ap (λ (x : ℕ). (get_or h.R x no_head).word) fresh_at.routine ∙ e.word ∙ sym cell-is;
              failed = none_failed fresh_at.failed;
              result = subst (ResultFits h.P h.R (cells_of v6) (suc h.d)) (sym fresh_at.result-is)
                  (fits-same h.P h.R (cells_of values) (cells_of v6) (suc h.d) result (λ c z. let y : h.d ≡ c = omega arith in subst (λ (x : ℕ). Same (cells_of values) (cells_of v6) (window_of x + routine_cell)) y same-routine) e.result_fits);
            }

            live-new : Live h.P h.R (cells_of v6) (suc h.d) (code_at h.P e.k).start
            unfolding Below
            live-new = record {
              top = sane;
              named = ap (λ (x : ℕ). is_named (code_at h.P x).steps (code_at h.P e.k).start) fresh_at.routine ∙ (routine h e).closed.starts;
              below = (waits, live-low.below);
              errno = live-low.errno;
            }

            state-new : (steps : ℕ) (out : List ℕ) → state_in h.P h.R (cells_of v6) (suc h.d) (code_at h.P e.k).start steps out
                ≡ with_calls (new_call h.P e.k e.zs (result_in h.P h.R (cells_of values) result) ∷ (state_in h.P h.R (cells_of values) h.d i steps out).calls) (state_in h.P h.R (cells_of values) h.d i steps out)
            state-new steps out =
                entered-state h.P h.R (cells_of v6) h.d i steps out (code_at h.P e.k).start waits-cell
                ∙ ap₂ (λ (c : Call) (S : State). with_calls (c ∷ S.calls) S)
                (call-fresh h.P h.R (cells_of v6) (window_of (suc h.d)) e.k result e.zs fresh_at (cells_of values)) (state-low steps out)

          pub enter-done : (p : ℕ) → Part half_end (place_at (cells_of code) v) p → Entered code values base i callee result after n v6 (to_z w64 (entered + p))
          unfolding X2
          enter-done p pp = rw (to_z_pos w64 (entered + p) (omega (arith, pp.small))) (record {
            long = long6;
            kept = λ c x y.
                low q.here q.enters c (omega (arith, q.enters.next, q.here.base-is))
                ∙ set_same (set (cells_of values) (base + waits_cell) i) (base + after_cell) after c (λ z. omega (arith, q.here.base-is)) ∙ set_same (cells_of values) (base + waits_cell) i c (λ z. omega (arith, q.here.base-is));
            answer = λ h e. ap (λ (x : ℕ). pos (entered + x)) (start_is h e v pv p pp);
            live = λ h e. live-new h e;
            state = λ h e steps out. state-new h e steps out;
          })
