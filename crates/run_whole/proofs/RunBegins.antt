-- A run begins: main's window, and the state.
use mathlib.Core.Path.{◌≡◌, refl, sym, ap, ap₂, ◌∙◌}
use mathlib.Core.List.{List, [], ◌∷◌, ◌++◌, map}
use mathlib.Core.Option.{none, some}
use Prim.Native.Nat.{ℕ, suc, ◌+◌, ◌*◌, ◌/◌, ◌<◌, ◌≤◌}
use native.Mathlib.Omega.{arith}
use lib.ListN.{length, get_or, take, replicate}
use lib.Seq.{get_or-set_same, get_or-set_other}
use lib.IntN.{pos}
use mir.Syntax.{w32}
use mir.Val.{to_z}
use Rattle.paper.specs.Steps.{Code, Program}
use Rattle.paper.specs.States.{Call}
use Rattle.paper.specs.Running.{code_at, new_call, started}
use Rattle.store_cells.specs.Cells.{cells_of, Put}
use Rattle.store_cells.proofs.Laws.{length-words}
use Rattle.store_cells.proofs.Kept.{put-length}
use Rattle.code.specs.Cells.{place_at, link_at, errno_cell, first_window}
use Rattle.code.specs.Steps.{Head, no_head, numbered, parts}
use Rattle.code.specs.Closed.{is_named}
use Rattle.code.specs.Holds.{data_in, HoldsRoutine}
use Rattle.code.specs.Windows.{ends_cell, steps_cell, routine_cell, failed_cell, result_cell, written_cell, used_cell, result_in, call_in, waiting, written_in, state_in}
use Rattle.store_evaluation.specs.Answers.{call_slots}
use Rattle.run_machine.specs.Live.{Live, Below, nowhere, none_failed, code_of_call}
use Rattle.run_starting.specs.Starting.{Holding, Starts, Started}
use Rattle.run_whole.specs.Runs.{Begins, MayBegin, Begun}
use Rattle.run_machine.proofs.Agreeing.{state-eq}
use Rattle.run_machine.proofs.States.{module-same}
use Rattle.run_starting.proofs.CellsWritten.{holding-append, holding-zeros}
use Rattle.store_reading.specs.Reading.{cell_values}
use Rattle.layout.specs.Parts.{half_part}
use Rattle.paper.specs.Words.{word_limit}
use Rattle.run_starting.proofs.Fresh.{FreshIn, call-fresh}

module _ (code values : List ℕ) (h : ℕ) where
  -- ---- what is asked
  module _ (text : List ℕ) (depth : ℕ) (b : Begins text code values h depth) where
    routine : HoldsRoutine (length b.P.words) text b.R b.offset (cells_of code) (get_or b.R b.main no_head) (code_at b.P b.main)
    routine = b.holds.routines b.main b.there

    pub word_small : h + 1 < word_limit
    word_small = omega (arith, routine.head_small, b.main-is)

    words_are : (code_at b.P b.main).words ≡ routine.starts
    words_are = routine.words_are ∙ ap (λ (n : ℕ). replicate n (pos 0) ++ routine.starts) b.alone

    reading : (l : ℕ) → l ≡ link_at (cells_of code) h → data_in (cells_of code) parts l ≡ some (routine.starts, routine.opens)
    reading l e = ap (data_in (cells_of code) parts) (e ∙ ap (link_at (cells_of code)) (sym b.main-is)) ∙ routine.data_is

    count : length routine.starts + place_at (cells_of code) routine.opens ≤ call_slots
    count = omega (arith, routine.room, routine.fors-are, ap length words_are)

  pub begin-low : MayBegin code values h → h < cell_values
  begin-low m = omega (arith, word_small m.text m.depth m.begins)

  pub begin-in : MayBegin code values h → h * 8 + 8 ≤ length code
  begin-in m = omega (arith, word_small m.text m.depth m.begins, m.begins.code-size)

  module _ (mid : List ℕ) (p : Put values mid (first_window + routine_cell) h) (l : ℕ) (el : l ≡ link_at (cells_of code) h) where
    module _ (text : List ℕ) (depth : ℕ) (b : Begins text code values h depth) where
      mid-long : length mid ≡ length values
      mid-long = put-length p (omega (arith, b.values-size))

      starts-mid : Starts code mid l first_window
      starts-mid = record {
        starts = (routine text depth b).starts;
        opens = (routine text depth b).opens;
        reads = reading text depth b l el;
        whole = omega (arith, b.code-size);
        room = omega (arith, count text depth b, mid-long, b.values-size);
      }

    pub begin-starts : MayBegin code values h → Starts code mid l first_window
    begin-starts m = starts-mid m.text m.depth m.begins

    -- ---- what is made
    module _ (after : List ℕ) (st : Started code mid after l first_window) where
      module _ (text : List ℕ) (depth : ℕ) (b : Begins text code values h depth) where
        X : List ℕ
        X = cells_of after

        r : HoldsRoutine (length b.P.words) text b.R b.offset (cells_of code) (get_or b.R b.main no_head) (code_at b.P b.main)
        r = routine text depth b

        reads_at : data_in (cells_of code) parts l ≡ some (r.starts, r.opens)
        unfolding r
        reads_at = reading text depth b l el

        few : length r.starts + place_at (cells_of code) r.opens ≤ call_slots
        unfolding r
        few = count text depth b

        -- a cell behind the loops
        behind : (c : ℕ) → (first_window + routine_cell) ≤ c → get_or (cells_of after) c 0 ≡ get_or (cells_of mid) c 0
        behind c q = st.above r.starts r.opens c reads_at (omega (arith, few))

        zero-behind : (c : ℕ) → (first_window + routine_cell) < c → get_or (cells_of after) c 0 ≡ 0
        zero-behind c q =
            behind c (omega arith)
            ∙ ap (λ (x : List ℕ). get_or x c 0) p.words ∙ get_or-set_other (cells_of values) (first_window + routine_cell) c h 0 (λ z. omega arith)
            ∙ b.zeros c (omega (arith, b.holds.room))

        routine-cell : get_or (cells_of after) (first_window + routine_cell) 0 ≡ h
        routine-cell =
            behind (first_window + routine_cell) (omega arith) ∙ ap (λ (x : List ℕ). get_or x (first_window + routine_cell) 0) p.words
            ∙ get_or-set_same (cells_of values) (first_window + routine_cell) h 0 (omega (arith, length-words values, b.values-size))

        number : numbered b.R (get_or (cells_of after) (first_window + routine_cell) 0) ≡ b.main
        number = ap (numbered b.R) (routine-cell ∙ sym b.main-is) ∙ b.holds.apart b.main b.there

        fors-are : (code_at b.P b.main).fors ≡ place_at (cells_of code) r.opens
        fors-are = r.fors-are

        words_count : length (code_at b.P b.main).words ≡ length r.starts
        unfolding r
        words_count = ap length (words_are text depth b)

        zero-words : Holding (cells_of after) (first_window + length r.starts) (replicate (code_at b.P b.main).fors (pos 0))
        zero-words =
            holding-zeros (cells_of after) (first_window + length r.starts) (code_at b.P b.main).fors
            (omega (arith, few, fors-are, length-words after, st.long, mid-long text depth b, b.values-size))
            (λ j q. (st.idle r.starts r.opens j reads_at (omega (arith, fors-are))).0)

        fresh : FreshIn b.P b.R (cells_of after) first_window b.main 0 []
        unfolding r
        fresh = record {
          routine = number;
          starts = r.starts;
          words_are = words_are text depth b;
          holds = holding-append (cells_of after) first_window r.starts (replicate (code_at b.P b.main).fors (pos 0)) (st.is r.starts r.opens reads_at) zero-words;
          idle-are = λ j q.
              let i = st.idle r.starts r.opens j reads_at (omega (arith, fors-are)) in
              let e : first_window + length r.starts + j + ends_cell ≡ first_window + ends_cell + (length (code_at b.P b.main).words + j) = omega (arith, words_count) in
              let s : first_window + length r.starts + j + steps_cell ≡ first_window + steps_cell + (length (code_at b.P b.main).words + j) = omega (arith, words_count) in
              (sym (ap (λ (c : ℕ). get_or (cells_of after) c 0) e) ∙ i.1, sym (ap (λ (c : ℕ). get_or (cells_of after) c 0) s) ∙ i.2);
          failed = zero-behind (first_window + failed_cell) (omega arith);
          result-is = zero-behind (first_window + result_cell) (omega arith);
        }

        start_is : place_at (cells_of code) h ≡ (code_at b.P b.main).start
        start_is = ap (place_at (cells_of code)) (sym b.main-is) ∙ sym r.start_is

        call-is : call_in b.P b.R (cells_of after) first_window (place_at (cells_of code) h) ≡ new_call b.P b.main [] none
        unfolding result_in
        call-is = ap (call_in b.P b.R (cells_of after) first_window) start_is ∙ call-fresh b.P b.R (cells_of after) first_window b.main 0 [] fresh (cells_of after)

        pub begun-written : (P : Program) (R : List Head) → written_in P R (cells_of after) ≡ 0
        unfolding written_in
        begun-written P R = ap₂ (λ (x y : ℕ). x + half_part * y) (zero-behind written_cell (omega arith)) (zero-behind (suc written_cell) (omega arith))

        module-is : map (to_z w32) (take (length b.P.words) (cells_of after)) ≡ b.P.words
        module-is =
            module-same b.P (cells_of values) (cells_of after) (length-words after ∙ ap (λ (n : ℕ). n / 4) (st.long ∙ mid-long text depth b) ∙ sym (length-words values))
            (λ c x y. st.below c (omega (arith, b.holds.room)) ∙ ap (λ (z : List ℕ). get_or z c 0) p.words ∙ get_or-set_other (cells_of values) (first_window + routine_cell) c h 0 (λ z. omega (arith, b.holds.room)))
            ∙ b.words

        pub begun-state : (out : List ℕ) → state_in b.P b.R (cells_of after) 0 (place_at (cells_of code) h) 0 out ≡ started b.P b.main
        unfolding state_in started waiting
        begun-state out =
            state-eq (state_in b.P b.R (cells_of after) 0 (place_at (cells_of code) h) 0 out) (started b.P b.main)
            module-is
            (ap (λ (c : Call). c ∷ []) call-is)
            refl
            (zero-behind errno_cell (omega arith))
            (ap (λ (n : ℕ). take n out) (begun-written b.P b.R))
            (ap₂ (λ (x y : ℕ). x + half_part * y) (zero-behind used_cell (omega arith)) (zero-behind (suc used_cell) (omega arith)))

        code_is : code_of_call b.P b.R (cells_of after) 0 ≡ code_at b.P b.main
        code_is = ap (code_at b.P) number

        pub begun-live : Live b.P b.R (cells_of after) 0 (place_at (cells_of code) h)
        unfolding Below
        begun-live = record {
          top = record {
            routine = rw number b.there;
            word = ap (λ (k : ℕ). (get_or b.R k no_head).word) number ∙ b.main-is ∙ sym routine-cell;
            failed = none_failed (zero-behind (first_window + failed_cell) (omega arith));
            result = nowhere (zero-behind (first_window + result_cell) (omega arith));
          };
          named = ap₂ (λ (c : Code) (n : ℕ). is_named c.steps n) code_is start_is ∙ r.closed.starts;
          below = tt;
          errno = let z = zero-behind errno_cell (omega arith) in omega arith;
        }

      pub begun : MayBegin code values h → Begun code values after h
      begun m = record {
        long = st.long ∙ mid-long m.text m.depth m.begins;
        written = λ P R text depth b. begun-written text depth b P R;
        live = λ text depth b. begun-live text depth b;
        state = λ text depth b out. begun-state text depth b out;
      }
