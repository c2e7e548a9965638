-- Two value stores that hold one state of a run: which cells they share. A state shows the module's words, ERRNO, and of each live call all that its window is
-- read for. Other cells may hold anything.
use mathlib.Core.Path.{◌≡◌, refl, sym, ap, ap₂, subst, ◌∙◌}
use mathlib.Core.List.{List, [], ◌∷◌, ◌++◌, map}
use Prim.Native.Nat.{ℕ, zero, suc, ◌+◌, ◌-◌, ◌/◌, ◌%◌, ◌<◌, ◌≤◌}
use native.Mathlib.Omega.{arith}
use lib.ListN.{length, get_or, take, drop, replicate, length-replicate, get_or-map}
use lib.Seq.{get_or-take, get_or-drop, drop_at}
use lib.IntN.{ℤ}
use mir.Syntax.{w32}
use mir.Val.{to_z, of_z}
use mir.Facts.{of_z-to_z}
use borrow.Author.Tests.{lt-ltb, le-ltb}
use Rattle.laws.proofs.Tests.{by_less, by_last, apart}
use Rattle.paper.specs.Steps.{Code, Program}
use Rattle.paper.specs.States.{Loop, module_slot, call_slot, Call, State, Rooms, Effect, ending}
use Rattle.paper.specs.Running.{code_at, step_named, idle, next_step, perform}
use Rattle.store_cells.proofs.Laws.{Words}
use Rattle.code.specs.Cells.{window_of, window_cells, first_window, errno_cell}
use Rattle.code.specs.Steps.{Head, no_head}
use Rattle.code.specs.Holds.{optionally}
use Rattle.code.specs.Windows.{ends_cell, steps_cell, routine_cell, waits_cell, after_cell, failed_cell, result_cell, used_cell, count_at, location_in, result_in, loops_from, call_in, waiting, state_in}
use Rattle.store_reading.specs.Reading.{cell_values}
use Rattle.run_machine.specs.Machine.{effect_at}
use Rattle.run_machine.specs.Live.{slots_of_call, cell_of_call, routine_of_call, code_of_call, Sane, Waits, Below, Live}

-- ---- numbers in cells
-- Words that stand for the same numbers are the same.
same_number : (x y : ℕ) → x < cell_values → y < cell_values → to_z w32 x ≡ to_z w32 y → x ≡ y
same_number x y p q e = sym (of_z-to_z {w = w32} (record { fits = p })) ∙ ap (of_z w32) e ∙ of_z-to_z {w = w32} (record { fits = q })

pub same-cells : (n : ℕ) (l m : List ℕ) → Words l → Words m → map (to_z w32) (take n l) ≡ map (to_z w32) (take n m) → (k : ℕ) → k < n → get_or l k 0 ≡ get_or m k 0
same-cells n l m p q e k below =
    same_number (get_or l k 0) (get_or m k 0) (p k) (q k) (sym (cell l) ∙ ap (λ (x : List ℤ). get_or x k (to_z w32 0)) e ∙ cell m)
  where
    cell : (x : List ℕ) → get_or (map (to_z w32) (take n x)) k (to_z w32 0) ≡ to_z w32 (get_or x k 0)
    cell x = get_or-map (to_z w32) (take n x) k 0 ∙ ap (to_z w32) (get_or-take n x k 0 below)

-- The same from a cell on.
pub same-part : (a n : ℕ) (l m : List ℕ) → Words l → Words m → map (to_z w32) (take n (drop a l)) ≡ map (to_z w32) (take n (drop a m)) → (k : ℕ) → k < n → get_or l (a + k) 0 ≡ get_or m (a + k) 0
same-part a n l m p q e k below =
    sym (get_or-drop a l k 0)
    ∙ same-cells n (drop a l) (drop a m) (λ j. rw (get_or-drop a l j 0) (p (a + j))) (λ j. rw (get_or-drop a m j 0) (q (a + j))) e k below
    ∙ get_or-drop a m k 0

-- How many bytes are written, and how many inputs used, stands in two cells: one count, the same cells.
pub count-cells : (X Y : List ℕ) (c : ℕ) → Words X → Words Y → count_at X c ≡ count_at Y c → (get_or X c 0 ≡ get_or Y c 0) × (get_or X (suc c) 0 ≡ get_or Y (suc c) 0)
count-cells X Y c p q e = (omega (arith, p c, q c), omega (arith, p c, q c))

-- ---- the cells of a state
-- In the window of a call of a routine: its words, its FOR variables' loops, and what it is.
pub data OfCall (c : Code) (k : ℕ) : Type 0 where
  its_word : k < slots_of_call c → OfCall c k
  loop_end : (j : ℕ) → j < c.fors → k ≡ ends_cell + (length c.words + j) → OfCall c k
  loop_step : (j : ℕ) → j < c.fors → k ≡ steps_cell + (length c.words + j) → OfCall c k
  its_routine : k ≡ routine_cell → OfCall c k
  its_failed : k ≡ failed_cell → OfCall c k
  its_result : k ≡ result_cell → OfCall c k

-- Of a call that waits, also where it is to go on.
pub data OfWaiting (k : ℕ) : Type 0 where
  its_call : k ≡ waits_cell → OfWaiting k
  its_next : k ≡ after_cell → OfWaiting k

module _ (P : Program) (R : List Head) (X : List ℕ) where
  -- where the newest call has e callers
  pub data OfState (e c : ℕ) : Type 0 where
    of_module : c < length P.words → OfState e c
    the_errno : c ≡ errno_cell → OfState e c
    the_used : c ≡ used_cell → OfState e c
    the_used_high : c ≡ suc used_cell → OfState e c
    of_live : (j k : ℕ) → j ≤ e → OfCall (code_of_call P R X j) k → c ≡ window_of j + k → OfState e c
    of_caller : (j k : ℕ) → j < e → OfWaiting k → c ≡ window_of j + k → OfState e c

-- ---- one call
same-failed : (x y : ℕ) → optionally x ≡ optionally y → x ≡ y
unfolding optionally
same-failed zero zero e = refl
same-failed zero (suc y) e = apart (cc)
same-failed (suc x) zero e = apart (cc)
same-failed (suc x) (suc y) e = cc

module _ (P : Program) (R : List Head) (X Y : List ℕ) where
  same-location : (c d : ℕ) → location_in P R X c ≡ location_in P R Y d → c ≡ d
  unfolding location_in
  same-location c d e =
      by_less c first_window
      (λ l. by_less d first_window
      (λ m. let q : module_slot c ≡ module_slot d = rw (lt-ltb c first_window l, lt-ltb d first_window m) at e in cc)
      (λ m. let q : module_slot c ≡ call_slot ((d - first_window) / window_cells + 1) ((d - first_window) % window_cells) = rw (lt-ltb c first_window l, le-ltb d first_window m) at e in apart (cc)))
      (λ l. by_less d first_window
      (λ m. let q : call_slot ((c - first_window) / window_cells + 1) ((c - first_window) % window_cells) ≡ module_slot d = rw (le-ltb c first_window l, lt-ltb d first_window m) at e in apart (cc))
      (λ m. let q : call_slot ((c - first_window) / window_cells + 1) ((c - first_window) % window_cells) ≡ call_slot ((d - first_window) / window_cells + 1) ((d - first_window) % window_cells) = rw (le-ltb c first_window l, le-ltb d first_window m) at e in
      let window : (c - first_window) / window_cells + 1 ≡ (d - first_window) / window_cells + 1 = cc in
      let cell : (c - first_window) % window_cells ≡ (d - first_window) % window_cells = cc in
      omega arith))

  same-result : (c d : ℕ) → result_in P R X c ≡ result_in P R Y d → c ≡ d
  unfolding result_in
  same-result zero zero e = refl
  same-result zero (suc d) e = apart (cc)
  same-result (suc c) zero e = apart (cc)
  same-result (suc c) (suc d) e = ap suc (same-location c d (cc))

  -- of the loops from a word on
  abbrev AlikeAt : (base k : ℕ) → Type 0
  AlikeAt base k = (get_or X (base + ends_cell + k) 0 ≡ get_or Y (base + ends_cell + k) 0) × (get_or X (base + steps_cell + k) 0 ≡ get_or Y (base + steps_cell + k) 0)

  same-loops : Words X → Words Y → (base f k : ℕ) → loops_from P R X base f k ≡ loops_from P R Y base f k → (j : ℕ) → j < f → AlikeAt base (k + j)
  unfolding loops_from
  same-loops p q base zero k e j l = absurd (omega arith)
  same-loops p q base (suc f) k e zero l =
      let ends : to_z w32 (get_or X (base + ends_cell + k) 0) ≡ to_z w32 (get_or Y (base + ends_cell + k) 0) = ap (λ (x : List Loop). (get_or x 0 idle).end) e in
      let steps : to_z w32 (get_or X (base + steps_cell + k) 0) ≡ to_z w32 (get_or Y (base + steps_cell + k) 0) = ap (λ (x : List Loop). (get_or x 0 idle).step) e in
      let at : k ≡ k + 0 = omega arith in
      subst (λ (x : ℕ). AlikeAt base x) at (same_number _ _ (p _) (q _) ends, same_number _ _ (p _) (q _) steps)
  same-loops p q base (suc f) k e (suc j) l =
      let at : suc k + j ≡ k + suc j = omega arith in
      subst (λ (x : ℕ). AlikeAt base x) at (same-loops p q base f (suc k) (ap (drop 1) e) j (omega arith))

  -- two windows of live calls that say one call, but for its next step
  module _ (p : Words X) (q : Words Y) (j n m : ℕ) (same : call_in P R X (window_of j) n ≡ call_in P R Y (window_of j) m) (x : Sane P R X j) (y : Sane P R Y j) where
    abbrev code : Code
    code = code_of_call P R X j

    same-routine : routine_of_call P R X j ≡ routine_of_call P R Y j
    unfolding call_in
    same-routine = ap (λ (c : Call). c.routine) same

    same_code : code_of_call P R Y j ≡ code
    same_code = ap (code_at P) (sym same-routine)

    words-alike : map (to_z w32) (take (slots_of_call code) (drop (window_of j) X)) ≡ map (to_z w32) (take (slots_of_call code) (drop (window_of j) Y))
    unfolding call_in
    words-alike = ap (λ (c : Call). c.words) same ∙ ap (λ (c : Code). map (to_z w32) (take (slots_of_call c) (drop (window_of j) Y))) same_code

    loops-alike : loops_from P R X (window_of j) code.fors (length code.words) ≡ loops_from P R Y (window_of j) code.fors (length code.words)
    unfolding call_in
    loops-alike =
        let L : ℕ = length code.words in
        let whole : replicate L idle ++ loops_from P R X (window_of j) code.fors L ≡ replicate L idle ++ loops_from P R Y (window_of j) code.fors L =
        ap (λ (c : Call). c.loops) same ∙ ap (λ (c : Code). replicate (length c.words) idle ++ loops_from P R Y (window_of j) c.fors (length c.words)) same_code in
        sym (drop_at (replicate L idle) _ L (length-replicate L idle)) ∙ ap (drop L) whole ∙ drop_at (replicate L idle) _ L (length-replicate L idle)

    call-cells : (k : ℕ) → OfCall code k → get_or X (window_of j + k) 0 ≡ get_or Y (window_of j + k) 0
    unfolding call_in
    call-cells k (its_word l) = same-part (window_of j) (slots_of_call code) X Y p q words-alike k l
    call-cells k (loop_end i l e) =
        let at : window_of j + ends_cell + (length code.words + i) ≡ window_of j + k = omega arith in
        subst (λ (c : ℕ). get_or X c 0 ≡ get_or Y c 0) at (same-loops p q (window_of j) code.fors (length code.words) loops-alike i l).0
    call-cells k (loop_step i l e) =
        let at : window_of j + steps_cell + (length code.words + i) ≡ window_of j + k = omega arith in
        subst (λ (c : ℕ). get_or X c 0 ≡ get_or Y c 0) at (same-loops p q (window_of j) code.fors (length code.words) loops-alike i l).1
    call-cells k (its_routine e) = rw e (sym x.word ∙ ap (λ (r : ℕ). (get_or R r no_head).word) same-routine ∙ y.word)
    call-cells k (its_failed e) = rw e (same-failed _ _ (ap (λ (c : Call). c.failed) same))
    call-cells k (its_result e) = rw e (same-result _ _ (ap (λ (c : Call). c.result) same))

  -- ---- all calls
  waiting-alike : (d : ℕ) → waiting P R X d ≡ waiting P R Y d → (j : ℕ) → j < d
      → call_in P R X (window_of j) (cell_of_call P R X j waits_cell) ≡ call_in P R Y (window_of j) (cell_of_call P R Y j waits_cell)
  unfolding waiting
  waiting-alike zero e j l = absurd (omega arith)
  waiting-alike (suc d) e j l =
      let first : call_in P R X (window_of d) (cell_of_call P R X d waits_cell) ≡ call_in P R Y (window_of d) (cell_of_call P R Y d waits_cell) = cc in
      let rest : waiting P R X d ≡ waiting P R Y d = cc in
      by_last j d l (λ q. rw q first) (λ m. waiting-alike d rest j m)

below_at : (P : Program) (R : List Head) (X : List ℕ) (d : ℕ) → Below P R X d → (j : ℕ) → j < d → Waits P R X j
unfolding Below
below_at P R X zero b j l = absurd (omega arith)
below_at P R X (suc d) b j l = by_last j d l (λ q. rw q b.0) (λ m. below_at P R X d b.1 j m)

-- ---- one state
-- X and Y hold one state, whose newest call has e callers and makes the step n next: they share what it shows.
module _ (P : Program) (R : List Head) (e n steps : ℕ) (X out Y out' : List ℕ) where
  pub record OneState : Type 0 where
    pub state : state_in P R X e n steps out ≡ state_in P R Y e n steps out'
    pub cells : Words X → Words Y → (c : ℕ) → OfState P R X e c → get_or X c 0 ≡ get_or Y c 0

  module _ (x : Live P R X e n) (y : Live P R Y e n) (same : state_in P R X e n steps out ≡ state_in P R Y e n steps out') where
    calls-alike : call_in P R X (window_of e) n ∷ waiting P R X e ≡ call_in P R Y (window_of e) n ∷ waiting P R Y e
    unfolding state_in
    calls-alike = ap (λ (s : State). s.calls) same

    rest-alike : waiting P R X e ≡ waiting P R Y e
    rest-alike = let all = calls-alike in cc

    live-cells : Words X → Words Y → (j k : ℕ) → j ≤ e → OfCall (code_of_call P R X j) k → get_or X (window_of j + k) 0 ≡ get_or Y (window_of j + k) 0
    live-cells p q j k l o =
        by_last j e (omega arith)
        (λ z.
        let all = calls-alike in
        let top : call_in P R X (window_of e) n ≡ call_in P R Y (window_of e) n = cc in
        rw z (call-cells P R X Y p q e n n top x.top y.top k (subst (λ (a : ℕ). OfCall (code_of_call P R X a) k) z o)))
        (λ m. call-cells P R X Y p q j _ _ (waiting-alike P R X Y e rest-alike j m) (below_at P R X e x.below j m).sane (below_at P R Y e y.below j m).sane k o)

    waits-alike : (j : ℕ) → j < e → cell_of_call P R X j waits_cell ≡ cell_of_call P R Y j waits_cell
    unfolding call_in
    waits-alike j l = ap (λ (c : Call). c.next) (waiting-alike P R X Y e rest-alike j l)

    after-alike : (j : ℕ) → j < e → cell_of_call P R X j after_cell ≡ cell_of_call P R Y j after_cell
    unfolding call_in
    after-alike j l =
        let routine : routine_of_call P R X j ≡ routine_of_call P R Y j = ap (λ (c : Call). c.routine) (waiting-alike P R X Y e rest-alike j l) in
        (below_at P R X e x.below j l).after
        ∙ ap₂ (λ (r w : ℕ). (step_named (code_at P r).steps w).after) routine (waits-alike j l)
        ∙ sym (below_at P R Y e y.below j l).after

    state-cells : Words X → Words Y → (c : ℕ) → OfState P R X e c → get_or X c 0 ≡ get_or Y c 0
    unfolding state_in
    state-cells p q c (of_module l) = same-cells (length P.words) X Y p q (ap (λ (s : State). s.words) same) c l
    state-cells p q c (the_errno z) = rw z (ap (λ (s : State). s.errno) same)
    state-cells p q c (the_used z) = rw z (count-cells X Y used_cell p q (ap (λ (s : State). s.used) same)).0
    state-cells p q c (the_used_high z) = rw z (count-cells X Y used_cell p q (ap (λ (s : State). s.used) same)).1
    state-cells p q c (of_live j k l o z) = rw z (live-cells p q j k l o)
    state-cells p q c (of_caller j k l (its_call a) z) = rw z (rw a (waits-alike j l))
    state-cells p q c (of_caller j k l (its_next a) z) = rw z (rw a (after-alike j l))

    pub one_state : OneState
    one_state = record { state = same; cells = state-cells }

-- ---- what it does not show
-- What a step does hangs on the state alone, so that nothing comes of what other cells hold.
effect_of : Program → Rooms → State → Effect
effect_of P rooms s =
    elim s.calls [ [] ↦ ending 1 s | c ∷ r ↦ let n = next_step P c in perform P rooms c r n.place n.after n.does s ]

pub effect-alike : (P : Program) (R : List Head) (rooms : Rooms) (d i steps : ℕ) (X out Y out' : List ℕ) → state_in P R X d i steps out ≡ state_in P R Y d i steps out'
    → effect_at P R rooms X d i steps out ≡ effect_at P R rooms Y d i steps out'
unfolding effect_at state_in effect_of
effect-alike P R rooms d i steps X out Y out' same = ap (effect_of P rooms) same
