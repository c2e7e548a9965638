-- What a change of the value store does to the state that it holds.
use mathlib.Core.Path.{◌≡◌, refl, sym, ap, ap₂, subst, ◌∙◌}
use mathlib.Core.List.{List, [], ◌∷◌, ◌++◌, map}
use Prim.Native.Nat.{ℕ, zero, suc, ◌+◌, ◌-◌, ◌*◌, ◌<◌, ◌≤◌}
use native.Mathlib.Omega.{arith}
use lib.ListN.{length, get_or, take, drop, set, replicate, length-set, length-replicate, get_or-eq_default}
use lib.Seq.{take-set-lt, drop-set-add, get_or-set_same}
use lib.IntN.{ℤ}
use mir.Syntax.{w32}
use mir.Val.{to_z}
use borrow.Author.Tests.{eq-eqb}
use Rattle.laws.proofs.Lists.{map-set}
use Rattle.laws.proofs.Tests.{by_less}
use Rattle.paper.specs.Steps.{Code, Program}
use Rattle.paper.specs.States.{Loop, module_slot, call_slot, Call, with_calls, with_errno, with_output, with_input, go_to, set_word, set_loop, set_failed, on_top, on_depth, store_at}
use Rattle.paper.specs.Answer.{store_words}
use Rattle.paper.specs.Running.{code_at, no_code, step_of, next_step, resume, idle}
use Rattle.store_cells.specs.Cells.{cells_of}
use Rattle.store_cells.proofs.Laws.{length-words}
use Rattle.code.specs.Cells.{window_of, first_window, errno_cell}
use Rattle.code.specs.Steps.{Head, numbered}
use Rattle.code.specs.Holds.{optionally, Holds}
use Rattle.code.specs.Windows.{ends_cell, steps_cell, routine_cell, waits_cell, after_cell, failed_cell, result_cell, written_cell, used_cell, count_at, loops_from, call_in, waiting, written_in, state_in}
use Rattle.store_reading.specs.Reading.{cell_values}
use Rattle.store_evaluation.specs.Answers.{call_slots}
use Rattle.run_machine.specs.Live.{slots_of_call, cell_of_call, code_of_call, Waits}
use Rattle.run_machine.specs.Machine.{depth_limit, Here}
use Rattle.run_machine.proofs.Agreeing.{Same, SameIn, call_cells, SameCall, set_same, set_before, set-behind, part_same, call-eq, code_same, words_same, call-loops-same, result-same, call_same, waiting-same, state-eq}

-- ---- rooms
-- Everything has its cells.
pub record Roomy (P : Program) (X : List ℕ) (d : ℕ) : Type 0 where
  pub long : length X ≡ store_words
  pub deep : d < depth_limit
  pub words : length P.words ≤ first_window
  pub calls : (k : ℕ) → slots_of_call (code_at P k) ≤ call_slots

no_room : slots_of_call no_code ≤ call_slots
unfolding no_code
no_room = omega arith

code-room : (text : List ℕ) (R : List Head) (offset : ℕ → ℕ) (C : List ℕ) (P : Program) → Holds text R offset C P → (k : ℕ) → slots_of_call (code_at P k) ≤ call_slots
unfolding code_at
code-room text R offset C P h k =
    by_less k (length R)
    (λ l. (h.routines k l).room)
    (λ l. subst (λ (c : Code). slots_of_call c ≤ call_slots) (sym (get_or-eq_default P.routines no_code (omega (arith, h.as_many)))) no_room)

pub roomy : {code values : List ℕ} {base i : ℕ} (h : Here code values base i) → Roomy h.P (cells_of values) h.d
roomy {code} {values} h = record {
  long = omega (arith, length-words values, h.values-size);
  deep = h.deep;
  words = h.holds.room;
  calls = code-room h.text h.R h.offset (cells_of code) h.P h.holds;
}

-- ---- cells of the run
pub record SameRun (X Y : List ℕ) : Type 0 where
  pub errno : Same X Y errno_cell
  pub written : Same X Y written_cell
  pub written-high : Same X Y (suc written_cell)
  pub used : count_at Y used_cell ≡ count_at X used_cell

pub count_same : (X Y : List ℕ) (c : ℕ) → Same X Y c → Same X Y (suc c) → count_at Y c ≡ count_at X c
count_same X Y c a b = ap₂ (λ (x y : ℕ). x + cell_values * y) a b

pub run_in : (X Y : List ℕ) → SameIn X Y written_cell (errno_cell + 1) → SameRun X Y
run_in X Y s = record {
  errno = s errno_cell (omega arith) (omega arith);
  written = s written_cell (omega arith) (omega arith);
  written-high = s (suc written_cell) (omega arith) (omega arith);
  used = count_same X Y used_cell (s used_cell (omega arith) (omega arith)) (s (suc used_cell) (omega arith) (omega arith));
}

pub written_same : (P : Program) (R : List Head) (X Y : List ℕ) → Same X Y written_cell → Same X Y (suc written_cell) → written_in P R Y ≡ written_in P R X
unfolding written_in
written_same P R X Y a b = count_same X Y written_cell a b

pub module-same : (P : Program) (X Y : List ℕ) → length Y ≡ length X → SameIn X Y 0 (length P.words) → map (to_z w32) (take (length P.words) Y) ≡ map (to_z w32) (take (length P.words) X)
module-same P X Y long s = ap (map (to_z w32)) (part_same X Y long 0 (length P.words) (λ c l m. s c l (omega arith)))

-- ---- the state, whatever its store
module _ (P : Program) (R : List Head) (X : List ℕ) where
  pub waiting-length : (d : ℕ) → length (waiting P R X d) ≡ d
  unfolding waiting
  waiting-length zero = refl
  waiting-length (suc d) = ap suc (waiting-length d)

  module _ (d i steps : ℕ) (out : List ℕ) where
    pub depth_is : length (state_in P R X d i steps out).calls ≡ suc d
    unfolding state_in
    depth_is = ap suc (waiting-length d)

    -- another next step
    pub goes_to : (n : ℕ) → state_in P R X d n steps out ≡ on_top (go_to n) (state_in P R X d i steps out)
    unfolding state_in call_in on_top
    goes_to n = refl

    -- a word of the newest call, by its location
    pub on-top-word : (k : ℕ) (z : ℤ) → store_at (call_slot (suc d) k) z (state_in P R X d i steps out) ≡ on_top (set_word k z) (state_in P R X d i steps out)
    unfolding state_in on_top store_at on_depth
    on-top-word k z = rw (eq-eqb (suc d) (suc (length (waiting P R X d))) (ap suc (sym (waiting-length d))), on_depth)

    -- a call on top of one that waits for it
    pub entered-state : (n : ℕ) → cell_of_call P R X d waits_cell ≡ i
        → state_in P R X (suc d) n steps out ≡ with_calls (call_in P R X (window_of (suc d)) n ∷ (state_in P R X d i steps out).calls) (state_in P R X d i steps out)
    unfolding state_in waiting
    entered-state n e =
        ap (λ (j : ℕ). record {
          words = map (to_z w32) (take (length P.words) X);
          calls = call_in P R X (window_of (suc d)) n ∷ call_in P R X (window_of d) j ∷ waiting P R X d;
          steps = steps;
          errno = get_or X errno_cell 0;
          output = take (written_in P R X) out;
          used = count_at X used_cell;
        }) e

  -- the caller that goes on
  pub resumed : (e : ℕ) → Waits P R X e → resume P (call_in P R X (window_of e) (cell_of_call P R X e waits_cell)) ≡ call_in P R X (window_of e) (cell_of_call P R X e after_cell)
  unfolding call_in resume next_step step_of
  resumed e w = ap (λ (n : ℕ). go_to n (call_in P R X (window_of e) (cell_of_call P R X e waits_cell))) (sym w.after)

  pub left-state : (e i steps : ℕ) (out : List ℕ) → Waits P R X e
      → state_in P R X e (cell_of_call P R X e after_cell) steps out
      ≡ with_calls (resume P (call_in P R X (window_of e) (cell_of_call P R X e waits_cell)) ∷ waiting P R X e) (state_in P R X (suc e) i steps out)
  unfolding state_in
  left-state e i steps out w =
      ap (λ (c : Call). record {
        words = map (to_z w32) (take (length P.words) X);
        calls = c ∷ waiting P R X e;
        steps = steps;
        errno = get_or X errno_cell 0;
        output = take (written_in P R X) out;
        used = count_at X used_cell;
      }) (sym (resumed e w))

-- ---- what a write does to a call
pub set-append-add : {A : Type 0} (x y : List A) (n : ℕ) (a : A) → set (x ++ y) (length x + n) a ≡ x ++ set y n a
set-append-add [] y n a = ap (λ (j : ℕ). set y j a) (omega arith)
set-append-add (b ∷ x) y n a =
    let q : suc (length x) + n ≡ suc (length x + n) = omega arith in
    rw q (ap (λ (r : List _). b ∷ r) (set-append-add x y n a))

module _ (P : Program) (R : List Head) (X Y : List ℕ) (base k : ℕ) (l : Loop)
    (ends : to_z w32 (get_or Y (base + ends_cell + k) 0) ≡ l.end) (steps : to_z w32 (get_or Y (base + steps_cell + k) 0) ≡ l.step)
    (else : (c : ℕ) → base + ends_cell ≤ c → c < base + routine_cell → (c ≡ base + ends_cell + k → ⊥) → (c ≡ base + steps_cell + k → ⊥) → Same X Y c) where
  pub loop-set : (f j from : ℕ) → from + f ≤ call_slots → k ≡ from + j → j < f → loops_from P R Y base f from ≡ set (loops_from P R X base f from) j l
  unfolding loops_from
  loop-set zero j from r q h = absurd (omega arith)
  loop-set (suc f) zero from r q h =
      let e : base + ends_cell + k ≡ base + ends_cell + from = omega arith in
      let s : base + steps_cell + k ≡ base + steps_cell + from = omega arith in
      ap₂ (λ (x : Loop) (y : List Loop). x ∷ y)
      (λ t. record { end = (ap (λ (c : ℕ). to_z w32 (get_or Y c 0)) (sym e) ∙ ends) t; step = (ap (λ (c : ℕ). to_z w32 (get_or Y c 0)) (sym s) ∙ steps) t })
      (later f (suc from) (omega arith) (omega arith))
    where
      later : (f from : ℕ) → from + f ≤ call_slots → k < from → loops_from P R Y base f from ≡ loops_from P R X base f from
      later zero from r h = refl
      later (suc f) from r h =
          ap₂ (λ (x : Loop) (y : List Loop). x ∷ y)
          (λ t. record {
            end = to_z w32 (else (base + ends_cell + from) (omega arith) (omega arith) (λ q. omega arith) (λ q. omega arith) t);
            step = to_z w32 (else (base + steps_cell + from) (omega arith) (omega arith) (λ q. omega arith) (λ q. omega arith) t);
          })
          (later f (suc from) (omega arith) (omega arith))
  loop-set (suc f) (suc j) from r q h =
      ap₂ (λ (x : Loop) (y : List Loop). x ∷ y)
      (λ t. record {
        end = to_z w32 (else (base + ends_cell + from) (omega arith) (omega arith) (λ z. omega arith) (λ z. omega arith) t);
        step = to_z w32 (else (base + steps_cell + from) (omega arith) (omega arith) (λ z. omega arith) (λ z. omega arith) t);
      })
      (loop-set f j (suc from) (omega arith) (omega arith) (omega arith))

-- ---- the state with a cell written
module _ (P : Program) (R : List Head) (X : List ℕ) (d : ℕ) (g : Roomy P X d) where
  -- a store that differs in the newest call's window alone, where its words, loops and marks are
  module _ (Y : List ℕ) (long : length Y ≡ length X) (below : SameIn X Y 0 (window_of d)) (run : SameRun X Y) where
    pub on-top : (f : Call → Call) (i n steps : ℕ) (out : List ℕ) → call_in P R Y (window_of d) n ≡ f (call_in P R X (window_of d) i)
        → state_in P R Y d n steps out ≡ on_top f (state_in P R X d i steps out)
    unfolding state_in on_top
    on-top f i n steps out e =
        state-eq (state_in P R Y d n steps out) (on_top f (state_in P R X d i steps out))
        (module-same P X Y long (λ c l m. below c l (omega (arith, g.words))))
        (ap₂ (λ (c : Call) (r : List Call). c ∷ r) e (waiting-same P R g.calls X Y long d (λ a h c l m. below c (omega arith) (omega arith))))
        refl
        run.errno
        (ap (λ (w : ℕ). take w out) (written_same P R X Y run.written run.written-high))
        run.used

  -- a store that differs past the newest call's window alone
  pub past : (Y : List ℕ) → length Y ≡ length X → SameIn X Y 0 (window_of (suc d)) → (i steps : ℕ) (out : List ℕ) → state_in P R Y d i steps out ≡ state_in P R X d i steps out
  unfolding state_in on_top
  past Y long s i steps out =
      on-top Y long (λ c l m. s c l (omega arith)) (run_in X Y (λ c l m. s c (omega arith) (omega arith))) (λ c. c) i i steps out
      (call_same P R g.calls X Y long (window_of d) i (λ c l m. s c (omega arith) (omega arith)))

  -- one cell of the newest call's window
  module _ (j v : ℕ) (h : j < call_cells) where
    run-set : SameRun X (set X (window_of d + j) v)
    run-set = run_in X (set X (window_of d + j) v) (λ c l m. set_same X (window_of d + j) v c (λ q. omega arith))

    top_set : (f : Call → Call) (i n steps : ℕ) (out : List ℕ) → call_in P R (set X (window_of d + j) v) (window_of d) n ≡ f (call_in P R X (window_of d) i)
        → state_in P R (set X (window_of d + j) v) d n steps out ≡ on_top f (state_in P R X d i steps out)
    top_set = on-top (set X (window_of d + j) v) (length-set X (window_of d + j) v) (set_before X (window_of d + j) v 0 (window_of d) (omega arith)) run-set

    other : (c : ℕ) → (c ≡ window_of d + j → ⊥) → Same X (set X (window_of d + j) v) c
    other c q = set_same X (window_of d + j) v c q

  -- a word of the newest call
  pub call-word : (k v i steps : ℕ) (out : List ℕ) → k < slots_of_call (code_of_call P R X d)
      → state_in P R (set X (window_of d + k) v) d i steps out ≡ on_top (set_word k (to_z w32 v)) (state_in P R X d i steps out)
  unfolding call_in
  call-word k v i steps out h =
      let m : k < call_slots = omega (arith, g.calls (numbered R (cell_of_call P R X d routine_cell))) in
      let Y : List ℕ = set X (window_of d + k) v in
      let long : length Y ≡ length X = length-set X (window_of d + k) v in
      let o : (c : ℕ) → (c ≡ window_of d + k → ⊥) → Same X Y c = other k v (omega arith) in
      let q : Same X Y (window_of d + routine_cell) = o (window_of d + routine_cell) (λ z. omega arith) in
      top_set k v (omega arith) (set_word k (to_z w32 v)) i i steps out
      (call-eq (call_in P R Y (window_of d) i) (set_word k (to_z w32 v) (call_in P R X (window_of d) i))
      (ap (numbered R) q)
      refl
      (ap (λ (c : Code). map (to_z w32) (take (slots_of_call c) (drop (window_of d) Y))) (code_same P R g.calls X Y long (window_of d) q)
      ∙ ap (λ (l : List ℕ). map (to_z w32) (take (slots_of_call (code_of_call P R X d)) l)) (drop-set-add (window_of d) X k v)
      ∙ ap (map (to_z w32)) (take-set-lt (slots_of_call (code_of_call P R X d)) (drop (window_of d) X) k v h)
      ∙ map-set (to_z w32) (take (slots_of_call (code_of_call P R X d)) (drop (window_of d) X)) k v)
      (call-loops-same P R g.calls X Y long (window_of d) q (λ c x y. o c (λ z. omega arith)) i)
      (ap optionally (o (window_of d + failed_cell) (λ z. omega arith)))
      (result-same P R g.calls X Y long (window_of d) q (o (window_of d + result_cell) (λ z. omega arith)) i))

  -- the step that failed
  pub call-failed : (f i steps : ℕ) (out : List ℕ)
      → state_in P R (set X (window_of d + failed_cell) f) d i steps out ≡ on_top (set_failed (optionally f)) (state_in P R X d i steps out)
  unfolding call_in
  call-failed f i steps out =
      let Y : List ℕ = set X (window_of d + failed_cell) f in
      let long : length Y ≡ length X = length-set X (window_of d + failed_cell) f in
      let o : (c : ℕ) → (c ≡ window_of d + failed_cell → ⊥) → Same X Y c = other failed_cell f (omega arith) in
      let q : Same X Y (window_of d + routine_cell) = o (window_of d + routine_cell) (λ z. omega arith) in
      top_set failed_cell f (omega arith) (set_failed (optionally f)) i i steps out
      (call-eq (call_in P R Y (window_of d) i) (set_failed (optionally f) (call_in P R X (window_of d) i))
      (ap (numbered R) q)
      refl
      (ap (map (to_z w32)) (words_same P R g.calls X Y long (window_of d) q (λ c l m. o c (λ z. omega arith))))
      (call-loops-same P R g.calls X Y long (window_of d) q (λ c x y. o c (λ z. omega arith)) i)
      (ap optionally (get_or-set_same X (window_of d + failed_cell) f 0 (omega (arith, g.long, g.deep))))
      (result-same P R g.calls X Y long (window_of d) q (o (window_of d + result_cell) (λ z. omega arith)) i))

  -- a cell of the newest call's window that no call is told by while it is the newest: what it waits for
  pub call-waits : (j v i steps : ℕ) (out : List ℕ) → waits_cell ≤ j → j ≤ after_cell → state_in P R (set X (window_of d + j) v) d i steps out ≡ state_in P R X d i steps out
  unfolding call_in state_in on_top
  call-waits j v i steps out a b =
      let Y : List ℕ = set X (window_of d + j) v in
      let long : length Y ≡ length X = length-set X (window_of d + j) v in
      let o : (c : ℕ) → (c ≡ window_of d + j → ⊥) → Same X Y c = other j v (omega arith) in
      let q : Same X Y (window_of d + routine_cell) = o (window_of d + routine_cell) (λ z. omega arith) in
      top_set j v (omega arith) (λ c. c) i i steps out
      (call-eq (call_in P R Y (window_of d) i) (call_in P R X (window_of d) i)
      (ap (numbered R) q)
      refl
      (ap (map (to_z w32)) (words_same P R g.calls X Y long (window_of d) q (λ c l m. o c (λ z. omega arith))))
      (call-loops-same P R g.calls X Y long (window_of d) q (λ c x y. o c (λ z. omega arith)) i)
      (ap optionally (o (window_of d + failed_cell) (λ z. omega arith)))
      (result-same P R g.calls X Y long (window_of d) q (o (window_of d + result_cell) (λ z. omega arith)) i))

  -- the loop of a FOR variable: its end and its step
  pub call-loop : (k a b p q : ℕ) → p ≡ window_of d + k + ends_cell → q ≡ window_of d + k + steps_cell → (i steps : ℕ) (out : List ℕ)
      → length (code_of_call P R X d).words ≤ k → k < slots_of_call (code_of_call P R X d)
      → state_in P R (set (set X p a) q b) d i steps out ≡ on_top (set_loop k (record { end = to_z w32 a; step = to_z w32 b })) (state_in P R X d i steps out)
  unfolding call_in
  call-loop k a b p q ep eq i steps out low h =
      let r : slots_of_call (code_of_call P R X d) ≤ call_slots = g.calls (numbered R (cell_of_call P R X d routine_cell)) in
      let Y : List ℕ = set (set X p a) q b in
      let l : Loop = record { end = to_z w32 a; step = to_z w32 b } in
      let w : ℕ = length (code_of_call P R X d).words in
      let f : ℕ = (code_of_call P R X d).fors in
      let long : length Y ≡ length X = length-set (set X p a) q b ∙ length-set X p a in
      let o : (c : ℕ) → (c ≡ p → ⊥) → (c ≡ q → ⊥) → Same X Y c = λ c x y. set_same (set X p a) q b c y ∙ set_same X p a c x in
      let s : Same X Y (window_of d + routine_cell) = o (window_of d + routine_cell) (λ z. omega arith) (λ z. omega arith) in
      let e1 : window_of d + ends_cell + k ≡ p = omega arith in
      let e2 : window_of d + steps_cell + k ≡ q = omega arith in
      let ends : get_or Y (window_of d + ends_cell + k) 0 ≡ a =
      ap (λ (c : ℕ). get_or Y c 0) e1 ∙ set_same (set X p a) q b p (λ z. omega arith) ∙ get_or-set_same X p a 0 (omega (arith, g.long, g.deep)) in
      let steps-is : get_or Y (window_of d + steps_cell + k) 0 ≡ b =
      ap (λ (c : ℕ). get_or Y c 0) e2 ∙ get_or-set_same (set X p a) q b 0 (omega (arith, length-set X p a, g.long, g.deep)) in
      let at : length (replicate w idle) + (k - w) ≡ k = omega (arith, length-replicate w idle) in
      on-top Y long (λ c x y. o c (λ z. omega arith) (λ z. omega arith)) (run_in X Y (λ c x y. o c (λ z. omega arith) (λ z. omega arith)))
      (set_loop k l) i i steps out
      (call-eq (call_in P R Y (window_of d) i) (set_loop k l (call_in P R X (window_of d) i))
      (ap (numbered R) s)
      refl
      (ap (map (to_z w32)) (words_same P R g.calls X Y long (window_of d) s (λ c x y. o c (λ z. omega arith) (λ z. omega arith))))
      (ap (λ (c : Code). replicate (length c.words) idle ++ loops_from P R Y (window_of d) c.fors (length c.words)) (code_same P R g.calls X Y long (window_of d) s)
      ∙ ap (λ (t : List Loop). replicate w idle ++ t)
      (loop-set P R X Y (window_of d) k l (ap (to_z w32) ends) (ap (to_z w32) steps-is) (λ c x y u v. o c (λ z. u (z ∙ sym e1)) (λ z. v (z ∙ sym e2))) f (k - w) w (omega arith) (omega arith) (omega arith))
      ∙ sym (set-append-add (replicate w idle) (loops_from P R X (window_of d) f w) (k - w) l)
      ∙ ap (λ (n : ℕ). set (replicate w idle ++ loops_from P R X (window_of d) f w) n l) at)
      (ap optionally (o (window_of d + failed_cell) (λ z. omega arith) (λ z. omega arith)))
      (result-same P R g.calls X Y long (window_of d) s (o (window_of d + result_cell) (λ z. omega arith) (λ z. omega arith)) i))

  -- a cell outside all calls' windows, or where these have no call's cells
  module _ (Y : List ℕ) (long : length Y ≡ length X) (windows : (e : ℕ) → e < suc d → SameCall X Y (window_of e)) where
    pub calls_same : (i : ℕ) → call_in P R Y (window_of d) i ∷ waiting P R Y d ≡ call_in P R X (window_of d) i ∷ waiting P R X d
    calls_same i =
        ap₂ (λ (c : Call) (r : List Call). c ∷ r) (call_same P R g.calls X Y long (window_of d) i (windows d (omega arith)))
        (waiting-same P R g.calls X Y long d (λ e h. windows e (omega arith)))

  -- a word of the module
  pub module-word : (k v i steps : ℕ) (out : List ℕ) → k < length P.words
      → state_in P R (set X k v) d i steps out ≡ store_at (module_slot k) (to_z w32 v) (state_in P R X d i steps out)
  unfolding state_in store_at
  module-word k v i steps out h =
      let Y : List ℕ = set X k v in
      let low : k < first_window = omega (arith, g.words) in
      let run : SameRun X Y = run_in X Y (set-behind X k v written_cell (errno_cell + 1) (omega arith)) in
      state-eq (state_in P R Y d i steps out) (store_at (module_slot k) (to_z w32 v) (state_in P R X d i steps out))
      (ap (map (to_z w32)) (take-set-lt (length P.words) X k v h) ∙ map-set (to_z w32) (take (length P.words) X) k v)
      (calls_same Y (length-set X k v) (λ e m. set-behind X k v (window_of e) (window_of e + call_cells) (omega arith)) i)
      refl
      run.errno
      (ap (λ (w : ℕ). take w out) (written_same P R X Y run.written run.written-high))
      run.used

  -- ERRNO
  pub errno-cell : (e i steps : ℕ) (out : List ℕ) → state_in P R (set X errno_cell e) d i steps out ≡ with_errno e (state_in P R X d i steps out)
  unfolding state_in
  errno-cell e i steps out =
      let Y : List ℕ = set X errno_cell e in
      let o : (c : ℕ) → (c ≡ errno_cell → ⊥) → Same X Y c = set_same X errno_cell e in
      state-eq (state_in P R Y d i steps out) (with_errno e (state_in P R X d i steps out))
      (module-same P X Y (length-set X errno_cell e) (λ c l m. o c (λ q. omega (arith, g.words))))
      (calls_same Y (length-set X errno_cell e) (λ a m c x y. o c (λ q. omega arith)) i)
      refl
      (get_or-set_same X errno_cell e 0 (omega (arith, g.long)))
      (ap (λ (w : ℕ). take w out) (written_same P R X Y (o written_cell (λ q. omega arith)) (o (suc written_cell) (λ q. omega arith))))
      (count_same X Y used_cell (o used_cell (λ q. omega arith)) (o (suc used_cell) (λ q. omega arith)))

  -- two cells above the module's words and the calls, as a count has them
  module _ (c a b : ℕ) (low : written_cell ≤ c) (high : suc c < errno_cell) where
    abbrev Z : List ℕ
    Z = set X c a

    abbrev pub with_pair : List ℕ
    with_pair = set Z (suc c) b

    pair-long : length with_pair ≡ length X
    pair-long = length-set Z (suc c) b ∙ length-set X c a

    pair-other : (k : ℕ) → (k ≡ c → ⊥) → (k ≡ suc c → ⊥) → Same X with_pair k
    pair-other k x y = set_same Z (suc c) b k y ∙ set_same X c a k x

    pair-count : count_at with_pair c ≡ a + cell_values * b
    pair-count =
        ap₂ (λ (x y : ℕ). x + cell_values * y)
        (set_same Z (suc c) b c (λ q. omega arith) ∙ get_or-set_same X c a 0 (omega (arith, g.long)))
        (get_or-set_same Z (suc c) b 0 (omega (arith, length-set X c a, g.long)))

    pair-words : map (to_z w32) (take (length P.words) with_pair) ≡ map (to_z w32) (take (length P.words) X)
    pair-words = module-same P X with_pair pair-long (λ k l m. pair-other k (λ q. omega (arith, g.words)) (λ q. omega (arith, g.words)))

    pair-calls : (i : ℕ) → call_in P R with_pair (window_of d) i ∷ waiting P R with_pair d ≡ call_in P R X (window_of d) i ∷ waiting P R X d
    pair-calls i = calls_same with_pair pair-long (λ e m k x y. pair-other k (λ q. omega arith) (λ q. omega arith)) i

    pair-errno : Same X with_pair errno_cell
    pair-errno = pair-other errno_cell (λ q. omega arith) (λ q. omega arith)

  -- inputs used
  pub used-cells : (a b i steps : ℕ) (out : List ℕ) → a + cell_values * b ≡ count_at X used_cell + 1
      → state_in P R (set (set X used_cell a) (suc used_cell) b) d i steps out ≡ with_input (state_in P R X d i steps out)
  unfolding state_in
  used-cells a b i steps out e =
      let low : written_cell ≤ used_cell = omega arith in
      let high : suc used_cell < errno_cell = omega arith in
      let Y : List ℕ = with_pair used_cell a b low high in
      state-eq (state_in P R Y d i steps out) (with_input (state_in P R X d i steps out))
      (pair-words used_cell a b low high)
      (pair-calls used_cell a b low high i)
      refl
      (pair-errno used_cell a b low high)
      (ap (λ (w : ℕ). take w out)
      (written_same P R X Y (pair-other used_cell a b low high written_cell (λ q. omega arith) (λ q. omega arith)) (pair-other used_cell a b low high (suc written_cell) (λ q. omega arith) (λ q. omega arith))))
      (pair-count used_cell a b low high ∙ e)

  -- bytes written, and output whose first bytes are those
  pub written-cells : (a b i steps : ℕ) (out out' : List ℕ)
      → state_in P R (set (set X written_cell a) (suc written_cell) b) d i steps out' ≡ with_output (take (a + cell_values * b) out') (state_in P R X d i steps out)
  unfolding state_in written_in
  written-cells a b i steps out out' =
      let low : written_cell ≤ written_cell = omega arith in
      let high : suc written_cell < errno_cell = omega arith in
      let Y : List ℕ = with_pair written_cell a b low high in
      state-eq (state_in P R Y d i steps out') (with_output (take (a + cell_values * b) out') (state_in P R X d i steps out))
      (pair-words written_cell a b low high)
      (pair-calls written_cell a b low high i)
      refl
      (pair-errno written_cell a b low high)
      (ap (λ (w : ℕ). take w out') (pair-count written_cell a b low high))
      (count_same X Y used_cell (pair-other written_cell a b low high used_cell (λ q. omega arith) (λ q. omega arith)) (pair-other written_cell a b low high (suc used_cell) (λ q. omega arith) (λ q. omega arith)))
