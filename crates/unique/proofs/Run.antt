-- The layer Run: what its promises settle. That a list is one of bytes (`Bytes`) is known of everything that is lent.
use Rattle.std.specs.Prelude.{Some, None}
use mathlib.Core.Path.{◌≡◌, refl, sym, ap, ap₂, subst, ◌∙◌}
use mathlib.Core.Bool.{Bool}
use mathlib.Core.List.{List, [], ◌++◌, map}
use Prim.Native.Nat.{ℕ, suc, ◌+◌, ◌*◌, ◌<◌, ◌≤◌}
use native.Mathlib.Omega.{arith}
use lib.ListN.{length, get_or, take, drop, take-append-drop, drop_of_length-le}
use lib.Seq.{length-take-le}
use lib.IntN.{ℤ, pos}
use mir.Syntax.{w32}
use mir.Val.{to_z}
use Rattle.laws.proofs.Tests.{apart}
use Rattle.paper.specs.Terms.{Ref, Located}
use Rattle.paper.specs.Steps.{Program}
use Rattle.paper.specs.States.{State, Rooms, with_calls}
use Rattle.paper.specs.Running.{next_step, Outcome}
use Rattle.paper.specs.Running as running
use Rattle.paper.specs.Answer.{store_words}
use Rattle.store_cells.specs.Cells.{cells_of}
use Rattle.store_cells.proofs.Laws.{Bytes, words_small}
use Rattle.store_cells.proofs.Kept.{put-unique}
use Rattle.code.specs.Cells.{window_of, errno_cell, place_at}
use Rattle.code.specs.Steps.{Head}
use Rattle.code.specs.Windows.{ends_cell, steps_cell, written_cell, used_cell, count_at, call_in, waiting, written_in, state_in}
use Rattle.layout.specs.declared.endings.Ending.{Ending}
use Rattle.layout.specs.Endings.{ending_number}
use Rattle.layout.proofs.EndingNumbers.{same-ending}
use Rattle.store_reading.specs.Reading.{cell_values}
use Rattle.check_load.proofs.Unique.{same_store}
use Rattle.run_machine.specs.Machine.{store_bytes, effect_at, Here, LastWindow, KeepsRun, Performs, Calls, Lends, Steps, Stepped}
use Rattle.run_machine.proofs.States.{depth_is}
use Rattle.run_targets.specs.Targets.{ref_cell, Tells, found, lost, Indexes, Found, Target, Spotted}
use Rattle.run_starting.specs.Starting.{Starts, Started}
use Rattle.run_errors.specs.Taken.{Taken}
use Rattle.run_errors.specs.declared.Machine.{Machine}
use Rattle.run_calls.specs.Calling.{Deepest}
use Rattle.run_errors.specs.Errors.{Raises, raises, hands_on, Settles, stops, resumes, Arisen}
use Rattle.run_undoing.specs.Dropping as drops
use Rattle.run_undoing.specs.Dropping.{Stands, Falls, gone, begins, Dropped, Quits, without, Left}
use Rattle.run_undoing.proofs.ListsLeft.{noted_here}
use Rattle.run_output.specs.Output.{count_in, Prints, Writes, Wrote, WroteOf, WasRead}
use Rattle.run_advancing.specs.declared.Turn.{Turn}
use Rattle.run_advancing.specs.declared.Turn.TheVariants.{On, Over}
use Rattle.run_advancing.specs.Turns.{told, made_with, halt, Turns, on, over, Leaves, Advances}
use Rattle.run_advancing.specs.Turns as turns
use Rattle.run_whole.specs.declared.Abort.{Abort}
use Rattle.run_whole.specs.declared.Ended.{Ended}
use Rattle.run_whole.specs.Runs.{Begins, EndsIn, Ran}
use Rattle.run_whole.specs.Runs as runs
use Rattle.run_whole.proofs.RunTold.{run-told}
use Rattle.unique.proofs.Showing.{same-cells, same-part, OneState}
use Rattle.unique.proofs.Coming.{same-depth, same_next, meet, Agrees, moved, failed, kept, answer-of, AgreesOrLacks, agreed, lacked, agree, agree-where}
use Rattle.unique.proofs.Enough.{enough}

-- ---- targets
tells-unique : (m n base : ℕ) (l : Located) (r s : ℤ) → Tells m n base l r → Tells m n base l s → r ≡ s
tells-unique m n base l r s (found w a f e) (found v b g d) = let same : w ≡ v = cc in e ∙ ap (λ (x : Ref). pos (ref_cell base x)) same ∙ sym d
tells-unique m n base l r s (found w a f e) (lost v b g d) = apart (cc)
tells-unique m n base l r s (lost w a f e) (found v b g d) = apart (cc)
tells-unique m n base l r s (lost w a f e) (lost v b g d) = let same : w ≡ v = cc in cc

pub element-unique : {code values : List ℕ} {base first size i end : ℕ} {r s : ℤ} → Indexes code base first size i end
    → Found code values base first size i end r → Found code values base first size i end s → r ≡ s
element-unique {base = base} {r = r} {s = s} x p q =
    tells-unique x.c.m x.c.n base _ r s (p.is x.c x.t x.array x.is x.fits x.first-is) (q.is x.c x.t x.array x.is x.fits x.first-is)

pub target-unique : {code values : List ℕ} {base i : ℕ} {r s : ℤ} → Target code i → Spotted code values base i r → Spotted code values base i s → r ≡ s
target-unique {base = base} {r = r} {s = s} x p q =
    tells-unique x.c.m x.c.n base _ r s
    (p.is x.c x.function x.text x.R x.s x.next x.reads) (q.is x.c x.function x.text x.R x.s x.next x.reads)

-- ---- stores
-- What two value stores share whatever a step does: the count of the output, and every byte where every cell is settled.
pub record OneStore (a b : List ℕ) : Type 0 where
  pub long : length a ≡ length b
  pub written : count_in (cells_of a) ≡ count_in (cells_of b)
  pub bytes : cells_of a ≡ cells_of b → Bytes a → Bytes b → a ≡ b

module _ (values a b : List ℕ) (size : length values ≡ store_bytes) (p : length a ≡ length values) (q : length b ≡ length values) where
  whole-store : cells_of a ≡ cells_of b → Bytes a → Bytes b → a ≡ b
  whole-store same x y =
      same_store store_words a b x y (p ∙ sym q) (omega arith) (λ k l. ap (λ (w : List ℕ). get_or w k 0) same)
      (drop_of_length-le a {i = store_bytes} (omega arith) ∙ sym (drop_of_length-le b {i = store_bytes} (omega arith)))

  one_store : count_in (cells_of a) ≡ count_in (cells_of b) → OneStore a b
  one_store count = record { long = p ∙ sym q; written = count; bytes = whole-store }

  -- Who keeps the cells of the output keeps its count.
  kept_store : KeepsRun (cells_of values) (cells_of a) → KeepsRun (cells_of values) (cells_of b) → OneStore a b
  kept_store x y =
      one_store (ap₂ (λ (m n : ℕ). m + cell_values * n)
      (x written_cell (omega arith) (omega arith) ∙ sym (y written_cell (omega arith) (omega arith)))
      (x (suc written_cell) (omega arith) (omega arith) ∙ sym (y (suc written_cell) (omega arith) (omega arith))))

-- ---- steps that make no output
-- What two results share, however many steps were made and whatever was written before: a and b are the value stores after the step, r and s the answers.
module _ {code values : List ℕ} {base i : ℕ} (h : Here code values base i) (a b : List ℕ) (r s : ℤ) where
  pub record OneStep : Type 0 where
    pub answer : r ≡ s
    pub agrees : (steps : ℕ) (out : List ℕ) → Agrees h.P h.R (cells_of code) h.d i steps (cells_of values) out (cells_of a) out r (cells_of b) out s
    pub store : OneStore a b

  -- the same of a step that may lack room
  pub record OneCall : Type 0 where
    pub agrees : (steps : ℕ) (out : List ℕ) → AgreesOrLacks h.P h.R (cells_of code) h.d i steps (cells_of values) out (cells_of a) out r (cells_of b) out s
    pub store : OneStore a b

  module _ (p : Performs code values a base i r) (q : Performs code values b base i s) where
    -- A step promises this for all rooms, so also for some with which it lacks nothing.
    performs-agree : (steps : ℕ) (out : List ℕ) → Agrees h.P h.R (cells_of code) h.d i steps (cells_of values) out (cells_of a) out r (cells_of b) out s
    unfolding effect_at
    performs-agree steps out =
        let P = h.P in
        let X = cells_of values in
        let c = call_in P h.R X (window_of h.d) i in
        let n = next_step P c in
        let g = enough P c (waiting P h.R X h.d) n.place n.after n.does (state_in P h.R X h.d i steps out) in
        agree-where P h.R (cells_of code) h.d i steps X out (cells_of a) out r (cells_of b) out s h.offset _
        (p.does h g.rooms steps out) (q.does h g.rooms steps out) g.lacks-nothing

    pub performs-unique : OneStep
    performs-unique = record {
      answer = answer-of h.P h.R (cells_of code) h.d i 0 (cells_of values) [] (cells_of a) [] r (cells_of b) [] s (performs-agree 0 []);
      agrees = performs-agree;
      store = kept_store values a b h.values-size p.long q.long p.kept q.kept;
    }

  pub calls-unique : (last : ℕ) → Deepest last → Calls code values a base last i r → Calls code values b base last i s → OneCall
  calls-unique last w p q = record {
    agrees = λ steps out.
        agree h.P h.R (cells_of code) h.d i steps (cells_of values) out (cells_of a) out r (cells_of b) out s h.offset _
        (p.does h w.rooms w.is steps out) (q.does h w.rooms w.is steps out);
    store = kept_store values a b h.values-size p.long q.long p.kept q.kept;
  }

-- ---- any step
-- The same bytes in front, and so as many.
same_count : (a b : ℕ) (o p out : List ℕ) → a ≤ length out → b ≤ length out → length o ≡ length out → length p ≡ length out → take a o ≡ take b p → a ≡ b
same_count a b o p out x y l m front = sym (length-take-le a o (omega arith)) ∙ ap length front ∙ length-take-le b p (omega arith)

-- As many of the same bytes in front, and the rest untouched.
same-output : (a b : ℕ) (o p out : List ℕ) → a ≡ b → take a o ≡ take b p → drop a o ≡ drop a out → drop b p ≡ drop b out → o ≡ p
same-output a b o p out count front rest other =
    sym (take-append-drop a o) ∙ ap₂ ◌++◌ front (rest ∙ ap (λ (n : ℕ). drop n out) count ∙ sym other) ∙ take-append-drop b p

-- a and b are the value stores after the step, o and p the outputs
module _ {code values : List ℕ} {base i : ℕ} (h : Here code values base i) (out a o b p : List ℕ) (r s : ℤ) where
  pub record OneStepped : Type 0 where
    pub agrees : (steps : ℕ) → AgreesOrLacks h.P h.R (cells_of code) h.d i steps (cells_of values) out (cells_of a) o r (cells_of b) p s
    pub output : o ≡ p
    pub store : OneStore a b

  module _ (text inputs : List ℕ) (last : ℕ) (is : h.text ≡ text) (depth : Rooms) (w : LastWindow depth last)
      (x : Stepped text code values a inputs out o base last i r) (y : Stepped text code values b inputs out p base last i s) where
    -- as much is lent as the slices have
    lent : Rooms
    lent = record { depth = depth.depth; output = length out; inputs = map (to_z w32) (cells_of inputs) }

    stepped-agree : (steps : ℕ) → AgreesOrLacks h.P h.R (cells_of code) h.d i steps (cells_of values) out (cells_of a) o r (cells_of b) p s
    unfolding lent
    stepped-agree steps =
        let deep : LastWindow lent last = record { some = w.some; most = w.most; is = w.is } in
        let lends : Lends lent inputs out = record { room = refl; reads = refl } in
        agree h.P h.R (cells_of code) h.d i steps (cells_of values) out (cells_of a) o r (cells_of b) p s h.offset _
        (x.does h is lent deep lends steps) (y.does h is lent deep lends steps)

    -- The output, and how much of it there is.
    abbrev OneOutput : Type 0
    OneOutput = (o ≡ p) × (count_in (cells_of a) ≡ count_in (cells_of b))

    state-output : (e n : ℕ) → state_in h.P h.R (cells_of a) e n 0 o ≡ state_in h.P h.R (cells_of b) e n 0 p → OneOutput
    unfolding state_in written_in
    state-output e n same =
        let front : take (count_in (cells_of a)) o ≡ take (count_in (cells_of b)) p = ap (λ (z : State). z.output) same in
        let count = same_count (count_in (cells_of a)) (count_in (cells_of b)) o p out (x.written h.P h.R) (y.written h.P h.R) x.out-long y.out-long front in
        (same-output (count_in (cells_of a)) (count_in (cells_of b)) o p out count front (x.past h.P h.R) (y.past h.P h.R), count)

    kept-output : cells_of a ≡ cells_of values → cells_of b ≡ cells_of values → o ≡ out → p ≡ out → OneOutput
    kept-output c d f g = (f ∙ sym g, ap count_in (c ∙ sym d))

    agreed-output : AgreesOrLacks h.P h.R (cells_of code) h.d i 0 (cells_of values) out (cells_of a) o r (cells_of b) p s → OneOutput
    agreed-output (agreed (moved e n c d same)) = state-output e n same.state
    agreed-output (agreed (failed e c d same)) = state-output h.d i same.state
    agreed-output (agreed (kept c d e f g)) = kept-output d e f g
    agreed-output (lacked l) = kept-output l.cells₁ l.cells₂ l.output₁ l.output₂

    pub stepped-unique : OneStepped
    stepped-unique = record {
      agrees = stepped-agree;
      output = (agreed-output (stepped-agree 0)).0;
      store = one_store values a b h.values-size x.long y.long (agreed-output (stepped-agree 0)).1;
    }

-- main alone
shallow : Rooms
shallow = record { depth = 1; output = 0; inputs = [] }

shallow-last : LastWindow shallow (window_of 0)
unfolding shallow
shallow-last = record { some = omega arith; most = omega arith; is = refl }

module _ {text code values out a o b p : List ℕ} {i : ℕ} {r s : ℤ} where
  pub step-unique : {inputs : List ℕ} {base last : ℕ} (h : Steps text code values out base last i)
      → Stepped text code values a inputs out o base last i r → Stepped text code values b inputs out p base last i s → OneStepped h.here out a o b p r s
  step-unique {inputs} {base} {last} h x y = stepped-unique h.here out a o b p r s text inputs last h.text-is h.rooms h.deepest x y

  pub write-unique : (h : Writes text code values out i) → Wrote text code values a out o i r → Wrote text code values b out p i s → OneStepped h.prints.here out a o b p r s
  write-unique h x y =
      stepped-unique h.prints.here out a o b p r s text [] (window_of 0) h.prints.text-is shallow shallow-last (x.steps [] h.base (window_of 0)) (y.steps [] h.base (window_of 0))

  pub write-of-unique : {base : ℕ} (h : Prints text code values out base i) → WroteOf text code values a out o base i r → WroteOf text code values b out p base i s
      → OneStepped h.here out a o b p r s
  write-of-unique h x y = stepped-unique h.here out a o b p r s text [] (window_of 0) h.text-is shallow shallow-last (x.steps [] (window_of 0)) (y.steps [] (window_of 0))

  pub read-unique : {inputs : List ℕ} {base : ℕ} (h : Prints text code values out base i) → WasRead text code values a inputs out o base i r → WasRead text code values b inputs out p base i s
      → OneStepped h.here out a o b p r s
  read-unique {inputs} h x y =
      stepped-unique h.here out a o b p r s text inputs (window_of 0) h.text-is shallow shallow-last (x.steps (window_of 0)) (y.steps (window_of 0))

-- ---- errors
-- The state that an outcome leaves.
state_of : Outcome → State
state_of (running.goes_on s) = s
state_of (running.stopped counted e) = e.state

-- What two results share by which an error is taken: a and b are the value stores then, t and u the answers.
module _ {code values : List ℕ} {base i : ℕ} (h : Here code values base i) (a b : List ℕ) (t u : Taken) where
  module _ (steps : ℕ) (out : List ℕ) where
    pub data OneTaken : Type 0 where
      -- the run dies: no call is named, and one state is left
      died : t ≡ None → u ≡ None → state_in h.P h.R (cells_of a) h.d i steps out ≡ state_in h.P h.R (cells_of b) h.d i steps out → OneTaken
      -- it goes on: by one call, in one state
      taken : (c : ℕ) (m : Machine) → t ≡ u → t ≡ Some m → m.base ≡ window_of c → OneState h.P h.R c m.next steps (cells_of a) out (cells_of b) out → OneTaken

    settled : (place : ℕ) (o : Outcome) → Settles h.P h.R (cells_of a) h.d i steps place out t o → Settles h.P h.R (cells_of b) h.d i steps place out u o → OneTaken
    unfolding state_of
    settled place o (stops n l e) (stops m v f) = died n m (ap state_of (sym e ∙ f))
    settled place o (stops n v e) (resumes c x z m g d l f) = apart (cc)
    settled place o (resumes c x z m g d l e) (stops n v f) = apart (cc)
    settled place o (resumes c x z n g d l e) (resumes k y w m j q v f) =
        let P = h.P in
        let R = h.R in
        let state : state_in P R (cells_of a) c x.next steps out ≡ state_in P R (cells_of b) k y.next steps out = ap state_of (sym e ∙ f) in
        let depth : c ≡ k = same-depth P R steps (cells_of a) (cells_of b) out out c x.next k y.next state in
        let next : x.next ≡ y.next = same_next P R steps (cells_of a) (cells_of b) out out c x.next k y.next state in
        let window : x.base ≡ y.base = g ∙ ap window_of depth ∙ sym j in
        let machine : x ≡ y = λ i. record { next = next i; base = window i } in
        taken c x (z ∙ ap Some machine ∙ sym w) z g (meet P R steps (cells_of a) (cells_of b) out out c x.next k y.next state l v)

  pub record OneArisen : Type 0 where
    pub settles : (steps : ℕ) (out : List ℕ) → OneTaken steps out
    pub store : OneStore a b

  module _ (r : ℤ) (p : Arisen code values a base i r t) (q : Arisen code values b base i r u) where
    arisen-taken : Raises r → (steps : ℕ) (out : List ℕ) → OneTaken steps out
    arisen-taken (raises e l is) steps out = settled steps out 0 _ (p.fails h e is steps 0 out) (q.fails h e is steps 0 out)
    arisen-taken (hands_on is) steps out = settled steps out 0 _ (p.hands h is steps 0 out) (q.hands h is steps 0 out)

    pub arise-unique : Raises r → OneArisen
    arise-unique k = record { settles = arisen-taken k; store = kept_store values a b h.values-size p.long q.long p.kept q.kept }

-- a state of no call is none of a live one
callless-not : (P : Program) (R : List Head) (k : ℕ) (X x Y y : List ℕ) (e n : ℕ) → with_calls [] (state_in P R X 0 0 k x) ≡ state_in P R Y e n k y → ⊥
callless-not P R k X x Y y e n same = omega (arith, ap (λ (s : State). length s.calls) same, depth_is P R Y e n k y)

-- ---- the UNDO lists
module _ (P : Program) (R : List Head) (X : List ℕ) (k : ℕ) (out : List ℕ) (t u : Taken) (s : State) where
  -- no call is left, or one
  none_left : (n : ℕ) (c : ℕ) → s ≡ with_calls [] (state_in P R X 0 0 k out) → s ≡ state_in P R X c n k out → t ≡ u
  none_left n c e f = absurd (callless-not P R k X out X out c n (sym e ∙ f))

  falls-unique : Falls P R X k out t s → Falls P R X k out u s → t ≡ u
  falls-unique (gone n e) (gone m f) = n ∙ sym m
  falls-unique (gone n e) (begins c x z m g d l f) = none_left x.next c e f
  falls-unique (begins c x z m g d l f) (gone n e) = none_left x.next c e f
  falls-unique (begins c x z m g d l e) (begins c' y w m' g' d' l' f) =
      let depth : c ≡ c' = same-depth P R k X X out out c x.next c' y.next (sym e ∙ f) in
      let next : x.next ≡ y.next = same_next P R k X X out out c x.next c' y.next (sym e ∙ f) in
      let window : x.base ≡ y.base = g ∙ ap window_of depth ∙ sym g' in
      let machine : x ≡ y = λ j. record { next = next j; base = window j } in
      z ∙ ap Some machine ∙ sym w

pub drop-to-unique : {code values : List ℕ} {base : ℕ} {t u : Taken} → Stands code values base → Dropped code values base t → Dropped code values base u → t ≡ u
drop-to-unique {values = values} {t = t} {u = u} s p q =
    let h = s.here in
    falls-unique h.P h.R (cells_of values) 0 [] t u _ (p.does s.i h 0 []) (q.does s.i h 0 [])

module _ {code values a b : List ℕ} {base : ℕ} {r : ℤ} {t u : Taken} (s : Stands code values base) (k : Quits r) (p : Left code values a base r t) (q : Left code values b base r u) where
  left-store : Quits r → a ≡ b
  left-store (without f) = p.notes.same f ∙ sym (q.notes.same f)
  left-store (drops.raises e l z) = put-unique values a b errno_cell e (p.notes.errno e z) (q.notes.errno e z)

  left-taken : (q' : Left code values a base r u) → t ≡ u
  left-taken q' =
      let h = noted_here code values a base s.i r p.notes k s.here in
      falls-unique h.P h.R (cells_of a) 0 [] t u _ (p.does s.i h 0 []) (q'.does s.i h 0 [])

  pub leave-unique : (t ≡ u) × (a ≡ b)
  leave-unique = (left-taken (subst (λ (x : List ℕ). Left code values x base r u) (sym (left-store k)) q), left-store k)

-- ---- a whole step
-- The end that an outcome tells; of a run that goes on nothing but its state.
end_of : Outcome → running.Ended
end_of (running.goes_on s) = record { ending = 0; place = 0; state = s }
end_of (running.stopped counted e) = e

same-writing : {values out a o b p : List ℕ} → Leaves values a out o → Leaves values b out p → take (count_in (cells_of a)) o ≡ take (count_in (cells_of b)) p → (o ≡ p) × (count_in (cells_of a) ≡ count_in (cells_of b))
same-writing {out = out} {a = a} {o = o} {b = b} {p = p} x y front =
    let count = same_count (count_in (cells_of a)) (count_in (cells_of b)) o p out (omega (arith, x.fits, x.out-long)) (omega (arith, y.fits, y.out-long)) x.out-long y.out-long front in
    (same-output (count_in (cells_of a)) (count_in (cells_of b)) o p out count front x.past y.past, count)

-- a and b are the value stores after the step, which the call with d callers makes at i, o and p the outputs
module _ (P : Program) (R : List Head) (d i steps : ℕ) (a o b p : List ℕ) (t u : Turn) where
  -- What two results share: one answer, and one state, in which the run goes on or has ended.
  pub data OneTurn : Type 0 where
    both_on : (e : ℕ) (k : Machine) → t ≡ On k → u ≡ On k → k.base ≡ window_of e → OneState P R e k.next (steps + 1) (cells_of a) o (cells_of b) p → OneTurn
    both_over : (counts : Bool) → t ≡ u → OneState P R d i (made_with counts steps) (cells_of a) o (cells_of b) p → OneTurn
    -- aborted: no call is left
    both_gone : t ≡ u → with_calls [] (state_in P R (cells_of a) 0 0 (steps + 1) o) ≡ with_calls [] (state_in P R (cells_of b) 0 0 (steps + 1) p) → OneTurn

  one-turn : OneTurn → t ≡ u
  one-turn (both_on e k x y z w) = x ∙ sym y
  one-turn (both_over c x w) = x
  one-turn (both_gone x w) = x

  front_of : OneTurn → take (count_in (cells_of a)) o ≡ take (count_in (cells_of b)) p
  unfolding state_in written_in
  front_of (both_on e k x y z w) = ap (λ (s : State). s.output) w.state
  front_of (both_over c x w) = ap (λ (s : State). s.output) w.state
  front_of (both_gone x w) = ap (λ (s : State). s.output) w

  module _ (is_aborted : Bool) (offset : ℕ → ℕ) (q : Outcome) where
    turns-unique : Turns is_aborted P R offset d i steps (cells_of a) o q t → Turns is_aborted P R offset d i steps (cells_of b) p q u → OneTurn
    unfolding state_of end_of
    turns-unique (on e m x de g l f) (on e' m' x' de' g' l' f') =
        let state : state_in P R (cells_of a) e m.next (steps + 1) o ≡ state_in P R (cells_of b) e' m'.next (steps + 1) p = ap state_of (sym f ∙ f') in
        let depth : e ≡ e' = same-depth P R (steps + 1) (cells_of a) (cells_of b) o p e m.next e' m'.next state in
        let next : m.next ≡ m'.next = same_next P R (steps + 1) (cells_of a) (cells_of b) o p e m.next e' m'.next state in
        let window : m.base ≡ m'.base = g ∙ ap window_of depth ∙ sym g' in
        let machine : m ≡ m' = λ j. record { next = next j; base = window j } in
        both_on e m x (x' ∙ ap On (sym machine)) g (meet P R (steps + 1) (cells_of a) (cells_of b) o p e m.next e' m'.next state l l')
    turns-unique (on e m x de g l f) (over n k c x' l' f') = apart (cc)
    turns-unique (on e m x de g l f) (turns.gone ab x' f') = absurd (callless-not P R (steps + 1) (cells_of b) p (cells_of a) o e m.next (ap state_of (sym f' ∙ f)))
    turns-unique (over n k c x l f) (on e' m' x' de' g' l' f') = apart (cc)
    turns-unique (over n k c x l f) (over n' k' c' x' l' f') =
        let ending : n ≡ n' = same-ending n n' (ap (λ (y : Outcome). (end_of y).ending) (sym f ∙ f')) in
        let place : k ≡ k' = ap (λ (y : Outcome). (end_of y).place) (sym f ∙ f') in
        let counts : c ≡ c' = cc in
        let state : state_in P R (cells_of a) d i (made_with c steps) o ≡ state_in P R (cells_of b) d i (made_with c steps) p = ap state_of (sym f ∙ f') ∙ ap (λ (y : Bool). state_in P R (cells_of b) d i (made_with y steps) p) (sym counts) in
        both_over c (x ∙ ap₂ (λ (y : Ending) (z : ℕ). Over (halt y (told offset (ending_number y) z) c)) ending place ∙ ap (λ (y : Bool). Over (halt n' (told offset (ending_number n') k') y)) counts ∙ sym x')
        (meet P R (made_with c steps) (cells_of a) (cells_of b) o p d i d i state l l')
    turns-unique (over n k c x l f) (turns.gone ab x' f') = apart (cc)
    turns-unique (turns.gone ab x f) (on e' m' x' de' g' l' f') = absurd (callless-not P R (steps + 1) (cells_of a) o (cells_of b) p e' m'.next (ap state_of (sym f ∙ f')))
    turns-unique (turns.gone ab x f) (over n k c x' l f') = apart (cc)
    turns-unique (turns.gone ab x f) (turns.gone ab' x' f') = both_gone (x ∙ sym x') (ap state_of (sym f ∙ f'))

pub record OneAdvanced (P : Program) (R : List Head) (d i : ℕ) (a o b p : List ℕ) (t u : Turn) : Type 0 where
  pub answer : t ≡ u
  pub output : o ≡ p
  pub turns : (steps : ℕ) → OneTurn P R d i steps a o b p t u
  pub store : OneStore a b

module _ {text code values inputs out a o b p : List ℕ} {last : ℕ} {m : Machine} {is_aborted : Bool} {t u : Turn} where
  pub advance-unique : (h : Steps text code values out m.base last m.next)
      → Advances text code values a inputs out o last m is_aborted t → Advances text code values b inputs out p last m is_aborted u → OneAdvanced h.here.P h.here.R h.here.d m.next a o b p t u
  advance-unique h x y =
      let rooms : Rooms = record { depth = h.rooms.depth; output = length out; inputs = map (to_z w32) (cells_of inputs) } in
      let deep : LastWindow rooms last = record { some = h.deepest.some; most = h.deepest.most; is = h.deepest.is } in
      let lends : Lends rooms inputs out = record { room = refl; reads = refl } in
      let P = h.here.P in
      let R = h.here.R in
      let both : (steps : ℕ) → OneTurn P R h.here.d m.next steps a o b p t u =
      λ steps. turns-unique P R h.here.d m.next steps a o b p t u is_aborted h.here.offset _ (x.is h.here h.text-is rooms deep lends steps) (y.is h.here h.text-is rooms deep lends steps) in
      let same = same-writing x.leaves y.leaves (front_of P R h.here.d m.next 0 a o b p t u (both 0)) in
      record {
        answer = one-turn P R h.here.d m.next 0 a o b p t u (both 0);
        output = same.0;
        turns = both;
        store = one_store values a b h.here.values-size x.leaves.long y.leaves.long same.1;
      }

-- ---- a new call
-- The cells that the promise speaks of: all but those between the call's words, its loops' ends and its loops' steps, which no FOR variable has.
pub data OfStart (at words fors c : ℕ) : Type 0 where
  beneath : c < at → OfStart at words fors c
  datum : (k : ℕ) → k < words → c ≡ at + k → OfStart at words fors c
  variable : (j : ℕ) → j < fors → c ≡ at + words + j → OfStart at words fors c
  its_end : (j : ℕ) → j < fors → c ≡ at + words + j + ends_cell → OfStart at words fors c
  its_step : (j : ℕ) → j < fors → c ≡ at + words + j + steps_cell → OfStart at words fors c
  behind : at + words + fors + steps_cell ≤ c → OfStart at words fors c

pub record OneStart (code before a b : List ℕ) (first at : ℕ) (h : Starts code before first at) : Type 0 where
  pub long : length a ≡ length b
  pub cells : Bytes a → Bytes b → (c : ℕ) → OfStart at (length h.starts) (place_at (cells_of code) h.opens) c → get_or (cells_of a) c 0 ≡ get_or (cells_of b) c 0

module _ (code before a b : List ℕ) (first at : ℕ) (h : Starts code before first at) (p : Started code before a first at) (q : Started code before b first at) where
  abbrev fors : ℕ
  fors = place_at (cells_of code) h.opens

  start-cells : Bytes a → Bytes b → (c : ℕ) → OfStart at (length h.starts) fors c → get_or (cells_of a) c 0 ≡ get_or (cells_of b) c 0
  start-cells x y c (beneath l) = p.below c l ∙ sym (q.below c l)
  start-cells x y c (datum k l e) =
      rw e (same-part at (length h.starts) (cells_of a) (cells_of b) (words_small a x) (words_small b y) (p.is h.starts h.opens h.reads ∙ sym (q.is h.starts h.opens h.reads)) k l)
  start-cells x y c (variable j l e) = rw e ((p.idle h.starts h.opens j h.reads l).0 ∙ sym (q.idle h.starts h.opens j h.reads l).0)
  start-cells x y c (its_end j l e) = rw e ((p.idle h.starts h.opens j h.reads l).1 ∙ sym (q.idle h.starts h.opens j h.reads l).1)
  start-cells x y c (its_step j l e) = rw e ((p.idle h.starts h.opens j h.reads l).2 ∙ sym (q.idle h.starts h.opens j h.reads l).2)
  start-cells x y c (behind l) = p.above h.starts h.opens c h.reads l ∙ sym (q.above h.starts h.opens c h.reads l)

  pub start-words-unique : OneStart code before a b first at h
  start-words-unique = record { long = p.long ∙ sym q.long; cells = start-cells }

-- ---- a run
-- The state that it ends in: one, of a live call or of none.
module _ (P : Program) (R : List Head) (X out Y out' : List ℕ) where
  pub data OneEnd : Type 0 where
    stood : (d i steps : ℕ) → OneState P R d i steps X out Y out' → OneEnd
    callless : (steps : ℕ) → with_calls [] (state_in P R X 0 0 steps out) ≡ with_calls [] (state_in P R Y 0 0 steps out') → OneEnd

  ends-unique : (n : ℕ) (S : State) → EndsIn P R X out n S → EndsIn P R Y out' n S → OneEnd
  ends-unique n S (runs.standing d i de l e) (runs.standing d' i' de' l' e') = stood d i S.steps (meet P R S.steps X Y out out' d i d' i' (sym e ∙ e') l l')
  ends-unique n S (runs.standing d i de l e) (runs.callless g e') = absurd (callless-not P R S.steps Y out' X out d i (sym e' ∙ e))
  ends-unique n S (runs.callless g e) (runs.standing d i de l e') = absurd (callless-not P R S.steps X out Y out' d i (sym e ∙ e'))
  ends-unique n S (runs.callless g e) (runs.callless g' e') = callless S.steps (sym e ∙ e')

-- What two results share: a and b are the value stores after the run, o and p the outputs, r and s the answers.
pub record OneRun (P : Program) (R : List Head) (a o b p : List ℕ) (r s : Ended) : Type 0 where
  pub answer : r ≡ s
  pub output : o ≡ p
  pub state : OneEnd P R (cells_of a) o (cells_of b) p
  pub store : OneStore a b
  -- whatever its calls
  pub errno : get_or (cells_of a) errno_cell 0 ≡ get_or (cells_of b) errno_cell 0
  pub used : count_at (cells_of a) used_cell ≡ count_at (cells_of b) used_cell
  pub words : Bytes a → Bytes b → (k : ℕ) → k < length P.words → get_or (cells_of a) k 0 ≡ get_or (cells_of b) k 0

module _ {P : Program} {R : List Head} {offset : ℕ → ℕ} {values a out o b p : List ℕ} {e : running.Ended} {r s : Ended} (size : length values ≡ store_bytes)
    (l : Leaves values a out o) (k : Leaves values b out p) (x : runs.Comes P R offset a o e r) (y : runs.Comes P R offset b p e s) where
  came-answer : r ≡ s
  came-answer =
      let ending : r.ending ≡ s.ending = same-ending r.ending s.ending (x.ending ∙ sym y.ending) in
      let place : r.place ≡ s.place = x.place ∙ sym y.place in
      let made : r.made ≡ s.made = x.made ∙ sym y.made in
      λ j. record { ending = ending j; place = place j; made = made j }

  came-unique : OneRun P R a o b p r s
  unfolding written_in
  came-unique =
      let f = run-told P R offset values a out o e r l x in
      let g = run-told P R offset values b out p e s k y in
      let n : ℕ = length e.state.output in
      record {
        answer = came-answer;
        output = sym (take-append-drop n o) ∙ ap₂ ◌++◌ (f.output ∙ sym g.output) (f.past ∙ sym g.past) ∙ take-append-drop n p;
        state = ends-unique P R (cells_of a) o (cells_of b) p e.ending e.state x.state y.state;
        store = one_store values a b size l.long k.long (f.written [] ∙ sym (g.written []));
        errno = f.errno ∙ sym g.errno;
        used = f.used ∙ sym g.used;
        words = λ i j. same-cells (length P.words) (cells_of a) (cells_of b) (words_small a i) (words_small b j) (f.words ∙ sym g.words);
      }

pub run-unique : {text code values inputs out a o b p : List ℕ} {h steps depth : ℕ} {abort : Abort} {r s : Ended} (g : Begins text code values h depth)
    → Ran text code values a inputs out o h steps depth abort r → Ran text code values b inputs out p h steps depth abort s → OneRun g.P g.R a o b p r s
run-unique {inputs = inputs} {out = out} {depth = depth} g x y =
    let rooms : Rooms = record { depth = depth; output = length out; inputs = map (to_z w32) (cells_of inputs) } in
    let lends : Lends rooms inputs out = record { room = refl; reads = refl } in
    came-unique g.values-size x.leaves y.leaves (x.is g rooms refl lends) (y.is g rooms refl lends)
