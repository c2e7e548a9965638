-- A run that may be aborted: how many steps come before, and what follows.
use mathlib.Core.Path.{◌≡◌, refl, sym, ap, subst, ◌∙◌}
use mathlib.Core.Bool.{Bool, false}
use mathlib.Core.List.{List, map}
use Prim.Native.Nat.{ℕ, ◌+◌, ◌-◌, ◌<◌, ◌≤◌}
use native.Mathlib.Omega.{arith}
use lib.ListN.{length}
use mir.Syntax.{w32}
use mir.Val.{to_z}
use borrow.Author.Tests.{lt-ltb, le-ltb, eq-eqb, ne_eqb}
use Rattle.laws.proofs.Tests.{false-true}
use Rattle.std.specs.Prelude.{if◌then◌else◌}
use Rattle.paper.specs.Steps.{Program}
use Rattle.paper.specs.States.{State, Rooms, with_calls}
use Rattle.paper.specs.Running.{run, started}
use Rattle.paper.specs.Running as running
use Rattle.paper.specs.Undoing.{dropping, undoing, aborting, run_abort}
use Rattle.store_cells.specs.Cells.{cells_of}
use Rattle.code.specs.Cells.{window_of}
use Rattle.code.specs.Windows.{state_in}
use Rattle.layout.specs.declared.endings.Ending.TheVariants.{StepsSpent}
use Rattle.layout.specs.Endings.{ending_number}
use Rattle.layout.proofs.EndingNumbers.{same-ending}
use Rattle.run_machine.specs.Live.{Live}
use Rattle.run_machine.specs.Machine.{depth_limit, Here, LastWindow, Lends}
use Rattle.run_advancing.proofs.Answers.{leaves-then}
use Rattle.run_whole.specs.declared.Abort.{Abort}
use Rattle.run_whole.specs.declared.Abort.TheVariants.{Never, At}
use Rattle.run_whole.specs.declared.Ended.{Ended}
use Rattle.run_whole.specs.declared.Walked.{Walked}
use Rattle.run_whole.specs.Runs.{Begins, abort_of, allowed_by, Comes, Ran}
use Rattle.run_whole.specs.Walks.{Halts, stands, falls, SetsOut, Strikes, Undoes}
use Rattle.run_whole.proofs.RunEnds.{halts-comes}

module _ (steps : ℕ) (abort : Abort) where
  pub allowed-never : abort ≡ Never → steps ≡ allowed_by steps abort
  unfolding allowed_by
  allowed-never e = sym (ap (allowed_by steps) e)

  module _ (at undo : ℕ) (e : abort ≡ At at undo) where
    pub allowed-below : steps < at → steps ≡ allowed_by steps abort
    unfolding allowed_by
    allowed-below h = sym (ap (allowed_by steps) e ∙ ap (λ (b : Bool). if b then steps else at) (lt-ltb steps at h))

    pub allowed_at : at ≤ steps → at ≡ allowed_by steps abort
    unfolding allowed_by
    allowed_at h = sym (ap (allowed_by steps) e ∙ ap (λ (b : Bool). if b then steps else at) (le-ltb steps at h))

-- ---- what the paper's run comes to then
module _ (P : Program) (rooms : Rooms) (steps n : ℕ) (s : State) (abort : Abort) (allowed : n ≡ allowed_by steps abort) where
  never-plain : abort ≡ Never → run_abort P rooms steps (abort_of abort) s ≡ run P rooms n s
  unfolding run_abort abort_of
  never-plain e =
      ap (λ (x : Abort). run_abort P rooms steps (abort_of x) s) e ∙ ap (λ (k : ℕ). run P rooms k s) (sym (allowed ∙ sym (allowed-never steps abort e)))

  module _ (at undo : ℕ) (e : abort ≡ At at undo) where
    below_plain : steps < at → run_abort P rooms steps (abort_of abort) s ≡ run P rooms n s
    unfolding run_abort abort_of
    below_plain h =
        ap (λ (x : Abort). run_abort P rooms steps (abort_of x) s) e
        ∙ ap (λ (t : Bool). if t then run P rooms steps s else aborting P rooms undo (run P rooms at s)) (lt-ltb steps at h)
        ∙ ap (λ (k : ℕ). run P rooms k s) (sym (allowed ∙ sym (allowed-below steps abort at undo e h)))

    at-aborts : at ≤ steps → run_abort P rooms steps (abort_of abort) s ≡ aborting P rooms undo (run P rooms n s)
    unfolding run_abort abort_of
    at-aborts h =
        ap (λ (x : Abort). run_abort P rooms steps (abort_of x) s) e
        ∙ ap (λ (t : Bool). if t then run P rooms steps s else aborting P rooms undo (run P rooms at s)) (le-ltb steps at h)
        ∙ ap (λ (k : ℕ). aborting P rooms undo (run P rooms k s)) (sym (allowed ∙ sym (allowed_at steps abort at undo e h)))

aborting-not : (P : Program) (rooms : Rooms) (undo : ℕ) (e : running.Ended) → (e.ending ≡ 5 → ⊥) → aborting P rooms undo e ≡ e
unfolding aborting
aborting-not P rooms undo e d = ap (λ (t : Bool). if t then undoing P rooms undo (with_calls (dropping P e.state.calls) e.state) else e) (ne_eqb e.ending 5 d)

aborting-so : (P : Program) (rooms : Rooms) (undo : ℕ) (e : running.Ended) → e.ending ≡ 5 → aborting P rooms undo e ≡ undoing P rooms undo (with_calls (dropping P e.state.calls) e.state)
unfolding aborting
aborting-so P rooms undo e d = ap (λ (t : Bool). if t then undoing P rooms undo (with_calls (dropping P e.state.calls) e.state) else e) (eq-eqb e.ending 5 d)

-- ---- each return of `run`
module _ (text code values inputs out : List ℕ) (h n depth : ℕ) (b : Begins text code values h depth) (after out' : List ℕ) (w : Walked) (so : SetsOut text code values after inputs out out' h n depth w) where
  abbrev Started : (c : Begins text code values h depth) → State
  Started c = started c.P c.main

  abbrev H : Begins text code values h depth → Rooms → Type 0
  H c rooms = Halts false c.P c.R c.offset (run c.P rooms n (Started c)) (cells_of after) out' 0 n w

  -- the walk tells how the paper's run ends
  ending-is : (c : Begins text code values h depth) (rooms : Rooms) → H c rooms → ending_number w.ending ≡ (run c.P rooms n (Started c)).ending
  ending-is c rooms (stands d i de q lv e p s) = e
  ending-is c rooms (falls ab e p g s) = false-true ab

  abbrev plain : Ended
  plain = record { ending = w.ending; place = w.place; made = n - w.left }

  ran-plainly : (c : Begins text code values h depth) (rooms : Rooms) → rooms.depth ≡ depth → Lends rooms inputs out → Comes c.P c.R c.offset after out' (run c.P rooms n (Started c)) plain
  ran-plainly c rooms e l = let z : n - w.left ≡ 0 + (n - w.left) = omega arith in halts-comes false c.P c.R c.offset _ after out' 0 n w (so.is c rooms e l) plain refl refl z

  module _ (steps : ℕ) (abort : Abort) (allowed : n ≡ allowed_by steps abort) where
    -- the paper's run is the plain one
    ran-as : ((c : Begins text code values h depth) (rooms : Rooms) → rooms.depth ≡ depth → Lends rooms inputs out → run_abort c.P rooms steps (abort_of abort) (Started c) ≡ run c.P rooms n (Started c))
        → Ran text code values after inputs out out' h steps depth abort plain
    ran-as f = record {
      leaves = so.leaves;
      is = λ c rooms e l. subst (λ (x : running.Ended). Comes c.P c.R c.offset after out' x plain) (sym (f c rooms e l)) (ran-plainly c rooms e l);
    }

    pub run-never : abort ≡ Never → Ran text code values after inputs out out' h steps depth abort plain
    run-never e = ran-as (λ c rooms d l. never-plain c.P rooms steps n (Started c) abort allowed e)

    module _ (at undo : ℕ) (e : abort ≡ At at undo) where
      pub run-below : steps < at → Ran text code values after inputs out out' h steps depth abort plain
      run-below g = ran-as (λ c rooms d l. below_plain c.P rooms steps n (Started c) abort allowed at undo e g)

      -- it ended before
      pub run-through : at ≤ steps → (w.ending ≡ StepsSpent → ⊥) → Ran text code values after inputs out out' h steps depth abort plain
      run-through g ns = ran-as (λ c rooms d l.
          at-aborts c.P rooms steps n (Started c) abort allowed at undo e g
          ∙ aborting-not c.P rooms undo (run c.P rooms n (Started c)) (λ z. ns (same-ending w.ending StepsSpent (ending-is c rooms (so.is c rooms d l) ∙ z))))

  -- it is aborted
  module _ (sp : w.ending ≡ StepsSpent) where
    pub record Stood (c : Begins text code values h depth) (rooms : Rooms) : Type 0 where
      pub d : ℕ
      pub i : ℕ
      pub deep : d < depth_limit
      pub base-is : w.base ≡ window_of d
      pub live : Live c.P c.R (cells_of after) d i
      pub ending : (run c.P rooms n (Started c)).ending ≡ 5
      pub state : (run c.P rooms n (Started c)).state ≡ state_in c.P c.R (cells_of after) d i (n - w.left) out'

    stood : (c : Begins text code values h depth) (rooms : Rooms) → H c rooms → Stood c rooms
    stood c rooms (stands d i de q lv e p s) =
        let k : 0 + (n - w.left) ≡ n - w.left = omega arith in
        record { d = d; i = i; deep = de; base-is = q; live = lv; ending = sym e ∙ ap ending_number sp; state = s ∙ ap (λ (j : ℕ). state_in c.P c.R (cells_of after) d i j out') k }
    stood c rooms (falls ab e p g s) = false-true ab

    abbrev stood-here : (c : Begins text code values h depth) (rooms : Rooms) → (s : Stood c rooms) → Here code after w.base s.i
    stood-here c rooms s = record {
      text = text;
      P = c.P;
      R = c.R;
      offset = c.offset;
      holds = c.holds;
      code-size = c.code-size;
      values-size = so.leaves.long ∙ c.values-size;
      d = s.d;
      deep = s.deep;
      base-is = s.base-is;
      live = s.live;
    }

    -- as much is lent as the slices have
    lent : Rooms
    lent = record { depth = depth; output = length out; inputs = map (to_z w32) (cells_of inputs) }

    given : Stood b lent
    unfolding lent
    given = stood b lent (so.is b lent refl (record { room = refl; reads = refl }))

    module _ (last : ℕ) (el : last ≡ window_of (depth - 1)) where
      last_of : (c : Begins text code values h depth) (rooms : Rooms) → rooms.depth ≡ depth → LastWindow rooms last
      last_of c rooms e = record { some = omega (arith, c.some); most = omega (arith, c.most); is = el ∙ sym (ap (λ (k : ℕ). window_of (k - 1)) e) }

      pub run-strikes : Strikes text code after out' w.base last
      unfolding lent
      run-strikes = record {
        i = given.i;
        here = stood-here b lent given;
        text-is = refl;
        rooms = lent;
        deepest = last_of b lent refl;
        room = so.leaves.fits;
      }

      module _ (steps : ℕ) (abort : Abort) (allowed : n ≡ allowed_by steps abort) (at undo : ℕ) (e : abort ≡ At at undo) (g : at ≤ steps)
          (after2 out2 : List ℕ) (rec : Ended) (ud : Undoes text code after after2 inputs out' out2 w.base last (n - w.left) undo rec) where
        pub run-struck : Ran text code values after2 inputs out out2 h steps depth abort rec
        unfolding state_in
        run-struck = record {
          leaves = leaves-then values after after2 out out' out2 so.leaves ud.leaves;
          is = λ c rooms d l.
              let s = stood c rooms (so.is c rooms d l) in
              subst (λ (x : running.Ended). Comes c.P c.R c.offset after2 out2 x rec)
              (sym (at-aborts c.P rooms steps n (Started c) abort allowed at undo e g
              ∙ aborting-so c.P rooms undo (run c.P rooms n (Started c)) s.ending
              ∙ ap (λ (x : State). undoing c.P rooms undo (with_calls (dropping c.P x.calls) x)) s.state))
              (ud.is s.i (stood-here c rooms s) refl rooms (last_of c rooms d) (record { room = l.room ∙ sym so.leaves.out-long; reads = l.reads }));
        }
