-- Where a walk has ended the run has, or it is aborted: what is answered, and what the stores hold. From main's first step on, and from the first UNDO list on.
use mathlib.Core.Path.{◌≡◌, refl, sym, ap, ap₂, subst, ◌∙◌}
use mathlib.Core.Bool.{Bool, true, false}
use mathlib.Core.List.{List, [], ◌∷◌}
use Prim.Native.Nat.{ℕ, suc, ◌+◌, ◌-◌, ◌*◌, ◌<◌, ◌≤◌}
use native.Mathlib.Omega.{arith}
use lib.ListN.{length}
use Rattle.paper.specs.Steps.{Program}
use Rattle.paper.specs.States.{State, Rooms, with_calls}
use Rattle.paper.specs.Running.{run, started}
use Rattle.paper.specs.Running as running
use Rattle.paper.specs.Undoing.{dropping, undoing}
use Rattle.store_cells.specs.Cells.{cells_of}
use Rattle.code.specs.Cells.{place_at, window_of, first_window}
use Rattle.code.specs.Steps.{Head}
use Rattle.code.specs.Windows.{written_cell, call_in, waiting, state_in}
use Rattle.layout.specs.Parts.{half_part}
use Rattle.run_machine.specs.Live.{Live}
use Rattle.run_machine.specs.Machine.{depth_limit, Here, LastWindow, Steps}
use Rattle.run_machine.proofs.Elsewhere.{elsewhere}
use Rattle.run_output.proofs.OneLine.{count-is}
use Rattle.std.specs.Prelude.{Some, None}
use Rattle.layout.specs.declared.endings.Ending.TheVariants.{Aborted}
use Rattle.layout.specs.Endings.{ending_number}
use Rattle.run_errors.specs.Taken.{Taken}
use Rattle.run_errors.specs.declared.Machine.{Machine}
use Rattle.run_undoing.specs.Dropping as drops
use Rattle.run_undoing.specs.Dropping.{Falls, gone, begins, Dropped}
use Rattle.run_advancing.specs.Turns.{told, written, Leaves}
use Rattle.run_advancing.proofs.Answers.{leaves_nothing}
use Rattle.run_whole.specs.declared.Ended.{Ended}
use Rattle.run_whole.specs.declared.Walked.{Walked}
use Rattle.run_whole.specs.Runs.{Begins, Begun, standing, callless, Comes}
use Rattle.run_whole.specs.Walks.{goes, Halts, stands, falls, Walks, SetsOut, Strikes, Undoes}
use Rattle.run_whole.proofs.RunBegins.{begin-in}
use Rattle.run_whole.proofs.Walking.{undoing-gone}

-- ---- what a walk tells
module _ (a : Bool) (P : Program) (R : List Head) (offset : ℕ → ℕ) (all : running.Ended) (after out : List ℕ) (before steps : ℕ) (w : Walked) where
  -- a state says itself how many steps were made
  steps_of : (d i k : ℕ) (S : State) → S ≡ state_in P R (cells_of after) d i k out → S.steps ≡ k
  unfolding state_in
  steps_of d i k S e = ap (λ (x : State). x.steps) e

  steps-gone : (k : ℕ) (S : State) → S ≡ with_calls [] (state_in P R (cells_of after) 0 0 k out) → S.steps ≡ k
  unfolding state_in
  steps-gone k S e = ap (λ (x : State). x.steps) e

  pub halts-comes : Halts a P R offset all (cells_of after) out before steps w → (r : Ended) → r.ending ≡ w.ending → r.place ≡ w.place → r.made ≡ before + (steps - w.left) → Comes P R offset after out all r
  halts-comes (stands d i de b lv e p s) r re rp rm =
      let k : all.state.steps ≡ before + (steps - w.left) = steps_of d i (before + (steps - w.left)) all.state s in
      record {
        ending = ap ending_number re ∙ e;
        place = rp ∙ p;
        made = rm ∙ sym k;
        state = standing d i de lv (s ∙ ap (λ (j : ℕ). state_in P R (cells_of after) d i j out) (sym k));
      }
  halts-comes (falls ab e p g s) r re rp rm =
      let k : all.state.steps ≡ before + (steps - w.left) = steps-gone (before + (steps - w.left)) all.state s in
      record {
        ending = ap ending_number (re ∙ e) ∙ sym g;
        place = rp ∙ p ∙ sym (ap (λ (n : ℕ). told offset n all.place) g);
        made = rm ∙ sym k;
        state = callless g (s ∙ ap (λ (j : ℕ). with_calls [] (state_in P R (cells_of after) 0 0 j out)) (sym k));
      }

-- ---- from main's first step on
module _ (text code values : List ℕ) (h depth : ℕ) where
  no_output : Begins text code values h depth → written values ≡ 0
  no_output b = ap₂ (λ (x y : ℕ). x + half_part * y) (b.zeros written_cell (omega (arith, b.holds.room))) (b.zeros (suc written_cell) (omega (arith, b.holds.room)))

  pub out-place : Begins text code values h depth → h * 8 + 8 ≤ length code
  out-place b = begin-in code values h (record { text = text; depth = depth; begins = b })

  module _ (values₀ : List ℕ) (bg : Begun code values values₀ h) (i₀ : ℕ) (ei : i₀ ≡ place_at (cells_of code) h) (last : ℕ) (el : last ≡ window_of (depth - 1)) where
    abbrev pub first-here : Begins text code values h depth → Here code values₀ first_window i₀
    first-here c = record {
      text = text;
      P = c.P;
      R = c.R;
      offset = c.offset;
      holds = c.holds;
      code-size = c.code-size;
      values-size = bg.long ∙ c.values-size;
      d = 0;
      deep = omega arith;
      base-is = refl;
      live = subst (Live c.P c.R (cells_of values₀) 0) (sym ei) (bg.live text depth c);
    }

    pub last_of : Begins text code values h depth → (rooms : Rooms) → rooms.depth ≡ depth → LastWindow rooms last
    last_of c rooms e = record { some = omega (arith, c.some); most = omega (arith, c.most); is = el ∙ sym (ap (λ (n : ℕ). window_of (n - 1)) e) }

    pub first-state : (b : Begins text code values h depth) (out : List ℕ) → state_in b.P b.R (cells_of values₀) 0 i₀ 0 out ≡ started b.P b.main
    first-state b out = ap (λ (j : ℕ). state_in b.P b.R (cells_of values₀) 0 j 0 out) ei ∙ bg.state text depth b out

    -- nothing is written as it begins
    pub out-leaves : {after out out' : List ℕ} → Begins text code values h depth → Leaves values₀ after out out' → Leaves values after out out'
    out-leaves b l =
        let zero-count : written values ≡ 0 = no_output b in
        record { long = l.long ∙ bg.long; out-long = l.out-long; grows = omega arith; fits = l.fits; past = l.past }

    alone : Rooms
    alone = record { depth = depth; output = 0; inputs = [] }

    pub out-steps : (out : List ℕ) → Begins text code values h depth → Steps text code values₀ out first_window last i₀
    unfolding alone
    out-steps out b = record {
      here = first-here b;
      text-is = refl;
      rooms = alone;
      deepest = last_of b alone refl;
      written = omega (arith, bg.written b.P b.R text depth b);
    }

    pub sets-out : (inputs out after out' : List ℕ) (steps : ℕ) (w : Walked) → Begins text code values h depth
        → Walks text code values₀ after inputs out out' last (record { next = i₀; base = first_window }) steps false w → SetsOut text code values after inputs out out' h steps depth w
    unfolding goes
    sets-out inputs out after out' steps w b₀ k = record {
      leaves = out-leaves b₀ k.leaves;
      fewer = k.fewer;
      is = λ b rooms e l.
          subst (λ (s : State). Halts false b.P b.R b.offset (run b.P rooms steps s) (cells_of after) out' 0 steps w) (first-state b out)
          (k.is (first-here b) refl rooms (last_of b rooms e) l 0);
    }

-- ---- from the first UNDO list on
module _ (text code values out : List ℕ) (base last : ℕ) (st : Strikes text code values out base last) where
  pub struck-stands : drops.Stands code values base
  struck-stands = record { i = st.i; here = st.here }

  module _ (t : Taken) (dropped : Dropped code values base t) where
    -- the state with its calls dropped
    abbrev struck : (i : ℕ) (h : Here code values base i) (k : ℕ) → State
    struck i h k = with_calls (dropping h.P (call_in h.P h.R (cells_of values) (window_of h.d) i ∷ waiting h.P h.R (cells_of values) h.d)) (state_in h.P h.R (cells_of values) h.d i k out)

    -- no call has one
    module _ (z : t ≡ None) (inputs : List ℕ) (at most : ℕ) where
      none-by : (i : ℕ) (h : Here code values base i) (rooms : Rooms) (s : State) → Falls h.P h.R (cells_of values) at out t s
          → Comes h.P h.R h.offset values out (undoing h.P rooms most s) (record { ending = Aborted; place = 0; made = at })
      unfolding state_in
      none-by i h rooms s (gone e q) =
          subst (λ (x : running.Ended). Comes h.P h.R h.offset values out x (record { ending = Aborted; place = 0; made = at }))
          (sym (ap (undoing h.P rooms most) q ∙ undoing-gone h.P rooms most (state_in h.P h.R (cells_of values) 0 0 at out)))
          (record { ending = refl; place = refl; made = refl; state = callless refl refl })
      none-by i h rooms s (begins c m e g b de lv q) = let k : None ≡ Some m = sym z ∙ e in cc

      pub undo-none : Undoes text code values values inputs out out base last at most (record { ending = Aborted; place = 0; made = at })
      undo-none = record { leaves = leaves_nothing values out st.room; is = λ i h x rooms lw l. none-by i h rooms _ (dropped.does i h at out) }

    -- the list of a call begins
    module _ (m : Machine) (tm : t ≡ Some m) where
      pub record Opens (i : ℕ) (h : Here code values base i) (k : ℕ) (s : State) : Type 0 where
        pub c : ℕ
        pub base-is : m.base ≡ window_of c
        pub deep : c < depth_limit
        pub live : Live h.P h.R (cells_of values) c m.next
        pub state : s ≡ state_in h.P h.R (cells_of values) c m.next k out

      opens : (i : ℕ) (h : Here code values base i) (k : ℕ) (s : State) → Falls h.P h.R (cells_of values) k out t s → Opens i h k s
      opens i h k s (gone e q) = let z : None ≡ Some m = sym e ∙ tm in cc
      opens i h k s (begins c j e g b de lv q) =
          let same : j ≡ m = let z : Some j ≡ Some m = sym e ∙ tm in cc in
          record {
            c = c;
            base-is = sym (ap (λ (y : Machine). y.base) same) ∙ b;
            deep = de;
            live = subst (λ (y : Machine). Live h.P h.R (cells_of values) c y.next) same lv;
            state = q ∙ ap (λ (y : Machine). state_in h.P h.R (cells_of values) c y.next k out) same;
          }

      abbrev opened : (i : ℕ) (h : Here code values base i) (k : ℕ) → Opens i h k (struck i h k)
      opened i h k = opens i h k (struck i h k) (dropped.does i h k out)

      abbrev list-here : (i : ℕ) (h : Here code values base i) (k : ℕ) → Here code values m.base m.next
      list-here i h k = let o = opened i h k in elsewhere h values o.c m.base m.next refl o.deep o.base-is o.live

      pub undo-steps : Steps text code values out m.base last m.next
      undo-steps = record {
        here = list-here st.i st.here 0;
        text-is = st.text-is;
        rooms = st.rooms;
        deepest = st.deepest;
        written = subst (λ (k : ℕ). k ≤ length out) (sym (count-is st.here.P st.here.R (cells_of values))) st.room;
      }

      pub undo-walked : (inputs after out' : List ℕ) (at most : ℕ) (w : Walked) → Walks text code values after inputs out out' last m most true w
          → Undoes text code values after inputs out out' base last at most (record { ending = w.ending; place = w.place; made = at + (most - w.left) })
      unfolding goes
      undo-walked inputs after out' at most w k = record {
        leaves = k.leaves;
        is = λ i h x rooms lw l.
            let o = opened i h at in
            subst (λ (y : running.Ended). Comes h.P h.R h.offset after out' y (record { ending = w.ending; place = w.place; made = at + (most - w.left) }))
            (sym (ap (undoing h.P rooms most) o.state))
            (halts-comes true h.P h.R h.offset _ after out' at most w (k.is (list-here i h at) x rooms lw l at) (record { ending = w.ending; place = w.place; made = at + (most - w.left) }) refl refl refl);
      }
