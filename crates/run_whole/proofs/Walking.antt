-- A walk from step to step: what is left of it after so many, and how each goes on.
use mathlib.Core.Path.{◌≡◌, refl, sym, ap, subst, ◌∙◌}
use mathlib.Core.Bool.{Bool, true, false}
use mathlib.Core.List.{List, [], map}
use Prim.Native.Nat.{ℕ, zero, suc, ◌+◌, ◌-◌, ◌*◌, ◌<◌, ◌≤◌}
use native.Mathlib.Omega.{arith}
use lib.ListN.{length}
use mir.Syntax.{w32}
use mir.Val.{to_z}
use Rattle.laws.proofs.Tests.{apart}
use Rattle.paper.specs.Steps.{Program}
use Rattle.paper.specs.States.{State, Rooms, with_calls}
use Rattle.paper.specs.Running.{next_step, step_of, Outcome, goes_on, stopped, take_step, next_place, run}
use Rattle.paper.specs.Running as running
use Rattle.paper.specs.Undoing.{undoing, aborted}
use Rattle.store_cells.specs.Cells.{cells_of}
use Rattle.code.specs.Cells.{window_of, place_at}
use Rattle.code.specs.Steps.{Head}
use Rattle.code.specs.Windows.{call_in, state_in}
use Rattle.run_machine.specs.Live.{Live}
use Rattle.run_machine.specs.Machine.{depth_limit, Here, LastWindow, Lends, Steps}
use Rattle.run_machine.proofs.Current.{place_here, step-in}
use Rattle.run_machine.proofs.Elsewhere.{elsewhere}
use Rattle.run_output.proofs.OneLine.{count-is}
use Rattle.layout.specs.declared.endings.Ending.{Ending}
use Rattle.layout.specs.declared.endings.Ending.TheVariants.{StepsSpent, UndoSpent, Aborted}
use Rattle.layout.specs.Endings.{ending_number}
use Rattle.run_errors.specs.declared.Machine.{Machine}
use Rattle.run_advancing.specs.declared.Halt.{Halt}
use Rattle.run_advancing.specs.declared.Turn.{Turn}
use Rattle.run_advancing.specs.declared.Turn.TheVariants.{On, Over}
use Rattle.run_advancing.specs.Turns.{halt, turned, told, made_with, Turns, on, over, gone, Leaves, Advances}
use Rattle.run_advancing.proofs.Answers.{leaves-then, leaves_nothing}
use Rattle.run_whole.specs.declared.Walked.{Walked}
use Rattle.run_whole.specs.Walks.{goes, spent_by, left_with, Halts, stands, falls, Walks}

-- ---- the rules
-- What comes of a step, with so many after it.
unfoldable follows : (is_aborted : Bool) → Program → Rooms → (left : ℕ) → Outcome → running.Ended
follows a P R n (goes_on s) = goes a P R n s
follows a P R n (stopped c e) = e

module _ (P : Program) (rooms : Rooms) (R : List Head) (X : List ℕ) (d i k : ℕ) (out : List ℕ) where
  abbrev state : State
  state = state_in P R X d i k out

  abbrev place-next : ℕ
  place-next = (next_step P (call_in P R X (window_of d) i)).place

  goes_step : (a : Bool) (n : ℕ) → goes a P rooms (suc n) state ≡ follows a P rooms n (turned a P rooms state)
  unfolding goes follows run undoing turned state_in
  goes_step false n = steps (take_step P rooms state)
    where
      steps : (o : Outcome) → (elim o as (λ _. running.Ended) [ goes_on s ↦ run P rooms n s | stopped c e ↦ e ]) ≡ follows false P rooms n o
      steps (goes_on s) = refl
      steps (stopped c e) = refl
  goes_step true n = steps (turned true P rooms state)
    where
      steps : (o : Outcome) → (elim o as (λ _. running.Ended) [ goes_on s ↦ undoing P rooms n s | stopped c e ↦ e ]) ≡ follows true P rooms n o
      steps (goes_on s) = refl
      steps (stopped c e) = refl

  -- no step is left
  goes_spent : (a : Bool) → goes a P rooms 0 state ≡ record { ending = ending_number (spent_by a); place = place-next; state = state }
  unfolding goes run undoing state_in next_place spent_by
  goes_spent false = refl
  goes_spent true = refl

-- no call is left
pub undoing-gone : (P : Program) (rooms : Rooms) (n : ℕ) (s : State) → undoing P rooms n (with_calls [] s) ≡ aborted (with_calls [] s)
unfolding undoing
undoing-gone P rooms zero s = refl
undoing-gone P rooms (suc n) s = refl

-- ---- spent steps
pub spent-aborted : (a : Bool) → a ≡ true → UndoSpent ≡ spent_by a
unfolding spent_by
spent-aborted a e = sym (ap spent_by e)

pub spent-plain : (a : Bool) → a ≡ false → StepsSpent ≡ spent_by a
unfolding spent_by
spent-plain a e = sym (ap spent_by e)

spent-told : (a : Bool) (offset : ℕ → ℕ) (place : ℕ) → offset place ≡ told offset (ending_number (spent_by a)) place
unfolding spent_by
spent-told false offset place = refl
spent-told true offset place = refl

pub left-counted : (counts : Bool) (n : ℕ) → counts ≡ true → n - 1 ≡ left_with counts n
left-counted counts n e = sym (ap (λ (b : Bool). left_with b n) e)

pub left-same : (counts : Bool) (n : ℕ) → counts ≡ false → n ≡ left_with counts n
left-same counts n e = sym (ap (λ (b : Bool). left_with b n) e)

-- ---- what the loop keeps
-- of the walk from the state in X₀ on, with the newest call of d₀ callers at i₀, after so many steps: what is left with n steps
pub record Rest (a : Bool) (P : Program) (R : List Head) (rooms : Rooms) (X₀ out₀ : List ℕ) (d₀ i₀ before steps : ℕ) (X out : List ℕ) (m : Machine) (n : ℕ) : Type 0 where
  pub d : ℕ
  pub deep : d < depth_limit
  pub base-is : m.base ≡ window_of d
  pub live : Live P R X d m.next
  pub rest : goes a P rooms steps (state_in P R X₀ d₀ i₀ before out₀) ≡ goes a P rooms n (state_in P R X d m.next (before + (steps - n)) out)

-- there is such a walk
pub record Given (text code values₀ inputs out₀ : List ℕ) (last : ℕ) (from : Machine) : Type 0 where
  pub here : Here code values₀ from.base from.next
  pub text-is : here.text ≡ text
  pub rooms : Rooms
  pub deepest : LastWindow rooms last
  pub lends : Lends rooms inputs out₀

pub record Turning (text code values₀ inputs out₀ : List ℕ) (last : ℕ) (from : Machine) (steps : ℕ) (a : Bool) (values out : List ℕ) (m : Machine) (n : ℕ) : Type 0 where
  pub given : Given text code values₀ inputs out₀ last from
  pub leaves : Leaves values₀ values out₀ out
  pub few : n ≤ steps
  pub is : (h : Here code values₀ from.base from.next) → h.text ≡ text → (rooms : Rooms) → LastWindow rooms last → Lends rooms inputs out₀ → (before : ℕ)
      → Rest a h.P h.R rooms (cells_of values₀) out₀ h.d from.next before steps (cells_of values) out m n

-- as much is lent as the slices have
lent : Rooms → (inputs out : List ℕ) → Rooms
lent rooms inputs out = record { depth = rooms.depth; output = length out; inputs = map (to_z w32) (cells_of inputs) }

pub turn-starts : (text code values inputs out : List ℕ) (last : ℕ) (from : Machine) (steps : ℕ) (a : Bool) → Steps text code values out from.base last from.next
    → Turning text code values inputs out last from steps a values out from steps
unfolding lent
turn-starts text code values inputs out last from steps a s = record {
  given = record {
    here = s.here;
    text-is = s.text-is;
    rooms = lent s.rooms inputs out;
    deepest = record { some = s.deepest.some; most = s.deepest.most; is = s.deepest.is };
    lends = record { room = refl; reads = refl };
  };
  leaves = leaves_nothing values out (subst (λ (k : ℕ). k ≤ length out) (count-is s.here.P s.here.R (cells_of values)) s.written);
  few = omega arith;
  is = λ h x rooms lw l before. record {
    d = h.d;
    deep = h.deep;
    base-is = h.base-is;
    live = h.live;
    rest = let z : before + (steps - steps) ≡ before = omega arith in sym (ap (λ (k : ℕ). goes a h.P rooms steps (state_in h.P h.R (cells_of values) h.d from.next k out)) z);
  };
}

module _ (text code values₀ inputs out₀ : List ℕ) (last : ℕ) (from : Machine) (steps : ℕ) (a : Bool) (values out : List ℕ) (m : Machine) (n : ℕ)
    (t : Turning text code values₀ inputs out₀ last from steps a values out m n) where
  abbrev g : Given text code values₀ inputs out₀ last from
  g = t.given

  -- the step that comes next
  module _ (h : Here code values₀ from.base from.next) (x : h.text ≡ text) (rooms : Rooms) (lw : LastWindow rooms last) (l : Lends rooms inputs out₀) (before : ℕ) where
    abbrev now : Rest a h.P h.R rooms (cells_of values₀) out₀ h.d from.next before steps (cells_of values) out m n
    now = t.is h x rooms lw l before

    abbrev now-here : Here code values m.base m.next
    now-here = elsewhere h values now.d m.base m.next t.leaves.long now.deep now.base-is now.live

    now-lends : Lends rooms inputs out
    now-lends = record { room = l.room ∙ sym t.leaves.out-long; reads = l.reads }

    abbrev made-now : ℕ
    made-now = before + (steps - n)

    abbrev S : State
    S = state_in h.P h.R (cells_of values) now.d m.next made-now out

    abbrev at-now : ℕ
    at-now = (next_step h.P (call_in h.P h.R (cells_of values) (window_of now.d) m.next)).place

    now-place : place_at (cells_of code) m.next ≡ h.offset at-now
    unfolding next_step step_of call_in
    now-place = place_here code values m.base m.next now-here

    -- all that the paper says of the steps
    abbrev All : running.Ended
    All = goes a h.P rooms steps (state_in h.P h.R (cells_of values₀) h.d from.next before out₀)

  pub turn-here : Here code values m.base m.next
  turn-here = now-here g.here g.text-is g.rooms g.deepest g.lends 0

  pub turn-steps : Steps text code values out m.base last m.next
  unfolding turn-here
  turn-steps = record {
    here = turn-here;
    text-is = g.text-is;
    rooms = g.rooms;
    deepest = g.deepest;
    written = subst (λ (k : ℕ). k ≤ length out) (sym (count-is g.here.P g.here.R (cells_of values))) t.leaves.fits;
  }

  pub turn-place : m.next * 8 + 8 ≤ length code
  turn-place = step-in code values m.base m.next turn-here

  -- ---- the steps are spent
  module _ (z : n ≤ 0) (e : Ending) (p : ℕ) (ee : e ≡ spent_by a) (ep : p ≡ place_at (cells_of code) m.next) where
    abbrev spent-walk : Walked
    spent-walk = record { ending = e; place = p; base = m.base; left = n }

    spent-by : (h : Here code values₀ from.base from.next) (x : h.text ≡ text) (rooms : Rooms) (lw : LastWindow rooms last) (l : Lends rooms inputs out₀) (before : ℕ)
        → Halts a h.P h.R h.offset (All h x rooms lw l before) (cells_of values) out before steps spent-walk
    spent-by h x rooms lw l before =
        let q = now h x rooms lw l before in
        let none_left : n ≡ 0 = omega arith in
        let all : All h x rooms lw l before ≡ record { ending = ending_number (spent_by a); place = at-now h x rooms lw l before; state = S h x rooms lw l before } =
        q.rest ∙ ap (λ (j : ℕ). goes a h.P rooms j (S h x rooms lw l before)) none_left
        ∙ goes_spent h.P rooms h.R (cells_of values) q.d m.next (made-now h x rooms lw l before) out a in
        stands q.d m.next q.deep q.base-is q.live (ap ending_number ee ∙ sym (ap (λ (y : running.Ended). y.ending) all))
        (ep ∙ now-place h x rooms lw l before ∙ spent-told a h.offset (at-now h x rooms lw l before) ∙ sym (ap (λ (y : running.Ended). told h.offset y.ending y.place) all))
        (ap (λ (y : running.Ended). y.state) all)

    pub turn-spent : Walks text code values₀ values inputs out₀ out last from steps a spent-walk
    turn-spent = record { leaves = t.leaves; fewer = t.few; is = spent-by }

  -- ---- after a step
  module _ (p : 0 < n) (after out' : List ℕ) (r : Turn) (adv : Advances text code values after inputs out out' last m a r) where
    step-leaves : Leaves values₀ after out₀ out'
    step-leaves = leaves-then values₀ values after out₀ out out' t.leaves adv.leaves

    pub turn-long : length after ≡ length values₀
    turn-long = step-leaves.long

    pub turn-out-long : length out' ≡ length out₀
    turn-out-long = step-leaves.out-long

    n-is : suc (n - 1) ≡ n
    n-is = omega arith

    module _ (h : Here code values₀ from.base from.next) (x : h.text ≡ text) (rooms : Rooms) (lw : LastWindow rooms last) (l : Lends rooms inputs out₀) (before : ℕ) where
      abbrev d : ℕ
      d = (now h x rooms lw l before).d

      abbrev k : ℕ
      k = made-now h x rooms lw l before

      abbrev o : Outcome
      o = turned a h.P rooms (S h x rooms lw l before)

      turns : Turns a h.P h.R h.offset d m.next k (cells_of after) out' o r
      turns = adv.is (now-here h x rooms lw l before) x rooms lw (now-lends h x rooms lw l before) k

      -- what is left of the walk begins with this step
      all-is : All h x rooms lw l before ≡ follows a h.P rooms (n - 1) o
      all-is =
          (now h x rooms lw l before).rest ∙ sym (ap (λ (j : ℕ). goes a h.P rooms j (S h x rooms lw l before)) n-is)
          ∙ goes_step h.P rooms h.R (cells_of values) d m.next k out a (n - 1)

      -- it goes on
      module _ (j : Machine) (is-on : r ≡ On j) where
        abbrev Next : Type 0
        Next = Rest a h.P h.R rooms (cells_of values₀) out₀ h.d from.next before steps (cells_of after) out' j (n - 1)

        next-by : Turns a h.P h.R h.offset d m.next k (cells_of after) out' o r → Next
        unfolding follows
        next-by (on e j' q de b lv oq) =
            let same : j' ≡ j = cc in
            let k-is : k + 1 ≡ before + (steps - (n - 1)) = omega (arith, t.few) in
            subst (λ (y : Machine). Rest a h.P h.R rooms (cells_of values₀) out₀ h.d from.next before steps (cells_of after) out' y (n - 1)) same
            (record {
              d = e;
              deep = de;
              base-is = b;
              live = lv;
              rest = all-is ∙ ap (follows a h.P rooms (n - 1)) oq ∙ ap (λ (y : ℕ). goes a h.P rooms (n - 1) (state_in h.P h.R (cells_of after) e j'.next y out')) k-is;
            })
        next-by (over e q c y lv oq) = apart (cc)
        next-by (gone ab y oq) = apart (cc)

      -- it has ended
      module _ (s : Halt) (is-over : r ≡ Over s) where
        abbrev over-walk : Walked
        over-walk = record { ending = s.ending; place = s.place; base = m.base; left = left_with s.counts n }

        k-counted : (c : Bool) → made_with c k ≡ before + (steps - left_with c n)
        k-counted true = omega (arith, t.few)
        k-counted false = refl

        halts_by : Turns a h.P h.R h.offset d m.next k (cells_of after) out' o r → Halts a h.P h.R h.offset (All h x rooms lw l before) (cells_of after) out' before steps over-walk
        unfolding follows goes
        halts_by (on e' j y de b lv oq) = apart (cc)
        halts_by (over e' place c' y lv oq) =
            let same : s ≡ halt e' (told h.offset (ending_number e') place) c' = cc in
            let e-is : ending_number s.ending ≡ ending_number e' = ap (λ (w : Halt). ending_number w.ending) same in
            let q-is : s.place ≡ told h.offset (ending_number e') place = ap (λ (w : Halt). w.place) same in
            let c-is : c' ≡ s.counts = sym (ap (λ (w : Halt). w.counts) same) in
            let all : All h x rooms lw l before ≡ record { ending = ending_number e'; place = place; state = state_in h.P h.R (cells_of after) d m.next (made_with c' k) out' } =
            all-is ∙ ap (follows a h.P rooms (n - 1)) oq in
            stands d m.next (now h x rooms lw l before).deep (now h x rooms lw l before).base-is lv (e-is ∙ sym (ap (λ (w : running.Ended). w.ending) all))
            (q-is ∙ sym (ap (λ (w : running.Ended). told h.offset w.ending w.place) all))
            (ap (λ (w : running.Ended). w.state) all ∙ ap (λ (b : Bool). state_in h.P h.R (cells_of after) d m.next (made_with b k) out') c-is
            ∙ ap (λ (w : ℕ). state_in h.P h.R (cells_of after) d m.next w out') (k-counted s.counts))
        halts_by (gone ab y oq) =
            let same : s ≡ halt Aborted 0 true = cc in
            let e-is : s.ending ≡ Aborted = ap (λ (w : Halt). w.ending) same in
            let q-is : s.place ≡ 0 = ap (λ (w : Halt). w.place) same in
            let c-is : true ≡ s.counts = sym (ap (λ (w : Halt). w.counts) same) in
            let all : All h x rooms lw l before ≡ aborted (with_calls [] (state_in h.P h.R (cells_of after) 0 0 (k + 1) out')) =
            all-is ∙ ap (follows a h.P rooms (n - 1)) oq ∙ ap (λ (b : Bool). goes b h.P rooms (n - 1) (with_calls [] (state_in h.P h.R (cells_of after) 0 0 (k + 1) out'))) ab
            ∙ undoing-gone h.P rooms (n - 1) (state_in h.P h.R (cells_of after) 0 0 (k + 1) out') in
            falls ab e-is q-is (ap (λ (w : running.Ended). w.ending) all)
            (ap (λ (w : running.Ended). w.state) all ∙ ap (λ (b : Bool). with_calls [] (state_in h.P h.R (cells_of after) 0 0 (made_with b k) out')) c-is
            ∙ ap (λ (w : ℕ). with_calls [] (state_in h.P h.R (cells_of after) 0 0 w out')) (k-counted s.counts))

    pub turn_on : (j : Machine) → r ≡ On j → Turning text code values₀ inputs out₀ last from steps a after out' j (n - 1)
    turn_on j e = record { given = g; leaves = step-leaves; few = omega (arith, t.few); is = λ h x rooms lw l before. next-by h x rooms lw l before j e (turns h x rooms lw l before) }

    fewer-left : (c : Bool) → left_with c n ≤ steps
    fewer-left true = omega (arith, t.few)
    fewer-left false = t.few

    pub turn-over : (s : Halt) → r ≡ Over s → (b : ℕ) → b ≡ left_with s.counts n → Walks text code values₀ after inputs out₀ out' last from steps a (record { ending = s.ending; place = s.place; base = m.base; left = b })
    turn-over s is b eb =
        subst (λ (y : ℕ). Walks text code values₀ after inputs out₀ out' last from steps a (record { ending = s.ending; place = s.place; base = m.base; left = y })) (sym eb)
        (record { leaves = step-leaves; fewer = fewer-left s.counts; is = λ h x rooms lw l before. halts_by h x rooms lw l before s is (turns h x rooms lw l before) })
