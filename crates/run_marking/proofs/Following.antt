-- A run beside a listing, from step to step: what is left of it after so many, and what is told as it ends.
use mathlib.Core.Path.{◌≡◌, refl, sym, ap, ap₂, subst, ◌∙◌}
use mathlib.Core.Bool.{Bool, true, false}
use mathlib.Core.List.{List, [], ◌∷◌, ◌++◌, map, append-nil, append_assoc}
use Prim.Native.Nat.{ℕ, suc, ◌+◌, ◌-◌, ◌*◌, ◌<◌, ◌≤◌}
use native.Mathlib.Omega.{arith}
use lib.ListN.{length, length-append}
use Rattle.laws.proofs.Tests.{apart, false-true}
use Rattle.paper.specs.Steps.{Program}
use Rattle.paper.specs.States.{State, Rooms}
use Rattle.paper.specs.Running.{stopping, take_step, next_step, step_of, next_place, run}
use Rattle.paper.specs.Running as running
use Rattle.store_cells.specs.Cells.{cells_of}
use Rattle.code.specs.Cells.{window_of, place_at}
use Rattle.code.specs.Steps.{Head}
use Rattle.code.specs.Windows.{call_in, state_in}
use Rattle.layout.specs.declared.endings.Ending.{Ending}
use Rattle.layout.specs.declared.endings.Ending.TheVariants.{StepsSpent}
use Rattle.layout.specs.Endings.{ending_number}
use Rattle.run_machine.specs.Live.{Live}
use Rattle.run_machine.specs.Machine.{depth_limit, Here, LastWindow, Lends, Steps}
use Rattle.run_machine.proofs.Current.{place_here, step-in}
use Rattle.run_machine.proofs.Elsewhere.{elsewhere}
use Rattle.run_output.proofs.OneLine.{count-is}
use Rattle.run_errors.specs.declared.Machine.{Machine}
use Rattle.run_advancing.specs.declared.Halt.{Halt}
use Rattle.run_advancing.specs.declared.Turn.{Turn}
use Rattle.run_advancing.specs.declared.Turn.TheVariants.{On, Over}
use Rattle.run_advancing.specs.Turns.{halt, turned, told, made_with, Turns, on, over, gone, Leaves, Advances}
use Rattle.run_advancing.proofs.Answers.{leaves-then}
use Rattle.run_whole.specs.declared.Ended.{Ended}
use Rattle.run_whole.specs.Runs.{standing, Comes}
use Rattle.run_whole.proofs.Walking.{Given, turn-starts}
use Rattle.demands.proofs.Growing.{run-goes, run-stops}
use Rattle.marks.specs.Marks.{listed, shared, marking}
use Rattle.marks.proofs.Counting.{listed-goes, listed-counted, listed-uncounted}
use Rattle.run_marking.specs.declared.Marked.{Marked}
use Rattle.run_marking.specs.Beside.{ended_of, marking_of, Meets, Settles, ComesBeside, Follows}

-- ---- what the loop keeps
-- Of the run of so many steps from s₀ on, after `made` of them: where it stands, and what our listing has so far.
pub record SoFar (P : Program) (R : List Head) (offset : ℕ → ℕ) (rooms : Rooms) (steps : ℕ) (s₀ : State) (X out theirs : List ℕ) (m : Machine) (made common : ℕ) : Type 0 where
  pub d : ℕ
  pub deep : d < depth_limit
  pub base-is : m.base ≡ window_of d
  pub live : Live P R X d m.next
  pub rest : run P rooms steps s₀ ≡ run P rooms (steps - made) (state_in P R X d m.next made out)
  pub entries : List ℕ
  pub many : length entries ≡ made
  pub ours : map offset (listed P rooms steps s₀) ≡ entries ++ map offset (listed P rooms (steps - made) (state_in P R X d m.next made out))
  pub met : shared entries theirs ≡ common

pub record Following (text code values₀ inputs out₀ listing : List ℕ) (last : ℕ) (from : Machine) (steps : ℕ) (values out : List ℕ) (m : Machine) (made common : ℕ) : Type 0 where
  pub given : Given text code values₀ inputs out₀ last from
  pub leaves : Leaves values₀ values out₀ out
  pub within : made ≤ steps
  pub is : (h : Here code values₀ from.base from.next) → h.text ≡ text → (rooms : Rooms) → LastWindow rooms last → Lends rooms inputs out₀
      → SoFar h.P h.R h.offset rooms steps (state_in h.P h.R (cells_of values₀) h.d from.next 0 out₀) (cells_of values) out (cells_of listing) m made common

pub follow-starts : (text code values inputs out listing : List ℕ) (last : ℕ) (from : Machine) (steps : ℕ) → Steps text code values out from.base last from.next
    → Following text code values inputs out listing last from steps values out from 0 0
unfolding shared
follow-starts text code values inputs out listing last from steps s =
    let t = turn-starts text code values inputs out last from steps false s in
    let all : steps ≡ steps - 0 = omega arith in
    record {
      given = t.given;
      leaves = t.leaves;
      within = omega arith;
      is = λ h x rooms lw l.
          let s₀ = state_in h.P h.R (cells_of values) h.d from.next 0 out in
          record {
            d = h.d;
            deep = h.deep;
            base-is = h.base-is;
            live = h.live;
            rest = ap (λ (n : ℕ). run h.P rooms n s₀) all;
            entries = [];
            many = refl;
            ours = ap (λ (n : ℕ). map h.offset (listed h.P rooms n s₀)) all;
            met = refl;
          };
    }

-- ---- a run that has ended
-- after k steps, at a step of the call with d callers, with these entries of ours
module _ (P : Program) (R : List Head) (offset : ℕ → ℕ) (rooms : Rooms) (steps : ℕ) (s₀ : State) (after out listing : List ℕ) (r : Marked) where
  comes-beside : (n : Ending) (p d i k : ℕ) (o : List ℕ) → d < depth_limit → Live P R (cells_of after) d i → run P rooms steps s₀ ≡ record { ending = ending_number n; place = p; state = state_in P R (cells_of after) d i k out }
      → ended_of r ≡ record { ending = n; place = told offset (ending_number n) p; made = k } → map offset (listed P rooms steps s₀) ≡ o → marking o (cells_of listing) ≡ marking_of r
      → ComesBeside P R offset rooms steps s₀ after out listing r
  unfolding state_in
  comes-beside n p d i k o de lv e q w t = record {
    comes = subst (λ (z : running.Ended). Comes P R offset after out z (ended_of r)) (sym e) (record {
      ending = ap (λ (z : Ended). ending_number z.ending) q;
      place = ap (λ (z : Ended). z.place) q;
      made = ap (λ (z : Ended). z.made) q;
      state = standing d i de lv refl;
    });
    told = ap (λ (y : List ℕ). marking y (cells_of listing)) w ∙ t;
  }

module _ (text code values₀ inputs out₀ listing : List ℕ) (last : ℕ) (from : Machine) (steps : ℕ) (values out : List ℕ) (m : Machine) (made common : ℕ)
    (f : Following text code values₀ inputs out₀ listing last from steps values out m made common) where
  abbrev g : Given text code values₀ inputs out₀ last from
  g = f.given

  module _ (h : Here code values₀ from.base from.next) (x : h.text ≡ text) (rooms : Rooms) (lw : LastWindow rooms last) (l : Lends rooms inputs out₀) where
    abbrev s₀ : State
    s₀ = state_in h.P h.R (cells_of values₀) h.d from.next 0 out₀

    abbrev now : SoFar h.P h.R h.offset rooms steps s₀ (cells_of values) out (cells_of listing) m made common
    now = f.is h x rooms lw l

    abbrev now-here : Here code values m.base m.next
    now-here = elsewhere h values now.d m.base m.next f.leaves.long now.deep now.base-is now.live

    now-lends : Lends rooms inputs out
    now-lends = record { room = l.room ∙ sym f.leaves.out-long; reads = l.reads }

    abbrev S : State
    S = state_in h.P h.R (cells_of values) now.d m.next made out

    -- the place that it stands at
    now-place : place_at (cells_of code) m.next ≡ h.offset (next_place h.P S)
    unfolding next_place state_in next_step step_of call_in
    now-place = place_here code values m.base m.next now-here

  pub follow-here : Here code values m.base m.next
  follow-here = now-here g.here g.text-is g.rooms g.deepest g.lends

  pub follow-steps : Steps text code values out m.base last m.next
  unfolding follow-here
  follow-steps = record {
    here = follow-here;
    text-is = g.text-is;
    rooms = g.rooms;
    deepest = g.deepest;
    written = subst (λ (k : ℕ). k ≤ length out) (sym (count-is g.here.P g.here.R (cells_of values))) f.leaves.fits;
  }

  -- the word that it stands at is one of the code store
  pub follow-place : m.next * 8 + 8 ≤ length code
  follow-place = step-in code values m.base m.next follow-here

  -- ---- the steps are spent
  module _ (z : steps ≤ made) (p : ℕ) (ep : p ≡ place_at (cells_of code) m.next) (r : Marked) (st : Settles listing StepsSpent p made common r) where
    none_left : steps - made ≡ 0
    none_left = omega arith

    spent-beside : (h : Here code values₀ from.base from.next) (x : h.text ≡ text) (rooms : Rooms) (lw : LastWindow rooms last) (l : Lends rooms inputs out₀)
        → ComesBeside h.P h.R h.offset rooms steps (s₀ h x rooms lw l) values out listing r
    unfolding run listed
    spent-beside h x rooms lw l =
        let q = now h x rooms lw l in
        let s = S h x rooms lw l in
        comes-beside h.P h.R h.offset rooms steps (s₀ h x rooms lw l) values out listing r
        StepsSpent (next_place h.P s) q.d m.next made q.entries q.deep q.live
        (q.rest ∙ ap (λ (n : ℕ). run h.P rooms n s) none_left)
        (st.ended ∙ ap (λ (y : ℕ). record { ending = StepsSpent; place = y; made = made }) (ep ∙ now-place h x rooms lw l))
        (q.ours ∙ ap (λ (n : ℕ). q.entries ++ map h.offset (listed h.P rooms n s)) none_left ∙ append-nil q.entries)
        (st.told q.entries q.many q.met)

    pub follow-spent : Follows text code values₀ values inputs out₀ out listing last from steps r
    follow-spent = record { leaves = f.leaves; is = λ h x rooms lw l. spent-beside h x rooms lw l }

  -- ---- after a step
  module _ (lt : made < steps) (after out' : List ℕ) (t : Turn) (a : Advances text code values after inputs out out' last m false t) where
    pub turn-leaves : Leaves values₀ after out₀ out'
    turn-leaves = leaves-then values₀ values after out₀ out out' f.leaves a.leaves

    pub turn-long : length after ≡ length values₀
    turn-long = turn-leaves.long

    pub turn-out-long : length out' ≡ length out₀
    turn-out-long = turn-leaves.out-long

    -- with this step, so many are left
    left_is : steps - made ≡ suc (steps - (made + 1))
    left_is = omega arith

    module _ (h : Here code values₀ from.base from.next) (x : h.text ≡ text) (rooms : Rooms) (lw : LastWindow rooms last) (l : Lends rooms inputs out₀) where
      abbrev q : SoFar h.P h.R h.offset rooms steps (s₀ h x rooms lw l) (cells_of values) out (cells_of listing) m made common
      q = now h x rooms lw l

      abbrev Turned : Type 0
      Turned = Turns false h.P h.R h.offset q.d m.next made (cells_of after) out' (take_step h.P rooms (S h x rooms lw l)) t

      turns : Turned
      unfolding turned
      turns = a.is (now-here h x rooms lw l) x rooms lw (now-lends h x rooms lw l) made

      -- what is left begins with this step
      this-step : run h.P rooms steps (s₀ h x rooms lw l) ≡ run h.P rooms (suc (steps - (made + 1))) (S h x rooms lw l)
      this-step = q.rest ∙ ap (λ (n : ℕ). run h.P rooms n (S h x rooms lw l)) left_is

      this-listed : map h.offset (listed h.P rooms steps (s₀ h x rooms lw l)) ≡ q.entries ++ map h.offset (listed h.P rooms (suc (steps - (made + 1))) (S h x rooms lw l))
      this-listed = q.ours ∙ ap (λ (n : ℕ). q.entries ++ map h.offset (listed h.P rooms n (S h x rooms lw l))) left_is

      -- it was counted: its place is our next entry
      module _ (at : ℕ) (ea : at ≡ place_at (cells_of code) m.next) where
        abbrev entries : List ℕ
        entries = q.entries ++ (at ∷ [])

        entries-many : length entries ≡ made + 1
        entries-many = omega (arith, length-append q.entries (at ∷ []), q.many)

        entry_listed : (rest : List ℕ) → listed h.P rooms (suc (steps - (made + 1))) (S h x rooms lw l) ≡ next_place h.P (S h x rooms lw l) ∷ rest
            → map h.offset (listed h.P rooms steps (s₀ h x rooms lw l)) ≡ entries ++ map h.offset rest
        entry_listed rest e =
            this-listed ∙ ap (λ (y : List ℕ). q.entries ++ map h.offset y) e
            ∙ ap (λ (k : ℕ). q.entries ++ (k ∷ map h.offset rest)) (sym (ea ∙ now-place h x rooms lw l))
            ∙ sym (append_assoc q.entries (at ∷ []) (map h.offset rest))

        -- it goes on
        on-by : (c : ℕ) → Meets listing common made at c → (next : Machine) → t ≡ On next → Turned
            → SoFar h.P h.R h.offset rooms steps (s₀ h x rooms lw l) (cells_of after) out' (cells_of listing) next (made + 1) c
        on-by c mt next tn (on e j et de b lv o) =
            let same : j ≡ next = cc in
            subst (λ (z : Machine). SoFar h.P h.R h.offset rooms steps (s₀ h x rooms lw l) (cells_of after) out' (cells_of listing) z (made + 1) c) same
            (record {
              d = e;
              deep = de;
              base-is = b;
              live = lv;
              rest = this-step ∙ run-goes h.P rooms (steps - (made + 1)) (S h x rooms lw l) _ o;
              entries = entries;
              many = entries-many;
              ours = entry_listed _ (listed-goes h.P rooms (steps - (made + 1)) (S h x rooms lw l) _ o);
              met = mt.is q.entries q.many q.met;
            })
        on-by c mt next tn (over n p b et lv o) = apart (cc)
        on-by c mt next tn (gone z et o) = false-true z

        -- it ends
        counted-by : (c : ℕ) → Meets listing common made at c → (u : Halt) → t ≡ Over u → u.counts ≡ true → (r : Marked) → Settles listing u.ending u.place (made + 1) c r → Turned
            → ComesBeside h.P h.R h.offset rooms steps (s₀ h x rooms lw l) after out' listing r
        counted-by c mt u tn uc r st (on e j et de b lv o) = apart (cc)
        counted-by c mt u tn uc r st (over n' p' b et lv o) =
            let same : u ≡ halt n' (told h.offset (ending_number n') p') b = cc in
            let counts : b ≡ true = sym (ap (λ (w : Halt). w.counts) same) ∙ uc in
            let number : u.ending ≡ n' = ap (λ (w : Halt). w.ending) same in
            let place : u.place ≡ told h.offset (ending_number n') p' = ap (λ (w : Halt). w.place) same in
            let stops = subst (λ (y : Bool). take_step h.P rooms (S h x rooms lw l) ≡ stopping y (ending_number n') p' (state_in h.P h.R (cells_of after) q.d m.next (made_with y made) out')) counts o in
            comes-beside h.P h.R h.offset rooms steps (s₀ h x rooms lw l) after out' listing r
            n' p' q.d m.next (made + 1) entries q.deep lv
            (this-step ∙ run-stops h.P rooms (steps - (made + 1)) (S h x rooms lw l) true _ stops)
            (st.ended ∙ ap₂ (λ (y : Ending) (z : ℕ). record { ending = y; place = z; made = made + 1 }) number place)
            (entry_listed [] (listed-counted h.P rooms (steps - (made + 1)) (S h x rooms lw l) _ stops) ∙ append-nil entries)
            (st.told entries entries-many (mt.is q.entries q.many q.met))
        counted-by c mt u tn uc r st (gone z et o) = false-true z

      -- it ends by a step that does not count
      uncounted-by : (u : Halt) → t ≡ Over u → u.counts ≡ false → (r : Marked) → Settles listing u.ending u.place made common r → Turned
          → ComesBeside h.P h.R h.offset rooms steps (s₀ h x rooms lw l) after out' listing r
      uncounted-by u tn uc r st (on e j et de b lv o) = apart (cc)
      uncounted-by u tn uc r st (over n' p' b et lv o) =
          let same : u ≡ halt n' (told h.offset (ending_number n') p') b = cc in
          let counts : b ≡ false = sym (ap (λ (w : Halt). w.counts) same) ∙ uc in
          let number : u.ending ≡ n' = ap (λ (w : Halt). w.ending) same in
          let place : u.place ≡ told h.offset (ending_number n') p' = ap (λ (w : Halt). w.place) same in
          let stops = subst (λ (y : Bool). take_step h.P rooms (S h x rooms lw l) ≡ stopping y (ending_number n') p' (state_in h.P h.R (cells_of after) q.d m.next (made_with y made) out')) counts o in
          comes-beside h.P h.R h.offset rooms steps (s₀ h x rooms lw l) after out' listing r
          n' p' q.d m.next made q.entries q.deep lv
          (this-step ∙ run-stops h.P rooms (steps - (made + 1)) (S h x rooms lw l) false _ stops)
          (st.ended ∙ ap₂ (λ (y : Ending) (z : ℕ). record { ending = y; place = z; made = made }) number place)
          (this-listed ∙ ap (λ (y : List ℕ). q.entries ++ map h.offset y) (listed-uncounted h.P rooms (steps - (made + 1)) (S h x rooms lw l) _ stops) ∙ append-nil q.entries)
          (st.told q.entries q.many q.met)
      uncounted-by u tn uc r st (gone z et o) = false-true z

    module _ (at : ℕ) (ea : at ≡ place_at (cells_of code) m.next) where
      pub follow-on : (c : ℕ) → Meets listing common made at c → (next : Machine) → t ≡ On next → Following text code values₀ inputs out₀ listing last from steps after out' next (made + 1) c
      follow-on c mt next tn =
          record { given = g; leaves = turn-leaves; within = omega arith; is = λ h x rooms lw l. on-by h x rooms lw l at ea c mt next tn (turns h x rooms lw l) }

      pub follow-counted : (u : Halt) → t ≡ Over u → u.counts ≡ true → (c : ℕ) → Meets listing common made at c → (r : Marked) → Settles listing u.ending u.place (made + 1) c r
          → Follows text code values₀ after inputs out₀ out' listing last from steps r
      follow-counted u tn z c mt r st =
          record { leaves = turn-leaves; is = λ h x rooms lw l. counted-by h x rooms lw l at ea c mt u tn z r st (turns h x rooms lw l) }

    pub follow-uncounted : (u : Halt) → t ≡ Over u → u.counts ≡ false → (r : Marked) → Settles listing u.ending u.place made common r → Follows text code values₀ after inputs out₀ out' listing last from steps r
    follow-uncounted u tn z r st =
        record { leaves = turn-leaves; is = λ h x rooms lw l. uncounted-by h x rooms lw l u tn z r st (turns h x rooms lw l) }
