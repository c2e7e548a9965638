-- A call: its arguments, and then it is entered, or lacks room.
use mathlib.Core.Path.{◌≡◌, refl, sym, ap, ap₂, subst, ◌∙◌}
use mathlib.Core.Bool.{Bool, true, false}
use mathlib.Core.List.{List, ◌∷◌}
use mathlib.Core.Option.{Option, some}
use Prim.Native.Nat.{ℕ, suc, ◌+◌, ◌*◌, ◌/◌, ◌%◌, ◌<◌, ◌≤◌}
use native.Mathlib.Omega.{arith}
use lib.Dec.{T, ltb}
use lib.ListN.{length, get_or, replicate, length-append, length-replicate}
use lib.IntN.{ℤ, pos, nat_abs}
use lib.Signed.{lt_z, non_neg}
use mir.Syntax.{w64}
use mir.Val.{Fits, to_z}
use mir.ValLaws.{to_z_pos}
use borrow.Author.Tests.{lt-ltb, le-ltb, ltb-true, ltb-false}
use Rattle.std.specs.Prelude.{if◌then◌else◌}
use Rattle.paper.specs.Terms.{Term, Memory}
use Rattle.paper.specs.States.{Location, State, Rooms, Effect, made, failing, lacking, with_calls, memory_of, with_values}
use Rattle.paper.specs.Steps.{Code}
use Rattle.paper.specs.Running.{code_at, step_named, new_call, calling}
use Rattle.store_cells.specs.Cells.{cells_of}
use Rattle.store_cells.proofs.Laws.{length-words}
use Rattle.code.specs.Cells.{window_of, window_cells}
use Rattle.code.specs.Steps.{no_head}
use Rattle.code.specs.Windows.{routine_cell, state_in}
use Rattle.store_evaluation.specs.Answers.{first_error, call_slots, Counts}
use Rattle.store_evaluation.specs.Answers as answers
use Rattle.run_machine.specs.Live.{code_of_call, Live}
use Rattle.run_machine.specs.Machine.{Here, Comes, enters, fails, lacks, lacked_by, effect_at, LastWindow}
use Rattle.run_starting.specs.Starting.{Holding}
use Rattle.run_calls.specs.Calling.{Passes, Argued, given, raises, Passed, Enters, Entered, Calling}
use Rattle.run_machine.proofs.Agreeing.{SameIn}
use Rattle.run_machine.proofs.States.{roomy, depth_is, past}
use Rattle.run_machine.proofs.Living.{routine-code, fits-same, live-past}
use Rattle.run_machine.proofs.Elsewhere.{elsewhere}
use Rattle.run_machine.proofs.Current as here
use Rattle.layout.specs.Answers.{answers, lacked}
use Rattle.paper.specs.Answer.{store_words}
use Rattle.paper.specs.Words.{word_limit}
use Rattle.run_targets.proofs.TargetStores.{memory-is}

-- ---- what the answer for the arguments tells
pub record Given (c : Counts) (values after : List ℕ) (base : ℕ) (room : Bool) (es : List Term) (closes : ℕ) (r : ℤ) : Type 0 where
  pub zs : List ℤ
  pub count : length zs ≡ length es
  pub goes : (S : State) (go : List ℤ → Effect) → with_values (answers.memory_of c values base) es S go ≡ go zs
  pub holds : room ≡ true → Holding (cells_of after) (base + window_cells) zs
  pub small : closes < answers
  pub is : r ≡ pos (closes + answers * (base + window_cells + length es))

pub record Raised (c : Counts) (values : List ℕ) (base : ℕ) (es : List Term) (r : ℤ) : Type 0 where
  pub e : ℕ
  pub small : e < answers
  pub goes : (S : State) (go : List ℤ → Effect) → with_values (answers.memory_of c values base) es S go ≡ failing e S
  pub is : r ≡ pos (first_error + e)

module _ (c : Counts) (values after : List ℕ) (base : ℕ) (room : Bool) (es : List Term) (closes : ℕ) (r : ℤ) where
  pub argued-given : Argued c values after base room es closes r → lt_z r (pos first_error) ≡ true → Given c values after base room es closes r
  argued-given (given zs q g h s e) t = record { zs = zs; count = q; goes = g; holds = h; small = s; is = e }
  argued-given (raises e s g z) t =
      let y : ltb (first_error + e) first_error ≡ true = subst (λ (x : ℤ). lt_z x (pos first_error) ≡ true) z t in
      absurd (omega (arith, ltb-true (first_error + e) first_error y))

  pub argued-raised : base < store_words → length es ≤ call_slots → Argued c values after base room es closes r → lt_z r (pos first_error) ≡ false → Raised c values base es r
  argued-raised b l (raises e s g z) t = record { e = e; small = s; goes = g; is = z }
  argued-raised b l (given zs q g h s e) t =
      let y : ltb (closes + answers * (base + window_cells + length es)) first_error ≡ false = subst (λ (x : ℤ). lt_z x (pos first_error) ≡ false) e t in
      absurd (omega (arith, ltb-false (closes + answers * (base + window_cells + length es)) first_error y))

-- ---- a call, as the table says it
module _ (code values : List ℕ) (base i : ℕ) where
  base-low : (h : Here code values base i) → base < store_words
  base-low h = omega (arith, h.base-is, h.deep)

  few : (h : Here code values base i) (first end callee result : ℕ) (g : Calling code values base i h first end callee result) → length g.es ≤ call_slots
  few h first end callee result g =
      let r = h.holds.routines g.k g.there in
      omega (arith, g.as_many, ap length r.words_are, length-append (replicate (get_or h.R g.k no_head).parameters (pos 0)) r.starts, length-replicate (get_or h.R g.k no_head).parameters (pos 0), r.room)

  module _ (h : Here code values base i) (last : ℕ) (rooms : Rooms) (lw : LastWindow rooms last) where
    -- there is room for another call
    pub room-deep : ltb base last ≡ true → suc h.d < rooms.depth
    room-deep t = omega (arith, ltb-true base last t, h.base-is, lw.is, lw.some)

    pub no_room : ltb base last ≡ false → rooms.depth ≤ suc h.d
    no_room t = omega (arith, ltb-false base last t, h.base-is, lw.is, lw.some)

    pub call_passes : (first end callee result : ℕ) → Calling code values base i h first end callee result → end < answers → Passes code values base first end (ltb base last)
    call_passes first end callee result g s = record {
      c = here.counts-here code values base i h;
      function = (here.code_here code values base i h).function;
      text = h.text;
      R = h.R;
      es = g.es;
      closes = g.closes;
      reads = g.arguments;
      few = few h first end callee result g;
      stores = here.stores-here code values base i h;
      cells = λ t. omega (arith, room-deep t, lw.most, h.base-is, h.values-size);
      low = omega (arith, h.base-is);
      high = base-low h;
      code-size = h.code-size;
      small = s;
    }

  module _ (last first end : ℕ) (after : List ℕ) (r : ℤ) (ps : Passed code values after base first end (ltb base last) r) where
    long-words : length (cells_of after) ≡ length (cells_of values)
    long-words = length-words after ∙ ap (λ (x : ℕ). x / 4) ps.long ∙ sym (length-words values)

    -- the state is the same after the arguments
    module _ (h : Here code values base i) where
      low_same : SameIn (cells_of values) (cells_of after) 0 (window_of (suc h.d))
      low_same c x y = ps.below c (omega (arith, h.base-is))

      pub live_same : Live h.P h.R (cells_of after) h.d i
      live_same = live-past h.P h.R (cells_of values) h.d (cells_of after) low_same i h.live

      state-same : (steps : ℕ) (out : List ℕ) → state_in h.P h.R (cells_of after) h.d i steps out ≡ state_in h.P h.R (cells_of values) h.d i steps out
      state-same steps out = past h.P h.R (cells_of values) h.d (roomy h) (cells_of after) long-words low_same i steps out

      same-routine : get_or (cells_of after) (window_of h.d + routine_cell) 0 ≡ get_or (cells_of values) (window_of h.d + routine_cell) 0
      same-routine = low_same (window_of h.d + routine_cell) (omega arith) (omega arith)

      code_same : code_of_call h.P h.R (cells_of after) h.d ≡ code_of_call h.P h.R (cells_of values) h.d
      code_same = routine-code h.P h.R (cells_of values) (cells_of after) h.d same-routine

      abbrev pub here-after : Here code after base i
      here-after = elsewhere h after h.d base i ps.long h.deep h.base-is live_same

    module _ (h : Here code values base i) (callee result : ℕ) (g : Calling code values base i h first end callee result) where
      argued : Argued (here.counts-here code values base i h) values after base (ltb base last) g.es g.closes r
      argued = ps.is (here.counts-here code values base i h) (here.code_here code values base i h).function h.text h.R g.es g.closes g.arguments

      memory : (rooms : Rooms) (steps : ℕ) (out : List ℕ) → Memory
      memory rooms steps out = memory_of (here.state_here code values base i h rooms steps out) (here.call_here code values base i h rooms steps out)

      -- an argument raises an error
      pub call-fails : lt_z r (pos first_error) ≡ false → (rooms : Rooms) (steps : ℕ) (out : List ℕ)
          → Comes h.P h.R (cells_of code) h.offset h.d i steps (cells_of values) (cells_of after) out out (effect_at h.P h.R rooms (cells_of values) h.d i steps out) r
      unfolding calling memory
      call-fails t rooms steps out =
          let S = here.state_here code values base i h rooms steps out in
          let x = argued-raised (here.counts-here code values base i h) values after base (ltb base last) g.es g.closes r (base-low h) (few h first end callee result g) argued t in
          let go : List ℤ → Effect = λ args. if ltb (length S.calls) rooms.depth then made (with_calls (new_call h.P g.k args g.location ∷ S.calls) S) else lacking 6 callee in
          fails x.e x.is x.small (live_same h)
          (g.effect rooms steps out
          ∙ ap (λ (M : Memory). with_values M g.es S go) (memory-is code values base i h rooms steps out)
          ∙ x.goes S go ∙ ap (failing x.e) (sym (state-same h steps out)))

      module _ (t : lt_z r (pos first_error) ≡ true) where
        values_of : Given (here.counts-here code values base i h) values after base (ltb base last) g.es g.closes r
        values_of = argued-given (here.counts-here code values base i h) values after base (ltb base last) g.es g.closes r argued t

        pub answer-signed : T (non_neg r)
        answer-signed = subst (λ (z : ℤ). T (non_neg z)) (sym values_of.is) tt

        answer-is : nat_abs r ≡ g.closes + answers * (base + window_cells + length g.es)
        answer-is = ap nat_abs values_of.is

        pub answer-fits : Fits w64 (nat_abs r)
        answer-fits = record { fits = omega (arith, answer-is, values_of.small, base-low h, few h first end callee result g) }

        pub answer-closes : nat_abs r % answers ≡ g.closes
        answer-closes = omega (arith, answer-is, values_of.small)

        pub answer-next : nat_abs r / answers ≡ base + window_cells + length g.es
        answer-next = omega (arith, answer-is, values_of.small)

        effect_is : (rooms : Rooms) (steps : ℕ) (out : List ℕ) (y : Bool) → ltb (length (here.state_here code values base i h rooms steps out).calls) rooms.depth ≡ y
            → effect_at h.P h.R rooms (cells_of values) h.d i steps out
            ≡ (if y then made (with_calls (new_call h.P g.k values_of.zs g.location ∷ (here.state_here code values base i h rooms steps out).calls) (here.state_here code values base i h rooms steps out)) else lacking 6 callee)
        unfolding calling memory
        effect_is rooms steps out y e =
            let S = here.state_here code values base i h rooms steps out in
            let go : List ℤ → Effect = λ args. if ltb (length S.calls) rooms.depth then made (with_calls (new_call h.P g.k args g.location ∷ S.calls) S) else lacking 6 callee in
            g.effect rooms steps out
            ∙ ap (λ (M : Memory). with_values M g.es S go) (memory-is code values base i h rooms steps out)
            ∙ values_of.goes S go
            ∙ ap (λ (b : Bool). if b then made (with_calls (new_call h.P g.k values_of.zs g.location ∷ S.calls) S) else lacking 6 callee) e

        -- no room
        pub call-lacks : (rooms : Rooms) → LastWindow rooms last → ltb base last ≡ false → (steps : ℕ) (out : List ℕ)
            → Comes h.P h.R (cells_of code) h.offset h.d i steps (cells_of values) (cells_of after) out out (effect_at h.P h.R rooms (cells_of values) h.d i steps out) (to_z w64 (lacked + callee))
        unfolding lacked_by
        call-lacks rooms lw u steps out =
            let S = here.state_here code values base i h rooms steps out in
            let s : callee < word_limit = omega (arith, g.inside, h.code-size) in
            rw (to_z_pos w64 (lacked + callee) (omega arith))
            (lacks 6 callee callee (ap pos (omega arith)) (omega arith) (omega arith) (omega arith) g.place (ps.idle u) refl
            (effect_is rooms steps out false (le-ltb (length S.calls) rooms.depth (omega (arith, depth_is h.P h.R (cells_of values) h.d i steps out, no_room h last rooms lw u)))))

        -- room
        module _ (rooms : Rooms) (lw : LastWindow rooms last) (u : ltb base last ≡ true) (after' : ℕ) (ea : after' ≡ (here.step_here code values base i h).after) where
          pub call-may : Enters code after base i (here-after h) callee result after' (nat_abs r / answers)
          call-may = record {
            deep = omega (arith, room-deep h last rooms lw u, lw.most);
            inside = g.inside;
            k = g.k;
            number = g.number;
            there = g.there;
            word = g.word;
            zs = values_of.zs;
            as_many = values_of.count ∙ g.as_many;
            holds = values_of.holds u;
            next = omega (arith, answer-next, values_of.count);
            result_fits = fits-same h.P h.R (cells_of values) (cells_of after) (suc h.d) result
                (λ c z. let y : h.d ≡ c = omega arith in subst (λ (x : ℕ). get_or (cells_of after) (window_of x + routine_cell) 0 ≡ get_or (cells_of values) (window_of x + routine_cell) 0) y (same-routine h)) g.result_fits;
            after_is = ea ∙ sym (ap (λ (c : Code). (step_named c.steps i).after) (code_same h));
          }

          pub call_enters : (after2 : List ℕ) (r2 : ℤ) → Entered code after base i callee result after' (nat_abs r / answers) after2 r2 → (steps : ℕ) (out : List ℕ)
              → Comes h.P h.R (cells_of code) h.offset h.d i steps (cells_of values) (cells_of after2) out out (effect_at h.P h.R rooms (cells_of values) h.d i steps out) r2
          unfolding call-may
          call_enters after2 r2 en steps out =
              let S = here.state_here code values base i h rooms steps out in
              enters (code_at h.P g.k).start (en.answer (here-after h) call-may) call-may.deep (en.live (here-after h) call-may)
              (effect_is rooms steps out true (lt-ltb (length S.calls) rooms.depth (omega (arith, depth_is h.P h.R (cells_of values) h.d i steps out, room-deep h last rooms lw u)))
              ∙ ap made (sym (en.state (here-after h) call-may steps out
              ∙ ap₂ (λ (l : Option Location) (T : State). with_calls (new_call h.P g.k values_of.zs l ∷ T.calls) T) (g.location-is (cells_of after)) (state-same h steps out))))
