-- One module of a class, and all of them.
use mathlib.Core.Path.{◌≡◌, refl, sym, ap, ap₂, ◌∙◌}
use mathlib.Core.List.{List, [], ◌++◌, append-nil}
use Prim.Native.Nat.{ℕ, suc, ◌+◌, ◌-◌, ◌*◌, ◌/◌, ◌≤◌, ◌<◌}
use native.Mathlib.Nat.{zero-mul}
use native.Mathlib.Numerals.{add-one}
use native.Mathlib.Omega.{arith}
use lib.ListN.{length, get_or, take, drop}
use lib.Seq.{drop-length}
use borrow.Rule.Slice.PartMut.{mid_of, put_mid}
use Rattle.laws.specs.Lists.{replaced}
use Rattle.laws.proofs.Lists.{part_length}
use Rattle.paper.specs.Undoing.{plainly}
use Rattle.paper.specs.Answer as paper
use Rattle.paper.specs.Answer.{record_size, Result, record_bytes, bytes_of, store_after, bytes_after, carried_out, verdict}
use Rattle.store_cells.specs.Cells.{Got}
use Rattle.classes.specs.Classes.{sum, text_in, lengths_of, share_of, ClassLent, modules_of, class_question_of, share_in, part, data_bytes, output_of, record_of, data_of, in_order, filled}
use Rattle.classes.specs.Lesson.{text_at}
use Rattle.classes.proofs.Orders.{filled-here, filled_next}
use Rattle.classes.proofs.Taken.{Good, good}
use Rattle.classes.proofs.Singles as singles
use Rattle.classes.proofs.Singles.{first-words}
use Rattle.call_records.specs.Leaves.{Tells}
use Rattle.call_records.proofs.Stores.{AllBytes, left-bytes}
use Rattle.run_whole.specs.declared.Abort.TheVariants.{Never}
use Rattle.run_whole.specs.Runs.{abort_of}
use Rattle.call_judging.specs.Carries.{asked_by, put}
use Rattle.call_class.specs.Classes.{lent}
use Rattle.call_class.specs.Parts.{Carries, Carried, Accepts, Reached}
use Rattle.call_class.proofs.Copies.{part-back}
use Rattle.call_class.proofs.Lengths.{lengths-cells, count-lengths, word_count, sum-next, sum-most}

-- ---- one module
module _ (text inputs out code values records' data' : List ℕ) (steps depth i share : ℕ) where
  -- what it comes to with k bytes of the output
  abbrev comes-to : ℕ → Result
  comes-to k = carried_out (put plainly text steps depth inputs (mid_of (i * share) k out)) (verdict text)

  module _ (c : Carries out code values records' data' depth i share) (ys code'' values'' zs data'' : List ℕ) (s : AllBytes values'') (d : data'' ≡ replaced data' (i * data_bytes) (take data_bytes values'') data_bytes) where
    in-its-parts : Tells (comes-to share) (mid_of (i * share) share out) code values (mid_of (i * record_size) record_size records') ys code'' values'' zs
        → Carried (comes-to share) i share out code values records' data' (put_mid (i * share) share out ys) code'' values'' (put_mid (i * record_size) record_size records' zs) data''
    unfolding part
    in-its-parts t =
        let F = mid_of (i * record_size) record_size records' in
        let f : length F ≡ record_size = part_length records' (i * record_size) record_size c.records-room in
        let B = record_bytes (comes-to share).fields in
        let none : drop record_size F ≡ [] = ap (λ (k : ℕ). drop k F) (sym f) ∙ drop-length F in
        record {
          output = part-back out ys (i * share) share ∙ ap (λ (y : List ℕ). replaced out (i * share) y share) t.output;
          records = part-back records' zs (i * record_size) record_size ∙ ap (λ (y : List ℕ). replaced records' (i * record_size) y record_size) (t.told.bytes ∙ ap (λ (x : List ℕ). B ++ x) none ∙ append-nil B);
          module-data = d ∙ ap (λ (x : List ℕ). replaced data' (i * data_bytes) x data_bytes) (ap (take data_bytes) (left-bytes c.values-room t.values-left s) ∙ first-words (comes-to share).kept (paper.cells_of values) values);
          code-past = t.code-left.past;
          values-past = t.values-left.past;
        }

    carried-so : (k n : ℕ) → k ≡ share → n ≡ record_size
        → Tells (carried_out (put (asked_by Never) text steps depth inputs (mid_of (i * share) k out)) (verdict text)) (mid_of (i * share) k out) code values (mid_of (i * record_size) n records') ys code'' values'' zs
        → Carried (carried_out (put plainly text steps depth inputs (part share i out)) (verdict text)) i share out code values records' data' (put_mid (i * share) k out ys) code'' values'' (put_mid (i * record_size) n records' zs) data''
    unfolding abort_of part
    carried-so k n p q t = rw (p, q) (in-its-parts (rw (p, q) at t))

    -- as the parts are lent: from a place to another
    abbrev wide : ℕ → ℕ
    wide n = i * n + n - i * n

    pub module-carried : Tells (carried_out (put (asked_by Never) text steps depth inputs (mid_of (i * share) (wide share) out)) (verdict text)) (mid_of (i * share) (wide share) out) code values
        (mid_of (i * record_size) (wide record_size) records') ys code'' values'' zs
        → Carried (carried_out (put plainly text steps depth inputs (part share i out)) (verdict text)) i share out code values records' data' (put_mid (i * share) (wide share) out ys) code'' values''
        (put_mid (i * record_size) (wide record_size) records' zs) data''
    module-carried t = carried-so (wide share) (wide record_size) (omega arith) (omega arith) t

-- ---- all of them
-- i modules are carried out, and the next text begins at a place.
pub record Going (l : ClassLent) (at i : ℕ) (out code values records' data' : List ℕ) : Type 0 where
  pub within : i ≤ modules_of l
  pub place : at ≡ sum (take i (lengths_of l.lengths))
  pub reached : Reached l i out code values records' data'
  pub out-long : length out ≡ length l.output
  pub code-long : length code ≡ length l.code
  pub values-long : length values ≡ length l.values
  pub records-long : length records' ≡ length l.records
  pub data-long : length data' ≡ length l.module-data

pub none_yet : (l : ClassLent) → Reached l 0 l.output l.code l.values l.records l.module-data
unfolding filled in_order
none_yet l = record { output = sym (ap (λ (k : ℕ). drop k l.output) (zero-mul (share_in l))); records = refl; module-data = refl; code-past = refl; values-past = refl }

pub going_start : (l : ClassLent) → Going l 0 0 l.output l.code l.values l.records l.module-data
unfolding sum
going_start l =
    record { within = omega arith; place = refl; reached = none_yet l; out-long = refl; code-long = refl; values-long = refl; records-long = refl; data-long = refl }

module _ (l : ClassLent) (a : Accepts l) where
  g : Good (class_question_of l)
  g = good (class_question_of l) a.taken

  module _ (at i k share : ℕ) (out code values records' data' : List ℕ) (s : Going l at i out code values records' data') (h : i < modules_of l) (e : Got l.lengths i k) (w : share ≡ share_in l) where
    L : List ℕ
    L = lengths_of l.lengths

    length-is : get_or L i 0 ≡ k
    unfolding L
    length-is = ap (λ (x : List ℕ). get_or x i 0) (lengths-cells l.lengths) ∙ sym e

    next : sum (take (suc i) L) ≡ at + k
    unfolding L modules_of
    next = sum-next L i h ∙ omega (arith, s.place, length-is)

    pub text-end : at + k ≤ length l.texts
    unfolding L class_question_of
    text-end = omega (arith, next, sum-most (suc i) L, g.adds-up)

    text-is : (j : ℕ) → j ≡ k → mid_of at j l.texts ≡ text_at l i
    unfolding text_in L
    text-is j q = ap₂ (λ (x y : ℕ). take x (drop y l.texts)) (q ∙ sym length-is) s.place

    pub carries : Carries out code values records' data' l.depth i share
    unfolding class_question_of
    carries =
        record {
          out-room = rw w (omega (arith, s.out-long, singles.output-room l a.taken i h));
          code-room = omega (arith, s.code-long, g.code-room, word_count l.code);
          values-room = omega (arith, s.values-long, g.values-room, word_count l.values);
          records-room = omega (arith, s.records-long, singles.records-room l a.taken i h);
          data-room = omega (arith, s.data-long, singles.data-room l a.taken i h);
          some = g.some;
          most = g.most;
        }

    part-is : part (share_in l) i out ≡ part (share_in l) i l.output
    part-is = ap (part (share_in l) i) s.reached.output ∙ filled-here (output_of l) (share_in l) i l.output (λ j b. singles.output-long l a.taken j (omega arith))

    abbrev came-to : List ℕ → ℕ → Result
    came-to t z = carried_out (put plainly t l.steps l.depth l.inputs (part z i out)) (verdict t)

    result-is : (j : ℕ) → j ≡ k → came-to (mid_of at j l.texts) share ≡ singles.R l a.taken i h
    unfolding put
    result-is j q =
        let r : length (part (share_in l) i out) ≡ share_in l = ap length part-is ∙ singles.share-long l a.taken i h in
        ap₂ came-to (text-is j q) w
        ∙ (λ x. carried_out (record { text = text_at l i; steps = l.steps; depth = l.depth; inputs = paper.cells_of l.inputs; room = r x; code = 0; values = 0; asked = plainly }) (verdict (text_at l i)))
        ∙ sym (singles.result-is l a.taken i h)

    pub going_step : (j : ℕ) → j ≡ k → (out'' code'' values'' records'' data'' : List ℕ)
        → Carried (came-to (mid_of at j l.texts) share) i share out code values records' data' out'' code'' values'' records'' data''
        → length out'' ≡ length out → length code'' ≡ length code → length values'' ≡ length values → length records'' ≡ length records' → length data'' ≡ length data'
        → Going l (at + k) (i + 1) out'' code'' values'' records'' data''
    unfolding L modules_of
    going_step j q out'' code'' values'' records'' data'' c lo lc lv lr ld =
        let R = singles.R l a.taken i h in
        let r = result-is j q in
        let W : Result → List ℕ = λ x. x.written ++ drop (length x.written) (part (share_in l) i l.output) in
        record {
          within = omega arith;
          place = sym next ∙ rw add-one;
          reached = rw add-one (record {
            output = c.output
                ∙ ap (λ (z : ℕ). replaced out (i * z) ((came-to (mid_of at j l.texts) share).written ++ drop (length (came-to (mid_of at j l.texts) share).written) (part z i out)) z) w
                ∙ ap₂ (λ (x : Result) (p : List ℕ). replaced out (i * share_in l) (x.written ++ drop (length x.written) p) (share_in l)) r part-is
                ∙ ap (λ (x : List ℕ). replaced x (i * share_in l) (W R) (share_in l)) s.reached.output
                ∙ filled_next (output_of l) (share_in l) i l.output (λ j b. singles.output-long l a.taken j (omega arith)) (W R) (sym (singles.output-is l a.taken i h));
            records = c.records
                ∙ ap₂ (λ (x : Result) (y : List ℕ). replaced y (i * record_size) (record_bytes x.fields) record_size) r s.reached.records
                ∙ filled_next (record_of l) record_size i l.records (λ j b. singles.record-long l a.taken j (omega arith)) (record_bytes R.fields) (sym (singles.record_is l a.taken i h));
            module-data = c.module-data
                ∙ ap₂ (λ (x : Result) (y : List ℕ). replaced y (i * data_bytes) (take data_bytes (bytes_of (store_after x.kept []))) data_bytes) r s.reached.module-data
                ∙ filled_next (data_of l) data_bytes i l.module-data (λ j b. singles.data-long l a.taken j (omega arith)) (take data_bytes (bytes_of (store_after R.kept []))) (sym (singles.data_is l a.taken i h));
            code-past = c.code-past ∙ s.reached.code-past;
            values-past = c.values-past ∙ s.reached.values-past;
          });
          out-long = lo ∙ s.out-long;
          code-long = lc ∙ s.code-long;
          values-long = lv ∙ s.values-long;
          records-long = lr ∙ s.records-long;
          data-long = ld ∙ s.data-long;
        }

-- ---- the same as the call has it: by what is lent
module _ (texts lengths : List ℕ) (steps depth : ℕ) (inputs out₀ code₀ values₀ records₀ kept₀ : List ℕ) where
  abbrev all : ClassLent
  all = lent texts lengths steps depth inputs out₀ code₀ values₀ records₀ kept₀

  counted : modules_of all ≡ length lengths / 4
  unfolding modules_of lent
  counted = count-lengths lengths

  -- the share that each module has
  abbrev each : ℕ
  each = length out₀ / (length lengths / 4)

  share-is : each ≡ share_in all
  unfolding share_in share_of lent
  share-is = ap (λ (n : ℕ). length out₀ / n) (sym counted)

  pub class-none : length lengths / 4 ≡ 0 → Reached all (length (lengths_of lengths)) out₀ code₀ values₀ records₀ kept₀
  unfolding lent
  class-none z = rw (count-lengths lengths ∙ z) (none_yet all)

  pub class-start : Going all 0 0 out₀ code₀ values₀ records₀ kept₀
  unfolding lent
  class-start = going_start all

  pub class-end : (at i : ℕ) (out code values records' data' : List ℕ) → Going all at i out code values records' data' → length lengths / 4 ≤ i
      → Reached all (length (lengths_of lengths)) out code values records' data'
  class-end at i out code values records' data' s h =
      let q : i ≡ length (lengths_of lengths) = omega (arith, s.within, counted, count-lengths lengths) in
      rw q at s.reached

  module _ (a : Accepts all) (at i k : ℕ) (out code values records' data' : List ℕ) (s : Going all at i out code values records' data') (h : i < length lengths / 4) (e : Got lengths i k) where
    below : i < modules_of all
    below = omega (arith, counted, h)

    got : Got all.lengths i k
    unfolding lent
    got = e

    pub class-text : at + k ≤ length texts
    unfolding lent
    class-text = text-end all a at i k each out code values records' data' s below got share-is

    pub class-carries : Carries out code values records' data' depth i each
    unfolding lent
    class-carries = carries all a at i k each out code values records' data' s below got share-is

    pub class-step : {out'' code'' values'' records'' data'' : List ℕ}
        → Carried (carried_out (put plainly (mid_of at (at + k - at) texts) steps depth inputs (part each i out)) (verdict (mid_of at (at + k - at) texts))) i each out code values records' data' out'' code'' values'' records'' data''
        → length out'' ≡ length out → length code'' ≡ length code → length values'' ≡ length values → length records'' ≡ length records' → length data'' ≡ length data'
        → Going all (at + k) (i + 1) out'' code'' values'' records'' data''
    unfolding lent
    class-step {out''} {code''} {values''} {records''} {data''} = going_step all a at i k each out code values records' data' s below got share-is (at + k - at) (omega arith) out'' code'' values'' records'' data''
