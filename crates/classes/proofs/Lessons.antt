-- What the request says of every class, proved.
use mathlib.Core.Path.{◌≡◌, refl, sym, ap, ap₂, ◌∙◌}
use mathlib.Core.Bool.{true, false}
use mathlib.Core.List.{List, [], ◌++◌}
use Prim.Native.Nat.{ℕ, suc, ◌*◌, ◌≤◌, ◌<◌}
use native.Mathlib.Nat.{mul_comm, div-mul-le_self}
use native.Mathlib.Omega.{arith}
use lib.ListN.{length, take, drop, replicate, length-replicate}
use lib.Seq.{take_at, drop_at}
use lib.Dec.{eqb}
use borrow.Author.Tests.{eqb-true, eqb-false}
use Rattle.laws.proofs.Tests.{test, by-same, apart}
use Rattle.paper.specs.Undoing.{plainly}
use Rattle.paper.specs.Answer.{store_words, record_size, verdict, Question, Result, carried_out, record_bytes, bytes_of, store_after, cells_of}
use Rattle.demands.proofs.Bytes.{whole_words}
use Rattle.classes.specs.Classes.{share_of, asked_alone, class_refusal, ClassLent, ClassAnswer, lengths_of, modules_of, class_question_of, share_in, part, single, data_bytes, output_of, record_of, data_of, filled, zeroed, taken, refused, untouched, class_call}
use Rattle.classes.specs.Lesson.{refusal_in, text_at, output_after, record_after, data_after, count_of, Alone, ModuleAlone, Zeros, Else, ElseUntouched, Agree, SamePart, NeverChangesAnother, ListsKept, RefusalsLeave}
use Rattle.classes.proofs.Orders.{filled-part, filled-past, filled-length}
use Rattle.classes.proofs.Taken.{good, is-taken, is-refused, is-untouched}
use Rattle.classes.proofs.Singles as singles

zeroed-zeros : (store : List ℕ) → Zeros store (zeroed store)
unfolding zeroed
zeroed-zeros store =
    let z = length-replicate {A = ℕ} (4 * store_words) 0 in
    record { zeros = take_at (replicate (4 * store_words) 0) (drop (4 * store_words) store) (4 * store_words) z; past = drop_at (replicate (4 * store_words) 0) (drop (4 * store_words) store) (4 * store_words) z }

module _ (l : ClassLent) (e : refusal_in l ≡ 0) where
  outputs : (i : ℕ) → i < modules_of l → length (output_of l i) ≡ share_in l
  outputs = singles.output-long l e

  records : (i : ℕ) → i < modules_of l → length (record_of l i) ≡ record_size
  records = singles.record-long l e

  datas : (i : ℕ) → i < modules_of l → length (data_of l i) ≡ data_bytes
  datas = singles.data-long l e

  output-now : (class_call l).output ≡ filled (output_of l) (share_in l) (modules_of l) l.output
  unfolding taken
  output-now = ap (λ (a : ClassAnswer). a.output) (is-taken l e)

  records-now : (class_call l).records ≡ filled (record_of l) record_size (modules_of l) l.records
  unfolding taken
  records-now = ap (λ (a : ClassAnswer). a.records) (is-taken l e)

  data-now : (class_call l).module-data ≡ filled (data_of l) data_bytes (modules_of l) l.module-data
  unfolding taken
  data-now = ap (λ (a : ClassAnswer). a.module-data) (is-taken l e)

  module _ (i : ℕ) (h : i < modules_of l) where
    output-at : output_after l i ≡ output_of l i
    output-at = ap (part (share_in l) i) output-now ∙ filled-part (output_of l) (share_in l) (modules_of l) l.output outputs i h

    record-at : record_after l i ≡ record_of l i
    record-at = ap (part record_size i) records-now ∙ filled-part (record_of l) record_size (modules_of l) l.records records i h

    data-at : data_after l i ≡ data_of l i
    data-at = ap (part data_bytes i) data-now ∙ filled-part (data_of l) data_bytes (modules_of l) l.module-data datas i h

    is-alone : Alone l i
    unfolding output_of record_of data_of
    is-alone = record { made = singles.returned-is l e i h; output = output-at; fields = record-at; module-data = data-at }

    -- what module i comes to
    R : Result
    R = singles.R l e i h

    kept-between : drop (count_of l i) (output_after l i) ≡ drop (count_of l i) (part (share_in l) i l.output)
    unfolding R
    kept-between =
        let w = R.written in
        let c : count_of l i ≡ length w = singles.count-written l e i h in
        ap (λ (k : ℕ). drop k (output_after l i)) c
        ∙ ap (drop (length w)) (output-at ∙ singles.output-is l e i h)
        ∙ drop_at w (drop (length w) (part (share_in l) i l.output)) (length w) refl
        ∙ ap (λ (k : ℕ). drop k (part (share_in l) i l.output)) (sym c)

    written_at : take (count_of l i) (output_after l i) ≡ R.written
    unfolding R
    written_at =
        let w = R.written in
        let c : count_of l i ≡ length w = singles.count-written l e i h in
        ap (λ (k : ℕ). take k (output_after l i)) c
        ∙ ap (take (length w)) (output-at ∙ singles.output-is l e i h)
        ∙ take_at w (drop (length w) (part (share_in l) i l.output)) (length w) refl

  else : Else l
  unfolding taken share_in share_of modules_of class_question_of
  else =
      let g = good _ e in
      record {
        returned = ap (λ (a : ClassAnswer). a.returned) (is-taken l e);
        between = kept-between;
        past-output = ap (drop (modules_of l * share_in l)) output-now ∙ filled-past (output_of l) (share_in l) (modules_of l) l.output outputs;
        past-records = ap (drop (modules_of l * record_size)) records-now ∙ filled-past (record_of l) record_size (modules_of l) l.records records;
        past-data = ap (drop (modules_of l * data_bytes)) data-now ∙ filled-past (data_of l) data_bytes (modules_of l) l.module-data datas;
        output-length = ap length output-now ∙ filled-length (output_of l) (share_in l) (modules_of l) l.output outputs
            (omega (arith, mul_comm (modules_of l) (share_in l), div-mul-le_self (length l.output) (modules_of l)));
        records-length = ap length records-now ∙ filled-length (record_of l) record_size (modules_of l) l.records records (omega (arith, g.records-room));
        data-length = ap length data-now ∙ filled-length (data_of l) data_bytes (modules_of l) l.module-data datas (omega (arith, g.data-room, whole_words l.module-data));
        code = rw (is-taken l e) (zeroed-zeros l.code);
        values = rw (is-taken l e) (zeroed-zeros l.values);
      }

pub module-alone : ModuleAlone
unfolding ModuleAlone
module-alone l e i h = is-alone l e i h

pub else-untouched : ElseUntouched
unfolding ElseUntouched
else-untouched l e = else l e

module _ (l m : ClassLent) (p : refusal_in l ≡ 0) (q : refusal_in m ≡ 0) (i j : ℕ) (h : i < modules_of l) (k : j < modules_of m) (a : Agree l m i j) where
  alike-asked : singles.Q l p i h ≡ singles.Q m q j k
  alike-asked =
      λ x. record { text = a.text x; steps = a.steps x; depth = a.depth x; inputs = cells_of (a.inputs x); room = a.share x; code = 0; values = 0; asked = plainly }

  alike : R l p i h ≡ R m q j k
  unfolding R
  alike = singles.result-is l p i h ∙ ap₂ (λ (x : Question) (t : List ℕ). carried_out x (verdict t)) alike-asked a.text ∙ sym (singles.result-is m q j k)

  same : SamePart l m i j
  unfolding R
  same =
      record {
        fields = record-at l p i h ∙ singles.record_is l p i h ∙ ap (λ (r : Result). record_bytes r.fields) alike ∙ sym (record-at m q j k ∙ singles.record_is m q j k);
        module-data = data-at l p i h ∙ singles.data_is l p i h ∙ ap (λ (r : Result). take data_bytes (bytes_of (store_after r.kept []))) alike ∙ sym (data-at m q j k ∙ singles.data_is m q j k);
        count = ap (λ (r : Result). r.fields.output) alike;
        written = written_at l p i h ∙ ap (λ (r : Result). r.written) alike ∙ sym (written_at m q j k);
      }

pub never-changes-another : NeverChangesAnother
unfolding NeverChangesAnother
never-changes-another l m p q i j h k a = same l m p q i j h k a

pub refusals-leave : RefusalsLeave
unfolding RefusalsLeave untouched refused taken
refusals-leave l =
    test (eqb (refusal_in l) 0)
    (λ t.
    let z = eqb-true (refusal_in l) 0 t in
    let c = is-taken l z in
    record {
      kept = λ n. absurd (n z);
      one = λ o. apart (sym z ∙ o);
      others = λ n. (rw c (zeroed-zeros l.code), rw c (zeroed-zeros l.values));
    })
    (λ f.
    let n = eqb-false (refusal_in l) 0 f in
    by-same (refusal_in l) 1
    (λ o.
    let c = is-untouched l o in
    record {
      kept = λ z. record { returned = ap (λ (a : ClassAnswer). a.returned) c ∙ sym o; output = ap (λ (a : ClassAnswer). a.output) c; records = ap (λ (a : ClassAnswer). a.records) c; module-data = ap (λ (a : ClassAnswer). a.module-data) c };
      one = λ z. (ap (λ (a : ClassAnswer). a.code) c, ap (λ (a : ClassAnswer). a.values) c);
      others = λ m. absurd (m o);
    })
    (λ m.
    let c = is-refused l n m in
    record {
      kept = λ z. record { returned = ap (λ (a : ClassAnswer). a.returned) c; output = ap (λ (a : ClassAnswer). a.output) c; records = ap (λ (a : ClassAnswer). a.records) c; module-data = ap (λ (a : ClassAnswer). a.module-data) c };
      one = λ o. absurd (m o);
      others = λ z. (rw c (zeroed-zeros l.code), rw c (zeroed-zeros l.values));
    }))
