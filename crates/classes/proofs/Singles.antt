-- A module of a class that is not refused: what the call for it alone comes to.
use mathlib.Core.Path.{◌≡◌, refl, sym, ap, ◌∙◌}
use mathlib.Core.Bool.{true, false}
use mathlib.Core.List.{List, [], ◌++◌, append-nil}
use Prim.Native.Nat.{ℕ, suc, ◌+◌, ◌-◌, ◌*◌, ◌/◌, ◌≤◌, ◌<◌}
use native.Mathlib.Nat.{suc-mul, mul_comm, mul-le-mul_right, div-mul-le_self}
use native.Mathlib.Omega.{arith}
use lib.IntN.{ℤ, pos}
use lib.ListN.{length, take, drop, replicate, length-append, length-drop, length-replicate}
use lib.Seq.{take-append-le, take_at, drop-nil, drop-length, length-take-le}
use borrow.Author.Tests.{le-ltb, ne_eqb}
use Rattle.laws.proofs.Lists.{part_length}
use Rattle.paper.specs.Undoing.{plainly}
use Rattle.paper.specs.Answer.{Verdict, refused_by, accepted, verdict, Question, Result, refused_with, ended_with, ran_to, carried_out, too_small, bad_depth, result, Lent, Answer}
use Rattle.paper.specs.Answer.{store_words, record_size, depth_limit, question_of, store_after, answer, cells_of, bytes_of, record_bytes, LentBytes, BytesAnswer, lent_of, bytes_after, spread, pendant_call}
use Rattle.demands.specs.Demands.{Demand1}
use Rattle.demands.proofs.Bytes.{length-bytes, bytes-append, length-record, whole_words}
use Rattle.demands.proofs.Memory.{demand-1}
use Rattle.classes.specs.Classes.{ClassQuestion, text_in, share_of, asked_alone, class_refusal, ClassLent, lengths_of, modules_of, class_question_of, share_in, part, alone, single, data_bytes, output_of, record_of, data_of}
use Rattle.classes.specs.Lesson.{text_at}
use Rattle.classes.proofs.Taken.{Good, good}

-- ---- a result is asked of no store
-- A question but for its stores.
abbrev pub bare : Question → Question
bare q = record { text = q.text; steps = q.steps; depth = q.depth; inputs = q.inputs; room = q.room; code = 0; values = 0; asked = q.asked }

carried-bare : (q : Question) (v : Verdict) → carried_out q v ≡ carried_out (bare q) v
unfolding carried_out
carried-bare q (refused_by f) = refl
carried-bare q (accepted a) = refl

pub result-carried : (q : Question) → store_words ≤ q.code → store_words ≤ q.values → 0 < q.depth → q.depth ≤ depth_limit → result q ≡ carried_out (bare q) (verdict q.text)
unfolding result too_small bad_depth
result-carried q c v s m =
    let n : q.depth ≡ 0 → ⊥ = λ z. omega arith in
    let t : too_small q ≡ false = rw (le-ltb q.code store_words c, le-ltb q.values store_words v) in
    let d : bad_depth q ≡ false = rw (ne_eqb q.depth 0 n, le-ltb depth_limit q.depth m) in
    let e : result q ≡ carried_out q (verdict q.text) = rw (t, result) (rw d) in
    e ∙ carried-bare q (verdict q.text)

-- The record counts the bytes written.
pub count-is : (q : Question) (v : Verdict) → (carried_out q v).fields.output ≡ length (carried_out q v).written
unfolding carried_out refused_with ran_to ended_with
count-is q (refused_by f) = refl
count-is q (accepted a) = refl

-- The first words of a store after a call are no matter of what it held.
pub first-words : (kept store : List ℤ) (bytes : List ℕ) → take data_bytes (bytes_after (store_after kept store) bytes) ≡ take data_bytes (bytes_of (store_after kept []))
unfolding bytes_after store_after
first-words kept store bytes =
    let A : List ℤ = kept ++ replicate (store_words - length kept) (pos 0) in
    let n : length A ≡ length kept + (store_words - length kept) = length-append kept _ ∙ omega (arith, length-replicate {A = ℤ} (store_words - length kept) (pos 0)) in
    let m : data_bytes ≤ length (bytes_of A) = omega (arith, length-bytes A) in
    let whole : (s : List ℤ) → take data_bytes (bytes_of (A ++ s)) ≡ take data_bytes (bytes_of A) = λ s. ap (take data_bytes) (bytes-append A s) ∙ take-append-le data_bytes (bytes_of A) (bytes_of s) m in
    let far : data_bytes ≤ length (bytes_of (A ++ drop store_words store)) = omega (arith, length-bytes (A ++ drop store_words store), length-append A (drop store_words store)) in
    take-append-le data_bytes (bytes_of (A ++ drop store_words store)) _ far ∙ whole (drop store_words store) ∙ sym (whole (drop store_words []))

-- i parts of a share, and one more, are no more than there is
pub share-fits : (room n i : ℕ) → i < n → i * share_of room n + share_of room n ≤ room
unfolding share_of
share-fits room n i h = omega (arith, suc-mul i (room / n), mul-le-mul_right {m = suc i} {n = n} (room / n) h, mul_comm n (room / n), div-mul-le_self room n)

module _ (l : ClassLent) (e : class_refusal (class_question_of l) ≡ 0) where
  g : Good (class_question_of l)
  g = good (class_question_of l) e

  module _ (i : ℕ) (h : i < modules_of l) where
    pub output-room : i * share_in l + share_in l ≤ length l.output
    unfolding share_in
    output-room = share-fits (length l.output) (modules_of l) i h

    pub records-room : i * record_size + record_size ≤ length l.records
    unfolding class_question_of modules_of
    records-room = omega (arith, g.records-room, h)

    pub data-room : i * data_bytes + data_bytes ≤ length l.module-data
    unfolding class_question_of modules_of
    data-room = omega (arith, g.data-room, h, whole_words l.module-data)

    pub share-long : length (part (share_in l) i l.output) ≡ share_in l
    unfolding part
    share-long = part_length l.output (i * share_in l) (share_in l) output-room

    fields-long : length (part record_size i l.records) ≡ record_size
    unfolding part
    fields-long = part_length l.records (i * record_size) record_size records-room

    same-question : question_of (lent_of (alone l i)) ≡ asked_alone (class_question_of l) i
    unfolding question_of lent_of alone asked_alone class_question_of share_in modules_of
    same-question =
        λ j. record { text = text_at l i; steps = l.steps; depth = l.depth; inputs = cells_of l.inputs; room = share-long j; code = length (cells_of l.code); values = length (cells_of l.values); asked = plainly }

    abbrev pub R : Result
    R = result (asked_alone (class_question_of l) i)

    -- what is asked of module i but for the stores
    abbrev pub Q : Question
    Q = record { text = text_at l i; steps = l.steps; depth = l.depth; inputs = cells_of l.inputs; room = share_in l; code = 0; values = 0; asked = plainly }

    pub result-is : R ≡ carried_out Q (verdict (text_at l i))
    unfolding asked_alone class_question_of share_in modules_of
    result-is = result-carried (asked_alone (class_question_of l) i) g.code-room g.values-room g.some g.most

    pub count-written : R.fields.output ≡ length R.written
    count-written = ap (λ (r : Result). r.fields.output) result-is ∙ count-is Q (verdict (text_at l i)) ∙ ap (λ (r : Result). length r.written) (sym result-is)

    not-small : too_small (asked_alone (class_question_of l) i) ≡ false
    unfolding too_small asked_alone
    not-small = rw (le-ltb (class_question_of l).code store_words g.code-room, le-ltb (class_question_of l).values store_words g.values-room)

    answered : answer (lent_of (alone l i))
        ≡ record { fields = R.fields; output = R.written ++ drop (length R.written) (part (share_in l) i l.output); code = store_after [] (cells_of l.code); values = store_after R.kept (cells_of l.values) }
    unfolding answer lent_of alone
    answered =
        let t : too_small (question_of (lent_of (alone l i))) ≡ false = ap too_small same-question ∙ not-small in
        let r : result (question_of (lent_of (alone l i))) ≡ R = ap result same-question in
        rw (t, answer) (rw r)

    made : single l i ≡ spread (answer (lent_of (alone l i))) (alone l i)
    unfolding single pendant_call alone
    made = rw (le-ltb (length (part record_size i l.records)) record_size (omega (arith, fields-long)), pendant_call)

    pub returned-is : (single l i).returned ≡ 1
    unfolding spread
    returned-is = ap (λ (b : BytesAnswer). b.returned) made

    pub output-is : output_of l i ≡ R.written ++ drop (length R.written) (part (share_in l) i l.output)
    unfolding output_of spread
    output-is = ap (λ (b : BytesAnswer). b.output) made ∙ ap (λ (a : Answer). a.output) answered

    pub record_is : record_of l i ≡ record_bytes R.fields
    unfolding record_of spread alone
    record_is =
        ap (λ (b : BytesAnswer). b.fields) made
        ∙ ap (λ (a : Answer). record_bytes a.fields ++ drop record_size (part record_size i l.records)) answered
        ∙ ap (λ (k : ℕ). record_bytes R.fields ++ drop k (part record_size i l.records)) (sym fields-long)
        ∙ ap (λ (x : List ℕ). record_bytes R.fields ++ x) (drop-length (part record_size i l.records))
        ∙ append-nil (record_bytes R.fields)

    pub data_is : data_of l i ≡ take data_bytes (bytes_of (store_after R.kept []))
    unfolding data_of spread alone
    data_is =
        ap (λ (b : BytesAnswer). take data_bytes b.values) made
        ∙ ap (λ (a : Answer). take data_bytes (bytes_after a.values l.values)) answered
        ∙ first-words R.kept (cells_of l.values) l.values

    pub output-long : length (output_of l i) ≡ share_in l
    unfolding Demand1 output_of spread lent_of alone
    output-long =
        let (allowed, touched) = demand-1 (lent_of (alone l i)) in
        ap (λ (b : BytesAnswer). length b.output) made ∙ touched.output-length ∙ share-long

    pub record-long : length (record_of l i) ≡ record_size
    record-long = ap length record_is ∙ length-record R.fields

    pub data-long : length (data_of l i) ≡ data_bytes
    unfolding store_after
    data-long =
        let k : List ℤ = R.kept in
        let n : store_words ≤ length (store_after k []) = omega (arith, length-append (k ++ replicate (store_words - length k) (pos 0)) (drop store_words []), length-append k (replicate (store_words - length k) (pos 0)), length-replicate {A = ℤ} (store_words - length k) (pos 0)) in
        ap length data_is ∙ length-take-le data_bytes (bytes_of (store_after k [])) (omega (arith, length-bytes (store_after k [])))
