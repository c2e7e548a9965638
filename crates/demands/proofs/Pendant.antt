-- Demands 1 and 3 of the call on bytes, carried over from the call on words.
use mathlib.Core.Path.{◌≡◌, refl, ap, ◌∙◌}
use mathlib.Core.List.{List, ◌++◌}
use Prim.Native.Nat.{ℕ, ◌+◌, ◌-◌, ◌*◌, ◌≤◌, ◌<◌}
use native.Mathlib.Omega.{arith}
use lib.ListN.{length, take, drop, replicate, length-append, length-take, length-drop, length-replicate}
use lib.Seq.{take_at, drop_at}
use lib.IntN.{ℤ, pos}
use borrow.Author.Tests.{lt-ltb, le-ltb, eq-eqb, ne_eqb}
use Rattle.laws.proofs.Tests.{by_most, by-same}
use Rattle.paper.specs.Declarations.{module_word_limit}
use Rattle.paper.specs.Answer.{store_words, record_size, Record, record_bytes, Lent, Answer, answer, LentBytes, cells_of, bytes_of, lent_of, bytes_after, spread, pendant_call, flagged_call}
use Rattle.demands.proofs.Bytes.{after-length, after-past, after-zeros, after_same, length-record, take-bytes, whole_words, ending-in, steps-in, output-in, inputs_in, words-in}
use Rattle.demands.proofs.Memory.{demand-1}
use Rattle.demands.proofs.MoreRoom.{demand-3}
use Rattle.demands.specs.Vocabulary.{All, IsByte, field_in}
use Rattle.demands.specs.Demands.{StepsLent, plain, struck, undo_allowed, Allowed, refused, ended, Touched, Demand1, TouchedBytes, CallMade, Demand1InBytes, Told, told, RefusedAlike, alike, neither, NeverChanged, Demand3, told_in_bytes, CountedIn64, Demand3InBytes, Flagged}

-- ---- a store: its words w after the call, its bytes l before
-- Zeros from n on to k are there only if there are k words.
long-enough : (k n : ℕ) (w : List ℤ) → n < k → drop n (take k w) ≡ replicate (k - n) (pos 0) → k ≤ length w
long-enough k n w h e =
    let q : length (drop n (take k w)) ≡ k - n = ap length e ∙ length-replicate (k - n) (pos 0) in
    omega (arith, length-drop n (take k w), length-take k w)

-- Past k words the bytes are as they were: either there are k words, or nothing was stored.
past-either : (k : ℕ) (w : List ℤ) (l : List ℕ) → All IsByte l → length w ≡ length (cells_of l) → drop k w ≡ drop k (cells_of l) → (¬ (k ≤ length w) → w ≡ cells_of l)
    → drop (4 * k) (bytes_after w l) ≡ drop (4 * k) l
past-either k w l b same e f =
    by_most k (length w)
    (λ h. after-past w l same k h b e)
    (λ h. ap (λ (v : List ℤ). drop (4 * k) (bytes_after v l)) (f (λ g. omega arith)) ∙ ap (drop (4 * k)) (after_same l b))

module _ (l : LentBytes) (a : Answer) (lent : record_size ≤ length l.fields) (h : Allowed (lent_of l) a.fields) (t : Touched (lent_of l) a)
    (code : All IsByte l.code) (values : All IsByte l.values) where
  -- a store under 16,384 words was refused by 1, and is as it was
  code-small : ¬ (store_words ≤ length a.code) → a.fields.refusal ≡ 1
  code-small n = by-same a.fields.refusal 1 (λ e. e) (λ e. absurd (n (long-enough store_words 0 a.code (omega arith) (t.code-cleared e))))

  few_words : a.fields.words ≤ module_word_limit
  few_words = by-case h
    where
      by-case : Allowed (lent_of l) a.fields → a.fields.words ≤ module_word_limit
      by-case (refused e p g) = omega arith
      by-case (ended p g) = g.words

  values-small : ¬ (store_words ≤ length a.values) → a.fields.refusal ≡ 1
  values-small n =
      by-same a.fields.refusal 1 (λ e. e) (λ e. absurd (n (long-enough store_words a.fields.words a.values (omega (arith, few_words)) (t.values-cleared e))))

  touched-bytes : TouchedBytes l a.fields (spread a l)
  unfolding spread lent_of
  touched-bytes =
      record {
        output-length = t.output-length;
        code-length = after-length a.code l.code t.code-length;
        values_length = after-length a.values l.values t.values_length;
        fields-length = length-append (record_bytes a.fields) _ ∙ omega (arith, length-record a.fields, length-drop record_size l.fields);
        output-past = t.output-past;
        code-past = past-either store_words a.code l.code code t.code-length t.code-past (λ n. t.code-kept (code-small n));
        values-past = past-either store_words a.values l.values values t.values_length t.values-past (λ n. t.values-kept (values-small n));
        fields-past = drop_at (record_bytes a.fields) _ record_size (length-record a.fields);
        code-cleared = λ n. after-zeros a.code l.code t.code-length store_words 0 (long-enough store_words 0 a.code (omega arith) (t.code-cleared n)) (omega arith) (t.code-cleared n);
        values-cleared = λ n.
            after-zeros a.values l.values t.values_length store_words a.fields.words
            (long-enough store_words a.fields.words a.values (omega (arith, few_words)) (t.values-cleared n))
            (omega (arith, few_words)) (t.values-cleared n);
        output-kept = t.output-kept;
        code-kept = λ n. ap (λ (v : List ℤ). bytes_after v l.code) (t.code-kept n) ∙ after_same l.code code;
        values-kept = λ n. ap (λ (v : List ℤ). bytes_after v l.values) (t.values-kept n) ∙ after_same l.values values;
      }

  call-made : CallMade l (spread a l)
  unfolding spread
  call-made =
      record {
        returned = refl;
        fields = a.fields;
        written = take_at (record_bytes a.fields) _ record_size (length-record a.fields);
        allowed = h;
        touched = touched-bytes;
      }

pub demand-1-in-bytes : Demand1InBytes
unfolding Demand1InBytes Demand1 pendant_call
demand-1-in-bytes l code values =
    record {
      fewer = λ h. rw (lt-ltb (length l.fields) record_size h, pendant_call);
      otherwise = λ h.
          let (allowed, touched) = demand-1 (lent_of l) in
          rw (le-ltb (length l.fields) record_size h, pendant_call) (call-made l (answer (lent_of l)) h allowed touched code values);
    }

-- ---- demand 3
-- What an answer tells, in bytes.
abbrev in_bytes : Told Record ℤ → Told (List ℕ) ℕ
in_bytes t = record { fields = record_bytes t.fields; ending = t.ending; steps = t.steps; inputs = t.inputs; module-data = bytes_of t.module-data; output = t.output }

never-in-bytes : (x y : Told Record ℤ) → NeverChanged x y → NeverChanged (in_bytes x) (in_bytes y)
never-in-bytes x y h =
    record {
      refused = by-case h.refused;
      finished = λ f. ap in_bytes (h.finished f);
      broke-off = λ f. let b = h.broke-off f in record { output = b.output; steps = b.steps; inputs = b.inputs };
    }
  where
    by-case : RefusedAlike x y → RefusedAlike (in_bytes x) (in_bytes y)
    by-case (alike e q) = alike e (ap record_bytes q)
    by-case (neither p q) = neither p q

-- The counts of a record that the tables allow.
record Counts (l : Lent) (a : Answer) : Type 0 where
  ending : a.fields.ending ≤ 10
  steps : a.fields.steps ≤ l.steps + undo_allowed l.asked.abort
  output : a.fields.output ≤ length l.output
  inputs : a.fields.inputs ≤ length l.inputs
  words : a.fields.words ≤ module_word_limit
  kept : a.fields.words ≤ length a.values

-- K is at most the allowance.
pub steps-counted : (l : Lent) (f : Record) → StepsLent l f → f.steps ≤ l.steps + undo_allowed l.asked.abort
unfolding undo_allowed
steps-counted l f (plain e h) = omega arith
steps-counted l f (struck e h) = rw h.given (omega (arith, h.reached, h.most))

counts : (l : Lent) (a : Answer) → Allowed l a.fields → Touched l a → Counts l a
counts l a (refused e p h) t =
    let f = a.fields in
    let s : f.steps ≡ 0 = h.steps in
    let o : f.output ≡ 0 = h.output in
    let i : f.inputs ≡ 0 = h.inputs in
    let w : f.words ≡ 0 = h.words in
    record { ending = omega arith; steps = omega arith; output = omega arith; inputs = omega arith; words = omega arith; kept = omega arith }
counts l a (ended p h) t =
    let k : store_words ≤ length a.values =
    long-enough store_words a.fields.words a.values (omega (arith, h.words)) (t.values-cleared (λ e. omega (arith, h.refusal))) in
    record { ending = h.to-10; steps = steps-counted l a.fields h.steps; output = h.output; inputs = h.inputs; words = h.words; kept = omega (arith, h.words) }

told-spread : (l : LentBytes) (a : Answer) → CountedIn64 l → Counts (lent_of l) a → told_in_bytes (spread a l) ≡ in_bytes (told a)
unfolding told_in_bytes told spread bytes_after lent_of
told-spread l a c k =
    let f = a.fields in
    let x = drop record_size l.fields in
    let b = record_bytes f ++ x in
    let e₁ : take record_size b ≡ record_bytes f = take_at (record_bytes f) x record_size (length-record f) in
    let e₂ : field_in 0 b ≡ f.ending = ending-in f x (omega (arith, k.ending)) in
    let e₃ : field_in 3 b ≡ f.steps = steps-in f x (omega (arith, k.steps, c.steps)) in
    let e₄ : field_in 6 b ≡ f.inputs = inputs_in f x (omega (arith, k.inputs, c.inputs, whole_words l.inputs)) in
    let e₅ : take (4 * field_in 7 b) (bytes_after a.values l.values) ≡ bytes_of (take f.words a.values) =
    ap (λ (n : ℕ). take (4 * n) (bytes_after a.values l.values)) (words-in f x (omega (arith, k.words)))
    ∙ take-bytes f.words a.values (drop (4 * length a.values) l.values) k.kept in
    let e₆ : take (field_in 5 b) a.output ≡ take f.output a.output =
    ap (λ (n : ℕ). take n a.output) (output-in f x (omega (arith, k.output, c.output))) in
    λ i. record { fields = e₁ i; ending = e₂ i; steps = e₃ i; inputs = e₄ i; module-data = e₅ i; output = e₆ i }

told-call : (l : LentBytes) → CountedIn64 l → told_in_bytes (pendant_call l) ≡ in_bytes (told (answer (lent_of l)))
unfolding pendant_call Demand1
told-call l c =
    let (allowed, touched) = demand-1 (lent_of l) in
    rw (le-ltb (length l.fields) record_size c.record-lent, pendant_call) (told-spread l (answer (lent_of l)) c (counts (lent_of l) (answer (lent_of l)) allowed touched))

pub demand-3-in-bytes : Demand3InBytes
unfolding Demand3InBytes Demand3
demand-3-in-bytes a b c d m = rw (told-call a c, told-call b d) (never-in-bytes _ _ (demand-3 (lent_of a) (lent_of b) m))

-- ---- the call with flags
pub flagged : Flagged
unfolding Flagged flagged_call
flagged flags l = record { same = λ e. rw (eq-eqb flags 0 e, flagged_call); unknown = λ e. rw (ne_eqb flags 0 e, flagged_call) }
