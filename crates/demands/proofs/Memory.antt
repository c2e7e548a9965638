-- Demand 1: the lent memory after the call.
use mathlib.Core.Path.{◌≡◌, refl, sym, ap, ◌∙◌}
use mathlib.Core.Bool.{Bool, true, false, ◌||◌}
use mathlib.Core.List.{List, [], ◌++◌}
use Prim.Native.Nat.{ℕ, ◌-◌, ◌≤◌}
use native.Mathlib.Omega.{arith}
use lib.Dec.{ltb}
use lib.ListN.{length, take, drop, replicate, length-append, length-drop, length-replicate}
use lib.Seq.{take_at, drop_at}
use lib.IntN.{ℤ, pos}
use borrow.Author.Tests.{ltb-false}
use Rattle.laws.proofs.Tests.{test, false-true}
use Rattle.paper.specs.Declarations.{module_word_limit}
use Rattle.paper.specs.Answer.{store_words, Record, Result, refused_with, too_small, result, Lent, Answer, question_of, store_after, answer}
use Rattle.raised.proofs.Choices.{forked}
use Rattle.demands.proofs.Records.{Sound, small-allowed, result-1, result-sound}
use Rattle.demands.proofs.MoreRoom.{Counted, result-counted}
use Rattle.demands.specs.Demands.{Allowed, refused, ended, Touched, Demand1}

-- ---- a store after the call
-- Its first 16,384 words are those kept and then 0.
module _ (kept store : List ℤ) (fits : length kept ≤ store_words) (lent : store_words ≤ length store) where
  abbrev zeros : List ℤ
  zeros = replicate (store_words - length kept) (pos 0)

  front_length : length (kept ++ zeros) ≡ store_words
  front_length = length-append kept zeros ∙ omega (arith, length-replicate (store_words - length kept) (pos 0))

  after-length : length (store_after kept store) ≡ length store
  unfolding store_after
  after-length = length-append (kept ++ zeros) (drop store_words store) ∙ omega (arith, front_length, length-drop store_words store)

  after-past : drop store_words (store_after kept store) ≡ drop store_words store
  unfolding store_after
  after-past = drop_at (kept ++ zeros) (drop store_words store) store_words front_length

  after_first : take store_words (store_after kept store) ≡ kept ++ zeros
  unfolding store_after
  after_first = take_at (kept ++ zeros) (drop store_words store) store_words front_length

  after-cleared : (n : ℕ) → n ≡ length kept → drop n (take store_words (store_after kept store)) ≡ replicate (store_words - n) (pos 0)
  after-cleared n e = ap (drop n) after_first ∙ drop_at kept zeros n (sym e) ∙ ap (λ (k : ℕ). replicate (store_words - k) (pos 0)) (sym e)

-- ---- the record's counts
counts-fit : (l : Lent) (f : Record) → Allowed l f → (f.output ≤ length l.output) × (f.words ≤ module_word_limit)
counts-fit l f (refused e p h) = (omega arith, omega arith)
counts-fit l f (ended p h) = (h.output, h.words)

module _ (l : Lent) where
  -- refusal 1: nothing but the record
  small-touched : too_small (question_of l) ≡ true → Touched l (answer l)
  unfolding answer refused_with
  small-touched s = rw (s, answer) (by-refusal (result (question_of l)).fields one)
    where
      one : (result (question_of l)).fields.refusal ≡ 1
      one = ap (λ (r : Result). r.fields.refusal) (result-1 l s)

      by-refusal : (f : Record) → f.refusal ≡ 1 → Touched l (record { fields = f; output = l.output; code = l.code; values = l.values })
      by-refusal f e =
          record {
            output-length = refl;
            code-length = refl;
            values_length = refl;
            output-past = refl;
            code-past = refl;
            values-past = refl;
            code-cleared = λ n. absurd (n e);
            values-cleared = λ n. absurd (n e);
            output-kept = λ n. refl;
            code-kept = λ n. refl;
            values-kept = λ n. refl;
          }

  -- any other answer
  module _ (code : store_words ≤ length l.code) (values : store_words ≤ length l.values) where
    other-touched : (r : Result) → Counted r → Sound l r.fields
        → Touched l (record { fields = r.fields; output = r.written ++ drop (length r.written) l.output; code = store_after [] l.code; values = store_after r.kept l.values })
    other-touched r c s =
        let (o, w) = counts-fit l r.fields s.allowed in
        let written : length r.written ≤ length l.output = omega (arith, c.output) in
        let kept : length r.kept ≤ store_words = omega (arith, c.words) in
        record {
          output-length = length-append r.written _ ∙ omega (arith, length-drop (length r.written) l.output);
          code-length = after-length [] l.code (omega arith) code;
          values_length = after-length r.kept l.values kept values;
          output-past = rw c.output (drop_at r.written _ (length r.written) refl);
          code-past = after-past [] l.code (omega arith) code;
          values-past = after-past r.kept l.values kept values;
          code-cleared = λ n. after_first [] l.code (omega arith) code;
          values-cleared = λ n. after-cleared r.kept l.values kept values r.fields.words c.words;
          output-kept = λ n. absurd (s.not-1 n);
          code-kept = λ n. absurd (s.not-1 n);
          values-kept = λ n. absurd (s.not-1 n);
        }

  both-lent : too_small (question_of l) ≡ false → (store_words ≤ length l.code) × (store_words ≤ length l.values)
  unfolding too_small question_of
  both-lent e = by_tests (ltb (length l.code) store_words) (ltb (length l.values) store_words) refl refl e
    where
      by_tests : (a b : Bool) → ltb (length l.code) store_words ≡ a → ltb (length l.values) store_words ≡ b → (a || b) ≡ false
          → (store_words ≤ length l.code) × (store_words ≤ length l.values)
      by_tests false false p q h = (ltb-false _ _ p, ltb-false _ _ q)
      by_tests true b p q h = false-true (sym h)
      by_tests false true p q h = false-true (sym h)

  touched : too_small (question_of l) ≡ false → Touched l (answer l)
  unfolding answer
  touched s = rw (s, answer) (other-touched (both-lent s).0 (both-lent s).1 (result (question_of l)) (result-counted (question_of l)) (result-sound l s))

  fields-of : (answer l).fields ≡ (result (question_of l)).fields
  unfolding answer
  fields-of = forked (λ (a : Answer). a.fields ≡ (result (question_of l)).fields) (too_small (question_of l)) _ _ refl refl

pub demand-1 : Demand1
unfolding Demand1
demand-1 l =
    test (too_small (question_of l))
    (λ s. (rw (fields-of l) (small-allowed l s), small-touched l s))
    (λ s. (rw (fields-of l) (result-sound l s).allowed, touched l s))
