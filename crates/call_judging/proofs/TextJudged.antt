-- A text that is judged: refused, or ready to be carried out.
use Rattle.std.specs.Prelude.{Ok, Err}
use mathlib.Core.Path.{◌≡◌, refl, sym, ap, ap₂, ◌∙◌}
use mathlib.Core.Bool.{Bool, true, false, ◌||◌}
use mathlib.Core.List.{List, ◌++◌}
use Prim.Native.Nat.{ℕ, ◌≤◌, ◌<◌}
use lib.Dec.{ltb}
use lib.ListN.{length, drop}
use borrow.Author.Tests.{le-ltb}
use Rattle.laws.proofs.Tests.{apart, false-true}
use Rattle.paper.specs.Words.{Refusal}
use Rattle.paper.specs.Answer.{record_size, record_bytes, depth_limit, Verdict, refused_by, accepted, verdict, Result, carried_out}
use Rattle.layout.specs.Broken.{number_of}
use Rattle.text_words.specs.declared.Refusal as refusals
use Rattle.check_whole.specs.declared.Accepted as answers
use Rattle.check_whole.specs.Checks.{Checked, TooSmall, Judges, Checks}
use Rattle.run_whole.specs.declared.Abort.{Abort}
use Rattle.layout.specs.Named.{store_bytes}
use Rattle.call_records.specs.Records.{refused_fields, Written}
use Rattle.call_records.specs.Leaves.{Rooms, Tells}
use Rattle.call_records.proofs.Stores.{left-emptied, left-on}
use Rattle.call_records.proofs.Refusals.{refusal-tells}
use Rattle.call_judging.specs.Carries.{asked_by, put, Accepts}

-- ---- the check's answer
forked : (T F : Type 0) → Bool → Type 0
forked T F b = elim b [ true ↦ T | false ↦ F ]

by-false : (T F : Type 0) (b : Bool) → b ≡ false → forked T F b → F
unfolding forked
by-false T F true e x = false-true (sym e)
by-false T F false e x = x

-- The check's answer is one alone. (Over plain variables: beside what a check promises there is much to look through.)
not-both : {r : Checked} {refusal : refusals.Refusal} {m : answers.Accepted} → r ≡ Err refusal → r ≡ Ok m → ◌≡◌ {A = ℕ} 0 1
not-both p q = cc

same-refusal : {r : Checked} {refusal other : refusals.Refusal} → r ≡ Err refusal → r ≡ Err other → refusal ≡ other
same-refusal p q = cc

module _ (text code values fields : List ℕ) (room : Rooms code values fields) (r : Checked) (code' values' : List ℕ) where
  judges : Checks text code values r code' values' → Judges text code values (verdict text) r code' values'
  unfolding Checks forked
  judges =
      by-false (TooSmall code values r code' values') (Judges text code values (verdict text) r code' values') (ltb (length code) store_bytes || ltb (length values) store_bytes)
      (rw (le-ltb (length code) store_bytes room.code-room, le-ltb (length values) store_bytes room.values-room))

  pub accepts : (m : answers.Accepted) (depth : ℕ) → 0 < depth → depth ≤ depth_limit → Checks text code values r code' values' → r ≡ Ok m
      → Accepts text code' values' fields m.count m.main depth
  unfolding Judges
  accepts m depth some most c e = by-verdict (verdict text) refl (judges c)
    where
      by-verdict : (v : Verdict) → verdict text ≡ v → Judges text code values v r code' values' → Accepts text code' values' fields m.count m.main depth
      by-verdict (refused_by f) q j = apart (not-both j.answer.answer e)
      by-verdict (accepted a) q j =
          record {
            a = a;
            n = m.words;
            judged = q;
            ready = record {
              R = j.R;
              heads-are = j.heads-are;
              answer = sym e ∙ j.answer;
              holds = j.holds;
              there = j.there;
              alone = j.alone;
              words = j.words;
              zeros = j.zeros;
              code-past = refl;
              values-past = refl;
              code-long = refl;
              values-long = refl;
            };
            rooms = record { code-room = rw j.code-long room.code-room; values-room = rw j.values-long room.values-room; fields-room = room.fields-room };
            some = some;
            most = most;
          }

  -- the text is refused
  pub refused-by : (refusal : refusals.Refusal) → Checks text code values r code' values' → r ≡ Err refusal → (f : Refusal) × (verdict text ≡ refused_by f)
  unfolding Judges
  refused-by refusal c e = by-verdict (verdict text) refl (judges c)
    where
      by-verdict : (v : Verdict) → verdict text ≡ v → Judges text code values v r code' values' → (f : Refusal) × (verdict text ≡ refused_by f)
      by-verdict (accepted a) q j = apart (not-both e j.answer)
      by-verdict (refused_by f) q j = (f, q)

  pub judged-refused : (refusal : refusals.Refusal) (number steps depth : ℕ) (abort : Abort) (inputs out fields' : List ℕ) → Checks text code values r code' values' → r ≡ Err refusal
      → number ≡ number_of refusal.rule → Written fields fields' (refused_fields number refusal.place)
      → Tells (carried_out (put (asked_by abort) text steps depth inputs out) (verdict text)) out code values fields out code' values' fields'
  unfolding Judges carried_out
  judged-refused refusal number steps depth abort inputs out fields' c e is w = by-verdict (verdict text) (judges c)
    where
      by-verdict : (v : Verdict) → Judges text code values v r code' values' → Tells (carried_out (put (asked_by abort) text steps depth inputs out) v) out code values fields out code' values' fields'
      by-verdict (accepted a) j = apart (not-both e j.answer)
      by-verdict (refused_by f) j =
          let q = same-refusal e j.answer.answer in
          let n = is ∙ ap (λ (x : refusals.Refusal). number_of x.rule) q ∙ j.answer.number-is in
          let o = ap (λ (x : refusals.Refusal). x.place) q ∙ j.answer.offset-is in
          refusal-tells out f.number f.offset
          (record {
            code-left = left-emptied code code' room.code-room j.code-empty;
            values-left = left-emptied values values' room.values-room j.values-empty;
            told = record { bytes = w.bytes ∙ ap₂ (λ (a b : ℕ). record_bytes (refused_fields a b) ++ drop record_size fields) n o };
          })

  -- whatever the result is
  pub judged-carried : {R : Result} {out out'' code'' values'' fields'' : List ℕ} (m : answers.Accepted) → Checks text code values r code' values' → r ≡ Ok m
      → Tells R out code' values' fields out'' code'' values'' fields'' → Tells R out code values fields out'' code'' values'' fields''
  unfolding Judges
  judged-carried {R} {out} {out''} {code''} {values''} {fields''} m c e t = by-verdict (verdict text) (judges c)
    where
      by-verdict : (v : Verdict) → Judges text code values v r code' values' → Tells R out code values fields out'' code'' values'' fields''
      by-verdict (refused_by f) j = apart (not-both j.answer.answer e)
      by-verdict (accepted a) j =
          record {
            output = t.output;
            code-left = left-on {a = code} {b = code'} {c = code''} j.code-long j.code-past t.code-left;
            values-left = left-on {a = values} {b = values'} {c = values''} j.values-long j.values-past t.values-left;
            told = t.told;
          }
