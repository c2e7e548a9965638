-- An accepted module carried out beside a listing: the record is that of the run alone, and the answer what request 14 tells.
use Rattle.std.specs.Prelude.{Ok, Err, if◌then◌else◌}
use mathlib.Core.Path.{◌≡◌, refl, sym, ap, ◌∙◌}
use mathlib.Core.Bool.{Bool, true, false}
use mathlib.Core.List.{List, ◌++◌}
use Prim.Native.Nat.{ℕ}
use lib.ListN.{length, drop}
use mir.Val.{bool_byte}
use Rattle.paper.specs.States as states
use Rattle.paper.specs.Answer as paper
use Rattle.paper.specs.Answer.{depth_limit, Verdict, refused_by, accepted, verdict, carried_out, Result}
use Rattle.store_cells.proofs.Paper.{words-paper}
use Rattle.layout.specs.Broken.{number_of}
use Rattle.text_words.specs.declared.Refusal as refusals
use Rattle.check_whole.specs.declared.Accepted as answers
use Rattle.check_whole.specs.Checks.{Checked, Checks}
use Rattle.run_whole.specs.declared.Abort.TheVariants.{Never}
use Rattle.layout.specs.Endings.{ending_number}
use Rattle.run_whole.specs.Runs.{abort_of}
use Rattle.run_marking.specs.declared.Marked.{Marked}
use Rattle.run_marking.specs.Beside.{ended_of, marking_of}
use Rattle.call_records.specs.Records.{refused_fields, Written}
use Rattle.call_records.specs.Leaves.{Rooms, Settles, Settled}
use Rattle.call_judging.specs.Carries.{put, Accepts, Ends}
use Rattle.call_judging.proofs.CarriedOut.{begins, settles, carried}
use Rattle.call_judging.proofs.TextJudged.{judged-refused, judged-carried, refused-by}
use Rattle.marks.specs.Marks.{listing_of, judged, Marking, marking, beside, entries_of, mark_size, mark_bytes, answer_after}
use Rattle.call_marking.specs.Carries.{EndsBeside, Answers, asks, TellsMark}
use Rattle.call_marking.proofs.AnswerPut.{entries-cells}

-- a bool as the number that it is told by
bit : (b : Bool) → bool_byte b ≡ (if b then 1 else 0)
bit true = refl
bit false = refl

module _ {text code values fields : List ℕ} {words main depth : ℕ} (a : Accepts text code values fields words main depth) where
  module _ {inputs out values' out' listing : List ℕ} {steps : ℕ} {r : Marked} (e : EndsBeside text code values values' inputs out out' listing main steps depth r) where
    alone : Ends text code values values' inputs out out' main steps depth Never (ended_of r)
    alone = record { after = e.after; ran = e.ran.ran; whole = e.whole }

    pub mark-settles : Settles code values' fields words
    mark-settles = settles a alone

    rooms : states.Rooms
    rooms = record { depth = depth; output = length out; inputs = paper.cells_of inputs }

    told : marking (listing_of (asks text steps depth inputs out) a.a) (entries_of listing) ≡ marking_of r
    unfolding rooms begins listing_of put
    told =
        ap (marking (listing_of (asks text steps depth inputs out) a.a)) (entries-cells listing)
        ∙ e.ran.told (begins a) rooms refl (record { room = refl; reads = words-paper inputs })

    pub mark-carried : {code' values'' fields' answer answer' : List ℕ} (n : ℕ) → n ≡ ending_number r.ending → Settled n r.place r.made words code values' fields code' values'' fields'
        → (m : ℕ) → m ≡ bool_byte r.same → Answers m r.index answer answer'
        → TellsMark text steps depth inputs listing out code values fields answer out' code' values'' fields' answer'
    unfolding abort_of judged beside answer_after
    mark-carried {answer = answer} n is s m same w = record {
      tells = carried a alone n is s;
      answers = w.bytes ∙ ap (λ (k : ℕ). mark_bytes (record { same = k; index = r.index }) ++ drop mark_size answer) (same ∙ bit r.same)
          ∙ sym (ap (λ (m : Marking). mark_bytes m ++ drop mark_size answer) told)
          ∙ sym (ap (λ (v : Verdict). answer_after (beside (judged (asks text steps depth inputs out) v) (entries_of listing)) answer) a.judged);
    }

-- ---- a text that is judged
module _ (text code values fields : List ℕ) (room : Rooms code values fields) (r : Checked) (code' values' : List ℕ) where
  pub mark-refused : (refusal : refusals.Refusal) (number steps depth : ℕ) (inputs listing out answer fields' : List ℕ) → Checks text code values r code' values' → r ≡ Err refusal
      → number ≡ number_of refusal.rule → Written fields fields' (refused_fields number refusal.place)
      → TellsMark text steps depth inputs listing out code values fields answer out code' values' fields' answer
  unfolding abort_of judged beside answer_after
  mark-refused refusal number steps depth inputs listing out answer fields' c e is w =
      let v = refused-by text code values fields room r code' values' refusal c e in
      record {
        tells = judged-refused text code values fields room r code' values' refusal number steps depth Never inputs out fields' c e is w;
        answers = sym (ap (λ (v : Verdict). answer_after (beside (judged (asks text steps depth inputs out) v) (entries_of listing)) answer) v.1);
      }

  pub mark-judged : {steps depth : ℕ} {inputs listing out answer out'' code'' values'' fields'' answer'' : List ℕ} (m : answers.Accepted) → Checks text code values r code' values' → r ≡ Ok m
      → TellsMark text steps depth inputs listing out code' values' fields answer out'' code'' values'' fields'' answer''
      → TellsMark text steps depth inputs listing out code values fields answer out'' code'' values'' fields'' answer''
  mark-judged m c e t =
      record { tells = judged-carried text code values fields room r code' values' m c e t.tells; answers = t.answers }
