-- What the marking call returns, place by place, is the answer of request 14.
use mathlib.Core.Path.{◌≡◌, refl, sym, ap, ap₂, ◌∙◌}
use mathlib.Core.Bool.{Bool, true, false, ◌||◌}
use mathlib.Core.List.{List}
use mathlib.Core.Option.{Option, none}
use Prim.Native.Nat.{ℕ, ◌≤◌, ◌<◌}
use lib.ListN.{length}
use borrow.Author.Tests.{lt-ltb, le-ltb}
use Rattle.paper.specs.Undoing.{plainly}
use Rattle.paper.specs.Answer.{record_size, BytesAnswer, Verdict, refused_by, accepted, verdict, Question, lent_of, question_of, too_small, bad_depth}
use Rattle.layout.specs.Named.{store_bytes}
use Rattle.layout.specs.Rules.{small_store, wrong_depth}
use Rattle.call_records.specs.Records.{refused_fields, Written}
use Rattle.call_records.specs.Leaves.{Refuses}
use Rattle.call_records.proofs.Stores.{AllBytes}
use Rattle.call_records.proofs.Depths.{is_bad}
use Rattle.call_judging.specs.Carries.{put}
use Rattle.call_judging.specs.Calls.{lent, Calls}
use Rattle.call_judging.proofs.PaperAnswer.{small-code, small-values, call-deep, call-judged, few-code, few-values, not-small}
use Rattle.marks.specs.Marks.{listing_of, judged, ours, beside, mark, entries_of, mark_size, plain_call, answer_after, mark_of, too_few, mark_call, MarkLent}
use Rattle.call_marking.specs.Marks.{mark_lent, Marks}
use Rattle.call_marking.specs.Carries.{asks, TellsMark}

or-true : (a b : Bool) → a ≡ false → b ≡ true → (a || b) ≡ true
or-true true b e f = refl
or-true false b e f = f

module _ (text : List ℕ) (steps depth : ℕ) (inputs out code values listing fields answer : List ℕ) where
  abbrev all : MarkLent
  all = mark_lent text steps depth inputs out code values listing fields answer

  abbrev question : Question
  question = question_of (lent_of (lent plainly text steps depth inputs out code values fields))

  -- ---- too few bytes
  untouched-call : too_few all ≡ true → Marks all 0 out code values fields answer
  unfolding mark_lent mark_call plain_call
  untouched-call t = record { is = rw (t, mark_call) }

  pub mark-short : length fields < record_size → Marks all 0 out code values fields answer
  unfolding mark_lent too_few
  mark-short h = untouched-call (rw (lt-ltb (length fields) record_size h))

  pub mark-shorter : record_size ≤ length fields → length answer < mark_size → Marks all 0 out code values fields answer
  unfolding mark_lent too_few
  mark-shorter h g = untouched-call (or-true _ _ (le-ltb (length fields) record_size h) (lt-ltb (length answer) mark_size g))

  -- ---- enough
  module _ (h : record_size ≤ length fields) (g : mark_size ≤ length answer) where
    enough : too_few all ≡ false
    unfolding mark_lent too_few
    enough = rw (le-ltb (length fields) record_size h, le-ltb (length answer) mark_size g)

    -- what the pendant's call leaves, and an answer
    made : (out' code' values' fields' answer' : List ℕ) → Calls (lent plainly text steps depth inputs out code values fields) 1 out' code' values' fields'
        → answer' ≡ answer_after (mark question (entries_of listing)) answer → Marks all 1 out' code' values' fields' answer'
    unfolding mark_lent mark_call plain_call mark_of lent
    made out' code' values' fields' answer' k e = record {
      is = ap₂ (λ (x : BytesAnswer) (y : List ℕ). record { call = x; answer = y }) k.is e ∙ sym (rw (enough, mark_call));
    }

    -- there is no mark
    unmarked : ours question ≡ none → answer ≡ answer_after (mark question (entries_of listing)) answer
    unfolding mark beside answer_after
    unmarked e = sym (ap (λ (x : Option (List ℕ)). answer_after (beside x (entries_of listing)) answer) e)

    ours_small : too_small question ≡ true → ours question ≡ none
    unfolding ours
    ours_small t = rw (t, ours)

    ours-deep : too_small question ≡ false → bad_depth question ≡ true → ours question ≡ none
    unfolding ours
    ours-deep t u = rw (t, ours) (rw u)

    ours-judged : too_small question ≡ false → bad_depth question ≡ false → ours question ≡ judged question (verdict text)
    unfolding ours lent_of question_of lent
    ours-judged t u = rw (t, ours) (rw u)

    pub mark_code : length code < store_bytes → (fields' : List ℕ) → Written fields fields' (refused_fields small_store 0) → AllBytes code → AllBytes values → Marks all 1 out code values fields' answer
    mark_code s fields' w c v =
        made out code values fields' answer (small-code plainly text steps depth inputs out code values fields h s fields' w c v)
        (unmarked (ours_small (few-code plainly text steps depth inputs out code values fields s)))

    pub mark-values : store_bytes ≤ length code → length values < store_bytes → (fields' : List ℕ) → Written fields fields' (refused_fields small_store 0) → AllBytes code → AllBytes values
        → Marks all 1 out code values fields' answer
    mark-values l s fields' w c v =
        made out code values fields' answer (small-values plainly text steps depth inputs out code values fields h l s fields' w c v)
        (unmarked (ours_small (few-values plainly text steps depth inputs out code values fields l s)))

    -- ---- the stores are lent
    module _ (i : store_bytes ≤ length code) (j : store_bytes ≤ length values) where
      abbrev large : too_small question ≡ false
      large = not-small plainly text steps depth inputs out code values fields h i j

      pub mark-deep : true ≡ is_bad depth → (code' values' fields' : List ℕ) → Refuses wrong_depth 0 code values fields code' values' fields' → AllBytes code' → AllBytes values'
          → Marks all 1 out code' values' fields' answer
      unfolding lent lent_of question_of bad_depth
      mark-deep b code' values' fields' f c v =
          made out code' values' fields' answer (call-deep plainly text steps depth inputs out code values fields h i j b code' values' fields' f c v)
          (unmarked (ours-deep large (sym b)))

      same-judged : (v : Verdict) → judged question v ≡ judged (asks text steps depth inputs out) v
      unfolding judged listing_of put lent lent_of question_of
      same-judged (refused_by f) = refl
      same-judged (accepted a) = refl

      pub mark-told : false ≡ is_bad depth → (out' code' values' fields' answer' : List ℕ) → TellsMark text steps depth inputs listing out code values fields answer out' code' values' fields' answer'
          → AllBytes code' → AllBytes values' → Marks all 1 out' code' values' fields' answer'
      unfolding mark lent lent_of question_of bad_depth
      mark-told b out' code' values' fields' answer' t c v =
          made out' code' values' fields' answer' (call-judged plainly text steps depth inputs out code values fields h i j b out' code' values' fields' t.tells c v)
          (t.answers ∙ sym (ap (λ (x : Option (List ℕ)). answer_after (beside x (entries_of listing)) answer) (ours-judged large (sym b) ∙ same-judged (verdict text))))
