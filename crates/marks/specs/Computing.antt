-- For computing: to unfold one of these is to unfold every definition that it rests on.
use Rattle.std.specs.Prelude.{List, ℕ}
use Rattle.std.proofs.Math.Option.{Option}
use Rattle.paper.specs.Answer.{Question, Result, result}
use Rattle.paper.specs.Computing.{computed}
use Rattle.marks.specs.Marks.{listed, listing_of, judged, ours, shared, marked, Marking, marking, beside, mark, entries_of, mark_bytes, MarkLent, MarkAnswer, plain_call, answer_after, mark_of, too_few, mark_call}

-- What a run comes to, and its mark: the listing as it is lent.
unfoldable pub computed_mark : Question → (listing : List ℕ) → Result × Option Marking
unfolding computed listed listing_of judged ours shared marked marking beside mark entries_of
computed_mark q listing = (result q, mark q (entries_of listing))

unfoldable pub computed_mark_call : MarkLent → MarkAnswer
unfolding computed_mark mark_bytes plain_call answer_after mark_of too_few mark_call
computed_mark_call l = mark_call l
