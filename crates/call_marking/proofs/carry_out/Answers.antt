use borrow.Author.Rules.{rules}
use Rattle.call_judging.proofs.CarriedOut.{starts}
use Rattle.call_marking.proofs.MarkCarried.{mark-settles, mark-carried}
use Rattle.call_marking.proofs.carry_out.Goals as goal

pub mark_words-r-requires : goal.mark_words-r-requires
mark_words-r-requires c = search (rules, starts)

pub settle-requires : goal.settle-requires
settle-requires c =
    mark-settles c.requires.0 c.mark_words-r.ensures

pub returns : goal.returns
returns c =
    mark-carried c.requires.0 c.mark_words-r.ensures _ c.number.ensures c.settle.ensures _ c.from.ensures c.put_mark.ensures
