use borrow.Author.Rules.{rules}
use Rattle.call_marking.proofs.AnswerPut.{answer-put}
use Rattle.call_marking.proofs.put_mark.Goals as goal

pub returns : goal.returns
returns c = search (rules, answer-put)
