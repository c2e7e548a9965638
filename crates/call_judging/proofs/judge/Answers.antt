use borrow.Author.Rules.{rules}
use Rattle.call_judging.proofs.TextJudged.{accepts, judged-refused, judged-carried}
use Rattle.call_judging.proofs.judge.Goals as goal

pub carry_out-requires : goal.carry_out-requires
carry_out-requires c = search (rules, accepts)

pub returns-in-Err : goal.returns-in-Err
returns-in-Err c = search (rules, judged-refused)

pub returns-in-Ok : goal.returns-in-Ok
returns-in-Ok c = judged-carried _ _ _ _ c.requires.0 _ _ _ _ c.check.ensures c.in-Ok.is c.carry_out.ensures
