use borrow.Author.Rules.{rules}
use Rattle.check_whole.proofs.Passes.{clean-now, accepted-so, refused-so}
use Rattle.check_whole.proofs.check_cells.Goals as goal

pub judge_text-requires : goal.judge_text-requires
judge_text-requires c = search (rules, clean-now)

pub returns-in-Ok : goal.returns-in-Ok
returns-in-Ok c = accepted-so _ _ _ c.requires c.clear.ensures _ _ _ _ c.judge_text.ensures _ c.in-Ok.is

pub returns-in-Err : goal.returns-in-Err
returns-in-Err c =
    refused-so _ _ _ c.requires c.clear.ensures _ _ _ _ c.judge_text.ensures _ _ _ c.in-Err.is
    c.clear-in-Err.ensures c.clear-in-Err-2.ensures
