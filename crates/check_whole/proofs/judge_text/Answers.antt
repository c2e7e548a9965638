use borrow.Author.Rules.{rules}
use Rattle.std.proofs.lemmas.Result.{err_from_is_err_and}
use Rattle.check_whole.proofs.Passes.{cells-ready, words-laid, text-refused, text-read}
use Rattle.check_whole.proofs.judge_text.Goals as goal

pub load-requires : goal.load-requires
load-requires c = search (rules, cells-ready)

pub judge_form-requires : goal.judge_form-requires
judge_form-requires c = words-laid _ _ _ c.requires _ _ _ c.load.ensures _ c.in_ok-words.was

pub returns-in_err-words : goal.returns-in_err-words
returns-in_err-words c =
    let p = err_from_is_err_and c.from_residual.result c.from_residual.ensures.1 in
    rw (p.1, p.2) (text-refused _ _ _ c.requires _ _ _ c.load.ensures _ c.in_err-words.was)

pub returns : goal.returns
returns c = text-read _ _ _ c.requires _ _ _ c.load.ensures _ _ _ _ c.in_ok-words.was c.judge_form.ensures
