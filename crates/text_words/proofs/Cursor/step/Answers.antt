use Rattle.text_words.proofs.Cases.{step-long, step-here, step-bad}
use borrow.Author.Rules.{rules}
use Rattle.text_words.proofs.Cursor.step.Goals as goal

pub returns-then-text-gt-TEXT : goal.returns-then-text-gt-TEXT
returns-then-text-gt-TEXT c = search (rules, step-long)

pub returns-in-Ok : goal.returns-in-Ok
returns-in-Ok c = search (rules, step-here)

pub returns-in-Err : goal.returns-in-Err
returns-in-Err c = search (rules, step-bad)
