use borrow.Author.Rules.{rules}
use Rattle.run_resuming.proofs.RetryTryNext.{step_fits, step-at, next-fits, tries-none, tries-some}
use Rattle.run_resuming.proofs.try_next.Goals as goal

pub after-requires : goal.after-requires
after-requires c = search (rules, step-at)

pub overflow_cast-result : goal.overflow_cast-result
overflow_cast-result c = search (rules, next-fits)

pub overflow_cast-result-in-None : goal.overflow_cast-result-in-None
overflow_cast-result-in-None c = search (rules, step_fits)

pub returns-in-Some : goal.returns-in-Some
returns-in-Some c = search (rules, tries-some)

pub returns-in-None : goal.returns-in-None
returns-in-None c = search (rules, tries-none)
