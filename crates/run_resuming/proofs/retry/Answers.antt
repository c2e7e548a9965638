use borrow.Author.Rules.{rules}
use Rattle.run_resuming.proofs.RetryTryNext.{step_fits, step-fits, retries-none, retries-some}
use Rattle.run_resuming.proofs.retry.Goals as goal

pub overflow_cast-result : goal.overflow_cast-result
overflow_cast-result c = search (rules, step-fits)

pub overflow_cast-result-in-None : goal.overflow_cast-result-in-None
overflow_cast-result-in-None c = search (rules, step_fits)

pub returns-in-Some : goal.returns-in-Some
returns-in-Some c = search (rules, retries-some)

pub returns-in-None : goal.returns-in-None
returns-in-None c = search (rules, retries-none)
