use borrow.Author.Rules.{rules}
use Rattle.run_calls.proofs.ArgumentsPassed.{comma-in, comma-past}
use Rattle.run_calls.proofs.is_comma.Goals as goal

pub returns-then-b-lt-WORDS : goal.returns-then-b-lt-WORDS
returns-then-b-lt-WORDS c = search (rules, comma-in)

pub returns : goal.returns
returns c = search (rules, comma-past)
