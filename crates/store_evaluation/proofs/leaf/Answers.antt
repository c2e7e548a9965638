use borrow.Author.Rules.{rules}
use Rattle.store_evaluation.proofs.Operands.{literal-fits, read-literal, leaf-inside, read_word}
use Rattle.store_evaluation.proofs.leaf.Goals as goal

pub overflow_sub-result : goal.overflow_sub-result
overflow_sub-result c = search (rules, literal-fits)

pub returns-then-op-eq-LITERAL : goal.returns-then-op-eq-LITERAL
returns-then-op-eq-LITERAL c = search (rules, read-literal)

pub load-requires : goal.load-requires
load-requires c = search (rules, leaf-inside)

pub returns : goal.returns
returns c = search (rules, read_word)
