use Rattle.paper.specs.Words.{word_limit}
use Prim.Native.Nat.{◌+◌, ◌-◌, ◌*◌}
use Rattle.check_statements.proofs.ListWalk.{Goings}
use Rattle.check_statements.proofs.Arms.{Armings}
use Rattle.check_statements.proofs.TestCases.{Casings}
use Rattle.check_names.specs.Scopes.{Grown}
use Rattle.check_statements.proofs.+cases_default_else_part_for_statement_full_if_if_statement_list_statement_test_statement_while_statement.Given as goal

abbrev pub decreases-cases : goal.decreases-cases
decreases-cases l = (word_limit - l.first) * 3 + 1

abbrev pub decreases-default : goal.decreases-default
decreases-default l = (word_limit - l.c) * 3

abbrev pub decreases-else_part : goal.decreases-else_part
decreases-else_part l = (word_limit - l.c) * 3

abbrev pub decreases-for_statement : goal.decreases-for_statement
decreases-for_statement l = (word_limit - l.i) * 3

abbrev pub decreases-full_if : goal.decreases-full_if
decreases-full_if l =
    let first = l.first in
    (word_limit - first) * 3

abbrev pub decreases-if_statement : goal.decreases-if_statement
decreases-if_statement l = (word_limit - l.i) * 3

abbrev pub decreases-list : goal.decreases-list
decreases-list l = (word_limit - l.at) * 3 + 2

abbrev pub decreases-statement : goal.decreases-statement
decreases-statement l = (word_limit - l.i) * 3 + 1

abbrev pub decreases-test_statement : goal.decreases-test_statement
decreases-test_statement l = (word_limit - l.i) * 3

abbrev pub decreases-while_statement : goal.decreases-while_statement
decreases-while_statement l = (word_limit - l.i) * 3

abbrev pub invariant-cases-loop-code : goal.invariant-cases-loop-code
invariant-cases-loop-code l = Casings l.text l.initial.code l.initial.values l.k l.initial.n.used l.first l.code l.values l.c l.n.used × Grown l.initial.n l.n

abbrev pub decreases-cases-loop-code : goal.decreases-cases-loop-code
decreases-cases-loop-code l = word_limit - l.c

abbrev pub invariant-full_if-loop-e : goal.invariant-full_if-loop-e
invariant-full_if-loop-e l = Armings l.text l.initial.code l.initial.values l.k l.initial.n.used l.i l.first l.code l.values l.op l.c l.t l.n.used × Grown l.initial.n l.n

abbrev pub decreases-full_if-loop-e : goal.decreases-full_if-loop-e
decreases-full_if-loop-e l = word_limit - l.t

abbrev pub invariant-list-loop-k : goal.invariant-list-loop-k
invariant-list-loop-k l = Goings l.text l.initial.code l.initial.values l.k l.initial.n.used l.at l.code l.values l.i l.n.used × Grown l.initial.n l.n

abbrev pub decreases-list-loop-k : goal.decreases-list-loop-k
decreases-list-loop-k l = word_limit - l.i
