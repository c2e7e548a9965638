use borrow.Author.Rules.{rules}
use Rattle.check_parameters.proofs.ParameterWalk.{parameter-taken, parameter-crosses, parameter-goes, counting-few, counting-fits, parameter-opens}
use Rattle.check_parameters.proofs.parameter.Goals as goal

pub returns-then-is_taken : goal.returns-then-is_taken
returns-then-is_taken c = search (rules, parameter-taken)

pub returns-then-used-ge-ROUTINE_COUNT : goal.returns-then-used-ge-ROUTINE_COUNT
returns-then-used-ge-ROUTINE_COUNT c = search (rules, parameter-crosses)

pub count_parameter-requires : goal.count_parameter-requires
count_parameter-requires c = (search (rules, counting-few), search (rules, counting-fits))

pub returns : goal.returns
returns c = search (rules, parameter-goes, parameter-opens)
