use borrow.Author.Rules.{rules}
use Rattle.check_leaving.proofs.NamesAgain.{leaving-parameters, leaving-data, routine-left}
use Rattle.check_leaving.proofs.leave_routine.Goals as goal

pub leave_parameters-requires : goal.leave_parameters-requires
leave_parameters-requires c = search (rules, leaving-parameters)

pub leave_data-requires : goal.leave_data-requires
leave_data-requires c = search (rules, leaving-data)

pub returns : goal.returns
returns c = search (rules, routine-left)
