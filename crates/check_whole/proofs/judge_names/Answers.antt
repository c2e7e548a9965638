use Rattle.check_whole.proofs.Passes.{words-few, words-fit, count_small, count_fits, names-refused, main-missing, names-accepted}
use Rattle.check_whole.proofs.judge_names.Goals as goal

pub resolve-requires : goal.resolve-requires
resolve-requires c = (words-few _ _ _ _ c.requires.laid, words-fit _ _ _ _ c.requires _ _ _ c.names_and_types.ensures)

pub overflow_sub-count : goal.overflow_sub-count
overflow_sub-count c = count_small _ _ _ _ c.requires _ _ _ c.names_and_types.ensures _ _ (rw c.in-Ok-default-Some.field-0-1-is at c.in-Ok-default-Some.is)

pub clear-requires : goal.clear-requires
clear-requires c = count_fits _ _ _ _ c.requires _ _ _ c.names_and_types.ensures _ _ (rw c.in-Ok-default-Some.field-0-1-is at c.in-Ok-default-Some.is)

pub returns-in-Err : goal.returns-in-Err
returns-in-Err c = names-refused _ _ _ _ c.requires _ _ _ c.names_and_types.ensures _ _ c.in-Err.is c.refusal_of.ensures

pub returns-in-Ok-default-None : goal.returns-in-Ok-default-None
returns-in-Ok-default-None c = main-missing _ _ _ _ c.requires _ _ _ c.names_and_types.ensures _ (rw c.in-Ok-default-None.field-0-1-is at c.in-Ok-default-None.is)

pub returns-in-Ok-default-Some : goal.returns-in-Ok-default-Some
returns-in-Ok-default-Some c =
    names-accepted _ _ _ _ c.requires _ _ _ c.names_and_types.ensures _ _ (rw c.in-Ok-default-Some.field-0-1-is at c.in-Ok-default-Some.is) _ _
    c.resolve.ensures c.clear.ensures
