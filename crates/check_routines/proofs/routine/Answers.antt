use borrow.Author.Rules.{rules}
use mathlib.Core.Path.{sym, ◌∙◌}
use Rattle.check_routines.proofs.RoutineRules.{head-room, head_small, name-room, routine-taken, routine-many, routine-scope, routine-done}
use Rattle.check_routines.proofs.routine.Goals as goal

pub result_of-result-requires : goal.result_of-result-requires
result_of-result-requires c = search (rules, head-room)

pub name_of-name-requires : goal.name_of-name-requires
name_of-name-requires c = search (rules, head_small)

pub meaning-m-requires : goal.meaning-m-requires
meaning-m-requires c = search (rules, name-room)

pub returns-then-not-names_routine : goal.returns-then-not-names_routine
returns-then-not-names_routine c = (
  routine-taken _ _ _ _ _ _ _ c.result_of-result.ensures c.name_of-name.ensures _ c.meaning-m.ensures
      (sym c.names_routine.ensures ∙ c.if-not-names_routine.true),
  tt,
)

pub returns-then-k-eq-ROUTINES : goal.returns-then-k-eq-ROUTINES
returns-then-k-eq-ROUTINES c = (
  routine-many _ _ _ _ _ _ _ c.result_of-result.ensures c.name_of-name.ensures _ c.meaning-m.ensures
      (sym c.names_routine.ensures ∙ c.if-not-names_routine.false) c.if-k-eq-ROUTINES.true,
  tt,
)

pub scope-requires : goal.scope-requires
scope-requires c = (
  routine-scope _ _ _ _ _ _ _ c.result_of-result.ensures c.name_of-name.ensures _ c.meaning-m.ensures
      (sym c.names_routine.ensures ∙ c.if-not-names_routine.false) c.if-k-eq-ROUTINES.false c.requires.0,
  c.requires.1,
)

pub returns : goal.returns
returns c = (
  routine-done _ _ _ _ _ _ _ c.result_of-result.ensures c.name_of-name.ensures _ c.meaning-m.ensures
      (sym c.names_routine.ensures ∙ c.if-not-names_routine.false) c.if-k-eq-ROUTINES.false _ _ _ c.scope.ensures.0,
  c.scope.ensures.1,
)
