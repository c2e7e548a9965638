use native.Mathlib.Omega.{arith}
use Rattle.check_heads.proofs.RoutineHead.{head-room, head_small, name-small, head-parameters, head-begun}
use borrow.Author.Rules.{rules}
use Rattle.check_heads.proofs.head.Goals as goal

pub name_of-name-requires : goal.name_of-name-requires
name_of-name-requires c = search (rules, head-room)

pub overflow_cast-h : goal.overflow_cast-h
overflow_cast-h c = search (rules, head_small)

pub overflow_add-name : goal.overflow_add-name
overflow_add-name c =
    let start = c.requires in
    omega (arith, name-small _ _ _ _ start _ _ c.name_of-name.ensures)

pub parameters-count-requires : goal.parameters-count-requires
parameters-count-requires c = search (rules, head-parameters)

pub set_value-requires : goal.set_value-requires
set_value-requires c =
    (omega (arith, head-room _ _ _ _ c.requires), omega (arith, c.parameters-count.ensures.few))

pub returns : goal.returns
returns c =
    head-begun _ _ _ _ c.requires _ _ c.name_of-name.ensures _ _ _ c.parameters-count.ensures _ c.set_value.ensures
