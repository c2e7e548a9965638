use borrow.Author.Rules.{rules}
use Rattle.check_compounds.proofs.Heads.{step_room, step-bounds, no_step, a-step}
use native.Mathlib.Omega.{arith}
use Rattle.check_compounds.proofs.for_step.Goals as goal

pub sort-requires : goal.sort-requires
sort-requires c = (step_room _ _ _ c.requires).1

pub returns-then-sort-ne-STEP : goal.returns-then-sort-ne-STEP
returns-then-sort-ne-STEP c = search (rules, no_step)

pub set_head-requires : goal.set_head-requires
set_head-requires c =
    let z = step_room _ _ _ c.requires in (omega (arith, z), omega arith, omega arith)

pub bound-requires : goal.bound-requires
bound-requires c = search (rules, step-bounds)

pub returns : goal.returns
returns c = search (rules, a-step)
