use borrow.Author.Rules.{rules}
use Rattle.check_compounds.proofs.Heads.{head-room, name-taken, name-hiding, name-full, name_free}
use native.Mathlib.Omega.{arith}
use Rattle.check_compounds.proofs.for_name.Goals as goal

pub overflow_add-i : goal.overflow_add-i
overflow_add-i c = omega (arith, head-room _ _ _ _ c.requires)

pub meaning-m-requires : goal.meaning-m-requires
meaning-m-requires c = let z = head-room _ _ _ _ c.requires in (omega (arith, z), omega (arith, z))

pub overflow_add-result : goal.overflow_add-result
overflow_add-result c = omega (arith, head-room _ _ _ _ c.requires)

pub returns-then-is_protected : goal.returns-then-is_protected
returns-then-is_protected c = search (rules, name-taken)

pub overflow_add-i-2 : goal.overflow_add-i-2
overflow_add-i-2 c = omega (arith, head-room _ _ _ _ c.requires)

pub is_taken-requires : goal.is_taken-requires
is_taken-requires c =
    let z = head-room _ _ _ _ c.requires in
    (omega (arith, z), omega (arith, z), omega arith)

pub overflow_add-result-then-is_taken : goal.overflow_add-result-then-is_taken
overflow_add-result-then-is_taken c =
    omega (arith, head-room _ _ _ _ c.requires)

pub returns-then-is_taken : goal.returns-then-is_taken
returns-then-is_taken c = search (rules, name-hiding)

pub overflow_add-result-then-used-eq-ROUTINE_COUNT : goal.overflow_add-result-then-used-eq-ROUTINE_COUNT
overflow_add-result-then-used-eq-ROUTINE_COUNT c =
    omega (arith, head-room _ _ _ _ c.requires)

pub returns-then-used-eq-ROUTINE_COUNT : goal.returns-then-used-eq-ROUTINE_COUNT
returns-then-used-eq-ROUTINE_COUNT c = search (rules, name-full)

pub overflow_add-result-2 : goal.overflow_add-result-2
overflow_add-result-2 c =
    omega (arith, head-room _ _ _ _ c.requires)

pub returns : goal.returns
returns c = search (rules, name_free)
