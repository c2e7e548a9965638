use borrow.Author.Rules.{rules}
use native.Mathlib.Omega.{arith}
use Rattle.check_sites.proofs.TakenNames.{taken-protected, not_known, not-data, data-here}
use Rattle.check_sites.proofs.is_taken.Goals as goal

pub returns-then-is_protected : goal.returns-then-is_protected
returns-then-is_protected c = search (rules, taken-protected)

pub returns-in-1 : goal.returns-in-1
returns-in-1 c =
    data-here _ _ _ _ _ c.meaning-m.ensures _ c.is_protected.ensures _ c.kind_of.ensures c.if-is_protected.false (search rules) (omega arith) (omega arith) _ c.own_of.ensures

pub returns-in_default : goal.returns-in_default
returns-in_default c =
    not_known _ _ _ _ _ c.meaning-m.ensures _ c.is_protected.ensures _ c.kind_of.ensures c.if-is_protected.false (omega arith)

pub returns-in_default-2 : goal.returns-in_default-2
returns-in_default-2 c =
    not-data _ _ _ _ _ c.meaning-m.ensures _ c.is_protected.ensures _ c.kind_of.ensures c.if-is_protected.false (omega arith)
