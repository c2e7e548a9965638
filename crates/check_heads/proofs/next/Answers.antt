use Rattle.check_heads.proofs.Leaves.{going_start, going-first, going-second, going_on}
use borrow.Author.Rules.{rules}
use Rattle.check_heads.proofs.next.Goals.{then-s-a-via-then-s-a, then-s-a-via-else-s-a+then-s-b}
use Rattle.check_heads.proofs.next.Goals as goal

pub loop-at-init : goal.loop-at-init
loop-at-init c = search (rules, going_start)

pub returns-then-s-a : goal.returns-then-s-a
returns-then-s-a c =
    elim c.then-s-a.branch [
      | then-s-a-via-then-s-a w ↦ going-first _ _ _ _ _ _ c.loop-at.invariant c.sort-s.ensures w.if-s-a.true
      | then-s-a-via-else-s-a+then-s-b w ↦ going-second _ _ _ _ _ _ c.loop-at.invariant c.sort-s.ensures w.if-s-a.false w.if-s-b.true
    ]

pub loop-at-preserved : goal.loop-at-preserved
loop-at-preserved c = search (rules, going_on)
