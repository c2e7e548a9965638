use Rattle.run_output.proofs.OneLine.{write-in, write-next, write-sum, write-fits, write-lacks, write-adds, write_done}
use borrow.Author.Rules.{rules}
use Rattle.run_output.proofs.write.Goals as goal

pub overflow_add-i : goal.overflow_add-i
overflow_add-i c = search (rules, write-next)

pub overflow_add-result : goal.overflow_add-result
overflow_add-result c = search (rules, write-sum)

pub overflow_cast-result : goal.overflow_cast-result
overflow_cast-result c = search (rules, write-fits)

pub returns-then-out-count_at : goal.returns-then-out-count_at
returns-then-out-count_at c =
    write-lacks _ _ _ _ _ c.requires _ c.count_at.ensures _ c.characters.ensures.0 c.if-out-count_at.true

pub overflow_add-i-2 : goal.overflow_add-i-2
overflow_add-i-2 c = search (rules, write-next)

pub add-requires : goal.add-requires
add-requires c =
    write-adds _ _ _ _ _ c.requires _ c.count_at.ensures _ c.characters.ensures.0
    c.if-out-count_at.false

pub link-requires : goal.link-requires
link-requires c = search (rules, write-in)

pub returns : goal.returns
returns c =
    write_done _ _ _ _ _ c.requires _ c.count_at.ensures _ c.characters.ensures.0 c.if-out-count_at.false _ _
    c.add.ensures _ c.link.ensures.same
