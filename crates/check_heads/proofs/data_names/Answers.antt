use Rattle.check_heads.proofs.DataToCome.{data-start, data-done, data-announce, data-ends, data-again}
use borrow.Author.Rules.{rules}
use Rattle.check_heads.proofs.data_names.Goals as goal

pub loop-values-init : goal.loop-values-init
loop-values-init c = search (rules, data-start)

pub returns : goal.returns
returns c = search (rules, data-done)

pub announce-requires : goal.announce-requires
announce-requires c =
    data-announce _ _ _ c.requires _ _ c.loop-values.invariant _ c.sort.ensures _ c.starts_data.ensures c.loop-values-test.true

pub next-i-requires : goal.next-i-requires
next-i-requires c =
    data-ends _ _ _ c.requires _ _ c.loop-values.invariant _ c.sort.ensures _ c.starts_data.ensures c.loop-values-test.true

pub loop-values-preserved : goal.loop-values-preserved
loop-values-preserved c =
    data-again _ _ _ c.requires _ _ c.loop-values.invariant _ c.sort.ensures _ c.starts_data.ensures c.loop-values-test.true _ c.announce.ensures _ c.next-i.ensures
