use borrow.Author.Rules.{rules}
use Rattle.check_names.proofs.Growing.{grown-self, grown-on, grown-upto}
use Rattle.check_declarations.proofs.DataWalk.{module-begun, module-room, module-datum, module-near, module-faulty, module-falls, module-on, module-done}
use Rattle.std.proofs.lemmas.Result.{err_from_is_err_and}
use Rattle.check_declarations.proofs.module_data.Goals as goal

pub loop-code-init : goal.loop-code-init
loop-code-init c = search (rules, module-begun, grown-self)

pub sort-requires : goal.sort-requires
sort-requires c = search (rules, module-room)

pub datum-requires : goal.datum-requires
datum-requires c = (search (rules, module-datum), search (rules, module-near))

pub returns-in_err-next : goal.returns-in_err-next
returns-in_err-next c =
    let p = err_from_is_err_and c.from_residual.result c.from_residual.ensures.1 in
    rw (p.1, p.2) (module-faulty _ _ _ _ _ _ _ c.loop-code.invariant.0 _ c.sort.ensures _ c.starts_data.ensures c.loop-code-test.true _ _ _ c.datum.ensures.0 _ c.in_err-next.was, tt)

pub loop-code-smaller : goal.loop-code-smaller
loop-code-smaller c =
    module-falls _ _ _ _ _ _ _ c.loop-code.invariant.0 _ c.sort.ensures _ c.starts_data.ensures c.loop-code-test.true _ _ _ c.datum.ensures.0 _ _ c.in_ok-next.was c.requires.0

pub loop-code-preserved : goal.loop-code-preserved
loop-code-preserved c = (
  module-on _ _ _ _ _ _ _ c.loop-code.invariant.0 _ c.sort.ensures _ c.starts_data.ensures c.loop-code-test.true _ _ _ c.datum.ensures.0 _ _ c.in_ok-next.was c.requires.0 (search rules) (search rules),
  grown-on c.loop-code.invariant.1 (grown-upto _ _ c.datum.ensures.1 _ _ c.in_ok-next.was),
)

pub returns : goal.returns
returns c = search (rules, module-done)
