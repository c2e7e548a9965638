use borrow.Author.Rules.{rules}
use Rattle.run_targets.proofs.TargetWords.{target-module, target-call, in-module, in-call, target-link, target-indexes, target-element}
use Rattle.run_targets.proofs.target_cell.Goals as goal

pub returns-then-op-eq-TARGET : goal.returns-then-op-eq-TARGET
returns-then-op-eq-TARGET c = search (rules, target-module)

pub returns-then-op-le-TARGET_IN_CALL : goal.returns-then-op-le-TARGET_IN_CALL
returns-then-op-le-TARGET_IN_CALL c = search (rules, target-call)

pub link-end-requires : goal.link-end-requires
link-end-requires c = search (rules, target-link)

pub element-requires : goal.element-requires
element-requires c = search (rules, target-indexes, in-module)

pub returns-then-op-eq-TARGET_ELEMENT : goal.returns-then-op-eq-TARGET_ELEMENT
returns-then-op-eq-TARGET_ELEMENT c = search (rules, target-element, in-module)

pub element-requires-2 : goal.element-requires-2
element-requires-2 c = search (rules, target-indexes, in-call)

pub returns : goal.returns
returns c = search (rules, target-element, in-call)
