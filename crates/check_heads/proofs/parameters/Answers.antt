use Rattle.check_heads.proofs.ParameterMarks.{params-room, params_none, params-start, params-on, params-end}
use borrow.Author.Rules.{rules}
use Rattle.check_heads.proofs.parameters.Goals as goal

pub sort-requires : goal.sort-requires
sort-requires c = search (rules, params-room)

pub returns-then-sort-eq-CLOSE_PAREN : goal.returns-then-sort-eq-CLOSE_PAREN
returns-then-sort-eq-CLOSE_PAREN c = search (rules, params_none)

pub loop-h-init : goal.loop-h-init
loop-h-init c = search (rules, params-start)

pub returns-then-sort-ne-COMMA : goal.returns-then-sort-ne-COMMA
returns-then-sort-ne-COMMA c =
    params-end _ _ _ _ c.requires _ _ _ _ _ _ _ c.loop-h.invariant c.parameter.ensures c.sort-in-loop-h.ensures c.if-sort-ne-COMMA.true

pub loop-h-preserved : goal.loop-h-preserved
loop-h-preserved c =
    params-on _ _ _ _ c.requires _ _ _ _ _ _ _ c.loop-h.invariant c.parameter.ensures c.sort-in-loop-h.ensures c.if-sort-ne-COMMA.false
