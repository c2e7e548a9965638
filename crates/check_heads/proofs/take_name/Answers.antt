use mathlib.Core.Path.{ap, ◌∙◌}
use mathlib.Core.Bool.{not}
use Rattle.check_heads.proofs.Leaves.{takes-nothing, takes-second, takes-main, takes-other}
use borrow.Author.Rules.{rules}
use Rattle.check_heads.proofs.take_name.Goals.{else-is_none-via-then-is_none+else-is_main, else-is_none-via-else-is_none}
use Rattle.check_heads.proofs.take_name.Goals as goal

pub returns-then-meaning-ne-UNKNOWN : goal.returns-then-meaning-ne-UNKNOWN
returns-then-meaning-ne-UNKNOWN c = search (rules, takes-nothing)

pub returns-then-is_main : goal.returns-then-is_main
returns-then-is_main c =
    takes-main _ _ _ _ _ _ _ c.meaning.ensures _ _ _ c.if-meaning-ne-UNKNOWN.false c.number.ensures c.cell_with.ensures c.put.ensures _ c.is_main.ensures (c.is_none.ensures ∙ ap not c.if-is_none.true) c.if-is_main.true

pub returns : goal.returns
returns c =
    elim c.else-is_none.branch [
      | else-is_none-via-then-is_none+else-is_main w ↦
          takes-other _ _ _ _ _ _ _ c.meaning.ensures _ _ _ c.if-meaning-ne-UNKNOWN.false c.number.ensures c.cell_with.ensures c.put.ensures _ w.is_main.ensures (c.is_none.ensures ∙ ap not w.if-is_none.true) w.if-is_main.false
      | else-is_none-via-else-is_none w ↦
          takes-second _ _ _ _ _ _ _ c.meaning.ensures _ _ _ c.if-meaning-ne-UNKNOWN.false c.number.ensures c.cell_with.ensures c.put.ensures (c.is_none.ensures ∙ ap not w.if-is_none.false)
    ]
