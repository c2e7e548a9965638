use mathlib.Core.Path.{sym, ◌∙◌}
use Rattle.run_undoing.proofs.ListsLeft.{search-start, search-sub, search-less, search-routine, search-on, search-none, search-found}
use Rattle.run_undoing.proofs.drop_to.Goals as goal

pub loop-next-init : goal.loop-next-init
loop-next-init c = search-start _ _ _

pub undo_list-requires : goal.undo_list-requires
undo_list-requires c = search-routine _ _ _ _ c.loop-next.invariant c.requires

pub returns-in-Some : goal.returns-in-Some
returns-in-Some c = search-found _ _ _ _ c.loop-next.invariant _ (sym c.undo_list.ensures ∙ c.in-Some.is)

pub returns-then-b-eq-FIRST_WINDOW : goal.returns-then-b-eq-FIRST_WINDOW
returns-then-b-eq-FIRST_WINDOW c = search-none _ _ _ _ c.loop-next.invariant (sym c.undo_list.ensures ∙ c.in_default.is) c.if-b-eq-FIRST_WINDOW.true

pub overflow_sub-b : goal.overflow_sub-b
overflow_sub-b c = search-sub _ _ _ _ c.loop-next.invariant c.requires c.if-b-eq-FIRST_WINDOW.false

pub loop-next-smaller : goal.loop-next-smaller
loop-next-smaller c = search-less _ _ _ _ c.loop-next.invariant c.requires c.if-b-eq-FIRST_WINDOW.false

pub loop-next-preserved : goal.loop-next-preserved
loop-next-preserved c = search-on _ _ _ _ c.loop-next.invariant (sym c.undo_list.ensures ∙ c.in_default.is) c.if-b-eq-FIRST_WINDOW.false
