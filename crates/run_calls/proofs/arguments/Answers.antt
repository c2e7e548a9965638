use mathlib.Core.Path.{ap}
use mathlib.Core.Bool.{not}
use borrow.Author.Rules.{rules}
use Rattle.run_calls.proofs.ArgumentsPassed.{next_small, none_passed, passing, pass-stores, pass-stands, pass-inside, pass-next, pass-fails, pass-small, pass-last, pass_on, comma-inside, comma-next, comma-less}
use Rattle.run_calls.proofs.arguments.Goals as goal

pub packed-requires : goal.packed-requires
packed-requires c = search (rules, next_small)

pub returns-then-first-end : goal.returns-then-first-end
returns-then-first-end c = search (rules, none_passed)

pub loop-base-init : goal.loop-base-init
loop-base-init c = search (rules, passing)

pub worth-v-requires : goal.worth-v-requires
worth-v-requires c = search (rules, pass-stores, pass-stands)

pub returns-then-v-ge-FIRST_ERROR : goal.returns-then-v-ge-FIRST_ERROR
returns-then-v-ge-FIRST_ERROR c = search (rules, pass-fails)

pub pass-requires : goal.pass-requires
pass-requires c = search (rules, pass-inside, pass-small)

pub overflow_add-n-in-loop-base : goal.overflow_add-n-in-loop-base
overflow_add-n-in-loop-base c = search (rules, pass-next)

pub packed-requires-then-not-is_comma : goal.packed-requires-then-not-is_comma
packed-requires-then-not-is_comma c = search (rules, pass-next)

pub returns-then-not-is_comma : goal.returns-then-not-is_comma
returns-then-not-is_comma c =
    pass-last _ _ _ _ _ _ _ _ _ _ c.loop-base.invariant _ (record { sfits = c.worth-v.type_inv }) c.worth-v.ensures c.if-v-ge-FIRST_ERROR.false _
    c.pass.ensures _ c.is_comma.ensures (ap not c.if-not-is_comma.true) _ (record { sfits = c.packed-then-not-is_comma.type_inv })
    c.packed-then-not-is_comma.ensures

pub overflow_add-a : goal.overflow_add-a
overflow_add-a c = search (rules, comma-next)

pub link-b-requires : goal.link-b-requires
link-b-requires c =
    comma-inside _ _ _ _ _ _ _ _ _ _ c.loop-base.invariant _ c.is_comma.ensures (ap not c.if-not-is_comma.false)

pub loop-base-smaller : goal.loop-base-smaller
loop-base-smaller c =
    comma-less _ _ _ _ _ _ _ _ _ _ c.loop-base.invariant _ c.is_comma.ensures (ap not c.if-not-is_comma.false) _ c.link-b.ensures

pub loop-base-preserved : goal.loop-base-preserved
loop-base-preserved c =
    pass_on _ _ _ _ _ _ _ _ _ _ c.loop-base.invariant _ (record { sfits = c.worth-v.type_inv }) c.worth-v.ensures c.if-v-ge-FIRST_ERROR.false _
    c.pass.ensures _ c.is_comma.ensures (ap not c.if-not-is_comma.false) _ c.link-b.ensures
