use mathlib.Core.Path.{refl, sym, ◌∙◌}
use borrow.Author.Rules.{rules}
use Rattle.run_errors.proofs.CallsDropped.{found-routine, found_get, found_add, found-small, none-listed, some-listed, unwind-none, unwind-dies, unwind-takes}
use Rattle.run_errors.proofs.unwind.Goals as goal

pub handler-requires : goal.handler-requires
handler-requires c = search (rules, found-routine)

pub returns-in_err-next : goal.returns-in_err-next
returns-in_err-next c =
    rw c.from_residual.ensures (unwind-none _ _ _ _ _ c.nearest-n.ensures _ refl (none-listed _ (sym c.handler.ensures ∙ c.in_err-next.was)))

pub overflow_add-n : goal.overflow_add-n
overflow_add-n c = search (rules, found_add)

pub get-requires : goal.get-requires
get-requires c = search (rules, found_get)

pub returns-then-get-ne0 : goal.returns-then-get-ne0
returns-then-get-ne0 c =
    let q = some-listed _ _ (sym c.handler.ensures ∙ c.in_ok-next.was) in
    unwind-dies _ _ _ _ _ c.nearest-n.ensures _ q.0 q.1 _ c.get.ensures c.if-get-ne0.true

pub overflow_add-n-2 : goal.overflow_add-n-2
overflow_add-n-2 c = search (rules, found_add)

pub overflow_cast-n : goal.overflow_cast-n
overflow_cast-n c =
    record { fits = found-small _ _ _ _ _ c.nearest-n.ensures c.requires }

pub put-requires : goal.put-requires
put-requires c = search (rules, found_get)

pub returns : goal.returns
returns c =
    let q = some-listed _ _ (sym c.handler.ensures ∙ c.in_ok-next.was) in
    unwind-takes _ _ _ _ _ c.nearest-n.ensures _ q.0 q.1 _ c.get.ensures c.if-get-ne0.false _ c.put.ensures c.requires
