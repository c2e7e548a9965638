use borrow.Author.Tests.{lt-ltb}
use borrow.Author.Rules.{rules}
use Rattle.run_calls.proofs.CallSteps.{call-inside, lack-fits, lack-signed, passes, argument-error, signed, fits, leads-inside, may, enters-done, lacks-done}
use Rattle.run_calls.proofs.call.Goals as goal

pub link-requires : goal.link-requires
link-requires c = search (rules, call-inside)

pub arguments-r-requires : goal.arguments-r-requires
arguments-r-requires c = search (rules, passes)

pub returns-then-r-ge-FIRST_ERROR : goal.returns-then-r-ge-FIRST_ERROR
returns-then-r-ge-FIRST_ERROR c = search (rules, argument-error)

pub overflow_cast-k : goal.overflow_cast-k
overflow_cast-k c = search (rules, signed, fits)

pub link-requires-then-room : goal.link-requires-then-room
link-requires-then-room c = search (rules, leads-inside)

pub enter-requires : goal.enter-requires
enter-requires c =
    may _ _ _ _ _ _ _ _ c.requires _ c.link.ensures _ _ (record { sfits = c.arguments-r.type_inv })
    c.arguments-r.ensures c.if-r-ge-FIRST_ERROR.false _ c.goes_on-at.ensures
    (lt-ltb _ _ c.if-room.true) _ c.link-then-room.ensures

pub returns-then-room : goal.returns-then-room
returns-then-room c = search (rules, enters-done)

pub overflow_add-result : goal.overflow_add-result
overflow_add-result c = search (rules, lack-fits)

pub overflow_cast-result : goal.overflow_cast-result
overflow_cast-result c = search (rules, lack-signed)

pub returns : goal.returns
returns c = search (rules, lacks-done)
