use Rattle.call_screen.proofs.Lines.{one_none, one_inside, one-near, one-done}
use Prim.Native.Nat.{◌+◌, ◌≤◌}
use native.Mathlib.Omega.{arith}
use lib.ListN.{length}
use borrow.Author.Rules.{rules}
use Rattle.call_screen.proofs.put_one.Goals as goal

pub bounds-line-next : goal.bounds-line-next
bounds-line-next c = search (rules, one_inside)

pub overflow_add-result : goal.overflow_add-result
overflow_add-result c =
    let h : c.in-Some.next + 1 ≤ length c.args.line.now = search (rules, one-near) in
    record { fits = omega arith }

pub returns-in-Some : goal.returns-in-Some
returns-in-Some c = search (rules, one-done)

pub returns-in-None : goal.returns-in-None
returns-in-None c = search (rules, one_none)
