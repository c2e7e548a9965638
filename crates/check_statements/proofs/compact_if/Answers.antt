use borrow.Author.Rules.{rules}
use mathlib.Core.Path.{refl}
use native.Mathlib.Omega.{arith}
use Rattle.std.proofs.lemmas.Result.{err_from_is_err_and}
use Rattle.check_names.proofs.Growing.{grown-self}
use Rattle.check_statements.proofs.Compacts.{compact-stands, compact-room, compact-next, compact-wrong, compact-right}
use Rattle.check_statements.proofs.compact_if.Goals as goal

pub statement-requires : goal.statement-requires
statement-requires c = search (rules, compact-stands)

pub overflow_cast-t : goal.overflow_cast-t
overflow_cast-t c =
    omega (arith, compact-room _ _ _ _ _ _ _ c.requires)

pub set_word-requires : goal.set_word-requires
set_word-requires c =
    let z = compact-room _ _ _ _ _ _ _ c.requires in let y = compact-next _ _ _ _ _ _ _ c.requires _ _ c.statement.ensures _
    c.in_ok-n.was in (omega (arith, z, y), omega arith, omega (arith, z), omega (arith, y))

pub returns-in_err-n : goal.returns-in_err-n
returns-in_err-n c =
    let p = err_from_is_err_and c.from_residual.result c.from_residual.ensures.1 in
    rw (p.1, p.2) (compact-wrong _ _ _ _ _ _ _ _ _ c.statement.ensures _ c.in_err-n.was, tt)

pub returns : goal.returns
returns c = (compact-right _ _ _ _ _ _ _ _ _ c.statement.ensures _ c.in_ok-n.was _ c.set_word.ensures _ refl, grown-self _)
