use borrow.Author.Rules.{rules}
use mathlib.Core.Path.{refl}
use native.Mathlib.Omega.{arith}
use Rattle.std.proofs.lemmas.Result.{err_from_is_err_and}
use Rattle.check_datum.proofs.Scalars.{initial-asks, initial-room, initial-low, initial-fit, initial-faulty, initial-goes, fit-read, fit-adds, made-used, made-grown}
use Rattle.check_datum.proofs.initial.Goals as goal

pub constant-requires : goal.constant-requires
constant-requires c = search (rules, initial-asks)

pub returns-in_err-v : goal.returns-in_err-v
returns-in_err-v c =
    let p = err_from_is_err_and c.from_residual.result c.from_residual.ensures.1 in
    rw (p.1, p.2) (initial-faulty c.requires.2 _ c.sort.ensures _ c.type_named-wants.ensures _ _ c.constant.ensures _ c.in_err-v.was, tt, refl)

pub known-filled-requires : goal.known-filled-requires
known-filled-requires c =
    let few = initial-room _ _ _ _ _ c.requires.2 c.requires.1.5 in
    (search rules, search rules, search rules, search (rules, initial-low), search rules, omega (arith, few), omega (arith, few))

pub word_of-requires : goal.word_of-requires
word_of-requires c =
    fit-read _ _ (initial-fit c.requires.2 _ c.sort.ensures _ c.type_named-wants.ensures _ _ c.constant.ensures _ _ c.in_ok-v.was c.requires.0)

pub held-requires : goal.held-requires
held-requires c =
    fit-read _ _ (initial-fit c.requires.2 _ c.sort.ensures _ c.type_named-wants.ensures _ _ c.constant.ensures _ _ c.in_ok-v.was c.requires.0)

pub overflow_add-result : goal.overflow_add-result
overflow_add-result c =
    fit-adds _ _ (initial-fit c.requires.2 _ c.sort.ensures _ c.type_named-wants.ensures _ _ c.constant.ensures _ _ c.in_ok-v.was c.requires.0)

pub returns : goal.returns
returns c =
    let made = c.known-filled.ensures in
    (initial-goes c.requires.2 _ c.sort.ensures _ c.type_named-wants.ensures _ _ c.constant.ensures _ _ c.in_ok-v.was _ _ _ _ made.makes _ _ c.word_of.ensures c.held.ensures c.start.ensures _ (made-used made), made-grown made, tt)
