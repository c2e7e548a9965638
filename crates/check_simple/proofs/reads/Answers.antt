use borrow.Author.Rules.{rules}
use Rattle.std.proofs.lemmas.Result.{err_from_is_err_and}
use Rattle.check_simple.proofs.TPReadNum.{reads-targets, reads-small, reads_end, reads-next, reads-value, reads-after, reads-string, reads-room, heard-faulty, heard-wrong, heard-right}
use Rattle.check_expressions.proofs.TypesCompared.{told-apart, told-same}
use native.Mathlib.Omega.{arith}
use Rattle.check_simple.proofs.reads.Goals as goal

pub overflow_add-i : goal.overflow_add-i
overflow_add-i c = omega (arith, reads-small)

pub target-requires : goal.target-requires
target-requires c = search (rules, reads-targets)

pub returns-in_err-t : goal.returns-in_err-t
returns-in_err-t c =
    let w = c.in_err-t.was in
    let p = err_from_is_err_and c.from_residual.result c.from_residual.ensures.1 in
    rw (p.1, p.2) (search (rules, heard-faulty))

pub overflow_add-result : goal.overflow_add-result
overflow_add-result c = omega (arith, reads-small)

pub returns-then-ne : goal.returns-then-ne
returns-then-ne c = heard-wrong _ _ _ _ _ _ c.target.ensures _ _ c.in_ok-t.was (told-apart _ _ c.if-ne.ensures)

pub overflow_add-b : goal.overflow_add-b
overflow_add-b c = let w = c.in_ok-t.was in search (rules, reads-next)

pub string-requires : goal.string-requires
string-requires c = reads-string _ _ _ _ c.requires _ _ c.target.ensures _ _ c.in_ok-t.was (told-same _ _ c.if-ne.ensures)

pub overflow_add-b-2 : goal.overflow_add-b-2
overflow_add-b-2 c = let w = c.in_ok-t.was in search (rules, reads-next)

pub overflow_cast-b : goal.overflow_cast-b
overflow_cast-b c = let w = c.in_ok-t.was in search (rules, reads-value)

pub overflow_add-b-3 : goal.overflow_add-b-3
overflow_add-b-3 c = let w = c.in_ok-t.was in search (rules, reads-after)

pub set_word-requires : goal.set_word-requires
set_word-requires c =
    let x = reads_end _ _ _ _ c.requires _ _ c.target.ensures _ _ c.in_ok-t.was in (
      (reads-room _ _ _ _ c.requires _ _
          c.target.ensures _ _ c.in_ok-t.was (told-same _ _ c.if-ne.ensures) _ c.string.ensures).0,
      omega arith,
      omega
          (arith, x.0),
      omega (arith, x.0),
    )

pub overflow_add-result-2 : goal.overflow_add-result-2
overflow_add-result-2 c = let w = c.in_ok-t.was in search (rules, reads-after)

pub returns : goal.returns
returns c =
    heard-right _ _ _ _ _ _ c.target.ensures _ _ c.in_ok-t.was (told-same _ _ c.if-ne.ensures) _ c.string.ensures _
    c.set_word.ensures
