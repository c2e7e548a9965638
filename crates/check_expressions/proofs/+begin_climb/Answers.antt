use borrow.Author.Rules.{rules}
use Rattle.std.proofs.lemmas.Result.{err_from_is_err_and}
use native.Mathlib.Omega.{arith}
use Rattle.check_expressions.proofs.Starts.{begins-room, begins-next, begins-add, begins-add-2, begins-near, begins-falls, name-meant, element-stands, element-some, element-falls, index_short, paren-stands, paren-some, paren-falls, inner-short, part-stands, part-short, literal-small}
use Rattle.check_expressions.proofs.Starts.{began-room, began-name, began-wrong, began-element, began-paren, began-signed, began-literal}
use Rattle.check_expressions.proofs.OperatorChain.{stands-begins, runs-first, run-faulty, run_room, run-add, run-falls, run-stops, run-wrong, run-right, run-joins, run-less, run_on}
use Rattle.check_expressions.proofs.TypesCompared.{told-apart, told-same}
use Rattle.check_expressions.proofs.+begin_climb.Goals as goal

pub begin-sort-s-requires : goal.begin-sort-s-requires
begin-sort-s-requires t c = search (rules, begins-room)

pub begin-meaning-m-requires : goal.begin-meaning-m-requires
begin-meaning-m-requires t c = search (rules, begins-room)

pub begin-overflow_add-at : goal.begin-overflow_add-at
begin-overflow_add-at t c = search (rules, begins-add)

pub begin-sort-requires : goal.begin-sort-requires
begin-sort-requires t c = search (rules, begins-next)

pub begin-plain-requires : goal.begin-plain-requires
begin-plain-requires t c = search (rules, begins-room, name-meant)

pub begin-returns-then-sort-ne-OPEN_BRACE : goal.begin-returns-then-sort-ne-OPEN_BRACE
begin-returns-then-sort-ne-OPEN_BRACE t c = search (rules, began-name)

pub begin-returns-in-Some : goal.begin-returns-in-Some
begin-returns-in-Some t c = search (rules, began-wrong)

pub begin-overflow_add-at-then-s-eq-NAME : goal.begin-overflow_add-at-then-s-eq-NAME
begin-overflow_add-at-then-s-eq-NAME t c = search (rules, begins-add-2)

pub begin-overflow_sub-nesting : goal.begin-overflow_sub-nesting
begin-overflow_sub-nesting t c = search (rules, element-some)

pub begin-climb-index-requires : goal.begin-climb-index-requires
begin-climb-index-requires t c =
    let inside = element-stands _ _ _ _ c.requires _ c.sort-s.ensures c.if-s-eq-NAME.true _ c.sort.ensures c.if-sort-ne-OPEN_BRACE.false in
    let less = element-falls _ _ _ _ c.requires _ c.sort-s.ensures c.if-s-eq-NAME.true _ c.sort.ensures c.if-sort-ne-OPEN_BRACE.false t c.decreases in
    (less, inside)

pub begin-indexed-requires : goal.begin-indexed-requires
begin-indexed-requires t c =
    let inside = element-stands _ _ _ _ c.requires _ c.sort-s.ensures c.if-s-eq-NAME.true _ c.sort.ensures c.if-sort-ne-OPEN_BRACE.false in
    (began-room _ _ _ _ _ _ _ _ _ _ c.requires inside c.climb-index.ensures, search (rules, begins-near), search (rules, index_short))

pub begin-returns-then-s-eq-NAME : goal.begin-returns-then-s-eq-NAME
begin-returns-then-s-eq-NAME t c = search (rules, began-element)

pub begin-overflow_add-at-then-s-eq-OPEN_PAREN : goal.begin-overflow_add-at-then-s-eq-OPEN_PAREN
begin-overflow_add-at-then-s-eq-OPEN_PAREN t c = search (rules, begins-add)

pub begin-overflow_sub-nesting-then-s-eq-OPEN_PAREN : goal.begin-overflow_sub-nesting-then-s-eq-OPEN_PAREN
begin-overflow_sub-nesting-then-s-eq-OPEN_PAREN t c = search (rules, paren-some)

pub begin-climb-inner-requires : goal.begin-climb-inner-requires
begin-climb-inner-requires t c = (search (rules, paren-falls), search (rules, paren-stands))

pub begin-nested-requires : goal.begin-nested-requires
begin-nested-requires t c = (search (rules, began-room, paren-stands), search (rules, inner-short))

pub begin-returns-then-s-eq-OPEN_PAREN : goal.begin-returns-then-s-eq-OPEN_PAREN
begin-returns-then-s-eq-OPEN_PAREN t c = search (rules, began-paren)

pub begin-overflow_add-at-in-Some-covered : goal.begin-overflow_add-at-in-Some-covered
begin-overflow_add-at-in-Some-covered t c = search (rules, begins-add)

pub begin-climb-part-requires : goal.begin-climb-part-requires
begin-climb-part-requires t c = (search (rules, begins-falls), search (rules, part-stands))

pub begin-signed-requires : goal.begin-signed-requires
begin-signed-requires t c = (
  began-room _ _ _ _ _ _ _ _ _ _ c.requires (part-stands _ _ _ _ c.requires _ c.sort-s.ensures _ c.in-Some-covered.ensures.0 c.in-Some-covered.ensures.1) c.climb-part.ensures,
  search (rules, begins-near),
  part-short _ _ _ _ c.requires _ c.sort-s.ensures _ c.in-Some-covered.ensures.0 c.in-Some-covered.ensures.1 _ _ _ c.climb-part.ensures,
)

pub begin-returns-in-Some-covered : goal.begin-returns-in-Some-covered
begin-returns-in-Some-covered t c =
    began-signed _ _ _ _ _ _ _ _ c.sort-s.ensures _ c.in-Some-covered.ensures.0 c.in-Some-covered.ensures.1 _ _ c.climb-part.ensures c.signed.ensures

pub begin-literal-requires : goal.begin-literal-requires
begin-literal-requires t c = search (rules, begins-room, literal-small)

pub begin-returns : goal.begin-returns
begin-returns t c = search (rules, began-literal)

pub climb-begin-requires : goal.climb-begin-requires
climb-begin-requires t c = (omega (arith, c.decreases), search (rules, stands-begins))

pub climb-returns-in_err-t : goal.climb-returns-in_err-t
climb-returns-in_err-t t c =
    let p = err_from_is_err_and c.from_residual.result c.from_residual.ensures.1 in rw (p.1, p.2) (run-faulty _ _ _ _ _ _ _ _ _ c.in_err-t.ensures _ (runs-first _ _ _ _ _ _ _))

pub climb-loop-t-init : goal.climb-loop-t-init
climb-loop-t-init t c = search (rules, runs-first)

pub climb-sort-s-requires : goal.climb-sort-s-requires
climb-sort-s-requires t c = search (rules, run_room)

pub climb-returns-then-l-eq-NONE : goal.climb-returns-then-l-eq-NONE
climb-returns-then-l-eq-NONE t c = run-stops _ _ _ _ _ _ _ _ _ _ c.loop-t.invariant _ _ c.sort-s.ensures c.level_of-l.ensures _ c.in_ok-t.ensures c.then-l-eq-NONE.either

pub climb-returns-then-ne : goal.climb-returns-then-ne
climb-returns-then-ne t c =
    run-wrong _ _ _ _ _ _ _ _ _ _ c.loop-t.invariant _ _ c.sort-s.ensures c.level_of-l.ensures c.if-l-eq-NONE.false c.if-level-l.false _ c.asked-wants.ensures _ c.in_ok-t.ensures (told-apart _ _ c.if-ne.ensures)

pub climb-overflow_add-i : goal.climb-overflow_add-i
climb-overflow_add-i t c = search (rules, run-add)

pub climb-climb-right-requires : goal.climb-climb-right-requires
climb-climb-right-requires t c = (
  run-falls _ _ _ _ _ _ _ _ _ _ c.loop-t.invariant _ t c.in_ok-t.ensures c.requires c.decreases,
  run-right _ _ _ _ _ _ _ _ _ _ c.loop-t.invariant _ _ c.sort-s.ensures c.level_of-l.ensures c.if-l-eq-NONE.false c.if-level-l.false _ c.in_ok-t.ensures c.requires,
)

pub climb-join-requires : goal.climb-join-requires
climb-join-requires t c =
    run-joins _ _ _ _ _ _ _ _ _ _ c.loop-t.invariant _ _ c.sort-s.ensures c.level_of-l.ensures c.if-l-eq-NONE.false c.if-level-l.false _ c.asked-wants.ensures (told-same _ _ c.if-ne.ensures) _ _ c.climb-right.ensures _ c.in_ok-t.ensures c.requires

pub climb-returns-in_err-t-2 : goal.climb-returns-in_err-t-2
climb-returns-in_err-t-2 t c =
    let p = err_from_is_err_and c.from_residual-in_err-t-2.result c.from_residual-in_err-t-2.ensures.1 in rw (p.1, p.2) (run-faulty _ _ _ _ _ _ _ _ _ c.in_ok-t.ensures _ (
    run_on _ _ _ _ _ _ _ _ _ _ c.loop-t.invariant _ _ c.sort-s.ensures c.level_of-l.ensures c.if-l-eq-NONE.false c.if-level-l.false _ c.asked-wants.ensures (told-same _ _ c.if-ne.ensures) _ _ c.climb-right.ensures _ _ c.in_err-t-2.ensures))

pub climb-loop-t-smaller : goal.climb-loop-t-smaller
climb-loop-t-smaller t c =
    run-less _ _ _ _ _ _ _ _ _ _ c.loop-t.invariant _ _ c.sort-s.ensures c.level_of-l.ensures c.if-l-eq-NONE.false c.if-level-l.false _ c.asked-wants.ensures (told-same _ _ c.if-ne.ensures) _ _ c.climb-right.ensures _ _ _ c.in_ok-t-2.ensures _ c.in_ok-t.ensures c.requires

pub climb-loop-t-preserved : goal.climb-loop-t-preserved
climb-loop-t-preserved t c =
    run_on _ _ _ _ _ _ _ _ _ _ c.loop-t.invariant _ _ c.sort-s.ensures c.level_of-l.ensures c.if-l-eq-NONE.false c.if-level-l.false _ c.asked-wants.ensures (told-same _ _ c.if-ne.ensures) _ _ c.climb-right.ensures _ _ c.in_ok-t-2.ensures
