use borrow.Author.Rules.{rules}
use native.Mathlib.Omega.{arith}
use Rattle.std.proofs.lemmas.Result.{err_from_is_err_and}
use Rattle.check_statements.proofs.ListWalk.{list-begins, list-long, list-values, list-forward, list-room, list-ends, list-stands, list-less, list-faulty, list-goes}
use Rattle.check_statements.proofs.Dispatch.{stands-room, stands-early, begins-by, stated-by, plain_by, stated-plain}
use Rattle.check_statements.proofs.Whiles.{while-condition, while-forward, while-lists, while-closes, while-wrong, while-list-wrong, while-finished}
use Rattle.check_statements.proofs.Elses.{else-room, else-lists, else-closes, else-no, else-wrong, else-yes}
use Rattle.check_statements.proofs.Arms.{arms-begin, arm-lists, arm-values, arm-long-so, arm-after, arm-wide, arm-place, arm-closes, arm-long, arm-elses, arm-ends, arm-condition, arm-less, arm-list-wrong, arm-else-wrong, arms-finished, arm-wrong, arms-go}
use Rattle.check_statements.proofs.Ifs.{if-condition, if-room, if-forward, if-compacts, if-thens, if-wrong, if-compact, if-full}
use Rattle.check_statements.proofs.Fors.{entered-used, entered-word, entered-opened, left-used, entered-left, entered-grown, for-heads, for-declares, for-spare, for-lists, for-listed, for-closes, for-leaves, for-wrong, for-list-wrong, for-long, for-finished}
use Rattle.check_statements.proofs.DefaultPart.{default-room, default-lists, default-closes, default-no, default-wrong, default-yes}
use Rattle.check_statements.proofs.TestCases.{cases_begin, case-room, case-long, case-values-long, case-defaults, case-values-stand, case-lists, case-colon, case-closes, case-links, cases-finished, case-wrong, case-list-wrong, cases-go}
use Rattle.check_statements.proofs.Tests.{test-selector, test-chooses, test-forward, test-room, test-wrong, test-cases-wrong, test-finished}
use Rattle.store_writing.proofs.Rewriting.{rewritten-length}
use Rattle.check_names.proofs.Growing.{grown-self, grown-on, grown-upto, stays_on, has_word}
use Rattle.check_statements.proofs.+cases_default_else_part_for_statement_full_if_if_statement_list_statement_test_statement_while_statement.Goals as goal

pub cases-loop-code-init : goal.cases-loop-code-init
cases-loop-code-init t c = search (rules, cases_begin, grown-self)

pub cases-sort-requires : goal.cases-sort-requires
cases-sort-requires t c =
    (case-room _ _ _ _ _ _ _ _ _ _ c.loop-code.invariant.0 c.requires.0).2

pub cases-default-requires : goal.cases-default-requires
cases-default-requires t c = (
  omega (arith, case-room _ _ _ _ _ _ _ _ _ _ c.loop-code.invariant.0 c.requires.0, c.decreases),
  (
    case-defaults _ _ _ _ _ _ _ _ _ _ c.loop-code.invariant.0
        c.requires.0 _ c.sort.ensures c.if-sort-ne-CASE.true,
    has_word c.requires.1 c.loop-code.invariant.1,
  ),
)

pub cases-shape_of-code-then-sort-ne-CASE : goal.cases-shape_of-code-then-sort-ne-CASE
cases-shape_of-code-then-sort-ne-CASE t c =
    let z =
    (case-long _ _ _ _ _ _ _ _ _ _ c.loop-code.invariant.0 c.requires.0) in
    search rules

pub cases-shape_of-values-then-sort-ne-CASE : goal.cases-shape_of-values-then-sort-ne-CASE
cases-shape_of-values-then-sort-ne-CASE t c =
    let z =
    (case-values-long _ _ _ _ _ _ _ _ _ _ c.loop-code.invariant.0 c.requires.0) in
    search rules

pub cases-returns-then-sort-ne-CASE : goal.cases-returns-then-sort-ne-CASE
cases-returns-then-sort-ne-CASE t c = (
  cases-finished _ _ _ _ _ _ _ _ _ _ c.loop-code.invariant.0 _ c.sort.ensures c.if-sort-ne-CASE.true _ _ _ c.default.ensures.0,
  stays_on _ _ c.default.result c.loop-code.invariant.1 c.default.ensures.1,
)

pub cases-case_values-requires : goal.cases-case_values-requires
cases-case_values-requires t c =
    case-values-stand _ _ _ _ _ _ _ _ _ _ c.loop-code.invariant.0 c.requires.0 _ c.sort.ensures c.if-sort-ne-CASE.false

pub cases-shape_of-code-in_err-colon : goal.cases-shape_of-code-in_err-colon
cases-shape_of-code-in_err-colon t c =
    let z =
    (case-long _ _ _ _ _ _ _ _ _ _ c.loop-code.invariant.0 c.requires.0) in
    search rules

pub cases-shape_of-values-in_err-colon : goal.cases-shape_of-values-in_err-colon
cases-shape_of-values-in_err-colon t c =
    let z =
    (case-values-long _ _ _ _ _ _ _ _ _ _ c.loop-code.invariant.0 c.requires.0) in
    search rules

pub cases-returns-in_err-colon : goal.cases-returns-in_err-colon
cases-returns-in_err-colon t c =
    let p = err_from_is_err_and c.from_residual.result c.from_residual.ensures.1 in
    rw (p.1, p.2) (case-wrong _ _ _ _ _ _ _ _ _ _ c.loop-code.invariant.0 _ c.sort.ensures c.if-sort-ne-CASE.false _ _ c.case_values.ensures _ c.in_err-colon.was, tt)

pub cases-overflow_add-colon : goal.cases-overflow_add-colon
cases-overflow_add-colon t c =
    omega (
      arith,
      case-colon _ _ _ _ _ _ _ _ _ _ c.loop-code.invariant.0 c.requires.0 _ c.sort.ensures c.if-sort-ne-CASE.false _ _
          c.case_values.ensures _ c.in_ok-colon.was,
    )

pub cases-list-requires : goal.cases-list-requires
cases-list-requires t c = (
  omega (
    arith,
    case-colon _ _ _ _ _ _ _ _ _ _ c.loop-code.invariant.0 c.requires.0 _ c.sort.ensures c.if-sort-ne-CASE.false _ _
        c.case_values.ensures _ c.in_ok-colon.was,
    case-room _ _ _ _ _ _ _ _ _ _ c.loop-code.invariant.0 c.requires.0,
    c.decreases,
  ),
  (
    case-lists _ _ _ _ _ _ _ _ _ _ c.loop-code.invariant.0 c.requires.0 _ c.sort.ensures c.if-sort-ne-CASE.false _ _
        c.case_values.ensures _ c.in_ok-colon.was,
    has_word c.requires.1 c.loop-code.invariant.1,
  ),
)

pub cases-shape_of-code-in_err-e : goal.cases-shape_of-code-in_err-e
cases-shape_of-code-in_err-e t c =
    let z =
    (case-long _ _ _ _ _ _ _ _ _ _ c.loop-code.invariant.0 c.requires.0) in
    search rules

pub cases-shape_of-values-in_err-e : goal.cases-shape_of-values-in_err-e
cases-shape_of-values-in_err-e t c =
    let z =
    (case-values-long _ _ _ _ _ _ _ _ _ _ c.loop-code.invariant.0 c.requires.0) in
    search rules

pub cases-returns-in_err-e : goal.cases-returns-in_err-e
cases-returns-in_err-e t c =
    let p = err_from_is_err_and c.from_residual-in_err-e.result c.from_residual-in_err-e.ensures.1 in
    rw (p.1, p.2) (case-list-wrong _ _ _ _ _ _ _ _ _ _ c.loop-code.invariant.0 _ c.sort.ensures c.if-sort-ne-CASE.false _ _ c.case_values.ensures _ c.in_ok-colon.was _ _ _ c.list.ensures.0 _ c.in_err-e.was, tt)

pub cases-overflow_add-c : goal.cases-overflow_add-c
cases-overflow_add-c t c =
    omega (arith, case-room _ _ _ _ _ _ _ _ _ _ c.loop-code.invariant.0 c.requires.0)

pub cases-set_word-requires : goal.cases-set_word-requires
cases-set_word-requires t c =
    let z = case-closes _ _ _ _ _ _ _ _ _ _ c.loop-code.invariant.0 c.requires.0 _ c.sort.ensures c.if-sort-ne-CASE.false _ _
    c.case_values.ensures _ c.in_ok-colon.was _ _ _ c.list.ensures.0 _ _ c.in_ok-e.was in
    (omega (arith, z), omega arith, omega arith, omega (arith, z))

pub cases-link_values-requires : goal.cases-link_values-requires
cases-link_values-requires t c =
    case-links _ _ _ _ _ _ _ _ _ _ c.loop-code.invariant.0 c.requires.0 _ c.sort.ensures c.if-sort-ne-CASE.false _ _
    c.case_values.ensures _ c.in_ok-colon.was _ _ _ c.list.ensures.0 _ _ c.in_ok-e.was _
    c.set_word.ensures

pub cases-loop-code-smaller : goal.cases-loop-code-smaller
cases-loop-code-smaller t c =
    let z = case-closes _ _ _ _ _ _ _ _ _ _ c.loop-code.invariant.0 c.requires.0 _ c.sort.ensures c.if-sort-ne-CASE.false _ _
    c.case_values.ensures _ c.in_ok-colon.was _ _ _ c.list.ensures.0 _ _ c.in_ok-e.was in omega (arith, z)

pub cases-loop-code-preserved : goal.cases-loop-code-preserved
cases-loop-code-preserved t c = (
  cases-go _ _ _ _ _ _ _ _ _ _ c.loop-code.invariant.0 _ c.sort.ensures c.if-sort-ne-CASE.false _ _ c.case_values.ensures _
      c.in_ok-colon.was _ _ _ c.list.ensures.0 _ _ c.in_ok-e.was _ c.set_word.ensures _ c.link_values.ensures,
  grown-on c.loop-code.invariant.1 (grown-upto _ _ c.list.ensures.1 _ _ c.in_ok-e.was),
)

pub default-sort-requires : goal.default-sort-requires
default-sort-requires t c =
    omega (arith, default-room _ _ _ _ _ _ c.requires.0)

pub default-overflow_add-c : goal.default-overflow_add-c
default-overflow_add-c t c =
    omega (arith, default-room _ _ _ _ _ _ c.requires.0)

pub default-overflow_add-c-then-sort-ne-DEFAULT : goal.default-overflow_add-c-then-sort-ne-DEFAULT
default-overflow_add-c-then-sort-ne-DEFAULT t c =
    omega (arith, default-room _ _ _ _ _ _ c.requires.0)

pub default-rewrite-requires : goal.default-rewrite-requires
default-rewrite-requires t c =
    let z = default-room _ _ _ _ _ _ c.requires.0 in (omega (arith, z), omega (arith, z), omega (arith, z))

pub default-overflow_add-result : goal.default-overflow_add-result
default-overflow_add-result t c =
    omega (arith, default-room _ _ _ _ _ _ c.requires.0)

pub default-returns-then-sort-ne-DEFAULT : goal.default-returns-then-sort-ne-DEFAULT
default-returns-then-sort-ne-DEFAULT t c = search (rules, default-no, grown-self)

pub default-overflow_add-c-2 : goal.default-overflow_add-c-2
default-overflow_add-c-2 t c =
    omega (arith, default-room _ _ _ _ _ _ c.requires.0)

pub default-list-requires : goal.default-list-requires
default-list-requires t c = (
  omega (arith, default-room _ _ _ _ _ _ c.requires.0, c.decreases),
  (
    search (rules, default-lists),
    c.requires.1,
  ),
)

pub default-returns-in_err-z : goal.default-returns-in_err-z
default-returns-in_err-z t c =
    let p = err_from_is_err_and c.from_residual.result c.from_residual.ensures.1 in
    rw (p.1, p.2) (default-wrong _ _ _ _ _ _ _ c.sort.ensures c.if-sort-ne-DEFAULT.false _ _ _ c.list.ensures.0 _ c.in_err-z.was, tt)

pub default-overflow_add-c-3 : goal.default-overflow_add-c-3
default-overflow_add-c-3 t c =
    omega (arith, default-room _ _ _ _ _ _ c.requires.0)

pub default-rewrite-requires-2 : goal.default-rewrite-requires-2
default-rewrite-requires-2 t c =
    let z = default-closes _ _ _ _ _ _ c.requires.0 _ c.sort.ensures c.if-sort-ne-DEFAULT.false _ _ _ c.list.ensures.0 _ _
    c.in_ok-z.was in let y = default-room _ _ _ _ _ _ c.requires.0 in (omega (arith, z), omega (arith, y), omega (arith, z))

pub default-overflow_add-z : goal.default-overflow_add-z
default-overflow_add-z t c =
    omega
    (arith, default-closes _ _ _ _ _ _ c.requires.0 _ c.sort.ensures c.if-sort-ne-DEFAULT.false _ _ _ c.list.ensures.0 _ _ c.in_ok-z.was)

pub default-set_word-requires : goal.default-set_word-requires
default-set_word-requires t c =
    let z = default-closes _ _ _ _ _ _ c.requires.0 _ c.sort.ensures c.if-sort-ne-DEFAULT.false _ _ _ c.list.ensures.0 _ _ c.in_ok-z.was in
    let y = rewritten-length c.rewrite-2.ensures z.2 in (omega (arith, z, y), omega arith, omega arith, omega (arith, z))

pub default-overflow_add-result-2 : goal.default-overflow_add-result-2
default-overflow_add-result-2 t c =
    omega
    (arith, default-closes _ _ _ _ _ _ c.requires.0 _ c.sort.ensures c.if-sort-ne-DEFAULT.false _ _ _ c.list.ensures.0 _ _ c.in_ok-z.was)

pub default-returns : goal.default-returns
default-returns t c = (
  default-yes _ _ _ _ _ _ _ c.sort.ensures c.if-sort-ne-DEFAULT.false _ _ _ c.list.ensures.0 _ _ c.in_ok-z.was _ _
      c.rewrite-2.ensures c.set_word.ensures,
  grown-upto _ _ c.list.ensures.1 _ _ c.in_ok-z.was,
)

pub else_part-sort-requires : goal.else_part-sort-requires
else_part-sort-requires t c =
    omega (arith, else-room _ _ _ _ _ _ c.requires.0)

pub else_part-overflow_add-c : goal.else_part-overflow_add-c
else_part-overflow_add-c t c =
    omega (arith, else-room _ _ _ _ _ _ c.requires.0)

pub else_part-set_word-requires : goal.else_part-set_word-requires
else_part-set_word-requires t c =
    let z = else-room _ _ _ _ _ _ c.requires.0 in (omega (arith, z), omega arith, omega arith, omega (arith, z))

pub else_part-overflow_add-result : goal.else_part-overflow_add-result
else_part-overflow_add-result t c =
    omega (arith, else-room _ _ _ _ _ _ c.requires.0)

pub else_part-returns-then-sort-ne-ELSE : goal.else_part-returns-then-sort-ne-ELSE
else_part-returns-then-sort-ne-ELSE t c = search (rules, else-no, grown-self)

pub else_part-overflow_add-c-2 : goal.else_part-overflow_add-c-2
else_part-overflow_add-c-2 t c =
    omega (arith, else-room _ _ _ _ _ _ c.requires.0)

pub else_part-list-requires : goal.else_part-list-requires
else_part-list-requires t c = (
  omega (arith, else-room _ _ _ _ _ _ c.requires.0, c.decreases),
  (
    search (rules, else-lists),
    c.requires.1,
  ),
)

pub else_part-returns-in_err-z : goal.else_part-returns-in_err-z
else_part-returns-in_err-z t c =
    let p = err_from_is_err_and c.from_residual.result c.from_residual.ensures.1 in
    rw (p.1, p.2) (else-wrong _ _ _ _ _ _ _ c.sort.ensures c.if-sort-ne-ELSE.false _ _ _ c.list.ensures.0 _ c.in_err-z.was, tt)

pub else_part-set_word-requires-2 : goal.else_part-set_word-requires-2
else_part-set_word-requires-2 t c =
    let z = else-closes _ _ _ _ _ _ c.requires.0 _ c.sort.ensures c.if-sort-ne-ELSE.false _ _ _ c.list.ensures.0 _ _
    c.in_ok-z.was in let y = else-room _ _ _ _ _ _ c.requires.0 in (omega (arith, z, y), omega arith, omega arith, omega (arith, z))

pub else_part-overflow_add-z : goal.else_part-overflow_add-z
else_part-overflow_add-z t c =
    omega (arith, else-closes _ _ _ _ _ _ c.requires.0 _ c.sort.ensures c.if-sort-ne-ELSE.false _ _ _ c.list.ensures.0 _ _ c.in_ok-z.was)

pub else_part-set_word-requires-3 : goal.else_part-set_word-requires-3
else_part-set_word-requires-3 t c =
    let z = else-closes _ _ _ _ _ _ c.requires.0 _ c.sort.ensures c.if-sort-ne-ELSE.false _ _ _ c.list.ensures.0 _ _ c.in_ok-z.was in let
    y = else-room _ _ _ _ _ _ c.requires.0 in
    (omega (arith, z, y, c.set_word-2.ensures.kept.long), omega arith, omega arith, omega (arith, z))

pub else_part-overflow_add-result-2 : goal.else_part-overflow_add-result-2
else_part-overflow_add-result-2 t c =
    omega (arith, else-closes _ _ _ _ _ _ c.requires.0 _ c.sort.ensures c.if-sort-ne-ELSE.false _ _ _ c.list.ensures.0 _ _ c.in_ok-z.was)

pub else_part-returns : goal.else_part-returns
else_part-returns t c = (
  else-yes _ _ _ _ _ _ _ c.sort.ensures c.if-sort-ne-ELSE.false _ _ _ c.list.ensures.0 _ _ c.in_ok-z.was _ _
      c.set_word-2.ensures c.set_word-3.ensures,
  grown-upto _ _ c.list.ensures.1 _ _ c.in_ok-z.was,
)

pub for_statement-for_head-requires : goal.for_statement-for_head-requires
for_statement-for_head-requires t c = search (rules, for-heads)

pub for_statement-enter-inner-requires : goal.for_statement-enter-inner-requires
for_statement-enter-inner-requires t c =
    let z = for-declares _ _ _ _ _ _ c.requires.0 _ _ c.for_head.ensures _ c.in_ok-d.was in
    (omega (arith, z.0), z.1, omega (arith, for-spare _ _ _ _ _ _ c.requires.0 _ _ c.for_head.ensures _ c.in_ok-d.was), c.requires.1)

pub for_statement-overflow_add-d : goal.for_statement-overflow_add-d
for_statement-overflow_add-d t c =
    omega (arith, for-spare _ _ _ _ _ _ c.requires.0 _ _ c.for_head.ensures _ c.in_ok-d.was)

pub for_statement-list-requires : goal.for_statement-list-requires
for_statement-list-requires t c = (
  omega (arith, for-spare _ _ _ _ _ _ c.requires.0 _ _ c.for_head.ensures _ c.in_ok-d.was, c.decreases),
  (
    for-lists _ _ _ _ _ _
        c.requires.0 _ _ c.for_head.ensures _ c.in_ok-d.was _ (omega arith) _ _ c.enter-inner.ensures.known _
        (entered-used c.enter-inner.ensures),
    entered-word c.enter-inner.ensures c.requires.1,
  ),
)

pub for_statement-returns-in_err-e : goal.for_statement-returns-in_err-e
for_statement-returns-in_err-e t c =
    let p = err_from_is_err_and c.from_residual-in_err-e.result c.from_residual-in_err-e.ensures.1 in
    rw (p.1, p.2) (
      for-list-wrong _ _ _ _ _ _ _ _ c.for_head.ensures _ c.in_ok-d.was _ (omega arith) _ _ c.enter-inner.ensures.known _
          (entered-used c.enter-inner.ensures) _ _ _ c.list.ensures.0 _ c.in_err-e.was,
      tt,
    )

pub for_statement-leave-outer-requires : goal.for_statement-leave-outer-requires
for_statement-leave-outer-requires t c =
    for-leaves _ _ _ _ _ _ c.requires.0 _ _ c.for_head.ensures _ c.in_ok-d.was _ (omega arith) _ _ c.enter-inner.ensures.known
    _ _ _ (for-listed (entered-used c.enter-inner.ensures) c.list.ensures.0) _ _ c.in_ok-e.was
    (entered-opened c.enter-inner.ensures (grown-upto _ _ c.list.ensures.1 _ _ c.in_ok-e.was))

pub for_statement-for_end-requires : goal.for_statement-for_end-requires
for_statement-for_end-requires t c =
    for-closes _ _ _ _ _ _ c.requires.0 _ _ c.for_head.ensures _ c.in_ok-d.was _ (omega arith) _ _ c.enter-inner.ensures.known
    _ _ _ (for-listed (entered-used c.enter-inner.ensures) c.list.ensures.0) _ _ c.in_ok-e.was

pub for_statement-overflow_add-result : goal.for_statement-overflow_add-result
for_statement-overflow_add-result t c =
    omega (
      arith,
      for-closes _ _ _ _ _ _ c.requires.0 _ _ c.for_head.ensures _ c.in_ok-d.was _ (omega arith) _ _
          c.enter-inner.ensures.known _ _ _ (for-listed (entered-used c.enter-inner.ensures) c.list.ensures.0) _ _ c.in_ok-e.was,
    )

pub for_statement-returns-in_err-d : goal.for_statement-returns-in_err-d
for_statement-returns-in_err-d t c =
    let p = err_from_is_err_and c.from_residual.result c.from_residual.ensures.1 in
    rw (p.1, p.2) (for-wrong _ _ _ _ _ _ _ _ c.for_head.ensures _ c.in_err-d.was, tt)

pub for_statement-shape_of-code : goal.for_statement-shape_of-code
for_statement-shape_of-code t c =
    let z =
    (for-long _ _ _ _ _ _ c.requires.0 _ _ c.for_head.ensures _ c.in_ok-d.was _ (omega arith) _ _
    c.enter-inner.ensures.known _ _ _ (for-listed (entered-used c.enter-inner.ensures) c.list.ensures.0) _ _ c.in_ok-e.was _ _
    (entered-left c.enter-inner.ensures (grown-upto _ _ c.list.ensures.1 _ _ c.in_ok-e.was) c.leave-outer.ensures) c.for_end.ensures) in
    search rules

pub for_statement-returns : goal.for_statement-returns
for_statement-returns t c =
    let entered = c.enter-inner.ensures in
    let more = grown-upto _ _ c.list.ensures.1 _ _ c.in_ok-e.was in
    let left = c.leave-outer.ensures in (
      for-finished _ _ _ _ _ _ _ _ c.for_head.ensures _ c.in_ok-d.was _ (omega arith) _ _ entered.known _
          (entered-used entered) _ _ _ c.list.ensures.0 _ _ c.in_ok-e.was _ _ (entered-left entered more left) _ (left-used entered more left) c.for_end.ensures,
      entered-grown entered more left,
    )

pub full_if-loop-e-init : goal.full_if-loop-e-init
full_if-loop-e-init t c = search (rules, arms-begin, grown-self)

pub full_if-overflow_add-t : goal.full_if-overflow_add-t
full_if-overflow_add-t t c =
    omega (arith, arm-place _ _ _ _ _ _ _ _ _ _ _ _ _ c.loop-e.invariant.0 c.requires.0)

pub full_if-list-requires : goal.full_if-list-requires
full_if-list-requires t c = (
  omega (
    arith,
    arm-place _ _ _ _ _ _ _ _ _ _ _ _ _ c.loop-e.invariant.0 c.requires.0,
    arm-after _ _ _ _ _ _ _ _ _ _ _ _ _
        c.loop-e.invariant.0 c.requires.0,
    c.decreases,
  ),
  (
    search (rules, arm-lists),
    has_word c.requires.1 c.loop-e.invariant.1,
  ),
)

pub full_if-shape_of-code-in_err-e : goal.full_if-shape_of-code-in_err-e
full_if-shape_of-code-in_err-e t c =
    let z =
    (arm-long-so _ _ _ _ _ _ _ _ _ _ _ _ _ c.loop-e.invariant.0 c.requires.0) in
    search rules

pub full_if-shape_of-values-in_err-e : goal.full_if-shape_of-values-in_err-e
full_if-shape_of-values-in_err-e t c =
    let z =
    (arm-values _ _ _ _ _ _ _ _ _ _ _ _ _ c.loop-e.invariant.0 c.requires.0) in
    search rules

pub full_if-returns-in_err-e : goal.full_if-returns-in_err-e
full_if-returns-in_err-e t c =
    let p = err_from_is_err_and c.from_residual.result c.from_residual.ensures.1 in
    rw (p.1, p.2) (arm-list-wrong _ _ _ _ _ _ _ _ _ _ _ _ _ c.loop-e.invariant.0 _ _ _ c.list.ensures.0 _ c.in_err-e.was, tt)

pub full_if-arm_end-requires : goal.full_if-arm_end-requires
full_if-arm_end-requires t c =
    arm-closes _ _ _ _ _ _ _ _ _ _ _ _ _ c.loop-e.invariant.0 c.requires.0 _ _ _ c.list.ensures.0 _ _ c.in_ok-e.was

pub full_if-sort-requires : goal.full_if-sort-requires
full_if-sort-requires t c =
    omega (
      arith,
      arm-closes _ _ _ _ _ _ _ _ _ _ _ _ _ c.loop-e.invariant.0 c.requires.0 _ _ _ c.list.ensures.0 _ _ c.in_ok-e.was,
      arm-long _ _
          _ _ _ _ _ _ _ _ _ _ _ c.loop-e.invariant.0 c.requires.0 _ _ _ c.list.ensures.0 _ _ c.in_ok-e.was _
          c.arm_end.ensures,
      arm-wide _ _ _ _ _ _ _ _ _ _ _ _ _ c.loop-e.invariant.0 c.requires.0,
    )

pub full_if-else_part-requires : goal.full_if-else_part-requires
full_if-else_part-requires t c = (
  omega (
    arith,
    arm-closes _ _ _ _ _ _ _ _ _ _ _ _ _ c.loop-e.invariant.0 c.requires.0 _ _ _ c.list.ensures.0 _ _ c.in_ok-e.was,
    arm-after _
        _ _ _ _ _ _ _ _ _ _ _ _ c.loop-e.invariant.0 c.requires.0,
    c.decreases,
  ),
  (
    arm-elses _ _ _ _ _ _ _ _ _ _ _ _ _ c.loop-e.invariant.0 c.requires.0 _ _ _
        c.list.ensures.0 _ _ c.in_ok-e.was _ c.arm_end.ensures _ c.sort.ensures
        c.if-sort-ne-ELSEIF.true,
    has_word (has_word c.requires.1 c.loop-e.invariant.1) (grown-upto _ _ c.list.ensures.1 _ _ c.in_ok-e.was),
  ),
)

pub full_if-shape_of-code-in_err-z : goal.full_if-shape_of-code-in_err-z
full_if-shape_of-code-in_err-z t c =
    let z =
    (arm-long-so _ _ _ _ _ _ _ _ _ _ _ _ _ c.loop-e.invariant.0 c.requires.0) in
    search rules

pub full_if-shape_of-values-in_err-z : goal.full_if-shape_of-values-in_err-z
full_if-shape_of-values-in_err-z t c =
    let z =
    (arm-values _ _ _ _ _ _ _ _ _ _ _ _ _ c.loop-e.invariant.0 c.requires.0) in
    search rules

pub full_if-returns-in_err-z : goal.full_if-returns-in_err-z
full_if-returns-in_err-z t c =
    let p = err_from_is_err_and c.from_residual-in_err-z.result c.from_residual-in_err-z.ensures.1 in
    rw (p.1, p.2) (
      arm-else-wrong _ _ _ _ _ _ _ _ _ _ _ _ _ c.loop-e.invariant.0 _ _ _ c.list.ensures.0 _ _ c.in_ok-e.was _ c.arm_end.ensures _
          c.sort.ensures c.if-sort-ne-ELSEIF.true _ _ _ c.else_part.ensures.0 _ c.in_err-z.was,
      tt,
    )

pub full_if-set_link-requires : goal.full_if-set_link-requires
full_if-set_link-requires t c =
    arm-ends _ _ _ _ _ _ _ _ _ _ _ _ _ c.loop-e.invariant.0 c.requires.0 _ _ _ c.list.ensures.0 _ _ c.in_ok-e.was _
    c.arm_end.ensures _ c.sort.ensures c.if-sort-ne-ELSEIF.true _ _ _ c.else_part.ensures.0 _ _
    c.in_ok-z.was

pub full_if-shape_of-code-then-sort-ne-ELSEIF : goal.full_if-shape_of-code-then-sort-ne-ELSEIF
full_if-shape_of-code-then-sort-ne-ELSEIF t c =
    let z =
    (((arms-finished _ _ _ _ _ _ _ _ _ _ _ _ _ c.loop-e.invariant.0 _ _ _ c.list.ensures.0 _ _ c.in_ok-e.was _ c.arm_end.ensures
    _ c.sort.ensures c.if-sort-ne-ELSEIF.true _ _ _ c.else_part.ensures.0 _ _ c.in_ok-z.was _
    c.set_link.ensures).is c.requires.0).long) in
    search rules

pub full_if-shape_of-values-then-sort-ne-ELSEIF : goal.full_if-shape_of-values-then-sort-ne-ELSEIF
full_if-shape_of-values-then-sort-ne-ELSEIF t c =
    omega (
      arith,
      arm-values _ _ _ _ _ _ _ _ _ _ _ _ _ c.loop-e.invariant.0 c.requires.0,
      c.list.auto.values,
      c.else_part.auto.values,
    )

pub full_if-returns-then-sort-ne-ELSEIF : goal.full_if-returns-then-sort-ne-ELSEIF
full_if-returns-then-sort-ne-ELSEIF t c = (
  arms-finished _ _ _ _ _ _ _ _ _ _ _ _ _ c.loop-e.invariant.0 _ _ _ c.list.ensures.0 _ _ c.in_ok-e.was _ c.arm_end.ensures _
      c.sort.ensures c.if-sort-ne-ELSEIF.true _ _ _ c.else_part.ensures.0 _ _ c.in_ok-z.was _ c.set_link.ensures,
  grown-on (grown-on c.loop-e.invariant.1 (grown-upto _ _ c.list.ensures.1 _ _ c.in_ok-e.was)) (grown-upto _ _ c.else_part.ensures.1 _ _ c.in_ok-z.was),
)

pub full_if-overflow_add-e : goal.full_if-overflow_add-e
full_if-overflow_add-e t c =
    omega (arith, arm-closes _ _ _ _ _ _ _ _ _ _ _ _ _ c.loop-e.invariant.0 c.requires.0 _ _ _ c.list.ensures.0 _ _ c.in_ok-e.was)

pub full_if-typed-requires : goal.full_if-typed-requires
full_if-typed-requires t c =
    arm-condition _ _ _ _ _ _ _ _ _ _ _ _ _ c.loop-e.invariant.0 c.requires.0 _ _ _ c.list.ensures.0 _ _ c.in_ok-e.was _
    c.arm_end.ensures _ c.sort.ensures c.if-sort-ne-ELSEIF.false

pub full_if-shape_of-code-in_err-m : goal.full_if-shape_of-code-in_err-m
full_if-shape_of-code-in_err-m t c =
    let z =
    (arm-long-so _ _ _ _ _ _ _ _ _ _ _ _ _ c.loop-e.invariant.0 c.requires.0) in
    search rules

pub full_if-shape_of-values-in_err-m : goal.full_if-shape_of-values-in_err-m
full_if-shape_of-values-in_err-m t c =
    let z =
    (arm-values _ _ _ _ _ _ _ _ _ _ _ _ _ c.loop-e.invariant.0 c.requires.0) in
    search rules

pub full_if-returns-in_err-m : goal.full_if-returns-in_err-m
full_if-returns-in_err-m t c =
    let p = err_from_is_err_and c.from_residual-in_err-m.result c.from_residual-in_err-m.ensures.1 in
    rw (p.1, p.2) (
      arm-wrong _ _ _ _ _ _ _ _ _ _ _ _ _ c.loop-e.invariant.0 _ _ _ c.list.ensures.0 _ _ c.in_ok-e.was _ c.arm_end.ensures _
          c.sort.ensures c.if-sort-ne-ELSEIF.false _ _ c.typed.ensures _ c.in_err-m.was,
      tt,
    )

pub full_if-loop-e-smaller : goal.full_if-loop-e-smaller
full_if-loop-e-smaller t c =
    arm-less _ _ _ _ _ _ _ _ _ _ _ _ _ c.loop-e.invariant.0 c.requires.0 _ _ _ c.list.ensures.0 _ _ c.in_ok-e.was _
    c.arm_end.ensures _ c.sort.ensures c.if-sort-ne-ELSEIF.false _ _ c.typed.ensures _ _ c.in_ok-m.was

pub full_if-loop-e-preserved : goal.full_if-loop-e-preserved
full_if-loop-e-preserved t c = (
  arms-go _ _ _ _ _ _ _ _ _ _ _ _ _ c.loop-e.invariant.0 _ _ _ c.list.ensures.0 _ _ c.in_ok-e.was _ c.arm_end.ensures _
      c.sort.ensures c.if-sort-ne-ELSEIF.false _ _ c.typed.ensures _ _ c.in_ok-m.was,
  grown-on c.loop-e.invariant.1 (grown-upto _ _ c.list.ensures.1 _ _ c.in_ok-e.was),
)

pub if_statement-overflow_add-i : goal.if_statement-overflow_add-i
if_statement-overflow_add-i t c =
    omega (arith, stands-early _ _ _ _ _ _ c.requires.0.stands)

pub if_statement-typed-requires : goal.if_statement-typed-requires
if_statement-typed-requires t c = search (rules, if-condition)

pub if_statement-sort-requires : goal.if_statement-sort-requires
if_statement-sort-requires t c =
    (if-room _ _ _ _ _ _ c.requires.0 _ _ c.typed.ensures _ _ c.in_ok-t.was).1

pub if_statement-compact_if-requires : goal.if_statement-compact_if-requires
if_statement-compact_if-requires t c =
    if-compacts _ _ _ _ _ _ c.requires.0 _ _ c.typed.ensures _ _ c.in_ok-t.was _ c.sort.ensures
    c.if-sort-ne-THEN.true

pub if_statement-returns-then-sort-ne-THEN : goal.if_statement-returns-then-sort-ne-THEN
if_statement-returns-then-sort-ne-THEN t c = (
  if-compact _ _ _ _ _ _ _ _ c.typed.ensures _ _ c.in_ok-t.was _ c.sort.ensures c.if-sort-ne-THEN.true _ _ c.compact_if.ensures.0,
  c.compact_if.ensures.1,
)

pub if_statement-full_if-requires : goal.if_statement-full_if-requires
if_statement-full_if-requires t c = (
  omega (
    arith,
    if-room _ _ _ _ _ _ c.requires.0 _ _ c.typed.ensures _ _ c.in_ok-t.was,
    if-forward _ _ _ _ _ _ c.requires.0 _ _
        c.typed.ensures _ _ c.in_ok-t.was,
    c.decreases,
  ),
  (
    if-thens _ _ _ _ _ _ c.requires.0 _ _ c.typed.ensures _ _
        c.in_ok-t.was _ c.sort.ensures c.if-sort-ne-THEN.false,
    c.requires.1,
  ),
)

pub if_statement-returns-in_err-t : goal.if_statement-returns-in_err-t
if_statement-returns-in_err-t t c =
    let p = err_from_is_err_and c.from_residual.result c.from_residual.ensures.1 in
    rw (p.1, p.2) (if-wrong _ _ _ _ _ _ _ _ c.typed.ensures _ c.in_err-t.was, tt)

pub if_statement-returns : goal.if_statement-returns
if_statement-returns t c = (
  if-full _ _ _ _ _ _ _ _ c.typed.ensures _ _ c.in_ok-t.was _ c.sort.ensures c.if-sort-ne-THEN.false _ _ _
      c.full_if.ensures.0,
  c.full_if.ensures.1,
)

pub list-loop-k-init : goal.list-loop-k-init
list-loop-k-init t c = search (rules, list-begins, grown-self)

pub list-sort-requires : goal.list-sort-requires
list-sort-requires t c = search (rules, list-room)

pub list-statement-requires : goal.list-statement-requires
list-statement-requires t c = (
  omega (arith, list-forward _ _ _ _ _ _ _ _ _ _ c.loop-k.invariant.0 c.requires.0, c.decreases),
  (
    search (rules, list-stands),
    has_word c.requires.1 c.loop-k.invariant.1,
  ),
)

pub list-shape_of-code-in_err-m : goal.list-shape_of-code-in_err-m
list-shape_of-code-in_err-m t c =
    let z =
    (list-long _ _ _ _ _ _ _ _ _ _ c.loop-k.invariant.0 c.requires.0) in
    search rules

pub list-shape_of-values-in_err-m : goal.list-shape_of-values-in_err-m
list-shape_of-values-in_err-m t c =
    let z =
    (list-values _ _ _ _ _ _ _ _ _ _ c.loop-k.invariant.0 c.requires.0) in
    search rules

pub list-returns-in_err-m : goal.list-returns-in_err-m
list-returns-in_err-m t c =
    let p = err_from_is_err_and c.from_residual.result c.from_residual.ensures.1 in
    rw (p.1, p.2) (list-faulty _ _ _ _ _ _ _ _ _ _ c.loop-k.invariant.0 _ _ c.sort.ensures c.starts_statement.ensures c.loop-k-test.true _ _ _ c.statement.ensures.0 _ c.in_err-m.was, tt)

pub list-loop-k-smaller : goal.list-loop-k-smaller
list-loop-k-smaller t c = list-less _ _ _ _ _ _ _ _ _ _ c.loop-k.invariant.0 _ _ c.sort.ensures c.starts_statement.ensures c.loop-k-test.true _ _ _ c.statement.ensures.0 c.requires.0 _ _ c.in_ok-m.was

pub list-loop-k-preserved : goal.list-loop-k-preserved
list-loop-k-preserved t c = (
  list-goes _ _ _ _ _ _ _ _ _ _ c.loop-k.invariant.0 _ _ c.sort.ensures c.starts_statement.ensures c.loop-k-test.true _ _ _ c.statement.ensures.0 _ _ c.in_ok-m.was,
  grown-on c.loop-k.invariant.1 (grown-upto _ _ c.statement.ensures.1 _ _ c.in_ok-m.was),
)

pub list-returns : goal.list-returns
list-returns t c = search (rules, list-ends)

pub statement-sort-requires : goal.statement-sort-requires
statement-sort-requires t c = search (rules, stands-room)

pub statement-if_statement-requires : goal.statement-if_statement-requires
statement-if_statement-requires t c = (
  omega (arith, stands-early _ _ _ _ _ _ c.requires.0, c.decreases),
  (
    search (rules, begins-by),
    c.requires.1,
  ),
)

pub statement-returns-in-55 : goal.statement-returns-in-55
statement-returns-in-55 t c = search (rules, stated-by)

pub statement-for_statement-requires : goal.statement-for_statement-requires
statement-for_statement-requires t c = (
  omega (arith, stands-early _ _ _ _ _ _ c.requires.0, c.decreases),
  (
    search (rules, begins-by),
    c.requires.1,
  ),
)

pub statement-returns-in-59 : goal.statement-returns-in-59
statement-returns-in-59 t c = search (rules, stated-by)

pub statement-while_statement-requires : goal.statement-while_statement-requires
statement-while_statement-requires t c = (
  omega (arith, stands-early _ _ _ _ _ _ c.requires.0, c.decreases),
  (
    search (rules, begins-by),
    c.requires.1,
  ),
)

pub statement-returns-in-77 : goal.statement-returns-in-77
statement-returns-in-77 t c = search (rules, stated-by)

pub statement-test_statement-requires : goal.statement-test_statement-requires
statement-test_statement-requires t c = (
  omega (arith, stands-early _ _ _ _ _ _ c.requires.0, c.decreases),
  (
    search (rules, begins-by),
    c.requires.1,
  ),
)

pub statement-returns-in-86 : goal.statement-returns-in-86
statement-returns-in-86 t c = search (rules, stated-by)

pub statement-simple_statement-requires : goal.statement-simple_statement-requires
statement-simple_statement-requires t c = search (rules, plain_by)

pub statement-returns-in_default : goal.statement-returns-in_default
statement-returns-in_default t c = search (rules, stated-plain)

pub test_statement-overflow_add-i : goal.test_statement-overflow_add-i
test_statement-overflow_add-i t c =
    omega (arith, stands-early _ _ _ _ _ _ c.requires.0.stands)

pub test_statement-typed-requires : goal.test_statement-typed-requires
test_statement-typed-requires t c = search (rules, test-selector)

pub test_statement-cases-requires : goal.test_statement-cases-requires
test_statement-cases-requires t c = (
  omega (arith, test-forward _ _ _ _ _ _ c.requires.0 _ _ c.typed.ensures _ _ c.in_ok-c.was, c.decreases),
  (
    test-chooses _ _ _ _ _ _ c.requires.0 _ _ c.typed.ensures _ _ c.in_ok-c.was,
    c.requires.1,
  ),
)

pub test_statement-returns-in_err-z : goal.test_statement-returns-in_err-z
test_statement-returns-in_err-z t c =
    let p = err_from_is_err_and c.from_residual-in_err-z.result c.from_residual-in_err-z.ensures.1 in
    rw (p.1, p.2) (test-cases-wrong _ _ _ _ _ _ _ _ c.typed.ensures _ _ c.in_ok-c.was _ _ _ c.cases.ensures.0 _ c.in_err-z.was, tt)

pub test_statement-overflow_cast-c : goal.test_statement-overflow_cast-c
test_statement-overflow_cast-c t c =
    omega (arith, test-forward _ _ _ _ _ _ c.requires.0 _ _ c.typed.ensures _ _ c.in_ok-c.was)

pub test_statement-set_word-requires : goal.test_statement-set_word-requires
test_statement-set_word-requires t c =
    let z = test-room _ _ _ _ _ _ c.requires.0 _ _ c.typed.ensures _ _ c.in_ok-c.was _ _ _ c.cases.ensures.0 _ _
    c.in_ok-z.was in let y = test-forward _ _ _ _ _ _ c.requires.0 _ _ c.typed.ensures _ _ c.in_ok-c.was in
    (omega (arith, z), omega arith, omega (arith, y), omega (arith, z))

pub test_statement-returns-in_err-c : goal.test_statement-returns-in_err-c
test_statement-returns-in_err-c t c =
    let p = err_from_is_err_and c.from_residual.result c.from_residual.ensures.1 in
    rw (p.1, p.2) (test-wrong _ _ _ _ _ _ _ _ c.typed.ensures _ c.in_err-c.was, tt)

pub test_statement-returns : goal.test_statement-returns
test_statement-returns t c = (
  test-finished _ _ _ _ _ _ _ _ c.typed.ensures _ _ c.in_ok-c.was _ _ _ c.cases.ensures.0 _ _ c.in_ok-z.was _
      c.set_word.ensures,
  grown-upto _ _ c.cases.ensures.1 _ _ c.in_ok-z.was,
)

pub while_statement-overflow_add-i : goal.while_statement-overflow_add-i
while_statement-overflow_add-i t c =
    omega (arith, stands-early _ _ _ _ _ _ c.requires.0.stands)

pub while_statement-typed-requires : goal.while_statement-typed-requires
while_statement-typed-requires t c = search (rules, while-condition)

pub while_statement-overflow_add-d : goal.while_statement-overflow_add-d
while_statement-overflow_add-d t c =
    omega (arith, while-forward _ _ _ _ _ _ c.requires.0 _ _ c.typed.ensures _ _ c.in_ok-d.was)

pub while_statement-list-requires : goal.while_statement-list-requires
while_statement-list-requires t c = (
  omega (arith, while-forward _ _ _ _ _ _ c.requires.0 _ _ c.typed.ensures _ _ c.in_ok-d.was, c.decreases),
  (
    while-lists _ _ _ _ _ _ c.requires.0 _ _ c.typed.ensures _ _ c.in_ok-d.was,
    c.requires.1,
  ),
)

pub while_statement-returns-in_err-e : goal.while_statement-returns-in_err-e
while_statement-returns-in_err-e t c =
    let p = err_from_is_err_and c.from_residual-in_err-e.result c.from_residual-in_err-e.ensures.1 in
    rw (p.1, p.2) (while-list-wrong _ _ _ _ _ _ _ _ c.typed.ensures _ _ c.in_ok-d.was _ _ _ c.list.ensures.0 _ c.in_err-e.was, tt)

pub while_statement-while_end-requires : goal.while_statement-while_end-requires
while_statement-while_end-requires t c =
    while-closes _ _ _ _ _ _ c.requires.0 _ _ c.typed.ensures _ _ c.in_ok-d.was _ _ _ c.list.ensures.0 _ _
    c.in_ok-e.was

pub while_statement-overflow_add-result : goal.while_statement-overflow_add-result
while_statement-overflow_add-result t c =
    omega (
      arith,
      while-closes _ _ _ _ _ _ c.requires.0 _ _ c.typed.ensures _ _ c.in_ok-d.was _ _ _ c.list.ensures.0 _ _
          c.in_ok-e.was,
    )

pub while_statement-returns-in_err-d : goal.while_statement-returns-in_err-d
while_statement-returns-in_err-d t c =
    let p = err_from_is_err_and c.from_residual.result c.from_residual.ensures.1 in
    rw (p.1, p.2) (while-wrong _ _ _ _ _ _ _ _ c.typed.ensures _ c.in_err-d.was, tt)

pub while_statement-returns : goal.while_statement-returns
while_statement-returns t c = (
  while-finished _ _ _ _ _ _ _ _ c.typed.ensures _ _ c.in_ok-d.was _ _ _ c.list.ensures.0 _ _ c.in_ok-e.was _ c.while_end.ensures,
  grown-upto _ _ c.list.ensures.1 _ _ c.in_ok-e.was,
)
