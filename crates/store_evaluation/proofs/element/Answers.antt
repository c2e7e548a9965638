use borrow.Author.Rules.{rules}
use native.Mathlib.Omega.{arith}
use Rattle.store_evaluation.proofs.Operands.{index-low, index-high, index-cast, index-some, index-inside, index-done, index-error}
use Rattle.store_evaluation.proofs.element.Goals as goal

pub returns-then-x-lt1 : goal.returns-then-x-lt1
returns-then-x-lt1 c = search (rules, index-low)

pub returns-then-w-x : goal.returns-then-w-x
returns-then-w-x c = search (rules, index-high)

pub overflow_cast-x : goal.overflow_cast-x
overflow_cast-x c =
    let value = c.is_value in
    let told = c.if-is_value.true in
    let some = c.if-x-lt1.false in
    index-cast c.args.values.now c.args.base c.args.w c.args.x c.requires.0 c.requires.1 c.requires.2 c.ranges.x value.result value.ensures told some (search rules) c.if-w-x.false

pub overflow_sub-x : goal.overflow_sub-x
overflow_sub-x c = search (rules, index-some)

pub overflow_add-cell : goal.overflow_add-cell
overflow_add-cell c =
    let value = c.is_value in
    let told = c.if-is_value.true in
    let some = c.if-x-lt1.false in
    omega (arith, index-inside c.args.values.now c.args.base c.args.w c.args.x c.requires.0 c.requires.1 c.requires.2 c.ranges.x value.result value.ensures told some (search rules) c.if-w-x.false c.cell.result c.cell.ensures)

pub load-requires : goal.load-requires
load-requires c = search (rules, index-inside)

pub returns-then-is_value : goal.returns-then-is_value
returns-then-is_value c = search (rules, index-done)

pub returns : goal.returns
returns c = search (rules, index-error)
