use Rattle.run_output.proofs.Inputs.{take-fits, take-low, take-high, take_in}
use borrow.Author.Rules.{rules}
use Rattle.run_output.proofs.take.Goals as goal

pub overflow_add-used : goal.overflow_add-used
overflow_add-used c = search (rules, take-fits)

pub returns-then-v-lt-LOWEST_NUM : goal.returns-then-v-lt-LOWEST_NUM
returns-then-v-lt-LOWEST_NUM c =
    take-low _ _ _ _ _ c.requires c.set_count.ensures _ record { sfits = c.load-v.type_inv } c.load-v.ensures
    c.if-v-lt-LOWEST_NUM.true

pub returns-then-v-gt-HIGHEST_NUM : goal.returns-then-v-gt-HIGHEST_NUM
returns-then-v-gt-HIGHEST_NUM c =
    take-high _ _ _ _ _ c.requires c.set_count.ensures _ record { sfits = c.load-v.type_inv }
    c.load-v.ensures c.if-v-lt-LOWEST_NUM.false c.if-v-gt-HIGHEST_NUM.true

pub returns : goal.returns
returns c =
    take_in _ _ _ _ _ c.requires c.set_count.ensures _ record { sfits = c.load-v.type_inv } c.load-v.ensures c.if-v-lt-LOWEST_NUM.false
    c.if-v-gt-HIGHEST_NUM.false _ c.put.ensures
