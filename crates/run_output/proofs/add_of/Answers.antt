use mathlib.Core.Path.{◌∙◌}
use lib.ListN.{length-set}
use Rattle.run_output.proofs.Lines.{of-string, of-fits, of-fits-first, of_number, of-takes, of_room, of-done}
use borrow.Author.Rules.{rules}
use Rattle.run_output.proofs.add_of.Goals as goal

pub string-e-requires : goal.string-e-requires
string-e-requires c = search (rules, of-string)

pub number-requires : goal.number-requires
number-requires c = search (rules, of_number, of-takes)

pub overflow_add-out : goal.overflow_add-out
overflow_add-out c = search (rules, of-fits-first)

pub bounds-out-e : goal.bounds-out-e
bounds-out-e c = search (rules, of_room)

pub overflow_add-e : goal.overflow_add-e
overflow_add-e c = search (rules, of-fits-first)

pub overflow_add-e-2 : goal.overflow_add-e-2
overflow_add-e-2 c = search (rules, of-fits)

pub shape_of-out : goal.shape_of-out
shape_of-out c =
    simp length-set (c.number.auto.out ∙ c.string-e.auto.out)

pub returns : goal.returns
returns c =
    of-done _ _ _ _ _ _ c.ranges.v c.requires.1 _ c.count_at.ensures _ _ c.string-e.ensures _ c.requires.2 _
    c.number.ensures _ c.set_count.ensures
