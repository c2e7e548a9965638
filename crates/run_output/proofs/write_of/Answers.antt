use Rattle.run_machine.proofs.Current.{stores-here}
use Rattle.run_output.proofs.TPWriteNumber.{of-in, of-next, of-from, of-sum, of-answer, of-stands, of-short, of-fails, of-lacks, of-adds, of-done}
use borrow.Author.Rules.{rules}
use Rattle.run_output.proofs.write_of.Goals as goal

pub overflow_add-i : goal.overflow_add-i
overflow_add-i c = search (rules, of-from)

pub worth-v-requires : goal.worth-v-requires
worth-v-requires c =
    (stores-here _ _ _ _ c.requires.0.here, of-stands _ _ _ _ _ _ _ c.requires.0 c.requires.1)

pub returns-then-v-ge-FIRST_ERROR : goal.returns-then-v-ge-FIRST_ERROR
returns-then-v-ge-FIRST_ERROR c =
    of-fails _ _ _ _ _ _ _ c.requires.0 c.requires.1 _ record { sfits = c.worth-v.type_inv } c.worth-v.ensures c.if-v-ge-FIRST_ERROR.true

pub overflow_add-i-2 : goal.overflow_add-i-2
overflow_add-i-2 c = search (rules, of-next)

pub overflow_add-characters : goal.overflow_add-characters
overflow_add-characters c = record { fits = of-short _ _ _ c.characters.ensures.1 c.number_length-n.ensures }

pub overflow_add-result : goal.overflow_add-result
overflow_add-result c = search (rules, of-sum)

pub overflow_cast-result : goal.overflow_cast-result
overflow_cast-result c = search (rules, of-answer)

pub returns-then-out-count_at : goal.returns-then-out-count_at
returns-then-out-count_at c =
    of-lacks _ _ _ _ _ _ _ c.requires.0 c.requires.1 _ record { sfits = c.worth-v.type_inv } c.worth-v.ensures c.if-v-ge-FIRST_ERROR.false _
    c.number_length-n.ensures _ c.count_at.ensures _ c.characters.ensures.0
    c.if-out-count_at.true

pub overflow_add-i-3 : goal.overflow_add-i-3
overflow_add-i-3 c = search (rules, of-next)

pub add_of-requires : goal.add_of-requires
add_of-requires c =
    of-adds _ _ _ _ _ _ _ c.requires.0 c.requires.1 _ record { sfits = c.worth-v.type_inv } c.worth-v.ensures c.if-v-ge-FIRST_ERROR.false _
    c.number_length-n.ensures _ c.count_at.ensures _
    c.characters.ensures.0 c.if-out-count_at.false

pub link-requires : goal.link-requires
link-requires c = search (rules, of-in)

pub returns : goal.returns
returns c =
    of-done _ _ _ _ _ _ _ c.requires.0 c.requires.1 _ record { sfits = c.worth-v.type_inv } c.worth-v.ensures c.if-v-ge-FIRST_ERROR.false _
    c.number_length-n.ensures _ c.count_at.ensures _ c.characters.ensures.0 c.if-out-count_at.false _ _
    c.add_of.ensures _ c.link.ensures.same
