use Rattle.run_output.proofs.TPReadNum.{Asking, Asked, asking-by, read-in, read_next, read-sum, read-sum-7, read_answer, read-answer-7, read-target, read-fails, read-lacks, read_none, read-adds, read-cast, read-takes, read_out, read_done}
use borrow.Author.Rules.{rules}
use Rattle.run_output.proofs.read.Goals as goal
use Rattle.run_output.proofs.read.Goals.{After-characters, After-add}

-- what is known where the room for the line is tested
abbrev asking : After-characters → Asking
asking c =
    asking-by _ _ _ c.args.inputs.now _ _ _ _ c.requires.0 c.requires.1 _ record { sfits = c.target_cell-k.type_inv } c.target_cell-k.ensures
    c.if-k-ge-FIRST_ERROR.false _ c.count_at.ensures _ c.characters.ensures.0

-- and once the line is added
abbrev asked : After-add → Asked
asked c = record {
  asking =
      asking-by _ _ _ c.args.inputs.now _ _ _ _ c.requires.0 c.requires.1 _ record { sfits = c.target_cell-k.type_inv } c.target_cell-k.ensures
      c.if-k-ge-FIRST_ERROR.false _ c.count_at.ensures _ c.characters.ensures.0;
  room = c.if-out-count_at.false;
  used = _;
  used-is = c.count_at-used.ensures;
  more = c.if-inputs-used.false;
  mid = _;
  out' = _;
  added = c.add.ensures;
}

pub overflow_add-i : goal.overflow_add-i
overflow_add-i c = search (rules, read_next)

pub target_cell-k-requires : goal.target_cell-k-requires
target_cell-k-requires c =
    read-target _ _ _ _ _ _ _ c.requires.0 c.requires.1

pub returns-then-k-ge-FIRST_ERROR : goal.returns-then-k-ge-FIRST_ERROR
returns-then-k-ge-FIRST_ERROR c =
    read-fails _ _ _ _ _ _ _ c.requires.0 c.requires.1 _ _ record { sfits = c.target_cell-k.type_inv } c.target_cell-k.ensures
    c.if-k-ge-FIRST_ERROR.true

pub overflow_add-result : goal.overflow_add-result
overflow_add-result c = search (rules, read-sum)

pub overflow_cast-result : goal.overflow_cast-result
overflow_cast-result c = search (rules, read_answer)

pub returns-then-out-count_at : goal.returns-then-out-count_at
returns-then-out-count_at c = read-lacks (asking (goal.at.returns-then-out-count_at c).After-characters) c.if-out-count_at.true

pub overflow_add-result-then-inputs-used : goal.overflow_add-result-then-inputs-used
overflow_add-result-then-inputs-used c = search (rules, read-sum-7)

pub overflow_cast-result-then-inputs-used : goal.overflow_cast-result-then-inputs-used
overflow_cast-result-then-inputs-used c = search (rules, read-answer-7)

pub returns-then-inputs-used : goal.returns-then-inputs-used
returns-then-inputs-used c = read_none (asking (goal.at.returns-then-inputs-used c).After-characters) c.if-out-count_at.false _ c.count_at-used.ensures c.if-inputs-used.true

pub add-requires : goal.add-requires
add-requires c = read-adds (asking (goal.at.add-requires c).After-characters) c.if-out-count_at.false _ c.count_at-used.ensures

pub overflow_cast-k : goal.overflow_cast-k
overflow_cast-k c = read-cast (asked (goal.at.overflow_cast-k c).After-add)

pub take-requires : goal.take-requires
take-requires c = read-takes (asked (goal.at.take-requires c).After-add)

pub link-requires : goal.link-requires
link-requires c = search (rules, read-in)

pub returns-then-take : goal.returns-then-take
returns-then-take c = read_done (asked (goal.at.returns-then-take c).After-add) _ _ c.take.ensures c.if-take.true _ c.link.ensures.same

pub returns : goal.returns
returns c = read_out (asked (goal.at.returns c).After-add) _ _ c.take.ensures c.if-take.false
