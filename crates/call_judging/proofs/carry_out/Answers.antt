use Rattle.call_judging.proofs.CarriedOut.{starts, settles, carried}
use Rattle.call_judging.proofs.carry_out.Goals as goal

pub run_words-e-requires : goal.run_words-e-requires
run_words-e-requires c =
    starts c.requires

pub settle-requires : goal.settle-requires
settle-requires c =
    settles c.requires c.run_words-e.ensures

pub returns : goal.returns
returns c =
    carried c.requires c.run_words-e.ensures _ c.number.ensures c.settle.ensures
