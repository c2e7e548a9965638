use Rattle.call_class.specs.Classes.{lent}
use Rattle.call_class.proofs.Modules.{Going}
use Rattle.call_class.proofs.carry_class.Given as goal

abbrev pub invariant-loop-i : goal.invariant-loop-i
invariant-loop-i l =
    Going (lent l.texts l.lengths l.steps l.depth l.inputs l.initial.out l.initial.code l.initial.values l.initial.records l.initial.kept) l.at l.i l.out l.code l.values l.records l.kept
