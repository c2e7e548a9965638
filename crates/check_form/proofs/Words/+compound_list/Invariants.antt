use mathlib.Core.Path.{◌≡◌}
use Prim.Native.Nat.{suc, ◌+◌, ◌*◌, ◌-◌}
use Rattle.check_form.specs.Places.{sorts_in, list_below}
use Rattle.check_form.proofs.Compounds.{room, Resumes}
use Rattle.check_form.proofs.Words.+compound_list.Given as goal

abbrev pub decreases-compound : goal.decreases-compound
decreases-compound l = l.deeper * 2

abbrev pub decreases-list : goal.decreases-list
decreases-list l = l.deeper * 2 + 1

abbrev pub invariant-compound-loop-part : goal.invariant-compound-loop-part
invariant-compound-loop-part l = Resumes l.self.code.now l.self.count l.deeper l.at l.part

abbrev pub decreases-compound-loop-part : goal.decreases-compound-loop-part
decreases-compound-loop-part l = room l.self.count l.part

abbrev pub invariant-list-loop-n : goal.invariant-list-loop-n
invariant-list-loop-n l =
    list_below (sorts_in l.self.code.now l.self.count) (suc l.deeper) l.at ≡ list_below (sorts_in l.self.code.now l.self.count) (suc l.deeper) l.n

abbrev pub decreases-list-loop-n : goal.decreases-list-loop-n
decreases-list-loop-n l = l.self.count - l.n
