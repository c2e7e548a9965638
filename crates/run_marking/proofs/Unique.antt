-- What is told is one thing alone; what the stores hold is settled as it is of a run (`run-unique` in crate unique), whose promise is a part of this one.
use mathlib.Core.Path.{◌≡◌, refl, sym, ◌∙◌}
use mathlib.Core.List.{List, map}
use Prim.Native.Nat.{ℕ}
use lib.ListN.{length}
use mir.Syntax.{w32}
use mir.Val.{to_z}
use Rattle.paper.specs.States.{Rooms}
use Rattle.store_cells.specs.Cells.{cells_of}
use Rattle.layout.proofs.EndingNumbers.{same-ending}
use Rattle.run_machine.specs.Machine.{Lends}
use Rattle.run_whole.specs.declared.Abort.TheVariants.{Never}
use Rattle.run_whole.specs.Runs.{Begins, Ran}
use Rattle.run_marking.specs.declared.Marked.{Marked}
use Rattle.run_marking.specs.Beside.{ended_of, marking_of, RanBeside}

pub record OneMark (text code values a b inputs out o p : List ℕ) (h steps depth : ℕ) (r s : Marked) : Type 0 where
  pub ending : r.ending ≡ s.ending
  pub place : r.place ≡ s.place
  pub made : r.made ≡ s.made
  pub told : marking_of r ≡ marking_of s
  -- both are runs of which `run-unique` speaks
  pub one : Ran text code values a inputs out o h steps depth Never (ended_of r)
  pub other : Ran text code values b inputs out p h steps depth Never (ended_of s)

pub mark-unique : {text code values a b inputs out o p listing : List ℕ} {h steps depth : ℕ} {r s : Marked} → Begins text code values h depth
    → RanBeside text code values a inputs out o listing h steps depth r → RanBeside text code values b inputs out p listing h steps depth s
    → OneMark text code values a b inputs out o p h steps depth r s
mark-unique {inputs = inputs} {out = out} {depth = depth} {r = r} {s = s} g x y =
    let rooms : Rooms = record { depth = depth; output = length out; inputs = map (to_z w32) (cells_of inputs) } in
    let lends : Lends rooms inputs out = record { room = refl; reads = refl } in
    let c = x.ran.is g rooms refl lends in
    let d = y.ran.is g rooms refl lends in
    record {
      ending = same-ending r.ending s.ending (c.ending ∙ sym d.ending);
      place = c.place ∙ sym d.place;
      made = c.made ∙ sym d.made;
      told = sym (x.told g rooms refl lends) ∙ y.told g rooms refl lends;
      one = x.ran;
      other = y.ran;
    }
