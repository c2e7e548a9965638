-- An ending is told by its number, and those of a step that is made come first.
use mathlib.Core.Path.{◌≡◌, refl, sym, ap, ◌∙◌}
use mathlib.Core.Bool.{true, false}
use Prim.Native.Nat.{ℕ, ◌≤◌}
use lib.Dec.{eqb}
use native.Mathlib.Omega.{arith}
use Rattle.std.specs.Prelude.{if◌then◌else◌}
use Rattle.layout.specs.declared.endings.Ending.{Ending}
use Rattle.layout.specs.declared.endings.Ending.TheVariants.{MainReturned, Exited, Unhandled, FellOff, StepsSpent, BeyondDepth, NoInput, NoRoom, Aborted, UndoSpent}
use Rattle.layout.specs.Rules.{fell_off}
use Rattle.layout.specs.Endings.{ending_number, ends_step}

abbrev numbered : ℕ → Ending
numbered n = if eqb n 1 then MainReturned else if eqb n 2 then Exited else if eqb n 3 then Unhandled else if eqb n 4 then FellOff else if eqb n 5 then StepsSpent else if eqb n 6 then BeyondDepth else if eqb n 7 then NoInput else if eqb n 8 then NoRoom else if eqb n 9 then Aborted else UndoSpent

by-number : (e : Ending) → numbered (ending_number e) ≡ e
by-number MainReturned = refl
by-number Exited = refl
by-number Unhandled = refl
by-number FellOff = refl
by-number StepsSpent = refl
by-number BeyondDepth = refl
by-number NoInput = refl
by-number NoRoom = refl
by-number Aborted = refl
by-number UndoSpent = refl

pub same-ending : (a b : Ending) → ending_number a ≡ ending_number b → a ≡ b
same-ending a b e = sym (by-number a) ∙ ap numbered e ∙ by-number b

pub step-low : (e : Ending) → ends_step e ≡ true → ending_number e ≤ fell_off
step-low MainReturned t = omega arith
step-low Exited t = omega arith
step-low Unhandled t = omega arith
step-low FellOff t = omega arith
step-low StepsSpent t = cc
step-low BeyondDepth t = cc
step-low NoInput t = cc
step-low NoRoom t = cc
step-low Aborted t = cc
step-low UndoSpent t = cc
