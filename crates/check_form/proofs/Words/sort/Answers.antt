use native.Mathlib.Omega.{arith}
use Rattle.check_form.proofs.Reading.{sort-in, sort-past}
use Rattle.check_form.proofs.Words.sort.Goals as goal

pub returns-then-at-self : goal.returns-then-at-self
returns-then-at-self c = record { value = sort-in _ _ _ _ c.if-at-self.true c.get.ensures; within = λ h. c.if-at-self.true }

pub returns : goal.returns
returns c = record { value = sort-past _ _ _ c.if-at-self.false; within = λ h. absurd (omega (arith, h)) }
