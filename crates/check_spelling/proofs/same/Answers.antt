use native.Mathlib.Omega.{arith}
use Rattle.check_spelling.proofs.Letters.{lengths_differ, agrees-end, agrees-not, agrees_on}
use Rattle.check_spelling.proofs.Fronts.{agrees-fours}
use borrow.Author.Rules.{rules}
use Rattle.check_spelling.proofs.same.Goals as goal

pub returns-then-a-b : goal.returns-then-a-b
returns-then-a-b c = search (rules, lengths_differ)

pub loop-i-init : goal.loop-i-init
loop-i-init c =
    agrees-fours c.args.a.now c.args.b.now c.fours-i.result (λ i. omega (arith, c.shared_slice_known-1.given i)) (λ i. omega (arith, c.shared_slice_known-2-1.given i)) c.if-a-b.false c.fours-i.ensures

pub returns-then-not-alike : goal.returns-then-not-alike
returns-then-not-alike c = search (rules, agrees-not)

pub loop-i-preserved : goal.loop-i-preserved
loop-i-preserved c = search (rules, agrees_on)

pub returns : goal.returns
returns c = search (rules, agrees-end)
