use borrow.Author.Rules.{rules}
use Rattle.check_compounds.proofs.CaseLinks.{link-begins, link-room, link-long, link-next, link-ends, link-goes, link-less}
use mathlib.Core.Path.{refl}
use native.Mathlib.Omega.{arith}
use Rattle.check_compounds.proofs.link_values.Goals as goal

pub loop-code-init : goal.loop-code-init
loop-code-init c = search (rules, link-begins)

pub overflow_mul-w : goal.overflow_mul-w
overflow_mul-w c = omega (arith, link-room _ _ _ _ _ _ c.loop-code.invariant c.requires.0)

pub get-h-requires : goal.get-h-requires
get-h-requires c = omega (arith, link-room _ _ _ _ _ _ c.loop-code.invariant c.requires.0)

pub overflow_mul-w-in-loop-code : goal.overflow_mul-w-in-loop-code
overflow_mul-w-in-loop-code c =
    omega (arith, link-room _ _ _ _ _ _ c.loop-code.invariant c.requires.0)

pub overflow_add-w : goal.overflow_add-w
overflow_add-w c =
    omega (arith, link-room _ _ _ _ _ _ c.loop-code.invariant c.requires.0)

pub get-requires : goal.get-requires
get-requires c =
    omega (arith, link-room _ _ _ _ _ _ c.loop-code.invariant c.requires.0)

pub overflow_add-colon : goal.overflow_add-colon
overflow_add-colon c =
    omega (arith, c.requires.0.last)

pub rewrite-requires : goal.rewrite-requires
rewrite-requires c =
    (omega (arith, link-room _ _ _ _ _ _ c.loop-code.invariant c.requires.0), omega (arith, c.requires.0.last), omega (arith, c.requires.1))

pub shape_of-code-then-n-colon : goal.shape_of-code-then-n-colon
shape_of-code-then-n-colon c =
    let z = link-long _ _ _ _ _ _ c.loop-code.invariant in search rules

pub returns-then-n-colon : goal.returns-then-n-colon
returns-then-n-colon c =
    link-ends _ _ _ _ _ _ c.loop-code.invariant _ _ _ c.get-h.ensures c.get.ensures refl c.if-n-colon.true _
    c.rewrite.ensures c.requires.0

pub overflow_add-colon-in-loop-code : goal.overflow_add-colon-in-loop-code
overflow_add-colon-in-loop-code c =
    omega (arith, c.requires.0.last)

pub rewrite-requires-in-loop-code : goal.rewrite-requires-in-loop-code
rewrite-requires-in-loop-code c = (
  omega (arith, link-room _ _ _ _ _ _ c.loop-code.invariant c.requires.0),
  omega (arith, c.requires.0.last),
  omega (
    arith,
    c.requires.0.last,
    link-next
        _ _ _ _ _ _ c.loop-code.invariant _ _ _ c.get-h.ensures c.get.ensures refl c.requires.0 c.if-n-colon.false,
  ),
)

pub loop-code-smaller : goal.loop-code-smaller
loop-code-smaller c =
    link-less _ _ _ _ _ _ c.loop-code.invariant _ _ _ c.get-h.ensures c.get.ensures refl c.if-n-colon.false c.requires.0 _
    c.rewrite-in-loop-code.ensures

pub loop-code-preserved : goal.loop-code-preserved
loop-code-preserved c =
    link-goes _ _ _ _ _ _ c.loop-code.invariant _ _ _ c.get-h.ensures c.get.ensures refl c.if-n-colon.false c.requires.0 _
    c.rewrite-in-loop-code.ensures
