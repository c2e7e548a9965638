use borrow.Author.Rules.{rules}
use native.Mathlib.Omega.{arith}
use Rattle.check_routines.proofs.Leaves.{first_small, closed}
use Rattle.check_routines.proofs.close.Goals as goal

pub rewrite-requires : goal.rewrite-requires
rewrite-requires c =
    let x = c.requires in (
      omega (arith, x.0, x.1, x.2, x.4, c.code-3-1.given, c.code-2-1.given, c.code-1.given),
      first_small _ _ (omega (arith, x.2, x.3)) _ c.first_behind-undo.ensures,
      first_small _ _ (omega (arith, x.1, x.2, x.3)) _ c.first_behind-handler.ensures,
    )

pub returns : goal.returns
returns c = search (rules, closed)
