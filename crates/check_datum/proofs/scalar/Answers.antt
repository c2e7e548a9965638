use borrow.Author.Rules.{rules}
use mathlib.Core.Path.{ap, ◌∙◌}
use native.Mathlib.Omega.{arith}
use Rattle.check_datum.specs.Parts.{scalar_kind}
use Rattle.check_datum.proofs.Scalars.{kind-low, scalar_crosses, scalar-plain, made-used, made-grown}
use Rattle.check_datum.proofs.scalar.Goals as goal

pub returns-then-site-used : goal.returns-then-site-used
returns-then-site-used c = search (rules, scalar_crosses)

pub known-filled-requires : goal.known-filled-requires
known-filled-requires c = (search rules, search rules, search rules, search (rules, kind-low), search rules, search rules, search rules)

pub overflow_add-result-then-sort-ne-BECOMES : goal.overflow_add-result-then-sort-ne-BECOMES
overflow_add-result-then-sort-ne-BECOMES c =
    omega (arith, c.requires.1)

pub returns-then-sort-ne-BECOMES : goal.returns-then-sort-ne-BECOMES
returns-then-sort-ne-BECOMES c = search (rules, scalar-plain, made-used, made-grown)

pub initial-requires : goal.initial-requires
initial-requires c =
    (search rules, search rules, record { kind-is = c.scalar_kind-kind.ensures ∙ ap scalar_kind c.sort.ensures; becomes-is = search rules; fits = search rules })

pub returns : goal.returns
returns c = (c.initial.ensures.0, c.initial.ensures.1)
