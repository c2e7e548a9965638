use borrow.Author.Rules.{rules}
use mathlib.Core.Path.{refl}
use native.Mathlib.Omega.{arith}
use Rattle.check_expressions.proofs.Leaves.{error-fits, plain-broken, plain-errno, plain-error, plain-loop, plain-data}
use Rattle.check_expressions.proofs.plain.Goals as goal

pub returns-in-Some : goal.returns-in-Some
returns-in-Some c = search (rules, plain-broken)

pub returns-in-6 : goal.returns-in-6
returns-in-6 c = search (rules, plain-errno)

pub set_head-requires-in-7 : goal.set_head-requires-in-7
set_head-requires-in-7 c = search (rules, error-fits)

pub returns-in-7 : goal.returns-in-7
returns-in-7 c = search (rules, plain-error)

pub returns-after-kind-eq-LOOP : goal.returns-after-kind-eq-LOOP
returns-after-kind-eq-LOOP c =
    elim c.if-kind-eq-LOOP.branch [
      | goal.then-kind-eq-LOOP w ↦ rw w.t-is (plain-loop _ _ _ _ _ _ _ c.kind_of-kind.ensures c.in_default.ensures refl _ _ c.own_of.ensures c.value_of-value.ensures c.set_head-in_default-kind.ensures w.if-kind-eq-LOOP.true)
      | goal.else-kind-eq-LOOP w ↦ rw w.t-is (plain-data _ _ _ _ _ _ _ c.kind_of-kind.ensures c.in_default.ensures refl _ _ c.own_of.ensures c.value_of-value.ensures c.set_head-in_default-kind.ensures w.if-kind-eq-LOOP.false (λ z. grind arith) (λ z. grind arith) _ w.type_of-t.ensures)
    ]
