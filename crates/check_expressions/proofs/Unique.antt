-- What the promises allow: one answer. (What stands in the cells may differ in what no term needs, so nothing is said of it.)
use mathlib.Core.Path.{◌≡◌, sym, ap, ap₂, ◌∙◌}
use mathlib.Core.Bool.{Bool}
use mathlib.Core.List.{List, [], ◌∷◌}
use mathlib.Core.Option.{some}
use Prim.Native.Nat.{ℕ}
use Rattle.laws.proofs.Tests.{apart}
use Rattle.paper.specs.Expressions.{disjunctions}
use Rattle.paper.specs.Names.{DataType}
use Rattle.paper.specs.Types.{Fault}
use Rattle.layout.specs.Types.{type_in, type_said}
use Rattle.layout.proofs.Typing.{type-injective}
use Rattle.layout.specs.declared.types.ValueType.{ValueType}
use Rattle.paper.specs.Types as types
use Rattle.check_expressions.specs.Judgements.{Judged}
use Rattle.std.specs.Prelude.{Ok, Err}
use Rattle.layout.specs.Broken.{as_fault}
use Rattle.layout.specs.declared.rules.Breach.{Breach}
use Rattle.layout.specs.declared.rules.Rule.{Rule}
use Rattle.layout.proofs.RuleNumbers.{number-injective}
use Rattle.check_expressions.specs.Answers.{SaysUnder, Stands, Checked, OfType, Typed}

-- breaches that are one fault are one
pub same_breaches : (a b : Breach) → as_fault a ≡ as_fault b → a ≡ b
same_breaches a b e =
    ap₂ (λ (rule : Rule) (word : ℕ). record { rule = rule; word = word }) (number-injective a.rule b.rule (ap (λ (f : Fault). f.number) e)) (ap (λ (f : Fault). f.at) e)

no-faults : {A : Type 0} (l : List Fault) (f : Fault) (others : List Fault) → l ≡ [] → l ≡ f ∷ others → A
no-faults l f others e q = apart (cc)

same-faults : (l : List Fault) (f g : Fault) (a b : List Fault) → l ≡ f ∷ a → l ≡ g ∷ b → f ≡ g
same-faults l f g a b e q = cc

-- two answers that say what is judged are the same
says-unique : (d m n : ℕ) (C D : List ℕ) (at to : ℕ) (j : types.Judged) (r s : Judged) → SaysUnder d m n C at to j r → SaysUnder d m n D at to j s → r ≡ s
unfolding SaysUnder
says-unique d m n C D at to j (Ok (a, x)) (Ok (b, y)) p q =
    ap₂ (λ (type : ValueType) (next : ℕ). Ok (type, next)) (type-injective a b (p.type-is ∙ sym q.type-is)) (p.next-is ∙ sym q.next-is)
says-unique d m n C D at to j (Ok (a, x)) (Err f) p q = no-faults j.faults (as_fault f) q.others p.none q.faults-are
says-unique d m n C D at to j (Err f) (Ok (b, y)) p q = no-faults j.faults (as_fault f) p.others q.none p.faults-are
says-unique d m n C D at to j (Err f) (Err g) p q =
    ap Err (same_breaches f g (same-faults j.faults (as_fault f) (as_fault g) p.others q.others p.faults-are q.faults-are))

pub expression-unique : (code values c d : List ℕ) (only : Bool) (top at : ℕ) (r s : Judged) → Stands code values top at → Checked code values c only top at r → Checked code values d only top at s → r ≡ s
expression-unique code values c d only top at r s k p q = says-unique _ _ _ _ _ _ _ _ r s (p.is k).says (q.is k).says

pub of-type-unique : (code values c d : List ℕ) (only : Bool) (wants at : ℕ) (t : DataType) (r s : Judged) → type_said wants ≡ some t → Stands code values disjunctions at → OfType code values c only wants at r → OfType code values d only wants at s → r ≡ s
of-type-unique code values c d only wants at t r s w k p q = says-unique _ _ _ _ _ _ _ _ r s (p.is k t w).says (q.is k t w).says

pub typed-unique : (code values c d : List ℕ) (only : Bool) (wants : ValueType) (at : ℕ) (t : DataType) (r s : Judged) → type_in wants ≡ t → Stands code values disjunctions at → Typed code values c only wants at r → Typed code values d only wants at s → r ≡ s
typed-unique code values c d only wants at t r s w k p q = says-unique _ _ _ _ _ _ _ _ r s (p.is k t w).says (q.is k t w).says
