use mathlib.Core.Path.{refl, sym, ap, ◌∙◌}
use mathlib.Core.List.{[]}
use Rattle.call_class.proofs.Whole.{class-small, class-accepts, class-empties, class-taken, class-refused, small-alone, some-number}
use Rattle.call_class.specs.Parts.{number_of}
use Rattle.call_class.proofs.rapid_class.Goals as goal

pub carry_class-requires : goal.carry_class-requires
carry_class-requires c = class-accepts _ _ _ _ _ _ _ _ _ _ _ c.in-Ok.ensures refl

pub empty-requires : goal.empty-requires
empty-requires c = class-empties _ _ 0 _ [] [] _ _ _ _ _ c.in-Ok.ensures (λ e. cc) _ _ c.carry_class.auto.code c.carry_class.auto.values

pub returns-in-Ok : goal.returns-in-Ok
returns-in-Ok c = class-taken _ _ _ _ _ _ _ _ _ _ _ c.in-Ok.ensures refl _ _ _ _ _ _ _ c.carry_class.ensures c.empty.ensures

pub empty-requires-in_default : goal.empty-requires-in_default
empty-requires-in_default c = class-empties _ _ 0 _ [] [] _ _ _ _ _ c.in-Err.ensures (λ e. c.in_default.not-SmallStore (small-alone _ e)) _ _ refl refl

pub returns-in-SmallStore : goal.returns-in-SmallStore
returns-in-SmallStore c = class-small _ _ _ _ _ _ _ _ _ _ _ (c.number.ensures ∙ c.in-Err.ensures) (c.number.ensures ∙ ap number_of c.in-SmallStore.is)

pub returns-in_default : goal.returns-in_default
returns-in_default c =
    class-refused _ _ _ _ _ _ _ _ _ _ _ (c.number-in_default.ensures ∙ c.in-Err.ensures)
    (λ e. c.in_default.not-SmallStore (small-alone _ (sym c.number-in_default.ensures ∙ e)))
    (λ e. some-number _ (sym c.number-in_default.ensures ∙ e)) _ _ c.empty-in_default.ensures
