-- What the comparison of two types tells.
use mathlib.Core.Path.{◌≡◌, sym}
use mathlib.Core.Bool.{true, false, not}
use borrow.Author.Rules.{rules}
use denote.Enum.Bare.{sameb, differs_true, differs_false}
use Rattle.layout.specs.contracts.types.ValueType.{the_type}
use Rattle.layout.specs.declared.types.ValueType.{ValueType}

module _ (a b : ValueType) where
  pub told-apart : true ≡ not (sameb the_type a b) → a ≡ b → ⊥
  told-apart e = differs_true the_type a b (sym e)

  pub told-same : false ≡ not (sameb the_type a b) → a ≡ b
  told-same e = differs_false the_type (search rules) a b (sym e)
