-- What the check of an expression answers.
use Rattle.layout.specs.declared.types.ValueType.{ValueType}
use Rattle.std.specs.Prelude.{ℕ, Result}
use Rattle.layout.specs.declared.rules.Breach.{Breach}

-- its type, and the word after it; or the rule broken, and its word
abbrev pub Judged : Type 0
Judged = Result (ValueType × ℕ) Breach
