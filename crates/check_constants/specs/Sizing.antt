-- What the check of a constant expression answers.
use Rattle.std.specs.Prelude.{ℕ, ℤ, Result}
use Rattle.layout.specs.declared.rules.Breach.{Breach}

-- its value, and the word after it; or the rule broken, and its word
abbrev pub Valued : Type 0
Valued = Result (ℤ × ℕ) Breach

-- how many elements an array has, and the word after its size; or the rule broken, and its word
abbrev pub Sized : Type 0
Sized = Result (ℕ × ℕ) Breach
