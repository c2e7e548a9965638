-- Changes of lists that promises speak of.
use Rattle.std.specs.Prelude.{List, ◌++◌, ℕ, ◌+◌, take, drop}

-- What l becomes when the n elements from a on are replaced by m, of n elements: every other one stays.
abbrev pub replaced : {A : Type 0} → List A → ℕ → List A → ℕ → List A
replaced l a m n = take a l ++ m ++ drop (a + n) l
