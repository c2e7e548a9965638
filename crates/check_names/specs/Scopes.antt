-- What the methods of a scope promise: its new state, and what the lent cells say of its names.
use Rattle.std.specs.Prelude.{◌≡◌, List, ℕ, ◌+◌, ◌<◌, ◌≤◌, Result, Ok, Err}
use Rattle.check_names.specs.declared.Scope.{Scope}
use Rattle.layout.specs.declared.rules.Breach.{Breach}
use Rattle.check_names.specs.Meanings.{a_loop, cell_with}
use Rattle.check_names.specs.Promises.{Declared, Left}

-- ---- states
abbrev pub module_scope : Scope
module_scope = record { used = 0; loops = 0; names = 0; first = 0; head = 0 }

-- A routine's: nothing is used and nothing opened, and the loops around are those around the module.
abbrev pub routine_scope : (outer : Scope) (first head : ℕ) → Scope
routine_scope outer first head = record { used = 0; loops = outer.loops; names = 0; first = first; head = head }

-- The body of the FOR at word i: one word more is used, one loop more is around, and the name behind that word is opened.
abbrev pub loop_scope : (outer : Scope) (i : ℕ) → Scope
loop_scope outer i = record { used = outer.used + 1; loops = outer.loops + 1; names = 1; first = i; head = 0 }

-- so many words are used, and all else is as it was
abbrev pub with_used : (used : ℕ) → Scope → Scope
with_used used s = record { used = used; loops = s.loops; names = s.names; first = s.first; head = s.head }

-- one parameter more is opened
abbrev pub with_parameter : Scope → Scope
with_parameter s = record { used = s.used; loops = s.loops; names = s.names + 1; first = s.first; head = s.head }

-- there is room for so many words more, far below what a cell's value can count
abbrev pub Fits : Scope → (words : ℕ) → Type 0
Fits s words = s.used + words < 16777216

-- each loop around has a word
abbrev pub EachHasWord : Scope → Type 0
EachHasWord s = s.loops ≤ s.used

-- ---- methods
pub record Declares (s : Scope) (code values : List ℕ) (i m words : ℕ) (code' values' : List ℕ) (r : Scope) : Type 0 where
  pub known : Declared code values i m code' values'
  pub scope-is : r ≡ with_used (s.used + words) s

-- a FOR's variable is the next word of its routine
pub record Enters (s : Scope) (code values : List ℕ) (i : ℕ) (code' values' : List ℕ) (r : Scope) : Type 0 where
  pub known : Declared code values (i + 1) (cell_with a_loop 0 1 s.used) code' values'
  pub scope-is : r ≡ loop_scope s i

-- The name that scope s opened means what it did outside, and the scope is the outer one; words are not used again.
pub record Leaves (s outer : Scope) (code values values' : List ℕ) (r : Scope) : Type 0 where
  pub known : Left code values (s.first + 1) values'
  pub scope-is : r ≡ with_used s.used outer

-- ---- walks
-- the word after what a walk walked over, and the scope with what is declared; or the rule broken, and its word
abbrev pub Walked : Type 0
Walked = Result (ℕ × Scope) Breach

-- r is scope s with more words used.
pub record Grown (s r : Scope) : Type 0 where
  pub more : s.used ≤ r.used
  pub rest : r ≡ with_used r.used s

-- A walk hands back the scope that went in, with more words used.
abbrev pub Stays : Scope → Walked → Type 0
Stays s (Ok (next, r)) = Grown s r
Stays s (Err broken) = Unit {0}

-- A walk over a whole routine hands back the scope that went in.
abbrev pub BackTo : Scope → Walked → Type 0
BackTo s (Ok (next, r)) = r ≡ s
BackTo s (Err broken) = Unit {0}

-- s is the scope of a routine that was entered from the outer one: its parameters stand from the word `first` on, and the word `head` leads to its data.
pub record OfRoutine (outer : Scope) (first head : ℕ) (s : Scope) : Type 0 where
  pub around : s.loops ≡ outer.loops
  pub begins : s.first ≡ first
  pub leads : s.head ≡ head
