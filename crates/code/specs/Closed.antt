-- Where the steps of a routine lead: to steps of the same routine.
use Rattle.std.specs.Prelude.{◌≡◌, Bool, true, false, List, [], ◌∷◌, ℕ, ◌+◌, ◌<◌, ◌≤◌, eqb, ℤ}
use Rattle.std.proofs.Math.Option.{some}
use Rattle.paper.specs.Terms.{Term}
use Rattle.laws.specs.Options.{WhereSome}
use Rattle.paper.specs.Steps.{Action, parts_of, Step, Code}
use Rattle.code.specs.Steps.{parts}

-- every step of a list
pub data Every (A : Step → Type 0) : List Step → Type 0 where
  done : Every A []
  also : {s : Step} {r : List Step} → A s → Every A r → Every A (s ∷ r)

unfoldable pub is_named : List Step → ℕ → Bool
is_named [] n = false
is_named (s ∷ r) n = elim (eqb s.name n) [ true ↦ true | false ↦ is_named r n ]

-- all of these are names of steps
unfoldable pub Named : List Step → List ℕ → Type 0
Named S [] = Unit {0}
Named S (n ∷ r) = (is_named S n ≡ true) × Named S r

abbrev pub where_of : Term × ℕ → ℕ
where_of c = c.1

abbrev pub case_of : List ℤ × ℕ → ℕ
case_of c = c.1

-- the steps that an action can go on with, but for the one after its statement
unfoldable pub targets_of : Action → List ℕ
targets_of a = (parts_of a).ways

-- A step goes on inside a table.
abbrev pub GoesOn : List Step → Step → Type 0
GoesOn S s = Named S (s.after ∷ targets_of s.does)

pub record Closed (c : Code) : Type 0 where
  pub starts : is_named c.steps c.start ≡ true
  pub handles : (h : ℕ) → c.handler ≡ some h → is_named c.steps h ≡ true
  pub undoes : (u : ℕ) → c.undo ≡ some u → is_named c.steps u ≡ true
  pub goes-on : Every (GoesOn c.steps) c.steps

-- A step's name is the index of a word, and not of the first, which is MODULE, nor of the last, which is ENDMODULE.
abbrev pub SmallName : Step → Type 0
SmallName s = (0 < s.name) × (s.name + 1 < parts)

-- A FOR owns a word behind its routine's parameters and data, which are so many.
unfoldable pub LoopFits : (words : ℕ) → Action → Type 0
LoopFits n a = WhereSome (λ k. n ≤ k) (parts_of a).variable

abbrev pub OwnLoop : (words : ℕ) → Step → Type 0
OwnLoop n s = LoopFits n s.does
