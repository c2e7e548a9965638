-- Whose data a name means, and when the names of a scope are told by what they mean.
use Rattle.std.specs.Prelude.{◌≡◌, Bool, false, map, ℕ, eqb, if◌then◌else◌}
use Rattle.paper.specs.Terms.{Ref, of_module, of_routine}
use Rattle.paper.specs.Names.{Meaning, Text, Names, text_of, Scopes, is_among, meaning}
use Rattle.check_names.specs.Meanings.{is_protected}
use Rattle.check_expressions.specs.Known.{nothing, words, number, held_by}

-- A word of the module, if own is 0, or of the routine.
unfoldable pub is_own : (own : ℕ) → Ref → Bool
is_own own (of_module k) = eqb own 0
is_own own (of_routine k) = eqb own 1

-- Data of the module, or parameters and data of the routine; a FOR's word is neither.
unfoldable pub owned : (own : ℕ) → Meaning → Bool
owned own a = elim (held_by a) [ nothing ↦ false | words w ↦ if w.declared then is_own own w.first else false | number k ↦ false ]

-- The names of a scope are those, of all that are not protected, that mean its data.
pub record Owns (own : ℕ) (N : Names) (S : Scopes) : Type 0 where
  pub is : (text : Text) → is_protected text ≡ false → is_among (map text_of N) text ≡ owned own (meaning S text)
