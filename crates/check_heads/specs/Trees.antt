-- What is known of a module before its declarations, by its tree.
use Rattle.std.specs.Prelude.{◌||◌, List, [], ◌∷◌, ℕ, zero, suc, ◌+◌, ◌-◌, eqb, length, if◌then◌else◌}
use Rattle.std.proofs.Math.Option.{none, some}
use Rattle.paper.specs.Words.{Word}
use Rattle.paper.specs.Trees.{Parameter, Routine, Module}
use Rattle.paper.specs.Names.{DataType, refused_piece, type_of, Text, Scopes, spelled, is_among, cannot_declare}
use Rattle.paper.specs.Declarations.{routine_word_limit, Signature, data_texts, routine_names, result_asked}
use Rattle.paper.specs.Checks.{is_some}
use Rattle.code.specs.Steps.{Head}
use Rattle.check_names.specs.Meanings.{is_protected, protected_cell}

-- ---- routines
-- the word that one begins with: "PROC name", "FUNC type name"
unfoldable pub word_of : Routine → ℕ
word_of r = elim r.result [ none ↦ r.name - 1 | some t ↦ r.name - 2 ]

unfoldable pub head_for : Routine → Head
head_for r = record { word = word_of r; parameters = length r.parameters; function = is_some r.result }

unfoldable pub heads_for : List Routine → List Head
heads_for [] = []
heads_for (r ∷ rs) = head_for r ∷ heads_for rs

-- ---- names
-- the cell of module data whose semicolon is still to come: it has no meaning yet, and no routine takes its name
abbrev pub to_come : ℕ
to_come = 1

-- What the table says of a text when the names of module data are known, and no routine's.
unfoldable pub data_cell : (data-texts : List Text) → Text → ℕ
data_cell D u = if is_protected u then protected_cell u else if is_among D u then to_come else 0

module _ (W : List Word) where
  -- Before any declaration, but with the names of routines.
  abbrev pub first_scopes : Module → Scopes
  first_scopes m = record { loops = []; own = []; globals = []; routines = routine_names W (data_texts W m.declared) 0 m.routines }

  -- The texts that rule 10 asks at the name of routine k: those of the names before it.
  unfoldable pub earlier_of : (earlier : List Text) → (k : ℕ) → List Routine → List Text
  earlier_of earlier zero rs = earlier
  earlier_of earlier (suc k) [] = earlier
  earlier_of earlier (suc k) (r ∷ rs) = earlier_of (spelled W r.name ∷ earlier) k rs

  -- ---- parameters
  -- The types of parameters n, n + 1, ..: those that are protected, declared twice or the 65th are refused. `earlier` are the texts of those before.
  unfoldable pub given_types : (earlier : List Text) → (n : ℕ) → List Parameter → List DataType
  given_types earlier n [] = []
  given_types earlier n (p ∷ ps) =
      (if cannot_declare earlier (spelled W p.name) || eqb n routine_word_limit then refused_piece else type_of p.type)
      ∷ given_types (spelled W p.name ∷ earlier) (n + 1) ps

  unfoldable pub given_signature : ℕ → Routine → Signature
  given_signature k r = record { result = result_asked W k r.result; parameters = given_types [] 0 r.parameters }
