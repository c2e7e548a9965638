-- The faults that declarations add to those found before: declarations are read one after another, each with what the earlier ones have made known.
use Rattle.std.specs.Prelude.{List, [], ◌∷◌, ◌++◌, map, ℕ, length, replicate, ℤ, pos}
use Rattle.paper.specs.Words.{Word}
use Rattle.paper.specs.Trees.{Content, variable_data, initial_data, array_data, constant_data, Declared, Parameter}
use Rattle.paper.specs.Names.{DataType, a_num, type_of, variable, text_of, spelled, cannot_declare}
use Rattle.paper.specs.Types.{Fault, fault_if, constant_faults, constant_value, size_of, raises_error, is_no_size}
use Rattle.paper.specs.Declarations.{crosses, Data, Filling, declare_name, declare_content}

module _ (W : List Word) (F : Filling) where
  -- Rules 10 and 16, for a name with these words.
  unfoldable pub name_faults : (name : ℕ) → (words : List ℤ) → Data → List Fault
  name_faults i words D =
      fault_if (cannot_declare (map text_of D.names) (spelled W i)) 10 i
      ++ fault_if (crosses F.limit (length D.words) (length words)) 16 i

  -- The words that a name gets, and the faults of its constant expression.
  unfoldable pub content_slots : Content → Data → List ℤ
  content_slots variable_data D = pos 0 ∷ []
  content_slots (initial_data e) D = constant_value W (F.scopes_with D.names) (F.memory_with D.words) e ∷ []
  content_slots (array_data e) D = replicate (size_of W (F.scopes_with D.names) (F.memory_with D.words) e) (pos 0)
  content_slots (constant_data e) D = constant_value W (F.scopes_with D.names) (F.memory_with D.words) e ∷ []

  unfoldable pub content_faults : DataType → Content → Data → List Fault
  content_faults t variable_data D = []
  content_faults t (initial_data e) D = constant_faults W raises_error t (F.scopes_with D.names) (F.memory_with D.words) e
  content_faults t (array_data e) D = constant_faults W is_no_size a_num (F.scopes_with D.names) (F.memory_with D.words) e
  content_faults t (constant_data e) D = constant_faults W raises_error t (F.scopes_with D.names) (F.memory_with D.words) e

  -- What a declaration adds, and what several do.
  unfoldable pub declared_faults : DataType → (name : ℕ) → Content → Data → List Fault
  declared_faults t i c D = name_faults i (content_slots c D) D ++ content_faults t c D

  unfoldable pub data_faults : List Declared → Data → List Fault
  data_faults [] D = []
  data_faults (d ∷ r) D =
      declared_faults (type_of d.type) d.name d.content D
      ++ data_faults r (declare_content W F (type_of d.type) d.name d.content D)

  -- What parameters add.
  unfoldable pub parameter_faults : List Parameter → Data → List Fault
  parameter_faults [] D = []
  parameter_faults (p ∷ r) D =
      name_faults p.name (pos 0 ∷ []) D
      ++ parameter_faults r (declare_name W F p.name (variable (type_of p.type)) (pos 0 ∷ []) [] D)
