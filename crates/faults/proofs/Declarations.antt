-- The faults that declarations add: what they are, that they lie in the words of their declarations, and what is left of them while a walk goes on.
use mathlib.Core.Path.{◌≡◌, refl, sym, ap, ◌∙◌}
use mathlib.Core.Bool.{true, false}
use mathlib.Core.List.{List, [], ◌∷◌, ◌++◌, map, append_assoc, append-nil}
use Prim.Native.Nat.{ℕ, suc, ◌+◌, ◌≤◌, ◌<◌}
use native.Mathlib.Omega.{arith}
use lib.ListN.{length}
use lib.IntN.{ℤ, pos}
use Rattle.paper.specs.Words.{Word}
use Rattle.paper.specs.Terms.{Ref}
use Rattle.paper.specs.Trees.{Content, variable_data, initial_data, array_data, constant_data, Declared, Parameter}
use Rattle.paper.specs.Names.{DataType, a_num, type_of, Meaning, variable, text_of, sort_in, spelled, cannot_declare}
use Rattle.paper.specs.Types.{Fault, raises_error, is_no_size}
use Rattle.paper.specs.Declarations.{crosses, Data, Filling, declare_name, declare_content, declare_data, declare_parameters}
use Rattle.grammar.specs.Form.{SeparatedAt, last_one, one_more, closed-at-once, closed-later, none-starts, one-starts, Parses}
use Rattle.grammar.specs.Form.{ContentAt, no-content, initial, sized, constant, DeclaredAt, DeclarationsAt, ParameterAt, ParametersAt}
use Rattle.grammar.proofs.Places.{content-grows, declared-grows, declarations-grow, parameter-grows, separated-grows}
use Rattle.faults.specs.First.{no-fault, Inside, First}
use Rattle.faults.specs.Added.{name_faults, content_slots, content_faults, declared_faults, data_faults, parameter_faults}
use Rattle.faults.proofs.First.{◌and◌, widen, inside-if, first-before, first-after, first_alone, ranks, first-lower, first-higher, neither-rule, nothing-in-both}
use Rattle.faults.proofs.Expressions.{grows, constant-inside}

module _ (W : List Word) (F : Filling) where
  -- ---- what is added
  pub name-adds : (i : ℕ) (m : Ref → Meaning) (words : List ℤ) (fs : List Fault) (D : Data) → (declare_name W F i m words fs D).faults ≡ D.faults ++ (name_faults W F i words D ++ fs)
  unfolding declare_name name_faults
  name-adds i m words fs D = simp append_assoc

  pub content-adds : (t : DataType) (i : ℕ) (c : Content) (D : Data) → (declare_content W F t i c D).faults ≡ D.faults ++ declared_faults W F t i c D
  unfolding declare_content declared_faults content_slots content_faults
  content-adds t i variable_data D = name-adds i _ _ _ D
  content-adds t i (initial_data e) D = name-adds i _ _ _ D
  content-adds t i (array_data e) D = name-adds i _ _ _ D
  content-adds t i (constant_data e) D = name-adds i _ _ _ D

  pub data-adds : (ds : List Declared) (D : Data) → (declare_data W F ds D).faults ≡ D.faults ++ data_faults W F ds D
  unfolding declare_data data_faults
  data-adds [] D = sym (append-nil D.faults)
  data-adds (d ∷ r) D =
      let t = type_of d.type in
      let E : Data = declare_content W F t d.name d.content D in
      data-adds r E
      ∙ ap (λ (l : List Fault). l ++ data_faults W F r E) (content-adds t d.name d.content D)
      ∙ append_assoc D.faults (declared_faults W F t d.name d.content D) (data_faults W F r E)

  pub parameter-adds : (p : Parameter) (D : Data) → (declare_name W F p.name (variable (type_of p.type)) (pos 0 ∷ []) [] D).faults ≡ D.faults ++ name_faults W F p.name (pos 0 ∷ []) D
  parameter-adds p D = name-adds p.name _ _ _ D ∙ ap (λ (l : List Fault). D.faults ++ l) (append-nil (name_faults W F p.name (pos 0 ∷ []) D))

  pub parameters-add : (ps : List Parameter) (D : Data) → (declare_parameters W F ps D).faults ≡ D.faults ++ parameter_faults W F ps D
  unfolding declare_parameters parameter_faults
  parameters-add [] D = sym (append-nil D.faults)
  parameters-add (p ∷ r) D =
      let E : Data = declare_name W F p.name (variable (type_of p.type)) (pos 0 ∷ []) [] D in
      parameters-add r E
      ∙ ap (λ (l : List Fault). l ++ parameter_faults W F r E) (parameter-adds p D)
      ∙ append_assoc D.faults (name_faults W F p.name (pos 0 ∷ []) D) (parameter_faults W F r E)

  -- ---- where it lies
  pub name-inside : (i a b : ℕ) (words : List ℤ) (D : Data) → a ≤ i → i < b → Inside a b (name_faults W F i words D)
  unfolding name_faults
  name-inside i a b words D low high = inside-if _ 10 i a b low high and inside-if _ 16 i a b low high

  pub content-inside : (t : DataType) (D : Data) {opens : ℕ} {c : Content} {at to : ℕ} → ContentAt (sort_in W) (Parses (sort_in W)) opens c at to → Inside at to (content_faults W F t c D)
  unfolding content_faults
  content-inside t D (no-content v f g e) = no-fault
  content-inside t D (initial v b k) = widen (constant-inside W _ _ _ _ k raises_error t _ _) (omega arith) (omega arith)
  content-inside t D (sized v b k c z) = widen (constant-inside W _ _ _ _ k is_no_size a_num _ _) (omega arith) (omega arith)
  content-inside t D (constant v b k) = widen (constant-inside W _ _ _ _ k raises_error t _ _) (omega arith) (omega arith)

  pub declared-inside : (t : DataType) (D : Data) {d : Declared} {at to : ℕ} → DeclaredAt (sort_in W) (Parses (sort_in W)) d at to → Inside at to (declared_faults W F t d.name d.content D)
  unfolding declared_faults
  declared-inside t D {d} {at} {to} h =
      let g = content-grows (sort_in W) (Parses (sort_in W)) (grows W) h.content in
      name-inside d.name at to _ D (omega (arith, h.named)) (omega (arith, h.named, h.after))
      and widen (content-inside t D h.content) (omega arith) (omega (arith, h.after))

  pub data-inside : (D : Data) {ds : List Declared} {at to : ℕ} → DeclarationsAt (sort_in W) (Parses (sort_in W)) ds at to → Inside at to (data_faults W F ds D)
  unfolding data_faults
  data-inside D (none-starts s e) = no-fault
  data-inside D (one-starts {a = a} s k h) =
      widen (declared-inside _ D k) (omega arith) (omega (arith, declarations-grow (sort_in W) (Parses (sort_in W)) (grows W) h))
      and widen (data-inside (declare_content W F (type_of a.type) a.name a.content D) h) (omega (arith, declared-grows (sort_in W) (Parses (sort_in W)) (grows W) _ _ _ k)) (omega arith)

  pub parameter-inside : (D : Data) {p : Parameter} {at to : ℕ} → ParameterAt (sort_in W) (Parses (sort_in W)) p at to → Inside at to (name_faults W F p.name (pos 0 ∷ []) D)
  parameter-inside D {p} {at} {to} h = name-inside p.name at to _ D (omega (arith, h.named)) (omega (arith, h.named, h.after))

  -- parameters with commas between, and all of them up to the parenthesis
  pub separated-inside : (D : Data) {ps : List Parameter} {at to : ℕ} → SeparatedAt (sort_in W) (ParameterAt (sort_in W) (Parses (sort_in W))) ps at to → Inside at to (parameter_faults W F ps D)
  unfolding parameter_faults
  separated-inside D (last_one k f) = parameter-inside D k and no-fault
  separated-inside D (one_more {a = a} k c h) =
      let g = separated-grows (sort_in W) (ParameterAt (sort_in W) (Parses (sort_in W))) (parameter-grows (sort_in W) (Parses (sort_in W)) (grows W)) h in
      widen (parameter-inside D k) (omega arith) (omega arith)
      and widen (separated-inside (declare_name W F a.name (variable (type_of a.type)) (pos 0 ∷ []) [] D) h) (omega (arith, parameter-grows (sort_in W) (Parses (sort_in W)) (grows W) _ _ _ k)) (omega arith)

  pub parameters-inside : (D : Data) {ps : List Parameter} {at to : ℕ} → ParametersAt (sort_in W) (Parses (sort_in W)) ps at to → Inside at to (parameter_faults W F ps D)
  unfolding parameter_faults
  parameters-inside D (closed-at-once c e) = no-fault
  parameters-inside D (closed-later f h) = separated-inside D h

  -- ---- one name, one declaration
  module _ (i : ℕ) (words : List ℤ) (D : Data) where
    pub name-taken : cannot_declare (map text_of D.names) (spelled W i) ≡ true → First (record { number = 10; at = i }) (name_faults W F i words D)
    unfolding name_faults
    name-taken e = first-lower _ _ 10 16 i (ranks 10 16 (omega arith) (omega arith)) e

    pub name-crosses : cannot_declare (map text_of D.names) (spelled W i) ≡ false → crosses F.limit (length D.words) (length words) ≡ true
        → First (record { number = 16; at = i }) (name_faults W F i words D)
    unfolding name_faults
    name-crosses e g = first-higher _ _ 10 16 i e g

    pub name-fits : cannot_declare (map text_of D.names) (spelled W i) ≡ false → crosses F.limit (length D.words) (length words) ≡ false → name_faults W F i words D ≡ []
    unfolding name_faults
    name-fits e g = neither-rule _ _ 10 16 i e g

  pub found-in-name : {f : Fault} (t : DataType) (D : Data) {d : Declared} {at to : ℕ} → DeclaredAt (sort_in W) (Parses (sort_in W)) d at to → First f (name_faults W F d.name (content_slots W F d.content D) D)
      → First f (declared_faults W F t d.name d.content D)
  unfolding declared_faults
  found-in-name t D {d} h g = first-before g (name-inside d.name d.name (suc d.name) _ D (omega arith) (omega arith)) (content-inside t D h.content) (omega (arith, h.named))

  pub found-in-content : {f : Fault} (t : DataType) (i : ℕ) (c : Content) (D : Data) → name_faults W F i (content_slots W F c D) D ≡ [] → First f (content_faults W F t c D) → First f (declared_faults W F t i c D)
  unfolding declared_faults
  found-in-content t i c D e g = first-after e g

  -- ---- a walk over data: what is left, with D declared before
  pub data-left : (ds : List Declared) (D : Data) → D.faults ≡ [] → (declare_data W F ds D).faults ≡ data_faults W F ds D
  data-left ds D e = data-adds ds D ∙ ap (λ (l : List Fault). l ++ data_faults W F ds D) e

  pub data-on : (d : Declared) (r : List Declared) (D : Data) → declared_faults W F (type_of d.type) d.name d.content D ≡ []
      → data_faults W F (d ∷ r) D ≡ data_faults W F r (declare_content W F (type_of d.type) d.name d.content D)
  unfolding data_faults
  data-on d r D e = ap (λ (l : List Fault). l ++ data_faults W F r (declare_content W F (type_of d.type) d.name d.content D)) e

  pub data-found : {f : Fault} {d : Declared} {r : List Declared} {at n to : ℕ} (D : Data) → DeclaredAt (sort_in W) (Parses (sort_in W)) d at n → DeclarationsAt (sort_in W) (Parses (sort_in W)) r n to
      → First f (declared_faults W F (type_of d.type) d.name d.content D) → First f (data_faults W F (d ∷ r) D)
  unfolding data_faults
  data-found D h k g = first-before g (declared-inside _ D h) (data-inside _ k) (omega arith)

  -- no fault is added, and none was there
  pub content-none : (t : DataType) (i : ℕ) (c : Content) (D : Data) → D.faults ≡ [] → declared_faults W F t i c D ≡ [] → (declare_content W F t i c D).faults ≡ []
  content-none t i c D e g = content-adds t i c D ∙ nothing-in-both e g

  -- ---- a walk over parameters
  pub parameters-left : (ps : List Parameter) (D : Data) → D.faults ≡ [] → (declare_parameters W F ps D).faults ≡ parameter_faults W F ps D
  parameters-left ps D e = parameters-add ps D ∙ ap (λ (l : List Fault). l ++ parameter_faults W F ps D) e

  pub parameters-on : (p : Parameter) (r : List Parameter) (D : Data) → name_faults W F p.name (pos 0 ∷ []) D ≡ []
      → parameter_faults W F (p ∷ r) D ≡ parameter_faults W F r (declare_name W F p.name (variable (type_of p.type)) (pos 0 ∷ []) [] D)
  unfolding parameter_faults
  parameters-on p r D e = ap (λ (l : List Fault). l ++ parameter_faults W F r (declare_name W F p.name (variable (type_of p.type)) (pos 0 ∷ []) [] D)) e

  pub parameters-found : {f : Fault} {p : Parameter} {r : List Parameter} {at to : ℕ} (D : Data) → SeparatedAt (sort_in W) (ParameterAt (sort_in W) (Parses (sort_in W))) (p ∷ r) at to
      → First f (name_faults W F p.name (pos 0 ∷ []) D) → First f (parameter_faults W F (p ∷ r) D)
  unfolding parameter_faults
  parameters-found D (last_one k f) g = first_alone g refl
  parameters-found D (one_more k c h) g = first-before g (parameter-inside D k) (separated-inside _ h) (omega arith)

  pub parameter-none : (p : Parameter) (D : Data) → D.faults ≡ [] → name_faults W F p.name (pos 0 ∷ []) D ≡ [] → (declare_name W F p.name (variable (type_of p.type)) (pos 0 ∷ []) [] D).faults ≡ []
  parameter-none p D e g = parameter-adds p D ∙ nothing-in-both e g
