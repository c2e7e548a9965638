-- What promises settle of names, their spelling, the form of a module, and a name that is declared.
use Rattle.std.specs.Prelude.{Result, Ok, Err}
use mathlib.Core.Path.{◌≡◌, refl, sym, ap, subst, ◌∙◌}
use mathlib.Core.Bool.{Bool}
use mathlib.Core.List.{List}
use Prim.Native.Nat.{ℕ, ◌+◌, ◌-◌, ◌/◌, ◌<◌, ◌≤◌}
use native.Mathlib.Omega.{arith}
use lib.Dec.{eqb}
use lib.ListN.{length, get_or}
use lib.Seq.{ext_get_or}
use mir.Syntax.{w32}
use mir.Val.{to_z}
use borrow.Author.Tests.{eqb-true, eqb-false}
use Rattle.laws.proofs.Tests.{test, apart, by_less}
use Rattle.paper.specs.Words.{Word}
use Rattle.paper.specs.Terms.{Ref}
use Rattle.paper.specs.Names.{a_num, a_bool, Names, Scopes}
use Rattle.paper.specs.Declarations.{Data}
use Rattle.store_cells.specs.Cells.{cells_of}
use Rattle.store_cells.proofs.Laws.{length-words}
use Rattle.code.specs.Cells.{op_at}
use Rattle.layout.specs.Broken.{as_fault}
use Rattle.layout.specs.declared.rules.Breach.{Breach}
use Rattle.layout.proofs.Typing.{type-injective}
use Rattle.layout.specs.declared.types.ValueType.{ValueType}
use Rattle.check_names.specs.declared.Scope.{Scope}
use Rattle.check_names.specs.Numbers.{number_of, IsName}
use Rattle.check_names.specs.Meanings.{cell_with, type_with, meaning_in, protects_cell, cell_for, Means}
use Rattle.check_names.specs.Promises.{number_at, TypeOf, TypeNamed}
use Rattle.check_names.specs.Promises as names
use Rattle.check_names.proofs.Unique.{declare-unique}
use Rattle.check_spelling.specs.Hash.{buckets, hash_of}
use Rattle.check_expressions.proofs.Unique.{same_breaches}
use Rattle.check_form.specs.Judged as form
use Rattle.check_constants.specs.Answers.{cell_of}
use Rattle.check_sites.specs.Sites.{Site, memory_of, Among, Owns, Filled}
use Rattle.check_sites.specs.Parts.{TypeBit, Fills, Taken, MakesIn}
use Rattle.unique.proofs.Stores.{SameCells, same-cells}

-- ---- readings of a cell
pub type-of-unique : (cell : ℕ) (r s : ValueType) → TypeOf cell r → TypeOf cell s → r ≡ s
type-of-unique cell r s p q = type-injective r s (p.is ∙ sym q.is)

pub type-named-unique : (sort : ℕ) (r s : ValueType) → TypeNamed sort r → TypeNamed sort s → r ≡ s
type-named-unique sort r s p q = type-injective r s (p.is ∙ sym q.is)

pub type-bit-unique : (sort r s : ℕ) → TypeBit sort r → TypeBit sort s → r ≡ s
type-bit-unique sort r s p q = same_bit r s p.small q.small (p.is ∙ sym q.is)
  where
    is-num : (r : ℕ) → r < 2 → type_with r ≡ a_num → r ≡ 0
    is-num r h e = test (eqb r 0) (λ t. eqb-true r 0 t) (λ t. let z : a_bool ≡ a_num = sym (rw t) ∙ e in apart (cc))

    is-bool : (r : ℕ) → r < 2 → type_with r ≡ a_bool → r ≡ 1
    is-bool r h e = test (eqb r 0) (λ t. let z : a_num ≡ a_bool = sym (rw t) ∙ e in apart (cc)) (λ t. let n = eqb-false r 0 t in omega arith)

    same_bit : (r s : ℕ) → r < 2 → s < 2 → type_with r ≡ type_with s → r ≡ s
    same_bit r s h g e =
        test (eqb r 0) (λ t. eqb-true r 0 t ∙ sym (is-num s g (sym e ∙ rw t)))
        (λ t. is-bool r h (rw t) ∙ sym (is-bool s g (sym e ∙ rw t)))

-- ---- the table of meanings
-- Two value stores whose tables say the same of every name of the text: what it means, and whether it is protected. (A cell has bits that say nothing of some meanings.)
pub record SameMeans (routine : ℕ → ℕ) (W : List Word) (X Y : List ℕ) : Type 0 where
  pub means : (i : ℕ) → IsName W i → meaning_in routine (cell_for W X i) ≡ meaning_in routine (cell_for W Y i)
  pub guards : (i : ℕ) → IsName W i → protects_cell (cell_for W X i) ≡ protects_cell (cell_for W Y i)

pub means-unique : (routine : ℕ → ℕ) (W : List Word) (S : Scopes) (X Y : List ℕ) → Means routine W S X → Means routine W S Y → SameMeans routine W X Y
means-unique routine W S X Y p q = record { means = λ i n. p.means i n ∙ sym (q.means i n); guards = λ i n. p.guards i n ∙ sym (q.guards i n) }

-- and the cells of declared words have the same numbers
pub record SameFilled (routine : ℕ → ℕ) (W : List Word) (s : Site) (D : Data) (v w : List ℕ) : Type 0 where
  pub names : SameMeans routine W (cells_of v) (cells_of w)
  pub words : (r : Ref) → Among (memory_of W s D) r 1 → to_z w32 (get_or (cells_of v) (cell_of r) 0) ≡ to_z w32 (get_or (cells_of w) (cell_of r) 0)

pub filled-unique : (routine : ℕ → ℕ) (W : List Word) (s : Site) (D : Data) (v w : List ℕ) → Filled W routine s D v → Filled W routine s D w → SameFilled routine W s D v w
filled-unique routine W s D v w p q = record { names = means-unique routine W _ (cells_of v) (cells_of w) p.means q.means; words = λ r a. p.cells r a ∙ sym (q.cells r a) }

-- ---- spelling and form
pub hash-unique : (name : List ℕ) (r s : ℕ) → (r ≡ hash_of name) × (r < buckets) → (s ≡ hash_of name) × (s < buckets) → r ≡ s
hash-unique name r s p q = p.0 ∙ sym q.0

same-told : (r s : Result (Unit {0}) Breach) → form.told r ≡ form.told s → r ≡ s
same-told (Ok x) (Ok y) e = refl
same-told (Ok x) (Err g) e = apart (cc)
same-told (Err f) (Ok y) e = apart (cc)
same-told (Err f) (Err g) e = let q : as_fault f ≡ as_fault g = cc in ap Err (same_breaches f g q)

pub form-unique : (code : List ℕ) (words : ℕ) (r s : Result (Unit {0}) Breach) → form.Judged code words r → form.Judged code words s → r ≡ s
form-unique code words r s p q = same-told r s (p ∙ sym q)

-- ---- cells with one word
pub fill-unique : (before a b : List ℕ) (from count v : ℕ) → Fills before a from count v → Fills before b from count v → SameCells a b
fill-unique before a b from count v p q = same-cells a b (ext_get_or 0 (cells_of a) (cells_of b) (length-words a ∙ ap (λ (n : ℕ). n / 4) size ∙ sym (length-words b)) (λ k l. same k)) size
  where
    size : length a ≡ length b
    size = p.long ∙ sym q.long

    inside : (k : ℕ) → from ≤ k → k < from + count → get_or (cells_of a) k 0 ≡ get_or (cells_of b) k 0
    inside k h g =
        let at : from + (k - from) ≡ k = omega arith in
        subst (λ (n : ℕ). get_or (cells_of a) n 0 ≡ get_or (cells_of b) n 0) at (p.here (k - from) (omega arith) ∙ sym (q.here (k - from) (omega arith)))

    same : (k : ℕ) → get_or (cells_of a) k 0 ≡ get_or (cells_of b) k 0
    same k =
        by_less k from (λ h. p.below k h ∙ sym (q.below k h))
        (λ h. by_less k (from + count) (inside k h) (λ g. p.above k g ∙ sym (q.above k g)))

-- ---- a name that is declared
-- The table says what some scopes mean, and the word is a name of the text: the promise is about no other stores.
pub taken-unique : (code values : List ℕ) (own i : ℕ) (r s : Bool) (routine : ℕ → ℕ) (W : List Word) (S : Scopes) (N : Names) → Means routine W S (cells_of values) → IsName W i
    → number_at (cells_of code) i ≡ number_of W i → Owns own N S → Taken code values own i r → Taken code values own i s → r ≡ s
taken-unique code values own i r s routine W S N m n e o p q = p.is routine W S N m n e o ∙ sym (q.is routine W S N m n e o)

-- both stores whole, and the scope
pub known-unique : (scope : Scope) (code values c d v w : List ℕ) (i kind own value words : ℕ) (r s : Scope) → MakesIn scope code values c v i kind own value words r
    → MakesIn scope code values d w i kind own value words s → (c ≡ d) × (v ≡ w) × (r ≡ s)
known-unique scope code values c d v w i kind own value words r s p q =
    let bit : q.makes.bool ≡ p.makes.bool = type-bit-unique (op_at (cells_of code) (i - 1)) _ _ q.makes.type p.makes.type in
    let other : names.Declared code values i (cell_with kind p.makes.bool own value) d w =
    subst (λ (b : ℕ). names.Declared code values i (cell_with kind b own value) d w) bit q.makes.declared in
    let same = declare-unique code values i _ c d v w p.makes.declared other in
    (same.0, same.1, p.scope-is ∙ sym q.scope-is)
