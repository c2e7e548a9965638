-- Targets: a name, or an array's name with an index in braces.
use mathlib.Core.Path.{◌≡◌, refl, sym, ap, subst, ◌∙◌}
use mathlib.Core.Bool.{false}
use mathlib.Core.List.{List, [], ◌∷◌, ◌++◌}
use mathlib.Core.Option.{none, some}
use Prim.Native.Nat.{ℕ, ◌+◌, ◌*◌, ◌<◌, ◌≤◌}
use native.Mathlib.Omega.{arith}
use lib.Dec.{eqb}
use lib.ListN.{length}
use mir.Syntax.{w64}
use mir.Val.{Fits}
use borrow.Author.Tests.{ne_eqb}
use Rattle.laws.proofs.Tests.{test}
use Rattle.paper.specs.Sorts.{open_brace, close_brace}
use Rattle.paper.specs.Words.{Word, word_limit}
use Rattle.paper.specs.Terms.{Ref, Term, stored, element_at}
use Rattle.paper.specs.Trees.{Expr, element, Target}
use Rattle.paper.specs.Expressions.{level_of, nestings, disjunctions}
use Rattle.paper.specs.Names.{DataType, Meaning, variable_in, array_in, wrong_name, sort_in, spelled, meaning, Scopes}
use Rattle.paper.specs.Types.{fault, judged, judged_nothing, judge_element, judge, of_type, term_of}
use Rattle.paper.specs.Types as types
use Rattle.paper.specs.Checks.{judge_scalar_target, judge_target}
use Rattle.paper.specs.Steps.{Spot, scalar, element_of, spot_for, spot_of}
use Rattle.store_cells.specs.Cells.{cells_of}
use Rattle.code.specs.Cells.{op_in, value_in, op_at, value_at, link_at}
use Rattle.check_names.specs.Meanings.{type_with, ref_with, meaning_with, meaning_in}
use Rattle.check_names.specs.Promises.{meaning_at}
use Rattle.grammar.specs.Form.{Parses}
use Rattle.grammar.proofs.Places.{target-grows}
use Rattle.grammar.proofs.Inversions.{InBraces, index-some, index-none}
use Rattle.check_expressions.specs.Judgements.{Judged}
use Rattle.std.specs.Prelude.{Ok, Err}
use Rattle.layout.specs.Broken.{as_fault, number_of}
use Rattle.layout.specs.declared.rules.Breach.{Breach}
use Rattle.check_expressions.specs.Known.{Loaded, InRoom, Within}
use Rattle.store_writing.specs.Promises.{Kept, Linked}
use Rattle.check_expressions.specs.Answers.{Typed}
use Rattle.check_expressions.specs.Answers as answers
use Rattle.store_writing.proofs.Keeping.{head-below, head-above, place-below, kept-wider, kept_on, term-above}
use Rattle.check_expressions.proofs.FaultsOfParts.{judged-faults, judged-term, judged-type, element-is}
use Rattle.check_expressions.proofs.Starts.{loaded-part}
use Rattle.faults.specs.First.{First}
use Rattle.faults.proofs.Expressions.{grows}
use Rattle.faults.proofs.Statements.{target_first}
use Rattle.check_links.specs.Raw.{Quiet}
use Rattle.check_links.proofs.Ops.{low-still}
use Rattle.check_around.specs.Answers.{Fine}
use Rattle.check_simple.specs.Parts.{WrongName, scalar-aims, element-aims, Targets, Aimed, AimTells, AimAnswer, TargetJudged, Elements, ElementJudged}
use Rattle.check_simple.proofs.Expressions.{no-operator, level-brace, quiet-above, Told, asks, typed-told, typed-first, typed_long}
use Rattle.check_simple.proofs.Arguments.{quiet-append, quiet_word}
use Rattle.check_simple.proofs.CalleeNames.{name-means}
use Rattle.code.specs.Steps.{a_target}
use Rattle.layout.specs.Kinds.{a_variable, an_array, kind_in, own_in, a_constant, a_loop, a_routine, an_errno, an_error_number, bool_in}
use Rattle.layout.specs.declared.types.ValueType.{ValueType}
use Rattle.layout.specs.declared.types.ValueType.TheVariants.{Num}
use Rattle.check_names.specs.Promises.{TypeOf}
use Rattle.paper.specs.Names.{a_num}
use Rattle.code.specs.Spans.{first_in, size_in}
use Rattle.layout.specs.Named.{store_bytes}
use Rattle.layout.specs.declared.rules.Rule.{Rule}

-- ---- answers by their cases
module _ (m n : ℕ) (j : types.Judged) (spot : Spot) (before after : List ℕ) (at to : ℕ) where
  pub aim-first : (r : Judged) (broken : Breach) → r ≡ Err broken → length after ≡ length before → First (as_fault broken) j.faults → AimAnswer m n j spot before after at to r
  unfolding AimTells
  aim-first r broken e long f = subst (AimAnswer m n j spot before after at to) (sym e) (record { tells = f; long = long })

  pub aim-fine : (b : ValueType) (next : ℕ) → Fine j.faults before after at to next (Aimed m n (cells_of before) (cells_of after) j spot at to b) → AimAnswer m n j spot before after at to (Ok (b, next))
  unfolding AimTells
  aim-fine b next f = record { tells = f; long = f.kept.long }

  module _ (r : Judged) (a : AimAnswer m n j spot before after at to r) where
    pub aimed-fine : (b : ValueType) (next : ℕ) → r ≡ Ok (b, next) → Fine j.faults before after at to next (Aimed m n (cells_of before) (cells_of after) j spot at to b)
    unfolding AimTells
    aimed-fine b next e = subst (AimTells m n j spot before after at to) e a.tells

    pub aimed-first : (broken : Breach) → r ≡ Err broken → First (as_fault broken) j.faults
    unfolding AimTells
    aimed-first broken e = subst (AimTells m n j spot before after at to) e a.tells

-- ---- kinds of names
no-variable : (routine : ℕ → ℕ) (kind bool own value : ℕ) → (kind ≡ a_variable → ⊥) → variable_in (meaning_with routine kind bool own value) ≡ none
unfolding meaning_with variable_in
no-variable routine kind bool own value d =
    let z = ne_eqb kind a_variable d in
    test (eqb kind an_array) (λ t. rw (z, meaning_with) (rw t))
    (λ b. test (eqb kind a_constant) (λ t. rw (z, meaning_with) (rw b (rw t)))
    (λ c. test (eqb kind a_loop) (λ t. rw (z, meaning_with) (rw b (rw c (rw t))))
    (λ e. test (eqb kind a_routine) (λ t. rw (z, meaning_with) (rw b (rw c (rw e (rw t)))))
    (λ f. test (eqb kind an_errno) (λ t. rw (z, meaning_with) (rw b (rw c (rw e (rw f (rw t))))))
    (λ g. test (eqb kind an_error_number) (λ t. rw (z, meaning_with) (rw b (rw c (rw e (rw f (rw g (rw t)))))))
    (λ h. rw (z, meaning_with) (rw b (rw c (rw e (rw f (rw g (rw h))))))))))))

no-array : (routine : ℕ → ℕ) (kind bool own value : ℕ) → (kind ≡ an_array → ⊥) → array_in (meaning_with routine kind bool own value) ≡ none
unfolding meaning_with array_in
no-array routine kind bool own value d =
    let z = ne_eqb kind an_array d in
    test (eqb kind a_variable) (λ t. rw (t, meaning_with))
    (λ a. test (eqb kind a_constant) (λ t. rw (a, meaning_with) (rw z (rw t)))
    (λ c. test (eqb kind a_loop) (λ t. rw (a, meaning_with) (rw z (rw c (rw t))))
    (λ e. test (eqb kind a_routine) (λ t. rw (a, meaning_with) (rw z (rw c (rw e (rw t)))))
    (λ f. test (eqb kind an_errno) (λ t. rw (a, meaning_with) (rw z (rw c (rw e (rw f (rw t))))))
    (λ g. test (eqb kind an_error_number) (λ t. rw (a, meaning_with) (rw z (rw c (rw e (rw f (rw g (rw t)))))))
    (λ h. rw (a, meaning_with) (rw z (rw c (rw e (rw f (rw g (rw h))))))))))))

-- ---- what the paper judges
module _ (W : List Word) (S : Scopes) (t : Target) (at : ℕ) (named : t.name ≡ at) where
  judged-scalar : t.index ≡ none → judge_target W S t ≡ judge_scalar_target (meaning S (spelled W at)) at
  unfolding judge_target
  judged-scalar e = rw (e, judge_target) (ap (λ (i : ℕ). judge_scalar_target (meaning S (spelled W i)) i) named)

  judged-element : (e : Expr) → t.index ≡ some e → judge_target W S t ≡ judge_element false (meaning S (spelled W at)) at e (judge W false S e)
  unfolding judge_target judge
  judged-element e q = rw (q, judge_target) (ap (λ (i : ℕ). judge W false S (element i e)) named)

scalar-wrong : (m : Meaning) (i number : ℕ) → variable_in m ≡ none → wrong_name m ≡ number → (judge_scalar_target m i).faults ≡ record { number = number; at = i } ∷ []
unfolding judge_scalar_target judged_nothing fault
scalar-wrong m i number q n = rw (q, judge_scalar_target) (judged-faults _ _ _ ∙ ap (λ (x : ℕ). fault x i) n)

scalar-right : (m : Meaning) (i : ℕ) (t : DataType) (r : Ref) → variable_in m ≡ some (t, r) → judge_scalar_target m i ≡ judged t [] (stored r)
unfolding judge_scalar_target
scalar-right m i t r q = rw (q, judge_scalar_target)

element-wrong : (m : Meaning) (i number : ℕ) (e : Expr) (j : types.Judged) → array_in m ≡ none → wrong_name m ≡ number → (judge_element false m i e j).faults ≡ record { number = number; at = i } ∷ j.faults
unfolding judge_element judged_nothing fault
element-wrong m i number e j q n = rw (q, judge_element) (judged-faults _ _ _ ∙ ap (λ (x : ℕ). fault x i ++ j.faults) n)

-- ---- in the cells
spot-scalar : (W : List Word) (S : Scopes) (t : Target) (r : Ref) → (judge_target W S t).term ≡ stored r → spot_of W S t ≡ scalar r
unfolding spot_of spot_for
spot-scalar W S t r e = rw (e, spot_of)

spot-element : (W : List Word) (S : Scopes) (t : Target) (r : Ref) (n : ℕ) (x : Term) → (judge_target W S t).term ≡ element_at r n x → spot_of W S t ≡ element_of r n x
unfolding spot_of spot_for
spot-element W S t r n x e = rw (e, spot_of)

-- ---- a target's words
module _ (code values : List ℕ) (at : ℕ) (g : Targets code values at) where
  target-on : at < g.to
  target-on = target-grows (sort_in g.known.W) (Parses (sort_in g.known.W)) (grows g.known.W) g.is

  pub target-here : at * 8 + 8 ≤ length code
  target-here = omega (arith, target-on, g.loaded.room)

  pub target-next : (at + 1) * 8 + 8 ≤ length code
  target-next = omega (arith, target-on, g.loaded.room)

  pub target_small : at + 1 < word_limit
  target_small = omega (arith, target-on, g.loaded.last)

  pub target-asks : (at * 8 + 8 ≤ length code) × (store_bytes ≤ length values)
  target-asks = (target-here, g.known.table)

  target-sort : (i : ℕ) → at ≤ i → i ≤ g.to → op_at (cells_of code) i ≡ sort_in g.known.W i
  target-sort i a b = (g.loaded.words i a b).sort

  module _ (cell : ℕ) (ec : cell ≡ meaning_at (cells_of code) (cells_of values) at) where
    means : meaning_with g.known.routine (kind_in cell) (bool_in cell) (own_in cell) (value_in cell) ≡ meaning g.known.S (spelled g.known.W at)
    unfolding meaning_in
    means = name-means g.known code at cell g.is.name (g.loaded.words at (omega arith) (omega (arith, target-on))) ec

    module _ (s : ℕ) (es : s ≡ op_at (cells_of code) (at + 1)) where
      next-sort : s ≡ sort_in g.known.W (at + 1)
      next-sort = es ∙ target-sort (at + 1) (omega arith) (omega (arith, target-on))

      pub element-stands : s ≡ open_brace → Elements code values cell at
      element-stands b = record { targets = g; brace = sym next-sort ∙ b; means = means }

      module _ (no : s ≡ open_brace → ⊥) where
        plain-is : (g.t.index ≡ none) × (g.to ≡ at + 1)
        plain-is = index-none (sort_in g.known.W) (Parses (sort_in g.known.W)) g.is.index (λ q. no (next-sort ∙ q))

        plain-wrong : (rule : Rule) → (kind_in cell ≡ a_variable → ⊥) → WrongName (kind_in cell) rule → First (record { number = number_of rule; at = at }) (judge_target g.known.W g.known.S g.t).faults
        plain-wrong rule d w =
            let M = meaning g.known.S (spelled g.known.W at) in
            target_first g.known.W g.known.S (record { number = number_of rule; at = at }) [] g.is
            (ap (λ (x : types.Judged). x.faults) (judged-scalar g.known.W g.known.S g.t at g.is.named plain-is.0)
            ∙ scalar-wrong M at (number_of rule) (ap variable_in (sym means) ∙ no-variable g.known.routine (kind_in cell) (bool_in cell) (own_in cell) (value_in cell) d)
            (ap wrong_name (sym means) ∙ w.is g.known.routine (bool_in cell) (own_in cell) (value_in cell)))

        module _ (k : kind_in cell ≡ a_variable) where
          plain-means : variable_in (meaning g.known.S (spelled g.known.W at)) ≡ some (type_with (bool_in cell), ref_with (own_in cell) (value_in cell))
          unfolding meaning_with variable_in
          plain-means = ap variable_in (sym means) ∙ rw k

          plain-room : InRoom g.known.m g.known.n (ref_with (own_in cell) (value_in cell)) 1
          unfolding meaning_with Within
          plain-room = rw k at (subst (Within g.known.m g.known.n) (sym means) (g.known.within at g.is.name))

          plain-judged : judge_target g.known.W g.known.S g.t ≡ judged (type_with (bool_in cell)) [] (stored (ref_with (own_in cell) (value_in cell)))
          plain-judged =
              judged-scalar g.known.W g.known.S g.t at g.is.named plain-is.0
              ∙ scalar-right (meaning g.known.S (spelled g.known.W at)) at (type_with (bool_in cell)) (ref_with (own_in cell) (value_in cell)) plain-means

          plain-fine : (type : ValueType) → TypeOf cell type → (after : List ℕ) → Linked code after at (a_target + own_in cell) (value_in cell) (link_at (cells_of code) at)
              → Fine (judge_target g.known.W g.known.S g.t).faults code after at g.to (at + 1)
              (Aimed g.known.m g.known.n (cells_of code) (cells_of after) (judge_target g.known.W g.known.S g.t) (spot_of g.known.W g.known.S g.t) at g.to type)
          plain-fine type ty after l =
              let term = ap (λ (x : types.Judged). x.term) plain-judged ∙ judged-term _ _ _ in
              record {
                none = ap (λ (x : types.Judged). x.faults) plain-judged ∙ judged-faults _ _ _;
                next-is = sym plain-is.1;
                written = record {
                  type-is = ty.is ∙ sym (ap (λ (x : types.Judged). x.type) plain-judged ∙ judged-type _ _ _ refl);
                  target = record {
                    k = own_in cell;
                    v = value_in cell;
                    op-is = l.op-is;
                    value-is = l.value-is;
                    aims = scalar-aims (record {
                      few = omega arith;
                      room = plain-room;
                      spot_is = spot-scalar g.known.W g.known.S g.t (ref_with (own_in cell) (value_in cell)) term;
                      end = plain-is.1;
                    });
                    quiet = λ i a b. absurd (omega (arith, plain-is.1));
                  };
                  place = l.place_is;
                };
                kept = kept-wider l.kept at g.to (omega arith) (omega (arith, target-on));
              }

module _ (code values : List ℕ) (at cell : ℕ) (ec : cell ≡ meaning_at (cells_of code) (cells_of values) at) (s : ℕ) (es : s ≡ op_at (cells_of code) (at + 1)) where
  pub target-element : s ≡ open_brace → (after : List ℕ) (r : Judged) → ElementJudged code values after cell at r → TargetJudged code values after at r
  unfolding element-stands
  target-element b after r j = record { is = λ g. j.is (element-stands code values at g cell ec s es b) }

  module _ (no : s ≡ open_brace → ⊥) (k : ℕ) (ek : k ≡ kind_in cell) where
    pub target-wrong : (rule : Rule) → (k ≡ a_variable → ⊥) → WrongName k rule → TargetJudged code values code at (Err (record { rule = rule; word = at }))
    target-wrong rule d w = record {
      is = λ g. aim-first _ _ _ _ code code at g.to (Err (record { rule = rule; word = at })) _ refl refl
          (plain-wrong code values at g cell ec s es no rule (λ e. d (ek ∙ e)) (subst (λ (x : ℕ). WrongName x rule) ek w));
    }

    pub target_right : k ≡ a_variable → (own value : ℕ) → own ≡ own_in cell → value ≡ value_in cell → (type : ValueType) → TypeOf cell type
        → (after : List ℕ) → Linked code after at (a_target + own) value (link_at (cells_of code) at) → TargetJudged code values after at (Ok (type, at + 1))
    target_right e own value eo ev type ty after l = record {
      is = λ g. aim-fine _ _ _ _ code after at g.to type (at + 1) (plain-fine code values at g cell ec s es no (sym ek ∙ e) type ty after (rw (eo, ev) at l));
    }

-- ---- an element
module _ (code values : List ℕ) (cell at : ℕ) (g : Elements code values cell at) where
  braces : InBraces (sort_in g.targets.known.W) (Parses (sort_in g.targets.known.W)) g.targets.t.index (at + 1) g.targets.to
  braces = index-some (sort_in g.targets.known.W) (Parses (sort_in g.targets.known.W)) g.targets.is.index g.brace

  -- the index stands from at + 2 up to the brace
  index_at : Parses (sort_in g.targets.known.W) nestings (at + 2) braces.e braces.n
  index_at = let q : at + 1 + 1 ≡ at + 2 = omega arith in subst (λ (i : ℕ). Parses (sort_in g.targets.known.W) nestings i braces.e braces.n) q braces.inside

  index_on : at + 2 < braces.n
  index_on = grows g.targets.known.W nestings (at + 2) braces.e braces.n index_at

  index-load : Loaded g.targets.known.W code (at + 2) braces.n
  index-load = loaded-part g.targets.known.W code at g.targets.to (at + 2) braces.n g.targets.loaded (omega arith) (omega (arith, braces.after))

  index-no : level_of (sort_in g.targets.known.W braces.n) ≡ 0
  index-no = no-operator _ _ braces.closes level-brace

  pub index-stands : answers.Stands code values disjunctions (at + 2)
  index-stands = asks g.targets.known g.targets.sorts nestings (at + 2) braces.e braces.n index_at index-load index-no (omega arith)

  pub element-small : at + 2 < word_limit
  element-small = omega (arith, index_on, index-load.last)

  module _ (mid : List ℕ) (r : Judged) (o : Typed code values mid false Num (at + 2) r) where
    index-long : length mid ≡ length code
    index-long = typed_long g.targets.known g.targets.sorts nestings (at + 2) braces.e braces.n index_at index-load index-no (omega arith) mid Num a_num refl r o

    module _ (b : ValueType) (end : ℕ) (e : r ≡ Ok (b, end)) where
      index-told : Told g.targets.known (of_type g.targets.known.W (a_num) g.targets.known.S braces.e) code mid braces.e (at + 2) braces.n end
      index-told = typed-told g.targets.known g.targets.sorts nestings (at + 2) braces.e braces.n index_at index-load index-no (omega arith) mid Num a_num refl r o b end e

      pub index-fits : Fits w64 (end + 1)
      index-fits = record { fits = omega (arith, index-told.next-is, index-load.last) }

      pub index-end : (end < word_limit) × (at * 8 + 8 ≤ length mid) × ((at + 1) * 8 + 8 ≤ length mid)
      index-end =
          (omega (arith, index-told.next-is, index-load.last), omega (arith, index_on, index-load.room, index-long), omega (arith, index_on, index-load.room, index-long))

  array-wrong : (rule : Rule) → (kind_in cell ≡ an_array → ⊥) → WrongName (kind_in cell) rule
      → First (record { number = number_of rule; at = at }) (judge_target g.targets.known.W g.targets.known.S g.targets.t).faults
  array-wrong rule d w =
      let W = g.targets.known.W in
      let S = g.targets.known.S in
      let M = meaning S (spelled W at) in
      target_first W S (record { number = number_of rule; at = at }) (judge W false S braces.e).faults g.targets.is
      (ap (λ (x : types.Judged). x.faults) (judged-element W S g.targets.t at g.targets.is.named braces.e braces.is)
      ∙ element-wrong M at (number_of rule) braces.e (judge W false S braces.e) (ap array_in (sym g.means) ∙ no-array g.targets.known.routine (kind_in cell) (bool_in cell) (own_in cell) (value_in cell) d)
      (ap wrong_name (sym g.means) ∙ w.is g.targets.known.routine (bool_in cell) (own_in cell) (value_in cell)))

  module _ (k : kind_in cell ≡ an_array) where
    array-means : array_in (meaning g.targets.known.S (spelled g.targets.known.W at)) ≡ some (type_with (bool_in cell), ref_with (own_in cell) (first_in (value_in cell)), size_in (value_in cell))
    unfolding meaning_with array_in
    array-means = ap array_in (sym g.means) ∙ rw k

    array-room : InRoom g.targets.known.m g.targets.known.n (ref_with (own_in cell) (first_in (value_in cell))) (size_in (value_in cell))
    unfolding meaning_with Within
    array-room = rw k at (subst (Within g.targets.known.m g.targets.known.n) (sym g.means) (g.targets.known.within at g.targets.is.name))

    array-judged : judge_target g.targets.known.W g.targets.known.S g.targets.t
        ≡ judged (type_with (bool_in cell)) (of_type g.targets.known.W (a_num) g.targets.known.S braces.e)
        (element_at (ref_with (own_in cell) (first_in (value_in cell))) (size_in (value_in cell)) (term_of g.targets.known.W g.targets.known.S braces.e))
    unfolding of_type term_of
    array-judged =
        judged-element g.targets.known.W g.targets.known.S g.targets.t at g.targets.is.named braces.e braces.is
        ∙ element-is (meaning g.targets.known.S (spelled g.targets.known.W at)) at braces.e (judge g.targets.known.W false g.targets.known.S braces.e)
        (type_with (bool_in cell), ref_with (own_in cell) (first_in (value_in cell)), size_in (value_in cell)) array-means

    module _ (mid : List ℕ) (r : Judged) (o : Typed code values mid false Num (at + 2) r) where
      index-first : (broken : Breach) → r ≡ Err broken → First (as_fault broken) (judge_target g.targets.known.W g.targets.known.S g.targets.t).faults
      index-first broken e =
          subst (First (as_fault broken)) (sym (ap (λ (x : types.Judged). x.faults) array-judged ∙ judged-faults _ _ _))
          (typed-first g.targets.known g.targets.sorts nestings (at + 2) braces.e braces.n index_at index-load index-no (omega arith) mid Num a_num refl r o broken e)

      module _ (b : ValueType) (end : ℕ) (e : r ≡ Ok (b, end)) where
        abbrev told : Told g.targets.known (of_type g.targets.known.W (a_num) g.targets.known.S braces.e) code mid braces.e (at + 2) braces.n end
        told = index-told mid r o b end e

        module _ (one : List ℕ) (l : Linked mid one at (a_target + 2 + own_in cell) (value_in cell) (link_at (cells_of mid) at)) (after : List ℕ)
            (x : Linked one after (at + 1) (op_at (cells_of one) (at + 1)) (value_at (cells_of one) (at + 1)) end) where
          -- the brace's word has its op still
          brace-op : op_at (cells_of after) (at + 1) ≡ open_brace
          brace-op =
              x.op-is ∙ ap op_in (head-above l.kept (at + 1) (omega arith)) ∙ ap op_in (head-below told.kept (at + 1) (omega arith))
              ∙ (g.targets.loaded.words (at + 1) (omega arith) (omega (arith, braces.after, index_on))).sort ∙ g.brace

          close-op : op_at (cells_of after) braces.n ≡ close_brace
          close-op =
              ap op_in (head-above x.kept braces.n (omega (arith, index_on)) ∙ head-above l.kept braces.n (omega (arith, index_on)) ∙ head-above told.kept braces.n (omega arith))
              ∙ (g.targets.loaded.words braces.n (omega (arith, index_on)) (omega (arith, braces.after))).sort ∙ braces.closes

          element-kept : Kept code after at g.targets.to
          element-kept =
              kept_on (kept_on (kept-wider told.kept at g.targets.to (omega arith) (omega (arith, braces.after))) (kept-wider l.kept at g.targets.to (omega arith) (omega (arith, braces.after, index_on))))
              (kept-wider x.kept at g.targets.to (omega arith) (omega (arith, braces.after, index_on)))

          element-quiet : Quiet (cells_of after) (at + 1) g.targets.to
          element-quiet =
              let q : at + 1 + 1 ≡ at + 2 = omega arith in
              let inner = quiet-above x.kept (at + 2) braces.n (omega arith) (quiet-above l.kept (at + 2) braces.n (omega arith) told.quiet) in
              subst (λ (i : ℕ). Quiet (cells_of after) (at + 1) i) (sym braces.after)
              (quiet-append (cells_of after) (at + 1) (at + 1 + 1) (braces.n + 1)
              (quiet_word (cells_of after) (at + 1) (low-still (op_at (cells_of after) (at + 1)) (omega (arith, brace-op))))
              (subst (λ (i : ℕ). Quiet (cells_of after) i (braces.n + 1)) (sym q)
              (quiet-append (cells_of after) (at + 2) braces.n (braces.n + 1) inner (quiet_word (cells_of after) braces.n (low-still (op_at (cells_of after) braces.n) (omega (arith, close-op)))))))

          element-fine : (type : ValueType) → TypeOf cell type → Fine (judge_target g.targets.known.W g.targets.known.S g.targets.t).faults code after at g.targets.to (end + 1)
              (Aimed g.targets.known.m g.targets.known.n (cells_of code) (cells_of after) (judge_target g.targets.known.W g.targets.known.S g.targets.t) (spot_of g.targets.known.W g.targets.known.S g.targets.t) at g.targets.to type)
          element-fine type ty =
              let f = told.none in
              let head = head-below x.kept at (omega arith) in
              record {
                none = ap (λ (y : types.Judged). y.faults) array-judged ∙ judged-faults _ _ _ ∙ f;
                next-is = ap (λ (i : ℕ). i + 1) told.next-is ∙ sym braces.after;
                written = record {
                  type-is = ty.is ∙ sym (ap (λ (y : types.Judged). y.type) array-judged ∙ judged-type _ _ _ f);
                  target = record {
                    k = own_in cell + 2;
                    v = value_in cell;
                    op-is = ap op_in head ∙ l.op-is ∙ omega arith;
                    value-is = ap value_in head ∙ l.value-is;
                    aims = element-aims (record {
                      own = own_in cell;
                      op-is = refl;
                      few = omega arith;
                      room = array-room;
                      z = braces.n;
                      t = term_of g.targets.known.W g.targets.known.S braces.e;
                      link-is = x.link-is ∙ told.next-is;
                      index = term-above x.kept g.targets.known.m g.targets.known.n (at + 2) braces.n _ (omega arith)
                          (term-above l.kept g.targets.known.m g.targets.known.n (at + 2) braces.n _ (omega arith) told.term);
                      spot_is = spot-element g.targets.known.W g.targets.known.S g.targets.t _ _ _ (ap (λ (y : types.Judged). y.term) array-judged ∙ judged-term _ _ _);
                      end = braces.after;
                    });
                    quiet = element-quiet;
                  };
                  place = place-below x.kept at (omega arith) ∙ l.place_is ∙ place-below told.kept at (omega arith);
                };
                kept = element-kept;
              }

module _ (code values : List ℕ) (cell at : ℕ) where
  module _ (k : ℕ) (ek : k ≡ kind_in cell) where
    pub element-no-array : (rule : Rule) → (k ≡ an_array → ⊥) → WrongName k rule → ElementJudged code values code cell at (Err (record { rule = rule; word = at }))
    element-no-array rule d w = record {
      is = λ g. aim-first _ _ _ _ code code at g.targets.to (Err (record { rule = rule; word = at })) _ refl refl
          (array-wrong code values cell at g rule (λ e. d (ek ∙ e)) (subst (λ (x : ℕ). WrongName x rule) ek w));
    }

    module _ (is-array : k ≡ an_array) (mid : List ℕ) (r : Judged) (o : Typed code values mid false Num (at + 2) r) where
      of-kind : kind_in cell ≡ an_array
      of-kind = sym ek ∙ is-array

      pub element-faulty : (broken : Breach) → r ≡ Err broken → ElementJudged code values mid cell at r
      element-faulty broken e = record {
        is = λ g. aim-first _ _ _ _ code mid at g.targets.to r broken e (index-long code values cell at g mid r o) (index-first code values cell at g of-kind mid r o broken e);
      }

      pub element-typed : (b : ValueType) (end : ℕ) → r ≡ Ok (b, end) → (own value : ℕ) → own ≡ own_in cell → value ≡ value_in cell
          → (one : List ℕ) → Linked mid one at (a_target + 2 + own) value (link_at (cells_of mid) at) → (after : List ℕ)
          → Linked one after (at + 1) (op_at (cells_of one) (at + 1)) (value_at (cells_of one) (at + 1)) end → (type : ValueType) → TypeOf cell type → ElementJudged code values after cell at (Ok (type, end + 1))
      element-typed b end e own value eo ev one l after x type ty = record {
        is = λ g. aim-fine _ _ _ _ code after at g.targets.to type (end + 1) (element-fine code values cell at g of-kind mid r o b end e one (rw (eo, ev) at l) after x type ty);
      }
