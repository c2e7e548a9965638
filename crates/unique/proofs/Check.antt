-- What the promises of the walk settle: its answer, and what of the stores no piece may write. What a piece writes of itself is promised by what a run reads there (D80).
-- What a function asks of its callers (`Stands`, `Asks`, `Begins`, ..) is what each theorem asks: of other stores nothing is promised.
use Rattle.std.specs.Prelude.{Ok, Err}
use mathlib.Core.Path.{◌≡◌, refl, sym, ap, ap₂, subst, ◌∙◌}
use mathlib.Core.Bool.{Bool}
use mathlib.Core.List.{List}
use mathlib.Core.Option.{some}
use Prim.Native.Nat.{ℕ, ◌+◌, ◌*◌}
use lib.ListN.{length}
use lib.IntN.{ℤ, pos, nat_abs, ◌+ℤ◌, -ℤ-+ℤ_cancel}
use Rattle.paper.specs.Words.{Word}
use Rattle.paper.specs.Terms.{Memory}
use Rattle.paper.specs.Trees.{Expr}
use Rattle.paper.specs.Names.{DataType, Scopes}
use Rattle.paper.specs.Types.{Fault}
use Rattle.paper.specs.Types as types
use Rattle.paper.specs.Expressions.{disjunctions, nestings}
use Rattle.paper.specs.Declarations.{Filling, no_data, declare_data, data_texts, routine_names, module_data}
use Rattle.paper.specs.Checks.{fors_in_list, list_faults}
use Rattle.store_cells.specs.Cells.{cells_of}
use Rattle.code.specs.Cells.{link_at}
use Rattle.code.specs.Steps.{numbered}
use Rattle.code.specs.Spans.{bias, term_in}
use Rattle.layout.specs.Broken.{as_fault}
use Rattle.layout.specs.Types.{type_in, type_said}
use Rattle.layout.specs.declared.types.ValueType.{ValueType}
use Rattle.faults.specs.Added.{data_faults, parameter_faults}
use Rattle.faults.specs.Left.{own_faults}
use Rattle.faults.proofs.Routines.{nothing-in-own}
use Rattle.check_heads.specs.Trees.{heads_for}
use Rattle.check_sites.specs.Sites.{the_module, a_routine, filling}
use Rattle.check_expressions.specs.Judgements.{Judged}
use Rattle.check_expressions.specs.Answers.{Sound, SaysUnder, Judges, Stands, Checked, OfType, Typed}
use Rattle.check_expressions.proofs.Unique.{expression-unique, of-type-unique, typed-unique}
use Rattle.check_constants.specs.Sizing.{Valued, Sized}
use Rattle.check_constants.specs.Answers.{HeldAs, Asks, Values, SaysSize, Sizes}
use Rattle.check_constants.specs.Answers as constants
use Rattle.check_names.specs.declared.Scope.{Scope}
use Rattle.check_names.specs.Scopes.{Walked, with_used, Grown, Stays, BackTo}
use Rattle.check_datum.specs.Answers as datum
use Rattle.check_declarations.specs.Answers.{DataStand, SaysModule, DeclaresModule, RoutineStands, routine_after, SaysRoutine, DeclaresRoutine}
use Rattle.check_parameters.specs.Answers.{ParametersStand, with_parameters, Opens, parameters_after, OtherWords, SaysParameters, DeclaresParameters}
use Rattle.check_leaving.specs.Answers.{Leaving}
use Rattle.check_leaving.specs.Answers as leaving
use Rattle.check_links.specs.Raw.{RawList}
use Rattle.check_around.specs.declared.Setting.{Setting}
use Rattle.check_around.specs.Around.{ground_of}
use Rattle.check_around.specs.Answers.{Stepped}
use Rattle.check_simple.specs.Answers as simple
use Rattle.check_compounds.specs.Parts.{ForHeads, ForHeaded, CaseValues, CaseValued}
use Rattle.check_statements.specs.Answers as statements
use Rattle.check_routines.specs.Answers as routines
use Rattle.unique.proofs.Answers.{no-first, same_answer, Comes, walk-unique, SameWalk, SameOutside, kept-unique, SameOthers, changed-unique, SameBut, first-link, SaySame, answer-unique}
use Rattle.unique.proofs.Names.{SameMeans, means-unique, SameFilled, filled-unique}
use Rattle.unique.proofs.Stores.{SameCells, same-cells}

-- ---- expressions
-- the answer; the code store outside of the expression; and where no rule is broken, the term that a run reads
pub record SameExpression {code values : List ℕ} {top at : ℕ} (k : Stands code values top at) (c d : List ℕ) (r s : Judged) : Type 0 where
  pub answer : r ≡ s
  pub outside : SameOutside c d at k.to
  pub term : (type : ValueType) (next : ℕ) → r ≡ Ok (type, next) → term_in k.known.m k.known.n (cells_of c) at k.to ≡ term_in k.known.m k.known.n (cells_of d) at k.to

module _ (code values c d : List ℕ) (only : Bool) (at : ℕ) (r s : Judged) where
  same-expression : {top : ℕ} (k : Stands code values top at) (j : types.Judged) → Judges k.known.m k.known.n code c at k.to j r → Judges k.known.m k.known.n code d at k.to j s
      → r ≡ s → SameExpression k c d r s
  unfolding SaysUnder
  same-expression k j p q e = record {
    answer = e;
    outside = kept-unique code c d at k.to p.kept q.kept;
    term = λ type next t. both type next (subst (SaysUnder nestings k.known.m k.known.n (cells_of c) at k.to j) t p.says) (subst (SaysUnder nestings k.known.m k.known.n (cells_of d) at k.to j) (sym e ∙ t) q.says);
  }
    where
      both : (type : ValueType) (next : ℕ) → Sound k.known.m k.known.n (cells_of c) at k.to j type next → Sound k.known.m k.known.n (cells_of d) at k.to j type next
          → term_in k.known.m k.known.n (cells_of c) at k.to ≡ term_in k.known.m k.known.n (cells_of d) at k.to
      both type next p q = p.stands ∙ sym q.stands

  pub expression-same : (top : ℕ) (k : Stands code values top at) → Checked code values c only top at r → Checked code values d only top at s → SameExpression k c d r s
  expression-same top k p q = same-expression k _ (p.is k) (q.is k) (expression-unique code values c d only top at r s k p q)

  pub of-type-same : (wants : ℕ) (k : Stands code values disjunctions at) (t : DataType) → type_said wants ≡ some t → OfType code values c only wants at r → OfType code values d only wants at s
      → SameExpression k c d r s
  of-type-same wants k t w p q = same-expression k _ (p.is k t w) (q.is k t w) (of-type-unique code values c d only wants at t r s w k p q)

  pub typed-same : (wants : ValueType) (k : Stands code values disjunctions at) (t : DataType) → type_in wants ≡ t → Typed code values c only wants at r → Typed code values d only wants at s
      → SameExpression k c d r s
  typed-same wants k t w p q = same-expression k _ (p.is k t w) (q.is k t w) (typed-unique code values c d only wants at t r s w k p q)

-- ---- constants
pub held-unique : (v : ℤ) (r s : ℕ) → HeldAs v r → HeldAs v s → r ≡ s
held-unique v r s p q = ap nat_abs (sum r p ∙ sym (sum s q))
  where
    sum : (r : ℕ) → HeldAs v r → pos r ≡ v +ℤ pos bias
    sum r p = sym (-ℤ-+ℤ_cancel (pos r) (pos bias)) ∙ ap (λ (z : ℤ). z +ℤ pos bias) p.is

module _ (W : List Word) (S : Scopes) (M : Memory) (e : Expr) (to : ℕ) where
  same-valued : (t : DataType) (r s : Valued) → constants.Says W t S M e to r → constants.Says W t S M e to s → r ≡ s
  unfolding constants.Says
  same-valued t (Ok (u, m)) (Ok (v, n)) p q = ap₂ (λ (z : ℤ) (next : ℕ). Ok (z, next)) (p.is ∙ sym q.is) (p.next-is ∙ sym q.next-is)
  same-valued t (Ok (u, m)) (Err g) p q = no-first _ (as_fault g) p.none q
  same-valued t (Err f) (Ok (v, n)) p q = no-first _ (as_fault f) q.none p
  same-valued t (Err f) (Err g) p q = ap Err (same_answer _ f g p q)

  same-sized : (r s : Sized) → SaysSize W S M e to r → SaysSize W S M e to s → r ≡ s
  unfolding SaysSize
  same-sized (Ok (u, m)) (Ok (v, n)) p q = ap₂ (λ (size next : ℕ). Ok (size, next)) (p.is ∙ sym q.is) (p.next-is ∙ sym q.next-is)
  same-sized (Ok (u, m)) (Err g) p q = no-first _ (as_fault g) p.none q
  same-sized (Err f) (Ok (v, n)) p q = no-first _ (as_fault f) q.none p
  same-sized (Err f) (Err g) p q = ap Err (same_answer _ f g p q)

-- the answer, and the code store outside of the expression
module _ (code values c d : List ℕ) (at : ℕ) (a : Asks code values at) where
  pub constant-unique : (wants : ValueType) (r s : Valued) → Values code values c wants at r → Values code values d wants at s → (r ≡ s) × SameOutside c d at a.stands.to
  constant-unique wants r s p q =
      (same-valued _ _ _ _ _ (type_in wants) r s (p.says a _ refl) (q.says a _ refl), kept-unique code c d at a.stands.to (p.kept a) (q.kept a))

  pub size-unique : (r s : Sized) → Sizes code values c at r → Sizes code values d at s → (r ≡ s) × SameOutside c d at a.stands.to
  size-unique r s p q = (same-sized _ _ _ _ _ r s (p.says a) (q.says a), kept-unique code c d at a.stands.to (p.kept a) (q.kept a))

-- ---- declarations
-- the answer; where no rule is broken, the cells outside of what is walked over, and what the value store says
grown : (before end : Scope) (used : ℕ) → Grown before end → end.used ≡ used → end ≡ with_used used before
grown before end used g e = g.rest ∙ ap (λ (u : ℕ). with_used u before) e

-- what is promised of an answer (`P`, `Q`), and what follows of it where no rule is broken
same-walk : (r s : Walked) (fs : List Fault) (to : ℕ) (end : Scope) (P Q : Walked → Type 0) (holds : Type 0) → ((x : Walked) → P x → Comes fs to end x) → ((x : Walked) → Q x → Comes fs to end x)
    → ((next : ℕ) (scope : Scope) → P (Ok (next, scope)) → Q (Ok (next, scope)) → holds) → P r → Q s → SameWalk r s holds
same-walk r s fs to end P Q holds one other both p q =
    let e = walk-unique fs to end r s (one r p) (other s q) in
    record { answer = e; stores = λ next scope k. both next scope (subst P k p) (subst Q (sym e ∙ k) q) }

module _ (code values c d v w : List ℕ) (r s : Walked) where
  module _ (scope : Scope) (own limit i : ℕ) (b : datum.Begins code values own limit scope.used i) where
    abbrev DatumSays : (c v : List ℕ) → Walked → Type 0
    DatumSays c v x = datum.Says b c v x × Stays scope x

    datum-comes : (c v : List ℕ) (x : Walked) → DatumSays c v x → Comes (datum.faults_of b) b.to (with_used (length (datum.after b).words) scope) x
    unfolding Comes datum.Says
    datum-comes c v (Ok (next, end)) (p, g) = (p.none, p.next-is, grown scope end _ g p.used-is)
    datum-comes c v (Err broken) (p, g) = p

    abbrev DatumStores : Type 0
    DatumStores = SameOthers (cells_of c) (cells_of d) i b.to × SameFilled b.routine b.W b.s (datum.after b) v w

    datum-stores : (next : ℕ) (end : Scope) → DatumSays c v (Ok (next, end)) → DatumSays d w (Ok (next, end)) → DatumStores
    unfolding datum.Says
    datum-stores next end (p, g) (q, h) = (changed-unique (cells_of code) (cells_of c) (cells_of d) i b.to p.changed q.changed, filled-unique _ _ _ _ v w p.filled q.filled)

    pub datum-unique : datum.Declares code values c v own limit scope.used i r × Stays scope r → datum.Declares code values d w own limit scope.used i s × Stays scope s → SameWalk r s DatumStores
    datum-unique (p, g) (q, h) = same-walk r s _ _ _ (DatumSays c v) (DatumSays d w) DatumStores (datum-comes c v) (datum-comes d w) datum-stores (p.is b, g) (q.is b, h)

  module _ (before : Scope) (at : ℕ) (b : DataStand code values at) where
    abbrev module-filling : Filling
    module-filling = filling b.W (the_module b.routines)

    abbrev ModuleSays : (c v : List ℕ) → Walked → Type 0
    ModuleSays c v x = SaysModule b c v x × Stays before x

    module-comes : (c v : List ℕ) (x : Walked) → ModuleSays c v x
        → Comes (data_faults b.W module-filling b.ds no_data) b.to (with_used (length (declare_data b.W module-filling b.ds no_data).words) before) x
    unfolding Comes SaysModule
    module-comes c v (Ok (next, end)) (p, g) = (p.none, p.next-is, grown before end _ g p.used-is)
    module-comes c v (Err broken) (p, g) = p

    abbrev ModuleStores : Type 0
    ModuleStores = SameOthers (cells_of c) (cells_of d) at b.to × SameFilled b.routine b.W (the_module b.routines) (declare_data b.W module-filling b.ds no_data) v w

    module-stores : (next : ℕ) (end : Scope) → ModuleSays c v (Ok (next, end)) → ModuleSays d w (Ok (next, end)) → ModuleStores
    unfolding SaysModule
    module-stores next end (p, g) (q, h) = (changed-unique (cells_of code) (cells_of c) (cells_of d) at b.to p.changed q.changed, filled-unique _ _ _ _ v w p.filled q.filled)

    pub module-data-unique : DeclaresModule code values c v at r × Stays before r → DeclaresModule code values d w at s × Stays before s → SameWalk r s ModuleStores
    module-data-unique (p, g) (q, h) = same-walk r s _ _ _ (ModuleSays c v) (ModuleSays d w) ModuleStores (module-comes c v) (module-comes d w) module-stores (p.is b, g) (q.is b, h)

  module _ (before : Scope) (opens at : ℕ) (b : RoutineStands code values before.head before.used at) where
    abbrev RoutineSays : (c v : List ℕ) → Walked → Type 0
    RoutineSays c v x = SaysRoutine b c v opens x × Stays before x

    routine-comes : (c v : List ℕ) (x : Walked) → RoutineSays c v x
        → Comes (data_faults b.W (filling b.W (a_routine b.m)) b.ds b.D) b.to (with_used (length (routine_after b).words) before) x
    unfolding Comes SaysRoutine
    routine-comes c v (Ok (next, end)) (p, g) = (p.none, p.next-is, grown before end _ g p.used-is)
    routine-comes c v (Err broken) (p, g) = p

    -- the routine's first word may change too: its link leads to the first declaration
    abbrev RoutineStores : Type 0
    RoutineStores = SameBut (cells_of c) (cells_of d) (before.head * 2 + 1) at b.to × (link_at (cells_of c) before.head ≡ link_at (cells_of d) before.head) × SameFilled b.routine b.W (a_routine b.m) (routine_after b) v w

    routine-stores : (next : ℕ) (end : Scope) → RoutineSays c v (Ok (next, end)) → RoutineSays d w (Ok (next, end)) → RoutineStores
    unfolding SaysRoutine
    routine-stores next end (p, g) (q, h) = (
      record { below = λ k l n. p.below k l n ∙ sym (q.below k l n); above = λ k l. p.above k l ∙ sym (q.above k l) },
      first-link (cells_of c) (cells_of d) before.head _ opens p.chain q.chain,
      filled-unique _ _ _ _ v w p.filled q.filled,
    )

    pub routine-data-unique : DeclaresRoutine code values c v opens before.head before.used at r × Stays before r → DeclaresRoutine code values d w opens before.head before.used at s × Stays before s
        → SameWalk r s RoutineStores
    routine-data-unique (p, g) (q, h) =
        same-walk r s _ _ _ (RoutineSays c v) (RoutineSays d w) RoutineStores (routine-comes c v) (routine-comes d w) routine-stores (p.is b, g) (q.is b, h)

  module _ (entered : Scope) (b : ParametersStand code values entered.first) where
    abbrev ParametersSay : (c v : List ℕ) → Walked → Type 0
    ParametersSay c v x = SaysParameters b c v x × Opens entered x

    parameters-come : (c v : List ℕ) (x : Walked) → ParametersSay c v x
        → Comes (parameter_faults b.W (filling b.W (a_routine b.m)) b.ps no_data) b.to (with_parameters (length b.ps) entered) x
    unfolding Comes SaysParameters
    parameters-come c v (Ok (next, end)) (p, g) = (p.none, p.next-is, g.is ∙ ap (λ (used : ℕ). with_parameters used entered) p.used-is)
    parameters-come c v (Err broken) (p, g) = p

    -- all cells but those of the names' words
    abbrev ParameterStores : Type 0
    ParameterStores = OtherWords (cells_of d) (cells_of c) entered.first (length b.ps) × SameFilled b.routine b.W (a_routine b.m) (parameters_after b) v w

    parameter-stores : (next : ℕ) (end : Scope) → ParametersSay c v (Ok (next, end)) → ParametersSay d w (Ok (next, end)) → ParameterStores
    unfolding SaysParameters
    parameter-stores next end (p, g) (q, h) =
        (subst (OtherWords (cells_of d) (cells_of c) entered.first) p.used-is (record { is = λ k n. p.others.is k n ∙ sym (q.others.is k n) }), filled-unique _ _ _ _ v w p.filled q.filled)

    pub parameters-unique : DeclaresParameters code values c v entered.first r × Opens entered r → DeclaresParameters code values d w entered.first s × Opens entered s → SameWalk r s ParameterStores
    parameters-unique (p, g) (q, h) =
        same-walk r s _ _ _ (ParametersSay c v) (ParametersSay d w) ParameterStores (parameters-come c v) (parameters-come d w) parameter-stores (p.is b, g) (q.is b, h)

  -- ---- statements
  module _ (text : List ℕ) (k : Setting) (scope : Scope) (at : ℕ) (b : statements.Lists text code values k scope.used at) where
    abbrev Told : (c v : List ℕ) → Walked → Type 0
    Told c v x = statements.Tell (list_faults b.around.known.W b.around.K b.around.M b.l b.around.known.S scope.used) code c values v at b.to (scope.used + fors_in_list b.l)
        (RawList (ground_of b.around) b.around.known.n (cells_of c) b.l b.around.known.S scope.used at b.to) x × Stays scope x

    list-comes : (c v : List ℕ) (x : Walked) → Told c v x → Comes (list_faults b.around.known.W b.around.K b.around.M b.l b.around.known.S scope.used) b.to (with_used (scope.used + fors_in_list b.l) scope) x
    unfolding Comes statements.Tell
    list-comes c v (Ok (next, end)) (p, g) = (p.none, p.next-is, grown scope end _ g p.used-is)
    list-comes c v (Err broken) (p, g) = p

    abbrev ListStores : Type 0
    ListStores = SameOthers (cells_of c) (cells_of d) at b.to × SameCells v w

    list-stores : (next : ℕ) (end : Scope) → Told c v (Ok (next, end)) → Told d w (Ok (next, end)) → ListStores
    unfolding statements.Tell
    list-stores next end (p, g) (q, h) = (
      record { below = λ k l. p.outside.below k l ∙ sym (q.outside.below k l); above = λ k l. p.outside.above k l ∙ sym (q.outside.above k l) },
      same-cells v w (p.same.words ∙ sym q.same.words) (p.same.long ∙ sym q.same.long),
    )

    pub list-unique : statements.Listed text code values c v k scope.used at r × Stays scope r → statements.Listed text code values d w k scope.used at s × Stays scope s → SameWalk r s ListStores
    list-unique (p, g) (q, h) = same-walk r s _ _ _ (Told c v) (Told d w) ListStores (list-comes c v) (list-comes d w) list-stores ((p.is b).tells, g) ((q.is b).tells, h)

-- a routine left: its scope, the cells before the table, and what names mean
pub leave-unique : (scope outer : Scope) (code values v w : List ℕ) (r s : Scope) (l : Leaving code values scope.first scope.names scope.head) → leaving.Leaves scope outer code values v r
    → leaving.Leaves scope outer code values w s → (r ≡ s) × leaving.SameWords w v × SameMeans l.routine l.W (cells_of v) (cells_of w)
leave-unique scope outer code values v w r s l p q =
    (p.scope-is ∙ sym q.scope-is, record { is = λ k h. p.same.is k h ∙ sym (q.same.is k h) }, means-unique _ _ _ _ _ (p.means l) (q.means l))

-- ---- pieces of statements: the next word and the store outside of the piece, or the first fault
module _ (code values c d : List ℕ) (r s : Stepped) where
  pub statement-unique : (text : List ℕ) (k : Setting) (at : ℕ) (g : simple.Statement text code values k at) → simple.Stated text code values c k at r → simple.Stated text code values d k at s
      → SaySame c d at (g.stands.to + 1) r s
  statement-unique text k at g p q = answer-unique _ code c d at (g.stands.to + 1) _ _ r s (p.is g) (q.is g)

  pub for-head-unique : (used i : ℕ) (g : ForHeads code values used i) → ForHeaded code values c used i r → ForHeaded code values d used i s → SaySame c d (i + 2) g.do_at r s
  for-head-unique used i g p q = answer-unique _ code c d (i + 2) g.do_at _ _ r s (p.is g) (q.is g)

  pub case-values-unique : (at : ℕ) (g : CaseValues code values at) → CaseValued code values c at r → CaseValued code values d at s → SaySame c d at g.n r s
  case-values-unique at g p q = answer-unique _ code c d at g.n _ _ r s (p.is g) (q.is g)

-- ---- a routine
-- the cells of all words but its own, and what the value store says of the module
abbrev pub SameRest : {text code values : List ℕ} {k h : ℕ} → routines.Begins text code values k h → (c d v w : List ℕ) → Type 0
SameRest {h = h} b c d v w =
    let W = b.stands.W in
    let m = b.stands.m in
    SameOthers (cells_of c) (cells_of d) h b.stands.to
    × SameFilled (numbered (heads_for m.routines)) W (the_module (routine_names W (data_texts W m.declared) 0 m.routines)) (module_data W m) v w

module _ (text code values c d v w : List ℕ) (outer : Scope) (k h : ℕ) (r s : Walked) (b : routines.Begins text code values k h) where
  abbrev Own : List Fault
  Own = own_faults b.stands.W b.stands.m b.stands.earlier k b.stands.r

  abbrev Passed : (c v : List ℕ) → Walked → Type 0
  Passed c v x = routines.Says b c v x × BackTo outer x

  routine-passes : (c v : List ℕ) (x : Walked) → Passed c v x → Comes Own b.stands.to outer x
  unfolding Comes routines.Says
  routine-passes c v (Ok (next, end)) (p, g) =
      (nothing-in-own b.stands.W b.stands.m b.stands.earlier k b.stands.r p.none-in-head p.goes.none, p.goes.next-is, g)
  routine-passes c v (Err broken) (p, g) = p

  rest-same : (next : ℕ) (end : Scope) → Passed c v (Ok (next, end)) → Passed d w (Ok (next, end)) → SameRest b c d v w
  unfolding routines.Says
  rest-same next end (p, g) (q, f) = (
    record { below = λ i l. p.goes.below i l ∙ sym (q.goes.below i l); above = λ i l. p.goes.above i l ∙ sym (q.goes.above i l) },
    filled-unique _ _ _ _ v w p.goes.filled q.goes.filled,
  )

  pub routine-unique : routines.Checks text code values c v k h r × BackTo outer r → routines.Checks text code values d w k h s × BackTo outer s → SameWalk r s (SameRest b c d v w)
  routine-unique (p, g) (q, f) = same-walk r s _ _ _ (Passed c v) (Passed d w) (SameRest b c d v w) (routine-passes c v) (routine-passes d w) rest-same (p.is b, g) (q.is b, f)
