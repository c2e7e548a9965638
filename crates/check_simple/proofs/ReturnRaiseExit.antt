-- RETURN, RAISE and the statements of one word.
use mathlib.Core.Path.{◌≡◌, refl, sym, ap, ap₂, subst, ◌∙◌}
use mathlib.Core.Bool.{Bool, true, false, not, ◌||◌}
use mathlib.Core.List.{List, [], ◌++◌}
use mathlib.Core.Option.{Option, none, some}
use Prim.Native.Nat.{ℕ, suc, ◌+◌}
use native.Mathlib.Omega.{arith}
use lib.ListN.{length}
use borrow.Author.Tests.{not-true, not-false}
use Rattle.laws.proofs.Tests.{test}
use Rattle.paper.specs.Trees.{Expr, Simple, returns, raises, exits, retries, tries_next}
use Rattle.paper.specs.Expressions.{nestings}
use Rattle.paper.specs.Words.{Word}
use Rattle.paper.specs.Names.{DataType, a_num, Scopes, sort_in}
use Rattle.paper.specs.Types.{Fault, fault, fault_if, faults_of, of_type}
use Rattle.paper.specs.Checks.{is_some, in_error, in_undo, return_faults, simple_faults}
use Rattle.paper.specs.Checks as checks
use Rattle.store_cells.specs.Cells.{cells_of}
use Rattle.code.specs.Cells.{op_at}
use Rattle.grammar.specs.Form.{Parses, ExprAt, OptionalAt, no_value, a-value}
use Rattle.grammar.proofs.Inversions.{WithOptional, Given, Alone, simple-return, simple-raise, simple-exit, simple-retry, simple-trynext, optional-none, optional-some}
use Rattle.check_around.specs.Answers.{Stepped}
use Rattle.std.specs.Prelude.{Err, Some, None}
use Rattle.std.specs.Prelude as prelude
use Rattle.std.specs.Option as options
use Rattle.layout.specs.declared.rules.Rule.TheVariants.{Barred}
use Rattle.store_writing.proofs.Keeping.{kept-wider}
use Rattle.check_expressions.proofs.Starts.{loaded-part}
use Rattle.faults.specs.First.{Inside, Leads, First}
use Rattle.faults.proofs.First.{first-fault, first-if, first-left, leads-later}
use Rattle.faults.proofs.Expressions.{faults-of-inside, of-type-inside}
use Rattle.check_links.specs.Raw.{RawWord, RawValued, RawDoes}
use Rattle.check_around.specs.declared.Setting.{Setting}
use Rattle.check_around.specs.Around.{ground_of, Tells}
use Rattle.check_around.proofs.WhichLists.{is_body, is_handler, is_undo, in-handler, in-undo, in-body}
use Rattle.check_simple.specs.Answers.{Stands, Answers, Statement, Stated}
use Rattle.check_simple.specs.Parts.{BeginsIn, BegunIn, Values, Valued}
use Rattle.check_simple.specs.Parts as parts
use Rattle.check_simple.proofs.SimpleStatements.{stands_on, stands-sort, stated-first, stated-fine, stated-on}
use Rattle.code.specs.Steps.{a_return_of, a_return, a_raise_of, a_raise, an_exit, a_retry, a_try_next}
use Rattle.layout.specs.Rules.{barred}
use Rattle.layout.specs.Types.{type_in, given_back}
use Rattle.layout.specs.declared.types.ValueType.{ValueType}
use Rattle.layout.specs.declared.types.ValueType.TheVariants.{Num}
use Rattle.paper.specs.Sorts.{semicolon, EXIT, RAISE, RETRY, RETURN, TRYNEXT}

-- ---- one word
module _ (code values : List ℕ) (at : ℕ) (g : Stands code values at) (s : Simple) (is : g.s ≡ s) (one : g.to ≡ at + 1) (op : ℕ) (fine : Bool) (after : List ℕ) (r : Stepped) (a : parts.Alone code after op fine at r) where
  -- where it may stand
  pub word-fine : fine ≡ true → simple_faults g.around.known.W g.around.K g.around.known.S s ≡ []
      → (RawWord (cells_of after) op at (g.to + 1) → RawDoes (ground_of g.around) g.around.known.n (cells_of after) g.around.known.S s at (g.to + 1) (g.to + 1)) → Answers g after r
  word-fine t n d =
      let y = a.yes t in
      let l = y.0 in
      let two : at + 2 ≡ g.to + 1 = omega (arith, one) in
      subst (Answers g after) (sym y.1)
      (stated-fine code values at g s is after (at + 2) n two (kept-wider l.kept at (g.to + 1) (omega arith) (omega (arith, one))) l.place_is (d (record { is = l.op-is; leaves = l.link-is ∙ two })))

  -- and where it may not: "17"
  pub word-broken : fine ≡ false → First (record { number = barred; at = at }) (simple_faults g.around.known.W g.around.K g.around.known.S s) → Answers g after r
  word-broken f x =
      let n = a.no f in
      stated-first code values at g s is after r _ n.1 (ap length n.0) x

-- ---- an expression behind the first word
module _ (code values : List ℕ) (at : ℕ) (g : Stands code values at) (e : Expr) (stands : ExprAt (sort_in g.around.known.W) (Parses (sort_in g.around.known.W)) e (at + 1) g.to) where
  pub value-side : Values code values (at + 1) at
  value-side = record {
    text = g.text;
    around = g.around;
    e = e;
    to = g.to;
    value = stands;
    ends = g.ends;
    before = omega arith;
    loaded = loaded-part g.around.known.W code at g.to (at + 1) g.to g.unread.loaded (omega arith) (omega arith);
  }

-- ---- the setting
not-undo : (k : Setting) (K : checks.Setting) → Tells k K → is_undo k.list ≡ false → in_undo K.list ≡ false
not-undo k K t d = sym (in-undo k.list K.list t.list) ∙ d

result-none : (k : Setting) (K : checks.Setting) → Tells k K → k.result ≡ None → K.result ≡ none
result-none k K t e = t.result.is ∙ ap given_back e

result-some : (k : Setting) (K : checks.Setting) → Tells k K → (type : ValueType) → k.result ≡ Some type → K.result ≡ some (type_in type)
result-some k K t type e = t.result.is ∙ ap given_back e

given-none : (o : prelude.Option ValueType) → options.is_none o ≡ not (is_some (given_back o))
unfolding is_some
given-none None = refl
given-none (Some type) = refl

proc-faults : (W : List Word) (K : checks.Setting) (S : Scopes) (i : ℕ) (e : Expr) → K.result ≡ none → simple_faults W K S (returns i (some e)) ≡ fault barred i ++ faults_of W S e
unfolding simple_faults return_faults
proc-faults W K S i e n = rw (n, return_faults)

func-faults : (W : List Word) (K : checks.Setting) (S : Scopes) (i : ℕ) (e : Expr) (t : DataType) → in_undo K.list ≡ false → K.result ≡ some t → simple_faults W K S (returns i (some e)) ≡ of_type W t S e
unfolding simple_faults return_faults fault_if
func-faults W K S i e t u n = rw (n, return_faults) (rw u)

-- "Calls, RETRY, TRYNEXT, RAISE, RETURN and EXIT are barred there": a RETURN in UNDO, with a value or without
undo-faults : (W : List Word) (K : checks.Setting) (S : Scopes) (i : ℕ) {o : Option Expr} {to : ℕ} → in_undo K.list ≡ true → OptionalAt (sort_in W) (Parses (sort_in W)) o (i + 1) to
    → First (record { number = barred; at = i }) (simple_faults W K S (returns i o))
unfolding simple_faults return_faults
undo-faults W K S i u (no_value s z) = first-if (in_undo K.list || is_some K.result) barred i (ap (λ (b : Bool). b || is_some K.result) u)
undo-faults W K S i {to = to} u (a-value {e = e} f k) = by K.result refl
  where
    later : {fs : List Fault} → Inside (i + 1) to fs → Leads (record { number = barred; at = i }) fs
    later h = leads-later (record { number = barred; at = i }) h (omega arith)

    by : (o : Option DataType) → K.result ≡ o → First (record { number = barred; at = i }) (return_faults W K S i (some e))
    by none n = rw (n, return_faults) (first-left (first-fault barred i) (later (faults-of-inside W (suc nestings) (i + 1) e to k S)))
    by (some t) n = rw (n, return_faults) (first-left (first-if (in_undo K.list) barred i u) (later (of-type-inside W (suc nestings) (i + 1) e to k t S)))

-- ---- a word with an expression behind it, or with none: RETURN and RAISE
module _ (code values : List ℕ) (i : ℕ) (g : Stands code values i) (make : ℕ → Option Expr → Simple)
    (x : WithOptional (sort_in g.around.known.W) (Parses (sort_in g.around.known.W)) make g.s i g.to) (s : ℕ) (es : s ≡ op_at (cells_of code) (i + 1)) where
  abbrev faults : Option Expr → List Fault
  faults e = simple_faults g.around.known.W g.around.K g.around.known.S (make i e)

  abbrev does : (C : List ℕ) → Option Expr → Type 0
  does C e = RawDoes (ground_of g.around) g.around.known.n C g.around.known.S (make i e) i (g.to + 1) (g.to + 1)

  next-is : s ≡ sort_in g.around.known.W (i + 1)
  next-is = es ∙ stands-sort code values i g (i + 1) (omega arith) (omega (arith, stands_on code values i g))

  without : s ≡ semicolon → (x.e ≡ none) × (g.to ≡ i + 1)
  without e = optional-none (sort_in g.around.known.W) (Parses (sort_in g.around.known.W)) x.value (sym next-is ∙ e)

  -- the word alone, which may stand here or not
  word-alone : s ≡ semicolon → (op : ℕ) (fine : Bool) (after : List ℕ) (r : Stepped) → parts.Alone code after op fine i r
      → (fine ≡ true → (faults none ≡ []) × (RawWord (cells_of after) op i (g.to + 1) → does (cells_of after) none)) → (fine ≡ false → First (record { number = barred; at = i }) (faults none))
      → Answers g after r
  word-alone e op fine after r a fits breaks =
      let is : g.s ≡ make i none = x.is ∙ ap (make i) (without e).0 in
      test fine
      (λ t. word-fine code values i g (make i none) is (without e).1 op fine after r a t (fits t).0 (fits t).1)
      (λ t. word-broken code values i g (make i none) is (without e).1 op fine after r a t (breaks t))

  module _ (d : s ≡ semicolon → ⊥) where
    given : Given (sort_in g.around.known.W) (Parses (sort_in g.around.known.W)) x.e (i + 1) g.to
    given = optional-some (sort_in g.around.known.W) (Parses (sort_in g.around.known.W)) x.value (λ q. d (next-is ∙ q))

    given_is : g.s ≡ make i (some given.e)
    given_is = x.is ∙ ap (make i) given.is

    unfoldable given-values : Values code values (i + 1) i
    given-values = value-side code values i g given.e given.stands

    given-broken : First (record { number = barred; at = i }) (faults (some given.e)) → Answers g code (Err (record { rule = Barred; word = i }))
    given-broken f = stated-first code values i g (make i (some given.e)) given_is code (Err (record { rule = Barred; word = i })) _ refl refl f

    given-fine : (op : ℕ) (wants : ValueType) (t : DataType) → type_in wants ≡ t → faults (some given.e) ≡ of_type g.around.known.W t g.around.known.S given.e → (after : List ℕ)
        → (RawValued (ground_of g.around) g.around.known.n (cells_of after) g.around.known.S op given.e (i + 1) i (g.to + 1) (g.to + 1) → does (cells_of after) (some given.e))
        → (r : Stepped) → Valued code values after op wants (i + 1) i r → Answers g after r
    unfolding given-values value-side
    given-fine op wants t w fs after raw r v =
        stated-on code values i g (make i (some given.e)) given_is after _ code i (g.to + 1) _ r (v.is given-values t w) refl
        (λ y f. subst (First y) (sym fs) f)
        (λ next f. stated-fine code values i g (make i (some given.e)) given_is after next (fs ∙ f.none) f.next-is f.kept (f.written.places i (omega arith) (omega arith)) (raw f.written.raw))

-- ---- RETURN
module _ (k : Setting) (code values : List ℕ) (i : ℕ) (c : BeginsIn RETURN k code values i) where
  abbrev g : Stands code values i
  g = c.begins.stands

  return-is : WithOptional (sort_in g.around.known.W) (Parses (sort_in g.around.known.W)) returns g.s i g.to
  return-is = simple-return (sort_in g.around.known.W) (Parses (sort_in g.around.known.W)) g.is c.begins.here

  return-undo : is_undo k.list ≡ true → Answers g code (Err (record { rule = Barred; word = i }))
  return-undo e =
      let u : in_undo g.around.K.list ≡ true = sym (in-undo k.list g.around.K.list c.tells.list) ∙ e in
      stated-first code values i g (returns i return-is.e) return-is.is code (Err (record { rule = Barred; word = i })) _ refl refl
      (undo-faults g.around.known.W g.around.K g.around.known.S i u return-is.value)

  allowed : is_undo k.list ≡ false → in_undo g.around.K.list ≡ false
  allowed may = not-undo k g.around.K c.tells may

  module _ (s : ℕ) (es : s ≡ op_at (cells_of code) (i + 1)) where
    -- nothing is given back exactly in a PROC
    fine-in : (fine : Bool) → fine ≡ options.is_none k.result → fine ≡ not (is_some g.around.K.result)
    fine-in fine ef = ef ∙ given-none k.result ∙ ap (λ (o : Option DataType). not (is_some o)) (sym c.tells.result.is)

    return_alone : is_undo k.list ≡ false → s ≡ semicolon → (fine : Bool) → fine ≡ options.is_none k.result → (after : List ℕ) (r : Stepped) → parts.Alone code after a_return fine i r → Answers g after r
    unfolding simple_faults return_faults RawDoes ground_of fault_if
    return_alone may e fine ef after r a =
        word-alone code values i g returns return-is s es e a_return fine after r a
        (λ t.
        let n = not-true (is_some g.around.K.result) (sym (fine-in fine ef) ∙ t) in
        (ap₂ {C = List Fault} (λ (b o : Bool). fault_if (b || o) barred i) (allowed may) n, λ w. record { word = w; no-function = n }))
        (λ t.
        first-if (in_undo g.around.K.list || is_some g.around.K.result) barred i
        (ap₂ {C = Bool} (λ (b o : Bool). b || o) (allowed may) (not-false (is_some g.around.K.result) (sym (fine-in fine ef) ∙ t))))

    module _ (d : s ≡ semicolon → ⊥) where
      pub return-values : Values code values (i + 1) i
      return-values = given-values code values i g returns return-is s es d

      abbrev return-given : Given (sort_in g.around.known.W) (Parses (sort_in g.around.known.W)) return-is.e (i + 1) g.to
      return-given = given code values i g returns return-is s es d

      return-proc : k.result ≡ None → Answers g code (Err (record { rule = Barred; word = i }))
      return-proc z =
          given-broken code values i g returns return-is s es d
          (subst (First (record { number = barred; at = i })) (sym (proc-faults g.around.known.W g.around.K g.around.known.S i return-given.e (result-none k g.around.K c.tells z)))
          (first-left (first-fault barred i) (leads-later (record { number = barred; at = i }) (faults-of-inside g.around.known.W (suc nestings) (i + 1) return-given.e g.to return-given.stands g.around.known.S) (omega arith))))

      return-func : is_undo k.list ≡ false → (type : ValueType) → k.result ≡ Some type → (after : List ℕ) (r : Stepped) → Valued code values after a_return_of type (i + 1) i r → Answers g after r
      unfolding is_some RawDoes ground_of
      return-func may type z after r v =
          let n = result-some k g.around.K c.tells type z in
          given-fine code values i g returns return-is s es d a_return_of type (type_in type) refl
          (func-faults g.around.known.W g.around.K g.around.known.S i return-given.e (type_in type) (allowed may) n) after
          (λ w. record { valued = w; a-function = ap is_some n }) r v

-- what it answers
module _ (k : Setting) (code values : List ℕ) (i : ℕ) where
  pub returned-undo : is_undo k.list ≡ true → BegunIn RETURN k code values code i (Err (record { rule = Barred; word = i }))
  returned-undo e = record { is = λ c. return-undo k code values i c e }

  module _ (s : ℕ) (es : s ≡ op_at (cells_of code) (i + 1)) where
    pub returned-alone : is_undo k.list ≡ false → s ≡ semicolon → (fine : Bool) → fine ≡ options.is_none k.result → (after : List ℕ) (r : Stepped) → parts.Alone code after a_return fine i r → BegunIn RETURN k code values after i r
    returned-alone may e fine ef after r a = record { is = λ c. return_alone k code values i c s es may e fine ef after r a }

    module _ (d : s ≡ semicolon → ⊥) where
      pub returned-proc : k.result ≡ None → BegunIn RETURN k code values code i (Err (record { rule = Barred; word = i }))
      returned-proc z = record { is = λ c. return-proc k code values i c s es d z }

      pub returned-func : is_undo k.list ≡ false → (type : ValueType) → k.result ≡ Some type → (after : List ℕ) (r : Stepped) → Valued code values after a_return_of type (i + 1) i r → BegunIn RETURN k code values after i r
      returned-func may type z after r v = record { is = λ c. return-func k code values i c s es d may type z after r v }

-- ---- RAISE
module _ (k : Setting) (code values : List ℕ) (i : ℕ) (c : BeginsIn RAISE k code values i) where
  abbrev u : Stands code values i
  u = c.begins.stands

  raise-is : WithOptional (sort_in u.around.known.W) (Parses (sort_in u.around.known.W)) raises u.s i u.to
  raise-is = simple-raise (sort_in u.around.known.W) (Parses (sort_in u.around.known.W)) u.is c.begins.here

  handles : is_handler k.list ≡ in_error u.around.K.list
  handles = in-handler k.list u.around.K.list c.tells.list

  outside : is_body k.list ≡ not (in_undo u.around.K.list || in_error u.around.K.list)
  outside = in-body k.list u.around.K.list c.tells.list

  module _ (s : ℕ) (es : s ≡ op_at (cells_of code) (i + 1)) where
    raise-alone : s ≡ semicolon → (after : List ℕ) (r : Stepped) → parts.Alone code after a_raise (is_handler k.list) i r → Answers u after r
    unfolding simple_faults RawDoes fault_if
    raise-alone e after r a =
        word-alone code values i u raises raise-is s es e a_raise (is_handler k.list) after r a
        (λ t. (ap (λ (b : Bool). fault_if (not b) barred i) (sym handles ∙ t), λ w. w))
        (λ t. first-if (not (in_error u.around.K.list)) barred i (ap not (sym handles ∙ t)))

    module _ (d : s ≡ semicolon → ⊥) where
      pub raise-values : Values code values (i + 1) i
      raise-values = given-values code values i u raises raise-is s es d

      abbrev raise-given : Given (sort_in u.around.known.W) (Parses (sort_in u.around.known.W)) raise-is.e (i + 1) u.to
      raise-given = given code values i u raises raise-is s es d

      raise-barred : is_body k.list ≡ false → Answers u code (Err (record { rule = Barred; word = i }))
      unfolding simple_faults
      raise-barred z =
          given-broken code values i u raises raise-is s es d
          (first-left (first-if (in_undo u.around.K.list || in_error u.around.K.list) barred i (not-false _ (sym outside ∙ z)))
          (leads-later (record { number = barred; at = i }) (of-type-inside u.around.known.W (suc nestings) (i + 1) raise-given.e u.to raise-given.stands a_num u.around.known.S) (omega arith)))

      raise-number : is_body k.list ≡ true → (after : List ℕ) (r : Stepped) → Valued code values after a_raise_of Num (i + 1) i r → Answers u after r
      unfolding simple_faults RawDoes fault_if
      raise-number z after r v =
          given-fine code values i u raises raise-is s es d a_raise_of Num a_num refl
          (ap (λ (b : Bool). fault_if b barred i ++ of_type u.around.known.W a_num u.around.known.S raise-given.e)
          (not-true (in_undo u.around.K.list || in_error u.around.K.list) (sym outside ∙ z))) after
          (λ w. w) r v

module _ (k : Setting) (code values : List ℕ) (i s : ℕ) (es : s ≡ op_at (cells_of code) (i + 1)) where
  pub raised-alone : s ≡ semicolon → (fine : Bool) → fine ≡ is_handler k.list → (after : List ℕ) (r : Stepped) → parts.Alone code after a_raise fine i r → BegunIn RAISE k code values after i r
  raised-alone e fine ef after r a = record { is = λ c. raise-alone k code values i c s es e after r (subst (λ (b : Bool). parts.Alone code after a_raise b i r) ef a) }

  module _ (d : s ≡ semicolon → ⊥) where
    pub raised-barred : is_body k.list ≡ false → BegunIn RAISE k code values code i (Err (record { rule = Barred; word = i }))
    raised-barred z = record { is = λ c. raise-barred k code values i c s es d z }

    pub raised-number : is_body k.list ≡ true → (after : List ℕ) (r : Stepped) → Valued code values after a_raise_of Num (i + 1) i r → BegunIn RAISE k code values after i r
    raised-number z after r v = record { is = λ c. raise-number k code values i c s es d z after r v }

-- ---- EXIT, RETRY, TRYNEXT
twice : (b : Bool) → b ≡ not (not b)
twice true = refl
twice false = refl

module _ (text code values : List ℕ) (k : Setting) (i s : ℕ) (es : s ≡ op_at (cells_of code) i) where
  module _ (g : Statement text code values k i) where
    pub statement-sort : s ≡ sort_in g.stands.around.known.W i
    statement-sort = es ∙ stands-sort code values i g.stands i (omega arith) (omega (arith, stands_on code values i g.stands))

    -- a word that is barred or not
    word-barred : (make : ℕ → Simple) → Alone (sort_in g.stands.around.known.W) (Parses (sort_in g.stands.around.known.W)) make g.stands.s i g.stands.to
        → (op : ℕ) (fine : Bool) (after : List ℕ) (r : Stepped) → parts.Alone code after op fine i r → (out : Bool) → fine ≡ not out
        → simple_faults g.stands.around.known.W g.stands.around.K g.stands.around.known.S (make i) ≡ fault_if out barred i
        → (RawWord (cells_of after) op i (g.stands.to + 1) → RawDoes (ground_of g.stands.around) g.stands.around.known.n (cells_of after) g.stands.around.known.S (make i) i (g.stands.to + 1) (g.stands.to + 1))
        → Answers g.stands after r
    unfolding fault_if
    word-barred make x op fine after r a out e fs raw =
        test fine
        (λ t. word-fine code values i g.stands (make i) x.alone x.after op fine after r a t (fs ∙ ap (λ (b : Bool). fault_if b barred i) (not-true out (sym e ∙ t))) raw)
        (λ t.
        word-broken code values i g.stands (make i) x.alone x.after op fine after r a t
        (subst (First (record { number = barred; at = i })) (sym fs) (first-if out barred i (not-false out (sym e ∙ t)))))

    retry-fine : is_handler k.list ≡ not (not (in_error g.stands.around.K.list))
    retry-fine = in-handler k.list _ g.tells.list ∙ twice (in_error g.stands.around.K.list)

  pub exited : s ≡ EXIT → (fine : Bool) → fine ≡ not (is_undo k.list) → (after : List ℕ) (r : Stepped) → parts.Alone code after an_exit fine i r → Stated text code values after k i r
  unfolding simple_faults RawDoes
  exited e fine ef after r a = record {
    is = λ g.
        word-barred g exits (simple-exit (sort_in g.stands.around.known.W) (Parses (sort_in g.stands.around.known.W)) g.stands.is (sym (statement-sort g) ∙ e)) an_exit fine after r a
        (in_undo g.stands.around.K.list) (ef ∙ ap not (in-undo k.list _ g.tells.list)) refl (λ w. w);
  }

  pub retried : s ≡ RETRY → (fine : Bool) → fine ≡ is_handler k.list → (after : List ℕ) (r : Stepped) → parts.Alone code after a_retry fine i r → Stated text code values after k i r
  unfolding simple_faults RawDoes
  retried e fine ef after r a = record {
    is = λ g.
        word-barred g retries (simple-retry (sort_in g.stands.around.known.W) (Parses (sort_in g.stands.around.known.W)) g.stands.is (sym (statement-sort g) ∙ e)) a_retry fine after r a
        (not (in_error g.stands.around.K.list)) (ef ∙ retry-fine g) refl (λ w. w);
  }

  pub tried-next : s ≡ TRYNEXT → (fine : Bool) → fine ≡ is_handler k.list → (after : List ℕ) (r : Stepped) → parts.Alone code after a_try_next fine i r → Stated text code values after k i r
  unfolding simple_faults RawDoes
  tried-next e fine ef after r a = record {
    is = λ g.
        word-barred g tries_next (simple-trynext (sort_in g.stands.around.known.W) (Parses (sort_in g.stands.around.known.W)) g.stands.is (sym (statement-sort g) ∙ e)) a_try_next fine after r a
        (not (in_error g.stands.around.K.list)) (ef ∙ retry-fine g) refl (λ w. w);
  }
