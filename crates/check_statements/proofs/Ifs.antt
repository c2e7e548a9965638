-- IF: its condition, and then a simple statement or arms.
use Rattle.paper.specs.Words.{word_limit}
use mathlib.Core.Path.{◌≡◌, refl, sym, ap, subst, ◌∙◌}
use mathlib.Core.Bool.{true, false}
use mathlib.Core.List.{List, [], ◌++◌}
use Prim.Native.Nat.{ℕ, ◌+◌, ◌-◌, ◌*◌, ◌<◌, ◌≤◌}
use native.Mathlib.Omega.{arith}
use lib.ListN.{length}
use borrow.Author.Tests.{ne_eqb}
use Rattle.laws.proofs.Tests.{false-true, by-same}
use Rattle.store_cells.specs.Cells.{cells_of}
use Rattle.paper.specs.Sorts.{NAME, RETURN, RAISE, EXIT, RETRY, TRYNEXT, TPWRITE, TPREADNUM, IF, THEN}
use Rattle.paper.specs.Trees.{Statement}
use Rattle.paper.specs.Expressions.{level_of, starts_simple}
use Rattle.paper.specs.Names.{a_bool, sort_in}
use Rattle.paper.specs.Types.{Fault, of_type}
use Rattle.paper.specs.Checks.{fors_in, fors_in_list, fors_in_arms, simple_faults, statement_faults, list_faults, arm_faults}
use Rattle.code.specs.Cells.{op_at, place_at}
use Rattle.grammar.specs.Form.{Parses}
use Rattle.grammar.proofs.Inversions.{CompactIf, FullIf, IsIf, statement-if, simple-starts}
use Rattle.grammar.proofs.Places.{simple-grows, else-grows}
use Rattle.store_writing.specs.Promises.{Kept}
use Rattle.store_writing.proofs.Keeping.{place-below}
use Rattle.check_expressions.specs.Answers.{Typed}
use Rattle.check_expressions.specs.Answers as expressions
use Rattle.faults.specs.First.{Inside}
use Rattle.faults.proofs.First.{first-before}
use Rattle.faults.proofs.Expressions.{grows, of-type-inside}
use Rattle.faults.proofs.Statements.{simple-inside, list_inside, else-inside}
use Rattle.check_links.specs.Raw.{RawTerm, RawStatement}
use Rattle.check_around.specs.declared.Setting.{Setting}
use Rattle.check_around.specs.Around.{Around, ground_of, offset_in}
use Rattle.check_compounds.specs.Here.{Outside, Here}
use Rattle.check_statements.specs.Answers.{Stands, Answer, StatementAnswer, Begins, Begun}
use Rattle.check_statements.specs.Parts.{Compacts, Compacted, ThenAt, Thens, Thened}
use Rattle.check_compounds.proofs.Frames.{outside_wider, kept-outside, here_on, calls-behind}
use Rattle.check_compounds.proofs.ExpressionsJudged.{inside_both, expression-stands, judged-faulty, judged-long, judged-none, judged-next, judged-term, judged-kept}
use Rattle.check_statements.proofs.ListWalk.{first-answer, answer-behind}
use Rattle.check_statements.proofs.Arms.{then-order, rest-inside}
use Rattle.layout.specs.declared.types.ValueType.{ValueType}
use Rattle.layout.specs.declared.types.ValueType.TheVariants.{Bool}
use Rattle.check_names.specs.Scopes.{Walked}
use Rattle.check_expressions.specs.Judgements.{Judged}
use Rattle.std.specs.Prelude.{Ok, Err}
use Rattle.layout.specs.declared.rules.Breach.{Breach}

-- no operator starts a statement
none-starts : (w : ℕ) → (w ≡ NAME → ⊥) → (w ≡ RETURN → ⊥) → (w ≡ RAISE → ⊥) → (w ≡ EXIT → ⊥) → (w ≡ RETRY → ⊥) → (w ≡ TRYNEXT → ⊥) → (w ≡ TPWRITE → ⊥) → (w ≡ TPREADNUM → ⊥) → starts_simple w ≡ false
unfolding starts_simple
none-starts w a b c d e f g h =
    rw (ne_eqb w NAME a, ne_eqb w RETURN b, ne_eqb w RAISE c, ne_eqb w EXIT d, ne_eqb w RETRY e, ne_eqb w TRYNEXT f, ne_eqb w TPWRITE g, ne_eqb w TPREADNUM h)

starts_none : (w : ℕ) → starts_simple w ≡ true → level_of w ≡ 0
unfolding level_of
starts_none w s =
    by-same w NAME (λ e. ap level_of e) (λ a. by-same w RETURN (λ e. ap level_of e) (λ b. by-same w RAISE (λ e. ap level_of e) (λ c. by-same w EXIT (λ e. ap level_of e) (λ d.
    by-same w RETRY (λ e. ap level_of e) (λ f. by-same w TRYNEXT (λ e. ap level_of e) (λ g. by-same w TPWRITE (λ e. ap level_of e) (λ h. by-same w TPREADNUM (λ e. ap level_of e)
    (λ i. false-true (sym (none-starts w a b c d f g h i) ∙ s)))))))))

module _ (text code values : List ℕ) (k : Setting) (used i : ℕ) (g : Begins IF text code values k used i) where
  abbrev s : Stands text code values k used i
  s = g.stands

  abbrev a : Around text values
  a = s.around

  w : IsIf (sort_in a.known.W) (Parses (sort_in a.known.W)) s.d s.s i s.to
  w = statement-if (sort_in a.known.W) (Parses (sort_in a.known.W)) s.is g.here-is

  begins : i + 1 < w.n
  begins = grows a.known.W _ _ _ _ w.condition

  -- ---- a full one
  module _ (f : FullIf (sort_in a.known.W) (Parses (sort_in a.known.W)) s.d s.s w.e i w.n s.to) (h : sort_in a.known.W w.n ≡ THEN) where
    then_is : ThenAt (sort_in a.known.W) (s.d - 1) f.b f.rest w.n f.else_at
    then_is = record { then_word = h; m = f.m; list = f.list; more = f.more; none_more = f.last }

    full-order : (w.n + 1 ≤ f.m) × (f.m ≤ f.else_at)
    unfolding then_is
    full-order = then-order a.known.W (s.d - 1) f.b f.rest w.n f.else_at then_is

    full-in : (v : ℕ) → Inside f.m f.else_at (arm_faults a.known.W a.K a.M f.rest a.known.S v)
    unfolding then_is
    full-in v = rest-inside a.known.W (s.d - 1) f.b f.rest w.n f.else_at then_is a.K a.M a.known.S v

    else-order : f.else_at ≤ f.end
    else-order = else-grows (sort_in a.known.W) (Parses (sort_in a.known.W)) (grows a.known.W) f.otherwise

  -- ---- the condition
  bounded : (level_of (sort_in a.known.W w.n) ≡ 0) × (w.n < s.to)
  unfolding level_of
  bounded =
      by-same (sort_in a.known.W w.n) THEN
      (λ e. let f = w.full e in (ap level_of e, omega (arith, full-order f e, else-order f e, f.after)))
      (λ n. let f = w.compact n in (
        starts_none _ (simple-starts (sort_in a.known.W) (Parses (sort_in a.known.W)) f.stands),
        omega (arith, f.after, simple-grows (sort_in a.known.W) (Parses (sort_in a.known.W)) (grows a.known.W) f.stands),
      ))

  pub if-condition : expressions.Stands code values 5 (i + 1)
  if-condition = expression-stands text code values a k used i s.to s.here w.e (i + 1) w.n w.condition bounded.0 (omega arith) (omega (arith, bounded))

  abbrev ForStatement : (after values' : List ℕ) → Walked → Statement → Type 0
  ForStatement after values' r t =
      Answer (statement_faults a.known.W a.K a.M t a.known.S used) code after values values' i s.to (used + fors_in t) (RawStatement (ground_of a) a.known.n (cells_of after) t a.known.S used i s.to) r

  condition-inside : Inside (i + 1) w.n (of_type a.known.W a_bool a.known.S w.e)
  condition-inside = of-type-inside a.known.W _ _ _ _ w.condition a_bool a.known.S

  module _ (one : List ℕ) (j : Judged) (c : Typed code values one false Bool (i + 1) j) where
    wrong : (broken : Breach) → j ≡ Err broken → StatementAnswer g.stands one values (Err broken)
    unfolding statement_faults fors_in
    wrong broken q =
        let long = judged-long text code values a k used i s.to s.here w.e (i + 1) w.n w.condition bounded.0 (omega arith) (omega (arith, bounded)) one Bool a_bool refl j c in
        let c2 = judged-faulty text code values a k used i s.to s.here w.e (i + 1) w.n w.condition bounded.0 (omega arith) (omega (arith, bounded)) one Bool a_bool refl j c broken q in
        by-same (sort_in a.known.W w.n) THEN
        (λ e.
        let f = w.full e in
        let i2 = list_inside a.known.W a.K a.M f.list a.known.S used in
        let i3 = full-in f e (used + fors_in_list f.b) in
        let i4 = else-inside a.known.W a.K a.M f.otherwise a.known.S (used + (fors_in_list f.b + fors_in_arms f.rest)) in
        let f1 = first-before c2 condition-inside i2 (omega arith) in
        let j1 = inside_both condition-inside i2 (omega (arith, begins)) (omega (arith, full-order f e)) in
        let f2 = first-before f1 j1 i3 (omega arith) in
        let j2 = inside_both j1 i3 (omega (arith, begins, full-order f e)) (omega (arith, full-order f e)) in
        let f3 = first-before f2 j2 i4 (omega arith) in
        subst (ForStatement one values (Err broken)) (sym f.is) (first-answer _ _ _ _ _ _ _ _ broken _ f3 long))
        (λ n.
        let f = w.compact n in
        let i2 = simple-inside a.known.W a.K a.known.S f.stands in
        subst (ForStatement one values (Err broken)) (sym f.is) (first-answer _ _ _ _ _ _ _ _ broken _ (first-before c2 condition-inside i2 (omega arith)) long))

    module _ (type : ValueType) (t : ℕ) (q : j ≡ Ok (type, t)) where
      at-is : t ≡ w.n
      at-is = judged-next text code values a k used i s.to s.here w.e (i + 1) w.n w.condition bounded.0 (omega arith) (omega (arith, bounded)) one Bool a_bool refl j c type t q

      fine : of_type a.known.W a_bool a.known.S w.e ≡ []
      fine = judged-none text code values a k used i s.to s.here w.e (i + 1) w.n w.condition bounded.0 (omega arith) (omega (arith, bounded)) one Bool a_bool refl j c type t q

      term : RawTerm (ground_of a) a.known.n (cells_of one) a.known.S w.e (i + 1) w.n
      term = judged-term text code values a k used i s.to s.here w.e (i + 1) w.n w.condition bounded.0 (omega arith) (omega (arith, bounded)) one Bool a_bool refl j c type t q

      kept : Kept code one (i + 1) w.n
      kept = judged-kept text code values a k used i s.to s.here w.e (i + 1) w.n w.condition bounded.0 (omega arith) (omega (arith, bounded)) one Bool a_bool refl j c type t q

      next_here : Here a one k used w.n s.to
      next_here =
          here_on a code one k used i s.to used w.n s.to s.here (kept-outside kept) kept.long (omega arith) s.here.few (omega arith) (omega (arith, bounded)) (omega (arith, begins)) (omega arith) (omega arith)

      place : place_at (cells_of one) i ≡ offset_in a.known.W i
      unfolding offset_in
      place = place-below kept i (omega arith) ∙ s.here.unread.places i (omega arith) (omega (arith, begins, bounded))

      changed : Outside (cells_of code) (cells_of one) i s.to
      changed = outside_wider i s.to (kept-outside kept) (omega arith) (omega (arith, bounded))

      pub if-forward : i < t
      if-forward = omega (arith, at-is, begins)

      pub if-room : (t < word_limit) × (t * 8 + 8 ≤ length one)
      if-room = (omega (arith, at-is, bounded, s.here.unread.loaded.last), omega (arith, at-is, bounded, next_here.unread.loaded.room))

      module _ (v : ℕ) (ev : v ≡ op_at (cells_of one) t) where
        sort-is : sort_in a.known.W w.n ≡ v
        sort-is = sym (ev ∙ ap (op_at (cells_of one)) at-is ∙ (next_here.unread.loaded.words w.n (omega arith) (omega (arith, bounded))).sort)

        -- ---- a simple statement follows
        module _ (n : v ≡ THEN → ⊥) where
          f : CompactIf (sort_in a.known.W) (Parses (sort_in a.known.W)) s.s w.e i w.n s.to
          f = w.compact (λ e. n (sym sort-is ∙ e))

          compacts : Compacts text one values k used i w.n
          compacts = record {
            to = s.to;
            around = a;
            here = next_here;
            before = omega (arith, begins);
            place = place;
            e = w.e;
            term = term;
            s = f.simply;
            n = f.m;
            is = f.stands;
            ends = f.ends;
            after = f.after;
          }

          pub if-compacts : Compacts text one values k used i t
          if-compacts = subst (λ (x : ℕ). Compacts text one values k used i x) (sym at-is) compacts

          compact-is : (two : List ℕ) (r : Walked) → Compacted text one values two k used i t r → StatementAnswer g.stands two values r
          unfolding compacts statement_faults fors_in
          compact-is two r x =
              subst (ForStatement two values r) (sym f.is)
              (answer-behind _ _ code one two values values i s.to used (used + 0) _ r (ap (λ (l : List Fault). l ++ simple_faults a.known.W a.K a.known.S f.simply) fine) (omega arith) changed kept.long
              ((subst (λ (y : ℕ). Compacted text one values two k used i y r) at-is x).is compacts))

        -- ---- arms follow
        module _ (h : v ≡ THEN) where
          u : FullIf (sort_in a.known.W) (Parses (sort_in a.known.W)) s.d s.s w.e i w.n s.to
          u = w.full (sort-is ∙ h)

          thens : Thens text one values k used i w.n
          unfolding fors_in
          thens = record {
            to = s.to;
            around = a;
            here = next_here;
            calls = calls-behind a (kept-outside kept) kept.long i s.to s.here.calls (omega arith) (omega (arith, bounded)) (omega arith) (omega arith);
            before = omega (arith, begins);
            place = place;
            e = w.e;
            term = term;
            d = s.d - 1;
            b = u.b;
            rest = u.rest;
            o = u.other;
            last = u.else_at;
            z = u.end;
            is = record { then_word = sort-is ∙ h; m = u.m; list = u.list; more = u.more; none_more = u.last };
            otherwise = u.otherwise;
            ends = u.ends;
            after = u.after;
            room = subst (λ (x : Statement). used + fors_in x ≤ a.known.n) u.is s.room;
          }

          pub if-thens : Thens text one values k used i t
          if-thens = subst (λ (x : ℕ). Thens text one values k used i x) (sym at-is) thens

          full_is : (two values' : List ℕ) (r : Walked) → Thened text one values two values' k used i t r → StatementAnswer g.stands two values' r
          unfolding thens statement_faults fors_in
          full_is two values' r x =
              subst (ForStatement two values' r) (sym u.is)
              (answer-behind _ _ code one two values values' i s.to _ _ _ r
              (ap (λ (l : List Fault). l ++ list_faults a.known.W a.K a.M u.b a.known.S used ++ arm_faults a.known.W a.K a.M u.rest a.known.S (used + fors_in_list u.b)
              ++ list_faults a.known.W a.K a.M u.other a.known.S (used + (fors_in_list u.b + fors_in_arms u.rest))) fine)
              refl changed kept.long
              ((subst (λ (y : ℕ). Thened text one values two values' k used i y r) at-is x).is thens))

-- ---- for whatever the statement is
module _ (text code values : List ℕ) (k : Setting) (used i : ℕ) (one : List ℕ) (j : Judged) (c : Typed code values one false Bool (i + 1) j) where
  pub if-wrong : (broken : Breach) → j ≡ Err broken → Begun IF text code values one values k used i (Err broken)
  if-wrong broken q = record { is = λ g. wrong text code values k used i g one j c broken q }

  module _ (type : ValueType) (t : ℕ) (q : j ≡ Ok (type, t)) (v : ℕ) (ev : v ≡ op_at (cells_of one) t) where
    pub if-compact : (v ≡ THEN → ⊥) → (two : List ℕ) (r : Walked) → Compacted text one values two k used i t r → Begun IF text code values two values k used i r
    if-compact n two r x = record { is = λ g. compact-is text code values k used i g one j c type t q v ev n two r x }

    pub if-full : v ≡ THEN → (two values' : List ℕ) (r : Walked) → Thened text one values two values' k used i t r → Begun IF text code values two values' k used i r
    if-full h two values' r x = record { is = λ g. full_is text code values k used i g one j c type t q v ev h two values' r x }
