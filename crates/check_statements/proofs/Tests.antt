-- TEST: its selector, and then its cases.
use Rattle.paper.specs.Words.{word_limit}
use Rattle.layout.specs.Parts.{link_part}
use mathlib.Core.Path.{◌≡◌, refl, sym, ap, subst, ◌∙◌}
use mathlib.Core.Bool.{false}
use mathlib.Core.List.{List, [], ◌++◌}
use Prim.Native.Nat.{ℕ, ◌+◌, ◌-◌, ◌*◌, ◌%◌, ◌<◌, ◌≤◌}
use native.Mathlib.Omega.{arith}
use lib.ListN.{length}
use Rattle.laws.proofs.Tests.{by-same}
use Rattle.store_cells.specs.Cells.{cells_of}
use Rattle.paper.specs.Sorts.{CASE, DEFAULT, TEST}
use Rattle.paper.specs.Trees.{Statement}
use Rattle.paper.specs.Expressions.{level_of}
use Rattle.paper.specs.Names.{a_num, sort_in}
use Rattle.paper.specs.Types.{Fault, of_type}
use Rattle.paper.specs.Checks.{fors_in, fors_in_list, fors_in_cases, statement_faults, list_faults, cases_faults}
use Rattle.grammar.specs.Form.{Parses}
use Rattle.grammar.proofs.Inversions.{cases_none, default_none, IsTest, statement-test}
use Rattle.grammar.proofs.Places.{cases-grow, default-grows}
use Rattle.store_writing.specs.Promises.{Kept, Linked}
use Rattle.store_writing.proofs.Keeping.{place-below}
use Rattle.check_expressions.specs.Answers.{Typed}
use Rattle.check_expressions.specs.Answers as expressions
use Rattle.faults.specs.First.{First}
use Rattle.faults.proofs.First.{first-before}
use Rattle.faults.proofs.Expressions.{grows, of-type-inside}
use Rattle.faults.proofs.Statements.{cases-inside, default-inside}
use Rattle.check_links.specs.Raw.{SameWords, RawWord, Ends, at_once, closed, RawTerm, RawList, RawCases, RawDefault, RawTest, RawStatement}
use Rattle.check_links.proofs.Framing.{cases-frame}
use Rattle.check_links.proofs.Orders.{ends-order, list-order, cases_order}
use Rattle.check_around.specs.declared.Setting.{Setting}
use Rattle.check_around.specs.Around.{Around, ground_of, offset_in}
use Rattle.check_names.specs.declared.Scope.{Scope}
use Rattle.check_statements.specs.Answers.{Stands, Done, Answer, StatementAnswer, Begins, Begun}
use Rattle.check_compounds.specs.Here.{Outside}
use Rattle.check_statements.specs.Parts.{Chooses, CasesWritten, Chosen}
use Rattle.check_compounds.proofs.Frames.{outside_wider, outside-on, kept-outside, same-before, same-behind, same-on, here_on, term-same, list_same, place_same, word_same, linked-outside, linked-word}
use Rattle.check_compounds.proofs.ExpressionsJudged.{inside_both, expression-stands, judged-faulty, judged-long, judged-none, judged-next, judged-term, judged-kept}
use Rattle.check_statements.proofs.ListWalk.{upto_done, faulty-first, done-answer, first-answer}
use Rattle.check_compounds.proofs.Frames.{tail-before}
use Rattle.code.specs.Steps.{a_test}
use Rattle.layout.specs.declared.types.ValueType.{ValueType}
use Rattle.layout.specs.declared.types.ValueType.TheVariants.{Num}
use Rattle.check_names.specs.Scopes.{Walked}
use Rattle.check_expressions.specs.Judgements.{Judged}
use Rattle.std.specs.Prelude.{Ok, Err}
use Rattle.layout.specs.Broken.{as_fault}
use Rattle.layout.specs.declared.rules.Breach.{Breach}

module _ (text code values : List ℕ) (k : Setting) (used i : ℕ) (g : Begins TEST text code values k used i) where
  abbrev s : Stands text code values k used i
  s = g.stands

  abbrev a : Around text values
  a = s.around

  w : IsTest (sort_in a.known.W) (Parses (sort_in a.known.W)) s.d s.s i s.to
  w = statement-test (sort_in a.known.W) (Parses (sort_in a.known.W)) s.is g.here-is

  orders : (i + 1 < w.n) × (w.n ≤ w.m) × (w.m ≤ w.end)
  orders = (grows a.known.W _ _ _ _ w.selector, cases-grow (sort_in a.known.W) (Parses (sort_in a.known.W)) (grows a.known.W) w.cases, default-grows (sort_in a.known.W) (Parses (sort_in a.known.W)) (grows a.known.W) w.otherwise)

  last : (s.to ≡ w.end + 1) × (s.to < word_limit)
  last = (w.after, s.here.unread.loaded.last)

  -- CASE, DEFAULT or ENDTEST follows
  no-operator : level_of (sort_in a.known.W w.n) ≡ 0
  unfolding level_of
  no-operator =
      by-same (sort_in a.known.W w.n) CASE (λ e. ap level_of e)
      (λ f. let q = cases_none (sort_in a.known.W) (Parses (sort_in a.known.W)) w.cases f in
      by-same (sort_in a.known.W w.n) DEFAULT (λ e. ap level_of e)
      (λ h. let z = default_none (sort_in a.known.W) (Parses (sort_in a.known.W)) w.otherwise (λ e. h (ap (sort_in a.known.W) (sym q.1) ∙ e)) in
      ap level_of (ap (sort_in a.known.W) (sym (z.1 ∙ q.1)) ∙ w.ends)))

  pub test-selector : expressions.Stands code values 5 (i + 1)
  test-selector = expression-stands text code values a k used i s.to s.here w.e (i + 1) w.n w.selector no-operator (omega arith) (omega (arith, orders, last))

  abbrev ForStatement : (after values' : List ℕ) → Walked → Statement → Type 0
  ForStatement after values' r t =
      Answer (statement_faults a.known.W a.K a.M t a.known.S used) code after values values' i s.to (used + fors_in t) (RawStatement (ground_of a) a.known.n (cells_of after) t a.known.S used i s.to) r

  module _ (one : List ℕ) (j : Judged) (c : Typed code values one false Num (i + 1) j) where
    wrong : (broken : Breach) → j ≡ Err broken → StatementAnswer g.stands one values (Err broken)
    unfolding statement_faults fors_in
    wrong broken q =
        let c2 = judged-faulty text code values a k used i s.to s.here w.e (i + 1) w.n w.selector no-operator (omega arith) (omega (arith, orders, last)) one Num a_num refl j c broken q in
        let i1 = of-type-inside a.known.W _ _ _ _ w.selector a_num a.known.S in
        let i2 = cases-inside a.known.W a.K a.M w.cases a.known.S used in
        let i3 = default-inside a.known.W a.K a.M w.otherwise a.known.S (used + fors_in_cases w.c) in
        let f1 = first-before c2 i1 i2 (omega arith) in
        let f2 = first-before f1 (inside_both i1 i2 (omega (arith, orders)) (omega (arith, orders))) i3 (omega arith) in
        subst (ForStatement one values (Err broken)) (sym w.is)
        (first-answer _ _ _ _ _ _ _ _ broken _ f2 (judged-long text code values a k used i s.to s.here w.e (i + 1) w.n w.selector no-operator (omega arith) (omega (arith, orders, last)) one Num a_num refl j c))

    module _ (type : ValueType) (t : ℕ) (q : j ≡ Ok (type, t)) where
      at-is : t ≡ w.n
      at-is = judged-next text code values a k used i s.to s.here w.e (i + 1) w.n w.selector no-operator (omega arith) (omega (arith, orders, last)) one Num a_num refl j c type t q

      fine : of_type a.known.W a_num a.known.S w.e ≡ []
      fine = judged-none text code values a k used i s.to s.here w.e (i + 1) w.n w.selector no-operator (omega arith) (omega (arith, orders, last)) one Num a_num refl j c type t q

      term : RawTerm (ground_of a) a.known.n (cells_of one) a.known.S w.e (i + 1) w.n
      term = judged-term text code values a k used i s.to s.here w.e (i + 1) w.n w.selector no-operator (omega arith) (omega (arith, orders, last)) one Num a_num refl j c type t q

      kept : Kept code one (i + 1) w.n
      kept = judged-kept text code values a k used i s.to s.here w.e (i + 1) w.n w.selector no-operator (omega arith) (omega (arith, orders, last)) one Num a_num refl j c type t q

      chooses : Chooses text one values k used w.n
      unfolding fors_in
      chooses = record {
        to = s.to;
        around = a;
        here = here_on a code one k used i s.to used w.n s.to s.here (kept-outside kept) kept.long (omega arith) s.here.few (omega arith) (omega (arith, orders, last)) (omega (arith, orders)) (omega arith) (omega arith);
        d = s.d - 1;
        cs = w.c;
        o = w.default;
        last = w.m;
        z = w.end;
        is = w.cases;
        otherwise = w.otherwise;
        ends = w.ends;
        after = w.after;
        room = subst (λ (x : Statement). used + fors_in x ≤ a.known.n) w.is s.room;
      }

      pub test-chooses : Chooses text one values k used t
      test-chooses = subst (λ (x : ℕ). Chooses text one values k used x) (sym at-is) chooses

      pub test-forward : (i < t) × (t < word_limit)
      test-forward = (omega (arith, at-is, orders), omega (arith, at-is, orders, last))

      module _ (two values' : List ℕ) (r : Walked) (x : Chosen text one values two values' k used t r) where
        inner : Answer (cases_faults a.known.W a.K a.M w.c a.known.S used ++ list_faults a.known.W a.K a.M w.default a.known.S (used + fors_in_cases w.c))
            one two values values' w.n s.to (used + (fors_in_cases w.c + fors_in_list w.default))
            (CasesWritten
            (λ (last : ℕ). RawCases (ground_of a) a.known.n (cells_of two) w.c a.known.S used w.n last)
            (λ (last : ℕ). RawDefault (ground_of a) a.known.n (cells_of two) (λ (x2 y2 : ℕ). RawList (ground_of a) a.known.n (cells_of two) w.default a.known.S (used + fors_in_cases w.c) x2 y2) last s.to)) r
        unfolding chooses
        inner = (subst (λ (v : ℕ). Chosen text one values two values' k used v r) at-is x).is chooses

        together : of_type a.known.W a_num a.known.S w.e ++ cases_faults a.known.W a.K a.M w.c a.known.S used ++ list_faults a.known.W a.K a.M w.default a.known.S (used + fors_in_cases w.c)
            ≡ cases_faults a.known.W a.K a.M w.c a.known.S used ++ list_faults a.known.W a.K a.M w.default a.known.S (used + fors_in_cases w.c)
        together = ap (λ (l : List Fault). l ++ cases_faults a.known.W a.K a.M w.c a.known.S used ++ list_faults a.known.W a.K a.M w.default a.known.S (used + fors_in_cases w.c)) fine

        cases-wrong : (broken : Breach) → r ≡ Err broken → StatementAnswer g.stands two values' (Err broken)
        unfolding statement_faults fors_in
        cases-wrong broken e =
            subst (ForStatement two values' (Err broken)) (sym w.is)
            (first-answer _ _ _ _ _ _ _ _ broken _ (subst (First (as_fault broken)) (sym together) (faulty-first r inner broken e)) (inner.long ∙ kept.long))

        module _ (z : ℕ) (n : Scope) (q2 : r ≡ Ok (z, n)) where
          done : Done (cases_faults a.known.W a.K a.M w.c a.known.S used ++ list_faults a.known.W a.K a.M w.default a.known.S (used + fors_in_cases w.c))
              one two values values' w.n s.to (used + (fors_in_cases w.c + fors_in_list w.default)) z n.used
              (CasesWritten
              (λ (last : ℕ). RawCases (ground_of a) a.known.n (cells_of two) w.c a.known.S used w.n last)
              (λ (last : ℕ). RawDefault (ground_of a) a.known.n (cells_of two) (λ (x2 y2 : ℕ). RawList (ground_of a) a.known.n (cells_of two) w.default a.known.S (used + fors_in_cases w.c) x2 y2) last s.to))
          done = upto_done r inner z n q2

          pub test-room : (i * 8 + 8 ≤ length two) × (z < link_part)
          test-room = (omega (arith, inner.long, kept.long, orders, last, s.here.unread.loaded.room), omega (arith, done.next-is, last))

          -- what a run reads stays: the TEST's own word alone is written
          module _ (three : List ℕ) (l : Linked two three i a_test t z) where
            o : Outside (cells_of two) (cells_of three) i (i + 1)
            o = linked-outside l

            whole : RawTest (ground_of a) a.known.n (cells_of three) a.known.S i w.e
                (λ (x2 last : ℕ). RawCases (ground_of a) a.known.n (cells_of three) w.c a.known.S used x2 last)
                (λ (x2 y2 : ℕ). RawList (ground_of a) a.known.n (cells_of three) w.default a.known.S (used + fors_in_cases w.c) x2 y2) i s.to
            unfolding ground_of offset_in
            whole =
                let v = l.value-is ∙ at-is in
                let d = done.written.default-is in
                let lo = cases_order (ground_of a) a.known.n (cells_of two) w.c a.known.S used w.n done.written.last done.written.cases-are in
                let so = same-behind done.written.last s.to o (omega (arith, orders)) in
                let le = list-order (ground_of a) a.known.n (cells_of two) w.default a.known.S (used + fors_in_cases w.c) d.first d.z d.list in
                let en = ends-order (ground_of a) a.known.n (cells_of two) d.z s.to d.ends in
                let bf = d.before in
                record {
                  head = record {
                    first = refl;
                    place = l.place_is ∙ ap (λ (x3 : ℕ). x3 % link_part) (tail-before done.outside i (omega (arith, orders))) ∙ place-below kept i (omega arith) ∙ s.here.unread.places i (omega arith) (omega (arith, orders, last));
                    word = subst (RawWord (cells_of three) a_test i) done.next-is (linked-word l);
                  };
                  term = subst (RawTerm (ground_of a) a.known.n (cells_of three) a.known.S w.e (i + 1)) (sym v)
                      (term-same (ground_of a) a.known.n (cells_of one) (cells_of three) a.known.S w.e (i + 1) w.n
                      (same-on (same-before (i + 1) w.n done.outside (omega arith)) (same-behind (i + 1) w.n o (omega arith))) term);
                  last = done.written.last;
                  cases-are = subst (λ (x3 : ℕ). RawCases (ground_of a) a.known.n (cells_of three) w.c a.known.S used x3 done.written.last) (sym v)
                      (cases-frame (ground_of a) a.known.n a.known.n (omega arith) (cells_of two) (cells_of three) w.n (done.written.last + 1) (same-behind w.n (done.written.last + 1) o (omega (arith, orders)))
                      w.c a.known.S used w.n done.written.last (omega arith) (omega arith) done.written.cases-are);
                  default-is = record {
                    z = d.z;
                    first = d.first;
                    word = word_same so done.written.last (omega arith) (omega arith) _ d.z d.word;
                    place = place_same so done.written.last (omega arith) (omega arith) _ d.place;
                    before = bf;
                    list = list_same (ground_of a) a.known.n (cells_of two) (cells_of three) w.default a.known.S (used + fors_in_cases w.c) d.first d.z (same-behind d.first d.z o (omega (arith, orders))) d.list;
                    ends = ends_same d.ends (same-behind d.z s.to o (omega (arith, orders)));
                  };
                }
              where
                ends_same : {z3 : ℕ} → Ends (cells_of two) z3 s.to → SameWords (cells_of two) (cells_of three) z3 s.to → Ends (cells_of three) z3 s.to
                ends_same (at_once e) s3 = at_once e
                ends_same {z3} (closed w3 e) s3 = closed (word_same s3 z3 (omega arith) (omega arith) _ s.to w3) e

            finished : StatementAnswer g.stands three values' (Ok (z, n))
            unfolding statement_faults fors_in RawStatement
            finished =
                subst (ForStatement three values' (Ok (z, n))) (sym w.is)
                (done-answer _ _ _ _ _ _ _ _ _ _ _
                (record {
                  none = together ∙ done.none;
                  next-is = done.next-is;
                  used-is = done.used-is;
                  few = done.few;
                  written = whole;
                  outside = outside-on (outside-on (outside_wider i s.to (kept-outside kept) (omega arith) (omega (arith, orders, last))) (outside_wider i s.to done.outside (omega (arith, orders)) (omega arith)))
                      (outside_wider i s.to o (omega arith) (omega (arith, orders, last)));
                  same = done.same;
                })
                (l.kept.long ∙ inner.long ∙ kept.long))

-- ---- for whatever the statement is
module _ (text code values : List ℕ) (k : Setting) (used i : ℕ) (one : List ℕ) (j : Judged) (c : Typed code values one false Num (i + 1) j) where
  pub test-wrong : (broken : Breach) → j ≡ Err broken → Begun TEST text code values one values k used i (Err broken)
  test-wrong broken q = record { is = λ g. wrong text code values k used i g one j c broken q }

  module _ (type : ValueType) (t : ℕ) (q : j ≡ Ok (type, t)) (two values' : List ℕ) (r : Walked) (x : Chosen text one values two values' k used t r) where
    pub test-cases-wrong : (broken : Breach) → r ≡ Err broken → Begun TEST text code values two values' k used i (Err broken)
    test-cases-wrong broken e = record { is = λ g. cases-wrong text code values k used i g one j c type t q two values' r x broken e }

    pub test-finished : (z : ℕ) (n : Scope) → r ≡ Ok (z, n) → (three : List ℕ) → Linked two three i a_test t z → Begun TEST text code values three values' k used i (Ok (z, n))
    test-finished z n q2 three l = record { is = λ g. finished text code values k used i g one j c type t q two values' r x z n q2 three l }
