-- TEST: its cases one by one.
use Rattle.paper.specs.Words.{word_limit}
use mathlib.Core.Path.{◌≡◌, refl, sym, ap, subst, ◌∙◌}
use mathlib.Core.List.{List, [], ◌++◌}
use Prim.Native.Nat.{ℕ, ◌+◌, ◌*◌, ◌<◌, ◌≤◌}
use native.Mathlib.Omega.{arith}
use lib.ListN.{length}
use Rattle.store_cells.specs.Cells.{cells_of}
use Rattle.paper.specs.Sorts.{CASE}
use Rattle.paper.specs.Trees.{Cases, no_case}
use Rattle.paper.specs.Names.{sort_in}
use Rattle.paper.specs.Types.{Fault}
use Rattle.paper.specs.Checks.{fors_in_list, fors_in_cases, list_faults, case_faults, cases_faults}
use Rattle.code.specs.Cells.{op_at}
use Rattle.grammar.specs.Form.{Parses, CasesAt, DefaultAt}
use Rattle.grammar.proofs.Inversions.{FirstCase, cases-first, cases_none}
use Rattle.grammar.proofs.Places.{exprs-grow, list-grows, cases-grow, default-grows}
use Rattle.store_writing.specs.Promises.{Linked}
use Rattle.faults.specs.First.{First, Inside}
use Rattle.faults.proofs.First.{first-before, first-after, nothing-in-both}
use Rattle.faults.proofs.Expressions.{grows}
use Rattle.faults.proofs.Statements.{case-inside, list_inside, cases-inside, default-inside}
use Rattle.check_links.specs.Raw.{SameWords, RawWord, RawList, RawConstants, RawCases, RawDefault}
use Rattle.check_around.specs.declared.Setting.{Setting}
use Rattle.check_around.specs.Around.{Around, ground_of}
use Rattle.check_around.specs.Answers as answered
use Rattle.check_names.specs.declared.Scope.{Scope}
use Rattle.check_statements.specs.Answers.{SameValues, Lists, Done, Tell, Answer, Listed}
use Rattle.check_compounds.specs.Here.{Outside, Here}
use Rattle.check_compounds.specs.Parts.{CaseChain, CaseValues, CaseValued, Chained, ValuesLinked}
use Rattle.check_statements.specs.Parts.{Defaults, Defaulted, Chooses, CasesWritten, Chosen}
use Rattle.check_statements.proofs.Same.{same-values, around-as, here-as, lists-as, answer-as}
use Rattle.check_compounds.proofs.Frames.{outside-same, outside_wider, outside-on, kept-outside, same-before, same-behind, same-on, here_on, list_same, op_same, place_same, word_same, linked-outside, linked-word}
use Rattle.check_compounds.proofs.ExpressionsJudged.{inside_both}
use Rattle.check_statements.proofs.ListWalk.{upto_done, faulty-first, done-answer, first-answer}
use Rattle.check_compounds.proofs.AnswerShapes.{typed-fine, faulty-found}
use Rattle.check_compounds.proofs.CaseValuesStay.{case-chain-same, case-chain-op, constants-same}
use Rattle.code.specs.Steps.{a_pass}
use Rattle.check_names.specs.Scopes.{Walked}
use Rattle.check_around.specs.Answers.{Stepped}
use Rattle.std.specs.Prelude.{Ok, Err}
use Rattle.layout.specs.Broken.{as_fault}
use Rattle.layout.specs.declared.rules.Breach.{Breach}

-- ---- what is left of the cases
pub record Casing {text code values : List ℕ} {k : Setting} {used first : ℕ} (g : Chooses text code values k used first) (now values' : List ℕ) (c n : ℕ) : Type 0 where
  pub same : SameValues values values'
  pub cs : Cases
  pub is : CasesAt (sort_in g.around.known.W) (Parses (sort_in g.around.known.W)) g.d cs c g.last
  pub here : Here g.around now k n c g.to
  pub count : n + fors_in_cases cs ≡ used + fors_in_cases g.cs
  pub faults-are : cases_faults g.around.known.W g.around.K g.around.M g.cs g.around.known.S used ≡ cases_faults g.around.known.W g.around.K g.around.M cs g.around.known.S n
  pub outside : Outside (cells_of code) (cells_of now) first c
  pub order : first ≤ c
  pub long : length now ≡ length code
  pub on : (C : List ℕ) → Outside (cells_of now) C c g.to → RawCases (ground_of g.around) g.around.known.n C cs g.around.known.S n c g.last
      → RawCases (ground_of g.around) g.around.known.n C g.cs g.around.known.S used first g.last

pub record Casings (text code values : List ℕ) (k : Setting) (used first : ℕ) (now values' : List ℕ) (c n : ℕ) : Type 0 where
  pub is : (g : Chooses text code values k used first) → Casing g now values' c n

pub cases_begin : (text code values : List ℕ) (k : Setting) (used first : ℕ) → Casings text code values k used first code values first used
cases_begin text code values k used first = record {
  is = λ g. record {
    same = same-values values;
    cs = g.cs;
    is = g.is;
    here = g.here;
    count = refl;
    faults-are = refl;
    outside = outside-same (cells_of code) first first;
    order = omega arith;
    long = refl;
    on = λ C o x. x;
  };
}

module _ (text code values : List ℕ) (k : Setting) (used first : ℕ) (now values' : List ℕ) (c n : ℕ) (inv : Casings text code values k used first now values' c n) where
  module _ (g : Chooses text code values k used first) where
    abbrev a : Around text values
    a = g.around

    abbrev x : Casing g now values' c n
    x = inv.is g

    ending : (c ≤ g.last) × (g.last ≤ g.z) × (g.to ≡ g.z + 1) × (g.to < word_limit)
    ending = (cases-grow (sort_in a.known.W) (Parses (sort_in a.known.W)) (grows a.known.W) x.is, default-grows (sort_in a.known.W) (Parses (sort_in a.known.W)) (grows a.known.W) g.otherwise, g.after, g.here.unread.loaded.last)

    pub case-room : (first ≤ c) × (c < 8191) × (c * 8 + 8 ≤ length now)
    case-room = (x.order, omega (arith, ending), omega (arith, ending, x.here.unread.loaded.room))

    pub case-long : length now ≡ length code
    case-long = x.long

    pub case-values-long : length values' ≡ length values
    case-values-long = x.same.long

    else-faults : List Fault
    else-faults = list_faults a.known.W a.K a.M g.o a.known.S (used + fors_in_cases g.cs)

    else-in : Inside g.last g.z else-faults
    unfolding else-faults
    else-in = default-inside a.known.W a.K a.M g.otherwise a.known.S _

    abbrev ForCases : (after values'' : List ℕ) → Walked → Type 0
    ForCases after v r =
        Answer
        (cases_faults a.known.W a.K a.M g.cs a.known.S used ++ list_faults a.known.W a.K a.M g.o a.known.S (used + fors_in_cases g.cs))
        code after values v first g.to (used + (fors_in_cases g.cs + fors_in_list g.o))
        (CasesWritten
        (λ (last : ℕ). RawCases (ground_of a) a.known.n (cells_of after) g.cs a.known.S used first last)
        (λ (last : ℕ). RawDefault (ground_of a) a.known.n (cells_of after) (λ (x2 y2 : ℕ). RawList (ground_of a) a.known.n (cells_of after) g.o a.known.S (used + fors_in_cases g.cs) x2 y2) last g.to)) r

    module _ (s : ℕ) (es : s ≡ op_at (cells_of now) c) where
      sort-is : sort_in a.known.W c ≡ s
      sort-is = sym (es ∙ (x.here.unread.loaded.words c (omega arith) (omega (arith, ending))).sort)

      -- ---- no CASE is left
      module _ (f : s ≡ CASE → ⊥) where
        none_left : (x.cs ≡ no_case) × (g.last ≡ c)
        none_left = cases_none (sort_in a.known.W) (Parses (sort_in a.known.W)) x.is (λ q. f (sym sort-is ∙ q))

        counted : n ≡ used + fors_in_cases g.cs
        unfolding fors_in_cases
        counted = let z : fors_in_cases x.cs ≡ 0 = ap fors_in_cases none_left.0 in omega (arith, x.count, z)

        defaults : Defaults text now values k n c
        defaults = record {
          to = g.to;
          around = a;
          here = x.here;
          d = g.d;
          o = g.o;
          z = g.z;
          is = subst (λ (v : ℕ). DefaultAt (sort_in a.known.W) (Parses (sort_in a.known.W)) g.d g.o v g.z) none_left.1 g.otherwise;
          ends = g.ends;
          after = g.after;
          room = omega (arith, counted, g.room);
        }

        abbrev defaults-as : SameValues values values' → Defaults text now values k n c → Defaults text now values' k n c
        defaults-as sv d = record { to = d.to; around = around-as sv d.around; here = here-as sv d.around now k n c d.to d.here; d = d.d; o = d.o; z = d.z; is = d.is; ends = d.ends; after = d.after; room = d.room }

        pub case-defaults : Defaults text now values' k n c
        case-defaults = defaults-as x.same defaults

        nothing-more : (C : List ℕ) → RawCases (ground_of a) a.known.n C x.cs a.known.S n c g.last
        unfolding RawCases
        nothing-more C = subst (λ (l : Cases). RawCases (ground_of a) a.known.n C l a.known.S n c g.last) (sym none_left.0) (sym none_left.1)

        no_cases : cases_faults a.known.W a.K a.M g.cs a.known.S used ≡ []
        unfolding cases_faults
        no_cases = x.faults-are ∙ ap (λ (l : Cases). cases_faults a.known.W a.K a.M l a.known.S n) none_left.0

        finished : (after values'' : List ℕ) (r : Walked) → Defaulted text now values' after values'' k n c r → ForCases after values'' r
        unfolding defaults ground_of Tell
        finished after values'' r dd = by_answer r (answer-as x.same _ _ _ _ _ _ _ _ r (dd.is (defaults-as x.same defaults)))
          where
            by_answer : (q : Walked) → Answer (list_faults a.known.W a.K a.M g.o a.known.S n) now after values values'' c g.to (n + fors_in_list g.o)
                (RawDefault (ground_of a) a.known.n (cells_of after) (λ (x2 y2 : ℕ). RawList (ground_of a) a.known.n (cells_of after) g.o a.known.S n x2 y2) c g.to) q → ForCases after values'' q
            by_answer (Ok (next, u)) y =
                let d = y.tells in
                done-answer _ _ _ _ _ _ _ _ _ _ _
                (record {
                  none = nothing-in-both no_cases (subst (λ (v : ℕ). list_faults a.known.W a.K a.M g.o a.known.S v ≡ []) counted d.none);
                  next-is = d.next-is;
                  used-is = omega (arith, d.used-is, counted);
                  few = d.few;
                  written = record {
                    last = g.last;
                    cases-are = x.on (cells_of after) d.outside (nothing-more (cells_of after));
                    default-is = subst (λ (v : ℕ). RawDefault (ground_of a) a.known.n (cells_of after) (λ (x2 y2 : ℕ). RawList (ground_of a) a.known.n (cells_of after) g.o a.known.S (used + fors_in_cases g.cs) x2 y2) v g.to) (sym none_left.1)
                        (subst (λ (v : ℕ). RawDefault (ground_of a) a.known.n (cells_of after) (λ (x2 y2 : ℕ). RawList (ground_of a) a.known.n (cells_of after) g.o a.known.S v x2 y2) c g.to) counted d.written);
                  };
                  outside = outside-on (outside_wider first g.to x.outside (omega arith) (omega (arith, ending))) (outside_wider first g.to d.outside x.order (omega arith));
                  same = d.same;
                })
                (y.long ∙ x.long)
            by_answer (Err broken) y =
                first-answer _ _ _ _ _ _ _ _ broken _
                (first-after no_cases (subst (λ (v : ℕ). First (as_fault broken) (list_faults a.known.W a.K a.M g.o a.known.S v)) counted y.tells)) (y.long ∙ x.long)

      -- ---- a CASE
      module _ (h : s ≡ CASE) where
        f : FirstCase (sort_in a.known.W) (Parses (sort_in a.known.W)) g.d x.cs c g.last
        f = cases-first (sort_in a.known.W) (Parses (sort_in a.known.W)) x.is (sort-is ∙ h)

        orders : (c + 1 < f.n) × (f.n + 1 ≤ f.m) × (f.m ≤ g.last)
        orders = (
          exprs-grow (sort_in a.known.W) (Parses (sort_in a.known.W)) (grows a.known.W) f.constants,
          list-grows (sort_in a.known.W) (Parses (sort_in a.known.W)) (grows a.known.W) f.list,
          cases-grow (sort_in a.known.W) (Parses (sort_in a.known.W)) (grows a.known.W) f.more,
        )

        values-at : CaseValues now values' c
        values-at = record {
          text = text;
          k = k;
          used = n;
          to = g.to;
          around = around-as x.same a;
          here = here-as x.same a now k n c g.to x.here;
          es = f.cs;
          n = f.n;
          is = f.constants;
          ends = f.colon;
          inside = omega (arith, orders, ending);
        }

        pub case-values-stand : CaseValues now values' c
        case-values-stand = values-at

        value-faults : List Fault
        value-faults = case_faults a.known.W a.known.S a.M f.cs

        list-faults : List Fault
        list-faults = list_faults a.known.W a.K a.M f.b a.known.S n

        rest-faults : List Fault
        rest-faults = cases_faults a.known.W a.K a.M f.rest a.known.S (n + fors_in_list f.b)

        all-faults : cases_faults a.known.W a.K a.M g.cs a.known.S used ≡ value-faults ++ list-faults ++ rest-faults
        unfolding cases_faults value-faults list-faults rest-faults
        all-faults = x.faults-are ∙ ap (λ (l : Cases). cases_faults a.known.W a.K a.M l a.known.S n) f.is

        value-in : Inside (c + 1) f.n value-faults
        unfolding value-faults
        value-in = case-inside a.known.W a.known.S a.M f.constants

        list-in : Inside (f.n + 1) f.m list-faults
        unfolding list-faults
        list-in = list_inside a.known.W a.K a.M f.list a.known.S n

        rest_in : Inside f.m g.last rest-faults
        unfolding rest-faults
        rest_in = cases-inside a.known.W a.K a.M f.more a.known.S _

        whole : cases_faults a.known.W a.K a.M g.cs a.known.S used ++ else-faults ≡ value-faults ++ list-faults ++ rest-faults ++ else-faults
        whole = ap (λ (l : List Fault). l ++ else-faults) all-faults

        behind-list : (p : Fault) → First p (value-faults ++ list-faults) → First p (value-faults ++ list-faults ++ rest-faults ++ else-faults)
        behind-list p q =
            let j1 = inside_both value-in list-in (omega (arith, orders)) (omega (arith, orders)) in
            let j2 = inside_both j1 rest_in (omega (arith, orders)) (omega (arith, orders)) in
            first-before (first-before q j1 rest_in (omega arith)) j2 else-in (omega arith)

        module _ (one : List ℕ) (j : Stepped) (cv : CaseValued now values' one c j) where
          va : answered.Answer value-faults now one c f.n (CaseChain a.known.W a.known.S a.M (cells_of one) f.cs f.n c) j
          unfolding values-at value-faults
          va = cv.is values-at

          values-wrong : (broken : Breach) → j ≡ Err broken → ForCases one values' (Err broken)
          unfolding else-faults
          values-wrong broken q =
              first-answer _ _ _ _ _ _ _ _ broken _
              (subst (First (as_fault broken)) (sym whole) (behind-list _ (first-before (faulty-found j va broken q) value-in list-in (omega arith)))) (va.long ∙ x.long)

          module _ (colon : ℕ) (q : j ≡ Ok colon) where
            v : answered.Fine value-faults now one c f.n colon (CaseChain a.known.W a.known.S a.M (cells_of one) f.cs f.n c)
            v = typed-fine j va colon q

            lists : Lists text one values k n (f.n + 1)
            unfolding fors_in_cases
            lists = record {
              to = f.m;
              around = a;
              here = here_on a now one k n c g.to n (f.n + 1) f.m x.here (kept-outside v.kept) va.long (omega arith) x.here.few (omega arith) (omega (arith, orders, ending)) (omega (arith, orders)) (omega arith) (omega (arith, orders, ending));
              d = g.d;
              l = f.b;
              is = f.list;
              room = let z : fors_in_cases x.cs ≡ fors_in_list f.b + fors_in_cases f.rest = ap fors_in_cases f.is in omega (arith, x.count, z, g.room);
            }

            pub case-lists : Lists text one values' k n (colon + 1)
            case-lists = lists-as x.same (subst (λ (w : ℕ). Lists text one values k n (w + 1)) (sym v.next-is) lists)

            pub case-colon : (c < colon) × (colon < 8191)
            case-colon = (omega (arith, v.next-is, orders), omega (arith, v.next-is, orders, ending))

            module _ (two values'' : List ℕ) (r : Walked) (l : Listed text one values' two values'' k n (colon + 1) r) where
              inner : Answer list-faults one two values values'' (f.n + 1) f.m (n + fors_in_list f.b) (RawList (ground_of a) a.known.n (cells_of two) f.b a.known.S n (f.n + 1) f.m) r
              unfolding lists ground_of list-faults
              inner = answer-as x.same _ _ _ _ _ _ _ _ r ((subst (λ (w : ℕ). Listed text one values' two values'' k n (w + 1) r) v.next-is l).is (lists-as x.same lists))

              list-wrong : (broken : Breach) → r ≡ Err broken → ForCases two values'' (Err broken)
              unfolding else-faults
              list-wrong broken e =
                  first-answer _ _ _ _ _ _ _ _ broken _ (subst (First (as_fault broken)) (sym whole) (behind-list _ (first-after v.none (faulty-first r inner broken e)))) (inner.long ∙ va.long ∙ x.long)

              module _ (e : ℕ) (u : Scope) (q2 : r ≡ Ok (e, u)) where
                done : Done list-faults one two values values'' (f.n + 1) f.m (n + fors_in_list f.b) e u.used (RawList (ground_of a) a.known.n (cells_of two) f.b a.known.S n (f.n + 1) f.m)
                done = upto_done r inner e u q2

                pub case-closes : (c < e) × (e < 8191) × ((c + 1) * 8 + 8 ≤ length two)
                case-closes = (omega (arith, done.next-is, orders), omega (arith, done.next-is, orders, ending), omega (arith, inner.long, va.long, orders, ending, x.here.unread.loaded.room))

                module _ (three : List ℕ) (lk : Linked two three (c + 1) a_pass 0 e) where
                  at_next : Outside (cells_of two) (cells_of three) (c + 1) (c + 1 + 1)
                  at_next = linked-outside lk

                  long-three : length three ≡ length code
                  long-three = lk.kept.long ∙ inner.long ∙ va.long ∙ x.long

                  to-three : (p q3 : ℕ) → c + 2 ≤ p → q3 ≤ f.n → SameWords (cells_of one) (cells_of three) p q3
                  to-three p q3 l1 l2 = same-on (same-before p q3 done.outside (omega arith)) (same-behind p q3 at_next (omega arith))

                  first_three : SameWords (cells_of one) (cells_of three) c (c + 1)
                  first_three = same-on (same-before c (c + 1) done.outside (omega (arith, orders))) (same-before c (c + 1) at_next (omega arith))

                  chained : CaseChain a.known.W a.known.S a.M (cells_of three) f.cs f.n c
                  chained = case-chain-same a.known.W a.known.S a.M (cells_of one) (cells_of three) f.n (c + 2) (to-three (c + 2) f.n (omega arith) (omega arith)) f.cs c first_three (omega arith) v.written

                  pub case-links : Chained three colon c × (e < word_limit)
                  case-links = (
                    subst (λ (w : ℕ). Chained three w c) (sym v.next-is) (record {
                      W = a.known.W;
                      S = a.known.S;
                      M = a.M;
                      es = f.cs;
                      is = chained;
                      before = omega (arith, orders);
                      last = omega (arith, orders, ending);
                      room = omega (arith, long-three, g.here.calls.room);
                    }),
                    omega (arith, case-closes),
                  )

                  module _ (four : List ℕ) (vl : ValuesLinked three four colon e c) where
                    y : ValuesLinked three four f.n f.m c
                    y = subst (λ (w : ℕ). ValuesLinked three four w f.m c) v.next-is (subst (λ (w : ℕ). ValuesLinked three four colon w c) done.next-is vl)

                    written : Outside (cells_of now) (cells_of four) c f.m
                    written =
                        outside-on (outside-on (outside-on (outside_wider c f.m (kept-outside v.kept) (omega arith) (omega (arith, orders))) (outside_wider c f.m done.outside (omega (arith, orders)) (omega arith)))
                        (outside_wider c f.m at_next (omega arith) (omega (arith, orders)))) (outside_wider c f.m y.outside (omega arith) (omega (arith, orders)))

                    raw : RawConstants (ground_of a) a.known.n (cells_of four) a.known.S f.cs (f.n + 1) f.m c
                    unfolding ground_of
                    raw = y.values (ground_of a) a.known.n a.known.S f.cs chained

                    left : cases_faults a.known.W a.K a.M g.cs a.known.S used ≡ rest-faults
                    left = all-faults ∙ ap (λ (m2 : List Fault). m2 ++ rest-faults) (nothing-in-both v.none done.none)

                    goes : Casing g four values'' f.m (n + fors_in_list f.b)
                    unfolding rest-faults RawCases fors_in_cases
                    goes = record {
                      same = done.same;
                      cs = f.rest;
                      is = f.more;
                      here = here_on a now four k n c g.to (n + fors_in_list f.b) f.m g.to x.here written
                          (y.long ∙ long-three ∙ sym x.long) (omega arith) (omega (arith, done.few, done.used-is)) (omega arith) (omega (arith, orders, ending)) (omega (arith, orders)) (omega arith) (omega arith);
                      count = let z : fors_in_cases x.cs ≡ fors_in_list f.b + fors_in_cases f.rest = ap fors_in_cases f.is in omega (arith, x.count, z);
                      faults-are = left;
                      outside = outside-on (outside_wider first f.m x.outside (omega arith) (omega (arith, orders))) (outside_wider first f.m written x.order (omega arith));
                      order = omega (arith, x.order, orders);
                      long = y.long ∙ long-three;
                      on = λ C o others.
                          let sc = same-before c f.m o (omega arith) in
                          x.on C (outside-on (outside_wider c g.to written (omega arith) (omega (arith, orders, ending))) (outside_wider c g.to o (omega (arith, orders)) (omega arith)))
                          (subst (λ (m2 : Cases). RawCases (ground_of a) a.known.n C m2 a.known.S n c g.last) (sym f.is)
                          (record {
                            first = f.n + 1;
                            next = f.m;
                            op = op_same sc c (omega arith) (omega (arith, orders)) _ (y.op ∙ case-chain-op a.known.W a.known.S a.M (cells_of three) f.cs f.n c chained);
                            place = place_same sc c (omega arith) (omega (arith, orders)) _ y.place;
                            values = constants-same (ground_of a) a.known.n (cells_of four) C c f.m sc a.known.S (f.n + 1) f.m (omega (arith, orders)) f.cs c (omega arith) (omega (arith, orders)) raw;
                            behind = subst (RawWord C a_pass (c + 1)) done.next-is (word_same sc (c + 1) (omega arith) (omega (arith, orders)) _ e (word_same y.behind (c + 1) (omega arith) (omega arith) _ e (linked-word lk)));
                            before = omega (arith, orders);
                            list = list_same (ground_of a) a.known.n (cells_of two) C f.b a.known.S n (f.n + 1) f.m
                                (same-on (same-on (same-behind (f.n + 1) f.m at_next (omega (arith, orders))) (same-behind (f.n + 1) f.m y.outside (omega arith))) (same-before (f.n + 1) f.m o (omega arith))) done.written;
                            rest = others;
                          }));
                    }

                    goes-on : Casing g four values'' e u.used
                    goes-on = subst (λ (w : ℕ). Casing g four values'' e w) (sym done.used-is) (subst (λ (w : ℕ). Casing g four values'' w (n + fors_in_list f.b)) (sym done.next-is) goes)

  -- ---- for whatever the statement is
  module _ (s : ℕ) (es : s ≡ op_at (cells_of now) c) where
    pub cases-finished : (s ≡ CASE → ⊥) → (after values'' : List ℕ) (r : Walked) → Defaulted text now values' after values'' k n c r → Chosen text code values after values'' k used first r
    cases-finished f after values'' r dd = record { is = λ g. finished g s es f after values'' r dd }

    module _ (h : s ≡ CASE) (one : List ℕ) (j : Stepped) (cv : CaseValued now values' one c j) where
      pub case-wrong : (broken : Breach) → j ≡ Err broken → Chosen text code values one values' k used first (Err broken)
      case-wrong broken q = record { is = λ g. values-wrong g s es h one j cv broken q }

      module _ (colon : ℕ) (q : j ≡ Ok colon) (two values'' : List ℕ) (r : Walked) (l : Listed text one values' two values'' k n (colon + 1) r) where
        pub case-list-wrong : (broken : Breach) → r ≡ Err broken → Chosen text code values two values'' k used first (Err broken)
        case-list-wrong broken e = record { is = λ g. list-wrong g s es h one j cv colon q two values'' r l broken e }

        pub cases-go : (e : ℕ) (u : Scope) → r ≡ Ok (e, u) → (three : List ℕ) → Linked two three (c + 1) a_pass 0 e → (four : List ℕ) → ValuesLinked three four colon e c → Casings text code values k used first four values'' e u.used
        cases-go e u q2 three lk four vl = record { is = λ g. goes-on g s es h one j cv colon q two values'' r l e u q2 three lk four vl }
