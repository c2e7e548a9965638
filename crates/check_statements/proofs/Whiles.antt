-- WHILE: its condition, its list, and what is written of it.
use Rattle.paper.specs.Words.{word_limit}
use Rattle.check_names.specs.Promises.{store_bytes}
use Rattle.layout.specs.Parts.{link_part}
use mathlib.Core.Path.{◌≡◌, refl, sym, ap, subst, ◌∙◌}
use mathlib.Core.Bool.{false}
use mathlib.Core.List.{List, []}
use Prim.Native.Nat.{ℕ, ◌+◌, ◌-◌, ◌%◌, ◌<◌, ◌≤◌}
use native.Mathlib.Omega.{arith}
use lib.ListN.{length}
use Rattle.store_cells.specs.Cells.{cells_of}
use Rattle.paper.specs.Sorts.{WHILE}
use Rattle.paper.specs.Trees.{Statement}
use Rattle.paper.specs.Expressions.{level_of}
use Rattle.paper.specs.Names.{a_bool, sort_in}
use Rattle.paper.specs.Types.{of_type}
use Rattle.paper.specs.Checks.{fors_in, fors_in_list, statement_faults, list_faults}
use Rattle.code.specs.Cells.{place_at}
use Rattle.grammar.specs.Form.{Parses}
use Rattle.grammar.proofs.Inversions.{IsWhile, statement-while}
use Rattle.grammar.proofs.Places.{list-grows}
use Rattle.store_writing.specs.Promises.{Kept}
use Rattle.store_writing.proofs.Keeping.{place-below, linked-place}
use Rattle.check_expressions.specs.Answers.{Typed}
use Rattle.check_expressions.specs.Answers as expressions
use Rattle.faults.specs.First.{Inside}
use Rattle.faults.proofs.First.{first-before, first-after, nothing-in-both}
use Rattle.faults.proofs.Expressions.{grows, of-type-inside}
use Rattle.faults.proofs.Statements.{list_inside}
use Rattle.check_links.specs.Raw.{RawWord, RawDo, RawTerm, RawList, RawWhile, RawStatement}
use Rattle.check_around.specs.declared.Setting.{Setting}
use Rattle.check_around.specs.Around.{Around, ground_of, offset_in}
use Rattle.check_names.specs.declared.Scope.{Scope}
use Rattle.check_statements.specs.Answers.{Stands, Lists, Done, Answer, StatementAnswer, Listed, Begins, Begun}
use Rattle.check_compounds.specs.Here.{Outside}
use Rattle.check_compounds.specs.Parts.{WhileEnded}
use Rattle.check_compounds.proofs.Frames.{outside_wider, outside-on, kept-outside, same-before, same-behind, same-on, tail-before, here_on, term-same, list_same, op_same, value_same, word_same, linked-outside, linked-word}
use Rattle.check_compounds.proofs.ExpressionsJudged.{expression-stands, judged-faulty, judged-long, judged-none, judged-next, judged-term, judged-kept}
use Rattle.check_statements.proofs.ListWalk.{upto_done, faulty-first, done-answer, first-answer}
use Rattle.code.specs.Steps.{a_while}
use Rattle.layout.specs.declared.types.ValueType.{ValueType}
use Rattle.layout.specs.declared.types.ValueType.TheVariants.{Bool}
use Rattle.check_names.specs.Scopes.{Walked}
use Rattle.check_expressions.specs.Judgements.{Judged}
use Rattle.std.specs.Prelude.{Ok, Err}
use Rattle.layout.specs.declared.rules.Breach.{Breach}

module _ (text code values : List ℕ) (k : Setting) (used i : ℕ) (g : Begins WHILE text code values k used i) where
  abbrev s : Stands text code values k used i
  s = g.stands

  abbrev a : Around text values
  a = s.around

  w : IsWhile (sort_in a.known.W) (Parses (sort_in a.known.W)) s.d s.s i s.to
  w = statement-while (sort_in a.known.W) (Parses (sort_in a.known.W)) s.is g.here-is

  begins : i + 1 < w.do_at
  begins = grows a.known.W _ _ _ _ w.condition

  listed : w.do_at + 1 ≤ w.end
  listed = list-grows (sort_in a.known.W) (Parses (sort_in a.known.W)) (grows a.known.W) w.list

  no-operator : level_of (sort_in a.known.W w.do_at) ≡ 0
  unfolding level_of
  no-operator = ap level_of w.do_word

  last : s.to < word_limit
  last = s.here.unread.loaded.last

  pub while-condition : expressions.Stands code values 5 (i + 1)
  while-condition = expression-stands text code values a k used i s.to s.here w.e (i + 1) w.do_at w.condition no-operator (omega arith) (omega (arith, listed, w.after))

  -- ---- the answer, for the statement that it is
  abbrev ForStatement : (after values' : List ℕ) → Walked → Statement → Type 0
  ForStatement after values' r t =
      Answer (statement_faults a.known.W a.K a.M t a.known.S used) code after values values' i s.to (used + fors_in t) (RawStatement (ground_of a) a.known.n (cells_of after) t a.known.S used i s.to) r

  condition-inside : Inside (i + 1) w.do_at (of_type a.known.W a_bool a.known.S w.e)
  condition-inside = of-type-inside a.known.W _ _ _ _ w.condition a_bool a.known.S

  body-inside : Inside (w.do_at + 1) w.end (list_faults a.known.W a.K a.M w.body a.known.S used)
  body-inside = list_inside a.known.W a.K a.M w.list a.known.S used

  module _ (one : List ℕ) (j : Judged) (c : Typed code values one false Bool (i + 1) j) where
    wrong : (broken : Breach) → j ≡ Err broken → StatementAnswer g.stands one values (Err broken)
    unfolding statement_faults
    wrong broken q =
        subst (ForStatement one values (Err broken)) (sym w.is)
        (first-answer _ _ _ _ _ _ _ _ broken _
        (first-before (judged-faulty text code values a k used i s.to s.here w.e (i + 1) w.do_at w.condition no-operator (omega arith) (omega (arith, listed, w.after)) one Bool a_bool refl j c broken q)
        condition-inside body-inside (omega arith))
        (judged-long text code values a k used i s.to s.here w.e (i + 1) w.do_at w.condition no-operator (omega arith) (omega (arith, listed, w.after)) one Bool a_bool refl j c))

    module _ (type : ValueType) (d : ℕ) (q : j ≡ Ok (type, d)) where
      do-at : d ≡ w.do_at
      do-at = judged-next text code values a k used i s.to s.here w.e (i + 1) w.do_at w.condition no-operator (omega arith) (omega (arith, listed, w.after)) one Bool a_bool refl j c type d q

      fine : of_type a.known.W a_bool a.known.S w.e ≡ []
      fine = judged-none text code values a k used i s.to s.here w.e (i + 1) w.do_at w.condition no-operator (omega arith) (omega (arith, listed, w.after)) one Bool a_bool refl j c type d q

      term : RawTerm (ground_of a) a.known.n (cells_of one) a.known.S w.e (i + 1) w.do_at
      term = judged-term text code values a k used i s.to s.here w.e (i + 1) w.do_at w.condition no-operator (omega arith) (omega (arith, listed, w.after)) one Bool a_bool refl j c type d q

      kept : Kept code one (i + 1) w.do_at
      kept = judged-kept text code values a k used i s.to s.here w.e (i + 1) w.do_at w.condition no-operator (omega arith) (omega (arith, listed, w.after)) one Bool a_bool refl j c type d q

      pub while-forward : (i < d) × (d < word_limit)
      while-forward = (omega (arith, do-at, begins), omega (arith, do-at, listed, w.after, last))

      lists : Lists text one values k used (w.do_at + 1)
      unfolding fors_in
      lists = record {
        to = w.end;
        around = a;
        here = here_on a code one k used i s.to used (w.do_at + 1) w.end s.here (kept-outside kept) kept.long (omega arith) s.here.few
            (omega arith) (omega (arith, listed, w.after)) (omega (arith, begins)) (omega arith) (omega (arith, w.after));
        d = s.d - 1;
        l = w.body;
        is = w.list;
        room = subst (λ (t : Statement). used + fors_in t ≤ a.known.n) w.is s.room;
      }

      pub while-lists : Lists text one values k used (d + 1)
      while-lists = subst (λ (x : ℕ). Lists text one values k used (x + 1)) (sym do-at) lists

      module _ (two values' : List ℕ) (r : Walked) (l : Listed text one values two values' k used (d + 1) r) where
        body : Answer (list_faults a.known.W a.K a.M w.body a.known.S used) one two values values' (w.do_at + 1) w.end (used + fors_in_list w.body)
            (RawList (ground_of a) a.known.n (cells_of two) w.body a.known.S used (w.do_at + 1) w.end) r
        unfolding lists
        body = (subst (λ (x : ℕ). Listed text one values two values' k used (x + 1) r) do-at l).is lists

        list-wrong : (broken : Breach) → r ≡ Err broken → StatementAnswer g.stands two values' (Err broken)
        unfolding statement_faults
        list-wrong broken e =
            subst (ForStatement two values' (Err broken)) (sym w.is)
            (first-answer _ _ _ _ _ _ _ _ broken _ (first-after fine (faulty-first r body broken e)) (body.long ∙ kept.long))

        module _ (e : ℕ) (n : Scope) (q2 : r ≡ Ok (e, n)) where
          done : Done (list_faults a.known.W a.K a.M w.body a.known.S used) one two values values' (w.do_at + 1) w.end (used + fors_in_list w.body) e n.used
              (RawList (ground_of a) a.known.n (cells_of two) w.body a.known.S used (w.do_at + 1) w.end)
          done = upto_done r body e n q2

          pub while-closes : (i < d) × (d < e) × (e < word_limit) × (store_bytes ≤ length two)
          while-closes = (omega (arith, do-at, begins), omega (arith, do-at, listed, done.next-is), omega (arith, done.next-is, w.after, last), omega (arith, body.long, kept.long, s.here.calls.room))

          module _ (three : List ℕ) (x : WhileEnded two three i d e) where
            y : WhileEnded two three i w.do_at w.end
            y = subst (λ (v : ℕ). WhileEnded two three i v w.end) do-at (subst (λ (v : ℕ). WhileEnded two three i d v) done.next-is x)

            C : List ℕ
            C = cells_of three

            from-two : Outside (cells_of two) (cells_of y.one) w.do_at (w.do_at + 1)
            from-two = linked-outside y.opens

            from-mid : Outside (cells_of y.one) (cells_of y.two) w.end (w.end + 1)
            from-mid = linked-outside y.again

            from_last : Outside (cells_of y.two) (cells_of three) i (i + 1)
            from_last = linked-outside y.head

            place : place_at (cells_of three) i ≡ offset_in a.known.W i
            unfolding offset_in
            place =
                y.head.place_is ∙ linked-place y.again i ∙ linked-place y.opens i ∙ ap (λ (t : ℕ). t % link_part) (tail-before done.outside i (omega (arith, begins))) ∙ place-below kept i (omega arith)
                ∙ s.here.unread.places i (omega arith) (omega (arith, begins, listed, w.after))

            raw : RawWhile (ground_of a) a.known.n (cells_of three) a.known.S i w.e
                (λ (x y : ℕ). RawList (ground_of a) a.known.n (cells_of three) w.body a.known.S used x y) i s.to
            unfolding ground_of
            raw =
                let v = y.head.value-is in
                record {
                  head = record { first = refl; place = place; word = subst (λ (t : ℕ). RawWord (cells_of three) a_while i t) (sym w.after) (linked-word y.head) };
                  term = subst (λ (t : ℕ). RawTerm (ground_of a) a.known.n (cells_of three) a.known.S w.e (i + 1) t) (sym v)
                      (term-same (ground_of a) a.known.n (cells_of one) (cells_of three) a.known.S w.e (i + 1) w.do_at
                      (same-on (same-on (same-on (same-before (i + 1) w.do_at done.outside (omega arith)) (same-before (i + 1) w.do_at from-two (omega arith)))
                      (same-before (i + 1) w.do_at from-mid (omega (arith, listed)))) (same-behind (i + 1) w.do_at from_last (omega arith))) term);
                  do-is = subst (RawDo (cells_of three)) (sym v)
                      (let q = same-on (same-before w.do_at (w.do_at + 1) from-mid (omega (arith, listed))) (same-behind w.do_at (w.do_at + 1) from_last (omega (arith, begins))) in
                      record { op = op_same q w.do_at (omega arith) (omega arith) _ y.opens.op-is; value = value_same q w.do_at (omega arith) (omega arith) _ y.opens.value-is });
                  z = w.end;
                  list = subst (λ (t : ℕ). RawList (ground_of a) a.known.n (cells_of three) w.body a.known.S used (t + 1) w.end) (sym v)
                      (list_same (ground_of a) a.known.n (cells_of two) (cells_of three) w.body a.known.S used (w.do_at + 1) w.end
                      (same-on (same-on (same-behind (w.do_at + 1) w.end from-two (omega arith)) (same-before (w.do_at + 1) w.end from-mid (omega arith)))
                      (same-behind (w.do_at + 1) w.end from_last (omega (arith, begins)))) done.written);
                  again = word_same (same-behind w.end (w.end + 1) from_last (omega (arith, begins, listed))) w.end (omega arith) (omega arith) _ i (linked-word y.again);
                  end = w.after;
                }

            outside : Outside (cells_of code) (cells_of three) i s.to
            outside =
                outside-on (outside-on (outside-on (outside-on (outside_wider i s.to (kept-outside kept) (omega arith) (omega (arith, listed, w.after)))
                (outside_wider i s.to done.outside (omega (arith, begins)) (omega (arith, w.after))))
                (outside_wider i s.to from-two (omega (arith, begins)) (omega (arith, listed, w.after))))
                (outside_wider i s.to from-mid (omega (arith, begins, listed)) (omega (arith, w.after))))
                (outside_wider i s.to from_last (omega arith) (omega (arith, begins, listed, w.after)))

            finished : StatementAnswer g.stands three values' (Ok (e + 1, n))
            unfolding statement_faults fors_in RawStatement
            finished =
                subst (ForStatement three values' (Ok (e + 1, n))) (sym w.is)
                (done-answer _ _ _ _ _ _ _ _ _ _ _
                (record {
                  none = nothing-in-both fine done.none;
                  next-is = omega (arith, done.next-is, w.after);
                  used-is = done.used-is;
                  few = done.few;
                  written = raw;
                  outside = outside;
                  same = done.same;
                })
                (y.head.kept.long ∙ y.again.kept.long ∙ y.opens.kept.long ∙ body.long ∙ kept.long))

-- ---- for whatever the statement is
module _ (text code values : List ℕ) (k : Setting) (used i : ℕ) (one : List ℕ) (j : Judged) (c : Typed code values one false Bool (i + 1) j) where
  pub while-wrong : (broken : Breach) → j ≡ Err broken → Begun WHILE text code values one values k used i (Err broken)
  while-wrong broken q = record { is = λ g. wrong text code values k used i g one j c broken q }

  module _ (type : ValueType) (d : ℕ) (q : j ≡ Ok (type, d)) (two values' : List ℕ) (r : Walked) (l : Listed text one values two values' k used (d + 1) r) where
    pub while-list-wrong : (broken : Breach) → r ≡ Err broken → Begun WHILE text code values two values' k used i (Err broken)
    while-list-wrong broken e = record { is = λ g. list-wrong text code values k used i g one j c type d q two values' r l broken e }

    pub while-finished : (e : ℕ) (scope : Scope) → r ≡ Ok (e, scope) → (three : List ℕ) → WhileEnded two three i d e → Begun WHILE text code values three values' k used i (Ok (e + 1, scope))
    while-finished e scope q2 three x = record { is = λ g. finished text code values k used i g one j c type d q two values' r l e scope q2 three x }
