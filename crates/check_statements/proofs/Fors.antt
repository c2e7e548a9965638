-- FOR: its head, its list, and what is written of it.
use Rattle.paper.specs.Words.{word_limit}
use Rattle.layout.specs.Parts.{link_part}
use mathlib.Core.Path.{◌≡◌, refl, sym, ap, subst, ◌∙◌}
use mathlib.Core.Bool.{false}
use mathlib.Core.List.{List, [], ◌++◌}
use mathlib.Core.Option.{Option, none, some}
use Prim.Native.Nat.{ℕ, suc, ◌+◌, ◌-◌, ◌*◌, ◌/◌, ◌%◌, ◌<◌, ◌≤◌}
use native.Mathlib.Omega.{arith}
use lib.ListN.{length}
use Rattle.store_cells.specs.Cells.{cells_of}
use Rattle.paper.specs.Sorts.{FOR}
use Rattle.paper.specs.Terms.{of_routine}
use Rattle.paper.specs.Trees.{Expr, Statement}
use Rattle.paper.specs.Names.{a_num, Scopes, sort_in, spelled, hides_own, enter}
use Rattle.paper.specs.Types.{Fault, of_type}
use Rattle.paper.specs.Checks.{fors_in, fors_in_list, optional_num, statement_faults, list_faults}
use Rattle.code.specs.Cells.{op_in, value_in, place_in, link_in, head_at, tail_at, place_at}
use Rattle.check_names.specs.Numbers.{number_of}
use Rattle.check_names.specs.Meanings.{is_protected}
use Rattle.check_names.specs.Promises.{number_at, Declared, Links, Left, store_bytes, number_limit}
use Rattle.check_names.specs.declared.Scope.{Scope}
use Rattle.store_writing.proofs.Rewriting.{rewritten-length, rewritten-head, rewritten-tail}
use Rattle.store_writing.proofs.Keeping.{place-below, linked-place}
use Rattle.grammar.specs.Form.{Parses}
use Rattle.grammar.proofs.Inversions.{IsFor, statement-for}
use Rattle.grammar.proofs.Places.{list-grows, step-grows}
use Rattle.faults.specs.First.{First, Inside}
use Rattle.faults.proofs.First.{first-before, first-after, nothing-in-both}
use Rattle.faults.proofs.Expressions.{grows}
use Rattle.faults.proofs.Statements.{list_inside}
use Rattle.check_links.specs.Raw.{Ground, SameWords, RawWord, RawStep, RawList, RawFor, RawStatement}
use Rattle.check_links.proofs.Orders.{bound-order, step-order}
use Rattle.check_around.specs.declared.Setting.{Setting}
use Rattle.check_around.specs.Around.{Around, ground_of, offset_in}
use Rattle.check_around.specs.Answers as answered
use Rattle.check_names.specs.Scopes.{with_used, EachHasWord, Enters, Leaves, Grown, Walked}
use Rattle.check_names.proofs.Growing.{loop-has-word, loop-opened, loop-left}
use Rattle.check_statements.specs.Answers.{SameValues, Stands, Lists, Done, Answer, StatementAnswer, Listed, Begins, Begun}
use Rattle.check_compounds.specs.Here.{Outside}
use Rattle.check_compounds.specs.Parts.{ForHeads, name_faults, RawHead, ForMay, ForHeaded, ForEnded}
use Rattle.check_compounds.proofs.Frames.{outside_wider, outside-on, kept-outside, same-before, same-behind, same-on, head-before, tail-before, bound-same, list_same, op_same, value_same, place_same, word_same, linked-outside, linked-word}
use Rattle.check_statements.proofs.ListWalk.{as-scope, upto_done, faulty-first, done-answer, first-answer}
use Rattle.check_compounds.proofs.AnswerShapes.{typed-fine, faulty-found}
use Rattle.check_compounds.proofs.Heads.{head-inside}
use Rattle.check_compounds.proofs.Frames.{rewritten-outside}
use Rattle.check_statements.proofs.ForScope.{inner, enters, leaves-links, leaves}
use Rattle.code.specs.Steps.{a_for, a_for_test}
use Rattle.layout.specs.Kinds.{a_loop, cell_with}
use Rattle.check_around.specs.Answers.{Stepped}
use Rattle.std.specs.Prelude.{Ok, Err}
use Rattle.layout.specs.Broken.{as_fault}
use Rattle.layout.specs.declared.rules.Breach.{Breach}

step_same : (g : Ground) (n : ℕ) (C D : List ℕ) (S : Scopes) (c : Option Expr) (s d : ℕ) → SameWords C D s d → RawStep g n C S c s d → RawStep g n D S c s d
unfolding RawStep
step_same g n C D S none s d w x = x
step_same g n C D S (some e) s d w x = (op_same w s (omega arith) (omega (arith, bound-order g n C S e s d x.1)) _ x.0, bound-same g n C D S e s d w x.1)

module _ (text code values : List ℕ) (k : Setting) (used i : ℕ) (g : Begins FOR text code values k used i) where
  abbrev s : Stands text code values k used i
  s = g.stands

  abbrev a : Around text values
  a = s.around

  w : IsFor (sort_in a.known.W) (Parses (sort_in a.known.W)) s.d s.s i s.to
  w = statement-for (sort_in a.known.W) (Parses (sort_in a.known.W)) s.is g.here-is

  orders : (i + 3 < w.do_at) × (w.do_at + 1 ≤ w.end)
  orders = (omega (arith, grows a.known.W _ _ _ _ w.head.start, grows a.known.W _ _ _ _ w.head.end, steps), list-grows (sort_in a.known.W) (Parses (sort_in a.known.W)) (grows a.known.W) w.list)
    where
      steps : w.head.step_at ≤ w.do_at
      steps = step-grows (sort_in a.known.W) (Parses (sort_in a.known.W)) (grows a.known.W) w.head.step_part

  last : (s.to ≡ w.end + 1) × (s.to < word_limit)
  last = (w.after, s.here.unread.loaded.last)

  heads : ForHeads code values used i
  heads = record {
    text = text;
    k = k;
    to = s.to;
    around = a;
    here = s.here;
    a = w.a;
    b = w.b;
    c = w.c;
    do_at = w.do_at;
    is = w.head;
    inside = omega (arith, orders, last);
  }

  pub for-heads : ForHeads code values used i
  for-heads = heads

  abbrev head-faults : List Fault
  head-faults = name_faults a.known.W a.known.S used i ++ of_type a.known.W a_num a.known.S w.a ++ of_type a.known.W a_num a.known.S w.b ++ optional_num a.known.W a.known.S w.c

  abbrev S' : Scopes
  S' = enter (spelled a.known.W (i + 1)) (of_routine used) a.known.S

  abbrev body-faults : ℕ → List Fault
  body-faults n = list_faults a.known.W a.K a.M w.body S' n

  next-is : used + 1 ≡ suc used
  next-is = omega arith

  in_head : Inside (i + 1) w.do_at head-faults
  unfolding heads
  in_head = head-inside code values used i heads

  in-body : (n : ℕ) → Inside (w.do_at + 1) w.end (body-faults n)
  in-body n = list_inside a.known.W a.K a.M w.list S' n

  abbrev ForStatement : (after values' : List ℕ) → Walked → Statement → Type 0
  ForStatement after values' r t =
      Answer (statement_faults a.known.W a.K a.M t a.known.S used) code after values values' i s.to (used + fors_in t) (RawStatement (ground_of a) a.known.n (cells_of after) t a.known.S used i s.to) r

  counted : used + suc (fors_in_list w.body) ≤ a.known.n
  unfolding fors_in
  counted = subst (λ (t : Statement). used + fors_in t ≤ a.known.n) w.is s.room

  room_for : used < a.known.n
  room_for = omega (arith, counted)

  module _ (one : List ℕ) (j : Stepped) (h : ForHeaded code values one used i j) where
    ha : answered.Answer head-faults code one (i + 2) w.do_at (ForMay (ground_of a) a.known.n (cells_of one) a.known.S used w.a w.b w.c i w.do_at) j
    unfolding heads
    ha = h.is heads

    wrong : (broken : Breach) → j ≡ Err broken → StatementAnswer g.stands one values (Err broken)
    unfolding statement_faults
    wrong broken q =
        subst (ForStatement one values (Err broken)) (sym w.is)
        (first-answer _ _ _ _ _ _ _ _ broken _ (first-before (faulty-found j ha broken q) in_head (in-body (suc used)) (omega arith)) ha.long)

    module _ (d : ℕ) (q : j ≡ Ok d) where
      f : answered.Fine head-faults code one (i + 2) w.do_at d (ForMay (ground_of a) a.known.n (cells_of one) a.known.S used w.a w.b w.c i w.do_at)
      f = typed-fine j ha d q

      number : number_at (cells_of one) (i + 1) ≡ number_of a.known.W (i + 1)
      number = ap (λ (v : ℕ). v / 256 % number_limit) (head-before (kept-outside f.kept) (i + 1) (omega arith)) ∙ (s.here.unread.loaded.words (i + 1) (omega arith) (omega (arith, orders, last))).number w.head.name

      room : (i + 1) * 8 + 8 ≤ length one
      room = omega (arith, orders, last, s.here.unread.loaded.room, ha.long)

      pub for-declares : ((i + 1) * 8 + 8 ≤ length one) × (store_bytes ≤ length values)
      for-declares = (room, a.known.table)

      pub for-spare : (used < 64) × (i < d) × (d < 8191)
      for-spare = (f.written.name.spare, omega (arith, f.next-is, orders), omega (arith, f.next-is, orders, last))

      module _ (m : ℕ) (em : m ≡ cell_with a_loop 0 1 used) (two values' : List ℕ) (dec : Declared one values (i + 1) m two values') where
        unprotected : is_protected (spelled a.known.W (i + 1)) ≡ false
        unfolding ground_of
        unprotected = f.written.name.free

        unhidden : hides_own a.known.S (spelled a.known.W (i + 1)) ≡ false
        unfolding ground_of
        unhidden = f.written.name.hides-none

        named : Outside (cells_of one) (cells_of two) (i + 1) (i + 2)
        named = subst (Outside (cells_of one) (cells_of two) (i + 1)) next-two (rewritten-outside dec.word room)
          where
            next-two : i + 1 + 1 ≡ i + 2
            next-two = omega arith

        long-two : length two ≡ length code
        long-two = rewritten-length dec.word room ∙ ha.long

        changed : Outside (cells_of code) (cells_of two) (i + 1) w.do_at
        changed = outside-on (outside_wider (i + 1) w.do_at (kept-outside f.kept) (omega arith) (omega arith)) (outside_wider (i + 1) w.do_at named (omega arith) (omega (arith, orders)))

        abbrev around : Around text values'
        around = inner a one two values' used (i + 1) m em w.head.name unprotected unhidden number room dec room_for

        lists : Lists text two values' k (used + 1) (w.do_at + 1)
        lists = record {
          to = w.end;
          around = around;
          here = enters a one two values' used (i + 1) m em w.head.name unprotected unhidden number room dec room_for code k i s.to (w.do_at + 1) w.end s.here f.written.name.spare changed long-two
              (omega arith) (omega (arith, orders, last)) (omega (arith, orders)) (omega arith) (omega (arith, last));
          d = s.d - 1;
          l = w.body;
          is = w.list;
          room = omega (arith, counted);
        }

        pub for-lists : (u : ℕ) → u ≡ used + 1 → Lists text two values' k u (d + 1)
        for-lists inside e =
            subst (λ (v : ℕ). Lists text two values' k v (d + 1)) (sym e) (subst (λ (v : ℕ). Lists text two values' k (used + 1) (v + 1)) (sym f.next-is) lists)

        module _ (three values'' : List ℕ) (r : Walked) (l : Listed text two values' three values'' k (used + 1) (d + 1) r) where
          body : Answer (body-faults (used + 1)) two three values' values'' (w.do_at + 1) w.end (used + 1 + fors_in_list w.body)
              (RawList (ground_of a) a.known.n (cells_of three) w.body S' (used + 1) (w.do_at + 1) w.end) r
          unfolding lists ground_of
          body = (subst (λ (v : ℕ). Listed text two values' three values'' k (used + 1) (v + 1) r) f.next-is l).is lists

          list-wrong : (broken : Breach) → r ≡ Err broken → StatementAnswer g.stands three values'' (Err broken)
          unfolding statement_faults
          list-wrong broken e =
              subst (ForStatement three values'' (Err broken)) (sym w.is)
              (first-answer _ _ _ _ _ _ _ _ broken _ (first-after f.none (subst (λ (v : ℕ). First (as_fault broken) (body-faults v)) next-is (faulty-first r body broken e))) (body.long ∙ long-two))

          module _ (e : ℕ) (n : Scope) (q2 : r ≡ Ok (e, n)) where
            done : Done (body-faults (used + 1)) two three values' values'' (w.do_at + 1) w.end (used + 1 + fors_in_list w.body) e n.used
                (RawList (ground_of a) a.known.n (cells_of three) w.body S' (used + 1) (w.do_at + 1) w.end)
            done = upto_done r body e n q2

            pub for-closes : (used < 64) × (i < d) × (d < e) × (e < word_limit) × (store_bytes ≤ length three)
            for-closes = (f.written.name.spare, omega (arith, f.next-is, orders), omega (arith, f.next-is, orders, done.next-is), omega (arith, done.next-is, last), omega (arith, body.long, long-two, s.here.calls.room))

            pub for-leaves : n.first ≡ i → (n.first * 8 + 16 ≤ length three) × (store_bytes ≤ length values'') × Links three (n.first + 1)
            for-leaves o =
                let x = leaves-links a one two values' used (i + 1) m em w.head.name unprotected unhidden number room dec three values'' [] (head-before done.outside (i + 1) (omega (arith, orders))) (tail-before done.outside (i + 1) (omega (arith, orders))) done.same in
                (omega (arith, o, room, body.long, long-two, ha.long), x.1, subst (λ (v : ℕ). Links three (v + 1)) (sym o) x.0)

            module _ (four values''' : List ℕ) (left : Left three values'' (i + 1) values''') (x : ForEnded three four used i d e) where
              back : SameValues values values'''
              back = leaves a one two values' used (i + 1) m em w.head.name unprotected unhidden number room dec three values'' values''' (head-before done.outside (i + 1) (omega (arith, orders))) (tail-before done.outside (i + 1) (omega (arith, orders))) done.same left

              y : ForEnded three four used i w.do_at w.end
              y = subst (λ (v : ℕ). ForEnded three four used i v w.end) f.next-is (subst (λ (v : ℕ). ForEnded three four used i d v) done.next-is x)

              at-do : Outside (cells_of three) (cells_of y.one) w.do_at (w.do_at + 1)
              at-do = linked-outside y.opens

              at-for : Outside (cells_of y.one) (cells_of y.two) i (i + 1)
              at-for = linked-outside y.head

              end-room : w.end * 8 + 8 ≤ length y.two
              end-room = omega (arith, y.head.kept.long, y.opens.kept.long, body.long, long-two, last, s.here.unread.loaded.room)

              at-end : Outside (cells_of y.two) (cells_of four) w.end (w.end + 1)
              at-end = rewritten-outside y.test end-room

              abbrev b : RawHead (ground_of a) a.known.n (cells_of one) a.known.S w.a w.b w.c i w.do_at
              b = f.written.bounds

              bound-orders : (i + 2 + 1 < b.t) × (b.t + 1 < b.s) × (b.s ≤ w.do_at)
              bound-orders = (
                bound-order (ground_of a) a.known.n (cells_of one) a.known.S w.a (i + 2) b.t b.lower,
                bound-order (ground_of a) a.known.n (cells_of one) a.known.S w.b b.t b.s b.upper,
                step-order (ground_of a) a.known.n (cells_of one) a.known.S w.c b.s w.do_at b.steps,
              )

              head-same : (p q : ℕ) → i + 2 ≤ p → q ≤ w.do_at → SameWords (cells_of one) (cells_of four) p q
              head-same p q l h =
                  same-on (same-on (same-on (same-on (same-behind p q named (omega arith)) (same-before p q done.outside (omega arith))) (same-before p q at-do (omega arith))) (same-behind p q at-for (omega arith)))
                  (same-before p q at-end (omega (arith, orders)))

              place-two : place_at (cells_of y.two) i ≡ offset_in a.known.W i
              unfolding offset_in
              place-two =
                  y.head.place_is ∙ linked-place y.opens i ∙ ap (λ (v : ℕ). v % link_part) (tail-before done.outside i (omega (arith, orders)) ∙ tail-before named i (omega arith)) ∙ place-below f.kept i (omega arith)
                  ∙ s.here.unread.places i (omega arith) (omega (arith, orders, last))

              do-same : SameWords (cells_of y.one) (cells_of four) w.do_at (w.do_at + 1)
              do-same = same-on (same-behind w.do_at (w.do_at + 1) at-for (omega (arith, orders))) (same-before w.do_at (w.do_at + 1) at-end (omega (arith, orders)))

              test-head : head_at (cells_of four) w.end ≡ a_for_test + 256 * (used + 256 * i)
              test-head = rewritten-head y.test end-room

              test-tail : tail_at (cells_of four) w.end ≡ place_at (cells_of y.two) i + link_part * (w.do_at + 1)
              test-tail = rewritten-tail y.test end-room

              parts : (v p o : ℕ) → (((a_for_test + 256 * v) % 256 ≡ a_for_test) × ((a_for_test + 256 * v) / 256 ≡ v)) × (((p % link_part + link_part * o) % link_part ≡ p % link_part) × ((p % link_part + link_part * o) / link_part ≡ o))
              parts v p o = ((omega arith, omega arith), (omega arith, omega arith))

              raw : RawFor (ground_of a) a.known.n (cells_of four) a.known.S used i w.a w.b w.c
                  (λ (x2 y2 : ℕ). RawList (ground_of a) a.known.n (cells_of four) w.body S' (suc used) x2 y2) w.end i s.to
              unfolding ground_of
              raw =
                  let sp = same-before i (i + 1) at-end (omega (arith, orders)) in
                  let z = parts (used + 256 * i) (tail_at (cells_of y.two) i) (w.do_at + 1) in
                  record {
                    head = record {
                      first = refl;
                      place = place_same sp i (omega arith) (omega arith) _ place-two;
                      word = subst (RawWord (cells_of four) a_for i) (sym w.after) (word_same sp i (omega arith) (omega arith) _ _ (linked-word y.head));
                    };
                    value = value_same sp i (omega arith) (omega arith) _ y.head.value-is;
                    room = room_for;
                    small = omega (arith, f.written.name.spare);
                    t = b.t;
                    s = b.s;
                    d = w.do_at;
                    lower = bound-same (ground_of a) a.known.n (cells_of one) (cells_of four) a.known.S w.a (i + 2) b.t (head-same (i + 2) b.t (omega arith) (omega (arith, bound-orders))) b.lower;
                    upper = bound-same (ground_of a) a.known.n (cells_of one) (cells_of four) a.known.S w.b b.t b.s (head-same b.t b.s (omega (arith, bound-orders)) (omega (arith, bound-orders))) b.upper;
                    steps = step_same (ground_of a) a.known.n (cells_of one) (cells_of four) a.known.S w.c b.s w.do_at (head-same b.s w.do_at (omega (arith, bound-orders)) (omega arith)) b.steps;
                    do-is = record { op = op_same do-same w.do_at (omega arith) (omega arith) _ y.opens.op-is; value = value_same do-same w.do_at (omega arith) (omega arith) _ y.opens.value-is };
                    list = subst (λ (v : ℕ). RawList (ground_of a) a.known.n (cells_of four) w.body S' v (w.do_at + 1) w.end) next-is
                        (list_same (ground_of a) a.known.n (cells_of three) (cells_of four) w.body S' (used + 1) (w.do_at + 1) w.end
                        (same-on (same-on (same-behind (w.do_at + 1) w.end at-do (omega arith)) (same-behind (w.do_at + 1) w.end at-for (omega (arith, orders)))) (same-before (w.do_at + 1) w.end at-end (omega arith))) done.written);
                    test = record { is = ap op_in test-head ∙ z.0.0; leaves = ap link_in test-tail ∙ z.1.1 };
                    test-value = ap value_in test-head ∙ z.0.1;
                    test-place = ap place_in test-tail ∙ z.1.0 ∙ place-two;
                    ends = w.after;
                  }

              pub for-long : length four ≡ length code
              for-long = rewritten-length y.test end-room ∙ y.head.kept.long ∙ y.opens.kept.long ∙ body.long ∙ long-two

              outside : Outside (cells_of code) (cells_of four) i s.to
              outside =
                  outside-on (outside-on (outside-on (outside-on (outside_wider i s.to changed (omega arith) (omega (arith, orders, last))) (outside_wider i s.to done.outside (omega (arith, orders)) (omega (arith, last))))
                  (outside_wider i s.to at-do (omega (arith, orders)) (omega (arith, orders, last)))) (outside_wider i s.to at-for (omega arith) (omega (arith, orders, last))))
                  (outside_wider i s.to at-end (omega (arith, orders)) (omega (arith, last)))

              finished : (outer : Scope) → StatementAnswer g.stands four values''' (Ok (e + 1, with_used n.used outer))
              unfolding statement_faults fors_in RawStatement ground_of
              finished outer =
                  subst (ForStatement four values''' (Ok (e + 1, with_used n.used outer))) (sym w.is)
                  (done-answer _ _ _ _ _ _ _ _ _ _ _
                  (record {
                    none = nothing-in-both f.none (subst (λ (v : ℕ). body-faults v ≡ []) next-is done.none);
                    next-is = omega (arith, done.next-is, w.after);
                    used-is = omega (arith, done.used-is);
                    few = done.few;
                    written = raw;
                    outside = outside;
                    same = back;
                  })
                  for-long)

-- ---- the scope of the body
module _ {outer inner : Scope} {code values code' values' : List ℕ} {i : ℕ} (e : Enters outer code values i code' values' inner) where
  pub entered-used : inner.used ≡ outer.used + 1
  entered-used = ap (λ (s : Scope). s.used) e.scope-is

  pub entered-word : EachHasWord outer → EachHasWord inner
  entered-word h = loop-has-word outer i inner e.scope-is h

  module _ {back : Scope} (g : Grown inner back) where
    -- what comes back of it has opened the name behind FOR, and restores it
    pub entered-opened : back.first ≡ i
    entered-opened = loop-opened outer i inner e.scope-is back g

    module _ {three values'' values''' : List ℕ} {left : Scope} (l : Leaves back outer three values'' values''' left) where
      pub entered-left : Left three values'' (i + 1) values'''
      entered-left = subst (λ (k : ℕ). Left three values'' (k + 1) values''') entered-opened l.known

      pub left-used : left.used ≡ back.used
      left-used = ap (λ (s : Scope). s.used) l.scope-is

      pub entered-grown : Grown outer left
      entered-grown = loop-left outer i inner e.scope-is back left g l.scope-is

-- the list is answered in the scope that was entered
pub for-listed : {text code values after values' : List ℕ} {k : Setting} {n at : ℕ} {r : Walked} {u : ℕ} → u ≡ n → Listed text code values after values' k u at r
    → Listed text code values after values' k n at r
for-listed {text} {code} {values} {after} {values'} {k} {n} {at} {r} e l = subst (λ (v : ℕ). Listed text code values after values' k v at r) e l

-- ---- for whatever the statement is
module _ (text code values : List ℕ) (k : Setting) (used i : ℕ) (one : List ℕ) (j : Stepped) (h : ForHeaded code values one used i j) where
  pub for-wrong : (broken : Breach) → j ≡ Err broken → Begun FOR text code values one values k used i (Err broken)
  for-wrong broken q = record { is = λ g. wrong text code values k used i g one j h broken q }

  module _ (d : ℕ) (q : j ≡ Ok d) (m : ℕ) (em : m ≡ cell_with a_loop 0 1 used) (two values' : List ℕ) (dec : Declared one values (i + 1) m two values')
      (u : ℕ) (ei : u ≡ used + 1) (three values'' : List ℕ) (r : Walked) (listed : Listed text two values' three values'' k u (d + 1) r) where
    l : Listed text two values' three values'' k (used + 1) (d + 1) r
    l = for-listed ei listed

    pub for-list-wrong : (broken : Breach) → r ≡ Err broken → Begun FOR text code values three values'' k used i (Err broken)
    for-list-wrong broken e = record { is = λ g. list-wrong text code values k used i g one j h d q m em two values' dec three values'' r l broken e }

    pub for-finished : (e : ℕ) (n : Scope) → r ≡ Ok (e, n) → (four values''' : List ℕ) → Left three values'' (i + 1) values''' → (back : Scope) → back.used ≡ n.used → ForEnded three four used i d e
        → Begun FOR text code values four values''' k used i (Ok (e + 1, back))
    for-finished e n q2 four values''' left back eo x =
        as-scope (Begun FOR text code values four values''' k used i) (e + 1) back eo
        (record { is = λ g. finished text code values k used i g one j h d q m em two values' dec three values'' r l e n q2 four values''' left x back })
