-- What a run reads at the first words of statements that were walked and resolved, and at an ENDFOR.
use mathlib.Core.Path.{◌≡◌, refl, sym, ap, ap₂, subst, ◌∙◌}
use mathlib.Core.Bool.{true, false}
use mathlib.Core.List.{List, [], ◌∷◌}
use mathlib.Core.Option.{Option, none, some}
use Prim.Native.Nat.{ℕ, suc, ◌+◌, ◌*◌, ◌/◌, ◌%◌, ◌<◌, ◌≤◌}
use native.Mathlib.Omega.{arith}
use lib.Dec.{ltb}
use borrow.Author.Tests.{eq-eqb, ne_eqb, lt-ltb}
use Rattle.paper.specs.Terms.{Term, of_routine}
use Rattle.paper.specs.Trees.{Expr, Simple, first_simple, Statements, Arms, Cases, compact_if, full_if, for, while, test}
use Rattle.paper.specs.Names.{Scopes, spelled, enter}
use Rattle.paper.specs.Types.{term_of}
use Rattle.paper.specs.Checks.{fors_in_arms, fors_in_cases}
use Rattle.paper.specs.Steps.{Action, choose, select, test_while, enter_for, repeat_for, Step, step, begin, optional_term, action_of, simple_step, conditions, constants}
use Rattle.code.specs.Cells.{op_at, value_at, place_at, link_at}
use Rattle.code.specs.Spans.{guard, ◌then◌, term_in}
use Rattle.code.specs.Steps.{a_compact_if, an_if, a_while, a_for, a_for_test, a_test, an_else_if, a_step, a_case, a_then, a_do, a_pass, an_otherwise, parts, conditions_in, cases_in, for_step, for_in, linked, compact_if_in, if_in, while_in, for_test_in, test_in, action_in, step_in, a_next_value}
use Rattle.code.specs.Closed.{Every, done, also}
use Rattle.code.specs.Holds.{known, CalleeIn}
use Rattle.code.proofs.Options.{goes, guards}
use Rattle.check_links.specs.Resolved.{goes_by_link, goes_by_value, goes_by_place, Led}
use Rattle.check_links.specs.Raw.{Ground, RawWord, RawDo, RawStep, RawSimple, RawFirst, RawDefault, RawStatement, RawList}
use Rattle.check_links.proofs.Ops.{beyond-close}
use Rattle.check_links.proofs.Moving.{does_move, bound-moves}
use Rattle.check_links.proofs.SimpleSteps.{reads-step, reads-with, does-read, does_call, does_op, acts-compact-if, acts-if, acts-while, acts-for, acts-for-test, acts-test}
use Rattle.check_links.proofs.Orders.{term-order, bound-order, step-order, ends-order, last-order, list-order, arms-order, cases_order, list-begins}
use Rattle.check_links.proofs.ResolvedWords.{Goes, op_same, value_same, place_same, value-goes, place-goes, link-goes, word-goes, pass-goes, step-goes, moves, ends-go, list-goes, last_goes}
use Rattle.check_links.proofs.IfAndTest.{term-reads, conditions-read, cases-read}
use Rattle.layout.specs.Parts.{loop_part}

step-place : (op : ℕ) → op < an_else_if → goes_by_place op ≡ false
unfolding goes_by_place
step-place op h = rw (ne_eqb op a_case (λ e. omega arith), goes_by_place) (rw (ne_eqb op a_next_value (λ e. omega arith)) (ne_eqb op an_otherwise (λ e. omega arith)))

module _ (g : Ground) (n : ℕ) (C D : List ℕ) (words : ℕ) (led : (i : ℕ) → i < words → Led C D D words i) (few : words ≤ parts) where
  abbrev pub acts : ℕ → Option (ℕ × Action)
  acts i = action_in g.m n g.function g.text g.R D i

  abbrev pub To : ℕ → ℕ → Type 0
  To z after = Goes C D words z after

  -- a step is read back
  pub record Stands (s : Step) : Type 0 where
    pub is : step_in g.m n g.function g.text g.R D s.name ≡ some (known g.offset s)
    pub callee : CalleeIn g.R g.offset D s.does

  pub stands : (i place : ℕ) (around : List ℕ) (after : ℕ) (a : Action) → place_at D i ≡ g.offset place → acts i ≡ some (after, a) → CalleeIn g.R g.offset D a
      → Stands (record { name = i; place = place; after = after; around = around; does = a })
  unfolding known
  stands i place around after a p e c = record { is = reads-step g.m n g.function g.text g.R D i after (g.offset place) a p e; callee = c }

  -- a step that is a statement's first word
  pub begun : (i at : ℕ) (around : List ℕ) (after to : ℕ) (a : Action) → i ≡ at → at < words → op_at C at < an_else_if → place_at C at ≡ g.offset at → acts at ≡ some (after, a)
      → CalleeIn g.R g.offset D a → Every Stands (step i around after a)
  unfolding step
  begun i at around after to a q h o p e c =
      subst (λ (k : ℕ). Every Stands (record { name = k; place = k; after = after; around = around; does = a } ∷ [])) (sym q)
      (also (stands at at around after a (place_same C D words led (op_at C at) at h refl (step-place (op_at C at) o) ∙ p) e c) done)

  -- ---- simple statements
  pub simple-stands : (s : Simple) (S : Scopes) (at to : ℕ) (around : List ℕ) (after : ℕ) → RawSimple g n C S s at to → To to after → Every Stands (simple_step g.W S s around after)
  unfolding simple_step
  simple-stands s S at to around after x y =
      let d = does_move g n n (omega arith) C D at to to after (moves C D words led at to to after (omega arith) y) S at to (omega arith) x.forward (omega arith) s x.first x.does in
      begun (first_simple s) at around after to (action_of g.W S s) x.first (omega (arith, x.forward, y.inside)) (omega (arith, does_op g n C S at to to s x.does)) x.place
      (does-read g n D S at to after s x.first d) (does_call g n D S at to after s d)

  -- ---- the first words of others
  first-leads : (op i at to after : ℕ) → goes_by_link op ≡ true → (op ≡ a_then → ⊥) → RawFirst g n C op i at to → at < to → To to after → link_at D at ≡ after
  first-leads op i at to after f d x h y = word-goes C D words led op at to after f d x.word h y

  pub compact-reads : (S : Scopes) (i : ℕ) (e : Expr) (s : Simple) (used at to after : ℕ) → RawStatement g n C (compact_if i e s) S used at to → To to after
      → acts at ≡ some (after, choose ((term_of g.W S e, first_simple s) ∷ []) after)
  unfolding RawStatement compact_if_in goes_by_link goes_by_value
  compact-reads S i e s used at to after x y =
      let o = term-order g n C S e (at + 1) (value_at C at) x.term in
      let h : at < words = omega (arith, x.does.forward, y.inside) in
      let v : value_at D at ≡ value_at C at = value_same C D words led a_compact_if at h x.head.word.is refl in
      let l : link_at D at ≡ after = first-leads a_compact_if i at to after refl (λ q. omega arith) x.head (omega (arith, x.does.forward)) y in
      acts-compact-if g.m n g.function g.text g.R D at (op_same C D words led at h ∙ x.head.word.is)
      ∙ reads-with g.m n g.function g.text g.R D at after l (term_of g.W S e) (λ e. choose ((e, value_at D at) ∷ []) (link_at D at))
      (ap (term_in g.m n D (at + 1)) v ∙ term-reads g n C D words led S e (at + 1) (value_at C at) to after (omega (arith, x.does.forward)) y x.term)
      ∙ ap₂ (λ (k o : ℕ). some (after, choose ((term_of g.W S e, k) ∷ []) o)) (v ∙ sym x.does.first) l

  -- what leads back to a step
  pub back : (z at : ℕ) → z + 1 < words → at < words → RawWord C a_pass z at → at < z → op_at C at < an_else_if → To z at
  unfolding goes_by_link
  back z at h k w l o = record {
    inside = h;
    is = beyond-close C D z (omega (arith, w.is)) (λ q. omega (arith, w.is))
        ∙ link-goes C D words led a_pass z (omega arith) w.is at at refl (λ p q. omega arith) w.leaves (λ q. o) (step-goes C D words led at (omega arith) o);
    step = o;
    room = k;
  }

  do-goes : (d z after : ℕ) → d < words → RawDo C d → To (d + 1) after → value_at D d ≡ after
  unfolding goes_by_value
  do-goes d z after h x y = value-goes C D words led a_do d h x.op (d + 1) after refl x.value (omega arith) y

  -- ---- WHILE
  pub while-reads : (S : Scopes) (i : ℕ) (e : Expr) (body : Statements) (used at to after : ℕ) → RawStatement g n C (while i e body) S used at to → To to after
      → acts at ≡ some (after, test_while (term_of g.W S e) (begin body i))
  unfolding RawStatement while_in goes_by_link goes_by_value
  while-reads S i e body used at to after x y =
      let d = value_at C at in
      let o = term-order g n C S e (at + 1) d x.term in
      let q = list-order g n C body S used (d + 1) x.z x.list in
      let h : at < words = omega (arith, x.end, y.inside) in
      let v : value_at D at ≡ d = value_same C D words led a_while at h x.head.word.is refl in
      let l : link_at D at ≡ after = first-leads a_while i at to after refl (λ q. omega arith) x.head (omega (arith, x.end)) y in
      let b = back x.z at (omega (arith, x.end, y.inside)) h x.again (omega arith) (omega (arith, x.head.word.is)) in
      let f : value_at D d ≡ begin body at = do-goes d x.z (begin body at) (omega (arith, x.end, y.inside)) x.do-is (list-goes C D words led g n body S used (d + 1) x.z at x.list b) in
      acts-while g.m n g.function g.text g.R D at (op_same C D words led at h ∙ x.head.word.is)
      ∙ reads-with g.m n g.function g.text g.R D at after l (term_of g.W S e) (λ e. test_while e (value_at D (value_at D at)))
      (ap (term_in g.m n D (at + 1)) v ∙ term-reads g n C D words led S e (at + 1) d to after (omega (arith, x.end)) y x.term)
      ∙ ap (λ (k : ℕ). some (after, test_while (term_of g.W S e) k)) (ap (value_at D) v ∙ f ∙ ap (begin body) (sym x.head.first))

  -- ---- FOR
  reads-for : (i b s d k first : ℕ) (from till : Term) (st : Option Term) → link_at D (i + 2) ≡ b → term_in g.m n D (i + 3) b ≡ some from → link_at D b ≡ s → term_in g.m n D (b + 1) s ≡ some till
      → for_step g.m n g.function g.text g.R D s ≡ some (st, d) → value_at D i ≡ k → k < n → value_at D d ≡ first
      → for_in g.m n g.function g.text g.R D i ≡ some (enter_for k from till st first)
  unfolding for_in
  reads-for i b s d k first from till st lb ef ls et es vk room vf =
      goes (term_in g.m n D (i + 3) (link_at D (i + 2)))
      (λ from. term_in g.m n D (link_at D (i + 2) + 1) (link_at D (link_at D (i + 2))) then (λ to. for_step g.m n g.function g.text g.R D (link_at D (link_at D (i + 2))) then (λ s.
      guard (ltb (value_at D i) n) (enter_for (value_at D i) from to s.0 (value_at D s.1))))) from (ap (term_in g.m n D (i + 3)) lb ∙ ef)
      ∙ goes (term_in g.m n D (link_at D (i + 2) + 1) (link_at D (link_at D (i + 2))))
      (λ to. for_step g.m n g.function g.text g.R D (link_at D (link_at D (i + 2))) then (λ s. guard (ltb (value_at D i) n) (enter_for (value_at D i) from to s.0 (value_at D s.1)))) till
      (ap₂ (λ (x y : ℕ). term_in g.m n D (x + 1) y) lb (ap (link_at D) lb ∙ ls) ∙ et)
      ∙ goes (for_step g.m n g.function g.text g.R D (link_at D (link_at D (i + 2)))) (λ s. guard (ltb (value_at D i) n) (enter_for (value_at D i) from till s.0 (value_at D s.1))) (st, d)
      (ap (for_step g.m n g.function g.text g.R D) (ap (link_at D) lb ∙ ls) ∙ es)
      ∙ guards (ltb (value_at D i) n) (enter_for (value_at D i) from till st (value_at D d)) (enter_for k from till st first) (lt-ltb (value_at D i) n (omega arith))
      (ap₂ (λ (x y : ℕ). enter_for x from till st y) vk vf)

  step-reads : (S : Scopes) (c : Option Expr) (s d to after : ℕ) → RawStep g n C S c s d → RawDo C d → d ≤ to → d < words → To to after
      → for_step g.m n g.function g.text g.R D s ≡ some (optional_term g.W S c, d)
  unfolding RawStep for_step optional_term
  step-reads S none s d to after x o h k y =
      let q : op_at D s ≡ a_do = ap (op_at D) x ∙ op_same C D words led d k ∙ o.op in
      rw (ne_eqb (op_at D s) a_step (λ z. omega arith), for_step) (ap (λ (j : ℕ). some (none, j)) x)
  step-reads S (some e) s d to after x o h k y =
      let w = bound-order g n C S e s d x.1 in
      let b = bound-moves g n n (omega arith) C D s d to after (moves C D words led s d to after h y) S e s d (omega arith) (omega arith) x.1 in
      rw (eq-eqb (op_at D s) a_step (op_same C D words led s (omega arith) ∙ x.0), for_step)
      (goes (term_in g.m n D (s + 1) (link_at D s)) (λ c. some (some c, link_at D s)) (term_of g.W S e) (ap (term_in g.m n D (s + 1)) b.link ∙ b.term.is)
      ∙ ap (λ (j : ℕ). some (some (term_of g.W S e), j)) b.link)

  -- the parts of a FOR's head, and both its tests
  module _ (S : Scopes) (used i v : ℕ) (a b : Expr) (c : Option Expr) (body : Statements) (end at to after : ℕ) (y : To to after) where
    abbrev pub Around : Scopes
    Around = enter (spelled g.W v) (of_routine used) S

    pub record Parts : Type 0 where
      pub d : ℕ
      pub behind : at < d
      pub before : d < end
      pub inside : end + 1 < words
      pub list : RawList g n C body Around (suc used) (d + 1) end
      pub op : op_at C at ≡ a_for
      pub test : RawWord C a_for_test end (d + 1)
      pub leads : link_at D at ≡ after
      pub enters : To (d + 1) (begin body end)

    pub for-parts : RawStatement g n C (for i v a b c body end) S used at to → Parts
    unfolding RawStatement goes_by_link
    for-parts x =
        let p = bound-order g n C S a (at + 2) x.t x.lower in
        let q = bound-order g n C S b x.t x.s x.upper in
        let r = step-order g n C S c x.s x.d x.steps in
        let s = list-order g n C body Around (suc used) (x.d + 1) end x.list in
        let e = x.ends in
        let h : end + 1 < words = omega (arith, y.inside) in
        record {
          d = x.d;
          behind = omega arith;
          before = omega arith;
          inside = h;
          list = x.list;
          op = x.head.word.is;
          test = x.test;
          leads = first-leads a_for i at to after refl (λ q. omega arith) x.head (omega arith) y;
          enters = list-goes C D words led g n body Around (suc used) (x.d + 1) end end x.list (step-goes C D words led end h (omega (arith, x.test.is)));
        }

    pub for-reads : (x : RawStatement g n C (for i v a b c body end) S used at to)
        → acts at ≡ some (after, enter_for used (term_of g.W S a) (term_of g.W S b) (optional_term g.W S c) (begin body end))
    unfolding RawStatement goes_by_value linked
    for-reads x =
        let w = for-parts x in
        let p = bound-order g n C S a (at + 2) x.t x.lower in
        let q = bound-order g n C S b x.t x.s x.upper in
        let r = step-order g n C S c x.s x.d x.steps in
        let s = list-order g n C body Around (suc used) (x.d + 1) end x.list in
        let e = x.ends in
        let h : at < words = omega (arith, y.inside) in
        let mv = moves C D words led at to to after (omega arith) y in
        let lo = bound-moves g n n (omega arith) C D at to to after mv S a (at + 2) x.t (omega arith) (omega arith) x.lower in
        let up = bound-moves g n n (omega arith) C D at to to after mv S b x.t x.s (omega arith) (omega arith) x.upper in
        let three : at + 3 ≡ at + 2 + 1 = omega arith in
        acts-for g.m n g.function g.text g.R D at (op_same C D words led at h ∙ x.head.word.is)
        ∙ goes (for_in g.m n g.function g.text g.R D at) (λ a. some (link_at D at, a)) (enter_for used (term_of g.W S a) (term_of g.W S b) (optional_term g.W S c) (begin body end))
        (reads-for at x.t x.s x.d used (begin body end) (term_of g.W S a) (term_of g.W S b) (optional_term g.W S c)
        lo.link (ap (λ (k : ℕ). term_in g.m n D k x.t) three ∙ lo.term.is) up.link up.term.is
        (step-reads S c x.s x.d to after x.steps x.do-is (omega arith) (omega (arith, y.inside)) y)
        (value_same C D words led a_for at h x.head.word.is refl ∙ x.value) x.room
        (do-goes x.d end (begin body end) (omega (arith, y.inside)) x.do-is (list-goes C D words led g n body Around (suc used) (x.d + 1) end end x.list (step-goes C D words led end w.inside (omega (arith, x.test.is))))))
        ∙ ap (λ (k : ℕ). some (k, enter_for used (term_of g.W S a) (term_of g.W S b) (optional_term g.W S c) (begin body end))) w.leads

    pub for-test-reads : (x : RawStatement g n C (for i v a b c body end) S used at to) → acts end ≡ some (after, repeat_for used (begin body end))
    unfolding RawStatement for_test_in goes_by_link goes_by_value
    for-test-reads x =
        let w = for-parts x in
        let h : end < words = omega (arith, w.inside) in
        let o = x.test.is in
        let m = x.small in
        let vv : value_at D end ≡ used + loop_part * at = value_same C D words led a_for_test end h o refl ∙ x.test-value in
        let vr : value_at D end % loop_part ≡ used = ap (λ (k : ℕ). k % loop_part) vv ∙ low_part used at m in
        let vq : value_at D end / loop_part ≡ at = ap (λ (k : ℕ). k / loop_part) vv ∙ high_part used at m in
        let first : w.d + 1 ≤ end → op_at C (w.d + 1) < an_else_if =
        λ q. list-begins g n C body Around (suc used) (w.d + 1) end w.list (λ z. z) (λ z. let k = ap (op_at C) z in omega arith) in
        let l : link_at D end ≡ begin body end = link-goes C D words led a_for_test end h o (w.d + 1) (begin body end) refl (λ p q. omega arith) w.test.leaves first w.enters in
        acts-for-test g.m n g.function g.text g.R D end (op_same C D words led end h ∙ o)
        ∙ guards (ltb (value_at D end % loop_part) n) (link_at D (value_at D end / loop_part), repeat_for (value_at D end % loop_part) (link_at D end)) (after, repeat_for used (begin body end))
        (lt-ltb (value_at D end % loop_part) n (omega (arith, x.room)))
        (ap₂ (λ (p q : ℕ). (p, repeat_for q (link_at D end))) (ap (link_at D) vq ∙ w.leads) vr ∙ ap (λ (q : ℕ). (after, repeat_for used q)) l)
      where
        low_part : (u p : ℕ) → u < loop_part → (u + loop_part * p) % loop_part ≡ u
        low_part u p h = omega arith

        high_part : (u p : ℕ) → u < loop_part → (u + loop_part * p) / loop_part ≡ p
        high_part u p h = omega arith

  -- ---- IF
  pub if-reads : (S : Scopes) (i : ℕ) (a : Arms) (o : Statements) (used at to after : ℕ) → RawStatement g n C (full_if i a o) S used at to → To to after
      → acts at ≡ some (after, choose (conditions g.W S a after) (begin o after))
  unfolding RawStatement if_in linked goes_by_link goes_by_value
  if-reads S i a o used at to after x y =
      let z = x.otherwise-is in
      let q = list-order g n C o S (used + fors_in_arms a) x.first z.z z.list in
      let p = last-order g n C x.last x.first z.z z.begins in
      let r = arms-order g n C a S used x.first none at x.last x.arms-are in
      let e = z.end in
      let h : at < words = omega (arith, y.inside) in
      let zg = pass-goes C D words led a_pass z.z to after refl (omega arith) (λ k. omega arith) (λ k. omega arith) z.word (omega arith) y in
      let lg = last_goes C D words led g n x.last x.first z.z to after z.begins q z.word e y in
      let fg = list-goes C D words led g n o S (used + fors_in_arms a) x.first z.z after z.list zg in
      let no : op_at C x.first ≡ an_else_if → ⊥ =
      λ k. list-begins g n C o S (used + fors_in_arms a) x.first z.z z.list (λ j. omega arith) (λ j. let m = ap (op_at C) j in omega (arith, z.word.is)) in
      acts-if g.m n g.function g.text g.R D at (op_same C D words led at h ∙ x.head.word.is)
      ∙ goes (conditions_in g.m n g.function g.text g.R D parts at (value_at D at)) (λ r. some (link_at D at, choose r.0 r.1)) (conditions g.W S a after, begin o after)
      (ap (conditions_in g.m n g.function g.text g.R D parts at) (value_same C D words led an_if at h x.head.word.is refl)
      ∙ conditions-read g n C D words led x.first x.last after (begin o after) lg fg p no a S used at x.arms-are few)
      ∙ ap (λ (k : ℕ). some (k, choose (conditions g.W S a after) (begin o after))) (first-leads an_if i at to after refl (λ k. omega arith) x.head (omega arith) y)

  -- ---- TEST
  pub default-goes : (S : Scopes) (d : Statements) (used last to after : ℕ) → RawDefault g n C (λ x y. RawList g n C d S used x y) last to → To to after → To last after
  unfolding goes_by_link
  default-goes S d used last to after x y =
      let q = list-order g n C d S used x.first x.z x.list in
      pass-goes C D words led an_otherwise last x.z after refl (omega arith) (λ k. omega arith) (λ k. omega arith) x.word (omega (arith, x.before)) (ends-go C D words led x.z to after x.ends y)

  default-place : (S : Scopes) (d : Statements) (used last to after : ℕ) → RawDefault g n C (λ x y. RawList g n C d S used x y) last to → To to after → place_at D last ≡ begin d after
  unfolding goes_by_place
  default-place S d used last to after x y =
      let q = list-order g n C d S used x.first x.z x.list in
      let r = ends-order g n C x.z to x.ends in
      place-goes C D words led an_otherwise last (omega (arith, x.before, y.inside)) x.word.is x.first (begin d after) refl x.place x.before
      (list-goes C D words led g n d S used x.first x.z after x.list (ends-go C D words led x.z to after x.ends y))

  pub test-reads : (S : Scopes) (i : ℕ) (e : Expr) (c : Cases) (d : Statements) (used at to after : ℕ) → RawStatement g n C (test i e c d) S used at to → To to after
      → acts at ≡ some (after, select (term_of g.W S e) (constants g.W S g.M c after) (begin d after))
  unfolding RawStatement test_in linked goes_by_link goes_by_value
  test-reads S i e c d used at to after x y =
      let z = x.default-is in
      let o = term-order g n C S e (at + 1) (value_at C at) x.term in
      let p = cases_order g n C c S used (value_at C at) x.last x.cases-are in
      let q = list-order g n C d S (used + fors_in_cases c) z.first z.z z.list in
      let r = ends-order g n C z.z to z.ends in
      let b = z.before in
      let h : at < words = omega (arith, y.inside) in
      let v : value_at D at ≡ value_at C at = value_same C D words led a_test at h x.head.word.is refl in
      acts-test g.m n g.function g.text g.R D at (op_same C D words led at h ∙ x.head.word.is)
      ∙ goes (term_in g.m n D (at + 1) (value_at D at))
      (λ e. cases_in g.m n g.function g.text g.R D parts (value_at D at) then (λ r. some (link_at D at, select e r.0 r.1))) (term_of g.W S e)
      (ap (term_in g.m n D (at + 1)) v ∙ term-reads g n C D words led S e (at + 1) (value_at C at) to after (omega arith) y x.term)
      ∙ goes (cases_in g.m n g.function g.text g.R D parts (value_at D at)) (λ r. some (link_at D at, select (term_of g.W S e) r.0 r.1)) (constants g.W S g.M c after, begin d after)
      (ap (cases_in g.m n g.function g.text g.R D parts) v
      ∙ cases-read g n C D words led x.last after (begin d after) (default-goes S d (used + fors_in_cases c) x.last to after z y) z.word.is
      (default-place S d (used + fors_in_cases c) x.last to after z y) few c S used (value_at C at) parts x.cases-are (omega (arith, y.inside)))
      ∙ ap (λ (k : ℕ). some (k, select (term_of g.W S e) (constants g.W S g.M c after) (begin d after))) (first-leads a_test i at to after refl (λ k. omega arith) x.head (omega arith) y)

  pub pass-by-link : goes_by_link a_pass ≡ true
  unfolding goes_by_link
  pass-by-link = refl

  -- an ENDFOR has its FOR's offset
  pub test-place : (end at i : ℕ) → end < words → op_at C end ≡ a_for_test → place_at C end ≡ g.offset at → i ≡ at → place_at D end ≡ g.offset i
  test-place end at i h o p q = place_same C D words led a_for_test end h o (step-place a_for_test (omega arith)) ∙ p ∙ ap g.offset (sym q)
