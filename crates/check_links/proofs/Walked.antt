-- Every step of a list that was walked and resolved is read back.
use mathlib.Core.Path.{◌≡◌, refl, sym, subst, ◌∙◌}
use mathlib.Core.Bool.{Bool, true, false}
use mathlib.Core.List.{List, [], ◌∷◌, ◌++◌}
use mathlib.Core.Option.{Option, none, some}
use Prim.Native.Nat.{ℕ, suc, ◌+◌, ◌<◌, ◌≤◌}
use native.Mathlib.Omega.{arith}
use Rattle.paper.specs.Terms.{of_routine}
use Rattle.paper.specs.Trees.{Statement, Statements, Arms, Cases, simple, compact_if, full_if, for, while, test, empty, ◌then◌, no_arm, arm, no_case, case, RoutineList}
use Rattle.paper.specs.Names.{Scopes, spelled, enter}
use Rattle.paper.specs.Checks.{WhichList, the_body, the_handler, the_undo, fors_in, fors_in_list, fors_in_arms, fors_in_cases}
use Rattle.paper.specs.Steps.{Step, begin, list_steps, steps_of, steps_of_list, steps_of_arms, steps_of_cases}
use Rattle.store_cells.specs.Cells.{cells_of}
use Rattle.code.specs.Cells.{head_at, tail_at, op_at, value_at}
use Rattle.code.specs.Steps.{a_pass, an_else_if, parts, step_in}
use Rattle.code.specs.Closed.{Every, done, also}
use Rattle.code.specs.Holds.{known, CalleeIn}
use Rattle.check_links.specs.Resolved.{is_led, Led, Resolved}
use Rattle.check_links.specs.Raw.{Ground, RawStatement, RawList, RawArms, RawCases, end_of, ending_of, RawRoutineList}
use Rattle.check_links.proofs.Moving.{still-link, still-value, still-place}
use Rattle.check_links.proofs.SimpleSteps.{acts-end}
use Rattle.check_links.proofs.Orders.{term-order, statement-order, list-order, begins}
use Rattle.check_links.proofs.ResolvedWords.{Goes, op_same, pass-goes, step-goes, ends-go, list-goes, last_goes, arms-go, cases-go}
use Rattle.check_links.proofs.StatementSteps as standing

-- ---- lists of steps
pub every-both : {A : Step → Type 0} (l r : List Step) → Every A l → Every A r → Every A (l ++ r)
every-both [] r x y = y
every-both (s ∷ l) r (also a x) y = also a (every-both l r x y)

pub every-as : {A B : Step → Type 0} → ((s : Step) → A s → B s) → (l : List Step) → Every A l → Every B l
every-as f [] x = done
every-as f (s ∷ l) (also a x) = also (f s a) (every-as f l x)

-- C as the walk left it, D resolved.
module _ (g : Ground) (n : ℕ) (C D : List ℕ) (words : ℕ) (led : (i : ℕ) → i < words → Led C D D words i) (few : words ≤ parts) where
  abbrev To : ℕ → ℕ → Type 0
  To z after = Goes C D words z after

  abbrev Stands : Step → Type 0
  Stands = standing.Stands g n C D words led few

  mutual
    unfolding RawStatement RawList RawArms RawCases steps_of steps_of_list steps_of_arms steps_of_cases CalleeIn

    pub statement-stands : (s : Statement) (S : Scopes) (used : ℕ) (around : List ℕ) (after at to : ℕ) → RawStatement g n C s S used at to → To to after
        → Every Stands (steps_of g.W g.M s S used around after)
    statement-stands (simple s) S used around after at to x y = standing.simple-stands g n C D words led few s S at to around after x y
    statement-stands (compact_if i e s) S used around after at to x y =
        every-both _ _
        (standing.begun g n C D words led few i at around after to _ x.head.first (omega (arith, statement-order g n C (compact_if i e s) S used at to x, y.inside)) (omega (arith, x.head.word.is)) x.head.place (standing.compact-reads g n C D words led few S i e s used at to after x y) tt)
        (standing.simple-stands g n C D words led few s S (value_at C at) to around after x.does y)
    statement-stands (full_if i a o) S used around after at to x y =
        let z = x.otherwise-is in
        let q = list-order g n C o S (used + fors_in_arms a) x.first z.z z.list in
        every-both _ _
        (every-both _ _
        (standing.begun g n C D words led few i at around after to _ x.head.first (omega (arith, statement-order g n C (full_if i a o) S used at to x, y.inside)) (omega (arith, x.head.word.is)) x.head.place (standing.if-reads g n C D words led few S i a o used at to after x y) tt)
        (arms-stand a S used x.first none around after at x.last x.arms-are (last_goes C D words led g n x.last x.first z.z to after z.begins q z.word z.end y)))
        (list-stands o S (used + fors_in_arms a) around after x.first z.z z.list (pass-goes C D words led a_pass z.z to after (standing.pass-by-link g n C D words led few) (omega arith) (λ k. omega arith) (λ k. omega arith) z.word (omega (arith, z.end)) y))
    statement-stands (for i v a b c body end) S used around after at to x y =
        let w = standing.for-parts g n C D words led few S used i v a b c body end at to after y x in
        every-both _ _
        (every-both _ _
        (standing.begun g n C D words led few i at around after to _ x.head.first (omega (arith, w.behind, w.before, w.inside)) (omega (arith, x.head.word.is)) x.head.place (standing.for-reads g n C D words led few S used i v a b c body end at to after y x) tt)
        (list-stands body (enter (spelled g.W v) (of_routine used) S) (suc used) (used ∷ around) end (x.d + 1) end x.list (step-goes C D words led end w.inside (omega (arith, x.test.is)))))
        (also (standing.stands g n C D words led few end i (used ∷ around) after _ (standing.test-place g n C D words led few end at i (omega (arith, w.inside)) x.test.is x.test-place x.head.first)
        (standing.for-test-reads g n C D words led few S used i v a b c body end at to after y x) tt) done)
    statement-stands (while i e body) S used around after at to x y =
        let q = list-order g n C body S used (value_at C at + 1) x.z x.list in
        let p = term-order g n C S e (at + 1) (value_at C at) x.term in
        let h : at < words = omega (arith, x.end, y.inside) in
        every-both _ _
        (standing.begun g n C D words led few i at around after to _ x.head.first h (omega (arith, x.head.word.is)) x.head.place (standing.while-reads g n C D words led few S i e body used at to after x y) tt)
        (list-stands body S used around i (value_at C at + 1) x.z x.list
        (subst (To x.z) (sym x.head.first) (standing.back g n C D words led few x.z at (omega (arith, x.end, y.inside)) h x.again (omega arith) (omega (arith, x.head.word.is)))))
    statement-stands (test i e c d) S used around after at to x y =
        every-both _ _
        (every-both _ _
        (standing.begun g n C D words led few i at around after to _ x.head.first (omega (arith, statement-order g n C (test i e c d) S used at to x, y.inside)) (omega (arith, x.head.word.is)) x.head.place (standing.test-reads g n C D words led few S i e c d used at to after x y) tt)
        (cases-stand c S used around after (value_at C at) x.last x.cases-are (standing.default-goes g n C D words led few S d (used + fors_in_cases c) x.last to after x.default-is y)))
        (list-stands d S (used + fors_in_cases c) around after x.default-is.first x.default-is.z x.default-is.list (ends-go C D words led x.default-is.z to after x.default-is.ends y))

    pub list-stands : (l : Statements) (S : Scopes) (used : ℕ) (around : List ℕ) (after at to : ℕ) → RawList g n C l S used at to → To to after
        → Every Stands (steps_of_list g.W g.M l S used around after)
    list-stands empty S used around after at to x y = done
    list-stands (s then r) S used around after at to x y =
        every-both _ _
        (statement-stands s S used around (begin r after) at x.mid x.first (list-goes C D words led g n r S (used + fors_in s) x.mid to after x.others y))
        (list-stands r S (used + fors_in s) around after x.mid to x.others y)

    pub arms-stand : (a : Arms) (S : Scopes) (used first : ℕ) (before : Option ℕ) (around : List ℕ) (after c last : ℕ) → RawArms g n C a S used first before c last → To last after
        → Every Stands (steps_of_arms g.W g.M a S used around after)
    arms-stand no_arm S used first before around after c last x y = done
    arms-stand (arm e b r) S used first before around after c last x y =
        every-both _ _
        (list-stands b S used around after (x.t + 1) x.y x.list (arms-go C D words led g n r S (used + fors_in_list b) first x.t x.y last after x.rest y))
        (arms-stand r S (used + fors_in_list b) first (some x.t) around after x.y last x.rest y)

    pub cases-stand : (c : Cases) (S : Scopes) (used : ℕ) (around : List ℕ) (after at last : ℕ) → RawCases g n C c S used at last → To last after
        → Every Stands (steps_of_cases g.W g.M c S used around after)
    cases-stand no_case S used around after at last x y = done
    cases-stand (case es b r) S used around after at last x y =
        every-both _ _
        (list-stands b S used around after x.first x.next x.list (cases-go C D words led g n r S (used + fors_in_list b) x.next last after x.rest y))
        (cases-stand r S (used + fors_in_list b) around after x.next last x.rest y)

  -- ---- the lists of a routine
  end_step : (which : WhichList) (function : Bool) → end_of which function < an_else_if
  unfolding end_of
  end_step the_body true = omega arith
  end_step the_body false = omega arith
  end_step the_handler true = omega arith
  end_step the_handler false = omega arith
  end_step the_undo function = omega arith

  end-calls : (which : WhichList) → CalleeIn g.R g.offset D (ending_of which)
  unfolding ending_of CalleeIn
  end-calls the_body = tt
  end-calls the_handler = tt
  end-calls the_undo = tt

  pub routine-list-stands : (which : WhichList) (l : RoutineList) (S : Scopes) (used at : ℕ) → RawRoutineList g n C which l S used at → l.closes + 1 < words
      → Every Stands (list_steps g.W (ending_of which) g.M S used l)
  unfolding list_steps
  routine-list-stands which l S used at x h =
      let z = l.closes in
      let o : op_at C z < an_else_if = subst (λ (k : ℕ). k < an_else_if) (sym x.op) (end_step which g.function) in
      every-both _ _
      (list-stands l.statements S used [] z at z x.list (step-goes C D words led z h o))
      (standing.begun g n C D words led few z z [] z z (ending_of which) refl (omega arith) o x.place
      (acts-end g.m n g.function g.text g.R D z which (op_same C D words led z (omega arith) ∙ x.op)) (end-calls which))

-- ---- what others ask for
-- a routine's list begins with the word that it stands from
pub starts-at : (g : Ground) (n : ℕ) (C : List ℕ) (l : Statements) (S : Scopes) (used at to : ℕ) → RawList g n C l S used at to → begin l to ≡ at
unfolding RawList begin
starts-at g n C empty S used at to x = sym x
starts-at g n C (s then r) S used at to x = (begins g n C s S used at x.mid x.first).name

-- C are the words as the walk left them, D as they are resolved.
module _ (g : Ground) (n : ℕ) (before after : List ℕ) (words : ℕ) (few : words ≤ parts) (resolved : Resolved before after words) where
  abbrev D : List ℕ
  D = cells_of after

  abbrev Reads : Step → Type 0
  Reads s = step_in g.m n g.function g.text g.R D s.name ≡ some (known g.offset s)

  abbrev Calls : Step → Type 0
  Calls s = CalleeIn g.R g.offset D s.does

  module _ (which : WhichList) (l : RoutineList) (S : Scopes) (used at : ℕ) (x : RawRoutineList g n (cells_of before) which l S used at) (h : l.closes + 1 < words) where
    pub steps-read : Every Reads (list_steps g.W (ending_of which) g.M S used l)
    steps-read = every-as (λ s z. z.is) _ (routine-list-stands g n (cells_of before) D words resolved.led few which l S used at x h)

    pub callees-read : Every Calls (list_steps g.W (ending_of which) g.M S used l)
    callees-read = every-as (λ s z. z.callee) _ (routine-list-stands g n (cells_of before) D words resolved.led few which l S used at x h)

  -- a word that does not lead on is as it was
  module _ (i : ℕ) (h : i < words) (s : is_led (op_at (cells_of before) i) ≡ false) where
    pub head-stays : head_at D i ≡ head_at (cells_of before) i
    head-stays =
        let o = op_at (cells_of before) i in
        let l = resolved.led i h in
        let q = l.op in
        let v = l.value (still-value o s) in
        omega arith

    pub tail-stays : tail_at D i ≡ tail_at (cells_of before) i
    tail-stays =
        let o = op_at (cells_of before) i in
        let l = resolved.led i h in
        let q = l.place (still-place o s) in
        let v = l.link (still-link o s) in
        omega arith
