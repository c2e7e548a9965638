-- Where statements begin and end.
use mathlib.Core.Path.{◌≡◌}
use mathlib.Core.List.{List}
use mathlib.Core.Option.{Option, none, some}
use Prim.Native.Nat.{ℕ, suc, ◌+◌, ◌<◌, ◌≤◌}
use native.Mathlib.Omega.{arith}
use Rattle.paper.specs.Terms.{of_routine}
use Rattle.paper.specs.Trees.{Expr, Statement, Statements, Arms, Cases, simple, compact_if, full_if, for, while, test, empty, ◌then◌, no_arm, arm, no_case, case}
use Rattle.paper.specs.Names.{Scopes, spelled, enter}
use Rattle.paper.specs.Checks.{fors_in, fors_in_list, fors_in_arms, fors_in_cases}
use Rattle.paper.specs.Steps.{first_word}
use Rattle.code.specs.Cells.{op_at, value_at}
use Rattle.code.specs.Steps.{an_else_if}
use Rattle.code.proofs.Spanning.{span-grows}
use Rattle.check_links.specs.Raw.{Ground, RawTerm, RawBound, RawStep, LastOf, an-else, no-else, Ends, at_once, closed, NoMore, RawStatement, RawList, RawArms, RawCases}
use Rattle.check_links.proofs.SimpleSteps.{does_op}

module _ (g : Ground) (n : ℕ) (C : List ℕ) where
  -- ---- order
  pub term-order : (S : Scopes) (e : Expr) (a b : ℕ) → RawTerm g n C S e a b → a < b
  term-order S e a b t = span-grows g.m n C a b _ t.is

  pub bound-order : (S : Scopes) (e : Expr) (w z : ℕ) → RawBound g n C S e w z → w + 1 < z
  bound-order S e w z b = term-order S e (w + 1) z b.term

  pub step-order : (S : Scopes) (e : Option Expr) (s d : ℕ) → RawStep g n C S e s d → s ≤ d
  unfolding RawStep
  step-order S none s d x = omega arith
  step-order S (some e) s d x = omega (arith, bound-order S e s d x.1)

  pub ends-order : (z to : ℕ) → Ends C z to → z ≤ to
  ends-order z to (at_once e) = omega arith
  ends-order z to (closed w e) = omega arith

  pub last-order : (last first z : ℕ) → LastOf C last first z → last ≤ first
  last-order last first z (an-else w e) = omega arith
  last-order last first z (no-else d e) = omega arith

  pub no-more-order : (first c last : ℕ) (before : Option ℕ) → NoMore g n C first before c last → c ≤ last
  unfolding NoMore
  no-more-order first c last none x = absurd x
  no-more-order first c last (some t) x = omega (arith, x.is_last)

  mutual
    unfolding RawStatement RawList RawArms RawCases

    pub statement-order : (s : Statement) (S : Scopes) (used at to : ℕ) → RawStatement g n C s S used at to → at < to
    statement-order (simple s) S used at to x = x.forward
    statement-order (compact_if i e s) S used at to x = omega (arith, x.does.forward, term-order S e (at + 1) (value_at C at) x.term)
    statement-order (full_if i a o) S used at to x =
        omega (arith, arms-order a S used x.first none at x.last x.arms-are, last-order x.last x.first x.otherwise-is.z x.otherwise-is.begins, list-order o S (used + fors_in_arms a) x.first x.otherwise-is.z x.otherwise-is.list, x.otherwise-is.end)
    statement-order (for i v a b c body end) S used at to x =
        omega (
          arith,
          bound-order S a (at + 2) x.t x.lower,
          bound-order S b x.t x.s x.upper,
          step-order S c x.s x.d x.steps,
          list-order body (enter (spelled g.W v) (of_routine used) S) (suc used) (x.d + 1) end x.list,
          x.ends,
        )
    statement-order (while i e body) S used at to x =
        omega (arith, term-order S e (at + 1) (value_at C at) x.term, list-order body S used (value_at C at + 1) x.z x.list, x.end)
    statement-order (test i e c d) S used at to x =
        omega (
          arith,
          term-order S e (at + 1) (value_at C at) x.term,
          cases_order c S used (value_at C at) x.last x.cases-are,
          x.default-is.before,
          list-order d S (used + fors_in_cases c) x.default-is.first x.default-is.z x.default-is.list,
          ends-order x.default-is.z to x.default-is.ends,
        )

    pub list-order : (l : Statements) (S : Scopes) (used at to : ℕ) → RawList g n C l S used at to → at ≤ to
    list-order empty S used at to x = omega arith
    list-order (s then r) S used at to x = omega (arith, statement-order s S used at x.mid x.first, list-order r S (used + fors_in s) x.mid to x.others)

    pub arms-order : (a : Arms) (S : Scopes) (used first : ℕ) (before : Option ℕ) (c last : ℕ) → RawArms g n C a S used first before c last → c ≤ last
    arms-order no_arm S used first before c last x = no-more-order first c last before x
    arms-order (arm e b r) S used first before c last x =
        omega (arith, term-order S e (c + 1) x.t x.term, list-order b S used (x.t + 1) x.y x.list, arms-order r S (used + fors_in_list b) first (some x.t) x.y last x.rest)

    pub cases_order : (c : Cases) (S : Scopes) (used at last : ℕ) → RawCases g n C c S used at last → at ≤ last
    cases_order no_case S used at last x = omega arith
    cases_order (case es b r) S used at last x =
        omega (arith, x.before, list-order b S used x.first x.next x.list, cases_order r S (used + fors_in_list b) x.next last x.rest)

  -- ---- what a statement begins with
  pub record Begins (s : Statement) (at : ℕ) : Type 0 where
    pub name : first_word s ≡ at
    pub op : op_at C at < an_else_if

  pub begins : (s : Statement) (S : Scopes) (used at to : ℕ) → RawStatement g n C s S used at to → Begins s at
  unfolding RawStatement first_word
  begins (simple s) S used at to x = record { name = x.first; op = omega (arith, does_op g n C S at to to s x.does) }
  begins (compact_if i e s) S used at to x = record { name = x.head.first; op = omega (arith, x.head.word.is) }
  begins (full_if i a o) S used at to x = record { name = x.head.first; op = omega (arith, x.head.word.is) }
  begins (for i v a b c body end) S used at to x = record { name = x.head.first; op = omega (arith, x.head.word.is) }
  begins (while i e body) S used at to x = record { name = x.head.first; op = omega (arith, x.head.word.is) }
  begins (test i e c d) S used at to x = record { name = x.head.first; op = omega (arith, x.head.word.is) }

  -- a list begins with a step, or where it is empty with what closes it
  pub list-begins : {A : Type 0} (l : Statements) (S : Scopes) (used at to : ℕ) → RawList g n C l S used at to → (op_at C at < an_else_if → A) → (at ≡ to → A) → A
  unfolding RawList
  list-begins empty S used at to x f e = e x
  list-begins (s then r) S used at to x f e = f (begins s S used at x.mid x.first).op
