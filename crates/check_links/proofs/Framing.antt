-- What the walk has written stays true while it writes elsewhere, and while the routine gets more words of data.
use mathlib.Core.Path.{◌≡◌, refl, sym, ap, subst, ◌∙◌}
use mathlib.Core.List.{List, [], ◌∷◌}
use mathlib.Core.Option.{Option, none, some}
use Prim.Native.Nat.{ℕ, suc, ◌+◌, ◌*◌, ◌<◌, ◌≤◌}
use native.Mathlib.Omega.{arith}
use lib.ListN.{get_or}
use lib.IntN.{pos, ◌-ℤ◌}
use Rattle.paper.specs.Terms.{of_routine}
use Rattle.paper.specs.Trees.{Expr, Simple, Statement, Statements, Arms, Cases, simple, compact_if, full_if, for, while, test, empty, ◌then◌, no_arm, arm, no_case, case}
use Rattle.paper.specs.Names.{Scopes, spelled, enter}
use Rattle.paper.specs.Checks.{fors_in, fors_in_list, fors_in_arms, fors_in_cases}
use Rattle.code.specs.Cells.{op_in, value_in, place_in, link_in, op_at, value_at, place_at, link_at}
use Rattle.code.specs.Spans.{bias}
use Rattle.code.specs.Steps.{constant_at}
use Rattle.code.proofs.Options.{none-some, same_some}
use Rattle.check_links.specs.Raw.{Ground, SameWords, RawWord, RawDo, Ends, at_once, closed, LastOf, an-else, no-else, RawTerm, RawBound, RawStep, RawSimple}
use Rattle.check_links.specs.Raw.{RawFirst, Begins, NoMore, RawValues, RawConstants, RawStatement, RawList, RawArms, RawCases}
use Rattle.check_links.proofs.Moving.{Moves, term-moves, bound-moves, does_move}
use Rattle.check_links.proofs.Orders.{term-order, bound-order, step-order, ends-order, last-order, statement-order, list-order, arms-order, cases_order}

pub same-cells : (C D : List ℕ) (a b : ℕ) → ((k : ℕ) → a * 2 ≤ k → k < b * 2 → get_or C k 0 ≡ get_or D k 0) → SameWords C D a b
same-cells C D a b f = record { heads = λ i l h. f (i * 2) (omega arith) (omega arith); tails = λ i l h. f (i * 2 + 1) (omega arith) (omega arith) }

pub same-part : (C D : List ℕ) (a b x y : ℕ) → a ≤ x → y ≤ b → SameWords C D a b → SameWords C D x y
same-part C D a b x y l h s = record { heads = λ i p q. s.heads i (omega arith) (omega arith); tails = λ i p q. s.tails i (omega arith) (omega arith) }

pub same-moves : (C D : List ℕ) (a b out : ℕ) → SameWords C D a b → Moves C D a b out out
same-moves C D a b out s = record {
  ops = λ i l h. ap op_in (s.heads i l h);
  values = λ i l h f. ap value_in (s.heads i l h);
  places = λ i l h f. ap place_in (s.tails i l h);
  links = λ i l h f. ap link_in (s.tails i l h);
  outs = λ i l h f d e. sym (ap link_in (s.tails i l h)) ∙ e;
}

-- ---- words
module _ (C D : List ℕ) (low high : ℕ) (same : SameWords C D low high) where
  module _ (i : ℕ) (l : low ≤ i) (h : i < high) where
    op-is : (k : ℕ) → op_at C i ≡ k → op_at D i ≡ k
    op-is k e = sym (ap op_in (same.heads i l h)) ∙ e

    value-is : (k : ℕ) → value_at C i ≡ k → value_at D i ≡ k
    value-is k e = sym (ap value_in (same.heads i l h)) ∙ e

    place_is : (k : ℕ) → place_at C i ≡ k → place_at D i ≡ k
    place_is k e = sym (ap place_in (same.tails i l h)) ∙ e

    link-is : (k : ℕ) → link_at C i ≡ k → link_at D i ≡ k
    link-is k e = sym (ap link_in (same.tails i l h)) ∙ e

    word-is : (op out : ℕ) → RawWord C op i out → RawWord D op i out
    word-is op out w = record { is = op-is op w.is; leaves = link-is out w.leaves }

    do-is : RawDo C i → RawDo D i
    do-is d = record { op = op-is _ d.op; value = value-is _ d.value }

  ends-frame : (z to : ℕ) → low ≤ z → to ≤ high → Ends C z to → Ends D z to
  ends-frame z to l h (at_once e) = at_once e
  ends-frame z to l h (closed w e) = closed (word-is z l (omega arith) _ to w) e

  last_frame : (last first z : ℕ) → low ≤ last → last ≤ first → first ≤ z → z < high → LastOf C last first z → LastOf D last first z
  last_frame last first z l q r h (an-else w e) = an-else (word-is last l (omega arith) _ z w) e
  last_frame last first z l q r h (no-else d e) = no-else d e

-- ---- statements
module _ (g : Ground) (n p : ℕ) (np : n ≤ p) (C D : List ℕ) where
  term-frame : (S : Scopes) (e : Expr) (a b : ℕ) → SameWords C D a b → RawTerm g n C S e a b → RawTerm g p D S e a b
  term-frame S e a b s t = term-moves g n p np C D a b 0 0 (same-moves C D a b 0 s) S e a b (omega arith) (omega arith) t

  bound-frame : (S : Scopes) (e : Expr) (w z : ℕ) → SameWords C D w z → RawBound g n C S e w z → RawBound g p D S e w z
  bound-frame S e w z s t = bound-moves g n p np C D w z 0 0 (same-moves C D w z 0 s) S e w z (omega arith) (omega arith) t

  step-frame : (S : Scopes) (c : Option Expr) (s d : ℕ) → SameWords C D s d → RawStep g n C S c s d → RawStep g p D S c s d
  unfolding RawStep
  step-frame S none s d w x = x
  step-frame S (some e) s d w x = (op-is C D s d w s (omega arith) (omega (arith, bound-order g n C S e s d x.1)) _ x.0, bound-frame S e s d w x.1)

  first_frame : (op i at to : ℕ) → SameWords C D at to → at < to → RawFirst g n C op i at to → RawFirst g p D op i at to
  first_frame op i at to s h x = record {
    first = x.first;
    place = place_is C D at to s at (omega arith) h _ x.place;
    word = word-is C D at to s at (omega arith) h op to x.word;
  }

  pub simple-frame : (S : Scopes) (s : Simple) (at to : ℕ) → SameWords C D at to → RawSimple g n C S s at to → RawSimple g p D S s at to
  simple-frame S s at to w x = record {
    first = x.first;
    place = place_is C D at to w at (omega arith) x.forward _ x.place;
    forward = x.forward;
    does = does_move g n p np C D at to to to (same-moves C D at to to w) S at to (omega arith) x.forward (omega arith) s x.first x.does;
  }

  module _ (low high : ℕ) (same : SameWords C D low high) where
    begins-frame : (before : Option ℕ) (c y : ℕ) → ((t : ℕ) → before ≡ some t → (low ≤ t) × (t < high)) → low ≤ c → c < high → Begins g n C before c y → Begins g p D before c y
    unfolding Begins
    begins-frame none c y f l h x = tt
    begins-frame (some t) c y f l h x = record { then-leaves = link-is C D low high same t (f t refl).0 (f t refl).1 c x.then-leaves; word = word-is C D low high same c l h _ y x.word }

    no-more-frame : (first : ℕ) (before : Option ℕ) (c last : ℕ) → ((t : ℕ) → before ≡ some t → (low ≤ t) × (t < high)) → NoMore g n C first before c last → NoMore g p D first before c last
    unfolding NoMore
    no-more-frame first none c last f x = x
    no-more-frame first (some t) c last f x = record { is_last = x.is_last; then-leaves = link-is C D low high same t (f t refl).0 (f t refl).1 first x.then-leaves }

    constant-is : (i : ℕ) → low ≤ i → i < high → constant_at D i ≡ constant_at C i
    unfolding constant_at
    constant-is i l h = ap (λ (k : ℕ). pos k -ℤ pos bias) (value-is C D low high same i l h _ refl)

    values-frame : (S : Scopes) (es : List Expr) (first next w : ℕ) → low ≤ w → w < high → first ≤ high → RawValues g n C S es first next w → RawValues g p D S es first next w
    unfolding RawValues
    values-frame S [] first next w l h k x = link-is C D low high same w l h next x
    values-frame S (e ∷ es) first next w l h k x =
        let lv : low ≤ x.v = omega (arith, x.on) in
        let hv : x.v < high = omega (arith, x.before) in
        record {
          v = x.v;
          leaves = link-is C D low high same w l h x.v x.leaves;
          on = x.on;
          before = x.before;
          op = op-is C D low high same x.v lv hv _ x.op;
          constant = constant-is x.v lv hv ∙ x.constant;
          place = place_is C D low high same x.v lv hv first x.place;
          rest = values-frame S es first next x.v lv hv k x.rest;
        }

    constants-frame : (S : Scopes) (es : List Expr) (first next w : ℕ) → low ≤ w → w < high → first ≤ high → RawConstants g n C S es first next w → RawConstants g p D S es first next w
    unfolding RawConstants
    constants-frame S [] first next w l h k x = x
    constants-frame S (e ∷ es) first next w l h k x = (constant-is w l h ∙ x.0, values-frame S es first next w l h k x.1)

    part : (x y : ℕ) → low ≤ x → y ≤ high → SameWords C D x y
    part x y l h = same-part C D low high x y l h same

    value-at : (i : ℕ) → low ≤ i → i < high → value_at C i ≡ value_at D i
    value-at i l h = ap value_in (same.heads i l h)

    mutual
      unfolding RawStatement RawList RawArms RawCases

      pub statement-frame : (s : Statement) (S : Scopes) (used at to : ℕ) → low ≤ at → to ≤ high → RawStatement g n C s S used at to → RawStatement g p D s S used at to
      statement-frame (simple s) S used at to l h x = simple-frame S s at to (part at to l h) x
      statement-frame (compact_if i e s) S used at to l h x =
          let o = term-order g n C S e (at + 1) (value_at C at) x.term in
          let f = x.does.forward in
          let v = value-at at l (omega arith) in
          record {
            head = first_frame _ i at to (part at to l h) (omega arith) x.head;
            term = subst (λ (k : ℕ). RawTerm g p D S e (at + 1) k) v (term-frame S e (at + 1) (value_at C at) (part (at + 1) (value_at C at) (omega arith) (omega arith)) x.term);
            does = subst (λ (k : ℕ). RawSimple g p D S s k to) v (simple-frame S s (value_at C at) to (part (value_at C at) to (omega arith) h) x.does);
          }
      statement-frame (full_if i a o) S used at to l h x =
          let z = x.otherwise-is in
          let q = list-order g n C o S (used + fors_in_arms a) x.first z.z z.list in
          let r = last-order g n C x.last x.first z.z z.begins in
          let k = arms-order g n C a S used x.first none at x.last x.arms-are in
          let e = z.end in
          record {
            head = first_frame _ i at to (part at to l h) (omega arith) x.head;
            last = x.last;
            first = x.first;
            arms-are = arms-frame a S used x.first none at x.last (λ t b. none-some t b) l (omega arith) x.arms-are;
            otherwise-is = record {
              z = z.z;
              begins = last_frame C D low high same x.last x.first z.z (omega arith) r q (omega arith) z.begins;
              list = list-frame o S (used + fors_in_arms a) x.first z.z (omega arith) (omega arith) z.list;
              word = word-is C D low high same z.z (omega arith) (omega arith) _ to z.word;
              end = e;
            };
          }
      statement-frame (for i v a b c body end) S used at to l h x =
          let o = bound-order g n C S a (at + 2) x.t x.lower in
          let q = bound-order g n C S b x.t x.s x.upper in
          let r = step-order g n C S c x.s x.d x.steps in
          let k = list-order g n C body (enter (spelled g.W v) (of_routine used) S) (suc used) (x.d + 1) end x.list in
          let e = x.ends in
          let le : low ≤ end = omega arith in
          let he : end < high = omega arith in
          record {
            head = first_frame _ i at to (part at to l h) (omega arith) x.head;
            value = value-is C D low high same at l (omega arith) used x.value;
            room = omega (arith, x.room);
            small = x.small;
            t = x.t;
            s = x.s;
            d = x.d;
            lower = bound-frame S a (at + 2) x.t (part (at + 2) x.t (omega arith) (omega arith)) x.lower;
            upper = bound-frame S b x.t x.s (part x.t x.s (omega arith) (omega arith)) x.upper;
            steps = step-frame S c x.s x.d (part x.s x.d (omega arith) (omega arith)) x.steps;
            do-is = do-is C D low high same x.d (omega arith) (omega arith) x.do-is;
            list = list-frame body (enter (spelled g.W v) (of_routine used) S) (suc used) (x.d + 1) end (omega arith) (omega arith) x.list;
            test = word-is C D low high same end le he _ (x.d + 1) x.test;
            test-value = value-is C D low high same end le he _ x.test-value;
            test-place = place_is C D low high same end le he _ x.test-place;
            ends = e;
          }
      statement-frame (while i e body) S used at to l h x =
          let o = term-order g n C S e (at + 1) (value_at C at) x.term in
          let q = list-order g n C body S used (value_at C at + 1) x.z x.list in
          let k = x.end in
          let v = value-at at l (omega arith) in
          record {
            head = first_frame _ i at to (part at to l h) (omega arith) x.head;
            term = subst (λ (k : ℕ). RawTerm g p D S e (at + 1) k) v (term-frame S e (at + 1) (value_at C at) (part (at + 1) (value_at C at) (omega arith) (omega arith)) x.term);
            do-is = subst (RawDo D) v (do-is C D low high same (value_at C at) (omega arith) (omega arith) x.do-is);
            z = x.z;
            list = subst (λ (k : ℕ). RawList g p D body S used (k + 1) x.z) v (list-frame body S used (value_at C at + 1) x.z (omega arith) (omega arith) x.list);
            again = word-is C D low high same x.z (omega arith) (omega arith) _ at x.again;
            end = k;
          }
      statement-frame (test i e c d) S used at to l h x =
          let y = x.default-is in
          let o = term-order g n C S e (at + 1) (value_at C at) x.term in
          let q = cases_order g n C c S used (value_at C at) x.last x.cases-are in
          let r = list-order g n C d S (used + fors_in_cases c) y.first y.z y.list in
          let k = ends-order g n C y.z to y.ends in
          let b = y.before in
          let v = value-at at l (omega arith) in
          record {
            head = first_frame _ i at to (part at to l h) (omega arith) x.head;
            term = subst (λ (k : ℕ). RawTerm g p D S e (at + 1) k) v (term-frame S e (at + 1) (value_at C at) (part (at + 1) (value_at C at) (omega arith) (omega arith)) x.term);
            last = x.last;
            cases-are = subst (λ (k : ℕ). RawCases g p D c S used k x.last) v (cases-frame c S used (value_at C at) x.last (omega arith) (omega arith) x.cases-are);
            default-is = record {
              z = y.z;
              first = y.first;
              word = word-is C D low high same x.last (omega arith) (omega arith) _ y.z y.word;
              place = place_is C D low high same x.last (omega arith) (omega arith) _ y.place;
              before = b;
              list = list-frame d S (used + fors_in_cases c) y.first y.z (omega arith) (omega arith) y.list;
              ends = ends-frame C D low high same y.z to (omega arith) h y.ends;
            };
          }

      pub list-frame : (l : Statements) (S : Scopes) (used at to : ℕ) → low ≤ at → to ≤ high → RawList g n C l S used at to → RawList g p D l S used at to
      list-frame empty S used at to l h x = x
      list-frame (s then r) S used at to l h x =
          let o = statement-order g n C s S used at x.mid x.first in
          let q = list-order g n C r S (used + fors_in s) x.mid to x.others in
          record { mid = x.mid; first = statement-frame s S used at x.mid l (omega arith) x.first; others = list-frame r S (used + fors_in s) x.mid to (omega arith) h x.others }

      pub arms-frame : (a : Arms) (S : Scopes) (used first : ℕ) (before : Option ℕ) (c last : ℕ) → ((t : ℕ) → before ≡ some t → (low ≤ t) × (t < high)) → low ≤ c → last < high
          → RawArms g n C a S used first before c last → RawArms g p D a S used first before c last
      arms-frame no_arm S used first before c last f l h x = no-more-frame first before c last f x
      arms-frame (arm e b r) S used first before c last f l h x =
          let o = term-order g n C S e (c + 1) x.t x.term in
          let q = list-order g n C b S used (x.t + 1) x.y x.list in
          let k = arms-order g n C r S (used + fors_in_list b) first (some x.t) x.y last x.rest in
          let lt : low ≤ x.t = omega arith in
          let ht : x.t < high = omega arith in
          record {
            t = x.t;
            y = x.y;
            value = value-is C D low high same c l (omega arith) _ x.value;
            term = term-frame S e (c + 1) x.t (part (c + 1) x.t (omega arith) (omega arith)) x.term;
            then-op = op-is C D low high same x.t lt ht _ x.then-op;
            then-value = value-is C D low high same x.t lt ht _ x.then-value;
            list = list-frame b S used (x.t + 1) x.y (omega arith) (omega arith) x.list;
            begins = begins-frame before c x.y f l (omega arith) x.begins;
            rest = arms-frame r S (used + fors_in_list b) first (some x.t) x.y last (λ t b. let w = same_some x.t t b in (omega arith, omega arith)) (omega arith) h x.rest;
          }

      pub cases-frame : (c : Cases) (S : Scopes) (used at last : ℕ) → low ≤ at → last < high → RawCases g n C c S used at last → RawCases g p D c S used at last
      cases-frame no_case S used at last l h x = x
      cases-frame (case es b r) S used at last l h x =
          let q = list-order g n C b S used x.first x.next x.list in
          let k = cases_order g n C r S (used + fors_in_list b) x.next last x.rest in
          let y = x.before in
          record {
            first = x.first;
            next = x.next;
            op = op-is C D low high same at l (omega arith) _ x.op;
            place = place_is C D low high same at l (omega arith) _ x.place;
            values = constants-frame S es x.first x.next at l (omega arith) (omega arith) x.values;
            behind = word-is C D low high same (at + 1) (omega arith) (omega arith) _ x.next x.behind;
            before = y;
            list = list-frame b S used x.first x.next (omega arith) (omega arith) x.list;
            rest = cases-frame r S (used + fors_in_list b) x.next last (omega arith) h x.rest;
          }
