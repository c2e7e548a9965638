-- A list is walked statement by statement: what is left of it, and what has been written so far.
use Rattle.paper.specs.Words.{word_limit}
use mathlib.Core.Path.{◌≡◌, refl, sym, ap, subst, ◌∙◌}
use mathlib.Core.Bool.{Bool, true, false}
use mathlib.Core.List.{List, ◌++◌}
use Prim.Native.Nat.{ℕ, ◌+◌, ◌-◌, ◌*◌, ◌<◌, ◌≤◌}
use native.Mathlib.Omega.{arith}
use lib.ListN.{length}
use Rattle.store_cells.specs.Cells.{cells_of}
use Rattle.paper.specs.Trees.{Statements}
use Rattle.paper.specs.Expressions.{starts_statement}
use Rattle.paper.specs.Names.{sort_in}
use Rattle.paper.specs.Types.{Fault}
use Rattle.paper.specs.Checks.{fors_in, fors_in_list, statement_faults, list_faults}
use Rattle.code.specs.Cells.{op_at}
use Rattle.grammar.specs.Form.{Parses, ListAt}
use Rattle.grammar.proofs.Inversions.{FirstStatement, list-first, list-none}
use Rattle.grammar.proofs.Places.{statement-grows, list-grows}
use Rattle.faults.specs.First.{First}
use Rattle.faults.proofs.First.{first-before}
use Rattle.faults.proofs.Expressions.{grows}
use Rattle.faults.proofs.Statements.{statement-inside, list_inside}
use Rattle.check_links.specs.Raw.{RawStatement, RawList}
use Rattle.check_links.proofs.Framing.{statement-frame}
use Rattle.check_around.specs.declared.Setting.{Setting}
use Rattle.check_around.specs.Around.{ground_of}
use Rattle.check_names.specs.declared.Scope.{Scope}
use Rattle.check_names.specs.Scopes.{with_used, Walked}
use Rattle.check_statements.specs.Answers.{SameValues, Stands, Lists, Done, Tell, Answer, StatementAnswer, Stated, Listed}
use Rattle.check_compounds.specs.Here.{Outside, Here}
use Rattle.check_statements.proofs.Same.{same-values, stands-as, answer-as}
use Rattle.check_compounds.proofs.Frames.{outside-same, outside_wider, outside-on, same-before, here_on, here-part}
use Rattle.std.specs.Prelude.{Ok, Err}
use Rattle.layout.specs.Broken.{as_fault}
use Rattle.layout.specs.declared.rules.Breach.{Breach}

-- an answer with so many words used is the answer with the scope that has used them
pub as-scope : (P : Walked → Type 0) (x : ℕ) {used : ℕ} (scope : Scope) → scope.used ≡ used → P (Ok (x, with_used used scope)) → P (Ok (x, scope))
as-scope P x scope e p = subst (λ (n : ℕ). P (Ok (x, with_used n scope))) (sym e) p

-- ---- answers
module _ {fs : List Fault} {before after values values' : List ℕ} {at to count : ℕ} {holds : Type 0} (r : Walked) (a : Answer fs before after values values' at to count holds r) where
  pub upto_done : (next : ℕ) (u : Scope) → r ≡ Ok (next, u) → Done fs before after values values' at to count next u.used holds
  unfolding Tell
  upto_done next u e = subst (Tell fs before after values values' at to count holds) e a.tells

  pub faulty-first : (broken : Breach) → r ≡ Err broken → First (as_fault broken) fs
  unfolding Tell
  faulty-first broken e = subst (Tell fs before after values values' at to count holds) e a.tells

pub done-answer : (fs : List Fault) (before after values values' : List ℕ) (at to count next : ℕ) (u : Scope) (holds : Type 0) → Done fs before after values values' at to count next u.used holds → length after ≡ length before
    → Answer fs before after values values' at to count holds (Ok (next, u))
unfolding Tell
done-answer fs before after values values' at to count next u holds d long = record { tells = d; long = long }

pub first-answer : (fs : List Fault) (before after values values' : List ℕ) (at to count : ℕ) (broken : Breach) (holds : Type 0) → First (as_fault broken) fs → length after ≡ length before
    → Answer fs before after values values' at to count holds (Err broken)
unfolding Tell
first-answer fs before after values values' at to count broken holds d long = record { tells = d; long = long }

-- what is answered of a piece, where words before it have been written without a fault
pub answer-behind : (fs gs : List Fault) (code one two values values' : List ℕ) (at to count total : ℕ) (holds : Type 0) (r : Walked) → gs ≡ fs → count ≡ total → Outside (cells_of code) (cells_of one) at to → length one ≡ length code
    → Answer fs one two values values' at to count holds r → Answer gs code two values values' at to total holds r
unfolding Tell
answer-behind fs gs code one two values values' at to count total holds (Ok (next, u)) e c o long x =
    let d = x.tells in
    record {
      tells = record { none = e ∙ d.none; next-is = d.next-is; used-is = d.used-is ∙ c; few = d.few; written = d.written; outside = outside-on o d.outside; same = d.same };
      long = x.long ∙ long;
    }
answer-behind fs gs code one two values values' at to count total holds (Err broken) e c o long x =
    record { tells = subst (First (as_fault broken)) (sym e) x.tells; long = x.long ∙ long }

-- ---- what is left of a list
pub record Going {text code values : List ℕ} {k : Setting} {used at : ℕ} (g : Lists text code values k used at) (now values' : List ℕ) (i n : ℕ) : Type 0 where
  pub same : SameValues values values'
  pub l : Statements
  pub is : ListAt (sort_in g.around.known.W) (Parses (sort_in g.around.known.W)) g.d l i g.to
  pub here : Here g.around now k n i g.to
  pub count : n + fors_in_list l ≡ used + fors_in_list g.l
  pub faults-are : list_faults g.around.known.W g.around.K g.around.M g.l g.around.known.S used ≡ list_faults g.around.known.W g.around.K g.around.M l g.around.known.S n
  pub outside : Outside (cells_of code) (cells_of now) at i
  pub order : at ≤ i
  pub inside : i ≤ g.to
  pub long : length now ≡ length code
  -- what is written of the rest makes the whole
  pub on : (C : List ℕ) → Outside (cells_of now) C i g.to → RawList (ground_of g.around) g.around.known.n C l g.around.known.S n i g.to
      → RawList (ground_of g.around) g.around.known.n C g.l g.around.known.S used at g.to

pub record Goings (text code values : List ℕ) (k : Setting) (used at : ℕ) (now values' : List ℕ) (i n : ℕ) : Type 0 where
  pub is : (g : Lists text code values k used at) → Going g now values' i n

list-order : {text code values : List ℕ} {k : Setting} {used at : ℕ} (g : Lists text code values k used at) → at ≤ g.to
list-order g = list-grows (sort_in g.around.known.W) (Parses (sort_in g.around.known.W)) (grows g.around.known.W) g.is

pub list-begins : (text code values : List ℕ) (k : Setting) (used at : ℕ) → Goings text code values k used at code values at used
list-begins text code values k used at = record {
  is = λ g. record {
    same = same-values values;
    l = g.l;
    is = g.is;
    here = g.here;
    count = refl;
    faults-are = refl;
    outside = outside-same (cells_of code) at at;
    order = omega arith;
    inside = list-order g;
    long = refl;
    on = λ C o x. x;
  };
}

module _ (text code values : List ℕ) (k : Setting) (used at : ℕ) (now values' : List ℕ) (i n : ℕ) (inv : Goings text code values k used at now values' i n) where
  pub list-long : Lists text code values k used at → length now ≡ length code
  list-long g = (inv.is g).long

  pub list-values : Lists text code values k used at → length values' ≡ length values
  list-values g = (inv.is g).same.long

  pub list-forward : Lists text code values k used at → (at ≤ i) × (i < word_limit)
  list-forward g =
      let x = inv.is g in
      (x.order, omega (arith, x.inside, x.here.unread.loaded.last))

  pub list-room : Lists text code values k used at → i * 8 + 8 ≤ length now
  list-room g =
      let x = inv.is g in
      omega (arith, x.inside, x.here.unread.loaded.room)

  module _ (s : ℕ) (b : Bool) (es : s ≡ op_at (cells_of now) i) (eb : b ≡ starts_statement s) where
    starts_is : (g : Lists text code values k used at) → starts_statement (sort_in g.around.known.W i) ≡ b
    starts_is g =
        let x = inv.is g in
        ap starts_statement (sym (es ∙ (x.here.unread.loaded.words i (omega arith) x.inside).sort)) ∙ sym eb

    -- ---- the list has ended
    ends-here : (g : Lists text code values k used at) → b ≡ false → (scope : Scope) → Answer (list_faults g.around.known.W g.around.K g.around.M g.l g.around.known.S used) code now values values' at g.to (used + fors_in_list g.l)
        (RawList (ground_of g.around) g.around.known.n (cells_of now) g.l g.around.known.S used at g.to) (Ok (i, with_used n scope))
    unfolding list_faults fors_in_list RawList
    ends-here g f scope =
        let x = inv.is g in
        let e = list-none (sort_in g.around.known.W) (Parses (sort_in g.around.known.W)) x.is (starts_is g ∙ f) in
        let none : fors_in_list x.l ≡ 0 = ap fors_in_list e.0 in
        done-answer _ _ _ _ _ _ _ _ _ _ _
        (record {
          none = x.faults-are ∙ ap (λ (l : Statements). list_faults g.around.known.W g.around.K g.around.M l g.around.known.S n) e.0;
          next-is = sym e.1;
          used-is = omega (arith, x.count, none);
          few = x.here.few;
          written = x.on (cells_of now) (outside-same (cells_of now) i g.to)
              (subst (λ (l : Statements). RawList (ground_of g.around) g.around.known.n (cells_of now) l g.around.known.S n i g.to) (sym e.0) (sym e.1));
          outside = outside_wider at g.to x.outside (omega arith) x.inside;
          same = x.same;
        })
        x.long

    pub list-ends : b ≡ false → (scope : Scope) → scope.used ≡ n → Listed text code values now values' k used at (Ok (i, scope))
    list-ends f scope u = as-scope (Listed text code values now values' k used at) i scope u (record { is = λ g. ends-here g f scope })

    -- ---- a statement follows
    module _ (t : b ≡ true) (g : Lists text code values k used at) where
      W : ℕ → ℕ
      W = sort_in g.around.known.W

      x : Going g now values' i n
      x = inv.is g

      f : FirstStatement (sort_in g.around.known.W) (Parses (sort_in g.around.known.W)) g.d x.l i g.to
      f = list-first (sort_in g.around.known.W) (Parses (sort_in g.around.known.W)) x.is (starts_is g ∙ t)

      forward : i < f.n
      forward = statement-grows (sort_in g.around.known.W) (Parses (sort_in g.around.known.W)) (grows g.around.known.W) f.stands

      behind : f.n ≤ g.to
      behind = list-grows (sort_in g.around.known.W) (Parses (sort_in g.around.known.W)) (grows g.around.known.W) f.more

      counted : fors_in_list x.l ≡ fors_in f.s + fors_in_list f.rest
      unfolding fors_in_list
      counted = ap fors_in_list f.is

      one : Stands text now values k n i
      one = record {
        to = f.n;
        around = g.around;
        here = here-part g.around now k n i g.to i f.n x.here (omega arith) x.inside behind;
        d = g.d;
        s = f.s;
        is = f.stands;
        room = omega (arith, g.room, x.count, counted);
      }

      pub list-stands : Stands text now values' k n i
      list-stands = stands-as x.same one

      first-faults : List Fault
      first-faults = statement_faults g.around.known.W g.around.K g.around.M f.s g.around.known.S n

      other-faults : List Fault
      other-faults = list_faults g.around.known.W g.around.K g.around.M f.rest g.around.known.S (n + fors_in f.s)

      all-faults : list_faults g.around.known.W g.around.K g.around.M g.l g.around.known.S used ≡ first-faults ++ other-faults
      unfolding list_faults first-faults other-faults
      all-faults = x.faults-are ∙ ap (λ (l : Statements). list_faults g.around.known.W g.around.K g.around.M l g.around.known.S n) f.is

      module _ (after values'' : List ℕ) (r : Walked) (st : Stated text now values' after values'' k n i r) where
        answer : StatementAnswer one after values'' r
        unfolding ground_of
        answer = answer-as x.same _ _ _ _ _ _ _ _ r (st.is (stands-as x.same one))

        faulty-is : (broken : Breach) → r ≡ Err broken → Answer (list_faults g.around.known.W g.around.K g.around.M g.l g.around.known.S used) code after values values'' at g.to (used + fors_in_list g.l)
            (RawList (ground_of g.around) g.around.known.n (cells_of after) g.l g.around.known.S used at g.to) (Err broken)
        unfolding one first-faults other-faults
        faulty-is broken e =
            first-answer _ _ _ _ _ _ _ _ broken _
            (subst (First (as_fault broken)) (sym all-faults)
            (first-before (faulty-first r answer broken e) (statement-inside g.around.known.W g.around.K g.around.M f.stands g.around.known.S n)
            (list_inside g.around.known.W g.around.K g.around.M f.more g.around.known.S (n + fors_in f.s)) (omega arith)))
            (answer.long ∙ x.long)

        module _ (m : ℕ) (u : Scope) (e : r ≡ Ok (m, u)) where
          done : Done first-faults now after values values'' i f.n (n + fors_in f.s) m u.used (RawStatement (ground_of g.around) g.around.known.n (cells_of after) f.s g.around.known.S n i f.n)
          unfolding one first-faults
          done = upto_done r answer m u e

          less : word_limit - m < word_limit - i
          less = omega (arith, done.next-is, forward, behind, x.here.unread.loaded.last)

          goes : Going g after values'' f.n (n + fors_in f.s)
          unfolding first-faults other-faults list_faults RawList
          goes = record {
            same = done.same;
            l = f.rest;
            is = f.more;
            here = here_on g.around now after k n i g.to (n + fors_in f.s) f.n g.to x.here done.outside answer.long (omega arith) (omega (arith, done.few, done.used-is))
                (omega arith) (omega (arith, behind)) (omega (arith, forward)) (omega arith) (omega arith);
            count = omega (arith, x.count, counted);
            faults-are = all-faults ∙ ap (λ (l : List Fault). l ++ other-faults) done.none;
            outside = outside-on (outside_wider at f.n x.outside (omega arith) (omega (arith, forward))) (outside_wider at f.n done.outside x.order (omega arith));
            order = omega (arith, x.order, forward);
            inside = behind;
            long = answer.long ∙ x.long;
            on = λ C o y. x.on C (outside-on (outside_wider i g.to done.outside (omega arith) behind) (outside_wider i g.to o (omega (arith, forward)) (omega arith)))
                (subst (λ (l : Statements). RawList (ground_of g.around) g.around.known.n C l g.around.known.S n i g.to) (sym f.is)
                (record {
                  mid = f.n;
                  first = statement-frame (ground_of g.around) g.around.known.n g.around.known.n (omega arith) (cells_of after) C i f.n (same-before i f.n o (omega arith))
                      f.s g.around.known.S n i f.n (omega arith) (omega arith) done.written;
                  others = y;
                }));
          }

          goes-on : Going g after values'' m u.used
          goes-on = subst (λ (v : ℕ). Going g after values'' m v) (sym done.used-is) (subst (λ (v : ℕ). Going g after values'' v (n + fors_in f.s)) (sym done.next-is) goes)

    module _ (t : b ≡ true) (after values'' : List ℕ) (r : Walked) (st : Stated text now values' after values'' k n i r) where
      pub list-faulty : (broken : Breach) → r ≡ Err broken → Listed text code values after values'' k used at (Err broken)
      list-faulty broken e = record { is = λ g. faulty-is t g after values'' r st broken e }

      pub list-less : Lists text code values k used at → (m : ℕ) (scope : Scope) → r ≡ Ok (m, scope) → word_limit - m < word_limit - i
      list-less g m scope e = less t g after values'' r st m scope e

      pub list-goes : (m : ℕ) (u : Scope) → r ≡ Ok (m, u) → Goings text code values k used at after values'' m u.used
      list-goes m u e = record { is = λ g. goes-on t g after values'' r st m u e }
