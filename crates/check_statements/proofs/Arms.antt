-- A full IF is walked arm by arm: what is left of it, and what has been written so far.
use Rattle.check_names.specs.Promises.{store_bytes}
use Rattle.layout.specs.Parts.{link_part}
use mathlib.Core.Path.{◌≡◌, refl, sym, ap, subst, ◌∙◌}
use mathlib.Core.Bool.{false}
use mathlib.Core.List.{List, [], ◌++◌}
use mathlib.Core.Option.{Option, none, some}
use Prim.Native.Nat.{ℕ, ◌+◌, ◌-◌, ◌*◌, ◌/◌, ◌%◌, ◌<◌, ◌≤◌}
use native.Mathlib.Omega.{arith}
use lib.ListN.{length}
use Rattle.laws.proofs.Tests.{by-same}
use Rattle.store_cells.specs.Cells.{cells_of}
use Rattle.paper.specs.Sorts.{ELSE, ELSEIF}
use Rattle.paper.specs.Words.{Word, word_limit}
use Rattle.paper.specs.Trees.{Expr, Statements, Arms, no_arm, arm, full_if}
use Rattle.paper.specs.Expressions.{level_of}
use Rattle.paper.specs.Names.{a_bool, Scopes, sort_in}
use Rattle.paper.specs.Terms.{Memory}
use Rattle.paper.specs.Types.{Fault, of_type}
use Rattle.paper.specs.Checks.{fors_in_list, fors_in_arms, list_faults, arm_faults}
use Rattle.paper.specs.Checks as checks
use Rattle.code.specs.Cells.{op_in, value_in, head_at, op_at, value_at, place_at, link_at}
use Rattle.code.specs.Steps.{an_if, an_else_if}
use Rattle.grammar.specs.Form.{Parses, ElseAt}
use Rattle.grammar.proofs.Inversions.{FirstArm, arms-first}
use Rattle.grammar.proofs.Places.{list-grows, arms-grow, else-grows}
use Rattle.store_writing.specs.Promises.{Kept, Linked}
use Rattle.store_writing.proofs.Keeping.{place-below, linked-place}
use Rattle.check_expressions.specs.Answers.{Typed}
use Rattle.check_expressions.specs.Answers as expressions
use Rattle.faults.specs.First.{First, Inside}
use Rattle.faults.proofs.First.{widen, every-none, first-before}
use Rattle.faults.proofs.Expressions.{grows, of-type-inside}
use Rattle.faults.proofs.Statements.{list_inside, arms-inside, else-inside}
use Rattle.check_links.specs.Raw.{SameWords, RawWord, RawTerm, RawList, LastOf, an-else, no-else, RawArms, Begins, NoMore, RawElse, RawStatement}
use Rattle.check_links.proofs.Framing.{same-part}
use Rattle.check_links.proofs.Orders.{last-order, list-order}
use Rattle.check_around.specs.declared.Setting.{Setting}
use Rattle.check_around.specs.Around.{Around, ground_of, offset_in}
use Rattle.check_names.specs.declared.Scope.{Scope}
use Rattle.check_statements.specs.Answers.{SameValues, Lists, Done, Answer, Listed}
use Rattle.check_compounds.specs.Here.{Outside, Here}
use Rattle.check_statements.specs.Parts.{ThenAt, Thens, Thened, Elses, ElseWritten, Elsed}
use Rattle.check_compounds.specs.Parts.{ArmEnded}
use Rattle.check_statements.proofs.Same.{same-values, lists-as, elses-as, expression-as, of-type-as, answer-as}
use Rattle.check_compounds.proofs.Frames.{outside-same, outside_wider, outside-on, kept-outside, same-before, same-behind, same-on, head-before, head-behind, tail-before, here-from}
use Rattle.check_compounds.proofs.Frames.{here_on, here-part, calls-behind, term-same, list_same, op_same, value_same, link-same, word_same, linked-outside, linked-word}
use Rattle.check_compounds.proofs.ExpressionsJudged.{inside_both, expression-stands, judged-faulty, judged-long, judged-none, judged-next, judged-term, judged-kept}
use Rattle.check_statements.proofs.ListWalk.{upto_done, faulty-first, done-answer, first-answer}
use Rattle.layout.specs.declared.types.ValueType.{ValueType}
use Rattle.layout.specs.declared.types.ValueType.TheVariants.{Bool}
use Rattle.check_names.specs.Scopes.{Walked}
use Rattle.check_expressions.specs.Judgements.{Judged}
use Rattle.std.specs.Prelude.{Ok, Err}
use Rattle.layout.specs.Broken.{as_fault}
use Rattle.layout.specs.declared.rules.Breach.{Breach}

-- ---- the words of what is left
module _ (W : List Word) (d : ℕ) (b : Statements) (rest : Arms) (t last : ℕ) (x : ThenAt (sort_in W) d b rest t last) where
  pub then-order : (t + 1 ≤ x.m) × (x.m ≤ last)
  then-order = (
    list-grows (sort_in W) (Parses (sort_in W)) (grows W) x.list,
    by-same (sort_in W x.m) ELSEIF
        (λ e. omega (arith, arms-grow (sort_in W) (Parses (sort_in W)) (grows W) (x.more e)))
        (λ f. omega (arith, (x.none_more f).1)),
  )

  pub rest-inside : (K : checks.Setting) (M : Memory) (S : Scopes) (n : ℕ) → Inside x.m last (arm_faults W K M rest S n)
  unfolding arm_faults
  rest-inside K M S n =
      by-same (sort_in W x.m) ELSEIF
      (λ e. widen (arms-inside W K M (x.more e) S n) (omega arith) (omega arith))
      (λ f. every-none (ap (λ (r : Arms). arm_faults W K M r S n) (x.none_more f).0))

-- ---- what begins an arm: IF, or ELSEIF behind a THEN that leads there
unfoldable pub Opened : (C : List ℕ) (i op c : ℕ) → Option ℕ → Type 0
Opened C i op c none = (c ≡ i) × (op ≡ an_if)
Opened C i op c (some p) = (op ≡ an_else_if) × (link_at C p ≡ c) × (i < p) × (p < c)

pub record Arming {text code values : List ℕ} {k : Setting} {used i first : ℕ} (g : Thens text code values k used i first) (now values' : List ℕ) (op c t n : ℕ) : Type 0 where
  pub same : SameValues values values'
  pub e : Expr
  pub b : Statements
  pub rest : Arms
  pub is : ThenAt (sort_in g.around.known.W) g.d b rest t g.last
  pub here : Here g.around now k n t g.to
  pub term : RawTerm (ground_of g.around) g.around.known.n (cells_of now) g.around.known.S e (c + 1) t
  pub low : i ≤ c
  pub next : c < t
  pub before : Option ℕ
  pub opened : Opened (cells_of now) i op c before
  pub head : i < c → op_at (cells_of now) i ≡ an_if
  pub faults-are : list_faults g.around.known.W g.around.K g.around.M g.b g.around.known.S used
      ++ arm_faults g.around.known.W g.around.K g.around.M g.rest g.around.known.S (used + fors_in_list g.b)
      ++ list_faults g.around.known.W g.around.K g.around.M g.o g.around.known.S (used + (fors_in_list g.b + fors_in_arms g.rest))
      ≡ list_faults g.around.known.W g.around.K g.around.M b g.around.known.S n
      ++ arm_faults g.around.known.W g.around.K g.around.M rest g.around.known.S (n + fors_in_list b)
      ++ list_faults g.around.known.W g.around.K g.around.M g.o g.around.known.S (used + (fors_in_list g.b + fors_in_arms g.rest))
  pub count : n + (fors_in_list b + fors_in_arms rest) ≡ used + (fors_in_list g.b + fors_in_arms g.rest)
  pub later : first ≤ t
  pub outside : Outside (cells_of code) (cells_of now) i t
  pub place : place_at (cells_of now) i ≡ offset_in g.around.known.W i
  pub long : length now ≡ length code
  -- what is written of the rest makes the whole; the IF leads on in the end alone
  pub on : (C : List ℕ) (else-first : ℕ) → SameWords (cells_of now) C (i + 1) c → (i < c → head_at (cells_of now) i ≡ head_at C i)
      → RawArms (ground_of g.around) g.around.known.n C (arm e b rest) g.around.known.S n else-first before c g.last
      → RawArms (ground_of g.around) g.around.known.n C (arm g.e g.b g.rest) g.around.known.S used else-first none i g.last

pub record Armings (text code values : List ℕ) (k : Setting) (used i first : ℕ) (now values' : List ℕ) (op c t n : ℕ) : Type 0 where
  pub is : (g : Thens text code values k used i first) → Arming g now values' op c t n

pub arms-begin : (text code values : List ℕ) (k : Setting) (used i first : ℕ) → Armings text code values k used i first code values an_if i first used
unfolding Opened
arms-begin text code values k used i first = record {
  is = λ g. record {
    same = same-values values;
    e = g.e;
    b = g.b;
    rest = g.rest;
    is = g.is;
    here = g.here;
    term = g.term;
    low = omega arith;
    next = g.before;
    before = none;
    opened = (refl, refl);
    head = λ h. absurd (omega arith);
    faults-are = refl;
    count = refl;
    later = omega arith;
    outside = outside-same (cells_of code) i first;
    place = g.place;
    long = refl;
    on = λ C f s h x. x;
  };
}

module _ (text code values : List ℕ) (k : Setting) (used i first : ℕ) (now values' : List ℕ) (op c t n : ℕ) (inv : Armings text code values k used i first now values' op c t n) where
  module _ (g : Thens text code values k used i first) where
    abbrev a : Around text values
    a = g.around

    abbrev x : Arming g now values' op c t n
    x = inv.is g

    order : (t + 1 ≤ x.is.m) × (x.is.m ≤ g.last)
    order = then-order a.known.W g.d x.b x.rest t g.last x.is

    ending : (g.last ≤ g.z) × (g.to ≡ g.z + 1) × (g.to < word_limit)
    ending = (else-grows (sort_in a.known.W) (Parses (sort_in a.known.W)) (grows a.known.W) g.otherwise, g.after, g.here.unread.loaded.last)

    lists : Lists text now values k n (t + 1)
    lists = record {
      to = x.is.m;
      around = a;
      here = here-part a now k n t g.to (t + 1) x.is.m x.here (omega arith) (omega (arith, order, ending)) (omega (arith, order, ending));
      d = g.d;
      l = x.b;
      is = x.is.list;
      room = omega (arith, x.count, g.room);
    }

    pub arm-lists : Lists text now values' k n (t + 1)
    arm-lists = lists-as x.same lists

    pub arm-values : length values' ≡ length values
    arm-values = x.same.long

    pub arm-long-so : length now ≡ length code
    arm-long-so = x.long

    pub arm-after : first ≤ t
    arm-after = x.later

    pub arm-wide : store_bytes ≤ length code
    arm-wide = g.calls.room

    pub arm-place : (t < 8191) × (length now ≡ length code)
    arm-place = (omega (arith, order, ending), x.long)

    total : List Fault
    total = list_faults a.known.W a.K a.M g.b a.known.S used
        ++ arm_faults a.known.W a.K a.M g.rest a.known.S (used + fors_in_list g.b)
        ++ list_faults a.known.W a.K a.M g.o a.known.S (used + (fors_in_list g.b + fors_in_arms g.rest))

    else-faults : List Fault
    else-faults = list_faults a.known.W a.K a.M g.o a.known.S (used + (fors_in_list g.b + fors_in_arms g.rest))

    else-in : Inside g.last g.z else-faults
    unfolding else-faults
    else-in = else-inside a.known.W a.K a.M g.otherwise a.known.S _

    rest_in : (n : ℕ) → Inside x.is.m g.last (arm_faults a.known.W a.K a.M x.rest a.known.S n)
    rest_in n = rest-inside a.known.W g.d x.b x.rest t g.last x.is a.K a.M a.known.S n

    abbrev ForIf : (after values' : List ℕ) → Walked → Type 0
    ForIf after v r =
        Answer
        (list_faults a.known.W a.K a.M g.b a.known.S used
        ++ arm_faults a.known.W a.K a.M g.rest a.known.S (used + fors_in_list g.b)
        ++ list_faults a.known.W a.K a.M g.o a.known.S (used + (fors_in_list g.b + fors_in_arms g.rest)))
        code after values v i g.to (used + (fors_in_list g.b + fors_in_arms g.rest + fors_in_list g.o))
        (RawStatement (ground_of a) a.known.n (cells_of after) (full_if i (arm g.e g.b g.rest) g.o) a.known.S used i g.to) r

    module _ (one values'' : List ℕ) (r : Walked) (l : Listed text now values' one values'' k n (t + 1) r) where
      inner : Answer (list_faults a.known.W a.K a.M x.b a.known.S n) now one values values'' (t + 1) x.is.m (n + fors_in_list x.b)
          (RawList (ground_of a) a.known.n (cells_of one) x.b a.known.S n (t + 1) x.is.m) r
      unfolding lists ground_of
      inner = answer-as x.same _ _ _ _ _ _ _ _ r (l.is (lists-as x.same lists))

      list-wrong : (broken : Breach) → r ≡ Err broken → ForIf one values'' (Err broken)
      unfolding else-faults
      list-wrong broken q =
          let i1 = list_inside a.known.W a.K a.M x.is.list a.known.S n in
          let i2 = rest_in (n + fors_in_list x.b) in
          let f = first-before (faulty-first r inner broken q) i1 i2 (omega arith) in
          let f2 = first-before f (inside_both i1 i2 (omega (arith, order)) (omega (arith, order))) else-in (omega arith) in
          first-answer _ _ _ _ _ _ _ _ broken _ (subst (First (as_fault broken)) (sym x.faults-are) f2) (inner.long ∙ x.long)

      module _ (e : ℕ) (u : Scope) (q : r ≡ Ok (e, u)) where
        done : Done (list_faults a.known.W a.K a.M x.b a.known.S n) now one values values'' (t + 1) x.is.m (n + fors_in_list x.b) e u.used
            (RawList (ground_of a) a.known.n (cells_of one) x.b a.known.S n (t + 1) x.is.m)
        done = upto_done r inner e u q

        small : (o : Option ℕ) → Opened (cells_of now) i op c o → op < 256
        unfolding Opened
        small none p = omega (arith, p.1)
        small (some p) q = omega (arith, q.0)

        pub arm-closes : (op < 256) × (c < t) × (t < e) × (e < word_limit) × (store_bytes ≤ length one)
        arm-closes = (small x.before x.opened, x.next, omega (arith, order, done.next-is), omega (arith, done.next-is, order, ending), omega (arith, inner.long, x.long, g.calls.room))

        module _ (two : List ℕ) (ended : ArmEnded one two op c t e) where
          abbrev m : ℕ
          m = x.is.m

          y : ArmEnded one two op c t m
          y = subst (λ (v : ℕ). ArmEnded one two op c t v) done.next-is ended

          at-then : Outside (cells_of one) (cells_of y.mid) t (t + 1)
          at-then = linked-outside y.then_is

          at-arm : Outside (cells_of y.mid) (cells_of two) c (c + 1)
          at-arm = linked-outside y.arm_is

          written : Outside (cells_of now) (cells_of two) c m
          written =
              outside-on (outside-on (outside_wider c m done.outside (omega (arith, x.next)) (omega arith)) (outside_wider c m at-then (omega (arith, x.next)) (omega (arith, order))))
              (outside_wider c m at-arm (omega arith) (omega (arith, x.next, order)))

          pub arm-long : length two ≡ length code
          arm-long = y.arm_is.kept.long ∙ y.then_is.kept.long ∙ inner.long ∙ x.long

          changed : Outside (cells_of code) (cells_of two) i m
          changed = outside-on (outside_wider i m x.outside (omega arith) (omega (arith, order))) (outside_wider i m written x.low (omega arith))

          next_here : Here a two k (n + fors_in_list x.b) m g.to
          next_here =
              here-from a now two k n t g.to (n + fors_in_list x.b) m g.to x.here written (arm-long ∙ sym x.long) (omega arith) (omega (arith, done.few, done.used-is)) (omega (arith, order)) (omega arith) (omega arith)
              (calls-behind a changed arm-long m g.to g.calls (omega arith) (omega (arith, order, ending)) (omega (arith, x.low, x.next, order)) (omega arith))

          -- ---- the arm that is written
          module _ (C : List ℕ) (else-first : ℕ) (same : SameWords (cells_of two) C (i + 1) m) (head : head_at (cells_of two) i ≡ head_at C i) where
            head_of : head_at (cells_of two) c ≡ head_at C c
            head_of = by-same c i (λ q. subst (λ (v : ℕ). head_at (cells_of two) v ≡ head_at C v) (sym q) head) (λ f. same.heads c (omega (arith, f, x.low)) (omega (arith, x.next, order)))

            begins-of : (o : Option ℕ) → Opened (cells_of now) i op c o → Begins (ground_of a) a.known.n C o c m
            unfolding Opened Begins
            begins-of none p = tt
            begins-of (some p) q =
                let to_one = same-before p (p + 1) done.outside (omega (arith, q.3, x.next)) in
                let to-mid = same-before p (p + 1) at-then (omega (arith, q.3, x.next)) in
                let to-two = same-before p (p + 1) at-arm (omega (arith, q.3)) in
                let all = same-on (same-on (same-on to_one to-mid) to-two) (same-part (cells_of two) C (i + 1) m p (p + 1) (omega (arith, q.2)) (omega (arith, q.3, x.next, order)) same) in
                record {
                  then-leaves = link-same all p (omega arith) (omega arith) c q.1;
                  word = subst (λ (v : ℕ). RawWord C v c m) q.0 (word_same same c (omega (arith, q.2, q.3)) (omega (arith, x.next, order)) op m (linked-word y.arm_is));
                }

            arm-raw : RawArms (ground_of a) a.known.n C x.rest a.known.S (n + fors_in_list x.b) else-first (some t) m g.last
                → RawArms (ground_of a) a.known.n C (arm x.e x.b x.rest) a.known.S n else-first x.before c g.last
            unfolding RawArms
            arm-raw others =
                let then_same = same-on (same-behind t (t + 1) at-arm (omega (arith, x.next))) (same-part (cells_of two) C (i + 1) m t (t + 1) (omega (arith, x.low, x.next)) (omega (arith, order)) same) in
                record {
                  t = t;
                  y = m;
                  value = sym (ap value_in head_of) ∙ y.arm_is.value-is;
                  term = term-same (ground_of a) a.known.n (cells_of now) C a.known.S x.e (c + 1) t
                      (same-on (same-on (same-on (same-before (c + 1) t done.outside (omega arith)) (same-before (c + 1) t at-then (omega arith))) (same-behind (c + 1) t at-arm (omega arith)))
                      (same-part (cells_of two) C (i + 1) m (c + 1) t (omega (arith, x.low)) (omega (arith, order)) same)) x.term;
                  then-op = op_same then_same t (omega arith) (omega arith) _ y.then_is.op-is;
                  then-value = value_same then_same t (omega arith) (omega arith) _ y.then_is.value-is;
                  list = list_same (ground_of a) a.known.n (cells_of one) C x.b a.known.S n (t + 1) m
                      (same-on (same-on (same-behind (t + 1) m at-then (omega arith)) (same-behind (t + 1) m at-arm (omega (arith, x.next))))
                      (same-part (cells_of two) C (i + 1) m (t + 1) m (omega (arith, x.low, x.next)) (omega arith) same)) done.written;
                  begins = begins-of x.before x.opened;
                  rest = others;
                }

          -- where the IF's word is not that of this arm it is as it was
          head-kept : i < c → head_at (cells_of now) i ≡ head_at (cells_of two) i
          head-kept h = sym (head-before written i h)

          head-if : (o : Option ℕ) → Opened (cells_of now) i op c o → op_at (cells_of two) i ≡ an_if
          unfolding Opened
          head-if none p = subst (λ (v : ℕ). op_at (cells_of two) v ≡ an_if) p.0 (y.arm_is.op-is ∙ p.1)
          head-if (some p) q = ap op_in (head-before written i (omega (arith, q.2, q.3))) ∙ x.head (omega (arith, q.2, q.3))

          place : place_at (cells_of two) i ≡ offset_in a.known.W i
          place = linked-place y.arm_is i ∙ linked-place y.then_is i ∙ ap (λ (v : ℕ). v % link_part) (tail-before done.outside i (omega (arith, x.low, x.next))) ∙ x.place

          kept_on : (C : List ℕ) → SameWords (cells_of two) C (i + 1) m → SameWords (cells_of now) C (i + 1) c
          kept_on C s = same-on (same-before (i + 1) c written (omega arith)) (same-part (cells_of two) C (i + 1) m (i + 1) c (omega arith) (omega (arith, x.next, order)) s)

          left : total ≡ arm_faults a.known.W a.K a.M x.rest a.known.S (n + fors_in_list x.b) ++ else-faults
          unfolding total else-faults
          left = x.faults-are ∙ ap (λ (l : List Fault). l ++ arm_faults a.known.W a.K a.M x.rest a.known.S (n + fors_in_list x.b)
              ++ list_faults a.known.W a.K a.M g.o a.known.S (used + (fors_in_list g.b + fors_in_arms g.rest))) done.none

          module _ (s : ℕ) (es : s ≡ op_at (cells_of two) e) where
            sort-is : sort_in a.known.W m ≡ s
            sort-is = sym (es ∙ ap (op_at (cells_of two)) done.next-is ∙ (next_here.unread.loaded.words m (omega arith) (omega (arith, order, ending))).sort)

            -- ---- ELSE or ENDIF closes it
            module _ (f : s ≡ ELSEIF → ⊥) where
              none_left : (x.rest ≡ no_arm) × (g.last ≡ m)
              none_left = x.is.none_more (λ q. f (sym sort-is ∙ q))

              counted : n + fors_in_list x.b ≡ used + (fors_in_list g.b + fors_in_arms g.rest)
              unfolding fors_in_arms
              counted = let z : fors_in_arms x.rest ≡ 0 = ap fors_in_arms none_left.0 in omega (arith, x.count, z)

              elses : Elses text two values k (n + fors_in_list x.b) m
              elses = record {
                to = g.to;
                around = a;
                here = next_here;
                d = g.d;
                o = g.o;
                z = g.z;
                is = subst (λ (v : ℕ). ElseAt (sort_in a.known.W) (Parses (sort_in a.known.W)) g.d g.o v g.z) none_left.1 g.otherwise;
                ends = g.ends;
                after = g.after;
                room = omega (arith, counted, g.room);
              }

              pub arm-elses : Elses text two values'' k u.used e
              arm-elses =
                  elses-as done.same (subst (λ (v : ℕ). Elses text two values k v e) (sym done.used-is) (subst (λ (v : ℕ). Elses text two values k (n + fors_in_list x.b) v) (sym done.next-is) elses))

              remain : total ≡ else-faults
              unfolding arm_faults
              remain = left ∙ ap (λ (r : Arms). arm_faults a.known.W a.K a.M r a.known.S (n + fors_in_list x.b) ++ else-faults) none_left.0

              module _ (three values''' : List ℕ) (r2 : Walked) (el : Elsed text two values'' three values''' k u.used e r2) where
                last-answer : Answer (list_faults a.known.W a.K a.M g.o a.known.S (n + fors_in_list x.b)) two three values values''' m g.to (n + fors_in_list x.b + fors_in_list g.o)
                    (ElseWritten (sort_in a.known.W)
                    (λ (first : ℕ). RawElse (ground_of a) a.known.n (cells_of three) (λ (x2 y2 : ℕ). RawList (ground_of a) a.known.n (cells_of three) g.o a.known.S (n + fors_in_list x.b) x2 y2) m first g.to) m) r2
                unfolding elses ground_of
                last-answer =
                    answer-as done.same _ _ _ _ _ _ _ _ r2
                    ((subst (λ (v : ℕ). Elsed text two values'' three values''' k v m r2) done.used-is (subst (λ (v : ℕ). Elsed text two values'' three values''' k u.used v r2) done.next-is el)).is (elses-as done.same elses))

                else-wrong : (broken : Breach) → r2 ≡ Err broken → ForIf three values''' (Err broken)
                unfolding total else-faults
                else-wrong broken q2 =
                    first-answer _ _ _ _ _ _ _ _ broken _
                    (subst (First (as_fault broken)) (sym remain)
                    (subst (λ (v : ℕ). First (as_fault broken) (list_faults a.known.W a.K a.M g.o a.known.S v)) counted (faulty-first r2 last-answer broken q2)))
                    (last-answer.long ∙ arm-long)

                module _ (z : ℕ) (v : Scope) (q2 : r2 ≡ Ok (z, v)) where
                  ends : Done (list_faults a.known.W a.K a.M g.o a.known.S (n + fors_in_list x.b)) two three values values''' m g.to (n + fors_in_list x.b + fors_in_list g.o) z v.used
                      (ElseWritten (sort_in a.known.W)
                      (λ (first : ℕ). RawElse (ground_of a) a.known.n (cells_of three) (λ (x2 y2 : ℕ). RawList (ground_of a) a.known.n (cells_of three) g.o a.known.S (n + fors_in_list x.b) x2 y2) m first g.to) m)
                  ends = upto_done r2 last-answer z v q2

                  pub arm-ends : (i * 8 + 8 ≤ length three) × (z < link_part)
                  arm-ends = (omega (arith, last-answer.long, arm-long, g.calls.room, x.low, x.next, order, ending), omega (arith, ends.next-is, ending))

                  module _ (four : List ℕ) (l2 : Linked three four i (op_at (cells_of three) i) (value_at (cells_of three) i) z) where
                    at-if : Outside (cells_of three) (cells_of four) i (i + 1)
                    at-if = linked-outside l2

                    to-three : SameWords (cells_of two) (cells_of three) (i + 1) m
                    to-three = same-before (i + 1) m ends.outside (omega arith)

                    to-four : SameWords (cells_of two) (cells_of four) (i + 1) m
                    to-four = same-on to-three (same-behind (i + 1) m at-if (omega arith))

                    head_three : head_at (cells_of three) i ≡ head_at (cells_of two) i
                    head_three = head-before ends.outside i (omega (arith, x.low, x.next, order))

                    same_head : (p q3 : ℕ) → p % 256 ≡ q3 % 256 → p / 256 ≡ q3 / 256 → p ≡ q3
                    same_head p q3 d1 d2 = omega arith

                    head-four : head_at (cells_of two) i ≡ head_at (cells_of four) i
                    head-four = sym head_three ∙ sym (same_head (head_at (cells_of four) i) (head_at (cells_of three) i) l2.op-is l2.value-is)

                    first-is : (y.link ≡ ends.written.first)
                    first-is =
                        by-same (sort_in a.known.W m) ELSE
                        (λ w. y.behind.at-else (sort-one ∙ w) ∙ sym (ends.written.at-else w))
                        (λ w. y.behind.elsewhere (λ w2. w (sym sort-one ∙ w2)) ∙ sym (ends.written.elsewhere w))
                      where
                        sort-one : op_at (cells_of one) m ≡ sort_in a.known.W m
                        sort-one = ap op_in (head-behind done.outside m (omega arith)) ∙ (x.here.unread.loaded.words m (omega (arith, order)) (omega (arith, order, ending))).sort

                    then-link : link_at (cells_of four) t ≡ ends.written.first
                    then-link =
                        link-same (same-on (same-behind t (t + 1) at-arm (omega (arith, x.next))) (same-part (cells_of two) (cells_of four) (i + 1) m t (t + 1) (omega (arith, x.low, x.next)) (omega (arith, order)) to-four))
                        t (omega arith) (omega arith) _ (y.then_is.link-is ∙ first-is)

                    no_more : RawArms (ground_of a) a.known.n (cells_of four) x.rest a.known.S (n + fors_in_list x.b) ends.written.first (some t) m g.last
                    unfolding RawArms NoMore
                    no_more =
                        subst (λ (r3 : Arms). RawArms (ground_of a) a.known.n (cells_of four) r3 a.known.S (n + fors_in_list x.b) ends.written.first (some t) m g.last) (sym none_left.0)
                        (record { is_last = sym none_left.1; then-leaves = then-link })

                    else_same : RawElse (ground_of a) a.known.n (cells_of four) (λ (x2 y2 : ℕ). RawList (ground_of a) a.known.n (cells_of four) g.o a.known.S (n + fors_in_list x.b) x2 y2) m ends.written.first g.to
                    else_same =
                        let w = ends.written.is in
                        let r3 = last-order (ground_of a) a.known.n (cells_of three) m ends.written.first w.z w.begins in
                        let o3 = list-order (ground_of a) a.known.n (cells_of three) g.o a.known.S (n + fors_in_list x.b) ends.written.first w.z w.list in
                        let s3 = same-behind m (w.z + 1) at-if (omega (arith, x.low, x.next, order)) in
                        record {
                          z = w.z;
                          begins = last-same w.begins s3 o3 r3;
                          list = list_same (ground_of a) a.known.n (cells_of three) (cells_of four) g.o a.known.S (n + fors_in_list x.b) ends.written.first w.z
                              (same-behind ends.written.first w.z at-if (omega (arith, x.low, x.next, order))) w.list;
                          word = word_same s3 w.z (omega arith) (omega arith) _ g.to w.word;
                          end = w.end;
                        }
                      where
                        last-same : {z3 : ℕ} → LastOf (cells_of three) m ends.written.first z3 → SameWords (cells_of three) (cells_of four) m (z3 + 1) → ends.written.first ≤ z3 → m ≤ ends.written.first → LastOf (cells_of four) m ends.written.first z3
                        last-same {z3} (an-else w3 e3) s3 o3 r3 = an-else (word_same s3 m (omega arith) (omega arith) _ z3 w3) e3
                        last-same (no-else d3 e3) s3 o3 r3 = no-else d3 e3

                    finished : ForIf four values''' (Ok (z, v))
                    unfolding RawStatement total else-faults ground_of fors_in_arms
                    finished =
                        done-answer _ _ _ _ _ _ _ _ _ _ _
                        (record {
                          none = remain ∙ ap (λ (u3 : ℕ). list_faults a.known.W a.K a.M g.o a.known.S u3) (sym counted) ∙ ends.none;
                          next-is = ends.next-is;
                          used-is = omega (arith, ends.used-is, counted);
                          few = ends.few;
                          written = record {
                            head = record {
                              first = refl;
                              place = l2.place_is ∙ ap (λ (w : ℕ). w % link_part) (tail-before ends.outside i (omega (arith, x.low, x.next, order))) ∙ place;
                              word = record { is = l2.op-is ∙ ap op_in head_three ∙ head-if x.before x.opened; leaves = l2.link-is ∙ ends.next-is };
                            };
                            last = g.last;
                            first = ends.written.first;
                            arms-are = x.on (cells_of four) ends.written.first (kept_on (cells_of four) to-four) (λ h. head-kept h ∙ head-four)
                                (arm-raw (cells_of four) ends.written.first to-four head-four no_more);
                            otherwise-is = subst (λ (c3 : ℕ). RawElse (ground_of a) a.known.n (cells_of four)
                                (λ (x2 y2 : ℕ). RawList (ground_of a) a.known.n (cells_of four) g.o a.known.S (used + (fors_in_list g.b + fors_in_arms g.rest)) x2 y2) c3 ends.written.first g.to)
                                (sym none_left.1)
                                (subst (λ (u3 : ℕ). RawElse (ground_of a) a.known.n (cells_of four) (λ (x2 y2 : ℕ). RawList (ground_of a) a.known.n (cells_of four) g.o a.known.S u3 x2 y2) m ends.written.first g.to) counted else_same);
                          };
                          outside = outside-on (outside-on (outside_wider i g.to changed (omega arith) (omega (arith, order, ending))) (outside_wider i g.to ends.outside (omega (arith, x.low, x.next, order)) (omega arith)))
                              (outside_wider i g.to at-if (omega arith) (omega (arith, x.low, x.next, order, ending)));
                          same = ends.same;
                        })
                        (l2.kept.long ∙ last-answer.long ∙ arm-long)

            -- ---- ELSEIF closes it: the next arm
            module _ (h : s ≡ ELSEIF) where
              f : FirstArm (sort_in a.known.W) (Parses (sort_in a.known.W)) g.d x.rest (m + 1) g.last
              f = arms-first (sort_in a.known.W) (Parses (sort_in a.known.W)) (x.is.more (sort-is ∙ h))

              then_is : ThenAt (sort_in a.known.W) g.d f.b f.rest f.n g.last
              then_is = record { then_word = f.then_word; m = f.m; list = f.list; more = f.more; none_more = f.last }

              next-order : (f.n + 1 ≤ f.m) × (f.m ≤ g.last)
              unfolding f then_is
              next-order = then-order a.known.W g.d f.b f.rest f.n g.last then_is

              next-in : (v : ℕ) → Inside f.m g.last (arm_faults a.known.W a.K a.M f.rest a.known.S v)
              unfolding f then_is
              next-in v = rest-inside a.known.W g.d f.b f.rest f.n g.last then_is a.K a.M a.known.S v

              spans : m + 1 < f.n
              spans = grows a.known.W _ _ _ _ f.condition

              no-operator : level_of (sort_in a.known.W f.n) ≡ 0
              unfolding level_of
              no-operator = ap level_of f.then_word

              condition : expressions.Stands two values 5 (m + 1)
              condition = expression-stands text two values a k (n + fors_in_list x.b) m g.to next_here f.e (m + 1) f.n f.condition no-operator (omega arith) (omega (arith, next-order, ending))

              pub arm-condition : expressions.Stands two values'' 5 (e + 1)
              arm-condition =
                  expression-as done.same (subst (λ (v : ℕ). expressions.Stands two values 5 (v + 1)) (sym done.next-is) condition)

              in-arm : arm_faults a.known.W a.K a.M x.rest a.known.S (n + fors_in_list x.b)
                  ≡ of_type a.known.W a_bool a.known.S f.e ++ list_faults a.known.W a.K a.M f.b a.known.S (n + fors_in_list x.b)
                  ++ arm_faults a.known.W a.K a.M f.rest a.known.S (n + fors_in_list x.b + fors_in_list f.b)
              unfolding arm_faults
              in-arm = ap (λ (r2 : Arms). arm_faults a.known.W a.K a.M r2 a.known.S (n + fors_in_list x.b)) f.is

              module _ (three : List ℕ) (j : Judged) (o2 : Typed two values'' three false Bool (e + 1) j) where
                o3 : Typed two values three false Bool (m + 1) j
                o3 = of-type-as done.same (subst (λ (v : ℕ). Typed two values'' three false Bool (v + 1) j) done.next-is o2)

                condition-wrong : (broken : Breach) → j ≡ Err broken → ForIf three values'' (Err broken)
                unfolding total else-faults
                condition-wrong broken q2 =
                    let c2 = judged-faulty text two values a k (n + fors_in_list x.b) m g.to next_here f.e (m + 1) f.n f.condition no-operator (omega arith) (omega (arith, next-order, ending)) three Bool a_bool refl j o3 broken q2 in
                    let i1 = of-type-inside a.known.W _ _ _ _ f.condition a_bool a.known.S in
                    let i2 = list_inside a.known.W a.K a.M f.list a.known.S (n + fors_in_list x.b) in
                    let i3 = next-in (n + fors_in_list x.b + fors_in_list f.b) in
                    let f1 = first-before c2 i1 i2 (omega arith) in
                    let i4 = inside_both i1 i2 (omega (arith, spans)) (omega (arith, next-order)) in
                    let f2 = first-before f1 i4 i3 (omega arith) in
                    let i5 = inside_both i4 i3 (omega (arith, spans, next-order)) (omega (arith, next-order)) in
                    let f3 = first-before f2 i5 else-in (omega arith) in
                    first-answer _ _ _ _ _ _ _ _ broken _
                    (subst (First (as_fault broken)) (sym (left ∙ ap (λ (l2 : List Fault). l2 ++ else-faults) in-arm)) f3)
                    (judged-long text two values a k (n + fors_in_list x.b) m g.to next_here f.e (m + 1) f.n f.condition no-operator (omega arith) (omega (arith, next-order, ending)) three Bool a_bool refl j o3 ∙ arm-long)

                module _ (type : ValueType) (m2 : ℕ) (q2 : j ≡ Ok (type, m2)) where
                  then_at : m2 ≡ f.n
                  then_at = judged-next text two values a k (n + fors_in_list x.b) m g.to next_here f.e (m + 1) f.n f.condition no-operator (omega arith) (omega (arith, next-order, ending)) three Bool a_bool refl j o3 type m2 q2

                  fine : of_type a.known.W a_bool a.known.S f.e ≡ []
                  fine = judged-none text two values a k (n + fors_in_list x.b) m g.to next_here f.e (m + 1) f.n f.condition no-operator (omega arith) (omega (arith, next-order, ending)) three Bool a_bool refl j o3 type m2 q2

                  new_term : RawTerm (ground_of a) a.known.n (cells_of three) a.known.S f.e (m + 1) f.n
                  new_term = judged-term text two values a k (n + fors_in_list x.b) m g.to next_here f.e (m + 1) f.n f.condition no-operator (omega arith) (omega (arith, next-order, ending)) three Bool a_bool refl j o3 type m2 q2

                  kept : Kept two three (m + 1) f.n
                  kept = judged-kept text two values a k (n + fors_in_list x.b) m g.to next_here f.e (m + 1) f.n f.condition no-operator (omega arith) (omega (arith, next-order, ending)) three Bool a_bool refl j o3 type m2 q2

                  three-is : Outside (cells_of two) (cells_of three) (m + 1) f.n
                  three-is = kept-outside kept

                  pub arm-less : word_limit - m2 < word_limit - t
                  arm-less = omega (arith, then_at, spans, order, next-order, ending)

                  new-faults : total ≡ list_faults a.known.W a.K a.M f.b a.known.S (n + fors_in_list x.b)
                      ++ arm_faults a.known.W a.K a.M f.rest a.known.S (n + fors_in_list x.b + fors_in_list f.b) ++ else-faults
                  new-faults =
                      left ∙ ap (λ (l2 : List Fault). l2 ++ else-faults) (in-arm ∙ ap (λ (l3 : List Fault). l3 ++ list_faults a.known.W a.K a.M f.b a.known.S (n + fors_in_list x.b)
                      ++ arm_faults a.known.W a.K a.M f.rest a.known.S (n + fors_in_list x.b + fors_in_list f.b)) fine)

                  new-count : n + fors_in_list x.b + (fors_in_list f.b + fors_in_arms f.rest) ≡ used + (fors_in_list g.b + fors_in_arms g.rest)
                  unfolding fors_in_arms
                  new-count = let z : fors_in_arms x.rest ≡ fors_in_list f.b + fors_in_arms f.rest = ap fors_in_arms f.is in omega (arith, x.count, z)

                  goes : Arming g three values'' an_else_if m f.n (n + fors_in_list x.b)
                  unfolding Opened total else-faults
                  goes = record {
                    same = done.same;
                    e = f.e;
                    b = f.b;
                    rest = f.rest;
                    is = then_is;
                    here = here_on a two three k (n + fors_in_list x.b) m g.to (n + fors_in_list x.b) f.n g.to next_here three-is kept.long (omega arith) next_here.few
                        (omega arith) (omega (arith, next-order, ending)) (omega (arith, spans)) (omega arith) (omega arith);
                    term = new_term;
                    low = omega (arith, x.low, x.next, order);
                    next = omega (arith, spans);
                    before = some t;
                    opened = (
                      refl,
                      link-same (same-on (same-behind t (t + 1) at-arm (omega (arith, x.next))) (same-before t (t + 1) three-is (omega (arith, order)))) t (omega arith) (omega arith) _
                          (y.then_is.link-is ∙ y.behind.elsewhere (λ q3. omega (arith, q3, sort-one, sort-is, h))),
                      omega (arith, x.low, x.next),
                      omega (arith, order),
                    );
                    head = λ _. ap op_in (head-before three-is i (omega (arith, x.low, x.next, order))) ∙ head-if x.before x.opened;
                    faults-are = new-faults;
                    count = new-count;
                    later = omega (arith, x.later, spans, order);
                    outside = outside-on (outside_wider i f.n changed (omega arith) (omega (arith, spans))) (outside_wider i f.n three-is (omega (arith, x.low, x.next, order)) (omega arith));
                    place = place-below kept i (omega (arith, x.low, x.next, order)) ∙ place;
                    long = kept.long ∙ arm-long;
                    on = λ C ef s3 h3 others.
                        let h4 = sym (head-before three-is i (omega (arith, x.low, x.next, order))) ∙ h3 (omega (arith, x.low, x.next, order)) in
                        let s4 = same-on (same-before (i + 1) m three-is (omega arith)) s3 in
                        x.on C ef (kept_on C s4) (λ h5. head-kept h5 ∙ h4)
                        (arm-raw C ef s4 h4 (subst (λ (r3 : Arms). RawArms (ground_of a) a.known.n C r3 a.known.S (n + fors_in_list x.b) ef (some t) m g.last) (sym f.is) others));
                  }
                    where
                      sort-one : op_at (cells_of one) m ≡ sort_in a.known.W m
                      sort-one = ap op_in (head-behind done.outside m (omega arith)) ∙ (x.here.unread.loaded.words m (omega (arith, order)) (omega (arith, order, ending))).sort

                  goes-on : Arming g three values'' an_else_if e m2 u.used
                  goes-on =
                      subst (λ (v : ℕ). Arming g three values'' an_else_if e m2 v) (sym done.used-is)
                      (subst (λ (v : ℕ). Arming g three values'' an_else_if e v (n + fors_in_list x.b)) (sym then_at) (subst (λ (v : ℕ). Arming g three values'' an_else_if v f.n (n + fors_in_list x.b)) (sym done.next-is) goes))

  -- ---- for whatever the statement is
  module _ (one values'' : List ℕ) (r : Walked) (l : Listed text now values' one values'' k n (t + 1) r) where
    pub arm-list-wrong : (broken : Breach) → r ≡ Err broken → Thened text code values one values'' k used i first (Err broken)
    arm-list-wrong broken q = record { is = λ g. list-wrong g one values'' r l broken q }

    module _ (e : ℕ) (u : Scope) (q : r ≡ Ok (e, u)) (two : List ℕ) (ended : ArmEnded one two op c t e) (s : ℕ) (es : s ≡ op_at (cells_of two) e) where
      module _ (f : s ≡ ELSEIF → ⊥) (three values''' : List ℕ) (r2 : Walked) (el : Elsed text two values'' three values''' k u.used e r2) where
        pub arm-else-wrong : (broken : Breach) → r2 ≡ Err broken → Thened text code values three values''' k used i first (Err broken)
        arm-else-wrong broken q2 = record { is = λ g. else-wrong g one values'' r l e u q two ended s es f three values''' r2 el broken q2 }

        pub arms-finished : (z : ℕ) (v : Scope) → r2 ≡ Ok (z, v) → (four : List ℕ) → Linked three four i (op_at (cells_of three) i) (value_at (cells_of three) i) z → Thened text code values four values''' k used i first (Ok (z, v))
        arms-finished z v q2 four l2 = record { is = λ g. finished g one values'' r l e u q two ended s es f three values''' r2 el z v q2 four l2 }

      module _ (h : s ≡ ELSEIF) (three : List ℕ) (j : Judged) (o2 : Typed two values'' three false Bool (e + 1) j) where
        pub arm-wrong : (broken : Breach) → j ≡ Err broken → Thened text code values three values'' k used i first (Err broken)
        arm-wrong broken q2 = record { is = λ g. condition-wrong g one values'' r l e u q two ended s es h three j o2 broken q2 }

        pub arms-go : (type : ValueType) (m2 : ℕ) → j ≡ Ok (type, m2) → Armings text code values k used i first three values'' an_else_if e m2 u.used
        arms-go type m2 q2 = record { is = λ g. goes-on g one values'' r l e u q two ended s es h three j o2 type m2 q2 }
