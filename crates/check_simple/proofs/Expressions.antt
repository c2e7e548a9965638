-- An expression in a statement: that it stands, and what is told of it.
use mathlib.Core.Path.{◌≡◌, refl, sym, ap, subst, ◌∙◌}
use mathlib.Core.Bool.{false}
use mathlib.Core.List.{List, []}
use mathlib.Core.Option.{some}
use Prim.Native.Nat.{ℕ, suc, ◌+◌, ◌-◌, ◌*◌, ◌<◌, ◌≤◌}
use native.Mathlib.Omega.{arith}
use lib.ListN.{length}
use Rattle.paper.specs.Sorts.{comma, semicolon, close_paren, close_brace}
use Rattle.paper.specs.Trees.{Expr, first}
use Rattle.paper.specs.Expressions.{level_of, nestings, disjunctions}
use Rattle.paper.specs.Names.{DataType, sort_in}
use Rattle.paper.specs.Types.{Fault, judge, of_type, term_of}
use Rattle.paper.specs.Types as types
use Rattle.store_cells.specs.Cells.{cells_of}
use Rattle.code.specs.Cells.{op_in, op_at, value_at}
use Rattle.code.specs.Spans.{term_in}
use Rattle.climb.proofs.Operands.{deeper}
use Rattle.grammar.specs.Form.{Parses}
use Rattle.check_expressions.specs.Judgements.{Judged}
use Rattle.std.specs.Prelude.{Ok, Err}
use Rattle.layout.specs.Broken.{as_fault}
use Rattle.layout.specs.declared.rules.Breach.{Breach}
use Rattle.check_expressions.specs.Known.{Loaded, Known}
use Rattle.store_writing.specs.Promises.{Kept, Linked}
use Rattle.check_expressions.specs.Answers.{Judges, Typed}
use Rattle.check_expressions.specs.Answers as expressions
use Rattle.store_writing.proofs.Keeping.{head-below, head-above, place-below, linked-place, kept-wider, kept_on, term-above}
use Rattle.check_expressions.proofs.Around.{says_typed, says-faulty}
use Rattle.faults.specs.First.{First}
use Rattle.faults.proofs.Expressions.{grows, of-type-first}
use Rattle.check_links.specs.Resolved.{is_led}
use Rattle.check_links.specs.Raw.{Quiet, RawTerm}
use Rattle.check_links.proofs.Ops.{quiet-low}
use Rattle.check_around.specs.Around.{Around, ground_of}
use Rattle.check_around.specs.Answers.{Stepped, Answer, Fine, Tell}
use Rattle.check_simple.specs.Parts.{Values, Valued}
use Rattle.code.specs.Steps.{a_target}
use Rattle.layout.specs.Types.{type_in}
use Rattle.layout.specs.declared.types.ValueType.{ValueType}
use Rattle.paper.specs.Words.{word_limit}

-- ---- no operator follows
pub no-operator : (s k : ℕ) → s ≡ k → level_of k ≡ 0 → level_of s ≡ 0
no-operator s k e h = ap level_of e ∙ h

pub level-semicolon : level_of semicolon ≡ 0
unfolding level_of
level-semicolon = refl

pub level-comma : level_of comma ≡ 0
unfolding level_of
level-comma = refl

pub level-paren : level_of close_paren ≡ 0
unfolding level_of
level-paren = refl

pub level-brace : level_of close_brace ≡ 0
unfolding level_of
level-brace = refl

-- ---- words that lead nowhere
module _ {before after : List ℕ} {a b : ℕ} (k : Kept before after a b) where
  pub quiet-below : (from to : ℕ) → to ≤ a → Quiet (cells_of before) from to → Quiet (cells_of after) from to
  quiet-below from to h q i l g = ap (λ (w : ℕ). is_led (op_in w)) (head-below k i (omega arith)) ∙ q i l g

  pub quiet-above : (from to : ℕ) → b ≤ from → Quiet (cells_of before) from to → Quiet (cells_of after) from to
  quiet-above from to h q i l g = ap (λ (w : ℕ). is_led (op_in w)) (head-above k i (omega arith)) ∙ q i l g

-- ---- what is told of an expression with these faults
pub record Told {values : List ℕ} (k : Known values) (fs : List Fault) (before after : List ℕ) (e : Expr) (at to next : ℕ) : Type 0 where
  pub none : fs ≡ []
  pub next-is : next ≡ to
  pub term : term_in k.m k.n (cells_of after) at to ≡ some (term_of k.W k.S e)
  pub kept : Kept before after at to
  pub quiet : Quiet (cells_of after) at to

module _ {code values : List ℕ} (k : Known values) (sorts : (i : ℕ) → sort_in k.W i < a_target) (d at : ℕ) (e : Expr) (to : ℕ) (p : Parses (sort_in k.W) d at e to) (l : Loaded k.W code at to)
    (no : level_of (sort_in k.W to) ≡ 0) (deep : d ≤ suc nestings) where
  unfoldable pub asks : expressions.Stands code values disjunctions at
  asks = record {
    known = k;
    d = d - 1;
    e = e;
    to = to;
    tops = omega arith;
    deep = omega (arith, deep);
    is = (deeper (sort_in k.W) d at (e, to) p).is;
    ends = λ h. absurd (omega (arith, no, h));
    loaded = l;
  }

  low-before : (i : ℕ) → at ≤ i → i < to → op_at (cells_of code) i < a_target
  low-before i h g = subst (λ (o : ℕ). o < a_target) (sym (l.words i h (omega arith)).sort) (sorts i)

  module _ (after : List ℕ) (t : DataType) (j : types.Judged) (q : j.faults ≡ of_type k.W t k.S e) (x : j.term ≡ term_of k.W k.S e) (r : Judged) (h : Judges k.m k.n code after at to j r) where
    pub told : (b : ValueType) (next : ℕ) → r ≡ Ok (b, next) → Told k (of_type k.W t k.S e) code after e at to next
    told b next z =
        let s = says_typed k.m k.n (cells_of after) at to j r b next z h.says in
        record {
          none = sym q ∙ s.none;
          next-is = s.next-is;
          term = s.stands ∙ ap some x;
          kept = h.kept;
          quiet = quiet-low (cells_of after) at to (λ i g m. h.low.stays i (low-before i g m));
        }

    pub told-first : (broken : Breach) → r ≡ Err broken → First (as_fault broken) (of_type k.W t k.S e)
    told-first broken z =
        let s = says-faulty k.m k.n (cells_of after) at to j r broken z h.says in
        of-type-first k.W d at e to p (as_fault broken) s.others t k.S (sym q ∙ s.faults-are)

  -- the same of one that has to be of a type
  module _ (after : List ℕ) (wants : ValueType) (t : DataType) (w : type_in wants ≡ t) (r : Judged) (o : Typed code values after false wants at r) where
    typed-faults : (expressions.of_type t (first e) (judge k.W false k.S e)).faults ≡ of_type k.W t k.S e
    unfolding of_type
    typed-faults = refl

    typed-term : (expressions.of_type t (first e) (judge k.W false k.S e)).term ≡ term_of k.W k.S e
    unfolding term_of
    typed-term = refl

    pub typed-told : (b : ValueType) (next : ℕ) → r ≡ Ok (b, next) → Told k (of_type k.W t k.S e) code after e at to next
    unfolding asks
    typed-told b next z = told after t (expressions.of_type t (first e) (judge k.W false k.S e)) typed-faults typed-term r (o.is asks t w) b next z

    pub typed-first : (broken : Breach) → r ≡ Err broken → First (as_fault broken) (of_type k.W t k.S e)
    unfolding asks
    typed-first broken z = told-first after t (expressions.of_type t (first e) (judge k.W false k.S e)) typed-faults typed-term r (o.is asks t w) broken z

    pub typed_long : length after ≡ length code
    unfolding asks
    typed_long = (o.is asks t w).kept.long

-- ---- answers by their cases
pub answer-first : (fs : List Fault) (before after : List ℕ) (at to : ℕ) (holds : Type 0) (r : Stepped) (broken : Breach) → r ≡ Err broken → length after ≡ length before
    → First (as_fault broken) fs → Answer fs before after at to holds r
unfolding Tell
answer-first fs before after at to holds r broken e long f = subst (Answer fs before after at to holds) (sym e) (record { tells = f; long = long })

pub answer-fine : (fs : List Fault) (before after : List ℕ) (at to : ℕ) (holds : Type 0) (next : ℕ) → Fine fs before after at to next holds → Answer fs before after at to holds (Ok next)
unfolding Tell
answer-fine fs before after at to holds next f = record { tells = f; long = f.kept.long }

module _ (fs : List Fault) (before after : List ℕ) (at to : ℕ) (holds : Type 0) (r : Stepped) (a : Answer fs before after at to holds r) where
  pub answered-fine : (next : ℕ) → r ≡ Ok next → Fine fs before after at to next holds
  unfolding Tell
  answered-fine next e = subst (Tell fs before after at to holds) e a.tells

  pub answered-first : (broken : Breach) → r ≡ Err broken → First (as_fault broken) fs
  unfolding Tell
  answered-first broken e = subst (Tell fs before after at to holds) e a.tells

-- ---- a statement with a value
module _ (code values : List ℕ) (from i : ℕ) (g : Values code values from i) where
  pub values-stands : expressions.Stands code values disjunctions from
  values-stands = asks g.around.known g.around.sorts (suc nestings) from g.e g.to g.value g.loaded (no-operator _ _ g.ends level-semicolon) (omega arith)

  values-grow : from < g.to
  values-grow = grows g.around.known.W (suc nestings) from g.e g.to g.value

  module _ (mid : List ℕ) (wants : ValueType) (t : DataType) (w : type_in wants ≡ t) (r : Judged) (o : Typed code values mid false wants from r) where
    values-told : (b : ValueType) (end : ℕ) → r ≡ Ok (b, end) → Told g.around.known (of_type g.around.known.W t g.around.known.S g.e) code mid g.e from g.to end
    values-told = typed-told g.around.known g.around.sorts (suc nestings) from g.e g.to g.value g.loaded (no-operator _ _ g.ends level-semicolon) (omega arith) mid wants t w r o

    pub values-room : i * 8 + 8 ≤ length mid
    values-room =
        omega (arith, typed_long g.around.known g.around.sorts (suc nestings) from g.e g.to g.value g.loaded (no-operator _ _ g.ends level-semicolon) (omega arith) mid wants t w r o, g.loaded.room, g.before, values-grow)

    pub values-end : (b : ValueType) (end : ℕ) → r ≡ Ok (b, end) → end < word_limit
    values-end b end e = omega (arith, (values-told b end e).next-is, g.loaded.last)

-- a term that is told of, as the links know it
pub raw-term : {text values : List ℕ} (a : Around text values) (fs : List Fault) (before after : List ℕ) (e : Expr) (at to next : ℕ) → Told a.known fs before after e at to next
    → RawTerm (ground_of a) a.known.n (cells_of after) a.known.S e at to
unfolding ground_of
raw-term a fs before after e at to next t = record { is = t.term; quiet = t.quiet }

-- and still so after a word before it is written
pub raw-term-after : {text values : List ℕ} (a : Around text values) (mid after : List ℕ) (e : Expr) (at to x y : ℕ) → Kept mid after x y → y ≤ at
    → RawTerm (ground_of a) a.known.n (cells_of mid) a.known.S e at to → RawTerm (ground_of a) a.known.n (cells_of after) a.known.S e at to
unfolding ground_of
raw-term-after a mid after e at to x y k h t = record {
  is = term-above k a.known.m a.known.n at to (term_of a.known.W a.known.S e) h t.is;
  quiet = quiet-above k at to h t.quiet;
}

pub valued-faulty : (code values after : List ℕ) (op : ℕ) (wants : ValueType) (from i : ℕ) (r : Judged) → Typed code values after false wants from r → (broken : Breach) → r ≡ Err broken
    → Valued code values after op wants from i (Err broken)
valued-faulty code values after op wants from i r o broken e = record {
  is = λ g u w.
      let no = no-operator _ _ g.ends level-semicolon in
      answer-first _ code after i (g.to + 1) _ (Err broken) broken refl
      (typed_long g.around.known g.around.sorts (suc nestings) from g.e g.to g.value g.loaded no (omega arith) after wants u w r o)
      (typed-first g.around.known g.around.sorts (suc nestings) from g.e g.to g.value g.loaded no (omega arith) after wants u w r o broken e);
}

pub valued-typed : (code values mid after : List ℕ) (op : ℕ) (wants : ValueType) (from i : ℕ) (r : Judged) → Typed code values mid false wants from r → (b : ValueType) (end : ℕ) → r ≡ Ok (b, end)
    → Linked mid after i op end (end + 1) → Valued code values after op wants from i (Ok (end + 1))
valued-typed code values mid after op wants from i r o b end e l = record {
  is = λ g u w.
      let t = values-told code values from i g mid wants u w r o b end e in
      let grow = values-grow code values from i g in
      let v : g.to ≡ value_at (cells_of after) i = sym (l.value-is ∙ t.next-is) in
      answer-fine _ code after i (g.to + 1) _ (end + 1) (record {
        none = t.none;
        next-is = ap (λ (x : ℕ). x + 1) t.next-is;
        written = record {
          raw = record {
            word = record { is = l.op-is; leaves = l.link-is ∙ ap (λ (x : ℕ). x + 1) t.next-is };
            term = subst (λ (z : ℕ). RawTerm (ground_of g.around) g.around.known.n (cells_of after) g.around.known.S g.e from z) v
                (raw-term-after g.around mid after g.e from g.to i (i + 1) l.kept (omega (arith, g.before)) (raw-term g.around _ code mid g.e from g.to end t));
            within = omega (arith, v);
          };
          between = λ k x y. head-above l.kept k (omega arith) ∙ head-below t.kept k y;
          places = λ k x y. linked-place l k ∙ place-below t.kept k y;
        };
        kept = kept_on (kept-wider t.kept i (g.to + 1) (omega (arith, g.before)) (omega arith)) (kept-wider l.kept i (g.to + 1) (omega arith) (omega (arith, g.before, grow)));
      });
}
