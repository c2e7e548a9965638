-- The values of a CASE are worked out one by one.
use mathlib.Core.Path.{◌≡◌, refl, sym, ap, subst, ◌∙◌}
use mathlib.Core.List.{List, [], ◌∷◌, ◌++◌}
use Prim.Native.Nat.{ℕ, suc, ◌+◌, ◌*◌, ◌<◌, ◌≤◌}
use native.Mathlib.Omega.{arith}
use lib.ListN.{length}
use lib.IntN.{ℤ, pos, ◌-ℤ◌}
use Rattle.laws.proofs.Tests.{by-same}
use Rattle.store_cells.specs.Cells.{cells_of}
use Rattle.climb.proofs.Operands.{deeper}
use Rattle.paper.specs.Sorts.{comma}
use Rattle.paper.specs.Words.{Word, word_limit}
use Rattle.paper.specs.Terms.{Memory}
use Rattle.paper.specs.Trees.{Expr}
use Rattle.paper.specs.Expressions.{nestings, level_of}
use Rattle.paper.specs.Names.{a_num, Scopes, sort_in}
use Rattle.paper.specs.Types.{Fault, constant_faults, constant_value, raises_error}
use Rattle.paper.specs.Checks.{case_faults}
use Rattle.code.specs.Cells.{op_at, value_at}
use Rattle.code.specs.Spans.{bias}
use Rattle.code.specs.Steps.{constant_at, a_case, a_next_value}
use Rattle.grammar.specs.Form.{Parses, ExprAt, ExprsAt, SeparatedAt}
use Rattle.grammar.proofs.Inversions.{FirstOf, separated_first}
use Rattle.grammar.proofs.Places.{separated-grows}
use Rattle.std.specs.Prelude.{Ok, Err}
use Rattle.layout.specs.Broken.{as_fault}
use Rattle.layout.specs.declared.rules.Breach.{Breach}
use Rattle.store_writing.specs.Promises.{Kept, Linked}
use Rattle.store_writing.proofs.Keeping.{kept_same, kept-wider, kept_on}
use Rattle.check_constants.specs.Sizing.{Valued}
use Rattle.check_constants.specs.Answers.{HeldAs, InNum, Asks, Right, Says, Values}
use Rattle.faults.specs.First.{First, Inside}
use Rattle.faults.proofs.First.{widen, every-none, first-before, nothing-in-both}
use Rattle.faults.proofs.Expressions.{grows, constant-inside}
use Rattle.faults.proofs.Statements.{case-inside}
use Rattle.check_around.specs.Answers as answered
use Rattle.check_around.specs.Around.{Around}
use Rattle.check_compounds.specs.Here.{Outside, Here}
use Rattle.check_compounds.specs.Parts.{Chain, CaseChain, CaseValues, CaseValued}
use Rattle.check_compounds.proofs.Frames.{outside_wider, outside-on, kept-outside, same-before, here_on, op_same, value_same, link-same, linked-outside}
use Rattle.check_compounds.proofs.AnswerShapes.{fine-answer, found-answer}
use Rattle.layout.specs.declared.types.ValueType.TheVariants.{Num}

-- the value at w and those behind it
unfoldable pub From : (W : List Word) (S : Scopes) (M : Memory) (C : List ℕ) → List Expr → (n w : ℕ) → Type 0
From W S M C [] n w = ⊥
From W S M C (e ∷ es) n w = (constant_at C w ≡ constant_value W S M e) × Chain W S M C es n w

pub record Valuing {code values : List ℕ} {c : ℕ} (g : CaseValues code values c) (now : List ℕ) (w op : ℕ) : Type 0 where
  pub es : List Expr
  pub is : ExprsAt (sort_in g.around.known.W) (Parses (sort_in g.around.known.W)) es (w + 1) g.n
  pub here : Here g.around now g.k g.used w g.to
  pub faults-are : case_faults g.around.known.W g.around.known.S g.around.M g.es ≡ case_faults g.around.known.W g.around.known.S g.around.M es
  pub low : c ≤ w
  pub small : op < 256
  pub kept : Kept code now c w
  pub on : (C : List ℕ) → Outside (cells_of now) C w g.n → op_at C w ≡ op → From g.around.known.W g.around.known.S g.around.M C es g.n w
      → CaseChain g.around.known.W g.around.known.S g.around.M C g.es g.n c

pub record Valuings (code values : List ℕ) (c : ℕ) (now : List ℕ) (w op : ℕ) : Type 0 where
  pub is : (g : CaseValues code values c) → Valuing g now w op

starts : (W : List Word) (S : Scopes) (M : Memory) (C : List ℕ) (es : List Expr) (n c : ℕ) → op_at C c ≡ a_case → From W S M C es n c → CaseChain W S M C es n c
unfolding From CaseChain
starts W S M C [] n c o x = x
starts W S M C (e ∷ es) n c o x = (o, x.0, x.1)

pub values-begin : (code values : List ℕ) (c : ℕ) → Valuings code values c code c a_case
values-begin code values c = record {
  is = λ g. record {
    es = g.es;
    is = g.is;
    here = g.here;
    faults-are = refl;
    low = omega arith;
    small = omega arith;
    kept = kept_same code c c;
    on = λ C o p x. starts _ _ _ C g.es g.n c p x;
  };
}

module _ (code values : List ℕ) (c : ℕ) (now : List ℕ) (w op : ℕ) (inv : Valuings code values c now w op) where
  module _ (g : CaseValues code values c) where
    abbrev a : Around g.text values
    a = g.around

    abbrev x : Valuing g now w op
    x = inv.is g

    f : FirstOf (sort_in a.known.W) (ExprAt (sort_in a.known.W) (Parses (sort_in a.known.W))) x.es (w + 1) g.n
    f = separated_first (sort_in a.known.W) (ExprAt (sort_in a.known.W) (Parses (sort_in a.known.W))) x.is

    span : w + 1 < f.n
    span = grows a.known.W _ _ _ _ f.one

    within : f.n ≤ g.n
    within =
        by-same (sort_in a.known.W f.n) comma
        (λ e. omega (arith, separated-grows (sort_in a.known.W) (ExprAt (sort_in a.known.W) (Parses (sort_in a.known.W))) (λ (e2 : Expr) (p q : ℕ) h. grows a.known.W (suc nestings) p e2 q h) (f.more e)))
        (λ n. omega (arith, (f.done n).1))

    no-operator : level_of (sort_in a.known.W f.n) ≡ 0
    unfolding level_of
    no-operator = by-same (sort_in a.known.W f.n) comma (λ e. ap level_of e) (λ n. ap level_of (ap (sort_in a.known.W) (sym (f.done n).1) ∙ g.ends))

    last : (g.n < g.to) × (g.to < word_limit)
    last = (g.inside, g.here.unread.loaded.last)

    pub value_room : (w < 8190) × (w * 8 + 8 ≤ length now) × (op < 256) × (length now ≡ length code)
    value_room = (omega (arith, span, within, last), omega (arith, span, within, last, x.here.unread.loaded.room), x.small, x.kept.long)

    asks : Asks now values (w + 1)
    asks = record {
      stands = record {
        known = record {
          W = a.known.W;
          S = a.known.S;
          routine = a.known.routine;
          m = a.known.m;
          n = g.used;
          most = a.known.most;
          table = a.known.table;
          means = a.known.means;
          within = x.here.within;
          small = a.known.small;
        };
        d = nestings;
        e = f.a;
        to = f.n;
        tops = omega arith;
        deep = omega arith;
        is = (deeper (sort_in a.known.W) (suc nestings) (w + 1) (f.a, f.n) f.one).is;
        ends = λ h. absurd (omega (arith, no-operator, h));
        loaded = record {
          words = λ i l m. x.here.unread.loaded.words i (omega arith) (omega (arith, within, last));
          last = omega (arith, within, last);
          room = omega (arith, within, last, x.here.unread.loaded.room);
          whole = x.here.unread.loaded.whole;
        };
      };
      M = a.M;
      window = x.here.few;
      fine = x.here.fine;
      number = x.here.number;
    }

    pub value-asks : Asks now values (w + 1)
    value-asks = asks

    abbrev ForValues : (after : List ℕ) → answered.Stepped → Type 0
    ForValues after r =
        answered.Answer (case_faults a.known.W a.known.S a.M g.es) code after c g.n (CaseChain a.known.W a.known.S a.M (cells_of after) g.es g.n c) r

    own-faults : List Fault
    own-faults = constant_faults a.known.W raises_error a_num a.known.S a.M f.a

    rest-faults : List Fault
    rest-faults = case_faults a.known.W a.known.S a.M f.rest

    all-faults : case_faults a.known.W a.known.S a.M g.es ≡ own-faults ++ rest-faults
    unfolding case_faults own-faults rest-faults
    all-faults = x.faults-are ∙ ap (case_faults a.known.W a.known.S a.M) f.is

    own_in : Inside (w + 1) f.n own-faults
    unfolding own-faults
    own_in = constant-inside a.known.W _ _ _ _ f.one raises_error a_num a.known.S a.M

    rest_in : Inside f.n g.n rest-faults
    unfolding rest-faults case_faults
    rest_in =
        by-same (sort_in a.known.W f.n) comma
        (λ e. widen (case-inside a.known.W a.known.S a.M (f.more e)) (omega arith) (omega arith))
        (λ n. every-none (ap (case_faults a.known.W a.known.S a.M) (f.done n).0))

    module _ (one : List ℕ) (r : Valued) (vs : Values now values one Num (w + 1) r) where
      told : Says a.known.W a_num a.known.S a.M f.a f.n r
      unfolding asks
      told = vs.says asks a_num refl

      kept-one : Kept now one (w + 1) f.n
      unfolding asks
      kept-one = vs.kept asks

      wrong : (broken : Breach) → r ≡ Err broken → ForValues one (Err broken)
      unfolding Says own-faults
      wrong broken q =
          found-answer _ _ _ _ _ _ broken
          (subst (First (as_fault broken)) (sym all-faults) (first-before (subst (Says a.known.W a_num a.known.S a.M f.a f.n) q told) own_in rest_in (omega arith)))
          (kept-one.long ∙ x.kept.long)

      module _ (v : ℤ) (n : ℕ) (q : r ≡ Ok (v, n)) where
        right : Right a.known.W a_num a.known.S a.M f.a f.n v n
        unfolding Says
        right = subst (Says a.known.W a_num a.known.S a.M f.a f.n) q told

        pub value-ranged : InNum v
        value-ranged = right.ranged

        pub value-next : (w + 1 < n) × (n < word_limit) × (n * 8 + 8 ≤ length one) × (w * 8 + 8 ≤ length one)
        value-next = (omega (arith, right.next-is, span), omega (arith, right.next-is, within, last), omega (arith, right.next-is, within, last, kept-one.long, x.here.unread.loaded.room), omega (arith, value_room, kept-one.long))

        module _ (hv : ℕ) (held : HeldAs v hv) (two : List ℕ) (l : Linked one two w op hv n) where
          m : n ≡ f.n
          m = right.next-is

          at-w : Outside (cells_of one) (cells_of two) w (w + 1)
          at-w = linked-outside l

          kept-two : Kept code two c f.n
          kept-two =
              kept_on (kept_on (kept-wider x.kept c f.n (omega arith) (omega (arith, span))) (kept-wider kept-one c f.n (omega (arith, x.low)) (omega arith))) (kept-wider l.kept c f.n x.low (omega (arith, span)))

          changed : Outside (cells_of now) (cells_of two) w f.n
          changed = outside-on (outside_wider w f.n (kept-outside kept-one) (omega arith) (omega arith)) (outside_wider w f.n at-w (omega arith) (omega (arith, span)))

          constant-is : (C : List ℕ) → value_at C w ≡ hv → constant_at C w ≡ constant_value a.known.W a.known.S a.M f.a
          unfolding constant_at
          constant-is C e = ap (λ (z : ℕ). pos z -ℤ pos bias) e ∙ held.is ∙ right.is

          next_here : Here a two g.k g.used f.n g.to
          next_here = here_on a now two g.k g.used w g.to g.used f.n g.to x.here changed (l.kept.long ∙ kept-one.long) (omega arith) x.here.few (omega arith) (omega (arith, within, last)) (omega (arith, span)) (omega arith) (omega arith)

          pub value-long : length two ≡ length code
          value-long = kept-two.long

          module _ (s : ℕ) (es : s ≡ op_at (cells_of two) n) where
            sort-is : sort_in a.known.W f.n ≡ s
            sort-is = sym (es ∙ ap (op_at (cells_of two)) m ∙ (next_here.unread.loaded.words f.n (omega arith) (omega (arith, within, last))).sort)

            ends : (s ≡ comma → ⊥) → ForValues two (Ok n)
            unfolding From Chain rest-faults own-faults case_faults
            ends h =
                let d = f.done (λ e. h (sym sort-is ∙ e)) in
                let alone : x.es ≡ f.a ∷ [] = f.is ∙ ap (λ (t : List Expr). f.a ∷ t) d.0 in
                fine-answer _ _ _ _ _ _ n (record {
                  none = all-faults ∙ nothing-in-both right.none (ap (case_faults a.known.W a.known.S a.M) d.0);
                  next-is = m ∙ sym d.1;
                  written = x.on (cells_of two) (outside_wider w g.n changed (omega arith) within) l.op-is
                      (subst (λ (t : List Expr). From a.known.W a.known.S a.M (cells_of two) t g.n w) (sym alone) (constant-is (cells_of two) l.value-is, l.link-is ∙ m ∙ sym d.1));
                  kept = kept-wider kept-two c g.n (omega arith) within;
                })

            module _ (h : s ≡ comma) where
              more : SeparatedAt (sort_in a.known.W) (ExprAt (sort_in a.known.W) (Parses (sort_in a.known.W))) f.rest (f.n + 1) g.n
              more = f.more (sort-is ∙ h)

              before : f.n + 1 < g.n
              before = separated-grows (sort_in a.known.W) (ExprAt (sort_in a.known.W) (Parses (sort_in a.known.W))) (λ (e2 : Expr) (p q2 : ℕ) y. grows a.known.W (suc nestings) p e2 q2 y) more

              joined : (C : List ℕ) (t : List Expr) → Outside (cells_of two) C f.n g.n → op_at C f.n ≡ a_next_value → From a.known.W a.known.S a.M C t g.n f.n → From a.known.W a.known.S a.M C (f.a ∷ t) g.n w
              unfolding From Chain
              joined C [] o p y = absurd y
              joined C (e2 ∷ t) o p y =
                  let sw = same-before w (w + 1) o (omega (arith, span)) in (
                    constant-is C (value_same sw w (omega arith) (omega arith) _ l.value-is),
                    record { v = f.n; leaves = link-same sw w (omega arith) (omega arith) _ (l.link-is ∙ m); on = span; before = omega (arith, before); op = p; constant = y.0; rest = y.1 },
                  )

              goes : Valuing g two f.n a_next_value
              unfolding rest-faults own-faults
              goes = record {
                es = f.rest;
                is = more;
                here = next_here;
                faults-are = all-faults ∙ ap (λ (t : List Fault). t ++ rest-faults) right.none;
                low = omega (arith, x.low, span);
                small = omega arith;
                kept = kept-two;
                on = λ C o p y.
                    x.on C (outside-on (outside_wider w g.n changed (omega arith) within) (outside_wider w g.n o (omega (arith, span)) (omega arith)))
                    (op_same (same-before w (w + 1) o (omega (arith, span))) w (omega arith) (omega arith) _ l.op-is)
                    (subst (λ (t : List Expr). From a.known.W a.known.S a.M C t g.n w) (sym f.is) (joined C f.rest o p y));
              }

              goes-on : Valuing g two n a_next_value
              goes-on = subst (λ (t : ℕ). Valuing g two t a_next_value) (sym m) goes

  -- ---- for whatever the case is
  module _ (one : List ℕ) (r : Valued) (vs : Values now values one Num (w + 1) r) where
    pub value-wrong : (broken : Breach) → r ≡ Err broken → CaseValued code values one c (Err broken)
    value-wrong broken q = record { is = λ g. wrong g one r vs broken q }

    module _ (v : ℤ) (n : ℕ) (q : r ≡ Ok (v, n)) (hv : ℕ) (held : HeldAs v hv) (two : List ℕ) (l : Linked one two w op hv n) (s : ℕ) (es : s ≡ op_at (cells_of two) n) where
      pub values-end : (s ≡ comma → ⊥) → CaseValued code values two c (Ok n)
      values-end h = record { is = λ g. ends g one r vs v n q hv held two l s es h }

      pub values-go : s ≡ comma → Valuings code values c two n a_next_value
      values-go h = record { is = λ g. goes-on g one r vs v n q hv held two l s es h }
