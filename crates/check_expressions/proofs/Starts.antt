-- The first part of an expression: what is answered of an operand, or of what NOT or a sign covers, is answered of the part.
use mathlib.Core.Path.{◌≡◌, refl, sym, ap, subst, ◌∙◌}
use mathlib.Core.Bool.{Bool, true, false}
use mathlib.Core.List.{List}
use Prim.Native.Nat.{ℕ, suc, ◌+◌, ◌-◌, ◌*◌, ◌%◌, ◌<◌, ◌≤◌}
use native.Mathlib.Omega.{arith}
use lib.Dec.{eqb}
use lib.ListN.{length, get_or}
use borrow.Author.Tests.{ne_eqb}
use mir.Syntax.{w64}
use mir.Val.{Fits}
use Rattle.laws.proofs.Tests.{test}
use Rattle.paper.specs.Sorts.{NAME, NUMBER, NOT, plus, minus_sign, open_paren, close_paren, open_brace, close_brace}
use Rattle.paper.specs.Words.{Word, word_limit}
use Rattle.paper.specs.Trees.{Expr, leaf, element, nested, signed, first}
use Rattle.paper.specs.Expressions.{Parsed, got, products, conjunctions, disjunctions, level_of, is_literal, level, operand, expr_in}
use Rattle.paper.specs.Names.{Meaning, sort_in, spelled, meaning}
use Rattle.paper.specs.Types.{judge_name, judge_element, judge_signed, judge_leaf, judge}
use Rattle.paper.specs.Types as types
use Rattle.store_cells.specs.Cells.{cells_of}
use Rattle.code.specs.Cells.{op_in, value_in, head_at, op_at}
use Rattle.climb.specs.Rise.{height, lowest, behind, begin}
use Rattle.climb.proofs.Climb.{Went, went}
use Rattle.climb.proofs.Operands.{Inside, got_same, op-paren, op-element, op-name, op-literal, op-none, Deeper, deeper}
use Rattle.climb.proofs.Places.{spans-grow, spans-first, stands, begins}
use Rattle.check_names.specs.Meanings.{first_meaning, kind_in, bool_in, own_in, meaning_in}
use Rattle.check_names.specs.Promises as promises
use Rattle.check_names.specs.Promises.{number_limit}
use Rattle.check_expressions.specs.Judgements.{Judged}
use Rattle.std.specs.Prelude.{Ok, Err}
use Rattle.layout.specs.declared.rules.Breach.{Breach}
use Rattle.std.specs.Prelude.{Option, Some, None}
use Rattle.layout.specs.declared.rules.Rule.{Rule}
use Rattle.check_expressions.specs.Known.{Fresh, Loaded, Within}
use Rattle.store_writing.specs.Promises.{Kept}
use Rattle.check_expressions.specs.Answers.{Low, Refused, SaysUnder, JudgesUnder, StandsUnder, CheckedUnder}
use Rattle.check_expressions.specs.Parts.{is_prefix, Meant, BreaksIndexed, Alone, SmallNumber, Literal, Short, Nested, Signed, Indexed, Begins, Began}
use Rattle.store_writing.proofs.Keeping.{head-above, kept-wider, kept_on}
use Rattle.check_expressions.proofs.NoSteps.{low-on}
use Rattle.check_expressions.proofs.Leaves.{judges-refused}

-- ---- words as they were loaded
fresh-same : (W : List Word) (C D : List ℕ) (i : ℕ) → head_at D i ≡ head_at C i → Fresh W C i → Fresh W D i
fresh-same W C D i e f = record {
  sort = ap op_in e ∙ f.sort;
  value = λ s. ap value_in e ∙ f.value s;
  number = λ s. ap (λ (h : ℕ). value_in h % number_limit) e ∙ f.number s;
}

-- some of them
pub loaded-part : (W : List Word) (code : List ℕ) (at to a b : ℕ) → Loaded W code at to → at ≤ a → b ≤ to → Loaded W code a b
loaded-part W code at to a b l h g = record {
  words = λ i p q. l.words i (omega arith) (omega arith);
  last = omega (arith, l.last);
  room = omega (arith, l.room);
  whole = l.whole;
}

-- nothing is written from word a on
pub loaded-after : (W : List Word) (code after : List ℕ) (from to a b : ℕ) → Loaded W code a b → Kept code after from to → to ≤ a → Loaded W after a b
loaded-after W code after from to a b l k h = record {
  words = λ i p q. fresh-same W (cells_of code) (cells_of after) i (head-above k i (omega arith)) (l.words i p q);
  last = l.last;
  room = omega (arith, l.room, k.long);
  whole = ap (λ (x : ℕ). x % 8) k.long ∙ l.whole;
}

-- ---- answers
-- what is said of a part is said, after a change, of the whole
pub judges-on : (d m n : ℕ) (before mid after : List ℕ) (a b at to : ℕ) (j : types.Judged) (r : Judged) → Kept before mid a b → Low before mid → at ≤ a → b ≤ to → JudgesUnder d m n mid after at to j r → JudgesUnder d m n before after at to j r
judges-on d m n before mid after a b at to j r k w h g q = record { says = q.says; kept = kept_on (kept-wider k at to h g) q.kept; low = low-on w q.low }

pub says-short : (d m n : ℕ) (C : List ℕ) (at to : ℕ) (j : types.Judged) (r : Judged) → SaysUnder d m n C at to j r → to < word_limit → Short r
unfolding SaysUnder Short
says-short d m n C at to j (Ok (b, next)) s h = omega (arith, s.next-is)
says-short d m n C at to j (Err broken) s h = tt

-- ---- what stands before an operand
pub record Covers (W : ℕ → ℕ) (inner : ℕ → Parsed (Expr × ℕ)) (at k : ℕ) : Type 0 where
  pub prefix : is_prefix (W at) ≡ true
  pub low : lowest (W at) ≡ k + 1
  pub most : k ≤ conjunctions
  pub is : begin W inner at ≡ behind W inner k at

module _ (W : ℕ → ℕ) (inner : ℕ → Parsed (Expr × ℕ)) (at : ℕ) where
  pub begin-operand : (W at ≡ NOT → ⊥) → (W at ≡ plus → ⊥) → (W at ≡ minus_sign → ⊥) → begin W inner at ≡ operand W inner at
  unfolding begin
  begin-operand a b c = rw (ne_eqb (W at) NOT a, begin) (rw (ne_eqb (W at) plus b) (rw (ne_eqb (W at) minus_sign c)))

  -- it is NOT or a sign where its height is some
  pub covering : (k : ℕ) → k ≡ height (W at) - 1 → (k ≡ 0 → ⊥) → Covers W inner at k
  unfolding height lowest begin is_prefix
  covering k e d =
      test (eqb (W at) NOT)
      (λ t. let q : k ≡ conjunctions = e ∙ rw (t, height) in rw q (record { prefix = rw (t, is_prefix); low = rw (t, lowest); most = omega arith; is = rw (t, begin) }))
      (λ t. test (eqb (W at) plus)
      (λ u. let q : k ≡ products = e ∙ rw (t, height) (rw u) in rw q (record { prefix = rw (t, u, is_prefix); low = rw (t, lowest) (rw u); most = omega arith; is = rw (t, begin) (rw u) }))
      (λ u. test (eqb (W at) minus_sign)
      (λ v. let q : k ≡ products = e ∙ rw (t, height) (rw u (rw v)) in rw q (record { prefix = rw (t, u, v, is_prefix); low = rw (t, lowest) (rw u (rw v)); most = omega arith; is = rw (t, begin) (rw u (rw v)) }))
      (λ v. absurd (d (e ∙ rw (t, height) (rw u (rw v)))))))

  -- and none of them where its height is none
  pub bare : 0 ≡ height (W at) - 1 → begin W inner at ≡ operand W inner at
  unfolding height
  bare e =
      begin-operand
      (λ q. low conjunctions (ap (λ (s : ℕ). height s - 1) q) (omega arith))
      (λ q. low products (ap (λ (s : ℕ). height s - 1) q) (omega arith))
      (λ q. low products (ap (λ (s : ℕ). height s - 1) q) (omega arith))
    where
      low : (k : ℕ) → height (W at) - 1 ≡ k → 0 < k → ⊥
      low k f h = omega (arith, e, f)

-- ---- the first word, and the next
module _ (nest : ℕ) (code values : List ℕ) (at : ℕ) (b : Begins nest code values at) where
  begins-on : at < b.to
  begins-on = spans-grow b.e at b.to (begins (sort_in b.known.W) b.d at (b.e, b.to) b.is)

  pub begins-room : at * 8 + 8 ≤ length code
  begins-room = omega (arith, begins-on, b.loaded.room)

  pub begins-next : (at + 1) * 8 + 8 ≤ length code
  begins-next = omega (arith, begins-on, b.loaded.room)

  pub begins-short : at + 1 < word_limit
  begins-short = omega (arith, begins-on, b.loaded.last)

  -- the words ahead are words of the store, and fewer
  pub begins-add : Fits w64 (at + 1)
  begins-add = record { fits = omega (arith, begins-short) }

  pub begins-add-2 : Fits w64 (at + 2)
  begins-add-2 = record { fits = omega (arith, begins-short) }

  pub begins-near : at < word_limit
  begins-near = omega (arith, begins-short)

  -- the words left fall at each call
  pub begins-falls : (t : ℕ) → (word_limit - at) * 2 + nest ≡ t → (word_limit - (at + 1)) * 2 + nest + 1 < t
  begins-falls t e = omega (arith, begins-short)

  pub fresh-first : Fresh b.known.W (cells_of code) at
  fresh-first = b.loaded.words at (omega arith) (omega (arith, begins-on))

  fresh-next : Fresh b.known.W (cells_of code) (at + 1)
  fresh-next = b.loaded.words (at + 1) (omega arith) (omega (arith, begins-on))

  -- what is judged of the part, told of what the part is known to be
  module _ (only : Bool) (before after : List ℕ) (r : Judged) where
    whole-as : (x : Expr × ℕ) → ◌≡◌ {A = Expr × ℕ} (b.e, b.to) x
        → JudgesUnder nest b.known.m b.known.n before after at x.1 (judge b.known.W only b.known.S x.0) r
        → JudgesUnder nest b.known.m b.known.n before after at b.to (judge b.known.W only b.known.S b.e) r
    whole-as x h j =
        subst (λ (y : Expr × ℕ). JudgesUnder nest b.known.m b.known.n before after at y.1 (judge b.known.W only b.known.S y.0) r) (sym h) j

  -- an operand's words are no prefix
  module _ (k : ℕ) (here : sort_in b.known.W at ≡ k) where
    operand-is : (k ≡ NOT → ⊥) → (k ≡ plus → ⊥) → (k ≡ minus_sign → ⊥) → operand (sort_in b.known.W) (expr_in (sort_in b.known.W) b.d) at ≡ got (b.e, b.to)
    operand-is x y z =
        sym (begin-operand (sort_in b.known.W) (expr_in (sort_in b.known.W) b.d) at (λ q. x (sym here ∙ q)) (λ q. y (sym here ∙ q)) (λ q. z (sym here ∙ q))) ∙ b.is

  -- ---- what stands in parentheses or braces
  module _ (a closing : ℕ) (g : Expr → Expr) (i : Inside (sort_in b.known.W) (expr_in (sort_in b.known.W) b.d) a closing g (b.e, b.to)) (later : at ≤ a) (none : level_of closing ≡ 0) where
    inside-deeper : Deeper (sort_in b.known.W) b.d a (i.e, i.n)
    inside-deeper = deeper (sort_in b.known.W) b.d a (i.e, i.n) i.is

    inside-some : 0 < nest
    inside-some = omega (arith, inside-deeper.some, b.deep)

    inside-end : b.to ≡ i.n + 1
    inside-end = ap (λ (y : Expr × ℕ). y.1) i.whole

    inside-stands : StandsUnder (nest - 1) code values disjunctions a
    inside-stands = record {
      known = b.known;
      d = b.d - 1;
      e = i.e;
      to = i.n;
      tops = omega arith;
      deep = omega (arith, b.deep);
      is = inside-deeper.is;
      ends = λ h. absurd (omega (arith, ap level_of i.closed, none, h));
      loaded = loaded-part b.known.W code at b.to a i.n b.loaded later (omega (arith, inside-end));
    }

    inside-first : first i.e ≡ a
    inside-first = spans-first i.e a i.n (stands (sort_in b.known.W) (b.d - 1) disjunctions a (i.e, i.n) inside-deeper.is)

  -- ---- names
  module _ (s : ℕ) (es : s ≡ op_at (cells_of code) at) where
    sort-first : s ≡ sort_in b.known.W at
    sort-first = es ∙ fresh-first.sort

    module _ (name : s ≡ NAME) where
      name-first : sort_in b.known.W at ≡ NAME
      name-first = sym sort-first ∙ name

      module _ (v : ℕ) (ev : v ≡ op_at (cells_of code) (at + 1)) (brace : v ≡ open_brace) where
        element-inside : Inside (sort_in b.known.W) (expr_in (sort_in b.known.W) b.d) (at + 2) close_brace (element at) (b.e, b.to)
        element-inside =
            op-element (sort_in b.known.W) (expr_in (sort_in b.known.W) b.d) at (b.e, b.to) name-first (sym fresh-next.sort ∙ sym ev ∙ brace)
            (operand-is NAME name-first (λ q. omega arith) (λ q. omega arith) (λ q. omega arith))

        pub element-stands : StandsUnder (nest - 1) code values disjunctions (at + 2)
        unfolding level_of
        element-stands = inside-stands (at + 2) close_brace (element at) element-inside (omega arith) refl

        -- one more may open
        pub element-some : 1 ≤ nest
        unfolding level_of
        element-some = inside-some (at + 2) close_brace (element at) element-inside (omega arith) refl

        -- the remaining nesting falls, and the words left
        pub element-falls : (t : ℕ) → (word_limit - at) * 2 + nest ≡ t → (word_limit - (at + 2)) * 2 + (nest - 1) + 1 < t
        element-falls t e = omega (arith, begins-short, element-some)

        element-first : first element-inside.e ≡ at + 2
        unfolding level_of
        element-first = inside-first (at + 2) close_brace (element at) element-inside (omega arith) refl

        module _ (only : Bool) (mid : List ℕ) (index : Judged) (k : CheckedUnder (nest - 1) code values mid only disjunctions (at + 2) index) where
          index-judges : JudgesUnder (nest - 1) b.known.m b.known.n code mid (at + 2) element-inside.n (judge b.known.W only b.known.S element-inside.e) index
          unfolding element-stands inside-stands
          index-judges = k.is element-stands

          pub index_short : Short index
          unfolding element-stands inside-stands
          index_short = says-short _ _ _ _ _ _ _ index index-judges.says element-stands.loaded.last

      module _ (m : ℕ) (em : promises.Meant code values at m) where
        name-means : meaning_in b.known.routine m ≡ meaning b.known.S (spelled b.known.W at)
        name-means =
            ap (meaning_in b.known.routine) (em ∙ ap (λ (k : ℕ). get_or (cells_of values) (first_meaning + k) 0) (fresh-first.number name-first))
            ∙ b.known.means.means at name-first

        pub name-meant : Meant m
        name-meant = record {
          routine = b.known.routine;
          m = b.known.m;
          n = b.known.n;
          most = b.known.most;
          within = subst (Within b.known.m b.known.n) (sym name-means) (b.known.within at name-first);
        }

        module _ (only : Bool) (v : ℕ) (ev : v ≡ op_at (cells_of code) (at + 1)) where
          alone-is : (v ≡ open_brace → ⊥) → (after : List ℕ) (r : Judged) → Alone code after m only at r
              → JudgesUnder nest b.known.m b.known.n code after at b.to (judge b.known.W only b.known.S b.e) r
          unfolding judge judge_leaf name-meant
          alone-is h after r a =
              let named = op-name (sort_in b.known.W) (expr_in (sort_in b.known.W) b.d) at name-first (λ q. h (ev ∙ fresh-next.sort ∙ q)) in
              let same : judge_name only (meaning_in b.known.routine m) at ≡ judge b.known.W only b.known.S (leaf at) = ap (λ (x : Meaning). judge_name only x at) name-means ∙ rw (name-first, judge_leaf) in
              whole-as only code after r (leaf at, at + 1) (got_same (b.e, b.to) (leaf at, at + 1) (sym (operand-is NAME name-first (λ q. omega arith) (λ q. omega arith) (λ q. omega arith)) ∙ named))
              (subst (λ (j : types.Judged). JudgesUnder nest b.known.m b.known.n code after at (at + 1) j r) same (a.is nest name-meant))

          module _ (brace : v ≡ open_brace) (broken : Option Rule) (br : BreaksIndexed (kind_in m) only broken) where
            element-judged : judge_element only (meaning_in b.known.routine m) at (element-inside v ev brace).e (judge b.known.W only b.known.S (element-inside v ev brace).e)
                ≡ judge b.known.W only b.known.S (element at (element-inside v ev brace).e)
            unfolding judge
            element-judged = ap (λ (x : Meaning). judge_element only x at (element-inside v ev brace).e (judge b.known.W only b.known.S (element-inside v ev brace).e)) name-means

            wrong-is : (rule : Rule) → broken ≡ Some rule → JudgesUnder nest b.known.m b.known.n code code at b.to (judge b.known.W only b.known.S b.e) (Err (record { rule = rule; word = at }))
            unfolding meaning_in
            wrong-is rule d =
                let r : Breach = record { rule = rule; word = at } in
                let i = element-inside v ev brace in
                whole-as only code code (Err r) (element at i.e, i.n + 1) i.whole
                (judges-refused nest b.known.m b.known.n code at (i.n + 1) (judge b.known.W only b.known.S (element at i.e)) r
                (subst (λ (j : types.Judged). Refused j r) element-judged
                (br.wrong rule d b.known.routine (bool_in m) (own_in m) (value_in m) at i.e (judge b.known.W only b.known.S i.e))))

            element-is : broken ≡ None → (mid after : List ℕ) (index r : Judged) → CheckedUnder (nest - 1) code values mid only disjunctions (at + 2) index → Indexed mid after m index at r
                → JudgesUnder nest b.known.m b.known.n code after at b.to (judge b.known.W only b.known.S b.e) r
            unfolding name-meant
            element-is z mid after index r k x =
                let i = element-inside v ev brace in
                let free : false ≡ only = sym (br.free z) in
                let j : types.Judged = judge b.known.W only b.known.S i.e in
                let inner = index-judges v ev brace only mid index k in
                let one : suc (nest - 1) ≡ nest = omega (arith, element-some v ev brace) in
                let judged = x.is (nest - 1) name-meant i.n i.e j (br.kind-is z) (element-first v ev brace) inner.says in
                let told : judge_element false (meaning_in b.known.routine m) at i.e j ≡ judge b.known.W only b.known.S (element at i.e) =
                ap (λ (c : Bool). judge_element c (meaning_in b.known.routine m) at i.e j) free ∙ element-judged in
                whole-as only code after r (element at i.e, i.n + 1) i.whole
                (judges-on nest b.known.m b.known.n code mid after (at + 2) i.n at (i.n + 1) (judge b.known.W only b.known.S (element at i.e)) r inner.kept inner.low (omega arith) (omega arith)
                (subst (λ (d : ℕ). JudgesUnder d b.known.m b.known.n mid after at (i.n + 1) (judge b.known.W only b.known.S (element at i.e)) r) one
                (subst (λ (q : types.Judged). JudgesUnder (suc (nest - 1)) b.known.m b.known.n mid after at (i.n + 1) q r) told judged)))

    -- ---- parentheses
    module _ (paren : s ≡ open_paren) where
      paren-inside : Inside (sort_in b.known.W) (expr_in (sort_in b.known.W) b.d) (at + 1) close_paren (nested at) (b.e, b.to)
      paren-inside =
          let here : sort_in b.known.W at ≡ open_paren = sym sort-first ∙ paren in
          op-paren (sort_in b.known.W) (expr_in (sort_in b.known.W) b.d) at (b.e, b.to) here (operand-is open_paren here (λ q. omega arith) (λ q. omega arith) (λ q. omega arith))

      pub paren-stands : StandsUnder (nest - 1) code values disjunctions (at + 1)
      unfolding level_of
      paren-stands = inside-stands (at + 1) close_paren (nested at) paren-inside (omega arith) refl

      pub paren-some : 1 ≤ nest
      unfolding level_of
      paren-some = inside-some (at + 1) close_paren (nested at) paren-inside (omega arith) refl

      pub paren-falls : (t : ℕ) → (word_limit - at) * 2 + nest ≡ t → (word_limit - (at + 1)) * 2 + (nest - 1) + 1 < t
      paren-falls t e = omega (arith, begins-short, paren-some)

      module _ (only : Bool) (mid : List ℕ) (inner : Judged) (k : CheckedUnder (nest - 1) code values mid only disjunctions (at + 1) inner) where
        inner-judges : JudgesUnder (nest - 1) b.known.m b.known.n code mid (at + 1) paren-inside.n (judge b.known.W only b.known.S paren-inside.e) inner
        unfolding paren-stands inside-stands
        inner-judges = k.is paren-stands

        pub inner-short : Short inner
        unfolding paren-stands inside-stands
        inner-short = says-short _ _ _ _ _ _ _ inner inner-judges.says paren-stands.loaded.last

        paren-is : (after : List ℕ) (r : Judged) → Nested mid after inner at r → JudgesUnder nest b.known.m b.known.n code after at b.to (judge b.known.W only b.known.S b.e) r
        unfolding judge
        paren-is after r x =
            let one : suc (nest - 1) ≡ nest = omega (arith, paren-some) in
            whole-as only code after r (nested at paren-inside.e, paren-inside.n + 1) paren-inside.whole
            (judges-on nest b.known.m b.known.n code mid after (at + 1) paren-inside.n at (paren-inside.n + 1) (judge b.known.W only b.known.S paren-inside.e) r
            inner-judges.kept inner-judges.low (omega arith) (omega arith)
            (subst (λ (d : ℕ). JudgesUnder d b.known.m b.known.n mid after at (paren-inside.n + 1) (judge b.known.W only b.known.S paren-inside.e) r) one
            (x.is (nest - 1) b.known.m b.known.n paren-inside.n (judge b.known.W only b.known.S paren-inside.e) inner-judges.says)))

    -- ---- NOT and signs
    module _ (l : ℕ) (el : l ≡ height s - 1) where
      height-first : l ≡ height (sort_in b.known.W at) - 1
      height-first = el ∙ ap (λ (q : ℕ). height q - 1) sort-first

      module _ (d : 0 < l) where
        part-covers : Covers (sort_in b.known.W) (expr_in (sort_in b.known.W) b.d) at l
        part-covers = covering (sort_in b.known.W) (expr_in (sort_in b.known.W) b.d) at l height-first (λ z. omega arith)

        part-went : Went {B = Expr × ℕ} (level (sort_in b.known.W) (expr_in (sort_in b.known.W) b.d) l (at + 1)) (λ (y : Expr × ℕ). got (signed at y.0, y.1)) (b.e, b.to)
        unfolding behind
        part-went =
            went (level (sort_in b.known.W) (expr_in (sort_in b.known.W) b.d) l (at + 1)) (λ (y : Expr × ℕ). got (signed at y.0, y.1)) (b.e, b.to) (sym part-covers.is ∙ b.is)

        part-whole : ◌≡◌ {A = Expr × ℕ} (b.e, b.to) (signed at part-went.a.0, part-went.a.1)
        part-whole = sym (got_same (signed at part-went.a.0, part-went.a.1) (b.e, b.to) part-went.then)

        part_end : b.to ≡ part-went.a.1
        part_end = ap (λ (y : Expr × ℕ). y.1) part-whole

        pub part-stands : StandsUnder nest code values l (at + 1)
        part-stands = record {
          known = b.known;
          d = b.d;
          e = part-went.a.0;
          to = part-went.a.1;
          tops = omega (arith, part-covers.most);
          deep = b.deep;
          is = part-went.first;
          ends = λ h.
              let o : 0 < level_of (sort_in b.known.W b.to) = subst (λ (k : ℕ). 0 < level_of (sort_in b.known.W k)) (sym part_end) h in
              let g = b.ends o in
              omega (arith, g, part-covers.low, ap (λ (k : ℕ). level_of (sort_in b.known.W k)) part_end);
          loaded = loaded-part b.known.W code at b.to (at + 1) part-went.a.1 b.loaded (omega arith) (omega (arith, part_end));
        }

        module _ (only : Bool) (mid : List ℕ) (part : Judged) (k : CheckedUnder nest code values mid only l (at + 1) part) where
          part-judges : JudgesUnder nest b.known.m b.known.n code mid (at + 1) part-went.a.1 (judge b.known.W only b.known.S part-went.a.0) part
          unfolding part-stands
          part-judges = k.is part-stands

          pub part-short : Short part
          unfolding part-stands
          part-short = says-short _ _ _ _ _ _ _ part part-judges.says part-stands.loaded.last

          part-is : (after : List ℕ) (r : Judged) → Signed mid after s part at r → JudgesUnder nest b.known.m b.known.n code after at b.to (judge b.known.W only b.known.S b.e) r
          unfolding judge
          part-is after r x =
              let j : types.Judged = judge b.known.W only b.known.S part-went.a.0 in
              let start = spans-first part-went.a.0 (at + 1) part-went.a.1 (stands (sort_in b.known.W) b.d l (at + 1) part-went.a part-went.first) in
              let judged = x.is nest b.known.m b.known.n part-went.a.1 part-went.a.0 j (ap is_prefix sort-first ∙ part-covers.prefix) start part-judges.says in
              whole-as only code after r (signed at part-went.a.0, part-went.a.1) part-whole
              (judges-on nest b.known.m b.known.n code mid after (at + 1) part-went.a.1 at part-went.a.1 (judge_signed (sort_in b.known.W at) part-went.a.0 j) r
              part-judges.kept part-judges.low (omega arith) (omega arith)
              (subst (λ (q : ℕ). JudgesUnder nest b.known.m b.known.n mid after at part-went.a.1 (judge_signed q part-went.a.0 j) r) sort-first judged))

      -- ---- literals
      module _ (z : l ≡ 0) (name : s ≡ NAME → ⊥) (paren : s ≡ open_paren → ⊥) where
        bare-is : operand (sort_in b.known.W) (expr_in (sort_in b.known.W) b.d) at ≡ got (b.e, b.to)
        bare-is = sym (bare (sort_in b.known.W) (expr_in (sort_in b.known.W) b.d) at (sym z ∙ height-first)) ∙ b.is

        literal-sort : is_literal (sort_in b.known.W at) ≡ true
        literal-sort =
            test (is_literal (sort_in b.known.W at)) (λ t. t)
            (λ t. op-none (sort_in b.known.W) (expr_in (sort_in b.known.W) b.d) at (b.e, b.to) (λ q. paren (sort-first ∙ q)) (λ q. name (sort-first ∙ q)) t bare-is)

        literal-is : (only : Bool) (after : List ℕ) (r : Judged) → Literal code after at r → JudgesUnder nest b.known.m b.known.n code after at b.to (judge b.known.W only b.known.S b.e) r
        unfolding judge
        literal-is only after r x =
            whole-as only code after r (leaf at, at + 1)
            (got_same (b.e, b.to) (leaf at, at + 1) (sym bare-is ∙ op-literal (sort_in b.known.W) (expr_in (sort_in b.known.W) b.d) at literal-sort))
            (x.is nest b.known.m b.known.n b.known.W only b.known.S fresh-first literal-sort)

  pub literal-small : SmallNumber (head_at (cells_of code) at)
  literal-small q =
      let s : sort_in b.known.W at ≡ NUMBER = sym fresh-first.sort ∙ q in
      omega (arith, fresh-first.value s, b.known.small at s)

-- ---- the answers, one for each place where the first part is answered
module _ (nest : ℕ) (code values after : List ℕ) (only : Bool) (at : ℕ) (r : Judged) (s : ℕ) (es : s ≡ op_at (cells_of code) at) where
  module _ (name : s ≡ NAME) (m : ℕ) (em : promises.Meant code values at m) (v : ℕ) (ev : v ≡ op_at (cells_of code) (at + 1)) where
    pub began-name : (v ≡ open_brace → ⊥) → Alone code after m only at r → Began nest code values after only at r
    began-name h a = record { is = λ b. alone-is nest code values at b s es name m em only v ev h after r a }

    pub began-element : v ≡ open_brace → (kind : ℕ) (broken : Option Rule) → kind ≡ kind_in m → BreaksIndexed kind only broken → broken ≡ None → (mid : List ℕ) (index : Judged) → CheckedUnder (nest - 1) code values mid only disjunctions (at + 2) index → Indexed mid after m index at r
        → Began nest code values after only at r
    began-element brace kind broken ek br z mid index k x = record {
      is = λ b. element-is nest code values at b s es name m em only v ev brace broken (subst (λ (q : ℕ). BreaksIndexed q only broken) ek br) z mid after index r k x;
    }

  pub began-paren : s ≡ open_paren → (mid : List ℕ) (inner : Judged) → CheckedUnder (nest - 1) code values mid only disjunctions (at + 1) inner → Nested mid after inner at r → Began nest code values after only at r
  began-paren paren mid inner k x = record { is = λ b. paren-is nest code values at b s es paren only mid inner k after r x }

  pub began-signed : (l : ℕ) → l ≡ height s - 1 → 0 < l → (mid : List ℕ) (part : Judged) → CheckedUnder nest code values mid only l (at + 1) part → Signed mid after s part at r → Began nest code values after only at r
  began-signed l el d mid part k x = record { is = λ b. part-is nest code values at b s es l el d only mid part k after r x }

  pub began-literal : height s - 1 ≡ 0 → (s ≡ NAME → ⊥) → (s ≡ open_paren → ⊥) → Literal code after at r → Began nest code values after only at r
  began-literal z name paren x = record { is = λ b. literal-is nest code values at b s es 0 (sym z) refl name paren only after r x }

pub began-room : (nest left : ℕ) (code values mid : List ℕ) (only : Bool) (top a at : ℕ) (r : Judged) → Begins nest code values at → StandsUnder left code values top a → CheckedUnder left code values mid only top a r → at * 8 + 8 ≤ length mid
began-room nest left code values mid only top a at r b s k = omega (arith, begins-room nest code values at b, (k.is s).kept.long)

pub began-wrong : (nest : ℕ) (code values : List ℕ) (only : Bool) (at s : ℕ) → s ≡ op_at (cells_of code) at → s ≡ NAME → (m : ℕ) → promises.Meant code values at m → (v : ℕ) → v ≡ op_at (cells_of code) (at + 1) → v ≡ open_brace
    → (kind : ℕ) (broken : Option Rule) → kind ≡ kind_in m → BreaksIndexed kind only broken → (rule : Rule) → broken ≡ Some rule → Began nest code values code only at (Err (record { rule = rule; word = at }))
began-wrong nest code values only at s es name m em v ev brace kind broken ek br rule d = record {
  is = λ b. wrong-is nest code values at b s es name m em only v ev brace broken (subst (λ (q : ℕ). BreaksIndexed q only broken) ek br) rule d;
}
