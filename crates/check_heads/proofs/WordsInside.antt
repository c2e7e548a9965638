-- Which words stand in an expression, in data and in a routine: a walk to the word that ends one finds that word and no other.
use mathlib.Core.Path.{◌≡◌, refl, sym, ap, subst, ◌∙◌}
use mathlib.Core.Bool.{Bool, true, false, not, ◌||◌}
use mathlib.Core.List.{List}
use mathlib.Core.Option.{Option}
use Prim.Native.Nat.{ℕ, zero, suc, ◌+◌, ◌-◌, ◌<◌, ◌≤◌}
use native.Mathlib.Omega.{arith}
use lib.Dec.{eqb, ltb}
use borrow.Author.Tests.{eqb-true, eqb-false, lt-ltb}
use Rattle.laws.proofs.Tests.{test, by_less, false-true}
use Rattle.paper.specs.Sorts.{NAME, NOT, plus, minus_sign, open_paren, close_paren, open_brace, close_brace, semicolon, ENDPROC, ENDFUNC}
use Rattle.paper.specs.Trees.{Expr, leaf, signed, joined, Target, Simple, Statement, Statements, Arms, Cases, Content, Declared, Parameter, RoutineList, Routine}
use Rattle.paper.specs.Expressions.{Parsed, got, parts, relations, disjunctions, nestings, chain, prefixed, level, level_of, stands_before, is_literal, is_type, operand, expr_in}
use Rattle.climb.proofs.Climb.{got-no, went, after, chain-on, chain-stop}
use Rattle.climb.proofs.Operands.{got_same, op-paren, op-element, op-name, op-literal, op-none, deeper}
use Rattle.climb.proofs.Places.{spans-grow, stands}
use Rattle.grammar.specs.Form.{Parses, SeparatedAt, last_one, one_more, ClosedAt, closed-at-once, closed-later, RepeatedAt, none-starts, one-starts}
use Rattle.grammar.specs.Form.{ExprAt, ExprsAt, ArgumentsAt, IndexAt, no_index, in-braces, TargetAt, OptionalAt, no_value, a-value, NumberAt, no_number, a-number}
use Rattle.grammar.specs.Form.{SimpleAt, assigning, assigning-call, calling, returning, raising, exiting, retrying, trying-next, writing, reading, StepAt, no_step, a-step, ForHeadAt}
use Rattle.grammar.specs.Form.{StatementAt, plain, compact, full, counting, looping, testing, ListAt, ended, begun, ArmsAt, last-arm, more-arms, ElseAt, no-else, an-else, CasesAt, no-more-cases, one-case, DefaultAt, no_default, a-default}
use Rattle.grammar.specs.Form.{ContentAt, no-content, initial, sized, constant, DeclaredAt, ParameterAt, ListBehindAt, no-list, a-list, RoutineAt}
use Rattle.check_heads.specs.Parts.{is_one_of}

-- ---- words from a on and before b
pub record Only (W : ℕ → ℕ) (ok : ℕ → Bool) (a b : ℕ) : Type 0 where
  pub each : (i : ℕ) → a ≤ i → i < b → ok (W i) ≡ true

module _ {W : ℕ → ℕ} {ok : ℕ → Bool} where
  none : {a b : ℕ} → b ≤ a → Only W ok a b
  none h = record { each = λ i l u. absurd (omega arith) }

  infixr 5 ◌▸◌
  ◌▸◌ : {a b c : ℕ} → Only W ok a b → Only W ok b c → Only W ok a c
  ◌▸◌ {b = b} f g = record { each = λ i l u. by_less i b (λ z. f.each i l z) (λ z. g.each i z u) }

  word : {a : ℕ} {s : ℕ} → W a ≡ s → ok s ≡ true → Only W ok a (a + 1)
  word {a = a} e h = record { each = λ i l u. let z : i ≡ a = omega arith in ap (λ (k : ℕ). ok (W k)) z ∙ ap ok e ∙ h }

  upto : {a b c : ℕ} → Only W ok a b → c ≡ b → Only W ok a c
  upto {a} f e = subst (Only W ok a) (sym e) f

  later : {a b c : ℕ} → Only W ok a b → a ≤ c → Only W ok c b
  later f h = record { each = λ i l u. f.each i (omega arith) u }

-- words of one kind are words of another
pub only-as : {W : ℕ → ℕ} {f g : ℕ → Bool} {a b : ℕ} → ((s : ℕ) → f s ≡ true → g s ≡ true) → Only W f a b → Only W g a b
only-as {W = W} k h = record { each = λ i l u. k (W i) (h.each i l u) }

-- ---- expressions
either : (a b : Bool) → b ≡ true → (a || b) ≡ true
either true b h = refl
either false b h = h

unfoldable pub of_expression : (sort : ℕ) → Bool
of_expression s = ltb 0 (level_of s) || (is_literal s || (eqb s NOT || (eqb s NAME || (eqb s open_paren || (eqb s close_paren || (eqb s open_brace || eqb s close_brace))))))

joins-expression : (s k : ℕ) → level_of s ≡ k → 0 < k → of_expression s ≡ true
unfolding of_expression
joins-expression s k e h = rw (lt-ltb 0 (level_of s) (omega arith))

literal-expression : (s : ℕ) → is_literal s ≡ true → of_expression s ≡ true
unfolding of_expression
literal-expression s h = either (ltb 0 (level_of s)) _ (rw h)

before-expression : (j s : ℕ) → stands_before j s ≡ true → of_expression s ≡ true
unfolding of_expression stands_before level_of is_literal
before-expression j s h =
    test (eqb s NOT) (λ t. rw (eqb-true s NOT t))
    (λ t. test (eqb s plus) (λ u. rw (eqb-true s plus u))
    (λ u. test (eqb s minus_sign) (λ v. rw (eqb-true s minus_sign v))
    (λ v. false-true (sym (none_before t u v) ∙ h))))
  where
    none_before : eqb s NOT ≡ false → eqb s plus ≡ false → eqb s minus_sign ≡ false → stands_before j s ≡ false
    none_before t u v = test (eqb j 5) (λ a. rw (a, stands_before) t) (λ a. rw (a, stands_before) (test (eqb j 2) (λ b. rw b (rw (u, v))) (λ b. rw b)))

module _ (W : ℕ → ℕ) where
  abbrev Part : (at : ℕ) → Expr × ℕ → Type 0
  Part at x = Only W of_expression at x.1

  module _ (k : ℕ) (some : 0 < k) (sub : ℕ → Parsed (Expr × ℕ)) (on : (at : ℕ) (x : Expr × ℕ) → sub at ≡ got x → Part at x) where
    operator : (i : ℕ) → level_of (W i) ≡ k → Only W of_expression i (i + 1)
    operator i e = word refl (joins-expression (W i) k e some)

    chain-part : (p : ℕ) (e : Expr) (i : ℕ) (x : Expr × ℕ) → chain W p k sub e i ≡ got x → Part i x
    unfolding chain after
    chain-part zero e i x h = got-no 8 i x h
    chain-part (suc p) e i x h =
        test (eqb (level_of (W i)) k)
        (λ t. let l = eqb-true (level_of (W i)) k t in
        let g = went (sub (i + 1)) (after W k sub p e i) x (sym (chain-on W k sub p e i l) ∙ h) in
        let r = operator i l ▸ on (i + 1) g.a g.first in
        test (eqb k relations)
        (λ u. upto r (sym (ap (λ (y : Expr × ℕ). y.1) (got_same (joined i e g.a.0, g.a.1) x (rw (u, after) at g.then)))))
        (λ u. r ▸ chain-part p (joined i e g.a.0) g.a.1 x (rw (u, after) at g.then)))
        (λ t. upto (none (omega arith)) (sym (ap (λ (y : Expr × ℕ). y.1) (got_same (e, i) x (sym (chain-stop W k sub p e i (eqb-false (level_of (W i)) k t)) ∙ h)))))

    prefixed-part : (at : ℕ) (x : Expr × ℕ) → prefixed W k sub at ≡ got x → Part at x
    unfolding prefixed
    prefixed-part at x h =
        test (stands_before k (W at))
        (λ t. let g = went (sub (at + 1)) (λ y. got (signed at y.0, y.1)) x (rw (t, prefixed) at h) in
        upto (word refl (before-expression k (W at) t) ▸ on (at + 1) g.a g.first) (sym (ap (λ (y : Expr × ℕ). y.1) (got_same (signed at g.a.0, g.a.1) x g.then))))
        (λ t. on at x (rw (t, prefixed) at h))

  module _ (inner : ℕ → Parsed (Expr × ℕ)) (on : (at : ℕ) (x : Expr × ℕ) → inner at ≡ got x → Part at x) where
    operand-part : (at : ℕ) (x : Expr × ℕ) → operand W inner at ≡ got x → Part at x
    unfolding of_expression level_of is_literal
    operand-part at x h =
        test (eqb (W at) open_paren)
        (λ t. let g = op-paren W inner at x (eqb-true (W at) open_paren t) h in
        upto (word (eqb-true (W at) open_paren t) refl ▸ on (at + 1) (g.e, g.n) g.is ▸ word g.closed refl) (ap (λ (y : Expr × ℕ). y.1) g.whole))
        (λ t. test (eqb (W at) NAME)
        (λ u. let n = eqb-true (W at) NAME u in test (eqb (W (at + 1)) open_brace)
        (λ v. let g = op-element W inner at x n (eqb-true (W (at + 1)) open_brace v) h in
        let two : at + 1 + 1 ≡ at + 2 = omega arith in
        upto (word n refl ▸ upto (word (eqb-true (W (at + 1)) open_brace v) refl) (sym two) ▸ on (at + 2) (g.e, g.n) g.is ▸ word g.closed refl) (ap (λ (y : Expr × ℕ). y.1) g.whole))
        (λ v. upto (word n refl) (sym (ap (λ (y : Expr × ℕ). y.1) (got_same (leaf at, at + 1) x (sym (op-name W inner at n (eqb-false (W (at + 1)) open_brace v)) ∙ h))))))
        (λ u. test (is_literal (W at))
        (λ v. upto (word refl (literal-expression (W at) v)) (sym (ap (λ (y : Expr × ℕ). y.1) (got_same (leaf at, at + 1) x (sym (op-literal W inner at v) ∙ h)))))
        (λ v. op-none W inner at x (eqb-false (W at) open_paren t) (eqb-false (W at) NAME u) v h)))

    level-part : (j at : ℕ) (x : Expr × ℕ) → level W inner j at ≡ got x → Part at x
    unfolding level
    level-part zero at x h = operand-part at x h
    level-part (suc j) at x h =
        let g = went (prefixed W (suc j) (level W inner j) at) (λ y. chain W parts (suc j) (level W inner j) y.0 y.1) x h in
        prefixed-part (suc j) (omega arith) (level W inner j) (level-part j) at g.a g.first
        ▸ chain-part (suc j) (omega arith) (level W inner j) (level-part j) parts g.a.0 g.a.1 x g.then

  nest-part : (d at : ℕ) (x : Expr × ℕ) → expr_in W d at ≡ got x → Part at x
  unfolding expr_in
  nest-part zero at x h = got-no 9 (at - 1) x h
  nest-part (suc d) at x h = level-part (expr_in W d) (nest-part d) disjunctions at x h

  -- the words of an expression
  pub expression-words : (d at : ℕ) (e : Expr) (to : ℕ) → Parses W d at e to → Only W of_expression at to
  expression-words d at e to h = nest-part d at (e, to) h

  -- ---- data, up to the semicolon
  unfoldable pub no_semicolon : (sort : ℕ) → Bool
  no_semicolon s = not (eqb s semicolon)

  expression-on : (s : ℕ) → of_expression s ≡ true → no_semicolon s ≡ true
  unfolding of_expression no_semicolon level_of is_literal
  expression-on s h = test (eqb s semicolon) (λ t. false-true (rw (eqb-true s semicolon t) at h)) (λ t. rw t)

  pub content-words : {opens : ℕ} {x : Content} {at to : ℕ} → ContentAt W (Parses W) opens x at to → Only W no_semicolon at to
  unfolding no_semicolon
  content-words (no-content v f g e) = upto (none (omega arith)) e
  content-words (initial v b k) = word b refl ▸ only-as expression-on (expression-words _ _ _ _ k)
  content-words (sized v b k c z) = upto (word b refl ▸ only-as expression-on (expression-words _ _ _ _ k) ▸ word c refl) z
  content-words (constant v b k) = word b refl ▸ only-as expression-on (expression-words _ _ _ _ k)

  -- ---- a routine, up to its last word
  unfoldable pub in_routine : (sort : ℕ) → Bool
  in_routine s = not (is_one_of ENDPROC ENDFUNC s)

  expression-in : (s : ℕ) → of_expression s ≡ true → in_routine s ≡ true
  unfolding of_expression in_routine is_one_of level_of is_literal
  expression-in s h =
      test (eqb s ENDPROC) (λ t. false-true (rw (eqb-true s ENDPROC t) at h)) (λ t. test (eqb s ENDFUNC) (λ u. false-true (rw (eqb-true s ENDFUNC u) at h)) (λ u. rw (t, u)))

  type-in : (s : ℕ) → is_type s ≡ true → in_routine s ≡ true
  unfolding is_type in_routine is_one_of
  type-in s h =
      test (eqb s ENDPROC) (λ t. false-true (rw (eqb-true s ENDPROC t) at h)) (λ t. test (eqb s ENDFUNC) (λ u. false-true (rw (eqb-true s ENDFUNC u) at h)) (λ u. rw (t, u)))

  abbrev E : (d at : ℕ) → Expr → (to : ℕ) → Type 0
  E = Parses W

  abbrev In : (at to : ℕ) → Type 0
  In at to = Only W in_routine at to

  expr-in : (d at : ℕ) (e : Expr) (to : ℕ) → E d at e to → In at to
  expr-in d at e to h = only-as expression-in (expression-words d at e to h)

  -- a second word, a third
  second : (a : ℕ) {s : ℕ} → W (a + 1) ≡ s → in_routine s ≡ true → In (a + 1) (a + 2)
  second a e h = let z : a + 1 + 1 ≡ a + 2 = omega arith in upto (word e h) (sym z)

  third : (a : ℕ) {s : ℕ} → W (a + 2) ≡ s → in_routine s ≡ true → In (a + 2) (a + 3)
  third a e h = let z : a + 2 + 1 ≡ a + 3 = omega arith in upto (word e h) (sym z)

  module _ {A : Type 0} (One : A → (at to : ℕ) → Type 0) (one : (a : A) (at to : ℕ) → One a at to → In at to) where
    separated-in : {l : List A} {at to : ℕ} → SeparatedAt W One l at to → In at to
    unfolding in_routine is_one_of
    separated-in (last_one k f) = one _ _ _ k
    separated-in (one_more k c h) = one _ _ _ k ▸ word c refl ▸ separated-in h

    closed_in : {closing : ℕ} {l : List A} {at to : ℕ} → ClosedAt W One closing l at to → In at to
    closed_in (closed-at-once c e) = upto (none (omega arith)) e
    closed_in (closed-later f h) = separated-in h

    repeated-in : {starts : ℕ → Bool} {l : List A} {at to : ℕ} → RepeatedAt W starts One l at to → In at to
    repeated-in (none-starts s e) = upto (none (omega arith)) e
    repeated-in (one-starts s k h) = one _ _ _ k ▸ repeated-in h

  exprs-in : {es : List Expr} {at to : ℕ} → ExprsAt W E es at to → In at to
  exprs-in h = separated-in (ExprAt W E) (λ e at to k. expr-in (suc nestings) at e to k) h

  arguments-in : {closing : ℕ} {es : List Expr} {at to : ℕ} → ArgumentsAt W E closing es at to → In at to
  arguments-in h = closed_in (ExprAt W E) (λ e at to k. expr-in (suc nestings) at e to k) h

  index_in : {o : Option Expr} {at to : ℕ} → IndexAt W E o at to → In at to
  unfolding in_routine is_one_of
  index_in (no_index f e) = upto (none (omega arith)) e
  index_in (in-braces b k c z) = upto (word b refl ▸ expr-in _ _ _ _ k ▸ word c refl) z

  target-in : {t : Target} {at to : ℕ} → TargetAt W E t at to → In at to
  unfolding in_routine is_one_of
  target-in h = word h.name refl ▸ index_in h.index

  optional-in : {o : Option Expr} {at to : ℕ} → OptionalAt W E o at to → In at to
  optional-in (no_value s e) = upto (none (omega arith)) e
  optional-in (a-value f k) = expr-in _ _ _ _ k

  number_in : {o : Option Expr} {at to : ℕ} → NumberAt W E o at to → In at to
  unfolding in_routine is_one_of
  number_in (no_number f e) = upto (none (omega arith)) e
  number_in (a-number {at = at} b n c k) = word b refl ▸ second at n refl ▸ third at c refl ▸ expr-in _ _ _ _ k

  simple-in : {s : Simple} {at to : ℕ} → SimpleAt W E s at to → In at to
  unfolding in_routine is_one_of
  simple-in (assigning h b f k) = target-in h ▸ word b refl ▸ expr-in _ _ _ _ k
  simple-in (assigning-call {n = n} h b i a o k c z) = upto (target-in h ▸ word b refl ▸ second n a refl ▸ third n o refl ▸ arguments-in k ▸ word c refl) z
  simple-in (calling i a f g k) = word a refl ▸ arguments-in k
  simple-in (returning i a k) = word a refl ▸ optional-in k
  simple-in (raising i a k) = word a refl ▸ optional-in k
  simple-in (exiting i a z) = upto (word a refl) z
  simple-in (retrying i a z) = upto (word a refl) z
  simple-in (trying-next i a z) = upto (word a refl) z
  simple-in (writing {at = at} i a j s k) = word a refl ▸ second at s refl ▸ number_in k
  simple-in (reading {n = n} i a h c j s z) = upto (word a refl ▸ target-in h ▸ word c refl ▸ second n s refl) z

  step-in : {o : Option Expr} {at to : ℕ} → StepAt W E o at to → In at to
  unfolding in_routine is_one_of
  step-in (no_step f e) = upto (none (omega arith)) e
  step-in (a-step s k) = word s refl ▸ expr-in _ _ _ _ k

  for-head-in : {v : ℕ} {a b : Expr} {c : Option Expr} {at do_at : ℕ} → ForHeadAt W E v a b c at do_at → In at do_at
  unfolding in_routine is_one_of
  for-head-in {at = at} h = word h.opens refl ▸ second at h.name refl ▸ third at h.from_word refl ▸ expr-in _ _ _ _ h.start ▸ word h.to_word refl ▸ expr-in _ _ _ _ h.end ▸ step-in h.step_part

  mutual
    unfolding in_routine is_one_of

    statement-in : {d : ℕ} {s : Statement} {at to : ℕ} → StatementAt W E d s at to → In at to
    statement-in (plain k e z) = upto (simple-in k ▸ word e refl) z
    statement-in (compact i a k f h c z) = upto (word a refl ▸ expr-in _ _ _ _ k ▸ simple-in h ▸ word c refl) z
    statement-in (full deep i a h k c z) = upto (word a refl ▸ arms-in h ▸ else-in k ▸ word c refl) z
    statement-in (counting deep i h l e z) = upto (for-head-in h ▸ word h.do_word refl ▸ list-in l ▸ word e refl) z
    statement-in (looping deep i a k o l c z) = upto (word a refl ▸ expr-in _ _ _ _ k ▸ word o refl ▸ list-in l ▸ word c refl) z
    statement-in (testing deep i a h l q t z) = upto (word a refl ▸ expr-in _ _ _ _ h ▸ cases-in l ▸ default-in q ▸ word t refl) z

    list-in : {d : ℕ} {l : Statements} {at to : ℕ} → ListAt W E d l at to → In at to
    list-in (ended s e) = upto (none (omega arith)) e
    list-in (begun t k h) = statement-in k ▸ list-in h

    arms-in : {d : ℕ} {a : Arms} {at to : ℕ} → ArmsAt W E d a at to → In at to
    arms-in (last-arm k t l f) = expr-in _ _ _ _ k ▸ word t refl ▸ list-in l
    arms-in (more-arms k t l c h) = expr-in _ _ _ _ k ▸ word t refl ▸ list-in l ▸ word c refl ▸ arms-in h

    else-in : {d : ℕ} {o : Statements} {at to : ℕ} → ElseAt W E d o at to → In at to
    else-in (no-else f e) = upto (none (omega arith)) e
    else-in (an-else c h) = word c refl ▸ list-in h

    cases-in : {d : ℕ} {c : Cases} {at to : ℕ} → CasesAt W E d c at to → In at to
    cases-in (no-more-cases f e) = upto (none (omega arith)) e
    cases-in (one-case c k o l h) = word c refl ▸ exprs-in k ▸ word o refl ▸ list-in l ▸ cases-in h

    default-in : {d : ℕ} {o : Statements} {at to : ℕ} → DefaultAt W E d o at to → In at to
    default-in (no_default f e) = upto (none (omega arith)) e
    default-in (a-default {at = at} c i h) = word c refl ▸ second at i refl ▸ list-in h

  content-in : {opens : ℕ} {x : Content} {at to : ℕ} → ContentAt W E opens x at to → In at to
  unfolding in_routine is_one_of
  content-in (no-content v f g e) = upto (none (omega arith)) e
  content-in (initial v b k) = word b refl ▸ expr-in _ _ _ _ k
  content-in (sized v b k c z) = upto (word b refl ▸ expr-in _ _ _ _ k ▸ word c refl) z
  content-in (constant v b k) = word b refl ▸ expr-in _ _ _ _ k

  opens_in : {opens : ℕ} {x : Content} {at to : ℕ} → ContentAt W E opens x at to → in_routine opens ≡ true
  unfolding in_routine is_one_of
  opens_in (no-content v f g e) = rw v
  opens_in (initial v b k) = rw v
  opens_in (sized v b k c z) = rw v
  opens_in (constant v b k) = rw v

  declared-in : (x : Declared) (at to : ℕ) → DeclaredAt W E x at to → In at to
  unfolding in_routine is_one_of
  declared-in x at to h =
      upto (word refl (opens_in h.content) ▸ second at refl (type-in (W (at + 1)) h.typed) ▸ third at h.name refl ▸ content-in h.content ▸ word h.ends refl) h.after

  parameter-in : (p : Parameter) (at to : ℕ) → ParameterAt W E p at to → In at to
  unfolding in_routine is_one_of
  parameter-in p at to h = upto (word refl (type-in (W at) h.typed) ▸ second at h.name refl) h.after

  behind-in : {sort : ℕ} {o : Option RoutineList} {at to : ℕ} → in_routine sort ≡ true → ListBehindAt W E sort o at to → In at to
  behind-in s (no-list f e) = upto (none (omega arith)) e
  behind-in s (a-list c h) = word c s ▸ list-in h.statements

  -- from its name on
  pub routine-words : (r : Routine) (at to : ℕ) (h : RoutineAt W E r at to) → In r.name h.end
  unfolding in_routine is_one_of
  routine-words r at to h =
      word h.name refl ▸ second r.name h.opens refl ▸ closed_in (ParameterAt W E) parameter-in h.parameters ▸ word h.closes refl
      ▸ repeated-in (DeclaredAt W E) declared-in h.declared ▸ list-in h.body.statements ▸ behind-in refl h.handler ▸ behind-in refl h.undo

  -- ---- expressions have words
  pub expression-grows : (d at : ℕ) (e : Expr) (to : ℕ) → Parses W d at e to → at < to
  expression-grows d at e to h = let q = deeper W d at (e, to) h in spans-grow e at to (stands W (d - 1) 5 at (e, to) q.is)
