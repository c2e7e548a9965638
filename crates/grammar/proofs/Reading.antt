-- What the paper's parser reads stands in the relation of specs/Form: one law for each thing that is read.
use mathlib.Core.Path.{◌≡◌, refl, sym, ap, subst, ◌∙◌}
use mathlib.Core.Bool.{Bool, true, false, ◌&&◌, ◌||◌}
use mathlib.Core.List.{List, []}
use mathlib.Core.Option.{Option, none, some}
use Prim.Native.Nat.{ℕ, zero, suc, ◌+◌, ◌-◌, ◌<◌}
use native.Mathlib.Omega.{arith}
use lib.Dec.{eqb}
use borrow.Author.Tests.{eqb-true, eqb-false, eq-eqb}
use Rattle.laws.proofs.Tests.{false-true}
use Rattle.std.specs.Prelude.{if◌then◌else◌}
use Rattle.paper.specs.Sorts.{NAME, STRING, NUM, NOTHING, CONST, close_brace, close_paren, open_brace, open_paren, comma, semicolon, becomes, colon, backslash, CASE, DEFAULT, DO, ELSE, ELSEIF, ENDFOR}
use Rattle.paper.specs.Sorts.{ENDFUNC, ENDIF, ENDMODULE, ENDPROC, ENDTEST, ENDWHILE, ERROR, EXIT, FOR, FROM, IF, MODULE, PROC, RAISE, RETRY, RETURN, STEP, TEST, THEN, TO, TPREADNUM, TPWRITE, TRYNEXT}
use Rattle.paper.specs.Sorts.{UNDO, VAR, WHILE}
use Rattle.paper.specs.Trees.{Expr, Target, Simple, returns, raises, Statement, Statements, Arms, Cases, ◌then◌, Content, Module}
use Rattle.paper.specs.Expressions.{Parsed, Parser, got, no, ◌>>=◌, parts, nestings, is_type, starts_data, starts_routine, starts_statement, expect, expect_type, expr_in, expr, unless, separated, repeated, exprs, arguments}
use Rattle.paper.specs.Statements.{target_index, target, value_side, call_side, right_side, assignment, procedure_call, started_by_name, with_optional, written, tp_write, tp_read_num, simple_word}
use Rattle.paper.specs.Statements.{simple_statement, else_part, last_arm, arms, if_then, if_simple, if_statement, step_part, for_statement, while_statement, default_part, last_case, cases, test_statement}
use Rattle.paper.specs.Statements.{opening, plain_statement, statement, statements, list_in, list}
use Rattle.paper.specs.Form.{initial_part, size_part, var_part, const_part, datum, declaration, declarations, parameter, parameters, list_behind, routine_from, function, routine, routines, formed}
use Rattle.grammar.specs.Form.{SeparatedAt, last_one, one_more, ClosedAt, closed-at-once, closed-later, RepeatedAt, none-starts, one-starts, Parses}
use Rattle.grammar.specs.Form.{ExprAt, ExprsAt, ArgumentsAt, no_index, in-braces, TargetAt, OptionalAt, no_value, a-value, NumberAt, no_number, a-number}
use Rattle.grammar.specs.Form.{SimpleAt, assigning, assigning-call, calling, returning, raising, exiting, retrying, trying-next, writing, reading, StepAt, no_step, a-step}
use Rattle.grammar.specs.Form.{StatementAt, plain, compact, full, counting, looping, testing, ListAt, ended, begun, ArmsAt, last-arm, more-arms, ElseAt, no-else, an-else, CasesAt, no-more-cases, one-case, DefaultAt, no_default, a-default}
use Rattle.grammar.specs.Form.{ContentAt, no-content, initial, sized, constant, DeclaredAt, DeclarationsAt, ParameterAt, ParametersAt, ListBehindAt, no-list, a-list, HeadAt, a-proc, a-func, RoutineAt, RoutinesAt, Stands}

-- ---- what holds of whatever is read
abbrev pub Gives : {A : Type 0} → (A → Type 0) → Parsed A → Type 0
Gives Q (got a) = Q a
Gives Q (no number at) = Unit {0}

pub gives-got : {A : Type 0} (Q : A → Type 0) (p : Parsed A) (a : A) → Gives Q p → p ≡ got a → Q a
gives-got Q p a h e = subst (Gives Q) e h

pub gives-by : {A : Type 0} (Q : A → Type 0) (p : Parsed A) → ((a : A) → p ≡ got a → Q a) → Gives Q p
gives-by Q (got a) h = h a refl
gives-by Q (no number at) h = tt

pub weaker : {A : Type 0} (Q S : A → Type 0) (p : Parsed A) → ((a : A) → Q a → S a) → Gives Q p → Gives S p
weaker Q S (got a) f h = f a h
weaker Q S (no number at) f h = tt

pub then-gives : {A B : Type 0} (Q : A → Type 0) (S : B → Type 0) (p : Parsed A) (f : A → Parsed B) → Gives Q p → ((a : A) → Q a → Gives S (f a)) → Gives S (p >>= f)
unfolding ◌>>=◌
then-gives Q S (got a) f h g = g a h
then-gives Q S (no number at) f h g = tt

-- a choice, however it is written
pub chosen-gives : {A : Type 0} (Q : A → Type 0) (b : Bool) (x y : Parsed A) → (b ≡ true → Gives Q x) → (b ≡ false → Gives Q y) → Gives Q (if b then x else y)
chosen-gives Q true x y h g = h refl
chosen-gives Q false x y h g = g refl

pub forked-gives : {A : Type 0} (Q : A → Type 0) (b : Bool) (x y : Parsed A) → (b ≡ true → Gives Q x) → (b ≡ false → Gives Q y) → Gives Q (elim b [ true ↦ x | false ↦ y ])
forked-gives Q true x y h g = h refl
forked-gives Q false x y h g = g refl

-- two tests
both : (a b : Bool) → (a && b) ≡ true → (a ≡ true) × (b ≡ true)
both true b h = (refl, h)
both false b h = false-true h

not-both : (a b : Bool) → (a && b) ≡ false → a ≡ true → b ≡ true → ⊥
not-both true b h e q = false-true (sym h ∙ q)
not-both false b h e q = false-true e

neither : (a b : Bool) → (a || b) ≡ false → (a ≡ false) × (b ≡ false)
neither true b h = false-true (sym h)
neither false b h = (refl, h)

or_else : (a b : Bool) → (a || b) ≡ true → a ≡ false → b ≡ true
or_else true b h e = false-true (sym e)
or_else false b h e = h

module _ (W : ℕ → ℕ) where
  -- a word that is asked for
  expect-gives : (sort at : ℕ) → Gives (λ n. (W at ≡ sort) × (n ≡ at + 1)) (expect W sort at)
  unfolding expect
  expect-gives sort at = chosen-gives (λ (n : ℕ). (W at ≡ sort) × (n ≡ at + 1)) (eqb (W at) sort) _ _ (λ t. (eqb-true (W at) sort t, refl)) (λ t. tt)

  type-gives : (at : ℕ) → Gives (λ n. (is_type (W at) ≡ true) × (n ≡ at + 1)) (expect_type W at)
  unfolding expect_type
  type-gives at = chosen-gives (λ (n : ℕ). (is_type (W at) ≡ true) × (n ≡ at + 1)) (is_type (W at)) _ _ (λ t. (t, refl)) (λ t. tt)

  -- the word after it is j
  module _ {B : Type 0} (S : B → Type 0) where
    goes-on : (X : Type 0) (at j : ℕ) (p : Parsed ℕ) (f : ℕ → Parsed B) → at + 1 ≡ j → Gives (λ n. X × (n ≡ at + 1)) p → (X → Gives S (f j)) → Gives S (p >>= f)
    goes-on X at j p f e k h =
        then-gives (λ n. X × (n ≡ at + 1)) S p f k (λ n q. let z : j ≡ n = sym e ∙ sym q.1 in subst (λ (i : ℕ). Gives S (f i)) z (h q.0))

    pub expect-then : (sort at j : ℕ) (f : ℕ → Parsed B) → at + 1 ≡ j → (W at ≡ sort → Gives S (f j)) → Gives S (expect W sort at >>= f)
    expect-then sort at j f e h = goes-on (W at ≡ sort) at j (expect W sort at) f e (expect-gives sort at) h

    type-then : (at j : ℕ) (f : ℕ → Parsed B) → at + 1 ≡ j → (is_type (W at) ≡ true → Gives S (f j)) → Gives S (expect_type W at >>= f)
    type-then at j f e h = goes-on (is_type (W at) ≡ true) at j (expect_type W at) f e (type-gives at) h

  -- ---- sequences
  module _ {A : Type 0} (One : A → (at to : ℕ) → Type 0) (one : Parser A) where
    separated-gives : ((at : ℕ) → Gives (λ x. One x.0 at x.1) (one at)) → (p at : ℕ) → Gives (λ x. SeparatedAt W One x.0 at x.1) (separated W p one at)
    unfolding separated
    separated-gives h zero at = tt
    separated-gives h (suc p) at =
        then-gives (λ x. One x.0 at x.1) _ _ _ (h at) (λ a k.
        forked-gives (λ x. SeparatedAt W One x.0 at x.1) (eqb (W a.1) comma) _ _
        (λ t. then-gives (λ x. SeparatedAt W One x.0 (a.1 + 1) x.1) _ _ _ (separated-gives h p (a.1 + 1)) (λ r q. one_more k (eqb-true _ _ t) q))
        (λ t. last_one k (eqb-false _ _ t)))

    closed-gives : ((at : ℕ) → Gives (λ x. One x.0 at x.1) (one at)) → (closing at : ℕ)
        → Gives (λ x. ClosedAt W One closing x.0 at x.1) (if eqb (W at) closing then got ([], at) else separated W parts one at)
    closed-gives h closing at =
        chosen-gives (λ x. ClosedAt W One closing x.0 at x.1) (eqb (W at) closing) _ _
        (λ t. closed-at-once (eqb-true _ _ t) refl)
        (λ t. weaker (λ (x : List A × ℕ). SeparatedAt W One x.0 at x.1) _ (separated W parts one at) (λ x k. closed-later (eqb-false _ _ t) k) (separated-gives h parts at))

    repeated-gives : (starts : ℕ → Bool) → ((at : ℕ) → starts (W at) ≡ true → Gives (λ x. One x.0 at x.1) (one at)) → (p at : ℕ)
        → Gives (λ x. RepeatedAt W starts One x.0 at x.1) (repeated W p starts one at)
    unfolding repeated
    repeated-gives starts h zero at = tt
    repeated-gives starts h (suc p) at =
        forked-gives (λ x. RepeatedAt W starts One x.0 at x.1) (starts (W at)) _ _
        (λ t. then-gives (λ x. One x.0 at x.1) _ _ _ (h at t) (λ a k.
        then-gives (λ x. RepeatedAt W starts One x.0 a.1 x.1) _ _ _ (repeated-gives starts h p a.1) (λ r q. one-starts t k q)))
        (λ t. none-starts t refl)

-- E holds of each expression that the parser reads.
module _ (W : ℕ → ℕ) (E : (d at : ℕ) → Expr → (to : ℕ) → Type 0) (holds : (d at : ℕ) (e : Expr) (to : ℕ) → Parses W d at e to → E d at e to) where
  -- ---- expressions
  expr-gives : (at : ℕ) → Gives (λ x. ExprAt W E x.0 at x.1) (expr W at)
  unfolding expr
  expr-gives at = gives-by _ (expr_in W (suc nestings) at) (λ x h. holds (suc nestings) at x.0 x.1 h)

  module _ {B : Type 0} (S : B → Type 0) where
    inner-then : (d at : ℕ) (f : Expr × ℕ → Parsed B) → ((e : Expr) (n : ℕ) → E d at e n → Gives S (f (e, n))) → Gives S (expr_in W d at >>= f)
    inner-then d at f h = then-gives (λ x. E d at x.0 x.1) S (expr_in W d at) f (gives-by _ (expr_in W d at) (λ x k. holds d at x.0 x.1 k)) (λ x k. h x.0 x.1 k)

    expr-then : (at : ℕ) (f : Expr × ℕ → Parsed B) → ((e : Expr) (n : ℕ) → ExprAt W E e at n → Gives S (f (e, n))) → Gives S (expr W at >>= f)
    expr-then at f h = then-gives (λ x. ExprAt W E x.0 at x.1) S (expr W at) f (expr-gives at) (λ x k. h x.0 x.1 k)

  exprs-gives : (at : ℕ) → Gives (λ x. ExprsAt W E x.0 at x.1) (exprs W at)
  unfolding exprs
  exprs-gives at = separated-gives W (ExprAt W E) (expr W) expr-gives parts at

  arguments-gives : (closing at : ℕ) → Gives (λ x. ArgumentsAt W E closing x.0 at x.1) (arguments W closing at)
  unfolding arguments exprs
  arguments-gives closing at = closed-gives W (ExprAt W E) (expr W) expr-gives closing at

  -- ---- simple statements
  abbrev GivesTarget : ℕ → Parsed (Target × ℕ) → Type 0
  GivesTarget at p = Gives (λ x. TargetAt W E x.0 at x.1) p

  abbrev GivesSimple : ℕ → Parsed (Simple × ℕ) → Type 0
  GivesSimple at p = Gives (λ x. SimpleAt W E x.0 at x.1) p

  index_gives : (at : ℕ) → W at ≡ NAME → W (at + 1) ≡ open_brace → GivesTarget at (target_index W at)
  unfolding target_index
  index_gives at n b =
      let z : at + 1 + 1 ≡ at + 2 = omega arith in
      inner-then _ nestings (at + 2) _ (λ e m k.
      expect-then W _ close_brace m (m + 1) _ refl (λ c. record { named = refl; name = n; index = in-braces b (rw z k) c refl }))

  target-gives : (at : ℕ) → GivesTarget at (target W at)
  unfolding target
  target-gives at =
      forked-gives _ (eqb (W at) NAME) _ _
      (λ t. forked-gives _ (eqb (W (at + 1)) open_brace) _ _
      (λ b. index_gives at (eqb-true _ _ t) (eqb-true _ _ b))
      (λ b. record { named = refl; name = eqb-true _ _ t; index = no_index (eqb-false _ _ b) refl }))
      (λ t. tt)

  module _ (t : Target) (at n : ℕ) (h : TargetAt W E t at n) (b : W n ≡ becomes) where
    call-side-gives : W (n + 1) ≡ NAME → W (n + 2) ≡ open_paren → GivesSimple at (call_side W t (n + 1))
    unfolding call_side
    call-side-gives f o =
        let z : n + 3 ≡ n + 1 + 2 = omega arith in
        then-gives (λ x. ArgumentsAt W E close_paren x.0 (n + 1 + 2) x.1) _ _ _ (arguments-gives close_paren (n + 1 + 2)) (λ es k.
        expect-then W _ close_paren es.1 (es.1 + 1) _ refl (λ c. assigning-call h b refl f o (rw z k) c refl))

    value-side-gives : (W (n + 1) ≡ NAME → W (n + 2) ≡ open_paren → ⊥) → GivesSimple at (value_side W t (n + 1))
    unfolding value_side
    value-side-gives f = expr-then _ (n + 1) _ (λ e m k. assigning h b f k)

    right-side-gives : GivesSimple at (right_side W t (n + 1))
    unfolding right_side
    right-side-gives =
        let z : n + 1 + 1 ≡ n + 2 = omega arith in
        let e : W (n + 1 + 1) ≡ W (n + 2) = ap W z in
        chosen-gives _ (eqb (W (n + 1)) NAME && eqb (W (n + 1 + 1)) open_paren) _ _
        (λ u. let q = both _ _ u in call-side-gives (eqb-true _ _ q.0) (sym e ∙ eqb-true _ _ q.1))
        (λ u. value-side-gives (λ f o. not-both _ _ u (eq-eqb _ _ f) (eq-eqb _ _ (e ∙ o))))

  assignment-gives : (at : ℕ) → GivesSimple at (assignment W at)
  unfolding assignment
  assignment-gives at =
      then-gives (λ x. TargetAt W E x.0 at x.1) _ _ _ (target-gives at) (λ t k.
      expect-then W _ becomes t.1 (t.1 + 1) _ refl (λ b. right-side-gives t.0 at t.1 k b))

  by_name-gives : (at : ℕ) → W at ≡ NAME → GivesSimple at (started_by_name W at)
  unfolding started_by_name procedure_call
  by_name-gives at n =
      chosen-gives _ (eqb (W (at + 1)) becomes || eqb (W (at + 1)) open_brace) _ _ (λ t. assignment-gives at) (λ t.
      let q = neither _ _ t in
      then-gives (λ x. ArgumentsAt W E semicolon x.0 (at + 1) x.1) _ _ _ (arguments-gives semicolon (at + 1)) (λ es k.
      calling refl n (eqb-false _ _ q.0) (eqb-false _ _ q.1) k))

  unless-gives : (at : ℕ) → Gives (λ x. OptionalAt W E x.0 at x.1) (unless W semicolon at)
  unfolding unless
  unless-gives at =
      forked-gives (λ x. OptionalAt W E x.0 at x.1) (eqb (W at) semicolon) _ _
      (λ t. no_value (eqb-true _ _ t) refl)
      (λ t. expr-then _ at _ (λ e n k. a-value (eqb-false _ _ t) k))

  optional-gives : (make : ℕ → Option Expr → Simple) (at : ℕ) → ((e : Option Expr) (to : ℕ) → OptionalAt W E e (at + 1) to → SimpleAt W E (make at e) at to) → GivesSimple at (with_optional W make at)
  unfolding with_optional
  optional-gives make at f = then-gives (λ x. OptionalAt W E x.0 (at + 1) x.1) _ _ _ (unless-gives (at + 1)) (λ e k. f e.0 e.1 k)

  written-gives : (at : ℕ) → Gives (λ x. NumberAt W E x.0 at x.1) (written W at)
  unfolding written
  written-gives at =
      forked-gives (λ x. NumberAt W E x.0 at x.1) (eqb (W at) backslash) _ _
      (λ t. expect-then W _ NUM (at + 1) (at + 2) _ (omega arith) (λ n. expect-then W _ becomes (at + 2) (at + 3) _ (omega arith) (λ b. expr-then _ (at + 3) _ (λ e k h. a-number (eqb-true _ _ t) n b h))))
      (λ t. no_number (eqb-false _ _ t) refl)

  write-gives : (at : ℕ) → W at ≡ TPWRITE → GivesSimple at (tp_write W at)
  unfolding tp_write
  write-gives at w =
      expect-then W _ STRING (at + 1) (at + 2) _ (omega arith) (λ s.
      then-gives (λ x. NumberAt W E x.0 (at + 2) x.1) _ _ _ (written-gives (at + 2)) (λ e k. writing refl w refl s k))

  read-gives : (at : ℕ) → W at ≡ TPREADNUM → GivesSimple at (tp_read_num W at)
  unfolding tp_read_num
  read-gives at r =
      then-gives (λ x. TargetAt W E x.0 (at + 1) x.1) _ _ _ (target-gives (at + 1)) (λ t k.
      expect-then W _ comma t.1 (t.1 + 1) _ refl (λ c.
      expect-then W _ STRING (t.1 + 1) (t.1 + 2) _ (omega arith) (λ s. reading refl r k c refl s refl)))

  simple-gives : (at : ℕ) → GivesSimple at (simple_word W at)
  unfolding simple_word
  simple-gives at =
      chosen-gives _ (eqb (W at) NAME) _ _ (λ t. by_name-gives at (eqb-true _ _ t)) (λ _.
      chosen-gives _ (eqb (W at) RETURN) _ _ (λ t. optional-gives returns at (λ e to k. returning refl (eqb-true _ _ t) k)) (λ _.
      chosen-gives _ (eqb (W at) RAISE) _ _ (λ t. optional-gives raises at (λ e to k. raising refl (eqb-true _ _ t) k)) (λ _.
      chosen-gives _ (eqb (W at) EXIT) _ _ (λ t. exiting refl (eqb-true _ _ t) refl) (λ _.
      chosen-gives _ (eqb (W at) RETRY) _ _ (λ t. retrying refl (eqb-true _ _ t) refl) (λ _.
      chosen-gives _ (eqb (W at) TRYNEXT) _ _ (λ t. trying-next refl (eqb-true _ _ t) refl) (λ _.
      chosen-gives _ (eqb (W at) TPWRITE) _ _ (λ t. write-gives at (eqb-true _ _ t)) (λ _.
      chosen-gives _ (eqb (W at) TPREADNUM) _ _ (λ t. read-gives at (eqb-true _ _ t)) (λ _. tt))))))))

  -- with its semicolon
  record Ended (s : Simple) (at to : ℕ) : Type 0 where
    end : ℕ
    is : SimpleAt W E s at end
    ends : W end ≡ semicolon
    after : to ≡ end + 1

  ended-gives : (at : ℕ) → Gives (λ x. Ended x.0 at x.1) (simple_statement W at)
  unfolding simple_statement
  ended-gives at =
      then-gives (λ x. SimpleAt W E x.0 at x.1) _ _ _ (simple-gives at) (λ s k.
      expect-then W _ semicolon s.1 (s.1 + 1) _ refl (λ e. record { end = s.1; is = k; ends = e; after = refl }))

  -- ---- compound statements: `list` reads what stands inside
  abbrev GivesStatement : ℕ → ℕ → Parsed (Statement × ℕ) → Type 0
  GivesStatement d at p = Gives (λ x. StatementAt W E d x.0 at x.1) p

  abbrev GivesList : ℕ → ℕ → Parsed (Statements × ℕ) → Type 0
  GivesList d at p = Gives (λ x. ListAt W E d x.0 at x.1) p

  module _ (d : ℕ) (deep : 0 < d) (list : Parser Statements) (h : (at : ℕ) → GivesList (d - 1) at (list at)) where
    list-then : {B : Type 0} (S : B → Type 0) (at : ℕ) (f : Statements × ℕ → Parsed B) → ((l : Statements) (n : ℕ) → ListAt W E (d - 1) l at n → Gives S (f (l, n))) → Gives S (list at >>= f)
    list-then S at f g = then-gives (λ x. ListAt W E (d - 1) x.0 at x.1) S (list at) f (h at) (λ x k. g x.0 x.1 k)

    else-gives : (at : ℕ) → Gives (λ x. ElseAt W E (d - 1) x.0 at x.1) (else_part W list at)
    unfolding else_part
    else-gives at =
        forked-gives (λ x. ElseAt W E (d - 1) x.0 at x.1) (eqb (W at) ELSE) _ _
        (λ t. weaker (λ (x : Statements × ℕ). ListAt W E (d - 1) x.0 (at + 1) x.1) _ (list (at + 1)) (λ x k. an-else (eqb-true _ _ t) k) (h (at + 1)))
        (λ t. no-else (eqb-false _ _ t) refl)

    -- the arms of an IF and its ELSE, with the ENDIF
    record ArmsRead (at : ℕ) (x : (Arms × Statements) × ℕ) : Type 0 where
      n : ℕ
      m : ℕ
      arms : ArmsAt W E (d - 1) x.0.0 at n
      other : ElseAt W E (d - 1) x.0.1 n m
      ends : W m ≡ ENDIF
      after : x.1 ≡ m + 1

    last-arm-gives : (e : Expr) (b : Statements) (at n m : ℕ) → ExprAt W E e at n → W n ≡ THEN → ListAt W E (d - 1) b (n + 1) m → ¬ (W m ≡ ELSEIF) → Gives (ArmsRead at) (last_arm W list e b m)
    unfolding last_arm
    last-arm-gives e b at n m k t l f =
        then-gives (λ x. ElseAt W E (d - 1) x.0 m x.1) _ _ _ (else-gives m) (λ o q.
        expect-then W _ ENDIF o.1 (o.1 + 1) _ refl (λ i. record { n = m; m = o.1; arms = last-arm k t l f; other = q; ends = i; after = refl }))

    arms-gives : (p : ℕ) (e : Expr) (at n : ℕ) → ExprAt W E e at n → W n ≡ THEN → Gives (ArmsRead at) (arms W p list e (n + 1))
    unfolding arms
    arms-gives zero e at n k t = tt
    arms-gives (suc p) e at n k t =
        list-then _ (n + 1) _ (λ b m l.
        forked-gives _ (eqb (W m) ELSEIF) _ _
        (λ u. expr-then _ (m + 1) _ (λ c j q.
        expect-then W _ THEN j (j + 1) _ refl (λ v.
        then-gives (ArmsRead (m + 1)) _ _ _ (arms-gives p c (m + 1) j q v) (λ x r.
        record { n = r.n; m = r.m; arms = more-arms k t l (eqb-true _ _ u) r.arms; other = r.other; ends = r.ends; after = r.after }))))
        (λ u. last-arm-gives e b at n m k t l (eqb-false _ _ u)))

    then-list-gives : (at : ℕ) (e : Expr) (n : ℕ) → W at ≡ IF → ExprAt W E e (at + 1) n → W n ≡ THEN → GivesStatement d at (if_then W at list e n)
    unfolding if_then
    then-list-gives at e n i k t = then-gives (ArmsRead (at + 1)) _ _ _ (arms-gives parts e (at + 1) n k t) (λ x r. full deep refl i r.arms r.other r.ends r.after)

    step_gives : (at : ℕ) → Gives (λ x. StepAt W E x.0 at x.1) (step_part W at)
    unfolding step_part
    step_gives at =
        forked-gives (λ x. StepAt W E x.0 at x.1) (eqb (W at) STEP) _ _ (λ t. expr-then _ (at + 1) _ (λ e n k. a-step (eqb-true _ _ t) k)) (λ t. no_step (eqb-false _ _ t) refl)

    for-gives : (at : ℕ) → W at ≡ FOR → GivesStatement d at (for_statement W list at)
    unfolding for_statement
    for-gives at i =
        expect-then W _ NAME (at + 1) (at + 2) _ (omega arith) (λ v.
        expect-then W _ FROM (at + 2) (at + 3) _ (omega arith) (λ f.
        expr-then _ (at + 3) _ (λ a n₃ ka.
        expect-then W _ TO n₃ (n₃ + 1) _ refl (λ t.
        expr-then _ (n₃ + 1) _ (λ b n₅ kb.
        then-gives (λ x. StepAt W E x.0 n₅ x.1) _ _ _ (step_gives n₅) (λ c kc.
        expect-then W _ DO c.1 (c.1 + 1) _ refl (λ o.
        list-then _ (c.1 + 1) _ (λ l n₈ kl.
        expect-then W _ ENDFOR n₈ (n₈ + 1) _ refl (λ e.
        counting deep refl (record { to_at = n₃; step_at = n₅; opens = i; variable = refl; name = v; from_word = f; start = ka; to_word = t; end = kb; step_part = kc; do_word = o }) kl e refl)))))))))

    while-gives : (at : ℕ) → W at ≡ WHILE → GivesStatement d at (while_statement W list at)
    unfolding while_statement
    while-gives at i =
        expr-then _ (at + 1) _ (λ e n k.
        expect-then W _ DO n (n + 1) _ refl (λ o.
        list-then _ (n + 1) _ (λ l m kl.
        expect-then W _ ENDWHILE m (m + 1) _ refl (λ c. looping deep refl i k o kl c refl))))

    default-gives : (at : ℕ) → Gives (λ x. DefaultAt W E (d - 1) x.0 at x.1) (default_part W list at)
    unfolding default_part
    default-gives at =
        forked-gives (λ x. DefaultAt W E (d - 1) x.0 at x.1) (eqb (W at) DEFAULT) _ _
        (λ t. expect-then W _ colon (at + 1) (at + 2) _ (omega arith) (λ c.
        weaker (λ (x : Statements × ℕ). ListAt W E (d - 1) x.0 (at + 2) x.1) _ (list (at + 2)) (λ x k. a-default (eqb-true _ _ t) c k) (h (at + 2))))
        (λ t. no_default (eqb-false _ _ t) refl)

    -- the cases of a TEST and its DEFAULT, with the ENDTEST
    record CasesRead (at : ℕ) (x : (Cases × Statements) × ℕ) : Type 0 where
      n : ℕ
      m : ℕ
      cases : CasesAt W E (d - 1) x.0.0 at n
      other : DefaultAt W E (d - 1) x.0.1 n m
      ends : W m ≡ ENDTEST
      after : x.1 ≡ m + 1

    last-case-gives : (at : ℕ) → ¬ (W at ≡ CASE) → Gives (CasesRead at) (last_case W list at)
    unfolding last_case
    last-case-gives at f =
        then-gives (λ x. DefaultAt W E (d - 1) x.0 at x.1) _ _ _ (default-gives at) (λ o q.
        expect-then W _ ENDTEST o.1 (o.1 + 1) _ refl (λ e. record { n = at; m = o.1; cases = no-more-cases f refl; other = q; ends = e; after = refl }))

    cases-gives : (p at : ℕ) → Gives (CasesRead at) (cases W p list at)
    unfolding cases
    cases-gives zero at = tt
    cases-gives (suc p) at =
        forked-gives _ (eqb (W at) CASE) _ _
        (λ t. then-gives (λ x. ExprsAt W E x.0 (at + 1) x.1) _ _ _ (exprs-gives (at + 1)) (λ c k.
        expect-then W _ colon c.1 (c.1 + 1) _ refl (λ o.
        list-then _ (c.1 + 1) _ (λ b m l.
        then-gives (CasesRead m) _ _ _ (cases-gives p m) (λ x r.
        record { n = r.n; m = r.m; cases = one-case (eqb-true _ _ t) k o l r.cases; other = r.other; ends = r.ends; after = r.after })))))
        (λ t. last-case-gives at (eqb-false _ _ t))

    test-gives : (at : ℕ) → W at ≡ TEST → GivesStatement d at (test_statement W list at)
    unfolding test_statement
    test-gives at i = expr-then _ (at + 1) _ (λ e n k. then-gives (CasesRead n) _ _ _ (cases-gives parts n) (λ x r. testing deep refl i k r.cases r.other r.ends r.after))

  compact-gives : (d at : ℕ) (e : Expr) (n : ℕ) → W at ≡ IF → ExprAt W E e (at + 1) n → ¬ (W n ≡ THEN) → GivesStatement d at (if_simple W at e n)
  unfolding if_simple
  compact-gives d at e n i k f = then-gives (λ x. Ended x.0 n x.1) _ _ _ (ended-gives n) (λ s r. compact refl i k f r.is r.ends r.after)

  plain-gives : (d at : ℕ) → GivesStatement d at (plain_statement W at)
  unfolding plain_statement
  plain-gives d at = then-gives (λ x. Ended x.0 at x.1) _ _ _ (ended-gives at) (λ s r. plain r.is r.ends r.after)

  -- where statements may nest deeper, the list inside is read so
  abbrev Deeper : ℕ → Option (Parser Statements) → Type 0
  Deeper d none = Unit {0}
  Deeper d (some list) = (0 < d) × ((at : ℕ) → GivesList (d - 1) at (list at))

  if-gives : (d : ℕ) (deeper : Option (Parser Statements)) → Deeper d deeper → (at : ℕ) → W at ≡ IF → GivesStatement d at (if_statement W deeper at)
  unfolding if_statement
  if-gives d none h at i = expr-then _ (at + 1) _ (λ e n k. chosen-gives _ (eqb (W n) THEN) _ _ (λ t. tt) (λ t. compact-gives d at e n i k (eqb-false _ _ t)))
  if-gives d (some list) h at i =
      expr-then _ (at + 1) _ (λ e n k.
      chosen-gives _ (eqb (W n) THEN) _ _ (λ t. then-list-gives d h.0 list h.1 at e n i k (eqb-true _ _ t)) (λ t. compact-gives d at e n i k (eqb-false _ _ t)))

  opening-gives : (d : ℕ) (deeper : Option (Parser Statements)) → Deeper d deeper → (compound : Parser Statements → Parser Statement) (at : ℕ)
      → (0 < d → (list : Parser Statements) → ((n : ℕ) → GivesList (d - 1) n (list n)) → GivesStatement d at (compound list at)) → GivesStatement d at (opening W deeper compound at)
  unfolding opening
  opening-gives d none h compound at f = tt
  opening-gives d (some list) h compound at f = f h.0 list h.1

  statement-gives : (d : ℕ) (deeper : Option (Parser Statements)) → Deeper d deeper → (at : ℕ) → GivesStatement d at (statement W deeper at)
  unfolding statement
  statement-gives d deeper h at =
      chosen-gives _ (eqb (W at) IF) _ _ (λ t. if-gives d deeper h at (eqb-true _ _ t)) (λ _.
      chosen-gives _ (eqb (W at) FOR) _ _ (λ t. opening-gives d deeper h _ at (λ z l k. for-gives d z l k at (eqb-true _ _ t))) (λ _.
      chosen-gives _ (eqb (W at) WHILE) _ _ (λ t. opening-gives d deeper h _ at (λ z l k. while-gives d z l k at (eqb-true _ _ t))) (λ _.
      chosen-gives _ (eqb (W at) TEST) _ _ (λ t. opening-gives d deeper h _ at (λ z l k. test-gives d z l k at (eqb-true _ _ t))) (λ _. plain-gives d at))))

  statements-gives : (d p : ℕ) (deeper : Option (Parser Statements)) → Deeper d deeper → (at : ℕ) → GivesList d at (statements W p deeper at)
  unfolding statements
  statements-gives d zero deeper h at = tt
  statements-gives d (suc p) deeper h at =
      forked-gives _ (starts_statement (W at)) _ _
      (λ t. then-gives (λ x. StatementAt W E d x.0 at x.1) _ _ _ (statement-gives d deeper h at) (λ s k.
      then-gives (λ x. ListAt W E d x.0 s.1 x.1) _ _ _ (statements-gives d p deeper h s.1) (λ r q. begun t k q)))
      (λ t. ended t refl)

  pub list-in-gives : (d at : ℕ) → GivesList d at (list_in W d at)
  unfolding list_in
  list-in-gives zero at = statements-gives zero parts none tt at
  list-in-gives (suc d) at = let z : suc d - 1 ≡ d = omega arith in statements-gives (suc d) parts (some (list_in W d)) (omega arith, rw z (list-in-gives d)) at

  list-gives : (at : ℕ) → GivesList nestings at (list W at)
  unfolding list
  list-gives at = list-in-gives nestings at

  -- ---- data
  abbrev GivesContent : ℕ → ℕ → Parsed (Content × ℕ) → Type 0
  GivesContent opens at p = Gives (λ x. ContentAt W E opens x.0 at x.1) p

  var-gives : (at : ℕ) → GivesContent VAR at (var_part W at)
  unfolding var_part initial_part size_part
  var-gives at =
      chosen-gives _ (eqb (W at) becomes) _ _ (λ t. expr-then _ (at + 1) _ (λ e n k. initial refl (eqb-true _ _ t) k)) (λ t.
      chosen-gives _ (eqb (W at) open_brace) _ _
      (λ u. expr-then _ (at + 1) _ (λ e n k. expect-then W _ close_brace n (n + 1) _ refl (λ c. sized refl (eqb-true _ _ u) k c refl)))
      (λ u. no-content refl (eqb-false _ _ t) (eqb-false _ _ u) refl))

  const-gives : (at : ℕ) → GivesContent CONST at (const_part W at)
  unfolding const_part
  const-gives at = expect-then W _ becomes at (at + 1) _ refl (λ b. expr-then _ (at + 1) _ (λ e n k. constant refl b k))

  datum-gives : (content : Parser Content) (at : ℕ) → GivesContent (W at) (at + 3) (content (at + 3)) → Gives (λ x. DeclaredAt W E x.0 at x.1) (datum W content at)
  unfolding datum
  datum-gives content at h =
      type-then W _ (at + 1) (at + 2) _ (omega arith) (λ t.
      expect-then W _ NAME (at + 2) (at + 3) _ (omega arith) (λ n.
      then-gives (λ x. ContentAt W E (W at) x.0 (at + 3) x.1) _ _ _ h (λ c k.
      expect-then W _ semicolon c.1 (c.1 + 1) _ refl (λ s. record { end = c.1; type = refl; typed = t; named = refl; name = n; content = k; ends = s; after = refl }))))

  declaration-gives : (at : ℕ) → starts_data (W at) ≡ true → Gives (λ x. DeclaredAt W E x.0 at x.1) (declaration W at)
  unfolding declaration starts_data
  declaration-gives at s =
      chosen-gives _ (eqb (W at) VAR) _ _
      (λ t. datum-gives (var_part W) at (rw (eqb-true (W at) VAR t) (var-gives (at + 3))))
      (λ t. datum-gives (const_part W) at (rw (eqb-true (W at) CONST (or_else _ _ s t)) (const-gives (at + 3))))

  declarations-gives : (at : ℕ) → Gives (λ x. DeclarationsAt W E x.0 at x.1) (declarations W at)
  unfolding declarations
  declarations-gives at = repeated-gives W (DeclaredAt W E) (declaration W) starts_data declaration-gives parts at

  -- ---- routines
  parameter-gives : (at : ℕ) → Gives (λ x. ParameterAt W E x.0 at x.1) (parameter W at)
  unfolding parameter
  parameter-gives at =
      type-then W _ at (at + 1) _ refl (λ t.
      expect-then W _ NAME (at + 1) (at + 2) _ (omega arith) (λ n. record { type = refl; typed = t; named = refl; name = n; after = refl }))

  parameters-gives : (at : ℕ) → Gives (λ x. ParametersAt W E x.0 at x.1) (parameters W at)
  unfolding parameters
  parameters-gives at = closed-gives W (ParameterAt W E) (parameter W) parameter-gives close_paren at

  behind-gives : (sort at : ℕ) → Gives (λ x. ListBehindAt W E sort x.0 at x.1) (list_behind W sort at)
  unfolding list_behind
  behind-gives sort at =
      forked-gives (λ x. ListBehindAt W E sort x.0 at x.1) (eqb (W at) sort) _ _
      (λ t. then-gives (λ x. ListAt W E nestings x.0 (at + 1) x.1) _ _ _ (list-gives (at + 1)) (λ l k. a-list (eqb-true _ _ t) (record { statements = k; closes = refl })))
      (λ t. no-list (eqb-false _ _ t) refl)

  from_gives : (result : Option ℕ) (closing at i : ℕ) → HeadAt W E result closing at i → Gives (λ x. RoutineAt W E x.0 at x.1) (routine_from W result closing i)
  unfolding routine_from
  from_gives result closing at i h =
      expect-then W _ NAME i (i + 1) _ refl (λ n.
      expect-then W _ open_paren (i + 1) (i + 2) _ (omega arith) (λ o.
      then-gives (λ x. ParametersAt W E x.0 (i + 2) x.1) _ _ _ (parameters-gives (i + 2)) (λ ps kp.
      expect-then W _ close_paren ps.1 (ps.1 + 1) _ refl (λ c.
      then-gives (λ x. DeclarationsAt W E x.0 (ps.1 + 1) x.1) _ _ _ (declarations-gives (ps.1 + 1)) (λ ds kd.
      then-gives (λ x. ListAt W E nestings x.0 ds.1 x.1) _ _ _ (list-gives ds.1) (λ ss k.
      then-gives (λ x. ListBehindAt W E ERROR x.0 ss.1 x.1) _ _ _ (behind-gives ERROR ss.1) (λ e ke.
      then-gives (λ x. ListBehindAt W E UNDO x.0 e.1 x.1) _ _ _ (behind-gives UNDO e.1) (λ u ku.
      expect-then W _ closing u.1 (u.1 + 1) _ refl (λ q.
      record {
        close = ps.1;
        begin = ds.1;
        undo_at = e.1;
        end = u.1;
        head = rw q h;
        name = n;
        opens = o;
        parameters = kp;
        closes = c;
        declared = kd;
        body = record { statements = k; closes = refl };
        handler = ke;
        undo = ku;
        after = refl;
      })))))))))

  routine-gives : (at : ℕ) → starts_routine (W at) ≡ true → Gives (λ x. RoutineAt W E x.0 at x.1) (routine W at)
  unfolding routine function starts_routine
  routine-gives at s =
      chosen-gives _ (eqb (W at) PROC) _ _
      (λ t. from_gives none ENDPROC at (at + 1) (a-proc (eqb-true _ _ t) refl refl))
      (λ t. type-then W _ (at + 1) (at + 2) _ (omega arith) (λ k. from_gives (some (W (at + 1))) ENDFUNC at (at + 2) (a-func (eqb-true _ _ (or_else _ _ s t)) refl k refl refl)))

  routines-gives : (at : ℕ) → Gives (λ x. RoutinesAt W E x.0 at x.1) (routines W at)
  unfolding routines
  routines-gives at = repeated-gives W (RoutineAt W E) (routine W) starts_routine routine-gives parts at

  -- ---- the module
  formed-gives : Gives (Stands W E) (formed W)
  unfolding formed
  formed-gives =
      expect-then W _ MODULE 0 1 _ refl (λ o.
      expect-then W _ NAME 1 2 _ refl (λ n.
      then-gives (λ x. DeclarationsAt W E x.0 2 x.1) _ _ _ (declarations-gives 2) (λ ds kd.
      then-gives (λ x. RoutinesAt W E x.0 ds.1 x.1) _ _ _ (routines-gives ds.1) (λ rs kr.
      expect-then W _ ENDMODULE rs.1 (rs.1 + 1) _ refl (λ c.
      expect-then W _ NOTHING (rs.1 + 1) (rs.1 + 2) _ (omega arith) (λ z.
      record { words = rs.1 + 1; form = record { begin = ds.1; end = rs.1; opens = o; name = n; declared = kd; routines = kr; closes = c; after = refl; nothing = z } }))))))

  pub formed-stands : (m : Module) → formed W ≡ got m → Stands W E m
  formed-stands m h = gives-got (Stands W E) (formed W) m formed-gives h

-- What the parser reads stands, with its own expressions.
pub formed-parses : (W : ℕ → ℕ) (m : Module) → formed W ≡ got m → Stands W (Parses W) m
formed-parses W m h = formed-stands W (Parses W) (λ d at e to k. k) m h
