-- What stands in the relation of specs/Form is what the paper's parser reads, if its words are few enough: one law for each thing that is read.
use mathlib.Core.Path.{◌≡◌, refl, sym, ap, subst, ◌∙◌}
use mathlib.Core.Bool.{Bool, true, false, ◌&&◌, ◌||◌}
use mathlib.Core.List.{List, []}
use mathlib.Core.Logic.{◌⊎◌, inl, inr}
use mathlib.Core.Option.{Option, none, some}
use Prim.Native.Nat.{ℕ, zero, suc, ◌+◌, ◌-◌, ◌<◌, ◌≤◌}
use native.Mathlib.Omega.{arith}
use lib.Dec.{eqb}
use borrow.Author.Tests.{eqb-true, eq-eqb, ne_eqb}
use Rattle.laws.proofs.Tests.{false-true}
use Rattle.std.specs.Prelude.{if◌then◌else◌}
use Rattle.paper.specs.Sorts.{NAME, STRING, NUM, NOTHING, CONST, close_brace, close_paren, open_brace, open_paren, comma, semicolon, becomes, colon, backslash, CASE, DEFAULT, DO, ELSE, ELSEIF, ENDFOR}
use Rattle.paper.specs.Sorts.{ENDFUNC, ENDIF, ENDMODULE, ENDPROC, ENDTEST, ENDWHILE, ERROR, EXIT, FROM, MODULE, PROC, RAISE, RETRY, RETURN, STEP, THEN, TO, TPREADNUM, TPWRITE, TRYNEXT, UNDO, VAR}
use Rattle.paper.specs.Trees.{Expr, Target, Simple, assign, assign_call, call, returns, raises, writes, reads, Statement, Statements, Arms, Cases, simple, compact_if, full_if, for, while, test, ◌then◌, Content, Declared, Parameter, RoutineList, Routine, Module}
use Rattle.paper.specs.Expressions.{Parsed, Parser, got, ◌>>=◌, parts, nestings, disjunctions, level_of, starts_data, starts_routine, starts_statement, expr_in, expr, unless, separated, repeated, exprs, arguments}
use Rattle.paper.specs.Statements.{target_index, target, value_side, call_side, right_side, assignment, procedure_call, started_by_name, with_optional, written, tp_write, tp_read_num, simple_word}
use Rattle.paper.specs.Statements.{simple_statement, else_part, last_arm, arms, if_then, if_simple, if_statement, step_part, for_statement, while_statement, default_part, last_case, cases, test_statement}
use Rattle.paper.specs.Statements.{opening, plain_statement, statement, statements, list_in, list}
use Rattle.paper.specs.Form.{initial_part, size_part, var_part, const_part, datum, declaration, declarations, parameter, parameters, list_behind, routine_from, function, routine, routines, formed}
use Rattle.grammar.specs.Form.{SeparatedAt, last_one, one_more, ClosedAt, closed-at-once, closed-later, RepeatedAt, none-starts, one-starts}
use Rattle.grammar.specs.Form.{ExprAt, ExprsAt, ArgumentsAt, IndexAt, no_index, in-braces, TargetAt, OptionalAt, no_value, a-value, NumberAt, no_number, a-number}
use Rattle.grammar.specs.Form.{SimpleAt, assigning, assigning-call, calling, returning, raising, exiting, retrying, trying-next, writing, reading, StepAt, no_step, a-step, ForHeadAt}
use Rattle.grammar.specs.Form.{StatementAt, plain, compact, full, counting, looping, testing, ListAt, ended, begun, ArmsAt, last-arm, more-arms, ElseAt, no-else, an-else, CasesAt, no-more-cases, one-case, DefaultAt, no_default, a-default}
use Rattle.grammar.specs.Form.{ContentAt, no-content, initial, sized, constant, DeclaredAt, DeclarationsAt, ParameterAt, ParametersAt, ListBehindIn, no-list, a-list, HeadAt, a-proc, a-func, RoutineIn, RoutinesIn, StandsIn}
use Rattle.grammar.proofs.Steps.{Comes, exactly, too-deep, too_long, done, through, bind-got, if-true, if-false, when_true, when_false, expect-on, type-on}
use Rattle.grammar.proofs.Levels.{Ends, closing-ends}
use Rattle.grammar.proofs.Inversions.{target-behind, Behind, behind-name, behind-brace}
use Rattle.grammar.proofs.Places.{separated-grows, repeated-grows, exprs-grow, arguments-grow, simple-grows, step-grows, statement-grows, list-grows, arms-grow, else-grows, cases-grow}
use Rattle.grammar.proofs.Places.{default-grows, declared-grows, declarations-grow, parameter-grows, behind-grows, routine-grows, routines-grow}

pub both_true : (a b : Bool) → a ≡ true → b ≡ true → (a && b) ≡ true
both_true true b e f = f
both_true false b e f = false-true e

pub not-both-false : (a b : Bool) → (a ≡ true → b ≡ true → ⊥) → (a && b) ≡ false
not-both-false true true h = absurd (h refl refl)
not-both-false true false h = refl
not-both-false false b h = refl

pub neither-false : (a b : Bool) → a ≡ false → b ≡ false → (a || b) ≡ false
neither-false true b e f = false-true (sym e)
neither-false false b e f = f

module _ (W : ℕ → ℕ) where
  -- ---- words that are behind an expression
  close_brace-ends : {i : ℕ} → W i ≡ close_brace → Ends disjunctions (W i)
  unfolding level_of
  close_brace-ends c = closing-ends close_brace c refl (λ z. omega arith)

  close_paren-ends : {i : ℕ} → W i ≡ close_paren → Ends disjunctions (W i)
  unfolding level_of
  close_paren-ends c = closing-ends close_paren c refl (λ z. omega arith)

  semicolon-ends : {i : ℕ} → W i ≡ semicolon → Ends disjunctions (W i)
  unfolding level_of
  semicolon-ends c = closing-ends semicolon c refl (λ z. omega arith)

  comma-ends : {i : ℕ} → W i ≡ comma → Ends disjunctions (W i)
  unfolding level_of
  comma-ends c = closing-ends comma c refl (λ z. omega arith)

  colon-ends : {i : ℕ} → W i ≡ colon → Ends disjunctions (W i)
  unfolding level_of
  colon-ends c = closing-ends colon c refl (λ z. omega arith)

  THEN-ends : {i : ℕ} → W i ≡ THEN → Ends disjunctions (W i)
  unfolding level_of
  THEN-ends c = closing-ends THEN c refl (λ z. omega arith)

  DO-ends : {i : ℕ} → W i ≡ DO → Ends disjunctions (W i)
  unfolding level_of
  DO-ends c = closing-ends DO c refl (λ z. omega arith)

  TO-ends : {i : ℕ} → W i ≡ TO → Ends disjunctions (W i)
  unfolding level_of
  TO-ends c = closing-ends TO c refl (λ z. omega arith)

  STEP-ends : {i : ℕ} → W i ≡ STEP → Ends disjunctions (W i)
  unfolding level_of
  STEP-ends c = closing-ends STEP c refl (λ z. omega arith)

  CASE-ends : {i : ℕ} → W i ≡ CASE → Ends disjunctions (W i)
  unfolding level_of
  CASE-ends c = closing-ends CASE c refl (λ z. omega arith)

  DEFAULT-ends : {i : ℕ} → W i ≡ DEFAULT → Ends disjunctions (W i)
  unfolding level_of
  DEFAULT-ends c = closing-ends DEFAULT c refl (λ z. omega arith)

  ENDTEST-ends : {i : ℕ} → W i ≡ ENDTEST → Ends disjunctions (W i)
  unfolding level_of
  ENDTEST-ends c = closing-ends ENDTEST c refl (λ z. omega arith)

  NAME-ends : {i : ℕ} → W i ≡ NAME → Ends disjunctions (W i)
  unfolding level_of
  NAME-ends c = closing-ends NAME c refl (λ z. omega arith)

  RETURN-ends : {i : ℕ} → W i ≡ RETURN → Ends disjunctions (W i)
  unfolding level_of
  RETURN-ends c = closing-ends RETURN c refl (λ z. omega arith)

  RAISE-ends : {i : ℕ} → W i ≡ RAISE → Ends disjunctions (W i)
  unfolding level_of
  RAISE-ends c = closing-ends RAISE c refl (λ z. omega arith)

  EXIT-ends : {i : ℕ} → W i ≡ EXIT → Ends disjunctions (W i)
  unfolding level_of
  EXIT-ends c = closing-ends EXIT c refl (λ z. omega arith)

  RETRY-ends : {i : ℕ} → W i ≡ RETRY → Ends disjunctions (W i)
  unfolding level_of
  RETRY-ends c = closing-ends RETRY c refl (λ z. omega arith)

  TRYNEXT-ends : {i : ℕ} → W i ≡ TRYNEXT → Ends disjunctions (W i)
  unfolding level_of
  TRYNEXT-ends c = closing-ends TRYNEXT c refl (λ z. omega arith)

  TPWRITE-ends : {i : ℕ} → W i ≡ TPWRITE → Ends disjunctions (W i)
  unfolding level_of
  TPWRITE-ends c = closing-ends TPWRITE c refl (λ z. omega arith)

  TPREADNUM-ends : {i : ℕ} → W i ≡ TPREADNUM → Ends disjunctions (W i)
  unfolding level_of
  TPREADNUM-ends c = closing-ends TPREADNUM c refl (λ z. omega arith)

module _ (D : Type 0) (T : ℕ → Type 0) (top : ℕ) (long : (j : ℕ) → parts ≤ j → j ≤ top → T j) (W : ℕ → ℕ) where
  -- ---- sequences
  module _ {A : Type 0} (One : A → (at to : ℕ) → Type 0) (one : Parser A) (grows : (a : A) (at to : ℕ) → One a at to → at < to) where
    module _ (Stop : ℕ → Type 0) (at-comma : (i : ℕ) → W i ≡ comma → Stop (W i)) (read : (a : A) (at to : ℕ) → One a at to → to ≤ top → Stop (W to) → Comes D T (one at) (got (a, to))) where
      separated-reads : (p : ℕ) {l : List A} {at to : ℕ} → SeparatedAt W One l at to → parts ≤ p + at → to ≤ top → Stop (W to) → Comes D T (separated W p one at) (got (l, to))
      unfolding separated
      separated-reads zero {at = at} h r w f = too_long at (long at (omega arith) (omega (arith, separated-grows W One grows h))) refl
      separated-reads (suc p) {to = to} (last_one {a = a} {at = at} k c) r w f = bind-got (one at) _ (a, to) (read a at to k w f) (when_false (eqb (W to) comma) _ _ (ne_eqb _ _ c) done)
      separated-reads (suc p) {to = to} (one_more {a = a} {r = l} {at = at} {n = n} k c h) r w f =
          bind-got (one at) _ (a, n) (read a at n k (omega (arith, separated-grows W One grows h)) (at-comma n c)) (
          when_true (eqb (W n) comma) _ _ (eq-eqb _ _ c) (bind-got (separated W p one (n + 1)) _ (l, to) (separated-reads p h (omega (arith, grows a at n k)) w f) done))

      closed-reads : (closing : ℕ) {l : List A} {at to : ℕ} → ClosedAt W One closing l at to → to ≤ top → Stop (W to) → Comes D T (if eqb (W at) closing then got ([], at) else separated W parts one at) (got (l, to))
      closed-reads closing {at = at} (closed-at-once c z) w f = if-true (eqb (W at) closing) _ _ (eq-eqb _ _ c) (rw z done)
      closed-reads closing {at = at} (closed-later c h) w f = if-false (eqb (W at) closing) _ _ (ne_eqb _ _ c) (separated-reads parts h (omega arith) w f)

    repeated-reads : (starts : ℕ → Bool) → ((a : A) (at to : ℕ) → One a at to → to ≤ top → Comes D T (one at) (got (a, to))) → (p : ℕ) {l : List A} {at to : ℕ} → RepeatedAt W starts One l at to → parts ≤ p + at → to ≤ top
        → Comes D T (repeated W p starts one at) (got (l, to))
    unfolding repeated
    repeated-reads starts read zero {at = at} h r w = too_long at (long at (omega arith) (omega (arith, repeated-grows W One grows h))) refl
    repeated-reads starts read (suc p) {at = at} {to = to} (none-starts s z) r w = when_false (starts (W at)) _ _ (ap (λ (i : ℕ). starts (W i)) (sym z) ∙ s) (rw z done)
    repeated-reads starts read (suc p) {to = to} (one-starts {a = a} {r = l} {at = at} {n = n} s k h) r w =
        when_true (starts (W at)) _ _ s (
        bind-got (one at) _ (a, n) (read a at n k (omega (arith, repeated-grows W One grows h))) (
        bind-got (repeated W p starts one n) _ (l, to) (repeated-reads starts read p h (omega (arith, grows a at n k)) w) done))

-- E's expressions are read, where the word behind them goes on none.
module _ (D : Type 0) (T : ℕ → Type 0) (top : ℕ) (long : (j : ℕ) → parts ≤ j → j ≤ top → T j) (W : ℕ → ℕ) (E : (d at : ℕ) → Expr → (to : ℕ) → Type 0) (grows : (d at : ℕ) (e : Expr) (to : ℕ) → E d at e to → at < to)
    (read : (d at : ℕ) (e : Expr) (to : ℕ) → E d at e to → to ≤ top → Ends disjunctions (W to) → Comes D T (expr_in W d at) (got (e, to)))
    (N : ℕ) (limited : nestings < N → D) where
  infix 4 ◌gives◌
  abbrev ◌gives◌ : {A : Type 0} → Parsed A → Parsed A → Type 0
  p gives r = Comes D T p r

  -- ---- expressions
  expr-reads : (e : Expr) (at to : ℕ) → ExprAt W E e at to → to ≤ top → Ends disjunctions (W to) → expr W at gives got (e, to)
  unfolding expr
  expr-reads e at to h w f = read (suc nestings) at e to h w f

  expr-on : {B : Type 0} {r : Parsed B} {e : Expr} {at to : ℕ} (f : Expr × ℕ → Parsed B) → ExprAt W E e at to → to ≤ top → Ends disjunctions (W to) → f (e, to) gives r → (expr W at >>= f) gives r
  expr-on {e = e} {at = at} {to = to} f h w s g = bind-got (expr W at) f (e, to) (expr-reads e at to h w s) g

  expr-grows : (e : Expr) (at to : ℕ) → ExprAt W E e at to → at < to
  expr-grows e at to h = grows (suc nestings) at e to h

  exprs-read : {es : List Expr} {at to : ℕ} → ExprsAt W E es at to → to ≤ top → Ends disjunctions (W to) → exprs W at gives got (es, to)
  unfolding exprs
  exprs-read h w f = separated-reads D T top long W (ExprAt W E) (expr W) expr-grows (Ends disjunctions) (λ i c. comma-ends W c) expr-reads parts h (omega arith) w f

  arguments-read : {closing : ℕ} {es : List Expr} {at to : ℕ} → ArgumentsAt W E closing es at to → to ≤ top → Ends disjunctions (W to) → arguments W closing at gives got (es, to)
  unfolding arguments exprs
  arguments-read {closing} h w f = closed-reads D T top long W (ExprAt W E) (expr W) expr-grows (Ends disjunctions) (λ i c. comma-ends W c) expr-reads closing h w f

  -- ---- simple statements
  target_at : {i : ℕ} {o : Option Expr} {at to : ℕ} → IndexAt W E o (at + 1) to → i ≡ at → W at ≡ NAME → to ≤ top → target W at gives got (record { name = i; index = o }, to)
  unfolding target target_index
  target_at {at = at} (no_index f z) i n w = when_true (eqb (W at) NAME) _ _ (eq-eqb _ _ n) (when_false (eqb (W (at + 1)) open_brace) _ _ (ne_eqb _ _ f) (rw (i, z) done))
  target_at {at = at} (in-braces {e = e} {n = m} b k c z) i n w =
      let q : at + 1 + 1 ≡ at + 2 = omega arith in
      let g = grows nestings (at + 1 + 1) e m k in
      when_true (eqb (W at) NAME) _ _ (eq-eqb _ _ n) (when_true (eqb (W (at + 1)) open_brace) _ _ (eq-eqb _ _ b) (
      bind-got (expr_in W nestings (at + 2)) _ (e, m) (through (ap (expr_in W nestings) (sym q)) (read nestings (at + 1 + 1) e m k (omega arith) (close_brace-ends W c))) (
      expect-on W close_brace m (m + 1) _ refl c (rw (i, z) done))))

  target-reads : {t : Target} {at to : ℕ} → TargetAt W E t at to → to ≤ top → target W at gives got (t, to)
  target-reads h w = target_at h.index h.named h.name w

  value-side : (t : Target) (n : ℕ) {e : Expr} {to : ℕ} → (W (n + 1) ≡ NAME → W (n + 2) ≡ open_paren → ⊥) → ExprAt W E e (n + 1) to → to ≤ top → W to ≡ semicolon
      → right_side W t (n + 1) gives got (assign t e, to)
  unfolding right_side value_side
  value-side t n f k w s =
      let z : n + 1 + 1 ≡ n + 2 = omega arith in
      if-false (eqb (W (n + 1)) NAME && eqb (W (n + 1 + 1)) open_paren) _ _ (not-both-false _ _ (λ a b. f (eqb-true _ _ a) (ap W (sym z) ∙ eqb-true _ _ b))) (expr-on _ k w (semicolon-ends W s) done)

  call-side : (t : Target) (n : ℕ) {es : List Expr} {m to : ℕ} → W (n + 1) ≡ NAME → W (n + 2) ≡ open_paren → ArgumentsAt W E close_paren es (n + 3) m → W m ≡ close_paren → to ≡ m + 1 → to ≤ top
      → right_side W t (n + 1) gives got (assign_call t (n + 1) es, to)
  unfolding right_side call_side
  call-side t n {es} {m} a o k c z w =
      let p : n + 1 + 1 ≡ n + 2 = omega arith in
      let q : n + 1 + 2 ≡ n + 3 = omega arith in
      if-true (eqb (W (n + 1)) NAME && eqb (W (n + 1 + 1)) open_paren) _ _ (both_true _ _ (eq-eqb _ _ a) (eq-eqb _ _ (ap W p ∙ o))) (
      bind-got (arguments W close_paren (n + 1 + 2)) _ (es, m) (through (ap (arguments W close_paren) q) (arguments-read k (omega arith) (close_paren-ends W c))) (expect-on W close_paren m (m + 1) _ refl c (rw z done)))

  assigned : {t : Target} {at n : ℕ} {r : Parsed (Simple × ℕ)} → TargetAt W E t at n → W n ≡ becomes → n ≤ top → right_side W t (n + 1) gives r → started_by_name W at gives r
  unfolding started_by_name assignment
  assigned {t} {at} {n} {r} h b w k = by (target-behind W E h b)
    where
      whole : assignment W at gives r
      whole = bind-got (target W at) _ (t, n) (target-reads h w) (expect-on W becomes n (n + 1) _ refl b k)

      by : Behind W E (W (at + 1)) → started_by_name W at gives r
      by (behind-name e) = if-true (eqb (W (at + 1)) becomes || eqb (W (at + 1)) open_brace) _ _ (rw e) whole
      by (behind-brace e) = if-true (eqb (W (at + 1)) becomes || eqb (W (at + 1)) open_brace) _ _ (rw e) whole

  called : {es : List Expr} {at to : ℕ} → ¬ (W (at + 1) ≡ becomes) → ¬ (W (at + 1) ≡ open_brace) → ArgumentsAt W E semicolon es (at + 1) to → to ≤ top → W to ≡ semicolon → started_by_name W at gives got (call at es, to)
  unfolding started_by_name procedure_call
  called {es} {at} {to} f g k w s =
      if-false (eqb (W (at + 1)) becomes || eqb (W (at + 1)) open_brace) _ _ (neither-false _ _ (ne_eqb _ _ f) (ne_eqb _ _ g)) (bind-got (arguments W semicolon (at + 1)) _ (es, to) (arguments-read k w (semicolon-ends W s)) done)

  unless-reads : {o : Option Expr} {at to : ℕ} → OptionalAt W E o at to → to ≤ top → W to ≡ semicolon → unless W semicolon at gives got (o, to)
  unfolding unless
  unless-reads {at = at} (no_value e z) w s = when_true (eqb (W at) semicolon) _ _ (eq-eqb _ _ e) (rw z done)
  unless-reads {at = at} (a-value f k) w s = when_false (eqb (W at) semicolon) _ _ (ne_eqb _ _ f) (expr-on _ k w (semicolon-ends W s) done)

  optional-reads : (make : ℕ → Option Expr → Simple) {o : Option Expr} {at to : ℕ} → OptionalAt W E o (at + 1) to → to ≤ top → W to ≡ semicolon → with_optional W make at gives got (make at o, to)
  unfolding with_optional
  optional-reads make {o} {at} {to} k w s = bind-got (unless W semicolon (at + 1)) _ (o, to) (unless-reads k w s) done

  written-reads : {o : Option Expr} {at to : ℕ} → NumberAt W E o at to → to ≤ top → W to ≡ semicolon → written W at gives got (o, to)
  unfolding written
  written-reads {at = at} (no_number f z) w s = when_false (eqb (W at) backslash) _ _ (ne_eqb _ _ f) (rw z done)
  written-reads {at = at} (a-number b n c k) w s =
      when_true (eqb (W at) backslash) _ _ (eq-eqb _ _ b) (expect-on W NUM (at + 1) (at + 2) _ (omega arith) n (expect-on W becomes (at + 2) (at + 3) _ (omega arith) c (expr-on _ k w (semicolon-ends W s) done)))

  write-reads : {o : Option Expr} {at to : ℕ} → W (at + 1) ≡ STRING → NumberAt W E o (at + 2) to → to ≤ top → W to ≡ semicolon → tp_write W at gives got (writes at (at + 1) o, to)
  unfolding tp_write
  write-reads {o} {at} {to} s k w e = expect-on W STRING (at + 1) (at + 2) _ (omega arith) s (bind-got (written W (at + 2)) _ (o, to) (written-reads k w e) done)

  read-reads : {t : Target} {at n to : ℕ} → TargetAt W E t (at + 1) n → W n ≡ comma → W (n + 1) ≡ STRING → to ≡ n + 2 → to ≤ top → tp_read_num W at gives got (reads at t (n + 1), to)
  unfolding tp_read_num
  read-reads {t} {at} {n} k c s z w =
      bind-got (target W (at + 1)) _ (t, n) (target-reads k (omega arith)) (expect-on W comma n (n + 1) _ refl c (expect-on W STRING (n + 1) (n + 2) _ (omega arith) s (rw z done)))

  simple-reads : {s : Simple} {at to : ℕ} → SimpleAt W E s at to → to ≤ top → W to ≡ semicolon → simple_word W at gives got (s, to)
  unfolding simple_word
  simple-reads (assigning h b f k) w s = rw (h.name, simple_word) (assigned h b (omega (arith, expr-grows _ _ _ k)) (value-side _ _ f k w s))
  simple-reads (assigning-call h b i a o k c z) w s = rw (h.name, simple_word) (assigned h b (omega (arith, arguments-grow W E grows k)) (rw i (call-side _ _ a o k c z w)))
  simple-reads (calling i a f g k) w s = rw (a, simple_word) (rw i (called f g k w s))
  simple-reads (returning i a k) w s = rw (a, simple_word) (rw i (optional-reads returns k w s))
  simple-reads (raising i a k) w s = rw (a, simple_word) (rw i (optional-reads raises k w s))
  simple-reads (exiting i a z) w s = rw (a, simple_word) (rw (i, z) done)
  simple-reads (retrying i a z) w s = rw (a, simple_word) (rw (i, z) done)
  simple-reads (trying-next i a z) w s = rw (a, simple_word) (rw (i, z) done)
  simple-reads (writing i a j q k) w s = rw (a, simple_word) (rw (i, j) (write-reads q k w s))
  simple-reads (reading i a h c j q z) w s = rw (a, simple_word) (rw (i, j) (read-reads h c q z w))

  -- a simple statement begins with no operator
  simple-ends : {s : Simple} {at to : ℕ} → SimpleAt W E s at to → Ends disjunctions (W at)
  simple-ends (assigning h b f k) = NAME-ends W h.name
  simple-ends (assigning-call h b i a o k c z) = NAME-ends W h.name
  simple-ends (calling i a f g k) = NAME-ends W a
  simple-ends (returning i a k) = RETURN-ends W a
  simple-ends (raising i a k) = RAISE-ends W a
  simple-ends (exiting i a z) = EXIT-ends W a
  simple-ends (retrying i a z) = RETRY-ends W a
  simple-ends (trying-next i a z) = TRYNEXT-ends W a
  simple-ends (writing i a j q k) = TPWRITE-ends W a
  simple-ends (reading i a h c j q z) = TPREADNUM-ends W a

  ended-reads : {s : Simple} {at n to : ℕ} → SimpleAt W E s at n → W n ≡ semicolon → to ≡ n + 1 → to ≤ top → simple_statement W at gives got (s, to)
  unfolding simple_statement
  ended-reads {s} {at} {n} k e z w = bind-got (simple_word W at) _ (s, n) (simple-reads k (omega arith) e) (expect-on W semicolon n (n + 1) _ refl e (rw z done))

  -- ---- compound statements: `list` reads what stands inside
  abbrev ListReads : ℕ → Parser Statements → Type 0
  ListReads d list = (l : Statements) (at to : ℕ) → ListAt W E d l at to → to ≤ top → list at gives got (l, to)

  module _ (d : ℕ) (list : Parser Statements) (h : ListReads d list) where
    list_on : {B : Type 0} {r : Parsed B} {l : Statements} {at to : ℕ} (f : Statements × ℕ → Parsed B) → ListAt W E d l at to → to ≤ top → f (l, to) gives r → (list at >>= f) gives r
    list_on {l = l} {at = at} {to = to} f k w g = bind-got (list at) f (l, to) (h l at to k w) g

    else-reads : {o : Statements} {at to : ℕ} → ElseAt W E d o at to → to ≤ top → else_part W list at gives got (o, to)
    unfolding else_part
    else-reads {at = at} (no-else f z) w = when_false (eqb (W at) ELSE) _ _ (ne_eqb _ _ f) (rw z done)
    else-reads {o} {at} {to} (an-else e k) w = when_true (eqb (W at) ELSE) _ _ (eq-eqb _ _ e) (h o (at + 1) to k w)

    -- the first condition of an IF, and what is read behind its THEN
    record ArmsLeft (p : ℕ) (a : Arms) (o : Statements) (at to : ℕ) : Type 0 where
      e : Expr
      j : ℕ
      condition : ExprAt W E e at j
      then_word : W j ≡ THEN
      before : j < to
      left : arms W p list e (j + 1) gives got ((a, o), to)

    arms-read : (p : ℕ) {a : Arms} {o : Statements} {at n m to : ℕ} → ArmsAt W E d a at n → parts ≤ p + at → ElseAt W E d o n m → W m ≡ ENDIF → to ≡ m + 1 → to ≤ top → ArmsLeft p a o at to
    unfolding arms last_arm
    arms-read zero {at = at} (last-arm {e = e} {n = j} k t l f) r q c z w =
        let g = list-grows W E grows l in
        let i = else-grows W E grows q in
        let y = expr-grows _ _ _ k in
        record { e = e; j = j; condition = k; then_word = t; before = omega arith; left = too_long (j + 1) (long (j + 1) (omega arith) (omega arith)) refl }
    arms-read zero {at = at} (more-arms {e = e} {n = j} k t l f s) r q c z w =
        let g = list-grows W E grows l in
        let i = else-grows W E grows q in
        let v = arms-grow W E grows s in
        let y = expr-grows _ _ _ k in
        record { e = e; j = j; condition = k; then_word = t; before = omega arith; left = too_long (j + 1) (long (j + 1) (omega arith) (omega arith)) refl }
    arms-read (suc p) {o = o} {n = n} {m = m} {to = to} (last-arm {e = e} {b = b} {n = j} k t l f) r q c z w =
        let g = list-grows W E grows l in
        let i = else-grows W E grows q in
        record {
          e = e;
          j = j;
          condition = k;
          then_word = t;
          before = omega arith;
          left = list_on _ l (omega arith) (when_false (eqb (W n) ELSEIF) _ _ (ne_eqb _ _ f) (bind-got (else_part W list n) _ (o, m) (else-reads q (omega arith)) (expect-on W ENDIF m (m + 1) _ refl c (rw z done))));
        }
    arms-read (suc p) {o = o} {to = to} (more-arms {e = e} {b = b} {r = a} {n = j} {m = i} k t l f s) r q c z w =
        let g = list-grows W E grows l in
        let u = arms-read p s (omega (arith, expr-grows _ _ _ k)) q c z w in
        let v = expr-grows _ _ _ u.condition in
        let y = u.before in
        record {
          e = e;
          j = j;
          condition = k;
          then_word = t;
          before = omega arith;
          left = list_on _ l (omega arith) (when_true (eqb (W i) ELSEIF) _ _ (eq-eqb _ _ f) (
              expr-on _ u.condition (omega arith) (THEN-ends W u.then_word) (expect-on W THEN u.j (u.j + 1) _ refl u.then_word (bind-got (arms W p list u.e (u.j + 1)) _ ((a, o), to) u.left done))));
        }

    step-reads : {o : Option Expr} {at to : ℕ} → StepAt W E o at to → to ≤ top → W to ≡ DO → step_part W at gives got (o, to)
    unfolding step_part
    step-reads {at = at} (no_step f z) w c = when_false (eqb (W at) STEP) _ _ (ne_eqb _ _ f) (rw z done)
    step-reads {at = at} (a-step s k) w c = when_true (eqb (W at) STEP) _ _ (eq-eqb _ _ s) (expr-on _ k w (DO-ends W c) done)

    step-ends : {o : Option Expr} {at to : ℕ} → StepAt W E o at to → W to ≡ DO → Ends disjunctions (W at)
    step-ends {at = at} (no_step f z) c = DO-ends W (ap W (sym z) ∙ c)
    step-ends (a-step s k) c = STEP-ends W s

    for-reads : {v : ℕ} {a b : Expr} {c : Option Expr} {l : Statements} {at n end to : ℕ} → ForHeadAt W E v a b c at n → ListAt W E d l (n + 1) end → W end ≡ ENDFOR → to ≡ end + 1 → to ≤ top
        → for_statement W list at gives got (for at v a b c l end, to)
    unfolding for_statement
    for-reads {c = c} {at = at} {n = n} {end = end} k l e z w =
        let g = list-grows W E grows l in
        let i = step-grows W E grows k.step_part in
        let j = expr-grows _ _ _ k.end in
        expect-on W NAME (at + 1) (at + 2) _ (omega arith) k.name (
        expect-on W FROM (at + 2) (at + 3) _ (omega arith) k.from_word (
        expr-on _ k.start (omega arith) (TO-ends W k.to_word) (
        expect-on W TO k.to_at (k.to_at + 1) _ refl k.to_word (
        expr-on _ k.end (omega arith) (step-ends k.step_part k.do_word) (
        bind-got (step_part W k.step_at) _ (c, n) (step-reads k.step_part (omega arith) k.do_word) (
        expect-on W DO n (n + 1) _ refl k.do_word (
        list_on _ l (omega arith) (
        expect-on W ENDFOR end (end + 1) _ refl e (rw (z, k.variable) done)))))))))

    while-reads : {e : Expr} {l : Statements} {at n m to : ℕ} → ExprAt W E e (at + 1) n → W n ≡ DO → ListAt W E d l (n + 1) m → W m ≡ ENDWHILE → to ≡ m + 1 → to ≤ top
        → while_statement W list at gives got (while at e l, to)
    unfolding while_statement
    while-reads {n = n} {m = m} k o l c z w =
        let g = list-grows W E grows l in
        expr-on _ k (omega arith) (DO-ends W o) (expect-on W DO n (n + 1) _ refl o (list_on _ l (omega arith) (expect-on W ENDWHILE m (m + 1) _ refl c (rw z done))))

    default-reads : {o : Statements} {at to : ℕ} → DefaultAt W E d o at to → to ≤ top → default_part W list at gives got (o, to)
    unfolding default_part
    default-reads {at = at} (no_default f z) w = when_false (eqb (W at) DEFAULT) _ _ (ne_eqb _ _ f) (rw z done)
    default-reads {o} {at} {to} (a-default e c k) w = when_true (eqb (W at) DEFAULT) _ _ (eq-eqb _ _ e) (expect-on W colon (at + 1) (at + 2) _ (omega arith) c (h o (at + 2) to k w))

    cases-read : (p : ℕ) {c : Cases} {o : Statements} {at m k to : ℕ} → CasesAt W E d c at m → parts ≤ p + at → DefaultAt W E d o m k → W k ≡ ENDTEST → to ≡ k + 1 → to ≤ top
        → cases W p list at gives got ((c, o), to)
    unfolding cases last_case
    cases-read zero {at = at} s r q c z w = too_long at (long at (omega arith) (omega (arith, cases-grow W E grows s, default-grows W E grows q))) refl
    cases-read (suc p) {o = o} {at = at} {m = m} {k = k} (no-more-cases f y) r q c z w =
        when_false (eqb (W at) CASE) _ _ (ne_eqb _ _ (λ t. f (ap W y ∙ t))) (
        bind-got (default_part W list at) _ (o, k) (default-reads (subst (λ (i : ℕ). DefaultAt W E d o i k) y q) (omega arith)) (expect-on W ENDTEST k (k + 1) _ refl c (rw z done)))
    cases-read (suc p) {o = o} {at = at} {k = k} {to = to} (one-case {cs = cs} {b = b} {r = a} {n = n} {m = j} i es x l s) r q c z w =
        let g = list-grows W E grows l in
        let y = cases-grow W E grows s in
        let v = default-grows W E grows q in
        when_true (eqb (W at) CASE) _ _ (eq-eqb _ _ i) (
        bind-got (exprs W (at + 1)) _ (cs, n) (exprs-read es (omega arith) (colon-ends W x)) (
        expect-on W colon n (n + 1) _ refl x (
        list_on _ l (omega arith) (
        bind-got (cases W p list j) _ ((a, o), to) (cases-read p s (omega (arith, exprs-grow W E grows es)) q c z w) done))))

    -- what is behind the selector
    cases_end : {c : Cases} {o : Statements} {at m k : ℕ} → CasesAt W E d c at m → DefaultAt W E d o m k → W k ≡ ENDTEST → Ends disjunctions (W at)
    cases_end (one-case i es x l s) q c = CASE-ends W i
    cases_end {at = at} (no-more-cases f y) (no_default g z) c = ENDTEST-ends W (ap W (sym y) ∙ ap W (sym z) ∙ c)
    cases_end {at = at} (no-more-cases f y) (a-default e x k) c = DEFAULT-ends W (ap W (sym y) ∙ e)

    test-reads : {e : Expr} {c : Cases} {o : Statements} {at n m k to : ℕ} → ExprAt W E e (at + 1) n → CasesAt W E d c n m → DefaultAt W E d o m k → W k ≡ ENDTEST → to ≡ k + 1 → to ≤ top
        → test_statement W list at gives got (test at e c o, to)
    unfolding test_statement
    test-reads {c = c} {o = o} {n = n} {to = to} x s q t z w =
        let y = cases-grow W E grows s in
        let v = default-grows W E grows q in
        expr-on _ x (omega arith) (cases_end s q t) (bind-got (cases W parts list n) _ ((c, o), to) (cases-read parts s (omega arith) q t z w) done)

    if-reads : {a : Arms} {o : Statements} {at n m to : ℕ} → ArmsAt W E d a (at + 1) n → ElseAt W E d o n m → W m ≡ ENDIF → to ≡ m + 1 → to ≤ top → if_statement W (some list) at gives got (full_if at a o, to)
    unfolding if_statement if_then
    if-reads {a} {o} {at} {n} {m} {to} k q c z w =
        let i = else-grows W E grows q in
        let u = arms-read parts k (omega arith) q c z w in
        let y = u.before in
        expr-on _ u.condition (omega arith) (THEN-ends W u.then_word) (if-true (eqb (W u.j) THEN) _ _ (eq-eqb _ _ u.then_word) (bind-got (arms W parts list u.e (u.j + 1)) _ ((a, o), to) u.left done))

  compact-reads : (deeper : Option (Parser Statements)) {e : Expr} {s : Simple} {at n m to : ℕ} → ExprAt W E e (at + 1) n → ¬ (W n ≡ THEN) → SimpleAt W E s n m → W m ≡ semicolon → to ≡ m + 1 → to ≤ top
      → if_statement W deeper at gives got (compact_if at e s, to)
  unfolding if_statement if_simple
  compact-reads deeper {s = s} {n = n} {to = to} k f h c z w =
      let g = simple-grows W E grows h in
      expr-on _ k (omega arith) (simple-ends h) (if-false (eqb (W n) THEN) _ _ (ne_eqb _ _ f) (bind-got (simple_statement W n) _ (s, to) (ended-reads h c z w) done))

  -- where statements may nest deeper, the list inside is read
  abbrev DeepReads : ℕ → Option (Parser Statements) → Type 0
  DeepReads d none = 0 < d → D
  DeepReads d (some list) = ListReads (d - 1) list

  -- a word that a simple statement begins with opens no compound one
  simple-plain : (deeper : Option (Parser Statements)) {s : Simple} {at n : ℕ} → SimpleAt W E s at n → statement W deeper at ≡ plain_statement W at
  unfolding statement
  simple-plain deeper (assigning h b f k) = rw (h.name, statement)
  simple-plain deeper (assigning-call h b i a o k c z) = rw (h.name, statement)
  simple-plain deeper (calling i a f g k) = rw (a, statement)
  simple-plain deeper (returning i a k) = rw (a, statement)
  simple-plain deeper (raising i a k) = rw (a, statement)
  simple-plain deeper (exiting i a z) = rw (a, statement)
  simple-plain deeper (retrying i a z) = rw (a, statement)
  simple-plain deeper (trying-next i a z) = rw (a, statement)
  simple-plain deeper (writing i a j q k) = rw (a, statement)
  simple-plain deeper (reading i a h c j q z) = rw (a, statement)

  plain-reads : {s : Simple} {at n to : ℕ} → SimpleAt W E s at n → W n ≡ semicolon → to ≡ n + 1 → to ≤ top → plain_statement W at gives got (simple s, to)
  unfolding plain_statement
  plain-reads {s} {at} {to = to} k e z w = bind-got (simple_statement W at) _ (s, to) (ended-reads k e z w) done

  too-deep-if : {d : ℕ} {a : Arms} (at : ℕ) {n : ℕ} {r : Parsed (Statement × ℕ)} → ArmsAt W E d a (at + 1) n → D → n ≤ top → if_statement W none at gives r
  unfolding if_statement
  too-deep-if at (last-arm {n = j} k t l f) x w = expr-on _ k (omega (arith, list-grows W E grows l)) (THEN-ends W t) (if-true (eqb (W j) THEN) _ _ (eq-eqb _ _ t) (too-deep j x refl))
  too-deep-if at (more-arms {n = j} k t l f s) x w = expr-on _ k (omega (arith, list-grows W E grows l, arms-grow W E grows s)) (THEN-ends W t) (if-true (eqb (W j) THEN) _ _ (eq-eqb _ _ t) (too-deep j x refl))

  statement-reads : (d : ℕ) (deeper : Option (Parser Statements)) → DeepReads d deeper → {s : Statement} {at to : ℕ} → StatementAt W E d s at to → to ≤ top → statement W deeper at gives got (s, to)
  unfolding statement opening
  statement-reads d deeper h (plain k e z) w = through (simple-plain deeper k) (plain-reads k e z w)
  statement-reads d deeper h (compact i a k f s c z) w = rw (a, statement) (rw i (compact-reads deeper k f s c z w))
  statement-reads d none h (full {at = at} deep i a k q c z) w = rw (a, statement) (too-deep-if at k (h deep) (omega (arith, else-grows W E grows q)))
  statement-reads d none h (counting {at = at} deep i k l e z) w = rw (k.opens, statement) (too-deep at (h deep) refl)
  statement-reads d none h (looping {at = at} deep i a k o l c z) w = rw (a, statement) (too-deep at (h deep) refl)
  statement-reads d none h (testing {at = at} deep i a k s q t z) w = rw (a, statement) (too-deep at (h deep) refl)
  statement-reads d (some list) h (full deep i a k q c z) w = rw (a, statement) (rw i (if-reads (d - 1) list h k q c z w))
  statement-reads d (some list) h (counting deep i k l e z) w = rw (k.opens, statement) (rw i (for-reads (d - 1) list h k l e z w))
  statement-reads d (some list) h (looping deep i a k o l c z) w = rw (a, statement) (rw i (while-reads (d - 1) list h k o l c z w))
  statement-reads d (some list) h (testing deep i a k s q t z) w = rw (a, statement) (rw i (test-reads (d - 1) list h k s q t z w))

  statements-read : (d : ℕ) (deeper : Option (Parser Statements)) → DeepReads d deeper → (p : ℕ) {l : Statements} {at to : ℕ} → ListAt W E d l at to → parts ≤ p + at → to ≤ top
      → statements W p deeper at gives got (l, to)
  unfolding statements
  statements-read d deeper h zero {at = at} k r w = too_long at (long at (omega arith) (omega (arith, list-grows W E grows k))) refl
  statements-read d deeper h (suc p) {at = at} (ended s z) r w = when_false (starts_statement (W at)) _ _ (ap (λ (i : ℕ). starts_statement (W i)) (sym z) ∙ s) (rw z done)
  statements-read d deeper h (suc p) {at = at} {to = to} (begun {s = s} {r = l} {n = n} t k q) r w =
      let g = list-grows W E grows q in
      when_true (starts_statement (W at)) _ _ t (
      bind-got (statement W deeper at) _ (s, n) (statement-reads d deeper h k (omega arith)) (
      bind-got (statements W p deeper n) _ (l, to) (statements-read d deeper h p q (omega (arith, statement-grows W E grows k)) w) done))

  -- statements that nest to n, read where they may nest to d
  list-in-reads : (d n : ℕ) → (d < n → D) → ListReads n (list_in W d)
  unfolding list_in
  list-in-reads zero n x l at to k w = statements-read n none x parts k (omega arith) w
  list-in-reads (suc d) n x l at to k w = statements-read n (some (list_in W d)) (list-in-reads d (n - 1) (λ z. x (omega arith))) parts k (omega arith) w

  list-reads : {l : Statements} {at to : ℕ} → ListAt W E N l at to → to ≤ top → list W at gives got (l, to)
  unfolding list
  list-reads {l} {at} {to} k w = list-in-reads nestings N limited l at to k w

  -- ---- data
  record Contents (opens : ℕ) (c : Content) (at to : ℕ) : Type 0 where
    var : opens ≡ VAR → var_part W at gives got (c, to)
    const : opens ≡ CONST → const_part W at gives got (c, to)
    one : (opens ≡ VAR) ⊎ (opens ≡ CONST)

  other : {A : Type 0} {s : ℕ} → s ≡ VAR → s ≡ CONST → A
  other v c = absurd (omega (arith, v, c))

  content-reads : {opens : ℕ} {c : Content} {at to : ℕ} → ContentAt W E opens c at to → W to ≡ semicolon → to ≤ top → Contents opens c at to
  unfolding var_part const_part initial_part size_part
  content-reads {at = at} (no-content v f g z) s w =
      record { one = inl v; const = λ c. other v c; var = λ _. if-false (eqb (W at) becomes) _ _ (ne_eqb _ _ f) (if-false (eqb (W at) open_brace) _ _ (ne_eqb _ _ g) (rw z done)) }
  content-reads {at = at} (initial v b k) s w =
      record { one = inl v; const = λ c. other v c; var = λ _. if-true (eqb (W at) becomes) _ _ (eq-eqb _ _ b) (expr-on _ k w (semicolon-ends W s) done) }
  content-reads {at = at} (sized {n = n} v b k c z) s w =
      record {
        one = inl v;
        const = λ c. other v c;
        var = λ _. if-false (eqb (W at) becomes) _ _ (rw b) (if-true (eqb (W at) open_brace) _ _ (eq-eqb _ _ b) (expr-on _ k (omega arith) (close_brace-ends W c) (expect-on W close_brace n (n + 1) _ refl c (rw z done))));
      }
  content-reads {at = at} (constant v b k) s w =
      record { one = inr v; var = λ c. other c v; const = λ _. expect-on W becomes at (at + 1) _ refl b (expr-on _ k w (semicolon-ends W s) done) }

  datum-reads : (content : Parser Content) (x : Declared) (at to : ℕ) (h : DeclaredAt W E x at to) → content (at + 3) gives got (x.content, h.end) → datum W content at gives got (x, to)
  unfolding datum
  datum-reads content x at to h k =
      type-on W (at + 1) (at + 2) _ (omega arith) h.typed (
      expect-on W NAME (at + 2) (at + 3) _ (omega arith) h.name (
      bind-got (content (at + 3)) _ (x.content, h.end) k (
      expect-on W semicolon h.end (h.end + 1) _ refl h.ends (exactly (made h.type h.named h.after)))))
    where
      made : {ty nm : ℕ} {c : Content} {i j : ℕ} → ty ≡ W (at + 1) → nm ≡ at + 2 → i ≡ j → ◌≡◌ {A = Parsed (Declared × ℕ)} (got (record { type = W (at + 1); name = at + 2; content = c }, j)) (got (record { type = ty; name = nm; content = c }, i))
      made a b z = rw (a, b, z)

  declaration-reads : (x : Declared) (at to : ℕ) → DeclaredAt W E x at to → to ≤ top → declaration W at gives got (x, to)
  unfolding declaration
  declaration-reads x at to h w = by c.one
    where
      c : Contents (W at) x.content (at + 3) h.end
      c = content-reads h.content h.ends (omega (arith, h.after))

      by : (W at ≡ VAR) ⊎ (W at ≡ CONST) → declaration W at gives got (x, to)
      by (inl v) = if-true (eqb (W at) VAR) _ _ (eq-eqb _ _ v) (datum-reads (var_part W) x at to h (c.var v))
      by (inr v) = if-false (eqb (W at) VAR) _ _ (rw v) (datum-reads (const_part W) x at to h (c.const v))

  declarations-read : {ds : List Declared} {at to : ℕ} → DeclarationsAt W E ds at to → to ≤ top → declarations W at gives got (ds, to)
  unfolding declarations
  declarations-read h w = repeated-reads D T top long W (DeclaredAt W E) (declaration W) (declared-grows W E grows) starts_data declaration-reads parts h (omega arith) w

  -- ---- routines
  parameter-reads : (p : Parameter) (at to : ℕ) → ParameterAt W E p at to → parameter W at gives got (p, to)
  unfolding parameter
  parameter-reads p at to h =
      type-on W at (at + 1) _ refl h.typed (expect-on W NAME (at + 1) (at + 2) _ (omega arith) h.name (exactly (made h.type h.named h.after)))
    where
      made : {ty nm i j : ℕ} → ty ≡ W at → nm ≡ at + 1 → i ≡ j → ◌≡◌ {A = Parsed (Parameter × ℕ)} (got (record { type = W at; name = at + 1 }, j)) (got (record { type = ty; name = nm }, i))
      made a b z = rw (a, b, z)

  parameters-read : {ps : List Parameter} {at to : ℕ} → ParametersAt W E ps at to → to ≤ top → parameters W at gives got (ps, to)
  unfolding parameters
  parameters-read h w = closed-reads D T top long W (ParameterAt W E) (parameter W) (parameter-grows W E grows) (λ s. Unit {0}) (λ i c. tt) (λ p at to k _ _. parameter-reads p at to k) close_paren h w tt

  behind-reads : {sort : ℕ} {o : Option RoutineList} {at to : ℕ} → ListBehindIn W E N sort o at to → to ≤ top → list_behind W sort at gives got (o, to)
  unfolding list_behind
  behind-reads {sort} {at = at} (no-list f z) w = when_false (eqb (W at) sort) _ _ (ne_eqb _ _ f) (rw z done)
  behind-reads {sort} {at = at} {to = to} (a-list {l = l} e k) w =
      when_true (eqb (W at) sort) _ _ (eq-eqb _ _ e) (bind-got (list W (at + 1)) _ (l.statements, to) (list-reads k.statements w) (exactly (made k.closes)))
    where
      made : {ss : Statements} {i j : ℕ} → i ≡ j → ◌≡◌ {A = Parsed (Option RoutineList × ℕ)} (got (some (record { statements = ss; closes = j }), j)) (got (some (record { statements = ss; closes = i }), j))
      made z = rw z

  from-reads : (r : Routine) (at to : ℕ) (h : RoutineIn W E N r at to) → to ≤ top → routine_from W r.result (W h.end) r.name gives got (r, to)
  unfolding routine_from
  from-reads r at to h w =
      let a = h.after in
      let u = behind-grows W E grows h.undo in
      let b = behind-grows W E grows h.handler in
      let c = list-grows W E grows h.body.statements in
      let d = declarations-grow W E grows h.declared in
      expect-on W NAME r.name (r.name + 1) _ refl h.name (
      expect-on W open_paren (r.name + 1) (r.name + 2) _ (omega arith) h.opens (
      bind-got (parameters W (r.name + 2)) _ (r.parameters, h.close) (parameters-read h.parameters (omega arith)) (
      expect-on W close_paren h.close (h.close + 1) _ refl h.closes (
      bind-got (declarations W (h.close + 1)) _ (r.declared, h.begin) (declarations-read h.declared (omega arith)) (
      bind-got (list W h.begin) _ (r.body.statements, r.body.closes) (list-reads h.body.statements (omega arith)) (
      bind-got (list_behind W ERROR r.body.closes) _ (r.handler, h.undo_at) (behind-reads h.handler (omega arith)) (
      bind-got (list_behind W UNDO h.undo_at) _ (r.undo, h.end) (behind-reads h.undo (omega arith)) (
      expect-on W (W h.end) h.end (h.end + 1) _ refl refl (exactly (ap (λ (i : ℕ). got (r, i)) (sym a)))))))))))

  routine-by : {result : Option ℕ} {closing at name : ℕ} {r : Parsed (Routine × ℕ)} → HeadAt W E result closing at name → routine_from W result closing name gives r → routine W at gives r
  unfolding routine function
  routine-by {at = at} {name = name} (a-proc p n c) k =
      if-true (eqb (W at) PROC) _ _ (eq-eqb _ _ p) (through (ap (λ (i : ℕ). routine_from W none ENDPROC i) (sym n) ∙ ap (λ (s : ℕ). routine_from W none s name) (sym c)) k)
  routine-by {closing = closing} {at = at} {name = name} (a-func p t y n c) k =
      if-false (eqb (W at) PROC) _ _ (rw p) (
      type-on W (at + 1) (at + 2) _ (omega arith) y (
      through (ap (λ (i : ℕ). routine_from W (some (W (at + 1))) ENDFUNC i) (sym n) ∙ ap (λ (s : ℕ). routine_from W (some (W (at + 1))) s name) (sym c) ∙ ap (λ (s : ℕ). routine_from W (some s) closing name) (sym t)) k))

  routine-reads : (r : Routine) (at to : ℕ) → RoutineIn W E N r at to → to ≤ top → routine W at gives got (r, to)
  routine-reads r at to h w = routine-by h.head (from-reads r at to h w)

  routines-read : {rs : List Routine} {at to : ℕ} → RoutinesIn W E N rs at to → to ≤ top → routines W at gives got (rs, to)
  unfolding routines
  routines-read h w = repeated-reads D T top long W (RoutineIn W E N) (routine W) (routine-grows W E grows) starts_routine routine-reads parts h (omega arith) w

  -- ---- the module
  pub stands-formed : (m : Module) (h : StandsIn W E N m) → h.words ≤ top → formed W gives got m
  unfolding formed
  stands-formed m h w =
      let f = h.form in
      let a = f.after in
      let b = routines-grow W E grows f.routines in
      expect-on W MODULE 0 1 _ refl f.opens (
      expect-on W NAME 1 2 _ refl f.name (
      bind-got (declarations W 2) _ (m.declared, f.begin) (declarations-read f.declared (omega arith)) (
      bind-got (routines W f.begin) _ (m.routines, f.end) (routines-read f.routines (omega arith)) (
      expect-on W ENDMODULE f.end (f.end + 1) _ refl f.closes (
      expect-on W NOTHING (f.end + 1) (f.end + 2) _ (omega arith) (ap W (sym a) ∙ f.nothing) done)))))
