-- The parser judges words in order: what it has read up to a word, and a refusal of a word, depend on no later word.
use mathlib.Core.Path.{◌≡◌, refl, sym, ap, subst, ◌∙◌}
use mathlib.Core.Bool.{Bool, true, false, ◌&&◌, ◌||◌}
use mathlib.Core.List.{List, []}
use mathlib.Core.Option.{Option, none, some}
use Prim.Native.Nat.{ℕ, zero, suc, ◌+◌, ◌<◌, ◌≤◌}
use native.Mathlib.Omega.{arith}
use lib.Dec.{eqb}
use borrow.Author.Tests.{eqb-true, eqb-false}
use Rattle.laws.proofs.Tests.{false-true, by_most, by-same}
use Rattle.std.specs.Prelude.{if◌then◌else◌}
use Rattle.paper.specs.Sorts.{NAME, STRING, NUM, NOTHING, close_brace, close_paren, open_brace, open_paren, comma, semicolon, becomes, colon, backslash, CASE, DEFAULT, DO, ELSE, ELSEIF, ENDFOR, ENDFUNC}
use Rattle.paper.specs.Sorts.{ENDIF, ENDMODULE, ENDPROC, ENDTEST, ENDWHILE, ERROR, EXIT, FOR, FROM, IF, MODULE, PROC, RAISE, RETRY, RETURN, STEP, TEST, THEN, TO, TPREADNUM, TPWRITE, TRYNEXT, UNDO, VAR}
use Rattle.paper.specs.Sorts.{WHILE}
use Rattle.paper.specs.Trees.{Expr, joined, Target, Simple, returns, raises, Statement, Statements, ◌then◌, Content, Declared, Routine, Module}
use Rattle.paper.specs.Statements.{target_index, target, value_side, call_side, right_side, assignment, procedure_call, started_by_name, with_optional, written, tp_write, tp_read_num, simple_word}
use Rattle.paper.specs.Statements.{simple_statement, else_part, last_arm, arms, if_then, if_simple, if_statement, step_part, for_statement, while_statement, default_part, last_case, cases, test_statement}
use Rattle.paper.specs.Statements.{opening, plain_statement, statement, statements, list_in, list}
use Rattle.paper.specs.Form.{initial_part, size_part, var_part, const_part, datum, declaration, declarations, parameter, parameters, list_behind, routine_from, function, routine, routines, formed}
use Rattle.paper.specs.Expressions.{Parsed, Parser, got, no, ◌>>=◌, parts, nestings, relations, disjunctions, level_of, stands_before, is_literal, is_type, starts_data, starts_routine, starts_statement}
use Rattle.paper.specs.Expressions.{expect, expect_type, in_parentheses, indexed, named, operand, chain, prefixed, level, expr_in, expr, unless, separated, repeated, exprs, arguments}

module _ (i : ℕ) where
  -- p reads the words on from s, and q others that are the same up to word i: what p reads up to there, or refuses there, q does too.
  abbrev pub Sees : {A : Type 0} (end : A → ℕ) (s : ℕ) → (p q : Parsed A) → Type 0
  Sees end s (got a) q = (s ≤ end a) × (end a ≤ i → q ≡ got a)
  Sees end s (no k j) q = ¬ (k ≡ 9) → (s ≤ j) × (j ≤ i → q ≡ no k j)

  module _ {A : Type 0} (end : A → ℕ) where
    pub earlier : (s t : ℕ) (p q : Parsed A) → s ≤ t → Sees end t p q → Sees end s p q
    earlier s t (got a) q l h = (omega (arith, h.0), h.1)
    earlier s t (no k j) q l h = λ f. (omega (arith, (h f).0), (h f).1)

    beyond : (s : ℕ) (p q r : Parsed A) → i < s → Sees end s p q → Sees end s p r
    beyond s (got a) q r l h = (h.0, λ m. absurd (omega (arith, h.0)))
    beyond s (no k j) q r l h = λ f. ((h f).0, λ m. absurd (omega (arith, (h f).0)))

    if-same : (s : ℕ) (b c : Bool) (x y x' y' : Parsed A) → c ≡ b → (b ≡ true → Sees end s x x') → (b ≡ false → Sees end s y y') → Sees end s (if b then x else y) (if c then x' else y')
    if-same s true c x y x' y' e h g = rw e (h refl)
    if-same s false c x y x' y' e h g = rw e (g refl)

    if-either : (s : ℕ) (b : Bool) (x y x' y' : Parsed A) (r : Parsed A) → i < s → (b ≡ true → Sees end s x x') → (b ≡ false → Sees end s y y') → Sees end s (if b then x else y) r
    if-either s true x y x' y' r l h g = beyond s x x' r l (h refl)
    if-either s false x y x' y' r l h g = beyond s y y' r l (g refl)

    -- a test of words up to s
    pub if-sees : (s : ℕ) (b c : Bool) (x y x' y' : Parsed A) → (s ≤ i → c ≡ b) → (b ≡ true → Sees end s x x') → (b ≡ false → Sees end s y y') → Sees end s (if b then x else y) (if c then x' else y')
    if-sees s b c x y x' y' e h g = by_most s i (λ l. if-same s b c x y x' y' (e l) h g) (λ l. if-either s b x y x' y' _ l h g)

    when-if : (b : Bool) (x y : Parsed A) → elim b [ true ↦ x | false ↦ y ] ≡ (if b then x else y)
    when-if true x y = refl
    when-if false x y = refl

    pub when-sees : (s : ℕ) (b c : Bool) (x y x' y' : Parsed A) → (s ≤ i → c ≡ b) → (b ≡ true → Sees end s x x') → (b ≡ false → Sees end s y y')
        → Sees end s (elim b [ true ↦ x | false ↦ y ]) (elim c [ true ↦ x' | false ↦ y' ])
    when-sees s b c x y x' y' e h g = rw (when-if b x y, when-if c x' y') (if-sees s b c x y x' y' e h g)

  module _ {A B : Type 0} (e : A → ℕ) (f : B → ℕ) where
    onward : (s : ℕ) (a : A) (p : Parsed B) (q : Parsed A) (l : A → Parsed B) → s ≤ e a → (e a ≤ i → q ≡ got a) → Sees f (e a) p (l a) → Sees f s p (q >>= l)
    unfolding ◌>>=◌
    onward s a (got b) q l m h k = (omega (arith, k.0), λ n. ap (λ r. r >>= l) (h (omega (arith, k.0))) ∙ k.1 n)
    onward s a (no c j) q l m h k = λ g. (omega (arith, (k g).0), λ n. ap (λ r. r >>= l) (h (omega (arith, (k g).0))) ∙ (k g).1 n)

    pub then-sees : (s : ℕ) (p q : Parsed A) (k l : A → Parsed B) → Sees e s p q → ((a : A) → s ≤ e a → Sees f (e a) (k a) (l a)) → Sees f s (p >>= k) (q >>= l)
    unfolding ◌>>=◌
    then-sees s (got a) q k l h g = onward s a (k a) q l h.0 h.1 (g a h.0)
    then-sees s (no c j) q k l h g = λ n. ((h n).0, λ m. ap (λ r. r >>= l) ((h n).1 m))

  -- what gives a place with what it reads
  abbrev pub Sees2 : {A : Type 0} (s : ℕ) → (p q : Parsed (A × ℕ)) → Type 0
  Sees2 {A} s p q = Sees {A = A × ℕ} (λ x. x.1) s p q

  pub done-sees : {A : Type 0} (s n : ℕ) (a b : A) → s ≤ n → (n ≤ i → b ≡ a) → Sees2 s (got (a, n)) (got (b, n))
  done-sees s n a b l h = (l, λ m. ap (λ x. got (x, n)) (h m))

module _ (W U : ℕ → ℕ) (i : ℕ) (same : (j : ℕ) → j ≤ i → U j ≡ W j) where
  pub same_test : {A : Type 0} (f : ℕ → A) (s j : ℕ) → j ≤ s → s ≤ i → f (U j) ≡ f (W j)
  same_test f s j l m = ap f (same j (omega arith))

  expect-sees : (sort at : ℕ) → Sees i (λ n. n) at (expect W sort at) (expect U sort at)
  unfolding expect
  expect-sees sort at =
      if-sees i (λ (n : ℕ). n) at (eqb (W at) sort) (eqb (U at) sort) _ _ _ _ (same_test (λ (s : ℕ). eqb s sort) at at (omega arith)) (λ t. (omega arith, λ _. refl)) (λ t _. (omega arith, λ _. refl))

  type-sees : (at : ℕ) → Sees i (λ n. n) at (expect_type W at) (expect_type U at)
  unfolding expect_type
  type-sees at = if-sees i (λ (n : ℕ). n) at (is_type (W at)) (is_type (U at)) _ _ _ _ (same_test is_type at at (omega arith)) (λ t. (omega arith, λ _. refl)) (λ t _. (omega arith, λ _. refl))

  module _ {B : Type 0} where
    pub expect-on : (sort at : ℕ) (k l : ℕ → Parsed (B × ℕ)) → ((n : ℕ) → at ≤ n → Sees2 i n (k n) (l n)) → Sees2 i at (expect W sort at >>= k) (expect U sort at >>= l)
    expect-on sort at k l h = then-sees i (λ (n : ℕ). n) (λ x. x.1) at _ _ k l (expect-sees sort at) h

    pub type-on : (at : ℕ) (k l : ℕ → Parsed (B × ℕ)) → ((n : ℕ) → at ≤ n → Sees2 i n (k n) (l n)) → Sees2 i at (expect_type W at >>= k) (expect_type U at >>= l)
    type-on at k l h = then-sees i (λ (n : ℕ). n) (λ x. x.1) at _ _ k l (type-sees at) h

    -- the same, where s is no later
    pub expect-from : (s sort at : ℕ) (k l : ℕ → Parsed (B × ℕ)) → s ≤ at → ((n : ℕ) → at ≤ n → Sees2 i n (k n) (l n)) → Sees2 i s (expect W sort at >>= k) (expect U sort at >>= l)
    expect-from s sort at k l m h = earlier i (λ (x : B × ℕ). x.1) s at (expect W sort at >>= k) (expect U sort at >>= l) m (expect-on sort at k l h)

    pub type-from : (s at : ℕ) (k l : ℕ → Parsed (B × ℕ)) → s ≤ at → ((n : ℕ) → at ≤ n → Sees2 i n (k n) (l n)) → Sees2 i s (expect_type W at >>= k) (expect_type U at >>= l)
    type-from s at k l m h = earlier i (λ (x : B × ℕ). x.1) s at (expect_type W at >>= k) (expect_type U at >>= l) m (type-on at k l h)

    -- what is read from t on, where s is no later
    pub read-on : {A : Type 0} (s t : ℕ) (p q : Parsed (A × ℕ)) (k l : A × ℕ → Parsed (B × ℕ)) → s ≤ t → Sees2 i t p q → ((x : A × ℕ) → t ≤ x.1 → Sees2 i x.1 (k x) (l x)) → Sees2 i s (p >>= k) (q >>= l)
    read-on s t p q k l m h g = earlier i (λ (x : B × ℕ). x.1) s t (p >>= k) (q >>= l) m (then-sees i (λ x. x.1) (λ x. x.1) t p q k l h g)

  pub sooner : {A : Type 0} (s t : ℕ) (p q : Parsed (A × ℕ)) → s ≤ t → Sees2 i t p q → Sees2 i s p q
  sooner {A} s t p q l h = earlier i (λ (x : A × ℕ). x.1) s t p q l h

  -- the same answer on both sides
  pub same-sees : {A : Type 0} (s n : ℕ) (a : A) → s ≤ n → Sees2 i s (got (a, n)) (got (a, n))
  same-sees s n a l = done-sees i s n a a l (λ _. refl)

  -- ---- expressions
  abbrev pub Follows : {A : Type 0} → Parser A → Parser A → Type 0
  Follows {A} p q = (at : ℕ) → Sees2 i {A = A} at (p at) (q at)

  module _ (inner outer : Parser Expr) (h : Follows inner outer) where
    -- from the word behind a name on
    named-sees : (at : ℕ) → Sees2 i (at + 1) (named W inner at) (named U outer at)
    unfolding named indexed
    named-sees at =
        if-sees i _ (at + 1) (eqb (W (at + 1)) open_brace) (eqb (U (at + 1)) open_brace) _ _ _ _ (same_test (λ (s : ℕ). eqb s open_brace) (at + 1) (at + 1) (omega arith))
        (λ t. read-on (at + 1) (at + 2) (inner (at + 2)) (outer (at + 2)) _ _ (omega arith) (h (at + 2)) (λ x _. expect-on close_brace x.1 _ _ (λ n _. same-sees n n _ (omega arith))))
        (λ t. same-sees (at + 1) (at + 1) _ (omega arith))

    operand-sees : (at : ℕ) → Sees2 i at (operand W inner at) (operand U outer at)
    unfolding operand in_parentheses
    operand-sees at =
        if-sees i _ at (eqb (W at) open_paren) (eqb (U at) open_paren) _ _ _ _ (same_test (λ (s : ℕ). eqb s open_paren) at at (omega arith))
        (λ t. read-on at (at + 1) (inner (at + 1)) (outer (at + 1)) _ _ (omega arith) (h (at + 1)) (λ x _. expect-on close_paren x.1 _ _ (λ n _. same-sees n n _ (omega arith))))
        (λ _. if-sees i _ at (eqb (W at) NAME) (eqb (U at) NAME) _ _ _ _ (same_test (λ (s : ℕ). eqb s NAME) at at (omega arith))
        (λ t. sooner at (at + 1) (named W inner at) (named U outer at) (omega arith) (named-sees at))
        (λ _. if-sees i _ at (is_literal (W at)) (is_literal (U at)) _ _ _ _ (same_test is_literal at at (omega arith)) (λ t. same-sees at (at + 1) _ (omega arith)) (λ _ _. (omega arith, λ _. refl))))

    -- an operand that is a name
    name-operand : (at : ℕ) → W at ≡ NAME → Sees2 i (at + 1) (operand W inner at) (operand U outer at)
    unfolding operand
    name-operand at e =
        if-sees i _ (at + 1) (eqb (W at) open_paren) (eqb (U at) open_paren) _ _ _ _ (same_test (λ (s : ℕ). eqb s open_paren) (at + 1) at (omega arith))
        (λ t. absurd (omega (arith, sym e ∙ eqb-true (W at) open_paren t)))
        (λ _. if-sees i _ (at + 1) (eqb (W at) NAME) (eqb (U at) NAME) _ _ _ _ (same_test (λ (s : ℕ). eqb s NAME) (at + 1) at (omega arith)) (λ t. named-sees at) (λ t. absurd (eqb-false (W at) NAME t e)))

  module _ (j : ℕ) (sub tub : Parser Expr) (h : Follows sub tub) where
    chain-sees : (p : ℕ) (e : Expr) (at : ℕ) → Sees2 i at (chain W p j sub e at) (chain U p j tub e at)
    unfolding chain
    chain-sees zero e at = λ _. (omega arith, λ _. refl)
    chain-sees (suc p) e at =
        when-sees i _ at (eqb (level_of (W at)) j) (eqb (level_of (U at)) j) _ _ _ _ (same_test (λ (s : ℕ). eqb (level_of s) j) at at (omega arith))
        (λ t. read-on at (at + 1) (sub (at + 1)) (tub (at + 1)) _ _ (omega arith) (h (at + 1)) (λ u _.
        when-sees i _ u.1 (eqb j relations) (eqb j relations) _ _ _ _ (λ _. refl) (λ _. same-sees u.1 u.1 _ (omega arith)) (λ _. chain-sees p (joined at e u.0) u.1)))
        (λ t. same-sees at at _ (omega arith))

    prefixed-sees : (at : ℕ) → Sees2 i at (prefixed W j sub at) (prefixed U j tub at)
    unfolding prefixed
    prefixed-sees at =
        when-sees i _ at (stands_before j (W at)) (stands_before j (U at)) _ _ _ _ (same_test (stands_before j) at at (omega arith))
        (λ t. read-on at (at + 1) (sub (at + 1)) (tub (at + 1)) _ _ (omega arith) (h (at + 1)) (λ u _. same-sees u.1 u.1 _ (omega arith)))
        (λ t. h at)

  module _ (inner outer : Parser Expr) (h : Follows inner outer) where
    level-sees : (j : ℕ) → Follows (level W inner j) (level U outer j)
    unfolding level
    level-sees zero at = operand-sees inner outer h at
    level-sees (suc j) at =
        read-on at at (prefixed W (suc j) (level W inner j) at) (prefixed U (suc j) (level U outer j) at) _ _ (omega arith) (prefixed-sees (suc j) _ _ (level-sees j) at) (λ x _.
        chain-sees (suc j) _ _ (level-sees j) parts x.0 x.1)

    name-before : (j s : ℕ) → s ≡ NAME → stands_before j s ≡ false
    unfolding stands_before
    name-before j s e = rw (e, stands_before) (by (eqb j 5) (eqb j 2))
      where
        by : (a b : Bool) → (if a then false else if b then false else false) ≡ false
        by true b = refl
        by false true = refl
        by false false = refl

    -- an expression that begins with a name
    name-level : (at : ℕ) → W at ≡ NAME → (j : ℕ) → Sees2 i (at + 1) (level W inner j at) (level U outer j at)
    unfolding level prefixed
    name-level at e zero = name-operand inner outer h at e
    name-level at e (suc j) =
        read-on (at + 1) (at + 1) (prefixed W (suc j) (level W inner j) at) (prefixed U (suc j) (level U outer j) at) _ _ (omega arith)
        (when-sees i _ (at + 1) (stands_before (suc j) (W at)) (stands_before (suc j) (U at)) _ _ _ _ (same_test (stands_before (suc j)) (at + 1) at (omega arith))
        (λ t. false-true (sym (name-before (suc j) (W at) e) ∙ t))
        (λ t. name-level at e j))
        (λ x _. chain-sees (suc j) _ _ (level-sees j) parts x.0 x.1)

  expr-in-sees : (d : ℕ) → Follows (expr_in W d) (expr_in U d)
  unfolding expr_in
  expr-in-sees zero at = λ f. absurd (f refl)
  expr-in-sees (suc d) at = level-sees (expr_in W d) (expr_in U d) (expr-in-sees d) disjunctions at

  pub expr-sees : Follows (expr W) (expr U)
  unfolding expr
  expr-sees at = expr-in-sees (suc nestings) at

  name-expr-sees : (at : ℕ) → W at ≡ NAME → Sees2 i (at + 1) (expr W at) (expr U at)
  unfolding expr expr_in
  name-expr-sees at e = name-level (expr_in W nestings) (expr_in U nestings) (expr-in-sees nestings) at e disjunctions

  -- ---- sequences
  module _ {A : Type 0} (one uno : Parser A) (h : Follows one uno) where
    separated-sees : (p : ℕ) → Follows (separated W p one) (separated U p uno)
    unfolding separated
    separated-sees zero at = λ _. (omega arith, λ _. refl)
    separated-sees (suc p) at =
        read-on at at (one at) (uno at) _ _ (omega arith) (h at) (λ x _.
        when-sees i _ x.1 (eqb (W x.1) comma) (eqb (U x.1) comma) _ _ _ _ (same_test (λ (s : ℕ). eqb s comma) x.1 x.1 (omega arith))
        (λ t. read-on x.1 (x.1 + 1) (separated W p one (x.1 + 1)) (separated U p uno (x.1 + 1)) _ _ (omega arith) (separated-sees p (x.1 + 1)) (λ y _. same-sees y.1 y.1 _ (omega arith)))
        (λ t. same-sees x.1 x.1 _ (omega arith)))

    closed-sees : (closing at : ℕ) → Sees2 i {A = List A} at (if eqb (W at) closing then got ([], at) else separated W parts one at) (if eqb (U at) closing then got ([], at) else separated U parts uno at)
    closed-sees closing at =
        if-sees i _ at (eqb (W at) closing) (eqb (U at) closing) _ _ _ _ (same_test (λ (s : ℕ). eqb s closing) at at (omega arith)) (λ t. same-sees at at _ (omega arith)) (λ t. separated-sees parts at)

    repeated-sees : (starts : ℕ → Bool) (p : ℕ) → Follows (repeated W p starts one) (repeated U p starts uno)
    unfolding repeated
    repeated-sees starts zero at = λ _. (omega arith, λ _. refl)
    repeated-sees starts (suc p) at =
        when-sees i _ at (starts (W at)) (starts (U at)) _ _ _ _ (same_test starts at at (omega arith))
        (λ t. read-on at at (one at) (uno at) _ _ (omega arith) (h at) (λ x _.
        read-on x.1 x.1 (repeated W p starts one x.1) (repeated U p starts uno x.1) _ _ (omega arith) (repeated-sees starts p x.1) (λ y _. same-sees y.1 y.1 _ (omega arith))))
        (λ t. same-sees at at _ (omega arith))

  exprs-see : Follows (exprs W) (exprs U)
  unfolding exprs
  exprs-see at = separated-sees (expr W) (expr U) expr-sees parts at

  arguments-see : (closing : ℕ) → Follows (arguments W closing) (arguments U closing)
  unfolding arguments exprs
  arguments-see closing at = closed-sees (expr W) (expr U) expr-sees closing at

  -- ---- simple statements
  -- from the word behind the name on
  name-target : (at : ℕ) → W at ≡ NAME → Sees2 i (at + 1) (target W at) (target U at)
  unfolding target target_index
  name-target at e =
      when-sees i _ (at + 1) (eqb (W at) NAME) (eqb (U at) NAME) _ _ _ _ (same_test (λ (s : ℕ). eqb s NAME) (at + 1) at (omega arith))
      (λ _. when-sees i _ (at + 1) (eqb (W (at + 1)) open_brace) (eqb (U (at + 1)) open_brace) _ _ _ _ (same_test (λ (s : ℕ). eqb s open_brace) (at + 1) (at + 1) (omega arith))
      (λ _. read-on (at + 1) (at + 2) (expr_in W nestings (at + 2)) (expr_in U nestings (at + 2)) _ _ (omega arith) (expr-in-sees nestings (at + 2)) (λ x _. expect-on close_brace x.1 _ _ (λ n _. same-sees n n _ (omega arith))))
      (λ _. same-sees (at + 1) (at + 1) _ (omega arith)))
      (λ t. absurd (eqb-false (W at) NAME t e))

  target-sees : Follows (target W) (target U)
  unfolding target
  target-sees at =
      by-same (W at) NAME (λ e. sooner at (at + 1) (target W at) (target U at) (omega arith) (name-target at e)) (λ f.
      when-sees i _ at (eqb (W at) NAME) (eqb (U at) NAME) _ _ _ _ (same_test (λ (s : ℕ). eqb s NAME) at at (omega arith)) (λ t. absurd (f (eqb-true (W at) NAME t))) (λ _ _. (omega arith, λ _. refl)))

  call-side : (t : Target) (at : ℕ) → Sees2 i (at + 1) (call_side W t at) (call_side U t at)
  unfolding call_side
  call-side t at = read-on (at + 1) (at + 2) (arguments W close_paren (at + 2)) (arguments U close_paren (at + 2)) _ _ (omega arith) (arguments-see close_paren (at + 2)) (λ x _. expect-on close_paren x.1 _ _ (λ n _. same-sees n n _ (omega arith)))

  value-side : (t : Target) → Follows (value_side W t) (value_side U t)
  unfolding value_side
  value-side t at = read-on at at (expr W at) (expr U at) _ _ (omega arith) (expr-sees at) (λ x _. same-sees x.1 x.1 _ (omega arith))

  name-value-side : (t : Target) (at : ℕ) → W at ≡ NAME → Sees2 i (at + 1) (value_side W t at) (value_side U t at)
  unfolding value_side
  name-value-side t at e = read-on (at + 1) (at + 1) (expr W at) (expr U at) _ _ (omega arith) (name-expr-sees at e) (λ x _. same-sees x.1 x.1 _ (omega arith))

  -- two tests, the second one of the word behind
  and-if : {A : Type 0} (a b : Bool) (x y : Parsed A) → (if a && b then x else y) ≡ (if a then (if b then x else y) else y)
  and-if true b x y = refl
  and-if false b x y = refl

  name-right-side : (t : Target) (at : ℕ) → W at ≡ NAME → Sees2 i (at + 1) (right_side W t at) (right_side U t at)
  unfolding right_side
  name-right-side t at e =
      rw (and-if (eqb (W at) NAME) (eqb (W (at + 1)) open_paren) (call_side W t at) (value_side W t at), and-if (eqb (U at) NAME) (eqb (U (at + 1)) open_paren) (call_side U t at) (value_side U t at), right_side) (
      if-sees i _ (at + 1) (eqb (W at) NAME) (eqb (U at) NAME) _ _ _ _ (same_test (λ (s : ℕ). eqb s NAME) (at + 1) at (omega arith))
      (λ _. if-sees i _ (at + 1) (eqb (W (at + 1)) open_paren) (eqb (U (at + 1)) open_paren) _ _ _ _ (same_test (λ (s : ℕ). eqb s open_paren) (at + 1) (at + 1) (omega arith)) (λ _. call-side t at) (λ _. name-value-side t at e))
      (λ f. absurd (eqb-false (W at) NAME f e)))

  right-side : (t : Target) → Follows (right_side W t) (right_side U t)
  unfolding right_side
  right-side t at =
      by-same (W at) NAME (λ e. sooner at (at + 1) (right_side W t at) (right_side U t at) (omega arith) (name-right-side t at e)) (λ f.
      rw (and-if (eqb (W at) NAME) (eqb (W (at + 1)) open_paren) (call_side W t at) (value_side W t at), and-if (eqb (U at) NAME) (eqb (U (at + 1)) open_paren) (call_side U t at) (value_side U t at), right_side) (
      if-sees i _ at (eqb (W at) NAME) (eqb (U at) NAME) _ _ _ _ (same_test (λ (s : ℕ). eqb s NAME) at at (omega arith)) (λ e. absurd (f (eqb-true (W at) NAME e))) (λ _. value-side t at)))

  by_name : (at : ℕ) → W at ≡ NAME → Sees2 i at (started_by_name W at) (started_by_name U at)
  unfolding started_by_name assignment procedure_call
  by_name at e =
      sooner at (at + 1) (started_by_name W at) (started_by_name U at) (omega arith) (
      if-sees i _ (at + 1) (eqb (W (at + 1)) becomes || eqb (W (at + 1)) open_brace) (eqb (U (at + 1)) becomes || eqb (U (at + 1)) open_brace) _ _ _ _ (same_test (λ (s : ℕ). eqb s becomes || eqb s open_brace) (at + 1) (at + 1) (omega arith))
      (λ _. read-on (at + 1) (at + 1) (target W at) (target U at) _ _ (omega arith) (name-target at e) (λ x _. expect-on becomes x.1 _ _ (λ n _. right-side x.0 n)))
      (λ _. read-on (at + 1) (at + 1) (arguments W semicolon (at + 1)) (arguments U semicolon (at + 1)) _ _ (omega arith) (arguments-see semicolon (at + 1)) (λ x _. same-sees x.1 x.1 _ (omega arith))))

  unless-sees : Follows (unless W semicolon) (unless U semicolon)
  unfolding unless
  unless-sees at =
      when-sees i _ at (eqb (W at) semicolon) (eqb (U at) semicolon) _ _ _ _ (same_test (λ (s : ℕ). eqb s semicolon) at at (omega arith))
      (λ _. same-sees at at _ (omega arith)) (λ _. read-on at at (expr W at) (expr U at) _ _ (omega arith) (expr-sees at) (λ x _. same-sees x.1 x.1 _ (omega arith)))

  optional-sees : (make : ℕ → Option Expr → Simple) → Follows (with_optional W make) (with_optional U make)
  unfolding with_optional
  optional-sees make at = read-on at (at + 1) (unless W semicolon (at + 1)) (unless U semicolon (at + 1)) _ _ (omega arith) (unless-sees (at + 1)) (λ x _. same-sees x.1 x.1 _ (omega arith))

  written-sees : Follows (written W) (written U)
  unfolding written
  written-sees at =
      when-sees i _ at (eqb (W at) backslash) (eqb (U at) backslash) _ _ _ _ (same_test (λ (s : ℕ). eqb s backslash) at at (omega arith))
      (λ _. expect-from at NUM (at + 1) _ _ (omega arith) (λ n _. expect-on becomes n _ _ (λ m _. read-on m m (expr W m) (expr U m) _ _ (omega arith) (expr-sees m) (λ x _. same-sees x.1 x.1 _ (omega arith)))))
      (λ _. same-sees at at _ (omega arith))

  write-sees : Follows (tp_write W) (tp_write U)
  unfolding tp_write
  write-sees at = expect-from at STRING (at + 1) _ _ (omega arith) (λ n _. read-on n n (written W n) (written U n) _ _ (omega arith) (written-sees n) (λ x _. same-sees x.1 x.1 _ (omega arith)))

  read-sees : Follows (tp_read_num W) (tp_read_num U)
  unfolding tp_read_num
  read-sees at = read-on at (at + 1) (target W (at + 1)) (target U (at + 1)) _ _ (omega arith) (target-sees (at + 1)) (λ x _. expect-on comma x.1 _ _ (λ m _. expect-on STRING m _ _ (λ k _. same-sees k k _ (omega arith))))

  simple-sees : Follows (simple_word W) (simple_word U)
  unfolding simple_word
  simple-sees at =
      if-sees i _ at (eqb (W at) NAME) (eqb (U at) NAME) _ _ _ _ (same_test (λ (s : ℕ). eqb s NAME) at at (omega arith)) (λ t. by_name at (eqb-true _ _ t)) (λ _.
      if-sees i _ at (eqb (W at) RETURN) (eqb (U at) RETURN) _ _ _ _ (same_test (λ (s : ℕ). eqb s RETURN) at at (omega arith)) (λ _. optional-sees returns at) (λ _.
      if-sees i _ at (eqb (W at) RAISE) (eqb (U at) RAISE) _ _ _ _ (same_test (λ (s : ℕ). eqb s RAISE) at at (omega arith)) (λ _. optional-sees raises at) (λ _.
      if-sees i _ at (eqb (W at) EXIT) (eqb (U at) EXIT) _ _ _ _ (same_test (λ (s : ℕ). eqb s EXIT) at at (omega arith)) (λ _. same-sees at (at + 1) _ (omega arith)) (λ _.
      if-sees i _ at (eqb (W at) RETRY) (eqb (U at) RETRY) _ _ _ _ (same_test (λ (s : ℕ). eqb s RETRY) at at (omega arith)) (λ _. same-sees at (at + 1) _ (omega arith)) (λ _.
      if-sees i _ at (eqb (W at) TRYNEXT) (eqb (U at) TRYNEXT) _ _ _ _ (same_test (λ (s : ℕ). eqb s TRYNEXT) at at (omega arith)) (λ _. same-sees at (at + 1) _ (omega arith)) (λ _.
      if-sees i _ at (eqb (W at) TPWRITE) (eqb (U at) TPWRITE) _ _ _ _ (same_test (λ (s : ℕ). eqb s TPWRITE) at at (omega arith)) (λ _. write-sees at) (λ _.
      if-sees i _ at (eqb (W at) TPREADNUM) (eqb (U at) TPREADNUM) _ _ _ _ (same_test (λ (s : ℕ). eqb s TPREADNUM) at at (omega arith)) (λ _. read-sees at) (λ _ _. (omega arith, λ _. refl)))))))))

  ended-sees : Follows (simple_statement W) (simple_statement U)
  unfolding simple_statement
  ended-sees at = read-on at at (simple_word W at) (simple_word U at) _ _ (omega arith) (simple-sees at) (λ x _. expect-on semicolon x.1 _ _ (λ n _. same-sees n n _ (omega arith)))

  -- ---- compound statements
  plain-sees : Follows (plain_statement W) (plain_statement U)
  unfolding plain_statement
  plain-sees at = read-on at at (simple_statement W at) (simple_statement U at) _ _ (omega arith) (ended-sees at) (λ x _. same-sees x.1 x.1 _ (omega arith))

  compact-sees : (at : ℕ) (e : Expr) → Follows (if_simple W at e) (if_simple U at e)
  unfolding if_simple
  compact-sees at e n = read-on n n (simple_statement W n) (simple_statement U n) _ _ (omega arith) (ended-sees n) (λ x _. same-sees x.1 x.1 _ (omega arith))

  step-sees : Follows (step_part W) (step_part U)
  unfolding step_part
  step-sees at =
      when-sees i _ at (eqb (W at) STEP) (eqb (U at) STEP) _ _ _ _ (same_test (λ (s : ℕ). eqb s STEP) at at (omega arith))
      (λ _. read-on at (at + 1) (expr W (at + 1)) (expr U (at + 1)) _ _ (omega arith) (expr-sees (at + 1)) (λ x _. same-sees x.1 x.1 _ (omega arith)))
      (λ _. same-sees at at _ (omega arith))

  module _ (list mist : Parser Statements) (h : Follows list mist) where
    else-sees : Follows (else_part W list) (else_part U mist)
    unfolding else_part
    else-sees at = when-sees i _ at (eqb (W at) ELSE) (eqb (U at) ELSE) _ _ _ _ (same_test (λ (s : ℕ). eqb s ELSE) at at (omega arith)) (λ _. sooner at (at + 1) (list (at + 1)) (mist (at + 1)) (omega arith) (h (at + 1))) (λ _. same-sees at at _ (omega arith))

    last-arm-sees : (e : Expr) (b : Statements) → Follows (last_arm W list e b) (last_arm U mist e b)
    unfolding last_arm
    last-arm-sees e b at = read-on at at (else_part W list at) (else_part U mist at) _ _ (omega arith) (else-sees at) (λ x _. expect-on ENDIF x.1 _ _ (λ n _. same-sees n n _ (omega arith)))

    arms-see : (p : ℕ) (e : Expr) → Follows (arms W p list e) (arms U p mist e)
    unfolding arms
    arms-see zero e at = λ _. (omega arith, λ _. refl)
    arms-see (suc p) e at =
        read-on at at (list at) (mist at) _ _ (omega arith) (h at) (λ b _.
        when-sees i _ b.1 (eqb (W b.1) ELSEIF) (eqb (U b.1) ELSEIF) _ _ _ _ (same_test (λ (s : ℕ). eqb s ELSEIF) b.1 b.1 (omega arith))
        (λ _. read-on b.1 (b.1 + 1) (expr W (b.1 + 1)) (expr U (b.1 + 1)) _ _ (omega arith) (expr-sees (b.1 + 1)) (λ c _.
        expect-on THEN c.1 _ _ (λ n _.
        read-on n n (arms W p list c.0 n) (arms U p mist c.0 n) _ _ (omega arith) (arms-see p c.0 n) (λ x _. same-sees x.1 x.1 _ (omega arith)))))
        (λ _. last-arm-sees e b.0 b.1))

    then-sees-list : (at : ℕ) (e : Expr) (n : ℕ) → Sees2 i n (if_then W at list e n) (if_then U at mist e n)
    unfolding if_then
    then-sees-list at e n = read-on n (n + 1) (arms W parts list e (n + 1)) (arms U parts mist e (n + 1)) _ _ (omega arith) (arms-see parts e (n + 1)) (λ x _. same-sees x.1 x.1 _ (omega arith))

    for-sees : Follows (for_statement W list) (for_statement U mist)
    unfolding for_statement
    for-sees at =
        expect-from at NAME (at + 1) _ _ (omega arith) (λ n₁ _.
        expect-on FROM n₁ _ _ (λ n₂ _.
        read-on n₂ n₂ (expr W n₂) (expr U n₂) _ _ (omega arith) (expr-sees n₂) (λ a _.
        expect-on TO a.1 _ _ (λ n₄ _.
        read-on n₄ n₄ (expr W n₄) (expr U n₄) _ _ (omega arith) (expr-sees n₄) (λ b _.
        read-on b.1 b.1 (step_part W b.1) (step_part U b.1) _ _ (omega arith) (step-sees b.1) (λ c _.
        expect-on DO c.1 _ _ (λ n₇ _.
        read-on n₇ n₇ (list n₇) (mist n₇) _ _ (omega arith) (h n₇) (λ l _.
        expect-on ENDFOR l.1 _ _ (λ n _. same-sees n n _ (omega arith))))))))))

    while-sees : Follows (while_statement W list) (while_statement U mist)
    unfolding while_statement
    while-sees at =
        read-on at (at + 1) (expr W (at + 1)) (expr U (at + 1)) _ _ (omega arith) (expr-sees (at + 1)) (λ e _.
        expect-on DO e.1 _ _ (λ n _.
        read-on n n (list n) (mist n) _ _ (omega arith) (h n) (λ l _.
        expect-on ENDWHILE l.1 _ _ (λ n _. same-sees n n _ (omega arith)))))

    default-sees : Follows (default_part W list) (default_part U mist)
    unfolding default_part
    default-sees at = when-sees i _ at (eqb (W at) DEFAULT) (eqb (U at) DEFAULT) _ _ _ _ (same_test (λ (s : ℕ). eqb s DEFAULT) at at (omega arith)) (λ _. expect-from at colon (at + 1) _ _ (omega arith) (λ n _. h n)) (λ _. same-sees at at _ (omega arith))

    last-case-sees : Follows (last_case W list) (last_case U mist)
    unfolding last_case
    last-case-sees at = read-on at at (default_part W list at) (default_part U mist at) _ _ (omega arith) (default-sees at) (λ x _. expect-on ENDTEST x.1 _ _ (λ n _. same-sees n n _ (omega arith)))

    cases-see : (p : ℕ) → Follows (cases W p list) (cases U p mist)
    unfolding cases
    cases-see zero at = λ _. (omega arith, λ _. refl)
    cases-see (suc p) at =
        when-sees i _ at (eqb (W at) CASE) (eqb (U at) CASE) _ _ _ _ (same_test (λ (s : ℕ). eqb s CASE) at at (omega arith))
        (λ _. read-on at (at + 1) (exprs W (at + 1)) (exprs U (at + 1)) _ _ (omega arith) (exprs-see (at + 1)) (λ c _.
        expect-on colon c.1 _ _ (λ n _.
        read-on n n (list n) (mist n) _ _ (omega arith) (h n) (λ b _.
        read-on b.1 b.1 (cases W p list b.1) (cases U p mist b.1) _ _ (omega arith) (cases-see p b.1) (λ x _. same-sees x.1 x.1 _ (omega arith))))))
        (λ _. last-case-sees at)

    test-sees : Follows (test_statement W list) (test_statement U mist)
    unfolding test_statement
    test-sees at =
        read-on at (at + 1) (expr W (at + 1)) (expr U (at + 1)) _ _ (omega arith) (expr-sees (at + 1)) (λ e _. read-on e.1 e.1 (cases W parts list e.1) (cases U parts mist e.1) _ _ (omega arith) (cases-see parts e.1) (λ x _. same-sees x.1 x.1 _ (omega arith)))

  -- what stands deeper, if anything may
  abbrev Deep : Option (Parser Statements) → Option (Parser Statements) → Type 0
  Deep none o = o ≡ none
  Deep (some list) none = ⊥
  Deep (some list) (some mist) = Follows list mist

  if-list : (deeper keeper : Option (Parser Statements)) → Deep deeper keeper → (at : ℕ) (e : Expr) (n : ℕ)
      → Sees2 i {A = Statement} n (elim deeper [ none ↦ no 9 n | some inside ↦ if_then W at inside e n ]) (elim keeper [ none ↦ no 9 n | some inside ↦ if_then U at inside e n ])
  if-list none keeper k at e n = λ f. absurd (f refl)
  if-list (some list) none k at e n = absurd k
  if-list (some list) (some mist) k at e n = then-sees-list list mist k at e n

  if-statement-sees : (deeper keeper : Option (Parser Statements)) → Deep deeper keeper → Follows (if_statement W deeper) (if_statement U keeper)
  unfolding if_statement
  if-statement-sees deeper keeper k at =
      read-on at (at + 1) (expr W (at + 1)) (expr U (at + 1)) _ _ (omega arith) (expr-sees (at + 1)) (λ e _.
      if-sees i _ e.1 (eqb (W e.1) THEN) (eqb (U e.1) THEN) _ _ _ _ (same_test (λ (s : ℕ). eqb s THEN) e.1 e.1 (omega arith)) (λ _. if-list deeper keeper k at e.0 e.1) (λ _. compact-sees at e.0 e.1))

  opening-sees : (deeper keeper : Option (Parser Statements)) → Deep deeper keeper → (f g : Parser Statements → Parser Statement)
      → ((list mist : Parser Statements) → Follows list mist → Follows (f list) (g mist)) → Follows (opening W deeper f) (opening U keeper g)
  unfolding opening
  opening-sees none keeper k f g h at = λ f. absurd (f refl)
  opening-sees (some list) none k f g h at = absurd k
  opening-sees (some list) (some mist) k f g h at = h list mist k at

  statement-sees : (deeper keeper : Option (Parser Statements)) → Deep deeper keeper → Follows (statement W deeper) (statement U keeper)
  unfolding statement
  statement-sees deeper keeper k at =
      if-sees i _ at (eqb (W at) IF) (eqb (U at) IF) _ _ _ _ (same_test (λ (s : ℕ). eqb s IF) at at (omega arith)) (λ _. if-statement-sees deeper keeper k at) (λ _.
      if-sees i _ at (eqb (W at) FOR) (eqb (U at) FOR) _ _ _ _ (same_test (λ (s : ℕ). eqb s FOR) at at (omega arith)) (λ _. opening-sees deeper keeper k (for_statement W) (for_statement U) for-sees at) (λ _.
      if-sees i _ at (eqb (W at) WHILE) (eqb (U at) WHILE) _ _ _ _ (same_test (λ (s : ℕ). eqb s WHILE) at at (omega arith)) (λ _. opening-sees deeper keeper k (while_statement W) (while_statement U) while-sees at) (λ _.
      if-sees i _ at (eqb (W at) TEST) (eqb (U at) TEST) _ _ _ _ (same_test (λ (s : ℕ). eqb s TEST) at at (omega arith)) (λ _. opening-sees deeper keeper k (test_statement W) (test_statement U) test-sees at) (λ _. plain-sees at))))

  statements-see : (deeper keeper : Option (Parser Statements)) → Deep deeper keeper → (p : ℕ) → Follows (statements W p deeper) (statements U p keeper)
  unfolding statements
  statements-see deeper keeper k zero at = λ _. (omega arith, λ _. refl)
  statements-see deeper keeper k (suc p) at =
      when-sees i _ at (starts_statement (W at)) (starts_statement (U at)) _ _ _ _ (same_test starts_statement at at (omega arith))
      (λ _. read-on at at (statement W deeper at) (statement U keeper at) _ _ (omega arith) (statement-sees deeper keeper k at) (λ s _.
      read-on s.1 s.1 (statements W p deeper s.1) (statements U p keeper s.1) _ _ (omega arith) (statements-see deeper keeper k p s.1) (λ x _. same-sees x.1 x.1 _ (omega arith))))
      (λ _. same-sees at at _ (omega arith))

  list-in-sees : (d : ℕ) → Follows (list_in W d) (list_in U d)
  unfolding list_in
  list-in-sees zero at = statements-see none none refl parts at
  list-in-sees (suc d) at = statements-see (some (list_in W d)) (some (list_in U d)) (list-in-sees d) parts at

  list-sees : Follows (list W) (list U)
  unfolding list
  list-sees at = list-in-sees nestings at

  -- ---- data
  var-sees : Follows (var_part W) (var_part U)
  unfolding var_part initial_part size_part
  var-sees at =
      if-sees i _ at (eqb (W at) becomes) (eqb (U at) becomes) _ _ _ _ (same_test (λ (s : ℕ). eqb s becomes) at at (omega arith))
      (λ _. read-on at (at + 1) (expr W (at + 1)) (expr U (at + 1)) _ _ (omega arith) (expr-sees (at + 1)) (λ x _. same-sees x.1 x.1 _ (omega arith)))
      (λ _. if-sees i _ at (eqb (W at) open_brace) (eqb (U at) open_brace) _ _ _ _ (same_test (λ (s : ℕ). eqb s open_brace) at at (omega arith))
      (λ _. read-on at (at + 1) (expr W (at + 1)) (expr U (at + 1)) _ _ (omega arith) (expr-sees (at + 1)) (λ x _. expect-on close_brace x.1 _ _ (λ n _. same-sees n n _ (omega arith))))
      (λ _. same-sees at at _ (omega arith)))

  const-sees : Follows (const_part W) (const_part U)
  unfolding const_part
  const-sees at = expect-on becomes at _ _ (λ n _. read-on n n (expr W n) (expr U n) _ _ (omega arith) (expr-sees n) (λ x _. same-sees x.1 x.1 _ (omega arith)))

  datum-sees : (content kontent : Parser Content) → Follows content kontent → Follows (datum W content) (datum U kontent)
  unfolding datum
  datum-sees content kontent h at =
      type-from at (at + 1) _ _ (omega arith) (λ n₁ l₁.
      expect-on NAME n₁ _ _ (λ n₂ l₂.
      read-on n₂ n₂ (content n₂) (kontent n₂) _ _ (omega arith) (h n₂) (λ c l₃.
      expect-on semicolon c.1 _ _ (λ n l₄.
      done-sees i n n _ _ (omega arith) (λ m. ap (λ (t : ℕ). record { type = t; name = at + 2; content = c.0 }) (same (at + 1) (omega arith)))))))

  declaration-sees : Follows (declaration W) (declaration U)
  unfolding declaration
  declaration-sees at = if-sees i _ at (eqb (W at) VAR) (eqb (U at) VAR) _ _ _ _ (same_test (λ (s : ℕ). eqb s VAR) at at (omega arith)) (λ _. datum-sees (var_part W) (var_part U) var-sees at) (λ _. datum-sees (const_part W) (const_part U) const-sees at)

  declarations-see : Follows (declarations W) (declarations U)
  unfolding declarations
  declarations-see at = repeated-sees (declaration W) (declaration U) declaration-sees starts_data parts at

  -- ---- routines
  parameter-sees : Follows (parameter W) (parameter U)
  unfolding parameter
  parameter-sees at =
      type-on at _ _ (λ n l.
      expect-on NAME n _ _ (λ m k. done-sees i m m _ _ (omega arith) (λ q. ap (λ (t : ℕ). record { type = t; name = at + 1 }) (same at (omega arith)))))

  parameters-see : Follows (parameters W) (parameters U)
  unfolding parameters
  parameters-see at = closed-sees (parameter W) (parameter U) parameter-sees close_paren at

  behind-sees : (sort : ℕ) → Follows (list_behind W sort) (list_behind U sort)
  unfolding list_behind
  behind-sees sort at =
      when-sees i _ at (eqb (W at) sort) (eqb (U at) sort) _ _ _ _ (same_test (λ (s : ℕ). eqb s sort) at at (omega arith))
      (λ _. read-on at (at + 1) (list W (at + 1)) (list U (at + 1)) _ _ (omega arith) (list-sees (at + 1)) (λ x _. same-sees x.1 x.1 _ (omega arith)))
      (λ _. same-sees at at _ (omega arith))

  from-sees : (result other : Option ℕ) (closing at : ℕ) → (at ≤ i → other ≡ result) → Sees2 i at (routine_from W result closing at) (routine_from U other closing at)
  unfolding routine_from
  from-sees result other closing at e =
      expect-on NAME at _ _ (λ n₁ l₁.
      expect-on open_paren n₁ _ _ (λ n₂ l₂.
      read-on n₂ n₂ (parameters W n₂) (parameters U n₂) _ _ (omega arith) (parameters-see n₂) (λ ps l₃.
      expect-on close_paren ps.1 _ _ (λ n₄ l₄.
      read-on n₄ n₄ (declarations W n₄) (declarations U n₄) _ _ (omega arith) (declarations-see n₄) (λ ds l₅.
      read-on ds.1 ds.1 (list W ds.1) (list U ds.1) _ _ (omega arith) (list-sees ds.1) (λ ss l₆.
      read-on ss.1 ss.1 (list_behind W ERROR ss.1) (list_behind U ERROR ss.1) _ _ (omega arith) (behind-sees ERROR ss.1) (λ h l₇.
      read-on h.1 h.1 (list_behind W UNDO h.1) (list_behind U UNDO h.1) _ _ (omega arith) (behind-sees UNDO h.1) (λ u l₈.
      expect-on closing u.1 _ _ (λ n l₉.
      done-sees i n n _ _ (omega arith) (λ m.
      ap (λ (t : Option ℕ). record { name = at; result = t; parameters = ps.0; declared = ds.0; body = record { statements = ss.0; closes = ss.1 }; handler = h.0; undo = u.0 }) (e (omega arith))))))))))))

  routine-sees : Follows (routine W) (routine U)
  unfolding routine function
  routine-sees at =
      if-sees i _ at (eqb (W at) PROC) (eqb (U at) PROC) _ _ _ _ (same_test (λ (s : ℕ). eqb s PROC) at at (omega arith))
      (λ _. sooner at (at + 1) (routine_from W none ENDPROC (at + 1)) (routine_from U none ENDPROC (at + 1)) (omega arith) (from-sees none none ENDPROC (at + 1) (λ _. refl)))
      (λ _. type-from at (at + 1) _ _ (omega arith) (λ n l. from-sees (some (W (at + 1))) (some (U (at + 1))) ENDFUNC n (λ m. ap some (same (at + 1) (omega arith)))))

  routines-see : Follows (routines W) (routines U)
  unfolding routines
  routines-see at = repeated-sees (routine W) (routine U) routine-sees starts_routine parts at

  -- ---- the module
  -- a refusal is the same
  abbrev Refuses : (s : ℕ) → (p q : Parsed Module) → Type 0
  Refuses s (got m) q = Unit {0}
  Refuses s (no k j) q = ¬ (k ≡ 9) → (s ≤ j) × (j ≤ i → q ≡ no k j)

  module _ {A : Type 0} (e : A → ℕ) where
    refuses-on : (s : ℕ) (a : A) (p : Parsed Module) (q : Parsed A) (l : A → Parsed Module) → s ≤ e a → (e a ≤ i → q ≡ got a) → Refuses (e a) p (l a) → Refuses s p (q >>= l)
    unfolding ◌>>=◌
    refuses-on s a (got b) q l m h k = tt
    refuses-on s a (no c j) q l m h k = λ g. (omega (arith, (k g).0), λ n. ap (λ r. r >>= l) (h (omega (arith, (k g).0))) ∙ (k g).1 n)

    then-refuses : (s : ℕ) (p q : Parsed A) (k l : A → Parsed Module) → Sees i e s p q → ((a : A) → Refuses (e a) (k a) (l a)) → Refuses s (p >>= k) (q >>= l)
    unfolding ◌>>=◌
    then-refuses s (got a) q k l h g = refuses-on s a (k a) q l h.0 h.1 (g a)
    then-refuses s (no c j) q k l h g = λ n. ((h n).0, λ m. ap (λ r. r >>= l) ((h n).1 m))

  formed-refuses : Refuses 0 (formed W) (formed U)
  unfolding formed
  formed-refuses =
      then-refuses (λ (n : ℕ). n) 0 _ _ _ _ (expect-sees MODULE 0) (λ n₁.
      then-refuses (λ (n : ℕ). n) n₁ _ _ _ _ (expect-sees NAME n₁) (λ n₂.
      then-refuses (λ (x : List Declared × ℕ). x.1) n₂ (declarations W n₂) (declarations U n₂) _ _ (declarations-see n₂) (λ ds.
      then-refuses (λ (x : List Routine × ℕ). x.1) ds.1 (routines W ds.1) (routines U ds.1) _ _ (routines-see ds.1) (λ rs.
      then-refuses (λ (n : ℕ). n) rs.1 _ _ _ _ (expect-sees ENDMODULE rs.1) (λ n₅.
      then-refuses (λ (n : ℕ). n) n₅ _ _ _ _ (expect-sees NOTHING n₅) (λ n₆. tt))))))

  -- Where it says 8 at word i, it does so of all words that begin with the same i + 1.
  pub refused-alike : formed W ≡ no 8 i → formed U ≡ no 8 i
  refused-alike h = (subst (λ (p : Parsed Module). Refuses 0 p (formed U)) h formed-refuses (λ z. omega arith)).1 (omega arith)
