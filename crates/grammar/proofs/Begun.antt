-- What the paper's parser refuses with 8 can be completed: one law for each thing that is read, with the shortest that it reads and the words that may be behind it.
use mathlib.Core.Path.{◌≡◌, refl, sym, ap, subst, ◌∙◌}
use mathlib.Core.Bool.{Bool, true, false, ◌||◌}
use mathlib.Core.List.{List, [], ◌∷◌, ◌++◌}
use mathlib.Core.Logic.{◌⊎◌, inl, inr}
use mathlib.Core.Option.{Option, none, some}
use Prim.Native.Nat.{ℕ, zero, suc, ◌+◌, ◌<◌, ◌≤◌}
use native.Mathlib.Omega.{arith}
use lib.Dec.{eqb}
use borrow.Author.Tests.{eqb-true, eq-eqb, ne_eqb}
use Rattle.laws.proofs.Tests.{test, false-true}
use Rattle.std.specs.Prelude.{if◌then◌else◌}
use Rattle.paper.specs.Sorts.{NOT, plus, minus_sign, NAME, NUMBER, STRING, NUM, NOTHING, close_brace, close_paren, open_brace, open_paren, comma, semicolon, becomes, colon, backslash, CASE, DEFAULT, DO}
use Rattle.paper.specs.Sorts.{ELSE, ELSEIF, ENDFOR, ENDFUNC, ENDIF, ENDMODULE, ENDPROC, ENDTEST, ENDWHILE, ERROR, EXIT, FOR, FROM, IF, MODULE, PROC, RAISE, RETRY, RETURN, STEP, TEST, THEN, TO}
use Rattle.paper.specs.Sorts.{TPREADNUM, TPWRITE, TRYNEXT, UNDO, VAR, WHILE}
use Rattle.paper.specs.Words.{word_limit}
use Rattle.paper.specs.Trees.{variable_data, initial_data, array_data, constant_data, Expr, leaf, element, nested, signed, joined, Target, Simple, assign, assign_call, call, returns, raises, exits}
use Rattle.paper.specs.Trees.{retries, tries_next, writes, reads, Statement, Statements, Cases, simple, compact_if, full_if, for, while, empty, ◌then◌, no_arm, arm, no_case, case, Content, Module}
use Rattle.paper.specs.Trees.{test as test_tree}
use Rattle.paper.specs.Expressions.{Parsed, Parser, got, no, ◌>>=◌, parts, nestings, sums, relations, disjunctions, level_of, stands_before, is_literal, starts_data, starts_routine, starts_simple}
use Rattle.paper.specs.Expressions.{starts_statement, expect, in_parentheses, indexed, named, operand, chain, prefixed, level, expr_in, expr, unless, separated, repeated, exprs, arguments}
use Rattle.paper.specs.Statements.{target_index, target, value_side, call_side, right_side, assignment, procedure_call, started_by_name, with_optional, written, tp_write, tp_read_num, simple_word}
use Rattle.paper.specs.Statements.{simple_statement, else_part, last_arm, arms, if_then, if_simple, if_statement, step_part, for_statement, while_statement, default_part, last_case, cases, test_statement}
use Rattle.paper.specs.Statements.{opening, plain_statement, statement, statements, list_in, list}
use Rattle.paper.specs.Form.{initial_part, size_part, var_part, const_part, datum, declaration, declarations, parameter, parameters, list_behind, routine_from, function, routine, routines, formed}
use Rattle.grammar.proofs.Completing.{both_true, not-both-false, neither-false}
use Rattle.grammar.proofs.Completions.{Family, Made, reads_as, yes-if, no-if, yes-when, no-when, then-made, Agrees, Real, GoesBy, Goes, PastBy, Past, Both, then-goes, then-past, goes_then}
use Rattle.grammar.proofs.Completions.{both-then, goes_last, both-last, start, begun, goes-as, later, next, filled, refused-here, done-both, done, far, real-word, real-join, past-if, if-else}
use Rattle.grammar.proofs.Completions.{if-then, when-else, when-then, mapped, mapped-goes, last_word, expect-made, expect-goes, expect-both, type-both}

-- A word behind an expression that is completed.
pub record Ender (c : ℕ) : Type 0 where
  pub loose : level_of c ≡ 0
  pub brace : eqb c open_brace ≡ false

-- The module up to its end, with the place there.
abbrev pub Formed : (ℕ → ℕ) → Parsed (Module × ℕ)
Formed U = do
  n₁ ← expect U MODULE 0
  n₂ ← expect U NAME n₁
  (ds, n₃) ← declarations U n₂
  (rs, n₄) ← routines U n₃
  n₅ ← expect U ENDMODULE n₄
  got (record { declared = ds; routines = rs }, n₅)

-- a parser of each text
abbrev Parsers : Type 0 → Type 0
Parsers A = (ℕ → ℕ) → Parser A

-- no sign stands before it
no_sign : (i s : ℕ) → eqb s NOT ≡ false → eqb s plus ≡ false → eqb s minus_sign ≡ false → stands_before i s ≡ false
unfolding stands_before
no_sign i s x y z = by (eqb i disjunctions) (eqb i sums)
  where
    by : (a b : Bool) → (if a then eqb s NOT else if b then eqb s plus || eqb s minus_sign else false) ≡ false
    by true b = x
    by false true = neither-false _ _ y z
    by false false = refl

module _ (W : ℕ → ℕ) where
  -- A refusal past the most words that a text may have.
  worn : {A : Type 0} (inh : List ℕ) (c s : ℕ) (q : Family A) → q W ≡ no 8 s → parts ≤ s → Goes W inh c s q
  worn {A} inh c s q e l = record { steps = subst (λ (p : Parsed (A × ℕ)). GoesBy W inh c s p q) (sym e) (λ _. (omega arith, λ w. absurd (omega arith), λ j l m _. omega arith)) }

  -- ---- expressions
  module _ (c : ℕ) (ender : Ender c) (inner : Parsers Expr) (in-parens : (at : ℕ) → Goes W (NUMBER ∷ []) close_paren at (λ U. inner U at)) (in-braces : (at : ℕ) → Goes W (NUMBER ∷ []) close_brace at (λ U. inner U at)) where
    -- from the word behind a name on
    named-both : (at : ℕ) → Both W [] c (at + 1) (λ U. named U (inner U) at)
    unfolding named indexed
    named-both at =
        if-else W (λ s. eqb s open_brace) [] c (at + 1) (λ U. indexed U (inner U) at) (λ U. got (leaf at, at + 1)) ender.brace refl
        (λ t r. later W (NUMBER ∷ close_brace ∷ []) c (at + 1) (at + 2) _ (omega arith) r (goes_then W (λ U. inner U (at + 2)) _ (NUMBER ∷ []) (close_brace ∷ []) c
        (at + 2) (in-braces (at + 2)) (λ x l.
        last_word W c x.1 close_brace refl (element at x.0))))
        (done W c (at + 1) (leaf at))

    operand-past : (at : ℕ) → Past W c at (λ U. operand U (inner U) at)
    unfolding operand in_parentheses is_literal
    operand-past at =
        past-if W (λ s. eqb s open_paren) c at (λ U. in_parentheses U (inner U) at) _ refl
        (λ t r. next W (NUMBER ∷ close_paren ∷ []) c at _ r (goes_then W (λ U. inner U (at + 1)) _ (NUMBER ∷ []) (close_paren ∷ []) c (at + 1) (in-parens (at + 1)) (λ x l.
        last_word W c x.1 close_paren refl (nested at x.0))))
        (λ _. past-if W (λ s. eqb s NAME) c at (λ U. named U (inner U) at) _ refl (λ t r. next W [] c at _ r (named-both at).goes)
        (λ _. past-if W is_literal c at (λ U. got (leaf at, at + 1)) (λ U. no 8 at) refl (λ t r. next W [] c at _ r (done W c (at + 1) (leaf at)).goes)
        (λ _. refused-here W c at (λ U. no 8 at) refl)))

    operand-both : (at : ℕ) → Both W (NUMBER ∷ []) c at (λ U. operand U (inner U) at)
    unfolding operand is_literal
    operand-both at = begun W (NUMBER ∷ []) c at _ (λ U t. record { value = leaf at; is = rw (t.0, operand) }) (operand-past at)

    -- an operand that is a name
    named-operand : (at : ℕ) → W at ≡ NAME → Goes W [] c (at + 1) (λ U. operand U (inner U) at)
    unfolding operand
    named-operand at e = goes-as W [] c (at + 1) (λ U. named U (inner U) at) _ (λ U a _. rw (a at (omega arith) ∙ e, operand)) (named-both at).goes

    module _ (j : ℕ) (sub : Parsers Expr) (inside : (at : ℕ) → Both W (NUMBER ∷ []) c at (λ U. sub U at)) where
      no-level : eqb (level_of NOTHING) (suc j) ≡ false
      unfolding level_of
      no-level = ne_eqb 0 (suc j) (λ z. omega arith)

      no-operator : eqb (level_of c) (suc j) ≡ false
      no-operator = ne_eqb (level_of c) (suc j) (λ z. omega (arith, z, ender.loose))

      chain-made : (p at : ℕ) (e : Expr) → 0 < p → Made [] c at (λ U. chain U p (suc j) (sub U) e at)
      unfolding chain
      chain-made zero at e l = absurd (omega arith)
      chain-made (suc p) at e l = λ U t. record { value = e; is = no-when (eqb (level_of (U at)) (suc j)) _ _ (ap (λ (s : ℕ). eqb (level_of s) (suc j)) t ∙ no-operator) }

      chain-goes : (p at : ℕ) (e : Expr) → parts ≤ p + at → Goes W [] c at (λ U. chain U p (suc j) (sub U) e at)
      unfolding chain
      chain-goes zero at e l = worn [] c at _ refl (omega arith)
      chain-goes (suc p) at e l =
          (when-else W (λ s. eqb (level_of s) (suc j)) [] c at _ (λ U. got (e, at)) no-operator no-level
          (λ t r. next W (NUMBER ∷ []) c at _ r (then-goes W (λ U. sub U (at + 1)) _ (NUMBER ∷ []) [] c (at + 1)
          (λ w x m. made (eqb (suc j) relations) x (omega arith))
          (inside (at + 1)).goes
          (λ x m. goes (eqb (suc j) relations) x (chain-goes p x.1 (joined at e x.0) (omega arith)))))
          (done W c at e)).goes
        where
          made : (b : Bool) (x : Expr × ℕ) → 0 < p → Made {A = Expr} [] c x.1 (λ U. elim b [ true ↦ got (joined at e x.0, x.1) | false ↦ chain U p (suc j) (sub U) (joined at e x.0) x.1 ])
          made true x l = (done W c x.1 (joined at e x.0)).made
          made false x l = chain-made p x.1 (joined at e x.0) l

          goes : (b : Bool) (x : Expr × ℕ) → Goes W [] c x.1 (λ U. chain U p (suc j) (sub U) (joined at e x.0) x.1)
              → Goes W {A = Expr} [] c x.1 (λ U. elim b [ true ↦ got (joined at e x.0, x.1) | false ↦ chain U p (suc j) (sub U) (joined at e x.0) x.1 ])
          goes true x h = (done W c x.1 (joined at e x.0)).goes
          goes false x h = h

      chain-both : (at : ℕ) (e : Expr) → Both W [] c at (λ U. chain U parts (suc j) (sub U) e at)
      chain-both at e = record { made = chain-made parts at e (omega arith); goes = chain-goes parts at e (omega arith) }

      prefixed-both : (at : ℕ) → Both W (NUMBER ∷ []) c at (λ U. prefixed U (suc j) (sub U) at)
      unfolding prefixed
      prefixed-both at =
          when-else W (stands_before (suc j)) (NUMBER ∷ []) c at _ (λ U. sub U at) (no_sign (suc j) NUMBER refl refl refl) (no_sign (suc j) NOTHING refl refl refl)
          (λ t r. next W (NUMBER ∷ []) c at _ r (mapped-goes W (λ U. sub U (at + 1)) (NUMBER ∷ []) c (at + 1) (inside (at + 1)).goes (λ x. signed at x.0)))
          (inside at)

      next_level : (at : ℕ) → Both W (NUMBER ∷ []) c at (λ U. prefixed U (suc j) (sub U) at >>= λ x. chain U parts (suc j) (sub U) x.0 x.1)
      next_level at = both-then W (λ U. prefixed U (suc j) (sub U) at) _ (NUMBER ∷ []) [] c at (prefixed-both at) (λ x l. chain-both x.1 x.0)

      named-next : (at : ℕ) → W at ≡ NAME → Goes W [] c (at + 1) (λ U. sub U at)
          → Goes W [] c (at + 1) (λ U. prefixed U (suc j) (sub U) at >>= λ x. chain U parts (suc j) (sub U) x.0 x.1)
      unfolding prefixed
      named-next at e h =
          goes_then W (λ U. prefixed U (suc j) (sub U) at) _ [] [] c (at + 1)
          (goes-as W [] c (at + 1) (λ U. sub U at) (λ U. prefixed U (suc j) (sub U) at) (λ U a _. no-when (stands_before (suc j) (U at)) _ _
          (ap (stands_before (suc j)) (a at (omega arith) ∙ e) ∙ no_sign (suc j) NAME refl refl refl)) h) (λ x l. chain-both x.1 x.0)

    level-both : (j at : ℕ) → Both W (NUMBER ∷ []) c at (λ U. level U (inner U) j at)
    unfolding level
    level-both zero at = operand-both at
    level-both (suc j) at = next_level j (λ U. level U (inner U) j) (level-both j) at

    named-level : (j at : ℕ) → W at ≡ NAME → Goes W [] c (at + 1) (λ U. level U (inner U) j at)
    unfolding level
    named-level zero at e = named-operand at e
    named-level (suc j) at e = named-next j (λ U. level U (inner U) j) (level-both j) at e (named-level j at e)

  brace-ender : Ender close_brace
  unfolding level_of
  brace-ender = record { loose = refl; brace = refl }

  paren-ender : Ender close_paren
  unfolding level_of
  paren-ender = record { loose = refl; brace = refl }

  expr-in-goes : (d c at : ℕ) → Ender c → Goes W (NUMBER ∷ []) c at (λ U. expr_in U d at)
  unfolding expr_in
  expr-in-goes zero c at ender = record { steps = λ e. absurd (omega (arith, e)) }
  expr-in-goes (suc d) c at ender =
      (level-both c ender (λ U. expr_in U d) (λ n. expr-in-goes d close_paren n paren-ender) (λ n. expr-in-goes d close_brace n brace-ender) disjunctions at).goes

  expr-in-both : (d c at : ℕ) → Ender c → Both W (NUMBER ∷ []) c at (λ U. expr_in U (suc d) at)
  unfolding expr_in
  expr-in-both d c at ender = level-both c ender (λ U. expr_in U d) (λ n. expr-in-goes d close_paren n paren-ender) (λ n. expr-in-goes d close_brace n brace-ender) disjunctions at

  expr-both : (c at : ℕ) → Ender c → Both W (NUMBER ∷ []) c at (λ U. expr U at)
  unfolding expr
  expr-both c at ender = expr-in-both nestings c at ender

  -- an expression that begins with a name
  named-expr : (c at : ℕ) → Ender c → W at ≡ NAME → Goes W [] c (at + 1) (λ U. expr U at)
  unfolding expr expr_in
  named-expr c at ender e =
      named-level c ender (λ U. expr_in U nestings) (λ n. expr-in-goes nestings close_paren n paren-ender) (λ n. expr-in-goes nestings close_brace n brace-ender) disjunctions at e

  -- ---- sequences
  module _ {A : Type 0} (one : Parsers A) (v : ℕ) (i : List ℕ) (c : ℕ) (no-comma : eqb c comma ≡ false) (inside : (at : ℕ) → Both W (v ∷ i) c at (λ U. one U at)) where
    abbrev SeparatedRest : ℕ → A × ℕ → Family (List A)
    SeparatedRest p x U = elim (eqb (U x.1) comma) [ false ↦ got (x.0 ∷ [], x.1) | true ↦ separated U p (one U) (x.1 + 1) >>= λ y. got (x.0 ∷ y.0, y.1) ]

    separated-rest : (p : ℕ) (x : A × ℕ) → Goes W (v ∷ i) c (x.1 + 1) (λ U. separated U p (one U) (x.1 + 1)) → Both W [] c x.1 (SeparatedRest p x)
    separated-rest p x h =
        when-else W (λ s. eqb s comma) [] c x.1 (λ U. separated U p (one U) (x.1 + 1) >>= λ y. got (x.0 ∷ y.0, y.1)) (λ U. got (x.0 ∷ [], x.1)) no-comma refl
        (λ t r. next W (v ∷ i) c x.1 _ r (goes_last W (λ U. separated U p (one U) (x.1 + 1)) _ (v ∷ i) c (x.1 + 1) h (λ y l. done W c y.1 (x.0 ∷ y.0))))
        (done W c x.1 (x.0 ∷ []))

    separated-goes : (p at : ℕ) → parts ≤ p + at → Goes W (v ∷ i) c at (λ U. separated U p (one U) at)
    unfolding separated
    separated-goes zero at l = worn (v ∷ i) c at _ refl (omega arith)
    separated-goes (suc p) at l = goes_last W (λ U. one U at) _ (v ∷ i) c at (inside at).goes (λ x m. separated-rest p x (separated-goes p (x.1 + 1) (omega arith)))

    separated-both : (at : ℕ) → Both W (v ∷ i) c at (λ U. separated U parts (one U) at)
    unfolding separated
    separated-both at = both-last W (λ U. one U at) _ (v ∷ i) c at (inside at) (λ x m. separated-rest word_limit x (separated-goes word_limit (x.1 + 1) (omega arith)))

  -- none before the word that closes them
  closed-both : {A : Type 0} (one : Parsers A) (v : ℕ) (i : List ℕ) (closing : ℕ) → eqb closing comma ≡ false → ((at : ℕ) → Both W (v ∷ i) closing at (λ U. one U at)) → (at : ℕ)
      → Both W [] closing at (λ U. if eqb (U at) closing then got ([], at) else separated U parts (one U) at)
  closed-both one v i closing no-comma h at =
      if-then W (λ s. eqb s closing) [] closing at (λ U. separated U parts (one U) at) (λ U. got ([], at)) (eq-eqb closing closing refl)
      (λ _. filled W v i closing at _ (separated-both one v i closing no-comma h at).goes) (done W closing at [])

  module _ {A : Type 0} (one : Parsers A) (starts : ℕ → Bool) (real : starts NOTHING ≡ false) (c : ℕ) (ends : starts c ≡ false) (inside : (at : ℕ) → Real W at (at + 1) → Past W c at (λ U. one U at)) where
    repeated-made : (p at : ℕ) → 0 < p → Made [] c at (λ U. repeated U p starts (one U) at)
    unfolding repeated
    repeated-made zero at l = absurd (omega arith)
    repeated-made (suc p) at l = λ U t. record { value = []; is = no-when (starts (U at)) _ _ (ap starts t ∙ ends) }

    repeated-goes : (p at : ℕ) → parts ≤ p + at → Goes W [] c at (λ U. repeated U p starts (one U) at)
    unfolding repeated
    repeated-goes zero at l = worn [] c at _ refl (omega arith)
    repeated-goes (suc p) at l =
        (when-else W starts [] c at (λ U. one U at >>= λ x. repeated U p starts (one U) x.1 >>= λ y. got (x.0 ∷ y.0, y.1)) (λ U. got ([], at)) ends real
        (λ t r. then-past W (λ U. one U at) _ [] c at
        (λ w x m. then-made (λ U. repeated U p starts (one U) x.1) _ [] [] c x.1 (repeated-made p x.1 (omega arith)) (λ y _. (done W c y.1 (x.0 ∷ y.0)).made))
        (inside at r)
        (λ x m. mapped-goes W (λ U. repeated U p starts (one U) x.1) [] c x.1 (repeated-goes p x.1 (omega arith)) (λ y. x.0 ∷ y.0)))
        (done W c at [])).goes

    repeated-both : (at : ℕ) → Both W [] c at (λ U. repeated U parts starts (one U) at)
    repeated-both at = record { made = repeated-made parts at (omega arith); goes = repeated-goes parts at (omega arith) }

  exprs-both : (c at : ℕ) → Ender c → eqb c comma ≡ false → Both W (NUMBER ∷ []) c at (λ U. exprs U at)
  unfolding exprs
  exprs-both c at ender k = separated-both expr NUMBER [] c k (λ n. expr-both c n ender) at

  arguments-both : (c at : ℕ) → Ender c → eqb c comma ≡ false → Both W [] c at (λ U. arguments U c at)
  unfolding arguments exprs
  arguments-both c at ender k = closed-both expr NUMBER [] c k (λ n. expr-both c n ender) at

  -- ---- simple statements
  -- from the word behind the name on
  target-from : (c at : ℕ) → eqb c open_brace ≡ false → W at ≡ NAME → Goes W [] c (at + 1) (λ U. target U at)
  unfolding target target_index
  target-from c at b e =
      let r : Family Target = λ U. elim (eqb (U (at + 1)) open_brace) [ true ↦ target_index U at | false ↦ got (record { name = at; index = none }, at + 1) ] in
      goes-as W [] c (at + 1) r _ (λ U a _. yes-when (eqb (U at) NAME) _ _ (eq-eqb (U at) NAME (a at (omega arith) ∙ e)))
      (when-else W (λ s. eqb s open_brace) [] c (at + 1) (λ U. target_index U at) (λ U. got (record { name = at; index = none }, at + 1)) b refl
      (λ t r. later W (NUMBER ∷ close_brace ∷ []) c (at + 1) (at + 2) _ (omega arith) r (goes_then W (λ U. expr_in U nestings (at + 2)) _ (NUMBER ∷ [])
      (close_brace ∷ []) c (at + 2) (expr-in-goes nestings close_brace (at + 2) brace-ender) (λ x l.
      last_word W c x.1 close_brace refl (record { name = at; index = some x.0 }))))
      (done W c (at + 1) (record { name = at; index = none }))).goes

  target-both : (c at : ℕ) → eqb c open_brace ≡ false → Both W (NAME ∷ []) c at (λ U. target U at)
  unfolding target
  target-both c at b =
      begun W (NAME ∷ []) c at _
      (λ U t. record {
        value = record { name = at; index = none };
        is = yes-when (eqb (U at) NAME) _ _ (eq-eqb (U at) NAME t.0) ∙ no-when
            (eqb (U (at + 1)) open_brace) _ _ (ap (λ (s : ℕ). eqb s open_brace) t.1 ∙ b);
      })
      (test (eqb (W at) NAME) (λ t. next W [] c at _ (real-word W (λ s. eqb s NAME) at t refl) (target-from c at b (eqb-true (W at) NAME t)))
      (λ t. refused-here W c at _ (no-when (eqb (W at) NAME) _ _ t)))

  semicolon-ender : Ender semicolon
  unfolding level_of
  semicolon-ender = record { loose = refl; brace = refl }

  module _ (t : Target) (at : ℕ) where
    value-side : Both W (NUMBER ∷ []) semicolon at (λ U. value_side U t at)
    unfolding value_side
    value-side = mapped W (λ U. expr U at) (NUMBER ∷ []) semicolon at (expr-both semicolon at semicolon-ender) (λ x. assign t x.0)

    named-side : W at ≡ NAME → Goes W [] semicolon (at + 1) (λ U. value_side U t at)
    unfolding value_side
    named-side e = mapped-goes W (λ U. expr U at) [] semicolon (at + 1) (named-expr semicolon at semicolon-ender e) (λ x. assign t x.0)

    call-side : Both W (close_paren ∷ []) semicolon (at + 2) (λ U. call_side U t at)
    unfolding call_side
    call-side =
        both-then W (λ U. arguments U close_paren (at + 2)) _ [] (close_paren ∷ []) semicolon (at + 2) (arguments-both close_paren (at + 2) paren-ender refl)
        (λ x l. last_word W semicolon x.1 close_paren refl (assign_call t at x.0))

    -- a word that is as before, or the one of a completion
    stays-false : (f : ℕ → Bool) (s : ℕ) (v w : ℕ) → f w ≡ false → f v ≡ false → (s ≡ w) ⊎ (s ≡ v) → f s ≡ false
    stays-false f s v w h g (inl e) = ap f e ∙ h
    stays-false f s v w h g (inr e) = ap f e ∙ g

    right-side : Both W (NUMBER ∷ []) semicolon at (λ U. right_side U t at)
    unfolding right_side
    right-side = record { made = made; goes = test (eqb (W at) NAME) (λ n. start W (NUMBER ∷ []) semicolon at _ (λ _. made) (by-paren n)) no_name }
      where
        made : Made (NUMBER ∷ []) semicolon at (λ U. right_side U t at)
        made U h =
            reads_as (no-if _ _ _ (not-both-false (eqb (U at) NAME) (eqb (U (at + 1)) open_paren) (λ a _. false-true (sym (ap (λ (s : ℕ). eqb s NAME) h.0) ∙ a))))
            (value-side.made U h)

        no_name : eqb (W at) NAME ≡ false → Goes W (NUMBER ∷ []) semicolon at (λ U. right_side U t at)
        no_name n =
            goes-as W (NUMBER ∷ []) semicolon at (λ U. value_side U t at) _ (λ U a e. no-if _ _ _
            (not-both-false (eqb (U at) NAME) (eqb (U (at + 1)) open_paren) (λ b _. false-true (sym (stays-false (λ s. eqb s NAME) (U at) NUMBER (W at) n refl e) ∙ b)))) value-side.goes

        two : eqb (W at) NAME ≡ true → eqb (W (at + 1)) open_paren ≡ true → Real W at (at + 2)
        two n o =
            let z : at + 1 + 1 ≡ at + 2 = omega arith in real-join W at (at + 1) (at + 2) (real-word W (λ s. eqb s NAME) at n refl)
            (subst (Real W (at + 1)) z (real-word W (λ s. eqb s open_paren) (at + 1) o refl))

        by-paren : eqb (W at) NAME ≡ true → Past W semicolon at (λ U. right_side U t at)
        by-paren n =
            test (eqb (W (at + 1)) open_paren)
            (λ o. far W (close_paren ∷ []) semicolon at (at + 2) (λ U. right_side U t at) (omega arith) (two n o)
            (goes-as W (close_paren ∷ []) semicolon (at + 2) (λ U. call_side U t at) (λ U. right_side U t at) (λ U a _.
            yes-if _ _ _ (both_true (eqb (U at) NAME) (eqb (U (at + 1)) open_paren) (ap (λ (s : ℕ). eqb s NAME) (a at (omega arith)) ∙ n)
            (ap (λ (s : ℕ). eqb s open_paren) (a (at + 1) (omega arith)) ∙ o))) call-side.goes))
            (λ o. next W [] semicolon at (λ U. right_side U t at) (real-word W (λ s. eqb s NAME) at n refl)
            (goes-as W [] semicolon (at + 1) (λ U. value_side U t at) (λ U. right_side U t at) (λ U a e.
            no-if _ _ _ (not-both-false (eqb (U at) NAME) (eqb (U (at + 1)) open_paren) (λ _ b. false-true
            (sym (stays-false (λ s. eqb s open_paren) (U (at + 1)) semicolon (W (at + 1)) o refl e) ∙ b)))) (named-side (eqb-true (W at) NAME n))))

  module _ (at : ℕ) where
    assignment-goes : W at ≡ NAME → Goes W (becomes ∷ NUMBER ∷ []) semicolon (at + 1) (λ U. assignment U at)
    unfolding assignment
    assignment-goes e =
        goes_then W (λ U. target U at) _ [] (becomes ∷ NUMBER ∷ []) semicolon (at + 1) (target-from becomes at refl e)
        (λ x l. expect-both W (NUMBER ∷ []) semicolon x.1 _ becomes refl (right-side x.0 (x.1 + 1)))

    procedure-call : Both W [] semicolon (at + 1) (λ U. procedure_call U at)
    unfolding procedure_call
    procedure-call = mapped W (λ U. arguments U semicolon (at + 1)) [] semicolon (at + 1) (arguments-both semicolon (at + 1) semicolon-ender refl) (λ x. call at x.0)

    by_name : W at ≡ NAME → Both W [] semicolon (at + 1) (λ U. started_by_name U at)
    unfolding started_by_name
    by_name e =
        if-else W (λ s. eqb s becomes || eqb s open_brace) [] semicolon (at + 1) (λ U. assignment U at) (λ U. procedure_call U at) refl refl
        (λ t r. filled W becomes (NUMBER ∷ []) semicolon (at + 1) _ (assignment-goes e)) procedure-call

    unless-both : Both W [] semicolon at (λ U. unless U semicolon at)
    unfolding unless
    unless-both =
        when-then W (λ s. eqb s semicolon) [] semicolon at (λ U. expr U at >>= λ x. got (some x.0, x.1)) (λ U. got (none, at)) refl
        (λ t. filled W NUMBER [] semicolon at _ (mapped-goes W (λ U. expr U at) (NUMBER ∷ []) semicolon at (expr-both semicolon at semicolon-ender).goes (λ x. some x.0)))
        (done W semicolon at none)

    written_both : Both W [] semicolon at (λ U. written U at)
    unfolding written
    written_both =
        when-else W (λ s. eqb s backslash) [] semicolon at _ (λ U. got (none, at)) refl refl
        (λ t r. next W (NUM ∷ becomes ∷ NUMBER ∷ []) semicolon at _ r (expect-both W (becomes ∷ NUMBER ∷ []) semicolon (at + 1) _ NUM refl (
        expect-both W (NUMBER ∷ []) semicolon (at + 1 + 1) _ becomes refl (
        mapped W (λ U. expr U (at + 1 + 1 + 1)) (NUMBER ∷ []) semicolon (at + 1 + 1 + 1) (expr-both semicolon (at + 1 + 1 + 1) semicolon-ender) (λ x. some x.0)))).goes)
        (done W semicolon at none)

  optional-both : (make : ℕ → Option Expr → Simple) (at : ℕ) → Both W [] semicolon (at + 1) (λ U. with_optional U make at)
  unfolding with_optional
  optional-both make at = mapped W (λ U. unless U semicolon (at + 1)) [] semicolon (at + 1) (unless-both (at + 1)) (λ x. make at x.0)

  write-both : (at : ℕ) → Both W (STRING ∷ []) semicolon (at + 1) (λ U. tp_write U at)
  unfolding tp_write
  write-both at =
      expect-both W [] semicolon (at + 1) _ STRING refl (mapped W (λ U. written U (at + 1 + 1)) [] semicolon (at + 1 + 1) (written_both (at + 1 + 1)) (λ x. writes at (at + 1) x.0))

  read-both : (at : ℕ) → Both W (NAME ∷ comma ∷ STRING ∷ []) semicolon (at + 1) (λ U. tp_read_num U at)
  unfolding tp_read_num
  read-both at =
      both-then W (λ U. target U (at + 1)) _ (NAME ∷ []) (comma ∷ STRING ∷ []) semicolon (at + 1) (target-both comma (at + 1) refl) (λ x l.
      expect-both W (STRING ∷ []) semicolon x.1 _ comma refl (last_word W semicolon (x.1 + 1) STRING refl (reads at x.0 (x.1 + 1))))

  simple-past : (at : ℕ) → Past W semicolon at (λ U. simple_word U at)
  unfolding simple_word
  simple-past at =
      past-if W (λ s. eqb s NAME) semicolon at (λ U. started_by_name U at) _ refl (λ t r. next W [] semicolon at _ r (by_name at (eqb-true _ _ t)).goes) (λ _.
      past-if W (λ s. eqb s RETURN) semicolon at (λ U. with_optional U returns at) _ refl (λ _ r. next W [] semicolon at _ r (optional-both returns at).goes) (λ _.
      past-if W (λ s. eqb s RAISE) semicolon at (λ U. with_optional U raises at) _ refl (λ _ r. next W [] semicolon at _ r (optional-both raises at).goes) (λ _.
      past-if W (λ s. eqb s EXIT) semicolon at (λ U. got (exits at, at + 1)) _ refl (λ _ r. next W [] semicolon at _ r (done W semicolon (at + 1) (exits at)).goes) (λ _.
      past-if W (λ s. eqb s RETRY) semicolon at (λ U. got (retries at, at + 1)) _ refl (λ _ r. next W [] semicolon at _ r (done W semicolon (at + 1) (retries at)).goes) (λ _.
      past-if W (λ s. eqb s TRYNEXT) semicolon at (λ U. got (tries_next at, at + 1)) _ refl (λ _ r. next W [] semicolon at _ r (done W semicolon (at + 1) (tries_next at)).goes) (λ _.
      past-if W (λ s. eqb s TPWRITE) semicolon at (λ U. tp_write U at) _ refl (λ _ r. next W (STRING ∷ []) semicolon at _ r (write-both at).goes) (λ _.
      past-if W (λ s. eqb s TPREADNUM) semicolon at (λ U. tp_read_num U at) (λ U. no 8 at) refl (λ _ r. next W (NAME ∷ comma ∷ STRING ∷ []) semicolon at _ r (read-both at).goes) (λ _.
      refused-here W semicolon at (λ U. no 8 at) refl))))))))

  simple-both : (c at : ℕ) → Both W (EXIT ∷ semicolon ∷ []) c at (λ U. simple_statement U at)
  unfolding simple_statement simple_word
  simple-both c at =
      both-then W (λ U. simple_word U at) _ (EXIT ∷ []) (semicolon ∷ []) c at
      (begun W (EXIT ∷ []) semicolon at (λ U. simple_word U at) (λ U t. record { value = exits at; is = rw (t.0, simple_word) }) (simple-past at))
      (λ x l. last_word W c x.1 semicolon refl x.0)

  -- ---- compound statements
  word-ender : (c : ℕ) → level_of c ≡ 0 → eqb c open_brace ≡ false → Ender c
  word-ender c l b = record { loose = l; brace = b }

  step_both : (at : ℕ) → Both W [] DO at (λ U. step_part U at)
  unfolding step_part level_of
  step_both at =
      when-else W (λ s. eqb s STEP) [] DO at (λ U. expr U (at + 1) >>= λ x. got (some x.0, x.1)) (λ U. got (none, at)) refl refl
      (λ t r. next W (NUMBER ∷ []) DO at _ r (mapped-goes W (λ U. expr U (at + 1)) (NUMBER ∷ []) DO (at + 1) (expr-both DO (at + 1) (word-ender DO refl refl)).goes (λ x. some x.0)))
      (done W DO at none)

  -- "compact `IF e` with one of these"
  compact-both : (c at : ℕ) (e : Expr) (n : ℕ) → Both W (EXIT ∷ semicolon ∷ []) c n (λ U. if_simple U at e n)
  unfolding if_simple
  compact-both c at e n = mapped W (λ U. simple_statement U n) (EXIT ∷ semicolon ∷ []) c n (simple-both c n) (λ x. compact_if at e x.0)

  -- `list` reads the statements inside.
  module _ (list : Parsers Statements) (inside : (c at : ℕ) → starts_statement c ≡ false → Both W [] c at (λ U. list U at)) where
    else-both : (at : ℕ) → Both W [] ENDIF at (λ U. else_part U (list U) at)
    unfolding else_part starts_statement starts_simple
    else-both at =
        when-else W (λ s. eqb s ELSE) [] ENDIF at (λ U. list U (at + 1)) (λ U. got (empty, at)) refl refl
        (λ t r. next W [] ENDIF at _ r (inside ENDIF (at + 1) refl).goes) (done W ENDIF at empty)

    last-arm : (c : ℕ) (e : Expr) (b : Statements) (at : ℕ) → Both W (ENDIF ∷ []) c at (λ U. last_arm U (list U) e b at)
    unfolding last_arm
    last-arm c e b at = both-then W (λ U. else_part U (list U) at) _ [] (ENDIF ∷ []) c at (else-both at) (λ x l. last_word W c x.1 ENDIF refl (arm e b no_arm, x.0))

    arms-made : (c p at : ℕ) (e : Expr) → 0 < p → Made (ENDIF ∷ []) c at (λ U. arms U p (list U) e at)
    unfolding arms starts_statement starts_simple
    arms-made c zero at e l = absurd (omega arith)
    arms-made c (suc p) at e l =
        then-made (λ U. list U at) _ [] (ENDIF ∷ []) c at (inside ENDIF at refl).made (λ x m U t. reads_as
        (no-when (eqb (U x.1) ELSEIF) _ _ (ap (λ (s : ℕ). eqb s ELSEIF) t.0)) ((last-arm c e x.0 x.1).made U t))

    arms_goes : (c p at : ℕ) (e : Expr) → parts ≤ p + at → Goes W (ENDIF ∷ []) c at (λ U. arms U p (list U) e at)
    unfolding arms starts_statement starts_simple level_of
    arms_goes c zero at e l = worn (ENDIF ∷ []) c at _ refl (omega arith)
    arms_goes c (suc p) at e l =
        goes_then W (λ U. list U at) _ [] (ENDIF ∷ []) c at (inside ENDIF at refl).goes (λ x m.
        when-else W (λ s. eqb s ELSEIF) (ENDIF ∷ []) c x.1 _ (λ U. last_arm U (list U) e x.0 x.1) refl refl
        (λ _ r. next W (NUMBER ∷ THEN ∷ ENDIF ∷ []) c x.1 _ r (
        then-goes W (λ U. expr U (x.1 + 1)) _ (NUMBER ∷ []) (THEN ∷ ENDIF ∷ []) c (x.1 + 1)
        (λ w y o. expect-made W (ENDIF ∷ []) c y.1 _ THEN refl (then-made (λ U. arms U p (list U) y.0 (y.1 + 1)) _ (ENDIF ∷ []) [] c (y.1 + 1)
        (arms-made c p (y.1 + 1) y.0 (omega arith)) (λ z _. (done W c z.1 (arm e x.0 z.0.0, z.0.1)).made)))
        (expr-both THEN (x.1 + 1) (word-ender THEN refl refl)).goes
        (λ y o. expect-goes W (ENDIF ∷ []) c y.1 _ THEN refl
        (λ w. then-made (λ U. arms U p (list U) y.0 (y.1 + 1)) _ (ENDIF ∷ []) [] c (y.1 + 1) (arms-made c p (y.1 + 1) y.0 (omega arith))
        (λ z _. (done W c z.1 (arm e x.0 z.0.0, z.0.1)).made))
        (mapped-goes W (λ U. arms U p (list U) y.0 (y.1 + 1)) (ENDIF ∷ []) c (y.1 + 1) (arms_goes c p (y.1 + 1) y.0 (omega arith)) (λ z. (arm e x.0 z.0.0, z.0.1))))))
        (last-arm c e x.0 x.1))

    then-both : (c at : ℕ) (e : Expr) (n : ℕ) → Both W (ENDIF ∷ []) c (n + 1) (λ U. if_then U at (list U) e n)
    unfolding if_then
    then-both c at e n =
        mapped W (λ U. arms U parts (list U) e (n + 1)) (ENDIF ∷ []) c (n + 1) (record {
          made = arms-made c parts (n + 1) e (omega arith);
          goes = arms_goes c parts
              (n + 1) e (omega arith);
        }) (λ x. full_if at x.0.0 x.0.1)

    for-both : (c at : ℕ) → Both W (NAME ∷ FROM ∷ NUMBER ∷ TO ∷ NUMBER ∷ DO ∷ ENDFOR ∷ []) c (at + 1) (λ U. for_statement U (list U) at)
    unfolding for_statement starts_statement starts_simple level_of
    for-both c at =
        expect-both W (FROM ∷ NUMBER ∷ TO ∷ NUMBER ∷ DO ∷ ENDFOR ∷ []) c (at + 1) _ NAME refl (
        expect-both W (NUMBER ∷ TO ∷ NUMBER ∷ DO ∷ ENDFOR ∷ []) c (at + 1 + 1) _ FROM refl (
        both-then W (λ U. expr U (at + 1 + 1 + 1)) _ (NUMBER ∷ []) (TO ∷ NUMBER ∷ DO ∷ ENDFOR ∷ []) c (at + 1 + 1 + 1) (expr-both TO (at + 1 + 1 + 1) (word-ender TO refl refl)) (λ a _.
        expect-both W (NUMBER ∷ DO ∷ ENDFOR ∷ []) c a.1 _ TO refl (
        both-then W (λ U. expr U (a.1 + 1)) _ (NUMBER ∷ []) (DO ∷ ENDFOR ∷ []) c (a.1 + 1) (expr-both DO (a.1 + 1) (word-ender DO refl refl)) (λ b _.
        both-then W (λ U. step_part U b.1) _ [] (DO ∷ ENDFOR ∷ []) c b.1 (step_both b.1) (λ s _.
        expect-both W (ENDFOR ∷ []) c s.1 _ DO refl (
        both-then W (λ U. list U (s.1 + 1)) _ [] (ENDFOR ∷ []) c (s.1 + 1) (inside ENDFOR (s.1 + 1) refl) (λ x _.
        last_word W c x.1 ENDFOR refl (for at (at + 1) a.0 b.0 s.0 x.0 x.1)))))))))

    while-both : (c at : ℕ) → Both W (NUMBER ∷ DO ∷ ENDWHILE ∷ []) c (at + 1) (λ U. while_statement U (list U) at)
    unfolding while_statement starts_statement starts_simple level_of
    while-both c at =
        both-then W (λ U. expr U (at + 1)) _ (NUMBER ∷ []) (DO ∷ ENDWHILE ∷ []) c (at + 1) (expr-both DO (at + 1) (word-ender DO refl refl)) (λ e _.
        expect-both W (ENDWHILE ∷ []) c e.1 _ DO refl (
        both-then W (λ U. list U (e.1 + 1)) _ [] (ENDWHILE ∷ []) c (e.1 + 1) (inside ENDWHILE (e.1 + 1) refl) (λ x _.
        last_word W c x.1 ENDWHILE refl (while at e.0 x.0))))

    default-both : (at : ℕ) → Both W [] ENDTEST at (λ U. default_part U (list U) at)
    unfolding default_part starts_statement starts_simple
    default-both at =
        when-else W (λ s. eqb s DEFAULT) [] ENDTEST at (λ U. expect U colon (at + 1) >>= λ n. list U n) (λ U. got (empty, at)) refl refl
        (λ t r. next W (colon ∷ []) ENDTEST at _ r (expect-both W [] ENDTEST (at + 1) (λ U n. list U n) colon refl (inside ENDTEST (at + 1 + 1) refl)).goes)
        (done W ENDTEST at empty)

    last-case : (c at : ℕ) → Both W (ENDTEST ∷ []) c at (λ U. last_case U (list U) at)
    unfolding last_case
    last-case c at = both-then W (λ U. default_part U (list U) at) _ [] (ENDTEST ∷ []) c at (default-both at) (λ x l. last_word W c x.1 ENDTEST refl (no_case, x.0))

    cases-made : (c p at : ℕ) → 0 < p → Made (ENDTEST ∷ []) c at (λ U. cases U p (list U) at)
    unfolding cases
    cases-made c zero at l = absurd (omega arith)
    cases-made c (suc p) at l = λ U t. reads_as (no-when (eqb (U at) CASE) _ _ (ap (λ (s : ℕ). eqb s CASE) t.0)) ((last-case c at).made U t)

    -- what follows the constants of a CASE
    case-made : (c p : ℕ) (cs : List Expr) (at : ℕ) → 0 < p → Made {A = Cases × Statements} (ENDTEST ∷ []) c at (λ U. list U at >>= λ b. cases U p (list U) b.1 >>= λ z. got ((case cs b.0 z.0.0, z.0.1), z.1))
    unfolding starts_statement starts_simple
    case-made c p cs at l =
        then-made (λ U. list U at) _ [] (ENDTEST ∷ []) c at (inside ENDTEST at refl).made (λ b _.
        then-made (λ U. cases U p (list U) b.1) _ (ENDTEST ∷ []) [] c b.1 (cases-made c p b.1 l) (λ z _. (done W c z.1 (case cs b.0 z.0.0, z.0.1)).made))

    cases-goes : (c p at : ℕ) → parts ≤ p + at → Goes W (ENDTEST ∷ []) c at (λ U. cases U p (list U) at)
    unfolding cases starts_statement starts_simple level_of
    cases-goes c zero at l = worn (ENDTEST ∷ []) c at _ refl (omega arith)
    cases-goes c (suc p) at l =
        (when-else W (λ s. eqb s CASE) (ENDTEST ∷ []) c at _ (λ U. last_case U (list U) at) refl refl
        (λ _ r. next W (NUMBER ∷ colon ∷ ENDTEST ∷ []) c at _ r (
        then-goes W (λ U. exprs U (at + 1)) _ (NUMBER ∷ []) (colon ∷ ENDTEST ∷ []) c (at + 1)
        (λ w y o. expect-made W (ENDTEST ∷ []) c y.1 _ colon refl (case-made c p y.0 (y.1 + 1) (omega arith)))
        (exprs-both colon (at + 1) (word-ender colon refl refl) refl).goes
        (λ y o. expect-goes W (ENDTEST ∷ []) c y.1 _ colon refl (λ w. case-made c p y.0 (y.1 + 1) (omega arith)) (
        then-goes W (λ U. list U (y.1 + 1)) _ [] (ENDTEST ∷ []) c (y.1 + 1)
        (λ w b _. then-made (λ U. cases U p (list U) b.1) _ (ENDTEST ∷ []) [] c b.1 (cases-made c p b.1 (omega arith))
        (λ z _. (done W c z.1 (case y.0 b.0 z.0.0, z.0.1)).made))
        (inside ENDTEST (y.1 + 1) refl).goes
        (λ b m. mapped-goes W (λ U. cases U p (list U) b.1) (ENDTEST ∷ []) c b.1 (cases-goes c p b.1 (omega arith)) (λ z. (case y.0 b.0 z.0.0, z.0.1)))))))
        (last-case c at)).goes

    test-both : (c at : ℕ) → Both W (NUMBER ∷ ENDTEST ∷ []) c (at + 1) (λ U. test_statement U (list U) at)
    unfolding test_statement level_of
    test-both c at =
        both-then W (λ U. expr U (at + 1)) _ (NUMBER ∷ []) (ENDTEST ∷ []) c (at + 1) (expr-both ENDTEST (at + 1) (word-ender ENDTEST refl refl)) (λ e _.
        mapped W (λ U. cases U parts (list U) e.1) (ENDTEST ∷ []) c e.1 (record {
          made = cases-made c parts e.1 (omega arith);
          goes = cases-goes c parts e.1
              (omega arith);
        }) (λ x. test_tree at e.0 x.0.0 x.0.1))

  -- The compound statements, with what stands deeper if anything may.
  record Nests (deeper : (ℕ → ℕ) → Option (Parser Statements)) : Type 0 where
    an-if : (c at : ℕ) → Real W at (at + 1) → Past W c at (λ U. if_statement U (deeper U) at)
    a-for : (c at : ℕ) → Real W at (at + 1) → Past W c at (λ U. opening U (deeper U) (for_statement U) at)
    a-while : (c at : ℕ) → Real W at (at + 1) → Past W c at (λ U. opening U (deeper U) (while_statement U) at)
    a_test : (c at : ℕ) → Real W at (at + 1) → Past W c at (λ U. opening U (deeper U) (test_statement U) at)

  -- a refusal with 9
  too-deep : {A : Type 0} (c s j : ℕ) (q : Family A) → q W ≡ no 9 j → Past W c s q
  too-deep {A} c s j q e = record { steps = subst (λ (p : Parsed (A × ℕ)). PastBy W c s p q) (sym e) (λ z. absurd (omega (arith, z))) }

  if_past : (deeper : (ℕ → ℕ) → Option (Parser Statements)) (c at : ℕ) → Real W at (at + 1)
      → ((e : Expr) (n : ℕ) → Real W n (n + 1) → Past W {A = Statement} c n (λ U. elim (deeper U) [ none ↦ no 9 n | some within ↦ if_then U at within e n ])) → Past W c at (λ U. if_statement U (deeper U) at)
  unfolding if_statement level_of
  if_past deeper c at r h =
      next W (NUMBER ∷ EXIT ∷ semicolon ∷ []) c at _ r (
      goes_then W (λ U. expr U (at + 1)) _ (NUMBER ∷ []) (EXIT ∷ semicolon ∷ []) c (at + 1) (expr-both EXIT (at + 1) (word-ender EXIT refl refl)).goes (λ x _.
      if-else W (λ s. eqb s THEN) (EXIT ∷ semicolon ∷ []) c x.1 _ (λ U. if_simple U at x.0 x.1) refl refl (λ _ r. h x.0 x.1 r) (compact-both c at x.0 x.1)))

  none-nests : Nests (λ U. none)
  unfolding opening
  none-nests =
      record {
        an-if = λ c at r. if_past (λ U. none) c at r (λ e n _. too-deep c n n _ refl);
        a-for = λ c at _. too-deep c at at _ refl;
        a-while = λ c at _. too-deep c at at _ refl;
        a_test = λ c at _. too-deep c at at _ refl;
      }

  some-nests : (list : Parsers Statements) → ((c at : ℕ) → starts_statement c ≡ false → Both W [] c at (λ U. list U at)) → Nests (λ U. some (list U))
  unfolding opening
  some-nests within h =
      record {
        an-if = λ c at r. if_past (λ U. some (within U)) c at r (λ e n v. next W (ENDIF ∷ []) c n _ v (then-both within h c at e n).goes);
        a-for = λ c at r. next W (NAME ∷ FROM ∷ NUMBER ∷ TO ∷ NUMBER ∷ DO ∷ ENDFOR ∷ []) c at _ r (for-both within h c at).goes;
        a-while = λ c at r. next W (NUMBER ∷ DO ∷ ENDWHILE ∷ []) c at _ r (while-both within h c at).goes;
        a_test = λ c at r. next W (NUMBER ∷ ENDTEST ∷ []) c at _ r (test-both within h c at).goes;
      }

  module _ (deeper : (ℕ → ℕ) → Option (Parser Statements)) (nests : Nests deeper) where
    statement-past : (c at : ℕ) → Past W c at (λ U. statement U (deeper U) at)
    unfolding statement plain_statement
    statement-past c at =
        past-if W (λ s. eqb s IF) c at (λ U. if_statement U (deeper U) at) _ refl (λ _ r. nests.an-if c at r) (λ _.
        past-if W (λ s. eqb s FOR) c at (λ U. opening U (deeper U) (for_statement U) at) _ refl (λ _ r. nests.a-for c at r) (λ _.
        past-if W (λ s. eqb s WHILE) c at (λ U. opening U (deeper U) (while_statement U) at) _ refl (λ _ r. nests.a-while c at r) (λ _.
        past-if W (λ s. eqb s TEST) c at (λ U. opening U (deeper U) (test_statement U) at) (λ U. plain_statement U at) refl (λ _ r. nests.a_test c at r) (λ _.
        filled W EXIT (semicolon ∷ []) c at _ (mapped-goes W (λ U. simple_statement U at) (EXIT ∷ semicolon ∷ []) c at (simple-both c at).goes (λ x. simple x.0))))))

    module _ (c : ℕ) (ends : starts_statement c ≡ false) where
      statements-made : (p at : ℕ) → 0 < p → Made [] c at (λ U. statements U p (deeper U) at)
      unfolding statements
      statements-made zero at l = absurd (omega arith)
      statements-made (suc p) at l = λ U t. record { value = empty; is = no-when (starts_statement (U at)) _ _ (ap starts_statement t ∙ ends) }

      statements-goes : (p at : ℕ) → parts ≤ p + at → Goes W [] c at (λ U. statements U p (deeper U) at)
      unfolding statements starts_statement starts_simple
      statements-goes zero at l = worn [] c at _ refl (omega arith)
      statements-goes (suc p) at l =
          (when-else W starts_statement [] c at _ (λ U. got (empty, at)) ends refl
          (λ _ _. then-past W (λ U. statement U (deeper U) at) _ [] c at
          (λ w x _. then-made (λ U. statements U p (deeper U) x.1) _ [] [] c x.1 (statements-made p x.1 (omega arith)) (λ y _. (done W c y.1 (x.0 then y.0)).made))
          (statement-past c at)
          (λ x m. mapped-goes W (λ U. statements U p (deeper U) x.1) [] c x.1 (statements-goes p x.1 (omega arith)) (λ y. x.0 then y.0)))
          (done W c at empty)).goes

      statements-both : (at : ℕ) → Both W [] c at (λ U. statements U parts (deeper U) at)
      statements-both at = record { made = statements-made parts at (omega arith); goes = statements-goes parts at (omega arith) }

  list-in-both : (d c at : ℕ) → starts_statement c ≡ false → Both W [] c at (λ U. list_in U d at)
  unfolding list_in
  list-in-both zero c at e = statements-both (λ U. none) none-nests c e at
  list-in-both (suc d) c at e = statements-both (λ U. some (list_in U d)) (some-nests (λ U. list_in U d) (list-in-both d)) c e at

  list-both : (c at : ℕ) → starts_statement c ≡ false → Both W [] c at (λ U. list U at)
  unfolding list
  list-both c at e = list-in-both nestings c at e

  -- ---- data
  var-both : (at : ℕ) → Both W [] semicolon at (λ U. var_part U at)
  unfolding var_part initial_part size_part
  var-both at =
      if-else W (λ s. eqb s becomes) [] semicolon at (λ U. initial_part U (at + 1)) _ refl refl
      (λ _ r. next W (NUMBER ∷ []) semicolon at _ r (mapped-goes W (λ U. expr U (at + 1)) (NUMBER ∷ []) semicolon (at + 1)
      (expr-both semicolon (at + 1) semicolon-ender).goes (λ x. initial_data x.0)))
      (if-else W (λ s. eqb s open_brace) [] semicolon at (λ U. size_part U (at + 1)) (λ U. got (variable_data, at)) refl refl
      (λ _ r. next W (NUMBER ∷ close_brace ∷ []) semicolon at _ r (goes_then W (λ U. expr U (at + 1)) _ (NUMBER ∷ []) (close_brace ∷ []) semicolon (at + 1)
      (expr-both close_brace (at + 1) brace-ender).goes (λ x _.
      last_word W semicolon x.1 close_brace refl (array_data x.0))))
      (done W semicolon at variable_data))

  const-both : (at : ℕ) → Both W (becomes ∷ NUMBER ∷ []) semicolon at (λ U. const_part U at)
  unfolding const_part
  const-both at =
      expect-both W (NUMBER ∷ []) semicolon at _ becomes refl (
      mapped W (λ U. expr U (at + 1)) (NUMBER ∷ []) semicolon (at + 1) (expr-both semicolon (at + 1) semicolon-ender) (λ x. constant_data x.0))

  datum-both : (content : Parsers Content) (i : List ℕ) → ((at : ℕ) → Both W i semicolon at (λ U. content U at)) → (c at : ℕ)
      → Both W (NUM ∷ NAME ∷ i ++ semicolon ∷ []) c (at + 1) (λ U. datum U (content U) at)
  unfolding datum
  datum-both content i h c at =
      type-both W (NAME ∷ i ++ semicolon ∷ []) c (at + 1) _ (
      expect-both W (i ++ semicolon ∷ []) c (at + 1 + 1) _ NAME refl (
      both-then W (λ U. content U (at + 1 + 1 + 1)) _ i (semicolon ∷ []) c (at + 1 + 1 + 1) (h (at + 1 + 1 + 1)) (λ x l.
      expect-both W [] c x.1 _ semicolon refl (done-both W c (x.1 + 1) (λ U. record { type = U (at + 1); name = at + 2; content = x.0 }) (λ U a.
      ap (λ (t : ℕ). record { type = t; name = at + 2; content = x.0 }) (a (at + 1) (omega arith)))))))

  declaration-past : (c at : ℕ) → Real W at (at + 1) → Past W c at (λ U. declaration U at)
  unfolding declaration
  declaration-past c at r =
      past-if W (λ s. eqb s VAR) c at (λ U. datum U (var_part U) at) (λ U. datum U (const_part U) at) refl
      (λ _ _. next W (NUM ∷ NAME ∷ semicolon ∷ []) c at _ r (datum-both var_part [] var-both c at).goes)
      (λ _. next W (NUM ∷ NAME ∷ becomes ∷ NUMBER ∷ semicolon ∷ []) c at _ r (datum-both const_part (becomes ∷ NUMBER ∷ []) const-both c at).goes)

  declarations-both : (c at : ℕ) → starts_data c ≡ false → Both W [] c at (λ U. declarations U at)
  unfolding declarations starts_data
  declarations-both c at e = repeated-both declaration starts_data refl c e (λ n r. declaration-past c n r) at

  -- ---- routines
  parameter-both : (c at : ℕ) → Both W (NUM ∷ NAME ∷ []) c at (λ U. parameter U at)
  unfolding parameter
  parameter-both c at =
      type-both W (NAME ∷ []) c at _ (
      expect-both W [] c (at + 1) _ NAME refl (done-both W c (at + 1 + 1) (λ U. record { type = U at; name = at + 1 })
      (λ U a. ap (λ (t : ℕ). record { type = t; name = at + 1 }) (a at (omega arith)))))

  parameters-both : (at : ℕ) → Both W [] close_paren at (λ U. parameters U at)
  unfolding parameters
  parameters-both at = closed-both parameter NUM (NAME ∷ []) close_paren refl (λ n. parameter-both close_paren n) at

  behind-both : (sort c at : ℕ) → eqb NOTHING sort ≡ false → eqb c sort ≡ false → starts_statement c ≡ false → Both W [] c at (λ U. list_behind U sort at)
  unfolding list_behind
  behind-both sort c at v r s =
      when-else W (λ w. eqb w sort) [] c at _ (λ U. got (none, at)) r v
      (λ _ r. next W [] c at _ r (mapped-goes W (λ U. list U (at + 1)) [] c (at + 1) (list-both c (at + 1) s).goes (λ x. some (record { statements = x.0; closes = x.1 }))))
      (done W c at none)

  -- From the routine's name on; `result` is what the words before it tell.
  from-both : (result : (ℕ → ℕ) → Option ℕ) (closing c at : ℕ) → ((U : ℕ → ℕ) → Agrees W U at → result U ≡ result W) → eqb NOTHING closing ≡ false
      → eqb closing ERROR ≡ false → eqb closing UNDO ≡ false → starts_statement closing ≡ false → starts_data closing ≡ false
      → Both W (NAME ∷ open_paren ∷ close_paren ∷ closing ∷ []) c at (λ U. routine_from U (result U) closing at)
  unfolding routine_from
  from-both result closing c at same v r u s d =
      expect-both W (open_paren ∷ close_paren ∷ closing ∷ []) c at _ NAME refl (
      expect-both W (close_paren ∷ closing ∷ []) c (at + 1) _ open_paren refl (
      both-then W (λ U. parameters U (at + 1 + 1)) _ [] (close_paren ∷ closing ∷ []) c (at + 1 + 1) (parameters-both (at + 1 + 1)) (λ ps l₁.
      expect-both W (closing ∷ []) c ps.1 _ close_paren refl (
      both-then W (λ U. declarations U (ps.1 + 1)) _ [] (closing ∷ []) c (ps.1 + 1) (declarations-both closing (ps.1 + 1) d) (λ ds l₂.
      both-then W (λ U. list U ds.1) _ [] (closing ∷ []) c ds.1 (list-both closing ds.1 s) (λ ss l₃.
      both-then W (λ U. list_behind U ERROR ss.1) _ [] (closing ∷ []) c ss.1 (behind-both ERROR closing ss.1 refl r s) (λ h l₄.
      both-then W (λ U. list_behind U UNDO h.1) _ [] (closing ∷ []) c h.1 (behind-both UNDO closing h.1 refl u s) (λ us l₅.
      expect-both W [] c us.1 _ closing v (
      done-both W c (us.1 + 1) (λ U. record { name = at; result = result U; parameters = ps.0; declared = ds.0; body = record { statements = ss.0; closes = ss.1 }; handler = h.0; undo = us.0 }) (λ U a.
      ap (λ (t : Option ℕ). record { name = at; result = t; parameters = ps.0; declared = ds.0; body = record { statements = ss.0; closes = ss.1 }; handler = h.0; undo = us.0 }) (same U (λ j m. a j (omega arith)))))))))))))

  routine-past : (c at : ℕ) → Real W at (at + 1) → Past W c at (λ U. routine U at)
  unfolding routine function starts_statement starts_simple starts_data
  routine-past c at r =
      past-if W (λ s. eqb s PROC) c at (λ U. routine_from U none ENDPROC (at + 1)) (λ U. function U (at + 1)) refl
      (λ _ _. next W (NAME ∷ open_paren ∷ close_paren ∷ ENDPROC ∷ []) c at _ r (from-both (λ U. none) ENDPROC c (at + 1) (λ U a. refl) refl refl refl refl refl).goes)
      (λ _. next W (NUM ∷ NAME ∷ open_paren ∷ close_paren ∷ ENDFUNC ∷ []) c at _ r (type-both W (NAME ∷ open_paren ∷ close_paren ∷ ENDFUNC ∷ []) c (at + 1) _ (
      from-both (λ U. some (U (at + 1))) ENDFUNC c (at + 1 + 1) (λ U a. ap some (a (at + 1) (omega arith))) refl refl refl refl refl)).goes)

  routines-both : (c at : ℕ) → starts_routine c ≡ false → Both W [] c at (λ U. routines U at)
  unfolding routines starts_routine
  routines-both c at e = repeated-both routine starts_routine refl c e (λ n r. routine-past c n r) at

  -- ---- the module
  pub module-both : Both W (MODULE ∷ NAME ∷ ENDMODULE ∷ []) NOTHING 0 Formed
  unfolding starts_routine starts_data
  module-both =
      expect-both W (NAME ∷ ENDMODULE ∷ []) NOTHING 0 _ MODULE refl (
      expect-both W (ENDMODULE ∷ []) NOTHING 1 _ NAME refl (
      both-then W (λ U. declarations U 2) _ [] (ENDMODULE ∷ []) NOTHING 2 (declarations-both ENDMODULE 2 refl) (λ ds _.
      both-then W (λ U. routines U ds.1) _ [] (ENDMODULE ∷ []) NOTHING ds.1 (routines-both ENDMODULE ds.1 refl) (λ rs _.
      last_word W NOTHING rs.1 ENDMODULE refl (record { declared = ds.0; routines = rs.0 })))))

-- "then nothing"
abbrev pub ended : (U : ℕ → ℕ) → Module × ℕ → Parsed Module
ended U x = expect U NOTHING x.1 >>= λ n. got x.0

then-ended : {A B C : Type 0} (p : Parsed A) (f : A → Parsed B) (h : B → Parsed C) (g : A → Parsed C) → ((a : A) → g a ≡ (f a >>= h)) → (p >>= g) ≡ ((p >>= f) >>= h)
unfolding ◌>>=◌
then-ended (got a) f h g e = e a
then-ended (no k j) f h g e = refl

pub formed-ended : (U : ℕ → ℕ) → formed U ≡ (Formed U >>= ended U)
unfolding formed ◌>>=◌
formed-ended U =
    then-ended (expect U MODULE 0) _ (ended U) _ (λ n₁.
    then-ended (expect U NAME n₁) _ (ended U) _ (λ n₂.
    then-ended (declarations U n₂) _ (ended U) _ (λ ds.
    then-ended (routines U ds.1) _ (ended U) _ (λ rs.
    then-ended (expect U ENDMODULE rs.1) _ (ended U) _ (λ n₅. refl)))))
