-- Lists, routines and the module: the paper's parser with its trees forgotten (Trees) reads them as the code does.
use mathlib.Core.Path.{◌≡◌, refl, sym, ap, ◌∙◌}
use mathlib.Core.Bool.{Bool, true, false, ◌||◌}
use mathlib.Core.List.{List, [], ◌∷◌}
use mathlib.Core.Option.{Option, none, some}
use Prim.Native.Nat.{ℕ, zero, suc, ◌+◌}
use native.Mathlib.Omega.{arith}
use lib.Dec.{eqb}
use borrow.Author.Tests.{ne_eqb}
use Rattle.laws.proofs.Tests.{test, false-true, apart}
use Rattle.paper.specs.Trees.{Expr, Statements}
use Rattle.paper.specs.Expressions as paper
use Rattle.paper.specs.Expressions.{Parsed, Parser, got, no, ◌>>=◌, starts_simple, starts_statement, starts_data, starts_routine, parts}
use Rattle.paper.specs.Statements as statements
use Rattle.std.specs.Prelude.{Ok, Err}
use Rattle.check_form.specs.Places as places
use Rattle.text_sorts.specs.Starts.{starts_compound}
use Rattle.check_form.specs.Places.{Read, Parted, entered, Lent, sorts_in, ◌▸◌, ◌▹◌, turns}
use Rattle.check_form.proofs.Beyond.{Beyond}
use Rattle.check_form.proofs.Moves.{list_on}
use Rattle.check_form.proofs.Compounds.{arm-again, closing, into-list, case-rest, to_end}
use Rattle.check_form.proofs.Trees.{Tells, tells-as, place, second, itself, forget, behind, then-more, then-0, then-1, then-2, ends_so, ends-behind, Same, word-is, expression-is, expressions-is, simple-is}

-- a reading goes on into a part
into-part : {A B : Type 0} (q : Read) (W : ℕ → ℕ) (list : ℕ → Read) (p : Parsed (A × ℕ)) (f : A × ℕ → Parsed (B × ℕ)) (g : ℕ → Parted) → Tells (forget p) q
    → ((x : A × ℕ) → Tells (forget (f x)) (places.resume W list (g x.1))) → Tells (forget (p >>= f)) (places.resume W list (q ▹ g))
unfolding place ◌>>=◌ ◌▹◌ places.resume
into-part (Ok n) W list (got x) f g h e = let i = h.is in let z : x.1 ≡ n = cc in tells-as (e x) (ap (λ (m : ℕ). places.resume W list (g m)) z)
into-part (Err b) W list (got x) f g h e = let i = h.is in apart (cc)
into-part (Ok n) W list (no k i) f g h e = let i = h.is in apart (cc)
into-part (Err b) W list (no k i) f g h e = h

-- ---- the lists of compound statements

module _ (W : ℕ → ℕ) (list : Parser Statements) (list' : ℕ → Read) (same : Same list list') where
  else_is : Same (statements.else_part W list) (places.else_part W list')
  unfolding statements.else_part places.else_part place
  else_is at = test (eqb (W at) 41) (λ t. rw (t, statements.else_part) (same (at + 1))) (λ t. rw (t, statements.else_part) (record { is = refl }))

  last-arm-is : (e : Expr) (b : Statements) (at : ℕ) → Tells (forget (statements.last_arm W list e b at)) (places.else_part W list' at ▸ places.word W 45)
  unfolding statements.last_arm
  last-arm-is e b at = then-0 second (statements.else_part W list at) _ _ (else_is at) (λ x. ends_so itself (paper.expect W 45 x.1) _ (word-is W 45 x.1))

  arms-turns : (p : ℕ) (e : Expr) → Same (statements.arms W p list e) (turns (places.arms_turn W list') p)
  unfolding statements.arms turns places.arms_turn places.after_arm place
  arms-turns zero e at = (record { is = refl })
  arms-turns (suc p) e at =
      then-0 second (list at) _ (places.after_arm W list' (turns (places.arms_turn W list') p)) (same at)
      (λ x. test (eqb (W x.1) 42)
      (λ t. rw t (then-1 second (paper.expr W (x.1 + 1)) _ _ _ (expression-is W (x.1 + 1))
      (λ y. then-0 itself (paper.expect W 78 y.1) _ _ (word-is W 78 y.1)
      (λ n. ends_so second (statements.arms W p list y.0 n) _ (arms-turns p y.0 n)))))
      (λ t. rw t (last-arm-is e x.0 x.1)))

  arms-is : (e : Expr) → Same (statements.arms W parts list e) (places.arms W list')
  unfolding places.arms
  arms-is e at = arms-turns parts e at

  default-is : Same (statements.default_part W list) (places.default_part W list')
  unfolding statements.default_part places.default_part place
  default-is at =
      test (eqb (W at) 38)
      (λ t. rw (t, statements.default_part) (then-0 itself (paper.expect W 10 (at + 1)) _ _ (word-is W 10 (at + 1)) (λ n. same n)))
      (λ t. rw (t, statements.default_part) (record { is = refl }))

  cases-turns : (p : ℕ) → Same (statements.cases W p list) (turns (places.cases_turn W list') p)
  unfolding statements.cases statements.last_case turns places.cases_turn place
  cases-turns zero at = (record { is = refl })
  cases-turns (suc p) at =
      test (eqb (W at) 35)
      (λ t. rw (t, statements.cases) (then-2 second (paper.exprs W (at + 1)) _ _ _ _ (expressions-is W (at + 1))
      (λ x. then-1 itself (paper.expect W 10 x.1) _ _ _ (word-is W 10 x.1)
      (λ n. then-0 second (list n) _ _ (same n)
      (λ y. ends_so second (statements.cases W p list y.1) _ (cases-turns p y.1))))))
      (λ t. rw (t, statements.cases) (then-0 second (statements.default_part W list at) _ _ (default-is at) (λ x. ends_so itself (paper.expect W 49 x.1) _ (word-is W 49 x.1))))

  cases-is : Same (statements.cases W parts list) (places.cases W list')
  unfolding places.cases
  cases-is at = cases-turns parts at

  step_is : Same (statements.step_part W) (places.step_part W)
  unfolding statements.step_part places.step_part place
  step_is at =
      test (eqb (W at) 75) (λ t. rw (t, statements.step_part) (ends_so second (paper.expr W (at + 1)) _ (expression-is W (at + 1)))) (λ t. rw (t, statements.step_part) (record { is = refl }))

  for-behind : (at : ℕ) → Tells (forget (statements.for_statement W list at))
      (behind (places.word W 1 (at + 1)) (places.word W 56 ∷ places.expression W ∷ places.word W 79 ∷ places.expression W ∷ places.step_part W ∷ places.word W 40 ∷ list' ∷ places.word W 43 ∷ []))
  unfolding statements.for_statement
  for-behind at =
      then-more itself (paper.expect W 1 (at + 1)) _ _ _ (word-is W 1 (at + 1))
      (λ a. then-more itself (paper.expect W 56 a) _ _ _ (word-is W 56 a)
      (λ b. then-more second (paper.expr W b) _ _ _ (expression-is W b)
      (λ c. then-more itself (paper.expect W 79 c.1) _ _ _ (word-is W 79 c.1)
      (λ d. then-more second (paper.expr W d) _ _ _ (expression-is W d)
      (λ e. then-more second (statements.step_part W e.1) _ _ _ (step_is e.1)
      (λ f. then-more itself (paper.expect W 40 f.1) _ _ _ (word-is W 40 f.1)
      (λ g. then-more second (list g) _ _ _ (same g)
      (λ h. ends-behind itself (paper.expect W 43 h.1) _ (word-is W 43 h.1)))))))))

  for-is : (at : ℕ) → Tells (forget (statements.for_statement W list at)) (places.for_head W (at + 1) ▸ list' ▸ places.word W 43)
  unfolding places.for_head behind
  for-is at = for-behind at

  while-is : (at : ℕ) → Tells (forget (statements.while_statement W list at)) (places.expression W (at + 1) ▸ places.word W 40 ▸ list' ▸ places.word W 51)
  unfolding statements.while_statement
  while-is at =
      then-2 second (paper.expr W (at + 1)) _ _ _ _ (expression-is W (at + 1))
      (λ c. then-1 itself (paper.expect W 40 c.1) _ _ _ (word-is W 40 c.1)
      (λ g. then-0 second (list g) _ _ (same g)
      (λ h. ends_so itself (paper.expect W 51 h.1) _ (word-is W 51 h.1))))

-- ---- statements and lists

or-true : (a : Bool) → (a || true) ≡ true
or-true true = refl
or-true false = refl

grouped : (a b c d e : Bool) → (a || b || c || d || e) ≡ (a || (b || c || d || e))
grouped true b c d e = refl
grouped false b c d e = refl

starts-split : (s : ℕ) → starts_statement s ≡ (starts_simple s || starts_compound s)
unfolding starts_statement starts_compound
starts-split s = grouped (starts_simple s) (eqb s 59) (eqb s 55) (eqb s 86) (eqb s 77)

module _ (W : ℕ → ℕ) (deeper : Option (Parser Statements)) where
  -- what starts no compound statement is a simple one
  plain-is : (at : ℕ) → starts_compound (W at) ≡ false → statements.statement W deeper at ≡ statements.plain_statement W at
  unfolding starts_compound statements.statement
  plain-is at h =
      test (eqb (W at) 59) (λ a. false-true (sym h ∙ rw a))
      (λ a. rw a (test (eqb (W at) 55) (λ b. false-true (sym h ∙ rw (a, b)))
      (λ b. rw b (test (eqb (W at) 86) (λ c. false-true (sym h ∙ rw (a, b, c)))
      (λ c. rw c (test (eqb (W at) 77) (λ d. false-true (sym h ∙ rw (a, b, c, d))) (λ d. rw d)))))))

  module _ (compound' : ℕ → Read) (same : (at : ℕ) → starts_compound (W at) ≡ true → Tells (forget (statements.statement W deeper at)) (compound' at)) where
    list-turns : (p : ℕ) → Same (statements.statements W p deeper) (turns (places.list_turn W compound') p)
    unfolding statements.statements statements.plain_statement turns places.list_turn place
    list-turns zero at = (record { is = refl })
    list-turns (suc p) at =
        test (starts_compound (W at))
        (λ t. rw (starts-split (W at), statements.statements) (rw (t, or-true (starts_simple (W at)))
        (then-0 second (statements.statement W deeper at) _ _ (same at t) (λ x. ends_so second (statements.statements W p deeper x.1) _ (list-turns p x.1)))))
        (λ t. test (starts_simple (W at))
        (λ u. rw (starts-split (W at), statements.statements) (rw (t, u)
        (then-0 second (statements.statement W deeper at) _ _ (rw (plain-is at t) (ends_so second (statements.simple_statement W at) _ (simple-is W at)))
        (λ x. ends_so second (statements.statements W p deeper x.1) _ (list-turns p x.1)))))
        (λ u. rw (starts-split (W at), statements.statements) (rw (t, u) (record { is = refl }))))

module _ (code : List ℕ) (words : ℕ) (lent : Lent code words) where
  abbrev W : ℕ → ℕ
  W = sorts_in code words

  -- where none may nest deeper
  compound-none : (list' : ℕ → Read) → ((at : ℕ) → Beyond at (list' at)) → (at : ℕ) → starts_compound (W at) ≡ true
      → Tells (forget (statements.statement W none at)) (places.resume W list' (places.opened W 0 at))
  unfolding starts_compound statements.statement statements.if_statement statements.if_simple statements.opening places.opened places.if_head places.condition places.resume place
  compound-none list' weak at h =
      test (eqb (W at) 59)
      (λ a. rw a (into-part _ W list' (paper.expr W (at + 1)) _ (places.condition W 0) (expression-is W (at + 1))
      (λ x. test (eqb (W x.1) 78) (λ t. rw t (record { is = refl }))
      (λ t. rw t (tells-as (ends_so second (statements.simple_statement W x.1) _ (simple-is W x.1)) (to_end code words lent list' weak (places.simple W x.1)))))))
      (λ a. rw a (test (eqb (W at) 55) (λ b. rw b (record { is = refl })) (λ b. rw b (test (eqb (W at) 86) (λ c. rw c (record { is = refl })) (λ c. rw c (test (eqb (W at) 77) (λ d. rw d (record { is = refl })) (λ d. false-true (sym (rw (a, b, c, d)) ∙ h))))))))

  -- where some may
  module _ (list : Parser Statements) (list' : ℕ → Read) (same : Same list list') (weak : (at : ℕ) → Beyond at (list' at)) where
    then_is : (at : ℕ) (e : Expr) (n : ℕ) → Tells (forget (statements.if_then W at list e n)) (places.resume W list' (entered 42 (n + 1)))
    unfolding statements.if_then places.resume
    then_is at e n = tells-as (ends_so second (statements.arms W parts list e (n + 1)) _ (arms-is W list list' same e (n + 1))) (arm-again code words lent list' weak (n + 1))

    if-is : (d at : ℕ) → Tells (forget (statements.if_statement W (some list) at)) (places.resume W list' (places.if_head W (suc d) (at + 1)))
    unfolding statements.if_statement statements.if_simple places.if_head places.condition
    if-is d at =
        into-part _ W list' (paper.expr W (at + 1)) _ (places.condition W (suc d)) (expression-is W (at + 1))
        (λ x. test (eqb (W x.1) 78)
        (λ t. rw (t, ne_eqb (suc d) 0 (λ z. omega arith)) (then_is at x.0 x.1))
        (λ t. rw t (tells-as (ends_so second (statements.simple_statement W x.1) _ (simple-is W x.1)) (to_end code words lent list' weak (places.simple W x.1)))))

    for-part : (at : ℕ) → Tells (forget (statements.for_statement W list at)) (places.resume W list' (places.for_head W (at + 1) ▹ entered 43))
    for-part at = tells-as (for-is W list list' same at) (into-list code words lent list' weak (places.for_head W (at + 1)) 43 (places.word W 43) (λ n. closing code words lent list' weak 43 (λ z. omega arith) (λ z. omega arith) (list' n)))

    while-part : (at : ℕ) → Tells (forget (statements.while_statement W list at)) (places.resume W list' (places.expression W (at + 1) ▸ places.word W 40 ▹ entered 51))
    while-part at = tells-as (while-is W list list' same at) (into-list code words lent list' weak (places.expression W (at + 1) ▸ places.word W 40) 51 (places.word W 51) (λ n. closing code words lent list' weak 51 (λ z. omega arith) (λ z. omega arith) (list' n)))

    test-part : (at : ℕ) → Tells (forget (statements.test_statement W list at)) (places.resume W list' (places.test_head W (at + 1)))
    unfolding statements.test_statement places.test_head
    test-part at =
        into-part _ W list' (paper.expr W (at + 1)) _ (places.case_end W) (expression-is W (at + 1))
        (λ x. tells-as (ends_so second (statements.cases W parts list x.1) _ (cases-is W list list' same x.1)) (case-rest code words lent list' weak x.1))

    compound-some : (d at : ℕ) → starts_compound (W at) ≡ true → Tells (forget (statements.statement W (some list) at)) (places.resume W list' (places.opened W (suc d) at))
    unfolding starts_compound statements.statement statements.opening places.opened
    compound-some d at h =
        test (eqb (W at) 59) (λ a. rw a (if-is d at))
        (λ a. rw (a, ne_eqb (suc d) 0 (λ z. omega arith)) (test (eqb (W at) 55) (λ b. rw b (for-part at))
        (λ b. rw b (test (eqb (W at) 86) (λ c. rw c (while-part at))
        (λ c. rw c (test (eqb (W at) 77) (λ e. rw e (test-part at)) (λ e. false-true (sym (rw (a, b, c, e)) ∙ h))))))))

  lists-is : (d : ℕ) → Same (statements.list_in W d) (places.list_below W (suc d))
  unfolding statements.list_in places.list_below
  lists-is zero at =
      list-turns W none (λ n. places.resume W (places.list_below W 0) (places.opened W 0 n)) (λ n t. compound-none (places.list_below W 0) (list_on W 0) n t) parts at
  lists-is (suc d) at =
      list-turns W (some (statements.list_in W d)) (λ n. places.resume W (places.list_below W (suc d)) (places.opened W (suc d) n))
      (λ n t. compound-some (statements.list_in W d) (places.list_below W (suc d)) (lists-is d) (list_on W (suc d)) d n t) parts at

  pub list-is : Same (statements.list W) (places.list_below W 17)
  unfolding statements.list
  list-is at = lists-is 16 at
