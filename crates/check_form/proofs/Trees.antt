-- The paper's parser, with its trees forgotten, goes over the same places and refuses the same words.
use mathlib.Core.Path.{◌≡◌, refl, sym, ap}
use mathlib.Core.Bool.{Bool, true, false, ◌||◌}
use mathlib.Core.List.{List, [], ◌∷◌}
use mathlib.Core.Option.{Option}
use Prim.Native.Nat.{ℕ, zero, suc, ◌+◌}
use native.Mathlib.Omega.{arith}
use lib.Dec.{eqb}
use borrow.Author.Tests.{eqb-true, ne_eqb}
use Rattle.laws.proofs.Tests.{test, apart}
use Rattle.std.specs.Prelude.{if◌then◌else◌}
use Rattle.paper.specs.Types.{Fault}
use Rattle.paper.specs.Trees.{Expr, Target, Simple}
use Rattle.paper.specs.Expressions as paper
use Rattle.paper.specs.Expressions.{Parsed, Parser, got, no, ◌>>=◌, level_of, stands_before, is_literal, is_type, parts}
use Rattle.paper.specs.Statements as statements
use Rattle.std.specs.Prelude.{Result, Ok, Err}
use Rattle.layout.specs.declared.rules.Breach.{Breach}
use Rattle.check_form.specs.Judged.{told}
use Rattle.check_form.specs.Places as places
use Rattle.check_form.specs.Places.{Read, ◌▸◌, turns}

-- ---- trees forgotten

-- the place that a reading comes to, or what a host is told of its refusal
unfoldable pub place : {A : Type 0} → (at : A → ℕ) → Parsed A → Result ℕ Fault
place at (got x) = Ok (at x)
place at (no k i) = Err (record { number = k; at = i })

abbrev pub second : {A : Type 0} → A × ℕ → ℕ
second x = x.1

abbrev pub itself : ℕ → ℕ
itself n = n

abbrev pub forget : {A : Type 0} → Parsed (A × ℕ) → Result ℕ Fault
forget p = place second p

-- The code's reading r is told as the paper's.
pub record Tells (p : Result ℕ Fault) (r : Read) : Type 0 where
  pub is : p ≡ told r

pub tells-as : {p : Result ℕ Fault} {q r : Read} → Tells p q → q ≡ r → Tells p r
tells-as h e = rw e at h

-- a reading goes on, and more after that, K, in which a refusal stays
goes : {A B : Type 0} (at : A → ℕ) (p : Parsed A) (q : Read) (f : A → Parsed (B × ℕ)) (g : ℕ → Read) (K : Read → Read) → ((b : Breach) → K (Err b) ≡ Err b)
    → Tells (place at p) q → ((x : A) → Tells (forget (f x)) (K (g (at x)))) → Tells (forget (p >>= f)) (K (q ▸ g))
unfolding place ◌>>=◌ ◌▸◌
goes at (got x) (Ok n) f g K s h e = let i = h.is in let z : at x ≡ n = cc in tells-as (e x) (ap (λ (m : ℕ). K (g m)) z)
goes at (got x) (Err b) f g K s h e = let i = h.is in apart (cc)
goes at (no k i) (Ok n) f g K s h e = let i = h.is in apart (cc)
goes at (no k i) (Err b) f g K s h e = tells-as h (sym (s b))

-- a reading, and others behind it
unfoldable pub behind : Read → List (ℕ → Read) → Read
behind r [] = r
behind r (g ∷ gs) = behind (r ▸ g) gs

stays-refused : (b : Breach) (gs : List (ℕ → Read)) → behind (Err b) gs ≡ Err b
unfolding behind ◌▸◌
stays-refused b [] = refl
stays-refused b (g ∷ gs) = stays-refused b gs

pub then-more : {A B : Type 0} {q : Read} (at : A → ℕ) (p : Parsed A) (f : A → Parsed (B × ℕ)) (g : ℕ → Read) (gs : List (ℕ → Read)) → Tells (place at p) q
    → ((x : A) → Tells (forget (f x)) (behind (g (at x)) gs)) → Tells (forget (p >>= f)) (behind q (g ∷ gs))
unfolding behind
then-more {q} at p f g gs h e = goes at p q f g (λ (y : Read). behind y gs) (λ b. stays-refused b gs) h e

-- with so many more behind it
pub then-0 : {A B : Type 0} {q : Read} (at : A → ℕ) (p : Parsed A) (f : A → Parsed (B × ℕ)) (g : ℕ → Read) → Tells (place at p) q
    → ((x : A) → Tells (forget (f x)) (g (at x))) → Tells (forget (p >>= f)) (q ▸ g)
unfolding behind
then-0 at p f g h e = then-more at p f g [] h e

pub then-1 : {A B : Type 0} {q : Read} (at : A → ℕ) (p : Parsed A) (f : A → Parsed (B × ℕ)) (g h1 : ℕ → Read) → Tells (place at p) q
    → ((x : A) → Tells (forget (f x)) (g (at x) ▸ h1)) → Tells (forget (p >>= f)) (q ▸ g ▸ h1)
unfolding behind
then-1 at p f g h1 h e = then-more at p f g (h1 ∷ []) h e

pub then-2 : {A B : Type 0} {q : Read} (at : A → ℕ) (p : Parsed A) (f : A → Parsed (B × ℕ)) (g h1 h2 : ℕ → Read) → Tells (place at p) q
    → ((x : A) → Tells (forget (f x)) (g (at x) ▸ h1 ▸ h2)) → Tells (forget (p >>= f)) (q ▸ g ▸ h1 ▸ h2)
unfolding behind
then-2 at p f g h1 h2 h e = then-more at p f g (h1 ∷ h2 ∷ []) h e

-- it ends there, but for the tree
pub ends_so : {A B : Type 0} {q : Read} (at : A → ℕ) (p : Parsed A) (t : A → B) → Tells (place at p) q → Tells (forget (p >>= (λ x. got (t x, at x)))) q
unfolding place ◌>>=◌
ends_so at (got x) t h = h
ends_so at (no k i) t h = h

pub ends-behind : {A B : Type 0} {q : Read} (at : A → ℕ) (p : Parsed A) (t : A → B) → Tells (place at p) q → Tells (forget (p >>= (λ x. got (t x, at x)))) (behind q [])
unfolding behind
ends-behind at p t h = ends_so at p t h

pub choice : {A : Type 0} {q s : Read} (b : Bool) (p r : Parsed (A × ℕ)) → Tells (forget p) q → Tells (forget r) s → Tells (forget (if b then p else r)) (if b then q else s)
choice true p r h e = h
choice false p r h e = e

-- two parsers that go over the same places
abbrev pub Same : {A : Type 0} → Parser A → (ℕ → Read) → Type 0
Same p q = (at : ℕ) → Tells (forget (p at)) (q at)

module _ (W : ℕ → ℕ) where
  pub word-is : (s at : ℕ) → Tells (place itself (paper.expect W s at)) (places.word W s at)
  unfolding paper.expect places.word place
  word-is s at = test (eqb (W at) s) (λ t. rw t (record { is = refl })) (λ t. rw t (record { is = refl }))

  pub type-is : (at : ℕ) → Tells (place itself (paper.expect_type W at)) (places.type_word W at)
  unfolding paper.expect_type places.type_word place
  type-is at = test (is_type (W at)) (λ t. rw t (record { is = refl })) (λ t. rw t (record { is = refl }))

  -- ---- expressions

  module _ (inner : Parser Expr) (inner' : ℕ → Read) (same : Same inner inner') where
    operand-is : Same (paper.operand W inner) (places.operand W inner')
    unfolding paper.operand paper.named paper.indexed paper.in_parentheses places.operand place
    operand-is at =
        test (eqb (W at) 6)
        (λ t. rw (t, ne_eqb (W at) 1 (λ z. omega (arith, eqb-true (W at) 6 t)))
        (then-0 second (inner (at + 1)) _ _ (same (at + 1)) (λ x. ends_so itself (paper.expect W 7 x.1) _ (word-is 7 x.1))))
        (λ t. rw t (choice (eqb (W at) 1) _ _
        (choice (eqb (W (at + 1)) 8) _ _ (then-0 second (inner (at + 2)) _ _ (same (at + 2)) (λ x. ends_so itself (paper.expect W 9 x.1) _ (word-is 9 x.1))) (record { is = refl }))
        (choice (is_literal (W at)) _ _ (record { is = refl }) (record { is = refl }))))

    chain-is : (j : ℕ) (sub : Parser Expr) (sub' : ℕ → Read) → Same sub sub' → (p : ℕ) (e : Expr) → Same (paper.chain W p j sub e) (turns (places.chain_turn W j sub') p)
    unfolding paper.chain turns places.chain_turn place
    chain-is j sub sub' s zero e at = (record { is = refl })
    chain-is j sub sub' s (suc p) e at =
        test (eqb (level_of (W at)) j)
        (λ t. rw (t, paper.chain) (test (eqb j 3)
        (λ u. rw u (ends_so second (sub (at + 1)) _ (s (at + 1))))
        (λ u. rw u (then-0 second (sub (at + 1)) _ _ (s (at + 1)) (λ x. chain-is j sub sub' s p _ x.1)))))
        (λ t. rw (t, paper.chain) (record { is = refl }))

    prefixed-is : (j : ℕ) (sub : Parser Expr) (sub' : ℕ → Read) → Same sub sub' → Same (paper.prefixed W j sub) (places.prefixed W j sub')
    unfolding paper.prefixed places.prefixed
    prefixed-is j sub sub' s at =
        test (stands_before j (W at)) (λ t. rw (t, paper.prefixed) (ends_so second (sub (at + 1)) _ (s (at + 1)))) (λ t. rw (t, paper.prefixed) (s at))

    level-is : (j : ℕ) → Same (paper.level W inner j) (places.level W inner' j)
    unfolding paper.level places.level places.chain
    level-is zero at = operand-is at
    level-is (suc j) at =
        then-0 second (paper.prefixed W (suc j) (paper.level W inner j) at) _ _
        (prefixed-is (suc j) (paper.level W inner j) (places.level W inner' j) (level-is j) at)
        (λ x. chain-is (suc j) (paper.level W inner j) (places.level W inner' j) (level-is j) parts x.0 x.1)

  pub nested_is : (d : ℕ) → Same (paper.expr_in W d) (places.expression_in W d)
  unfolding paper.expr_in places.expression_in place
  nested_is zero at = (record { is = refl })
  nested_is (suc d) at = level-is (paper.expr_in W d) (places.expression_in W d) (nested_is d) 5 at

  pub expression-is : Same (paper.expr W) (places.expression W)
  unfolding paper.expr
  expression-is at = nested_is 17 at

  -- ---- sequences

  module _ {A : Type 0} (one : Parser A) (one' : ℕ → Read) (same : Same one one') where
    separated-turns : (p : ℕ) → Same (paper.separated W p one) (turns (places.separated_turn W one') p)
    unfolding paper.separated turns places.separated_turn places.after_one place
    separated-turns zero at = (record { is = refl })
    separated-turns (suc p) at =
        then-0 second (one at) _ (places.after_one W (turns (places.separated_turn W one') p)) (same at)
        (λ x. test (eqb (W x.1) 5)
        (λ t. rw t (ends_so second (paper.separated W p one (x.1 + 1)) _ (separated-turns p (x.1 + 1))))
        (λ t. rw t (record { is = refl })))

    pub separated-is : Same (paper.separated W parts one) (places.separated W one')
    unfolding places.separated
    separated-is at = separated-turns parts at

    repeated-turns : (starts : ℕ → Bool) (p : ℕ) → Same (paper.repeated W p starts one) (turns (places.repeated_turn W starts one') p)
    unfolding paper.repeated turns places.repeated_turn place
    repeated-turns starts zero at = (record { is = refl })
    repeated-turns starts (suc p) at =
        test (starts (W at))
        (λ t. rw (t, paper.repeated) (then-0 second (one at) _ _ (same at) (λ x. ends_so second (paper.repeated W p starts one x.1) _ (repeated-turns starts p x.1))))
        (λ t. rw (t, paper.repeated) (record { is = refl }))

    pub repeated-is : (starts : ℕ → Bool) → Same (paper.repeated W parts starts one) (places.repeated W starts one')
    unfolding places.repeated
    repeated-is starts at = repeated-turns starts parts at

  pub expressions-is : Same (paper.exprs W) (places.expressions W)
  unfolding paper.exprs places.expressions
  expressions-is at = separated-is (paper.expr W) (places.expression W) expression-is at

  arguments-is : (s : ℕ) → Same (paper.arguments W s) (places.arguments W s)
  unfolding paper.arguments places.arguments place
  arguments-is s at = choice (eqb (W at) s) _ _ (record { is = refl }) (expressions-is at)

  unless-is : Same (paper.unless W 4) (places.optional W)
  unfolding paper.unless places.optional place
  unless-is at = test (eqb (W at) 4) (λ t. rw (t, paper.unless) (record { is = refl })) (λ t. rw (t, paper.unless) (ends_so second (paper.expr W at) _ (expression-is at)))

  -- ---- simple statements

  target_is : Same (statements.target W) (places.target W)
  unfolding statements.target statements.target_index places.target place
  target_is at =
      test (eqb (W at) 1)
      (λ t. rw (t, statements.target) (test (eqb (W (at + 1)) 8)
      (λ u. rw u (then-0 second (paper.expr_in W 16 (at + 2)) _ _ (nested_is 16 (at + 2)) (λ x. ends_so itself (paper.expect W 9 x.1) _ (word-is 9 x.1))))
      (λ u. rw u (record { is = refl }))))
      (λ t. rw (t, statements.target) (record { is = refl }))

  right_is : (t : Target) → Same (statements.right_side W t) (places.right_side W)
  unfolding statements.right_side statements.call_side statements.value_side places.right_side
  right_is t at =
      test (eqb (W at) 1)
      (λ u. rw u (test (eqb (W (at + 1)) 6)
      (λ v. rw v (then-0 second (paper.arguments W 7 (at + 2)) _ _ (arguments-is 7 (at + 2)) (λ x. ends_so itself (paper.expect W 7 x.1) _ (word-is 7 x.1))))
      (λ v. rw v (ends_so second (paper.expr W at) _ (expression-is at)))))
      (λ u. rw u (ends_so second (paper.expr W at) _ (expression-is at)))

  assignment-is : (at : ℕ) → Tells (forget (statements.assignment W at)) (places.target W at ▸ places.word W 11 ▸ places.right_side W)
  unfolding statements.assignment
  assignment-is at =
      then-1 second (statements.target W at) _ _ _ (target_is at)
      (λ x. then-0 itself (paper.expect W 11 x.1) _ _ (word-is 11 x.1) (λ n. right_is x.0 n))

  name-is : Same (statements.started_by_name W) (places.started_by_name W)
  unfolding statements.started_by_name statements.procedure_call places.started_by_name places.assigns
  name-is at =
      choice (eqb (W (at + 1)) 11 || eqb (W (at + 1)) 8) _ _ (assignment-is at) (ends_so second (paper.arguments W 4 (at + 1)) _ (arguments-is 4 (at + 1)))

  number_is : Same (statements.written W) (places.number W)
  unfolding statements.written places.number place
  number_is at =
      test (eqb (W at) 21)
      (λ t. rw (t, statements.written) (then-1 itself (paper.expect W 89 (at + 1)) _ _ _ (word-is 89 (at + 1))
      (λ n. then-0 itself (paper.expect W 11 n) _ _ (word-is 11 n) (λ m. ends_so second (paper.expr W m) _ (expression-is m)))))
      (λ t. rw (t, statements.written) (record { is = refl }))

  write-is : (at : ℕ) → Tells (forget (statements.tp_write W at)) (places.writing W (at + 1))
  unfolding statements.tp_write places.writing
  write-is at = then-0 itself (paper.expect W 3 (at + 1)) _ _ (word-is 3 (at + 1)) (λ n. ends_so second (statements.written W n) _ (number_is n))

  read_is : (at : ℕ) → Tells (forget (statements.tp_read_num W at)) (places.wanting W (at + 1))
  unfolding statements.tp_read_num places.wanting
  read_is at =
      then-1 second (statements.target W (at + 1)) _ _ _ (target_is (at + 1))
      (λ x. then-0 itself (paper.expect W 5 x.1) _ _ (word-is 5 x.1) (λ m. ends_so itself (paper.expect W 3 m) _ (word-is 3 m)))

  optional-is : (make : ℕ → Option Expr → Simple) (at : ℕ) → Tells (forget (statements.with_optional W make at)) (places.optional W (at + 1))
  unfolding statements.with_optional
  optional-is make at = ends_so second (paper.unless W 4 (at + 1)) _ (unless-is (at + 1))

  word-of-is : Same (statements.simple_word W) (places.simple_word W)
  unfolding statements.simple_word places.simple_word place
  word-of-is at =
      choice (eqb (W at) 1) _ _ (name-is at)
      (choice (eqb (W at) 74) _ _ (optional-is _ at)
      (choice (eqb (W at) 70) _ _ (optional-is _ at)
      (choice (eqb (W at) 53) _ _ (record { is = refl })
      (choice (eqb (W at) 73) _ _ (record { is = refl })
      (choice (eqb (W at) 82) _ _ (record { is = refl })
      (choice (eqb (W at) 91) _ _ (write-is at)
      (choice (eqb (W at) 92) _ _ (read_is at) (record { is = refl }))))))))

  pub simple-is : Same (statements.simple_statement W) (places.simple W)
  unfolding statements.simple_statement places.simple
  simple-is at = then-0 second (statements.simple_word W at) _ _ (word-of-is at) (λ x. ends_so itself (paper.expect W 4 x.1) _ (word-is 4 x.1))
