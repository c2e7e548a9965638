-- Data, routines and the module: the paper's verdict is what the code comes to.
use mathlib.Core.Path.{◌≡◌, refl, sym, ap, ◌∙◌}
use mathlib.Core.Bool.{true, false}
use mathlib.Core.List.{List, [], ◌∷◌}
use mathlib.Core.Option.{Option, none, some}
use Prim.Native.Nat.{ℕ, ◌+◌}
use lib.Dec.{eqb}
use borrow.Author.Tests.{eq-eqb, ne_eqb}
use Rattle.laws.proofs.Tests.{test, apart}
use Rattle.std.specs.Prelude.{if◌then◌else◌}
use Rattle.paper.specs.Sorts.{ERROR, UNDO}
use Rattle.paper.specs.Types.{Fault}
use Rattle.paper.specs.Trees.{Module}
use Rattle.paper.specs.Expressions as paper
use Rattle.paper.specs.Expressions.{Parsed, Parser, got, no, ◌>>=◌, starts_data, starts_routine}
use Rattle.paper.specs.Statements as statements
use Rattle.paper.specs.Form as modules
use Rattle.std.specs.Prelude.{Result, Ok, Err}
use Rattle.layout.specs.declared.rules.Breach.{Breach}
use Rattle.layout.specs.declared.rules.Rule.{Rule}
use Rattle.layout.specs.declared.rules.Rule.TheVariants.{NoForm}
use Rattle.layout.specs.Broken.{as_fault}
use Rattle.layout.proofs.RuleNumbers.{number-injective}
use Rattle.check_form.specs.Places as places
use Rattle.check_form.specs.Places.{Read, breach, Lent, sorts_in, ◌▸◌}
use Rattle.check_form.specs.Judged.{told, outcome, Judged}
use Rattle.check_form.proofs.Trees.{Tells, tells-as, place, second, itself, forget, behind, then-more, then-0, then-1, then-2, ends_so, ends-behind, choice, Same, word-is, type-is, expression-is, separated-is, repeated-is}
use Rattle.check_form.proofs.Modules.{list-is}

module _ (W : ℕ → ℕ) where
  -- ---- data

  var-is : (s : ℕ) → eqb s 84 ≡ true → Same (modules.var_part W) (places.content W s)
  unfolding modules.var_part modules.initial_part modules.size_part places.content place
  var-is s h at =
      rw h (choice (eqb (W at) 11) _ _ (ends_so second (paper.expr W (at + 1)) _ (expression-is W (at + 1)))
      (choice (eqb (W at) 8) _ _ (then-0 second (paper.expr W (at + 1)) _ _ (expression-is W (at + 1)) (λ x. ends_so itself (paper.expect W 9 x.1) _ (word-is W 9 x.1))) (record { is = refl })))

  const-is : (s : ℕ) → eqb s 84 ≡ false → Same (modules.const_part W) (places.content W s)
  unfolding modules.const_part places.content places.word ◌▸◌
  const-is s h at =
      tells-as (then-0 itself (paper.expect W 11 at) _ (places.expression W) (word-is W 11 at) (λ n. ends_so second (paper.expr W n) _ (expression-is W n)))
      (rw h (test (eqb (W at) 11) (λ t. rw t) (λ t. rw t)))

  datum-is : (content : Parser _) (content' : ℕ → Read) → Same content content' → (at : ℕ)
      → Tells (forget (modules.datum W content at)) (places.type_word W (at + 1) ▸ places.word W 1 ▸ content' ▸ places.word W 4)
  unfolding modules.datum
  datum-is content content' same at =
      then-2 itself (paper.expect_type W (at + 1)) _ _ _ _ (type-is W (at + 1))
      (λ a. then-1 itself (paper.expect W 1 a) _ _ _ (word-is W 1 a)
      (λ b. then-0 second (content b) _ _ (same b)
      (λ c. ends_so itself (paper.expect W 4 c.1) _ (word-is W 4 c.1))))

  declared-is : Same (modules.declaration W) (places.started_by W (places.declaration W))
  unfolding modules.declaration places.started_by places.declaration
  declared-is at =
      test (eqb (W at) 84)
      (λ t. rw t (datum-is (modules.var_part W) (places.content W (W at)) (var-is (W at) t) at))
      (λ t. rw t (datum-is (modules.const_part W) (places.content W (W at)) (const-is (W at) t) at))

  declarations-is : Same (modules.declarations W) (places.declarations W)
  unfolding modules.declarations
  declarations-is at = repeated-is W (modules.declaration W) (places.started_by W (places.declaration W)) declared-is starts_data at

  -- ---- parameters

  parameter-is : Same (modules.parameter W) (places.parameter W)
  unfolding modules.parameter places.parameter
  parameter-is at = then-0 itself (paper.expect_type W at) _ _ (type-is W at) (λ n. ends_so itself (paper.expect W 1 n) _ (word-is W 1 n))

  parameters-is : Same (modules.parameters W) (places.parameters W)
  unfolding modules.parameters places.parameters place
  parameters-is at = choice (eqb (W at) 7) _ _ (record { is = refl }) (separated-is W (modules.parameter W) (places.parameter W) parameter-is at)

-- ---- verdicts

abbrev Verdict : Type 0
Verdict = Result (Unit {0}) Breach

abbrev refused : Fault → Result (Unit {0}) Fault
refused f = Err f

-- a verdict of a reading that came to the last word
unfoldable pub judged : (W : ℕ → ℕ) → Read → Verdict
judged W (Ok n) = if eqb (W n) 0 then Ok tt else Err (breach NoForm n)
judged W (Err b) = Err b

same-refused : (k i : ℕ) (b : Breach) → Tells (Err (record { number = k; at = i })) (Err b) → refused (record { number = k; at = i }) ≡ told (Err b)
same-refused k i b h = let e = h.is in let j : ◌≡◌ {A = Fault} (record { number = k; at = i }) (as_fault b) = cc in ap refused j

over : {A : Type 0} (W : ℕ → ℕ) (at : A → ℕ) (p : Parsed A) (q : Read) (f : A → Parsed Module) (g : ℕ → Read) (K : Read → Read) → ((b : Breach) → K (Err b) ≡ Err b)
    → Tells (place at p) q → ((x : A) → outcome (f x) ≡ told (judged W (K (g (at x))))) → outcome (p >>= f) ≡ told (judged W (K (q ▸ g)))
unfolding place ◌>>=◌ ◌▸◌ judged
over W at (got x) (Ok n) f g K s h e = let i = h.is in let z : at x ≡ n = cc in e x ∙ ap (λ (m : ℕ). told (judged W (K (g m)))) z
over W at (got x) (Err b) f g K s h e = let i = h.is in apart (cc)
over W at (no k i) (Ok n) f g K s h e = let i = h.is in apart (cc)
over W at (no k i) (Err b) f g K s h e = same-refused k i b h ∙ ap (λ (r : Read). told (judged W r)) (sym (s b))

module _ (code : List ℕ) (words : ℕ) (lent : Lent code words) where
  abbrev W : ℕ → ℕ
  W = sorts_in code words

  behind-is : (s : ℕ) → Same (modules.list_behind W s) (places.list_behind W s)
  unfolding modules.list_behind places.list_behind place
  behind-is s at =
      test (eqb (W at) s) (λ t. rw (t, modules.list_behind) (ends_so second (statements.list W (at + 1)) _ (list-is code words lent (at + 1)))) (λ t. rw (t, modules.list_behind) (record { is = refl }))

  -- what stands behind a routine's name
  abbrev behind_name : (closing : ℕ) → List (ℕ → Read)
  behind_name closing =
      places.word W 6 ∷ places.parameters W ∷ places.word W 7 ∷ places.declarations W ∷ places.list_below W 17 ∷ places.list_behind W ERROR ∷ places.list_behind W UNDO ∷ places.word W closing ∷ []

  from-behind : (result : Option ℕ) (closing at : ℕ) → Tells (forget (modules.routine_from W result closing at)) (behind (places.word W 1 at) (behind_name closing))
  unfolding modules.routine_from
  from-behind result closing at =
      then-more itself (paper.expect W 1 at) _ _ _ (word-is W 1 at)
      (λ a. then-more itself (paper.expect W 6 a) _ _ _ (word-is W 6 a)
      (λ b. then-more second (modules.parameters W b) _ _ _ (parameters-is W b)
      (λ c. then-more itself (paper.expect W 7 c.1) _ _ _ (word-is W 7 c.1)
      (λ d. then-more second (modules.declarations W d) _ _ _ (declarations-is W d)
      (λ e. then-more second (statements.list W e.1) _ _ _ (list-is code words lent e.1)
      (λ f. then-more second (modules.list_behind W ERROR f.1) _ _ _ (behind-is ERROR f.1)
      (λ g. then-more second (modules.list_behind W UNDO g.1) _ _ _ (behind-is UNDO g.1)
      (λ h. ends-behind itself (paper.expect W closing h.1) _ (word-is W closing h.1)))))))))

  from_is : (result : Option ℕ) (closing at : ℕ) → Tells (forget (modules.routine_from W result closing at)) (places.routine_from W closing at)
  unfolding places.routine_from behind
  from_is result closing at = from-behind result closing at

  routine-is : Same (modules.routine W) (places.started_by W (places.routine W))
  unfolding modules.routine modules.function places.started_by places.routine
  routine-is at =
      choice (eqb (W at) 69) _ _ (from_is none 47 (at + 1))
      (then-0 itself (paper.expect_type W (at + 1)) _ (places.routine_from W 44) (type-is W (at + 1)) (λ n. from_is (some (W (at + 1))) 44 n))

  routines-is : Same (modules.routines W) (places.routines W)
  unfolding modules.routines
  routines-is at = repeated-is W (modules.routine W) (places.started_by W (places.routine W)) routine-is starts_routine at

  nothing_left : (m : ℕ) (t : Module) → outcome (paper.expect W 0 m >>= (λ n. got t)) ≡ told (judged W (Ok m))
  unfolding paper.expect ◌>>=◌ judged
  nothing_left m t = test (eqb (W m) 0) (λ e. rw e) (λ e. rw e)

  at-end : (p : Parsed ℕ) (q : Read) (t : Module) → Tells (place itself p) q → outcome (p >>= (λ m. paper.expect W 0 m >>= (λ n. got t))) ≡ told (judged W q)
  unfolding place ◌>>=◌ judged
  at-end (got m) (Ok n) t h = let i = h.is in let z : m ≡ n = cc in nothing_left m t ∙ ap (λ (x : ℕ). told (judged W (Ok x))) z
  at-end (got m) (Err b) t h = let i = h.is in apart (cc)
  at-end (no k i) (Ok n) t h = let i = h.is in apart (cc)
  at-end (no k i) (Err b) t h = same-refused k i b h

  pub formed-is : outcome (modules.formed W) ≡ told (judged W (places.whole W))
  unfolding modules.formed places.whole ◌▸◌
  formed-is =
      over W itself (paper.expect W 63 0) _ _ (places.word W 1) (λ (y : Read). y ▸ places.declarations W ▸ places.routines W ▸ places.word W 46) (λ b. refl) (word-is W 63 0)
      (λ a. over W itself (paper.expect W 1 a) _ _ (places.declarations W) (λ (y : Read). y ▸ places.routines W ▸ places.word W 46) (λ b. refl) (word-is W 1 a)
      (λ b. over W second (modules.declarations W b) _ _ (places.routines W) (λ (y : Read). y ▸ places.word W 46) (λ b. refl) (declarations-is W b)
      (λ c. over W second (modules.routines W c.1) _ _ (places.word W 46) (λ (y : Read). y) (λ b. refl) (routines-is c.1)
      (λ d. at-end (paper.expect W 46 d.1) _ _ (word-is W 46 d.1)))))

  -- ---- the code's answers

  module _ (r : Read) (e : r ≡ places.whole (sorts_in code words)) where
    pub form-refused : (b : Breach) → r ≡ Err b → Judged code words (Err b)
    unfolding judged
    form-refused b h = sym (formed-is ∙ rw (sym e ∙ h))

    module _ (n v : ℕ) (h : r ≡ Ok n) (w : v ≡ sorts_in code words n) where
      pub form-formed : v ≡ 0 → Judged code words (Ok tt)
      unfolding judged
      form-formed z = sym (formed-is ∙ rw (sym e ∙ h, eq-eqb (W n) 0 (sym w ∙ z)))

      pub form-more : (v ≡ 0 → ⊥) → (b : Breach) → b ≡ breach NoForm n → Judged code words (Err b)
      unfolding judged
      form-more z b s = sym (formed-is ∙ rw (sym e ∙ h, ne_eqb (W n) 0 (λ q. z (w ∙ q))) (rw s))

-- ---- one verdict

same-breach : (a b : Breach) → as_fault a ≡ as_fault b → a ≡ b
same-breach a b h =
    let rules : a.rule ≡ b.rule = number-injective a.rule b.rule (ap (λ (f : Fault). f.number) h) in
    let words : a.word ≡ b.word = ap (λ (f : Fault). f.at) h in
    ap (λ (r : Rule). breach r a.word) rules ∙ ap (breach b.rule) words

told-apart : (a b : Verdict) → told a ≡ told b → a ≡ b
told-apart (Ok x) (Ok y) h = refl
told-apart (Ok x) (Err b) h = apart (cc)
told-apart (Err a) (Ok y) h = apart (cc)
told-apart (Err a) (Err b) h = let f : as_fault a ≡ as_fault b = cc in ap (λ (c : Breach). Err c) (same-breach a b f)

-- Two verdicts that are allowed are equal.
pub one-verdict : (code : List ℕ) (words : ℕ) (a b : Result (Unit {0}) Breach) → Judged code words a → Judged code words b → a ≡ b
one-verdict code words a b p q = told-apart a b (p ∙ sym q)
