-- The paper's six levels read flat: after an operand, the next operator's level says what follows.
use mathlib.Core.Path.{◌≡◌, refl, sym, ap, ◌∙◌}
use mathlib.Core.Bool.{Bool, true, false, ◌||◌}
use mathlib.Core.List.{List}
use Prim.Native.Nat.{ℕ, suc, ◌+◌, ◌-◌, ◌<◌, ◌≤◌}
use native.Mathlib.Omega.{arith}
use lib.Dec.{eqb}
use mir.Syntax.{w64}
use mir.Val.{Fits}
use borrow.Author.Tests.{eqb-true, eq-eqb, ne_eqb}
use Rattle.laws.proofs.Tests.{test, by-same}
use Rattle.paper.specs.Sorts.{NOT}
use Rattle.paper.specs.Expressions.{level_of, stands_before}
use Rattle.std.specs.Prelude.{Ok, Err}
use Rattle.layout.specs.declared.rules.Breach.{Breach}
use Rattle.layout.specs.declared.rules.Rule.TheVariants.{DeepNesting}
use Rattle.check_form.specs.Places.{Read, breach, Lent, sorts_in, ◌▸◌, operand, chain_turn, chain, prefixed, level, expression_in, behind_not, behind_sign, rest}
use Rattle.check_form.proofs.Beyond.{Beyond, same_after, Local, endless, operand_on, level-on, nested-on}
use Rattle.check_form.proofs.Reading.{within}

level-of-nothing : level_of 0 ≡ 0
unfolding level_of
level-of-nothing = refl

-- ---- chains

module _ (code : List ℕ) (words : ℕ) (lent : Lent code words) where
  abbrev W : ℕ → ℕ
  W = sorts_in code words

  chain-local : (j : ℕ) (sub : ℕ → Read) → ((at : ℕ) → Beyond (suc at) (sub at)) → 0 < j → Local words (chain_turn W j sub)
  unfolding chain_turn
  chain-local j sub s p f g at h =
      test (eqb (level_of (W at)) j)
      (λ t. rw (t, chain_turn) (test (eqb j 3) (λ u. rw u) (λ u. rw u
      (same_after {mid = suc (at + 1)} (sub (at + 1)) (s (at + 1)) (λ n l. h (within code words at (λ z. absurd (omega (arith, eqb-true (level_of (W at)) j t, ap level_of z, level-of-nothing)))) n (omega arith))))))
      (λ t. rw (t, chain_turn))

  module _ (inner : ℕ → Read) (inner-on : (at : ℕ) → Beyond (suc at) (inner at)) where
    -- the chain of a level, with what it is made of
    abbrev C : ℕ → ℕ → Read
    C j = chain W j (level W inner (j - 1))

    chain-is : (j at : ℕ) → 0 < j → C j at ≡ chain_turn W j (level W inner (j - 1)) (C j) at
    unfolding chain
    chain-is j at p = endless words (chain_turn W j (level W inner (j - 1))) (chain-local j (level W inner (j - 1)) (level-on W inner inner-on (j - 1)) p) lent.few at

    stop : (j at : ℕ) → 0 < j → (level_of (W at) ≡ j → ⊥) → C j at ≡ Ok at
    unfolding chain_turn
    stop j at p h = chain-is j at p ∙ rw (ne_eqb (level_of (W at)) j h, chain_turn)

    go : (j at : ℕ) → 0 < j → (j ≡ 3 → ⊥) → level_of (W at) ≡ j → C j at ≡ (level W inner (j - 1) (at + 1) ▸ C j)
    unfolding chain_turn
    go j at p q h = chain-is j at p ∙ rw (eq-eqb (level_of (W at)) j h, chain_turn) (rw (ne_eqb j 3 q))

    go-3 : (at : ℕ) → level_of (W at) ≡ 3 → C 3 at ≡ level W inner 2 (at + 1)
    unfolding chain_turn
    go-3 at h = chain-is 3 at (omega arith) ∙ rw (h, chain_turn)

    -- ---- what a level starts with
    level-1 : (at : ℕ) → level W inner 1 at ≡ (operand W inner at ▸ C 1)
    unfolding level prefixed stands_before
    level-1 at = refl

    level-2 : (at : ℕ) → level W inner 2 at ≡ (operand W inner (behind_sign W at) ▸ C 1 ▸ C 2)
    unfolding level prefixed stands_before behind_sign
    level-2 at = test (eqb (W at) 18 || eqb (W at) 19) (λ t. rw (t, level)) (λ t. rw (t, level))

    level-3 : (at : ℕ) → level W inner 3 at ≡ (operand W inner (behind_sign W at) ▸ C 1 ▸ C 2 ▸ C 3)
    unfolding level prefixed stands_before
    level-3 at = ap (λ (r : Read). r ▸ C 3) (level-2 at)

    level-4 : (at : ℕ) → level W inner 4 at ≡ (operand W inner (behind_sign W at) ▸ C 1 ▸ C 2 ▸ C 3 ▸ C 4)
    unfolding level prefixed stands_before
    level-4 at = ap (λ (r : Read). r ▸ C 4) (level-3 at)

    level-5 : (at : ℕ) → level W inner 5 at ≡ (operand W inner (behind_sign W (behind_not W at)) ▸ C 1 ▸ C 2 ▸ C 3 ▸ C 4 ▸ C 5)
    unfolding level prefixed stands_before behind_not
    level-5 at =
        test (eqb (W at) 65)
        (λ t. rw (t, level) (ap (λ (r : Read). r ▸ C 5) (level-4 (at + 1))))
        (λ t. rw (t, level) (ap (λ (r : Read). r ▸ C 5) (level-4 at)))

    -- ---- what follows an operand
    all : (r : Read) → (r ▸ rest W inner false) ≡ (r ▸ C 1 ▸ C 2 ▸ C 3 ▸ C 4 ▸ C 5)
    unfolding ◌▸◌ rest
    all (Ok n) = refl
    all (Err b) = refl

    but-relations : (r : Read) → (r ▸ rest W inner true) ≡ (r ▸ C 1 ▸ C 2 ▸ C 4 ▸ C 5)
    unfolding ◌▸◌ rest
    but-relations (Ok n) = refl
    but-relations (Err b) = refl

    after_none : (u : Bool) (m : ℕ) → level_of (W m) ≡ 0 → rest W inner u m ≡ Ok m
    unfolding rest ◌▸◌
    after_none false m h =
        rw (stop 1 m (omega arith) (λ q. omega arith)) (rw (stop 2 m (omega arith) (λ q. omega arith)) (rw (stop 3 m (omega arith) (λ q. omega arith))
        (rw (stop 4 m (omega arith) (λ q. omega arith)) (stop 5 m (omega arith) (λ q. omega arith)))))
    after_none true m h =
        rw (stop 1 m (omega arith) (λ q. omega arith)) (rw (stop 2 m (omega arith) (λ q. omega arith))
        (rw (stop 4 m (omega arith) (λ q. omega arith)) (stop 5 m (omega arith) (λ q. omega arith))))

    -- a second relation ends the expression
    after-relation : (m : ℕ) → level_of (W m) ≡ 3 → rest W inner true m ≡ Ok m
    unfolding rest ◌▸◌
    after-relation m h =
        rw (stop 1 m (omega arith) (λ q. omega arith)) (rw (stop 2 m (omega arith) (λ q. omega arith))
        (rw (stop 4 m (omega arith) (λ q. omega arith)) (stop 5 m (omega arith) (λ q. omega arith))))

    on-1 : (u : Bool) (m : ℕ) → level_of (W m) ≡ 1 → rest W inner u m ≡ (operand W inner (m + 1) ▸ rest W inner u)
    unfolding rest level
    on-1 false m h = rw (go 1 m (omega arith) (λ q. omega arith) h) (sym (all (operand W inner (m + 1))))
    on-1 true m h = rw (go 1 m (omega arith) (λ q. omega arith) h) (sym (but-relations (operand W inner (m + 1))))

    two : (m : ℕ) → level_of (W m) ≡ 2 → (C 1 m ▸ C 2) ≡ (operand W inner (m + 1) ▸ C 1 ▸ C 2)
    unfolding ◌▸◌
    two m h = rw (stop 1 m (omega arith) (λ q. omega arith)) (go 2 m (omega arith) (λ q. omega arith) h ∙ ap (λ (r : Read). r ▸ C 2) (level-1 (m + 1)))

    on-2 : (u : Bool) (m : ℕ) → level_of (W m) ≡ 2 → rest W inner u m ≡ (operand W inner (m + 1) ▸ rest W inner u)
    unfolding rest
    on-2 false m h = ap (λ (r : Read). r ▸ C 3 ▸ C 4 ▸ C 5) (two m h) ∙ sym (all (operand W inner (m + 1)))
    on-2 true m h = ap (λ (r : Read). r ▸ C 4 ▸ C 5) (two m h) ∙ sym (but-relations (operand W inner (m + 1)))

    three : (m : ℕ) → level_of (W m) ≡ 3 → (C 1 m ▸ C 2 ▸ C 3) ≡ (operand W inner (behind_sign W (m + 1)) ▸ C 1 ▸ C 2)
    unfolding ◌▸◌
    three m h =
        rw (stop 1 m (omega arith) (λ q. omega arith)) (rw (stop 2 m (omega arith) (λ q. omega arith)) (go-3 m h ∙ level-2 (m + 1)))

    on-3 : (m : ℕ) → level_of (W m) ≡ 3 → rest W inner false m ≡ (operand W inner (behind_sign W (m + 1)) ▸ rest W inner true)
    unfolding rest
    on-3 m h = ap (λ (r : Read). r ▸ C 4 ▸ C 5) (three m h) ∙ sym (but-relations (operand W inner (behind_sign W (m + 1))))

    -- the levels up to 3 stop before AND, OR and XOR
    low : (u : Bool) (m : ℕ) → 3 < level_of (W m) → rest W inner u m ≡ (C 4 m ▸ C 5)
    unfolding rest ◌▸◌
    low false m h =
        rw (stop 1 m (omega arith) (λ q. omega arith)) (rw (stop 2 m (omega arith) (λ q. omega arith)) (rw (stop 3 m (omega arith) (λ q. omega arith))))
    low true m h =
        rw (stop 1 m (omega arith) (λ q. omega arith)) (rw (stop 2 m (omega arith) (λ q. omega arith)))

    on-4 : (u : Bool) (m : ℕ) → level_of (W m) ≡ 4 → rest W inner u m ≡ (operand W inner (behind_sign W (m + 1)) ▸ rest W inner false)
    on-4 u m h =
        low u m (omega arith)
        ∙ ap (λ (r : Read). r ▸ C 5) (go 4 m (omega arith) (λ q. omega arith) h ∙ ap (λ (r : Read). r ▸ C 4) (level-3 (m + 1)))
        ∙ sym (all (operand W inner (behind_sign W (m + 1))))

    on-5 : (u : Bool) (m : ℕ) → level_of (W m) ≡ 5 → rest W inner u m ≡ (operand W inner (behind_sign W (m + 1)) ▸ rest W inner false)
    unfolding ◌▸◌
    on-5 u m h =
        low u m (omega arith)
        ∙ rw (stop 4 m (omega arith) (λ q. omega arith)) (go 5 m (omega arith) (λ q. omega arith) h ∙ ap (λ (r : Read). r ▸ C 5) (level-4 (m + 1)))
        ∙ sym (all (operand W inner (behind_sign W (m + 1))))

-- ---- the loop of the code

-- no word has a higher level
pub level-most : (s : ℕ) → level_of s ≤ 5
unfolding level_of
level-most s =
    test (eqb s 20 || eqb s 39 || eqb s 62) (λ a. rw (a, level_of) (omega arith)) (λ a. rw (a, level_of)
    (test (eqb s 18 || eqb s 19) (λ b. rw b (omega arith)) (λ b. rw b
    (test (eqb s 12 || eqb s 15 || eqb s 13 || eqb s 14 || eqb s 16 || eqb s 17) (λ d. rw d (omega arith)) (λ d. rw d
    (test (eqb s 33) (λ e. rw e (omega arith)) (λ e. rw e
    (test (eqb s 67 || eqb s 88) (λ f. rw f (omega arith)) (λ f. rw f (omega arith))))))))))

module _ (code : List ℕ) (words : ℕ) (d at : ℕ) (lent : Lent code words) where
  abbrev S : ℕ → ℕ
  S = sorts_in code words

  abbrev inner : ℕ → Read
  inner = expression_in S d

  -- what is left to read: an operand at n, and what may follow it
  abbrev pub Left : (n : ℕ) (used : Bool) → Type 0
  Left n used = expression_in (sorts_in code words) (suc d) at ≡ (operand (sorts_in code words) (expression_in (sorts_in code words) d) n ▸ rest (sorts_in code words) (expression_in (sorts_in code words) d) used)

  pub begun : (a n : ℕ) → a ≡ behind_not (sorts_in code words) at → n ≡ behind_sign (sorts_in code words) a → Left n false
  unfolding expression_in
  begun a n e f =
      level-5 code words lent inner (nested-on S d) at ∙ sym (all code words lent inner (nested-on S d) (operand S inner (behind_sign S (behind_not S at))))
      ∙ ap (λ (k : ℕ). operand S inner k ▸ rest S inner false) (sym (f ∙ ap (behind_sign S) e))

  -- the operand is refused
  pub refused : (n : ℕ) (used : Bool) (r : Read) (b : Breach) → Left n used → r ≡ operand (sorts_in code words) (expression_in (sorts_in code words) d) n → r ≡ Err b
      → Err b ≡ expression_in (sorts_in code words) (suc d) at
  unfolding ◌▸◌
  refused n used r b l e h = sym (l ∙ rw (sym e ∙ h))

  module _ (n : ℕ) (used : Bool) (r : Read) (m v k : ℕ) (l : Left n used) (e : r ≡ operand (sorts_in code words) (expression_in (sorts_in code words) d) n)
      (h : r ≡ Ok m) (w : v ≡ sorts_in code words m) (g : k ≡ level_of v) where
    on : expression_in S (suc d) at ≡ rest S inner used m
    unfolding ◌▸◌
    on = l ∙ rw (sym e ∙ h)

    is : level_of (S m) ≡ k
    is = sym (g ∙ ap level_of w)

    pub past_all : k ≡ 0 → Ok m ≡ expression_in (sorts_in code words) (suc d) at
    past_all q = sym (on ∙ after_none code words lent inner (nested-on S d) used m (is ∙ q))

    pub past-relation : k ≡ 3 → used ≡ true → Ok m ≡ expression_in (sorts_in code words) (suc d) at
    past-relation q u = sym (on ∙ ap (λ (x : Bool). rest S inner x m) u ∙ after-relation code words lent inner (nested-on S d) m (is ∙ q))

    pub on-tight : (k ≡ 0 → ⊥) → k < 3 → Left (m + 1) used
    on-tight z q =
        by-same k 1
        (λ o. on ∙ on-1 code words lent inner (nested-on S d) used m (is ∙ o))
        (λ o. on ∙ on-2 code words lent inner (nested-on S d) used m (is ∙ omega (arith, z, o)))

    pub on-relation : k ≡ 3 → used ≡ false → (a : ℕ) → a ≡ behind_sign (sorts_in code words) (m + 1) → Left a true
    on-relation q u a f =
        on ∙ ap (λ (x : Bool). rest S inner x m) u ∙ on-3 code words lent inner (nested-on S d) m (is ∙ q) ∙ ap (λ (x : ℕ). operand S inner x ▸ rest S inner true) (sym f)

    pub on-loose : 3 ≤ k → (k ≡ 3 → ⊥) → (a : ℕ) → a ≡ behind_sign (sorts_in code words) (m + 1) → Left a false
    on-loose p q a f =
        by-same k 4
        (λ o. on ∙ on-4 code words lent inner (nested-on S d) used m (is ∙ o) ∙ ap (λ (x : ℕ). operand S inner x ▸ rest S inner false) (sym f))
        (λ o. on ∙ on-5 code words lent inner (nested-on S d) used m (is ∙ omega (arith, p, q, o, level-most (S m), is)) ∙ ap (λ (x : ℕ). operand S inner x ▸ rest S inner false) (sym f))

-- ---- places

module _ (code : List ℕ) (words : ℕ) where
  -- an operator stands there
  operator-in : (m v k : ℕ) → v ≡ sorts_in code words m → k ≡ level_of v → (k ≡ 0 → ⊥) → m < words
  operator-in m v k w g z = within code words m (λ q. z (g ∙ ap level_of (w ∙ q) ∙ level-of-nothing))

  pub operator-fits : (m v k : ℕ) → Lent code words → v ≡ sorts_in code words m → k ≡ level_of v → (k ≡ 0 → ⊥) → Fits w64 (m + 1)
  operator-fits m v k f w g z = record { fits = omega (arith, operator-in m v k w g z, f.few) }

  sign-on : (at : ℕ) → at ≤ behind_sign (sorts_in code words) at
  unfolding behind_sign
  sign-on at =
      test (eqb (sorts_in code words at) 18 || eqb (sorts_in code words at) 19) (λ t. rw (t, behind_sign) (omega arith)) (λ t. rw (t, behind_sign) (omega arith))

  not_on : (at : ℕ) → at ≤ behind_not (sorts_in code words) at
  unfolding behind_not
  not_on at = test (eqb (sorts_in code words at) NOT) (λ t. rw (t, behind_not) (omega arith)) (λ t. rw (t, behind_not) (omega arith))

  -- no more words are left than at the start
  pub start-on : (at a b : ℕ) → a ≡ behind_not (sorts_in code words) at → b ≡ behind_sign (sorts_in code words) a → words - b ≤ words - at
  start-on at a b f g = omega (arith, not_on at, sign-on a, f, g)

  module _ (d n : ℕ) (r : Read) (m v k : ℕ) (e : r ≡ operand (sorts_in code words) (expression_in (sorts_in code words) d) n) (h : r ≡ Ok m)
      (w : v ≡ sorts_in code words m) (g : k ≡ level_of v) (z : k ≡ 0 → ⊥) where
    -- fewer words are left after an operator
    pub fewer : words - (m + 1) < words - n
    fewer = omega (arith, operator-in m v k w g z, operand_on (sorts_in code words) (expression_in (sorts_in code words) d) (nested-on (sorts_in code words) d) n m (sym e ∙ h))

    pub fewer-signed : (a : ℕ) → a ≡ behind_sign (sorts_in code words) (m + 1) → words - a < words - n
    fewer-signed a f = omega (arith, fewer, sign-on (m + 1), f)

    module _ (at : ℕ) (l : words - n ≤ words - at) where
      pub turn_on : words - (m + 1) ≤ words - at
      turn_on = omega (arith, fewer)

      pub turn_signed : (a : ℕ) → a ≡ behind_sign (sorts_in code words) (m + 1) → words - a ≤ words - at
      turn_signed a f = omega (arith, fewer-signed a f)

-- ---- nesting

-- where none may nest deeper
pub none-deeper : (W : ℕ → ℕ) (d at : ℕ) → d ≡ 0 → expression_in W d at ≡ Err (breach DeepNesting (at - 1))
unfolding expression_in
none-deeper W d at h = rw h
