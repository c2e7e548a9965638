-- Precedence climbing reads what the paper's levels read.
use mathlib.Core.Path.{◌≡◌, refl, sym, ap, subst, ◌∙◌}
use mathlib.Core.Bool.{Bool, true, false}
use mathlib.Core.Logic.{◌⊎◌, inl, inr}
use Prim.Native.Nat.{ℕ, zero, suc, ◌+◌, ◌-◌, ◌<◌, ◌≤◌}
use native.Mathlib.Omega.{arith}
use lib.Dec.{T, eqb}
use borrow.Author.Tests.{eqb-true, eqb-false, eq-eqb, ne_eqb}
use Rattle.laws.proofs.Tests.{test}
use Rattle.paper.specs.Trees.{Expr, leaf, element, nested, signed, joined}
use Rattle.paper.specs.Sorts.{NAME, NUMBER, NOT, TRUE, FALSE, plus, minus_sign, open_paren, close_paren, open_brace, close_brace}
use Rattle.paper.specs.Expressions.{Parsed, got, no, ◌>>=◌, parts, chain, prefixed, level, level_of, stands_before, is_literal, expect, in_parentheses, indexed, named, operand, expr_in}
use Rattle.climb.specs.Rise.{chained, rise, next, height, lowest, behind, begin}

-- what is read is read
is_it : {A : Type 0} → Parsed A → Bool
is_it (got a) = true
is_it (no n i) = false

pub got-no : {A B : Type 0} (n i : ℕ) (a : A) → no n i ≡ got a → B
unfolding is_it
got-no n i a e = absurd (subst T (sym (ap is_it e)) tt)

pub record IsGot {A : Type 0} (r : Parsed A) : Type 0 where
  pub a : A
  pub is : r ≡ got a

-- a reading that went on
pub record Went {A B : Type 0} (r : Parsed A) (f : A → Parsed B) (b : B) : Type 0 where
  pub a : A
  pub first : r ≡ got a
  pub then : f a ≡ got b

pub went : {A B : Type 0} (r : Parsed A) (f : A → Parsed B) (b : B) → (r >>= f) ≡ got b → Went r f b
unfolding ◌>>=◌
went (got a) f b e = record { a = a; first = refl; then = e }
went (no n i) f b e = got-no n i b e

-- ---- what stands before a chain
stands-none : (m s : ℕ) → (s ≡ NOT → ⊥) → (s ≡ plus → ⊥) → (s ≡ minus_sign → ⊥) → stands_before m s ≡ false
unfolding stands_before
stands-none m s a b c = test (eqb m 5) (λ t. rw (t, stands_before) (ne_eqb s 65 a)) (λ t. rw (t, stands_before) (test (eqb m 2) (λ u. rw u (rw (ne_eqb s 18 b, ne_eqb s 19 c))) (λ u. rw u)))

stands-sign : (m s : ℕ) → (s ≡ plus) ⊎ (s ≡ minus_sign) → (m ≡ 2 → ⊥) → stands_before m s ≡ false
unfolding stands_before
stands-sign m s (inl a) h = rw (a, ne_eqb m 2 h, stands_before) (test (eqb m 5) (λ t. rw t) (λ t. rw t))
stands-sign m s (inr a) h = rw (a, ne_eqb m 2 h, stands_before) (test (eqb m 5) (λ t. rw t) (λ t. rw t))

stands-not : (m s : ℕ) → s ≡ NOT → (m ≡ 5 → ⊥) → stands_before m s ≡ false
unfolding stands_before
stands-not m s a h = rw (a, ne_eqb m 5 h, stands_before) (test (eqb m 2) (λ t. rw t) (λ t. rw t))

two-stands : (s : ℕ) → (s ≡ plus) ⊎ (s ≡ minus_sign) → stands_before 2 s ≡ true
unfolding stands_before
two-stands s (inl a) = rw a
two-stands s (inr a) = rw a

five-stands : (s : ℕ) → s ≡ NOT → stands_before 5 s ≡ true
unfolding stands_before
five-stands s a = rw a

module _ (W : ℕ → ℕ) where
  -- ---- a chain: more fuel changes nothing
  module _ (k : ℕ) (sub : ℕ → Parsed (Expr × ℕ)) where
    pub chain-stop : (p : ℕ) (e : Expr) (i : ℕ) → (level_of (W i) ≡ k → ⊥) → chain W (suc p) k sub e i ≡ got (e, i)
    unfolding chain
    chain-stop p e i h = rw (ne_eqb (level_of (W i)) k h, chain)

    unfoldable pub after : (p : ℕ) (e : Expr) (i : ℕ) → Expr × ℕ → Parsed (Expr × ℕ)
    after p e i x = elim (eqb k 3) [ true ↦ got (joined i e x.0, x.1) | false ↦ chain W p k sub (joined i e x.0) x.1 ]

    pub chain-on : (p : ℕ) (e : Expr) (i : ℕ) → level_of (W i) ≡ k → chain W (suc p) k sub e i ≡ (sub (i + 1) >>= after p e i)
    unfolding chain after
    chain-on p e i h = rw (eq-eqb (level_of (W i)) k h, chain)

    after_more : (p : ℕ) → ((e : Expr) (i : ℕ) (x : Expr × ℕ) → chain W p k sub e i ≡ got x → chain W (suc p) k sub e i ≡ got x) → (e : Expr) (i : ℕ) (a x : Expr × ℕ) → after p e i a ≡ got x → after (suc p) e i a ≡ got x
    unfolding after
    after_more p ih e i a x h =
        test (eqb k 3)
        (λ t. rw (t, after) (rw (t, after) at h))
        (λ t. rw (t, after) (ih (joined i e a.0) a.1 x (rw (t, after) at h)))

    pub chain_more : (p : ℕ) (e : Expr) (i : ℕ) (x : Expr × ℕ) → chain W p k sub e i ≡ got x → chain W (suc p) k sub e i ≡ got x
    unfolding chain ◌>>=◌
    chain_more zero e i x h = got-no 8 i x h
    chain_more (suc p) e i x h =
        test (eqb (level_of (W i)) k)
        (λ t. let l = eqb-true (level_of (W i)) k t in let g = went (sub (i + 1)) (after p e i) x (sym (chain-on p e i l) ∙ h) in
        chain-on (suc p) e i l ∙ ap (λ r. r >>= after (suc p) e i) g.first ∙ after_more p (chain_more p) e i g.a x g.then)
        (λ t. let l = eqb-false (level_of (W i)) k t in chain-stop (suc p) e i l ∙ sym (chain-stop p e i l) ∙ h)

  module _ (inner : ℕ → Parsed (Expr × ℕ)) where
    -- ---- rising
    pub from-got : (k : ℕ) (e : Expr) (n : ℕ) → chained W inner k (got (e, n)) ≡ chain W parts k (level W inner (k - 1)) e n
    unfolding chained ◌>>=◌
    from-got k e n = refl

    -- what is read in the end was read before
    pub rise-got : (f k : ℕ) (r : Parsed (Expr × ℕ)) (x : Expr × ℕ) → rise W inner f k r ≡ got x → IsGot r
    unfolding rise chained
    rise-got zero k r x h = record { a = x; is = h }
    rise-got (suc f) k r x h =
        let g = rise-got f (suc k) (chained W inner k r) x h in
        let w = went r (λ y. chain W parts k (level W inner (k - 1)) y.0 y.1) g.a g.is in
        record { a = w.a; is = w.first }

    -- no operator of these levels follows
    pub rise-stop : (f k : ℕ) (e : Expr) (n : ℕ) → (k ≤ level_of (W n) → level_of (W n) < k + f → ⊥) → rise W inner f k (got (e, n)) ≡ got (e, n)
    unfolding rise
    rise-stop zero k e n h = refl
    rise-stop (suc f) k e n h =
        ap (rise W inner f (suc k)) (from-got k e n ∙ chain-stop k (level W inner (k - 1)) 8192 e n (λ q. h (omega arith) (omega arith)))
        ∙ rise-stop f (suc k) e n (λ a b. h (omega arith) (omega arith))

    -- an operator of one of these levels follows: its right side is read, and then the rest
    pub record Joins (top : ℕ) (e : Expr) (n : ℕ) (x : Expr × ℕ) : Type 0 where
      pub u : Expr
      pub m : ℕ
      pub right : level W inner (level_of (W n) - 1) (n + 1) ≡ got (u, m)
      pub f : ℕ
      pub width : next (level_of (W n)) + f ≡ top
      pub rest : rise W inner f (next (level_of (W n))) (got (joined n e u, m)) ≡ got x

    join-here : (f k : ℕ) (e : Expr) (n : ℕ) (x y : Expr × ℕ) → level_of (W n) ≡ k → chain W 8193 k (level W inner (k - 1)) e n ≡ got y → rise W inner f (suc k) (got y) ≡ got x → Joins (k + suc f) e n x
    unfolding rise next after
    join-here f k e n x y l c h =
        let g = went (level W inner (k - 1) (n + 1)) (after k (level W inner (k - 1)) 8192 e n) y (sym (chain-on k (level W inner (k - 1)) 8192 e n l) ∙ c) in
        test (eqb k 3)
        (λ t. let e3 = eqb-true k 3 t in let nx : next k ≡ suc k = rw (t, next) (omega arith) in record {
          u = g.a.0;
          m = g.a.1;
          right = rw l g.first;
          f = f;
          width = rw (l, nx) (omega arith);
          rest = rw (l, nx) (ap (rise W inner f (suc k)) (rw (t, after) at g.then) ∙ h);
        })
        (λ t. let ne = eqb-false k 3 t in let nx : next k ≡ k = rw (t, next) in record {
          u = g.a.0;
          m = g.a.1;
          right = rw l g.first;
          f = suc f;
          width = rw (l, nx);
          rest = rw (l, nx) (ap (rise W inner f (suc k)) (from-got k (joined n e g.a.0) g.a.1 ∙ chain_more k (level W inner (k - 1)) 8192 (joined n e g.a.0) g.a.1 y (rw (t, after) at g.then)) ∙ h);
        })

    pub rise-join : (f k : ℕ) (e : Expr) (n : ℕ) (x : Expr × ℕ) → k ≤ level_of (W n) → level_of (W n) < k + f → rise W inner f k (got (e, n)) ≡ got x → Joins (k + f) e n x
    unfolding rise
    rise-join zero k e n x a b h = absurd (omega arith)
    rise-join (suc f) k e n x a b h =
        test (eqb (level_of (W n)) k)
        (λ t. let g = rise-got f (suc k) (chained W inner k (got (e, n))) x h in
        join-here f k e n x g.a (eqb-true (level_of (W n)) k t) (sym (from-got k e n) ∙ g.is) (ap (rise W inner f (suc k)) (sym g.is) ∙ h))
        (λ t. let ne = eqb-false (level_of (W n)) k t in
        let q : suc k + f ≡ k + suc f = omega arith in
        rw q at (rise-join f (suc k) e n x (omega arith) (omega arith) (ap (rise W inner f (suc k)) (sym (from-got k e n ∙ chain-stop k (level W inner (k - 1)) 8192 e n ne)) ∙ h)))

    -- ---- where a level starts
    rise-last : (f k : ℕ) (r : Parsed (Expr × ℕ)) → rise W inner (suc f) k r ≡ chained W inner (k + f) (rise W inner f k r)
    unfolding rise
    rise-last zero k r = let z : k + 0 ≡ k = omega arith in rw z
    rise-last (suc f) k r = let z : k + suc f ≡ suc k + f = omega arith in rise-last f (suc k) (chained W inner k r) ∙ rw z

    up_one : (j at : ℕ) → level W inner (suc j) at ≡ chained W inner (suc j) (prefixed W (suc j) (level W inner j) at)
    unfolding level chained
    up_one j at = let z : suc j - 1 ≡ j = omega arith in rw z

    up-plain : (j at : ℕ) → stands_before (suc j) (W at) ≡ false → level W inner (suc j) at ≡ chained W inner (suc j) (level W inner j at)
    unfolding prefixed
    up-plain j at h = up_one j at ∙ ap (chained W inner (suc j)) (rw (h, prefixed))

    up_from : (f k at : ℕ) → ((m : ℕ) → k < m → m ≤ k + f → stands_before m (W at) ≡ false) → level W inner (k + f) at ≡ rise W inner f (suc k) (level W inner k at)
    unfolding rise
    up_from zero k at h = let z : k + 0 ≡ k = omega arith in rw z
    up_from (suc f) k at h =
        let z : k + suc f ≡ suc (k + f) = omega arith in
        let y : suc k + f ≡ suc (k + f) = omega arith in
        ap (λ (m : ℕ). level W inner m at) z ∙ up-plain (k + f) at (h (suc (k + f)) (omega arith) (omega arith))
        ∙ ap (chained W inner (suc (k + f))) (up_from f k at (λ m a b. h m a (omega arith)))
        ∙ sym (rise-last f (suc k) (level W inner k at) ∙ rw y)

    -- the first operand, or what a sign or NOT stands before, and then the rest
    pub record Starts (r : Parsed (Expr × ℕ)) (low j : ℕ) (g : Expr → Expr) (x : Expr × ℕ) : Type 0 where
      pub e : Expr
      pub n : ℕ
      pub first : r ≡ got (e, n)
      pub f : ℕ
      pub width : low + f ≡ suc j
      pub rest : rise W inner f low (got (g e, n)) ≡ got x

    start : (r : Parsed (Expr × ℕ)) (f low j : ℕ) (x : Expr × ℕ) → rise W inner f low r ≡ got x → low + f ≡ suc j → Starts r low j (λ e. e) x
    start r f low j x h w =
        let g = rise-got f low r x h in
        record { e = g.a.0; n = g.a.1; first = g.is; f = f; width = w; rest = ap (rise W inner f low) (sym g.is) ∙ h }

    pub start_plain : (j at : ℕ) (x : Expr × ℕ) → (W at ≡ NOT → ⊥) → (W at ≡ plus → ⊥) → (W at ≡ minus_sign → ⊥) → level W inner j at ≡ got x → Starts (operand W inner at) 1 j (λ e. e) x
    unfolding level
    start_plain j at x a b c h =
        let z : 0 + j ≡ j = omega arith in
        start (operand W inner at) j 1 j x (sym (up_from j 0 at (λ m p q. stands-none m (W at) a b c)) ∙ rw z h) (omega arith)

    -- what no operand starts with
    operand-sign : (at : ℕ) → (W at ≡ plus) ⊎ (W at ≡ minus_sign) → operand W inner at ≡ no 8 at
    unfolding operand is_literal
    operand-sign at (inl a) = rw (a, operand)
    operand-sign at (inr a) = rw (a, operand)

    operand-not : (at : ℕ) → W at ≡ NOT → operand W inner at ≡ no 8 at
    unfolding operand is_literal
    operand-not at a = rw (a, operand)

    low-none : {B : Type 0} (j at : ℕ) (x : Expr × ℕ) → operand W inner at ≡ no 8 at → ((m : ℕ) → 0 < m → m ≤ 0 + j → stands_before m (W at) ≡ false) → level W inner j at ≡ got x → B
    unfolding level
    low-none j at x o s h =
        let z : 0 + j ≡ j = omega arith in
        let g = rise-got j 1 (operand W inner at) x (sym (up_from j 0 at s) ∙ rw z h) in
        got-no 8 at g.a (sym o ∙ g.is)

    -- what stands behind a sign or NOT
    pub record Behind (k low j at : ℕ) (x : Expr × ℕ) : Type 0 where
      pub top : low ≤ j
      pub e : Expr
      pub n : ℕ
      pub first : level W inner k (at + 1) ≡ got (e, n)
      pub f : ℕ
      pub width : low + f ≡ suc j
      pub rest : rise W inner f low (got (signed at e, n)) ≡ got x

    behind-is : (k f j at : ℕ) (x : Expr × ℕ) → stands_before (suc k) (W at) ≡ true → suc k + f ≡ j → rise W inner f (suc (suc k)) (level W inner (suc k) at) ≡ got x → Behind k (suc k) j at x
    unfolding prefixed rise chained ◌>>=◌
    behind-is k f j at x s w h =
        let p : prefixed W (suc k) (level W inner k) at ≡ (level W inner k (at + 1) >>= (λ y. got (signed at y.0, y.1))) = rw (s, prefixed) in
        let r : rise W inner (suc f) (suc k) (prefixed W (suc k) (level W inner k) at) ≡ got x = ap (rise W inner f (suc (suc k))) (sym (up_one k at)) ∙ h in
        let g = rise-got (suc f) (suc k) (prefixed W (suc k) (level W inner k) at) x r in
        let v = went (level W inner k (at + 1)) (λ y. got (signed at y.0, y.1)) g.a (sym p ∙ g.is) in
        record {
          top = omega arith;
          e = v.a.0;
          n = v.a.1;
          first = v.first;
          f = suc f;
          width = omega arith;
          rest = ap (rise W inner (suc f) (suc k)) (v.then ∙ sym g.is) ∙ r;
        }

    pub start-sign : (j at : ℕ) (x : Expr × ℕ) → (W at ≡ plus) ⊎ (W at ≡ minus_sign) → level W inner j at ≡ got x → Behind 1 2 j at x
    start-sign zero at x s h = low-none 0 at x (operand-sign at s) (λ m a b. absurd (omega arith)) h
    start-sign (suc zero) at x s h = low-none 1 at x (operand-sign at s) (λ m a b. stands-sign m (W at) s (λ e. omega arith)) h
    start-sign (suc (suc f)) at x s h =
        let z : 2 + f ≡ suc (suc f) = omega arith in
        behind-is 1 f (suc (suc f)) at x (two-stands (W at) s) z (sym (up_from f 2 at (λ m a b. stands-sign m (W at) s (λ e. omega arith))) ∙ rw z h)

    pub start-not : (j at : ℕ) (x : Expr × ℕ) → j ≤ 5 → W at ≡ NOT → level W inner j at ≡ got x → Behind 4 5 j at x
    unfolding rise
    start-not j at x b s h =
        test (eqb j 5)
        (λ t. let e = eqb-true j 5 t in behind-is 4 0 j at x (five-stands (W at) s) (omega arith) (rw e at h))
        (λ t. let ne = eqb-false j 5 t in low-none j at x (operand-not at s) (λ m p q. stands-not m (W at) s (λ e. ne (omega arith))) h)

    -- ---- the first part, of whatever kind, and the rest
    pub record Begun (j at : ℕ) (x : Expr × ℕ) : Type 0 where
      pub top : height (W at) ≤ j
      pub e : Expr
      pub n : ℕ
      pub first : begin W inner at ≡ got (e, n)
      pub f : ℕ
      pub width : lowest (W at) + f ≡ suc j
      pub rest : rise W inner f (lowest (W at)) (got (e, n)) ≡ got x

    begun-behind : (k j at : ℕ) (x : Expr × ℕ) → height (W at) ≡ suc k → lowest (W at) ≡ suc k → begin W inner at ≡ behind W inner k at → Behind k (suc k) j at x → Begun j at x
    unfolding behind ◌>>=◌
    begun-behind k j at x h l b g =
        record {
          top = rw h g.top;
          e = signed at g.e;
          n = g.n;
          first = b ∙ ap (λ r. r >>= (λ y. got (signed at y.0, y.1))) g.first;
          f = g.f;
          width = rw l g.width;
          rest = rw l g.rest;
        }

    pub begun : (j at : ℕ) (x : Expr × ℕ) → j ≤ 5 → level W inner j at ≡ got x → Begun j at x
    unfolding height lowest begin
    begun j at x t h =
        test (eqb (W at) 65)
        (λ a. begun-behind 4 j at x (rw (a, height)) (rw (a, lowest)) (rw (a, begin)) (start-not j at x t (eqb-true (W at) 65 a) h))
        (λ a. test (eqb (W at) 18)
        (λ b. begun-behind 1 j at x (rw (a, height) (rw b)) (rw (a, lowest) (rw b)) (rw (a, begin) (rw b)) (start-sign j at x (inl (eqb-true (W at) 18 b)) h))
        (λ b. test (eqb (W at) 19)
        (λ c. begun-behind 1 j at x (rw (a, height) (rw b (rw c))) (rw (a, lowest) (rw b (rw c))) (rw (a, begin) (rw b (rw c))) (start-sign j at x (inr (eqb-true (W at) 19 c)) h))
        (λ c. let g = start_plain j at x (eqb-false (W at) 65 a) (eqb-false (W at) 18 b) (eqb-false (W at) 19 c) h in
        let l : lowest (W at) ≡ 1 = rw (a, lowest) (rw b (rw c)) in
        let h0 : height (W at) ≡ 0 = rw (a, height) (rw b (rw c)) in
        record { top = rw h0 (omega arith); e = g.e; n = g.n; first = rw (a, begin) (rw b (rw c g.first)); f = g.f; width = rw l g.width; rest = rw l g.rest })))
