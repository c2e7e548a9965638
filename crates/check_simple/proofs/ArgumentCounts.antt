-- Arguments counted by the commas between them: no expression has a comma.
use mathlib.Core.Path.{◌≡◌, refl, sym, ap, subst, ◌∙◌}
use mathlib.Core.Bool.{Bool, true, false}
use mathlib.Core.List.{List, []}
use Prim.Native.Nat.{ℕ, zero, suc, ◌+◌, ◌-◌, ◌*◌, ◌<◌, ◌≤◌}
use native.Mathlib.Omega.{arith}
use lib.Dec.{eqb}
use lib.ListN.{length}
use mir.Syntax.{w32, w64}
use mir.Val.{Fits, bool_byte}
use borrow.Author.Tests.{eqb-true, eqb-false}
use Rattle.laws.proofs.Tests.{test, by-same, false-true}
use Rattle.paper.specs.Sorts.{NAME, comma, semicolon, open_paren, close_paren, open_brace, close_brace}
use Rattle.paper.specs.Words.{Word, word_limit}
use Rattle.paper.specs.Trees.{Expr, leaf, joined, signed}
use Rattle.paper.specs.Expressions.{Parsed, got, parts, relations, disjunctions, sums, nestings, level_of, stands_before, is_literal, chain, prefixed, level, operand, expr_in}
use Rattle.paper.specs.Names.{sort_in}
use Rattle.store_cells.specs.Cells.{cells_of}
use Rattle.code.specs.Cells.{op_at}
use Rattle.climb.proofs.Climb.{got-no, went, after, chain-on, chain-stop}
use Rattle.climb.proofs.Operands.{got_same, op-paren, op-element, op-name, op-literal, op-none}
use Rattle.grammar.specs.Form.{Parses, ExprAt, SeparatedAt, last_one, one_more}
use Rattle.grammar.proofs.Inversions.{closed_none, closed_some}
use Rattle.check_simple.specs.Parts.{ArgumentsStand, Counts, Counted}

-- a comma counts
pub record Commas (s r : ℕ) : Type 0 where
  pub yes : s ≡ comma → r ≡ 1
  pub no : (s ≡ comma → ⊥) → r ≡ 0
  pub few : r ≤ 1

pub comma-counts : (s r : ℕ) → r ≡ bool_byte (eqb s comma) → Commas s r
comma-counts s r e =
    test (eqb s comma)
    (λ t.
    let one : r ≡ 1 = e ∙ ap bool_byte t in
    record { yes = λ _. one; no = λ d. absurd (d (eqb-true s comma t)); few = omega (arith, one) })
    (λ t.
    let none : r ≡ 0 = e ∙ ap bool_byte t in
    record { yes = λ q. absurd (eqb-false s comma t q); no = λ _. none; few = omega (arith, none) })

-- ---- words up to a semicolon
-- From i on there are n commas before the semicolon at `end`, and no other semicolon.
pub data Left (W : ℕ → ℕ) (end : ℕ) : (i n : ℕ) → Type 0 where
  left-none : {i n : ℕ} → i ≡ end → n ≡ 0 → Left W end i n
  left-comma : {i n k : ℕ} → W i ≡ comma → n ≡ suc k → Left W end (i + 1) k → Left W end i n
  left_other : {i n : ℕ} → (W i ≡ comma → ⊥) → (W i ≡ semicolon → ⊥) → Left W end (i + 1) n → Left W end i n

module _ (W : ℕ → ℕ) (end : ℕ) where
  left-inside : {i n : ℕ} → Left W end i n → i ≤ end
  left-inside (left-none e z) = omega (arith, e)
  left-inside (left-comma c e l) = omega (arith, left-inside l)
  left-inside (left_other c e l) = omega (arith, left-inside l)

  -- none is passed from a to b
  Over : (a b : ℕ) → Type 0
  Over a b = (n : ℕ) → Left W end b n → Left W end a n

  over_none : (a : ℕ) → Over a a
  unfolding Over
  over_none a n l = l

  over_word : (i b k : ℕ) → W i ≡ k → (k ≡ comma → ⊥) → (k ≡ semicolon → ⊥) → Over (i + 1) b → Over i b
  unfolding Over
  over_word i b k e c s o n l = left_other (λ q. c (sym e ∙ q)) (λ q. s (sym e ∙ q)) (o n l)

  over-on : (a b c : ℕ) → Over a b → Over b c → Over a c
  unfolding Over
  over-on a b c o p n l = o n (p n l)

  -- a word of a sort that a test tells from both
  over-test : (i b : ℕ) (f : ℕ → Bool) → f (W i) ≡ true → f comma ≡ false → f semicolon ≡ false → Over (i + 1) b → Over i b
  over-test i b f h c s o = over_word i b (W i) refl (λ q. false-true (sym c ∙ ap f (sym q) ∙ h)) (λ q. false-true (sym s ∙ ap f (sym q) ∙ h)) o

  before-comma : (k : ℕ) → stands_before k comma ≡ false
  unfolding stands_before
  before-comma k = test (eqb k disjunctions) (λ t. rw (t, stands_before)) (λ t. test (eqb k sums) (λ u. rw (t, stands_before) (rw u)) (λ u. rw (t, stands_before) (rw u)))

  before-semicolon : (k : ℕ) → stands_before k semicolon ≡ false
  unfolding stands_before
  before-semicolon k = test (eqb k disjunctions) (λ t. rw (t, stands_before)) (λ t. test (eqb k sums) (λ u. rw (t, stands_before) (rw u)) (λ u. rw (t, stands_before) (rw u)))

  operator-over : (i b k : ℕ) → level_of (W i) ≡ suc k → Over (i + 1) b → Over i b
  unfolding level_of
  operator-over i b k h o =
      over_word i b (W i) refl (λ q. omega (arith, ap level_of q, h)) (λ q. omega (arith, ap level_of q, h)) o

  -- ---- an expression has neither
  abbrev Past : ℕ → Expr × ℕ → Type 0
  Past at x = Over at x.1

  module _ (k : ℕ) (sub : ℕ → Parsed (Expr × ℕ)) (on : (at : ℕ) (x : Expr × ℕ) → sub at ≡ got x → Past at x) where
    chain-past : (p : ℕ) (e : Expr) (i : ℕ) (x : Expr × ℕ) → chain W p (suc k) sub e i ≡ got x → Past i x
    unfolding chain after
    chain-past zero e i x h = got-no 8 i x h
    chain-past (suc p) e i x h =
        test (eqb (level_of (W i)) (suc k))
        (λ t. let l = eqb-true (level_of (W i)) (suc k) t in
        let g = went (sub (i + 1)) (after W (suc k) sub p e i) x (sym (chain-on W (suc k) sub p e i l) ∙ h) in
        let r = operator-over i g.a.1 k l (on (i + 1) g.a g.first) in
        test (eqb (suc k) relations)
        (λ u. subst (Past i) (got_same (joined i e g.a.0, g.a.1) x (rw (u, after) at g.then)) r)
        (λ u. over-on i g.a.1 x.1 r (chain-past p (joined i e g.a.0) g.a.1 x (rw (u, after) at g.then))))
        (λ t. subst (Past i) (got_same (e, i) x (sym (chain-stop W (suc k) sub p e i (eqb-false (level_of (W i)) (suc k) t)) ∙ h)) (over_none i))

    prefixed-past : (at : ℕ) (x : Expr × ℕ) → prefixed W (suc k) sub at ≡ got x → Past at x
    unfolding prefixed
    prefixed-past at x h =
        test (stands_before (suc k) (W at))
        (λ t. let g = went (sub (at + 1)) (λ y. got (signed at y.0, y.1)) x (rw (t, prefixed) at h) in
        subst (Past at) (got_same (signed at g.a.0, g.a.1) x g.then)
        (over-test at g.a.1 (stands_before (suc k)) t (before-comma (suc k)) (before-semicolon (suc k)) (on (at + 1) g.a g.first)))
        (λ t. on at x (rw (t, prefixed) at h))

  module _ (inner : ℕ → Parsed (Expr × ℕ)) (on : (at : ℕ) (x : Expr × ℕ) → inner at ≡ got x → Past at x) where
    -- what is closed at n
    closed-past : (a n k : ℕ) → W n ≡ k → (k ≡ comma → ⊥) → (k ≡ semicolon → ⊥) → Over a n → Over a (n + 1)
    closed-past a n k e c s o = over-on a n (n + 1) o (over_word n (n + 1) k e c s (over_none (n + 1)))

    one-past : (at k : ℕ) → W at ≡ k → (k ≡ comma → ⊥) → (k ≡ semicolon → ⊥) → Over at (at + 1)
    one-past at k e c s = over_word at (at + 1) k e c s (over_none (at + 1))

    operand-past : (at : ℕ) (x : Expr × ℕ) → operand W inner at ≡ got x → Past at x
    unfolding is_literal
    operand-past at x h =
        test (eqb (W at) open_paren)
        (λ t. let o = eqb-true (W at) open_paren t in
        let g = op-paren W inner at x o h in
        subst (Past at) (sym g.whole) (closed-past at g.n close_paren g.closed (λ q. omega arith) (λ q. omega arith)
        (over_word at g.n open_paren o (λ q. omega arith) (λ q. omega arith) (on (at + 1) (g.e, g.n) g.is))))
        (λ t. test (eqb (W at) NAME)
        (λ u. let n = eqb-true (W at) NAME u in test (eqb (W (at + 1)) open_brace)
        (λ v. let b = eqb-true (W (at + 1)) open_brace v in
        let g = op-element W inner at x n b h in
        let two : at + 1 + 1 ≡ at + 2 = omega arith in
        subst (Past at) (sym g.whole) (closed-past at g.n close_brace g.closed (λ q. omega arith) (λ q. omega arith)
        (over_word at g.n NAME n (λ q. omega arith) (λ q. omega arith)
        (over_word (at + 1) g.n open_brace b (λ q. omega arith) (λ q. omega arith) (subst (λ (j : ℕ). Over j g.n) (sym two) (on (at + 2) (g.e, g.n) g.is))))))
        (λ v. subst (Past at) (got_same (leaf at, at + 1) x (sym (op-name W inner at n (eqb-false (W (at + 1)) open_brace v)) ∙ h)) (one-past at NAME n (λ q. omega arith) (λ q. omega arith))))
        (λ u. test (is_literal (W at))
        (λ v. subst (Past at) (got_same (leaf at, at + 1) x (sym (op-literal W inner at v) ∙ h)) (over-test at (at + 1) is_literal v refl refl (over_none (at + 1))))
        (λ v. op-none W inner at x (eqb-false (W at) open_paren t) (eqb-false (W at) NAME u) v h)))

    level-past : (j at : ℕ) (x : Expr × ℕ) → level W inner j at ≡ got x → Past at x
    unfolding level
    level-past zero at x h = operand-past at x h
    level-past (suc j) at x h =
        let g = went (prefixed W (suc j) (level W inner j) at) (λ y. chain W parts (suc j) (level W inner j) y.0 y.1) x h in
        let p = prefixed-past j (level W inner j) (level-past j) at g.a g.first in
        over-on at g.a.1 x.1 p (chain-past j (level W inner j) (level-past j) parts g.a.0 g.a.1 x g.then)

  expr-past : (d at : ℕ) (x : Expr × ℕ) → expr_in W d at ≡ got x → Past at x
  unfolding expr_in
  expr-past zero at x h = got-no 9 (at - 1) x h
  expr-past (suc d) at x h = level-past (expr_in W d) (expr-past d) disjunctions at x h

  -- ---- arguments
  separated-some : {es : List Expr} {at to : ℕ} → SeparatedAt W (ExprAt W (Parses W)) es at to → 0 < length es
  separated-some (last_one k f) = omega arith
  separated-some (one_more k c h) = omega arith

  separated-left : {es : List Expr} {at to : ℕ} → SeparatedAt W (ExprAt W (Parses W)) es at to → Left W end to 0 → (k : ℕ) → length es ≡ suc k → Left W end at k
  unfolding Over
  separated-left {at = at} {to = to} (last_one {a = a} h f) l k e =
      let z : 0 ≡ k = omega (arith, e) in
      subst (Left W end at) z (expr-past (suc nestings) at (a, to) h 0 l)
  separated-left {at = at} (one_more {a = a} {r = r} {n = n} h c m) l k e =
      let some = separated-some m in
      let z : k ≡ suc (k - 1) = omega (arith, e, some) in
      expr-past (suc nestings) at (a, n) h k (left-comma c z (separated-left m l (k - 1) (omega (arith, e, some))))

-- ---- the loop
module _ (W : List Word) (es : List Expr) (first closing z end : ℕ) (s : ArgumentsStand W es first closing z end) where
  end-left : Left (sort_in W) end z 0
  end-left =
      by-same closing semicolon
      (λ e. left-none (sym (s.at-end e)) refl)
      (λ d. let p = s.past_end d in
      left_other (λ q. omega (arith, s.closes, p.0, q)) (λ q. omega (arith, s.closes, p.0, q)) (left-none (sym p.1) refl))

  pub arguments-none : sort_in W first ≡ closing → es ≡ []
  arguments-none h = (closed_none (sort_in W) (ExprAt (sort_in W) (Parses (sort_in W))) s.arguments h).0

  pub arguments-some : (sort_in W first ≡ closing → ⊥) → SeparatedAt (sort_in W) (ExprAt (sort_in W) (Parses (sort_in W))) es first z
  arguments-some h = closed_some (sort_in W) (ExprAt (sort_in W) (Parses (sort_in W))) s.arguments h

  arguments-left : (sort_in W first ≡ closing → ⊥) → (k : ℕ) → length es ≡ suc k → Left (sort_in W) end first k
  arguments-left h k e = separated-left (sort_in W) end (arguments-some h) end-left k e

-- so many are counted up to the word i
pub record Counting (code : List ℕ) (first closing : ℕ) (g : Counts code first closing) (i count : ℕ) : Type 0 where
  pub n : ℕ
  pub left : Left (sort_in g.W) g.end i n
  pub total : count + n ≡ length g.es
  pub few : count ≤ i + 1
  pub on : first ≤ i

pub record Goes (code : List ℕ) (first closing i count : ℕ) : Type 0 where
  pub is : (g : Counts code first closing) → Counting code first closing g i count

module _ (code : List ℕ) (first closing : ℕ) where
  fresh-sort : (g : Counts code first closing) (i : ℕ) → first ≤ i → i ≤ g.end → op_at (cells_of code) i ≡ sort_in g.W i
  fresh-sort g i a b = (g.loaded.words i a b).sort

  first-inside : (g : Counts code first closing) → first ≤ g.end
  first-inside g =
      by-same (sort_in g.W first) closing
      (λ e. let p = closed_none (sort_in g.W) (ExprAt (sort_in g.W) (Parses (sort_in g.W))) g.stand.arguments e in
      by-same closing semicolon (λ c. omega (arith, p.1, g.stand.at-end c)) (λ d. omega (arith, p.1, (g.stand.past_end d).1)))
      (λ d. let f = arguments-some g.W g.es first closing g.z g.end g.stand d in
      let some = separated-some (sort_in g.W) g.end f in
      left-inside (sort_in g.W) g.end
      (arguments-left g.W g.es first closing g.z g.end g.stand d (length g.es - 1) (omega (arith, some))))

  pub count_room : Counts code first closing → first * 8 + 8 ≤ length code
  count_room g = omega (arith, first-inside g, g.loaded.room)

  module _ (s : ℕ) (e : s ≡ op_at (cells_of code) first) where
    sort-first : (g : Counts code first closing) → s ≡ sort_in g.W first
    sort-first g = e ∙ fresh-sort g first (omega arith) (first-inside g)

    pub count_none : s ≡ closing → Counted code first closing 0
    count_none c = record {
      is = λ g. sym (ap length (arguments-none g.W g.es first closing g.z g.end g.stand (sym (sort-first g) ∙ c)));
    }

    pub count-starts : (s ≡ closing → ⊥) → Goes code first closing first 1
    count-starts c = record {
      is = λ g.
          let d : sort_in g.W first ≡ closing → ⊥ = λ q. c (sort-first g ∙ q) in
          let some = separated-some (sort_in g.W) g.end (arguments-some g.W g.es first closing g.z g.end g.stand d) in
          record {
            n = length g.es - 1;
            left = arguments-left g.W g.es first closing g.z g.end g.stand d (length g.es - 1) (omega (arith, some));
            total = omega (arith, some);
            few = omega arith;
            on = omega arith;
          };
    }

  module _ (i count : ℕ) (h : Goes code first closing i count) where
    goes-inside : (g : Counts code first closing) → i ≤ g.end
    goes-inside g = left-inside (sort_in g.W) g.end (h.is g).left

    pub goes-here : Counts code first closing → i * 8 + 8 ≤ length code
    goes-here g = omega (arith, goes-inside g, g.loaded.room)

    pub goes-fits : Counts code first closing → Fits w64 (i + 1)
    goes-fits g = record { fits = omega (arith, goes-inside g, g.loaded.last) }

    pub goes-less : Counts code first closing → word_limit - (i + 1) < word_limit - i
    goes-less g = omega (arith, goes-inside g, g.loaded.last)

    pub count_fits : Counts code first closing → (s k : ℕ) → Commas s k → Fits w32 (count + k)
    count_fits g s k c = record { fits = omega (arith, goes-inside g, g.loaded.last, (h.is g).few, c.few) }

    module _ (s : ℕ) (e : s ≡ op_at (cells_of code) i) where
      sort-here : (g : Counts code first closing) → s ≡ sort_in g.W i
      sort-here g = e ∙ fresh-sort g i (h.is g).on (goes-inside g)

      pub goes-done : s ≡ semicolon → Counted code first closing count
      goes-done c = record { is = λ g. by g.W g.end (length g.es) (h.is g).left (h.is g).total (sym (sort-here g) ∙ c) }
        where
          by : (W : List Word) (end all : ℕ) {n : ℕ} → Left (sort_in W) end i n → count + n ≡ all → sort_in W i ≡ semicolon → count ≡ all
          by W end all (left-none q z) t c = omega (arith, z, t)
          by W end all (left-comma q z l) t c = absurd (omega (arith, q, c))
          by W end all (left_other q z l) t c = absurd (z c)

      pub goes-on : (s ≡ semicolon → ⊥) → (k : ℕ) → Commas s k → Goes code first closing (i + 1) (count + k)
      goes-on c k m = record {
        is = λ g. by g (h.is g).left (h.is g).total (sort-here g) (h.is g).few (h.is g).on;
      }
        where
          by : (g : Counts code first closing) {n : ℕ} → Left (sort_in g.W) g.end i n → count + n ≡ length g.es → s ≡ sort_in g.W i → count ≤ i + 1 → first ≤ i
              → Counting code first closing g (i + 1) (count + k)
          by g (left-none q z) t x f o = absurd (c (x ∙ ap (sort_in g.W) q ∙ g.stand.ends))
          by g (left-comma {k = p} q z l) t x f o = let y = m.yes (x ∙ q) in
              record { n = p; left = l; total = omega (arith, z, t, y); few = omega (arith, f, y); on = omega (arith, o) }
          by g (left_other {n = p} q z l) t x f o = let y = m.no (λ w. q (sym x ∙ w)) in
              record { n = p; left = l; total = omega (arith, t, y); few = omega (arith, f, y); on = omega (arith, o) }
