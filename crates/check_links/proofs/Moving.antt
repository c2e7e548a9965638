-- Simple statements in two stores. What a statement's words say is kept where no word that leads on is asked for more than where it leads: this is what
-- resolving changes, and what writing elsewhere leaves; and more words of data do no harm.
use mathlib.Core.Path.{◌≡◌, refl, sym, ap, subst, ◌∙◌}
use mathlib.Core.Bool.{Bool, true, false, not}
use mathlib.Core.List.{List, [], ◌∷◌}
use mathlib.Core.Option.{none, some}
use Prim.Native.Nat.{ℕ, zero, suc, ◌+◌, ◌<◌, ◌≤◌}
use native.Mathlib.Omega.{arith}
use lib.Dec.{eqb, ltb, leb}
use lib.ListN.{length, get_or}
use borrow.Author.Tests.{eq-eqb, ne_eqb, lt-ltb, le-ltb, ltb-true, leb-true, le-leb}
use Rattle.laws.proofs.Tests.{test, by_less, by-same, false-true}
use Rattle.std.specs.Prelude.{if◌then◌else◌}
use Rattle.paper.specs.Terms.{Term, of_routine}
use Rattle.paper.specs.Trees.{Expr, Target, Simple, first_simple, assign, assign_call, call, returns, raises, exits, retries, tries_next, writes, reads}
use Rattle.paper.specs.Names.{Scopes}
use Rattle.paper.specs.Steps.{Spot, scalar, element_of}
use Rattle.code.specs.Cells.{op_in, value_in, head_at, op_at, value_at, place_at, link_at}
use Rattle.code.specs.Spans.{guard, ◌then◌, first_in, size_in, term_in}
use Rattle.code.specs.Steps.{a_target, a_call_target, a_return_of, a_return, a_raise_of, a_raise, an_exit, a_retry, a_try_next, a_write, a_write_of, a_read, a_next_argument, a_then, a_close}
use Rattle.code.specs.Steps.{parts, Head, no_head, numbered, agree, scalar_in, element_in, target_in, arguments_in, any_arguments, callee_in, characters_in, a_procedure_call, an_undo_end, a_do}
use Rattle.code.proofs.Options.{none-some, same_some, guarded, guards, went, goes}
use Rattle.code.proofs.Spanning.{Agree, agree_same, span-grows}
use Rattle.code.proofs.Composing.{framed}
use Rattle.check_links.specs.Resolved.{goes_by_link, goes_by_value, goes_by_place, is_led}
use Rattle.check_links.proofs.Ops.{link-step, step_other}
use Rattle.check_links.specs.Raw.{Ground, Quiet, RawWord, RawTerm, RawBound, RawTarget, RawArguments, RawCallee, RawText, RawAssign, RawAssignCall, RawCall, RawValued, RawWrite, RawWriteOf, RawRead, RawDoes}

-- ---- what may change
-- From a up to b, words of D say what those of C say, but for where words lead, and those that led to `out` lead to `on` now.
pub record Moves (C D : List ℕ) (a b out on : ℕ) : Type 0 where
  pub ops : (i : ℕ) → a ≤ i → i < b → op_at C i ≡ op_at D i
  pub values : (i : ℕ) → a ≤ i → i < b → goes_by_value (op_at C i) ≡ false → value_at C i ≡ value_at D i
  pub places : (i : ℕ) → a ≤ i → i < b → goes_by_place (op_at C i) ≡ false → place_at C i ≡ place_at D i
  pub links : (i : ℕ) → a ≤ i → i < b → goes_by_link (op_at C i) ≡ false → link_at C i ≡ link_at D i
  pub outs : (i : ℕ) → a ≤ i → i < b → goes_by_link (op_at C i) ≡ true → (op_at C i ≡ a_then → ⊥) → link_at C i ≡ out → link_at D i ≡ on

-- ---- words that lead nowhere
module _ (op : ℕ) (h : is_led op ≡ false) where
  pub still-link : goes_by_link op ≡ false
  unfolding is_led
  still-link = test (goes_by_link op) (λ t. false-true (sym h ∙ rw (t, is_led))) (λ t. t)

  pub still-value : goes_by_value op ≡ false
  unfolding is_led
  still-value = test (goes_by_value op) (λ t. false-true (sym h ∙ rw (still-link, is_led) (rw t))) (λ t. t)

  pub still-place : goes_by_place op ≡ false
  unfolding is_led
  still-place = rw still-value at (rw (still-link, is_led) at h)

head-is : (v w : ℕ) → op_in v ≡ op_in w → value_in v ≡ value_in w → v ≡ w
head-is v w o e = omega arith

-- what a head in the range of targets says
target-op : (op ops : ℕ) → ops ≤ a_call_target → ops ≤ op → op < ops + 4 → goes_by_value op ≡ false
unfolding goes_by_value
target-op op ops h l u = rw (ne_eqb op a_then (λ e. omega arith), goes_by_value) (ne_eqb op a_do (λ e. omega arith))

target-link : (op ops : ℕ) → a_target ≤ ops → ops ≤ a_call_target → ops ≤ op → op < ops + 4 → goes_by_link op ≡ true
target-link op ops k h l u =
    sym (link-step op (omega arith) (omega arith) true (sym (ap not (ne_eqb op an_undo_end (λ e. omega arith))) ∙ step_other op (λ e. omega arith) (λ e. omega arith) (λ e. omega arith)))

room-more : {A : Type 0} (v n p : ℕ) (x s : A) → n ≤ p → guard (ltb v n) x ≡ some s → guard (ltb v p) x ≡ some s
room-more v n p x s h e = let d = guarded (ltb v n) x s e in guards (ltb v p) x s (lt-ltb v p (omega (arith, ltb-true v n d.holds))) d.is

most-more : {A : Type 0} (v n p : ℕ) (x s : A) → n ≤ p → guard (leb v n) x ≡ some s → guard (leb v p) x ≡ some s
most-more v n p x s h e = let d = guarded (leb v n) x s e in guards (leb v p) x s (le-leb v p (omega (arith, leb-true v n d.holds))) d.is

-- ---- arguments, one after another
module _ (m n : ℕ) (fn : Bool) (text : List ℕ) (R : List Head) (C : List ℕ) (f a b : ℕ) (t : Term) (e : term_in m n C a b ≡ some t) where
  pub argument-last : (op_at C b ≡ a_next_argument → ⊥) → arguments_in m n fn text R C (suc f) a b ≡ some (t ∷ [], b)
  unfolding arguments_in ◌then◌
  argument-last h = rw (e, arguments_in) (rw (ne_eqb (op_at C b) a_next_argument h))

  pub argument-next : (c : ℕ) (ts : List Term) (z : ℕ) → op_at C b ≡ a_next_argument → link_at C b ≡ c → arguments_in m n fn text R C f (b + 1) c ≡ some (ts, z)
      → arguments_in m n fn text R C (suc f) a b ≡ some (t ∷ ts, z)
  unfolding arguments_in ◌then◌
  argument-next c ts z h l r =
      let q : arguments_in m n fn text R C f (b + 1) (link_at C b) ≡ some (ts, z) = ap (arguments_in m n fn text R C f (b + 1)) l ∙ r in
      rw (e, arguments_in) (rw (eq-eqb (op_at C b) a_next_argument h) (goes (arguments_in m n fn text R C f (b + 1) (link_at C b)) (λ r. some (t ∷ r.0, r.1)) (ts, z) q))

-- ---- the readings of parts, in two stores
module _ (m n p : ℕ) (np : n ≤ p) (fn : Bool) (text : List ℕ) (R : List Head) (C D : List ℕ) where
  module _ (ops i : ℕ) (hd : head_at C i ≡ head_at D i) where
    scalar-kept : (s : Spot) → scalar_in m n fn text R C ops i ≡ some s → scalar_in m p fn text R D ops i ≡ some s
    unfolding scalar_in
    scalar-kept s e =
        by-same (op_at D i) ops
        (λ q. rw (eq-eqb (op_at D i) ops q, scalar_in) (rw (hd, eq-eqb (op_at D i) ops q, scalar_in) at e))
        (λ q. rw (ne_eqb (op_at D i) ops q, scalar_in)
        (room-more (value_at D i) n p (scalar (of_routine (value_at D i))) s np (rw (hd, ne_eqb (op_at D i) ops q, scalar_in) at e)))

    element-kept : (t : Term) (s : Spot) → element_in m n fn text R C ops i t ≡ some s → element_in m p fn text R D ops i t ≡ some s
    unfolding element_in
    element-kept t s e =
        let v = value_at D i in
        by-same (op_at D i) (ops + 2)
        (λ q. rw (eq-eqb (op_at D i) (ops + 2) q, element_in) (rw (hd, eq-eqb (op_at D i) (ops + 2) q, element_in) at e))
        (λ q. rw (ne_eqb (op_at D i) (ops + 2) q, element_in)
        (most-more (first_in v + size_in v) n p (element_of (of_routine (first_in v)) (size_in v) t) s np (rw (hd, ne_eqb (op_at D i) (ops + 2) q, element_in) at e)))

    pub target-kept : (s : Spot) (j : ℕ) → (i + 1 < j → link_at C (i + 1) ≡ link_at D (i + 1)) → Agree C D (i + 2) j
        → target_in m n fn text R C ops i ≡ some (s, j) → target_in m p fn text R D ops i ≡ some (s, j)
    unfolding target_in
    target-kept s j lk ag e =
        let o : op_at C i ≡ op_at D i = ap op_in hd in
        by_less (op_at C i) (ops + 2)
        (λ q.
        let x = went (scalar_in m n fn text R C ops i) (λ s. some (s, i + 1)) (s, j) (rw (lt-ltb (op_at C i) (ops + 2) q, target_in) at e) in
        rw (lt-ltb (op_at D i) (ops + 2) (omega arith), target_in)
        (goes (scalar_in m p fn text R D ops i) (λ s. some (s, i + 1)) x.a (scalar-kept x.a x.first) ∙ x.next))
        (λ q.
        let x = went (term_in m n C (i + 2) (link_at C (i + 1))) (λ t. element_in m n fn text R C ops i t then (λ s. some (s, link_at C (i + 1) + 1))) (s, j)
        (rw (le-ltb (op_at C i) (ops + 2) q, target_in) at e) in
        let y = went (element_in m n fn text R C ops i x.a) (λ s. some (s, link_at C (i + 1) + 1)) (s, j) x.next in
        let w : link_at C (i + 1) + 1 ≡ j = ap (λ (z : Spot × ℕ). z.1) (same_some (y.a, link_at C (i + 1) + 1) (s, j) y.next) in
        let lc : link_at C (i + 1) ≡ link_at D (i + 1) = lk (omega (arith, span-grows m n C (i + 2) (link_at C (i + 1)) x.a x.first)) in
        rw (le-ltb (op_at D i) (ops + 2) (omega arith), target_in)
        (rw (← lc)
        (goes (term_in m p D (i + 2) (link_at C (i + 1))) (λ t. element_in m p fn text R D ops i t then (λ s. some (s, link_at C (i + 1) + 1))) x.a
        (framed m n m p C D (i + 2) (link_at C (i + 1)) x.a (omega arith) np (shorter (link_at C (i + 1)) j (omega arith) ag) x.first)
        ∙ goes (element_in m p fn text R D ops i x.a) (λ s. some (s, link_at C (i + 1) + 1)) y.a (element-kept x.a y.a y.first)
        ∙ y.next)))
      where
        shorter : (k j : ℕ) → k ≤ j → Agree C D (i + 2) j → Agree C D (i + 2) k
        shorter k j h ag = record { heads = λ l a b. ag.heads l a (omega arith); links = λ l a b. ag.links l a (omega arith) }

  pub callee_kept : (f : Bool) (i : ℕ) (ts : List Term) (k : ℕ) → value_at C i ≡ value_at D i → callee_in m n fn text R C f i ts ≡ some k → callee_in m p fn text R D f i ts ≡ some k
  unfolding callee_in
  callee_kept f i ts k h e =
      subst (λ (v : ℕ).
      elim (eqb (get_or R (numbered R v) no_head).word v) [
        | false ↦ none
        | true ↦ elim (agree f (get_or R (numbered R v) no_head).function) [ false ↦ none | true ↦ guard (eqb (length ts) (get_or R (numbered R v) no_head).parameters) (numbered R v) ]
      ] ≡ some k) h e

  pub characters-kept : (i : ℕ) (s : List ℕ) → value_at C i ≡ value_at D i → place_at C i ≡ place_at D i → characters_in m n fn text R C i ≡ some s → characters_in m p fn text R D i ≡ some s
  unfolding characters_in
  characters-kept i s h q e = rw (h, q) at e

  -- ---- arguments
  module _ (low high : ℕ) (ag : Agree C D low high) where
    pub record Arguments (f a b : ℕ) (ts : List Term) (z : ℕ) : Type 0 where
      pub first : a < b
      pub on : b ≤ z
      pub kept : arguments_in m p fn text R D f a b ≡ some (ts, z)

    pub arguments-kept : (f a b : ℕ) (ts : List Term) (z : ℕ) → low ≤ a → z ≤ high → op_at C z ≡ op_at D z → arguments_in m n fn text R C f a b ≡ some (ts, z) → Arguments f a b ts z
    unfolding arguments_in
    arguments-kept zero a b ts z lo hi oz e = none-some (ts, z) e
    arguments-kept (suc f) a b ts z lo hi oz e =
        let x = went (term_in m n C a b) (λ t. elim (eqb (op_at C b) a_next_argument) [ true ↦ arguments_in m n fn text R C f (b + 1) (link_at C b) then (λ r. some (t ∷ r.0, r.1)) | false ↦ some (t ∷ [], b) ]) (ts, z) e in
        let gr = span-grows m n C a b x.a x.first in
        by-same (op_at C b) a_next_argument
        (λ q.
        let y = went (arguments_in m n fn text R C f (b + 1) (link_at C b)) (λ r. some (x.a ∷ r.0, r.1)) (ts, z) (rw (eq-eqb (op_at C b) a_next_argument q) at x.next) in
        let w : y.a.1 ≡ z = ap (λ (r : List Term × ℕ). r.1) (same_some (x.a ∷ y.a.0, y.a.1) (ts, z) y.next) in
        let r = arguments-kept f (b + 1) (link_at C b) y.a.0 z (omega arith) hi oz (y.first ∙ ap (λ (k : ℕ). some (y.a.0, k)) w) in
        let bz : b < z = omega (arith, r.first, r.on) in
        let hb : head_at C b ≡ head_at D b = ag.heads b (omega arith) (omega arith) in
        let lb : link_at C b ≡ link_at D b = ag.links b (omega arith) (omega arith) in
        record {
          first = gr;
          on = omega arith;
          kept = argument-next m p fn text R D f a b x.a (term a b x.a lo (omega arith) x.first) (link_at C b) y.a.0 z (sym (ap op_in hb) ∙ q) (sym lb) r.kept
              ∙ sym (ap (λ (k : ℕ). some (x.a ∷ y.a.0, k)) w) ∙ y.next;
        })
        (λ q.
        let w : some (x.a ∷ [], b) ≡ some (ts, z) = rw (ne_eqb (op_at C b) a_next_argument q) at x.next in
        let bz : b ≡ z = ap (λ (r : List Term × ℕ). r.1) (same_some (x.a ∷ [], b) (ts, z) w) in
        record {
          first = gr;
          on = omega arith;
          kept = argument-last m p fn text R D f a b x.a (term a b x.a lo (omega arith) x.first) (λ k. q (ap (op_at C) bz ∙ oz ∙ sym (ap (op_at D) bz) ∙ k)) ∙ w;
        })
      where
        term : (a b : ℕ) (t : Term) → low ≤ a → b ≤ high → term_in m n C a b ≡ some t → term_in m p D a b ≡ some t
        term a b t l h e = framed m n m p C D a b t (omega arith) np (record { heads = λ k g j. ag.heads k (omega arith) (omega arith); links = λ k g j. ag.links k (omega arith) (omega arith) }) e

    pub any-kept : (a b : ℕ) (ts : List Term) (z : ℕ) → low ≤ a → z ≤ high → op_at C z ≡ op_at D z → any_arguments m n fn text R C a b ≡ some (ts, z) → any_arguments m p fn text R D a b ≡ some (ts, z)
    unfolding any_arguments
    any-kept a b ts z lo hi oz e =
        by-same a b
        (λ q. rw (eq-eqb a b q, any_arguments) (rw (eq-eqb a b q, any_arguments) at e))
        (λ q. rw (ne_eqb a b q, any_arguments) (arguments-kept parts a b ts z lo hi oz (rw (ne_eqb a b q, any_arguments) at e)).kept)

-- a target ends behind where it begins
pub target-on : (m n : ℕ) (fn : Bool) (text : List ℕ) (R : List Head) (C : List ℕ) (ops i : ℕ) (s : Spot) (j : ℕ) → target_in m n fn text R C ops i ≡ some (s, j) → i < j
unfolding target_in
target-on m n fn text R C ops i s j e =
    by_less (op_at C i) (ops + 2)
    (λ q.
    let x = went (scalar_in m n fn text R C ops i) (λ s. some (s, i + 1)) (s, j) (rw (lt-ltb (op_at C i) (ops + 2) q, target_in) at e) in
    let w : i + 1 ≡ j = ap (λ (z : Spot × ℕ). z.1) (same_some (x.a, i + 1) (s, j) x.next) in
    omega arith)
    (λ q.
    let x = went (term_in m n C (i + 2) (link_at C (i + 1))) (λ t. element_in m n fn text R C ops i t then (λ s. some (s, link_at C (i + 1) + 1))) (s, j)
    (rw (le-ltb (op_at C i) (ops + 2) q, target_in) at e) in
    let y = went (element_in m n fn text R C ops i x.a) (λ s. some (s, link_at C (i + 1) + 1)) (s, j) x.next in
    let w : link_at C (i + 1) + 1 ≡ j = ap (λ (z : Spot × ℕ). z.1) (same_some (y.a, link_at C (i + 1) + 1) (s, j) y.next) in
    omega (arith, span-grows m n C (i + 2) (link_at C (i + 1)) x.a x.first))

-- arguments are closed behind where they begin
pub any-on : (m n : ℕ) (fn : Bool) (text : List ℕ) (R : List Head) (C : List ℕ) (a b : ℕ) (ts : List Term) (z : ℕ) → any_arguments m n fn text R C a b ≡ some (ts, z) → a ≤ z
unfolding any_arguments
any-on m n fn text R C a b ts z e =
    by-same a b
    (λ q. let w : some ([], b) ≡ some (ts, z) = rw (eq-eqb a b q, any_arguments) at e in
    let bz : b ≡ z = ap (λ (r : List Term × ℕ). r.1) (same_some ([], b) (ts, z) w) in
    omega arith)
    (λ q. let r = arguments-kept m n n (omega arith) fn text R C C a z (agree_same C a z) parts a b ts z (omega arith) (omega arith) refl (rw (ne_eqb a b q, any_arguments) at e) in
    omega (arith, r.first, r.on))

-- ---- parts of simple statements
module _ (g : Ground) (n p : ℕ) (np : n ≤ p) (C D : List ℕ) (low high out on : ℕ) (mv : Moves C D low high out on) where
  still-head : (i : ℕ) → low ≤ i → i < high → is_led (op_at C i) ≡ false → head_at C i ≡ head_at D i
  still-head i l h s = head-is (head_at C i) (head_at D i) (mv.ops i l h) (mv.values i l h (still-value (op_at C i) s))

  pub still-moves : (i : ℕ) → low ≤ i → i < high → is_led (op_at C i) ≡ false → is_led (op_at D i) ≡ false
  still-moves i l h s = sym (ap is_led (mv.ops i l h)) ∙ s

  quiet-moves : (a b : ℕ) → low ≤ a → b ≤ high → Quiet C a b → Quiet D a b
  quiet-moves a b l h q i x y = still-moves i (omega arith) (omega arith) (q i x y)

  agrees : (a b : ℕ) → low ≤ a → b ≤ high → Quiet C a b → Agree C D a b
  agrees a b l h q = record {
    heads = λ i x y. still-head i (omega arith) (omega arith) (q i x y);
    links = λ i x y. mv.links i (omega arith) (omega arith) (still-link (op_at C i) (q i x y));
  }

  pub word-moves : (op i : ℕ) → low ≤ i → i < high → goes_by_link op ≡ true → (op ≡ a_then → ⊥) → RawWord C op i out → RawWord D op i on
  word-moves op i l h t d w = record {
    is = sym (mv.ops i l h) ∙ w.is;
    leaves = mv.outs i l h (ap goes_by_link w.is ∙ t) (λ e. d (sym w.is ∙ e)) w.leaves;
  }

  module _ (S : Scopes) where
    pub term-moves : (e : Expr) (a b : ℕ) → low ≤ a → b ≤ high → RawTerm g n C S e a b → RawTerm g p D S e a b
    term-moves e a b l h t = record {
      is = framed g.m n g.m p C D a b _ (omega arith) np (agrees a b l h t.quiet) t.is;
      quiet = quiet-moves a b l h t.quiet;
    }

    pub bound-moves : (e : Expr) (w z : ℕ) → low ≤ w → z ≤ high → RawBound g n C S e w z → RawBound g p D S e w z
    bound-moves e w z l h b =
        let gr : w + 1 < z = span-grows g.m n C (w + 1) z _ b.term.is in
        record {
          link = sym (mv.links w l (omega arith) (still-link (op_at C w) b.still)) ∙ b.link;
          still = still-moves w l (omega arith) b.still;
          term = term-moves e (w + 1) z (omega arith) h b.term;
        }

    pub target-moves : (ops : ℕ) (t : Target) (a b : ℕ) → ops ≤ a_call_target → low ≤ a → a < high → b ≤ high → RawTarget g n C S ops t a b → RawTarget g p D S ops t a b
    target-moves ops t a b o l k h x =
        let hd : head_at C a ≡ head_at D a = head-is (head_at C a) (head_at D a) (mv.ops a l k) (mv.values a l k (target-op (op_at C a) ops o x.low x.high)) in
        record {
          low = subst (λ (w : ℕ). ops ≤ w) (mv.ops a l k) x.low;
          high = subst (λ (w : ℕ). w < ops + 4) (mv.ops a l k) x.high;
          is = target-kept g.m n p np g.function g.text g.R C D ops a hd _ b
              (λ q. mv.links (a + 1) (omega arith) (omega arith) (still-link (op_at C (a + 1)) (x.quiet (a + 1) (omega arith) q)))
              (agrees (a + 2) b (omega arith) h (λ i y z. x.quiet i (omega arith) z)) x.is;
          quiet = quiet-moves (a + 1) b (omega arith) h x.quiet;
        }

    pub arguments-move : (es : List Expr) (a b b2 z : ℕ) → low ≤ a → z < high → b ≡ b2 → RawArguments g n C S es a b z → RawArguments g p D S es a b2 z
    arguments-move es a b b2 z l h q x =
        let az : a ≤ z = any-on g.m n g.function g.text g.R C a b _ z x.is in
        record {
          is = ap (λ (k : ℕ). any_arguments g.m p g.function g.text g.R D a k) (sym q)
              ∙ any-kept g.m n p np g.function g.text g.R C D a z (agrees a z l (omega arith) x.quiet) a b _ z (omega arith) (omega arith) (mv.ops z (omega arith) h) x.is;
          quiet = quiet-moves a z l (omega arith) x.quiet;
        }

    pub callee-moves : (f : Bool) (i : ℕ) (es : List Expr) → low ≤ i → i < high → goes_by_value (op_at C i) ≡ false → goes_by_place (op_at C i) ≡ false → RawCallee g n C S f i es → RawCallee g p D S f i es
    callee-moves f i es l h v q x = record {
      is = callee_kept g.m n p np g.function g.text g.R C D f i _ _ (mv.values i l h v) x.is;
      among = x.among;
      place = sym (mv.places i l h q) ∙ x.place;
    }

  pub text-moves : (s i j : ℕ) → low ≤ i → i < high → i ≡ j → RawText g n C s i → RawText g p D s j
  text-moves s i j l h q x =
      subst (λ (k : ℕ). RawText g p D s k) q
      (record {
        is = characters-kept g.m n p np g.function g.text g.R C D i _ (mv.values i l h (still-value (op_at C i) x.still)) (mv.places i l h (still-place (op_at C i) x.still)) x.is;
        still = still-moves i l h x.still;
      })

  -- ---- simple statements
  valued-moves : (S : Scopes) (op : ℕ) (e : Expr) (from at to : ℕ) → low ≤ at → at < high → to ≤ high → at < from → goes_by_link op ≡ true → goes_by_value op ≡ false → (op ≡ a_then → ⊥)
      → RawValued g n C S op e from at to out → RawValued g p D S op e from at to on
  valued-moves S op e from at to l h k f t v d x =
      let q : value_at C at ≡ value_at D at = mv.values at l h (ap goes_by_value x.word.is ∙ v) in
      record {
        word = word-moves op at l h t d x.word;
        term = subst (λ (z : ℕ). RawTerm g p D S e from z) q (term-moves S e from (value_at C at) (omega arith) (omega (arith, x.within)) x.term);
        within = subst (λ (z : ℕ). z ≤ to) q x.within;
      }

  module _ (S : Scopes) (at to : ℕ) (l : low ≤ at) (h : at < high) (k : to ≤ high) where
    out_of : (ops : ℕ) → a_target ≤ ops → ops ≤ a_call_target → ops ≤ op_at C at → op_at C at < ops + 4 → link_at C at ≡ out → link_at D at ≡ on
    out_of ops a b c d e = mv.outs at l h (target-link (op_at C at) ops a b c d) (λ q. omega arith) e

    assign-moves : (t : Target) (e : Expr) → RawAssign g n C S t e at to out → RawAssign g p D S t e at to on
    assign-moves t e x =
        let y = x.term in
        let gr : x.b + 1 < x.z = span-grows g.m n C (x.b + 1) x.z _ y.term.is in
        let w = target-on g.m n g.function g.text g.R C a_target at _ x.b x.target.is in
        record {
          b = x.b;
          z = x.z;
          target = target-moves S a_target t at x.b (omega arith) l h (omega (arith, x.within)) x.target;
          term = bound-moves S e x.b x.z (omega arith) (omega (arith, x.within)) y;
          within = x.within;
          leaves = out_of a_target (omega arith) (omega arith) x.target.low x.target.high x.leaves;
        }

    assign-call-moves : (t : Target) (f : ℕ) (es : List Expr) → RawAssignCall g n C S t f es at to out → RawAssignCall g p D S t f es at to on
    assign-call-moves t f es x =
        let w = target-on g.m n g.function g.text g.R C a_call_target at _ x.b x.target.is in
        let v = any-on g.m n g.function g.text g.R C (x.b + 3) (link_at C f) _ x.z x.arguments.is in
        let i : low ≤ f = omega (arith, x.name) in
        let j : f < high = omega (arith, x.name, x.within) in
        record {
          b = x.b;
          z = x.z;
          target = target-moves S a_call_target t at x.b (omega arith) l h (omega (arith, x.within)) x.target;
          callee = callee-moves S true f es i j (still-value (op_at C f) x.still) (still-place (op_at C f) x.still) x.callee;
          name = x.name;
          still = still-moves f i j x.still;
          arguments = arguments-move S es (x.b + 3) (link_at C f) (link_at D f) x.z (omega arith) (omega (arith, x.within)) (mv.links f i j (still-link (op_at C f) x.still)) x.arguments;
          within = x.within;
          leaves = out_of a_call_target (omega arith) (omega arith) x.target.low x.target.high x.leaves;
        }

    call-moves : (q : ℕ) (es : List Expr) → q ≡ at → RawCall g n C S q es at to out → RawCall g p D S q es at to on
    unfolding goes_by_link goes_by_value goes_by_place
    call-moves q es e x =
        let v = any-on g.m n g.function g.text g.R C (at + 1) (link_at C at) _ x.z x.arguments.is in
        let o : op_at C q ≡ a_procedure_call = ap (op_at C) e ∙ x.op in
        record {
          z = x.z;
          op = sym (mv.ops at l h) ∙ x.op;
          callee = callee-moves S false q es (omega arith) (omega arith) (ap goes_by_value o) (ap goes_by_place o) x.callee;
          arguments = arguments-move S es (at + 1) (link_at C at) (link_at D at) x.z (omega arith) (omega (arith, x.within)) (mv.links at l h (ap goes_by_link x.op)) x.arguments;
          closes = word-moves a_close x.z (omega arith) (omega (arith, x.within)) refl (λ z. omega arith) x.closes;
          within = x.within;
        }

    write_moves : (s : ℕ) → RawWrite g n C s at to out → RawWrite g p D s at to on
    unfolding goes_by_link
    write_moves s x = record {
      word = word-moves a_write at l h refl (λ z. omega arith) x.word;
      text = text-moves s (at + 1) (at + 1) (omega arith) (omega (arith, x.within)) refl x.text;
      within = x.within;
    }

    write-of-moves : (s : ℕ) (e : Expr) → RawWriteOf g n C S s e at to out → RawWriteOf g p D S s e at to on
    unfolding goes_by_link goes_by_value
    write-of-moves s e x = record {
      valued = valued-moves S a_write_of e (at + 5) at to l h k (omega arith) refl refl (λ z. omega arith) x.valued;
      text = text-moves s (at + 1) (at + 1) (omega arith) (omega (arith, x.within)) refl x.text;
      within = x.within;
    }

    read-moves : (t : Target) (s : ℕ) → RawRead g n C S t s at to out → RawRead g p D S t s at to on
    unfolding goes_by_link goes_by_value
    read-moves t s x =
        let q : value_at C at ≡ value_at D at = mv.values at l h (ap goes_by_value x.word.is) in
        let w = target-on g.m n g.function g.text g.R C a_target (at + 1) _ x.b x.target.is in
        record {
          word = word-moves a_read at l h refl (λ z. omega arith) x.word;
          b = x.b;
          target = target-moves S a_target t (at + 1) x.b (omega arith) (omega arith) (omega (arith, x.target-within)) (omega (arith, x.target-within)) x.target;
          target-within = x.target-within;
          text = text-moves s (value_at C at) (value_at D at) (omega (arith, x.behind)) (omega (arith, x.within)) q x.text;
          behind = subst (λ (z : ℕ). at < z) q x.behind;
          within = subst (λ (z : ℕ). z < to) q x.within;
        }

    pub does_move : (s : Simple) → first_simple s ≡ at → RawDoes g n C S s at to out → RawDoes g p D S s at to on
    unfolding RawDoes first_simple goes_by_link goes_by_value
    does_move (assign t e) f x = assign-moves t e x
    does_move (assign_call t q es) f x = assign-call-moves t q es x
    does_move (call q es) f x = call-moves q es f x
    does_move (returns i none) f x = record { word = word-moves a_return at l h refl (λ z. omega arith) x.word; no-function = x.no-function }
    does_move (returns i (some e)) f x = record { valued = valued-moves S a_return_of e (at + 1) at to l h k (omega arith) refl refl (λ z. omega arith) x.valued; a-function = x.a-function }
    does_move (raises i none) f x = word-moves a_raise at l h refl (λ z. omega arith) x
    does_move (raises i (some e)) f x = valued-moves S a_raise_of e (at + 1) at to l h k (omega arith) refl refl (λ z. omega arith) x
    does_move (exits i) f x = word-moves an_exit at l h refl (λ z. omega arith) x
    does_move (retries i) f x = word-moves a_retry at l h refl (λ z. omega arith) x
    does_move (tries_next i) f x = word-moves a_try_next at l h refl (λ z. omega arith) x
    does_move (writes i s none) f x = write_moves s x
    does_move (writes i s (some e)) f x = write-of-moves s e x
    does_move (reads i t s) f x = read-moves t s x
