-- One word led on, and the pass over all of them.
use mathlib.Core.Path.{◌≡◌, refl, sym, ap, subst, ◌∙◌}
use mathlib.Core.List.{List}
use Prim.Native.Nat.{ℕ, ◌+◌, ◌-◌, ◌*◌, ◌<◌, ◌≤◌}
use native.Mathlib.Omega.{arith}
use lib.ListN.{length, drop}
use Rattle.laws.proofs.Tests.{by_less, by-same, false-true}
use Rattle.store_cells.specs.Cells.{cells_of}
use Rattle.code.specs.Cells.{op_in, value_in, place_in, link_in, head_at, tail_at, op_at, value_at, place_at, link_at}
use Rattle.code.specs.Steps.{a_target, an_else_if, a_case}
use Rattle.store_writing.specs.Promises.{Rewritten}
use Rattle.store_writing.proofs.Rewriting.{rewritten-length, rewritten-drop, rewritten-head, rewritten-tail, rewritten-heads, rewritten-tails}
use Rattle.check_links.specs.Resolved.{goes_by_link, goes_by_value, goes_by_place, beyond, Follows, Led, Resolved, LedValue, LedPlace, LedLink, Turned}
use Rattle.check_links.proofs.Ops.{link-low, low_value, low-place, beyond-step, beyond-case, beyond-close}
use Rattle.layout.specs.Parts.{value_part, link_part}

-- ---- one word
-- a word of an expression
pub turned-low : (code : List ℕ) (words i op : ℕ) → op ≡ op_at (cells_of code) i → op < a_target → Turned code code words i
turned-low code words i op e h =
    let C = cells_of code in
    let low : op_at C i < a_target = subst (λ (w : ℕ). w < a_target) e h in
    record {
      led = record {
        op = refl;
        value = λ f. refl;
        value_on = λ f. false-true (sym (low_value (op_at C i) low) ∙ f);
        place = λ f. refl;
        place-on = λ f. false-true (sym (low-place (op_at C i) low) ∙ f);
        link = λ f. refl;
        link-then = λ f g k. refl;
        link_on = λ f. false-true (link-low (op_at C i) low ∙ f);
      };
      heads = λ k d. refl;
      tails = λ k d. refl;
      past = refl;
      long = refl;
    }

-- a word whose three parts are known
module _ (op v p l : ℕ) where
  op-of : op < value_part → op_in (op + value_part * v) ≡ op
  op-of h = omega arith

  value_of : op < value_part → value_in (op + value_part * v) ≡ v
  value_of h = omega arith

  place_of : p < link_part → place_in (p + link_part * l) ≡ p
  place_of h = omega arith

  link-of : p < link_part → link_in (p + link_part * l) ≡ l
  link-of h = omega arith

pub turned : (code b : List ℕ) (words i op value place link v p l : ℕ) → words * 8 ≤ length code → i < words → op ≡ op_at (cells_of code) i
    → value ≡ value_at (cells_of code) i → place ≡ place_at (cells_of code) i → link ≡ link_at (cells_of code) i
    → LedValue code words op value v → LedPlace code words op place p → LedLink code words op link l → Rewritten code b i (op + value_part * v) (p + link_part * l) → Turned code b words i
turned code b words i op value place link v p l h g eo ev ep el gv gp gl w =
    let C = cells_of code in
    let D = cells_of b in
    let small : op < value_part = subst (λ (x : ℕ). x < value_part) (sym eo) (below (head_at C i)) in
    let room : i * 8 + 8 ≤ length code = omega arith in
    let hd : head_at D i ≡ op + value_part * v = rewritten-head w room in
    let tl : tail_at D i ≡ p + link_part * l = rewritten-tail w room in
    let o : op_at C i ≡ op = sym eo in
    let vo : value_at C i ≡ value = sym ev in
    let po : place_at C i ≡ place = sym ep in
    let lo : link_at C i ≡ link = sym el in
    let dv : value_at D i ≡ v = ap value_in hd ∙ value_of op v p l small in
    let dp : place_at D i ≡ p = ap place_in tl ∙ place_of op v p l gp.small in
    let dl : link_at D i ≡ l = ap link_in tl ∙ link-of op v p l gp.small in
    record {
      led = record {
        op = ap op_in hd ∙ op-of op v p l small ∙ sym o;
        value = λ f. dv ∙ gv.same (sym (ap goes_by_value o) ∙ f) ∙ sym vo;
        value_on = λ f k. dv ∙ gv.on (sym (ap goes_by_value o) ∙ f) (subst (λ (z : ℕ). z + 1 < words) vo k.inside) ∙ ap (beyond C C) (sym vo);
        place = λ f. dp ∙ gp.same (sym (ap goes_by_place o) ∙ f) ∙ sym po;
        place-on = λ f k. dp ∙ gp.on (sym (ap goes_by_place o) ∙ f) (subst (λ (z : ℕ). z + 1 < words) po k.inside) ∙ ap (beyond C C) (sym po);
        link = λ f. dl ∙ gl.same (sym (ap goes_by_link o) ∙ f) ∙ sym lo;
        link-then = λ f k n. dl ∙ gl.stays (sym o ∙ f) (ap (op_at C) (sym lo) ∙ k) (subst (λ (z : ℕ). z + 1 < words) lo n) ∙ sym lo;
        link_on = λ f d k. dl
            ∙ gl.on (sym (ap goes_by_link o) ∙ f) (λ x y. d (o ∙ x) (ap (op_at C) lo ∙ y)) (subst (λ (z : ℕ). z + 1 < words) lo k.inside)
            ∙ ap (beyond C C) (sym lo);
      };
      heads = rewritten-heads w room;
      tails = rewritten-tails w room;
      past = rewritten-drop w room (words * 8) (omega arith);
      long = rewritten-length w room;
    }
  where
    below : (x : ℕ) → op_in x < value_part
    below x = omega arith

-- ---- stores that say the same
-- Where a list goes on is asked of words behind i alone, or of steps.
pub beyond-same : (C L C2 L2 : List ℕ) (words i z : ℕ) → Follows C words i z → op_at C2 z ≡ op_at C z → ((k : ℕ) → i < k → tail_at L k ≡ tail_at L2 k) → beyond C L z ≡ beyond C2 L2 z
beyond-same C L C2 L2 words i z f o same =
    by_less (op_at C z) an_else_if
    (λ h. beyond-step C L z h ∙ sym (beyond-step C2 L2 z (omega arith)))
    (λ h. let behind : i < z = by_less i z (λ k. k) (λ k. absurd (omega (arith, f.forward k))) in
    by-same (op_at C z) a_case
    (λ e. beyond-case C L z e ∙ ap link_in (same (z + 1) (omega arith)) ∙ sym (beyond-case C2 L2 z (o ∙ e)))
    (λ d. beyond-close C L z h d ∙ ap link_in (same z behind) ∙ sym (beyond-close C2 L2 z (omega arith) (λ e. d (sym o ∙ e)))))

-- A word that is led on by links of L is led on by those of L2 that say the same.
led-change : (C L D C2 L2 D2 : List ℕ) (words i : ℕ) → head_at C2 i ≡ head_at C i → tail_at C2 i ≡ tail_at C i → head_at D2 i ≡ head_at D i → tail_at D2 i ≡ tail_at D i
    → ((z : ℕ) → z + 1 < words → op_at C2 z ≡ op_at C z) → ((k : ℕ) → i < k → tail_at L k ≡ tail_at L2 k) → Led C L D words i → Led C2 L2 D2 words i
led-change C L D C2 L2 D2 words i hc tc hd td ops same x =
    let vo : value_at C2 i ≡ value_at C i = ap value_in hc in
    let po : place_at C2 i ≡ place_at C i = ap place_in tc in
    let lo : link_at C2 i ≡ link_at C i = ap link_in tc in
    let o : op_at C2 i ≡ op_at C i = ap op_in hc in
    record {
      op = ap op_in hd ∙ x.op ∙ sym o;
      value = λ f. ap value_in hd ∙ x.value (sym (ap goes_by_value o) ∙ f) ∙ sym vo;
      value_on = λ f k. ap value_in hd ∙ x.value_on (sym (ap goes_by_value o) ∙ f) (back (value_at C2 i) (value_at C i) vo k) ∙ on (value_at C2 i) (value_at C i) vo k;
      place = λ f. ap place_in td ∙ x.place (sym (ap goes_by_place o) ∙ f) ∙ sym po;
      place-on = λ f k. ap place_in td ∙ x.place-on (sym (ap goes_by_place o) ∙ f) (back (place_at C2 i) (place_at C i) po k) ∙ on (place_at C2 i) (place_at C i) po k;
      link = λ f. ap link_in td ∙ x.link (sym (ap goes_by_link o) ∙ f) ∙ sym lo;
      link-then = λ f e n. ap link_in td ∙ x.link-then (sym o ∙ f) (to-op lo n ∙ e) (subst (λ (z : ℕ). z + 1 < words) lo n) ∙ sym lo;
      link_on = λ f d k. ap link_in td
          ∙ x.link_on (sym (ap goes_by_link o) ∙ f) (λ p q. d (o ∙ p) (sym (to-op lo k.inside) ∙ q)) (back (link_at C2 i) (link_at C i) lo k)
          ∙ on (link_at C2 i) (link_at C i) lo k;
    }
  where
    to-op : {z y : ℕ} → z ≡ y → z + 1 < words → op_at C y ≡ op_at C2 z
    to-op {z} {y} e h = ap (op_at C) (sym e) ∙ sym (ops z h)

    back : (z y : ℕ) → z ≡ y → Follows C2 words i z → Follows C words i y
    back z y e k = subst (Follows C words i) e (record { inside = k.inside; forward = λ h. subst (λ (o : ℕ). o < an_else_if) (ops z k.inside) (k.forward h) })

    on : (z y : ℕ) → z ≡ y → Follows C2 words i z → beyond C L y ≡ beyond C2 L2 z
    on z y e k = ap (beyond C L) (sym e) ∙ beyond-same C L C2 L2 words i z (back z z refl k) (ops z k.inside) same

-- ---- the pass
-- Words from i on are led on by the links as they are by now; those before are as they were.
pub record Passing (before code : List ℕ) (words i : ℕ) : Type 0 where
  pub within : i ≤ words
  pub done : (k : ℕ) → i ≤ k → k < words → Led (cells_of before) (cells_of code) (cells_of code) words k
  pub heads : (k : ℕ) → k < i → head_at (cells_of code) k ≡ head_at (cells_of before) k
  pub tails : (k : ℕ) → k < i → tail_at (cells_of code) k ≡ tail_at (cells_of before) k
  pub past : drop (words * 8) code ≡ drop (words * 8) before
  pub long : length code ≡ length before

pub passing-start : (before : List ℕ) (words : ℕ) → Passing before before words words
passing-start before words = record { within = omega arith; done = λ k h g. absurd (omega arith); heads = λ k h. refl; tails = λ k h. refl; past = refl; long = refl }

pub passing-on : (before code after : List ℕ) (words i : ℕ) → Passing before code words i → 0 < i → Turned code after words (i - 1) → Passing before after words (i - 1)
passing-on before code after words i p h t =
    let C = cells_of before in
    let D = cells_of code in
    let E = cells_of after in
    let ops : (z : ℕ) → z + 1 < words → op_at C z ≡ op_at D z = λ z g. by_less z i (λ k. ap op_in (sym (p.heads z k))) (λ k. sym (p.done z k (omega arith)).op) in
    record {
      within = omega (arith, p.within);
      done = λ k g b. by-same k (i - 1)
          (λ e. subst (λ (j : ℕ). Led C E E words j) (sym e)
          (led-change D D E C E E words (i - 1) (sym (p.heads (i - 1) (omega arith))) (sym (p.tails (i - 1) (omega arith))) refl refl ops (λ j l. sym (t.tails j (λ q. omega arith))) t.led))
          (λ d. led-change C D D C E E words k refl refl (t.heads k d) (t.tails k d) (λ z l. refl) (λ j l. sym (t.tails j (λ q. omega arith)))
          (p.done k (by_less k i (λ l. absurd (d (omega arith))) (λ l. l)) b));
      heads = λ k g. t.heads k (λ q. omega arith) ∙ p.heads k (omega arith);
      tails = λ k g. t.tails k (λ q. omega arith) ∙ p.tails k (omega arith);
      past = t.past ∙ p.past;
      long = t.long ∙ p.long;
    }

pub passing-end : (before code : List ℕ) (words i : ℕ) → Passing before code words i → i ≤ 0 → Resolved before code words
passing-end before code words i p h = record { led = λ k g. p.done k (omega arith) g; past = p.past; long = p.long }
