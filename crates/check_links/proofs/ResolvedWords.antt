-- Where words lead once they are resolved.
use mathlib.Core.Path.{◌≡◌, refl, sym, ap, subst, ◌∙◌}
use mathlib.Core.Bool.{true, false}
use mathlib.Core.List.{List}
use mathlib.Core.Option.{some}
use Prim.Native.Nat.{ℕ, ◌+◌, ◌<◌, ◌≤◌}
use native.Mathlib.Omega.{arith}
use Rattle.paper.specs.Trees.{Statements, Arms, Cases, empty, ◌then◌, no_arm, arm, no_case, case}
use Rattle.paper.specs.Names.{Scopes}
use Rattle.paper.specs.Checks.{fors_in_list}
use Rattle.paper.specs.Steps.{begin}
use Rattle.code.specs.Cells.{op_at, value_at, place_at, link_at}
use Rattle.code.specs.Steps.{an_else_if, a_case, a_then, a_pass}
use Rattle.check_links.specs.Resolved.{goes_by_link, goes_by_value, goes_by_place, beyond, Follows, Led}
use Rattle.check_links.specs.Raw.{Ground, RawWord, LastOf, an-else, no-else, Ends, at_once, closed, NoMore, Begins, RawList, RawArms, RawCases}
use Rattle.check_links.proofs.Ops.{beyond-step, beyond-case, beyond-close}
use Rattle.check_links.proofs.Moving.{Moves}
use Rattle.check_links.proofs.Orders.{begins, list-order, term-order}

-- a list that ends at z goes on at the step `after`
pub record Goes (C D : List ℕ) (words z after : ℕ) : Type 0 where
  pub inside : z + 1 < words
  pub is : beyond C D z ≡ after
  pub step : op_at C after < an_else_if
  pub room : after < words

-- C as the walk left it, D resolved.
module _ (C D : List ℕ) (words : ℕ) (led : (i : ℕ) → i < words → Led C D D words i) where
  abbrev To : ℕ → ℕ → Type 0
  To z after = Goes C D words z after

  -- ---- words
  pub op_same : (i : ℕ) → i < words → op_at D i ≡ op_at C i
  op_same i h = (led i h).op

  module _ (op i : ℕ) (h : i < words) (o : op_at C i ≡ op) where
    pub value_same : goes_by_value op ≡ false → value_at D i ≡ value_at C i
    value_same f = (led i h).value (ap goes_by_value o ∙ f)

    pub place_same : goes_by_place op ≡ false → place_at D i ≡ place_at C i
    place_same f = (led i h).place (ap goes_by_place o ∙ f)

    pub link-same : goes_by_link op ≡ false → link_at D i ≡ link_at C i
    link-same f = (led i h).link (ap goes_by_link o ∙ f)

    pub value-goes : (z after : ℕ) → goes_by_value op ≡ true → value_at C i ≡ z → i < z → To z after → value_at D i ≡ after
    value-goes z after f e l x =
        (led i h).value_on (ap goes_by_value o ∙ f) (subst (Follows C words i) (sym e) (record { inside = x.inside; forward = λ k. absurd (omega arith) })) ∙ ap (beyond C D) e ∙ x.is

    pub place-goes : (z after : ℕ) → goes_by_place op ≡ true → place_at C i ≡ z → i < z → To z after → place_at D i ≡ after
    place-goes z after f e l x =
        (led i h).place-on (ap goes_by_place o ∙ f) (subst (Follows C words i) (sym e) (record { inside = x.inside; forward = λ k. absurd (omega arith) })) ∙ ap (beyond C D) e ∙ x.is

    pub link-goes : (z after : ℕ) → goes_by_link op ≡ true → (op ≡ a_then → op_at C z ≡ an_else_if → ⊥) → link_at C i ≡ z → (z ≤ i → op_at C z < an_else_if) → To z after → link_at D i ≡ after
    link-goes z after f d e l x =
        (led i h).link_on (ap goes_by_link o ∙ f) (λ p q. d (sym o ∙ p) (ap (op_at C) (sym e) ∙ q)) (subst (Follows C words i) (sym e) (record { inside = x.inside; forward = l }))
        ∙ ap (beyond C D) e ∙ x.is

  -- a word that leads forward, and is no THEN
  pub word-goes : (op i z after : ℕ) → goes_by_link op ≡ true → (op ≡ a_then → ⊥) → RawWord C op i z → i < z → To z after → link_at D i ≡ after
  word-goes op i z after f d w l x = link-goes op i (omega (arith, x.inside)) w.is z after f (λ p q. d p) w.leaves (λ k. absurd (omega arith)) x

  -- a word that closes a list goes on where it leads
  pub pass-goes : (op i z after : ℕ) → goes_by_link op ≡ true → an_else_if ≤ op → (op ≡ a_case → ⊥) → (op ≡ a_then → ⊥) → RawWord C op i z → i < z → To z after → To i after
  pass-goes op i z after f m c d w l x = record {
    inside = omega (arith, x.inside);
    is = beyond-close C D i (omega (arith, w.is)) (λ q. c (sym w.is ∙ q)) ∙ word-goes op i z after f d w l x;
    step = x.step;
    room = x.room;
  }

  -- a step is where it is
  pub step-goes : (i : ℕ) → i + 1 < words → op_at C i < an_else_if → To i i
  step-goes i h o = record { inside = h; is = beyond-step C D i o; step = o; room = omega arith }

  pub moves : (a b out on : ℕ) → b ≤ out → To out on → Moves C D a b out on
  moves a b out on h x = record {
    ops = λ i l k. sym (led i (omega (arith, x.inside))).op;
    values = λ i l k f. sym ((led i (omega (arith, x.inside))).value f);
    places = λ i l k f. sym ((led i (omega (arith, x.inside))).place f);
    links = λ i l k f. sym ((led i (omega (arith, x.inside))).link f);
    outs = λ i l k f d e. link-goes (op_at C i) i (omega (arith, x.inside)) refl out on f (λ p q. d p) e (λ j. absurd (omega arith)) x;
  }

  pub ends-go : (z to after : ℕ) → Ends C z to → To to after → To z after
  unfolding goes_by_link
  ends-go z to after (at_once e) x = subst (λ (k : ℕ). To k after) (sym e) x
  ends-go z to after (closed w e) x = pass-goes a_pass z to after refl (omega arith) (λ q. omega arith) (λ q. omega arith) w (omega arith) x

  -- ---- lists
  module _ (g : Ground) (n : ℕ) where
    -- what leads to where a list begins leads to its first step, or to what comes after it
    pub list-goes : (l : Statements) (S : Scopes) (used at to after : ℕ) → RawList g n C l S used at to → To to after → To at (begin l after)
    unfolding RawList begin
    list-goes empty S used at to after x y = subst (λ (k : ℕ). To k after) (sym x) y
    list-goes (s then r) S used at to after x y =
        let b = begins g n C s S used at x.mid x.first in
        let o = list-order g n C (s then r) S used at to x in
        subst (To at) (sym b.name) (step-goes at (omega (arith, y.inside)) b.op)

    -- what closes the last list of arms
    pub last_goes : (last first z to after : ℕ) → LastOf C last first z → first ≤ z → RawWord C a_pass z to → to ≡ z + 1 → To to after → To last after
    unfolding goes_by_link
    last_goes last first z to after (an-else w e) o v q x =
        pass-goes a_pass last z after refl (omega arith) (λ k. omega arith) (λ k. omega arith) w (omega arith)
        (pass-goes a_pass z to after refl (omega arith) (λ k. omega arith) (λ k. omega arith) v (omega arith) x)
    last_goes last first z to after (no-else d e) o v q x =
        subst (λ (k : ℕ). To k after) (sym d) (pass-goes a_pass z to after refl (omega arith) (λ k. omega arith) (λ k. omega arith) v (omega arith) x)

    -- what closes an arm's list
    pub arms-go : (a : Arms) (S : Scopes) (used first t c last after : ℕ) → RawArms g n C a S used first (some t) c last → To last after → To c after
    unfolding RawArms NoMore Begins goes_by_link
    arms-go no_arm S used first t c last after x y = subst (λ (k : ℕ). To k after) (sym x.is_last) y
    arms-go (arm e b r) S used first t c last after x y =
        let o = term-order g n C S e (c + 1) x.t x.term in
        let q = list-order g n C b S used (x.t + 1) x.y x.list in
        pass-goes an_else_if c x.y after refl (omega arith) (λ k. omega arith) (λ k. omega arith) x.begins.word (omega arith)
        (arms-go r S (used + fors_in_list b) first x.t x.y last after x.rest y)

    -- what closes a case's list
    pub cases-go : (c : Cases) (S : Scopes) (used at last after : ℕ) → RawCases g n C c S used at last → To last after → To at after
    unfolding RawCases goes_by_link
    cases-go no_case S used at last after x y = subst (λ (k : ℕ). To k after) (sym x) y
    cases-go (case es b r) S used at last after x y =
        let o = list-order g n C b S used x.first x.next x.list in
        let z = cases-go r S (used + fors_in_list b) x.next last after x.rest y in
        record {
          inside = omega (arith, x.before, z.inside);
          is = beyond-case C D at x.op ∙ word-goes a_pass (at + 1) x.next after refl (λ k. omega arith) x.behind (omega (arith, x.before)) z;
          step = z.step;
          room = z.room;
        }
