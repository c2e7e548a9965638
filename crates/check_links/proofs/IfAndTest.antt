-- What a run reads of the choices of an IF and of a TEST, once words are resolved.
use mathlib.Core.Path.{◌≡◌, refl, sym, ap, ap₂, ◌∙◌}
use mathlib.Core.Bool.{true, false}
use mathlib.Core.List.{List, [], ◌∷◌, map}
use mathlib.Core.Option.{Option, none, some}
use Prim.Native.Nat.{ℕ, zero, suc, ◌+◌, ◌-◌, ◌<◌, ◌≤◌}
use native.Mathlib.Omega.{arith}
use lib.Dec.{eqb}
use lib.IntN.{ℤ, pos, ◌-ℤ◌}
use borrow.Author.Tests.{eq-eqb, ne_eqb}
use Rattle.paper.specs.Terms.{Term}
use Rattle.paper.specs.Trees.{Expr, Statements, Arms, Cases, no_arm, arm, no_case, case}
use Rattle.paper.specs.Names.{Scopes}
use Rattle.paper.specs.Types.{term_of, constant_value}
use Rattle.paper.specs.Checks.{fors_in_list}
use Rattle.paper.specs.Steps.{begin, conditions, constants}
use Rattle.code.specs.Cells.{op_at, value_at, place_at, link_at}
use Rattle.code.specs.Spans.{◌then◌, bias, term_in}
use Rattle.code.specs.Steps.{an_else_if, a_case, a_next_value, a_then, an_otherwise, parts, constant_at, conditions_in, values_in, cases_in}
use Rattle.code.proofs.Options.{goes, guards}
use Rattle.check_links.specs.Resolved.{goes_by_link, goes_by_value, goes_by_place, Led}
use Rattle.check_links.specs.Raw.{Ground, RawTerm, RawValues, RawConstants, NoMore, Begins, RawArms, RawCases}
use Rattle.check_links.proofs.Moving.{term-moves}
use Rattle.check_links.proofs.Orders.{list-order, cases_order, arms-order, term-order}
use Rattle.check_links.proofs.ResolvedWords.{Goes, op_same, value_same, link-same, value-goes, place-goes, link-goes, moves, list-goes, arms-go, cases-go}

module _ (g : Ground) (n : ℕ) (C D : List ℕ) (words : ℕ) (led : (i : ℕ) → i < words → Led C D D words i) where
  -- an expression of a statement that ends at `to`
  pub term-reads : (S : Scopes) (e : Expr) (a b to after : ℕ) → b ≤ to → Goes C D words to after → RawTerm g n C S e a b → term_in g.m n D a b ≡ some (term_of g.W S e)
  term-reads S e a b to after h x t =
      (term-moves g n n (omega arith) C D a b to after (moves C D words led a b to after h x) S e a b (omega arith) (omega arith) t).is

  -- ---- the conditions of an IF
  abbrev Conditions : Type 0
  Conditions = Option (List (Term × ℕ) × ℕ)

  -- a condition that leads to a list, and those that follow where its THEN leads
  unfoldable from_then : (fuel : ℕ) → Term → (list leads : ℕ) → Conditions
  from_then fuel e v l =
      elim (eqb (op_at D l) an_else_if) [
        | true ↦ conditions_in g.m n g.function g.text g.R D fuel l (value_at D l) then (λ r. some ((e, v) ∷ r.0, r.1))
        | false ↦ some ((e, v) ∷ [], l)
      ]

  from_last : (fuel : ℕ) (e : Term) (v l : ℕ) → (op_at D l ≡ an_else_if → ⊥) → from_then fuel e v l ≡ some ((e, v) ∷ [], l)
  unfolding from_then
  from_last fuel e v l h = rw (ne_eqb (op_at D l) an_else_if h, from_then)

  from_next : (fuel : ℕ) (e : Term) (v l : ℕ) (r : List (Term × ℕ)) (o : ℕ) → op_at D l ≡ an_else_if
      → conditions_in g.m n g.function g.text g.R D fuel l (value_at D l) ≡ some (r, o) → from_then fuel e v l ≡ some ((e, v) ∷ r, o)
  unfolding from_then
  from_next fuel e v l r o h q =
      rw (eq-eqb (op_at D l) an_else_if h, from_then)
      (goes (conditions_in g.m n g.function g.text g.R D fuel l (value_at D l)) (λ r. some ((e, v) ∷ r.0, r.1)) (r, o) q)

  from-condition : (fuel i t v : ℕ) (e : Term) → term_in g.m n D (i + 1) t ≡ some e → value_at D t ≡ v
      → conditions_in g.m n g.function g.text g.R D (suc fuel) i t ≡ from_then fuel e v (link_at D t)
  unfolding conditions_in from_then
  from-condition fuel i t v e h q =
      goes (term_in g.m n D (i + 1) t) (λ e. from_then fuel e (value_at D t) (link_at D t)) e h
      ∙ ap (λ (w : ℕ). from_then fuel e w (link_at D t)) q

  module _ (first last after otherwise : ℕ) (x : Goes C D words last after) (y : Goes C D words first otherwise) (f : last ≤ first) (not-arm : op_at C first ≡ an_else_if → ⊥) where
    -- a condition, its THEN, and what comes then
    arm-reads : (e : Expr) (b : Statements) (r : Arms) (S : Scopes) (used : ℕ) (before : Option ℕ) (c fuel : ℕ) (z : RawArms g n C (arm e b r) S used first before c last)
        → ((v : ℕ) (t : Term) → from_then fuel t v (link_at D (value_at C c)) ≡ some ((t, v) ∷ conditions g.W S r after, otherwise))
        → conditions_in g.m n g.function g.text g.R D (suc fuel) c (value_at C c) ≡ some (conditions g.W S (arm e b r) after, otherwise)
    unfolding RawArms conditions goes_by_value
    arm-reads e b r S used before c fuel z rest =
        let q = term-order g n C S e (c + 1) z.t z.term in
        let p = list-order g n C b S used (z.t + 1) z.y z.list in
        let k = arms-order g n C r S (used + fors_in_list b) first (some z.t) z.y last z.rest in
        let w = x.inside in
        let on = list-goes C D words led g n b S used (z.t + 1) z.y after z.list (arms-go C D words led g n r S (used + fors_in_list b) first z.t z.y last after z.rest x) in
        ap (conditions_in g.m n g.function g.text g.R D (suc fuel) c) z.value
        ∙ from-condition fuel c z.t (begin b after) (term_of g.W S e)
        (term-reads S e (c + 1) z.t last after (omega arith) x z.term)
        (value-goes C D words led a_then z.t (omega arith) z.then-op (z.t + 1) (begin b after) refl z.then-value (omega arith) on)
        ∙ ap (λ (l : ℕ). from_then fuel (term_of g.W S e) (begin b after) (link_at D l)) (sym z.value)
        ∙ rest (begin b after) (term_of g.W S e)

    -- from a THEN on, whose list c closes
    arms-read : (a : Arms) (S : Scopes) (used t c fuel v : ℕ) (e : Term) → RawArms g n C a S used first (some t) c last → t < c → op_at C t ≡ a_then → last - c < fuel
        → from_then fuel e v (link_at D t) ≡ some ((e, v) ∷ conditions g.W S a after, otherwise)
    unfolding RawArms NoMore Begins conditions goes_by_link goes_by_value
    arms-read no_arm S used t c fuel v e z tc o h =
        let l : link_at D t ≡ otherwise =
        link-goes C D words led a_then t (omega (arith, x.inside, z.is_last)) o first otherwise refl (λ p q. not-arm q) z.then-leaves (λ k. absurd (omega (arith, z.is_last))) y in
        ap (from_then fuel e v) l ∙ from_last fuel e v otherwise (λ q. omega (arith, op_same C D words led otherwise y.room, y.step))
    arms-read (arm e2 b r) S used t c zero v e z tc o h = absurd (omega arith)
    arms-read (arm e2 b r) S used t c (suc fuel) v e z tc o h =
        let q = term-order g n C S e2 (c + 1) z.t z.term in
        let p = list-order g n C b S used (z.t + 1) z.y z.list in
        let k = arms-order g n C r S (used + fors_in_list b) first (some z.t) z.y last z.rest in
        let cw : c + 1 < words = omega (arith, x.inside) in
        let l : link_at D t ≡ c = (led t (omega arith)).link-then o (ap (op_at C) z.begins.then-leaves ∙ z.begins.word.is) (omega (arith, z.begins.then-leaves)) ∙ z.begins.then-leaves in
        let oc : op_at D c ≡ an_else_if = op_same C D words led c (omega arith) ∙ z.begins.word.is in
        let vc : value_at D c ≡ value_at C c = value_same C D words led an_else_if c (omega arith) z.begins.word.is refl in
        ap (from_then (suc fuel) e v) l
        ∙ from_next (suc fuel) e v c _ otherwise oc
        (ap (conditions_in g.m n g.function g.text g.R D (suc fuel) c) vc
        ∙ arm-reads e2 b r S used (some t) c fuel z (λ v e. ap (λ (l : ℕ). from_then fuel e v (link_at D l)) z.value
        ∙ arms-read r S (used + fors_in_list b) z.t z.y fuel v e z.rest (omega arith) z.then-op (omega arith)))

    pub conditions-read : (a : Arms) (S : Scopes) (used c : ℕ) → RawArms g n C a S used first none c last → words ≤ parts
        → conditions_in g.m n g.function g.text g.R D parts c (value_at C c) ≡ some (conditions g.W S a after, otherwise)
    unfolding RawArms NoMore
    conditions-read no_arm S used c z h = absurd z
    conditions-read (arm e b r) S used c z h =
        let q = term-order g n C S e (c + 1) z.t z.term in
        let p = list-order g n C b S used (z.t + 1) z.y z.list in
        arm-reads e b r S used none c 8191 z (λ v t. ap (λ (l : ℕ). from_then 8191 t v (link_at D l)) z.value
        ∙ arms-read r S (used + fors_in_list b) z.t z.y 8191 v t z.rest (omega arith) z.then-op
        (omega (arith, x.inside)))

  -- ---- the values of a TEST
  constant-same : (op v : ℕ) → v < words → op_at C v ≡ op → goes_by_value op ≡ false → constant_at D v ≡ constant_at C v
  unfolding constant_at
  constant-same op v h o f = ap (λ (k : ℕ). pos k -ℤ pos bias) (value_same C D words led op v h o f)

  module _ (fuel step i : ℕ) where
    values-done : (op_at D i ≡ a_next_value → ⊥) → values_in g.m n g.function g.text g.R D (suc fuel) step i ≡ some ([], i)
    unfolding values_in
    values-done h = rw (ne_eqb (op_at D i) a_next_value h, values_in)

    values-next : (k : ℤ) (ks : List ℤ) (next : ℕ) → op_at D i ≡ a_next_value → place_at D i ≡ step → constant_at D i ≡ k
        → values_in g.m n g.function g.text g.R D fuel step (link_at D i) ≡ some (ks, next) → values_in g.m n g.function g.text g.R D (suc fuel) step i ≡ some (k ∷ ks, next)
    unfolding values_in
    values-next k ks next o p c e =
        rw (eq-eqb (op_at D i) a_next_value o, values_in) (rw (eq-eqb (place_at D i) step p)
        (goes (values_in g.m n g.function g.text g.R D fuel step (link_at D i)) (λ r. some (constant_at D i ∷ r.0, r.1)) (ks, next) e
        ∙ ap (λ (c : ℤ). some (c ∷ ks, next)) c))

    -- the cases from a word on
    cases_done : op_at D i ≡ an_otherwise → place_at D i ≡ step → cases_in g.m n g.function g.text g.R D (suc fuel) i ≡ some ([], step)
    unfolding cases_in
    cases_done o p =
        let none : (q : ℕ) → List (List ℤ × ℕ) × ℕ = λ q. ([], q) in
        rw (ne_eqb (op_at D i) a_case (λ q. omega arith), cases_in) (guards (eqb (op_at D i) an_otherwise) (none (place_at D i)) (none step) (eq-eqb (op_at D i) an_otherwise o) (ap none p))

    cases_next : (k : ℤ) (ks : List ℤ) (next other : ℕ) (r : List (List ℤ × ℕ)) → op_at D i ≡ a_case → place_at D i ≡ step → constant_at D i ≡ k
        → values_in g.m n g.function g.text g.R D parts step (link_at D i) ≡ some (ks, next) → cases_in g.m n g.function g.text g.R D fuel next ≡ some (r, other)
        → cases_in g.m n g.function g.text g.R D (suc fuel) i ≡ some ((k ∷ ks, step) ∷ r, other)
    unfolding cases_in
    cases_next k ks next other r o p c e f =
        rw (eq-eqb (op_at D i) a_case o, cases_in)
        (goes (values_in g.m n g.function g.text g.R D parts (place_at D i) (link_at D i))
        (λ v. cases_in g.m n g.function g.text g.R D fuel v.1 then (λ r. some ((constant_at D i ∷ v.0, place_at D i) ∷ r.0, r.1))) (ks, next)
        (ap (λ (q : ℕ). values_in g.m n g.function g.text g.R D parts q (link_at D i)) p ∙ e)
        ∙ goes (cases_in g.m n g.function g.text g.R D fuel next) (λ r. some ((constant_at D i ∷ ks, place_at D i) ∷ r.0, r.1)) (r, other) f
        ∙ ap₂ (λ (c : ℤ) (q : ℕ). some ((c ∷ ks, q) ∷ r, other)) c p)

  module _ (S : Scopes) (first next step : ℕ) (x : Goes C D words first step) (nw : next < words) (no : op_at C next ≡ a_next_value → ⊥) where
    values-read : (es : List Expr) (op w fuel : ℕ) → RawValues g n C S es first next w → w < first → op_at C w ≡ op → goes_by_link op ≡ false → first - w ≤ fuel
        → values_in g.m n g.function g.text g.R D fuel step (link_at D w) ≡ some (map (constant_value g.W S g.M) es, next)
    unfolding RawValues goes_by_link goes_by_value goes_by_place
    values-read es op w zero z h o f k = absurd (omega arith)
    values-read [] op w (suc fuel) z h o f k =
        ap (values_in g.m n g.function g.text g.R D (suc fuel) step) (link-same C D words led op w (omega (arith, x.inside)) o f ∙ z)
        ∙ values-done fuel step next (λ q. no (sym (op_same C D words led next nw) ∙ q))
    values-read (e ∷ es) op w (suc fuel) z h o f k =
        let vw : z.v < words = omega (arith, x.inside, z.before) in
        ap (values_in g.m n g.function g.text g.R D (suc fuel) step) (link-same C D words led op w (omega (arith, x.inside)) o f ∙ z.leaves)
        ∙ values-next fuel step z.v _ _ next (op_same C D words led z.v vw ∙ z.op)
        (place-goes C D words led a_next_value z.v vw z.op first step refl z.place z.before x)
        (constant-same a_next_value z.v vw z.op refl ∙ z.constant)
        (values-read es a_next_value z.v fuel z.rest z.before z.op refl (omega (arith, z.on, z.before)))

  module _ (last after other : ℕ) (x : Goes C D words last after) (o : op_at C last ≡ an_otherwise) (p : place_at D last ≡ other) (h : words ≤ parts) where
    cases-op : (c : Cases) (S : Scopes) (used at : ℕ) → RawCases g n C c S used at last → op_at C at ≡ a_next_value → ⊥
    unfolding RawCases
    cases-op no_case S used at z q = let y = ap (op_at C) z in omega arith
    cases-op (case es b r) S used at z q = omega (arith, z.op)

    pub cases-read : (c : Cases) (S : Scopes) (used at fuel : ℕ) → RawCases g n C c S used at last → last - at < fuel
        → cases_in g.m n g.function g.text g.R D fuel at ≡ some (constants g.W S g.M c after, other)
    unfolding RawCases RawConstants constants goes_by_link goes_by_value goes_by_place
    cases-read c S used at zero z k = absurd (omega arith)
    cases-read no_case S used at (suc fuel) z k =
        cases_done fuel other at (ap (op_at D) z ∙ op_same C D words led last (omega (arith, x.inside)) ∙ o) (ap (place_at D) z ∙ p)
    cases-read (case [] b r) S used at (suc fuel) z k = absurd z.values
    cases-read (case (e ∷ es) b r) S used at (suc fuel) z k =
        let q = list-order g n C b S used z.first z.next z.list in
        let y = cases_order g n C r S (used + fors_in_list b) z.next last z.rest in
        let aw : at < words = omega (arith, x.inside, z.before) in
        let on = list-goes C D words led g n b S used z.first z.next after z.list (cases-go C D words led g n r S (used + fors_in_list b) z.next last after z.rest x) in
        cases_next fuel (begin b after) at _ _ z.next other _ (op_same C D words led at aw ∙ z.op)
        (place-goes C D words led a_case at aw z.op z.first (begin b after) refl z.place (omega (arith, z.before)) on)
        (constant-same a_case at aw z.op refl ∙ z.values.0)
        (values-read S z.first z.next (begin b after) on (omega (arith, x.inside)) (cases-op r S (used + fors_in_list b) z.next z.rest)
        es a_case at parts z.values.1 (omega (arith, z.before)) z.op refl (omega (arith, x.inside)))
        (cases-read r S (used + fors_in_list b) z.next fuel z.rest (omega (arith, z.before)))
