-- TEST: the words with its values are walked along, up to one with the value, or to what follows them.
use mathlib.Core.Path.{◌≡◌, refl, sym, ap, ap₂, subst, ◌∙◌}
use mathlib.Core.Bool.{Bool, true, false, not}
use mathlib.Core.List.{List, [], ◌∷◌}
use mathlib.Core.Option.{Option, some}
use Prim.Native.Nat.{ℕ, zero, suc, ◌+◌, ◌-◌, ◌*◌, ◌/◌, ◌%◌, ◌<◌, ◌≤◌}
use native.Mathlib.Omega.{arith}
use lib.Dec.{eqb}
use lib.ListN.{length}
use lib.IntN.{ℤ, pos, ◌+ℤ◌, ◌-ℤ◌, +ℤ-neg_ℤ_cancel, -ℤ-+ℤ_cancel}
use mir.Syntax.{w32, w64}
use mir.Val.{SFits, of_z}
use mir.Facts.{to_z-of_z}
use borrow.Author.Tests.{eq-eqb, ne_eqb, eqb-true}
use Rattle.laws.proofs.Tests.{test, by-same}
use Rattle.paper.specs.Numbers.{same}
use Rattle.paper.specs.Running.{holds, matching}
use Rattle.store_cells.specs.Cells.{cells_of}
use Rattle.store_numbers.proofs.Whole.{read, bits-same, minus-cases}
use Rattle.code.specs.Cells.{op_in, value_in, head_at, op_at, place_at, link_at}
use Rattle.code.specs.Spans.{◌then◌, bias}
use Rattle.code.specs.Steps.{Head, parts, a_case, a_next_value, an_otherwise, constant_at, values_in, cases_in}
use Rattle.code.proofs.Options.{none-some, guarded, went}
use Rattle.store_evaluation.proofs.Places.{op-in}
use Rattle.store_evaluation.proofs.Numbers.{same_bits}
use Rattle.store_evaluation.proofs.Operators.{sum_fits}
use Rattle.store_reading.specs.Reading.{half_end, value_end, Part, cell_values}
use Rattle.run_cases.specs.Cases.{Cases, Matches}
use Rattle.run_machine.proofs.Actions.{first-is, second_is}
use Rattle.run_machine.proofs.Hops.{hops, hops-on, hops-end, hops-more, hops-less}

-- ---- the measure
unfoldable pub further : List ℕ → ℕ → Bool
further C j = not (eqb (op_at C j) an_otherwise)

-- as many words as there can be: a list of values, and then lists of cases with their values
abbrev pub most : ℕ
most = suc (parts + parts * parts)

abbrev pub words_left : List ℕ → ℕ → ℕ
words_left code j = hops (further (cells_of code)) (link_at (cells_of code)) most j

module _ (m n : ℕ) (function : Bool) (text : List ℕ) (R : List Head) (C : List ℕ) where
  abbrev values : (fuel step i : ℕ) → Option (List ℤ × ℕ)
  values f step i = values_in m n function text R C f step i

  abbrev cases : (fuel i : ℕ) → Option (List (List ℤ × ℕ) × ℕ)
  cases f i = cases_in m n function text R C f i

  -- ---- values
  module _ (step i : ℕ) (vs : List ℤ) (k : ℕ) where
    record Another (f : ℕ) : Type 0 where
      pub place_is : place_at C i ≡ step
      pub rest : List ℤ
      pub vs-is : vs ≡ constant_at C i ∷ rest
      pub more : values f step (link_at C i) ≡ some (rest, k)

    another : (f : ℕ) → values (suc f) step i ≡ some (vs, k) → op_at C i ≡ a_next_value → Another f
    unfolding values_in
    another f e h =
        let q = rw (eq-eqb (op_at C i) a_next_value h, values_in) at e in
        test (eqb (place_at C i) step)
        (λ t.
        let g = went (values f step (link_at C i)) (λ r. some (constant_at C i ∷ r.0, r.1)) (vs, k) (rw t at q) in
        record {
          place_is = eqb-true (place_at C i) step t;
          rest = g.a.0;
          vs-is = first-is (constant_at C i ∷ g.a.0) g.a.1 (vs, k) g.next;
          more = g.first ∙ ap (λ (x : ℕ). some (g.a.0, x)) (sym (second_is (constant_at C i ∷ g.a.0) g.a.1 (vs, k) g.next));
        })
        (λ t. none-some (vs, k) (rw t at q))

    record NoOther : Type 0 where
      pub vs-is : vs ≡ []
      pub k-is : k ≡ i

    no_other : (f : ℕ) → values (suc f) step i ≡ some (vs, k) → (op_at C i ≡ a_next_value → ⊥) → NoOther
    unfolding values_in
    no_other f e h =
        let q : ◌≡◌ {A = Option (List ℤ × ℕ)} (some ([], i)) (some (vs, k)) = rw (ne_eqb (op_at C i) a_next_value h, values_in) at e in
        record { vs-is = first-is {A = List ℤ} {B = ℕ} [] i (vs, k) q; k-is = second_is {A = List ℤ} {B = ℕ} [] i (vs, k) q }

    values-some : (f : ℕ) → values f step i ≡ some (vs, k) → 0 < f
    unfolding values_in
    values-some zero e = none-some (vs, k) e
    values-some (suc f) e = omega arith

  -- ---- cases
  module _ (i : ℕ) (cs : List (List ℤ × ℕ)) (o : ℕ) where
    record Case (f : ℕ) : Type 0 where
      pub vs : List ℤ
      pub k : ℕ
      pub valued : values parts (place_at C i) (link_at C i) ≡ some (vs, k)
      pub rest : List (List ℤ × ℕ)
      pub cs-is : cs ≡ (constant_at C i ∷ vs, place_at C i) ∷ rest
      pub more : cases f k ≡ some (rest, o)

    a-case : (f : ℕ) → cases (suc f) i ≡ some (cs, o) → op_at C i ≡ a_case → Case f
    unfolding cases_in
    a-case f e h =
        let g = went (values parts (place_at C i) (link_at C i)) (λ v. cases f v.1 then (λ r. some ((constant_at C i ∷ v.0, place_at C i) ∷ r.0, r.1))) (cs, o) (rw (eq-eqb (op_at C i) a_case h, cases_in) at e) in
        let d = went (cases f g.a.1) (λ r. some ((constant_at C i ∷ g.a.0, place_at C i) ∷ r.0, r.1)) (cs, o) g.next in
        record {
          vs = g.a.0;
          k = g.a.1;
          valued = g.first;
          rest = d.a.0;
          cs-is = first-is ((constant_at C i ∷ g.a.0, place_at C i) ∷ d.a.0) d.a.1 (cs, o) d.next;
          more = d.first ∙ ap (λ (x : ℕ). some (d.a.0, x)) (sym (second_is ((constant_at C i ∷ g.a.0, place_at C i) ∷ d.a.0) d.a.1 (cs, o) d.next));
        }

    record Otherwise : Type 0 where
      pub op-is : op_at C i ≡ an_otherwise
      pub cs-is : cs ≡ []
      pub o_is : o ≡ place_at C i

    otherwise : (f : ℕ) → cases (suc f) i ≡ some (cs, o) → (op_at C i ≡ a_case → ⊥) → Otherwise
    unfolding cases_in
    otherwise f e h =
        let g = guarded {A = List (List ℤ × ℕ) × ℕ} (eqb (op_at C i) an_otherwise) ([], place_at C i) (cs, o) (rw (ne_eqb (op_at C i) a_case h, cases_in) at e) in
        record {
          op-is = eqb-true (op_at C i) an_otherwise g.holds;
          cs-is = sym (ap (λ (y : List (List ℤ × ℕ) × ℕ). y.0) g.is);
          o_is = sym (ap (λ (y : List (List ℤ × ℕ) × ℕ). y.1) g.is);
        }

    cases-some : (f : ℕ) → cases f i ≡ some (cs, o) → 0 < f
    unfolding cases_in
    cases-some zero e = none-some (cs, o) e
    cases-some (suc f) e = omega arith

  -- ---- how many words there are at most
  abbrev hopping : ℕ → ℕ → ℕ
  hopping f j = hops (further C) (link_at C) f j

  on_word : (j : ℕ) → (op_at C j ≡ an_otherwise → ⊥) → further C j ≡ true
  unfolding further
  on_word j h = ap not (ne_eqb (op_at C j) an_otherwise h)

  last_word : (j : ℕ) → op_at C j ≡ an_otherwise → further C j ≡ false
  unfolding further
  last_word j h = ap not (eq-eqb (op_at C j) an_otherwise h)

  -- where no other value stands at j
  stays : (g N j k : ℕ) → k ≡ j → hopping (suc N) k < suc N → hopping (suc (g + N)) j < suc (g + N)
  stays g N j k e h =
      let x : hopping (suc N) j < suc N = subst (λ (y : ℕ). hopping (suc N) y < suc N) e h in
      omega (arith, hops-more (further C) (link_at C) (suc N) (suc (g + N)) j x (omega arith))

  values-hops : (g N step j : ℕ) (vs : List ℤ) (k : ℕ) → values (suc g) step j ≡ some (vs, k) → hopping (suc N) k < suc N → hopping (suc (g + N)) j < suc (g + N)
  values-hops zero N step j vs k e h =
      by-same (op_at C j) a_next_value
      (λ o. let a = another step j vs k zero e o in absurd (omega (arith, values-some step (link_at C j) a.rest k zero a.more)))
      (λ o. stays zero N j k (no_other step j vs k zero e o).k-is h)
  values-hops (suc g) N step j vs k e h =
      by-same (op_at C j) a_next_value
      (λ o.
      let a = another step j vs k (suc g) e o in
      let q : suc g + N ≡ suc (g + N) = omega arith in
      rw q (omega (arith, hops-on (further C) (link_at C) (suc (g + N)) j (on_word j (λ z. omega arith)), values-hops g N step (link_at C j) a.rest k a.more h)))
      (λ o. stays (suc g) N j k (no_other step j vs k (suc g) e o).k-is h)

  ends-hops : (f j : ℕ) (cs : List (List ℤ × ℕ)) (o : ℕ) → cases (suc f) j ≡ some (cs, o) → (op_at C j ≡ a_case → ⊥) → hopping (suc (suc f * parts)) j < suc (suc f * parts)
  ends-hops f j cs o e k = omega (arith, hops-end (further C) (link_at C) (suc f * parts) j (last_word j (otherwise j cs o f e k).op-is))

  cases-hops : (f j : ℕ) (cs : List (List ℤ × ℕ)) (o : ℕ) → cases (suc f) j ≡ some (cs, o) → hopping (suc (suc f * parts)) j < suc (suc f * parts)
  cases-hops zero j cs o e =
      by-same (op_at C j) a_case
      (λ k. let a = a-case j cs o zero e k in absurd (omega (arith, cases-some a.k a.rest o zero a.more)))
      (λ k. ends-hops zero j cs o e k)
  cases-hops (suc f) j cs o e =
      by-same (op_at C j) a_case
      (λ k.
      let a = a-case j cs o (suc f) e k in
      let q : suc (suc f) * parts ≡ suc (parts - 1 + suc f * parts) = omega arith in
      rw q (omega (
        arith,
        hops-on (further C) (link_at C) (suc (parts - 1 + suc f * parts)) j (on_word j (λ z. omega arith)),
        values-hops (parts - 1) (suc f * parts) (place_at C j) (link_at C j) a.vs a.k a.valued (cases-hops f a.k a.rest o a.more),
      )))
      (λ k. ends-hops (suc f) j cs o e k)

  -- ---- what is left: values of one list, whose steps begin at `step`, and the cases behind them; all come to `goal`
  pub record Rest (v : ℤ) (goal j : ℕ) : Type 0 where
    pub g : ℕ
    pub f : ℕ
    pub g-most : g < parts
    pub f-most : f < parts
    pub step : ℕ
    pub vs : List ℤ
    pub k : ℕ
    pub cs : List (List ℤ × ℕ)
    pub o : ℕ
    pub valued : values (suc g) step j ≡ some (vs, k)
    pub cased : cases (suc f) k ≡ some (cs, o)
    pub is : matching v ((vs, step) ∷ cs) o ≡ goal

  module _ (v : ℤ) where
    -- a word with the value says where to go on, and one with another does not matter
    holds-first : (c : ℤ) (vs : List ℤ) → same v c ≡ true → holds v (c ∷ vs) ≡ true
    unfolding holds
    holds-first c vs h = rw (h, holds)

    holds_later : (c : ℤ) (vs : List ℤ) → same v c ≡ false → holds v (c ∷ vs) ≡ holds v vs
    unfolding holds
    holds_later c vs h = rw (h, holds)

    taken : (c : ℤ) (vs : List ℤ) (step : ℕ) (cs : List (List ℤ × ℕ)) (o : ℕ) → same v c ≡ true → matching v ((c ∷ vs, step) ∷ cs) o ≡ step
    unfolding matching
    taken c vs step cs o h = rw (holds-first c vs h, matching)

    passed : (c : ℤ) (vs : List ℤ) (step : ℕ) (cs : List (List ℤ × ℕ)) (o : ℕ) → same v c ≡ false → matching v ((c ∷ vs, step) ∷ cs) o ≡ matching v ((vs, step) ∷ cs) o
    unfolding matching
    passed c vs step cs o h = ap (λ (b : Bool). elim b [ true ↦ step | false ↦ matching v cs o ]) (holds_later c vs h)

    empty : (step : ℕ) (cs : List (List ℤ × ℕ)) (o : ℕ) → matching v (([], step) ∷ cs) o ≡ matching v cs o
    unfolding matching holds
    empty step cs o = refl

    none_left : (o : ℕ) → matching v [] o ≡ o
    unfolding matching
    none_left o = refl

    starts : (first : ℕ) (cs : List (List ℤ × ℕ)) (o : ℕ) → cases parts first ≡ some (cs, o) → Rest v (matching v cs o) first
    unfolding values_in
    starts first cs o e =
        let h : op_at C first ≡ a_next_value → ⊥ = λ z. by-same (op_at C first) a_case (λ k. omega arith) (λ k. omega (arith, (otherwise first cs o (parts - 1) e k).op-is)) in
        record {
          g = 0;
          f = parts - 1;
          g-most = omega arith;
          f-most = omega arith;
          step = 0;
          vs = [];
          k = first;
          cs = cs;
          o = o;
          valued = rw (ne_eqb (op_at C first) a_next_value h, values_in);
          cased = e;
          is = empty 0 cs o;
        }

    module _ (goal j : ℕ) (l : Rest v goal j) where
      -- where no other value stands at j, a case does, or none
      module _ (h : op_at C j ≡ a_next_value → ⊥) where
        nothing : NoOther l.step j l.vs l.k
        nothing = no_other l.step j l.vs l.k l.g l.valued h

        here : cases (suc l.f) j ≡ some (l.cs, l.o)
        here = ap (cases (suc l.f)) (sym nothing.k-is) ∙ l.cased

        goal-is : goal ≡ matching v l.cs l.o
        goal-is = sym l.is ∙ ap (λ (x : List ℤ). matching v ((x, l.step) ∷ l.cs) l.o) nothing.vs-is ∙ empty l.step l.cs l.o

      pub rest-op : op_at C j ≡ 0 → ⊥
      rest-op z =
          let h : op_at C j ≡ a_next_value → ⊥ = λ y. omega arith in
          by-same (op_at C j) a_case (λ k. omega arith) (λ k. omega (arith, (otherwise j l.cs l.o l.f (here h) k).op-is))

      pub rest-ends : op_at C j ≡ an_otherwise → place_at C j ≡ goal
      rest-ends z =
          let h : op_at C j ≡ a_next_value → ⊥ = λ y. omega arith in
          let a = otherwise j l.cs l.o l.f (here h) (λ k. omega arith) in
          sym (goal-is h ∙ ap₂ (matching v) a.cs-is a.o_is ∙ none_left (place_at C j))

      module _ (z : op_at C j ≡ an_otherwise → ⊥) where
        case-here : (op_at C j ≡ a_next_value → ⊥) → op_at C j ≡ a_case
        case-here h = by-same (op_at C j) a_case (λ k. k) (λ k. absurd (z (otherwise j l.cs l.o l.f (here h) k).op-is))

        pub rest-takes : same v (constant_at C j) ≡ true → place_at C j ≡ goal
        rest-takes w =
            by-same (op_at C j) a_next_value
            (λ h.
            let a = another l.step j l.vs l.k l.g l.valued h in
            a.place_is ∙ sym (sym l.is ∙ ap (λ (x : List ℤ). matching v ((x, l.step) ∷ l.cs) l.o) a.vs-is ∙ taken (constant_at C j) a.rest l.step l.cs l.o w))
            (λ h.
            let a = a-case j l.cs l.o l.f (here h) (case-here h) in
            sym (goal-is h ∙ ap (λ (x : List (List ℤ × ℕ)). matching v x l.o) a.cs-is ∙ taken (constant_at C j) a.vs (place_at C j) a.rest l.o w))

        pub rest-passes : same v (constant_at C j) ≡ false → Rest v goal (link_at C j)
        rest-passes w =
            by-same (op_at C j) a_next_value
            (λ h.
            let a = another l.step j l.vs l.k l.g l.valued h in
            let y = values-some l.step (link_at C j) a.rest l.k l.g a.more in
            let q : l.g ≡ suc (l.g - 1) = omega arith in
            record {
              g = l.g - 1;
              f = l.f;
              g-most = omega (arith, l.g-most);
              f-most = l.f-most;
              step = l.step;
              vs = a.rest;
              k = l.k;
              cs = l.cs;
              o = l.o;
              valued = ap (λ (x : ℕ). values x l.step (link_at C j)) (sym q) ∙ a.more;
              cased = l.cased;
              is = sym (ap (λ (x : List ℤ). matching v ((x, l.step) ∷ l.cs) l.o) a.vs-is ∙ passed (constant_at C j) a.rest l.step l.cs l.o w) ∙ l.is;
            })
            (λ h.
            let a = a-case j l.cs l.o l.f (here h) (case-here h) in
            let y = cases-some a.k a.rest l.o l.f a.more in
            let q : l.f ≡ suc (l.f - 1) = omega arith in
            record {
              g = parts - 1;
              f = l.f - 1;
              g-most = omega arith;
              f-most = omega (arith, l.f-most);
              step = place_at C j;
              vs = a.vs;
              k = a.k;
              cs = a.rest;
              o = l.o;
              valued = a.valued;
              cased = ap (λ (x : ℕ). cases x a.k) (sym q) ∙ a.more;
              is = sym (goal-is h ∙ ap (λ (x : List (List ℤ × ℕ)). matching v x l.o) a.cs-is ∙ passed (constant_at C j) a.vs (place_at C j) a.rest l.o w);
            })

    -- a turn takes a word
    pub rest-less : (goal j : ℕ) → (op_at C j ≡ an_otherwise → ⊥) → Rest v goal (link_at C j) → hopping most (link_at C j) < hopping most j
    rest-less goal j z l =
        hops-less (further C) (link_at C) (suc (l.g + suc l.f * parts)) most j (on_word j z)
        (values-hops l.g (suc l.f * parts) l.step (link_at C j) l.vs l.k l.valued (cases-hops l.f l.k l.cs l.o l.cased))
        (omega (arith, l.g-most, l.f-most))

-- ---- what the loop keeps
module _ (code : List ℕ) (first : ℕ) (v : ℤ) where
  pub record Searching (j : ℕ) : Type 0 where
    pub cases-are : Cases code first
    pub left : (m n : ℕ) (function : Bool) (text : List ℕ) (R : List Head) (cs : List (List ℤ × ℕ)) (o : ℕ)
        → cases_in m n function text R (cells_of code) parts first ≡ some (cs, o) → Rest m n function text R (cells_of code) v (matching v cs o) j

  pub search-starts : Cases code first → Searching first
  search-starts k = record { cases-are = k; left = λ m n function text R cs o e. starts m n function text R (cells_of code) v first cs o e }

  -- ---- a value, by its key
  module _ (sv : SFits w64 v) (fv : SFits w32 v) where
    pub key_fits : SFits w64 (read v +ℤ pos bias)
    key_fits = sum_fits v (pos bias) sv (record { sfits = omega arith }) fv (record { sfits = omega arith })

    module _ (x : ℕ) (hx : x < value_end) where
      constant : ℤ
      constant = pos x -ℤ pos bias

      constant-fits : SFits w64 constant
      unfolding constant
      constant-fits = minus-cases (λ z. SFits w64 z) x bias (λ h. record { sfits = omega arith }) (λ h. record { sfits = omega arith })

      same-is : (b : Bool) → eqb (of_z w64 v) (of_z w64 constant) ≡ b → same v constant ≡ b
      same-is b e = sym (same_bits v constant sv constant-fits) ∙ e

      key-same : x ≡ of_z w64 (read v +ℤ pos bias) → same v constant ≡ true
      unfolding constant
      key-same e =
          let p : pos x ≡ read v +ℤ pos bias = bits-same (pos x) (read v +ℤ pos bias) (record { sfits = omega arith }) key_fits e in
          let q : v ≡ constant = sym (+ℤ-neg_ℤ_cancel v (pos bias)) ∙ ap (λ (z : ℤ). z +ℤ pos bias -ℤ pos bias) (sym (to_z-of_z sv)) ∙ ap (λ (z : ℤ). z -ℤ pos bias) (sym p) in
          same-is true (eq-eqb (of_z w64 v) (of_z w64 constant) (ap (of_z w64) q))

      key-other : (x ≡ of_z w64 (read v +ℤ pos bias) → ⊥) → same v constant ≡ false
      unfolding constant
      key-other n =
          same-is false (ne_eqb (of_z w64 v) (of_z w64 constant) (λ e.
          let q = bits-same v constant sv constant-fits e in
          n (ap (of_z w64) (sym (ap (λ (z : ℤ). z +ℤ pos bias) (to_z-of_z sv ∙ q) ∙ -ℤ-+ℤ_cancel (pos x) (pos bias))))))

    -- ---- a turn of the loop
    module _ (j : ℕ) (l : Searching j) (w : ℕ) (ew : w ≡ head_at (cells_of code) j) where
      op-is : op_in w ≡ op_at (cells_of code) j
      op-is = ap op_in ew

      found : (r : ℕ) → Part half_end (place_at (cells_of code) j) r
          → ((m n : ℕ) (function : Bool) (text : List ℕ) (R : List Head) (cs : List (List ℤ × ℕ)) (o : ℕ)
          → cases_in m n function text R (cells_of code) parts first ≡ some (cs, o) → place_at (cells_of code) j ≡ matching v cs o)
          → Matches code first v r
      found r p f = record { is = λ m n function text R cs o e. p.same ∙ f m n function text R cs o e; small = p.small }

      ends_there : op_in w ≡ an_otherwise → (r : ℕ) → Part half_end (place_at (cells_of code) j) r → Matches code first v r
      ends_there k r p =
          found r p (λ m n function text R cs o e. rest-ends m n function text R (cells_of code) v (matching v cs o) j (l.left m n function text R cs o e) (sym op-is ∙ k))

      module _ (k : op_in w ≡ an_otherwise → ⊥) (hw : w < cell_values) where
        same-constant : (b : Bool) → same v (pos (value_in w) -ℤ pos bias) ≡ b → same v (constant_at (cells_of code) j) ≡ b
        unfolding constant_at
        same-constant b e = ap (λ (y : ℕ). same v (pos (value_in y) -ℤ pos bias)) (sym ew) ∙ e

        finds-there : value_in w ≡ of_z w64 (read v +ℤ pos bias) → (r : ℕ) → Part half_end (place_at (cells_of code) j) r → Matches code first v r
        unfolding constant
        finds-there e r p =
            found r p (λ m n function text R cs o y. rest-takes m n function text R (cells_of code) v (matching v cs o) j (l.left m n function text R cs o y) (λ z. k (op-is ∙ z))
            (same-constant true (key-same (value_in w) (omega arith) e)))

        goes-on : (value_in w ≡ of_z w64 (read v +ℤ pos bias) → ⊥) → Searching (link_at (cells_of code) j)
        unfolding constant
        goes-on e = record {
          cases-are = l.cases-are;
          left = λ m n function text R cs o y.
              rest-passes m n function text R (cells_of code) v (matching v cs o) j (l.left m n function text R cs o y) (λ z. k (op-is ∙ z))
              (same-constant false (key-other (value_in w) (omega arith) e));
        }

        goes-less : (value_in w ≡ of_z w64 (read v +ℤ pos bias) → ⊥) → words_left code (link_at (cells_of code) j) < words_left code j
        goes-less e =
            let c = l.cases-are in
            rest-less c.m c.n c.function c.text c.R (cells_of code) v (matching v c.cs c.o) j (λ z. k (op-is ∙ z))
            ((goes-on e).left c.m c.n c.function c.text c.R c.cs c.o c.is)

-- ---- the same, for v as the loop has it
module _ (code : List ℕ) (first : ℕ) (v : ℤ) (sv : SFits w64 v) where
  pub search-begins : Cases code first → Searching code first (read v) first
  search-begins k = rw (to_z-of_z sv) (search-starts code first v k)

  module _ (j : ℕ) (l : Searching code first (read v) j) where
    unread : Searching code first v j
    unread = rw (to_z-of_z sv) at l

    pub search-in : j * 8 + 8 ≤ length code
    search-in =
        let c = l.cases-are in
        op-in code j c.whole (rest-op c.m c.n c.function c.text c.R (cells_of code) (read v) (matching (read v) c.cs c.o) j (l.left c.m c.n c.function c.text c.R c.cs c.o c.is))

    module _ (fv : SFits w32 v) (w : ℕ) (ew : w ≡ head_at (cells_of code) j) where
      pub search-ends : op_in w ≡ an_otherwise → (r : ℕ) → Part half_end (place_at (cells_of code) j) r → Matches code first v r
      search-ends k r p = ends_there code first v sv fv j unread w ew k r p

      module _ (k : op_in w ≡ an_otherwise → ⊥) (hw : w < cell_values) where
        pub search-finds : value_in w ≡ of_z w64 (read v +ℤ pos bias) → (r : ℕ) → Part half_end (place_at (cells_of code) j) r → Matches code first v r
        search-finds e r p = finds-there code first v sv fv j unread w ew k hw e r p

        module _ (e : value_in w ≡ of_z w64 (read v +ℤ pos bias) → ⊥) (b : ℕ) (p : Part half_end (link_at (cells_of code) j) b) where
          pub search-on : Searching code first (read v) b
          search-on = rw (p.same, to_z-of_z sv) (goes-on code first v sv fv j unread w ew k hw e)

          pub search-less : words_left code b < words_left code j
          search-less = rw p.same (goes-less code first v sv fv j unread w ew k hw e)
