-- The places of the counted steps of a run.
use mathlib.Core.Path.{◌≡◌, refl, sym, ap, ◌∙◌}
use mathlib.Core.Bool.{true, false}
use mathlib.Core.List.{List, [], ◌∷◌}
use Prim.Native.Nat.{ℕ, zero, suc, ◌+◌, ◌≤◌, ◌<◌}
use native.Mathlib.Omega.{arith}
use lib.ListN.{length, get_or}
use Rattle.paper.specs.Steps.{Program}
use Rattle.paper.specs.States.{State, Rooms}
use Rattle.paper.specs.Running.{Ended, Outcome, goes_on, stopped, take_step, next_place, run}
use Rattle.demands.proofs.Growing.{Came, goes, stops, came, ran, run-goes}
use Rattle.marks.specs.Marks.{listed}

module _ (P : Program) (R : Rooms) where
  -- ---- one step
  pub listed-goes : (n : ℕ) (s s' : State) → take_step P R s ≡ goes_on s' → listed P R (suc n) s ≡ next_place P s ∷ listed P R n s'
  unfolding listed
  listed-goes n s s' e = rw (e, listed)

  pub listed-counted : (n : ℕ) (s : State) (x : Ended) → take_step P R s ≡ stopped true x → listed P R (suc n) s ≡ next_place P s ∷ []
  unfolding listed
  listed-counted n s x e = rw (e, listed)

  pub listed-uncounted : (n : ℕ) (s : State) (x : Ended) → take_step P R s ≡ stopped false x → listed P R (suc n) s ≡ []
  unfolding listed
  listed-uncounted n s x e = rw (e, listed)

  -- ---- how many there are
  -- What is listed by an outcome, with so many steps after it.
  abbrev listed_by : ℕ → State → Outcome → List ℕ
  listed_by n s o = elim o [ goes_on s' ↦ next_place P s ∷ listed P R n s' | stopped was_counted x ↦ elim was_counted [ true ↦ next_place P s ∷ [] | false ↦ [] ] ]

  abbrev ran_by : ℕ → Outcome → Ended
  ran_by n o = elim o [ goes_on s' ↦ run P R n s' | stopped was_counted x ↦ x ]

  pub as_many : (n : ℕ) (s : State) → (run P R n s).state.steps ≡ s.steps + length (listed P R n s)
  unfolding run listed
  as_many zero s = omega arith
  as_many (suc n) s = after (take_step P R s) (came P R s) (λ s'. as_many n s')
    where
      after : (o : Outcome) → Came R s o → ((s' : State) → (run P R n s').state.steps ≡ s'.steps + length (listed P R n s'))
          → (ran_by n o).state.steps ≡ s.steps + length (listed_by n s o)
      after o (goes {s' = s'} l) on = omega (arith, on s', l.steps)
      after o (stops true e place low high f l) on = omega (arith, l.steps)
      after o (stops false e place low high f l) on = omega (arith, l.steps)

  pub within : (n : ℕ) (s : State) → length (listed P R n s) ≤ n
  within n s = let r = ran P R n s in omega (arith, as_many n s, r.within, r.later.steps)

  -- ---- where each is
  -- A run of so many steps stops there because they are spent.
  pub record Spent (i : ℕ) (s : State) (place : ℕ) : Type 0 where
    pub ending : (run P R i s).ending ≡ 5
    pub there : (run P R i s).place ≡ place

  spent-first : (s : State) (place : ℕ) → place ≡ next_place P s → Spent 0 s place
  unfolding run
  spent-first s place e = record { ending = refl; there = sym e }

  pub entry : (i n : ℕ) (s : State) → i < length (listed P R n s) → Spent i s (get_or (listed P R n s) i 0)
  unfolding listed
  entry i zero s h = absurd (omega arith)
  entry zero (suc n) s h = first (take_step P R s) refl
    where
      first : (o : Outcome) → take_step P R s ≡ o → Spent 0 s (get_or (listed P R (suc n) s) 0 0)
      first (goes_on s') e = spent-first s _ (ap (λ (l : List ℕ). get_or l 0 0) (listed-goes n s s' e))
      first (stopped true x) e = spent-first s _ (ap (λ (l : List ℕ). get_or l 0 0) (listed-counted n s x e))
      first (stopped false x) e = absurd (omega (arith, h, ap length (listed-uncounted n s x e)))
  entry (suc i) (suc n) s h = later (take_step P R s) refl (λ s' g. entry i n s' g)
    where
      later : (o : Outcome) → take_step P R s ≡ o → ((s' : State) → i < length (listed P R n s') → Spent i s' (get_or (listed P R n s') i 0)) → Spent (suc i) s (get_or (listed P R (suc n) s) (suc i) 0)
      later (goes_on s') e on =
          let q = listed-goes n s s' e in
          let x = on s' (omega (arith, h, ap length q)) in
          let g = run-goes P R i s s' e in
          record { ending = ap (λ (z : Ended). z.ending) g ∙ x.ending; there = ap (λ (z : Ended). z.place) g ∙ x.there ∙ sym (ap (λ (l : List ℕ). get_or l (suc i) 0) q) }
      later (stopped true x) e on = absurd (omega (arith, h, ap length (listed-counted n s x e)))
      later (stopped false x) e on = absurd (omega (arith, h, ap length (listed-uncounted n s x e)))
