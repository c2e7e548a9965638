-- All behind a routine's name, as the code goes through it.
use Rattle.paper.specs.Words.{word_limit}
use Rattle.layout.specs.Parts.{link_part}
use mathlib.Core.Path.{◌≡◌, refl, sym, ap, subst, ◌∙◌}
use mathlib.Core.List.{List}
use Prim.Native.Nat.{ℕ, ◌+◌, ◌-◌, ◌*◌, ◌<◌, ◌≤◌}
use native.Mathlib.Omega.{arith}
use lib.ListN.{length}
use Rattle.check_parameters.specs.Answers.{ParametersStand, DeclaresParameters, Unopened, Opened, Opens}
use Rattle.check_parameters.proofs.ParameterWalk.{opened-names}
use Rattle.check_declarations.specs.Answers.{RoutineStands, DeclaresRoutine}
use Rattle.check_leaving.specs.Answers.{Leaving, Leaves}
use Rattle.store_cells.specs.Cells.{cells_of}
use Rattle.check_sites.specs.Walks.{outer_of}
use Rattle.check_names.specs.Meanings.{Means}
use Rattle.check_names.specs.Scopes.{routine_scope, EachHasWord, Grown, OfRoutine, Walked}
use Rattle.check_names.proofs.Growing.{grown-on, routine-on}
use Rattle.check_names.specs.declared.Scope.{Scope}
use Rattle.layout.specs.declared.types.ValueType.{ValueType}
use Rattle.check_routines.specs.Parts.{Finishes, ListsStand, SaysLists, Lists, ScopeStands, SaysScope, Scoped, ParametersDeclared, ParametersPassed, DataStand, DataPassed}
use Rattle.check_routines.proofs.ScopeEntered.{order, parameters-stand, parameters-faulty, entered, data-stand, data-faulty, declared, lists-stand, inside}
use Rattle.check_routines.proofs.ScopeLeft.{scope-lists, finish-few, finish-most, leaving, goes}
use Rattle.std.specs.Prelude.{Option, Ok, Err}
use Rattle.layout.specs.declared.rules.Breach.{Breach}

-- ---- from the name on
module _ (text code values : List ℕ) (result : Option ValueType) (h name : ℕ) where
  abbrev G : Type 0
  G = ScopeStands text code values result h name

  pub name-small : G → name + 2 < word_limit
  name-small g = let o = order text code values result h name g in omega arith

  module _ (s : Scope) (first : s.first ≡ name + 2) where
    pub scope-parameters : G → ParametersStand code values s.first
    scope-parameters g = subst (ParametersStand code values) (sym first) (parameters-stand text code values result h name g)

  module _ (s : Scope) (first : s.first ≡ name + 2) (code₁ values₁ : List ℕ) (p : Walked) (x : DeclaresParameters code values code₁ values₁ s.first p) where
    y : DeclaresParameters code values code₁ values₁ (name + 2) p
    y = subst (λ (k : ℕ). DeclaresParameters code values code₁ values₁ k p) first x

    pub parameters-so : (broken : Breach) → p ≡ Err broken → Scoped text code values code₁ values₁ result h name (Err broken)
    unfolding SaysScope
    parameters-so broken q = record { is = λ g. parameters-faulty text code values result h name g code₁ values₁ broken (subst (DeclaresParameters code values code₁ values₁ (name + 2)) q y) }

    module _ (close : ℕ) (own : Scope) (q : p ≡ Ok (close, own)) (long : length code₁ ≡ length code) (outer : Scope) (e : OfRoutine outer (name + 2) h own) (n : own.names ≡ own.used) where
      pub parameters-declared : G → ParametersDeclared text code₁ values₁ result outer own h name close
      parameters-declared g = record { code₀ = code; values₀ = values; stands = g; entered = e; names-are = n; declares = subst (DeclaresParameters code values code₁ values₁ (name + 2)) q y; long = long }

      pub scope-passed : (code' values' : List ℕ) (r : Walked) → ParametersPassed text code₁ values₁ code' values' result outer own h name close r → Scoped text code values code' values' result h name r
      unfolding parameters-declared
      scope-passed code' values' r x = record { is = λ g. x.is (parameters-declared g) }

-- ---- the scope that is entered
module _ (outer : Scope) (first head : ℕ) (s : Scope) (e : s ≡ routine_scope outer first head) where
  pub entered-first : s.first ≡ first
  entered-first = ap (λ (x : Scope). x.first) e

  pub entered-none : Unopened s
  entered-none = record { no_word = ap (λ (x : Scope). x.used) e; no_name = ap (λ (x : Scope). x.names) e }

  module _ (w : Walked) (o : Opens s w) (next : ℕ) (own : Scope) (q : w ≡ Ok (next, own)) where
    opened : Opened s own
    opened = subst (Opens s) q o

    pub opened-routine : OfRoutine outer first head own
    opened-routine =
        let i = opened.is in
        record {
          around = ap (λ (x : Scope). x.loops) i ∙ ap (λ (x : Scope). x.loops) e;
          begins = ap (λ (x : Scope). x.first) i ∙ entered-first;
          leads = ap (λ (x : Scope). x.head) i ∙ ap (λ (x : Scope). x.head) e;
        }

    pub opened-count : own.names ≡ own.used
    opened-count = opened-names s own opened

-- Its parameters are declared, from the first one's type up to the parenthesis `close`: what all that stands behind them goes by.
module _ (text code values : List ℕ) (result : Option ValueType) (outer : Scope) (h name : ℕ) (s : Scope) (e : s ≡ routine_scope outer (name + 2) h) (code₁ values₁ : List ℕ) (p : Walked)
    (x : DeclaresParameters code values code₁ values₁ s.first p) (o : Opens s p) (close : ℕ) (own : Scope) (q : p ≡ Ok (close, own)) (long : length code₁ ≡ length code) where
  pub own-declared : ScopeStands text code values result h name → ParametersDeclared text code₁ values₁ result outer own h name close
  own-declared = parameters-declared text code values result h name s (entered-first outer (name + 2) h s e) code₁ values₁ p x close own q long outer
      (opened-routine outer (name + 2) h s e p o close own q) (opened-count outer (name + 2) h s e p o close own q)

  pub own-scoped : (code' values' : List ℕ) (r : Walked) → ParametersPassed text code₁ values₁ code' values' result outer own h name close r → Scoped text code values code' values' result h name r
  own-scoped = scope-passed text code values result h name s (entered-first outer (name + 2) h s e) code₁ values₁ p x close own q long outer
      (opened-routine outer (name + 2) h s e p o close own q) (opened-count outer (name + 2) h s e p o close own q)

-- ---- behind the parameters
module _ (text code values : List ℕ) (result : Option ValueType) (outer own : Scope) (h name close : ℕ) where
  abbrev O : Type 0
  O = ParametersDeclared text code values result outer own h name close

  pub own_name : O → name + 2 < word_limit
  own_name s = name-small text s.code₀ s.values₀ result h name s.stands

  pub own-close : O → close < word_limit
  own-close s =
      let o = order text s.code₀ s.values₀ result h name s.stands in
      omega (arith, (entered text s.code₀ s.values₀ result h name s.stands code values close own s.declares s.long).close-is)

  pub own-data : O → RoutineStands code values h own.used (close + 1)
  own-data s = data-stand text s.code₀ s.values₀ result h name s.stands code values close own s.declares s.long

  -- its data begin at the word that its scope has for them
  pub own-stands : O → RoutineStands code values own.head own.used (close + 1)
  own-stands s = subst (λ (k : ℕ). RoutineStands code values k own.used (close + 1)) (sym s.entered.leads) (own-data s)

  own-declares : O → {code₂ values₂ : List ℕ} {w : Walked} → DeclaresRoutine code values code₂ values₂ (name + 1) own.head own.used (close + 1) w → DeclaresRoutine code values code₂ values₂ (name + 1) h own.used (close + 1) w
  own-declares s {code₂} {values₂} {w} x = subst (λ (k : ℕ). DeclaresRoutine code values code₂ values₂ (name + 1) k own.used (close + 1) w) s.entered.leads x

  module _ (code₂ values₂ : List ℕ) (w : Walked) (y : DeclaresRoutine code values code₂ values₂ (name + 1) own.head own.used (close + 1) w) where
    abbrev Q : Walked → Type 0
    Q v = DeclaresRoutine code values code₂ values₂ (name + 1) own.head own.used (close + 1) v

    pub data-so : (broken : Breach) → w ≡ Err broken → ParametersPassed text code values code₂ values₂ result outer own h name close (Err broken)
    unfolding SaysScope
    data-so broken q = record { is = λ s. data-faulty text s.code₀ s.values₀ result h name s.stands code values close own s.declares s.long code₂ values₂ broken (own-declares s (subst Q q y)) }

    module _ (at : ℕ) (taken : Scope) (q : w ≡ Ok (at, taken)) (long : length code₂ ≡ length code) (more : Grown own taken) where
      pub data-declared : O → DataStand text code₂ values₂ result outer taken h name at
      data-declared s = record { close = close; code₁ = code; values₁ = values; opened = own; own = s; grown = more; declares = own-declares s (subst Q q y); long = long }

      pub own-passed : (code' values' : List ℕ) (r : Walked) → DataPassed text code₂ values₂ code' values' result outer taken h name at r → ParametersPassed text code values code' values' result outer own h name close r
      unfolding data-declared
      own-passed code' values' r x = record { is = λ s. x.is (data-declared s) }

-- ---- behind the data
module _ (text code values : List ℕ) (result : Option ValueType) (outer taken : Scope) (h name at : ℕ) where
  abbrev D : Type 0
  D = DataStand text code values result outer taken h name at

  pub data-name : D → name + 2 < word_limit
  data-name s = own_name text s.code₁ s.values₁ result outer s.opened h name s.close s.own

  pub data_head : D → h < name + 1
  data_head s = let o = order text s.own.code₀ s.own.values₀ result h name s.own.stands in omega arith

  pub data-opens : D → (name + 1) * 8 + 8 ≤ length code
  data-opens s = let o = order text s.own.code₀ s.own.values₀ result h name s.own.stands in omega (arith, s.long, s.own.long)

  unfoldable pub data-lists : D → ListsStand text code values result taken.used h at
  data-lists s =
      scope-lists text s.own.code₀ s.own.values₀ result h name s.own.stands s.code₁ s.values₁ s.close s.opened s.own.declares s.own.long
      code values at taken s.declares (s.long ∙ s.own.long)

  -- no loop is around the lists
  pub data-words : outer.loops ≡ 0 → D → EachHasWord taken
  data-words n s =
      let l : taken.loops ≡ outer.loops = (routine-on s.own.entered s.grown).around in
      omega (arith, l, n)

  pub data-at : D → at < link_part
  data-at s =
      let o = order text s.own.code₀ s.own.values₀ result h name s.own.stands in
      omega (
        arith,
        (declared text s.own.code₀ s.own.values₀ result h name s.own.stands s.code₁ s.values₁ s.close s.opened s.own.declares s.own.long
            code values at taken s.declares (s.long ∙ s.own.long)).at-is,
      )

  module _ (code₃ values₃ : List ℕ) (v : Walked) (y : Lists text code values code₃ values₃ result taken.used h at v) where
    abbrev L : Walked → Type 0
    L u = Lists text code values code₃ values₃ result taken.used h at u

    pub lists-so : (broken : Breach) → v ≡ Err broken → DataPassed text code values code₃ values₃ result outer taken h name at (Err broken)
    unfolding SaysScope SaysLists scope-lists lists-stand inside data-lists
    lists-so broken q = record { is = λ s. (subst L q y).is (data-lists s) }

    module _ (next : ℕ) (all : Scope) (q : v ≡ Ok (next, all)) where
      pub used-few : D → all.used - taken.used < link_part
      used-few s =
          finish-few text s.own.code₀ s.own.values₀ result h name s.own.stands s.code₁ s.values₁ s.close s.opened s.own.declares s.own.long
          code values at taken s.declares (s.long ∙ s.own.long) code₃ values₃ next all (subst L q y)

      pub used-most : D → taken.used ≤ all.used
      used-most s =
          finish-most text s.own.code₀ s.own.values₀ result h name s.own.stands s.code₁ s.values₁ s.close s.opened s.own.declares s.own.long
          code values at taken s.declares (s.long ∙ s.own.long) code₃ values₃ next all (subst L q y)

      module _ (code₄ : List ℕ) (f : Finishes code₃ code₄ h (name + 1) at (all.used - taken.used)) (long₄ : length code₄ ≡ length code) (more : Grown taken all) where
        -- what comes back of the lists has opened what was opened before them
        record Restored (s : D) : Type 0 where
          begins : all.first ≡ name + 2
          names : all.names ≡ s.opened.used
          leads : all.head ≡ h

        opens : (s : D) → Restored s
        opens s =
            let g = grown-on s.grown more in
            let o = routine-on s.own.entered g in
            record { begins = o.begins; names = ap (λ (x : Scope). x.names) g.rest ∙ s.own.names-are; leads = o.leads }

        pub scope-leaving : D → Leaving code₄ values₃ all.first all.names all.head
        scope-leaving s =
            let o = opens s in
            subst (λ (k : ℕ). Leaving code₄ values₃ k all.names all.head) (sym o.begins)
            (subst (λ (k : ℕ). Leaving code₄ values₃ (name + 2) k all.head) (sym o.names)
            (subst (Leaving code₄ values₃ (name + 2) s.opened.used) (sym o.leads)
            (leaving text s.own.code₀ s.own.values₀ result h name s.own.stands s.code₁ s.values₁ s.close s.opened s.own.declares s.own.long
            code values at taken s.declares (s.long ∙ s.own.long) code₃ values₃ next all (subst L q y) code₄ (all.used - taken.used) f refl (long₄ ∙ s.long ∙ s.own.long))))

        module _ (values₄ : List ℕ) where
          -- what leaving these names restores
          abbrev Restores : (first names head : ℕ) → Type 0
          Restores first names head = (l : Leaving code₄ values₃ first names head) → Means l.routine l.W (outer_of l.W l.s) (cells_of values₄)

          restored : (s : D) → Restores all.first all.names all.head → Restores (name + 2) s.opened.used h
          restored s x =
              let o = opens s in
              subst (Restores (name + 2) s.opened.used) o.leads (subst (λ (k : ℕ). Restores (name + 2) k all.head) o.names (subst (λ (k : ℕ). Restores k all.names all.head) o.begins x))

          pub scope-done : (left : Scope) → Leaves all outer code₄ values₃ values₄ left → length values₄ ≡ length values₃ → DataPassed text code values code₄ values₄ result outer taken h name at (Ok (next, left))
          unfolding SaysScope
          scope-done left x same = record {
            is = λ s.
                goes text s.own.code₀ s.own.values₀ result h name s.own.stands s.code₁ s.values₁ s.close s.opened s.own.declares s.own.long
                code values at taken s.declares (s.long ∙ s.own.long) code₃ values₃ next all (subst L q y) code₄ (all.used - taken.used) f refl (long₄ ∙ s.long ∙ s.own.long) values₄ same x.same
                (restored s x.means);
          }
