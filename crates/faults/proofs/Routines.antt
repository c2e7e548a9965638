-- The faults of routines and of the module: where they lie, what a routine's are made of, and what is left of them while a walk goes over the routines.
use mathlib.Core.Path.{◌≡◌, refl, sym, ap, ap₂, subst, ◌∙◌}
use mathlib.Core.Bool.{true, false}
use mathlib.Core.List.{List, [], ◌∷◌, ◌++◌, append_assoc}
use Prim.Native.Nat.{ℕ, suc, ◌+◌, ◌≤◌, ◌<◌}
use native.Mathlib.Omega.{arith}
use Rattle.paper.specs.Words.{Word}
use Rattle.paper.specs.Trees.{Routine, Module}
use Rattle.paper.specs.Names.{Text, sort_in, spelled, cannot_declare}
use Rattle.paper.specs.Types.{Fault}
use Rattle.paper.specs.Declarations.{routine_limit, crosses, no_data, Signature, declare_parameters, data_texts, routine_name_faults, module_filling, routine_names, module_data, routine_filling, routine_data, signatures}
use Rattle.paper.specs.Checks.{routine_faults, all_routine_faults, faults}
use Rattle.grammar.specs.Form.{none-starts, one-starts, Parses, RoutineAt, RoutinesAt, ModuleAt}
use Rattle.grammar.proofs.Places.{parameters-grow, declarations-grow, list-grows, behind-grows, head-grows, routines-grow}
use Rattle.faults.specs.First.{no-fault, Inside, First}
use Rattle.faults.specs.Parts.{in_parameters, in_data, in_body, in_handler, in_undo_list}
use Rattle.faults.specs.Left.{head_faults, own_faults, left_faults, Left}
use Rattle.faults.proofs.First.{◌and◌, widen, inside-if, leads-later, first-inside, first-left, first-before, first-after, first-between, ranks, first-lower, first-higher, neither-rule, nothing-in-both}
use Rattle.faults.proofs.Expressions.{grows}
use Rattle.faults.proofs.Statements.{list_inside, behind-inside}
use Rattle.faults.proofs.Declarations.{data-adds, parameters-add, data-left, data-inside, parameters-inside}

-- ---- places
module _ (W : List Word) {r : Routine} {at to : ℕ} (h : RoutineAt (sort_in W) (Parses (sort_in W)) r at to) where
  parameters-on : r.name + 2 ≤ h.close
  parameters-on = parameters-grow (sort_in W) (Parses (sort_in W)) (grows W) h.parameters

  data-on : h.close + 1 ≤ h.begin
  data-on = declarations-grow (sort_in W) (Parses (sort_in W)) (grows W) h.declared

  body-on : h.begin ≤ r.body.closes
  body-on = list-grows (sort_in W) (Parses (sort_in W)) (grows W) h.body.statements

  handler-on : r.body.closes ≤ h.undo_at
  handler-on = behind-grows (sort_in W) (Parses (sort_in W)) (grows W) h.handler

  undo-on : h.undo_at ≤ h.end
  undo-on = behind-grows (sort_in W) (Parses (sort_in W)) (grows W) h.undo

  -- The name is one of the routine's words.
  pub name-after : at < r.name
  name-after = head-grows (sort_in W) (Parses (sort_in W)) (grows W) h.head

  pub name_below : r.name < to
  name_below = omega (arith, parameters-on, data-on, body-on, handler-on, undo-on, h.after)

-- ---- one routine
module _ (W : List Word) (m : Module) where
  pub routine-data-are : (r : Routine) → (routine_data W m r).faults ≡ in_parameters W m r ++ in_data W m r
  unfolding routine_data
  routine-data-are r =
      data-adds W (routine_filling W m) r.declared (declare_parameters W (routine_filling W m) r.parameters no_data)
      ∙ ap (λ (l : List Fault). l ++ in_data W m r) (parameters-add W (routine_filling W m) r.parameters no_data)

  pub routine-are : (sigs : List Signature) (k : ℕ) (r : Routine) → routine_faults W m sigs k r ≡ in_parameters W m r ++ in_data W m r ++ in_body W m sigs k r ++ in_handler W m sigs k r ++ in_undo_list W m sigs k r
  unfolding routine_faults
  routine-are sigs k r = ap (λ (l : List Fault). l ++ in_body W m sigs k r ++ in_handler W m sigs k r ++ in_undo_list W m sigs k r) (routine-data-are r)

  module _ (sigs : List Signature) (k : ℕ) {r : Routine} {at to : ℕ} (h : RoutineAt (sort_in W) (Parses (sort_in W)) r at to) where
    -- Where each part lies.
    pub in-parameters : Inside (r.name + 2) h.close (in_parameters W m r)
    in-parameters = parameters-inside W (routine_filling W m) no_data h.parameters

    pub in-data : Inside (h.close + 1) h.begin (in_data W m r)
    in-data = data-inside W (routine_filling W m) _ h.declared

    pub in-body : Inside h.begin r.body.closes (in_body W m sigs k r)
    in-body = list_inside W _ _ h.body.statements _ _

    pub in-handler : Inside r.body.closes h.undo_at (in_handler W m sigs k r)
    in-handler = behind-inside W _ _ h.handler _ _

    pub in-undo : Inside h.undo_at h.end (in_undo_list W m sigs k r)
    in-undo = behind-inside W _ _ h.undo _ _

    pub routine-inside : Inside (suc r.name) to (routine_faults W m sigs k r)
    routine-inside =
        let p = parameters-on W h in
        let d = data-on W h in
        let b = body-on W h in
        let l = handler-on W h in
        let u = undo-on W h in
        rw (routine-are sigs k r)
        (widen in-parameters (omega arith) (omega (arith, h.after))
        and widen in-data (omega arith) (omega (arith, h.after))
        and widen in-body (omega arith) (omega (arith, h.after))
        and widen in-handler (omega arith) (omega (arith, h.after))
        and widen in-undo (omega arith) (omega (arith, h.after)))

    -- A fault is found in one of them, and none before it.
    module _ {f : Fault} where
      -- it stands before all lists
      before-lists : {xs : List Fault} → First f xs → f.at < h.begin → First f (xs ++ in_body W m sigs k r ++ in_handler W m sigs k r ++ in_undo_list W m sigs k r)
      before-lists g low =
          let b = body-on W h in
          let l = handler-on W h in
          first-left (first-left (first-left g (leads-later f in-body low)) (leads-later f in-handler (omega arith))) (leads-later f in-undo (omega arith))

      pub found-in-parameters : First f (in_parameters W m r) → First f (routine_faults W m sigs k r)
      found-in-parameters g =
          let d = data-on W h in
          let p = (first-inside g in-parameters).high in
          rw (routine-are sigs k r) (before-lists (first-left g (leads-later f in-data (omega arith))) (omega arith))

      pub found-in-data : in_parameters W m r ≡ [] → First f (in_data W m r) → First f (routine_faults W m sigs k r)
      found-in-data e g = rw (routine-are sigs k r) (before-lists (first-after e g) (first-inside g in-data).high)

      pub found-in-body : (routine_data W m r).faults ≡ [] → First f (in_body W m sigs k r) → First f (routine_faults W m sigs k r)
      unfolding routine_faults
      found-in-body e g =
          let b = (first-inside g in-body).high in
          let l = handler-on W h in
          first-left (first-left (first-after e g) (leads-later f in-handler b)) (leads-later f in-undo (omega arith))

      pub found-in-handler : (routine_data W m r).faults ≡ [] → in_body W m sigs k r ≡ [] → First f (in_handler W m sigs k r) → First f (routine_faults W m sigs k r)
      unfolding routine_faults
      found-in-handler e l g = first-left (first-after (nothing-in-both e l) g) (leads-later f in-undo (first-inside g in-handler).high)

      pub found-in-undo : (routine_data W m r).faults ≡ [] → in_body W m sigs k r ≡ [] → in_handler W m sigs k r ≡ [] → First f (in_undo_list W m sigs k r) → First f (routine_faults W m sigs k r)
      unfolding routine_faults
      found-in-undo e l n g = first-after (nothing-in-both (nothing-in-both e l) n) g

  pub nothing-in-data : (r : Routine) → in_parameters W m r ≡ [] → in_data W m r ≡ [] → (routine_data W m r).faults ≡ []
  nothing-in-data r e g = routine-data-are r ∙ nothing-in-both e g

  pub nothing-in-routine : (sigs : List Signature) (k : ℕ) (r : Routine) → (routine_data W m r).faults ≡ [] → in_body W m sigs k r ≡ [] → in_handler W m sigs k r ≡ []
      → in_undo_list W m sigs k r ≡ [] → routine_faults W m sigs k r ≡ []
  unfolding routine_faults
  nothing-in-routine sigs k r e l n g = nothing-in-both (nothing-in-both (nothing-in-both e l) n) g

-- ---- routines
module _ (W : List Word) where
  -- each at its routine's name
  pub head-inside : (earlier : List Text) (k : ℕ) (r : Routine) → Inside r.name (suc r.name) (head_faults W earlier k r)
  unfolding head_faults
  head-inside earlier k r = inside-if _ 10 r.name r.name (suc r.name) (omega arith) (omega arith) and inside-if _ 16 r.name r.name (suc r.name) (omega arith) (omega arith)

  module _ (earlier : List Text) (k : ℕ) (r : Routine) where
    pub head-taken : cannot_declare earlier (spelled W r.name) ≡ true → First (record { number = 10; at = r.name }) (head_faults W earlier k r)
    unfolding head_faults
    head-taken e = first-lower _ _ 10 16 r.name (ranks 10 16 (omega arith) (omega arith)) e

    pub head-crosses : cannot_declare earlier (spelled W r.name) ≡ false → crosses routine_limit k 1 ≡ true → First (record { number = 16; at = r.name }) (head_faults W earlier k r)
    unfolding head_faults
    head-crosses e g = first-higher _ _ 10 16 r.name e g

    pub head-fits : cannot_declare earlier (spelled W r.name) ≡ false → crosses routine_limit k 1 ≡ false → head_faults W earlier k r ≡ []
    unfolding head_faults
    head-fits e g = neither-rule _ _ 10 16 r.name e g

  -- the names' faults, one name apart from the others
  pub names-are : (earlier : List Text) (k : ℕ) (r : Routine) (rs : List Routine) → routine_name_faults W earlier k (r ∷ rs) ≡ head_faults W earlier k r ++ routine_name_faults W (spelled W r.name ∷ earlier) (suc k) rs
  unfolding routine_name_faults head_faults
  names-are earlier k r rs = refl

  rest-on : {rs : List Routine} {at to : ℕ} → RoutinesAt (sort_in W) (Parses (sort_in W)) rs at to → at ≤ to
  rest-on h = routines-grow (sort_in W) (Parses (sort_in W)) (grows W) h

  pub names-inside : (earlier : List Text) (k : ℕ) {rs : List Routine} {at to : ℕ} → RoutinesAt (sort_in W) (Parses (sort_in W)) rs at to → Inside at to (routine_name_faults W earlier k rs)
  unfolding routine_name_faults head_faults
  names-inside earlier k (none-starts s e) = no-fault
  names-inside earlier k (one-starts {a = r} {r = rs} s h l) =
      let a = name-after W h in
      let b = name_below W h in
      let c = rest-on l in
      widen (head-inside earlier k r) (omega arith) (omega arith) and widen (names-inside (spelled W r.name ∷ earlier) (suc k) l) (omega arith) (omega arith)

  module _ (m : Module) (sigs : List Signature) where
    pub routines-inside : (k : ℕ) {rs : List Routine} {at to : ℕ} → RoutinesAt (sort_in W) (Parses (sort_in W)) rs at to → Inside at to (all_routine_faults W m sigs k rs)
    unfolding all_routine_faults
    routines-inside k (none-starts s e) = no-fault
    routines-inside k (one-starts s h l) =
        let a = name-after W h in
        let b = name_below W h in
        let c = rest-on l in
        widen (routine-inside W m sigs k h) (omega arith) (omega arith) and widen (routines-inside (suc k) l) (omega arith) (omega arith)

-- ---- the module
module _ (W : List Word) (m : Module) where
  -- the data's faults, and then those of the routines
  pub faults-are : faults W m ≡ (module_data W m).faults ++ left_faults W m (data_texts W m.declared) 0 m.routines
  unfolding faults left_faults
  faults-are = append_assoc (module_data W m).faults _ _

  pub module-data-inside : {words : ℕ} (h : ModuleAt (sort_in W) (Parses (sort_in W)) m words) → Inside 2 h.begin (module_data W m).faults
  unfolding module_data
  module-data-inside h = rw (data-left W (module_filling W (routine_names W (data_texts W m.declared) 0 m.routines)) m.declared no_data refl) (data-inside W _ no_data h.declared)

  pub left-inside : (earlier : List Text) (k : ℕ) {rs : List Routine} {at to : ℕ} → RoutinesAt (sort_in W) (Parses (sort_in W)) rs at to → Inside at to (left_faults W m earlier k rs)
  unfolding left_faults
  left-inside earlier k h = names-inside W earlier k h and routines-inside W m (signatures W m 0 m.routines) k h

  -- all faults of a routine lie in its words
  pub own-inside : (earlier : List Text) (k : ℕ) {r : Routine} {at to : ℕ} → RoutineAt (sort_in W) (Parses (sort_in W)) r at to → Inside at to (own_faults W m earlier k r)
  unfolding own_faults
  own-inside earlier k {r} h =
      let sigs : List Signature = signatures W m 0 m.routines in
      let a = name-after W h in
      let b = name_below W h in
      widen (head-inside W earlier k r) (omega arith) (omega arith) and widen (routine-inside W m sigs k h) (omega arith) (omega arith)

  -- of a routine's name, or behind it
  pub found-in-head : {f : Fault} (earlier : List Text) (k : ℕ) {r : Routine} {at to : ℕ} → RoutineAt (sort_in W) (Parses (sort_in W)) r at to → First f (head_faults W earlier k r)
      → First f (own_faults W m earlier k r)
  unfolding own_faults
  found-in-head earlier k {r} h g = first-before g (head-inside W earlier k r) (routine-inside W m (signatures W m 0 m.routines) k h) (omega arith)

  pub found-behind : {f : Fault} (earlier : List Text) (k : ℕ) (r : Routine) → head_faults W earlier k r ≡ [] → First f (routine_faults W m (signatures W m 0 m.routines) k r)
      → First f (own_faults W m earlier k r)
  unfolding own_faults
  found-behind earlier k r e g = first-after e g

  pub nothing-in-own : (earlier : List Text) (k : ℕ) (r : Routine) → head_faults W earlier k r ≡ [] → routine_faults W m (signatures W m 0 m.routines) k r ≡ [] → own_faults W m earlier k r ≡ []
  unfolding own_faults
  nothing-in-own earlier k r e g = nothing-in-both e g

  -- ---- what is left
  pub left-are : (earlier : List Text) (k : ℕ) (r : Routine) (rs : List Routine) → head_faults W earlier k r ≡ [] → routine_faults W m (signatures W m 0 m.routines) k r ≡ []
      → left_faults W m earlier k (r ∷ rs) ≡ left_faults W m (spelled W r.name ∷ earlier) (suc k) rs
  unfolding left_faults all_routine_faults
  left-are earlier k r rs e g =
      let sigs : List Signature = signatures W m 0 m.routines in
      let names : List Fault = routine_name_faults W (spelled W r.name ∷ earlier) (suc k) rs in
      let others : List Fault = all_routine_faults W m sigs (suc k) rs in
      ap₂ (λ (x y : List Fault). x ++ y) (names-are W earlier k r rs ∙ ap (λ (x : List Fault). x ++ names) e) (ap (λ (x : List Fault). x ++ others) g)

  pub left-found : {f : Fault} (earlier : List Text) (k : ℕ) {r : Routine} {rs : List Routine} {at n to : ℕ} → RoutineAt (sort_in W) (Parses (sort_in W)) r at n → RoutinesAt (sort_in W) (Parses (sort_in W)) rs n to
      → First f (own_faults W m earlier k r) → First f (left_faults W m earlier k (r ∷ rs))
  unfolding left_faults all_routine_faults own_faults
  left-found {f} earlier k {r} {rs} h l g =
      let sigs : List Signature = signatures W m 0 m.routines in
      let b = first-inside g (own-inside earlier k h) in
      rw (names-are W earlier k r rs)
      (first-between (head_faults W earlier k r) (routine_faults W m sigs k r) (routine_name_faults W (spelled W r.name ∷ earlier) (suc k) rs) (all_routine_faults W m sigs (suc k) rs) g
      (leads-later f (names-inside W (spelled W r.name ∷ earlier) (suc k) l) (omega (arith, b.high))) (leads-later f (routines-inside W m sigs (suc k) l) (omega (arith, b.high))))

  -- ---- the walk over the module
  -- a fault is found in the data
  pub found-in-module : {f : Fault} {words : ℕ} → ModuleAt (sort_in W) (Parses (sort_in W)) m words → First f (module_data W m).faults → First f (faults W m)
  found-in-module h g = rw faults-are (first-before g (module-data-inside h) (left-inside (data_texts W m.declared) 0 h.routines) (omega arith))

  -- none is: all routines are left
  pub left-begin : {words : ℕ} (h : ModuleAt (sort_in W) (Parses (sort_in W)) m words) → (module_data W m).faults ≡ [] → Left W m (data_texts W m.declared) 0 m.routines h.begin h.end
  left-begin h e = record { stand = h.routines; left = faults-are ∙ ap (λ (l : List Fault). l ++ left_faults W m (data_texts W m.declared) 0 m.routines) e }

  module _ {earlier : List Text} {k : ℕ} where
    -- a fault is found in the next routine
    pub found-in-left : {f : Fault} {r : Routine} {rs : List Routine} {at n to : ℕ} → Left W m earlier k (r ∷ rs) at to → RoutineAt (sort_in W) (Parses (sort_in W)) r at n
        → RoutinesAt (sort_in W) (Parses (sort_in W)) rs n to → First f (own_faults W m earlier k r) → First f (faults W m)
    found-in-left {f} h s l g = subst (First f) (sym h.left) (left-found earlier k s l g)

    -- none is: the others are left
    pub left-on : {r : Routine} {rs : List Routine} {at n to : ℕ} → Left W m earlier k (r ∷ rs) at to → RoutinesAt (sort_in W) (Parses (sort_in W)) rs n to → head_faults W earlier k r ≡ []
        → routine_faults W m (signatures W m 0 m.routines) k r ≡ [] → Left W m (spelled W r.name ∷ earlier) (suc k) rs n to
    left-on {r} {rs} h l e g = record { stand = l; left = h.left ∙ left-are earlier k r rs e g }

    -- no routine is left
    pub left_end : {at to : ℕ} → Left W m earlier k [] at to → faults W m ≡ []
    unfolding left_faults routine_name_faults all_routine_faults
    left_end h = h.left
