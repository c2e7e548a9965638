-- What the walk has written of routines stays true while it writes elsewhere, and routines are walked one after another.
use mathlib.Core.Path.{◌≡◌, refl, sym, ap, subst, ◌∙◌}
use mathlib.Core.Bool.{Bool}
use mathlib.Core.List.{List, [], ◌∷◌, ◌++◌}
use mathlib.Core.Option.{Option, none, some}
use Prim.Native.Nat.{ℕ, ◌+◌, ◌<◌, ◌≤◌}
use native.Mathlib.Omega.{arith}
use lib.ListN.{length, replicate}
use lib.IntN.{ℤ, pos}
use Rattle.paper.specs.Terms.{Memory}
use Rattle.paper.specs.Trees.{RoutineList, Routine, Module}
use Rattle.paper.specs.Names.{sort_in}
use Rattle.paper.specs.Declarations.{module_word_limit, routine_scopes, module_data}
use Rattle.paper.specs.Checks.{WhichList, the_body, the_handler, the_undo, is_some}
use Rattle.code.specs.Cells.{op_in, place_in, link_in}
use Rattle.code.specs.Steps.{Head, parts}
use Rattle.grammar.specs.Form.{Parses, ListBehindAt, a-list, ModuleAt}
use Rattle.grammar.proofs.Places.{declarations-grow}
use Rattle.faults.specs.Parts.{memory_of}
use Rattle.faults.proofs.Expressions.{grows}
use Rattle.check_links.specs.Resolved.{is_led}
use Rattle.check_links.specs.Raw.{Ground, SameWords, RawRoutineList}
use Rattle.check_links.proofs.Framing.{list-frame, same-part}
use Rattle.check_links.proofs.Orders.{list-order}
use Rattle.check_program.specs.Routines.{ground_for, words_in_all, RawLines, RawOptional, RawRoutine, RawRoutines, no-routine, a-routine, RawModule}
use Rattle.check_program.proofs.Orders.{lies}
use Rattle.check_program.proofs.DataChain.{rise-on, stays_same, data-stay, chain-kept, starts-kept}

-- ---- grounds
-- a ground that is a routine's own
pub own-ground : (g : Ground) (m : Module) (r : Routine) → g.m ≡ length (module_data g.W m).words → g.function ≡ is_some r.result → g.M ≡ memory_of g.W m r → g ≡ ground_for g m r
unfolding ground_for
own-ground g m r a b c =
    ap (λ (k : ℕ). record { m = k; function = g.function; text = g.text; R = g.R; W = g.W; M = g.M; offset = g.offset }) a
    ∙ ap (λ (k : Bool). record { m = length (module_data g.W m).words; function = k; text = g.text; R = g.R; W = g.W; M = g.M; offset = g.offset }) b
    ∙ ap (λ (k : Memory). record { m = length (module_data g.W m).words; function = is_some r.result; text = g.text; R = g.R; W = g.W; M = k; offset = g.offset }) c

-- so a list that was walked on that ground is one of the routine's
pub own-lines : (g : Ground) (C : List ℕ) (m : Module) (r : Routine) (which : WhichList) (l : RoutineList) (used at : ℕ) → g.m ≡ length (module_data g.W m).words → g.function ≡ is_some r.result → g.M ≡ memory_of g.W m r
    → RawRoutineList g (words_in_all g m r) C which l (routine_scopes g.W m r) used at → RawLines g C m r which l used at
own-lines g C m r which l used at a b c x = subst (λ (k : Ground). RawRoutineList k (words_in_all g m r) C which l (routine_scopes g.W m r) used at) (own-ground g m r a b c) x

-- ---- one routine
module _ (g : Ground) (C D : List ℕ) (m : Module) (r : Routine) (low to : ℕ) (same : SameWords C D low to) where
  pub lines-frame : (which : WhichList) (l : RoutineList) (used at : ℕ) → low ≤ at → l.closes < to → RawLines g C m r which l used at → RawLines g D m r which l used at
  lines-frame which l used at a z x =
      let o = list-order (ground_for g m r) (words_in_all g m r) C l.statements (routine_scopes g.W m r) used at l.closes x.list in
      record {
        list = list-frame (ground_for g m r) (words_in_all g m r) (words_in_all g m r) (omega arith) C D low to same l.statements (routine_scopes g.W m r) used at l.closes a (omega arith) x.list;
        op = sym (ap op_in (same.heads l.closes (omega arith) z)) ∙ x.op;
        place = sym (ap place_in (same.tails l.closes (omega arith) z)) ∙ x.place;
      }

  pub optional-frame : {sort : ℕ} (which : WhichList) (o : Option RoutineList) (used at end leads said : ℕ) → ListBehindAt (sort_in g.W) (Parses (sort_in g.W)) sort o at end → leads ≡ said → low ≤ at → end < to
      → RawOptional g C m r which o used at leads → RawOptional g D m r which o used at said
  unfolding RawOptional
  optional-frame which none used at end leads said f e a b x = sym e ∙ x
  optional-frame which (some l) used at end leads said (a-list w f) e a b x = record {
    first = sym e ∙ x.first;
    list = lines-frame which l used (at + 1) (omega arith) (omega (arith, f.closes)) x.list;
  }

pub routine-frame : (g : Ground) (C D : List ℕ) (m : Module) (r : Routine) (h : Head) (to : ℕ) → SameWords C D h.word to → RawRoutine g C m r h to → RawRoutine g D m r h to
routine-frame g C D m r h to same x =
    let o = lies g.W x.form in
    let w = h.word in
    let a = o.name in
    let b = o.opens in
    let c = o.body in
    let d = o.handler in
    let e = o.end in
    let z = o.after in
    let s = data-stay C D w to w (stays_same C D w to same) (omega arith) (omega arith) x.still in
    let rise = rise-on w x.form.begin to x.ds (omega arith) x.rise in
    let next = same.tails (w + 1) (omega arith) (omega arith) in
    let p = r.name + 1 in
    record {
      form = x.form;
      parameters = x.parameters;
      function = x.function;
      still = sym (ap (λ (k : ℕ). is_led (op_in k)) (same.heads w (omega arith) (omega arith))) ∙ x.still;
      still-next = sym (ap (λ (k : ℕ). is_led (op_in k)) (same.heads (w + 1) (omega arith) (omega arith))) ∙ x.still-next;
      starts = sym (ap place_in (same.tails w (omega arith) (omega arith))) ∙ x.starts;
      body = lines-frame g C D m r w to same the_body r.body _ x.form.begin (omega arith) (omega arith) x.body;
      handler = optional-frame g C D m r w to same the_handler r.handler _ _ _ _ _ x.form.handler (ap link_in next) (omega arith) (omega arith) x.handler;
      undo = optional-frame g C D m r w to same the_undo r.undo _ _ _ _ _ x.form.undo (ap place_in next) (omega arith) (omega arith) x.undo;
      ds = x.ds;
      chain = chain-kept C D to w x.ds p s rise x.chain;
      rise = x.rise;
      words = x.words ∙ ap (λ (l : List ℤ). replicate (length r.parameters) (pos 0) ++ l) (sym (starts-kept C D to w x.ds s rise x.chain.leads));
      opens = sym (ap op_in (same.heads p (omega arith) (omega arith))) ∙ x.opens;
      fors = sym (ap place_in (same.tails p (omega arith) (omega arith))) ∙ x.fors;
      room = x.room;
    }

-- ---- routines one after another
pub routine-order : (g : Ground) (C : List ℕ) (m : Module) (r : Routine) (h : Head) (to : ℕ) → RawRoutine g C m r h to → h.word + 1 < to
routine-order g C m r h to x =
    let o = lies g.W x.form in
    omega (arith, o.name, o.opens, o.body, o.handler, o.end, o.after)

pub routines-order : (g : Ground) (C : List ℕ) (m : Module) (rs : List Routine) (R : List Head) (at to : ℕ) → RawRoutines g C m rs R at to → at ≤ to
routines-order g C m rs R at to (no-routine e) = omega arith
routines-order g C m rs R at to (a-routine {r = r} {rs = qs} {h = h} {R = Q} {n = n} e x y) = omega (arith, routine-order g C m r h n x, routines-order g C m qs Q n to y)

pub routines-frame : (g : Ground) (C D : List ℕ) (m : Module) (rs : List Routine) (R : List Head) (at to : ℕ) → SameWords C D at to → RawRoutines g C m rs R at to → RawRoutines g D m rs R at to
routines-frame g C D m rs R at to same (no-routine e) = no-routine e
routines-frame g C D m rs R at to same (a-routine {r = r} {rs = qs} {h = h} {R = Q} {n = n} e x y) =
    let o = routine-order g C m r h n x in
    let p = routines-order g C m qs Q n to y in
    a-routine e
    (routine-frame g C D m r h n (same-part C D at to h.word n (omega arith) (omega arith) same) x)
    (routines-frame g C D m qs Q n to (same-part C D at to n to (omega arith) (omega arith) same) y)

-- one more at the end
pub routines-on : (g : Ground) (C : List ℕ) (m : Module) (rs : List Routine) (R : List Head) (at n to : ℕ) (r : Routine) (h : Head) → RawRoutines g C m rs R at n → h.word ≡ n → RawRoutine g C m r h to
    → RawRoutines g C m (rs ++ r ∷ []) (R ++ h ∷ []) at to
routines-on g C m rs R at n to r h (no-routine e) w x = a-routine {r = r} {h = h} {at = at} (omega arith) x (no-routine refl)
routines-on g C m rs R at n to r h (a-routine {r = q} {rs = qs} {h = j} {R = Q} {n = k} e y z) w x = a-routine {r = q} {h = j} {at = at} e y (routines-on g C m qs Q k n to r h z w x)

-- all of them
pub module-walked : (g : Ground) (C : List ℕ) (m : Module) (words : ℕ) (f : ModuleAt (sort_in g.W) (Parses (sort_in g.W)) m words) → RawRoutines g C m m.routines g.R f.begin f.end → words ≤ parts
    → length (module_data g.W m).words ≤ module_word_limit → RawModule g C m words
module-walked g C m words f x few room = record {
  begin = f.begin;
  end = f.end;
  routines = x;
  behind = omega (arith, declarations-grow (sort_in g.W) (Parses (sort_in g.W)) (grows g.W) f.declared);
  inside = omega (arith, f.after);
  few = few;
  room = room;
}
