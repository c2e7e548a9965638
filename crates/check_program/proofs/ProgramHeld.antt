-- The code store holds the paper's program: what the walk has left, resolved, is read back.
use mathlib.Core.Path.{◌≡◌, refl, sym, ap, ◌∙◌}
use mathlib.Core.List.{List, ◌++◌, map}
use mathlib.Core.Option.{Option, none, some}
use Prim.Native.Nat.{ℕ, zero, suc, ◌+◌, ◌<◌, ◌≤◌}
use native.Mathlib.Numerals.{add-one}
use native.Mathlib.Omega.{arith}
use lib.ListN.{length, get_or, replicate}
use lib.IntN.{ℤ, pos}
use borrow.Author.Tests.{eq-eqb, ne_eqb}
use Rattle.paper.specs.Words.{Word}
use Rattle.paper.specs.Terms.{Memory}
use Rattle.paper.specs.Trees.{RoutineList, Routine, Module}
use Rattle.paper.specs.Names.{Scopes, sort_in}
use Rattle.paper.specs.Declarations.{module_data, routine_scopes}
use Rattle.paper.specs.Checks.{WhichList, the_body, the_handler, the_undo, is_some}
use Rattle.paper.specs.Steps.{Step, end_list, end_undo, begin, first_step, list_steps, optional_steps, optional_start, code_of, program_of}
use Rattle.paper.specs.Running.{no_code, code_at}
use Rattle.store_cells.specs.Cells.{cells_of}
use Rattle.code.specs.Cells.{op_in, place_in, link_in, op_at}
use Rattle.code.specs.Steps.{Head, no_head, numbered, step_in, parts}
use Rattle.code.specs.Closed.{Every, done, also, SmallName}
use Rattle.code.specs.Holds.{known, optionally, CalleeIn, HoldsRoutine, Holds}
use Rattle.grammar.specs.Places.{Within, no-step-left, one-step}
use Rattle.grammar.specs.Form.{Parses, ListBehindAt}
use Rattle.grammar.proofs.Places.{routine-list-within}
use Rattle.faults.specs.Parts.{memory_of}
use Rattle.faults.proofs.Expressions.{grows}
use Rattle.check_links.specs.Resolved.{Resolved}
use Rattle.check_links.specs.Raw.{Ground, ending_of}
use Rattle.check_links.proofs.Walked.{every-both, steps-read, callees-read, starts-at}
use Rattle.store_writing.specs.Chains.{starts_in}
use Rattle.check_program.specs.Routines.{ground_for, slots_of_data, words_in_all, used_by_body, used_by_both, RawOptional, RawRoutine, RawRoutines, no-routine, a-routine, RawModule}
use Rattle.check_program.proofs.ClosedSteps.{closed, loops-fit}
use Rattle.check_program.proofs.DataChain.{parameters-still, rise-all, rise-on, chain-reads, Stays, stays-resolved, data-stay, chain-kept, starts-kept}
use Rattle.check_program.proofs.Orders.{lies, behind-form, behind-raw, optional-every}
use Rattle.check_program.proofs.WalkStays.{routine-order, routines-order}

-- ---- small parts
within-small : (a b : ℕ) {l : List Step} → 0 < a → b < parts → Within a b l → Every SmallName l
within-small a b h g no-step-left = done
within-small a b h g (one-step {s = s} x y z) = also {s = s} (omega arith, omega arith) (within-small a b h g z)

optionally-next : (n : ℕ) → optionally (n + 1) ≡ some (n + 1)
unfolding optionally
optionally-next n = rw add-one

-- ---- a routine
module _ (g : Ground) (m : Module) (before after : List ℕ) (words : ℕ) (few : words ≤ parts) (resolved : Resolved before after words) where
  abbrev C : List ℕ
  C = cells_of before

  abbrev D : List ℕ
  D = cells_of after

  -- what is said of a list that may be there or not is where it begins
  optional-starts : (r : Routine) (which : WhichList) (o : Option RoutineList) (used closes leads said : ℕ) → RawOptional g C m r which o used closes leads → said ≡ leads
      → optional_start g.W o ≡ optionally said
  unfolding RawOptional optionally optional_start first_step
  optional-starts r which none used closes leads said x e = rw (e ∙ x)
  optional-starts r which (some l) used closes leads said x e =
      rw (e ∙ x.first)
      (ap some (starts-at (ground_for g m r) (words_in_all g m r) C l.statements (routine_scopes g.W m r) used (closes + 1) l.closes x.list.list)
      ∙ sym (optionally-next closes))

  module _ (r : Routine) (h : Head) (to : ℕ) (x : RawRoutine g C m r h to) (inside : to < words) (behind : 0 < h.word) where
    abbrev W : List Word
    W = g.W

    abbrev G : Ground
    G = ground_for g m r

    abbrev S : Scopes
    S = routine_scopes g.W m r

    abbrev M : Memory
    M = memory_of g.W m r

    abbrev n : ℕ
    n = slots_of_data g m r

    body-inside : r.body.closes + 1 < words
    body-inside =
        let o = lies W x.form in
        omega (arith, o.handler, o.end, o.after)

    -- what holds of the steps of the three lists holds of all steps
    lists : (A : Step → Type 0) → Every A (list_steps W end_list M S n r.body) → Every A (optional_steps W end_list M S (used_by_body g m r) r.handler)
        → Every A (optional_steps W end_undo M S (used_by_both g m r) r.undo) → Every A (code_of W m r).steps
    unfolding code_of
    lists A a b c = every-both _ _ (every-both _ _ a b) c

    abbrev Reads : Step → Type 0
    Reads s = step_in (length (module_data W m).words) (words_in_all g m r) (is_some r.result) g.text g.R D s.name ≡ some (known g.offset s)

    abbrev Calls : Step → Type 0
    Calls s = CalleeIn g.R g.offset D s.does

    -- a list behind the word that closes another, if it is there
    module _ (which : WhichList) {sort : ℕ} (o : Option RoutineList) (used at end leads : ℕ) (f : ListBehindAt (sort_in W) (Parses (sort_in W)) sort o at end) (ends : end < to) where
      ends-inside : (l : RoutineList) → o ≡ some l → l.closes + 1 < words
      ends-inside l e = omega (arith, (behind-form (sort_in W) (Parses (sort_in W)) o at end l e f).closes)

      module _ (y : RawOptional g C m r which o used at leads) where
        optional-read : Every Reads (optional_steps W (ending_of which) M S used o)
        unfolding ground_for
        optional-read =
            optional-every Reads W (ending_of which) M S used o
            (λ l e. steps-read G (words_in_all g m r) before after words few resolved which l S used (at + 1) (behind-raw g C m r which o used at leads l e y).list (ends-inside l e))

        optional-callees : Every Calls (optional_steps W (ending_of which) M S used o)
        unfolding ground_for
        optional-callees =
            optional-every Calls W (ending_of which) M S used o
            (λ l e. callees-read G (words_in_all g m r) before after words few resolved which l S used (at + 1) (behind-raw g C m r which o used at leads l e y).list (ends-inside l e))

      optional-small : h.word ≤ at → Every SmallName (optional_steps W (ending_of which) M S used o)
      optional-small low =
          optional-every SmallName W (ending_of which) M S used o (λ l e.
          within-small h.word to behind (omega arith)
          (routine-list-within (sort_in W) (Parses (sort_in W)) (grows W) W M h.word to (behind-form (sort_in W) (Parses (sort_in W)) o at end l e f) (omega arith) ends (ending_of which) S used))

    handler-ends : x.form.undo_at < to
    handler-ends =
        let o = lies W x.form in
        omega (arith, o.end, o.after)

    undo-ends : x.form.end < to
    undo-ends = omega (arith, x.form.after)

    all_read : Every Reads (code_of W m r).steps
    unfolding ground_for ending_of
    all_read =
        lists Reads (steps-read G (words_in_all g m r) before after words few resolved the_body r.body S n x.form.begin x.body body-inside)
        (optional-read the_handler r.handler (used_by_body g m r) r.body.closes x.form.undo_at _ x.form.handler handler-ends x.handler)
        (optional-read the_undo r.undo (used_by_both g m r) x.form.undo_at x.form.end _ x.form.undo undo-ends x.undo)

    all-callees : Every Calls (code_of W m r).steps
    unfolding ground_for ending_of
    all-callees =
        lists Calls (callees-read G (words_in_all g m r) before after words few resolved the_body r.body S n x.form.begin x.body body-inside)
        (optional-callees the_handler r.handler (used_by_body g m r) r.body.closes x.form.undo_at _ x.form.handler handler-ends x.handler)
        (optional-callees the_undo r.undo (used_by_both g m r) x.form.undo_at x.form.end _ x.form.undo undo-ends x.undo)

    all_small : Every SmallName (code_of W m r).steps
    unfolding ending_of
    all_small =
        let o = lies W x.form in
        let a = o.name in
        let b = o.opens in
        let c = o.body in
        let d = o.handler in
        lists SmallName
        (within-small h.word to behind (omega arith)
        (routine-list-within (sort_in W) (Parses (sort_in W)) (grows W) W M h.word to x.form.body (omega arith) (omega (arith, handler-ends)) end_list S n))
        (optional-small the_handler r.handler (used_by_body g m r) r.body.closes x.form.undo_at 0 x.form.handler handler-ends (omega arith))
        (optional-small the_undo r.undo (used_by_both g m r) x.form.undo_at x.form.end 0 x.form.undo undo-ends (omega arith))

    pub routine-holds : HoldsRoutine (length (module_data W m).words) g.text g.R g.offset D h (code_of W m r)
    unfolding code_of first_step
    routine-holds =
        let o = lies W x.form in
        let a = o.name in
        let b = o.opens in
        let c = o.body in
        let d = o.handler in
        let z = handler-ends in
        let w = h.word in
        let p = r.name + 1 in
        let s : Stays C D 0 words = stays-resolved g before after words few resolved in
        let rise = rise-on w x.form.begin words x.ds (omega arith) x.rise in
        let stay = data-stay C D 0 words w s (omega arith) (omega arith) x.still in
        let chain = chain-kept C D words w x.ds p stay rise x.chain in
        let kept = starts-kept C D words w x.ds stay rise x.chain.leads in
        let still = parameters-still (op_at C p) x.opens in
        record {
          function-is = x.function;
          start_is = starts-at G (words_in_all g m r) C r.body.statements S n x.form.begin r.body.closes x.body.list ∙ sym (ap place_in (s.tails w (omega arith) (omega arith) x.still) ∙ x.starts);
          handler-is = optional-starts r the_handler r.handler _ _ _ _ x.handler (ap link_in (s.tails (w + 1) (omega arith) (omega arith) x.still-next));
          undo-is = optional-starts r the_undo r.undo _ _ _ _ x.undo (ap place_in (s.tails (w + 1) (omega arith) (omega arith) x.still-next));
          starts = starts_in D x.ds;
          opens = p;
          data_is = chain-reads D p (ap op_in (s.heads p (omega arith) (omega arith) still) ∙ x.opens) parts w x.ds (omega (arith, rise-all w words x.ds rise)) chain.leads chain.ends;
          words_are = x.words ∙ ap (λ (l : List ℤ). replicate (length r.parameters) (pos 0) ++ l) (sym kept) ∙ ap (λ (k : ℕ). replicate k (pos 0) ++ starts_in D x.ds) (sym x.parameters);
          fors-are = sym (ap place_in (s.tails p (omega arith) (omega arith) still) ∙ x.fors);
          room = x.room;
          steps-are = all_read;
          callees-are = all-callees;
          closed = closed W m r;
          small = all_small;
          loops-fit = loops-fit W m r;
          head_small = omega arith;
        }

  -- ---- the routines
  as_many : (rs : List Routine) (R : List Head) (at to : ℕ) → RawRoutines g C m rs R at to → length R ≡ length (map (code_of g.W m) rs)
  as_many rs R at to (no-routine e) = refl
  as_many rs R at to (a-routine {rs = qs} {R = Q} {n = k} e x y) = ap suc (as_many qs Q k to y)

  later : (rs : List Routine) (R : List Head) (at to k : ℕ) → RawRoutines g C m rs R at to → k < length R → at ≤ (get_or R k no_head).word
  later rs R at to k (no-routine e) h = absurd (omega arith)
  later rs R at to zero (a-routine e x y) h = omega arith
  later rs R at to (suc k) (a-routine {r = r} {rs = qs} {h = j} {R = Q} {n = n} e x y) h =
      omega (arith, later qs Q n to k y (omega arith), routine-order g C m r j n x)

  apart : (rs : List Routine) (R : List Head) (at to k : ℕ) → RawRoutines g C m rs R at to → k < length R → numbered R (get_or R k no_head).word ≡ k
  unfolding numbered
  apart rs R at to k (no-routine e) h = absurd (omega arith)
  apart rs R at to zero (a-routine {h = j} e x y) h = rw (eq-eqb j.word j.word refl, numbered)
  apart rs R at to (suc k) (a-routine {r = r} {rs = qs} {h = j} {R = Q} {n = n} e x y) h =
      let l = later qs Q n to k y (omega arith) in
      let o = routine-order g C m r j n x in
      rw (ne_eqb j.word (get_or Q k no_head).word (λ q. omega arith), numbered) (ap suc (apart qs Q n to k y (omega arith)))

  each : (rs : List Routine) (R : List Head) (at to k : ℕ) → RawRoutines g C m rs R at to → 0 < at → to < words → k < length R
      → HoldsRoutine (length (module_data g.W m).words) g.text g.R g.offset D (get_or R k no_head) (get_or (map (code_of g.W m) rs) k no_code)
  each rs R at to k (no-routine e) b i h = absurd (omega arith)
  each rs R at to zero (a-routine {r = r} {rs = qs} {h = j} {R = Q} {n = n} e x y) b i h =
      routine-holds r j n x (omega (arith, routines-order g C m qs Q n to y)) (omega arith)
  each rs R at to (suc k) (a-routine {r = r} {rs = qs} {h = j} {R = Q} {n = n} e x y) b i h =
      each qs Q n to k y (omega (arith, routine-order g C m r j n x)) i (omega arith)

-- ---- the module
pub module-holds : (g : Ground) (m : Module) (before after : List ℕ) (words : ℕ) → RawModule g (cells_of before) m words → Resolved before after words → Holds g.text g.R g.offset (cells_of after) (program_of g.W m)
unfolding program_of code_at
module-holds g m before after words x resolved = record {
  as_many = as_many g m before after words x.few resolved m.routines g.R x.begin x.end x.routines;
  room = x.room;
  apart = λ k h. apart g m before after words x.few resolved m.routines g.R x.begin x.end k x.routines h;
  routines = λ k h. each g m before after words x.few resolved m.routines g.R x.begin x.end k x.routines x.behind x.inside h;
}
