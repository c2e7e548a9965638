-- Assignments of a value.
use mathlib.Core.Path.{◌≡◌, refl, sym, ap, ap₂, ◌∙◌}
use mathlib.Core.Bool.{Bool, false}
use mathlib.Core.List.{List}
use mathlib.Core.Option.{Option, some}
use Prim.Native.Nat.{ℕ, suc, ◌+◌, ◌*◌, ◌<◌, ◌≤◌}
use native.Mathlib.Omega.{arith}
use lib.ListN.{length}
use mir.Syntax.{w64}
use mir.Val.{Fits}
use borrow.Author.Tests.{eq-eqb, ne_eqb, lt-ltb, le-ltb, le-leb}
use Rattle.laws.proofs.Tests.{by_last}
use Rattle.paper.specs.Sorts.{becomes}
use Rattle.paper.specs.Terms.{Term}
use Rattle.paper.specs.Trees.{Target}
use Rattle.paper.specs.Expressions.{nestings, disjunctions}
use Rattle.paper.specs.Types.{of_type}
use Rattle.paper.specs.Steps.{Spot, scalar, element_of, spot_of}
use Rattle.store_cells.specs.Cells.{cells_of}
use Rattle.code.specs.Cells.{op_in, value_in, link_in, head_at, op_at, value_at, link_at}
use Rattle.code.specs.Spans.{guard, ◌then◌, first_in, size_in, term_in}
use Rattle.code.specs.Steps.{a_target, Head, scalar_in, element_in, target_in}
use Rattle.code.proofs.Options.{goes}
use Rattle.code.proofs.Spanning.{span-grows}
use Rattle.check_names.specs.Meanings.{ref_with}
use Rattle.check_expressions.specs.Judgements.{Judged}
use Rattle.std.specs.Prelude.{Ok, Err}
use Rattle.layout.specs.Broken.{as_fault}
use Rattle.layout.specs.declared.rules.Breach.{Breach}
use Rattle.check_expressions.specs.Known.{Loaded, InRoom}
use Rattle.store_writing.specs.Promises.{Kept, Linked}
use Rattle.check_expressions.specs.Answers.{Typed}
use Rattle.check_expressions.specs.Answers as expressions
use Rattle.store_writing.proofs.Keeping.{cell-above, head-below, head-above, place-below, kept-wider, kept_on, term-below, term-above}
use Rattle.check_expressions.proofs.Starts.{loaded-part}
use Rattle.faults.specs.First.{First}
use Rattle.faults.proofs.Expressions.{grows}
use Rattle.check_links.specs.Raw.{Quiet, RawTarget, RawAssign}
use Rattle.check_links.proofs.Ops.{low-still}
use Rattle.check_around.specs.Around.{Around, ground_of}
use Rattle.check_around.specs.Answers.{Fine}
use Rattle.check_simple.specs.Parts.{Aims, scalar-aims, element-aims, ValueSide, AssignWritten, ValueAssigned}
use Rattle.check_simple.proofs.Expressions.{no-operator, level-semicolon, quiet-below, quiet-above, Told, asks, typed-told, typed-first, typed_long, answer-first, answer-fine, raw-term, raw-term-after}
use Rattle.check_simple.proofs.Arguments.{link-below}
use Rattle.paper.specs.Words.{word_limit}
use Rattle.layout.specs.declared.types.ValueType.{ValueType}

pub link-above : {before after : List ℕ} {x y : ℕ} → Kept before after x y → (i : ℕ) → y ≤ i → link_at (cells_of after) i ≡ link_at (cells_of before) i
link-above k i h = ap link_in (cell-above k (i * 2 + 1) (omega arith))

-- ---- what stands behind a target's first word
module _ {before after : List ℕ} {x y : ℕ} (c : Kept before after x y) (m n k v : ℕ) (spot : Spot) (at to : ℕ) where
  pub aims-below : to ≤ x → Aims m n (cells_of before) k v spot at to → Aims m n (cells_of after) k v spot at to
  aims-below h (scalar-aims s) = scalar-aims s
  aims-below h (element-aims e) =
      let g = span-grows m n (cells_of before) (at + 2) e.z e.t e.index in
      element-aims (record {
        own = e.own;
        op-is = e.op-is;
        few = e.few;
        room = e.room;
        z = e.z;
        t = e.t;
        link-is = link-below c (at + 1) (omega (arith, e.end, h, g)) ∙ e.link-is;
        index = term-below c m n (at + 2) e.z e.t (omega (arith, e.end, h)) e.index;
        spot_is = e.spot_is;
        end = e.end;
      })

  pub aims-above : y ≤ at + 1 → Aims m n (cells_of before) k v spot at to → Aims m n (cells_of after) k v spot at to
  aims-above h (scalar-aims s) = scalar-aims s
  aims-above h (element-aims e) = element-aims (record {
    own = e.own;
    op-is = e.op-is;
    few = e.few;
    room = e.room;
    z = e.z;
    t = e.t;
    link-is = link-above c (at + 1) h ∙ e.link-is;
    index = term-above c m n (at + 2) e.z e.t (omega arith) e.index;
    spot_is = e.spot_is;
    end = e.end;
  })

-- ---- a target as a run reads it
module _ (m n : ℕ) (fn : Bool) (text : List ℕ) (R : List Head) (C : List ℕ) (ops at : ℕ) where
  scalar_read : (own v : ℕ) → own < 2 → op_at C at ≡ ops + own → value_at C at ≡ v → InRoom m n (ref_with own v) 1 → scalar_in m n fn text R C ops at ≡ some (scalar (ref_with own v))
  unfolding scalar_in guard InRoom
  scalar_read own v few o e r =
      by_last own 1 few
      (λ z. rw (ne_eqb (op_at C at) ops (λ q. omega arith), e, z, scalar_in) (rw (lt-ltb v n (omega (arith, rw z at r)))))
      (λ l. let z : own ≡ 0 = omega arith in rw (eq-eqb (op_at C at) ops (omega arith), e, z, scalar_in) (rw (lt-ltb v m (omega (arith, rw z at r)))))

  element-read : (own v : ℕ) (t : Term) → own < 2 → op_at C at ≡ ops + (own + 2) → value_at C at ≡ v → InRoom m n (ref_with own (first_in v)) (size_in v)
      → element_in m n fn text R C ops at t ≡ some (element_of (ref_with own (first_in v)) (size_in v) t)
  unfolding element_in guard InRoom
  element-read own v t few o e r =
      by_last own 1 few
      (λ z. rw (ne_eqb (op_at C at) (ops + 2) (λ q. omega arith), e, z, element_in) (rw (le-leb (first_in v + size_in v) n (rw z at r))))
      (λ l. let z : own ≡ 0 = omega arith in rw (eq-eqb (op_at C at) (ops + 2) (omega arith), e, z, element_in) (rw (le-leb (first_in v + size_in v) m (rw z at r))))

  target-read : (k v : ℕ) (spot : Spot) (to : ℕ) → op_at C at ≡ ops + k → value_at C at ≡ v → Aims m n C k v spot at to → target_in m n fn text R C ops at ≡ some (spot, to)
  unfolding target_in
  target-read k v spot to o e (scalar-aims s) =
      rw (lt-ltb (op_at C at) (ops + 2) (omega (arith, s.few)), target_in)
      (goes (scalar_in m n fn text R C ops at) (λ x. some (x, at + 1)) (scalar (ref_with k v)) (scalar_read k v s.few o e s.room)
      ∙ ap₂ {C = Option (Spot × ℕ)} (λ (x : Spot) (i : ℕ). some (x, i)) (sym s.spot_is) (sym s.end))
  target-read k v spot to o e (element-aims s) =
      let op : op_at C at ≡ ops + (s.own + 2) = o ∙ ap (λ (x : ℕ). ops + x) s.op-is in
      rw (le-ltb (op_at C at) (ops + 2) (omega (arith, op)), target_in)
      (goes (term_in m n C (at + 2) (link_at C (at + 1))) (λ t. element_in m n fn text R C ops at t then (λ x. some (x, link_at C (at + 1) + 1))) s.t (ap (term_in m n C (at + 2)) s.link-is ∙ s.index)
      ∙ goes (element_in m n fn text R C ops at s.t) (λ x. some (x, link_at C (at + 1) + 1)) (element_of (ref_with s.own (first_in v)) (size_in v) s.t) (element-read s.own v s.t s.few op e s.room)
      ∙ ap₂ {C = Option (Spot × ℕ)} (λ (x : Spot) (i : ℕ). some (x, i)) (sym s.spot_is) (ap (λ (i : ℕ). i + 1) s.link-is ∙ sym s.end))

pub aims-few : (m n : ℕ) (C : List ℕ) (k v : ℕ) (spot : Spot) (at to : ℕ) → Aims m n C k v spot at to → k < 4
aims-few m n C k v spot at to (scalar-aims s) = omega (arith, s.few)
aims-few m n C k v spot at to (element-aims s) = omega (arith, s.few, s.op-is)

pub raw-target : {text values : List ℕ} (a : Around text values) (C : List ℕ) (ops : ℕ) (t : Target) (i b k v : ℕ) → op_at C i ≡ ops + k → value_at C i ≡ v
    → Aims a.known.m a.known.n C k v (spot_of a.known.W a.known.S t) i b → Quiet C (i + 1) b → RawTarget (ground_of a) a.known.n C a.known.S ops t i b
unfolding ground_of
raw-target a C ops t i b k v o e s q = record {
  low = omega (arith, o);
  high = omega (arith, o, aims-few a.known.m a.known.n C k v (spot_of a.known.W a.known.S t) i b s);
  is = target-read a.known.m a.known.n _ _ _ C ops i k v (spot_of a.known.W a.known.S t) b o e s;
  quiet = q;
}

-- ---- target := e
module _ (code values : List ℕ) (wants : ValueType) (i b : ℕ) (g : ValueSide code values wants i b) where
  value-load : Loaded g.around.known.W code (b + 1) g.to
  value-load = loaded-part g.around.known.W code b g.to (b + 1) g.to g.unread.loaded (omega arith) (omega arith)

  value_on : b + 1 < g.to
  value_on = grows g.around.known.W (suc nestings) (b + 1) g.e g.to g.value

  pub value-stands : expressions.Stands code values disjunctions (b + 1)
  value-stands = asks g.around.known g.around.sorts (suc nestings) (b + 1) g.e g.to g.value value-load (no-operator _ _ g.ends level-semicolon) (omega arith)

  pub value-small : b + 1 < word_limit
  value-small = omega (arith, value_on, value-load.last)

  module _ (mid : List ℕ) (r : Judged) (o : Typed code values mid false wants (b + 1) r) where
    value-long : length mid ≡ length code
    value-long = typed_long g.around.known g.around.sorts (suc nestings) (b + 1) g.e g.to g.value value-load (no-operator _ _ g.ends level-semicolon) (omega arith) mid wants g.type g.wants_is r o

    value-first : (broken : Breach) → r ≡ Err broken → First (as_fault broken) (of_type g.around.known.W g.type g.around.known.S g.e)
    value-first broken e =
        typed-first g.around.known g.around.sorts (suc nestings) (b + 1) g.e g.to g.value value-load (no-operator _ _ g.ends level-semicolon) (omega arith) mid wants g.type g.wants_is r o broken e

    module _ (bool : ValueType) (end : ℕ) (e : r ≡ Ok (bool, end)) where
      value-told : Told g.around.known (of_type g.around.known.W g.type g.around.known.S g.e) code mid g.e (b + 1) g.to end
      value-told = typed-told g.around.known g.around.sorts (suc nestings) (b + 1) g.e g.to g.value value-load (no-operator _ _ g.ends level-semicolon) (omega arith) mid wants g.type g.wants_is r o bool end e

      pub value-fits : Fits w64 (end + 1)
      value-fits = record { fits = omega (arith, value-told.next-is, value-load.last) }

      pub value-end : (end < word_limit) × (b * 8 + 8 ≤ length mid) × (i * 8 + 8 ≤ length mid)
      value-end = (omega (arith, value-told.next-is, value-load.last), omega (arith, value_on, value-load.room, value-long), omega (arith, g.before, value_on, value-load.room, value-long))

      module _ (one : List ℕ) (l : Linked mid one b (op_at (cells_of mid) b) (value_at (cells_of mid) b) end) (after : List ℕ)
          (x : Linked one after i (op_at (cells_of one) i) (value_at (cells_of one) i) (end + 1)) where
        -- words up to b are those of before
        value-kept : Kept code one b g.to
        value-kept = kept_on (kept-wider value-told.kept b g.to (omega arith) (omega arith)) (kept-wider l.kept b g.to (omega arith) (omega (arith, value_on)))

        head-same : head_at (cells_of one) i ≡ head_at (cells_of code) i
        head-same = head-below value-kept i g.before

        becomes-op : op_at (cells_of after) b ≡ becomes
        becomes-op =
            ap op_in (head-above x.kept b (omega (arith, g.before))) ∙ l.op-is ∙ ap op_in (head-below value-told.kept b (omega arith))
            ∙ (g.unread.loaded.words b (omega arith) (omega (arith, value_on))).sort ∙ g.becomes-is

        value-fine : Fine (of_type g.around.known.W g.type g.around.known.S g.e) code after i (g.to + 1) (end + 1)
            (AssignWritten (RawAssign (ground_of g.around) g.around.known.n (cells_of after) g.around.known.S g.t g.e i (g.to + 1) (g.to + 1)) code after i)
        value-fine =
            let known = g.around.known in
            let spot = spot_of known.W known.S g.t in
            record {
              none = value-told.none;
              next-is = ap (λ (y : ℕ). y + 1) value-told.next-is;
              written = record {
                is = record {
                  b = b;
                  z = g.to;
                  target = raw-target g.around (cells_of after) a_target g.t i b g.target.k g.target.v (x.op-is ∙ ap op_in head-same ∙ g.target.op-is) (x.value-is ∙ ap value_in head-same ∙ g.target.value-is)
                      (aims-above x.kept known.m known.n g.target.k g.target.v spot i b (omega arith)
                      (aims-below value-kept known.m known.n g.target.k g.target.v spot i b (omega arith) g.target.aims))
                      (quiet-above x.kept (i + 1) b (omega arith) (quiet-below value-kept (i + 1) b (omega arith) g.target.quiet));
                  term = record {
                    link = link-above x.kept b (omega (arith, g.before)) ∙ l.link-is ∙ value-told.next-is;
                    still = low-still (op_at (cells_of after) b) (omega (arith, becomes-op));
                    term = raw-term-after g.around one after g.e (b + 1) g.to i (i + 1) x.kept (omega (arith, g.before))
                        (raw-term-after g.around mid one g.e (b + 1) g.to b (b + 1) l.kept (omega arith) (raw-term g.around _ code mid g.e (b + 1) g.to end value-told));
                  };
                  within = omega arith;
                  leaves = x.link-is ∙ ap (λ (y : ℕ). y + 1) value-told.next-is;
                };
                place = x.place_is ∙ place-below value-kept i g.before;
              };
              kept = kept_on (kept-wider value-kept i (g.to + 1) (omega (arith, g.before)) (omega arith)) (kept-wider x.kept i (g.to + 1) (omega arith) (omega (arith, g.before, value_on)));
            }

module _ (code values : List ℕ) (wants : ValueType) (i b : ℕ) (mid : List ℕ) (r : Judged) (o : Typed code values mid false wants (b + 1) r) where
  pub assigned-faulty : (broken : Breach) → r ≡ Err broken → ValueAssigned code values mid wants i b (Err broken)
  assigned-faulty broken e = record {
    is = λ g. answer-first _ code mid i (g.to + 1) _ (Err broken) broken refl (value-long code values wants i b g mid r o) (value-first code values wants i b g mid r o broken e);
  }

  pub assigned-typed : (bool : ValueType) (end : ℕ) → r ≡ Ok (bool, end) → (one : List ℕ) → Linked mid one b (op_at (cells_of mid) b) (value_at (cells_of mid) b) end → (after : List ℕ)
      → Linked one after i (op_at (cells_of one) i) (value_at (cells_of one) i) (end + 1) → ValueAssigned code values after wants i b (Ok (end + 1))
  assigned-typed bool end e one l after x = record { is = λ g. answer-fine _ code after i (g.to + 1) _ (end + 1) (value-fine code values wants i b g mid r o bool end e one l after x) }
