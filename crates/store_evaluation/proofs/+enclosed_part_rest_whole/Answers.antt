use mathlib.Core.Path.{sym, ◌∙◌}
use mathlib.Core.Bool.{true, false}
use Prim.Native.Nat.{ℕ, ◌+◌, ◌<◌, ◌≤◌}
use native.Mathlib.Omega.{arith}
use lib.IntN.{ℤ}
use mir.Syntax.{w64}
use mir.Val.{SFits, to_z}
use borrow.Author.Rules.{rules}
use Rattle.store_numbers.proofs.Whole.{read}
use Rattle.store_evaluation.proofs.Numbers.{told}
use Rattle.store_evaluation.proofs.Operators.{failing-is}
use Rattle.store_evaluation.proofs.Operands.{small-read, small-leaf}
use Rattle.store_evaluation.proofs.Steps.{encloses-on, encloses, start-enclosed, start-fails, at_room, closes, inside-stands, nests-some, inside-in, inside-room, inside-less, short-leaf, entered, entered-short}
use Rattle.store_evaluation.proofs.Steps.{Opened, Sided, sided-read, evaluated-read, followed-read, followed-first, going-read, stands-in, stands-less, first_leaf, start-leaf, opened-follows, opened-evaluated}
use Rattle.store_evaluation.proofs.Steps.{goes-begun, ends, turn_in, turn-room, fused-leaf, side-leaf, turn-less, goes, turn-fails, shorts-told}
use Rattle.store_evaluation.proofs.Steps.{span-stands, span_less, side-span, right-fails, span-past, skip-known, skip-on, skip-last, last-stands}
use Rattle.store_evaluation.specs.Parts.{addresses}
use Rattle.store_evaluation.proofs.+enclosed_part_rest_whole.Goals as goal
use Rattle.store_evaluation.proofs.+enclosed_part_rest_whole.Goals.{rest-then-op-eq-SPAN+else-skips+else-not-is_value-2, rest-else-op-eq-SPAN, whole-then-w-le-CALL_SLOT, whole-else-w-le-CALL_SLOT+else-not-is_value, rest-Joined-op-eq-SPAN, whole-Joined-w-le-CALL_SLOT}

-- ---- an operand of several words

pub enclosed-opens-s-requires : goal.enclosed-opens-s-requires
enclosed-opens-s-requires t c =
    let f : c.args.l < addresses = c.ranges.l.fits in
    let r : c.args.at + 2 ≤ c.args.l = at_room _ _ c.args.values.now.now c.args.base _ _ _ c.requires.1 in
    let q : c.args.at + 2 < addresses = omega arith in
    q

pub enclosed-overflow_add-s : goal.enclosed-overflow_add-s
enclosed-overflow_add-s t c =
    let f : c.args.l < addresses = c.ranges.l.fits in
    let r : c.opens-s.result + 1 ≤ c.args.l = inside-room _ _ c.args.values.now.now c.args.base _ _ _ c.requires.1 _ c.opens-s.ensures in
    record { fits = omega arith }

pub enclosed-head-x-requires : goal.enclosed-head-x-requires
enclosed-head-x-requires t c = inside-in _ _ c.args.values.now.now c.args.base _ _ _ c.requires.1 _ c.opens-s.ensures

pub enclosed-leaf-requires : goal.enclosed-leaf-requires
enclosed-leaf-requires t c = (c.requires.0, short-leaf _ _ c.args.values.now.now c.args.base _ _ _ c.requires.1 _ c.opens-s.ensures c.if-l-s.true _ c.head-x.ensures (search rules))

pub enclosed-close-requires : goal.enclosed-close-requires
enclosed-close-requires t c = (c.requires.0, closes _ _ c.args.values.now.now c.args.base _ _ _ c.requires.1, small-leaf c.leaf.result (search rules) c.leaf.ensures)

pub enclosed-returns-then-l-s : goal.enclosed-returns-then-l-s
enclosed-returns-then-l-s t c = search (rules, entered-short)

pub enclosed-nests-requires : goal.enclosed-nests-requires
enclosed-nests-requires t c = search (rules, nests-some)

pub enclosed-whole-requires : goal.enclosed-whole-requires
enclosed-whole-requires t c =
    let inside = inside-less c.args.nesting _ c.args.values.now.now c.args.base _ _ _ c.requires.1 _ c.opens-s.ensures _ c.nests.ensures in
    (omega (arith, inside, c.decreases), (c.requires.0, inside-stands c.args.nesting _ c.args.values.now.now c.args.base _ _ _ c.requires.1 _ c.opens-s.ensures _ c.nests.ensures))

pub enclosed-close-requires-2 : goal.enclosed-close-requires-2
enclosed-close-requires-2 t c = (c.requires.0, closes _ _ c.args.values.now.now c.args.base _ _ _ c.requires.1, small-read c.whole.result (search rules) c.whole.ensures.small)

pub enclosed-returns : goal.enclosed-returns
enclosed-returns t c = search (rules, entered)

-- ---- a part

pub part-short-requires : goal.part-short-requires
part-short-requires t c = (search rules, search rules, search (rules, shorts-told))

pub part-returns-then-is_short : goal.part-returns-then-is_short
part-returns-then-is_short t c = search (rules, evaluated-read)

pub part-returns : goal.part-returns
part-returns t c = search (rules, evaluated-read)

-- ---- operators

pub rest-loop-i-init : goal.rest-loop-i-init
rest-loop-i-init t c = goes-begun _ _ _ _ c.args.first _ _ (search rules) c.requires.1

pub rest-head-w-requires : goal.rest-head-w-requires
rest-head-w-requires t c = search (rules, turn_in)

pub rest-overflow_add-r : goal.rest-overflow_add-r
rest-overflow_add-r t c =
    let f : c.args.to < addresses = c.ranges.to.fits in
    let r : c.loop-i.i + 2 ≤ c.args.to = turn-room _ _ _ _ _ _ _ _ _ c.loop-i.invariant c.loop-i-test.true in
    record { fits = omega arith }

pub rest-link-r-requires : goal.rest-link-r-requires
rest-link-r-requires t c = search (rules, turn_in)

pub rest-overflow_add-i : goal.rest-overflow_add-i
rest-overflow_add-i t c =
    let f : c.args.to < addresses = c.ranges.to.fits in
    let r : c.loop-i.i + 2 ≤ c.args.to = turn-room _ _ _ _ _ _ _ _ _ c.loop-i.invariant c.loop-i-test.true in
    record { fits = omega arith }

pub rest-whole-requires : goal.rest-whole-requires
rest-whole-requires t c = (
  omega (arith, c.decreases, c.if-r-to.true, span_less _ _ _ _ _ _ _ _ _ c.loop-i.invariant c.loop-i-test.true _ c.head-w.ensures c.if-op-eq-SPAN.true _ c.link-r.ensures.same),
  (c.requires.0, last-stands _ _ _ _ _ _ _ _ _ c.loop-i.invariant c.loop-i-test.true _ c.head-w.ensures c.if-op-eq-SPAN.true _ c.link-r.ensures.same c.if-r-to.true),
)

pub rest-returns-then-r-to : goal.rest-returns-then-r-to
rest-returns-then-r-to t c =
    followed-read _ _ _ _ _ _ _ (search rules) c.whole.result (search rules)
    (skip-last _ _ _ _ _ _ _ _ _ c.loop-i.invariant c.loop-i-test.true _ c.head-w.ensures c.if-op-eq-SPAN.true _ c.link-r.ensures.same (λ b. c.skips.ensures.right c.if-skips.true _ b (sym c.is_known.ensures ∙ c.if-not-is_known.true)) c.whole.result c.if-r-to.true c.whole.ensures)

pub rest-overflow_add-i-then-not-is_known : goal.rest-overflow_add-i-then-not-is_known
rest-overflow_add-i-then-not-is_known t c =
    let f : c.args.to < addresses = c.ranges.to.fits in
    let r : c.loop-i.i + 2 ≤ c.args.to = turn-room _ _ _ _ _ _ _ _ _ c.loop-i.invariant c.loop-i-test.true in
    record { fits = omega arith }

pub rest-part-acc-requires : goal.rest-part-acc-requires
rest-part-acc-requires t c = (
  omega (arith, c.decreases, span_less _ _ _ _ _ _ _ _ _ c.loop-i.invariant c.loop-i-test.true _ c.head-w.ensures c.if-op-eq-SPAN.true _ c.link-r.ensures.same),
  (c.requires.0, span-stands _ _ _ _ _ _ _ _ _ c.loop-i.invariant c.loop-i-test.true _ c.head-w.ensures c.if-op-eq-SPAN.true _ c.link-r.ensures.same),
)

pub rest-returns-then-not-is_value : goal.rest-returns-then-not-is_value
rest-returns-then-not-is_value t c =
    followed-read _ _ _ _ _ _ _ (search rules) c.part-acc.result (search rules)
    (right-fails _ _ _ _ _ _ _ _ _ c.loop-i.invariant c.loop-i-test.true _ c.head-w.ensures c.if-op-eq-SPAN.true _ c.link-r.ensures.same c.part-acc.result c.part-acc.ensures (sym c.is_known.ensures ∙ c.if-not-is_known.true)
    (told c.part-acc.result c.is_value.result false (search rules) c.is_value.ensures c.if-not-is_value.true))

pub rest-loop-i-smaller-else-not-is_value : goal.rest-loop-i-smaller-else-not-is_value
rest-loop-i-smaller-else-not-is_value t c = span-past _ _ _ _ _ _ _ _ _ c.loop-i.invariant c.loop-i-test.true _ c.head-w.ensures c.if-op-eq-SPAN.true _ c.link-r.ensures.same

pub rest-loop-i-preserved-else-not-is_value : goal.rest-loop-i-preserved-else-not-is_value
rest-loop-i-preserved-else-not-is_value t c =
    going-read _ _ _ _ _ _ _ c.part-acc.result _ (search rules)
    (skip-on _ _ _ _ _ _ _ _ _ c.loop-i.invariant c.loop-i-test.true _ c.head-w.ensures c.if-op-eq-SPAN.true _ c.link-r.ensures.same (λ b. c.skips.ensures.right c.if-skips.true _ b (sym c.is_known.ensures ∙ c.if-not-is_known.true)) c.part-acc.result c.part-acc.ensures
    (told c.part-acc.result c.is_value.result true (search rules) c.is_value.ensures c.if-not-is_value.false))

pub rest-loop-i-smaller-else-not-is_known : goal.rest-loop-i-smaller-else-not-is_known
rest-loop-i-smaller-else-not-is_known t c = span-past _ _ _ _ _ _ _ _ _ c.loop-i.invariant c.loop-i-test.true _ c.head-w.ensures c.if-op-eq-SPAN.true _ c.link-r.ensures.same

pub rest-loop-i-preserved-else-not-is_known : goal.rest-loop-i-preserved-else-not-is_known
rest-loop-i-preserved-else-not-is_known t c = skip-known _ _ _ _ _ _ _ _ _ c.loop-i.invariant c.loop-i-test.true _ c.head-w.ensures c.if-op-eq-SPAN.true _ c.link-r.ensures.same (sym c.is_known.ensures ∙ c.if-not-is_known.false)

pub rest-overflow_add-i-then-op-eq-SPAN : goal.rest-overflow_add-i-then-op-eq-SPAN
rest-overflow_add-i-then-op-eq-SPAN t c =
    let f : c.args.to < addresses = c.ranges.to.fits in
    let r : c.loop-i.i + 2 ≤ c.args.to = turn-room _ _ _ _ _ _ _ _ _ c.loop-i.invariant c.loop-i-test.true in
    record { fits = omega arith }

pub rest-part-b-requires : goal.rest-part-b-requires
rest-part-b-requires t c = (
  omega (arith, c.decreases, span_less _ _ _ _ _ _ _ _ _ c.loop-i.invariant c.loop-i-test.true _ c.head-w.ensures c.if-op-eq-SPAN.true _ c.link-r.ensures.same),
  (c.requires.0, span-stands _ _ _ _ _ _ _ _ _ c.loop-i.invariant c.loop-i-test.true _ c.head-w.ensures c.if-op-eq-SPAN.true _ c.link-r.ensures.same),
)

pub rest-returns-then-not-is_value-2 : goal.rest-returns-then-not-is_value-2
rest-returns-then-not-is_value-2 t c =
    let plain = c.skips.ensures.plain c.if-skips.false _ in
    followed-read _ _ _ _ _ _ _ (search rules) c.part-b.result (search rules)
    (right-fails _ _ _ _ _ _ _ _ _ c.loop-i.invariant c.loop-i-test.true _ c.head-w.ensures c.if-op-eq-SPAN.true _ c.link-r.ensures.same c.part-b.result c.part-b.ensures plain
    (told c.part-b.result c.is_value-then-op-eq-SPAN.result false (search rules) c.is_value-then-op-eq-SPAN.ensures c.if-not-is_value-2.true))

pub rest-leaf-b-requires : goal.rest-leaf-b-requires
rest-leaf-b-requires t c = (c.requires.0, fused-leaf _ _ _ _ _ _ _ _ _ c.loop-i.invariant c.loop-i-test.true _ c.head-w.ensures c.if-op-eq-SPAN.false (search rules))

-- the right side was read, a span or a leaf
abbrev IsSided : (t : ℕ) (c : rest-Joined-op-eq-SPAN t) (b : ℤ) (r : ℕ) → Type 0
IsSided t c b r =
    Sided c.args.nesting c.args.code.now.now c.args.values.now.now c.args.base (read c.args.first) c.args.start c.args.to (to_z w64 c.loop-i.acc-bits) c.loop-i.i c.loop-i.invariant c.loop-i-test.true
    c.head-w.result c.head-w.ensures b r

-- as it is handed on
sided-so : (t : ℕ) (c : rest-Joined-op-eq-SPAN t) (b : ℤ) (r : ℕ) → SFits w64 b → IsSided t c b r → IsSided t c (read b) r
sided-so t c b r f d =
    sided-read c.args.nesting c.args.code.now.now c.args.values.now.now c.args.base (read c.args.first) c.args.start c.args.to (to_z w64 c.loop-i.acc-bits) c.loop-i.i c.loop-i.invariant c.loop-i-test.true
    c.head-w.result c.head-w.ensures b r f d

sided : (t : ℕ) (c : rest-Joined-op-eq-SPAN t) → IsSided t c (to_z w64 c.if-op-eq-SPAN.b-bits) c.if-op-eq-SPAN.r
sided t c =
    elim c.if-op-eq-SPAN.branch [
      | rest-then-op-eq-SPAN+else-skips+else-not-is_value-2 w ↦
          rw (w.b-is, w.r-is) (sided-so t c w.part-b.result w.link-r.result (search rules)
          (side-span c.args.nesting c.args.code.now.now c.args.values.now.now c.args.base (read c.args.first) c.args.start c.args.to (to_z w64 c.loop-i.acc-bits) c.loop-i.i c.loop-i.invariant c.loop-i-test.true
          c.head-w.result c.head-w.ensures w.if-op-eq-SPAN.true w.link-r.result w.link-r.ensures.same w.part-b.result w.part-b.ensures
          (told w.part-b.result w.is_value-then-op-eq-SPAN.result true (search rules) w.is_value-then-op-eq-SPAN.ensures w.if-not-is_value-2.false)))
      | rest-else-op-eq-SPAN w ↦
          rw (w.b-is, w.r-is) (sided-so t c w.leaf-b.result _ (search rules)
          (side-leaf c.args.nesting c.args.code.now.now c.args.values.now.now c.args.base (read c.args.first) c.args.start c.args.to (to_z w64 c.loop-i.acc-bits) c.loop-i.i c.loop-i.invariant c.loop-i-test.true
          c.head-w.result c.head-w.ensures w.if-op-eq-SPAN.false w.leaf-b.result w.leaf-b.ensures))
    ]

pub rest-operate-z-requires : goal.rest-operate-z-requires
rest-operate-z-requires t c = (c.loop-i.invariant.small, (sided t c).small)

pub rest-returns-then-is_failing : goal.rest-returns-then-is_failing
rest-returns-then-is_failing t c =
    followed-read _ _ _ _ _ _ _ (search rules) c.failure.result (search rules)
    (turn-fails _ _ _ _ _ _ _ _ _ c.loop-i.invariant c.loop-i-test.true _ c.head-w.ensures _ _ (sided t (goal.at.rest-returns-then-is_failing t c).Joined-op-eq-SPAN) c.operate-z.result c.operate-z.ensures
    (failing-is _ c.operate-z.result c.is_failing.result true (search rules) c.is_failing.ensures c.if-is_failing.true) c.failure.result c.failure.ensures)

pub rest-loop-i-smaller : goal.rest-loop-i-smaller
rest-loop-i-smaller t c = turn-less _ _ _ _ _ _ _ _ _ c.loop-i.invariant c.loop-i-test.true _ c.head-w.ensures _ _ (sided t (goal.at.rest-loop-i-smaller t c).Joined-op-eq-SPAN)

pub rest-loop-i-preserved : goal.rest-loop-i-preserved
rest-loop-i-preserved t c =
    going-read _ _ _ _ _ _ _ c.operate-z.result _ (search rules)
    (goes _ _ _ _ _ _ _ _ _ c.loop-i.invariant c.loop-i-test.true _ c.head-w.ensures _ _ (sided t (goal.at.rest-loop-i-preserved t c).Joined-op-eq-SPAN) c.operate-z.result c.operate-z.ensures
    (failing-is _ c.operate-z.result c.is_failing.result false (search rules) c.is_failing.ensures c.if-is_failing.false))

pub rest-returns : goal.rest-returns
rest-returns t c = followed-first _ _ _ _ _ _ _ _ (search rules) (ends _ _ _ _ _ _ _ _ _ c.loop-i.invariant c.loop-i-test.false)

-- ---- a span

pub whole-head-w-requires : goal.whole-head-w-requires
whole-head-w-requires t c = search (rules, stands-in)

pub whole-overflow_add-i : goal.whole-overflow_add-i
whole-overflow_add-i t c =
    let f : c.args.to < addresses = c.ranges.to.fits in
    let r : c.args.from < c.args.to = stands-less _ _ c.args.values.now.now c.args.base _ _ c.requires.1 in
    record { fits = omega arith }

pub whole-leaf-acc-requires : goal.whole-leaf-acc-requires
whole-leaf-acc-requires t c = (c.requires.0, first_leaf _ _ c.args.values.now.now c.args.base _ _ c.requires.1 _ c.head-w.ensures c.if-w-le-CALL_SLOT.true (search rules))

pub whole-link-l-requires : goal.whole-link-l-requires
whole-link-l-requires t c = search (rules, stands-in)

pub whole-enclosed-acc-requires : goal.whole-enclosed-acc-requires
whole-enclosed-acc-requires t c = (
  omega (arith, c.decreases, encloses-on _ _ c.args.values.now.now c.args.base _ _ c.requires.1 _ c.head-w.ensures c.if-w-le-CALL_SLOT.false _ c.link-l.ensures.same),
  (c.requires.0, encloses _ _ c.args.values.now.now c.args.base _ _ c.requires.1 _ c.head-w.ensures c.if-w-le-CALL_SLOT.false _ c.link-l.ensures.same),
)

pub whole-returns-then-not-is_value : goal.whole-returns-then-not-is_value
whole-returns-then-not-is_value t c =
    evaluated-read _ _ _ _ _ _ c.enclosed-acc.result (search rules)
    (start-fails _ _ c.args.values.now.now c.args.base _ _ c.requires.1 _ c.head-w.ensures c.if-w-le-CALL_SLOT.false _ c.link-l.ensures.same c.enclosed-acc.result c.enclosed-acc.ensures
    (told c.enclosed-acc.result c.is_value.result false (search rules) c.is_value.ensures c.if-not-is_value.true))

pub whole-ends-i-requires : goal.whole-ends-i-requires
whole-ends-i-requires t c = omega (arith, c.link-l.ensures.small)

abbrev IsOpened : (t : ℕ) (c : whole-Joined-w-le-CALL_SLOT t) (a i : ℕ) → Type 0
IsOpened t c a i = Opened _ _ c.args.values.now.now c.args.base _ _ c.requires.1 (to_z w64 a) i

opened : (t : ℕ) (c : whole-Joined-w-le-CALL_SLOT t) → IsOpened t c c.if-w-le-CALL_SLOT.acc-bits c.if-w-le-CALL_SLOT.i
opened t c =
    elim c.if-w-le-CALL_SLOT.branch [
      | whole-then-w-le-CALL_SLOT w ↦ rw (w.acc-is, w.i-is) (start-leaf _ _ c.args.values.now.now c.args.base _ _ c.requires.1 c.head-w.result c.head-w.ensures w.if-w-le-CALL_SLOT.true w.leaf-acc.result (search rules) w.leaf-acc.ensures)
      | whole-else-w-le-CALL_SLOT+else-not-is_value w ↦
          rw (w.acc-is, w.i-is, w.ends-i.ensures)
          (start-enclosed _ _ c.args.values.now.now c.args.base _ _ c.requires.1 c.head-w.result c.head-w.ensures w.if-w-le-CALL_SLOT.false w.link-l.result w.link-l.ensures.same
          w.enclosed-acc.result w.enclosed-acc.ensures (search rules)
          (told w.enclosed-acc.result w.is_value.result true (search rules) w.is_value.ensures w.if-not-is_value.false))
    ]

pub whole-rest-requires : goal.whole-rest-requires
whole-rest-requires t c =
    (omega (arith, c.decreases, (opened t c).after, (opened t c).on), (c.requires.0, opened-follows _ _ c.args.values.now.now c.args.base _ _ c.requires.1 _ _ (opened t c)))

pub whole-returns : goal.whole-returns
whole-returns t c =
    evaluated-read _ _ _ _ _ _ c.rest.result (search rules)
    (opened-evaluated _ _ c.args.values.now.now c.args.base _ _ c.requires.1 _ _ (opened t (goal.at.whole-returns t c).Joined-w-le-CALL_SLOT) c.rest.result c.rest.ensures)
