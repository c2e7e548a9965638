use Prim.Native.Nat.{◌≤◌}
use native.Mathlib.Omega.{arith}
use Rattle.text_scanner.proofs.Strings.{Passing, left-start, left_open, quote-twice, closes, barred, character, no_room, passed_on}
use borrow.Author.Rules.{rules}
use Rattle.text_scanner.proofs.string.scan_string.Goals as goal
use Rattle.text_scanner.proofs.string.scan_string.Goals.{Joined-b-eq34, then-b-eq34+else-ends_before, else-b-eq34+else-is_barred}

-- where a quote that is doubled and any other byte meet
joined : (c : Joined-b-eq34) → Passing c.args.text.now c.loop-n.room c.if-b-eq34.bad c.if-b-eq34.n
joined c =
    elim c.if-b-eq34.branch [
      | then-b-eq34+else-ends_before w ↦ rw (w.bad-is, w.n-is) (quote-twice _ _ _ _ c.loop-n.invariant c.loop-n-test.true w.if-b-eq34.true _ w.ends_before.ensures w.if-ends_before.false)
      | else-b-eq34+else-is_barred w ↦ rw (w.bad-is, w.n-is) (character _ _ _ _ c.loop-n.invariant c.loop-n-test.true _ w.if-b-eq34.false w.is_barred.ensures _ w.note-bad.ensures w.if-is_barred.false)
    ]

onward : (c : Joined-b-eq34) → c.loop-n.n ≤ c.if-b-eq34.n
onward c = elim c.if-b-eq34.branch [ then-b-eq34+else-ends_before w ↦ omega (arith, w.n-is) | else-b-eq34+else-is_barred w ↦ omega (arith, w.n-is) ]

pub loop-n-init : goal.loop-n-init
loop-n-init c = search (rules, left-start)

pub returns-then-ends_before : goal.returns-then-ends_before
returns-then-ends_before c = search (rules, closes)

pub returns-then-is_barred : goal.returns-then-is_barred
returns-then-is_barred c = search (rules, barred)

pub returns-then-room-eq0 : goal.returns-then-room-eq0
returns-then-room-eq0 c = rw c.at_start-then-room-eq0.ensures (no_room _ _ _ _ (joined (goal.at.returns-then-room-eq0 c).Joined-b-eq34) c.if-room-eq0.true)

pub overflow_add-n-in-loop-n : goal.overflow_add-n-in-loop-n
overflow_add-n-in-loop-n c = let at = (joined (goal.at.overflow_add-n-in-loop-n c).Joined-b-eq34).place in search rules

pub loop-n-smaller : goal.loop-n-smaller
loop-n-smaller c = let j = (goal.at.loop-n-smaller c).Joined-b-eq34 in omega (arith, (joined j).place, onward j)

pub loop-n-preserved : goal.loop-n-preserved
loop-n-preserved c = passed_on _ _ _ _ (joined (goal.at.loop-n-preserved c).Joined-b-eq34) c.if-room-eq0.false

pub returns : goal.returns
returns c = search (rules, left_open)
