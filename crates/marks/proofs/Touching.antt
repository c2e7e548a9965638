-- What the marking call leaves in the answer.
use mathlib.Core.Path.{◌≡◌, refl, sym, ap, ◌∙◌}
use mathlib.Core.Bool.{Bool, true, false, ◌||◌}
use mathlib.Core.List.{List, ◌++◌}
use mathlib.Core.Option.{Option, none, some}
use Prim.Native.Nat.{ℕ, ◌+◌, ◌≤◌}
use native.Mathlib.Omega.{arith}
use lib.Dec.{ltb}
use lib.ListN.{length, drop, length-append, length-drop}
use borrow.Author.Tests.{ltb-false}
use Rattle.laws.proofs.Tests.{test, false-true}
use Rattle.paper.specs.Answer.{record_size, low_first, pendant_call}
use Rattle.marks.specs.Marks.{Marking, mark_size, mark_bytes, MarkLent, plain_call, answer_after, mark_of, too_few, mark_call}
use Rattle.marks.specs.Theorems.{AnswerTouched, Touching}

-- neither is
pub or-second : (a b : Bool) → (a || b) ≡ false → b ≡ false
or-second true b e = false-true (sym e)
or-second false b e = e

pub or-first : (a b : Bool) → (a || b) ≡ false → a ≡ false
or-first true b e = false-true (sym e)
or-first false b e = refl

-- ---- the answer
bytes-long : (m : Marking) → length (mark_bytes m) ≡ mark_size
unfolding mark_bytes low_first
bytes-long m = refl

after-long : (m : Option Marking) (answer : List ℕ) → mark_size ≤ length answer → length (answer_after m answer) ≡ length answer
unfolding answer_after
after-long none answer h = refl
after-long (some m) answer h = omega (arith, length-append (mark_bytes m) (drop mark_size answer), length-drop mark_size answer, bytes-long m)

after-past : (m : Option Marking) (answer : List ℕ) → drop mark_size (answer_after m answer) ≡ drop mark_size answer
unfolding answer_after mark_bytes low_first
after-past none answer = refl
after-past (some m) answer = refl

module _ (l : MarkLent) where
  call-few : too_few l ≡ true → (mark_call l).answer ≡ l.answer
  unfolding mark_call
  call-few t = rw (t, mark_call)

  call-made : too_few l ≡ false → (mark_call l).answer ≡ answer_after (mark_of l) l.answer
  unfolding mark_call
  call-made t = rw (t, mark_call)

  call-is : too_few l ≡ false → (mark_call l).call ≡ pendant_call (plain_call l)
  unfolding mark_call
  call-is t = rw (t, mark_call)

  enough : too_few l ≡ false → mark_size ≤ length l.answer
  unfolding too_few
  enough t = ltb-false (length l.answer) mark_size (or-second (ltb (length l.fields) record_size) _ t)

  unmarked : mark_of l ≡ none → answer_after (mark_of l) l.answer ≡ l.answer
  unfolding answer_after
  unmarked e = ap (λ (m : Option Marking). answer_after m l.answer) e

pub touching : Touching
unfolding Touching
touching l =
    test (too_few l)
    (λ t. let e = call-few l t in record { as-the-call = call-is l; long = ap length e; past = ap (drop mark_size) e; unmarked = λ m. e })
    (λ t. let e = call-made l t in record {
      as-the-call = call-is l;
      long = ap length e ∙ after-long (mark_of l) l.answer (enough l t);
      past = ap (drop mark_size) e ∙ after-past (mark_of l) l.answer;
      unmarked = λ m. e ∙ unmarked l m;
    })
