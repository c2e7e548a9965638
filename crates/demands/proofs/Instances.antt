-- No demand holds for want of cases: instances, which antt computes.
use mathlib.Core.Path.{◌≡◌, refl}
use mathlib.Core.Bool.{true, false}
use mathlib.Core.List.{List, [], ◌∷◌, ◌++◌, map}
use mathlib.Core.Option.{some}
use Prim.Native.Nat.{ℕ, zero, suc, ◌+◌, ◌≤◌}
use native.Mathlib.Omega.{arith}
use lib.Dec.{T, leb, leb→le}
use lib.ListN.{length, get_or, replicate, length-replicate}
use lib.IntN.{ℤ, pos}
use Rattle.paper.specs.Sorts.{NAME, plus, minus_sign, times}
use Rattle.paper.specs.Words.{reading}
use Rattle.paper.specs.Trees.{leaf, signed, joined}
use Rattle.paper.specs.Expressions.{got, expr}
use Rattle.paper.specs.Names.{sort_in}
use Rattle.paper.specs.Steps.{Program}
use Rattle.paper.specs.States.{State, Rooms}
use Rattle.paper.specs.Running.{passes, counting_step, goes_on, stopped, take_step, next_place, started}
use Rattle.paper.specs.Undoing.{Asked, plainly}
use Rattle.paper.specs.Computing.{computed}
use Rattle.paper.specs.Examples.{row, asking, fields, lines, tray, module_of, slips}
use Rattle.paper.specs.Answer.{store_words, depth_limit, refused_by, accepted, verdict, Lent, answer}
use Rattle.demands.proofs.MoreRoom.{demand-3}
use Rattle.demands.proofs.Alls.{all_map}
use Rattle.demands.specs.Vocabulary.{All, nothing, ◌also◌}
use Rattle.demands.specs.Demands.{without, MoreRoom, told, NeverChanged, Demand3, loop_between, value_after}

-- ---- Demand 1: each ending of the table, 0 to 8; those with K are in AbortInstances.
-- A text with the smallest stores.
unfoldable pub lent : List ℕ → (steps depth : ℕ) → (inputs : List ℤ) → (room : ℕ) → Lent
lent text steps depth inputs room =
    record { text = text; steps = steps; depth = depth; inputs = inputs; output = replicate room 0; code = replicate store_words (pos 0); values = replicate store_words (pos 0); asked = plainly }

-- K and the UNDO allowance.
unfoldable pub until : (k undo : ℕ) → Asked
until k undo = record { abort = some (record { at = k; undo = undo }) }

-- The text of a classroom slip: 1 is that of TRYNEXT, where fetch reads a part, fails and is dropped; 2 that of an error inside ERROR.
pub slip : ℕ → List ℕ
slip n = (get_or slips n (row (asking [] 0 0 []) (fields 0 0 0 0 0 0 0 0) [] [])).question.text

pub endings : List Lent
endings =
    -- refused: empty
    lent [] 10000 16 [] 4096 ∷
    -- the tray lesson; a module that says EXIT; an error inside ERROR; a FUNC that reaches its list's end
    lent (lines tray) 10000 16 [] 4096 ∷
    lent (lines (module_of [] ("EXIT;" ∷ []))) 10000 16 [] 4096 ∷
    lent (slip 2) 10000 16 [] 4096 ∷
    lent (lines ("MODULE m" ∷ "VAR num n;" ∷ "PROC main()" ∷ "n := f();" ∷ "ENDPROC" ∷ "FUNC num f()" ∷ "ENDFUNC" ∷ "ENDMODULE" ∷ [])) 10000 16 [] 4096 ∷
    -- the tray lesson with 9 steps, with depth 1; TPReadNum with no input; the tray lesson with 3 bytes of output
    lent (lines tray) 9 16 [] 4096 ∷
    lent (lines tray) 10000 1 [] 4096 ∷
    lent (slip 1) 10000 16 [] 4096 ∷
    lent (lines tray) 10000 16 [] 3 ∷ []

pub every-ending : map (λ l. (answer l).fields.ending) endings ≡ 0 ∷ 1 ∷ 2 ∷ 3 ∷ 4 ∷ 5 ∷ 6 ∷ 7 ∷ 8 ∷ []
unfolding computed lent slip endings slips row asking fields lines tray module_of
every-ending = refl

-- ---- Demand 3: two runs, the second with more of one room.
pub record Pair : Type 0 where
  pub text : List ℕ
  pub steps : ℕ
  pub more-steps : ℕ
  pub depth : ℕ
  pub more-depth : ℕ
  pub inputs : List ℤ
  pub more-inputs : List ℤ
  pub room : ℕ
  pub more_room : ℕ

unfoldable pub first : Pair → Lent
first p = lent p.text p.steps p.depth p.inputs p.room

unfoldable pub second : Pair → Lent
second p = lent p.text (p.steps + p.more-steps) (p.depth + p.more-depth) (p.inputs ++ p.more-inputs) (p.room + p.more_room)

pub pairs : List Pair
pairs =
    record { text = lines tray; steps = 9; more-steps = 1; depth = 16; more-depth = 0; inputs = []; more-inputs = []; room = 4096; more_room = 0 } ∷
    record { text = lines tray; steps = 10000; more-steps = 0; depth = 1; more-depth = 1; inputs = []; more-inputs = []; room = 4096; more_room = 0 } ∷
    record { text = slip 1; steps = 10000; more-steps = 0; depth = 16; more-depth = 0; inputs = []; more-inputs = pos 13 ∷ []; room = 4096; more_room = 0 } ∷
    record { text = lines tray; steps = 10000; more-steps = 0; depth = 16; more-depth = 0; inputs = []; more-inputs = []; room = 3; more_room = 1 } ∷ []

-- 5, 6, 7 and 8; then, with more of what was lacking, 1
pub broke-off : map (λ p. (answer (first p)).fields.ending) pairs ≡ 5 ∷ 6 ∷ 7 ∷ 8 ∷ []
unfolding computed lent slip pairs first slips row asking fields lines tray module_of
broke-off = refl

pub finished : map (λ p. (answer (second p)).fields.ending) pairs ≡ 1 ∷ 1 ∷ 1 ∷ 1 ∷ []
unfolding computed lent slip pairs second slips row asking fields lines tray module_of
finished = refl

-- The demand speaks of them: they are such pairs.
abbrev pub InDepth : Pair → Type 0
InDepth p = T (leb 1 p.depth) × T (leb (p.depth + p.more-depth) depth_limit)

store_long : store_words ≤ length (replicate store_words (pos 0))
store_long = omega (arith, length-replicate store_words (pos 0))

pub more : (p : Pair) → InDepth p → MoreRoom (first p) (second p)
unfolding first second lent
more p h =
    let low : 1 ≤ p.depth = leb→le 1 p.depth h.0 in
    let high : p.depth + p.more-depth ≤ depth_limit = leb→le _ _ h.1 in
    record {
      text = refl;
      first-inside = record { code = store_long; values = store_long; deep = low; not-too-deep = omega arith };
      second-inside = record { code = store_long; values = store_long; deep = omega arith; not-too-deep = high };
      steps = omega arith;
      depth = omega arith;
      output = omega (arith, length-replicate p.room (zero), length-replicate (p.room + p.more_room) (zero));
      inputs = record { rest = p.more-inputs; whole = refl };
      asked = without;
    }

pub pairs-never-change : All (λ p. NeverChanged (told (answer (first p))) (told (answer (second p)))) pairs
unfolding pairs Demand3
pairs-never-change = all_map (λ p h. demand-3 (first p) (second p) (more p h)) in-depth
  where
    in-depth : All InDepth pairs
    in-depth = (tt, tt) also (tt, tt) also (tt, tt) also (tt, tt) also nothing

-- ---- The lesson on errors
-- A run, step by step: how many calls are live, and the place of the next step.
unfoldable pub trace : ℕ → Program → Rooms → State → List ℕ → List (ℕ × ℕ)
trace zero P R s places = []
trace (suc n) P R s places =
    (length s.calls, get_or places (next_place P s) 0)
    ∷ elim (take_step P R s) [ goes_on s' ↦ trace n P R s' places | stopped b e ↦ [] ]

unfoldable pub trace_of : List ℕ → List ℤ → List (ℕ × ℕ)
trace_of text inputs =
    elim (verdict text) [
      | refused_by f ↦ []
      | accepted a ↦ trace 100 a.program (record { depth = 16; output = 4096; inputs = inputs }) (started a.program a.main) (map (λ w. w.place) a.words)
    ]

-- fetch is called at 52, reads 13, tests it and raises 5 at 150; main takes the error and is the only call; its TRYNEXT at 83 goes to 59, the statement after
-- the call of fetch, not into fetch, to 159.
pub fetch-is-gone : trace_of (slip 1) (pos 13 ∷ []) ≡ (1, 52) ∷ (2, 113) ∷ (2, 137) ∷ (2, 150) ∷ (1, 83) ∷ (1, 59) ∷ (1, 77) ∷ []
unfolding computed trace trace_of slip slips row asking fields lines tray module_of
fetch-is-gone = refl

-- p is called at 21, fails at 59 and is dropped; the call that is live at depth 2 later is another one, begun at 24.
pub another-call : trace_of (lines ("MODULE m" ∷ "PROC main()" ∷ "p;" ∷ "p;" ∷ "ERROR" ∷ "TRYNEXT;" ∷ "ENDPROC" ∷ "PROC p()" ∷ "RAISE 5;" ∷ "ENDPROC" ∷ "ENDMODULE" ∷ [])) []
    ≡ (1, 21) ∷ (2, 59) ∷ (1, 33) ∷ (1, 24) ∷ (2, 59) ∷ (1, 33) ∷ (1, 27) ∷ []
unfolding computed trace trace_of lines
another-call = refl

-- p fails at 79 and takes its error; the error at 99, in its ERROR list, ends the run, though main has an ERROR list at 45.
pub dies-in-list : trace_of (slip 2) [] ≡ (1, 36) ∷ (2, 79) ∷ (2, 99) ∷ []
unfolding computed trace trace_of slip slips row asking fields lines tray module_of
dies-in-list = refl

-- ---- The lesson on NOT and a leading sign
-- The slip's `NOT door AND ready` is words 24 to 27.
pub not-door-and-ready : expr (sort_in (reading (slip 0)).words) 24 ≡ got (signed 24 (joined 26 (leaf 25) (leaf 27)), 28)
unfolding computed slip slips row asking fields lines tray module_of
not-door-and-ready = refl

-- `- a * b + c`
pub minus-product-plus : expr (λ i. get_or (minus_sign ∷ NAME ∷ times ∷ NAME ∷ plus ∷ NAME ∷ []) i 0) 0 ≡ got (joined 4 (signed 0 (joined 2 (leaf 1) (leaf 3))) (leaf 5), 6)
unfolding computed
minus-product-plus = refl

-- ---- The lesson on FOR without STEP
-- From 3 to 1 the step is -1 and the values are 3, 2, 1; 0 does not pass. From 2 to 2 it is 1.
pub down-from-3 : map (λ (j : ℕ). value_after (pos 3) (counting_step (pos 3) (pos 1)) j) (0 ∷ 1 ∷ 2 ∷ 3 ∷ []) ≡ pos 3 ∷ pos 2 ∷ pos 1 ∷ pos 0 ∷ []
unfolding computed value_after
down-from-3 = refl

pub three-pass : map (λ (z : ℤ). passes z (loop_between (pos 3) (pos 1))) (pos 3 ∷ pos 2 ∷ pos 1 ∷ pos 0 ∷ []) ≡ true ∷ true ∷ true ∷ false ∷ []
unfolding computed
three-pass = refl

pub once-at-2 : counting_step (pos 2) (pos 2) ≡ pos 1
unfolding computed
once-at-2 = refl

-- A whole run: FOR at 38, the body at 59, three times; later tests are at FOR too; then main's end at 83.
pub three-rounds : trace_of (lines (module_of ("VAR num n;" ∷ []) ("FOR i FROM 3 TO 1 DO" ∷ "n := n * 10 + i;" ∷ "ENDFOR" ∷ []))) []
    ≡ (1, 38) ∷ (1, 59) ∷ (1, 38) ∷ (1, 59) ∷ (1, 38) ∷ (1, 59) ∷ (1, 38) ∷ (1, 83) ∷ []
unfolding computed trace trace_of lines module_of
three-rounds = refl
