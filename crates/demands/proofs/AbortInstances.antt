-- Request 6: no theorem on aborts holds for want of cases. Instances, which antt computes.
use mathlib.Core.Path.{◌≡◌, refl}
use mathlib.Core.List.{List, [], ◌∷◌, map}
use Prim.Native.Nat.{ℕ, zero, suc, ◌+◌, ◌≤◌}
use Prim.Native.String.{String}
use native.Mathlib.Omega.{arith}
use lib.ListN.{length, get_or}
use lib.IntN.{pos}
use Rattle.paper.specs.Expressions.{got, no}
use Rattle.paper.specs.Form.{formed}
use Rattle.paper.specs.Names.{sort_in}
use Rattle.paper.specs.Steps.{Program}
use Rattle.paper.specs.States.{State, Rooms}
use Rattle.paper.specs.Running.{goes_on, stopped, run, next_place, started}
use Rattle.paper.specs.Undoing.{Asked, undo_step}
use Rattle.paper.specs.Computing.{computed}
use Rattle.paper.specs.Examples.{lines, module_of, belt, undo_of}
use Rattle.paper.specs.Answer.{refused_by, accepted, verdict, Lent, answer}
use Rattle.demands.proofs.Alls.{all_map}
use Rattle.demands.proofs.MoreRoom.{demand-3}
use Rattle.demands.proofs.Instances.{lent, until, Pair, first, second, InDepth, more, trace, trace_of}
use Rattle.demands.specs.Vocabulary.{All, nothing, ◌also◌}
use Rattle.demands.specs.Demands.{with-equal, InsideBounds, MoreRoom, told, NeverChanged, Demand3}
use Rattle.demands.specs.Aborts.{undo_steps, undo_steps_of, routine_at, struck}
use Rattle.demands.specs.Fakes.{with_asked}

-- ---- Demand 1: the endings of runs with K
-- main's UNDO list reads two numbers
reads_two : List String
reads_two = undo_of ("WHILE TRUE DO" ∷ "ENDWHILE" ∷ []) ("TPReadNum n, \"open\";" ∷ "TPReadNum n, \"shut\";" ∷ [])

pub with_k : List Lent
with_k =
    -- fetch has an UNDO list, its caller has none, its caller's caller has one; an error ends fetch's list
    with_asked (until 7 50) (lent (lines belt) 100 16 [] 4096) ∷
    -- K is the allowance; it is 0; the allowance is below it
    with_asked (until 7 50) (lent (lines belt) 7 16 [] 4096) ∷
    with_asked (until 0 50) (lent (lines belt) 100 16 [] 4096) ∷
    with_asked (until 7 50) (lent (lines belt) 6 16 [] 4096) ∷
    -- in UNDO: 10, with as many steps as were allowed; 8; 7
    with_asked (until 7 3) (lent (lines belt) 100 16 [] 4096) ∷
    with_asked (until 7 0) (lent (lines belt) 100 16 [] 4096) ∷
    with_asked (until 7 50) (lent (lines belt) 100 16 [] 11) ∷
    with_asked (until 3 50) (lent (lines reads_two) 100 16 (pos 5 ∷ []) 4096) ∷
    -- the run dies before K, and runs no UNDO
    with_asked (until 5 50) (lent (lines (undo_of ("n := 1 DIV 0;" ∷ []) ("n := 5;" ∷ []))) 100 16 [] 4096) ∷ []

-- the ending and the steps
pub ended : Lent → ℕ × ℕ
ended l = ((answer l).fields.ending, (answer l).fields.steps)

pub ends-with-k : map ended with_k ≡ (9, 11) ∷ (9, 11) ∷ (9, 2) ∷ (5, 6) ∷ (10, 10) ∷ (10, 7) ∷ (8, 9) ∷ (7, 4) ∷ (3, 1) ∷ []
unfolding computed lent until lines belt module_of undo_of reads_two with_k ended
ends-with-k = refl

-- ---- Demand 3: two runs with one K, the second with more of one room.
pub record AbortPair : Type 0 where
  pub rooms : Pair
  pub k : ℕ
  pub undo : ℕ
  pub more-undo : ℕ

pub first_abort : AbortPair → Lent
first_abort p = with_asked (until p.k p.undo) (first p.rooms)

pub second_abort : AbortPair → Lent
second_abort p = with_asked (until p.k (p.undo + p.more-undo)) (second p.rooms)

-- The belt, with these steps and these bytes of output.
on_belt : (steps more-steps room more_room : ℕ) → Pair
on_belt n i o j = record { text = lines belt; steps = n; more-steps = i; depth = 16; more-depth = 0; inputs = []; more-inputs = []; room = o; more_room = j }

pub abort-pairs : List AbortPair
abort-pairs =
    -- one more UNDO step
    record { rooms = on_belt 100 0 4096 0; k = 7; undo = 3; more-undo = 1 } ∷
    -- the first allowance is below K, the second is K
    record { rooms = on_belt 6 1 4096 0; k = 7; undo = 50; more-undo = 0 } ∷
    -- more output room, and one more input
    record { rooms = on_belt 100 0 11 9; k = 7; undo = 50; more-undo = 0 } ∷
    record { rooms = record { text = lines reads_two; steps = 100; more-steps = 0; depth = 16; more-depth = 0; inputs = pos 5 ∷ []; more-inputs = pos 6 ∷ []; room = 4096; more_room = 0 }; k = 3; undo = 50; more-undo = 0 } ∷
    -- aborted: more of all
    record { rooms = on_belt 100 900 4096 1; k = 7; undo = 4; more-undo = 9 } ∷ []

-- 10, 5, 8, 7 and 9; then 9
pub firsts-end : map (λ p. (answer (first_abort p)).fields.ending) abort-pairs ≡ 10 ∷ 5 ∷ 8 ∷ 7 ∷ 9 ∷ []
unfolding computed lent until lines belt module_of undo_of reads_two first on_belt abort-pairs first_abort
firsts-end = refl

pub seconds-end : map (λ p. (answer (second_abort p)).fields.ending) abort-pairs ≡ 9 ∷ 9 ∷ 9 ∷ 9 ∷ 9 ∷ []
unfolding computed lent until lines belt module_of undo_of reads_two second on_belt abort-pairs second_abort
seconds-end = refl

-- K is no room
inside : (l : Lent) (asked : Asked) → InsideBounds l → InsideBounds (with_asked asked l)
inside l asked h = record { code = h.code; values = h.values; deep = h.deep; not-too-deep = h.not-too-deep }

more-abort : (p : AbortPair) → InDepth p.rooms → MoreRoom (first_abort p) (second_abort p)
unfolding first_abort second_abort until
more-abort p h =
    let r = more p.rooms h in
    let grows : p.undo ≤ p.undo + p.more-undo = omega arith in
    record {
      text = r.text;
      first-inside = inside _ _ r.first-inside;
      second-inside = inside _ _ r.second-inside;
      steps = r.steps;
      depth = r.depth;
      output = r.output;
      inputs = r.inputs;
      asked = with-equal refl grows;
    }

pub aborts-never-change : All (λ p. NeverChanged (told (answer (first_abort p))) (told (answer (second_abort p)))) abort-pairs
unfolding abort-pairs Demand3 on_belt
aborts-never-change = all_map (λ p h. demand-3 (first_abort p) (second_abort p) (more-abort p h)) in-depth
  where
    in-depth : All (λ p. InDepth p.rooms) abort-pairs
    in-depth = (tt, tt) also (tt, tt) also (tt, tt) also (tt, tt) also (tt, tt) also nothing

-- ---- What may be said of aborts
-- An abort, step by step: how many calls are live, and the place of the next step.
undo_trace : ℕ → Program → Rooms → State → List ℕ → List (ℕ × ℕ)
undo_trace zero P R s places = []
undo_trace (suc n) P R s places =
    elim s.calls [
      | [] ↦ []
      | c ∷ r ↦ (length s.calls, get_or places (next_place P s) 0) ∷ elim (undo_step P R c r s) [ goes_on s' ↦ undo_trace n P R s' places | stopped b e ↦ [] ]
    ]

-- Of the run of a text that is struck after k steps.
pub undo_trace_of : List ℕ → (k : ℕ) → List (ℕ × ℕ)
undo_trace_of text k =
    elim (verdict text) [
      | refused_by f ↦ []
      | accepted a ↦
          let R : Rooms = record { depth = 16; output = 4096; inputs = [] } in
          undo_trace 100 a.program R (struck a.program (run a.program R k (started a.program a.main)).state) (map (λ w. w.place) a.words)
    ]

-- Three calls are live. fetch's list begins at 198; its second statement, at 227, fails; work has no list; main's begins at 54 and ends at 74. No list runs twice, and none is passed over.
pub innermost-first : undo_trace_of (lines belt) 7 ≡ (3, 198) ∷ (3, 227) ∷ (1, 54) ∷ (1, 74) ∷ []
unfolding computed undo_trace undo_trace_of lines belt
innermost-first = refl

-- A FUNC's list ends at 134, and main's is next.
pub in-a-func-too : undo_trace_of (lines ("MODULE waits" ∷ "VAR num n;" ∷ "PROC main()" ∷ "n := get();" ∷ "UNDO" ∷ "n := n + 1;" ∷ "ENDPROC" ∷ "FUNC num get()" ∷ "WHILE TRUE DO" ∷ "ENDWHILE" ∷ "RETURN 1;" ∷ "UNDO" ∷ "n := 5;" ∷ "ENDFUNC" ∷ "ENDMODULE" ∷ [])) 3
    ≡ (2, 126) ∷ (2, 134) ∷ (1, 53) ∷ (1, 65) ∷ []
unfolding computed undo_trace undo_trace_of lines
in-a-func-too = refl

-- fetch raises an error, which main takes: fetch is dropped.
pub drops : List ℕ
drops =
    lines ("MODULE drops" ∷ "PROC main()" ∷ "fetch;" ∷ "WHILE TRUE DO" ∷ "ENDWHILE" ∷ "ERROR" ∷ "TRYNEXT;" ∷ "UNDO" ∷ "TPWrite \"main off\";" ∷ "ENDPROC" ∷ "PROC fetch()" ∷ "RAISE 5;" ∷ "UNDO" ∷ "TPWrite \"fetch off\";" ∷ "ENDPROC" ∷ "ENDMODULE" ∷ [])

-- K strikes before the error, after it, while main is in its ERROR list, and when it has left that.
pub dropped-by-error : map (undo_trace_of drops) (1 ∷ 2 ∷ 3 ∷ []) ≡ ((2, 130) ∷ (2, 151) ∷ (1, 75) ∷ (1, 95) ∷ []) ∷ ((1, 75) ∷ (1, 95) ∷ []) ∷ ((1, 75) ∷ (1, 95) ∷ []) ∷ []
unfolding computed undo_trace undo_trace_of lines drops
dropped-by-error = refl

-- A run without K: main's body ends at the word UNDO, at 46, and its UNDO list is not run.
pub not-without-k : trace_of (lines (undo_of ("n := 1;" ∷ []) ("n := 5;" ∷ []))) [] ≡ (1, 38) ∷ (1, 46) ∷ []
unfolding computed trace trace_of lines module_of undo_of
not-without-k = refl

-- The steps of a routine's UNDO list, each by its word.
pub undo_words : List ℕ → (k : ℕ) → List ℕ
undo_words text k =
    elim (verdict text) [
      | refused_by f ↦ []
      | accepted a ↦ elim (formed (sort_in a.words)) [ no number i ↦ [] | got m ↦ map (λ s. s.name) (undo_steps_of a.words m k) ]
    ]

-- main's has 2, that of fetch has 4, work has none
pub undo-lists : map (λ k. length (undo_words (lines belt) k)) (0 ∷ 1 ∷ 2 ∷ []) ≡ 2 ∷ 0 ∷ 4 ∷ []
unfolding computed undo_words lines belt undo_steps undo_steps_of routine_at
undo-lists = refl
