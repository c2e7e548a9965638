-- Demand 2. The properties are general; of each fake there is a bench; and of each there are two calls, which antt computes, that the definition tells apart and
-- the fake does not.
use mathlib.Core.Path.{◌≡◌, refl, sym, ap, ◌∙◌, subst, fun_ext}
use mathlib.Core.Bool.{Bool, true, false}
use mathlib.Core.List.{List, [], ◌∷◌, ◌++◌, map}
use mathlib.Core.Option.{none, some}
use Prim.Native.Nat.{ℕ}
use native.Mathlib.Omega.{arith}
use lib.ListN.{length, get_or, drop}
use lib.IntN.{ℤ, pos, nat_abs}
use Rattle.paper.specs.Sorts.{bytes}
use Rattle.paper.specs.Steps.{Program, Action}
use Rattle.paper.specs.States.{Call, State, Rooms}
use Rattle.paper.specs.Running.{Ended, Outcome, goes_on, stopped, started, settled, take_step, next_place, perform, writing, adding, run, new_call, next_step}
use Rattle.paper.specs.Undoing.{run_abort, run_asked}
use Rattle.paper.specs.Computing.{computed}
use Rattle.paper.specs.Examples.{fields, lines, module_of, belt}
use Rattle.paper.specs.Answer.{Accepted, Verdict, refused_by, accepted, verdict, Result, refused_with, carried_out, ran_to, too_small, bad_depth, result, Lent, Answer, question_of, store_after, answer}
use Rattle.demands.proofs.Instances.{lent, until}
use Rattle.demands.specs.Fakes.{Bench, AnswersAsDefined, with_text, with_inputs, with_asked, with_count, RefusesEvery, refuser, SameRecord, repeater, TouchesNoOutput, silent, TouchesNoData, idler}
use Rattle.demands.specs.Fakes.{first_step_of, Plain, assigns, tpwrites, BeginsPlain, up_to_second, FakesWhatFollows, closed_after_first, skipper, FakesWhatIsRead, returned, one_step, pretender, InventsSteps}
use Rattle.demands.specs.Fakes.{inventor, IgnoresK, deaf, HasWhatItShould, Demand2}

-- ---- a plain first statement does the same whatever there is to read
module _ (P : Program) (d o : ℕ) (i j : List ℤ) where
  abbrev with : List ℤ → Rooms
  with inputs = record { depth = d; output = o; inputs = inputs }

  plain_step : (c : Call) (r : List Call) (place after : ℕ) (a : Action) (s : State) → Plain a → perform P (with i) c r place after a s ≡ perform P (with j) c r place after a s
  unfolding perform writing adding
  plain_step c r place after a s (assigns t e) = refl
  plain_step c r place after a s (tpwrites text none) = refl
  plain_step c r place after a s (tpwrites text (some e)) = refl

  plain-run : (main : ℕ) → Plain (next_step P (new_call P main [] none)).does → run P (with i) 1 (started P main) ≡ run P (with j) 1 (started P main)
  unfolding run take_step started
  plain-run main h =
      let c = new_call P main [] none in
      let n = next_step P c in
      ap (λ e. left (settled P n.place [] (started P main) e)) (plain_step c [] n.place n.after n.does (started P main) h)
    where
      -- what is left when no step more may be taken
      left : Outcome → Ended
      left o = elim o [ goes_on s ↦ record { ending = 5; place = next_place P s; state = s } | stopped b e ↦ e ]

-- ---- from results to answers
-- What a result leaves in the memory lent.
abbrev answered : Lent → (small : Bool) → Result → Answer
answered l small r =
    elim small [
      | true ↦ record { fields = r.fields; output = l.output; code = l.code; values = l.values }
      | false ↦ record { fields = r.fields; output = r.written ++ drop (length r.written) l.output; code = store_after [] l.code; values = store_after r.kept l.values }
    ]

-- A result but for its step count.
abbrev uncounted : Result → Result
uncounted r =
    let f = r.fields in
    record { fields = record { ending = f.ending; refusal = f.refusal; offset = f.offset; steps = 0; errno = f.errno; output = f.output; inputs = f.inputs; words = f.words }; written = r.written; kept = r.kept }

uncounted-answered : (l : Lent) (small : Bool) (r : Result) → with_count 0 (answered l small r) ≡ answered l small (uncounted r)
uncounted-answered l true r = refl
uncounted-answered l false r = refl

module _ (l : Lent) (i : List ℤ) where
  -- all else is the same in the answers if it is in the results
  rest-same : uncounted (result (question_of (with_inputs i l))) ≡ uncounted (result (question_of l)) → with_count 0 (answer (with_inputs i l)) ≡ with_count 0 (answer l)
  unfolding answer question_of too_small
  rest-same e =
      let small = too_small (question_of l) in
      let r = result (question_of l) in
      let r' = result (question_of (with_inputs i l)) in
      uncounted-answered l small r' ∙ ap (answered l small) e ∙ sym (uncounted-answered l small r)

  one-step-carried : (v : Verdict) (m : Accepted) → v ≡ accepted m → Plain (first_step_of m).does
      → carried_out (question_of (one_step (with_inputs i l))) v ≡ carried_out (question_of (one_step l)) v
  unfolding carried_out question_of first_step_of run_asked run_abort
  one-step-carried v m e h = rw e (ap (ran_to l.text m.words) (plain-run m.program l.depth (length l.output) i l.inputs m.main h))

  one-step : BeginsPlain l.text → answer (one_step (with_inputs i l)) ≡ answer (one_step l)
  unfolding answer result question_of too_small bad_depth
  one-step b = ap (λ x. answered l (too_small (question_of l)) (inside x)) (one-step-carried (verdict l.text) b.m b.is-module b.plain)
    where
      inside : Result → Result
      inside x =
          elim (too_small (question_of l)) [
            | true ↦ refused_with (record { number = 1; offset = 0 })
            | false ↦ elim (bad_depth (question_of l)) [ true ↦ refused_with (record { number = 2; offset = 0 }) | false ↦ x ]
          ]

-- ---- the properties are general
general : (bench : Bench) → HasWhatItShould bench
unfolding RefusesEvery SameRecord TouchesNoOutput TouchesNoData FakesWhatFollows FakesWhatIsRead InventsSteps IgnoresK
general bench =
    record {
      refuses-every = λ h l m e. h l;
      same-record = λ f h l m _ _. h l ∙ sym (h m);
      no_output = λ f h l i _. h (with_inputs i l) ∙ sym (h l);
      no-data = λ f h l i _. h (with_inputs i l) ∙ sym (h l);
      fakes-what-follows = λ f h l text one other e.
          h (with_text text l) other.m other.is-module ∙ ap (λ t. f t (with_text [] l)) e ∙ sym (h l one.m one.is-module);
      fakes-what-is-read = λ f h l i b _. h (with_inputs i l) ∙ ap (f l.text) (one-step l i b) ∙ sym (h l);
      invents-steps = λ f h l i _ e. h (with_inputs i l) ∙ ap (λ a. f l.text l.steps a.output) e ∙ sym (h l);
      ignores-k = λ f h l asked. ap (λ a. a.fields.ending) (h (with_asked asked l) ∙ sym (h l));
    }

-- ---- the definition has none of them
abbrev Same : (a b : ℕ) → Type 0
Same a b = a ≡ b

-- reads a number, and writes it
echo : List ℕ
echo = lines (module_of ("VAR num n;" ∷ []) ("TPReadNum n, \"n?\";" ∷ "TPWrite \"n=\" \\Num:=n;" ∷ []))

-- reads a number, and counts down from it
countdown : List ℕ
countdown = lines (module_of ("VAR num n;" ∷ []) ("n := 0;" ∷ "TPReadNum n, \"n?\";" ∷ "WHILE n > 0 DO" ∷ "n := n - 1;" ∷ "ENDWHILE" ∷ []))

-- begin alike
short : List ℕ
short = lines (module_of ("VAR num n;" ∷ []) ("n := 1;" ∷ []))

long : List ℕ
long = lines (module_of ("VAR num n;" ∷ []) ("n := 1;" ∷ "n := 2;" ∷ []))

reading : List ℕ → ℕ → Lent
reading text n = lent text 100 1 (pos n ∷ []) 16

-- the module that a text is
module_in : Verdict → Accepted
module_in (accepted m) = m
module_in (refused_by f) = record { words = []; program = record { words = []; routines = [] }; main = 0 }

refuses-not : ¬ RefusesEvery answer
unfolding RefusesEvery computed lent lines module_of echo reading module_in
refuses-not h =
    let e : Same 1 0 = h (reading echo 1) (module_in (verdict echo)) refl in
    omega arith

-- 6 steps and 8
records-differ : ¬ SameRecord answer
unfolding SameRecord computed lent lines module_of countdown reading
records-differ h =
    let e : Same 6 8 = ap (λ f. f.steps) (h (reading countdown 1) (reading countdown 2) (λ e. omega arith) (λ e. omega arith)) in
    omega arith

-- "n?", "n=1" and "n?", "n=2": byte 5
outputs-differ : ¬ TouchesNoOutput answer
unfolding TouchesNoOutput computed lent lines module_of echo reading
outputs-differ h =
    let e : Same 50 49 = ap (λ o. get_or o 5 0) (h (reading echo 1) (pos 2 ∷ []) refl) in
    omega arith

data-differ : ¬ TouchesNoData answer
unfolding TouchesNoData computed lent lines module_of echo reading
data-differ h =
    let e : Same 2 1 = ap (λ v. nat_abs (get_or v 0 (pos 0))) (h (reading echo 1) (pos 2 ∷ []) refl) in
    omega arith

-- 3 steps and 2
what-follows-matters : ¬ FakesWhatFollows answer
unfolding FakesWhatFollows computed lent lines module_of short long reading module_in first_step_of up_to_second
what-follows-matters h =
    let one : BeginsPlain short = record { m = module_in (verdict short); is-module = refl; plain = assigns _ _ } in
    let other : BeginsPlain long = record { m = module_in (verdict long); is-module = refl; plain = assigns _ _ } in
    let e : Same 3 2 = ap (λ f. f.steps) (h (reading short 1) long one other refl) in
    omega arith

-- 8 steps and 6
what-is-read-matters : ¬ FakesWhatIsRead answer
unfolding FakesWhatIsRead computed lent lines module_of countdown reading module_in first_step_of
what-is-read-matters h =
    let plain : BeginsPlain countdown = record { m = module_in (verdict countdown); is-module = refl; plain = assigns _ _ } in
    let e : Same 8 6 = ap (λ f. f.steps) (h (reading countdown 1) (pos 2 ∷ []) plain refl) in
    omega arith

-- 8 steps and 6; all else is the same: main returned, wrote "n?", used one input and left 0 in n
counted-down : (n : ℕ) → Result
counted-down n = record { fields = fields 1 0 0 n 0 3 1 1; written = lines ("n?" ∷ []); kept = pos 0 ∷ [] }

counts-1 : result (question_of (reading countdown 1)) ≡ counted-down 6
unfolding computed lent lines module_of fields countdown reading counted-down
counts-1 = refl

counts-2 : result (question_of (with_inputs (pos 2 ∷ []) (reading countdown 1))) ≡ counted-down 8
unfolding computed lent lines module_of fields countdown reading counted-down
counts-2 = refl

steps-differ : ¬ InventsSteps answer
unfolding InventsSteps computed lent lines module_of countdown reading fields counted-down
steps-differ h =
    let same : uncounted (result (question_of (with_inputs (pos 2 ∷ []) (reading countdown 1)))) ≡ uncounted (result (question_of (reading countdown 1))) = ap uncounted counts-2 ∙ sym (ap uncounted counts-1) in
    let e : Same 8 6 = h (reading countdown 1) (pos 2 ∷ []) refl (rest-same (reading countdown 1) (pos 2 ∷ []) same) in
    omega arith

-- aborted, and steps spent
k-matters : ¬ IgnoresK answer
unfolding IgnoresK computed lent until lines belt
k-matters h =
    let e : Same 9 5 = h (lent (lines belt) 100 16 [] 64) (until 7 50) in
    omega arith

-- ---- two of the benches do run main's first statement
-- the ending, the steps, and n
seen : Answer → ℕ × ℕ × ℕ
seen a = (a.fields.ending, a.fields.steps, nat_abs (get_or a.values 0 (pos 0)))

-- They leave 1 in n, where the second statement would have put 2.
first_runs : map seen (skipper (reading long 1) ∷ pretender (reading long 1) ∷ []) ≡ (1, 2, 1) ∷ (1, 1, 1) ∷ []
unfolding computed lent lines module_of long reading first_step_of up_to_second closed_after_first skipper returned pretender seen
first_runs = refl

-- ---- the demand
-- What the definition has not, no bench has that answers as it does.
shut_out : (Fake : Bench → Type 0) → ¬ Fake answer → (bench : Bench) → Fake bench → ¬ AnswersAsDefined bench
shut_out Fake none_has bench h same = none_has (subst Fake (fun_ext same) h)

pub demand-2 : Demand2
unfolding refuser repeater silent idler skipper closed_after_first pretender inventor deaf
demand-2 =
    record {
      general = general;
      refuses-every = record { such = (general refuser).refuses-every (λ l. refl); shut_out = shut_out RefusesEvery refuses-not };
      same-record = record { such = (general repeater).same-record _ (λ l. refl); shut_out = shut_out SameRecord records-differ };
      no_output = record { such = (general silent).no_output (λ o. o) (λ l. refl); shut_out = shut_out TouchesNoOutput outputs-differ };
      no-data = record { such = (general idler).no-data (λ v. v) (λ l. refl); shut_out = shut_out TouchesNoData data-differ };
      fakes-what-follows = record { such = (general skipper).fakes-what-follows (λ t l. (answer (with_text (t ++ bytes "ENDPROC ENDMODULE") l)).fields) closed; shut_out = shut_out FakesWhatFollows what-follows-matters };
      fakes-what-is-read = record { such = (general pretender).fakes-what-is-read (λ t a. returned a.fields) (λ l. refl); shut_out = shut_out FakesWhatIsRead what-is-read-matters };
      invents-steps = record { such = (general inventor).invents-steps (λ t n o. n) (λ l. refl); shut_out = shut_out InventsSteps steps-differ };
      ignores-k = record { such = (general deaf).ignores-k answer (λ l. refl); shut_out = shut_out IgnoresK k-matters };
    }
  where
    closed : (l : Lent) (m : Accepted) → verdict l.text ≡ accepted m → (skipper l).fields ≡ (answer (with_text (up_to_second l.text m ++ bytes "ENDPROC ENDMODULE") l)).fields
    closed l m e = ap (λ v. (answer (with_text (closed_after_first l.text v) l)).fields) e
