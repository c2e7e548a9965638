-- Statements, data and routines move on, as expressions do (Beyond).
use mathlib.Core.Path.{◌≡◌, refl}
use mathlib.Core.Bool.{Bool, true, false}
use Prim.Native.Nat.{ℕ, zero, suc, ◌+◌, ◌≤◌}
use native.Mathlib.Omega.{arith}
use lib.Dec.{eqb}
use Rattle.std.specs.Prelude.{if◌then◌else◌}
use Rattle.paper.specs.Sorts.{NOTHING, ERROR, UNDO}
use Rattle.paper.specs.Expressions.{starts_simple, starts_data, starts_routine, parts}
use Rattle.std.specs.Prelude.{Ok, Err}
use Rattle.layout.specs.declared.rules.Breach.{Breach}
use Rattle.layout.specs.declared.rules.Rule.TheVariants.{NoForm, DeepNesting}
use Rattle.check_form.specs.declared.Part.TheVariants as part
use Rattle.text_sorts.specs.Starts.{starts_compound}
use Rattle.check_form.specs.Places.{Read, Parted, breach, ended, entered, ◌▸◌, ◌▹◌, turns, word, expression_in, after_one, separated_turn, separated, repeated_turn, repeated, expressions, arguments, optional}
use Rattle.check_form.specs.Places.{target, right_side, assigns, started_by_name, number, writing, wanting, simple_word, simple, arm_end, case_end, list_end, step_part, for_head, condition, if_head, test_head, opened}
use Rattle.check_form.specs.Places.{else_part, after_arm, arms_turn, arms, default_part, cases_turn, cases, ending, resume, list_turn, list_below, compound}
use Rattle.check_form.specs.Places.{content, started_by, declaration, declarations, parameter, parameters, list_behind, routine_from, routine}
use Rattle.check_form.proofs.Beyond.{Beyond, refuses, ends, sooner, either, on, strictly, turns-on, Kind, word_on, type-on, nested-on}
use Rattle.paper.specs.Words.{word_limit}

-- where no word stands nothing starts
pub no-data : starts_data NOTHING ≡ false
unfolding starts_data
no-data = refl

pub no-routine : starts_routine NOTHING ≡ false
unfolding starts_routine
no-routine = refl

-- how far a part reaches
unfoldable pub reached : Parted → Read
reached (Ok (part.Whole n)) = Ok n
reached (Ok (part.Inside c n)) = Ok n
reached (Err b) = Err b

pub record Ahead (lo : ℕ) (p : Parted) : Type 0 where
  pub far : Beyond lo (reached p)

reaches : {lo mid : ℕ} (r : Read) (f : ℕ → Parted) → Beyond mid r → ((n : ℕ) → mid ≤ n → Ahead lo (f n)) → Ahead lo (r ▹ f)
unfolding ◌▹◌ reached
reaches (Ok n) f h g = g n (h n refl)
reaches {lo} (Err b) f h g = record { far = refuses lo b }

choose : {lo : ℕ} {p q : Parted} (b : Bool) → Ahead lo p → Ahead lo q → Ahead lo (if b then p else q)
choose true f g = f
choose false f g = g

pub nearer : {lo : ℕ} {p : Parted} (low : ℕ) → low ≤ lo → Ahead lo p → Ahead low p
nearer low h g = record { far = sooner low h g.far }

stops : (lo : ℕ) (b : Breach) → Ahead lo (Err b)
unfolding reached
stops lo b = record { far = refuses lo b }

enters : (lo c n : ℕ) → lo ≤ n → Ahead lo (Ok (part.Inside c n))
unfolding reached
enters lo c n h = record { far = ends lo n h }

finishes : (lo n : ℕ) → lo ≤ n → Ahead lo (Ok (part.Whole n))
unfolding reached
finishes lo n h = record { far = ends lo n h }

whole-reaches : {lo : ℕ} (r : Read) → Beyond lo r → Ahead lo (r ▹ ended)
whole-reaches {lo} r h = reaches r ended h (λ n l. finishes lo n l)

inside_reaches : {lo : ℕ} (r : Read) (c : ℕ) → Beyond lo r → Ahead lo (r ▹ entered c)
inside_reaches {lo} r c h = reaches r (entered c) h (λ n l. enters lo c n l)

-- a loop that reads one at least
turns-strict : (turn : (ℕ → Read) → ℕ → Read) → ((again : ℕ → Read) → ((n : ℕ) → Beyond n (again n)) → (at : ℕ) → Beyond (suc at) (turn again at))
    → (p at : ℕ) → Beyond (suc at) (turns turn (suc p) at)
unfolding turns
turns-strict turn h p at = h (turns turn p) (turns-on turn (λ again g n. sooner n (omega arith) (h again g n)) p) at

module _ (W : ℕ → ℕ) where
  -- ---- sequences

  module _ (one : ℕ → Read) (one_on : (at : ℕ) → Beyond (suc at) (one at)) where
    pub separated-on : (at : ℕ) → Beyond (suc at) (separated W one at)
    unfolding separated separated_turn after_one
    separated-on at =
        turns-strict (separated_turn W one)
        (λ again g n. on (one_on n) (λ m. either (eqb (W m) 5) (sooner m (omega arith) (g (m + 1))) (ends m m (omega arith)))) word_limit at

    pub repeated-on : (starts : ℕ → Bool) (at : ℕ) → Beyond at (repeated W starts one at)
    unfolding repeated repeated_turn
    repeated-on starts at =
        turns-on (repeated_turn W starts one)
        (λ again g n. either (starts (W n)) (on (sooner n (omega arith) (one_on n)) g) (ends n n (omega arith))) parts at

  pub expressions-on : (at : ℕ) → Beyond (suc at) (expressions W at)
  unfolding expressions
  expressions-on at = separated-on (expression_in W 17) (nested-on W 17) at

  arguments-on : (c at : ℕ) → Beyond at (arguments W c at)
  unfolding arguments
  arguments-on c at = either (eqb (W at) c) (ends at at (omega arith)) (sooner at (omega arith) (expressions-on at))

  optional-on : (at : ℕ) → Beyond at (optional W at)
  unfolding optional
  optional-on at = either (eqb (W at) 4) (ends at at (omega arith)) (sooner at (omega arith) (nested-on W 17 at))

  -- ---- simple statements

  target-on : (at : ℕ) → Beyond (suc at) (target W at)
  unfolding target
  target-on at =
      either (eqb (W at) 1)
      (either (eqb (W (at + 1)) 8) (on (sooner (suc at) (omega arith) (nested-on W 16 (at + 2))) (strictly (word_on W 9))) (ends (suc at) (at + 1) (omega arith)))
      (refuses (suc at) (breach NoForm at))

  right-on : (at : ℕ) → Beyond (suc at) (right_side W at)
  unfolding right_side
  right-on at =
      either (eqb (W at) 1)
      (either (eqb (W (at + 1)) 6) (on (sooner (suc at) (omega arith) (arguments-on 7 (at + 2))) (strictly (word_on W 7))) (nested-on W 17 at))
      (nested-on W 17 at)

  name-on : (at : ℕ) → Beyond (suc at) (started_by_name W at)
  unfolding started_by_name
  name-on at =
      either (assigns (W (at + 1))) (on (on (target-on at) (strictly (word_on W 11))) (strictly right-on))
      (sooner (suc at) (omega arith) (arguments-on 4 (at + 1)))

  number-on : (at : ℕ) → Beyond at (number W at)
  unfolding number
  number-on at =
      either (eqb (W at) 21)
      (on (on (sooner at (omega arith) (word_on W 89 (at + 1))) (strictly (word_on W 11))) (strictly (nested-on W 17)))
      (ends at at (omega arith))

  writing-on : (at : ℕ) → Beyond (suc at) (writing W at)
  unfolding writing
  writing-on at = on (word_on W 3 at) number-on

  wanting-on : (at : ℕ) → Beyond (suc at) (wanting W at)
  unfolding wanting
  wanting-on at = on (on (target-on at) (strictly (word_on W 5))) (strictly (word_on W 3))

  simple-word-on : (at : ℕ) → Beyond (suc at) (simple_word W at)
  unfolding simple_word
  simple-word-on at =
      either (eqb (W at) 1) (name-on at)
      (either (eqb (W at) 74) (sooner (suc at) (omega arith) (optional-on (at + 1)))
      (either (eqb (W at) 70) (sooner (suc at) (omega arith) (optional-on (at + 1)))
      (either (eqb (W at) 53) (ends (suc at) (at + 1) (omega arith))
      (either (eqb (W at) 73) (ends (suc at) (at + 1) (omega arith))
      (either (eqb (W at) 82) (ends (suc at) (at + 1) (omega arith))
      (either (eqb (W at) 91) (sooner (suc at) (omega arith) (writing-on (at + 1)))
      (either (eqb (W at) 92) (sooner (suc at) (omega arith) (wanting-on (at + 1)))
      (refuses (suc at) (breach NoForm at)))))))))

  pub simple-on : (at : ℕ) → Beyond (suc at) (simple W at)
  unfolding simple
  simple-on at = on (simple-word-on at) (strictly (word_on W 4))

  -- ---- compound statements

  arm-on : (at : ℕ) → Ahead (suc at) (arm_end W at)
  unfolding arm_end
  arm-on at =
      choose (eqb (W at) 42) (inside_reaches (expression_in W 17 (at + 1) ▸ word W 78) 42 (on (sooner (suc at) (omega arith) (nested-on W 17 (at + 1))) (strictly (word_on W 78))))
      (choose (eqb (W at) 41) (enters (suc at) 45 (at + 1) (omega arith)) (whole-reaches (word W 45 at) (word_on W 45 at)))

  case-on : (at : ℕ) → Ahead (suc at) (case_end W at)
  unfolding case_end
  case-on at =
      choose (eqb (W at) 35) (inside_reaches (expressions W (at + 1) ▸ word W 10) 35 (on (sooner (suc at) (omega arith) (expressions-on (at + 1))) (strictly (word_on W 10))))
      (choose (eqb (W at) 38) (inside_reaches (word W 10 (at + 1)) 49 (sooner (suc at) (omega arith) (word_on W 10 (at + 1)))) (whole-reaches (word W 49 at) (word_on W 49 at)))

  pub list-end-on : (c at : ℕ) → Ahead (suc at) (list_end W c at)
  unfolding list_end
  list-end-on c at = choose (eqb c 42) (arm-on at) (choose (eqb c 35) (case-on at) (whole-reaches (word W c at) (word_on W c at)))

  step-on : (at : ℕ) → Beyond at (step_part W at)
  unfolding step_part
  step-on at = either (eqb (W at) 75) (sooner at (omega arith) (nested-on W 17 (at + 1))) (ends at at (omega arith))

  for-on : (at : ℕ) → Beyond (suc at) (for_head W at)
  unfolding for_head
  for-on at =
      on (on (on (on (on (on (word_on W 1 at) (strictly (word_on W 56))) (strictly (nested-on W 17))) (strictly (word_on W 79))) (strictly (nested-on W 17))) step-on) (strictly (word_on W 40))

  condition-on : (d at : ℕ) → Ahead at (condition W d at)
  unfolding condition
  condition-on d at =
      choose (eqb (W at) 78) (choose (eqb d 0) (stops at (breach DeepNesting at)) (enters at 42 (at + 1) (omega arith)))
      (whole-reaches (simple W at) (sooner at (omega arith) (simple-on at)))

  pub opened-on : (d at : ℕ) → Ahead (suc at) (opened W d at)
  unfolding opened if_head test_head
  opened-on d at =
      choose (eqb (W at) 59) (reaches (expression_in W 17 (at + 1)) (condition W d) (sooner (suc at) (omega arith) (nested-on W 17 (at + 1))) (λ n l. nearer (suc at) l (condition-on d n)))
      (choose (eqb d 0) (stops (suc at) (breach DeepNesting at))
      (choose (eqb (W at) 55) (inside_reaches (for_head W (at + 1)) 43 (sooner (suc at) (omega arith) (for-on (at + 1))))
      (choose (eqb (W at) 86) (inside_reaches (expression_in W 17 (at + 1) ▸ word W 40) 51 (on (sooner (suc at) (omega arith) (nested-on W 17 (at + 1))) (strictly (word_on W 40))))
      (reaches (expression_in W 17 (at + 1)) (case_end W) (sooner (suc at) (omega arith) (nested-on W 17 (at + 1))) (λ n l. nearer (suc at) (omega arith) (case-on n))))))

  module _ (list : ℕ → Read) (list_on : (at : ℕ) → Beyond at (list at)) where
    else-on : (at : ℕ) → Beyond at (else_part W list at)
    unfolding else_part
    else-on at = either (eqb (W at) 41) (sooner at (omega arith) (list_on (at + 1))) (ends at at (omega arith))

    after-arm-on : (again : ℕ → Read) → ((n : ℕ) → Beyond n (again n)) → (at : ℕ) → Beyond at (after_arm W list again at)
    unfolding after_arm
    after-arm-on again g at =
        either (eqb (W at) 42) (on (on (sooner at (omega arith) (nested-on W 17 (at + 1))) (strictly (word_on W 78))) g)
        (on (else-on at) (strictly (word_on W 45)))

    pub arms-on : (at : ℕ) → Beyond at (arms W list at)
    unfolding arms arms_turn
    arms-on at = turns-on (arms_turn W list) (λ again g n. on (list_on n) (after-arm-on again g)) parts at

    default-on : (at : ℕ) → Beyond at (default_part W list at)
    unfolding default_part
    default-on at = either (eqb (W at) 38) (on (sooner at (omega arith) (word_on W 10 (at + 1))) list_on) (ends at at (omega arith))

    pub cases-on : (at : ℕ) → Beyond at (cases W list at)
    unfolding cases cases_turn
    cases-on at =
        turns-on (cases_turn W list)
        (λ again g n. either (eqb (W n) 35) (on (on (on (sooner n (omega arith) (expressions-on (n + 1))) (strictly (word_on W 10))) list_on) g)
        (on (default-on n) (strictly (word_on W 49)))) parts at

    ending-on : (c at : ℕ) → Beyond at (ending W list c at)
    unfolding ending
    ending-on c at =
        either (eqb c 42) (after-arm-on (arms W list) arms-on at) (either (eqb c 35) (cases-on at) (sooner at (omega arith) (word_on W c at)))

    pub resume-on : (lo : ℕ) (p : Parted) → Ahead lo p → Beyond lo (resume W list p)
    unfolding resume reached
    resume-on lo (Ok (part.Whole n)) h = h.far
    resume-on lo (Err b) h = h.far
    resume-on lo (Ok (part.Inside c n)) h = on (sooner lo (h.far n refl) (list_on n)) (ending-on c)

  -- ---- lists

  pub list_on : (d at : ℕ) → Beyond at (list_below W d at)
  unfolding list_below list_turn
  list_on zero at = refuses at (breach DeepNesting at)
  list_on (suc d) at =
      turns-on (list_turn W (λ n. resume W (list_below W d) (opened W d n)))
      (λ again g n. either (starts_compound (W n)) (on (sooner n (omega arith) (resume-on (list_below W d) (list_on d) (suc n) (opened W d n) (opened-on d n))) g)
      (either (starts_simple (W n)) (on (sooner n (omega arith) (simple-on n)) g) (ends n n (omega arith)))) parts at

  pub compound-on : (d at : ℕ) → Beyond (suc at) (compound W d at)
  unfolding compound
  compound-on d at = resume-on (list_below W d) (list_on d) (suc at) (opened W d at) (opened-on d at)

  -- ---- data and routines

  content-on : (s at : ℕ) → Beyond at (content W s at)
  unfolding content
  content-on s at =
      either (eqb (W at) 11) (sooner at (omega arith) (nested-on W 17 (at + 1)))
      (either (eqb s 84) (either (eqb (W at) 8) (on (sooner at (omega arith) (nested-on W 17 (at + 1))) (strictly (word_on W 9))) (ends at at (omega arith)))
      (refuses at (breach NoForm at)))

  declaration-on : (s at : ℕ) → Beyond (suc at) (declaration W s at)
  unfolding declaration
  declaration-on s at = on (on (on (type-on W at) (strictly (word_on W 1))) (content-on s)) (strictly (word_on W 4))

  pub data-kind : Kind W starts_data (declaration W)
  unfolding started_by
  data-kind = record { none = no-data; on = λ at. sooner (suc at) (omega arith) (declaration-on (W at) (at + 1)) }

  declarations-on : (at : ℕ) → Beyond at (declarations W at)
  declarations-on at = repeated-on (started_by W (declaration W)) data-kind.on starts_data at

  pub parameter-on : (at : ℕ) → Beyond (suc at) (parameter W at)
  unfolding parameter
  parameter-on at = on (type-on W at) (strictly (word_on W 1))

  parameters-on : (at : ℕ) → Beyond at (parameters W at)
  unfolding parameters
  parameters-on at = either (eqb (W at) 7) (ends at at (omega arith)) (sooner at (omega arith) (separated-on (parameter W) parameter-on at))

  behind-on : (s at : ℕ) → Beyond at (list_behind W s at)
  unfolding list_behind
  behind-on s at = either (eqb (W at) s) (sooner at (omega arith) (list_on 17 (at + 1))) (ends at at (omega arith))

  from_on : (c at : ℕ) → Beyond (suc at) (routine_from W c at)
  unfolding routine_from
  from_on c at =
      on (on (on (on (on (on (on (on (word_on W 1 at) (strictly (word_on W 6))) parameters-on) (strictly (word_on W 7))) declarations-on) (list_on 17)) (behind-on ERROR)) (behind-on UNDO)) (strictly (word_on W c))

  routine-on : (s at : ℕ) → Beyond at (routine W s at)
  unfolding routine
  routine-on s at = either (eqb s 69) (sooner at (omega arith) (from_on 47 at)) (on (sooner at (omega arith) (type-on W at)) (strictly (from_on 44)))

  pub routine-kind : Kind W starts_routine (routine W)
  unfolding started_by
  routine-kind = record { none = no-routine; on = λ at. sooner (suc at) (omega arith) (routine-on (W at) (at + 1)) }
