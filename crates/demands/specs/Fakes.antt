-- Demand 2: "a bench that refuses every module, gives all the same record, touches no output or data, runs the first statement and fakes the others, or invents
-- its step count": the definition shuts out all of these. And, of request 6, one that does not heed K.
use Rattle.std.specs.Prelude.{◌≡◌, List, [], ◌++◌, ℕ, length, take, ℤ}
use Rattle.std.proofs.Math.Option.{Option, none}
use Rattle.paper.specs.Sorts.{bytes}
use Rattle.paper.specs.Terms.{Term}
use Rattle.paper.specs.Steps.{Spot, Action, store, write, Step}
use Rattle.paper.specs.Running.{next_step, new_call}
use Rattle.paper.specs.Undoing.{Asked, plainly}
use Rattle.paper.specs.Answer.{Accepted, Verdict, refused_by, accepted, offset_of, verdict, Record, Lent, Answer, answer}

-- A bench answers what is lent, somehow.
abbrev pub Bench : Type 0
Bench = Lent → Answer

abbrev pub AnswersAsDefined : Bench → Type 0
AnswersAsDefined bench = (l : Lent) → bench l ≡ answer l

-- ---- the same call with another text, allowance, inputs or K; the same answer with another record, step count, output or value store
abbrev pub with_text : List ℕ → Lent → Lent
with_text text l = record { text = text; steps = l.steps; depth = l.depth; inputs = l.inputs; output = l.output; code = l.code; values = l.values; asked = l.asked }

abbrev pub with_steps : ℕ → Lent → Lent
with_steps steps l = record { text = l.text; steps = steps; depth = l.depth; inputs = l.inputs; output = l.output; code = l.code; values = l.values; asked = l.asked }

abbrev pub with_inputs : List ℤ → Lent → Lent
with_inputs inputs l = record { text = l.text; steps = l.steps; depth = l.depth; inputs = inputs; output = l.output; code = l.code; values = l.values; asked = l.asked }

abbrev pub with_asked : Asked → Lent → Lent
with_asked asked l = record { text = l.text; steps = l.steps; depth = l.depth; inputs = l.inputs; output = l.output; code = l.code; values = l.values; asked = asked }

abbrev pub with_record : Record → Answer → Answer
with_record f a = record { fields = f; output = a.output; code = a.code; values = a.values }

abbrev pub with_count : ℕ → Answer → Answer
with_count n a =
    let f = a.fields in
    with_record (record { ending = f.ending; refusal = f.refusal; offset = f.offset; steps = n; errno = f.errno; output = f.output; inputs = f.inputs; words = f.words }) a

abbrev pub with_output : List ℕ → Answer → Answer
with_output output a = record { fields = a.fields; output = output; code = a.code; values = a.values }

abbrev pub with_values : List ℤ → Answer → Answer
with_values values a = record { fields = a.fields; output = a.output; code = a.code; values = values }

-- ---- "refuses every module"
-- Whatever module is lent, the ending is 0.
unfoldable pub RefusesEvery : Bench → Type 0
RefusesEvery bench = (l : Lent) (m : Accepted) → verdict l.text ≡ accepted m → (bench l).fields.ending ≡ 0

-- It says that the first word is wrong.
unfoldable pub refuser : Bench
refuser l = with_record (record { ending = 0; refusal = 8; offset = 0; steps = 0; errno = 0; output = 0; inputs = 0; words = 0 }) (answer l)

-- ---- "gives all the same record"
-- Whatever it does not refuse has the same record.
unfoldable pub SameRecord : Bench → Type 0
SameRecord bench = (l m : Lent) → ¬ ((bench l).fields.ending ≡ 0) → ¬ ((bench m).fields.ending ≡ 0) → (bench l).fields ≡ (bench m).fields

-- It says that main returned, after one step.
unfoldable pub repeater : Bench
repeater l = with_record (record { ending = 1; refusal = 0; offset = 0; steps = 1; errno = 0; output = 0; inputs = 0; words = 0 }) (answer l)

-- ---- "touches no output or data"
-- What it leaves in the output does not depend on the numbers that are read: it is as it was, or cleared, or made up from the text.
unfoldable pub TouchesNoOutput : Bench → Type 0
TouchesNoOutput bench = (l : Lent) (inputs : List ℤ) → length inputs ≡ length l.inputs → (bench (with_inputs inputs l)).output ≡ (bench l).output

-- It leaves the output as it was.
unfoldable pub silent : Bench
silent l = with_output l.output (answer l)

-- What it leaves in the value store does not depend on the numbers that are read: it is as it was, or cleared, or the data as declared.
unfoldable pub TouchesNoData : Bench → Type 0
TouchesNoData bench = (l : Lent) (inputs : List ℤ) → length inputs ≡ length l.inputs → (bench (with_inputs inputs l)).values ≡ (bench l).values

-- It leaves the value store as it was.
unfoldable pub idler : Bench
idler l = with_values l.values (answer l)

-- ---- "runs the first statement and fakes the others"
-- The first step of main.
unfoldable pub first_step_of : Accepted → Step
first_step_of m = next_step m.program (new_call m.program m.main [] none)

-- An assignment or TPWrite: one step, that reads nothing and calls nothing.
pub data Plain : Action → Type 0 where
  assigns : (t : Spot) (e : Term) → Plain (store t e)
  tpwrites : (text : List ℕ) (e : Option Term) → Plain (write text e)

-- A module in which main's first statement is plain.
pub record BeginsPlain (text : List ℕ) : Type 0 where
  pub m : Accepted
  pub is-module : verdict text ≡ accepted m
  pub plain : Plain (first_step_of m).does

-- A module's text up to the word after main's first statement.
unfoldable pub up_to_second : (text : List ℕ) → Accepted → List ℕ
up_to_second text m = take (offset_of text m.words (first_step_of m).after) text

-- The record does not depend on what stands after main's first statement.
unfoldable pub FakesWhatFollows : Bench → Type 0
FakesWhatFollows bench =
    (l : Lent) (text : List ℕ) (one : BeginsPlain l.text) (other : BeginsPlain text) → up_to_second text other.m ≡ up_to_second l.text one.m
    → (bench (with_text text l)).fields ≡ (bench l).fields

-- It closes the module after main's first statement, and runs that.
unfoldable pub closed_after_first : (text : List ℕ) → Verdict → List ℕ
closed_after_first text (refused_by f) = text
closed_after_first text (accepted m) = up_to_second text m ++ bytes "ENDPROC ENDMODULE"

unfoldable pub skipper : Bench
skipper l = answer (with_text (closed_after_first l.text (verdict l.text)) l)

-- The record does not depend on the numbers that the other statements read.
unfoldable pub FakesWhatIsRead : Bench → Type 0
FakesWhatIsRead bench =
    (l : Lent) (inputs : List ℤ) → BeginsPlain l.text → length inputs ≡ length l.inputs → (bench (with_inputs inputs l)).fields ≡ (bench l).fields

-- It takes one step, and says that main has returned.
unfoldable pub returned : Record → Record
returned f = record { ending = 1; refusal = 0; offset = 0; steps = f.steps; errno = f.errno; output = f.output; inputs = f.inputs; words = f.words }

-- A run of one step, without K.
abbrev pub one_step : Lent → Lent
one_step l = with_steps 1 (with_asked plainly l)

unfoldable pub pretender : Bench
pretender l = let a = answer (one_step l) in with_record (returned a.fields) a

-- ---- "invents its step count"
-- Where other numbers are read and all else that is answered is the same, the step count is too: it is made up from what else there is to see.
unfoldable pub InventsSteps : Bench → Type 0
InventsSteps bench =
    (l : Lent) (inputs : List ℤ) → length inputs ≡ length l.inputs → with_count 0 (bench (with_inputs inputs l)) ≡ with_count 0 (bench l)
    → (bench (with_inputs inputs l)).fields.steps ≡ (bench l).fields.steps

-- It says that all steps are spent.
unfoldable pub inventor : Bench
inventor l = with_count l.steps (answer l)

-- ---- request 6: "A run takes an optional step number K and an UNDO allowance"
-- The ending does not depend on K, nor on whether K is given.
unfoldable pub IgnoresK : Bench → Type 0
IgnoresK bench = (l : Lent) (asked : Asked) → (bench (with_asked asked l)).fields.ending ≡ (bench l).fields.ending

-- It runs every module without K.
unfoldable pub deaf : Bench
deaf l = answer (with_asked plainly l)

-- ---- the demand
-- The properties are general: each bench that is a fake in the plain sense of the paper's words has its property.
pub record HasWhatItShould (bench : Bench) : Type 0 where
  -- it refuses whatever is lent
  pub refuses-every : ((l : Lent) → (bench l).fields.ending ≡ 0) → RefusesEvery bench
  -- its record is f
  pub same-record : (f : Record) → ((l : Lent) → (bench l).fields ≡ f) → SameRecord bench
  -- the output, the value store is what it makes of what was there
  pub no_output : (f : List ℕ → List ℕ) → ((l : Lent) → (bench l).output ≡ f l.output) → TouchesNoOutput bench
  pub no-data : (f : List ℤ → List ℤ) → ((l : Lent) → (bench l).values ≡ f l.values) → TouchesNoData bench
  -- of a module, it reads no more than main's first statement and what stands before it
  pub fakes-what-follows : (f : List ℕ → Lent → Record) → ((l : Lent) (m : Accepted) → verdict l.text ≡ accepted m → (bench l).fields ≡ f (up_to_second l.text m) (with_text [] l)) → FakesWhatFollows bench
  -- it takes one step, and makes up its record from the text and what it has then
  pub fakes-what-is-read : (f : List ℕ → Answer → Record) → ((l : Lent) → (bench l).fields ≡ f l.text (answer (one_step l))) → FakesWhatIsRead bench
  -- it makes up its step count from the text, the allowance and the output
  pub invents-steps : (f : List ℕ → ℕ → List ℕ → ℕ) → ((l : Lent) → (bench l).fields.steps ≡ f l.text l.steps (bench l).output) → InventsSteps bench
  -- its answer is made up from what is lent, without K
  pub ignores-k : (f : Lent → Answer) → ((l : Lent) → bench l ≡ f (with_asked plainly l)) → IgnoresK bench

-- There is a bench with the property, and none with it answers as the definition does.
pub record ShutOut (Fake : Bench → Type 0) (example : Bench) : Type 0 where
  pub such : Fake example
  pub shut_out : (bench : Bench) → Fake bench → ¬ AnswersAsDefined bench

pub record Demand2 : Type 0 where
  pub general : (bench : Bench) → HasWhatItShould bench
  pub refuses-every : ShutOut RefusesEvery refuser
  pub same-record : ShutOut SameRecord repeater
  pub no_output : ShutOut TouchesNoOutput silent
  pub no-data : ShutOut TouchesNoData idler
  pub fakes-what-follows : ShutOut FakesWhatFollows skipper
  pub fakes-what-is-read : ShutOut FakesWhatIsRead pretender
  pub invents-steps : ShutOut InventsSteps inventor
  pub ignores-k : ShutOut IgnoresK deaf
