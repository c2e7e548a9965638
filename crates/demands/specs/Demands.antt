-- The demands on the bench, each with its own words.
use Rattle.std.specs.Prelude.{◌≡◌, true, false, List, ◌∷◌, ℕ, zero, suc, ◌+◌, ◌-◌, ◌*◌, ◌^◌, ◌≤◌, ◌<◌, leb, length, take, drop, replicate, ℤ, pos, negsuc, nat_abs, ◌+ℤ◌, ◌-ℤ◌}
use Rattle.std.proofs.Math.Option.{Option, none, some}
use Rattle.std.specs.Int.Signed.{lt_z}
use Rattle.paper.specs.Sorts.{NAME, NOT, AND}
use Rattle.paper.specs.Words.{text_limit, Word, reading}
use Rattle.paper.specs.Trees.{Expr, nested, signed, joined}
use Rattle.paper.specs.Expressions.{Parser, got, parts, products, sums, relations, conjunctions, disjunctions, level_of, stands_before, chain, level}
use Rattle.paper.specs.Numbers.{value}
use Rattle.paper.specs.Terms.{Term, unary, binary, worth}
use Rattle.paper.specs.Names.{Scopes, sort_in}
use Rattle.paper.specs.Types.{term_of}
use Rattle.paper.specs.Declarations.{module_word_limit}
use Rattle.paper.specs.Steps.{retry, try_next, enter_for, Program}
use Rattle.paper.specs.States.{Loop, Location, Call, State, Rooms, failing, with_calls, with_errno, counted, go_to, set_word, set_loop, set_failed, on_top, memory_of}
use Rattle.paper.specs.Running.{step_of, next_step, new_call, passes, counting_step, take_step, goes_on, stopping}
use Rattle.paper.specs.Undoing.{Abort}
use Rattle.paper.specs.Answer.{store_words, depth_limit, record_size, Record, record_bytes, Lent, Answer, answer, LentBytes, BytesAnswer, lent_of, untouched, pendant_call, flagged_call}
use Rattle.demands.specs.Vocabulary.{Begins, All, IsByte, field_in, Errno, EndsWith, WordAt, effect_of, CallsRoutine, Waits, Taken, CallsAfter, Reached, Leads}

-- ---- Demand 1: every answer is one that the paper's tables allow, and no memory is touched but what the paper says. For everything that can be lent.

-- The table of refusals: where each is.
pub data RefusalAt (text : List ℕ) : (number offset : ℕ) → Type 0 where
  -- "1: a store under 16,384 words", "2: depth not 1..64": at 0
  of-rooms : (n : ℕ) → 1 ≤ n → n ≤ 2 → RefusalAt text n 0
  -- "3: text too long: 32,768"
  too_long : text_limit < length text → RefusalAt text 3 text_limit
  -- 4 to 7: a place in the text
  in-text : (n offset : ℕ) → 4 ≤ n → n ≤ 7 → offset < length text → RefusalAt text n offset
  -- 8 to 17: a word; 8 also: "or text length"
  at-word : (n offset : ℕ) → 8 ≤ n → n ≤ 17 → WordAt (reading text).words offset (λ sort. Unit) → RefusalAt text n offset
  at-end : RefusalAt text 8 (length text)
  -- "18: no PROC main without parameters": at 0
  no_main : RefusalAt text 18 0
  -- request 3: "new 19 at the loop variable": a name
  hiding-loop : (offset : ℕ) → WordAt (reading text).words offset (λ sort. sort ≡ NAME) → RefusalAt text 19 offset

-- "0: refused; all other counts 0"
pub record RefusedRecord (l : Lent) (f : Record) : Type 0 where
  pub from-1 : 1 ≤ f.refusal
  pub to-19 : f.refusal ≤ 19
  pub offset : RefusalAt l.text f.refusal f.offset
  pub steps : f.steps ≡ 0
  pub errno : f.errno ≡ 0
  pub output : f.output ≡ 0
  pub inputs : f.inputs ≡ 0
  pub words : f.words ≡ 0

-- A run that was given K, and that K has struck: its allowance is at least K, it has made K steps, and then at most so many UNDO steps as were allowed.
pub record Struck (l : Lent) (f : Record) : Type 0 where
  pub abort : Abort
  pub given : l.asked.abort ≡ some abort
  pub reached : abort.at ≤ l.steps
  pub least : abort.at ≤ f.steps
  pub most : f.steps ≤ abort.at + abort.undo

-- "The step field counts UNDO steps too." 9 and 10 end a run that was struck, 1 to 6 one that was not, 7 and 8 either.
pub data StepsLent (l : Lent) (f : Record) : Type 0 where
  plain : f.ending ≤ 8 → f.steps ≤ l.steps → StepsLent l f
  struck : 7 ≤ f.ending → Struck l f → StepsLent l f

-- Ended with 1 to 10: nothing is used that was not lent.
pub record EndedRecord (l : Lent) (f : Record) : Type 0 where
  pub from-1 : 1 ≤ f.ending
  pub to-10 : f.ending ≤ 10
  pub refusal : f.refusal ≡ 0
  pub steps : StepsLent l f
  pub errno : Errno f.errno
  pub output : f.output ≤ length l.output
  pub inputs : f.inputs ≤ length l.inputs
  pub words : f.words ≤ module_word_limit
  -- "1: main returned: 0", "9: aborted, offset 0"; 2 to 8 and 10: the word that the table names
  pub returned : f.ending ≡ 1 → f.offset ≡ 0
  pub aborted : f.ending ≡ 9 → f.offset ≡ 0
  pub offset : ¬ (f.ending ≡ 1) → ¬ (f.ending ≡ 9) → WordAt (reading l.text).words f.offset (EndsWith f.ending)

-- No offset is past the text.
pub data Allowed (l : Lent) (f : Record) : Type 0 where
  refused : f.ending ≡ 0 → f.offset ≤ length l.text → RefusedRecord l f → Allowed l f
  ended : f.offset ≤ length l.text → EndedRecord l f → Allowed l f

-- What the lent memory holds after the call.
pub record Touched (l : Lent) (a : Answer) : Type 0 where
  -- all lengths stay
  pub output-length : length a.output ≡ length l.output
  pub code-length : length a.code ≡ length l.code
  pub values_length : length a.values ≡ length l.values
  -- "beyond that, and output past the count, nothing is touched"
  pub output-past : drop a.fields.output a.output ≡ drop a.fields.output l.output
  pub code-past : drop store_words a.code ≡ drop store_words l.code
  pub values-past : drop store_words a.values ≡ drop store_words l.values
  -- "the first words are module data [..]; the rest of the first 16,384 words of both stores are 0": but for refusal 1
  pub code-cleared : ¬ (a.fields.refusal ≡ 1) → take store_words a.code ≡ replicate store_words (pos 0)
  pub values-cleared : ¬ (a.fields.refusal ≡ 1) → drop a.fields.words (take store_words a.values) ≡ replicate (store_words - a.fields.words) (pos 0)
  -- "1 leaves stores and output as they were"
  pub output-kept : a.fields.refusal ≡ 1 → a.output ≡ l.output
  pub code-kept : a.fields.refusal ≡ 1 → a.code ≡ l.code
  pub values-kept : a.fields.refusal ≡ 1 → a.values ≡ l.values

unfoldable pub Demand1 : Type 0
Demand1 = (l : Lent) → Allowed l (answer l).fields × Touched l (answer l)

-- The same of the call on bytes. f is the record.
pub record TouchedBytes (l : LentBytes) (f : Record) (b : BytesAnswer) : Type 0 where
  pub output-length : length b.output ≡ length l.output
  pub code-length : length b.code ≡ length l.code
  pub values_length : length b.values ≡ length l.values
  pub fields-length : length b.fields ≡ length l.fields
  pub output-past : drop f.output b.output ≡ drop f.output l.output
  -- the bytes past 16,384 words, a part word too
  pub code-past : drop (4 * store_words) b.code ≡ drop (4 * store_words) l.code
  pub values-past : drop (4 * store_words) b.values ≡ drop (4 * store_words) l.values
  pub fields-past : drop record_size b.fields ≡ drop record_size l.fields
  pub code-cleared : ¬ (f.refusal ≡ 1) → take (4 * store_words) b.code ≡ replicate (4 * store_words) 0
  pub values-cleared : ¬ (f.refusal ≡ 1) → drop (4 * f.words) (take (4 * store_words) b.values) ≡ replicate (4 * (store_words - f.words)) 0
  pub output-kept : f.refusal ≡ 1 → b.output ≡ l.output
  pub code-kept : f.refusal ≡ 1 → b.code ≡ l.code
  pub values-kept : f.refusal ≡ 1 → b.values ≡ l.values

pub record CallMade (l : LentBytes) (b : BytesAnswer) : Type 0 where
  pub returned : b.returned ≡ 1
  pub fields : Record
  pub written : take record_size b.fields ≡ record_bytes fields
  pub allowed : Allowed (lent_of l) fields
  pub touched : TouchedBytes l fields b

-- "lent fewer, it returns 0 and touches nothing, otherwise 1"
pub record CallAnswered (l : LentBytes) (b : BytesAnswer) : Type 0 where
  pub fewer : length l.fields < record_size → b ≡ untouched l
  pub otherwise : record_size ≤ length l.fields → CallMade l b

unfoldable pub Demand1InBytes : Type 0
Demand1InBytes = (l : LentBytes) → All IsByte l.code → All IsByte l.values → CallAnswered l (pendant_call l)

-- ---- Demand 3: more room never changes an answer.

-- "stores and call depth inside the paper's bounds"
pub record InsideBounds (l : Lent) : Type 0 where
  pub code : store_words ≤ length l.code
  pub values : store_words ≤ length l.values
  pub deep : 1 ≤ l.depth
  pub not-too-deep : l.depth ≤ depth_limit

-- "Demand 3 then reads for equal K, with an UNDO allowance that may grow": both runs are given K, the same, or neither is.
pub data SameK : (first second : Option Abort) → Type 0 where
  without : SameK none none
  with-equal : {a b : Abort} → a.at ≡ b.at → a.undo ≤ b.undo → SameK (some a) (some b)

-- "One text and two runs, both with stores and call depth inside the paper's bounds, the second lent at least as many steps, as much depth and output room, and
-- an input list that begins with the first one's."
pub record MoreRoom (first second : Lent) : Type 0 where
  pub text : first.text ≡ second.text
  pub first-inside : InsideBounds first
  pub second-inside : InsideBounds second
  pub steps : first.steps ≤ second.steps
  pub depth : first.depth ≤ second.depth
  pub output : length first.output ≤ length second.output
  pub inputs : Begins first.inputs second.inputs
  pub asked : SameK first.asked.abort second.asked.abort

-- What an answer tells: its record, and of it the ending, the steps and the inputs used; the module data; the output.
pub record Told (Fields Datum : Type 0) : Type 0 where
  pub fields : Fields
  pub ending : ℕ
  pub steps : ℕ
  pub inputs : ℕ
  pub module-data : List Datum
  pub output : List ℕ

unfoldable pub told : Answer → Told Record ℤ
told a =
    let f = a.fields in
    record { fields = f; ending = f.ending; steps = f.steps; inputs = f.inputs; module-data = take f.words a.values; output = take f.output a.output }

-- "Both are refused alike (the same record) or neither is."
pub data RefusedAlike {F D : Type 0} (first second : Told F D) : Type 0 where
  alike : first.ending ≡ 0 → first.fields ≡ second.fields → RefusedAlike first second
  neither : ¬ (first.ending ≡ 0) → ¬ (second.ending ≡ 0) → RefusedAlike first second

-- "its output begins the second's, and it used no more steps and no more inputs"
pub record BrokeOff {F D : Type 0} (first second : Told F D) : Type 0 where
  pub output : Begins first.output second.output
  pub steps : first.steps ≤ second.steps
  pub inputs : first.inputs ≤ second.inputs

-- "endings 1 to 4 and 9 are final": the others are of a run that broke off.
pub data Final : (ending : ℕ) → Type 0 where
  came-to-an-end : {n : ℕ} → 1 ≤ n → n ≤ 4 → Final n
  was-aborted : {n : ℕ} → n ≡ 9 → Final n

pub data Breaks : (ending : ℕ) → Type 0 where
  lacked-room : {n : ℕ} → 5 ≤ n → n ≤ 8 → Breaks n
  lacked-undo-steps : {n : ℕ} → n ≡ 10 → Breaks n

pub record NeverChanged {F D : Type 0} (first second : Told F D) : Type 0 where
  pub refused : RefusedAlike first second
  -- "If the first ended with 1, 2, 3 or 4: the second has the same record, module data and output."
  pub finished : Final first.ending → first ≡ second
  -- "If the first ended with 5, 6, 7 or 8: [..]"
  pub broke-off : Breaks first.ending → BrokeOff first second

unfoldable pub Demand3 : Type 0
Demand3 = (first second : Lent) → MoreRoom first second → NeverChanged (told (answer first)) (told (answer second))

-- The same of the call on bytes, as the pendant makes it: the record is its 64 bytes, a field is read from its eight.
unfoldable pub told_in_bytes : BytesAnswer → Told (List ℕ) ℕ
told_in_bytes b =
    record {
      fields = take record_size b.fields;
      ending = field_in 0 b.fields;
      steps = field_in 3 b.fields;
      inputs = field_in 6 b.fields;
      module-data = take (4 * field_in 7 b.fields) b.values;
      output = take (field_in 5 b.fields) b.output;
    }

-- The UNDO steps that are allowed.
unfoldable pub undo_allowed : Option Abort → ℕ
undo_allowed none = 0
undo_allowed (some a) = a.undo

-- What both are lent is counted in 64 bits: steps, bytes of output, inputs.
pub record CountedIn64 (l : LentBytes) : Type 0 where
  pub record-lent : record_size ≤ length l.fields
  pub steps : l.steps + undo_allowed l.asked.abort < 2 ^ 64
  pub output : length l.output < 2 ^ 64
  pub inputs : length l.inputs < 2 ^ 64

unfoldable pub Demand3InBytes : Type 0
Demand3InBytes =
    (first second : LentBytes) → CountedIn64 first → CountedIn64 second → MoreRoom (lent_of first) (lent_of second)
    → NeverChanged (told_in_bytes (pendant_call first)) (told_in_bytes (pendant_call second))

-- Request 6: the call that is given K. Demands 1 and 3 are of it too: with no flag it is the same call, and with one that it does not know it returns 0 and touches nothing.
pub record FlagsHeeded (flags : ℕ) (l : LentBytes) : Type 0 where
  pub same : flags ≡ 0 → flagged_call flags l ≡ pendant_call l
  pub unknown : ¬ (flags ≡ 0) → flagged_call flags l ≡ untouched l

unfoldable pub Flagged : Type 0
Flagged = (flags : ℕ) (l : LentBytes) → FlagsHeeded flags l

-- ---- The user's lesson: errors, for all programs, texts and states.

-- A call statement has begun a new call.
pub record Begun (P : Program) (c : Call) (r after : List Call) : Type 0 where
  pub routine : ℕ
  pub arguments : List ℤ
  pub result : Option Location
  pub statement : CallsRoutine routine (next_step P c).does
  pub live : after ≡ new_call P routine arguments result ∷ c ∷ r

-- Of a run of P: s is a state in which c is the newest call and r are its callers.
pub record ErrorLesson (P : Program) (R : Rooms) (main : ℕ) (s : State) (c : Call) (r : List Call) : Type 0 where
  -- All that a step can do to the live calls.
  pub step-on-calls : (s' : State) → take_step P R s ≡ goes_on s' → CallsAfter P c r (next_step P c).after (next_step P c).does s'.calls
  -- "TRYNEXT never goes back into a dropped routine": when an error is taken by a routine, every newer call is gone
  pub newer-gone : (e : ℕ) (s₁ s' : State) → effect_of P R c r s ≡ failing e s₁ → take_step P R s ≡ goes_on s' → Taken P (c ∷ r) s'.calls
  -- and is never live again: the calls grow only by a call statement, which makes a new one.
  pub never-again : (s' : State) → take_step P R s ≡ goes_on s' → length (c ∷ r) < length s'.calls → Begun P c r s'.calls
  -- RETRY begins the failed statement of the routine that took the error again, and that alone: the call's words, loops and callers are as they were.
  pub retry-begins : (f : ℕ) → (next_step P c).does ≡ retry → c.failed ≡ some f → take_step P R s ≡ goes_on (counted (with_calls (go_to f (set_failed none c) ∷ r) s))
  -- TRYNEXT goes on after it.
  pub trynext-goes-on : (f : ℕ) → (next_step P c).does ≡ try_next → c.failed ≡ some f → take_step P R s ≡ goes_on (counted (with_calls (go_to (step_of P c f).after (set_failed none c) ∷ r) s))
  -- For a caller the failed statement is its call: each caller waits at its call, so that is the statement it is at as it takes an error.
  pub callers-wait : Reached P R main s → All (Waits P) r
  -- "An error in an ERROR list ends the run" if it arises in the call that is in its list, whatever lists its callers have.
  pub dies : (e f : ℕ) (s₁ : State) → Reached P R main s → c.failed ≡ some f → effect_of P R c r s ≡ failing e s₁
      → take_step P R s ≡ stopping true 3 (next_step P c).place (with_errno e (counted s₁))

unfoldable pub Lesson : Type 0
Lesson = (P : Program) (R : Rooms) (main : ℕ) (s : State) (c : Call) (r : List Call) → s.calls ≡ c ∷ r → ErrorLesson P R main s c r

-- Between a state and a later one, the call at depth n + 1 was begun, and has been live since. "main has depth 1."
pub record BegunSince (P : Program) (R : Rooms) (n : ℕ) (first last : State) : Type 0 where
  pub before : State
  pub after : State
  pub newest : Call
  pub callers : List Call
  pub on-the-way : Leads P R (λ s. Unit) first before
  pub live : before.calls ≡ newest ∷ callers
  pub deep : length before.calls ≡ n
  pub step : take_step P R before ≡ goes_on after
  pub begun : Begun P newest callers after.calls
  pub since : Leads P R (λ s. n < length s.calls) after last

-- "never goes back into a dropped routine", over whole runs: where calls have been dropped, a call that is live later, deeper than those left, was begun later.
unfoldable pub NeverLiveAgain : Type 0
NeverLiveAgain =
    (P : Program) (R : Rooms) (n : ℕ) (first last : State) → Leads P R (λ s. Unit) first last → length first.calls ≤ n → n < length last.calls → BegunSince P R n first last

-- ---- The user's lesson: NOT and a leading sign, for all words. W i is the sort of word i; `inner` reads what stands in parentheses and braces.

pub record SignLesson (W : ℕ → ℕ) (inner : Parser Expr) (at : ℕ) : Type 0 where
  -- "NOT covers the first AND chain only": what the words after NOT read as an AND chain, NOT covers; then the chain of OR and XOR goes on.
  pub not-covers : (e : Expr) (n : ℕ) → W at ≡ NOT → level W inner conjunctions (at + 1) ≡ got (e, n)
      → level W inner disjunctions at ≡ chain W parts disjunctions (level W inner conjunctions) (signed at e) n
  -- So NOT a AND b is NOT (a AND b), where neither AND, OR nor XOR follows.
  pub not-and : (a b : Expr) (i n : ℕ) → W at ≡ NOT → level W inner relations (at + 1) ≡ got (a, i) → W i ≡ AND → level W inner relations (i + 1) ≡ got (b, n)
      → ¬ (level_of (W n) ≡ conjunctions) → ¬ (level_of (W n) ≡ disjunctions) → level W inner disjunctions at ≡ got (signed at (joined i a b), n)
  -- "a leading + or - the first chain of * DIV MOD only": what the words after it read as such a chain, it covers; then the chain of + and - goes on.
  pub sign-covers : (e : Expr) (n : ℕ) → stands_before sums (W at) ≡ true → level W inner products (at + 1) ≡ got (e, n)
      → level W inner sums at ≡ chain W parts sums (level W inner products) (signed at e) n

-- What NOT in front of a AND b means: the term NOT (a AND b), with or without parentheses around a AND b.
pub record NotLesson (W : List Word) (S : Scopes) (i j : ℕ) (a b : Expr) : Type 0 where
  pub means : sort_in W i ≡ NOT → sort_in W j ≡ AND → term_of W S (signed i (joined j a b)) ≡ unary NOT (binary AND (term_of W S a) (term_of W S b))
  pub in-parentheses : (k : ℕ) → term_of W S (signed i (nested k (joined j a b))) ≡ term_of W S (signed i (joined j a b))

unfoldable pub ExpressionLesson : Type 0
ExpressionLesson = ((W : ℕ → ℕ) (inner : Parser Expr) (at : ℕ) → SignLesson W inner at) × ((W : List Word) (S : Scopes) (i j : ℕ) (a b : Expr) → NotLesson W S i j a b)

-- ---- Request 1, FOR without STEP: for all programs, states and numbers.

-- The newest call c comes to the head of a FOR without STEP, whose start is worth z and whose end y.
pub record HeadWithoutStep (P : Program) (s : State) (c : Call) (variable body : ℕ) (z y : ℤ) : Type 0 where
  pub from : Term
  pub to : Term
  pub head : (next_step P c).does ≡ enter_for variable from to none body
  pub start-worth : worth (memory_of s c) from ≡ value z
  pub end-worth : worth (memory_of s c) to ≡ value y

-- The loop from z to y without STEP.
abbrev pub loop_between : ℤ → ℤ → Loop
loop_between z y = record { end = y; step = counting_step z y }

-- The values that a loop comes to: the start, then each "the exact sum of variable and step".
unfoldable pub value_after : (z step : ℤ) → (rounds : ℕ) → ℤ
value_after z x zero = z
value_after z x (suc j) = value_after z x j +ℤ x

pub record CountingLesson (z y : ℤ) : Type 0 where
  -- "the step is 1 if the start isn't above the end, else -1"
  pub up : lt_z y z ≡ false → counting_step z y ≡ pos 1
  pub down : lt_z y z ≡ true → counting_step z y ≡ negsuc 0
  -- A value passes exactly up to the end: there are as many rounds as start and end lie apart, and one. So the start always passes.
  pub rounds : (j : ℕ) → passes (value_after z (counting_step z y) j) (loop_between z y) ≡ leb j (nat_abs (y -ℤ z))
  -- The head begins the body with the start, and the step is the loop's from then on.
  pub begins : (P : Program) (R : Rooms) (s : State) (c : Call) (r : List Call) (variable body : ℕ) → s.calls ≡ c ∷ r → HeadWithoutStep P s c variable body z y
      → take_step P R s ≡ goes_on (counted (on_top (go_to body) (on_top (set_word variable z) (on_top (set_loop variable (loop_between z y)) s))))

unfoldable pub Counting : Type 0
Counting = (z y : ℤ) → CountingLesson z y
