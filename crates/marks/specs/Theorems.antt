-- What holds of marking: of two listings, of the listing of our run, of more room, and of the whole call.
use Rattle.std.specs.Prelude.{◌≡◌, false, List, [], ◌∷◌, ℕ, ◌≤◌, ◌<◌, length, get_or, take, drop}
use Rattle.std.proofs.Math.Option.{Option, none, some}
use Rattle.paper.specs.Undoing.{plainly}
use Rattle.paper.specs.Answer.{Question, result, Lent, question_of, pendant_call}
use Rattle.demands.specs.Vocabulary.{Begins}
use Rattle.demands.specs.Demands.{MoreRoom, Final}
use Rattle.marks.specs.Marks.{ours, Mark, yes, differs, shared, marked, marking, mark, mark_size, MarkLent, plain_call, mark_of, too_few, mark_call}

-- ---- two listings
-- Behind their common beginning: "the first entry that differs, is missing or is surplus".
pub data Parted : (ours theirs : List ℕ) → Type 0 where
  another : {a b : ℕ} {r s : List ℕ} → ¬ (a ≡ b) → Parted (a ∷ r) (b ∷ s)
  missing : {a : ℕ} {r : List ℕ} → Parted (a ∷ r) []
  surplus : {b : ℕ} {s : List ℕ} → Parted [] (b ∷ s)

pub record PartedAt (index : ℕ) (ours theirs : List ℕ) : Type 0 where
  pub common : take index ours ≡ take index theirs
  pub behind : Parted (drop index ours) (drop index theirs)

pub record Judged (ours theirs : List ℕ) : Type 0 where
  -- "say yes exactly when it equals that of our whole run"
  pub equal-yes : ours ≡ theirs → marked ours theirs ≡ yes
  pub yes-equal : marked ours theirs ≡ yes → ours ≡ theirs
  -- "else the index, from 0, of the first entry that differs, is missing or is surplus": they part there, and nowhere else
  pub differs-parted : (i : ℕ) → marked ours theirs ≡ differs i → PartedAt i ours theirs
  pub parted-differs : (i : ℕ) → PartedAt i ours theirs → marked ours theirs ≡ differs i
  -- whichever it is, the number that is told beside it is the length of the common beginning
  pub told-shared : (marking ours theirs).index ≡ shared ours theirs

unfoldable pub Judging : Type 0
Judging = (ours theirs : List ℕ) → Judged ours theirs

-- ---- the listing of our run
-- The same question with another step allowance.
unfoldable pub with_steps : ℕ → Question → Question
with_steps n q = record { text = q.text; steps = n; depth = q.depth; inputs = q.inputs; room = q.room; code = q.code; values = q.values; asked = q.asked }

-- The run stops at an offset because its steps are spent.
pub record SpentAt (q : Question) (offset : ℕ) : Type 0 where
  pub ending : (result q).fields.ending ≡ 5
  pub there : (result q).fields.offset ≡ offset

pub record ListingOf (q : Question) (o : List ℕ) : Type 0 where
  -- as many entries as the record has steps
  pub as_many : length o ≡ (result q).fields.steps
  -- entry i is where a run with i steps stops with 5
  pub entry : (i : ℕ) → i < length o → SpentAt (with_steps i q) (get_or o i 0)
  -- No more than were allowed, and so it is with the number that is told: an allowance has 32 bits, so that number fits four bytes.
  pub allowed : length o ≤ q.steps
  pub told-allowed : (theirs : List ℕ) → (marking o theirs).index ≤ q.steps

unfoldable pub Listing : Type 0
Listing = (q : Question) → q.asked ≡ plainly → (o : List ℕ) → ours q ≡ some o → ListingOf q o

-- "A refused module gives only its refusal."
pub record OnlyRefusal (q : Question) : Type 0 where
  pub without : ours q ≡ none → (result q).fields.ending ≡ 0
  pub refused : (result q).fields.ending ≡ 0 → ours q ≡ none

unfoldable pub Refusing : Type 0
Refusing = (q : Question) → q.asked ≡ plainly → OnlyRefusal q

-- Two listings that are given yes for one question are equal.
unfoldable pub OneListing : Type 0
OneListing = (q : Question) (a b : List ℕ) (m n : ℕ) → mark q a ≡ some (record { same = 1; index = m }) → mark q b ≡ some (record { same = 1; index = n }) → a ≡ b

-- ---- more room, as demand 3 has it
pub record ListsMore (ending : ℕ) (first second : List ℕ) : Type 0 where
  -- the listing of a run that ended with 1 to 4 is the same with more room
  pub finished : Final ending → first ≡ second
  -- and that of any run begins it
  pub begins : Begins first second

unfoldable pub MoreListed : Type 0
MoreListed =
    (first second : Lent) → MoreRoom first second → first.asked ≡ plainly → (o p : List ℕ) → ours (question_of first) ≡ some o → ours (question_of second) ≡ some p
    → ListsMore (result (question_of first)).fields.ending o p

-- ---- the call on bytes
-- Of the answer nothing is touched but its first eight bytes, and where there is no mark not these.
pub record AnswerTouched (l : MarkLent) : Type 0 where
  pub as-the-call : too_few l ≡ false → (mark_call l).call ≡ pendant_call (plain_call l)
  pub long : length (mark_call l).answer ≡ length l.answer
  pub past : drop mark_size (mark_call l).answer ≡ drop mark_size l.answer
  pub unmarked : mark_of l ≡ none → (mark_call l).answer ≡ l.answer

unfoldable pub Touching : Type 0
Touching = (l : MarkLent) → AnswerTouched l
