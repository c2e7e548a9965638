-- Request 14, "Marking another simulator": the listing of our run, the mark that another listing is given, and the whole call.
use Rattle.std.specs.Prelude.{Bool, true, false, ◌||◌, List, [], ◌∷◌, ◌++◌, map, ℕ, zero, suc, ◌+◌, ◌*◌, eqb, ltb, length, drop, if◌then◌else◌}
use Rattle.std.proofs.Math.Option.{Option, none, some}
use Rattle.paper.specs.Sorts.{equal_texts}
use Rattle.paper.specs.Steps.{Program}
use Rattle.paper.specs.States.{State, Rooms}
use Rattle.paper.specs.Running.{goes_on, stopped, take_step, next_place, started}
use Rattle.paper.specs.Undoing.{plainly}
use Rattle.paper.specs.Answer.{Accepted, Verdict, refused_by, accepted, offset_of, verdict, Question, too_small, bad_depth, question_of, low_first, record_size, LentBytes, BytesAnswer, lent_of, untouched, pendant_call}

-- ---- the listing of our run
-- "the place of each counted step, in order": the words that the steps are at, of a run with so many steps. "A failed step counts"; "in 6, 7, 8 the step isn't counted".
unfoldable pub listed : Program → Rooms → (steps : ℕ) → State → List ℕ
listed P R zero s = []
listed P R (suc n) s =
    elim (take_step P R s) [
      | goes_on s' ↦ next_place P s ∷ listed P R n s'
      | stopped was_counted e ↦ elim was_counted [ true ↦ next_place P s ∷ [] | false ↦ [] ]
    ]

abbrev pub rooms_of : Question → Rooms
rooms_of q = record { depth = q.depth; output = q.room; inputs = q.inputs }

-- "our whole run", without K: a place is told by its offset, as the record tells it.
unfoldable pub listing_of : Question → Accepted → List ℕ
listing_of q a =
    map (offset_of q.text a.words) (listed a.program (rooms_of q) q.steps (started a.program a.main))

-- "A refused module gives only its refusal."
unfoldable pub judged : Question → Verdict → Option (List ℕ)
judged q (refused_by f) = none
judged q (accepted a) = some (listing_of q a)

-- 1 and 2 are refusals too.
unfoldable pub ours : Question → Option (List ℕ)
ours q = elim (too_small q) [ true ↦ none | false ↦ elim (bad_depth q) [ true ↦ none | false ↦ judged q (verdict q.text) ] ]

-- ---- the mark
pub data Mark : Type 0 where
  yes : Mark
  differs : (index : ℕ) → Mark

-- The length of the common beginning.
unfoldable pub shared : (ours theirs : List ℕ) → ℕ
shared [] theirs = 0
shared (a ∷ r) [] = 0
shared (a ∷ r) (b ∷ s) = elim (eqb a b) [ true ↦ suc (shared r s) | false ↦ 0 ]

-- "say yes exactly when it equals that of our whole run, else the index, from 0, of the first entry that differs, is missing or is surplus". They are compared as texts are, number by number.
unfoldable pub marked : (ours theirs : List ℕ) → Mark
marked ours theirs = if equal_texts ours theirs then yes else differs (shared ours theirs)

-- The two numbers that are told: 1 for yes, and then how many entries there are; else 0 and the index.
pub record Marking : Type 0 where
  pub same : ℕ
  pub index : ℕ

unfoldable pub marking : (ours theirs : List ℕ) → Marking
marking ours theirs =
    elim (marked ours theirs) [ yes ↦ record { same = 1; index = length ours } | differs i ↦ record { same = 0; index = i } ]

-- A refused module has no listing, and so no mark.
unfoldable pub beside : Option (List ℕ) → (theirs : List ℕ) → Option Marking
beside none theirs = none
beside (some o) theirs = some (marking o theirs)

-- "Given module, allowances, input and listing"
unfoldable pub mark : Question → (theirs : List ℕ) → Option Marking
mark q theirs = beside (ours q) theirs

-- ---- the call on bytes
-- A lent listing: "bytes for words, four each, low byte first (a part word is left out)". An entry is an offset, so it has no sign.
unfoldable pub entries_of : List ℕ → List ℕ
entries_of [] = []
entries_of (a ∷ []) = []
entries_of (a ∷ b ∷ []) = []
entries_of (a ∷ b ∷ c ∷ []) = []
entries_of (a ∷ b ∷ c ∷ d ∷ r) = (a + 256 * b + 65536 * c + 16777216 * d) ∷ entries_of r

-- Eight bytes for the answer, four a number.
abbrev pub mark_size : ℕ
mark_size = 8

unfoldable pub mark_bytes : Marking → List ℕ
mark_bytes m = low_first 4 m.same ++ low_first 4 m.index

pub record MarkLent : Type 0 where
  pub text : List ℕ
  pub steps : ℕ
  pub depth : ℕ
  pub inputs : List ℕ
  pub output : List ℕ
  pub code : List ℕ
  pub values : List ℕ
  pub listing : List ℕ
  pub fields : List ℕ
  pub answer : List ℕ

-- What the pendant's call of the same run leaves, and what the answer holds.
pub record MarkAnswer : Type 0 where
  pub call : BytesAnswer
  pub answer : List ℕ

-- The pendant's call that is lent the same: a run without K.
unfoldable pub plain_call : MarkLent → LentBytes
plain_call l =
    record { text = l.text; steps = l.steps; depth = l.depth; inputs = l.inputs; output = l.output; code = l.code; values = l.values; fields = l.fields; asked = plainly }

-- "A refused module gives only its refusal": the answer is untouched then. So are, in any case, its bytes past the eighth.
unfoldable pub answer_after : Option Marking → (answer : List ℕ) → List ℕ
answer_after none answer = answer
answer_after (some m) answer = mark_bytes m ++ drop mark_size answer

unfoldable pub mark_of : MarkLent → Option Marking
mark_of l = mark (question_of (lent_of (plain_call l))) (entries_of l.listing)

-- "lent fewer, it returns 0 and touches nothing": fewer bytes than the record has, or the answer.
unfoldable pub too_few : MarkLent → Bool
too_few l = ltb (length l.fields) record_size || ltb (length l.answer) mark_size

unfoldable pub mark_call : MarkLent → MarkAnswer
mark_call l =
    elim (too_few l) [
      | true ↦ record { call = untouched (plain_call l); answer = l.answer }
      | false ↦ record { call = pendant_call (plain_call l); answer = answer_after (mark_of l) l.answer }
    ]
