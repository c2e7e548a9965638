-- What the request says of every class.
use Rattle.std.specs.Prelude.{◌≡◌, List, ℕ, ◌*◌, ◌<◌, length, take, drop, replicate}
use Rattle.paper.specs.Answer.{store_words, record_size, result}
use Rattle.classes.specs.Classes.{asked_alone, class_refusal, ClassLent, ClassAnswer, lengths_of, modules_of, class_question_of, text_in, share_in, part, single, data_bytes, class_call}

abbrev pub refusal_in : ClassLent → ℕ
refusal_in l = class_refusal (class_question_of l)

abbrev pub text_at : ClassLent → ℕ → List ℕ
text_at l i = text_in l.texts (lengths_of l.lengths) i

-- Where the parts of module i stand after the call.
abbrev pub output_after : ClassLent → ℕ → List ℕ
output_after l i = part (share_in l) i (class_call l).output

abbrev pub record_after : ClassLent → ℕ → List ℕ
record_after l i = part record_size i (class_call l).records

abbrev pub data_after : ClassLent → ℕ → List ℕ
data_after l i = part data_bytes i (class_call l).module-data

-- How many bytes module i writes, as its record tells.
abbrev pub count_of : ClassLent → ℕ → ℕ
count_of l i = (result (asked_alone (class_question_of l) i)).fields.output

-- ---- "Each module's record, output and data are those of a call for it alone with that share, in order"
pub record Alone (l : ClassLent) (i : ℕ) : Type 0 where
  -- that call is lent a whole record
  pub made : (single l i).returned ≡ 1
  pub output : output_after l i ≡ (single l i).output
  pub fields : record_after l i ≡ (single l i).fields
  pub module-data : data_after l i ≡ take data_bytes (single l i).values

unfoldable pub ModuleAlone : Type 0
ModuleAlone = (l : ClassLent) → refusal_in l ≡ 0 → (i : ℕ) → i < modules_of l → Alone l i

-- ---- "all else untouched; the stores end as zeros, even with no modules"
-- A store is zeros up to 16,384 words, and beyond as it was.
pub record Zeros (before after : List ℕ) : Type 0 where
  pub zeros : take (4 * store_words) after ≡ replicate (4 * store_words) 0
  pub past : drop (4 * store_words) after ≡ drop (4 * store_words) before

pub record Else (l : ClassLent) : Type 0 where
  pub returned : (class_call l).returned ≡ 0
  -- of a share what lies past the module's count
  pub between : (i : ℕ) → i < modules_of l → drop (count_of l i) (output_after l i) ≡ drop (count_of l i) (part (share_in l) i l.output)
  -- past the last share, and past the last module's part of the lists
  pub past-output : drop (modules_of l * share_in l) (class_call l).output ≡ drop (modules_of l * share_in l) l.output
  pub past-records : drop (modules_of l * record_size) (class_call l).records ≡ drop (modules_of l * record_size) l.records
  pub past-data : drop (modules_of l * data_bytes) (class_call l).module-data ≡ drop (modules_of l * data_bytes) l.module-data
  pub output-length : length (class_call l).output ≡ length l.output
  pub records-length : length (class_call l).records ≡ length l.records
  pub data-length : length (class_call l).module-data ≡ length l.module-data
  pub code : Zeros l.code (class_call l).code
  pub values : Zeros l.values (class_call l).values

unfoldable pub ElseUntouched : Type 0
ElseUntouched = (l : ClassLent) → refusal_in l ≡ 0 → Else l

-- ---- one module's text never changes another's part
-- Two classes agree on a module, wherever it stands in them: its text, and what it may use.
pub record Agree (l m : ClassLent) (i j : ℕ) : Type 0 where
  pub text : text_at l i ≡ text_at m j
  pub steps : l.steps ≡ m.steps
  pub depth : l.depth ≡ m.depth
  pub inputs : l.inputs ≡ m.inputs
  pub share : share_in l ≡ share_in m

-- Its part is the same then.
pub record SamePart (l m : ClassLent) (i j : ℕ) : Type 0 where
  pub fields : record_after l i ≡ record_after m j
  pub module-data : data_after l i ≡ data_after m j
  pub count : count_of l i ≡ count_of m j
  pub written : take (count_of l i) (output_after l i) ≡ take (count_of m j) (output_after m j)

unfoldable pub NeverChangesAnother : Type 0
NeverChangesAnother = (l m : ClassLent) → refusal_in l ≡ 0 → refusal_in m ≡ 0 → (i j : ℕ) → i < modules_of l → j < modules_of m → Agree l m i j → SamePart l m i j

-- ---- "Refusals: 20 [..], 21 [..], 27 [..], in this order after 2, offset 0; these and 2 leave output and lists untouched and zero the stores"
-- Output and lists are as they were, whatever the refusal is.
pub record ListsKept (l : ClassLent) (a : ClassAnswer) : Type 0 where
  pub returned : a.returned ≡ refusal_in l
  pub output : a.output ≡ l.output
  pub records : a.records ≡ l.records
  pub module-data : a.module-data ≡ l.module-data

pub record Refusals (l : ClassLent) (a : ClassAnswer) : Type 0 where
  pub kept : ¬ (refusal_in l ≡ 0) → ListsKept l a
  -- 1 leaves the stores as they were
  pub one : refusal_in l ≡ 1 → (a.code ≡ l.code) × (a.values ≡ l.values)
  pub others : ¬ (refusal_in l ≡ 1) → Zeros l.code a.code × Zeros l.values a.values

unfoldable pub RefusalsLeave : Type 0
RefusalsLeave = (l : ClassLent) → Refusals l (class_call l)
