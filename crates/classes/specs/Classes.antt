-- Request 7, "A whole class in one call": what a class is answered, from what the paper's call answers each module alone.
use Rattle.std.specs.Prelude.{Bool, true, false, ◌||◌, List, [], ◌∷◌, ◌++◌, ℕ, zero, suc, ◌+◌, ◌-◌, ◌*◌, ◌/◌, eqb, ltb, length, get_or, take, drop, replicate, ℤ}
use Rattle.paper.specs.Declarations.{module_word_limit}
use Rattle.paper.specs.Undoing.{plainly}
use Rattle.paper.specs.Answer.{store_words, depth_limit, record_size, Question, Result, result, LentBytes, BytesAnswer, cells_of, pendant_call}

-- "21 for more than 64 modules"
abbrev pub class_limit : ℕ
class_limit = 64

-- "the records (eight 64-bit words a module)"
abbrev pub record_words : ℕ
record_words = 8

-- ---- what is asked
-- "One call takes the texts back to back, a list of lengths, one step allowance, depth and input list that hold for each, a list for the records [..] and one for module data":
-- of the memory lent the lengths, that of the records in 64-bit words, that of the data in words.
pub record ClassQuestion : Type 0 where
  pub texts : List ℕ
  pub lengths : List ℕ
  pub steps : ℕ
  pub depth : ℕ
  pub inputs : List ℤ
  pub room : ℕ
  pub code : ℕ
  pub values : ℕ
  pub records : ℕ
  pub module-data : ℕ

unfoldable pub sum : List ℕ → ℕ
sum [] = 0
sum (n ∷ r) = n + sum r

-- "the texts back to back": module i's text begins behind those before it.
unfoldable pub text_in : (texts lengths : List ℕ) → (i : ℕ) → List ℕ
text_in texts lengths i = take (get_or lengths i 0) (drop (sum (take i lengths)) texts)

-- "A module's output share is the buffer's length over the number of modules, fraction dropped."
unfoldable pub share_of : (room modules : ℕ) → ℕ
share_of room modules = room / modules

-- "a call for it alone with that share"
unfoldable pub asked_alone : ClassQuestion → (i : ℕ) → Question
asked_alone q i =
    record {
      text = text_in q.texts q.lengths i;
      steps = q.steps;
      depth = q.depth;
      inputs = q.inputs;
      room = share_of q.room (length q.lengths);
      code = q.code;
      values = q.values;
      asked = plainly;
    }

-- ---- refusals
-- "20 when the lengths don't add up to the text"
unfoldable pub add_up : ClassQuestion → Bool
add_up q = eqb (sum q.lengths) (length q.texts)

-- "21 for more than 64 modules"
unfoldable pub too_many : ClassQuestion → Bool
too_many q = ltb class_limit (length q.lengths)

-- "27 when either list is too short"
unfoldable pub too_short : ClassQuestion → Bool
too_short q = ltb q.records (record_words * length q.lengths) || ltb q.module-data (module_word_limit * length q.lengths)

-- "in this order after 2"; 0 where the class is not refused
unfoldable pub class_refusal : ClassQuestion → ℕ
class_refusal q =
    elim (ltb q.code store_words || ltb q.values store_words) [
      | true ↦ 1
      | false ↦ elim (eqb q.depth 0 || ltb depth_limit q.depth) [
        | true ↦ 2
        | false ↦ elim (add_up q) [
          | false ↦ 20
          | true ↦ elim (too_many q) [
            | true ↦ 21
            | false ↦ elim (too_short q) [ true ↦ 27 | false ↦ 0 ]
          ]
        ]
      ]
    ]

-- ---- the answer but for the memory lent
-- The refusal, and of a class that is not refused what each module comes to, in order.
pub record ClassResult : Type 0 where
  pub refusal : ℕ
  pub results : List Result

unfoldable pub results_to : ClassQuestion → (n : ℕ) → List Result
results_to q zero = []
results_to q (suc n) = results_to q n ++ (result (asked_alone q n) ∷ [])

unfoldable pub class_result : ClassQuestion → ClassResult
class_result q =
    elim (eqb (class_refusal q) 0) [
      | true ↦ record { refusal = 0; results = results_to q (length q.lengths) }
      | false ↦ record { refusal = class_refusal q; results = [] }
    ]

-- ---- the call on bytes, as the host makes it
-- What a class is lent, and what it finds there.
pub record ClassLent : Type 0 where
  pub texts : List ℕ
  pub lengths : List ℕ
  pub steps : ℕ
  pub depth : ℕ
  pub inputs : List ℕ
  pub output : List ℕ
  pub code : List ℕ
  pub values : List ℕ
  pub records : List ℕ
  pub module-data : List ℕ

-- What is returned, and what the lent bytes hold after the call.
pub record ClassAnswer : Type 0 where
  pub returned : ℕ
  pub output : List ℕ
  pub code : List ℕ
  pub values : List ℕ
  pub records : List ℕ
  pub module-data : List ℕ

-- "bytes for words, four each, low byte first (a part word is left out)": a length is no negative number.
unfoldable pub lengths_of : List ℕ → List ℕ
lengths_of [] = []
lengths_of (a ∷ []) = []
lengths_of (a ∷ b ∷ []) = []
lengths_of (a ∷ b ∷ c ∷ []) = []
lengths_of (a ∷ b ∷ c ∷ d ∷ r) = (a + 256 * b + 65536 * c + 16777216 * d) ∷ lengths_of r

unfoldable pub modules_of : ClassLent → ℕ
modules_of l = length (lengths_of l.lengths)

unfoldable pub class_question_of : ClassLent → ClassQuestion
class_question_of l =
    record {
      texts = l.texts;
      lengths = lengths_of l.lengths;
      steps = l.steps;
      depth = l.depth;
      inputs = cells_of l.inputs;
      room = length l.output;
      code = length (cells_of l.code);
      values = length (cells_of l.values);
      records = length l.records / 8;
      module-data = length (cells_of l.module-data);
    }

unfoldable pub share_in : ClassLent → ℕ
share_in l = share_of (length l.output) (modules_of l)

-- Of a list in parts of one size, part i.
unfoldable pub part : (size i : ℕ) → List ℕ → List ℕ
part size i list = take size (drop (i * size) list)

-- What module i alone would be lent: its text, its share of the output, its part of the records; all else as the class is.
unfoldable pub alone : ClassLent → (i : ℕ) → LentBytes
alone l i =
    record {
      text = text_in l.texts (lengths_of l.lengths) i;
      steps = l.steps;
      depth = l.depth;
      inputs = l.inputs;
      output = part (share_in l) i l.output;
      code = l.code;
      values = l.values;
      fields = part record_size i l.records;
      asked = plainly;
    }

-- "a call for it alone"
unfoldable pub single : ClassLent → (i : ℕ) → BytesAnswer
single l i = pendant_call (alone l i)

-- "Each module's record, output and data are those of a call for it alone": the data are the first 1,024 words of its value store, "unused ones 0".
abbrev pub data_bytes : ℕ
data_bytes = 4 * module_word_limit

unfoldable pub output_of : ClassLent → (i : ℕ) → List ℕ
output_of l i = (single l i).output

unfoldable pub record_of : ClassLent → (i : ℕ) → List ℕ
record_of l i = (single l i).fields

unfoldable pub data_of : ClassLent → (i : ℕ) → List ℕ
data_of l i = take data_bytes (single l i).values

-- "in order, all else untouched": of n parts one behind another, and then what was there.
unfoldable pub in_order : (ℕ → List ℕ) → (n : ℕ) → List ℕ
in_order f zero = []
in_order f (suc n) = in_order f n ++ f n

unfoldable pub filled : (ℕ → List ℕ) → (size n : ℕ) → List ℕ → List ℕ
filled f size n list = in_order f n ++ drop (n * size) list

-- "the stores end as zeros"; beyond 16,384 words nothing is touched
unfoldable pub zeroed : List ℕ → List ℕ
zeroed store = replicate (4 * store_words) 0 ++ drop (4 * store_words) store

unfoldable pub taken : ClassLent → ClassAnswer
taken l =
    record {
      returned = 0;
      output = filled (output_of l) (share_in l) (modules_of l) l.output;
      code = zeroed l.code;
      values = zeroed l.values;
      records = filled (record_of l) record_size (modules_of l) l.records;
      module-data = filled (data_of l) data_bytes (modules_of l) l.module-data;
    }

-- "these and 2 leave output and lists untouched and zero the stores"
unfoldable pub refused : ClassLent → (refusal : ℕ) → ClassAnswer
refused l n =
    record { returned = n; output = l.output; code = zeroed l.code; values = zeroed l.values; records = l.records; module-data = l.module-data }

-- "1 leaves stores and output as they were"
unfoldable pub untouched : ClassLent → ClassAnswer
untouched l = record { returned = 1; output = l.output; code = l.code; values = l.values; records = l.records; module-data = l.module-data }

unfoldable pub class_call : ClassLent → ClassAnswer
class_call l =
    let n = class_refusal (class_question_of l) in
    elim (eqb n 0) [
      | true ↦ taken l
      | false ↦ elim (eqb n 1) [ true ↦ untouched l | false ↦ refused l n ]
    ]
