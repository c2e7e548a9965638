-- The parts of the call of a class.
use Rattle.std.specs.Prelude.{◌≡◌, Result, Ok, Err, List, [], ◌++◌, ℕ, ◌+◌, ◌*◌, ◌<◌, ◌≤◌, length, take, drop}
use Rattle.laws.specs.Lists.{replaced}
use Rattle.paper.specs.Answer as paper
use Rattle.paper.specs.Answer.{record_size, depth_limit, record_bytes, bytes_of, store_after}
use Rattle.layout.specs.Named.{store_bytes}
use Rattle.classes.specs.Classes.{ClassQuestion, ClassLent, class_question_of, class_refusal, part, share_in, data_bytes, output_of, record_of, data_of, filled}
use Rattle.call_class.specs.Classes.{lent}
use Rattle.call_class.specs.declared.Refusal.{Refusal}
use Rattle.call_class.specs.declared.Refusal.TheVariants.{SmallStore, WrongDepth, LengthsDiffer, ManyModules, ShortList}

-- What a class is refused for, by its number.
abbrev pub number_of : Refusal → ℕ
number_of SmallStore = 1
number_of WrongDepth = 2
number_of LengthsDiffer = 20
number_of ManyModules = 21
number_of ShortList = 27

-- What is told of it: 0 where it is not refused.
abbrev pub told : Result Unit Refusal → ℕ
told (Ok nothing) = 0
told (Err refusal) = number_of refusal

-- What a class asks, as far as a refusal looks at it.
unfoldable pub sized : (texts lengths : List ℕ) → (depth : ℕ) → (code values records' data' : List ℕ) → ClassQuestion
sized texts lengths depth code values records' data' = class_question_of (lent texts lengths 0 depth [] [] code values records' data')

-- A module's words can be copied to there.
pub record Takes (values data' : List ℕ) (at : ℕ) : Type 0 where
  pub from : data_bytes ≤ length values
  pub to : at + data_bytes ≤ length data'

-- There is room for module i.
pub record Carries (out code values records' data' : List ℕ) (depth i share : ℕ) : Type 0 where
  pub out-room : i * share + share ≤ length out
  pub code-room : store_bytes ≤ length code
  pub values-room : store_bytes ≤ length values
  pub records-room : i * record_size + record_size ≤ length records'
  pub data-room : i * data_bytes + data_bytes ≤ length data'
  pub some : 0 < depth
  pub most : depth ≤ depth_limit

-- It has come to a result: its share of the output, its record and its data say so, and every other byte of them is as it was. Past their words the stores are as they were.
pub record Carried (R : paper.Result) (i share : ℕ) (out code values records' data' out'' code'' values'' records'' data'' : List ℕ) : Type 0 where
  pub output : out'' ≡ replaced out (i * share) (R.written ++ drop (length R.written) (part share i out)) share
  pub records : records'' ≡ replaced records' (i * record_size) (record_bytes R.fields) record_size
  pub module-data : data'' ≡ replaced data' (i * data_bytes) (take data_bytes (bytes_of (store_after R.kept []))) data_bytes
  pub code-past : drop store_bytes code'' ≡ drop store_bytes code
  pub values-past : drop store_bytes values'' ≡ drop store_bytes values

-- The class is not refused.
pub record Accepts (l : ClassLent) : Type 0 where
  pub taken : class_refusal (class_question_of l) ≡ 0

-- i modules have been carried out, and stand in order.
pub record Reached (l : ClassLent) (i : ℕ) (out code values records' data' : List ℕ) : Type 0 where
  pub output : out ≡ filled (output_of l) (share_in l) i l.output
  pub records : records' ≡ filled (record_of l) record_size i l.records
  pub module-data : data' ≡ filled (data_of l) data_bytes i l.module-data
  pub code-past : drop store_bytes code ≡ drop store_bytes l.code
  pub values-past : drop store_bytes values ≡ drop store_bytes l.values
