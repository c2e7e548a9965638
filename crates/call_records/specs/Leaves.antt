-- What a call leaves in every lent byte: the stores, the record, the output.
use Rattle.std.specs.Prelude.{◌≡◌, List, [], ◌++◌, ℕ, ◌≤◌, length, drop, ℤ}
use Rattle.paper.specs.Answer.{store_words, record_size, Result, cells_of, store_after}
use Rattle.layout.specs.Named.{store_bytes}
use Rattle.call_records.specs.Records.{refused_fields, reported, Written, Emptied}

-- ---- the stores
-- Both stores and the record are as long as the paper asks.
pub record Rooms (code values fields : List ℕ) : Type 0 where
  pub code-room : store_bytes ≤ length code
  pub values-room : store_bytes ≤ length values
  pub fields-room : record_size ≤ length fields

-- The store's first words are those kept, then there are zeros, and what lies past its words is as it was.
pub record Left (kept : List ℤ) (before after : List ℕ) : Type 0 where
  pub words : cells_of after ≡ store_after kept (cells_of before)
  pub size : length after ≡ length before
  pub past : drop store_bytes after ≡ drop store_bytes before

-- ---- after a run
-- The stores can be cleared but for so many words of values, and there is room for the record.
pub record Settles (code values fields : List ℕ) (words : ℕ) : Type 0 where
  pub rooms : Rooms code values fields
  pub few : words ≤ store_words

pub record Settled (ending place made words : ℕ) (code values fields code' values' fields' : List ℕ) : Type 0 where
  pub told : Written fields fields' (reported ending place made values words)
  pub cleared : Emptied code values code' values' words

-- ---- a refusal
-- A refusal leaves both stores empty.
pub record Refuses (number offset : ℕ) (code values fields code' values' fields' : List ℕ) : Type 0 where
  pub code-left : Left [] code code'
  pub values-left : Left [] values values'
  pub told : Written fields fields' (refused_fields number offset)

-- ---- what a call leaves where it comes to a result
pub record Tells (R : Result) (out code values fields out' code' values' fields' : List ℕ) : Type 0 where
  pub output : out' ≡ R.written ++ drop (length R.written) out
  pub code-left : Left [] code code'
  pub values-left : Left R.kept values values'
  pub told : Written fields fields' R.fields
