-- What a call leaves in the record, and in the stores.
use Rattle.std.specs.Prelude.{◌≡◌, List, ◌++◌, ℕ, ◌-◌, ◌≤◌, length, get_or, drop}
use Rattle.paper.specs.Answer.{record_size, store_words, Record, record_bytes, refused_with}
use Rattle.store_cells.specs.Cells.{cells_of, Cleared}
use Rattle.code.specs.Cells.{errno_cell}
use Rattle.code.specs.Windows.{written_cell, used_cell, count_at}
use Rattle.layout.specs.Named.{store_bytes}
use Rattle.call_records.specs.declared.Record as lent

-- ---- the record
abbrev pub fields_of : lent.Record → Record
fields_of r =
    record { ending = r.ending; refusal = r.refusal; offset = r.offset; steps = r.steps; errno = r.errno; output = r.output; inputs = r.inputs; words = r.words }

unfoldable pub refused_fields : (number offset : ℕ) → Record
refused_fields number offset = (refused_with (record { number = number; offset = offset })).fields

-- The record of a run that has ended: how it ended, and what the value store has counted.
unfoldable pub reported : (ending place made : ℕ) → (values : List ℕ) → (words : ℕ) → Record
reported ending place made values words =
    let X = cells_of values in
    record { ending = ending; refusal = 0; offset = place; steps = made; errno = get_or X errno_cell 0; output = count_at X written_cell; inputs = count_at X used_cell; words = words }

-- The record has these fields now, and every byte past it is as it was.
pub record Written (before after : List ℕ) (f : Record) : Type 0 where
  pub bytes : after ≡ record_bytes f ++ drop record_size before

-- What the record of a run asks: the cells that were counted in, and the record.
pub record Reports (values fields : List ℕ) : Type 0 where
  pub values-room : store_bytes ≤ length values
  pub fields-room : record_size ≤ length fields

-- ---- the stores
pub record Empties (code values : List ℕ) (words : ℕ) : Type 0 where
  pub code-room : store_bytes ≤ length code
  pub values-room : store_bytes ≤ length values
  pub few : words ≤ store_words

pub record Emptied (code values code' values' : List ℕ) (words : ℕ) : Type 0 where
  pub code-cleared : Cleared code code' 0 store_words
  pub values-cleared : Cleared values values' words (store_words - words)
