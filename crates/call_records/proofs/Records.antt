-- The record, field by field.
use mathlib.Core.Path.{◌≡◌, ap, ap₂, ◌∙◌}
use mathlib.Core.List.{List, ◌++◌}
use Prim.Native.Nat.{ℕ, suc, ◌+◌, ◌*◌, ◌≤◌}
use lib.ListN.{length, drop}
use Rattle.paper.specs.Answer.{record_size, Record, record_bytes, refused_with}
use Rattle.code.specs.Cells.{errno_cell}
use Rattle.code.specs.Windows.{written_cell, used_cell}
use Rattle.store_cells.specs.Cells.{Got, PutField}
use Rattle.store_cells.proofs.Paper.{record-law}
use Rattle.layout.specs.Parts.{half_part}
use Rattle.call_records.specs.declared.Record as lent
use Rattle.call_records.specs.Records.{fields_of, refused_fields, reported, Written}

pub fields-written : (a b c d e f g h i : List ℕ) (r : lent.Record) → record_size ≤ length a
    → PutField a b 0 r.ending → PutField b c 1 r.refusal → PutField c d 2 r.offset → PutField d e 3 r.steps
    → PutField e f 4 r.errno → PutField f g 5 r.output → PutField g h 6 r.inputs → PutField h i 7 r.words
    → Written a i (fields_of r)
fields-written a b c d e f g h i r room p q s t u v w x = record { bytes = record-law a b c d e f g h i (fields_of r) room p q s t u v w x }

-- a record as a run leaves it, or a refusal
abbrev filled : (ending refusal offset steps errno output inputs words : ℕ) → Record
filled ending refusal offset steps errno output inputs words =
    record { ending = ending; refusal = refusal; offset = offset; steps = steps; errno = errno; output = output; inputs = inputs; words = words }

pub refusal-written : (before after : List ℕ) (number offset : ℕ) → Written before after (filled 0 number offset 0 0 0 0 0) → Written before after (refused_fields number offset)
unfolding refused_fields refused_with
refusal-written before after number offset w = w

pub report-written : (fields fields' values : List ℕ) (ending place made words errno low high output low' high' used : ℕ)
    → Got values errno_cell errno → Got values written_cell low → Got values (suc written_cell) high → output ≡ low + half_part * high
    → Got values used_cell low' → Got values (suc used_cell) high' → used ≡ low' + half_part * high'
    → Written fields fields' (filled ending 0 place made errno output used words) → Written fields fields' (reported ending place made values words)
unfolding reported
report-written fields fields' values ending place made words errno low high output low' high' used a b c d e f g w =
    let o = d ∙ ap₂ (λ (x y : ℕ). x + half_part * y) b c in
    let u = g ∙ ap₂ (λ (x y : ℕ). x + half_part * y) e f in
    let q : filled ending 0 place made errno output used words ≡ reported ending place made values words =
    λ i. record { ending = ending; refusal = 0; offset = place; steps = made; errno = a i; output = o i; inputs = u i; words = words } in
    record { bytes = w.bytes ∙ ap (λ (x : Record). record_bytes x ++ drop record_size fields) q }
