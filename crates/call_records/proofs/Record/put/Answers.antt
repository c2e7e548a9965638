use Rattle.call_records.proofs.Records.{fields-written}
use Rattle.call_records.proofs.Record.put.Goals as goal

pub returns : goal.returns
returns c =
    fields-written _ _ _ _ _ _ _ _ _ _ c.requires
    c.put_field.ensures
    c.put_field-2.ensures
    c.put_field-3.ensures
    c.put_field-4.ensures
    c.put_field-5.ensures
    c.put_field-6.ensures
    c.put_field-7.ensures
    c.put_field-8.ensures
