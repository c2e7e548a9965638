use mathlib.Core.Path.{sym, ◌∙◌}
use native.Mathlib.Omega.{arith}
use Rattle.call_records.proofs.Depths.{good}
use Rattle.call_judging.proofs.PaperAnswer.{call-short, small-code, small-values, call-deep, call-judged}
use Rattle.call_pendant.proofs.call.Goals as goal
use Rattle.call_pendant.proofs.call.Goals.{then-code-lt-STORE_BYTES-via-then-code-lt-STORE_BYTES, then-code-lt-STORE_BYTES-via-else-code-lt-STORE_BYTES+then-values-lt-STORE_BYTES}

pub returns-then-fields-lt-RECORD_BYTES : goal.returns-then-fields-lt-RECORD_BYTES
returns-then-fields-lt-RECORD_BYTES c = call-short _ _ _ _ _ _ _ _ _ (omega (arith, c.if-fields-lt-RECORD_BYTES.true))

pub returns-then-code-lt-STORE_BYTES : goal.returns-then-code-lt-STORE_BYTES
returns-then-code-lt-STORE_BYTES c =
    elim c.then-code-lt-STORE_BYTES.branch [
      | then-code-lt-STORE_BYTES-via-then-code-lt-STORE_BYTES w ↦
          small-code _ _ _ _ _ _ _ _ _ c.if-fields-lt-RECORD_BYTES.false w.if-code-lt-STORE_BYTES.true _ (rw c.number.ensures at c.refuse.ensures) c.type_inv.code c.type_inv.values
      | then-code-lt-STORE_BYTES-via-else-code-lt-STORE_BYTES+then-values-lt-STORE_BYTES w ↦
          small-values _ _ _ _ _ _ _ _ _ c.if-fields-lt-RECORD_BYTES.false w.if-code-lt-STORE_BYTES.false w.if-values-lt-STORE_BYTES.true _ (rw c.number.ensures at c.refuse.ensures)
          c.type_inv.code c.type_inv.values
    ]

pub refuse_depth-requires : goal.refuse_depth-requires
refuse_depth-requires c =
    record { code-room = c.if-code-lt-STORE_BYTES.false; values-room = c.if-values-lt-STORE_BYTES.false; fields-room = c.if-fields-lt-RECORD_BYTES.false }

pub returns-then-bad_depth : goal.returns-then-bad_depth
returns-then-bad_depth c =
    call-deep _ _ _ _ _ _ _ _ _ c.if-fields-lt-RECORD_BYTES.false c.if-code-lt-STORE_BYTES.false c.if-values-lt-STORE_BYTES.false
    (sym c.if-bad_depth.true ∙ c.bad_depth.ensures) _ _ _ c.refuse_depth.ensures
    c.type_inv.code c.type_inv.values

pub judge-requires : goal.judge-requires
judge-requires c =
    let g = good _ (sym c.if-bad_depth.false ∙ c.bad_depth.ensures) in
    (record { code-room = c.if-code-lt-STORE_BYTES.false; values-room = c.if-values-lt-STORE_BYTES.false; fields-room = c.if-fields-lt-RECORD_BYTES.false }, g.0, g.1)

pub returns : goal.returns
returns c =
    call-judged _ _ _ _ _ _ _ _ _ c.if-fields-lt-RECORD_BYTES.false c.if-code-lt-STORE_BYTES.false c.if-values-lt-STORE_BYTES.false
    (sym c.if-bad_depth.false ∙ c.bad_depth.ensures) _ _ _ _ c.judge.ensures c.type_inv.code c.type_inv.values
