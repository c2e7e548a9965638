use borrow.Author.Rules.{rules}
use mathlib.Core.Path.{sym, ◌∙◌}
use Rattle.call_records.proofs.Depths.{good}
use Rattle.call_marking.proofs.MarkAnswer.{mark-short, mark-shorter, mark_code, mark-values, mark-deep, mark-told}
use Rattle.call_marking.proofs.rapid_mark.Goals as goal
use Rattle.call_marking.proofs.rapid_mark.Goals.{then-fields-lt-RECORD_BYTES-via-then-fields-lt-RECORD_BYTES, then-fields-lt-RECORD_BYTES-via-else-fields-lt-RECORD_BYTES+then-answer-lt-ANSWER_BYTES}
use Rattle.call_marking.proofs.rapid_mark.Goals.{then-code-lt-STORE_BYTES-via-then-code-lt-STORE_BYTES, then-code-lt-STORE_BYTES-via-else-code-lt-STORE_BYTES+then-values-lt-STORE_BYTES}

pub returns-then-fields-lt-RECORD_BYTES : goal.returns-then-fields-lt-RECORD_BYTES
returns-then-fields-lt-RECORD_BYTES c =
    elim c.then-fields-lt-RECORD_BYTES.branch [
      | then-fields-lt-RECORD_BYTES-via-then-fields-lt-RECORD_BYTES w ↦ search (rules, mark-short)
      | then-fields-lt-RECORD_BYTES-via-else-fields-lt-RECORD_BYTES+then-answer-lt-ANSWER_BYTES w ↦ search (rules, mark-shorter)
    ]

pub returns-then-code-lt-STORE_BYTES : goal.returns-then-code-lt-STORE_BYTES
returns-then-code-lt-STORE_BYTES c =
    elim c.then-code-lt-STORE_BYTES.branch [
      | then-code-lt-STORE_BYTES-via-then-code-lt-STORE_BYTES w ↦
          mark_code _ _ _ _ _ _ _ _ _ _ c.if-fields-lt-RECORD_BYTES.false c.if-answer-lt-ANSWER_BYTES.false w.if-code-lt-STORE_BYTES.true _ (rw c.number.ensures at c.refuse.ensures)
          c.type_inv.code c.type_inv.values
      | then-code-lt-STORE_BYTES-via-else-code-lt-STORE_BYTES+then-values-lt-STORE_BYTES w ↦
          mark-values _ _ _ _ _ _ _ _ _ _ c.if-fields-lt-RECORD_BYTES.false c.if-answer-lt-ANSWER_BYTES.false w.if-code-lt-STORE_BYTES.false w.if-values-lt-STORE_BYTES.true _
          (rw c.number.ensures at c.refuse.ensures) c.type_inv.code c.type_inv.values
    ]

pub returns-then-bad_depth : goal.returns-then-bad_depth
returns-then-bad_depth c =
    mark-deep _ _ _ _ _ _ _ _ _ _ c.if-fields-lt-RECORD_BYTES.false c.if-answer-lt-ANSWER_BYTES.false c.if-code-lt-STORE_BYTES.false c.if-values-lt-STORE_BYTES.false
    (sym c.if-bad_depth.true ∙ c.bad_depth.ensures) _ _ _ c.refuse_depth.ensures c.type_inv.code c.type_inv.values

pub judge-requires : goal.judge-requires
judge-requires c =
    let g = good _ (sym c.if-bad_depth.false ∙ c.bad_depth.ensures) in
    (record { code-room = c.if-code-lt-STORE_BYTES.false; values-room = c.if-values-lt-STORE_BYTES.false; fields-room = c.if-fields-lt-RECORD_BYTES.false }, g.0, g.1, c.if-answer-lt-ANSWER_BYTES.false)

pub returns : goal.returns
returns c =
    mark-told _ _ _ _ _ _ _ _ _ _ c.if-fields-lt-RECORD_BYTES.false c.if-answer-lt-ANSWER_BYTES.false c.if-code-lt-STORE_BYTES.false c.if-values-lt-STORE_BYTES.false
    (sym c.if-bad_depth.false ∙ c.bad_depth.ensures) _ _ _ _ _ c.judge.ensures c.type_inv.code c.type_inv.values
