-- What a call returns, place by place, is the paper's answer.
use mathlib.Core.Path.{◌≡◌, refl, sym, ap, ◌∙◌}
use mathlib.Core.Bool.{true, false}
use mathlib.Core.List.{List, [], ◌++◌}
use Prim.Native.Nat.{ℕ, ◌/◌, ◌≤◌, ◌<◌}
use native.Mathlib.Omega.{arith}
use lib.ListN.{length, drop, length-map}
use mir.Syntax.{w32}
use mir.Val.{to_z}
use borrow.Author.Tests.{lt-ltb, le-ltb}
use Rattle.paper.specs.Undoing.{Asked}
use Rattle.paper.specs.Answer as paper
use Rattle.paper.specs.Answer.{store_words, record_size, Verdict, refused_by, accepted, verdict, Question, Result, LentBytes, lent_of, question_of, refused_with, carried_out, too_small, bad_depth, result, answer, spread, pendant_call}
use Rattle.store_cells.specs.Cells.{cells_of}
use Rattle.store_cells.proofs.Laws.{length-words}
use Rattle.store_cells.proofs.Paper.{words-paper}
use Rattle.layout.specs.Named.{store_bytes}
use Rattle.layout.specs.Rules.{small_store, wrong_depth}
use Rattle.call_records.specs.Records.{refused_fields, Written}
use Rattle.call_records.specs.Leaves.{Refuses, Tells}
use Rattle.call_records.proofs.Stores.{AllBytes, left-bytes, same_bytes}
use Rattle.call_records.proofs.Depths.{is_bad}
use Rattle.call_records.proofs.Refusals.{refusal-tells}
use Rattle.call_judging.specs.Carries.{put}
use Rattle.call_judging.specs.Calls.{lent, Calls}

word_count : (l : List ℕ) → length (paper.cells_of l) ≡ length l / 4
word_count l = ap length (words-paper l) ∙ length-map (cells_of l) (to_z w32) ∙ length-words l

-- ---- what was lent
module _ (asked : Asked) (text : List ℕ) (steps depth : ℕ) (inputs out code values fields : List ℕ) where
  abbrev all : LentBytes
  all = lent asked text steps depth inputs out code values fields

  abbrev question : Question
  question = question_of (lent_of all)

  pub call-short : length fields < record_size → Calls all 0 out code values fields
  unfolding lent pendant_call
  call-short h = record { is = rw (lt-ltb (length fields) record_size h, pendant_call) }

  -- ---- a store is too small
  call-small : record_size ≤ length fields → too_small question ≡ true → (fields' : List ℕ) → Written fields fields' (refused_fields small_store 0) → AllBytes code → AllBytes values
      → Calls all 1 out code values fields'
  unfolding lent lent_of pendant_call spread answer result refused_fields
  call-small h t fields' w c v =
      let e : result question ≡ refused_with (record { number = small_store; offset = 0 }) = rw (t, result) in
      let p : pendant_call all ≡ spread (answer (lent_of all)) all = rw (le-ltb (length fields) record_size h, pendant_call) in
      let q : answer (lent_of all) ≡ record { fields = refused_fields small_store 0; output = out; code = paper.cells_of code; values = paper.cells_of values } = rw (t, answer) (rw e) in
      let x = w.bytes in
      let y = same_bytes code c in
      let z = same_bytes values v in
      record {
        is = (λ i. record { returned = 1; output = out; code = y i; values = z i; fields = x i })
            ∙ sym (p ∙ ap (λ (b : paper.Answer). spread b all) q);
      }

  pub few-code : length code < store_bytes → too_small question ≡ true
  unfolding lent lent_of question_of too_small
  few-code s = rw (lt-ltb (length (paper.cells_of code)) store_words (omega (arith, word_count code)))

  pub few-values : store_bytes ≤ length code → length values < store_bytes → too_small question ≡ true
  unfolding lent lent_of question_of too_small
  few-values l s =
      rw (le-ltb (length (paper.cells_of code)) store_words (omega (arith, word_count code)), lt-ltb (length (paper.cells_of values)) store_words (omega (arith, word_count values)))

  pub small-code : record_size ≤ length fields → length code < store_bytes → (fields' : List ℕ) → Written fields fields' (refused_fields small_store 0) → AllBytes code → AllBytes values
      → Calls all 1 out code values fields'
  small-code h s = call-small h (few-code s)

  pub small-values : record_size ≤ length fields → store_bytes ≤ length code → length values < store_bytes → (fields' : List ℕ) → Written fields fields' (refused_fields small_store 0) → AllBytes code → AllBytes values
      → Calls all 1 out code values fields'
  small-values h l s = call-small h (few-values l s)

  -- ---- the stores are lent
  module _ (h : record_size ≤ length fields) (g : store_bytes ≤ length code) (k : store_bytes ≤ length values) where
    pub not-small : too_small question ≡ false
    unfolding lent lent_of question_of too_small
    not-small = rw (le-ltb (length (paper.cells_of code)) store_words (omega (arith, word_count code)), le-ltb (length (paper.cells_of values)) store_words (omega (arith, word_count values)))

    call-tells : (R : Result) → result question ≡ R → (out' code' values' fields' : List ℕ) → Tells R out code values fields out' code' values' fields'
        → AllBytes code' → AllBytes values' → Calls all 1 out' code' values' fields'
    unfolding lent lent_of pendant_call spread answer
    call-tells R e out' code' values' fields' t c v =
        let p : pendant_call all ≡ spread (answer (lent_of all)) all = rw (le-ltb (length fields) record_size h, pendant_call) in
        let q : answer (lent_of all)
        ≡ record { fields = R.fields; output = R.written ++ drop (length R.written) out; code = paper.store_after [] (paper.cells_of code); values = paper.store_after R.kept (paper.cells_of values) } =
        rw (not-small, answer) (rw e) in
        let w = t.output in
        let x = t.told.bytes in
        let y = left-bytes g t.code-left c in
        let z = left-bytes k t.values-left v in
        record {
          is = (λ i. record { returned = 1; output = w i; code = y i; values = z i; fields = x i })
              ∙ sym (p ∙ ap (λ (b : paper.Answer). spread b all) q);
        }

    pub call-deep : true ≡ is_bad depth → (code' values' fields' : List ℕ) → Refuses wrong_depth 0 code values fields code' values' fields'
        → AllBytes code' → AllBytes values' → Calls all 1 out code' values' fields'
    unfolding lent lent_of question_of result bad_depth
    call-deep b code' values' fields' f =
        call-tells _ (rw (not-small, result) (rw (sym b))) out code' values' fields' (refusal-tells out wrong_depth 0 f)

    asked-same : (v : Verdict) → carried_out question v ≡ carried_out (put asked text steps depth inputs out) v
    unfolding carried_out put lent lent_of question_of
    asked-same (refused_by f) = refl
    asked-same (accepted a) = refl

    pub call-judged : false ≡ is_bad depth → (out' code' values' fields' : List ℕ)
        → Tells (carried_out (put asked text steps depth inputs out) (verdict text)) out code values fields out' code' values' fields'
        → AllBytes code' → AllBytes values' → Calls all 1 out' code' values' fields'
    unfolding lent lent_of question_of result bad_depth
    call-judged d =
        let e : result question ≡ carried_out question (verdict text) = rw (not-small, result) (rw (sym d)) in
        call-tells _ (e ∙ asked-same (verdict text))
