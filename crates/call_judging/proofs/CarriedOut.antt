-- An accepted module carried out: what the run promises is what the paper's result says.
use Rattle.std.specs.Prelude.{Ok, Err}
use mathlib.Core.Path.{◌≡◌, refl, sym, ap, ap₂, ◌∙◌}
use mathlib.Core.List.{List, ◌++◌, map}
use Prim.Native.Nat.{ℕ, suc, ◌+◌, ◌*◌, ◌/◌, ◌≤◌, ◌<◌}
use native.Mathlib.Omega.{arith}
use lib.ListN.{length, get_or, take, drop, length-map, length-append, take-append-drop, get_or-append, get_or-eq_default}
use lib.Seq.{length-take-le, take-take, take-append-le, drop_at, get_or-take}
use mir.Syntax.{w32}
use mir.Val.{to_z}
use Rattle.laws.proofs.Lists.{map-take}
use Rattle.laws.proofs.Tests.{by_less}
use Rattle.paper.specs.Answer as paper
use Rattle.paper.specs.Answer.{store_words, Record, verdict, accepted, ended_with, ran_to, carried_out, offset_of}
use Rattle.paper.specs.Declarations.{module_word_limit}
use Rattle.paper.specs.States as states
use Rattle.paper.specs.Running as running
use Rattle.paper.specs.Undoing.{run_abort, run_asked}
use Rattle.store_cells.specs.Cells.{cells_of}
use Rattle.store_cells.proofs.Laws.{length-words, words_take, words_append}
use Rattle.store_cells.proofs.Paper.{words-paper}
use Rattle.code.specs.Cells.{errno_cell}
use Rattle.code.specs.Windows.{written_cell, used_cell, count_at, written_in}
use Rattle.check_whole.specs.Checks.{Checked}
use Rattle.run_whole.specs.declared.Abort.{Abort}
use Rattle.run_whole.specs.declared.Ended.{Ended}
use Rattle.layout.specs.Endings.{ending_number}
use Rattle.run_whole.specs.Runs.{Begins, abort_of, Ran}
use Rattle.run_whole.proofs.RunTold.{Told, run-told}
use Rattle.layout.specs.Named.{store_bytes}
use Rattle.layout.specs.Parts.{half_part}
use Rattle.call_records.specs.Records.{reported, Written, Emptied}
use Rattle.call_records.specs.Leaves.{Settles, Settled, Tells}
use Rattle.call_records.proofs.Stores.{left-cleared, left-empty}
use Rattle.call_judging.specs.Carries.{asked_by, put, Accepts, Starts, Ends}

-- ---- what the check's answer says
words_in : Checked → ℕ
words_in (Ok m) = m.count
words_in (Err refusal) = 0

main_in : Checked → ℕ
main_in (Ok m) = m.main
main_in (Err refusal) = 0

-- ---- the first part of a list of bytes
pub first-words : (l : List ℕ) → cells_of (take store_bytes l) ≡ take store_words (cells_of l)
first-words l = words_take store_words l

module _ {text code values fields : List ℕ} {words main depth : ℕ} (a : Accepts text code values fields words main depth) where
  words_are : words ≡ length a.a.program.words
  unfolding words_in
  words_are = ap words_in a.ready.answer

  few_words : words ≤ module_word_limit
  few_words = rw words_are a.ready.holds.room

  pub many : store_words ≤ length (cells_of values)
  many = omega (arith, length-words values, a.rooms.values-room)

  unfoldable pub begins : Begins text (take store_bytes code) (take store_bytes values) main depth
  unfolding main_in
  begins =
      let few : length a.a.program.words ≤ module_word_limit = a.ready.holds.room in
      record {
        P = a.a.program;
        R = a.ready.R;
        offset = offset_of text a.a.words;
        main = a.a.main;
        holds = a.ready.holds;
        code-size = length-take-le store_bytes code a.rooms.code-room;
        values-size = length-take-le store_bytes values a.rooms.values-room;
        some = a.some;
        most = a.most;
        there = a.ready.there;
        main-is = sym (ap main_in a.ready.answer);
        alone = a.ready.alone;
        words = ap (λ (x : List ℕ). map (to_z w32) (take (length a.a.program.words) x)) (first-words values)
            ∙ ap (map (to_z w32)) (take-take (length a.a.program.words) store_words (cells_of values) (omega arith))
            ∙ a.ready.words;
        zeros = λ c m. ap (λ (x : List ℕ). get_or x c 0) (first-words values)
            ∙ by_less c store_words
            (λ h. get_or-take store_words (cells_of values) c 0 h ∙ a.ready.zeros c m h)
            (λ h. get_or-eq_default (take store_words (cells_of values)) 0 (rw (length-take-le store_words (cells_of values) many) h));
      }

  pub starts : Starts text code values main depth
  starts = record { code-room = a.rooms.code-room; values-room = a.rooms.values-room; begins = begins }

  -- ---- after the run
  module _ {inputs out after out' : List ℕ} {steps : ℕ} {abort : Abort} {e : Ended}
      (ran : Ran text (take store_bytes code) (take store_bytes values) after inputs out out' main steps depth abort e) where
    rooms : states.Rooms
    rooms = record { depth = depth; output = length out; inputs = paper.cells_of inputs }

    ended : running.Ended
    ended = run_abort a.a.program rooms steps (abort_of abort) (running.started a.a.program a.a.main)

    comes : Told a.a.program (offset_of text a.a.words) after out out' ended e
    unfolding rooms ended begins
    comes = run-told _ _ _ _ _ _ _ _ _ ran.leaves (ran.is begins rooms refl (record { room = refl; reads = words-paper inputs }))

    -- the part that the run was lent is back in its store
    after-size : length after ≡ store_bytes
    after-size = ran.leaves.long ∙ length-take-le store_bytes values a.rooms.values-room

    whole-size : length (after ++ drop store_bytes values) ≡ length values
    whole-size =
        length-append after (drop store_bytes values)
        ∙ ap (λ (n : ℕ). n + length (drop store_bytes values)) ran.leaves.long
        ∙ sym (length-append (take store_bytes values) (drop store_bytes values))
        ∙ ap length (take-append-drop store_bytes values)

    whole-past : drop store_bytes (after ++ drop store_bytes values) ≡ drop store_bytes values
    whole-past = drop_at after (drop store_bytes values) store_bytes after-size

    whole_words : cells_of (after ++ drop store_bytes values) ≡ cells_of after ++ cells_of (drop store_bytes values)
    whole_words = words_append store_words after (drop store_bytes values) after-size

    after-words : length (cells_of after) ≡ store_words
    after-words = length-words after ∙ ap (λ (n : ℕ). n / 4) after-size

    cell : (c : ℕ) → c < store_words → get_or (cells_of (after ++ drop store_bytes values)) c 0 ≡ get_or (cells_of after) c 0
    cell c h =
        ap (λ (x : List ℕ). get_or x c 0) whole_words
        ∙ get_or-append (cells_of after) (cells_of (drop store_bytes values)) 0 c (rw after-words h)

    count : (c : ℕ) → suc c < store_words → count_at (cells_of (after ++ drop store_bytes values)) c ≡ count_at (cells_of after) c
    count c h = ap₂ (λ (x y : ℕ). x + half_part * y) (cell c (omega arith)) (cell (suc c) h)

    kept-are : take words (paper.cells_of (after ++ drop store_bytes values)) ≡ ended.state.words
    kept-are =
        ap (take words) (words-paper (after ++ drop store_bytes values))
        ∙ sym (map-take (to_z w32) words (cells_of (after ++ drop store_bytes values)))
        ∙ ap (λ (x : List ℕ). map (to_z w32) (take words x)) whole_words
        ∙ ap (map (to_z w32)) (take-append-le words (cells_of after) (cells_of (drop store_bytes values)) (rw after-words (omega (arith, few_words))))
        ∙ ap (λ (m : ℕ). map (to_z w32) (take m (cells_of after))) words_are
        ∙ comes.words

    kept-many : length ended.state.words ≡ words
    kept-many =
        ap length (sym comes.words)
        ∙ length-map (take (length a.a.program.words) (cells_of after)) (to_z w32)
        ∙ ap (λ (m : ℕ). length (take m (cells_of after))) (sym words_are)
        ∙ length-take-le words (cells_of after) (rw after-words (omega (arith, few_words)))

    fields-are : (n : ℕ) → n ≡ ending_number e.ending → reported n e.place e.made (after ++ drop store_bytes values) words ≡ (ran_to text a.a.words ended).fields
    unfolding reported ran_to ended_with written_in
    fields-are n is =
        let e₁ = is ∙ comes.ending in
        let e₂ = comes.place in
        let e₃ = comes.made in
        let e₄ = cell errno_cell (omega arith) ∙ comes.errno in
        let e₅ = count written_cell (omega arith) ∙ comes.written a.ready.R in
        let e₆ = count used_cell (omega arith) ∙ comes.used in
        let e₇ = sym kept-many in
        λ i. record { ending = e₁ i; refusal = 0; offset = e₂ i; steps = e₃ i; errno = e₄ i; output = e₅ i; inputs = e₆ i; words = e₇ i }

    tells : {code' values' fields' : List ℕ} (n : ℕ) → n ≡ ending_number e.ending → Written fields fields' (reported n e.place e.made (after ++ drop store_bytes values) words)
        → Emptied code (after ++ drop store_bytes values) code' values' words
        → Tells (ran_to text a.a.words ended) out code values fields out' code' values' fields'
    unfolding ran_to ended_with
    tells {code'} {values'} {fields'} n is w z =
        record {
          output = sym (take-append-drop (length ended.state.output) out') ∙ ap₂ ◌++◌ comes.output comes.past;
          code-left = left-empty code code' a.rooms.code-room z.code-cleared;
          values-left = left-cleared values (after ++ drop store_bytes values) values' words z.values-cleared (omega (arith, few_words)) a.rooms.values-room whole-size whole-past ended.state.words kept-many kept-are;
          told = record { bytes = w.bytes ∙ ap (λ (f : Record). paper.record_bytes f ++ drop paper.record_size fields) (fields-are n is) };
        }

    told-all : {code' values' fields' : List ℕ} (n : ℕ) → n ≡ ending_number e.ending → Written fields fields' (reported n e.place e.made (after ++ drop store_bytes values) words)
        → Emptied code (after ++ drop store_bytes values) code' values' words
        → Tells (carried_out (put (asked_by abort) text steps depth inputs out) (verdict text)) out code values fields out' code' values' fields'
    unfolding put carried_out rooms ended run_asked
    told-all n is w z = rw a.judged (tells n is w z)

  -- ---- the whole store after it
  module _ {inputs out values' out' : List ℕ} {steps : ℕ} {abort : Abort} {e : Ended} (ends : Ends text code values values' inputs out out' main steps depth abort e) where
    pub same_size : length values' ≡ length values
    same_size = ap length ends.whole ∙ whole-size ends.ran

    pub settles : Settles code values' fields words
    settles =
        record {
          rooms = record { code-room = a.rooms.code-room; values-room = rw same_size a.rooms.values-room; fields-room = a.rooms.fields-room };
          few = omega (arith, few_words);
        }

    pub carried : {code' values'' fields' : List ℕ} (n : ℕ) → n ≡ ending_number e.ending → Settled n e.place e.made words code values' fields code' values'' fields'
        → Tells (carried_out (put (asked_by abort) text steps depth inputs out) (verdict text)) out code values fields out' code' values'' fields'
    carried n is s = told-all ends.ran n is (rw ends.whole at s.told) (rw ends.whole at s.cleared)
