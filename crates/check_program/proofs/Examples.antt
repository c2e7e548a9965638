-- A small module, and its cells as the walk leaves them: antt computes that they are what the theorem asks for.
use mathlib.Core.Path.{◌≡◌, refl}
use mathlib.Core.Bool.{false}
use mathlib.Core.List.{List, [], ◌∷◌}
use mathlib.Core.Option.{none, some}
use Prim.Native.Nat.{ℕ, ◌+◌, ◌*◌}
use native.Mathlib.Omega.{arith}
use Rattle.paper.specs.Computing.{computed}
use Rattle.paper.specs.Sorts.{bytes, NAME, MODULE, PROC, ENDPROC, ENDMODULE, ERROR, UNDO, NUM, open_paren, close_paren, open_brace, becomes, semicolon}
use Rattle.paper.specs.Words.{Word, reading}
use Rattle.paper.specs.Trees.{leaf, initial_data, assign, simple, empty, ◌then◌, RoutineList, Routine, Module}
use Rattle.paper.specs.Names.{Scopes, nth, sort_in}
use Rattle.paper.specs.Declarations.{routine_scopes}
use Rattle.paper.specs.Steps.{program_of}
use Rattle.store_cells.specs.Cells.{cells_of}
use Rattle.code.specs.Cells.{op_at}
use Rattle.code.specs.Spans.{a_literal, bias}
use Rattle.code.specs.Spans as spans
use Rattle.code.specs.Steps.{a_target, an_end, an_undo_end, a_datum, the_parameters, Head, constant_at, scalar_in, target_in}
use Rattle.code.specs.Holds.{Holds}
use Rattle.grammar.specs.Form.{Parses, closed-at-once, none-starts, one-starts, no_index, assigning, plain, ended, begun, initial, no-list, a-list, a-proc, RoutineAt}
use Rattle.check_links.specs.Resolved.{goes_by_link, goes_by_value, goes_by_place, is_led, Resolved}
use Rattle.check_links.specs.Raw.{Ground, Quiet, end_of, RawDoes, RawSimple, RawStatement, RawList}
use Rattle.store_writing.specs.Chains.{Leads, last_of, starts_in, Rise}
use Rattle.check_program.specs.Routines.{ground_for, RawOptional, RawRoutine, no-routine, a-routine, RawModule}
use Rattle.check_program.proofs.ProgramHeld.{module-holds}

-- ---- the module
unfoldable text : List ℕ
text = bytes "MODULE t PROC main() VAR num x:=3; x:=2; UNDO ENDPROC ENDMODULE"

unfoldable W : List Word
W = (reading text).words

-- its trees
unfoldable body : RoutineList
body = record { statements = simple (assign (record { name = 12; index = none }) (leaf 14)) then empty; closes = 16 }

unfoldable main : Routine
main = record {
  name = 3;
  result = none;
  parameters = [];
  declared = record { type = NUM; name = 8; content = initial_data (leaf 10) } ∷ [];
  body = body;
  handler = none;
  undo = some (record { statements = empty; closes = 17 });
}

unfoldable example : Module
example = record { declared = []; routines = main ∷ [] }

unfoldable main_head : Head
main_head = record { word = 2; parameters = 0; function = false }

-- ---- its cells
unfoldable head : (op value : ℕ) → ℕ
head op v = op + 256 * v

unfoldable tail : (place link : ℕ) → ℕ
tail p l = p + 65536 * l

-- PROC leads to VAR and VAR to the parenthesis; PROC has the list's first word as its place, the name behind it that of the UNDO list, VAR how many words it is.
unfoldable cells : List ℕ
cells =
    head MODULE 0 ∷ tail 0 0 ∷
    head NAME 0 ∷ tail 7 0 ∷
    head PROC 0 ∷ tail 12 6 ∷
    head NAME 0 ∷ tail 17 0 ∷
    head the_parameters 0 ∷ tail 0 0 ∷
    head close_paren 0 ∷ tail 19 0 ∷
    head a_datum (3 + bias) ∷ tail 1 4 ∷
    head NUM 0 ∷ tail 25 0 ∷
    head NAME 1 ∷ tail 29 0 ∷
    head becomes 0 ∷ tail 30 0 ∷
    head a_literal (3 + bias) ∷ tail 32 0 ∷
    head semicolon 0 ∷ tail 33 0 ∷
    -- x := 2;
    head (a_target + 1) 0 ∷ tail 35 16 ∷
    head becomes 0 ∷ tail 36 15 ∷
    head a_literal (2 + bias) ∷ tail 38 0 ∷
    head semicolon 0 ∷ tail 39 0 ∷
    head an_end 0 ∷ tail 41 0 ∷
    -- behind UNDO
    head an_undo_end 0 ∷ tail 46 0 ∷
    head ENDMODULE 0 ∷ tail 54 0 ∷ []

unfoldable offset : ℕ → ℕ
offset i = (nth W i).place

unfoldable ground : Ground
ground = record {
  m = 0;
  function = false;
  text = text;
  R = main_head ∷ [];
  W = W;
  M = record { module-words = []; routine-words = []; error-number = 0 };
  offset = offset;
}

-- ---- its form
no-brace : becomes ≡ open_brace → ⊥
no-brace e = omega arith

no_call : semicolon ≡ open_paren → ⊥
no_call e = omega arith

no-error : UNDO ≡ ERROR → ⊥
no-error e = omega arith

unfoldable main-form : RoutineAt (sort_in W) (Parses (sort_in W)) main 2 18
unfolding computed text W main body
main-form = record {
  close = 5;
  begin = 12;
  undo_at = 16;
  end = 17;
  head = a-proc refl refl refl;
  name = refl;
  opens = refl;
  parameters = closed-at-once refl refl;
  closes = refl;
  declared =
      one-starts refl
      (record { end = 11; type = refl; typed = refl; named = refl; name = refl; content = initial refl refl refl; ends = refl; after = refl })
      (none-starts refl refl);
  body = record {
    statements =
        begun refl
        (plain (assigning (record { named = refl; name = refl; index = no_index {at = 13} no-brace refl }) refl (λ a. no_call) refl) refl refl)
        (ended refl refl);
    closes = refl;
  };
  handler = no-list {at = 16} no-error refl;
  undo = a-list {at = 16} refl (record { statements = ended refl refl; closes = refl });
  after = refl;
}

-- ---- its statement
quiet_one : (a : ℕ) → is_led (op_at cells a) ≡ false → Quiet cells a (a + 1)
quiet_one a q i l h =
    let e : i ≡ a = omega arith in
    rw e q

abbrev S : Scopes
S = routine_scopes W example main

assigns : RawSimple (ground_for ground example main) 1 cells S (assign (record { name = 12; index = none }) (leaf 14)) 12 16
unfolding computed text W main body example main_head head tail cells offset ground ground_for is_led goes_by_link goes_by_value goes_by_place RawDoes scalar_in target_in spans.guard spans.◌then◌ spans.leaf_term spans.operand_of spans.chain spans.span_term spans.within spans.term_within
assigns = record {
  first = refl;
  place = refl;
  forward = omega arith;
  does = record {
    b = 13;
    z = 15;
    target = record { low = omega arith; high = omega arith; is = refl; quiet = λ i l h. absurd (omega arith) };
    term = record { link = refl; still = refl; term = record { is = refl; quiet = quiet_one 14 refl } };
    within = omega arith;
    leaves = refl;
  };
}

-- ---- its routine, and all of it
main-walked : RawRoutine ground cells example main main_head 18
unfolding computed text W main body example main_head head tail cells offset ground ground_for is_led goes_by_link goes_by_value goes_by_place RawStatement RawList end_of RawOptional Leads last_of starts_in Rise constant_at main-form
main-walked = record {
  form = main-form;
  parameters = refl;
  function = refl;
  still = refl;
  still-next = refl;
  starts = refl;
  body = record { list = record { mid = 16; first = assigns; others = refl }; op = refl; place = refl };
  handler = refl;
  undo = record { first = refl; list = record { list = refl; op = refl; place = refl } };
  ds = 6 ∷ [];
  chain = record { leads = (refl, refl, tt); ends = refl };
  rise = (omega arith, omega arith);
  words = refl;
  opens = refl;
  fors = refl;
  room = omega arith;
}

example-walked : RawModule ground cells example 19
unfolding computed text W main body example main_head ground
example-walked = record {
  begin = 2;
  end = 18;
  routines = a-routine {at = 2} refl main-walked (no-routine refl);
  behind = omega arith;
  inside = omega arith;
  few = omega arith;
  room = omega arith;
}

-- Whatever resolving leaves of them holds the program.
example-holds : (before after : List ℕ) → cells_of before ≡ cells → Resolved before after 19 → Holds text (main_head ∷ []) offset (cells_of after) (program_of W example)
unfolding ground
example-holds before after e x = module-holds ground example before after 19 (rw e example-walked) x
