-- The constants of the code, in its order, by the names that the definitions give them.
use Rattle.std.specs.Prelude.{List, [], ◌∷◌, map, ℕ, ◌*◌, ℤ, pos}
use Rattle.layout.specs.Rules.{small_store, wrong_depth, long_text, bad_byte, malformed, too_large, many_words, no_form, deep_nesting, taken_name, unknown_name, wrong_kind, wrong_type, wrong_count, no_value, too_many, barred, no_main}
use Rattle.layout.specs.Rules.{hiding_loop, main_returned, exited, unhandled, fell_off, steps_spent, beyond_depth, no_input, no_room, aborted, undo_spent}
use Rattle.layout.specs.Types.{no_type, num_type, bool_type}
use Rattle.layout.specs.Answers.{entered, left, ended, lacked, handed, first_error}
use Rattle.layout.specs.Kinds.{a_variable, an_array, a_constant, a_loop, a_routine, an_errno, an_error_number}
use Rattle.layout.specs.Parts.{value_part, link_part, size_part, characters_part, loop_part, spelled_part, right_part, right_ways, half_part, kind_part, type_part}
use Rattle.paper.specs.Words.{text_limit, word_limit, name_limit, largest_number, string_limit}
use Rattle.paper.specs.Expressions.{nestings, no_operator, products, sums, relations, conjunctions, disjunctions}
use Rattle.paper.specs.Types.{element_limit}
use Rattle.paper.specs.Declarations.{routine_limit, module_word_limit, routine_word_limit}
use Rattle.paper.specs.Answer.{depth_limit, store_words, record_size}
use Rattle.code.specs.Cells.{first_window, window_cells, errno_cell}
use Rattle.code.specs.Windows.{ends_cell, steps_cell, routine_cell, waits_cell, after_cell, failed_cell, result_cell, written_cell, used_cell}
use Rattle.code.specs.Spans.{bias, a_literal, a_module_slot, a_call_slot, a_module_element, a_call_element, a_parenthesis, a_not, a_plus, a_minus, an_operator, a_span}
use Rattle.code.specs.Steps.{a_target, a_call_target, a_procedure_call, a_return_of, a_return, a_raise_of, a_raise, an_exit, a_retry, a_try_next, a_write, a_write_of, a_read, a_compact_if, an_if, a_while, a_for, a_for_test, a_test, an_end, a_function_end, an_undo_end, an_else_if, a_step, a_case, a_next_value, a_next_argument, a_datum, the_parameters, a_then, a_do, a_pass, an_otherwise, a_close}

abbrev pub ops : List ℕ
ops =
    a_literal ∷ a_module_slot ∷ a_call_slot ∷ a_module_element ∷ a_call_element ∷ a_parenthesis ∷ a_not ∷ a_plus ∷ a_minus ∷ an_operator ∷ a_target ∷ a_call_target ∷ a_procedure_call ∷ a_return_of ∷ a_return ∷ a_raise_of ∷ a_raise ∷ an_exit ∷ a_retry ∷ a_try_next ∷ a_write ∷ a_write_of ∷ a_read ∷ a_compact_if ∷ an_if ∷ a_while ∷ a_for ∷ a_for_test ∷ a_test ∷ an_end ∷ a_function_end ∷ an_undo_end ∷ an_else_if ∷ a_step ∷ a_case ∷ a_next_value ∷ a_next_argument ∷ a_datum ∷ the_parameters ∷ a_then ∷ a_do ∷ a_pass ∷ an_otherwise ∷ a_close ∷ a_span ∷ []

abbrev pub cells : List ℕ
cells =
    first_window ∷ window_cells ∷ ends_cell ∷ steps_cell ∷ routine_cell ∷ waits_cell ∷ after_cell ∷ failed_cell ∷ result_cell ∷ written_cell ∷ used_cell ∷ errno_cell ∷ half_part ∷ []

abbrev pub answers : List ℤ
answers = pos entered ∷ pos left ∷ pos ended ∷ pos lacked ∷ pos handed ∷ pos first_error ∷ []

abbrev pub kinds : List ℕ
kinds =
    a_variable ∷ an_array ∷ a_constant ∷ a_loop ∷ a_routine ∷ an_errno ∷ an_error_number ∷ []

abbrev pub rules : List ℕ
rules =
    small_store ∷ wrong_depth ∷ long_text ∷ bad_byte ∷ malformed ∷ too_large ∷ many_words ∷ no_form ∷ deep_nesting ∷ taken_name ∷ unknown_name ∷ wrong_kind ∷ wrong_type ∷ wrong_count ∷ no_value ∷ too_many ∷ barred ∷ no_main ∷ hiding_loop ∷ []

abbrev pub endings : List ℕ
endings =
    main_returned ∷ exited ∷ unhandled ∷ fell_off ∷ steps_spent ∷ beyond_depth ∷ no_input ∷ no_room ∷ aborted ∷ undo_spent ∷ []

-- four bytes a cell
abbrev pub store_bytes : ℕ
store_bytes = 4 * store_words

abbrev pub types : List ℕ
types = no_type ∷ num_type ∷ bool_type ∷ []

abbrev pub parts : List ℕ
parts = value_part ∷ link_part ∷ size_part ∷ characters_part ∷ loop_part ∷ spelled_part ∷ right_part ∷ right_ways ∷ bias ∷ kind_part ∷ type_part ∷ []

abbrev pub limits : List ℕ
limits = text_limit ∷ word_limit ∷ routine_limit ∷ module_word_limit ∷ routine_word_limit ∷ element_limit ∷ depth_limit ∷ store_words ∷ store_bytes ∷ name_limit ∷ string_limit ∷ largest_number ∷ nestings ∷ record_size ∷ []

abbrev pub levels : List ℕ
levels = no_operator ∷ products ∷ sums ∷ relations ∷ conjunctions ∷ disjunctions ∷ []
