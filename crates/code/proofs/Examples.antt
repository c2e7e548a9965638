-- Cells of some expressions, and the terms that antt reads in them.
use mathlib.Core.Path.{◌≡◌, refl}
use mathlib.Core.List.{List, [], ◌∷◌}
use mathlib.Core.Option.{none, some}
use Prim.Native.Nat.{ℕ, ◌+◌, ◌*◌}
use lib.IntN.{pos}
use Rattle.paper.specs.Sorts.{less_equal, plus, minus_sign, times, AND, NOT, equal}
use Rattle.paper.specs.Terms.{literal, errno, stored, element_at, unary, binary, of_module, of_routine}
use Rattle.code.specs.Cells.{errno_cell}
use Rattle.code.specs.Spans.{a_literal, a_module_slot, a_call_slot, a_module_element, a_parenthesis, a_not, a_span, op_of, operators, operator_of, bias, guard, ◌then◌, prefix_in, module_leaf, leaf_term, element_term, operand_of, right_end, right_term, chain, within, span_term, term_within, term_in}

head : (op value : ℕ) → ℕ
head op v = op + 256 * v

link : ℕ → ℕ
link r = 65536 * r

-- (x + 1) * 2 <= a{3}: words 0 to 11, x the routine's first word, a 20 words of the module from the tenth on
comparison : List ℕ
comparison =
    head a_parenthesis 0 ∷ link 4 ∷ head a_call_slot 0 ∷ 0 ∷ head (op_of 0 a_literal) (1 + bias) ∷ 0 ∷ head a_literal (1 + bias) ∷ 0 ∷ 0 ∷ 0 ∷
    head (op_of 2 a_literal) (2 + bias) ∷ 0 ∷ head a_literal (2 + bias) ∷ 0 ∷ head (op_of 6 a_span) 0 ∷ link 12 ∷
    head a_module_element (10 + 1024 * 20) ∷ link 11 ∷ 0 ∷ 0 ∷ head a_literal (3 + bias) ∷ 0 ∷ 0 ∷ 0 ∷ []

comparison-term :
    term_in 30 1 comparison 0 12
    ≡ some (binary less_equal (binary times (binary plus (stored (of_routine 0)) (literal (pos 1))) (literal (pos 2))) (element_at (of_module 10) 20 (literal (pos 3))))
unfolding comparison head link term_within span_term within chain right_term right_end operand_of leaf_term element_term module_leaf guard ◌then◌ operator_of operators
comparison-term = refl

-- it has parentheses and braces, one deep: where none may open it is no term, and where one may it is
comparison-flat : term_within 30 1 comparison 0 0 12 ≡ none
unfolding comparison head link term_within span_term within chain right_term right_end operand_of leaf_term element_term module_leaf guard ◌then◌ operator_of operators
comparison-flat = refl

comparison-nested : term_within 30 1 comparison 1 0 12 ≡ term_in 30 1 comparison 0 12
unfolding comparison head link term_within span_term within chain right_term right_end operand_of leaf_term element_term module_leaf guard ◌then◌ operator_of operators
comparison-nested = refl

-- a module of 29 words has no such array
comparison-short : term_in 29 1 comparison 0 12 ≡ none
unfolding comparison head link term_within span_term within chain right_term right_end operand_of leaf_term element_term module_leaf guard ◌then◌ operator_of operators
comparison-short = refl

-- a - b - c goes from left to right, and so does a + b * c where the checker has given b * c a span of its own
differences : List ℕ
differences =
    head a_module_slot 0 ∷ 0 ∷ head (op_of 1 a_module_slot) 1 ∷ 0 ∷ head a_module_slot 1 ∷ 0 ∷ head (op_of 1 a_module_slot) 2 ∷ 0 ∷ head a_module_slot 2 ∷ 0 ∷ []

differences-term : term_in 3 0 differences 0 5 ≡ some (binary minus_sign (binary minus_sign (stored (of_module 0)) (stored (of_module 1))) (stored (of_module 2)))
unfolding differences head link term_within span_term within chain right_term right_end operand_of leaf_term module_leaf guard ◌then◌ operator_of operators
differences-term = refl

sum : List ℕ
sum =
    head a_module_slot 0 ∷ 0 ∷ head (op_of 0 a_span) 0 ∷ link 5 ∷ head a_module_slot 1 ∷ 0 ∷ head (op_of 2 a_module_slot) 2 ∷ 0 ∷ head a_module_slot 2 ∷ 0 ∷ []

sum-term : term_in 3 0 sum 0 5 ≡ some (binary plus (stored (of_module 0)) (binary times (stored (of_module 1)) (stored (of_module 2))))
unfolding sum head link term_within span_term within chain right_term right_end operand_of leaf_term module_leaf guard ◌then◌ operator_of operators
sum-term = refl

-- NOT ERRNO = 0 AND x: NOT covers all of it
condition : List ℕ
condition =
    head a_not 0 ∷ link 6 ∷ head a_module_slot errno_cell ∷ 0 ∷ head (op_of 9 a_literal) bias ∷ 0 ∷ head a_literal bias ∷ 0 ∷ head (op_of 12 a_call_slot) 0 ∷ 0 ∷ head a_call_slot 0 ∷ 0 ∷ []

condition-term : term_in 0 1 condition 0 6 ≡ some (unary NOT (binary AND (binary equal errno (literal (pos 0))) (stored (of_routine 0))))
unfolding condition head link term_within span_term within chain right_term right_end operand_of leaf_term module_leaf guard ◌then◌ prefix_in operator_of operators
condition-term = refl
