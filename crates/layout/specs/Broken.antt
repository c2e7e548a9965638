-- The rules of the paper's table as the code names them, by their numbers.
use Rattle.std.specs.Prelude.{ℕ}
use Rattle.paper.specs.Types.{Fault}
use Rattle.layout.specs.Rules.{small_store, wrong_depth, long_text, bad_byte, malformed, too_large, many_words, no_form, deep_nesting, taken_name, unknown_name, wrong_kind, wrong_type, wrong_count, no_value, too_many, barred, no_main, hiding_loop}
use Rattle.layout.specs.declared.rules.Breach.{Breach}
use Rattle.layout.specs.declared.rules.Rule.{Rule}
use Rattle.layout.specs.declared.rules.Rule.TheVariants.{SmallStore, WrongDepth, LongText, BadByte, Malformed, TooLarge, ManyWords, NoForm, DeepNesting, TakenName, UnknownName, WrongKind, WrongType, WrongCount, NoValue, TooMany, Barred, NoMain, HidingLoop}

-- what a host is told of a rule
abbrev pub number_of : Rule → ℕ
number_of SmallStore = small_store
number_of WrongDepth = wrong_depth
number_of LongText = long_text
number_of BadByte = bad_byte
number_of Malformed = malformed
number_of TooLarge = too_large
number_of ManyWords = many_words
number_of NoForm = no_form
number_of DeepNesting = deep_nesting
number_of TakenName = taken_name
number_of UnknownName = unknown_name
number_of WrongKind = wrong_kind
number_of WrongType = wrong_type
number_of WrongCount = wrong_count
number_of NoValue = no_value
number_of TooMany = too_many
number_of Barred = barred
number_of NoMain = no_main
number_of HidingLoop = hiding_loop

-- a breach as the paper's fault: the rule's number, and the word
abbrev pub as_fault : Breach → Fault
as_fault b = record { number = number_of b.rule; at = b.word }
