-- For computing: to unfold one of these is to unfold every definition that it rests on.
use Rattle.paper.specs.Computing.{computed, computed_call}
use Rattle.classes.specs.Classes.{sum, text_in, share_of, asked_alone, add_up, too_many, too_short, class_refusal, ClassQuestion, ClassResult, results_to, class_result, ClassLent, ClassAnswer, lengths_of, modules_of, class_question_of, share_in, part, alone, single, output_of, record_of, data_of, in_order, filled, zeroed, taken, refused, untouched, class_call}

unfoldable pub computed_class : ClassQuestion → ClassResult
unfolding computed sum text_in share_of asked_alone add_up too_many too_short class_refusal results_to class_result
computed_class q = class_result q

unfoldable pub computed_class_call : ClassLent → ClassAnswer
unfolding computed_class computed_call lengths_of modules_of class_question_of share_in part alone single output_of record_of data_of in_order filled zeroed taken refused untouched class_call
computed_class_call l = class_call l
