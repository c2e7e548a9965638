use mathlib.Core.Path.{refl}
use Rattle.paper.specs.Sorts.{bytes, folded, signs, reserved, equal_texts, number_in, sign_sort, name_sort, sorts_of}
use Rattle.text_sorts.specs.Named.{named}
use Rattle.text_sorts.proofs.all.Goals as goal

pub returns : goal.returns
unfolding named sorts_of sign_sort name_sort signs reserved bytes folded equal_texts number_in
returns c = refl
