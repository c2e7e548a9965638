-- The sorts of the words that the code has at hand.
use Rattle.std.specs.Prelude.{ℕ}
use Rattle.check_form.specs.declared.Words.{Words}
use Rattle.check_form.specs.Places.{sorts_in}

abbrev pub sorts_of : Words → ℕ → ℕ
sorts_of w = sorts_in w.code.now w.count
