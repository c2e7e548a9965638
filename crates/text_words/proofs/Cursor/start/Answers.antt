use mathlib.Core.Path.{refl}
use Rattle.text_words.proofs.Cursor.start.Goals as goal

pub returns : goal.returns
returns c = refl
