use Rattle.check_load.proofs.Progress.{loads-cleared}
use Rattle.check_load.proofs.load.Goals as goal

pub returns : goal.returns
returns c = loads-cleared _ _ _ _ _ _ _ c.load_words-loaded.ensures c.clear.ensures
