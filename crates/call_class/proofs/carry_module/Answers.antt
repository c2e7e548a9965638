use borrow.Author.Rules.{rules}
use Rattle.call_class.proofs.Modules.{module-carried}
use Rattle.call_class.proofs.carry_module.Goals as goal

pub returns : goal.returns
returns c = module-carried _ _ _ _ _ _ _ _ _ _ _ c.requires _ _ _ _ _ (search rules) c.copy_words.ensures c.judge.ensures
