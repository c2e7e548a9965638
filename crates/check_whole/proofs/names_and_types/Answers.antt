use Rattle.check_whole.proofs.Loaded.{heads-begin}
use Rattle.check_whole.proofs.NamesWalk.{data-stand, data-found, one_less, routines-stand, routines-found, module-found, module-none, module-alone}
use Rattle.check_names.proofs.Growing.{grown-upto, back-upto}
use Rattle.std.proofs.lemmas.Result.{err_from_is_err_and}
use borrow.Author.Rules.{rules}
use Rattle.check_whole.proofs.names_and_types.Goals as goal

pub read-main-requires : goal.read-main-requires
read-main-requires c = search (rules, heads-begin)

pub module_data-requires : goal.module_data-requires
module_data-requires c = search (rules, data-stand, module-none)

pub overflow_sub-words : goal.overflow_sub-words
overflow_sub-words c = one_less _ _ _ _ c.requires _ _ _ c.read-main.ensures _ _ _ c.module_data.ensures.0

pub all_routines-requires : goal.all_routines-requires
all_routines-requires c = (
  routines-stand _ _ _ _ c.requires _ _ _ c.read-main.ensures _ _ _ c.module_data.ensures.0 _ _ c.in_ok-at.was c.module_data.auto.code,
  module-alone _ c.of_module.ensures _ (grown-upto _ _ c.module_data.ensures.1 _ _ c.in_ok-at.was),
)

pub returns-in_err-at : goal.returns-in_err-at
returns-in_err-at c =
    let p = err_from_is_err_and c.from_residual.result c.from_residual.ensures.1 in
    rw (p.1, p.2) (data-found _ _ _ _ c.requires _ _ _ c.read-main.ensures _ _ _ c.module_data.ensures.0 _ c.in_err-at.was
    c.module_data.auto.code c.module_data.auto.values)

pub returns-in_err-all : goal.returns-in_err-all
returns-in_err-all c =
    let p = err_from_is_err_and c.from_residual-in_err-all.result c.from_residual-in_err-all.ensures.1 in
    rw (p.1, p.2) (routines-found _ _ _ _ c.requires _ _ _ c.read-main.ensures _ _ _ c.module_data.ensures.0 _ _ c.in_ok-at.was
    c.module_data.auto.code c.module_data.auto.values _ _ _ c.all_routines.ensures.0
    c.all_routines.auto.code c.all_routines.auto.values _ c.in_err-all.was)

pub returns : goal.returns
returns c =
    module-found _ _ _ _ c.requires _ _ _ c.read-main.ensures _ _ _ c.module_data.ensures.0 _ _ c.in_ok-at.was
    c.module_data.auto.code c.module_data.auto.values _ _ _ c.all_routines.ensures.0
    c.all_routines.auto.code c.all_routines.auto.values _ _ c.in_ok-all.was
    (back-upto _ _ c.all_routines.ensures.1 _ _ c.in_ok-all.was)
