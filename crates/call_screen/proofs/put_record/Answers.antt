use borrow.Author.Rules.{rules}
use Rattle.call_screen.proofs.Lines.{lined-none, lined-get, lined-room, lined-more, lined-all}
use Rattle.call_screen.proofs.put_record.Goals as goal

pub loop-k-init : goal.loop-k-init
loop-k-init c = lined-none _ _

pub get-requires : goal.get-requires
get-requires c = search (rules, lined-get)

pub put_one-at-requires : goal.put_one-at-requires
put_one-at-requires c = search (rules, lined-room)

pub loop-k-preserved : goal.loop-k-preserved
loop-k-preserved c = search (rules, lined-more)

pub returns : goal.returns
returns c = search (rules, lined-all)
