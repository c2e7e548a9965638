use Rattle.run_output.proofs.StringCharacters.{quoted-done, plain_in, plain_done}
use borrow.Author.Rules.{rules}
use Rattle.run_output.proofs.copy.Goals as goal

pub copy_plain-requires : goal.copy_plain-requires
copy_plain-requires c = search (rules, plain_in)

pub returns-then-bytes-count : goal.returns-then-bytes-count
returns-then-bytes-count c = search (rules, plain_done)

pub returns-else-bytes-count : goal.returns-else-bytes-count
returns-else-bytes-count c = search (rules, quoted-done)
