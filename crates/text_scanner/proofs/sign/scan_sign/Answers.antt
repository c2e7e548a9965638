use Rattle.text_scanner.proofs.Signs.{pair-told, sign-told, none_told, bad-told}
use borrow.Author.Rules.{rules}
use Rattle.text_scanner.proofs.sign.scan_sign.Goals as goal

pub returns-then-pair-ne-NOTHING : goal.returns-then-pair-ne-NOTHING
returns-then-pair-ne-NOTHING c = search (rules, pair-told)

pub returns-then-sort-ne-NOTHING : goal.returns-then-sort-ne-NOTHING
returns-then-sort-ne-NOTHING c = search (rules, sign-told)

pub returns-then-is_permitted : goal.returns-then-is_permitted
returns-then-is_permitted c = search (rules, none_told)

pub returns : goal.returns
returns c = search (rules, bad-told)
