use Rattle.text_scanner.proofs.Strings.{note-permitted, note-first, note-later}
use borrow.Author.Rules.{rules}
use Rattle.text_scanner.proofs.string.note.Goals as goal

pub returns-then-is_permitted_inside : goal.returns-then-is_permitted_inside
returns-then-is_permitted_inside c = search (rules, note-permitted)

pub returns-then-bad-eq0 : goal.returns-then-bad-eq0
returns-then-bad-eq0 c = search (rules, note-first)

pub returns : goal.returns
returns c = search (rules, note-later)
