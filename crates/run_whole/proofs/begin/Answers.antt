use Rattle.run_whole.proofs.RunBegins.{begin-low, begin-in, begin-starts, begun}
use borrow.Author.Rules.{rules}
use Rattle.run_whole.proofs.begin.Goals as goal

pub overflow_cast-h : goal.overflow_cast-h
overflow_cast-h c = record { fits = begin-low _ _ _ c.requires }

pub link-requires : goal.link-requires
link-requires c = search (rules, begin-in)

pub start_words-requires : goal.start_words-requires
start_words-requires c =
    begin-starts _ _ _ _ c.put.ensures _ c.link.ensures.same c.requires

pub returns : goal.returns
returns c =
    begun _ _ _ _ c.put.ensures _ c.link.ensures.same _ c.start_words.ensures c.requires
