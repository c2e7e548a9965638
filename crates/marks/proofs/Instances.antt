-- The rows of the marking hold, and no theorem on it holds for want of cases: antt computes both sides.
use mathlib.Core.Path.{◌≡◌, refl}
use mathlib.Core.List.{List, [], ◌∷◌, ◌++◌, map}
use mathlib.Core.Option.{Option, none, some}
use Prim.Native.Nat.{ℕ}
use lib.ListN.{replicate}
use Rattle.paper.specs.Undoing.{plainly}
use Rattle.paper.specs.Examples.{asking, lines, tray, module_of}
use Rattle.paper.specs.Answer.{result}
use Rattle.marks.specs.Marks.{ours, yes, differs, marked, Marking, mark, entries_of, MarkLent, answer_after, mark_call}
use Rattle.marks.specs.Computing.{computed_mark, computed_mark_call}
use Rattle.marks.specs.MarkRows.{MarkRow, entries, tells, mark_row, tray_with, tray_steps, mark_rows}
use Rattle.marks.specs.Theorems.{with_steps, SpentAt, ListingOf, Listing}
use Rattle.marks.proofs.Listings.{listing}

pub rows-hold : map (λ (r : MarkRow). mark r.question (entries_of r.listing)) mark_rows ≡ map (λ (r : MarkRow). r.expected) mark_rows
unfolding computed_mark entries tells mark_row tray_with tray_steps mark_rows asking lines tray module_of
rows-hold = refl

-- what those runs ended with
pub rows-ended : map (λ (r : MarkRow). (result r.question).fields.ending) mark_rows ≡ 1 ∷ 1 ∷ 1 ∷ 1 ∷ 1 ∷ 1 ∷ 1 ∷ 1 ∷ 5 ∷ 5 ∷ 5 ∷ 3 ∷ 3 ∷ 7 ∷ 7 ∷ 6 ∷ 0 ∷ 0 ∷ []
unfolding computed_mark entries tells mark_row tray_with tray_steps mark_rows asking lines tray module_of
rows-ended = refl

-- ---- the listing of the bench example: the theorem speaks of it
tray-listed : ours (tray_with 10000 16) ≡ some tray_steps
unfolding computed_mark tray_with tray_steps asking lines tray
tray-listed = refl

pub tray-is : ListingOf (tray_with 10000 16) tray_steps
unfolding Listing tray_with asking
tray-is = listing (tray_with 10000 16) refl tray_steps tray-listed

-- its entries, one by one: a run with i steps stops there
pub tray-entries : map (λ (i : ℕ). (result (with_steps i (tray_with 10000 16))).fields.offset) (0 ∷ 1 ∷ 2 ∷ 3 ∷ 4 ∷ 5 ∷ 6 ∷ 7 ∷ 8 ∷ 9 ∷ []) ≡ tray_steps
unfolding computed_mark with_steps tray_with tray_steps asking lines tray
tray-entries = refl

-- more room: with 4 steps and with all of them
pub tray-begins : (ours (tray_with 4 16) ≡ some (40 ∷ 126 ∷ 141 ∷ 82 ∷ [])) × (ours (tray_with 10 16) ≡ some tray_steps)
unfolding computed_mark tray_with tray_steps asking lines tray
tray-begins = (refl, refl)

-- ---- the call, where it is refused by 1 and where it is lent too little
unfoldable pub lent_nothing : (fields answer : List ℕ) → MarkLent
lent_nothing fields answer = record { text = []; steps = 9; depth = 1; inputs = []; output = 7 ∷ []; code = 5 ∷ []; values = []; listing = 1 ∷ []; fields = fields; answer = answer }

-- refused by 1: a record, and the answer is untouched
pub refused-call : mark_call (lent_nothing (replicate 65 9) (replicate 9 3)) ≡ record { call = record { returned = 1; output = 7 ∷ []; code = 5 ∷ []; values = []; fields = replicate 8 0 ++ (1 ∷ replicate 55 0) ++ (9 ∷ []) }; answer = replicate 9 3 }
unfolding computed_mark_call lent_nothing
refused-call = refl

-- a byte too few for the record, for the answer: nothing is touched
pub record-short : mark_call (lent_nothing (replicate 63 9) (replicate 8 3)) ≡ record { call = record { returned = 0; output = 7 ∷ []; code = 5 ∷ []; values = []; fields = replicate 63 9 }; answer = replicate 8 3 }
unfolding computed_mark_call lent_nothing
record-short = refl

pub answer-short : mark_call (lent_nothing (replicate 64 9) (replicate 7 3)) ≡ record { call = record { returned = 0; output = 7 ∷ []; code = 5 ∷ []; values = []; fields = replicate 64 9 }; answer = replicate 7 3 }
unfolding computed_mark_call lent_nothing
answer-short = refl

-- what is told, as bytes: the rest of the answer stays
pub told-bytes : answer_after (tells 0 258) (replicate 10 3) ≡ 0 ∷ 0 ∷ 0 ∷ 0 ∷ 2 ∷ 1 ∷ 0 ∷ 0 ∷ 3 ∷ 3 ∷ []
unfolding computed_mark_call tells
told-bytes = refl
