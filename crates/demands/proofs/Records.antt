-- Demand 1: the record.
use mathlib.Core.Path.{◌≡◌, refl, sym, ap}
use mathlib.Core.Bool.{Bool, true, false, ◌||◌}
use mathlib.Core.List.{List, [], ◌∷◌}
use mathlib.Core.Option.{Option, none, some}
use Prim.Native.Nat.{ℕ, ◌+◌, ◌≤◌, ◌<◌}
use native.Mathlib.Omega.{arith}
use lib.Dec.{eqb}
use lib.ListN.{length, get_or, get_or-eq_default}
use borrow.Author.Tests.{lt-ltb, le-ltb, eq-eqb, ne_eqb}
use Rattle.laws.proofs.Tests.{apart, by_less, by-same}
use Rattle.std.specs.Prelude.{if◌then◌else◌}
use Rattle.paper.specs.Sorts.{NAME, bytes}
use Rattle.paper.specs.Words.{text_limit, Word, Refusal, reading}
use Rattle.paper.specs.Trees.{Routine, Module}
use Rattle.paper.specs.Expressions.{Parsed, got, no, starts_statement, starts_simple}
use Rattle.paper.specs.Form.{formed}
use Rattle.paper.specs.Names.{Meaning, routine_in, no_word, nth, sort_in}
use Rattle.paper.specs.Types.{Fault, least}
use Rattle.paper.specs.Declarations.{module_word_limit, Signature, module_scopes}
use Rattle.paper.specs.Checks.{faults, is_main, no_signature, main_in, main_of}
use Rattle.paper.specs.Steps.{Program, program_of}
use Rattle.paper.specs.States.{Rooms}
use Rattle.paper.specs.Running.{Ended, started}
use Rattle.paper.specs.Undoing.{run_abort, run_asked}
use Rattle.paper.specs.Answer.{Accepted, Verdict, refused_by, refuse, accepted, offset_of, judge_main, judge_module, judge_form, judge_reading, verdict, Record, Result, refused_with, ended_with, ran_to, carried_out, too_small, bad_depth, result, Lent, question_of}
use Rattle.demands.proofs.Places.{ReadingRefuses, not, too_long, in-text, reading-refuses, words-in-text}
use Rattle.demands.proofs.Alls.{first_of, rest_of, one_at}
use Rattle.demands.proofs.Parsing.{Is, is-by, by_8, by-9, Reads, SortsOfModule, formed-reads}
use Rattle.demands.proofs.Faults.{InRules, in_group, hiding, faults-ranked, least-ranked, accepted-words}
use Rattle.demands.proofs.Routines.{InRange, meaning-in, module-in}
use Rattle.demands.proofs.Tables.{Known, UndoFits, ModuleFits, module-fits}
use Rattle.demands.proofs.Apart.{all_apart}
use Rattle.demands.proofs.Barred.{all-undoable}
use Rattle.demands.proofs.Growing.{Later, RanAsked, as_lent, as-struck, ran-abort}
use Rattle.demands.proofs.Sitting.{EndedAt, by-returning, by-abort, at-word}
use Rattle.demands.proofs.Aborted.{run-reaches, struck-ends, abort-ends}
use Rattle.demands.specs.Vocabulary.{before-any, EndsWith, at_exit, at-statement, at-list-end, at_next, at-callee, at_read, at-line, at-undo, by-error, by-undo, by-end, by-endproc, by-endfunc, a-statement, the_end}
use Rattle.demands.specs.Vocabulary.{undo-statement, undo-end, by-tpwrite, by-tpreadnum, WordAt, All, nothing, ◌also◌, at-start}
use Rattle.demands.specs.Aborts.{own_steps, undo_steps, Undoable}
use Rattle.demands.specs.Demands as demands
use Rattle.demands.specs.Demands.{RefusalAt, StepsLent, EndedRecord, Allowed}

-- ---- offsets
-- Past the last word there is none.
no-sort : (W : List Word) (i : ℕ) → length W ≤ i → sort_in W i ≡ 0
unfolding sort_in nth no_word
no-sort W i h = ap (λ (w : Word). w.sort) (get_or-eq_default W no_word h)

-- A word that a run ends at is one.
no-ending : (n : ℕ) → EndsWith n 0 → ⊥
unfolding starts_statement starts_simple
no-ending n (at_exit e) = omega arith
no-ending n (at-statement e) = apart (cc)
no-ending n (at-list-end (by-error e)) = omega arith
no-ending n (at-list-end (by-undo e)) = omega arith
no-ending n (at-list-end (by-end (by-endfunc e))) = omega arith
no-ending n (at_next (a-statement e)) = apart (cc)
no-ending n (at_next (the_end f (by-error e))) = omega arith
no-ending n (at_next (the_end f (by-undo e))) = omega arith
no-ending n (at_next (the_end f (by-end (by-endproc e)))) = omega arith
no-ending n (at_next (the_end f (by-end (by-endfunc e)))) = omega arith
no-ending n (at-undo (undo-statement e)) = apart (cc)
no-ending n (at-undo (undo-end f (by-endproc e))) = omega arith
no-ending n (at-undo (undo-end f (by-endfunc e))) = omega arith
no-ending n (at-callee e) = omega arith
no-ending n (at_read e) = omega arith
no-ending n (at-line (by-tpwrite e)) = omega arith
no-ending n (at-line (by-tpreadnum e)) = omega arith

module _ (text : List ℕ) (W : List Word) (i : ℕ) where
  offset-inside : i < length W → offset_of text W i ≡ (nth W i).place
  unfolding offset_of
  offset-inside h = rw (lt-ltb i (length W) h)

  ending-word : (n : ℕ) → EndsWith n (sort_in W i) → WordAt W (offset_of text W i) (EndsWith n)
  ending-word n h = by_less i (length W) inside past
    where
      inside : i < length W → WordAt W (offset_of text W i) (EndsWith n)
      inside l = record { index = i; inside = l; place = sym (offset-inside l); sort = h }

      past : length W ≤ i → WordAt W (offset_of text W i) (EndsWith n)
      past l = absurd (no-ending n (rw (no-sort W i l) at h))

-- ---- refusals by the form and the checks
module _ (text : List ℕ) (i : ℕ) where
  abbrev read : List Word
  read = (reading text).words

  -- at a word
  there : (n : ℕ) → 8 ≤ n → n ≤ 17 → i < length read → RefusalAt text n (offset_of text read i)
  there n l h k = demands.at-word n _ l h (record { index = i; inside = k; place = sym (offset-inside text read i k); sort = tt })

  word-there : (n : ℕ) → 8 ≤ n → n ≤ 17 → Is (sort_in read) i → RefusalAt text n (offset_of text read i)
  word-there n l h w = by_less i (length read) (there n l h) (λ k. absurd (w (no-sort read i k)))

  -- at a name
  name-there : sort_in read i ≡ NAME → RefusalAt text 19 (offset_of text read i)
  name-there e =
      by_less i (length read) (λ k. demands.hiding-loop _ (record { index = i; inside = k; place = sym (offset-inside text read i k); sort = e })) (λ k. absurd (is-by (sort_in read) i 0 e (no-sort read i k)))

  -- at a word or at the end
  refusal-8 : RefusalAt text 8 (offset_of text read i)
  unfolding offset_of
  refusal-8 =
      by_less i (length read) (there 8 (omega arith) (omega arith)) past
    where
      past : length read ≤ i → RefusalAt text 8 (offset_of text read i)
      past k = rw (le-ltb i (length read) k) demands.at-end

-- ---- verdicts
-- An accepted module of these words.
pub record Accepts (W : List Word) (a : Accepted) : Type 0 where
  pub words : a.words ≡ W
  pub m : Module
  pub parsed : formed (sort_in W) ≡ got m
  pub program : a.program ≡ program_of W m
  pub fits : ModuleFits W m
  pub main : a.main < length m.routines
  pub size : length a.program.words ≤ module_word_limit

pub data Judges (text : List ℕ) : Verdict → Type 0 where
  refuses : (n offset : ℕ) → 3 ≤ n → n ≤ 19 → RefusalAt text n offset → Judges text (refuse n offset)
  accepts : (a : Accepted) → Accepts (reading text).words a → Judges text (accepted a)

main-named : (W : List Word) (sigs : List Signature) (o : Option ℕ) (k : ℕ) → main_in W sigs o ≡ some k → o ≡ some k
unfolding main_in
main-named W sigs none k e = apart (cc)
main-named W sigs (some j) k e = by-test (is_main W (get_or sigs j no_signature)) e
  where
    by-test : (b : Bool) → (if b then some j else none) ≡ some k → some j ≡ some k
    by-test true q = q
    by-test false q = apart (cc)

routine-below : (n : ℕ) (m : Meaning) (k : ℕ) → InRange n m → routine_in m ≡ some k → k < n
unfolding routine_in
routine-below n m k h e = rw e at h

main-below : (W : List Word) (m : Module) (k : ℕ) → main_of W m ≡ some k → k < length m.routines
unfolding main_of
main-below W m k e = routine-below (length m.routines) _ k (meaning-in (length m.routines) (module_scopes W m) (bytes "MAIN") (module-in W m)) (main-named W _ _ k e)

module _ (text : List ℕ) where
  abbrev words : List Word
  words = (reading text).words

  main-judges : (m : Module) → formed (sort_in words) ≡ got m → SortsOfModule (sort_in words) m → least (faults words m) ≡ none → Judges text (judge_main words m (main_of words m))
  unfolding judge_main program_of
  main-judges m p h e = by-main (main_of words m) refl
    where
      undo-fits : (rs : List Routine) → All (λ r. (i : ℕ) → Known (own_steps words m r) i → Known (undo_steps words m r) i → ⊥) rs → All (λ r. All (λ s. Undoable s.does) (undo_steps words m r)) rs → All (UndoFits words m) rs
      undo-fits [] a u = nothing
      undo-fits (r ∷ rs) a u = record { apart = first_of a; undoable = first_of u } also undo-fits rs (rest_of a) (rest_of u)

      by-main : (o : Option ℕ) → main_of words m ≡ o → Judges text (judge_main words m o)
      by-main none q = refuses 18 0 (omega arith) (omega arith) demands.no_main
      by-main (some k) q =
          let below = main-below words m k q in
          accepts (record { words = words; program = program_of words m; main = k }) (record {
            words = refl;
            m = m;
            parsed = p;
            program = refl;
            fits = module-fits words m (omega arith) h.routines (undo-fits m.routines (all_apart words m p) (all-undoable words m e));
            main = below;
            size = accepted-words words m h e;
          })

  module-judges : (m : Module) → formed (sort_in words) ≡ got m → SortsOfModule (sort_in words) m → (o : Option Fault) → least (faults words m) ≡ o → Judges text (judge_module text words m o)
  unfolding judge_module
  module-judges m p h none e = main-judges m p h e
  module-judges m p h (some f) e = by-rule (least-ranked words (faults words m) f (faults-ranked words m h) e)
    where
      by-rule : InRules words f → Judges text (refuse f.number (offset_of text words f.at))
      by-rule (in_group l k w) = refuses f.number _ (omega arith) (omega arith) (word-there text f.at f.number (omega arith) k w)
      by-rule (hiding q n) = refuses f.number (offset_of text words f.at) (omega arith) (omega arith) (rw q (name-there text f.at n))

  form-judges : (p : Parsed Module) → formed (sort_in words) ≡ p → Reads (sort_in words) (SortsOfModule (sort_in words)) p → Judges text (judge_form text words p)
  unfolding judge_form
  form-judges (no number i) q (by_8 e) = refuses number (offset_of text words i) (omega arith) (omega arith) (rw e (refusal-8 text i))
  form-judges (no number i) q (by-9 e w) = refuses number (offset_of text words i) (omega arith) (omega arith) (rw e (word-there text i 9 (omega arith) (omega arith) w))
  form-judges (got m) q h = module-judges m q h (least (faults words m)) refl

  pub judges : Judges text (verdict text)
  unfolding verdict judge_reading
  judges = by-refusal (reading text).refusal (reading-refuses text)
    where
      by-refusal : (o : Option Refusal) → ReadingRefuses text o → Judges text (elim o [ some f ↦ refused_by f | none ↦ judge_form text words (formed (sort_in words)) ])
      by-refusal o not = form-judges (formed (sort_in words)) refl (formed-reads (sort_in words))
      by-refusal o (too_long k) = refuses 3 text_limit (omega arith) (omega arith) (demands.too_long k)
      by-refusal o (in-text {f = f} l h p) = refuses f.number f.offset (omega arith) (omega arith) (demands.in-text f.number f.offset l h p)

-- ---- records
-- A word's place is in the text.
word-place : (text : List ℕ) (offset : ℕ) (such : ℕ → Type 0) → WordAt (reading text).words offset such → offset < length text
unfolding nth
word-place text offset such w = rw w.place at (one_at (λ v. v.place < length text) (reading text).words w.index no_word (words-in-text text) w.inside)

refusal-place : (text : List ℕ) (n offset : ℕ) → RefusalAt text n offset → offset ≤ length text
refusal-place text n offset (demands.of-rooms k l h) = omega arith
refusal-place text n offset (demands.too_long k) = omega arith
refusal-place text n offset (demands.in-text k o l h p) = omega arith
refusal-place text n offset (demands.at-word k o l h w) = let p = word-place text o _ w in omega arith
refusal-place text n offset demands.at-end = omega arith
refusal-place text n offset demands.no_main = omega arith
refusal-place text n offset (demands.hiding-loop o w) = let p = word-place text o _ w in omega arith

refused-allowed : (l : Lent) (f : Refusal) → 1 ≤ f.number → f.number ≤ 19 → RefusalAt l.text f.number f.offset → Allowed l (refused_with f).fields
unfolding refused_with
refused-allowed l f low high h =
    demands.refused refl (refusal-place l.text f.number f.offset h) (record { from-1 = low; to-19 = high; offset = h; steps = refl; errno = refl; output = refl; inputs = refl; words = refl })

module _ (l : Lent) (a : Accepted) (h : Accepts (reading l.text).words a) where
  abbrev W : List Word
  W = (reading l.text).words

  abbrev R : Rooms
  R = record { depth = l.depth; output = length l.output; inputs = l.inputs }

  abbrev P : Program
  P = program_of W h.m

  -- what is left of a run: its offset
  ended_at : (x : Ended) → EndedAt W x → ¬ (x.ending ≡ 1) → ¬ (x.ending ≡ 9)
      → WordAt W (if eqb x.ending 1 || eqb x.ending 9 then 0 else offset_of l.text W x.place) (EndsWith x.ending)
  ended_at x by-returning f g = absurd (f refl)
  ended_at x by-abort f g = absurd (g refl)
  ended_at x (at-word {n = n} {place = place} e) f g = rw (ne_eqb n 1 f, ne_eqb n 9 g) (ending-word l.text W place n e)

  -- no offset of a run is past the text
  offset-inside-text : (f : Record) → EndedRecord l f → f.offset ≤ length l.text
  offset-inside-text f h =
      by-same f.ending 1
      (λ e. let z : f.offset ≡ 0 = h.returned e in omega arith)
      (λ e. by-same f.ending 9
      (λ k. let z : f.offset ≡ 0 = h.aborted k in omega arith)
      (λ k. let p = word-place l.text f.offset _ (h.offset e k) in omega arith))

  -- A run that was struck, or was not.
  ended-record : (x : Ended) (count : ℕ) → 1 ≤ x.ending → x.ending ≤ 10 → Later R (started P a.main) count x.state → StepsLent l (ran_to l.text W x).fields → EndedAt W x
      → EndedRecord l (ran_to l.text W x).fields
  unfolding ran_to ended_with started program_of
  ended-record x count low high later steps e =
      record {
        from-1 = low;
        to-10 = high;
        refusal = refl;
        steps = steps;
        errno = later.errno (before-any refl);
        output = later.in-room (omega arith);
        inputs = later.in-inputs (omega arith);
        words = rw later.words (rw h.program at h.size);
        returned = λ q. rw (eq-eqb x.ending 1 q);
        aborted = λ q. rw (q);
        offset = ended_at x e;
      }

  abbrev ended : Ended
  ended = run_abort P R l.steps l.asked.abort (started P a.main)

  run-record : EndedRecord l (ran_to l.text W ended).fields
  unfolding ran_to ended_with started
  run-record = by-case (ran-abort P R l.steps l.asked.abort (started P a.main))
    where
      at-end : EndedAt W ended
      at-end = abort-ends W h.m h.fits R a.main l.steps l.asked.abort h.main

      by-case : RanAsked P R (started P a.main) l.steps l.asked.abort ended → EndedRecord l (ran_to l.text W ended).fields
      by-case (as_lent r) =
          ended-record ended r.count r.least (omega (arith, r.most)) r.later (demands.plain r.most (omega (arith, r.later.steps, r.within))) at-end
      by-case (as-struck b e s) =
          let high = (struck-ends W h.m h.fits R a.main h.main _ (run-reaches P R a.main b.at _ at-start s.would-be-5) b.undo).1 in
          let seven : 7 ≤ ended.ending = rw s.is high in
          ended-record ended (b.at + s.count) (omega (arith, s.least)) s.most s.later
          (demands.struck seven (record { abort = b; given = e; reached = s.reached; least = omega (arith, s.later.steps); most = omega (arith, s.later.steps, s.within) }))
          at-end

-- What may be said of a record: the tables allow it, and the refusal 1 is none of it.
pub record Sound (l : Lent) (f : Record) : Type 0 where
  pub allowed : Allowed l f
  pub not-1 : ¬ (f.refusal ≡ 1)

module _ (l : Lent) where
  carried-allowed : (v : Verdict) → Judges l.text v → Sound l (carried_out (question_of l) v).fields
  unfolding carried_out run_asked question_of refused_with ran_to ended_with
  carried-allowed v (refuses n offset low high h) =
      record { allowed = refused-allowed l (record { number = n; offset = offset }) (omega arith) high h; not-1 = λ e. omega arith }
  carried-allowed v (accepts a h) =
      let e : EndedRecord l (ran_to l.text (reading l.text).words (ended l a h)).fields = run-record l a h in
      rw (h.words, h.program)
      (record {
        allowed = demands.ended (offset-inside-text l a h _ e) e;
        not-1 = λ e. omega arith;
      })

  pub result-1 : too_small (question_of l) ≡ true → result (question_of l) ≡ refused_with (record { number = 1; offset = 0 })
  unfolding result
  result-1 s = rw (s, result)

  -- a store under 16,384 words: refusal 1
  pub small-allowed : too_small (question_of l) ≡ true → Allowed l (result (question_of l)).fields
  small-allowed s = rw (result-1 s) (refused-allowed l _ (omega arith) (omega arith) (demands.of-rooms 1 (omega arith) (omega arith)))

  pub result-sound : too_small (question_of l) ≡ false → Sound l (result (question_of l)).fields
  unfolding result question_of refused_with
  result-sound s = rw (s, result) (by-depth (bad_depth (question_of l)))
    where
      by-depth : (b : Bool) → Sound l (elim b as (λ x. Result) [ true ↦ refused_with (record { number = 2; offset = 0 }) | false ↦ carried_out (question_of l) (verdict l.text) ]).fields
      by-depth true = record { allowed = refused-allowed l _ (omega arith) (omega arith) (demands.of-rooms 2 (omega arith) (omega arith)); not-1 = λ e. omega arith }
      by-depth false = carried-allowed (verdict l.text) (judges l.text)
