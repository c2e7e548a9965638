-- More room, as demand 3 has it: the listing of a run that came to an end stays, and that of one that broke off begins the longer one.
use mathlib.Core.Path.{◌≡◌, refl, sym, ap, ap₂, ◌∙◌}
use mathlib.Core.Bool.{true, false}
use mathlib.Core.List.{List, [], ◌∷◌, ◌++◌, map, map-append}
use Prim.Native.Nat.{ℕ, zero, suc, ◌≤◌}
use native.Mathlib.Omega.{arith}
use Rattle.laws.proofs.Tests.{apart}
use Rattle.paper.specs.Words.{Word}
use Rattle.paper.specs.Steps.{Program}
use Rattle.paper.specs.States.{State, Rooms}
use Rattle.paper.specs.Running.{Ended, Outcome, goes_on, stopped, stopping, take_step, next_place, run, started}
use Rattle.paper.specs.Undoing.{plainly}
use Rattle.paper.specs.Answer.{Accepted, Verdict, accepted, offset_of, verdict, Question, Result, ended_with, ran_to, result, Lent, question_of}
use Rattle.demands.specs.Vocabulary.{Begins}
use Rattle.demands.specs.Demands.{MoreRoom, Final, came-to-an-end, was-aborted}
use Rattle.demands.proofs.Growing.{begins-self, run-goes, run-stops}
use Rattle.demands.proofs.Effects.{RoomsAtLeast}
use Rattle.demands.proofs.Runs.{SameOrStops, alike, stops, step-more}
use Rattle.marks.specs.Marks.{listed, rooms_of, listing_of, ours}
use Rattle.marks.specs.Theorems.{ListsMore, MoreListed}
use Rattle.marks.proofs.Counting.{listed-goes, listed-counted, listed-uncounted}
use Rattle.marks.proofs.Listings.{Given, given, run_of, result-ran}

-- What broke off for want of room is not final.
not-final : {A : Type 0} (n : ℕ) → 5 ≤ n → n ≤ 8 → Final n → A
not-final n low high (came-to-an-end l h) = absurd (omega arith)
not-final n low high (was-aborted e) = absurd (omega arith)

one_more : {l m : List ℕ} (p e : ℕ) → ListsMore e l m → ListsMore e (p ∷ l) (p ∷ m)
one_more p e x = record { finished = λ f. ap (λ (r : List ℕ). p ∷ r) (x.finished f); begins = record { rest = x.begins.rest; whole = ap (λ (r : List ℕ). p ∷ r) x.begins.whole } }

same_more : (e : ℕ) (l : List ℕ) → ListsMore e l l
same_more e l = record { finished = λ f. refl; begins = begins-self l }

none_more : (e : ℕ) (l : List ℕ) → 5 ≤ e → e ≤ 8 → ListsMore e [] l
none_more e l low high = record { finished = λ f. not-final e low high f; begins = record { rest = l; whole = refl } }

module _ (P : Program) (R R' : Rooms) (more : RoomsAtLeast R R') where
  pub listed_more : (n m : ℕ) (s : State) → n ≤ m → ListsMore (run P R n s).ending (listed P R n s) (listed P R' m s)
  unfolding run listed
  listed_more zero m s h = none_more 5 _ (omega arith) (omega arith)
  listed_more (suc n) zero s h = absurd (omega arith)
  listed_more (suc n) (suc m) s h = first (take_step P R s) refl (step-more P R R' more s) (λ s'. listed_more n m s' (omega arith))
    where
      first : (o : Outcome) → take_step P R s ≡ o → SameOrStops s (take_step P R s) (take_step P R' s)
          → ((s' : State) → ListsMore (run P R n s').ending (listed P R n s') (listed P R' m s'))
          → ListsMore (run P R (suc n) s).ending (listed P R (suc n) s) (listed P R' (suc m) s)
      first (goes_on s') e (alike k) on =
          rw (run-goes P R n s s' e, listed-goes P R n s s' e, listed-goes P R' m s s' (sym k ∙ e)) (one_more (next_place P s) _ (on s'))
      first (stopped true x) e (alike k) on =
          rw (run-stops P R n s true x e, listed-counted P R n s x e, listed-counted P R' m s x (sym k ∙ e)) (same_more _ _)
      first (stopped false x) e (alike k) on =
          rw (run-stops P R n s false x e, listed-uncounted P R n s x e, listed-uncounted P R' m s x (sym k ∙ e)) (same_more _ _)
      first o e (stops i place low high k) on =
          rw (run-stops P R n s false _ k, listed-uncounted P R n s _ k) (none_more i _ (omega arith) high)

-- ---- as offsets
mapped-more : (f : ℕ → ℕ) (e : ℕ) (l m : List ℕ) → ListsMore e l m → ListsMore e (map f l) (map f m)
mapped-more f e l m x =
    record {
      finished = λ g. ap (map f) (x.finished g);
      begins = record { rest = map f x.begins.rest; whole = sym (map-append f l x.begins.rest) ∙ ap (map f) x.begins.whole };
    }

-- ---- two questions
module _ (q q' : Question) (k : q.asked ≡ plainly) (text : q.text ≡ q'.text) (steps : q.steps ≤ q'.steps) (more : RoomsAtLeast (rooms_of q) (rooms_of q')) (o p : List ℕ) (g : Given q o) (g' : Given q' p) where
  same-module : g'.a ≡ g.a
  same-module = let e : accepted g'.a ≡ accepted g.a = sym g'.is-accepted ∙ ap verdict (sym text) ∙ g.is-accepted in cc

  lists-more : ListsMore (result q).fields.ending o p
  unfolding listing_of ran_to ended_with
  lists-more =
      let P = g.a.program in
      let s = started P g.a.main in
      let f = offset_of q.text g.a.words in
      let r : (result q).fields.ending ≡ (run P (rooms_of q) q.steps s).ending = ap (λ (x : Result). x.fields.ending) (result-ran q k g.small g.shallow g.a g.is-accepted) in
      let theirs : p ≡ map f (listed P (rooms_of q') q'.steps s) =
      sym g'.is ∙ ap (listing_of q') same-module ∙ ap (λ (t : List ℕ). map (offset_of t g.a.words) (listed P (rooms_of q') q'.steps s)) (sym text) in
      rw (r, theirs, ← g.is) (mapped-more f _ _ _ (listed_more P (rooms_of q) (rooms_of q') more q.steps q'.steps s steps))

pub more-listed : MoreListed
unfolding MoreListed question_of
more-listed a b m k o p e f =
    lists-more (question_of a) (question_of b) k m.text m.steps (record { depth = m.depth; output = m.output; inputs = m.inputs }) o p (given (question_of a) o e) (given (question_of b) p f)
