-- The listing of our run, and what is told of another beside it.
use mathlib.Core.Path.{◌≡◌, refl, sym, ap, ◌∙◌}
use mathlib.Core.Bool.{Bool, true, false, ◌||◌}
use mathlib.Core.List.{List, [], ◌∷◌, map}
use mathlib.Core.Option.{Option, none, some}
use Prim.Native.Nat.{ℕ, zero, suc, ◌+◌, ◌≤◌, ◌<◌}
use native.Mathlib.Omega.{arith}
use lib.Dec.{eqb}
use lib.ListN.{length, get_or, length-map}
use Rattle.laws.proofs.Tests.{test, apart}
use Rattle.std.specs.Prelude.{if◌then◌else◌}
use Rattle.paper.specs.Running.{Ended, run, started}
use Rattle.paper.specs.Undoing.{Asked, plainly, run_abort, run_asked}
use Rattle.paper.specs.Answer.{Accepted, Verdict, refused_by, accepted, offset_of, verdict, Question, Result, refused_with, ended_with, ran_to, carried_out, too_small, bad_depth, result}
use Rattle.demands.proofs.Growing.{ran}
use Rattle.marks.specs.Marks.{listed, rooms_of, listing_of, judged, ours, Mark, yes, differs, marked, Marking, marking, beside, mark}
use Rattle.marks.specs.Theorems.{with_steps, SpentAt, ListingOf, Listing, OnlyRefusal, Refusing, OneListing}
use Rattle.marks.proofs.Parting.{shared-low, equal-marked, marking-yes, marking-differs, told-shared}
use Rattle.marks.proofs.Counting.{as_many, within, entry, Spent}

-- ---- a module that is accepted
-- Its run, where nothing is refused.
pub record Given (q : Question) (o : List ℕ) : Type 0 where
  pub small : too_small q ≡ false
  pub shallow : bad_depth q ≡ false
  pub a : Accepted
  pub is-accepted : verdict q.text ≡ accepted a
  pub is : listing_of q a ≡ o

abbrev pub run_of : Question → Accepted → Ended
run_of q a = run a.program (rooms_of q) q.steps (started a.program a.main)

none-some : {A B : Type 0} (b : B) → none ≡ some b → A
none-some b e = apart (cc)

module _ (q : Question) where
  -- the tests, and what they leave
  ours_small : too_small q ≡ true → ours q ≡ none
  unfolding ours
  ours_small t = rw (t, ours)

  ours-deep : too_small q ≡ false → bad_depth q ≡ true → ours q ≡ none
  unfolding ours
  ours-deep t u = rw (t, ours) (rw u)

  ours-judged : too_small q ≡ false → bad_depth q ≡ false → ours q ≡ judged q (verdict q.text)
  unfolding ours
  ours-judged t u = rw (t, ours) (rw u)

  result-small : too_small q ≡ true → (result q).fields.ending ≡ 0
  unfolding result refused_with
  result-small t = rw (t, result)

  result-deep : too_small q ≡ false → bad_depth q ≡ true → (result q).fields.ending ≡ 0
  unfolding result refused_with
  result-deep t u = rw (t, result) (rw u)

  result-judged : too_small q ≡ false → bad_depth q ≡ false → result q ≡ carried_out q (verdict q.text)
  unfolding result
  result-judged t u = rw (t, result) (rw u)

  pub given : (o : List ℕ) → ours q ≡ some o → Given q o
  unfolding judged
  given o e =
      test (too_small q)
      (λ t. none-some o (sym (ours_small t) ∙ e))
      (λ t. test (bad_depth q)
      (λ u. none-some o (sym (ours-deep t u) ∙ e))
      (λ u. by-verdict t u (verdict q.text) refl))
    where
      by-verdict : too_small q ≡ false → bad_depth q ≡ false → (v : Verdict) → verdict q.text ≡ v → Given q o
      by-verdict t u (refused_by f) w = none-some o (sym (ours-judged t u ∙ ap (judged q) w) ∙ e)
      by-verdict t u (accepted a) w =
          let s : some (listing_of q a) ≡ some o = sym (ours-judged t u ∙ ap (judged q) w) ∙ e in
          record { small = t; shallow = u; a = a; is-accepted = w; is = (cc) }

  -- without K it is the paper's run
  pub result-ran : q.asked ≡ plainly → too_small q ≡ false → bad_depth q ≡ false → (a : Accepted) → verdict q.text ≡ accepted a → result q ≡ ran_to q.text a.words (run_of q a)
  unfolding carried_out run_asked run_abort
  result-ran k t u a w =
      result-judged t u ∙ ap (carried_out q) w
      ∙ ap (λ (x : Asked). ran_to q.text a.words (run_asked a.program (rooms_of q) q.steps x (started a.program a.main))) k

-- ---- what holds of it
mapped : (f : ℕ → ℕ) (l : List ℕ) (i : ℕ) → i < length l → get_or (map f l) i 0 ≡ f (get_or l i 0)
mapped f [] i h = absurd (omega arith)
mapped f (x ∷ l) zero h = refl
mapped f (x ∷ l) (suc i) h = mapped f l i (omega arith)

-- of what a run that has ended is told
ending_of : (q : Question) (a : Accepted) (e : Ended) → (ran_to q.text a.words e).fields.ending ≡ e.ending
unfolding ran_to ended_with
ending_of q a e = refl

steps_of : (q : Question) (a : Accepted) (e : Ended) → (ran_to q.text a.words e).fields.steps ≡ e.state.steps
unfolding ran_to ended_with
steps_of q a e = refl

offset-of : (q : Question) (a : Accepted) (e : Ended) → e.ending ≡ 5 → (ran_to q.text a.words e).fields.offset ≡ offset_of q.text a.words e.place
unfolding ran_to ended_with
offset-of q a e h = ap (λ (n : ℕ). if eqb n 1 || eqb n 9 then 0 else offset_of q.text a.words e.place) h

module _ (q : Question) (k : q.asked ≡ plainly) (o : List ℕ) (g : Given q o) where
  places : List ℕ
  places = listed g.a.program (rooms_of q) q.steps (started g.a.program g.a.main)

  is-places : o ≡ map (offset_of q.text g.a.words) places
  unfolding places listing_of
  is-places = sym g.is

  long : length o ≡ length places
  long = ap length is-places ∙ length-map places _

  many : length o ≡ (result q).fields.steps
  unfolding started places
  many =
      let r = result-ran q k g.small g.shallow g.a g.is-accepted in
      let n = as_many g.a.program (rooms_of q) q.steps (started g.a.program g.a.main) in
      let t : (result q).fields.steps ≡ (run_of q g.a).state.steps = ap (λ (x : Result). x.fields.steps) r ∙ steps_of q g.a _ in
      omega (arith, long, n, t)

  few : length o ≤ q.steps
  unfolding places
  few = omega (arith, long, within g.a.program (rooms_of q) q.steps (started g.a.program g.a.main))

  -- with i steps
  stopped-there : (i : ℕ) → i < length o → SpentAt (with_steps i q) (get_or o i 0)
  unfolding with_steps too_small bad_depth places
  stopped-there i h =
      let p = with_steps i q in
      let r : result p ≡ ran_to p.text g.a.words (run_of p g.a) = result-ran p k g.small g.shallow g.a g.is-accepted in
      let low : i < length places = omega (arith, long) in
      let x = entry g.a.program (rooms_of q) i q.steps (started g.a.program g.a.main) low in
      let there : get_or o i 0 ≡ offset_of q.text g.a.words (get_or places i 0) = ap (λ (l : List ℕ). get_or l i 0) is-places ∙ mapped _ places i low in
      record {
        ending = ap (λ (z : Result). z.fields.ending) r ∙ ending_of p g.a _ ∙ x.ending;
        there = ap (λ (z : Result). z.fields.offset) r ∙ offset-of p g.a _ x.ending ∙ ap (offset_of q.text g.a.words) x.there ∙ sym there;
      }

pub listing : Listing
unfolding Listing
listing q k o e =
    let g = given q o e in
    record {
      as_many = many q k o g;
      entry = stopped-there q k o g;
      allowed = few q k o g;
      told-allowed = λ theirs. omega (arith, told-shared o theirs, shared-low o theirs, few q k o g);
    }

-- ---- refused
pub refusing : Refusing
unfolding Refusing judged carried_out refused_with
refusing q k =
    test (too_small q)
    (λ t. record { without = λ e. result-small q t; refused = λ e. ours_small q t })
    (λ t. test (bad_depth q)
    (λ u. record { without = λ e. result-deep q t u; refused = λ e. ours-deep q t u })
    (λ u. by-verdict t u (verdict q.text) refl))
  where
    by-verdict : too_small q ≡ false → bad_depth q ≡ false → (v : Verdict) → verdict q.text ≡ v → OnlyRefusal q
    by-verdict t u (refused_by f) w = record {
      without = λ e. ap (λ (x : Result). x.fields.ending) (result-judged q t u ∙ ap (carried_out q) w);
      refused = λ e. ours-judged q t u ∙ ap (judged q) w;
    }
    by-verdict t u (accepted a) w =
        let r : (result q).fields.ending ≡ (run_of q a).ending = ap (λ (x : Result). x.fields.ending) (result-ran q k t u a w) ∙ ending_of q a _ in
        record {
          without = λ e. none-some (listing_of q a) (sym e ∙ ours-judged q t u ∙ ap (judged q) w);
          refused = λ e. absurd (omega (arith, r, e, (ran a.program (rooms_of q) q.steps (started a.program a.main)).least));
        }

-- ---- one listing
-- what is told 1 is given yes
told-yes : (o t : List ℕ) (m : ℕ) → marking o t ≡ record { same = 1; index = m } → o ≡ t
told-yes o t m e = by-mark (marked o t) refl
  where
    by-mark : (x : Mark) → marked o t ≡ x → o ≡ t
    by-mark yes w = equal-marked o t w
    by-mark (differs i) w =
        let d : ◌≡◌ {A = ℕ} 0 1 = ap (λ (x : Marking). x.same) (sym (marking-differs o t i w) ∙ e) in
        apart d

pub one-listing : OneListing
unfolding OneListing mark beside
one-listing q a b m n e f = by-ours (ours q) e f
  where
    by-ours : (x : Option (List ℕ)) → beside x a ≡ some (record { same = 1; index = m }) → beside x b ≡ some (record { same = 1; index = n }) → a ≡ b
    by-ours none e f = none-some _ e
    by-ours (some o) e f = sym (told-yes o a m (cc)) ∙ told-yes o b n (cc)
