-- The walk over the routines, one after another.
use mathlib.Core.Path.{◌≡◌, refl, sym, ap, subst, ◌∙◌}
use mathlib.Core.List.{List, [], ◌∷◌, ◌++◌}
use Prim.Native.Nat.{ℕ, zero, suc, ◌+◌, ◌*◌, ◌-◌, ◌<◌, ◌≤◌}
use native.Mathlib.Numerals.{add-one}
use native.Mathlib.Omega.{arith}
use lib.ListN.{length, take, drop}
use lib.Seq.{take_all}
use mir.Syntax.{w32}
use mir.Val.{Fits}
use Rattle.laws.proofs.Tests.{apart}
use Rattle.paper.specs.Words.{Word}
use Rattle.paper.specs.Trees.{Routine}
use Rattle.paper.specs.Names.{Text, sort_in, spelled}
use Rattle.paper.specs.Types.{Fault}
use Rattle.paper.specs.Declarations.{data_texts, signatures}
use Rattle.paper.specs.Checks.{faults}
use Rattle.store_cells.specs.Cells.{cells_of}
use Rattle.code.specs.Steps.{Head, numbered}
use Rattle.code.specs.Signatures.{Heads}
use Rattle.grammar.specs.Form.{Parses, none-starts, one-starts, RoutineAt, RoutinesAt}
use Rattle.grammar.proofs.Places.{routine-grows, routines-grow}
use Rattle.check_load.specs.Layout.{words_in}
use Rattle.faults.specs.First.{First}
use Rattle.faults.specs.Left.{left_faults, Left}
use Rattle.faults.proofs.Expressions.{grows}
use Rattle.faults.proofs.Routines.{faults-are, found-in-left, left-on, left_end}
use Rattle.check_links.specs.Raw.{SameWords}
use Rattle.check_program.specs.Routines.{RawRoutines, no-routine}
use Rattle.check_program.proofs.WalkStays.{routines-frame, routines-on}
use Rattle.check_heads.specs.Trees.{head_for, heads_for, earlier_of}
use Rattle.check_heads.proofs.RoutineNumbers.{drop-next, drop_all, word_at, numbered-at}
use Rattle.check_around.specs.Around.{Unread}
use Rattle.check_names.specs.declared.Scope.{Scope}
use Rattle.check_names.specs.Scopes.{BackTo, Walked}
use Rattle.check_names.proofs.Growing.{back-upto}
use Rattle.check_routines.specs.Answers.{ModuleFilled, ground_of, Begins, Says, Checks}
use Rattle.check_whole.specs.Walks.{RoutinesStand, RoutinesDone, SaysRoutines, RoutinesWalk}
use Rattle.check_whole.proofs.Loaded.{sorts-low, strings-quoted, unread-kept, unread-less}
use Rattle.check_whole.proofs.Signatures.{calls-kept}
use Rattle.std.specs.Prelude.{Ok, Err}
use Rattle.layout.specs.Broken.{as_fault}
use Rattle.layout.specs.declared.rules.Breach.{Breach}

-- ---- lists
module _ {A : Type 0} where
  take_next : (l : List A) (k : ℕ) (a : A) (r : List A) → drop k l ≡ a ∷ r → take (suc k) l ≡ take k l ++ (a ∷ [])
  take_next [] zero a r e = absurd (apart (cc))
  take_next [] (suc k) a r e = absurd (apart (cc))
  take_next (b ∷ l) zero a r e = let q : b ≡ a = cc in ap (λ (x : A). x ∷ []) q
  take_next (b ∷ l) (suc k) a r e = ap (λ (x : List A). b ∷ x) (take_next l k a r e)

heads-more : (rs : List Routine) (r : Routine) → heads_for (rs ++ (r ∷ [])) ≡ heads_for rs ++ (head_for r ∷ [])
unfolding heads_for
heads-more [] r = refl
heads-more (q ∷ rs) r = ap (λ (x : List Head). head_for q ∷ x) (heads-more rs r)

earlier-next : (W : List Word) (earlier : List Text) (k : ℕ) (rs : List Routine) (r : Routine) (rest : List Routine) → drop k rs ≡ r ∷ rest → earlier_of W earlier (suc k) rs ≡ spelled W r.name ∷ earlier_of W earlier k rs
unfolding earlier_of
earlier-next W earlier zero [] r rest e = absurd (apart (cc))
earlier-next W earlier zero (q ∷ rs) r rest e = let s : q ≡ r = cc in ap (λ (x : Routine). spelled W x.name ∷ earlier) s
earlier-next W earlier (suc k) [] r rest e = absurd (apart (cc))
earlier-next W earlier (suc k) (q ∷ rs) r rest e = earlier-next W (spelled W q.name ∷ earlier) k rs r rest e

-- ---- the invariant: the first k routines are checked, and the check has come to word h
pub record Going {text code₀ values₀ : List ℕ} {at end : ℕ} (b : RoutinesStand text code₀ values₀ at end) (code values : List ℕ) (h k : ℕ) : Type 0 where
  pub left : Left (words_in text) b.m (earlier_of (words_in text) (data_texts (words_in text) b.m.declared) k b.m.routines) k (drop k b.m.routines) h end
  pub raw : RawRoutines (ground_of text (words_in text) b.m) (cells_of code) b.m (take k b.m.routines) (heads_for (take k b.m.routines)) at h
  pub filled : ModuleFilled (words_in text) b.m values
  pub unread : Unread (words_in text) code h end
  pub heads : Heads (cells_of code) (heads_for b.m.routines) (signatures (words_in text) b.m 0 b.m.routines)
  pub few : k ≤ h

pub record Invariant (text code₀ values₀ : List ℕ) (at end : ℕ) (code values : List ℕ) (h k : ℕ) : Type 0 where
  pub stand : RoutinesStand text code₀ values₀ at end
  pub long : length code ≡ length code₀
  pub values-long : length values ≡ length values₀
  pub going : (b : RoutinesStand text code₀ values₀ at end) → Going b code values h k

pub going-begins : (text code values : List ℕ) (at end : ℕ) → RoutinesStand text code values at end → Invariant text code values at end code values at 0
unfolding earlier_of heads_for
going-begins text code values at end s = record {
  stand = s;
  long = refl;
  values-long = refl;
  going = λ b. record {
    left = record {
      stand = b.form;
      left = faults-are (words_in text) b.m ∙ ap (λ (l : List Fault). l ++ left_faults (words_in text) b.m (data_texts (words_in text) b.m.declared) 0 b.m.routines) b.none;
    };
    raw = no-routine refl;
    filled = b.filled;
    unread = b.unread;
    heads = b.heads;
    few = omega arith;
  };
}

head-word : (W : ℕ → ℕ) (q : Routine) (w n : ℕ) → RoutineAt W (Parses W) q w n → (head_for q).word ≡ w
unfolding head_for
head-word W q w n f = word_at W q w n f

-- ---- the routine that comes
record Next (W : List Word) (rs : List Routine) (h end : ℕ) : Type 0 where
  r : Routine
  rest : List Routine
  n : ℕ
  is : rs ≡ r ∷ rest
  one : RoutineAt (sort_in W) (Parses (sort_in W)) r h n
  more : RoutinesAt (sort_in W) (Parses (sort_in W)) rest n end

next_of : (W : List Word) (rs : List Routine) (h end : ℕ) → RoutinesAt (sort_in W) (Parses (sort_in W)) rs h end → h < end → Next W rs h end
next_of W rs h end (none-starts s e) l = absurd (omega arith)
next_of W rs h end (one-starts {a = a} {r = r} {n = n} s one more) l = record { r = a; rest = r; n = n; is = refl; one = one; more = more }

none_left : (W : List Word) (rs : List Routine) (h end : ℕ) → RoutinesAt (sort_in W) (Parses (sort_in W)) rs h end → end ≤ h → (rs ≡ []) × (end ≡ h)
none_left W rs h end (none-starts s e) l = (refl, e)
none_left W rs h end (one-starts {a = a} {r = r} {n = n} s one more) l =
    absurd (omega (arith, routine-grows (sort_in W) (Parses (sort_in W)) (grows W) a h n one, routines-grow (sort_in W) (Parses (sort_in W)) (grows W) more))

module _ {text code₀ values₀ : List ℕ} {at end : ℕ} (b : RoutinesStand text code₀ values₀ at end) (code values : List ℕ) (h k : ℕ) (long : length code ≡ length code₀) (g : Going b code values h k) (l : h < end) where
  abbrev W : List Word
  W = words_in text

  abbrev rs : List Routine
  rs = b.m.routines

  next : Next W (drop k rs) h end
  next = next_of W (drop k rs) h end g.left.stand l

  next-inside : next.n ≤ end
  next-inside = routines-grow (sort_in W) (Parses (sort_in W)) (grows W) next.more

  next-on : h < next.n
  next-on = routine-grows (sort_in W) (Parses (sort_in W)) (grows W) next.r h next.n next.one

  ground-words : (ground_of text W b.m).W ≡ W
  unfolding ground_of
  ground-words = refl

  begins : Begins text code values k h
  begins = record {
    stands = record {
      W = W;
      m = b.m;
      r = next.r;
      rest = next.rest;
      earlier = earlier_of W (data_texts W b.m.declared) k rs;
      to = next.n;
      form = next.one;
      nth-is = next.is;
      number_is = subst (λ (w : ℕ). numbered (heads_for rs) w ≡ k) (word_at (sort_in W) next.r h next.n next.one) (numbered-at (sort_in W) b.form k next.r next.rest next.is);
      earlier-is = refl;
      quoted = strings-quoted text;
      sorts = sorts-low text;
    };
    filled = g.filled;
    unread = unread-less W code h next.one.end end (omega (arith, next.one.after, next-inside)) g.unread;
    calls = λ D s. calls-kept W b.m (cells_of code) D (ground_of text W b.m) at end k h next.n next.r next.rest _ ground-words g.raw next.is next.one next.more g.heads s;
    room = omega (arith, b.room, long);
  }

  module _ (code' values' : List ℕ) (r : Walked) (c : Checks text code values code' values' k h r) where
    says : (q : Walked) → r ≡ q → Says begins code' values' q
    says q e = subst (λ (x : Walked). Says begins code' values' x) e (c.is begins)

    found : (broken : Breach) → r ≡ Err broken → First (as_fault broken) (faults W b.m)
    unfolding Says begins
    found broken e = found-in-left W b.m (subst (λ (x : List Routine). Left W b.m (earlier_of W (data_texts W b.m.declared) k rs) k x h end) next.is g.left) next.one next.more (says _ e)

    going_on : length code' ≡ length code → (n : ℕ) (scope : Scope) → r ≡ Ok (n, scope) → Going b code' values' n (k + 1)
    unfolding Says begins
    going_on kept n scope e =
        let s = says _ e in
        let z : k + 1 ≡ suc k = add-one k in
        let t : n ≡ next.n = s.goes.next-is in
        let d : drop (suc k) rs ≡ next.rest = drop-next rs k next.r next.rest next.is in
        let q : earlier_of W (data_texts W b.m.declared) (suc k) rs ≡ spelled W next.r.name ∷ earlier_of W (data_texts W b.m.declared) k rs = earlier-next W (data_texts W b.m.declared) k rs next.r next.rest next.is in
        let same : SameWords (cells_of code) (cells_of code') at h = record { heads = λ i a l. sym (s.goes.below (i * 2) (omega arith)); tails = λ i a l. sym (s.goes.below (i * 2 + 1) (omega arith)) } in
        let old = routines-frame (ground_of text W b.m) (cells_of code) (cells_of code') b.m (take k rs) (heads_for (take k rs)) at h same g.raw in
        let all = routines-on (ground_of text W b.m) (cells_of code') b.m (take k rs) (heads_for (take k rs)) at h next.n next.r (head_for next.r) old (head-word (sort_in W) next.r h next.n next.one) s.goes.raw in
        let u = left-on W b.m (subst (λ (x : List Routine). Left W b.m (earlier_of W (data_texts W b.m.declared) k rs) k x h end) next.is g.left) next.more s.none-in-head s.goes.none in
        rw (z, t) (record {
          left = rw (d, q) u;
          raw = rw (take_next rs k next.r next.rest next.is) (rw (heads-more (take k rs) next.r) all);
          filled = s.goes.filled;
          unread = unread-kept W code code' h next.n end (omega (arith, next-on)) s.goes.above kept g.unread;
          heads = begins.calls (cells_of code') s.goes.spares;
          few = omega (arith, g.few, next-on);
        })

-- ---- for the loop
module _ (text code₀ values₀ : List ℕ) (at end : ℕ) (code values : List ℕ) (h k : ℕ) (i : Invariant text code₀ values₀ at end code values h k) where
  module _ (l : h < end) where
    pub count_fits : Fits w32 (k + 1)
    count_fits = record { fits = omega (arith, (i.going i.stand).few, i.stand.unread.loaded.last) }

    pub routine-begins : Begins text code values k h
    routine-begins = begins i.stand code values h k i.long (i.going i.stand) l

    module _ (code' values' : List ℕ) (r : Walked) (c : Checks text code values code' values' k h r) where
      pub routine-found : (broken : Breach) → r ≡ Err broken → RoutinesWalk text code₀ values₀ code' values' at end (Err broken)
      unfolding SaysRoutines
      routine-found broken e = record { is = λ b. found b code values h k i.long (i.going b) l code' values' r c broken e }

      pub routine-done : (n : ℕ) (scope : Scope) → r ≡ Ok (n, scope) → length code' ≡ length code → length values' ≡ length values → Invariant text code₀ values₀ at end code' values' n (k + 1)
      routine-done n scope e q v = record { stand = i.stand; long = q ∙ i.long; values-long = v ∙ i.values-long; going = λ b. going_on b code values h k i.long (i.going b) l code' values' r c q n scope e }

      pub routine-less : (n : ℕ) (scope : Scope) → r ≡ Ok (n, scope) → end - n < end - h
      unfolding Says begins
      routine-less n scope e =
          let s = says i.stand code values h k i.long (i.going i.stand) l code' values' r c _ e in
          omega (arith, next-on i.stand code values h k i.long (i.going i.stand) l, s.goes.next-is)

  pub routines-done : end ≤ h → (scope : Scope) → RoutinesWalk text code₀ values₀ code values at end (Ok (h, scope))
  unfolding SaysRoutines
  routines-done l scope = record { is = λ b. done b (i.going b) }
    where
      done : (b : RoutinesStand text code₀ values₀ at end) → Going b code values h k → RoutinesDone b code values
      done b g =
          let rs = b.m.routines in
          let n = none_left (words_in text) (drop k rs) h end g.left.stand l in
          let all : take k rs ≡ rs = take_all k rs (drop_all rs k n.0) in
          record {
            clear = left_end (words_in text) b.m (subst (λ (x : List Routine). Left (words_in text) b.m (earlier_of (words_in text) (data_texts (words_in text) b.m.declared) k b.m.routines) k x h end) n.0 g.left);
            raw = rw n.1 (subst (λ (x : List Routine). RawRoutines (ground_of text (words_in text) b.m) (cells_of code) b.m x (heads_for x) at h) all g.raw);
            filled = g.filled;
          }

-- ---- the module's scope, which each routine hands back
module _ (outer scope : Scope) (e : scope ≡ outer) where
  pub no_loop : outer.loops ≡ 0 → scope.loops ≡ 0
  no_loop n = ap (λ (s : Scope). s.loops) e ∙ n

  module _ (r : Walked) (b : BackTo scope r) where
    pub handed-back : (n : ℕ) (left : Scope) → r ≡ Ok (n, left) → left ≡ outer
    handed-back n left q = back-upto scope r b n left q ∙ e
