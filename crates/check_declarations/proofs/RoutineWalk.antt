-- A walk over a routine's data, which links them.
use mathlib.Core.Path.{◌≡◌, refl, sym, ap, ap₂, subst, ◌∙◌}
use mathlib.Core.Bool.{Bool, true, false}
use mathlib.Core.List.{List, [], ◌∷◌, ◌++◌, map, append_assoc}
use Prim.Native.Nat.{ℕ, ◌+◌, ◌-◌, ◌*◌, ◌/◌, ◌<◌, ◌≤◌}
use native.Mathlib.Omega.{arith}
use lib.ListN.{length, get_or, replicate}
use lib.IntN.{ℤ, pos, ◌-ℤ◌}
use Rattle.laws.proofs.Tests.{by-same}
use Rattle.paper.specs.Words.{word_limit}
use Rattle.paper.specs.Trees.{Declared}
use Rattle.paper.specs.Expressions.{starts_data}
use Rattle.paper.specs.Names.{Text, text_of, sort_in, spelled, is_among, type_of}
use Rattle.paper.specs.Declarations.{Data, routine_word_limit}
use Rattle.store_cells.specs.Cells.{cells_of}
use Rattle.code.specs.Cells.{op_in, place_in, op_at, value_at, place_at, link_at}
use Rattle.code.specs.Spans.{bias}
use Rattle.code.specs.Steps.{constant_at}
use Rattle.check_names.specs.declared.Scope.{Scope}
use Rattle.check_names.specs.Scopes.{Walked}
use Rattle.std.specs.Prelude.{Ok, Err}
use Rattle.layout.specs.Broken.{as_fault}
use Rattle.layout.specs.declared.rules.Breach.{Breach}
use Rattle.check_sites.specs.Sites.{a_routine, filling, Filled}
use Rattle.store_writing.specs.Chains.{Leads, last_of, starts_in, Rise}
use Rattle.check_sites.specs.Walks.{outer_of, KeepsName, KeepsAll, name_of}
use Rattle.check_datum.specs.Answers.{Begins, after, Goes, Declares, Near}
use Rattle.check_declarations.specs.Answers.{first_of, RoutineStands, RoutineFilled, SaysRoutine, DeclaresRoutine}
use Rattle.store_writing.specs.Promises.{Relinked}
use Rattle.store_writing.proofs.Writing.{relinked-others}
use Rattle.check_expressions.proofs.FaultsOfParts.{append-none}
use Rattle.check_datum.proofs.OneDeclaration.{content-shape}
use Rattle.check_sites.proofs.WordsKept.{keeps_same}
use Rattle.check_datum.proofs.Contents.{near, far}
use Rattle.check_declarations.proofs.DataWalk.{Walk, walk-room, walk-near, sort-here, next, next-on, next_grows, walk_begins, walk-found, walk-on, done_none, done-is, done_at, done-rest, says-goes, says-faulty}
use Rattle.check_sites.proofs.DataChain.{Agrees, agrees-changed, rise-more, last-is, leads-kept, leads-more, starts-kept, starts-append, Settled, Each, settled-more, keeps-kept, keeps-more, among-append, among-declared, map-append}
use Rattle.check_sites.proofs.TwoSites.{own-routine, limit-routine}

-- ---- how far the chain has come
pub record Chained {code₀ values₀ : List ℕ} {head used₀ at : ℕ} (b : RoutineStands code₀ values₀ head used₀ at) (code values : List ℕ) (i used last : ℕ) : Type 0 where
  pub walk : Walk b.W b.routine (a_routine b.m) b.D b.ds b.to code values i used
  pub done : List ℕ
  pub firsts : map first_of b.ds ≡ done ++ map first_of walk.rest
  pub last-now : last ≡ last_of head done
  pub leads : Leads (cells_of code) head done
  pub rises : Rise head i done
  pub words_are : walk.D.words ≡ b.D.words ++ starts_in (cells_of code) done
  pub settled : Each (Settled i last) (map name_of done)
  pub keeps : KeepsAll b.routine b.W (a_routine b.m) (cells_of code) (map name_of done)
  pub covers : (u : Text) → is_among (map text_of b.D.names) u ≡ false → is_among (map (spelled b.W) (map name_of done)) u ≡ false → is_among (map text_of walk.D.names) u ≡ false
  pub below : (k : ℕ) → k < at * 2 → (k ≡ head * 2 + 1 → ⊥) → get_or (cells_of code) k 0 ≡ get_or (cells_of code₀) k 0
  pub place_is : place_at (cells_of code) head ≡ place_at (cells_of code₀) head
  pub above : (k : ℕ) → i * 2 ≤ k → get_or (cells_of code) k 0 ≡ get_or (cells_of code₀) k 0

pub record RoutineWalk (code₀ values₀ : List ℕ) (head used₀ at : ℕ) (code values : List ℕ) (i used last : ℕ) : Type 0 where
  pub long : length code ≡ length code₀
  pub long-values : length values ≡ length values₀
  pub chained : (b : RoutineStands code₀ values₀ head used₀ at) → Chained b code values i used last
  pub begun : at ≤ i
  -- the last is the routine's first word, or a datum's
  pub last-new : (last ≡ head → ⊥) → at ≤ last
  pub last-before : last < i

pub routine-begun : (code values : List ℕ) (head used at : ℕ) → RoutineStands code values head used at → RoutineWalk code values head used at code values at used head
unfolding Leads last_of starts_in Rise Each KeepsAll
routine-begun code values head used at b₀ = record {
  long = refl;
  long-values = refl;
  chained = λ b. record {
    walk = record { D = b.D; rest = b.ds; left = refl; faults-left = refl; used-is = b.used-is; filled = b.filled; stand = b.stand; loaded = b.loaded };
    done = [];
    firsts = refl;
    last-now = refl;
    leads = tt;
    rises = b.before;
    words_are = sym (append-none b.D.words);
    settled = tt;
    keeps = tt;
    covers = λ u h g. h;
    below = λ k h d. refl;
    place_is = refl;
    above = λ k h. refl;
  };
  begun = omega arith;
  last-new = λ d. absurd (d refl);
  last-before = b₀.before;
}

-- ---- one datum more, and its link
module _ {code₀ values₀ : List ℕ} {head used₀ at : ℕ} (b : RoutineStands code₀ values₀ head used₀ at) {code values : List ℕ} {i used last : ℕ} (h : Chained b code values i used last)
    (begun : at ≤ i) (last-new : (last ≡ head → ⊥) → at ≤ last) (last-before : last < i) (starts : starts_data (sort_in b.W i) ≡ true) where
  abbrev w : Walk b.W b.routine (a_routine b.m) b.D b.ds b.to code values i used
  w = h.walk

  abbrev pub chain-begins : Begins code values 1 routine_word_limit used i
  chain-begins = walk_begins w starts (own-routine b.m) (limit-routine b.W b.m)

  module _ (mid code' values' : List ℕ) (n used' : ℕ) (g : Goes chain-begins mid values' n used') (s : Relinked mid code' last i) (long : length code' ≡ length code) where
    agrees : Agrees (cells_of code) (cells_of code') i (last_of head h.done)
    agrees = subst (Agrees (cells_of code) (cells_of code') i) h.last-now (agrees-changed code mid code' i last i g.changed.below s)

    -- what the datum has written stays
    stays : (k : ℕ) → i * 2 ≤ k → get_or (cells_of code') k 0 ≡ get_or (cells_of mid) k 0
    stays k l = relinked-others s k (λ e. omega (arith, e, l, last-before))

    beyond : (k : ℕ) → (next w starts).n * 2 ≤ k → get_or (cells_of code') k 0 ≡ get_or (cells_of code) k 0
    beyond k l = stays k (omega (arith, l, next_grows w starts)) ∙ g.changed.above k l

    gap : i + 2 < n
    gap = omega (arith, far chain-begins, g.next-is)

    abbrev x : Declared
    x = (next w starts).a

    first-is : first_of x ≡ i
    unfolding first_of
    first-is = omega (arith, (next w starts).one.named)

    names-are : map name_of (h.done ++ i ∷ []) ≡ map name_of h.done ++ (i + 2) ∷ []
    unfolding name_of
    names-are = map-append name_of h.done (i ∷ [])

    written-words : (after chain-begins).words ≡ b.D.words ++ starts_in (cells_of code') (h.done ++ i ∷ [])
    unfolding constant_at
    written-words =
        let y = g.written refl in
        let C = cells_of code' in
        let p : place_at (cells_of mid) i ≡ place_at C i = ap place_in (sym (stays (i * 2 + 1) (omega arith))) in
        let v : value_at (cells_of mid) i ≡ value_at C i = ap (λ (k : ℕ). k / 256) (sym (stays (i * 2) (omega arith))) in
        y.words_are
        ∙ ap₂ (λ (k z : ℕ). w.D.words ++ replicate k (pos z -ℤ pos bias)) p v
        ∙ ap (λ (l : List ℤ). l ++ replicate (place_at C i) (constant_at C i)) (h.words_are ∙ ap (λ (l : List ℤ). b.D.words ++ l) (sym (starts-kept (cells_of code) C i (last_of head h.done) head h.done agrees h.rises)))
        ∙ append_assoc b.D.words (starts_in C h.done) (replicate (place_at C i) (constant_at C i))
        ∙ ap (λ (l : List ℤ). b.D.words ++ l) (sym (starts-append C h.done i))

    name-kept : KeepsName b.routine b.W (a_routine b.m) (cells_of code') (i + 2)
    name-kept = record {
      near = g.keeps.near;
      name = g.keeps.name;
      keeps = keeps_same b.routine b.W (outer_of b.W (a_routine b.m)) (cells_of mid) (cells_of code') (i + 2) (stays ((i + 2) * 2) (omega arith)) (stays ((i + 2) * 2 + 1) (omega arith)) g.keeps.keeps;
    }

    covers_more : (u : Text) → is_among (map text_of b.D.names) u ≡ false → is_among (map (spelled b.W) (map name_of (h.done ++ i ∷ []))) u ≡ false → is_among (map text_of (after chain-begins).names) u ≡ false
    covers_more u p q =
        let W = b.W in
        let e : map (spelled W) (map name_of (h.done ++ i ∷ [])) ≡ map (spelled W) (map name_of h.done) ++ spelled W (i + 2) ∷ [] = ap (map (spelled W)) names-are ∙ map-append (spelled W) (map name_of h.done) ((i + 2) ∷ []) in
        let z = among-append (map (spelled W) (map name_of h.done)) (spelled W (i + 2) ∷ []) u (subst (λ (l : List Text). is_among l u ≡ false) e q) in
        let t : is_among (spelled W x.name ∷ []) u ≡ false = ap (λ (k : ℕ). is_among (spelled W k ∷ []) u) (next w starts).one.named ∙ z.1 in
        ap (λ (E : Data). is_among (map text_of E.names) u) (content-shape W (filling W (a_routine b.m)) (type_of x.type) x.name x.content w.D)
        ∙ among-declared w.D.names (spelled W x.name) u _ (h.covers u p z.0) t

    pub chained-on : Chained b code' values' n used' i
    unfolding walk-on
    chained-on = record {
      walk = walk-on w starts (own-routine b.m) (limit-routine b.W b.m) code' values' n used' long beyond g.none g.next-is g.used-is g.filled;
      done = h.done ++ i ∷ [];
      firsts = h.firsts ∙ ap (λ (r : List Declared). h.done ++ map first_of r) (next w starts).is ∙ ap (λ (k : ℕ). h.done ++ k ∷ map first_of (next w starts).rest) first-is
          ∙ sym (append_assoc h.done (i ∷ []) (map first_of (next w starts).rest));
      last-now = last-is head i h.done;
      leads = leads-more (cells_of code) (cells_of code') i head h.done agrees h.rises h.leads (subst (λ (k : ℕ). link_at (cells_of code') k ≡ i) h.last-now s.link-is)
          (ap op_in (stays (i * 2) (omega arith)) ∙ (g.written refl).op-is);
      rises = rise-more head i n h.done (omega (arith, gap)) h.rises;
      words_are = written-words;
      settled = subst (Each (Settled n i)) (sym names-are) (settled-more i last n (map name_of h.done) gap h.settled);
      keeps = subst (KeepsAll b.routine b.W (a_routine b.m) (cells_of code')) (sym names-are)
          (keeps-more b.routine b.W (a_routine b.m) (cells_of code) (cells_of code') i last (agrees-changed code mid code' i last i g.changed.below s) (map name_of h.done) (i + 2) h.settled h.keeps name-kept);
      covers = covers_more;
      below = λ k l d. by-same last head
          (λ e. relinked-others s k (λ q. d (omega (arith, q, e))) ∙ g.changed.below k (omega (arith, l, begun)) ∙ h.below k l d)
          (λ e. let f = last-new e in relinked-others s k (λ q. omega (arith, q, l, f)) ∙ g.changed.below k (omega (arith, l, begun)) ∙ h.below k l d);
      place_is = (agrees-changed code mid code' i last i g.changed.below s).places head (omega (arith, b.before, begun)) ∙ h.place_is;
      above = λ k l. beyond k (omega (arith, l, g.next-is)) ∙ h.above k (omega (arith, l, gap));
    }

-- ---- the last link
module _ {code₀ values₀ : List ℕ} {head used₀ at : ℕ} (b : RoutineStands code₀ values₀ head used₀ at) {code values : List ℕ} {i used last : ℕ} (h : Chained b code values i used last)
    (begun : at ≤ i) (last-new : (last ≡ head → ⊥) → at ≤ last) (last-before : last < i) (stops : starts_data (sort_in b.W i) ≡ false) (code' : List ℕ) (opens : ℕ) (s : Relinked code code' last opens) where
  same : Agrees (cells_of code) (cells_of code') i last
  same = agrees-changed code code code' i last opens (λ k l. refl) s

  same-last : Agrees (cells_of code) (cells_of code') i (last_of head h.done)
  same-last = subst (Agrees (cells_of code) (cells_of code') i) h.last-now same

  all_done : map first_of b.ds ≡ h.done
  all_done = h.firsts ∙ ap (λ (r : List Declared). h.done ++ map first_of r) (done-rest h.walk stops) ∙ append-none h.done

  pub chain-done : RoutineFilled b code' values opens i used
  chain-done =
      let e = done-is h.walk stops in
      record {
        none = done_none h.walk stops;
        next-is = sym (done_at h.walk stops);
        used-is = h.walk.used-is ∙ sym (ap (λ (D : Data). length D.words) e);
        filled = subst (λ (D : Data). Filled b.W b.routine (a_routine b.m) D values) (sym e) h.walk.filled;
        chain = record {
          leads = subst (Leads (cells_of code') head) (sym all_done) (leads-kept (cells_of code) (cells_of code') i head h.done same-last h.rises h.leads);
          ends = ap (λ (l : List ℕ). link_at (cells_of code') (last_of head l)) all_done ∙ subst (λ (k : ℕ). link_at (cells_of code') k ≡ opens) h.last-now s.link-is;
        };
        rises = subst (λ (k : ℕ). Rise head k (map first_of b.ds)) (sym (done_at h.walk stops)) (subst (Rise head i) (sym all_done) h.rises);
        words_are = ap (λ (D : Data). D.words) e ∙ h.words_are
            ∙ ap (λ (l : List ℤ). b.D.words ++ l) (sym (starts-kept (cells_of code) (cells_of code') i last head h.done same h.rises) ∙ ap (starts_in (cells_of code')) (sym all_done));
        keeps = subst (λ (l : List ℕ). KeepsAll b.routine b.W (a_routine b.m) (cells_of code') (map name_of l)) (sym all_done)
            (keeps-kept b.routine b.W (a_routine b.m) (cells_of code) (cells_of code') i last same (map name_of h.done) h.settled h.keeps);
        covers = record {
          is = λ u p q. ap (λ (D : Data). is_among (map text_of D.names) u) e ∙ h.covers u p (subst (λ (l : List ℕ). is_among (map (spelled b.W) (map name_of l)) u ≡ false) all_done q);
        };
        below = λ k l d. by-same last head
            (λ y. relinked-others s k (λ q. d (omega (arith, q, y))) ∙ h.below k l d)
            (λ y. let f = last-new y in relinked-others s k (λ q. omega (arith, q, l, f)) ∙ h.below k l d);
        place_is = same.places head (omega (arith, b.before, begun)) ∙ h.place_is;
        above = λ k l. relinked-others s k (λ q. omega (arith, q, l, last-before, done_at h.walk stops)) ∙ h.above k (omega (arith, l, done_at h.walk stops));
      }

-- ---- the loop
module _ (code₀ values₀ : List ℕ) (head used₀ at : ℕ) (code values : List ℕ) (i used last : ℕ) (m : RoutineWalk code₀ values₀ head used₀ at code values i used last) where
  pub routine-room : RoutineStands code₀ values₀ head used₀ at → i * 8 + 8 ≤ length code
  routine-room b = walk-room (m.chained b).walk

  pub routine-small : RoutineStands code₀ values₀ head used₀ at → i < word_limit
  routine-small b = walk-near (m.chained b).walk

  pub last-room : RoutineStands code₀ values₀ head used₀ at → last * 8 + 8 ≤ length code
  last-room b = omega (arith, routine-room b, m.last-before)

  pub routine-long : length code ≡ length code₀
  routine-long = m.long

  pub routine-long-values : length values ≡ length values₀
  routine-long-values = m.long-values

  module _ (s : ℕ) (s-is : s ≡ op_at (cells_of code) i) (t : Bool) (t-is : t ≡ starts_data s) where
    starts_is : (b : RoutineStands code₀ values₀ head used₀ at) → starts_data (sort_in b.W i) ≡ t
    starts_is b = ap starts_data (sort-here (m.chained b).walk s s-is) ∙ sym t-is

    module _ (yes : t ≡ true) where
      abbrev begins : (b : RoutineStands code₀ values₀ head used₀ at) → Begins code values 1 routine_word_limit used i
      begins b = chain-begins b (m.chained b) m.begun m.last-new m.last-before (starts_is b ∙ yes)

      pub routine-datum : RoutineStands code₀ values₀ head used₀ at → Begins code values 1 routine_word_limit used i
      routine-datum b = begins b

      pub routine-near : RoutineStands code₀ values₀ head used₀ at → Near code values 1 routine_word_limit used i
      routine-near b = near (begins b)

      module _ (mid values' : List ℕ) (r : Walked) (d : Declares code values mid values' 1 routine_word_limit used i r) where
        pub routine-faulty : (opens : ℕ) (broken : Breach) → r ≡ Err broken → DeclaresRoutine code₀ values₀ mid values' opens head used₀ at (Err broken)
        unfolding SaysRoutine
        routine-faulty opens broken q = record {
          is = λ b. walk-found (m.chained b).walk (starts_is b ∙ yes) (own-routine b.m) (limit-routine b.W b.m) (as_fault broken) (says-faulty (begins b) mid values' r broken q (d.is (begins b)));
        }

        module _ (n : ℕ) (scope : Scope) (q : r ≡ Ok (n, scope)) where
          abbrev used' : ℕ
          used' = scope.used

          goes : (b : RoutineStands code₀ values₀ head used₀ at) → Goes (begins b) mid values' n used'
          goes b = says-goes (begins b) mid values' r n scope q (d.is (begins b))

          routine-less : RoutineStands code₀ values₀ head used₀ at → (i < n) × (n < word_limit)
          routine-less b =
              let y = (goes b).next-is in
              let w = (m.chained b).walk in
              (omega (arith, y, next_grows w (starts_is b ∙ yes)), omega (arith, y, next-on w (starts_is b ∙ yes), w.loaded.last))

          pub routine-falls : RoutineStands code₀ values₀ head used₀ at → word_limit - n < word_limit - i
          routine-falls b = omega (arith, (routine-less b).0, (routine-less b).1)

          pub routine-on : RoutineStands code₀ values₀ head used₀ at → (code' : List ℕ) → Relinked mid code' last i → length code' ≡ length code → length values' ≡ length values
              → RoutineWalk code₀ values₀ head used₀ at code' values' n used' i
          routine-on b₀ code' s long long-values = record {
            long = long ∙ m.long;
            long-values = long-values ∙ m.long-values;
            chained = λ b. chained-on b (m.chained b) m.begun m.last-new m.last-before (starts_is b ∙ yes) mid code' values' n used' (goes b) s long;
            begun = omega (arith, m.begun, (routine-less b₀).0);
            last-new = λ e. m.begun;
            last-before = (routine-less b₀).0;
          }

    pub routine-done : t ≡ false → (code' : List ℕ) (opens : ℕ) → Relinked code code' last opens → (scope : Scope) → scope.used ≡ used → DeclaresRoutine code₀ values₀ code' values opens head used₀ at (Ok (i, scope))
    unfolding SaysRoutine
    routine-done stops code' opens s scope u = record {
      is = λ b. subst (RoutineFilled b code' values opens i) (sym u) (chain-done b (m.chained b) m.begun m.last-new m.last-before (starts_is b ∙ stops) code' opens s);
    }
