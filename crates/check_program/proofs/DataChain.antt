-- The chain of a routine's data: what a run reads of it, and that it stays while other words change.
use mathlib.Core.Path.{◌≡◌, refl, sym, ap, ap₂, ◌∙◌}
use mathlib.Core.Bool.{false}
use mathlib.Core.List.{List, [], ◌∷◌, ◌++◌}
use mathlib.Core.Option.{some}
use Prim.Native.Nat.{zero, ℕ, suc, ◌+◌, ◌<◌, ◌≤◌}
use native.Mathlib.Omega.{arith}
use lib.ListN.{length, replicate}
use lib.IntN.{ℤ, pos, ◌-ℤ◌}
use borrow.Author.Tests.{eq-eqb, ne_eqb}
use Rattle.store_cells.specs.Cells.{cells_of}
use Rattle.code.specs.Cells.{op_in, value_in, place_in, link_in, head_at, tail_at, op_at, place_at, link_at}
use Rattle.code.specs.Spans.{◌then◌, bias}
use Rattle.code.specs.Steps.{constant_at, parts, a_datum, the_parameters}
use Rattle.code.specs.Holds.{data_in}
use Rattle.check_links.specs.Resolved.{goes_by_link, goes_by_value, goes_by_place, is_led, Resolved}
use Rattle.check_links.specs.Raw.{Ground, SameWords}
use Rattle.check_links.proofs.Walked.{head-stays, tail-stays}
use Rattle.store_writing.specs.Chains.{Leads, last_of, Chain, starts_in, Rise}

-- ---- ops that do not lead on
pub datum-still : (op : ℕ) → op ≡ a_datum → is_led op ≡ false
unfolding is_led goes_by_link goes_by_value goes_by_place
datum-still op e = rw e

pub parameters-still : (op : ℕ) → op ≡ the_parameters → is_led op ≡ false
unfolding is_led goes_by_link goes_by_value goes_by_place
parameters-still op e = rw e

-- ---- order
pub rise-all : (b to : ℕ) (ds : List ℕ) → Rise b to ds → b + length ds < to
unfolding Rise
rise-all b to [] x =
    let y : b < to = x in
    omega (arith, y)
rise-all b to (d ∷ r) x = omega (arith, rise-all d to r x.1, x.0)

pub rise-on : (b to far : ℕ) (ds : List ℕ) → to ≤ far → Rise b to ds → Rise b far ds
unfolding Rise
rise-on b to far [] h x = omega arith
rise-on b to far (d ∷ r) h x = (x.0, rise-on d to far r h x.1)

-- ---- what a run reads
module _ (C : List ℕ) (end : ℕ) (opens : op_at C end ≡ the_parameters) where
  ends_at : (f i : ℕ) → 0 < f → i ≡ end → data_in C f i ≡ some ([], end)
  unfolding data_in
  ends_at zero i h e = elim h [ ]
  ends_at (suc f) i h e =
      rw e
      (rw (ne_eqb (op_at C end) a_datum (λ q. omega arith), data_in)
      (rw (eq-eqb (op_at C end) the_parameters opens)))

  datum-at : (f d : ℕ) (l : List ℤ) → op_at C d ≡ a_datum → data_in C f (link_at C d) ≡ some (l, end) → data_in C (suc f) d ≡ some (replicate (place_at C d) (constant_at C d) ++ l, end)
  unfolding data_in ◌then◌
  datum-at f d l o e = rw (eq-eqb (op_at C d) a_datum o, data_in) (rw e)

  pub chain-reads : (f b : ℕ) (ds : List ℕ) → length ds < f → Leads C b ds → link_at C (last_of b ds) ≡ end → data_in C f (link_at C b) ≡ some (starts_in C ds, end)
  unfolding Leads last_of starts_in
  chain-reads f b [] h x e = ends_at f (link_at C b) (omega arith) e
  chain-reads zero b (d ∷ r) h x e = elim h [ ]
  chain-reads (suc f) b (d ∷ r) h x e = rw x.0 (datum-at f d (starts_in C r) x.1 (chain-reads f d r (omega arith) x.2 e))

-- ---- words that stay: those that do not lead on
pub record Stays (C D : List ℕ) (low high : ℕ) : Type 0 where
  pub heads : (i : ℕ) → low ≤ i → i < high → is_led (op_at C i) ≡ false → head_at D i ≡ head_at C i
  pub tails : (i : ℕ) → low ≤ i → i < high → is_led (op_at C i) ≡ false → tail_at D i ≡ tail_at C i

pub stays_same : (C D : List ℕ) (low high : ℕ) → SameWords C D low high → Stays C D low high
stays_same C D low high s = record { heads = λ i l h q. sym (s.heads i l h); tails = λ i l h q. sym (s.tails i l h) }

pub stays-resolved : (g : Ground) (before after : List ℕ) (words : ℕ) → words ≤ parts → Resolved before after words → Stays (cells_of before) (cells_of after) 0 words
stays-resolved g before after words few x = record {
  heads = λ i l h q. head-stays g 0 before after words few x i h q;
  tails = λ i l h q. tail-stays g 0 before after words few x i h q;
}

-- Of the words from b up to `high` the data stay, and so does the link of b. (The walk gives the word b its place, and the parenthesis its op, after it has chained the data.)
pub record DataStay (C D : List ℕ) (b high : ℕ) : Type 0 where
  pub link : link_at D b ≡ link_at C b
  pub heads : (i : ℕ) → b < i → i < high → op_at C i ≡ a_datum → head_at D i ≡ head_at C i
  pub tails : (i : ℕ) → b < i → i < high → op_at C i ≡ a_datum → tail_at D i ≡ tail_at C i

pub data-stay : (C D : List ℕ) (low high b : ℕ) → Stays C D low high → low ≤ b → b < high → is_led (op_at C b) ≡ false → DataStay C D b high
data-stay C D low high b s l h q = record {
  link = ap link_in (s.tails b l h q);
  heads = λ i p k e. s.heads i (omega arith) k (datum-still (op_at C i) e);
  tails = λ i p k e. s.tails i (omega arith) k (datum-still (op_at C i) e);
}

-- the same from a datum on
stay-later : (C D : List ℕ) (b d high : ℕ) → DataStay C D b high → b < d → d < high → op_at C d ≡ a_datum → DataStay C D d high
stay-later C D b d high s l h o = record {
  link = ap link_in (s.tails d l h o);
  heads = λ i p k e. s.heads i (omega arith) k e;
  tails = λ i p k e. s.tails i (omega arith) k e;
}

module _ (C D : List ℕ) (high : ℕ) where
  leads-kept : (b : ℕ) (ds : List ℕ) → DataStay C D b high → Rise b high ds → Leads C b ds → Leads D b ds
  unfolding Leads Rise
  leads-kept b [] s o x = tt
  leads-kept b (d ∷ r) s o x =
      let p : d < high = omega (arith, rise-all d high r o.1) in
      (s.link ∙ x.0, ap op_in (s.heads d o.0 p x.1) ∙ x.1, leads-kept d r (stay-later C D b d high s o.0 p x.1) o.1 x.2)

  last-kept : (b : ℕ) (ds : List ℕ) → DataStay C D b high → Rise b high ds → Leads C b ds → link_at D (last_of b ds) ≡ link_at C (last_of b ds)
  unfolding Leads Rise last_of
  last-kept b [] s o x = s.link
  last-kept b (d ∷ r) s o x = last-kept d r (stay-later C D b d high s o.0 (omega (arith, rise-all d high r o.1)) x.1) o.1 x.2

  pub chain-kept : (b : ℕ) (ds : List ℕ) (end : ℕ) → DataStay C D b high → Rise b high ds → Chain C b ds end → Chain D b ds end
  chain-kept b ds end s o x = record { leads = leads-kept b ds s o x.leads; ends = last-kept b ds s o x.leads ∙ x.ends }

  constant-kept : (i : ℕ) → head_at D i ≡ head_at C i → constant_at D i ≡ constant_at C i
  unfolding constant_at
  constant-kept i e = ap (λ (k : ℕ). pos (value_in k) -ℤ pos bias) e

  pub starts-kept : (b : ℕ) (ds : List ℕ) → DataStay C D b high → Rise b high ds → Leads C b ds → starts_in D ds ≡ starts_in C ds
  unfolding Leads Rise starts_in
  starts-kept b [] s o x = refl
  starts-kept b (d ∷ r) s o x =
      let p : d < high = omega (arith, rise-all d high r o.1) in
      let c : constant_at D d ≡ constant_at C d = constant-kept d (s.heads d o.0 p x.1) in
      let k : place_at D d ≡ place_at C d = ap place_in (s.tails d o.0 p x.1) in
      ap₂ (λ (x y : List ℤ). x ++ y) (ap₂ (λ (n : ℕ) (z : ℤ). replicate n z) k c) (starts-kept d r (stay-later C D b d high s o.0 p x.1) o.1 x.2)
