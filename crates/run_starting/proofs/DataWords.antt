-- The words of a new call: its routine's data and its FOR variables.
use mathlib.Core.Path.{◌≡◌, refl, sym, ap, ap₂, subst, subst₂, ◌∙◌}
use mathlib.Core.Bool.{Bool}
use mathlib.Core.List.{List, [], ◌++◌, append_assoc, append-nil}
use mathlib.Core.Option.{Option, some}
use Prim.Native.Nat.{ℕ, zero, suc, ◌+◌, ◌-◌, ◌*◌, ◌/◌, ◌<◌, ◌≤◌}
use native.Mathlib.Omega.{arith}
use lib.Dec.{eqb}
use lib.ListN.{length, get_or, replicate, length-append, length-replicate}
use lib.IntN.{ℤ, pos, ◌-ℤ◌}
use mir.Syntax.{w32, w64}
use mir.Val.{SFits, to_z}
use mir.Facts.{to_z-of_z}
use mir.ValLaws.{to_z_pos}
use borrow.Author.Tests.{eq-eqb, ne_eqb}
use Rattle.laws.proofs.Tests.{by-same}
use Rattle.store_cells.specs.Cells.{cells_of}
use Rattle.store_cells.proofs.Laws.{length-words}
use Rattle.store_numbers.proofs.Whole.{read, minus-cases}
use Rattle.code.specs.Cells.{op_in, value_in, head_at, op_at, place_at, link_at}
use Rattle.code.specs.Spans.{bias}
use Rattle.code.specs.Steps.{parts, a_datum, the_parameters, constant_at}
use Rattle.code.specs.Holds.{data_in}
use Rattle.code.specs.Windows.{steps_cell}
use Rattle.code.proofs.Options.{none-some, same_some, went}
use Rattle.store_evaluation.proofs.Places.{op-in}
use Rattle.store_reading.specs.Reading.{half_end, Part, cell_values}
use Rattle.run_starting.specs.Starting.{Holding, Wrote, Filled, Idle, Idled, Starts, Started}
use Rattle.run_machine.proofs.Actions.{first-is, second_is}
use Rattle.run_machine.proofs.Hops.{hops, hops-on, hops-end, hops-less}
use Rattle.run_starting.proofs.CellsWritten.{wrote_none, wrote-more, holding-same}

-- ---- what a datum's word says
module _ (C : List ℕ) where
  pub record Datum (f i : ℕ) (xs : List ℤ) (opens : ℕ) : Type 0 where
    pub rest : List ℤ
    pub more : data_in C f (link_at C i) ≡ some (rest, opens)
    pub is : xs ≡ replicate (place_at C i) (constant_at C i) ++ rest

  pub record LastDatum (i : ℕ) (xs : List ℤ) (opens : ℕ) : Type 0 where
    pub op : op_at C i ≡ the_parameters
    pub is : xs ≡ []
    pub opens-is : opens ≡ i

  module _ (f i : ℕ) (xs : List ℤ) (opens : ℕ) (e : data_in C (suc f) i ≡ some (xs, opens)) where
    pub datum : op_at C i ≡ a_datum → Datum f i xs opens
    unfolding data_in
    datum h =
        let g = went (data_in C f (link_at C i)) (λ r. some (replicate (place_at C i) (constant_at C i) ++ r.0, r.1)) (xs, opens) (rw (eq-eqb (op_at C i) a_datum h, data_in) at e) in
        let b = replicate (place_at C i) (constant_at C i) ++ g.a.0 in
        record {
          rest = g.a.0;
          more = g.first ∙ ap (λ (k : ℕ). some (g.a.0, k)) (sym (second_is b g.a.1 (xs, opens) g.next));
          is = first-is b g.a.1 (xs, opens) g.next;
        }

    pub last-datum : (op_at C i ≡ a_datum → ⊥) → LastDatum i xs opens
    unfolding data_in
    last-datum h =
        let d = rw (ne_eqb (op_at C i) a_datum h, data_in) at e in
        by-same (op_at C i) the_parameters
        (λ q.
        let g : ◌≡◌ {A = Option (List ℤ × ℕ)} (some ([], i)) (some (xs, opens)) = rw (eq-eqb (op_at C i) the_parameters q) at d in
        record { op = q; is = first-is {A = List ℤ} {B = ℕ} [] i (xs, opens) g; opens-is = second_is {A = List ℤ} {B = ℕ} [] i (xs, opens) g })
        (λ q. none-some (xs, opens) (rw (ne_eqb (op_at C i) the_parameters q) at d))

  -- whichever it is
  pub data-op : (f i : ℕ) (xs : List ℤ) (opens : ℕ) → data_in C f i ≡ some (xs, opens) → op_at C i ≡ 0 → ⊥
  unfolding data_in
  data-op zero i xs opens e z = none-some (xs, opens) e
  data-op (suc f) i xs opens e z = by-same (op_at C i) a_datum (λ q. omega arith) (λ q. omega (arith, (last-datum f i xs opens e q).op))

  -- ---- how many are left
  abbrev pub is_datum : ℕ → Bool
  is_datum j = eqb (op_at C j) a_datum

  abbrev pub data_left : ℕ → ℕ
  data_left j = hops is_datum (link_at C) parts j

  data-hops : (f i : ℕ) (xs : List ℤ) (opens : ℕ) → data_in C f i ≡ some (xs, opens) → hops is_datum (link_at C) f i < f
  unfolding data_in
  data-hops zero i xs opens e = none-some (xs, opens) e
  data-hops (suc f) i xs opens e =
      by-same (op_at C i) a_datum
      (λ q. let d = datum f i xs opens e q in omega (arith, hops-on is_datum (link_at C) f i (eq-eqb (op_at C i) a_datum q), data-hops f (link_at C i) d.rest opens d.more))
      (λ q. omega (arith, hops-end is_datum (link_at C) f i (ne_eqb (op_at C i) a_datum q)))

  pub data-less : (f i : ℕ) (xs : List ℤ) (opens : ℕ) → data_in C (suc f) i ≡ some (xs, opens) → suc f ≤ parts → op_at C i ≡ a_datum → data_left (link_at C i) < data_left i
  data-less f i xs opens e l q =
      let d = datum f i xs opens e q in
      hops-less is_datum (link_at C) f parts i (eq-eqb (op_at C i) a_datum q) (data-hops f (link_at C i) d.rest opens d.more) (omega arith)

-- ---- the loop over them
pub record Starting (code before now : List ℕ) (first at q n w : ℕ) : Type 0 where
  pub asks : Starts code before first at
  pub f : ℕ
  pub fuel : suc f ≤ parts
  pub rest : List ℤ
  pub left : data_in (cells_of code) (suc f) q ≡ some (rest, asks.opens)
  pub done : List ℤ
  pub is : asks.starts ≡ done ++ rest
  pub wrote : Wrote before now at done
  pub next : n ≡ at + length done
  pub head : w ≡ head_at (cells_of code) q
  pub small : w < cell_values

module _ (code before : List ℕ) (first at : ℕ) (s : Starts code before first at) where
  pub starts-in : first * 8 + 8 ≤ length code
  starts-in = op-in code first s.whole (data-op (cells_of code) parts first s.starts s.opens s.reads)

  pub starts-begin : (w : ℕ) → w ≡ head_at (cells_of code) first → w < cell_values → Starting code before before first at first at w
  starts-begin w e b = record {
    asks = s;
    f = parts - 1;
    fuel = omega arith;
    rest = s.starts;
    left = s.reads;
    done = [];
    is = refl;
    wrote = wrote_none before at;
    next = omega arith;
    head = e;
    small = b;
  }

module _ (code before now : List ℕ) (first at q n w : ℕ) (g : Starting code before now first at q n w) where
  op-is : op_in w ≡ op_at (cells_of code) q
  op-is = ap op_in g.head

  pub datum-in : q * 8 + 8 ≤ length code
  datum-in = op-in code q g.asks.whole (data-op (cells_of code) (suc g.f) q g.rest g.asks.opens g.left)

  count : length g.asks.starts ≡ length g.done + length g.rest
  count = ap length g.is ∙ length-append g.done g.rest

  pub number_fits : SFits w64 (to_z w64 (value_in w) -ℤ pos bias)
  number_fits =
      rw (to_z_pos w64 (value_in w) (omega (arith, g.small)))
      (minus-cases (λ z. SFits w64 z) (value_in w) bias (λ h. record { sfits = omega arith }) (λ h. record { sfits = omega (arith, g.small) }))

  number_is : read (to_z w64 (value_in w) -ℤ pos bias) ≡ constant_at (cells_of code) q
  unfolding constant_at
  number_is = to_z-of_z number_fits ∙ ap (λ (z : ℤ). z -ℤ pos bias) (to_z_pos w64 (value_in w) (omega (arith, g.small)) ∙ ap (λ (x : ℕ). pos (value_in x)) g.head)

  pub number_small : SFits w32 (read (to_z w64 (value_in w) -ℤ pos bias))
  number_small =
      rw (to_z-of_z number_fits, to_z_pos w64 (value_in w) (omega (arith, g.small)))
      (minus-cases (λ z. SFits w32 z) (value_in w) bias (λ h. record { sfits = omega arith }) (λ h. record { sfits = omega (arith, g.small) }))

  module _ (t : op_in w ≡ a_datum) where
    here : Datum (cells_of code) g.f q g.rest g.asks.opens
    here = datum (cells_of code) g.f q g.rest g.asks.opens g.left (sym op-is ∙ t)

    rest-count : length g.rest ≡ place_at (cells_of code) q + length here.rest
    rest-count =
        ap length here.is ∙ length-append (replicate (place_at (cells_of code) q) (constant_at (cells_of code) q)) here.rest
        ∙ ap (λ (k : ℕ). k + length here.rest) (length-replicate (place_at (cells_of code) q) (constant_at (cells_of code) q))

    pub datum-room : (p : ℕ) → Part half_end (place_at (cells_of code) q) p → (n + p) * 4 ≤ length now
    datum-room p ep = omega (arith, g.next, g.wrote.long, g.asks.room, count, rest-count, ep.same)

    -- the next one is read with less fuel, of which there is some
    record Next (f : ℕ) : Type 0 where
      pub h : ℕ
      pub is : f ≡ suc h

    next_of : (f : ℕ) → data_in (cells_of code) f (link_at (cells_of code) q) ≡ some (here.rest, g.asks.opens) → Next f
    unfolding data_in
    next_of zero e = none-some (here.rest, g.asks.opens) e
    next_of (suc f) e = record { h = f; is = refl }

    module _ (l : ℕ) (el : Part half_end (link_at (cells_of code) q) l) where
      pub datum-next : l * 8 + 8 ≤ length code
      datum-next =
          subst (λ (j : ℕ). j * 8 + 8 ≤ length code) (sym el.same)
          (op-in code (link_at (cells_of code) q) g.asks.whole (data-op (cells_of code) g.f (link_at (cells_of code) q) here.rest g.asks.opens here.more))

      pub datum-less : data_left (cells_of code) l < data_left (cells_of code) q
      datum-less =
          subst (λ (j : ℕ). data_left (cells_of code) j < data_left (cells_of code) q) (sym el.same)
          (data-less (cells_of code) g.f q g.rest g.asks.opens g.left g.fuel (sym op-is ∙ t))

      module _ (p : ℕ) (ep : Part half_end (place_at (cells_of code) q) p) (after : List ℕ) (n' : ℕ) (fd : Filled now after n p (read (to_z w64 (value_in w) -ℤ pos bias)) n') where
        block : List ℤ
        block = replicate (place_at (cells_of code) q) (constant_at (cells_of code) q)

        block-is : replicate p (read (to_z w64 (value_in w) -ℤ pos bias)) ≡ block
        unfolding block
        block-is = ap₂ (λ (k : ℕ) (z : ℤ). replicate k z) ep.same number_is

        pub datum-on : (w' : ℕ) → w' ≡ head_at (cells_of code) l → w' < cell_values → Starting code before after first at l n' w'
        unfolding block
        datum-on w' e b =
            let x = next_of g.f here.more in
            record {
              asks = g.asks;
              f = x.h;
              fuel = omega (arith, g.fuel, x.is);
              rest = here.rest;
              left = ap₂ (data_in (cells_of code)) (sym x.is) el.same ∙ here.more;
              done = g.done ++ block;
              is = g.is ∙ ap (λ (y : List ℤ). g.done ++ y) here.is ∙ sym (append_assoc g.done block here.rest);
              wrote = wrote-more before now after at g.done g.wrote block
                  (subst₂ (λ (a : ℕ) (zs : List ℤ). Wrote now after a zs) g.next block-is fd.wrote);
              next = omega (arith, fd.next, g.next, length-append g.done block, length-replicate (place_at (cells_of code) q) (constant_at (cells_of code) q), ep.same);
              head = e;
              small = b;
            }

  module _ (t : op_in w ≡ a_datum → ⊥) where
    last : LastDatum (cells_of code) q g.rest g.asks.opens
    last = last-datum (cells_of code) g.f q g.rest g.asks.opens g.left (λ z. t (op-is ∙ z))

    starts-are : g.asks.starts ≡ g.done
    starts-are = g.is ∙ ap (λ (y : List ℤ). g.done ++ y) last.is ∙ append-nil g.done

    module _ (p : ℕ) (ep : Part half_end (place_at (cells_of code) q) p) where
      fors-are : p ≡ place_at (cells_of code) g.asks.opens
      fors-are = ep.same ∙ ap (place_at (cells_of code)) (sym last.opens-is)

      pub fors-room : (n + p + steps_cell) * 4 ≤ length now
      fors-room = omega (arith, g.next, g.wrote.long, g.asks.room, ap length starts-are, fors-are)

      module _ (after : List ℕ) (id : Idled now after n p) where
        n-is : n ≡ at + length g.asks.starts
        n-is = g.next ∙ ap (λ (y : List ℤ). at + length y) (sym starts-are)

        same-reading : (starts : List ℤ) (opens : ℕ) → data_in (cells_of code) parts first ≡ some (starts, opens) → ◌≡◌ {A = List ℤ × ℕ} (g.asks.starts, g.asks.opens) (starts, opens)
        same-reading starts opens e = same_some (g.asks.starts, g.asks.opens) (starts, opens) (sym g.asks.reads ∙ e)

        cells-long : length (cells_of after) ≡ length (cells_of now)
        cells-long = length-words after ∙ ap (λ (k : ℕ). k / 4) id.long ∙ sym (length-words now)

        pub started : Started code before after first at
        started = record {
          long = id.long ∙ g.wrote.long;
          is = λ starts opens e.
              subst (λ (y : List ℤ × ℕ). Holding (cells_of after) at y.0) (same-reading starts opens e)
              (subst (Holding (cells_of after) at) (sym starts-are)
              (holding-same (cells_of now) (cells_of after) at g.done cells-long (λ c x y. id.below c (omega (arith, g.next))) g.wrote.holds));
          idle = λ starts opens j e h.
              subst (λ (y : List ℤ × ℕ). j < place_at (cells_of code) y.1 → Idle (cells_of after) (at + length y.0 + j)) (same-reading starts opens e)
              (λ k.
              let r : j < p = omega (arith, fors-are) in
              subst (λ (x : ℕ). Idle (cells_of after) (x + j)) n-is (id.zeros j r, id.ends j r, id.steps j r)) h;
          below = λ c h. id.below c (omega (arith, g.next)) ∙ g.wrote.kept c (λ x y. omega arith);
          above = λ starts opens c e h.
              subst (λ (y : List ℤ × ℕ). at + length y.0 + place_at (cells_of code) y.1 + steps_cell ≤ c → get_or (cells_of after) c 0 ≡ get_or (cells_of before) c 0) (same-reading starts opens e)
              (λ k. id.above c (omega (arith, n-is, fors-are)) ∙ g.wrote.kept c (λ x y. omega (arith, ap length starts-are))) h;
        }
