-- The whole pass over a module that was loaded.
use Rattle.layout.specs.Parts.{spelled_part}
use Rattle.check_names.specs.Promises.{number_limit}
use mathlib.Core.Path.{◌≡◌, sym, ap, ap₂, subst, ◌∙◌}
use mathlib.Core.List.{List, map}
use Prim.Native.Nat.{ℕ, ◌+◌, ◌-◌, ◌*◌, ◌/◌, ◌<◌, ◌≤◌}
use native.Mathlib.Omega.{arith}
use Rattle.std.specs.Prelude.{Option}
use lib.ListN.{length, take, drop}
use borrow.Author.Tests.{eq-eqb}
use Rattle.paper.specs.Sorts.{folded, NAME}
use Rattle.paper.specs.Words.{Word}
use Rattle.paper.specs.Names.{nth, sort_in, spelled}
use Rattle.store_cells.specs.Cells.{cells_of}
use Rattle.check_names.specs.Numbers.{first_named, number_of, IsName}
use Rattle.check_names.specs.Meanings.{protected_cell, cell_for}
use Rattle.check_names.proofs.Spellings.{name-inside, number-most, number-named}
use Rattle.check_load.specs.Layout.{head_value, first_cell, words_in}
use Rattle.check_load.proofs.Bounds.{reading-good, reading-most}
use Rattle.check_load.proofs.Chains.{true-first}
use Rattle.check_load.proofs.Results.{sorts-loaded, numbers-loaded}
use Rattle.grammar.specs.Form.{Parses, RoutinesAt}
use Rattle.grammar.proofs.Places.{declarations-grow, routines-grow}
use Rattle.check_heads.specs.Stores.{Lain, length_at, Spells}
use Rattle.check_heads.specs.Parts.{DataStand, DataKnown, Data, RoutinesStand, RoutinesKnown, Routines}
use Rattle.check_heads.specs.Reads.{Begins, Foretells, Reads}
use Rattle.check_heads.proofs.WordsInside.{expression-grows}
use Rattle.check_heads.proofs.Frames.{cell_below, marked-wider}
use Rattle.check_heads.proofs.ParameterMarks.{sort-inside}

module _ {text code values : List ℕ} (g : Begins text code values) where
  abbrev W : List Word
  W = words_in text

  pub begins-lain : Lain W code
  begins-lain = record {
    sorts = sorts-loaded text code g.heads;
    numbers = numbers-loaded text code g.heads;
    most = reading-most text;
    room = g.code-room;
  }

  -- ---- what names cover
  length-is : (i : ℕ) → IsName W i → length_at (cells_of code) i ≡ length (nth W i).covers
  unfolding head_value
  length-is i n =
      let l = name-inside W i n in
      let most : number_of W i < number_limit = omega (arith, number-most W i n, l, reading-most text) in
      ap (λ (x : ℕ). x / 256 / spelled_part) (g.heads i l)
      ∙ rw (eq-eqb (sort_in W i) NAME n) (high (sort_in W i) (number_of W i) (length (nth W i).covers) (omega (arith, n)) most)
    where
      high : (sort number n : ℕ) → sort < 256 → number < spelled_part → (sort + 256 * (number + spelled_part * n)) / 256 / spelled_part ≡ n
      high sort number n a b =
          let e : (sort + 256 * (number + spelled_part * n)) / 256 ≡ number + spelled_part * n = omega arith in
          rw e (omega arith)

  pub begins-spells : Spells text W code
  unfolding spelled
  begins-spells = record {
    inside = λ i n. let l = name-inside W i n in omega (arith, length-is i n, g.places i l, (reading-good text i l).lies.inside);
    is = λ i n. let l = name-inside W i n in let good = (reading-good text i l).lies in
        ap₂ (λ (a b : ℕ). map folded (take a (drop b text))) (length-is i n) (g.places i l)
        ∙ ap (map folded) (ap (λ (b : ℕ). take (length (nth W i).covers) (drop b text)) (back (nth W i).place) ∙ sym good.is);
  }
    where
      back : (x : ℕ) → x ≡ x - 0
      back x = omega arith

  begins-cells : (j : ℕ) → IsName W j → cell_for W (cells_of values) j ≡ protected_cell (spelled W j)
  unfolding first_cell
  begins-cells j n =
      let first = number-named W j n in
      let l = name-inside W (number_of W j) first.name in
      g.table (number_of W j) (omega (arith, l, reading-most text))
      ∙ rw (true-first W (number_of W j) (record { name = first.name; own = ap (first_named W) first.spells })) (ap protected_cell first.spells)

  -- ---- module data
  end-inside : g.stands.form.end < length W
  end-inside = sort-inside W g.stands.form.end (omega (arith, g.stands.form.closes))

  begin-inside : g.stands.form.begin ≤ g.stands.form.end
  begin-inside = routines-grow (sort_in W) (Parses (sort_in W)) (expression-grows (sort_in W)) g.stands.form.routines

  begin-behind : 2 ≤ g.stands.form.begin
  begin-behind = declarations-grow (sort_in W) (Parses (sort_in W)) (expression-grows (sort_in W)) g.stands.form.declared

  pub read-data : DataStand code values 2
  read-data = record {
    W = W;
    ds = g.m.declared;
    to = g.stands.form.begin;
    form = g.stands.form.declared;
    lain = begins-lain;
    inside = omega (arith, end-inside, begin-inside);
    cells = begins-cells;
    room = g.values-room;
  }

  -- ---- routines
  module _ (values₁ : List ℕ) (at : ℕ) (d : DataKnown W g.m.declared g.stands.form.begin values values₁ at) where
    read-routines : RoutinesStand text code values₁ at
    read-routines = record {
      W = W;
      m = g.m;
      end = g.stands.form.end;
      some = omega (arith, begin-behind, d.next);
      form = subst (λ (x : ℕ). RoutinesAt (sort_in W) (Parses (sort_in W)) g.m.routines x g.stands.form.end) (sym d.next) g.stands.form.routines;
      lain = begins-lain;
      spells = begins-spells;
      inside = end-inside;
      cells = d.cells;
      zeros = λ n h. cell_below d.kept n h ∙ g.zeros n h;
      room = omega (arith, d.kept.long, g.values-room);
    }

    foretold : (code' values' : List ℕ) (r : Option ℕ) → RoutinesKnown W g.m g.stands.form.end code values₁ at code' values' r → Foretells text code values code' values' r g.stands.words g.m
    foretold code' values' r k = record {
      tables = k.tables;
      filled = record { zeros = k.filled.zeros; beyond = k.filled.beyond ∙ d.kept.above; long = k.filled.long ∙ d.kept.long };
      heads = k.heads;
      marked = marked-wider k.marked 2 g.stands.words (omega (arith, begin-behind, d.next)) (omega (arith, g.stands.form.after));
      main = k.main;
    }

module _ (text code values : List ℕ) (g : Begins text code values) (values₁ : List ℕ) (at : ℕ) (d : Data code values 2 values₁ at) where
  known : (g : Begins text code values) → DataKnown (words_in text) g.m.declared g.stands.form.begin values values₁ at
  unfolding read-data
  known g = d.is (read-data g)

  pub routines-asked : RoutinesStand text code values₁ at
  routines-asked = read-routines g values₁ at (known g)

  pub read_done : (code' values' : List ℕ) (r : Option ℕ) → Routines text code values₁ at code' values' r → Reads text code values code' values' r
  unfolding read-routines
  read_done code' values' r k = record { is = λ g. foretold g values₁ at (known g) code' values' r (k.is (read-routines g values₁ at (known g))) }
