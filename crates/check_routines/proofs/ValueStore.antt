-- The value store between the module's scope and a routine's.
use mathlib.Core.Path.{◌≡◌, refl, sym, ap, subst, ◌∙◌}
use mathlib.Core.Bool.{Bool, true, false}
use mathlib.Core.List.{List, []}
use Prim.Native.Nat.{ℕ, ◌≤◌}
use native.Mathlib.Omega.{arith}
use lib.ListN.{length, get_or}
use mir.Syntax.{w32}
use mir.Val.{to_z}
use Rattle.std.specs.Prelude.{if◌then◌else◌}
use Rattle.paper.specs.Words.{Word}
use Rattle.paper.specs.Terms.{Ref, of_module, of_routine, Memory, load}
use Rattle.paper.specs.Trees.{Module}
use Rattle.paper.specs.Names.{Meaning, is_among, meaning}
use Rattle.paper.specs.Declarations.{Data, no_data, data_texts, routine_names, module_filling, module_data, module_scopes, routine_filling}
use Rattle.store_cells.specs.Cells.{cells_of}
use Rattle.code.specs.Cells.{first_window, errno_cell}
use Rattle.code.specs.Steps.{numbered}
use Rattle.check_names.specs.Meanings.{Means}
use Rattle.check_names.specs.Promises.{store_bytes}
use Rattle.check_expressions.specs.Known.{largest, InRoom, HeldSlots, Held, nothing, words, number, held_by, Holds, Within}
use Rattle.check_expressions.proofs.NamesHeld.{holds, room-more, room-one}
use Rattle.check_constants.specs.Answers.{cell_of, Worth, Fine}
use Rattle.check_heads.specs.Trees.{heads_for}
use Rattle.check_statements.specs.Answers.{SameValues}
use Rattle.check_sites.specs.Sites.{Site, the_module, a_routine, filling, own_of, scopes_of, memory_of, Among, InPlace, Placed, is_own, owned, Filled}
use Rattle.check_leaving.specs.Answers.{SameWords}
use Rattle.check_routines.specs.Answers.{ModuleFilled}

-- ---- meanings by their words
-- with no words of a routine no name means one
not_own : (M : Memory) (r : Ref) → M.routine-words ≡ [] → Among M r 1 → is_own 1 r ≡ false
unfolding is_own InRoom
not_own M (of_module k) e a = refl
not_own M (of_routine k) e a = absurd (omega (arith, ap length e))

pub none_owned : (M : Memory) (m : Meaning) → M.routine-words ≡ [] → Placed M m → owned 1 m ≡ false
unfolding owned Placed
none_owned M m e = by-held (held_by m)
  where
    by-declared : {b : Bool} (declared : Bool) → b ≡ false → (if declared then b else false) ≡ false
    by-declared true q = q
    by-declared false q = refl

    by-held : (a : Held) → Holds (InPlace M) (λ k. k ≤ largest) a
        → (elim a [ nothing ↦ false | words w ↦ if w.declared then is_own 1 w.first else false | number k ↦ false ]) ≡ false
    by-held nothing p = refl
    by-held (words w) p = by-declared w.declared (not_own M w.first e (room-one _ _ w.first w.size p.some p.room))
    by-held (number k) p = refl

-- a name's words are words of the module, or of the routine, which may get more
pub within-placed : (M : Memory) (q : ℕ) (m : Meaning) → length M.routine-words ≤ q → Placed M m → Within (length M.module-words) q m
unfolding Placed Within
within-placed M q m h = holds (held_by m) (λ w p. room-more _ _ q w.first w.size h p.room) (λ k g. g)

pub fine-placed : (M : Memory) (X : List ℕ) → ((r : Ref) → Among M r 1 → to_z w32 (get_or X (cell_of r) 0) ≡ load M r) → (q : ℕ) (m : Meaning) → length M.routine-words ≤ q → Placed M m
    → Fine (length M.module-words) q X M m
unfolding Placed Fine
fine-placed M X c q m h = holds (held_by m) fine (λ k g. g)
  where
    fine : (w : HeldSlots) → InPlace M w → w.fixed ≡ true → Worth (length M.module-words) q X M w.first
    fine w p e =
        let room = room-one _ _ w.first w.size p.some p.room in
        record { room = room-more _ _ q w.first 1 h room; is = c w.first room; ranged = p.ranged e }

-- ---- cells that are as they were
pub filled-same : (W : List Word) (routine : ℕ → ℕ) (s : Site) (D : Data) (values values' : List ℕ) → SameValues values values' → Filled W routine s D values → Filled W routine s D values'
filled-same W routine s D values values' q f = record {
  table = omega (arith, q.long, f.table);
  means = subst (Means routine W (scopes_of W s D)) (sym q.words) f.means;
  owns = f.owns;
  placed = f.placed;
  cells = λ r a. ap (λ (X : List ℕ). to_z w32 (get_or X (cell_of r) 0)) q.words ∙ f.cells r a;
  most = f.most;
  window = f.window;
  errno = ap (λ (X : List ℕ). get_or X errno_cell 0) q.words ∙ f.errno;
  small = f.small;
}

-- ---- entering a routine
module _ (W : List Word) (m : Module) where
  pub routine-entered : (values : List ℕ) → ModuleFilled W m values → Filled W (numbered (heads_for m.routines)) (a_routine m) no_data values
  unfolding filling module_filling routine_filling module_scopes own_of is_among
  routine-entered values f = record {
    table = f.table;
    means = f.means;
    owns = record { is = λ u h. sym (none_owned (memory_of W (a_routine m) no_data) (meaning (scopes_of W (a_routine m) no_data) u) refl (f.placed u)) };
    placed = f.placed;
    cells = f.cells;
    most = f.most;
    window = omega arith;
    errno = f.errno;
    small = f.small;
  }

  -- ---- and leaving it
  module-cells : (E : Data) (values values' : List ℕ) → length (module_data W m).words ≤ first_window → Filled W (numbered (heads_for m.routines)) (a_routine m) E values → SameWords values values'
      → (r : Ref) → Among (memory_of W (the_module (routine_names W (data_texts W m.declared) 0 m.routines)) (module_data W m)) r 1
      → to_z w32 (get_or (cells_of values') (cell_of r) 0) ≡ load (memory_of W (the_module (routine_names W (data_texts W m.declared) 0 m.routines)) (module_data W m)) r
  unfolding filling module_filling routine_filling InRoom cell_of load
  module-cells E values values' most e s (of_module k) a = ap (to_z w32) (s.is k (omega arith)) ∙ e.cells (of_module k) a
  module-cells E values values' most e s (of_routine k) a = absurd (omega arith)

  pub routine-left : (E : Data) (values middle values' : List ℕ) → ModuleFilled W m values → Filled W (numbered (heads_for m.routines)) (a_routine m) E middle → store_bytes ≤ length values' → SameWords middle values'
      → Means (numbered (heads_for m.routines)) W (scopes_of W (a_routine m) no_data) (cells_of values') → ModuleFilled W m values'
  unfolding filling module_filling routine_filling module_scopes
  routine-left E values middle values' f e long s t = record {
    table = long;
    means = t;
    owns = f.owns;
    placed = f.placed;
    cells = module-cells E middle values' f.most e s;
    most = f.most;
    window = f.window;
    errno = s.is errno_cell (omega arith) ∙ e.errno;
    small = f.small;
  }
