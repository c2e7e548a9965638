-- A walk over declarations: what is left of them.
use mathlib.Core.Path.{◌≡◌, refl, sym, ap, subst, ◌∙◌}
use mathlib.Core.Bool.{true, Bool, false}
use mathlib.Core.List.{List, []}
use Prim.Native.Nat.{ℕ, ◌+◌, ◌-◌, ◌*◌, ◌<◌, ◌≤◌}
use native.Mathlib.Omega.{arith}
use lib.ListN.{length, get_or}
use Rattle.paper.specs.Expressions.{starts_data}
use Rattle.store_cells.specs.Cells.{cells_of}
use Rattle.code.specs.Cells.{op_at}
use Rattle.check_names.specs.declared.Scope.{Scope}
use Rattle.paper.specs.Words.{Word, word_limit}
use Rattle.paper.specs.Trees.{Declared}
use Rattle.paper.specs.Names.{sort_in}
use Rattle.paper.specs.Types.{Fault}
use Rattle.paper.specs.Declarations.{Data, no_data, declare_data, module_filling, module_word_limit}
use Rattle.grammar.specs.Form.{Parses, DeclaredAt, DeclarationsAt}
use Rattle.grammar.proofs.Inversions.{NextOf, repeated-next, repeated-none}
use Rattle.grammar.proofs.Places.{declared-grows, declarations-grow}
use Rattle.faults.specs.First.{First}
use Rattle.faults.specs.Added.{data_faults}
use Rattle.faults.proofs.Expressions.{grows}
use Rattle.faults.proofs.Declarations.{data-on, data-found}
use Rattle.check_expressions.specs.Known.{Loaded}
use Rattle.check_expressions.proofs.Starts.{loaded-part}
use Rattle.check_names.specs.Scopes.{Walked}
use Rattle.std.specs.Prelude.{Ok, Err}
use Rattle.layout.specs.Broken.{as_fault}
use Rattle.layout.specs.declared.rules.Breach.{Breach}
use Rattle.check_sites.specs.Sites.{Site, the_module, filling, own_of, Filled}
use Rattle.check_datum.specs.Answers.{Begins, after, faults_of, Goes, Says, Declares, Near}
use Rattle.check_declarations.specs.Answers.{DataStand, SaysModule, DeclaresModule}
use Rattle.check_datum.proofs.Contents.{near}
use Rattle.check_sites.proofs.WordsKept.{loaded-changed}

-- ---- what is left of declarations `ds` up to word `to`, of which D₀ is declared before them
pub record Walk (W : List Word) (routine : ℕ → ℕ) (s : Site) (D₀ : Data) (ds : List Declared) (to : ℕ) (code values : List ℕ) (i used : ℕ) : Type 0 where
  pub D : Data
  pub rest : List Declared
  pub left : declare_data W (filling W s) ds D₀ ≡ declare_data W (filling W s) rest D
  pub faults-left : data_faults W (filling W s) ds D₀ ≡ data_faults W (filling W s) rest D
  pub used-is : used ≡ length D.words
  pub filled : Filled W routine s D values
  pub stand : DeclarationsAt (sort_in W) (Parses (sort_in W)) rest i to
  pub loaded : Loaded W code i to

module _ {W : List Word} {routine : ℕ → ℕ} {s : Site} {D₀ : Data} {ds : List Declared} {to : ℕ} {code values : List ℕ} {i used : ℕ} (w : Walk W routine s D₀ ds to code values i used) where
  pub on : i ≤ to
  on = declarations-grow (sort_in W) (Parses (sort_in W)) (grows W) w.stand

  pub walk-room : i * 8 + 8 ≤ length code
  walk-room = omega (arith, on, w.loaded.room)

  pub walk-near : i < word_limit
  walk-near = omega (arith, on, w.loaded.last)

  -- the word at hand
  pub sort-here : (k : ℕ) → k ≡ op_at (cells_of code) i → sort_in W i ≡ k
  sort-here k e = sym (e ∙ (w.loaded.words i (omega arith) on).sort)

  module _ (starts : starts_data (sort_in W i) ≡ true) where
    pub next : NextOf (sort_in W) (DeclaredAt (sort_in W) (Parses (sort_in W))) starts_data w.rest i to
    next = repeated-next (sort_in W) (DeclaredAt (sort_in W) (Parses (sort_in W))) w.stand starts

    pub next-on : next.n ≤ to
    next-on = declarations-grow (sort_in W) (Parses (sort_in W)) (grows W) next.more

    pub next_grows : i < next.n
    next_grows = declared-grows (sort_in W) (Parses (sort_in W)) (grows W) next.a i next.n next.one

    module _ {own limit : ℕ} (own_is : own ≡ own_of s) (limit_is : limit ≡ (filling W s).limit) where
      -- the next declaration
      abbrev pub walk_begins : Begins code values own limit used i
      walk_begins = record {
        W = W;
        routine = routine;
        s = s;
        D = w.D;
        x = next.a;
        to = next.n;
        own_is = own_is;
        limit_is = limit_is;
        used-is = w.used-is;
        filled = w.filled;
        stands = next.one;
        loaded = loaded-part W code i to i next.n w.loaded (omega arith) next-on;
      }

      pub walk-found : (f : Fault) → First f (faults_of walk_begins) → First f (data_faults W (filling W s) ds D₀)
      walk-found f h =
          subst (First f) (sym (w.faults-left ∙ ap (λ (l : List Declared). data_faults W (filling W s) l w.D) next.is))
          (data-found W (filling W s) w.D next.one next.more h)

      unfoldable pub walk-on : (code' values' : List ℕ) (n used' : ℕ) → length code' ≡ length code → ((k : ℕ) → next.n * 2 ≤ k → get_or (cells_of code') k 0 ≡ get_or (cells_of code) k 0)
          → faults_of walk_begins ≡ [] → n ≡ next.n → used' ≡ length (after walk_begins).words → Filled W routine s (after walk_begins) values' → Walk W routine s D₀ ds to code' values' n used'
      unfolding declare_data
      walk-on code' values' n used' long same none n-is used-is filled =
          let l = loaded-changed W code code' next.n next.n to long same (omega arith) (loaded-part W code i to next.n to w.loaded (omega (arith, next_grows)) (omega arith)) in
          record {
            D = after walk_begins;
            rest = next.rest;
            left = w.left ∙ ap (λ (r : List Declared). declare_data W (filling W s) r w.D) next.is;
            faults-left = w.faults-left ∙ ap (λ (r : List Declared). data_faults W (filling W s) r w.D) next.is ∙ data-on W (filling W s) next.a next.rest w.D none;
            used-is = used-is;
            filled = filled;
            stand = subst (λ (k : ℕ). DeclarationsAt (sort_in W) (Parses (sort_in W)) next.rest k to) (sym n-is) next.more;
            loaded = subst (λ (k : ℕ). Loaded W code' k to) (sym n-is) l;
          }

  -- nothing is left
  module _ (stops : starts_data (sort_in W i) ≡ false) where
    pub done_none : data_faults W (filling W s) ds D₀ ≡ []
    unfolding data_faults
    done_none = w.faults-left ∙ ap (λ (r : List Declared). data_faults W (filling W s) r w.D) (repeated-none (sort_in W) (DeclaredAt (sort_in W) (Parses (sort_in W))) w.stand stops).0

    pub done-is : declare_data W (filling W s) ds D₀ ≡ w.D
    unfolding declare_data
    done-is = w.left ∙ ap (λ (r : List Declared). declare_data W (filling W s) r w.D) (repeated-none (sort_in W) (DeclaredAt (sort_in W) (Parses (sort_in W))) w.stand stops).0

    pub done_at : to ≡ i
    done_at = (repeated-none (sort_in W) (DeclaredAt (sort_in W) (Parses (sort_in W))) w.stand stops).1

    pub done-rest : w.rest ≡ []
    done-rest = (repeated-none (sort_in W) (DeclaredAt (sort_in W) (Parses (sort_in W))) w.stand stops).0

pub says-goes : {code values : List ℕ} {own limit used i : ℕ} (b : Begins code values own limit used i) (code' values' : List ℕ) (r : Walked) (n : ℕ) (scope : Scope) → r ≡ Ok (n, scope) → Says b code' values' r → Goes b code' values' n scope.used
unfolding Says
says-goes b code' values' r n scope q h = subst (Says b code' values') q h

pub says-faulty : {code values : List ℕ} {own limit used i : ℕ} (b : Begins code values own limit used i) (code' values' : List ℕ) (r : Walked) (broken : Breach) → r ≡ Err broken → Says b code' values' r
    → First (as_fault broken) (faults_of b)
unfolding Says
says-faulty b code' values' r broken q h = subst (Says b code' values') q h

-- ---- the module's data
pub record ModuleWalk (code₀ values₀ : List ℕ) (at : ℕ) (code values : List ℕ) (i used : ℕ) : Type 0 where
  pub long : length code ≡ length code₀
  pub long-values : length values ≡ length values₀
  pub walks : (b : DataStand code₀ values₀ at) → Walk b.W b.routine (the_module b.routines) no_data b.ds b.to code values i used
  pub begun : at ≤ i
  pub below : (k : ℕ) → k < at * 2 → get_or (cells_of code) k 0 ≡ get_or (cells_of code₀) k 0
  pub above : (k : ℕ) → i * 2 ≤ k → get_or (cells_of code) k 0 ≡ get_or (cells_of code₀) k 0

pub module-begun : (code values : List ℕ) (at used : ℕ) → used ≡ 0 → ModuleWalk code values at code values at used
module-begun code values at used u = record {
  long = refl;
  long-values = refl;
  walks = λ b. record { D = no_data; rest = b.ds; left = refl; faults-left = refl; used-is = u; filled = b.filled; stand = b.stand; loaded = b.loaded };
  begun = omega arith;
  below = λ k h. refl;
  above = λ k h. refl;
}

module _ (code₀ values₀ : List ℕ) (at : ℕ) (code values : List ℕ) (i used : ℕ) (m : ModuleWalk code₀ values₀ at code values i used) where
  pub module-room : DataStand code₀ values₀ at → i * 8 + 8 ≤ length code
  module-room b = walk-room (m.walks b)

  pub module-long : length code ≡ length code₀
  module-long = m.long

  pub module-long-values : length values ≡ length values₀
  module-long-values = m.long-values

  module _ (s : ℕ) (s-is : s ≡ op_at (cells_of code) i) (t : Bool) (t-is : t ≡ starts_data s) where
    starts_is : (b : DataStand code₀ values₀ at) → starts_data (sort_in b.W i) ≡ t
    starts_is b = ap starts_data (sort-here (m.walks b) s s-is) ∙ sym t-is

    module _ (yes : t ≡ true) where
      own-here : (b : DataStand code₀ values₀ at) → 0 ≡ own_of (the_module b.routines)
      unfolding own_of
      own-here b = refl

      limit-here : (b : DataStand code₀ values₀ at) → module_word_limit ≡ (filling b.W (the_module b.routines)).limit
      unfolding filling module_filling
      limit-here b = refl

      abbrev begins : (b : DataStand code₀ values₀ at) → Begins code values 0 module_word_limit used i
      begins b = walk_begins (m.walks b) (starts_is b ∙ yes) (own-here b) (limit-here b)

      pub module-datum : DataStand code₀ values₀ at → Begins code values 0 module_word_limit used i
      module-datum b = begins b

      pub module-near : DataStand code₀ values₀ at → Near code values 0 module_word_limit used i
      module-near b = near (begins b)

      module _ (code' values' : List ℕ) (r : Walked) (d : Declares code values code' values' 0 module_word_limit used i r) where
        pub module-faulty : (broken : Breach) → r ≡ Err broken → DeclaresModule code₀ values₀ code' values' at (Err broken)
        unfolding SaysModule
        module-faulty broken q = record {
          is = λ b. walk-found (m.walks b) (starts_is b ∙ yes) (own-here b) (limit-here b) (as_fault broken) (says-faulty (begins b) code' values' r broken q (d.is (begins b)));
        }

        module _ (next : ℕ) (scope : Scope) (q : r ≡ Ok (next, scope)) where
          abbrev used' : ℕ
          used' = scope.used

          goes : (b : DataStand code₀ values₀ at) → Goes (begins b) code' values' next used'
          goes b = says-goes (begins b) code' values' r next scope q (d.is (begins b))

          -- the words left fall
          module-less : DataStand code₀ values₀ at → (i < next) × (next < word_limit)
          module-less b =
              let n = (goes b).next-is in
              let g = next_grows (m.walks b) (starts_is b ∙ yes) in
              let h = next-on (m.walks b) (starts_is b ∙ yes) in
              let l = (m.walks b).loaded.last in
              (omega (arith, n, g), omega (arith, n, h, l))

          pub module-falls : DataStand code₀ values₀ at → word_limit - next < word_limit - i
          module-falls b = omega (arith, (module-less b).0, (module-less b).1)

          pub module-on : DataStand code₀ values₀ at → length code' ≡ length code → length values' ≡ length values → ModuleWalk code₀ values₀ at code' values' next used'
          module-on b₀ long long-values = record {
            long = long ∙ m.long;
            long-values = long-values ∙ m.long-values;
            walks = λ b. let g = goes b in walk-on (m.walks b) (starts_is b ∙ yes) (own-here b) (limit-here b) code' values' next used' long g.changed.above g.none g.next-is g.used-is g.filled;
            begun = omega (arith, m.begun, (module-less b₀).0);
            below = λ k h. (goes b₀).changed.below k (omega (arith, m.begun)) ∙ m.below k h;
            above = λ k h. (goes b₀).changed.above k (omega (arith, (goes b₀).next-is)) ∙ m.above k (omega (arith, (module-less b₀).0));
          }

    pub module-done : t ≡ false → (scope : Scope) → scope.used ≡ used → DeclaresModule code₀ values₀ code values at (Ok (i, scope))
    unfolding SaysModule
    module-done ended scope u = record {
      is = λ b.
          let w = m.walks b in
          let e = starts_is b ∙ ended in
          record {
            none = done_none w e;
            next-is = sym (done_at w e);
            used-is = u ∙ w.used-is ∙ sym (ap (λ (D : Data). length D.words) (done-is w e));
            filled = subst (λ (D : Data). Filled b.W b.routine (the_module b.routines) D values) (sym (done-is w e)) w.filled;
            changed = record { below = m.below; above = λ k h. m.above k (omega (arith, done_at w e)) };
          };
    }
