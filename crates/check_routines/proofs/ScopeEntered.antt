-- The scope of a routine: its parameters and data are declared, its lists are checked.
use mathlib.Core.Path.{◌≡◌, sym, ap, subst, ◌∙◌}
use mathlib.Core.Bool.{false}
use mathlib.Core.List.{List, [], ◌++◌, map}
use Prim.Native.Nat.{ℕ, ◌+◌, ◌*◌, ◌%◌, ◌<◌, ◌≤◌}
use native.Mathlib.Omega.{arith}
use lib.ListN.{length, get_or, replicate, length-replicate}
use lib.IntN.{pos}
use Rattle.paper.specs.Words.{Word, word_limit}
use Rattle.paper.specs.Trees.{Routine, Module}
use Rattle.paper.specs.Names.{Text, text_of, sort_in, spelled, is_among}
use Rattle.paper.specs.Declarations.{Data, no_data, Signature, declare_parameters, routine_filling, routine_data, signatures}
use Rattle.paper.specs.Checks.{routine_faults}
use Rattle.store_cells.specs.Cells.{cells_of}
use Rattle.code.specs.Cells.{op_in, value_in, place_in, head_at}
use Rattle.code.specs.Steps.{Head, numbered}
use Rattle.check_names.specs.Promises.{number_limit}
use Rattle.grammar.specs.Form.{Parses, ParametersAt, DeclarationsAt, RoutineAt}
use Rattle.grammar.proofs.Places.{parameters-grow, declarations-grow}
use Rattle.faults.specs.First.{First}
use Rattle.faults.specs.Parts.{in_parameters, in_data}
use Rattle.faults.proofs.Expressions.{grows}
use Rattle.faults.proofs.Routines.{found-in-parameters, found-in-data, nothing-in-data}
use Rattle.check_expressions.specs.Known.{Fresh}
use Rattle.check_heads.specs.Trees.{heads_for}
use Rattle.check_sites.specs.Sites.{a_routine, filling, Filled}
use Rattle.store_writing.specs.Chains.{Chain, starts_in, Rise}
use Rattle.check_sites.specs.Walks.{name_of, name_words, KeepsAll}
use Rattle.check_declarations.specs.Answers.{first_of, CoversData, RoutineStands, SaysRoutine, DeclaresRoutine}
use Rattle.check_parameters.specs.Answers.{OtherWords, ParametersStand, SaysParameters, DeclaresParameters}
use Rattle.check_program.proofs.Orders.{lies}
use Rattle.check_names.specs.declared.Scope.{Scope}
use Rattle.check_routines.specs.Answers.{ground_of, Spares, Begins}
use Rattle.layout.specs.declared.types.ValueType.{ValueType}
use Rattle.check_routines.specs.Parts.{Inside, Onward, ListsStand, ScopeStands}
use Rattle.check_routines.proofs.ValueStore.{routine-entered}
use Rattle.check_routines.proofs.ParametersAndData.{parameters-end}
use Rattle.std.specs.Prelude.{Option, Ok, Err}
use Rattle.layout.specs.Broken.{as_fault}
use Rattle.layout.specs.declared.rules.Breach.{Breach}

fresh_on : (W : List Word) (C D : List ℕ) (i : ℕ) → head_at D i ≡ head_at C i → Fresh W C i → Fresh W D i
fresh_on W C D i e z = record { sort = ap op_in e ∙ z.sort; value = λ n. ap value_in e ∙ z.value n; number = λ n. ap (λ (w : ℕ). value_in w % number_limit) e ∙ z.number n }

module _ (text code values : List ℕ) (result : Option ValueType) (h name : ℕ) where
  module _ (g : ScopeStands text code values result h name) where
    abbrev b : Begins text code values g.k h
    b = g.begins

    abbrev W : List Word
    W = b.stands.W

    abbrev m : Module
    m = b.stands.m

    abbrev r : Routine
    r = b.stands.r

    abbrev R : List Head
    R = heads_for m.routines

    abbrev sigs : List Signature
    sigs = signatures W m 0 m.routines

    abbrev form : RoutineAt (sort_in W) (Parses (sort_in W)) r h b.stands.to
    form = b.stands.form

    abbrev D₁ : Data
    D₁ = declare_parameters W (routine_filling W m) r.parameters no_data

    -- ---- where the parts lie
    pub record Order : Type 0 where
      pub head : h < name
      pub opens : name + 2 ≤ form.close
      pub types : name + 2 + 3 * length r.parameters ≤ form.close + 1
      pub close : form.close + 1 ≤ form.begin
      pub body : form.begin ≤ r.body.closes
      pub end : r.body.closes ≤ form.end
      pub after : b.stands.to ≡ form.end + 1
      pub last : form.end < word_limit
      pub room : form.end * 8 + 8 ≤ length code

    pub order : Order
    order =
        let o = lies W form in
        let p = parameters-grow (sort_in W) (Parses (sort_in W)) (grows W) form.parameters in
        let d = declarations-grow (sort_in W) (Parses (sort_in W)) (grows W) form.declared in
        let e = parameters-end (sort_in W) form.parameters in
        record {
          head = omega (arith, g.name-is, o.name);
          opens = omega (arith, g.name-is);
          types = omega (arith, g.name-is);
          close = d;
          body = o.body;
          end = omega (arith, o.handler, o.end);
          after = o.after;
          last = b.unread.loaded.last;
          room = b.unread.loaded.room;
        }

    -- ---- parameters
    pub parameters-stand : ParametersStand code values (name + 2)
    parameters-stand = record {
      W = W;
      routine = numbered R;
      m = m;
      ps = r.parameters;
      to = form.close;
      filled = routine-entered W m values b.filled;
      stand = subst (λ (a : ℕ). ParametersAt (sort_in W) (Parses (sort_in W)) r.parameters (a + 2) form.close) (sym g.name-is) form.parameters;
      loaded = let o = order in record {
        words = λ i x y. b.unread.loaded.words i (omega arith) (omega arith);
        last = omega arith;
        whole = b.unread.loaded.whole;
        room = omega arith;
      };
    }

    pub parameters-faulty : (code₁ values₁ : List ℕ) (broken : Breach) → DeclaresParameters code values code₁ values₁ (name + 2) (Err broken)
        → First (as_fault broken) (routine_faults W m sigs g.k r)
    unfolding SaysParameters parameters-stand filling
    parameters-faulty code₁ values₁ broken x = found-in-parameters W m sigs g.k form (x.is parameters-stand)

    module _ (code₁ values₁ : List ℕ) (close : ℕ) (own : Scope) (x₁ : DeclaresParameters code values code₁ values₁ (name + 2) (Ok (close, own))) (long₁ : length code₁ ≡ length code) where
      pub record Entered : Type 0 where
        pub close-is : close ≡ form.close
        pub count-is : own.used ≡ length r.parameters
        pub none : in_parameters W m r ≡ []
        pub words : D₁.words ≡ replicate (length r.parameters) (pos 0)
        pub filled : Filled W (numbered R) (a_routine m) D₁ values₁
        pub keeps : KeepsAll (numbered R) W (a_routine m) (cells_of code₁) (name_words (name + 2) own.used)
        pub covers : (u : Text) → is_among (map (spelled W) (name_words (name + 2) own.used)) u ≡ false → is_among (map text_of D₁.names) u ≡ false
        pub others : OtherWords (cells_of code) (cells_of code₁) (name + 2) own.used

      pub entered : Entered
      unfolding SaysParameters parameters-stand filling
      entered =
          let p = x₁.is parameters-stand in
          record { close-is = p.next-is; count-is = p.used-is; none = p.none; words = p.words_are; filled = p.filled; keeps = p.keeps; covers = p.covers; others = p.others }

      low₁ : (i : ℕ) → i < (name + 3) * 2 → get_or (cells_of code₁) i 0 ≡ get_or (cells_of code) i 0
      low₁ i l = entered.others.is i (λ j a e. omega arith)

      high₁ : (i : ℕ) → form.close * 2 ≤ i → get_or (cells_of code₁) i 0 ≡ get_or (cells_of code) i 0
      high₁ i l = let o = order in let n = entered.count-is in entered.others.is i (λ j a e. omega arith)

      type₁ : (j : ℕ) → head_at (cells_of code₁) (name + 2 + 3 * j) ≡ head_at (cells_of code) (name + 2 + 3 * j)
      type₁ j = entered.others.is ((name + 2 + 3 * j) * 2) (λ i a e. omega arith)

      -- ---- data
      pub data-stand : RoutineStands code₁ values₁ h own.used (close + 1)
      unfolding filling
      data-stand = let o = order in let c = entered.close-is in record {
        W = W;
        routine = numbered R;
        m = m;
        D = D₁;
        ds = r.declared;
        to = form.begin;
        used-is = entered.count-is ∙ sym (ap length entered.words ∙ length-replicate (length r.parameters) (pos 0));
        before = omega arith;
        filled = entered.filled;
        stand = subst (λ (a : ℕ). DeclarationsAt (sort_in W) (Parses (sort_in W)) r.declared (a + 1) form.begin) (sym c) form.declared;
        loaded = record {
          words = λ i x y. fresh_on W (cells_of code) (cells_of code₁) i (high₁ (i * 2) (omega arith)) (b.unread.loaded.words i (omega arith) (omega arith));
          last = omega arith;
          whole = ap (λ (x : ℕ). x % 8) long₁ ∙ b.unread.loaded.whole;
          room = omega arith;
        };
      }

      pub data-faulty : (code₂ values₂ : List ℕ) (broken : Breach) → DeclaresRoutine code₁ values₁ code₂ values₂ (name + 1) h own.used (close + 1) (Err broken)
          → First (as_fault broken) (routine_faults W m sigs g.k r)
      unfolding SaysRoutine data-stand filling
      data-faulty code₂ values₂ broken x = found-in-data W m sigs g.k form entered.none (x.is data-stand)

      module _ (code₂ values₂ : List ℕ) (at : ℕ) (taken : Scope) (x₂ : DeclaresRoutine code₁ values₁ code₂ values₂ (name + 1) h own.used (close + 1) (Ok (at, taken))) (long₂ : length code₂ ≡ length code) where
        abbrev ds : List ℕ
        ds = map first_of r.declared

        pub record Declared : Type 0 where
          pub at-is : at ≡ form.begin
          pub none : in_data W m r ≡ []
          pub taken_is : taken.used ≡ length (routine_data W m r).words
          pub filled : Filled W (numbered R) (a_routine m) (routine_data W m r) values₂
          pub chain : Chain (cells_of code₂) h ds (name + 1)
          pub rises : Rise h form.begin ds
          pub words : (routine_data W m r).words ≡ D₁.words ++ starts_in (cells_of code₂) ds
          pub keeps : KeepsAll (numbered R) W (a_routine m) (cells_of code₂) (map name_of ds)
          pub covers : CoversData W D₁ (routine_data W m r) r.declared
          pub below : (i : ℕ) → i < (close + 1) * 2 → (i ≡ h * 2 + 1 → ⊥) → get_or (cells_of code₂) i 0 ≡ get_or (cells_of code₁) i 0
          pub above : (i : ℕ) → form.begin * 2 ≤ i → get_or (cells_of code₂) i 0 ≡ get_or (cells_of code₁) i 0

        pub declared : Declared
        unfolding SaysRoutine data-stand filling routine_data
        declared =
            let p = x₂.is data-stand in
            record {
              at-is = p.next-is;
              none = p.none;
              taken_is = p.used-is;
              filled = p.filled;
              chain = p.chain;
              rises = p.rises;
              words = p.words_are;
              keeps = p.keeps;
              covers = p.covers;
              below = p.below;
              above = p.above;
            }

        -- words up to the parenthesis have changed but for a link
        pub low₂ : (i : ℕ) → i < (name + 3) * 2 → i < (form.close + 1) * 2 → (i ≡ h * 2 + 1 → ⊥) → get_or (cells_of code₂) i 0 ≡ get_or (cells_of code) i 0
        low₂ i l c d = let e = entered.close-is in declared.below i (omega arith) d ∙ low₁ i l

        pub high₂ : (i : ℕ) → form.begin * 2 ≤ i → get_or (cells_of code₂) i 0 ≡ get_or (cells_of code) i 0
        high₂ i l = let o = order in declared.above i l ∙ high₁ i (omega arith)

        pub type₂ : (j : ℕ) → j < length r.parameters → head_at (cells_of code₂) (name + 2 + 3 * j) ≡ head_at (cells_of code) (name + 2 + 3 * j)
        type₂ j l = let o = order in let e = entered.close-is in declared.below ((name + 2 + 3 * j) * 2) (omega arith) (λ q. omega arith) ∙ type₁ j

        -- callers read what they read
        pub spares-from : (D : List ℕ) → ((i : ℕ) → i ≤ name → head_at D i ≡ head_at (cells_of code₂) i)
            → ((j : ℕ) → j < length r.parameters → head_at D (name + 2 + 3 * j) ≡ head_at (cells_of code₂) (name + 2 + 3 * j)) → ((i : ℕ) → b.stands.to ≤ i → head_at D i ≡ head_at (cells_of code₂) i)
            → Spares (cells_of code) D r h b.stands.to
        spares-from D low types high = let o = order in record {
          below = λ i l. low i (omega arith) ∙ low₂ (i * 2) (omega arith) (omega arith) (λ q. omega arith);
          above = λ i l. high i l ∙ high₂ (i * 2) (omega arith);
          first = low h (omega arith) ∙ low₂ (h * 2) (omega arith) (omega arith) (λ q. omega arith);
          second = low (h + 1) (omega arith) ∙ low₂ ((h + 1) * 2) (omega arith) (omega arith) (λ q. omega arith);
          types = λ j l. subst (λ (n : ℕ). head_at D (n + 2 + 3 * j) ≡ head_at (cells_of code) (n + 2 + 3 * j)) g.name-is (types j l ∙ type₂ j l);
        }

        unfoldable pub inside : Inside text values₂ g.k h
        inside = record { stands = b.stands; filled = declared.filled; none = nothing-in-data W m r entered.none declared.none; fits = g.fits }

        pub onward : Onward inside code₂ at
        unfolding inside
        onward = let o = order in let a = declared.at-is in record {
          unread = record {
            loaded = record {
              words = λ i x y. fresh_on W (cells_of code) (cells_of code₂) i (high₂ (i * 2) (omega arith)) (b.unread.loaded.words i (omega arith) y);
              last = omega arith;
              whole = ap (λ (x : ℕ). x % 8) long₂ ∙ b.unread.loaded.whole;
              room = omega arith;
            };
            strings = λ i x y z. ap value_in (high₂ (i * 2) (omega arith)) ∙ b.unread.strings i (omega arith) y z;
            places = λ i x y. ap place_in (high₂ (i * 2 + 1) (omega arith)) ∙ b.unread.places i (omega arith) y;
          };
          calls = λ D x. b.calls D (spares-from D (λ i l. x.below i (omega arith)) (λ j l. x.below (name + 2 + 3 * j) (omega arith)) (λ i l. x.above i (omega arith)));
          room = omega (arith, b.room);
        }

        unfoldable pub lists-stand : ListsStand text code₂ values₂ result taken.used h at
        unfolding inside ground_of
        lists-stand = record { k = g.k; inside = inside; begins = declared.at-is; onward = onward; result-is = g.result-is; used-is = declared.taken_is }
