-- The check of names and types: from what loading left to what the walk over the routines asks, and from its answer to what is promised.
use mathlib.Core.Path.{◌≡◌, refl, sym, ap, ap₂, subst, ◌∙◌}
use mathlib.Core.Bool.{true, false}
use mathlib.Core.List.{List, [], ◌∷◌, map}
use mathlib.Core.Option.{none, some}
use mathlib.Core.Option as math
use Prim.Native.Nat.{ℕ, zero, suc, ◌+◌, ◌*◌, ◌-◌, ◌<◌, ◌≤◌}
use native.Mathlib.Omega.{arith}
use lib.ListN.{length, get_or, take}
use lib.IntN.{ℤ, pos}
use mir.Syntax.{w32}
use mir.Val.{to_z}
use borrow.Author.Tests.{eqb-true, lt-ltb}
use Rattle.laws.proofs.Tests.{test, apart, false-true}
use Rattle.std.specs.Prelude.{Ok, Err, Some, None, Option}
use Rattle.paper.specs.Sorts.{equal_texts}
use Rattle.paper.specs.Words.{Word}
use Rattle.paper.specs.Terms.{Ref, of_module, of_routine, Memory, load}
use Rattle.paper.specs.Trees.{Routine, Module}
use Rattle.paper.specs.Expressions.{got}
use Rattle.paper.specs.Form.{formed}
use Rattle.paper.specs.Names.{DataType, Meaning, unknown, the_routine, the_errno, error_number, Text, Names, sort_in, spelled, look_in, protected, is_among, meaning, cannot_declare}
use Rattle.paper.specs.Declarations.{Signature, Data, no_data, data_texts, routine_names, module_filling, module_data, signatures, module_word_limit}
use Rattle.paper.specs.Checks.{no_signature, is_main, main_in, main_of}
use Rattle.paper.specs.Answer.{offset_of}
use Rattle.store_cells.specs.Cells.{cells_of}
use Rattle.store_cells.proofs.Laws.{length-words}
use Rattle.code.specs.Cells.{value_at}
use Rattle.code.specs.Steps.{Head, no_head, numbered}
use Rattle.code.specs.Signatures.{first_parameter, head_in, signature_in, Heads}
use Rattle.code.proofs.Signatures.{types-length}
use Rattle.grammar.specs.Form.{Parses, RoutinesAt, Stands}
use Rattle.grammar.proofs.Reading.{formed-parses}
use Rattle.grammar.proofs.Places.{declarations-grow, routines-grow}
use Rattle.check_load.specs.Layout.{words_in}
use Rattle.check_load.proofs.Bounds.{reading-most}
use Rattle.faults.specs.First.{First}
use Rattle.faults.proofs.Expressions.{grows}
use Rattle.faults.proofs.Declarations.{data-left}
use Rattle.faults.proofs.Routines.{found-in-module}
use Rattle.check_expressions.specs.Known.{InRoom}
use Rattle.check_constants.specs.Answers.{cell_of}
use Rattle.check_heads.specs.Trees.{heads_for}
use Rattle.check_heads.specs.Reads as heads
use Rattle.check_sites.specs.Sites.{the_module, filling, own_of, owned, Placed, scopes_of, memory_of, Filled}
use Rattle.check_declarations.specs.Answers.{DataStand, ModuleFilled, SaysModule, DeclaresModule}
use Rattle.check_around.specs.Around.{Unread, offset_in}
use Rattle.check_names.specs.declared.Scope.{Scope}
use Rattle.check_names.specs.Scopes.{module_scope, Grown, Walked}
use Rattle.check_routines.specs.Answers.{ground_of}
use Rattle.check_whole.specs.Walks.{Formed, Finds, RoutinesStand, RoutinesDone, SaysRoutines, RoutinesWalk, Walks, Found}
use Rattle.check_whole.proofs.Loaded.{module-words, numbers-small, unread-marked, unread-kept, heads-begin}
use Rattle.check_whole.proofs.Signatures.{heads-kept}
use Rattle.layout.specs.Broken.{as_fault}
use Rattle.layout.specs.declared.rules.Breach.{Breach}

-- ---- before any data are declared, no name means data
record Free (M : Memory) (a : Meaning) : Type 0 where
  not-owned : owned 0 a ≡ false
  placed : Placed M a

look-first : (M : Memory) (u t : Text) (a : Meaning) (N : Names) (other : Meaning) → Free M a → Free M (look_in N u other) → Free M (look_in ((t, a) ∷ N) u other)
unfolding look_in
look-first M u t a N other f g = test (equal_texts t u) (λ e. rw (e, look_in) f) (λ e. rw (e, look_in) g)

look_none : (M : Memory) (u : Text) (other : Meaning) → Free M other → Free M (look_in [] u other)
unfolding look_in
look_none M u other f = f

free-routine : (M : Memory) (k : ℕ) → Free M (the_routine k)
unfolding owned Placed
free-routine M k = record { not-owned = refl; placed = tt }

free-unknown : (M : Memory) → Free M unknown
unfolding owned Placed
free-unknown M = record { not-owned = refl; placed = tt }

free-errno : (M : Memory) → Free M the_errno
unfolding owned Placed
free-errno M = record { not-owned = refl; placed = tt }

free-number : (M : Memory) (k : ℕ) → k ≤ 8388608 → Free M (error_number k)
unfolding owned Placed
free-number M k h = record { not-owned = refl; placed = h }

free-routines : (M : Memory) (W : List Word) (u : Text) (earlier : List Text) (k : ℕ) (rs : List Routine) → Free M (look_in (routine_names W earlier k rs) u unknown)
unfolding routine_names look_in
free-routines M W u earlier k [] = free-unknown M
free-routines M W u earlier k (r ∷ rs) =
    test (cannot_declare earlier (spelled W r.name)) (λ e. rw (e, routine_names) (free-routines M W u earlier (suc k) rs))
    (λ e. rw (e, routine_names) (look-first M u (spelled W r.name) (the_routine k) (routine_names W (spelled W r.name ∷ earlier) (suc k) rs) unknown (free-routine M k) (free-routines M W u (spelled W r.name ∷ earlier) (suc k) rs)))

free-protected : (M : Memory) (u : Text) (other : Meaning) → Free M other → Free M (look_in protected u other)
unfolding protected
free-protected M u other f =
    look-first M u _ _ _ other (free-errno M)
    (look-first M u _ _ _ other (free-number M _ (omega arith))
    (look-first M u _ _ _ other (free-number M _ (omega arith))
    (look-first M u _ _ _ other (free-number M _ (omega arith)) (look-first M u _ _ _ other (free-number M _ (omega arith)) (look_none M u other f)))))

-- ---- main
main-is : (W : List Word) (sigs : List Signature) (o : math.Option ℕ) (k : ℕ) → main_in W sigs o ≡ some k → is_main W (get_or sigs k no_signature) ≡ true
unfolding main_in
main-is W sigs none k e = absurd (apart (cc))
main-is W sigs (some j) k e =
    test (is_main W (get_or sigs j no_signature)) (λ t. let q : some j ≡ some k = rw (t, main_in) at e in let s : j ≡ k = cc in subst (λ (i : ℕ). is_main W (get_or sigs i no_signature) ≡ true) s t)
    (λ t. let q : ◌≡◌ {A = math.Option ℕ} none (some k) = rw (t, main_in) at e in absurd (apart (cc)))

no-parameters : (W : List Word) (sig : Signature) → is_main W sig ≡ true → length sig.parameters ≡ 0
unfolding is_main
no-parameters W sig e = go sig.result refl
  where
    go : (o : math.Option DataType) → sig.result ≡ o → length sig.parameters ≡ 0
    go none q = eqb-true (length sig.parameters) 0 (rw (q, is_main) at e)
    go (some t) q = false-true (rw (q, is_main) at e)

-- "main without parameters"
alone_of : (W : List Word) (C : List ℕ) (R : List Head) (sigs : List Signature) → Heads C R sigs → (o : math.Option ℕ) (k : ℕ) → main_in W sigs o ≡ some k → k < length R → (get_or R k no_head).parameters ≡ 0
unfolding head_in signature_in
alone_of W C R sigs x o k e h =
    let s = x.each k h in
    let p = no-parameters W (get_or sigs k no_signature) (main-is W sigs o k e) in
    let w = (get_or R k no_head).word in
    let a : (get_or R k no_head).parameters ≡ value_at C w = ap (λ (q : Head). q.parameters) s.head-is in
    let b : length (get_or sigs k no_signature).parameters ≡ value_at C w = ap (λ (q : Signature). length q.parameters) s.signature-is ∙ types-length C (first_parameter C w) (value_at C w) in
    omega (arith, a, b, p)

-- ---- the module's words
words-from : (l : List ℤ) (X : List ℕ) (n : ℕ) → length l ≡ n → n ≤ length X → ((i : ℕ) → i < n → to_z w32 (get_or X i 0) ≡ get_or l i (pos 0)) → map (to_z w32) (take n X) ≡ l
words-from [] X zero e h f = refl
words-from [] X (suc n) e h f = absurd (omega arith)
words-from (z ∷ l) X zero e h f = absurd (omega arith)
words-from (z ∷ l) [] (suc n) e h f = absurd (omega arith)
words-from (z ∷ l) (x ∷ X) (suc n) e h f = ap₂ (λ (a : ℤ) (b : List ℤ). a ∷ b) (f 0 (omega arith)) (words-from l X n (omega arith) (omega arith) (λ i g. f (suc i) (omega arith)))

offset-same : (text : List ℕ) (i : ℕ) → i < length (words_in text) → offset_in (words_in text) i ≡ offset_of text (words_in text) i
unfolding offset_in offset_of
offset-same text i h = rw (lt-ltb i (length (words_in text)) h, offset_of)

-- what the value store says of the module's data
module _ (W : List Word) (routine : ℕ → ℕ) (known : Names) (D : Data) (values : List ℕ) (x : Filled W routine (the_module known) D values) where
  data-most : length D.words ≤ module_word_limit
  unfolding filling module_filling
  data-most = x.most

  data-words : map (to_z w32) (take (length D.words) (cells_of values)) ≡ D.words
  unfolding filling module_filling InRoom cell_of load
  data-words = words-from D.words (cells_of values) (length D.words) refl (omega (arith, data-most, length-words values, x.table)) (λ i h. x.cells (of_module i) (omega arith))

-- ---- module data come next
module _ (text code values : List ℕ) (words : ℕ) (f : Formed text code values words) (code₁ values₁ : List ℕ) (main : Option ℕ) (reads : heads.Reads text code values code₁ values₁ main) where
  abbrev W : List Word
  W = words_in text

  abbrev m : Module
  m = f.m

  abbrev R : List Head
  R = heads_for f.m.routines

  abbrev known : Names
  known = routine_names (words_in text) (data_texts (words_in text) f.m.declared) 0 f.m.routines

  stands : Stands (sort_in (words_in text)) (Parses (sort_in (words_in text))) f.m
  stands = formed-parses (sort_in (words_in text)) f.m f.form

  foretold : heads.Foretells text code values code₁ values₁ main stands.words f.m
  unfolding heads-begin stands
  foretold = reads.is (heads-begin text code values words f)

  in-order : (2 ≤ stands.form.begin) × (stands.form.begin ≤ stands.form.end)
  in-order = (declarations-grow (sort_in W) (Parses (sort_in W)) (grows W) stands.form.declared, routines-grow (sort_in W) (Parses (sort_in W)) (grows W) stands.form.routines)

  all_words : length W ≡ stands.form.end + 1
  all_words = module-words text m stands

  unread : (to : ℕ) → to < length W → Unread W code₁ 2 to
  unread to h = unread-marked text code values words f.laid code₁ 2 stands.words foretold.marked 2 to h

  free : (M : Memory) (u : Text) → Free M (meaning (scopes_of W (the_module known) no_data) u)
  unfolding meaning filling module_filling
  free M u = free-protected M u _ (look_none M u _ (look_none M u _ (look_none M u _ (free-routines M W u (data_texts W m.declared) 0 m.routines))))

  no-data : Filled W (numbered R) (the_module known) no_data values₁
  unfolding filling module_filling own_of is_among InRoom
  no-data = record {
    table = omega (arith, foretold.filled.long, f.laid.values-room);
    means = foretold.tables.means;
    owns = record { is = λ u p. sym (free (memory_of W (the_module known) no_data) u).not-owned };
    placed = λ u. (free (memory_of W (the_module known) no_data) u).placed;
    cells = λ r a. absurd (none-there r a);
    most = omega arith;
    window = omega arith;
    errno = foretold.filled.zeros 1263 (omega arith);
    small = numbers-small text;
  }
    where
      none-there : (r : Ref) → InRoom 0 0 r 1 → ⊥
      none-there (of_module k) a = omega arith
      none-there (of_routine k) a = omega arith

  pub data-stand : DataStand code₁ values₁ 2
  data-stand = record {
    W = W;
    routine = numbered R;
    routines = known;
    ds = m.declared;
    to = stands.form.begin;
    filled = no-data;
    stand = stands.form.declared;
    loaded = (unread stands.form.begin (omega (arith, in-order.1, all_words))).loaded;
  }

  -- what is promised of this module is promised of any that the words are
  any-module : (r : Found) (code' values' : List ℕ) → Finds text m r code' values' → (n : Module) → formed (sort_in W) ≡ got n → Finds text n r code' values'
  any-module r code' values' x n e =
      let q : got m ≡ got n = sym f.form ∙ e in
      let s : m ≡ n = cc in
      subst (λ (y : Module). Finds text y r code' values') s x

  module _ (code₂ values₂ : List ℕ) (d : Walked) (declares : DeclaresModule code₁ values₁ code₂ values₂ 2 d) where
    says : (q : Walked) → d ≡ q → SaysModule data-stand code₂ values₂ q
    says q e = subst (λ (x : Walked). SaysModule data-stand code₂ values₂ x) e (declares.is data-stand)

    -- a fault in them
    pub data-found : (broken : Breach) → d ≡ Err broken → length code₂ ≡ length code₁ → length values₂ ≡ length values₁ → Walks text code values (Err broken) code₂ values₂
    unfolding SaysModule data-stand module_data filling Finds
    data-found broken e a b = record {
      finds = any-module (Err broken) code₂ values₂ (found-in-module W m stands.form (subst (First (as_fault broken)) (sym (data-left W (module_filling W known) m.declared no_data refl)) (says _ e)));
      code-long = omega (arith, a, foretold.marked.kept.long);
      values-long = omega (arith, b, foretold.filled.long);
    }

    pub one_less : 1 ≤ words
    one_less = omega (arith, f.laid.many, all_words)

    module _ (at : ℕ) (own : Scope) (e : d ≡ Ok (at, own)) where
      filled : ModuleFilled data-stand code₂ values₂ at own.used
      unfolding SaysModule
      filled = says _ e

      last_word : words - 1 ≡ stands.form.end
      last_word = omega (arith, f.laid.many, all_words)

      pub routines-stand : length code₂ ≡ length code₁ → RoutinesStand text code₂ values₂ at (words - 1)
      unfolding data-stand module_data filling filled
      routines-stand long =
          let x = filled in
          let begins : stands.form.begin ≡ at = sym x.next-is in
          let ends : stands.form.end ≡ words - 1 = sym last_word in
          record {
            m = m;
            form = subst (λ (i : ℕ). RoutinesAt (sort_in W) (Parses (sort_in W)) m.routines i (words - 1)) begins (subst (RoutinesAt (sort_in W) (Parses (sort_in W)) m.routines stands.form.begin) ends stands.form.routines);
            none = data-left W (module_filling W known) m.declared no_data refl ∙ x.none;
            filled = x.filled;
            unread = unread-kept W code₁ code₂ 2 at (words - 1) (omega (arith, in-order.0)) (λ k h. x.changed.above k (omega arith)) long (unread (words - 1) (omega (arith, all_words)));
            heads = heads-kept W (cells_of code₁) (cells_of code₂) m.routines stands.form.begin stands.form.end _ stands.form.routines (λ i a. x.changed.above (i * 2) (omega arith)) foretold.heads;
            room = omega (arith, long, foretold.marked.kept.long, f.laid.code-room);
          }

      module _ (long : length code₂ ≡ length code₁) (table-long : length values₂ ≡ length values₁) (code₃ values₃ : List ℕ) (r : Walked) (walk : RoutinesWalk text code₂ values₂ code₃ values₃ at (words - 1) r) (still : length code₃ ≡ length code₂) (table-still : length values₃ ≡ length values₂) where
        code-long₃ : length code₃ ≡ length code
        code-long₃ = omega (arith, still, long, foretold.marked.kept.long)

        values-long₃ : length values₃ ≡ length values
        values-long₃ = omega (arith, table-still, table-long, foretold.filled.long)

        routines-say : (q : Walked) → r ≡ q → SaysRoutines (routines-stand long) code₃ values₃ q
        routines-say q u = subst (λ (x : Walked). SaysRoutines (routines-stand long) code₃ values₃ x) u (walk.is (routines-stand long))

        -- a fault in the routines
        pub routines-found : (broken : Breach) → r ≡ Err broken → Walks text code values (Err broken) code₃ values₃
        unfolding SaysRoutines routines-stand Finds
        routines-found broken u = record { finds = any-module (Err broken) code₃ values₃ (routines-say _ u); code-long = code-long₃; values-long = values-long₃ }

        module _ (n : ℕ) (all : Scope) (u : r ≡ Ok (n, all)) where
          walked : RoutinesDone (routines-stand long) code₃ values₃
          unfolding SaysRoutines
          walked = routines-say _ u

          pub main-none : main ≡ None → Walks text code values (Ok (all.used, None)) code₃ values₃
          unfolding walked routines-stand Finds
          main-none z = record { finds = any-module (Ok (all.used, None)) code₃ values₃ (record { clear = walked.clear; main-is = foretold.main.missing z }); code-long = code-long₃; values-long = values-long₃ }

          starts : at ≡ stands.form.begin
          unfolding filled data-stand
          starts = filled.next-is

          count-words : own.used ≡ length (module_data W m).words
          unfolding filled data-stand module_data filling
          count-words = filled.used-is

          main-so : (h : ℕ) → main ≡ Some h → Walks text code values (Ok (own.used, Some h)) code₃ values₃
          unfolding walked routines-stand Finds ground_of main_of
          main-so h z =
              let x = walked in
              let k = numbered R h in
              record {
                finds = any-module (Ok (own.used, Some h)) code₃ values₃ (record {
                  clear = x.clear;
                  g = ground_of text W m;
                  text-is = refl;
                  words_are = refl;
                  heads-are = refl;
                  offset-is = offset-same text;
                  number = k;
                  main-is = foretold.main.found h z;
                  there = foretold.main.inside h z;
                  begins = foretold.main.begins h z;
                  alone = alone_of W (cells_of code₁) R (signatures W m 0 m.routines) foretold.heads _ k (foretold.main.found h z) (foretold.main.inside h z);
                  raw = record {
                    begin = at;
                    end = words - 1;
                    routines = x.raw;
                    behind = omega (arith, starts, in-order.0);
                    inside = omega (arith, f.laid.many, all_words);
                    few = reading-most text;
                    room = data-most W (numbered R) known (module_data W m) values₃ x.filled;
                  };
                  count-is = count-words;
                  values-are = ap (λ (q : ℕ). map (to_z w32) (take q (cells_of values₃))) count-words ∙ data-words W (numbered R) known (module_data W m) values₃ x.filled;
                });
                code-long = code-long₃;
                values-long = values-long₃;
              }

          -- the module's words are counted in the scope that comes back
          pub module-found : all ≡ own → Walks text code values (Ok (all.used, main)) code₃ values₃
          module-found same = go main refl
            where
              go : (x : Option ℕ) → main ≡ x → Walks text code values (Ok (all.used, x)) code₃ values₃
              go None z = main-none z
              go (Some h) z = subst (λ (t : Scope). Walks text code values (Ok (t.used, Some h)) code₃ values₃) (sym same) (main-so h z)

-- ---- the module's scope
module _ (s : Scope) (e : s ≡ module_scope) where
  pub module-none : s.used ≡ 0
  module-none = ap (λ (x : Scope). x.used) e

  pub module-alone : (own : Scope) → Grown s own → own.loops ≡ 0
  module-alone own g = ap (λ (x : Scope). x.loops) g.rest ∙ ap (λ (x : Scope). x.loops) e
