-- What statements of a routine know.
use mathlib.Core.Path.{◌≡◌, refl, sym, ap, ◌∙◌}
use mathlib.Core.Bool.{false}
use mathlib.Core.List.{List, map}
use mathlib.Core.Option.{Option, none, some}
use Prim.Native.Nat.{ℕ, ◌<◌, ◌≤◌}
use native.Mathlib.Omega.{arith}
use lib.ListN.{length}
use Rattle.laws.proofs.Tests.{test, apart}
use Rattle.paper.specs.Words.{Word}
use Rattle.paper.specs.Trees.{Routine, Module}
use Rattle.paper.specs.Names.{Meaning, the_routine, routine_in, unknown, Text, text_of, Scopes, spelled, look_in, protected, is_among, meaning}
use Rattle.paper.specs.Declarations.{result_asked, routine_filling, routine_data, routine_scopes, module_data, module_scopes, signatures}
use Rattle.paper.specs.Checks.{WhichList, is_some, setting_in}
use Rattle.store_cells.specs.Cells.{cells_of}
use Rattle.code.specs.Steps.{numbered}
use Rattle.check_names.specs.Meanings.{is_protected}
use Rattle.store_evaluation.specs.Answers.{call_slots}
use Rattle.faults.specs.Parts.{memory_of}
use Rattle.check_heads.specs.Trees.{heads_for}
use Rattle.check_heads.proofs.DataToCome.{not_found}
use Rattle.check_heads.proofs.NamesOfRoutines.{look-found}
use Rattle.check_sites.specs.Sites.{filling, own_of, owned}
use Rattle.check_around.specs.declared.Setting.{Setting}
use Rattle.check_around.specs.Around.{Around, Unread, Apart, Calls, Tells}
use Rattle.check_around.specs.Around as simple
use Rattle.check_compounds.specs.Here.{Here}
use Rattle.check_program.specs.Routines.{words_in_all, ground_for}
use Rattle.check_routines.specs.Answers.{ground_of}
use Rattle.check_routines.specs.Parts.{Inside, Onward, ground_in}
use Rattle.check_routines.proofs.RoutineName.{protected-none, among-routines}
use Rattle.check_routines.proofs.ValueStore.{within-placed, fine-placed}

routine-some : {A : Type 0} {i : ℕ} → ◌≡◌ {A = Option ℕ} none (some i) → A
routine-some e = apart (cc)

module _ {text values : List ℕ} {k h : ℕ} (s : Inside text values k h) where
  abbrev W : List Word
  W = s.stands.W

  abbrev m : Module
  m = s.stands.m

  abbrev r : Routine
  r = s.stands.r

  abbrev S : Scopes
  S = routine_scopes W m r

  -- ---- calls
  -- A name that means a routine here means it in the module: the routine's own names mean data.
  pub callable : (u : Text) (i : ℕ) → meaning S u ≡ the_routine i → i < length (heads_for m.routines)
  unfolding routine_scopes meaning routine_in look_in filling own_of owned routine_filling module_scopes
  callable u i e =
      let outer : Meaning = look_in (module_scopes W m).globals u (look_in (module_scopes W m).routines u unknown) in
      test (is_protected u)
      (λ t. routine-some (sym (protected-none u) ∙ ap routine_in (look-found protected u unknown (look_in (routine_data W m r).names u outer) t) ∙ inner e))
      (λ t. among-routines W m u i (there t (foreign t)))
    where
      inner : meaning S u ≡ the_routine i → routine_in (meaning S u) ≡ some i
      inner q = ap routine_in q

      foreign : is_protected u ≡ false → is_among (map text_of (routine_data W m r).names) u ≡ false
      foreign t = s.filled.owns.is u t ∙ ap (owned 1) e

      there : is_protected u ≡ false → is_among (map text_of (routine_data W m r).names) u ≡ false → meaning (module_scopes W m) u ≡ the_routine i
      there t f =
          let outer : Meaning = look_in (module_scopes W m).globals u (look_in (module_scopes W m).routines u unknown) in
          not_found protected u outer t ∙ sym (not_found (routine_data W m r).names u outer f) ∙ sym (not_found protected u (look_in (routine_data W m r).names u outer) t) ∙ e

  -- ---- around a list
  pub more : length (memory_of W m r).routine-words ≤ words_in_all (ground_in s) m r
  unfolding routine_filling ground_of
  more = omega arith

  unfoldable pub around : WhichList → Around text values
  unfolding routine_scopes filling own_of routine_filling ground_of
  around l = record {
    known = record {
      W = W;
      S = S;
      routine = numbered (heads_for m.routines);
      m = length (module_data W m).words;
      n = words_in_all (ground_in s) m r;
      most = s.filled.most;
      table = s.filled.table;
      means = s.filled.means;
      within = λ i a. within-placed (memory_of W m r) (words_in_all (ground_in s) m r) (meaning S (spelled W i)) more (s.filled.placed (spelled W i));
      small = s.filled.small;
    };
    R = heads_for m.routines;
    K = setting_in W (signatures W m 0 m.routines) k r l;
    M = memory_of W m r;
    numbers = λ q. refl;
    callable = λ i j a e. callable (spelled W i) j e;
    owns = s.filled.owns;
    quoted = s.stands.quoted;
    sorts = s.stands.sorts;
  }

  -- ---- here
  module _ (l : WhichList) (code : List ℕ) (at from to used : ℕ) (o : Onward s code at) where
    pub here : (g : Setting) → Tells g (setting_in W (signatures W m 0 m.routines) k r l) → at ≤ from → to ≤ s.stands.form.end → length (routine_data W m r).words ≤ used → used ≤ call_slots
        → Here (around l) code g used from to
    unfolding around filling routine_filling routine_scopes setting_in
    here g t a b many few = record {
      tells = t;
      few = few;
      within = λ i q. within-placed (memory_of W m r) used (meaning S (spelled W i)) many (s.filled.placed (spelled W i));
      fine = λ u. fine-placed (memory_of W m r) (cells_of values) s.filled.cells used (meaning S u) many (s.filled.placed u);
      number = omega (arith, s.filled.errno);
      unread = record {
        loaded = record {
          words = λ i x y. o.unread.loaded.words i (omega arith) (omega arith);
          last = omega (arith, o.unread.loaded.last);
          room = omega (arith, o.unread.loaded.room);
          whole = o.unread.loaded.whole;
        };
        strings = λ i x y z. o.unread.strings i (omega arith) (omega arith) z;
        places = λ i x y. o.unread.places i (omega arith) (omega arith);
      };
      calls = record {
        heads = λ D x. o.calls D (record { below = λ i y. x.below i (omega arith); above = λ i y. x.above i (omega arith) });
        room = o.room;
      };
    }

  -- ---- the ground
  same_kind : (result : Option ℕ) → is_some (result_asked W k result) ≡ is_some result
  unfolding is_some result_asked
  same_kind none = refl
  same_kind (some t) = refl

  pub ground-is : (l : WhichList) → simple.ground_of (around l) ≡ ground_for (ground_in s) m r
  unfolding around simple.ground_of ground_of setting_in ground_for
  ground-is l = rw (same_kind r.result)
