-- A list that a routine may have or not, behind the word that closes another.
use mathlib.Core.Path.{◌≡◌, refl, sym, ap, subst, ◌∙◌}
use mathlib.Core.List.{List, []}
use mathlib.Core.Option.{Option, none, some}
use Prim.Native.Nat.{ℕ, ◌+◌, ◌*◌, ◌<◌, ◌≤◌}
use native.Mathlib.Omega.{arith}
use lib.ListN.{length}
use Rattle.paper.specs.Words.{Word, word_limit}
use Rattle.paper.specs.Terms.{Memory}
use Rattle.paper.specs.Trees.{RoutineList, Routine, Module}
use Rattle.paper.specs.Names.{Scopes, sort_in}
use Rattle.paper.specs.Types.{Fault}
use Rattle.paper.specs.Declarations.{routine_scopes, signatures}
use Rattle.paper.specs.Checks.{WhichList, is_some, setting_in, fors_in_list, fors_in_optional, optional_faults, list_faults}
use Rattle.paper.specs.Checks as checks
use Rattle.store_cells.specs.Cells.{cells_of}
use Rattle.code.specs.Cells.{op_at, place_at}
use Rattle.grammar.specs.Form.{Parses, ListBehindAt, no-list, a-list}
use Rattle.grammar.proofs.Places.{list-grows, behind-grows}
use Rattle.grammar.proofs.Inversions.{HasList, behind-some, behind-none}
use Rattle.faults.specs.First.{First}
use Rattle.faults.specs.Parts.{memory_of}
use Rattle.faults.proofs.Expressions.{grows}
use Rattle.check_links.specs.Raw.{Ground, SameWords, RawList, end_of}
use Rattle.check_around.specs.declared.Setting.{Setting}
use Rattle.check_names.specs.declared.Scope.{Scope}
use Rattle.check_statements.specs.Answers.{Lists, Listed, Tell, Answer}
use Rattle.check_program.specs.Routines.{words_in_all, ground_for, RawOptional}
use Rattle.check_routines.specs.Answers.{ground_of}
use Rattle.check_routines.specs.Parts.{first_behind, Inside, Onward, ground_in, BehindStands, LinesBehind, Behind}
use Rattle.check_routines.proofs.Leaves.{no-list-behind, a-list-behind}
use Rattle.check_routines.proofs.OneList.{onward-on, list-stands, list-answered, lines_of}
use Rattle.check_names.specs.Scopes.{Walked}
use Rattle.std.specs.Prelude.{Ok, Err}
use Rattle.layout.specs.Broken.{as_fault}

-- ---- a list that is there or not
no-faults : (W : List Word) (K : checks.Setting) (M : Memory) (S : Scopes) (n : ℕ) (o : Option RoutineList) → o ≡ none → optional_faults W K M S n o ≡ []
unfolding optional_faults
no-faults W K M S n o e = ap (optional_faults W K M S n) e

some-faults : (W : List Word) (K : checks.Setting) (M : Memory) (S : Scopes) (n : ℕ) (o : Option RoutineList) (l : RoutineList) → o ≡ some l → list_faults W K M l.statements S n ≡ optional_faults W K M S n o
unfolding optional_faults
some-faults W K M S n o l e = sym (ap (optional_faults W K M S n) e)

no-fors : (o : Option RoutineList) → o ≡ none → fors_in_optional o ≡ 0
unfolding fors_in_optional
no-fors o e = ap fors_in_optional e

some-fors : (o : Option RoutineList) (l : RoutineList) → o ≡ some l → fors_in_optional o ≡ fors_in_list l.statements
unfolding fors_in_optional
some-fors o l e = ap fors_in_optional e

module _ (g : Ground) (C : List ℕ) (m : Module) (r : Routine) (o : Option RoutineList) (used e : ℕ) where
  no_lines : o ≡ none → LinesBehind g C m r o used e
  unfolding LinesBehind
  no_lines q = subst (λ (o : Option RoutineList). LinesBehind g C m r o used e) (sym q) (record {})

  some-lines : (l : RoutineList) → o ≡ some l → RawList (ground_for g m r) (words_in_all g m r) C l.statements (routine_scopes g.W m r) used (e + 1) l.closes → LinesBehind g C m r o used e
  unfolding LinesBehind
  some-lines l q x = subst (λ (o : Option RoutineList). LinesBehind g C m r o used e) (sym q) x

-- ---- what is answered of it, by what is answered of the list
answer-as : (fs gs : List Fault) (before after values values' : List ℕ) (at to count many : ℕ) (P Q : Type 0) (x : Walked) → Answer fs before after values values' at to count P x → fs ≡ gs → count ≡ many → (P → Q)
    → Answer gs before after values values' at to many Q x
unfolding Tell
answer-as fs gs before after values values' at to count many P Q (Ok (next, scope)) a e c f = record {
  tells = let d = a.tells in record {
    none = sym e ∙ d.none;
    next-is = d.next-is;
    used-is = d.used-is ∙ c;
    few = d.few;
    written = f d.written;
    outside = d.outside;
    same = d.same;
  };
  long = a.long;
}
answer-as fs gs before after values values' at to count many P Q (Err broken) a e c f = record {
  tells = subst (First (as_fault broken)) e a.tells;
  long = a.long;
}

module _ (text code values : List ℕ) (k : Setting) (used leader e : ℕ) where
  module _ (g : BehindStands text code values k used leader e) where
    abbrev s : Inside text values g.k g.h
    s = g.inside

    abbrev W : List Word
    W = s.stands.W

    abbrev m : Module
    m = s.stands.m

    abbrev r : Routine
    r = s.stands.r

    abbrev K : checks.Setting
    K = setting_in W (signatures W m 0 m.routines) g.k r g.which

    -- e is among the routine's words
    before-end : e ≤ s.stands.form.end
    before-end = omega (arith, behind-grows (sort_in W) (Parses (sort_in W)) (grows W) g.form, g.within)

    pub behind-room : e * 8 + 8 ≤ length code
    behind-room = omega (arith, before-end, g.onward.unread.loaded.room)

    pub behind-small : e < word_limit
    behind-small = omega (arith, before-end, g.onward.unread.loaded.last)

    sort-here : {op : ℕ} → op ≡ op_at (cells_of code) e → op ≡ sort_in W e
    sort-here o = o ∙ (g.onward.unread.loaded.words e (omega arith) before-end).sort

    module _ {op : ℕ} (o : op ≡ op_at (cells_of code) e) where
      missing : (op ≡ leader → ⊥) → (g.o ≡ none) × (g.to ≡ e)
      missing d = behind-none (sort_in W) (Parses (sort_in W)) g.form (λ q. d (sort-here o ∙ q))

      module _ (q : op ≡ leader) where
        found : HasList (sort_in W) (Parses (sort_in W)) g.o (e + 1) g.to
        found = behind-some (sort_in W) (Parses (sort_in W)) g.form (sym (sort-here o) ∙ q)

        abbrev l : RoutineList
        l = found.l

        onward : Onward s code (e + 1)
        onward = onward-on s code code e (e + 1) g.onward (omega arith) (omega (arith, before-end)) (record { below = λ i h. refl; above = λ i h. refl }) refl

        enough : used + fors_in_list l.statements ≤ words_in_all (ground_in s) m r
        enough = omega (arith, g.room, some-fors g.o l found.is)

        pub behind-list : Lists text code values k used (e + 1)
        behind-list = list-stands s g.which l code (e + 1) g.to used k onward g.tells found.stands g.within g.many g.few enough

        behind-answer : (after values' : List ℕ) (x : Walked) → Listed text code values after values' k used (e + 1) x
            → Answer (optional_faults W K (memory_of W m r) (routine_scopes W m r) used g.o) code after values values' (e + 1) g.to (used + fors_in_optional g.o)
            (LinesBehind (ground_in s) (cells_of after) m r g.o used e) x
        unfolding ground_of
        behind-answer after values' x y =
            answer-as _ _ code after values values' (e + 1) g.to _ _ _ _ x
            (list-answered s g.which l code (e + 1) g.to used k onward g.tells found.stands g.within g.many g.few enough after values' x y)
            (some-faults W K (memory_of W m r) (routine_scopes W m r) used g.o l found.is) (omega (arith, some-fors g.o l found.is))
            (λ z. some-lines (ground_in s) (cells_of after) m r g.o used e l found.is
            (subst (λ (i : ℕ). RawList (ground_for (ground_in s) m r) (words_in_all (ground_in s) m r) (cells_of after) l.statements (routine_scopes W m r) used (e + 1) i) (sym found.stands.closes) z))

  -- ---- answers
  module _ {op : ℕ} (o : op ≡ op_at (cells_of code) e) where
    pub behind-missing : (op ≡ leader → ⊥) → (scope : Scope) → scope.used ≡ used → Behind text code values code values k used leader e (Ok (e, scope))
    unfolding Tell
    behind-missing d scope u = record {
      is = λ g. let n = missing g o d in record {
        tells = record {
          none = no-faults _ _ _ _ _ _ n.0;
          next-is = sym n.1;
          used-is = omega (arith, u, no-fors g.o n.0);
          few = omega (arith, u, g.few);
          written = no_lines _ _ _ _ _ _ _ n.0;
          outside = record { below = λ i h. refl; above = λ i h. refl };
          same = record { words = refl; long = refl };
        };
        long = refl;
      };
    }

    pub behind-passed : op ≡ leader → (after values' : List ℕ) (x : Walked) → Listed text code values after values' k used (e + 1) x → Behind text code values after values' k used leader e x
    behind-passed q after values' x y = record { is = λ g. behind-answer g o q after values' x y }

-- ---- with its end
pub optional-of : (g : Ground) (C D : List ℕ) (m : Module) (r : Routine) (which : WhichList) {sort : ℕ} (o : Option RoutineList) (used e z leads : ℕ) → ListBehindAt (sort_in g.W) (Parses (sort_in g.W)) sort o e z
    → leads ≡ first_behind e z → ((z ≡ e → ⊥) → op_at D z ≡ end_of which (is_some r.result)) → place_at D z ≡ g.offset z → SameWords C D (e + 1) z
    → LinesBehind g C m r o used e → RawOptional g D m r which o used e leads
unfolding RawOptional LinesBehind
optional-of g C D m r which none used e z leads (no-list f q) k op place same x = k ∙ sym (no-list-behind e z q)
optional-of g C D m r which (some l) used e z leads (a-list c h) k op place same x =
    let near : e + 1 ≤ z = list-grows (sort_in g.W) (Parses (sort_in g.W)) (grows g.W) h.statements in
    let far : z ≡ e → ⊥ = λ q. omega arith in
    let ends : z ≡ l.closes = sym h.closes in
    record {
      first = k ∙ sym (a-list-behind e z far);
      list = lines_of g C D m r which l used (e + 1) x (subst (SameWords C D (e + 1)) ends same) (subst (λ (i : ℕ). op_at D i ≡ end_of which (is_some r.result)) ends (op far))
          (subst (λ (i : ℕ). place_at D i ≡ g.offset i) ends place);
    }
