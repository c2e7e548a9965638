-- The scope of a routine is left; what is written of it.
use Rattle.layout.specs.Parts.{link_part}
use mathlib.Core.Path.{◌≡◌, refl, sym, ap, subst, ◌∙◌}
use mathlib.Core.Bool.{false}
use mathlib.Core.List.{List, [], ◌++◌, map}
use Prim.Native.Nat.{ℕ, ◌+◌, ◌-◌, ◌*◌, ◌<◌, ◌≤◌}
use native.Mathlib.Omega.{arith}
use lib.ListN.{length, get_or, replicate}
use lib.IntN.{ℤ, pos}
use Rattle.paper.specs.Words.{Word, word_limit}
use Rattle.paper.specs.Trees.{Routine, Module}
use Rattle.paper.specs.Names.{unknown, Text, Names, text_of, sort_in, spelled, look_in, protected, is_among, meaning}
use Rattle.paper.specs.Declarations.{routine_filling, routine_data, module_scopes, signatures}
use Rattle.paper.specs.Checks.{the_body, the_handler, the_undo, is_some, routine_faults}
use Rattle.paper.specs.Steps.{fors_of}
use Rattle.store_cells.specs.Cells.{cells_of}
use Rattle.code.specs.Cells.{op_in, place_in, link_in, head_at, tail_at, op_at, place_at, link_at}
use Rattle.code.specs.Steps.{Head, a_datum, the_parameters, numbered, a_target}
use Rattle.check_names.specs.Meanings.{Means}
use Rattle.store_evaluation.specs.Answers.{call_slots}
use Rattle.grammar.specs.Form.{Parses, RoutineAt}
use Rattle.check_links.specs.Raw.{SameWords}
use Rattle.check_links.proofs.Framing.{same-cells}
use Rattle.check_links.proofs.Ops.{low-still}
use Rattle.check_heads.specs.Trees.{head_for, heads_for}
use Rattle.check_heads.proofs.DataToCome.{not_found}
use Rattle.check_heads.proofs.RoutineNumbers.{word_at}
use Rattle.check_sites.specs.Sites.{a_routine, filling, Filled}
use Rattle.check_sites.proofs.DataChain.{rise-wider}
use Rattle.check_sites.specs.Walks.{outer_of, name_of, name_words}
use Rattle.check_declarations.specs.Answers.{first_of, DeclaresRoutine}
use Rattle.check_leaving.specs.Answers.{MeansBut, Leaving}
use Rattle.check_leaving.specs.Answers as leaves
use Rattle.check_parameters.specs.Answers.{DeclaresParameters}
use Rattle.check_statements.specs.Answers.{SameValues}
use Rattle.store_writing.specs.Chains.{Chain, Rise, starts_in}
use Rattle.check_program.specs.Routines.{used_by_body, used_by_both, RawLines, RawOptional, RawRoutine}
use Rattle.check_program.proofs.Orders.{lies}
use Rattle.check_program.proofs.WalkStays.{lines-frame, optional-frame}
use Rattle.check_program.proofs.DataChain.{DataStay, chain-kept, starts-kept}
use Rattle.check_names.specs.declared.Scope.{Scope}
use Rattle.check_routines.specs.Answers.{ground_of, Spares, Goes}
use Rattle.layout.specs.declared.types.ValueType.{ValueType}
use Rattle.check_routines.specs.Parts.{Finishes, ListsStand, ListsDone, SaysLists, Lists, ScopeStands}
use Rattle.check_routines.proofs.ValueStore.{filled-same, routine-left}
use Rattle.check_routines.proofs.ParametersAndData.{spelled-apart, keeps-parameters, keeps-data}
use Rattle.check_routines.proofs.ScopeEntered.{Order, order, Entered, entered, Declared, declared, low₂, high₂, spares-from, inside, lists-stand}
use Rattle.std.specs.Prelude.{Option, Ok}

-- ---- names that are none of the routine's own mean what they mean outside
outer-meaning : (W : List Word) (m : Module) (N : Names) (u : Text) → is_among (map text_of N) u ≡ false → meaning ((filling W (a_routine m)).scopes_with N) u ≡ meaning (outer_of W (a_routine m)) u
unfolding meaning filling routine_filling look_in
outer-meaning W m N u h =
    ap (look_in protected u) (not_found N u (look_in (module_scopes W m).globals u (look_in (module_scopes W m).routines u unknown)) h)

module _ (text code values : List ℕ) (result : Option ValueType) (h name : ℕ) (g : ScopeStands text code values result h name)
    (code₁ values₁ : List ℕ) (close : ℕ) (own : Scope) (x₁ : DeclaresParameters code values code₁ values₁ (name + 2) (Ok (close, own))) (long₁ : length code₁ ≡ length code)
    (code₂ values₂ : List ℕ) (at : ℕ) (taken : Scope) (x₂ : DeclaresRoutine code₁ values₁ code₂ values₂ (name + 1) h own.used (close + 1) (Ok (at, taken))) (long₂ : length code₂ ≡ length code) where
  abbrev W : List Word
  W = g.begins.stands.W

  abbrev m : Module
  m = g.begins.stands.m

  abbrev r : Routine
  r = g.begins.stands.r

  abbrev R : List Head
  R = heads_for m.routines

  abbrev to : ℕ
  to = g.begins.stands.to

  abbrev form : RoutineAt (sort_in W) (Parses (sort_in W)) r h to
  form = g.begins.stands.form

  abbrev ds : List ℕ
  ds = map first_of r.declared

  o : Order text code values result h name g
  o = order text code values result h name g

  e : Entered text code values result h name g code₁ values₁ close own x₁ long₁
  e = entered text code values result h name g code₁ values₁ close own x₁ long₁

  d : Declared text code values result h name g code₁ values₁ close own x₁ long₁ code₂ values₂ at taken x₂ long₂
  d = declared text code values result h name g code₁ values₁ close own x₁ long₁ code₂ values₂ at taken x₂ long₂

  low : (i : ℕ) → i < (name + 3) * 2 → i < (form.close + 1) * 2 → (i ≡ h * 2 + 1 → ⊥) → get_or (cells_of code₂) i 0 ≡ get_or (cells_of code) i 0
  low = low₂ text code values result h name g code₁ values₁ close own x₁ long₁ code₂ values₂ at taken x₂ long₂

  high : (i : ℕ) → form.begin * 2 ≤ i → get_or (cells_of code₂) i 0 ≡ get_or (cells_of code) i 0
  high = high₂ text code values result h name g code₁ values₁ close own x₁ long₁ code₂ values₂ at taken x₂ long₂

  unfoldable pub scope-lists : ListsStand text code₂ values₂ result taken.used h at
  scope-lists = lists-stand text code values result h name g code₁ values₁ close own x₁ long₁ code₂ values₂ at taken x₂ long₂

  -- the words before the parameters have their sorts still
  low-op : (i : ℕ) → h ≤ i → i ≤ name + 1 → op_at (cells_of code₂) i < a_target
  low-op i a c =
      let o' = o in
      let q : op_at (cells_of code₂) i ≡ sort_in W i = ap op_in (low (i * 2) (omega arith) (omega arith) (λ z. omega arith)) ∙ (g.begins.unread.loaded.words i a (omega arith)).sort in
      omega (arith, g.begins.stands.sorts i)

  module _ (code₃ values₃ : List ℕ) (next : ℕ) (all : Scope) (x₃ : Lists text code₂ values₂ code₃ values₃ result taken.used h at (Ok (next, all))) where
    l : ListsDone scope-lists code₃ values₃ next all.used
    unfolding SaysLists
    l = x₃.is scope-lists

    pub record Listed : Type 0 where
      pub none : routine_faults W m (signatures W m 0 m.routines) g.k r ≡ []
      pub next-is : next ≡ to
      pub used-is : all.used ≡ taken.used + fors_of W r
      pub few : all.used ≤ call_slots
      pub body : RawLines (ground_of text W m) (cells_of code₃) m r the_body r.body taken.used at
      pub handler : RawOptional (ground_of text W m) (cells_of code₃) m r the_handler r.handler (used_by_body (ground_of text W m) m r) r.body.closes (link_at (cells_of code₃) (h + 1))
      pub undo : RawOptional (ground_of text W m) (cells_of code₃) m r the_undo r.undo (used_by_both (ground_of text W m) m r) form.undo_at (place_at (cells_of code₃) (h + 1))
      pub below : (i : ℕ) → i < at * 2 → (i ≡ h * 2 + 3 → ⊥) → get_or (cells_of code₃) i 0 ≡ get_or (cells_of code₂) i 0
      pub above : (i : ℕ) → to * 2 ≤ i → get_or (cells_of code₃) i 0 ≡ get_or (cells_of code₂) i 0
      pub same : SameValues values₂ values₃

    pub listed : Listed
    unfolding scope-lists lists-stand inside
    listed = record { none = l.none; next-is = l.next-is; used-is = l.used-is; few = l.few; body = l.body; handler = l.handler; undo = l.undo; below = l.below; above = l.above; same = l.same }

    pub finish-few : all.used - taken.used < link_part
    finish-few = omega (arith, listed.few)

    pub finish-most : taken.used ≤ all.used
    finish-most = omega (arith, listed.used-is)

    module _ (code₄ : List ℕ) (fors : ℕ) (f : Finishes code₃ code₄ h (name + 1) at fors) (fors-is : fors ≡ all.used - taken.used) (long₄ : length code₄ ≡ length code) where
      -- ---- cells
      -- all of the words before the lists, but a link, a place and the parenthesis
      cell₄ : (i : ℕ) → i < at * 2 → (i ≡ h * 2 + 1 → ⊥) → (i ≡ h * 2 + 3 → ⊥) → (i ≡ (name + 1) * 2 → ⊥) → (i ≡ (name + 1) * 2 + 1 → ⊥) → get_or (cells_of code₄) i 0 ≡ get_or (cells_of code₂) i 0
      cell₄ i l a c p q = f.others i a p q ∙ listed.below i l c

      lists₄ : (i : ℕ) → at * 2 ≤ i → get_or (cells_of code₄) i 0 ≡ get_or (cells_of code₃) i 0
      lists₄ i l = let o' = o in let a = d.at-is in f.others i (λ z. omega arith) (λ z. omega arith) (λ z. omega arith)

      above₄ : (i : ℕ) → to * 2 ≤ i → get_or (cells_of code₄) i 0 ≡ get_or (cells_of code) i 0
      above₄ i l = let o' = o in let a = d.at-is in lists₄ i (omega arith) ∙ listed.above i l ∙ high i (omega arith)

      below₄ : (i : ℕ) → i < h * 2 → get_or (cells_of code₄) i 0 ≡ get_or (cells_of code) i 0
      below₄ i l =
          let o' = o in
          let a = d.at-is in
          cell₄ i (omega arith) (λ z. omega arith) (λ z. omega arith) (λ z. omega arith) (λ z. omega arith) ∙ low i (omega arith) (omega arith) (λ z. omega arith)

      head₄ : (i : ℕ) → i < at → (i ≡ name + 1 → ⊥) → head_at (cells_of code₄) i ≡ head_at (cells_of code₂) i
      head₄ i l n = cell₄ (i * 2) (omega arith) (λ z. omega arith) (λ z. omega arith) (λ z. n (omega arith)) (λ z. omega arith)

      tail₄ : (i : ℕ) → i < at → (i ≡ h → ⊥) → (i ≡ h + 1 → ⊥) → (i ≡ name + 1 → ⊥) → tail_at (cells_of code₄) i ≡ tail_at (cells_of code₂) i
      tail₄ i l a c n = cell₄ (i * 2 + 1) (omega arith) (λ z. a (omega arith)) (λ z. c (omega arith)) (λ z. omega arith) (λ z. n (omega arith))

      spares₄ : Spares (cells_of code) (cells_of code₄) r h to
      spares₄ =
          let o' = o in
          let a = d.at-is in
          spares-from text code values result h name g code₁ values₁ close own x₁ long₁ code₂ values₂ at taken x₂ long₂ (cells_of code₄)
          (λ i z. head₄ i (omega arith) (λ q. omega arith)) (λ j z. head₄ (name + 2 + 3 * j) (omega arith) (λ q. omega arith)) (λ i z. above₄ (i * 2) (omega arith) ∙ sym (high (i * 2) (omega arith)))

      -- ---- the chain of data
      not_low : (i : ℕ) → h ≤ i → i ≤ name + 1 → op_at (cells_of code₂) i ≡ a_datum → ⊥
      not_low i a c q = omega (arith, low-op i a c)

      stay : DataStay (cells_of code₂) (cells_of code₄) h form.begin
      stay =
          let o' = o in
          let a = d.at-is in
          record {
            link = f.link-is ∙ ap link_in (listed.below (h * 2 + 1) (omega arith) (λ z. omega arith));
            heads = λ i l u q. head₄ i (omega arith) (λ z. not_low i (omega arith) (omega arith) q);
            tails = λ i l u q. tail₄ i (omega arith) (λ z. omega arith) (λ z. not_low i (omega arith) (omega arith) q) (λ z. not_low i (omega arith) (omega arith) q);
          }

      rise₄ : Rise h form.begin ds
      rise₄ = d.rises

      chain₂ : Chain (cells_of code₂) h ds (name + 1)
      chain₂ = d.chain

      chain₄ : Chain (cells_of code₄) h ds (name + 1)
      chain₄ = chain-kept (cells_of code₂) (cells_of code₄) form.begin h ds (name + 1) stay rise₄ chain₂

      starts₄ : starts_in (cells_of code₂) ds ≡ starts_in (cells_of code₄) ds
      starts₄ = sym (starts-kept (cells_of code₂) (cells_of code₄) form.begin h ds stay rise₄ chain₂.leads)

      -- ---- leaving
      others : MeansBut (map (spelled W) (name_words (name + 2) own.used ++ map name_of ds)) (numbered R) W (outer_of W (a_routine m)) (cells_of values₃)
      others = record {
        means = λ i n q.
            let t = spelled-apart W (name_words (name + 2) own.used) (map name_of ds) (spelled W i) q in
            table.means.means i n ∙ outer-meaning W m (routine_data W m r).names (spelled W i) (d.covers.is (spelled W i) (e.covers (spelled W i) t.0) t.1);
        guards = λ i n q. table.means.guards i n;
      }
        where
          table : Filled W (numbered R) (a_routine m) (routine_data W m r) values₃
          table = filled-same W (numbered R) (a_routine m) (routine_data W m r) values₂ values₃ listed.same d.filled

      pub leaving : Leaving code₄ values₃ (name + 2) own.used h
      leaving =
          let o' = o in
          let a = d.at-is in
          let n = e.count-is in
          record {
            W = W;
            routine = numbered R;
            s = a_routine m;
            ds = ds;
            end = name + 1;
            code-room = omega (arith, g.begins.room);
            table = omega (arith, listed.same.long, d.filled.table);
            near = omega arith;
            before = omega arith;
            rises = rise-wider h form.begin word_limit ds (omega arith) d.rises;
            chain = chain₄;
            inside = omega arith;
            stops = λ q. omega (arith, f.op-is);
            keeps-parameters = keeps-parameters (numbered R) W (a_routine m) (cells_of code₁) (cells_of code₄) (name + 2) own.used
                (λ j l. head₄ (name + 2 + 3 * j + 1) (omega arith) (λ q. omega arith) ∙ d.below ((name + 2 + 3 * j + 1) * 2) (omega (arith, e.close-is)) (λ q. omega arith))
                (λ j l. tail₄ (name + 2 + 3 * j + 1) (omega arith) (λ q. omega arith) (λ q. omega arith) (λ q. omega arith) ∙ d.below ((name + 2 + 3 * j + 1) * 2 + 1) (omega (arith, e.close-is)) (λ q. omega arith)) e.keeps;
            keeps-data = keeps-data (numbered R) W (a_routine m) (cells_of code₂) (cells_of code₄) form.declared
                (λ i x y. head₄ i (omega arith) (λ q. omega arith)) (λ i x y. tail₄ i (omega arith) (λ q. omega arith) (λ q. omega arith) (λ q. omega arith)) d.keeps;
            others = others;
          }

      -- ---- what is written
      lists-same : SameWords (cells_of code₃) (cells_of code₄) form.begin to
      lists-same = let a = d.at-is in same-cells (cells_of code₃) (cells_of code₄) form.begin to (λ i x y. sym (lists₄ i (omega arith)))

      -- the second word, which leads to the optional lists
      second₄ : tail_at (cells_of code₃) (h + 1) ≡ tail_at (cells_of code₄) (h + 1)
      second₄ = let o' = o in sym (f.others ((h + 1) * 2 + 1) (λ q. omega arith) (λ q. omega arith) (λ q. omega arith))

      raw₄ : RawRoutine (ground_of text W m) (cells_of code₄) m r (record { word = h; parameters = length r.parameters; function = is_some r.result }) to
      unfolding ground_of
      raw₄ =
          let o' = o in
          let a = d.at-is in
          let n = g.name-is in
          let t = d.taken_is in
          let u = listed.used-is in
          let w = lies W form in
          let v = w.handler in
          let z = w.end in
          record {
            form = form;
            parameters = refl;
            function = refl;
            still = low-still (op_at (cells_of code₄) h) (subst (λ (w : ℕ). op_in w < a_target) (sym (head₄ h (omega arith) (λ q. omega arith))) (low-op h (omega arith) (omega arith)));
            still-next = low-still (op_at (cells_of code₄) (h + 1)) (subst (λ (w : ℕ). op_in w < a_target) (sym (head₄ (h + 1) (omega arith) (λ q. omega arith))) (low-op (h + 1) (omega arith) (omega arith)));
            starts = f.place_is ∙ a;
            body = lines-frame (ground_of text W m) (cells_of code₃) (cells_of code₄) m r form.begin to lists-same the_body r.body (length (routine_data W m r).words) form.begin (omega arith) (omega arith)
                (subst (λ (x : ℕ). RawLines (ground_of text W m) (cells_of code₃) m r the_body r.body x form.begin) t
                (subst (λ (x : ℕ). RawLines (ground_of text W m) (cells_of code₃) m r the_body r.body taken.used x) a listed.body));
            handler = optional-frame (ground_of text W m) (cells_of code₃) (cells_of code₄) m r form.begin to lists-same the_handler r.handler _ _ _ _ _ form.handler (ap link_in second₄) (omega arith) (omega arith) listed.handler;
            undo = optional-frame (ground_of text W m) (cells_of code₃) (cells_of code₄) m r form.begin to lists-same the_undo r.undo _ _ _ _ _ form.undo (ap place_in second₄) (omega arith) (omega arith) listed.undo;
            ds = ds;
            chain = subst (λ (x : ℕ). Chain (cells_of code₄) h ds (x + 1)) n chain₄;
            rise = rise₄;
            words = d.words ∙ ap (λ (x : List ℤ). x ++ starts_in (cells_of code₂) ds) e.words ∙ ap (λ (x : List ℤ). replicate (length r.parameters) (pos 0) ++ x) starts₄;
            opens = subst (λ (x : ℕ). op_at (cells_of code₄) (x + 1) ≡ the_parameters) n f.op-is;
            fors = subst (λ (x : ℕ). place_at (cells_of code₄) (x + 1) ≡ fors_of W r) n (f.fors-is ∙ fors-is ∙ omega arith);
            room = omega (arith, listed.few);
          }

      head-is : record { word = h; parameters = length r.parameters; function = is_some r.result } ≡ head_for r
      unfolding head_for
      head-is = ap (λ (w : ℕ). record { word = w; parameters = length r.parameters; function = is_some r.result }) (sym (word_at (sort_in W) r h to form))

      pub goes : (values₄ : List ℕ) → length values₄ ≡ length values₃ → leaves.SameWords values₃ values₄
          → ((l : Leaving code₄ values₃ (name + 2) own.used h) → Means l.routine l.W (outer_of l.W l.s) (cells_of values₄)) → Goes g.begins code₄ values₄ next
      unfolding leaving
      goes values₄ same-long same again = record {
        next-is = listed.next-is;
        none = listed.none;
        raw = subst (λ (x : Head). RawRoutine (ground_of text W m) (cells_of code₄) m r x to) head-is raw₄;
        filled = routine-left W m (routine_data W m r) values values₃ values₄ g.begins.filled table (omega (arith, table.table)) same (again leaving);
        spares = spares₄;
        below = below₄;
        above = above₄;
      }
        where
          table : Filled W (numbered R) (a_routine m) (routine_data W m r) values₃
          table = filled-same W (numbered R) (a_routine m) (routine_data W m r) values₂ values₃ listed.same d.filled
