-- The lists of a routine, one behind another.
use mathlib.Core.Path.{◌≡◌, refl, sym, ap, subst, ◌∙◌}
use mathlib.Core.Bool.{Bool}
use mathlib.Core.List.{List}
use mathlib.Core.Option.{Option}
use Prim.Native.Nat.{ℕ, ◌+◌, ◌*◌, ◌<◌, ◌≤◌}
use native.Mathlib.Omega.{arith}
use lib.ListN.{length, get_or}
use Rattle.paper.specs.Sorts.{ERROR, UNDO}
use Rattle.paper.specs.Words.{Word, word_limit}
use Rattle.paper.specs.Terms.{Memory}
use Rattle.paper.specs.Trees.{RoutineList, Routine, Module}
use Rattle.paper.specs.Names.{Scopes, sort_in}
use Rattle.paper.specs.Types.{Fault}
use Rattle.paper.specs.Declarations.{Signature, routine_filling, routine_data, routine_scopes, signatures}
use Rattle.paper.specs.Checks.{WhichList, the_body, the_handler, the_undo, is_some, setting_in, fors_in_list, fors_in_optional, optional_faults, list_faults}
use Rattle.paper.specs.Checks as checks
use Rattle.paper.specs.Steps.{fors_of}
use Rattle.store_cells.specs.Cells.{cells_of}
use Rattle.code.specs.Cells.{place_in, tail_at, place_at, link_at}
use Rattle.code.specs.Steps.{numbered}
use Rattle.store_evaluation.specs.Answers.{call_slots}
use Rattle.grammar.specs.Form.{Parses, RoutineListAt, ListBehindAt}
use Rattle.grammar.proofs.Places.{behind-grows}
use Rattle.faults.specs.Parts.{memory_of, in_body, in_handler, in_undo_list}
use Rattle.faults.proofs.Expressions.{grows}
use Rattle.faults.proofs.Routines.{found-in-body, found-in-handler, found-in-undo, nothing-in-routine}
use Rattle.check_links.specs.Raw.{RawList}
use Rattle.check_links.proofs.Framing.{same-cells}
use Rattle.check_heads.specs.Trees.{heads_for}
use Rattle.check_sites.specs.Sites.{a_routine, filling}
use Rattle.check_around.specs.declared.Setting.{Setting}
use Rattle.check_around.specs.Around.{offset_in, list_code, Tells}
use Rattle.check_around.specs.declared.lists.WhichList as lists
use Rattle.check_around.specs.declared.lists.WhichList.TheVariants.{Body, Handler, Undo}
use Rattle.check_names.specs.declared.Scope.{Scope}
use Rattle.check_statements.specs.Answers.{SameValues, Listed, Tell, Answer}
use Rattle.check_statements.specs.Answers as statements
use Rattle.check_compounds.specs.Here.{Outside}
use Rattle.check_program.specs.Routines.{words_in_all, used_by_body, used_by_both, ground_for, RawLines, RawOptional}
use Rattle.check_program.proofs.Orders.{lies}
use Rattle.check_routines.specs.Answers.{ground_of}
use Rattle.layout.specs.declared.types.ValueType.{ValueType}
use Rattle.check_routines.specs.Parts.{Closes, Inside, ground_in, data_slots, BehindStands, LinesBehind, Behind, ListsStand, ListsDone, SaysLists, Lists}
use Rattle.check_routines.proofs.ValueStore.{filled-same}
use Rattle.check_routines.proofs.OneList.{function-flag, outside-on, onward-on, list-stands, list-answered, lines_of}
use Rattle.check_routines.proofs.ListBehind.{optional-of}
use Rattle.check_names.specs.Scopes.{Walked}
use Rattle.std.specs.Prelude as core
use Rattle.std.specs.Prelude.{Ok, Err}
use Rattle.layout.specs.declared.rules.Breach.{Breach}

module _ (text code values : List ℕ) (result : core.Option ValueType) (taken h at : ℕ) where
  -- the setting of a list
  abbrev setting : lists.WhichList → Setting
  setting l = record { result = result; list = l }

  module _ (g : ListsStand text code values result taken h at) where
    abbrev s : Inside text values g.k h
    s = g.inside

    abbrev W : List Word
    W = s.stands.W

    abbrev m : Module
    m = s.stands.m

    abbrev r : Routine
    r = s.stands.r

    abbrev sigs : List Signature
    sigs = signatures W m 0 m.routines

    abbrev K : WhichList → checks.Setting
    K which = setting_in W sigs g.k r which

    abbrev M : Memory
    M = memory_of W m r

    abbrev S : Scopes
    S = routine_scopes W m r

    tells-so : (which : WhichList) → Tells (setting (list_code which)) (K which)
    unfolding setting_in
    tells-so which = record { result = g.result-is; list = refl }

    -- ---- where they lie
    abbrev closes : ℕ
    closes = r.body.closes

    abbrev undo_at : ℕ
    undo_at = s.stands.form.undo_at

    abbrev end : ℕ
    end = s.stands.form.end

    record Order : Type 0 where
      second : h + 1 < at
      body : at ≤ closes
      handler : closes ≤ undo_at
      undo : undo_at ≤ end

    order : Order
    order =
        let o = lies W s.stands.form in
        record { second = omega (arith, g.begins, o.name, o.opens); body = omega (arith, g.begins, o.body); handler = o.handler; undo = o.end }

    -- ---- how many words they use
    few : taken ≤ call_slots
    unfolding ground_of filling routine_filling
    few = omega (arith, g.used-is, s.filled.window)

    enough : used_by_both (ground_in s) m r + fors_in_optional r.undo ≤ words_in_all (ground_in s) m r
    unfolding ground_of fors_of
    enough = omega arith

    -- ---- the check has come behind a list, to the word that closes it
    record Come (code₁ values₁ : List ℕ) (to used : ℕ) : Type 0 where
      long : length code₁ ≡ length code
      outside : Outside (cells_of code) (cells_of code₁) at to
      same : SameValues values values₁
      few : used ≤ call_slots

    module _ {code₁ values₁ : List ℕ} {from used : ℕ} (c : Come code₁ values₁ from used) (low : at ≤ from) where
      inside₁ : Inside text values₁ g.k h
      inside₁ = record {
        stands = s.stands;
        filled = filled-same W (numbered (heads_for m.routines)) (a_routine m) (routine_data W m r) values values₁ c.same s.filled;
        none = s.none;
        fits = s.fits;
      }

      -- a list behind that word
      module _ (which : WhichList) (k : Setting) (t : Tells k (K which)) {leader : ℕ} {o : Option RoutineList} {to : ℕ} (f : ListBehindAt (sort_in W) (Parses (sort_in W)) leader o from to) (within : to ≤ end)
          (many : data_slots s ≤ used) (room : used + fors_in_optional o ≤ words_in_all (ground_in s) m r) where
        grows-on : from ≤ to
        grows-on = behind-grows (sort_in W) (Parses (sort_in W)) (grows W) f

        behind-stands : BehindStands text code₁ values₁ k used leader from
        unfolding inside₁
        behind-stands = record {
          k = g.k;
          h = h;
          inside = inside₁;
          which = which;
          o = o;
          to = to;
          form = f;
          within = within;
          onward =
              let w = onward-on s code code₁ at from g.onward low (omega (arith, grows-on)) c.outside c.long in
              record { unread = w.unread; calls = w.calls; room = w.room };
          tells = t;
          many = many;
          few = c.few;
          room = room;
        }

        module _ (code₂ values₂ : List ℕ) (y : Walked) (x : Behind text code₁ values₁ code₂ values₂ k used leader from y) where
          behind-answer : Answer (optional_faults W (K which) M S used o) code₁ code₂ values₁ values₂ (from + 1) to (used + fors_in_optional o) (LinesBehind (ground_in s) (cells_of code₂) m r o used from) y
          unfolding behind-stands inside₁
          behind-answer = x.is behind-stands

    -- a list is done
    come-on : {code₁ values₁ code₂ values₂ : List ℕ} {from used to count z : ℕ} {n : Scope} {fs : List Fault} {P : Type 0} → Come code₁ values₁ from used → at ≤ from → from ≤ to
        → Answer fs code₁ code₂ values₁ values₂ (from + 1) to count P (Ok (z, n)) → Come code₂ values₂ to n.used
    unfolding Tell
    come-on c low near a =
        let d = a.tells in
        record {
          long = a.long ∙ c.long;
          outside = outside-on (omega arith) (omega arith) (omega arith) (omega arith) c.outside d.outside;
          same = record { words = d.same.words ∙ c.same.words; long = d.same.long ∙ c.same.long };
          few = d.few;
        }

    -- ---- the first list
    form-here : RoutineListAt (sort_in W) (Parses (sort_in W)) r.body at closes
    form-here = subst (λ (a : ℕ). RoutineListAt (sort_in W) (Parses (sort_in W)) r.body a closes) (sym g.begins) s.stands.form.body

    closes-inside : closes ≤ end
    closes-inside = omega (arith, order.handler, order.undo)

    many : data_slots s ≤ taken
    many = omega (arith, g.used-is)

    body-room : taken + fors_in_list r.body.statements ≤ words_in_all (ground_in s) m r
    body-room = omega (arith, g.used-is, enough)

    pub lists-list : statements.Lists text code values (setting Body) taken at
    unfolding list_code
    lists-list = list-stands s the_body r.body code at closes taken (setting Body) g.onward (tells-so the_body) form-here closes-inside many few body-room

    abbrev L : (code₁ values₁ : List ℕ) → Walked → Type 0
    L code₁ values₁ x = Listed text code values code₁ values₁ (setting Body) taken at x

    abbrev BodyAnswer : (code₁ values₁ : List ℕ) → Walked → Type 0
    BodyAnswer code₁ values₁ x =
        Answer (in_body W m sigs g.k r) code code₁ values values₁ at closes (used_by_body (ground_in s) m r)
        (RawList (ground_for (ground_in s) m r) (words_in_all (ground_in s) m r) (cells_of code₁) r.body.statements S taken at closes) x

    answered : (code₁ values₁ : List ℕ) (x : Walked) → L code₁ values₁ x → BodyAnswer code₁ values₁ x
    unfolding list_code ground_of
    answered code₁ values₁ x y =
        subst (λ (u : ℕ). Answer (list_faults W (K the_body) M r.body.statements S u) code code₁ values values₁ at closes (u + fors_in_list r.body.statements)
        (RawList (ground_for (ground_in s) m r) (words_in_all (ground_in s) m r) (cells_of code₁) r.body.statements S taken at closes) x) g.used-is
        (list-answered s the_body r.body code at closes taken (setting Body) g.onward (tells-so the_body) form-here closes-inside many few body-room code₁ values₁ x y)

    -- ---- the ERROR list
    module _ (code₁ values₁ : List ℕ) (e : ℕ) (n : Scope) (x : L code₁ values₁ (Ok (e, n))) where
      first : BodyAnswer code₁ values₁ (Ok (e, n))
      first = answered code₁ values₁ (Ok (e, n)) x

      e-is : e ≡ closes
      unfolding Tell
      e-is = first.tells.next-is

      used₁ : n.used ≡ used_by_body (ground_in s) m r
      unfolding Tell
      used₁ = first.tells.used-is

      come₁ : Come code₁ values₁ closes n.used
      unfolding Tell
      come₁ = record { long = first.long; outside = first.tells.outside; same = first.tells.same; few = first.tells.few }

      many₁ : data_slots s ≤ n.used
      many₁ = omega (arith, used₁)

      room₁ : n.used + fors_in_optional r.handler ≤ words_in_all (ground_in s) m r
      room₁ = omega (arith, used₁, enough)

      pub handler-stands : BehindStands text code₁ values₁ (setting Handler) n.used ERROR e
      unfolding list_code
      handler-stands =
          subst (BehindStands text code₁ values₁ (setting Handler) n.used ERROR) (sym e-is)
          (behind-stands come₁ order.body the_handler (setting Handler) (tells-so the_handler) s.stands.form.handler order.undo many₁ room₁)

      abbrev HandlerAnswer : (code₂ values₂ : List ℕ) → Walked → Type 0
      HandlerAnswer code₂ values₂ y =
          Answer (in_handler W m sigs g.k r) code₁ code₂ values₁ values₂ (closes + 1) undo_at (used_by_both (ground_in s) m r) (LinesBehind (ground_in s) (cells_of code₂) m r r.handler (used_by_body (ground_in s) m r) closes) y

      handler-answer : (code₂ values₂ : List ℕ) (y : Walked) → Behind text code₁ values₁ code₂ values₂ (setting Handler) n.used ERROR e y → HandlerAnswer code₂ values₂ y
      unfolding list_code ground_of
      handler-answer code₂ values₂ y b =
          subst (λ (u : ℕ). Answer (optional_faults W (K the_handler) M S u r.handler) code₁ code₂ values₁ values₂ (closes + 1) undo_at (u + fors_in_optional r.handler)
          (LinesBehind (ground_in s) (cells_of code₂) m r r.handler u closes) y) used₁
          (behind-answer come₁ order.body the_handler (setting Handler) (tells-so the_handler) s.stands.form.handler order.undo many₁ room₁ code₂ values₂ y
          (subst (λ (i : ℕ). Behind text code₁ values₁ code₂ values₂ (setting Handler) n.used ERROR i y) e-is b))

      -- ---- the UNDO list
      module _ (code₂ values₂ : List ℕ) (z : ℕ) (n₂ : Scope) (b : Behind text code₁ values₁ code₂ values₂ (setting Handler) n.used ERROR e (Ok (z, n₂))) where
        second : HandlerAnswer code₂ values₂ (Ok (z, n₂))
        second = handler-answer code₂ values₂ (Ok (z, n₂)) b

        z-is : z ≡ undo_at
        unfolding Tell
        z-is = second.tells.next-is

        used₂ : n₂.used ≡ used_by_both (ground_in s) m r
        unfolding Tell
        used₂ = second.tells.used-is

        come₂ : Come code₂ values₂ undo_at n₂.used
        come₂ = come-on come₁ order.body order.handler second

        low₂ : at ≤ undo_at
        low₂ = omega (arith, order.body, order.handler)

        many₂ : data_slots s ≤ n₂.used
        many₂ = omega (arith, used₂)

        room₂ : n₂.used + fors_in_optional r.undo ≤ words_in_all (ground_in s) m r
        room₂ = omega (arith, used₂, enough)

        pub undo-stands : BehindStands text code₂ values₂ (setting Undo) n₂.used UNDO z
        unfolding list_code
        undo-stands =
            subst (BehindStands text code₂ values₂ (setting Undo) n₂.used UNDO) (sym z-is)
            (behind-stands come₂ low₂ the_undo (setting Undo) (tells-so the_undo) s.stands.form.undo (omega arith) many₂ room₂)

        abbrev UndoAnswer : (code₃ values₃ : List ℕ) → Walked → Type 0
        UndoAnswer code₃ values₃ y =
            Answer (in_undo_list W m sigs g.k r) code₂ code₃ values₂ values₃ (undo_at + 1) end (used_by_both (ground_in s) m r + fors_in_optional r.undo)
            (LinesBehind (ground_in s) (cells_of code₃) m r r.undo (used_by_both (ground_in s) m r) undo_at) y

        undo-answer : (code₃ values₃ : List ℕ) (y : Walked) → Behind text code₂ values₂ code₃ values₃ (setting Undo) n₂.used UNDO z y → UndoAnswer code₃ values₃ y
        unfolding list_code ground_of
        undo-answer code₃ values₃ y d =
            subst (λ (u : ℕ). Answer (optional_faults W (K the_undo) M S u r.undo) code₂ code₃ values₂ values₃ (undo_at + 1) end (u + fors_in_optional r.undo)
            (LinesBehind (ground_in s) (cells_of code₃) m r r.undo u undo_at) y) used₂
            (behind-answer come₂ low₂ the_undo (setting Undo) (tells-so the_undo) s.stands.form.undo (omega arith) many₂ room₂ code₃ values₃ y
            (subst (λ (i : ℕ). Behind text code₂ values₂ code₃ values₃ (setting Undo) n₂.used UNDO i y) z-is d))

        -- ---- all of them
        module _ (code₃ values₃ : List ℕ) (w : ℕ) (n₃ : Scope) (d : Behind text code₂ values₂ code₃ values₃ (setting Undo) n₂.used UNDO z (Ok (w, n₃))) where
          third : UndoAnswer code₃ values₃ (Ok (w, n₃))
          third = undo-answer code₃ values₃ (Ok (w, n₃)) d

          w-is : w ≡ end
          unfolding Tell
          w-is = third.tells.next-is

          come₃ : Come code₃ values₃ end n₃.used
          come₃ = come-on come₂ low₂ order.undo third

          pub ends-stand : (h + 1 < e) × (e ≤ z) × (z ≤ w) × (w < word_limit) × (w * 8 + 8 ≤ length code₃)
          ends-stand =
              let o = order in (
                omega (arith, e-is, o.second, o.body),
                omega (arith, e-is, z-is, o.handler),
                omega (arith, z-is, w-is, o.undo),
                omega (arith, w-is, g.onward.unread.loaded.last),
                omega (arith, w-is, come₃.long, g.onward.unread.loaded.room),
              )

          module _ (code₄ : List ℕ) (f : Bool) (fl : f ≡ core.is_some result) (c : Closes code₃ code₄ f h e z w) where
            -- in the paper's words
            ends : Closes code₃ code₄ (is_some r.result) h closes undo_at end
            ends =
                subst (λ (i : ℕ). Closes code₃ code₄ (is_some r.result) h closes undo_at i) w-is
                (subst (λ (i : ℕ). Closes code₃ code₄ (is_some r.result) h closes i w) z-is
                (subst (λ (i : ℕ). Closes code₃ code₄ (is_some r.result) h i z w) e-is
                (subst (λ (b : Bool). Closes code₃ code₄ b h e z w) (fl ∙ function-flag result r.result W g.k g.result-is) c)))

            -- ---- cells
            outside₂ : Outside (cells_of code₁) (cells_of code₂) (closes + 1) undo_at
            unfolding Tell
            outside₂ = second.tells.outside

            outside₃ : Outside (cells_of code₂) (cells_of code₃) (undo_at + 1) end
            unfolding Tell
            outside₃ = third.tells.outside

            in-body : (i : ℕ) → at * 2 ≤ i → i < closes * 2 → get_or (cells_of code₁) i 0 ≡ get_or (cells_of code₄) i 0
            in-body i a b =
                let o = order in
                let p = o.second in
                let q = o.handler in
                let t = o.undo in
                sym (ends.others i (λ x. omega arith) (λ x. omega arith) (λ x. omega arith) (λ x. omega arith) ∙ outside₃.below i (omega arith) ∙ outside₂.below i (omega arith))

            in-handler : (i : ℕ) → (closes + 1) * 2 ≤ i → i < undo_at * 2 → get_or (cells_of code₂) i 0 ≡ get_or (cells_of code₄) i 0
            in-handler i a b =
                let o = order in
                let p = o.second in
                let q = o.body in
                let t = o.undo in
                sym (ends.others i (λ x. omega arith) (λ x. omega arith) (λ x. omega arith) (λ x. omega arith) ∙ outside₃.below i (omega arith))

            in-undo : (i : ℕ) → (undo_at + 1) * 2 ≤ i → i < end * 2 → get_or (cells_of code₃) i 0 ≡ get_or (cells_of code₄) i 0
            in-undo i a b =
                let o = order in
                let p = o.second in
                let q = o.body in
                let t = o.handler in
                sym (ends.others i (λ x. omega arith) (λ x. omega arith) (λ x. omega arith) (λ x. omega arith))

            -- the words that close them have their offsets
            kept-tail : (i : ℕ) → closes ≤ i → tail_at (cells_of code₄) i ≡ tail_at (cells_of code₃) i
            kept-tail i a =
                let o = order in
                let p = o.second in
                let q = o.body in
                ends.others (i * 2 + 1) (λ x. omega arith) (λ x. omega arith) (λ x. omega arith) (λ x. omega arith)

            offset-here : (i : ℕ) → closes ≤ i → i ≤ end → tail_at (cells_of code₃) i ≡ tail_at (cells_of code) i → place_at (cells_of code₄) i ≡ (ground_in s).offset i
            unfolding ground_of offset_in
            offset-here i a b q = ap place_in (kept-tail i a ∙ q) ∙ g.onward.unread.places i (omega (arith, order.body)) b

            closes-place : place_at (cells_of code₄) closes ≡ (ground_in s).offset closes
            closes-place =
                offset-here closes (omega arith) closes-inside
                (outside₃.below (closes * 2 + 1) (omega (arith, order.handler)) ∙ outside₂.below (closes * 2 + 1) (omega arith) ∙ come₁.outside.above (closes * 2 + 1) (omega arith))

            undo-place : place_at (cells_of code₄) undo_at ≡ (ground_in s).offset undo_at
            undo-place =
                offset-here undo_at order.handler order.undo (outside₃.below (undo_at * 2 + 1) (omega arith) ∙ come₂.outside.above (undo_at * 2 + 1) (omega arith))

            end-place : place_at (cells_of code₄) end ≡ (ground_in s).offset end
            end-place = offset-here end closes-inside (omega arith) (come₃.outside.above (end * 2 + 1) (omega arith))

            -- ---- what is written
            body-lines : RawLines (ground_in s) (cells_of code₄) m r the_body r.body taken at
            unfolding Tell ground_of
            body-lines =
                lines_of (ground_in s) (cells_of code₁) (cells_of code₄) m r the_body r.body taken at first.tells.written (same-cells (cells_of code₁) (cells_of code₄) at closes in-body) ends.body closes-place

            handler-lines : RawOptional (ground_in s) (cells_of code₄) m r the_handler r.handler (used_by_body (ground_in s) m r) closes (link_at (cells_of code₄) (h + 1))
            unfolding Tell ground_of
            handler-lines =
                optional-of (ground_in s) (cells_of code₂) (cells_of code₄) m r the_handler r.handler (used_by_body (ground_in s) m r) closes undo_at _ s.stands.form.handler ends.link-is (λ x. ends.handler) undo-place
                (same-cells (cells_of code₂) (cells_of code₄) (closes + 1) undo_at in-handler) second.tells.written

            undo-lines : RawOptional (ground_in s) (cells_of code₄) m r the_undo r.undo (used_by_both (ground_in s) m r) undo_at (place_at (cells_of code₄) (h + 1))
            unfolding Tell ground_of
            undo-lines =
                optional-of (ground_in s) (cells_of code₃) (cells_of code₄) m r the_undo r.undo (used_by_both (ground_in s) m r) undo_at end _ s.stands.form.undo ends.place_is ends.undo end-place
                (same-cells (cells_of code₃) (cells_of code₄) (undo_at + 1) end in-undo) third.tells.written

            pub lists-so : ListsDone g code₄ values₃ (w + 1) n₃.used
            unfolding Tell ground_of fors_of
            lists-so =
                let o = order in
                let p = o.second in
                let q = o.body in
                let t = o.handler in
                let u = o.undo in
                let to_is = s.stands.form.after in
                record {
                  none = nothing-in-routine W m sigs g.k r s.none first.tells.none second.tells.none third.tells.none;
                  next-is = omega (arith, w-is);
                  used-is = omega (arith, third.tells.used-is, g.used-is);
                  few = third.tells.few;
                  body = body-lines;
                  handler = handler-lines;
                  undo = undo-lines;
                  below = λ i a d. ends.others i (λ x. omega arith) (λ x. omega arith) (λ x. omega arith) d ∙ come₃.outside.below i a;
                  above = λ i a. ends.others i (λ x. omega arith) (λ x. omega arith) (λ x. omega arith) (λ x. omega arith) ∙ come₃.outside.above i (omega arith);
                  same = come₃.same;
                }

  -- ---- answers
  abbrev Stand : Type 0
  Stand = ListsStand text code values result taken h at

  module _ (code₁ values₁ : List ℕ) (x : Walked) (l : Listed text code values code₁ values₁ (setting Body) taken at x) where
    pub first-faulty : (broken : Breach) → x ≡ Err broken → Lists text code values code₁ values₁ result taken h at (Err broken)
    unfolding SaysLists Tell
    first-faulty broken q = record {
      is = λ g.
          found-in-body (W g) (m g) (sigs g) g.k (s g).stands.form (s g).none (answered g code₁ values₁ (Err broken) (subst (L g code₁ values₁) q l)).tells;
    }

    module _ (e : ℕ) (n : Scope) (q : x ≡ Ok (e, n)) where
      body-walked : (g : Stand) → L g code₁ values₁ (Ok (e, n))
      body-walked g = subst (L g code₁ values₁) q l

      pub handler-asks : Stand → BehindStands text code₁ values₁ (setting Handler) n.used ERROR e
      handler-asks g = handler-stands g code₁ values₁ e n (body-walked g)

      abbrev H : (code₂ values₂ : List ℕ) → Walked → Type 0
      H code₂ values₂ y = Behind text code₁ values₁ code₂ values₂ (setting Handler) n.used ERROR e y

      module _ (code₂ values₂ : List ℕ) (y : Walked) (b : H code₂ values₂ y) where
        pub second-faulty : (broken : Breach) → y ≡ Err broken → Lists text code values code₂ values₂ result taken h at (Err broken)
        unfolding SaysLists Tell
        second-faulty broken p = record {
          is = λ g.
              found-in-handler (W g) (m g) (sigs g) g.k (s g).stands.form (s g).none (first g code₁ values₁ e n (body-walked g)).tells.none
              (handler-answer g code₁ values₁ e n (body-walked g) code₂ values₂ (Err broken) (subst (H code₂ values₂) p b)).tells;
        }

        module _ (z : ℕ) (n₂ : Scope) (p : y ≡ Ok (z, n₂)) where
          handler-walked : H code₂ values₂ (Ok (z, n₂))
          handler-walked = subst (H code₂ values₂) p b

          pub undo-asks : Stand → BehindStands text code₂ values₂ (setting Undo) n₂.used UNDO z
          undo-asks g = undo-stands g code₁ values₁ e n (body-walked g) code₂ values₂ z n₂ handler-walked

          abbrev U : (code₃ values₃ : List ℕ) → Walked → Type 0
          U code₃ values₃ v = Behind text code₂ values₂ code₃ values₃ (setting Undo) n₂.used UNDO z v

          module _ (code₃ values₃ : List ℕ) (v : Walked) (d : U code₃ values₃ v) where
            pub third-faulty : (broken : Breach) → v ≡ Err broken → Lists text code values code₃ values₃ result taken h at (Err broken)
            unfolding SaysLists Tell
            third-faulty broken t = record {
              is = λ g.
                  found-in-undo (W g) (m g) (sigs g) g.k (s g).stands.form (s g).none (first g code₁ values₁ e n (body-walked g)).tells.none
                  (second g code₁ values₁ e n (body-walked g) code₂ values₂ z n₂ handler-walked).tells.none
                  (undo-answer g code₁ values₁ e n (body-walked g) code₂ values₂ z n₂ handler-walked code₃ values₃ (Err broken) (subst (U code₃ values₃) t d)).tells;
            }

            module _ (w : ℕ) (n₃ : Scope) (t : v ≡ Ok (w, n₃)) where
              pub ends-ask : Stand → (h + 1 < e) × (e ≤ z) × (z ≤ w) × (w < word_limit) × (w * 8 + 8 ≤ length code₃)
              ends-ask g = ends-stand g code₁ values₁ e n (body-walked g) code₂ values₂ z n₂ handler-walked code₃ values₃ w n₃ (subst (U code₃ values₃) t d)

              pub lists-done : (code₄ : List ℕ) (f : Bool) → f ≡ core.is_some result → Closes code₃ code₄ f h e z w → Lists text code values code₄ values₃ result taken h at (Ok (w + 1, n₃))
              unfolding SaysLists
              lists-done code₄ f fl c = record {
                is = λ g. lists-so g code₁ values₁ e n (body-walked g) code₂ values₂ z n₂ handler-walked code₃ values₃ w n₃ (subst (U code₃ values₃) t d) code₄ f fl c;
              }
