-- The routines, one after another.
use mathlib.Core.Path.{◌≡◌, refl, sym, ap, subst, ◌∙◌}
use mathlib.Core.Bool.{Bool, true, false, not}
use mathlib.Core.List.{List, [], ◌∷◌}
use mathlib.Core.Option.{Option, none, some}
use Prim.Native.Nat.{ℕ, suc, ◌+◌, ◌*◌, ◌<◌, ◌≤◌}
use native.Mathlib.Omega.{arith}
use native.Mathlib.Numerals.{add-one}
use lib.Dec.{eqb}
use lib.ListN.{length, get_or, drop}
use borrow.Author.Tests.{eq-eqb, ne_eqb}
use Rattle.laws.proofs.Tests.{test, by-same, by_less, by_last, false-true}
use Rattle.std.specs.Prelude.{if◌then◌else◌}
use Rattle.paper.specs.Sorts.{bytes, equal_texts, FUNC, ENDPROC, ENDFUNC}
use Rattle.paper.specs.Words.{Word, word_limit}
use Rattle.paper.specs.Trees.{Expr, Routine, Module}
use Rattle.paper.specs.Expressions.{starts_routine}
use Rattle.paper.specs.Names.{Meaning, unknown, routine_in, Text, sort_in, spelled, look_in, protected, meaning}
use Rattle.paper.specs.Declarations.{Signature, data_texts, routine_names, signatures}
use Rattle.paper.specs.Checks.{no_signature, is_main, main_in, main_of}
use Rattle.store_cells.specs.Cells.{cells_of, Put, Cleared}
use Rattle.store_cells.proofs.Kept.{put_same, put_other, clear-length, clear-drop, clear_in, clear_above}
use Rattle.code.specs.Cells.{head_at, op_at, value_at, place_at}
use Rattle.code.specs.Steps.{Head, no_head, numbered}
use Rattle.code.specs.Signatures.{first_parameter, result_at, head_in, signature_in, signature_end, SignatureAt}
use Rattle.code.proofs.Signatures.{types-length, signature-kept}
use Rattle.check_names.specs.Numbers.{number_of, IsName}
use Rattle.check_names.specs.Meanings.{first_meaning, cell_for}
use Rattle.check_names.specs.Promises.{store_bytes, number_at, meaning_at, number_limit}
use Rattle.check_names.proofs.Spellings.{number-most, name-inside}
use Rattle.grammar.specs.Form.{Parses, HeadAt, a-proc, a-func, RoutineAt, RoutinesAt}
use Rattle.grammar.proofs.Inversions.{NextOf, repeated-next, repeated-none}
use Rattle.grammar.proofs.Places.{routines-grow}
use Rattle.check_heads.specs.Stores.{Kept, Marked, Lain, length_at, spelled_at, Spells}
use Rattle.check_heads.specs.Trees.{word_of, head_for, heads_for, first_scopes}
use Rattle.check_heads.specs.Reads.{MainAt}
use Rattle.check_heads.specs.Parts.{store_cells, is_one_of, Has, Next, RoutineStands, RoutineKnown, Begun, main_after, Takes, main_word, RoutinesStand, RoutinesKnown, Routines}
use Rattle.check_heads.proofs.WordsInside.{in_routine, routine-words, expression-grows}
use Rattle.check_heads.proofs.ParameterTypes.{signature-given}
use Rattle.check_heads.proofs.Frames.{cell-above, kept_same, kept_on, kept-wider, put-kept, marked-same, marked-on, marked-wider, head-below, lain-kept, spells-kept}
use Rattle.check_heads.proofs.Leaves.{next-is}
use Rattle.check_heads.proofs.RoutineHead.{end-inside, close-inside, name-before, name-behind}
use Rattle.check_heads.proofs.RoutineNumbers.{drop-next, drop-less, drop_all, heads-length, head-at, signatures-length, signature_at, word_at, numbered-at}
use Rattle.check_heads.proofs.NamesOfRoutines.{routine-meant}
use Rattle.check_heads.proofs.NamesTaken.{NamesLeft, names-kept, names-still, names-then, names-start, names-tables, main-last, main_is, first_main, none-some, same-some}
use Rattle.std.specs.Prelude.{Option as Found, Some, None, IfSome}
use Rattle.std.proofs.lemmas.Option.{IfSome_then}

-- ---- signatures
head-kept : (C D : List ℕ) (h : ℕ) → head_at D h ≡ head_at C h → head_in D h ≡ head_in C h
unfolding head_in
head-kept C D h e = rw e

end_kept : (C D : List ℕ) (h : ℕ) → head_at D h ≡ head_at C h → signature_end D h ≡ signature_end C h
unfolding first_parameter
end_kept C D h e = rw e

begins-inside : (C : List ℕ) (h : ℕ) → h < signature_end C h
unfolding first_parameter
begins-inside C h = test (eqb (op_at C h) FUNC) (λ t. rw t (omega arith)) (λ t. rw t (omega arith))

signed-at : (C : List ℕ) (h : Head) (sig : Signature) (end : ℕ) → h ≡ head_in C h.word → signature_in C h.word ≡ sig → signature_end C h.word ≤ end → end ≤ word_limit → SignatureAt C h sig
unfolding head_in
signed-at C h sig end e s u l =
    let n : h.parameters ≡ value_at C h.word = ap (λ (x : Head). x.parameters) e in
    record { head-is = e; signature-is = sym s; inside = omega (arith, n) }

closing-one : {W : ℕ → ℕ} {E : (d at : ℕ) → Expr → (to : ℕ) → Type 0} {result : Option ℕ} {closing at name : ℕ} → HeadAt W E result closing at name → is_one_of ENDPROC ENDFUNC closing ≡ true
unfolding is_one_of
closing-one (a-proc p n c) = rw c
closing-one (a-func p t k n c) = rw c

head-word : (rs : List Routine) (k : ℕ) (r : Routine) (rest : List Routine) → drop k rs ≡ r ∷ rest → (get_or (heads_for rs) k no_head).word ≡ word_of r
unfolding head_for
head-word rs k r rest e = ap (λ (h : Head). h.word) (head-at rs k r rest e)

first-low : (b : Bool) (main : Found ℕ) (i : ℕ) → IfSome main (λ h. h ≤ i) → IfSome (first_main b i main) (λ h. h ≤ i)
first-low true None i h = omega arith
first-low false None i h = h
first-low b (Some m) i h = h

first-after : (text C : List ℕ) (name h : ℕ) (main : Found ℕ) → main_after text C name h main ≡ first_main (equal_texts (spelled_at text C name) (bytes "MAIN")) h main
unfolding main_after
first-after text C name h None = refl
first-after text C name h (Some m) = refl

-- ---- main
main-plain : (W : List Word) (m : Module) → meaning (first_scopes W m) (bytes "MAIN") ≡ look_in (routine_names W (data_texts W m.declared) 0 m.routines) (bytes "MAIN") unknown
unfolding meaning look_in protected equal_texts bytes
main-plain W m = refl

module _ (W : List Word) (m : Module) (C : List ℕ) where
  abbrev sigs : List Signature
  sigs = signatures W m 0 m.routines

  main-of-is : main_of W m ≡ main_in W sigs (routine_in (look_in (routine_names W (data_texts W m.declared) 0 m.routines) (bytes "MAIN") unknown))
  unfolding main_of
  main-of-is = ap (main_in W sigs) (routine-meant W m (bytes "MAIN") ∙ ap routine_in (main-plain W m))

  is-main-in : (h : ℕ) → is_main W (signature_in C h) ≡ (if eqb (op_at C h) FUNC then false else eqb (value_at C h) 0)
  unfolding is_main signature_in result_at
  is-main-in h =
      test (eqb (op_at C h) FUNC) (λ t. rw (t, is_main))
      (λ t. rw (t, is_main) (ap (λ (n : ℕ). eqb n 0) (types-length C (first_parameter C h) (value_at C h))))

  none-at : (r : Found ℕ) → r ≡ None → main_of W m ≡ none → MainAt (heads_for m.routines) (main_of W m) r
  none-at r q e = record { missing = λ _. e; found = λ h p. none-some (sym q ∙ p); inside = λ h p. none-some (sym q ∙ p); begins = λ h p. none-some (sym q ∙ p) }

  some-at : (r : Found ℕ) (h : ℕ) → r ≡ Some h → main_of W m ≡ some (numbered (heads_for m.routines) h) → numbered (heads_for m.routines) h < length (heads_for m.routines)
      → (get_or (heads_for m.routines) (numbered (heads_for m.routines) h) no_head).word ≡ h → MainAt (heads_for m.routines) (main_of W m) r
  some-at r h q e l w = record {
    missing = λ p. none-some (sym p ∙ q);
    found = λ j p. e ∙ ap (λ (x : ℕ). some (numbered (heads_for m.routines) x)) (same-some (sym q ∙ p));
    inside = λ j p. subst (λ (x : ℕ). numbered (heads_for m.routines) x < length (heads_for m.routines)) (same-some (sym q ∙ p)) l;
    begins = λ j p. subst (λ (x : ℕ). (get_or (heads_for m.routines) (numbered (heads_for m.routines) x) no_head).word ≡ x) (same-some (sym q ∙ p)) w;
  }

  pub main-at : (main r : Found ℕ) → r ≡ main_word C main
      → look_in (routine_names W (data_texts W m.declared) 0 m.routines) (bytes "MAIN") unknown ≡ main_is (numbered (heads_for m.routines)) main unknown
      → ((h : ℕ) → main ≡ Some h → numbered (heads_for m.routines) h < length (heads_for m.routines))
      → ((h : ℕ) → main ≡ Some h → (get_or (heads_for m.routines) (numbered (heads_for m.routines) h) no_head).word ≡ h)
      → ((q : ℕ) → q < length (heads_for m.routines) → signature_in C (get_or (heads_for m.routines) q no_head).word ≡ get_or sigs q no_signature)
      → MainAt (heads_for m.routines) (main_of W m) r
  unfolding main_word main_in routine_in
  main-at None r e means less word signed = none-at r e (main-of-is ∙ ap (λ (x : Meaning). main_in W sigs (routine_in x)) means)
  main-at (Some h) r e means less word signed =
      let k = numbered (heads_for m.routines) h in
      let sig : get_or sigs k no_signature ≡ signature_in C h = sym (signed k (less h refl)) ∙ ap (signature_in C) (word h refl) in
      let whole : main_of W m ≡ (if (if eqb (op_at C h) FUNC then false else eqb (value_at C h) 0) then some k else none) =
      main-of-is ∙ ap (λ (x : Meaning). main_in W sigs (routine_in x)) means ∙ ap (λ (s : Signature). if is_main W s then some k else none) sig ∙ ap (λ (b : Bool). if b then some k else none) (is-main-in h) in
      test (eqb (op_at C h) FUNC)
      (λ t. none-at r (e ∙ rw t) (whole ∙ rw t))
      (λ t. by-same (value_at C h) 0
      (λ v. some-at r h (e ∙ rw t (rw (eq-eqb (value_at C h) 0 v))) (whole ∙ rw t (rw (eq-eqb (value_at C h) 0 v))) (less h refl) (word h refl))
      (λ v. none-at r (e ∙ rw t (rw (ne_eqb (value_at C h) 0 v))) (whole ∙ rw t (rw (ne_eqb (value_at C h) 0 v)))))

-- ---- what is left
pub record RoutinesLeft {text code₀ values₀ : List ℕ} {at : ℕ} (g : RoutinesStand text code₀ values₀ at) (code values : List ℕ) (i k : ℕ) (main : Found ℕ) : Type 0 where
  pub rest : List Routine
  pub form : RoutinesAt (sort_in g.W) (Parses (sort_in g.W)) rest i g.end
  pub dropped : drop k g.m.routines ≡ rest
  pub earlier : List Text
  pub names : NamesLeft g.W g.m (cells_of values) earlier k rest main
  pub headed : (q : ℕ) → q < k → get_or (heads_for g.m.routines) q no_head ≡ head_in (cells_of code) (get_or (heads_for g.m.routines) q no_head).word
  pub signed : (q : ℕ) → q < k → signature_in (cells_of code) (get_or (heads_for g.m.routines) q no_head).word ≡ get_or (signatures g.W g.m 0 g.m.routines) q no_signature
  pub ended : (q : ℕ) → q < k → signature_end (cells_of code) (get_or (heads_for g.m.routines) q no_head).word ≤ i
  -- what was seen, and where nothing was
  pub low : (n : ℕ) → n < word_limit → get_or (cells_of values) n 0 < i
  pub untouched : (n : ℕ) → i ≤ n → n < word_limit → get_or (cells_of values) n 0 ≡ 0
  pub marked : Marked code₀ code at i
  pub kept : Kept values₀ values 0 store_cells
  pub main-low : IfSome main (λ h. h ≤ i)
  pub from : at ≤ i
  pub few : k ≤ i

pub record RoutinesPlain (code₀ values₀ code values : List ℕ) (i k : ℕ) (main : Found ℕ) : Type 0 where
  pub code-long : length code ≡ length code₀
  pub values-long : length values ≡ length values₀
  pub room : i * 8 + 8 ≤ length code
  pub last : i < word_limit
  pub values-room : store_bytes ≤ length values
  pub few : k ≤ i
  pub main-room : IfSome main (λ h. h * 8 + 8 ≤ length code)

pub record RoutinesGo (text code₀ values₀ : List ℕ) (at : ℕ) (code values : List ℕ) (i k : ℕ) (main : Found ℕ) : Type 0 where
  pub plain : RoutinesPlain code₀ values₀ code values i k main
  pub left : (g : RoutinesStand text code₀ values₀ at) → RoutinesLeft g code values i k main

module _ {text code₀ values₀ : List ℕ} {at : ℕ} (g : RoutinesStand text code₀ values₀ at) (code values : List ℕ) (i k : ℕ) (main : Found ℕ) (l : RoutinesLeft g code values i k main) where
  abbrev W : List Word
  W = g.W

  abbrev rs : List Routine
  rs = g.m.routines

  here : i < length W
  here = omega (arith, g.inside, routines-grow (sort_in W) (Parses (sort_in W)) (expression-grows (sort_in W)) l.form)

  routines-plain : RoutinesPlain code₀ values₀ code values i k main
  routines-plain = record {
    code-long = l.marked.kept.long;
    values-long = l.kept.long;
    room = omega (arith, here, l.marked.kept.long, g.lain.room, g.lain.most);
    last = omega (arith, here, g.lain.most);
    values-room = omega (arith, l.kept.long, g.room);
    few = l.few;
    main-room = IfSome_then main l.main-low (λ h u. omega (arith, here, u, l.marked.kept.long, g.lain.room, g.lain.most));
  }

  lain : Lain W code
  lain = lain-kept l.marked W g.lain

  module _ (s : ℕ) (e : s ≡ op_at (cells_of code) i) (b : Bool) (f : b ≡ starts_routine s) where
    starts_is : b ≡ starts_routine (sort_in W i)
    starts_is = f ∙ ap starts_routine (e ∙ lain.sorts i here)

    -- ---- behind the last one
    module _ (t : b ≡ false) (values' : List ℕ) (c : Cleared values values' 0 i) (r : Found ℕ) (z : r ≡ main_word (cells_of code) main) where
      none_left : (l.rest ≡ []) × (g.end ≡ i)
      none_left = repeated-none (sort_in W) (RoutineAt (sort_in W) (Parses (sort_in W))) l.form (sym starts_is ∙ t)

      clear_room : (0 + i) * 4 ≤ length values
      clear_room = omega (arith, here, l.kept.long, g.room, g.lain.most)

      names-last : NamesLeft W g.m (cells_of values') l.earlier k [] main
      names-last =
          names-kept W g.m (cells_of values) (cells_of values') l.earlier k [] main (λ j n. clear_above c clear_room (first_meaning + number_of W j) (omega (arith, here, g.lain.most)))
          (subst (λ (x : List Routine). NamesLeft W g.m (cells_of values) l.earlier k x main) none_left.0 l.names)

      all_done : length rs ≤ k
      all_done = drop_all rs k (l.dropped ∙ none_left.0)

      each : (q : ℕ) → q < length (heads_for rs) → signature_in (cells_of code) (get_or (heads_for rs) q no_head).word ≡ get_or (signatures W g.m 0 rs) q no_signature
      each q h = l.signed q (omega (arith, all_done, heads-length rs))

      signature-each : (q : ℕ) → q < length (heads_for rs) → SignatureAt (cells_of code) (get_or (heads_for rs) q no_head) (get_or (signatures W g.m 0 rs) q no_signature)
      signature-each q h =
          let d : q < k = omega (arith, all_done, heads-length rs) in
          signed-at (cells_of code) (get_or (heads_for rs) q no_head) (get_or (signatures W g.m 0 rs) q no_signature) i (l.headed q d) (each q h) (l.ended q d) (omega (arith, here, g.lain.most))

      routines-known : RoutinesKnown W g.m g.end code₀ values₀ at code values' r
      routines-known = record {
        tables = names-tables W g.m (cells_of values') l.earlier k main names-last;
        filled = record {
          zeros = λ n h. by_less n i (λ u. let z : 0 + n ≡ n = omega arith in sym (ap (λ (x : ℕ). get_or (cells_of values') x 0) z) ∙ clear_in c clear_room n u) (λ u. clear_above c clear_room n (omega arith) ∙ l.untouched n u h);
          beyond = clear-drop c clear_room store_bytes (omega (arith, here, g.lain.most)) ∙ l.kept.above;
          long = clear-length c clear_room ∙ l.kept.long;
        };
        heads = record { as_many = heads-length rs ∙ sym (signatures-length W g.m 0 rs); each = signature-each };
        marked = subst (Marked code₀ code at) (sym none_left.1) l.marked;
        main = main-at W g.m (cells_of code) main r z (main-last W g.m (cells_of values') l.earlier k main names-last)
            names-last.main-less names-last.main-word each;
      }

    -- ---- the next one
    module _ (t : b ≡ true) where
      one : NextOf (sort_in W) (RoutineAt (sort_in W) (Parses (sort_in W))) starts_routine l.rest i g.end
      one = repeated-next (sort_in W) (RoutineAt (sort_in W) (Parses (sort_in W))) l.form (sym starts_is ∙ t)

      routine-stands : RoutineStands code values i k
      routine-stands = record {
        W = W;
        r = one.a;
        to = one.n;
        form = one.one;
        lain = lain;
        guards = l.names.guards;
        unseen = λ j n q. omega (arith, l.low (number_of W j) (omega (arith, number-most W j n, name-inside W j n, g.lain.most)));
        room = omega (arith, l.kept.long, g.room);
      }

      end_low : one.one.end < length W
      end_low = end-inside W one.a i one.n one.one

      name-low : one.a.name + 3 ≤ one.one.end
      name-low = omega (arith, name-before W one.a i one.n one.one, close-inside W one.a i one.n one.one)

      name-high : i < one.a.name
      name-high = name-behind W one.a i one.n one.one

      to_is : one.n ≡ one.one.end + 1
      to_is = one.one.after

      at-k : drop k rs ≡ one.a ∷ one.rest
      at-k = l.dropped ∙ one.is

      word-is : word_of one.a ≡ i
      word-is = word_at (sort_in W) one.a i one.n one.one

      head-word-is : (get_or (heads_for rs) k no_head).word ≡ i
      head-word-is = head-word rs k one.a one.rest at-k ∙ word-is

      number-k : numbered (heads_for rs) i ≡ k
      number-k = ap (numbered (heads_for rs)) (sym word-is) ∙ numbered-at (sort_in W) g.form k one.a one.rest at-k

      k-less : k < length (heads_for rs)
      k-less = omega (arith, heads-length rs, drop-less rs k one.a one.rest at-k)

      module _ (code' values₁ : List ℕ) (name : ℕ) (p : RoutineKnown W one.a one.n code values i k code' values₁ name) where
        marked_all : Marked code₀ code' at one.n
        marked_all = marked-on (marked-wider l.marked at one.n (omega arith) (omega (arith, name-high, name-low, to_is))) (marked-wider p.marked at one.n l.from (omega arith))

        lain-then : Lain W code'
        lain-then = lain-kept marked_all W g.lain

        spells_then : Spells text W code'
        spells_then = spells-kept marked_all text W g.lain g.spells

        name-is : name ≡ one.a.name
        name-is = p.name

        is_name : IsName W name
        is_name = ap (sort_in W) name-is ∙ one.one.name

        values-long₁ : length values₁ ≡ length values₀
        values-long₁ = p.kept.long ∙ l.kept.long

        cells-kept : (j : ℕ) → IsName W j → cell_for W (cells_of values₁) j ≡ cell_for W (cells_of values) j
        cells-kept j n = cell-above p.kept (first_meaning + number_of W j) (omega (arith, to_is, end_low, g.lain.most))

        take-asks : (name * 8 + 8 ≤ length code') × (place_at (cells_of code') name + length_at (cells_of code') name ≤ length text) × (store_bytes ≤ length values₁) × (i < word_limit)
        take-asks =
            (omega (arith, name-is, name-low, end_low, lain-then.room, lain-then.most), spells_then.inside name is_name, omega (arith, values-long₁, g.room), omega (arith, here, g.lain.most))

        end-one : is_one_of ENDPROC ENDFUNC (op_at (cells_of code') one.one.end) ≡ true
        end-one = ap (is_one_of ENDPROC ENDFUNC) (lain-then.sorts one.one.end end_low) ∙ closing-one one.one.head

        end-has : Has code' name ENDPROC ENDFUNC
        end-has = record { n = one.one.end; from = omega (arith, name-is, name-low); room = omega (arith, end_low, lain-then.room, lain-then.most); is = end-one }

        none_before : (q : ℕ) → name ≤ q → q < one.one.end → is_one_of ENDPROC ENDFUNC (op_at (cells_of code') q) ≡ false
        unfolding in_routine
        none_before q h u =
            ap (is_one_of ENDPROC ENDFUNC) (lain-then.sorts q (omega (arith, end_low)))
            ∙ turned (is_one_of ENDPROC ENDFUNC (sort_in W q)) ((routine-words (sort_in W) one.a i one.n one.one).each q (omega (arith, name-is)) u)
          where
            turned : (x : Bool) → not x ≡ true → x ≡ false
            turned true h = false-true h
            turned false h = refl

        -- ---- its name
        module _ (values₂ : List ℕ) (main' : Found ℕ) (y : Takes text code' values₁ i name main values₂ main') where
          number_is : number_at (cells_of code') name ≡ number_of W name
          number_is = lain-then.numbers name is_name

          number-low : number_of W name < number_limit
          number-low = omega (arith, number-most W name is_name, name-inside W name is_name, g.lain.most)

          cell-is : meaning_at (cells_of code') (cells_of values₁) name ≡ cell_for W (cells_of values₁) one.a.name
          cell-is = ap (λ (x : ℕ). get_or (cells_of values₁) (first_meaning + x) 0) number_is ∙ ap (cell_for W (cells_of values₁)) name-is

          names₁ : NamesLeft W g.m (cells_of values₁) l.earlier k (one.a ∷ one.rest) main
          names₁ =
              names-kept W g.m (cells_of values) (cells_of values₁) l.earlier k (one.a ∷ one.rest) main cells-kept
              (subst (λ (x : List Routine). NamesLeft W g.m (cells_of values) l.earlier k x main) one.is l.names)

          record Took : Type 0 where
            pub earlier : List Text
            pub names : NamesLeft W g.m (cells_of values₂) earlier (suc k) one.rest main'
            pub below : (n : ℕ) → n < word_limit → get_or (cells_of values₂) n 0 ≡ get_or (cells_of values₁) n 0
            pub kept : Kept values₁ values₂ 0 store_cells
            pub main-low : IfSome main' (λ h. h ≤ i)

          took-free : meaning_at (cells_of code') (cells_of values₁) name ≡ 0 → Took
          unfolding main_after
          took-free q =
              let put : Put values₁ values₂ (first_meaning + number_of W name) (20 + 256 * i) = subst (λ (x : ℕ). Put values₁ values₂ (first_meaning + x) (20 + 256 * i)) number_is (y.free q) in
              let room : (first_meaning + number_of W name) * 4 + 4 ≤ length values₁ = omega (arith, number-low, values-long₁, g.room) in
              let numbers : number_of W name ≡ number_of W one.a.name = ap (number_of W) name-is in
              let spelt : spelled_at text (cells_of code') name ≡ spelled W one.a.name = spells_then.is name is_name ∙ ap (spelled W) name-is in
              let after : main' ≡ first_main (equal_texts (spelled W one.a.name) (bytes "MAIN")) i main =
              y.main-then q ∙ first-after text (cells_of code') name i main ∙ ap (λ (u : Text). first_main (equal_texts u (bytes "MAIN")) i main) spelt in
              record {
                earlier = spelled W one.a.name ∷ l.earlier;
                names = names-then W g.m (cells_of values₁) l.earlier k one.a one.rest main names₁ one.one.name i number-k k-less head-word-is (cells_of values₂) (sym cell-is ∙ q)
                    (λ j n d. ap (λ (x : ℕ). get_or (cells_of values₂) (first_meaning + x) 0) (d ∙ sym numbers) ∙ put_same put room)
                    (λ j n d. put_other put room (first_meaning + number_of W j) (λ x. d (omega (arith, numbers))))
                    main' after;
                below = λ n h. put_other put room n (λ x. omega arith);
                kept = put-kept 0 store_cells put room (omega arith) (omega (arith, number-low));
                main-low = subst (λ (x : Found ℕ). IfSome x (λ h. h ≤ i)) (sym after) (first-low (equal_texts (spelled W one.a.name) (bytes "MAIN")) main i l.main-low);
              }

          took-taken : (meaning_at (cells_of code') (cells_of values₁) name ≡ 0 → ⊥) → Took
          took-taken d = record {
            earlier = l.earlier;
            names = subst (λ (x : Found ℕ). NamesLeft W g.m (cells_of values₂) l.earlier (suc k) one.rest x) (sym (y.main-still d))
                (subst (λ (v : List ℕ). NamesLeft W g.m (cells_of v) l.earlier (suc k) one.rest main) (sym (y.taken d))
                (names-still W g.m (cells_of values₁) l.earlier k one.a one.rest main names₁ one.one.name (λ q. d (cell-is ∙ q))));
            below = λ n h. ap (λ (v : List ℕ). get_or (cells_of v) n 0) (y.taken d);
            kept = subst (λ (v : List ℕ). Kept values₁ v 0 store_cells) (sym (y.taken d)) (kept_same values₁ 0 store_cells);
            main-low = subst (λ (x : Found ℕ). IfSome x (λ h. h ≤ i)) (sym (y.main-still d)) l.main-low;
          }

          took : Took
          took = by-same (meaning_at (cells_of code') (cells_of values₁) name) 0 took-free took-taken

          -- ---- signatures so far, and its own
          head-same : (q : ℕ) → q < i → head_at (cells_of code') q ≡ head_at (cells_of code) q
          head-same q h = head-below p.marked q h

          signed-then : (q : ℕ) → q < suc k → signature_in (cells_of code') (get_or (heads_for rs) q no_head).word ≡ get_or (signatures W g.m 0 rs) q no_signature
          signed-then q h =
              by_last q k h
              (λ e. rw e (ap (signature_in (cells_of code')) head-word-is ∙ p.signature ∙ signature-given W g.m k one.a (one.a.name + 2) one.one.close one.one.parameters ∙ sym (signature_at W g.m rs k one.a one.rest at-k)))
              (λ u. let w = (get_or (heads_for rs) q no_head).word in
              signature-kept (cells_of code) (cells_of code') w (λ j a b. head-same j (omega (arith, l.ended q u))) ∙ l.signed q u)

          headed-then : (q : ℕ) → q < suc k → get_or (heads_for rs) q no_head ≡ head_in (cells_of code') (get_or (heads_for rs) q no_head).word
          headed-then q h =
              by_last q k h
              (λ e. rw e (head-at rs k one.a one.rest at-k ∙ p.head ∙ ap (head_in (cells_of code')) (sym head-word-is)))
              (λ u. let w = (get_or (heads_for rs) q no_head).word in
              l.headed q u ∙ sym (head-kept (cells_of code) (cells_of code') w (head-same w (omega (arith, begins-inside (cells_of code) w, l.ended q u)))))

          ended-then : (q : ℕ) → q < suc k → signature_end (cells_of code') (get_or (heads_for rs) q no_head).word ≤ one.n
          ended-then q h =
              by_last q k h
              (λ e. rw e (subst (λ (x : ℕ). signature_end (cells_of code') x ≤ one.n) (sym head-word-is) p.ends))
              (λ u. let w = (get_or (heads_for rs) q no_head).word in
              omega (arith, end_kept (cells_of code) (cells_of code') w (head-same w (omega (arith, begins-inside (cells_of code) w, l.ended q u))), l.ended q u, name-high, name-low, to_is))

          routines-next : (x : ℕ) → Next code' name ENDPROC ENDFUNC x → RoutinesLeft g code' values₂ (x + 1) (k + 1) main'
          routines-next x v =
              let to : x + 1 ≡ one.n = ap (λ (u : ℕ). u + 1) (next-is code' name ENDPROC ENDFUNC x one.one.end v (omega (arith, name-is, name-low)) end-one none_before) ∙ sym to_is in
              let more : k + 1 ≡ suc k = add-one k in
              let far : i < one.n = omega (arith, name-high, name-low, to_is) in
              subst (λ (u : ℕ). RoutinesLeft g code' values₂ u (k + 1) main') (sym to)
              (subst (λ (u : ℕ). RoutinesLeft g code' values₂ one.n u main') (sym more)
              (record {
                rest = one.rest;
                form = one.more;
                dropped = drop-next rs k one.a one.rest at-k;
                earlier = took.earlier;
                names = took.names;
                signed = signed-then;
                headed = headed-then;
                ended = ended-then;
                low = λ n h. subst (λ (u : ℕ). u < one.n) (sym (took.below n h)) (p.sees one.n far (λ q u. omega (arith, l.low q u)) n h);
                untouched = λ n a h. took.below n h ∙ cell-above p.kept n a ∙ l.untouched n (omega arith) h;
                marked = marked_all;
                kept = kept_on l.kept (kept_on (kept-wider p.kept 0 store_cells (omega arith) (omega (arith, to_is, end_low, g.lain.most))) took.kept);
                main-low = IfSome_then main' took.main-low (λ h u. omega (arith, u, far));
                from = omega (arith, l.from);
                few = omega (arith, l.few);
              }))

-- ---- the loop
module _ (text code values : List ℕ) (at : ℕ) (g : RoutinesStand text code values at) where
  pub routines-start : RoutinesGo text code values at code values at 0 None
  routines-start = record { plain = routines-plain g code values at 0 None (starts g); left = starts }
    where
      starts : (g : RoutinesStand text code values at) → RoutinesLeft g code values at 0 None
      starts g = record {
        rest = g.m.routines;
        form = g.form;
        dropped = refl;
        earlier = data_texts g.W g.m.declared;
        names = names-start g.W g.m (cells_of values) g.cells;
        signed = λ q h. absurd (omega arith);
        headed = λ q h. absurd (omega arith);
        ended = λ q h. absurd (omega arith);
        low = λ n h. subst (λ (x : ℕ). x < at) (sym (g.zeros n h)) g.some;
        untouched = λ n a h. g.zeros n h;
        marked = marked-same code at at;
        kept = kept_same values 0 store_cells;
        main-low = tt;
        from = omega arith;
        few = omega arith;
      }

module _ (text code₀ values₀ : List ℕ) (at : ℕ) (g : RoutinesStand text code₀ values₀ at) (code values : List ℕ) (i k : ℕ) (main : Found ℕ) (l : RoutinesGo text code₀ values₀ at code values i k main)
    (s : ℕ) (e : s ≡ op_at (cells_of code) i) (b : Bool) (f : b ≡ starts_routine s) where
  pub routines-done : b ≡ false → (values' : List ℕ) → Cleared values values' 0 i → (r : Found ℕ) → r ≡ main_word (cells_of code) main → Routines text code₀ values₀ at code values' r
  routines-done t values' c r z = record { is = λ g. routines-known g code values i k main (l.left g) s e b f t values' c r z }

  module _ (t : b ≡ true) where
    pub head-asks : RoutineStands code values i k
    head-asks = routine-stands g code values i k main (l.left g) s e b f t

    module _ (code' values₁ : List ℕ) (name : ℕ) (p : Begun code values i k code' values₁ name) where
      known : (g : RoutinesStand text code₀ values₀ at) → RoutineKnown g.W (one g code values i k main (l.left g) s e b f t).a (one g code values i k main (l.left g) s e b f t).n code values i k code' values₁ name
      unfolding routine-stands
      known g = p.is (routine-stands g code values i k main (l.left g) s e b f t)

      pub name-asks : (name * 8 + 8 ≤ length code') × (place_at (cells_of code') name + length_at (cells_of code') name ≤ length text) × (store_bytes ≤ length values₁) × (i < word_limit)
      name-asks = take-asks g code values i k main (l.left g) s e b f t code' values₁ name (known g)

      pub next-asks : Has code' name ENDPROC ENDFUNC
      next-asks = end-has g code values i k main (l.left g) s e b f t code' values₁ name (known g)

      pub name-further : i < name
      name-further = omega (arith, name-is g code values i k main (l.left g) s e b f t code' values₁ name (known g), name-high g code values i k main (l.left g) s e b f t)

      pub routines-again : (values₂ : List ℕ) (main' : Found ℕ) → Takes text code' values₁ i name main values₂ main' → (x : ℕ) → Next code' name ENDPROC ENDFUNC x → RoutinesGo text code₀ values₀ at code' values₂ (x + 1) (k + 1) main'
      routines-again values₂ main' y x v = record {
        plain = routines-plain g code' values₂ (x + 1) (k + 1) main' (routines-next g code values i k main (l.left g) s e b f t code' values₁ name (known g) values₂ main' y x v);
        left = λ g. routines-next g code values i k main (l.left g) s e b f t code' values₁ name (known g) values₂ main' y x v;
      }
