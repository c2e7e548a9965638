-- A declaration by its content: an array, or a scalar with or without a value.
use mathlib.Core.Path.{◌≡◌, refl, sym, ap, subst, ◌∙◌}
use mathlib.Core.Bool.{Bool, true, false}
use mathlib.Core.List.{List, [], ◌∷◌, ◌++◌, map}
use Prim.Native.Nat.{ℕ, suc, ◌+◌, ◌*◌, ◌/◌, ◌%◌, ◌<◌, ◌≤◌}
use native.Mathlib.Omega.{arith}
use lib.ListN.{length, replicate, length-replicate}
use lib.IntN.{pos}
use Rattle.laws.proofs.Tests.{false-true}
use mir.Syntax.{w32, w64}
use mir.Val.{Fits}
use Rattle.paper.specs.Sorts.{open_brace}
use Rattle.paper.specs.Words.{Word, word_limit}
use Rattle.paper.specs.Terms.{Ref, Memory}
use Rattle.paper.specs.Trees.{Expr, Content}
use Rattle.paper.specs.Expressions.{nestings, level_of}
use Rattle.paper.specs.Names.{DataType, a_num, array, type_of, text_of, Scopes, sort_in, spelled, cannot_declare}
use Rattle.paper.specs.Types.{Fault, constant_faults, size_of, is_no_size, element_limit}
use Rattle.paper.specs.Declarations.{Filling, module_word_limit}
use Rattle.store_cells.specs.Cells.{cells_of}
use Rattle.code.specs.Cells.{op_at}
use Rattle.code.specs.Spans.{bias}
use Rattle.layout.specs.Parts.{size_part}
use Rattle.layout.specs.Rules.{taken_name, too_many}
use Rattle.check_names.specs.Meanings.{an_array, cell_with, type_with, ref_with, meaning_with, meaning_in}
use Rattle.check_names.proofs.Tables.{meaning-with}
use Rattle.grammar.specs.Form.{Parses}
use Rattle.grammar.proofs.Inversions.{Sized, content-sized}
use Rattle.grammar.proofs.Places.{content-grows}
use Rattle.faults.specs.First.{First, no-fault}
use Rattle.faults.specs.Added.{content_slots, content_faults, declared_faults}
use Rattle.faults.proofs.Expressions.{grows}
use Rattle.faults.proofs.First.{every_one, nothing-in-both}
use Rattle.faults.proofs.Declarations.{name-taken, name-crosses, name-fits, found-in-name, found-in-content}
use Rattle.store_writing.specs.Promises.{Kept}
use Rattle.store_writing.proofs.Keeping.{cell_below, cell-above}
use Rattle.check_constants.specs.Sizing.{Sized as Size}
use Rattle.check_constants.specs.Answers.{Asks, Sizes, Counted}
use Rattle.check_constants.specs.Answers as constants
use Rattle.check_names.specs.declared.Scope.{Scope}
use Rattle.check_names.specs.Scopes.{with_used}
use Rattle.check_names.specs.Scopes.{Walked}
use Rattle.std.specs.Prelude.{Ok, Err}
use Rattle.layout.specs.Broken.{as_fault}
use Rattle.layout.specs.declared.rules.Breach.{Breach}
use Rattle.layout.specs.declared.rules.Rule.TheVariants.{TakenName, TooMany}
use Rattle.check_sites.specs.Sites.{filling, own_of, scopes_of, memory_of, Placed, owned, Owns}
use Rattle.check_datum.specs.Answers.{Begins, Free, faults_of, Says, Declares, Near}
use Rattle.check_sites.specs.Parts.{Taken, Makes}
use Rattle.check_datum.specs.Parts.{Starts, DeclaresFree}
use Rattle.check_sites.proofs.TwoSites.{site-ref, own-small, own-here, among-new, limit-most, used-most, crossing, not-crossing}
use Rattle.check_datum.proofs.OneDeclaration.{asks_of, content_meaning, content-used, Around, name-keeps, words-changed, words-written, now-filled}

-- ---- of any declaration
module _ {code values : List ℕ} {own limit used i : ℕ} (b : Begins code values own limit used i) where
  abbrev pub F : Filling
  F = filling b.W b.s

  abbrev pub type : DataType
  type = type_of b.x.type

  abbrev pub content : Content
  content = b.x.content

  pub far : i + 4 ≤ b.to
  far = let g = content-grows (sort_in b.W) (Parses (sort_in b.W)) (grows b.W) b.stands.content in omega (arith, g, b.stands.after)

  pub room-left : length b.D.words ≤ F.limit
  room-left = used-most b.W b.s b.D.words b.filled.most b.filled.window

  pub near : Near code values own limit used i
  near =
      let l = b.loaded.last in
      let r = b.loaded.room in
      (omega (arith, far, l), omega (arith, far, r), b.filled.table, omega (arith, own-small b.W b.s, b.own_is), omega (arith, room-left, b.used-is, b.limit_is), omega (arith, limit-most b.W b.s, b.limit_is))

  pub sort-is : (k : ℕ) → k ≤ 4 → op_at (cells_of code) (i + k) ≡ sort_in b.W (i + k)
  sort-is k h = (b.loaded.words (i + k) (omega arith) (omega (arith, far))).sort

  pub opens-is : op_at (cells_of code) i ≡ sort_in b.W i
  opens-is = (b.loaded.words i (omega arith) (omega (arith, far))).sort

  pub free-name : Free b → cannot_declare (map text_of b.D.names) (spelled b.W b.x.name) ≡ false
  free-name h = ap (λ (k : ℕ). cannot_declare (map text_of b.D.names) (spelled b.W k)) b.stands.named ∙ h

  -- the word that its data begin with, as the table has it
  pub ref-is : ref_with own used ≡ F.ref (length b.D.words)
  ref-is = ap (λ (k : ℕ). ref_with k used) b.own_is ∙ ap (ref_with (own_of b.s)) b.used-is ∙ sym (site-ref b.W b.s (length b.D.words))

  -- no fault
  pub clean : Free b → length b.D.words + length (content_slots b.W F content b.D) ≤ F.limit → content_faults b.W F type content b.D ≡ [] → faults_of b ≡ []
  unfolding declared_faults
  clean free fits none =
      nothing-in-both (name-fits b.W F b.x.name (content_slots b.W F content b.D) b.D (free-name free) (not-crossing F.limit (length b.D.words) _ fits)) none

  -- the fault of the constant expression
  pub in-content : (f : Fault) → Free b → length b.D.words + length (content_slots b.W F content b.D) ≤ F.limit → First f (content_faults b.W F type content b.D) → First f (faults_of b)
  in-content f free fits h =
      found-in-content b.W F type b.x.name content b.D
      (name-fits b.W F b.x.name (content_slots b.W F content b.D) b.D (free-name free) (not-crossing F.limit (length b.D.words) _ fits)) h

  -- "16: the name that crosses"
  pub too-many : Free b → F.limit < length b.D.words + length (content_slots b.W F content b.D) → First (record { number = too_many; at = i + 2 }) (faults_of b)
  too-many free over =
      subst (λ (k : ℕ). First (record { number = too_many; at = k }) (faults_of b)) b.stands.named
      (found-in-name b.W F type b.D b.stands
      (name-crosses b.W F b.x.name (content_slots b.W F content b.D) b.D (free-name free) (crossing F.limit (length b.D.words) _ room-left over)))

pub around-kept : (code mid : List ℕ) (i at n to : ℕ) → i + 3 ≤ at → n ≤ to → Kept code mid at n → Around code mid i to
around-kept code mid i at n to h g k = record { below = λ j l. cell_below k j (omega arith); above = λ j l. cell-above k j (omega arith); long = k.long }

-- ---- arrays
none_first : {A : Type 0} (f : Fault) → First f [] → A
none_first f h = absurd (every_one {Q = λ g. ⊥} no-fault h.among)

size-refused : (W : List Word) (S : Scopes) (M : Memory) (e : Expr) (f : Fault) → First f (constant_faults W is_no_size a_num S M e) → size_of W S M e ≡ 0
unfolding size_of
size-refused W S M e f h = by-faults (constant_faults W is_no_size a_num S M e) refl
  where
    by-faults : (l : List Fault) → constant_faults W is_no_size a_num S M e ≡ l → size_of W S M e ≡ 0
    by-faults [] q = none_first f (subst (First f) q h)
    by-faults (g ∷ r) q = rw (q, size_of)

says-sized : (W : List Word) (S : Scopes) (M : Memory) (e : Expr) (to : ℕ) (c : Size) (count next : ℕ) → c ≡ Ok (count, next) → constants.SaysSize W S M e to c → Counted W S M e to count next
unfolding constants.SaysSize
says-sized W S M e to c count next q h = subst (constants.SaysSize W S M e to) q h

says-unsized : (W : List Word) (S : Scopes) (M : Memory) (e : Expr) (to : ℕ) (c : Size) (broken : Breach) → c ≡ Err broken → constants.SaysSize W S M e to c
    → First (as_fault broken) (constant_faults W is_no_size a_num S M e)
unfolding constants.SaysSize
says-unsized W S M e to c broken q h = subst (constants.SaysSize W S M e to) q h

-- an answer's numbers
module _ (code values mid : List ℕ) (at : ℕ) (c : Size) (a : Asks code values at) (o : Sizes code values mid at c) (count next : ℕ) (q : c ≡ Ok (count, next)) where
  counted : Counted a.stands.known.W a.stands.known.S a.M a.stands.e a.stands.to count next
  counted = says-sized a.stands.known.W a.stands.known.S a.M a.stands.e a.stands.to c count next q (o.says a)

  pub count_most : count ≤ element_limit
  count_most = counted.most

  pub count-adds : (used limit : ℕ) → used ≤ limit → limit ≤ module_word_limit → Fits w32 (used + count)
  count-adds used limit h g = record { fits = omega (arith, count_most) }

  pub count-above : Fits w32 (size_part * count)
  count-above = record { fits = omega (arith, count_most) }

  pub count-packs : (used limit : ℕ) → used ≤ limit → limit ≤ module_word_limit → Fits w32 (used + size_part * count)
  count-packs used limit h g = record { fits = omega (arith, count_most) }

  pub count-value : (used limit : ℕ) → used ≤ limit → limit ≤ module_word_limit → used + size_part * count < 1048576
  count-value used limit h g = omega (arith, count_most)

  pub count-scope : (used limit : ℕ) → used ≤ limit → limit ≤ module_word_limit → used + count < 16777216
  count-scope used limit h g = omega (arith, count_most)

  count_next : next < word_limit
  count_next = let l = a.stands.loaded.last in omega (arith, counted.next-is, l)

  pub next-adds : Fits w64 (next + 2)
  next-adds = record { fits = omega (arith, count_next) }

module _ {code values : List ℕ} {own limit used i : ℕ} (brace : op_at (cells_of code) (i + 3) ≡ open_brace) where
  module _ (b : Begins code values own limit used i) where
    sized : Sized (sort_in b.W) (Parses (sort_in b.W)) (content b) (i + 3) b.stands.end
    sized = content-sized (sort_in b.W) (Parses (sort_in b.W)) b.stands.content (sym (sort-is b 3 (omega arith)) ∙ brace)

    ends-none : level_of (sort_in b.W sized.n) ≡ 0
    unfolding level_of
    ends-none = ap level_of sized.closes ∙ refl

    start_is : i + 3 + 1 ≡ i + 4
    start_is = omega arith

    before-end : sized.n ≤ b.to
    before-end = omega (arith, sized.after, b.stands.after)

    abbrev size-asks : Asks code values (i + 4)
    size-asks =
        asks_of b.W b.routine b.s b.D values b.filled code i b.to (i + 4) sized.n sized.e b.loaded
        (subst (λ (k : ℕ). Parses (sort_in b.W) (suc nestings) k sized.e sized.n) start_is sized.stands) ends-none (omega arith) before-end

  pub array-asks : Begins code values own limit used i → Asks code values (i + 4)
  array-asks b = size-asks b

  module _ (mid : List ℕ) (c : Size) (o : Sizes code values mid (i + 4) c) where
    S : (b : Begins code values own limit used i) → Scopes
    S b = scopes_of b.W b.s b.D

    pub array-faulty : (broken : Breach) → c ≡ Err broken → DeclaresFree code values mid values own limit used i (Err broken)
    unfolding Says content_faults content_slots
    array-faulty broken q = record {
      is = λ b free.
          let e = (sized b).e in
          let h = says-unsized b.W (scopes_of b.W b.s b.D) (memory_of b.W b.s b.D) e (sized b).n c broken q (o.says (size-asks b)) in
          let z : length (content_slots b.W (F b) (content b) b.D) ≡ 0 =
          ap (λ (x : Content). length (content_slots b.W (F b) x b.D)) (sized b).is ∙ length-replicate _ (pos 0) ∙ size-refused b.W _ _ e _ h in
          in-content b (as_fault broken) free (omega (arith, z, room-left b))
          (subst (λ (x : Content). First (as_fault broken) (content_faults b.W (F b) (type b) x b.D)) (sym (sized b).is) h);
    }

    module _ (count next : ℕ) (q : c ≡ Ok (count, next)) where
      count-is : (b : Begins code values own limit used i) → Counted b.W (scopes_of b.W b.s b.D) (memory_of b.W b.s b.D) (sized b).e (sized b).n count next
      count-is b = says-sized b.W (scopes_of b.W b.s b.D) (memory_of b.W b.s b.D) (sized b).e (sized b).n c count next q (o.says (size-asks b))

      words_are : (b : Begins code values own limit used i) → content_slots b.W (F b) (content b) b.D ≡ replicate count (pos 0)
      unfolding content_slots
      words_are b = ap (λ (x : Content). content_slots b.W (F b) x b.D) (sized b).is ∙ ap (λ (n : ℕ). replicate n (pos 0)) (sym (count-is b).is)

      long-is : (b : Begins code values own limit used i) → length (content_slots b.W (F b) (content b) b.D) ≡ count
      long-is b = ap length (words_are b) ∙ length-replicate count (pos 0)

      pub array-crosses : limit < used + count → DeclaresFree code values mid values own limit used i (Err (record { rule = TooMany; word = i + 2 }))
      unfolding Says
      array-crosses over = record { is = λ b free. too-many b free (omega (arith, over, long-is b, b.used-is, b.limit_is)) }

      module _ (fits : used + count ≤ limit) (code₂ code' values₂ values' : List ℕ) (made : Makes mid values code₂ values₂ (i + 2) an_array own (used + size_part * count))
          (started : Starts code₂ values₂ code' values' own used count 0 bias i) where
        array-means : (b : Begins code values own limit used i) (bool : ℕ) → bool < 2 → type_with bool ≡ type b
            → meaning_in b.routine (cell_with an_array bool own (used + size_part * count)) ≡ content_meaning b.W (F b) (type b) (content b) b.D ((F b).ref (length b.D.words))
        unfolding content_meaning meaning_with
        array-means b bool h t =
            let k = count-is b in
            let m = near b in
            let small : used < size_part = omega (arith, fits, k.some, m.5) in
            let first : (used + size_part * count) % size_part ≡ used = omega arith in
            let size : (used + size_part * count) / size_part ≡ count = omega arith in
            meaning-with b.routine an_array bool own (used + size_part * count) (omega arith) h m.3
            ∙ ap (λ (y : DataType). array y (ref_with own ((used + size_part * count) % size_part)) ((used + size_part * count) / size_part)) t
            ∙ ap (λ (y : ℕ). array (type b) (ref_with own y) ((used + size_part * count) / size_part)) first
            ∙ ap (array (type b) (ref_with own used)) (size ∙ k.is)
            ∙ ap (λ (r : Ref). array (type b) r (size_of b.W (scopes_of b.W b.s b.D) (memory_of b.W b.s b.D) (sized b).e)) (ref-is b)
            ∙ ap (λ (x : Content). content_meaning b.W (F b) (type b) x b.D ((F b).ref (length b.D.words))) (sym (sized b).is)

        array-mine : (b : Begins code values own limit used i) → owned (own_of b.s) (content_meaning b.W (F b) (type b) (content b) b.D ((F b).ref (length b.D.words))) ≡ true
        unfolding content_meaning owned
        array-mine b = ap (λ (x : Content). owned (own_of b.s) (content_meaning b.W (F b) (type b) x b.D ((F b).ref (length b.D.words)))) (sized b).is ∙ own-here b.W b.s (length b.D.words)

        array_placed : (b : Begins code values own limit used i)
            → Placed ((F b).memory_with (b.D.words ++ content_slots b.W (F b) (content b) b.D)) (content_meaning b.W (F b) (type b) (content b) b.D ((F b).ref (length b.D.words)))
        unfolding content_meaning Placed
        array_placed b =
            let k = count-is b in
            let vs = content_slots b.W (F b) (content b) b.D in
            subst (λ (x : Content). Placed ((F b).memory_with (b.D.words ++ vs)) (content_meaning b.W (F b) (type b) x b.D ((F b).ref (length b.D.words)))) (sym (sized b).is)
            (record { room = among-new b.W b.s b.D.words vs (length b.D.words) _ (omega (arith, long-is b, k.is)); some = omega (arith, k.some, k.is); ranged = λ e. false-true e })

        pub array-goes : (filled : Scope) → filled.used ≡ used + count → DeclaresFree code values code' values' own limit used i (Ok (next + 2, filled))
        unfolding Says content_faults
        array-goes filled e = record {
          is = λ b free. subst (λ (u : ℕ). Says b code' values' (Ok (next + 2, with_used u filled))) (sym e) (
              let k = count-is b in
              let around = around-kept code mid i (i + 4) (sized b).n b.to (omega arith) (before-end b) (o.kept (size-asks b)) in
              record {
                none = clean b free (omega (arith, fits, long-is b, b.used-is, b.limit_is)) (ap (λ (x : Content). content_faults b.W (F b) (type b) x b.D) (sized b).is ∙ k.none);
                next-is = omega (arith, k.next-is, (sized b).after, b.stands.after);
                used-is = omega (arith, b.used-is, long-is b, content-used b.W (F b) (type b) b.x.name (content b) b.D);
                filled = now-filled b free mid code₂ code' values₂ values' an_array (used + size_part * count) count 0 bias (pos 0) around made started (words_are b) refl (omega arith) (array-means b) refl
                    (omega (arith, fits, b.used-is, b.limit_is)) (array-mine b) (array_placed b);
                keeps = name-keeps b free mid code₂ code' values₂ values' an_array (used + size_part * count) count 0 bias (pos 0) around made started;
                written = words-written b free mid code₂ code' values₂ values' an_array (used + size_part * count) count 0 bias (pos 0) around made started (words_are b) refl;
                changed = words-changed b free mid code₂ code' values₂ values' an_array (used + size_part * count) count 0 bias (pos 0) around made started;
              });
        }

-- ---- by its name
module _ {code values : List ℕ} {own limit used i : ℕ} (t : Bool) (taken : Taken code values own (i + 2) t) where
  taken_is : (b : Begins code values own limit used i) → t ≡ cannot_declare (map text_of b.D.names) (spelled b.W (i + 2))
  taken_is b =
      taken.is b.routine b.W (scopes_of b.W b.s b.D) b.D.names b.filled.means b.stands.name
      ((b.loaded.words (i + 2) (omega arith) (omega (arith, far b))).number b.stands.name)
      (subst (λ (k : ℕ). Owns k b.D.names (scopes_of b.W b.s b.D)) (sym b.own_is) b.filled.owns)

  pub datum-taken : t ≡ true → Declares code values code values own limit used i (Err (record { rule = TakenName; word = i + 2 }))
  unfolding Says
  datum-taken h = record {
    is = λ b.
        let q : cannot_declare (map text_of b.D.names) (spelled b.W b.x.name) ≡ true =
        ap (λ (k : ℕ). cannot_declare (map text_of b.D.names) (spelled b.W k)) b.stands.named ∙ sym (taken_is b) ∙ h in
        subst (λ (k : ℕ). First (record { number = taken_name; at = k }) (faults_of b)) b.stands.named
        (found-in-name b.W (F b) (type b) b.D b.stands (name-taken b.W (F b) b.x.name (content_slots b.W (F b) (content b) b.D) b.D q));
  }

  pub datum-free : t ≡ false → (code' values' : List ℕ) (r : Walked) → DeclaresFree code values code' values' own limit used i r → Declares code values code' values' own limit used i r
  datum-free h code' values' r d = record { is = λ b. d.is b (sym (taken_is b) ∙ h) }
