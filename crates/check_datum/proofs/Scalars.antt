-- Scalars: with a value, or with none.
use mathlib.Core.Path.{◌≡◌, refl, sym, ap, subst, ◌∙◌}
use mathlib.Core.Bool.{true}
use mathlib.Core.List.{List, [], ◌∷◌, ◌++◌}
use Prim.Native.Nat.{ℕ, suc, ◌+◌, ◌<◌, ◌≤◌}
use native.Mathlib.Omega.{arith}
use lib.Dec.{eqb}
use lib.ListN.{length, get_or}
use lib.IntN.{ℤ, pos, ◌-ℤ◌}
use mir.Syntax.{w32, w64}
use mir.Val.{Fits, to_z, of_z}
use mir.Facts.{to_z-of_z}
use borrow.Author.Tests.{ne_eqb}
use Rattle.laws.proofs.Tests.{test, by-same, false-true}
use Rattle.std.specs.Prelude.{if◌then◌else◌}
use Rattle.paper.specs.Sorts.{CONST, open_brace, becomes}
use Rattle.paper.specs.Words.{Word, word_limit}
use Rattle.paper.specs.Terms.{Ref, Memory, load}
use Rattle.paper.specs.Trees.{Expr, Content}
use Rattle.paper.specs.Expressions.{nestings, level_of}
use Rattle.paper.specs.Names.{DataType, Meaning, variable, constant, type_of, Scopes, sort_in}
use Rattle.paper.specs.Types.{constant_faults, constant_value, raises_error}
use Rattle.paper.specs.Declarations.{Data, Filling, module_word_limit}
use Rattle.store_cells.specs.Cells.{cells_of}
use Rattle.code.specs.Cells.{op_at}
use Rattle.code.specs.Spans.{bias}
use Rattle.check_names.specs.Meanings.{a_variable, a_constant, cell_with, type_with, ref_with, meaning_with, meaning_in}
use Rattle.check_names.specs.Promises.{TypeNamed}
use Rattle.layout.specs.Types.{type_in}
use Rattle.layout.specs.declared.types.ValueType.{ValueType}
use Rattle.check_names.proofs.Tables.{meaning-with}
use Rattle.store_numbers.proofs.Whole.{read}
use Rattle.grammar.specs.Form.{Parses, ContentAt, no-content, initial, sized}
use Rattle.grammar.specs.Form as form
use Rattle.faults.specs.First.{First}
use Rattle.faults.specs.Added.{content_slots, content_faults}
use Rattle.store_writing.proofs.Keeping.{kept_same}
use Rattle.check_constants.specs.Sizing.{Valued}
use Rattle.check_constants.specs.Answers.{InNum, Asks, Values, HeldAs}
use Rattle.check_constants.specs.Answers as constants
use Rattle.check_constants.proofs.Terms.{in-num-small}
use Rattle.check_names.specs.declared.Scope.{Scope}
use Rattle.check_names.specs.Scopes.{with_used, Grown}
use Rattle.check_names.proofs.Growing.{grown-by}
use Rattle.std.specs.Prelude.{Ok, Err}
use Rattle.layout.specs.Broken.{as_fault}
use Rattle.layout.specs.declared.rules.Breach.{Breach}
use Rattle.layout.specs.declared.rules.Rule.TheVariants.{TooMany}
use Rattle.check_sites.specs.Sites.{own_of, scopes_of, memory_of, Placed, owned}
use Rattle.check_datum.specs.Answers.{Begins, Free, Goes, Says}
use Rattle.check_sites.specs.Parts.{MakesIn, Makes}
use Rattle.check_datum.specs.Parts.{scalar_kind, Initial, Starts, DeclaresFree}
use Rattle.check_constants.proofs.NumbersHeld.{in-num-32, in-num-64}
use Rattle.check_sites.proofs.TwoSites.{own-here, among-new, load-new}
use Rattle.check_datum.proofs.OneDeclaration.{asks_of, content_meaning, content-used, Around, name-keeps, words-changed, words-written, now-filled}
use Rattle.check_datum.proofs.Contents.{F, type, content, far, near, sort-is, opens-is, ref-is, clean, in-content, too-many, around-kept}

-- ---- meanings
unfoldable scalar_meaning : (kind : ℕ) → DataType → Ref → Meaning
scalar_meaning kind t r = if eqb kind a_constant then constant t r else variable t r

scalar-low : (s : ℕ) → scalar_kind s < 4
unfolding scalar_kind
scalar-low s = by-same s CONST (λ e. rw e (omega arith)) (λ d. rw (ne_eqb s CONST d) (omega arith))

pub kind-low : (kind s : ℕ) → kind ≡ scalar_kind s → kind < 4
kind-low kind s e = omega (arith, e, scalar-low s)

scalar-means : (routine : ℕ → ℕ) (s bool own used : ℕ) → bool < 2 → own < 2 → meaning_in routine (cell_with (scalar_kind s) bool own used) ≡ scalar_meaning (scalar_kind s) (type_with bool) (ref_with own used)
unfolding scalar_kind scalar_meaning meaning_with
scalar-means routine s bool own used h g =
    by-same s CONST
    (λ e. rw e (meaning-with routine a_constant bool own used (omega arith) h g))
    (λ d. rw (ne_eqb s CONST d) (meaning-with routine a_variable bool own used (omega arith) h g))

-- ---- contents
module _ (W : List Word) (G : Filling) (t : DataType) (D : Data) where
  abbrev S : Scopes
  S = G.scopes_with D.names

  abbrev M : Memory
  M = G.memory_with D.words

  content-one : {opens : ℕ} {x : Content} {at to : ℕ} → ContentAt (sort_in W) (Parses (sort_in W)) opens x at to → (sort_in W at ≡ open_brace → ⊥) → length (content_slots W G x D) ≡ 1
  unfolding content_slots
  content-one (no-content v f g e) q = refl
  content-one (initial v b k) q = refl
  content-one (sized v b k c z) q = absurd (q b)
  content-one (form.constant v b k) q = refl

  record NoValue (s : ℕ) (x : Content) (at to : ℕ) : Type 0 where
    faults-are : content_faults W G t x D ≡ []
    words_are : content_slots W G x D ≡ pos 0 ∷ []
    means-are : (r : Ref) → content_meaning W G t x D r ≡ scalar_meaning (scalar_kind s) t r
    end_is : to ≡ at

  no_value : {opens : ℕ} {x : Content} {at to : ℕ} → ContentAt (sort_in W) (Parses (sort_in W)) opens x at to → (sort_in W at ≡ open_brace → ⊥) → (sort_in W at ≡ becomes → ⊥) → NoValue opens x at to
  unfolding content_slots content_faults content_meaning scalar_kind scalar_meaning
  no_value (no-content v f g e) p q = record { faults-are = refl; words_are = refl; means-are = λ r. rw v refl; end_is = e }
  no_value (initial v b k) p q = absurd (q b)
  no_value (sized v b k c z) p q = absurd (p b)
  no_value (form.constant v b k) p q = absurd (q b)

  record HasValue (s : ℕ) (x : Content) (at to : ℕ) : Type 0 where
    e : Expr
    stands : Parses (sort_in W) (suc nestings) (at + 1) e to
    faults-are : content_faults W G t x D ≡ constant_faults W raises_error t S M e
    words_are : content_slots W G x D ≡ constant_value W S M e ∷ []
    means-are : (r : Ref) → content_meaning W G t x D r ≡ scalar_meaning (scalar_kind s) t r

  has_value : {opens : ℕ} {x : Content} {at to : ℕ} → ContentAt (sort_in W) (Parses (sort_in W)) opens x at to → sort_in W at ≡ becomes → HasValue opens x at to
  unfolding content_slots content_faults content_meaning scalar_kind scalar_meaning
  has_value (no-content v f g e) q = absurd (f q)
  has_value (initial {e = e} v b k) q = record { e = e; stands = k; faults-are = refl; words_are = refl; means-are = λ r. rw v refl }
  has_value (sized v b k c z) q = absurd (omega (arith, b, q))
  has_value (form.constant {e = e} v b k) q = record { e = e; stands = k; faults-are = refl; words_are = refl; means-are = λ r. rw v refl }

-- ---- a scalar with its value
module _ {code values : List ℕ} {own limit used i : ℕ} (b : Begins code values own limit used i) (free : Free b) (kind : ℕ) (kind-is : kind ≡ scalar_kind (sort_in b.W i)) (v : ℤ) (small : InNum v)
    (words_are : content_slots b.W (F b) (content b) b.D ≡ v ∷ []) (faults-are : content_faults b.W (F b) (type b) (content b) b.D ≡ [])
    (means-are : (r : Ref) → content_meaning b.W (F b) (type b) (content b) b.D r ≡ scalar_meaning (scalar_kind (sort_in b.W i)) (type b) r) (fits : used < limit) where
  long-is : length (content_slots b.W (F b) (content b) b.D) ≡ 1
  long-is = ap length words_are

  first_word : Ref
  first_word = (F b).ref (length b.D.words)

  now-means : (bool : ℕ) → bool < 2 → type_with bool ≡ type b → meaning_in b.routine (cell_with kind bool own used) ≡ content_meaning b.W (F b) (type b) (content b) b.D ((F b).ref (length b.D.words))
  now-means bool h t =
      ap (λ (k : ℕ). meaning_in b.routine (cell_with k bool own used)) kind-is
      ∙ scalar-means b.routine (sort_in b.W i) bool own used h (near b).3
      ∙ ap (λ (y : DataType). scalar_meaning (scalar_kind (sort_in b.W i)) y (ref_with own used)) t
      ∙ ap (scalar_meaning (scalar_kind (sort_in b.W i)) (type b)) (ref-is b)
      ∙ sym (means-are ((F b).ref (length b.D.words)))

  scalar-owned : (k : ℕ) → owned (own_of b.s) (scalar_meaning k (type b) ((F b).ref (length b.D.words))) ≡ true
  unfolding scalar_meaning owned
  scalar-owned k = test (eqb k a_constant) (λ t. rw (t, scalar_meaning) (own-here b.W b.s (length b.D.words))) (λ t. rw (t, scalar_meaning) (own-here b.W b.s (length b.D.words)))

  scalar-placed : (k : ℕ) → Placed ((F b).memory_with (b.D.words ++ content_slots b.W (F b) (content b) b.D)) (scalar_meaning k (type b) ((F b).ref (length b.D.words)))
  unfolding scalar_meaning Placed
  scalar-placed k =
      let vs = content_slots b.W (F b) (content b) b.D in
      let room = among-new b.W b.s b.D.words vs (length b.D.words) 1 (omega (arith, long-is)) in
      let z : length b.D.words + 0 ≡ length b.D.words = omega arith in
      let l : load ((F b).memory_with (b.D.words ++ vs)) ((F b).ref (length b.D.words)) ≡ v =
      ap (λ (k : ℕ). load ((F b).memory_with (b.D.words ++ vs)) ((F b).ref k)) (sym z) ∙ load-new b.W b.s b.D.words vs 0 ∙ ap (λ (k : List ℤ). get_or k 0 (pos 0)) words_are in
      test (eqb k a_constant) (λ t. rw (t, scalar_meaning) (record { room = room; some = omega arith; ranged = λ e. subst InNum (sym l) small }))
      (λ t. rw (t, scalar_meaning) (record { room = room; some = omega arith; ranged = λ e. false-true e }))

  scalar-done : (mid code₂ code' values₂ values' : List ℕ) (word held next : ℕ) → Around code mid i b.to → Makes mid values code₂ values₂ (i + 2) kind own used
      → Starts code₂ values₂ code' values' own used 1 word held i → to_z w32 word ≡ v → pos held -ℤ pos bias ≡ v → next ≡ b.to → Goes b code' values' next (used + 1)
  scalar-done mid code₂ code' values₂ values' word held next around made started word-is held-is next-is =
      let mine = ap (owned (own_of b.s)) (means-are ((F b).ref (length b.D.words))) ∙ scalar-owned (scalar_kind (sort_in b.W i)) in
      let placed = subst (Placed ((F b).memory_with (b.D.words ++ content_slots b.W (F b) (content b) b.D))) (sym (means-are ((F b).ref (length b.D.words)))) (scalar-placed (scalar_kind (sort_in b.W i))) in
      record {
        none = clean b free (omega (arith, fits, long-is, b.used-is, b.limit_is)) faults-are;
        next-is = next-is;
        used-is = omega (arith, b.used-is, long-is, content-used b.W (F b) (type b) b.x.name (content b) b.D);
        filled = now-filled b free mid code₂ code' values₂ values' kind used 1 word held v around made started words_are held-is (omega (arith, kind-is, scalar-low (sort_in b.W i))) now-means word-is
            (omega (arith, fits, b.used-is, b.limit_is)) mine placed;
        keeps = name-keeps b free mid code₂ code' values₂ values' kind used 1 word held v around made started;
        written = words-written b free mid code₂ code' values₂ values' kind used 1 word held v around made started words_are held-is;
        changed = words-changed b free mid code₂ code' values₂ values' kind used 1 word held v around made started;
      }

-- a value is one of num, and the word after its expression is a word's index
pub record FitValue (v : ℤ) (next : ℕ) : Type 0 where
  pub ranged : InNum v
  pub near : next < word_limit

says-value : (c : Valued) (v : ℤ) (next : ℕ) → c ≡ Ok (v, next) → (W : List Word) (t : DataType) (S : Scopes) (M : Memory) (e : Expr) (to : ℕ) → constants.Says W t S M e to c → constants.Says W t S M e to (Ok (v, next))
says-value c v next q W t S M e to h = subst (constants.Says W t S M e to) q h

says-fit : (v : ℤ) (next : ℕ) (W : List Word) (t : DataType) (S : Scopes) (M : Memory) (e : Expr) (to : ℕ) → to < word_limit → constants.Says W t S M e to (Ok (v, next)) → FitValue v next
unfolding constants.Says
says-fit v next W t S M e to l h = record { ranged = h.ranged; near = omega (arith, h.next-is, l) }

pub fit-read : (v : ℤ) (next : ℕ) → FitValue v next → InNum (read v)
fit-read v next f = subst InNum (sym (to_z-of_z (in-num-64 v f.ranged))) f.ranged

pub fit-adds : (v : ℤ) (next : ℕ) → FitValue v next → Fits w64 (next + 1)
fit-adds v next f = record { fits = omega (arith, f.near) }

module _ {code values : List ℕ} {own limit used i : ℕ} (plain : op_at (cells_of code) (i + 3) ≡ open_brace → ⊥) where
  not-brace : (b : Begins code values own limit used i) → sort_in b.W (i + 3) ≡ open_brace → ⊥
  not-brace b e = plain (sort-is b 3 (omega arith) ∙ e)

  pub scalar_crosses : limit ≤ used → DeclaresFree code values code values own limit used i (Err (record { rule = TooMany; word = i + 2 }))
  unfolding Says
  scalar_crosses over = record {
    is = λ b free. too-many b free (omega (arith, over, content-one b.W (F b) (type b) b.D b.stands.content (not-brace b), b.used-is, b.limit_is));
  }

  module _ (s3 : ℕ) (s3-is : s3 ≡ op_at (cells_of code) (i + 3)) (s0 : ℕ) (s0-is : s0 ≡ op_at (cells_of code) i) (kind : ℕ) (kind-is : kind ≡ scalar_kind s0) (fits : used < limit) where
    pub scalar-plain : (s3 ≡ becomes → ⊥) → (code₂ code' values₂ values' : List ℕ) → Makes code values code₂ values₂ (i + 2) kind own used → Starts code₂ values₂ code' values' own used 1 0 bias i
        → (filled : Scope) → filled.used ≡ used + 1 → DeclaresFree code values code' values' own limit used i (Ok (i + 4, filled))
    unfolding Says
    scalar-plain none code₂ code' values₂ values' made started filled e = record {
      is = λ b free. subst (λ (u : ℕ). Says b code' values' (Ok (i + 4, with_used u filled))) (sym e) (
          let n = no_value b.W (F b) (type b) b.D b.stands.content (not-brace b) (λ e. none (s3-is ∙ sort-is b 3 (omega arith) ∙ e)) in
          scalar-done b free kind (kind-is ∙ ap scalar_kind (s0-is ∙ opens-is b)) (pos 0) (in-num-small 0 (omega arith)) n.words_are n.faults-are n.means-are fits
          code code₂ code' values₂ values' 0 bias (i + 4) (around-kept code code i (i + 3) (i + 3) b.to (omega arith) (omega (arith, far b)) (kept_same code (i + 3) (i + 3))) made started
          refl refl (omega (arith, n.end_is, b.stands.after)));
    }

-- ---- a scalar whose value is declared
pub initial-low : (code : List ℕ) (limit used kind i : ℕ) → Initial code limit used kind i → kind < 4
initial-low code limit used kind i n = kind-low kind (op_at (cells_of code) i) n.kind-is

pub initial-room : (code : List ℕ) (limit used kind i : ℕ) → Initial code limit used kind i → limit ≤ module_word_limit → used < module_word_limit
initial-room code limit used kind i n h = omega (arith, n.fits)

module _ {code values : List ℕ} {own limit used kind i : ℕ} (n : Initial code limit used kind i) where
  module _ (b : Begins code values own limit used i) where
    value : HasValue b.W (F b) (type b) b.D (sort_in b.W i) (content b) (i + 3) b.stands.end
    value = has_value b.W (F b) (type b) b.D b.stands.content (sym (sort-is b 3 (omega arith)) ∙ n.becomes-is)

    ends-none : level_of (sort_in b.W b.stands.end) ≡ 0
    unfolding level_of
    ends-none = ap level_of b.stands.ends ∙ refl

    start_is : i + 3 + 1 ≡ i + 4
    start_is = omega arith

    abbrev value-asks : Asks code values (i + 4)
    value-asks =
        asks_of b.W b.routine b.s b.D values b.filled code i b.to (i + 4) b.stands.end value.e b.loaded
        (subst (λ (k : ℕ). Parses (sort_in b.W) (suc nestings) k value.e b.stands.end) start_is value.stands) ends-none (omega arith) (omega (arith, b.stands.after))

  pub initial-asks : Begins code values own limit used i → Asks code values (i + 4)
  initial-asks b = value-asks b

  module _ (s1 : ℕ) (s1-is : s1 ≡ op_at (cells_of code) (i + 1)) (wants : ValueType) (named : TypeNamed s1 wants) where
    wants-type : (b : Begins code values own limit used i) → type_in wants ≡ type b
    wants-type b = named.is ∙ ap type_of (s1-is ∙ sort-is b 1 (omega arith) ∙ sym b.stands.type)

    module _ (mid : List ℕ) (c : Valued) (o : Values code values mid wants (i + 4) c) where
      says_here : (b : Begins code values own limit used i) → constants.Says b.W (type b) (scopes_of b.W b.s b.D) (memory_of b.W b.s b.D) (value b).e b.stands.end c
      says_here b = o.says (value-asks b) (type b) (wants-type b)

      pub initial-faulty : (broken : Breach) → c ≡ Err broken → DeclaresFree code values mid values own limit used i (Err broken)
      unfolding Says constants.Says
      initial-faulty broken q = record {
        is = λ b free.
            let h = subst (constants.Says b.W (type b) (scopes_of b.W b.s b.D) (memory_of b.W b.s b.D) (value b).e b.stands.end) q (says_here b) in
            in-content b (as_fault broken) free (omega (arith, n.fits, ap length (value b).words_are, b.used-is, b.limit_is))
            (subst (First (as_fault broken)) (sym (value b).faults-are) h);
      }

      module _ (v : ℤ) (next : ℕ) (q : c ≡ Ok (v, next)) where
        says-now : (b : Begins code values own limit used i) → constants.Says b.W (type b) (scopes_of b.W b.s b.D) (memory_of b.W b.s b.D) (value b).e b.stands.end (Ok (v, next))
        says-now b = says-value c v next q b.W (type b) (scopes_of b.W b.s b.D) (memory_of b.W b.s b.D) (value b).e b.stands.end (says_here b)

        pub initial-fit : Begins code values own limit used i → FitValue v next
        initial-fit b =
            let l = b.loaded.last in
            says-fit v next b.W (type b) (scopes_of b.W b.s b.D) (memory_of b.W b.s b.D) (value b).e b.stands.end (omega (arith, l, b.stands.after)) (says-now b)

        pub initial-goes : (mid-code mid-values code' values' : List ℕ) → Makes mid values mid-code mid-values (i + 2) kind own used → (word held : ℕ) → word ≡ of_z w32 (read v) → HeldAs (read v) held
            → Starts mid-code mid-values code' values' own used 1 word held i → (filled : Scope) → filled.used ≡ used + 1 → DeclaresFree code values code' values' own limit used i (Ok (next + 1, filled))
        unfolding Says constants.Says
        initial-goes mid-code mid-values code' values' made word held w g started filled e = record {
          is = λ b free. subst (λ (u : ℕ). Says b code' values' (Ok (next + 1, with_used u filled))) (sym e) (
              let h = says-now b in
              let y : read v ≡ v = to_z-of_z (in-num-64 v h.ranged) in
              let as-held : HeldAs v held = subst (λ (z : ℤ). HeldAs z held) y g in
              scalar-done b free kind (n.kind-is ∙ ap scalar_kind (opens-is b)) v h.ranged ((value b).words_are ∙ ap (λ (z : ℤ). z ∷ []) (sym h.is)) ((value b).faults-are ∙ h.none) (value b).means-are n.fits
              mid mid-code code' mid-values values' word held (next + 1)
              (around-kept code mid i (i + 4) b.stands.end b.to (omega arith) (omega (arith, b.stands.after)) (o.kept (value-asks b))) made started
              (ap (to_z w32) (w ∙ ap (of_z w32) y) ∙ to_z-of_z (in-num-32 v h.ranged)) as-held.is (omega (arith, h.next-is, b.stands.after)));
        }

-- ---- the scope that is handed back
module _ {scope filled : Scope} {code values code' values' : List ℕ} {i kind own value words : ℕ} (m : MakesIn scope code values code' values' i kind own value words filled) where
  pub made-used : filled.used ≡ scope.used + words
  made-used = ap (λ (s : Scope). s.used) m.scope-is

  pub made-grown : Grown scope filled
  made-grown = grown-by scope filled words m.scope-is
