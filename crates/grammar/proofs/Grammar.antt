-- The parser reads what the grammar derives, and nothing else; and it refuses the first word with which no module begins.
use mathlib.Core.Path.{◌≡◌, refl, sym, ap, subst, ◌∙◌}
use mathlib.Core.Bool.{Bool, true, false}
use mathlib.Core.List.{List, [], ◌∷◌, ◌++◌}
use mathlib.Core.Logic.{◌↔◌, inl, inr}
use Prim.Native.Nat.{ℕ, zero, suc, ◌+◌, ◌-◌, ◌<◌, ◌≤◌}
use native.Mathlib.Omega.{arith}
use lib.Dec.{eqb, ltb}
use lib.ListN.{get_or}
use borrow.Author.Tests.{eq-eqb, lt-ltb, le-ltb}
use Rattle.laws.proofs.Tests.{test, by_less, false-true}
use Rattle.std.specs.Prelude.{if◌then◌else◌}
use Rattle.paper.specs.Sorts.{NOTHING, NAME, NUM, VAR, MODULE, ENDMODULE, semicolon}
use Rattle.paper.specs.Words.{word_limit}
use Rattle.paper.specs.Trees.{Expr, variable_data, Module}
use Rattle.paper.specs.Expressions.{Parsed, got, no, ◌>>=◌, nestings, parts, expect, expect_type, is_type, starts_data, starts_routine, repeated}
use Rattle.paper.specs.Form.{var_part, datum, declaration, declarations, routines, formed}
use Rattle.grammar.specs.Form.{StandsIn}
use Rattle.grammar.specs.Grammar.{DisjunctionAt, Derives, Short, IsModule, HasForm, Begins}
use Rattle.grammar.proofs.Reading.{formed-stands}
use Rattle.grammar.proofs.Steps.{Comes, exactly, too-deep, too_long}
use Rattle.grammar.proofs.Levels.{disjunction-grows, derived-reads}
use Rattle.grammar.proofs.Derived.{parses-derives}
use Rattle.grammar.proofs.Completing.{stands-formed}
use Rattle.grammar.proofs.Local.{refused-alike}
use Rattle.grammar.proofs.Completions.{behind, Spells, spells-last, yes-if, no-if, Reads, Real, GoesBy, Completed}
use Rattle.grammar.proofs.Begun.{Formed, ended, formed-ended, module-both}

module _ (W : ℕ → ℕ) where
  derives-grows : (d at : ℕ) (e : Expr) (to : ℕ) → Derives W d at e to → at < to
  derives-grows d at e to h = disjunction-grows W h.derived

  pub sound : (m : Module) → formed W ≡ got m → IsModule W m
  sound m h = formed-stands W (Derives W) (parses-derives W) m h

  comes : {m : Module} → Comes ⊥ (λ j. ⊥) (formed W) (got m) → formed W ≡ got m
  comes (exactly h) = h
  comes (too-deep j d h) = absurd d
  comes (too_long j d h) = absurd d

  no_longer : (j : ℕ) → parts ≤ j → j ≤ word_limit → ⊥
  no_longer j h g = omega arith

  pub complete : (m : Module) (h : IsModule W m) → h.words ≤ word_limit → formed W ≡ got m
  complete m h w =
      comes (stands-formed ⊥ (λ j. ⊥) word_limit no_longer W (Derives W) derives-grows (λ d at e to k l f. derived-reads W ⊥ (λ j. ⊥) word_limit no_longer d at e to k.derived (inr (k.deep, k.nests)) l f) nestings (λ z. omega arith) m h w)

  -- an expression of any depth
  abbrev AnyDepth : (d at : ℕ) → Expr → (to : ℕ) → Type 0
  AnyDepth d at e to = DisjunctionAt W e at to

  pub sound-form : (m : Module) → formed W ≡ got m → HasForm W m
  sound-form m h = record { nesting = nestings; stands = formed-stands W AnyDepth (λ d at e to k. (parses-derives W d at e to k).derived) m h }

  -- However deep a module nests, its words are read, or refused for their nesting; if there are more than may be, perhaps at a word past those.
  form-comes : (T : ℕ → Type 0) (top : ℕ) → ((j : ℕ) → parts ≤ j → j ≤ top → T j) → (m : Module) (h : HasForm W m) → h.stands.words ≤ top → Comes Unit T (formed W) (got m)
  form-comes T top long m h w =
      stands-formed Unit T top long W AnyDepth (λ d at e to k. disjunction-grows W k) (λ d at e to k l f. derived-reads W Unit T top long d at e to k (inl tt) l f) h.nesting (λ z. tt) m h.stands w

  -- ENDMODULE is a word
  few_words : Short W → {E : (d at : ℕ) → Expr → (to : ℕ) → Type 0} {N : ℕ} {m : Module} (h : StandsIn W E N m) → h.words ≤ word_limit
  few_words s h =
      by_less h.form.end word_limit
      (λ l. omega (arith, h.form.after))
      (λ l. absurd (apart_words (s h.form.end l) h.form.closes))
    where
      apart_words : {t : ℕ} → t ≡ NOTHING → t ≡ ENDMODULE → ⊥
      apart_words a b = omega (arith, a, b)

  -- The paper's parser gives a tree exactly where the words are that module.
  pub formed-is-module : Short W → (m : Module) → (formed W ≡ got m) ↔ IsModule W m
  formed-is-module s m = (sound m, λ h. complete m h (few_words s h))

  -- The same of modules however deep they nest, where no nesting is refused.
  pub formed-has-form : Short W → ((j : ℕ) → formed W ≡ no 9 j → ⊥) → (m : Module) → (formed W ≡ got m) ↔ HasForm W m
  formed-has-form s deep m = (sound-form m, λ h. by (form-comes (λ j. ⊥) word_limit no_longer m h (few_words s h.stands)))
    where
      by : Comes Unit (λ j. ⊥) (formed W) (got m) → formed W ≡ got m
      by (exactly h) = h
      by (too-deep j d h) = absurd (deep j h)
      by (too_long j d h) = absurd d

-- ---- refusals
is_read : {A : Type 0} → Parsed A → Bool
is_read (got a) = true
is_read (no k j) = false

no-got : {A : Type 0} (k j : ℕ) (a : A) → no k j ≡ got a → ⊥
unfolding is_read
no-got k j a e = false-true (ap is_read e)

number : {A : Type 0} → Parsed A → ℕ
number (got a) = 0
number (no k j) = k

eight-nine : {A : Type 0} {i j : ℕ} → ◌≡◌ {A = Parsed A} (no 8 i) (no 9 j) → ⊥
unfolding number
eight-nine e = let z : ◌≡◌ {A = ℕ} 8 9 = ap number e in omega arith

place : {A : Type 0} → Parsed A → ℕ
place (got a) = 0
place (no k j) = j

same_place : {A : Type 0} {i j : ℕ} → ◌≡◌ {A = Parsed A} (no 8 i) (no 8 j) → i ≡ j
unfolding place
same_place e = ap place e

-- "8: word that no well-formed module could have here": where the parser says so of word i, no module begins with these i + 1 words.
pub refused : (W U : ℕ → ℕ) (i : ℕ) → i ≤ word_limit → formed W ≡ no 8 i → ((j : ℕ) → j ≤ i → U j ≡ W j) → (m : Module) → HasForm U m → ⊥
refused W U i l e same m h = by (form-comes U (λ j. word_limit < j) h.stands.words (λ j g _. omega arith) m h (omega arith))
  where
    by : Comes Unit (λ j. word_limit < j) (formed U) (got m) → ⊥
    by (exactly k) = no-got 8 i m (sym (refused-alike W U i same e) ∙ k)
    by (too-deep j d k) = eight-nine (sym (refused-alike W U i same e) ∙ k)
    by (too_long j d k) = omega (arith, d, same_place (sym (refused-alike W U i same e) ∙ k))

-- ---- and no word too early
-- the words before i, and then these
abbrev followed : (W : ℕ → ℕ) → (i : ℕ) → List ℕ → ℕ → ℕ
followed W i k j = if ltb j i then W j else get_or k (j - i) NOTHING

followed-spells : (U : ℕ → ℕ) (at : ℕ) (k : List ℕ) → ((n : ℕ) → U (at + n) ≡ get_or k n NOTHING) → Spells U at k NOTHING
followed-spells U at [] h = let z : at ≡ at + 0 = omega arith in ap U z ∙ h 0
followed-spells U at (w ∷ k) h =
    let z : at ≡ at + 0 = omega arith in
    (ap U z ∙ h 0, followed-spells U (at + 1) k (λ n. let y : at + 1 + n ≡ at + suc n = omega arith in ap U y ∙ h (suc n)))

module _ (U : ℕ → ℕ) (x : Module × ℕ) where
  ended_here : eqb (U x.1) NOTHING ≡ true → ended U x ≡ got x.0
  unfolding expect ◌>>=◌
  ended_here t = ap (λ (r : Parsed ℕ). r >>= λ n. got x.0) (yes-if (eqb (U x.1) NOTHING) _ _ t)

  ended-not : eqb (U x.1) NOTHING ≡ false → ended U x ≡ no 8 x.1
  unfolding expect ◌>>=◌
  ended-not t = ap (λ (r : Parsed ℕ). r >>= λ n. got x.0) (no-if (eqb (U x.1) NOTHING) _ _ t)

module _ (W : ℕ → ℕ) (i : ℕ) (e : formed W ≡ no 8 i) where
  -- Before i there are words only, and from i on others complete them.
  can-go-on : (h : List ℕ) (p : Parsed (Module × ℕ)) → (p >>= ended W) ≡ no 8 i → GoesBy W h NOTHING 0 p Formed → Real W 0 i × (i ≤ word_limit → Completed W NOTHING i Formed)
  unfolding ◌>>=◌ number place
  can-go-on h (got x) z g =
      test (eqb (W x.1) NOTHING) (λ t. absurd (no-got 8 i x.0 (sym z ∙ ended_here W x t))) (λ t.
      let y : x.1 ≡ i = same_place (sym (ended-not W x t) ∙ z) in
      (subst (Real W 0) y g.2, λ _. subst (λ (n : ℕ). Completed W NOTHING n Formed) y (record { words = []; reads = λ U same u. record { value = x.0; is = g.1 U same (inr u) } })))
  can-go-on h (no k j) z g =
      let y : j ≡ i = ap place z in
      let v : k ≡ 8 = ap number z in
      (subst (Real W 0) y (g v).2, λ l. subst (λ (n : ℕ). Completed W NOTHING n Formed) y ((g v).1 (omega arith)).done)

  here : Real W 0 i × (i ≤ word_limit → Completed W NOTHING i Formed)
  here = can-go-on (MODULE ∷ NAME ∷ ENDMODULE ∷ []) (Formed W) (sym (formed-ended W) ∙ e) (module-both W).goes.steps

  -- The word that is refused is one of the text, or its end.
  pub refused-within : Short W → i ≤ word_limit
  refused-within s = by_less word_limit i (λ m. absurd (here.0 word_limit (omega arith) m (s word_limit (omega arith)))) (λ m. m)

  -- The parser reads some words that begin with these i.
  goes-on : Short W → Begins (λ U m. formed U ≡ got m) W i
  unfolding ◌>>=◌
  goes-on s = record {
    words = U;
    tree = r.value;
    same = λ j m. before j (omega arith);
    is = formed-ended U ∙ ap (λ p. p >>= ended U) r.is ∙ ended_here U (r.value, behind i d.words)
        (eq-eqb _ _ (spells-last U i d.words NOTHING spelled));
  }
    where
      d : Completed W NOTHING i Formed
      d = here.1 (refused-within s)

      U : ℕ → ℕ
      U = followed W i d.words

      before : (j : ℕ) → j < i → U j ≡ W j
      before j m = yes-if (ltb j i) _ _ (lt-ltb j i m)

      onward : (n : ℕ) → U (i + n) ≡ get_or d.words n NOTHING
      onward n = let z : i + n - i ≡ n = omega arith in no-if (ltb (i + n) i) _ _ (le-ltb (i + n) i (omega arith)) ∙ ap (λ (t : ℕ). get_or d.words t NOTHING) z

      spelled : Spells U i d.words NOTHING
      spelled = followed-spells U i d.words onward

      r : Reads (Formed U) (behind i d.words)
      r = d.reads U before spelled

begins-as : {Is Also : (ℕ → ℕ) → Module → Type 0} {W : ℕ → ℕ} {n : ℕ} → ((U : ℕ → ℕ) (m : Module) → Is U m → Also U m) → (b : Begins Is W n) → (k : ℕ) → k ≤ n → Begins Also W k
begins-as f b k l = record { words = b.words; tree = b.tree; same = λ j m. b.same j (omega arith); is = f b.words b.tree b.is }

-- Where the parser says 8 of word i, some module begins with the i words before it, nesting at most 16 deep. (It may have more than 8,192 words.)
pub begun : (W : ℕ → ℕ) (i : ℕ) → Short W → formed W ≡ no 8 i → Begins IsModule W i
begun W i s e = begins-as sound (goes-on W i e s) i (omega arith)

-- "8: word that no well-formed module could have here": where the parser says so of word i, the first n words begin a module exactly where n is at most i.
pub first-refused : (W : ℕ → ℕ) (i : ℕ) → Short W → formed W ≡ no 8 i → (n : ℕ) → Begins HasForm W n ↔ (n ≤ i)
first-refused W i s e n = (no_more, begins-as sound-form (goes-on W i e s) n)
  where
    no_more : Begins HasForm W n → n ≤ i
    no_more b = by_less i n (λ m. absurd (refused W b.words i (refused-within W i e s) e (λ j k. b.same j (omega arith)) b.tree b.is)) (λ m. m)

-- An instance: `MODULE m VAR num` is refused at its end, and some module begins so, for one with `n; ENDMODULE` behind it.
abbrev unfinished : List ℕ
unfinished = MODULE ∷ NAME ∷ VAR ∷ NUM ∷ []

unfinished-refused : formed (λ j. get_or unfinished j NOTHING) ≡ no 8 4
unfolding formed expect ◌>>=◌ declarations repeated starts_data declaration datum expect_type is_type
unfinished-refused = refl

unfinished-short : Short (λ j. get_or unfinished j NOTHING)
unfinished-short zero l = absurd (omega arith)
unfinished-short (suc zero) l = absurd (omega arith)
unfinished-short (suc (suc zero)) l = absurd (omega arith)
unfinished-short (suc (suc (suc zero))) l = absurd (omega arith)
unfinished-short (suc (suc (suc (suc n)))) l = refl

unfinished-goes-on : Begins IsModule (λ j. get_or unfinished j NOTHING) 4
unfinished-goes-on = begun _ 4 unfinished-short unfinished-refused

finished : formed (λ j. get_or (unfinished ++ NAME ∷ semicolon ∷ ENDMODULE ∷ []) j NOTHING) ≡ got (record { declared = record { type = NUM; name = 4; content = variable_data } ∷ []; routines = [] })
unfolding formed expect ◌>>=◌ declarations repeated starts_data declaration datum expect_type is_type var_part routines starts_routine
finished = refl
