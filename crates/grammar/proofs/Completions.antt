-- How a parser that refuses a word could have gone on: some words behind those that it has read complete what it reads. A parser is followed by a word c of the
-- completed text; `inh` is the shortest that it reads there. Families of parsers: `q U` is what is read of the words U, and W are the words at hand.
use mathlib.Core.Path.{◌≡◌, refl, sym, ap, subst, ◌∙◌}
use mathlib.Core.Bool.{Bool, true, false}
use mathlib.Core.List.{List, [], ◌∷◌, ◌++◌, append-nil}
use mathlib.Core.Logic.{◌⊎◌, inl, inr}
use Prim.Native.Nat.{ℕ, ◌+◌, ◌<◌, ◌≤◌}
use native.Mathlib.Omega.{arith}
use lib.Dec.{eqb}
use borrow.Author.Tests.{eq-eqb}
use Rattle.laws.proofs.Tests.{test, by_less, by-same, false-true}
use Rattle.std.specs.Prelude.{if◌then◌else◌}
use Rattle.paper.specs.Sorts.{NOTHING, NUM}
use Rattle.paper.specs.Words.{word_limit}
use Rattle.paper.specs.Expressions.{Parsed, got, no, ◌>>=◌, is_type, expect, expect_type}

-- ---- words of a completion
-- the first of them, or the word behind them
abbrev pub head_of : List ℕ → ℕ → ℕ
head_of [] c = c
head_of (w ∷ k) c = w

-- the place behind them
abbrev pub behind : (at : ℕ) → List ℕ → ℕ
behind at [] = at
behind at (w ∷ k) = behind (at + 1) k

-- These words stand there, and c behind them.
abbrev pub Spells : (U : ℕ → ℕ) → (at : ℕ) → List ℕ → (c : ℕ) → Type 0
Spells U at [] c = U at ≡ c
Spells U at (w ∷ k) c = (U at ≡ w) × Spells U (at + 1) k c

-- where they end at the earliest
abbrev pub least : (at : ℕ) → List ℕ → ℕ
least at [] = at
least at (w ∷ k) = at + 1

spells-head : (U : ℕ → ℕ) (at : ℕ) (k : List ℕ) (c : ℕ) → Spells U at k c → U at ≡ head_of k c
spells-head U at [] c h = h
spells-head U at (w ∷ k) c h = h.0

pub spells-last : (U : ℕ → ℕ) (at : ℕ) (k : List ℕ) (c : ℕ) → Spells U at k c → U (behind at k) ≡ c
spells-last U at [] c h = h
spells-last U at (w ∷ k) c h = spells-last U (at + 1) k c h.1

spells-split : (U : ℕ → ℕ) (at : ℕ) (k l : List ℕ) (c : ℕ) → Spells U at (k ++ l) c → Spells U at k (head_of l c) × Spells U (behind at k) l c
spells-split U at [] l c h = (spells-head U at l c h, h)
spells-split U at (w ∷ k) l c h = let r = spells-split U (at + 1) k l c h.1 in ((h.0, r.0), r.1)

behind-append : (at : ℕ) (k l : List ℕ) → behind (behind at k) l ≡ behind at (k ++ l)
behind-append at [] l = refl
behind-append at (w ∷ k) l = behind-append (at + 1) k l

behind-grows : (at : ℕ) (k : List ℕ) → at ≤ behind at k
behind-grows at [] = omega arith
behind-grows at (w ∷ k) = omega (arith, behind-grows (at + 1) k)

head-append : (k l : List ℕ) (c : ℕ) → head_of (k ++ l) c ≡ head_of k (head_of l c)
head-append [] l c = refl
head-append (w ∷ k) l c = refl

least-grows : (at : ℕ) (k : List ℕ) → at ≤ least at k
least-grows at [] = omega arith
least-grows at (w ∷ k) = omega arith

least-next : (at : ℕ) (k : List ℕ) → least at k ≤ at + 1
least-next at [] = omega arith
least-next at (w ∷ k) = omega arith

least-append : (at n m : ℕ) (k l : List ℕ) → least at k ≤ n → least n l ≤ m → least at (k ++ l) ≤ m
least-append at n m [] [] h g = omega arith
least-append at n m [] (w ∷ l) h g = omega arith
least-append at n m (v ∷ k) l h g = omega (arith, least-grows n l)

-- what ends where it begins
emptied : (at : ℕ) (k : List ℕ) (c : ℕ) → least at k ≤ at → head_of k c ≡ c
emptied at [] c h = refl
emptied at (w ∷ k) c h = absurd (omega arith)

emptied-first : (at : ℕ) (k l : List ℕ) (c : ℕ) → least at k ≤ at → head_of l c ≡ head_of (k ++ l) c
emptied-first at [] l c h = refl
emptied-first at (w ∷ k) l c h = absurd (omega arith)

-- ---- what is read
abbrev pub Family : Type 0 → Type 0
Family A = (ℕ → ℕ) → Parsed (A × ℕ)

pub record Reads {A : Type 0} (p : Parsed (A × ℕ)) (n : ℕ) : Type 0 where
  pub value : A
  pub is : p ≡ got (value, n)

-- It reads the words inh before c.
abbrev pub Made : {A : Type 0} → List ℕ → (c s : ℕ) → Family A → Type 0
Made inh c s q = (U : ℕ → ℕ) → Spells U s inh c → Reads (q U) (behind s inh)

pub reads_as : {A : Type 0} {p r : Parsed (A × ℕ)} {n : ℕ} → p ≡ r → Reads r n → Reads p n
reads_as e h = record { value = h.value; is = e ∙ h.is }

pub yes-if : {A : Type 0} (b : Bool) (x y : A) → b ≡ true → (if b then x else y) ≡ x
yes-if true x y e = refl
yes-if false x y e = false-true e

pub no-if : {A : Type 0} (b : Bool) (x y : A) → b ≡ false → (if b then x else y) ≡ y
no-if true x y e = false-true (sym e)
no-if false x y e = refl

pub yes-when : {A : Type 0} (b : Bool) (x y : A) → b ≡ true → elim b [ true ↦ x | false ↦ y ] ≡ x
yes-when true x y e = refl
yes-when false x y e = false-true e

pub no-when : {A : Type 0} (b : Bool) (x y : A) → b ≡ false → elim b [ true ↦ x | false ↦ y ] ≡ y
no-when true x y e = false-true (sym e)
no-when false x y e = refl

not-false : (b : Bool) → (b ≡ false → ⊥) → b ≡ true
not-false true h = refl
not-false false h = absurd (h refl)

not-true : (b : Bool) → (b ≡ true → ⊥) → b ≡ false
not-true true h = absurd (h refl)
not-true false h = refl

module _ {A B : Type 0} (q : Family A) (k : (ℕ → ℕ) → A × ℕ → Parsed (B × ℕ)) where
  then-reads : (U : ℕ → ℕ) (n m : ℕ) (h : Reads (q U) n) → Reads (k U (h.value, n)) m → Reads (q U >>= k U) m
  unfolding ◌>>=◌
  then-reads U n m h g = reads_as (ap (λ r. r >>= k U) h.is) g

  pub then-made : (i l : List ℕ) (c s : ℕ) → Made i (head_of l c) s q → ((x : A × ℕ) → s ≤ x.1 → Made l c x.1 (λ U. k U x)) → Made (i ++ l) c s (λ U. q U >>= k U)
  then-made i l c s h g U t =
      let r = spells-split U s i l c t in
      let u = h U r.0 in
      subst (Reads (q U >>= k U)) (behind-append s i l) (then-reads U (behind s i) _ u (g (u.value, behind s i) (behind-grows s i) U r.1))

-- ---- what is read of W, and of words that begin like it
module _ (W : ℕ → ℕ) where
  abbrev pub Agrees : (U : ℕ → ℕ) → (n : ℕ) → Type 0
  Agrees U n = (j : ℕ) → j < n → U j ≡ W j

  -- There are words from a up to b.
  abbrev pub Real : (a b : ℕ) → Type 0
  Real a b = (j : ℕ) → a ≤ j → j < b → W j ≡ NOTHING → ⊥

  real-none : (a : ℕ) → Real a a
  real-none a j l m e = omega arith

  pub real-join : (a b c : ℕ) → Real a b → Real b c → Real a c
  real-join a b c h g j l m = by_less j b (λ k. h j l k) (λ k. g j k m)

  pub real-word : (f : ℕ → Bool) (s : ℕ) → f (W s) ≡ true → f NOTHING ≡ false → Real s (s + 1)
  real-word f s t z j l m e = let k : s ≡ j = omega arith in false-true (sym z ∙ ap f (sym (ap W k ∙ e)) ∙ t)

  -- x is read of all words that agree before its end, where the same word or c stands there.
  abbrev pub Stays : {A : Type 0} → (c : ℕ) → A × ℕ → Family A → Type 0
  Stays c x q = (U : ℕ → ℕ) → Agrees U x.1 → (U x.1 ≡ W x.1) ⊎ (U x.1 ≡ c) → q U ≡ got x

  -- Some words in the place of those from j on complete what q reads.
  pub record Completed {A : Type 0} (c j : ℕ) (q : Family A) : Type 0 where
    pub words : List ℕ
    pub reads : (U : ℕ → ℕ) → Agrees U j → Spells U j words c → Reads (q U) (behind j words)

  -- The same of a parser that begins at s: where it refuses its first word, the first of inh completes it.
  pub record Stuck {A : Type 0} (inh : List ℕ) (c s j : ℕ) (q : Family A) : Type 0 where
    pub done : Completed c j q
    pub first : j ≡ s → head_of done.words c ≡ head_of inh c

  -- q reads from s on: what it reads of W stays, and where it refuses a word with 8 it can be completed.
  abbrev pub GoesBy : {A : Type 0} → List ℕ → (c s : ℕ) → Parsed (A × ℕ) → Family A → Type 0
  GoesBy inh c s (got x) q = (least s inh ≤ x.1) × Stays c x q × Real s x.1
  GoesBy inh c s (no k j) q = k ≡ 8 → (s ≤ j) × (j ≤ word_limit → Stuck inh c s j q) × Real s j

  pub record Goes {A : Type 0} (inh : List ℕ) (c s : ℕ) (q : Family A) : Type 0 where
    pub steps : GoesBy inh c s (q W) q

  -- The same behind the word at s: nothing is said of a refusal of that one.
  abbrev pub PastBy : {A : Type 0} → (c s : ℕ) → Parsed (A × ℕ) → Family A → Type 0
  PastBy c s (got x) q = (s < x.1) × Stays c x q × Real s x.1
  PastBy c s (no k j) q = k ≡ 8 → (s ≤ j) × (s < j → j ≤ word_limit → Completed c j q) × Real s j

  pub record Past {A : Type 0} (c s : ℕ) (q : Family A) : Type 0 where
    pub steps : PastBy c s (q W) q

  pub record Both {A : Type 0} (inh : List ℕ) (c s : ℕ) (q : Family A) : Type 0 where
    pub made : Made inh c s q
    pub goes : Goes inh c s q

  -- ---- one after the other
  either-at : (U : ℕ → ℕ) (n m c h : ℕ) → n ≡ m → c ≡ h → (U m ≡ W m) ⊎ (U m ≡ c) → (U n ≡ W n) ⊎ (U n ≡ h)
  either-at U n m c h e f (inl g) = inl (ap U e ∙ g ∙ ap W (sym e))
  either-at U n m c h e f (inr g) = inr (ap U e ∙ g ∙ f)

  module _ {A B : Type 0} (q : Family A) (k : (ℕ → ℕ) → A × ℕ → Parsed (B × ℕ)) where
    stays_then : (h c : ℕ) (x : A × ℕ) (y : B × ℕ) → Stays h x q → x.1 ≤ y.1 → (y.1 ≤ x.1 → c ≡ h) → Stays c y (λ U. k U x) → Stays c y (λ U. q U >>= k U)
    unfolding ◌>>=◌
    stays_then h c x y a l z b U same e =
        ap (λ r. r >>= k U) (a U (λ j m. same j (omega arith)) (by_less x.1 y.1 (λ m. inl (same x.1 m))
        (λ m. either-at U x.1 y.1 c h (omega arith) (z m) e))) ∙ b U same e

    stays-stuck : (h c j : ℕ) (x : A × ℕ) → Stays h x q → x.1 ≤ j → (d : Completed c j (λ U. k U x)) → (j ≡ x.1 → head_of d.words c ≡ h) → Completed c j (λ U. q U >>= k U)
    unfolding ◌>>=◌
    stays-stuck h c j x a l d z = record { words = d.words; reads = λ U same t. reads_as (ap (λ r. r >>= k U) (a U (λ i m. same i (omega arith)) (word U same t))) (d.reads U same t) }
      where
        word : (U : ℕ → ℕ) → Agrees U j → Spells U j d.words c → (U x.1 ≡ W x.1) ⊎ (U x.1 ≡ h)
        word U same t =
            by_less x.1 j (λ m. inl (same x.1 m)) (λ m.
            let e : j ≡ x.1 = omega arith in
            inr (ap U (sym e) ∙ spells-head U j d.words c t ∙ z e))

    stuck-reads : (l : List ℕ) (c j : ℕ) (d : Completed (head_of l c) j q) → ((x : A × ℕ) → j ≤ x.1 → Made l c x.1 (λ U. k U x))
        → (U : ℕ → ℕ) → Agrees U j → Spells U j (d.words ++ l) c → Reads (q U >>= k U) (behind j (d.words ++ l))
    stuck-reads l c j d g U same t =
        let r = spells-split U j d.words l c t in
        let u = d.reads U same r.0 in
        subst (Reads (q U >>= k U)) (behind-append j d.words l) (then-reads q k U (behind j d.words) _ u (g (u.value, behind j d.words) (behind-grows j d.words) U r.1))

    module _ (i l : List ℕ) (c s : ℕ) (made : s ≤ word_limit → (x : A × ℕ) → s ≤ x.1 → Made l c x.1 (λ U. k U x)) where
      goes-on : (x : A × ℕ) (p : Parsed (B × ℕ)) → least s i ≤ x.1 → Stays (head_of l c) x q → Real s x.1 → GoesBy l c x.1 p (λ U. k U x)
          → GoesBy (i ++ l) c s p (λ U. q U >>= k U)
      unfolding stays-stuck
      goes-on x (got y) h a r g = (
        least-append s x.1 y.1 i l h g.0,
        stays_then (head_of l c) c x y a (omega (arith, least-grows x.1 l, g.0))
            (λ m. sym (emptied x.1 l c (omega (arith, g.0)))) g.1,
        real-join s x.1 y.1 r g.2,
      )
      goes-on x (no n j) h a r g =
          λ e. (
            omega (arith, least-grows s i, (g e).0),
            λ w.
                record {
                  done = stays-stuck (head_of l c) c j x a (g e).0 ((g e).1 w).done ((g e).1 w).first;
                  first = λ z. ((g e).1 w).first (omega (arith, least-grows s i, (g e).0)) ∙ emptied-first s i l c (omega (arith, (g e).0));
                },
            real-join s x.1 j r (g e).2,
          )

      pub then-goes : Goes i (head_of l c) s q → ((x : A × ℕ) → least s i ≤ x.1 → Goes l c x.1 (λ U. k U x)) → Goes (i ++ l) c s (λ U. q U >>= k U)
      unfolding ◌>>=◌
      then-goes h rest = record { steps = by (q W) h.steps }
        where
          by : (p : Parsed (A × ℕ)) → GoesBy i (head_of l c) s p q → GoesBy (i ++ l) c s (p >>= k W) (λ U. q U >>= k U)
          by (got x) g = goes-on x (k W x) g.0 g.1 g.2 (rest x g.0).steps
          by (no n j) g =
              λ e. (
                (g e).0,
                λ w.
                    let d = ((g e).1 w).done in
                    record {
                      done = record { words = d.words ++ l; reads = stuck-reads l c j d (λ x m. made (omega (arith, (g e).0)) x (omega (arith, (g e).0))) };
                      first = λ z. head-append d.words l c ∙ ((g e).1 w).first z ∙ sym (head-append i l c);
                    },
                (g e).2,
              )

    module _ (l : List ℕ) (c s : ℕ) where
      past-on : (x : A × ℕ) (p : Parsed (B × ℕ)) → s < x.1 → Stays (head_of l c) x q → Real s x.1 → GoesBy l c x.1 p (λ U. k U x) → PastBy c s p (λ U. q U >>= k U)
      past-on x (got y) h a r g = (
        omega (arith, least-grows x.1 l, g.0),
        stays_then (head_of l c) c x y a (omega (arith, least-grows x.1 l, g.0))
            (λ m. sym (emptied x.1 l c (omega (arith, g.0)))) g.1,
        real-join s x.1 y.1 r g.2,
      )
      past-on x (no n j) h a r g = λ e. (omega (arith, (g e).0), λ m w. stays-stuck (head_of l c) c j x a (g e).0 ((g e).1 w).done ((g e).1 w).first, real-join s x.1 j r (g e).2)

      pub then-past : (s < word_limit → (x : A × ℕ) → s ≤ x.1 → Made l c x.1 (λ U. k U x)) → Past (head_of l c) s q
          → ((x : A × ℕ) → s < x.1 → Goes l c x.1 (λ U. k U x)) → Past c s (λ U. q U >>= k U)
      unfolding ◌>>=◌
      then-past made h rest = record { steps = by (q W) h.steps }
        where
          by : (p : Parsed (A × ℕ)) → PastBy (head_of l c) s p q → PastBy c s (p >>= k W) (λ U. q U >>= k U)
          by (got x) g = past-on x (k W x) g.0 g.1 g.2 (rest x g.0).steps
          by (no n j) g =
              λ e. (
                (g e).0,
                λ m w.
                    let d = (g e).1 m w in
                    record { words = d.words ++ l; reads = stuck-reads l c j d (λ x v. made (omega arith) x (omega arith)) },
                (g e).2,
              )

    -- the same with what follows in one
    pub goes_then : (i l : List ℕ) (c s : ℕ) → Goes i (head_of l c) s q → ((x : A × ℕ) → s ≤ x.1 → Both l c x.1 (λ U. k U x)) → Goes (i ++ l) c s (λ U. q U >>= k U)
    goes_then i l c s h rest = then-goes i l c s (λ _ x m. (rest x m).made) h (λ x m. (rest x (omega (arith, least-grows s i))).goes)

    pub both-then : (i l : List ℕ) (c s : ℕ) → Both i (head_of l c) s q → ((x : A × ℕ) → s ≤ x.1 → Both l c x.1 (λ U. k U x)) → Both (i ++ l) c s (λ U. q U >>= k U)
    both-then i l c s h rest = record { made = then-made q k i l c s h.made (λ x m. (rest x m).made); goes = goes_then i l c s h.goes rest }

    -- where nothing more has to follow
    pub both-last : (i : List ℕ) (c s : ℕ) → Both i c s q → ((x : A × ℕ) → s ≤ x.1 → Both [] c x.1 (λ U. k U x)) → Both i c s (λ U. q U >>= k U)
    both-last i c s h rest = subst (λ (l : List ℕ). Both l c s (λ U. q U >>= k U)) (append-nil i) (both-then i [] c s h rest)

    pub goes_last : (i : List ℕ) (c s : ℕ) → Goes i c s q → ((x : A × ℕ) → s ≤ x.1 → Both [] c x.1 (λ U. k U x)) → Goes i c s (λ U. q U >>= k U)
    goes_last i c s h rest = subst (λ (l : List ℕ). Goes l c s (λ U. q U >>= k U)) (append-nil i) (goes_then i [] c s h rest)

  -- ---- from one to the other
  module _ {A : Type 0} where
    -- what refuses no word but the first, and reads it
    pub start : (inh : List ℕ) (c s : ℕ) (q : Family A) → (s ≤ word_limit → Made inh c s q) → Past c s q → Goes inh c s q
    start inh c s q made h = record { steps = by (q W) h.steps }
      where
        by : (p : Parsed (A × ℕ)) → PastBy c s p q → GoesBy inh c s p q
        by (got x) g = (omega (arith, least-next s inh, g.0), g.1, g.2)
        by (no n j) g =
            λ e. (
              (g e).0,
              λ w.
                  by-same j s
                  (λ z. record { done = record { words = inh; reads = λ U same t. subst (λ (i : ℕ). Made inh c i q) (sym z) (made (omega arith)) U t }; first = λ _. refl })
                  (λ d. record { done = (g e).1 (omega (arith, (g e).0, d)) w; first = λ z. absurd (d z) }),
              (g e).2,
            )

    pub begun : (inh : List ℕ) (c s : ℕ) (q : Family A) → Made inh c s q → Past c s q → Both inh c s q
    begun inh c s q made h = record { made = made; goes = start inh c s q (λ _. made) h }

    -- the same reading of all words that come into question
    completed-as : (c j : ℕ) (q r : Family A) (d : Completed c j q) → ((U : ℕ → ℕ) → Agrees U j → U j ≡ head_of d.words c → r U ≡ q U) → Completed c j r
    completed-as c j q r d same = record { words = d.words; reads = λ U a t. reads_as (same U a (spells-head U j d.words c t)) (d.reads U a t) }

    goes_of : (inh : List ℕ) (c s : ℕ) (q r : Family A) → ((U : ℕ → ℕ) → Agrees U s → (U s ≡ W s) ⊎ (U s ≡ head_of inh c) → r U ≡ q U) → (p : Parsed (A × ℕ))
        → GoesBy inh c s p q → GoesBy inh c s p r
    unfolding completed-as
    goes_of inh c s q r same (got x) g =
        (g.0, λ U a e. same U (λ j m. a j (omega (arith, least-grows s inh, g.0))) (word U a e) ∙ g.1 U a e, g.2)
      where
        word : (U : ℕ → ℕ) → Agrees U x.1 → (U x.1 ≡ W x.1) ⊎ (U x.1 ≡ c) → (U s ≡ W s) ⊎ (U s ≡ head_of inh c)
        word U a e =
            by_less s x.1 (λ m. inl (a s m)) (λ m.
            let z : s ≡ x.1 = omega (arith, least-grows s inh, g.0) in
            either-at U s x.1 c (head_of inh c) z (sym (emptied s inh c (omega (arith, g.0)))) e)
    goes_of inh c s q r same (no n j) g =
        λ e. (
          (g e).0,
          λ w.
              record {
                done = completed-as c j q r ((g e).1 w).done (λ U a t. same U (λ i m. a i (omega (arith, (g e).0))) (word e w U a t));
                first = ((g e).1 w).first;
              },
          (g e).2,
        )
      where
        word : (e : n ≡ 8) (w : j ≤ word_limit) (U : ℕ → ℕ) → Agrees U j → U j ≡ head_of ((g e).1 w).done.words c → (U s ≡ W s) ⊎ (U s ≡ head_of inh c)
        word e w U a t =
            by_less s j (λ m. inl (a s m)) (λ m.
            let z : j ≡ s = omega (arith, (g e).0) in
            inr (ap U (sym z) ∙ t ∙ ((g e).1 w).first z))

    pub goes-as : (inh : List ℕ) (c s : ℕ) (q r : Family A) → ((U : ℕ → ℕ) → Agrees U s → (U s ≡ W s) ⊎ (U s ≡ head_of inh c) → r U ≡ q U) → Goes inh c s q → Goes inh c s r
    goes-as inh c s q r same h = record {
      steps = goes_of inh c s q r same (r W) (subst (λ (p : Parsed (A × ℕ)). GoesBy inh c s p q)
          (sym (same W (λ j m. refl) (inl refl))) h.steps);
    }

    past_of : (c s : ℕ) (q r : Family A) → ((U : ℕ → ℕ) → Agrees U (s + 1) → r U ≡ q U) → (p : Parsed (A × ℕ)) → PastBy c s p q → PastBy c s p r
    past_of c s q r same (got x) g = (g.0, λ U a e. same U (λ j m. a j (omega (arith, g.0))) ∙ g.1 U a e, g.2)
    past_of c s q r same (no n j) g = λ e. ((g e).0, λ m w. completed-as c j q r ((g e).1 m w) (λ U a _. same U (λ i v. a i (omega arith))), (g e).2)

    pub past-as : (c s : ℕ) (q r : Family A) → ((U : ℕ → ℕ) → Agrees U (s + 1) → r U ≡ q U) → Past c s q → Past c s r
    past-as c s q r same h = record { steps = past_of c s q r same (r W) (subst (λ (p : Parsed (A × ℕ)). PastBy c s p q) (sym (same W (λ j m. refl))) h.steps) }

    -- what begins later
    pub far : (inh : List ℕ) (c s t : ℕ) (q : Family A) → s < t → Real s t → Goes inh c t q → Past c s q
    far inh c s t q l r h = record { steps = by (q W) h.steps }
      where
        by : (p : Parsed (A × ℕ)) → GoesBy inh c t p q → PastBy c s p q
        by (got x) g = (omega (arith, least-grows t inh, g.0), g.1, real-join s t x.1 r g.2)
        by (no n j) g = λ e. (omega (arith, (g e).0), λ m w. ((g e).1 w).done, real-join s t j r (g e).2)

    -- behind the word at s
    pub later : (inh : List ℕ) (c s t : ℕ) (q : Family A) → t ≡ s + 1 → Real s (s + 1) → Goes inh c t q → Past c s q
    later inh c s t q e r h = far inh c s t q (omega arith) (subst (Real s) (sym e) r) h

    pub next : (inh : List ℕ) (c s : ℕ) (q : Family A) → Real s (s + 1) → Goes inh c (s + 1) q → Past c s q
    next inh c s q r h = far inh c s (s + 1) q (omega arith) r h

    -- what is never empty
    pub filled : (v : ℕ) (inh : List ℕ) (c s : ℕ) (q : Family A) → Goes (v ∷ inh) c s q → Past c s q
    filled v inh c s q h = record { steps = by (q W) h.steps }
      where
        by : (p : Parsed (A × ℕ)) → GoesBy (v ∷ inh) c s p q → PastBy c s p q
        by (got x) g = (omega (arith, g.0), g.1, g.2)
        by (no n j) g = λ e. ((g e).0, λ m w. ((g e).1 w).done, (g e).2)

    pub refused-here : (c s : ℕ) (q : Family A) → q W ≡ no 8 s → Past c s q
    refused-here c s q e = record { steps = subst (λ (p : Parsed (A × ℕ)). PastBy c s p q) (sym e) (λ _. (omega arith, λ m w. absurd (omega arith), real-none s)) }

    pub done-both : (c n : ℕ) (f : (ℕ → ℕ) → A) → ((U : ℕ → ℕ) → Agrees U n → f U ≡ f W) → Both [] c n (λ U. got (f U, n))
    done-both c n f same = record {
      made = λ U t. record { value = f U; is = refl };
      goes = record {
        steps =
            (omega arith, λ U a e. ap (λ (x : A). got (x, n)) (same U a), real-none n);
      };
    }

    -- the same whatever the words are
    pub done : (c n : ℕ) (a : A) → Both [] c n (λ U. got (a, n))
    done c n a = done-both c n (λ U. a) (λ U _. refl)

    -- ---- tests of the word at hand
    pub past-if : (f : ℕ → Bool) (c s : ℕ) (x y : Family A) → f NOTHING ≡ false → (f (W s) ≡ true → Real s (s + 1) → Past c s x) → (f (W s) ≡ false → Past c s y)
        → Past c s (λ U. if f (U s) then x U else y U)
    past-if f c s x y z h g =
        test (f (W s))
        (λ t. past-as c s x _ (λ U a. yes-if (f (U s)) (x U) (y U) (ap f (a s (omega arith)) ∙ t)) (h t (real-word f s t z)))
        (λ t. past-as c s y _ (λ U a. no-if (f (U s)) (x U) (y U) (ap f (a s (omega arith)) ∙ t)) (g t))

    -- r where the test says v, as it does of the word that completes r; x otherwise
    choose : (f : ℕ → Bool) (v : Bool) (inh : List ℕ) (c s : ℕ) (q x r : Family A) → ((U : ℕ → ℕ) → f (U s) ≡ v → q U ≡ r U)
        → ((U : ℕ → ℕ) → f (U s) ≡ f (W s) → (f (W s) ≡ v → ⊥) → q U ≡ x U)
        → f (head_of inh c) ≡ v → ((f (W s) ≡ v → ⊥) → Past c s x) → Both inh c s r → Both inh c s q
    choose f v inh c s q x r as-r as-x e past h = record {
      made = made;
      goes = decide (f (W s)) v (λ t. goes-as inh c s r q (λ U a. as_said U t) h.goes)
          (λ d. start inh c s q (λ _. made) (past-as c s x q (λ U a. as-x U (ap f (a s (omega arith))) d) (past d)));
    }
      where
        made : Made inh c s q
        made U t = reads_as (as-r U (ap f (spells-head U s inh c t) ∙ e)) (h.made U t)

        as_said : (U : ℕ → ℕ) → f (W s) ≡ v → (U s ≡ W s) ⊎ (U s ≡ head_of inh c) → q U ≡ r U
        as_said U t (inl z) = as-r U (ap f z ∙ t)
        as_said U t (inr z) = as-r U (ap f z ∙ e)

        decide : {B : Type 0} (a b : Bool) → (a ≡ b → B) → ((a ≡ b → ⊥) → B) → B
        decide true true f g = f refl
        decide true false f g = g (λ z. false-true (sym z))
        decide false true f g = g (λ z. false-true z)
        decide false false f g = f refl

    module _ (f : ℕ → Bool) (inh : List ℕ) (c s : ℕ) (x r : Family A) where
      pub if-else : f (head_of inh c) ≡ false → f NOTHING ≡ false → (f (W s) ≡ true → Real s (s + 1) → Past c s x) → Both inh c s r → Both inh c s (λ U. if f (U s) then x U else r U)
      if-else e z past h =
          choose f false inh c s _ x r (λ U t. no-if _ _ _ t) (λ U t d. yes-if _ _ _ (t ∙ not-false _ d)) e (λ d. past (not-false _ d) (real-word f s (not-false _ d) z)) h

      pub if-then : f (head_of inh c) ≡ true → (f (W s) ≡ false → Past c s x) → Both inh c s r → Both inh c s (λ U. if f (U s) then r U else x U)
      if-then e past h = choose f true inh c s _ x r (λ U t. yes-if _ _ _ t) (λ U t d. no-if _ _ _ (t ∙ not-true _ d)) e (λ d. past (not-true _ d)) h

      pub when-else : f (head_of inh c) ≡ false → f NOTHING ≡ false → (f (W s) ≡ true → Real s (s + 1) → Past c s x) → Both inh c s r
          → Both {A = A} inh c s (λ U. elim (f (U s)) [ true ↦ x U | false ↦ r U ])
      when-else e z past h =
          choose f false inh c s _ x r (λ U t. no-when _ _ _ t) (λ U t d. yes-when _ _ _ (t ∙ not-false _ d)) e (λ d. past (not-false _ d) (real-word f s (not-false _ d) z)) h

      pub when-then : f (head_of inh c) ≡ true → (f (W s) ≡ false → Past c s x) → Both inh c s r → Both {A = A} inh c s (λ U. elim (f (U s)) [ true ↦ r U | false ↦ x U ])
      when-then e past h = choose f true inh c s _ x r (λ U t. yes-when _ _ _ t) (λ U t d. no-when _ _ _ (t ∙ not-true _ d)) e (λ d. past (not-true _ d)) h

  -- something made of what is read
  module _ {A B : Type 0} (q : Family A) (inh : List ℕ) (c s : ℕ) where
    pub mapped : Both inh c s q → (f : A × ℕ → B) → Both inh c s (λ U. q U >>= λ x. got (f x, x.1))
    mapped h f = both-last q (λ U x. got (f x, x.1)) inh c s h (λ x _. done c x.1 (f x))

    pub mapped-goes : Goes inh c s q → (f : A × ℕ → B) → Goes inh c s (λ U. q U >>= λ x. got (f x, x.1))
    mapped-goes h f = goes_last q (λ U x. got (f x, x.1)) inh c s h (λ x _. done c x.1 (f x))

  -- ---- a word that is asked for
  module _ {B : Type 0} (inh : List ℕ) (c at : ℕ) (k : (ℕ → ℕ) → ℕ → Parsed (B × ℕ)) where
    -- f tells the words that will do, v is one of them
    module _ (f : ℕ → Bool) (v : ℕ) (q : Family B) (on : (U : ℕ → ℕ) → f (U at) ≡ true → q U ≡ k U (at + 1)) (off : f (W at) ≡ false → q W ≡ no 8 at) (e : f v ≡ true) (z : f NOTHING ≡ false) where
      asked-made : Made inh c (at + 1) (λ U. k U (at + 1)) → Made (v ∷ inh) c at q
      asked-made h U t = reads_as (on U (ap f t.0 ∙ e)) (h U t.1)

      asked-goes : (at ≤ word_limit → Made inh c (at + 1) (λ U. k U (at + 1))) → Goes inh c (at + 1) (λ U. k U (at + 1)) → Goes (v ∷ inh) c at q
      asked-goes made h =
          start (v ∷ inh) c at q (λ w. asked-made (made w))
          (test (f (W at))
          (λ t. past-as c at (λ U. k U (at + 1)) q (λ U a. on U (ap f (a at (omega arith)) ∙ t)) (next inh c at (λ U. k U (at + 1)) (real-word f at t z) h))
          (λ t. refused-here c at q (off t)))

      asked-both : Both inh c (at + 1) (λ U. k U (at + 1)) → Both (v ∷ inh) c at q
      asked-both h = record { made = asked-made h.made; goes = asked-goes (λ _. h.made) h.goes }

    module _ (sort : ℕ) (word : eqb NOTHING sort ≡ false) where
      expect-yes : (U : ℕ → ℕ) → eqb (U at) sort ≡ true → (expect U sort at >>= k U) ≡ k U (at + 1)
      unfolding expect ◌>>=◌
      expect-yes U t = ap (λ r. r >>= k U) (yes-if (eqb (U at) sort) _ _ t)

      expect-no : eqb (W at) sort ≡ false → (expect W sort at >>= k W) ≡ no 8 at
      unfolding expect ◌>>=◌
      expect-no t = ap (λ r. r >>= k W) (no-if (eqb (W at) sort) _ _ t)

      pub expect-made : Made inh c (at + 1) (λ U. k U (at + 1)) → Made (sort ∷ inh) c at (λ U. expect U sort at >>= k U)
      expect-made = asked-made (λ s. eqb s sort) sort _ expect-yes expect-no (eq-eqb sort sort refl) word

      pub expect-goes : (at ≤ word_limit → Made inh c (at + 1) (λ U. k U (at + 1))) → Goes inh c (at + 1) (λ U. k U (at + 1)) → Goes (sort ∷ inh) c at (λ U. expect U sort at >>= k U)
      expect-goes = asked-goes (λ s. eqb s sort) sort _ expect-yes expect-no (eq-eqb sort sort refl) word

      pub expect-both : Both inh c (at + 1) (λ U. k U (at + 1)) → Both (sort ∷ inh) c at (λ U. expect U sort at >>= k U)
      expect-both = asked-both (λ s. eqb s sort) sort _ expect-yes expect-no (eq-eqb sort sort refl) word

    pub type-both : Both inh c (at + 1) (λ U. k U (at + 1)) → Both (NUM ∷ inh) c at (λ U. expect_type U at >>= k U)
    unfolding expect_type is_type ◌>>=◌
    type-both = asked-both is_type NUM _ (λ U t. ap (λ r. r >>= k U) (yes-if (is_type (U at)) _ _ t)) (λ t. ap (λ r. r >>= k W) (no-if (is_type (W at)) _ _ t)) refl refl

  -- the last word
  pub last_word : {B : Type 0} (c at sort : ℕ) → eqb NOTHING sort ≡ false → (b : B) → Both (sort ∷ []) c at (λ U. expect U sort at >>= λ n. got (b, n))
  last_word c at sort word b = expect-both [] c at (λ U n. got (b, n)) sort word (done c (at + 1) b)
