-- The smallest parts: one law for each place where they return.
use Rattle.layout.specs.Parts.{spelled_part}
use mathlib.Core.Path.{◌≡◌, refl, sym, ap, subst, ◌∙◌}
use mathlib.Core.Bool.{Bool, true, false}
use mathlib.Core.List.{List, [], ◌∷◌, map}
use Prim.Native.Nat.{ℕ, ◌+◌, ◌-◌, ◌/◌, ◌<◌, ◌≤◌}
use native.Mathlib.Omega.{arith}
use lib.Dec.{eqb}
use mir.Val.{bool_byte as from_bool}
use lib.ListN.{get_or, take, drop}
use Rattle.std.specs.Prelude.{Option, Some, None, is_some}
use borrow.Author.Tests.{eq-eqb, ne_eqb}
use Rattle.laws.proofs.Tests.{by_last, by_less, by-same, false-true}
use Rattle.paper.specs.Sorts.{bytes, folded, equal_texts, FUNC}
use Rattle.store_cells.specs.Cells.{cells_of, Got, Put}
use Rattle.code.specs.Cells.{op_at, value_at, place_at}
use Rattle.check_names.specs.Meanings.{a_routine, cell_with, first_meaning}
use Rattle.check_names.specs.Promises.{Number, Meant, number_at, meaning_at}
use Rattle.check_heads.specs.Stores.{Valued, spelled_at}
use Rattle.check_heads.specs.Parts.{is_one_of, Has, Next, Announces, refuses, mark_of, Marks, Names, main_after, Takes}

-- ---- words
-- the walk to a word has passed none of the two sorts
pub record Going (code : List ℕ) (at a b i : ℕ) : Type 0 where
  pub has : Has code i a b
  pub from : at ≤ i
  pub none : (k : ℕ) → at ≤ k → k < i → is_one_of a b (op_at (cells_of code) k) ≡ false

pub going_start : (code : List ℕ) (at a b : ℕ) → Has code at a b → Going code at a b at
going_start code at a b h = record { has = h; from = omega arith; none = λ k l u. absurd (omega arith) }

module _ (code : List ℕ) (at a b i s : ℕ) (g : Going code at a b i) (e : s ≡ op_at (cells_of code) i) where
  found : is_one_of a b (op_at (cells_of code) i) ≡ true → Next code at a b i
  found h = record { from = g.from; room = omega (arith, g.has.from, g.has.room); is = h; none = g.none }

  pub going-first : s ≡ a → Next code at a b i
  unfolding is_one_of
  going-first q = found (rw (eq-eqb (op_at (cells_of code) i) a (sym e ∙ q)))

  pub going-second : (s ≡ a → ⊥) → s ≡ b → Next code at a b i
  unfolding is_one_of
  going-second d q = found (rw (ne_eqb (op_at (cells_of code) i) a (λ z. d (e ∙ z)), eq-eqb (op_at (cells_of code) i) b (sym e ∙ q)))

  pub going_on : (s ≡ a → ⊥) → (s ≡ b → ⊥) → Going code at a b (i + 1)
  unfolding is_one_of
  going_on d f = record {
    has = record { n = g.has.n; from = further; room = g.has.room; is = g.has.is };
    from = omega arith;
    none = λ k l u. by_last k i (omega arith) (λ z. rw z neither) (λ z. g.none k l z);
  }
    where
      neither : is_one_of a b (op_at (cells_of code) i) ≡ false
      neither = rw (ne_eqb (op_at (cells_of code) i) a (λ z. d (e ∙ z)), ne_eqb (op_at (cells_of code) i) b (λ z. f (e ∙ z)))

      further : i + 1 ≤ g.has.n
      further = by-same i g.has.n (λ z. false-true (sym neither ∙ ap (λ (k : ℕ). is_one_of a b (op_at (cells_of code) k)) z ∙ g.has.is)) (λ z. omega (arith, z, g.has.from))

-- ---- module data
pub announce-taken : (code values : List ℕ) (i r : ℕ) → Meant code values i r → (r ≡ 0 → ⊥) → Announces code values i values
announce-taken code values i r e d = record { free = λ z. absurd (d (e ∙ z)); taken = λ z. refl }

pub announce-free : (code values after : List ℕ) (i r n : ℕ) → Meant code values i r → r ≡ 0 → Number code i n → Put values after (first_meaning + n) 1 → Announces code values i after
announce-free code values after i r n e z q p = record { free = λ _. subst (λ (k : ℕ). Put values after (first_meaning + k) 1) q p; taken = λ d. absurd (d (sym e ∙ z)) }

-- ---- parameters
bit-mark : (b : Bool) → from_bool b ≡ mark_of b
unfolding mark_of
bit-mark true = refl
bit-mark false = refl

pub marks : (code values after values' : List ℕ) (h i count n m seen r : ℕ) (b : Bool) → Number code (i + 1) n → Got values (first_meaning + n) m → Got values n seen
    → b ≡ refuses m seen h count → r ≡ from_bool b → Valued code after i r → Put values values' n h → Marks code values h i count after values'
marks code values after values' h i count n m seen r b e f g k bit v p =
    let cell : m ≡ meaning_at (cells_of code) (cells_of values) (i + 1) = f ∙ ap (λ (x : ℕ). get_or (cells_of values) (first_meaning + x) 0) e in
    let was : seen ≡ get_or (cells_of values) (number_at (cells_of code) (i + 1)) 0 = g ∙ ap (λ (x : ℕ). get_or (cells_of values) x 0) e in
    record {
      mark = subst (Valued code after i) (bit ∙ ap from_bool k ∙ bit-mark _ ∙ ap (λ (x : ℕ). mark_of (refuses x seen h count)) cell ∙ ap (λ (x : ℕ). mark_of (refuses (meaning_at (cells_of code) (cells_of values) (i + 1)) x h count)) was) v;
      seen = subst (λ (x : ℕ). Put values values' x h) e p;
    }

-- ---- the name of a routine
module _ (code : List ℕ) (h k s : ℕ) (e : s ≡ op_at (cells_of code) h) where
  pub names-plain : (s ≡ FUNC → ⊥) → Names code h k code (h + 1)
  names-plain d = record { plain = λ _. refl; plain-name = λ _. refl; function = λ z. absurd (d (e ∙ z)); function-name = λ z. absurd (d (e ∙ z)) }

  pub names-function : (after : List ℕ) (v : ℕ) → s ≡ FUNC → v ≡ from_bool (eqb k 64) → Valued code after (h + 1) v → Names code h k after (h + 2)
  names-function after v q bit p = record {
    plain = λ d. absurd (d (sym e ∙ q));
    plain-name = λ d. absurd (d (sym e ∙ q));
    function = λ _. subst (Valued code after (h + 1)) (bit ∙ bit-mark (eqb k 64)) p;
    function-name = λ _. refl;
  }

-- ---- taking a name
module _ (text C : List ℕ) (name h : ℕ) where
  after-one : (o : Option ℕ) → is_some o ≡ true → o ≡ main_after text C name h o
  unfolding main_after
  after-one None d = false-true d
  after-one (Some m) d = refl

  module _ (b : Bool) (is : b ≡ equal_texts (spelled_at text C name) (bytes "MAIN")) where
    after-here : (o : Option ℕ) → is_some o ≡ false → b ≡ true → Some h ≡ main_after text C name h o
    unfolding main_after
    after-here None d t = rw (sym is ∙ t)
    after-here (Some m) d t = false-true (sym d)

    after-other : (o : Option ℕ) → is_some o ≡ false → b ≡ false → o ≡ main_after text C name h o
    unfolding main_after
    after-other None d t = rw (sym is ∙ t)
    after-other (Some m) d t = false-true (sym d)

module _ (text code values : List ℕ) (h name : ℕ) (main : Option ℕ) (r : ℕ) (e : Meant code values name r) where
  pub takes-nothing : (r ≡ 0 → ⊥) → Takes text code values h name main values main
  takes-nothing d = record { free = λ z. absurd (d (e ∙ z)); main-then = λ z. absurd (d (e ∙ z)); taken = λ _. refl; main-still = λ _. refl }

  module _ (n cell : ℕ) (after : List ℕ) (z : r ≡ 0) (q : Number code name n) (is-cell : cell ≡ cell_with a_routine 0 0 h) (p : Put values after (first_meaning + n) cell) where
    takes : (m : Option ℕ) → m ≡ main_after text (cells_of code) name h main → Takes text code values h name main after m
    takes m f = record {
      free = λ _. subst (λ (x : ℕ). Put values after x (cell_with a_routine 0 0 h)) (ap (λ (x : ℕ). first_meaning + x) q) (subst (Put values after (first_meaning + n)) is-cell p);
      main-then = λ _. f;
      taken = λ d. absurd (d (sym e ∙ z));
      main-still = λ d. absurd (d (sym e ∙ z));
    }

    pub takes-second : is_some main ≡ true → Takes text code values h name main after main
    takes-second d = takes main (after-one text (cells_of code) name h main d)

    module _ (b : Bool) (is : b ≡ equal_texts (spelled_at text (cells_of code) name) (bytes "MAIN")) (none : is_some main ≡ false) where
      pub takes-main : b ≡ true → Takes text code values h name main after (Some h)
      takes-main t = takes (Some h) (after-here text (cells_of code) name h b is main none t)

      pub takes-other : b ≡ false → Takes text code values h name main after main
      takes-other t = takes main (after-other text (cells_of code) name h b is main none t)

-- ---- main
pub is-main-law : (text code : List ℕ) (i p v : ℕ) (b : Bool) → p ≡ place_at (cells_of code) i → v ≡ value_at (cells_of code) i
    → b ≡ equal_texts (map folded (take (p + v / spelled_part - p) (drop p text))) (map folded (77 ∷ 65 ∷ 73 ∷ 78 ∷ [])) → b ≡ equal_texts (spelled_at text (cells_of code) i) (bytes "MAIN")
unfolding bytes folded
is-main-law text code i p v b g k e =
    let n : p + v / spelled_part - p ≡ v / spelled_part = omega arith in
    e ∙ ap (λ (x : ℕ). equal_texts (map folded (take x (drop p text))) (bytes "MAIN")) (n ∙ ap (λ (x : ℕ). x / spelled_part) k)
    ∙ ap (λ (x : ℕ). equal_texts (map folded (take (value_at (cells_of code) i / spelled_part) (drop x text))) (bytes "MAIN")) g

-- the first is the one that no other is before
pub next-is : (code : List ℕ) (at a b r e : ℕ) → Next code at a b r → at ≤ e → is_one_of a b (op_at (cells_of code) e) ≡ true → ((k : ℕ) → at ≤ k → k < e → is_one_of a b (op_at (cells_of code) k) ≡ false) → r ≡ e
next-is code at a b r e n h is none =
    by_less r e (λ l. false-true (sym (none r n.from l) ∙ n.is)) (λ l. by_less e r (λ u. false-true (sym (n.none e h u) ∙ is)) (λ u. omega arith))
