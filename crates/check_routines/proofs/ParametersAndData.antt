-- Parameters and data of a routine: where their words lie, and what stays of them.
use mathlib.Core.Path.{◌≡◌, refl, sym, ap, subst, ◌∙◌}
use mathlib.Core.Bool.{false}
use mathlib.Core.List.{List, [], ◌∷◌, ◌++◌, map}
use Prim.Native.Nat.{ℕ, zero, suc, ◌+◌, ◌*◌, ◌<◌, ◌≤◌}
use native.Mathlib.Omega.{arith}
use lib.ListN.{length}
use Rattle.laws.proofs.Tests.{test, false-true}
use Rattle.paper.specs.Sorts.{equal_texts}
use Rattle.paper.specs.Words.{Word}
use Rattle.paper.specs.Trees.{Declared, Parameter}
use Rattle.paper.specs.Names.{Text, sort_in, spelled, is_among}
use Rattle.code.specs.Cells.{link_in, head_at, tail_at}
use Rattle.check_names.specs.Meanings.{meaning_in, protects_cell}
use Rattle.grammar.specs.Form.{Parses, SeparatedAt, last_one, one_more, closed-at-once, closed-later, none-starts, one-starts}
use Rattle.grammar.specs.Form.{ParameterAt, ParametersAt, DeclarationsAt}
use Rattle.grammar.proofs.Places.{content-grows, declarations-grow}
use Rattle.faults.proofs.Expressions.{grows}
use Rattle.check_sites.specs.Sites.{Site}
use Rattle.check_declarations.specs.Answers.{first_of}
use Rattle.check_sites.specs.Walks.{name_of, name_words, KeepsName, KeepsAll}

-- ---- where parameters end
module _ (W : ℕ → ℕ) where
  separated-end : {ps : List Parameter} {at to : ℕ} → SeparatedAt W (ParameterAt W (Parses W)) ps at to → at + 3 * length ps ≡ to + 1
  separated-end (last_one k f) = omega (arith, k.after)
  separated-end (one_more {r = r} k c h) = omega (arith, k.after, separated-end h)

  pub parameters-end : {ps : List Parameter} {at to : ℕ} → ParametersAt W (Parses W) ps at to → at + 3 * length ps ≤ to + 1
  parameters-end (closed-at-once c e) = omega arith
  parameters-end (closed-later f h) = omega (arith, separated-end h)

-- ---- texts
among-apart : (a b : List Text) (u : Text) → is_among (a ++ b) u ≡ false → (is_among a u ≡ false) × (is_among b u ≡ false)
unfolding is_among
among-apart [] b u h = (refl, h)
among-apart (t ∷ a) b u h = test (equal_texts t u) (λ q. false-true (sym (rw (q, is_among) at h))) (λ q. let r = among-apart a b u (rw (q, is_among) at h) in (rw (q, is_among) r.0, r.1))

map-append : (f : ℕ → Text) (a b : List ℕ) → map f (a ++ b) ≡ map f a ++ map f b
map-append f [] b = refl
map-append f (x ∷ a) b = ap (λ (l : List Text). f x ∷ l) (map-append f a b)

pub spelled-apart : (W : List Word) (a b : List ℕ) (u : Text) → is_among (map (spelled W) (a ++ b)) u ≡ false → (is_among (map (spelled W) a) u ≡ false) × (is_among (map (spelled W) b) u ≡ false)
spelled-apart W a b u h = among-apart (map (spelled W) a) (map (spelled W) b) u (sym (ap (λ (l : List Text). is_among l u) (map-append (spelled W) a b)) ∙ h)

-- ---- what words keep
name-place : (x : Declared) (at : ℕ) → x.name ≡ at + 2 → (at ≤ name_of (first_of x)) × (name_of (first_of x) < at + 3)
unfolding name_of first_of
name-place x at e = (omega arith, omega arith)

module _ (routine : ℕ → ℕ) (W : List Word) (s : Site) (C D : List ℕ) where
  keeps-name : (i : ℕ) → head_at D i ≡ head_at C i → tail_at D i ≡ tail_at C i → KeepsName routine W s C i → KeepsName routine W s D i
  keeps-name i h t k = record {
    name = k.name;
    near = k.near;
    keeps = record {
      number = ap link_in t ∙ k.keeps.number;
      means = ap (meaning_in routine) h ∙ k.keeps.means;
      guards = ap protects_cell h ∙ k.keeps.guards;
    };
  }

  pub keeps-parameters : (first count : ℕ) → ((j : ℕ) → j < count → head_at D (first + 3 * j + 1) ≡ head_at C (first + 3 * j + 1)) → ((j : ℕ) → j < count → tail_at D (first + 3 * j + 1) ≡ tail_at C (first + 3 * j + 1))
      → KeepsAll routine W s C (name_words first count) → KeepsAll routine W s D (name_words first count)
  unfolding KeepsAll name_words
  keeps-parameters first zero h t k = k
  keeps-parameters first (suc n) h t k =
      let z : first + 3 * 0 + 1 ≡ first + 1 = omega arith in (
        keeps-name (first + 1) (subst (λ (i : ℕ). head_at D i ≡ head_at C i) z (h 0 (omega arith))) (subst (λ (i : ℕ). tail_at D i ≡ tail_at C i) z (t 0 (omega arith))) k.0,
        keeps-parameters (first + 3) n
            (λ j l. let e : first + 3 * suc j + 1 ≡ first + 3 + 3 * j + 1 = omega arith in subst (λ (i : ℕ). head_at D i ≡ head_at C i) e (h (suc j) (omega arith)))
            (λ j l. let e : first + 3 * suc j + 1 ≡ first + 3 + 3 * j + 1 = omega arith in subst (λ (i : ℕ). tail_at D i ≡ tail_at C i) e (t (suc j) (omega arith))) k.1,
      )

  pub keeps-data : {ds : List Declared} {at to : ℕ} → DeclarationsAt (sort_in W) (Parses (sort_in W)) ds at to → ((i : ℕ) → at ≤ i → i < to → head_at D i ≡ head_at C i)
      → ((i : ℕ) → at ≤ i → i < to → tail_at D i ≡ tail_at C i) → KeepsAll routine W s C (map name_of (map first_of ds)) → KeepsAll routine W s D (map name_of (map first_of ds))
  unfolding KeepsAll
  keeps-data (none-starts z e) h t k = k
  keeps-data (one-starts {a = x} {at = at} {n = n} {to = to} z one more) h t k =
      let far : n ≤ to = declarations-grow (sort_in W) (Parses (sort_in W)) (grows W) more in
      let long : at + 3 ≤ one.end = content-grows (sort_in W) (Parses (sort_in W)) (grows W) one.content in
      let behind : at + 4 ≤ n = omega (arith, one.after) in
      let low : at ≤ name_of (first_of x) = (name-place x at one.named).0 in
      let high : name_of (first_of x) < at + 3 = (name-place x at one.named).1 in (
        keeps-name (name_of (first_of x)) (h (name_of (first_of x)) low (omega arith)) (t (name_of (first_of x)) low (omega arith)) k.0,
        keeps-data more (λ i a b. h i (omega arith) b) (λ i a b. t i (omega arith) b) k.1,
      )
