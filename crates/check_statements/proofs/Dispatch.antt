-- A statement by its first word.
use mathlib.Core.Path.{◌≡◌, sym, ap, ◌∙◌}
use mathlib.Core.Bool.{true, false}
use mathlib.Core.List.{List}
use Prim.Native.Nat.{ℕ, ◌+◌, ◌*◌, ◌<◌, ◌≤◌}
use native.Mathlib.Omega.{arith}
use lib.ListN.{length}
use borrow.Author.Tests.{ne_eqb}
use Rattle.store_cells.specs.Cells.{cells_of}
use Rattle.paper.specs.Sorts.{NAME, RETURN, RAISE, EXIT, RETRY, TRYNEXT, TPWRITE, TPREADNUM, IF, FOR, WHILE, TEST}
use Rattle.paper.specs.Expressions.{starts_simple, starts_statement}
use Rattle.paper.specs.Names.{sort_in}
use Rattle.code.specs.Cells.{op_at}
use Rattle.grammar.specs.Form.{Parses}
use Rattle.grammar.proofs.Places.{statement-grows}
use Rattle.faults.proofs.Expressions.{grows}
use Rattle.check_around.specs.declared.Setting.{Setting}
use Rattle.check_statements.specs.Answers.{Stands, Stated, Begins, Begun}
use Rattle.check_statements.specs.Parts.{Plain, Plainly}
use Rattle.check_names.specs.Scopes.{Walked}

module _ (text code values : List ℕ) (k : Setting) (used i : ℕ) where
  forward : (g : Stands text code values k used i) → i < g.to
  forward g = statement-grows (sort_in g.around.known.W) (Parses (sort_in g.around.known.W)) (grows g.around.known.W) g.is

  pub stands-room : Stands text code values k used i → i * 8 + 8 ≤ length code
  stands-room g = omega (arith, forward g, g.here.unread.loaded.room)

  pub stands-early : Stands text code values k used i → i < 8191
  stands-early g = omega (arith, forward g, g.here.unread.loaded.last)

  module _ (s : ℕ) (es : s ≡ op_at (cells_of code) i) where
    sort-is : (g : Stands text code values k used i) → sort_in g.around.known.W i ≡ s
    sort-is g = sym (es ∙ (g.here.unread.loaded.words i (omega arith) (omega (arith, forward g))).sort)

    pub begins-by : (sort : ℕ) → Stands text code values k used i → s ≡ sort → Begins sort text code values k used i
    begins-by sort g e = record { stands = g; here-is = sort-is g ∙ e }

    pub stated-by : (sort : ℕ) (after values' : List ℕ) (r : Walked) → s ≡ sort → Begun sort text code values after values' k used i r → Stated text code values after values' k used i r
    stated-by sort after values' r e x = record { is = λ g. x.is (record { stands = g; here-is = sort-is g ∙ e }) }

    module _ (a : s ≡ IF → ⊥) (b : s ≡ FOR → ⊥) (c : s ≡ WHILE → ⊥) (d : s ≡ TEST → ⊥) where
      pub plain_by : Stands text code values k used i → Plain text code values k used i
      plain_by g = record { stands = g; no-if = λ e. a (sym (sort-is g) ∙ e); no-for = λ e. b (sym (sort-is g) ∙ e); no-while = λ e. c (sym (sort-is g) ∙ e); no_test = λ e. d (sym (sort-is g) ∙ e) }

      pub stated-plain : (after : List ℕ) (r : Walked) → Plainly text code values after k used i r → Stated text code values after values k used i r
      stated-plain after r x =
          record { is = λ g. x.is (record { stands = g; no-if = λ e. a (sym (sort-is g) ∙ e); no-for = λ e. b (sym (sort-is g) ∙ e); no-while = λ e. c (sym (sort-is g) ∙ e); no_test = λ e. d (sym (sort-is g) ∙ e) }) }

-- ---- which words start a statement
pub starts-here : (s v : ℕ) → s ≡ v → starts_statement v ≡ true → true ≡ starts_statement s
starts-here s v e h = sym (ap starts_statement e ∙ h)

pub starts_other : (s : ℕ) → (s ≡ NAME → ⊥) → (s ≡ RETURN → ⊥) → (s ≡ RAISE → ⊥) → (s ≡ EXIT → ⊥) → (s ≡ RETRY → ⊥) → (s ≡ TRYNEXT → ⊥) → (s ≡ TPWRITE → ⊥) → (s ≡ TPREADNUM → ⊥)
    → (s ≡ IF → ⊥) → (s ≡ FOR → ⊥) → (s ≡ WHILE → ⊥) → (s ≡ TEST → ⊥) → false ≡ starts_statement s
unfolding starts_statement starts_simple
starts_other s a b c d e f g h i j k l =
    rw (ne_eqb s NAME a, ne_eqb s RETURN b, ne_eqb s RAISE c, ne_eqb s EXIT d, ne_eqb s RETRY e, ne_eqb s TRYNEXT f, ne_eqb s TPWRITE g, ne_eqb s TPREADNUM h, ne_eqb s IF i, ne_eqb s FOR j, ne_eqb s WHILE k, ne_eqb s TEST l)
