-- Which words lead on, and where to: the tests of the code.
use mathlib.Core.Path.{◌≡◌, refl, sym, ◌∙◌}
use mathlib.Core.Bool.{Bool, true, false, not}
use mathlib.Core.List.{List}
use Prim.Native.Nat.{ℕ, ◌+◌, ◌<◌, ◌≤◌}
use native.Mathlib.Omega.{arith}
use lib.Dec.{eqb}
use borrow.Author.Tests.{ne_eqb, eq-eqb, lt-ltb, le-ltb, not-true, not-false}
use Rattle.laws.proofs.Tests.{false-true}
use Rattle.store_cells.specs.Cells.{cells_of}
use Rattle.code.specs.Cells.{op_at, link_at}
use Rattle.code.specs.Steps.{a_target, an_else_if, a_case, a_then, a_procedure_call, an_end, a_function_end, an_undo_end, a_next_value, a_do, an_otherwise}
use Rattle.store_reading.specs.Reading.{half_end, Part}
use Rattle.check_links.specs.Resolved.{step_by_link, goes_by_link, goes_by_value, goes_by_place, is_led, beyond, Beyond, LedValue, LedPlace, LedLink}
use Rattle.check_links.specs.Raw.{Quiet}
use Rattle.layout.specs.Parts.{link_part}

-- ---- ops
module _ (op : ℕ) where
  pub link-low : op < a_target → false ≡ goes_by_link op
  unfolding goes_by_link
  link-low h = rw (lt-ltb op a_target h, goes_by_link)

  pub link-step : a_target ≤ op → op < an_else_if → (b : Bool) → b ≡ step_by_link op → b ≡ goes_by_link op
  unfolding goes_by_link
  link-step h g b e = rw (le-ltb op a_target h, goes_by_link) (rw (lt-ltb op an_else_if g) e)

  pub step_other : (op ≡ a_procedure_call → ⊥) → (op ≡ an_end → ⊥) → (op ≡ a_function_end → ⊥) → not (eqb op an_undo_end) ≡ step_by_link op
  step_other h g e = rw (ne_eqb op a_procedure_call h) (rw (ne_eqb op an_end g) (rw (ne_eqb op a_function_end e)))

  -- a word of an expression leads nowhere
  pub low_value : op < a_target → goes_by_value op ≡ false
  unfolding goes_by_value
  low_value h = rw (ne_eqb op a_then (λ e. omega arith), goes_by_value) (ne_eqb op a_do (λ e. omega arith))

  pub low-place : op < a_target → goes_by_place op ≡ false
  unfolding goes_by_place
  low-place h = rw (ne_eqb op a_case (λ e. omega arith), goes_by_place) (rw (ne_eqb op a_next_value (λ e. omega arith)) (ne_eqb op an_otherwise (λ e. omega arith)))

  pub low-still : op < a_target → is_led op ≡ false
  unfolding is_led
  low-still h = rw (sym (link-low h), is_led) (rw (low_value h) (low-place h))

-- words whose ops are as low as those of expressions lead nowhere
pub quiet-low : (C : List ℕ) (a b : ℕ) → ((i : ℕ) → a ≤ i → i < b → op_at C i < a_target) → Quiet C a b
quiet-low C a b f i l h = low-still (op_at C i) (f i l h)

-- ---- where a list goes on
module _ (C L : List ℕ) (z : ℕ) where
  pub beyond-step : op_at C z < an_else_if → beyond C L z ≡ z
  unfolding beyond
  beyond-step h = rw (lt-ltb (op_at C z) an_else_if h, beyond)

  pub beyond-case : op_at C z ≡ a_case → beyond C L z ≡ link_at L (z + 1)
  unfolding beyond
  beyond-case h = rw (le-ltb (op_at C z) an_else_if (omega arith), beyond) (rw (eq-eqb (op_at C z) a_case h))

  pub beyond-close : an_else_if ≤ op_at C z → (op_at C z ≡ a_case → ⊥) → beyond C L z ≡ link_at L z
  unfolding beyond
  beyond-close h g = rw (le-ltb (op_at C z) an_else_if h, beyond) (rw (ne_eqb (op_at C z) a_case g))

-- ---- the parts of the code
module _ (code : List ℕ) (words : ℕ) where
  pub goes_step : (z op : ℕ) → z < 16777216 → op ≡ op_at (cells_of code) z → op < an_else_if → Beyond code words z z
  goes_step z op h e g = record { is = λ k. sym (beyond-step (cells_of code) (cells_of code) z (omega arith)); as-link = λ k. k; as-value = h }

  pub goes_case : (z op r : ℕ) → op ≡ op_at (cells_of code) z → op ≡ a_case → Part half_end (link_at (cells_of code) (z + 1)) r → Beyond code words z r
  goes_case z op r e h g = record { is = λ i. g.same ∙ sym (beyond-case (cells_of code) (cells_of code) z (sym e ∙ h)); as-link = λ i. g.small; as-value = omega (arith, g.small) }

  pub goes_close : (z op r : ℕ) → op ≡ op_at (cells_of code) z → an_else_if ≤ op → (op ≡ a_case → ⊥) → Part half_end (link_at (cells_of code) z) r → Beyond code words z r
  goes_close z op r e h d g = record {
    is = λ i. g.same ∙ sym (beyond-close (cells_of code) (cells_of code) z (omega arith) (λ q. d (e ∙ q)));
    as-link = λ i. g.small;
    as-value = omega (arith, g.small);
  }

  module _ (op : ℕ) (b : Bool) (t : b ≡ true) where
    pub value-goes : (v r : ℕ) → b ≡ goes_by_value op → Beyond code words v r → LedValue code words op v r
    value-goes v r e g = record { same = λ f. false-true (sym f ∙ sym e ∙ t); on = λ f. g.is; small = g.as-value }

    pub place-goes : (p r : ℕ) → b ≡ goes_by_place op → p < link_part → Beyond code words p r → LedPlace code words op p r
    place-goes p r e h g = record { same = λ f. false-true (sym f ∙ sym e ∙ t); on = λ f. g.is; small = g.as-link h }

  module _ (op : ℕ) (b : Bool) (t : b ≡ false) where
    pub value_stays : (v : ℕ) → b ≡ goes_by_value op → v < 16777216 → LedValue code words op v v
    value_stays v e h = record { same = λ f. refl; on = λ f. false-true (sym t ∙ e ∙ f); small = h }

    pub place-stays : (p : ℕ) → b ≡ goes_by_place op → p < link_part → LedPlace code words op p p
    place-stays p e h = record { same = λ f. refl; on = λ f. false-true (sym t ∙ e ∙ f); small = h }

  pub link_stays : (op : ℕ) (b : Bool) (l : ℕ) → not b ≡ true → b ≡ goes_by_link op → l < link_part → LedLink code words op l l
  link_stays op b l t e h = record { same = λ f. refl; stays = λ f g k. refl; on = λ f. false-true (sym (not-true b t) ∙ e ∙ f); small = h }

  pub link-to-else : (op l o : ℕ) → op ≡ a_then → o ≡ op_at (cells_of code) l → o ≡ an_else_if → l < link_part → LedLink code words op l l
  link-to-else op l o e f g h = record { same = λ k. refl; stays = λ p q k. refl; on = λ p d. absurd (d e (sym f ∙ g)); small = h }

  module _ (op : ℕ) (b : Bool) (t : not b ≡ false) (e : b ≡ goes_by_link op) (l r : ℕ) (h : l < link_part) (g : Beyond code words l r) where
    pub link-goes : (op ≡ a_then → op_at (cells_of code) l ≡ an_else_if → ⊥) → LedLink code words op l r
    link-goes d = record { same = λ f. false-true (sym f ∙ sym e ∙ not-false b t); stays = λ p q k. absurd (d p q); on = λ f p. g.is; small = g.as-link h }

    pub link-goes-other : (op ≡ a_then → ⊥) → LedLink code words op l r
    link-goes-other d = link-goes (λ p q. d p)

    pub link-goes-then : (o : ℕ) → o ≡ op_at (cells_of code) l → (o ≡ an_else_if → ⊥) → LedLink code words op l r
    link-goes-then o f d = link-goes (λ p q. d (f ∙ q))
