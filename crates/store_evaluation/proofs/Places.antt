-- Words of the code store that say something are in it.
use mathlib.Core.Path.{◌≡◌, sym, ap, ◌∙◌}
use mathlib.Core.List.{List}
use mathlib.Core.Option.{Option, some}
use Prim.Native.Nat.{ℕ, ◌+◌, ◌*◌, ◌/◌, ◌%◌, ◌<◌, ◌≤◌}
use native.Mathlib.Omega.{arith}
use lib.ListN.{length, get_or, get_or-eq_default}
use Rattle.laws.proofs.Tests.{by_less, by-same}
use Rattle.paper.specs.Terms.{Term}
use Rattle.store_cells.specs.Cells.{cells_of}
use Rattle.store_cells.proofs.Laws.{length-words}
use Rattle.code.specs.Cells.{head_at, tail_at, op_at, value_at, place_at, link_at}
use Rattle.code.specs.Spans.{a_span, right_in, within, operand_term, right_term}
use Rattle.code.proofs.Operands.{by-leaf, of-any}
use Rattle.code.proofs.Spanning.{right-span}

-- a cell that is not 0 is in the list
cell_in : (l : List ℕ) (k : ℕ) → (get_or (cells_of l) k 0 ≡ 0 → ⊥) → k * 4 + 4 ≤ length l
cell_in l k h =
    by_less k (length (cells_of l))
    (λ g. omega (arith, length-words l))
    (λ g. absurd (h (get_or-eq_default (cells_of l) 0 g)))

module _ (code : List ℕ) (i : ℕ) (w : length code % 8 ≡ 0) where
  pub head_in : (head_at (cells_of code) i ≡ 0 → ⊥) → i * 8 + 8 ≤ length code
  head_in h = omega (arith, cell_in code (i * 2) h)

  pub tail-in : (tail_at (cells_of code) i ≡ 0 → ⊥) → i * 8 + 8 ≤ length code
  tail-in h = omega (arith, cell_in code (i * 2 + 1) h)

  pub op-in : (op_at (cells_of code) i ≡ 0 → ⊥) → i * 8 + 8 ≤ length code
  op-in h = head_in (λ e. h (ap (λ (v : ℕ). v % 256) e))

  pub value-in : (value_at (cells_of code) i ≡ 0 → ⊥) → i * 8 + 8 ≤ length code
  value-in h = head_in (λ e. h (ap (λ (v : ℕ). v / 256) e))

  pub place_in : (place_at (cells_of code) i ≡ 0 → ⊥) → i * 8 + 8 ≤ length code
  place_in h = tail-in (λ e. h (ap (λ (v : ℕ). v % 65536) e))

  pub link-in : (link_at (cells_of code) i ≡ 0 → ⊥) → i * 8 + 8 ≤ length code
  link-in h = tail-in (λ e. h (ap (λ (v : ℕ). v / 65536) e))

  -- an operator, whose right side can be read
  pub right-in : (m n : ℕ) (inner : ℕ → ℕ → Option Term) → ((a b : ℕ) (t : Term) → inner a b ≡ some t → a < b)
      → (u : Term) → right_term m n (cells_of code) inner i ≡ some u → i * 8 + 8 ≤ length code
  right-in m n inner grow u e =
      by-same (right_in (op_at (cells_of code) i)) a_span
      (λ h. link-in (λ z. let g = grow (i + 1) (link_at (cells_of code) i) u (sym (right-span (cells_of code) i m n inner h) ∙ e) in omega arith))
      (λ h. op-in (λ z. h (ap (λ (v : ℕ). right_in v) z)))

-- an operand that can be read
pub operand-some : (m n : ℕ) (C : List ℕ) (inner : ℕ → ℕ → ℕ → Option Term) (d at : ℕ) (x : Term × ℕ) → operand_term m n C inner d at ≡ some x → head_at C at ≡ 0 → ⊥
operand-some m n C inner d at x e z =
    let q : op_at C at ≡ 0 = ap (λ (v : ℕ). v % 256) z in
    of-any m n (head_at C at) (link_at C at) (within inner d) (inner d) at x e
    (λ h g. by-leaf m n (op_at C at) (value_at C at) x.0 g.is (λ k. omega arith) (λ k. omega arith) (λ k. omega arith))
    (λ h j g. omega arith)
    (λ h g. omega arith)
    (λ h g. omega arith)
