-- An operator that carries its right side.
use mathlib.Core.Path.{◌≡◌, sym, ap, subst, ◌∙◌}
use mathlib.Core.List.{List}
use Prim.Native.Nat.{ℕ, ◌/◌, ◌%◌, ◌<◌, ◌≤◌}
use native.Mathlib.Omega.{arith}
use lib.IntN.{ℤ}
use mir.Syntax.{w64}
use mir.Val.{SFits}
use mir.Facts.{to_z-of_z}
use Rattle.paper.specs.Numbers.{value}
use Rattle.store_numbers.proofs.Whole.{read}
use Rattle.code.specs.Spans.{right_in, operator_of, operators}
use Rattle.code.proofs.Operands.{by-leaf}
use Rattle.store_evaluation.specs.Answers.{Gives}
use Rattle.store_evaluation.specs.Parts.{joined, Leaf, Read, Fused}
use Rattle.store_evaluation.proofs.Operators.{past-last, past_of}

-- at the op n
pub arm-leaf : (n : ℕ) (op v : ℕ) → op ≡ n → Leaf (right_in op) v → Leaf (n / 16 % 4) v
arm-leaf n op v e l = subst (λ (j : ℕ). Leaf (j / 16 % 4) v) e l

module _ (values : List ℕ) (base op v : ℕ) (a : ℤ) (sa : SFits w64 a) where
  fuses : (k : ℕ) → operator_of k ≡ operator_of (op % 16) → (b : ℤ) → SFits w64 b → Read values base (right_in op) v b → (r : ℤ) → SFits w64 r
      → Gives (joined (operator_of k) (value (read a)) (value (read b))) r → Fused values base op v a (read r)
  fuses k q b sb d r s g =
      let h : Gives (joined (operator_of k) (value a) (value b)) r = rw (to_z-of_z sa, to_z-of_z sb) at g in
      rw (to_z-of_z s) (record {
        is = λ c t e. h.is ∙ ap (λ (o : ℕ). joined o (value a) (value b)) q ∙ ap (joined (operator_of (op % 16)) (value a)) (sym (d.is c t e));
        small = h.small;
      })

  pub arm-last : (b : ℤ) → SFits w64 b → Read values base (op / 16 % 4) v b → (r : ℤ) → SFits w64 r → Gives (joined (operator_of 11) (value (read a)) (value (read b))) r
      → Leaf (right_in op) v → op < 64 → (op ≡ 16 → ⊥) → (op ≡ 17 → ⊥) → (op ≡ 18 → ⊥) → (op ≡ 19 → ⊥) → (op ≡ 20 → ⊥) → (op ≡ 21 → ⊥) → (op ≡ 22 → ⊥)
      → (op ≡ 23 → ⊥) → (op ≡ 24 → ⊥) → (op ≡ 25 → ⊥) → (op ≡ 26 → ⊥) → (op ≡ 27 → ⊥) → (op ≡ 28 → ⊥) → (op ≡ 29 → ⊥) → (op ≡ 32 → ⊥) → (op ≡ 33 → ⊥)
      → (op ≡ 34 → ⊥) → (op ≡ 35 → ⊥) → (op ≡ 36 → ⊥) → (op ≡ 37 → ⊥) → (op ≡ 38 → ⊥) → (op ≡ 39 → ⊥) → (op ≡ 40 → ⊥) → (op ≡ 41 → ⊥) → (op ≡ 42 → ⊥)
      → (op ≡ 43 → ⊥) → (op ≡ 44 → ⊥) → (op ≡ 45 → ⊥) → (op ≡ 48 → ⊥) → (op ≡ 49 → ⊥) → (op ≡ 50 → ⊥) → (op ≡ 51 → ⊥) → (op ≡ 52 → ⊥) → (op ≡ 53 → ⊥)
      → (op ≡ 54 → ⊥) → (op ≡ 55 → ⊥) → (op ≡ 56 → ⊥) → (op ≡ 57 → ⊥) → (op ≡ 58 → ⊥) → (op ≡ 59 → ⊥) → (op ≡ 60 → ⊥) → (op ≡ 61 → ⊥)
      → Fused values base op v a (read r)
  unfolding operator_of operators
  arm-last b sb d r s g l m n16 n17 n18 n19 n20 n21 n22 n23 n24 n25 n26 n27 n28 n29 n32 n33 n34 n35 n36 n37 n38 n39 n40 n41 n42 n43 n44 n45 n48 n49 n50 n51 n52 n53 n54 n55 n56 n57 n58 n59 n60 n61 =
      let p : 14 ≤ op % 16 =
      by-leaf l.c.m l.c.n (right_in op) v l.t l.is
      (λ h. past_of (op % 16) (λ e. n16 (omega arith)) (λ e. n17 (omega arith)) (λ e. n18 (omega arith)) (λ e. n19 (omega arith)) (λ e. n20 (omega arith)) (λ e. n21 (omega arith)) (λ e. n22 (omega arith))
      (λ e. n23 (omega arith)) (λ e. n24 (omega arith)) (λ e. n25 (omega arith)) (λ e. n26 (omega arith)) (λ e. n27 (omega arith)) (λ e. n28 (omega arith)) (λ e. n29 (omega arith)))
      (λ h. past_of (op % 16) (λ e. n32 (omega arith)) (λ e. n33 (omega arith)) (λ e. n34 (omega arith)) (λ e. n35 (omega arith)) (λ e. n36 (omega arith)) (λ e. n37 (omega arith)) (λ e. n38 (omega arith))
      (λ e. n39 (omega arith)) (λ e. n40 (omega arith)) (λ e. n41 (omega arith)) (λ e. n42 (omega arith)) (λ e. n43 (omega arith)) (λ e. n44 (omega arith)) (λ e. n45 (omega arith)))
      (λ h. past_of (op % 16) (λ e. n48 (omega arith)) (λ e. n49 (omega arith)) (λ e. n50 (omega arith)) (λ e. n51 (omega arith)) (λ e. n52 (omega arith)) (λ e. n53 (omega arith)) (λ e. n54 (omega arith))
      (λ e. n55 (omega arith)) (λ e. n56 (omega arith)) (λ e. n57 (omega arith)) (λ e. n58 (omega arith)) (λ e. n59 (omega arith)) (λ e. n60 (omega arith)) (λ e. n61 (omega arith))) in
      fuses 11 (sym (past-last (op % 16) p)) b sb d r s g

pub arm : (n : ℕ) (values : List ℕ) (base op v : ℕ) (a : ℤ) → SFits w64 a → op ≡ n → (b : ℤ) → SFits w64 b → Read values base (n / 16 % 4) v b → (r : ℤ) → SFits w64 r
    → Gives (joined (operator_of (n % 16)) (value (read a)) (value (read b))) r → Fused values base op v a (read r)
arm n values base op v a sa e b sb d r s g =
    fuses values base op v a sa (n % 16) (ap (λ (j : ℕ). operator_of (j % 16)) (sym e)) b sb (subst (λ (j : ℕ). Read values base (j / 16 % 4) v b) (sym e) d) r s g
