-- The signatures that are read from the code store.
use mathlib.Core.Path.{◌≡◌, refl, sym, ap, ap₂, ◌∙◌}
use mathlib.Core.Bool.{Bool, true, false}
use mathlib.Core.List.{List, [], ◌∷◌, ◌++◌}
use mathlib.Core.Option.{Option, none, some}
use Prim.Native.Nat.{ℕ, zero, suc, ◌+◌, ◌*◌, ◌/◌, ◌%◌, ◌<◌, ◌≤◌}
use native.Mathlib.Omega.{arith}
use lib.Dec.{eqb}
use lib.ListN.{length, get_or}
use Rattle.laws.proofs.Tests.{test}
use Rattle.std.specs.Prelude.{if◌then◌else◌}
use Rattle.paper.specs.Sorts.{FUNC}
use Rattle.paper.specs.Names.{DataType, refused_piece, type_of}
use Rattle.paper.specs.Declarations.{Signature}
use Rattle.code.specs.Cells.{head_at, op_at, value_at}
use Rattle.code.specs.Signatures.{type_at, types_at, first_parameter, result_at, signature_in, signature_end}

-- ---- the types of parameters
module _ (C : List ℕ) where
  pub types-length : (i n : ℕ) → length (types_at C n i) ≡ n
  unfolding types_at
  types-length i zero = refl
  types-length i (suc n) = ap suc (types-length (i + 3) n)

  -- one more
  pub types_more : (i n : ℕ) → types_at C (suc n) i ≡ types_at C n i ++ (type_at C (i + 3 * n) ∷ [])
  unfolding types_at
  types_more i zero = let e : i + 3 * 0 ≡ i = omega arith in rw e
  types_more i (suc n) = let e : i + 3 * suc n ≡ i + 3 + 3 * n = omega arith in rw e (ap (λ (l : List DataType). type_at C i ∷ l) (types_more (i + 3) n))

  -- the one at a place
  pub types-at : (i n j : ℕ) → j < n → get_or (types_at C n i) j refused_piece ≡ type_at C (i + 3 * j)
  unfolding types_at
  types-at i zero j h = absurd (omega arith)
  types-at i (suc n) zero h = let e : i + 3 * 0 ≡ i = omega arith in rw e
  types-at i (suc n) (suc j) h = let e : i + 3 * suc j ≡ i + 3 + 3 * j = omega arith in rw e (types-at (i + 3) n j (omega arith))

-- ---- what they are read from
module _ (C D : List ℕ) where
  pub type-kept : (i : ℕ) → head_at D i ≡ head_at C i → type_at D i ≡ type_at C i
  unfolding type_at
  type-kept i h = rw h

  pub types-kept : (i n : ℕ) → ((k : ℕ) → i ≤ k → k < i + 3 * n → head_at D k ≡ head_at C k) → types_at D n i ≡ types_at C n i
  unfolding types_at
  types-kept i zero h = refl
  types-kept i (suc n) h =
      ap₂ (λ (t : DataType) (l : List DataType). t ∷ l) (type-kept i (h i (omega arith) (omega arith))) (types-kept (i + 3) n (λ k a b. h k (omega arith) (omega arith)))

  -- the first word, the one behind it, and the types
  pub signature-kept : (h : ℕ) → ((k : ℕ) → h ≤ k → k < signature_end C h → head_at D k ≡ head_at C k) → signature_in D h ≡ signature_in C h
  unfolding signature_in first_parameter result_at
  signature-kept h e =
      let first : head_at D h ≡ head_at C h = e h (omega arith) (from (eqb (op_at C h) FUNC)) in
      rw first
      (test (eqb (op_at C h) FUNC)
      (λ t. rw t (ap₂ (λ (o : Option DataType) (l : List DataType). record { result = o; parameters = l })
      (ap some (type-kept (h + 1) (e (h + 1) (omega arith) (rw t (omega arith)))))
      (types-kept (h + 4) (value_at C h) (λ k a b. e k (omega arith) (rw t (omega arith))))))
      (λ t. rw t (ap (λ (l : List DataType). record { result = none; parameters = l }) (types-kept (h + 3) (value_at C h) (λ k a b. e k (omega arith) (rw t (omega arith)))))))
    where
      from : (b : Bool) → h < (if b then h + 4 else h + 3) + 3 * value_at C h
      from true = omega arith
      from false = omega arith
