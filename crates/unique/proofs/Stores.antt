-- What promises settle that speak of a store by its cells. That a list is one of bytes (`Bytes`) is known of everything that is lent.
use mathlib.Core.Path.{◌≡◌, sym, ap, subst, ◌∙◌}
use mathlib.Core.List.{List}
use Prim.Native.Nat.{ℕ, ◌+◌, ◌*◌, ◌/◌, ◌%◌, ◌≤◌}
use native.Mathlib.Omega.{arith}
use lib.ListN.{length, get_or, take, drop}
use lib.Seq.{take_all}
use lib.IntN.{ℤ}
use Rattle.store_cells.specs.Cells.{cells_of, bytes_of}
use Rattle.store_cells.proofs.Laws.{Bytes}
use Rattle.store_reading.specs.Reading.{Part, Loaded, Stored}
use Rattle.store_writing.specs.Promises.{Linked, Headed, Relinked}
use Rattle.check_spelling.proofs.Fronts.{front_bytes}
use Rattle.check_load.proofs.Unique.{same_store}

-- ---- what is read
pub part-unique : (bound is r s : ℕ) → Part bound is r → Part bound is s → r ≡ s
part-unique bound is r s p q = p.same ∙ sym q.same

pub loaded-unique : (k : ℕ) (y z : ℤ) → Loaded k y → Loaded k z → y ≡ z
loaded-unique k y z p q = p.is ∙ sym q.is

-- ---- a store by all its cells
-- Two stores that can differ in nothing but bytes behind the last whole cell, three at most; where there are none the stores are equal.
pub record SameCells (a b : List ℕ) : Type 0 where
  pub cells : cells_of a ≡ cells_of b
  pub long : length a ≡ length b
  pub bytes : Bytes a → Bytes b → (n : ℕ) → n * 4 ≤ length a → take (n * 4) a ≡ take (n * 4) b
  pub whole : Bytes a → Bytes b → length a % 4 ≡ 0 → a ≡ b

module _ (a b : List ℕ) (same : cells_of a ≡ cells_of b) (size : length a ≡ length b) where
  fronts : Bytes a → Bytes b → (n : ℕ) → n * 4 ≤ length a → take (n * 4) a ≡ take (n * 4) b
  fronts p q n h = front_bytes n a p h ∙ ap (λ (w : List ℕ). bytes_of (take n w)) same ∙ sym (front_bytes n b q (omega arith))

  pub same-cells : SameCells a b
  same-cells = record {
    cells = same;
    long = size;
    bytes = fronts;
    whole = λ p q h.
        sym (take_all (length a / 4 * 4) a (omega arith)) ∙ fronts p q (length a / 4) (omega arith) ∙ take_all (length a / 4 * 4) b (omega arith);
  }

pub stored-unique : (before a b : List ℕ) (i : ℕ) (v : ℤ) → Stored before a i v → Stored before b i v → SameCells a b
stored-unique before a b i v p q = same-cells a b (p.words ∙ sym q.words) (p.long ∙ sym q.long)

-- ---- a word of the code store: its cells, and every byte around it
-- two stores of the same cells, with the same bytes behind word i
pub same-behind : (a b : List ℕ) (i : ℕ) → Bytes a → Bytes b → i * 8 + 8 ≤ length a → length a ≡ length b → cells_of a ≡ cells_of b → drop ((i + 1) * 8) a ≡ drop ((i + 1) * 8) b → a ≡ b
same-behind a b i p q room size same above =
    let at : (i + 1) * 8 ≡ (i * 2 + 2) * 4 = omega arith in
    same_store (i * 2 + 2) a b p q size (omega arith) (λ k l. ap (λ (w : List ℕ). get_or w k 0) same) (subst (λ (n : ℕ). drop n a ≡ drop n b) at above)

module _ (before a b : List ℕ) (i : ℕ) (room : i * 8 + 8 ≤ length before) (p : Bytes a) (q : Bytes b) where
  pub linked-unique : (op value link : ℕ) → Linked before a i op value link → Linked before b i op value link → a ≡ b
  linked-unique op value link x y =
      same-behind a b i p q (omega (arith, x.kept.long)) (x.kept.long ∙ sym y.kept.long) (x.words ∙ sym y.words) (x.kept.above ∙ sym y.kept.above)

  pub headed-unique : (op value : ℕ) → Headed before a i op value → Headed before b i op value → a ≡ b
  headed-unique op value x y = linked-unique op value _ x y

  pub relinked-unique : (link : ℕ) → Relinked before a i link → Relinked before b i link → a ≡ b
  relinked-unique link x y = linked-unique _ _ link x y
