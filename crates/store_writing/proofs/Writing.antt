-- What the functions write.
use mathlib.Core.Path.{◌≡◌, refl, sym, ap, ap₂, subst, ◌∙◌}
use mathlib.Core.List.{List}
use Prim.Native.Nat.{ℕ, ◌+◌, ◌*◌, ◌/◌, ◌%◌, ◌<◌, ◌≤◌}
use native.Mathlib.Omega.{arith}
use lib.ListN.{length, take, drop, set, get_or, length-set}
use lib.Seq.{get_or-set_same, get_or-set_other, set-get_or}
use Rattle.store_cells.specs.Cells.{cells_of, Put}
use Rattle.store_cells.proofs.Laws.{length-words}
use Rattle.store_cells.proofs.Kept.{put-length, put-take, put-drop}
use Rattle.code.specs.Cells.{op_in, value_in, place_in, link_in, head_at, tail_at, op_at, value_at, place_at, link_at}
use Rattle.layout.specs.Parts.{value_part}
use Rattle.store_writing.specs.Promises.{head_with, tail_with, Rewritten, Linked, Relinked}
use Rattle.store_writing.proofs.Rewriting.{rewritten-length, rewritten-take, rewritten-drop}

high_part : (t link : ℕ) → link_in (tail_with (place_in t) link) ≡ link
high_part t link = omega arith

low_part : (t link : ℕ) → place_in (tail_with (place_in t) link) ≡ place_in t
low_part t link = omega arith

head-whole : (C : List ℕ) (i : ℕ) → head_with (op_at C i) (value_at C i) ≡ head_at C i
head-whole C i = omega arith

-- a word's new cells, with the bytes around them as they were
module _ (before after : List ℕ) (i op value link : ℕ) (room : i * 8 + 8 ≤ length before) (small : op < value_part)
    (w : cells_of after ≡ set (set (cells_of before) (i * 2) (head_with op value)) (i * 2 + 1) (tail_with (place_at (cells_of before) i) link)) where
  abbrev mid : List ℕ
  mid = set (cells_of before) (i * 2) (head_with op value)

  head : head_at (cells_of after) i ≡ head_with op value
  head =
      ap (λ (x : List ℕ). head_at x i) w
      ∙ get_or-set_other mid (i * 2 + 1) (i * 2) (tail_with (place_at (cells_of before) i) link) 0 (λ e. omega arith)
      ∙ get_or-set_same (cells_of before) (i * 2) (head_with op value) 0 (omega (arith, length-words before))

  tail : tail_at (cells_of after) i ≡ tail_with (place_at (cells_of before) i) link
  tail = ap (λ (x : List ℕ). tail_at x i) w ∙ get_or-set_same mid (i * 2 + 1) (tail_with (place_at (cells_of before) i) link) 0 (simp length-set (omega (arith, length-words before)))

  pub linked : take (i * 8) after ≡ take (i * 8) before → drop ((i + 1) * 8) after ≡ drop ((i + 1) * 8) before → length after ≡ length before → Linked before after i op value link
  linked b a l = record {
    words = w;
    op-is = ap op_in head ∙ omega arith;
    value-is = ap value_in head ∙ omega arith;
    place_is = ap place_in tail ∙ low_part (tail_at (cells_of before) i) link;
    link-is = ap link_in tail ∙ high_part (tail_at (cells_of before) i) link;
    kept = record { below = b; above = a; long = l };
  }

module _ (before after : List ℕ) (i : ℕ) (room : i * 8 + 8 ≤ length before) where
  pub head-written : (op value : ℕ) → op < value_part → Put before after (i * 2) (head_with op value) → Linked before after i op value (link_at (cells_of before) i)
  head-written op value small p =
      linked before after i op value (link_at (cells_of before) i) room small
      (p.words ∙ sym (ap (set mid (i * 2 + 1)) (tail-is ∙ sym (get_or-set_other (cells_of before) (i * 2) (i * 2 + 1) _ 0 (λ e. omega arith))) ∙ set-get_or mid (i * 2 + 1) 0))
      (put-take p (omega arith) (i * 8) (omega arith))
      (put-drop p (omega arith) ((i + 1) * 8) (omega arith))
      (put-length p (omega arith))
    where
      mid : List ℕ
      mid = set (cells_of before) (i * 2) (head_with op value)

      tail-is : tail_with (place_at (cells_of before) i) (link_at (cells_of before) i) ≡ tail_at (cells_of before) i
      tail-is = omega arith

  pub link-written : (link place : ℕ) → place ≡ place_at (cells_of before) i → Put before after (i * 2 + 1) (tail_with place link)
      → Relinked before after i link
  link-written link place e p =
      linked before after i (op_at (cells_of before) i) (value_at (cells_of before) i) link room (omega arith)
      (p.words ∙ ap₂ (λ (l : List ℕ) (x : ℕ). set l (i * 2 + 1) (tail_with x link)) (sym (ap (set (cells_of before) (i * 2)) head-is ∙ set-get_or (cells_of before) (i * 2) 0)) e)
      (put-take p (omega arith) (i * 8) (omega arith))
      (put-drop p (omega arith) ((i + 1) * 8) (omega arith))
      (put-length p (omega arith))
    where
      head-is : head_with (op_at (cells_of before) i) (value_at (cells_of before) i) ≡ head_at (cells_of before) i
      head-is = head-whole (cells_of before) i

  pub word-written : (op value link place : ℕ) → op < value_part → place ≡ place_at (cells_of before) i → Rewritten before after i (head_with op value) (tail_with place link)
      → Linked before after i op value link
  word-written op value link place small e r =
      linked before after i op value link room small
      (r.words ∙ ap (λ (x : ℕ). set (set (cells_of before) (i * 2) (head_with op value)) (i * 2 + 1) (tail_with x link)) e)
      (rewritten-take r room (i * 8) (omega arith))
      (rewritten-drop r room ((i + 1) * 8) (omega arith))
      (rewritten-length r room)

pub value_written : (before after : List ℕ) (i value op : ℕ) → op ≡ op_at (cells_of before) i → Put before after (i * 2) (head_with op value)
    → Put before after (i * 2) (head_with (op_at (cells_of before) i) value)
value_written before after i value op e p = subst (λ (x : ℕ). Put before after (i * 2) (head_with x value)) e p

pub place-written : (before after : List ℕ) (i place link : ℕ) → link ≡ link_at (cells_of before) i → Put before after (i * 2 + 1) (tail_with place link)
    → Put before after (i * 2 + 1) (tail_with place (link_at (cells_of before) i))
place-written before after i place link e p = subst (λ (x : ℕ). Put before after (i * 2 + 1) (tail_with place x)) e p

-- where a link alone has changed, every other cell is as it was
pub relinked-others : {before after : List ℕ} {i link : ℕ} → Relinked before after i link → (k : ℕ) → (k ≡ i * 2 + 1 → ⊥) → get_or (cells_of after) k 0 ≡ get_or (cells_of before) k 0
relinked-others {before} {after} {i} {link} l k d =
    ap (λ (x : List ℕ). get_or x k 0) l.words
    ∙ get_or-set_other (set (cells_of before) (i * 2) (head_with (op_at (cells_of before) i) (value_at (cells_of before) i))) (i * 2 + 1) k _ 0 d
    ∙ ap (λ (x : List ℕ). get_or x k 0) (ap (set (cells_of before) (i * 2)) (head-whole (cells_of before) i) ∙ set-get_or (cells_of before) (i * 2) 0)
