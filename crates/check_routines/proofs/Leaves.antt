-- The head, and single words.
use Rattle.layout.specs.Parts.{link_part}
use mathlib.Core.Path.{◌≡◌, refl, sym, ap, ◌∙◌}
use mathlib.Core.Bool.{Bool, true, false}
use mathlib.Core.List.{List}
use Prim.Native.Nat.{ℕ, ◌+◌, ◌*◌, ◌/◌, ◌%◌, ◌<◌, ◌≤◌}
use native.Mathlib.Omega.{arith}
use lib.Dec.{eqb}
use lib.ListN.{length, get_or}
use borrow.Author.Tests.{eq-eqb, ne_eqb}
use Rattle.laws.proofs.Tests.{by_less, by-same}
use Rattle.paper.specs.Words.{word_limit}
use Rattle.paper.specs.Checks.{the_body, the_handler}
use Rattle.store_cells.specs.Cells.{cells_of, Put}
use Rattle.store_cells.proofs.Kept.{put-length, put_same, put_other}
use Rattle.code.specs.Cells.{op_in, value_in, place_in, link_in, head_at, tail_at, op_at, link_at}
use Rattle.store_writing.specs.Promises.{tail_with, Rewritten, Linked, Headed}
use Rattle.store_writing.proofs.Keeping.{cell_below, cell-above}
use Rattle.store_writing.proofs.Rewriting.{rewritten-head, rewritten-tail, rewritten-other}
use Rattle.check_links.specs.Raw.{end_of}
use Rattle.check_routines.specs.Parts.{names_routine, first_behind, Closes, Finishes}
use Rattle.code.specs.Steps.{an_end, a_function_end, an_undo_end, the_parameters}
use Rattle.layout.specs.Kinds as kinds

-- ---- the head
module _ (m h : ℕ) where
  pub other-kind : (k : ℕ) → k ≡ kinds.kind_in m → (k ≡ kinds.a_routine → ⊥) → false ≡ names_routine m h
  unfolding names_routine
  other-kind k e d = rw (ne_eqb (kinds.kind_in m) kinds.a_routine (λ q. d (e ∙ q)))

  pub of-kind : (k : ℕ) → k ≡ kinds.kind_in m → k ≡ kinds.a_routine → (v : ℕ) → v ≡ value_in m → eqb v h ≡ names_routine m h
  unfolding names_routine
  of-kind k e q v w = ap (λ (x : ℕ). eqb x h) w ∙ rw (eq-eqb (kinds.kind_in m) kinds.a_routine (sym e ∙ q)) refl

-- ---- where a list begins
module _ (e z : ℕ) where
  pub no-list-behind : z ≡ e → 0 ≡ first_behind e z
  unfolding first_behind
  no-list-behind q = rw (eq-eqb z e q)

  pub a-list-behind : (z ≡ e → ⊥) → e + 1 ≡ first_behind e z
  unfolding first_behind
  a-list-behind d = rw (ne_eqb z e d)

  pub first_small : e < word_limit → (r : ℕ) → r ≡ first_behind e z → r < link_part
  first_small h r q = by-same z e (λ w. omega (arith, no-list-behind w)) (λ w. omega (arith, a-list-behind w))

-- ---- words
pub finished : (before mid after : List ℕ) (h opens at fors : ℕ) → h < opens → opens * 8 + 8 ≤ length before → at < link_part → fors < link_part
    → Put before mid (h * 2 + 1) (tail_with at (link_at (cells_of before) h)) → Rewritten mid after opens the_parameters (tail_with fors 0) → Finishes before after h opens at fors
finished before mid after h opens at fors o room near few p q =
    let first : (h * 2 + 1) * 4 + 4 ≤ length before = omega arith in
    let second : opens * 8 + 8 ≤ length mid = omega (arith, put-length p first) in
    let tail : get_or (cells_of after) (h * 2 + 1) 0 ≡ at + link_part * link_at (cells_of before) h = rewritten-other q second (h * 2 + 1) (λ e. omega arith) (λ e. omega arith) ∙ put_same p first in
    record {
      place_is = ap (λ (w : ℕ). w % link_part) tail ∙ low (link_at (cells_of before) h);
      link-is = ap (λ (w : ℕ). w / link_part) tail ∙ high (link_at (cells_of before) h);
      op-is = ap (λ (w : ℕ). w % 256) (rewritten-head q second);
      fors-is = ap (λ (w : ℕ). w % link_part) (rewritten-tail q second) ∙ omega arith;
      others = λ k a b c. rewritten-other q second k b c ∙ put_other p first k a;
    }
  where
    low : (x : ℕ) → (at + link_part * x) % link_part ≡ at
    low x = omega arith

    high : (x : ℕ) → (at + link_part * x) / link_part ≡ x
    high x = omega arith

-- ---- the ends of lists
module _ (before after : List ℕ) (e : ℕ) where
  pub a-function-end : {f : Bool} → f ≡ true → Linked before after e a_function_end 0 (link_at (cells_of before) e) → Linked before after e (end_of the_body f) 0 (link_at (cells_of before) e)
  unfolding end_of
  a-function-end t l = rw t l

  pub a-plain-end : {f : Bool} → f ≡ false → Linked before after e an_end 0 (link_at (cells_of before) e) → Linked before after e (end_of the_body f) 0 (link_at (cells_of before) e)
  unfolding end_of
  a-plain-end t l = rw t l

handler-end : (f : Bool) → end_of the_body f ≡ end_of the_handler f
unfolding end_of
handler-end true = refl
handler-end false = refl

same-tail : (v w : ℕ) → v % link_part ≡ w % link_part → v / link_part ≡ w / link_part → v ≡ w
same-tail v w a b = omega arith

-- a head alone is written
headed-others : {before after : List ℕ} {i op value : ℕ} → Headed before after i op value → (k : ℕ) → (k ≡ i * 2 → ⊥) → get_or (cells_of after) k 0 ≡ get_or (cells_of before) k 0
headed-others {before} {after} {i} l k d =
    by_less k (i * 2) (λ h. cell_below l.kept k h)
    (λ h. by-same k (i * 2 + 1)
    (λ w. ap (λ (j : ℕ). get_or (cells_of after) j 0) w ∙ same-tail (tail_at (cells_of after) i) (tail_at (cells_of before) i) l.place_is l.link-is ∙ sym (ap (λ (j : ℕ). get_or (cells_of before) j 0) w))
    (λ w. cell-above l.kept k (omega (arith, w, d))))

module _ (code c₁ c₂ c₃ c₄ : List ℕ) (f : Bool) (h e z w : ℕ) (before : h + 1 < e) (inner : e ≤ z) (last : z ≤ w) (few : w < word_limit) (room : w * 8 + 8 ≤ length code) where
  pub closed : Headed code c₁ w an_undo_end 0 → Linked c₁ c₂ z (end_of the_body f) 0 (link_at (cells_of c₁) z) → Linked c₂ c₃ e (end_of the_body f) 0 (link_at (cells_of c₂) e)
      → (head : ℕ) → head ≡ head_at (cells_of c₃) (h + 1) → (undo handler : ℕ) → undo ≡ first_behind z w → handler ≡ first_behind e z
      → Rewritten c₃ c₄ (h + 1) head (tail_with undo handler) → Closes code c₄ f h e z w
  unfolding end_of
  closed a b c head hd undo handler u v q =
      let here : (h + 1) * 8 + 8 ≤ length c₃ = omega (arith, c.kept.long, b.kept.long, a.kept.long) in
      let most : undo < link_part = first_small z w (omega arith) undo u in
      let tail : tail_at (cells_of c₄) (h + 1) ≡ tail_with undo handler = rewritten-tail q here in
      let ends : (k : ℕ) → e ≤ k → head_at (cells_of c₄) k ≡ head_at (cells_of c₃) k = λ k l. rewritten-other q here (k * 2) (λ x. omega arith) (λ x. omega arith) in
      let third : (k : ℕ) → e ≤ k → (k ≡ e → ⊥) → head_at (cells_of c₄) k ≡ head_at (cells_of c₂) k = λ k l d. ends k l ∙ headed-others c (k * 2) (λ x. d (omega arith)) in
      record {
        body = ap op_in (ends e (omega arith)) ∙ c.op-is;
        handler =
            by-same z e (λ x. ap (op_at (cells_of c₄)) x ∙ ap op_in (ends e (omega arith)) ∙ c.op-is ∙ handler-end f)
            (λ x. ap op_in (third z inner x) ∙ b.op-is ∙ handler-end f);
        undo = λ x. ap op_in (third w (omega arith) (λ y. x (omega arith)) ∙ headed-others b (w * 2) (λ y. x (omega arith))) ∙ a.op-is;
        link-is = ap link_in tail ∙ high undo handler most ∙ v;
        place_is = ap place_in tail ∙ low undo handler most ∙ u;
        others = λ k x y t r.
            by-same k ((h + 1) * 2)
            (λ s. ap (λ (j : ℕ). get_or (cells_of c₄) j 0) s ∙ rewritten-head q here ∙ hd ∙ ap (λ (j : ℕ). get_or (cells_of c₃) j 0) (sym s))
            (λ s. rewritten-other q here k s (λ y. r (omega arith)))
            ∙ headed-others c k x ∙ headed-others b k y ∙ headed-others a k t;
      }
    where
      low : (u v : ℕ) → u < link_part → (u + link_part * v) % link_part ≡ u
      low u v l = omega arith

      high : (u v : ℕ) → u < link_part → (u + link_part * v) / link_part ≡ v
      high u v l = omega arith
