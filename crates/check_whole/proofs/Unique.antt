-- What the promise settles: the answer, the value store whole, every byte past the cells, and of a refused module the code store too. Of an accepted one both code
-- stores hold the same program with the same routines; cells that no run reads may differ.
use mathlib.Core.Path.{◌≡◌, refl, sym, ap, ap₂, subst, ◌∙◌}
use mathlib.Core.Bool.{Bool, true, false, ◌||◌}
use mathlib.Core.List.{List, map}
use Prim.Native.Nat.{ℕ, ◌<◌, ◌≤◌}
use native.Mathlib.Omega.{arith}
use lib.Dec.{ltb}
use lib.IntN.{ℤ}
use lib.ListN.{length, get_or, take, drop, get_or-map}
use lib.Seq.{get_or-take}
use mir.Syntax.{w32}
use mir.Val.{to_z, of_z}
use mir.Facts.{of_z-to_z}
use borrow.Author.Tests.{ltb-false}
use Rattle.laws.proofs.Tests.{test, by_less, false-true}
use Rattle.paper.specs.Answer.{Accepted, Verdict, refused_by, accepted, verdict, offset_of, store_words}
use Rattle.store_cells.specs.Cells.{cells_of}
use Rattle.store_cells.proofs.Laws.{Bytes, words_small}
use Rattle.code.specs.Steps.{Head, no_head}
use Rattle.code.specs.Holds.{Holds}
use Rattle.check_load.proofs.Unique.{same_store}
use Rattle.check_whole.specs.Checks.{store_bytes, heads_in, Ready, Judges, TooSmall, Checks, Checked, Refuses}
use Rattle.std.specs.Prelude.{Ok, Err}
use Rattle.text_words.specs.declared.Refusal.{Refusal}
use Rattle.layout.specs.declared.rules.Rule.{Rule}
use Rattle.paper.specs.Words as paper
use Rattle.layout.proofs.RuleNumbers.{number-injective}

-- both stores hold the program that the paper has of the text
pub record OneProgram (text c d : List ℕ) : Type 0 where
  pub a : Accepted
  pub verdict-is : verdict text ≡ accepted a
  pub first : Holds text (heads_in a.words) (offset_of text a.words) (cells_of (take store_bytes c)) a.program
  pub second : Holds text (heads_in a.words) (offset_of text a.words) (cells_of (take store_bytes d)) a.program

unfoldable pub SameCode : (text : List ℕ) → Checked → (c d : List ℕ) → Type 0
SameCode text (Err refusal) c d = c ≡ d
SameCode text (Ok a) c d = OneProgram text c d

pub record Same (text : List ℕ) (r s : Checked) (c d v w : List ℕ) : Type 0 where
  pub answer : r ≡ s
  pub values_same : Bytes v → Bytes w → v ≡ w
  pub code-past : drop store_bytes c ≡ drop store_bytes d
  pub code-long : length c ≡ length d
  pub code_same : SameCode text r c d

-- words that stand for the same numbers
same_number : (x y : ℕ) → x < 4294967296 → y < 4294967296 → to_z w32 x ≡ to_z w32 y → x ≡ y
same_number x y a b e = sym (of_z-to_z {w = w32} (record { fits = a })) ∙ ap (of_z w32) e ∙ of_z-to_z {w = w32} (record { fits = b })

word_at : (l : List ℕ) (n k : ℕ) → k < n → get_or (map (to_z w32) (take n l)) k (to_z w32 0) ≡ to_z w32 (get_or l k 0)
word_at l n k h = get_or-map (to_z w32) (take n l) k 0 ∙ ap (to_z w32) (get_or-take n l k 0 h)

module _ (text code values : List ℕ) (r s : Checked) (c d v w : List ℕ) where
  module _ (room : store_bytes ≤ length values) (a : Accepted) (p : Ready text code values a r c v) (q : Ready text code values a s d w) where
    cells : Bytes v → Bytes w → (k : ℕ) → k < store_words → get_or (cells_of v) k 0 ≡ get_or (cells_of w) k 0
    cells bytes others k l =
        by_less k (length a.program.words)
        (λ m. same_number _ _ (words_small v bytes k) (words_small w others k)
        (sym (word_at (cells_of v) _ k m) ∙ ap (λ (x : List ℤ). get_or x k (to_z w32 0)) (p.words ∙ sym q.words) ∙ word_at (cells_of w) _ k m))
        (λ m. p.zeros k m l ∙ sym (q.zeros k m l))

    ready-answer : r ≡ s
    ready-answer =
        p.answer
        ∙ ap (λ (R : List Head). Ok (record { words = length a.words; count = length a.program.words; main = (get_or R a.main no_head).word })) (p.heads-are ∙ sym q.heads-are)
        ∙ sym q.answer

    holding : (R : List Head) (x : List ℕ) → R ≡ heads_in a.words → Holds text R (offset_of text a.words) (cells_of (take store_bytes x)) a.program
        → Holds text (heads_in a.words) (offset_of text a.words) (cells_of (take store_bytes x)) a.program
    holding R x e h = subst (λ (y : List Head). Holds text y (offset_of text a.words) (cells_of (take store_bytes x)) a.program) e h

    ready-same : verdict text ≡ accepted a → Same text r s c d v w
    unfolding SameCode
    ready-same e = record {
      answer = ready-answer;
      values_same = λ bytes others. same_store store_words v w bytes others (p.values-long ∙ sym q.values-long) (omega (arith, p.values-long)) (cells bytes others) (p.values-past ∙ sym q.values-past);
      code-past = p.code-past ∙ sym q.code-past;
      code-long = p.code-long ∙ sym q.code-long;
      code_same = subst (λ (x : Checked). SameCode text x c d) (sym p.answer)
          (record { a = a; verdict-is = e; first = holding p.R c p.heads-are p.holds; second = holding q.R d q.heads-are q.holds });
    }

  -- a refusal is known by the number of its rule and its offset
  told-same : {f : paper.Refusal} (p : Refuses f r) (q : Refuses f s) → p.refusal ≡ q.refusal
  told-same p q = ap₂ (λ (a : Rule) (b : ℕ). record { rule = a; place = b }) (number-injective p.refusal.rule q.refusal.rule (p.number-is ∙ sym q.number-is)) (p.offset-is ∙ sym q.offset-is)

  -- a refusal settles all
  refused-same : (refusal other : Refusal) → r ≡ Err refusal → s ≡ Err other → refusal ≡ other → c ≡ d → v ≡ w → Same text r s c d v w
  unfolding SameCode
  refused-same refusal other p q same one both = record {
    answer = p ∙ ap Err same ∙ sym q;
    values_same = λ bytes others. both;
    code-past = ap (drop store_bytes) one;
    code-long = ap length one;
    code_same = subst (λ (x : Checked). SameCode text x c d) (sym p) one;
  }

  small_same : TooSmall code values r c v → TooSmall code values s d w → Same text r s c d v w
  small_same p q = refused-same _ _ p.answer q.answer refl (p.code_same ∙ sym q.code_same) (p.values_same ∙ sym q.values_same)

  judged-same : store_bytes ≤ length values → (x : Verdict) → verdict text ≡ x → Judges text code values x r c v → Judges text code values x s d w → Same text r s c d v w
  unfolding Judges
  judged-same room (refused_by f) e p q = refused-same p.answer.refusal q.answer.refusal p.answer.answer q.answer.answer (told-same p.answer q.answer) (p.code-empty ∙ sym q.code-empty) (p.values-empty ∙ sym q.values-empty)
  judged-same room (accepted a) e p q = ready-same room a p q e

  pub check-unique : Checks text code values r c v → Checks text code values s d w → Same text r s c d v w
  unfolding Checks
  check-unique p q =
      test (ltb (length code) store_bytes || ltb (length values) store_bytes) (λ t. small_same (rw (t, Checks) at p) (rw (t, Checks) at q))
      (λ t. judged-same (room t) (verdict text) refl (rw (t, Checks) at p) (rw (t, Checks) at q))
    where
      either : (a b : Bool) → (a || b) ≡ false → b ≡ false
      either true b e = false-true (sym e)
      either false b e = e

      room : (ltb (length code) store_bytes || ltb (length values) store_bytes) ≡ false → store_bytes ≤ length values
      room t = ltb-false (length values) store_bytes (either (ltb (length code) store_bytes) (ltb (length values) store_bytes) t)
