-- Ops, numbers and cells: from what the code tests and writes to what is said of it.
use mathlib.Core.Path.{◌≡◌, refl, sym, ap, subst, ◌∙◌}
use mathlib.Core.List.{List}
use Prim.Native.Nat.{ℕ, ◌+◌, ◌*◌, ◌<◌, ◌≤◌}
use native.Mathlib.Omega.{arith}
use lib.ListN.{length}
use lib.IntN.{ℤ}
use mir.Syntax.{w32}
use mir.Val.{SFits, to_z, of_z}
use mir.Facts.{to_z-of_z}
use borrow.Author.Tests.{ne_eqb}
use Rattle.laws.proofs.Tests.{by-same}
use Rattle.paper.specs.Sorts.{CONST}
use Rattle.paper.specs.Declarations.{module_word_limit}
use Rattle.code.specs.Cells.{first_window, op_in, value_in, place_in}
use Rattle.code.specs.Steps.{a_datum}
use Rattle.layout.specs.Parts.{value_part, link_part}
use Rattle.check_names.specs.Meanings.{a_variable, a_constant}
use Rattle.store_writing.specs.Promises.{Rewritten}
use Rattle.store_writing.proofs.Rewriting.{rewritten-head, rewritten-tail, rewritten-other}
use Rattle.store_numbers.proofs.Whole.{read}
use Rattle.check_constants.specs.Answers.{InNum}
use Rattle.check_constants.proofs.NumbersHeld.{in-num-32, in-num-64}
use Rattle.check_datum.specs.Parts.{scalar_kind, SetDatum, Starts}
use Rattle.check_sites.specs.Parts.{base_of, Fills}

pub kind-constant : (s : ℕ) → s ≡ CONST → a_constant ≡ scalar_kind s
unfolding scalar_kind
kind-constant s h = rw h refl

pub kind-variable : (s : ℕ) → (s ≡ CONST → ⊥) → a_variable ≡ scalar_kind s
unfolding scalar_kind
kind-variable s h = rw (ne_eqb s CONST h) refl

pub base-routine : (own : ℕ) → own ≡ 1 → first_window ≡ base_of own
unfolding base_of
base-routine own h = rw h refl

pub base-module : (own : ℕ) → (own ≡ 1 → ⊥) → 0 ≡ base_of own
unfolding base_of
base-module own h = rw (ne_eqb own 1 h) refl

pub base-small : (own r : ℕ) → r ≡ base_of own → r ≤ first_window
unfolding base_of
base-small own r h = by-same own 1 (λ e. omega (arith, h ∙ sym (base-routine own e))) (λ d. omega (arith, h ∙ sym (base-module own d)))

-- ---- numbers
pub word-cast : (z : ℤ) → InNum z → SFits w32 (read z)
word-cast z h = subst (SFits w32) (sym (to_z-of_z (in-num-64 z h))) (in-num-32 z h)

pub word-is : (z : ℤ) (r : ℕ) → InNum z → r ≡ of_z w32 (to_z w32 (of_z w32 (read z))) → r ≡ of_z w32 z
word-is z r h e = e ∙ ap (of_z w32) (to_z-of_z (word-cast z h)) ∙ ap (of_z w32) (to_z-of_z (in-num-64 z h))

datum-set : (before after : List ℕ) (i count held : ℕ) → i * 8 + 8 ≤ length before → count < link_part → Rewritten before after i (a_datum + value_part * held) (count + link_part * 0)
    → SetDatum before after i count held
datum-set before after i count held room few r = record {
  op-is = ap op_in (rewritten-head r room) ∙ omega arith;
  value-is = ap value_in (rewritten-head r room) ∙ omega arith;
  place_is = ap place_in (rewritten-tail r room) ∙ omega arith;
  others = rewritten-other r room;
}

-- ---- the words of a datum
module _ (code values values' : List ℕ) (own used count word held i base : ℕ) (b : base ≡ base_of own) (f : Fills values values' (base + used) count word) where
  here : Fills values values' (base_of own + used) count word
  here = subst (λ (k : ℕ). Fills values values' (k + used) count word) b f

  pub starts-routine : (code' : List ℕ) → own ≡ 1 → i * 8 + 8 ≤ length code → used + count ≤ module_word_limit → Rewritten code code' i (a_datum + value_part * held) (count + link_part * 0)
      → Starts code values code' values' own used count word held i
  starts-routine code' o room few r = record { fills = here; own-datum = λ e. datum-set code code' i count held room (omega arith) r; untouched = λ e. absurd (e o) }

  pub starts-module : (own ≡ 1 → ⊥) → Starts code values code values' own used count word held i
  starts-module o = record { fills = here; own-datum = λ e. absurd (o e); untouched = λ e. refl }
