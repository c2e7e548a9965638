-- Expressions have no steps among their words.
use mathlib.Core.Path.{sym, subst}
use mathlib.Core.List.{List}
use Prim.Native.Nat.{ℕ, ◌+◌, ◌<◌}
use Rattle.laws.proofs.Tests.{by-same}
use Rattle.store_cells.specs.Cells.{cells_of}
use Rattle.code.specs.Cells.{op_in, op_at}
use Rattle.store_writing.specs.Promises.{Kept}
use Rattle.store_writing.proofs.Keeping.{kept-rewritten}
use Rattle.check_expressions.specs.Answers.{Low}

pub low_same : (code : List ℕ) → Low code code
low_same code = record { stays = λ i h. h }

pub low-on : {x y z : List ℕ} → Low x y → Low y z → Low x z
low-on p q = record { stays = λ i h. q.stays i (p.stays i h) }

-- one word has a new op
pub low-written : (before after : List ℕ) (i : ℕ) → Kept before after i (i + 1) → op_at (cells_of after) i < 128 → Low before after
low-written before after i k h = record {
  stays = λ j l. by-same j i (λ e. subst (λ (x : ℕ). op_at (cells_of after) x < 128) (sym e) h)
      (λ d. subst (λ (w : ℕ). op_in w < 128) ((kept-rewritten before after i k).heads j d) l);
}
