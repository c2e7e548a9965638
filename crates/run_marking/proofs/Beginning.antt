-- From main's first step on: what is promised of the run, and of the listing beside it.
use mathlib.Core.Path.{◌≡◌, refl, subst}
use mathlib.Core.List.{List, map}
use Prim.Native.Nat.{ℕ, ◌-◌}
use Rattle.paper.specs.States.{State}
use Rattle.paper.specs.Running.{run}
use Rattle.paper.specs.Undoing.{run_abort}
use Rattle.store_cells.specs.Cells.{cells_of}
use Rattle.code.specs.Cells.{place_at, window_of, first_window}
use Rattle.run_whole.specs.Runs.{abort_of, Begins, Begun, Comes}
use Rattle.run_whole.proofs.RunEnds.{first-here, last_of, first-state, out-leaves}
use Rattle.marks.specs.Marks.{listed, marking}
use Rattle.run_marking.specs.declared.Marked.{Marked}
use Rattle.run_marking.specs.Beside.{ended_of, marking_of, Follows, RanBeside}

module _ (text code values : List ℕ) (h depth : ℕ) (values₀ : List ℕ) (bg : Begun code values values₀ h) (i₀ : ℕ) (ei : i₀ ≡ place_at (cells_of code) h) (last : ℕ) (el : last ≡ window_of (depth - 1)) where
  pub ran-beside : (inputs out after out' listing : List ℕ) (steps : ℕ) (r : Marked) → Begins text code values h depth
      → Follows text code values₀ after inputs out out' listing last (record { next = i₀; base = first_window }) steps r → RanBeside text code values after inputs out out' listing h steps depth r
  unfolding abort_of run_abort
  ran-beside inputs out after out' listing steps r b₀ k = record {
    ran = record {
      leaves = out-leaves text code values h depth values₀ bg i₀ ei last el b₀ k.leaves;
      is = λ b rooms e l.
          subst (λ (s : State). Comes b.P b.R b.offset after out' (run b.P rooms steps s) (ended_of r)) (first-state text code values h depth values₀ bg i₀ ei last el b out)
          (k.is (first-here text code values h depth values₀ bg i₀ ei last el b) refl rooms (last_of text code values h depth values₀ bg i₀ ei last el b rooms e) l).comes;
    };
    told = λ b rooms e l.
        subst (λ (s : State). marking (map b.offset (listed b.P rooms steps s)) (cells_of listing) ≡ marking_of r) (first-state text code values h depth values₀ bg i₀ ei last el b out)
        (k.is (first-here text code values h depth values₀ bg i₀ ei last el b) refl rooms (last_of text code values h depth values₀ bg i₀ ei last el b rooms e) l).told;
  }
