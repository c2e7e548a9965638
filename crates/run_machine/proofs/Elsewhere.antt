-- What stands at a step stands at another: of the same call or of another live one, with the value store as it was or as a step has left it.
use mathlib.Core.Path.{◌≡◌, refl}
use mathlib.Core.List.{List}
use Prim.Native.Nat.{ℕ, suc, ◌+◌, ◌<◌}
use native.Mathlib.Omega.{arith}
use mathlib.Core.Path.{◌∙◌}
use lib.ListN.{length, get_or}
use Rattle.store_cells.specs.Cells.{cells_of}
use Rattle.code.specs.Cells.{window_of}
use Rattle.code.specs.Windows.{waits_cell}
use Rattle.run_machine.specs.Live.{Live}
use Rattle.run_machine.specs.Machine.{depth_limit, Here}
use Rattle.run_machine.proofs.Living.{live-caller}

module _ {code values : List ℕ} {base i : ℕ} (h : Here code values base i) where
  -- step n of the call with e callers, its window at b
  abbrev pub elsewhere : (after : List ℕ) (e b n : ℕ) → length after ≡ length values → e < depth_limit → b ≡ window_of e → Live h.P h.R (cells_of after) e n → Here code after b n
  elsewhere after e b n long deep is live = record {
    text = h.text;
    P = h.P;
    R = h.R;
    offset = h.offset;
    holds = h.holds;
    code-size = h.code-size;
    values-size = long ∙ h.values-size;
    d = e;
    deep = deep;
    base-is = is;
    live = live;
  }

  -- the step that its caller waits at
  abbrev pub caller : (e : ℕ) → h.d ≡ suc e → (b w : ℕ) → b ≡ window_of e → w ≡ get_or (cells_of values) (b + waits_cell) 0 → Here code values b w
  caller e z b w is waits = elsewhere values e b w refl (omega (arith, h.deep)) is (live-caller h.P h.R (cells_of values) h.d e i z h.live b w is waits)
