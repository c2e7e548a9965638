-- As a run begins: of what its promise allows the state is one alone, and how many bytes are written.
use mathlib.Core.Path.{◌≡◌, sym, ◌∙◌}
use mathlib.Core.List.{List}
use Prim.Native.Nat.{ℕ}
use lib.ListN.{length}
use Rattle.store_cells.specs.Cells.{cells_of}
use Rattle.code.specs.Cells.{place_at}
use Rattle.code.specs.Windows.{written_in, state_in}
use Rattle.run_whole.specs.Runs.{MayBegin, Begun}

pub record OneBegun (code values a b : List ℕ) (h : ℕ) (m : MayBegin code values h) : Type 0 where
  pub long : length a ≡ length b
  pub written : written_in m.begins.P m.begins.R (cells_of a) ≡ written_in m.begins.P m.begins.R (cells_of b)
  pub state : (out : List ℕ) → state_in m.begins.P m.begins.R (cells_of a) 0 (place_at (cells_of code) h) 0 out ≡ state_in m.begins.P m.begins.R (cells_of b) 0 (place_at (cells_of code) h) 0 out

pub begin-unique : {code values a b : List ℕ} {h : ℕ} (m : MayBegin code values h) → Begun code values a h → Begun code values b h → OneBegun code values a b h m
begin-unique m x y = record {
  long = x.long ∙ sym y.long;
  written = x.written m.begins.P m.begins.R m.text m.depth m.begins ∙ sym (y.written m.begins.P m.begins.R m.text m.depth m.begins);
  state = λ out. x.state m.text m.depth m.begins out ∙ sym (y.state m.text m.depth m.begins out);
}
