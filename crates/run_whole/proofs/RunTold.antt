-- What is told of a run that has ended, and what of the lent words the call keeps: it follows from the state that they hold.
use mathlib.Core.Path.{◌≡◌, sym, ap, ◌∙◌}
use mathlib.Core.List.{List, map}
use Prim.Native.Nat.{ℕ}
use lib.ListN.{length, get_or, take, drop}
use lib.Seq.{length-take-le}
use mir.Syntax.{w32}
use mir.Val.{to_z}
use Rattle.paper.specs.Steps.{Program}
use Rattle.paper.specs.States.{State}
use Rattle.paper.specs.Running as running
use Rattle.store_cells.specs.Cells.{cells_of}
use Rattle.code.specs.Cells.{errno_cell}
use Rattle.code.specs.Steps.{Head}
use Rattle.code.specs.Windows.{used_cell, count_at, written_in, state_in}
use Rattle.layout.specs.Endings.{ending_number}
use Rattle.run_advancing.specs.Turns.{told, written, Leaves}
use Rattle.run_whole.specs.declared.Ended.{Ended}
use Rattle.run_whole.specs.Runs.{EndsIn, standing, callless, Comes}

pub record Told (P : Program) (offset : ℕ → ℕ) (after out out' : List ℕ) (e : running.Ended) (r : Ended) : Type 0 where
  pub ending : ending_number r.ending ≡ e.ending
  pub place : r.place ≡ told offset e.ending e.place
  pub made : r.made ≡ e.state.steps
  pub errno : get_or (cells_of after) errno_cell 0 ≡ e.state.errno
  pub used : count_at (cells_of after) used_cell ≡ e.state.used
  pub words : map (to_z w32) (take (length P.words) (cells_of after)) ≡ e.state.words
  pub written : (R : List Head) → written_in P R (cells_of after) ≡ length e.state.output
  pub output : take (length e.state.output) out' ≡ e.state.output
  pub past : drop (length e.state.output) out' ≡ drop (length e.state.output) out

module _ (P : Program) (R : List Head) (X out : List ℕ) where
  -- what a state shows of the value store, whatever its calls
  record Shows (S : State) : Type 0 where
    words : map (to_z w32) (take (length P.words) X) ≡ S.words
    errno : get_or X errno_cell 0 ≡ S.errno
    used : count_at X used_cell ≡ S.used
    output : take (written_in P R X) out ≡ S.output

  shows : (d i k : ℕ) (S : State) → S ≡ state_in P R X d i k out → Shows S
  unfolding state_in
  shows d i k S e = record {
    words = sym (ap (λ (x : State). x.words) e);
    errno = sym (ap (λ (x : State). x.errno) e);
    used = sym (ap (λ (x : State). x.used) e);
    output = sym (ap (λ (x : State). x.output) e);
  }

  shows-end : (n : ℕ) (S : State) → EndsIn P R X out n S → Shows S
  unfolding state_in
  shows-end n S (standing d i de lv e) = shows d i S.steps S e
  shows-end n S (callless g e) = record {
    words = sym (ap (λ (x : State). x.words) e);
    errno = sym (ap (λ (x : State). x.errno) e);
    used = sym (ap (λ (x : State). x.used) e);
    output = sym (ap (λ (x : State). x.output) e);
  }

pub run-told : (P : Program) (R : List Head) (offset : ℕ → ℕ) (values after out out' : List ℕ) (e : running.Ended) (r : Ended) → Leaves values after out out' → Comes P R offset after out' e r
    → Told P offset after out out' e r
unfolding written_in
run-told P R offset values after out out' e r l c =
    let sh = shows-end P R (cells_of after) out' e.ending e.state c.state in
    let w = written after in
    let len : length e.state.output ≡ w = sym (ap length sh.output) ∙ length-take-le w out' l.fits in
    record {
      ending = c.ending;
      place = c.place;
      made = c.made;
      errno = sh.errno;
      used = sh.used;
      words = sh.words;
      written = λ Q. sym len;
      output = ap (λ (j : ℕ). take j out') len ∙ sh.output;
      past = ap (λ (j : ℕ). drop j out') len ∙ l.past ∙ sym (ap (λ (j : ℕ). drop j out) len);
    }
