-- Answers, and what they tell by their shape.
use mathlib.Core.Path.{◌≡◌, sym, subst}
use mathlib.Core.List.{List}
use Prim.Native.Nat.{ℕ}
use lib.ListN.{length}
use Rattle.paper.specs.Types.{Fault}
use Rattle.std.specs.Prelude.{Ok, Err}
use Rattle.layout.specs.Broken.{as_fault}
use Rattle.layout.specs.declared.rules.Breach.{Breach}
use Rattle.faults.specs.First.{First}
use Rattle.check_around.specs.Answers.{Stepped, Fine, Tell, Answer}

module _ {fs : List Fault} {before after : List ℕ} {at to : ℕ} {holds : Type 0} (j : Stepped) (x : Answer fs before after at to holds j) where
  pub typed-fine : (next : ℕ) → j ≡ Ok next → Fine fs before after at to next holds
  unfolding Tell
  typed-fine next e = subst (Tell fs before after at to holds) e x.tells

  pub faulty-found : (broken : Breach) → j ≡ Err broken → First (as_fault broken) fs
  unfolding Tell
  faulty-found broken e = subst (Tell fs before after at to holds) e x.tells

pub fine-answer : (fs : List Fault) (before after : List ℕ) (at to : ℕ) (holds : Type 0) (next : ℕ) → Fine fs before after at to next holds → Answer fs before after at to holds (Ok next)
unfolding Tell
fine-answer fs before after at to holds next f = record { tells = f; long = f.kept.long }

pub found-answer : (fs : List Fault) (before after : List ℕ) (at to : ℕ) (holds : Type 0) (broken : Breach) → First (as_fault broken) fs → length after ≡ length before
    → Answer fs before after at to holds (Err broken)
unfolding Tell
found-answer fs before after at to holds broken f long = record { tells = f; long = long }

pub found_as : (fs : List Fault) (before after : List ℕ) (at to : ℕ) (holds : Type 0) (j : Stepped) (broken : Breach) → j ≡ Err broken → First (as_fault broken) fs → length after ≡ length before
    → Answer fs before after at to holds j
found_as fs before after at to holds j broken e f long = subst (Answer fs before after at to holds) (sym e) (found-answer fs before after at to holds broken f long)
