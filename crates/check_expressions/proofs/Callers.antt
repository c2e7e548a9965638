-- What a caller of the walk has to show, and what it learns.
use mathlib.Core.Path.{◌≡◌, ap, subst, ◌∙◌}
use mathlib.Core.Bool.{Bool}
use mathlib.Core.List.{List}
use mathlib.Core.Option.{some}
use Prim.Native.Nat.{ℕ, suc, ◌-◌, ◌≤◌}
use native.Mathlib.Omega.{arith}
use Rattle.paper.specs.Trees.{Expr, first}
use Rattle.paper.specs.Expressions.{got, nestings, disjunctions, level_of, expr_in}
use Rattle.paper.specs.Names.{DataType, sort_in}
use Rattle.paper.specs.Types.{least, wanted, judge}
use Rattle.store_cells.specs.Cells.{cells_of}
use Rattle.layout.specs.Types.{type_in}
use Rattle.layout.specs.declared.types.ValueType.{ValueType}
use Rattle.climb.proofs.Operands.{deeper}
use Rattle.climb.proofs.Places.{stands}
use Rattle.check_expressions.specs.Judgements.{Judged}
use Rattle.std.specs.Prelude.{Ok, Err}
use Rattle.layout.specs.Broken.{as_fault}
use Rattle.layout.specs.declared.rules.Breach.{Breach}
use Rattle.check_expressions.specs.Known.{Loaded, Known}
use Rattle.check_expressions.specs.Answers.{Sound, Stands, Checked, of_type, Typed}
use Rattle.check_expressions.proofs.Order.{Rising, rising-least, rising-wanted, least-is}
use Rattle.check_expressions.proofs.Around.{says_typed, says-faulty}

-- A whole expression stands where the paper reads one that no operator follows.
pub expr-stands : (code values : List ℕ) (known : Known values) (d at to : ℕ) (e : Expr) → d ≤ suc nestings → expr_in (sort_in known.W) d at ≡ got (e, to) → level_of (sort_in known.W to) ≡ 0
    → Loaded known.W code at to → Stands code values disjunctions at
expr-stands code values known d at to e deep h none l = record {
  known = known;
  d = d - 1;
  e = e;
  to = to;
  tops = omega arith;
  deep = omega (arith, deep);
  is = (deeper (sort_in known.W) d at (e, to) h).is;
  ends = λ g. absurd (omega (arith, none, g));
  loaded = l;
}

module _ (code values after : List ℕ) (only : Bool) (at : ℕ) (r : Judged) where
  module _ (top : ℕ) (s : Stands code values top at) (c : Checked code values after only top at r) where
    pub checked-typed : (type : ValueType) (next : ℕ) → r ≡ Ok (type, next) → Sound s.known.m s.known.n (cells_of after) at s.to (judge s.known.W only s.known.S s.e) type next
    checked-typed type next e = says_typed _ _ _ _ _ _ r type next e (c.is s).says

    -- the fault that is answered is the least
    pub checked-faulty : (broken : Breach) → r ≡ Err broken → least (judge s.known.W only s.known.S s.e).faults ≡ some (as_fault broken)
    checked-faulty broken e =
        least-is s.known.W only s.known.S s.d top at s.to s.e broken s.is (says-faulty _ _ _ _ _ _ r broken e (c.is s).says)

  module _ (wants : ValueType) (t : DataType) (w : type_in wants ≡ t) (s : Stands code values disjunctions at) (c : Typed code values after only wants at r) where
    pub of-type-typed : (type : ValueType) (next : ℕ) → r ≡ Ok (type, next)
        → Sound s.known.m s.known.n (cells_of after) at s.to (of_type t (first s.e) (judge s.known.W only s.known.S s.e)) type next
    of-type-typed type next e = says_typed _ _ _ _ _ _ r type next e (c.is s t w).says

    pub of-type-faulty : (broken : Breach) → r ≡ Err broken
        → least (wanted t (first s.e) (judge s.known.W only s.known.S s.e)) ≡ some (as_fault broken)
    of-type-faulty broken e =
        let f = says-faulty _ _ _ _ _ _ r broken e (c.is s t w).says in
        let q = rising-wanted s.known.W only s.known.S t s.e at s.to (stands (sort_in s.known.W) s.d disjunctions at (s.e, s.to) s.is) in
        ap least f.faults-are ∙ rising-least at s.to (as_fault broken) f.others (subst (Rising at s.to) f.faults-are q)
