-- What the check of an expression says of the expression of a statement.
use mathlib.Core.Path.{◌≡◌, sym, subst}
use mathlib.Core.Bool.{false}
use mathlib.Core.List.{List, [], ◌++◌}
use Prim.Native.Nat.{ℕ, suc, ◌<◌, ◌≤◌}
use native.Mathlib.Omega.{arith}
use lib.ListN.{length}
use Rattle.store_cells.specs.Cells.{cells_of}
use Rattle.climb.proofs.Operands.{deeper}
use Rattle.paper.specs.Trees.{Expr}
use Rattle.paper.specs.Expressions.{nestings, level_of}
use Rattle.paper.specs.Names.{sort_in}
use Rattle.paper.specs.Types.{Fault, of_type, term_of}
use Rattle.grammar.specs.Form.{Parses, ExprAt}
use Rattle.check_expressions.specs.Judgements.{Judged}
use Rattle.std.specs.Prelude.{Ok, Err}
use Rattle.layout.specs.Broken.{as_fault}
use Rattle.layout.specs.declared.rules.Breach.{Breach}
use Rattle.check_expressions.specs.Known.{Loaded}
use Rattle.store_writing.specs.Promises.{Kept}
use Rattle.check_expressions.specs.Answers.{Sound, Judges, Stands, Typed}
use Rattle.check_expressions.proofs.Around.{says_typed, says-faulty}
use Rattle.faults.specs.First.{First, Inside}
use Rattle.faults.proofs.First.{◌and◌, widen}
use Rattle.faults.proofs.Expressions.{of-type-first}
use Rattle.check_links.specs.Raw.{RawTerm}
use Rattle.check_around.specs.declared.Setting.{Setting}
use Rattle.check_around.specs.Around.{Around, ground_of}
use Rattle.check_compounds.specs.Here.{Here}
use Rattle.code.specs.Steps.{a_target}
use Rattle.check_links.proofs.Ops.{low-still}
use Rattle.layout.specs.Types.{type_in}
use Rattle.paper.specs.Names.{DataType}
use Rattle.layout.specs.declared.types.ValueType.{ValueType}

-- the faults of two pieces, one after the other
pub inside_both : {a b c d : ℕ} {xs ys : List Fault} → Inside a b xs → Inside c d ys → a ≤ c → b ≤ d → Inside a d (xs ++ ys)
inside_both p q l h = widen p (omega arith) h and widen q l (omega arith)

module _ (text code values : List ℕ) (g : Around text values) (k : Setting) (used at to : ℕ) (h : Here g code k used at to) (e : Expr) (a z : ℕ)
    (is : ExprAt (sort_in g.known.W) (Parses (sort_in g.known.W)) e a z) (ends : level_of (sort_in g.known.W z) ≡ 0) (low : at ≤ a) (high : z ≤ to) where
  loaded : Loaded g.known.W code a z
  loaded = record {
    words = λ i l m. h.unread.loaded.words i (omega arith) (omega arith);
    last = omega (arith, h.unread.loaded.last);
    room = omega (arith, h.unread.loaded.room);
    whole = h.unread.loaded.whole;
  }

  pub expression-stands : Stands code values 5 a
  expression-stands = record {
    known = g.known;
    d = nestings;
    e = e;
    to = z;
    tops = omega arith;
    deep = omega arith;
    is = (deeper (sort_in g.known.W) (suc nestings) a (e, z) is).is;
    ends = λ f. absurd (omega (arith, ends, f));
    loaded = loaded;
  }

  module _ (after : List ℕ) (wants : ValueType) (t : DataType) (w : type_in wants ≡ t) (r : Judged) (c : Typed code values after false wants a r) where
    judges : Judges g.known.m g.known.n code after a z (record { type = t; faults = of_type g.known.W t g.known.S e; term = term_of g.known.W g.known.S e }) r
    unfolding expression-stands of_type term_of
    judges = c.is expression-stands t w

    -- what is found is the first fault
    pub judged-faulty : (broken : Breach) → r ≡ Err broken → First (as_fault broken) (of_type g.known.W t g.known.S e)
    judged-faulty broken q =
        let f = says-faulty _ _ _ _ _ _ r broken q judges.says in
        of-type-first g.known.W (suc nestings) a e z is (as_fault broken) f.others t g.known.S f.faults-are

    pub judged-long : length after ≡ length code
    judged-long = judges.kept.long

    module _ (bool : ValueType) (next : ℕ) (q : r ≡ Ok (bool, next)) where
      sound : Sound g.known.m g.known.n (cells_of after) a z (record { type = t; faults = of_type g.known.W t g.known.S e; term = term_of g.known.W g.known.S e }) bool next
      sound = says_typed _ _ _ _ _ _ r bool next q judges.says

      pub judged-none : of_type g.known.W t g.known.S e ≡ []
      judged-none = sound.none

      pub judged-next : next ≡ z
      judged-next = sound.next-is

      pub judged-term : RawTerm (ground_of g) g.known.n (cells_of after) g.known.S e a z
      unfolding ground_of
      judged-term = record {
        is = sound.stands;
        quiet = λ i l m. low-still _ (judges.low.stays i (subst (λ (x : ℕ). x < a_target) (sym (h.unread.loaded.words i (omega arith) (omega arith)).sort) (g.sorts i)));
      }

      pub judged-kept : Kept code after a z
      judged-kept = judges.kept
