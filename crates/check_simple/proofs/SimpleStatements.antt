-- A simple statement by what it is.
use mathlib.Core.Path.{◌≡◌, refl, sym, ap, subst, ◌∙◌}
use mathlib.Core.List.{List, []}
use Prim.Native.Nat.{ℕ, ◌+◌, ◌*◌, ◌<◌, ◌≤◌}
use native.Mathlib.Omega.{arith}
use lib.ListN.{length}
use Rattle.paper.specs.Trees.{Simple, first_simple}
use Rattle.paper.specs.Names.{sort_in}
use Rattle.paper.specs.Types.{Fault}
use Rattle.paper.specs.Checks.{simple_faults}
use Rattle.store_cells.specs.Cells.{cells_of}
use Rattle.code.specs.Cells.{op_at, place_at}
use Rattle.grammar.specs.Form.{Parses}
use Rattle.grammar.proofs.Places.{simple-first, simple-grows}
use Rattle.std.specs.Prelude.{Ok, Err}
use Rattle.layout.specs.Broken.{as_fault}
use Rattle.layout.specs.declared.rules.Breach.{Breach}
use Rattle.store_writing.specs.Promises.{Kept}
use Rattle.faults.specs.First.{First}
use Rattle.faults.proofs.Expressions.{grows}
use Rattle.check_links.specs.Raw.{RawDoes, RawSimple}
use Rattle.check_around.specs.Around.{offset_in, ground_of}
use Rattle.check_around.specs.Answers.{Fine, Stepped, Answer}
use Rattle.check_simple.specs.Answers.{Stands, Answers}
use Rattle.check_simple.proofs.Expressions.{answer-first, answer-fine, answered-fine, answered-first}
use Rattle.paper.specs.Words.{word_limit}

module _ (code values : List ℕ) (at : ℕ) (g : Stands code values at) where
  pub stands_on : at < g.to
  stands_on = simple-grows (sort_in g.around.known.W) (Parses (sort_in g.around.known.W)) (grows g.around.known.W) g.is

  -- its first word and the next lie in the code
  pub stands_here : at * 8 + 8 ≤ length code
  stands_here = omega (arith, stands_on, g.unread.loaded.room)

  pub stands-next : (at + 1) * 8 + 8 ≤ length code
  stands-next = omega (arith, stands_on, g.unread.loaded.room)

  pub stands-small : at + 1 < word_limit
  stands-small = omega (arith, stands_on, g.unread.loaded.last)

  pub stands-sort : (i : ℕ) → at ≤ i → i ≤ g.to → op_at (cells_of code) i ≡ sort_in g.around.known.W i
  stands-sort i a b = (g.unread.loaded.words i a b).sort

  -- what is answered of the statement that it is
  module _ (s : Simple) (is : g.s ≡ s) (after : List ℕ) where
    holds : Type 0
    holds = RawSimple (ground_of g.around) g.around.known.n (cells_of after) g.around.known.S s at (g.to + 1)

    stated : (r : Stepped) → Answer (simple_faults g.around.known.W g.around.K g.around.known.S s) code after at (g.to + 1) holds r → Answers g after r
    unfolding holds
    stated r a =
        subst (λ (x : Simple). Answer (simple_faults g.around.known.W g.around.K g.around.known.S x) code after at (g.to + 1)
        (RawSimple (ground_of g.around) g.around.known.n (cells_of after) g.around.known.S x at (g.to + 1)) r) (sym is) a

    pub stated-first : (r : Stepped) (broken : Breach) → r ≡ Err broken → length after ≡ length code
        → First (as_fault broken) (simple_faults g.around.known.W g.around.K g.around.known.S s) → Answers g after r
    stated-first r broken e long f = stated r (answer-first _ code after at (g.to + 1) _ r broken e long f)

    pub stated-fine : (next : ℕ) → simple_faults g.around.known.W g.around.K g.around.known.S s ≡ [] → next ≡ g.to + 1 → Kept code after at (g.to + 1) → place_at (cells_of after) at ≡ place_at (cells_of code) at
        → RawDoes (ground_of g.around) g.around.known.n (cells_of after) g.around.known.S s at (g.to + 1) (g.to + 1) → Answers g after (Ok next)
    unfolding holds ground_of offset_in
    stated-fine next n e k p d =
        stated (Ok next) (answer-fine _ code after at (g.to + 1) _ next (record {
          none = n;
          next-is = e;
          written = record {
            first = ap first_simple (sym is) ∙ simple-first (sort_in g.around.known.W) (Parses (sort_in g.around.known.W)) g.is;
            place = p ∙ g.unread.places at (omega arith) (omega (arith, stands_on));
            forward = omega (arith, stands_on);
            does = d;
          };
          kept = k;
        }))

    -- the same, from what is answered of a part of it
    pub stated-on : (fs : List Fault) (mid : List ℕ) (x y : ℕ) (P : Type 0) (r : Stepped) → Answer fs mid after x y P r → length mid ≡ length code
        → ((f : Fault) → First f fs → First f (simple_faults g.around.known.W g.around.K g.around.known.S s))
        → ((next : ℕ) → Fine fs mid after x y next P → Answers g after (Ok next)) → Answers g after r
    stated-on fs mid x y P (Ok next) a l f n = n next (answered-fine fs mid after x y P (Ok next) a next refl)
    stated-on fs mid x y P (Err broken) a l f n =
        stated-first (Err broken) broken refl (a.long ∙ l) (f (as_fault broken) (answered-first fs mid after x y P (Err broken) a broken refl))
