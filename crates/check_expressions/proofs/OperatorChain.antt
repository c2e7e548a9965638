-- The operators of an expression, one after the other: what has been read so far, and what is left of it.
use mathlib.Core.Path.{◌≡◌, refl, sym, ap, subst, ◌∙◌}
use mathlib.Core.Bool.{Bool}
use mathlib.Core.List.{List, [], ◌∷◌, ◌++◌}
use mathlib.Core.Option.{some}
use mathlib.Core.Logic.{◌⊎◌, inl, inr}
use Prim.Native.Nat.{ℕ, suc, ◌+◌, ◌-◌, ◌*◌, ◌<◌, ◌≤◌}
use native.Mathlib.Omega.{arith}
use lib.Dec.{eqb}
use lib.ListN.{length}
use borrow.Author.Tests.{eqb-true}
use mir.Syntax.{w64}
use mir.Val.{Fits}
use Rattle.laws.proofs.Tests.{test, by_most}
use Rattle.paper.specs.Sorts.{NOT, plus, minus_sign}
use Rattle.paper.specs.Words.{Word, word_limit}
use Rattle.paper.specs.Terms.{binary}
use Rattle.paper.specs.Trees.{Expr, joined, first}
use Rattle.paper.specs.Expressions.{got, relations, disjunctions, level_of, level, expr_in}
use Rattle.paper.specs.Names.{Scopes, sort_in}
use Rattle.paper.specs.Types.{Fault, fault, fault_if, differs, wanted, judge_joined, judge}
use Rattle.store_cells.specs.Cells.{cells_of}
use Rattle.code.specs.Cells.{op_at}
use Rattle.code.specs.Spans.{term_within}
use Rattle.layout.specs.Rules.{wrong_type}
use Rattle.layout.specs.Types.{type_in, type_number, type_said}
use Rattle.layout.proofs.Typing.{said, said_as, number-says}
use Rattle.layout.specs.declared.types.ValueType.{ValueType}
use Rattle.climb.specs.Rise.{rise, next, lowest}
use Rattle.climb.specs.Places.{Spans}
use Rattle.climb.proofs.Climb.{rise-stop, Joins, rise-join, Begun, begun}
use Rattle.climb.proofs.Operands.{got_same}
use Rattle.climb.proofs.Places.{spans-grow, spans-first, stands, begins, rises, rise-keeps}
use Rattle.check_expressions.specs.Judgements.{Judged}
use Rattle.std.specs.Prelude.{Ok, Err}
use Rattle.layout.specs.Broken.{as_fault}
use Rattle.layout.specs.declared.rules.Breach.{Breach}
use Rattle.layout.specs.declared.rules.Rule.TheVariants.{WrongType}
use Rattle.check_expressions.specs.Answers.{SoundUnder, Refused, SaysUnder, JudgesUnder, StandsUnder, Checked, CheckedUnder, OfType, Typed}
use Rattle.check_expressions.specs.Parts.{asked_of, result_of, Asks, Right, Joined, Begins, Began}
use Rattle.store_writing.proofs.Keeping.{within-below, kept-wider, kept_on}
use Rattle.check_expressions.proofs.NoSteps.{low-on}
use Rattle.check_expressions.proofs.FaultsOfParts.{wanted-first, wanted-wrong, wanted-none, joined_is}
use Rattle.check_expressions.proofs.Around.{under-faulty, under-typed, says-faulty, says_typed, refused_as}
use Rattle.check_expressions.proofs.Starts.{loaded-part, loaded-after, judges-on}

-- ---- faults of what is joined
module _ (W : List Word) (only : Bool) (S : Scopes) (i : ℕ) (a b : Expr) where
  -- the fault of the left side is the first
  left-refused : (broken : Breach) (others : List Fault) → wanted (asked_of (sort_in W i) (judge W only S a).type) (first a) (judge W only S a) ≡ as_fault broken ∷ others
      → Refused (judge W only S (joined i a b)) broken
  unfolding judge
  left-refused broken others e =
      let s = sort_in W i in
      let ja = judge W only S a in
      let jb = judge W only S b in
      let t = asked_of s ja.type in
      refused_as (judge_joined s a b ja jb) (result_of s) (wanted t (first a) ja ++ wanted t (first b) jb) (binary s ja.term jb.term) (joined_is s a b ja jb) broken (others ++ wanted t (first b) jb)
      (ap (λ (l : List Fault). l ++ wanted t (first b) jb) e)

  pub refused-joined : (broken : Breach) → Refused (judge W only S a) broken → Refused (judge W only S (joined i a b)) broken
  refused-joined broken r =
      let t = asked_of (sort_in W i) (judge W only S a).type in
      left-refused broken (r.others ++ fault_if (differs t (judge W only S a).type) wrong_type (first a))
      (wanted-first t (first a) (judge W only S a) (as_fault broken) r.others r.faults-are)

  -- the left side is of a wrong type
  pub wrong-joined : (type wants : ValueType) → (judge W only S a).faults ≡ [] → type_in type ≡ (judge W only S a).type → type_in wants ≡ asked_of (sort_in W i) (judge W only S a).type → (type ≡ wants → ⊥)
      → Refused (judge W only S (joined i a b)) (record { rule = WrongType; word = first a })
  unfolding fault
  wrong-joined type wants none is asks d =
      left-refused (record { rule = WrongType; word = first a }) []
      (wanted-wrong (asked_of (sort_in W i) (judge W only S a).type) (first a) (judge W only S a) type wants asks is d none)

-- ---- what follows
lowest-some : (s : ℕ) → 0 < lowest s
unfolding lowest
lowest-some s =
    test (eqb s NOT) (λ t. rw (t, lowest) (omega arith))
    (λ t. test (eqb s plus) (λ u. rw (t, lowest) (rw u (omega arith)))
    (λ u. test (eqb s minus_sign) (λ v. rw (t, lowest) (rw u (rw v (omega arith)))) (λ v. rw (t, lowest) (rw u (rw v (omega arith))))))

next-most : (k : ℕ) → k ≤ next k
unfolding next
next-most k = test (eqb k relations) (λ t. rw (t, next) (omega (arith, eqb-true k relations t))) (λ t. rw (t, next) (omega arith))

module _ (nest : ℕ) (code values : List ℕ) (top at : ℕ) (s : StandsUnder nest code values top at) where
  -- an operator that follows goes on, since the expression ends before those that do not
  ahead : (f low : ℕ) (e : Expr) (n : ℕ) → low + f ≡ suc top → rise (sort_in s.known.W) (expr_in (sort_in s.known.W) s.d) f low (got (e, n)) ≡ got (s.e, s.to)
      → 0 < level_of (sort_in s.known.W n) → low ≤ level_of (sort_in s.known.W n)
  ahead f low e n w r h =
      by_most low (level_of (sort_in s.known.W n)) (λ g. g)
      (λ g.
      let q = got_same (e, n) (s.e, s.to) (sym (rise-stop (sort_in s.known.W) (expr_in (sort_in s.known.W) s.d) f low e n (λ a b. omega arith)) ∙ r) in
      let t : n ≡ s.to = ap (λ (y : Expr × ℕ). y.1) q in
      let u = s.ends (subst (λ (k : ℕ). 0 < level_of (sort_in s.known.W k)) t h) in
      absurd (omega (arith, ap (λ (k : ℕ). level_of (sort_in s.known.W k)) t, u)))

  -- ---- the first part
  first_part : Begun (sort_in s.known.W) (expr_in (sort_in s.known.W) s.d) top at (s.e, s.to)
  first_part = begun (sort_in s.known.W) (expr_in (sort_in s.known.W) s.d) top at (s.e, s.to) s.tops s.is

  first-spans : Spans first_part.e at first_part.n
  first-spans = begins (sort_in s.known.W) s.d at (first_part.e, first_part.n) first_part.first

  pub stands-begins : Begins nest code values at
  stands-begins = record {
    known = s.known;
    d = s.d;
    e = first_part.e;
    to = first_part.n;
    deep = s.deep;
    is = first_part.first;
    ends = ahead first_part.f (lowest (sort_in s.known.W at)) first_part.e first_part.n first_part.width first_part.rest;
    loaded = loaded-part s.known.W code at s.to at first_part.n s.loaded (omega arith)
        (rises (sort_in s.known.W) s.d first_part.f (lowest (sort_in s.known.W at)) first_part.e at first_part.n (s.e, s.to) first-spans first_part.rest).on;
  }

  -- ---- what has been read up to word i, and answered so
  pub record Going (now : List ℕ) (only : Bool) (left : Judged) : Type 0 where
    pub e : Expr
    pub i : ℕ
    pub f : ℕ
    pub low : ℕ
    pub some : 0 < low
    pub width : low + f ≡ suc top
    pub rest : rise (sort_in s.known.W) (expr_in (sort_in s.known.W) s.d) f low (got (e, i)) ≡ got (s.e, s.to)
    pub spans : Spans e at i
    pub judges : JudgesUnder nest s.known.m s.known.n code now at i (judge s.known.W only s.known.S e) left

  first-going : (now : List ℕ) (only : Bool) (left : Judged) → Began nest code values now only at left → Going now only left
  unfolding stands-begins
  first-going now only left b = record {
    e = first_part.e;
    i = first_part.n;
    f = first_part.f;
    low = lowest (sort_in s.known.W at);
    some = lowest-some (sort_in s.known.W at);
    width = first_part.width;
    rest = first_part.rest;
    spans = first-spans;
    judges = b.is stands-begins;
  }

  module _ (now : List ℕ) (only : Bool) (left : Judged) (g : Going now only left) where
    going-within : g.i ≤ s.to
    going-within = (rises (sort_in s.known.W) s.d g.f g.low g.e at g.i (s.e, s.to) g.spans g.rest).on

    -- a fault of what has been read is one of the whole
    going-refused : (e : Expr) (n f low : ℕ) (broken : Breach) → rise (sort_in s.known.W) (expr_in (sort_in s.known.W) s.d) f low (got (e, n)) ≡ got (s.e, s.to)
        → Refused (judge s.known.W only s.known.S e) broken → Refused (judge s.known.W only s.known.S s.e) broken
    going-refused e n f low broken r q =
        rise-keeps (sort_in s.known.W) (λ (x : Expr). Refused (judge s.known.W only s.known.S x) broken)
        (λ i a b p. refused-joined s.known.W only s.known.S i a b broken p)
        (expr_in (sort_in s.known.W) s.d) f low e n (s.e, s.to) q r

    going-faulty : (broken : Breach) → Refused (judge s.known.W only s.known.S s.e) broken → JudgesUnder nest s.known.m s.known.n code now at s.to (judge s.known.W only s.known.S s.e) (Err broken)
    unfolding SaysUnder
    going-faulty broken r = record { says = r; kept = kept-wider g.judges.kept at s.to (omega arith) going-within; low = g.judges.low }

    faulty-is : (broken : Breach) → left ≡ Err broken → JudgesUnder nest s.known.m s.known.n code now at s.to (judge s.known.W only s.known.S s.e) (Err broken)
    faulty-is broken e =
        (going-faulty broken (going-refused g.e g.i g.f g.low broken g.rest (under-faulty _ _ _ _ _ _ _ left broken e g.judges.says)))

    module _ (type : ValueType) (i : ℕ) (e : left ≡ Ok (type, i)) where
      left-sound : SoundUnder nest s.known.m s.known.n (cells_of now) at g.i (judge s.known.W only s.known.S g.e) type i
      left-sound = under-typed _ _ _ _ _ _ _ left type i e g.judges.says

      end_is : g.i ≡ i
      end_is = sym left-sound.next-is

      -- where word i is
      going-in : (at < i) × (i ≤ s.to) × (i < word_limit) × (i * 8 + 8 ≤ length now)
      going-in =
          let a = spans-grow g.e at g.i g.spans in
          (omega (arith, a, end_is), omega (arith, going-within, end_is), omega (arith, going-within, end_is, s.loaded.last), omega (arith, going-within, end_is, s.loaded.room, g.judges.kept.long))

      module _ (w l : ℕ) (ew : w ≡ op_at (cells_of now) i) (el : l ≡ level_of w) where
        operator-is : w ≡ sort_in s.known.W g.i
        operator-is =
            let z = going-in in
            let k = loaded-after s.known.W code now at g.i i s.to (loaded-part s.known.W code at s.to i s.to s.loaded (omega (arith, z.0)) (omega arith)) g.judges.kept (omega (arith, end_is)) in
            ew ∙ (k.words i (omega arith) z.1).sort ∙ ap (sort_in s.known.W) (sym end_is)

        level-is : l ≡ level_of (sort_in s.known.W g.i)
        level-is = el ∙ ap level_of operator-is

        -- no operator follows that goes on
        stop_is : (0 < l → l ≤ top → ⊥) → JudgesUnder nest s.known.m s.known.n code now at s.to (judge s.known.W only s.known.S s.e) (Ok (type, i))
        stop_is h =
            subst (λ (y : Expr × ℕ). JudgesUnder nest s.known.m s.known.n code now at y.1 (judge s.known.W only s.known.S y.0) (Ok (type, i)))
            (got_same (g.e, g.i) (s.e, s.to)
            (sym (rise-stop (sort_in s.known.W) (expr_in (sort_in s.known.W) s.d) g.f g.low g.e g.i (λ a b. h (omega (arith, level-is, g.some)) (omega (arith, level-is, g.width)))) ∙ g.rest))
            (subst (λ (r : Judged). JudgesUnder nest s.known.m s.known.n code now at g.i (judge s.known.W only s.known.S g.e) r) e g.judges)

        -- one follows
        module _ (ne : l ≡ 0 → ⊥) (le : l ≤ top) where
          joins : Joins (sort_in s.known.W) (expr_in (sort_in s.known.W) s.d) (g.low + g.f) g.e g.i (s.e, s.to)
          joins =
              rise-join (sort_in s.known.W) (expr_in (sort_in s.known.W) s.d) g.f g.low g.e g.i (s.e, s.to)
              (ahead g.f g.low g.e g.i g.width g.rest (omega (arith, level-is, ne))) (omega (arith, level-is, g.width)) g.rest

          joins-width : next (level_of (sort_in s.known.W g.i)) + joins.f ≡ suc top
          joins-width = joins.width ∙ g.width

          right-spans : Spans joins.u (g.i + 1) joins.m
          right-spans = stands (sort_in s.known.W) s.d (level_of (sort_in s.known.W g.i) - 1) (g.i + 1) (joins.u, joins.m) joins.right

          joined-spans : Spans (joined g.i g.e joins.u) at joins.m
          unfolding Spans
          joined-spans = (g.spans, right-spans)

          right-within : joins.m ≤ s.to
          right-within = (rises (sort_in s.known.W) s.d joins.f (next (level_of (sort_in s.known.W g.i))) (joined g.i g.e joins.u) at joins.m (s.e, s.to) joined-spans joins.rest).on

          right-stands : StandsUnder nest now values (l - 1) (i + 1)
          right-stands =
              let z = going-in in
              let q : level (sort_in s.known.W) (expr_in (sort_in s.known.W) s.d) (l - 1) (i + 1) ≡ got (joins.u, joins.m) =
              subst (λ (k : ℕ). level (sort_in s.known.W) (expr_in (sort_in s.known.W) s.d) k (i + 1) ≡ got (joins.u, joins.m)) (sym (ap (λ (k : ℕ). k - 1) level-is))
              (subst (λ (k : ℕ). level (sort_in s.known.W) (expr_in (sort_in s.known.W) s.d) (level_of (sort_in s.known.W g.i) - 1) (k + 1) ≡ got (joins.u, joins.m)) end_is joins.right) in
              record {
                known = s.known;
                d = s.d;
                e = joins.u;
                to = joins.m;
                tops = omega (arith, s.tops);
                deep = s.deep;
                is = q;
                ends = λ h.
                    omega (
                      arith,
                      ne,
                      level-is,
                      next-most (level_of (sort_in s.known.W g.i)),
                      ahead joins.f (next (level_of (sort_in s.known.W g.i))) (joined g.i g.e joins.u) joins.m joins-width joins.rest h,
                    );
                loaded = loaded-after s.known.W code now at g.i (i + 1) joins.m
                    (loaded-part s.known.W code at s.to (i + 1) joins.m s.loaded (omega (arith, z.0)) right-within) g.judges.kept (omega (arith, end_is));
              }

          module _ (wants : ValueType) (asks : Asks w type wants) where
            asks-here : type_in wants ≡ asked_of w (judge s.known.W only s.known.S g.e).type
            asks-here = asks.is (judge s.known.W only s.known.S g.e).type left-sound.type-is

            -- the left side is of a wrong type
            wrong-is : (type ≡ wants → ⊥) → JudgesUnder nest s.known.m s.known.n code now at s.to (judge s.known.W only s.known.S s.e) (Err (record { rule = WrongType; word = at }))
            wrong-is d =
                going-faulty (record { rule = WrongType; word = at })
                (going-refused (joined g.i g.e joins.u) joins.m joins.f (next (level_of (sort_in s.known.W g.i))) (record { rule = WrongType; word = at }) joins.rest
                (subst (λ (k : ℕ). Refused (judge s.known.W only s.known.S (joined g.i g.e joins.u)) (record { rule = WrongType; word = k })) (spans-first g.e at g.i g.spans)
                (wrong-joined s.known.W only s.known.S g.i g.e joins.u type wants left-sound.none left-sound.type-is
                (asks-here ∙ ap (λ (o : ℕ). asked_of o (judge s.known.W only s.known.S g.e).type) operator-is) d)))

            module _ (same : type ≡ wants) (mid : List ℕ) (right : Judged) (c : CheckedUnder nest now values mid only (l - 1) (i + 1) right) where
              right-judges : JudgesUnder nest s.known.m s.known.n now mid (i + 1) joins.m (judge s.known.W only s.known.S joins.u) right
              unfolding right-stands
              right-judges = c.is right-stands

              right_is : Right mid w l i right
              right_is = record {
                level-is = el;
                some = omega (arith, ne);
                d = nest;
                m = s.known.m;
                n = s.known.n;
                to = joins.m;
                j = judge s.known.W only s.known.S joins.u;
                says = right-judges.says;
                last = omega (arith, right-within, s.loaded.last);
                room = omega (arith, right-within, s.loaded.room, g.judges.kept.long, right-judges.kept.long);
              }

              left-still : SoundUnder nest s.known.m s.known.n (cells_of mid) at i (judge s.known.W only s.known.S g.e) wants i
              left-still = record {
                none = left-sound.none;
                type-is = ap type_in (sym same) ∙ left-sound.type-is;
                next-is = refl;
                stands = within-below right-judges.kept nest s.known.m s.known.n at i (judge s.known.W only s.known.S g.e).term (omega arith)
                    (subst (λ (k : ℕ). term_within s.known.m s.known.n (cells_of now) nest at k ≡ some (judge s.known.W only s.known.S g.e).term) end_is left-sound.stands);
              }

              module _ (after : List ℕ) (left' : Judged) (x : Joined mid after w wants i right left') where
                joined-judges : JudgesUnder nest s.known.m s.known.n code after at joins.m (judge s.known.W only s.known.S (joined g.i g.e joins.u)) left'
                unfolding judge
                joined-judges =
                    let z = going-in in
                    let r = spans-grow joins.u (g.i + 1) joins.m right-spans in
                    let start : first joins.u ≡ i + 1 = spans-first joins.u (g.i + 1) joins.m right-spans ∙ ap (λ (k : ℕ). k + 1) end_is in
                    let ja = judge s.known.W only s.known.S g.e in
                    let asks-same : asked_of w ja.type ≡ ja.type = sym asks-here ∙ ap type_in (sym same) ∙ left-sound.type-is in
                    let jb = judge s.known.W only s.known.S joins.u in
                    let q = x.is nest s.known.m s.known.n at joins.m g.e joins.u ja jb left-still asks-same start right-judges.says in
                    let kept = kept_on (kept-wider g.judges.kept at joins.m (omega arith) (omega (arith, r))) (kept-wider right-judges.kept at joins.m (omega (arith, z.0)) (omega arith)) in
                    judges-on nest s.known.m s.known.n code mid after at joins.m at joins.m (judge_joined (sort_in s.known.W g.i) g.e joins.u ja jb) left' kept (low-on g.judges.low right-judges.low) (omega arith) (omega arith)
                    (subst (λ (o : ℕ). JudgesUnder nest s.known.m s.known.n mid after at joins.m (judge_joined o g.e joins.u ja jb) left') operator-is q)

                going_on : Going after only left'
                going_on = record {
                  e = joined g.i g.e joins.u;
                  i = joins.m;
                  f = joins.f;
                  low = next (level_of (sort_in s.known.W g.i));
                  some = omega (arith, next-most (level_of (sort_in s.known.W g.i)), level-is, ne);
                  width = joins-width;
                  rest = joins.rest;
                  spans = joined-spans;
                  judges = joined-judges;
                }

                going-grows : (b : ValueType) (k : ℕ) → left' ≡ Ok (b, k) → i < k
                going-grows b k q =
                    let r = spans-grow joins.u (g.i + 1) joins.m right-spans in
                    omega (arith, r, end_is, (under-typed _ _ _ _ _ _ _ left' b k q joined-judges.says).next-is)

-- ---- the loop
-- So it goes whatever is known, and whatever stood where the first part was answered so: `begun` are the cells where the loop begins.
pub record Runs (nest : ℕ) (values begun now : List ℕ) (only : Bool) (top at : ℕ) (part left : Judged) : Type 0 where
  pub is : (code : List ℕ) → Began nest code values begun only at part → (s : StandsUnder nest code values top at) → Going nest code values top at s now only left

pub runs-first : (nest : ℕ) (values now : List ℕ) (only : Bool) (top at : ℕ) (left : Judged) → Runs nest values now now only top at left left
runs-first nest values now only top at left = record { is = λ code b s. first-going nest code values top at s now only left b }

module _ (nest : ℕ) (values begun now : List ℕ) (only : Bool) (top at : ℕ) (part : Judged) where
  -- a rule is broken by what has been read
  pub run-faulty : (code : List ℕ) → Began nest code values begun only at part → (broken : Breach) → Runs nest values begun now only top at part (Err broken) → CheckedUnder nest code values now only top at (Err broken)
  run-faulty code b broken run = record { is = λ s. faulty-is nest code values top at s now only (Err broken) (run.is code b s) broken refl }

  module _ (type : ValueType) (i : ℕ) (run : Runs nest values begun now only top at part (Ok (type, i))) where
    pub run_long : (code : List ℕ) → Began nest code values begun only at part → StandsUnder nest code values top at → length now ≡ length code
    run_long code b s = (run.is code b s).judges.kept.long

    pub run_room : (code : List ℕ) → Began nest code values begun only at part → StandsUnder nest code values top at → i * 8 + 8 ≤ length now
    run_room code b s = (going-in nest code values top at s now only (Ok (type, i)) (run.is code b s) type i refl).3

    pub run_in : (code : List ℕ) → Began nest code values begun only at part → StandsUnder nest code values top at → (at < i) × (i < word_limit)
    run_in code b s = let z = going-in nest code values top at s now only (Ok (type, i)) (run.is code b s) type i refl in (z.0, z.2)

    pub run-add : (code : List ℕ) → Began nest code values begun only at part → StandsUnder nest code values top at → Fits w64 (i + 1)
    run-add code b s = record { fits = omega (arith, (run_in code b s).1) }

    pub run-falls : (code : List ℕ) (t : ℕ) → Began nest code values begun only at part → StandsUnder nest code values top at → (word_limit - at) * 2 + nest + 1 ≡ t → (word_limit - (i + 1)) * 2 + nest + 1 < t
    run-falls code t b s e = let z = run_in code b s in omega (arith, z.0, z.1)

    module _ (w l : ℕ) (ew : w ≡ op_at (cells_of now) i) (el : l ≡ level_of w) where
      -- no operator follows that goes on
      pub run-stops : (code : List ℕ) → Began nest code values begun only at part → (l ≡ 0) ⊎ ((l ≡ 0 → ⊥) × (top < l)) → CheckedUnder nest code values now only top at (Ok (type, i))
      run-stops code b (inl z) = record { is = λ s. stop_is nest code values top at s now only (Ok (type, i)) (run.is code b s) type i refl w l ew el (λ h g. omega arith) }
      run-stops code b (inr z) = record { is = λ s. stop_is nest code values top at s now only (Ok (type, i)) (run.is code b s) type i refl w l ew el (λ h g. omega (arith, z.1)) }

      module _ (ne : l ≡ 0 → ⊥) (le : l ≤ top) where
        pub run-right : (code : List ℕ) → Began nest code values begun only at part → StandsUnder nest code values top at → StandsUnder nest now values (l - 1) (i + 1)
        run-right code b s = right-stands nest code values top at s now only (Ok (type, i)) (run.is code b s) type i refl w l ew el ne le

        module _ (wants : ValueType) (asks : Asks w type wants) where
          pub run-wrong : (code : List ℕ) → Began nest code values begun only at part → (type ≡ wants → ⊥) → CheckedUnder nest code values now only top at (Err (record { rule = WrongType; word = at }))
          run-wrong code b d = record { is = λ s. wrong-is nest code values top at s now only (Ok (type, i)) (run.is code b s) type i refl w l ew el ne le wants asks d }

          module _ (y : type ≡ wants) (mid : List ℕ) (right : Judged) (c : CheckedUnder nest now values mid only (l - 1) (i + 1) right) where
            pub run-joins : (code : List ℕ) → Began nest code values begun only at part → StandsUnder nest code values top at → Right mid w l i right
            run-joins code b s = right_is nest code values top at s now only (Ok (type, i)) (run.is code b s) type i refl w l ew el ne le wants asks y mid right c

            module _ (after : List ℕ) (left' : Judged) (x : Joined mid after w wants i right left') where
              pub run_on : Runs nest values begun after only top at part left'
              run_on = record { is = λ code b s. going_on nest code values top at s now only (Ok (type, i)) (run.is code b s) type i refl w l ew el ne le wants asks y mid right c after left' x }

            -- fewer words are left
            module _ (after : List ℕ) (b : ValueType) (k : ℕ) (x : Joined mid after w wants i right (Ok (b, k))) where
              pub run-less : (code : List ℕ) → Began nest code values begun only at part → StandsUnder nest code values top at → word_limit - k < word_limit - i
              run-less code b' s =
                  let z = run_in code b' s in
                  let g = going-grows nest code values top at s now only (Ok (type, i)) (run.is code b' s) type i refl w l ew el ne le wants asks y mid right c after (Ok (b, k)) x b k refl in
                  omega (arith, z.1, g)

-- ---- an expression of a type
module _ (code values after : List ℕ) (only : Bool) (wants at : ℕ) (r : Judged) (c : Checked code values after only disjunctions at r) where
  pub typed-faulty : (broken : Breach) → r ≡ Err broken → OfType code values after only wants at (Err broken)
  unfolding SaysUnder
  typed-faulty broken e = record {
    is = λ s t w.
        let j = judge s.known.W only s.known.S s.e in
        let f = says-faulty _ _ _ _ _ _ r broken e (c.is s).says in
        record {
          says = record {
            others = f.others ++ fault_if (differs t j.type) wrong_type (first s.e);
            faults-are = wanted-first t (first s.e) j (as_fault broken) f.others f.faults-are;
          };
          kept = (c.is s).kept;
          low = (c.is s).low;
        };
  }

  module _ (type : ValueType) (end : ℕ) (e : r ≡ Ok (type, end)) where
    pub typed_wrong : (number : ℕ) → number ≡ type_number type → (number ≡ wants → ⊥) → OfType code values after only wants at (Err (record { rule = WrongType; word = at }))
    unfolding SaysUnder fault
    typed_wrong number m d = record {
      is = λ s t w.
          let j = judge s.known.W only s.known.S s.e in
          let q = says_typed _ _ _ _ _ _ r type end e (c.is s).says in
          let start = spans-first s.e at s.to (stands (sort_in s.known.W) s.d disjunctions at (s.e, s.to) s.is) in
          let v = said wants t w in
          record {
            says = record {
              others = [];
              faults-are = wanted-wrong t (first s.e) j type v.type v.type-is q.type-is (λ h. d (m ∙ ap type_number h ∙ v.number-is)) q.none ∙ ap (fault wrong_type) start;
            };
            kept = (c.is s).kept;
            low = (c.is s).low;
          };
    }

    pub typed-right : (number : ℕ) → number ≡ type_number type → number ≡ wants → OfType code values after only wants at (Ok (type, end))
    unfolding SaysUnder
    typed-right number m y = record {
      is = λ s t w.
          let j = judge s.known.W only s.known.S s.e in
          let q = says_typed _ _ _ _ _ _ r type end e (c.is s).says in
          record {
            says = record {
              none = wanted-none t (first s.e) j q.none (sym (said_as type wants t w (sym m ∙ y)) ∙ q.type-is);
              type-is = said_as type wants t w (sym m ∙ y);
              next-is = q.next-is;
              stands = q.stands;
            };
            kept = (c.is s).kept;
            low = (c.is s).low;
          };
    }

-- the number of a type tells it
pub typed-by-number : (code values after : List ℕ) (only : Bool) (wants : ValueType) (number at : ℕ) (r : Judged) → number ≡ type_number wants → OfType code values after only number at r
    → Typed code values after only wants at r
typed-by-number code values after only wants number at r y c = record { is = λ s t w. c.is s t (ap type_said y ∙ number-says wants ∙ ap some w) }
