-- The places of the evaluation: what its loop keeps, how it starts, goes on, fails and ends.
use mathlib.Core.Path.{◌≡◌, refl, sym, ap, ap₂, subst, ◌∙◌}
use mathlib.Core.Bool.{Bool, true, false}
use mathlib.Core.List.{List}
use mathlib.Core.Option.{some}
use Prim.Native.Nat.{ℕ, zero, suc, ◌+◌, ◌-◌, ◌*◌, ◌/◌, ◌%◌, ◌<◌, ◌≤◌}
use native.Mathlib.Omega.{arith}
use lib.Dec.{T, leb}
use lib.ListN.{length}
use lib.IntN.{ℤ, pos, nat_abs}
use lib.Signed.{lt_z}
use mir.Syntax.{w32, w64}
use mir.Val.{SFits}
use mir.Facts.{to_z-of_z}
use borrow.Author.Tests.{le-leb, lt-leb, eq-eqb, ne_eqb}
use Rattle.laws.proofs.Tests.{test, by-same}
use Rattle.paper.specs.Numbers.{Value, value, error}
use Rattle.paper.specs.Terms.{Memory, Term, binary, worth, known, combined}
use Rattle.store_cells.specs.Cells.{cells_of}
use Rattle.store_numbers.proofs.Whole.{read}
use Rattle.code.specs.Cells.{op_in, value_in, head_at, op_at, link_at}
use Rattle.code.specs.Spans.{right_in, operator_of, operator_in, leaf_term, operand_term, right_end, right_term, chain, within, term_within}
use Rattle.code.proofs.Options.{none-some}
use Rattle.code.proofs.Operands.{of-any, of-leaf}
use Rattle.code.proofs.Spanning.{end-span, end-leaf, right-span, right-leaf, chain-done, Step, chain-step, chain-on, right-moves, Begun, begun, term-grows, single}
use Rattle.store_reading.specs.Reading.{cell_values}
use Rattle.store_evaluation.specs.Answers.{first_error, decoded, Small, Gives, Counts, term_under, memory_of, StandsUnder, EvaluatedUnder}
use Rattle.store_evaluation.specs.Parts.{joined, failure_of, failing, Worked, Leaf, Read, Fused, Shorts, closed_term, opens_at, ends_at, nests_in, Nests, Closes, Closed, Encloses, Entered, Left, Follows, Followed}
use Rattle.store_evaluation.proofs.Numbers.{is-value, is-error, small-value}
use Rattle.store_evaluation.proofs.Places.{head_in, operand-some, right-in}

-- ---- what the loop keeps

-- the operators before i are worked out, for every reading of all
pub record Going (nest : ℕ) (code values : List ℕ) (base : ℕ) (first : ℤ) (start to : ℕ) (a : ℤ) (i : ℕ) : Type 0 where
  pub asked : Follows nest code values base first start to
  pub left : (c : Counts) (t : Term) → Left nest c code values base first start to t → Left nest c code values base a i to t
  pub small : SFits w32 a
  pub after : start ≤ i
  pub on : i ≤ to

-- ---- what the machine reads back of a local
pub subst₂ : (P : ℕ → ℕ → Type 0) {a b i j : ℕ} → a ≡ b → i ≡ j → P a i → P b j
subst₂ P {a} {b} {i} {j} p q x = subst (P b) q (subst (λ (k : ℕ). P k i) p x)

pub evaluated-read : (nest : ℕ) (code values : List ℕ) (base from to : ℕ) (z : ℤ) → SFits w64 z → EvaluatedUnder nest code values base from to z → EvaluatedUnder nest code values base from to (read z)
evaluated-read nest code values base from to z s e = rw (to_z-of_z s) e

pub followed-first : (nest : ℕ) (code values : List ℕ) (base : ℕ) (first : ℤ) (start to : ℕ) (z : ℤ) → SFits w64 first → Followed nest code values base (read first) start to z → Followed nest code values base first start to z
followed-first nest code values base first start to z s e = rw (to_z-of_z s) at e

pub followed-read : (nest : ℕ) (code values : List ℕ) (base : ℕ) (first : ℤ) (start to : ℕ) → SFits w64 first → (z : ℤ) → SFits w64 z → Followed nest code values base (read first) start to z
    → Followed nest code values base first start to (read z)
followed-read nest code values base first start to sf z s e = rw (to_z-of_z s) (followed-first nest code values base first start to z sf e)

pub going-read : (nest : ℕ) (code values : List ℕ) (base : ℕ) (first : ℤ) (start to : ℕ) (z : ℤ) (i : ℕ) → SFits w64 z → Going nest code values base first start to z i → Going nest code values base first start to (read z) i
going-read nest code values base first start to z i s g = rw (to_z-of_z s) g

-- ---- two sides
joined-known : (op : ℕ) (a b : Value) → known op a ≡ true → joined op a b ≡ a
unfolding joined
joined-known op a b k = rw (k, joined)

joined-not : (op : ℕ) (a b : Value) → known op a ≡ false → joined op a b ≡ combined op a b
unfolding joined
joined-not op a b k = rw (k, joined)

worth-joined : (M : Memory) (op : ℕ) (a b : Term) → worth M (binary op a b) ≡ joined op (worth M a) (worth M b)
unfolding worth joined
worth-joined M op a b = refl

left-error : (op e : ℕ) (b : Value) → joined op (error e) b ≡ error e
unfolding joined known
left-error op e b = refl

-- what fails goes through to the end
chain-error : (nest : ℕ) (c : Counts) (code values : List ℕ) (base e g : ℕ) (u : Term) (i to : ℕ) (t : Term)
    → chain c.m c.n (cells_of code) (term_within c.m c.n (cells_of code) nest) g u i to ≡ some t
    → worth (memory_of c values base) u ≡ error e → worth (memory_of c values base) t ≡ error e
chain-error nest c code values base e zero u i to t r w =
    by-same i to
    (λ h. sym (ap (worth (memory_of c values base)) (chain-done c.m c.n (cells_of code) (term_within c.m c.n (cells_of code) nest) zero u i to t h r)) ∙ w)
    (λ h. let s = chain-step c.m c.n (cells_of code) (term_within c.m c.n (cells_of code) nest) zero u i to t h r in absurd (omega (arith, s.more)))
chain-error nest c code values base e (suc g) u i to t r w =
    by-same i to
    (λ h. sym (ap (worth (memory_of c values base)) (chain-done c.m c.n (cells_of code) (term_within c.m c.n (cells_of code) nest) (suc g) u i to t h r)) ∙ w)
    (λ h.
    let s = chain-step c.m c.n (cells_of code) (term_within c.m c.n (cells_of code) nest) (suc g) u i to t h r in
    let p : s.p ≡ g = omega (arith, s.more) in
    chain-error nest c code values base e g (binary (operator_in (op_at (cells_of code) i)) u s.u) (right_end (cells_of code) i) to t
    (subst (λ (j : ℕ). chain c.m c.n (cells_of code) (term_within c.m c.n (cells_of code) nest) j (binary (operator_in (op_at (cells_of code) i)) u s.u) (right_end (cells_of code) i) to ≡ some t) p s.rest)
    (worth-joined (memory_of c values base) (operator_in (op_at (cells_of code) i)) u s.u
    ∙ ap (λ (v : Value). joined (operator_in (op_at (cells_of code) i)) v (worth (memory_of c values base) s.u)) w
    ∙ left-error (operator_in (op_at (cells_of code) i)) e (worth (memory_of c values base) s.u)))

-- what stands in parentheses or braces, of which one may open
within-less : (c : Counts) (code : List ℕ) (nest from to : ℕ) (t : Term) → within (term_within c.m c.n (cells_of code)) nest from to ≡ some t → (0 < nest) × (term_under (nest - 1) c code from to ≡ some t)
unfolding within
within-less c code zero from to t e = none-some t e
within-less c code (suc d) from to t e = let q : suc d - 1 ≡ d = omega arith in (omega arith, rw q e)

module _ (nest : ℕ) (code values : List ℕ) (base : ℕ) where
  -- ---- the start
  module _ (from to : ℕ) (sd : StandsUnder nest code from to) where
    begins : (c : Counts) (t : Term) → term_under nest c code from to ≡ some t → Begun c.m c.n (cells_of code) nest from to t
    begins c t e = begun c.m c.n (cells_of code) nest from to t e

    pub stands-less : from < to
    stands-less = term-grows sd.c.m sd.c.n (cells_of code) nest from to sd.t sd.is

    pub stands-in : from * 8 + 8 ≤ length code
    stands-in =
        let b = begins sd.c sd.t sd.is in
        head_in code from sd.whole (operand-some sd.c.m sd.c.n (cells_of code) (term_within sd.c.m sd.c.n (cells_of code)) nest from b.x b.first)

    -- the first operand is worth a, and i is the word after it
    pub record Opened (a : ℤ) (i : ℕ) : Type 0 where
      pub left : (c : Counts) (t : Term) → term_under nest c code from to ≡ some t → Left nest c code values base a i to t
      pub small : SFits w32 a
      pub after : from < i
      pub on : i ≤ to

    module _ (a : ℤ) (i : ℕ)
        (f : (c : Counts) (x : Term × ℕ) → operand_term c.m c.n (cells_of code) (term_within c.m c.n (cells_of code)) nest from ≡ some x → (decoded a ≡ worth (memory_of c values base) x.0) × (i ≡ x.1))
        (s : Small a) where
      opens : lt_z a (pos first_error) ≡ true → Opened a i
      opens h =
          let b = begins sd.c sd.t sd.is in
          let q : i ≡ b.x.1 = (f sd.c b.x b.first).1 in
          record {
            small = s h;
            after = omega (arith, b.after);
            on = omega (arith, b.on);
            left = λ c t e.
                let d = begins c t e in
                let o = f c d.x d.first in
                record { u = d.x.0; is = sym o.0 ∙ is-value a h; g = d.g; rest = ap (λ (j : ℕ). chain c.m c.n (cells_of code) (term_within c.m c.n (cells_of code) nest) d.g d.x.0 j to) o.1 ∙ d.rest };
          }

      -- an error leaves at once
      fails : lt_z a (pos first_error) ≡ false → EvaluatedUnder nest code values base from to a
      fails h = record {
        small = s;
        is = λ c t e.
            let d = begins c t e in
            is-error a h ∙ sym (chain-error nest c code values base (nat_abs a - first_error) d.g d.x.0 d.x.1 to t d.rest (sym (f c d.x d.first).0 ∙ is-error a h));
      }

    -- what follows it
    module _ (a : ℤ) (i : ℕ) (o : Opened a i) where
      pub opened-follows : Follows nest code values base a i to
      opened-follows = record { c = sd.c; t = sd.t; left = o.left sd.c sd.t sd.is; small = o.small; whole = sd.whole }

      pub opened-evaluated : (r : ℤ) → Followed nest code values base a i to r → EvaluatedUnder nest code values base from to r
      opened-evaluated r d = record { is = λ c t e. d.is c t (o.left c t e); small = d.small }

    module _ (w : ℕ) (ew : w ≡ head_at (cells_of code) from) where
      op-is : w % 256 ≡ op_at (cells_of code) from
      op-is = ap (λ (v : ℕ). v % 256) ew

      leaf-at : w % 256 ≤ 3 → (c : Counts) (x : Term × ℕ) → operand_term c.m c.n (cells_of code) (term_within c.m c.n (cells_of code)) nest from ≡ some x
          → (leaf_term c.m c.n (w % 256) (w / 256) ≡ some x.0) × (x.1 ≡ from + 1)
      leaf-at h c x e =
          let g = of-leaf c.m c.n (head_at (cells_of code) from) (link_at (cells_of code) from) (within (term_within c.m c.n (cells_of code)) nest) (term_within c.m c.n (cells_of code) nest) from x e (omega (arith, op-is)) in
          (ap (λ (v : ℕ). leaf_term c.m c.n (v % 256) (v / 256)) ew ∙ g.is, g.end)

      pub first_leaf : w % 256 ≤ 3 → w < cell_values → Leaf (w % 256) (w / 256)
      first_leaf h k =
          let b = begins sd.c sd.t sd.is in
          record { c = sd.c; t = b.x.0; is = (leaf-at h sd.c b.x b.first).0; bits = omega arith }

      pub start-leaf : w % 256 ≤ 3 → (z : ℤ) → SFits w64 z → Read values base (w % 256) (w / 256) z → Opened (read z) (from + 1)
      start-leaf h z s r =
          rw (to_z-of_z s)
          (opens z (from + 1) (λ c x e. let g = leaf-at h c x e in (is-value z (small-value z r.small) ∙ sym (r.is c x.0 g.0), sym g.1)) (λ q. r.small) (small-value z r.small))

      -- an operand of several words: what stands inside it, and what it makes of that
      record Enclosed (c : Counts) (x : Term × ℕ) (l : ℕ) : Type 0 where
        pub t : Term
        pub nests : Nests (op_in w) nest
        pub inside : term_under (nests_in (op_in w) nest) c code (opens_at (op_in w) from) l ≡ some t
        pub is : closed_term c (op_in w) (value_in w) t ≡ some x.0
        pub end : x.1 ≡ ends_at (w % 256) l

      module _ (h : 3 < w % 256) (l : ℕ) (el : l ≡ link_at (cells_of code) from) where
        enclosed : (c : Counts) (x : Term × ℕ) → operand_term c.m c.n (cells_of code) (term_within c.m c.n (cells_of code)) nest from ≡ some x → Enclosed c x l
        unfolding closed_term opens_at ends_at nests_in
        enclosed c x e =
            of-any c.m c.n w l (within (term_within c.m c.n (cells_of code)) nest) (term_within c.m c.n (cells_of code) nest) from x (rw (ew, el) e)
            (λ k g. absurd (omega arith))
            (λ k j g. record {
              t = g.t;
              nests = λ q. (within-less c code nest (from + 2) l g.t g.inside).0;
              inside = rw (le-leb (w % 256) 5 j, opens_at) (rw (le-leb (w % 256) 6 (omega arith), nests_in) (within-less c code nest (from + 2) l g.t g.inside).1);
              is = rw (le-leb (w % 256) 5 j, closed_term) g.is;
              end = rw (le-leb (w % 256) 6 (omega arith), ends_at) g.end;
            })
            (λ j g. record {
              t = x.0;
              nests = λ q. (within-less c code nest (from + 1) l x.0 g.inside).0;
              inside = rw (lt-leb (w % 256) 5 (omega arith), opens_at) (rw (le-leb (w % 256) 6 (omega arith), nests_in) (within-less c code nest (from + 1) l x.0 g.inside).1);
              is = rw (lt-leb (w % 256) 5 (omega arith), closed_term) (rw (eq-eqb (w % 256) 6 j));
              end = rw (le-leb (w % 256) 6 (omega arith), ends_at) g.end;
            })
            (λ j g. record {
              t = g.t;
              nests = λ q. absurd (omega arith);
              inside = rw (lt-leb (w % 256) 5 (omega arith), opens_at) (rw (lt-leb (w % 256) 6 j, nests_in) g.inside);
              is = rw (lt-leb (w % 256) 5 (omega arith), closed_term) (rw (ne_eqb (w % 256) 6 (λ z. omega arith)) (ap some g.is));
              end = rw (lt-leb (w % 256) 6 j, ends_at) g.end;
            })

        ghost : Enclosed sd.c (begins sd.c sd.t sd.is).x l
        ghost = enclosed sd.c (begins sd.c sd.t sd.is).x (begins sd.c sd.t sd.is).first

        ends_low : (n : ℕ) → ends_at (w % 256) l ≤ n → l ≤ n
        unfolding ends_at
        ends_low n k = test (leb (w % 256) 6) (λ t. let q : l + 1 ≤ n = rw (t, ends_at) at k in omega arith) (λ t. rw (t, ends_at) at k)

        pub encloses-on : l ≤ to
        encloses-on = ends_low to (omega (arith, ghost.end, (begins sd.c sd.t sd.is).on))

        pub encloses : Encloses nest code from w l
        encloses = record {
          c = sd.c;
          t = ghost.t;
          u = (begins sd.c sd.t sd.is).x.0;
          nests = ghost.nests;
          inside = ghost.inside;
          is = ghost.is;
          whole = sd.whole;
        }

        module _ (z : ℤ) (d : Entered nest code values base from w l z) where
          entered-as : (c : Counts) (x : Term × ℕ) → operand_term c.m c.n (cells_of code) (term_within c.m c.n (cells_of code)) nest from ≡ some x → (decoded z ≡ worth (memory_of c values base) x.0) × (ends_at (w % 256) l ≡ x.1)
          entered-as c x e = let g = enclosed c x e in (d.is c g.t x.0 g.inside g.is, sym g.end)

          pub start-enclosed : SFits w64 z → lt_z z (pos first_error) ≡ true → Opened (read z) (ends_at (w % 256) l)
          start-enclosed sz h = rw (to_z-of_z sz) (opens z (ends_at (w % 256) l) entered-as d.small h)

          pub start-fails : lt_z z (pos first_error) ≡ false → EvaluatedUnder nest code values base from to z
          start-fails h = fails z (ends_at (w % 256) l) entered-as d.small h

  -- ---- a word alone
  module _ (from to : ℕ) (sd : StandsUnder nest code from to) (k : to ≡ from + 1) (v : ℕ) (ev : v ≡ head_at (cells_of code) from) where
    alone-is : (c : Counts) (t : Term) → term_under nest c code from to ≡ some t → leaf_term c.m c.n (v % 256) (v / 256) ≡ some t
    alone-is c t e = ap (λ (j : ℕ). leaf_term c.m c.n (j % 256) (j / 256)) ev ∙ single c.m c.n (cells_of code) nest from to t k e

    pub alone-leaf : v < cell_values → Leaf (v % 256) (v / 256)
    alone-leaf b = record { c = sd.c; t = sd.t; is = alone-is sd.c sd.t sd.is; bits = omega arith }

    pub alone-evaluated : (x : ℤ) → Read values base (v % 256) (v / 256) x → EvaluatedUnder nest code values base from to x
    alone-evaluated x r = record { is = λ c t e. is-value x (small-value x r.small) ∙ sym (r.is c t (alone-is c t e)); small = λ q. r.small }

    pub alone-read : (x : ℤ) → SFits w64 x → Read values base (v % 256) (v / 256) x → EvaluatedUnder nest code values base from to (read x)
    alone-read x s r = evaluated-read nest code values base from to x s (alone-evaluated x r)

  -- ---- a turn
  pub goes_first : (first : ℤ) (start to : ℕ) → Follows nest code values base first start to → Going nest code values base first start to first start
  goes_first first start to f = record {
    asked = f;
    left = λ c t e. e;
    small = f.small;
    after = omega arith;
    on = chain-on f.c.m f.c.n (cells_of code) (term_within f.c.m f.c.n (cells_of code) nest) (term-grows f.c.m f.c.n (cells_of code) nest) f.left.g f.left.u start to f.t f.left.rest;
  }

  pub goes-begun : (first : ℤ) (start to : ℕ) → SFits w64 first → Follows nest code values base first start to → Going nest code values base (read first) start to (read first) start
  goes-begun first start to s f = rw (to_z-of_z s) (goes_first first start to f)

  module _ (first : ℤ) (start to : ℕ) (a : ℤ) (i : ℕ) (go : Going nest code values base first start to a i) where
    pub ends : to ≤ i → Followed nest code values base first start to a
    ends h = record {
      small = λ q. go.small;
      is = λ c t e.
          let l = go.left c t e in
          is-value a (small-value a go.small) ∙ sym l.is
          ∙ ap (worth (memory_of c values base)) (chain-done c.m c.n (cells_of code) (term_within c.m c.n (cells_of code) nest) l.g l.u i to t (omega (arith, go.on)) l.rest);
    }

    module _ (h : i < to) where
      next : (c : Counts) (t : Term) (e : Left nest c code values base first start to t) → Step c.m c.n (cells_of code) (term_within c.m c.n (cells_of code) nest) (go.left c t e).g (go.left c t e).u i to t
      next c t e = chain-step c.m c.n (cells_of code) (term_within c.m c.n (cells_of code) nest) (go.left c t e).g (go.left c t e).u i to t (λ q. omega arith) (go.left c t e).rest

      ghost-next : Step go.asked.c.m go.asked.c.n (cells_of code) (term_within go.asked.c.m go.asked.c.n (cells_of code) nest)
          (go.left go.asked.c go.asked.t go.asked.left).g (go.left go.asked.c go.asked.t go.asked.left).u i to go.asked.t
      ghost-next = next go.asked.c go.asked.t go.asked.left

      right-on : right_end (cells_of code) i ≤ to
      right-on = ghost-next.on

      right-more : i + 1 < right_end (cells_of code) i
      right-more =
          right-moves go.asked.c.m go.asked.c.n (cells_of code) (term_within go.asked.c.m go.asked.c.n (cells_of code) nest)
          (term-grows go.asked.c.m go.asked.c.n (cells_of code) nest) i ghost-next.u ghost-next.right

      pub turn-room : i + 2 ≤ to
      turn-room = omega (arith, right-more, right-on)

      pub turn_in : i * 8 + 8 ≤ length code
      turn_in =
          right-in code i go.asked.whole go.asked.c.m go.asked.c.n (term_within go.asked.c.m go.asked.c.n (cells_of code) nest)
          (term-grows go.asked.c.m go.asked.c.n (cells_of code) nest) ghost-next.u ghost-next.right

      module _ (w : ℕ) (ew : w ≡ head_at (cells_of code) i) where
        number : ℕ
        number = w % 256 % 16

        class-is : w % 256 / 16 % 4 ≡ right_in (op_at (cells_of code) i)
        class-is = ap (λ (v : ℕ). v % 256 / 16 % 4) ew

        -- the right side's answer b, and the word r after it
        pub record Sided (b : ℤ) (r : ℕ) : Type 0 where
          pub end : r ≡ right_end (cells_of code) i
          pub small : SFits w32 b
          pub is : (c : Counts) (u : Term) → right_term c.m c.n (cells_of code) (term_within c.m c.n (cells_of code) nest) i ≡ some u
              → joined (operator_of (w % 256 % 16)) (value a) (value b) ≡ joined (operator_of (w % 256 % 16)) (value a) (worth (memory_of c values base) u)

        pub sided-read : (b : ℤ) (r : ℕ) → SFits w64 b → Sided b r → Sided (read b) r
        sided-read b r s d = rw (to_z-of_z s) d

        -- a span
        module _ (k : w % 256 / 16 % 4 ≡ 0) (r : ℕ) (er : r ≡ link_at (cells_of code) i) where
          end_is : r ≡ right_end (cells_of code) i
          end_is = er ∙ sym (end-span (cells_of code) i (sym class-is ∙ k))

          right_is : (c : Counts) (u : Term) → right_term c.m c.n (cells_of code) (term_within c.m c.n (cells_of code) nest) i ≡ some u → term_under nest c code (i + 1) r ≡ some u
          right_is c u e =
              ap (term_within c.m c.n (cells_of code) nest (i + 1)) er ∙ sym (right-span (cells_of code) i c.m c.n (term_within c.m c.n (cells_of code) nest) (sym class-is ∙ k)) ∙ e

          pub span-stands : StandsUnder nest code (i + 1) r
          span-stands = record {
            c = go.asked.c;
            t = ghost-next.u;
            is = right_is go.asked.c ghost-next.u ghost-next.right;
            whole = go.asked.whole;
          }

          pub span_less : r - (i + 1) < to - start
          span_less = omega (arith, end_is, right-on, right-more, go.after)

          pub span-past : to - r < to - i
          span-past = omega (arith, end_is, right-on, right-more)

          side-known : known (operator_of (w % 256 % 16)) (value a) ≡ true → Sided a r
          side-known q = record {
            end = end_is;
            small = go.small;
            is = λ c u e. joined-known (operator_of (w % 256 % 16)) (value a) (value a) q ∙ sym (joined-known (operator_of (w % 256 % 16)) (value a) (worth (memory_of c values base) u) q);
          }

          module _ (b : ℤ) (v : EvaluatedUnder nest code values base (i + 1) r b) where
            pub side-span : lt_z b (pos first_error) ≡ true → Sided b r
            side-span q = record {
              end = end_is;
              small = v.small q;
              is = λ c u e. ap (joined (operator_of (w % 256 % 16)) (value a)) (sym (is-value b q) ∙ v.is c u (right_is c u e));
            }

            pub right-fails : known (operator_of (w % 256 % 16)) (value a) ≡ false → lt_z b (pos first_error) ≡ false → Followed nest code values base first start to b
            unfolding combined
            right-fails n q = record {
              small = v.small;
              is = λ c t e.
                  let l = go.left c t e in
                  let s = next c t e in
                  let d = is-error b q in
                  d ∙ sym (chain-error nest c code values base (nat_abs b - first_error) s.p (binary (operator_in (op_at (cells_of code) i)) l.u s.u) (right_end (cells_of code) i) to t s.rest
                  (worth-joined (memory_of c values base) (operator_in (op_at (cells_of code) i)) l.u s.u
                  ∙ ap₂ (joined (operator_in (op_at (cells_of code) i))) l.is (sym (v.is c s.u (right_is c s.u s.right)) ∙ d)
                  ∙ ap (λ (j : ℕ). joined (operator_of (j % 256 % 16)) (value a) (error (nat_abs b - first_error))) (sym ew)
                  ∙ joined-not (operator_of (w % 256 % 16)) (value a) (error (nat_abs b - first_error)) n));
            }

        -- a leaf
        module _ (k : w % 256 / 16 % 4 ≡ 0 → ⊥) where
          fused-is : (c : Counts) (u : Term) → right_term c.m c.n (cells_of code) (term_within c.m c.n (cells_of code) nest) i ≡ some u → leaf_term c.m c.n (w % 256 / 16 % 4) (w / 256) ≡ some u
          fused-is c u e =
              ap (λ (v : ℕ). leaf_term c.m c.n (v % 256 / 16 % 4) (v / 256)) ew
              ∙ sym (right-leaf (cells_of code) i c.m c.n (term_within c.m c.n (cells_of code) nest) (λ z. k (class-is ∙ z))) ∙ e

          pub fused-leaf : w < cell_values → Leaf (w % 256 / 16 % 4) (w / 256)
          fused-leaf b = record { c = go.asked.c; t = ghost-next.u; is = fused-is go.asked.c ghost-next.u ghost-next.right; bits = omega arith }

          pub side-leaf : (b : ℤ) → Read values base (w % 256 / 16 % 4) (w / 256) b → Sided b (i + 2)
          side-leaf b r = record {
            end = sym (end-leaf (cells_of code) i (λ z. k (class-is ∙ z)));
            small = r.small;
            is = λ c u e. ap (joined (operator_of (w % 256 % 16)) (value a)) (sym (r.is c u (fused-is c u e)));
          }

        -- both sides
        module _ (b : ℤ) (r : ℕ) (sd : Sided b r) where
          pub turn_on : r ≤ to
          turn_on = omega (arith, sd.end, right-on)

          pub turn-less : to - r < to - i
          turn-less = omega (arith, sd.end, right-on, right-more)

          worth-is : (c : Counts) (t : Term) (e : Left nest c code values base first start to t)
              → worth (memory_of c values base) (binary (operator_in (op_at (cells_of code) i)) (go.left c t e).u (next c t e).u) ≡ joined (operator_of (w % 256 % 16)) (value a) (value b)
          worth-is c t e =
              worth-joined (memory_of c values base) (operator_in (op_at (cells_of code) i)) (go.left c t e).u (next c t e).u
              ∙ ap (λ (v : Value). joined (operator_in (op_at (cells_of code) i)) v (worth (memory_of c values base) (next c t e).u)) (go.left c t e).is
              ∙ ap (λ (j : ℕ). joined (operator_of (j % 256 % 16)) (value a) (worth (memory_of c values base) (next c t e).u)) (sym ew)
              ∙ sym (sd.is c (next c t e).u (next c t e).right)

          pub goes-on : (z : ℤ) → SFits w32 z → joined (operator_of (w % 256 % 16)) (value a) (value b) ≡ value z → Going nest code values base first start to z r
          goes-on z s q = record {
            asked = go.asked;
            small = s;
            after = omega (arith, sd.end, right-more, go.after);
            on = turn_on;
            left = λ c t e. record {
              u = binary (operator_in (op_at (cells_of code) i)) (go.left c t e).u (next c t e).u;
              is = worth-is c t e ∙ q;
              g = (next c t e).p;
              rest = ap (λ (j : ℕ). chain c.m c.n (cells_of code) (term_within c.m c.n (cells_of code) nest) (next c t e).p (binary (operator_in (op_at (cells_of code) i)) (go.left c t e).u (next c t e).u) j to) sd.end ∙ (next c t e).rest;
            };
          }

          module _ (z : ℤ) (k : Worked (w % 256 % 16) a b z) where
            pub goes : failing (w % 256 % 16) z ≡ false → Going nest code values base first start to z r
            goes o = goes-on z (k.small o) (k.is o)

            pub turn-fails : failing (w % 256 % 16) z ≡ true → (f : ℤ) → Gives (error (failure_of (w % 256 % 16) b)) f → Followed nest code values base first start to f
            turn-fails o f g = record {
              small = g.small;
              is = λ c t e.
                  g.is ∙ sym (chain-error nest c code values base (failure_of (w % 256 % 16) b) (next c t e).p
                  (binary (operator_in (op_at (cells_of code) i)) (go.left c t e).u (next c t e).u) (right_end (cells_of code) i) to t (next c t e).rest (worth-is c t e ∙ k.fails o));
            }

        -- AND and OR with a span
        module _ (k : w % 256 / 16 % 4 ≡ 0) (r : ℕ) (er : r ≡ link_at (cells_of code) i) where
          -- the left side tells the answer
          pub skip-known : known (operator_of (w % 256 % 16)) (value a) ≡ true → Going nest code values base first start to a r
          skip-known q = goes-on a r (side-known k r er q) a go.small (joined-known (operator_of (w % 256 % 16)) (value a) (value a) q)

          -- it does not: the right side's answer is that of both
          module _ (sk : (v : Value) → joined (operator_of (w % 256 % 16)) (value a) v ≡ v) (b : ℤ) where
            pub skip-on : EvaluatedUnder nest code values base (i + 1) r b → lt_z b (pos first_error) ≡ true → Going nest code values base first start to b r
            skip-on v q = goes-on b r (side-span k r er b v q) b (v.small q) (sk (value b))

            -- and it comes last
            pub skip-last : r ≡ to → EvaluatedUnder nest code values base (i + 1) to b → Followed nest code values base first start to b
            skip-last z v = record {
              small = v.small;
              is = λ c t e.
                  let l = go.left c t e in
                  let s = next c t e in
                  v.is c s.u (ap (term_under nest c code (i + 1)) (sym z) ∙ right_is k r er c s.u s.right)
                  ∙ sym (sk (worth (memory_of c values base) s.u))
                  ∙ ap (λ (j : ℕ). joined (operator_of (j % 256 % 16)) (value a) (worth (memory_of c values base) s.u)) ew
                  ∙ ap (λ (x : Value). joined (operator_in (op_at (cells_of code) i)) x (worth (memory_of c values base) s.u)) (sym l.is)
                  ∙ sym (worth-joined (memory_of c values base) (operator_in (op_at (cells_of code) i)) l.u s.u)
                  ∙ ap (worth (memory_of c values base)) (chain-done c.m c.n (cells_of code) (term_within c.m c.n (cells_of code) nest) s.p (binary (operator_in (op_at (cells_of code) i)) l.u s.u) (right_end (cells_of code) i) to t (sym (end_is k r er) ∙ z) s.rest);
            }

          pub last-stands : r ≡ to → StandsUnder nest code (i + 1) to
          last-stands z = subst (StandsUnder nest code (i + 1)) z (span-stands k r er)

  -- ---- one operator between two words
  module _ (from to : ℕ) (sd : StandsUnder nest code from to) (l : to ≡ from + 3) (w : ℕ) (ew : w ≡ head_at (cells_of code) from) (h : w % 256 ≤ 3) where
    pub second-in : (from + 1) * 8 + 8 ≤ length code
    second-in =
        let b = begins from to sd sd.c sd.t sd.is in
        let q : b.x.1 ≡ from + 1 = (leaf-at from to sd w ew h sd.c b.x b.first).1 in
        let s = chain-step sd.c.m sd.c.n (cells_of code) (term_within sd.c.m sd.c.n (cells_of code) nest) b.g b.x.0 b.x.1 to sd.t (λ z. omega arith) b.rest in
        let r = right-in code b.x.1 sd.whole sd.c.m sd.c.n (term_within sd.c.m sd.c.n (cells_of code) nest) (term-grows sd.c.m sd.c.n (cells_of code) nest) s.u s.right in
        omega (arith, q, r)

    module _ (x : ℕ) (ex : x ≡ head_at (cells_of code) (from + 1)) (k : x / 16 % 4 ≡ 0 → ⊥) (a : ℤ) (sa : SFits w64 a) (ra : Read values base (w % 256) (w / 256) a) where
      opened : Opened from to sd (read a) (from + 1)
      opened = start-leaf from to sd w ew h a sa ra

      going : Going nest code values base (read a) (from + 1) to (read a) (from + 1)
      going = goes_first (read a) (from + 1) to (opened-follows from to sd (read a) (from + 1) opened)

      class_low : x % 256 / 16 % 4 ≡ x % 64 / 16 % 4
      class_low = omega arith

      carried : x % 256 / 16 % 4 ≡ 0 → ⊥
      carried z = k (omega arith)

      pub second-leaf : x < cell_values → Leaf (x % 64 / 16 % 4) (x / 256)
      second-leaf b = subst (λ (j : ℕ). Leaf j (x / 256)) class_low (fused-leaf (read a) (from + 1) to (read a) (from + 1) going (omega arith) x ex carried b)

      pub short : (r : ℤ) → SFits w64 r → Fused values base (x % 64) (x / 256) (read a) r → EvaluatedUnder nest code values base from to (read r)
      unfolding going goes_first
      short r sr f =
          rw (to_z-of_z sr) (record {
            small = f.small;
            is = λ c t e.
                let g = opened.left c t e in
                let s = next (read a) (from + 1) to (read a) (from + 1) going (omega arith) c t g in
                let o : x % 64 % 16 ≡ op_at (cells_of code) (from + 1) % 16 = let q : x % 64 % 16 ≡ x % 256 % 16 = omega arith in q ∙ ap (λ (j : ℕ). j % 256 % 16) ex in
                f.is c s.u (ap (λ (j : ℕ). leaf_term c.m c.n j (x / 256)) (sym class_low) ∙ fused-is (read a) (from + 1) to (read a) (from + 1) going (omega arith) x ex carried c s.u s.right)
                ∙ ap (λ (j : ℕ). joined (operator_of j) (value (read a)) (worth (memory_of c values base) s.u)) o
                ∙ ap (λ (v : Value). joined (operator_in (op_at (cells_of code) (from + 1))) v (worth (memory_of c values base) s.u)) (sym g.is)
                ∙ sym (worth-joined (memory_of c values base) (operator_in (op_at (cells_of code) (from + 1))) g.u s.u)
                ∙ ap (worth (memory_of c values base)) (chain-done c.m c.n (cells_of code) (term_within c.m c.n (cells_of code) nest) s.p (binary (operator_in (op_at (cells_of code) (from + 1))) g.u s.u) (right_end (cells_of code) (from + 1)) to t
                (end-leaf (cells_of code) (from + 1) (λ z. carried (ap (λ (j : ℕ). j % 256 / 16 % 4) ex ∙ z)) ∙ omega arith) s.rest);
          })

  -- ---- and told to be that
  module _ (from to : ℕ) (sd : StandsUnder nest code from to) where
    module _ (sh : Shorts code from to true) where
      first_word : (w : ℕ) → w ≡ head_at (cells_of code) from → w % 256 ≤ 3
      first_word w ew = omega (arith, ew, sh.first refl)

      second_word : (x : ℕ) → x ≡ head_at (cells_of code) (from + 1) → x / 16 % 4 ≡ 0 → ⊥
      second_word x ex z = sh.carried refl (omega (arith, ex))

      pub short-second : (from + 1) * 8 + 8 ≤ length code
      short-second = second-in from to sd (sh.end refl) (head_at (cells_of code) from) refl (sh.first refl)

      module _ (w : ℕ) (ew : w ≡ head_at (cells_of code) from) where
        pub short-first : w < cell_values → Leaf (w % 256) (w / 256)
        short-first b = first_leaf from to sd w ew (first_word w ew) b

        module _ (x : ℕ) (ex : x ≡ head_at (cells_of code) (from + 1)) (a : ℤ) (sa : SFits w64 a) (ra : Read values base (w % 256) (w / 256) a) where
          pub short-carried : x < cell_values → Leaf (x % 64 / 16 % 4) (x / 256)
          short-carried b = second-leaf from to sd (sh.end refl) w ew (first_word w ew) x ex (second_word x ex) a sa ra b

          pub short-done : (r : ℤ) → SFits w64 r → Fused values base (x % 64) (x / 256) (read a) r → EvaluatedUnder nest code values base from to (read r)
          short-done r sr f = short from to sd (sh.end refl) w ew (first_word w ew) x ex (second_word x ex) a sa ra r sr f

-- ---- inside an operand
module _ (nest : ℕ) (code values : List ℕ) (base at w l : ℕ) (en : Encloses nest code at w l) where
  opens-low : (s : ℕ) → s ≡ opens_at (w % 256) at → at < s
  unfolding opens_at
  opens-low s es = test (leb (w % 256) 5) (λ t. let q : s ≡ at + 2 = es ∙ rw (t, opens_at) in omega arith) (λ t. let q : s ≡ at + 1 = es ∙ rw (t, opens_at) in omega arith)

  nests-low : nests_in (w % 256) nest ≤ nest
  unfolding nests_in
  nests-low = test (leb (w % 256) 6) (λ t. rw (t, nests_in) (omega arith)) (λ t. rw (t, nests_in) (omega arith))

  pub nests-some : Nests (w % 256) nest
  nests-some = en.nests

  pub closes : Closes w
  closes = record { c = en.c; t = en.t; u = en.u; is = en.is }

  module _ (s : ℕ) (es : s ≡ opens_at (w % 256) at) where
    stands-inside : StandsUnder (nests_in (w % 256) nest) code s l
    stands-inside = record { c = en.c; t = en.t; is = ap (λ (j : ℕ). term_under (nests_in (w % 256) nest) en.c code j l) es ∙ en.inside; whole = en.whole }

    pub inside-in : s * 8 + 8 ≤ length code
    inside-in = stands-in (nests_in (w % 256) nest) code values base s l stands-inside

    pub inside-room : s + 1 ≤ l
    inside-room = omega (arith, stands-less (nests_in (w % 256) nest) code values base s l stands-inside)

    pub short-leaf : l ≡ s + 1 → (v : ℕ) → v ≡ head_at (cells_of code) s → v < cell_values → Leaf (v % 256) (v / 256)
    short-leaf k v ev b = alone-leaf (nests_in (w % 256) nest) code values base s l stands-inside k v ev b

    enters : (x : ℤ) → SFits w64 x → EvaluatedUnder (nests_in (w % 256) nest) code values base s l x → (z : ℤ) → SFits w64 z → Closed values base w (read x) z → Entered nest code values base at w l (read z)
    enters x sx v z sz k =
        let d : Closed values base w x z = rw (to_z-of_z sx) at k in
        rw (to_z-of_z sz) (record {
          is = λ c t u e g. d.is c t u g (v.is c t (ap (λ (j : ℕ). term_under (nests_in (w % 256) nest) c code j l) es ∙ e));
          small = d.small;
        })

    pub entered-short : l ≡ s + 1 → (v : ℕ) → v ≡ head_at (cells_of code) s → (x : ℤ) → SFits w64 x → Read values base (v % 256) (v / 256) x → (z : ℤ) → SFits w64 z
        → Closed values base w (read x) z → Entered nest code values base at w l (read z)
    entered-short k v ev x sx r z sz d = enters x sx (alone-evaluated (nests_in (w % 256) nest) code values base s l stands-inside k v ev x r) z sz d

    -- the call on what stands inside: fewer words, and in parentheses and braces one nesting less
    module _ (left : ℕ) (el : left ≡ nests_in (w % 256) nest) where
      pub inside-stands : StandsUnder left code s l
      inside-stands = subst (λ (d : ℕ). StandsUnder d code s l) (sym el) stands-inside

      pub inside-less : (l - s) * 3 + 1 + left < (l - at) * 3 + nest
      inside-less = omega (arith, opens-low s es, inside-room, nests-low, el)

      pub entered : (x : ℤ) → SFits w64 x → EvaluatedUnder left code values base s l x → (z : ℤ) → SFits w64 z → Closed values base w (read x) z → Entered nest code values base at w l (read z)
      entered x sx v z sz k = enters x sx (subst (λ (d : ℕ). EvaluatedUnder d code values base s l x) el v) z sz k

  pub at_room : at + 2 ≤ l
  at_room = omega (arith, opens-low (opens_at (w % 256) at) refl, inside-room (opens_at (w % 256) at) refl)

-- ---- whether an expression is one operator between two words
module _ (code : List ℕ) (from to : ℕ) where
  pub shorts-not : Shorts code from to false
  shorts-not = record { end = λ q. absurd (subst T (sym q) tt); first = λ q. absurd (subst T (sym q) tt); carried = λ q. absurd (subst T (sym q) tt) }

  pub shorts-told : (r : Bool) → Shorts code from to r → r ≡ true → Shorts code from to true
  shorts-told r s q = subst (Shorts code from to) q s

  module _ (nest : ℕ) (sd : StandsUnder nest code from to) where
    pub shorts-first : from * 8 + 8 ≤ length code
    shorts-first = stands-in nest code code 0 from to sd

    module _ (l : to ≡ from + 3) (w : ℕ) (ew : w ≡ head_at (cells_of code) from) (h : w % 256 ≤ 3) where
      pub shorts-second : (from + 1) * 8 + 8 ≤ length code
      shorts-second = second-in nest code code 0 from to sd l w ew h

      pub shorts-is : (x : ℕ) → x ≡ head_at (cells_of code) (from + 1) → (x / 16 % 4 ≡ 0 → ⊥) → Shorts code from to true
      shorts-is x ex k = record {
        end = λ q. l;
        first = λ q. omega (arith, ew);
        carried = λ q z. k (omega (arith, ex));
      }
