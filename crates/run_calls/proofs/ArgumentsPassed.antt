-- The arguments of a call, one after the other.
use mathlib.Core.Path.{◌≡◌, refl, sym, ap, ap₂, subst, ◌∙◌}
use mathlib.Core.Bool.{Bool, true, false, not}
use mathlib.Core.List.{List, [], ◌∷◌, ◌++◌, map, append-nil}
use mathlib.Core.Option.{some}
use Prim.Native.Nat.{ℕ, zero, suc, ◌+◌, ◌-◌, ◌*◌, ◌/◌, ◌%◌, ◌<◌, ◌≤◌}
use native.Mathlib.Omega.{arith}
use lib.Dec.{eqb}
use lib.ListN.{length, get_or, set, length-append, get_or-eq_default}
use lib.Seq.{append_snoc}
use lib.IntN.{ℤ, pos, nat_abs}
use lib.Signed.{lt_z, le_z}
use mir.Syntax.{w32, w64}
use mir.Val.{Fits, SFits, to_z, of_z}
use mir.Facts.{to_z-of_z}
use mir.ValLaws.{to_z_pos}
use borrow.Author.Tests.{eq-eqb, ne_eqb, eqb-true, eqb-false, not-true, not-false}
use Rattle.laws.proofs.Tests.{test, by-same, false-true}
use Rattle.paper.specs.Numbers.{Value, error}
use Rattle.paper.specs.Terms.{Term, Memory, worth}
use Rattle.paper.specs.States.{State, Effect, with_value, with_values}
use Rattle.store_cells.specs.Cells.{cells_of}
use Rattle.store_cells.proofs.Laws.{length-words}
use Rattle.store_numbers.proofs.Whole.{read}
use Rattle.code.specs.Cells.{head_at, op_at, link_at, first_window, window_cells, errno_cell, op_in}
use Rattle.code.specs.Spans.{memory_in}
use Rattle.code.specs.Steps.{Head, parts, a_next_argument, arguments_in, any_arguments}
use Rattle.store_evaluation.specs.Answers.{first_error, first_negative, decoded, Counts, term_of, memory_of, Stores, Stands, Evaluated}
use Rattle.store_evaluation.proofs.Numbers.{is-value, is-error}
use Rattle.store_evaluation.proofs.Places.{op-in}
use Rattle.store_reading.specs.Reading.{half_end, Part, Stored}
use Rattle.run_starting.specs.Starting.{Holding}
use Rattle.run_calls.specs.Calling.{Let, Passes, given, raises, Passed}
use Rattle.run_machine.proofs.Actions.{argument-more, argument-last, arguments-some, no_arguments, some-arguments}
use Rattle.run_machine.proofs.Agreeing.{set_same, part_same}
use Rattle.raised.proofs.Raised.{worth-error}
use Rattle.run_machine.proofs.Current.{error-is, told-error, told-value}
use Rattle.run_machine.proofs.Hops.{hops, hops-on, hops-end, hops-less}
use Rattle.layout.specs.Answers.{answers}
use Rattle.layout.specs.Named.{store_bytes}
use Rattle.paper.specs.Words.{word_limit}
use Rattle.run_starting.proofs.CellsWritten.{holding-one}

-- ---- two numbers in one
pub packed-is : (low high : ℕ) → low < answers → high < answers → to_z w64 (low + answers * high) ≡ pos (low + answers * high)
packed-is low high a b = to_z_pos w64 (low + answers * high) (omega arith)

-- ---- a comma
pub comma-in : (code : List ℕ) (b w : ℕ) → w ≡ head_at (cells_of code) b → eqb (op_in w) a_next_argument ≡ eqb (op_at (cells_of code) b) a_next_argument
comma-in code b w e = ap (λ (x : ℕ). eqb (op_in x) a_next_argument) e

pub comma-past : (code : List ℕ) (b : ℕ) → length code ≡ store_bytes → word_limit ≤ b → false ≡ eqb (op_at (cells_of code) b) a_next_argument
comma-past code b l h =
    let z : head_at (cells_of code) b ≡ 0 = get_or-eq_default (cells_of code) 0 (omega (arith, length-words code)) in
    sym (ap (λ (x : ℕ). eqb (op_in x) a_next_argument) z)

-- ---- one with its value
module _ (before : List ℕ) (room : Bool) (n : ℕ) (v : ℤ) (s : SFits w64 v) where
  pub let-stored : room ≡ true → (after : List ℕ) → Stored before after n (read v) → Let before after room n v
  let-stored h after st = record {
    long = st.long;
    stored = λ e. rw (to_z-of_z s) at st;
    same = λ e. false-true (sym e ∙ h);
  }

  pub let-same : room ≡ false → Let before before room n v
  let-same h = record { long = refl; stored = λ e. false-true (sym h ∙ e); same = λ e. refl }

-- ---- the memory that they are worked out in
module _ (c : Counts) (before now : List ℕ) (base : ℕ) (long : length now ≡ length before) (low : first_window ≤ base) (below : (k : ℕ) → k < base + window_cells → get_or (cells_of now) k 0 ≡ get_or (cells_of before) k 0) where
  words_long : length (cells_of now) ≡ length (cells_of before)
  words_long = length-words now ∙ ap (λ (k : ℕ). k / 4) long ∙ sym (length-words before)

  pub memory-same : memory_of c now base ≡ memory_of c before base
  unfolding memory_in
  memory-same = λ j. record {
    module-words = map (to_z w32) (part_same (cells_of before) (cells_of now) words_long 0 c.m (λ k x y. below k (omega (arith, c.most))) j);
    routine-words = map (to_z w32) (part_same (cells_of before) (cells_of now) words_long base c.n (λ k x y. below k (omega (arith, c.window))) j);
    error-number = below errno_cell (omega arith) j;
  }

-- ---- how many are left
module _ (C : List ℕ) where
  abbrev pub is_comma : ℕ → Bool
  is_comma j = eqb (op_at C j) a_next_argument

  abbrev pub arguments_left : ℕ → ℕ
  arguments_left j = hops is_comma (link_at C) parts j

  module _ (m n : ℕ) (function : Bool) (text : List ℕ) (R : List Head) where
    enough : (f a b : ℕ) (es : List Term) (closes : ℕ) → arguments_in m n function text R C (suc f) a b ≡ some (es, closes) → hops is_comma (link_at C) (suc f) b < suc f
    enough zero a b es closes e =
        by-same (op_at C b) a_next_argument
        (λ q. let g = argument-more m n function text R C a b es closes zero e q in absurd (omega (arith, arguments-some m n function text R C (b + 1) (link_at C b) g.rest closes zero g.more)))
        (λ q. omega (arith, hops-end is_comma (link_at C) zero b (ne_eqb (op_at C b) a_next_argument q)))
    enough (suc f) a b es closes e =
        by-same (op_at C b) a_next_argument
        (λ q.
        let g = argument-more m n function text R C a b es closes (suc f) e q in
        omega (arith, hops-on is_comma (link_at C) (suc f) b (eq-eqb (op_at C b) a_next_argument q), enough f (b + 1) (link_at C b) g.rest closes g.more))
        (λ q. omega (arith, hops-end is_comma (link_at C) (suc f) b (ne_eqb (op_at C b) a_next_argument q)))

    pub argument-less : (f a b : ℕ) (es : List Term) (closes : ℕ) → arguments_in m n function text R C (suc f) a b ≡ some (es, closes) → suc f ≤ parts → op_at C b ≡ a_next_argument → arguments_left (link_at C b) < arguments_left b
    argument-less zero a b es closes e l q =
        let g = argument-more m n function text R C a b es closes zero e q in
        absurd (omega (arith, arguments-some m n function text R C (b + 1) (link_at C b) g.rest closes zero g.more))
    argument-less (suc f) a b es closes e l q =
        let g = argument-more m n function text R C a b es closes (suc f) e q in
        hops-less is_comma (link_at C) (suc f) parts b (eq-eqb (op_at C b) a_next_argument q) (enough f (b + 1) (link_at C b) g.rest closes g.more) (omega arith)

-- ---- the loop over them
module _ (code before : List ℕ) (base : ℕ) (room : Bool) where
  -- what is left, from a on, the first up to b; those done have the values zs
  pub record Left (c : Counts) (function : Bool) (text : List ℕ) (R : List Head) (es : List Term) (closes : ℕ) (now : List ℕ) (a b n : ℕ) : Type 0 where
    pub f : ℕ
    pub fuel : suc f ≤ parts
    pub rest : List Term
    pub reads : arguments_in c.m c.n function text R (cells_of code) (suc f) a b ≡ some (rest, closes)
    pub zs : List ℤ
    pub count : length zs + length rest ≡ length es
    pub next : n ≡ base + window_cells + length zs
    pub goes : (S : State) (go : List ℤ → Effect) → with_values (memory_of c before base) es S go ≡ with_values (memory_of c before base) rest S (λ ys. go (zs ++ ys))
    pub holds : room ≡ true → Holding (cells_of now) (base + window_cells) zs

  pub record Passing (first end : ℕ) (now : List ℕ) (a b n : ℕ) : Type 0 where
    pub asks : Passes code before base first end room
    pub long : length now ≡ length before
    pub below : (c : ℕ) → c < base + window_cells → get_or (cells_of now) c 0 ≡ get_or (cells_of before) c 0
    pub idle : room ≡ false → cells_of now ≡ cells_of before
    pub small : b < answers
    pub left : (c : Counts) (function : Bool) (text : List ℕ) (R : List Head) (es : List Term) (closes : ℕ) → any_arguments c.m c.n function text R (cells_of code) first end ≡ some (es, closes)
        → Left c function text R es closes now a b n

  module _ (first end : ℕ) (p : Passes code before base first end room) where
    pub next_small : base + window_cells < answers
    next_small = omega (arith, p.high)

    pub none_passed : first ≡ end → (r : ℤ) → SFits w64 r → r ≡ pos (end + answers * (base + window_cells)) → Passed code before before base first end room (read r)
    unfolding with_values
    none_passed h r s e = rw (to_z-of_z s) (record {
      long = refl;
      below = λ c x. refl;
      idle = λ x. refl;
      is = λ c f t R es closes q.
          let g = no_arguments c.m c.n f t R (cells_of code) first end es closes h q in
          given [] (sym (ap length g.es-is)) (λ S go. ap (λ (l : List Term). with_values (memory_of c before base) l S go) g.es-is) (λ x. refl) (omega (arith, g.closes-is, p.small))
          (e ∙ ap pos (omega (arith, g.closes-is, ap length g.es-is)));
    })

    pub passing : (first ≡ end → ⊥) → Passing first end before first end (base + window_cells)
    passing h = record {
      asks = p;
      long = refl;
      below = λ c x. refl;
      idle = λ x. refl;
      small = p.small;
      left = λ c f t R es closes q. record {
        f = parts - 1;
        fuel = omega arith;
        rest = es;
        reads = some-arguments c.m c.n f t R (cells_of code) first end es closes h q;
        zs = [];
        count = omega arith;
        next = omega arith;
        goes = λ S go. refl;
        holds = λ x. refl;
      };
    }

  module _ (first end : ℕ) (now : List ℕ) (a b n : ℕ) (g : Passing first end now a b n) where
    whole : length code % 8 ≡ 0
    whole = rw g.asks.code-size

    ghost : Left g.asks.c g.asks.function g.asks.text g.asks.R g.asks.es g.asks.closes now a b n
    ghost = g.left g.asks.c g.asks.function g.asks.text g.asks.R g.asks.es g.asks.closes g.asks.reads

    -- the next one
    record First (c : Counts) (function : Bool) (text : List ℕ) (R : List Head) (es : List Term) (closes : ℕ) (l : Left c function text R es closes now a b n) : Type 0 where
      pub e : Term
      pub reads : term_of c code a b ≡ some e
      pub others : List Term
      pub is : l.rest ≡ e ∷ others

    first_of : (c : Counts) (function : Bool) (text : List ℕ) (R : List Head) (es : List Term) (closes : ℕ) (l : Left c function text R es closes now a b n) → First c function text R es closes l
    first_of c f t R es closes l =
        by-same (op_at (cells_of code) b) a_next_argument
        (λ q. let x = argument-more c.m c.n f t R (cells_of code) a b l.rest closes l.f l.reads q in record { e = x.e; reads = x.reads; others = x.rest; is = x.es-is })
        (λ q. let x = argument-last c.m c.n f t R (cells_of code) a b l.rest closes l.f l.reads q in record { e = x.e; reads = x.reads; others = []; is = x.es-is })

    ghost-first : First g.asks.c g.asks.function g.asks.text g.asks.R g.asks.es g.asks.closes ghost
    ghost-first = first_of g.asks.c g.asks.function g.asks.text g.asks.R g.asks.es g.asks.closes ghost

    count-is : length ghost.zs < length g.asks.es
    count-is = omega (arith, ghost.count, ap length ghost-first.is)

    pub pass-stores : Stores now base
    pass-stores = record {
      words = omega (arith, g.long, g.asks.stores.words);
      call = omega (arith, g.long, g.asks.stores.call);
      number = subst (λ (k : ℕ). k < first_negative) (sym (g.below errno_cell (omega (arith, g.asks.low)))) g.asks.stores.number;
    }

    pub pass-stands : Stands code a b
    pass-stands = record { c = g.asks.c; t = ghost-first.e; is = ghost-first.reads; whole = whole }

    pub pass-inside : room ≡ true → n * 4 + 4 ≤ length now
    pass-inside h = omega (arith, g.asks.cells h, ghost.next, count-is, g.asks.few, g.long)

    pub pass-next : n + 1 < answers
    pass-next = omega (arith, g.asks.high, ghost.next, count-is, g.asks.few)

    -- the word that ends it is a comma, or none
    module _ (y : Bool) (ey : y ≡ eqb (op_at (cells_of code) b) a_next_argument) where
      comma-is : not y ≡ false → op_at (cells_of code) b ≡ a_next_argument
      comma-is t = eqb-true (op_at (cells_of code) b) a_next_argument (sym ey ∙ not-false y t)

      no-comma : not y ≡ true → op_at (cells_of code) b ≡ a_next_argument → ⊥
      no-comma t = eqb-false (op_at (cells_of code) b) a_next_argument (sym ey ∙ not-true y t)

      pub comma-inside : not y ≡ false → b * 8 + 8 ≤ length code
      comma-inside t = op-in code b whole (λ z. omega (arith, comma-is t))

      pub comma-next : not y ≡ false → Fits w64 (b + 1)
      comma-next t = record { fits = omega (arith, g.small) }

      pub comma-less : not y ≡ false → (l : ℕ) → Part half_end (link_at (cells_of code) b) l → arguments_left (cells_of code) l < arguments_left (cells_of code) b
      comma-less t l el =
          subst (λ (j : ℕ). arguments_left (cells_of code) j < arguments_left (cells_of code) b) (sym el.same)
          (argument-less (cells_of code) g.asks.c.m g.asks.c.n g.asks.function g.asks.text g.asks.R ghost.f a b ghost.rest g.asks.closes ghost.reads ghost.fuel (comma-is t))

    module _ (v : ℤ) (s : SFits w64 v) (ev : Evaluated code now base a b v) where
      worth-is : (c : Counts) (t : Term) → term_of c code a b ≡ some t → worth (memory_of c before base) t ≡ decoded v
      worth-is c t e = ap (λ (M : Memory). worth M t) (sym (memory-same c before now base g.long g.asks.low g.below)) ∙ sym (ev.is c t e)

      pub pass-fails : le_z (pos first_error) (read v) ≡ true → Passed code before now base first end room (read v)
      unfolding with_values with_value
      pass-fails h =
          let k = told-error v s h in
          rw (to_z-of_z s) (record {
            long = g.long;
            below = g.below;
            idle = g.idle;
            is = λ c f t R es closes q.
                let l = g.left c f t R es closes q in
                let x = first_of c f t R es closes l in
                let M = memory_of c before base in
                let e : worth M x.e ≡ error (nat_abs v - first_error) = worth-is c x.e x.reads ∙ is-error v k in
                raises (nat_abs v - first_error) (worth-error M x.e (nat_abs v - first_error) e)
                (λ S go.
                l.goes S go ∙ ap (λ (y : List Term). with_values M y S (λ ys. go (l.zs ++ ys))) x.is
                ∙ ap (λ (y : Value). with_value y S (λ z. with_values M x.others S (λ ys. go (l.zs ++ (z ∷ ys))))) e)
                (error-is v k);
          })

      module _ (h : le_z (pos first_error) (read v) ≡ false) where
        value-is : lt_z v (pos first_error) ≡ true
        value-is = told-value v s h

        small : SFits w32 v
        small = ev.small value-is

        pub pass-small : SFits w32 (read v)
        pass-small = rw (to_z-of_z s) small

        module _ (after : List ℕ) (lt : Let now after room n (read v)) where
          stored : room ≡ true → Stored now after n v
          stored r = rw (to_z-of_z s) at (lt.stored r)

          long-is : length after ≡ length before
          long-is = lt.long ∙ g.long

          below-is : (c : ℕ) → c < base + window_cells → get_or (cells_of after) c 0 ≡ get_or (cells_of before) c 0
          below-is c k =
              test room
              (λ r. ap (λ (X : List ℕ). get_or X c 0) (stored r).words ∙ set_same (cells_of now) n (of_z w32 v) c (λ q. omega (arith, ghost.next)) ∙ g.below c k)
              (λ r. ap (λ (x : List ℕ). get_or (cells_of x) c 0) (lt.same r) ∙ g.below c k)

          idle-is : room ≡ false → cells_of after ≡ cells_of before
          idle-is r = ap cells_of (lt.same r) ∙ g.idle r

          -- one more has its value
          module _ (c : Counts) (f : Bool) (t : List ℕ) (R : List Head) (es : List Term) (closes : ℕ) (l : Left c f t R es closes now a b n)
              (e : Term) (reads : term_of c code a b ≡ some e) (others : List Term) (is : l.rest ≡ e ∷ others) where
            goes-on : (S : State) (go : List ℤ → Effect) → with_values (memory_of c before base) es S go ≡ with_values (memory_of c before base) others S (λ ys. go ((l.zs ++ (v ∷ [])) ++ ys))
            unfolding with_values with_value
            goes-on S go =
                let M = memory_of c before base in
                l.goes S go ∙ ap (λ (y : List Term). with_values M y S (λ ys. go (l.zs ++ ys))) is
                ∙ ap (λ (y : Value). with_value y S (λ z. with_values M others S (λ ys. go (l.zs ++ (z ∷ ys))))) (worth-is c e reads ∙ is-value v value-is)
                ∙ sym (λ j. with_values M others S (λ ys. go (append_snoc l.zs v ys j)))

            holds_on : room ≡ true → Holding (cells_of after) (base + window_cells) (l.zs ++ (v ∷ []))
            holds_on r =
                subst (λ (X : List ℕ). Holding X (base + window_cells) (l.zs ++ (v ∷ []))) (sym ((stored r).words ∙ ap (λ (k : ℕ). set (cells_of now) k (of_z w32 v)) l.next))
                (holding-one (cells_of now) (base + window_cells) l.zs (of_z w32 v) v (l.holds r) (omega (arith, pass-inside r, length-words now, l.next)) (to_z-of_z small))

            zs-count : length (l.zs ++ (v ∷ [])) ≡ length l.zs + 1
            zs-count = length-append l.zs (v ∷ [])

          module _ (y : Bool) (ey : y ≡ eqb (op_at (cells_of code) b) a_next_argument) where
            pub pass-last : not y ≡ true → (r : ℤ) → SFits w64 r → r ≡ pos (b + answers * (n + 1)) → Passed code before after base first end room (read r)
            unfolding with_values
            pass-last u r sr er = rw (to_z-of_z sr) (record {
              long = long-is;
              below = below-is;
              idle = idle-is;
              is = λ c f t R es closes q.
                  let l = g.left c f t R es closes q in
                  let x = argument-last c.m c.n f t R (cells_of code) a b l.rest closes l.f l.reads (no-comma y ey u) in
                  let k = zs-count c f t R es closes l x.e x.reads [] x.es-is in
                  given (l.zs ++ (v ∷ [])) (omega (arith, k, l.count, ap length x.es-is))
                  (λ S go. goes-on c f t R es closes l x.e x.reads [] x.es-is S go ∙ ap go (append-nil (l.zs ++ (v ∷ []))))
                  (holds_on c f t R es closes l x.e x.reads [] x.es-is) (omega (arith, g.small, x.closes-is))
                  (er ∙ ap pos (omega (arith, x.closes-is, l.next, l.count, ap length x.es-is)));
            })

            pub pass_on : not y ≡ false → (b' : ℕ) → Part half_end (link_at (cells_of code) b) b' → Passing first end after (b + 1) b' (n + 1)
            pass_on u b' el = record {
              asks = g.asks;
              long = long-is;
              below = below-is;
              idle = idle-is;
              small = el.small;
              left = λ c f t R es closes q.
                  let l = g.left c f t R es closes q in
                  let x = argument-more c.m c.n f t R (cells_of code) a b l.rest closes l.f l.reads (comma-is y ey u) in
                  let k : l.f ≡ suc (l.f - 1) = omega (arith, arguments-some c.m c.n f t R (cells_of code) (b + 1) (link_at (cells_of code) b) x.rest closes l.f x.more) in
                  let z = zs-count c f t R es closes l x.e x.reads x.rest x.es-is in
                  record {
                    f = l.f - 1;
                    fuel = omega (arith, l.fuel);
                    rest = x.rest;
                    reads = ap₂ (λ (i j : ℕ). arguments_in c.m c.n f t R (cells_of code) i (b + 1) j) (sym k) el.same ∙ x.more;
                    zs = l.zs ++ (v ∷ []);
                    count = omega (arith, z, l.count, ap length x.es-is);
                    next = omega (arith, z, l.next);
                    goes = goes-on c f t R es closes l x.e x.reads x.rest x.es-is;
                    holds = holds_on c f t R es closes l x.e x.reads x.rest x.es-is;
                  };
            }
