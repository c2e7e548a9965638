-- Arguments one after another, each against its parameter.
use mathlib.Core.Path.{◌≡◌, refl, sym, ap, ap₂, subst, ◌∙◌}
use mathlib.Core.Bool.{false}
use mathlib.Core.List.{List, [], ◌∷◌, ◌++◌, map, append_assoc}
use Prim.Native.Nat.{ℕ, suc, ◌+◌, ◌*◌, ◌<◌, ◌≤◌}
use native.Mathlib.Omega.{arith}
use lib.ListN.{length, length-append}
use Rattle.laws.proofs.Tests.{by-same, by_less}
use Rattle.paper.specs.Sorts.{comma}
use Rattle.paper.specs.Words.{Word, word_limit}
use Rattle.paper.specs.Terms.{Term}
use Rattle.paper.specs.Trees.{Expr, first}
use Rattle.paper.specs.Expressions.{level_of, nestings, disjunctions}
use Rattle.paper.specs.Names.{DataType, sort_in}
use Rattle.paper.specs.Types.{Fault, judge, of_type, term_of}
use Rattle.paper.specs.Checks.{argument_faults}
use Rattle.store_cells.specs.Cells.{cells_of}
use Rattle.code.specs.Cells.{op_in, value_in, link_in, op_at, link_at}
use Rattle.code.specs.Steps.{a_next_argument}
use Rattle.code.specs.Signatures.{type_at, types_at}
use Rattle.code.proofs.Spanning.{span-grows}
use Rattle.grammar.specs.Form.{Parses, ExprAt, SeparatedAt}
use Rattle.grammar.proofs.Places.{exprs-grow}
use Rattle.grammar.proofs.Inversions.{FirstOf, separated_first}
use Rattle.check_expressions.specs.Judgements.{Judged}
use Rattle.std.specs.Prelude.{Ok, Err}
use Rattle.layout.specs.Broken.{as_fault}
use Rattle.layout.specs.declared.rules.Breach.{Breach}
use Rattle.check_expressions.specs.Known.{Loaded}
use Rattle.store_writing.specs.Promises.{Kept, Linked}
use Rattle.check_expressions.specs.Answers as expressions
use Rattle.store_writing.proofs.Keeping.{cell_below, head-below, head-above, place-above, kept_same, kept-wider, kept_on, term-below, term-above}
use Rattle.check_expressions.proofs.FaultsOfParts.{append-none}
use Rattle.check_expressions.proofs.Starts.{loaded-part, loaded-after}
use Rattle.faults.specs.First.{Inside, First}
use Rattle.faults.proofs.First.{every-none, widen, first-before}
use Rattle.faults.proofs.Expressions.{grows, of-type-inside}
use Rattle.faults.proofs.Statements.{exprs-inside}
use Rattle.check_links.specs.Resolved.{is_led, goes_by_link, goes_by_value, goes_by_place}
use Rattle.check_links.specs.Raw.{Quiet}
use Rattle.check_around.specs.Around.{Around, Unread, Apart}
use Rattle.check_simple.specs.Parts.{passed, Passed, Reads, reads-one, reads_more, Rest, More, MoreJudged}
use Rattle.check_simple.proofs.Expressions.{no-operator, level-comma, quiet-below, quiet-above, Told, asks, told, told-first, answer-first, answer-fine}
use Rattle.layout.specs.declared.types.ValueType.{ValueType}

-- ---- words that are not changed
pub link-below : {before after : List ℕ} {x y : ℕ} → Kept before after x y → (i : ℕ) → i < x → link_at (cells_of after) i ≡ link_at (cells_of before) i
link-below k i h = ap link_in (cell_below k (i * 2 + 1) (omega arith))

pub unread-part : (W : List Word) (code : List ℕ) (at to a b : ℕ) → Unread W code at to → at ≤ a → b ≤ to → Unread W code a b
unread-part W code at to a b u h g = record {
  loaded = loaded-part W code at to a b u.loaded h g;
  strings = λ i l m. u.strings i (omega arith) (omega arith);
  places = λ i l m. u.places i (omega arith) (omega arith);
}

pub unread-after : (W : List Word) (code after : List ℕ) (from to a b : ℕ) → Unread W code a b → Kept code after from to → to ≤ a → Unread W after a b
unread-after W code after from to a b u k h = record {
  loaded = loaded-after W code after from to a b u.loaded k h;
  strings = λ i l m s. ap (λ (w : ℕ). value_in w) (head-above k i (omega arith)) ∙ u.strings i l m s;
  places = λ i l m. place-above k i (omega arith) ∙ u.places i l m;
}

-- what has changed from x up to y only is the same outside of more
pub apart-kept : {before after : List ℕ} {x y : ℕ} (k : Kept before after x y) (D : List ℕ) (a b c d : ℕ) → Apart (cells_of after) D a b → c ≤ a → b ≤ d → c ≤ x → y ≤ d + 1
    → Apart (cells_of before) D c d
apart-kept k D a b c d p ca bd cx yd = record {
  below = λ i h. p.below i (omega arith) ∙ head-below k i (omega arith);
  above = λ i h. p.above i (omega arith) ∙ head-above k i (omega arith);
}

pub apart-same : (C : List ℕ) (a b : ℕ) → Apart C C a b
apart-same C a b = record { below = λ i h. refl; above = λ i h. refl }

-- ---- terms that have been read
module _ (m n : ℕ) where
  pub reads-grow : (C : List ℕ) (a b : ℕ) {us : List Term} {z : ℕ} → Reads m n C a b us z → a + length us ≤ z
  reads-grow C a b (reads-one {t = t} e h) = omega (arith, e, span-grows m n C a b t h)
  reads-grow C a b (reads_more {us = us} {y = y} {z = z} t r o l h e) =
      omega (arith, reads-grow C a b r, span-grows m n C (y + 1) z t h, ap length e, length-append us (t ∷ []))

  pub reads-below : {before after : List ℕ} {x y : ℕ} → Kept before after x y → (a b : ℕ) {us : List Term} {z : ℕ} → z ≤ x → Reads m n (cells_of before) a b us z → Reads m n (cells_of after) a b us z
  reads-below k a b h (reads-one {t = t} e q) = reads-one e (term-below k m n a b t (omega (arith, e, h)) q)
  reads-below {before} k a b h (reads_more {y = y} {z = z} t r o l q e) =
      let g = span-grows m n (cells_of before) (y + 1) z t q in
      reads_more t (reads-below k a b (omega (arith, g, h)) r)
      (ap op_in (head-below k y (omega (arith, g, h))) ∙ o) (link-below k y (omega (arith, g, h)) ∙ l) (term-below k m n (y + 1) z t h q) e

-- ---- words that lead nowhere
pub quiet-append : (C : List ℕ) (a b c : ℕ) → Quiet C a b → Quiet C b c → Quiet C a c
quiet-append C a b c p q i l h = by_less i b (λ g. p i l g) (λ g. q i g h)

pub quiet_word : (C : List ℕ) (i : ℕ) → is_led (op_at C i) ≡ false → Quiet C i (i + 1)
quiet_word C i e j l h = let q : j ≡ i = omega arith in ap (λ (k : ℕ). is_led (op_at C k)) q ∙ e

comma-still : is_led a_next_argument ≡ false
unfolding is_led goes_by_link goes_by_value goes_by_place
comma-still = refl

-- ---- one argument, up to n
module _ {text values : List ℕ} (around : Around text values) (now : List ℕ) (p at : ℕ) (e : Expr) (n : ℕ)
    (one : ExprAt (sort_in around.known.W) (Parses (sort_in around.known.W)) e at n) (load : Loaded around.known.W now at n) (no : level_of (sort_in around.known.W n) ≡ 0) where
  pub one-asks : expressions.Stands now values disjunctions at
  one-asks = asks around.known around.sorts (suc nestings) at e n one load no (omega arith)

  module _ (mid : List ℕ) (r : Judged) (h : Passed now values mid p at r) where
    pub one-long : length mid ≡ length now
    unfolding one-asks asks
    one-long = (h.is one-asks).kept.long

    passed-faults : (passed (type_at (cells_of now) p) (first e) (judge around.known.W false around.known.S e)).faults ≡ of_type around.known.W (type_at (cells_of now) p) around.known.S e
    unfolding of_type
    passed-faults = refl

    passed-term : (passed (type_at (cells_of now) p) (first e) (judge around.known.W false around.known.S e)).term ≡ term_of around.known.W around.known.S e
    unfolding term_of
    passed-term = refl

    pub one_told : (b : ValueType) (next : ℕ) → r ≡ Ok (b, next) → Told around.known (of_type around.known.W (type_at (cells_of now) p) around.known.S e) now mid e at n next
    unfolding one-asks asks
    one_told b next q =
        told around.known around.sorts (suc nestings) at e n one load no (omega arith) mid (type_at (cells_of now) p) (passed (type_at (cells_of now) p) (first e) (judge around.known.W false around.known.S e)) passed-faults passed-term r
        (h.is one-asks) b next q

    pub one-first : (broken : Breach) → r ≡ Err broken → First (as_fault broken) (of_type around.known.W (type_at (cells_of now) p) around.known.S e)
    unfolding one-asks asks
    one-first broken q =
        told-first around.known around.sorts (suc nestings) at e n one load no (omega arith) mid (type_at (cells_of now) p) (passed (type_at (cells_of now) p) (first e) (judge around.known.W false around.known.S e)) passed-faults passed-term r
        (h.is one-asks) broken q

-- the faults of several, by those of the first
module _ {text values : List ℕ} (around : Around text values) (t : DataType) (ts : List DataType) (e : Expr) (rest : List Expr) (at n z : ℕ)
    (one : ExprAt (sort_in around.known.W) (Parses (sort_in around.known.W)) e at n)
    (more : sort_in around.known.W n ≡ comma → SeparatedAt (sort_in around.known.W) (ExprAt (sort_in around.known.W) (Parses (sort_in around.known.W))) rest (n + 1) z)
    (done : (sort_in around.known.W n ≡ comma → ⊥) → (rest ≡ []) × (z ≡ n)) where
  later-inside : (b : ℕ) → z < b → Inside n b (argument_faults around.known.W around.known.S ts rest)
  unfolding argument_faults
  later-inside b h =
      by-same (sort_in around.known.W n) comma
      (λ c. widen (exprs-inside around.known.W around.known.S ts (more c)) (omega arith) (omega arith))
      (λ c. every-none (ap (argument_faults around.known.W around.known.S ts) (done c).0))

  pub one_then : argument_faults around.known.W around.known.S (t ∷ ts) (e ∷ rest)
      ≡ of_type around.known.W t around.known.S e ++ argument_faults around.known.W around.known.S ts rest
  unfolding argument_faults
  one_then = refl

  pub one-is-first : (f : Fault) → First f (of_type around.known.W t around.known.S e) → First f (argument_faults around.known.W around.known.S (t ∷ ts) (e ∷ rest))
  unfolding argument_faults
  one-is-first f h =
      first-before h (of-type-inside around.known.W (suc nestings) at e n one t around.known.S) (later-inside (suc z) (omega arith)) (omega arith)

  pub one-is-fine : of_type around.known.W t around.known.S e ≡ [] → argument_faults around.known.W around.known.S (t ∷ ts) (e ∷ rest) ≡ argument_faults around.known.W around.known.S ts rest
  unfolding argument_faults
  one-is-fine h = ap (λ (l : List Fault). l ++ argument_faults around.known.W around.known.S ts rest) h

-- what follows it is no operator
pub next_level : {text values : List ℕ} (around : Around text values) (n z : ℕ) (rest : List Expr)
    → ((sort_in around.known.W n ≡ comma → ⊥) → (rest ≡ []) × (z ≡ n)) → level_of (sort_in around.known.W z) ≡ 0 → level_of (sort_in around.known.W n) ≡ 0
next_level around n z rest ended low =
    by-same (sort_in around.known.W n) comma (λ c. no-operator _ _ c level-comma) (λ c. ap (λ (i : ℕ). level_of (sort_in around.known.W i)) (sym (ended c).1) ∙ low)

-- ---- one argument more
pub types-next : (D : List ℕ) (k i : ℕ) → types_at D (suc k) i ≡ type_at D i ∷ types_at D k (i + 3)
unfolding types_at
types-next D k i = refl

pub same-tail : {A : Type 0} (x y : A) (xs ys : List A) → x ∷ xs ≡ y ∷ ys → xs ≡ ys
same-tail x y xs ys e = cc

module _ {text values : List ℕ} (around : Around text values) (a b₀ z : ℕ) (now : List ℕ) (q end : ℕ) (us : List Term) (rest : List Expr) (ts : List DataType)
    (r : Rest around a b₀ z now q end us rest ts) where
  pub rest-sort : op_at (cells_of now) end ≡ sort_in around.known.W end
  rest-sort = (r.unread.loaded.words end (omega arith) r.inside).sort

  pub rest-room : end * 8 + 8 ≤ length now
  rest-room = omega (arith, r.unread.loaded.room, r.inside)

  module _ (c : sort_in around.known.W end ≡ comma) where
    pub next : FirstOf (sort_in around.known.W) (ExprAt (sort_in around.known.W) (Parses (sort_in around.known.W))) rest (end + 1) z
    next = separated_first (sort_in around.known.W) (ExprAt (sort_in around.known.W) (Parses (sort_in around.known.W))) (r.more c)

    next-on : end + 1 < next.n
    next-on = grows around.known.W (suc nestings) (end + 1) next.a next.n next.one

    next-in : next.n ≤ z
    next-in =
        by-same (sort_in around.known.W next.n) comma
        (λ d. omega (arith, exprs-grow (sort_in around.known.W) (Parses (sort_in around.known.W)) (grows around.known.W) (next.more d)))
        (λ d. omega (arith, (next.done d).1))

    next-load : Loaded around.known.W now (end + 1) next.n
    next-load = loaded-part around.known.W now end z (end + 1) next.n r.unread.loaded (omega arith) next-in

    next-no : level_of (sort_in around.known.W next.n) ≡ 0
    next-no = next_level around next.n z next.rest next.done r.closes

    pub next-asks : ((q + 3) * 8 + 8 ≤ length now) × expressions.Stands now values disjunctions (end + 1)
    next-asks =
        (omega (arith, r.words, r.room, ap length next.is), one-asks around now (q + 3) (end + 1) next.a next.n next.one next-load next-no)

    -- the types that are left
    pub left : List DataType
    left = types_at (cells_of now) (length next.rest) (q + 3 + 3)

    types_are : (D : List ℕ) → Apart (cells_of now) D end z → type_at D (q + 3) ∷ types_at D (length next.rest) (q + 3 + 3) ≡ ts
    unfolding types_at
    types_are D p = sym (ap (λ (k : ℕ). types_at D k (q + 3)) (ap length next.is)) ∙ r.types D p

    here : type_at (cells_of now) (q + 3) ∷ left ≡ ts
    unfolding left
    here = types_are (cells_of now) (apart-same (cells_of now) end z)

    -- what the faults are, by the next argument
    faults-are : argument_faults around.known.W around.known.S ts rest ≡ argument_faults around.known.W around.known.S (type_at (cells_of now) (q + 3) ∷ left) (next.a ∷ next.rest)
    faults-are = ap₂ (argument_faults around.known.W around.known.S) (sym here) next.is

    module _ (mid : List ℕ) (j : Judged) (h : Passed now values mid (q + 3) (end + 1) j) where
      pub next-long : length mid ≡ length now
      next-long = one-long around now (q + 3) (end + 1) next.a next.n next.one next-load next-no mid j h

      pub next-faulty : (broken : Breach) → j ≡ Err broken → First (as_fault broken) (argument_faults around.known.W around.known.S ts rest)
      next-faulty broken e =
          subst (First (as_fault broken)) (sym faults-are)
          (one-is-first around (type_at (cells_of now) (q + 3)) left next.a next.rest (end + 1) next.n z next.one next.more next.done (as_fault broken)
          (one-first around now (q + 3) (end + 1) next.a next.n next.one next-load next-no mid j h broken e))

      module _ (b : ValueType) (n : ℕ) (e : j ≡ Ok (b, n)) where
        next-told : Told around.known (of_type around.known.W (type_at (cells_of now) (q + 3)) around.known.S next.a) now mid next.a (end + 1) next.n n
        next-told = one_told around now (q + 3) (end + 1) next.a next.n next.one next-load next-no mid j h b n e

        pub next-end : (n < word_limit) × (end < n) × (end * 8 + 8 ≤ length mid) × (n ≤ z)
        next-end =
            (omega (arith, next-told.next-is, next-in, r.unread.loaded.last), omega (arith, next-told.next-is, next-on), omega (arith, rest-room, next-long), omega (arith, next-told.next-is, next-in))

        module _ (after : List ℕ) (l : Linked mid after end a_next_argument 0 n) where
          next-kept : Kept now after end next.n
          next-kept = kept_on (kept-wider next-told.kept end next.n (omega arith) (omega arith)) (kept-wider l.kept end next.n (omega arith) (omega (arith, next-on)))

          next-read : Reads around.known.m around.known.n (cells_of after) a b₀ (us ++ (term_of around.known.W around.known.S next.a ∷ [])) next.n
          next-read =
              reads_more (term_of around.known.W around.known.S next.a) (reads-below around.known.m around.known.n next-kept a b₀ (omega arith) r.read) l.op-is (l.link-is ∙ next-told.next-is)
              (term-above l.kept around.known.m around.known.n (end + 1) next.n (term_of around.known.W around.known.S next.a) (omega arith) next-told.term) refl

          next-quiet : Quiet (cells_of after) a next.n
          next-quiet =
              quiet-append (cells_of after) a end next.n (quiet-below next-kept a end (omega arith) r.quiet)
              (quiet-append (cells_of after) end (end + 1) next.n (quiet_word (cells_of after) end (ap is_led l.op-is ∙ comma-still)) (quiet-above l.kept (end + 1) next.n (omega arith) next-told.quiet))

          pub next-rest : Rest around a b₀ z after (q + 3) n (us ++ (term_of around.known.W around.known.S next.a ∷ [])) next.rest left
          unfolding left
          next-rest =
              subst (λ (i : ℕ). Rest around a b₀ z after (q + 3) i (us ++ (term_of around.known.W around.known.S next.a ∷ [])) next.rest left) (sym next-told.next-is)
              (record {
                read = next-read;
                quiet = next-quiet;
                inside = next-in;
                more = next.more;
                done = next.done;
                closes = r.closes;
                unread = unread-after around.known.W now after end next.n next.n z (unread-part around.known.W now end z next.n z r.unread (omega (arith, next-on)) (omega arith)) next-kept (omega arith);
                types = λ D p. same-tail _ _ _ _ (types_are D (apart-kept next-kept D next.n z end z p (omega (arith, next-on)) (omega arith) (omega arith) (omega (arith, next-in))) ∙ sym here);
                words = omega (arith, r.words, ap length next.is);
                room = omega (arith, r.room, next-kept.long);
              })

          pub next-fine : argument_faults around.known.W around.known.S ts rest ≡ argument_faults around.known.W around.known.S left next.rest
          next-fine =
              faults-are
              ∙ one-is-fine around (type_at (cells_of now) (q + 3)) left next.a next.rest (end + 1) next.n z next.one next.more next.done next-told.none

          pub next-terms : (us ++ (term_of around.known.W around.known.S next.a ∷ [])) ++ map (term_of around.known.W around.known.S) next.rest ≡ us ++ map (term_of around.known.W around.known.S) rest
          next-terms =
              append_assoc us (term_of around.known.W around.known.S next.a ∷ []) (map (term_of around.known.W around.known.S) next.rest)
              ∙ ap (λ (l : List Expr). us ++ map (term_of around.known.W around.known.S) l) (sym next.is)

-- ---- the loop
pub record Along {code values : List ℕ} {p b : ℕ} (g : More code values p b) (now : List ℕ) (q end : ℕ) : Type 0 where
  pub us : List Term
  pub rest : List Expr
  pub ts : List DataType
  pub is : Rest g.around g.a g.b₀ g.z now q end us rest ts
  pub total : us ++ map (term_of g.around.known.W g.around.known.S) rest ≡ g.us ++ map (term_of g.around.known.W g.around.known.S) g.rest
  pub faults : argument_faults g.around.known.W g.around.known.S g.ts g.rest ≡ argument_faults g.around.known.W g.around.known.S ts rest
  pub kept : Kept code now b g.z
  pub from : b ≤ end

pub record Runs (code values now : List ℕ) (p b q end : ℕ) : Type 0 where
  pub is : (g : More code values p b) → Along g now q end

pub runs-first : (code values : List ℕ) (p b : ℕ) → Runs code values code p b p b
runs-first code values p b = record {
  is = λ g. record { us = g.us; rest = g.rest; ts = g.ts; is = g.is; total = refl; faults = refl; kept = kept_same code b g.z; from = omega arith };
}

module _ (code values now : List ℕ) (p b q end : ℕ) (run : Runs code values now p b q end) where
  pub run_room : More code values p b → (end * 8 + 8 ≤ length now) × (end < word_limit) × (q + 3 ≤ word_limit)
  run_room g =
      let r = (run.is g).is in
      (rest-room g.around g.a g.b₀ g.z now q end _ _ _ r, omega (arith, r.inside, r.unread.loaded.last), omega (arith, r.words))

  pub run_long : More code values p b → length now ≡ length code
  run_long g = (run.is g).kept.long

  module _ (s : ℕ) (es : s ≡ op_at (cells_of now) end) where
    here-sort : (g : More code values p b) → s ≡ sort_in g.around.known.W end
    here-sort g = es ∙ rest-sort g.around g.a g.b₀ g.z now q end _ _ _ (run.is g).is

    pub run-done : (s ≡ comma → ⊥) → MoreJudged code values now p b (Ok end)
    unfolding argument_faults
    run-done d = record {
      is = λ g.
          let a = run.is g in
          let f = a.is.done (λ c. d (here-sort g ∙ c)) in
          let terms = term_of g.around.known.W g.around.known.S in
          let all : a.us ≡ g.us ++ map terms g.rest = sym (append-none a.us) ∙ ap (λ (l : List Expr). a.us ++ map terms l) (sym f.0) ∙ a.total in
          answer-fine _ code now b g.z _ end (record {
            none = a.faults ∙ ap (argument_faults g.around.known.W g.around.known.S a.ts) f.0;
            next-is = sym f.1;
            written = record {
              read = subst (λ (l : List Term). Reads g.around.known.m g.around.known.n (cells_of now) g.a g.b₀ l g.z) all
                  (subst (λ (i : ℕ). Reads g.around.known.m g.around.known.n (cells_of now) g.a g.b₀ a.us i) (sym f.1) a.is.read);
              quiet = subst (λ (i : ℕ). Quiet (cells_of now) g.a i) (sym f.1) a.is.quiet;
            };
            kept = a.kept;
          });
    }

    module _ (c : s ≡ comma) where
      comma-here : (g : More code values p b) → sort_in g.around.known.W end ≡ comma
      comma-here g = sym (here-sort g) ∙ c

      pub run-asks : More code values p b → ((q + 3) * 8 + 8 ≤ length now) × expressions.Stands now values disjunctions (end + 1)
      run-asks g = next-asks g.around g.a g.b₀ g.z now q end _ _ _ (run.is g).is (comma-here g)

      module _ (mid : List ℕ) (j : Judged) (h : Passed now values mid (q + 3) (end + 1) j) where
        pub run-long-then : More code values p b → length mid ≡ length code
        run-long-then g = next-long g.around g.a g.b₀ g.z now q end _ _ _ (run.is g).is (comma-here g) mid j h ∙ run_long g

        pub run-faulty : (broken : Breach) → j ≡ Err broken → MoreJudged code values mid p b (Err broken)
        run-faulty broken e = record {
          is = λ g.
              answer-first _ code mid b g.z _ (Err broken) broken refl (run-long-then g)
              (subst (First (as_fault broken)) (sym (run.is g).faults)
              (next-faulty g.around g.a g.b₀ g.z now q end _ _ _ (run.is g).is (comma-here g) mid j h broken e));
        }

        module _ (bool : ValueType) (n : ℕ) (e : j ≡ Ok (bool, n)) where
          pub run_end : More code values p b → (n < word_limit) × (end < n) × (end * 8 + 8 ≤ length mid)
          run_end g =
              let x = next-end g.around g.a g.b₀ g.z now q end _ _ _ (run.is g).is (comma-here g) mid j h bool n e in
              (x.0, x.1, x.2)

          pub run_on : (after : List ℕ) → Linked mid after end a_next_argument 0 n → Runs code values after p b (q + 3) n
          run_on after l = record {
            is = λ g.
                let r = (run.is g).is in
                let x = next-end g.around g.a g.b₀ g.z now q end _ _ _ r (comma-here g) mid j h bool n e in
                record {
                  us = _;
                  rest = _;
                  ts = _;
                  is = next-rest g.around g.a g.b₀ g.z now q end _ _ _ r (comma-here g) mid j h bool n e after l;
                  total = next-terms g.around g.a g.b₀ g.z now q end _ _ _ r (comma-here g) mid j h bool n e after l ∙ (run.is g).total;
                  faults = (run.is g).faults ∙ next-fine g.around g.a g.b₀ g.z now q end _ _ _ r (comma-here g) mid j h bool n e after l;
                  kept = kept_on (run.is g).kept
                      (kept-wider (next-kept g.around g.a g.b₀ g.z now q end _ _ _ r (comma-here g) mid j h bool n e after l) b g.z (run.is g).from
                      (next-in g.around g.a g.b₀ g.z now q end _ _ _ r (comma-here g)));
                  from = omega (arith, (run.is g).from, x.1);
                };
          }
