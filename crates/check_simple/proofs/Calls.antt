-- A call: its arguments are as many as the callee's parameters, and each is of the type of its parameter.
use mathlib.Core.Path.{◌≡◌, refl, sym, ap, ap₂, subst, ◌∙◌}
use mathlib.Core.Bool.{Bool, true, false, not}
use mathlib.Core.List.{List, [], ◌∷◌, ◌++◌, map, append_assoc}
use mathlib.Core.Option.{Option, some}
use Prim.Native.Nat.{ℕ, suc, ◌+◌, ◌-◌, ◌*◌, ◌<◌, ◌≤◌}
use native.Mathlib.Omega.{arith}
use lib.Dec.{eqb}
use lib.ListN.{length, length-append}
use borrow.Author.Tests.{eq-eqb, ne_eqb}
use Rattle.laws.proofs.Tests.{by-same}
use Rattle.std.specs.Prelude.{if◌then◌else◌}
use Rattle.paper.specs.Sorts.{comma, semicolon, FUNC}
use Rattle.paper.specs.Words.{word_limit}
use Rattle.paper.specs.Terms.{Term}
use Rattle.paper.specs.Trees.{Expr}
use Rattle.paper.specs.Expressions.{level_of, nestings, disjunctions}
use Rattle.paper.specs.Names.{DataType, sort_in}
use Rattle.paper.specs.Types.{Fault, fault_if, of_type, term_of}
use Rattle.paper.specs.Checks.{is_some, argument_faults}
use Rattle.store_cells.specs.Cells.{cells_of}
use Rattle.code.specs.Cells.{op_in, value_in, head_at, op_at, value_at, link_at}
use Rattle.code.specs.Spans.{term_in}
use Rattle.code.specs.Steps.{a_next_argument, Head, parts, arguments_in, any_arguments}
use Rattle.code.specs.Signatures.{type_at, types_at, first_parameter}
use Rattle.grammar.specs.Form.{Parses, ExprAt, SeparatedAt, last_one, one_more, ClosedAt, closed-at-once, closed-later}
use Rattle.grammar.proofs.Places.{exprs-grow, arguments-grow}
use Rattle.grammar.proofs.Inversions.{FirstOf, separated_first}
use Rattle.check_expressions.specs.Judgements.{Judged}
use Rattle.std.specs.Prelude.{Ok, Err}
use Rattle.layout.specs.Broken.{as_fault}
use Rattle.layout.specs.declared.rules.Breach.{Breach}
use Rattle.layout.specs.declared.rules.Rule.TheVariants.{Barred, WrongCount}
use Rattle.check_expressions.specs.Known.{Loaded}
use Rattle.store_writing.specs.Promises.{Kept, Linked}
use Rattle.check_expressions.specs.Answers as expressions
use Rattle.store_writing.proofs.Keeping.{head-below, head-above, place-below, kept-wider, kept_on, term-above}
use Rattle.check_expressions.proofs.FaultsOfParts.{append-none}
use Rattle.check_expressions.proofs.Starts.{loaded-part}
use Rattle.faults.specs.First.{First, Leads}
use Rattle.faults.proofs.First.{every-none, first-if, first-left, first-right, leads-later, ranks, leads-same-if}
use Rattle.faults.proofs.Expressions.{grows}
use Rattle.faults.proofs.Statements.{arguments-inside}
use Rattle.check_links.specs.Raw.{Quiet, RawArguments}
use Rattle.check_links.proofs.Moving.{argument-last, argument-next}
use Rattle.check_around.specs.Around.{Around, ground_of, Apart}
use Rattle.check_around.specs.Answers.{Fine, Stepped, Answer, Tell}
use Rattle.check_simple.specs.Parts.{Passed, Reads, reads-one, reads_more, ReadAll, no_arguments, some-arguments, Rest, More, MoreRead, MoreJudged, Counts, Counted, CallSide, signature_for, CallWritten, CallJudged}
use Rattle.check_simple.proofs.Expressions.{no-operator, level-semicolon, level-paren, quiet-above, Told, answer-first, answer-fine}
use Rattle.check_simple.proofs.Callees.{Known, known}
use Rattle.check_simple.proofs.Arguments.{link-below, unread-part, unread-after, apart-kept, apart-same, reads-grow, reads-below, one-asks, one-long, one_told, one-first, one-is-first, one-is-fine, next_level, same-tail}
use Rattle.layout.specs.Rules.{wrong_count, barred}
use Rattle.layout.specs.declared.types.ValueType.{ValueType}

-- ---- terms that have been read are the arguments
module _ (m n : ℕ) (fn : Bool) (text : List ℕ) (R : List Head) (C : List ℕ) where
  data Behind (f : ℕ) (vs : List Term) (z y : ℕ) : Type 0 where
    behind-none : (op_at C z ≡ a_next_argument → ⊥) → vs ≡ [] → y ≡ z → Behind f vs z y
    behind_more : op_at C z ≡ a_next_argument → arguments_in m n fn text R C f (z + 1) (link_at C z) ≡ some (vs, y) → Behind f vs z y

  one-read : (f a b : ℕ) (t : Term) (vs : List Term) (y : ℕ) → term_in m n C a b ≡ some t → Behind f vs b y → arguments_in m n fn text R C (suc f) a b ≡ some (t ∷ vs, y)
  one-read f a b t vs y e (behind-none o v z) = argument-last m n fn text R C f a b t e o ∙ ap₂ {C = Option (List Term × ℕ)} (λ (l : List Term) (i : ℕ). some (t ∷ l, i)) (sym v) (sym z)
  one-read f a b t vs y e (behind_more o h) = argument-next m n fn text R C f a b t e (link_at C b) vs y o refl h

  all_read : (a b : ℕ) {us : List Term} {z : ℕ} → Reads m n C a b us z → (f : ℕ) (vs : List Term) (y : ℕ) → Behind f vs z y → arguments_in m n fn text R C (f + length us) a b ≡ some (us ++ vs, y)
  all_read a b (reads-one {t = t} e h) f vs y k =
      let g : f + 1 ≡ suc f = omega arith in
      ap (λ (i : ℕ). arguments_in m n fn text R C i a b) g ∙ one-read f a b t vs y h (subst (λ (i : ℕ). Behind f vs i y) e k)
  all_read a b (reads_more {us = us} {y = x} {z = z} t r o l h e) f vs y k =
      let next : arguments_in m n fn text R C (suc f) (x + 1) (link_at C x) ≡ some (t ∷ vs, y) = ap (arguments_in m n fn text R C (suc f) (x + 1)) l ∙ one-read f (x + 1) z t vs y h k in
      let g : f + length (us ++ (t ∷ [])) ≡ suc f + length us = omega (arith, length-append us (t ∷ [])) in
      ap (λ (ts : List Term). arguments_in m n fn text R C (f + length ts) a b) e
      ∙ ap (λ (i : ℕ). arguments_in m n fn text R C i a b) g
      ∙ all_read a b r (suc f) (t ∷ vs) y (behind_more o next)
      ∙ ap (λ (ts : List Term). some (ts, y)) (sym (append_assoc us (t ∷ []) vs) ∙ ap (λ (ts : List Term). ts ++ vs) (sym e))

  pub any-read : (a b : ℕ) (us : List Term) (z : ℕ) → Reads m n C a b us z → (op_at C z ≡ a_next_argument → ⊥) → z ≤ word_limit → a < b → any_arguments m n fn text R C a b ≡ some (us, z)
  unfolding any_arguments
  any-read a b us z r o h g =
      let few = reads-grow m n C a b r in
      let q : parts - length us + length us ≡ parts = omega (arith, few) in
      rw (ne_eqb a b (λ e. omega arith), any_arguments)
      (sym (ap (λ (i : ℕ). arguments_in m n fn text R C i a b) q) ∙ all_read a b r (parts - length us) [] z (behind-none o refl refl) ∙ ap (λ (ts : List Term). some (ts, z)) (append-none us))

  pub none_read : (a b : ℕ) → a ≡ b → any_arguments m n fn text R C a b ≡ some ([], b)
  unfolding any_arguments
  none_read a b e = rw (eq-eqb a b e, any_arguments)

pub raw-arguments : {text values : List ℕ} (x : Around text values) (C : List ℕ) (es : List Expr) (a b z : ℕ)
    → ReadAll x.known.m x.known.n C (map (term_of x.known.W x.known.S) es) a b z → Quiet C a z → (op_at C z ≡ a_next_argument → ⊥) → z ≤ word_limit
    → RawArguments (ground_of x) x.known.n C x.known.S es a b z
unfolding ground_of
raw-arguments {text} x C es a b z (no_arguments e f g) q o h = record {
  is = none_read x.known.m x.known.n (is_some x.K.result) text x.R C a b (sym f)
      ∙ ap₂ {C = Option (List Term × ℕ)} (λ (ts : List Term) (i : ℕ). some (ts, i)) (sym e) (f ∙ sym g);
  quiet = q;
}
raw-arguments {text} x C es a b z (some-arguments l r) q o h = record {
  is = any-read x.known.m x.known.n (is_some x.K.result) text x.R C a b _ z r o h l;
  quiet = q;
}

pub read_below : (m n : ℕ) {before after : List ℕ} {x y : ℕ} → Kept before after x y → (ts : List Term) (a b z : ℕ) → z ≤ x → ReadAll m n (cells_of before) ts a b z → ReadAll m n (cells_of after) ts a b z
read_below m n k ts a b z h (no_arguments e f g) = no_arguments e f g
read_below m n k ts a b z h (some-arguments l r) = some-arguments l (reads-below m n k a b h r)

-- ---- answers carried on
pub answer-on : (fs gs : List Fault) (before mid after : List ℕ) (at to x y : ℕ) (P Q : Type 0) (r : Stepped) → Answer fs mid after at to P r → length mid ≡ length before
    → ((f : Fault) → First f fs → First f gs) → ((next : ℕ) → Fine fs mid after at to next P → Fine gs before after x y next Q) → Answer gs before after x y Q r
unfolding Tell
answer-on fs gs before mid after at to x y P Q (Ok next) a l f g = record { tells = g next a.tells; long = a.long ∙ l }
answer-on fs gs before mid after at to x y P Q (Err broken) a l f g = record { tells = f (as_fault broken) a.tells; long = a.long ∙ l }

-- no arguments
none-closed : {W : ℕ → ℕ} {closing : ℕ} {l : List Expr} {at to : ℕ} → ClosedAt W (ExprAt W (Parses W)) closing l at to → length l ≡ 0 → (l ≡ []) × (to ≡ at)
none-closed (closed-at-once c e) z = (refl, e)
none-closed (closed-later f (last_one k d)) z = absurd (omega arith)
none-closed (closed-later f (one_more k c h)) z = absurd (omega arith)

some-closed : {W : ℕ → ℕ} {closing : ℕ} {l : List Expr} {at to : ℕ} → ClosedAt W (ExprAt W (Parses W)) closing l at to → (length l ≡ 0 → ⊥) → SeparatedAt W (ExprAt W (Parses W)) l at to
some-closed (closed-at-once c e) z = absurd (z refl)
some-closed (closed-later f h) z = h

parameter-same : (C D : List ℕ) (h : ℕ) → eqb (op_at C h) FUNC ≡ eqb (op_at D h) FUNC → first_parameter C h ≡ first_parameter D h
unfolding first_parameter
parameter-same C D h e = ap (λ (b : Bool). if b then h + 4 else h + 3) e

-- ---- a call
module _ (code values : List ℕ) (undo : Bool) (h callee first closing : ℕ) (g : CallSide code values undo h callee first closing) where
  pub counts : Counts code first closing
  counts = record { W = g.around.known.W; es = g.es; z = g.z; end = g.end; stand = g.stand; loaded = g.unread.loaded }

  head-known : Known (cells_of code) g.around.R g.around.K.routines h
  head-known = known (cells_of code) g.around.R g.around.K.routines h (g.calls.heads (cells_of code) (apart-same (cells_of code) callee g.end)) g.among

  pub head-here : h * 8 + 8 ≤ length code
  head-here = omega (arith, head-known.low, head-known.inside, g.calls.room)

  pub head_small : h < word_limit
  head_small = omega (arith, head-known.low, head-known.inside)

  call-end : g.z ≤ g.end
  call-end = by-same closing semicolon (λ e. omega (arith, g.stand.at-end e)) (λ d. omega (arith, (g.stand.past_end d).1))

  call-on : first ≤ g.z
  call-on = arguments-grow (sort_in g.around.known.W) (Parses (sort_in g.around.known.W)) (grows g.around.known.W) g.stand.arguments

  call-no : level_of (sort_in g.around.known.W g.z) ≡ 0
  call-no = by-same closing semicolon (λ e. no-operator _ _ (g.stand.closes ∙ e) level-semicolon) (λ d. no-operator _ _ (g.stand.closes ∙ (g.stand.past_end d).0) level-paren)

  pub callee-here : callee * 8 + 8 ≤ length code
  callee-here = omega (arith, g.before, call-on, call-end, g.unread.loaded.room)

  pub first_small : first < word_limit
  first_small = omega (arith, call-on, call-end, g.unread.loaded.last)

  -- the word that closes them is as it was
  pub closes-low : (after : List ℕ) (x : ℕ) → Kept code after x g.z → op_at (cells_of after) g.z ≡ a_next_argument → ⊥
  closes-low after x k e =
      omega (arith, sym (ap op_in (head-above k g.z (omega arith)) ∙ (g.unread.loaded.words g.z call-on call-end).sort) ∙ e, g.around.sorts g.z)

  params : List DataType
  params = (signature_for g.around h).parameters

  abbrev passing : List DataType → List Expr → List Fault
  passing ts es = argument_faults g.around.known.W g.around.known.S ts es

  -- all its faults
  abbrev counting : List Fault
  counting = fault_if (not (eqb (length params) (length g.es))) wrong_count callee

  abbrev called : List Fault
  called = fault_if undo barred callee ++ counting ++ passing params g.es

  -- those of its arguments come later
  passing-later : (number : ℕ) → Leads (record { number = number; at = callee }) (passing params g.es)
  passing-later number = leads-later (record { number = number; at = callee }) (arguments-inside g.around.known.W g.around.known.S params g.stand.arguments) g.before

  module _ (count : ℕ) (c : Counted code first closing count) (w : ℕ) (ew : w ≡ head_at (cells_of code) h) where
    count-is : count ≡ length g.es
    unfolding counts
    count-is = c.is counts

    many_is : length params ≡ value_in w
    unfolding params
    many_is = head-known.many ∙ sym (ap value_in ew)

    many-wrong : (count ≡ value_in w → ⊥) → First (record { number = wrong_count; at = callee }) called
    many-wrong d =
        first-left
        (first-right (leads-same-if (record { number = wrong_count; at = callee }) undo barred callee refl (ranks wrong_count barred (omega arith) (omega arith)))
        (first-if (not (eqb (length params) (length g.es))) wrong_count callee (rw (ne_eqb (length params) (length g.es) (λ e. d (count-is ∙ sym e ∙ many_is))))))
        (passing-later wrong_count)

    module _ (same : count ≡ value_in w) where
      as_many : length g.es ≡ length params
      as_many = sym count-is ∙ same ∙ sym many_is

      many-right : counting ≡ []
      unfolding fault_if
      many-right = rw (eq-eqb (length params) (length g.es) (sym as_many))

      -- "17 covers the barred words and calls (at the callee)"
      barred-first : undo ≡ true → First (record { number = barred; at = callee }) called
      barred-first t = first-left (first-left (first-if undo barred callee t) (every-none many-right)) (passing-later barred)

    -- it is not barred
    module _ (same : count ≡ value_in w) (may : undo ≡ false) where
      all-faults : called ≡ passing params g.es
      unfolding fault_if
      all-faults = ap₂ {C = List Fault} (λ (b : Bool) (l : List Fault). fault_if b barred callee ++ l ++ passing params g.es) may (many-right same)

      -- there are none
      none-answer : count ≡ 0 → (op : ℕ) (after : List ℕ) → Linked code after callee op h first
          → Answer called code after callee g.z (CallWritten g (cells_of after) op) (Ok first)
      unfolding argument_faults ground_of params
      none-answer zero_is op after l =
          let n = none-closed g.stand.arguments (sym count-is ∙ zero_is) in
          answer-fine _ code after callee g.z _ first (record {
            none = all-faults ∙ ap (passing params) n.0;
            next-is = sym n.1;
            written = record {
              op-is = l.op-is;
              value-is = l.value-is;
              place = l.place_is;
              as_many = as_many same;
              read = no_arguments (ap (map (term_of g.around.known.W g.around.known.S)) n.0) l.link-is n.1;
              quiet = λ i x y. absurd (omega (arith, n.1));
            };
            kept = kept-wider l.kept callee g.z (omega arith) (omega (arith, g.before, call-on));
          })

      -- there is a first one
      module _ (some-are : count ≡ 0 → ⊥) (p : ℕ) (ep : p ≡ first_parameter (cells_of code) h) where
        one : FirstOf (sort_in g.around.known.W) (ExprAt (sort_in g.around.known.W) (Parses (sort_in g.around.known.W))) g.es first g.z
        one =
            separated_first (sort_in g.around.known.W) (ExprAt (sort_in g.around.known.W) (Parses (sort_in g.around.known.W)))
            (some-closed g.stand.arguments (λ e. some-are (count-is ∙ e)))

        one_on : first < one.n
        one_on = grows g.around.known.W (suc nestings) first one.a one.n one.one

        one_in : one.n ≤ g.z
        one_in =
            by-same (sort_in g.around.known.W one.n) comma
            (λ d. omega (arith, exprs-grow (sort_in g.around.known.W) (Parses (sort_in g.around.known.W)) (grows g.around.known.W) (one.more d)))
            (λ d. omega (arith, (one.done d).1))

        one-load : Loaded g.around.known.W code first one.n
        one-load = loaded-part g.around.known.W code first g.end first one.n g.unread.loaded (omega arith) (omega (arith, one_in, call-end))

        one-no : level_of (sort_in g.around.known.W one.n) ≡ 0
        one-no = next_level g.around one.n g.z one.rest one.done call-no

        value-suc : value_at (cells_of code) h ≡ suc (length one.rest)
        value-suc = sym (ap value_in ew) ∙ sym many_is ∙ sym (as_many same) ∙ ap length one.is

        pub call_asks : (p * 8 + 8 ≤ length code) × (p < word_limit) × expressions.Stands code values disjunctions first
        call_asks =
            (omega (arith, ep, head-known.inside, value-suc, g.calls.room), omega (arith, ep, head-known.inside, value-suc), one-asks g.around code p first one.a one.n one.one one-load one-no)

        -- the types of the others
        left : List DataType
        left = types_at (cells_of code) (length one.rest) (p + 3)

        types_are : params ≡ type_at (cells_of code) p ∷ left
        unfolding params left types_at
        types_are = head-known.types ∙ ap₂ (types_at (cells_of code)) value-suc (sym ep)

        types-in : (D : List ℕ) → Apart (cells_of code) D callee g.end → types_at D (length one.rest) (p + 3) ≡ left
        unfolding params types_at
        types-in D q =
            let k = known D g.around.R g.around.K.routines h (g.calls.heads D q) g.among in
            let v : value_at D h ≡ suc (length one.rest) = sym k.many ∙ head-known.many ∙ value-suc in
            let f : first_parameter D h ≡ p = parameter-same D (cells_of code) h (sym k.function ∙ head-known.function) ∙ sym ep in
            same-tail _ _ _ _ (sym (ap₂ (types_at D) v f) ∙ sym k.types ∙ types_are)

        faults-are : called ≡ passing (type_at (cells_of code) p ∷ left) (one.a ∷ one.rest)
        faults-are = all-faults ∙ ap₂ passing types_are one.is

        module _ (mid : List ℕ) (j : Judged) (pass : Passed code values mid p first j) where
          first-long : length mid ≡ length code
          first-long = one-long g.around code p first one.a one.n one.one one-load one-no mid j pass

          first-wrong : (broken : Breach) → j ≡ Err broken → First (as_fault broken) called
          first-wrong broken e =
              subst (First (as_fault broken)) (sym faults-are)
              (one-is-first g.around (type_at (cells_of code) p) left one.a one.rest first one.n g.z one.one one.more one.done (as_fault broken)
              (one-first g.around code p first one.a one.n one.one one-load one-no mid j pass broken e))

          module _ (b : ValueType) (n : ℕ) (e : j ≡ Ok (b, n)) where
            first-told : Told g.around.known (of_type g.around.known.W (type_at (cells_of code) p) g.around.known.S one.a) code mid one.a first one.n n
            first-told = one_told g.around code p first one.a one.n one.one one-load one-no mid j pass b n e

            pub first-end : (n < word_limit) × (callee * 8 + 8 ≤ length mid)
            first-end = (omega (arith, first-told.next-is, one_in, call-end, g.unread.loaded.last), omega (arith, callee-here, first-long))

            module _ (op : ℕ) (after : List ℕ) (l : Linked mid after callee op h n) where
              first-kept : Kept code after callee one.n
              first-kept = kept_on (kept-wider first-told.kept callee one.n (omega (arith, g.before)) (omega arith)) (kept-wider l.kept callee one.n (omega arith) (omega (arith, g.before, one_on)))

              terms : Expr → Term
              terms e = term_of g.around.known.W g.around.known.S e

              first_rest : Rest g.around first one.n g.z after p one.n (term_of g.around.known.W g.around.known.S one.a ∷ []) one.rest left
              first_rest = record {
                read = reads-one refl (term-above l.kept g.around.known.m g.around.known.n first one.n (term_of g.around.known.W g.around.known.S one.a) (omega (arith, g.before)) first-told.term);
                quiet = quiet-above l.kept first one.n (omega (arith, g.before)) first-told.quiet;
                inside = one_in;
                more = one.more;
                done = one.done;
                closes = call-no;
                unread = unread-after g.around.known.W code after callee one.n one.n g.z
                    (unread-part g.around.known.W code first g.end one.n g.z g.unread (omega (arith, one_on)) call-end) first-kept (omega arith);
                types = λ D q. types-in D (apart-kept first-kept D one.n g.z callee g.end q (omega (arith, g.before, one_on)) call-end (omega arith) (omega (arith, one_in, call-end)));
                words = omega (arith, ep, head-known.inside, value-suc);
                room = omega (arith, g.calls.room, first-kept.long);
              }

              pub call-more : More after values p n
              call-more = record {
                text = g.text;
                around = g.around;
                a = first;
                b₀ = one.n;
                z = g.z;
                us = term_of g.around.known.W g.around.known.S one.a ∷ [];
                rest = one.rest;
                ts = left;
                is = subst (λ (i : ℕ). Rest g.around first one.n g.z after p i (term_of g.around.known.W g.around.known.S one.a ∷ []) one.rest left) (sym first-told.next-is) first_rest;
              }

              fine-faults : called ≡ passing left one.rest
              fine-faults = faults-are ∙ one-is-fine g.around (type_at (cells_of code) p) left one.a one.rest first one.n g.z one.one one.more one.done first-told.none

              module _ (final : List ℕ) (r : Stepped) (m : MoreJudged after values final p n r) where
                fine-on : (next : ℕ) → Fine (passing left one.rest) after final n g.z next (MoreRead call-more (cells_of final))
                    → Fine called code final callee g.z next (CallWritten g (cells_of final) op)
                unfolding call-more ground_of params
                fine-on next f =
                    let below : callee < n = omega (arith, first-told.next-is, g.before, one_on) in
                    let inner : n ≤ g.z = omega (arith, first-told.next-is, one_in) in
                    let k : Kept code final callee g.z = kept_on (kept-wider first-kept callee g.z (omega arith) one_in) (kept-wider f.kept callee g.z (omega (arith, below)) (omega arith)) in
                    let lk : one.n ≡ link_at (cells_of final) callee = sym (link-below f.kept callee below ∙ l.link-is ∙ first-told.next-is) in
                    let all : map (term_of g.around.known.W g.around.known.S) (one.a ∷ one.rest) ≡ map (term_of g.around.known.W g.around.known.S) g.es =
                    ap (map (term_of g.around.known.W g.around.known.S)) (sym one.is) in
                    record {
                      none = fine-faults ∙ f.none;
                      next-is = f.next-is;
                      written = record {
                        op-is = ap op_in (head-below f.kept callee below) ∙ l.op-is;
                        value-is = ap value_in (head-below f.kept callee below) ∙ l.value-is;
                        place = place-below f.kept callee below ∙ l.place_is ∙ place-below first-told.kept callee g.before;
                        as_many = as_many same;
                        read = subst (λ (ts : List Term). ReadAll g.around.known.m g.around.known.n (cells_of final) ts first (link_at (cells_of final) callee) g.z) all
                            (subst (λ (i : ℕ). ReadAll g.around.known.m g.around.known.n (cells_of final) (term_of g.around.known.W g.around.known.S one.a ∷ map (term_of g.around.known.W g.around.known.S) one.rest) first i g.z) lk
                            (some-arguments one_on f.written.read));
                        quiet = f.written.quiet;
                      };
                      kept = k;
                    }

                call-answer : Answer called code final callee g.z (CallWritten g (cells_of final) op) r
                unfolding call-more
                call-answer =
                    answer-on (passing left one.rest) _ code after final n g.z callee g.z (MoreRead call-more (cells_of final)) (CallWritten g (cells_of final) op) r (m.is call-more) first-kept.long
                    (λ x y. subst (First x) (sym fine-faults) y) fine-on

-- ---- what the call answers
module _ (code values : List ℕ) (undo : Bool) (op h callee first closing : ℕ) (count : ℕ) (c : Counted code first closing count) (w : ℕ) (ew : w ≡ head_at (cells_of code) h) where
  pub called-wrong : (count ≡ value_in w → ⊥) → CallJudged code values code undo op h callee first closing (Err (record { rule = WrongCount; word = callee }))
  unfolding params
  called-wrong d = record {
    is = λ g. answer-first _ code code callee g.z _ (Err (record { rule = WrongCount; word = callee })) _ refl refl (many-wrong code values undo h callee first closing g count c w ew d);
  }

  pub called-barred : count ≡ value_in w → undo ≡ true → CallJudged code values code undo op h callee first closing (Err (record { rule = Barred; word = callee }))
  unfolding params
  called-barred same t = record {
    is = λ g. answer-first _ code code callee g.z _ (Err (record { rule = Barred; word = callee })) _ refl refl (barred-first code values undo h callee first closing g count c w ew same t);
  }

  module _ (same : count ≡ value_in w) (may : undo ≡ false) where
    pub called-none : count ≡ 0 → (after : List ℕ) → Linked code after callee op h first → CallJudged code values after undo op h callee first closing (Ok first)
    unfolding params
    called-none z after l = record { is = λ g. none-answer code values undo h callee first closing g count c w ew same may z op after l }

    module _ (some-are : count ≡ 0 → ⊥) (p : ℕ) (ep : p ≡ first_parameter (cells_of code) h) (mid : List ℕ) (j : Judged) (pass : Passed code values mid p first j) where
      pub called-faulty : (broken : Breach) → j ≡ Err broken → CallJudged code values mid undo op h callee first closing (Err broken)
      unfolding params
      called-faulty broken e = record {
        is = λ g.
            answer-first _ code mid callee g.z _ (Err broken) broken refl (first-long code values undo h callee first closing g count c w ew same may some-are p ep mid j pass)
            (first-wrong code values undo h callee first closing g count c w ew same may some-are p ep mid j pass broken e);
      }

      pub called_on : (b : ValueType) (n : ℕ) → j ≡ Ok (b, n) → (after : List ℕ) → Linked mid after callee op h n → (final : List ℕ) (r : Stepped) → MoreJudged after values final p n r
          → CallJudged code values final undo op h callee first closing r
      unfolding params
      called_on b n e after l final r m = record {
        is = λ g. call-answer code values undo h callee first closing g count c w ew same may some-are p ep mid j pass b n e op after l final r m;
      }
