-- The head of a FOR: its name, its bounds and its step.
use Rattle.paper.specs.Words.{word_limit}
use Rattle.layout.specs.Parts.{link_part}
use mathlib.Core.Path.{◌≡◌, refl, sym, ap, subst, ◌∙◌}
use mathlib.Core.Bool.{Bool, true, false}
use mathlib.Core.List.{List, [], ◌++◌, map}
use mathlib.Core.Option.{Option}
use Prim.Native.Nat.{ℕ, ◌+◌, ◌*◌, ◌<◌, ◌≤◌}
use native.Mathlib.Omega.{arith}
use lib.Dec.{ltb}
use lib.ListN.{length, get_or}
use borrow.Author.Tests.{ltb-true}
use Rattle.laws.proofs.Tests.{test, by-same}
use Rattle.store_cells.specs.Cells.{cells_of}
use Rattle.paper.specs.Sorts.{STEP}
use Rattle.paper.specs.Trees.{Expr}
use Rattle.paper.specs.Expressions.{level_of}
use Rattle.paper.specs.Names.{a_num, Text, text_of, Scopes, is_among, cannot_declare, hides_own, sort_in, spelled}
use Rattle.paper.specs.Types.{Fault, of_type}
use Rattle.paper.specs.Declarations.{routine_word_limit, crosses}
use Rattle.paper.specs.Checks.{optional_num}
use Rattle.code.specs.Cells.{op_in, op_at, value_at, link_at}
use Rattle.check_names.specs.Meanings.{is_protected, protects_cell, first_meaning}
use Rattle.check_names.specs.Promises.{number_at, Meant, Protects, store_bytes}
use Rattle.check_names.specs.Numbers.{number_of}
use Rattle.check_sites.specs.Parts.{Taken}
use Rattle.grammar.specs.Form.{Parses, ExprAt, ForHeadAt}
use Rattle.grammar.proofs.Inversions.{Given, step-none, step-some}
use Rattle.grammar.proofs.Places.{step-grows}
use Rattle.check_expressions.specs.Judgements.{Judged}
use Rattle.std.specs.Prelude.{Ok, Err}
use Rattle.layout.specs.declared.rules.Breach.{Breach}
use Rattle.layout.specs.declared.rules.Rule.TheVariants.{TakenName, HidingLoop, TooMany}
use Rattle.store_writing.specs.Promises.{Kept, Linked}
use Rattle.check_expressions.specs.Answers.{Typed}
use Rattle.check_expressions.specs.Answers as expressions
use Rattle.store_writing.proofs.Keeping.{kept_same, kept-wider, kept_on}
use Rattle.faults.specs.First.{First, Inside}
use Rattle.faults.proofs.First.{◌and◌, inside-if, ranks, ranks-before, ranks-behind, first-of-three, second-of-three, third-of-three, none-of-three, first-before, first-after, nothing-in-both}
use Rattle.faults.proofs.Expressions.{grows, of-type-inside}
use Rattle.faults.proofs.Statements.{step-inside}
use Rattle.check_links.specs.Resolved.{is_led, goes_by_link, goes_by_value, goes_by_place}
use Rattle.check_links.specs.Raw.{RawBound, RawStep}
use Rattle.check_around.specs.Around.{Around, ground_of}
use Rattle.check_around.specs.Answers.{Stepped, Fine, Tell, Answer}
use Rattle.check_compounds.specs.Here.{Here}
use Rattle.check_compounds.specs.Parts.{Bounds, BoundWritten, Bounded, Steps, ForStepped, ForHeads, name_faults, NameMay, ForNamed, ForMay, ForHeaded}
use Rattle.check_compounds.proofs.Frames.{kept-outside, same-before, same-behind, same-on, head-before, here_on, here-part, term-same, bound-same, linked-outside}
use Rattle.check_compounds.proofs.ExpressionsJudged.{inside_both, expression-stands, judged-faulty, judged-long, judged-none, judged-next, judged-term, judged-kept}
use Rattle.check_compounds.proofs.AnswerShapes.{typed-fine, faulty-found}
use Rattle.check_compounds.proofs.AnswerShapes.{fine-answer, found-answer, found_as}
use Rattle.code.specs.Steps.{a_target, a_step}
use Rattle.layout.specs.Rules.{taken_name, hiding_loop, too_many}
use Rattle.check_links.proofs.Ops.{low-still}
use Rattle.layout.specs.declared.types.ValueType.{ValueType}
use Rattle.layout.specs.declared.types.ValueType.TheVariants.{Num}

-- ---- a bound behind the word i
module _ (code values : List ℕ) (i : ℕ) (g : Bounds code values i) where
  abbrev a : Around g.text values
  a = g.around

  pub bound-stands : expressions.Stands code values 5 (i + 1)
  bound-stands = expression-stands g.text code values a g.k g.used (i + 1) g.to g.here g.e (i + 1) g.z g.is g.ends (omega arith) g.inside

  forward : i + 1 < g.z
  forward = grows a.known.W _ _ _ _ g.is

  pub bound-room : (i < word_limit) × (i * 8 + 8 ≤ length code)
  bound-room = (omega (arith, forward, g.inside, g.here.unread.loaded.last), omega (arith, forward, g.inside, g.here.unread.loaded.room))

  abbrev ForBound : (after : List ℕ) → Stepped → Type 0
  ForBound after r = Answer (of_type a.known.W a_num a.known.S g.e) code after i g.z (BoundWritten (RawBound (ground_of a) a.known.n (cells_of after) a.known.S g.e i g.z) code after i) r

  module _ (one : List ℕ) (j : Judged) (c : Typed code values one false Num (i + 1) j) where
    bound-no : (broken : Breach) → j ≡ Err broken → ForBound one (Err broken)
    bound-no broken q =
        found-answer _ _ _ _ _ _ broken
        (judged-faulty g.text code values a g.k g.used (i + 1) g.to g.here g.e (i + 1) g.z g.is g.ends (omega arith) g.inside one Num a_num refl j c broken q)
        (judged-long g.text code values a g.k g.used (i + 1) g.to g.here g.e (i + 1) g.z g.is g.ends (omega arith) g.inside one Num a_num refl j c)

    module _ (bool : ValueType) (n : ℕ) (q : j ≡ Ok (bool, n)) where
      at-is : n ≡ g.z
      at-is = judged-next g.text code values a g.k g.used (i + 1) g.to g.here g.e (i + 1) g.z g.is g.ends (omega arith) g.inside one Num a_num refl j c bool n q

      kept : Kept code one (i + 1) g.z
      kept = judged-kept g.text code values a g.k g.used (i + 1) g.to g.here g.e (i + 1) g.z g.is g.ends (omega arith) g.inside one Num a_num refl j c bool n q

      pub bound-links : (i * 8 + 8 ≤ length one) × (n < link_part)
      bound-links = (omega (arith, bound-room, kept.long), omega (arith, at-is, g.inside, g.here.unread.loaded.last))

      bound-yes : (two : List ℕ) → Linked one two i (op_at (cells_of one) i) (value_at (cells_of one) i) n → ForBound two (Ok n)
      bound-yes two l =
          let op-is : op_at (cells_of two) i ≡ op_at (cells_of code) i = l.op-is ∙ ap op_in (head-before (kept-outside kept) i (omega arith)) in
          fine-answer _ _ _ _ _ _ n (record {
            none = judged-none g.text code values a g.k g.used (i + 1) g.to g.here g.e (i + 1) g.z g.is g.ends (omega arith) g.inside one Num a_num refl j c bool n q;
            next-is = at-is;
            written = record {
              is = record {
                link = l.link-is ∙ at-is;
                still = ap is_led op-is ∙ g.still;
                term = term-same (ground_of a) a.known.n (cells_of one) (cells_of two) a.known.S g.e (i + 1) g.z (same-behind (i + 1) g.z (linked-outside l) (omega arith))
                    (judged-term g.text code values a g.k g.used (i + 1) g.to g.here g.e (i + 1) g.z g.is g.ends (omega arith) g.inside one Num a_num refl j c bool n q);
              };
              op = op-is;
            };
            kept = kept_on (kept-wider kept i g.z (omega arith) (omega arith)) (kept-wider l.kept i g.z (omega arith) (omega (arith, forward)));
          })

module _ (code values : List ℕ) (i : ℕ) (one : List ℕ) (j : Judged) (c : Typed code values one false Num (i + 1) j) where
  pub bound-wrong : (broken : Breach) → j ≡ Err broken → Bounded code values one i (Err broken)
  bound-wrong broken q = record { is = λ g. bound-no code values i g one j c broken q }

  pub bound-right : (bool : ValueType) (n : ℕ) → j ≡ Ok (bool, n) → (two : List ℕ) → Linked one two i (op_at (cells_of one) i) (value_at (cells_of one) i) n → Bounded code values two i (Ok n)
  bound-right bool n q two l = record { is = λ g. bound-yes code values i g one j c bool n q two l }

-- ---- STEP
still-step : is_led a_step ≡ false
unfolding is_led goes_by_link goes_by_value goes_by_place
still-step = refl

module _ (code values : List ℕ) (s : ℕ) (g : Steps code values s) where
  abbrev b : Around g.text values
  b = g.around

  order : s ≤ g.d
  order = step-grows (sort_in b.known.W) (Parses (sort_in b.known.W)) (grows b.known.W) g.is

  pub step_room : (s < word_limit) × (s * 8 + 8 ≤ length code)
  step_room = (omega (arith, order, g.inside, g.here.unread.loaded.last), omega (arith, order, g.inside, g.here.unread.loaded.room))

  abbrev ForStep : (after : List ℕ) → Stepped → Type 0
  ForStep after r = Answer (optional_num b.known.W b.known.S g.c) code after s g.d (RawStep (ground_of b) b.known.n (cells_of after) b.known.S g.c s g.d) r

  module _ (v : ℕ) (ev : v ≡ op_at (cells_of code) s) where
    sort-is : sort_in b.known.W s ≡ v
    sort-is = sym (ev ∙ (g.here.unread.loaded.words s (omega arith) (omega (arith, order, g.inside))).sort)

    step-no : (v ≡ STEP → ⊥) → ForStep code (Ok s)
    unfolding optional_num RawStep
    step-no f =
        let q = step-none (sort_in b.known.W) (Parses (sort_in b.known.W)) g.is (λ e. f (sym sort-is ∙ e)) in
        fine-answer _ _ _ _ _ _ s (record {
          none = ap (optional_num b.known.W b.known.S) q.0;
          next-is = sym q.1;
          written = subst (λ (o : Option Expr). RawStep (ground_of b) b.known.n (cells_of code) b.known.S o s g.d) (sym q.0) (sym q.1);
          kept = kept_same code s g.d;
        })

    module _ (h : v ≡ STEP) (one : List ℕ) (l : Linked code one s a_step 0 (link_at (cells_of code) s)) where
      w : Given (sort_in b.known.W) (Parses (sort_in b.known.W)) g.c (s + 1) g.d
      w = step-some (sort_in b.known.W) (Parses (sort_in b.known.W)) g.is (sort-is ∙ h)

      longer : s + 1 < g.d
      longer = grows b.known.W _ _ _ _ w.stands

      pub step-bounds : Bounds one values s
      unfolding level_of
      step-bounds = record {
        text = g.text;
        k = g.k;
        used = g.used;
        to = g.to;
        around = b;
        here = here_on b code one g.k g.used s g.to g.used (s + 1) g.to g.here (linked-outside l) l.kept.long (omega arith) g.here.few (omega arith) (omega (arith, longer, g.inside)) (omega arith) (omega arith) (omega arith);
        still = ap is_led l.op-is ∙ still-step;
        e = w.e;
        z = g.d;
        is = w.stands;
        ends = ap level_of g.do_word;
        inside = g.inside;
      }

      step-yes : (two : List ℕ) (j : Stepped) → Bounded one values two s j → ForStep two j
      unfolding step-bounds optional_num RawStep Tell
      step-yes two j x = subst (λ (o : Option Expr). Answer (optional_num b.known.W b.known.S o) code two s g.d (RawStep (ground_of b) b.known.n (cells_of two) b.known.S o s g.d) j) (sym w.is) (by_answer j (x.is step-bounds))
        where
          by_answer : (r : Stepped) → Answer (of_type b.known.W a_num b.known.S w.e) one two s g.d (BoundWritten (RawBound (ground_of b) b.known.n (cells_of two) b.known.S w.e s g.d) one two s) r
              → Answer (of_type b.known.W a_num b.known.S w.e) code two s g.d ((op_at (cells_of two) s ≡ a_step) × RawBound (ground_of b) b.known.n (cells_of two) b.known.S w.e s g.d) r
          by_answer (Ok next) y =
              let f = y.tells in
              fine-answer _ _ _ _ _ _ next
              (record { none = f.none; next-is = f.next-is; written = (f.written.op ∙ l.op-is, f.written.is); kept = kept_on (kept-wider l.kept s g.d (omega arith) (omega (arith, longer))) f.kept })
          by_answer (Err broken) y = record { tells = y.tells; long = y.long ∙ l.kept.long }

module _ (code values : List ℕ) (s v : ℕ) (ev : v ≡ op_at (cells_of code) s) where
  pub no_step : (v ≡ STEP → ⊥) → ForStepped code values code s (Ok s)
  no_step f = record { is = λ g. step-no code values s g v ev f }

  pub a-step : v ≡ STEP → (one : List ℕ) → Linked code one s a_step 0 (link_at (cells_of code) s) → (two : List ℕ) (j : Stepped) → Bounded one values two s j → ForStepped code values two s j
  a-step h one l two j x = record { is = λ g. step-yes code values s g v ev h one l two j x }

-- ---- the name
only-protected : (text : Text) → cannot_declare [] text ≡ is_protected text
unfolding cannot_declare is_among
only-protected text = test (is_protected text) (λ t. rw t) (λ t. rw t)

-- what is not protected can be declared beside a routine's own names where it is none of them
own-only : (S : Scopes) (text : Text) → is_protected text ≡ false → cannot_declare (map text_of S.own) text ≡ hides_own S text
unfolding cannot_declare hides_own
own-only S text h = rw (h, cannot_declare) refl

not-less : (a b : ℕ) → b ≤ a → ltb a b ≡ false
not-less a b h = test (ltb a b) (λ t. absurd (omega (arith, ltb-true a b t))) (λ t. t)

crosses-full : (used : ℕ) → used ≡ 64 → crosses routine_word_limit used 1 ≡ true
unfolding crosses
crosses-full used e = ap (λ (u : ℕ). crosses routine_word_limit u 1) e

crosses-none : (used : ℕ) → used < 64 → crosses routine_word_limit used 1 ≡ false
unfolding crosses
crosses-none used h = rw (not-less 64 used (omega arith), not-less 64 (used + 1) (omega arith))

module _ (code values : List ℕ) (used i : ℕ) (g : ForHeads code values used i) where
  abbrev e : Around g.text values
  e = g.around

  abbrev x : ForHeadAt (sort_in e.known.W) (Parses (sort_in e.known.W)) (i + 1) g.a g.b g.c i g.do_at
  x = g.is

  orders : (i + 3 < x.to_at) × (x.to_at + 1 < x.step_at) × (x.step_at ≤ g.do_at)
  orders = (grows e.known.W _ _ _ _ x.start, grows e.known.W _ _ _ _ x.end, step-grows (sort_in e.known.W) (Parses (sort_in e.known.W)) (grows e.known.W) x.step_part)

  last : (g.do_at < g.to) × (g.to < word_limit)
  last = (g.inside, g.here.unread.loaded.last)

  pub head-room : (i < 8190) × ((i + 1) * 8 + 8 ≤ length code) × (store_bytes ≤ length values)
  head-room = (omega (arith, orders, last), omega (arith, orders, last, g.here.unread.loaded.room), e.known.table)

  abbrev at_name : List Fault
  at_name = name_faults e.known.W e.known.S used i

  abbrev lower-faults : List Fault
  lower-faults = of_type e.known.W a_num e.known.S g.a

  abbrev upper-faults : List Fault
  upper-faults = of_type e.known.W a_num e.known.S g.b

  abbrev step-faults : List Fault
  step-faults = optional_num e.known.W e.known.S g.c

  lower_in : Inside (i + 3) x.to_at lower-faults
  lower_in = of-type-inside e.known.W _ _ _ _ x.start a_num e.known.S

  upper_in : Inside (x.to_at + 1) x.step_at upper-faults
  upper_in = of-type-inside e.known.W _ _ _ _ x.end a_num e.known.S

  step-in : Inside x.step_at g.do_at step-faults
  step-in = step-inside e.known.W e.known.S x.step_part

  name_in : Inside (i + 1) (i + 2) at_name
  name_in =
      inside-if _ taken_name (i + 1) (i + 1) (i + 2) (omega arith) (omega arith)
      and inside-if _ hiding_loop (i + 1) (i + 1) (i + 2) (omega arith) (omega arith)
      and inside-if _ too_many (i + 1) (i + 1) (i + 2) (omega arith) (omega arith)

  abbrev ForHead : (after : List ℕ) → Stepped → Type 0
  ForHead after r =
      Answer
      (at_name ++ lower-faults ++ upper-faults ++ step-faults)
      code after (i + 2) g.do_at (ForMay (ground_of e) e.known.n (cells_of after) e.known.S used g.a g.b g.c i g.do_at) r

  pub head-inside : Inside (i + 1) g.do_at (at_name ++ lower-faults ++ upper-faults ++ step-faults)
  head-inside =
      let j1 = inside_both name_in lower_in (omega arith) (omega (arith, orders)) in
      let j2 = inside_both j1 upper_in (omega (arith, orders)) (omega (arith, orders)) in
      inside_both j2 step-in (omega (arith, orders)) (omega (arith, orders))

  -- what comes first of the name, of the lower bound, and so on comes first
  after-name : (f : Fault) → First f at_name → First f (at_name ++ lower-faults ++ upper-faults ++ step-faults)
  after-name f h =
      let j1 = inside_both name_in lower_in (omega arith) (omega (arith, orders)) in
      let j2 = inside_both j1 upper_in (omega (arith, orders)) (omega (arith, orders)) in
      first-before (first-before (first-before h name_in lower_in (omega arith)) j1 upper_in (omega arith)) j2 step-in (omega arith)

  -- ---- the name
  numbered : number_at (cells_of code) (i + 1) ≡ number_of e.known.W (i + 1)
  numbered = (g.here.unread.loaded.words (i + 1) (omega arith) (omega (arith, orders, last))).number x.name

  abbrev ForName : Stepped → Type 0
  ForName r = Answer at_name code code (i + 1) (i + 2) (NameMay e.known.W e.known.S used i) r

  module _ (m : ℕ) (b : Bool) (em : Meant code values (i + 1) m) (eb : Protects m b) where
    guarded : is_protected (spelled e.known.W (i + 1)) ≡ b
    guarded = sym (e.known.means.guards (i + 1) x.name) ∙ ap protects_cell (sym (em ∙ ap (λ (v : ℕ). get_or (cells_of values) (first_meaning + v) 0) numbered)) ∙ sym eb

    taken : b ≡ true → ForName (Err (record { rule = TakenName; word = i + 1 }))
    taken t =
        found-answer _ _ _ _ _ _ (record { rule = TakenName; word = i + 1 })
        (first-of-three _ _ _ taken_name hiding_loop too_many (i + 1) ranks-before (ranks taken_name too_many (omega arith) (omega arith)) (only-protected _ ∙ guarded ∙ t)) refl

    module _ (f : b ≡ false) (t : Bool) (et : Taken code values 1 (i + 1) t) where
      free : cannot_declare [] (spelled e.known.W (i + 1)) ≡ false
      free = only-protected _ ∙ guarded ∙ f

      -- a name of the routine's own, by what it means
      told : hides_own e.known.S (spelled e.known.W (i + 1)) ≡ t
      told =
          sym (own-only e.known.S (spelled e.known.W (i + 1)) (guarded ∙ f))
          ∙ sym (et.is e.known.routine e.known.W e.known.S e.known.S.own e.known.means x.name numbered e.owns)

      hiding : t ≡ true → ForName (Err (record { rule = HidingLoop; word = i + 1 }))
      hiding q =
          found-answer _ _ _ _ _ _ (record { rule = HidingLoop; word = i + 1 }) (second-of-three _ _ _ taken_name hiding_loop too_many (i + 1) (ranks-behind too_many (omega arith) (omega arith)) free (told ∙ q)) refl

      module _ (nt : t ≡ false) where
        full : used ≡ 64 → ForName (Err (record { rule = TooMany; word = i + 1 }))
        full u = found-answer _ _ _ _ _ _ (record { rule = TooMany; word = i + 1 }) (third-of-three _ _ _ taken_name hiding_loop too_many (i + 1) free (told ∙ nt) (crosses-full used u)) refl

        named : (used ≡ 64 → ⊥) → ForName (Ok (i + 2))
        named u =
            let spare : used < 64 = omega (arith, u, g.here.few) in
            fine-answer _ _ _ _ _ _ (i + 2) (record {
              none = none-of-three _ _ _ taken_name hiding_loop too_many (i + 1) free (told ∙ nt) (crosses-none used spare);
              next-is = refl;
              written = record { free = guarded ∙ f; hides-none = told ∙ nt; spare = spare };
              kept = kept_same code (i + 1) (i + 2);
            })

  module _ (j0 : Stepped) (b0 : ForNamed code values used i j0) where
    a0 : ForName j0
    a0 = b0.is g

    name-wrong : (broken : Breach) → j0 ≡ Err broken → ForHead code j0
    name-wrong broken q = found_as _ _ _ _ _ _ j0 broken q (after-name _ (faulty-found j0 a0 broken q)) refl

    module _ (from : ℕ) (q0 : j0 ≡ Ok from) where
      f0 : Fine at_name code code (i + 1) (i + 2) from (NameMay e.known.W e.known.S used i)
      f0 = typed-fine j0 a0 from q0

      no_name : at_name ≡ []
      no_name = f0.none

      -- ---- the bounds
      next-three : i + 3 ≡ i + 2 + 1
      next-three = omega arith

      lowers : Bounds code values (i + 2)
      unfolding level_of
      lowers = record {
        text = g.text;
        k = g.k;
        used = used;
        to = g.to;
        around = e;
        here = here-part e code g.k used i g.to (i + 2 + 1) g.to g.here (omega arith) (omega (arith, orders, last)) (omega arith);
        still = low-still _ (subst (λ (v : ℕ). v < a_target) (sym (g.here.unread.loaded.words (i + 2) (omega arith) (omega (arith, orders, last))).sort) (e.sorts (i + 2)));
        e = g.a;
        z = x.to_at;
        is = subst (λ (v : ℕ). ExprAt (sort_in e.known.W) (Parses (sort_in e.known.W)) g.a v x.to_at) next-three x.start;
        ends = ap level_of x.to_word;
        inside = omega (arith, orders, last);
      }

      pub head-lower : Bounds code values from
      head-lower = subst (λ (v : ℕ). Bounds code values v) (sym f0.next-is) lowers

      with-lower : (f1 : Fault) → First f1 (at_name ++ lower-faults) → First f1 (at_name ++ lower-faults ++ upper-faults ++ step-faults)
      with-lower f1 h =
          let j1 = inside_both name_in lower_in (omega arith) (omega (arith, orders)) in
          let j2 = inside_both j1 upper_in (omega (arith, orders)) (omega (arith, orders)) in
          first-before (first-before h j1 upper_in (omega arith)) j2 step-in (omega arith)

      module _ (one : List ℕ) (j : Stepped) (b1 : Bounded code values one from j) where
        a1 : Answer lower-faults code one (i + 2) x.to_at (BoundWritten (RawBound (ground_of e) e.known.n (cells_of one) e.known.S g.a (i + 2) x.to_at) code one (i + 2)) j
        unfolding lowers
        a1 = (subst (λ (v : ℕ). Bounded code values one v j) f0.next-is b1).is lowers

        lower-wrong : (broken : Breach) → j ≡ Err broken → ForHead one j
        lower-wrong broken q = found_as _ _ _ _ _ _ j broken q (with-lower _ (first-after no_name (faulty-found j a1 broken q))) a1.long

        module _ (to : ℕ) (q : j ≡ Ok to) where
          f1 : Fine lower-faults code one (i + 2) x.to_at to (BoundWritten (RawBound (ground_of e) e.known.n (cells_of one) e.known.S g.a (i + 2) x.to_at) code one (i + 2))
          f1 = typed-fine j a1 to q

          no_lower : at_name ++ lower-faults ≡ []
          no_lower = nothing-in-both no_name f1.none

          here-one : Here e one g.k used x.to_at g.to
          here-one = here_on e code one g.k used i g.to used x.to_at g.to g.here (kept-outside f1.kept) a1.long (omega arith) g.here.few (omega arith) (omega (arith, orders, last)) (omega (arith, orders)) (omega arith) (omega arith)

          no-operator : level_of (sort_in e.known.W x.step_at) ≡ 0
          unfolding level_of
          no-operator =
              by-same (sort_in e.known.W x.step_at) STEP (λ h. ap level_of h)
              (λ h. ap level_of (ap (sort_in e.known.W) (sym (step-none (sort_in e.known.W) (Parses (sort_in e.known.W)) x.step_part h).1) ∙ x.do_word))

          uppers : Bounds one values x.to_at
          uppers = record {
            text = g.text;
            k = g.k;
            used = used;
            to = g.to;
            around = e;
            here = here-part e one g.k used x.to_at g.to (x.to_at + 1) g.to here-one (omega arith) (omega (arith, orders, last)) (omega arith);
            still = low-still _ (subst (λ (v : ℕ). v < a_target) (sym (here-one.unread.loaded.words x.to_at (omega arith) (omega (arith, orders, last))).sort) (e.sorts x.to_at));
            e = g.b;
            z = x.step_at;
            is = x.end;
            ends = no-operator;
            inside = omega (arith, orders, last);
          }

          pub head-upper : Bounds one values to
          head-upper = subst (λ (v : ℕ). Bounds one values v) (sym f1.next-is) uppers

          with-upper : (f2 : Fault) → First f2 (at_name ++ lower-faults ++ upper-faults) → First f2 (at_name ++ lower-faults ++ upper-faults ++ step-faults)
          with-upper f2 h =
              let j1 = inside_both name_in lower_in (omega arith) (omega (arith, orders)) in
              let j2 = inside_both j1 upper_in (omega (arith, orders)) (omega (arith, orders)) in
              first-before h j2 step-in (omega arith)

          module _ (two : List ℕ) (j2 : Stepped) (b2 : Bounded one values two to j2) where
            a2 : Answer upper-faults one two x.to_at x.step_at (BoundWritten (RawBound (ground_of e) e.known.n (cells_of two) e.known.S g.b x.to_at x.step_at) one two x.to_at) j2
            unfolding uppers
            a2 = (subst (λ (v : ℕ). Bounded one values two v j2) f1.next-is b2).is uppers

            upper-wrong : (broken : Breach) → j2 ≡ Err broken → ForHead two j2
            upper-wrong broken q2 = found_as _ _ _ _ _ _ j2 broken q2 (with-upper _ (first-after no_lower (faulty-found j2 a2 broken q2))) (a2.long ∙ a1.long)

            module _ (s : ℕ) (q2 : j2 ≡ Ok s) where
              f2 : Fine upper-faults one two x.to_at x.step_at s (BoundWritten (RawBound (ground_of e) e.known.n (cells_of two) e.known.S g.b x.to_at x.step_at) one two x.to_at)
              f2 = typed-fine j2 a2 s q2

              no-upper : at_name ++ lower-faults ++ upper-faults ≡ []
              no-upper = nothing-in-both no_lower f2.none

              steps : Steps two values x.step_at
              steps = record {
                text = g.text;
                k = g.k;
                used = used;
                to = g.to;
                around = e;
                here = here_on e one two g.k used x.to_at g.to used x.step_at g.to here-one (kept-outside f2.kept) a2.long (omega arith) g.here.few (omega arith) (omega (arith, orders, last)) (omega (arith, orders)) (omega arith) (omega arith);
                c = g.c;
                d = g.do_at;
                is = x.step_part;
                do_word = x.do_word;
                inside = omega (arith, last);
              }

              pub head-steps : Steps two values s
              head-steps = subst (λ (v : ℕ). Steps two values v) (sym f2.next-is) steps

              head_done : (three : List ℕ) (j3 : Stepped) → ForStepped two values three s j3 → ForHead three j3
              unfolding steps Tell ground_of
              head_done three j3 b3 = by_answer j3 ((subst (λ (v : ℕ). ForStepped two values three v j3) f2.next-is b3).is steps)
                where
                  by_answer : (r : Stepped) → Answer step-faults two three x.step_at g.do_at (RawStep (ground_of e) e.known.n (cells_of three) e.known.S g.c x.step_at g.do_at) r → ForHead three r
                  by_answer (Ok next) y =
                      let f3 = y.tells in
                      let o2 = kept-outside f2.kept in
                      let o3 = kept-outside f3.kept in
                      fine-answer _ _ _ _ _ _ next (record {
                        none = nothing-in-both no-upper f3.none;
                        next-is = f3.next-is;
                        written = record {
                          name = f0.written;
                          bounds = record {
                            t = x.to_at;
                            s = x.step_at;
                            lower = bound-same (ground_of e) e.known.n (cells_of one) (cells_of three) e.known.S g.a (i + 2) x.to_at (same-on (same-before (i + 2) x.to_at o2 (omega arith)) (same-before (i + 2) x.to_at o3 (omega (arith, orders)))) f1.written.is;
                            upper = bound-same (ground_of e) e.known.n (cells_of two) (cells_of three) e.known.S g.b x.to_at x.step_at (same-before x.to_at x.step_at o3 (omega arith)) f2.written.is;
                            steps = f3.written;
                          };
                        };
                        kept = kept_on (kept_on (kept-wider f1.kept (i + 2) g.do_at (omega arith) (omega (arith, orders))) (kept-wider f2.kept (i + 2) g.do_at (omega (arith, orders)) (omega (arith, orders))))
                            (kept-wider f3.kept (i + 2) g.do_at (omega (arith, orders)) (omega arith));
                      })
                  by_answer (Err broken) y = found-answer _ _ _ _ _ _ broken (first-after no-upper y.tells) (y.long ∙ a2.long ∙ a1.long)

-- ---- for whatever the statement is
module _ (code values : List ℕ) (used i : ℕ) (m : ℕ) (b : Bool) (em : Meant code values (i + 1) m) (eb : Protects m b) where
  pub name-taken : b ≡ true → ForNamed code values used i (Err (record { rule = TakenName; word = i + 1 }))
  name-taken t = record { is = λ g. taken code values used i g m b em eb t }

  module _ (f : b ≡ false) (t : Bool) (et : Taken code values 1 (i + 1) t) where
    pub name-hiding : t ≡ true → ForNamed code values used i (Err (record { rule = HidingLoop; word = i + 1 }))
    name-hiding q = record { is = λ g. hiding code values used i g m b em eb f t et q }

    pub name-full : t ≡ false → used ≡ 64 → ForNamed code values used i (Err (record { rule = TooMany; word = i + 1 }))
    name-full nt u = record { is = λ g. full code values used i g m b em eb f t et nt u }

    pub name_free : t ≡ false → (used ≡ 64 → ⊥) → ForNamed code values used i (Ok (i + 2))
    name_free nt u = record { is = λ g. named code values used i g m b em eb f t et nt u }

module _ (code values : List ℕ) (used i : ℕ) (j0 : Stepped) (b0 : ForNamed code values used i j0) where
  pub head-name-wrong : (broken : Breach) → j0 ≡ Err broken → ForHeaded code values code used i j0
  head-name-wrong broken q = record { is = λ g. name-wrong code values used i g j0 b0 broken q }

  module _ (from : ℕ) (q0 : j0 ≡ Ok from) (one : List ℕ) (j : Stepped) (b1 : Bounded code values one from j) where
    pub head-lower-wrong : (broken : Breach) → j ≡ Err broken → ForHeaded code values one used i j
    head-lower-wrong broken q = record { is = λ g. lower-wrong code values used i g j0 b0 from q0 one j b1 broken q }

    module _ (to : ℕ) (q : j ≡ Ok to) (two : List ℕ) (j2 : Stepped) (b2 : Bounded one values two to j2) where
      pub head-upper-wrong : (broken : Breach) → j2 ≡ Err broken → ForHeaded code values two used i j2
      head-upper-wrong broken q2 = record { is = λ g. upper-wrong code values used i g j0 b0 from q0 one j b1 to q two j2 b2 broken q2 }

      pub head-finished : (s : ℕ) → j2 ≡ Ok s → (three : List ℕ) (j3 : Stepped) → ForStepped two values three s j3 → ForHeaded code values three used i j3
      head-finished s q2 three j3 b3 = record { is = λ g. head_done code values used i g j0 b0 from q0 one j b1 to q two j2 b2 s q2 three j3 b3 }
