-- Assignments, and statements by their first words.
use mathlib.Core.Path.{◌≡◌, refl, sym, ap, ap₂, subst, ◌∙◌}
use mathlib.Core.Logic.{◌⊎◌, inl, inr}
use mathlib.Core.Bool.{Bool, true, false}
use mathlib.Core.List.{List, [], ◌++◌}
use Prim.Native.Nat.{ℕ, suc, ◌+◌, ◌*◌, ◌<◌, ◌≤◌}
use native.Mathlib.Omega.{arith}
use lib.ListN.{length}
use borrow.Author.Tests.{eqb-true, ne_eqb}
use Rattle.laws.proofs.Tests.{by-same}
use Rattle.paper.specs.Sorts.{NAME, open_paren, close_paren, becomes, open_brace, EXIT, RAISE, RETRY, RETURN, TRYNEXT, TPWRITE, TPREADNUM}
use Rattle.paper.specs.Words.{Word, word_limit}
use Rattle.paper.specs.Trees.{Expr, Target, assign, assign_call}
use Rattle.paper.specs.Expressions.{nestings, starts_simple}
use Rattle.paper.specs.Names.{DataType, Scopes, sort_in, spelled, meaning}
use Rattle.paper.specs.Types.{Fault, of_type}
use Rattle.paper.specs.Checks.{in_undo, judge_target, signature_of, call_faults, result_faults, simple_faults}
use Rattle.paper.specs.Checks as checks
use Rattle.paper.specs.Steps.{spot_of}
use Rattle.store_cells.specs.Cells.{cells_of}
use Rattle.code.specs.Cells.{op_in, op_at}
use Rattle.grammar.specs.Form.{Parses, ArgumentsAt}
use Rattle.grammar.proofs.Places.{target-grows, arguments-grow}
use Rattle.grammar.proofs.Inversions as inversions
use Rattle.grammar.proofs.Inversions.{behind-name, behind-brace}
use Rattle.check_expressions.specs.Judgements.{Judged}
use Rattle.std.specs.Prelude.{Ok, Err}
use Rattle.layout.specs.Broken.{as_fault}
use Rattle.layout.specs.declared.rules.Breach.{Breach}
use Rattle.store_writing.specs.Promises.{Kept}
use Rattle.store_writing.proofs.Keeping.{head-above, kept-wider, kept_on}
use Rattle.check_expressions.proofs.Starts.{loaded-part}
use Rattle.faults.specs.First.{Inside, First}
use Rattle.faults.proofs.First.{widen, first-inside, first-left, leads-later}
use Rattle.faults.proofs.Expressions.{grows, of-type-inside}
use Rattle.faults.proofs.Statements.{arguments-inside, target-inside, call-inside, result-inside}
use Rattle.check_links.specs.Raw.{RawDoes}
use Rattle.check_around.specs.declared.Setting.{Setting}
use Rattle.check_around.specs.Around.{Around, ground_of, Unread, Calls}
use Rattle.check_around.proofs.WhichLists.{is_undo, in-undo}
use Rattle.check_around.specs.Answers.{Fine, Stepped}
use Rattle.check_simple.specs.Answers.{Stands, Answers, Statement, Stated}
use Rattle.check_simple.specs.Parts.{BeginsIn, BegunIn, BeginsOf, BegunOf, Assigns, Assigned, CallsOf, CalledOf, IsCall, Targets, Aimed, AimAnswer, TargetJudged, ValueSide, ValueAssigned, ArgumentsStand, CallAssigns, CallAssigned}
use Rattle.check_simple.proofs.Arguments.{unread-part, unread-after, apart-kept}
use Rattle.check_simple.proofs.Targets.{aimed-fine, aimed-first}
use Rattle.check_simple.proofs.SimpleStatements.{stands_on, stands-sort, stated-first, stated-fine, stated-on}
use Rattle.check_simple.proofs.ReturnRaiseExit.{statement-sort}
use Rattle.layout.specs.declared.types.ValueType.{ValueType}

-- the routines' heads are where they were after a change inside
pub calls-after : {text values : List ℕ} (a : Around text values) (code after : List ℕ) (at to x y b d : ℕ) → Calls a code at to → Kept code after x y → at ≤ x → y ≤ to + 1 → at ≤ b → d ≤ to → Calls a after b d
calls-after a code after at to x y b d c k ax yt ab dt = record {
  heads = λ D p. c.heads D (apart-kept k D b d at to p ab dt ax yt);
  room = omega (arith, c.room, k.long);
}

-- ---- the faults of an assignment, by those of its target
module _ (W : List Word) (K : checks.Setting) (S : Scopes) (t : Target) where
  abbrev results_of : (f : ℕ) → List Fault
  results_of f = result_faults W (judge_target W S t) (signature_of W K (meaning S (spelled W f))).result f

  call-faults : (f : ℕ) (es : List Expr) → (judge_target W S t).faults ≡ [] → simple_faults W K S (assign_call t f es) ≡ call_faults W K true S f es ++ results_of f
  unfolding simple_faults
  call-faults f es n = ap (λ (l : List Fault). l ++ call_faults W K true S f es ++ results_of f) n

  call-first : (f : ℕ) (es : List Expr) (x : Fault) (a b : ℕ) → First x (judge_target W S t).faults → x.at < a → Inside a b (call_faults W K true S f es) → Inside a b (results_of f) → First x (simple_faults W K S (assign_call t f es))
  unfolding simple_faults
  call-first f es x a b h l c r = first-left (first-left h (leads-later x c l)) (leads-later x r l)

  value-faults : (e : Expr) (x : DataType) → (judge_target W S t).faults ≡ [] → (judge_target W S t).type ≡ x → simple_faults W K S (assign t e) ≡ of_type W x S e
  unfolding simple_faults
  value-faults e x n q = ap₂ {C = List Fault} (λ (l : List Fault) (y : DataType). l ++ of_type W y S e) n q

  value-first : (e : Expr) (x : Fault) (a b : ℕ) → First x (judge_target W S t).faults → x.at < a → Inside a b (of_type W (judge_target W S t).type S e) → First x (simple_faults W K S (assign t e))
  unfolding simple_faults
  value-first e x a b h l c = first-left h (leads-later x c l)

-- ---- assignments
module _ (code values : List ℕ) (undo : Bool) (i : ℕ) (c : Assigns code values undo i) where
  assigns : inversions.Assigns (sort_in c.begins.stands.around.known.W) (Parses (sort_in c.begins.stands.around.known.W)) c.begins.stands.s i c.begins.stands.to
  assigns =
      (inversions.simple-name (sort_in c.begins.stands.around.known.W) (Parses (sort_in c.begins.stands.around.known.W)) c.begins.stands.is c.begins.here).assigns
      (by-same (sort_in c.begins.stands.around.known.W (i + 1)) becomes (λ e. behind-name e) (λ d. behind-brace (c.behind d)))

  -- its right side is a call, or an expression
  by_side : {A : Type 0}
      → (sort_in c.begins.stands.around.known.W (assigns.n + 1) ≡ NAME → sort_in c.begins.stands.around.known.W (assigns.n + 2) ≡ open_paren → A)
      → ((sort_in c.begins.stands.around.known.W (assigns.n + 1) ≡ NAME → sort_in c.begins.stands.around.known.W (assigns.n + 2) ≡ open_paren → ⊥) → A) → A
  by_side f g =
      by-same (sort_in c.begins.stands.around.known.W (assigns.n + 1)) NAME
      (λ a. by-same (sort_in c.begins.stands.around.known.W (assigns.n + 2)) open_paren (λ b. f a b) (λ b. g (λ x y. b y)))
      (λ a. g (λ x y. a x))

  assigns-on : i < assigns.n
  assigns-on = target-grows (sort_in c.begins.stands.around.known.W) (Parses (sort_in c.begins.stands.around.known.W)) (grows c.begins.stands.around.known.W) assigns.target

  assigns-in : assigns.n + 2 ≤ c.begins.stands.to
  assigns-in =
      by_side
      (λ a b. let s = assigns.call_side a b in omega (arith, s.after, arguments-grow (sort_in c.begins.stands.around.known.W) (Parses (sort_in c.begins.stands.around.known.W)) (grows c.begins.stands.around.known.W) s.arguments))
      (λ d. let s = assigns.value_side d in omega (arith, grows c.begins.stands.around.known.W (suc nestings) (assigns.n + 1) s.e c.begins.stands.to s.value))

  pub assign-targets : Targets code values i
  assign-targets = record {
    known = c.begins.stands.around.known;
    sorts = c.begins.stands.around.sorts;
    t = assigns.t;
    to = assigns.n;
    is = assigns.target;
    loaded = loaded-part c.begins.stands.around.known.W code i c.begins.stands.to i assigns.n c.begins.stands.unread.loaded (omega arith) (omega (arith, assigns-in));
  }

  module _ (mid : List ℕ) (r : Judged) (t : TargetJudged code values mid i r) where
    target-answer : AimAnswer c.begins.stands.around.known.m c.begins.stands.around.known.n (judge_target c.begins.stands.around.known.W c.begins.stands.around.known.S assigns.t)
        (spot_of c.begins.stands.around.known.W c.begins.stands.around.known.S assigns.t) code mid i assigns.n r
    unfolding assign-targets
    target-answer = t.is assign-targets

    assign-faulty : (broken : Breach) → r ≡ Err broken → Answers c.begins.stands mid (Err broken)
    assign-faulty broken e =
        let g = c.begins.stands in
        let W = g.around.known.W in
        let S = g.around.known.S in
        let f = aimed-first _ _ _ _ code mid i assigns.n r target-answer broken e in
        let before = (first-inside f (target-inside W S assigns.target)).high in
        by_side
        (λ a b.
        let s = assigns.call_side a b in
        stated-first code values i g (assign_call assigns.t (assigns.n + 1) s.es) s.is mid (Err broken) broken refl target-answer.long
        (call-first W g.around.K S assigns.t (assigns.n + 1) s.es (as_fault broken) (assigns.n + 1) g.to f (omega (arith, before))
        (call-inside W (assigns.n + 1) (assigns.n + 1) g.to (omega arith) (omega (arith, assigns-in)) g.around.K true S s.es
        (λ ts. widen (arguments-inside W S ts s.arguments) (omega arith) (omega (arith, s.after))))
        (result-inside W (assigns.n + 1) (assigns.n + 1) g.to (omega arith) (omega (arith, assigns-in)) _ _)))
        (λ d.
        let s = assigns.value_side d in
        stated-first code values i g (assign assigns.t s.e) s.is mid (Err broken) broken refl target-answer.long
        (value-first W g.around.K S assigns.t s.e (as_fault broken) (assigns.n + 1) g.to f (omega (arith, before))
        (of-type-inside W (suc nestings) (assigns.n + 1) s.e g.to s.value _ S)))

    module _ (bool : ValueType) (b : ℕ) (e : r ≡ Ok (bool, b)) where
      aimed : Fine (judge_target c.begins.stands.around.known.W c.begins.stands.around.known.S assigns.t).faults code mid i assigns.n b
          (Aimed c.begins.stands.around.known.m c.begins.stands.around.known.n (cells_of code) (cells_of mid) (judge_target c.begins.stands.around.known.W c.begins.stands.around.known.S assigns.t)
          (spot_of c.begins.stands.around.known.W c.begins.stands.around.known.S assigns.t) i assigns.n bool)
      aimed = aimed-fine _ _ _ _ code mid i assigns.n r target-answer bool b e

      pub assign_end : (b + 1 < word_limit) × ((b + 1) * 8 + 16 ≤ length mid)
      assign_end =
          (omega (arith, aimed.next-is, assigns-in, c.begins.stands.unread.loaded.last), omega (arith, aimed.next-is, assigns-in, c.begins.stands.unread.loaded.room, target-answer.long))

      -- words behind the target are unread
      mid-sort : (k : ℕ) → assigns.n ≤ k → k ≤ c.begins.stands.to → op_at (cells_of mid) k ≡ sort_in c.begins.stands.around.known.W k
      mid-sort k l h = ap op_in (head-above aimed.kept k l) ∙ stands-sort code values i c.begins.stands k (omega (arith, assigns-on)) h

      mid-unread : Unread c.begins.stands.around.known.W mid assigns.n c.begins.stands.to
      mid-unread =
          unread-after c.begins.stands.around.known.W code mid i assigns.n assigns.n c.begins.stands.to
          (unread-part c.begins.stands.around.known.W code i c.begins.stands.to assigns.n c.begins.stands.to c.begins.stands.unread (omega (arith, assigns-on)) (omega arith)) aimed.kept (omega arith)

      module _ (q : Bool) (call : IsCall (cells_of mid) (b + 1) q) where
        next_one : op_at (cells_of mid) (b + 1) ≡ sort_in c.begins.stands.around.known.W (assigns.n + 1)
        next_one = ap (λ (k : ℕ). op_at (cells_of mid) (k + 1)) aimed.next-is ∙ mid-sort (assigns.n + 1) (omega arith) (omega (arith, assigns-in))

        next-two : op_at (cells_of mid) (b + 1 + 1) ≡ sort_in c.begins.stands.around.known.W (assigns.n + 2)
        next-two =
            let x : b + 1 + 1 ≡ assigns.n + 2 = omega (arith, aimed.next-is) in
            ap (op_at (cells_of mid)) x ∙ mid-sort (assigns.n + 2) (omega arith) assigns-in

        module _ (y : q ≡ true) where
          call-side : inversions.CallSide (sort_in c.begins.stands.around.known.W) (Parses (sort_in c.begins.stands.around.known.W)) c.begins.stands.s assigns.t assigns.n c.begins.stands.to
          call-side = assigns.call_side (sym next_one ∙ (call.yes y).0) (sym next-two ∙ (call.yes y).1)

          call-args : ArgumentsStand c.begins.stands.around.known.W call-side.es (assigns.n + 1 + 2) close_paren call-side.m (call-side.m + 1)
          call-args = record {
            arguments = let x : assigns.n + 3 ≡ assigns.n + 1 + 2 = omega arith in
                subst (λ (k : ℕ). ArgumentsAt (sort_in c.begins.stands.around.known.W) (Parses (sort_in c.begins.stands.around.known.W)) close_paren call-side.es k call-side.m) x call-side.arguments;
            closes = call-side.closes;
            ends = ap (sort_in c.begins.stands.around.known.W) (sym call-side.after) ∙ c.begins.stands.ends;
            at-end = λ z. absurd (omega (arith, z));
            past_end = λ _. (refl, refl);
          }

          call-assigns-n : CallAssigns mid values undo i assigns.n
          call-assigns-n = record {
            for = record {
              text = c.begins.stands.text;
              around = c.begins.stands.around;
              undo-is = c.undo-is;
              es = call-side.es;
              z = call-side.m;
              stand = call-args;
              name = sym next_one ∙ (call.yes y).0;
              unread = unread-part c.begins.stands.around.known.W mid assigns.n c.begins.stands.to (assigns.n + 1) (call-side.m + 1) mid-unread (omega arith) (omega (arith, call-side.after));
              calls = calls-after c.begins.stands.around code mid i c.begins.stands.to i assigns.n (assigns.n + 1) (call-side.m + 1) c.begins.stands.calls aimed.kept (omega arith) (omega (arith, assigns-in)) (omega (arith, assigns-on)) (omega (arith, call-side.after));
            };
            t = assigns.t;
            before = assigns-on;
            target = aimed.written.target;
          }

          pub call-assigns : CallAssigns mid values undo i b
          call-assigns = subst (CallAssigns mid values undo i) (sym aimed.next-is) call-assigns-n

          call-all : simple_faults c.begins.stands.around.known.W c.begins.stands.around.K c.begins.stands.around.known.S (assign_call assigns.t (assigns.n + 1) call-side.es)
              ≡ call_faults c.begins.stands.around.known.W c.begins.stands.around.K true c.begins.stands.around.known.S (assigns.n + 1) call-side.es
              ++ result_faults c.begins.stands.around.known.W (judge_target c.begins.stands.around.known.W c.begins.stands.around.known.S assigns.t)
              (signature_of c.begins.stands.around.known.W c.begins.stands.around.K (meaning c.begins.stands.around.known.S (spelled c.begins.stands.around.known.W (assigns.n + 1)))).result (assigns.n + 1)
          call-all = call-faults c.begins.stands.around.known.W c.begins.stands.around.K c.begins.stands.around.known.S assigns.t (assigns.n + 1) call-side.es aimed.none

          call-answers : (after : List ℕ) (p : Stepped) → CallAssigned mid values after undo bool i b p → Answers c.begins.stands after p
          unfolding RawDoes call-assigns-n
          call-answers after p x =
              let g = c.begins.stands in
              let x2 : CallAssigned mid values after undo bool i assigns.n p = subst (λ (k : ℕ). CallAssigned mid values after undo bool i k p) aimed.next-is x in
              let s = assign_call assigns.t (assigns.n + 1) call-side.es in
              stated-on code values i g s call-side.is after _ mid i (call-side.m + 2) _ p (x2.is call-assigns-n (judge_target g.around.known.W g.around.known.S assigns.t) aimed.written.type-is) target-answer.long
              (λ f h. subst (First f) (sym call-all) h)
              (λ next f.
              let two : call-side.m + 2 ≡ g.to + 1 = omega (arith, call-side.after) in
              stated-fine code values i g s call-side.is after next (call-all ∙ f.none) (f.next-is ∙ two)
              (kept_on (kept-wider aimed.kept i (g.to + 1) (omega arith) (omega (arith, assigns-in))) (kept-wider f.kept i (g.to + 1) (omega arith) (omega (arith, two))))
              (f.written.place ∙ aimed.written.place)
              (subst (λ (k : ℕ). RawDoes (ground_of g.around) g.around.known.n (cells_of after) g.around.known.S s i k k) two f.written.is))

        module _ (y : q ≡ false) where
          value-side : inversions.ValueSide (sort_in c.begins.stands.around.known.W) (Parses (sort_in c.begins.stands.around.known.W)) c.begins.stands.s assigns.t assigns.n c.begins.stands.to
          value-side = assigns.value_side (λ u v. call.no y (next_one ∙ u) (next-two ∙ v))

          value-assigns-n : ValueSide mid values bool i assigns.n
          value-assigns-n = record {
            type = (judge_target c.begins.stands.around.known.W c.begins.stands.around.known.S assigns.t).type;
            wants_is = aimed.written.type-is;
            text = c.begins.stands.text;
            around = c.begins.stands.around;
            t = assigns.t;
            e = value-side.e;
            to = c.begins.stands.to;
            before = assigns-on;
            target = aimed.written.target;
            becomes-is = assigns.becomes;
            value = value-side.value;
            ends = c.begins.stands.ends;
            unread = mid-unread;
          }

          pub value-assigns : ValueSide mid values bool i b
          value-assigns = subst (ValueSide mid values bool i) (sym aimed.next-is) value-assigns-n

          value-all : simple_faults c.begins.stands.around.known.W c.begins.stands.around.K c.begins.stands.around.known.S (assign assigns.t value-side.e)
              ≡ of_type c.begins.stands.around.known.W (judge_target c.begins.stands.around.known.W c.begins.stands.around.known.S assigns.t).type c.begins.stands.around.known.S value-side.e
          value-all = value-faults c.begins.stands.around.known.W c.begins.stands.around.K c.begins.stands.around.known.S assigns.t value-side.e (judge_target c.begins.stands.around.known.W c.begins.stands.around.known.S assigns.t).type aimed.none refl

          value-answers : (after : List ℕ) (p : Stepped) → ValueAssigned mid values after bool i b p → Answers c.begins.stands after p
          unfolding RawDoes value-assigns-n
          value-answers after p x =
              let g = c.begins.stands in
              let x2 : ValueAssigned mid values after bool i assigns.n p = subst (λ (k : ℕ). ValueAssigned mid values after bool i k p) aimed.next-is x in
              let s = assign assigns.t value-side.e in
              stated-on code values i g s value-side.is after _ mid i (g.to + 1) _ p (x2.is value-assigns-n) target-answer.long
              (λ f h. subst (First f) (sym value-all) h)
              (λ next f.
              stated-fine code values i g s value-side.is after next (value-all ∙ f.none) f.next-is
              (kept_on (kept-wider aimed.kept i (g.to + 1) (omega arith) (omega (arith, assigns-in))) f.kept) (f.written.place ∙ aimed.written.place) f.written.is)

module _ (code values : List ℕ) (undo : Bool) (i : ℕ) (mid : List ℕ) (r : Judged) (t : TargetJudged code values mid i r) where
  pub assigned-no-target : (broken : Breach) → r ≡ Err broken → Assigned code values mid undo i (Err broken)
  assigned-no-target broken e = record { is = λ c. assign-faulty code values undo i c mid r t broken e }

  module _ (bool : ValueType) (b : ℕ) (e : r ≡ Ok (bool, b)) (q : Bool) (call : IsCall (cells_of mid) (b + 1) q) (after : List ℕ) (p : Stepped) where
    pub assigned-call : q ≡ true → CallAssigned mid values after undo bool i b p → Assigned code values after undo i p
    assigned-call y x = record { is = λ c. call-answers code values undo i c mid r t bool b e q call y after p x }

    pub assigned-value : q ≡ false → ValueAssigned mid values after bool i b p → Assigned code values after undo i p
    assigned-value y x = record { is = λ c. value-answers code values undo i c mid r t bool b e q call y after p x }

-- ---- a name first
module _ (k : Setting) (code values : List ℕ) (undo : Bool) (u : undo ≡ is_undo k.list) (i s : ℕ) (es : s ≡ op_at (cells_of code) (i + 1)) where
  module _ (c : BeginsIn NAME k code values i) where
    abbrev g : Stands code values i
    g = c.begins.stands

    name-next : s ≡ sort_in g.around.known.W (i + 1)
    name-next = es ∙ stands-sort code values i g (i + 1) (omega arith) (omega (arith, stands_on code values i g))

    name-undo : undo ≡ in_undo g.around.K.list
    name-undo = u ∙ in-undo k.list g.around.K.list c.tells.list

    pub name-assigns : (s ≡ open_brace) ⊎ (s ≡ becomes) → Assigns code values undo i
    name-assigns (inl e) = record { begins = c.begins; undo-is = name-undo; behind = λ _. sym name-next ∙ e }
    name-assigns (inr e) = record { begins = c.begins; undo-is = name-undo; behind = λ d. absurd (d (sym name-next ∙ e)) }

    pub name-calls : ((s ≡ open_brace) ⊎ (s ≡ becomes) → ⊥) → CallsOf code values undo i
    name-calls d = record { begins = c.begins; undo-is = name-undo; no-becomes = λ q. d (inr (name-next ∙ q)); no-brace = λ q. d (inl (name-next ∙ q)) }

  module _ (after : List ℕ) (r : Stepped) where
    pub begun-assigned : (s ≡ open_brace) ⊎ (s ≡ becomes) → Assigned code values after undo i r → BegunIn NAME k code values after i r
    unfolding name-assigns
    begun-assigned (inl e) a = record { is = λ c. a.is (name-assigns c (inl e)) }
    begun-assigned (inr e) a = record { is = λ c. a.is (name-assigns c (inr e)) }

    pub begun-calls : ((s ≡ open_brace) ⊎ (s ≡ becomes) → ⊥) → CalledOf code values after undo i r → BegunIn NAME k code values after i r
    unfolding name-calls
    begun-calls d x = record { is = λ c. x.is (name-calls c d) }

-- ---- all
module _ (text code values : List ℕ) (k : Setting) (i : ℕ) where
  module _ (s : ℕ) (es : s ≡ op_at (cells_of code) i) where
    pub begins-in : (sort : ℕ) → s ≡ sort → Statement text code values k i → BeginsIn sort k code values i
    begins-in sort e g = record { begins = record { stands = g.stands; here = sym (statement-sort text code values k i s es g) ∙ e }; tells = g.tells }

    pub begins-of : (sort : ℕ) → s ≡ sort → Statement text code values k i → BeginsOf sort text code values i
    begins-of sort e g = record { begins = record { stands = g.stands; here = sym (statement-sort text code values k i s es g) ∙ e }; text-is = g.text-is }

    -- the last kind
    pub reads-left : (s ≡ NAME → ⊥) → (s ≡ RETURN → ⊥) → (s ≡ RAISE → ⊥) → (s ≡ EXIT → ⊥) → (s ≡ RETRY → ⊥) → (s ≡ TRYNEXT → ⊥) → (s ≡ TPWRITE → ⊥) → Statement text code values k i → s ≡ TPREADNUM
    unfolding starts_simple
    reads-left a b c d e f h g =
        let q : starts_simple s ≡ true = ap starts_simple (statement-sort text code values k i s es g) ∙ inversions.simple-starts (sort_in g.stands.around.known.W) (Parses (sort_in g.stands.around.known.W)) g.stands.is in
        eqb-true s TPREADNUM (simp (ne_eqb s NAME a, ne_eqb s RETURN b, ne_eqb s RAISE c, ne_eqb s EXIT d, ne_eqb s RETRY e, ne_eqb s TRYNEXT f, ne_eqb s TPWRITE h, starts_simple) at q)

    pub begins-read : (s ≡ NAME → ⊥) → (s ≡ RETURN → ⊥) → (s ≡ RAISE → ⊥) → (s ≡ EXIT → ⊥) → (s ≡ RETRY → ⊥) → (s ≡ TRYNEXT → ⊥) → (s ≡ TPWRITE → ⊥) → Statement text code values k i → BeginsOf TPREADNUM text code values i
    begins-read a b c d e f h g = begins-of TPREADNUM (reads-left a b c d e f h g) g

    module _ (after : List ℕ) (r : Stepped) where
      pub stated-in : (sort : ℕ) → s ≡ sort → BegunIn sort k code values after i r → Stated text code values after k i r
      unfolding begins-in
      stated-in sort e b = record { is = λ g. b.is (begins-in sort e g) }

      pub stated-write : s ≡ TPWRITE → BegunOf TPWRITE text code values after i r → Stated text code values after k i r
      unfolding begins-of
      stated-write e b = record { is = λ g. b.is (begins-of TPWRITE e g) }

      pub stated-read : (s ≡ NAME → ⊥) → (s ≡ RETURN → ⊥) → (s ≡ RAISE → ⊥) → (s ≡ EXIT → ⊥) → (s ≡ RETRY → ⊥) → (s ≡ TRYNEXT → ⊥) → (s ≡ TPWRITE → ⊥) → BegunOf TPREADNUM text code values after i r → Stated text code values after k i r
      unfolding begins-of
      stated-read u v w x y z t b = record { is = λ g. b.is (begins-of TPREADNUM (reads-left u v w x y z t g) g) }
