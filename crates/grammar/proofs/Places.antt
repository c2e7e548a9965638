-- Where the parts of what stands lie: everything but an empty list has a word, statements begin with their first words, and steps are named by words of their statements.
use mathlib.Core.Path.{◌≡◌, refl, sym, ap, ◌∙◌}
use mathlib.Core.Bool.{Bool, true, false}
use mathlib.Core.List.{List, [], ◌∷◌, ◌++◌}
use mathlib.Core.Option.{Option}
use Prim.Native.Nat.{ℕ, suc, ◌+◌, ◌-◌, ◌<◌, ◌≤◌}
use native.Mathlib.Omega.{arith}
use Rattle.laws.proofs.Tests.{false-true}
use Rattle.paper.specs.Words.{Word}
use Rattle.paper.specs.Trees.{Expr, Target, Simple, first_simple, Statement, Statements, Arms, Cases, Content, Declared, Parameter, RoutineList, Routine, Module}
use Rattle.paper.specs.Expressions.{nestings, starts_statement}
use Rattle.paper.specs.Names.{Scopes}
use Rattle.paper.specs.Terms.{Memory}
use Rattle.paper.specs.Steps.{Action, Step, step, first_word, begin, simple_step, steps_of, steps_of_list, steps_of_arms, steps_of_cases, list_steps}
use Rattle.grammar.specs.Places.{Within, no-step-left, one-step}
use Rattle.grammar.specs.Form.{SeparatedAt, last_one, one_more, ClosedAt, closed-at-once, closed-later, RepeatedAt, none-starts, one-starts}
use Rattle.grammar.specs.Form.{ExprAt, ExprsAt, ArgumentsAt, IndexAt, no_index, in-braces, TargetAt, OptionalAt, no_value, a-value, NumberAt, no_number, a-number}
use Rattle.grammar.specs.Form.{SimpleAt, assigning, assigning-call, calling, returning, raising, exiting, retrying, trying-next, writing, reading, StepAt, no_step, a-step, ForHeadAt}
use Rattle.grammar.specs.Form.{StatementAt, plain, compact, full, counting, looping, testing, ListAt, ended, begun, ArmsAt, last-arm, more-arms, ElseAt, no-else, an-else, CasesAt, no-more-cases, one-case, DefaultAt, no_default, a-default}
use Rattle.grammar.specs.Form.{ContentAt, no-content, initial, sized, constant, DeclaredAt, DeclarationsAt, ParameterAt, ParametersAt, RoutineListAt, ListBehindIn, no-list, a-list, HeadAt, a-proc, a-func, RoutineIn, RoutinesIn}

-- ---- first words
module _ (W : ℕ → ℕ) (E : (d at : ℕ) → Expr → (to : ℕ) → Type 0) where
  pub simple-first : {s : Simple} {at to : ℕ} → SimpleAt W E s at to → first_simple s ≡ at
  unfolding first_simple
  simple-first (assigning h b f k) = h.named
  simple-first (assigning-call h b i a o k c z) = h.named
  simple-first (calling i a f g k) = i
  simple-first (returning i a k) = i
  simple-first (raising i a k) = i
  simple-first (exiting i a z) = i
  simple-first (retrying i a z) = i
  simple-first (trying-next i a z) = i
  simple-first (writing i a j s k) = i
  simple-first (reading i a h c j s z) = i

  pub statement-first : {d : ℕ} {s : Statement} {at to : ℕ} → StatementAt W E d s at to → first_word s ≡ at
  unfolding first_word
  statement-first (plain k e z) = simple-first k
  statement-first (compact i a k f h c z) = i
  statement-first (full deep i a h k c z) = i
  statement-first (counting deep i h l e z) = i
  statement-first (looping deep i a k o l c z) = i
  statement-first (testing deep i a h l q t z) = i

  -- a list begins where it stands, or there is nothing in it
  pub list-begin : {d : ℕ} {l : Statements} {at to : ℕ} (after : ℕ) → ListAt W E d l at to → starts_statement (W at) ≡ true → begin l after ≡ at
  unfolding begin
  list-begin after (ended s e) q = false-true (sym s ∙ ap (λ (i : ℕ). starts_statement (W i)) e ∙ q)
  list-begin after (begun t k h) q = statement-first k

  pub list-begin-none : {d : ℕ} {l : Statements} {at to : ℕ} (after : ℕ) → ListAt W E d l at to → starts_statement (W at) ≡ false → begin l after ≡ after
  unfolding begin
  list-begin-none after (ended s e) q = refl
  list-begin-none after (begun t k h) q = false-true (sym q ∙ t)

-- ---- spans
module _ (W : ℕ → ℕ) {A : Type 0} (One : A → (at to : ℕ) → Type 0) (grows : (a : A) (at to : ℕ) → One a at to → at < to) where
  pub separated-grows : {l : List A} {at to : ℕ} → SeparatedAt W One l at to → at < to
  separated-grows (last_one {a = a} {at = at} {to = to} k f) = grows a at to k
  separated-grows (one_more {a = a} {at = at} {n = n} k c h) = omega (arith, grows a at n k, separated-grows h)

  pub closed-grows : {closing : ℕ} {l : List A} {at to : ℕ} → ClosedAt W One closing l at to → at ≤ to
  closed-grows (closed-at-once c e) = omega arith
  closed-grows (closed-later f h) = omega (arith, separated-grows h)

  pub repeated-grows : {starts : ℕ → Bool} {l : List A} {at to : ℕ} → RepeatedAt W starts One l at to → at ≤ to
  repeated-grows (none-starts s e) = omega arith
  repeated-grows (one-starts {a = a} {at = at} {n = n} s k h) = omega (arith, grows a at n k, repeated-grows h)

module _ (W : ℕ → ℕ) (E : (d at : ℕ) → Expr → (to : ℕ) → Type 0) (grows : (d at : ℕ) (e : Expr) (to : ℕ) → E d at e to → at < to) where
  expr-grows : (e : Expr) (at to : ℕ) → ExprAt W E e at to → at < to
  expr-grows e at to h = grows (suc nestings) at e to h

  pub exprs-grow : {es : List Expr} {at to : ℕ} → ExprsAt W E es at to → at < to
  exprs-grow h = separated-grows W (ExprAt W E) expr-grows h

  pub arguments-grow : {closing : ℕ} {es : List Expr} {at to : ℕ} → ArgumentsAt W E closing es at to → at ≤ to
  arguments-grow h = closed-grows W (ExprAt W E) expr-grows h

  pub index-grows : {o : Option Expr} {at to : ℕ} → IndexAt W E o at to → at ≤ to
  index-grows (no_index f e) = omega arith
  index-grows (in-braces b k c z) = omega (arith, grows _ _ _ _ k)

  pub target-grows : {t : Target} {at to : ℕ} → TargetAt W E t at to → at < to
  target-grows h = omega (arith, index-grows h.index)

  pub optional-grows : {o : Option Expr} {at to : ℕ} → OptionalAt W E o at to → at ≤ to
  optional-grows (no_value s e) = omega arith
  optional-grows (a-value f k) = omega (arith, grows _ _ _ _ k)

  pub number-grows : {o : Option Expr} {at to : ℕ} → NumberAt W E o at to → at ≤ to
  number-grows (no_number f e) = omega arith
  number-grows (a-number b n c k) = omega (arith, grows _ _ _ _ k)

  pub simple-grows : {s : Simple} {at to : ℕ} → SimpleAt W E s at to → at < to
  simple-grows (assigning h b f k) = omega (arith, target-grows h, grows _ _ _ _ k)
  simple-grows (assigning-call h b i a o k c z) = omega (arith, target-grows h, arguments-grow k)
  simple-grows (calling i a f g k) = omega (arith, arguments-grow k)
  simple-grows (returning i a k) = omega (arith, optional-grows k)
  simple-grows (raising i a k) = omega (arith, optional-grows k)
  simple-grows (exiting i a z) = omega arith
  simple-grows (retrying i a z) = omega arith
  simple-grows (trying-next i a z) = omega arith
  simple-grows (writing i a j s k) = omega (arith, number-grows k)
  simple-grows (reading i a h c j s z) = omega (arith, target-grows h)

  pub step-grows : {o : Option Expr} {at to : ℕ} → StepAt W E o at to → at ≤ to
  step-grows (no_step f e) = omega arith
  step-grows (a-step s k) = omega (arith, grows _ _ _ _ k)

  pub for-head-grows : {v : ℕ} {a b : Expr} {c : Option Expr} {at do_at : ℕ} → ForHeadAt W E v a b c at do_at → at < do_at
  for-head-grows h = omega (arith, grows _ _ _ _ h.start, grows _ _ _ _ h.end, step-grows h.step_part)

  mutual
    pub statement-grows : {d : ℕ} {s : Statement} {at to : ℕ} → StatementAt W E d s at to → at < to
    statement-grows (plain k e z) = omega (arith, simple-grows k)
    statement-grows (compact i a k f h c z) = omega (arith, grows _ _ _ _ k, simple-grows h)
    statement-grows (full deep i a h k c z) = omega (arith, arms-grow h, else-grows k)
    statement-grows (counting deep i h l e z) = omega (arith, for-head-grows h, list-grows l)
    statement-grows (looping deep i a k o l c z) = omega (arith, grows _ _ _ _ k, list-grows l)
    statement-grows (testing deep i a h l q t z) = omega (arith, grows _ _ _ _ h, cases-grow l, default-grows q)

    pub list-grows : {d : ℕ} {l : Statements} {at to : ℕ} → ListAt W E d l at to → at ≤ to
    list-grows (ended s e) = omega arith
    list-grows (begun t k h) = omega (arith, statement-grows k, list-grows h)

    pub arms-grow : {d : ℕ} {a : Arms} {at to : ℕ} → ArmsAt W E d a at to → at < to
    arms-grow (last-arm k t l f) = omega (arith, grows _ _ _ _ k, list-grows l)
    arms-grow (more-arms k t l c h) = omega (arith, grows _ _ _ _ k, list-grows l, arms-grow h)

    pub else-grows : {d : ℕ} {o : Statements} {at to : ℕ} → ElseAt W E d o at to → at ≤ to
    else-grows (no-else f e) = omega arith
    else-grows (an-else c h) = omega (arith, list-grows h)

    pub cases-grow : {d : ℕ} {c : Cases} {at to : ℕ} → CasesAt W E d c at to → at ≤ to
    cases-grow (no-more-cases f e) = omega arith
    cases-grow (one-case c k o l h) = omega (arith, exprs-grow k, list-grows l, cases-grow h)

    pub default-grows : {d : ℕ} {o : Statements} {at to : ℕ} → DefaultAt W E d o at to → at ≤ to
    default-grows (no_default f e) = omega arith
    default-grows (a-default c i h) = omega (arith, list-grows h)

  pub content-grows : {opens : ℕ} {x : Content} {at to : ℕ} → ContentAt W E opens x at to → at ≤ to
  content-grows (no-content v f g e) = omega arith
  content-grows (initial v b k) = omega (arith, grows _ _ _ _ k)
  content-grows (sized v b k c z) = omega (arith, grows _ _ _ _ k)
  content-grows (constant v b k) = omega (arith, grows _ _ _ _ k)

  pub declared-grows : (x : Declared) (at to : ℕ) → DeclaredAt W E x at to → at < to
  declared-grows x at to h = omega (arith, content-grows h.content, h.after)

  pub declarations-grow : {ds : List Declared} {at to : ℕ} → DeclarationsAt W E ds at to → at ≤ to
  declarations-grow h = repeated-grows W (DeclaredAt W E) declared-grows h

  pub parameter-grows : (p : Parameter) (at to : ℕ) → ParameterAt W E p at to → at < to
  parameter-grows p at to h = omega (arith, h.after)

  pub parameters-grow : {ps : List Parameter} {at to : ℕ} → ParametersAt W E ps at to → at ≤ to
  parameters-grow h = closed-grows W (ParameterAt W E) parameter-grows h

  pub behind-grows : {N sort : ℕ} {o : Option RoutineList} {at to : ℕ} → ListBehindIn W E N sort o at to → at ≤ to
  behind-grows (no-list f e) = omega arith
  behind-grows (a-list c h) = omega (arith, list-grows h.statements)

  pub head-grows : {result : Option ℕ} {closing at name : ℕ} → HeadAt W E result closing at name → at < name
  head-grows (a-proc p n c) = omega arith
  head-grows (a-func p t k n c) = omega arith

  pub routine-grows : {N : ℕ} (r : Routine) (at to : ℕ) → RoutineIn W E N r at to → at < to
  routine-grows r at to h =
      omega (arith, head-grows h.head, parameters-grow h.parameters, declarations-grow h.declared, list-grows h.body.statements, behind-grows h.handler, behind-grows h.undo, h.after)

  pub routines-grow : {N : ℕ} {rs : List Routine} {at to : ℕ} → RoutinesIn W E N rs at to → at ≤ to
  routines-grow {N} h = repeated-grows W (RoutineIn W E N) routine-grows h

  -- ---- steps are named by words from a on and before b
  module _ (T : List Word) (M : Memory) (a b : ℕ) where
    named-within : (s : Step) (i : ℕ) → s.name ≡ i → a ≤ i → i < b → Within a b (s ∷ [])
    named-within s i e h g = one-step {s = s} (omega arith) (omega arith) no-step-left

    one-within : (i : ℕ) (around : List ℕ) (after : ℕ) (x : Action) → a ≤ i → i < b → Within a b (step i around after x)
    unfolding step
    one-within i around after x h g = named-within _ i refl h g

    infixl 4 ◌and◌
    ◌and◌ : {l r : List Step} → Within a b l → Within a b r → Within a b (l ++ r)
    no-step-left and k = k
    one-step h g l and k = one-step h g (l and k)

    simple-within : {s : Simple} {at to : ℕ} → SimpleAt W E s at to → a ≤ at → to ≤ b → (S : Scopes) (around : List ℕ) (after : ℕ) → Within a b (simple_step T S s around after)
    unfolding simple_step
    simple-within {s} k h g S around after = one-within (first_simple s) around after _ (omega (arith, simple-first W E k)) (omega (arith, simple-first W E k, simple-grows k))

    mutual
      unfolding steps_of

      pub statement-within : {d : ℕ} {s : Statement} {at to : ℕ} → StatementAt W E d s at to → a ≤ at → to ≤ b → (S : Scopes) (n : ℕ) (around : List ℕ) (after : ℕ)
          → Within a b (steps_of T M s S n around after)
      statement-within (plain k e z) h g S n around after = simple-within k h (omega arith) S around after
      statement-within (compact {i = j} i w k f q c z) h g S n around after =
          one-within j around after _ (omega arith) (omega (arith, grows _ _ _ _ k, simple-grows q))
          and simple-within q (omega (arith, grows _ _ _ _ k)) (omega arith) S around after
      statement-within (full {i = j} deep i w p k c z) h g S n around after =
          one-within j around after _ (omega arith) (omega (arith, arms-grow p, else-grows k))
          and arms-within p (omega arith) (omega (arith, else-grows k)) S n around after
          and else-within k (omega (arith, arms-grow p)) (omega arith) S _ around after
      statement-within (counting {i = j} {end = end} deep i p l e z) h g S n around after =
          one-within j around after _ (omega arith) (omega (arith, for-head-grows p, list-grows l))
          and list-within l (omega (arith, for-head-grows p)) (omega arith) _ _ _ end
          and named-within _ end refl (omega (arith, for-head-grows p, list-grows l)) (omega arith)
      statement-within (looping {i = j} deep i w k o l c z) h g S n around after =
          one-within j around after _ (omega arith) (omega (arith, grows _ _ _ _ k, list-grows l))
          and list-within l (omega (arith, grows _ _ _ _ k)) (omega arith) S n around j
      statement-within (testing {i = j} deep i w k l q t z) h g S n around after =
          one-within j around after _ (omega arith) (omega (arith, grows _ _ _ _ k, cases-grow l, default-grows q))
          and cases-within l (omega (arith, grows _ _ _ _ k)) (omega (arith, default-grows q)) S n around after
          and default-within q (omega (arith, grows _ _ _ _ k, cases-grow l)) (omega arith) S _ around after

      pub list-within : {d : ℕ} {l : Statements} {at to : ℕ} → ListAt W E d l at to → a ≤ at → to ≤ b → (S : Scopes) (n : ℕ) (around : List ℕ) (after : ℕ)
          → Within a b (steps_of_list T M l S n around after)
      list-within (ended s e) h g S n around after = no-step-left
      list-within (begun t k r) h g S n around after =
          statement-within k h (omega (arith, list-grows r)) S n around _
          and list-within r (omega (arith, statement-grows k)) g S _ around after

      pub arms-within : {d : ℕ} {x : Arms} {at to : ℕ} → ArmsAt W E d x at to → a ≤ at → to ≤ b → (S : Scopes) (n : ℕ) (around : List ℕ) (after : ℕ)
          → Within a b (steps_of_arms T M x S n around after)
      arms-within (last-arm k t l f) h g S n around after = list-within l (omega (arith, grows _ _ _ _ k)) g S n around after and no-step-left
      arms-within (more-arms k t l c r) h g S n around after =
          list-within l (omega (arith, grows _ _ _ _ k)) (omega (arith, arms-grow r)) S n around after
          and arms-within r (omega (arith, grows _ _ _ _ k, list-grows l)) g S _ around after

      pub else-within : {d : ℕ} {o : Statements} {at to : ℕ} → ElseAt W E d o at to → a ≤ at → to ≤ b → (S : Scopes) (n : ℕ) (around : List ℕ) (after : ℕ)
          → Within a b (steps_of_list T M o S n around after)
      else-within (no-else f e) h g S n around after = no-step-left
      else-within (an-else c l) h g S n around after = list-within l (omega arith) g S n around after

      pub cases-within : {d : ℕ} {c : Cases} {at to : ℕ} → CasesAt W E d c at to → a ≤ at → to ≤ b → (S : Scopes) (n : ℕ) (around : List ℕ) (after : ℕ)
          → Within a b (steps_of_cases T M c S n around after)
      cases-within (no-more-cases f e) h g S n around after = no-step-left
      cases-within (one-case c k o l r) h g S n around after =
          list-within l (omega (arith, exprs-grow k)) (omega (arith, cases-grow r)) S n around after
          and cases-within r (omega (arith, exprs-grow k, list-grows l)) g S _ around after

      pub default-within : {d : ℕ} {o : Statements} {at to : ℕ} → DefaultAt W E d o at to → a ≤ at → to ≤ b → (S : Scopes) (n : ℕ) (around : List ℕ) (after : ℕ)
          → Within a b (steps_of_list T M o S n around after)
      default-within (no_default f e) h g S n around after = no-step-left
      default-within (a-default c i l) h g S n around after = list-within l (omega arith) g S n around after

    -- a routine's list, with the step that is its end
    pub routine-list-within : {l : RoutineList} {at to : ℕ} → RoutineListAt W E l at to → a ≤ at → to < b → (end : Action) (S : Scopes) (n : ℕ) → Within a b (list_steps T end M S n l)
    unfolding list_steps
    routine-list-within {l} k h g end S n =
        list-within k.statements h (omega arith) S n [] l.closes
        and one-within l.closes [] l.closes _ (omega (arith, list-grows k.statements, k.closes)) (omega (arith, k.closes))
