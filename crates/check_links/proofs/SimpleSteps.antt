-- What a run reads at the word of a simple statement.
use mathlib.Core.Path.{◌≡◌, ap, ◌∙◌}
use mathlib.Core.Bool.{Bool, true, false, not}
use mathlib.Core.List.{List}
use mathlib.Core.Option.{Option, none, some}
use Prim.Native.Nat.{ℕ, ◌+◌, ◌<◌, ◌≤◌}
use native.Mathlib.Omega.{arith}
use borrow.Author.Tests.{lt-ltb, le-ltb}
use Rattle.laws.proofs.Tests.{test}
use Rattle.std.specs.Prelude.{if◌then◌else◌}
use Rattle.paper.specs.Terms.{Term}
use Rattle.paper.specs.Trees.{Simple, first_simple, assign, assign_call, call, returns, raises, exits, retries, tries_next, writes, reads}
use Rattle.paper.specs.Names.{Scopes}
use Rattle.paper.specs.Checks.{WhichList, the_body, the_handler, the_undo}
use Rattle.paper.specs.Steps.{Spot, Action, store, call_for, call_of, give_back, raise, hand_on, exit, retry, try_next, write, read, optional_term, action_of}
use Rattle.code.specs.Cells.{op_at, value_at, place_at, link_at}
use Rattle.code.specs.Spans.{guard, ◌then◌, term_in}
use Rattle.code.specs.Steps.{a_target, a_call_target, a_procedure_call, Head, target_in, any_arguments, callee_in, characters_in, linked, store_in, call_for_in, call_of_in, with_term, write_in, write_of_in, read_in, compact_if_in, if_in, while_in}
use Rattle.code.specs.Steps.{for_in, for_test_in, test_in, action_in, step_in, a_compact_if, a_return_of, a_return, a_raise_of, a_raise, an_exit, a_retry, a_try_next, a_write, a_write_of, a_read, an_if, a_while, a_for, a_for_test, a_test}
use Rattle.code.specs.Holds.{CalleeIn}
use Rattle.code.proofs.Options.{goes}
use Rattle.check_links.specs.Raw.{Ground, RawDoes, end_of, ending_of}

-- The module has m words, the routine n, and it is a function or is none; `text` is the module's, `R` its routines, `C` the cells.
module _ (m n : ℕ) (fn : Bool) (text : List ℕ) (R : List Head) (C : List ℕ) where
  -- a step from its action
  pub reads-step : (i out place : ℕ) (a : Action) → place_at C i ≡ place → action_in m n fn text R C i ≡ some (out, a)
      → step_in m n fn text R C i ≡ some (record { offset = place; after = out; does = a })
  unfolding step_in
  reads-step i out place a e h =
      goes (action_in m n fn text R C i) (λ r. some (record { offset = place_at C i; after = r.0; does = r.1 })) (out, a) h
      ∙ ap (λ (o : ℕ). some (record { offset = o; after = out; does = a })) e

  -- ---- actions by their ops
  module _ (i : ℕ) where
    acts-store : a_target ≤ op_at C i → op_at C i < a_call_target → action_in m n fn text R C i ≡ store_in m n fn text R C i
    unfolding action_in
    acts-store l h = rw (le-ltb (op_at C i) a_target l, action_in) (rw (lt-ltb (op_at C i) a_call_target h))

    acts-call-for : a_call_target ≤ op_at C i → op_at C i < a_procedure_call → action_in m n fn text R C i ≡ call_for_in m n fn text R C i
    unfolding action_in
    acts-call-for l h = rw (le-ltb (op_at C i) a_target (omega arith), action_in) (rw (le-ltb (op_at C i) a_call_target l) (rw (lt-ltb (op_at C i) a_procedure_call h)))

    acts-call-of : op_at C i ≡ a_procedure_call → action_in m n fn text R C i ≡ call_of_in m n fn text R C i
    unfolding action_in
    acts-call-of h = rw (h, action_in)

    acts-return-of : op_at C i ≡ a_return_of → action_in m n fn text R C i ≡ guard fn i then (λ j. with_term m n fn text R C j (λ e. give_back (some e)))
    unfolding action_in
    acts-return-of h = rw (h, action_in)

    acts-return : op_at C i ≡ a_return → action_in m n fn text R C i ≡ guard (not fn) (link_at C i, give_back none)
    unfolding action_in linked
    acts-return h = rw (h, action_in)

    acts-raise-of : op_at C i ≡ a_raise_of → action_in m n fn text R C i ≡ with_term m n fn text R C i raise
    unfolding action_in
    acts-raise-of h = rw (h, action_in)

    acts-raise : op_at C i ≡ a_raise → action_in m n fn text R C i ≡ some (link_at C i, hand_on)
    unfolding action_in linked
    acts-raise h = rw (h, action_in)

    acts-exit : op_at C i ≡ an_exit → action_in m n fn text R C i ≡ some (link_at C i, exit)
    unfolding action_in linked
    acts-exit h = rw (h, action_in)

    acts-retry : op_at C i ≡ a_retry → action_in m n fn text R C i ≡ some (link_at C i, retry)
    unfolding action_in linked
    acts-retry h = rw (h, action_in)

    acts-try-next : op_at C i ≡ a_try_next → action_in m n fn text R C i ≡ some (link_at C i, try_next)
    unfolding action_in linked
    acts-try-next h = rw (h, action_in)

    acts-write : op_at C i ≡ a_write → action_in m n fn text R C i ≡ write_in m n fn text R C i
    unfolding action_in
    acts-write h = rw (h, action_in)

    acts-write-of : op_at C i ≡ a_write_of → action_in m n fn text R C i ≡ write_of_in m n fn text R C i
    unfolding action_in
    acts-write-of h = rw (h, action_in)

    acts-read : op_at C i ≡ a_read → action_in m n fn text R C i ≡ read_in m n fn text R C i
    unfolding action_in
    acts-read h = rw (h, action_in)

    pub acts-compact-if : op_at C i ≡ a_compact_if → action_in m n fn text R C i ≡ compact_if_in m n fn text R C i
    unfolding action_in
    acts-compact-if h = rw (h, action_in)

    pub acts-if : op_at C i ≡ an_if → action_in m n fn text R C i ≡ if_in m n fn text R C i
    unfolding action_in
    acts-if h = rw (h, action_in)

    pub acts-while : op_at C i ≡ a_while → action_in m n fn text R C i ≡ while_in m n fn text R C i
    unfolding action_in
    acts-while h = rw (h, action_in)

    pub acts-for : op_at C i ≡ a_for → action_in m n fn text R C i ≡ for_in m n fn text R C i then (λ a. some (linked m n fn text R C i a))
    unfolding action_in
    acts-for h = rw (h, action_in)

    pub acts-for-test : op_at C i ≡ a_for_test → action_in m n fn text R C i ≡ for_test_in m n fn text R C i
    unfolding action_in
    acts-for-test h = rw (h, action_in)

    pub acts-test : op_at C i ≡ a_test → action_in m n fn text R C i ≡ test_in m n fn text R C i
    unfolding action_in
    acts-test h = rw (h, action_in)

    pub acts-end : (which : WhichList) → op_at C i ≡ end_of which fn → action_in m n fn text R C i ≡ some (i, ending_of which)
    unfolding action_in end_of ending_of guard
    acts-end the_body h = test fn (λ t. rw (h, action_in) (rw t)) (λ t. rw (h, action_in) (rw t))
    acts-end the_handler h = test fn (λ t. rw (h, action_in) (rw t)) (λ t. rw (h, action_in) (rw t))
    acts-end the_undo h = rw (h, action_in)

    -- ---- what they read
    module _ (out : ℕ) (leaves : link_at C i ≡ out) where
      links-on : (a : Action) → ◌≡◌ {A = Option (ℕ × Action)} (some (link_at C i, a)) (some (out, a))
      links-on a = ap (λ (l : ℕ). some (l, a)) leaves

      reads-store : (b z : ℕ) (s : Spot) (t : Term) → target_in m n fn text R C a_target i ≡ some (s, b) → link_at C b ≡ z → term_in m n C (b + 1) z ≡ some t
          → store_in m n fn text R C i ≡ some (out, store s t)
      unfolding store_in linked
      reads-store b z s t e l f =
          goes (target_in m n fn text R C a_target i) (λ s. term_in m n C (s.1 + 1) (link_at C s.1) then (λ e. some (link_at C i, store s.0 e))) (s, b) e
          ∙ goes (term_in m n C (b + 1) (link_at C b)) (λ e. some (link_at C i, store s e)) t (ap (term_in m n C (b + 1)) l ∙ f)
          ∙ links-on (store s t)

      reads-call-for : (b f z k : ℕ) (s : Spot) (ts : List Term) → f ≡ b + 1 → target_in m n fn text R C a_call_target i ≡ some (s, b)
          → any_arguments m n fn text R C (b + 3) (link_at C f) ≡ some (ts, z) → callee_in m n fn text R C true f ts ≡ some k
          → call_for_in m n fn text R C i ≡ some (out, call_for s f k ts)
      unfolding call_for_in linked
      reads-call-for b f z k s ts q e a c =
          goes (target_in m n fn text R C a_call_target i)
          (λ s. any_arguments m n fn text R C (s.1 + 3) (link_at C (s.1 + 1)) then (λ es.
          callee_in m n fn text R C true (s.1 + 1) es.0 then (λ k. some (link_at C i, call_for s.0 (s.1 + 1) k es.0)))) (s, b) e
          ∙ rw (← q)
          (goes (any_arguments m n fn text R C (b + 3) (link_at C f)) (λ es. callee_in m n fn text R C true f es.0 then (λ k. some (link_at C i, call_for s f k es.0))) (ts, z) a
          ∙ goes (callee_in m n fn text R C true f ts) (λ k. some (link_at C i, call_for s f k ts)) k c
          ∙ links-on (call_for s f k ts))

      pub reads-with : (t : Term) (f : Term → Action) → term_in m n C (i + 1) (value_at C i) ≡ some t → with_term m n fn text R C i f ≡ some (out, f t)
      unfolding with_term linked
      reads-with t f e = goes (term_in m n C (i + 1) (value_at C i)) (λ e. some (link_at C i, f e)) t e ∙ links-on (f t)

      reads-write : (s : List ℕ) → characters_in m n fn text R C (i + 1) ≡ some s → write_in m n fn text R C i ≡ some (out, write s none)
      unfolding write_in linked
      reads-write s e = goes (characters_in m n fn text R C (i + 1)) (λ s. some (link_at C i, write s none)) s e ∙ links-on (write s none)

      reads-write-of : (s : List ℕ) (t : Term) → characters_in m n fn text R C (i + 1) ≡ some s → term_in m n C (i + 5) (value_at C i) ≡ some t
          → write_of_in m n fn text R C i ≡ some (out, write s (some t))
      unfolding write_of_in linked
      reads-write-of s t e f =
          goes (characters_in m n fn text R C (i + 1)) (λ s. term_in m n C (i + 5) (value_at C i) then (λ e. some (link_at C i, write s (some e)))) s e
          ∙ goes (term_in m n C (i + 5) (value_at C i)) (λ e. some (link_at C i, write s (some e))) t f
          ∙ links-on (write s (some t))

      reads-read : (s : Spot) (b : ℕ) (t : List ℕ) → target_in m n fn text R C a_target (i + 1) ≡ some (s, b) → characters_in m n fn text R C (value_at C i) ≡ some t
          → read_in m n fn text R C i ≡ some (out, read s t)
      unfolding read_in linked
      reads-read s b t e f =
          goes (target_in m n fn text R C a_target (i + 1)) (λ s. characters_in m n fn text R C (value_at C i) then (λ t. some (link_at C i, read s.0 t))) (s, b) e
          ∙ goes (characters_in m n fn text R C (value_at C i)) (λ t. some (link_at C i, read s t)) t f
          ∙ links-on (read s t)

    reads-call-of : (z k out : ℕ) (ts : List Term) → any_arguments m n fn text R C (i + 1) (link_at C i) ≡ some (ts, z) → callee_in m n fn text R C false i ts ≡ some k → link_at C z ≡ out
        → call_of_in m n fn text R C i ≡ some (out, call_of i k ts)
    unfolding call_of_in
    reads-call-of z k out ts a c l =
        goes (any_arguments m n fn text R C (i + 1) (link_at C i)) (λ es. callee_in m n fn text R C false i es.0 then (λ k. some (link_at C es.1, call_of i k es.0))) (ts, z) a
        ∙ goes (callee_in m n fn text R C false i ts) (λ k. some (link_at C z, call_of i k ts)) k c
        ∙ ap (λ (o : ℕ). some (o, call_of i k ts)) l

-- ---- simple statements
module _ (g : Ground) (n : ℕ) (C : List ℕ) (S : Scopes) (at to out : ℕ) where
  reads-return-of : (t : Term) → op_at C at ≡ a_return_of → link_at C at ≡ out → g.function ≡ true → term_in g.m n C (at + 1) (value_at C at) ≡ some t
      → action_in g.m n g.function g.text g.R C at ≡ some (out, give_back (some t))
  unfolding guard ◌then◌
  reads-return-of t o l f e =
      acts-return-of g.m n g.function g.text g.R C at o
      ∙ rw f (reads-with g.m n true g.text g.R C at out l t (λ e. give_back (some e)) e)

  reads-return : op_at C at ≡ a_return → link_at C at ≡ out → g.function ≡ false → action_in g.m n g.function g.text g.R C at ≡ some (out, give_back none)
  unfolding guard
  reads-return o l f = acts-return g.m n g.function g.text g.R C at o ∙ rw (f, l)

  pub does-read : (s : Simple) → first_simple s ≡ at → RawDoes g n C S s at to out → action_in g.m n g.function g.text g.R C at ≡ some (out, action_of g.W S s)
  unfolding RawDoes first_simple action_of optional_term
  does-read (assign t e) f x =
      acts-store g.m n g.function g.text g.R C at x.target.low x.target.high
      ∙ reads-store g.m n g.function g.text g.R C at out x.leaves x.b x.z _ _ x.target.is x.term.link x.term.term.is
  does-read (assign_call t q es) f x =
      acts-call-for g.m n g.function g.text g.R C at x.target.low x.target.high
      ∙ reads-call-for g.m n g.function g.text g.R C at out x.leaves x.b q x.z _ _ _ x.name x.target.is x.arguments.is x.callee.is
  does-read (call q es) f x =
      acts-call-of g.m n g.function g.text g.R C at x.op
      ∙ rw f (reads-call-of g.m n g.function g.text g.R C at x.z _ out _ x.arguments.is (rw f at x.callee.is) x.closes.leaves)
  does-read (returns i none) f x = reads-return x.word.is x.word.leaves x.no-function
  does-read (returns i (some e)) f x = reads-return-of _ x.valued.word.is x.valued.word.leaves x.a-function x.valued.term.is
  does-read (raises i none) f x = acts-raise g.m n g.function g.text g.R C at x.is ∙ ap (λ (l : ℕ). some (l, hand_on)) x.leaves
  does-read (raises i (some e)) f x =
      acts-raise-of g.m n g.function g.text g.R C at x.word.is
      ∙ reads-with g.m n g.function g.text g.R C at out x.word.leaves _ raise x.term.is
  does-read (exits i) f x = acts-exit g.m n g.function g.text g.R C at x.is ∙ ap (λ (l : ℕ). some (l, exit)) x.leaves
  does-read (retries i) f x = acts-retry g.m n g.function g.text g.R C at x.is ∙ ap (λ (l : ℕ). some (l, retry)) x.leaves
  does-read (tries_next i) f x = acts-try-next g.m n g.function g.text g.R C at x.is ∙ ap (λ (l : ℕ). some (l, try_next)) x.leaves
  does-read (writes i s none) f x =
      acts-write g.m n g.function g.text g.R C at x.word.is
      ∙ reads-write g.m n g.function g.text g.R C at out x.word.leaves _ x.text.is
  does-read (writes i s (some e)) f x =
      acts-write-of g.m n g.function g.text g.R C at x.valued.word.is
      ∙ reads-write-of g.m n g.function g.text g.R C at out x.valued.word.leaves _ _ x.text.is x.valued.term.is
  does-read (reads i t s) f x =
      acts-read g.m n g.function g.text g.R C at x.word.is
      ∙ reads-read g.m n g.function g.text g.R C at out x.word.leaves _ x.b _ x.target.is x.text.is

  -- a callee's word
  pub does_call : (s : Simple) → RawDoes g n C S s at to out → CalleeIn g.R g.offset C (action_of g.W S s)
  unfolding RawDoes action_of CalleeIn
  does_call (assign t e) x = tt
  does_call (assign_call t q es) x = (x.callee.place, x.callee.among)
  does_call (call q es) x = (x.callee.place, x.callee.among)
  does_call (returns i e) x = tt
  does_call (raises i none) x = tt
  does_call (raises i (some e)) x = tt
  does_call (exits i) x = tt
  does_call (retries i) x = tt
  does_call (tries_next i) x = tt
  does_call (writes i s e) x = tt
  does_call (reads i t s) x = tt

  -- a simple statement's word is a step's
  pub does_op : (s : Simple) → RawDoes g n C S s at to out → op_at C at < a_compact_if
  unfolding RawDoes
  does_op (assign t e) x = omega (arith, x.target.high)
  does_op (assign_call t q es) x = omega (arith, x.target.high)
  does_op (call q es) x = omega (arith, x.op)
  does_op (returns i none) x = omega (arith, x.word.is)
  does_op (returns i (some e)) x = omega (arith, x.valued.word.is)
  does_op (raises i none) x = omega (arith, x.is)
  does_op (raises i (some e)) x = omega (arith, x.word.is)
  does_op (exits i) x = omega (arith, x.is)
  does_op (retries i) x = omega (arith, x.is)
  does_op (tries_next i) x = omega (arith, x.is)
  does_op (writes i s none) x = omega (arith, x.word.is)
  does_op (writes i s (some e)) x = omega (arith, x.valued.word.is)
  does_op (reads i t s) x = omega (arith, x.word.is)
