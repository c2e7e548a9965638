-- The places of a module's steps, and the words that call, are words of the module: how offsets past its last word are counted does not matter.
use mathlib.Core.Path.{◌≡◌, ap, ◌∙◌}
use mathlib.Core.List.{List, [], ◌++◌, map}
use mathlib.Core.Option.{Option, none, some}
use Prim.Native.Nat.{ℕ, zero, suc, ◌<◌, ◌≤◌}
use native.Mathlib.Omega.{arith}
use lib.ListN.{length, get_or}
use Rattle.laws.specs.Options.{WhereSome}
use Rattle.laws.proofs.Options.{where-both}
use Rattle.paper.specs.Words.{Word}
use Rattle.paper.specs.Terms.{Memory}
use Rattle.paper.specs.Trees.{Expr, Simple, first_simple, Statement, Statements, Arms, Cases, RoutineList, Routine, Module}
use Rattle.paper.specs.Names.{Scopes, sort_in}
use Rattle.paper.specs.Declarations.{module_data}
use Rattle.paper.specs.Steps.{Action, end_list, end_undo, parts_of, Step, Code, step, action_of, simple_step, steps_of, steps_of_list, steps_of_arms, steps_of_cases, list_steps, optional_steps, code_of, program_of}
use Rattle.paper.specs.Running.{no_code, code_at}
use Rattle.code.specs.Steps.{Head, no_head}
use Rattle.code.specs.Closed.{Every, done, also}
use Rattle.code.specs.Holds.{known, CalleeIn, HoldsRoutine, Holds}
use Rattle.grammar.specs.Form.{SimpleAt, assigning, assigning-call, calling, returning, raising, exiting, retrying, trying-next, writing, reading}
use Rattle.grammar.specs.Form.{StatementAt, plain, compact, full, counting, looping, testing, ListAt, ended, begun, ArmsAt, last-arm, more-arms, ElseAt, no-else, an-else, CasesAt, no-more-cases, one-case, DefaultAt, no_default, a-default}
use Rattle.grammar.specs.Form.{Parses, none-starts, one-starts, RoutineListAt, ListBehindAt, no-list, a-list, RoutineAt, RoutinesAt}
use Rattle.grammar.proofs.Places.{arguments-grow, simple-first, simple-grows, list-grows, arms-grow, else-grows, cases-grow, default-grows, for-head-grows, behind-grows, routines-grow}
use Rattle.faults.proofs.Expressions.{grows}

-- ---- steps of the first n words
unfoldable CallsIn : (n : ℕ) → Action → Type 0
CallsIn n a = WhereSome (λ c. c.0 < n) (parts_of a).callee

record Inward (n : ℕ) (s : Step) : Type 0 where
  place : s.place < n
  calls : CallsIn n s.does

infixl 4 ◌and◌
◌and◌ : {A : Step → Type 0} {l r : List Step} → Every A l → Every A r → Every A (l ++ r)
done and k = k
also h l and k = also h (l and k)

module _ (T : List Word) (b : ℕ) where
  abbrev W : ℕ → ℕ
  W = sort_in T

  abbrev E : (d at : ℕ) → Expr → (to : ℕ) → Type 0
  E = Parses (sort_in T)

  abbrev on : (d at : ℕ) (e : Expr) (to : ℕ) → E d at e to → at < to
  on = grows T

  abbrev In : List Step → Type 0
  In = Every (Inward b)

  one_in : (i : ℕ) (around : List ℕ) (after : ℕ) (x : Action) → i < b → CallsIn b x → In (step i around after x)
  unfolding step
  one_in i around after x h c = also (record { place = h; calls = c }) done

  action-in : {s : Simple} {at to : ℕ} → SimpleAt W E s at to → to ≤ b → (S : Scopes) → CallsIn b (action_of T S s)
  unfolding CallsIn action_of
  action-in (assigning h c f k) g S = tt
  action-in (assigning-call h c i a o k z q) g S = omega (arith, arguments-grow W E on k)
  action-in (calling i a f e k) g S = omega (arith, arguments-grow W E on k)
  action-in (returning i a k) g S = tt
  action-in (raising {e = none} i a k) g S = tt
  action-in (raising {e = some e} i a k) g S = tt
  action-in (exiting i a z) g S = tt
  action-in (retrying i a z) g S = tt
  action-in (trying-next i a z) g S = tt
  action-in (writing i a j s k) g S = tt
  action-in (reading i a h c j s z) g S = tt

  simple-in : {s : Simple} {at to : ℕ} → SimpleAt W E s at to → to ≤ b → (S : Scopes) (around : List ℕ) (after : ℕ) → In (simple_step T S s around after)
  unfolding simple_step
  simple-in {s} k g S around after = one_in (first_simple s) around after _ (omega (arith, simple-first W E k, simple-grows W E on k)) (action-in k g S)

  module _ (M : Memory) where
    mutual
      unfolding steps_of CallsIn

      statement-in : {d : ℕ} {s : Statement} {at to : ℕ} → StatementAt W E d s at to → to ≤ b → (S : Scopes) (n : ℕ) (around : List ℕ) (after : ℕ) → In (steps_of T M s S n around after)
      statement-in (plain k e z) g S n around after = simple-in k (omega arith) S around after
      statement-in (compact {i = j} i w k f q c z) g S n around after =
          one_in j around after _ (omega (arith, on _ _ _ _ k, simple-grows W E on q)) tt and simple-in q (omega arith) S around after
      statement-in (full {i = j} deep i w p k c z) g S n around after =
          one_in j around after _ (omega (arith, arms-grow W E on p, else-grows W E on k)) tt
          and arms-in p (omega (arith, else-grows W E on k)) S n around after
          and else-in k (omega arith) S _ around after
      statement-in (counting {i = j} {end = end} deep i p l e z) g S n around after =
          one_in j around after _ (omega (arith, for-head-grows W E on p, list-grows W E on l)) tt
          and list-in l (omega arith) _ _ _ end
          and also (record { place = omega (arith, for-head-grows W E on p, list-grows W E on l); calls = tt }) done
      statement-in (looping {i = j} deep i w k o l c z) g S n around after =
          one_in j around after _ (omega (arith, on _ _ _ _ k, list-grows W E on l)) tt and list-in l (omega arith) S n around j
      statement-in (testing {i = j} deep i w k l q t z) g S n around after =
          one_in j around after _ (omega (arith, on _ _ _ _ k, cases-grow W E on l, default-grows W E on q)) tt
          and cases-in l (omega (arith, default-grows W E on q)) S n around after
          and default-in q (omega arith) S _ around after

      list-in : {d : ℕ} {l : Statements} {at to : ℕ} → ListAt W E d l at to → to ≤ b → (S : Scopes) (n : ℕ) (around : List ℕ) (after : ℕ) → In (steps_of_list T M l S n around after)
      list-in (ended s e) g S n around after = done
      list-in (begun t k r) g S n around after = statement-in k (omega (arith, list-grows W E on r)) S n around _ and list-in r g S _ around after

      arms-in : {d : ℕ} {x : Arms} {at to : ℕ} → ArmsAt W E d x at to → to ≤ b → (S : Scopes) (n : ℕ) (around : List ℕ) (after : ℕ) → In (steps_of_arms T M x S n around after)
      arms-in (last-arm k t l f) g S n around after = list-in l g S n around after and done
      arms-in (more-arms k t l c r) g S n around after = list-in l (omega (arith, arms-grow W E on r)) S n around after and arms-in r g S _ around after

      else-in : {d : ℕ} {o : Statements} {at to : ℕ} → ElseAt W E d o at to → to ≤ b → (S : Scopes) (n : ℕ) (around : List ℕ) (after : ℕ) → In (steps_of_list T M o S n around after)
      else-in (no-else f e) g S n around after = done
      else-in (an-else c l) g S n around after = list-in l g S n around after

      cases-in : {d : ℕ} {c : Cases} {at to : ℕ} → CasesAt W E d c at to → to ≤ b → (S : Scopes) (n : ℕ) (around : List ℕ) (after : ℕ) → In (steps_of_cases T M c S n around after)
      cases-in (no-more-cases f e) g S n around after = done
      cases-in (one-case c k o l r) g S n around after = list-in l (omega (arith, cases-grow W E on r)) S n around after and cases-in r g S _ around after

      default-in : {d : ℕ} {o : Statements} {at to : ℕ} → DefaultAt W E d o at to → to ≤ b → (S : Scopes) (n : ℕ) (around : List ℕ) (after : ℕ) → In (steps_of_list T M o S n around after)
      default-in (no_default f e) g S n around after = done
      default-in (a-default c i l) g S n around after = list-in l g S n around after

    -- the lists of a routine, with their ends
    lines-in : {l : RoutineList} {at to : ℕ} (end : Action) → CallsIn b end → RoutineListAt W E l at to → to < b → (S : Scopes) (n : ℕ) → In (list_steps T end M S n l)
    unfolding list_steps
    lines-in {l} end c k g S n = list-in k.statements (omega (arith, k.closes)) S n [] l.closes and one_in l.closes [] l.closes end (omega (arith, k.closes)) c

    behind-in : {sort : ℕ} {o : Option RoutineList} {at to : ℕ} (end : Action) → CallsIn b end → ListBehindAt W E sort o at to → to < b → (S : Scopes) (n : ℕ) → In (optional_steps T end M S n o)
    unfolding optional_steps
    behind-in end c (no-list f e) g S n = done
    behind-in end c (a-list w k) g S n = lines-in end c k g S n

  code_in : (m : Module) (r : Routine) (at to : ℕ) → RoutineAt W E r at to → to ≤ b → In (code_of T m r).steps
  unfolding code_of CallsIn
  code_in m r at to f g =
      let h = behind-grows W E on f.handler in
      let u = behind-grows W E on f.undo in
      let z = f.after in
      lines-in _ end_list tt f.body (omega arith) _ _ and behind-in _ end_list tt f.handler (omega arith) _ _ and behind-in _ end_undo tt f.undo (omega arith) _ _

  codes-in : (m : Module) (rs : List Routine) (at to : ℕ) → RoutinesAt W E rs at to → to ≤ b → (k : ℕ) → In (get_or (map (code_of T m) rs) k no_code).steps
  unfolding no_code
  codes-in m rs at to (none-starts s e) g k = done
  codes-in m rs at to (one-starts {a = r} {r = qs} {n = n} s one more) g zero = code_in m r at n one (omega (arith, routines-grow W E on more))
  codes-in m rs at to (one-starts {a = r} {r = qs} {n = n} s one more) g (suc k) = codes-in m qs n to more g k

-- ---- offsets
two-every : {A B F : Step → Type 0} {l : List Step} → ((s : Step) → A s → B s → F s) → Every A l → Every B l → Every F l
two-every f done done = done
two-every f (also {s = s} a l) (also b r) = also (f s a b) (two-every f l r)

module _ (n : ℕ) (o p : ℕ → ℕ) (same : (i : ℕ) → i < n → o i ≡ p i) where
  known_same : (s : Step) → Inward n s → known o s ≡ known p s
  unfolding known
  known_same s i = ap (λ (x : ℕ). record { offset = x; after = s.after; does = s.does }) (same s.place i.place)

  callee_same : (R : List Head) (C : List ℕ) (a : Action) → CallsIn n a → CalleeIn R o C a → CalleeIn R p C a
  unfolding CalleeIn CallsIn
  callee_same R C a = where-both (parts_of a).callee (λ c h x. (x.0 ∙ same c.0 h, x.1))

  routine_same : (m : ℕ) (text : List ℕ) (R : List Head) (C : List ℕ) (h : Head) (c : Code) → Every (Inward n) c.steps → HoldsRoutine m text R o C h c → HoldsRoutine m text R p C h c
  routine_same m text R C h c i x = record {
    function-is = x.function-is;
    start_is = x.start_is;
    handler-is = x.handler-is;
    undo-is = x.undo-is;
    starts = x.starts;
    opens = x.opens;
    data_is = x.data_is;
    words_are = x.words_are;
    fors-are = x.fors-are;
    room = x.room;
    steps-are = two-every (λ s a e. e ∙ ap some (known_same s a)) i x.steps-are;
    callees-are = two-every (λ s a e. callee_same R C s.does a.calls e) i x.callees-are;
    closed = x.closed;
    small = x.small;
    loops-fit = x.loops-fit;
    head_small = x.head_small;
  }

  pub offsets-same : (W : List Word) (m : Module) (text : List ℕ) (R : List Head) (C : List ℕ) (at end : ℕ) → RoutinesAt (sort_in W) (Parses (sort_in W)) m.routines at end → end ≤ n
      → Holds text R o C (program_of W m) → Holds text R p C (program_of W m)
  unfolding program_of code_at
  offsets-same W m text R C at end f g x = record {
    as_many = x.as_many;
    room = x.room;
    apart = x.apart;
    routines = λ k h. routine_same (length (module_data W m).words) text R C (get_or R k no_head) (get_or (map (code_of W m) m.routines) k no_code) (codes-in W n m m.routines at end f g k) (x.routines k h);
  }
