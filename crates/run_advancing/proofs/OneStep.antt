-- One step, by the rules of a run or by those of an aborted one.
use mathlib.Core.Path.{◌≡◌, refl, sym, ap, ◌∙◌}
use mathlib.Core.Bool.{Bool, true, false}
use mathlib.Core.List.{List, [], ◌∷◌, ◌++◌}
use mathlib.Core.Option.{Option, none, some}
use Prim.Native.Nat.{ℕ, ◌+◌}
use lib.Dec.{ltb, leb}
use lib.ListN.{length, get_or}
use lib.IntN.{ℤ}
use Rattle.raised.proofs.Choices.{chosen, forked}
use Rattle.paper.specs.Numbers.{Value, value, error, num, ranged, is_zero}
use Rattle.paper.specs.Terms.{Term, Memory, Located, at, fails, locate, worth}
use Rattle.paper.specs.Steps.{Spot, scalar, element_of, Action, store, call_for, call_of, give_back, raise, hand_on, exit, retry, try_next, write, read, choose, select, test_while, enter_for, repeat_for, end_list, end_undo, Program}
use Rattle.paper.specs.States.{Loop, Location, Call, State, Rooms, Effect, made, failing, handing, ending, lacking, counted, with_errno, with_output, with_value, with_spot, with_values, location_of}
use Rattle.paper.specs.Running.{code_at, next_step, calling, returning, adding, writing, taking, read_num, choosing, passes, looping, with_step, entering, repeating, ending_list, perform, arising, goes_on, stopping, settled, take_step}
use Rattle.paper.specs.Undoing.{leaving, undone, undo_step}
use Rattle.code.specs.Cells.{window_of, errno_cell}
use Rattle.code.specs.Steps.{Head}
use Rattle.code.specs.Windows.{call_in, waiting, state_in}
use Rattle.run_machine.specs.Machine.{effect_at}
use Rattle.run_advancing.specs.Turns.{turned, outcome}

-- ---- a step that fails leaves the calls as they were
unfoldable Keeps : List Call → Effect → Type 0
Keeps cs (made s) = Unit {0}
Keeps cs (failing e s) = s.calls ≡ cs
Keeps cs (handing s) = Unit {0}
Keeps cs (ending n s) = Unit {0}
Keeps cs (lacking n place) = Unit {0}

module _ (cs : List Call) where
  value_keeps : (v : Value) (s : State) (go : ℤ → Effect) → s.calls ≡ cs → ((z : ℤ) → Keeps cs (go z)) → Keeps cs (with_value v s go)
  unfolding with_value Keeps
  value_keeps (value z) s go e h = h z
  value_keeps (error n) s go e h = e

  spot-keeps : (M : Memory) (t : Spot) (s : State) (go : Location → Effect) → s.calls ≡ cs → ((l : Location) → Keeps cs (go l)) → Keeps cs (with_spot M t s go)
  unfolding with_spot Keeps
  spot-keeps M (scalar r) s go e h = h _
  spot-keeps M (element_of r n x) s go e h = located (locate r n (worth M x))
    where
      located : (l : Located) → Keeps cs (elim l [ at w ↦ go (location_of (length s.calls) w) | fails e' ↦ failing e' s ])
      located (at w) = h _
      located (fails e') = e

  values-keep : (M : Memory) (es : List Term) (s : State) (go : List ℤ → Effect) → s.calls ≡ cs → ((zs : List ℤ) → Keeps cs (go zs)) → Keeps cs (with_values M es s go)
  unfolding with_values
  values-keep M [] s go e h = h []
  values-keep M (x ∷ es) s go e h = value_keeps (worth M x) s _ e (λ z. values-keep M es s (λ zs. go (z ∷ zs)) e (λ zs. h (z ∷ zs)))

  -- each sort of step
  module _ (s : State) (e : s.calls ≡ cs) where
    calling-keeps : (P : Program) (R : Rooms) (M : Memory) (callee k : ℕ) (es : List Term) (result : Option Location) → Keeps cs (calling P R M callee k es result s)
    unfolding calling Keeps
    calling-keeps P R M callee k es result = values-keep M es s _ e (λ args. chosen (Keeps cs) (ltb (length s.calls) R.depth) _ _ tt tt)

    returning-keeps : (P : Program) (c : Call) (r : List Call) (v : Option ℤ) → Keeps cs (returning P c r v s)
    unfolding returning Keeps
    returning-keeps P c [] v = tt
    returning-keeps P c (d ∷ r) v = tt

    adding-keeps : (R : Rooms) (place : ℕ) (line : List ℕ) (go : State → Effect) → ((s' : State) → s'.calls ≡ cs → Keeps cs (go s')) → Keeps cs (adding R place line s go)
    unfolding adding Keeps
    adding-keeps R place line go h = chosen (Keeps cs) (leb (length s.output + length line) R.output) _ _ (h (with_output (s.output ++ line) s) e) tt

    taking-keeps : (place after : ℕ) (l : Location) (inputs : List ℤ) → Keeps cs (taking place after l inputs s)
    unfolding taking Keeps
    taking-keeps place after l [] = tt
    taking-keeps place after l (z ∷ rest) = value_keeps (ranged num z) _ _ e (λ v. tt)

    choosing-keeps : (M : Memory) (arms : List (Term × ℕ)) (otherwise : ℕ) → Keeps cs (choosing M arms otherwise s)
    unfolding choosing Keeps
    choosing-keeps M [] otherwise = tt
    choosing-keeps M (a ∷ r) otherwise = value_keeps (worth M a.0) s _ e (λ z. forked (Keeps cs) (is_zero z) _ _ (choosing-keeps M r otherwise) tt)

    step_keeps : (M : Memory) (t : Option Term) (z y : ℤ) (go : ℤ → Effect) → ((x : ℤ) → Keeps cs (go x)) → Keeps cs (with_step M t z y s go)
    unfolding with_step
    step_keeps M none z y go h = h _
    step_keeps M (some x) z y go h = value_keeps (worth M x) s go e h

  looping-keeps : (k : ℕ) (z : ℤ) (l : Loop) (body after : ℕ) (s : State) → Keeps cs (looping k z l body after s)
  unfolding looping Keeps
  looping-keeps k z l body after s = chosen (Keeps cs) (passes z l) _ _ tt tt

module _ (P : Program) (R : Rooms) (c : Call) (r : List Call) (place after : ℕ) where
  perform-keeps : (a : Action) (s : State) → Keeps s.calls (perform P R c r place after a s)
  unfolding perform writing read_num entering repeating ending_list Keeps
  perform-keeps (store t e) s = spot-keeps _ _ t s _ refl (λ l. value_keeps _ (worth _ e) s _ refl (λ z. tt))
  perform-keeps (call_for t callee k es) s = spot-keeps _ _ t s _ refl (λ l. calling-keeps _ s refl P R _ callee k es (some l))
  perform-keeps (call_of callee k es) s = calling-keeps _ s refl P R _ callee k es none
  perform-keeps (give_back none) s = returning-keeps _ s refl P c r none
  perform-keeps (give_back (some e)) s = value_keeps _ (worth _ e) s _ refl (λ z. returning-keeps _ s refl P c r (some z))
  perform-keeps (raise e) s = value_keeps _ (worth _ e) s _ refl (λ z. refl)
  perform-keeps hand_on s = tt
  perform-keeps exit s = tt
  perform-keeps retry s = tt
  perform-keeps try_next s = tt
  perform-keeps (write text none) s = adding-keeps _ s refl R place _ _ (λ s' q. tt)
  perform-keeps (write text (some e)) s = value_keeps _ (worth _ e) s _ refl (λ z. adding-keeps _ s refl R place _ _ (λ s' q. tt))
  perform-keeps (read t text) s = spot-keeps _ _ t s _ refl (λ l. adding-keeps _ s refl R place _ _ (λ s' q. taking-keeps _ s' q place after l _))
  perform-keeps (choose arms otherwise) s = choosing-keeps _ s refl _ arms otherwise
  perform-keeps (select e cs otherwise) s = value_keeps _ (worth _ e) s _ refl (λ z. tt)
  perform-keeps (test_while e body) s = value_keeps _ (worth _ e) s _ refl (λ z. tt)
  perform-keeps (enter_for k a b d body) s =
      value_keeps _ (worth _ a) s _ refl (λ z. value_keeps _ (worth _ b) s _ refl (λ y. step_keeps _ s refl _ d z y _ (λ x. looping-keeps _ k z _ body after _)))
  perform-keeps (repeat_for k body) s = looping-keeps _ k _ _ body after s
  perform-keeps end_list s = chosen (Keeps s.calls) (code_at P c.routine).function _ _ tt (returning-keeps _ s refl P c r none)
  perform-keeps end_undo s = tt

-- ---- a step of the call that the value store X has on top
module _ (P : Program) (rooms : Rooms) (R : List Head) (X : List ℕ) (d i k : ℕ) (out : List ℕ) where
  abbrev pub state : State
  state = state_in P R X d i k out

  abbrev pub place_now : ℕ
  place_now = (next_step P (call_in P R X (window_of d) i)).place

  abbrev pub effect : Effect
  effect = effect_at P R rooms X d i k out

  -- the callers, where it fails and leaves the store as X'
  pub failed-calls : (X' out' : List ℕ) (e : ℕ) → effect ≡ failing e (state_in P R X' d i k out') → waiting P R X' d ≡ waiting P R X d
  unfolding effect_at state_in Keeps
  failed-calls X' out' e q =
      let n = next_step P (call_in P R X (window_of d) i) in
      let same : Keeps state.calls (failing e (state_in P R X' d i k out')) = rw q at (perform-keeps P rooms (call_in P R X (window_of d) i) (waiting P R X d) n.place n.after n.does state) in
      ap tail same
    where
      tail : List Call → List Call
      tail [] = []
      tail (c ∷ r) = r

  -- what the rules make of it
  pub turned-is : (a : Bool) → turned a P rooms state ≡ outcome a P place_now (waiting P R X d) state effect
  unfolding turned outcome take_step undo_step state_in effect_at
  turned-is false = refl
  turned-is true = refl

  pub turned-made : (a : Bool) (S : State) → effect ≡ made S → turned a P rooms state ≡ goes_on (counted S)
  unfolding outcome settled undone
  turned-made false S q = turned-is false ∙ ap (outcome false P place_now (waiting P R X d) state) q
  turned-made true S q = turned-is true ∙ ap (outcome true P place_now (waiting P R X d) state) q

  pub counted_is : counted state ≡ state_in P R X d i (k + 1) out
  unfolding state_in
  counted_is = refl

-- A failed step comes to the same whatever was before it, but for its callers.
pub failed-outcome : (a : Bool) (P : Program) (place : ℕ) (r r' : List Call) (s s' t : State) (e : ℕ) (E : Effect) → E ≡ failing e t → r' ≡ r → outcome a P place r s E ≡ outcome a P place r' s' E
unfolding outcome settled undone
failed-outcome a P place r r' s s' t e E q c = ap (outcome a P place r s) q ∙ same a ∙ sym (ap (outcome a P place r' s') q)
  where
    same : (a : Bool) → outcome a P place r s (failing e t) ≡ outcome a P place r' s' (failing e t)
    same false = refl
    same true = ap (λ (cs : List Call). leaving P cs (with_errno e t)) (sym c)

-- Where something lacks nothing is done.
pub lacks-stops : (a : Bool) (P : Program) (place : ℕ) (r : List Call) (s : State) (n k : ℕ) → outcome a P place r s (lacking n k) ≡ stopping false n k s
unfolding outcome settled undone
lacks-stops false P place r s n k = refl
lacks-stops true P place r s n k = refl

-- By the rules of a run an error arises.
module _ (P : Program) (place : ℕ) (R : List Head) (X : List ℕ) (d i k : ℕ) (out : List ℕ) where
  pub fails-arises : (r : List Call) (s : State) (e : ℕ)
      → outcome false P place r s (failing e (state_in P R X d i k out)) ≡ arising P e place (state_in P R X d i (k + 1) out).calls (state_in P R X d i (k + 1) out)
  unfolding outcome settled state_in
  fails-arises r s e = refl

  pub ends-stops : (r : List Call) (s : State) (n : ℕ) → outcome false P place r s (ending n (state_in P R X d i k out)) ≡ stopping true n place (state_in P R X d i (k + 1) out)
  unfolding outcome settled state_in
  ends-stops r s n = refl

  pub hands-arises : (s : State) → outcome false P place (waiting P R X d) s (handing (state_in P R X d i k out)) ≡ arising P (get_or X errno_cell 0) place (waiting P R X d) (state_in P R X d i (k + 1) out)
  unfolding outcome settled state_in
  hands-arises s = refl
