-- For every step there is room with which it lacks nothing: so a promise for all rooms settles its answer.
use mathlib.Core.Path.{◌≡◌, refl}
use mathlib.Core.Bool.{Bool, true, false}
use mathlib.Core.List.{List, [], ◌∷◌, ◌++◌}
use mathlib.Core.Option.{Option, none, some}
use Prim.Native.Nat.{ℕ, zero, suc, ◌+◌}
use native.Mathlib.Omega.{arith}
use lib.ListN.{length, drop, replicate}
use lib.IntN.{ℤ, pos}
use borrow.Author.Tests.{lt-ltb, le-leb}
use Rattle.laws.proofs.Tests.{false-true}
use Rattle.raised.proofs.Choices.{chosen, forked}
use Rattle.std.specs.Prelude.{if◌then◌else◌}
use Rattle.paper.specs.Words.{LF}
use Rattle.paper.specs.Numbers.{Value, value, error, num, ranged, is_zero, decimal}
use Rattle.paper.specs.Terms.{Term, Memory, Located, at, fails, locate, worth}
use Rattle.paper.specs.Steps.{Spot, scalar, element_of, Action, store, call_for, call_of, give_back, raise, hand_on, exit, retry, try_next, write, read, choose, select, test_while, enter_for, repeat_for, end_list, end_undo, Program}
use Rattle.paper.specs.States.{Loop, Location, Call, State, Rooms, Effect, failing, lacking, with_value, with_spot, with_values, location_of, memory_of}
use Rattle.paper.specs.Running.{code_at, calling, returning, adding, writing, taking, read_num, choosing, passes, looping, with_step, entering, repeating, ending_list, perform}
use Rattle.unique.proofs.Coming.{Suffices}

-- ---- what a step works out first
value-enough : (v : Value) (s : State) (go : ℤ → Effect) → ((z : ℤ) → Suffices (go z)) → Suffices (with_value v s go)
unfolding with_value Suffices
value-enough (value z) s go h = h z
value-enough (error e) s go h = tt

spot-enough : (M : Memory) (t : Spot) (s : State) (go : Location → Effect) → ((l : Location) → Suffices (go l)) → Suffices (with_spot M t s go)
unfolding with_spot Suffices
spot-enough M (scalar r) s go h = h _
spot-enough M (element_of r n e) s go h = located (locate r n (worth M e))
  where
    located : (l : Located) → Suffices (elim l [ at w ↦ go (location_of (length s.calls) w) | fails e' ↦ failing e' s ])
    located (at w) = h _
    located (fails e') = tt

values-enough : (M : Memory) (es : List Term) (s : State) (go : List ℤ → Effect) → ((zs : List ℤ) → Suffices (go zs)) → Suffices (with_values M es s go)
unfolding with_values
values-enough M [] s go h = h []
values-enough M (e ∷ es) s go h = value-enough (worth M e) s _ (λ z. values-enough M es s (λ zs. go (z ∷ zs)) (λ zs. h (z ∷ zs)))

-- ---- the rooms
room-enough : (b : Bool) (e : Effect) (n place : ℕ) → b ≡ true → Suffices e → Suffices (if b then e else lacking n place)
room-enough true e n place t h = h
room-enough false e n place t h = false-true t

-- One call more, so many bytes of output, and one input more.
wide : State → (output : ℕ) → Rooms
wide s n = record { depth = suc (length s.calls); output = n; inputs = replicate (suc s.used) (pos 0) }

-- room for a line
wide_for : State → (line : List ℕ) → Rooms
wide_for s line = wide s (length s.output + length line)

left_one : (u : ℕ) (z : ℤ) → drop u (replicate (suc u) z) ≡ z ∷ []
left_one zero z = refl
left_one (suc u) z = left_one u z

-- ---- each sort of step
module _ (s : State) where
  calling-enough : (P : Program) (n : ℕ) (M : Memory) (callee k : ℕ) (es : List Term) (result : Option Location) → Suffices (calling P (wide s n) M callee k es result s)
  unfolding calling Suffices wide
  calling-enough P n M callee k es result =
      values-enough M es s _ (λ args. room-enough _ _ 6 callee (lt-ltb (length s.calls) (suc (length s.calls)) (omega arith)) tt)

  adding-enough : (place : ℕ) (line : List ℕ) (go : State → Effect) → ((s' : State) → Suffices (go s')) → Suffices (adding (wide_for s line) place line s go)
  unfolding adding wide wide_for
  adding-enough place line go h = room-enough _ _ 8 place (le-leb (length s.output + length line) (length s.output + length line) (omega arith)) (h _)

  returning-enough : (P : Program) (c : Call) (r : List Call) (v : Option ℤ) → Suffices (returning P c r v s)
  unfolding returning Suffices
  returning-enough P c [] v = tt
  returning-enough P c (d ∷ r) v = tt

  taking-enough : (place after : ℕ) (l : Location) (inputs : List ℤ) (s' : State) → inputs ≡ pos 0 ∷ [] → Suffices (taking place after l inputs s')
  unfolding taking Suffices
  taking-enough place after l inputs s' e = rw (e, taking) (value-enough (ranged num (pos 0)) _ _ (λ v. tt))

  choosing-enough : (M : Memory) (arms : List (Term × ℕ)) (otherwise : ℕ) → Suffices (choosing M arms otherwise s)
  unfolding choosing Suffices
  choosing-enough M [] otherwise = tt
  choosing-enough M (a ∷ r) otherwise = value-enough (worth M a.0) s _ (λ z. forked Suffices (is_zero z) _ _ (choosing-enough M r otherwise) tt)

  looping-enough : (k : ℕ) (z : ℤ) (l : Loop) (body after : ℕ) (s' : State) → Suffices (looping k z l body after s')
  unfolding looping Suffices
  looping-enough k z l body after s' = chosen Suffices (passes z l) _ _ tt tt

  step-enough : (M : Memory) (t : Option Term) (z y : ℤ) (go : ℤ → Effect) → ((x : ℤ) → Suffices (go x)) → Suffices (with_step M t z y s go)
  unfolding with_step
  step-enough M none z y go h = h _
  step-enough M (some e) z y go h = value-enough (worth M e) s go h

  entering-enough : (M : Memory) (k : ℕ) (from to : Term) (step : Option Term) (body after : ℕ) → Suffices (entering M k from to step body after s)
  unfolding entering
  entering-enough M k from to step body after =
      value-enough (worth M from) s _ (λ z. value-enough (worth M to) s _ (λ y. step-enough M step z y _ (λ x. looping-enough k z _ body after _)))

  repeating-enough : (M : Memory) (c : Call) (k body after : ℕ) → Suffices (repeating M c k body after s)
  unfolding repeating
  repeating-enough M c k body after = looping-enough k _ _ body after s

  list-enough : (P : Program) (c : Call) (r : List Call) → Suffices (ending_list P c r s)
  unfolding ending_list Suffices
  list-enough P c r = chosen Suffices (code_at P c.routine).function _ _ tt (returning-enough P c r none)

-- Rooms with which a step lacks nothing.
module _ (P : Program) (c : Call) (r : List Call) (place after : ℕ) where
  pub record Enough (a : Action) (s : State) : Type 0 where
    pub rooms : Rooms
    pub lacks-nothing : Suffices (perform P rooms c r place after a s)

  writing-with : (text : List ℕ) (e : Term) (s : State) (v : Value) → worth (memory_of s c) e ≡ v → Enough (write text (some e)) s
  unfolding perform writing with_value Suffices
  writing-with text e s (value z) w = record {
    rooms = wide_for s (text ++ decimal z ++ (LF ∷ []));
    lacks-nothing = rw (w, with_value) (adding-enough s place (text ++ decimal z ++ (LF ∷ [])) _ (λ s'. tt));
  }
  writing-with text e s (error n) w = record { rooms = wide s 0; lacks-nothing = rw (w, with_value) tt }

  pub enough : (a : Action) (s : State) → Enough a s
  unfolding perform writing read_num wide wide_for Suffices
  enough (store t e) s = record { rooms = wide s 0; lacks-nothing = spot-enough _ t s _ (λ l. value-enough (worth _ e) s _ (λ z. tt)) }
  enough (call_for t callee k es) s = record { rooms = wide s 0; lacks-nothing = spot-enough _ t s _ (λ l. calling-enough s P 0 _ callee k es (some l)) }
  enough (call_of callee k es) s = record { rooms = wide s 0; lacks-nothing = calling-enough s P 0 _ callee k es none }
  enough (give_back none) s = record { rooms = wide s 0; lacks-nothing = returning-enough s P c r none }
  enough (give_back (some e)) s = record { rooms = wide s 0; lacks-nothing = value-enough (worth _ e) s _ (λ z. returning-enough s P c r (some z)) }
  enough (raise e) s = record { rooms = wide s 0; lacks-nothing = value-enough (worth _ e) s _ (λ z. tt) }
  enough hand_on s = record { rooms = wide s 0; lacks-nothing = tt }
  enough exit s = record { rooms = wide s 0; lacks-nothing = tt }
  enough retry s = record { rooms = wide s 0; lacks-nothing = tt }
  enough try_next s = record { rooms = wide s 0; lacks-nothing = tt }
  enough (write text none) s = record { rooms = wide_for s (text ++ (LF ∷ [])); lacks-nothing = adding-enough s place (text ++ (LF ∷ [])) _ (λ s'. tt) }
  enough (write text (some e)) s = writing-with text e s (worth (memory_of s c) e) refl
  enough (read t text) s = record {
    rooms = wide_for s (text ++ (LF ∷ []));
    lacks-nothing = spot-enough _ t s _ (λ l. adding-enough s place (text ++ (LF ∷ [])) _ (λ s'. taking-enough s place after l _ s' (left_one s.used (pos 0))));
  }
  enough (choose arms otherwise) s = record { rooms = wide s 0; lacks-nothing = choosing-enough s _ arms otherwise }
  enough (select e cs otherwise) s = record { rooms = wide s 0; lacks-nothing = value-enough (worth _ e) s _ (λ z. tt) }
  enough (test_while e body) s = record { rooms = wide s 0; lacks-nothing = value-enough (worth _ e) s _ (λ z. tt) }
  enough (enter_for k a b d body) s = record { rooms = wide s 0; lacks-nothing = entering-enough s _ k a b d body after }
  enough (repeat_for k body) s = record { rooms = wide s 0; lacks-nothing = repeating-enough s _ c k body after }
  enough end_list s = record { rooms = wide s 0; lacks-nothing = list-enough s P c r }
  enough end_undo s = record { rooms = wide s 0; lacks-nothing = tt }
