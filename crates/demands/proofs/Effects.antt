-- The centre of demand 3: a step that lacks nothing does the same with more room. One law for each thing that a step works out on its way, one for each room,
-- then one case for each sort of step.
use mathlib.Core.Path.{◌≡◌, refl, ap}
use mathlib.Core.Bool.{Bool, true, false}
use mathlib.Core.List.{List, [], ◌∷◌, ◌++◌}
use mathlib.Core.Option.{Option, none, some}
use Prim.Native.Nat.{ℕ, zero, suc, ◌≤◌}
use native.Mathlib.Omega.{arith}
use lib.Dec.{ltb, leb}
use lib.ListN.{length, drop}
use lib.IntN.{ℤ}
use borrow.Author.Tests.{ltb-true, leb-true, lt-ltb, le-leb}
use Rattle.laws.proofs.Tests.{apart, false-true}
use Rattle.std.specs.Prelude.{if◌then◌else◌}
use Rattle.paper.specs.Numbers.{Value, value, error}
use Rattle.paper.specs.Terms.{Term, Memory, Located, at, fails, locate, worth}
use Rattle.paper.specs.Steps.{Spot, scalar, element_of, Action, store, call_for, call_of, give_back, raise, hand_on, exit, retry, try_next, write, read, choose, select, test_while, enter_for, repeat_for, end_list, end_undo, Program}
use Rattle.paper.specs.States.{Location, Call, State, Rooms, Effect, failing, lacking, with_value, with_spot, with_values, location_of}
use Rattle.paper.specs.Running.{calling, adding, taking, writing, read_num, perform}
use Rattle.demands.specs.Vocabulary.{Begins}

-- A run may use at least as much.
pub record RoomsAtLeast (R R' : Rooms) : Type 0 where
  pub depth : R.depth ≤ R'.depth
  pub output : R.output ≤ R'.output
  pub inputs : Begins R.inputs R'.inputs

-- Two effects of one step: the same, or the first lacked room.
pub data SameOrLacks : Effect → Effect → Type 0 where
  same : (e : Effect) → SameOrLacks e e
  lacked : (n place : ℕ) (e : Effect) → 6 ≤ n → n ≤ 8 → SameOrLacks (lacking n place) e

-- ---- what a step works out first
value-more : (v : Value) (s : State) (go go' : ℤ → Effect) → ((z : ℤ) → SameOrLacks (go z) (go' z)) → SameOrLacks (with_value v s go) (with_value v s go')
unfolding with_value
value-more (value z) s go go' h = h z
value-more (error e) s go go' h = same _

spot-more : (M : Memory) (t : Spot) (s : State) (go go' : Location → Effect) → ((l : Location) → SameOrLacks (go l) (go' l)) → SameOrLacks (with_spot M t s go) (with_spot M t s go')
unfolding with_spot
spot-more M (scalar r) s go go' h = h _
spot-more M (element_of r n e) s go go' h = located (locate r n (worth M e))
  where
    onward : Located → (Location → Effect) → Effect
    onward l f = elim l [ at w ↦ f (location_of (length s.calls) w) | fails e' ↦ failing e' s ]

    located : (l : Located) → SameOrLacks (onward l go) (onward l go')
    located (at w) = h _
    located (fails e') = same _

values-more : (M : Memory) (es : List Term) (s : State) (go go' : List ℤ → Effect) → ((zs : List ℤ) → SameOrLacks (go zs) (go' zs)) → SameOrLacks (with_values M es s go) (with_values M es s go')
unfolding with_values
values-more M [] s go go' h = h []
values-more M (e ∷ es) s go go' h =
    value-more (worth M e) s _ _ (λ z. values-more M es s (λ zs. go (z ∷ zs)) (λ zs. go' (z ∷ zs)) (λ zs. h (z ∷ zs)))

-- ---- the rooms
-- A test for room that holds with less holds with more.
room-more : (n place : ℕ) (b b' : Bool) (e e' : Effect) → 6 ≤ n → n ≤ 8 → (b ≡ true → b' ≡ true) → SameOrLacks e e'
    → SameOrLacks (if b then e else lacking n place) (if b' then e' else lacking n place)
room-more n place true true e e' l h t r = r
room-more n place true false e e' l h t r = false-true (t refl)
room-more n place false b' e e' l h t r = lacked n place _ l h

-- What is left of the inputs begins alike.
left-more : {A : Type 0} (u : ℕ) (a t : List A) (z : A) (r : List A) → drop u a ≡ z ∷ r → (r' : List A) × (drop u (a ++ t) ≡ z ∷ r')
left-more zero [] t z r h = apart (cc)
left-more zero (x ∷ a) t z r h =
    let e : x ≡ z = cc in
    (a ++ t, ap (λ y. y ∷ (a ++ t)) e)
left-more (suc u) [] t z r h = apart (cc)
left-more (suc u) (x ∷ a) t z r h = left-more u a t z r h

-- A test against a larger number.
less-more : (n a b : ℕ) → a ≤ b → ltb n a ≡ true → ltb n b ≡ true
less-more n a b h t = lt-ltb n b (omega (arith, ltb-true n a t))

most-more : (n a b : ℕ) → a ≤ b → leb n a ≡ true → leb n b ≡ true
most-more n a b h t = le-leb n b (omega (arith, leb-true n a t))

module _ (R R' : Rooms) (more : RoomsAtLeast R R') where
  -- call depth
  calling-more : (P : Program) (M : Memory) (callee k : ℕ) (es : List Term) (result : Option Location) (s : State)
      → SameOrLacks (calling P R M callee k es result s) (calling P R' M callee k es result s)
  unfolding calling
  calling-more P M callee k es result s =
      values-more M es s _ _ (λ args. room-more 6 callee _ _ _ _ (omega arith) (omega arith) (less-more _ _ _ more.depth) (same _))

  -- output
  adding-more : (place : ℕ) (line : List ℕ) (s : State) (go go' : State → Effect) → ((s' : State) → SameOrLacks (go s') (go' s'))
      → SameOrLacks (adding R place line s go) (adding R' place line s go')
  unfolding adding
  adding-more place line s go go' h = room-more 8 place _ _ _ _ (omega arith) (omega arith) (most-more _ _ _ more.output) (h _)

  -- inputs
  taking-more : (place after : ℕ) (l : Location) (u : ℕ) (s : State) → SameOrLacks (taking place after l (drop u R.inputs) s) (taking place after l (drop u R'.inputs) s)
  unfolding taking
  taking-more place after l u s = taken (drop u R.inputs) refl
    where
      taken : (i : List ℤ) → drop u R.inputs ≡ i → SameOrLacks (taking place after l i s) (taking place after l (drop u R'.inputs) s)
      taken [] e = lacked 7 place _ (omega arith) (omega arith)
      taken (z ∷ r) e =
          let (r', e') = left-more u R.inputs more.inputs.rest z r e in
          let e'' : drop u R'.inputs ≡ z ∷ r' = rw (← more.inputs.whole) e' in
          rw e'' (same _)

  -- ---- each sort of step
  writing_more : (M : Memory) (place after : ℕ) (text : List ℕ) (e : Option Term) (s : State)
      → SameOrLacks (writing R M place after text e s) (writing R' M place after text e s)
  unfolding writing
  writing_more M place after text none s = adding-more place _ s _ _ (λ s'. same _)
  writing_more M place after text (some e) s = value-more (worth M e) s _ _ (λ z. adding-more place _ s _ _ (λ s'. same _))

  read_num-more : (M : Memory) (place after : ℕ) (t : Spot) (text : List ℕ) (s : State)
      → SameOrLacks (read_num R M place after t text s) (read_num R' M place after t text s)
  unfolding read_num
  read_num-more M place after t text s =
      spot-more M t s _ _ (λ l. adding-more place _ s _ _ (λ s'. taking-more place after l s.used s'))

  pub perform-more : (P : Program) (c : Call) (r : List Call) (place after : ℕ) (a : Action) (s : State)
      → SameOrLacks (perform P R c r place after a s) (perform P R' c r place after a s)
  unfolding perform
  perform-more P c r place after (store t e) s = same _
  perform-more P c r place after (call_for t callee k es) s = spot-more _ t s _ _ (λ l. calling-more P _ callee k es (some l) s)
  perform-more P c r place after (call_of callee k es) s = calling-more P _ callee k es none s
  perform-more P c r place after (give_back none) s = same _
  perform-more P c r place after (give_back (some e)) s = same _
  perform-more P c r place after (raise e) s = same _
  perform-more P c r place after hand_on s = same _
  perform-more P c r place after exit s = same _
  perform-more P c r place after retry s = same _
  perform-more P c r place after try_next s = same _
  perform-more P c r place after (write text e) s = writing_more _ place after text e s
  perform-more P c r place after (read t text) s = read_num-more _ place after t text s
  perform-more P c r place after (choose arms otherwise) s = same _
  perform-more P c r place after (select e cs otherwise) s = same _
  perform-more P c r place after (test_while e body) s = same _
  perform-more P c r place after (enter_for k a b d body) s = same _
  perform-more P c r place after (repeat_for k body) s = same _
  perform-more P c r place after end_list s = same _
  perform-more P c r place after end_undo s = same _
