-- What a step can do, whatever it is: one case for each sort of step. All that is said of runs rests on this.
use mathlib.Core.Path.{◌≡◌, refl, ap, ◌∙◌}
use mathlib.Core.Bool.{Bool, true, false}
use mathlib.Core.List.{List, [], ◌∷◌, ◌++◌, map}
use mathlib.Core.Option.{Option, none, some}
use Prim.Native.Nat.{ℕ, suc, ◌+◌, ◌≤◌, ◌<◌}
use native.Mathlib.Omega.{arith}
use lib.Dec.{eqb, ltb}
use lib.ListN.{length, drop, set, length-drop}
use lib.IntN.{ℤ}
use borrow.Author.Tests.{leb-true, eqb-false}
use Rattle.std.specs.Prelude.{if◌then◌else◌}
use Rattle.paper.specs.Numbers.{Value, value, error, num, ranged, is_zero}
use Rattle.paper.specs.Terms.{Ref, of_module, of_routine, Term, Memory, Located, at, fails, locate, worth}
use Rattle.paper.specs.Steps.{Spot, scalar, element_of, Action, store, call_for, call_of, give_back, raise, hand_on, exit, retry, try_next, write, read, choose, select, test_while, enter_for, repeat_for, end_list, end_undo, Program}
use Rattle.paper.specs.States.{Loop, Location, module_slot, call_slot, Call, State, Rooms, Effect, made, failing, handing, ending, lacking, with_value}
use Rattle.paper.specs.States.{with_spot, with_values, with_calls, with_words, with_output, with_input, location_of, on_top, on_depth, go_to, set_word, set_loop, set_failed, store_at}
use Rattle.paper.specs.Running.{new_call, resume, calling, store_result, returning, retrying, trying_next, adding, taking, writing, read_num, choosing, holds, matching, looping, passes, with_step, entering, repeating, ending_list, perform, code_at, step_of}
use Rattle.raised.proofs.Choices.{chosen, chosen_by, forked, forked-by}
use Rattle.demands.proofs.Errors.{Sound, SoundPlace, locate-sound, worth-sound, ranged-sound, raised-number}
use Rattle.demands.specs.Vocabulary.{ErrorNumber, bare, CallsRoutine, for-result, for-nothing, Returns, by-return, at-its-end, Among, here, there, ways_of, GoesOn, CallsAfter, goes-on, begins, returns, retries, tries-next}

-- A state later in one step: its calls, a word, a line of output, an input are other ones or more; nothing else changes.
pub data Changed (R : Rooms) (s : State) : State → Type 0 where
  unchanged : Changed R s s
  with-calls : {s' : State} (c : List Call) → Changed R s s' → Changed R s (with_calls c s')
  with-word : {s' : State} (k : ℕ) (v : ℤ) → Changed R s s' → Changed R s (with_words (set s'.words k v) s')
  with-line : {s' : State} (line : List ℕ) → length s'.output + length line ≤ R.output → Changed R s s' → Changed R s (with_output (s'.output ++ line) s')
  with-input : {s' : State} → s'.used < length R.inputs → Changed R s s' → Changed R s (with_input s')

-- The endings of a step that is made, of a function or a procedure: 1, 2 and 4.
pub data OwnEnding (function : Bool) (a : Action) : ℕ → Type 0 where
  returned : OwnEnding function a 1
  exited : a ≡ exit → OwnEnding function a 2
  unreturned : function ≡ true → a ≡ end_list → OwnEnding function a 4
  -- no run comes to such a step but in an abort, which does not end there
  undo-ended : a ≡ end_undo → OwnEnding function a 4

-- The callee's word of a call statement.
pub data Callee (callee : ℕ) : Action → Type 0 where
  of_function : (t : Spot) (k : ℕ) (es : List Term) → Callee callee (call_for t callee k es)
  of-procedure : (k : ℕ) (es : List Term) → Callee callee (call_of callee k es)

-- The statements that write a line: TPWrite and TPReadNum.
pub data Writes : Action → Type 0 where
  by-write : (text : List ℕ) (e : Option Term) → Writes (write text e)
  by_read : (t : Spot) (text : List ℕ) → Writes (read t text)

-- What the step a, at a place, can lack, and where it says so.
pub data Lacking (a : Action) (place : ℕ) : (number at' : ℕ) → Type 0 where
  no-depth : (callee : ℕ) → Callee callee a → Lacking a place 6 callee
  no-input : (t : Spot) (text : List ℕ) → a ≡ read t text → Lacking a place 7 place
  no_room : Writes a → Lacking a place 8 place

-- What a step that is made does to the live calls: all that a step can do to them but for errors.
pub data CallsMade (P : Program) (c : Call) (r : List Call) (onward : ℕ) (does : Action) (after : List Call) : Type 0 where
  made_move : GoesOn c r (c.next ∷ onward ∷ ways_of does) after → CallsMade P c r onward does after
  made-call : (k : ℕ) (arguments : List ℤ) (result : Option Location) → CallsRoutine k does → after ≡ new_call P k arguments result ∷ c ∷ r → CallsMade P c r onward does after
  made-return : (d : Call) (older : List Call) → Returns does → r ≡ d ∷ older → map bare after ≡ map bare (resume P d ∷ older) → CallsMade P c r onward does after
  made-retry : (f : ℕ) → does ≡ retry → c.failed ≡ some f → after ≡ go_to f (set_failed none c) ∷ r → CallsMade P c r onward does after
  made-trynext : (f : ℕ) → does ≡ try_next → c.failed ≡ some f → after ≡ go_to (step_of P c f).after (set_failed none c) ∷ r → CallsMade P c r onward does after

pub after-made : {P : Program} {c : Call} {r : List Call} {onward : ℕ} {does : Action} {after : List Call} → CallsMade P c r onward does after → CallsAfter P c r onward does after
after-made (made_move g) = goes-on g
after-made (made-call k args result st l) = begins k args result st l
after-made (made-return d older q l b) = returns d older q l b
after-made (made-retry f d k l) = retries f d k l
after-made (made-trynext f d k l) = tries-next f d k l

-- What the step a, at a place, of a statement that `onward` comes after, of the call c with callers r comes to, from state s.
pub data Performed (P : Program) (R : Rooms) (c : Call) (r : List Call) (place onward : ℕ) (a : Action) (s : State) : Effect → Type 0 where
  makes : {s' : State} → Changed R s s' → CallsMade P c r onward a s'.calls → Performed P R c r place onward a s (made s')
  fails-with : {s' : State} (e : ℕ) → ErrorNumber e → s'.calls ≡ s.calls → Changed R s s' → Performed P R c r place onward a s (failing e s')
  hands-on : a ≡ hand_on → Performed P R c r place onward a s (handing s)
  ends : (n : ℕ) → OwnEnding (code_at P c.routine).function a n → Performed P R c r place onward a s (ending n s)
  lacks : (n at' : ℕ) → Lacking a place n at' → Performed P R c r place onward a s (lacking n at')

-- ---- changes of the newest call, and words stored
module _ (R : Rooms) (s : State) where
  changed-top : (f : Call → Call) (s' : State) → Changed R s s' → Changed R s (on_top f s')
  unfolding on_top
  changed-top f s' h = newest s'.calls
    where
      newest : (cs : List Call) → Changed R s (elim cs [ [] ↦ s' | c ∷ r ↦ with_calls (f c ∷ r) s' ])
      newest [] = h
      newest (c ∷ r) = with-calls (f c ∷ r) h

  changed-store : (l : Location) (v : ℤ) (s' : State) → Changed R s s' → Changed R s (store_at l v s')
  unfolding store_at
  changed-store (module_slot k) v s' h = with-word k v h
  changed-store (call_slot d k) v s' h = with-calls _ h

  changed-result : (l : Option Location) (v : Option ℤ) (s' : State) → Changed R s s' → Changed R s (store_result l v s')
  unfolding store_result
  changed-result none v s' h = h
  changed-result (some l) none s' h = h
  changed-result (some l) (some z) s' h = changed-store l z s' h

-- A call changed, but neither its routine, nor its next or failed step, nor where its result goes.
pub record Stays (f : Call → Call) : Type 0 where
  pub routine : (c : Call) → (f c).routine ≡ c.routine
  pub next : (c : Call) → (f c).next ≡ c.next
  pub failed : (c : Call) → (f c).failed ≡ c.failed
  pub result : (c : Call) → (f c).result ≡ c.result

word-stays : (k : ℕ) (v : ℤ) → Stays (set_word k v)
word-stays k v = record { routine = λ c. refl; next = λ c. refl; failed = λ c. refl; result = λ c. refl }

loop-stays : (k : ℕ) (l : Loop) → Stays (set_loop k l)
loop-stays k l = record { routine = λ c. refl; next = λ c. refl; failed = λ c. refl; result = λ c. refl }

-- A word stored in a call leaves it as it was but for its words.
bare-depth : (d k : ℕ) (v : ℤ) (cs : List Call) → map bare (on_depth d (set_word k v) cs) ≡ map bare cs
unfolding on_depth
bare-depth d k v [] = refl
bare-depth d k v (c ∷ r) = forked (λ x. map bare x ≡ map bare (c ∷ r)) (eqb d (length (c ∷ r))) _ _ refl (ap (bare c ∷◌) (bare-depth d k v r))

bare-result : (l : Option Location) (v : Option ℤ) (s : State) → map bare (store_result l v s).calls ≡ map bare s.calls
unfolding store_result store_at
bare-result none v s = refl
bare-result (some l) none s = refl
bare-result (some (module_slot k)) (some z) s = refl
bare-result (some (call_slot d k)) (some z) s = bare-depth d k z s.calls

top-calls : (f : Call → Call) (s : State) (c : Call) (r : List Call) → s.calls ≡ c ∷ r → (on_top f s).calls ≡ f c ∷ r
unfolding on_top
top-calls f s c r e = rw (e, on_top)

-- A word of the module, or of the call at that depth: what a call stores in is its own.
data OfDepth (d : ℕ) : Location → Type 0 where
  of-module : (k : ℕ) → OfDepth d (module_slot k)
  of-call : (k : ℕ) → OfDepth d (call_slot d k)

location-of : (d : ℕ) (r : Ref) → OfDepth d (location_of d r)
unfolding location_of
location-of d (of_module k) = of-module k
location-of d (of_routine k) = of-call k

module _ (c : Call) (r : List Call) (ways : List ℕ) where
  stays_here : Among c.next ways → GoesOn c r ways (c ∷ r)
  stays_here m = record { newest = c; live = refl; routine = refl; failed = refl; result = refl; goes_to = m }

  stays-live : (s : State) → s.calls ≡ c ∷ r → Among c.next ways → GoesOn c r ways s.calls
  stays-live s live m = rw live (stays_here m)

  stays-top : (f : Call → Call) (s : State) → Stays f → GoesOn c r ways s.calls → GoesOn c r ways (on_top f s).calls
  stays-top f s k h =
      record {
        newest = f h.newest;
        live = top-calls f s h.newest r h.live;
        routine = k.routine h.newest ∙ h.routine;
        failed = k.failed h.newest ∙ h.failed;
        result = k.result h.newest ∙ h.result;
        goes_to = rw (k.next h.newest) h.goes_to;
      }

  goes-top : (n : ℕ) (s : State) → Among n ways → GoesOn c r ways s.calls → GoesOn c r ways (on_top (go_to n) s).calls
  goes-top n s m h =
      record {
        newest = go_to n h.newest;
        live = top-calls (go_to n) s h.newest r h.live;
        routine = h.routine;
        failed = h.failed;
        result = h.result;
        goes_to = m;
      }

  stays-store : (l : Location) (v : ℤ) (s : State) → OfDepth (suc (length r)) l → GoesOn c r ways s.calls → GoesOn c r ways (store_at l v s).calls
  unfolding store_at on_depth
  stays-store l v s (of-module k) h = h
  stays-store l v s (of-call k) h =
      rw h.live
      (forked-by (GoesOn c r ways) (eqb (suc (length r)) (suc (length r))) _ _
      (λ t. record { newest = set_word k v h.newest; live = refl; routine = h.routine; failed = h.failed; result = h.result; goes_to = h.goes_to })
      (λ t. absurd (eqb-false (suc (length r)) (suc (length r)) t refl)))

-- ---- the step a of the call c
module _ (P : Program) (R : Rooms) (c : Call) (r : List Call) (place onward : ℕ) (a : Action) (s : State) (live : s.calls ≡ c ∷ r) where
  abbrev Does : Effect → Type 0
  Does e = Performed P R c r place onward a s e

  abbrev ways : List ℕ
  ways = c.next ∷ onward ∷ ways_of a

  abbrev Goes : State → Type 0
  Goes s' = GoesOn c r ways s'.calls

  stays : Goes s
  stays = stays-live c r ways s live here

  -- The call goes on, perhaps with other words, at a step that is among the ways.
  moves : (n : ℕ) (s' : State) → Among n ways → Changed R s s' → Goes s' → Does (made (on_top (go_to n) s'))
  moves n s' m h g = makes (changed-top R s (go_to n) s' h) (made_move (goes-top c r ways n s' m g))

  -- It goes on after its statement.
  passes_on : (s' : State) → Changed R s s' → Goes s' → Does (made (on_top (go_to onward) s'))
  passes_on s' h g = moves onward s' (there here) h g

  -- ---- what a step works out first
  value-done : (v : Value) (s' : State) (go : ℤ → Effect) → Sound v → s'.calls ≡ s.calls → Changed R s s' → ((z : ℤ) → Does (go z)) → Does (with_value v s' go)
  unfolding with_value
  value-done (value z) s' go k e h f = f z
  value-done (error n) s' go k e h f = fails-with n k e h

  term-done : (M : Memory) (t : Term) (go : ℤ → Effect) → ((z : ℤ) → Does (go z)) → Does (with_value (worth M t) s go)
  term-done M t go f = value-done (worth M t) s go (worth-sound M t) refl unchanged f

  own-location : (w : Ref) → OfDepth (suc (length r)) (location_of (length s.calls) w)
  own-location w = rw live (location-of (suc (length r)) w)

  spot-done : (M : Memory) (t : Spot) (go : Location → Effect) → ((l : Location) → OfDepth (suc (length r)) l → Does (go l)) → Does (with_spot M t s go)
  unfolding with_spot
  spot-done M (scalar w) go f = f _ (own-location w)
  spot-done M (element_of w n e) go f = located (locate w n (worth M e)) (locate-sound w n (worth M e) (worth-sound M e))
    where
      located : (l : Located) → SoundPlace l → Does (elim l [ at w ↦ go (location_of (length s.calls) w) | fails e' ↦ failing e' s ])
      located (at w) k = f _ (own-location w)
      located (fails e') k = fails-with e' k refl unchanged

  values-done : (M : Memory) (es : List Term) (go : List ℤ → Effect) → ((zs : List ℤ) → Does (go zs)) → Does (with_values M es s go)
  unfolding with_values
  values-done M [] go f = f []
  values-done M (e ∷ es) go f = term-done M e _ (λ z. values-done M es (λ zs. go (z ∷ zs)) (λ zs. f (z ∷ zs)))

  step-done : (M : Memory) (t : Option Term) (z y : ℤ) (go : ℤ → Effect) → ((x : ℤ) → Does (go x)) → Does (with_step M t z y s go)
  unfolding with_step
  step-done M none z y go f = f _
  step-done M (some e) z y go f = term-done M e go f

  -- ---- rooms
  room-done : (b : Bool) (e : Effect) (n at' : ℕ) → Lacking a place n at' → (b ≡ true → Does e) → Does (if b then e else lacking n at')
  room-done true e n at' l f = f refl
  room-done false e n at' l f = lacks n at' l

  adding-done : (line : List ℕ) (go : State → Effect) → Writes a
      → (Changed R s (with_output (s.output ++ line) s) → Does (go (with_output (s.output ++ line) s))) → Does (adding R place line s go)
  unfolding adding
  adding-done line go w f = room-done _ _ 8 place (no_room w) (λ t. f (with-line line (leb-true _ _ t) unchanged))

  -- ---- each sort of step
  calling-done : (M : Memory) (callee k : ℕ) (es : List Term) (result : Option Location) → CallsRoutine k a → Callee callee a → Does (calling P R M callee k es result s)
  unfolding calling
  calling-done M callee k es result h w =
      values-done M es _ (λ args. room-done (ltb (length s.calls) R.depth) _ 6 callee (no-depth callee w) (λ t. makes (with-calls _ unchanged) (made-call k args result h (ap (new_call P k args result ∷◌) live))))

  returning-done : (cs : List Call) (v : Option ℤ) → Returns a → r ≡ cs → Does (returning P c cs v s)
  unfolding returning
  returning-done [] v h e = ends 1 returned
  returning-done (d ∷ older) v h e = makes (changed-result R s c.result v _ (with-calls _ unchanged)) (made-return d older h e (bare-result c.result v _))

  writing-done : (M : Memory) (text : List ℕ) (e : Option Term) → Writes a → Does (writing R M place onward text e s)
  unfolding writing
  writing-done M text none w = adding-done _ _ w (λ h. passes_on _ h stays)
  writing-done M text (some e) w = term-done M e _ (λ z. adding-done _ _ w (λ h. passes_on _ h stays))

  taking-done : (l : Location) (line : List ℕ) → OfDepth (suc (length r)) l → Lacking a place 7 place → Changed R s (with_output (s.output ++ line) s)
      → Does (taking place onward l (drop s.used R.inputs) (with_output (s.output ++ line) s))
  unfolding taking
  taking-done l line o w h = taken (drop s.used R.inputs) refl
    where
      taken : (i : List ℤ) → drop s.used R.inputs ≡ i → Does (taking place onward l i (with_output (s.output ++ line) s))
      taken [] e = lacks 7 place w
      taken (z ∷ rest) e =
          let left : length (drop s.used R.inputs) ≡ suc (length rest) = ap length e in
          let lent : s.used < length R.inputs = omega (arith, length-drop s.used R.inputs) in
          let h' = with-input lent h in
          value-done (ranged num z) _ _ (ranged-sound num z) refl h' (λ v. passes_on _ (changed-store R s l v _ h') (stays-store c r ways l v _ o stays))

  reading-done : (M : Memory) (t : Spot) (text : List ℕ) → Writes a → Lacking a place 7 place → Does (read_num R M place onward t text s)
  unfolding read_num
  reading-done M t text w v = spot-done M t _ (λ l o. adding-done _ _ w (λ h. taking-done l _ o v h))

  choosing-done : (M : Memory) (arms : List (Term × ℕ)) (otherwise : ℕ) → ((n : ℕ) → Among n (otherwise ∷ map (λ x. x.1) arms) → Among n ways)
      → Does (choosing M arms otherwise s)
  unfolding choosing
  choosing-done M [] otherwise f = moves otherwise s (f otherwise here) unchanged stays
  choosing-done M (t ∷ arms) otherwise f =
      term-done M t.0 _ (λ z.
      forked Does (is_zero z) _ _ (choosing-done M arms otherwise (λ n m. f n (skip m))) (moves t.1 s (f t.1 (there here)) unchanged stays))
    where
      skip : {n : ℕ} → Among n (otherwise ∷ map (λ x. x.1) arms) → Among n (otherwise ∷ t.1 ∷ map (λ x. x.1) arms)
      skip here = here
      skip (there m) = there (there m)

  looping-done : (k : ℕ) (z : ℤ) (l : Loop) (body : ℕ) (s' : State) → Among body ways → Changed R s s' → Goes s' → Does (looping k z l body onward s')
  unfolding looping
  looping-done k z l body s' m h g =
      chosen Does (passes z l) _ _
      (moves body _ m (changed-top R s (set_word k z) s' h) (stays-top c r ways (set_word k z) s' (word-stays k z) g))
      (passes_on s' h g)

  entering-done : (M : Memory) (k : ℕ) (from to : Term) (step : Option Term) (body : ℕ) → Among body ways → Does (entering M k from to step body onward s)
  unfolding entering
  entering-done M k from to step body m =
      term-done M from _ (λ z. term-done M to _ (λ y. step-done M step z y _ (λ x.
      looping-done k z _ body _ m (changed-top R s (set_loop k _) s unchanged) (stays-top c r ways (set_loop k _) s (loop-stays k _) stays))))

  repeating-done : (M : Memory) (k body : ℕ) → Among body ways → Does (repeating M c k body onward s)
  unfolding repeating
  repeating-done M k body m = looping-done k _ _ body s m unchanged stays

  list_done : a ≡ end_list → Does (ending_list P c r s)
  unfolding ending_list
  list_done e = chosen_by Does (code_at P c.routine).function _ _ (λ t. ends 4 (unreturned t e)) (λ t. returning-done r none (rw e at-its-end) refl)

-- ---- RETRY and TRYNEXT
module _ (P : Program) (c : Call) (r : List Call) (onward : ℕ) where
  after-retry : CallsMade P c r onward retry (retrying c ∷ r)
  unfolding retrying
  after-retry = by-failed c.failed refl
    where
      by-failed : (f : Option ℕ) → c.failed ≡ f → CallsMade P c r onward retry (elim f [ none ↦ c | some n ↦ go_to n (set_failed none c) ] ∷ r)
      by-failed none e = made_move (stays_here c r _ here)
      by-failed (some n) e = made-retry n refl e refl

  after-try_next : CallsMade P c r onward try_next (trying_next P c ∷ r)
  unfolding trying_next
  after-try_next = by-failed c.failed refl
    where
      by-failed : (f : Option ℕ) → c.failed ≡ f → CallsMade P c r onward try_next (elim f [ none ↦ c | some n ↦ go_to (step_of P c n).after (set_failed none c) ] ∷ r)
      by-failed none e = made_move (stays_here c r _ here)
      by-failed (some n) e = made-trynext n refl e refl

  -- one change of the newest call
  top-done : (R : Rooms) (place : ℕ) (a : Action) (f : Call → Call) (s : State) → s.calls ≡ c ∷ r → CallsMade P c r onward a (f c ∷ r) → Performed P R c r place onward a s (made (on_top f s))
  top-done R place a f s live h = makes (changed-top R s f s unchanged) (rw (top-calls f s c r live) h)

-- ---- every step
matching-way : (z : ℤ) (cs : List (List ℤ × ℕ)) (otherwise : ℕ) → Among (matching z cs otherwise) (otherwise ∷ map (λ c. c.1) cs)
unfolding matching
matching-way z [] otherwise = here
matching-way z (c ∷ cs) otherwise = forked (λ n. Among n (otherwise ∷ c.1 ∷ map (λ c. c.1) cs)) (holds z c.0) _ _ (there here) (skip (matching-way z cs otherwise))
  where
    skip : {n : ℕ} → Among n (otherwise ∷ map (λ c. c.1) cs) → Among n (otherwise ∷ c.1 ∷ map (λ c. c.1) cs)
    skip here = here
    skip (there m) = there (there m)

pub performed : (P : Program) (R : Rooms) (c : Call) (r : List Call) (place onward : ℕ) (a : Action) (s : State) → s.calls ≡ c ∷ r
    → Performed P R c r place onward a s (perform P R c r place onward a s)
unfolding perform ways_of
performed P R c r place onward (store t e) s live =
    spot-done P R c r place onward _ s live _ t _ (λ l o. term-done P R c r place onward _ s live _ e _ (λ z.
    passes_on P R c r place onward _ s live _ (changed-store R s l z s unchanged) (stays-store c r _ l z s o (stays-live c r _ s live here))))
performed P R c r place onward (call_for t callee k es) s live =
    spot-done P R c r place onward _ s live _ t _ (λ l o. calling-done P R c r place onward _ s live _ callee k es (some l) (for-result t callee es) (of_function t k es))
performed P R c r place onward (call_of callee k es) s live = calling-done P R c r place onward _ s live _ callee k es none (for-nothing callee es) (of-procedure k es)
performed P R c r place onward (give_back none) s live = returning-done P R c r place onward _ s live r none (by-return none) refl
performed P R c r place onward (give_back (some e)) s live =
    term-done P R c r place onward _ s live _ e _ (λ z. returning-done P R c r place onward _ s live r (some z) (by-return (some e)) refl)
performed P R c r place onward (raise e) s live = term-done P R c r place onward _ s live _ e _ (λ z. fails-with _ (raised-number z) refl unchanged)
performed P R c r place onward hand_on s live = hands-on refl
performed P R c r place onward exit s live = ends 2 (exited refl)
performed P R c r place onward retry s live = top-done P c r onward R place retry retrying s live (after-retry P c r onward)
performed P R c r place onward try_next s live = top-done P c r onward R place try_next (trying_next P) s live (after-try_next P c r onward)
performed P R c r place onward (write text e) s live = writing-done P R c r place onward _ s live _ text e (by-write text e)
performed P R c r place onward (read t text) s live = reading-done P R c r place onward _ s live _ t text (by_read t text) (no-input t text refl)
performed P R c r place onward (choose arms otherwise) s live = choosing-done P R c r place onward _ s live _ arms otherwise (λ n m. there (there m))
performed P R c r place onward (select e cs otherwise) s live =
    term-done P R c r place onward _ s live _ e _ (λ z.
    moves P R c r place onward _ s live _ s (there (there (matching-way z cs otherwise))) unchanged (stays-live c r _ s live here))
performed P R c r place onward (test_while e body) s live =
    term-done P R c r place onward _ s live _ e _ (λ z.
    moves P R c r place onward _ s live _ s
    (chosen (λ n. Among n (c.next ∷ onward ∷ body ∷ [])) (is_zero z) _ _ (there here) (there (there here)))
    unchanged (stays-live c r _ s live here))
performed P R c r place onward (enter_for k from to d body) s live = entering-done P R c r place onward _ s live _ k from to d body (there (there here))
performed P R c r place onward (repeat_for k body) s live = repeating-done P R c r place onward _ s live _ k body (there (there here))
performed P R c r place onward end_list s live = list_done P R c r place onward _ s live refl
performed P R c r place onward end_undo s live = ends 4 (undo-ended refl)
