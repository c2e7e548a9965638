-- FOR without STEP: how far it counts, and where its head goes on.
use mathlib.Core.Path.{◌≡◌, refl, sym, ap, ap₂, ◌∙◌}
use mathlib.Core.Bool.{Bool, true, false, not}
use mathlib.Core.List.{List, ◌∷◌}
use mathlib.Core.Option.{none}
use Prim.Native.Nat.{ℕ, zero, suc, ◌+◌, ◌<◌, ◌≤◌}
use native.Mathlib.Omega.{arith}
use lib.Dec.{ltb, leb}
use lib.IntN.{ℤ, pos, negsuc, neg_ℤ, nat_abs, suc_ℤ, pred_ℤ, ◌+ℤ◌, ◌-ℤ◌, suc-pred, suc_ℤ-+ℤ, pred_ℤ-+ℤ, +ℤ_idl, +ℤ_idr, +ℤ_assoc, +ℤ_comm, -ℤ-+ℤ_cancel}
use lib.Signed.{lt_z}
use borrow.Author.Tests.{lt-ltb, le-ltb, le-leb, lt-leb}
use Rattle.laws.proofs.Tests.{by_less, test, false-true}
use Rattle.std.specs.Prelude.{if◌then◌else◌}
use Rattle.paper.specs.Numbers.{Value, value}
use Rattle.paper.specs.Terms.{worth}
use Rattle.paper.specs.Steps.{Program, enter_for}
use Rattle.paper.specs.States.{Loop, Call, State, Rooms, Effect, made, counted, go_to, set_word, set_loop, on_top, memory_of, with_value}
use Rattle.paper.specs.Running.{next_step, passes, looping, counting_step, with_step, entering, perform, take_step, goes_on}
use Rattle.demands.specs.Demands.{HeadWithoutStep, loop_between, value_after, CountingLesson, Counting}
use Rattle.demands.proofs.Calls.{step-made}

-- ---- the order of whole numbers is the same anywhere
-- tests of two pairs of numbers that lie alike
same-less : (a b c d : ℕ) → (a < b → c < d) → (b ≤ a → d ≤ c) → ltb a b ≡ ltb c d
same-less a b c d f g = by_less a b (λ h. lt-ltb a b h ∙ sym (lt-ltb c d (f h))) (λ h. le-ltb a b h ∙ sym (le-ltb c d (g h)))

not-less : (a b : ℕ) → not (ltb b a) ≡ leb a b
not-less a b = by_less b a (λ h. ap not (lt-ltb b a h) ∙ sym (lt-leb a b h)) (λ h. ap not (le-ltb b a h) ∙ sym (le-leb a b h))

one_on : (d e : ℤ) → lt_z (suc_ℤ d) (suc_ℤ e) ≡ lt_z d e
one_on (pos a) (pos b) = same-less (suc a) (suc b) a b (λ h. omega arith) (λ h. omega arith)
one_on (pos a) (negsuc zero) = le-ltb (suc a) 0 (omega arith)
one_on (pos a) (negsuc (suc b)) = refl
one_on (negsuc zero) (pos b) = lt-ltb 0 (suc b) (omega arith)
one_on (negsuc (suc a)) (pos b) = refl
one_on (negsuc zero) (negsuc zero) = le-ltb 0 0 (omega arith) ∙ sym (le-ltb 0 0 (omega arith))
one_on (negsuc zero) (negsuc (suc b)) = sym (le-ltb (suc b) 0 (omega arith))
one_on (negsuc (suc a)) (negsuc zero) = sym (lt-ltb 0 (suc a) (omega arith))
one_on (negsuc (suc a)) (negsuc (suc b)) = same-less b a (suc b) (suc a) (λ h. omega arith) (λ h. omega arith)

one-back : (d e : ℤ) → lt_z (pred_ℤ d) (pred_ℤ e) ≡ lt_z d e
one-back d e = sym (one_on (pred_ℤ d) (pred_ℤ e)) ∙ ap₂ lt_z (suc-pred d) (suc-pred e)

shifted : (z d e : ℤ) → lt_z (z +ℤ d) (z +ℤ e) ≡ lt_z d e
shifted (pos zero) d e = ap₂ lt_z (+ℤ_idl d) (+ℤ_idl e)
shifted (pos (suc n)) d e = ap₂ lt_z (suc_ℤ-+ℤ (pos n) d) (suc_ℤ-+ℤ (pos n) e) ∙ one_on (pos n +ℤ d) (pos n +ℤ e) ∙ shifted (pos n) d e
shifted (negsuc zero) d e = ap₂ lt_z (pred_ℤ-+ℤ (pos zero) d) (pred_ℤ-+ℤ (pos zero) e) ∙ one-back (pos zero +ℤ d) (pos zero +ℤ e) ∙ ap₂ lt_z (+ℤ_idl d) (+ℤ_idl e)
shifted (negsuc (suc n)) d e = ap₂ lt_z (pred_ℤ-+ℤ (negsuc n) d) (pred_ℤ-+ℤ (negsuc n) e) ∙ one-back (negsuc n +ℤ d) (negsuc n +ℤ e) ∙ shifted (negsuc n) d e

-- ---- the values that a loop comes to
up-value : (z : ℤ) (j : ℕ) → value_after z (pos 1) j ≡ z +ℤ pos j
unfolding value_after
up-value z zero = sym (+ℤ_idr z)
up-value z (suc j) = let q : j + 1 ≡ suc j = omega arith in ap (◌+ℤ pos 1) (up-value z j) ∙ +ℤ_assoc z (pos j) (pos 1) ∙ ap (λ (n : ℕ). z +ℤ pos n) q

less_one : (j : ℕ) → neg_ℤ (pos j) +ℤ negsuc 0 ≡ negsuc j
less_one zero = refl
less_one (suc i) = let q : suc (i + 0) ≡ suc i = omega arith in ap negsuc q

down-value : (z : ℤ) (j : ℕ) → value_after z (negsuc 0) j ≡ z +ℤ neg_ℤ (pos j)
unfolding value_after
down-value z zero = sym (+ℤ_idr z)
down-value z (suc j) = ap (◌+ℤ negsuc 0) (down-value z j) ∙ +ℤ_assoc z (neg_ℤ (pos j)) (negsuc 0) ∙ ap (z +ℤ◌) (less_one j)

module _ (z y : ℤ) where
  -- the end, seen from the start
  end_is : z +ℤ (y -ℤ z) ≡ y
  end_is = +ℤ_comm z (y -ℤ z) ∙ -ℤ-+ℤ_cancel y z

  above : lt_z y z ≡ lt_z (y -ℤ z) (pos 0)
  above = ap₂ lt_z (sym end_is) (sym (+ℤ_idr z)) ∙ shifted z (y -ℤ z) (pos 0)

  goes-up : lt_z y z ≡ false → counting_step z y ≡ pos 1
  unfolding counting_step
  goes-up h = rw (h, counting_step)

  goes_down : lt_z y z ≡ true → counting_step z y ≡ negsuc 0
  unfolding counting_step
  goes_down h = rw (h, counting_step)

  passes-with : (x : ℤ) (j : ℕ) → Bool
  passes-with x j = passes (value_after z x j) (record { end = y; step = x })

  up-rounds : (j : ℕ) → lt_z (y -ℤ z) (pos 0) ≡ false → passes-with (pos 1) j ≡ leb j (nat_abs (y -ℤ z))
  unfolding passes passes-with
  up-rounds j h = ap (λ (v : ℤ). not (lt_z y v)) (up-value z j) ∙ ap (λ (v : ℤ). not (lt_z v (z +ℤ pos j))) (sym end_is) ∙ ap not (shifted z (y -ℤ z) (pos j)) ∙ apart_by (y -ℤ z) h
    where
      apart_by : (d : ℤ) → lt_z d (pos 0) ≡ false → not (lt_z d (pos j)) ≡ leb j (nat_abs d)
      apart_by (pos n) g = not-less j n
      apart_by (negsuc n) g = false-true (sym g)

  down-rounds : (j : ℕ) → lt_z (y -ℤ z) (pos 0) ≡ true → passes-with (negsuc 0) j ≡ leb j (nat_abs (y -ℤ z))
  unfolding passes passes-with
  down-rounds j h =
      ap (λ (v : ℤ). not (lt_z v y)) (down-value z j) ∙ ap (λ (v : ℤ). not (lt_z (z +ℤ neg_ℤ (pos j)) v)) (sym end_is) ∙ ap not (shifted z (neg_ℤ (pos j)) (y -ℤ z)) ∙ apart_by (y -ℤ z) j h
    where
      apart_by : (d : ℤ) (i : ℕ) → lt_z d (pos 0) ≡ true → not (lt_z (neg_ℤ (pos i)) d) ≡ leb i (nat_abs d)
      apart_by (pos n) i g = false-true (sym (le-ltb n 0 (omega arith)) ∙ g)
      apart_by (negsuc n) zero g = sym (le-leb 0 (suc n) (omega arith))
      apart_by (negsuc n) (suc i) g = not-less i n ∙ same-most
        where
          same-most : leb i n ≡ leb (suc i) (suc n)
          same-most = sym (not-less i n) ∙ ap not (same-less n i (suc n) (suc i) (λ k. omega arith) (λ k. omega arith)) ∙ not-less (suc i) (suc n)

  count : (j : ℕ) → passes-with (counting_step z y) j ≡ leb j (nat_abs (y -ℤ z))
  count j =
      test (lt_z y z)
      (λ h. ap (λ (x : ℤ). passes-with x j) (goes_down h) ∙ down-rounds j (sym above ∙ h))
      (λ h. ap (λ (x : ℤ). passes-with x j) (goes-up h) ∙ up-rounds j (sym above ∙ h))

  -- ---- the head
  enters : (P : Program) (R : Rooms) (s : State) (c : Call) (r : List Call) (variable body : ℕ) → s.calls ≡ c ∷ r → HeadWithoutStep P s c variable body z y
      → take_step P R s ≡ goes_on (counted (on_top (go_to body) (on_top (set_word variable z) (on_top (set_loop variable (loop_between z y)) s))))
  unfolding perform entering with_step with_value looping passes-with value_after
  enters P R s c r variable body live h = step-made P R s c r live (enter_for variable h.from h.to none body) _ h.head (rw h.start-worth (rw h.end-worth (rw (first, looping))))
    where
      first : passes z (loop_between z y) ≡ true
      first = count 0 ∙ le-leb 0 (nat_abs (y -ℤ z)) (omega arith)

pub counting-lesson : Counting
unfolding Counting passes-with
counting-lesson z y = record { up = goes-up z y; down = goes_down z y; rounds = count z y; begins = enters z y }
