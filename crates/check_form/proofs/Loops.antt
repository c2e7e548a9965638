-- The loops of the parser, turn by turn, as the code's loops go through them.
use mathlib.Core.Path.{◌≡◌, sym, ap, ◌∙◌}
use mathlib.Core.Bool.{Bool, true, false}
use mathlib.Core.List.{List}
use Prim.Native.Nat.{ℕ, suc, ◌+◌, ◌-◌, ◌<◌}
use native.Mathlib.Omega.{arith}
use lib.Dec.{eqb}
use mir.Syntax.{w64}
use mir.Val.{Fits}
use borrow.Author.Tests.{eqb-true, eq-eqb, ne_eqb}
use Rattle.laws.proofs.Tests.{test, false-true}
use Rattle.paper.specs.Sorts.{NOTHING}
use Rattle.std.specs.Prelude.{Ok, Err}
use Rattle.layout.specs.declared.rules.Breach.{Breach}
use Rattle.check_form.specs.Places.{Read, Lent, sorts_in, ◌▸◌, after_one, separated_turn, separated, repeated_turn, repeated, started_by}
use Rattle.check_form.proofs.Beyond.{Beyond, same_after, Local, endless, Kind}
use Rattle.check_form.proofs.Reading.{within, place-fits}

module _ (code : List ℕ) (words : ℕ) (lent : Lent code words) (one : ℕ → Read) (one_on : (at : ℕ) → Beyond (suc at) (one at)) where
  abbrev W : ℕ → ℕ
  W = sorts_in code words

  -- ---- with commas between

  after-local : (f g : ℕ → Read) (at n : ℕ) → (at < words → (m : ℕ) → at < m → f m ≡ g m) → at < n → after_one W f n ≡ after_one W g n
  unfolding after_one
  after-local f g at n h l =
      test (eqb (W n) 5)
      (λ t. rw (t, after_one) (h (omega (arith, within code words n (λ z. omega (arith, eqb-true (W n) 5 t)))) (n + 1) (omega arith)))
      (λ t. rw (t, after_one))

  separated-local : Local words (separated_turn W one)
  unfolding separated_turn
  separated-local f g at h = same_after {mid = suc at} (one at) (one_on at) (λ n l. after-local f g at n h l)

  separated-is : (at : ℕ) → separated W one at ≡ separated_turn W one (separated W one) at
  unfolding separated
  separated-is at = endless words (separated_turn W one) separated-local lent.few at

  -- x is what is read in all, and n the place of the next one
  module _ (x : Read) (n : ℕ) (left : x ≡ separated (sorts_in code words) one n) (r : Read) (e : r ≡ one n) where
    pub commas-refused : (b : Breach) → r ≡ Err b → Err b ≡ x
    unfolding separated_turn ◌▸◌
    commas-refused b h = sym (left ∙ separated-is n ∙ rw (sym e ∙ h))

    module _ (m v : ℕ) (h : r ≡ Ok m) (w : v ≡ sorts_in code words m) where
      after-one : x ≡ after_one W (separated W one) m
      unfolding separated_turn ◌▸◌
      after-one = left ∙ separated-is n ∙ rw (sym e ∙ h)

      pub commas-end : (v ≡ 5 → ⊥) → Ok m ≡ x
      unfolding after_one
      commas-end q = sym (after-one ∙ rw (ne_eqb (W m) 5 (λ z. q (w ∙ z)), after_one))

      pub commas-on : v ≡ 5 → x ≡ separated (sorts_in code words) one (m + 1)
      unfolding after_one
      commas-on q = after-one ∙ rw (eq-eqb (W m) 5 (sym w ∙ q), after_one)

      pub commas-less : v ≡ 5 → words - (m + 1) < words - n
      commas-less q = omega (arith, within code words m (λ z. omega arith), one_on n m (sym e ∙ h))

-- ---- as many as there are

pub behind-fits : (starts : ℕ → Bool) → starts NOTHING ≡ false → (code : List ℕ) (words n v : ℕ) (b : Bool)
    → Lent code words → v ≡ sorts_in code words n → b ≡ starts v → b ≡ true → Fits w64 (n + 1)
behind-fits starts none code words n v b f w s q = place-fits code words f n v w (λ z. false-true (sym none ∙ ap starts (sym z) ∙ sym s ∙ q))

module _ (code : List ℕ) (words : ℕ) {starts : ℕ → Bool} {of : ℕ → ℕ → Read} (kind : Kind (sorts_in code words) starts of) where
  abbrev one : ℕ → Read
  one = started_by (sorts_in code words) of

  there : (at : ℕ) → starts (sorts_in code words at) ≡ true → at < words
  there at t = within code words at (λ z. false-true (sym kind.none ∙ ap starts (sym z) ∙ t))

  repeated-local : Local words (repeated_turn (sorts_in code words) starts one)
  unfolding repeated_turn
  repeated-local f g at h =
      test (starts (sorts_in code words at))
      (λ t. rw (t, repeated_turn) (same_after {mid = suc at} (one at) (kind.on at) (λ n l. h (there at t) n l)))
      (λ t. rw (t, repeated_turn))

  -- v is the sort of the word at n, where the list goes on or ends, and b whether it starts one
  module _ (n v : ℕ) (b : Bool) (w : v ≡ sorts_in code words n) (s : b ≡ starts v) where
    starts-here : b ≡ true → starts (sorts_in code words n) ≡ true
    starts-here q = ap starts (sym w) ∙ sym s ∙ q

    -- x is what is read in all
    module _ (lent : Lent code words) (x : Read) (left : x ≡ repeated (sorts_in code words) starts (started_by (sorts_in code words) of) n) where
      repeated-is : x ≡ repeated_turn (sorts_in code words) starts one (repeated (sorts_in code words) starts one) n
      unfolding repeated
      repeated-is = left ∙ endless words (repeated_turn (sorts_in code words) starts one) repeated-local lent.few n

      pub repeats-end : b ≡ false → Ok n ≡ x
      unfolding repeated_turn
      repeats-end q = sym (repeated-is ∙ rw (ap starts (sym w) ∙ sym s ∙ q, repeated_turn))

      module _ (q : b ≡ true) (r : Read) (e : r ≡ of v (n + 1)) where
        one-read : r ≡ one n
        unfolding started_by
        one-read = rw w at e

        again : x ≡ (r ▸ repeated (sorts_in code words) starts one)
        unfolding repeated_turn
        again = repeated-is ∙ rw (starts-here q, repeated_turn) (rw one-read)

        pub repeats-refused : (b : Breach) → r ≡ Err b → Err b ≡ x
        unfolding ◌▸◌
        repeats-refused b h = sym (again ∙ rw h)

        pub repeats-on : (m : ℕ) → r ≡ Ok m → x ≡ repeated (sorts_in code words) starts (started_by (sorts_in code words) of) m
        unfolding ◌▸◌
        repeats-on m h = again ∙ rw h

        pub repeats-less : (m : ℕ) → r ≡ Ok m → words - m < words - n
        repeats-less m h = omega (arith, there n (starts-here q), kind.on n m (sym one-read ∙ h))
