-- Compound statements list by list, and lists statement by statement, as the code goes through them.
use mathlib.Core.Path.{◌≡◌, refl, sym, ap, ◌∙◌}
use mathlib.Core.Bool.{Bool, true, false}
use mathlib.Core.List.{List}
use Prim.Native.Nat.{ℕ, suc, ◌+◌, ◌-◌, ◌<◌, ◌≤◌}
use native.Mathlib.Omega.{arith}
use lib.Dec.{eqb}
use borrow.Author.Tests.{eqb-true, eqb-false, ne_eqb}
use Rattle.laws.proofs.Tests.{test, false-true}
use Rattle.std.specs.Prelude.{if◌then◌else◌}
use Rattle.paper.specs.Expressions.{starts_simple}
use Rattle.std.specs.Prelude.{Ok, Err}
use Rattle.layout.specs.declared.rules.Breach.{Breach}
use Rattle.check_form.specs.declared.Part.{Part}
use Rattle.check_form.specs.declared.Part.TheVariants as part
use Rattle.text_sorts.specs.Starts.{starts_compound}
use Rattle.check_form.specs.Places.{Read, Parted, ended, entered, Lent, sorts_in, ◌▸◌, ◌▹◌, word, expression_in, expressions, simple, arm_end, case_end, list_end, condition, if_head, test_head, opened}
use Rattle.check_form.specs.Places.{else_part, after_arm, arms_turn, arms, default_part, cases_turn, cases, ending, resume, list_turn, list_below, compound}
use Rattle.check_form.proofs.Beyond.{Beyond, same_after, sooner, on, strictly, Local, endless, word_on, nested-on}
use Rattle.check_form.proofs.Reading.{within}
use Rattle.check_form.proofs.Moves.{expressions-on, simple-on, list-end-on, list_on, compound-on, reached}

-- ---- what a part may be

-- A list is entered only where one may nest, and some word closes it.
unfoldable pub Shaped : (deeper : ℕ) → Parted → Type 0
Shaped d (Ok (part.Whole n)) = d ≡ d
Shaped d (Err b) = d ≡ d
Shaped d (Ok (part.Inside c n)) = (0 < d) × (0 < c)

pub shaped-deep : (d c n : ℕ) (p : Parted) → Shaped d p → p ≡ entered c n → 0 < d
unfolding Shaped
shaped-deep d c n p s e = (rw e at s).0

pub shaped-closes : (d c n : ℕ) (p : Parted) → Shaped d p → p ≡ entered c n → 0 < c
unfolding Shaped
shaped-closes d c n p s e = (rw e at s).1

whole-shaped : (d : ℕ) (r : Read) → Shaped d (r ▹ ended)
unfolding Shaped ◌▹◌
whole-shaped d (Ok n) = refl
whole-shaped d (Err b) = refl

inside-shaped : (d c : ℕ) (r : Read) → 0 < d → 0 < c → Shaped d (r ▹ entered c)
unfolding Shaped ◌▹◌
inside-shaped d c (Ok n) h g = (h, g)
inside-shaped d c (Err b) h g = refl

shaped-after : (d : ℕ) (r : Read) (f : ℕ → Parted) → ((n : ℕ) → Shaped d (f n)) → Shaped d (r ▹ f)
unfolding Shaped ◌▹◌
shaped-after d (Ok n) f h = h n
shaped-after d (Err b) f h = refl

shaped-if : (d : ℕ) (b : Bool) (p q : Parted) → Shaped d p → Shaped d q → Shaped d (if b then p else q)
shaped-if d true p q h g = h
shaped-if d false p q h g = g

module _ (W : ℕ → ℕ) (d : ℕ) where
  module _ (h : 0 < d) where
    arm-shaped : (at : ℕ) → Shaped d (arm_end W at)
    unfolding arm_end Shaped
    arm-shaped at =
        shaped-if d (eqb (W at) 42) _ _ (inside-shaped d 42 _ h (omega arith)) (shaped-if d (eqb (W at) 41) _ _ (h, omega arith) (whole-shaped d (word W 45 at)))

    case-shaped : (at : ℕ) → Shaped d (case_end W at)
    unfolding case_end
    case-shaped at =
        shaped-if d (eqb (W at) 35) _ _ (inside-shaped d 35 _ h (omega arith)) (shaped-if d (eqb (W at) 38) _ _ (inside-shaped d 49 _ h (omega arith)) (whole-shaped d (word W 49 at)))

    pub end-shaped : (c at : ℕ) → Shaped d (list_end W c at)
    unfolding list_end
    end-shaped c at = shaped-if d (eqb c 42) _ _ (arm-shaped at) (shaped-if d (eqb c 35) _ _ (case-shaped at) (whole-shaped d (word W c at)))

  condition-shaped : (at : ℕ) → Shaped d (condition W d at)
  unfolding condition Shaped
  condition-shaped at =
      shaped-if d (eqb (W at) 78) _ _
      (test (eqb d 0) (λ t. rw t refl) (λ t. rw t (omega (arith, eqb-false d 0 t), omega arith)))
      (whole-shaped d (simple W at))

  pub open-shaped : (at : ℕ) → Shaped d (opened W d at)
  unfolding opened if_head test_head Shaped
  open-shaped at =
      shaped-if d (eqb (W at) 59) _ _ (shaped-after d (expression_in W 17 (at + 1)) (condition W d) condition-shaped)
      (test (eqb d 0) (λ t. rw t refl)
      (λ t. rw t (let h : 0 < d = omega (arith, eqb-false d 0 t) in
      shaped-if d (eqb (W at) 55) _ _ (inside-shaped d 43 _ h (omega arith))
      (shaped-if d (eqb (W at) 86) _ _ (inside-shaped d 51 _ h (omega arith))
      (shaped-after d (expression_in W 17 (at + 1)) (case_end W) (case-shaped h))))))

-- ---- what is left of a compound statement

module _ (code : List ℕ) (words : ℕ) (lent : Lent code words) where
  abbrev W : ℕ → ℕ
  W = sorts_in code words

  module _ (list : ℕ → Read) (weak : (at : ℕ) → Beyond at (list at)) where
    arms-local : Local words (arms_turn W list)
    unfolding arms_turn after_arm
    arms-local f g at h =
        same_after {mid = at} (list at) (weak at)
        (λ n l. test (eqb (W n) 42)
        (λ t. rw t (same_after {mid = suc n} (expression_in W 17 (n + 1) ▸ word W 78)
        (on (sooner (suc n) (omega arith) (nested-on W 17 (n + 1))) (strictly (word_on W 78)))
        (λ m i. h (omega (arith, within code words n (λ z. omega (arith, eqb-true (W n) 42 t)))) m (omega arith))))
        (λ t. rw t))

    arms-is : (at : ℕ) → arms W list at ≡ (list at ▸ after_arm W list (arms W list))
    unfolding arms arms_turn
    arms-is at = endless words (arms_turn W list) arms-local lent.few at

    cases-local : Local words (cases_turn W list)
    unfolding cases_turn
    cases-local f g at h =
        test (eqb (W at) 35)
        (λ t. rw t (same_after {mid = suc at} (expressions W (at + 1) ▸ word W 10 ▸ list)
        (on (on (sooner (suc at) (omega arith) (expressions-on W (at + 1))) (strictly (word_on W 10))) weak)
        (λ m i. h (within code words at (λ z. omega (arith, eqb-true (W at) 35 t))) m (omega arith))))
        (λ t. rw t)

    cases-is : (at : ℕ) → cases W list at ≡ cases_turn W list (cases W list) at
    unfolding cases
    cases-is at = endless words (cases_turn W list) cases-local lent.few at

    -- into a list, or to the end
    into : (r : Read) (c : ℕ) (f : ℕ → Read) → ((n : ℕ) → f n ≡ (list n ▸ ending W list c)) → (r ▸ f) ≡ resume W list (r ▹ entered c)
    unfolding ◌▸◌ ◌▹◌ resume
    into (Ok n) c f h = h n
    into (Err b) c f h = refl

    pub to_end : (r : Read) → r ≡ resume W list (r ▹ ended)
    unfolding ◌▹◌ resume
    to_end (Ok n) = refl
    to_end (Err b) = refl

    -- a list that only its closing word ends
    pub closing : (c : ℕ) → (c ≡ 42 → ⊥) → (c ≡ 35 → ⊥) → (r : Read) → (r ▸ word W c) ≡ (r ▸ ending W list c)
    unfolding ◌▸◌ ending
    closing c h g (Ok n) = rw (ne_eqb c 42 h, ne_eqb c 35 g)
    closing c h g (Err b) = refl

    pub arm-again : (n : ℕ) → arms W list n ≡ (list n ▸ ending W list 42)
    unfolding ending
    arm-again n = arms-is n ∙ same_after {mid = n} (list n) (weak n) (λ m i. refl)

    case-again : (n : ℕ) → (list n ▸ cases W list) ≡ (list n ▸ ending W list 35)
    unfolding ending
    case-again n = same_after {mid = n} (list n) (weak n) (λ m i. refl)

    arm-rest : (at : ℕ) → after_arm W list (arms W list) at ≡ resume W list (arm_end W at)
    unfolding after_arm arm_end else_part resume ◌▸◌
    arm-rest at =
        test (eqb (W at) 42)
        (λ t. rw t (into (expression_in W 17 (at + 1) ▸ word W 78) 42 (arms W list) arm-again))
        (λ t. rw t (test (eqb (W at) 41)
        (λ u. rw u (closing 45 (λ z. omega arith) (λ z. omega arith) (list (at + 1))))
        (λ u. rw u (to_end (word W 45 at)))))

    pub into-list : (r : Read) (c : ℕ) (f : ℕ → Read) → ((n : ℕ) → (list n ▸ f) ≡ (list n ▸ ending W list c)) → (r ▸ list ▸ f) ≡ resume W list (r ▹ entered c)
    unfolding ◌▸◌ ◌▹◌ resume
    into-list (Ok n) c f h = h n
    into-list (Err b) c f h = refl

    pub case-rest : (at : ℕ) → cases W list at ≡ resume W list (case_end W at)
    unfolding cases_turn case_end default_part ◌▸◌
    case-rest at =
        cases-is at
        ∙ test (eqb (W at) 35)
        (λ t. rw t (into-list (expressions W (at + 1) ▸ word W 10) 35 (cases W list) case-again))
        (λ t. rw t (test (eqb (W at) 38)
        (λ u. rw u (into-list (word W 10 (at + 1)) 49 (word W 49) (λ n. closing 49 (λ z. omega arith) (λ z. omega arith) (list n))))
        (λ u. rw u (to_end (word W 49 at)))))

    pub end_rest : (c at : ℕ) → ending W list c at ≡ resume W list (list_end W c at)
    unfolding ending list_end
    end_rest c at =
        test (eqb c 42) (λ t. rw t (arm-rest at)) (λ t. rw t (test (eqb c 35) (λ u. rw u (case-rest at)) (λ u. rw u (to_end (word W c at)))))

  -- ---- the code's loop over the lists of a compound statement

  -- a list is entered only behind a word
  is-inside : Parted → Bool
  is-inside (Ok (part.Whole n)) = false
  is-inside (Err b) = false
  is-inside (Ok (part.Inside c n)) = true

  end-nothing : (c m : ℕ) → W m ≡ 0 → is-inside (list_end W c m) ≡ false
  unfolding list_end arm_end case_end word ◌▹◌ is-inside
  end-nothing c m z =
      test (eqb c 42) (λ t. rw (t, z)) (λ t. rw t (test (eqb c 35) (λ u. rw (u, z)) (λ u. rw (u, z) (test (eqb 0 c) (λ w. rw w) (λ w. rw w)))))

  end-in : (c m k n : ℕ) → list_end W c m ≡ entered k n → m < words
  unfolding is-inside
  end-in c m k n e = within code words m (λ z. false-true (sym (end-nothing c m z) ∙ ap is-inside e))

unfoldable pub room : ℕ → Part → ℕ
room words (part.Whole n) = 0
room words (part.Inside c n) = suc (words - n)

pub record Resumes (code : List ℕ) (words d at : ℕ) (p : Part) : Type 0 where
  pub rest : compound (sorts_in code words) d at ≡ resume (sorts_in code words) (list_below (sorts_in code words) d) (Ok p)
  pub shape : Shaped d (Ok p)

module _ (code : List ℕ) (words : ℕ) (lent : Lent code words) (d at : ℕ) where
  module _ (r : Parted) (e : r ≡ opened (sorts_in code words) d at) where
    pub begins : (p : Part) → r ≡ Ok p → Resumes code words d at p
    unfolding compound
    begins p h = record {
      rest = ap (resume (sorts_in code words) (list_below (sorts_in code words) d)) (sym e ∙ h);
      shape = rw (sym h ∙ e) (open-shaped (sorts_in code words) d at);
    }

    pub begins-refused : (b : Breach) → r ≡ Err b → Err b ≡ compound (sorts_in code words) d at
    unfolding compound resume
    begins-refused b h = sym (ap (resume (sorts_in code words) (list_below (sorts_in code words) d)) (sym e ∙ h))

  module _ (p : Part) (l : Resumes code words d at p) where
    pub whole-left : (n : ℕ) → p ≡ part.Whole n → Ok n ≡ compound (sorts_in code words) d at
    unfolding resume
    whole-left n e = sym (l.rest ∙ rw e)

    module _ (c n : ℕ) (e : p ≡ part.Inside c n) where
      pub deep : 0 < d
      deep = shaped-deep d c n (Ok p) l.shape (ap (λ (x : Part). Ok x) e)

      pub closes : 0 < c
      closes = shaped-closes d c n (Ok p) l.shape (ap (λ (x : Part). Ok x) e)

      module _ (r : Read) (f : r ≡ list_below (sorts_in code words) (suc (d - 1)) n) where
        its : r ≡ list_below (sorts_in code words) d n
        its = let q : suc (d - 1) ≡ d = omega (arith, deep) in rw q at f

        inside : compound (sorts_in code words) d at ≡ (list_below (sorts_in code words) d n ▸ ending (sorts_in code words) (list_below (sorts_in code words) d) c)
        unfolding resume
        inside = l.rest ∙ rw e

        pub list-refused : (b : Breach) → r ≡ Err b → Err b ≡ compound (sorts_in code words) d at
        unfolding ◌▸◌
        list-refused b h = sym (inside ∙ rw (sym its ∙ h))

        module _ (m : ℕ) (h : r ≡ Ok m) (q : Parted) (g : q ≡ list_end (sorts_in code words) c m) where
          left : compound (sorts_in code words) d at ≡ resume (sorts_in code words) (list_below (sorts_in code words) d) q
          unfolding ◌▸◌
          left =
              inside ∙ rw (sym its ∙ h) (end_rest code words lent (list_below (sorts_in code words) d) (list_on (sorts_in code words) d) c m)
              ∙ ap (resume (sorts_in code words) (list_below (sorts_in code words) d)) (sym g)

          pub end-refused : (b : Breach) → q ≡ Err b → Err b ≡ compound (sorts_in code words) d at
          unfolding resume
          end-refused b y = sym (left ∙ rw y)

          module _ (s : Part) (y : q ≡ Ok s) where
            pub list_left : Resumes code words d at s
            list_left = record {
              rest = rw y at left;
              shape = rw (sym y ∙ g) (end-shaped (sorts_in code words) d deep c m);
            }

            less : (x : Part) → s ≡ x → room words x < suc (words - n)
            unfolding room reached
            less (part.Whole j) z = omega arith
            less (part.Inside k j) z =
                let a : list_end (sorts_in code words) c m ≡ entered k j = sym g ∙ y ∙ ap (λ (x : Part). Ok x) z in
                let b : m < words = end-in code words lent c m k j a in
                let f : suc m ≤ j = (list-end-on (sorts_in code words) c m).far j (ap reached a) in
                let w : n ≤ m = list_on (sorts_in code words) d n m (sym its ∙ h) in
                omega arith

            pub list-less : room words s < room words p
            unfolding room
            list-less = rw e (less s refl)

-- ---- the code's loop over the statements of a list

module _ (code : List ℕ) (words : ℕ) (lent : Lent code words) (d : ℕ) where
  compound-there : (at : ℕ) → starts_compound (sorts_in code words at) ≡ true → at < words
  unfolding starts_compound
  compound-there at t = within code words at (λ z. false-true (rw z at t))

  simple-there : (at : ℕ) → starts_simple (sorts_in code words at) ≡ true → at < words
  unfolding starts_simple
  simple-there at t = within code words at (λ z. false-true (rw z at t))

  list-local : Local words (list_turn (sorts_in code words) (compound (sorts_in code words) d))
  unfolding list_turn
  list-local f g at h =
      test (starts_compound (sorts_in code words at))
      (λ t. rw t (same_after {mid = suc at} (compound (sorts_in code words) d at) (compound-on (sorts_in code words) d at) (λ n l. h (compound-there at t) n l)))
      (λ t. rw t (test (starts_simple (sorts_in code words at))
      (λ u. rw u (same_after {mid = suc at} (simple (sorts_in code words) at) (simple-on (sorts_in code words) at) (λ n l. h (simple-there at u) n l)))
      (λ u. rw u)))

  list-is : (at : ℕ) → list_below (sorts_in code words) (suc d) at ≡ list_turn (sorts_in code words) (compound (sorts_in code words) d) (list_below (sorts_in code words) (suc d)) at
  unfolding list_below compound
  list-is at = endless words (list_turn (sorts_in code words) (compound (sorts_in code words) d)) list-local lent.few at

  module _ (x : Read) (n v : ℕ) (left : x ≡ list_below (sorts_in code words) (suc d) n) (w : v ≡ sorts_in code words n) (b : Bool) (s : b ≡ starts_compound v) where
    compound-is : starts_compound (sorts_in code words n) ≡ b
    compound-is = ap starts_compound (sym w) ∙ sym s

    module _ (q : b ≡ true) where
      pub compound-in : n < words
      compound-in = compound-there n (compound-is ∙ q)

      module _ (r : Read) (e : r ≡ compound (sorts_in code words) d n) where
        on-compound : x ≡ (compound (sorts_in code words) d n ▸ list_below (sorts_in code words) (suc d))
        unfolding list_turn
        on-compound = left ∙ list-is n ∙ rw (compound-is ∙ q, list_turn)

        pub compound-refused : (b : Breach) → r ≡ Err b → Err b ≡ x
        unfolding ◌▸◌
        compound-refused b h = sym (on-compound ∙ rw (sym e ∙ h))

        pub compound-left : (m : ℕ) → r ≡ Ok m → x ≡ list_below (sorts_in code words) (suc d) m
        unfolding ◌▸◌
        compound-left m h = on-compound ∙ rw (sym e ∙ h)

        pub compound-less : (m : ℕ) → r ≡ Ok m → words - m < words - n
        compound-less m h = omega (arith, compound-in, compound-on (sorts_in code words) d n m (sym e ∙ h))

    module _ (q : b ≡ false) (b' : Bool) (s' : b' ≡ starts_simple v) where
      simple-is : starts_simple (sorts_in code words n) ≡ b'
      simple-is = ap starts_simple (sym w) ∙ sym s'

      pub list-ends : b' ≡ false → Ok n ≡ x
      unfolding list_turn
      list-ends q' = sym (left ∙ list-is n ∙ rw (compound-is ∙ q, list_turn) (rw (simple-is ∙ q')))

      module _ (q' : b' ≡ true) (r : Read) (e : r ≡ simple (sorts_in code words) n) where
        on-simple : x ≡ (simple (sorts_in code words) n ▸ list_below (sorts_in code words) (suc d))
        unfolding list_turn
        on-simple = left ∙ list-is n ∙ rw (compound-is ∙ q, list_turn) (rw (simple-is ∙ q'))

        pub simple-refused : (b : Breach) → r ≡ Err b → Err b ≡ x
        unfolding ◌▸◌
        simple-refused b h = sym (on-simple ∙ rw (sym e ∙ h))

        pub simple-left : (m : ℕ) → r ≡ Ok m → x ≡ list_below (sorts_in code words) (suc d) m
        unfolding ◌▸◌
        simple-left m h = on-simple ∙ rw (sym e ∙ h)

        pub simple-less : (m : ℕ) → r ≡ Ok m → words - m < words - n
        simple-less m h = omega (arith, simple-there n (simple-is ∙ q'), simple-on (sorts_in code words) n m (sym e ∙ h))
