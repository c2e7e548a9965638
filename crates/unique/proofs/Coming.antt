-- What the promise of a step settles (`Comes`): the answer and the state of the run after it; where nothing is made, every cell and byte.
use mathlib.Core.Path.{◌≡◌, refl, sym, ap, ◌∙◌}
use mathlib.Core.List.{List, [], ◌∷◌}
use Prim.Native.Nat.{ℕ, suc, ◌+◌, ◌<◌, ◌≤◌}
use native.Mathlib.Omega.{arith}
use lib.ListN.{length}
use lib.IntN.{ℤ, pos}
use Rattle.paper.specs.Steps.{Program}
use Rattle.paper.specs.States.{Call, State, Effect, made, failing, handing, ending, lacking}
use Rattle.code.specs.Cells.{place_at}
use Rattle.code.specs.Steps.{Head}
use Rattle.code.specs.Windows.{call_in, state_in}
use Rattle.layout.specs.Rules.{beyond_depth, no_room}
use Rattle.layout.specs.Answers.{first_error, answers, entered, left, ended, lacked_by, handed}
use Rattle.run_machine.specs.Live.{Live}
use Rattle.run_machine.specs.Machine.{Comes, goes_on, enters, leaves, fails, hands, ends, lacks}
use Rattle.run_machine.proofs.States.{depth_is}
use Rattle.unique.proofs.Showing.{OneState, one_state}

-- ---- states
-- The step that the newest of these calls makes next.
next_of : List Call → ℕ
next_of [] = 0
next_of (c ∷ r) = c.next

-- Where two stores hold one state, it has as many callers and the same next step.
module _ (P : Program) (R : List Head) (steps : ℕ) (X X' out out' : List ℕ) (e n e' n' : ℕ) (same : state_in P R X e n steps out ≡ state_in P R X' e' n' steps out') where
  pub same-depth : e ≡ e'
  same-depth =
      let long : length (state_in P R X e n steps out).calls ≡ length (state_in P R X' e' n' steps out').calls = ap (λ (s : State). length s.calls) same in
      omega (arith, depth_is P R X e n steps out, depth_is P R X' e' n' steps out')

  pub same_next : n ≡ n'
  unfolding state_in call_in next_of
  same_next = ap (λ (s : State). next_of s.calls) same

  pub meet : Live P R X e n → Live P R X' e' n' → OneState P R e n steps X out X' out'
  meet x y =
      let there : state_in P R X e n steps out ≡ state_in P R X' e n steps out' = rw (← same-depth, ← same_next) at same in
      let lives : Live P R X' e n = rw (same-depth, same_next) y in
      one_state P R e n steps X out X' out' x lives there

-- ---- answers
-- Where a step leads that is made by the call with d callers: the newest call has e callers then, and n is its next step.
pub data Leads (d : ℕ) (r : ℤ) (e n : ℕ) : Type 0 where
  onward : r ≡ pos n → e ≡ d → Leads d r e n
  inward : r ≡ pos (entered + n) → e ≡ suc d → Leads d r e n
  outward : r ≡ pos (left + n) → d ≡ suc e → Leads d r e n

one_answer : (d e n : ℕ) (r s : ℤ) → Leads d r e n → Leads d s e n → r ≡ s
one_answer d e n r s (onward a b) (onward a' b') = a ∙ sym a'
one_answer d e n r s (onward a b) (inward a' b') = absurd (omega arith)
one_answer d e n r s (onward a b) (outward a' b') = absurd (omega arith)
one_answer d e n r s (inward a b) (onward a' b') = absurd (omega arith)
one_answer d e n r s (inward a b) (inward a' b') = a ∙ sym a'
one_answer d e n r s (inward a b) (outward a' b') = absurd (omega arith)
one_answer d e n r s (outward a b) (onward a' b') = absurd (omega arith)
one_answer d e n r s (outward a b) (inward a' b') = absurd (omega arith)
one_answer d e n r s (outward a b) (outward a' b') = a ∙ sym a'

-- ---- what an effect allows
module _ (P : Program) (R : List Head) (C : List ℕ) (offset : ℕ → ℕ) (d i steps : ℕ) (X out : List ℕ) where
  module _ (X' out' : List ℕ) (r : ℤ) where
    record Moves (S : State) : Type 0 where
      e : ℕ
      n : ℕ
      leads : Leads d r e n
      live : Live P R X' e n
      state : S ≡ state_in P R X' e n steps out'

    record Fails (error : ℕ) (S : State) : Type 0 where
      answer : r ≡ pos (first_error + error)
      live : Live P R X' d i
      state : S ≡ state_in P R X' d i steps out'

    record Keeps (is : ℤ) : Type 0 where
      answer : r ≡ is
      cells : X' ≡ X
      output : out' ≡ out

    record Lacks (n at : ℕ) : Type 0 where
      w : ℕ
      low : beyond_depth ≤ n
      high : n ≤ no_room
      small : w < answers
      place : place_at C w ≡ offset at
      keeps : Keeps (pos (lacked_by n + w))

    unfoldable Allows : Effect → Type 0
    Allows (made S) = Moves S
    Allows (failing e S) = Fails e S
    Allows (handing S) = Keeps (pos handed)
    Allows (ending n S) = Keeps (pos (ended + n))
    Allows (lacking n at) = Lacks n at

    allows : (E : Effect) → Comes P R C offset d i steps X X' out out' E r → Allows E
    unfolding Allows
    allows E (goes_on n a l e) = rw (e, Allows) (record { e = d; n = n; leads = onward a refl; live = l; state = refl })
    allows E (enters n a b l e) = rw (e, Allows) (record { e = suc d; n = n; leads = inward a refl; live = l; state = refl })
    allows E (leaves c n a b l e) = rw (e, Allows) (record { e = c; n = n; leads = outward a b; live = l; state = refl })
    allows E (fails k a b l e) = rw (e, Allows) (record { answer = a; live = l; state = refl })
    allows E (hands a x o e) = rw (e, Allows) (record { answer = a; cells = x; output = o })
    allows E (ends n a b x o e) = rw (e, Allows) (record { answer = a; cells = x; output = o })
    allows E (lacks n w at a b c f p x o e) = rw (e, Allows) (record { w = w; low = b; high = c; small = f; place = p; keeps = record { answer = a; cells = x; output = o } })

-- ---- two results
-- A step that lacks no room.
unfoldable pub Suffices : Effect → Type 0
Suffices (made S) = Unit {0}
Suffices (failing e S) = Unit {0}
Suffices (handing S) = Unit {0}
Suffices (ending n S) = Unit {0}
Suffices (lacking n at) = ⊥

-- What two results share that the promise of a step allows.
module _ (P : Program) (R : List Head) (C : List ℕ) (d i steps : ℕ) (X out X₁ out₁ : List ℕ) (r : ℤ) (X₂ out₂ : List ℕ) (s : ℤ) where
  pub data Agrees : Type 0 where
    -- it is made: one answer, and one state of the run, which the answer leads to
    moved : (e n : ℕ) → r ≡ s → Leads d r e n → OneState P R e n steps X₁ out₁ X₂ out₂ → Agrees
    -- it fails: one error, and one state in which it arises
    failed : (error : ℕ) → r ≡ s → r ≡ pos (first_error + error) → OneState P R d i steps X₁ out₁ X₂ out₂ → Agrees
    -- it ends the run, or hands an error on: one answer, and nothing is touched
    kept : r ≡ s → X₁ ≡ X → X₂ ≡ X → out₁ ≡ out → out₂ ≡ out → Agrees

  pub answer-of : Agrees → r ≡ s
  answer-of (moved e n a b c) = a
  answer-of (failed e a b c) = a
  answer-of (kept a x y o p) = a

  -- It lacks room, and nothing is touched: one ending and one place. The words that the two answers name may be two, but they both have that place.
  pub record LacksAlike : Type 0 where
    pub n : ℕ
    pub low : beyond_depth ≤ n
    pub high : n ≤ no_room
    pub w₁ : ℕ
    pub w₂ : ℕ
    pub small₁ : w₁ < answers
    pub small₂ : w₂ < answers
    pub answer₁ : r ≡ pos (lacked_by n + w₁)
    pub answer₂ : s ≡ pos (lacked_by n + w₂)
    pub place : place_at C w₁ ≡ place_at C w₂
    pub cells₁ : X₁ ≡ X
    pub cells₂ : X₂ ≡ X
    pub output₁ : out₁ ≡ out
    pub output₂ : out₂ ≡ out

  pub data AgreesOrLacks : Type 0 where
    agreed : Agrees → AgreesOrLacks
    lacked : LacksAlike → AgreesOrLacks

  module _ (offset : ℕ → ℕ) where
    moves-agree : (S : State) → Moves P R C offset d i steps X out X₁ out₁ r S → Moves P R C offset d i steps X out X₂ out₂ s S → Agrees
    moves-agree S p q =
        let state : state_in P R X₁ p.e p.n steps out₁ ≡ state_in P R X₂ q.e q.n steps out₂ = sym p.state ∙ q.state in
        let depth : p.e ≡ q.e = same-depth P R steps X₁ X₂ out₁ out₂ p.e p.n q.e q.n state in
        let next : p.n ≡ q.n = same_next P R steps X₁ X₂ out₁ out₂ p.e p.n q.e q.n state in
        moved p.e p.n
        (one_answer d p.e p.n r s p.leads (rw (depth, next) q.leads))
        p.leads
        (meet P R steps X₁ X₂ out₁ out₂ p.e p.n q.e q.n state p.live q.live)

    keeps-agree : (is : ℤ) → Keeps P R C offset d i steps X out X₁ out₁ r is → Keeps P R C offset d i steps X out X₂ out₂ s is → Agrees
    keeps-agree is p q = kept (p.answer ∙ sym q.answer) p.cells q.cells p.output q.output

    enough-agree : (E : Effect) → Suffices E → Allows P R C offset d i steps X out X₁ out₁ r E → Allows P R C offset d i steps X out X₂ out₂ s E → Agrees
    unfolding Allows Suffices
    enough-agree (made S) h p q = moves-agree S p q
    enough-agree (failing e S) h p q = failed e (p.answer ∙ sym q.answer) p.answer (one_state P R d i steps X₁ out₁ X₂ out₂ p.live q.live (sym p.state ∙ q.state))
    enough-agree (handing S) h p q = keeps-agree (pos handed) p q
    enough-agree (ending n S) h p q = keeps-agree (pos (ended + n)) p q
    enough-agree (lacking n at) h p q = absurd h

    lacks-alike : (n at : ℕ) → Lacks P R C offset d i steps X out X₁ out₁ r n at → Lacks P R C offset d i steps X out X₂ out₂ s n at → LacksAlike
    lacks-alike n at p q = record {
      n = n;
      low = p.low;
      high = p.high;
      w₁ = p.w;
      w₂ = q.w;
      small₁ = p.small;
      small₂ = q.small;
      answer₁ = p.keeps.answer;
      answer₂ = q.keeps.answer;
      place = p.place ∙ sym q.place;
      cells₁ = p.keeps.cells;
      cells₂ = q.keeps.cells;
      output₁ = p.keeps.output;
      output₂ = q.keeps.output;
    }

    allowed-agree : (E : Effect) → Allows P R C offset d i steps X out X₁ out₁ r E → Allows P R C offset d i steps X out X₂ out₂ s E → AgreesOrLacks
    unfolding Allows Suffices
    allowed-agree (lacking n at) p q = lacked (lacks-alike n at p q)
    allowed-agree (made S) p q = agreed (enough-agree (made S) tt p q)
    allowed-agree (failing e S) p q = agreed (enough-agree (failing e S) tt p q)
    allowed-agree (handing S) p q = agreed (enough-agree (handing S) tt p q)
    allowed-agree (ending n S) p q = agreed (enough-agree (ending n S) tt p q)

    module _ (E : Effect) (p : Comes P R C offset d i steps X X₁ out out₁ E r) (q : Comes P R C offset d i steps X X₂ out out₂ E s) where
      one : Allows P R C offset d i steps X out X₁ out₁ r E
      one = allows P R C offset d i steps X out X₁ out₁ r E p

      other : Allows P R C offset d i steps X out X₂ out₂ s E
      other = allows P R C offset d i steps X out X₂ out₂ s E q

      pub agree : AgreesOrLacks
      agree = allowed-agree E one other

      pub agree-where : Suffices E → Agrees
      agree-where h = enough-agree E h one other
