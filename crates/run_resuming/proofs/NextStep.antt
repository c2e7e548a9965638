-- The step after a step's statement, as the cells have it.
use mathlib.Core.Path.{◌≡◌, refl, sym, ap, ◌∙◌}
use mathlib.Core.Bool.{Bool}
use mathlib.Core.List.{List}
use mathlib.Core.Option.{some}
use Prim.Native.Nat.{ℕ, zero, suc, ◌+◌, ◌-◌, ◌*◌, ◌/◌, ◌%◌, ◌<◌, ◌≤◌}
use native.Mathlib.Omega.{arith}
use lib.ListN.{length}
use Rattle.laws.proofs.Tests.{by_less, by-same}
use Rattle.paper.specs.Terms.{Term}
use Rattle.store_cells.specs.Cells.{cells_of}
use Rattle.code.specs.Cells.{head_at, op_at, value_at, link_at, op_in}
use Rattle.layout.specs.Parts.{value_part, loop_part}
use Rattle.store_evaluation.specs.Parts.{addresses}
use Rattle.code.specs.Steps.{Head, parts, arguments_in, a_call_target, a_compact_if, a_for, a_for_test, a_function_end, a_next_argument, a_procedure_call, a_raise, a_raise_of, a_read}
use Rattle.code.specs.Steps.{a_retry, a_return, a_return_of, a_target, a_test, a_try_next, a_while, a_write, a_write_of, an_end, an_exit, an_if, an_undo_end}
use Rattle.code.proofs.Spanning.{span-grows}
use Rattle.store_evaluation.proofs.Places.{op-in, link-in}
use Rattle.run_resuming.specs.Resuming.{Closes, Closing, StepAt, After}
use Rattle.paper.specs.Words.{word_limit}
use Rattle.run_machine.proofs.Actions as Actions

-- ---- the word that closes arguments
-- the arguments from some word on, of which the first ends at b, are closed by the same word
pub record Rest (code : List ℕ) (first end : ℕ) (c : Closes code first end) (b : ℕ) : Type 0 where
  pub f : ℕ
  pub a : ℕ
  pub es : List Term
  pub is : arguments_in c.m c.n c.function c.text c.R (cells_of code) (suc f) a b ≡ some (es, c.closing)

abbrev pub Closed : (code : List ℕ) → (first end b : ℕ) → Type 0
Closed code first end b = (c : Closes code first end) → Rest code first end c b

-- an argument has words
grows : (m n : ℕ) (function : Bool) (text : List ℕ) (R : List Head) (C : List ℕ) (f a b : ℕ) (es : List Term) (closes : ℕ) → arguments_in m n function text R C f a b ≡ some (es, closes) → a < b
grows m n function text R C zero a b es closes e = absurd (omega (arith, Actions.arguments-some m n function text R C a b es closes zero e))
grows m n function text R C (suc f) a b es closes e =
    by-same (op_at C b) a_next_argument
    (λ h. let g = Actions.argument-more m n function text R C a b es closes f e h in span-grows m n C a b g.e g.reads)
    (λ h. let g = Actions.argument-last m n function text R C a b es closes f e h in span-grows m n C a b g.e g.reads)

module _ (code : List ℕ) (first end : ℕ) where
  pub closed_none : first ≡ end → Closing code first end end
  closed_none e = record { is = λ c. sym (Actions.no_arguments c.m c.n c.function c.text c.R (cells_of code) first end c.terms c.closing e c.is).closes-is }

  pub closed-start : (first ≡ end → ⊥) → Closed code first end end
  closed-start d c =
      record { f = parts - 1; a = first; es = c.terms; is = Actions.some-arguments c.m c.n c.function c.text c.R (cells_of code) first end c.terms c.closing d c.is }

  module _ (b : ℕ) (k : Closed code first end b) (c : Closes code first end) where
    last : (op_at (cells_of code) b ≡ a_next_argument → ⊥) → c.closing ≡ b
    last d = let r = k c in (Actions.argument-last c.m c.n c.function c.text c.R (cells_of code) r.a b r.es c.closing r.f r.is d).closes-is

    whole : length code % 8 ≡ 0
    whole = omega (arith, c.size)

    pub closed_in : b * 8 + 8 ≤ length code
    closed_in =
        by-same (op_at (cells_of code) b) a_next_argument
        (λ e. op-in code b whole (λ z. absurd (omega arith)))
        (λ d. link-in code b whole (λ z. let q = ap (link_at (cells_of code)) (last d) in absurd (omega (arith, c.linked))))

  pub closed-end : (b w : ℕ) → w ≡ head_at (cells_of code) b → (op_in w ≡ a_next_argument → ⊥) → Closed code first end b → Closing code first end b
  closed-end b w e d k = record { is = λ c. sym (last b k c (λ z. d (ap (λ (x : ℕ). op_in x) e ∙ z))) }

  module _ (b w : ℕ) (ew : w ≡ head_at (cells_of code) b) (h : op_in w ≡ a_next_argument) (k : Closed code first end b) (l : ℕ) (el : l ≡ link_at (cells_of code) b) where
    op-is : op_at (cells_of code) b ≡ a_next_argument
    op-is = sym (ap (λ (x : ℕ). op_in x) ew) ∙ h

    module _ (c : Closes code first end) where
      more : Actions.Argument c.m c.n c.function c.text c.R (cells_of code) (k c).a b (k c).es c.closing (k c).f
      more = let r = k c in Actions.argument-more c.m c.n c.function c.text c.R (cells_of code) r.a b r.es c.closing r.f r.is op-is

      next-fuel : (f : ℕ) → arguments_in c.m c.n c.function c.text c.R (cells_of code) f (b + 1) (link_at (cells_of code) b) ≡ some (more.rest, c.closing)
          → Rest code first end c (link_at (cells_of code) b)
      next-fuel zero e = absurd (omega (arith, Actions.arguments-some c.m c.n c.function c.text c.R (cells_of code) (b + 1) (link_at (cells_of code) b) more.rest c.closing zero e))
      next-fuel (suc f) e = record { f = f; a = b + 1; es = more.rest; is = e }

      next : Rest code first end c (link_at (cells_of code) b)
      next = next-fuel (k c).f more.more

    pub closed-less : Closes code first end → word_limit - l < word_limit - b
    closed-less c =
        let g = grows c.m c.n c.function c.text c.R (cells_of code) (k c).f (b + 1) (link_at (cells_of code) b) (more c).rest c.closing (more c).more in
        omega (arith, g, closed_in b k c, c.size)

    pub closed-next : Closed code first end l
    closed-next c = rw el (next c)

-- ---- by the op of a step
-- a number from k on is k, or is above it
by_next : {A : Type 0} (a k : ℕ) → k ≤ a → (a ≡ k → A) → (suc k ≤ a → A) → A
by_next a k h f g = by-same a k f (λ d. g (above d))
  where
    above : (a ≡ k → ⊥) → suc k ≤ a
    above d = omega (arith, d)

module _ (code : List ℕ) (i w : ℕ) (ew : w ≡ head_at (cells_of code) i) where
  abbrev C : List ℕ
  C = cells_of code

  op-at : (k : ℕ) → op_in w ≡ k → op_at C i ≡ k
  op-at k e = sym (ap (λ (x : ℕ). op_in x) ew) ∙ e

  module _ (s : StepAt code i) where
    step-whole : length code % 8 ≡ 0
    step-whole = omega (arith, s.size)

    -- what a word is linked to that leads on lies in the store
    linked-in : (j : ℕ) → s.next ≡ link_at C j → j * 8 + 8 ≤ length code
    linked-in j e = link-in code j step-whole (λ z. absurd (omega (arith, s.goes-on)))

    module _ (h : op_at C i ≡ a_procedure_call) where
      of-call : Actions.CallsOf s.m s.n s.function s.text s.R C i s.next s.does
      of-call = Actions.reads-call-of s.m s.n s.function s.text s.R C i s.next s.does s.is h

      closes-of : (l : ℕ) → l ≡ link_at C i → Closes code (i + 1) l
      closes-of l e =
          let g = of-call in
          record {
            m = s.m;
            n = s.n;
            function = s.function;
            text = s.text;
            R = s.R;
            terms = g.es;
            closing = g.closes;
            is = rw e g.arguments;
            linked = omega (arith, g.after_is, s.goes-on);
            size = s.size;
          }

      closed_at : (l : ℕ) → l ≡ link_at C i → (r : ℕ) → Closing code (i + 1) l r → s.next ≡ link_at C r
      unfolding closes-of of-call
      closed_at l e r c = of-call.after_is ∙ sym (ap (link_at C) (c.is (closes-of l e)))

    module _ (h : op_at C i ≡ a_for_test) where
      for-at : s.next ≡ link_at C (w / (value_part * loop_part))
      for-at =
          let g = Actions.reads-for-test s.m s.n s.function s.text s.R C i s.next s.does s.is h in
          let q : value_at C i / loop_part ≡ w / (value_part * loop_part) = omega arith in
          g.after_is ∙ ap (link_at C) q

    module _ (low : a_target ≤ op_at C i) (high : op_at C i ≤ an_undo_end) (call : op_at C i ≡ a_procedure_call → ⊥) (test : op_at C i ≡ a_for_test → ⊥)
        (end : op_at C i ≡ an_end → ⊥) (last : op_at C i ≡ a_function_end → ⊥) (undo : op_at C i ≡ an_undo_end → ⊥) where
      plain_at : s.next ≡ link_at C i
      plain_at =
          by_less (op_at C i) a_call_target (λ h. (Actions.reads-store s.m s.n s.function s.text s.R C i s.next s.does s.is low h).after_is) (λ k.
          by_less (op_at C i) a_procedure_call (λ h. (Actions.reads-call-for s.m s.n s.function s.text s.R C i s.next s.does s.is k h).after_is) (λ l136.
          by_next (op_at C i) a_procedure_call l136 (λ h. absurd (call h)) (λ l137.
          by_next (op_at C i) a_return_of l137 (λ h. (Actions.reads-return-of s.m s.n s.function s.text s.R C i s.next s.does s.is h).after_is) (λ l138.
          by_next (op_at C i) a_return l138 (λ h. (Actions.reads-return s.m s.n s.function s.text s.R C i s.next s.does s.is h).after_is) (λ l139.
          by_next (op_at C i) a_raise_of l139 (λ h. (Actions.reads-raise-of s.m s.n s.function s.text s.R C i s.next s.does s.is h).after_is) (λ l140.
          by_next (op_at C i) a_raise l140 (λ h. (Actions.reads-raise s.m s.n s.function s.text s.R C i s.next s.does s.is h).after_is) (λ l141.
          by_next (op_at C i) an_exit l141 (λ h. (Actions.reads_exit s.m s.n s.function s.text s.R C i s.next s.does s.is h).after_is) (λ l142.
          by_next (op_at C i) a_retry l142 (λ h. (Actions.reads-retry s.m s.n s.function s.text s.R C i s.next s.does s.is h).after_is) (λ l143.
          by_next (op_at C i) a_try_next l143 (λ h. (Actions.reads-try-next s.m s.n s.function s.text s.R C i s.next s.does s.is h).after_is) (λ l144.
          by_next (op_at C i) a_write l144 (λ h. (Actions.reads-write s.m s.n s.function s.text s.R C i s.next s.does s.is h).after_is) (λ l145.
          by_next (op_at C i) a_write_of l145 (λ h. (Actions.reads-write-of s.m s.n s.function s.text s.R C i s.next s.does s.is h).after_is) (λ l146.
          by_next (op_at C i) a_read l146 (λ h. (Actions.reads-read s.m s.n s.function s.text s.R C i s.next s.does s.is h).after_is) (λ l147.
          by_next (op_at C i) a_compact_if l147 (λ h. (Actions.reads-compact-if s.m s.n s.function s.text s.R C i s.next s.does s.is h).after_is) (λ l148.
          by_next (op_at C i) an_if l148 (λ h. (Actions.reads-if s.m s.n s.function s.text s.R C i s.next s.does s.is h).after_is) (λ l149.
          by_next (op_at C i) a_while l149 (λ h. (Actions.reads-while s.m s.n s.function s.text s.R C i s.next s.does s.is h).after_is) (λ l150.
          by_next (op_at C i) a_for l150 (λ h. (Actions.reads-for s.m s.n s.function s.text s.R C i s.next s.does s.is h).after_is) (λ l151.
          by_next (op_at C i) a_for_test l151 (λ h. absurd (test h)) (λ l152.
          by_next (op_at C i) a_test l152 (λ h. (Actions.reads-test s.m s.n s.function s.text s.R C i s.next s.does s.is h).after_is) (λ l153.
          by_next (op_at C i) an_end l153 (λ h. absurd (end h)) (λ l154.
          by_next (op_at C i) a_function_end l154 (λ h. absurd (last h)) (λ l155.
          by_next (op_at C i) an_undo_end l155 (λ h. absurd (undo h)) (λ l156.
          absurd (omega arith)))))))))))))))))))))))

-- ---- what the code does with it
module _ (code : List ℕ) (i : ℕ) where
  pub step-in : StepAt code i → i * 8 + 8 ≤ length code
  step-in s =
      let low = Actions.op-low s.m s.n s.function s.text s.R (cells_of code) i s.next s.does s.is in
      op-in code i (omega (arith, s.size)) (λ z. absurd (omega arith))

  pub step_small : StepAt code i → i + 1 < addresses
  step_small s = omega (arith, step-in s, s.size)

  module _ (w : ℕ) (ew : w ≡ head_at (cells_of code) i) where
    module _ (h : op_in w ≡ a_procedure_call) (l : ℕ) (el : l ≡ link_at (cells_of code) i) where
      pub call-closes : StepAt code i → Closes code (i + 1) l
      call-closes s = closes-of code i w ew s (op-at code i w ew a_procedure_call h) l el

      module _ (r : ℕ) (c : Closing code (i + 1) l r) where
        pub call-in : StepAt code i → r * 8 + 8 ≤ length code
        call-in s = linked-in code i w ew s r (closed_at code i w ew s (op-at code i w ew a_procedure_call h) l el r c)

        pub call-after : (q : ℕ) → q ≡ link_at (cells_of code) r → After code i q
        call-after q e = record { is = λ s. e ∙ sym (closed_at code i w ew s (op-at code i w ew a_procedure_call h) l el r c) }

    module _ (h : op_in w ≡ a_for_test) where
      pub for-in : StepAt code i → w / (value_part * loop_part) * 8 + 8 ≤ length code
      for-in s = linked-in code i w ew s (w / (value_part * loop_part)) (for-at code i w ew s (op-at code i w ew a_for_test h))

      pub for_after : (q : ℕ) → q ≡ link_at (cells_of code) (w / (value_part * loop_part)) → After code i q
      for_after q e = record { is = λ s. e ∙ sym (for-at code i w ew s (op-at code i w ew a_for_test h)) }

    pub end_after : op_in w ≡ an_end → After code i i
    end_after h = record { is = λ s. sym (Actions.reads_end s.m s.n s.function s.text s.R (cells_of code) i s.next s.does s.is (op-at code i w ew an_end h)).after_is }

    pub function-end-after : op_in w ≡ a_function_end → After code i i
    function-end-after h =
        record { is = λ s. sym (Actions.reads-function-end s.m s.n s.function s.text s.R (cells_of code) i s.next s.does s.is (op-at code i w ew a_function_end h)).after_is }

    pub undo-end-after : op_in w ≡ an_undo_end → After code i i
    undo-end-after h =
        record { is = λ s. sym (Actions.reads-undo-end s.m s.n s.function s.text s.R (cells_of code) i s.next s.does s.is (op-at code i w ew an_undo_end h)).after_is }

    pub plain-after : (op_in w ≡ a_procedure_call → ⊥) → (op_in w ≡ a_for_test → ⊥) → (op_in w ≡ an_end → ⊥) → (op_in w ≡ a_function_end → ⊥) → (op_in w ≡ an_undo_end → ⊥) → (q : ℕ) → q ≡ link_at (cells_of code) i → After code i q
    plain-after d1 d2 d3 d4 d5 q e =
        let o : op_at (cells_of code) i ≡ op_in w = op-at code i w ew (op_in w) refl in
        record {
          is = λ s. e ∙ sym (plain_at code i w ew s
              (Actions.op-low s.m s.n s.function s.text s.R (cells_of code) i s.next s.does s.is)
              (Actions.op-high s.m s.n s.function s.text s.R (cells_of code) i s.next s.does s.is)
              (λ z. d1 (sym o ∙ z)) (λ z. d2 (sym o ∙ z)) (λ z. d3 (sym o ∙ z)) (λ z. d4 (sym o ∙ z)) (λ z. d5 (sym o ∙ z)));
        }
