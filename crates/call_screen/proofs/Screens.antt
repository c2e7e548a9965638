-- What is shown of a call is the paper's screen, and the promise allows one outcome alone.
use mathlib.Core.Path.{◌≡◌, refl, sym, ap, ap₂, ◌∙◌}
use mathlib.Core.List.{List, ◌++◌}
use Prim.Native.Nat.{ℕ}
use lib.ListN.{length, take}
use lib.Seq.{take_at}
use Rattle.laws.proofs.Tests.{test}
use Rattle.paper.specs.Answer.{Record, Question, Verdict, refused_by, accepted, refused_with, ended_with, ran_to, carried_out, verdict, too_small, bad_depth, result, Lent, question_of, answer, LentBytes, lent_of}
use Rattle.call_screen.specs.declared.Shown.{Shown}
use Rattle.call_screen.specs.Screen.{record_line, screen_of, Shows}

-- ---- the record counts the bytes that were written
counted-by : (q : Question) (v : Verdict) → (carried_out q v).fields.output ≡ length (carried_out q v).written
unfolding carried_out refused_with ran_to ended_with
counted-by q (refused_by f) = refl
counted-by q (accepted a) = refl

counted : (q : Question) → (result q).fields.output ≡ length (result q).written
unfolding result refused_with
counted q = test (too_small q) (λ t. rw (t, result)) (λ t. test (bad_depth q) (λ d. rw (t, result) (rw d)) (λ d. rw (t, result) (rw d (counted-by q (verdict q.text)))))

-- an answer has the result's record, and its output begins with what was written
answered : (l : Lent) → (answer l).fields ≡ (result (question_of l)).fields
unfolding answer
answered l = test (too_small (question_of l)) (λ t. rw (t, answer)) (λ t. rw (t, answer))

written-first : (l : Lent) → take (result (question_of l)).fields.output (answer l).output ≡ (result (question_of l)).written
unfolding answer result refused_with
written-first l = test (too_small (question_of l))
    (λ t. rw (t, result))
    (λ t. rw (t, answer) (take_at (result (question_of l)).written _ _ (sym (counted (question_of l)))))

module _ (l : LentBytes) (line : List ℕ) (r : Shown) (out' code' values' line' : List ℕ) (s : Shows l line r out' code' values' line') where
  pub shows-screen : take r.output out' ++ take r.line line' ≡ screen_of (result (question_of (lent_of l)))
  unfolding screen_of
  shows-screen =
      let q : Question = question_of (lent_of l) in
      let f : (answer (lent_of l)).fields ≡ (result q).fields = answered (lent_of l) in
      let shown : take r.output out' ≡ (result q).written =
      ap₂ take (s.output-is ∙ ap (λ (x : Record). x.output) f) s.out-is ∙ written-first (lent_of l) in
      let told : take r.line line' ≡ record_line (result q).fields =
      ap₂ take s.length-is s.line-is ∙ take_at (record_line (answer (lent_of l)).fields) _ _ refl ∙ ap record_line f in
      ap₂ ◌++◌ shown told

-- two allowed results are equal
pub show-unique : (l : LentBytes) (line : List ℕ) (r r' : Shown) (out code values line₁ out' code' values' line₂ : List ℕ)
    → Shows l line r out code values line₁ → Shows l line r' out' code' values' line₂
    → (r ≡ r') × ((out ≡ out') × ((code ≡ code') × ((values ≡ values') × (line₁ ≡ line₂))))
show-unique l line r r' out code values line₁ out' code' values' line₂ s t =
    let output : r.output ≡ r'.output = s.output-is ∙ sym t.output-is in
    let long : r.line ≡ r'.line = s.length-is ∙ sym t.length-is in (
      λ i. record { output = output i; line = long i },
      (s.out-is ∙ sym t.out-is, (s.code_is ∙ sym t.code_is, (s.values-is ∙ sym t.values-is, s.line-is ∙ sym t.line-is))),
    )
