-- Each public promise settles the result.
use mathlib.Core.Path.{◌≡◌, sym, ap, ◌∙◌}
use mathlib.Core.Bool.{Bool}
use mathlib.Core.List.{List}
use Prim.Native.Nat.{ℕ}
use denote.Ref.{Bor}
use Rattle.paper.specs.Words as paper
use Rattle.text_words.specs.declared.Cursor.{Cursor}
use Rattle.std.specs.Prelude.{Result, Ok, Err}
use Rattle.layout.specs.declared.rules.Rule.{Rule}
use Rattle.layout.proofs.RuleNumbers.{number-injective}
use Rattle.laws.proofs.Tests.{apart}
use Rattle.text_words.specs.declared.Refusal.{Refusal}
use Rattle.text_words.specs.Answers.{as_refusal, told, Step, Started, Stepped, PartAt}

pub start-unique : (r s : Cursor) → Started r → Started s → r ≡ s
start-unique r s h g = h ∙ sym g

pub refusal-of-one : (q p : Refusal) → as_refusal q ≡ as_refusal p → q ≡ p
refusal-of-one q p h =
    let rule : q.rule ≡ p.rule = number-injective q.rule p.rule (ap (λ (x : paper.Refusal). x.number) h) in
    let place : q.place ≡ p.place = ap (λ (x : paper.Refusal). x.offset) h in
    ap (λ (x : Rule). record { rule = x; place = q.place }) rule ∙ ap (λ (x : ℕ). record { rule = p.rule; place = x }) place

-- what is told of an answer settles it
pub told-one : {A : Type 0} (r s : Result A Refusal) → told r ≡ told s → r ≡ s
told-one (Ok x) (Ok y) h = cc
told-one (Ok x) (Err p) h = apart (cc)
told-one (Err q) (Ok y) h = apart (cc)
told-one (Err q) (Err p) h = ap Err (refusal-of-one q p (cc))

pub step-unique : (text : List ℕ) (c : Cursor) (r s : Step) → Stepped text c r → Stepped text c s → r ≡ s
step-unique text c r s h g = told-one r s (h ∙ sym g)

-- the bytes, with them how many they are, where they lie, and the flag
pub part-at-unique : (text : Bor (List ℕ)) (place : ℕ) (r s : Bor (List ℕ)) (f g : Bool) → PartAt text place r f → PartAt text place s g
    → (r.now ≡ s.now) × (r.ref_ptr ≡ s.ref_ptr) × (f ≡ g)
part-at-unique text place r s f g h k = (h.bytes ∙ sym k.bytes, h.start ∙ sym k.start, h.flag ∙ sym k.flag)
