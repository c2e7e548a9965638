-- The call of a class: what it returns and leaves is the request's answer.
use mathlib.Core.Path.{◌≡◌, refl, sym, ap, ◌∙◌}
use mathlib.Core.List.{List, ◌++◌}
use Prim.Native.Nat.{ℕ}
use native.Mathlib.Omega.{arith}
use lib.ListN.{length, replicate}
use Rattle.paper.specs.Answer.{store_words}
use Rattle.layout.specs.Named.{store_bytes}
use Rattle.classes.specs.Classes.{ClassLent, lengths_of, modules_of, class_question_of, add_up, too_many, too_short, class_refusal, zeroed, taken, refused, untouched}
use Rattle.classes.proofs.Taken.{is-taken, is-refused, is-untouched, stores-lent}
use Rattle.store_cells.specs.Cells.{Cleared}
use Rattle.call_records.specs.Records.{Empties, Emptied}
use Rattle.call_class.specs.Classes.{lent, Classes}
use Rattle.call_class.specs.declared.Refusal.{Refusal}
use Rattle.call_class.specs.declared.Refusal.TheVariants.{SmallStore, WrongDepth, LengthsDiffer, ManyModules, ShortList}
use Rattle.call_class.specs.Parts.{number_of, sized, Accepts, Reached}
use Rattle.call_class.proofs.Lengths.{word_count}

-- a store that was cleared
cleared-is : (before after : List ℕ) → Cleared before after 0 store_words → after ≡ zeroed before
unfolding zeroed
cleared-is before after c = c.bytes

module _ (texts lengths : List ℕ) (steps depth : ℕ) (inputs out code values records' data' : List ℕ) where
  abbrev all : ClassLent
  all = lent texts lengths steps depth inputs out code values records' data'

  same-refusal : class_refusal (sized texts lengths depth code values records' data') ≡ class_refusal (class_question_of all)
  unfolding sized class_question_of lent class_refusal add_up too_many too_short
  same-refusal = refl

  module _ (r : ℕ) (e : r ≡ class_refusal (sized texts lengths depth code values records' data')) where
    refusal_is : class_refusal (class_question_of all) ≡ r
    refusal_is = sym (e ∙ same-refusal)

    pub class-small : r ≡ 1 → Classes all r out code values records' data'
    unfolding lent untouched
    class-small o =
        record { is = (λ i. record { returned = o i; output = out; code = code; values = values; records = records'; module-data = data' }) ∙ sym (is-untouched all (refusal_is ∙ o)) }

    pub class-accepts : r ≡ 0 → Accepts all
    class-accepts z = record { taken = refusal_is ∙ z }

    module _ (n : r ≡ 1 → ⊥) where
      -- both stores can be cleared, with what a class has left in them too
      pub class-empties : (code₁ values₁ : List ℕ) → length code₁ ≡ length code → length values₁ ≡ length values → Empties code₁ values₁ 0
      unfolding lent class_question_of
      class-empties code₁ values₁ c v =
          let (a, b) = stores-lent (class_question_of all) (λ o. n (sym refusal_is ∙ o)) in
          record { code-room = omega (arith, a, c, word_count code); values-room = omega (arith, b, v, word_count values); few = omega arith }

      pub class-refused : (r ≡ 0 → ⊥) → (code₂ values₂ : List ℕ) → Emptied code values code₂ values₂ 0 → Classes all r out code₂ values₂ records' data'
      unfolding lent refused
      class-refused z code₂ values₂ m =
          let c = cleared-is code code₂ m.code-cleared in
          let v = cleared-is values values₂ m.values-cleared in
          record {
            is = (λ i. record { returned = r; output = out; code = c i; values = v i; records = records'; module-data = data' })
                ∙ sym (is-refused all (λ o. z (sym refusal_is ∙ o)) (λ o. n (sym refusal_is ∙ o)) ∙ ap (refused all) refusal_is);
          }

    pub class-taken : r ≡ 0 → (out₁ code₁ values₁ records₁ data₁ code₂ values₂ : List ℕ) → Reached all (length (lengths_of lengths)) out₁ code₁ values₁ records₁ data₁ → Emptied code₁ values₁ code₂ values₂ 0
        → Classes all 0 out₁ code₂ values₂ records₁ data₁
    unfolding lent taken modules_of zeroed
    class-taken z out₁ code₁ values₁ records₁ data₁ code₂ values₂ g m =
        let o = g.output in
        let c = cleared-is code₁ code₂ m.code-cleared ∙ ap (λ (x : List ℕ). replicate store_bytes 0 ++ x) g.code-past in
        let v = cleared-is values₁ values₂ m.values-cleared ∙ ap (λ (x : List ℕ). replicate store_bytes 0 ++ x) g.values-past in
        let f = g.records in
        let d = g.module-data in
        record {
          is = (λ i. record { returned = 0; output = o i; code = c i; values = v i; records = f i; module-data = d i })
              ∙ sym (is-taken all (refusal_is ∙ z));
        }

-- ---- the number of a refusal
pub small-alone : (r : Refusal) → number_of r ≡ 1 → r ≡ SmallStore
small-alone SmallStore e = refl
small-alone WrongDepth e = absurd (omega arith)
small-alone LengthsDiffer e = absurd (omega arith)
small-alone ManyModules e = absurd (omega arith)
small-alone ShortList e = absurd (omega arith)

pub some-number : (r : Refusal) → number_of r ≡ 0 → ⊥
some-number SmallStore e = omega arith
some-number WrongDepth e = omega arith
some-number LengthsDiffer e = omega arith
some-number ManyModules e = omega arith
some-number ShortList e = omega arith
