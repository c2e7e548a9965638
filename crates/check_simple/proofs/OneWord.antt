-- What a statement of one word answers.
use mathlib.Core.Path.{◌≡◌, refl, sym, ◌∙◌}
use mathlib.Core.Bool.{Bool, true, false, not}
use mathlib.Core.List.{List}
use Prim.Native.Nat.{ℕ, ◌+◌}
use borrow.Author.Tests.{not-true, not-false}
use Rattle.laws.proofs.Tests.{false-true}
use Rattle.store_writing.specs.Promises.{Linked}
use Rattle.std.specs.Prelude.{Ok, Err}
use Rattle.layout.specs.declared.rules.Rule.TheVariants.{Barred}
use Rattle.check_simple.specs.Parts.{Alone}

both_ways : {A : Type 0} (fine : Bool) → fine ≡ true → fine ≡ false → A
both_ways fine t f = false-true (sym f ∙ t)

pub alone-no : (code : List ℕ) (op : ℕ) (fine : Bool) (i : ℕ) → not fine ≡ true → Alone code code op fine i (Err (record { rule = Barred; word = i }))
alone-no code op fine i e = record { yes = λ t. both_ways fine t (not-true fine e); no = λ _. (refl, refl) }

pub alone-yes : (before after : List ℕ) (op : ℕ) (fine : Bool) (i : ℕ) → not fine ≡ false → Linked before after i op 0 (i + 2) → Alone before after op fine i (Ok (i + 2))
alone-yes before after op fine i e l = record { yes = λ _. (l, refl); no = λ f. both_ways fine (not-false fine e) f }
