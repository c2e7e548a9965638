-- Of a value store that meets its terms, the promise allows one answer alone.
use mathlib.Core.Path.{◌≡◌, refl, sym, ap, subst, ◌∙◌}
use mathlib.Core.Bool.{false}
use mathlib.Core.List.{List}
use Prim.Native.Nat.{ℕ, ◌-◌, ◌≤◌}
use native.Mathlib.Omega.{arith}
use lib.Dec.{T}
use lib.IntN.{ℤ, pos, negsuc, nat_abs}
use lib.Signed.{lt_z}
use borrow.Author.Tests.{ltb-false}
use Rattle.laws.proofs.Tests.{test, apart}
use Rattle.paper.specs.Numbers.{value, error}
use Rattle.store_evaluation.specs.Answers.{first_error, decoded, Stands, Evaluated}
use Rattle.store_evaluation.proofs.Numbers.{is-value, is-error}

-- an answer is told by what it is decoded to
above : (a : ℤ) → lt_z a (pos first_error) ≡ false → (a ≡ pos (nat_abs a)) × (first_error ≤ nat_abs a)
above (pos n) h = (refl, ltb-false n first_error h)
above (negsuc n) h = absurd (subst T h tt)

same_answer : (a b : ℤ) → decoded a ≡ decoded b → a ≡ b
same_answer a b e =
    test (lt_z a (pos first_error))
    (λ s. test (lt_z b (pos first_error))
    (λ t. let q : value a ≡ value b = sym (is-value a s) ∙ e ∙ is-value b t in cc)
    (λ t. let q : value a ≡ error (nat_abs b - first_error) = sym (is-value a s) ∙ e ∙ is-error b t in apart (cc)))
    (λ s. test (lt_z b (pos first_error))
    (λ t. let q : error (nat_abs a - first_error) ≡ value b = sym (is-error a s) ∙ e ∙ is-value b t in apart (cc))
    (λ t.
    let q : error (nat_abs a - first_error) ≡ error (nat_abs b - first_error) = sym (is-error a s) ∙ e ∙ is-error b t in
    let k : nat_abs a - first_error ≡ nat_abs b - first_error = cc in
    (above a s).0 ∙ ap pos (omega (arith, (above a s).1, (above b t).1)) ∙ sym (above b t).0))

pub worth-unique : (code values : List ℕ) (base from to : ℕ) (a b : ℤ) → Stands code from to
    → Evaluated code values base from to a → Evaluated code values base from to b → a ≡ b
worth-unique code values base from to a b s p q = same_answer a b (p.is s.c s.t s.is ∙ sym (q.is s.c s.t s.is))
