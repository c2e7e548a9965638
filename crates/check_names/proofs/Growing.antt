-- What a walk does to the scope that goes in: it stays, with more words used.
use mathlib.Core.Path.{◌≡◌, refl, sym, ap, subst, ◌∙◌}
use Prim.Native.Nat.{ℕ, ◌+◌, ◌≤◌}
use Rattle.std.specs.Prelude.{Ok, Err}
use native.Mathlib.Omega.{arith}
use Rattle.check_names.specs.declared.Scope.{Scope}
use Rattle.check_names.specs.Scopes.{loop_scope, with_used, EachHasWord, Walked, Grown, Stays, BackTo, OfRoutine}

pub grown-self : (s : Scope) → Grown s s
grown-self s = record { more = omega arith; rest = refl }

pub grown-on : {s t r : Scope} → Grown s t → Grown t r → Grown s r
grown-on {s} {t} {r} g h = record { more = omega (arith, g.more, h.more); rest = h.rest ∙ ap (with_used r.used) g.rest }

-- so many words more
pub grown-by : (s r : Scope) (words : ℕ) → r ≡ with_used (s.used + words) s → Grown s r
grown-by s r words e =
    let u : r.used ≡ s.used + words = ap (λ (x : Scope). x.used) e in
    record { more = omega (arith, u); rest = e ∙ ap (λ (n : ℕ). with_used n s) (sym u) }

-- ---- answers
pub grown-upto : (s : Scope) (w : Walked) → Stays s w → (next : ℕ) (r : Scope) → w ≡ Ok (next, r) → Grown s r
grown-upto s w h next r e = subst (Stays s) e h

pub stays_on : (s t : Scope) (w : Walked) → Grown s t → Stays t w → Stays s w
stays_on s t (Ok (next, r)) g h = grown-on g h
stays_on s t (Err broken) g h = h

-- each loop around has a word still
pub has_word : {s r : Scope} → EachHasWord s → Grown s r → EachHasWord r
has_word e g = let l = ap (λ (x : Scope). x.loops) g.rest in omega (arith, e, g.more, l)

-- ---- a FOR
module _ (outer : Scope) (i : ℕ) (inner : Scope) (e : inner ≡ loop_scope outer i) where
  pub loop-has-word : EachHasWord outer → EachHasWord inner
  loop-has-word h = subst EachHasWord (sym e) (omega (arith, h))

  -- what comes back of its body has opened the name that was opened
  pub loop-opened : (r : Scope) → Grown inner r → r.first ≡ i
  loop-opened r g = ap (λ (x : Scope). x.first) g.rest ∙ ap (λ (x : Scope). x.first) e

  pub loop-left : (r back : Scope) → Grown inner r → back ≡ with_used r.used outer → Grown outer back
  loop-left r back g b =
      let u = ap (λ (x : Scope). x.used) b in
      let v = ap (λ (x : Scope). x.used) e in
      record { more = omega (arith, u, v, g.more); rest = b ∙ ap (λ (n : ℕ). with_used n outer) (sym u) }

-- ---- a routine
pub routine-on : {outer s r : Scope} {first head : ℕ} → OfRoutine outer first head s → Grown s r → OfRoutine outer first head r
routine-on o g = record {
  around = ap (λ (x : Scope). x.loops) g.rest ∙ o.around;
  begins = ap (λ (x : Scope). x.first) g.rest ∙ o.begins;
  leads = ap (λ (x : Scope). x.head) g.rest ∙ o.leads;
}

pub back-upto : (s : Scope) (w : Walked) → BackTo s w → (next : ℕ) (r : Scope) → w ≡ Ok (next, r) → r ≡ s
back-upto s w h next r e = subst (BackTo s) e h
