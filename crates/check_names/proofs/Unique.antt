-- Each public promise settles the result and every lent byte.
use mathlib.Core.Path.{◌≡◌, sym, ◌∙◌}
use mathlib.Core.Bool.{Bool}
use mathlib.Core.List.{List}
use Prim.Native.Nat.{ℕ}
use Rattle.check_names.specs.Promises.{Number, Meant, Declared, Left, Protects}
use Rattle.check_names.specs.declared.Scope.{Scope}
use Rattle.check_names.specs.Scopes.{Declares, Enters, Leaves}

pub number-unique : (code : List ℕ) (i r s : ℕ) → Number code i r → Number code i s → r ≡ s
number-unique code i r s h g = h ∙ sym g

pub meaning-unique : (code values : List ℕ) (i r s : ℕ) → Meant code values i r → Meant code values i s → r ≡ s
meaning-unique code values i r s h g = h ∙ sym g

pub declare-unique : (code values : List ℕ) (i m : ℕ) (c d v w : List ℕ) → Declared code values i m c v → Declared code values i m d w → (c ≡ d) × (v ≡ w)
declare-unique code values i m c d v w h g = (h.word.bytes ∙ sym g.word.bytes, h.table.bytes ∙ sym g.table.bytes)

pub restore-unique : (code values : List ℕ) (i : ℕ) (v w : List ℕ) → Left code values i v → Left code values i w → v ≡ w
restore-unique code values i v w h g = h.bytes ∙ sym g.bytes

pub is-protected-unique : (m : ℕ) (r s : Bool) → Protects m r → Protects m s → r ≡ s
is-protected-unique m r s h g = h ∙ sym g

pub scope-declare-unique : (s : Scope) (code values : List ℕ) (i m words : ℕ) (c d v w : List ℕ) (r t : Scope) → Declares s code values i m words c v r → Declares s code values i m words d w t
    → (c ≡ d) × (v ≡ w) × (r ≡ t)
scope-declare-unique s code values i m words c d v w r t h g =
    let same = declare-unique code values i m c d v w h.known g.known in
    (same.0, same.1, h.scope-is ∙ sym g.scope-is)

pub scope-enter-unique : (s : Scope) (code values : List ℕ) (i : ℕ) (c d v w : List ℕ) (r t : Scope) → Enters s code values i c v r → Enters s code values i d w t → (c ≡ d) × (v ≡ w) × (r ≡ t)
scope-enter-unique s code values i c d v w r t h g =
    let same = declare-unique code values _ _ c d v w h.known g.known in
    (same.0, same.1, h.scope-is ∙ sym g.scope-is)

pub scope-leave-unique : (s outer : Scope) (code values v w : List ℕ) (r t : Scope) → Leaves s outer code values v r → Leaves s outer code values w t → (v ≡ w) × (r ≡ t)
scope-leave-unique s outer code values v w r t h g = (restore-unique code values _ v w h.known g.known, h.scope-is ∙ sym g.scope-is)
