-- Which fault comes first: of one piece, of two pieces one after the other, of a list.
use mathlib.Core.Path.{◌≡◌, refl, sym, ap, ap₂, subst, ◌∙◌}
use mathlib.Core.Bool.{Bool, true, false}
use mathlib.Core.List.Memᴰ
use mathlib.Core.List.{List, [], ◌∷◌, ◌++◌, Memᴰ}
use mathlib.Core.Option.{none, some}
use mathlib.Core.Logic.{◌⊎◌, inl, inr}
use Prim.Native.Nat.{ℕ, suc, ◌+◌, ◌*◌, ◌≤◌, ◌<◌}
use native.Mathlib.Omega.{arith}
use lib.Dec.{eqb}
use borrow.Author.Tests.{eqb-true, eq-eqb, ne_eqb, ltb-true, lt-ltb, leb-true, le-leb}
use Rattle.laws.proofs.Tests.{test, by-same, apart, false-true}
use Rattle.paper.specs.Types.{Fault, fault, fault_if, rank, comes_first, least_of, least}
use Rattle.faults.specs.First.{Every, no-fault, ◌also◌, Between, Inside, Leads, First, Headed, none-there, leads-others, Ordered}

-- ---- the order of rules at one word: 10, 19, 11 to 17
-- every rule but 19, by its number
rank-plain : (n : ℕ) → (n ≡ 19 → ⊥) → rank n ≡ 2 * n
unfolding rank
rank-plain n d = rw (ne_eqb n 19 d)

rank-hiding : (n : ℕ) → n ≡ 19 → rank n ≡ 21
unfolding rank
rank-hiding n e = rw (eq-eqb n 19 e)

-- no two rules share a place in it
rank_same : (m n : ℕ) → rank m ≡ rank n → m ≡ n
rank_same m n e =
    by-same m 19
    (λ a. by-same n 19 (λ b. a ∙ sym b) (λ b. absurd (omega (arith, rank-hiding m a, rank-plain n b, e))))
    (λ a. by-same n 19 (λ b. absurd (omega (arith, rank-plain m a, rank-hiding n b, e))) (λ b. omega (arith, rank-plain m a, rank-plain n b, e)))

-- rules of the paper come by their numbers
pub ranks : (m n : ℕ) → n < 19 → m ≤ n → rank m ≤ rank n
ranks m n k h = omega (arith, rank-plain m (λ e. omega arith), rank-plain n (λ e. omega arith), h)

-- 19 comes behind 10, and before those from 11 on
pub ranks-before : rank 10 ≤ rank 19
ranks-before = omega (arith, rank-plain 10 (λ e. omega arith), rank-hiding 19 refl)

pub ranks-behind : (n : ℕ) → 10 < n → n < 19 → rank 19 ≤ rank n
ranks-behind n l h = omega (arith, rank-hiding 19 refl, rank-plain n (λ e. omega arith), l)

-- ---- the order
module _ (f g : Fault) where
  pub comes-earlier : f.at < g.at → comes_first f g ≡ true
  unfolding comes_first
  comes-earlier h = rw (ne_eqb f.at g.at (λ e. omega arith), lt-ltb f.at g.at h, comes_first)

  pub comes-lower : f.at ≡ g.at → rank f.number ≤ rank g.number → comes_first f g ≡ true
  unfolding comes_first
  comes-lower e h = rw (eq-eqb f.at g.at e, le-leb (rank f.number) (rank g.number) h, comes_first)

  -- what it says of places and rules
  pub by_order : {A : Type 0} → comes_first f g ≡ true → (f.at < g.at → A) → (f.at ≡ g.at → rank f.number ≤ rank g.number → A) → A
  unfolding comes_first
  by_order c earlier lower =
      test (eqb f.at g.at) (λ t. lower (eqb-true f.at g.at t) (leb-true (rank f.number) (rank g.number) (rw (t, comes_first) at c)))
      (λ t. earlier (ltb-true f.at g.at (rw (t, comes_first) at c)))

pub comes-itself : (f : Fault) → comes_first f f ≡ true
comes-itself f = comes-lower f f refl (omega arith)

same-fault : (f g : Fault) → f.number ≡ g.number → f.at ≡ g.at → f ≡ g
same-fault f g n i = ap₂ {C = Fault} (λ (number at : ℕ). record { number = number; at = at }) n i

comes-both : (f g : Fault) → comes_first f g ≡ true → comes_first g f ≡ true → f ≡ g
comes-both f g c d =
    by_order f g c (λ h. by_order g f d (λ k. absurd (omega arith)) (λ e k. absurd (omega arith)))
    (λ e h. by_order g f d (λ k. absurd (omega arith)) (λ i k. same-fault f g (rank_same f.number g.number (omega arith)) e))

-- ---- every fault
infixl 4 ◌and◌
pub ◌and◌ : {Q : Fault → Type 0} {xs ys : List Fault} → Every Q xs → Every Q ys → Every Q (xs ++ ys)
no-fault and k = k
(q also h) and k = q also (h and k)

pub front_of : {Q : Fault → Type 0} (xs ys : List Fault) → Every Q (xs ++ ys) → Every Q xs
front_of [] ys h = no-fault
front_of (f ∷ xs) ys (q also h) = q also front_of xs ys h

pub back-of : {Q : Fault → Type 0} (xs ys : List Fault) → Every Q (xs ++ ys) → Every Q ys
back-of [] ys h = h
back-of (f ∷ xs) ys (q also h) = back-of xs ys h

pub every_one : {Q : Fault → Type 0} {f : Fault} {fs : List Fault} → Every Q fs → Memᴰ f fs → Q f
every_one no-fault m = elim m [ ]
every_one {Q} (q also h) (Memᴰ.head e) = subst Q (sym e) q
every_one (q also h) (Memᴰ.tail m) = every_one h m

pub every-weaker : {Q R : Fault → Type 0} {fs : List Fault} → Every Q fs → ((f : Fault) → Q f → R f) → Every R fs
every-weaker no-fault w = no-fault
every-weaker (◌also◌ {f = f} q h) w = w f q also every-weaker h w

pub every-none : {Q : Fault → Type 0} {fs : List Fault} → fs ≡ [] → Every Q fs
every-none {Q} e = subst (Every Q) (sym e) no-fault

-- ---- where faults lie
pub widen : {a b c d : ℕ} {fs : List Fault} → Inside a b fs → c ≤ a → b ≤ d → Inside c d fs
widen h low high = every-weaker h (λ f q. record { low = omega (arith, q.low); high = omega (arith, q.high) })

pub inside-fault : (number i a b : ℕ) → a ≤ i → i < b → Inside a b (fault number i)
unfolding fault
inside-fault number i a b low high = record { low = low; high = high } also no-fault

pub inside-if : (t : Bool) (number i a b : ℕ) → a ≤ i → i < b → Inside a b (fault_if t number i)
unfolding fault_if
inside-if true number i a b low high = inside-fault number i a b low high
inside-if false number i a b low high = no-fault

pub first-inside : {f : Fault} {a b : ℕ} {fs : List Fault} → First f fs → Inside a b fs → Between a b f
first-inside h k = every_one k h.among

-- ---- what a fault comes before
pub leads-later : (f : Fault) {a b : ℕ} {fs : List Fault} → Inside a b fs → f.at < a → Leads f fs
leads-later f h low = every-weaker h (λ g q. record { comes = comes-earlier f g (omega (arith, q.low)) })

pub leads-same : (f : Fault) (number i : ℕ) → f.at ≡ i → rank f.number ≤ rank number → Leads f (fault number i)
unfolding fault
leads-same f number i e h = record { comes = comes-lower f (record { number = number; at = i }) e h } also no-fault

pub leads-same-if : (f : Fault) (t : Bool) (number i : ℕ) → f.at ≡ i → rank f.number ≤ rank number → Leads f (fault_if t number i)
unfolding fault_if
leads-same-if f true number i e h = leads-same f number i e h
leads-same-if f false number i e h = no-fault

-- ---- the first of a piece
pub first-fault : (number i : ℕ) → First (record { number = number; at = i }) (fault number i)
unfolding fault
first-fault number i = record { among = Memᴰ.head refl; leads = leads-same (record { number = number; at = i }) number i refl (omega arith) }

pub first-if : (t : Bool) (number i : ℕ) → t ≡ true → First (record { number = number; at = i }) (fault_if t number i)
unfolding fault_if
first-if t number i e = rw e (first-fault number i)

-- the head of a list whose others are at later words, or come later in any way
pub first_head : (f : Fault) (others fs : List Fault) → fs ≡ f ∷ others → Leads f others → First f fs
first_head f others fs e h = subst (First f) (sym e) (record { among = Memᴰ.head refl; leads = record { comes = comes-itself f } also h })

pub first-rising : (f : Fault) (others fs : List Fault) (b : ℕ) → fs ≡ f ∷ others → Inside (suc f.at) b others → First f fs
first-rising f others fs b e h = first_head f others fs e (leads-later f h (omega arith))

-- ---- two pieces
pub first-left : {f : Fault} {xs ys : List Fault} → First f xs → Leads f ys → First f (xs ++ ys)
first-left {ys = ys} h k = record { among = Memᴰ.append_left ys h.among; leads = h.leads and k }

pub first-right : {f : Fault} {xs ys : List Fault} → Leads f xs → First f ys → First f (xs ++ ys)
first-right {xs = xs} k h = record { among = Memᴰ.append_right xs h.among; leads = k and h.leads }

-- the second piece stands later in the text
pub first-before : {f : Fault} {a b c d : ℕ} {xs ys : List Fault} → First f xs → Inside a b xs → Inside c d ys → b ≤ c → First f (xs ++ ys)
first-before {f} h k l le = first-left h (leads-later f l (omega (arith, (first-inside h k).high)))

-- nothing is found in the first piece, or in the second
pub first-after : {f : Fault} {xs ys : List Fault} → xs ≡ [] → First f ys → First f (xs ++ ys)
first-after e h = first-right (every-none e) h

pub first_alone : {f : Fault} {xs ys : List Fault} → First f xs → ys ≡ [] → First f (xs ++ ys)
first_alone h e = first-left h (every-none e)

-- the first piece stands later in the text
pub first_past : {f : Fault} {a b : ℕ} {xs ys : List Fault} → Inside a b xs → First f ys → f.at < a → First f (xs ++ ys)
first_past {f} k h low = first-right (leads-later f k low) h

-- two pieces of one part of the text, each with others behind it that stand later
pub first-between : {f : Fault} (xs ys vs ws : List Fault) → First f (xs ++ ys) → Leads f vs → Leads f ws → First f ((xs ++ vs) ++ (ys ++ ws))
first-between {f} xs ys vs ws h k l = record { among = there (Memᴰ.append_cases xs h.among); leads = (front_of xs ys h.leads and k) and (back-of xs ys h.leads and l) }
  where
    there : Memᴰ f xs ⊎ Memᴰ f ys → Memᴰ f ((xs ++ vs) ++ (ys ++ ws))
    there (inl m) = Memᴰ.append_left (ys ++ ws) (Memᴰ.append_left vs m)
    there (inr m) = Memᴰ.append_right (xs ++ vs) (Memᴰ.append_left ws m)

pub nothing-in-both : {xs ys : List Fault} → xs ≡ [] → ys ≡ [] → xs ++ ys ≡ []
nothing-in-both e g = rw (e, g)

-- two rules at one word, the one that comes first by rank before the other
module _ (x y : Bool) (m n i : ℕ) where
  pub first-lower : rank m ≤ rank n → x ≡ true → First (record { number = m; at = i }) (fault_if x m i ++ fault_if y n i)
  first-lower le e = first-left (first-if x m i e) (leads-same-if (record { number = m; at = i }) y n i refl le)

  pub first-higher : x ≡ false → y ≡ true → First (record { number = n; at = i }) (fault_if x m i ++ fault_if y n i)
  unfolding fault_if
  first-higher e g = rw e (first-if y n i g)

  pub neither-rule : x ≡ false → y ≡ false → fault_if x m i ++ fault_if y n i ≡ []
  unfolding fault_if
  neither-rule e g = rw (e, g)

-- and three
module _ (x y z : Bool) (l m n i : ℕ) where
  pub first-of-three : rank l ≤ rank m → rank l ≤ rank n → x ≡ true → First (record { number = l; at = i }) (fault_if x l i ++ fault_if y m i ++ fault_if z n i)
  first-of-three p q e = first-left (first-lower x y l m i p e) (leads-same-if (record { number = l; at = i }) z n i refl q)

  pub second-of-three : rank m ≤ rank n → x ≡ false → y ≡ true → First (record { number = m; at = i }) (fault_if x l i ++ fault_if y m i ++ fault_if z n i)
  second-of-three q e g = first-left (first-higher x y l m i e g) (leads-same-if (record { number = m; at = i }) z n i refl q)

  pub third-of-three : x ≡ false → y ≡ false → z ≡ true → First (record { number = n; at = i }) (fault_if x l i ++ fault_if y m i ++ fault_if z n i)
  third-of-three e g h = first-after (neither-rule x y l m i e g) (first-if z n i h)

  pub none-of-three : x ≡ false → y ≡ false → z ≡ false → fault_if x l i ++ fault_if y m i ++ fault_if z n i ≡ []
  unfolding fault_if
  none-of-three e g h = rw (e, g, h)

-- ---- pieces whose head comes first
pub headed-first : (f : Fault) (others : List Fault) {fs : List Fault} → Headed fs → fs ≡ f ∷ others → First f fs
headed-first f others none-there e = apart (cc)
headed-first f others (leads-others {f = g} {r = r} k) e =
    let q : g ≡ f = cc in
    subst (λ (x : Fault). First x (g ∷ r)) q (first_head g r (g ∷ r) refl k)

headed-append : {a b c d : ℕ} {xs ys : List Fault} → Ordered a b xs → Ordered c d ys → b ≤ c → Headed (xs ++ ys)
headed-append h k le = by-head h.inside h.headed k le
  where
    by-head : {a b c d : ℕ} {xs ys : List Fault} → Inside a b xs → Headed xs → Ordered c d ys → b ≤ c → Headed (xs ++ ys)
    by-head i none-there k le = k.headed
    by-head (q also i) (leads-others {f = f} l) k le = leads-others (l and leads-later f k.inside (omega (arith, q.high)))

pub ordered-none : (a b : ℕ) → Ordered a b []
ordered-none a b = record { inside = no-fault; headed = none-there }

pub ordered-fault : (number i a b : ℕ) → a ≤ i → i < b → Ordered a b (fault number i)
unfolding fault
ordered-fault number i a b low high = record { inside = inside-fault number i a b low high; headed = leads-others no-fault }

pub ordered-if : (t : Bool) (number i a b : ℕ) → a ≤ i → i < b → Ordered a b (fault_if t number i)
unfolding fault_if
ordered-if true number i a b low high = ordered-fault number i a b low high
ordered-if false number i a b low high = ordered-none a b

pub ordered-wider : {a b c d : ℕ} {fs : List Fault} → Ordered a b fs → c ≤ a → b ≤ d → Ordered c d fs
ordered-wider h low high = record { inside = widen h.inside low high; headed = h.headed }

pub ordered-append : {a b c d : ℕ} {xs ys : List Fault} → Ordered a b xs → Ordered c d ys → a ≤ c → b ≤ c → b ≤ d → Ordered a d (xs ++ ys)
ordered-append h k low between high = record { inside = widen h.inside (omega arith) high and widen k.inside low (omega arith); headed = headed-append h k between }

-- ---- the answer
pub least-none : (fs : List Fault) → fs ≡ [] → least fs ≡ none
unfolding least
least-none fs e = rw e

least-of : (f a : Fault) (r : List Fault) → Memᴰ f (a ∷ r) → Leads f (a ∷ r) → least_of a r ≡ f
unfolding least_of
least-of f a [] (Memᴰ.head e) h = sym e
least-of f a [] (Memᴰ.tail m) h = elim m [ ]
least-of f a (b ∷ r) m (q also (p also h)) =
    test (comes_first a b) (λ t. rw (t, least_of) (least-of f a r (kept t m) (q also h))) (λ t. rw (t, least_of) (least-of f b r (left t m) (p also h)))
  where
    kept : comes_first a b ≡ true → Memᴰ f (a ∷ b ∷ r) → Memᴰ f (a ∷ r)
    kept t (Memᴰ.head e) = Memᴰ.head e
    kept t (Memᴰ.tail (Memᴰ.head e)) = Memᴰ.head (e ∙ comes-both b a (ap (λ (x : Fault). comes_first x a) (sym e) ∙ q.comes) t)
    kept t (Memᴰ.tail (Memᴰ.tail n)) = Memᴰ.tail n

    left : comes_first a b ≡ false → Memᴰ f (a ∷ b ∷ r) → Memᴰ f (b ∷ r)
    left t (Memᴰ.head e) = false-true (sym t ∙ ap (λ (x : Fault). comes_first x b) (sym e) ∙ p.comes)
    left t (Memᴰ.tail n) = n

pub least_first : (f : Fault) (fs : List Fault) → First f fs → least fs ≡ some f
unfolding least
least_first f [] h = absurd (none-there h.among)
  where
    none-there : Memᴰ f [] → ⊥
    none-there m = elim m [ ]
least_first f (a ∷ r) h = ap some (least-of f a r h.among h.leads)
