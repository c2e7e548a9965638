-- The chain of a routine's data, as it grows and as it stays.
use mathlib.Core.Path.{◌≡◌, refl, sym, ap, ap₂, subst, ◌∙◌}
use mathlib.Core.Bool.{true, false}
use mathlib.Core.List.{List, [], ◌∷◌, ◌++◌, map, append_assoc}
use Prim.Native.Nat.{ℕ, ◌+◌, ◌*◌, ◌/◌, ◌<◌, ◌≤◌}
use native.Mathlib.Omega.{arith}
use lib.ListN.{length, get_or, replicate}
use lib.IntN.{ℤ, pos, ◌-ℤ◌}
use Rattle.laws.proofs.Tests.{test, apart, by-same}
use Rattle.paper.specs.Sorts.{equal_texts}
use Rattle.paper.specs.Words.{Word}
use Rattle.paper.specs.Names.{Meaning, Text, Names, text_of, is_among, cannot_declare, declare}
use Rattle.code.specs.Cells.{op_in, place_in, link_in, head_at, op_at, value_at, place_at, link_at}
use Rattle.code.specs.Spans.{bias}
use Rattle.code.specs.Steps.{constant_at, a_datum}
use Rattle.store_cells.specs.Cells.{cells_of}
use Rattle.check_names.specs.Meanings.{meaning_in, protects_cell}
use Rattle.check_expressions.proofs.FaultsOfParts.{append-none}
use Rattle.check_sites.specs.Sites.{Site}
use Rattle.store_writing.specs.Chains.{Leads, last_of, starts_in, Rise}
use Rattle.check_sites.specs.Walks.{KeepsName, KeepsAll}
use Rattle.store_writing.specs.Promises.{Relinked}
use Rattle.store_writing.proofs.Writing.{relinked-others}

-- ---- words that stay but for one link
pub record Agrees (C E : List ℕ) (i last : ℕ) : Type 0 where
  pub heads : (j : ℕ) → j < i → head_at E j ≡ head_at C j
  pub places : (j : ℕ) → j < i → place_at E j ≡ place_at C j
  pub links : (j : ℕ) → j < i → (j ≡ last → ⊥) → link_at E j ≡ link_at C j

pub agrees-changed : (code mid after : List ℕ) (i last link : ℕ) → ((k : ℕ) → k < i * 2 → get_or (cells_of mid) k 0 ≡ get_or (cells_of code) k 0) → Relinked mid after last link → Agrees (cells_of code) (cells_of after) i last
agrees-changed code mid after i last link below s = record {
  heads = λ j l. relinked-others s (j * 2) (λ e. omega arith) ∙ below (j * 2) (omega arith);
  places = λ j l. by-same j last
      (λ e. subst (λ (k : ℕ). place_at (cells_of after) k ≡ place_at (cells_of code) k) (sym e) (s.place_is ∙ ap place_in (below (last * 2 + 1) (omega arith))))
      (λ d. ap place_in (relinked-others s (j * 2 + 1) (λ e. d (omega arith)) ∙ below (j * 2 + 1) (omega arith)));
  links = λ j l d. ap link_in (relinked-others s (j * 2 + 1) (λ e. d (omega arith)) ∙ below (j * 2 + 1) (omega arith));
}

-- ---- what rises
pub rise-wider : (b to to' : ℕ) (ds : List ℕ) → to ≤ to' → Rise b to ds → Rise b to' ds
unfolding Rise
rise-wider b to to' [] h r = omega (arith, h, r)
rise-wider b to to' (d ∷ ds) h r = (r.0, rise-wider d to to' ds h r.1)

pub rise-more : (b i to : ℕ) (ds : List ℕ) → i < to → Rise b i ds → Rise b to (ds ++ i ∷ [])
unfolding Rise
rise-more b i to [] h r = (r, h)
rise-more b i to (d ∷ ds) h r = (r.0, rise-more d i to ds h r.1)

pub rise-last : (b i : ℕ) (ds : List ℕ) → Rise b i ds → (b ≤ last_of b ds) × (last_of b ds < i)
unfolding Rise last_of
rise-last b i [] r = (omega arith, r)
rise-last b i (d ∷ ds) r = let h = rise-last d i ds r.1 in (omega (arith, r.0, h.0), h.1)

pub rise-few : (b to : ℕ) (ds : List ℕ) → Rise b to ds → length ds + b < to
unfolding Rise
rise-few b to [] r = omega (arith, r)
rise-few b to (d ∷ ds) r = let h = rise-few d to ds r.1 in omega (arith, h, r.0)

last_more : (b i : ℕ) (ds : List ℕ) → last_of b (ds ++ i ∷ []) ≡ i
unfolding last_of
last_more b i [] = refl
last_more b i (d ∷ ds) = last_more d i ds

pub last-is : (b i : ℕ) (ds : List ℕ) → i ≡ last_of b (ds ++ i ∷ [])
last-is b i ds = sym (last_more b i ds)

-- ---- the chain
module _ (C E : List ℕ) (i : ℕ) where
  pub leads-kept : (b : ℕ) (ds : List ℕ) → Agrees C E i (last_of b ds) → Rise b i ds → Leads C b ds → Leads E b ds
  unfolding Rise Leads last_of
  leads-kept b [] a r l = tt
  leads-kept b (d ∷ ds) a r l =
      let h = rise-last d i ds r.1 in
      (a.links b (omega (arith, r.0, h)) (λ e. omega (arith, e, r.0, h.0)) ∙ l.0, ap op_in (a.heads d (omega (arith, h.0, h.1))) ∙ l.1, leads-kept d ds a r.1 l.2)

  pub leads-more : (b : ℕ) (ds : List ℕ) → Agrees C E i (last_of b ds) → Rise b i ds → Leads C b ds → link_at E (last_of b ds) ≡ i → op_at E i ≡ a_datum → Leads E b (ds ++ i ∷ [])
  unfolding Rise Leads last_of
  leads-more b [] a r l link op = (link, op, tt)
  leads-more b (d ∷ ds) a r l link op =
      let h = rise-last d i ds r.1 in
      (a.links b (omega (arith, r.0, h)) (λ e. omega (arith, e, r.0, h.0)) ∙ l.0, ap op_in (a.heads d (omega (arith, h.0, h.1))) ∙ l.1, leads-more d ds a r.1 l.2 link op)

  pub starts-kept : (last b : ℕ) (ds : List ℕ) → Agrees C E i last → Rise b i ds → starts_in E ds ≡ starts_in C ds
  unfolding Rise starts_in constant_at
  starts-kept last b [] a r = refl
  starts-kept last b (d ∷ ds) a r =
      let h = rise-last d i ds r.1 in
      let p : place_at E d ≡ place_at C d = a.places d (omega (arith, h.0, h.1)) in
      let v : value_at E d ≡ value_at C d = ap (λ (w : ℕ). w / 256) (a.heads d (omega (arith, h.0, h.1))) in
      ap₂ (λ (n w : ℕ). replicate n (pos w -ℤ pos bias) ++ starts_in E ds) p v ∙ ap (λ (l : List ℤ). replicate (place_at C d) (pos (value_at C d) -ℤ pos bias) ++ l) (starts-kept last d ds a r.1)

pub starts-append : (C : List ℕ) (ds : List ℕ) (i : ℕ) → starts_in C (ds ++ i ∷ []) ≡ starts_in C ds ++ replicate (place_at C i) (constant_at C i)
unfolding starts_in
starts-append C [] i = append-none (replicate (place_at C i) (constant_at C i))
starts-append C (d ∷ ds) i = ap (λ (l : List ℤ). replicate (place_at C d) (constant_at C d) ++ l) (starts-append C ds i) ∙ sym (append_assoc (replicate (place_at C d) (constant_at C d)) (starts_in C ds) _)

-- ---- names
-- each name's word is before a word, and is not this one
pub record Settled (i last n : ℕ) : Type 0 where
  pub below : n < i
  pub apart : n ≡ last → ⊥

unfoldable pub Each : (Q : ℕ → Type 0) → List ℕ → Type 0
Each Q [] = Unit {0}
Each Q (n ∷ r) = Q n × Each Q r

pub each_more : (Q R : ℕ → Type 0) (l : List ℕ) (n : ℕ) → ((k : ℕ) → Q k → R k) → Each Q l → R n → Each R (l ++ n ∷ [])
unfolding Each
each_more Q R [] n f q r = (r, tt)
each_more Q R (k ∷ l) n f q r = (f k q.0, each_more Q R l n f q.1 r)

pub settled-more : (i last next : ℕ) (l : List ℕ) → i + 2 < next → Each (Settled i last) l → Each (Settled next i) (l ++ (i + 2) ∷ [])
settled-more i last next l h s =
    each_more (Settled i last) (Settled next i) l (i + 2) (λ k q. record { below = omega (arith, q.below, h); apart = λ e. omega (arith, e, q.below) }) s (record { below = h; apart = λ e. omega arith })

module _ (routine : ℕ → ℕ) (W : List Word) (s : Site) (C E : List ℕ) (i last : ℕ) (a : Agrees C E i last) where
  keeps-name : (n : ℕ) → Settled i last n → KeepsName routine W s C n → KeepsName routine W s E n
  keeps-name n q k =
      record {
        near = k.near;
        name = k.name;
        keeps = record {
          number = a.links n q.below q.apart ∙ k.keeps.number;
          means = ap (meaning_in routine) (a.heads n q.below) ∙ k.keeps.means;
          guards = ap protects_cell (a.heads n q.below) ∙ k.keeps.guards;
        };
      }

  pub keeps-kept : (l : List ℕ) → Each (Settled i last) l → KeepsAll routine W s C l → KeepsAll routine W s E l
  unfolding Each KeepsAll
  keeps-kept [] q k = tt
  keeps-kept (n ∷ l) q k = (keeps-name n q.0 k.0, keeps-kept l q.1 k.1)

  pub keeps-more : (l : List ℕ) (n : ℕ) → Each (Settled i last) l → KeepsAll routine W s C l → KeepsName routine W s E n → KeepsAll routine W s E (l ++ n ∷ [])
  unfolding Each KeepsAll
  keeps-more [] n q k h = (h, tt)
  keeps-more (m ∷ l) n q k h = (keeps-name m q.0 k.0, keeps-more l n q.1 k.1 h)

-- ---- texts
pub among-append : (k l : List Text) (u : Text) → is_among (k ++ l) u ≡ false → (is_among k u ≡ false) × (is_among l u ≡ false)
unfolding is_among
among-append [] l u h = (refl, h)
among-append (t ∷ k) l u h =
    test (equal_texts t u)
    (λ y. let x : true ≡ false = rw (y, is_among) at h in apart (cc))
    (λ y. let g = among-append k l u (rw (y, is_among) at h) in (rw (y, is_among) g.0, g.1))

pub among-both : (k l : List Text) (u : Text) → is_among k u ≡ false → is_among l u ≡ false → is_among (k ++ l) u ≡ false
unfolding is_among
among-both [] l u h g = g
among-both (t ∷ k) l u h g =
    test (equal_texts t u)
    (λ y. let x : true ≡ false = rw (y, is_among) at h in apart (cc))
    (λ y. rw (y, is_among) (among-both k l u (rw (y, is_among) at h) g))

-- a text that is neither among the names nor the one declared is not among them afterwards
pub among-declared : (N : Names) (text u : Text) (a : Meaning) → is_among (map text_of N) u ≡ false → is_among (text ∷ []) u ≡ false → is_among (map text_of (declare text a N)) u ≡ false
unfolding declare is_among
among-declared N text u a h g =
    test (cannot_declare (map text_of N) text)
    (λ y. rw (y, declare) h)
    (λ y. test (equal_texts text u) (λ z. let x : true ≡ false = rw (z, is_among) at g in apart (cc)) (λ z. rw (y, declare) (rw (z, is_among) h)))

pub map-append : {A B : Type 0} (f : A → B) (k l : List A) → map f (k ++ l) ≡ map f k ++ map f l
map-append f [] l = refl
map-append f (a ∷ k) l = ap (λ (r : List _). f a ∷ r) (map-append f k l)
