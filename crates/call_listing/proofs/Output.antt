-- The entries put one after another are those that there is room for, one behind the other from the front.
use mathlib.Core.Path.{◌≡◌, refl, sym, ap, ap₂, ◌∙◌}
use mathlib.Core.List.{List, [], ◌∷◌, ◌++◌, append-nil}
use Prim.Native.Nat.{ℕ, zero, suc, ◌+◌, ◌*◌, ◌-◌, ◌/◌, ◌<◌, ◌≤◌}
use native.Mathlib.Omega.{arith}
use lib.ListN.{length, take, drop, take-append-drop}
use Rattle.laws.specs.Lists.{replaced}
use Rattle.laws.proofs.Tests.{by_less}
use Rattle.laws.proofs.Lists.{replaced-on}
use Rattle.store_cells.specs.Cells.{bytes_of}
use Rattle.paper.specs.Words.{Listed}
use Rattle.call_listing.specs.Listing.{three_bytes, entry_of, entered, written, entries_of, fronted}
use Rattle.call_listing.proofs.Entries.{entered-full, entered-room, length-entered}

-- no bytes replaced
same : (out : List ℕ) (at : ℕ) → replaced out at [] 0 ≡ out
same out at = ap₂ (λ (m : List ℕ) (k : ℕ). m ++ drop k out) (append-nil (take at out)) (none at) ∙ take-append-drop at out
  where
    none : (at : ℕ) → at + 0 ≡ at
    none at = omega arith

-- entries from index i on, at their place
abbrev put : List ℕ → ℕ → List ℕ → List ℕ
put out i bytes = replaced out (i * 12) bytes (length bytes)

no_room : (out : List ℕ) (i k : ℕ) (l : List Listed) → k ≡ 0 → put out i (entries_of (take k l)) ≡ out
unfolding entries_of
no_room out i k l e = rw e (same out (i * 12))

no_words : (out : List ℕ) (i k : ℕ) → put out i (entries_of (take k [])) ≡ out
unfolding entries_of
no_words out i zero = same out (i * 12)
no_words out i (suc k) = same out (i * 12)

one_more : (out : List ℕ) (i k : ℕ) (w : Listed) (l : List Listed) → i * 12 + 12 ≤ length out
    → put (entered out i w) (i + 1) (entries_of (take k l)) ≡ put out i (entries_of (take (suc k) (w ∷ l)))
unfolding entries_of three_bytes bytes_of
one_more out i k w l h =
    let rest = entries_of (take k l) in
    let next : (i + 1) * 12 ≡ i * 12 + 12 = omega arith in
    let size : 12 + length rest ≡ length (entry_of w ++ rest) = omega arith in
    ap₂ (λ (o : List ℕ) (at : ℕ). replaced o at rest (length rest)) (entered-room out i w h) next
    ∙ replaced-on out (entry_of w) (i * 12) 12 refl h rest (length rest)
    ∙ ap (replaced out (i * 12) (entry_of w ++ rest)) size

pub written_is : (out : List ℕ) (i : ℕ) (l : List Listed) → written out i l ≡ put out i (entries_of (take (length out / 12 - i) l))
unfolding written
written_is out i [] = sym (no_words out i (length out / 12 - i))
written_is out i (w ∷ l) =
    by_less (length out) (i * 12 + 12)
    (λ h. ap (λ (o : List ℕ). written o (i + 1) l) (entered-full out i w h) ∙ written_is out (i + 1) l
    ∙ no_room out (i + 1) (length out / 12 - (i + 1)) l (none_more h) ∙ sym (no_room out i (length out / 12 - i) (w ∷ l) (none h)))
    (λ h. written_is (entered out i w) (i + 1) l
    ∙ ap (λ (n : ℕ). put (entered out i w) (i + 1) (entries_of (take (n / 12 - (i + 1)) l))) (length-entered out i w)
    ∙ one_more out i (length out / 12 - (i + 1)) w l h
    ∙ ap (λ (k : ℕ). put out i (entries_of (take k (w ∷ l)))) (sym (room h)))
  where
    none : length out < i * 12 + 12 → length out / 12 - i ≡ 0
    none h = omega arith

    none_more : length out < i * 12 + 12 → length out / 12 - (i + 1) ≡ 0
    none_more h = omega arith

    room : i * 12 + 12 ≤ length out → length out / 12 - i ≡ suc (length out / 12 - (i + 1))
    room h = omega arith

-- The output after a listing.
pub listing-is : (out : List ℕ) (l : List Listed) → written out 0 l ≡ fronted out (entries_of (take (length out / 12) l))
listing-is out l =
    written_is out 0 l ∙ ap (λ (k : ℕ). put out 0 (entries_of (take k l))) (all (length out / 12))
    ∙ ap (λ (k : ℕ). entries_of (take (length out / 12) l) ++ drop k out) (front (length (entries_of (take (length out / 12) l))))
  where
    all : (n : ℕ) → n - 0 ≡ n
    all n = omega arith

    front : (n : ℕ) → 0 + n ≡ n
    front n = omega arith
