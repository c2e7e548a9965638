-- The check on the parts of both stores that it is lent: what holds there holds of the whole.
use mathlib.Core.Path.{◌≡◌, refl, sym, ap, subst, ◌∙◌}
use mathlib.Core.List.{List, [], ◌++◌, map, append-nil}
use Prim.Native.Nat.{ℕ, ◌<◌, ◌≤◌}
use native.Mathlib.Omega.{arith}
use lib.ListN.{length, get_or, take, drop, replicate, length-replicate, get_or-append}
use lib.Seq.{length-take-le, length_front, drop-length, take_at, drop_at, take-append-le, take_all}
use mir.Syntax.{w32}
use mir.Val.{to_z}
use borrow.Author.Tests.{lt-ltb, le-ltb}
use Rattle.paper.specs.Answer.{Verdict, refused_by, accepted, verdict, offset_of, store_words}
use Rattle.store_cells.specs.Cells.{cells_of}
use Rattle.store_cells.proofs.Laws.{length-words, words_append}
use Rattle.code.specs.Holds.{Holds}
use Rattle.check_whole.specs.Checks.{store_bytes, Emptied, Judges, Checks, Checked}
use Rattle.check_whole.specs.Passes.{Whole}
use Rattle.std.specs.Prelude.{Err}
use Rattle.layout.specs.declared.rules.Rule.TheVariants.{SmallStore}
use mathlib.Core.Logic.{◌⊎◌, inl, inr}

-- ---- too small
pub code-small : (text code values : List ℕ) → length code < store_bytes → Checks text code values (Err (record { rule = SmallStore; place = 0 })) code values
unfolding Checks
code-small text code values h = rw (lt-ltb (length code) store_bytes h, Checks) (record { answer = refl; code_same = refl; values_same = refl })

pub values-small : (text code values : List ℕ) → store_bytes ≤ length code → length values < store_bytes → Checks text code values (Err (record { rule = SmallStore; place = 0 })) code values
unfolding Checks
values-small text code values g h = rw (le-ltb (length code) store_bytes (omega arith), lt-ltb (length values) store_bytes h, Checks) (record { answer = refl; code_same = refl; values_same = refl })

pub stores_small : (text code values : List ℕ) → (length code < store_bytes) ⊎ ((store_bytes ≤ length code) × (length values < store_bytes)) → Checks text code values (Err (record { rule = SmallStore; place = 0 })) code values
stores_small text code values (inl h) = code-small text code values h
stores_small text code values (inr h) = values-small text code values h.0 h.1

-- ---- parts
part : (l : List ℕ) → store_bytes ≤ length l → length (take store_bytes l) ≡ store_bytes
part l h = length-take-le store_bytes l (omega arith)

pub counted : (l : List ℕ) → store_bytes ≤ length l → store_bytes ≡ length (take store_bytes l)
counted l h = sym (part l h)

pub parts_whole : (code values : List ℕ) → store_bytes ≤ length code → store_bytes ≤ length values → Whole (take store_bytes code) (take store_bytes values)
parts_whole code values g h = record { code-room = part code g; values-room = part values h }

nothing-past : (l : List ℕ) → length l ≡ store_bytes → drop store_bytes l ≡ []
nothing-past l e = ap (λ (n : ℕ). drop n l) (sym e) ∙ drop-length l

-- what comes back, with the rest of what was lent
module _ (l a : List ℕ) (g : store_bytes ≤ length l) (e : length a ≡ length (take store_bytes l)) where
  long : length a ≡ store_bytes
  long = e ∙ part l g

  whole_part : take store_bytes (a ++ drop store_bytes l) ≡ a
  whole_part = take_at a (drop store_bytes l) store_bytes long

  whole-past : drop store_bytes (a ++ drop store_bytes l) ≡ drop store_bytes l
  whole-past = drop_at a (drop store_bytes l) store_bytes long

  whole_long : length (a ++ drop store_bytes l) ≡ length l
  whole_long = length_front l a store_bytes e

  emptied : Emptied (take store_bytes l) a → Emptied l (a ++ drop store_bytes l)
  emptied h = ap (λ (x : List ℕ). x ++ drop store_bytes l) (h ∙ ap (λ (x : List ℕ). replicate store_bytes 0 ++ x) (nothing-past (take store_bytes l) (part l g)) ∙ append-nil (replicate store_bytes 0))

  words-split : cells_of (a ++ drop store_bytes l) ≡ cells_of a ++ cells_of (drop store_bytes l)
  words-split = words_append store_words a (drop store_bytes l) long

  words-many : length (cells_of a) ≡ store_words
  words-many = omega (arith, length-words a, long)

  first-words : (n : ℕ) → n ≤ store_words → take n (cells_of (a ++ drop store_bytes l)) ≡ take n (cells_of a)
  first-words n h = ap (take n) words-split ∙ take-append-le n (cells_of a) (cells_of (drop store_bytes l)) (omega (arith, words-many))

  word_in : (c : ℕ) → c < store_words → get_or (cells_of (a ++ drop store_bytes l)) c 0 ≡ get_or (cells_of a) c 0
  word_in c h = ap (λ (x : List ℕ). get_or x c 0) words-split ∙ get_or-append (cells_of a) (cells_of (drop store_bytes l)) 0 c (omega (arith, words-many))

pub checked-parts : (text code values : List ℕ) (r : Checked) (code' values' : List ℕ) → store_bytes ≤ length code → store_bytes ≤ length values
    → Judges text (take store_bytes code) (take store_bytes values) (verdict text) r code' values' → Checks text code values r (code' ++ drop store_bytes code) (values' ++ drop store_bytes values)
unfolding Checks Judges
checked-parts text code values r code' values' g h j =
    rw (le-ltb (length code) store_bytes (omega arith), le-ltb (length values) store_bytes (omega arith), Checks) (go (verdict text) j)
  where
    go : (v : Verdict) → Judges text (take store_bytes code) (take store_bytes values) v r code' values' → Judges text code values v r (code' ++ drop store_bytes code) (values' ++ drop store_bytes values)
    go (refused_by f) k = record {
      answer = k.answer;
      code-empty = emptied code code' g (empty-long code code' g k.code-empty) k.code-empty;
      values-empty = emptied values values' h (empty-long values values' h k.values-empty) k.values-empty;
    }
      where
        empty-long : (l a : List ℕ) → store_bytes ≤ length l → Emptied (take store_bytes l) a → length a ≡ length (take store_bytes l)
        empty-long l a n e = ap length (e ∙ ap (λ (x : List ℕ). replicate store_bytes 0 ++ x) (nothing-past (take store_bytes l) (part l n)) ∙ append-nil (replicate store_bytes 0)) ∙ length-replicate {A = ℕ} store_bytes 0 ∙ sym (part l n)
    go (accepted a) k = record {
      R = k.R;
      heads-are = k.heads-are;
      answer = k.answer;
      holds = subst (λ (x : List ℕ). Holds text k.R (offset_of text a.words) (cells_of x) a.program) (take_all store_bytes code' (omega (arith, k.code-long, part code g)) ∙ sym (whole_part code code' g k.code-long)) k.holds;
      there = k.there;
      alone = k.alone;
      words = ap (map (to_z w32)) (first-words values values' h k.values-long (length a.program.words) (omega (arith, k.holds.room))) ∙ k.words;
      zeros = λ c x y. word_in values values' h k.values-long c y ∙ k.zeros c x y;
      code-past = whole-past code code' g k.code-long;
      values-past = whole-past values values' h k.values-long;
      code-long = whole_long code code' g k.code-long;
      values-long = whole_long values values' h k.values-long;
    }
