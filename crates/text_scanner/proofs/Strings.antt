-- Strings.
use mathlib.Core.Path.{◌≡◌, refl, sym, ap, ◌∙◌}
use mathlib.Core.Bool.{Bool, true, false, not}
use mathlib.Core.List.{List, [], ◌∷◌}
use mathlib.Core.Option.{Option, none, some}
use Prim.Native.Nat.{ℕ, zero, suc, ◌+◌, ◌-◌, ◌<◌, ◌≤◌}
use native.Mathlib.Omega.{arith}
use lib.Dec.{eqb}
use lib.ListN.{length, get_or, drop, get_or-eq_default, drop_of_length-le}
use borrow.Author.Tests.{eq-eqb, ne_eqb, eqb-true, lt-ltb, le-ltb, not-true, not-false}
use Rattle.laws.proofs.Tests.{test, false-true, apart, by_less, by-same}
use Rattle.laws.proofs.Lists.{rest, Reached, reached-here, reached-on}
use Rattle.paper.specs.Sorts.{STRING}
use Rattle.paper.specs.Words.{Scan, string_limit, leading, permitted_inside, barred_in_string, string_end, scan_string, word, refused, malformed}
use Rattle.layout.specs.Rules.{bad_byte}
use Rattle.text_scanner.specs.Answers.{noted, closed_string}
use Rattle.text_reserved.proofs.Ranges.{passed}
use Rattle.text_scanner.proofs.Bytes.{quote-permitted}
use Rattle.text_reserved.proofs.Runs.{Run, run-start, run_more, run-stop}

-- ---- bytes that are not permitted
-- Of the first n bytes every one is permitted, or `bad` is the place of the first that is not.
pub record Seen (text : List ℕ) (n bad : ℕ) : Type 0 where
  pub none-bad : bad ≡ 0 → Run permitted_inside text n
  pub first-bad : (bad ≡ 0 → ⊥) → (leading permitted_inside text ≡ bad) × (bad < n)

noted-zero : (bad at : ℕ) → bad ≡ 0 → noted bad at false ≡ at
unfolding noted
noted-zero zero at h = refl
noted-zero (suc m) at h = absurd (omega arith)

noted-some : (bad at : ℕ) → (bad ≡ 0 → ⊥) → noted bad at false ≡ bad
unfolding noted
noted-some zero at h = absurd (h refl)
noted-some (suc m) at h = refl

module _ (bad at : ℕ) (t p : Bool) (is : t ≡ p) where
  pub note-permitted : t ≡ true → bad ≡ noted bad at p
  unfolding noted
  note-permitted h = rw (sym is ∙ h)

  pub note-first : t ≡ false → bad ≡ 0 → at ≡ noted bad at p
  note-first h z = sym (ap (noted bad at) (sym is ∙ h) ∙ noted-zero bad at z)

  pub note-later : t ≡ false → (bad ≡ 0 → ⊥) → bad ≡ noted bad at p
  note-later h z = sym (ap (noted bad at) (sym is ∙ h) ∙ noted-some bad at z)

module _ (text : List ℕ) (n bad : ℕ) (at : Seen text n bad) (h : n < length text) where
  seen-good : permitted_inside (get_or text n 0) ≡ true → Seen text (n + 1) bad
  seen-good p = record {
    none-bad = λ z. run_more permitted_inside text n (at.none-bad z) true h (sym p) refl;
    first-bad = λ z. let x = at.first-bad z in (x.0, omega arith);
  }

  seen-bad : 0 < n → permitted_inside (get_or text n 0) ≡ false → Seen text (n + 1) (noted bad n false)
  seen-bad g p =
      by-same bad 0
      (λ z. rw (noted-zero bad n z) (record {
        none-bad = λ y. absurd (omega arith);
        first-bad = λ y. (sym (run-stop permitted_inside text n (at.none-bad z) false h (sym p) refl).exact, omega arith);
      }))
      (λ z. rw (noted-some bad n z) (record {
        none-bad = λ y. absurd (z y);
        first-bad = λ y. let x = at.first-bad z in (x.0, omega arith);
      }))

  pub seen_more : (r : ℕ) → 0 < n → r ≡ noted bad n (permitted_inside (get_or text n 0)) → Seen text (n + 1) r
  unfolding noted
  seen_more r g e =
      test (permitted_inside (get_or text n 0))
      (λ p. rw (e ∙ ap (noted bad n) p) (seen-good p))
      (λ p. rw (e ∙ ap (noted bad n) p) (seen-bad g p))

quote-inside : (b : ℕ) → b ≡ 34 → permitted_inside b ≡ true
unfolding permitted_inside
quote-inside b e = passed _ _ (quote-permitted b e)

-- ---- what is left of a string of which n bytes are passed
pub record Left (text : List ℕ) (room bad n : ℕ) : Type 0 where
  pub place : (0 < n) × (n ≤ length text)
  pub seen : Seen text n bad
  pub left : string_end string_limit false (drop 1 text) 1 ≡ string_end room false (drop n text) n

some-length : (text : List ℕ) → get_or text 0 0 ≡ 34 → 0 < length text
some-length [] h = absurd (omega arith)
some-length (b ∷ r) h = omega arith

pub left-start : (text : List ℕ) → get_or text 0 0 ≡ 34 → Left text string_limit 0 1
left-start text h =
    let some = some-length text h in
    record {
      place = (omega arith, omega arith);
      seen = record {
        none-bad = λ z. run_more permitted_inside text 0 (run-start permitted_inside text) true some (sym (quote-inside _ h)) refl;
        first-bad = λ z. absurd (z refl);
      };
      left = refl;
    }

-- A character is passed up to its last byte, the one at n: the room for it is not asked yet.
pub record Passing (text : List ℕ) (room bad n : ℕ) : Type 0 where
  pub place : n < length text
  pub seen : Seen text (n + 1) bad
  pub left : string_end string_limit false (drop 1 text) 1 ≡ elim room [ zero ↦ none | suc m ↦ string_end m false (drop (n + 1) text) (n + 1) ]

-- one character less is room for
fewer : (room : ℕ) (l : List ℕ) (n : ℕ) → (room ≡ 0 → ⊥) → elim room [ zero ↦ none | suc m ↦ string_end m false l n ] ≡ string_end (room - 1) false l n
fewer zero l n h = absurd (h refl)
fewer (suc m) l n h = ap (λ (x : ℕ). string_end x false l n) (less m)
  where
    less : (m : ℕ) → m ≡ suc m - 1
    less m = omega arith

pub no-quote : (text : List ℕ) (at : ℕ) → length text ≤ at → true ≡ not (eqb (get_or text at 0) 34)
no-quote text at h = rw (get_or-eq_default text 0 h)

malformed-by : (text : List ℕ) → string_end string_limit false (drop 1 text) 1 ≡ none → malformed ≡ scan_string text
unfolding scan_string
malformed-by text e = rw (e, scan_string)

-- a string that is closed
pub closed-good : (n bad : ℕ) → bad ≡ 0 → word STRING n 0 ≡ closed_string n bad
unfolding closed_string
closed-good n zero h = refl
closed-good n (suc m) h = absurd (omega arith)

pub closed-bad : (n bad : ℕ) → (bad ≡ 0 → ⊥) → refused bad_byte bad ≡ closed_string n bad
unfolding closed_string
closed-bad n zero h = absurd (h refl)
closed-bad n (suc m) h = refl

closed-by : (text : List ℕ) (m bad : ℕ) → Seen text m bad → string_end string_limit false (drop 1 text) 1 ≡ some m → closed_string m bad ≡ scan_string text
unfolding scan_string closed_string
closed-by text m zero at e =
    let all = at.none-bad refl in
    let whole : m ≤ leading permitted_inside text = omega (arith, all.left) in
    rw (e, scan_string) (rw (le-ltb (leading permitted_inside text) m whole))
closed-by text m (suc k) at e =
    let x = at.first-bad (λ z. omega arith) in
    rw (e, scan_string) (rw x.0 (rw (lt-ltb (suc k) m x.1) (rw x.0)))

module _ (text : List ℕ) (room bad n : ℕ) (at : Left text room bad n) where
  pub left_open : length text ≤ n → malformed ≡ scan_string text
  unfolding string_end
  left_open h = malformed-by text (at.left ∙ rw (drop_of_length-le text h))

  module _ (h : n < length text) where
    -- the definition at a place where the byte there is known
    at_byte : string_end string_limit false (drop 1 text) 1 ≡ string_end room false (get_or text n 0 ∷ drop (n + 1) text) n
    at_byte = at.left ∙ ap (λ (l : List ℕ). string_end room false l n) (rest text n h)

    module _ (b : get_or text n 0 ≡ 34) (t : Bool) (is : t ≡ not (eqb (get_or text (n + 1) 0) 34)) where
      after-quote : string_end string_limit false (drop 1 text) 1 ≡ string_end room true (drop (n + 1) text) (n + 1)
      unfolding string_end
      after-quote = at_byte ∙ rw (eq-eqb _ 34 b, string_end)

      seen-quote : Seen text (n + 1) bad
      seen-quote = seen-good text n bad at.seen h (quote-inside _ b)

      at_second : n + 1 < length text → string_end string_limit false (drop 1 text) 1 ≡ string_end room true (get_or text (n + 1) 0 ∷ drop (n + 1 + 1) text) (n + 1)
      at_second g = after-quote ∙ ap (λ (l : List ℕ). string_end room true l (n + 1)) (rest text (n + 1) g)

      second : t ≡ false → n + 1 < length text
      second g =
          by_less (n + 1) (length text) (λ h. h)
          (λ h. false-true (sym g ∙ is ∙ sym (no-quote text (n + 1) h)))

      pub quote-twice : t ≡ false → Passing text room bad (n + 1)
      unfolding string_end
      quote-twice g =
          let s = second g in
          let q = not-false _ (sym is ∙ g) in
          record {
            place = s;
            seen = seen-good text (n + 1) bad seen-quote s (quote-inside _ (eqb-true _ 34 q));
            left = at_second s ∙ rw (q, string_end);
          }

      ended : t ≡ true → string_end string_limit false (drop 1 text) 1 ≡ some (n + 1)
      unfolding string_end
      ended g =
          let q = not-true (eqb (get_or text (n + 1) 0) 34) (sym is ∙ g) in
          by_less (n + 1) (length text) (λ h. at_second h ∙ rw (q, string_end))
          (λ h. after-quote ∙ rw (drop_of_length-le text h))

      pub closes : (s : Scan) → t ≡ true → s ≡ closed_string (n + 1) bad → s ≡ scan_string text
      closes s g e = e ∙ closed-by text (n + 1) bad seen-quote (ended g)

    module _ (t : Bool) (b : get_or text n 0 ≡ 34 → ⊥) (is : t ≡ barred_in_string (get_or text n 0)) where
      pub barred : t ≡ true → malformed ≡ scan_string text
      unfolding string_end
      barred g = malformed-by text (at_byte ∙ rw (ne_eqb _ 34 b, string_end) (rw (sym is ∙ g)))

      pub character : (worse : ℕ) → worse ≡ noted bad n (permitted_inside (get_or text n 0)) → t ≡ false → Passing text room worse n
      unfolding string_end
      character worse e g = record {
        place = h;
        seen = seen_more text n bad at.seen h worse at.place.0 e;
        left = at_byte ∙ rw (ne_eqb _ 34 b, string_end) (rw (sym is ∙ g));
      }

module _ (text : List ℕ) (room bad n : ℕ) (at : Passing text room bad n) where
  pub no_room : room ≡ 0 → malformed ≡ scan_string text
  no_room r = malformed-by text (at.left ∙ rw r)

  pub passed_on : (room ≡ 0 → ⊥) → Left text (room - 1) bad (n + 1)
  passed_on r = record {
    place = (omega arith, omega (arith, at.place));
    seen = at.seen;
    left = at.left ∙ fewer room (drop (n + 1) text) (n + 1) r;
  }

-- ---- a string's end lies in the text
no_end : {A : Type 0} {m : ℕ} → ◌≡◌ {A = Option ℕ} none (some m) → A
no_end e = apart (cc)

end-here : (n m : ℕ) (l : List ℕ) → some n ≡ some m → Reached n m l
end-here n m l e = reached-here n m l (cc)

pub end-within : (room : ℕ) (quoted : Bool) (l : List ℕ) (n m : ℕ) → string_end room quoted l n ≡ some m → Reached n m l
unfolding string_end
end-within room true [] n m e = end-here n m [] e
end-within room false [] n m e = no_end e
end-within zero true (b ∷ r) n m e =
    test (eqb b 34) (λ g. no_end (rw (g, string_end) at e)) (λ g. end-here n m (b ∷ r) (rw (g, string_end) at e))
end-within (suc k) true (b ∷ r) n m e =
    test (eqb b 34) (λ g. reached-on n m b r (end-within k false r (n + 1) m (rw (g, string_end) at e)))
    (λ g. end-here n m (b ∷ r) (rw (g, string_end) at e))
end-within zero false (b ∷ r) n m e =
    test (eqb b 34) (λ g. reached-on n m b r (end-within zero true r (n + 1) m (rw (g, string_end) at e)))
    (λ g. test (barred_in_string b) (λ t. no_end (rw t at (rw (g, string_end) at e))) (λ t. no_end (rw t at (rw (g, string_end) at e))))
end-within (suc k) false (b ∷ r) n m e =
    test (eqb b 34) (λ g. reached-on n m b r (end-within (suc k) true r (n + 1) m (rw (g, string_end) at e)))
    (λ g. test (barred_in_string b) (λ t. no_end (rw t at (rw (g, string_end) at e)))
    (λ t. reached-on n m b r (end-within k false r (n + 1) m (rw t at (rw (g, string_end) at e)))))
