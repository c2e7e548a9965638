-- Worked examples of the reading: for each text how many words it has, the refusal's number and its place.
use mathlib.Core.Path.{◌≡◌, refl}
use mathlib.Core.List.{List, [], ◌∷◌, ◌++◌, map}
use mathlib.Core.Option.{Option, none, some}
use Prim.Native.Nat.{ℕ}
use lib.ListN.{length}
use Rattle.paper.specs.Sorts.{bytes, folded, signs, reserved, equal_texts, number_in, sign_sort, name_sort}
use Rattle.paper.specs.Words.{Refusal, between, separates, permitted, permitted_inside, letter, digit, in_name, spoils_number, barred_in_string, leading, scan_name, value_of, scan_number, string_end, scan_string, scan_sign, scan, gap, scanned, word_at, following, read_from, reading}

unfoldable pub end : Option Refusal → List ℕ
end none = 0 ∷ 0 ∷ []
end (some r) = r.number ∷ r.offset ∷ []

unfoldable pub shown : List ℕ → List ℕ
shown text = length (reading text).words ∷ end (reading text).refusal

unfoldable pub texts : List (List ℕ)
texts =
    bytes "n := 8388608;" ∷ bytes "8388609" ∷ bytes "007" ∷ bytes "99999999x" ∷ bytes "5..6" ∷ bytes "a.b" ∷ bytes "_a" ∷ bytes "5!x" ∷ bytes "a<>b" ∷ bytes ": =" ∷
    bytes "\"a\"\"b\"" ∷ bytes "\"a" ∷ (bytes "\"a" ++ 1 ∷ bytes "b\"") ∷ (bytes "\"a" ++ 1 ∷ bytes "b") ∷ (bytes "12" ++ 233 ∷ []) ∷ (bytes "\"" ++ 233 ∷ bytes "\"") ∷
    (bytes "! note" ++ 13 ∷ bytes "x" ++ 10 ∷ bytes "y") ∷ (bytes "! " ++ 1 ∷ []) ∷ bytes "" ∷ []

pub examples : map shown texts
    ≡ (4 ∷ 0 ∷ 0 ∷ []) ∷ (0 ∷ 6 ∷ 0 ∷ []) ∷ (1 ∷ 0 ∷ 0 ∷ []) ∷ (0 ∷ 5 ∷ 0 ∷ []) ∷ (0 ∷ 5 ∷ 0 ∷ []) ∷ (1 ∷ 5 ∷ 1 ∷ []) ∷ (0 ∷ 5 ∷ 0 ∷ []) ∷ (1 ∷ 0 ∷ 0 ∷ []) ∷ (3 ∷ 0 ∷ 0 ∷ []) ∷ (2 ∷ 0 ∷ 0 ∷ []) ∷
    (1 ∷ 0 ∷ 0 ∷ []) ∷ (0 ∷ 5 ∷ 0 ∷ []) ∷ (0 ∷ 4 ∷ 2 ∷ []) ∷ (0 ∷ 5 ∷ 0 ∷ []) ∷ (1 ∷ 4 ∷ 2 ∷ []) ∷ (1 ∷ 0 ∷ 0 ∷ []) ∷
    (1 ∷ 0 ∷ 0 ∷ []) ∷ (0 ∷ 4 ∷ 2 ∷ []) ∷ (0 ∷ 0 ∷ 0 ∷ []) ∷ []
unfolding shown end texts bytes folded signs reserved equal_texts number_in sign_sort name_sort between separates permitted permitted_inside letter digit in_name spoils_number barred_in_string leading scan_name value_of scan_number string_end scan_string scan_sign scan gap scanned word_at following read_from reading
examples = refl
