-- Reserved words as the code tells them: by length, by first letter, and by the letters behind it, which are one number.
use Rattle.std.specs.Prelude.{◌≡◌, Bool, true, false, List, [], ◌∷◌, map, ℕ, ◌+◌, ◌*◌, ◌-◌, ◌<◌, eqb, length, take, get_or}
use Prim.Native.String.{String}
use Rattle.paper.specs.Sorts.{bytes, folded, name_sort, NAME}
use Rattle.paper.specs.Words.{between, letter, in_name}
use Rattle.text_reserved.specs.Runs.{Counted}
use Rattle.text_reserved.specs.declared.words.Word.{Word}

-- Capitals as a number to the base 32, after letters with the number k.
unfoldable pub packed : List ℕ → ℕ → ℕ
packed [] k = k
packed (b ∷ r) k = packed r (k * 32 + (b - 65))

-- The number of a text's letters behind the first.
unfoldable pub behind : List ℕ → ℕ
behind [] = 0
behind (b ∷ r) = packed r 0

-- A reserved word as the code has it.
unfoldable pub word_of : String → Word
word_of s = record { rest = behind (map folded (bytes s)); sort = name_sort (map folded (bytes s)) }

-- What stands in a table under a number.
unfoldable pub look : {A : Type 0} → List (ℕ × List A) → ℕ → List A
look [] n = []
look (e ∷ r) n = elim (eqb n e.0) [ true ↦ e.1 | false ↦ look r n ]

unfoldable pub of : {A : Type 0} → ℕ → List A → ℕ × List A
of n l = (n, l)

-- The words that begin with a letter.
unfoldable pub row : String → List String → ℕ × List String
row s words = (get_or (bytes s) 0 0, words)

-- The words by length, and those of a length by their first letter.
unfoldable pub table : List (ℕ × List (ℕ × List String))
table =
    of 2 (
    row "D" ("DO" ∷ []) ∷ row "I" ("IF" ∷ []) ∷ row "O" ("OR" ∷ []) ∷ row "T" ("TO" ∷ []) ∷ []
    ) ∷
    of 3 (
    row "A" ("AND" ∷ []) ∷ row "D" ("DIV" ∷ []) ∷ row "F" ("FOR" ∷ []) ∷ row "M" ("MOD" ∷ []) ∷
    row "N" ("NOT" ∷ "NUM" ∷ []) ∷ row "V" ("VAR" ∷ []) ∷ row "X" ("XOR" ∷ []) ∷ []
    ) ∷
    of 4 (
    row "B" ("BOOL" ∷ []) ∷ row "C" ("CASE" ∷ []) ∷ row "E" ("ELSE" ∷ "EXIT" ∷ []) ∷ row "F" ("FROM" ∷ "FUNC" ∷ []) ∷
    row "G" ("GOTO" ∷ []) ∷ row "P" ("PERS" ∷ "PROC" ∷ []) ∷ row "S" ("STEP" ∷ []) ∷
    row "T" ("TEST" ∷ "THEN" ∷ "TRAP" ∷ "TRUE" ∷ []) ∷ row "U" ("UNDO" ∷ []) ∷ row "W" ("WITH" ∷ []) ∷ []
    ) ∷
    of 5 (
    row "A" ("ALIAS" ∷ []) ∷ row "C" ("CONST" ∷ []) ∷ row "E" ("ENDIF" ∷ "ERROR" ∷ []) ∷ row "F" ("FALSE" ∷ []) ∷
    row "I" ("INOUT" ∷ []) ∷ row "L" ("LOCAL" ∷ []) ∷ row "R" ("RAISE" ∷ "RETRY" ∷ []) ∷ row "W" ("WHILE" ∷ []) ∷ []
    ) ∷
    of 6 (
    row "E" ("ELSEIF" ∷ "ENDFOR" ∷ []) ∷ row "M" ("MODULE" ∷ []) ∷ row "N" ("NOVIEW" ∷ []) ∷
    row "R" ("RECORD" ∷ "RETURN" ∷ []) ∷ []
    ) ∷
    of 7 (
    row "C" ("CONNECT" ∷ []) ∷ row "D" ("DEFAULT" ∷ []) ∷ row "E" ("ENDFUNC" ∷ "ENDPROC" ∷ "ENDTEST" ∷ "ENDTRAP" ∷ []) ∷
    row "T" ("TPWRITE" ∷ "TRYNEXT" ∷ []) ∷ []
    ) ∷
    of 8 (
    row "B" ("BACKWARD" ∷ []) ∷ row "E" ("ENDWHILE" ∷ []) ∷ row "N" ("NOSTEPIN" ∷ []) ∷ row "R" ("READONLY" ∷ []) ∷
    row "V" ("VIEWONLY" ∷ []) ∷ []
    ) ∷
    of 9 (
    row "E" ("ENDMODULE" ∷ "ENDRECORD" ∷ []) ∷ row "S" ("SYSMODULE" ∷ []) ∷ row "T" ("TPREADNUM" ∷ []) ∷ []
    ) ∷
    []

unfoldable pub candidates : (length letter : ℕ) → List Word
candidates length letter = map word_of (look (look table length) letter)

-- A word's sort, if a number is that of its letters behind the first, or else another sort.
unfoldable pub or_else : Word → ℕ → ℕ → ℕ
or_else w rest other = elim (eqb rest w.rest) [ true ↦ w.sort | false ↦ other ]

-- The sort of that word among some whose letters behind the first have a number, or a name's.
unfoldable pub chosen : List Word → ℕ → ℕ
chosen [] rest = NAME
chosen (w ∷ r) rest = or_else w rest (chosen r rest)

-- r is a byte with letter case folded: a letter's capital, and of another byte none.
pub record Folds (b r : ℕ) : Type 0 where
  pub capital : between 65 90 r ≡ letter b
  pub same : letter b ≡ true → r ≡ folded b
  pub byte : r < 256

-- A text begins with a letter, which is this one, folded.
pub record Begins (text : List ℕ) (first : ℕ) : Type 0 where
  pub some : 0 < length text
  pub is : letter (get_or text 0 0) ≡ true
  pub folds : first ≡ folded (get_or text 0 0)

-- A number below it has room in 64 bits for a letter more.
abbrev pub room : ℕ
room = 576460752303423488

-- The letters that a text begins with: how many, whether the byte after them goes on with a name, and by the first and by the number of those behind it,
-- their sort.
pub record Packs (text : List ℕ) (letters first rest : ℕ) (more : Bool) : Type 0 where
  pub count : Counted letter text letters
  pub goes : more ≡ in_name (get_or text letters 0)
  pub sort : name_sort (map folded (take letters text)) ≡ chosen (candidates letters first) rest
