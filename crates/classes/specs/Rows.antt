-- Classes worked out by hand. A row has a class and what it comes to.
use Rattle.std.specs.Prelude.{List, [], ◌∷◌, ◌++◌, map, ℕ, ◌+◌, ◌-◌, ◌*◌, length, replicate, ℤ, pos}
use Prim.Native.String.{String}
use Rattle.paper.specs.Answer.{Result}
use Rattle.paper.specs.Examples.{lines, fields, tray, module_of}
use Rattle.classes.specs.Classes.{ClassQuestion, ClassResult, record_words}

pub record ClassRow : Type 0 where
  pub question : ClassQuestion
  pub expected : ClassResult

unfoldable pub joined : List (List ℕ) → List ℕ
joined [] = []
joined (t ∷ r) = t ++ joined r

abbrev pub length_of : List ℕ → ℕ
length_of t = length t

-- These lengths of this text, with lists that suffice for as many modules, and this much more or less of each.
unfoldable pub lending : (texts lengths : List ℕ) → (depth : ℕ) → (inputs : List ℤ) → (room code records' data' : ℕ) → ClassQuestion
lending texts lengths depth inputs room code records' data' =
    record { texts = texts; lengths = lengths; steps = 10000; depth = depth; inputs = inputs; room = room; code = code; values = 16384; records = records'; module-data = data' }

-- A class of these texts, each by its lines, with lists that just suffice.
unfoldable pub asking : List (List String) → (inputs : List ℤ) → (room : ℕ) → ClassQuestion
asking texts inputs room =
    let T = map lines texts in
    lending (joined T) (map length_of T) 16 inputs room 16384 (record_words * length T) (1024 * length T)

-- What a module comes to.
unfoldable pub comes : (ending refusal offset steps errno output inputs words : ℕ) → (written : List String) → (kept : List ℤ) → Result
comes e r o s n b i w written kept = record { fields = fields e r o s n b i w; written = lines written; kept = kept }

unfoldable pub class_row : ClassQuestion → (results : List Result) → ClassRow
class_row q results = record { question = q; expected = record { refusal = 0; results = results } }

unfoldable pub refused_row : ClassQuestion → (number : ℕ) → ClassRow
refused_row q number = record { question = q; expected = record { refusal = number; results = [] } }

-- A module that reads a number and writes it.
unfoldable pub echo : List String
echo = module_of ("VAR num n;" ∷ []) ("TPReadNum n, \"n\";" ∷ "TPWrite \"=\" \\Num:=n;" ∷ [])

unfoldable pub classes : List ClassRow
classes =
    -- "Each module's record, output and data are those of a call for it alone": the tray of (a), and a module that reads
    class_row (asking (tray ∷ echo ∷ []) (pos 7 ∷ []) 10)
    (comes 1 0 0 10 7 4 0 1 ("n=4" ∷ []) (pos 4 ∷ []) ∷ comes 1 0 0 3 0 5 1 1 ("n" ∷ "=7" ∷ []) (pos 7 ∷ []) ∷ []) ∷
    -- "input list that hold for each": each reads from the first number on
    class_row (asking (echo ∷ echo ∷ []) (pos 7 ∷ pos 8 ∷ []) 10)
    (comes 1 0 0 3 0 5 1 1 ("n" ∷ "=7" ∷ []) (pos 7 ∷ []) ∷ comes 1 0 0 3 0 5 1 1 ("n" ∷ "=7" ∷ []) (pos 7 ∷ []) ∷ []) ∷
    -- a module that is refused, between two that are not; "share [..] fraction dropped": of 14 bytes four for each
    class_row (asking (tray ∷ [] ∷ tray ∷ []) [] 14)
    (comes 1 0 0 10 7 4 0 1 ("n=4" ∷ []) (pos 4 ∷ []) ∷ comes 0 8 0 0 0 0 0 0 [] [] ∷ comes 1 0 0 10 7 4 0 1 ("n=4" ∷ []) (pos 4 ∷ []) ∷ []) ∷
    -- of 11 bytes three: the line of four does not fit
    class_row (asking (tray ∷ [] ∷ tray ∷ []) [] 11)
    (comes 8 0 54 8 7 0 0 1 [] (pos 4 ∷ []) ∷ comes 0 8 0 0 0 0 0 0 [] [] ∷ comes 8 0 54 8 7 0 0 1 [] (pos 4 ∷ []) ∷ []) ∷
    -- "even with no modules"
    class_row (asking [] [] 10) [] ∷ []

-- A class of this many empty texts.
abbrev pub empties : (n : ℕ) → ClassQuestion
empties n = lending [] (replicate n 0) 16 [] 0 16384 (record_words * n) (1024 * n)

unfoldable pub refusals : List ClassRow
refusals =
    -- "20 when the lengths don't add up to the text": one byte more, one less, a length too many that is 0 does not matter
    refused_row (lending (1 ∷ 2 ∷ 3 ∷ []) (2 ∷ 2 ∷ []) 16 [] 0 16384 16 2048) 20 ∷
    refused_row (lending (1 ∷ 2 ∷ 3 ∷ []) (1 ∷ 1 ∷ []) 16 [] 0 16384 16 2048) 20 ∷
    -- no modules, and a text
    refused_row (lending (1 ∷ []) [] 16 [] 0 16384 0 0) 20 ∷
    -- sums are exact: they do not come round to 3
    refused_row (lending (1 ∷ 2 ∷ 3 ∷ []) (4294967295 ∷ 4 ∷ []) 16 [] 0 16384 16 2048) 20 ∷
    -- "21 for more than 64 modules"
    refused_row (empties 65) 21 ∷
    -- "27 when either list is too short"
    refused_row (lending [] (0 ∷ 0 ∷ []) 16 [] 0 16384 15 2048) 27 ∷
    refused_row (lending [] (0 ∷ 0 ∷ []) 16 [] 0 16384 16 2047) 27 ∷
    -- "in this order after 2": 1 before 2, 2 before 20, 20 before 21, 21 before 27
    refused_row (lending [] (1 ∷ []) 0 [] 0 16383 8 1024) 1 ∷
    refused_row (lending [] (1 ∷ []) 0 [] 0 16384 8 1024) 2 ∷
    refused_row (lending [] (1 ∷ []) 65 [] 0 16384 8 1024) 2 ∷
    refused_row (lending [] (1 ∷ replicate 64 0) 16 [] 0 16384 0 0) 20 ∷
    refused_row (lending [] (replicate 65 0) 16 [] 0 16384 0 0) 21 ∷ []
