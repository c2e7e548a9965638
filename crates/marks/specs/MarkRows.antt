-- Rows of the marking, worked by hand: a question, a listing as it is lent, and what is told.
use Rattle.std.specs.Prelude.{List, [], ◌∷◌, ◌++◌, ℕ}
use Rattle.std.proofs.Math.Option.{Option, none, some}
use Rattle.paper.specs.Examples.{asking, tray, module_of}
use Rattle.paper.specs.Answer.{Question, low_first}
use Rattle.marks.specs.Marks.{Marking}

pub record MarkRow : Type 0 where
  pub question : Question
  pub listing : List ℕ
  pub expected : Option Marking

-- A listing with these entries, as bytes.
unfoldable pub entries : List ℕ → List ℕ
entries [] = []
entries (n ∷ r) = low_first 4 n ++ entries r

unfoldable pub tells : (same index : ℕ) → Option Marking
tells same index = some (record { same = same; index = index })

unfoldable pub mark_row : Question → (listing : List ℕ) → Option Marking → MarkRow
mark_row q l m = record { question = q; listing = l; expected = m }

-- The bench example, with so many steps and that depth.
unfoldable pub tray_with : (steps depth : ℕ) → Question
tray_with steps depth = asking tray steps depth []

-- Its ten steps: the call, IF, RAISE, which fails; n := 8, RETRY; the call, IF, RETURN; TPWrite; and the end of main's list, at ERROR.
unfoldable pub tray_steps : List ℕ
tray_steps = 40 ∷ 126 ∷ 141 ∷ 82 ∷ 90 ∷ 40 ∷ 126 ∷ 150 ∷ 54 ∷ 76 ∷ []

unfoldable pub mark_rows : List MarkRow
mark_rows =
    -- it equals that of our whole run: yes, and it has ten entries
    mark_row (tray_with 10000 16) (entries tray_steps) (tells 1 10) ∷
    -- an entry differs: the first; the fifth; an entry's fourth byte counts too
    mark_row (tray_with 10000 16) (entries (41 ∷ 126 ∷ 141 ∷ [])) (tells 0 0) ∷
    mark_row (tray_with 10000 16) (entries (40 ∷ 126 ∷ 141 ∷ 82 ∷ 97 ∷ 40 ∷ 126 ∷ 150 ∷ 54 ∷ 76 ∷ [])) (tells 0 4) ∷
    mark_row (tray_with 10000 16) (40 ∷ 0 ∷ 0 ∷ 128 ∷ entries (126 ∷ [])) (tells 0 0) ∷
    -- an entry is missing: the last; all of them
    mark_row (tray_with 10000 16) (entries (40 ∷ 126 ∷ 141 ∷ 82 ∷ 90 ∷ 40 ∷ 126 ∷ 150 ∷ 54 ∷ [])) (tells 0 9) ∷
    mark_row (tray_with 10000 16) [] (tells 0 0) ∷
    -- an entry is surplus; a part word is left out, and is none
    mark_row (tray_with 10000 16) (entries (tray_steps ++ (76 ∷ []))) (tells 0 10) ∷
    mark_row (tray_with 10000 16) (entries tray_steps ++ (76 ∷ 0 ∷ 0 ∷ [])) (tells 1 10) ∷
    -- ending 5: our whole run is one of four steps
    mark_row (tray_with 4 16) (entries (40 ∷ 126 ∷ 141 ∷ 82 ∷ [])) (tells 1 4) ∷
    mark_row (tray_with 4 16) (entries tray_steps) (tells 0 4) ∷
    -- no step is allowed
    mark_row (tray_with 0 16) [] (tells 1 0) ∷
    -- ending 3: a failed step is in; without it an entry is missing
    mark_row (asking (module_of ("VAR num n;" ∷ []) ("n := 8388607 + 1;" ∷ "n := 8388608 + 1;" ∷ [])) 10000 16 []) (entries (38 ∷ 56 ∷ [])) (tells 1 2) ∷
    mark_row (asking (module_of ("VAR num n;" ∷ []) ("n := 8388607 + 1;" ∷ "n := 8388608 + 1;" ∷ [])) 10000 16 []) (entries (38 ∷ [])) (tells 0 1) ∷
    -- ending 7: the step that lacks its input is not; with it an entry is surplus
    mark_row (asking (module_of ("VAR num n;" ∷ []) ("n := 1;" ∷ "TPReadNum n, \"part\";" ∷ [])) 10000 16 []) (entries (38 ∷ [])) (tells 1 1) ∷
    mark_row (asking (module_of ("VAR num n;" ∷ []) ("n := 1;" ∷ "TPReadNum n, \"part\";" ∷ [])) 10000 16 []) (entries (38 ∷ 46 ∷ [])) (tells 0 1) ∷
    -- ending 6, at the first step
    mark_row (tray_with 10000 1) [] (tells 1 0) ∷
    -- refused: by 8, by 2
    mark_row (asking [] 10000 16 []) [] none ∷
    mark_row (tray_with 10000 65) (entries tray_steps) none ∷ []
