-- Two value stores that have the same in some cells: what they say alike.
use mathlib.Core.Path.{◌≡◌, refl, ap, ap₂, ◌∙◌}
use mathlib.Core.List.{List, ◌∷◌, ◌++◌, map}
use mathlib.Core.Option.{some}
use Prim.Native.Nat.{ℕ, zero, suc, ◌+◌, ◌<◌, ◌≤◌}
use native.Mathlib.Omega.{arith}
use lib.ListN.{length, get_or, take, drop, set, replicate, length-take, length-drop}
use lib.Seq.{ext_get_or, get_or-take, get_or-drop, get_or-set_other}
use mir.Syntax.{w32}
use mir.Val.{to_z}
use Rattle.paper.specs.Steps.{Code, Program}
use Rattle.paper.specs.States.{Loop, Call, State}
use Rattle.paper.specs.Running.{code_at, idle}
use Rattle.code.specs.Cells.{window_of}
use Rattle.code.specs.Steps.{Head, numbered}
use Rattle.code.specs.Holds.{optionally}
use Rattle.code.specs.Windows.{ends_cell, steps_cell, routine_cell, waits_cell, failed_cell, result_cell, location_in, result_in, loops_from, call_in, waiting}
use Rattle.store_evaluation.specs.Answers.{call_slots}
use Rattle.run_machine.specs.Live.{slots_of_call}

-- ---- cells
abbrev pub Same : (X Y : List ℕ) → (cell : ℕ) → Type 0
Same X Y c = get_or Y c 0 ≡ get_or X c 0

-- the cells from a on that are below b
abbrev pub SameIn : (X Y : List ℕ) → (a b : ℕ) → Type 0
SameIn X Y a b = (c : ℕ) → a ≤ c → c < b → Same X Y c

-- A call is told by so many cells of its window.
abbrev pub call_cells : ℕ
call_cells = suc result_cell

abbrev pub SameCall : (X Y : List ℕ) → (base : ℕ) → Type 0
SameCall X Y base = SameIn X Y base (base + call_cells)

-- one cell written
pub set_same : (X : List ℕ) (c v : ℕ) (j : ℕ) → (j ≡ c → ⊥) → Same X (set X c v) j
set_same X c v j d = get_or-set_other X c j v 0 d

pub set_before : (X : List ℕ) (c v a b : ℕ) → b ≤ c → SameIn X (set X c v) a b
set_before X c v a b h j l m = set_same X c v j (λ q. omega arith)

pub set-behind : (X : List ℕ) (c v a b : ℕ) → c < a → SameIn X (set X c v) a b
set-behind X c v a b h j l m = set_same X c v j (λ q. omega arith)

-- a stretch of cells
pub part_same : (X Y : List ℕ) → length Y ≡ length X → (a n : ℕ) → SameIn X Y a (a + n) → take n (drop a Y) ≡ take n (drop a X)
part_same X Y long a n s =
    ext_get_or 0 (take n (drop a Y)) (take n (drop a X)) (simp (length-take, length-drop) (rw long))
    (λ k h.
    let l : k < n = omega (arith, simp length-take at h) in
    rw (get_or-take n (drop a Y) k 0 l, get_or-take n (drop a X) k 0 l, get_or-drop a Y k 0, get_or-drop a X k 0) (s (a + k) (omega arith) (omega arith)))

-- ---- a call
pub call-eq : (c e : Call) → c.routine ≡ e.routine → c.next ≡ e.next → c.words ≡ e.words → c.loops ≡ e.loops → c.failed ≡ e.failed → c.result ≡ e.result → c ≡ e
call-eq c e a b w l f r = λ j. record { routine = a j; next = b j; words = w j; loops = l j; failed = f j; result = r j }

module _ (P : Program) (R : List Head) where
  -- what a result cell says does not hang on the store
  pub location-any : (X Y : List ℕ) (c : ℕ) → location_in P R Y c ≡ location_in P R X c
  unfolding location_in
  location-any X Y c = refl

  pub result-any : (X Y : List ℕ) (c : ℕ) → result_in P R Y c ≡ result_in P R X c
  unfolding result_in
  result-any X Y zero = refl
  result-any X Y (suc c) = ap some (location-any X Y c)

  pub loops-same : (X Y : List ℕ) (base f k : ℕ) → SameIn X Y (base + ends_cell) (base + routine_cell) → k + f ≤ call_slots → loops_from P R Y base f k ≡ loops_from P R X base f k
  unfolding loops_from
  loops-same X Y base zero k s h = refl
  loops-same X Y base (suc f) k s h =
      ap₂ (λ (l : Loop) (r : List Loop). l ∷ r)
      (λ j. record {
        end = to_z w32 (s (base + ends_cell + k) (omega arith) (omega arith) j);
        step = to_z w32 (s (base + steps_cell + k) (omega arith) (omega arith) j);
      })
      (loops-same X Y base f (suc k) s (omega arith))

  -- the routine whose call stands at `base`
  abbrev pub code_in : (X : List ℕ) → (base : ℕ) → Code
  code_in X base = code_at P (numbered R (get_or X (base + routine_cell) 0))

  module _ (room : (k : ℕ) → slots_of_call (code_at P k) ≤ call_slots) (X Y : List ℕ) (long : length Y ≡ length X) (base : ℕ) (same : Same X Y (base + routine_cell)) where
    pub code_same : code_in Y base ≡ code_in X base
    code_same = ap (λ (r : ℕ). code_at P (numbered R r)) same

    pub words_same : SameIn X Y base (base + call_slots) → take (slots_of_call (code_in Y base)) (drop base Y) ≡ take (slots_of_call (code_in X base)) (drop base X)
    words_same s =
        ap (λ (c : Code). take (slots_of_call c) (drop base Y)) code_same
        ∙ part_same X Y long base (slots_of_call (code_in X base)) (λ c l m. s c l (omega (arith, room (numbered R (get_or X (base + routine_cell) 0)))))

    pub call-loops-same : SameIn X Y (base + ends_cell) (base + routine_cell) → (n : ℕ) → (call_in P R Y base n).loops ≡ (call_in P R X base n).loops
    unfolding call_in
    call-loops-same s n =
        ap (λ (c : Code). replicate (length c.words) idle ++ loops_from P R Y base c.fors (length c.words)) code_same
        ∙ ap (λ (l : List Loop). replicate (length (code_in X base).words) idle ++ l)
        (loops-same X Y base (code_in X base).fors (length (code_in X base).words) s (room (numbered R (get_or X (base + routine_cell) 0))))

    pub result-same : Same X Y (base + result_cell) → (n : ℕ) → (call_in P R Y base n).result ≡ (call_in P R X base n).result
    unfolding call_in
    result-same s n = ap (result_in P R Y) s ∙ result-any X Y (get_or X (base + result_cell) 0)

  module _ (room : (k : ℕ) → slots_of_call (code_at P k) ≤ call_slots) (X Y : List ℕ) (long : length Y ≡ length X) where
    pub call_same : (base n : ℕ) → SameCall X Y base → call_in P R Y base n ≡ call_in P R X base n
    unfolding call_in
    call_same base n s =
        let q : Same X Y (base + routine_cell) = s (base + routine_cell) (omega arith) (omega arith) in
        call-eq (call_in P R Y base n) (call_in P R X base n)
        (ap (numbered R) q)
        refl
        (ap (map (to_z w32)) (words_same room X Y long base q (λ c l m. s c l (omega arith))))
        (call-loops-same room X Y long base q (λ c l m. s c (omega arith) (omega arith)) n)
        (ap optionally (s (base + failed_cell) (omega arith) (omega arith)))
        (result-same room X Y long base q (s (base + result_cell) (omega arith) (omega arith)) n)

    pub waiting-same : (d : ℕ) → ((e : ℕ) → e < d → SameCall X Y (window_of e)) → waiting P R Y d ≡ waiting P R X d
    unfolding waiting
    waiting-same zero s = refl
    waiting-same (suc d) s =
        ap₂ (λ (c : Call) (r : List Call). c ∷ r)
        (ap (call_in P R Y (window_of d)) (s d (omega arith) (window_of d + waits_cell) (omega arith) (omega arith)) ∙ call_same (window_of d) (get_or X (window_of d + waits_cell) 0) (s d (omega arith)))
        (waiting-same d (λ e h. s e (omega arith)))

pub state-eq : (s t : State) → s.words ≡ t.words → s.calls ≡ t.calls → s.steps ≡ t.steps → s.errno ≡ t.errno → s.output ≡ t.output → s.used ≡ t.used → s ≡ t
state-eq s t w c n e o u = λ j. record { words = w j; calls = c j; steps = n j; errno = e j; output = o j; used = u j }
