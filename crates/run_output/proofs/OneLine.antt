-- A line behind what is written: the state then, and steps that add one.
use mathlib.Core.Path.{◌≡◌, refl, sym, ap, ap₂, subst, ◌∙◌}
use mathlib.Core.Bool.{true, false}
use mathlib.Core.List.{List, [], ◌∷◌, ◌++◌}
use mathlib.Core.Option.{none}
use Prim.Native.Nat.{ℕ, suc, ◌+◌, ◌-◌, ◌*◌, ◌/◌, ◌%◌, ◌<◌, ◌≤◌}
use native.Mathlib.Omega.{arith}
use lib.ListN.{length, get_or, take, drop, set, length-append, length-set}
use lib.Seq.{length-take-le, take_at, get_or-set_same, get_or-set_other}
use lib.Dec.{leb}
use lib.IntN.{ℤ, pos}
use mir.Syntax.{w64}
use mir.Val.{SFits, to_z}
use mir.Facts.{to_z_pos}
use borrow.Author.Tests.{le-leb, lt-leb}
use Rattle.laws.proofs.Lists.{replaced-length, replaced-drop}
use Rattle.std.specs.Prelude.{if◌then◌else◌}
use Rattle.paper.specs.Words.{LF, word_limit}
use Rattle.paper.specs.Steps.{Program, write}
use Rattle.paper.specs.States.{State, Rooms, Effect, made, lacking, with_output, go_to, on_top}
use Rattle.paper.specs.Running.{perform, adding, writing}
use Rattle.store_cells.specs.Cells.{cells_of}
use Rattle.store_cells.proofs.Laws.{length-words}
use Rattle.code.specs.Cells.{op_at, value_at, link_at}
use Rattle.code.specs.Steps.{Head, a_write}
use Rattle.code.specs.Windows.{written_cell, used_cell, count_at, written_in, state_in}
use Rattle.store_reading.specs.Reading.{cell_values}
use Rattle.run_machine.specs.Live.{Live}
use Rattle.run_machine.specs.Machine.{Here, LastWindow, Lends, Comes, goes_on, lacks, lacked_by, KeepsRun, Stepped, effect_at}
use Rattle.run_output.specs.Output.{count_in, with_count, characters_at, Spells, line_at, HasRoom, Added, Writes, Wrote}
use Rattle.run_machine.proofs.States.{roomy, count_same, goes_to, written-cells}
use Rattle.run_machine.proofs.Living.{live-next, live-run}
use Rattle.run_machine.proofs.Actions
use Rattle.run_machine.proofs.Current as here
use Rattle.layout.specs.Parts.{characters_part}
use Rattle.store_evaluation.specs.Parts.{addresses}
use Rattle.layout.specs.Answers.{room_lacked}
use Rattle.layout.specs.Named.{store_bytes}
use Rattle.paper.specs.Answer.{store_words}
use Rattle.run_machine.proofs.Current.{code_here, step_here, action-here, place_here, effect-here, small-name, named-after}

-- ---- what is written
pub count-is : (P : Program) (R : List Head) (X : List ℕ) → written_in P R X ≡ count_in X
unfolding written_in
count-is P R X = refl

pub split-is : (n : ℕ) → n % cell_values + cell_values * (n / cell_values) ≡ n
split-is n = omega arith

-- the two cells of a count
module _ (X : List ℕ) (c n : ℕ) (long : suc c < length X) where
  pub count_set : count_at (with_count X c n) c ≡ n
  count_set =
      let Z = set X c (n % cell_values) in
      let a : get_or (with_count X c n) c 0 ≡ n % cell_values = get_or-set_other Z (suc c) c (n / cell_values) 0 (λ q. omega arith) ∙ get_or-set_same X c (n % cell_values) 0 (omega arith) in
      let b : get_or (with_count X c n) (suc c) 0 ≡ n / cell_values = get_or-set_same Z (suc c) (n / cell_values) 0 (omega (arith, length-set X c (n % cell_values))) in
      ap₂ (λ (x y : ℕ). x + cell_values * y) a b ∙ split-is n

pub count_kept : (X : List ℕ) (c n k : ℕ) → (k ≡ c → ⊥) → (k ≡ suc c → ⊥) → get_or (with_count X c n) k 0 ≡ get_or X k 0
count_kept X c n k x y = get_or-set_other (set X c (n % cell_values)) (suc c) k (n / cell_values) 0 y ∙ get_or-set_other X c k (n % cell_values) 0 x

-- ---- a line was added
module _ (values after out out' line : List ℕ) (a : Added values after out out' line) (long : length values ≡ store_bytes) (fits : count_in (cells_of values) + length line ≤ length out) where
  words_long : length (cells_of values) ≡ store_words
  words_long = omega (arith, length-words values)

  pub added-count : count_in (cells_of after) ≡ count_in (cells_of values) + length line
  added-count = ap count_in a.count.words ∙ count_set (cells_of values) written_cell (count_in (cells_of values) + length line) (omega (arith, words_long))

  pub added-kept : (c : ℕ) → (c ≡ written_cell → ⊥) → (c ≡ suc written_cell → ⊥) → get_or (cells_of after) c 0 ≡ get_or (cells_of values) c 0
  added-kept c x y = ap (λ (z : List ℕ). get_or z c 0) a.count.words ∙ count_kept (cells_of values) written_cell (count_in (cells_of values) + length line) c x y

  pub added-used : count_at (cells_of after) used_cell ≡ count_at (cells_of values) used_cell
  added-used =
      count_same (cells_of values) (cells_of after) used_cell (added-kept used_cell (λ q. omega arith) (λ q. omega arith)) (added-kept (suc used_cell) (λ q. omega arith) (λ q. omega arith))

  pub added-long : length out' ≡ length out
  added-long = ap length a.bytes ∙ replaced-length out line (count_in (cells_of values)) (length line) refl fits

  pub added-past : drop (count_in (cells_of after)) out' ≡ drop (count_in (cells_of after)) out
  added-past =
      ap (drop (count_in (cells_of after))) a.bytes
      ∙ replaced-drop out line (count_in (cells_of values)) (length line) refl fits (count_in (cells_of after)) (omega (arith, added-count))

  taken : take (count_in (cells_of values) + length line) out' ≡ take (count_in (cells_of values)) out ++ line
  taken =
      let w = count_in (cells_of values) in
      ap (take (w + length line)) a.bytes
      ∙ take_at (take w out ++ line) (drop (w + length line) out) (w + length line) (length-append (take w out) line ∙ ap (λ (k : ℕ). k + length line) (length-take-le w out (omega arith)))

  -- the step that comes next, with the line
  module _ (code : List ℕ) (base i : ℕ) (h : Here code values base i) where
    pub added-live : (n : ℕ) → Live h.P h.R (cells_of values) h.d n → Live h.P h.R (cells_of after) h.d n
    added-live n l =
        let k = count_in (cells_of values) + length line in
        subst (λ (x : List ℕ). Live h.P h.R x h.d n) (sym a.count.words)
        (live-run h.P h.R (set (cells_of values) written_cell (k % cell_values)) h.d (suc written_cell) (k / cell_values) n
        (live-run h.P h.R (cells_of values) h.d written_cell (k % cell_values) n l (omega arith) (omega arith))
        (omega arith) (omega arith))

    pub added-state : (steps : ℕ) → state_in h.P h.R (cells_of after) h.d i steps out'
        ≡ with_output ((state_in h.P h.R (cells_of values) h.d i steps out).output ++ line) (state_in h.P h.R (cells_of values) h.d i steps out)
    unfolding state_in written_in
    added-state steps =
        let k = count_in (cells_of values) + length line in
        ap (λ (x : List ℕ). state_in h.P h.R x h.d i steps out') a.count.words
        ∙ written-cells h.P h.R (cells_of values) h.d (roomy h) (k % cell_values) (k / cell_values) i steps out out'
        ∙ ap (λ (o : List ℕ). with_output o (state_in h.P h.R (cells_of values) h.d i steps out)) (ap (λ (n : ℕ). take n out') (split-is k) ∙ taken)

-- ---- where there is room
module _ (code values : List ℕ) (base i : ℕ) (h : Here code values base i) (out : List ℕ) (w : count_in (cells_of values) ≤ length out) (rooms : Rooms) (room : rooms.output ≡ length out) (place steps : ℕ) (line : List ℕ) (go : State → Effect) where
  output-length : length (state_in h.P h.R (cells_of values) h.d i steps out).output ≡ count_in (cells_of values)
  unfolding state_in written_in
  output-length = length-take-le (count_in (cells_of values)) out w

  pub adding-fits : count_in (cells_of values) + length line ≤ length out
      → adding rooms place line (state_in h.P h.R (cells_of values) h.d i steps out) go
      ≡ go (with_output ((state_in h.P h.R (cells_of values) h.d i steps out).output ++ line) (state_in h.P h.R (cells_of values) h.d i steps out))
  unfolding adding
  adding-fits f =
      let s = state_in h.P h.R (cells_of values) h.d i steps out in
      let t : leb (length s.output + length line) rooms.output ≡ true = le-leb (length s.output + length line) rooms.output (omega (arith, output-length)) in
      ap (λ b. if b then go (with_output (s.output ++ line) s) else lacking 8 place) t

  pub adding-lacks : length out < count_in (cells_of values) + length line → adding rooms place line (state_in h.P h.R (cells_of values) h.d i steps out) go ≡ lacking 8 place
  unfolding adding
  adding-lacks f =
      let s = state_in h.P h.R (cells_of values) h.d i steps out in
      let t : leb (length s.output + length line) rooms.output ≡ false = lt-leb (length s.output + length line) rooms.output (omega (arith, output-length)) in
      ap (λ b. if b then go (with_output (s.output ++ line) s) else lacking 8 place) t

-- ---- a step that writes nothing, as any step
module _ (text code values after inputs out : List ℕ) (base last i : ℕ) (r : ℤ) (long : length after ≡ length values)
    (kept : KeepsRun (cells_of values) (cells_of after)) (w : count_in (cells_of values) ≤ length out) where
  same_count : count_in (cells_of after) ≡ count_in (cells_of values)
  same_count = ap₂ (λ (x y : ℕ). x + cell_values * y) (kept written_cell (omega arith) (omega arith)) (kept (suc written_cell) (omega arith) (omega arith))

  pub silent : ((h : Here code values base i) → h.text ≡ text → (rooms : Rooms) → LastWindow rooms last → Lends rooms inputs out → (steps : ℕ) →
      Comes h.P h.R (cells_of code) h.offset h.d i steps (cells_of values) (cells_of after) out out (effect_at h.P h.R rooms (cells_of values) h.d i steps out) r)
      → Stepped text code values after inputs out out base last i r
  silent d = record {
    long = long;
    out-long = refl;
    does = d;
    grows = λ P R. rw (count-is P R (cells_of after), count-is P R (cells_of values)) (omega (arith, same_count));
    written = λ P R. rw (count-is P R (cells_of after), same_count) w;
    past = λ P R. refl;
  }

-- ---- a step that adds a line
module _ (text code values after inputs out out' line : List ℕ) (base last i : ℕ) (r : ℤ) (a : Added values after out out' line) (long : length values ≡ store_bytes)
    (fits : count_in (cells_of values) + length line ≤ length out) where
  pub lined : ((h : Here code values base i) → h.text ≡ text → (rooms : Rooms) → LastWindow rooms last → Lends rooms inputs out → (steps : ℕ) →
      Comes h.P h.R (cells_of code) h.offset h.d i steps (cells_of values) (cells_of after) out out' (effect_at h.P h.R rooms (cells_of values) h.d i steps out) r)
      → Stepped text code values after inputs out out' base last i r
  lined d = record {
    long = a.count.long;
    out-long = added-long values after out out' line a long fits;
    does = d;
    grows = λ P R. rw (count-is P R (cells_of after), count-is P R (cells_of values)) (omega (arith, added-count values after out out' line a long fits));
    written = λ P R. rw (count-is P R (cells_of after), added-count values after out out' line a long fits) fits;
    past = λ P R. rw (count-is P R (cells_of after)) (added-past values after out out' line a long fits);
  }

-- ---- answers
pub no_room : (i : ℕ) → i < word_limit → to_z w64 (room_lacked + i) ≡ pos (lacked_by 8 + i)
unfolding lacked_by
no_room i h = to_z_pos w64 {n = room_lacked + i} (omega arith)

pub no-room-fits : (i : ℕ) → i < word_limit → SFits w64 (pos (room_lacked + i))
no-room-fits i h = record { sfits = omega arith }

module _ (code values : List ℕ) (base i : ℕ) (h : Here code values base i) where
  pub low_step : i < word_limit
  low_step = (small-name code values base i h i h.live.named).1

  -- what lacks room
  pub lacks-room : (steps : ℕ) (out : List ℕ) (E : Effect) → E ≡ lacking 8 (step_here code values base i h).place
      → Comes h.P h.R (cells_of code) h.offset h.d i steps (cells_of values) (cells_of values) out out E (to_z w64 (room_lacked + i))
  lacks-room steps out E e =
      lacks 8 i (step_here code values base i h).place (no_room i low_step) (omega arith) (omega arith) (omega (arith, low_step)) (place_here code values base i h) refl refl e

  -- what goes on after a line
  pub goes-lined : (after out out' line : List ℕ) → Added values after out out' line → count_in (cells_of values) + length line ≤ length out → (steps n : ℕ) (E : Effect)
      → n ≡ (step_here code values base i h).after
      → E ≡ made (on_top (go_to (step_here code values base i h).after) (with_output ((state_in h.P h.R (cells_of values) h.d i steps out).output ++ line) (state_in h.P h.R (cells_of values) h.d i steps out)))
      → Comes h.P h.R (cells_of code) h.offset h.d i steps (cells_of values) (cells_of after) out out' E (to_z w64 n)
  goes-lined after out out' line a fits steps n E en e =
      let s = step_here code values base i h in
      let na = named-after code values base i h in
      goes_on n (to_z_pos w64 {n = n} (omega (arith, (small-name code values base i h s.after na).1)))
      (subst (Live h.P h.R (cells_of after) h.d) (sym en)
      (added-live values after out out' line a h.values-size fits code base i h s.after (live-next h.P h.R (cells_of values) h.d i s.after h.live na)))
      (e ∙ ap made
      (ap (on_top (go_to s.after)) (sym (added-state values after out out' line a h.values-size fits code base i h steps))
      ∙ sym (goes_to h.P h.R (cells_of after) h.d i steps out' s.after)
      ∙ sym (ap (λ (k : ℕ). state_in h.P h.R (cells_of after) h.d k steps out') en)))

-- ---- TPWrite
module _ (code values : List ℕ) (base i : ℕ) (h : Here code values base i) (o : op_at (cells_of code) i ≡ a_write) where
  reads : Actions.Writes (here.m code values base i h) (here.n code values base i h) (code_here code values base i h).function h.text h.R (cells_of code) i (step_here code values base i h).after (step_here code values base i h).does
  reads = Actions.reads-write _ _ _ _ _ _ i _ _ (action-here code values base i h) o

  says : Actions.Characters (here.m code values base i h) (here.n code values base i h) (code_here code values base i h).function h.text h.R (cells_of code) (i + 1) reads.s
  says = Actions.characters _ _ _ _ _ _ (i + 1) reads.s reads.says

  s-is : reads.s ≡ characters_at h.text (cells_of code) (i + 1)
  unfolding characters_at
  s-is = says.is

  pub write-spells : Spells h.text code (i + 1)
  write-spells = record { many = says.count ∙ ap length s-is; whole = rw h.code-size }

  pub write-link : (step_here code values base i h).after ≡ link_at (cells_of code) i
  write-link = reads.after_is

  pub write-effect : (rooms : Rooms) (steps : ℕ) (out : List ℕ) → effect_at h.P h.R rooms (cells_of values) h.d i steps out
      ≡ adding rooms (step_here code values base i h).place (line_at h.text (cells_of code) (i + 1)) (state_in h.P h.R (cells_of values) h.d i steps out)
      (λ s. made (on_top (go_to (step_here code values base i h).after) s))
  unfolding perform writing
  write-effect rooms steps out =
      effect-here code values base i h rooms steps out (step_here code values base i h).after (write (characters_at h.text (cells_of code) (i + 1)) none) refl
      (reads.does-is ∙ ap (λ (s : List ℕ). write s none) s-is)

-- ---- each return of `write`
module _ (text code values out : List ℕ) (i : ℕ) (w : Writes text code values out i) where
  op-at : op_at (cells_of code) i ≡ a_write
  op-at = w.op

  pub write_low : i < word_limit
  write_low = low_step code values w.base i w.prints.here

  pub write-in : i * 8 + 8 ≤ length code
  write-in = omega (arith, write_low, w.prints.here.code-size)

  pub write-next : i + 1 < addresses
  write-next = omega (arith, write_low)

  pub write-sum : room_lacked + i < addresses
  write-sum = omega (arith, write_low)

  pub write-fits : SFits w64 (pos (room_lacked + i))
  write-fits = no-room-fits i write_low

  spells-text : Spells text code (i + 1)
  spells-text = subst (λ (t : List ℕ). Spells t code (i + 1)) w.prints.text-is (write-spells code values w.base i w.prints.here w.op)

  module _ (at : ℕ) (ea : at ≡ count_in (cells_of values)) (n : ℕ) (en : n ≡ value_at (cells_of code) (i + 1) / characters_part) where
    line-long : length (line_at text (cells_of code) (i + 1)) ≡ n + 1
    line-long = length-append (characters_at text (cells_of code) (i + 1)) (LF ∷ []) ∙ ap (λ (k : ℕ). k + 1) (sym (en ∙ spells-text.many))

    pub write-lacks : length out - at ≤ n → Wrote text code values values out out i (to_z w64 (room_lacked + i))
    write-lacks g = record {
      steps = λ inputs base last. silent text code values values inputs out base last i (to_z w64 (room_lacked + i)) refl (λ c x y. refl) w.prints.written
          (λ h t rooms lw l steps. lacks-room code values base i h steps out _
          (write-effect code values base i h w.op rooms steps out
          ∙ adding-lacks code values base i h out w.prints.written rooms l.room (step_here code values base i h).place steps (line_at h.text (cells_of code) (i + 1)) _
          (subst (λ (x : List ℕ). length out < count_in (cells_of values) + length (line_at x (cells_of code) (i + 1))) (sym t) (omega (arith, line-long, w.prints.written)))));
    }

    module _ (g : n < length out - at) where
      room : count_in (cells_of values) + length (line_at text (cells_of code) (i + 1)) ≤ length out
      room = omega (arith, line-long)

      pub write-adds : Spells text code (i + 1) × HasRoom values out (line_at text (cells_of code) (i + 1))
      write-adds = (spells-text, record { room = room; cells = omega (arith, w.prints.here.values-size) })

      pub write_done : (after out' : List ℕ) → Added values after out out' (line_at text (cells_of code) (i + 1)) → (l : ℕ) → l ≡ link_at (cells_of code) i
          → Wrote text code values after out out' i (to_z w64 l)
      write_done after out' a l el = record {
        steps = λ inputs base last. lined text code values after inputs out out' (line_at text (cells_of code) (i + 1)) base last i (to_z w64 l) a w.prints.here.values-size room
            (λ h t rooms lw k steps.
            goes-lined code values base i h after out out' (line_at text (cells_of code) (i + 1)) a room steps l _ (el ∙ sym (write-link code values base i h w.op))
            (write-effect code values base i h w.op rooms steps out
            ∙ ap (λ (x : List ℕ). adding rooms (step_here code values base i h).place (line_at x (cells_of code) (i + 1)) (state_in h.P h.R (cells_of values) h.d i steps out) (λ s. made (on_top (go_to (step_here code values base i h).after) s))) t
            ∙ adding-fits code values base i h out w.prints.written rooms k.room (step_here code values base i h).place steps (line_at text (cells_of code) (i + 1)) _ room));
      }
