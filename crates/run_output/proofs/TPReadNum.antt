-- TPReadNum: its line, and the next input.
use mathlib.Core.Path.{◌≡◌, refl, sym, ap, ap₂, subst, ◌∙◌}
use mathlib.Core.Bool.{Bool, true, false}
use mathlib.Core.List.{List, [], ◌∷◌, ◌++◌, map}
use Prim.Native.Nat.{ℕ, suc, ◌+◌, ◌-◌, ◌*◌, ◌/◌, ◌%◌, ◌<◌, ◌≤◌}
use native.Mathlib.Omega.{arith}
use lib.Dec.{T}
use lib.ListN.{length, get_or, drop, set, length-append, length-set, length-map, drop_of_length-le, get_or-map}
use lib.Seq.{drop-cons}
use lib.IntN.{ℤ, pos, nat_abs}
use lib.Signed.{lt_z, le_z, non_neg}
use mir.Syntax.{w32, w64}
use mir.Val.{Fits, SFits, to_z, of_z}
use mir.Facts.{to_z-of_z, to_z_pos}
use Rattle.paper.specs.Words.{LF, word_limit}
use Rattle.paper.specs.Numbers.{num, Value, value, error, ranged, overflow}
use Rattle.paper.specs.Terms.{Ref, Memory, at}
use Rattle.paper.specs.Steps.{read}
use Rattle.paper.specs.States.{Location, location_of, State, Rooms, Effect, made, failing, lacking, with_output, with_input, go_to, on_top, store_at, memory_of, with_value, with_spot}
use Rattle.paper.specs.Running.{perform, adding, taking, read_num}
use Rattle.store_numbers.proofs.Whole as whole
use Rattle.store_cells.specs.Cells.{cells_of}
use Rattle.store_cells.proofs.Laws.{length-words}
use Rattle.code.specs.Cells.{window_of, op_at, value_at, link_at}
use Rattle.code.specs.Spans.{memory_in}
use Rattle.code.specs.Windows.{routine_cell, written_cell, used_cell, count_at, state_in}
use Rattle.store_reading.specs.Reading.{cell_values}
use Rattle.store_evaluation.specs.Answers.{first_error, Stores}
use Rattle.run_machine.specs.Live.{Live, code_of_call, slots_of_call}
use Rattle.run_machine.specs.Machine.{Here, LastWindow, Lends, Comes, goes_on, lacks, lacked_by, KeepsRun, Stepped, effect_at, Says}
use Rattle.run_machine.specs.Machine as machine
use Rattle.run_targets.specs.Targets.{Target, Spotted, Tells, RefFits, ref_cell, spot_in}
use Rattle.run_output.specs.Output.{count_in, characters_at, Spells, line_at, with_count, HasRoom, Added, Takes, Took, input_at, Prints, WasRead}
use Rattle.run_machine.proofs.Actions
use Rattle.run_machine.proofs.Agreeing.{Same}
use Rattle.run_machine.proofs.States.{Roomy, roomy, count_same, depth_is, goes_to, used-cells}
use Rattle.run_machine.proofs.Living.{live-next, live-run, routine-code}
use Rattle.run_targets.proofs.References.{spot-found, spot-lost, ref-inside, ref-word, ref-live, ref-kept}
use Rattle.run_targets.proofs.TargetStores.{memory-is}
use Rattle.run_targets.proofs.TargetWords as targeting
use Rattle.run_machine.proofs.Current as here
use Rattle.run_machine.proofs.Current.{code_here, step_here, state_here, call_here, counts-here, action-here, place_here, effect-here, whole_here, stores-here, small-name, small-next, named-after, told-error, told-value}
use Rattle.code.specs.Steps.{a_read}
use Rattle.layout.specs.Parts.{characters_part}
use Rattle.store_evaluation.specs.Parts.{addresses}
use Rattle.layout.specs.Answers.{input_lacked, room_lacked}
use Rattle.layout.specs.Rules.{no_input}
use Rattle.paper.specs.Answer.{store_words}
use Rattle.run_output.proofs.OneLine.{count-is, split-is, count_kept, low_step, silent, added-count, added-kept, added-used, added-long, added-past, added-live, added-state, adding-fits, adding-lacks, lacks-room, no-room-fits}

-- ---- the step, by the cells
module _ (code values : List ℕ) (base i : ℕ) (h : Here code values base i) (o : op_at (cells_of code) i ≡ a_read) where
  pub reads : Actions.ReadsNum (here.m code values base i h) (here.n code values base i h) (code_here code values base i h).function h.text h.R (cells_of code) i (step_here code values base i h).after (step_here code values base i h).does
  reads = Actions.reads-read _ _ _ _ _ _ i _ _ (action-here code values base i h) o

  says : Actions.Characters (here.m code values base i h) (here.n code values base i h) (code_here code values base i h).function h.text h.R (cells_of code) (value_at (cells_of code) i) reads.s
  says = Actions.characters _ _ _ _ _ _ (value_at (cells_of code) i) reads.s reads.says

  s-is : reads.s ≡ characters_at h.text (cells_of code) (value_at (cells_of code) i)
  unfolding characters_at
  s-is = says.is

  spells : (s : ℕ) → s ≡ value_at (cells_of code) i → Spells h.text code s
  spells s e = rw e (record { many = says.count ∙ ap length s-is; whole = whole_here code values base i h })

  target-here : Target code (i + 1)
  target-here = record {
    c = counts-here code values base i h;
    function = (code_here code values base i h).function;
    text = h.text;
    R = h.R;
    s = reads.t;
    next = reads.j;
    reads = reads.target;
    whole = whole_here code values base i h;
    inside = omega (arith, small-next code values base i h i h.live.named, h.code-size);
  }

  read-effect : (s : ℕ) → s ≡ value_at (cells_of code) i → (rooms : Rooms) (steps : ℕ) (out : List ℕ) → effect_at h.P h.R rooms (cells_of values) h.d i steps out
      ≡ with_spot (memory_of (state_here code values base i h rooms steps out) (call_here code values base i h rooms steps out)) reads.t (state_here code values base i h rooms steps out)
      (λ l. adding rooms (step_here code values base i h).place (line_at h.text (cells_of code) s) (state_here code values base i h rooms steps out)
      (λ s'. taking (step_here code values base i h).place (step_here code values base i h).after l (drop (state_here code values base i h rooms steps out).used rooms.inputs) s'))
  unfolding perform read_num
  read-effect s e rooms steps out =
      effect-here code values base i h rooms steps out (step_here code values base i h).after (read reads.t (characters_at h.text (cells_of code) s)) refl
      (reads.does-is ∙ ap (read reads.t) (s-is ∙ ap (characters_at h.text (cells_of code)) (sym e)))

  module _ (k : ℤ) (sp : Spotted code values base (i + 1) k) where
    tells : Tells (here.m code values base i h) (here.n code values base i h) base (spot_in (memory_in (here.m code values base i h) (here.n code values base i h) (cells_of values) base) reads.t) k
    tells = sp.is (counts-here code values base i h) (code_here code values base i h).function h.text h.R reads.t reads.j reads.target

    -- its index fails
    read-lost : lt_z k (pos first_error) ≡ false → (s : ℕ) → s ≡ value_at (cells_of code) i → (rooms : Rooms) (steps : ℕ) (out : List ℕ)
        → Comes h.P h.R (cells_of code) h.offset h.d i steps (cells_of values) (cells_of values) out out (effect_at h.P h.R rooms (cells_of values) h.d i steps out) k
    read-lost g s es rooms steps out =
        let S = state_here code values base i h rooms steps out in
        let M = memory_of S (call_here code values base i h rooms steps out) in
        let q = targeting.told-error (here.m code values base i h) (here.n code values base i h) base _ k h.holds.room (here.routine-holds code values base i h).room (omega (arith, h.base-is, h.deep)) tells g in
        machine.fails q.0 q.3 q.2 h.live
        (read-effect s es rooms steps out
        ∙ spot-lost M S (λ l. adding rooms (step_here code values base i h).place (line_at h.text (cells_of code) s) S
        (λ s'. taking (step_here code values base i h).place (step_here code values base i h).after l (drop S.used rooms.inputs) s')) reads.t q.0
        (ap (λ (N : Memory). spot_in N reads.t) (memory-is code values base i h rooms steps out) ∙ q.1))

    module _ (g : lt_z k (pos first_error) ≡ true) where
      pub record Aimed : Type 0 where
        pub w : Ref
        pub is : spot_in (memory_in (here.m code values base i h) (here.n code values base i h) (cells_of values) base) reads.t ≡ at w
        pub fits : RefFits (here.m code values base i h) (here.n code values base i h) w 1
        pub cell : k ≡ pos (ref_cell (window_of h.d) w)

      pub aimed : Aimed
      aimed =
          let q = targeting.told-less (here.m code values base i h) (here.n code values base i h) base _ k tells g in
          record { w = q.0; is = q.1; fits = q.2; cell = q.3 ∙ ap (λ (b : ℕ). pos (ref_cell b q.0)) h.base-is }

      found-effect : (s : ℕ) → s ≡ value_at (cells_of code) i → (rooms : Rooms) (steps : ℕ) (out : List ℕ) → effect_at h.P h.R rooms (cells_of values) h.d i steps out
          ≡ adding rooms (step_here code values base i h).place (line_at h.text (cells_of code) s) (state_here code values base i h rooms steps out)
          (λ s'. taking (step_here code values base i h).place (step_here code values base i h).after (location_of (suc h.d) aimed.w) (drop (state_here code values base i h rooms steps out).used rooms.inputs) s')
      found-effect s es rooms steps out =
          let S = state_here code values base i h rooms steps out in
          let M = memory_of S (call_here code values base i h rooms steps out) in
          let go : Location → Effect = λ l. adding rooms (step_here code values base i h).place (line_at h.text (cells_of code) s) S
          (λ s'. taking (step_here code values base i h).place (step_here code values base i h).after l (drop S.used rooms.inputs) s') in
          read-effect s es rooms steps out
          ∙ spot-found M S go reads.t aimed.w (ap (λ (N : Memory). spot_in N reads.t) (memory-is code values base i h rooms steps out) ∙ aimed.is)
          ∙ ap (λ (n : ℕ). go (location_of n aimed.w)) (depth_is h.P h.R (cells_of values) h.d i steps out)

-- ---- the inputs
module _ (inputs : List ℕ) (used : ℕ) where
  pub no-input : length inputs / 4 ≤ used → drop used (map (to_z w32) (cells_of inputs)) ≡ []
  no-input h = drop_of_length-le (map (to_z w32) (cells_of inputs)) {i = used} (omega (arith, length-map (cells_of inputs) (to_z w32), length-words inputs))

  pub next-input : used < length inputs / 4 → drop used (map (to_z w32) (cells_of inputs)) ≡ input_at inputs used ∷ drop (suc used) (map (to_z w32) (cells_of inputs))
  next-input h =
      drop-cons (map (to_z w32) (cells_of inputs)) used (to_z w32 0) (omega (arith, length-map (cells_of inputs) (to_z w32), length-words inputs))
      ∙ ap (λ (z : ℤ). z ∷ drop (suc used) (map (to_z w32) (cells_of inputs))) (get_or-map (to_z w32) (cells_of inputs) used 0)

taking-none : (place after : ℕ) (l : Location) (zs : List ℤ) (s : State) → zs ≡ [] → taking place after l zs s ≡ lacking 7 place
unfolding taking
taking-none place after l zs s e = ap (λ (y : List ℤ). taking place after l y s) e

module _ (place after : ℕ) (l : Location) (z : ℤ) (rest zs : List ℤ) (s : State) (e : zs ≡ z ∷ rest) where
  taking-next : taking place after l zs s ≡ with_value (ranged num z) (with_input s) (λ v. made (on_top (go_to after) (store_at l v (with_input s))))
  unfolding taking
  taking-next = ap (λ (y : List ℤ). taking place after l y s) e

  pub taking-in : ranged num z ≡ value z → taking place after l zs s ≡ made (on_top (go_to after) (store_at l z (with_input s)))
  unfolding with_value
  taking-in q = taking-next ∙ ap (λ (v : Value). with_value v (with_input s) (λ v. made (on_top (go_to after) (store_at l v (with_input s))))) q

  pub taking-out : ranged num z ≡ error overflow → taking place after l zs s ≡ failing overflow (with_input s)
  unfolding with_value
  taking-out q = taking-next ∙ ap (λ (v : Value). with_value v (with_input s) (λ v. made (on_top (go_to after) (store_at l v (with_input s))))) q

-- ---- the line was added, and the input is counted
module _ (code values : List ℕ) (base i : ℕ) (h : Here code values base i) (mid out out' line : List ℕ) (a : Added values mid out out' line)
    (fits : count_in (cells_of values) + length line ≤ length out) (used : ℕ) (eu : used ≡ count_at (cells_of values) used_cell) where
  abbrev Y : List ℕ
  Y = with_count (cells_of mid) used_cell (used + 1)

  mid-long : length (cells_of mid) ≡ store_words
  mid-long = omega (arith, length-words mid, a.count.long, h.values-size)

  mid-roomy : Roomy h.P (cells_of mid) h.d
  mid-roomy = record { long = mid-long; deep = h.deep; words = (roomy h).words; calls = (roomy h).calls }

  pub Y-roomy : Roomy h.P Y h.d
  Y-roomy = record { long = length-set (set (cells_of mid) used_cell ((used + 1) % cell_values)) (suc used_cell) ((used + 1) / cell_values) ∙ length-set (cells_of mid) used_cell ((used + 1) % cell_values) ∙ mid-long; deep = h.deep; words = (roomy h).words; calls = (roomy h).calls }

  counted-state : (steps : ℕ) → state_in h.P h.R Y h.d i steps out'
      ≡ with_input (with_output ((state_in h.P h.R (cells_of values) h.d i steps out).output ++ line) (state_in h.P h.R (cells_of values) h.d i steps out))
  counted-state steps =
      used-cells h.P h.R (cells_of mid) h.d mid-roomy ((used + 1) % cell_values) ((used + 1) / cell_values) i steps out'
      (split-is (used + 1) ∙ ap (λ (x : ℕ). x + 1) (eu ∙ sym (added-used values mid out out' line a h.values-size fits)))
      ∙ ap with_input (added-state values mid out out' line a h.values-size fits code base i h steps)

  counted-live : (n : ℕ) → Live h.P h.R (cells_of values) h.d n → Live h.P h.R Y h.d n
  counted-live n l =
      live-run h.P h.R (set (cells_of mid) used_cell ((used + 1) % cell_values)) h.d (suc used_cell) ((used + 1) / cell_values) n
      (live-run h.P h.R (cells_of mid) h.d used_cell ((used + 1) % cell_values) n (added-live values mid out out' line a h.values-size fits code base i h n l) (omega arith) (omega arith))
      (omega arith) (omega arith)

  same-routine : Same (cells_of values) Y (window_of h.d + routine_cell)
  same-routine =
      count_kept (cells_of mid) used_cell (used + 1) (window_of h.d + routine_cell) (λ e. omega arith) (λ e. omega arith)
      ∙ added-kept values mid out out' line a h.values-size fits (window_of h.d + routine_cell) (λ e. omega arith) (λ e. omega arith)

  fits-now : (w : Ref) → RefFits (here.m code values base i h) (here.n code values base i h) w 1 → RefFits (length h.P.words) (slots_of_call (code_of_call h.P h.R Y h.d)) w 1
  fits-now w f = subst (λ c. RefFits (length h.P.words) (slots_of_call c) w 1) (sym (routine-code h.P h.R (cells_of values) Y h.d same-routine)) f

  -- as any step, where the count of bytes is that of the line
  module _ (text inputs after : List ℕ) (last : ℕ) (r : ℤ) (long : length after ≡ length mid)
      (kept : KeepsRun Y (cells_of after)) where
    same-cell : (c : ℕ) → written_cell ≤ c → c ≤ suc written_cell → Same (cells_of mid) (cells_of after) c
    same-cell c x y = kept c x (omega arith) ∙ count_kept (cells_of mid) used_cell (used + 1) c (λ e. omega arith) (λ e. omega arith)

    same_count : count_in (cells_of after) ≡ count_in (cells_of mid)
    same_count = count_same (cells_of mid) (cells_of after) written_cell (same-cell written_cell (omega arith) (omega arith)) (same-cell (suc written_cell) (omega arith) (omega arith))

    pub consumed : ((h : Here code values base i) → h.text ≡ text → (rooms : Rooms) → LastWindow rooms last → Lends rooms inputs out → (steps : ℕ) →
        Comes h.P h.R (cells_of code) h.offset h.d i steps (cells_of values) (cells_of after) out out' (effect_at h.P h.R rooms (cells_of values) h.d i steps out) r)
        → Stepped text code values after inputs out out' base last i r
    consumed d = record {
      long = long ∙ a.count.long;
      out-long = added-long values mid out out' line a h.values-size fits;
      does = d;
      grows = λ P R. rw (count-is P R (cells_of after), count-is P R (cells_of values)) (omega (arith, same_count, added-count values mid out out' line a h.values-size fits));
      written = λ P R. rw (count-is P R (cells_of after), same_count, added-count values mid out out' line a h.values-size fits) fits;
      past = λ P R. rw (count-is P R (cells_of after), same_count) (added-past values mid out out' line a h.values-size fits);
    }

-- ---- each return of `read`
module _ (text code values out : List ℕ) (base i s : ℕ) (p : Prints text code values out base i) (q : Says code i a_read s) where
  pub read_low : i < word_limit
  read_low = low_step code values base i p.here

  pub read-in : i * 8 + 8 ≤ length code
  read-in = omega (arith, read_low, p.here.code-size)

  pub read_next : i + 1 < addresses
  read_next = omega (arith, read_low)

  pub read-sum : room_lacked + i < addresses
  read-sum = omega (arith, read_low)

  pub read-sum-7 : input_lacked + i < addresses
  read-sum-7 = omega (arith, read_low)

  pub read_answer : SFits w64 (pos (room_lacked + i))
  read_answer = no-room-fits i read_low

  pub read-answer-7 : SFits w64 (pos (input_lacked + i))
  read-answer-7 = let l = read_low in record { sfits = omega arith }

  pub read-target : Stores values base × Target code (i + 1)
  read-target = (stores-here code values base i p.here, target-here code values base i p.here q.op-is)

  spells-text : Spells text code s
  spells-text = subst (λ (x : List ℕ). Spells x code s) p.text-is (spells code values base i p.here q.op-is s q.value-is)

  module _ (inputs : List ℕ) (k : ℤ) (fk : SFits w64 k) (sp : Spotted code values base (i + 1) k) where
    pub read-fails : le_z (pos first_error) (whole.read k) ≡ true → WasRead text code values values inputs out out base i (whole.read k)
    read-fails g = rw (to_z-of_z fk) (record {
      steps = λ last. silent text code values values inputs out base last i k refl (λ c x y. refl) p.written
          (λ h x rooms lw l steps. read-lost code values base i h q.op-is k sp (told-error k fk g) s q.value-is rooms steps out);
    })

-- What is known of a TPReadNum at word i that has a target: its cell, k, how many bytes are written and how many characters its string has.
pub record Asking : Type 0 where
  pub text : List ℕ
  pub code : List ℕ
  pub values : List ℕ
  pub inputs : List ℕ
  pub out : List ℕ
  pub base : ℕ
  pub i : ℕ
  pub s : ℕ
  pub reads : Prints text code values out base i
  pub says : Says code i a_read s
  pub k : ℤ
  pub fits : SFits w64 k
  pub spot : Spotted code values base (i + 1) k
  pub found : le_z (pos first_error) (whole.read k) ≡ false
  pub at : ℕ
  pub at-is : at ≡ count_in (cells_of values)
  pub n : ℕ
  pub n-is : n ≡ value_at (cells_of code) s / characters_part

-- it, from the facts that the steps before tell
abbrev pub asking-by : (text code values inputs out : List ℕ) (base i s : ℕ) (reads : Prints text code values out base i) (says : Says code i a_read s) (k : ℤ)
    → SFits w64 k → Spotted code values base (i + 1) k → le_z (pos first_error) (whole.read k) ≡ false → (written : ℕ) → written ≡ count_in (cells_of values)
    → (n : ℕ) → n ≡ value_at (cells_of code) s / characters_part → Asking
asking-by text code values inputs out base i s reads says k fits spot found written written-is n n-is = record {
  text = text;
  code = code;
  values = values;
  inputs = inputs;
  out = out;
  base = base;
  i = i;
  s = s;
  reads = reads;
  says = says;
  k = k;
  fits = fits;
  spot = spot;
  found = found;
  at = written;
  at-is = written-is;
  n = n;
  n-is = n-is;
}

module _ (here : Asking) where
  open here use {text, code, values, inputs, out, base, i, s, reads as p, says as q, k, fits as fk, spot as sp, found as g, at, at-is as ea, n, n-is as en}

  aim : (h : Here code values base i) → Aimed code values base i h q.op-is k sp (told-value k fk g)
  aim h = aimed code values base i h q.op-is k sp (told-value k fk g)

  abbrev line : List ℕ
  line = line_at text (cells_of code) s

  line-long : length line ≡ n + 1
  line-long = length-append (characters_at text (cells_of code) s) (LF ∷ []) ∙ ap (λ (k : ℕ). k + 1) (sym (en ∙ (spells-text text code values out base i s p q).many))

  abbrev takes-on : (h : Here code values base i) (rooms : Rooms) (steps : ℕ) → State → Effect
  takes-on h rooms steps s' =
      taking (step_here code values base i h).place (step_here code values base i h).after (location_of (suc h.d) (aim h).w) (drop (state_here code values base i h rooms steps out).used rooms.inputs) s'

  effect_is : (h : Here code values base i) → h.text ≡ text → (rooms : Rooms) (steps : ℕ) → effect_at h.P h.R rooms (cells_of values) h.d i steps out
      ≡ adding rooms (step_here code values base i h).place line (state_here code values base i h rooms steps out) (takes-on h rooms steps)
  unfolding aim
  effect_is h x rooms steps =
      found-effect code values base i h q.op-is k sp (told-value k fk g) s q.value-is rooms steps out
      ∙ ap (λ (y : List ℕ). adding rooms (step_here code values base i h).place (line_at y (cells_of code) s) (state_here code values base i h rooms steps out) (takes-on h rooms steps)) x

  pub read-lacks : length out - at ≤ n → WasRead text code values values inputs out out base i (to_z w64 (room_lacked + i))
  read-lacks f = record {
    steps = λ last. silent text code values values inputs out base last i (to_z w64 (room_lacked + i)) refl (λ c x y. refl) p.written
        (λ h x rooms lw l steps. lacks-room code values base i h steps out _
        (effect_is h x rooms steps
        ∙ adding-lacks code values base i h out p.written rooms l.room (step_here code values base i h).place steps line _ (omega (arith, line-long, p.written))));
  }

  module _ (f : n < length out - at) (used : ℕ) (eu : used ≡ count_at (cells_of values) used_cell) where
    room : count_in (cells_of values) + length line ≤ length out
    room = omega (arith, line-long)

    inputs_are : (h : Here code values base i) (rooms : Rooms) → Lends rooms inputs out → (steps : ℕ) → drop (state_here code values base i h rooms steps out).used rooms.inputs ≡ drop used (map (to_z w32) (cells_of inputs))
    unfolding state_in
    inputs_are h rooms l steps = ap₂ (λ (u : ℕ) (zs : List ℤ). drop u zs) (sym eu) l.reads

    added-effect : (h : Here code values base i) → h.text ≡ text → (rooms : Rooms) → Lends rooms inputs out → (steps : ℕ) → effect_at h.P h.R rooms (cells_of values) h.d i steps out
        ≡ takes-on h rooms steps (with_output ((state_here code values base i h rooms steps out).output ++ line) (state_here code values base i h rooms steps out))
    added-effect h x rooms l steps =
        effect_is h x rooms steps ∙ adding-fits code values base i h out p.written rooms l.room (step_here code values base i h).place steps line (takes-on h rooms steps) room

    pub read_none : length inputs / 4 ≤ used → WasRead text code values values inputs out out base i (to_z w64 (input_lacked + i))
    unfolding lacked_by
    read_none e = record {
      steps = λ last. silent text code values values inputs out base last i (to_z w64 (input_lacked + i)) refl (λ c x y. refl) p.written
          (λ h x rooms lw l steps.
          lacks no_input i (step_here code values base i h).place (to_z_pos w64 {n = input_lacked + i} (omega (arith, read_low text code values out base i s p q)))
          (omega arith) (omega arith) (omega (arith, read_low text code values out base i s p q)) (place_here code values base i h) refl refl
          (added-effect h x rooms l steps
          ∙ taking-none _ _ _ (drop (state_here code values base i h rooms steps out).used rooms.inputs) _ (inputs_are h rooms l steps ∙ no-input inputs used e)));
    }

    pub read-adds : Spells text code s × HasRoom values out line
    read-adds = (spells-text text code values out base i s p q, record { room = room; cells = omega (arith, p.here.values-size) })

-- And where there is room for its line, and an input, once the line is added.
pub record Asked : Type 0 where
  pub asking : Asking
  pub room : asking.n < length asking.out - asking.at
  pub used : ℕ
  pub used-is : used ≡ count_at (cells_of asking.values) used_cell
  pub more : used < length asking.inputs / 4
  pub mid : List ℕ
  pub out' : List ℕ
  pub added : Added asking.values mid asking.out out' (line_at asking.text (cells_of asking.code) asking.s)

module _ (known : Asked) where
  open known use {asking as here, room as f, used, used-is as eu, more as e, mid, out', added as a}
  open here use {text, code, values, inputs, out, base, i, s, reads as p, says as q, k, fits as fk}

  cell-is : (h : Here code values base i) → nat_abs (whole.read k) ≡ ref_cell (window_of h.d) (aim here h).w
  cell-is h = ap nat_abs (to_z-of_z fk ∙ (aim here h).cell)

  pub read-cast : T (non_neg (whole.read k)) × Fits w64 (nat_abs (whole.read k))
  read-cast =
      let h = p.here in
      let c : whole.read k ≡ pos (ref_cell (window_of h.d) (aim here h).w) = to_z-of_z fk ∙ (aim here h).cell in
      let l = ref-inside h.P h.R (cells_of values) h.d (roomy h) (aim here h).w (aim here h).fits in
      rw c (tt, record { fits = omega arith })

  pub read-takes : Takes mid inputs used (nat_abs (whole.read k))
  read-takes =
      let h = p.here in
      let l = ref-inside h.P h.R (cells_of values) h.d (roomy h) (aim here h).w (aim here h).fits in
      record {
        cell_in = omega (arith, cell-is h, a.count.long, h.values-size);
        used-in = omega (arith, a.count.long, h.values-size);
        input = omega arith;
      }

  module _ (after : List ℕ) (ok : Bool) (t : Took mid after inputs used (nat_abs (whole.read k)) ok) where
    pub read_out : ok ≡ false → WasRead text code values after inputs out out' base i (pos (first_error + overflow))
    read_out z = record {
      steps = λ last. consumed code values base i p.here mid out out' (line here) a (room here f used eu) used eu text inputs after last (pos (first_error + overflow)) t.long (λ c x y. ap (λ (w : List ℕ). get_or w c 0) (t.consumed z))
          (λ h x rooms lw l steps.
          machine.fails overflow refl (omega arith) (rw (t.consumed z) (counted-live code values base i h mid out out' (line here) a (room here f used eu) used eu i h.live))
          (added-effect here f used eu h x rooms l steps
          ∙ taking-out _ _ _ (input_at inputs used) _ (drop (state_here code values base i h rooms steps out).used rooms.inputs) _ (inputs_are here f used eu h rooms l steps ∙ next-input inputs used e) (t.outside z)
          ∙ ap (failing overflow) (sym (ap (λ (w : List ℕ). state_in h.P h.R w h.d i steps out') (t.consumed z) ∙ counted-state code values base i h mid out out' (line here) a (room here f used eu) used eu steps))));
    }

    module _ (z : ok ≡ true) where
      abbrev v : ℕ
      v = of_z w32 (input_at inputs used)

      words_are : (h : Here code values base i) → cells_of after ≡ set (with_count (cells_of mid) used_cell (used + 1)) (ref_cell (window_of h.d) (aim here h).w) v
      words_are h = t.stored z ∙ ap (λ (c : ℕ). set (with_count (cells_of mid) used_cell (used + 1)) c v) (cell-is h)

      fits-at : (h : Here code values base i) → RefFits (length h.P.words) (slots_of_call (code_of_call h.P h.R (with_count (cells_of mid) used_cell (used + 1)) h.d)) (aim here h).w 1
      fits-at h = fits-now code values base i h mid out out' (line here) a (room here f used eu) used eu (aim here h).w (aim here h).fits

      stored-state : (h : Here code values base i) (rooms : Rooms) (steps : ℕ) → state_in h.P h.R (cells_of after) h.d i steps out'
          ≡ store_at (location_of (suc h.d) (aim here h).w) (input_at inputs used) (with_input (with_output ((state_here code values base i h rooms steps out).output ++ line here) (state_here code values base i h rooms steps out)))
      stored-state h rooms steps =
          let Y = with_count (cells_of mid) used_cell (used + 1) in
          ap (λ (w : List ℕ). state_in h.P h.R w h.d i steps out') (words_are h)
          ∙ ref-word h.P h.R Y h.d (Y-roomy code values base i h mid out out' (line here) a (room here f used eu) used eu) (aim here h).w (fits-at h) v i steps out'
          ∙ ap₂ (λ (n : ℕ) (x : ℤ). store_at (location_of n (aim here h).w) x (state_in h.P h.R Y h.d i steps out')) (depth_is h.P h.R Y h.d i steps out') (to_z-of_z t.small)
          ∙ ap (store_at (location_of (suc h.d) (aim here h).w) (input_at inputs used)) (counted-state code values base i h mid out out' (line here) a (room here f used eu) used eu steps)

      pub read_done : (l : ℕ) → l ≡ link_at (cells_of code) i → WasRead text code values after inputs out out' base i (to_z w64 l)
      read_done m em = record {
        steps = λ last. consumed code values base i p.here mid out out' (line here) a (room here f used eu) used eu text inputs after last (to_z w64 m) t.long
            (λ c x y. let h = p.here in
            ap (λ (w : List ℕ). get_or w c 0) (words_are h)
            ∙ ref-kept h.P h.R (with_count (cells_of mid) used_cell (used + 1)) h.d (Y-roomy code values base i h mid out out' (line here) a (room here f used eu) used eu) (aim here h).w (fits-at h) v c x y)
            (λ h x rooms lw l steps.
            let st = step_here code values base i h in
            let na = named-after code values base i h in
            let n-is : m ≡ st.after = em ∙ sym (reads code values base i h q.op-is).after_is in
            goes_on m (to_z_pos w64 {n = m} (omega (arith, (small-name code values base i h st.after na).1)))
            (subst (Live h.P h.R (cells_of after) h.d) (sym n-is)
            (subst (λ (w : List ℕ). Live h.P h.R w h.d st.after) (sym (words_are h))
            (ref-live h.P h.R (with_count (cells_of mid) used_cell (used + 1)) h.d (Y-roomy code values base i h mid out out' (line here) a (room here f used eu) used eu) (aim here h).w (fits-at h) v st.after
            (counted-live code values base i h mid out out' (line here) a (room here f used eu) used eu st.after (live-next h.P h.R (cells_of values) h.d i st.after h.live na)))))
            (added-effect here f used eu h x rooms l steps
            ∙ taking-in _ _ _ (input_at inputs used) _ (drop (state_here code values base i h rooms steps out).used rooms.inputs) _ (inputs_are here f used eu h rooms l steps ∙ next-input inputs used e) (t.in-num z)
            ∙ ap made
            (ap (on_top (go_to st.after)) (sym (stored-state h rooms steps))
            ∙ sym (goes_to h.P h.R (cells_of after) h.d i steps out' st.after)
            ∙ sym (ap (λ (j : ℕ). state_in h.P h.R (cells_of after) h.d j steps out') n-is))));
      }
