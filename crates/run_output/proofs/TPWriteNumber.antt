-- TPWrite with a number.
use mathlib.Core.Path.{◌≡◌, refl, sym, ap, subst, ◌∙◌}
use mathlib.Core.Bool.{true, false}
use mathlib.Core.List.{List, [], ◌∷◌, ◌++◌}
use mathlib.Core.Option.{some}
use Prim.Native.Nat.{ℕ, suc, ◌+◌, ◌-◌, ◌*◌, ◌/◌, ◌<◌, ◌≤◌}
use native.Mathlib.Omega.{arith}
use lib.ListN.{length, length-append}
use lib.IntN.{ℤ, pos, negsuc}
use lib.Signed.{lt_z, le_z}
use mir.Syntax.{w64}
use mir.Val.{SFits, to_z}
use mir.Facts.{to_z-of_z}
use Rattle.paper.specs.Words.{LF, word_limit}
use Rattle.paper.specs.Numbers.{Value, decimal}
use Rattle.paper.specs.Terms.{worth}
use Rattle.paper.specs.Steps.{write}
use Rattle.paper.specs.States.{Rooms, made, go_to, on_top, memory_of, with_value}
use Rattle.paper.specs.Running.{perform, adding, writing}
use Rattle.store_numbers.proofs.Whole.{read}
use Rattle.store_cells.specs.Cells.{cells_of}
use Rattle.code.specs.Cells.{op_at, value_at, link_at}
use Rattle.code.specs.Spans.{term_in}
use Rattle.store_evaluation.specs.Answers.{first_error, Stands, Evaluated}
use Rattle.run_decimals.specs.Placed as decimals
use Rattle.run_decimals.proofs.Digits.{few}
use Rattle.run_machine.specs.Machine.{Here, effect_at, Says}
use Rattle.run_output.specs.Output.{count_in, characters_at, Spells, line_of, HasRoom, Added, Prints, WroteOf}
use Rattle.run_machine.proofs.Actions
use Rattle.run_machine.proofs.Current as here
use Rattle.run_machine.proofs.Current.{code_here, step_here, state_here, call_here, action-here, effect-here, stands_here, value-here, failed-here, told-error, told-value}
use Rattle.code.specs.Steps.{a_write_of}
use Rattle.layout.specs.Parts.{characters_part}
use Rattle.store_reading.specs.Reading.{value_end}
use Rattle.store_evaluation.specs.Parts.{addresses}
use Rattle.layout.specs.Answers.{room_lacked}
use Rattle.run_output.proofs.OneLine.{low_step, no-room-fits, silent, lined, lacks-room, goes-lined, adding-fits, adding-lacks}

-- ---- the step, by the cells
module _ (code values : List ℕ) (base i : ℕ) (h : Here code values base i) (o : op_at (cells_of code) i ≡ a_write_of) where
  pub reads : Actions.WritesOf (here.m code values base i h) (here.n code values base i h) (code_here code values base i h).function h.text h.R (cells_of code) i (step_here code values base i h).after (step_here code values base i h).does
  reads = Actions.reads-write-of _ _ _ _ _ _ i _ _ (action-here code values base i h) o

  says : Actions.Characters (here.m code values base i h) (here.n code values base i h) (code_here code values base i h).function h.text h.R (cells_of code) (i + 1) reads.s
  says = Actions.characters _ _ _ _ _ _ (i + 1) reads.s reads.says

  s-is : reads.s ≡ characters_at h.text (cells_of code) (i + 1)
  unfolding characters_at
  s-is = says.is

  spells : Spells h.text code (i + 1)
  spells = record { many = says.count ∙ ap length s-is; whole = rw h.code-size }

  of-effect : (rooms : Rooms) (steps : ℕ) (out : List ℕ) → effect_at h.P h.R rooms (cells_of values) h.d i steps out
      ≡ with_value (worth (memory_of (state_here code values base i h rooms steps out) (call_here code values base i h rooms steps out)) reads.e) (state_here code values base i h rooms steps out)
      (λ z. adding rooms (step_here code values base i h).place (line_of h.text (cells_of code) (i + 1) z) (state_here code values base i h rooms steps out)
      (λ s. made (on_top (go_to (step_here code values base i h).after) s)))
  unfolding perform writing
  of-effect rooms steps out =
      effect-here code values base i h rooms steps out (step_here code values base i h).after (write (characters_at h.text (cells_of code) (i + 1)) (some reads.e)) refl
      (reads.does-is ∙ ap (λ (s : List ℕ). write s (some reads.e)) s-is)

  module _ (t : ℕ) (et : t ≡ value_at (cells_of code) i) where
    term-at : term_in (here.m code values base i h) (here.n code values base i h) (cells_of code) (i + 5) t ≡ some reads.e
    term-at = ap (term_in (here.m code values base i h) (here.n code values base i h) (cells_of code) (i + 5)) et ∙ reads.reads

    stands : Stands code (i + 5) t
    stands = stands_here code values base i h (i + 5) t reads.e term-at

    module _ (r : ℤ) (v : Evaluated code values base (i + 5) t r) (rooms : Rooms) (steps : ℕ) (out : List ℕ) where
      of-value : lt_z r (pos first_error) ≡ true → effect_at h.P h.R rooms (cells_of values) h.d i steps out
          ≡ adding rooms (step_here code values base i h).place (line_of h.text (cells_of code) (i + 1) r) (state_here code values base i h rooms steps out)
          (λ s. made (on_top (go_to (step_here code values base i h).after) s))
      unfolding with_value
      of-value k =
          of-effect rooms steps out
          ∙ ap (λ (y : Value). with_value y (state_here code values base i h rooms steps out)
          (λ z. adding rooms (step_here code values base i h).place (line_of h.text (cells_of code) (i + 1) z) (state_here code values base i h rooms steps out)
          (λ s. made (on_top (go_to (step_here code values base i h).after) s)))) (value-here code values base i h rooms steps out (i + 5) t reads.e term-at r v k)

-- a number is short
short : (z : ℤ) → length (decimal z) ≤ 21
unfolding decimal
short (pos n) = omega (arith, few 20 n)
short (negsuc n) = omega (arith, few 20 (suc n))

pub of-short : (n m : ℕ) (z : ℤ) → n < value_end / characters_part → m ≡ length (decimal z) → n + m < addresses
of-short n m z h e = omega (arith, short z)

-- ---- each return of `write_of`
module _ (text code values out : List ℕ) (base i t : ℕ) (p : Prints text code values out base i) (q : Says code i a_write_of t) where
  pub of_low : i < word_limit
  of_low = low_step code values base i p.here

  pub of-in : i * 8 + 8 ≤ length code
  of-in = omega (arith, of_low, p.here.code-size)

  pub of-next : i + 1 < addresses
  of-next = omega (arith, of_low)

  pub of-from : i + 5 < addresses
  of-from = omega (arith, of_low)

  pub of-sum : room_lacked + i < addresses
  of-sum = omega (arith, of_low)

  pub of-answer : SFits w64 (pos (room_lacked + i))
  of-answer = no-room-fits i of_low

  pub of-stands : Stands code (i + 5) t
  of-stands = stands code values base i p.here q.op-is t q.value-is

  spells-text : Spells text code (i + 1)
  spells-text = subst (λ (x : List ℕ). Spells x code (i + 1)) p.text-is (spells code values base i p.here q.op-is)

  module _ (r : ℤ) (s : SFits w64 r) (v : Evaluated code values base (i + 5) t r) where
    pub of-fails : le_z (pos first_error) (read r) ≡ true → WroteOf text code values values out out base i (read r)
    of-fails k = rw (to_z-of_z s) (record {
      steps = λ inputs last. silent text code values values inputs out base last i r refl (λ c x y. refl) p.written
          (λ h x rooms lw l steps. failed-here code values base i h rooms steps out (i + 5) t (reads code values base i h q.op-is).e (term-at code values base i h q.op-is t q.value-is) r v (told-error r s k) _ _ (of-effect code values base i h q.op-is rooms steps out));
    })

    module _ (k : le_z (pos first_error) (read r) ≡ false) (m : ℕ) (em : m ≡ length (decimal (read r))) (at : ℕ) (ea : at ≡ count_in (cells_of values)) (n : ℕ) (en : n ≡ value_at (cells_of code) (i + 1) / characters_part) where
      line-long : length (line_of text (cells_of code) (i + 1) r) ≡ n + m + 1
      line-long =
          let c = characters_at text (cells_of code) (i + 1) in
          let a : length c ≡ n = sym (en ∙ spells-text.many) in
          let b : length (decimal r) ≡ m = sym (rw (to_z-of_z s) at em) in
          length-append (c ++ decimal r) (LF ∷ []) ∙ ap (λ (x : ℕ). x + 1) (length-append c (decimal r)) ∙ omega (arith, a, b)

      pub of-lacks : length out - at ≤ n + m → WroteOf text code values values out out base i (to_z w64 (room_lacked + i))
      of-lacks g = record {
        steps = λ inputs last. silent text code values values inputs out base last i (to_z w64 (room_lacked + i)) refl (λ c x y. refl) p.written
            (λ h x rooms lw l steps. lacks-room code values base i h steps out _
            (of-value code values base i h q.op-is t q.value-is r v rooms steps out (told-value r s k)
            ∙ adding-lacks code values base i h out p.written rooms l.room (step_here code values base i h).place steps (line_of h.text (cells_of code) (i + 1) r) _
            (subst (λ (y : List ℕ). length out < count_in (cells_of values) + length (line_of y (cells_of code) (i + 1) r)) (sym x) (omega (arith, line-long, p.written)))));
      }

      module _ (g : n + m < length out - at) where
        room : count_in (cells_of values) + length (line_of text (cells_of code) (i + 1) r) ≤ length out
        room = omega (arith, line-long)

        pub of-adds : Spells text code (i + 1) × HasRoom values out (line_of text (cells_of code) (i + 1) (read r)) × decimals.Takes (read r) m
        of-adds = (spells-text, rw (to_z-of_z s) (record { room = room; cells = omega (arith, p.here.values-size) }), em)

        pub of-done : (after out' : List ℕ) → Added values after out out' (line_of text (cells_of code) (i + 1) (read r)) → (l : ℕ) → l ≡ link_at (cells_of code) i
            → WroteOf text code values after out out' base i (to_z w64 l)
        of-done after out' b l el =
            let a : Added values after out out' (line_of text (cells_of code) (i + 1) r) = rw (to_z-of_z s) at b in
            record {
              steps = λ inputs last. lined text code values after inputs out out' (line_of text (cells_of code) (i + 1) r) base last i (to_z w64 l) a p.here.values-size room
                  (λ h x rooms lw z steps.
                  goes-lined code values base i h after out out' (line_of text (cells_of code) (i + 1) r) a room steps l _ (el ∙ sym (reads code values base i h q.op-is).after_is)
                  (of-value code values base i h q.op-is t q.value-is r v rooms steps out (told-value r s k)
                  ∙ ap (λ (y : List ℕ). adding rooms (step_here code values base i h).place (line_of y (cells_of code) (i + 1) r) (state_here code values base i h rooms steps out) (λ s. made (on_top (go_to (step_here code values base i h).after) s))) x
                  ∙ adding-fits code values base i h out p.written rooms z.room (step_here code values base i h).place steps (line_of text (cells_of code) (i + 1) r) _ room));
            }
