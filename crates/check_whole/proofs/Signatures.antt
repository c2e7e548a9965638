-- The cells still say the signatures of all routines, whatever the check of one routine writes over its other words.
use mathlib.Core.Path.{◌≡◌, refl, sym, ap, ap₂, subst, ◌∙◌}
use mathlib.Core.Bool.{Bool, true, false}
use mathlib.Core.List.{List, [], ◌∷◌, ◌++◌}
use mathlib.Core.Option.{Option, none, some}
use mathlib.Core.Logic.{◌⊎◌, inl, inr}
use Prim.Native.Nat.{ℕ, zero, suc, ◌+◌, ◌*◌, ◌<◌, ◌≤◌}
use native.Mathlib.Omega.{arith}
use lib.Dec.{eqb}
use lib.ListN.{length, get_or, take, drop, take-append-drop}
use Rattle.laws.proofs.Tests.{false-true}
use Rattle.std.specs.Prelude.{if◌then◌else◌}
use Rattle.paper.specs.Sorts.{FUNC}
use Rattle.paper.specs.Words.{Word}
use Rattle.paper.specs.Trees.{Parameter, Routine, Module}
use Rattle.paper.specs.Names.{DataType, sort_in}
use Rattle.paper.specs.Declarations.{Signature}
use Rattle.paper.specs.Checks.{is_some}
use Rattle.code.specs.Cells.{head_at, op_at, value_at, op_in, value_in}
use Rattle.code.specs.Steps.{Head, no_head}
use Rattle.code.specs.Signatures.{types_at, first_parameter, result_at, head_in, signature_in, SignatureAt, Heads}
use Rattle.code.proofs.Signatures.{type-kept}
use Rattle.grammar.specs.Form.{Parses, SeparatedAt, last_one, one_more, closed-at-once, closed-later, none-starts, one-starts, ParameterAt, ParametersAt, HeadAt, a-proc, a-func, RoutineAt, RoutinesAt}
use Rattle.grammar.proofs.Places.{routine-grows, declarations-grow, list-grows, behind-grows}
use Rattle.faults.proofs.Expressions.{grows}
use Rattle.check_links.specs.Raw.{Ground}
use Rattle.check_program.specs.Routines.{RawRoutines, a-routine}
use Rattle.check_program.proofs.WalkStays.{routines-order}
use Rattle.check_heads.specs.Trees.{word_of, head_for, heads_for}
use Rattle.check_heads.proofs.RoutineNumbers.{word_at}
use Rattle.check_routines.specs.Answers.{Spares}

-- ---- one signature
module _ (C D : List ℕ) where
  types_same : (n i : ℕ) → ((j : ℕ) → j < n → head_at D (i + 3 * j) ≡ head_at C (i + 3 * j)) → types_at D n i ≡ types_at C n i
  unfolding types_at
  types_same zero i h = refl
  types_same (suc n) i h =
      let e : i + 3 * 0 ≡ i = omega arith in
      ap₂ (λ (t : DataType) (l : List DataType). t ∷ l) (type-kept C D i (rw e at (h 0 (omega arith))))
      (types_same n (i + 3) (λ j a. let q : i + 3 * suc j ≡ i + 3 + 3 * j = omega arith in rw q at (h (suc j) (omega arith))))

  signature-same : (w : ℕ) → head_at D w ≡ head_at C w → head_at D (w + 1) ≡ head_at C (w + 1) → ((j : ℕ) → j < value_at C w → head_at D (first_parameter C w + 3 * j) ≡ head_at C (first_parameter C w + 3 * j))
      → signature_in D w ≡ signature_in C w
  unfolding signature_in first_parameter result_at
  signature-same w a b c =
      rw a
      (ap₂ (λ (o : Option DataType) (l : List DataType). record { result = o; parameters = l })
      (ap (λ (t : DataType). if eqb (op_at C w) FUNC then some t else none) (type-kept C D (w + 1) b))
      (types_same (value_at C w) (first_parameter C w) c))

  signature-moves : (h : Head) (sig : Signature) → head_at D h.word ≡ head_at C h.word → head_at D (h.word + 1) ≡ head_at C (h.word + 1)
      → ((j : ℕ) → j < h.parameters → head_at D (first_parameter C h.word + 3 * j) ≡ head_at C (first_parameter C h.word + 3 * j)) → SignatureAt C h sig → SignatureAt D h sig
  unfolding head_in first_parameter
  signature-moves h sig a b c x =
      let n : h.parameters ≡ value_at C h.word = ap (λ (q : Head). q.parameters) x.head-is in
      record {
        head-is = x.head-is ∙ sym (ap (λ (q : ℕ). record { word = h.word; parameters = value_in q; function = eqb (op_in q) FUNC }) a);
        signature-is = x.signature-is ∙ sym (signature-same h.word a b (λ j l. c j (omega arith)));
        inside = rw a x.inside;
      }

-- ---- the words of a routine
module _ (W : ℕ → ℕ) where
  separated-in : {ps : List Parameter} {at to : ℕ} → SeparatedAt W (ParameterAt W (Parses W)) ps at to → at + 3 * length ps ≤ to + 1
  separated-in (last_one p c) = omega (arith, p.after)
  separated-in (one_more p c s) = omega (arith, p.after, separated-in s)

  closed_in : {ps : List Parameter} {at to : ℕ} → ParametersAt W (Parses W) ps at to → at + 3 * length ps ≤ to + 1
  closed_in (closed-at-once c e) = omega arith
  closed_in (closed-later c s) = separated-in s

  first-in : {result : Option ℕ} {closing at name : ℕ} → HeadAt W (Parses W) result closing at name → (b : Bool) → is_some result ≡ b → (if b then at + 4 else at + 3) ≡ name + 2
  unfolding is_some
  first-in (a-proc p n c) true e = false-true e
  first-in (a-proc p n c) false e = omega arith
  first-in (a-func p t k n c) true e = omega arith
  first-in (a-func p t k n c) false e = false-true (sym e)

  second-in : {result : Option ℕ} {closing at name : ℕ} → HeadAt W (Parses W) result closing at name → at < name
  second-in (a-proc p n c) = omega arith
  second-in (a-func p t k n c) = omega arith

-- ---- all routines
module _ (C D : List ℕ) where
  abbrev Moves : Routine → Type 0
  Moves q = (sig : Signature) → SignatureAt C (head_for q) sig → SignatureAt D (head_for q) sig

  data All : List Routine → Type 0 where
    no_more : All []
    this-and : {q : Routine} {rs : List Routine} → Moves q → All rs → All (q ∷ rs)

  all_both : (xs ys : List Routine) → All xs → All ys → All (xs ++ ys)
  all_both [] ys a b = b
  all_both (x ∷ xs) ys (this-and m a) b = this-and m (all_both xs ys a b)

  each-moves : (rs : List Routine) → All rs → (j : ℕ) → j < length (heads_for rs) → (sig : Signature) → SignatureAt C (get_or (heads_for rs) j no_head) sig → SignatureAt D (get_or (heads_for rs) j no_head) sig
  unfolding heads_for
  each-moves [] a j l sig x = absurd (omega arith)
  each-moves (q ∷ rs) (this-and m a) zero l sig x = m sig x
  each-moves (q ∷ rs) (this-and m a) (suc j) l sig x = each-moves rs a j (omega arith) sig x

  moves-by : (W : ℕ → ℕ) (q : Routine) (w n : ℕ) → RoutineAt W (Parses W) q w n
      → head_at D w ≡ head_at C w → head_at D (w + 1) ≡ head_at C (w + 1) → ((j : ℕ) → j < length q.parameters → head_at D (q.name + 2 + 3 * j) ≡ head_at C (q.name + 2 + 3 * j)) → Moves q
  unfolding head_for head_in first_parameter
  moves-by W q w n form a b c sig x =
      let e : word_of q ≡ w = word_at W q w n form in
      let f : is_some q.result ≡ eqb (op_at C (word_of q)) FUNC = ap (λ (k : Head). k.function) x.head-is in
      let p : first_parameter C (word_of q) ≡ q.name + 2 = ap (λ (b : Bool). if b then word_of q + 4 else word_of q + 3) (sym f) ∙ ap (λ (k : ℕ). if is_some q.result then k + 4 else k + 3) e ∙ first-in W form.head (is_some q.result) refl in
      signature-moves C D (head_for q) sig (rw e a) (rw e b) (λ j l. rw p (c j l)) x

module _ (W : List Word) (C D : List ℕ) (r : Routine) (h to : ℕ) (s : Spares C D r h to) where
  abbrev at-word : ℕ → ℕ
  at-word = sort_in W

  -- the words that are asked of a routine lie in it
  last-type : (q : Routine) (w n : ℕ) → RoutineAt at-word (Parses at-word) q w n → q.name + 2 + 3 * length q.parameters ≤ n + 1
  last-type q w n f =
      omega (
        arith,
        closed_in at-word f.parameters,
        declarations-grow at-word (Parses at-word) (grows W) f.declared,
        list-grows at-word (Parses at-word) (grows W) f.body.statements,
        behind-grows at-word (Parses at-word) (grows W) f.handler,
        behind-grows at-word (Parses at-word) (grows W) f.undo,
        f.after,
      )

  short : (q : Routine) (w n : ℕ) → RoutineAt at-word (Parses at-word) q w n → w + 1 < n
  short q w n f = omega (arith, last-type q w n f, second-in at-word f.head)

  moves-apart : (q : Routine) (w n : ℕ) → RoutineAt at-word (Parses at-word) q w n → (n ≤ h) ⊎ (to ≤ w) → Moves C D q
  moves-apart q w n f (inl l) =
      let a = second-in at-word f.head in
      let z = last-type q w n f in
      moves-by C D at-word q w n f (s.below w (omega arith)) (s.below (w + 1) (omega (arith, short q w n f))) (λ j g. s.below (q.name + 2 + 3 * j) (omega arith))
  moves-apart q w n f (inr l) =
      let a = second-in at-word f.head in
      moves-by C D at-word q w n f (s.above w (omega arith)) (s.above (w + 1) (omega arith)) (λ j g. s.above (q.name + 2 + 3 * j) (omega arith))

  later-apart : (rs : List Routine) (n end : ℕ) → RoutinesAt at-word (Parses at-word) rs n end → to ≤ n → All C D rs
  later-apart rs n end (none-starts x e) l = no_more
  later-apart rs n end (one-starts {a = q} {r = qs} {n = k} x one more) l =
      this-and (moves-apart q n k one (inr l)) (later-apart qs k end more (omega (arith, routine-grows at-word (Parses at-word) (grows W) q n k one)))

  earlier-apart : (g : Ground) (E : List ℕ) (m : Module) (qs : List Routine) (at : ℕ) → g.W ≡ W → RawRoutines g E m qs (heads_for qs) at h → All C D qs
  unfolding heads_for head_for
  earlier-apart g E m [] at w x = no_more
  earlier-apart g E m (q ∷ qs) at w (a-routine {n = k} e x y) =
      this-and (moves-apart q (word_of q) k (subst (λ (x : List Word). RoutineAt (sort_in x) (Parses (sort_in x)) q (word_of q) k) w x.form) (inl (routines-order g E m qs (heads_for qs) k h y)))
      (earlier-apart g E m qs k w y)

pub calls-kept : (W : List Word) (m : Module) (C D : List ℕ) (g : Ground) (at end k h to : ℕ) (r : Routine) (rest : List Routine) (sigs : List Signature) → g.W ≡ W
    → RawRoutines g C m (take k m.routines) (heads_for (take k m.routines)) at h → drop k m.routines ≡ r ∷ rest
    → RoutineAt (sort_in W) (Parses (sort_in W)) r h to → RoutinesAt (sort_in W) (Parses (sort_in W)) rest to end → Heads C (heads_for m.routines) sigs → Spares C D r h to
    → Heads D (heads_for m.routines) sigs
calls-kept W m C D g at end k h to r rest sigs w raw is one more x s =
    let all : All C D (take k m.routines ++ drop k m.routines)
    = all_both C D (take k m.routines) (drop k m.routines) (earlier-apart W C D r h to s g C m (take k m.routines) at w raw)
    (subst (All C D) (sym is) (this-and (moves-by C D (sort_in W) r h to one s.first s.second s.types) (later-apart W C D r h to s rest to end more (omega arith)))) in
    record {
      as_many = x.as_many;
      each = λ j l. each-moves C D m.routines (subst (All C D) (take-append-drop k m.routines) all) j l _ (x.each j l);
    }

-- Nothing is written from `from` on, where the routines stand.
pub heads-kept : (W : List Word) (C D : List ℕ) (rs : List Routine) (from end : ℕ) (sigs : List Signature) → RoutinesAt (sort_in W) (Parses (sort_in W)) rs from end → ((i : ℕ) → from ≤ i → head_at D i ≡ head_at C i)
    → Heads C (heads_for rs) sigs → Heads D (heads_for rs) sigs
heads-kept W C D rs from end sigs f same x = record { as_many = x.as_many; each = λ j l. each-moves C D rs (all_same rs from f (omega arith)) j l _ (x.each j l) }
  where
    all_same : (qs : List Routine) (n : ℕ) → RoutinesAt (sort_in W) (Parses (sort_in W)) qs n end → from ≤ n → All C D qs
    all_same qs n (none-starts x e) l = no_more
    all_same qs n (one-starts {a = q} {r = ps} {n = k} y one more) l =
        let a = second-in (sort_in W) one.head in
        this-and (moves-by C D (sort_in W) q n k one (same n l) (same (n + 1) (omega arith)) (λ j b. same (q.name + 2 + 3 * j) (omega arith)))
        (all_same ps k more (omega (arith, routine-grows (sort_in W) (Parses (sort_in W)) (grows W) q n k one)))
