-- The head of one routine.
use mathlib.Core.Path.{◌≡◌, sym, ap, ap₂, subst, ◌∙◌}
use mathlib.Core.Bool.{Bool, true}
use mathlib.Core.List.{List, []}
use mathlib.Core.Option.{Option, some}
use Prim.Native.Nat.{ℕ, ◌+◌, ◌*◌, ◌<◌, ◌≤◌}
use native.Mathlib.Omega.{arith}
use lib.Dec.{eqb}
use lib.ListN.{length}
use borrow.Author.Tests.{eq-eqb, ne_eqb}
use Rattle.laws.proofs.Tests.{by-same}
use Rattle.std.specs.Prelude.{if◌then◌else◌}
use Rattle.paper.specs.Sorts.{PROC, FUNC}
use Rattle.paper.specs.Words.{Word, word_limit}
use Rattle.paper.specs.Trees.{Expr, Routine}
use Rattle.paper.specs.Expressions.{is_type, starts_routine}
use Rattle.paper.specs.Names.{DataType, refused_piece, type_of, sort_in}
use Rattle.paper.specs.Declarations.{routine_limit, result_asked}
use Rattle.paper.specs.Checks.{is_some}
use Rattle.store_cells.specs.Cells.{cells_of}
use Rattle.code.specs.Cells.{head_at, op_at, value_at}
use Rattle.code.specs.Signatures.{type_at, types_at, first_parameter, result_at, head_in, signature_in}
use Rattle.code.proofs.Signatures.{type-kept, types-kept}
use Rattle.grammar.specs.Form.{Parses, ParametersAt, HeadAt, a-proc, a-func, RoutineAt}
use Rattle.grammar.proofs.Inversions.{IsProc, IsFunc, head-proc, head-func}
use Rattle.grammar.proofs.Places.{parameters-grow, declarations-grow, list-grows, behind-grows, head-grows}
use Rattle.check_heads.specs.Stores.{Marked, Valued, Lain}
use Rattle.check_heads.specs.Trees.{head_for, given_types, given_signature}
use Rattle.check_heads.specs.Parts.{mark_of, ParametersStand, ParametersMarked, Parameters, Names, RoutineStands, RoutineKnown, Begun}
use Rattle.check_heads.proofs.WordsInside.{expression-grows}
use Rattle.check_heads.proofs.ParameterTypes.{crosses-one}
use Rattle.check_heads.proofs.Frames.{kept-wider, marked-same, marked-on, marked-wider, head-below, lain-kept, valued-value, valued-op, valued-other, valued-marked, valued-type, valued-routine}
use Rattle.check_heads.proofs.RoutineNumbers.{word_at}
use Rattle.check_heads.proofs.ParameterMarks.{sort-inside, type-marked}

closing-some : {W : ℕ → ℕ} {E : (d at : ℕ) → Expr → (to : ℕ) → Type 0} {result : Option ℕ} {closing at name : ℕ} → HeadAt W E result closing at name → 0 < closing
closing-some (a-proc p n c) = omega arith
closing-some (a-func p t k n c) = omega arith

pub starts-head : {W : ℕ → ℕ} {E : (d at : ℕ) → Expr → (to : ℕ) → Type 0} {result : Option ℕ} {closing at name : ℕ} → HeadAt W E result closing at name → starts_routine (W at) ≡ true
unfolding starts_routine
starts-head (a-proc p n c) = rw p
starts-head (a-func p t k n c) = rw p

type-of : (C : List ℕ) (i : ℕ) (b : Bool) (s : ℕ) → value_at C i ≡ mark_of b → op_at C i ≡ s → type_at C i ≡ (if b then refused_piece else type_of s)
unfolding type_at
type-of C i b s e f = type-marked (value_at C i) (op_at C i) b e ∙ ap (λ (x : ℕ). if b then refused_piece else type_of x) f

-- ---- where it stands
module _ (W : List Word) (r : Routine) (h to : ℕ) (form : RoutineAt (sort_in W) (Parses (sort_in W)) r h to) where
  pub end-inside : form.end < length W
  end-inside = sort-inside W form.end (closing-some form.head)

  pub close-inside : form.close + 1 ≤ form.end
  close-inside =
      omega (
        arith,
        declarations-grow (sort_in W) (Parses (sort_in W)) (expression-grows (sort_in W)) form.declared,
        list-grows (sort_in W) (Parses (sort_in W)) (expression-grows (sort_in W)) form.body.statements,
        behind-grows (sort_in W) (Parses (sort_in W)) (expression-grows (sort_in W)) form.handler,
        behind-grows (sort_in W) (Parses (sort_in W)) (expression-grows (sort_in W)) form.undo,
      )

  pub name-before : r.name + 2 ≤ form.close
  name-before = parameters-grow (sort_in W) (Parses (sort_in W)) (expression-grows (sort_in W)) form.parameters

  pub name-behind : h < r.name
  name-behind = head-grows (sort_in W) (Parses (sort_in W)) (expression-grows (sort_in W)) form.head

  func : sort_in W h ≡ FUNC → IsFunc (sort_in W) (Parses (sort_in W)) r.result (sort_in W form.end) h r.name
  func f = head-func (sort_in W) (Parses (sort_in W)) form.head (λ p. omega arith)

  proc : (sort_in W h ≡ FUNC → ⊥) → IsProc (sort_in W) (Parses (sort_in W)) r.result (sort_in W form.end) h r.name
  proc d = by-same (sort_in W h) PROC (λ p. head-proc (sort_in W) (Parses (sort_in W)) form.head p) (λ q. absurd (d (head-func (sort_in W) (Parses (sort_in W)) form.head q).opens))

  -- the first parameter
  params-from : (C : List ℕ) → op_at C h ≡ sort_in W h → first_parameter C h ≡ r.name + 2
  unfolding first_parameter
  params-from C e =
      by-same (sort_in W h) FUNC
      (λ f. rw (eq-eqb (op_at C h) FUNC (e ∙ f)) (omega (arith, (func f).name-at)))
      (λ d. rw (ne_eqb (op_at C h) FUNC (λ z. d (sym e ∙ z))) (omega (arith, (proc d).name-at)))

  -- it has a result
  function-is : (C : List ℕ) → op_at C h ≡ sort_in W h → is_some r.result ≡ eqb (op_at C h) FUNC
  unfolding is_some
  function-is C e =
      by-same (sort_in W h) FUNC
      (λ f. rw (eq-eqb (op_at C h) FUNC (e ∙ f), (func f).is))
      (λ d. rw (ne_eqb (op_at C h) FUNC (λ z. d (sym e ∙ z)), (proc d).is))

  module _ (k : ℕ) (code : List ℕ) (lain : Lain W code) (code₁ : List ℕ) (n : ℕ) (named : Names code h k code₁ n) where
    room : h * 8 + 16 ≤ length code
    room = omega (arith, end-inside, close-inside, name-before, name-behind, lain.room, lain.most)

    op-is : op_at (cells_of code) h ≡ sort_in W h
    op-is = lain.sorts h (omega (arith, end-inside, close-inside, name-before, name-behind))

    second_is : op_at (cells_of code) (h + 1) ≡ sort_in W (h + 1)
    second_is = lain.sorts (h + 1) (omega (arith, end-inside, close-inside, name-before, name-behind))

    pub name-is : n ≡ r.name
    name-is =
        by-same (sort_in W h) FUNC (λ f. named.function-name (op-is ∙ f) ∙ sym (func f).name-at) (λ d. named.plain-name (λ z. d (sym op-is ∙ z)) ∙ sym (proc d).name-at)

    pub name-marked : Marked code code₁ h r.name
    name-marked =
        by-same (sort_in W h) FUNC
        (λ f. marked-wider (valued-marked (h + 1) _ (named.function (op-is ∙ f)) (omega (arith, room)) (valued-type _ (ap is_type second_is ∙ (func f).typed))) h r.name (omega arith) (omega (arith, (func f).name-at)))
        (λ d. subst (λ (c : List ℕ). Marked code c h r.name) (sym (named.plain (λ z. d (sym op-is ∙ z)))) (marked-same code h r.name))

    -- the result's type
    result-is : (C : List ℕ) → op_at C h ≡ sort_in W h → head_at C (h + 1) ≡ head_at (cells_of code₁) (h + 1) → result_at C h ≡ result_asked W k r.result
    unfolding result_at result_asked
    result-is C e q =
        by-same (sort_in W h) FUNC
        (λ f. rw (eq-eqb (op_at C h) FUNC (e ∙ f), (func f).is)
        (ap some (type-kept (cells_of code₁) C (h + 1) q ∙ typed f ∙ ap (λ (b : Bool). if b then refused_piece else type_of (sort_in W (h + 1))) (sym (crosses-one routine_limit k)))))
        (λ d. rw (ne_eqb (op_at C h) FUNC (λ z. d (sym e ∙ z)), (proc d).is))
      where
        typed : sort_in W h ≡ FUNC → type_at (cells_of code₁) (h + 1) ≡ (if eqb k routine_limit then refused_piece else type_of (sort_in W (h + 1)))
        typed f = type-of (cells_of code₁) (h + 1) (eqb k routine_limit) (sort_in W (h + 1)) (valued-value (h + 1) _ (named.function (op-is ∙ f)) (omega (arith, room))) (valued-op (h + 1) _ (named.function (op-is ∙ f)) (omega (arith, room)) ∙ second_is)

-- ---- its parts
module _ (code values : List ℕ) (h k : ℕ) (g : RoutineStands code values h k) where
  pub head-room : h * 8 + 16 ≤ length code
  head-room =
      omega (arith, end-inside g.W g.r h g.to g.form, close-inside g.W g.r h g.to g.form, name-before g.W g.r h g.to g.form, name-behind g.W g.r h g.to g.form, g.lain.room, g.lain.most)

  pub head_small : h < word_limit
  head_small =
      omega (arith, end-inside g.W g.r h g.to g.form, close-inside g.W g.r h g.to g.form, name-before g.W g.r h g.to g.form, name-behind g.W g.r h g.to g.form, g.lain.most)

  module _ (code₁ : List ℕ) (n : ℕ) (named : Names code h k code₁ n) where
    pub name-small : n + 2 < word_limit
    name-small =
        omega (arith, end-inside g.W g.r h g.to g.form, close-inside g.W g.r h g.to g.form, name-before g.W g.r h g.to g.form, name-is g.W g.r h g.to g.form k code g.lain code₁ n named, g.lain.most)

    pub head-parameters : ParametersStand code₁ values h (n + 2)
    head-parameters = record {
      W = g.W;
      ps = g.r.parameters;
      close = g.form.close;
      form = subst (λ (x : ℕ). ParametersAt (sort_in g.W) (Parses (sort_in g.W)) g.r.parameters (x + 2) g.form.close) (sym (name-is g.W g.r h g.to g.form k code g.lain code₁ n named)) g.form.parameters;
      closes = g.form.closes;
      lain = lain-kept (name-marked g.W g.r h g.to g.form k code g.lain code₁ n named) g.W g.lain;
      guards = g.guards;
      unseen = g.unseen;
      room = g.room;
    }

    -- ---- all of it
    module _ (code₂ values' code₃ : List ℕ) (count : ℕ) (p : ParametersMarked g.W g.r.parameters g.form.close code₁ values h (n + 2) code₂ values' count) (v : Valued code₂ code₃ h count) where
      abbrev t : Routine
      t = g.r

      named-is : n ≡ t.name
      named-is = name-is g.W g.r h g.to g.form k code g.lain code₁ n named

      first : Marked code code₁ h t.name
      first = name-marked g.W g.r h g.to g.form k code g.lain code₁ n named

      second : Marked code code₂ h g.to
      second =
          marked-on (marked-wider first h g.to (omega arith) (omega (arith, name-before g.W g.r h g.to g.form, close-inside g.W g.r h g.to g.form, g.form.after)))
          (marked-wider p.marked h g.to (omega (arith, name-behind g.W g.r h g.to g.form, named-is)) (omega (arith, close-inside g.W g.r h g.to g.form, g.form.after)))

      long : length code₂ ≡ length code
      long = second.kept.long

      room₂ : h * 8 + 8 ≤ length code₂
      room₂ = omega (arith, long, head-room)

      op₂ : op_at (cells_of code₂) h ≡ sort_in g.W h
      op₂ = second.ops h ∙ op-is g.W g.r h g.to g.form k code g.lain code₁ n named

      op₃ : op_at (cells_of code₃) h ≡ sort_in g.W h
      op₃ = valued-op h count v room₂ ∙ op₂

      value₃ : value_at (cells_of code₃) h ≡ count
      value₃ = valued-value h count v room₂

      second₃ : head_at (cells_of code₃) (h + 1) ≡ head_at (cells_of code₁) (h + 1)
      second₃ =
          valued-other h count v room₂ (h + 1) (λ e. omega arith)
          ∙ head-below p.marked (h + 1) (omega (arith, name-behind g.W g.r h g.to g.form, named-is))

      from₃ : first_parameter (cells_of code₃) h ≡ n + 2
      from₃ = params-from g.W g.r h g.to g.form (cells_of code₃) op₃ ∙ ap (λ (x : ℕ). x + 2) (sym named-is)

      types₃ : types_at (cells_of code₃) (value_at (cells_of code₃) h) (first_parameter (cells_of code₃) h) ≡ given_types g.W [] 0 t.parameters
      types₃ =
          ap₂ (types_at (cells_of code₃)) value₃ from₃
          ∙ types-kept (cells_of code₂) (cells_of code₃) (n + 2) count (λ j a b. valued-other h count v room₂ j (λ e. omega (arith, name-behind g.W g.r h g.to g.form, named-is)))
          ∙ p.types

      head₃ : head_for t ≡ head_in (cells_of code₃) h
      unfolding head_for head_in
      head₃ =
          ap₂ (λ (w n : ℕ). record { word = w; parameters = n; function = is_some t.result }) (word_at (sort_in g.W) t h g.to g.form) (sym (value₃ ∙ p.count))
          ∙ ap (λ (b : Bool). record { word = h; parameters = value_at (cells_of code₃) h; function = b }) (function-is g.W t h g.to g.form (cells_of code₃) op₃)

      all : RoutineKnown g.W g.r g.to code values h k code₃ values' n
      unfolding signature_in given_signature
      all = record {
        name = named-is;
        head = head₃;
        signature = ap₂ (λ (o : Option DataType) (l : List DataType). record { result = o; parameters = l })
            (result-is g.W g.r h g.to g.form k code g.lain code₁ n named (cells_of code₃) op₃ second₃) types₃;
        ends = omega (arith, from₃, value₃, p.ends, close-inside g.W g.r h g.to g.form, g.form.after);
        marked = marked-on second (marked-wider (valued-marked h count v room₂ (valued-routine _ (ap starts_routine op₂ ∙ starts-head g.form.head))) h g.to (omega arith)
            (omega (arith, name-behind g.W g.r h g.to g.form, name-before g.W g.r h g.to g.form, close-inside g.W g.r h g.to g.form, g.form.after)));
        kept = kept-wider p.kept 0 g.to (omega arith) (omega (arith, close-inside g.W g.r h g.to g.form, g.form.after));
        sees = p.sees;
      }

pub head-begun : (code values : List ℕ) (h k : ℕ) → RoutineStands code values h k → (code₁ : List ℕ) (n : ℕ) → Names code h k code₁ n → (code₂ values' : List ℕ) (count : ℕ)
    → Parameters code₁ values h (n + 2) code₂ values' count → (code₃ : List ℕ) → Valued code₂ code₃ h count → Begun code values h k code₃ values' n
unfolding head-parameters
head-begun code values h k g code₁ n named code₂ values' count p code₃ v = record {
  long = (known g).marked.kept.long;
  is = known;
}
  where
    known : (g : RoutineStands code values h k) → RoutineKnown g.W g.r g.to code values h k code₃ values' n
    known g = all code values h k g code₁ n named code₂ values' code₃ count (p.is (head-parameters code values h k g code₁ n named)) v
