-- A callee that is found: its faults, and what a run reads of it.
use mathlib.Core.Path.{◌≡◌, refl, sym, ap, subst, ◌∙◌}
use mathlib.Core.Bool.{Bool, true, false, not}
use mathlib.Core.List.{List, [], ◌∷◌, map}
use mathlib.Core.Option.{some}
use Prim.Native.Nat.{ℕ, suc, ◌+◌, ◌*◌, ◌<◌, ◌≤◌}
use native.Mathlib.Omega.{arith}
use lib.Dec.{eqb}
use lib.ListN.{length, get_or}
use borrow.Author.Tests.{eq-eqb}
use Rattle.paper.specs.Sorts.{FUNC}
use Rattle.paper.specs.Terms.{Term}
use Rattle.paper.specs.Trees.{Expr}
use Rattle.paper.specs.Names.{DataType, a_num, a_bool, refused_piece, routine_in, spelled, meaning, nth}
use Rattle.paper.specs.Types.{fault_if, differs, term_of}
use Rattle.paper.specs.Checks.{is_some, is_other_kind, signature_faults, callee_faults, signature_of}
use Rattle.paper.specs.Steps.{routine_of}
use Rattle.store_cells.specs.Cells.{cells_of}
use Rattle.code.specs.Cells.{op_at, value_at, place_at}
use Rattle.code.specs.Spans.{guard}
use Rattle.code.specs.Steps.{Head, no_head, numbered, agree, callee_in}
use Rattle.code.specs.Signatures.{type_at, result_at}
use Rattle.check_links.specs.Raw.{RawCallee}
use Rattle.check_around.specs.Around.{Around, offset_in, ground_of, Calls}
use Rattle.check_simple.specs.Parts.{CalleeFound, signature_for}
use Rattle.check_simple.proofs.Callees.{Known, known}
use Rattle.check_simple.proofs.Arguments.{apart-same}
use Rattle.layout.specs.Rules.{wrong_count}
use Rattle.paper.specs.Words.{word_limit}

pub map-length : {A B : Type 0} (f : A → B) (l : List A) → length (map f l) ≡ length l
map-length f [] = refl
map-length f (a ∷ l) = ap suc (map-length f l)

pub callee-read : (m n : ℕ) (fn : Bool) (text : List ℕ) (R : List Head) (C : List ℕ) (f : Bool) (i h : ℕ) (es : List Term) → value_at C i ≡ h → (get_or R (numbered R h) no_head).word ≡ h
    → (get_or R (numbered R h) no_head).function ≡ f → length es ≡ (get_or R (numbered R h) no_head).parameters → callee_in m n fn text R C f i es ≡ some (numbered R h)
unfolding callee_in guard agree
callee-read m n fn text R C true i h es v w k p =
    rw (v, callee_in) (rw (eq-eqb (get_or R (numbered R h) no_head).word h w) (rw v (rw k (rw v (rw (eq-eqb (length es) (get_or R (numbered R h) no_head).parameters p))))))
callee-read m n fn text R C false i h es v w k p =
    rw (v, callee_in) (rw (eq-eqb (get_or R (numbered R h) no_head).word h w) (rw v (rw k (rw v (rw (eq-eqb (length es) (get_or R (numbered R h) no_head).parameters p))))))

own-kind : (C : List ℕ) (h : ℕ) (function : Bool) → eqb (op_at C h) FUNC ≡ function → is_other_kind function (result_at C h) ≡ false
unfolding is_other_kind result_at
own-kind C h true e = rw (e, result_at)
own-kind C h false e = rw (e, result_at)

pub differs-turned : (a b : DataType) → differs a b ≡ differs b a
unfolding differs
differs-turned a_num a_num = refl
differs-turned a_num a_bool = refl
differs-turned a_num refused_piece = refl
differs-turned a_bool a_num = refl
differs-turned a_bool a_bool = refl
differs-turned a_bool refused_piece = refl
differs-turned refused_piece a_num = refl
differs-turned refused_piece a_bool = refl
differs-turned refused_piece refused_piece = refl

module _ {text values : List ℕ} (a : Around text values) (code : List ℕ) (i to : ℕ) (function : Bool) (h : ℕ)
    (f : CalleeFound (numbered a.R) (length a.R) code (meaning a.known.S (spelled a.known.W i)) function h) (calls : Calls a code i to) where
  pub found-known : Known (cells_of code) a.R a.K.routines h
  found-known = known (cells_of code) a.R a.K.routines h (calls.heads (cells_of code) (apart-same (cells_of code) i to)) f.among

  pub found-room : (h + 1 < word_limit) × ((h + 1) * 8 + 8 ≤ length code)
  found-room = (omega (arith, found-known.low, found-known.inside), omega (arith, found-known.low, found-known.inside, calls.room))

  pub found-signature : signature_of a.known.W a.K (meaning a.known.S (spelled a.known.W i)) ≡ signature_for a h
  unfolding signature_of routine_in
  found-signature = rw (f.means, signature_of)

  pub found-faults : (es : List Expr) → callee_faults a.known.W a.K function (meaning a.known.S (spelled a.known.W i)) i es ≡ fault_if (not (eqb (length (signature_for a h).parameters) (length es))) wrong_count i
  unfolding callee_faults signature_faults routine_in
  found-faults es =
      let o : is_other_kind function (signature_for a h).result ≡ false = ap (is_other_kind function) found-known.result ∙ own-kind (cells_of code) h function f.kind in
      rw (f.means, callee_faults) (rw (o, signature_faults))

  pub found-result : function ≡ true → (signature_for a h).result ≡ some (type_at (cells_of code) (h + 1))
  unfolding result_at
  found-result e = found-known.result ∙ rw (f.kind ∙ e, result_at)

  pub found-read : (C : List ℕ) (es : List Expr) → value_at C i ≡ h → length es ≡ length (signature_for a h).parameters → place_at C i ≡ (nth a.known.W i).place
      → RawCallee (ground_of a) a.known.n C a.known.S function i es
  unfolding ground_of offset_in routine_of routine_in
  found-read C es v p q =
      let number : routine_of (routine_in (meaning a.known.S (spelled a.known.W i))) ≡ numbered a.R h = ap (λ m. routine_of (routine_in m)) f.means in
      record {
        is = callee-read a.known.m a.known.n (is_some a.K.result) text a.R C function i h (map (term_of a.known.W a.known.S) es) v found-known.word (found-known.function ∙ f.kind)
            (map-length (term_of a.known.W a.known.S) es ∙ p ∙ found-known.many ∙ sym found-known.count)
            ∙ ap some (sym number);
        among = subst (λ (k : ℕ). k < length a.R) (sym number) f.among;
        place = q;
      }
