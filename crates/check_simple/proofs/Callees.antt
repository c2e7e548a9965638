-- What the cells say of a routine that is called.
use mathlib.Core.Path.{◌≡◌, refl, ap, ◌∙◌}
use mathlib.Core.Bool.{false}
use mathlib.Core.List.{List, [], ◌∷◌}
use Prim.Native.Nat.{ℕ, zero, suc, ◌+◌, ◌*◌, ◌<◌, ◌≤◌}
use native.Mathlib.Omega.{arith}
use lib.Dec.{eqb}
use lib.ListN.{length, get_or}
use borrow.Author.Tests.{eqb-true}
use Rattle.laws.proofs.Tests.{test}
use Rattle.paper.specs.Sorts.{FUNC}
use Rattle.paper.specs.Words.{word_limit}
use Rattle.paper.specs.Declarations.{Signature}
use Rattle.paper.specs.Checks.{no_signature}
use Rattle.code.specs.Cells.{op_at, value_at}
use Rattle.code.specs.Steps.{Head, no_head, numbered}
use Rattle.code.specs.Signatures.{types_at, first_parameter, result_at, head_in, signature_in, Heads}

pub numbered-word : (R : List Head) (h : ℕ) → numbered R h < length R → (get_or R (numbered R h) no_head).word ≡ h
unfolding numbered
numbered-word [] h l = absurd (omega arith)
numbered-word (r ∷ R) h l =
    test (eqb r.word h) (λ t. rw (t, numbered) (eqb-true r.word h t))
    (λ t. let k : numbered R h < length R = below t in rw (t, numbered) (numbered-word R h k))
  where
    below : eqb r.word h ≡ false → numbered R h < length R
    below t = let e : suc (numbered R h) < suc (length R) = rw (t, numbered) at l in omega (arith, e)

types-length : (C : List ℕ) (k i : ℕ) → length (types_at C k i) ≡ k
unfolding types_at
types-length C zero i = refl
types-length C (suc k) i = ap suc (types-length C k (i + 3))

parameter-low : (C : List ℕ) (h : ℕ) → h + 3 ≤ first_parameter C h
unfolding first_parameter
parameter-low C h = test (eqb (op_at C h) FUNC) (λ t. rw (t, first_parameter) (omega arith)) (λ t. rw (t, first_parameter) (omega arith))

parameter-high : (C : List ℕ) (h : ℕ) → first_parameter C h ≤ h + 4
unfolding first_parameter
parameter-high C h = test (eqb (op_at C h) FUNC) (λ t. rw (t, first_parameter) (omega arith)) (λ t. rw (t, first_parameter) (omega arith))

-- the routine that begins at h
pub record Known (C : List ℕ) (R : List Head) (sigs : List Signature) (h : ℕ) : Type 0 where
  pub word : (get_or R (numbered R h) no_head).word ≡ h
  pub function : (get_or R (numbered R h) no_head).function ≡ eqb (op_at C h) FUNC
  pub count : (get_or R (numbered R h) no_head).parameters ≡ value_at C h
  pub types : (get_or sigs (numbered R h) no_signature).parameters ≡ types_at C (value_at C h) (first_parameter C h)
  pub many : length (get_or sigs (numbered R h) no_signature).parameters ≡ value_at C h
  pub result : (get_or sigs (numbered R h) no_signature).result ≡ result_at C h
  pub inside : first_parameter C h + 3 * value_at C h ≤ word_limit
  pub low : h + 3 ≤ first_parameter C h
  pub high : first_parameter C h ≤ h + 4

pub known : (C : List ℕ) (R : List Head) (sigs : List Signature) (h : ℕ) → Heads C R sigs → numbered R h < length R → Known C R sigs h
unfolding head_in signature_in
known C R sigs h hs l =
    let s = hs.each (numbered R h) l in
    let w = numbered-word R h l in
    let p : (get_or R (numbered R h) no_head).parameters ≡ value_at C h = ap (λ (x : Head). x.parameters) s.head-is ∙ ap (value_at C) w in
    let t : (get_or sigs (numbered R h) no_signature).parameters ≡ types_at C (value_at C h) (first_parameter C h) =
    ap (λ (x : Signature). x.parameters) s.signature-is ∙ ap (λ (i : ℕ). types_at C (value_at C i) (first_parameter C i)) w in
    record {
      word = w;
      function = ap (λ (x : Head). x.function) s.head-is ∙ ap (λ (i : ℕ). eqb (op_at C i) FUNC) w;
      count = p;
      types = t;
      many = ap length t ∙ types-length C (value_at C h) (first_parameter C h);
      result = ap (λ (x : Signature). x.result) s.signature-is ∙ ap (result_at C) w;
      inside = omega (arith, s.inside, p, ap (first_parameter C) w);
      low = parameter-low C h;
      high = parameter-high C h;
    }
