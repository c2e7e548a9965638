-- What the cells say of the module's routines before their lists are checked: all that a call has to know of its callee.
use Rattle.std.specs.Prelude.{◌≡◌, List, [], ◌∷◌, ℕ, zero, suc, ◌+◌, ◌*◌, ◌<◌, ◌≤◌, eqb, length, get_or, if◌then◌else◌}
use Rattle.std.proofs.Math.Option.{Option, none, some}
use Rattle.paper.specs.Sorts.{FUNC}
use Rattle.paper.specs.Words.{word_limit}
use Rattle.paper.specs.Names.{DataType, refused_piece, type_of}
use Rattle.paper.specs.Declarations.{Signature}
use Rattle.paper.specs.Checks.{no_signature}
use Rattle.code.specs.Cells.{op_at, value_at}
use Rattle.code.specs.Steps.{Head, no_head}

module _ (C : List ℕ) where
  -- A type by its word. One that has a value is not asked, since its parameter or its routine is refused.
  unfoldable pub type_at : ℕ → DataType
  type_at i = if eqb (value_at C i) 0 then type_of (op_at C i) else refused_piece

  -- the types of so many parameters: type, name and what follows it are three words
  unfoldable pub types_at : (count first : ℕ) → List DataType
  types_at zero i = []
  types_at (suc k) i = type_at i ∷ types_at k (i + 3)

  -- "PROC name(params) or FUNC type name(params)": a routine begins at h
  unfoldable pub first_parameter : (h : ℕ) → ℕ
  first_parameter h = if eqb (op_at C h) FUNC then h + 4 else h + 3

  unfoldable pub result_at : (h : ℕ) → Option DataType
  result_at h = if eqb (op_at C h) FUNC then some (type_at (h + 1)) else none

  -- The value of its first word is how many parameters it has.
  unfoldable pub head_in : (h : ℕ) → Head
  head_in h = record { word = h; parameters = value_at C h; function = eqb (op_at C h) FUNC }

  unfoldable pub signature_in : (h : ℕ) → Signature
  signature_in h = record { result = result_at h; parameters = types_at (value_at C h) (first_parameter h) }

  -- the first word behind the types that it is read from
  abbrev pub signature_end : (h : ℕ) → ℕ
  signature_end h = first_parameter h + 3 * value_at C h

  -- the cells say this of one routine
  pub record SignatureAt (h : Head) (sig : Signature) : Type 0 where
    pub head-is : h ≡ head_in h.word
    pub signature-is : sig ≡ signature_in h.word
    -- its parameters are words of the text
    pub inside : first_parameter h.word + 3 * h.parameters ≤ word_limit

-- and of all: the routines by their heads and by their signatures
pub record Heads (C : List ℕ) (R : List Head) (sigs : List Signature) : Type 0 where
  pub as_many : length R ≡ length sigs
  pub each : (k : ℕ) → k < length R → SignatureAt C (get_or R k no_head) (get_or sigs k no_signature)
