-- Names, types and words by simple tests.
use mathlib.Core.Path.{◌≡◌, sym, ◌∙◌, refl, ap, ap₂}
use mathlib.Core.Bool.{Bool, true, false, not}
use mathlib.Core.List.{List}
use Prim.Native.Nat.{ℕ, suc, ◌+◌, ◌<◌, ◌≤◌}
use native.Mathlib.Omega.{arith}
use lib.Dec.{eqb}
use borrow.Author.Tests.{ne_eqb, eqb-true, eqb-false}
use Rattle.laws.proofs.Tests.{by-same}
use Rattle.paper.specs.Sorts.{FUNC, NAME, open_paren}
use Rattle.paper.specs.Names.{type_of, wrong_name}
use Rattle.paper.specs.Types.{differs}
use Rattle.code.specs.Cells.{op_at, op_in, value_in}
use Rattle.code.specs.Signatures.{first_parameter}
use Rattle.check_names.specs.Meanings.{meaning_with}
use Rattle.check_simple.specs.Parts.{WrongName, said_type, TypeDiffers, IsCall}
use Rattle.layout.specs.Rules.{unknown_name}
use Rattle.layout.specs.declared.rules.Rule.TheVariants.{UnknownName, WrongKind}
use Rattle.layout.specs.Kinds.{an_error_number, a_variable, an_array, a_constant, a_loop, a_routine, an_errno}
use Rattle.check_names.specs.Promises.{TypeNamed}
use denote.Enum.Bare.{sameb}
use Rattle.layout.specs.contracts.types.ValueType.{the_type}
use Rattle.layout.specs.declared.types.ValueType.{ValueType}
use Rattle.layout.specs.Types.{type_in}
use Rattle.layout.proofs.Typing.{types-differ}
use Rattle.check_expressions.proofs.FaultsOfParts.{differs-same}
use Rattle.check_expressions.proofs.TypesCompared.{told-apart, told-same}
use Rattle.paper.specs.Names.{DataType, a_num, a_bool, refused_piece}

-- ---- names of a wrong kind
pub wrong-none : (kind : ℕ) → kind ≡ 0 → WrongName kind UnknownName
unfolding meaning_with wrong_name
wrong-none kind e = record { is = λ routine bool own value. rw e }

unknown-kind : (kind : ℕ) → an_error_number < kind → (routine : ℕ → ℕ) (bool own value : ℕ) → wrong_name (meaning_with routine kind bool own value) ≡ unknown_name
unfolding meaning_with wrong_name
unknown-kind kind h routine bool own value =
    rw (
      ne_eqb kind a_variable (λ e. omega arith),
      ne_eqb kind an_array (λ e. omega arith),
      ne_eqb kind a_constant (λ e. omega arith),
      ne_eqb kind a_loop (λ e. omega arith),
      ne_eqb kind a_routine (λ e. omega arith),
      ne_eqb kind an_errno (λ e. omega arith),
      ne_eqb kind an_error_number (λ e. omega arith),
      meaning_with,
    )

pub wrong-high : (kind : ℕ) → an_error_number < kind → WrongName kind UnknownName
wrong-high kind h = record { is = unknown-kind kind h }

above : (k n : ℕ) → n ≤ k → (k ≡ n → ⊥) → suc n ≤ k
above k n h d = omega (arith, h, d)

pub wrong-other : (kind : ℕ) → 1 ≤ kind → kind ≤ an_error_number → WrongName kind WrongKind
unfolding meaning_with wrong_name
wrong-other kind z h = from_one z
  where
    from-five : 5 ≤ kind → WrongName kind WrongKind
    from-five l =
        by-same kind a_routine (λ e. record { is = λ routine bool own value. rw e })
        (λ a. by-same kind an_errno (λ e. record { is = λ routine bool own value. rw e })
        (λ b. let m = above kind an_errno (above kind a_routine l a) b in let e : kind ≡ an_error_number = omega (arith, m, h) in record { is = λ routine bool own value. rw e }))

    from-three : 3 ≤ kind → WrongName kind WrongKind
    from-three l =
        by-same kind a_constant (λ e. record { is = λ routine bool own value. rw e })
        (λ a. by-same kind a_loop (λ e. record { is = λ routine bool own value. rw e })
        (λ b. from-five (above kind a_loop (above kind a_constant l a) b)))

    from_one : 1 ≤ kind → WrongName kind WrongKind
    from_one l =
        by-same kind a_variable (λ e. record { is = λ routine bool own value. rw e })
        (λ a. by-same kind an_array (λ e. record { is = λ routine bool own value. rw e })
        (λ b. from-three (above kind an_array (above kind a_variable l a) b)))

-- ---- types
refused-same : (t : DataType) → differs refused_piece t ≡ false
unfolding differs
refused-same a_num = refl
refused-same a_bool = refl
refused-same refused_piece = refl

pub differs-unasked : (w : ℕ) (type : ValueType) → (value_in w ≡ 0 → ⊥) → TypeDiffers w type (eqb (value_in w) 0)
unfolding said_type differs
differs-unasked w type h = record { is = λ t e. rw (ne_eqb (value_in w) 0 h, said_type) (refused-same t) }

module _ (w : ℕ) (type : ValueType) (h : value_in w ≡ 0) (r : ValueType) (n : TypeNamed (op_in w) r) where
  said : said_type w ≡ type_of (op_in w)
  unfolding said_type
  said = rw (h, said_type)

  -- as the paper has them
  both : (t : DataType) → type_in type ≡ t → differs (said_type w) t ≡ differs (type_in r) (type_in type)
  both t q = ap₂ differs (said ∙ sym n.is) (sym q)

  pub differs-asked : (b : Bool) → b ≡ not (sameb the_type r type) → TypeDiffers w type b
  differs-asked true e = record { is = λ t q. both t q ∙ types-differ r type (told-apart r type e) }
  differs-asked false e = record { is = λ t q. both t q ∙ ap (λ (x : ValueType). differs (type_in x) (type_in type)) (told-same r type e) ∙ differs-same (type_in type) }

-- ---- words
module _ (C : List ℕ) (at s : ℕ) (e : s ≡ op_at C at) where
  pub call-not : (s ≡ NAME → ⊥) → IsCall C at (eqb s NAME)
  call-not d = record { yes = λ t. absurd (d (eqb-true s NAME t)); no = λ _ n. absurd (d (e ∙ n)) }

  pub call-is : s ≡ NAME → (r : ℕ) → r ≡ op_at C (at + 1) → IsCall C at (eqb r open_paren)
  call-is n r q = record {
    yes = λ t. (sym e ∙ n, sym q ∙ eqb-true r open_paren t);
    no = λ f _ o. eqb-false r open_paren f (q ∙ o);
  }

pub parameter-func : (C : List ℕ) (h s : ℕ) → s ≡ op_at C h → s ≡ FUNC → h + 4 ≡ first_parameter C h
unfolding first_parameter
parameter-func C h s e f = let q : op_at C h ≡ FUNC = sym e ∙ f in rw (q, first_parameter)

pub parameter-proc : (C : List ℕ) (h s : ℕ) → s ≡ op_at C h → (s ≡ FUNC → ⊥) → h + 3 ≡ first_parameter C h
unfolding first_parameter
parameter-proc C h s e f = rw (ne_eqb (op_at C h) FUNC (λ q. f (e ∙ q)), first_parameter)
