-- An argument against the type of its parameter.
use mathlib.Core.Path.{◌≡◌, sym, ap, subst, ◌∙◌}
use mathlib.Core.Bool.{Bool, true, false}
use mathlib.Core.List.{List, [], ◌++◌}
use Prim.Native.Nat.{ℕ}
use Rattle.paper.specs.Trees.{first}
use Rattle.paper.specs.Names.{DataType, sort_in}
use Rattle.paper.specs.Types.{fault, fault_if, differs, wanted, judge}
use Rattle.paper.specs.Types as types
use Rattle.store_cells.specs.Cells.{cells_of}
use Rattle.code.specs.Cells.{head_at}
use Rattle.code.specs.Signatures.{type_at}
use Rattle.climb.proofs.Places.{spans-first, stands}
use Rattle.check_expressions.specs.Judgements.{Judged}
use Rattle.std.specs.Prelude.{Ok, Err}
use Rattle.layout.specs.Broken.{as_fault}
use Rattle.layout.specs.declared.rules.Breach.{Breach}
use Rattle.layout.specs.declared.rules.Rule.TheVariants.{WrongType}
use Rattle.check_expressions.specs.Answers.{SaysUnder, Judges, Checked}
use Rattle.check_expressions.proofs.FaultsOfParts.{wanted-first}
use Rattle.check_expressions.proofs.Around.{says_typed, says-faulty}
use Rattle.check_simple.specs.Parts.{said_type, TypeDiffers, passed, Passed}
use Rattle.layout.specs.Rules.{wrong_type}
use Rattle.layout.specs.Types.{type_in}
use Rattle.layout.specs.declared.types.ValueType.{ValueType}

pub type-at : (C : List ℕ) (p asked : ℕ) → asked ≡ head_at C p → said_type asked ≡ type_at C p
unfolding said_type type_at
type-at C p asked e = rw e

wanted-fine : (t : DataType) (i : ℕ) (j : types.Judged) → j.faults ≡ [] → differs t j.type ≡ false → wanted t i j ≡ []
unfolding wanted fault_if
wanted-fine t i j n d = rw (n, d, wanted)

wanted-bad : (t : DataType) (i : ℕ) (j : types.Judged) → j.faults ≡ [] → differs t j.type ≡ true → wanted t i j ≡ fault wrong_type i
unfolding wanted fault_if
wanted-bad t i j n d = rw (n, d, wanted)

module _ (code values after : List ℕ) (p at asked : ℕ) (e : asked ≡ head_at (cells_of code) p) (r : Judged) (c : Checked code values after false 5 at r) where
  pub passed-faulty : (broken : Breach) → r ≡ Err broken → Passed code values after p at r
  unfolding SaysUnder
  passed-faulty broken q = record {
    is = λ s.
        let j = judge s.known.W false s.known.S s.e in
        let t = type_at (cells_of code) p in
        let f = says-faulty _ _ _ _ _ _ r broken q (c.is s).says in
        subst (Judges s.known.m s.known.n code after at s.to (passed t (first s.e) j)) (sym q)
        (record {
          says = record {
            others = f.others ++ fault_if (differs t j.type) wrong_type (first s.e);
            faults-are = wanted-first t (first s.e) j (as_fault broken) f.others f.faults-are;
          };
          kept = (c.is s).kept;
          low = (c.is s).low;
        });
  }

  module _ (bool : ValueType) (end : ℕ) (q : r ≡ Ok (bool, end)) (t : Bool) (d : TypeDiffers asked bool t) where
    differs-is : (x : DataType) → type_in bool ≡ x → differs (type_at (cells_of code) p) x ≡ t
    differs-is x z = sym (ap (λ (y : DataType). differs y x) (type-at (cells_of code) p asked e)) ∙ d.is x z

    pub passed-wrong : t ≡ true → Passed code values after p at (Err (record { rule = WrongType; word = at }))
    unfolding SaysUnder fault
    passed-wrong y = record {
      is = λ s.
          let j = judge s.known.W false s.known.S s.e in
          let x = says_typed _ _ _ _ _ _ r bool end q (c.is s).says in
          let start = spans-first s.e at s.to (stands (sort_in s.known.W) s.d 5 at (s.e, s.to) s.is) in
          record {
            says = record {
              others = [];
              faults-are = wanted-bad (type_at (cells_of code) p) (first s.e) j x.none (differs-is j.type x.type-is ∙ y) ∙ ap (fault wrong_type) start;
            };
            kept = (c.is s).kept;
            low = (c.is s).low;
          };
    }

    pub passed-right : t ≡ false → Passed code values after p at (Ok (bool, end))
    unfolding SaysUnder
    passed-right y = record {
      is = λ s.
          let j = judge s.known.W false s.known.S s.e in
          let x = says_typed _ _ _ _ _ _ r bool end q (c.is s).says in
          record {
            says = record {
              none = wanted-fine (type_at (cells_of code) p) (first s.e) j x.none (differs-is j.type x.type-is ∙ y);
              type-is = x.type-is;
              next-is = x.next-is;
              stands = x.stands;
            };
            kept = (c.is s).kept;
            low = (c.is s).low;
          };
    }
