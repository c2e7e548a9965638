-- ELSE with its list, or ENDIF.
use Rattle.paper.specs.Words.{word_limit}
use Rattle.check_names.specs.Promises.{store_bytes}
use mathlib.Core.Path.{◌≡◌, refl, sym, ap, subst, ◌∙◌}
use mathlib.Core.List.{List}
use Prim.Native.Nat.{ℕ, ◌+◌, ◌<◌, ◌≤◌}
use native.Mathlib.Omega.{arith}
use lib.ListN.{length}
use Rattle.store_cells.specs.Cells.{cells_of}
use Rattle.paper.specs.Sorts.{ELSE}
use Rattle.paper.specs.Trees.{Statements}
use Rattle.paper.specs.Names.{sort_in}
use Rattle.paper.specs.Checks.{fors_in_list, list_faults}
use Rattle.code.specs.Cells.{op_at}
use Rattle.grammar.specs.Form.{Parses}
use Rattle.grammar.proofs.Inversions.{else-some, else-none}
use Rattle.grammar.proofs.Places.{else-grows}
use Rattle.store_writing.specs.Promises.{Linked}
use Rattle.faults.proofs.Expressions.{grows}
use Rattle.check_links.specs.Raw.{RawWord, an-else, no-else, RawElse, RawList}
use Rattle.check_around.specs.declared.Setting.{Setting}
use Rattle.check_around.specs.Around.{Around, ground_of}
use Rattle.check_names.specs.declared.Scope.{Scope}
use Rattle.check_names.specs.Scopes.{with_used, Walked}
use Rattle.check_statements.specs.Answers.{Lists, Answer, Listed}
use Rattle.check_statements.specs.Parts.{Elses, ElseWritten, Elsed}
use Rattle.check_statements.proofs.Same.{same-values}
use Rattle.check_compounds.proofs.Frames.{outside_wider, same-before, word_same, linked-outside, linked-word}
use Rattle.check_statements.proofs.Behind.{Behind, behind-lists, behind-wrong, behind-closes, behind-list, behind-right}
use Rattle.check_statements.proofs.ListWalk.{as-scope, done-answer}
use Rattle.code.specs.Steps.{a_pass}
use Rattle.std.specs.Prelude.{Ok, Err}
use Rattle.layout.specs.declared.rules.Breach.{Breach}

module _ (text code values : List ℕ) (k : Setting) (used c : ℕ) (g : Elses text code values k used c) where
  abbrev a : Around text values
  a = g.around

  order : c ≤ g.z
  order = else-grows (sort_in a.known.W) (Parses (sort_in a.known.W)) (grows a.known.W) g.is

  last : g.to < word_limit
  last = g.here.unread.loaded.last

  pub else-room : (c < 8191) × (store_bytes ≤ length code)
  else-room = (omega (arith, order, last, g.after), g.here.calls.room)

  abbrev ForElse : (after values' : List ℕ) → Walked → Type 0
  ForElse after values' r =
      Answer (list_faults a.known.W a.K a.M g.o a.known.S used) code after values values' c g.to (used + fors_in_list g.o)
      (ElseWritten (sort_in a.known.W)
      (λ (first : ℕ). RawElse (ground_of a) a.known.n (cells_of after) (λ (x y : ℕ). RawList (ground_of a) a.known.n (cells_of after) g.o a.known.S used x y) c first g.to) c) r

  module _ (s : ℕ) (es : s ≡ op_at (cells_of code) c) where
    sort-is : sort_in a.known.W c ≡ s
    sort-is = sym (es ∙ (g.here.unread.loaded.words c (omega arith) (omega (arith, order, g.after))).sort)

    no : (s ≡ ELSE → ⊥) → (one : List ℕ) → Linked code one c a_pass 0 (c + 1) → (scope : Scope) → ForElse one values (Ok (c + 1, with_used used scope))
    unfolding list_faults fors_in_list RawList
    no f one l scope =
        let q = else-none (sort_in a.known.W) (Parses (sort_in a.known.W)) g.is (λ e. f (sym sort-is ∙ e)) in
        let z : g.z ≡ c = q.1 in
        let none : fors_in_list g.o ≡ 0 = ap fors_in_list q.0 in
        let to_is : c + 1 ≡ g.to = omega (arith, g.after, z) in
        done-answer _ _ _ _ _ _ _ _ _ _ _
        (record {
          none = ap (λ (o : Statements). list_faults a.known.W a.K a.M o a.known.S used) q.0;
          next-is = to_is;
          used-is = omega (arith, none);
          few = g.here.few;
          written = record {
            first = c;
            at-else = λ e. absurd (f (sym sort-is ∙ e));
            elsewhere = λ _. refl;
            is = record {
              z = c;
              begins = no-else refl refl;
              list = subst (λ (o : Statements). RawList (ground_of a) a.known.n (cells_of one) o a.known.S used c c) (sym q.0) refl;
              word = subst (RawWord (cells_of one) a_pass c) to_is (linked-word l);
              end = sym to_is;
            };
          };
          outside = outside_wider c g.to (linked-outside l) (omega arith) (omega (arith, to_is));
          same = same-values values;
        })
        l.kept.long

    module _ (e : s ≡ ELSE) where
      abbrev behind : Behind text code values k used c 1
      behind = record {
        to = g.to;
        around = a;
        here = g.here;
        d = g.d;
        o = g.o;
        z = g.z;
        list = else-some (sort_in a.known.W) (Parses (sort_in a.known.W)) g.is (sort-is ∙ e);
        after = g.after;
        room = g.room;
      }

      pub else-lists : Lists text code values k used (c + 1)
      else-lists = behind-lists behind

      module _ (one values' : List ℕ) (r : Walked) (l : Listed text code values one values' k used (c + 1) r) where
        wrong : (broken : Breach) → r ≡ Err broken → ForElse one values' (Err broken)
        wrong broken q = behind-wrong behind one values' r l _ broken q

        module _ (z : ℕ) (n : Scope) (q : r ≡ Ok (z, n)) where
          closes : (c + 1 ≤ z) × (z < 8191) × (z + 1 ≡ g.to) × (length one ≡ length code)
          closes = behind-closes behind one values' r l z n q

          pub else-closes : (c < z) × (z < 8191) × (length one ≡ length code)
          else-closes = (omega (arith, closes), closes.1, closes.3)

          yes : (two three : List ℕ) → Linked one two c a_pass 0 z → Linked two three z a_pass 0 (z + 1) → ForElse three values' (Ok (z + 1, n))
          yes two three x y =
              let p = linked-outside y in
              behind-right behind one values' r l z n q two three (linked-outside x) p (omega arith) _
              (record {
                first = c + 1;
                at-else = λ _. refl;
                elsewhere = λ f. absurd (f (sort-is ∙ e));
                is = record {
                  z = z;
                  begins = an-else (word_same (same-before c (c + 1) p (omega (arith, closes))) c (omega arith) (omega arith) _ z (linked-word x)) refl;
                  list = behind-list behind one values' r l z n q two three (linked-outside x) p (omega arith);
                  word = subst (RawWord (cells_of three) a_pass z) closes.2 (linked-word y);
                  end = sym closes.2;
                };
              })
              (y.kept.long ∙ x.kept.long ∙ closes.3)

-- ---- for whatever it is
module _ (text code values : List ℕ) (k : Setting) (used c s : ℕ) (es : s ≡ op_at (cells_of code) c) where
  pub else-no : (s ≡ ELSE → ⊥) → (one : List ℕ) → Linked code one c a_pass 0 (c + 1) → (scope : Scope) → scope.used ≡ used → Elsed text code values one values k used c (Ok (c + 1, scope))
  else-no f one l scope u = as-scope (Elsed text code values one values k used c) (c + 1) scope u (record { is = λ g. no text code values k used c g s es f one l scope })

  module _ (e : s ≡ ELSE) (one values' : List ℕ) (r : Walked) (l : Listed text code values one values' k used (c + 1) r) where
    pub else-wrong : (broken : Breach) → r ≡ Err broken → Elsed text code values one values' k used c (Err broken)
    else-wrong broken q = record { is = λ g. wrong text code values k used c g s es e one values' r l broken q }

    pub else-yes : (z : ℕ) (n : Scope) → r ≡ Ok (z, n) → (two three : List ℕ) → Linked one two c a_pass 0 z → Linked two three z a_pass 0 (z + 1) → Elsed text code values three values' k used c (Ok (z + 1, n))
    else-yes z n q two three x y = record { is = λ g. yes text code values k used c g s es e one values' r l z n q two three x y }
