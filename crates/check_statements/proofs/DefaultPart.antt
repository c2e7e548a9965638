-- DEFAULT with its list, or ENDTEST.
use Rattle.paper.specs.Words.{word_limit}
use Rattle.check_names.specs.Promises.{store_bytes}
use Rattle.layout.specs.Parts.{link_part}
use mathlib.Core.Path.{◌≡◌, refl, sym, ap, subst, ◌∙◌}
use mathlib.Core.List.{List}
use Prim.Native.Nat.{ℕ, ◌+◌, ◌*◌, ◌<◌, ◌≤◌}
use native.Mathlib.Omega.{arith}
use lib.ListN.{length}
use Rattle.store_cells.specs.Cells.{cells_of}
use Rattle.paper.specs.Sorts.{DEFAULT}
use Rattle.paper.specs.Trees.{Statements}
use Rattle.paper.specs.Names.{sort_in}
use Rattle.paper.specs.Checks.{fors_in_list, list_faults}
use Rattle.code.specs.Cells.{op_in, place_in, link_in, op_at, place_at, link_at}
use Rattle.store_writing.specs.Promises.{tail_with, Rewritten, Linked}
use Rattle.store_writing.proofs.Rewriting.{rewritten-length, rewritten-head, rewritten-tail}
use Rattle.grammar.specs.Form.{Parses}
use Rattle.grammar.proofs.Inversions.{default-some, default_none}
use Rattle.grammar.proofs.Places.{default-grows}
use Rattle.faults.proofs.Expressions.{grows}
use Rattle.check_links.specs.Raw.{RawWord, at_once, closed, RawDefault, RawList}
use Rattle.check_around.specs.declared.Setting.{Setting}
use Rattle.check_around.specs.Around.{Around, ground_of}
use Rattle.check_names.specs.declared.Scope.{Scope}
use Rattle.check_names.specs.Scopes.{with_used, Walked}
use Rattle.check_statements.specs.Answers.{Lists, Answer, Listed}
use Rattle.check_statements.specs.Parts.{Defaults, Defaulted}
use Rattle.check_statements.proofs.Same.{same-values}
use Rattle.check_compounds.proofs.Frames.{outside_wider, same-before, place_same, word_same, linked-outside, linked-word}
use Rattle.check_statements.proofs.Behind.{Behind, behind-lists, behind-wrong, behind-closes, behind-list, behind-right}
use Rattle.check_statements.proofs.ListWalk.{as-scope, done-answer}
use Rattle.check_compounds.proofs.Frames.{rewritten-outside}
use Rattle.code.specs.Steps.{a_pass, an_otherwise}
use Rattle.std.specs.Prelude.{Ok, Err}
use Rattle.layout.specs.declared.rules.Breach.{Breach}

-- a word that is written with its place
module _ {before after : List ℕ} {i op : ℕ} (place link : ℕ) (r : Rewritten before after i op (tail_with place link)) (room : i * 8 + 8 ≤ length before) where
  pub rewritten-op : op < 256 → op_at (cells_of after) i ≡ op
  rewritten-op h = ap op_in (rewritten-head r room) ∙ omega arith

  pub rewritten-place : place < link_part → place_at (cells_of after) i ≡ place
  rewritten-place h = ap place_in (rewritten-tail r room) ∙ omega arith

  pub rewritten-link : place < link_part → link_at (cells_of after) i ≡ link
  rewritten-link h = ap link_in (rewritten-tail r room) ∙ omega arith

module _ (text code values : List ℕ) (k : Setting) (used c : ℕ) (g : Defaults text code values k used c) where
  abbrev a : Around text values
  a = g.around

  order : c ≤ g.z
  order = default-grows (sort_in a.known.W) (Parses (sort_in a.known.W)) (grows a.known.W) g.is

  last : g.to < word_limit
  last = g.here.unread.loaded.last

  pub default-room : (c < 8191) × (c * 8 + 8 ≤ length code) × (store_bytes ≤ length code)
  default-room = (omega (arith, order, last, g.after), omega (arith, order, last, g.after, g.here.calls.room), g.here.calls.room)

  abbrev ForDefault : (after values' : List ℕ) → Walked → Type 0
  ForDefault after values' r =
      Answer (list_faults a.known.W a.K a.M g.o a.known.S used) code after values values' c g.to (used + fors_in_list g.o)
      (RawDefault (ground_of a) a.known.n (cells_of after) (λ (x y : ℕ). RawList (ground_of a) a.known.n (cells_of after) g.o a.known.S used x y) c g.to) r

  module _ (s : ℕ) (es : s ≡ op_at (cells_of code) c) where
    sort-is : sort_in a.known.W c ≡ s
    sort-is = sym (es ∙ (g.here.unread.loaded.words c (omega arith) (omega (arith, order, g.after))).sort)

    no : (s ≡ DEFAULT → ⊥) → (one : List ℕ) → Rewritten code one c an_otherwise (tail_with (c + 1) (c + 1)) → (scope : Scope) → ForDefault one values (Ok (c + 1, with_used used scope))
    unfolding list_faults fors_in_list RawList
    no f one l scope =
        let q = default_none (sort_in a.known.W) (Parses (sort_in a.known.W)) g.is (λ e. f (sym sort-is ∙ e)) in
        let z : g.z ≡ c = q.1 in
        let none : fors_in_list g.o ≡ 0 = ap fors_in_list q.0 in
        let to_is : c + 1 ≡ g.to = omega (arith, g.after, z) in
        let small : c + 1 < link_part = omega (arith, default-room) in
        done-answer _ _ _ _ _ _ _ _ _ _ _
        (record {
          none = ap (λ (o : Statements). list_faults a.known.W a.K a.M o a.known.S used) q.0;
          next-is = to_is;
          used-is = omega (arith, none);
          few = g.here.few;
          written = record {
            z = c + 1;
            first = c + 1;
            word = record { is = rewritten-op (c + 1) (c + 1) l default-room.1 (omega arith); leaves = rewritten-link (c + 1) (c + 1) l default-room.1 small };
            place = rewritten-place (c + 1) (c + 1) l default-room.1 small;
            before = omega arith;
            list = subst (λ (o : Statements). RawList (ground_of a) a.known.n (cells_of one) o a.known.S used (c + 1) (c + 1)) (sym q.0) refl;
            ends = at_once to_is;
          };
          outside = outside_wider c g.to (rewritten-outside l default-room.1) (omega arith) (omega (arith, to_is));
          same = same-values values;
        })
        (rewritten-length l default-room.1)

    module _ (e : s ≡ DEFAULT) where
      abbrev behind : Behind text code values k used c 2
      behind = record {
        to = g.to;
        around = a;
        here = g.here;
        d = g.d;
        o = g.o;
        z = g.z;
        list = default-some (sort_in a.known.W) (Parses (sort_in a.known.W)) g.is (sort-is ∙ e);
        after = g.after;
        room = g.room;
      }

      pub default-lists : Lists text code values k used (c + 2)
      default-lists = behind-lists behind

      module _ (one values' : List ℕ) (r : Walked) (l : Listed text code values one values' k used (c + 2) r) where
        wrong : (broken : Breach) → r ≡ Err broken → ForDefault one values' (Err broken)
        wrong broken q = behind-wrong behind one values' r l _ broken q

        module _ (z : ℕ) (n : Scope) (q : r ≡ Ok (z, n)) where
          closes : (c + 2 ≤ z) × (z < 8191) × (z + 1 ≡ g.to) × (length one ≡ length code)
          closes = behind-closes behind one values' r l z n q

          pub default-closes : (c + 1 < z) × (z < 8191) × (c * 8 + 8 ≤ length one) × (store_bytes ≤ length one)
          default-closes = (omega (arith, closes), closes.1, omega (arith, default-room, closes), omega (arith, default-room, closes))

          yes : (two three : List ℕ) → Rewritten one two c an_otherwise (tail_with (c + 2) z) → Linked two three z a_pass 0 (z + 1) → ForDefault three values' (Ok (z + 1, n))
          yes two three x y =
              let o = rewritten-outside x default-closes.2 in
              let p = linked-outside y in
              let small : c + 2 < link_part = omega (arith, default-room) in
              let sp = same-before c (c + 1) p (omega (arith, closes)) in
              behind-right behind one values' r l z n q two three o p (omega arith) _
              (record {
                z = z;
                first = c + 2;
                word = word_same sp c (omega arith) (omega arith) _ z (record { is = rewritten-op (c + 2) z x default-closes.2 (omega arith); leaves = rewritten-link (c + 2) z x default-closes.2 small });
                place = place_same sp c (omega arith) (omega arith) _ (rewritten-place (c + 2) z x default-closes.2 small);
                before = omega arith;
                list = behind-list behind one values' r l z n q two three o p (omega arith);
                ends = closed (subst (RawWord (cells_of three) a_pass z) closes.2 (linked-word y)) (sym closes.2);
              })
              (y.kept.long ∙ rewritten-length x default-closes.2 ∙ closes.3)

-- ---- for whatever it is
module _ (text code values : List ℕ) (k : Setting) (used c s : ℕ) (es : s ≡ op_at (cells_of code) c) where
  pub default-no : (s ≡ DEFAULT → ⊥) → (one : List ℕ) → Rewritten code one c an_otherwise (tail_with (c + 1) (c + 1)) → (scope : Scope) → scope.used ≡ used
      → Defaulted text code values one values k used c (Ok (c + 1, scope))
  default-no f one l scope u = as-scope (Defaulted text code values one values k used c) (c + 1) scope u (record { is = λ g. no text code values k used c g s es f one l scope })

  module _ (e : s ≡ DEFAULT) (one values' : List ℕ) (r : Walked) (l : Listed text code values one values' k used (c + 2) r) where
    pub default-wrong : (broken : Breach) → r ≡ Err broken → Defaulted text code values one values' k used c (Err broken)
    default-wrong broken q = record { is = λ g. wrong text code values k used c g s es e one values' r l broken q }

    pub default-yes : (z : ℕ) (n : Scope) → r ≡ Ok (z, n) → (two three : List ℕ) → Rewritten one two c an_otherwise (tail_with (c + 2) z) → Linked two three z a_pass 0 (z + 1) → Defaulted text code values three values' k used c (Ok (z + 1, n))
    default-yes z n q two three x y = record { is = λ g. yes text code values k used c g s es e one values' r l z n q two three x y }
