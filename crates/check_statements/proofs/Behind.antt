-- A list that stands some words behind the word c, and is closed by the last word of its part: ELSE and DEFAULT have one. What its walk asks, and what of its answer holds when both words are
-- written over.
use mathlib.Core.Path.{◌≡◌, sym, subst}
use mathlib.Core.List.{List}
use Prim.Native.Nat.{ℕ, ◌+◌, ◌<◌, ◌≤◌}
use native.Mathlib.Omega.{arith}
use lib.ListN.{length}
use Rattle.store_cells.specs.Cells.{cells_of}
use Rattle.paper.specs.Trees.{Statements}
use Rattle.paper.specs.Names.{sort_in}
use Rattle.paper.specs.Types.{Fault}
use Rattle.paper.specs.Checks.{fors_in_list, list_faults}
use Rattle.grammar.specs.Form.{Parses, ListAt}
use Rattle.grammar.proofs.Places.{list-grows}
use Rattle.faults.proofs.Expressions.{grows}
use Rattle.check_links.specs.Raw.{RawList}
use Rattle.check_around.specs.declared.Setting.{Setting}
use Rattle.check_around.specs.Around.{Around, ground_of}
use Rattle.check_compounds.specs.Here.{Outside, Here}
use Rattle.check_compounds.proofs.Frames.{outside_wider, outside-on, same-before, same-behind, same-on, here-part, list_same}
use Rattle.check_names.specs.declared.Scope.{Scope}
use Rattle.check_statements.specs.Answers.{Lists, Done, Answer, Listed}
use Rattle.check_statements.proofs.ListWalk.{upto_done, faulty-first, done-answer, first-answer}
use Rattle.check_names.specs.Scopes.{Walked}
use Rattle.std.specs.Prelude.{Ok, Err}
use Rattle.layout.specs.declared.rules.Breach.{Breach}

-- so many words behind c
pub record Behind (text code values : List ℕ) (k : Setting) (used c words : ℕ) : Type 0 where
  pub to : ℕ
  pub around : Around text values
  pub here : Here around code k used c to
  pub d : ℕ
  pub o : Statements
  pub z : ℕ
  pub list : ListAt (sort_in around.known.W) (Parses (sort_in around.known.W)) d o (c + words) z
  pub after : to ≡ z + 1
  pub room : used + fors_in_list o ≤ around.known.n

module _ {text code values : List ℕ} {k : Setting} {used c words : ℕ} (b : Behind text code values k used c words) where
  abbrev a : Around text values
  a = b.around

  pub behind-grows : c + words ≤ b.z
  behind-grows = list-grows (sort_in a.known.W) (Parses (sort_in a.known.W)) (grows a.known.W) b.list

  pub behind-small : b.z < 8191
  behind-small = omega (arith, b.here.unread.loaded.last, b.after)

  unfoldable pub behind-lists : Lists text code values k used (c + words)
  behind-lists = record {
    to = b.z;
    around = a;
    here = here-part a code k used c b.to (c + words) b.z b.here (omega arith) (omega (arith, behind-grows, b.after)) (omega (arith, b.after));
    d = b.d;
    l = b.o;
    is = b.list;
    room = b.room;
  }

  abbrev pub behind-faults : List Fault
  behind-faults = list_faults a.known.W a.K a.M b.o a.known.S used

  abbrev pub behind-raw : (C : List ℕ) (x y : ℕ) → Type 0
  behind-raw C x y = RawList (ground_of a) a.known.n C b.o a.known.S used x y

  module _ (one values' : List ℕ) (r : Walked) (l : Listed text code values one values' k used (c + words) r) where
    pub behind-answer : Answer behind-faults code one values values' (c + words) b.z (used + fors_in_list b.o) (behind-raw (cells_of one) (c + words) b.z) r
    unfolding behind-lists
    behind-answer = l.is behind-lists

    -- its fault is the fault of the whole, whatever is to be written of it
    pub behind-wrong : (raw : Type 0) (broken : Breach) → r ≡ Err broken → Answer behind-faults code one values values' c b.to (used + fors_in_list b.o) raw (Err broken)
    behind-wrong raw broken q = first-answer _ _ _ _ _ _ _ _ broken _ (faulty-first r behind-answer broken q) behind-answer.long

    module _ (z : ℕ) (n : Scope) (q : r ≡ Ok (z, n)) where
      pub behind-done : Done behind-faults code one values values' (c + words) b.z (used + fors_in_list b.o) z n.used (behind-raw (cells_of one) (c + words) b.z)
      behind-done = upto_done r behind-answer z n q

      pub behind-closes : (c + words ≤ z) × (z < 8191) × (z + 1 ≡ b.to) × (length one ≡ length code)
      behind-closes =
          (omega (arith, behind-grows, behind-done.next-is), omega (arith, behind-small, behind-done.next-is), omega (arith, behind-done.next-is, b.after), behind-answer.long)

      -- the word c and the word that closes it are written over
      module _ (two three : List ℕ) (first : Outside (cells_of one) (cells_of two) c (c + 1)) (last : Outside (cells_of two) (cells_of three) z (z + 1)) (some : 0 < words) where
        behind-outside : Outside (cells_of code) (cells_of three) c b.to
        behind-outside =
            outside-on (outside-on (outside_wider c b.to behind-done.outside (omega arith) (omega (arith, b.after))) (outside_wider c b.to first (omega arith) (omega (arith, behind-grows, b.after))))
            (outside_wider c b.to last (omega (arith, behind-closes)) (omega (arith, behind-closes)))

        pub behind-list : behind-raw (cells_of three) (c + words) z
        behind-list =
            subst (behind-raw (cells_of three) (c + words)) (sym behind-done.next-is)
            (list_same (ground_of a) a.known.n (cells_of one) (cells_of three) b.o a.known.S used (c + words) b.z
            (same-on (same-behind (c + words) b.z first (omega arith)) (same-before (c + words) b.z last (omega (arith, behind-done.next-is)))) behind-done.written)

        -- and then what is written of the whole
        pub behind-right : (raw : Type 0) → raw → length three ≡ length code → Answer behind-faults code three values values' c b.to (used + fors_in_list b.o) raw (Ok (z + 1, n))
        behind-right raw w long =
            done-answer _ _ _ _ _ _ _ _ _ _ _
            (record {
              none = behind-done.none;
              next-is = behind-closes.2;
              used-is = behind-done.used-is;
              few = behind-done.few;
              written = w;
              outside = behind-outside;
              same = behind-done.same;
            })
            long
