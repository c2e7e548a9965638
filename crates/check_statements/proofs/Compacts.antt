-- Simple statements, by themselves and in a compact IF.
use Rattle.paper.specs.Words.{word_limit}
use mathlib.Core.Path.{◌≡◌, refl, sym, subst, ◌∙◌}
use mathlib.Core.List.{List}
use Prim.Native.Nat.{ℕ, ◌+◌, ◌*◌, ◌<◌, ◌≤◌}
use native.Mathlib.Omega.{arith}
use lib.ListN.{length}
use Rattle.store_cells.specs.Cells.{cells_of}
use Rattle.paper.specs.Sorts.{semicolon}
use Rattle.paper.specs.Trees.{Simple, Statement, compact_if}
use Rattle.paper.specs.Names.{sort_in}
use Rattle.paper.specs.Checks.{fors_in, simple_faults, statement_faults}
use Rattle.grammar.specs.Form.{Parses, SimpleAt}
use Rattle.grammar.proofs.Inversions as inversions
use Rattle.grammar.proofs.Inversions.{statement-plain}
use Rattle.grammar.proofs.Places.{simple-grows}
use Rattle.store_writing.specs.Promises.{Linked}
use Rattle.store_writing.proofs.Keeping.{place-below}
use Rattle.faults.proofs.Expressions.{grows}
use Rattle.check_links.specs.Raw.{RawWord, RawTerm, RawSimple, RawStatement}
use Rattle.check_links.proofs.Framing.{simple-frame}
use Rattle.check_around.specs.declared.Setting.{Setting}
use Rattle.check_around.specs.Around.{Around, ground_of, offset_in}
use Rattle.check_simple.specs.Answers as simples
use Rattle.check_around.specs.Answers as answered
use Rattle.check_names.specs.declared.Scope.{Scope}
use Rattle.check_names.specs.Scopes.{with_used, Walked}
use Rattle.check_statements.specs.Answers.{Stands, Answer, StatementAnswer}
use Rattle.check_compounds.specs.Here.{Here}
use Rattle.check_statements.specs.Parts.{Plain, Plainly, Compacts, Compacted}
use Rattle.check_statements.proofs.Same.{same-values}
use Rattle.check_compounds.proofs.Frames.{outside_wider, outside-on, kept-outside, same-before, same-behind, same-on, here-part, term-same, linked-outside, linked-word}
use Rattle.check_statements.proofs.ListWalk.{as-scope, done-answer, first-answer}
use Rattle.code.specs.Steps.{a_compact_if}
use Rattle.check_compounds.proofs.AnswerShapes.{typed-fine, faulty-found}
use Rattle.check_around.specs.Answers.{Stepped}
use Rattle.std.specs.Prelude.{Ok, Err}
use Rattle.layout.specs.declared.rules.Breach.{Breach}

-- ---- a simple statement from t up to its semicolon at n
module _ (text code values : List ℕ) (a : Around text values) (k : Setting) (used t to : ℕ) (h : Here a code k used t to) (s : Simple) (n : ℕ)
    (is : SimpleAt (sort_in a.known.W) (Parses (sort_in a.known.W)) s t n) (ends : sort_in a.known.W n ≡ semicolon) (within : n ≤ to) where
  forward : t < n
  forward = simple-grows (sort_in a.known.W) (Parses (sort_in a.known.W)) (grows a.known.W) is

  part : Here a code k used t n
  part = here-part a code k used t to t n h (omega arith) (omega (arith, forward)) within

  pub simple-stands : simples.Statement text code values k t
  simple-stands = record {
    stands = record { text = text; around = a; s = s; to = n; is = is; ends = ends; unread = part.unread; calls = part.calls };
    text-is = refl;
    tells = h.tells;
  }

  pub simple-answers : (one : List ℕ) (j : Stepped) → simples.Stated text code values one k t j
      → answered.Answer (simple_faults a.known.W a.K a.known.S s) code one t (n + 1) (RawSimple (ground_of a) a.known.n (cells_of one) a.known.S s t (n + 1)) j
  unfolding simple-stands
  simple-answers one j x = x.is simple-stands

-- ---- by itself
module _ (text code values : List ℕ) (k : Setting) (used i : ℕ) (g : Plain text code values k used i) where
  abbrev s : Stands text code values k used i
  s = g.stands

  abbrev a : Around text values
  a = s.around

  w : inversions.Plain (sort_in a.known.W) (Parses (sort_in a.known.W)) s.s i s.to
  w = statement-plain (sort_in a.known.W) (Parses (sort_in a.known.W)) s.is g.no-if g.no-for g.no-while g.no_test

  pub plain-stands : simples.Statement text code values k i
  plain-stands = simple-stands text code values a k used i s.to s.here w.simply w.n w.stands w.ends (omega (arith, w.after))

  abbrev ForStatement : (after : List ℕ) → Walked → Statement → Type 0
  ForStatement after r t =
      Answer (statement_faults a.known.W a.K a.M t a.known.S used) code after values values i s.to (used + fors_in t) (RawStatement (ground_of a) a.known.n (cells_of after) t a.known.S used i s.to) r

  module _ (one : List ℕ) (j : Stepped) (x : simples.Stated text code values one k i j) where
    answers : answered.Answer (simple_faults a.known.W a.K a.known.S w.simply) code one i (w.n + 1) (RawSimple (ground_of a) a.known.n (cells_of one) a.known.S w.simply i (w.n + 1)) j
    answers = simple-answers text code values a k used i s.to s.here w.simply w.n w.stands w.ends (omega (arith, w.after)) one j x

    wrong : (broken : Breach) → j ≡ Err broken → StatementAnswer g.stands one values (Err broken)
    unfolding statement_faults
    wrong broken q = subst (ForStatement one (Err broken)) (sym w.is) (first-answer _ _ _ _ _ _ _ _ broken _ (faulty-found j answers broken q) answers.long)

    right : (next : ℕ) → j ≡ Ok next → (scope : Scope) → StatementAnswer g.stands one values (Ok (next, with_used used scope))
    unfolding statement_faults fors_in RawStatement
    right next q scope =
        let f = typed-fine j answers next q in
        subst (ForStatement one (Ok (next, with_used used scope))) (sym w.is)
        (done-answer _ _ _ _ _ _ _ _ _ _ _
        (record {
          none = f.none;
          next-is = f.next-is ∙ sym w.after;
          used-is = omega arith;
          few = s.here.few;
          written = subst (RawSimple (ground_of a) a.known.n (cells_of one) a.known.S w.simply i) (sym w.after) f.written;
          outside = outside_wider i s.to (kept-outside f.kept) (omega arith) (omega (arith, w.after));
          same = same-values values;
        })
        answers.long)

module _ (text code values : List ℕ) (k : Setting) (used i : ℕ) (one : List ℕ) (j : Stepped) (x : simples.Stated text code values one k i j) where
  pub plain-wrong : (broken : Breach) → j ≡ Err broken → Plainly text code values one k used i (Err broken)
  plain-wrong broken q = record { is = λ g. wrong text code values k used i g one j x broken q }

  pub plain-right : (next : ℕ) → j ≡ Ok next → (scope : Scope) → scope.used ≡ used → Plainly text code values one k used i (Ok (next, scope))
  plain-right next q scope u = as-scope (Plainly text code values one k used i) next scope u (record { is = λ g. right text code values k used i g one j x next q scope })

-- ---- behind a condition
module _ (text code values : List ℕ) (k : Setting) (used i t : ℕ) (g : Compacts text code values k used i t) where
  abbrev b : Around text values
  b = g.around

  pub compact-stands : simples.Statement text code values k t
  compact-stands = simple-stands text code values b k used t g.to g.here g.s g.n g.is g.ends (omega (arith, g.after))

  pub compact-room : (i * 8 + 8 ≤ length code) × (t < word_limit)
  compact-room = (omega (arith, g.before, bound), omega (arith, bound, g.here.unread.loaded.last))
    where
      bound : (t < g.n) × (g.n ≤ g.to) × (g.to * 8 + 8 ≤ length code)
      bound = (forward text code values b k used t g.to g.here g.s g.n g.is g.ends (omega (arith, g.after)), omega (arith, g.after), g.here.unread.loaded.room)

  module _ (one : List ℕ) (j : Stepped) (x : simples.Stated text code values one k t j) where
    found : answered.Answer (simple_faults b.known.W b.K b.known.S g.s) code one t (g.n + 1) (RawSimple (ground_of b) b.known.n (cells_of one) b.known.S g.s t (g.n + 1)) j
    found = simple-answers text code values b k used t g.to g.here g.s g.n g.is g.ends (omega (arith, g.after)) one j x

    compact-no : (broken : Breach) → j ≡ Err broken → Answer (simple_faults b.known.W b.K b.known.S g.s) code one values values i g.to used
        (RawStatement (ground_of b) b.known.n (cells_of one) (compact_if i g.e g.s) b.known.S used i g.to) (Err broken)
    compact-no broken q = first-answer _ _ _ _ _ _ _ _ broken _ (faulty-found j found broken q) found.long

    module _ (next : ℕ) (q : j ≡ Ok next) where
      f : answered.Fine (simple_faults b.known.W b.K b.known.S g.s) code one t (g.n + 1) next (RawSimple (ground_of b) b.known.n (cells_of one) b.known.S g.s t (g.n + 1))
      f = typed-fine j found next q

      pub compact-next : (next ≤ word_limit) × (length one ≡ length code)
      compact-next = (omega (arith, f.next-is, g.after, g.here.unread.loaded.last), found.long)

      compact-yes : (two : List ℕ) → Linked one two i a_compact_if t next → (scope : Scope) → Answer (simple_faults b.known.W b.K b.known.S g.s) code two values values i g.to used
          (RawStatement (ground_of b) b.known.n (cells_of two) (compact_if i g.e g.s) b.known.S used i g.to) (Ok (next, with_used used scope))
      unfolding RawStatement ground_of offset_in
      compact-yes two l scope =
          let o = linked-outside l in
          let v = l.value-is in
          let r : RawSimple (ground_of b) b.known.n (cells_of one) b.known.S g.s t g.to = subst (RawSimple (ground_of b) b.known.n (cells_of one) b.known.S g.s t) (sym g.after) f.written in
          done-answer _ _ _ _ _ _ _ _ _ _ _
          (record {
            none = f.none;
            next-is = f.next-is ∙ sym g.after;
            used-is = refl;
            few = g.here.few;
            written = record {
              head = record { first = refl; place = l.place_is ∙ place-below f.kept i g.before ∙ g.place; word = subst (RawWord (cells_of two) a_compact_if i) (f.next-is ∙ sym g.after) (linked-word l) };
              term = subst (RawTerm (ground_of b) b.known.n (cells_of two) b.known.S g.e (i + 1)) (sym v)
                  (term-same (ground_of b) b.known.n (cells_of code) (cells_of two) b.known.S g.e (i + 1) t
                  (same-on (same-before (i + 1) t (kept-outside f.kept) (omega arith)) (same-behind (i + 1) t o (omega arith))) g.term);
              does = subst (λ (x : ℕ). RawSimple (ground_of b) b.known.n (cells_of two) b.known.S g.s x g.to) (sym v)
                  (simple-frame (ground_of b) b.known.n b.known.n (omega arith) (cells_of one) (cells_of two) b.known.S g.s t g.to (same-behind t g.to o (omega (arith, g.before))) r);
            };
            outside = outside-on (outside_wider i g.to (kept-outside f.kept) (omega (arith, g.before)) (omega (arith, g.after)))
                (outside_wider i g.to o (omega arith) (omega (arith, g.before, g.after, r.forward)));
            same = same-values values;
          })
          (l.kept.long ∙ found.long)

module _ (text code values : List ℕ) (k : Setting) (used i t : ℕ) (one : List ℕ) (j : Stepped) (x : simples.Stated text code values one k t j) where
  pub compact-wrong : (broken : Breach) → j ≡ Err broken → Compacted text code values one k used i t (Err broken)
  compact-wrong broken q = record { is = λ g. compact-no text code values k used i t g one j x broken q }

  pub compact-right : (next : ℕ) → j ≡ Ok next → (two : List ℕ) → Linked one two i a_compact_if t next → (scope : Scope) → scope.used ≡ used → Compacted text code values two k used i t (Ok (next, scope))
  compact-right next q two l scope u = as-scope (Compacted text code values two k used i t) next scope u (record { is = λ g. compact-yes text code values k used i t g one j x next q two l scope })
