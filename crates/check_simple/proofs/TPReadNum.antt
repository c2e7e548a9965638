-- TPReadNum target, "s";
use mathlib.Core.Path.{◌≡◌, refl, sym, ap, subst, ◌∙◌}
use mathlib.Core.Bool.{true}
use mathlib.Core.List.{List, [], ◌∷◌}
use Prim.Native.Nat.{ℕ, ◌+◌, ◌-◌, ◌*◌, ◌<◌, ◌≤◌}
use native.Mathlib.Omega.{arith}
use lib.ListN.{length, take, drop}
use mir.Syntax.{w32, w64}
use mir.Val.{Fits}
use Rattle.paper.specs.Sorts.{STRING, TPREADNUM}
use Rattle.paper.specs.Trees.{reads}
use Rattle.paper.specs.Names.{a_num, refused_piece, nth, sort_in}
use Rattle.paper.specs.Types.{Fault, fault, fault_if, differs, wanted}
use Rattle.paper.specs.Types as types
use Rattle.paper.specs.Checks.{judge_target, simple_faults}
use Rattle.paper.specs.Steps.{unquoted, spot_of}
use Rattle.store_cells.specs.Cells.{cells_of}
use Rattle.code.specs.Cells.{op_in, value_in, value_at, link_at}
use Rattle.code.specs.Steps.{a_target, a_read}
use Rattle.grammar.specs.Form.{Parses}
use Rattle.grammar.proofs.Places.{target-grows}
use Rattle.grammar.proofs.Inversions as inversions
use Rattle.check_expressions.specs.Judgements.{Judged}
use Rattle.std.specs.Prelude.{Ok, Err}
use Rattle.layout.specs.Broken.{as_fault}
use Rattle.layout.specs.declared.rules.Breach.{Breach}
use Rattle.layout.specs.declared.rules.Rule.TheVariants.{WrongType}
use Rattle.store_writing.specs.Promises.{Linked}
use Rattle.store_writing.proofs.Keeping.{head-below, head-above, place-below, place-above, kept-wider, kept_on}
use Rattle.check_expressions.proofs.FaultsOfParts.{append-none}
use Rattle.check_expressions.proofs.Starts.{loaded-part}
use Rattle.faults.specs.First.{First}
use Rattle.faults.proofs.First.{first-fault}
use Rattle.faults.proofs.Expressions.{grows}
use Rattle.faults.proofs.Statements.{target-orderly}
use Rattle.check_links.specs.Raw.{RawDoes, RawText}
use Rattle.check_around.specs.Around.{ground_of}
use Rattle.check_around.specs.Answers.{Fine}
use Rattle.check_simple.specs.Answers.{Answers}
use Rattle.check_simple.specs.Parts.{Begins, BeginsOf, BegunOf, Targets, Aimed, AimAnswer, TargetJudged, Strings, Spelled}
use Rattle.check_simple.proofs.Expressions.{quiet-below, quiet-above}
use Rattle.check_simple.proofs.Targets.{aimed-fine, aimed-first}
use Rattle.check_simple.proofs.Assignments.{aims-below, aims-above, raw-target}
use Rattle.check_simple.proofs.SimpleStatements.{stands_here, stands-small, stated-first, stated-fine}
use Rattle.check_simple.proofs.TPWrite.{string-at, raw-text}
use Rattle.layout.specs.Rules.{wrong_type}
use Rattle.layout.specs.Types.{type_in}
use Rattle.layout.specs.declared.types.ValueType.{ValueType}
use Rattle.layout.specs.declared.types.ValueType.TheVariants.{Num}
use Rattle.layout.proofs.Typing.{types-differ}
use Rattle.paper.specs.Words.{word_limit}
use Rattle.layout.specs.Parts.{characters_part}

-- ---- a target that has to be a num
no-first : {A : Type 0} (f : Fault) → First f [] → A
no-first f h = elim h.among [ ]

wanted-refused : (j : types.Judged) (i : ℕ) → j.type ≡ refused_piece → wanted a_num i j ≡ j.faults
unfolding wanted differs fault_if
wanted-refused j i t = rw (t, wanted) (append-none j.faults)

wanted-bool : (j : types.Judged) (i : ℕ) → j.faults ≡ [] → differs a_num j.type ≡ true → wanted a_num i j ≡ fault wrong_type i
unfolding wanted fault_if
wanted-bool j i n t = rw (n, t, wanted)

wanted-num : (j : types.Judged) (i : ℕ) → j.faults ≡ [] → j.type ≡ a_num → wanted a_num i j ≡ []
unfolding wanted differs fault_if
wanted-num j i n t = rw (n, t, wanted)

-- any fault of it makes its type unknown, so that nothing is added
wanted-first : (j : types.Judged) (i : ℕ) (f : Fault) → ((g : Fault) (r : List Fault) → j.faults ≡ g ∷ r → j.type ≡ refused_piece) → First f j.faults → First f (wanted a_num i j)
wanted-first j i f refused h = by j.faults refl
  where
    by : (fs : List Fault) → j.faults ≡ fs → First f (wanted a_num i j)
    by [] e = no-first f (subst (First f) e h)
    by (g ∷ r) e = subst (First f) (sym (wanted-refused j i (refused g r e))) h

module _ (code values : List ℕ) (i : ℕ) (c : Begins TPREADNUM code values i) where
  read_is : inversions.Reads (sort_in c.stands.around.known.W) (Parses (sort_in c.stands.around.known.W)) c.stands.s i c.stands.to
  read_is = inversions.simple-tpreadnum (sort_in c.stands.around.known.W) (Parses (sort_in c.stands.around.known.W)) c.stands.is c.here

  read-on : i + 1 < read_is.n
  read-on = target-grows (sort_in c.stands.around.known.W) (Parses (sort_in c.stands.around.known.W)) (grows c.stands.around.known.W) read_is.target

  pub read-targets : Targets code values (i + 1)
  read-targets = record {
    known = c.stands.around.known;
    sorts = c.stands.around.sorts;
    t = read_is.t;
    to = read_is.n;
    is = read_is.target;
    loaded = loaded-part c.stands.around.known.W code i c.stands.to (i + 1) read_is.n c.stands.unread.loaded (omega arith) (omega (arith, read_is.after));
  }

  pub read_small : i + 1 < word_limit
  read_small = stands-small code values i c.stands

  module _ (mid : List ℕ) (r : Judged) (t : TargetJudged code values mid (i + 1) r) where
    read_answer : AimAnswer c.stands.around.known.m c.stands.around.known.n (judge_target c.stands.around.known.W c.stands.around.known.S read_is.t)
        (spot_of c.stands.around.known.W c.stands.around.known.S read_is.t) code mid (i + 1) read_is.n r
    unfolding read-targets
    read_answer = t.is read-targets

    read-faulty : (broken : Breach) → r ≡ Err broken → Answers c.stands mid (Err broken)
    unfolding simple_faults
    read-faulty broken e =
        let f = aimed-first _ _ _ _ code mid (i + 1) read_is.n r read_answer broken e in
        stated-first code values i c.stands (reads i read_is.t (read_is.n + 1)) read_is.is mid (Err broken) broken refl read_answer.long
        (wanted-first (judge_target c.stands.around.known.W c.stands.around.known.S read_is.t) read_is.t.name (as_fault broken)
        (target-orderly c.stands.around.known.W c.stands.around.known.S read_is.target).refused f)

    module _ (bool : ValueType) (b : ℕ) (e : r ≡ Ok (bool, b)) where
      aimed : Fine (judge_target c.stands.around.known.W c.stands.around.known.S read_is.t).faults code mid (i + 1) read_is.n b
          (Aimed c.stands.around.known.m c.stands.around.known.n (cells_of code) (cells_of mid) (judge_target c.stands.around.known.W c.stands.around.known.S read_is.t)
          (spot_of c.stands.around.known.W c.stands.around.known.S read_is.t) (i + 1) read_is.n bool)
      aimed = aimed-fine _ _ _ _ code mid (i + 1) read_is.n r read_answer bool b e

      pub read-end : (b < word_limit) × (i * 8 + 8 ≤ length mid)
      read-end = (omega (arith, aimed.next-is, read_is.after, c.stands.unread.loaded.last), omega (arith, stands_here code values i c.stands, read_answer.long))

      read-wrong : (bool ≡ Num → ⊥) → Answers c.stands mid (Err (record { rule = WrongType; word = i + 1 }))
      unfolding simple_faults
      read-wrong y =
          stated-first code values i c.stands (reads i read_is.t (read_is.n + 1)) read_is.is mid (Err (record { rule = WrongType; word = i + 1 })) _ refl read_answer.long
          (subst (First (record { number = wrong_type; at = i + 1 }))
          (sym (wanted-bool (judge_target c.stands.around.known.W c.stands.around.known.S read_is.t) read_is.t.name aimed.none (ap (differs a_num) (sym aimed.written.type-is) ∙ types-differ Num bool (λ q. y (sym q))) ∙ ap (fault wrong_type) read_is.target.named))
          (first-fault wrong_type (i + 1)))

      module _ (n : bool ≡ Num) where
        pub read-string : Strings c.stands.text mid (b + 1)
        read-string =
            let q : read_is.n + 1 ≡ b + 1 = ap (λ (x : ℕ). x + 1) (sym aimed.next-is) in
            subst (λ (x : ℕ). Strings c.stands.text mid x) q
            (string-at code values i c.stands mid (read_is.n + 1) (omega (arith, read-on)) (omega (arith, read_is.after)) read_is.text (head-above aimed.kept (read_is.n + 1) (omega arith)) (place-above aimed.kept (read_is.n + 1) (omega arith)) read_answer.long)

        module _ (one : List ℕ) (sp : Spelled c.stands.text mid one (b + 1)) where
          read-linked : Linked mid one (read_is.n + 1) STRING
              (length (nth c.stands.around.known.W (read_is.n + 1)).covers + characters_part * length (unquoted (take (length (nth c.stands.around.known.W (read_is.n + 1)).covers - 2) (drop ((nth c.stands.around.known.W (read_is.n + 1)).place + 1) c.stands.text))))
              (link_at (cells_of mid) (read_is.n + 1))
          unfolding string-at
          read-linked =
              let q : b + 1 ≡ read_is.n + 1 = ap (λ (x : ℕ). x + 1) aimed.next-is in
              let sp2 : Spelled c.stands.text mid one (read_is.n + 1) = subst (λ (x : ℕ). Spelled c.stands.text mid one x) q sp in
              sp2.is (string-at code values i c.stands mid (read_is.n + 1) (omega (arith, read-on)) (omega (arith, read_is.after)) read_is.text (head-above aimed.kept (read_is.n + 1) (omega arith)) (place-above aimed.kept (read_is.n + 1) (omega arith)) read_answer.long)

          pub read-room : (i * 8 + 8 ≤ length one) × (length one ≡ length code)
          read-room = (omega (arith, read-end.1, read-linked.kept.long), read-linked.kept.long ∙ read_answer.long)

          read_right : (after : List ℕ) → Linked one after i a_read (b + 1) (b + 3) → Answers c.stands after (Ok (b + 3))
          unfolding simple_faults RawDoes
          read_right after l =
              let g = c.stands in
              let known = g.around.known in
              let spot = spot_of known.W known.S read_is.t in
              let t2 = aimed.written.target in
              let v : read_is.n + 1 ≡ value_at (cells_of after) i = sym (l.value-is ∙ ap (λ (x : ℕ). x + 1) aimed.next-is) in
              let three : b + 3 ≡ g.to + 1 = omega (arith, aimed.next-is, read_is.after) in
              let head = head-above l.kept (i + 1) (omega arith) ∙ head-below read-linked.kept (i + 1) (omega (arith, read-on)) in
              let text_Head = head-above l.kept (read_is.n + 1) (omega (arith, read-on)) in
              stated-fine code values i g (reads i read_is.t (read_is.n + 1)) read_is.is after (b + 3)
              (wanted-num (judge_target known.W known.S read_is.t) read_is.t.name aimed.none (sym aimed.written.type-is ∙ ap type_in n)) three
              (kept_on (kept_on (kept-wider aimed.kept i (g.to + 1) (omega arith) (omega (arith, read_is.after))) (kept-wider read-linked.kept i (g.to + 1) (omega (arith, read-on)) (omega (arith, read_is.after))))
              (kept-wider l.kept i (g.to + 1) (omega arith) (omega (arith, read_is.after, read-on))))
              (l.place_is ∙ place-below read-linked.kept i (omega (arith, read-on)) ∙ place-below aimed.kept i (omega arith))
              (record {
                word = record { is = l.op-is; leaves = l.link-is ∙ three };
                b = read_is.n;
                target = raw-target g.around (cells_of after) a_target read_is.t (i + 1) read_is.n t2.k t2.v (ap op_in head ∙ t2.op-is) (ap value_in head ∙ t2.value-is)
                    (aims-above l.kept known.m known.n t2.k t2.v spot (i + 1) read_is.n (omega arith)
                    (aims-below read-linked.kept known.m known.n t2.k t2.v spot (i + 1) read_is.n (omega arith) t2.aims))
                    (quiet-above l.kept (i + 1 + 1) read_is.n (omega arith) (quiet-below read-linked.kept (i + 1 + 1) read_is.n (omega arith) t2.quiet));
                target-within = omega (arith, read_is.after);
                text = subst (λ (x : ℕ). RawText (ground_of g.around) known.n (cells_of after) (read_is.n + 1) x) v
                    (raw-text g.around (cells_of after) (read_is.n + 1) (g.around.quoted (read_is.n + 1) read_is.text) (ap op_in text_Head ∙ read-linked.op-is) (ap value_in text_Head ∙ read-linked.value-is)
                    (place-above l.kept (read_is.n + 1) (omega (arith, read-on)) ∙ read-linked.place_is ∙ place-above aimed.kept (read_is.n + 1) (omega arith) ∙ g.unread.places (read_is.n + 1) (omega (arith, read-on)) (omega (arith, read_is.after))));
                behind = omega (arith, v, read-on);
                within = omega (arith, v, read_is.after);
              })

-- ---- the text that the code reads
module _ (text code values : List ℕ) (i : ℕ) (c : BeginsOf TPREADNUM text code values i) where
  pub reads-targets : Targets code values (i + 1)
  reads-targets = read-targets code values i c.begins

  pub reads-small : i + 1 < word_limit
  reads-small = read_small code values i c.begins

  module _ (mid : List ℕ) (r : Judged) (t : TargetJudged code values mid (i + 1) r) (bool : ValueType) (b : ℕ) (e : r ≡ Ok (bool, b)) where
    pub reads_end : (b < word_limit) × (i * 8 + 8 ≤ length mid)
    reads_end = read-end code values i c.begins mid r t bool b e

    pub reads-next : Fits w64 (b + 1)
    reads-next = record { fits = omega (arith, reads_end.0) }

    pub reads-value : Fits w32 (b + 1)
    reads-value = record { fits = omega (arith, reads_end.0) }

    pub reads-after : Fits w64 (b + 3)
    reads-after = record { fits = omega (arith, reads_end.0) }

    module _ (n : bool ≡ Num) where
      pub reads-string : Strings text mid (b + 1)
      reads-string = subst (λ (x : List ℕ). Strings x mid (b + 1)) c.text-is (read-string code values i c.begins mid r t bool b e n)

      module _ (one : List ℕ) (sp : Spelled text mid one (b + 1)) where
        spelled-there : Spelled c.begins.stands.text mid one (b + 1)
        spelled-there = subst (λ (x : List ℕ). Spelled x mid one (b + 1)) (sym c.text-is) sp

        pub reads-room : (i * 8 + 8 ≤ length one) × (length one ≡ length code)
        reads-room = read-room code values i c.begins mid r t bool b e n one spelled-there

module _ (text code values : List ℕ) (i : ℕ) (mid : List ℕ) (r : Judged) (t : TargetJudged code values mid (i + 1) r) where
  pub heard-faulty : (broken : Breach) → r ≡ Err broken → BegunOf TPREADNUM text code values mid i (Err broken)
  heard-faulty broken e = record { is = λ c. read-faulty code values i c.begins mid r t broken e }

  module _ (bool : ValueType) (b : ℕ) (e : r ≡ Ok (bool, b)) where
    pub heard-wrong : (bool ≡ Num → ⊥) → BegunOf TPREADNUM text code values mid i (Err (record { rule = WrongType; word = i + 1 }))
    heard-wrong y = record { is = λ c. read-wrong code values i c.begins mid r t bool b e y }

    pub heard-right : bool ≡ Num → (one : List ℕ) → Spelled text mid one (b + 1) → (after : List ℕ) → Linked one after i a_read (b + 1) (b + 3) → BegunOf TPREADNUM text code values after i (Ok (b + 3))
    heard-right n one sp after l = record { is = λ c. read_right code values i c.begins mid r t bool b e n one (spelled-there text code values i c mid r t bool b e n one sp) after l }
