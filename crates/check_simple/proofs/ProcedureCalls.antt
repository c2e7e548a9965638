-- Calls of procedures: p args;
use mathlib.Core.Path.{◌≡◌, refl, sym, ap, ap₂, subst, ◌∙◌}
use mathlib.Core.Bool.{Bool, false}
use mathlib.Core.List.{List, ◌++◌}
use Prim.Native.Nat.{ℕ, ◌+◌, ◌*◌, ◌<◌, ◌≤◌}
use native.Mathlib.Omega.{arith}
use lib.ListN.{length}
use Rattle.paper.specs.Trees.{call}
use Rattle.paper.specs.Names.{sort_in, spelled, meaning}
use Rattle.paper.specs.Types.{Fault, fault_if}
use Rattle.paper.specs.Declarations.{Signature}
use Rattle.paper.specs.Checks.{argument_faults, call_faults, simple_faults}
use Rattle.store_cells.specs.Cells.{cells_of}
use Rattle.code.specs.Cells.{op_in, value_in, link_at}
use Rattle.code.specs.Steps.{numbered, a_procedure_call, a_close}
use Rattle.grammar.specs.Form.{Parses}
use Rattle.grammar.proofs.Places.{arguments-grow}
use Rattle.grammar.proofs.Inversions as inversions
use Rattle.std.specs.Prelude.{Ok, Err}
use Rattle.layout.specs.Broken.{as_fault, number_of}
use Rattle.layout.specs.declared.rules.Breach.{Breach}
use Rattle.store_writing.specs.Promises.{Linked}
use Rattle.store_writing.proofs.Keeping.{head-below, place-below, kept-wider, kept_on}
use Rattle.faults.specs.First.{First}
use Rattle.faults.proofs.First.{first-fault, first-left, first-right, leads-later, ranks, leads-same-if}
use Rattle.faults.proofs.Expressions.{grows}
use Rattle.faults.proofs.Statements.{arguments-inside}
use Rattle.check_links.specs.Raw.{RawArguments, RawDoes}
use Rattle.check_around.specs.Around.{ground_of}
use Rattle.check_around.specs.Answers.{Fine, Stepped, Answer}
use Rattle.check_simple.specs.Answers.{Answers}
use Rattle.check_simple.specs.Parts.{CallsOf, CalledOf, Callee, Callees, CalleeFound, CalleeSays, CalleeTold, ArgumentsStand, CallSide, side_faults, CallWritten, CallJudged}
use Rattle.check_simple.proofs.Expressions.{quiet-below, answered-fine, answered-first}
use Rattle.check_simple.proofs.Arguments.{link-below, unread-part}
use Rattle.check_simple.proofs.Calls.{raw-arguments, read_below}
use Rattle.check_simple.proofs.CalleesFound.{found-signature, found-faults, found-read}
use Rattle.check_simple.proofs.FunctionCalls.{told-found, told-wrong}
use Rattle.check_simple.proofs.SimpleStatements.{stands_on, stated-first, stated-fine}
use Rattle.layout.specs.Rules.{barred}
use Rattle.paper.specs.Words.{word_limit}

module _ (code values : List ℕ) (undo : Bool) (i : ℕ) (c : CallsOf code values undo i) where
  of_calls : inversions.Calls (sort_in c.begins.stands.around.known.W) (Parses (sort_in c.begins.stands.around.known.W)) c.begins.stands.s i c.begins.stands.to
  of_calls = (inversions.simple-name (sort_in c.begins.stands.around.known.W) (Parses (sort_in c.begins.stands.around.known.W)) c.begins.stands.is c.begins.here).calls c.no-becomes c.no-brace

  of-on : i + 1 ≤ c.begins.stands.to
  of-on = arguments-grow (sort_in c.begins.stands.around.known.W) (Parses (sort_in c.begins.stands.around.known.W)) (grows c.begins.stands.around.known.W) of_calls.arguments

  pub of-callees : Callees code values i
  of-callees = record {
    text = c.begins.stands.text;
    around = c.begins.stands.around;
    to = c.begins.stands.to;
    name = c.begins.here;
    fresh = c.begins.stands.unread.loaded.words i (omega arith) (omega (arith, of-on));
    inside = omega (arith, of-on);
    last = c.begins.stands.unread.loaded.last;
    calls = c.begins.stands.calls;
  }

  pub of-small : i + 1 < word_limit
  of-small = omega (arith, of-on, c.begins.stands.unread.loaded.last)

  of-stand : ArgumentsStand c.begins.stands.around.known.W of_calls.es (i + 1) 4 c.begins.stands.to c.begins.stands.to
  of-stand = record {
    arguments = of_calls.arguments;
    closes = c.begins.stands.ends;
    ends = c.begins.stands.ends;
    at-end = λ _. refl;
    past_end = λ d. absurd (d refl);
  }

  module _ (r : Callee) (t : CalleeTold code values false i r) where
    of-says : CalleeSays c.begins.stands.around code false i r
    unfolding of-callees
    of-says = t.is of-callees

    of-wrong-first : (broken : Breach) → r ≡ Err broken
        → First (as_fault broken) (simple_faults c.begins.stands.around.known.W c.begins.stands.around.K c.begins.stands.around.known.S (call i of_calls.es))
    unfolding simple_faults call_faults
    of-wrong-first broken e =
        let w = told-wrong c.begins.stands.around code false i r broken e of-says in
        first-left
        (first-right (leads-same-if (as_fault broken) _ barred i w.at (ranks (number_of broken.rule) barred (omega arith) (omega (arith, w.low))))
        (subst (First (as_fault broken)) (sym (w.is of_calls.es)) (first-fault (number_of broken.rule) broken.word)))
        (leads-later (as_fault broken) (arguments-inside c.begins.stands.around.known.W c.begins.stands.around.known.S _ of_calls.arguments) (omega (arith, w.at)))

    module _ (h : ℕ) (e : r ≡ Ok h) where
      of-found : CalleeFound (numbered c.begins.stands.around.R) (length c.begins.stands.around.R) code (meaning c.begins.stands.around.known.S (spelled c.begins.stands.around.known.W i)) false h
      of-found = told-found c.begins.stands.around code false i r h e of-says

      pub of-side : CallSide code values undo h i (i + 1) 4
      of-side = record {
        text = c.begins.stands.text;
        around = c.begins.stands.around;
        undo-is = c.undo-is;
        es = of_calls.es;
        z = c.begins.stands.to;
        end = c.begins.stands.to;
        stand = of-stand;
        before = omega arith;
        among = of-found.among;
        unread = unread-part c.begins.stands.around.known.W code i c.begins.stands.to (i + 1) c.begins.stands.to c.begins.stands.unread (omega arith) (omega arith);
        calls = c.begins.stands.calls;
      }

      abbrev mine : List Fault
      mine = side_faults c.begins.stands.around undo h i of_calls.es

      -- its faults are those of the call
      of-faults : simple_faults c.begins.stands.around.known.W c.begins.stands.around.K c.begins.stands.around.known.S (call i of_calls.es) ≡ mine
      unfolding simple_faults call_faults
      of-faults =
          ap₂ {C = List Fault} (λ (x : List Fault) (s : Signature). x ++ argument_faults c.begins.stands.around.known.W c.begins.stands.around.known.S s.parameters of_calls.es)
          (ap₂ {C = List Fault} (λ (b : Bool) (x : List Fault). fault_if b barred i ++ x) (sym c.undo-is)
          (found-faults c.begins.stands.around code i c.begins.stands.to false h of-found c.begins.stands.calls of_calls.es))
          (found-signature c.begins.stands.around code i c.begins.stands.to false h of-found c.begins.stands.calls)

      module _ (mid : List ℕ) (q : Stepped) (j : CallJudged code values mid undo a_procedure_call h i (i + 1) 4 q) where
        of-answer : Answer mine code mid i c.begins.stands.to (CallWritten of-side (cells_of mid) a_procedure_call) q
        unfolding of-side
        of-answer = j.is of-side

        of-faulty : (broken : Breach) → q ≡ Err broken → Answers c.begins.stands mid q
        of-faulty broken x =
            stated-first code values i c.begins.stands (call i of_calls.es) of_calls.is mid q broken x of-answer.long
            (subst (First (as_fault broken)) (sym of-faults) (answered-first _ _ _ _ _ _ q of-answer broken x))

        module _ (end : ℕ) (x : q ≡ Ok end) where
          of-fine : Fine mine code mid i c.begins.stands.to end (CallWritten of-side (cells_of mid) a_procedure_call)
          of-fine = answered-fine _ _ _ _ _ _ q of-answer end x

          pub of_end : (end < word_limit) × (end * 8 + 8 ≤ length mid)
          of_end = (omega (arith, of-fine.next-is, c.begins.stands.unread.loaded.last), omega (arith, of-fine.next-is, c.begins.stands.unread.loaded.room, of-answer.long))

          of-typed : (after : List ℕ) → Linked mid after end a_close 0 (end + 1) → Answers c.begins.stands after (Ok (end + 1))
          unfolding RawDoes of-side
          of-typed after m =
              let s = c.begins.stands in
              let known = s.around.known in
              let to_is : end ≡ s.to = of-fine.next-is in
              let l : Linked mid after s.to a_close 0 (s.to + 1) = subst (λ (z : ℕ). Linked mid after z a_close 0 (z + 1)) to_is m in
              let head = head-below l.kept i (stands_on code values i s) in
              let w = of-fine.written in
              let link = link-below l.kept i (stands_on code values i s) in
              let place = place-below l.kept i (stands_on code values i s) ∙ w.place in
              stated-fine code values i s (call i of_calls.es) of_calls.is after (end + 1) (of-faults ∙ of-fine.none) (ap (λ (z : ℕ). z + 1) to_is)
              (kept_on (kept-wider of-fine.kept i (s.to + 1) (omega arith) (omega arith)) (kept-wider l.kept i (s.to + 1) (omega (arith, of-on)) (omega arith)))
              place
              (record {
                z = s.to;
                op = ap op_in head ∙ w.op-is;
                callee = found-read s.around code i s.to false h of-found s.calls (cells_of after) of_calls.es (ap value_in head ∙ w.value-is) w.as_many
                    (place ∙ s.unread.places i (omega arith) (omega (arith, of-on)));
                arguments = subst (λ (z : ℕ). RawArguments (ground_of s.around) known.n (cells_of after) known.S of_calls.es (i + 1) z s.to) (sym link)
                    (raw-arguments s.around (cells_of after) of_calls.es (i + 1) (link_at (cells_of mid) i) s.to
                    (read_below known.m known.n l.kept _ (i + 1) (link_at (cells_of mid) i) s.to (omega arith) w.read) (quiet-below l.kept (i + 1) s.to (omega arith) w.quiet)
                    (λ o. omega (arith, l.op-is, o)) (omega (arith, s.unread.loaded.last)));
                closes = record { is = l.op-is; leaves = l.link-is };
                within = omega arith;
              })

module _ (code values : List ℕ) (undo : Bool) (i : ℕ) (r : Callee) (t : CalleeTold code values false i r) where
  pub called-of-wrong : (broken : Breach) → r ≡ Err broken → CalledOf code values code undo i (Err broken)
  called-of-wrong broken e = record {
    is = λ c.
        stated-first code values i c.begins.stands (call i (of_calls code values undo i c).es) (of_calls code values undo i c).is code (Err broken) broken refl refl
        (of-wrong-first code values undo i c r t broken e);
  }

  module _ (h : ℕ) (e : r ≡ Ok h) (mid : List ℕ) (q : Stepped) (j : CallJudged code values mid undo a_procedure_call h i (i + 1) 4 q) where
    pub called-of-faulty : (broken : Breach) → q ≡ Err broken → CalledOf code values mid undo i q
    called-of-faulty broken x = record { is = λ c. of-faulty code values undo i c r t h e mid q j broken x }

    pub called-of-typed : (end : ℕ) → q ≡ Ok end → (after : List ℕ) → Linked mid after end a_close 0 (end + 1) → CalledOf code values after undo i (Ok (end + 1))
    called-of-typed end x after l = record { is = λ c. of-typed code values undo i c r t h e mid q j end x after l }
