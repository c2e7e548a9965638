-- Calls of functions: target := f(args).
use mathlib.Core.Path.{◌≡◌, refl, sym, ap, ap₂, subst, ◌∙◌}
use mathlib.Core.Bool.{Bool, true, false, not}
use mathlib.Core.List.{List, [], ◌++◌}
use mathlib.Core.Option.{Option, none, some}
use Prim.Native.Nat.{ℕ, ◌+◌, ◌*◌, ◌<◌, ◌≤◌}
use native.Mathlib.Omega.{arith}
use lib.Dec.{eqb}
use lib.ListN.{length}
use lib.IntN.{pos}
use mir.Syntax.{w64}
use mir.Val.{Fits}
use Rattle.paper.specs.Words.{Word, word_limit}
use Rattle.paper.specs.Terms.{literal}
use Rattle.paper.specs.Names.{DataType, sort_in, spelled, meaning}
use Rattle.paper.specs.Types.{Fault, fault_if, differs}
use Rattle.paper.specs.Types as types
use Rattle.paper.specs.Declarations.{Signature}
use Rattle.paper.specs.Checks.{argument_faults, callee_faults, signature_of, call_faults, result_faults}
use Rattle.paper.specs.Steps.{spot_of}
use Rattle.store_cells.specs.Cells.{cells_of}
use Rattle.code.specs.Cells.{op_in, value_in, head_at, op_at, link_at}
use Rattle.code.specs.Steps.{a_call_target, numbered, a_target}
use Rattle.code.specs.Signatures.{type_at}
use Rattle.grammar.specs.Form.{Parses}
use Rattle.grammar.proofs.Places.{arguments-grow}
use Rattle.std.specs.Prelude.{Ok, Err}
use Rattle.layout.specs.Broken.{as_fault, number_of}
use Rattle.layout.specs.declared.rules.Breach.{Breach}
use Rattle.layout.specs.declared.rules.Rule.TheVariants.{WrongType}
use Rattle.store_writing.specs.Promises.{Kept, Linked}
use Rattle.store_writing.proofs.Keeping.{cell-above, head-below, place-below, kept-wider, kept_on}
use Rattle.check_expressions.proofs.FaultsOfParts.{append-none}
use Rattle.faults.specs.First.{First, Leads}
use Rattle.faults.proofs.First.{◌and◌, every-none, first-fault, first-if, first-left, first-right, leads-later, ranks, leads-same-if}
use Rattle.faults.proofs.Expressions.{grows}
use Rattle.faults.proofs.Statements.{arguments-inside}
use Rattle.check_links.specs.Raw.{SameWords, RawArguments, RawAssignCall}
use Rattle.check_links.proofs.Ops.{low-still}
use Rattle.check_links.proofs.Moving.{still-value, still-place, still-moves, arguments-move, callee-moves}
use Rattle.check_links.proofs.Framing.{same-cells, same-moves}
use Rattle.check_around.specs.Around.{Around, ground_of}
use Rattle.check_around.specs.Answers.{Stepped, Fine, Answer}
use Rattle.check_simple.specs.Parts.{TypeDiffers, Callee, Callees, CalleeFound, CalleeWrong, CalleeSays, CalleeTold, CallSide, signature_for, side_faults, CallWritten, CallJudged, ForCalls, ForWritten, for_faults, ForJudged, AssignWritten, CallAssigns, CallAssigned}
use Rattle.check_simple.proofs.Expressions.{quiet-below, quiet-above, answer-first, answer-fine, answered-fine, answered-first}
use Rattle.check_simple.proofs.ParameterTypes.{type-at}
use Rattle.check_simple.proofs.Arguments.{unread-part}
use Rattle.check_simple.proofs.Calls.{raw-arguments, answer-on, closes-low}
use Rattle.check_simple.proofs.CalleesFound.{differs-turned, found-room, found-signature, found-faults, found-result, found-read}
use Rattle.check_simple.proofs.Assignments.{link-above, aims-below, aims-above, aims-few, raw-target}
use Rattle.layout.specs.Rules.{wrong_type, wrong_count, barred}
use Rattle.layout.specs.Types.{type_in}
use Rattle.layout.specs.declared.types.ValueType.{ValueType}
use mathlib.Core.Option.{some}
use Rattle.layout.specs.Parts.{value_part, link_part}

-- ---- what the name of a callee is told to be
pub told-found : {text values : List ℕ} (a : Around text values) (code : List ℕ) (function : Bool) (i : ℕ) (r : Callee) (h : ℕ) → r ≡ Ok h → CalleeSays a code function i r
    → CalleeFound (numbered a.R) (length a.R) code (meaning a.known.S (spelled a.known.W i)) function h
unfolding CalleeSays
told-found a code function i r h e s = subst (CalleeSays a code function i) e s

pub told-wrong : {text values : List ℕ} (a : Around text values) (code : List ℕ) (function : Bool) (i : ℕ) (r : Callee) (broken : Breach) → r ≡ Err broken → CalleeSays a code function i r
    → CalleeWrong a.known.W a.K (meaning a.known.S (spelled a.known.W i)) function i broken
unfolding CalleeSays
told-wrong a code function i r broken e s = subst (CalleeSays a code function i) e s

no_result : (W : List Word) (j : types.Judged) (o : Option DataType) (i : ℕ) → o ≡ none → result_faults W j o i ≡ []
unfolding result_faults
no_result W j o i e = rw e

a-result : (W : List Word) (j : types.Judged) (o : Option DataType) (t : DataType) (i : ℕ) → o ≡ some t → result_faults W j o i ≡ fault_if (differs j.type t) wrong_type i
unfolding result_faults
a-result W j o t i e = rw e

pub same_above : {before after : List ℕ} {x y : ℕ} → Kept before after x y → (a b : ℕ) → y ≤ a → SameWords (cells_of before) (cells_of after) a b
same_above {before} {after} k a b h = same-cells (cells_of before) (cells_of after) a b (λ c l m. sym (cell-above k c (omega arith)))

-- ---- f(args)
module _ (code values : List ℕ) (undo : Bool) (i : ℕ) (g : ForCalls code values undo i) where
  for-on : i + 2 ≤ g.z
  for-on = arguments-grow (sort_in g.around.known.W) (Parses (sort_in g.around.known.W)) (grows g.around.known.W) g.stand.arguments

  pub for-callees : Callees code values i
  for-callees = record {
    text = g.text;
    around = g.around;
    to = g.z + 1;
    name = g.name;
    fresh = g.unread.loaded.words i (omega arith) (omega (arith, for-on));
    inside = omega (arith, for-on);
    last = g.unread.loaded.last;
    calls = g.calls;
  }

  pub for-small : i + 2 < word_limit
  for-small = omega (arith, for-on, g.unread.loaded.last)

  -- the faults of arguments come later
  for-later : (number : ℕ) (ts : List DataType) → Leads (record { number = number; at = i }) (argument_faults g.around.known.W g.around.known.S ts g.es)
  for-later number ts = leads-later (record { number = number; at = i }) (arguments-inside g.around.known.W g.around.known.S ts g.stand.arguments) (omega arith)

  module _ (r : Callee) (c : CalleeTold code values true i r) where
    for-says : CalleeSays g.around code true i r
    unfolding for-callees
    for-says = c.is for-callees

    for-wrong-first : (broken : Breach) → r ≡ Err broken → (j : types.Judged) → First (as_fault broken) (for_faults g j)
    unfolding call_faults
    for-wrong-first broken e j =
        let w = told-wrong g.around code true i r broken e for-says in
        first-left
        (first-left
        (first-right (leads-same-if (as_fault broken) _ barred i w.at (ranks (number_of broken.rule) barred (omega arith) (omega (arith, w.low))))
        (subst (First (as_fault broken)) (sym (w.is g.es)) (first-fault (number_of broken.rule) broken.word)))
        (leads-later (as_fault broken) (arguments-inside g.around.known.W g.around.known.S _ g.stand.arguments) (omega (arith, w.at))))
        (every-none (no_result g.around.known.W j _ i (w.no_result refl)))

    module _ (h : ℕ) (e : r ≡ Ok h) where
      for-found : CalleeFound (numbered g.around.R) (length g.around.R) code (meaning g.around.known.S (spelled g.around.known.W i)) true h
      for-found = told-found g.around code true i r h e for-says

      pub for-head : (h + 1 < word_limit) × ((h + 1) * 8 + 8 ≤ length code)
      for-head = found-room g.around code i (g.z + 1) true h for-found g.calls

      pub for-side : CallSide code values undo h i (i + 2) 7
      for-side = record {
        text = g.text;
        around = g.around;
        undo-is = g.undo-is;
        es = g.es;
        z = g.z;
        end = g.z + 1;
        stand = g.stand;
        before = omega arith;
        among = for-found.among;
        unread = unread-part g.around.known.W code i (g.z + 1) (i + 2) (g.z + 1) g.unread (omega arith) (omega arith);
        calls = g.calls;
      }

      for-params : List DataType
      for-params = (signature_for g.around h).parameters

      callee-are : callee_faults g.around.known.W g.around.K true (meaning g.around.known.S (spelled g.around.known.W i)) i g.es ≡ fault_if (not (eqb (length (signature_for g.around h).parameters) (length g.es))) wrong_count i
      callee-are = found-faults g.around code i (g.z + 1) true h for-found g.calls g.es

      result-are : (j : types.Judged) → result_faults g.around.known.W j (signature_of g.around.known.W g.around.K (meaning g.around.known.S (spelled g.around.known.W i))).result i
          ≡ fault_if (differs j.type (type_at (cells_of code) (h + 1))) wrong_type i
      result-are j =
          a-result g.around.known.W j _ (type_at (cells_of code) (h + 1)) i
          (ap (λ (x : Signature). x.result) (found-signature g.around code i (g.z + 1) true h for-found g.calls) ∙ found-result g.around code i (g.z + 1) true h for-found g.calls refl)

      module _ (w : ℕ) (ew : w ≡ head_at (cells_of code) (h + 1)) (wants : ValueType) (t : Bool) (d : TypeDiffers w wants t) (j : types.Judged) (ty : type_in wants ≡ j.type) where
        result-differs : differs j.type (type_at (cells_of code) (h + 1)) ≡ t
        result-differs =
            differs-turned j.type (type_at (cells_of code) (h + 1)) ∙ sym (ap (λ (x : DataType). differs x j.type) (type-at (cells_of code) (h + 1) w ew)) ∙ d.is j.type ty

        for-differs-first : t ≡ true → First (record { number = wrong_type; at = i }) (for_faults g j)
        unfolding call_faults
        for-differs-first y =
            first-right
            (leads-same-if (record { number = wrong_type; at = i }) _ barred i refl (ranks wrong_type barred (omega arith) (omega arith))
            and subst (Leads (record { number = wrong_type; at = i })) (sym callee-are) (leads-same-if (record { number = wrong_type; at = i }) _ wrong_count i refl (ranks wrong_type wrong_count (omega arith) (omega arith)))
            and for-later wrong_type _)
            (subst (First (record { number = wrong_type; at = i })) (sym (result-are j)) (first-if _ wrong_type i (result-differs ∙ y)))

        -- nothing but those of the call
        for-faults : t ≡ false → for_faults g j ≡ side_faults g.around undo h i g.es
        unfolding call_faults fault_if
        for-faults y =
            ap₂ {C = List Fault} (λ (x z : List Fault). x ++ z)
            (ap₂ {C = List Fault} (λ (x : List Fault) (s : Signature). x ++ argument_faults g.around.known.W g.around.known.S s.parameters g.es)
            (ap₂ {C = List Fault} (λ (b : Bool) (x : List Fault). fault_if b barred i ++ x) (sym g.undo-is) callee-are)
            (found-signature g.around code i (g.z + 1) true h for-found g.calls))
            (result-are j ∙ ap (λ (b : Bool). fault_if b wrong_type i) (result-differs ∙ y))
            ∙ append-none _

        for-written : (final : List ℕ) (next : ℕ) → t ≡ false → Fine (side_faults g.around undo h i g.es)
            code final i g.z next (CallWritten for-side (cells_of final) 1)
            → Fine (for_faults g j) code final i g.z next (ForWritten g (cells_of final))
        unfolding for-side
        for-written final next y f = record {
          none = for-faults y ∙ f.none;
          next-is = f.next-is;
          written = record {
            callee-is = found-read g.around code i (g.z + 1) true h for-found g.calls (cells_of final) g.es f.written.value-is f.written.as_many
                (f.written.place ∙ g.unread.places i (omega arith) (omega (arith, for-on)));
            still = low-still (op_at (cells_of final) i) (omega (arith, f.written.op-is));
            arguments = raw-arguments g.around (cells_of final) g.es (i + 2) (link_at (cells_of final) i) g.z f.written.read f.written.quiet (closes-low code values undo h i (i + 2) 7 for-side final i f.kept)
                (omega (arith, g.unread.loaded.last));
          };
          kept = f.kept;
        }

        for-answer : (final : List ℕ) (q : Stepped) → t ≡ false → CallJudged code values final undo 1 h i (i + 2) 7 q → Answer (for_faults g j) code final i g.z (ForWritten g (cells_of final)) q
        unfolding for-side
        for-answer final q y c =
            answer-on _ (for_faults g j) code code final i g.z i g.z (CallWritten for-side (cells_of final) 1) (ForWritten g (cells_of final)) q (c.is for-side) refl
            (λ x f. subst (First x) (sym (for-faults y)) f) (λ next f. for-written final next y f)

module _ (code values : List ℕ) (undo : Bool) (wants : ValueType) (i : ℕ) (r : Callee) (c : CalleeTold code values true i r) where
  pub for-wrong : (broken : Breach) → r ≡ Err broken → ForJudged code values code undo wants i (Err broken)
  for-wrong broken e = record { is = λ g j ty. answer-first (for_faults g j) code code i g.z _ (Err broken) broken refl refl (for-wrong-first code values undo i g r c broken e j) }

  module _ (h : ℕ) (e : r ≡ Ok h) (w : ℕ) (ew : w ≡ head_at (cells_of code) (h + 1)) (t : Bool) (d : TypeDiffers w wants t) where
    pub for-differs : t ≡ true → ForJudged code values code undo wants i (Err (record { rule = WrongType; word = i }))
    for-differs y = record { is = λ g j ty. answer-first (for_faults g j) code code i g.z _ (Err (record { rule = WrongType; word = i })) _ refl refl (for-differs-first code values undo i g r c h e w ew wants t d j ty y) }

    pub for-called : t ≡ false → (final : List ℕ) (q : Stepped) → CallJudged code values final undo 1 h i (i + 2) 7 q → ForJudged code values final undo wants i q
    for-called y final q x = record { is = λ g j ty. for-answer code values undo i g r c h e w ew wants t d j ty final q y x }

-- ---- target := f(args)
module _ (code values : List ℕ) (undo : Bool) (i b : ℕ) (g : CallAssigns code values undo i b) where
  assign-on : b + 3 ≤ g.for.z
  assign-on = let x = for-on code values undo (b + 1) g.for in omega (arith, x)

  pub assign-small : b + 1 < word_limit
  assign-small = omega (arith, assign-on, g.for.unread.loaded.last)

  module _ (wants : ValueType) (j : types.Judged) (ty : type_in wants ≡ j.type) (mid : List ℕ) (r : Stepped) (f : ForJudged code values mid undo wants (b + 1) r) where
    assign-answer : Answer (for_faults g.for j) code mid (b + 1) g.for.z (ForWritten g.for (cells_of mid)) r
    assign-answer = f.is g.for j ty

    assign-first : (broken : Breach) → r ≡ Err broken → First (as_fault broken) (for_faults g.for j)
    assign-first broken e = answered-first _ _ _ _ _ _ r assign-answer broken e

    module _ (end : ℕ) (e : r ≡ Ok end) where
      assign-fine : Fine (for_faults g.for j) code mid (b + 1) g.for.z end (ForWritten g.for (cells_of mid))
      assign-fine = answered-fine _ _ _ _ _ _ r assign-answer end e

      module _ (w : ℕ) (ew : w ≡ head_at (cells_of mid) i) (after : List ℕ) (l : Linked mid after i (op_in w + 4) (value_in w) (end + 2)) where
        head-same : w ≡ head_at (cells_of code) i
        head-same = ew ∙ head-below assign-fine.kept i (omega (arith, g.before))

        call-assigned : Fine (for_faults g.for j) code after i (g.for.z + 2) (end + 2)
            (AssignWritten (RawAssignCall (ground_of g.for.around) g.for.around.known.n (cells_of after) g.for.around.known.S g.t (b + 1) g.for.es i (g.for.z + 2) (g.for.z + 2)) code after i)
        call-assigned =
            let a = g.for.around in
            let known = a.known in
            let spot = spot_of known.W known.S g.t in
            let x = assign-fine.written in
            let k = assign-fine.kept in
            let mv = same-moves (cells_of mid) (cells_of after) (b + 1) (g.for.z + 1) 0 (same_above l.kept (b + 1) (g.for.z + 1) (omega (arith, g.before))) in
            let three : b + 1 + 2 ≡ b + 3 = omega arith in
            record {
              none = assign-fine.none;
              next-is = ap (λ (y : ℕ). y + 2) assign-fine.next-is;
              written = record {
                is = record {
                  b = b;
                  z = g.for.z;
                  target = raw-target a (cells_of after) a_call_target g.t i b g.target.k g.target.v
                      (l.op-is ∙ ap (λ (y : ℕ). op_in y + 4) head-same ∙ ap (λ (y : ℕ). y + 4) g.target.op-is ∙ omega arith)
                      (l.value-is ∙ ap value_in head-same ∙ g.target.value-is)
                      (aims-above l.kept known.m known.n g.target.k g.target.v spot i b (omega arith)
                      (aims-below k known.m known.n g.target.k g.target.v spot i b (omega arith) g.target.aims))
                      (quiet-above l.kept (i + 1) b (omega arith) (quiet-below k (i + 1) b (omega arith) g.target.quiet));
                  callee = callee-moves (ground_of a) known.n known.n (omega arith) (cells_of mid) (cells_of after) (b + 1) (g.for.z + 1) 0 0 mv known.S true (b + 1) g.for.es (omega arith) (omega (arith, assign-on))
                      (still-value (op_at (cells_of mid) (b + 1)) x.still) (still-place (op_at (cells_of mid) (b + 1)) x.still) x.callee-is;
                  name = refl;
                  still = still-moves (ground_of a) known.n known.n (omega arith) (cells_of mid) (cells_of after) (b + 1) (g.for.z + 1) 0 0 mv (b + 1) (omega arith) (omega (arith, assign-on)) x.still;
                  arguments = subst (λ (y : ℕ). RawArguments (ground_of a) known.n (cells_of after) known.S g.for.es y (link_at (cells_of after) (b + 1)) g.for.z) three
                      (arguments-move (ground_of a) known.n known.n (omega arith) (cells_of mid) (cells_of after) (b + 1) (g.for.z + 1) 0 0 mv known.S g.for.es (b + 1 + 2) (link_at (cells_of mid) (b + 1)) (link_at (cells_of after) (b + 1)) g.for.z
                      (omega arith) (omega arith) (sym (link-above l.kept (b + 1) (omega (arith, g.before)))) x.arguments);
                  within = omega arith;
                  leaves = l.link-is ∙ ap (λ (y : ℕ). y + 2) assign-fine.next-is;
                };
                place = l.place_is ∙ place-below k i (omega (arith, g.before));
              };
              kept = kept_on (kept-wider k i (g.for.z + 2) (omega (arith, g.before)) (omega arith)) (kept-wider l.kept i (g.for.z + 2) (omega arith) (omega (arith, g.before, assign-on)));
            }

    -- room for what is written
    pub assign-room : (end : ℕ) → r ≡ Ok end → (end + 2 < link_part) × (i * 8 + 8 ≤ length mid)
    assign-room end e =
        (omega (arith, (assign-fine end e).next-is, g.for.unread.loaded.last), omega (arith, (assign-fine end e).kept.long, g.before, assign-on, g.for.unread.loaded.room))

    pub assign-op : (w : ℕ) → w ≡ head_at (cells_of mid) i → (end : ℕ) → r ≡ Ok end → op_in w + 4 < value_part
    assign-op w ew end e =
        let h : op_in w ≡ a_target + g.target.k = ap op_in (ew ∙ head-below (assign-fine end e).kept i (omega (arith, g.before))) ∙ g.target.op-is in
        omega (arith, h, aims-few g.for.around.known.m g.for.around.known.n (cells_of code) g.target.k g.target.v _ i b g.target.aims)

module _ (code values : List ℕ) (undo : Bool) (wants : ValueType) (i b : ℕ) (mid : List ℕ) (r : Stepped) (f : ForJudged code values mid undo wants (b + 1) r) where
  pub call-faulty : (broken : Breach) → r ≡ Err broken → CallAssigned code values mid undo wants i b r
  call-faulty broken e = record {
    is = λ g j ty. answer-first _ code mid i (g.for.z + 2) _ r broken e (assign-answer code values undo i b g wants j ty mid r f).long (assign-first code values undo i b g wants j ty mid r f broken e);
  }

  pub call-typed : (end : ℕ) → r ≡ Ok end → (w : ℕ) → w ≡ head_at (cells_of mid) i → (after : List ℕ) → Linked mid after i (op_in w + 4) (value_in w) (end + 2)
      → CallAssigned code values after undo wants i b (Ok (end + 2))
  call-typed end e w ew after l = record {
    is = λ g j ty. answer-fine _ code after i (g.for.z + 2) _ (end + 2) (call-assigned code values undo i b g wants j ty mid r f end e w ew after l);
  }

-- room for what is written
module _ (code values : List ℕ) (undo : Bool) (wants : ValueType) (i b : ℕ) (g : CallAssigns code values undo i b) (mid : List ℕ) (r : Stepped) (f : ForJudged code values mid undo wants (b + 1) r) (end : ℕ) (e : r ≡ Ok end) where
  -- any target of the type
  of-type-wanted : types.Judged
  of-type-wanted = record { type = type_in wants; faults = []; term = literal (pos 0) }

  pub assign-fits : (end + 2 < link_part) × (i * 8 + 8 ≤ length mid)
  unfolding of-type-wanted
  assign-fits = assign-room code values undo i b g wants of-type-wanted refl mid r f end e

  pub assign-next : Fits w64 (end + 2)
  assign-next = record { fits = omega (arith, assign-fits.0) }

  pub assign-op-fits : (w : ℕ) → w ≡ head_at (cells_of mid) i → op_in w + 4 < value_part
  unfolding of-type-wanted
  assign-op-fits w ew = assign-op code values undo i b g wants of-type-wanted refl mid r f w ew end e
