-- The types of a routine's parameters, without the lists of faults: what the paper's signature says.
use mathlib.Core.Path.{◌≡◌, refl, sym, ap, ap₂, subst, ◌∙◌}
use mathlib.Core.Bool.{Bool, true, false, ◌||◌}
use mathlib.Core.List.{List, [], ◌∷◌, ◌++◌, map, append_assoc}
use Prim.Native.Nat.{ℕ, ◌+◌, ◌≤◌}
use native.Mathlib.Omega.{arith}
use lib.Dec.{eqb}
use lib.ListN.{length, length-append}
use lib.IntN.{pos}
use borrow.Author.Tests.{eq-eqb, ne_eqb, lt-ltb, le-ltb}
use Rattle.laws.proofs.Tests.{test, by-same, by_less}
use Rattle.std.specs.Prelude.{if◌then◌else◌}
use Rattle.paper.specs.Sorts.{equal_texts}
use Rattle.paper.specs.Words.{Word}
use Rattle.paper.specs.Trees.{Parameter, Routine, Module}
use Rattle.paper.specs.Names.{DataType, refused_piece, type_of, Meaning, variable, Text, Names, text_of, sort_in, spelled, is_among, cannot_declare, declare}
use Rattle.paper.specs.Types.{Fault, fault, fault_if}
use Rattle.paper.specs.Declarations.{routine_word_limit, crosses, is_refused, Data, Filling, declare_name, declare_parameters, no_data, routine_filling, parameter_types, result_asked, signature}
use Rattle.check_names.specs.Meanings.{is_protected}
use Rattle.check_names.proofs.Spellings.{same-texts}
use Rattle.grammar.specs.Form.{Parses, SeparatedAt, last_one, one_more, closed-at-once, closed-later, ParameterAt, ParametersAt}
use Rattle.check_heads.specs.Trees.{given_types, given_signature}

-- ---- faults by their words
refused-append : (i : ℕ) (a b : List Fault) → is_refused i (a ++ b) ≡ (is_refused i a || is_refused i b)
unfolding is_refused
refused-append i [] b = refl
refused-append i (f ∷ a) b = test (eqb f.at i) (λ t. rw (t, is_refused)) (λ t. rw (t, is_refused) (refused-append i a b))

refused-here : (c : Bool) (number i : ℕ) → is_refused i (fault_if c number i) ≡ c
unfolding is_refused fault_if fault
refused-here true number i = rw (eq-eqb i i refl, is_refused)
refused-here false number i = refl

refused-there : (c : Bool) (number i j : ℕ) → (i ≡ j → ⊥) → is_refused j (fault_if c number i) ≡ false
unfolding is_refused fault_if fault
refused-there true number i j d = rw (ne_eqb i j d, is_refused)
refused-there false number i j d = refl

nor : (a b : Bool) → a ≡ false → b ≡ false → (a || b) ≡ false
nor a b e f = rw (e, f)

or-false : (a b : Bool) → b ≡ false → (a || b) ≡ a
or-false true b e = refl
or-false false b e = e

append-nil : (l : List Fault) → l ++ [] ≡ l
append-nil [] = refl
append-nil (f ∷ l) = ap (λ (r : List Fault). f ∷ r) (append-nil l)

-- ---- names that are declared, and all that came before
among_same : (N : List Text) (a b : Text) → equal_texts a b ≡ true → is_among N a ≡ true → is_among N b ≡ true
among_same N a b e h = ap (is_among N) (sym (same-texts a b e)) ∙ h

taken : (N : List Text) (text u : Text) → is_protected u ≡ false → equal_texts text u ≡ true → cannot_declare N text ≡ true → is_among N text ≡ true
unfolding cannot_declare
taken N text u free t c = let e : is_protected text ≡ false = ap is_protected (same-texts text u t) ∙ free in rw e at c

pub declared-among : (text : Text) (m : Meaning) (N : Names) (earlier : List Text) → ((u : Text) → is_protected u ≡ false → is_among (map text_of N) u ≡ is_among earlier u)
    → (u : Text) → is_protected u ≡ false → is_among (map text_of (declare text m N)) u ≡ is_among (text ∷ earlier) u
unfolding declare is_among
declared-among text m N earlier same u free =
    test (cannot_declare (map text_of N) text)
    (λ c. rw c (test (equal_texts text u)
    (λ t. rw (t, is_among) (among_same (map text_of N) text u t (taken (map text_of N) text u free t c)))
    (λ t. rw (t, is_among) (same u free))))
    (λ c. rw c (test (equal_texts text u) (λ t. rw (t, is_among)) (λ t. rw (t, is_among) (same u free))))

cannot-same : (a b : List Text) (u : Text) → (is_protected u ≡ false → is_among a u ≡ is_among b u) → cannot_declare a u ≡ cannot_declare b u
unfolding cannot_declare
cannot-same a b u h = test (is_protected u) (λ t. rw t) (λ t. rw t (h t))

pub crosses-one : (limit n : ℕ) → crosses limit n 1 ≡ eqb n limit
unfolding crosses
crosses-one limit n =
    by_less limit n (λ l. rw (lt-ltb limit n l) (sym (ne_eqb n limit (λ e. omega arith))))
    (λ l. rw (le-ltb limit n l) (by-same n limit (λ e. lt-ltb limit (n + 1) (omega arith) ∙ sym (eq-eqb n limit e)) (λ d. le-ltb limit (n + 1) (omega (arith, d)) ∙ sym (ne_eqb n limit d))))

module _ (W : List Word) (F : Filling) (limit_is : F.limit ≡ routine_word_limit) where
  unfoldable step : Parameter → Data → Data
  step p D = declare_name W F p.name (variable (type_of p.type)) (pos 0 ∷ []) [] D

  unfoldable own : Parameter → Data → List Fault
  own p D = fault_if (cannot_declare (map text_of D.names) (spelled W p.name)) 10 p.name ++ (fault_if (crosses F.limit (length D.words) 1) 16 p.name ++ [])

  unfoldable added : List Parameter → Data → List Fault
  added [] D = []
  added (p ∷ ps) D = own p D ++ added ps (step p D)

  faults-step : (p : Parameter) (D : Data) → (step p D).faults ≡ D.faults ++ own p D
  unfolding step own declare_name
  faults-step p D = simp append_assoc

  again : (p : Parameter) (D : Data) (more : List Fault) → (step p D).faults ++ more ≡ D.faults ++ (own p D ++ more)
  again p D more = ap (λ (l : List Fault). l ++ more) (faults-step p D) ∙ append_assoc D.faults (own p D) more

  faults-added : (ps : List Parameter) (D : Data) → (declare_parameters W F ps D).faults ≡ D.faults ++ added ps D
  unfolding declare_parameters added step
  faults-added [] D = sym (append-nil D.faults)
  faults-added (p ∷ ps) D = faults-added ps (step p D) ∙ again p D (added ps (step p D))

  own-here : (p : Parameter) (D : Data) → is_refused p.name (own p D) ≡ (cannot_declare (map text_of D.names) (spelled W p.name) || eqb (length D.words) routine_word_limit)
  unfolding own is_refused
  own-here p D =
      refused-append p.name (fault_if (cannot_declare (map text_of D.names) (spelled W p.name)) 10 p.name) _
      ∙ ap₂ (λ (a b : Bool). a || b) (refused-here (cannot_declare (map text_of D.names) (spelled W p.name)) 10 p.name)
      (refused-append p.name (fault_if (crosses F.limit (length D.words) 1) 16 p.name) []
      ∙ or-false _ _ refl ∙ refused-here (crosses F.limit (length D.words) 1) 16 p.name
      ∙ crosses-one F.limit (length D.words) ∙ ap (eqb (length D.words)) limit_is)

  own-there : (p : Parameter) (D : Data) (i : ℕ) → (p.name ≡ i → ⊥) → is_refused i (own p D) ≡ false
  unfolding own is_refused
  own-there p D i d =
      refused-append i (fault_if (cannot_declare (map text_of D.names) (spelled W p.name)) 10 p.name) _
      ∙ nor _ _ (refused-there _ 10 p.name i d) (refused-append i (fault_if (crosses F.limit (length D.words) 1) 16 p.name) [] ∙ nor _ _ (refused-there _ 16 p.name i d) refl)

  abbrev P : List Parameter → (at to : ℕ) → Type 0
  P ps at to = SeparatedAt (sort_in W) (ParameterAt (sort_in W) (Parses (sort_in W))) ps at to

  -- what is added is at later words
  added_none : {ps : List Parameter} {at to : ℕ} → P ps at to → (D : Data) (i : ℕ) → i ≤ at → is_refused i (added ps D) ≡ false
  unfolding added is_refused
  added_none (last_one {a = p} k f) D i h = refused-append i (own p D) [] ∙ nor _ _ (own-there p D i (λ e. omega (arith, k.named))) refl
  added_none (one_more {a = p} {r = ps} {at = at} {n = n} k c q) D i h =
      refused-append i (own p D) (added ps (step p D)) ∙ nor _ _ (own-there p D i (λ e. omega (arith, k.named))) (added_none q (step p D) i (omega (arith, k.after)))

  -- ---- so far: the names, how many words, and no fault from a word on
  record Before (D : Data) (earlier : List Text) (n at : ℕ) : Type 0 where
    pub names : (u : Text) → is_protected u ≡ false → is_among (map text_of D.names) u ≡ is_among earlier u
    pub words : length D.words ≡ n
    pub faults : (i : ℕ) → at ≤ i → is_refused i D.faults ≡ false

  before-step : (D : Data) (earlier : List Text) (n at : ℕ) (p : Parameter) → Before D earlier n at → p.name ≡ at + 1 → Before (step p D) (spelled W p.name ∷ earlier) (n + 1) (at + 3)
  unfolding step declare_name
  before-step D earlier n at p b e = record {
    names = declared-among (spelled W p.name) (variable (type_of p.type) (F.ref (length D.words))) D.names earlier b.names;
    words = length-append D.words (pos 0 ∷ []) ∙ ap (λ (k : ℕ). k + 1) b.words;
    faults = λ i h. ap (is_refused i) (faults-step p D) ∙ refused-append i D.faults (own p D) ∙ nor _ _ (b.faults i (omega arith)) (own-there p D i (λ z. omega arith));
  }

  type-given : (D : Data) (earlier : List Text) (n at : ℕ) (p : Parameter) (more : List Fault) → Before D earlier n at → p.name ≡ at + 1 → is_refused p.name more ≡ false
      → is_refused p.name (D.faults ++ (own p D ++ more)) ≡ (cannot_declare earlier (spelled W p.name) || eqb n routine_word_limit)
  type-given D earlier n at p more b e h =
      refused-append p.name D.faults (own p D ++ more)
      ∙ ap₂ (λ (x y : Bool). x || y) (b.faults p.name (omega arith)) (refused-append p.name (own p D) more ∙ or-false _ _ h ∙ own-here p D)
      ∙ ap₂ (λ (x y : Bool). x || y) (cannot-same (map text_of D.names) earlier (spelled W p.name) (b.names (spelled W p.name))) (ap (λ (k : ℕ). eqb k routine_word_limit) b.words)

  given : {ps : List Parameter} {at to : ℕ} → P ps at to → (D : Data) (earlier : List Text) (n : ℕ) → Before D earlier n at → parameter_types W (D.faults ++ added ps D) ps ≡ given_types W earlier n ps
  unfolding parameter_types given_types added is_refused
  given (last_one {a = p} {at = at} k f) D earlier n b = rw (type-given D earlier n at p [] b k.named refl)
  given (one_more {a = p} {r = ps} {at = at} {n = q} {to = to} k c s) D earlier n b =
      let z : q + 1 ≡ at + 3 = omega (arith, k.after) in
      let e : p.name ≡ at + 1 = k.named in
      ap₂ (λ (t : DataType) (l : List DataType). t ∷ l)
      (ap (λ (x : Bool). if x then refused_piece else type_of p.type) (type-given D earlier n at p (added ps (step p D)) b e (added_none s (step p D) p.name (omega (arith, k.named, k.after)))))
      (ap (λ (l : List Fault). parameter_types W l ps) (sym (again p D (added ps (step p D)))) ∙ given s (step p D) (spelled W p.name ∷ earlier) (n + 1) (subst (Before (step p D) (spelled W p.name ∷ earlier) (n + 1)) (sym z) (before-step D earlier n at p b e)))

  nothing-before : (at : ℕ) → Before no_data [] 0 at
  unfolding is_among is_refused
  nothing-before at = record { names = λ u h. refl; words = refl; faults = λ i h. refl }

  pub parameter-types : {ps : List Parameter} {at to : ℕ} → ParametersAt (sort_in W) (Parses (sort_in W)) ps at to → parameter_types W (declare_parameters W F ps no_data).faults ps ≡ given_types W [] 0 ps
  unfolding parameter_types given_types
  parameter-types (closed-at-once c e) = refl
  parameter-types (closed-later {l = ps} {at = at} f h) = ap (λ (l : List Fault). parameter_types W l ps) (faults-added ps no_data) ∙ given h no_data [] 0 (nothing-before at)

-- ---- signatures
pub signature-given : (W : List Word) (m : Module) (k : ℕ) (r : Routine) (at to : ℕ) → ParametersAt (sort_in W) (Parses (sort_in W)) r.parameters at to → given_signature W k r ≡ signature W m k r
unfolding given_signature signature routine_filling
signature-given W m k r at to h =
    ap (λ (l : List DataType). record { result = result_asked W k r.result; parameters = l }) (sym (parameter-types W (routine_filling W m) refl h))
