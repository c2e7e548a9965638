-- Request 3: in a list that breaks no rule no loop hides what its routine declares.
use mathlib.Core.Path.{◌≡◌, refl, sym, ap, ap₂, ◌∙◌}
use mathlib.Core.Bool.{Bool, true, false}
use mathlib.Core.List.{List, [], ◌∷◌, ◌++◌, map}
use Prim.Native.Nat.{ℕ, suc, ◌+◌}
use Prim.Native.String.{String}
use lib.IntN.{pos}
use mathlib.Core.Option.{none}
use lib.Dec.{eqb}
use borrow.Author.Tests.{eqb-true}
use Rattle.laws.proofs.Tests.{test, false-true}
use Rattle.paper.specs.Sorts.{bytes, equal_texts}
use Rattle.paper.specs.Words.{Word, reading}
use Rattle.paper.specs.Terms.{Ref, of_module, of_routine, Memory}
use Rattle.paper.specs.Trees.{leaf, Statement, Statements, Arms, Cases, simple, compact_if, full_if, for, while, empty, ◌then◌, no_arm, arm, no_case, case}
use Rattle.paper.specs.Trees as trees
use Rattle.paper.specs.Names.{a_num, a_bool, Meaning, variable, loop, Text, Names, text_of, Scopes, spelled, is_among, look_in, protected, meaning, cannot_declare, declare, hides_own, enter}
use Rattle.paper.specs.Types.{Fault, fault, fault_if, of_type}
use Rattle.paper.specs.Declarations.{routine_word_limit, crosses}
use Rattle.paper.specs.Checks.{the_body, Setting, fors_in, fors_in_list, fors_in_arms, fors_in_cases, optional_num, case_faults, statement_faults, list_faults, arm_faults, cases_faults}
use Rattle.paper.specs.Computing.{computed}
use Rattle.demands.proofs.Faults.{left-empty, right-empty, if-empty}
use Rattle.demands.specs.LoopNames.{OwnMeans, Shown, ShownInList, ShownInArms, ShownInCases, LoopNames}

-- ---- a loop is entered
same_text : (a b : Text) → equal_texts a b ≡ true → a ≡ b
unfolding equal_texts
same_text [] [] e = refl
same_text [] (y ∷ b) e = false-true e
same_text (x ∷ a) [] e = false-true e
same_text (x ∷ a) (y ∷ b) e =
    test (eqb x y) (λ t. ap₂ (λ (z : ℕ) (r : Text). z ∷ r) (eqb-true x y t) (same_text a b (rw (t, equal_texts) at e))) (λ t. false-true (rw (t, equal_texts) at e))

-- another name is looked up in what is around
look-past : (text : Text) (m : Meaning) (N : Names) (u : Text) (o : Meaning) → equal_texts text u ≡ false → look_in (declare text m [] ++ N) u o ≡ look_in N u o
unfolding declare look_in
look-past text m N u o d = test (cannot_declare [] text) (λ t. rw t refl) (λ t. rw t (rw (d, look_in) refl))

module _ (S : Scopes) (text : Text) (r : Ref) where
  entered-past : (u : Text) → equal_texts text u ≡ false → meaning (enter text r S) u ≡ meaning S u
  unfolding meaning enter
  entered-past u d = ap (look_in protected u) (look-past text (loop r) S.loops u _ d)

  entered-own : (enter text r S).own ≡ S.own
  unfolding enter
  entered-own = refl

-- what a routine declares, where a loop that is named otherwise is entered
others : (T : Scopes) (text u : Text) → hides_own T text ≡ false → hides_own T u ≡ true → equal_texts text u ≡ false
others T text u h g = test (equal_texts text u) (λ t. false-true (sym h ∙ ap (hides_own T) (same_text text u t) ∙ g)) (λ t. t)

-- Scopes S inside loops of a routine with the scopes T.
record Inside (T S : Scopes) : Type 0 where
  means : OwnMeans T S
  own : S.own ≡ T.own

hides-same : (T S : Scopes) (text : Text) → S.own ≡ T.own → hides_own S text ≡ false → hides_own T text ≡ false
unfolding hides_own
hides-same T S text e h = ap (λ (N : Names). is_among (map text_of N) text) (sym e) ∙ h

inside-enter : (T S : Scopes) (text : Text) (r : Ref) → Inside T S → hides_own S text ≡ false → Inside T (enter text r S)
inside-enter T S text r i h = record {
  means = λ u g. entered-past S text r u (others T text u (hides-same T S text i.own h) g) ∙ i.means u g;
  own = entered-own S text r ∙ i.own;
}

-- ---- statements
-- of the faults of a FOR: 10, 19 and 16 at its variable, those of its bounds and its step, those of its list
for-parts : (taken hiding many from to step body : List Fault) → taken ++ hiding ++ many ++ from ++ to ++ step ++ body ≡ [] → (hiding ≡ []) × (body ≡ [])
for-parts taken hiding many from to step body e =
    let head = left-empty (taken ++ hiding ++ many ++ from ++ to ++ step) body e in
    let bounds = left-empty (taken ++ hiding ++ many ++ from ++ to) step head in
    let lower = left-empty (taken ++ hiding ++ many ++ from) to bounds in
    let at_name = left-empty (taken ++ hiding ++ many) from lower in
    (right-empty taken hiding (left-empty (taken ++ hiding) many at_name), right-empty (taken ++ hiding ++ many ++ from ++ to ++ step) body e)

module _ (W : List Word) (K : Setting) (M : Memory) (T : Scopes) where
  mutual
    unfolding statement_faults Shown

    shown : (s : Statement) (S : Scopes) (n : ℕ) → Inside T S → statement_faults W K M s S n ≡ [] → Shown W T s S n
    shown (simple s) S n i e = i.means
    shown (compact_if j c s) S n i e = i.means
    shown (full_if j a o) S n i e =
        let arms = arm_faults W K M a S n in
        let rest = list_faults W K M o S (n + fors_in_arms a) in
        (i.means, shown-arms a S n i (left-empty arms rest e), shown-list o S (n + fors_in_arms a) i (right-empty arms rest e))
    shown (for j v a b c body end) S n i e =
        let S' = enter (spelled W v) (of_routine n) S in
        let parts = for-parts (fault_if (cannot_declare [] (spelled W v)) 10 v) (fault_if (hides_own S (spelled W v)) 19 v) (fault_if (crosses routine_word_limit n 1) 16 v) (of_type W a_num S a) (of_type W a_num S b)
        (optional_num W S c) (list_faults W K M body S' (suc n)) e in
        (i.means, shown-list body S' (suc n) (inside-enter T S (spelled W v) (of_routine n) i (if-empty (hides_own S (spelled W v)) 19 v parts.0)) parts.1)
    shown (while j c body) S n i e = (i.means, shown-list body S n i (right-empty (of_type W a_bool S c) (list_faults W K M body S n) e))
    shown (trees.test j c cs d) S n i e =
        let head = of_type W a_num S c in
        let cases = cases_faults W K M cs S n in
        let rest = list_faults W K M d S (n + fors_in_cases cs) in
        (i.means, shown-cases cs S n i (right-empty head cases (left-empty (head ++ cases) rest e)), shown-list d S (n + fors_in_cases cs) i (right-empty (head ++ cases) rest e))

    shown-list : (l : Statements) (S : Scopes) (n : ℕ) → Inside T S → list_faults W K M l S n ≡ [] → ShownInList W T l S n
    shown-list empty S n i e = tt
    shown-list (s then r) S n i e =
        let one = statement_faults W K M s S n in
        let rest = list_faults W K M r S (n + fors_in s) in
        (shown s S n i (left-empty one rest e), shown-list r S (n + fors_in s) i (right-empty one rest e))

    shown-arms : (a : Arms) (S : Scopes) (n : ℕ) → Inside T S → arm_faults W K M a S n ≡ [] → ShownInArms W T a S n
    shown-arms no_arm S n i e = tt
    shown-arms (arm c b r) S n i e =
        let head = of_type W a_bool S c in
        let list = list_faults W K M b S n in
        let rest = arm_faults W K M r S (n + fors_in_list b) in
        (shown-list b S n i (right-empty head list (left-empty (head ++ list) rest e)), shown-arms r S (n + fors_in_list b) i (right-empty (head ++ list) rest e))

    shown-cases : (c : Cases) (S : Scopes) (n : ℕ) → Inside T S → cases_faults W K M c S n ≡ [] → ShownInCases W T c S n
    shown-cases no_case S n i e = tt
    shown-cases (case es b r) S n i e =
        let head = case_faults W S M es in
        let list = list_faults W K M b S n in
        let rest = cases_faults W K M r S (n + fors_in_list b) in
        (shown-list b S n i (right-empty head list (left-empty (head ++ list) rest e)), shown-cases r S (n + fors_in_list b) i (right-empty (head ++ list) rest e))

pub loop-names : LoopNames
unfolding LoopNames
loop-names W K M l S n e = shown-list W K M S l S n (record { means = λ u g. refl; own = refl }) e

-- ---- instances, which antt computes: a routine with a parameter i, a module with data k, and a loop in a loop
abbrev pub scopes : Scopes
scopes = record { loops = []; own = (bytes "I", variable a_num (of_routine 0)) ∷ []; globals = (bytes "K", variable a_num (of_module 0)) ∷ []; routines = [] }

pub faults-of : String → List Fault
faults-of text =
    list_faults (reading (bytes text)).words (record { routines = []; result = none; list = the_body }) (record { module-words = pos 0 ∷ []; routine-words = pos 0 ∷ []; error-number = 0 })
    (for 0 1 (leaf 3) (leaf 5) none (for 7 8 (leaf 10) (leaf 12) none empty 14 then empty) 15 then empty) scopes 1

-- nothing is refused where both are named k, and i is its own still
pub both-named-k : faults-of "FOR k FROM 1 TO i DO FOR k FROM k TO i DO ENDFOR ENDFOR" ≡ []
unfolding faults-of computed
both-named-k = refl

pub i-is-own : hides_own scopes (bytes "I") ≡ true
unfolding computed
i-is-own = refl

-- 19, at the variable, where one is named i
pub outer-named-i : faults-of "FOR i FROM 1 TO i DO FOR k FROM k TO 2 DO ENDFOR ENDFOR" ≡ fault 19 1
unfolding faults-of computed
outer-named-i = refl

pub inner-named-i : faults-of "FOR k FROM 1 TO i DO FOR I FROM k TO 2 DO ENDFOR ENDFOR" ≡ fault 19 8
unfolding faults-of computed
inner-named-i = refl
