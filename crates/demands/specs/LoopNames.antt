-- Request 3, loop names that hide: for all lists of statements.
use Rattle.std.specs.Prelude.{◌≡◌, true, List, [], ℕ, suc, ◌+◌}
use Rattle.paper.specs.Words.{Word}
use Rattle.paper.specs.Terms.{of_routine, Memory}
use Rattle.paper.specs.Trees.{Statement, Statements, Arms, Cases, simple, compact_if, full_if, for, while, test, empty, ◌then◌, no_arm, arm, no_case, case}
use Rattle.paper.specs.Names.{Text, Scopes, spelled, meaning, hides_own, enter}
use Rattle.paper.specs.Checks.{Setting, fors_in, fors_in_list, fors_in_arms, fors_in_cases, list_faults}

-- What a routine with the scopes T outside its loops declares, parameters and data, means in S what it means there.
abbrev pub OwnMeans : (T S : Scopes) → Type 0
OwnMeans T S = (text : Text) → hides_own T text ≡ true → meaning S text ≡ meaning T text

-- So it is in the scopes S, where a statement stands, and in those where each statement in it does. The routine has used n words before.
module _ (W : List Word) (T : Scopes) where
  unfoldable mutual
    pub Shown : Statement → Scopes → ℕ → Type 0
    Shown (simple s) S n = OwnMeans T S
    Shown (compact_if i e s) S n = OwnMeans T S
    Shown (full_if i a o) S n = OwnMeans T S × ShownInArms a S n × ShownInList o S (n + fors_in_arms a)
    Shown (for i v a b c body end) S n = OwnMeans T S × ShownInList body (enter (spelled W v) (of_routine n) S) (suc n)
    Shown (while i e body) S n = OwnMeans T S × ShownInList body S n
    Shown (test i e c d) S n = OwnMeans T S × ShownInCases c S n × ShownInList d S (n + fors_in_cases c)

    pub ShownInList : Statements → Scopes → ℕ → Type 0
    ShownInList empty S n = Unit {0}
    ShownInList (s then r) S n = Shown s S n × ShownInList r S (n + fors_in s)

    pub ShownInArms : Arms → Scopes → ℕ → Type 0
    ShownInArms no_arm S n = Unit {0}
    ShownInArms (arm e b r) S n = ShownInList b S n × ShownInArms r S (n + fors_in_list b)

    pub ShownInCases : Cases → Scopes → ℕ → Type 0
    ShownInCases no_case S n = Unit {0}
    ShownInCases (case es b r) S n = ShownInList b S n × ShownInCases r S (n + fors_in_list b)

-- "the parameter stood still": in a list of a routine that breaks no rule no loop hides what the routine declares.
unfoldable pub LoopNames : Type 0
LoopNames = (W : List Word) (K : Setting) (M : Memory) (l : Statements) (S : Scopes) (n : ℕ) → list_faults W K M l S n ≡ [] → ShownInList W S l S n
