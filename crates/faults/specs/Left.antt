-- What is left of the module's faults while a walk goes over the routines. The paper lists the faults of all routine names before those of the routines; in the text
-- each routine's name stands before its own words.
use Rattle.std.specs.Prelude.{◌≡◌, List, ◌++◌, ℕ}
use Rattle.paper.specs.Words.{Word}
use Rattle.paper.specs.Trees.{Routine, Module}
use Rattle.paper.specs.Names.{Text, sort_in, spelled, cannot_declare}
use Rattle.paper.specs.Types.{Fault, fault_if}
use Rattle.paper.specs.Declarations.{routine_limit, crosses, routine_name_faults, signatures}
use Rattle.paper.specs.Checks.{routine_faults, all_routine_faults, faults}
use Rattle.grammar.specs.Form.{Parses, RoutinesAt}

module _ (W : List Word) where
  -- Rules 10 and 16 for the name of routine k.
  unfoldable pub head_faults : (earlier : List Text) → ℕ → Routine → List Fault
  head_faults earlier k r =
      fault_if (cannot_declare earlier (spelled W r.name)) 10 r.name
      ++ fault_if (crosses routine_limit k 1) 16 r.name

  -- All faults of routine k, as the text has them.
  unfoldable pub own_faults : Module → (earlier : List Text) → ℕ → Routine → List Fault
  own_faults m earlier k r = head_faults earlier k r ++ routine_faults W m (signatures W m 0 m.routines) k r

  -- The faults of routines k, k + 1, .. as the paper lists them.
  unfoldable pub left_faults : Module → (earlier : List Text) → ℕ → List Routine → List Fault
  left_faults m earlier k rs = routine_name_faults W earlier k rs ++ all_routine_faults W m (signatures W m 0 m.routines) k rs

  -- The data and the routines before k have no faults; routines rs, from k on, stand from `at` up to `to`. `earlier` are the texts of the names declared before.
  pub record Left (m : Module) (earlier : List Text) (k : ℕ) (rs : List Routine) (at to : ℕ) : Type 0 where
    pub stand : RoutinesAt (sort_in W) (Parses (sort_in W)) rs at to
    pub left : faults W m ≡ left_faults m earlier k rs
