-- What the faults of a routine are made of: those of its parameters, of its data, of its statements, of its ERROR list and of its UNDO list.
use Rattle.std.specs.Prelude.{List, ℕ, ◌+◌, length}
use Rattle.paper.specs.Words.{Word}
use Rattle.paper.specs.Terms.{Memory}
use Rattle.paper.specs.Trees.{Routine, Module}
use Rattle.paper.specs.Types.{Fault}
use Rattle.paper.specs.Declarations.{no_data, Signature, declare_parameters, routine_filling, routine_data, routine_scopes}
use Rattle.paper.specs.Checks.{the_body, the_handler, the_undo, fors_in_list, fors_in_optional, list_faults, optional_faults, setting_in}
use Rattle.faults.specs.Added.{data_faults, parameter_faults}

module _ (W : List Word) (m : Module) where
  abbrev pub in_parameters : Routine → List Fault
  in_parameters r = parameter_faults W (routine_filling W m) r.parameters no_data

  abbrev pub in_data : Routine → List Fault
  in_data r = data_faults W (routine_filling W m) r.declared (declare_parameters W (routine_filling W m) r.parameters no_data)

  abbrev pub memory_of : Routine → Memory
  memory_of r = (routine_filling W m).memory_with (routine_data W m r).words

  abbrev pub in_body : List Signature → ℕ → Routine → List Fault
  in_body sigs k r = list_faults W (setting_in W sigs k r the_body) (memory_of r) r.body.statements (routine_scopes W m r) (length (routine_data W m r).words)

  abbrev pub in_handler : List Signature → ℕ → Routine → List Fault
  in_handler sigs k r =
      optional_faults W (setting_in W sigs k r the_handler) (memory_of r) (routine_scopes W m r) (length (routine_data W m r).words + fors_in_list r.body.statements) r.handler

  abbrev pub in_undo_list : List Signature → ℕ → Routine → List Fault
  in_undo_list sigs k r =
      optional_faults W (setting_in W sigs k r the_undo) (memory_of r) (routine_scopes W m r) (length (routine_data W m r).words + fors_in_list r.body.statements + fors_in_optional r.handler) r.undo
