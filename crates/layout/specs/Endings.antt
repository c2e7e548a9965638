-- The endings of the paper's table as the code names them, by their numbers.
use Rattle.std.specs.Prelude.{ℕ, Bool, true, false}
use Rattle.layout.specs.Rules.{main_returned, exited, unhandled, fell_off, steps_spent, beyond_depth, no_input, no_room, aborted, undo_spent}
use Rattle.layout.specs.declared.endings.Ending.{Ending}
use Rattle.layout.specs.declared.endings.Ending.TheVariants.{MainReturned, Exited, Unhandled, FellOff, StepsSpent, BeyondDepth, NoInput, NoRoom, Aborted, UndoSpent}

-- what a host is told of an ending
abbrev pub ending_number : Ending → ℕ
ending_number MainReturned = main_returned
ending_number Exited = exited
ending_number Unhandled = unhandled
ending_number FellOff = fell_off
ending_number StepsSpent = steps_spent
ending_number BeyondDepth = beyond_depth
ending_number NoInput = no_input
ending_number NoRoom = no_room
ending_number Aborted = aborted
ending_number UndoSpent = undo_spent

-- those that a step comes to which is made
abbrev pub ends_step : Ending → Bool
ends_step MainReturned = true
ends_step Exited = true
ends_step Unhandled = false
ends_step FellOff = true
ends_step StepsSpent = false
ends_step BeyondDepth = false
ends_step NoInput = false
ends_step NoRoom = false
ends_step Aborted = false
ends_step UndoSpent = false
