pub mod DataWalk
pub mod RoutineWalk
