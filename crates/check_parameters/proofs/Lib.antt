pub mod ParameterWalk
