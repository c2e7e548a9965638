pub mod ListsLeft
