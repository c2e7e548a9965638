pub mod NamesAgain
