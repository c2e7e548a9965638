pub mod WhichLists
