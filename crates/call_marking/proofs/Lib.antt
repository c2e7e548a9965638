pub mod AnswerPut
pub mod MarkCarried
pub mod MarkAnswer
pub mod Unique
