pub mod CarriedOut
pub mod TextJudged
pub mod PaperAnswer
