pub mod ReplyLines
pub mod AnswerLeaves
