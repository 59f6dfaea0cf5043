pub mod Reading
pub mod AnswerCache
