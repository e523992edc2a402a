pub mod AnswerOf
pub mod Causes
pub mod ExitStatus
pub mod OnlyRead
pub mod Told
pub mod View
