pub mod Alone
pub mod Answers
pub mod Output
pub mod Worked
