pub mod Leads
pub mod PhraseAtNow
pub mod ReadAnswers
