pub mod Lexemes
pub mod Readings
pub mod Words
pub mod Keywords
pub mod Table
pub mod Visits
pub mod Classes
pub mod Lex
