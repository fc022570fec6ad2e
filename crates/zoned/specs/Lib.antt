pub mod InZone
pub mod Kinds
pub mod Local
pub mod ZoneCases
