pub mod Nows
pub mod Spelled
pub mod Cuts
pub mod Streams
pub mod Alike
pub mod Pieces
