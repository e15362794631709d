pub mod Words
pub mod Room
pub mod Lines
pub mod Counts
pub mod Derivations
pub mod Slots
pub mod Walk
pub mod Covers
-- what other crates' contracts cite
pub use Rattle.xs_talk.specs.Words.{quoted}
pub use Rattle.xs_talk.specs.Room.{line_bytes, line_spare, longest_fault_line}
pub use Rattle.xs_talk.specs.Lines.{line}
