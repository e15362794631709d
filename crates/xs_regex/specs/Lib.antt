pub mod Ascending
pub mod Automaton
pub mod Characters
pub mod Links
pub mod Marked
pub mod Matches
pub mod Meaning
pub mod Parts
pub mod Pattern
pub mod Pieces
pub mod Scan
pub mod Size
pub mod Reported
-- what other crates' contracts cite
pub use Rattle.xs_regex.specs.Automaton.{Accepts, HasAt, IsBelow, IsWellFormed, Leads}
pub use Rattle.xs_regex.specs.Meaning.{IsPatternOf}
pub use Rattle.xs_regex.specs.Size.{HasMember, HasMembers}
