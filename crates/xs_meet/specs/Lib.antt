pub mod Closed
pub mod Pieces
pub mod Rounds
pub mod Searches
pub mod Seats
pub mod Shared
pub mod Sharing
pub mod Spelling
pub mod Traces
-- what other crates' contracts cite
pub use Rattle.xs_meet.specs.Closed.{AreApart, Drifts, IsSettled, Leads, Marked, Strides}
pub use Rattle.xs_meet.specs.Seats.{other_of, start_of}
pub use Rattle.xs_meet.specs.Shared.{AreOverlapOver, IsSharedOver}
pub use Rattle.xs_meet.specs.Sharing.{IsSharedOf, has_at}
