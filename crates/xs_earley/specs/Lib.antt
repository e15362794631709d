pub mod Adding
pub mod Arriving
pub mod Called
pub mod Facts
pub mod Following
pub mod Growing
pub mod Masks
pub mod Running
pub mod Seen
pub mod Stages
pub mod Starts
pub mod Waiting
-- what other crates' contracts cite
pub use Rattle.xs_earley.specs.Running.{IsRunOf}
