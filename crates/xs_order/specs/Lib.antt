pub mod Graphs
pub mod Leaves
pub mod Order
pub mod Rules
pub mod Runs
pub mod Wanted
pub mod Outer
-- what other crates' contracts cite
pub use Rattle.xs_order.specs.Order.{AreNullable}
