pub mod Bits
pub mod Edges
pub mod Grouping
pub mod Layout
pub mod Marks
pub mod Nests
pub mod Nets
-- what other crates' contracts cite
pub use Rattle.xs_auto.specs.Bits.{bit_of}
pub use Rattle.xs_auto.specs.Nests.{AreShared, Group, HaveOneFence, IsFenced, IsTame, group_at}
pub use Rattle.xs_auto.specs.Nets.{calls_of, edges_of, final_at, moves_of, states}
