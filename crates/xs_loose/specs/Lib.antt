pub mod Arcs
pub mod Components
pub mod Groups
pub mod Growth
pub mod Laws
pub mod Laying
pub mod Making
pub mod Nesting
pub mod Nets
pub mod Parts
pub mod Steps
pub mod Tables
pub mod Walking
pub mod Weighing
pub mod Work
-- what other crates' contracts cite
pub use Rattle.xs_loose.specs.Groups.{group_number, groups_before, groups_count, lefts}
pub use Rattle.xs_loose.specs.Nets.{IsNestOf, IsNetOf}
pub use Rattle.xs_loose.specs.Parts.{AreLight, IsPart, part_items}
pub use Rattle.xs_loose.specs.Steps.{StandsAt}
pub use Rattle.xs_loose.specs.Tables.{AreNumbersBefore, AreTables}
pub use Rattle.xs_loose.specs.Weighing.{AreWeights}
