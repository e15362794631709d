pub mod Charts
pub mod Closed
pub mod Laws
pub mod Next
pub mod Parts
pub mod Reading
pub mod Steps
-- what other crates' contracts cite
pub use Rattle.xs_chart_laws.specs.Charts.{HasPlace, HasWaiters, IsChartOf, IsNumber, ItemStands, set_at}
pub use Rattle.xs_chart_laws.specs.Reading.{Reads}
pub use Rattle.xs_chart_laws.specs.Steps.{IsPassed, IsSettled, next_of}
