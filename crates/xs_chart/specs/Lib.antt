pub mod Advancing
pub mod Charted
pub mod Different
pub mod Kept
-- what other crates' contracts cite
pub use Rattle.xs_chart.specs.Charted.{before_last, first_sets, item_from, items_of, last_set, set_limit, waiting_of}
pub use Rattle.xs_chart.specs.Different.{AreDifferent}
