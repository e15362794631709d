pub mod Flat
pub mod Counts
pub mod Lent
pub mod Rows
pub mod Tables
-- what other crates' contracts cite
pub use Rattle.xs_tree.specs.Flat.{IsFlat, Leaf, TreePart, common_at, common_of, production_of, tree_at, tree_of, trees_of, word_of}
pub use Rattle.xs_tree.specs.Counts.{capped}
