pub mod Units
pub mod Nonterminals
pub mod Rules
pub mod Passing
-- what other crates' contracts cite
pub use Rattle.xs_wf.specs.Nonterminals.{HaveOrderedLines}
