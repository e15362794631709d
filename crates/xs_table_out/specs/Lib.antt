pub mod Children
pub mod Documents
pub mod Encoded
pub mod Spelt
pub mod Steps
pub mod Walk
pub mod Writing
-- what other crates' contracts cite
pub use Rattle.xs_table_out.specs.Documents.{document_bytes}
pub use Rattle.xs_table_out.specs.Steps.{AreSteps, HasTexts}
pub use Rattle.xs_table_out.specs.Writing.{Writes}
