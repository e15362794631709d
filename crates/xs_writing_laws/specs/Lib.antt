pub mod Laws
-- what other crates' contracts cite
pub use Rattle.xs_writing_laws.specs.Laws.{CanBeWritten}
