pub mod Lines
pub mod Runs
pub mod Numbers
pub mod Reading
pub mod Pages
pub mod Laws
-- what other crates' contracts cite
pub use Rattle.xs_cert_lines.specs.Lines.{ended, spaced}
pub use Rattle.xs_cert_lines.specs.Runs.{GoesOn}
pub use Rattle.xs_cert_lines.specs.Numbers.{begins_digit}
pub use Rattle.xs_cert_lines.specs.Laws.{IsLine}
