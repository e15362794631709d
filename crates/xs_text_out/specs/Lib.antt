pub mod Pieces
pub mod Printed
pub mod Shares
pub mod Walk
pub mod Printers
-- what other crates' contracts cite
pub use Rattle.xs_text_out.specs.Printers.{IsPrinterOf}
