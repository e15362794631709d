pub mod Regular
pub mod Outline
pub mod Pieces
pub mod Grammar
pub mod Machine
pub mod View
pub mod Faults
pub mod Layout
pub mod Lines
-- what other crates' contracts cite
pub use Rattle.xs_sheet.specs.Outline.{Content, content_of, fence, ignorable, production, terminal, unit_outline}
unfoldable pub use Rattle.xs_sheet.specs.Outline.{with_item}
pub use Rattle.xs_sheet.specs.Grammar.{HasRegex, HaveRegexes}
pub use Rattle.xs_sheet.specs.Layout.{quoted}
pub use Rattle.xs_sheet.specs.Lines.{IsReadable}
