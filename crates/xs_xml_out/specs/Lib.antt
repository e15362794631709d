pub mod Balanced
pub mod Written
pub mod Tags
pub mod Spelling
pub mod Laws
-- what other crates' contracts cite
pub use Rattle.xs_xml_out.specs.Laws.{AreNames}
pub use Rattle.xs_xml_out.specs.Spelling.{AreKnown}
pub use Rattle.xs_xml_out.specs.Written.{rest_bytes, xml_bytes, IsAppended}
