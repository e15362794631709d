pub mod Tables
pub mod Piece
pub mod Legal
pub mod Reads
pub mod Scan
pub mod Laws
pub use Rattle.xs_class.specs.Marks
pub use Rattle.xs_class.specs.Ordered
-- what other crates' contracts cite
unfoldable pub use Rattle.xs_xml_laws.specs.Tables.{is_char, is_digit, is_hex, is_name_char, is_quote, is_white}
pub use Rattle.xs_xml_laws.specs.Piece.{all_of, is_apart, is_name, lower, number, numbered, same, when}
unfoldable pub use Rattle.xs_xml_laws.specs.Piece.{ref_char}
pub use Rattle.xs_xml_laws.specs.Reads.{closing, lines, marked, name_order, opening}
pub use Rattle.xs_xml_laws.specs.Scan.{after, attrs_at, bang_at, bit_at, char_at, cut, declaration_attrs, end_at, in_cdata, in_comment, instruction_at, markup_at, reference_at, span, tag_at}
unfoldable pub use Rattle.xs_xml_laws.specs.Scan.{attr_at, piece_at}
