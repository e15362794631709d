pub mod Classes
pub mod Marks
pub mod Named
pub mod Ordered
pub mod Tables
pub mod Words
pub mod formers
-- what other crates' contracts cite
pub use Rattle.xs_class.specs.Classes.{Has, HaveSame, IsClass}
pub use Rattle.xs_class.specs.Named.{HasMembersOf, set_named}
pub use Rattle.xs_class.specs.Ordered.{AreNamesOf, IsOrdered, place_of}
pub use Rattle.xs_class.specs.Tables.{IsChar, char_table}
unfoldable pub use Rattle.xs_class.specs.Tables.{is_name_start}
pub use Rattle.xs_class.specs.Words.{hex_value, is_digit, is_empty, same}
