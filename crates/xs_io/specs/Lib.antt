pub mod Adapters
pub mod CallLog
pub mod Causes
pub mod Folder
pub mod Puts
pub mod Shelves
pub mod Shown
pub mod Sinks
pub mod Sources
pub mod Whole
-- what other crates' contracts cite
pub use Rattle.xs_io.specs.Shown.{IsFile}
