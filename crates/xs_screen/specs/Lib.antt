pub mod Fixed
pub mod Parting
pub mod Screens
-- what other crates' contracts cite
pub use Rattle.xs_screen.specs.Screens.{AreDoubts, IsScreen, ShareNone}
