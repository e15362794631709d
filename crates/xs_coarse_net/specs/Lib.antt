pub mod Contents
pub mod Covers
pub mod Fragments
pub mod Going
pub mod Grounds
pub mod Having
pub mod Joining
pub mod Leaves
pub mod Placing
pub mod Reaching
pub mod Renaming
pub mod Sites
pub mod Stretches
pub mod Whole
-- what other crates' contracts cite
pub use Rattle.xs_coarse_net.specs.Contents.{nest_of}
pub use Rattle.xs_coarse_net.specs.Covers.{IsCoverOf, cover_view}
