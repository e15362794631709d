pub mod Alphabet
pub mod Classed
pub mod Fixed
pub mod Interned
pub mod Pages
pub mod Stretches
pub mod Turns
-- what other crates' contracts cite
pub use Rattle.xs_atoms.specs.Alphabet.{AreAtoms, atom_of, class_has, count_of, skip_classes, term_classes}
