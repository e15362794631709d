pub mod Appended
mod Attributes
mod Calm
mod Content
mod Elements
mod Ends
mod Known
mod SymbolKinds
mod Places
mod ReadBack
mod Scalars
mod Tagged
mod Tests
mod Values
