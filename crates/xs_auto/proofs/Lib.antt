pub mod BitLemmas
pub mod ClassLemmas
pub mod CommonLemmas
pub mod GroupLemmas
pub mod LayoutLemmas
pub mod MarkLemmas
