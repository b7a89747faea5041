pub mod SplitLemmas
pub mod NameLemmas
pub mod PartLemmas
pub mod IdLemmas
pub mod ChildLemmas
pub use Rattle.expression_values.proofs.Equations
