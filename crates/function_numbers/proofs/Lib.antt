pub mod RowLemmas
pub mod NumberLemmas
pub mod WordLemmas
pub mod TextLemmas
