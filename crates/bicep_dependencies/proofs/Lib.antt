pub mod HasLemmas
pub mod LeadLemmas
pub mod FillLemmas
