pub mod CharacterLemmas
pub mod ValueLemmas
pub mod ItemLemmas
pub mod MemberLemmas
pub mod MergeLemmas
pub mod FieldLemmas
pub mod UnionLemmas
pub mod IndexLemmas
