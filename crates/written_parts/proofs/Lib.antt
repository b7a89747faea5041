pub mod FaultLemmas
pub mod ObjectLemmas
pub mod ValueLemmas
pub mod PartLemmas
pub mod GivenLemmas
