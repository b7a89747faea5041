pub mod NumberedLemmas
pub mod WaitLemmas
pub mod StateLemmas
pub mod AnswerLemmas
pub mod PutLemmas
pub mod DemandLemmas
pub mod CircleLemmas
pub mod EnterLemmas
pub mod LeaveLemmas
pub mod LeftLemmas
pub mod StandLemmas
pub mod FailLemmas
mod EndLemmas
mod NeedLemmas
mod EnterFailLemmas
mod LeaveFailLemmas
mod FailStepLemmas
mod RootLemmas
mod TitleLemmas
