pub mod PlanLemmas
pub mod TaskLemmas
