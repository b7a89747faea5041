pub mod PlanOutcomes
