pub mod PlanTold
pub mod PlanWays
