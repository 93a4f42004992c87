-- Why the order does not matter where one order touches apart (02 §11): commands of two instances that do not clash may be swapped, so that
-- every holder's next command can be brought to the front of the given order.
pub mod Commuting
pub mod Alter
pub mod Plans
pub mod PlanLaws
pub mod Swap
pub mod PlanCommand
pub mod CommandPlan
pub mod Holding
pub mod OrderSteps
pub mod StoodFree
pub mod OrderFreeLaws
pub mod FollowingLaws
pub mod MarkLaws
pub mod ZeroTurnLaws
pub mod ApartLaws
pub mod MeetingLaws
pub mod AloneLaws
pub mod StopLaws
pub mod StepAnswerLaws
pub mod StepInputLaws
pub mod ApartInputLaws
