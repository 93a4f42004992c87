pub mod TraceLaws
pub mod TraceStepLaws
pub mod TraceTextLaws
pub mod TracePageLaws
