pub mod Trace
pub mod LineText
pub mod TraceText
pub mod TracePage
pub mod TraceRows
