pub mod Told
pub mod ByteWays
pub mod PathWays
pub mod FormWays
pub mod ExprWays
pub mod SpanWays
