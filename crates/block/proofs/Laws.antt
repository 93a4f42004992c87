pub mod PutLaws
pub mod SumLaws
pub mod BlockLaws
pub mod BlockWays
pub mod BlockFaultLaws
pub mod BlockRoundTrip
pub mod BlockWriteWays
