-- Laws about the definitions of this crate: names, types, depth, codes, and what makes a step safe (01, 'Checks').
pub mod CodingLaws
pub mod CommandLaws
pub mod NotedLaws
pub mod RangeLaws
pub mod SizeLaws
pub mod DepthLaws
pub mod NumbersLaws
pub mod SafeLaws
pub mod LocalsLaws
pub mod LivingLaws
pub mod StaticParts
pub mod SecureLaws
pub mod SecureWays
pub mod Static
