-- Laws about the pass over uses in lent memory: one for each way through the code, and its loops (02 §1).
pub mod PartLaws
pub mod SeeingLaws
pub mod StackLaws
pub mod BracketLaws
pub mod ChangeLaws
pub mod NameLaws
pub mod TypeLaws
pub mod LoopLaws
pub mod GapLaws
pub mod NumberedLaws
pub mod AmongLaws
pub mod PutLaws
pub mod OffsetLaws
pub mod LayingLaws
pub mod TablingLaws
pub mod TabledLaws
pub mod DeclaringLaws
