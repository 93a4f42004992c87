pub mod FaultLaws
pub mod ImageLaws
pub mod ImageBytes
pub mod ImageRoundTrip
pub mod ImageWays
pub mod WriteWays
pub mod AnswerLaws
pub mod OpeningLaws
