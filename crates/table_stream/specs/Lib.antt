pub mod TableStream
pub mod TableStreamLaws
pub mod RoundTrip
pub mod StreamAgain
pub mod TableAgain
