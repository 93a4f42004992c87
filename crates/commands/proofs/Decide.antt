pub mod NamesDecideLaws
pub mod BoundsDecideLaws
pub mod DecideLaws
pub mod TypingDecideLaws
