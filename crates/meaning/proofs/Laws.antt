-- Laws about what a derivation means: the function is exact, and what a stream holds of a program is decided (02 §1).
pub mod HoldsDecideLaws
pub mod NestingLaws
pub mod MeantComplete
pub mod MeantLaws
pub mod UnmeantLaws
pub mod EitherLaws
pub mod CauseLaws
pub mod ExceedsLaws
pub mod WithinLaws
