-- Laws about tokens: scanning is exact, kinds tell tokens apart, marks have them in their places (02 §1).
pub mod ByteLaws
pub mod NamedLaws
pub mod FrontLaws
pub mod CoverLaws
pub mod LexingLaws
pub mod StrayLaws
pub mod KindLaws
pub mod MarkingLaws
