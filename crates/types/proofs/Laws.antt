pub mod TypeLaws
pub mod ValueLaws
pub mod SetsLaws
pub mod OrderLaws
pub mod StageLaws
pub mod ListLaws
