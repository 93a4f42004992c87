-- Laws about derivations: reading is exact, and levels, brackets and places go together (02 §1, §2).
pub mod ExpectingLaws
pub mod RowLaws
pub mod LevelLaws
pub mod PlaceLaws
pub mod SoundLaws
pub mod ExpLaws
pub mod CompleteLaws
pub mod BracketLaws
