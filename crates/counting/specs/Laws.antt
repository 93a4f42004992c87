-- Why the code that counts leaves memory as it was and gives the counts of the definition (02 §14).
pub mod CopyLaws
pub mod MendLaws
pub mod FrameLaws
pub mod KeepsLaws
pub mod CommandLaws
pub mod StoodLaws
pub mod SumLaws
pub mod OneLaws
