pub mod CodeNames
pub mod RoleNames
pub mod Roles
pub mod Shape
pub mod RoleMarks
