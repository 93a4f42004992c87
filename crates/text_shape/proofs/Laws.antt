-- Laws about shapes and roles: what is kept of a derivation in progress goes on as the grammar does, and finds each token's role (02 §1, §2).
pub mod BothLaws
pub mod SiteLaws
pub mod ShapeLaws
pub mod KindShapeLaws
pub mod RoleNameLaws
pub mod RoleLaws
pub mod RoleExpLaws
pub mod RoleMarkLaws
