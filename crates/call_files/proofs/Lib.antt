pub mod BoundFiles
pub mod InputRows
pub mod ReadRoles
pub mod RoleLemmas
pub mod SameInputs
pub mod SameSites
pub mod ScriptLemmas
pub mod WritingLemmas
