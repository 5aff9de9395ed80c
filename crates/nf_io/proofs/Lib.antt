pub mod RolesAfterLoan
pub mod TransferLemmas
pub mod FileRoles
pub mod TapeTables
