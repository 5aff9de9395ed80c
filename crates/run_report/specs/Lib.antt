pub mod Audits
pub mod Lines
pub mod Seen
pub use Rattle.nf_net
pub use Rattle.nf_net.specs.proof_machines
pub use Rattle.nf_net.specs.proof_outlines
