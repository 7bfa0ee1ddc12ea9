pub mod OpsOn
pub mod Laws
pub mod Models
