pub mod StoreLookUps
