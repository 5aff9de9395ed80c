pub mod Words
pub mod outline
pub mod whole
pub mod joined
