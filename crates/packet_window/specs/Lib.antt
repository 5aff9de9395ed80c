pub mod Window
