pub mod OtherMessages
