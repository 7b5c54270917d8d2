pub mod FormWords
pub mod Meaning
pub mod Rules
pub mod Literals
