pub mod BookFiles
pub mod FewRows
pub mod OnSheets
pub mod Positioned
pub mod Listed
pub mod SearchedListed
