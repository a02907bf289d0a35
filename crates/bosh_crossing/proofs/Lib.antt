pub mod BookSent
pub mod Cuts
pub mod RecordsSent
pub mod SiteSent
pub mod WorkSent
