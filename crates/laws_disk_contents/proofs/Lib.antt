pub mod ActiveLemmas
pub mod ContentLemmas
pub mod MigrationLemmas
