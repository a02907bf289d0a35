pub mod KeptLemmas
pub mod MigrationLemmas
pub mod SilenceLemmas
pub mod WriteLemmas
