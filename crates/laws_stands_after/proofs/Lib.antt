pub mod DiskBegunLemmas
pub mod DiskEndedLemmas
pub mod DiskToldLemmas
