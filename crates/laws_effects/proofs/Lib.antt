pub mod AheadLemmas
pub mod CreationLemmas
pub mod DiskLemmas
pub mod FollowLemmas
pub mod HolderLemmas
pub mod VmLemmas
