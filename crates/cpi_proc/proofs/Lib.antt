pub mod TextLemmas
pub mod DecimalLemmas
pub mod CutLemmas
pub mod OwnerLemmas
pub mod CallLemmas
pub mod RequestLemmas
pub mod ReplyLemmas
pub mod PortLemmas
