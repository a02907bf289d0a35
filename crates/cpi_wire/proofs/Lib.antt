pub mod EscapeLemmas
pub mod TextLemmas
pub mod PlainLemmas
pub mod CodingLemmas
pub mod FieldLemmas
pub mod ValueLemmas
pub mod StructLemmas
