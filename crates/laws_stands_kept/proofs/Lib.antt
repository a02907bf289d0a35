pub mod CountLemmas
pub mod KeptLemmas
pub mod OwnLemmas
pub mod SharedLemmas
