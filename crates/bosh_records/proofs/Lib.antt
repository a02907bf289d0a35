pub mod EachLemmas
pub mod NextKeyLemmas
pub mod RoomLemmas
