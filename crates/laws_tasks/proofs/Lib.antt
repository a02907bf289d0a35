pub mod CountLemmas
pub mod LimitLemmas
pub mod ListsLemmas
pub mod RecoveredLemmas
pub mod TaskFrames
pub mod TurnLemmas
