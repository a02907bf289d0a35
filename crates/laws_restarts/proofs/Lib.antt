pub mod HaltedLemmas
pub mod LeftLemmas
pub mod RestartLemmas
pub mod SeenLemmas
pub mod StopLemmas
pub mod UnreadLemmas
