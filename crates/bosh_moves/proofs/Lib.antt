pub mod FoundLemmas
pub mod RestartLemmas
pub mod SilentLemmas
pub mod StoryLemmas
pub mod TellLemmas
