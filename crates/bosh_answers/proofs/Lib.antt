pub mod DeployLemmas
