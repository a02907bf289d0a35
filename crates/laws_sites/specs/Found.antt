-- What is settled outside of a history, as the director finds it out.
use Rattle.std.specs.Prelude.{◌≡◌, ℕ, List, is_some, true}
use Rattle.bosh_asks.specs.Goals.{config_in}
use Rattle.bosh_base.specs.declared.release.Release.{Release}
use Rattle.bosh_book.specs.Uploads.{GoesWith}
use Rattle.bosh_history.specs.Notes.{Outside}

-- a text that spells a cloud config is one, and a release goes with recorded ones where they are sound, alone and together
pub record IsFoundOut (outside : Outside) : Type 0 where
  pub configs : (file : List ℕ) → is_some (config_in file) ≡ true → outside.is_config file ≡ true
  pub releases : (releases : List Release) (release : Release) → GoesWith releases release
      → outside.goes_with releases release ≡ true
