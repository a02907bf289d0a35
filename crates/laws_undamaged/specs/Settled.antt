-- What is settled outside of a history, as the director finds it out.
use Rattle.std.specs.Prelude.{◌≡◌, ℕ, List, [], ◌∷◌, ◌++◌, is_some, true}
use Rattle.bosh_asks.specs.Goals.{AreSound, config_in}
use Rattle.bosh_base.specs.declared.release.Release.{Release}
use Rattle.bosh_history.specs.Notes.{Outside}

-- a cloud config spells one, and a release goes with recorded ones only where all of them are sound, alone and together
pub record TellsRightly (outside : Outside) : Type 0 where
  pub configs : (file : List ℕ) → outside.is_config file ≡ true → is_some (config_in file) ≡ true
  pub releases : (releases : List Release) (release : Release) → outside.goes_with releases release ≡ true
      → AreSound (releases ++ release ∷ [])
