-- What was uploaded: releases that go with one another, and a cloud config.
use Rattle.std.specs.Prelude.{◌≡◌, ℕ, List, Option, is_some, true}
use Rattle.std.specs.Option.{option_map_or}
use Rattle.bosh_asks.specs.Goals.{AreSound, config_in}
use Rattle.bosh_base.specs.declared.release.Release.{Release}

pub record AreUploadsSound (recorded : List Release) (file : Option (List ℕ)) : Type 0 where
  -- a goal may be made from the releases
  pub releases : AreSound recorded
  -- where there is a cloud config, it spells one
  pub config : option_map_or (λ text. is_some (config_in text)) file true ≡ true
