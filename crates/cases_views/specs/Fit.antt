-- What a goal asks of the releases that are uploaded.
use Rattle.std.specs.Prelude.{List, All}
use Rattle.bosh_alike.specs.Alike.{AreAlike}
use Rattle.bosh_base.specs.declared.release.Release.{Release}
use Rattle.bosh_release.specs.Sound.{IsSound}

-- each is sound by itself, and packages of one fingerprint are one package
pub record AreFit (releases : List Release) : Type 0 where
  pub sound : All IsSound releases
  pub alike : AreAlike releases
