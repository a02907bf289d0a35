use Rattle.bosh_release.specs.Sound.{IsSound}
use Rattle.bosh_keys.proofs.UsesLemmas.{used_all}
use Rattle.bosh_keys.proofs.laws.used_releases_are_sound.Goals as goal

pub returns : goal.returns
returns c = used_all IsSound
