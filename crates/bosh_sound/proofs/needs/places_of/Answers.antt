use Rattle.std.specs.List.{Contains}
use Rattle.bosh_sound.proofs.EachLemmas.{not_all}
use Rattle.bosh_sound.specs.Places.{texts_of}
use Rattle.bosh_sound.proofs.needs.places_of.Goals as goal

pub returns-in_default : goal.returns-in_default
returns-in_default c =
    not_all (Contains (texts_of c.args.names.now)) c.args.wanted.now c.loop-name.name-index c.name-item.result
    c.loop-name-test.true c.name-item.is c.in_default.ensures.missing
