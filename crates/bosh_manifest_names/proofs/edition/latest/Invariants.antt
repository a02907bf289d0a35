use Rattle.std.proofs.Common.{◌≡◌, take}
use Rattle.std.specs.Option.{option_copied}
use Rattle.bosh_manifest_names.specs.Edition.{edition}
use Rattle.std.specs.Prelude.{None}
use Rattle.bosh_manifest_names.proofs.edition.latest.Given as goal

abbrev pub invariant-loop-thing : goal.invariant-loop-thing
invariant-loop-thing g l =
    option_copied l.best ≡ edition g.T.Versioned.name_of g.T.Versioned.version_of (take l.thing-index l.all) l.name None
