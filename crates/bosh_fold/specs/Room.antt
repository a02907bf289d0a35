-- What was made ready for an entry.
use Rattle.std.specs.Prelude.{◌<◌}
use Rattle.std.specs.Vec.{vec_len, vec_capacity}
use Rattle.bosh_fold.specs.declared.change.Change.{Change}
use Rattle.bosh_fold.specs.declared.change.Change.TheVariants.{Release, Stemcell}
use Rattle.bosh_records.specs.declared.records.Records.{Records}

-- there is room for one release, or one stemcell, more where the change brings one
abbrev pub HasRoom : Records → Change → Type 0
HasRoom records (Release release) = vec_len records.releases < vec_capacity records.releases
HasRoom records (Stemcell stemcell) = vec_len records.stemcells < vec_capacity records.stemcells
HasRoom records change = Unit {0}
