-- The texts on releases, stemcells and compiled packages (this project's profile).
use Rattle.std.specs.Prelude.{ℕ, List, ◌++◌, codes, decimal}
use Rattle.std.specs.List.{flat_map}
use Rattle.hex.specs.Hex.{encode_lower}
use Rattle.bosh_base.specs.declared.reply.ReleaseAdded.{ReleaseAdded}
use Rattle.bosh_base.specs.declared.reply.ReleaseLine.{ReleaseLine}
use Rattle.bosh_base.specs.declared.reply.ReleaseThere.{ReleaseThere}
use Rattle.bosh_base.specs.declared.snapshot.BuiltKey.{BuiltKey}
use Rattle.bosh_base.specs.declared.spec.Mark.{Mark}
use Rattle.bosh_base.specs.declared.stemcell.Stemcell.{Stemcell}

-- `NAME/VERSION`
abbrev pub versioned : List ℕ → List ℕ → List ℕ
versioned name version = name ++ codes "/" ++ version

-- `release NAME/VERSION: J jobs, P packages`
abbrev pub release_added : ReleaseAdded → List ℕ
release_added release =
    codes "release " ++ versioned release.name release.version ++ codes ": " ++ decimal release.jobs
    ++ codes " jobs, " ++ decimal release.packages ++ codes " packages\n"

-- `release NAME/VERSION already there`
abbrev pub release_there : ReleaseThere → List ℕ
release_there release = codes "release " ++ versioned release.name release.version ++ codes " already there\n"

-- `stemcell OS/VERSION`
abbrev pub stemcell_added : Stemcell → List ℕ
stemcell_added stemcell = codes "stemcell " ++ versioned stemcell.os stemcell.version ++ codes "\n"

-- `stemcell OS/VERSION already there`
abbrev pub stemcell_there : Stemcell → List ℕ
stemcell_there stemcell = codes "stemcell " ++ versioned stemcell.os stemcell.version ++ codes " already there\n"

-- `NAME FINGERPRINT`, after `job ` or `package `
abbrev pub mark_line : Mark → List ℕ
mark_line mark = mark.name ++ codes " " ++ encode_lower mark.fingerprint.0 ++ codes "\n"

-- `release NAME/VERSION`, and then its jobs and packages
abbrev pub release_lines : ReleaseLine → List ℕ
release_lines release =
    codes "release " ++ versioned release.name release.version ++ codes "\n"
    ++ flat_map (λ mark. codes "job " ++ mark_line mark) release.jobs
    ++ flat_map (λ mark. codes "package " ++ mark_line mark) release.packages

-- `NAME FINGERPRINT OS/VERSION DIGEST`
abbrev pub compiled_line : BuiltKey → List ℕ
compiled_line built =
    built.name ++ codes " " ++ encode_lower built.key.fingerprint.0 ++ codes " "
    ++ versioned built.key.os built.key.version ++ codes " " ++ encode_lower built.digest.0 ++ codes "\n"
