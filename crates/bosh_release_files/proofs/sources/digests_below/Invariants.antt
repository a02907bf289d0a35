use Rattle.std.proofs.Common.{◌≡◌, map, take}
use Rattle.bosh_release_files.specs.Files.{digests_below}
use Rattle.bosh_release_files.specs.Sources.{digest_seen}
use Rattle.bosh_release_files.proofs.sources.digests_below.Given as goal

abbrev pub invariant-loop-file : goal.invariant-loop-file
invariant-loop-file l = map digest_seen l.table.entries ≡ digests_below l.front (take l.file-index l.files)
