use Rattle.std.proofs.Common.{ℕ, List, take}
use Rattle.bosh_base.specs.declared.release.Release.{Release}
use Rattle.bosh_base.specs.declared.stemcell.Stemcell.{Stemcell}
use Rattle.bosh_manifest_names.specs.Answer.{Stands, each}
use Rattle.bosh_manifest_names.specs.Sources.{AreSources}
use Rattle.bosh_manifest_names.specs.Uses.{used_group}
use Rattle.bosh_manifest_names.proofs.EachLemmas.{Are}
use Rattle.bosh_manifest_names.proofs.usage.used_groups.Given as goal

abbrev pub invariant-loop-group : goal.invariant-loop-group
invariant-loop-group l =
    (listed : List Release × List (List ℕ × Stemcell)) → AreSources listed l.sources
    → Stands Are (each (used_group l.config listed.0 listed.1) (take l.group-index l.groups)) l.used.items
