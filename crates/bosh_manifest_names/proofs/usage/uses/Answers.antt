use Rattle.std.proofs.Common.{List, ℕ, subst}
use Rattle.bosh_base.specs.declared.release.Release.{Release}
use Rattle.bosh_base.specs.declared.stemcell.Stemcell.{Stemcell}
use Rattle.bosh_manifest.specs.declared.group.Group.{Group}
use Rattle.bosh_manifest.specs.declared.manifest.Contents.{Contents}
use Rattle.bosh_manifest_parts.specs.declared.source.ReleaseUse.{ReleaseUse}
use Rattle.bosh_manifest_parts.specs.declared.source.StemcellUse.{StemcellUse}
use Rattle.bosh_manifest_names.specs.Answer.{IsAnswer, Stands, each}
use Rattle.bosh_manifest_names.specs.Sources.{AreSources}
use Rattle.bosh_manifest_names.specs.Uses.{sources, used_group, uses}
use Rattle.bosh_manifest_names.proofs.EachLemmas.{answers-after}
use Rattle.bosh_manifest_names.proofs.usage.uses.Goals as goal

pub returns : goal.returns
returns c =
    let contents = c.contents-contents.result.now in
    let config = c.args.config.now in
    let releases = c.args.releases.now in
    let stemcells = c.args.stemcells.now in
    let listed = c.in_ok-sources.sources in
    let stand : Stands AreSources (sources releases stemcells contents.releases contents.stemcells) listed =
    subst (λ (asked : List StemcellUse). Stands AreSources (sources releases stemcells contents.releases asked) listed) c.as_slice-2.ensures
    (subst (λ (asked : List ReleaseUse). Stands AreSources (sources releases stemcells asked c.as_slice-2.result.now) listed) c.as_slice.ensures c.in_ok-sources.ensures) in
    subst (λ (m : Contents). IsAnswer c.used_groups.result (uses m config releases stemcells)) c.contents-contents.ensures.contents
    (answers-after AreSources (sources releases stemcells contents.releases contents.stemcells) listed
    (λ (used : List Release × List (List ℕ × Stemcell)). each (used_group config used.0 used.1) contents.groups)
    c.used_groups.result stand
    (λ used h. subst (λ (groups : List Group). IsAnswer c.used_groups.result (each (used_group config used.0 used.1) groups)) c.as_slice-3.ensures (c.used_groups.ensures used h)))
