-- The releases that are used are among those that are there, and the groups are those of the manifest.
use Rattle.std.proofs.Common.{◌≡◌, All, List, map, subst, sym}
use Rattle.bosh_alike.specs.Alike.{AreAlike}
use Rattle.bosh_keys.specs.Works.{releases_of}
use Rattle.bosh_keys.proofs.UsesLemmas.{used_alike, used_all}
use Rattle.bosh_release.specs.Sound.{IsSound}
use Rattle.bosh_manifest_names.specs.Used.{UsedGroup}
use Rattle.bosh_goal.proofs.UsedLemmas.{uses-groups}
use Rattle.bosh_goal.proofs.whole.configured.Goals as goal

pub keys_of-requires-clause-sound : goal.keys_of-requires-clause-sound
keys_of-requires-clause-sound c =
    subst (λ (used : List UsedGroup). All IsSound (releases_of used)) (sym c.as_slice.ensures)
    (used_all IsSound c.args.manifest.now c.args.setting.config.now c.args.releases.now c.args.stemcells.now c.in_ok-used.used c.in_ok-used.ensures c.requires.sound)

pub keys_of-requires-clause-alike : goal.keys_of-requires-clause-alike
keys_of-requires-clause-alike c =
    subst (λ (used : List UsedGroup). AreAlike (releases_of used)) (sym c.as_slice.ensures)
    (used_alike c.args.manifest.now c.args.setting.config.now c.args.releases.now c.args.stemcells.now c.in_ok-used.used c.in_ok-used.ensures c.requires.alike)

pub of_used-requires : goal.of_used-requires
of_used-requires c =
    subst (λ (used : List UsedGroup). map (λ it. it.group) used ≡ c.args.manifest.now.groups) (sym c.as_slice-2.ensures)
    (uses-groups c.args.manifest.now c.args.setting.config.now c.args.releases.now c.args.stemcells.now c.in_ok-used.used c.in_ok-used.ensures)
