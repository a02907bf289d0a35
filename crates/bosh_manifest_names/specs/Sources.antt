-- The releases and stemcells that a manifest lists, as they are found by name.
use Rattle.std.specs.Prelude.{◌≡◌, ℕ, List}
use Rattle.std.specs.BTreeMap.{BTreeMap}
use Rattle.std.specs.Option.{option_copied}
use denote.Ref.{Bor}
use Rattle.bosh_base.specs.declared.release.Release.{Release}
use Rattle.bosh_base.specs.declared.stemcell.Stemcell.{Stemcell}
use Rattle.bosh_lookup.specs.Table.{first_named, found_at}
use Rattle.bosh_manifest_names.specs.Uses.{release_name, stemcell_of_alias}
use Rattle.bosh_manifest_names.specs.declared.sources.Sources.{Sources}

abbrev pub AreReleases : List Release → BTreeMap (Bor (List ℕ)) Release → Type 0
AreReleases releases table = (name : List ℕ) → found_at table name ≡ first_named release_name releases name

abbrev pub AreStemcells : List (List ℕ × Stemcell) → BTreeMap (Bor (List ℕ)) (Bor Stemcell) → Type 0
AreStemcells stemcells table = (alias : List ℕ) → option_copied (found_at table alias) ≡ stemcell_of_alias stemcells alias

abbrev pub AreSources : List Release × List (List ℕ × Stemcell) → Sources → Type 0
AreSources listed sources = AreReleases listed.0 sources.releases × AreStemcells listed.1 sources.stemcells
