-- Manifests that were read are sound.
use Rattle.std.proofs.Common.{◌≡◌, ℕ, ◌≤◌, nat_le, List, [], Result, Ok, Err, codes, refl, sym, ◌∙◌, ap, subst, inl, inr, sum_by}
use Rattle.std.specs.Prelude.{if◌then◌else◌}
use Rattle.std.proofs.lemmas.Bool.{cases_Bool, false≢true, leb-true}
use Rattle.bosh_base.specs.Name.{IsName, is_name}
use Rattle.bosh_yaml.specs.Tree.{Tree}
use Rattle.bosh_fields.specs.Answer.{◌>>=◌, both}
use Rattle.bosh_fields.specs.Distinct.{name_in}
use Rattle.bosh_fields.specs.Field.{required}
use Rattle.bosh_fields.specs.Kind.{a_name, a_text}
use Rattle.bosh_fields.specs.List.{no_limit}
use Rattle.bosh_fields.specs.declared.fault.FieldFault.{FieldFault}
use Rattle.bosh_fields.specs.declared.fault.FieldFault.TheVariants.{Limit, WrongKind}
use Rattle.bosh_manifest_parts.specs.Source.{a_release, a_source_list, a_stemcell, a_version, sources}
use Rattle.bosh_manifest_parts.specs.Unoffered.{absent}
use Rattle.bosh_manifest_parts.specs.declared.source.ReleaseUse.{ReleaseUse}
use Rattle.bosh_manifest_parts.specs.declared.source.StemcellUse.{StemcellUse}
use Rattle.bosh_manifest_update.specs.Update.{an_update}
use Rattle.bosh_manifest.specs.Group.{a_group}
use Rattle.bosh_manifest.specs.Manifest.{a_manifest, all_groups, few_instances, groups, instances_of, offered, offered_groups}
use Rattle.bosh_manifest.specs.Sound.{IsSound, IsSoundGroup, IsSoundUpdate, alias_of, group_name, release_name}
use Rattle.bosh_manifest.specs.declared.group.Common.{Common}
use Rattle.bosh_manifest.specs.declared.group.Group.{Group}
use Rattle.bosh_manifest.specs.declared.manifest.Contents.{Contents}
use Rattle.bosh_manifest.proofs.GroupLemmas.{Bounded, distinct_list-ok, group-ok, named-ok}
use Rattle.bosh_manifest.proofs.ReadingLemmas.{both-parts, ok-parts, required-ok, same-ok}
use Rattle.bosh_manifest.proofs.UpdateLemmas.{update-ok}

release-name : (name : List ℕ) (t : Tree) (release : ReleaseUse) → a_release name t ≡ Ok release → (release_name release ≡ name) × Unit {0}
release-name name t release h =
    let (version, read, whole) = ok-parts (required a_version (codes "version") t) (λ version. Ok (record { name = name; version = version })) release h in
    (sym (ap release_name (same-ok whole)), tt)

stemcell-alias : (alias : List ℕ) (t : Tree) (stemcell : StemcellUse) → a_stemcell alias t ≡ Ok stemcell → (alias_of stemcell ≡ alias) × Unit {0}
stemcell-alias alias t stemcell h =
    let (given, read, rest) = ok-parts (both (required a_name (codes "os") t) (required a_version (codes "version") t)) (λ given. absent (codes "name") t >>= λ unnamed. Ok (record { alias = alias; os = given.0; version = given.1 })) stemcell h in
    let (unnamed, asked, whole) = ok-parts (absent (codes "name") t) (λ unnamed. Ok (record { alias = alias; os = given.0; version = given.1 })) stemcell rest in
    (sym (ap alias_of (same-ok whole)), tt)

few_instances-ok : (read groups : List Group) → few_instances read ≡ Ok groups → (read ≡ groups) × (sum_by instances_of groups ≤ 512)
few_instances-ok read groups h =
    elim (cases_Bool (nat_le (sum_by instances_of read) 512)) [
      | inl few ↦
          let whole : ◌≡◌ {A = Result (List Group) FieldFault} (Ok read) (Ok groups) = sym (rw few refl) ∙ h in
          let same = same-ok whole in
          (same, subst (λ (gs : List Group). sum_by instances_of gs ≤ 512) same (leb-true (sum_by instances_of read) 512 few))
      | inr many ↦ let never : ◌≡◌ {A = Result (List Group) FieldFault} (Err (Limit (codes "instances"))) (Ok groups) = sym (rw many refl) ∙ h in absurd (cc)
    ]

all_groups-ok : (common : Common) (t : Tree) (groups : List Group) → IsSoundUpdate common.update → all_groups common t ≡ Ok groups → Bounded group_name IsSoundGroup 64 groups
unfolding all_groups
all_groups-ok common t groups sound h = named-ok (a_group common) group_name IsSoundGroup (group-ok common sound) 64 (codes "instance_groups") t groups h

offered_groups-ok : (common : Common) (t : Tree) (groups : List Group) → IsSoundUpdate common.update → offered_groups common t ≡ Ok groups → Bounded group_name IsSoundGroup 64 groups × (sum_by instances_of groups ≤ 512)
offered_groups-ok common t groups sound h =
    let (read, all, rest) = ok-parts (all_groups common t) (λ read. offered t >>= λ nothing. few_instances read) groups h in
    let (nothing, asked, last) = ok-parts (offered t) (λ nothing. few_instances read) groups rest in
    let (same, few) = few_instances-ok read groups last in
    (subst (λ (gs : List Group). Bounded group_name IsSoundGroup 64 gs) same (all_groups-ok common t read sound all), few)

groups-ok : (name : List ℕ) (t : Tree) (read : List Group) → groups name t ≡ Ok read → Bounded group_name IsSoundGroup 64 read × (sum_by instances_of read ≤ 512)
groups-ok name t read h =
    let (update, rules, rest) = ok-parts (required an_update (codes "update") t) (λ update. offered_groups (record { name = name; update = update }) t) read h in
    let (u, of_tree) = required-ok an_update (codes "update") t update rules in
    offered_groups-ok (record { name = name; update = update }) t read (update-ok (codes "update") u update of_tree) rest

-- a name that was read is one
pub name-ok : (t : Tree) (name : List ℕ) → required a_name (codes "name") t ≡ Ok name → IsName name
name-ok t name h =
    let (u, read) = required-ok a_name (codes "name") t name h in
    let (s, text, rest) = ok-parts (a_text (codes "name") u) (λ s. if is_name s then Ok s else Err (WrongKind (codes "name"))) name read in
    elim (cases_Bool (is_name s)) [
      | inl sure ↦
          let whole : ◌≡◌ {A = Result (List ℕ) FieldFault} (Ok s) (Ok name) = sym (rw sure refl) ∙ rest in
          subst IsName (same-ok whole) sure
      | inr none ↦ let never : ◌≡◌ {A = Result (List ℕ) FieldFault} (Err (WrongKind (codes "name"))) (Ok name) = sym (rw none refl) ∙ rest in absurd (cc)
    ]

-- no name is empty
empty-unnamed : IsName [] → ⊥
empty-unnamed it = absurd (false≢true it)

pub manifest-ok : (name : List ℕ) (t : Tree) (contents : Contents) → IsName name → a_manifest name t ≡ Ok contents
    → IsSound contents
manifest-ok name t contents is_one h =
    let (used, found, rest) = ok-parts (sources t) (λ used. groups name t >>= λ read. Ok (record { name = name; releases = used.0; stemcells = used.1; groups = read })) contents h in
    let (read, all, whole) = ok-parts (groups name t) (λ read. Ok (record { name = name; releases = used.0; stemcells = used.1; groups = read })) contents rest in
    let parts = both-parts (required (a_source_list (codes "name") a_release) (codes "releases") t) (required (a_source_list (codes "alias") a_stemcell) (codes "stemcells") t) used found in
    let (bounded, few) = groups-ok name t read all in
    subst IsSound (same-ok whole) (record {
      named = λ none. empty-unnamed (subst IsName none is_one);
      releases = distinct_list-ok (name_in (codes "name")) a_release release_name (λ _. Unit {0}) release-name no_limit (codes "releases") t used.0 parts.0;
      stemcells = distinct_list-ok (name_in (codes "alias")) a_stemcell alias_of (λ _. Unit {0}) stemcell-alias no_limit (codes "stemcells") t used.1 parts.1;
      groups = bounded.names;
      few_groups = bounded.few;
      each_group = bounded.each;
      few_instances = few;
    })
