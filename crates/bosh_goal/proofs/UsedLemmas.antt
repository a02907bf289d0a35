-- The groups that are used are those of the manifest, and so have a zone each.
use Rattle.std.proofs.Common.{◌≡◌, ◌∙◌, ℕ, ◌<◌, ◌≤◌, All, Bool, true, false, true≢false, List, [], ◌∷◌, Result, Ok, Err, length, map, ap, refl, subst, sym}
use Rattle.std.proofs.Math.ListN.{get_or-map}
use Rattle.std.proofs.lemmas.List.{length-map}
use Rattle.bosh_base.specs.declared.addr.Addr.{Addr}
use Rattle.bosh_base.specs.declared.release.Release.{Release}
use Rattle.bosh_base.specs.declared.stemcell.Stemcell.{Stemcell}
use Rattle.bosh_cloudcfg.specs.declared.config.Config.{Config}
use Rattle.bosh_manifest.specs.Sound.{IsSoundGroup}
use Rattle.bosh_manifest.specs.declared.group.Group.{Group}
use Rattle.bosh_manifest.specs.declared.manifest.Contents.{Contents}
use Rattle.bosh_offers.specs.Sited.{after_group, sites}
use Rattle.bosh_manifest_names.specs.Answer.{◌>>=◌, each}
use Rattle.bosh_manifest_names.specs.Used.{UsedGroup}
use Rattle.bosh_manifest_names.specs.Uses.{all_known, net_name, or_unknown, sources, stemcell_of_alias, used_disk, used_group, used_job, used_machine, uses}
use Rattle.bosh_manifest_names.specs.declared.fault.GoalFault.{GoalFault}
use Rattle.bosh_manifest_names.specs.declared.fault.Kind.TheVariants as kinds

abbrev answers : {A : Type 0} → Result A GoalFault → Bool
answers (Ok a) = true
answers (Err fault) = false

err-ok : {A : Type 0} (fault : GoalFault) (a : A) → ◌≡◌ {A = Result A GoalFault} (Err fault) (Ok a) → ⊥
err-ok {A = A} fault a e = true≢false (sym (ap (answers {A = A}) e))

abbrev group_in : Group → Result UsedGroup GoalFault → Group
group_in group (Ok it) = it.group
group_in group (Err fault) = group

keeps-group :
    {A : Type 0} (group : Group) (step : Result A GoalFault) (next : A → Result UsedGroup GoalFault) (it : UsedGroup)
    → (step >>= next) ≡ Ok it → ((a : A) (used : UsedGroup) → next a ≡ Ok used → used.group ≡ group) → it.group ≡ group
keeps-group group (Ok a) next it e h = h a it e
keeps-group group (Err fault) next it e h = absurd (err-ok fault it e)

group-kept :
    (config : Config) (releases : List Release) (stemcells : List (List ℕ × Stemcell)) (group : Group) (it : UsedGroup)
    → used_group config releases stemcells group ≡ Ok it → it.group ≡ group
group-kept config releases stemcells group it e =
    keeps-group group (all_known kinds.Az config.azs group.azs) _ it e
    (λ zones it1 e1. keeps-group group (used_machine config group.vm_type) _ it1 e1
    (λ machine it2 e2. keeps-group group (or_unknown kinds.Stemcell group.stemcell (stemcell_of_alias stemcells group.stemcell)) _ it2 e2
    (λ stemcell it3 e3. keeps-group group (all_known kinds.Network config.networks (map net_name group.networks)) _ it3 e3
    (λ networks it4 e4. keeps-group group (used_disk config group.disk) _ it4 e4
    (λ disk it5 e5. keeps-group group (each (used_job releases) group.jobs) _ it5 e5
    (λ jobs used told. sym (ap (group_in group) told)))))))

abbrev list_in : {A : Type 0} → List A → Result (List A) GoalFault → List A
list_in none (Ok all) = all
list_in none (Err fault) = none

each-group :
    (step : Group → Result UsedGroup GoalFault) → ((group : Group) (it : UsedGroup) → step group ≡ Ok it → it.group ≡ group)
    → (group : Group) (groups : List Group) (used : List UsedGroup) (first : Result UsedGroup GoalFault) (others : Result (List UsedGroup) GoalFault)
    → ((more : List UsedGroup) → others ≡ Ok more → map (λ it. it.group) more ≡ groups)
    → step group ≡ first → (first >>= λ a. others >>= λ more. Ok (a ∷ more)) ≡ Ok used → map (λ it. it.group) used ≡ group ∷ groups
each-group step kept group groups used (Ok a) (Ok more) rest f h =
    ap (λ (answer : Result (List UsedGroup) GoalFault). map (λ it. it.group) (list_in [] answer)) (sym h)
    ∙ (λ i. kept group a f i ∷ rest more refl i)
each-group step kept group groups used (Ok a) (Err fault) rest f h = absurd (err-ok fault used h)
each-group step kept group groups used (Err fault) others rest f h = absurd (err-ok fault used h)

each-groups :
    (step : Group → Result UsedGroup GoalFault) → ((group : Group) (it : UsedGroup) → step group ≡ Ok it → it.group ≡ group)
    → (groups : List Group) (used : List UsedGroup) → each step groups ≡ Ok used → map (λ it. it.group) used ≡ groups
each-groups step kept [] used e = ap (λ (answer : Result (List UsedGroup) GoalFault). map (λ it. it.group) (list_in [] answer)) (sym e)
each-groups step kept (group ∷ groups) used e =
    each-group step kept group groups used (step group) (each step groups) (each-groups step kept groups) refl e

-- the groups that are used are those of the manifest
pub uses-groups :
    (manifest : Contents) (config : Config) (releases : List Release) (stemcells : List Stemcell) (used : List UsedGroup)
    → uses manifest config releases stemcells ≡ Ok used → map (λ it. it.group) used ≡ manifest.groups
uses-groups manifest config releases stemcells used h = go (sources releases stemcells manifest.releases manifest.stemcells) h
  where
    go :
        (both : Result (List Release × List (List ℕ × Stemcell)) GoalFault)
        → (both >>= λ it. each (used_group config it.0 it.1) manifest.groups) ≡ Ok used → map (λ it. it.group) used ≡ manifest.groups
    go (Ok it) e = each-groups (used_group config it.0 it.1) (group-kept config it.0 it.1) manifest.groups used e
    go (Err fault) e = absurd (err-ok fault used e)

abbrev pub HasZone : Group → Type 0
HasZone group = 1 ≤ length group.azs

all-unmapped : {X Y : Type 0} (P : Y → Type 0) (f : X → Y) (xs : List X) → All P (map f xs) → All (λ x. P (f x)) xs
all-unmapped P f xs h = λ k d within.
    subst P (get_or-map f xs k d) (h k (f d) (subst (λ (n : ℕ). k < n) (sym (length-map xs f)) within))

-- what holds of the groups holds of those that are used
pub used-zones : (groups : List Group) (used : List UsedGroup) → map (λ it. it.group) used ≡ groups → All IsSoundGroup groups → All (λ it. HasZone it.group) used
used-zones groups used same sound =
    all-unmapped HasZone (λ it. it.group) used (subst (All HasZone) (sym same) (λ k d within. (sound k d within).some_zone))

sites-used : (used : List UsedGroup) (addrs : List Addr) → map (λ it. it.used) (sites used addrs) ≡ used
sites-used [] addrs = refl
sites-used (it ∷ used) addrs = ap (λ more. it ∷ more) (sites-used used (after_group it addrs))

pub sited-zones :
    (used : List UsedGroup) (addrs : List Addr) → All (λ it. HasZone it.group) used → All (λ it. HasZone it.used.group) (sites used addrs)
sited-zones used addrs zones =
    all-unmapped (λ (it : UsedGroup). HasZone it.group) (λ it. it.used) (sites used addrs)
    (subst (All (λ (it : UsedGroup). HasZone it.group)) (sym (sites-used used addrs)) zones)
