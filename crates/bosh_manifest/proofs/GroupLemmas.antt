-- Groups that were read.
use Rattle.std.proofs.Common.{◌≡◌, ℕ, ℤ, pos, negsuc, ◌≤◌, ◌==◌, ◌&&◌, false, nat_le, List, [], ◌∷◌, Option, Some, None, Result, Ok, Err, All, Bool, zero, suc, ◌||◌, codes, count_by, length, map, refl, sym, ◌∙◌, ap, subst, inl, inr, arith, ne_eqb}
use Rattle.std.proofs.lemmas.Bool.{cases_Bool, eqb-true}
use Rattle.std.proofs.lemmas.Bool.Decides.{nat_tests}
use Rattle.bosh_yaml.specs.Tree.{Tree, Trees}
use Rattle.bosh_fields.specs.Answer.{◌>>=◌, both}
use Rattle.bosh_fields.specs.Distinct.{a_distinct_list, distinct, name_in}
use Rattle.bosh_fields.specs.Field.{optional, optional_value, required, value_at}
use Rattle.bosh_fields.specs.Kind.{a_name, an_integer}
use Rattle.bosh_fields.specs.List.{count, items_up_to, no_limit}
use Rattle.bosh_fields.specs.Number.{a_number, within}
use Rattle.bosh_fields.specs.declared.fault.FieldFault.{FieldFault}
use Rattle.bosh_fields.specs.declared.fault.FieldFault.TheVariants.{Limit, Missing}
use Rattle.bosh_manifest_parts.specs.Disk.{group_disk, one_disk}
use Rattle.bosh_manifest_parts.specs.Job.{a_job, group_jobs, links, properties}
use Rattle.bosh_manifest_parts.specs.Named.{a_named_list, each_named, some_items}
use Rattle.bosh_manifest_parts.specs.Network.{a_network, a_network_list, each_network, fixed_bands, group_networks, has_gateway, is_default_gateway, one_gateway}
use Rattle.bosh_manifest_parts.specs.declared.disk.DiskUse.{DiskUse}
use Rattle.bosh_manifest_parts.specs.declared.disk.DiskUse.TheVariants.{Size}
use Rattle.bosh_manifest_parts.specs.declared.job.JobUse.{JobUse}
use Rattle.bosh_manifest_parts.specs.declared.network.NetUse.{NetUse}
use Rattle.bosh_manifest_update.specs.Update.{group_update}
use Rattle.bosh_manifest_update.specs.declared.update.Update.{Update}
use Rattle.bosh_manifest.specs.Group.{a_group, contents, group_of, offered, place, update_of, zones}
use Rattle.bosh_manifest.specs.Sound.{AreDistinct, IsSoundDisk, IsSoundGroup, IsSoundUpdate, job_name, network_name, group_name}
use Rattle.bosh_manifest.specs.declared.group.Common.{Common}
use Rattle.bosh_manifest.specs.declared.group.Group.{Group}
use Rattle.bosh_manifest.proofs.ReadingLemmas.{Listed, both-parts, listed, ok-parts, required-ok, same-ok, some_items-ok, up_to-ok}
use Rattle.bosh_manifest.proofs.UpdateLemmas.{group_update-ok}

-- numbers within bounds
within-ok : (least most : ℕ) (key : List ℕ) (z : ℤ) (n : ℕ) → within least most key z ≡ Ok n → (least ≤ n) × (n ≤ most)
within-ok least most key (negsuc k) n h = absurd (cc)
within-ok least most key (pos k) n h =
    elim (cases_Bool (nat_le least k && nat_le k most)) [
      | inl met ↦
          let whole : ◌≡◌ {A = Result ℕ FieldFault} (Ok k) (Ok n) = sym (rw met refl) ∙ h in
          let same : k ≡ n = same-ok whole in
          grind (arith, nat_tests)
      | inr unmet ↦ let never : ◌≡◌ {A = Result ℕ FieldFault} (Err (Limit key)) (Ok n) = sym (rw unmet refl) ∙ h in absurd (cc)
    ]

number-ok : (least most : ℕ) (key : List ℕ) (t : Tree) (n : ℕ) → a_number least most key t ≡ Ok n → (least ≤ n) × (n ≤ most)
number-ok least most key t n h = let (z, read, rest) = ok-parts (an_integer key t) (within least most key) n h in within-ok least most key z n rest

-- lists of mappings with distinct names
pub each_named-ok :
    {A : Type 0} (item : List ℕ → Tree → Result A FieldFault) (title : A → List ℕ) (P : A → Type 0)
    → ((name : List ℕ) (t : Tree) (a : A) → item name t ≡ Ok a → (title a ≡ name) × P a)
    → (key : List ℕ) (ts : Trees) (items : List A) → each_named item key ts ≡ Ok items → Listed title P [] ts items
unfolding each_named
each_named-ok item title P sound key ts items h = listed (name_in (codes "name") key) item title P sound [] ts items h

pub record Bounded {A : Type 0} (title : A → List ℕ) (P : A → Type 0) (most : ℕ) (items : List A) : Type 0 where
  pub names : AreDistinct (map title items)
  pub few : length items ≤ most
  pub each : All P items

pub named-ok :
    {A : Type 0} (item : List ℕ → Tree → Result A FieldFault) (title : A → List ℕ) (P : A → Type 0)
    → ((name : List ℕ) (t : Tree) (a : A) → item name t ≡ Ok a → (title a ≡ name) × P a)
    → (most : ℕ) (key : List ℕ) (holder : Tree) (items : List A) → required (a_named_list item most) key holder ≡ Ok items → Bounded title P most items
named-ok item title P sound most key holder items h =
    let (t, read) = required-ok (a_named_list item most) key holder items h in
    let (ts, few, rest) = ok-parts (items_up_to most key t) (each_named item key) items read in
    let all = each_named-ok item title P sound key ts items rest in
    record { names = all.names; few = omega (arith, all.as_many, up_to-ok most key t ts few); each = all.each }

-- lists of any number of items
pub distinct_list-ok :
    {A : Type 0} (naming : List ℕ → Tree → Result (List ℕ) FieldFault) (item : List ℕ → Tree → Result A FieldFault) (title : A → List ℕ) (P : A → Type 0)
    → ((name : List ℕ) (t : Tree) (a : A) → item name t ≡ Ok a → (title a ≡ name) × P a)
    → (most : ℕ) (key : List ℕ) (holder : Tree) (items : List A) → required (a_distinct_list naming item most) key holder ≡ Ok items → AreDistinct (map title items)
distinct_list-ok naming item title P sound most key holder items h =
    let (t, read) = required-ok (a_distinct_list naming item most) key holder items h in
    let (ts, few, rest) = ok-parts (items_up_to most key t) (λ ts. distinct (naming key) item [] ts) items read in
    (listed (naming key) item title P sound [] ts items rest).names

-- names are their own names
same-names : (names : List (List ℕ)) → map (λ name. name) names ≡ names
same-names [] = refl
same-names (name ∷ names) = ap (λ others. name ∷ others) (same-names names)

own-name : (name : List ℕ) (t : Tree) (a : List ℕ) → ◌≡◌ {A = Result (List ℕ) FieldFault} (Ok name) (Ok a) → (a ≡ name) × Unit {0}
own-name name t a h = (sym (same-ok h), tt)

zones-ok : (t : Tree) (azs : List (List ℕ)) → zones t ≡ Ok azs → AreDistinct azs × (1 ≤ length azs)
zones-ok t azs h =
    let key = codes "azs" in
    let (names, read, rest) = ok-parts (required (a_distinct_list a_name (λ name _. Ok name) no_limit) key t) (some_items key) azs h in
    let (same, some) = some_items-ok key names azs rest in
    let apart = distinct_list-ok a_name (λ name _. Ok name) (λ name. name) (λ _. Unit {0}) own-name no_limit key t names read in
    (subst AreDistinct (same-names names ∙ same) apart, some)

-- networks
network-name : (is_only : Bool) (name : List ℕ) (t : Tree) (network : NetUse) → a_network is_only name t ≡ Ok network → (network_name network ≡ name) × Unit {0}
network-name is_only name t network h =
    let (bands, read, rest) = ok-parts (fixed_bands t) (λ bands. is_default_gateway t >>= λ gateway. Ok (record { net = name; fixed = bands; gateway = is_only || gateway })) network h in
    let (gateway, asked, whole) = ok-parts (is_default_gateway t) (λ gateway. Ok (record { net = name; fixed = bands; gateway = is_only || gateway })) network rest in
    (sym (ap network_name (same-ok whole)), tt)

one_gateway-ok : (read networks : List NetUse) → one_gateway read ≡ Ok networks → (read ≡ networks) × (count_by has_gateway networks ≡ 1)
one_gateway-ok read networks h =
    elim (cases_Bool (count_by has_gateway read == 1)) [
      | inl one ↦
          let whole : ◌≡◌ {A = Result (List NetUse) FieldFault} (Ok read) (Ok networks) = sym (rw one refl) ∙ h in
          let same = same-ok whole in
          (same, subst (λ (xs : List NetUse). count_by has_gateway xs ≡ 1) same (eqb-true (count_by has_gateway read) 1 one))
      | inr none ↦ let never : ◌≡◌ {A = Result (List NetUse) FieldFault} (Err (Missing (codes "default"))) (Ok networks) = sym (rw none refl) ∙ h in absurd (cc)
    ]

pub record Networks (networks : List NetUse) : Type 0 where
  pub names : AreDistinct (map network_name networks)
  pub few : length networks ≤ 16
  pub one_gateway : count_by has_gateway networks ≡ 1

networks-ok : (holder : Tree) (networks : List NetUse) → group_networks holder ≡ Ok networks → Networks networks
networks-ok holder networks h =
    let key = codes "networks" in
    let (t, listed) = required-ok a_network_list key holder networks h in
    let (ts, few, each) = ok-parts (items_up_to 16 key t) (each_network key) networks listed in
    let (read, items, rest) = ok-parts (each_named (a_network (count ts == 1)) key ts) (λ read. some_items key read >>= one_gateway) networks each in
    let (some, found, last) = ok-parts (some_items key read) one_gateway networks rest in
    let all = each_named-ok (a_network (count ts == 1)) network_name (λ _. Unit {0}) (network-name (count ts == 1)) key ts read items in
    let (same, one) = one_gateway-ok some networks last in
    let whole : read ≡ networks = (some_items-ok key read some found).0 ∙ same in
    let within : length read ≤ 16 = omega (arith, all.as_many, up_to-ok 16 key t ts few) in
    record {
      names = subst (λ (xs : List NetUse). AreDistinct (map network_name xs)) whole all.names;
      few = subst (λ (xs : List NetUse). length xs ≤ 16) whole within;
      one_gateway = one;
    }

-- jobs
job-name : (own name : List ℕ) (t : Tree) (job : JobUse) → a_job own name t ≡ Ok job → (job_name job ≡ name) × Unit {0}
job-name own name t job h =
    let (given, read, rest) = ok-parts (both (required a_name (codes "release") t) (properties t)) (λ given. links own t >>= λ linked. Ok (record { name = name; release = given.0; properties = given.1; provides = linked.0; consumes = linked.1 })) job h in
    let (linked, ties, whole) = ok-parts (links own t) (λ linked. Ok (record { name = name; release = given.0; properties = given.1; provides = linked.0; consumes = linked.1 })) job rest in
    (sym (ap job_name (same-ok whole)), tt)

-- disks
one_disk-ok : (size : Option ℕ) (kind : Option (List ℕ)) (disk : Option DiskUse) → ((n : ℕ) → size ≡ Some n → n ≤ 16777216) → one_disk size kind ≡ Ok disk → IsSoundDisk disk
one_disk-ok None None disk bound h = subst IsSoundDisk (same-ok h) tt
one_disk-ok None (Some kind) disk bound h = subst IsSoundDisk (same-ok h) tt
one_disk-ok (Some n) (Some kind) disk bound h = absurd (cc)
one_disk-ok (Some zero) None disk bound h = subst IsSoundDisk (same-ok h) tt
one_disk-ok (Some (suc n)) None disk bound h =
    let some : (suc n == 0) ≡ false = ne_eqb (suc n) 0 (λ e. absurd (omega arith)) in
    let whole : ◌≡◌ {A = Result (Option DiskUse) FieldFault} (Ok (Some (Size (suc n)))) (Ok disk) = sym (rw some refl) ∙ h in
    let least : 1 ≤ suc n = omega arith in
    subst IsSoundDisk (same-ok whole) (least, bound (suc n) refl)

size-within : (key : List ℕ) (value : Option Tree) (size : Option ℕ) → optional_value (a_number 0 16777216) key value ≡ Ok size → (n : ℕ) → size ≡ Some n → n ≤ 16777216
size-within key None size h n is = absurd (let none = same-ok h in cc)
size-within key (Some t) size h n is =
    let (read, number, whole) = ok-parts (a_number 0 16777216 key t) (λ read. Ok (Some read)) size h in
    let same : read ≡ n = let some = same-ok whole in cc in
    let bound = (number-ok 0 16777216 key t read number).1 in
    omega (arith, bound, same)

disk-ok : (t : Tree) (disk : Option DiskUse) → group_disk t ≡ Ok disk → IsSoundDisk disk
disk-ok t disk h =
    let sizes = optional (a_number 0 16777216) (codes "persistent_disk") t in
    let kinds = optional a_name (codes "persistent_disk_type") t in
    let (given, read, rest) = ok-parts (both sizes kinds) (λ given. one_disk given.0 given.1) disk h in
    let parts = both-parts sizes kinds given read in
    one_disk-ok given.0 given.1 disk (size-within (codes "persistent_disk") (value_at (codes "persistent_disk") t) given.0 parts.0) rest

update_of-ok : (common : Update) (t : Tree) (update : Update) → IsSoundUpdate common → update_of common t ≡ Ok update → IsSoundUpdate update
update_of-ok common t update sound h =
    let (read, given, rest) = ok-parts (group_update common t) (λ read. offered t >>= λ nothing. Ok read) update h in
    let (nothing, asked, whole) = ok-parts (offered t) (λ nothing. Ok read) update rest in
    subst IsSoundUpdate (same-ok whole) (group_update-ok common t read sound given)

-- a group
pub group-ok : (common : Common) → IsSoundUpdate common.update → (name : List ℕ) (t : Tree) (group : Group) → a_group common name t ≡ Ok group → (group_name group ≡ name) × IsSoundGroup group
group-ok common sound name t group h =
    let counts = required (a_number 0 256) (codes "instances") t in
    let (instances, counted, after_count) = ok-parts counts (λ instances. place t >>= λ placed. contents common t >>= λ held. Ok (group_of name instances placed held)) group h in
    let (placed, places, after_place) = ok-parts (place t) (λ placed. contents common t >>= λ held. Ok (group_of name instances placed held)) group after_count in
    let (held, holds, whole) = ok-parts (contents common t) (λ held. Ok (group_of name instances placed held)) group after_place in
    let zoned = both-parts (zones t) (both (required a_name (codes "vm_type") t) (required a_name (codes "stemcell") t)) placed places in
    let azs = zones-ok t placed.0 zoned.0 in
    let halves = both-parts (both (group_networks t) (group_jobs common.name t)) (both (group_disk t) (update_of common.update t)) held holds in
    let first = both-parts (group_networks t) (group_jobs common.name t) held.0 halves.0 in
    let second = both-parts (group_disk t) (update_of common.update t) held.1 halves.1 in
    let nets = networks-ok t held.0.0 first.0 in
    let jobs = named-ok (a_job common.name) job_name (λ _. Unit {0}) (job-name common.name) 64 (codes "jobs") t held.0.1 first.1 in
    let (u, number) = required-ok (a_number 0 256) (codes "instances") t instances counted in
    let bound = number-ok 0 256 (codes "instances") u instances number in
    let same : group_of name instances placed held ≡ group = same-ok whole in
    let all : IsSoundGroup (group_of name instances placed held) = record {
      instances = bound.1;
      zones = azs.0;
      some_zone = azs.1;
      networks = nets.names;
      few_networks = nets.few;
      one_gateway = nets.one_gateway;
      jobs = jobs.names;
      few_jobs = jobs.few;
      disk = disk-ok t held.1.0 second.0;
      update = update_of-ok common.update t held.1.1 sound second.1;
    } in
    (sym (ap group_name same), subst IsSoundGroup same all)
