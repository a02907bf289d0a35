-- The releases of what a manifest uses are among those that are there.
use Rattle.std.proofs.Common.{◌≡◌, ◌⊎◌, ◌∙◌, ℕ, Bool, true, false, ◌&&◌, List, [], ◌∷◌, Option, Some, None, Result, Ok, Err, cond, filter, fold, map, refl, sym, subst, ap, inl, inr}
use Rattle.std.specs.Prelude.{All, Contains}
use Rattle.std.specs.Str.{bytes_eq}
use Rattle.std.proofs.lemmas.List.Elements.{All-contains}
use Rattle.bosh_alike.specs.Alike.{AreAlike}
use Rattle.bosh_alike.proofs.ElementLemmas.{find_at, first_or_other, here, none_in, there}
use Rattle.bosh_base.specs.Version.{version_order}
use Rattle.bosh_base.specs.declared.disk_want.DiskWant.{DiskWant}
use Rattle.bosh_base.specs.declared.release.Release.{Release}
use Rattle.bosh_base.specs.declared.stemcell.Stemcell.{Stemcell}
use Rattle.bosh_cloudcfg.specs.declared.config.Config.{Config}
use Rattle.bosh_compile.proofs.GreatestLemmas.{All-from_Contains}
use Rattle.bosh_lookup.specs.Table.{first_named}
use Rattle.bosh_manifest.specs.declared.group.Group.{Group}
use Rattle.bosh_manifest.specs.declared.manifest.Contents.{Contents}
use Rattle.bosh_manifest_parts.specs.declared.job.JobUse.{JobUse}
use Rattle.bosh_manifest_names.specs.Answer.{◌>>=◌, each}
use Rattle.bosh_manifest_names.specs.Edition.{edition, greater, is_equal, is_less}
use Rattle.bosh_manifest_names.specs.Used.{UsedGroup, UsedJob}
use Rattle.bosh_manifest_names.specs.Uses.{all_known, job_name, net_name, or_unknown, release_name, release_version, sources, stemcell_of_alias, used_disk, used_group, used_job, used_machine, used_release, used_stemcell, uses}
use Rattle.bosh_manifest_names.specs.declared.fault.GoalFault.{GoalFault}
use Rattle.bosh_manifest_names.specs.declared.fault.Kind.{Kind}
use Rattle.bosh_manifest_names.specs.declared.fault.Kind.TheVariants as kinds
use Rattle.bosh_keys.specs.Works.{group_releases, releases_of}
use Rattle.bosh_keys.proofs.ListLemmas.{flat_from, is_first, mapped_from}

-- ---- steps

after_ok :
    {A B : Type 0} (answer : Result A GoalFault) (next : A → Result B GoalFault) (b : B) → (answer >>= next) ≡ Ok b
    → (a : A) × (answer ≡ Ok a) × (next a ≡ Ok b)
after_ok (Ok a) next b h = (a, refl, h)
after_ok (Err fault) next b h = cc

known_ok : {A : Type 0} (kind : Kind) (name : List ℕ) (found : Option A) (a : A) → or_unknown kind name found ≡ Ok a → found ≡ Some a
known_ok kind name (Some found) a h = let same : found ≡ a = cc in ap Some same
known_ok kind name None a h = cc

the_list : {A : Type 0} → Result (List A) GoalFault → List A
the_list (Ok items) = items
the_list (Err fault) = []

-- what several steps answer, one of them does
each_from :
    {A B : Type 0} (step : A → Result B GoalFault) (xs : List A) (ys : List B) → each step xs ≡ Ok ys
    → (y : B) → Contains ys y → (x : A) × Contains xs x × (step x ≡ Ok y)
unfolding the_list
each_from {B = B} step [] ys h y c =
    let none : [] ≡ ys = ap the_list h in
    absurd (none_in y (subst (λ (items : List B). Contains items y) (sym none) c))
each_from {A = A} {B = B} step (x ∷ xs) ys h y c =
    let (first, is, more) = after_ok (step x) (λ first. each step xs >>= λ others. Ok (first ∷ others)) ys h in
    let (others, are, last) = after_ok (each step xs) (λ others. Ok (first ∷ others)) ys more in
    let all : first ∷ others ≡ ys = ap the_list last in
    at first others is (each_from step xs others are y) (first_or_other first y others (subst (λ (items : List B). Contains items y) (sym all) c))
  where
    at :
        (first : B) (others : List B) → step x ≡ Ok first → (Contains others y → (z : A) × Contains xs z × (step z ≡ Ok y)) → (first ≡ y) ⊎ Contains others y
        → (z : A) × Contains (x ∷ xs) z × (step z ≡ Ok y)
    at first others is later (inl same) = (x, here x xs, is ∙ ap Ok same)
    at first others is later (inr d) = let found = later d in (found.0, there x found.0 xs found.1, found.2)

-- ---- editions

kept_first :
    {A : Type 0} (test : A → Bool) (x y : A) (xs : List A) → (Contains (filter test xs) y → Contains xs y)
    → (b : Bool) → Contains (cond b (x ∷ filter test xs) (filter test xs)) y → Contains (x ∷ xs) y
kept_first test x y xs more false c = there x y xs (more c)
kept_first test x y xs more true c = at (first_or_other x y (filter test xs) c)
  where
    at : (x ≡ y) ⊎ Contains (filter test xs) y → Contains (x ∷ xs) y
    at (inl same) = is_first x y xs same
    at (inr d) = there x y xs (more d)

kept_from : {A : Type 0} (test : A → Bool) (xs : List A) (y : A) → Contains (filter test xs) y → Contains xs y
kept_from test [] y c = c
kept_from test (x ∷ xs) y c = kept_first test x y xs (kept_from test xs y) (test x) c

greater_is :
    {A : Type 0} (version_of : A → List ℕ) (best : Option A) (x y : A) → greater version_of best x ≡ y → (best ≡ Some y) ⊎ (x ≡ y)
greater_is version_of None x y h = inr h
greater_is {A = A} version_of (Some best) x y h = at (is_less (version_order (version_of best) (version_of x))) h
  where
    at : (b : Bool) → cond b x best ≡ y → (◌≡◌ {A = Option A} (Some best) (Some y)) ⊎ (x ≡ y)
    at true h = inr h
    at false h = inl (ap Some h)

some_is : {A : Type 0} (a b : A) → ◌≡◌ {A = Option A} (Some a) (Some b) → a ≡ b
some_is a b h = cc

latest_from :
    {A : Type 0} (version_of : A → List ℕ) (best : Option A) (xs : List A) (y : A)
    → fold (λ best a. Some (greater version_of best a)) best xs ≡ Some y → (best ≡ Some y) ⊎ Contains xs y
latest_from version_of best [] y h = inl h
latest_from {A = A} version_of best (x ∷ xs) y h = at (latest_from version_of (Some (greater version_of best x)) xs y h)
  where
    first : (best ≡ Some y) ⊎ (x ≡ y) → (best ≡ Some y) ⊎ Contains (x ∷ xs) y
    first (inl is) = inl is
    first (inr same) = inr (is_first x y xs same)

    at : (◌≡◌ {A = Option A} (Some (greater version_of best x)) (Some y)) ⊎ Contains xs y → (best ≡ Some y) ⊎ Contains (x ∷ xs) y
    at (inl is) = first (greater_is version_of best x y (some_is (greater version_of best x) y is))
    at (inr c) = inr (there x y xs c)

edition_from :
    {A : Type 0} (name_of version_of : A → List ℕ) (all : List A) (name : List ℕ) (version : Option (List ℕ)) (a : A)
    → edition name_of version_of all name version ≡ Some a → Contains all a
edition_from name_of version_of all name (Some version) a h =
    (find_at (λ a. bytes_eq (name_of a) name && is_equal (version_order (version_of a) version)) all a h).0
edition_from {A = A} name_of version_of all name None a h =
    at (latest_from version_of None (filter (λ a. bytes_eq (name_of a) name) all) a h)
  where
    at : (◌≡◌ {A = Option A} None (Some a)) ⊎ Contains (filter (λ a. bytes_eq (name_of a) name) all) a → Contains all a
    at (inl never) = cc
    at (inr c) = kept_from (λ a. bytes_eq (name_of a) name) all a c

-- ---- groups

job_from : (releases : List Release) (asked : JobUse) (used : UsedJob) → used_job releases asked ≡ Ok used → Contains releases used.release
job_from releases asked used h =
    let (release, found, more) = after_ok (or_unknown kinds.Release asked.release (first_named release_name releases asked.release))
    (λ release. or_unknown kinds.Job asked.name (first_named job_name release.jobs asked.name) >>= λ spec. Ok (record { job = asked; release = release; spec = spec })) used h in
    let (spec, given, last) = after_ok (or_unknown kinds.Job asked.name (first_named job_name release.jobs asked.name))
    (λ spec. Ok (record { job = asked; release = release; spec = spec })) used more in
    let is : release ≡ used.release = ap (the_release release) last in
    subst (Contains releases) is
    (find_at (λ (r : Release). bytes_eq (release_name r) asked.release) releases release
    (known_ok kinds.Release asked.release (first_named release_name releases asked.release) release found)).0
  where
    the_release : Release → Result UsedJob GoalFault → Release
    the_release other (Ok used) = used.release
    the_release other (Err fault) = other

abbrev used_by : Group → List ℕ → Stemcell → Option DiskWant → List UsedJob → UsedGroup
used_by group machine stemcell disk jobs = record { group = group; stemcell = stemcell; machine = machine; disk = disk; jobs = jobs }

abbrev made : Group → List ℕ → Stemcell → Option DiskWant → List UsedJob → Result UsedGroup GoalFault
made group machine stemcell disk jobs = Ok (used_by group machine stemcell disk jobs)

same_jobs : (one other : UsedGroup) → ◌≡◌ {A = Result UsedGroup GoalFault} (Ok one) (Ok other) → one.jobs ≡ other.jobs
same_jobs one other h = let same : one ≡ other = cc in ap (λ (group : UsedGroup). group.jobs) same

group_from :
    (config : Config) (releases : List Release) (stemcells : List (List ℕ × Stemcell)) (group : Group) (used : UsedGroup)
    → used_group config releases stemcells group ≡ Ok used → each (used_job releases) group.jobs ≡ Ok used.jobs
group_from config releases stemcells group used h =
    let (zones, a, h1) = after_ok (all_known kinds.Az config.azs group.azs)
    (λ zones. used_machine config group.vm_type >>= λ machine. or_unknown kinds.Stemcell group.stemcell (stemcell_of_alias stemcells group.stemcell) >>= λ stemcell.
    all_known kinds.Network config.networks (map net_name group.networks) >>= λ networks. used_disk config group.disk >>= λ disk.
    each (used_job releases) group.jobs >>= λ jobs. made group machine stemcell disk jobs) used h in
    let (machine, b, h2) = after_ok (used_machine config group.vm_type)
    (λ machine. or_unknown kinds.Stemcell group.stemcell (stemcell_of_alias stemcells group.stemcell) >>= λ stemcell.
    all_known kinds.Network config.networks (map net_name group.networks) >>= λ networks. used_disk config group.disk >>= λ disk.
    each (used_job releases) group.jobs >>= λ jobs. made group machine stemcell disk jobs) used h1 in
    let (stemcell, c, h3) = after_ok (or_unknown kinds.Stemcell group.stemcell (stemcell_of_alias stemcells group.stemcell))
    (λ stemcell. all_known kinds.Network config.networks (map net_name group.networks) >>= λ networks. used_disk config group.disk >>= λ disk.
    each (used_job releases) group.jobs >>= λ jobs. made group machine stemcell disk jobs) used h2 in
    let (networks, d, h4) = after_ok (all_known kinds.Network config.networks (map net_name group.networks))
    (λ networks. used_disk config group.disk >>= λ disk. each (used_job releases) group.jobs >>= λ jobs. made group machine stemcell disk jobs) used h3 in
    let (disk, e, h5) = after_ok (used_disk config group.disk)
    (λ disk. each (used_job releases) group.jobs >>= λ jobs. made group machine stemcell disk jobs) used h4 in
    let (jobs, are, last) = after_ok (each (used_job releases) group.jobs) (λ jobs. made group machine stemcell disk jobs) used h5 in
    are ∙ ap Ok (same_jobs (used_by group machine stemcell disk jobs) used last)

-- ---- all

the_sources : List Release × List (List ℕ × Stemcell) → Result (List Release × List (List ℕ × Stemcell)) GoalFault → List Release
the_sources other (Ok both) = both.0
the_sources other (Err fault) = other.0

source_from :
    (releases : List Release) (stemcells : List Stemcell) (manifest : Contents) (both : List Release × List (List ℕ × Stemcell))
    → sources releases stemcells manifest.releases manifest.stemcells ≡ Ok both → (release : Release) → Contains both.0 release → Contains releases release
unfolding the_sources
source_from releases stemcells manifest both h release c =
    let (used, are, more) = after_ok (each (used_release releases) manifest.releases)
    (λ used. each (used_stemcell stemcells) manifest.stemcells >>= λ others. Ok (used, others)) both h in
    let (others, stand, last) = after_ok (each (used_stemcell stemcells) manifest.stemcells) (λ others. Ok (used, others)) both more in
    let same : used ≡ both.0 = ap (the_sources (used, others)) last in
    let (asked, listed, found) = each_from (used_release releases) manifest.releases used are release (subst (λ (rs : List Release). Contains rs release) (sym same) c) in
    edition_from release_name release_version releases asked.name asked.version release
    (known_ok kinds.Release asked.name (edition release_name release_version releases asked.name asked.version) release found)

pub used_release_from :
    (manifest : Contents) (config : Config) (releases : List Release) (stemcells : List Stemcell) (groups : List UsedGroup)
    → uses manifest config releases stemcells ≡ Ok groups → (release : Release) → Contains (releases_of groups) release → Contains releases release
used_release_from manifest config releases stemcells groups h release c =
    let (both, are, more) = after_ok (sources releases stemcells manifest.releases manifest.stemcells)
    (λ both. each (used_group config both.0 both.1) manifest.groups) groups h in
    let (used, there, in_group) = flat_from group_releases groups release c in
    let (job, listed, is) = mapped_from (λ (job : UsedJob). job.release) used.jobs release in_group in
    let (group, stands, made) = each_from (used_group config both.0 both.1) manifest.groups groups more used there in
    let (asked, within, told) = each_from (used_job both.0) group.jobs used.jobs (group_from config both.0 both.1 group used made) job listed in
    source_from releases stemcells manifest both are release (subst (Contains both.0) is (job_from both.0 asked job told))

-- what holds of each release that is there, holds of each that is used
pub used_all :
    (P : Release → Type 0) (manifest : Contents) (config : Config) (releases : List Release) (stemcells : List Stemcell) (groups : List UsedGroup)
    → uses manifest config releases stemcells ≡ Ok groups → All P releases → All P (releases_of groups)
used_all P manifest config releases stemcells groups h all =
    All-from_Contains P (releases_of groups) (λ release c. All-contains P releases release all (used_release_from manifest config releases stemcells groups h release c))

-- releases of several that are alike are so
pub used_alike :
    (manifest : Contents) (config : Config) (releases : List Release) (stemcells : List Stemcell) (groups : List UsedGroup)
    → uses manifest config releases stemcells ≡ Ok groups → AreAlike releases → AreAlike (releases_of groups)
used_alike manifest config releases stemcells groups h alike = λ release other_release pack other p q.
    alike release other_release pack other
    (record { release_there = used_release_from manifest config releases stemcells groups h release p.release_there; package_there = p.package_there })
    (record { release_there = used_release_from manifest config releases stemcells groups h other_release q.release_there; package_there = q.package_there })
