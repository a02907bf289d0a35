-- What a goal that is given was made of.
use Rattle.std.proofs.Common.{◌≡◌, ◌∙◌, ℕ, Bool, List, [], ◌∷◌, ◌++◌, Some, Result, Ok, Err, length, ap, refl, sym, subst}
use Rattle.std.specs.List.{AllZip}
use Rattle.bosh_base.specs.declared.addr.Addr.{Addr}
use Rattle.bosh_base.specs.declared.goal.Goal.{Goal}
use Rattle.bosh_base.specs.declared.goal.GoalRow.{GoalRow}
use Rattle.bosh_base.specs.declared.make.Make.{Make}
use Rattle.bosh_base.specs.declared.release.Release.{Release}
use Rattle.bosh_base.specs.declared.spec.Placed.{Placed}
use Rattle.bosh_base.specs.declared.stemcell.Stemcell.{Stemcell}
use Rattle.bosh_base.specs.declared.view.View.{View}
use Rattle.bosh_cloudcfg.specs.declared.config.Config.{Config}
use Rattle.bosh_files.specs.Gathered.{gather}
use Rattle.bosh_goal.specs.Goal.{IsGoal, addresses, none_wrong, scene_of, slots_and_rows, stay_and_rows}
use Rattle.bosh_goal.proofs.InstanceLemmas.{both-steps, gathered-joined, limited-same, never, same-value}
use Rattle.bosh_instances.specs.Moving.{disks_stay}
use Rattle.bosh_instances.specs.Rows.{Scene, bounded_rows, filed_jobs, goal_row, group_rows, instance_row, placed, row_with, rows}
use Rattle.bosh_keys.specs.Works.{AreKeys}
use Rattle.bosh_files.specs.Files.{FiledJob}
use Rattle.bosh_manifest.specs.declared.manifest.Contents.{Contents}
use Rattle.bosh_offers.specs.Offers.{offers}
use Rattle.bosh_offers.specs.declared.offering.Choice.TheVariants.{Shared}
use Rattle.bosh_offers.specs.Sited.{Sited, sites}
use Rattle.bosh_wants.specs.Plans.{plans}
use Rattle.bosh_wants.specs.Statics.{static_fault}
use Rattle.bosh_wants.specs.Wants.{below, kept, wants}
use Rattle.bosh_pool.specs.Assignment.{assignment}
use Rattle.bosh_pool.specs.declared.fault.PoolFault.{PoolFault}
use Rattle.bosh_slots.specs.Slots.{slots}
use Rattle.bosh_ties.specs.Links.{ties}
use Rattle.bosh_manifest_names.specs.Answer.{with_fault}
use Rattle.bosh_manifest_names.specs.Used.{UsedGroup}
use Rattle.bosh_manifest_names.specs.Uses.{uses}
use Rattle.bosh_manifest_names.specs.declared.fault.GoalFault.{GoalFault}
use Rattle.bosh_manifest_names.specs.declared.fault.GoalFault.TheVariants.{Pool}

-- ---- the parts of a goal

pub record IsMade (manifest : Contents) (config : Config) (releases : List Release) (stemcells : List Stemcell) (view : View) (recreate : Bool) (it : Goal) : Type 0 where
  pub used : List UsedGroup
  pub addrs : List Addr
  pub uses_are : uses manifest config releases stemcells ≡ Ok used
  pub keys_are : AreKeys used view.compiled it.keys
  pub ties_are : ties manifest.name used view.known ≡ Ok it.ties
  pub addrs_are : assignment (wants manifest.name view.rows manifest.groups) config.plan view.taken (kept manifest.name manifest.groups view.rows) ≡ Ok addrs
  pub slots_are : slots config (length it.keys) addrs view ≡ Ok it.slots
  pub rows_are : rows (scene_of manifest.name (sites used addrs) it.ties recreate view) (sites used addrs) ≡ Ok it.rows
  pub dep_is : it.dep ≡ manifest.name
  pub plans_are : it.groups ≡ plans manifest.groups
  pub offers_are : it.offers ≡ offers Shared manifest.name (sites used addrs)

pooled : {A : Type 0} (answer : Result A PoolFault) (a : A) → with_fault Pool answer ≡ Ok a → answer ≡ Ok a
pooled (Ok b) a h = ap Ok (same-value b a h)
pooled {A} (Err fault) a h = never (◌≡◌ {A = Result A PoolFault} (Err fault) (Ok a)) (Pool fault) a h

pub is-made :
    (manifest : Contents) (config : Config) (releases : List Release) (stemcells : List Stemcell) (view : View) (recreate : Bool) (it : Goal)
    → IsGoal manifest (Some config) releases stemcells view recreate (Ok it) → IsMade manifest config releases stemcells view recreate it
is-made manifest config releases stemcells view recreate it (works, needed, told) =
    let P : Type 0 = IsMade manifest config releases stemcells view recreate it in
    both-steps P (uses manifest config releases stemcells) _ it told
    (λ used known e2. both-steps P (ties manifest.name used view.known) _ it e2
    (λ tied t e3. both-steps P (addresses manifest config view) _ it e3
    (λ addrs a e4. both-steps P (none_wrong (static_fault manifest.groups)) _ addrs a
    (λ counted c e5.
    let groups = sites used addrs in
    both-steps P (slots_and_rows manifest config groups tied addrs (length works) recreate view) _ it e4
    (λ both b e6. both-steps P (slots config (length works) addrs view) _ both b
    (λ makes m f1. both-steps P (stay_and_rows manifest groups tied recreate view) _ both f1
    (λ all r f2. both-steps P (disks_stay manifest.name view.rows manifest.groups) _ all r
    (λ stay d f3.
    let two : (makes, all) ≡ both = same-value (makes, all) both f2 in
    let whole : record { dep = manifest.name; rows = both.1; groups = plans manifest.groups; ties = tied; keys = works; slots = both.0; offers = _ } ≡ it = same-value _ it e6 in
    subst (IsMade manifest config releases stemcells view recreate) whole (record {
      used = used;
      addrs = addrs;
      uses_are = known;
      keys_are = needed config used refl known;
      ties_are = t;
      addrs_are = pooled (assignment (wants manifest.name view.rows manifest.groups) config.plan view.taken (kept manifest.name manifest.groups view.rows)) addrs e5;
      slots_are = m ∙ ap (λ (pair : List Make × List GoalRow). Ok pair.0) two;
      rows_are = f3 ∙ ap (λ (pair : List Make × List GoalRow). Ok pair.1) two;
      dep_is = refl;
      plans_are = refl;
      offers_are = refl;
    })))))))))

-- ---- the rows of a goal

-- the row of an instance, with its files
pub record IsRowAt (scene : Scene) (group : Sited) (index : ℕ) (row : GoalRow) : Type 0 where
  pub files : List Placed
  pub is : row ≡ goal_row scene group index files

-- a row for each instance of each group
abbrev pub AreRowsOf : Scene → List Sited → List GoalRow → Type 0
AreRowsOf scene [] all = all ≡ []
AreRowsOf scene (group ∷ groups) all =
    (some more : List GoalRow) × AllZip (IsRowAt scene group) (below group.used.group.instances) some × AreRowsOf scene groups more × (some ++ more ≡ all)

one-row :
    (scene : Scene) (group : Sited) (index : ℕ) (files : Result (List Placed) GoalFault) (front more : List GoalRow) (numbers : List ℕ)
    → row_with scene group index files ≡ Ok front → AllZip (IsRowAt scene group) numbers more → AllZip (IsRowAt scene group) (index ∷ numbers) (front ++ more)
one-row scene group index (Ok files) front more numbers e others =
    subst (λ (some : List GoalRow). AllZip (IsRowAt scene group) (index ∷ numbers) (some ++ more)) (same-value _ front e) (record { files = files; is = refl }, others)
one-row scene group index (Err fault) front more numbers e others = never (AllZip (IsRowAt scene group) (index ∷ numbers) (front ++ more)) fault front e

group-rows :
    (scene : Scene) (group : Sited) (jobs : List FiledJob) (numbers : List ℕ) (some : List GoalRow)
    → gather (instance_row scene group jobs) numbers ≡ Ok some → AllZip (IsRowAt scene group) numbers some
group-rows scene group jobs [] some e = subst (AllZip (IsRowAt scene group) []) (same-value [] some e) tt
group-rows scene group jobs (index ∷ numbers) some e =
    gathered-joined (instance_row scene group jobs index) (gather (instance_row scene group jobs) numbers) some (AllZip (IsRowAt scene group) (index ∷ numbers) some) e
    (λ front more f m whole. subst (AllZip (IsRowAt scene group) (index ∷ numbers)) whole
    (one-row scene group index (placed scene group jobs index) front more numbers f (group-rows scene group jobs numbers more m)))

all-rows : (scene : Scene) (groups : List Sited) (all : List GoalRow) → gather (group_rows scene) groups ≡ Ok all → AreRowsOf scene groups all
all-rows scene [] all e = sym (same-value [] all e)
all-rows scene (group ∷ groups) all e =
    gathered-joined (group_rows scene group) (gather (group_rows scene) groups) all (AreRowsOf scene (group ∷ groups) all) e
    (λ front more f m whole. (front, more, group-rows scene group (filed_jobs scene group.used) (below group.used.group.instances) front f, all-rows scene groups more m, whole))

pub are-rows : (scene : Scene) (groups : List Sited) (all : List GoalRow) → rows scene groups ≡ Ok all → AreRowsOf scene groups all
are-rows scene groups all e =
    both-steps (AreRowsOf scene groups all) (gather (group_rows scene) groups) bounded_rows all e
    (λ some g l. all-rows scene groups all (g ∙ ap Ok (limited-same some all l)))
