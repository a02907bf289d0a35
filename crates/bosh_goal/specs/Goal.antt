-- The goal of a manifest (bosh.io, "Deployment manifest"; "Cloud config"): how each instance of a deployment is to stand,
-- and what is to be compiled for it.
use Rattle.std.specs.Prelude.{◌≡◌, ◌⊎◌, ℕ, Bool, true, List, Option, Some, None, Result, Ok, Err, cond, length}
use Rattle.bosh_base.specs.declared.addr.Addr.{Addr}
use Rattle.bosh_base.specs.declared.goal.Goal.{Goal}
use Rattle.bosh_base.specs.declared.goal.GoalRow.{GoalRow}
use Rattle.bosh_base.specs.declared.key.KeyWork.{KeyWork}
use Rattle.bosh_base.specs.declared.link.Tie.{Tie}
use Rattle.bosh_base.specs.declared.make.Make.{Make}
use Rattle.bosh_base.specs.declared.release.Release.{Release}
use Rattle.bosh_base.specs.declared.stemcell.Stemcell.{Stemcell}
use Rattle.bosh_base.specs.declared.view.View.{View}
use Rattle.bosh_cloudcfg.specs.declared.config.Config.{Config}
use Rattle.bosh_instances.specs.Moving.{disks_stay}
use Rattle.bosh_instances.specs.Rows.{Scene, rows}
use Rattle.bosh_manifest.specs.declared.manifest.Contents.{Contents}
use Rattle.bosh_offers.specs.Offers.{offers}
use Rattle.bosh_offers.specs.Sited.{Sited, sites}
use Rattle.bosh_offers.specs.declared.offering.Choice.TheVariants.{All, Shared}
use Rattle.bosh_wants.specs.Plans.{plans}
use Rattle.bosh_wants.specs.Statics.{static_fault}
use Rattle.bosh_wants.specs.Wants.{kept, wants}
use Rattle.bosh_pool.specs.Assignment.{assignment}
use Rattle.bosh_pool.specs.declared.fault.PoolFault.{PoolFault}
use Rattle.bosh_slots.specs.Slots.{slots}
use Rattle.bosh_ties.specs.Links.{ties}
use Rattle.bosh_manifest_names.specs.Answer.{◌>>=◌, or_fault, with_fault}
use Rattle.bosh_manifest_names.specs.Used.{UsedGroup}
use Rattle.bosh_manifest_names.specs.Uses.{uses}
use Rattle.bosh_manifest_names.specs.declared.fault.GoalFault.{GoalFault}
use Rattle.bosh_manifest_names.specs.declared.fault.GoalFault.TheVariants.{Memory, NoConfig, Pool}
use Rattle.bosh_keys.specs.Works.{AreKeys}

-- ---- addresses

abbrev pub none_wrong : Option PoolFault → Result Bool GoalFault
none_wrong None = Ok true
none_wrong (Some fault) = Err (Pool fault)

-- for each instance an address a network; what the deployment's own instances hold that stay, these may keep
abbrev pub assigned : Contents → Config → View → Result (List Addr) GoalFault
assigned manifest config view = with_fault Pool
    (assignment (wants manifest.name view.rows manifest.groups) config.plan view.taken
    (kept manifest.name manifest.groups view.rows))

abbrev pub addresses : Contents → Config → View → Result (List Addr) GoalFault
addresses manifest config view = do
  counted ← none_wrong (static_fault manifest.groups)
  assigned manifest config view

-- ---- the whole

-- whether all machines are made anew
abbrev pub fresh_after : Bool → View → ℕ
fresh_after recreate view = cond recreate view.last_call 0

-- what is known once its groups stand with their addresses
abbrev pub scene_of : List ℕ → List Sited → List Tie → Bool → View → Scene
scene_of dep groups tied recreate view = record {
  dep = dep;
  offered = record { ties = tied; own = offers All dep groups; known = view.known };
  view = view;
  fresh_after = fresh_after recreate view;
}

abbrev pub rows_of : List ℕ → List Sited → List Tie → Bool → View → Result (List GoalRow) GoalFault
rows_of dep groups tied recreate view = rows (scene_of dep groups tied recreate view) groups

-- where no disk would leave its zone
abbrev pub stay_and_rows : Contents → List Sited → List Tie → Bool → View → Result (List GoalRow) GoalFault
stay_and_rows manifest groups tied recreate view = do
  stay ← disks_stay manifest.name view.rows manifest.groups
  rows_of manifest.name groups tied recreate view

-- the slots come first, as the pools do before the disks and the templates
abbrev pub slots_and_rows :
    Contents → Config → List Sited → List Tie → List Addr → ℕ → Bool → View → Result (List Make × List GoalRow) GoalFault
slots_and_rows manifest config groups tied addrs works recreate view = do
  makes ← slots config works addrs view
  all ← stay_and_rows manifest groups tied recreate view
  Ok (makes, all)

-- .. and once it is known what is to be compiled
abbrev pub with_keys :
    Contents → Config → View → Bool → List Sited → List Tie → List Addr → List KeyWork → Result Goal GoalFault
with_keys manifest config view recreate groups tied addrs works = do
  both ← slots_and_rows manifest config groups tied addrs (length works) recreate view
  Ok (record {
    dep = manifest.name;
    rows = both.1;
    groups = plans manifest.groups;
    ties = tied;
    keys = works;
    slots = both.0;
    offers = offers Shared manifest.name groups;
  })

abbrev pub with_addrs :
    List KeyWork → Contents → Config → View → Bool → List UsedGroup → List Tie → List Addr → Result Goal GoalFault
with_addrs works manifest config view recreate used tied addrs =
    with_keys manifest config view recreate (sites used addrs) tied addrs works

abbrev pub of_used : List KeyWork → Contents → Config → View → Bool → List UsedGroup → Result Goal GoalFault
of_used works manifest config view recreate used = do
  tied ← ties manifest.name used view.known
  addrs ← addresses manifest config view
  with_addrs works manifest config view recreate used tied addrs

abbrev pub configured :
    List KeyWork → Contents → Config → List Release → List Stemcell → View → Bool → Result Goal GoalFault
configured works manifest config releases stemcells view recreate = do
  used ← uses manifest config releases stemcells
  of_used works manifest config view recreate used

-- the goal, where those works are what is to be compiled
abbrev pub goal_with :
    List KeyWork → Contents → Option Config → List Release → List Stemcell → View → Bool → Result Goal GoalFault
goal_with works manifest config releases stemcells view recreate = do
  cloud ← or_fault NoConfig config
  configured works manifest cloud releases stemcells view recreate

-- what the jobs need and what is not compiled, where the manifest uses nothing that is not known
abbrev pub AreNeeded : Contents → Option Config → List Release → List Stemcell → View → List KeyWork → Type 0
AreNeeded manifest config releases stemcells view works =
    (cloud : Config) (used : List UsedGroup)
    → config ≡ Some cloud → uses manifest cloud releases stemcells ≡ Ok used → AreKeys used view.compiled works

-- an answer is the goal or the first refusal, with what is to be compiled, or want of memory
abbrev pub IsGoal :
    Contents → Option Config → List Release → List Stemcell → View → Bool → Result Goal GoalFault → Type 0
IsGoal manifest config releases stemcells view recreate (Ok it) =
    (works : List KeyWork) × AreNeeded manifest config releases stemcells view works
    × (goal_with works manifest config releases stemcells view recreate ≡ Ok it)
IsGoal manifest config releases stemcells view recreate (Err fault) =
    (fault ≡ Memory)
    ⊎ ((works : List KeyWork) × AreNeeded manifest config releases stemcells view works
    × (goal_with works manifest config releases stemcells view recreate ≡ Err fault))
