-- The rows of a goal are those of the instances of the manifest.
use Rattle.std.proofs.Common.{◌≡◌, ◌∙◌, ℕ, Bool, true, false, true≢false, List, [], ◌∷◌, ◌++◌, Option, Result, Ok, Err, inl, inr, length, map, nat_le, sum_by, ap, refl, sym}
use Rattle.std.specs.List.{flat_map}
use Rattle.std.proofs.lemmas.Bool.{cases_Bool}
use Rattle.std.proofs.lemmas.List.{map-append}
use Rattle.bosh_base.specs.declared.addr.Addr.{Addr}
use Rattle.bosh_base.specs.declared.goal.Goal.{Goal}
use Rattle.bosh_base.specs.declared.goal.GoalRow.{GoalRow}
use Rattle.bosh_base.specs.declared.inst.Inst.{Inst}
use Rattle.bosh_base.specs.declared.release.Release.{Release}
use Rattle.bosh_base.specs.declared.spec.Placed.{Placed}
use Rattle.bosh_base.specs.declared.stemcell.Stemcell.{Stemcell}
use Rattle.bosh_base.specs.declared.view.View.{View}
use Rattle.bosh_cloudcfg.specs.declared.config.Config.{Config}
use Rattle.bosh_files.specs.Gathered.{gather, joined_lists}
use Rattle.bosh_instances.specs.Rows.{Scene, bounded_rows, filed_jobs, group_rows, instance_row, placed, row_bytes, row_with, rows}
use Rattle.bosh_manifest.specs.declared.group.Group.{Group}
use Rattle.bosh_manifest.specs.declared.manifest.Contents.{Contents}
use Rattle.bosh_offers.specs.Sited.{Sited, after_group, sites}
use Rattle.bosh_wants.specs.Wants.{below}
use Rattle.bosh_wants.specs.Zones.{inst_of}
use Rattle.bosh_manifest_names.specs.Answer.{◌>>=◌, or_fault}
use Rattle.bosh_manifest_names.specs.Used.{UsedGroup}
use Rattle.bosh_manifest_names.specs.Uses.{uses}
use Rattle.bosh_slots.specs.Slots.{slots}
use Rattle.bosh_ties.specs.Links.{ties}
use Rattle.bosh_instances.specs.Moving.{disks_stay}
use Rattle.bosh_base.specs.declared.make.Make.{Make}
use Rattle.bosh_manifest_names.specs.declared.fault.GoalFault.{GoalFault}
use Rattle.bosh_manifest_names.specs.declared.fault.GoalFault.TheVariants.{Limit, NoConfig}
use Rattle.bosh_goal.specs.Goal.{IsGoal, addresses, scene_of, slots_and_rows, stay_and_rows}
use Rattle.bosh_goal.specs.Instances.{HasInstances, group_instances, row_inst}
use Rattle.bosh_goal.proofs.UsedLemmas.{uses-groups}

abbrev given : {A : Type 0} → Result A GoalFault → Bool
given (Ok a) = true
given (Err fault) = false

pub never : {A : Type 0} (P : Type 0) (fault : GoalFault) (a : A) → ◌≡◌ {A = Result A GoalFault} (Err fault) (Ok a) → P
never {A = A} P fault a e = absurd (true≢false (sym (ap (given {A = A}) e)))

abbrev value_or : {A : Type 0} → A → Result A GoalFault → A
value_or none (Ok a) = a
value_or none (Err fault) = none

pub same-value : {A : Type 0} (a b : A) → ◌≡◌ {A = Result A GoalFault} (Ok a) (Ok b) → a ≡ b
same-value {A = A} a b e = ap (value_or {A = A} a) e

-- what two steps come to comes of what each does
pub both-steps :
    {A B : Type 0} (P : Type 0) (step : Result A GoalFault) (next : A → Result B GoalFault) (b : B)
    → (step >>= next) ≡ Ok b → ((a : A) → step ≡ Ok a → next a ≡ Ok b → P) → P
both-steps P (Ok a) next b e h = h a refl e
both-steps P (Err fault) next b e h = never P fault b e

-- what is gathered has the instances of its parts
pub gathered-joined :
    (first others : Result (List GoalRow) GoalFault) (all : List GoalRow) (P : Type 0) → joined_lists first others ≡ Ok all
    → ((front more : List GoalRow) → first ≡ Ok front → others ≡ Ok more → front ++ more ≡ all → P) → P
gathered-joined (Ok front) (Ok more) all P e h = h front more refl refl (same-value (front ++ more) all e)
gathered-joined (Ok front) (Err fault) all P e h = never P fault all e
gathered-joined (Err fault) others all P e h = never P fault all e

gathered-insts :
    {A : Type 0} (of : A → Result (List GoalRow) GoalFault) (insts : A → List Inst)
    → ((a : A) (some : List GoalRow) → of a ≡ Ok some → map row_inst some ≡ insts a)
    → (xs : List A) (all : List GoalRow) → gather of xs ≡ Ok all → map row_inst all ≡ flat_map insts xs
gathered-insts of insts each [] all e = ap (map row_inst) (sym (same-value [] all e))
gathered-insts of insts each (x ∷ xs) all e =
    gathered-joined (of x) (gather of xs) all (map row_inst all ≡ flat_map insts (x ∷ xs)) e
    (λ front more f m whole. ap (map row_inst) (sym whole) ∙ (map-append row_inst front more
    ∙ (λ i. each x front f i ++ gathered-insts of insts each xs more m i)))

row-insts :
    (scene : Scene) (group : Sited) (index : ℕ) (files : Result (List Placed) GoalFault) (some : List GoalRow)
    → row_with scene group index files ≡ Ok some → map row_inst some ≡ inst_of scene.dep group.used.group index ∷ []
row-insts scene group index (Ok files) some e = ap (map row_inst) (sym (same-value _ some e))
row-insts scene group index (Err fault) some e = never (map row_inst some ≡ inst_of scene.dep group.used.group index ∷ []) fault some e

flat-one : (dep : List ℕ) (group : Group) (numbers : List ℕ) → flat_map (λ index. inst_of dep group index ∷ []) numbers ≡ map (inst_of dep group) numbers
flat-one dep group [] = refl
flat-one dep group (n ∷ numbers) = ap (λ more. inst_of dep group n ∷ more) (flat-one dep group numbers)

group-insts : (scene : Scene) (group : Sited) (some : List GoalRow) → group_rows scene group ≡ Ok some → map row_inst some ≡ group_instances scene.dep group.used.group
group-insts scene group some e =
    gathered-insts (instance_row scene group (filed_jobs scene group.used)) (λ index. inst_of scene.dep group.used.group index ∷ [])
    (λ index one told. row-insts scene group index (placed scene group (filed_jobs scene group.used) index) one told)
    (below group.used.group.instances) some e
    ∙ flat-one scene.dep group.used.group (below group.used.group.instances)

pub limited-same : (some all : List GoalRow) → bounded_rows some ≡ Ok all → some ≡ all
limited-same some all e = elim (cases_Bool (nat_le (sum_by row_bytes some) 1048576)) [
  | inl within ↦ same-value some all (sym (rw within refl) ∙ e)
  | inr past ↦ never (some ≡ all) Limit all (sym (rw past refl) ∙ e)
]

of-sites : (dep : List ℕ) (used : List UsedGroup) (addrs : List Addr)
    → flat_map (λ group. group_instances dep group.used.group) (sites used addrs) ≡ flat_map (group_instances dep) (map (λ it. it.group) used)
of-sites dep [] addrs = refl
of-sites dep (it ∷ used) addrs = ap (λ more. group_instances dep it.group ++ more) (of-sites dep used (after_group it addrs))

rows-insts : (scene : Scene) (used : List UsedGroup) (addrs : List Addr) (all : List GoalRow) → rows scene (sites used addrs) ≡ Ok all
    → map row_inst all ≡ flat_map (group_instances scene.dep) (map (λ it. it.group) used)
rows-insts scene used addrs all e =
    both-steps (map row_inst all ≡ flat_map (group_instances scene.dep) (map (λ it. it.group) used)) (gather (group_rows scene) (sites used addrs)) bounded_rows all e
    (λ some g l. ap (map row_inst) (sym (limited-same some all l))
    ∙ (gathered-insts (group_rows scene) (λ group. group_instances scene.dep group.used.group) (group-insts scene) (sites used addrs) some g
    ∙ of-sites scene.dep used addrs))

pub has-instances :
    (manifest : Contents) (config : Option Config) (releases : List Release) (stemcells : List Stemcell) (view : View) (recreate : Bool) (it : Goal)
    → IsGoal manifest config releases stemcells view recreate (Ok it) → HasInstances manifest it
has-instances manifest config releases stemcells view recreate it (works, needed, told) =
    let P : Type 0 = HasInstances manifest it in
    both-steps P (or_fault NoConfig config) _ it told
    (λ cloud there e1. both-steps P (uses manifest cloud releases stemcells) _ it e1
    (λ used known e2. both-steps P (ties manifest.name used view.known) _ it e2
    (λ tied t e3. both-steps P (addresses manifest cloud view) _ it e3
    (λ addrs a e4.
    let groups = sites used addrs in
    both-steps P (slots_and_rows manifest cloud groups tied addrs (length works) recreate view) _ it e4
    (λ both b e5. both-steps P (slots cloud (length works) addrs view) _ both b
    (λ makes m f1. both-steps P (stay_and_rows manifest groups tied recreate view) _ both f1
    (λ all r f2. both-steps P (disks_stay manifest.name view.rows manifest.groups) _ all r
    (λ stay d f3.
    ap (λ (goal : Goal). map row_inst goal.rows) (sym (same-value _ it e5))
    ∙ (ap (λ (pair : List Make × List GoalRow). map row_inst pair.1) (sym (same-value _ both f2))
    ∙ (rows-insts (scene_of manifest.name groups tied recreate view) used addrs all f3
    ∙ ap (flat_map (group_instances manifest.name)) (uses-groups manifest cloud releases stemcells used known)))))))))))
