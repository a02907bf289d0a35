-- The rows of a goal are of different instances, each with the plan of its group.
use Rattle.std.proofs.Common.{◌≡◌, ◌∙◌, ℕ, zero, suc, ◌+◌, ◌≤◌, Bool, true, false, true≢false, nat_le, cond, List, [], ◌∷◌, Some, Ok, filter, map, ap, refl, sym, subst, arith}
use Rattle.std.specs.List.{AllByRecursion, AllZip, Contains, flat_map}
use Rattle.std.specs.Str.{bytes_eq}
use Rattle.std.proofs.lemmas.Bool.{le-leb}
use Rattle.std.proofs.lemmas.Slice.Eq.{bytes_eq-Decides}
use Rattle.bosh_base.specs.declared.count.Count.{Count}
use Rattle.bosh_base.specs.declared.count.Count.TheVariants.{Whole, Percent}
use Rattle.bosh_base.specs.declared.goal.Goal.{Goal}
use Rattle.bosh_base.specs.declared.goal.GoalRow.{GoalRow}
use Rattle.bosh_base.specs.declared.goal.GroupPlan.{GroupPlan}
use Rattle.bosh_base.specs.declared.inst.Inst.{Inst}
use Rattle.bosh_base.specs.declared.release.Release.{Release}
use Rattle.bosh_base.specs.declared.spec.Placed.{Placed}
use Rattle.bosh_base.specs.declared.stemcell.Stemcell.{Stemcell}
use Rattle.bosh_base.specs.declared.view.View.{View}
use Rattle.bosh_cloudcfg.specs.declared.config.Config.{Config}
use Rattle.bosh_goal.proofs.InstanceLemmas.{has-instances}
use Rattle.bosh_goal.specs.Goal.{IsGoal, fresh_after, scene_of}
use Rattle.bosh_goal.specs.Instances.{group_instances, instances}
use Rattle.bosh_history.specs.Goals.{inst_of}
use Rattle.bosh_history.specs.Sound.{has_plan}
use Rattle.bosh_rows.specs.SoundSnapshot.{are_distinct}
use Rattle.bosh_instances.specs.Rows.{Scene, goal_row}
use Rattle.bosh_manifest.specs.Sound.{IsSound, group_name}
use Rattle.bosh_manifest.specs.declared.group.Group.{Group}
use Rattle.bosh_manifest.specs.declared.manifest.Contents.{Contents}
use Rattle.bosh_offers.specs.Sited.{Sited, sites}
use Rattle.bosh_wants.specs.Plans.{is_concurrent, plan_of, plans, plans_after, stage_of}
use Rattle.bosh_wants.specs.Wants.{below}
use Rattle.bosh_wants.specs.Zones as zones
use Rattle.bosh_pool.proofs.ListLemmas.{Pairs, contains_here, contains_there}
use Rattle.bosh_roll.specs.Limit.{limit_of}
use Rattle.bosh_rows.specs.Same.{same_inst}
use Rattle.laws_goals.specs.Rows.{HasSoundRows}
use Rattle.laws_goals.proofs.ListLemmas.{all_append, all_at, all_everywhere, all_map, all_mapped, all_pass, all_unmapped, distinct_from}
use Rattle.laws_goals.proofs.PartLemmas.{AreRowsOf, IsMade, IsRowAt, are-rows, is-made}
use Rattle.laws_goals.proofs.SameLemmas.{bytes-same}
use Rattle.laws_goals.proofs.WantLemmas.{Apart, distinct-pairs, instances-differ}

-- ---- plans

bytes-flip : (m n : List ℕ) → bytes_eq m n ≡ false → bytes_eq n m ≡ false
bytes-flip m n h = by (bytes_eq n m) refl
  where
    by : (b : Bool) → bytes_eq n m ≡ b → bytes_eq n m ≡ false
    by true e = absurd (true≢false (sym (bytes-same m n (sym ((bytes_eq-Decides n m).0 e))) ∙ h))
    by false e = e

abbrev is-of : List ℕ → GroupPlan → Bool
is-of name plan = bytes_eq plan.name name

no-plan : (name : List ℕ) (groups : List Group) (count : ℕ) (before : Bool) → AllByRecursion (λ group. Apart name (group_name group)) groups
    → filter (is-of name) (plans_after count before groups) ≡ []
no-plan name [] count before apart = refl
no-plan name (group ∷ groups) count before (here, more) =
    let others : List GroupPlan = plans_after (stage_of count before group + 1) (is_concurrent group) groups in
    ap (λ b. cond b (plan_of (stage_of count before group) group ∷ filter (is-of name) others) (filter (is-of name) others)) (bytes-flip name group.name here)
    ∙ no-plan name groups (stage_of count before group + 1) (is_concurrent group) more

-- a group has one plan
one-plan : (groups : List Group) (it : Group) (count : ℕ) (before : Bool) → Pairs (λ one other. Apart (group_name one) (group_name other)) groups → Contains groups it
    → (stage : ℕ) × (filter (is-of it.name) (plans_after count before groups) ≡ plan_of stage it ∷ [])
one-plan [] it count before pairs (k, within, is) = absurd (omega arith)
one-plan (group ∷ groups) it count before (here, more) (zero, within, is) =
    let stage : ℕ = stage_of count before group in
    let others : List GroupPlan = plans_after (stage + 1) (is_concurrent group) groups in
    let only : filter (is-of group.name) (plan_of stage group ∷ others) ≡ plan_of stage group ∷ [] =
    ap (λ b. cond b (plan_of stage group ∷ filter (is-of group.name) others) (filter (is-of group.name) others)) (bytes-same group.name group.name refl)
    ∙ ap (λ rest. plan_of stage group ∷ rest) (no-plan group.name groups (stage + 1) (is_concurrent group) here) in
    (stage, subst (λ (g : Group). filter (is-of g.name) (plan_of stage group ∷ others) ≡ plan_of stage g ∷ []) is only)
one-plan (group ∷ groups) it count before (here, more) (suc k, within, is) =
    let stage : ℕ = stage_of count before group in
    let others : List GroupPlan = plans_after (stage + 1) (is_concurrent group) groups in
    let there : Contains groups it = (k, omega arith, is) in
    let apart : bytes_eq group.name it.name ≡ false = all_at (λ other. Apart (group_name group) (group_name other)) groups it here there in
    let (own, e) = one-plan groups it (stage + 1) (is_concurrent group) more there in
    (own, ap (λ b. cond b (plan_of stage group ∷ filter (is-of it.name) others) (filter (is-of it.name) others)) apart ∙ e)

limit-some : (count : Count) (size : ℕ) → 1 ≤ limit_of count size 1
limit-some (Whole n) size = omega arith
limit-some (Percent n) size = omega arith

plan-there : (goal : Goal) (want : GoalRow) (plan : GroupPlan) → filter (is-of want.inst.group) goal.groups ≡ plan ∷ [] → 1 ≤ plan.limit → has_plan goal want ≡ true
plan-there goal want plan one room = rw one (le-leb 1 plan.limit room)

-- ---- rows

-- what holds of each row that is made holds of all
each-row : (P : GoalRow → Type 0) (scene : Scene) → ((group : Sited) (index : ℕ) (files : List Placed) → P (goal_row scene group index files))
    → (groups : List Sited) (all : List GoalRow) → AreRowsOf scene groups all → AllByRecursion P all
each-row P scene each [] all none = subst (AllByRecursion P) (sym none) tt
each-row P scene each (group ∷ groups) all (some, more, zip, others, whole) =
    subst (AllByRecursion P) whole (all_append P some more (of-group (below group.used.group.instances) some zip) (each-row P scene each groups more others))
  where
    of-group : (numbers : List ℕ) (some : List GoalRow) → AllZip (IsRowAt scene group) numbers some → AllByRecursion P some
    of-group [] [] zip = tt
    of-group [] (row ∷ some) zip = absurd zip
    of-group (index ∷ numbers) [] zip = absurd zip
    of-group (index ∷ numbers) (row ∷ some) (at, zip) = (subst P (sym at.is) (each group index at.files), of-group numbers some zip)

fresh-enough : (recreate : Bool) (view : View) → fresh_after recreate view ≤ view.last_call
fresh-enough true view = omega arith
fresh-enough false view = omega arith

-- an instance of a group
record IsInst (dep : List ℕ) (groups : List Group) (inst : Inst) : Type 0 where
  group : Group
  there : Contains groups group
  dep_is : inst.dep ≡ dep
  name : inst.group ≡ group.name

insts-of : (dep : List ℕ) (groups : List Group) → AllByRecursion (IsInst dep groups) (flat_map (group_instances dep) groups)
insts-of dep [] = tt
insts-of dep (group ∷ groups) =
    all_append (IsInst dep (group ∷ groups)) (group_instances dep group) (flat_map (group_instances dep) groups)
    (all_mapped (IsInst dep (group ∷ groups)) (zones.inst_of dep group) (below group.instances)
    (all_everywhere (λ i. IsInst dep (group ∷ groups) (zones.inst_of dep group i)) (below group.instances)
    (λ i. record { group = group; there = contains_here group groups; dep_is = refl; name = refl })))
    (all_map (IsInst dep groups) (IsInst dep (group ∷ groups)) (flat_map (group_instances dep) groups)
    (λ inst it. record { group = it.group; there = contains_there group groups it.group it.there; dep_is = it.dep_is; name = it.name }) (insts-of dep groups))

pub has-sound-rows :
    (manifest : Contents) (config : Config) (releases : List Release) (stemcells : List Stemcell) (view : View) (recreate : Bool) (it : Goal)
    → IsSound manifest → IsGoal manifest (Some config) releases stemcells view recreate (Ok it) → HasSoundRows view.last_call it
has-sound-rows manifest config releases stemcells view recreate it sound told =
    let made : IsMade manifest config releases stemcells view recreate it = is-made manifest config releases stemcells view recreate it told in
    let insts : map inst_of it.rows ≡ instances manifest = has-instances manifest (Some config) releases stemcells view recreate it told in
    let scene : Scene = scene_of manifest.name (sites made.used made.addrs) it.ties recreate view in
    let rows = are-rows scene (sites made.used made.addrs) it.rows made.rows_are in
    let own : AllByRecursion (λ want. IsInst manifest.name manifest.groups (inst_of want)) it.rows =
    all_unmapped (IsInst manifest.name manifest.groups) inst_of it.rows (subst (AllByRecursion (IsInst manifest.name manifest.groups)) (sym insts) (insts-of manifest.name manifest.groups)) in
    let pairs = distinct-pairs group_name manifest.groups sound.groups in
    record {
      distinct = ap (are_distinct same_inst) insts ∙ distinct_from same_inst (instances manifest) (instances-differ manifest.name manifest.groups sound.groups);
      of_the_deployment =
          all_pass (λ want. bytes_eq want.inst.dep it.dep) it.rows
          (all_map (λ want. IsInst manifest.name manifest.groups (inst_of want)) (λ want. bytes_eq want.inst.dep it.dep ≡ true) it.rows (λ want i. bytes-same want.inst.dep it.dep (i.dep_is ∙ sym made.dep_is)) own);
      planned =
          all_pass (has_plan it) it.rows
          (all_map (λ want. IsInst manifest.name manifest.groups (inst_of want)) (λ want. has_plan it want ≡ true) it.rows
          (λ want i.
          let (stage, one) = one-plan manifest.groups i.group 0 false pairs i.there in
          plan-there it want (plan_of stage i.group) (ap (filter (is-of want.inst.group)) made.plans_are ∙ (ap (λ name. filter (is-of name) (plans manifest.groups)) i.name ∙ one))
          (limit-some i.group.update.limit i.group.instances)) own);
      fresh =
          all_pass (λ want. nat_le want.fresh_after view.last_call) it.rows
          (each-row (λ want. nat_le want.fresh_after view.last_call ≡ true) scene (λ group index files. le-leb (fresh_after recreate view) view.last_call (fresh-enough recreate view)) (sites made.used made.addrs) it.rows rows);
    }
