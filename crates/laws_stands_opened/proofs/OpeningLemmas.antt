-- What is recorded once a task opens, and what is read of instances then.
use Rattle.std.proofs.Common.{◌≡◌, ◌∙◌, ℕ, Bool, true, false, List, filter, Option, Some, None, ap, refl}
use Rattle.std.proofs.Common.{subst, sym}
use Rattle.std.specs.Prelude.{eqb, is_some, if◌then◌else◌}
use Rattle.std.specs.Option.{option_and_then, option_map_or}
use Rattle.std.specs.Ordering.{nat_cmp}
use Rattle.std.specs.Str.{bytes_eq}
use Rattle.std.proofs.lemmas.Bool.{eq-eqb, false≢true}
use Rattle.bosh_base.specs.Inst.{inst_cmp}
use Rattle.bosh_base.specs.declared.entry.Entry.TheVariants as entries
use Rattle.bosh_base.specs.declared.entry.TaskOpen.{TaskOpen}
use Rattle.bosh_base.specs.declared.goal.Goal.{Goal}
use Rattle.bosh_base.specs.declared.inst.Inst.{Inst}
use Rattle.bosh_fold.specs.Tasks.{changes_set, leavings_set, parts_set, pings_set, task_noted}
use Rattle.bosh_history.specs.Goals.{instances_of}
use Rattle.bosh_history.specs.Known.{Known, Task}
use Rattle.bosh_history.specs.Tasks.{task_opened, to_ping}
use Rattle.bosh_history.specs.Words.{is_among}
use Rattle.bosh_plan.specs.Opened.{task_row_of}
use Rattle.bosh_plan.specs.WorkBy.{swept_in}
use Rattle.bosh_records.specs.Instances.{with_change, with_leaving, with_ping}
use Rattle.bosh_records.specs.Places.{part_of}
use Rattle.bosh_records.specs.Recorded.{Recorded}
use Rattle.bosh_records.specs.Table.{found}
use Rattle.bosh_records.specs.declared.instances.Instance.{Instance}
use Rattle.bosh_rows.specs.Same.{same_inst}
use Rattle.bosh_work.specs.Part.{no_part}
use Rattle.bosh_work.specs.declared.part.GroupPlace.{GroupPlace}
use Rattle.bosh_work.specs.declared.part.MachineName.{MachineName}
use Rattle.bosh_work.specs.declared.part.Part.{Part}
use Rattle.bosh_work.specs.declared.work.Work.{Work}
use Rattle.laws_stands.proofs.MemberLemmas.{none_filtered}
use Rattle.laws_stands.specs.GroupsStand.{both_places, change_place, names_of}
use Rattle.laws_stands.specs.LineStands.{place_of}
use Rattle.laws_stands.specs.Reading.{work_of}
use Rattle.laws_stands.specs.Stands.{IsWork, StandsIn}
use Rattle.laws_stands.specs.Told.{Told, idle_in, is_going, telling}
use Rattle.laws_stands.specs.WorkStands.{StandsFor}
use Rattle.laws_stands_fits.specs.Fits.{Fits, HasNoWork}
use Rattle.laws_stands_on.proofs.KeyLemmas.{inst_keys}
use Rattle.laws_stands_on.proofs.TaskLemmas.{dep_recorded}
use Rattle.laws_stands_opened.proofs.AllowsLemmas.{AllowsOpen}
use Rattle.laws_stands_opened.proofs.ChangeLemmas.{changed_at, changed_kept, changes_found}
use Rattle.laws_stands_opened.proofs.GoalLemmas.{GoalSet}
use Rattle.laws_stands_opened.proofs.InstLemmas.{inst_as}
use Rattle.laws_stands_opened.proofs.SetLemmas.{found_placed, no_place, place_among, placed, placed_kept}
use Rattle.laws_stands_opened.proofs.WantLemmas.{insts}

-- a task opens: there is room for what it brings, its goal is set, and its work stands for what it is to do
pub record Opens (told : Told) (it : Recorded) (o : TaskOpen) (work : Work) : Type 0 where
  -- what was recorded stands for what was told
  pub stands : StandsIn told it
  -- .. and fits
  pub fits : Fits told it
  -- the task may open
  pub allows : AllowsOpen told o
  -- its goal is set
  pub set : GoalSet told.known o it
  -- there is room for its row
  pub tasks_room : is_some (found nat_cmp it.tasks o.task) ≡ true
  -- .. for its work
  pub works_room : is_some (found nat_cmp it.works o.task) ≡ true
  -- .. and for each instance that its goal wants
  pub wants_room : (goal : Goal) → o.goal ≡ Some goal → (i : Inst) → is_among same_inst i (insts goal.rows) ≡ true →
      is_some (found inst_cmp it.instances i) ≡ true
  -- it sweeps the compile machines of its deployment that are recorded
  pub swept_are : work.sweep.items ≡ swept_in o.dep it.machines
  -- its work stands for what it is to do
  pub is_work : IsWork (telling told (entries.TaskOpen o)) o.task (Some work)

-- an instance is told its place among those that are asked
abbrev pub pinged_at : Option ℕ → Option Instance → Option Instance
pinged_at place o = placed inst_cmp inst_keys same_inst inst_as (λ (i : Inst). i) (λ p. with_ping (Some p)) place o

-- .. or among those that go
abbrev pub leaving_at : Option ℕ → Option Instance → Option Instance
leaving_at place o = placed inst_cmp inst_keys same_inst inst_as (λ (i : Inst). i) (λ p. with_leaving (Some p)) place o

-- the part of an instance of which something may be known
abbrev pub part_in : Option Instance → Part
part_in o = option_map_or (λ known. known.part) o no_part

-- ---- what is read of a part

pub ping_told : (place : Option ℕ) (o : Option Instance) → (is_some place ≡ true → is_some o ≡ true)
    → (part_in o).ping ≡ None → (part_in (pinged_at place o)).ping ≡ place
ping_told None o there none = none
ping_told (Some p) (Some known) there none = refl
ping_told (Some p) None there none = absurd (false≢true (there refl))

pub leaving_told : (place : Option ℕ) (o : Option Instance) → (is_some place ≡ true → is_some o ≡ true)
    → (part_in o).leaving ≡ None → (part_in (leaving_at place o)).leaving ≡ place
leaving_told None o there none = none
leaving_told (Some p) (Some known) there none = refl
leaving_told (Some p) None there none = absurd (false≢true (there refl))

pub change_told : (place : Option GroupPlace) (o : Option Instance) → (is_some place ≡ true → is_some o ≡ true)
    → (part_in o).change ≡ None → (part_in (changed_at place o)).change ≡ place
change_told None o there none = none
change_told (Some p) (Some known) there none = refl
change_told (Some p) None there none = absurd (false≢true (there refl))

-- a part that no place changes
pub ping_kept : {Y : Type 0} (read : Part → Y) → ((p : ℕ) (part : Part) → read (record part { ping = Some p }) ≡ read part)
    → (place : Option ℕ) (o : Option Instance) → read (part_in (pinged_at place o)) ≡ read (part_in o)
ping_kept read same None o = refl
ping_kept read same (Some p) (Some known) = same p known.part
ping_kept read same (Some p) None = refl

pub leaving_kept : {Y : Type 0} (read : Part → Y)
    → ((p : ℕ) (part : Part) → read (record part { leaving = Some p }) ≡ read part)
    → (place : Option ℕ) (o : Option Instance) → read (part_in (leaving_at place o)) ≡ read (part_in o)
leaving_kept read same None o = refl
leaving_kept read same (Some p) (Some known) = same p known.part
leaving_kept read same (Some p) None = refl

pub change_kept : {Y : Type 0} (read : Part → Y)
    → ((p : GroupPlace) (part : Part) → read (record part { change = Some p }) ≡ read part)
    → (place : Option GroupPlace) (o : Option Instance) → read (part_in (changed_at place o)) ≡ read (part_in o)
change_kept read same None o = refl
change_kept read same (Some p) (Some known) = same p known.part
change_kept read same (Some p) None = refl

-- something is known of an instance also where it is told a place
pub ping_there : (place : Option ℕ) (o : Option Instance) → is_some o ≡ true → is_some (pinged_at place o) ≡ true
ping_there None o there = there
ping_there (Some p) (Some known) there = refl
ping_there (Some p) None there = there

pub leaving_there : (place : Option ℕ) (o : Option Instance) → is_some o ≡ true → is_some (leaving_at place o) ≡ true
leaving_there None o there = there
leaving_there (Some p) (Some known) there = refl
leaving_there (Some p) None there = there

-- one that does not change has no place in a group
no_group : (changed : List Inst) (i : Inst) → is_among same_inst i changed ≡ false → change_place changed i ≡ None
no_group changed i none =
    (λ j. both_places (place_of bytes_eq i.group (names_of changed))
    (no_place same_inst i (filter (λ it. bytes_eq it.group i.group) changed)
    (none_filtered (same_inst i) (λ it. bytes_eq it.group i.group) changed none) j))
    ∙ by (place_of bytes_eq i.group (names_of changed))
  where
    by : (o : Option ℕ) → both_places o None ≡ None
    by (Some group) = refl
    by None = refl

group_among : (changed : List Inst) (i : Inst) → is_some (change_place changed i) ≡ true
    → is_among same_inst i changed ≡ true
group_among changed i is = by (is_among same_inst i changed) refl
  where
    by : (b : Bool) → is_among same_inst i changed ≡ b → b ≡ true
    by true among = refl
    by false none = absurd (false≢true (sym (ap is_some (no_group changed i none)) ∙ is))

module _ (told : Told) (it : Recorded) (o : TaskOpen) (work : Work) (opens : Opens told it o work) where
  -- what was known
  abbrev k : Known
  k = told.known

  -- what is told once it opens
  abbrev pub new : Told
  new = telling told (entries.TaskOpen o)

  -- with its goal set
  abbrev pub with_goal : Recorded
  with_goal = record it { instances = (opens.set).instances; deployments = (opens.set).rows }

  -- what is recorded once it opens
  abbrev pub now : Recorded
  now = task_noted (task_row_of o) work (parts_set work with_goal)

  pub own_number : eqb o.task o.task ≡ true
  own_number = eq-eqb o.task o.task refl

  -- which compile machines it is to sweep
  abbrev pub swept : List MachineName
  swept = (opens.is_work).2.0

  -- its work stands for what it is to do
  pub work_stands : StandsFor new (task_opened k o) o.task swept work
  work_stands = subst (λ (t : Task). StandsFor new t o.task swept work)
      (λ j. if own_number j then task_opened k o else k.task o.task) (opens.is_work).2.1

  -- ---- instances

  -- where an instance stands among those that are asked
  abbrev ping : Inst → Option ℕ
  ping i = place_of same_inst i (to_ping k o)

  -- .. among those that go
  abbrev leaving : Inst → Option ℕ
  leaving i = place_of same_inst i o.obsolete

  -- .. and among those that change, in their groups
  abbrev change : Inst → Option GroupPlace
  change i = change_place o.changed i

  -- what is known of one with the goal set
  abbrev before : Inst → Option Instance
  before i = found inst_cmp (opens.set).instances i

  -- each is told its places
  found_now : (i : Inst) → found inst_cmp now.instances i
      ≡ changed_at (change i) (leaving_at (leaving i) (pinged_at (ping i) (before i)))
  found_now i =
      ap (λ changed. found inst_cmp (changes_set changed work.groups (leavings_set work.obsolete.items
      (pings_set work.pings.items (opens.set).instances))) i) work_stands.changed_are
      ∙ changes_found (task_opened k o) (idle_in new) (opens.allows).changed_apart work.groups work_stands.groups_stand
      (leavings_set work.obsolete.items (pings_set work.pings.items (opens.set).instances)) i
      ∙ ap (changed_at (change i))
      (ap (λ items. found inst_cmp (leavings_set items (pings_set work.pings.items (opens.set).instances)) i)
      (work_stands.obsolete).items_are
      ∙ found_placed inst_cmp inst_keys same_inst inst_as (λ p. with_leaving (Some p)) o.obsolete
      (pings_set work.pings.items (opens.set).instances) i (opens.allows).obsolete_apart
      ∙ ap (leaving_at (leaving i))
      (ap (λ items. found inst_cmp (pings_set items (opens.set).instances) i) (work_stands.pings).items_are
      ∙ found_placed inst_cmp inst_keys same_inst inst_as (λ p. with_ping (Some p)) (to_ping k o) (opens.set).instances i
      (opens.allows).pings_apart))

  -- all else is as before
  pub instance_kept : {Y : Type 0} (read : Instance → Option Y)
      → ((place : Option ℕ) (known : Instance) → read (with_ping place known) ≡ read known)
      → ((place : Option ℕ) (known : Instance) → read (with_leaving place known) ≡ read known)
      → ((place : Option GroupPlace) (known : Instance) → read (with_change place known) ≡ read known) → (i : Inst)
      → option_and_then read (found inst_cmp now.instances i) ≡ option_and_then read (before i)
  instance_kept read pings leaves changes i =
      ap (option_and_then read) (found_now i)
      ∙ changed_kept read changes (change i) (leaving_at (leaving i) (pinged_at (ping i) (before i)))
      ∙ placed_kept inst_cmp inst_keys same_inst inst_as (λ (i : Inst). i) (λ p. with_leaving (Some p)) read
      (λ p known. leaves (Some p) known) (leaving i) (pinged_at (ping i) (before i))
      ∙ placed_kept inst_cmp inst_keys same_inst inst_as (λ (i : Inst). i) (λ p. with_ping (Some p)) read
      (λ p known. pings (Some p) known) (ping i) (before i)

  -- those that it lists are there
  recorded_there : (i : Inst) → is_among same_inst i k.instances ≡ true → is_some (before i) ≡ true
  recorded_there i is = ((opens.set).same).there i
      ∙ by (found inst_cmp it.instances i)
      ((opens.stands).rows i ∙ (λ j. if is j then Some (k.row i) else None))
    where
      by : (o : Option Instance) → option_and_then (λ known. known.row) o ≡ Some (k.row i) → is_some o ≡ true
      by (Some known) is = refl
      by None is = absurd cc

  pinged_there : (i : Inst) → is_some (ping i) ≡ true → is_some (before i) ≡ true
  pinged_there i is = recorded_there i ((opens.allows).asked_there i (place_among same_inst i (to_ping k o) is))

  left_there : (i : Inst) → is_some (leaving i) ≡ true → is_some (before i) ≡ true
  left_there i is = recorded_there i ((opens.allows).leaving_there i (place_among same_inst i o.obsolete is))

  changed_there : (i : Inst) → is_some (change i) ≡ true → is_some (before i) ≡ true
  changed_there i is = ((opens.set).same).there i
      ∙ by o.goal refl ((opens.allows).changing_there i (group_among o.changed i is))
    where
      by : (goal : Option Goal) → o.goal ≡ goal → is_among same_inst i (instances_of goal) ≡ true
          → is_some (found inst_cmp it.instances i) ≡ true
      by (Some goal) goal_is among = opens.wants_room goal goal_is i among
      by None goal_is among = absurd (false≢true among)

  -- what is recorded of works is of open tasks
  pub work_going : (t : ℕ) (w : Work) → work_of it t ≡ Some w → is_going k t ≡ true
  work_going t w is = by (work_of it t) is ((opens.stands).works t)
    where
      by : (o : Option Work) → o ≡ Some w → IsWork told t o → is_going k t ≡ true
      by (Some work) is (open_, later, rest) = open_
      by None is gone = absurd cc

  -- no open task is of its deployment yet
  pub no_work : HasNoWork it o.dep
  no_work t w is dep = (opens.allows).alone t (work_going t w is)
      (sym (dep_recorded told it t opens.stands (work_going t w is)) ∙ dep)

  -- so an instance of it has a place just where the task lists it
  module _ (i : Inst) (dep : o.dep ≡ Some i.dep) where
    none_before : part_in (before i) ≡ no_part
    none_before = ((opens.set).same).parts i
        ∙ (opens.fits).parts i (λ t w is dep_is. no_work t w is (dep_is ∙ sym dep))

    pub ping_now : (part_of now i).ping ≡ ping i
    ping_now =
        ap (λ o. (part_in o).ping) (found_now i)
        ∙ change_kept (λ part. part.ping) (λ p part. refl) (change i) (leaving_at (leaving i) (pinged_at (ping i) (before i)))
        ∙ leaving_kept (λ part. part.ping) (λ p part. refl) (leaving i) (pinged_at (ping i) (before i))
        ∙ ping_told (ping i) (before i) (pinged_there i) (ap (λ (part : Part). part.ping) none_before)

    pub leaving_now : (part_of now i).leaving ≡ leaving i
    leaving_now =
        ap (λ o. (part_in o).leaving) (found_now i)
        ∙ change_kept (λ part. part.leaving) (λ p part. refl) (change i)
        (leaving_at (leaving i) (pinged_at (ping i) (before i)))
        ∙ leaving_told (leaving i) (pinged_at (ping i) (before i))
        (λ is. ping_there (ping i) (before i) (left_there i is))
        (ping_kept (λ part. part.leaving) (λ p part. refl) (ping i) (before i)
        ∙ ap (λ (part : Part). part.leaving) none_before)

    pub change_now : (part_of now i).change ≡ change i
    change_now =
        ap (λ o. (part_in o).change) (found_now i)
        ∙ change_told (change i) (leaving_at (leaving i) (pinged_at (ping i) (before i)))
        (λ is. leaving_there (leaving i) (pinged_at (ping i) (before i))
        (ping_there (ping i) (before i) (changed_there i is)))
        (leaving_kept (λ part. part.change) (λ p part. refl) (leaving i) (pinged_at (ping i) (before i))
        ∙ ping_kept (λ part. part.change) (λ p part. refl) (ping i) (before i)
        ∙ ap (λ (part : Part). part.change) none_before)

  -- .. and one of another deployment stands where it stood
  pub part_other : (i : Inst) → (o.dep ≡ Some i.dep → ⊥) → part_of now i ≡ part_of it i
  part_other i other =
      ap part_in
      (found_now i
      ∙ (λ j. changed_at (no_group o.changed i (none o.changed ((opens.allows).own.changing i)) j)
      (leaving_at (no_place same_inst i o.obsolete (none o.obsolete ((opens.allows).own.leaving i)) j)
      (pinged_at (no_place same_inst i (to_ping k o) (none (to_ping k o) ((opens.allows).own.asked i)) j) (before i)))))
      ∙ ((opens.set).same).parts i
    where
      none : (items : List Inst) → (is_among same_inst i items ≡ true → o.dep ≡ Some i.dep)
          → is_among same_inst i items ≡ false
      none items own = by (is_among same_inst i items) refl
        where
          by : (b : Bool) → is_among same_inst i items ≡ b → b ≡ false
          by false is = refl
          by true is = absurd (other (own is))
