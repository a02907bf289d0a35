-- What may be noted at a moment may be noted as well where the same is known but for the sources of tasks and how many calls
-- each began, and in the older format.
use Rattle.std.proofs.Common.{◌≡◌, ◌∙◌, ℕ, true, ◌&&◌, ◌||◌, not, Option, Some, None, List, ◌++◌, ap, inl, inr, refl}
use Rattle.std.proofs.Common.{subst, sym}
use Rattle.std.proofs.Common.{◌+◌}
use Rattle.std.specs.Prelude.{◌==◌, eqb, filter, if◌then◌else◌, is_some}
use Rattle.std.specs.List.{list_all, list_any}
use Rattle.std.specs.Str.{bytes_eq}
use Rattle.bosh_base.specs.declared.entry.Entry.{Entry}
use Rattle.bosh_base.specs.declared.entry.Entry.TheVariants as entries
use Rattle.bosh_base.specs.declared.entry.TaskOpen.{TaskOpen}
use Rattle.bosh_base.specs.declared.failure.Failure.{Failure}
use Rattle.bosh_base.specs.declared.failure.Failure.TheVariants as failures
use Rattle.bosh_base.specs.declared.goal.Goal.{Goal}
use Rattle.bosh_base.specs.declared.inst.Inst.{Inst}
use Rattle.bosh_base.specs.declared.owner.Owner.{Owner}
use Rattle.bosh_base.specs.declared.owner.Owner.TheVariants.{Instance, Compile, Disk}
use Rattle.bosh_base.specs.declared.row.Doubt.{Doubt}
use Rattle.bosh_base.specs.declared.row.Vm.{Vm}
use Rattle.bosh_base.specs.declared.task.TaskKind.{TaskKind}
use Rattle.bosh_base.specs.declared.task.TaskKind.TheVariants as kinds
use Rattle.bosh_base.specs.declared.view.Held.{Held}
use Rattle.bosh_history.specs.Fit.{IsStoredAs, plain_entry, plain_opening}
use Rattle.bosh_history.specs.Goals.{canaries_first, is_waiting, may_begin, to_change, to_delete}
use Rattle.bosh_history.specs.Held.{held, held_elsewhere}
use Rattle.bosh_history.specs.Items.{candidates, is_before, is_finished, is_in_deployment, is_item, is_to_change, is_to_go}
use Rattle.bosh_history.specs.Items.{is_to_ping, phase_of}
use Rattle.bosh_history.specs.Known.{Known, Slot}
use Rattle.bosh_history.specs.Moments.{Moment, dep_of}
use Rattle.bosh_history.specs.Notes.{IsCause, MayNote}
use Rattle.bosh_history.specs.Notes.{Outside, has_begun, is_task_open, same_version, step_now}
use Rattle.bosh_history.specs.Openings.{OpensBy, OpensDisks, OpensFor, OpensOn, OpensWith, is_free}
use Rattle.bosh_history.specs.Openings.{names_what_is_there, withdraws_nothing}
use Rattle.bosh_history.specs.Recovered.{is_interruption, is_recovering, may_follow}
use Rattle.bosh_history.specs.Slots.{are_all_compiled}
use Rattle.bosh_history.specs.Sound.{are_rows_free, has_addresses, has_instances, has_keys, has_offers, is_held, is_in_bounds}
use Rattle.bosh_history.specs.Sound.{is_of_kind, is_renewed, is_sound, is_sound_goal, is_tie_kept, is_used, is_wanted}
use Rattle.bosh_history.specs.Sound.{row_addrs, slot_addrs}
use Rattle.bosh_history.specs.Steps.{call_now, has_no_call, is_idle, own_slot, slot_by, sweep_call}
use Rattle.bosh_history.specs.Words.{holds, is_among}
use Rattle.bosh_rows.specs.Same.{same_inst}
use Rattle.bosh_rows.specs.SoundSnapshot.{are_distinct}
use Rattle.laws_runs.proofs.PlainLemmas.{plain_known}

-- the moment at which this is known
abbrev pub with_known : Known → Moment → Moment
with_known k m = record m { known = k }

-- ---- nothing of it reads a source, or a count of calls

-- at a moment without these
abbrev plain_moment : Moment → Moment
plain_moment m = with_known (plain_known m.known) m

pub deps_plain : (k : Known) (owner : Owner) → dep_of (plain_known k) owner ≡ dep_of k owner
deps_plain k (Instance i) = refl
deps_plain k (Compile t s) = refl
deps_plain k (Disk d) = refl

phase_plain : (k : Known) (t : ℕ) (owner : Owner) → phase_of (plain_known k) t owner ≡ phase_of k t owner
phase_plain k t (Instance i) = refl
phase_plain k t (Compile task slot) = refl
phase_plain k t (Disk d) = refl

item_plain : (k : Known) (t : ℕ) (owner : Owner) → is_item (plain_known k) t owner ≡ is_item k t owner
item_plain k t owner =
    λ j. holds (λ phase. list_all (λ other. not (is_before phase (phase_plain k t other j))) (candidates k t))
    (phase_plain k t owner j)

begun_plain : (k : Known) (t : ℕ) (owner : Owner)
    → has_begun ((plain_known k).task t) owner ≡ has_begun (k.task t) owner
begun_plain k t (Instance i) = refl
begun_plain k t (Compile task slot) = refl
begun_plain k t (Disk d) = refl

slot_plain : (m : Moment) (t : ℕ) (slot : Slot) (vm : Option Vm) (doubt : Option Doubt)
    → slot_by (plain_moment m) t slot vm doubt ≡ slot_by m t slot vm doubt
slot_plain m t slot (Some it) None = refl
slot_plain m t slot (Some it) (Some doubt) = refl
slot_plain m t slot None doubt = refl

own_plain : (m : Moment) (t s : ℕ) (slot : Option Slot) → own_slot (plain_moment m) t s slot ≡ own_slot m t s slot
own_plain m t s (Some slot) = slot_plain m t slot slot.vm slot.doubt
own_plain m t s None = refl

call_plain : (m : Moment) (t : ℕ) (owner : Owner) → call_now (plain_moment m) t owner ≡ call_now m t owner
call_plain m t (Instance i) = refl
call_plain m t (Compile task slot) =
    λ j. if task == t then own_plain m t slot (m.known.slot task slot) j else sweep_call (m.known.slot task slot)
call_plain m t (Disk d) = refl

names_plain : (k : Known) (kind : TaskKind) (goal : Goal)
    → names_what_is_there (plain_known k) kind goal ≡ names_what_is_there k kind goal
names_plain k kinds.Deploy goal = refl
names_plain k kind goal = refl

change_plain : (k : Known) (kind : TaskKind) (goal : Option Goal)
    → to_change (plain_known k) kind goal ≡ to_change k kind goal
change_plain k kinds.Deploy goal = refl
change_plain k kind goal = refl

delete_plain : (k : Known) (kind : TaskKind) (dep : List ℕ) (goal : Option Goal)
    → to_delete (plain_known k) kind dep goal ≡ to_delete k kind dep goal
delete_plain k kinds.Deploy dep goal = refl
delete_plain k kind dep goal = refl

-- ---- goals

elsewhere_plain : (k : Known) (dep : List ℕ) → held_elsewhere (plain_known k) dep ≡ held_elsewhere k dep
elsewhere_plain k dep = λ j. filter (λ (it : Held). not (bytes_eq (deps_plain k it.owner j) dep)) (held k)

addresses_plain : (k : Known) (goal : Goal) → has_addresses (plain_known k) goal ≡ has_addresses k goal
addresses_plain k goal =
    λ j. are_distinct eqb (row_addrs goal ++ slot_addrs goal)
    && (list_all (λ a. not (is_held (elsewhere_plain k goal.dep j) a)) (row_addrs goal ++ slot_addrs goal)
    && (are_rows_free k goal && list_all (λ a. not (is_used k a || is_wanted k goal a)) (slot_addrs goal)))

keys_plain : (k : Known) (kind : TaskKind) (goal : Goal) → has_keys (plain_known k) kind goal ≡ has_keys k kind goal
keys_plain k kinds.Deploy goal = refl
keys_plain k kind goal = refl

renewed_plain : (k : Known) (goal : Goal) (i : Inst) (current : Option Goal)
    → is_renewed (plain_known k) goal i current ≡ is_renewed k goal i current
renewed_plain k goal i (Some current) = refl
renewed_plain k goal i None = refl

kind_plain : (k : Known) (kind : TaskKind) (goal : Goal) → is_of_kind (plain_known k) kind goal ≡ is_of_kind k kind goal
kind_plain k (kinds.Recreate i) goal = renewed_plain k goal i (k.goal goal.dep)
kind_plain k (kinds.Start i) goal = renewed_plain k goal i (k.goal goal.dep)
kind_plain k (kinds.Stop i) goal = renewed_plain k goal i (k.goal goal.dep)
kind_plain k (kinds.Resolve i) goal = renewed_plain k goal i (k.goal goal.dep)
kind_plain k kinds.DeleteDeployment goal = refl
kind_plain k kind goal = refl

goal_plain : (k : Known) (kind : TaskKind) (goal : Goal) → is_sound_goal (plain_known k) kind goal ≡ is_sound_goal k kind goal
goal_plain k kind goal =
    λ j. has_instances k goal
    && (addresses_plain k goal j
    && (keys_plain k kind goal j
    && (list_all (is_tie_kept k goal) goal.ties && (has_offers goal && kind_plain k kind goal j))))

sound_plain : (k : Known) (o : TaskOpen) → is_sound (plain_known k) o ≡ is_sound k o
sound_plain k o = by o.goal
  where
    by : (goal : Option Goal) → is_sound (plain_known k) (record o { goal = goal }) ≡ is_sound k (record o { goal = goal })
    by (Some goal) = λ j. goal_plain k o.kind goal j && is_in_bounds goal
    by None = refl

-- the source that a task tells is not read
sound_unread : (k : Known) (o : TaskOpen) → is_sound k (plain_opening o) ≡ is_sound k o
sound_unread k o = by o.goal
  where
    by : (goal : Option Goal) → is_sound k (plain_opening (record o { goal = goal })) ≡ is_sound k (record o { goal = goal })
    by (Some goal) = refl
    by None = refl

-- ---- so where the same is known but for these, the same may be noted

module _ (m : Moment) (k : Known) (same : plain_known k ≡ plain_known m.known) where
  abbrev now : Moment
  now = with_known k m

  -- each test that reads none of it
  pub alike : {X : Type 0} (of : Known → X) → ((it : Known) → of (plain_known it) ≡ of it) → of k ≡ of m.known
  alike of blind = sym (blind k) ∙ ap of same ∙ blind m.known

  item_alike : (t : ℕ) (owner : Owner) → is_item k t owner ≡ is_item m.known t owner
  item_alike t owner = alike (λ it. is_item it t owner) (λ it. item_plain it t owner)

  opens_with : (o : TaskOpen) (goal : Goal) → OpensWith m.known o goal → OpensWith k o goal
  opens_with o goal may = record {
    number = may.number ∙ sym (ap (λ (it : Known). it.tasks + 1) same);
    of_the_deployment = may.of_the_deployment;
    is_free = alike (λ it. is_free it o.dep) (λ it. refl) ∙ may.is_free;
    is_there = alike (λ it. names_what_is_there it o.kind goal) (λ it. names_plain it o.kind goal) ∙ may.is_there;
    changes =
        may.changes ∙ sym (alike (λ it. to_change it o.kind o.goal) (λ it. change_plain it o.kind o.goal));
    deletes =
        may.deletes
        ∙ sym (alike (λ it. to_delete it o.kind goal.dep o.goal) (λ it. delete_plain it o.kind goal.dep o.goal));
    no_disks = may.no_disks;
    keeps_links = alike (λ it. withdraws_nothing it goal) (λ it. refl) ∙ may.keeps_links;
  }

  opens_on : (o : TaskOpen) → OpensOn m.known o → OpensOn k o
  opens_on o may = record {
    number = may.number ∙ sym (ap (λ (it : Known). it.tasks + 1) same);
    of_none = may.of_none;
    is_free = alike (λ it. is_free it o.dep) (λ it. refl) ∙ may.is_free;
    changes_none = may.changes_none;
    deletes_none = may.deletes_none;
  }

  opens_for : (o : TaskOpen) (goal : Option Goal) → OpensFor m.known o goal → OpensFor k o goal
  opens_for o (Some goal) may = opens_with o goal may
  opens_for o None may = may

  opens_disks : (o : TaskOpen) (goal : Option Goal) → OpensDisks m.known o goal → OpensDisks k o goal
  opens_disks o None may = opens_on o may
  opens_disks o (Some goal) may = may

  opens_by : (o : TaskOpen) (kind : TaskKind) → OpensBy m.known o kind → OpensBy k o kind
  opens_by o kinds.CleanUp may =
      (opens_disks o o.goal may.0, may.1 ∙ sym (ap (λ (it : Known). it.orphans) same))
  opens_by o (kinds.DeleteDisk d) may =
      (opens_disks o o.goal may.0, may.1, ap (λ (it : Known). is_among eqb d it.orphans) same ∙ may.2)
  opens_by o kind may = opens_for o o.goal may

  cause_alike : (t : ℕ) (cause : Failure) → IsCause m t cause → IsCause now t cause
  cause_alike t failures.Interrupted is = is
  cause_alike t (failures.Call n) is = ap (λ (it : Known). (it.task t).failed) same ∙ is
  cause_alike t (failures.Gone n) is = ap (λ (it : Known). (it.task t).failed) same ∙ is

  -- an entry that is no opening
  noted_alike : (outside : Outside) (entry : Entry) → MayNote outside m entry → MayNote outside now entry
  noted_alike outside (entries.Release r) may = record {
    is_version = may.is_version;
    is_new = ap (λ (it : Known). list_any (λ other. bytes_eq other.name r.name && same_version other.version r.version)
        it.releases) same ∙ may.is_new;
    goes_with = ap (λ (it : Known). outside.goes_with it.releases r) same ∙ may.goes_with;
  }
  noted_alike outside (entries.Stemcell s) may = record {
    is_version = may.is_version;
    is_new = ap (λ (it : Known). list_any (λ other. bytes_eq other.os s.os && same_version other.version s.version)
        it.stemcells) same ∙ may.is_new;
  }
  noted_alike outside (entries.Config file) may = may
  noted_alike outside (entries.TaskOpen o) may =
      (opens_by o o.kind may.0, alike (λ it. is_sound it o) (λ it. sound_plain it o) ∙ may.1)
  noted_alike outside (entries.Begin b) may = record {
    is_open = alike (λ it. is_task_open it b.task) (λ it. refl) ∙ may.is_open;
    none_failed = ap (λ (it : Known). is_some (it.task b.task).failed) same ∙ may.none_failed;
    number = may.number ∙ sym (ap (λ (it : Known). it.last_call + 1) same);
    is_idle = ap (λ (it : Known). is_idle (with_known it m) b.owner) same ∙ may.is_idle;
    is_item = item_alike b.task b.owner ∙ may.is_item;
    has_begun =
        alike (λ it. has_begun (it.task b.task) b.owner) (λ it. begun_plain it b.task b.owner) ∙ may.has_begun;
    is_call =
        alike (λ it. call_now (with_known it m) b.task b.owner)
        (λ it. call_plain (with_known it m) b.task b.owner) ∙ may.is_call;
  }
  noted_alike outside (entries.End e) may = may
  noted_alike outside (entries.UpdBegin u) may = record {
    is_open = alike (λ it. is_task_open it u.task) (λ it. refl) ∙ may.is_open;
    is_changed = ap (λ (it : Known). is_among same_inst u.inst (it.task u.task).changed) same ∙ may.is_changed;
    waits = ap (λ (it : Known). is_waiting ((it.task u.task).upd u.inst)) same ∙ may.waits;
    is_asked = ap (λ (it : Known). is_to_ping (it.task u.task) u.inst) same ∙ may.is_asked;
    is_item = item_alike u.task (Instance u.inst) ∙ may.is_item;
    may_begin = ap (λ (it : Known). may_begin (it.task u.task) u.inst) same ∙ may.may_begin;
  }
  noted_alike outside (entries.UpdDone u) may = record {
    is_open = alike (λ it. is_task_open it u.task) (λ it. refl) ∙ may.is_open;
    is_changed = ap (λ (it : Known). is_to_change (it.task u.task) u.inst) same ∙ may.is_changed;
    is_asked = ap (λ (it : Known). is_to_ping (it.task u.task) u.inst) same ∙ may.is_asked;
    is_idle = ap (λ (it : Known). is_idle (with_known it m) (Instance u.inst)) same ∙ may.is_idle;
    no_step = ap (λ (it : Known). step_now it u.task u.inst) same ∙ may.no_step;
    is_item = item_alike u.task (Instance u.inst) ∙ may.is_item;
    canaries_first = ap (λ (it : Known). canaries_first (it.task u.task) u.inst) same ∙ may.canaries_first;
  }
  noted_alike outside (entries.Gone u) may = record {
    is_open = alike (λ it. is_task_open it u.task) (λ it. refl) ∙ may.is_open;
    is_obsolete = ap (λ (it : Known). is_to_go (it.task u.task) u.inst) same ∙ may.is_obsolete;
    is_asked = ap (λ (it : Known). is_to_ping (it.task u.task) u.inst) same ∙ may.is_asked;
    is_idle = ap (λ (it : Known). is_idle (with_known it m) (Instance u.inst)) same ∙ may.is_idle;
    no_step = ap (λ (it : Known). step_now it u.task u.inst) same ∙ may.no_step;
    is_item = item_alike u.task (Instance u.inst) ∙ may.is_item;
  }
  noted_alike outside (entries.TaskDone t) may = record {
    is_open = alike (λ it. is_task_open it t) (λ it. refl) ∙ may.is_open;
    none_failed = ap (λ (it : Known). is_some (it.task t).failed) same ∙ may.none_failed;
    no_call = ap (λ (it : Known). has_no_call (with_known it m) t) same ∙ may.no_call;
    all_asked = ap (λ (it : Known). list_any (is_to_ping (it.task t)) (it.task t).to_ping) same ∙ may.all_asked;
    all_changed =
        ap (λ (it : Known). list_all (λ i. is_finished ((it.task t).upd i)) (it.task t).changed) same ∙ may.all_changed;
    all_gone = ap (λ (it : Known). list_all (it.task t).gone (it.task t).obsolete) same ∙ may.all_gone;
    no_machine =
        ap (λ (it : Known). list_any (is_in_deployment it (it.task t).dep) it.machines) same ∙ may.no_machine;
    all_compiled = ap (λ (it : Known). are_all_compiled it (it.task t).goal) same ∙ may.all_compiled;
    all_deleted = ap (λ (it : Known). list_any (λ d. is_some (it.orphan d)) (it.task t).disks) same ∙ may.all_deleted;
  }
  noted_alike outside (entries.TaskError e) may = record {
    is_open = alike (λ it. is_task_open it e.task) (λ it. refl) ∙ may.is_open;
    no_call = ap (λ (it : Known). has_no_call (with_known it m) e.task) same ∙ may.no_call;
    cause = cause_alike e.task e.cause may.cause;
  }
  noted_alike outside entry may = absurd may

  follows_alike : (entry : Entry) → may_follow now entry ≡ may_follow m entry
  follows_alike entry =
      ap (λ (it : Known). not (is_recovering (with_known it m)) || is_interruption entry) same

-- ---- in the older format

plain_by : (k : Known) (o : TaskOpen) (kind : TaskKind) → OpensBy k o kind → OpensBy k (plain_opening o) kind
plain_by k o kind may = by o.goal kind may
  where
    with_goal : (goal : Goal) → OpensWith k o goal → OpensWith k (plain_opening o) goal
    with_goal goal may = record {
      number = may.number;
      of_the_deployment = may.of_the_deployment;
      is_free = may.is_free;
      is_there = may.is_there;
      changes = may.changes;
      deletes = may.deletes;
      no_disks = may.no_disks;
      keeps_links = may.keeps_links;
    }

    on_disks : OpensOn k o → OpensOn k (plain_opening o)
    on_disks may = record {
      number = may.number;
      of_none = may.of_none;
      is_free = may.is_free;
      changes_none = may.changes_none;
      deletes_none = may.deletes_none;
    }

    for_goal : (goal : Option Goal) → OpensFor k o goal → OpensFor k (plain_opening o) goal
    for_goal (Some goal) may = with_goal goal may
    for_goal None may = may

    disks : (goal : Option Goal) → OpensDisks k o goal → OpensDisks k (plain_opening o) goal
    disks None may = on_disks may
    disks (Some goal) may = may

    by : (goal : Option Goal) (kind : TaskKind) → OpensBy k o kind → OpensBy k (plain_opening o) kind
    by goal kinds.CleanUp may = (disks o.goal may.0, may.1)
    by goal (kinds.DeleteDisk d) may = (disks o.goal may.0, may.1, may.2)
    by goal kind may = for_goal o.goal may

plain_noted : (outside : Outside) (m : Moment) (entry : Entry) → MayNote outside m entry
    → MayNote outside m (plain_entry entry)
plain_noted outside m (entries.TaskOpen o) may = (plain_by m.known o o.kind may.0, sound_unread m.known o ∙ may.1)
plain_noted outside m (entries.Snapshot s) may = absurd may
plain_noted outside m entry may = may

plain_follows : (m : Moment) (entry : Entry) → may_follow m (plain_entry entry) ≡ may_follow m entry
plain_follows m (entries.TaskOpen o) = refl
plain_follows m (entries.Snapshot s) = refl
plain_follows m entry = refl

-- an entry that may be noted may be so in the format in which it is stored, after others in theirs
pub stored_noted : (outside : Outside) (m : Moment) (k : Known) (stored entry : Entry)
    → plain_known k ≡ plain_known m.known → IsStoredAs stored entry → may_follow m entry ≡ true → MayNote outside m entry
    → (may_follow (with_known k m) stored ≡ true) × MayNote outside (with_known k m) stored
stored_noted outside m k stored entry same (inl is) follows may =
    subst (λ (it : Entry). (may_follow (with_known k m) it ≡ true) × MayNote outside (with_known k m) it) (sym is)
    (follows_alike m k same entry ∙ follows, noted_alike m k same outside entry may)
stored_noted outside m k stored entry same (inr is) follows may =
    subst (λ (it : Entry). (may_follow (with_known k m) it ≡ true) × MayNote outside (with_known k m) it) (sym is) (
      plain_follows (with_known k m) entry ∙ follows_alike m k same entry ∙ follows,
      plain_noted outside (with_known k m) entry (noted_alike m k same outside entry may),
    )
