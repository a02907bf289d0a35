-- The update of an instance begins.
use Rattle.std.proofs.Common.{◌≡◌, ◌∙◌, ℕ, Bool, true, false, ◌&&◌, not, List, ◌==◌, Option, Some, None}
use Rattle.std.proofs.Common.{ap, refl, sym, subst}
use Rattle.std.specs.Prelude.{eqb, filter, is_some, map, nat_le, if◌then◌else◌}
use Rattle.std.specs.Option.{option_and_then, option_map}
use Rattle.std.specs.Ordering.{nat_cmp}
use Rattle.std.proofs.lemmas.Bool.{eqb-true}
use Rattle.bosh_base.specs.declared.entry.Entry.TheVariants as entries
use Rattle.bosh_base.specs.declared.entry.Update.{Update}
use Rattle.bosh_base.specs.declared.inst.Inst.{Inst}
use Rattle.bosh_base.specs.declared.task.TaskRow.{TaskRow}
use Rattle.bosh_compile.specs.Readiness.{same_key}
use Rattle.bosh_fold.specs.Updates.{update_begun_in}
use Rattle.bosh_history.specs.Goals.{is_waiting}
use Rattle.bosh_history.specs.Items.{is_finished, is_in_deployment}
use Rattle.bosh_history.specs.Known.{Known, SlotName, Task}
use Rattle.bosh_history.specs.Slots.{keys_of}
use Rattle.bosh_history.specs.Updates.{update_at}
use Rattle.bosh_progress.specs.Tree.{first_marked}
use Rattle.bosh_records.specs.Places.{part_of}
use Rattle.bosh_records.specs.Recorded.{Recorded}
use Rattle.bosh_roll.specs.Upd.{is_busy}
use Rattle.bosh_roll.specs.declared.upd.Upd.TheVariants.{Busy}
use Rattle.bosh_rows.specs.Same.{same_inst}
use Rattle.bosh_rows.specs.SoundSnapshot.{are_distinct}
use Rattle.bosh_work.specs.Work as work_specs
use Rattle.bosh_work.specs.declared.part.MachineName.{MachineName}
use Rattle.bosh_work.specs.declared.work.Work.{Work}
use Rattle.laws_stands.specs.GroupsStand.{change_place}
use Rattle.laws_stands.specs.Reading.{dep_of, work_of}
use Rattle.laws_stands.specs.Stands.{AreSwept, IsWork, StandsIn, StandsInOrder, key_of_slot}
use Rattle.laws_stands.specs.Told.{Told, is_going, telling}
use Rattle.laws_stands.specs.WorkStands.{StandsFor}
use Rattle.laws_stands_on.proofs.LinkLemmas.{changed_work, links_go_on}
use Rattle.laws_stands_on.proofs.ListedLemmas.{SameListed, listed_goes_on, untouched}
use Rattle.laws_stands_on.proofs.TableLemmas.{nat_at, nat_keys, thing_changed}
use Rattle.laws_stands_on.proofs.WorkLemmas.{after_update_begun}
use Rattle.laws_stands_on.specs.Allows.{AllowsUpdate}
use Rattle.laws_stands_on.proofs.TaskLemmas.{dep_recorded}

module _ (u : Update) (told : Told) (it : Recorded) (allows : AllowsUpdate told u) (stands : StandsIn told it) where
  abbrev n : ℕ
  n = u.task

  abbrev i : Inst
  i = u.inst

  abbrev new : Told
  new = telling told (entries.UpdBegin u)

  abbrev k : Known
  k = told.known

  -- what an update does not change in a task
  task_same : {X : Type 0} (f : Task → X) → ((t : Task) → f (update_at Busy i t) ≡ f t) → (t : ℕ)
      → f (new.known.task t) ≡ f (k.task t)
  task_same f same t = by (eqb n t) refl
    where
      by : (b : Bool) → eqb n t ≡ b → f (if b then update_at Busy i (k.task n) else k.task t) ≡ f (k.task t)
      by true is = same (k.task n) ∙ ap (λ n. f (k.task n)) (eqb-true n t is)
      by false is = refl

  going_same : (t : ℕ) → is_going new.known t ≡ is_going k t
  going_same t = task_same (λ it. nat_le 1 t && (nat_le t k.tasks && not (is_some it.end))) (λ it. refl) t

  swept_same : (t : ℕ) (swept : List MachineName) → AreSwept k t swept → AreSwept new.known t swept
  swept_same t swept are = are
      ∙ sym (task_same (λ it. filter (λ (name : SlotName). not (name.task == t) && is_in_deployment k it.dep name)
      k.machines) (λ it. refl) t)

  -- the new work of a task
  work_is : (t : ℕ) → work_of (update_begun_in u it) t
      ≡ (if eqb n t then option_map (λ work. work_specs.update_begun work (part_of it i).change) (work_of it t)
      else work_of it t)
  work_is t =
      thing_changed nat_cmp nat_keys n (λ work. work_specs.update_begun work (part_of it i).change) it.works t
      ∙ ap (λ b. if b then option_map (λ work. work_specs.update_begun work (part_of it i).change) (work_of it t)
      else work_of it t) (nat_at n t)

  dep_is : dep_of it n ≡ Some i.dep
  dep_is = dep_recorded told it n stands allows.going ∙ allows.dep

  -- the work of the task itself
  own_work : (o : Option Work) → work_of it n ≡ o → IsWork told n o
      → IsWork new n (option_map (λ work. work_specs.update_begun work (part_of it i).change) o)
  own_work (Some work) is (going, later, (swept, work_stands, are_swept)) = (
    going_same n ∙ going,
    later,
    (
      swept,
      after_update_begun told n swept work (work_specs.update_begun work (part_of it i).change) i work_stands
          allows.apart allows.idle
          (λ j. work_specs.update_begun work
          ((stands.linked.changes n work i is dep_is
          ∙ ap (λ changed. change_place changed i) work_stands.changed_are) j)),
      swept_same n swept are_swept,
    ),
  )
  own_work None is gone = λ later. going_same n ∙ gone later

  same_for : (t : ℕ) (swept : List MachineName) → SameListed told new (k.task t) t swept
  same_for t swept = untouched told new.known refl refl refl refl refl refl (k.task t) t swept

  -- .. and of another task
  other_work : (t : ℕ) → eqb n t ≡ false → (o : Option Work) → IsWork told t o → IsWork new t o
  other_work t other (Some work) (going, later, (swept, work_stands, are_swept)) = (
    going_same t ∙ going,
    later,
    (
      swept,
      subst (λ (it : Task). StandsFor new it t swept work)
          (sym (λ j. if other j then update_at Busy i (k.task n) else k.task t))
          (listed_goes_on told new (k.task t) t swept work (same_for t swept) work_stands),
      swept_same t swept are_swept,
    ),
  )
  other_work t other None gone = λ later. going_same t ∙ gone later

  works_stand : (t : ℕ) → IsWork new t (work_of (update_begun_in u it) t)
  works_stand t = subst (IsWork new t) (sym (work_is t)) (by (eqb n t) refl)
    where
      by : (b : Bool) → eqb n t ≡ b
          → IsWork new t (if b then option_map (λ work. work_specs.update_begun work (part_of it i).change)
          (work_of it t) else work_of it t)
      by true is =
          subst (λ t. IsWork new t (option_map (λ work. work_specs.update_begun work (part_of it i).change)
          (work_of it t))) (eqb-true n t is) (own_work (work_of it n) refl (stands.works n))
      by false is = other_work t is (work_of it t) (stands.works t)

  -- no update is told to have failed
  updates_told : (t : ℕ) (x : Inst) → is_finished ((new.known.task t).upd x)
      ≡ (not (is_waiting ((new.known.task t).upd x)) && not (is_busy ((new.known.task t).upd x)))
  updates_told t x = by (eqb n t)
    where
      own : (b : Bool) → is_finished (if b then Busy else (k.task n).upd x)
          ≡ (not (is_waiting (if b then Busy else (k.task n).upd x))
          && not (is_busy (if b then Busy else (k.task n).upd x)))
      own true = refl
      own false = stands.tells_well.updates n x

      by : (b : Bool) → is_finished ((if b then update_at Busy i (k.task n) else k.task t).upd x)
          ≡ (not (is_waiting ((if b then update_at Busy i (k.task n) else k.task t).upd x))
          && not (is_busy ((if b then update_at Busy i (k.task n) else k.task t).upd x)))
      by true = own (same_inst i x)
      by false = stands.tells_well.updates t x

  -- what is recorded of a task
  abbrev row_by : ℕ → Task → TaskRow
  row_by t it = record {
    task = t;
    kind = it.kind;
    dep = it.dep;
    end = it.end;
    source = it.source;
    calls =
        it.calls;
  }

  pub after_begun : StandsInOrder new (update_begun_in u it)
  after_begun = λ ordered. record {
    uploads = stands.uploads;
    deployments = stands.deployments;
    rows = stands.rows;
    row_calls = stands.row_calls;
    machines = stands.machines;
    machine_keys = λ name later. stands.machine_keys name later
        ∙ sym (task_same
        (λ (it : Task). option_and_then
        (λ key. first_marked (map (λ work. same_key work.key key) (keys_of it.goal)))
        (key_of_slot (k.slot name.task name.slot))) (λ it. refl) name.task);
    machine_calls = stands.machine_calls;
    orphans = stands.orphans;
    orphan_calls = stands.orphan_calls;
    digests = stands.digests;
    compiling = stands.compiling;
    tasks = λ t. stands.tasks t
        ∙ sym (task_same (λ (it : Task). if nat_le 1 t && nat_le t k.tasks then Some (row_by t it) else None)
        (λ it. refl) t);
    calls = stands.calls;
    works = works_stand;
    linked = links_go_on it (update_begun_in u it) (record {
      wants = λ x. refl;
      goals = λ dep. refl;
      parts = λ x. refl;
      deps = λ t. refl;
      works = changed_work it (update_begun_in u it) n (λ work. work_specs.update_begun work (part_of it i).change)
          (λ w. record { pings = refl; obsolete = refl; changed = refl; sweep = refl; disks = refl }) work_is;
      machines = λ name. refl;
      orphans = λ d. refl;
    }) stands.linked;
    ordered = ordered;
    tells_well = record {
      number = stands.tells_well.number;
      low = stands.tells_well.low;
      past = stands.tells_well.past;
      begun = stands.tells_well.begun;
      begun_past = stands.tells_well.begun_past;
      failed = λ t failure is. stands.tells_well.failed t failure (sym (task_same (λ it. it.failed) (λ it. refl) t)
          ∙ is);
      going = λ c b is. going_same b.task ∙ stands.tells_well.going c b is;
      one_owner = stands.tells_well.one_owner;
      one_key = stands.tells_well.one_key;
      recorded = stands.tells_well.recorded;
      counted = λ t c is. stands.tells_well.counted t c (sym (task_same (λ it. it.calls) (λ it. refl) t) ∙ is);
      disks_apart = λ t. task_same (λ it. are_distinct eqb it.disks) (λ it. refl) t
          ∙ stands.tells_well.disks_apart t;
      updates = updates_told;
    };
  }
