-- The update of an instance is done.
use Rattle.std.proofs.Common.{◌≡◌, ◌∙◌, ℕ, Bool, true, false, ◌&&◌, not, List, ◌==◌, Option, Some, None}
use Rattle.std.proofs.Common.{ap, refl, sym, subst}
use Rattle.std.specs.Prelude.{eqb, filter, is_some, map, nat_le, if◌then◌else◌}
use Rattle.std.specs.Option.{option_and_then, option_map}
use Rattle.std.specs.Ordering.{nat_cmp}
use Rattle.std.proofs.lemmas.Bool.{eqb-true}
use Rattle.bosh_base.specs.Inst.{inst_cmp}
use Rattle.bosh_base.specs.declared.entry.Update.{Update}
use Rattle.bosh_base.specs.declared.inst.Inst.{Inst}
use Rattle.bosh_base.specs.declared.row.Row.{Row}
use Rattle.bosh_compile.specs.Readiness.{same_key}
use Rattle.bosh_fold.specs.Updates.{update_finished_in, with_row_of}
use Rattle.bosh_history.specs.Goals.{is_waiting}
use Rattle.bosh_history.specs.Items.{is_finished, is_in_deployment}
use Rattle.bosh_history.specs.Known.{Known, SlotName, Task}
use Rattle.bosh_history.specs.Slots.{keys_of}
use Rattle.bosh_history.specs.Updates.{update_at}
use Rattle.bosh_history.specs.Words.{at, is_among}
use Rattle.bosh_progress.specs.Tree.{first_marked}
use Rattle.bosh_records.specs.Places.{part_of}
use Rattle.bosh_records.specs.Recorded.{Recorded}
use Rattle.bosh_records.specs.Table.{altered, found}
use Rattle.bosh_records.specs.declared.instances.Instance.{Instance}
use Rattle.bosh_roll.specs.Upd.{is_busy}
use Rattle.bosh_roll.specs.declared.upd.Upd.TheVariants.{Finished}
use Rattle.bosh_rows.specs.Same.{same_inst}
use Rattle.bosh_rows.specs.SoundSnapshot.{are_distinct}
use Rattle.bosh_work.specs.Work as work_specs
use Rattle.bosh_work.specs.declared.part.MachineName.{MachineName}
use Rattle.bosh_work.specs.declared.work.Work.{Work}
use Rattle.laws_stands.proofs.MemberLemmas.{inst_is}
use Rattle.laws_stands.specs.GroupsStand.{change_place}
use Rattle.laws_stands.specs.Reading.{dep_of, instance_of, row_of, work_of}
use Rattle.laws_stands.specs.Stands.{AreSwept, StandsIn, StandsInOrder, key_of_slot}
use Rattle.laws_stands.specs.Told.{Told, idle_in, is_going}
use Rattle.laws_stands.specs.WorkStands.{StandsFor}
use Rattle.laws_stands_on.proofs.KeptLemmas.{update_finished}
use Rattle.laws_stands_on.proofs.LinkLemmas.{ListsSame, links_go_on}
use Rattle.laws_stands_on.proofs.ListedLemmas.{SameListed, listed_goes_on, untouched}
use Rattle.laws_stands_on.proofs.NextCallLemmas.{row_by}
use Rattle.laws_stands_on.proofs.TableLemmas.{nat_at, nat_keys, thing_changed}
use Rattle.laws_stands_on.proofs.WorksLemmas.{of_task, of_task_is, of_task_same, works_go_on, works_were}
use Rattle.laws_stands_updates.proofs.InstanceLemmas.{instance_altered, kept_of, part_kept}
use Rattle.laws_stands_on.proofs.TaskLemmas.{dep_recorded}

-- what is said of the instance, where it is recorded
abbrev pub finished_said : Bool → Row → Instance → Instance
finished_said recorded row known = record known { row = if recorded then Some row else known.row }

abbrev noted : Bool → Row → List (Inst × Instance) → List (Inst × Instance)
noted true row instances = altered inst_cmp row.inst (λ known. record known { row = Some row }) instances
noted false row instances = instances

module _ (u : Update) (told : Told) (it : Recorded) (row : Row) (going : is_going told.known u.task ≡ true)
    (dep : (told.known.task u.task).dep ≡ Some u.inst.dep)
    (apart : are_distinct same_inst (told.known.task u.task).changed ≡ true) (own_row : row.inst ≡ u.inst)
    (stands : StandsIn told it) where
  abbrev n : ℕ
  n = u.task

  abbrev i : Inst
  i = u.inst

  abbrev k : Known
  k = told.known

  abbrev t : Task
  t = k.task n

  abbrev recorded : Bool
  recorded = is_among same_inst i k.instances

  abbrev pub told_finished : Told
  told_finished = record told {
    known = record k { row = at same_inst i row k.row; task = at eqb n (update_at Finished i t) k.task };
  }

  -- what is done with the work
  abbrev done : Work → Work
  done work = work_specs.update_finished work (part_of it i).change

  abbrev pub finished : Recorded
  finished = record (update_finished_in u it) { instances = noted recorded row it.instances }

  noted_is : (b : Bool) → with_row_of (if b then Some row else None) (update_finished_in u it)
      ≡ record (update_finished_in u it) { instances = noted b row it.instances }
  noted_is true = refl
  noted_is false = refl

  -- ---- tasks

  -- what the end of an update does not change in a task
  task_same : {X : Type 0} (f : Task → X) → f (update_at Finished i t) ≡ f t → (x : ℕ)
      → f (told_finished.known.task x) ≡ f (k.task x)
  task_same f same x = by (eqb n x) refl
    where
      by : (b : Bool) → eqb n x ≡ b → f (if b then update_at Finished i t else k.task x) ≡ f (k.task x)
      by true is = same ∙ ap (λ n. f (k.task n)) (eqb-true n x is)
      by false is = refl

  going_same : (x : ℕ) → is_going told_finished.known x ≡ is_going k x
  going_same x = task_same (λ it. nat_le 1 x && (nat_le x k.tasks && not (is_some it.end))) refl x

  swept_same : (x : ℕ) (swept : List MachineName) → AreSwept k x swept → AreSwept told_finished.known x swept
  swept_same x swept are = are
      ∙ sym (task_same (λ it. filter (λ (name : SlotName). not (name.task == x) && is_in_deployment k it.dep name)
      k.machines) refl x)

  dep_is : dep_of it n ≡ Some i.dep
  dep_is = dep_recorded told it n stands going ∙ dep

  -- ---- the instance

  instance_is : (x : Inst) → instance_of finished x
      ≡ (if same_inst i x then option_map (finished_said recorded row) (instance_of it x) else instance_of it x)
  instance_is x = by recorded
    where
      same : (b : Bool) (o : Option Instance) → o ≡ (if b then option_map (finished_said false row) o else o)
      same true (Some known) = refl
      same true None = refl
      same false o = refl

      by : (r : Bool) → found inst_cmp (noted r row it.instances) x
          ≡ (if same_inst i x then option_map (finished_said r row) (instance_of it x) else instance_of it x)
      by true =
          (λ j. found inst_cmp (altered inst_cmp (own_row j) (λ known. record known { row = Some row }) it.instances) x)
          ∙ instance_altered i (λ known. record known { row = Some row }) it.instances x
      by false = same (same_inst i x) (instance_of it x)

  rows : (x : Inst) → row_of finished x
      ≡ (if is_among same_inst x k.instances then Some (at same_inst i row k.row x) else None)
  rows x = ap (option_and_then (λ known. known.row)) (instance_is x) ∙ by (same_inst i x) refl
    where
      said : (r : Bool) (o : Option Instance)
          → option_and_then (λ (known : Instance). known.row) o ≡ (if r then Some (k.row i) else None)
          → option_and_then (λ (known : Instance). known.row) (option_map (finished_said r row) o)
          ≡ (if r then Some row else None)
      said true (Some known) is = refl
      said true None is = absurd cc
      said false (Some known) is = is
      said false None is = refl

      by : (b : Bool) → same_inst i x ≡ b
          → option_and_then (λ (known : Instance). known.row)
          (if b then option_map (finished_said recorded row) (instance_of it x) else instance_of it x)
          ≡ (if is_among same_inst x k.instances then Some (at same_inst i row k.row x) else None)
      by true is =
          let same : i ≡ x = inst_is i x is in
          ap (λ x. option_and_then (λ (known : Instance). known.row)
          (option_map (finished_said recorded row) (instance_of it x))) (sym same)
          ∙ said recorded (instance_of it i) (stands.rows i)
          ∙ (λ j. if is_among same_inst (same j) k.instances then Some row else None)
          ∙ (λ j. if is_among same_inst x k.instances then Some (if sym is j then row else k.row x) else None)
      by false other = stands.rows x
          ∙ (λ j. if is_among same_inst x k.instances then Some (if sym other j then row else k.row x) else None)

  -- ---- works

  work_is : (x : ℕ) → work_of finished x ≡ option_map (of_task n done x) (work_of it x)
  work_is x =
      thing_changed nat_cmp nat_keys n done it.works x
      ∙ (λ j. if nat_at n x j then option_map done (work_of it x) else work_of it x)
      ∙ of_task_is n done x (work_of it x)

  same_for : (x : ℕ) (swept : List MachineName) → SameListed told told_finished (k.task x) x swept
  same_for x swept = untouched told told_finished.known refl refl refl refl refl refl (k.task x) x swept

  own_work : (swept : List MachineName) (work : Work) → work_of it n ≡ Some work
      → StandsFor told t n swept work → StandsFor told_finished (update_at Finished i t) n swept (done work)
  own_work swept work is work_stands =
      subst (λ place. StandsFor told_finished (update_at Finished i t) n swept (work_specs.update_finished work place))
      (sym (stands.linked.changes n work i is dep_is ∙ ap (λ changed. change_place changed i) work_stands.changed_are))
      (record {
        task_is = work_stands.task_is;
        pings = work_stands.pings;
        obsolete = work_stands.obsolete;
        disks = work_stands.disks;
        sweep = work_stands.sweep;
        keys = work_stands.keys;
        slots_are = work_stands.slots_are;
        machines_are = work_stands.machines_are;
        changed_are = work_stands.changed_are;
        groups_stand = update_finished t (idle_in told) i apart work.groups work_stands.groups_stand;
        failed_is = work_stands.failed_is;
        open_are = work_stands.open_are;
      })

  each_work : (x : ℕ) (swept : List MachineName) (work : Work) → work_of it x ≡ Some work → is_going k x ≡ true
      → StandsFor told (k.task x) x swept work
      → StandsFor told_finished (told_finished.known.task x) x swept (of_task n done x work)
  each_work x swept work is open_ work_stands = by (eqb n x) refl
    where
      by : (b : Bool) → eqb n x ≡ b
          → StandsFor told_finished (if b then update_at Finished i t else k.task x) x swept
          (if b then done work else work)
      by true same =
          let e : n ≡ x = eqb-true n x same in
          subst (λ x. StandsFor told_finished (update_at Finished i t) x swept (done work)) e
          (own_work swept work (ap (work_of it) e ∙ is)
          (subst (λ x. StandsFor told (k.task x) x swept work) (sym e) work_stands))
      by false other = listed_goes_on told told_finished (k.task x) x swept work (same_for x swept) work_stands

  keeps : (w : Work) → ListsSame (done w) w
  keeps w = record { pings = refl; obsolete = refl; changed = refl; sweep = refl; disks = refl }

  -- no update is told to have failed
  updates_told : (x : ℕ) (y : Inst) → is_finished ((told_finished.known.task x).upd y)
      ≡ (not (is_waiting ((told_finished.known.task x).upd y)) && not (is_busy ((told_finished.known.task x).upd y)))
  updates_told x y = by (eqb n x)
    where
      own : (b : Bool) → is_finished (if b then Finished else t.upd y)
          ≡ (not (is_waiting (if b then Finished else t.upd y)) && not (is_busy (if b then Finished else t.upd y)))
      own true = refl
      own false = stands.tells_well.updates n y

      by : (b : Bool) → is_finished ((if b then update_at Finished i t else k.task x).upd y)
          ≡ (not (is_waiting ((if b then update_at Finished i t else k.task x).upd y))
          && not (is_busy ((if b then update_at Finished i t else k.task x).upd y)))
      by true = own (same_inst i y)
      by false = stands.tells_well.updates x y

  -- ---- all

  pub finished_stands : StandsInOrder told_finished finished
  finished_stands = λ ordered. record {
    uploads = stands.uploads;
    deployments = stands.deployments;
    rows = rows;
    row_calls = λ x. kept_of i (finished_said recorded row) it.instances finished.instances instance_is
        (λ known. known.call) (λ known. refl) x ∙ stands.row_calls x;
    machines = stands.machines;
    machine_keys = λ name later. stands.machine_keys name later
        ∙ sym (task_same
        (λ (it : Task). option_and_then
        (λ key. first_marked (map (λ work. same_key work.key key) (keys_of it.goal)))
        (key_of_slot (k.slot name.task name.slot))) refl name.task);
    machine_calls = stands.machine_calls;
    orphans = stands.orphans;
    orphan_calls = stands.orphan_calls;
    digests = stands.digests;
    compiling = stands.compiling;
    tasks = λ x. stands.tasks x
        ∙ sym (task_same (λ (it : Task). if nat_le 1 x && nat_le x k.tasks then Some (row_by x it) else None) refl x);
    calls = stands.calls;
    works = works_go_on told told_finished it finished (of_task n done) (record {
      going = going_same;
      snapped = refl;
      works = work_is;
      stands = each_work;
      swept = swept_same;
    }) stands.works;
    linked = links_go_on it finished (record {
      wants = kept_of i (finished_said recorded row) it.instances finished.instances instance_is
          (λ known. known.want) (λ known. refl);
      goals = λ dep. refl;
      parts = part_kept i (finished_said recorded row) it.instances finished.instances instance_is (λ known. refl);
      deps = λ x. refl;
      works = works_were it finished (of_task n done) work_is (of_task_same n done keeps);
      machines = λ name. refl;
      orphans = λ d. refl;
    }) stands.linked;
    ordered = ordered;
    tells_well = record {
      number = stands.tells_well.number;
      low = stands.tells_well.low;
      past = stands.tells_well.past;
      begun = stands.tells_well.begun;
      begun_past = stands.tells_well.begun_past;
      failed = λ x failure is. stands.tells_well.failed x failure (sym (task_same (λ it. it.failed) refl x) ∙ is);
      going = λ c b is. going_same b.task ∙ stands.tells_well.going c b is;
      one_owner = stands.tells_well.one_owner;
      one_key = stands.tells_well.one_key;
      recorded = stands.tells_well.recorded;
      counted = λ x c is. stands.tells_well.counted x c (sym (task_same (λ it. it.calls) refl x) ∙ is);
      disks_apart = λ x. task_same (λ it. are_distinct eqb it.disks) refl x ∙ stands.tells_well.disks_apart x;
      updates = updates_told;
    };
  }

  -- .. as it is noted
  pub after_finished : StandsInOrder told_finished
      (with_row_of (if recorded then Some row else None) (update_finished_in u it))
  after_finished = subst (StandsInOrder told_finished) (sym (noted_is recorded)) finished_stands
