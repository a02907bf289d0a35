-- An instance leaves, and has nothing left.
use Rattle.std.proofs.Common.{◌≡◌, ◌∙◌, ℕ, Bool, true, false, ◌&&◌, ◌||◌, not, List, [], ◌∷◌, ◌==◌, Option, Some, None}
use Rattle.std.proofs.Common.{ap, refl, sym, subst}
use Rattle.std.specs.Prelude.{eqb, filter, is_some, map, nat_le, if◌then◌else◌}
use Rattle.std.specs.Option.{option_and_then, option_map}
use Rattle.std.specs.Ordering.{nat_cmp}
use Rattle.std.proofs.lemmas.Bool.{eqb-true, false≢true, true≢false}
use Rattle.bosh_base.specs.declared.entry.Begin.{Begin}
use Rattle.bosh_base.specs.declared.entry.Update.{Update}
use Rattle.bosh_base.specs.declared.inst.Inst.{Inst}
use Rattle.bosh_base.specs.declared.owner.Owner.TheVariants.{Instance as AnInstance}
use Rattle.bosh_compile.specs.Readiness.{same_key}
use Rattle.bosh_fold.specs.Updates.{left_in}
use Rattle.bosh_history.specs.Goals.{is_waiting}
use Rattle.bosh_history.specs.Items.{is_finished, is_in_deployment}
use Rattle.bosh_history.specs.Known.{Known, SlotName, Task}
use Rattle.bosh_history.specs.Slots.{keys_of}
use Rattle.bosh_history.specs.Words.{at, holds, is_among, without}
use Rattle.bosh_progress.specs.Tree.{first_marked}
use Rattle.bosh_records.specs.Changes.{with_left}
use Rattle.bosh_records.specs.Places.{part_of}
use Rattle.bosh_records.specs.Recorded.{Recorded}
use Rattle.bosh_records.specs.declared.instances.Instance.{Instance}
use Rattle.bosh_roll.specs.Upd.{is_busy}
use Rattle.bosh_rows.proofs.SameLemmas.{itself}
use Rattle.bosh_rows.specs.After.{bare}
use Rattle.bosh_rows.specs.Same.{same_inst, same_owner}
use Rattle.bosh_rows.specs.SoundSnapshot.{are_distinct}
use Rattle.bosh_work.specs.Line.{finished_line}
use Rattle.bosh_work.specs.declared.line.Line.{Line}
use Rattle.bosh_work.specs.declared.part.MachineName.{MachineName}
use Rattle.bosh_work.specs.declared.work.Work.{Work}
use Rattle.laws_stands.proofs.LineLemmas.{stands_finished}
use Rattle.laws_stands.proofs.MarkLemmas.{one_more}
use Rattle.laws_stands.proofs.MemberLemmas.{inst_is}
use Rattle.laws_stands.specs.GroupsStand.{names_of}
use Rattle.laws_stands.specs.LineStands.{place_of}
use Rattle.laws_stands.specs.Reading.{dep_of, instance_of, row_of, work_of}
use Rattle.laws_stands.specs.Stands.{AreSwept, StandsIn, StandsInOrder, key_of_slot}
use Rattle.laws_stands.specs.Told.{Told, idle_in, is_going}
use Rattle.laws_stands.specs.WorkStands.{StandsFor}
use Rattle.laws_stands_on.proofs.CallLemmas.{all_numbered}
use Rattle.laws_stands_on.proofs.LinkLemmas.{ListsSame, links_go_on}
use Rattle.laws_stands_on.proofs.ListedLemmas.{SameListed, listed_goes_on, untouched}
use Rattle.laws_stands_on.proofs.NextCallLemmas.{row_by}
use Rattle.laws_stands.proofs.SameGroupLemmas.{groups_as}
use Rattle.laws_stands_on.proofs.TableLemmas.{nat_at, nat_keys, thing_changed}
use Rattle.laws_stands_on.proofs.WorksLemmas.{of_task, of_task_is, of_task_same, works_go_on, works_were}
use Rattle.laws_stands_updates.proofs.InstanceLemmas.{instance_altered, kept_of, part_kept}
use Rattle.laws_stands_on.proofs.TaskLemmas.{dep_recorded}

-- an instance that goes is among no others
among_without : (i x : Inst) (xs : List Inst)
    → is_among same_inst x (without same_inst i xs) ≡ (if same_inst i x then false else is_among same_inst x xs)
among_without i x [] = by (same_inst i x)
  where
    by : (b : Bool) → false ≡ (if b then false else false)
    by true = refl
    by false = refl
among_without i x (y ∷ xs) = by (same_inst i y) (same_inst i x) (same_inst x y) refl refl refl (among_without i x xs)
  where
    by : (a b c : Bool) → same_inst i y ≡ a → same_inst i x ≡ b → same_inst x y ≡ c
        → is_among same_inst x (without same_inst i xs) ≡ (if same_inst i x then false else is_among same_inst x xs)
        → is_among same_inst x (if a then without same_inst i xs else y ∷ without same_inst i xs)
        ≡ (if b then false else c || is_among same_inst x xs)
    by true true c at own same more = more ∙ (λ j. if own j then false else is_among same_inst x xs)
    by true false true at other same more =
        absurd (false≢true (sym other ∙ ap (same_inst i) (inst_is x y same) ∙ at))
    by true false false at other away more = more ∙ (λ j. if other j then false else is_among same_inst x xs)
    by false true true away own same more =
        absurd (true≢false (sym (ap (λ z. same_inst z y) (inst_is i x own) ∙ same) ∙ away))
    by false true false away own other more =
        (λ j. other j || more j) ∙ (λ j. if own j then false else is_among same_inst x xs)
    by false false c away other is more =
        (λ j. is j || more j) ∙ (λ j. c || (if other j then false else is_among same_inst x xs))

module _ (u : Update) (told : Told) (it : Recorded) (going : is_going told.known u.task ≡ true)
    (dep : (told.known.task u.task).dep ≡ Some u.inst.dep)
    (apart : are_distinct same_inst (told.known.task u.task).obsolete ≡ true) (idle : idle_in told u.inst ≡ true)
    (stands : StandsIn told it) where
  abbrev n : ℕ
  n = u.task

  abbrev i : Inst
  i = u.inst

  abbrev k : Known
  k = told.known

  abbrev t : Task
  t = k.task n

  abbrev task_now : Task
  task_now = record t { gone = at same_inst i true t.gone }

  abbrev pub told_gone : Told
  told_gone = record told {
    known = record k {
      instances = without same_inst i k.instances;
      row = at same_inst i (bare i) k.row;
      task = at eqb n task_now k.task;
    };
  }

  abbrev gone : Work → Work
  gone work = with_left (part_of it i).leaving work

  abbrev said : Instance → Instance
  said known = record known { row = None }

  abbrev left : Recorded
  left = left_in u it

  -- ---- tasks

  task_same : {X : Type 0} (f : Task → X) → f task_now ≡ f t → (x : ℕ) → f (told_gone.known.task x) ≡ f (k.task x)
  task_same f same x = by (eqb n x) refl
    where
      by : (b : Bool) → eqb n x ≡ b → f (if b then task_now else k.task x) ≡ f (k.task x)
      by true is = same ∙ ap (λ n. f (k.task n)) (eqb-true n x is)
      by false is = refl

  going_same : (x : ℕ) → is_going told_gone.known x ≡ is_going k x
  going_same x = task_same (λ it. nat_le 1 x && (nat_le x k.tasks && not (is_some it.end))) refl x

  swept_same : (x : ℕ) (swept : List MachineName) → AreSwept k x swept → AreSwept told_gone.known x swept
  swept_same x swept are = are
      ∙ sym (task_same (λ it. filter (λ (name : SlotName). not (name.task == x) && is_in_deployment k it.dep name)
      k.machines) refl x)

  dep_is : dep_of it n ≡ Some i.dep
  dep_is = dep_recorded told it n stands going ∙ dep

  -- ---- the instance

  instance_is : (x : Inst) → instance_of left x
      ≡ (if same_inst i x then option_map said (instance_of it x) else instance_of it x)
  instance_is = instance_altered i said it.instances

  rows : (x : Inst) → row_of left x
      ≡ (if is_among same_inst x (without same_inst i k.instances) then Some (at same_inst i (bare i) k.row x)
      else None)
  rows x = ap (option_and_then (λ known. known.row)) (instance_is x) ∙ by (same_inst i x) refl
    where
      none : (o : Option Instance) → option_and_then (λ (known : Instance). known.row) (option_map said o) ≡ None
      none (Some known) = refl
      none None = refl

      by : (b : Bool) → same_inst i x ≡ b
          → option_and_then (λ (known : Instance). known.row)
          (if b then option_map said (instance_of it x) else instance_of it x)
          ≡ (if is_among same_inst x (without same_inst i k.instances) then Some (at same_inst i (bare i) k.row x)
          else None)
      by true is = none (instance_of it x)
          ∙ (λ j. if sym (among_without i x k.instances
          ∙ (λ l. if is l then false else is_among same_inst x k.instances)) j
          then Some (at same_inst i (bare i) k.row x) else None)
      by false other = stands.rows x
          ∙ (λ j. if sym (among_without i x k.instances
          ∙ (λ l. if other l then false else is_among same_inst x k.instances)) j
          then Some (if sym other j then bare i else k.row x) else None)

  -- ---- works

  work_is : (x : ℕ) → work_of left x ≡ option_map (of_task n gone x) (work_of it x)
  work_is x =
      thing_changed nat_cmp nat_keys n gone it.works x
      ∙ (λ j. if nat_at n x j then option_map gone (work_of it x) else work_of it x)
      ∙ of_task_is n gone x (work_of it x)

  same_for : (x : ℕ) (swept : List MachineName) → SameListed told told_gone (k.task x) x swept
  same_for x swept = untouched told told_gone.known refl refl refl refl refl refl (k.task x) x swept

  left_as : (x : Inst) → not (at same_inst i true t.gone x) ≡ at same_inst i false (λ x. not (t.gone x)) x
  left_as x = by (same_inst i x)
    where
      by : (b : Bool) → not (if b then true else t.gone x) ≡ (if b then false else not (t.gone x))
      by true = refl
      by false = refl

  own_work : (swept : List MachineName) (work : Work) → work_of it n ≡ Some work
      → StandsFor told t n swept work → StandsFor told_gone task_now n swept (gone work)
  own_work swept work is work_stands =
      subst (λ place. StandsFor told_gone task_now n swept (with_left place work))
      (sym (stands.linked.leaving n work i is dep_is ∙ ap (place_of same_inst i) (work_stands.obsolete).items_are))
      (record {
        task_is = work_stands.task_is;
        pings = work_stands.pings;
        obsolete = stands_finished same_inst inst_is t.obsolete i
            (one_more same_inst inst_is t.obsolete apart i) (λ x. not (t.gone x)) (idle_in told)
            (λ x. not (at same_inst i true t.gone x)) (idle_in told) work.obsolete left_as (λ x. refl)
            work_stands.obsolete;
        disks = work_stands.disks;
        sweep = work_stands.sweep;
        keys = work_stands.keys;
        slots_are = work_stands.slots_are;
        machines_are = work_stands.machines_are;
        changed_are = work_stands.changed_are;
        groups_stand = groups_as t (idle_in told) t.pinged (at same_inst i true t.gone) t.failed t.calls t.end
            (names_of t.changed) work.groups work_stands.groups_stand;
        failed_is = work_stands.failed_is;
        open_are = work_stands.open_are;
      })

  each_work : (x : ℕ) (swept : List MachineName) (work : Work) → work_of it x ≡ Some work → is_going k x ≡ true
      → StandsFor told (k.task x) x swept work
      → StandsFor told_gone (told_gone.known.task x) x swept (of_task n gone x work)
  each_work x swept work is open_ work_stands = by (eqb n x) refl
    where
      by : (b : Bool) → eqb n x ≡ b
          → StandsFor told_gone (if b then task_now else k.task x) x swept (if b then gone work else work)
      by true same =
          let e : n ≡ x = eqb-true n x same in
          subst (λ x. StandsFor told_gone task_now x swept (gone work)) e
          (own_work swept work (ap (work_of it) e ∙ is)
          (subst (λ x. StandsFor told (k.task x) x swept work) (sym e) work_stands))
      by false other = listed_goes_on told told_gone (k.task x) x swept work (same_for x swept) work_stands

  lines_finished : {T : Type 0} (line : Line T) (o : Option ℕ) → (finished_line line o).items ≡ line.items
  lines_finished line None = refl
  lines_finished line (Some place) = refl

  keeps : (w : Work) → ListsSame (gone w) w
  keeps w = record {
    pings = refl;
    obsolete = lines_finished w.obsolete (part_of it i).leaving;
    changed = refl;
    sweep = refl;
    disks = refl;
  }

  -- the instance has no open call, and the others are recorded still
  recorded_still : (c : ℕ) (b : Begin) (x : Inst) → told.calls c ≡ Some b → b.owner ≡ AnInstance x
      → is_among same_inst x (without same_inst i k.instances) ≡ true
  recorded_still c b x is own = among_without i x k.instances ∙ by (same_inst i x) refl
    where
      by : (t : Bool) → same_inst i x ≡ t → (if t then false else is_among same_inst x k.instances) ≡ true
      by false other = stands.tells_well.recorded c b x is own
      by true same =
          let e : AnInstance i ≡ b.owner = ap AnInstance (inst_is i x same) ∙ sym own in
          absurd (false≢true
          (sym (ap (λ o. not (holds (λ (d : Begin). same_owner (AnInstance i) d.owner) o)) is
          ∙ (λ j. not (same_owner (AnInstance i) (sym e j))) ∙ ap not (itself i))
          ∙ all_numbered (λ c. not (holds (λ (d : Begin). same_owner (AnInstance i) d.owner) (told.calls c))) k.last_call c
          (stands.tells_well.low c b is) (stands.tells_well.past c b is) idle))

  -- ---- all

  pub gone_stands : StandsInOrder told_gone (left_in u it)
  gone_stands = λ ordered. record {
    uploads = stands.uploads;
    deployments = stands.deployments;
    rows = rows;
    row_calls = λ x. kept_of i said it.instances left.instances instance_is (λ known. known.call) (λ known. refl) x
        ∙ stands.row_calls x;
    machines = stands.machines;
    machine_keys = λ name later. stands.machine_keys name later
        ∙ sym (task_same
        (λ (it : Task). option_and_then
        (λ key. first_marked (map (λ work. same_key work.key key) (keys_of it.goal)))
        (key_of_slot (k.slot name.task name.slot))) refl name.task);
    machine_calls = stands.machine_calls;
    orphans = stands.orphans;
    orphan_calls = stands.orphan_calls;
    digests = stands.digests;
    compiling = stands.compiling;
    tasks = λ x. stands.tasks x
        ∙ sym (task_same (λ (it : Task). if nat_le 1 x && nat_le x k.tasks then Some (row_by x it) else None) refl x);
    calls = stands.calls;
    works = works_go_on told told_gone it left (of_task n gone) (record {
      going = going_same;
      snapped = refl;
      works = work_is;
      stands = each_work;
      swept = swept_same;
    }) stands.works;
    linked = links_go_on it left (record {
      wants = kept_of i said it.instances left.instances instance_is (λ known. known.want) (λ known. refl);
      goals = λ dep. refl;
      parts = part_kept i said it.instances left.instances instance_is (λ known. refl);
      deps = λ x. refl;
      works = works_were it left (of_task n gone) work_is (of_task_same n gone keeps);
      machines = λ name. refl;
      orphans = λ d. refl;
    }) stands.linked;
    ordered = ordered;
    tells_well = record {
      number = stands.tells_well.number;
      low = stands.tells_well.low;
      past = stands.tells_well.past;
      begun = stands.tells_well.begun;
      begun_past = stands.tells_well.begun_past;
      failed = λ x failure is. stands.tells_well.failed x failure (sym (task_same (λ it. it.failed) refl x) ∙ is);
      going = λ c b is. going_same b.task ∙ stands.tells_well.going c b is;
      one_owner = stands.tells_well.one_owner;
      one_key = stands.tells_well.one_key;
      recorded = recorded_still;
      counted = λ x c is. stands.tells_well.counted x c (sym (task_same (λ it. it.calls) refl x) ∙ is);
      disks_apart = λ x. task_same (λ it. are_distinct eqb it.disks) refl x ∙ stands.tells_well.disks_apart x;
      updates = λ x y. task_same (λ it. is_finished (it.upd y)) refl x ∙ stands.tells_well.updates x y
          ∙ sym (task_same (λ it. not (is_waiting (it.upd y)) && not (is_busy (it.upd y))) refl x);
    };
  }
