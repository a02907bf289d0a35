-- A call of an instance ends.
use Rattle.std.proofs.Common.{◌≡◌, ◌∙◌, ℕ, Bool, true, false, ◌&&◌, not, List, ◌==◌}
use Rattle.std.proofs.Common.{filter, map, Option, Some, None, ap, refl, sym, subst}
use Rattle.std.specs.Prelude.{eqb, nat_le, slice_get, if◌then◌else◌}
use Rattle.std.specs.Option.{option_and_then, option_map, option_map_or}
use Rattle.std.specs.Ordering.{nat_cmp}
use Rattle.std.proofs.lemmas.Bool.{eq-eqb, eqb-true}
use Rattle.bosh_base.specs.Cloud.{numbers_to}
use Rattle.bosh_base.specs.Inst.{inst_cmp}
use Rattle.bosh_base.specs.declared.answer.Answer.{Answer}
use Rattle.bosh_base.specs.declared.call.Call.{Call}
use Rattle.bosh_base.specs.declared.entry.Begin.{Begin}
use Rattle.bosh_base.specs.declared.entry.End.{End}
use Rattle.bosh_base.specs.declared.entry.Entry.TheVariants as entries
use Rattle.bosh_base.specs.declared.inst.Inst.{Inst}
use Rattle.bosh_base.specs.declared.owner.Owner.TheVariants.{Compile, Disk, Instance}
use Rattle.bosh_base.specs.declared.row.Row.{Row}
use Rattle.bosh_base.specs.declared.task.TaskEnd.{TaskEnd}
use Rattle.bosh_compile.specs.Readiness.{same_key}
use Rattle.bosh_fold.specs.Calls.{closed_call, ended_by, ended_in, failed_in, given_by}
use Rattle.bosh_fold.specs.Calls.{pinged_by, with_call, with_row}
use Rattle.bosh_history.specs.Calls as known_calls
use Rattle.bosh_history.specs.Calls.{call_ended, least_failure, task_told}
use Rattle.bosh_history.specs.Items.{is_in_deployment}
use Rattle.bosh_history.specs.Known.{Known, SlotName, Task}
use Rattle.bosh_history.specs.Slots.{keys_of}
use Rattle.bosh_history.specs.Steps.{compiles}
use Rattle.bosh_history.specs.Words.{at, holds, is_among}
use Rattle.bosh_plan.specs.Ended as planned
use Rattle.bosh_plan.specs.Ended.{ended_of, is_told}
use Rattle.bosh_plan.specs.declared.ending.After.TheVariants as afters
use Rattle.bosh_plan.specs.declared.ending.Ended.{Ended}
use Rattle.bosh_progress.specs.Tree.{first_marked}
use Rattle.bosh_records.specs.Changes.{with_pinged}
use Rattle.bosh_records.specs.Places.{part_of, places_in}
use Rattle.bosh_records.specs.Readers.{row_at}
use Rattle.bosh_records.specs.Recorded.{Recorded}
use Rattle.bosh_records.specs.Table.{altered, changed, found, without}
use Rattle.bosh_records.specs.declared.instances.Instance as instances
use Rattle.bosh_records.specs.declared.records.Records.{Records}
use Rattle.bosh_rows.specs.After.{after}
use Rattle.bosh_rows.specs.Same.{same_inst, same_owner}
use Rattle.bosh_work.specs.Line.{given_line}
use Rattle.bosh_work.specs.Part.{no_part}
use Rattle.bosh_work.specs.Work.{failed_by, given}
use Rattle.bosh_work.specs.declared.part.MachineName.{MachineName}
use Rattle.bosh_work.specs.declared.part.Places.{Places}
use Rattle.bosh_work.specs.declared.work.Work.{Work}
use Rattle.laws_stands.proofs.MemberLemmas.{inst_is}
use Rattle.laws_stands.proofs.PremiseLemmas.{none_at}
use Rattle.laws_stands.specs.Reading.{dep_of, instance_of, row_of, work_of}
use Rattle.laws_stands.specs.Stands.{AreSwept, IsWork, Stands, StandsIn, StandsInOrder, call_of, key_of_slot}
use Rattle.laws_stands.specs.Told.{TellsWell, Told, idle_in, is_going, is_idle, telling}
use Rattle.laws_stands.specs.WorkStands.{StandsFor, asked_line, asks, end_of, places_of}
use Rattle.laws_stands_on.proofs.BegunLemmas.{none_compiled}
use Rattle.laws_stands_on.proofs.FindLemmas.{any_within, none_is_found}
use Rattle.laws_stands_on.proofs.KeyLemmas.{inst_at, inst_keys}
use Rattle.laws_stands_on.proofs.LinkLemmas.{changed_work, links_go_on}
use Rattle.laws_stands_on.proofs.ListedLemmas.{SameListed, listed_goes_on}
use Rattle.laws_stands_on.proofs.TableLemmas.{found_altered}
use Rattle.laws_stands_on.proofs.CallLemmas.{inst_flip}
use Rattle.laws_stands_on.proofs.NextCallLemmas.{row_by}
use Rattle.laws_stands.proofs.OrderLemmas.{once_of}
use Rattle.laws_stands_on.proofs.OnlyCallLemmas as only_call
use Rattle.laws_stands_on.proofs.WorkLemmas.{after_call_ended, after_ping}
use Rattle.laws_stands_on.specs.Allows.{AllowsEnd}
use Rattle.laws_stands_on.proofs.AnsweredLemmas.{ended_as, ended_work, ends_same, none_built}
use Rattle.laws_stands_on.proofs.AnsweredLemmas.{none_known, pinged_as, takes_as, takes_ping}
use Rattle.laws_stands_on.proofs.TaskLemmas.{dep_recorded, part_listed}

module _ (told : Told) (was : Records) (it : Recorded) (n number worker : ℕ) (call : Call) (answer : Answer)
    (i : Inst)
    (allows : AllowsEnd told (record { n = number; task = n; worker = worker; owner = Instance i; call = call })
    answer i)
    (stood : Stands told was) (stands : StandsIn told it) where
  abbrev b : Begin
  b = record { n = number; task = n; worker = worker; owner = Instance i; call = call }

  abbrev e : End
  e = record { n = number; answer = answer }

  abbrev k : Known
  k = told.known

  -- the call is open
  only : told.calls number ≡ Some b
  only = allows.is_open

  -- .. and no other is its instance's
  only_one : (c : ℕ) (d : Begin) → told.calls c ≡ Some d → same_owner d.owner (Instance i) ≡ true → c ≡ number
  only_one c d there same = stands.tells_well.one_owner c number d b there only same

  recorded : is_among same_inst i k.instances ≡ true
  recorded = stands.tells_well.recorded number b i only refl

  -- its row
  abbrev row : Row
  row = after number call answer (k.row i)

  abbrev pinged : Inst → Bool
  pinged = if asks call answer then at same_inst i true (k.task n).pinged else (k.task n).pinged

  -- its task
  abbrev task_now : Task
  task_now = record (k.task n) {
    pinged = pinged;
    failed =
        least_failure (k.task n).failed (known_calls.failure_of k b answer);
  }

  -- what is told once the call ended
  abbrev new : Told
  new = record {
    known = record k { row = at same_inst i row k.row; task = at eqb n task_now k.task };
    calls = at eqb number None told.calls;
    snapped = told.snapped;
  }

  told_is : telling told (entries.End e) ≡ new
  told_is = λ j. record { known = known_is j; calls = at eqb number None told.calls; snapped = told.snapped }
    where
      known_is : call_ended answer (k.begun number) k ≡ new.known
      known_is =
          ap (λ o. call_ended answer o k) (only_call.has_begun told it b answer pinged only stands)
          ∙ (λ j. record (none_known call answer (record k { row = at same_inst i row k.row }) allows.compiles_none
          j) { task = at eqb n (task_told k b answer (k.task n)) k.task })
          ∙ (λ j. record k {
            row = at same_inst i row k.row;
            task = at eqb n (record (after_ping call answer i (k.task n) j) {
              failed =
                  least_failure (k.task n).failed (known_calls.failure_of k b answer);
            }) k.task;
          })

  -- ---- what is planned

  row_there : row_at was i ≡ Some (k.row i)
  row_there = stood.rows i ∙ (λ j. if recorded j then Some (k.row i) else None)

  abbrev fail : Option TaskEnd
  fail = planned.failure_of was answer b

  abbrev plan : Ended
  plan = record {
    n = number;
    after = Some (afters.Instance row);
    failed = fail;
    built = planned.built_by answer;
    is_asked = is_told answer;
  }

  plan_is : ended_of was e ≡ plan
  plan_is = λ j. record {
    n = number;
    after = (ap (option_and_then (planned.after_by was answer)) (stood.calls number ∙ allows.is_open)
        ∙ ap (option_map (λ (row : Row). afters.Instance (after number call answer row))) row_there) j;
    failed = ap (option_and_then (planned.failure_of was answer)) (stood.calls number ∙ allows.is_open) j;
    built = planned.built_by answer;
    is_asked = is_told answer;
  }

  -- ---- what is learned

  abbrev closed : Recorded
  closed = with_call (Instance i) None (record it { calls = without nat_cmp number it.calls })

  abbrev places : Places
  places = places_in closed (Instance i)

  abbrev asked : Bool
  asked = takes_ping call (is_told answer)

  abbrev ended : Recorded
  ended = with_row row (record closed {
    works = changed nat_cmp n (λ work. failed_by work fail)
        (if asked then changed nat_cmp n (with_pinged places.part.ping)
        (changed nat_cmp n (λ work. given work places) it.works)
        else changed nat_cmp n (λ work. given work places) it.works);
  })

  ended_is : ended_in plan it ≡ ended
  ended_is =
      ap (λ o. ended_by o plan (record it { calls = without nat_cmp number it.calls })) (stands.calls number
      ∙ allows.is_open)
      ∙ none_built call (planned.built_by answer)
      (with_row row
      (failed_in n fail
      (pinged_by (is_told answer) b
      (given_by n (Instance i) (closed_call b (record it { calls = without nat_cmp number it.calls }))))))
      allows.compiles_none
      ∙ (λ j. with_row row
      (failed_in n fail
      (pinged_by (is_told answer) b
      (given_by n (Instance i) (none_compiled call None closed allows.compiles_none j)))))
      ∙ (λ j. with_row row
      (failed_in n fail (pinged_as (is_told answer) b call (given_by n (Instance i) closed) j)))

  -- ---- the instance

  abbrev said : instances.Instance → instances.Instance
  said known = record known { row = Some row; call = None }

  instance_is : (x : Inst) → instance_of ended x
      ≡ (if same_inst i x then option_map said (instance_of it x) else instance_of it x)
  instance_is x =
      (λ j. found inst_cmp (altered inst_cmp (allows.own_row j) (λ known. record known { row = Some row })
      (altered inst_cmp i (λ known. record known { call = None }) it.instances)) x)
      ∙ found_altered inst_cmp inst_keys i (λ known. record known { row = Some row })
      (altered inst_cmp i (λ known. record known { call = None }) it.instances) x
      ∙ (λ j. if inst_at i x j then option_map (λ (known : instances.Instance). record known { row = Some row })
      (inner j) else inner j)
      ∙ by (same_inst i x) (instance_of it x)
    where
      inner : found inst_cmp (altered inst_cmp i (λ known. record known { call = None }) it.instances) x
          ≡ (if same_inst i x then option_map (λ (known : instances.Instance). record known { call = None })
          (instance_of it x) else instance_of it x)
      inner =
          found_altered inst_cmp inst_keys i (λ known. record known { call = None }) it.instances x
          ∙ (λ j. if inst_at i x j then option_map (λ (known : instances.Instance). record known { call = None })
          (instance_of it x) else instance_of it x)

      by : (b : Bool) (o : Option instances.Instance)
          → (if b then option_map (λ (known : instances.Instance). record known { row = Some row })
          (if b then option_map (λ (known : instances.Instance). record known { call = None }) o else o)
          else (if b then option_map (λ (known : instances.Instance). record known { call = None }) o else o))
          ≡ (if b then option_map said o else o)
      by true (Some known) = refl
      by true None = refl
      by false o = refl

  kept_of : {X : Type 0} (read : instances.Instance → Option X) → ((known : instances.Instance) → read (said known)
      ≡ read known) → (x : Inst)
      → option_and_then read (instance_of ended x) ≡ option_and_then read (instance_of it x)
  kept_of read same x = ap (option_and_then read) (instance_is x) ∙ by (same_inst i x) (instance_of it x)
    where
      by : (b : Bool) (o : Option instances.Instance) → option_and_then read (if b then option_map said o else o)
          ≡ option_and_then read o
      by true (Some known) = same known
      by true None = refl
      by false o = refl

  part_with : (it' : Recorded) (change : instances.Instance → instances.Instance)
      → ((known : instances.Instance) → (change known).part ≡ known.part) → (x : Inst)
      → instance_of it' x ≡ (if same_inst i x then option_map change (instance_of it x) else instance_of it x)
      → part_of it' x ≡ part_of it x
  part_with it' change same x is = ap (λ o. option_map_or (λ (known : instances.Instance). known.part) o no_part) is
      ∙ by (same_inst i x) (instance_of it x)
    where
      by : (b : Bool) (o : Option instances.Instance)
          → option_map_or (λ (known : instances.Instance). known.part) (if b then option_map change o
          else o) no_part ≡ option_map_or (λ (known : instances.Instance). known.part) o no_part
      by true (Some known) = same known
      by true None = refl
      by false o = refl

  part_is : (x : Inst) → part_of ended x ≡ part_of it x
  part_is x = part_with ended said (λ known. refl) x (instance_is x)

  closed_part : part_of closed i ≡ part_of it i
  closed_part = part_with closed (λ known. record known { call = None }) (λ known. refl) i
      (found_altered inst_cmp inst_keys i (λ known. record known { call = None }) it.instances i
      ∙ (λ j. if inst_at i i j then option_map (λ (known : instances.Instance). record known { call = None })
      (instance_of it i) else instance_of it i))

  rows : (x : Inst) → row_of ended x ≡ (if is_among same_inst x k.instances then Some (at same_inst i row k.row x)
      else None)
  rows x = ap (option_and_then (λ known. known.row)) (instance_is x) ∙ by (same_inst i x) refl
    where
      recorded_some : (o : Option instances.Instance)
          → option_and_then (λ (known : instances.Instance). known.row) o ≡ Some (k.row i)
          → option_and_then (λ (known : instances.Instance). known.row) (option_map said o) ≡ Some row
      recorded_some (Some known) is = refl
      recorded_some None is = absurd cc

      by : (t : Bool) → same_inst i x ≡ t
          → option_and_then (λ (known : instances.Instance). known.row)
          (if same_inst i x then option_map said (instance_of it x) else instance_of it x)
          ≡ (if is_among same_inst x k.instances then Some (at same_inst i row k.row x) else None)
      by true is =
          let same : i ≡ x = inst_is i x is in
          (λ j. option_and_then (λ (known : instances.Instance). known.row)
          (if is j then option_map said (instance_of it x) else instance_of it x))
          ∙ ap (λ x. option_and_then (λ (known : instances.Instance). known.row)
          (option_map said (instance_of it x))) (sym same)
          ∙ recorded_some (instance_of it i) (stands.rows i
          ∙ (λ j. if recorded j then Some (k.row i) else None))
          ∙ (λ j. if sym (ap (λ x. is_among same_inst x k.instances) (sym same) ∙ recorded) j
          then Some (if sym is j then row else k.row x) else None)
      by false other =
          (λ j. option_and_then (λ (known : instances.Instance). known.row)
          (if other j then option_map said (instance_of it x) else instance_of it x))
          ∙ stands.rows x
          ∙ (λ j. if is_among same_inst x k.instances then Some (if sym other j then row else k.row x) else None)

  -- ---- open calls

  row_calls : (x : Inst) → option_and_then (λ known. known.call) (instance_of ended x) ≡ call_of new (Instance x)
  row_calls x = ap (option_and_then (λ known. known.call)) (instance_is x) ∙ by (same_inst i x) refl
    where
      none : (o : Option instances.Instance) → option_and_then (λ (known : instances.Instance). known.call)
          (option_map said o) ≡ None
      none (Some known) = refl
      none None = refl

      by : (t : Bool) → same_inst i x ≡ t
          → option_and_then (λ (known : instances.Instance). known.call)
          (if same_inst i x then option_map said (instance_of it x) else instance_of it x)
          ≡ call_of new (Instance x)
      by true is =
          (λ j. option_and_then (λ (known : instances.Instance). known.call)
          (if is j then option_map said (instance_of it x) else instance_of it x))
          ∙ none (instance_of it x)
          ∙ sym (none_is_found (λ c. holds (λ (d : Begin). same_owner (Instance x) d.owner)
          (at eqb number None told.calls c)) (numbers_to k.last_call)
          (only_call.idle_as told it b answer pinged only stands (Instance x) ∙ (λ j. if (inst_flip i x
          ∙ is) j then true else is_idle told (Instance x))))
      by false other =
          (λ j. option_and_then (λ (known : instances.Instance). known.call)
          (if other j then option_map said (instance_of it x) else instance_of it x))
          ∙ stands.row_calls x ∙ sym (only_call.other_calls told it b answer pinged only stands (Instance x)
          (inst_flip i x ∙ other))

  -- ---- tasks and works

  swept_same : (t : ℕ) (swept : List MachineName) → AreSwept k t swept → AreSwept new.known t swept
  swept_same t swept are = are
      ∙ sym (only_call.task_same told it b answer pinged only stands (λ it. filter
      (λ (name : SlotName). not (name.task == t) && is_in_deployment k it.dep name)
      k.machines) refl t)

  work_is : (t : ℕ) → work_of ended t ≡ (if eqb n t then option_map (ended_work asked places fail) (work_of it t)
      else work_of it t)
  work_is t = only_call.ended_works_are n asked places fail it.works t

  going : is_going k n ≡ true
  going = stands.tells_well.going number b allows.is_open

  dep_is : dep_of it n ≡ Some i.dep
  dep_is = dep_recorded told it n stands going ∙ allows.dep

  places_are : (work : Work) (swept : List MachineName) → work_of it n ≡ Some work
      → StandsFor told (k.task n) n swept work → places ≡ places_of (k.task n) i
  places_are work swept is work_stands = λ j. record {
    part = (closed_part ∙ part_listed told it n stands i swept work dep_is is work_stands) j;
    sweep = None;
    deleting = None;
  }

  failed_is : (work : Work) → work.failed ≡ option_map (end_of k) (k.task n).failed
      → (ended_work asked places fail work).failed ≡ option_map (end_of new.known) (new.known.task n).failed
  failed_is work is =
      only_call.failed_is told it b answer pinged only stands asked places fail work
      (only_call.failure_is told it b answer pinged only stands was same_lost) is
      ∙ ap (λ (t : Task). option_map (end_of k) t.failed)
      (sym (λ j. if eq-eqb n n refl j then task_now else k.task n))
    where
      same_lost : option_map_or (λ (row : Row). row.lost) (row_at was i) false ≡ (k.row i).lost
      same_lost = ap (λ o. option_map_or (λ (row : Row). row.lost) o false) row_there

  own_work : (o : Option Work) → work_of it n ≡ o → IsWork told n o
      → IsWork new n (option_map (ended_work asked places fail) o)
  own_work (Some work) is (open_, later, (swept, work_stands, are_swept)) = (
    only_call.going_same told it b answer pinged only stands n ∙ open_,
    later,
    (
      swept,
      subst (λ (it : Told). StandsFor it (it.known.task n) n swept (ended_work asked places fail work)) told_is
          (after_call_ended told n number worker call answer swept work (ended_work asked places fail work) i
          work_stands allows.changed_apart allows.pings_apart allows.obsolete_apart
          allows.compiles_none (stands.tells_well.low number b allows.is_open)
          (stands.tells_well.past number b allows.is_open)
          (only_call.has_begun told it b answer pinged only stands) allows.is_open
          only_one
          (ended_as asked places fail work
          ∙ (λ j. record (given work (places_are work swept is work_stands j)) {
            pings = asked_line (takes_as call answer j)
                (given_line work.pings (places_are work swept is work_stands j).part.ping)
                (places_are work swept is work_stands j).part.ping;
            failed = (ended_work asked places fail work).failed;
          }))
          (failed_is work work_stands.failed_is
          ∙ (λ j. option_map (end_of (sym told_is j).known) ((sym told_is j).known.task n).failed))),
      swept_same n swept are_swept,
    ),
  )
  own_work None is gone = λ later. only_call.going_same told it b answer pinged only stands n ∙ gone later

  not_it : (xs : List Inst) → is_among same_inst i xs ≡ false → (j : ℕ) (x : Inst) → slice_get xs j ≡ Some x
      → idle_in new x ≡ idle_in told x
  not_it xs none j x is = only_call.idle_as told it b answer pinged only stands (Instance x)
      ∙ (λ l. if (inst_flip i x ∙ none_at (same_inst i) xs j x none is) l
      then true else is_idle told (Instance x))

  same_for : (t : ℕ) (swept : List MachineName) → eqb n t ≡ false → is_going k t ≡ true
      → SameListed told new (k.task t) t swept
  same_for t swept other open_ = record {
    pings = not_it (k.task t).to_ping (allows.not_asked t other open_);
    obsolete = not_it (k.task t).obsolete (allows.not_leaving t other open_);
    changed = not_it (k.task t).changed (allows.not_changing t other open_);
    disks = λ j d is. only_call.idle_as told it b answer pinged only stands (Disk d);
    orphans = λ j d is. refl;
    sweep = λ j name is. only_call.idle_as told it b answer pinged only stands (Compile name.task name.slot);
    slots = λ j name is. refl;
    compiled = λ key. refl;
    worked = λ key. refl;
    machines = refl;
    failed = refl;
    calls = only_call.same_count told it b answer pinged only stands t other;
  }

  other_work : (t : ℕ) → eqb n t ≡ false → (o : Option Work) → IsWork told t o → IsWork new t o
  other_work t other (Some work) (open_, later, (swept, work_stands, are_swept)) = (
    only_call.going_same told it b answer pinged only stands t ∙ open_,
    later,
    (
      swept,
      subst (λ (it : Task). StandsFor new it t swept work) (sym (λ j. if other j then task_now else k.task t))
          (listed_goes_on told new (k.task t) t swept work (same_for t swept other open_) work_stands),
      swept_same t swept are_swept,
    ),
  )
  other_work t other None gone = λ later. only_call.going_same told it b answer pinged only stands t ∙ gone later

  works : (t : ℕ) → IsWork new t (work_of ended t)
  works t = subst (IsWork new t) (sym (work_is t)) (by (eqb n t) refl)
    where
      by : (b : Bool) → eqb n t ≡ b
          → IsWork new t (if b then option_map (ended_work asked places fail) (work_of it t) else work_of it t)
      by true is = subst (λ t. IsWork new t (option_map (ended_work asked places fail) (work_of it t)))
          (eqb-true n t is) (own_work (work_of it n) refl (stands.works n))
      by false is = other_work t is (work_of it t) (stands.works t)

  -- ---- all

  ended_stands : StandsInOrder new ended
  ended_stands = λ ordered. record {
    uploads = stands.uploads;
    deployments = stands.deployments;
    rows = rows;
    row_calls = row_calls;
    machines = stands.machines;
    machine_keys = λ name later. stands.machine_keys name later
        ∙ sym (only_call.task_same told it b answer pinged only stands
        (λ (it : Task). option_and_then
        (λ key. first_marked (map (λ work. same_key work.key key) (keys_of it.goal)))
        (key_of_slot (k.slot name.task name.slot))) refl name.task);
    machine_calls = λ name. stands.machine_calls name
        ∙ sym (only_call.other_calls told it b answer pinged only stands (Compile name.task name.slot) refl);
    orphans = stands.orphans;
    orphan_calls = λ d. stands.orphan_calls d
        ∙ sym (only_call.other_calls told it b answer pinged only stands (Disk d) refl);
    digests = stands.digests;
    compiling = λ key. stands.compiling key
        ∙ sym (any_within (λ c. holds (λ (d : Begin). compiles key d.call) (at eqb number None told.calls c))
        (λ c. holds (λ (d : Begin). compiles key d.call) (told.calls c)) k.last_call
        (λ c low. only_call.still told it b answer pinged only stands (λ o. holds
        (λ (d : Begin). compiles key d.call) o) (sym (allows.compiles_none key)) c));
    tasks = λ t. stands.tasks t
        ∙ sym (only_call.task_same told it b answer pinged only stands
        (λ (it : Task). if nat_le 1 t && nat_le t k.tasks then Some (row_by t it) else None) refl
        t);
    calls = only_call.calls_last told it b answer pinged only stands (once_of stands.ordered).calls;
    works = works;
    linked = links_go_on it ended (record {
      wants = kept_of (λ known. known.want) (λ known. refl);
      goals = λ dep. refl;
      parts = part_is;
      deps = λ t. refl;
      works = changed_work it ended n (ended_work asked places fail) (λ w. ends_same asked places fail w) work_is;
      machines = λ name. refl;
      orphans = λ d. refl;
    }) stands.linked;
    ordered = ordered;
    tells_well = let tells : TellsWell _ = only_call.tells_last told it b answer pinged only stands in record {
      number = tells.number;
      low = tells.low;
      past = tells.past;
      begun = tells.begun;
      begun_past = tells.begun_past;
      failed = tells.failed;
      going = tells.going;
      one_owner = tells.one_owner;
      one_key = tells.one_key;
      recorded = tells.recorded;
      counted = tells.counted;
      disks_apart = tells.disks_apart;
      updates = tells.updates;
    };
  }

  -- .. as it is learned
  pub after_end : StandsInOrder (telling told (entries.End e)) (ended_in (ended_of was e) it)
  after_end =
      subst (λ (plan : Ended). StandsInOrder (telling told (entries.End e)) (ended_in plan it)) (sym plan_is)
      (subst (StandsInOrder (telling told (entries.End e))) (sym ended_is) (subst (λ (told : Told). StandsInOrder told ended)
      (sym told_is) ended_stands))
