-- A call of a disk that belongs to no instance begins.
use Rattle.std.proofs.Common.{◌≡◌, ◌∙◌, ℕ, ◌+◌, Bool, true, false, ◌&&◌, not, List, ◌==◌, filter, map}
use Rattle.std.proofs.Common.{Option, Some, None, ap, refl, sym, subst}
use Rattle.std.specs.Prelude.{eqb, is_some, min, if◌then◌else◌}
use Rattle.std.specs.Option.{option_and_then, option_map}
use Rattle.std.specs.Ordering.{nat_cmp}
use Rattle.std.proofs.lemmas.Bool.{eq-eqb, eqb-true, false≢true}
use Rattle.bosh_base.specs.declared.call.Call.{Call}
use Rattle.bosh_base.specs.declared.call.Call.TheVariants.{DeleteDisk}
use Rattle.bosh_base.specs.declared.entry.Begin.{Begin}
use Rattle.bosh_base.specs.declared.entry.Entry.TheVariants as entries
use Rattle.bosh_base.specs.declared.owner.Owner.TheVariants.{Compile, Disk, Instance}
use Rattle.bosh_compile.specs.Readiness.{same_key}
use Rattle.bosh_fold.specs.Calls.{counted, noted_call, opened_call, taken_by, with_call, with_subject}
use Rattle.bosh_history.specs.Calls.{orphan_begun, task_with_call}
use Rattle.bosh_history.specs.Items.{is_in_deployment}
use Rattle.bosh_history.specs.Known.{Known, SlotName, Task}
use Rattle.bosh_history.specs.Slots.{keys_of}
use Rattle.bosh_history.specs.Words.{at}
use Rattle.bosh_plan.specs.Begun.{subject_of}
use Rattle.bosh_progress.specs.Tree.{first_marked}
use Rattle.bosh_records.specs.Changes.{with_disk_call, with_disk_doubt}
use Rattle.bosh_records.specs.Places.{places_in}
use Rattle.bosh_records.specs.Recorded.{Recorded}
use Rattle.bosh_records.specs.Table.{changed, found, thing_in}
use Rattle.bosh_records.specs.declared.orphans.LooseDisk.{LooseDisk}
use Rattle.bosh_records.specs.declared.records.Records.{Records}
use Rattle.bosh_work.specs.Part.{no_part}
use Rattle.bosh_work.specs.Work.{taken}
use Rattle.bosh_work.specs.declared.part.MachineName.{MachineName}
use Rattle.bosh_work.specs.declared.part.Places.{Places}
use Rattle.bosh_work.specs.declared.work.Work.{Work}
use Rattle.laws_stands.proofs.LineLemmas.{stands_on, stands_taken}
use Rattle.laws_stands.proofs.MarkLemmas.{one_more}
use Rattle.laws_stands.proofs.PremiseLemmas.{none_at}
use Rattle.laws_stands.specs.GroupsStand.{GroupsStand, names_of}
use Rattle.laws_stands.specs.LineStands.{LineStands, place_of}
use Rattle.laws_stands.specs.Linked.{IsLinked}
use Rattle.laws_stands.specs.Reading.{dep_of, orphan_of, work_of}
use Rattle.laws_stands.specs.Stands.{AreSwept, IsWork, StandsIn, StandsInOrder, call_of, key_of_slot}
use Rattle.laws_stands.specs.Told.{Told, TellsWell, idle_in, is_going, is_idle, telling}
use Rattle.laws_stands.specs.WorkStands.{StandsFor}
use Rattle.laws_stands_on.proofs.BegunLemmas.{none_compiled, takes_same}
use Rattle.laws_stands_on.proofs.CallLemmas.{idle_begun, one_more_call}
use Rattle.laws_stands_on.proofs.FindLemmas.{compiling_begun}
use Rattle.laws_stands_on.proofs.LinkLemmas.{WasWork, changed_work, links_go_on}
use Rattle.laws_stands_on.proofs.ListedLemmas.{SameListed, listed_goes_on}
use Rattle.laws_stands_on.proofs.TableLemmas.{nat_at, nat_keys, thing_changed}
use Rattle.laws_stands_on.proofs.ChangedLemmas.{eqb_flip, some_mapped, thing_at_key, things_changed}
use Rattle.laws_stands_on.proofs.NextCallLemmas.{calls_next, dep_same, going_same, other_calls, other_idle, own_call}
use Rattle.laws_stands_on.proofs.NextCallLemmas.{same_count, same_failed, task_same, tasks_next, tells_next}
use Rattle.laws_stands.proofs.SameGroupLemmas.{groups_as}
use Rattle.laws_stands_on.specs.Allows.{AllowsNext}
use Rattle.laws_stands_after.specs.Disks.{AllowsDisk}
use Rattle.laws_stands_on.proofs.TaskLemmas.{dep_recorded}

-- ---- what is planned

-- a deletion is in doubt
abbrev noted_orphans : ℕ → Call → ℕ → List (ℕ × Option LooseDisk) → List (ℕ × Option LooseDisk)
noted_orphans number (DeleteDisk disk) d orphans =
    changed nat_cmp d (with_disk_doubt (Some (record { n = number; call = DeleteDisk disk }))) orphans
noted_orphans number call d orphans = orphans

subject_as : (was : Records) (b : Begin) (d : ℕ) (call : Call) (it : Recorded)
    → with_subject (Disk d) (subject_of was (record b { owner = Disk d; call = call })) it
    ≡ record it { orphans = noted_orphans b.n call d it.orphans }
subject_as was b d (DeleteDisk disk) it = refl
subject_as was b d call it = refl

-- what is said of the disk from now on
abbrev said : ℕ → Call → LooseDisk → LooseDisk
said number call loose = record loose { orphan = orphan_begun number call loose.orphan; call = Some number }

orphans_noted : (number : ℕ) (call : Call) (d : ℕ) (orphans : List (ℕ × Option LooseDisk)) (x : ℕ)
    → thing_in nat_cmp (changed nat_cmp d (with_disk_call (Some number)) (noted_orphans number call d orphans)) x
    ≡ (if eqb d x then option_map (said number call) (thing_in nat_cmp orphans x) else thing_in nat_cmp orphans x)
orphans_noted number (DeleteDisk disk) d orphans x = things_changed d
    (with_disk_doubt (Some (record { n = number; call = DeleteDisk disk }))) (with_disk_call (Some number)) orphans x
orphans_noted number call d orphans x = thing_at_key d (with_disk_call (Some number)) orphans x

-- ---- the call

module _ (told : Told) (was : Records) (it : Recorded) (n number worker : ℕ) (call : Call) (d : ℕ)
    (next : AllowsNext told (record { n = number; task = n; worker = worker; owner = Disk d; call = call }))
    (allows : AllowsDisk told n call d) (room : is_some (found nat_cmp it.calls number) ≡ true)
    (stands : StandsIn told it) where
  abbrev b : Begin
  b = record { n = number; task = n; worker = worker; owner = Disk d; call = call }

  abbrev new : Told
  new = telling told (entries.Begin b)

  abbrev k : Known
  k = told.known

  -- what is recorded before its task takes it
  abbrev noted : Recorded
  noted = record it {
    orphans = changed nat_cmp d (with_disk_call (Some number)) (noted_orphans number call d it.orphans);
  }

  abbrev begun : Recorded
  begun = noted_call b (counted n (taken_by n (Disk d) noted))

  -- ---- the disk

  orphan_is : (x : ℕ) → orphan_of begun x
      ≡ (if eqb d x then option_map (said number call) (orphan_of it x) else orphan_of it x)
  orphan_is x = orphans_noted number call d it.orphans x

  -- where it is listed stays
  deleting_is : (x : ℕ) → option_and_then (λ loose. loose.deleting) (orphan_of begun x)
      ≡ option_and_then (λ loose. loose.deleting) (orphan_of it x)
  deleting_is x = ap (option_and_then (λ loose. loose.deleting)) (orphan_is x) ∙ by (eqb d x) (orphan_of it x)
    where
      by : (u : Bool) (o : Option LooseDisk)
          → option_and_then (λ (loose : LooseDisk). loose.deleting)
          (if u then option_map (said number call) o else o)
          ≡ option_and_then (λ (loose : LooseDisk). loose.deleting) o
      by true (Some loose) = refl
      by true None = refl
      by false o = refl

  loose_there : is_some (orphan_of it d) ≡ true
  loose_there = sym (some_mapped (λ (loose : LooseDisk). loose.orphan) (orphan_of it d)) ∙ ap is_some (stands.orphans d)
      ∙ allows.there

  left_same : (x : ℕ) → is_some (new.known.orphan x) ≡ is_some (k.orphan x)
  left_same x = by (eqb d x) refl
    where
      by : (u : Bool) → eqb d x ≡ u
          → is_some (if u then option_map (orphan_begun number call) (k.orphan d) else k.orphan x)
          ≡ is_some (k.orphan x)
      by true is = some_mapped (orphan_begun number call) (k.orphan d) ∙ ap (λ d. is_some (k.orphan d))
          (eqb-true d x is)
      by false is = refl

  orphans : (x : ℕ) → option_map (λ loose. loose.orphan) (orphan_of begun x) ≡ new.known.orphan x
  orphans x = ap (option_map (λ loose. loose.orphan)) (orphan_is x) ∙ by (eqb d x) refl
    where
      mapped : (o : Option LooseDisk)
          → option_map (λ (loose : LooseDisk). loose.orphan) (option_map (said number call) o)
          ≡ option_map (orphan_begun number call) (option_map (λ (loose : LooseDisk). loose.orphan) o)
      mapped (Some loose) = refl
      mapped None = refl

      by : (u : Bool) → eqb d x ≡ u
          → option_map (λ (loose : LooseDisk). loose.orphan)
          (if u then option_map (said number call) (orphan_of it x) else orphan_of it x)
          ≡ (if u then option_map (orphan_begun number call) (k.orphan d) else k.orphan x)
      by true is = mapped (orphan_of it x) ∙ ap (option_map (orphan_begun number call)) (stands.orphans x)
          ∙ ap (λ x. option_map (orphan_begun number call) (k.orphan x)) (sym (eqb-true d x is))
      by false is = stands.orphans x

  orphan_calls : (x : ℕ) → option_and_then (λ loose. loose.call) (orphan_of begun x) ≡ call_of new (Disk x)
  orphan_calls x = ap (option_and_then (λ loose. loose.call)) (orphan_is x) ∙ by (eqb d x) refl
    where
      own : (o : Option LooseDisk) → is_some o ≡ true
          → option_and_then (λ (loose : LooseDisk). loose.call) (option_map (said number call) o) ≡ Some number
      own (Some loose) is = refl
      own None is = absurd (false≢true is)

      by : (u : Bool) → eqb d x ≡ u
          → option_and_then (λ (loose : LooseDisk). loose.call)
          (if u then option_map (said number call) (orphan_of it x) else orphan_of it x) ≡ call_of new (Disk x)
      by true is =
          own (orphan_of it x) (ap (λ x. is_some (orphan_of it x)) (sym (eqb-true d x is)) ∙ loose_there)
          ∙ sym (own_call told it b next stands (eq-eqb d d refl))
          ∙ ap (λ x. call_of new (Disk x)) (eqb-true d x is)
      by false other = stands.orphan_calls x
          ∙ sym (other_calls told it b next stands (Disk x) (eqb_flip x d ∙ other))

  -- ---- works

  swept_same : (t : ℕ) (swept : List MachineName) → AreSwept k t swept → AreSwept new.known t swept
  swept_same t swept are = are
      ∙ sym (task_same told it b next stands (λ it. filter (λ (name : SlotName). not (name.task == t)
      && is_in_deployment k it.dep name) k.machines) (λ it. refl) t)

  work_is : (t : ℕ) → work_of begun t
      ≡ (if eqb n t then option_map (λ work. taken work (places_in noted (Disk d))) (work_of it t)
      else work_of it t)
  work_is t =
      thing_changed nat_cmp nat_keys n (λ work. taken work (places_in noted (Disk d))) it.works t
      ∙ ap (λ u. if u then option_map (λ work. taken work (places_in noted (Disk d))) (work_of it t)
      else work_of it t) (nat_at n t)

  dep_is : dep_of it n ≡ None
  dep_is = dep_recorded told it n stands next.going ∙ allows.dep

  -- the place at which the work of the task lists it
  abbrev places : Places
  places = record { part = no_part; sweep = None; deleting = place_of eqb d (k.task n).disks }

  places_are : (work : Work) (swept : List MachineName) → work_of it n ≡ Some work
      → StandsFor told (k.task n) n swept work → places_in noted (Disk d) ≡ places
  places_are work swept is work_stands = λ j. record {
    part = no_part;
    sweep = None;
    deleting = (deleting_is d ∙ by (orphan_of it d) refl loose_there) j;
  }
    where
      by : (o : Option LooseDisk) → orphan_of it d ≡ o → is_some o ≡ true
          → option_and_then (λ (loose : LooseDisk). loose.deleting) o ≡ place_of eqb d (k.task n).disks
      by (Some loose) there some = stands.linked.deletions n work d loose is there dep_is
          ∙ ap (place_of eqb d) (work_stands.disks).items_are
      by None there some = absurd (false≢true some)

  idle_path : idle_in told ≡ idle_in new
  idle_path = λ j x. sym (other_idle told it b next stands (Instance x) refl) j

  idle_disks : (x : ℕ) → is_idle new (Disk x) ≡ at eqb d false (λ x. is_idle told (Disk x)) x
  idle_disks x = idle_begun told b (Disk x) next.next ∙ ap (λ u. is_idle told (Disk x) && not u) (eqb_flip x d)
      ∙ by (eqb d x) (is_idle told (Disk x))
    where
      by : (u i : Bool) → (i && not u) ≡ (if u then false else i)
      by true true = refl
      by true false = refl
      by false true = refl
      by false false = refl

  taken_stands : (work : Work) (swept : List MachineName) → StandsFor told (k.task n) n swept work
      → StandsFor new (task_with_call (k.task n)) n swept (taken work places)
  taken_stands work swept work_stands = record {
    task_is = work_stands.task_is;
    pings = subst (λ idle. LineStands (k.task n).to_ping (λ i. not ((k.task n).pinged i)) idle work.pings)
        idle_path work_stands.pings;
    obsolete = subst (λ idle. LineStands (k.task n).obsolete (λ i. not ((k.task n).gone i)) idle work.obsolete)
        idle_path work_stands.obsolete;
    disks =
        stands_taken eqb eqb-true (k.task n).disks d
        (one_more eqb eqb-true (k.task n).disks (stands.tells_well.disks_apart n) d) (λ x. is_some (k.orphan x))
        (λ x. is_idle told (Disk x)) (λ x. is_some (new.known.orphan x)) (λ x. is_idle new (Disk x))
        work.disks left_same idle_disks work_stands.disks;
    sweep =
        stands_on swept (λ name. is_some (k.slot name.task name.slot))
        (λ name. is_idle told (Compile name.task name.slot)) (λ name. is_some (k.slot name.task name.slot))
        (λ name. is_idle new (Compile name.task name.slot)) work.sweep (λ name. refl)
        (λ name. other_idle told it b next stands (Compile name.task name.slot) refl) work_stands.sweep;
    keys = work_stands.keys;
    slots_are = work_stands.slots_are;
    machines_are = work_stands.machines_are;
    changed_are = work_stands.changed_are;
    groups_stand =
        groups_as (k.task n) (idle_in new) (k.task n).pinged (k.task n).gone (k.task n).failed
        (task_with_call (k.task n)).calls (k.task n).end (names_of (k.task n).changed) work.groups
        (subst (λ idle. GroupsStand (k.task n) idle work.groups) idle_path work_stands.groups_stand);
    failed_is = work_stands.failed_is ∙ sym (same_failed told it b next stands n);
    open_are = ap (λ c. min (c + 1) 18446744073709551615) work_stands.open_are
        ∙ one_more_call told b n next.next next.small (eq-eqb n n refl);
  }

  own_work : (o : Option Work) → work_of it n ≡ o → IsWork told n o
      → IsWork new n (option_map (λ work. taken work (places_in noted (Disk d))) o)
  own_work (Some work) is (going, later, (swept, work_stands, are_swept)) = (
    going_same told it b next stands n ∙ going,
    later,
    (
      swept,
      subst (λ places. StandsFor new (new.known.task n) n swept (taken work places))
          (sym (places_are work swept is work_stands))
          (subst (λ task. StandsFor new task n swept (taken work places))
          (λ j. if sym (eq-eqb n n refl) j then task_with_call (k.task n) else k.task n)
          (taken_stands work swept work_stands)),
      swept_same n swept are_swept,
    ),
  )
  own_work None is gone = λ later. going_same told it b next stands n ∙ gone later

  same_for : (t : ℕ) (swept : List MachineName) → eqb n t ≡ false → is_going k t ≡ true
      → SameListed told new (k.task t) t swept
  same_for t swept other going = record {
    pings = λ j x is. other_idle told it b next stands (Instance x) refl;
    obsolete = λ j x is. other_idle told it b next stands (Instance x) refl;
    changed = λ j x is. other_idle told it b next stands (Instance x) refl;
    disks = λ j x is. other_idle told it b next stands (Disk x)
        (eqb_flip x d ∙ none_at (eqb d) (k.task t).disks j x (allows.not_deleting t other going) is);
    orphans = λ j x is. left_same x;
    sweep = λ j name is. other_idle told it b next stands (Compile name.task name.slot) refl;
    slots = λ j name is. refl;
    compiled = λ key. refl;
    worked = λ key. refl;
    machines = refl;
    failed = same_failed told it b next stands t;
    calls = same_count told it b next stands t other;
  }

  other_work : (t : ℕ) → eqb n t ≡ false → (o : Option Work) → IsWork told t o → IsWork new t o
  other_work t other (Some work) (going, later, (swept, work_stands, are_swept)) = (
    going_same told it b next stands t ∙ going,
    later,
    (
      swept,
      subst (λ (it : Task). StandsFor new it t swept work)
          (sym (λ j. if other j then task_with_call (k.task n) else k.task t))
          (listed_goes_on told new (k.task t) t swept work (same_for t swept other going) work_stands),
      swept_same t swept are_swept,
    ),
  )
  other_work t other None gone = λ later. going_same told it b next stands t ∙ gone later

  works : (t : ℕ) → IsWork new t (work_of begun t)
  works t = subst (IsWork new t) (sym (work_is t)) (by (eqb n t) refl)
    where
      by : (u : Bool) → eqb n t ≡ u
          → IsWork new t (if u then option_map (λ work. taken work (places_in noted (Disk d))) (work_of it t)
          else work_of it t)
      by true is =
          subst (λ t. IsWork new t (option_map (λ work. taken work (places_in noted (Disk d))) (work_of it t)))
          (eqb-true n t is) (own_work (work_of it n) refl (stands.works n))
      by false is = other_work t is (work_of it t) (stands.works t)

  -- ---- places

  was_work : (t : ℕ) (w : Work) → work_of begun t ≡ Some w → WasWork it t w
  was_work = changed_work it begun n (λ work. taken work (places_in noted (Disk d)))
      (λ w. takes_same w (places_in noted (Disk d))) work_is

  linked : IsLinked begun
  linked = record {
    wants = kept.wants;
    pings = kept.pings;
    leaving = kept.leaving;
    changes = kept.changes;
    sweeps = kept.sweeps;
    deletions = λ t w x loose is there dep. let old : WasWork it t w = was_work t w is in
        by x loose (orphan_of it x) refl (sym (deleting_is x) ∙ ap (option_and_then (λ loose. loose.deleting)) there)
        (ap is_some there) (place_of eqb x w.disks.items)
        (λ loose is. stands.linked.deletions t old.old x loose old.is is (sym (dep_same told it b next stands t) ∙ dep)
        ∙ ap (place_of eqb x) (sym (old.same).disks));
  }
    where
      kept : IsLinked (record begun { orphans = it.orphans })
      kept = links_go_on it (record begun { orphans = it.orphans }) (record {
        wants = λ i. refl;
        goals = λ dep. refl;
        parts = λ i. refl;
        deps = dep_same told it b next stands;
        works = was_work;
        machines = λ name. refl;
        orphans = λ x. refl;
      }) stands.linked

      there_before : (x : ℕ) → is_some (orphan_of begun x) ≡ true → is_some (orphan_of it x) ≡ true
      there_before x is = before (eqb d x) (orphan_of it x) (sym (ap is_some (orphan_is x)) ∙ is)
        where
          before : (u : Bool) (o : Option LooseDisk)
              → is_some (if u then option_map (said number call) o else o) ≡ true → is_some o ≡ true
          before true (Some loose) is = refl
          before true None is = is
          before false o is = is

      by : (x : ℕ) (loose : LooseDisk) (o : Option LooseDisk) → orphan_of it x ≡ o
          → option_and_then (λ (loose : LooseDisk). loose.deleting) (orphan_of it x) ≡ loose.deleting
          → is_some (orphan_of begun x) ≡ true → (place : Option ℕ)
          → ((loose : LooseDisk) → orphan_of it x ≡ Some loose → loose.deleting ≡ place) → loose.deleting ≡ place
      by x loose (Some old) is same there place listed =
          sym same ∙ ap (option_and_then (λ (loose : LooseDisk). loose.deleting)) is ∙ listed old is
      by x loose None is same there place listed =
          absurd (false≢true (sym (ap is_some is) ∙ there_before x there))

  -- ---- all

  begun_stands : StandsInOrder new begun
  begun_stands = λ ordered. record {
    uploads = λ j. record (stands.uploads j) { last_call = number };
    deployments = stands.deployments;
    rows = stands.rows;
    row_calls = λ x. stands.row_calls x ∙ sym (other_calls told it b next stands (Instance x) refl);
    machines = stands.machines;
    machine_keys = λ name later. stands.machine_keys name later
        ∙ sym (task_same told it b next stands
        (λ (it : Task). option_and_then
        (λ key. first_marked (map (λ work. same_key work.key key) (keys_of it.goal)))
        (key_of_slot (k.slot name.task name.slot))) (λ it. refl) name.task);
    machine_calls = λ name. stands.machine_calls name
        ∙ sym (other_calls told it b next stands (Compile name.task name.slot) refl);
    orphans = orphans;
    orphan_calls = orphan_calls;
    digests = stands.digests;
    compiling = λ key. stands.compiling key
        ∙ sym (compiling_begun told b next.next key (allows.compiles_none key));
    tasks = tasks_next told it b next stands;
    calls = calls_next told it b next stands room;
    works = works;
    linked = linked;
    ordered = ordered;
    tells_well = let tells : TellsWell _ = tells_next told it b next stands k.instances (λ i is. is) (λ i own. absurd cc)
        in record {
          number = tells.number;
          low = tells.low;
          past = tells.past;
          begun = tells.begun;
          begun_past = tells.begun_past;
          failed = tells.failed;
          going = tells.going;
          one_owner = tells.one_owner;
          one_key = tells.one_key;
          recorded = tells.recorded;
          counted = tells.counted;
          disks_apart = tells.disks_apart;
          updates = tells.updates;
        };
  }

  -- .. as it is learned
  pub after_disk_begin : StandsInOrder new
      (noted_call b (counted n (opened_call b (with_subject (Disk d) (subject_of was b) it))))
  after_disk_begin =
      subst (λ (x : Recorded). StandsInOrder new (noted_call b (counted n (opened_call b x))))
      (sym (subject_as was b d call it))
      (subst (λ (x : Recorded). StandsInOrder new (noted_call b (counted n (taken_by n (Disk d) x))))
      (sym (none_compiled call (Some number)
      (with_call (Disk d) (Some number) (record it { orphans = noted_orphans number call d it.orphans }))
      allows.compiles_none)) begun_stands)
