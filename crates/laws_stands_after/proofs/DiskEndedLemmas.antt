-- A call of a disk that belongs to no instance ends.
use Rattle.std.proofs.Common.{◌≡◌, ◌∙◌, ℕ, ◌+◌, Bool, true, false, ◌&&◌, not, List, ◌==◌, filter, map}
use Rattle.std.proofs.Common.{Option, Some, None, ap, refl, sym, subst, arith}
use Rattle.std.specs.Prelude.{◌-◌, count_by, eqb, is_some, nat_le, slice_get, if◌then◌else◌}
use Rattle.std.specs.Option.{option_and_then, option_map, option_map_or}
use Rattle.std.specs.Ordering.{nat_cmp}
use Rattle.std.proofs.lemmas.Bool.{eq-eqb, eqb-true, false≢true}
use Rattle.bosh_base.specs.Cloud.{numbers_to}
use Rattle.bosh_base.specs.declared.answer.Answer.{Answer}
use Rattle.bosh_base.specs.declared.call.Call.{Call}
use Rattle.bosh_base.specs.declared.entry.Begin.{Begin}
use Rattle.bosh_base.specs.declared.entry.End.{End}
use Rattle.bosh_base.specs.declared.entry.Entry.TheVariants as entries
use Rattle.bosh_base.specs.declared.inst.Inst.{Inst}
use Rattle.bosh_base.specs.declared.owner.Owner.TheVariants.{Compile, Disk, Instance}
use Rattle.bosh_base.specs.declared.task.TaskEnd.{TaskEnd}
use Rattle.bosh_compile.specs.Readiness.{same_key}
use Rattle.bosh_fold.specs.Calls.{closed_call, disk_told, ended_by, ended_in, failed_in, given_by, other_told}
use Rattle.bosh_fold.specs.Calls.{pinged_by}
use Rattle.bosh_history.specs.Calls as known_calls
use Rattle.bosh_history.specs.Calls.{call_ended, least_failure, orphan_after, orphan_told, shows_gone, shows_there}
use Rattle.bosh_history.specs.Calls.{task_told}
use Rattle.bosh_history.specs.Items.{is_in_deployment}
use Rattle.bosh_history.specs.Known.{Known, SlotName, Task}
use Rattle.bosh_history.specs.Slots.{keys_of}
use Rattle.bosh_history.specs.Steps.{compiles}
use Rattle.bosh_history.specs.Words as words
use Rattle.bosh_history.specs.Words.{at, holds}
use Rattle.bosh_plan.specs.Ended as planned
use Rattle.bosh_plan.specs.Ended.{ended_of, is_told}
use Rattle.bosh_plan.specs.declared.ending.After.TheVariants as afters
use Rattle.bosh_plan.specs.declared.ending.Ended.{Ended}
use Rattle.bosh_progress.specs.Tree.{first_marked}
use Rattle.bosh_records.specs.Changes.{with_disk_call}
use Rattle.bosh_records.specs.Recorded.{Recorded}
use Rattle.bosh_records.specs.Table.{changed, thing_in, without}
use Rattle.bosh_records.specs.declared.orphans.LooseDisk.{LooseDisk}
use Rattle.bosh_records.specs.declared.records.Records.{Records}
use Rattle.bosh_work.specs.Line.{given_line}
use Rattle.bosh_work.specs.Part.{no_part}
use Rattle.bosh_work.specs.declared.part.MachineName.{MachineName}
use Rattle.bosh_work.specs.declared.part.Places.{Places}
use Rattle.bosh_work.specs.declared.work.Work.{Work}
use Rattle.laws_stands.proofs.LineLemmas.{stands_finished, stands_given, stands_on}
use Rattle.laws_stands.proofs.MarkLemmas.{one_more, placed}
use Rattle.laws_stands.proofs.PremiseLemmas.{none_at}
use Rattle.laws_stands.specs.GroupsStand.{GroupsStand, names_of}
use Rattle.laws_stands.specs.LineStands.{LineStands, place_of}
use Rattle.laws_stands.specs.Linked.{IsLinked}
use Rattle.laws_stands.specs.Reading.{dep_of, orphan_of, work_of}
use Rattle.laws_stands.specs.Stands.{AreSwept, IsWork, Stands, StandsIn, StandsInOrder, call_of, key_of_slot}
use Rattle.laws_stands.specs.Told.{TellsWell, Told, idle_in, is_going, is_idle, telling}
use Rattle.laws_stands.specs.WorkStands.{StandsFor, is_task_call}
use Rattle.laws_stands_on.proofs.AnsweredLemmas.{ended_work, ends_same, none_built, none_known, pinged_as, takes_ping}
use Rattle.laws_stands_on.proofs.BegunLemmas.{none_compiled}
use Rattle.laws_stands_on.proofs.FindLemmas.{any_within}
use Rattle.laws_stands_on.proofs.LinkLemmas.{ListsSame, WasWork, links_go_on}
use Rattle.laws_stands_on.proofs.ListedLemmas.{SameListed, listed_goes_on}
use Rattle.laws_stands.proofs.OrderLemmas.{once_of}
use Rattle.laws_stands_on.proofs.ChangedLemmas.{eqb_flip, some_mapped, thing_at_key}
use Rattle.laws_stands_after.proofs.DiskToldLemmas.{gone_by, gone_same, last_line, last_work, listed, loose_by, no_ping}
use Rattle.laws_stands_after.proofs.DiskToldLemmas.{orphan_by, orphans_by, orphans_ended, told_as, told_by, unlisted}
use Rattle.laws_stands_after.proofs.DiskToldLemmas.{works_by, works_ended}
use Rattle.laws_stands_on.proofs.NextCallLemmas.{row_by}
use Rattle.laws_stands_on.proofs.OnlyCallLemmas.{calls_last, ended_works, ended_works_are, failed_is, failure_is}
use Rattle.laws_stands_on.proofs.OnlyCallLemmas.{going_same, has_begun, idle_as, one_less_call, other_calls, own_call}
use Rattle.laws_stands_on.proofs.OnlyCallLemmas.{same_count, still, task_same, tells_last}
use Rattle.laws_stands.proofs.SameGroupLemmas.{groups_as}
use Rattle.laws_stands_after.specs.Disks.{AllowsDisk}
use Rattle.laws_stands_on.proofs.TaskLemmas.{dep_recorded}

-- ---- the call

module _ (told : Told) (was : Records) (it : Recorded) (n number worker : ℕ) (call : Call) (answer : Answer) (d : ℕ)
    (only : told.calls number ≡ Some (record { n = number; task = n; worker = worker; owner = Disk d; call = call }))
    (allows : AllowsDisk told n call d) (stood : Stands told was) (stands : StandsIn told it) where
  abbrev b : Begin
  b = record { n = number; task = n; worker = worker; owner = Disk d; call = call }

  abbrev e : End
  e = record { n = number; answer = answer }

  abbrev k : Known
  k = told.known

  abbrev goes : Bool
  goes = shows_gone call answer

  abbrev settles : Bool
  settles = shows_there call answer

  -- its task
  abbrev task_now : Task
  task_now = record (k.task n) { failed = least_failure (k.task n).failed (known_calls.failure_of k b answer) }

  -- what is told once the call ended
  abbrev new : Told
  new = record {
    known = record k {
      orphans = if goes then words.without eqb d k.orphans else k.orphans;
      orphan = at eqb d (orphan_by goes settles (k.orphan d)) k.orphan;
      task = at eqb n task_now k.task;
    };
    calls = at eqb number None told.calls;
    snapped = told.snapped;
  }

  orphan_as : orphan_after d call answer k ≡ record k {
    orphans = if goes then words.without eqb d k.orphans else k.orphans;
    orphan = at eqb d (orphan_by goes settles (k.orphan d)) k.orphan;
  }
  orphan_as = by goes
    where
      by : (u : Bool) → (if u
          then record k { orphans = words.without eqb d k.orphans; orphan = at eqb d None k.orphan }
          else record k { orphan = at eqb d (option_map (orphan_told settles) (k.orphan d)) k.orphan })
          ≡ record k {
            orphans = if u then words.without eqb d k.orphans else k.orphans;
            orphan = at eqb d (orphan_by u settles (k.orphan d)) k.orphan;
          }
      by true = refl
      by false = refl

  told_is : telling told (entries.End e) ≡ new
  told_is = λ j. record { known = known_is j; calls = at eqb number None told.calls; snapped = told.snapped }
    where
      known_is : call_ended answer (k.begun number) k ≡ new.known
      known_is =
          ap (λ o. call_ended answer o k) (has_begun told it b answer (k.task n).pinged only stands)
          ∙ (λ j. record (none_known call answer (orphan_after d call answer k) allows.compiles_none j) {
            task = at eqb n (task_told k b answer (k.task n)) k.task;
          })
          ∙ (λ j. record (orphan_as j) {
            task = at eqb n (record (no_ping call answer d (k.task n) j) {
              failed = least_failure (k.task n).failed (known_calls.failure_of k b answer);
            }) k.task;
          })

  -- ---- what is planned

  abbrev fail : Option TaskEnd
  fail = planned.failure_of was answer b

  abbrev plan : Ended
  plan = record {
    n = number;
    after = Some (afters.Other (planned.disk_told call answer));
    failed = fail;
    built = planned.built_by answer;
    is_asked = is_told answer;
  }

  plan_is : ended_of was e ≡ plan
  plan_is = λ j. record {
    n = number;
    after = ap (option_and_then (planned.after_by was answer)) (stood.calls number ∙ only) j;
    failed = ap (option_and_then (planned.failure_of was answer)) (stood.calls number ∙ only) j;
    built = planned.built_by answer;
    is_asked = is_told answer;
  }

  -- ---- what is learned

  abbrev closed : Recorded
  closed = record it {
    calls = without nat_cmp number it.calls;
    orphans = changed nat_cmp d (with_disk_call None) it.orphans;
  }

  -- its place among the disks that are deleted
  abbrev place : Option ℕ
  place = option_and_then (λ loose. loose.deleting) (thing_in nat_cmp closed.orphans d)

  abbrev places : Places
  places = record { part = no_part; sweep = None; deleting = place }

  abbrev asked : Bool
  asked = takes_ping call (is_told answer)

  abbrev failed : Recorded
  failed = record closed { works = ended_works n asked places fail it.works }

  abbrev ended : Recorded
  ended = record failed {
    orphans = orphans_by goes settles d closed.orphans;
    works = works_by goes d place (ended_works n asked places fail it.works);
  }

  ended_is : ended_in plan it ≡ ended
  ended_is =
      ap (λ o. ended_by o plan (record it { calls = without nat_cmp number it.calls })) (stands.calls number
      ∙ only)
      ∙ none_built call (planned.built_by answer)
      (other_told (Disk d) (planned.disk_told call answer)
      (failed_in n fail
      (pinged_by (is_told answer) b
      (given_by n (Disk d) (closed_call b (record it { calls = without nat_cmp number it.calls }))))))
      allows.compiles_none
      ∙ (λ j. disk_told d (planned.disk_told call answer)
      (failed_in n fail
      (pinged_by (is_told answer) b
      (given_by n (Disk d) (none_compiled call None closed allows.compiles_none j)))))
      ∙ (λ j. disk_told d (planned.disk_told call answer)
      (failed_in n fail (pinged_as (is_told answer) b call (given_by n (Disk d) closed) j)))
      ∙ (λ j. disk_told d (told_as call answer j) failed)
      ∙ told_by goes settles d failed

  -- ---- the disk

  orphan_is : (x : ℕ) → orphan_of ended x
      ≡ (if eqb d x then loose_by goes settles (orphan_of it x) else orphan_of it x)
  orphan_is x = orphans_ended goes settles d it.orphans (once_of stands.ordered).orphans x

  loose_there : is_some (orphan_of it d) ≡ true
  loose_there = sym (some_mapped (λ (loose : LooseDisk). loose.orphan) (orphan_of it d)) ∙ ap is_some (stands.orphans d)
      ∙ allows.there

  orphans : (x : ℕ) → option_map (λ loose. loose.orphan) (orphan_of ended x) ≡ new.known.orphan x
  orphans x = ap (option_map (λ loose. loose.orphan)) (orphan_is x) ∙ by (eqb d x) refl
    where
      mapped : (g s : Bool) (o : Option LooseDisk)
          → option_map (λ (loose : LooseDisk). loose.orphan) (loose_by g s o)
          ≡ orphan_by g s (option_map (λ (loose : LooseDisk). loose.orphan) o)
      mapped true s o = refl
      mapped false s (Some loose) = refl
      mapped false s None = refl

      by : (u : Bool) → eqb d x ≡ u
          → option_map (λ (loose : LooseDisk). loose.orphan)
          (if u then loose_by goes settles (orphan_of it x) else orphan_of it x)
          ≡ (if u then orphan_by goes settles (k.orphan d) else k.orphan x)
      by true is = mapped goes settles (orphan_of it x) ∙ ap (orphan_by goes settles) (stands.orphans x)
          ∙ ap (λ x. orphan_by goes settles (k.orphan x)) (sym (eqb-true d x is))
      by false is = stands.orphans x

  orphan_calls : (x : ℕ) → option_and_then (λ loose. loose.call) (orphan_of ended x) ≡ call_of new (Disk x)
  orphan_calls x = ap (option_and_then (λ loose. loose.call)) (orphan_is x) ∙ by (eqb d x) refl
    where
      none : (g s : Bool) (o : Option LooseDisk)
          → option_and_then (λ (loose : LooseDisk). loose.call) (loose_by g s o) ≡ None
      none true s o = refl
      none false s (Some loose) = refl
      none false s None = refl

      by : (u : Bool) → eqb d x ≡ u
          → option_and_then (λ (loose : LooseDisk). loose.call)
          (if u then loose_by goes settles (orphan_of it x) else orphan_of it x) ≡ call_of new (Disk x)
      by true is = none goes settles (orphan_of it x)
          ∙ sym (own_call told it b answer (k.task n).pinged only stands (eq-eqb d d refl))
          ∙ ap (λ x. call_of new (Disk x)) (eqb-true d x is)
      by false other = stands.orphan_calls x
          ∙ sym (other_calls told it b answer (k.task n).pinged only stands (Disk x) (eqb_flip x d ∙ other))

  -- what is there of the other disks
  left_same : (x : ℕ) → eqb d x ≡ false → is_some (new.known.orphan x) ≡ is_some (k.orphan x)
  left_same x other = λ j. is_some (if other j then orphan_by goes settles (k.orphan d) else k.orphan x)

  -- ---- works

  other_idle : (i : Inst) → idle_in new i ≡ idle_in told i
  other_idle i = idle_as told it b answer (k.task n).pinged only stands (Instance i)

  slot_idle : (name : MachineName) → is_idle new (Compile name.task name.slot)
      ≡ is_idle told (Compile name.task name.slot)
  slot_idle name = idle_as told it b answer (k.task n).pinged only stands (Compile name.task name.slot)

  idle_disks : (x : ℕ) → is_idle new (Disk x) ≡ at eqb d true (λ x. is_idle told (Disk x)) x
  idle_disks x = idle_as told it b answer (k.task n).pinged only stands (Disk x)
      ∙ ap (λ u. if u then true else is_idle told (Disk x)) (eqb_flip x d)

  swept_same : (t : ℕ) (swept : List MachineName) → AreSwept k t swept → AreSwept new.known t swept
  swept_same t swept are = are
      ∙ sym (task_same told it b answer (k.task n).pinged only stands (λ it. filter
      (λ (name : SlotName). not (name.task == t)
      && is_in_deployment k it.dep name) k.machines) refl t)

  work_is : (t : ℕ) → work_of ended t
      ≡ (if eqb n t then option_map (λ w. gone_by goes d place (ended_work asked places fail w)) (work_of it t)
      else option_map (gone_by goes d place) (work_of it t))
  work_is t =
      works_ended goes d place (ended_works n asked places fail it.works) t
      ∙ ap (option_map (gone_by goes d place)) (ended_works_are n asked places fail it.works t)
      ∙ by (eqb n t) (work_of it t)
    where
      by : (u : Bool) (o : Option Work)
          → option_map (gone_by goes d place) (if u then option_map (ended_work asked places fail) o else o)
          ≡ (if u then option_map (λ w. gone_by goes d place (ended_work asked places fail w)) o
          else option_map (gone_by goes d place) o)
      by true (Some w) = refl
      by true None = refl
      by false o = refl

  dep_is : dep_of it n ≡ None
  dep_is = dep_recorded told it n stands (stands.tells_well.going number b only) ∙ allows.dep

  -- the place at which the work of its task lists it
  abbrev listed_at : Option ℕ
  listed_at = place_of eqb d (k.task n).disks

  place_is : (work : Work) (swept : List MachineName) → work_of it n ≡ Some work
      → StandsFor told (k.task n) n swept work → place ≡ listed_at
  place_is work swept is work_stands =
      ap (option_and_then (λ loose. loose.deleting)) (thing_at_key d (with_disk_call None) it.orphans d)
      ∙ kept (eqb d d) (orphan_of it d) ∙ by (orphan_of it d) refl loose_there
    where
      kept : (u : Bool) (o : Option LooseDisk)
          → option_and_then (λ (loose : LooseDisk). loose.deleting)
          (if u then option_map (with_disk_call None) o else o)
          ≡ option_and_then (λ (loose : LooseDisk). loose.deleting) o
      kept true (Some loose) = refl
      kept true None = refl
      kept false o = refl

      by : (o : Option LooseDisk) → orphan_of it d ≡ o → is_some o ≡ true
          → option_and_then (λ (loose : LooseDisk). loose.deleting) o ≡ listed_at
      by (Some loose) there some = stands.linked.deletions n work d loose is there dep_is
          ∙ ap (place_of eqb d) (work_stands.disks).items_are
      by None there some = absurd (false≢true some)

  idle_path : idle_in told ≡ idle_in new
  idle_path = λ j x. sym (other_idle x) j

  disks_by : (work : Work) (swept : List MachineName) → StandsFor told (k.task n) n swept work → (g s : Bool)
      → LineStands (k.task n).disks (λ x. is_some (at eqb d (orphan_by g s (k.orphan d)) k.orphan x))
      (λ x. is_idle new (Disk x)) (last_line g (given_line work.disks listed_at) listed_at)
  disks_by work swept work_stands g s = by g
    where
      given : LineStands (k.task n).disks (λ x. is_some (k.orphan x)) (λ x. is_idle new (Disk x))
          (given_line work.disks listed_at)
      given = stands_given eqb eqb-true (k.task n).disks d
          (one_more eqb eqb-true (k.task n).disks (stands.tells_well.disks_apart n) d) (λ x. is_some (k.orphan x))
          (λ x. is_idle told (Disk x)) (λ x. is_some (k.orphan x)) (λ x. is_idle new (Disk x)) work.disks
          (λ x. refl) idle_disks work_stands.disks

      goes_away : (x : ℕ) → is_some (at eqb d None k.orphan x) ≡ at eqb d false (λ x. is_some (k.orphan x)) x
      goes_away x = of (eqb d x)
        where
          of : (u : Bool) → is_some (if u then None else k.orphan x) ≡ (if u then false else is_some (k.orphan x))
          of true = refl
          of false = refl

      stays : (x : ℕ) → is_some (at eqb d (option_map (orphan_told s) (k.orphan d)) k.orphan x)
          ≡ is_some (k.orphan x)
      stays x = of (eqb d x) refl
        where
          of : (u : Bool) → eqb d x ≡ u
              → is_some (if u then option_map (orphan_told s) (k.orphan d) else k.orphan x) ≡ is_some (k.orphan x)
          of true is = some_mapped (orphan_told s) (k.orphan d) ∙ ap (λ d. is_some (k.orphan d)) (eqb-true d x is)
          of false is = refl

      by : (g : Bool) → LineStands (k.task n).disks
          (λ x. is_some (at eqb d (orphan_by g s (k.orphan d)) k.orphan x)) (λ x. is_idle new (Disk x))
          (last_line g (given_line work.disks listed_at) listed_at)
      by true =
          stands_finished eqb eqb-true (k.task n).disks d
          (one_more eqb eqb-true (k.task n).disks (stands.tells_well.disks_apart n) d) (λ x. is_some (k.orphan x))
          (λ x. is_idle new (Disk x)) (λ x. is_some (at eqb d None k.orphan x)) (λ x. is_idle new (Disk x))
          (given_line work.disks listed_at) goes_away (λ x. refl) given
      by false =
          stands_on (k.task n).disks (λ x. is_some (k.orphan x)) (λ x. is_idle new (Disk x))
          (λ x. is_some (at eqb d (option_map (orphan_told s) (k.orphan d)) k.orphan x)) (λ x. is_idle new (Disk x))
          (given_line work.disks listed_at) stays (λ x. refl) given

  last_stands : (work : Work) (swept : List MachineName) → StandsFor told (k.task n) n swept work
      → StandsFor new task_now n swept (last_work goes listed_at fail work)
  last_stands work swept work_stands = record {
    task_is = work_stands.task_is;
    pings = subst (λ idle. LineStands (k.task n).to_ping (λ i. not ((k.task n).pinged i)) idle work.pings)
        idle_path work_stands.pings;
    obsolete = subst (λ idle. LineStands (k.task n).obsolete (λ i. not ((k.task n).gone i)) idle work.obsolete)
        idle_path work_stands.obsolete;
    disks = disks_by work swept work_stands goes settles;
    sweep =
        stands_on swept (λ name. is_some (k.slot name.task name.slot))
        (λ name. is_idle told (Compile name.task name.slot)) (λ name. is_some (k.slot name.task name.slot))
        (λ name. is_idle new (Compile name.task name.slot)) work.sweep (λ name. refl) slot_idle work_stands.sweep;
    keys = work_stands.keys;
    slots_are = work_stands.slots_are;
    machines_are = work_stands.machines_are;
    changed_are = work_stands.changed_are;
    groups_stand =
        groups_as (k.task n) (idle_in new) (k.task n).pinged (k.task n).gone task_now.failed (k.task n).calls
        (k.task n).end (names_of (k.task n).changed) work.groups
        (subst (λ idle. GroupsStand (k.task n) idle work.groups) idle_path work_stands.groups_stand);
    failed_is = failed_is told it b answer (k.task n).pinged only stands false places fail work
        (failure_is told it b answer (k.task n).pinged only stands was refl) work_stands.failed_is;
    open_are = ap (λ c. c - 1) (work_stands.open_are ∙ one_less_call told it b answer (k.task n).pinged only stands)
        ∙ less (count_by (is_task_call new n) (numbers_to k.last_call));
  }
    where
      less : (c : ℕ) → (c + 1) - 1 ≡ c
      less c = omega arith

  own_work : (o : Option Work) → work_of it n ≡ o → IsWork told n o
      → IsWork new n (option_map (λ w. gone_by goes d place (ended_work asked places fail w)) o)
  own_work (Some work) is (going, later, (swept, work_stands, are_swept)) = (
    going_same told it b answer (k.task n).pinged only stands n ∙ going,
    later,
    (
      swept,
      subst (λ w. StandsFor new (new.known.task n) n swept w) (sym work_last)
          (subst (λ task. StandsFor new task n swept (last_work goes listed_at fail work))
          (λ j. if sym (eq-eqb n n refl) j then task_now else k.task n) (last_stands work swept work_stands)),
      swept_same n swept are_swept,
    ),
  )
    where
      there : (p : ℕ) → listed_at ≡ Some p
          → option_map_or (λ it. it == d) (slice_get work.disks.items p) false ≡ true
      there p at_place =
          let found : (x : ℕ) × (slice_get (k.task n).disks p ≡ Some x) × (eqb d x ≡ true) =
          placed (eqb d) (k.task n).disks p at_place in
          ap (λ items. option_map_or (λ it. it == d) (slice_get items p) false) (work_stands.disks).items_are
          ∙ ap (λ o. option_map_or (λ it. it == d) o false) found.1 ∙ eqb_flip found.0 d ∙ found.2

      work_last : gone_by goes d place (ended_work asked places fail work) ≡ last_work goes listed_at fail work
      work_last =
          (λ j. gone_by goes d (place_is work swept is work_stands j)
          (ended_work asked
          (record { part = no_part; sweep = None; deleting = place_is work swept is work_stands j }) fail work))
          ∙ listed goes asked d listed_at fail work there
  own_work None is gone = λ later. going_same told it b answer (k.task n).pinged only stands n ∙ gone later

  same_for : (t : ℕ) (swept : List MachineName) → eqb n t ≡ false → is_going k t ≡ true
      → SameListed told new (k.task t) t swept
  same_for t swept other going = record {
    pings = λ j x is. other_idle x;
    obsolete = λ j x is. other_idle x;
    changed = λ j x is. other_idle x;
    disks = λ j x is. idle_disks x ∙ (λ l. if not_it j x is l then true else is_idle told (Disk x));
    orphans = λ j x is. left_same x (not_it j x is);
    sweep = λ j name is. slot_idle name;
    slots = λ j name is. refl;
    compiled = λ key. refl;
    worked = λ key. refl;
    machines = refl;
    failed = refl;
    calls = same_count told it b answer (k.task n).pinged only stands t other;
  }
    where
      not_it : (j x : ℕ) → slice_get (k.task t).disks j ≡ Some x → eqb d x ≡ false
      not_it j x is = none_at (eqb d) (k.task t).disks j x (allows.not_deleting t other going) is

  other_work : (t : ℕ) → eqb n t ≡ false → (o : Option Work) → IsWork told t o
      → IsWork new t (option_map (gone_by goes d place) o)
  other_work t other (Some work) (going, later, (swept, work_stands, are_swept)) = (
    going_same told it b answer (k.task n).pinged only stands t ∙ going,
    later,
    (
      swept,
      subst (λ w. StandsFor new (new.known.task t) t swept w)
          (sym (unlisted goes d place work (k.task t).disks (work_stands.disks).items_are
          (allows.not_deleting t other going)))
          (subst (λ (it : Task). StandsFor new it t swept work) (sym (λ j. if other j then task_now else k.task t))
          (listed_goes_on told new (k.task t) t swept work (same_for t swept other going) work_stands)),
      swept_same t swept are_swept,
    ),
  )
  other_work t other None gone = λ later. going_same told it b answer (k.task n).pinged only stands t ∙ gone later

  works : (t : ℕ) → IsWork new t (work_of ended t)
  works t = subst (IsWork new t) (sym (work_is t)) (by (eqb n t) refl)
    where
      by : (u : Bool) → eqb n t ≡ u
          → IsWork new t (if u then option_map
          (λ w. gone_by goes d place (ended_work asked places fail w)) (work_of it t)
          else option_map (gone_by goes d place) (work_of it t))
      by true is =
          subst (λ t. IsWork new t
          (option_map (λ w. gone_by goes d place (ended_work asked places fail w)) (work_of it t)))
          (eqb-true n t is) (own_work (work_of it n) refl (stands.works n))
      by false is = other_work t is (work_of it t) (stands.works t)

  -- ---- places

  was_work : (t : ℕ) (w : Work) → work_of ended t ≡ Some w → WasWork it t w
  was_work t w is = by (eqb n t) (work_of it t) refl (sym (work_is t) ∙ is)
    where
      old_of : (change : Work → Work) → ((w : Work) → ListsSame (change w) w) → (o : Option Work) → work_of it t ≡ o
          → option_map change o ≡ Some w → WasWork it t w
      old_of change keeps (Some old) there is =
          let same : change old ≡ w = cc in
          record { old = old; is = there; same = subst (λ w. ListsSame w old) same (keeps old) }
      old_of change keeps None there is = absurd cc

      itself : (w : Work) → ListsSame w w
      itself w = record { pings = refl; obsolete = refl; changed = refl; sweep = refl; disks = refl }

      by : (u : Bool) (o : Option Work) → work_of it t ≡ o
          → (if u then option_map (λ w. gone_by goes d place (ended_work asked places fail w)) (work_of it t)
          else option_map (gone_by goes d place) (work_of it t)) ≡ Some w → WasWork it t w
      by true o there is = old_of (λ w. gone_by goes d place (ended_work asked places fail w))
          (λ w. gone_same goes d place (ended_work asked places fail w) w (ends_same asked places fail w))
          (work_of it t) refl is
      by false o there is = old_of (gone_by goes d place) (λ w. gone_same goes d place w w (itself w))
          (work_of it t) refl is

  linked : IsLinked ended
  linked = record {
    wants = kept.wants;
    pings = kept.pings;
    leaving = kept.leaving;
    changes = kept.changes;
    sweeps = kept.sweeps;
    deletions = λ t w x loose is there dep. let old : WasWork it t w = was_work t w is in
        by x loose (eqb d x) (orphan_of it x) refl (sym (orphan_is x) ∙ there) (place_of eqb x w.disks.items)
        (λ loose is. stands.linked.deletions t old.old x loose old.is is dep
        ∙ ap (place_of eqb x) (sym (old.same).disks));
  }
    where
      kept : IsLinked (record ended { orphans = it.orphans })
      kept = links_go_on it (record ended { orphans = it.orphans }) (record {
        wants = λ i. refl;
        goals = λ dep. refl;
        parts = λ i. refl;
        deps = λ t. refl;
        works = was_work;
        machines = λ name. refl;
        orphans = λ x. refl;
      }) stands.linked

      -- one that is there is where it was
      from : (g s : Bool) (loose : LooseDisk) (o : Option LooseDisk) → loose_by g s o ≡ Some loose
          → option_and_then (λ (loose : LooseDisk). loose.deleting) o ≡ loose.deleting
      from true s loose o is = absurd cc
      from false s loose None is = absurd cc
      from false s loose (Some old) is =
          let same : record old { orphan = orphan_told s old.orphan; call = None } ≡ loose = cc in
          ap (λ (loose : LooseDisk). loose.deleting) same

      by : (x : ℕ) (loose : LooseDisk) (u : Bool) (o : Option LooseDisk) → orphan_of it x ≡ o
          → (if u then loose_by goes settles (orphan_of it x) else orphan_of it x) ≡ Some loose
          → (place : Option ℕ)
          → ((loose : LooseDisk) → orphan_of it x ≡ Some loose → loose.deleting ≡ place) → loose.deleting ≡ place
      by x loose false o was is place listed = listed loose is
      by x loose true (Some old) was is place listed =
          sym (from goes settles loose (orphan_of it x) is)
          ∙ ap (option_and_then (λ (loose : LooseDisk). loose.deleting)) was ∙ listed old was
      by x loose true None was is place listed =
          absurd (none_there goes settles (ap (loose_by goes settles) (sym was) ∙ is))
        where
          none_there : (g s : Bool) → loose_by g s None ≡ Some loose → ⊥
          none_there true s is = absurd cc
          none_there false s is = absurd cc

  -- ---- all

  ended_stands : StandsInOrder new ended
  ended_stands = λ ordered. record {
    uploads = stands.uploads;
    deployments = stands.deployments;
    rows = stands.rows;
    row_calls = λ x. stands.row_calls x
        ∙ sym (other_calls told it b answer (k.task n).pinged only stands (Instance x) refl);
    machines = stands.machines;
    machine_keys = λ name later. stands.machine_keys name later
        ∙ sym (task_same told it b answer (k.task n).pinged only stands
        (λ (it : Task). option_and_then
        (λ key. first_marked (map (λ work. same_key work.key key) (keys_of it.goal)))
        (key_of_slot (k.slot name.task name.slot))) refl name.task);
    machine_calls = λ name. stands.machine_calls name
        ∙ sym (other_calls told it b answer (k.task n).pinged only stands (Compile name.task name.slot) refl);
    orphans = orphans;
    orphan_calls = orphan_calls;
    digests = stands.digests;
    compiling = λ key. stands.compiling key
        ∙ sym (any_within (λ c. holds (λ (d : Begin). compiles key d.call) (at eqb number None told.calls c))
        (λ c. holds (λ (d : Begin). compiles key d.call) (told.calls c)) k.last_call
        (λ c low. still told it b answer (k.task n).pinged only stands (λ o. holds
        (λ (d : Begin). compiles key d.call) o)
        (sym (allows.compiles_none key)) c));
    tasks = λ t. stands.tasks t
        ∙ sym (task_same told it b answer (k.task n).pinged only stands
        (λ (it : Task). if nat_le 1 t && nat_le t k.tasks then Some (row_by t it) else None) refl t);
    calls = calls_last told it b answer (k.task n).pinged only stands (once_of stands.ordered).calls;
    works = works;
    linked = linked;
    ordered = ordered;
    tells_well = let tells : TellsWell _ = tells_last told it b answer (k.task n).pinged only stands in record {
      number = tells.number;
      low = tells.low;
      past = tells.past;
      begun = tells.begun;
      begun_past = tells.begun_past;
      failed = tells.failed;
      going = tells.going;
      one_owner = tells.one_owner;
      one_key = tells.one_key;
      recorded = tells.recorded;
      counted = tells.counted;
      disks_apart = tells.disks_apart;
      updates = tells.updates;
    };
  }

  -- .. as it is learned
  pub after_disk_end : StandsInOrder (telling told (entries.End e)) (ended_in (ended_of was e) it)
  after_disk_end =
      subst (λ (plan : Ended). StandsInOrder (telling told (entries.End e)) (ended_in plan it)) (sym plan_is)
      (subst (StandsInOrder (telling told (entries.End e))) (sym ended_is) (subst (λ (told : Told). StandsInOrder told ended)
      (sym told_is) ended_stands))
