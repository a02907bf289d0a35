-- Where a task may open at a moment for which the records stand, what it is to do is there and has no open call.
use Rattle.std.proofs.Common.{◌≡◌, ◌∙◌, ℕ, ◌+◌, ◌≤◌, true, false, ◌&&◌, ◌==◌, Some, ap, arith}
use Rattle.std.proofs.Common.{subst, sym}
use Rattle.std.specs.Prelude.{eqb, is_some, nat_le}
use Rattle.std.proofs.lemmas.Bool.{and_parts, leb-true, ne_eqb}
use Rattle.bosh_base.specs.declared.entry.Begin.{Begin}
use Rattle.bosh_base.specs.declared.entry.Entry.TheVariants as entries
use Rattle.bosh_base.specs.declared.entry.TaskOpen.{TaskOpen}
use Rattle.bosh_base.specs.declared.owner.Owner.TheVariants.{Compile, Disk}
use Rattle.bosh_history.specs.Held.{is_open}
use Rattle.bosh_history.specs.Known.{Known}
use Rattle.bosh_history.specs.Moments.{Moment}
use Rattle.bosh_history.specs.Openings.{MayOpen}
use Rattle.bosh_history.specs.Tasks.{asks_of, has_machine}
use Rattle.bosh_history.specs.Words.{is_among}
use Rattle.bosh_plan.specs.WorkBy.{work_by}
use Rattle.bosh_records.specs.Recorded.{recorded}
use Rattle.bosh_records.specs.declared.records.Records.{Records}
use Rattle.bosh_rows.specs.Standing.{same_truth}
use Rattle.bosh_work.specs.declared.part.MachineName.{MachineName}
use Rattle.laws_facts.proofs.WorkLemmas.{opens_next}
use Rattle.laws_facts.specs.KnownFacts.{KnownFacts}
use Rattle.laws_row_facts.specs.Words.{where_any}
use Rattle.laws_stands.specs.Agrees.{Agrees}
use Rattle.laws_stands.specs.Linked.{same_machine}
use Rattle.laws_stands.specs.Stands.{Stands}
use Rattle.laws_stands.specs.Told.{Told, idle_in, is_idle, telling}
use Rattle.laws_stands_fits.specs.Own.{TellsOwn}
use Rattle.laws_stands_works.proofs.AskedLemmas.{asked_are}
use Rattle.laws_stands_works.proofs.KeptLemmas.{all_among, all_filtered}
use Rattle.laws_stands_works.proofs.OwnLemmas.{IsOrderly, asked_own, deleting_own, disk_idle, instance_idle, leaving_own}
use Rattle.laws_stands_works.proofs.OwnLemmas.{machine_idle, orderly}
use Rattle.laws_stands_works.proofs.SweptLemmas.{IsOwnMachine, are_swept, ended, machine_own, none_of_task, own_machine}
use Rattle.laws_stands_works.proofs.SweptLemmas.{swept_there}
use Rattle.laws_stands_works.proofs.WorkLemmas.{AllowsWork, work_stands}
use Rattle.laws_stands_works.specs.Opens.{IsWorkOpened, swept_by}

module _ (told : Told) (records : Records) (o : TaskOpen) (stands : Stands told records) (own : TellsOwn told)
    (well : IsOrderly told.known) (may : MayOpen told.known o) where
  abbrev k : Known
  k = told.known

  -- an open call is of a task that was opened before
  no_call : (n : ℕ) (b : Begin) → told.calls n ≡ Some b → (b.task == o.task) ≡ false
  no_call n b is =
      let more : (nat_le b.task k.tasks && is_open k b.task) ≡ true =
      (and_parts (nat_le 1 b.task) (nat_le b.task k.tasks && is_open k b.task) (stands.tells_well.going n b is)).1 in
      let high : b.task ≤ k.tasks =
      leb-true b.task k.tasks (and_parts (nat_le b.task k.tasks) (is_open k b.task) more).0 in
      let next : o.task ≡ k.tasks + 1 = opens_next k o may in
      ne_eqb b.task o.task (λ same. omega arith)

  -- a disk that is listed is there
  disk_there : (d : ℕ) → is_among eqb d k.orphans ≡ true → is_some (k.orphan d) ≡ true
  disk_there d among =
      ap (λ b. same_truth b (is_some (k.orphan d))) (sym among)
      ∙ (and_parts (same_truth (is_among eqb d k.orphans) (is_some (k.orphan d)))
      (where_any (λ it. it.disk == d) (k.orphan d)) (well.orphan_listed d)).0

  machine_rests : (name : MachineName) → is_among same_machine name (swept_by records o) ≡ true
      → is_idle told (Compile name.task name.slot) ≡ true
  machine_rests name among =
      let it : IsOwnMachine k o.dep name =
      own_machine told (recorded records) stands o well may name among in
      machine_idle told o may stands.tells_well own name.task name.slot it.row it.is_there it.dep_is

  allows_work : AllowsWork told records o
  allows_work = record {
    asked = asked_are told (recorded records) stands o well.instances;
    no_call = no_call;
    no_machine = none_of_task told (recorded records) stands o well may;
    pings_idle = all_filtered (idle_in told) (λ i. asks_of o.kind o.dep i && has_machine k i)
        (λ i both. instance_idle told o may stands.tells_well own i
        (asked_own k o well may i (and_parts (asks_of o.kind o.dep i) (has_machine k i) both).0)) k.instances;
    obsolete_idle = leaving_own k o (idle_in told) (instance_idle told o may stands.tells_well own) may;
    disks_there = deleting_own k o (λ d. is_some (k.orphan d)) (λ d dep there. disk_there d there) may;
    disks_idle = deleting_own k o (λ d. is_idle told (Disk d))
        (λ d dep there. disk_idle told o may stands.tells_well own d dep) may;
    swept_there = swept_there told (recorded records) stands o well may;
    swept_idle = all_among same_machine machine_own (λ (name : MachineName). is_idle told (Compile name.task name.slot))
        (swept_by records o) machine_rests;
  }

  opened : IsWorkOpened (telling told (entries.TaskOpen o)) o.task (swept_by records o) (work_by records o)
  opened = record {
    stands = work_stands told records o allows_work stands;
    are_swept = are_swept told (recorded records) stands o well may;
    ended = ended told (recorded records) stands o well may;
  }

pub work_opened : (m : Moment) (told : Told) (records : Records) (o : TaskOpen) → Stands told records → Agrees m told
    → KnownFacts m → TellsOwn told → MayOpen m.known o
    → IsWorkOpened (telling told (entries.TaskOpen o)) o.task (swept_by records o) (work_by records o)
work_opened m told records o stands agrees facts own may =
    opened told records o stands own (subst IsOrderly (sym agrees.known_is) (orderly m facts))
    (subst (λ known. MayOpen known o) (sym agrees.known_is) may)
