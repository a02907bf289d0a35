-- Calls and updates, as they are learned, keep works, places and deployments.
use Rattle.std.proofs.Common.{◌≡◌, ℕ, Bool, true, false, List, [], ◌∷◌, Option, Some, None, refl, subst, sym}
use Rattle.std.specs.Prelude.{option_map, ◌==◌, if◌then◌else◌}
use Rattle.std.specs.List.Sorted.{IsStrictlySortedBy}
use Rattle.std.specs.Option.{option_and_then}
use Rattle.std.specs.Ordering.{nat_cmp}
use Rattle.bosh_base.specs.declared.call.Call.{Call}
use Rattle.bosh_base.specs.declared.call.Call.TheVariants as calls
use Rattle.bosh_base.specs.declared.row.Doubt.{Doubt}
use Rattle.bosh_base.specs.declared.entry.Begin.{Begin}
use Rattle.bosh_base.specs.declared.digest.Digest.{Digest}
use Rattle.bosh_base.specs.declared.entry.Entry.TheVariants as entries
use Rattle.bosh_base.specs.declared.entry.Update.{Update}
use Rattle.bosh_base.specs.declared.key.Key.{Key}
use Rattle.bosh_base.specs.declared.owner.Owner.{Owner}
use Rattle.bosh_base.specs.declared.owner.Owner.TheVariants as owners
use Rattle.bosh_base.specs.declared.row.Row.{Row}
use Rattle.bosh_base.specs.declared.snapshot.Orphan.{Orphan}
use Rattle.bosh_base.specs.declared.task.TaskEnd.{TaskEnd}
use Rattle.bosh_fold.specs.Calls as calls_in
use Rattle.bosh_fold.specs.Calls.{begun_in, ended_in}
use Rattle.bosh_fold.specs.Updates.{left_in, loose, update_begun_in, update_finished_in, updated_in, with_left_behind, with_loose, with_row_of}
use Rattle.bosh_plan.specs.declared.beginning.Begun.{Begun}
use Rattle.bosh_plan.specs.declared.beginning.Subject.{Subject}
use Rattle.bosh_plan.specs.declared.beginning.Subject.TheVariants as subjects
use Rattle.bosh_plan.specs.declared.ending.After.{After}
use Rattle.bosh_plan.specs.declared.ending.After.TheVariants as afters
use Rattle.bosh_plan.specs.declared.ending.Ended.{Ended}
use Rattle.bosh_plan.specs.declared.ending.Told.{Told}
use Rattle.bosh_plan.specs.declared.ending.Told.TheVariants as tolds
use Rattle.bosh_plan.specs.declared.updating.Updated.{Updated}
use Rattle.bosh_records.specs.Arrivals.{Arrivals}
use Rattle.bosh_records.specs.Changes.{machine_there, with_disk_call, with_disk_doubt, with_left, with_machine_call}
use Rattle.bosh_records.specs.Changes.{with_machine_doubt, with_one_call, with_pinged}
use Rattle.bosh_records.specs.Ordered.{AreInOrder, AreOrdered}
use Rattle.bosh_records.specs.Places.{part_of, places_in}
use Rattle.bosh_records.specs.Readers.{machine_cmp}
use Rattle.bosh_records.specs.Recorded.{Recorded}
use Rattle.bosh_records.specs.Table.{changed, each_thing, thing_in, without}
use Rattle.bosh_records.specs.declared.keys.KeyState.{KeyState}
use Rattle.bosh_records.specs.declared.machines.Machine.{Machine}
use Rattle.bosh_work.specs.Finished as finished
use Rattle.bosh_work.specs.Line.{finished_line, given_line}
use Rattle.bosh_work.specs.Work as works
use Rattle.bosh_work.specs.declared.line.Line.{Line}
use Rattle.bosh_work.specs.declared.part.MachineName.{MachineName}
use Rattle.bosh_work.specs.declared.part.Places.{Places}
use Rattle.bosh_work.specs.declared.work.Work.{Work}
use Rattle.laws_stands.proofs.OrderLemmas.{once_in}
use Rattle.laws_stands_fits.proofs.KeepsLemmas.{Keeps, keeps_itself, keeps_then}
use Rattle.laws_stands_fits.proofs.OpsLemmas.{keeps_deleted, keeps_disk, keeps_dropped, keeps_each_work, keeps_instance, keeps_left}
use Rattle.laws_stands_fits.proofs.OpsLemmas.{keeps_machine, keeps_made, keeps_task, keeps_work}
use Rattle.laws_stands_on.proofs.BegunLemmas.{takes_same}
use Rattle.laws_stands_on.proofs.LinkLemmas.{ListsSame}
use Rattle.laws_stands_on.proofs.TableLemmas.{altered_keys}

-- what says nothing of works, places and deployments
pub keeps_others : (it : Recorded) (came : Arrivals) (keys : List (Key × KeyState)) (begun : List (ℕ × Option Begin))
    → Keeps it (record it { came = came; keys = keys; calls = begun })
keeps_others it came keys begun = record {
  works = (keeps_itself it).works;
  are_open = (keeps_itself it).are_open;
  deps = (keeps_itself it).deps;
  parts = (keeps_itself it).parts;
  machines = (keeps_itself it).machines;
  orphans = (keeps_itself it).orphans;
  deployments = (keeps_itself it).deployments;
}

-- ---- what a work lists stays

given_items : {T : Type 0} (line : Line T) (o : Option ℕ) → (given_line line o).items ≡ line.items
given_items line None = refl
given_items line (Some place) = refl

finished_items : {T : Type 0} (line : Line T) (o : Option ℕ) → (finished_line line o).items ≡ line.items
finished_items line None = refl
finished_items line (Some place) = refl

gives_same : (w : Work) (places : Places) → ListsSame (works.given w places) w
gives_same w places = record {
  pings = given_items w.pings places.part.ping;
  obsolete = given_items w.obsolete places.part.leaving;
  changed = refl;
  sweep = given_items w.sweep places.sweep;
  disks = given_items w.disks places.deleting;
}

pings_same : (place : Option ℕ) (w : Work) → ListsSame (with_pinged place w) w
pings_same place w = record {
  pings = finished_items w.pings place;
  obsolete = refl;
  changed = refl;
  sweep = refl;
  disks = refl;
}

leaves_same : (place : Option ℕ) (w : Work) → ListsSame (with_left place w) w
leaves_same place w = record {
  pings = refl;
  obsolete = finished_items w.obsolete place;
  changed = refl;
  sweep = refl;
  disks = refl;
}

swept_same : (name : MachineName) (place : ℕ) (w : Work) → ListsSame (finished.without_swept name place w) w
swept_same name place w = record {
  pings = refl;
  obsolete = refl;
  changed = refl;
  sweep = by (finished.stands_at (finished.is_machine name) place w.sweep);
  disks = refl;
}
  where
    by : (b : Bool) → (if b then finished_line w.sweep (Some place) else w.sweep).items ≡ w.sweep.items
    by true = refl
    by false = refl

deleted_same : (d place : ℕ) (w : Work) → ListsSame (finished.without_disk d place w) w
deleted_same d place w = record {
  pings = refl;
  obsolete = refl;
  changed = refl;
  sweep = refl;
  disks = by (finished.stands_at (λ it. it == d) place w.disks);
}
  where
    by : (b : Bool) → (if b then finished_line w.disks (Some place) else w.disks).items ≡ w.disks.items
    by true = refl
    by false = refl

-- ---- what is recorded of an owner

row_keeps : (row : Row) (it : Recorded) → Keeps it (calls_in.with_row row it)
row_keeps row it = keeps_instance it row.inst (λ known. record known { row = Some row }) (λ known. refl)

call_keeps : (owner : Owner) (call : Option ℕ) (it : Recorded) → Keeps it (calls_in.with_call owner call it)
call_keeps (owners.Instance i) call it = keeps_instance it i (λ known. record known { call = call }) (λ known. refl)
call_keeps (owners.Compile t s) call it =
    keeps_machine it (calls_in.machine_name t s) (with_machine_call call) (λ m. refl) (λ m. refl)
call_keeps (owners.Disk d) call it = keeps_disk it d (with_disk_call call) (λ loose. refl)

compiling_keeps : (call : Call) (number : Option ℕ) (it : Recorded)
    → Keeps it (calls_in.with_compiling call number it)
compiling_keeps (calls.CompilePackage vm work deps) number it =
    keeps_others it it.came (calls_in.with_compiling (calls.CompilePackage vm work deps) number it).keys it.calls
compiling_keeps call number it = keeps_itself it

doubt_keeps : (owner : Owner) (doubt : Doubt) (it : Recorded) → Keeps it (calls_in.with_doubt owner doubt it)
doubt_keeps (owners.Instance i) doubt it = keeps_itself it
doubt_keeps (owners.Compile t s) doubt it =
    keeps_machine it (calls_in.machine_name t s) (with_machine_doubt doubt) (λ m. refl) (λ m. refl)
doubt_keeps (owners.Disk d) doubt it = keeps_disk it d (with_disk_doubt (Some doubt)) (λ loose. refl)

-- ---- the beginning of a call

-- a machine that is made is swept by nobody
abbrev pub IsFree : Subject → Type 0
IsFree (subjects.Machine machine) = machine.sweep ≡ None
IsFree subject = Unit {0}

subject_keeps : (owner : Owner) (subject : Subject) (it : Recorded) → IsFree subject
    → Keeps it (calls_in.with_subject owner subject it)
subject_keeps owner (subjects.Instance row) it free = row_keeps row it
subject_keeps owner (subjects.Machine machine) it free =
    keeps_then it counted (calls_in.with_machine_of machine it)
    (keeps_work it machine.row.task (λ work. works.with_machine work machine.key) (λ w. record { pings = refl; obsolete = refl; changed = refl; sweep = refl; disks = refl }))
    (keeps_made counted (calls_in.machine_name machine.row.task machine.row.slot) machine free)
  where
    counted : Recorded
    counted = record it {
      works = changed nat_cmp machine.row.task (λ work. works.with_machine work machine.key) it.works;
    }
subject_keeps owner (subjects.Doubt doubt) it free = doubt_keeps owner doubt it
subject_keeps owner subjects.Same it free = keeps_itself it

opened_keeps : (begin : Begin) (it : Recorded) → Keeps it (calls_in.opened_call begin it)
opened_keeps begin it =
    keeps_then it called (calls_in.opened_call begin it) (call_keeps begin.owner (Some begin.n) it)
    (keeps_then called compiling (calls_in.opened_call begin it) (compiling_keeps begin.call (Some begin.n) called)
    (keeps_work compiling begin.task (λ work. works.taken work (places_in compiling begin.owner))
    (λ w. takes_same w (places_in compiling begin.owner))))
  where
    called : Recorded
    called = calls_in.with_call begin.owner (Some begin.n) it

    compiling : Recorded
    compiling = calls_in.with_compiling begin.call (Some begin.n) called

pub begun_keeps : (begun : Begun) (it : Recorded) → IsFree begun.subject → Keeps it (begun_in begun it)
begun_keeps begun it free =
    keeps_then it told (begun_in begun it) (subject_keeps begun.begin.owner begun.subject it free)
    (keeps_then told opened (begun_in begun it) (opened_keeps begun.begin told)
    (keeps_then opened counted (begun_in begun it) (keeps_task opened begun.begin.task with_one_call (λ row. refl))
    (keeps_others counted (begun_in begun it).came counted.keys (begun_in begun it).calls)))
  where
    told : Recorded
    told = calls_in.with_subject begun.begin.owner begun.subject it

    opened : Recorded
    opened = calls_in.opened_call begun.begin told

    counted : Recorded
    counted = calls_in.counted begun.begin.task opened

-- ---- the end of a call

closed_keeps : (begin : Begin) (it : Recorded) → Keeps it (calls_in.closed_call begin it)
closed_keeps begin it =
    keeps_then it called (calls_in.closed_call begin it) (call_keeps begin.owner None it)
    (compiling_keeps begin.call None called)
  where
    called : Recorded
    called = calls_in.with_call begin.owner None it

given_keeps : (task : ℕ) (owner : Owner) (it : Recorded) → Keeps it (calls_in.given_by task owner it)
given_keeps task owner it =
    keeps_work it task (λ work. works.given work (places_in it owner)) (λ w. gives_same w (places_in it owner))

pinged_keeps : (asked : Bool) (call : Call) (begin : Begin) (it : Recorded)
    → Keeps it (calls_in.pinged_by asked (record begin { call = call }) it)
pinged_keeps true (calls.Ping vm) begin it =
    keeps_work it begin.task (with_pinged (places_in it begin.owner).part.ping)
    (pings_same (places_in it begin.owner).part.ping)
pinged_keeps false (calls.Ping vm) begin it = keeps_itself it
pinged_keeps asked call begin it = keeps_itself it

failed_keeps : (task : ℕ) (failed : Option TaskEnd) (it : Recorded) → Keeps it (calls_in.failed_in task failed it)
failed_keeps task failed it = keeps_work it task (λ work. works.failed_by work failed) (λ w. record { pings = refl; obsolete = refl; changed = refl; sweep = refl; disks = refl })

built_keeps : (call : Call) (built : Option Digest) (it : Recorded) → Keeps it (calls_in.built_in call built it)
built_keeps (calls.CompilePackage vm work deps) (Some digest) it =
    keeps_then it worked done (keeps_each_work it (finished.without_key work.key) (λ w. record { pings = refl; obsolete = refl; changed = refl; sweep = refl; disks = refl }))
    (keeps_others worked worked.came done.keys worked.calls)
  where
    worked : Recorded
    worked = record it { works = each_thing (finished.without_key work.key) it.works }

    done : Recorded
    done = calls_in.built_in (calls.CompilePackage vm work deps) (Some digest) it
built_keeps call built it = keeps_itself it

-- ---- what an answer tells

-- the keys of the tables of machines and of disks stand in order
record StandInOrder (it : Recorded) : Type 0 where
  machines : AreInOrder machine_cmp it.machines
  orphans : AreInOrder nat_cmp it.orphans

swept_keeps : (name : MachineName) (place : Option ℕ) (it : Recorded) → Keeps it (calls_in.swept_in name place it)
swept_keeps name (Some place) it = keeps_each_work it (finished.without_swept name place) (swept_same name place)
swept_keeps name None it = keeps_itself it

dropped_keeps : (name : MachineName) (machine : Option Machine) (it : Recorded) → StandInOrder it
    → Keeps it (calls_in.dropped_machine name machine it)
dropped_keeps name (Some machine) it order =
    keeps_then it gone (calls_in.dropped_machine name (Some machine) it)
    (keeps_dropped it name (once_in machine_cmp it.machines order.machines))
    (keeps_then gone counted (calls_in.dropped_machine name (Some machine) it)
    (keeps_work gone name.task (λ work. works.without_machine work machine.key) (λ w. record { pings = refl; obsolete = refl; changed = refl; sweep = refl; disks = refl }))
    (swept_keeps name machine.sweep counted))
  where
    gone : Recorded
    gone = record it { machines = without machine_cmp name it.machines }

    counted : Recorded
    counted = record gone { works = changed nat_cmp name.task (λ work. works.without_machine work machine.key) it.works }
dropped_keeps name None it order = keeps_itself it

machine_keeps : (name : MachineName) (told : Told) (it : Recorded) → StandInOrder it
    → Keeps it (calls_in.machine_told name told it)
machine_keeps name tolds.Nothing it order = keeps_itself it
machine_keeps name (tolds.There vm) it order = keeps_machine it name (machine_there vm) (λ m. refl) (λ m. refl)
machine_keeps name tolds.Absent it order = dropped_keeps name (thing_in machine_cmp it.machines name) it order

deleted_keeps : (disk : ℕ) (place : Option ℕ) (it : Recorded) → Keeps it (calls_in.deleted_in disk place it)
deleted_keeps disk (Some place) it = keeps_each_work it (finished.without_disk disk place) (deleted_same disk place)
deleted_keeps disk None it = keeps_itself it

disk_keeps : (disk : ℕ) (told : Told) (it : Recorded) → StandInOrder it → Keeps it (calls_in.disk_told disk told it)
disk_keeps disk tolds.Nothing it order = keeps_itself it
disk_keeps disk (tolds.There vm) it order = keeps_disk it disk (with_disk_doubt None) (λ loose. refl)
disk_keeps disk tolds.Absent it order =
    keeps_then it gone (calls_in.disk_told disk tolds.Absent it)
    (keeps_deleted it disk (once_in nat_cmp it.orphans order.orphans))
    (deleted_keeps disk (option_and_then (λ loose. loose.deleting) (thing_in nat_cmp it.orphans disk)) gone)
  where
    gone : Recorded
    gone = record it { orphans = without nat_cmp disk it.orphans }

told_keeps : (owner : Owner) (after : Option After) (it : Recorded) → StandInOrder it
    → Keeps it (calls_in.told_of owner after it)
told_keeps owner None it order = keeps_itself it
told_keeps owner (Some (afters.Instance row)) it order = row_keeps row it
told_keeps (owners.Instance i) (Some (afters.Other told)) it order = keeps_itself it
told_keeps (owners.Compile t s) (Some (afters.Other told)) it order =
    machine_keeps (calls_in.machine_name t s) told it order
told_keeps (owners.Disk d) (Some (afters.Other told)) it order = disk_keeps d told it order

-- ---- orders stay

closed_order : (owner : Owner) (it : Recorded) → StandInOrder it → StandInOrder (calls_in.with_call owner None it)
closed_order (owners.Instance i) it order = record { machines = order.machines; orphans = order.orphans }
closed_order (owners.Compile t s) it order = record {
  machines =
      subst (IsStrictlySortedBy machine_cmp)
      (sym (altered_keys machine_cmp (calls_in.machine_name t s) (option_map (with_machine_call None)) it.machines))
      order.machines;
  orphans = order.orphans;
}
closed_order (owners.Disk d) it order = record {
  machines = order.machines;
  orphans =
      subst (IsStrictlySortedBy nat_cmp) (sym (altered_keys nat_cmp d (option_map (with_disk_call None)) it.orphans))
      order.orphans;
}

compiling_order : (call : Call) (it : Recorded) → StandInOrder it
    → StandInOrder (calls_in.with_compiling call None it)
compiling_order (calls.CompilePackage vm work deps) it order =
    record { machines = order.machines; orphans = order.orphans }
compiling_order call it order = order

pinged_order : (asked : Bool) (call : Call) (begin : Begin) (it : Recorded) → StandInOrder it
    → StandInOrder (calls_in.pinged_by asked (record begin { call = call }) it)
pinged_order true (calls.Ping vm) begin it order = record { machines = order.machines; orphans = order.orphans }
pinged_order false (calls.Ping vm) begin it order = order
pinged_order asked call begin it order = order

-- ---- all of it

answered_keeps : (begin : Begin) (ended : Ended) (it : Recorded) → StandInOrder it
    → Keeps it (calls_in.answered_in begin ended it)
answered_keeps begin ended it order =
    keeps_then it closed all (closed_keeps begin it)
    (keeps_then closed given all (given_keeps begin.task begin.owner closed)
    (keeps_then given pinged all (pinged_keeps ended.is_asked begin.call begin given)
    (keeps_then pinged failed all (failed_keeps begin.task ended.failed pinged)
    (keeps_then failed told all (told_keeps begin.owner ended.after failed
    (record { machines = stood.machines; orphans = stood.orphans }))
    (built_keeps begin.call ended.built told)))))
  where
    closed : Recorded
    closed = calls_in.closed_call begin it

    given : Recorded
    given = calls_in.given_by begin.task begin.owner closed

    pinged : Recorded
    pinged = calls_in.pinged_by ended.is_asked begin given

    failed : Recorded
    failed = calls_in.failed_in begin.task ended.failed pinged

    told : Recorded
    told = calls_in.told_of begin.owner ended.after failed

    all : Recorded
    all = calls_in.answered_in begin ended it

    begun : StandInOrder closed
    begun = compiling_order begin.call (calls_in.with_call begin.owner None it) (closed_order begin.owner it order)

    stood : StandInOrder pinged
    stood = pinged_order ended.is_asked begin.call begin given
        (record { machines = begun.machines; orphans = begun.orphans })

pub ended_keeps : (ended : Ended) (it : Recorded) → AreOrdered it → Keeps it (ended_in ended it)
ended_keeps ended it ordered = by (thing_in nat_cmp it.calls ended.n)
  where
    fewer : Recorded
    fewer = record it { calls = without nat_cmp ended.n it.calls }

    kept : Keeps it fewer
    kept = keeps_others it it.came it.keys fewer.calls

    by : (o : Option Begin) → Keeps it (calls_in.ended_by o ended fewer)
    by (Some begin) = keeps_then it fewer (calls_in.answered_in begin ended fewer) kept
        (answered_keeps begin ended fewer (record { machines = ordered.machines; orphans = ordered.orphans }))
    by None = kept

-- ---- updates

pub update_begun_keeps : (u : Update) (it : Recorded) → Keeps it (update_begun_in u it)
update_begun_keeps u it =
    keeps_work it u.task (λ work. works.update_begun work (part_of it u.inst).change) (λ w. record { pings = refl; obsolete = refl; changed = refl; sweep = refl; disks = refl })

update_finished_keeps : (u : Update) (it : Recorded) → Keeps it (update_finished_in u it)
update_finished_keeps u it =
    keeps_work it u.task (λ work. works.update_finished work (part_of it u.inst).change) (λ w. record { pings = refl; obsolete = refl; changed = refl; sweep = refl; disks = refl })

left_keeps : (u : Update) (it : Recorded) → Keeps it (left_in u it)
left_keeps u it =
    keeps_then it worked (left_in u it)
    (keeps_work it u.task (with_left (part_of it u.inst).leaving) (leaves_same (part_of it u.inst).leaving))
    (keeps_instance worked u.inst (λ known. record known { row = None }) (λ known. refl))
  where
    worked : Recorded
    worked = record it { works = changed nat_cmp u.task (with_left (part_of it u.inst).leaving) it.works }

behind_keeps : (left : List Orphan) (it : Recorded) → Keeps it (with_left_behind left it)
behind_keeps [] it = keeps_itself it
behind_keeps (orphan ∷ left) it =
    keeps_then it one (with_left_behind (orphan ∷ left) it) (keeps_left it orphan.disk (loose orphan) refl)
    (behind_keeps left one)
  where
    one : Recorded
    one = record it { orphans = with_loose it.orphans orphan }

row_of_keeps : (row : Option Row) (it : Recorded) → Keeps it (with_row_of row it)
row_of_keeps (Some row) it = row_keeps row it
row_of_keeps None it = keeps_itself it

pub update_done_keeps : (u : Update) (updated : Updated) (it : Recorded)
    → Keeps it (updated_in (entries.UpdDone u) updated it)
update_done_keeps u updated it =
    keeps_then it done all (update_finished_keeps u it)
    (keeps_then done rowed all (row_of_keeps updated.row done) (behind_keeps updated.left.items rowed))
  where
    done : Recorded
    done = update_finished_in u it

    rowed : Recorded
    rowed = with_row_of updated.row done

    all : Recorded
    all = updated_in (entries.UpdDone u) updated it

pub gone_keeps : (u : Update) (updated : Updated) (it : Recorded) → Keeps it (updated_in (entries.Gone u) updated it)
gone_keeps u updated it =
    keeps_then it done all (left_keeps u it)
    (keeps_then done rowed all (row_of_keeps updated.row done) (behind_keeps updated.left.items rowed))
  where
    done : Recorded
    done = left_in u it

    rowed : Recorded
    rowed = with_row_of updated.row done

    all : Recorded
    all = updated_in (entries.Gone u) updated it
