-- Entries, as they are learned, leave what fits fitting.
use Rattle.std.proofs.Common.{◌≡◌, ◌∙◌, ℕ, Bool, true, false, List, Option, Some, None, ap, inr, refl, subst, sym}
use Rattle.std.specs.Prelude.{is_some}
use Rattle.std.specs.Option.{option_map_or}
use Rattle.std.proofs.lemmas.Bool.{false≢true}
use Rattle.bosh_base.specs.declared.call.Call.{Call}
use Rattle.bosh_base.specs.declared.call.Call.TheVariants as calls
use Rattle.bosh_base.specs.declared.entry.Begin.{Begin}
use Rattle.bosh_base.specs.declared.entry.Entry.{Entry}
use Rattle.bosh_base.specs.declared.entry.Entry.TheVariants as entries
use Rattle.bosh_base.specs.declared.make.Make.{Make}
use Rattle.bosh_base.specs.declared.owner.Owner.{Owner}
use Rattle.bosh_base.specs.declared.owner.Owner.TheVariants as owners
use Rattle.bosh_base.specs.declared.row.Row.{Row}
use Rattle.bosh_base.specs.declared.snapshot.Orphan.{Orphan}
use Rattle.bosh_fold.specs.Learned.{learned}
use Rattle.bosh_fold.specs.Learns.{IsAlike, Learns}
use Rattle.bosh_fold.specs.Planned.{IsPlanned, IsUpdated}
use Rattle.bosh_fold.specs.declared.change.Change.{Change}
use Rattle.bosh_fold.specs.declared.change.Change.TheVariants as changes
use Rattle.bosh_history.specs.Known.{Known}
use Rattle.bosh_history.specs.Learn.{learn}
use Rattle.bosh_history.specs.Moments.{Moment}
use Rattle.bosh_history.specs.Notes.{MayNote, Outside}
use Rattle.bosh_plan.specs.Begun.{machine_begun, machine_of, subject_of}
use Rattle.bosh_plan.specs.Ended.{ended_of}
use Rattle.bosh_plan.specs.Updated.{left_gone, left_updated, row_updated}
use Rattle.bosh_plan.specs.declared.updating.Updated.{Updated}
use Rattle.bosh_plan.specs.declared.beginning.Subject.TheVariants as subjects
use Rattle.bosh_records.specs.Changes.{since_cmp}
use Rattle.bosh_records.specs.Ordered.{AreOrdered}
use Rattle.bosh_records.specs.Readers.{dep_of_task}
use Rattle.bosh_records.specs.Recorded.{Recorded, kept, recorded}
use Rattle.bosh_records.specs.declared.records.Records.{Records}
use Rattle.bosh_work.specs.declared.part.MachineName.{MachineName}
use Rattle.laws_facts.proofs.FrameLemmas.{begun_tasks, numbers_end, numbers_updated}
use Rattle.laws_facts.proofs.LockLemmas.{is_opening, note_stays}
use Rattle.laws_stands.proofs.OrderLemmas.{once_in}
use Rattle.laws_stands.specs.Agrees.{Agrees}
use Rattle.laws_stands.specs.Stands.{Stands, StandsIn}
use Rattle.laws_stands.specs.Told.{Told, is_going, telling}
use Rattle.laws_stands_fits.proofs.KeepsLemmas.{Keeps, fits_on, keeps_itself, keeps_then, lists_itself}
use Rattle.laws_stands_fits.proofs.SinceLemmas.{since_keys}
use Rattle.laws_stands_fits.proofs.StepsLemmas.{IsFree, begun_keeps, ended_keeps, gone_keeps, keeps_others, update_begun_keeps}
use Rattle.laws_stands_fits.proofs.StepsLemmas.{update_done_keeps}
use Rattle.laws_stands_fits.specs.Fits.{Fits}
use Rattle.laws_stands_fits.specs.Whole.{StandsWhole}
use Rattle.laws_stands_fits.specs.Within.{is_within}
use Rattle.laws_stands_on.proofs.AlikeLemmas.{alike_stands, dep_same, machine_same, orphan_same, part_same, places_same, work_same}
use Rattle.laws_stands_on.proofs.RoomyLemmas.{roomy_stands}

-- ---- with room for more

pub alike_keeps : (told : Told) (was now : Recorded) → AreOrdered now → kept now ≡ kept was → StandsIn told was
    → Keeps was now
alike_keeps told was now ordered alike stands = record {
  works = λ t w is. record {
    old = w;
    is = sym (work_same told was now ordered alike stands t) ∙ is;
    same = lists_itself w;
  };
  are_open = λ t w is. ap is_some (work_same told was now ordered alike stands t ∙ is);
  deps = λ t. dep_same told was now ordered alike stands t;
  parts = λ i j. record {
    ping = part_same told was now ordered alike stands (λ part. part.ping) refl (λ it says. says.ping) i j;
    leaving = part_same told was now ordered alike stands (λ part. part.leaving) refl (λ it says. says.leaving) i j;
    change = part_same told was now ordered alike stands (λ part. part.change) refl (λ it says. says.change) i j;
  };
  machines = λ name machine is. inr (record {
    old = machine;
    is = sym (machine_same told was now ordered alike stands name) ∙ is;
    sweep = refl;
    dep = refl;
  });
  orphans = λ d loose is. inr (record {
    old = loose;
    is = sym (orphan_same told was now ordered alike stands d) ∙ is;
    deleting = refl;
  });
  deployments = places_same told was now ordered alike stands since_cmp since_keys (λ it. it.deployments)
      (once_in since_cmp was.deployments (stands.ordered).deployments) (once_in since_cmp now.deployments ordered.deployments)
      (ap (λ (it : Recorded). it.deployments) alike);
}

pub whole_with_room : (told : Told) (was now : Records) → IsAlike was now → StandsWhole told was → StandsWhole told now
whole_with_room told was now alike whole = record {
  stands = alike_stands told (recorded was) (recorded now) ordered alike.same whole.stands;
  fits = fits_on told told (recorded was) (recorded now)
      (alike_keeps told (recorded was) (recorded now) ordered alike.same whole.stands) (λ t none. none) refl whole.fits;
  own = whole.own;
}
  where
    ordered : AreOrdered (recorded now)
    ordered = alike.ordered (whole.stands).ordered

-- ---- what is planned

machine_free : (records : Records) (b : Begin) (name : MachineName) (make : Make)
    → IsFree (machine_begun records b name make)
machine_free records b name make = by (dep_of_task records name.task)
  where
    by : (o : Option (List ℕ))
        → IsFree (option_map_or (λ dep. subjects.Machine (machine_of records b name make dep)) o subjects.Same)
    by (Some dep) = refl
    by None = tt

-- a machine is made that nobody sweeps
subject_free : (records : Records) (b : Begin) (owner : Owner) (call : Call)
    → IsFree (subject_of records (record b { owner = owner; call = call }))
subject_free records b (owners.Instance i) call = tt
subject_free records b (owners.Compile t s) (calls.CreateVm make disks) =
    machine_free records (record b { owner = owners.Compile t s; call = calls.CreateVm make disks })
    (record { task = t; slot = s }) make
subject_free records b (owners.Compile t s) (calls.DeleteVm vm) = tt
subject_free records b (owners.Compile t s) call = tt
subject_free records b (owners.Disk d) (calls.DeleteDisk disk) = tt
subject_free records b (owners.Disk d) call = tt

module _ (was roomy : Records) where
  abbrev it : Recorded
  it = recorded roomy

  came_keeps : (entry : Entry) (change : Change) → learned entry change it
      ≡ record it { came = (learned entry change it).came }
      → Keeps it (learned entry change it)
  came_keeps entry change same =
      subst (Keeps it) (sym same) (keeps_others it (learned entry change it).came it.keys it.calls)

  -- what is planned for an update
  update_keeps : (entry : Entry) (change : Change) (row : Option Row) (left : List Orphan) → IsUpdated row left change
      → ((updated : Updated) → Keeps it (learned entry (changes.Updated updated) it))
      → Keeps it (learned entry change it)
  update_keeps entry (changes.Updated updated) row left planned keeps = keeps updated
  update_keeps entry (changes.Release other) row left planned keeps = absurd planned
  update_keeps entry (changes.Stemcell other) row left planned keeps = absurd planned
  update_keeps entry (changes.Config other) row left planned keeps = absurd planned
  update_keeps entry (changes.Opened other) row left planned keeps = absurd planned
  update_keeps entry (changes.Begun other) row left planned keeps = absurd planned
  update_keeps entry (changes.Ended other) row left planned keeps = absurd planned
  update_keeps entry (changes.Offers other) row left planned keeps = absurd planned
  update_keeps entry (changes.End other) row left planned keeps = absurd planned
  update_keeps entry (changes.Records other) row left planned keeps = absurd planned
  update_keeps entry changes.Nothing row left planned keeps = absurd planned

  learned_keeps : (entry : Entry) (change : Change) → is_within entry ≡ true → AreOrdered it
      → IsPlanned was roomy entry change → Keeps it (learned entry change it)
  learned_keeps (entries.Release release) change within ordered planned =
      subst (λ change. Keeps it (learned (entries.Release release) change it)) (sym planned)
      (came_keeps (entries.Release release) (changes.Release release) refl)
  learned_keeps (entries.Stemcell stemcell) change within ordered planned =
      subst (λ change. Keeps it (learned (entries.Stemcell stemcell) change it)) (sym planned)
      (came_keeps (entries.Stemcell stemcell) (changes.Stemcell stemcell) refl)
  learned_keeps (entries.Config file) change within ordered planned =
      subst (λ change. Keeps it (learned (entries.Config file) change it)) (sym planned)
      (came_keeps (entries.Config file) (changes.Config file) refl)
  learned_keeps (entries.TaskOpen o) change within ordered planned = absurd (false≢true within)
  learned_keeps (entries.Begin b) (changes.Begun begun) within ordered planned =
      begun_keeps begun it (subst IsFree (sym planned.1) (subject_free was b b.owner b.call))
  learned_keeps (entries.Begin b) (changes.Release other) within ordered planned = absurd planned
  learned_keeps (entries.Begin b) (changes.Stemcell other) within ordered planned = absurd planned
  learned_keeps (entries.Begin b) (changes.Config other) within ordered planned = absurd planned
  learned_keeps (entries.Begin b) (changes.Opened other) within ordered planned = absurd planned
  learned_keeps (entries.Begin b) (changes.Ended other) within ordered planned = absurd planned
  learned_keeps (entries.Begin b) (changes.Updated other) within ordered planned = absurd planned
  learned_keeps (entries.Begin b) (changes.Offers other) within ordered planned = absurd planned
  learned_keeps (entries.Begin b) (changes.End other) within ordered planned = absurd planned
  learned_keeps (entries.Begin b) (changes.Records other) within ordered planned = absurd planned
  learned_keeps (entries.Begin b) changes.Nothing within ordered planned = absurd planned
  learned_keeps (entries.End e) change within ordered planned =
      subst (λ change. Keeps it (learned (entries.End e) change it)) (sym planned)
      (ended_keeps (ended_of was e) it ordered)
  learned_keeps (entries.UpdBegin u) change within ordered planned =
      subst (λ change. Keeps it (learned (entries.UpdBegin u) change it)) (sym planned) (update_begun_keeps u it)
  learned_keeps (entries.UpdDone u) change within ordered planned =
      update_keeps (entries.UpdDone u) change (row_updated was u.inst) (left_updated was u.inst) planned
      (λ updated. update_done_keeps u updated it)
  learned_keeps (entries.Gone u) change within ordered planned =
      update_keeps (entries.Gone u) change None (left_gone was u.inst) planned (λ updated. gone_keeps u updated it)
  learned_keeps (entries.TaskDone t) change within ordered planned = absurd (false≢true within)
  learned_keeps (entries.TaskError e) change within ordered planned = absurd (false≢true within)
  learned_keeps (entries.Snapshot s) change within ordered planned = absurd (false≢true within)
  learned_keeps (entries.Effect e) change within ordered planned =
      subst (λ change. Keeps it (learned (entries.Effect e) change it)) (sym planned) (keeps_itself it)
  learned_keeps (entries.Write w) change within ordered planned =
      subst (λ change. Keeps it (learned (entries.Write w) change it)) (sym planned) (keeps_itself it)
  learned_keeps (entries.Lost l) change within ordered planned =
      subst (λ change. Keeps it (learned (entries.Lost l) change it)) (sym planned) (keeps_itself it)

-- ---- what is told

-- no task is opened
same_count : (outside : Outside) (m : Moment) (entry : Entry) → is_within entry ≡ true → MayNote outside m entry
    → (learn m.known entry).tasks ≡ m.known.tasks
same_count outside m (entries.TaskOpen o) within may = absurd (false≢true within)
same_count outside m (entries.Begin b) within may = begun_tasks b b.owner m.known
same_count outside m (entries.End e) within may = (numbers_end m e.n e.answer).tasks
same_count outside m (entries.UpdDone u) within may = (numbers_updated m u.task u.inst).tasks
same_count outside m (entries.TaskDone t) within may = absurd (false≢true within)
same_count outside m (entries.TaskError e) within may = absurd (false≢true within)
same_count outside m (entries.Snapshot s) within may = absurd (false≢true within)
same_count outside m entry within may = refl

-- no task opens
none_opens : (entry : Entry) → is_within entry ≡ true → is_opening entry ≡ false
none_opens (entries.TaskOpen o) within = absurd (false≢true within)
none_opens entry within = refl

pub fits_after : (outside : Outside) (m : Moment) (told : Told) (was now : Records) (entry : Entry)
    → is_within entry ≡ true → MayNote outside m entry → Agrees m told → Stands told was
    → Fits told (recorded was) → Learns was entry now → Fits (telling told entry) (recorded now)
fits_after outside m told was now entry within may agrees stands fits learns =
    fits_on told (telling told entry) (recorded was) (recorded now) kept_all ended tasks fits
  where
    roomy : StandsIn told (recorded learns.roomy)
    roomy = roomy_stands told was entry now learns stands

    kept_all : Keeps (recorded was) (recorded now)
    kept_all =
        keeps_then (recorded was) (recorded learns.roomy) (recorded now)
        (alike_keeps told (recorded was) (recorded learns.roomy) roomy.ordered learns.alike.same stands)
        (subst (Keeps (recorded learns.roomy)) (sym learns.is_learned)
        (learned_keeps was learns.roomy entry learns.change within roomy.ordered learns.planned))

    tasks : (learn told.known entry).tasks ≡ told.known.tasks
    tasks = subst (λ (k : Known). (learn k entry).tasks ≡ k.tasks) (sym agrees.known_is)
        (same_count outside m entry within may)

    ended : (t : ℕ) → is_going told.known t ≡ false → is_going (learn told.known entry) t ≡ false
    ended t none = by (is_going (learn told.known entry) t) refl
      where
        goes : is_going (learn told.known entry) t ≡ true → is_going told.known t ≡ true
        goes = subst (λ (k : Known). is_going (learn k entry) t ≡ true → is_going k t ≡ true) (sym agrees.known_is)
            (note_stays outside m entry may (none_opens entry within) t).was

        by : (b : Bool) → is_going (learn told.known entry) t ≡ b → is_going (learn told.known entry) t ≡ false
        by false is = is
        by true is = absurd (false≢true (sym none ∙ goes is))
