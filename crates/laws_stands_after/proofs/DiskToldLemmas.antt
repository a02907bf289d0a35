-- What an answer tells of a disk that belongs to no instance, and of the works that list it.
use Rattle.std.proofs.Common.{◌≡◌, ◌∙◌, ℕ, Bool, true, false, List, ◌==◌}
use Rattle.std.proofs.Common.{Option, Some, None, ap, refl}
use Rattle.std.specs.Prelude.{◌-◌, eqb, slice_get, if◌then◌else◌}
use Rattle.std.specs.Option.{option_and_then, option_map, option_map_or}
use Rattle.std.specs.Ordering.{nat_cmp}
use Rattle.bosh_base.specs.declared.answer.Answer.{Answer}
use Rattle.bosh_base.specs.declared.answer.Answer.TheVariants as answers
use Rattle.bosh_base.specs.declared.call.Call.{Call}
use Rattle.bosh_base.specs.declared.call.Call.TheVariants.{DeleteDisk, HasDisk, Ping}
use Rattle.bosh_base.specs.declared.owner.Owner.TheVariants.{Disk}
use Rattle.bosh_base.specs.declared.snapshot.Orphan.{Orphan}
use Rattle.bosh_base.specs.declared.task.TaskEnd.{TaskEnd}
use Rattle.bosh_fold.specs.Calls.{deleted_in, disk_told}
use Rattle.bosh_history.specs.Calls.{orphan_told, shows_gone, shows_there}
use Rattle.bosh_history.specs.Calls.{task_after_ping}
use Rattle.bosh_history.specs.Known.{Task}
use Rattle.bosh_history.specs.Words.{is_among}
use Rattle.bosh_plan.specs.Ended as planned
use Rattle.bosh_plan.specs.declared.ending.Told.TheVariants.{Absent, Nothing, There}
use Rattle.bosh_records.specs.Changes.{with_disk_call, with_disk_doubt}
use Rattle.bosh_records.specs.Recorded.{Recorded}
use Rattle.bosh_records.specs.Table.{changed, each_thing, thing_in, without}
use Rattle.bosh_records.specs.declared.orphans.LooseDisk.{LooseDisk}
use Rattle.bosh_work.specs.Finished.{stands_at, without_disk}
use Rattle.bosh_work.specs.Line.{finished_line, given_line}
use Rattle.bosh_work.specs.Part.{no_part}
use Rattle.bosh_work.specs.Work as work_specs
use Rattle.bosh_work.specs.declared.line.Line.{Line}
use Rattle.bosh_work.specs.declared.work.Work.{Work}
use Rattle.laws_stands.proofs.PremiseLemmas.{none_at}
use Rattle.laws_stands_on.proofs.AnsweredLemmas.{ended_work}
use Rattle.laws_stands_on.proofs.LinkLemmas.{ListsSame}
use Rattle.laws_stands.specs.Once.{IsOnce}
use Rattle.laws_stands_on.proofs.ChangedLemmas.{each_found, eqb_flip, thing_at_key, thing_gone}
use Rattle.laws_stands_on.proofs.ChangedLemmas.{things_changed}

-- ---- what an answer tells: that the disk goes, that no doubt is left, or nothing

-- the disk, as it is known
abbrev pub orphan_by : Bool → Bool → Option Orphan → Option Orphan
orphan_by true settles orphan = None
orphan_by false settles orphan = option_map (orphan_told settles) orphan

-- .. and as it is recorded
abbrev pub loose_by : Bool → Bool → Option LooseDisk → Option LooseDisk
loose_by true settles loose = None
loose_by false settles loose = option_map
    (λ (it : LooseDisk). record it { orphan = orphan_told settles it.orphan; call = None }) loose

abbrev pub orphans_by : Bool → Bool → ℕ → List (ℕ × Option LooseDisk) → List (ℕ × Option LooseDisk)
orphans_by true settles d orphans = without nat_cmp d orphans
orphans_by false true d orphans = changed nat_cmp d (with_disk_doubt None) orphans
orphans_by false false d orphans = orphans

-- a work once the disk goes, which has a place among those that are deleted
abbrev pub gone_by : Bool → ℕ → Option ℕ → Work → Work
gone_by true d (Some place) work = without_disk d place work
gone_by true d None work = work
gone_by false d place work = work

abbrev pub works_by : Bool → ℕ → Option ℕ → List (ℕ × Option Work) → List (ℕ × Option Work)
works_by true d (Some place) works = each_thing (without_disk d place) works
works_by true d None works = works
works_by false d place works = works

pub told_as : (call : Call) (answer : Answer) → planned.disk_told call answer
    ≡ (if shows_gone call answer then Absent else if shows_there call answer then There None else Nothing)
told_as (DeleteDisk disk) answers.Done = refl
told_as (DeleteDisk disk) answers.Gone = refl
told_as (HasDisk disk) answers.No = refl
told_as (HasDisk disk) answers.Yes = refl
told_as (DeleteDisk disk) answer = refl
told_as (HasDisk disk) answer = refl
told_as call answer = refl

pub told_by : (goes settles : Bool) (d : ℕ) (it : Recorded)
    → disk_told d (if goes then Absent else if settles then There None else Nothing) it
    ≡ record it {
      orphans = orphans_by goes settles d it.orphans;
      works = works_by goes d (option_and_then (λ loose. loose.deleting) (thing_in nat_cmp it.orphans d)) it.works;
    }
told_by true settles d it = by (option_and_then (λ loose. loose.deleting) (thing_in nat_cmp it.orphans d))
  where
    by : (place : Option ℕ) → deleted_in d place (record it { orphans = without nat_cmp d it.orphans })
        ≡ record it { orphans = without nat_cmp d it.orphans; works = works_by true d place it.works }
    by (Some place) = refl
    by None = refl
told_by false true d it = refl
told_by false false d it = refl

pub orphans_ended : (goes settles : Bool) (d : ℕ) (orphans : List (ℕ × Option LooseDisk)) → IsOnce nat_cmp orphans
    → (x : ℕ) → thing_in nat_cmp (orphans_by goes settles d (changed nat_cmp d (with_disk_call None) orphans)) x
    ≡ (if eqb d x then loose_by goes settles (thing_in nat_cmp orphans x) else thing_in nat_cmp orphans x)
orphans_ended true settles d orphans once x = thing_gone d (with_disk_call None) orphans once x
orphans_ended false true d orphans once x = things_changed d (with_disk_call None) (with_disk_doubt None) orphans x
orphans_ended false false d orphans once x = thing_at_key d (with_disk_call None) orphans x

pub works_ended : (goes : Bool) (d : ℕ) (place : Option ℕ) (works : List (ℕ × Option Work)) (t : ℕ)
    → thing_in nat_cmp (works_by goes d place works) t ≡ option_map (gone_by goes d place) (thing_in nat_cmp works t)
works_ended true d (Some place) works t = each_found (without_disk d place) works t
works_ended true d None works t = by (thing_in nat_cmp works t)
  where
    by : (o : Option Work) → o ≡ option_map (gone_by true d None) o
    by (Some work) = refl
    by None = refl
works_ended false d place works t = by (thing_in nat_cmp works t)
  where
    by : (o : Option Work) → o ≡ option_map (gone_by false d place) o
    by (Some work) = refl
    by None = refl

pub gone_same : (goes : Bool) (d : ℕ) (place : Option ℕ) (work old : Work) → ListsSame work old
    → ListsSame (gone_by goes d place work) old
gone_same true d (Some place) work old same = record {
  pings = same.pings;
  obsolete = same.obsolete;
  changed = same.changed;
  sweep = same.sweep;
  disks = by (stands_at (λ it. it == d) place work.disks) ∙ same.disks;
}
  where
    by : (u : Bool) → (if u then finished_line work.disks (Some place) else work.disks).items ≡ work.disks.items
    by true = refl
    by false = refl
gone_same true d None work old same = same
gone_same false d place work old same = same

-- a work that does not list the disk
pub unlisted : (goes : Bool) (d : ℕ) (place : Option ℕ) (work : Work) (items : List ℕ) → work.disks.items ≡ items
    → is_among eqb d items ≡ false → gone_by goes d place work ≡ work
unlisted false d place work items are none = refl
unlisted true d None work items are none = refl
unlisted true d (Some place) work items are none = λ j. record work {
  disks = if away j then finished_line work.disks (Some place) else work.disks;
}
  where
    by : (o : Option ℕ) → slice_get items place ≡ o → option_map_or (λ it. it == d) o false ≡ false
    by (Some x) is = eqb_flip x d ∙ none_at (eqb d) items place x none is
    by None is = refl

    away : stands_at (λ it. it == d) place work.disks ≡ false
    away = ap (λ items. option_map_or (λ it. it == d) (slice_get items place) false) are
        ∙ by (slice_get items place) refl

-- the line of the disks of its task
abbrev pub last_line : Bool → Line ℕ → Option ℕ → Line ℕ
last_line true line place = finished_line line place
last_line false line place = line

-- a work of its task, which lists it at a place
abbrev pub last_work : Bool → Option ℕ → Option TaskEnd → Work → Work
last_work goes place fail work = record work {
  «open» = work.open - 1;
  disks = last_line goes (given_line work.disks place) place;
  failed = if work_specs.is_less fail work.failed then fail else work.failed;
}

pub listed : (goes asked : Bool) (d : ℕ) (place : Option ℕ) (fail : Option TaskEnd) (work : Work)
    → ((p : ℕ) → place ≡ Some p → option_map_or (λ it. it == d) (slice_get work.disks.items p) false ≡ true)
    → gone_by goes d place (ended_work asked (record { part = no_part; sweep = None; deleting = place }) fail work)
    ≡ last_work goes place fail work
listed goes asked d place fail work there = ap (gone_by goes d place) (plain asked place) ∙ by goes place there
  where
    plain : (asked : Bool) (place : Option ℕ)
        → ended_work asked (record { part = no_part; sweep = None; deleting = place }) fail work
        ≡ last_work false place fail work
    plain true place = refl
    plain false place = refl

    by : (goes : Bool) (place : Option ℕ)
        → ((p : ℕ) → place ≡ Some p → option_map_or (λ it. it == d) (slice_get work.disks.items p) false ≡ true)
        → gone_by goes d place (last_work false place fail work) ≡ last_work goes place fail work
    by false place there = refl
    by true None there = refl
    by true (Some p) there = λ j. record (last_work false (Some p) fail work) {
      disks = if there p refl j then finished_line (given_line work.disks (Some p)) (Some p)
          else given_line work.disks (Some p);
    }

-- no ping of a disk is answered
pub no_ping : (call : Call) (answer : Answer) (d : ℕ) (t : Task) → task_after_ping call answer (Disk d) t ≡ t
no_ping (Ping vm) answers.Failed d t = refl
no_ping (Ping vm) answer d t = refl
no_ping call answer d t = refl
