-- The beginning of a call for a disk that may be noted is allowed.
use Rattle.std.proofs.Common.{◌≡◌, ◌∙◌, ℕ, ◌<◌, Bool, true, false, ◌&&◌, Option, Some, None, ap, refl, sym}
use Rattle.std.specs.Prelude.{eqb, is_some, if◌then◌else◌}
use Rattle.std.specs.Option.{option_and_then, option_map}
use Rattle.std.proofs.lemmas.Bool.{and_parts, eqb-true, false≢true}
use Rattle.bosh_base.specs.declared.call.Call.TheVariants as calls
use Rattle.bosh_base.specs.declared.entry.Begin.{Begin}
use Rattle.bosh_base.specs.declared.entry.Entry.TheVariants as entries
use Rattle.bosh_base.specs.declared.owner.Owner.TheVariants.{Disk}
use Rattle.bosh_base.specs.declared.snapshot.Orphan.{Orphan}
use Rattle.bosh_claim.specs.Beginning.{begins, call_for, deletion_in, deletion_of, is_free_at}
use Rattle.bosh_claim.specs.Phase.{present}
use Rattle.bosh_claim.specs.Sweep.{deletion}
use Rattle.bosh_history.specs.Items.{none_left_before, phase_of}
use Rattle.bosh_history.specs.Known.{Known, Task}
use Rattle.bosh_history.specs.Moments.{Moment}
use Rattle.bosh_history.specs.Notes.{Begins}
use Rattle.bosh_history.specs.Recovered.{may_follow}
use Rattle.bosh_history.specs.Steps.{call_now, disk_call, is_idle}
use Rattle.bosh_history.specs.Words.{holds, is_among}
use Rattle.bosh_records.specs.Readers.{orphan_at}
use Rattle.bosh_records.specs.declared.orphans.LooseDisk.{LooseDisk}
use Rattle.bosh_records.specs.declared.records.Records.{Records}
use Rattle.laws_allowed.proofs.BeginLemmas.{begins_by, choosing, free_at}
use Rattle.laws_allowed.proofs.PresentLemmas.{deletes_now}
use Rattle.laws_allowed.proofs.WorkingLemmas.{IsAtWork, at_work}
use Rattle.laws_choices.proofs.ReadLemmas.{dep_is}
use Rattle.laws_facts.proofs.CurrentLemmas.{done_works}
use Rattle.laws_facts.specs.KnownFacts.{KnownFacts}
use Rattle.laws_facts.specs.Owners.{works}
use Rattle.laws_items.proofs.ListedLemmas.{WorksAt, names_its_own, works_at}
use Rattle.laws_stands.specs.Agrees.{Agrees}
use Rattle.laws_stands.specs.Choosing.{CanChoose}
use Rattle.laws_stands.specs.LineStands.{place_of}
use Rattle.laws_stands.specs.Stands.{Stands}
use Rattle.laws_stands.specs.Told.{Told}

module _ (m : Moment) (records : Records) (b : Begin) (at : IsAtWork m records b.task) (facts : KnownFacts m)
    (working : works m b.task ≡ true) (numbers : m.known.last_call < 18446744073709551615)
    (noted : Begins m b) (d : ℕ) (own : b.owner ≡ Disk d) where
  abbrev k : Known
  k = m.known

  abbrev t : Task
  t = m.known.task b.task

  can : CanChoose m b.task records at.swept at.work
  can = choosing m records b at facts working numbers noted

  numbered : WorksAt m b.task
  numbered = works_at m b.task working

  call_is : call_now m b.task (Disk d) ≡ Some b.call
  call_is = ap (call_now m b.task) (sym own) ∙ noted.is_call

  item : holds (none_left_before k b.task) (if is_among eqb d t.disks && is_some (k.orphan d) then Some 0 else None)
      ≡ true
  item = sym (ap (λ owner. holds (none_left_before k b.task) (phase_of k b.task owner)) own) ∙ noted.is_item

  left : (is_among eqb d t.disks && is_some (k.orphan d)) ≡ true
  left = by (is_among eqb d t.disks && is_some (k.orphan d)) item
    where
      by : (c : Bool) → holds (none_left_before k b.task) (if c then Some 0 else None) ≡ true → c ≡ true
      by true is = refl
      by false is = absurd (false≢true is)

  parted : (is_among eqb d t.disks ≡ true) × (is_some (k.orphan d) ≡ true)
  parted = and_parts (is_among eqb d t.disks) (is_some (k.orphan d)) left

  none : none_left_before k b.task 0 ≡ true
  none = sym (ap (λ c. holds (none_left_before k b.task) (if c then Some 0 else None)) left) ∙ item

  deletes : deletion_of records at.work d ≡ Some b.call
  deletes = by (orphan_at records d) refl (can.orphans_are d)
    where
      of : (loose : LooseDisk) → orphan_at records d ≡ Some loose → Some loose.orphan ≡ k.orphan d
          → loose.orphan.disk ≡ d → deletion_of records at.work d ≡ Some b.call
      of loose there is number =
          ap (option_and_then (deletion_in at.work)) there
          ∙ (λ j. if free j then Some (deletion loose) else None)
          ∙ (λ j. Some (if is_some loose.orphan.doubt then calls.HasDisk (number j) else calls.DeleteDisk (number j)))
          ∙ ap (option_map (disk_call d)) is ∙ call_is
        where
          free : is_free_at at.work.disks loose.deleting ≡ true
          free = free_at eqb eqb-true t.disks (λ d. is_some (k.orphan d)) (λ d. is_idle m (Disk d)) at.work.disks d
              loose.deleting can.disks parted.0 parted.1 (ap (is_idle m) (sym own) ∙ noted.is_idle)
              (at.stands.linked.deletions b.task at.work d loose at.there there
              (dep_is m at.snapped records at.stands b.task numbered.low numbered.high
              ∙ (names_its_own m b.task facts working).deleting d parted.0)
              ∙ ap (place_of eqb d) at.work_stands.disks.items_are)

      by : (o : Option LooseDisk) → orphan_at records d ≡ o → option_map (λ (it : LooseDisk). it.orphan) o ≡ k.orphan d
          → deletion_of records at.work d ≡ Some b.call
      by (Some loose) there is =
          let both : Some loose.orphan.disk ≡ Some d =
          ap (option_map (λ (it : Orphan). it.disk)) is ∙ can.orphan_numbers d
          ∙ ap (option_map (λ (it : Orphan). d)) (sym is) in
          let number : loose.orphan.disk ≡ d = cc in
          of loose there is number
      by None there is = absurd (false≢true (ap is_some is ∙ parted.1))

  pub call_begins : begins records b ≡ true
  call_begins =
      begins_by m records b at noted
      (ap (λ owner. option_and_then (λ phase. call_for records at.work phase owner) (present records at.work)) own
      ∙ ap (option_and_then (λ phase. call_for records at.work phase (Disk d)))
      (deletes_now m b.task records at.swept at.work can 0 none d parted.0 parted.1)
      ∙ deletes)

pub begin_is_allowed : (m : Moment) (told : Told) (records : Records) (b : Begin) (d : ℕ) → Stands told records
    → Agrees m told → KnownFacts m → m.known.last_call < 18446744073709551615 → b.owner ≡ Disk d → Begins m b
    → may_follow m (entries.Begin b) ≡ true → begins records b ≡ true
begin_is_allowed m told records b d stands agrees facts numbers own noted follows =
    call_begins m records b (at_work m told records b.task facts stands agrees working) facts working numbers noted d own
  where
    working : works m b.task ≡ true
    working = done_works m b.task follows noted.is_open
