-- The beginning of a call of an instance or of a disk, as it is learned.
use Rattle.std.proofs.Common.{◌≡◌, ◌∙◌, ℕ, ◌<◌, true, None, ap, refl, sym, subst}
use Rattle.std.specs.Prelude.{is_some}
use Rattle.std.specs.Option.{unwrap_or}
use Rattle.std.specs.Ordering.{nat_cmp}
use Rattle.bosh_base.specs.declared.call.Call.{Call}
use Rattle.bosh_base.specs.declared.entry.Begin.{Begin}
use Rattle.bosh_base.specs.declared.entry.Entry.TheVariants as entries
use Rattle.bosh_base.specs.declared.inst.Inst.{Inst}
use Rattle.bosh_base.specs.declared.owner.Owner.TheVariants.{Disk, Instance}
use Rattle.bosh_fold.specs.Calls.{begun_in}
use Rattle.bosh_fold.specs.Learned.{learned}
use Rattle.bosh_fold.specs.Learns.{Learns}
use Rattle.bosh_fold.specs.Planned.{IsBeginning}
use Rattle.bosh_fold.specs.declared.change.Change.{Change}
use Rattle.bosh_fold.specs.declared.change.Change.TheVariants as changes
use Rattle.bosh_history.specs.Moments.{Moment}
use Rattle.bosh_history.specs.Notes.{Begins}
use Rattle.bosh_history.specs.Recovered.{may_follow}
use Rattle.bosh_plan.specs.Begun.{subject_of}
use Rattle.bosh_plan.specs.declared.beginning.Subject.{Subject}
use Rattle.bosh_plan.specs.declared.beginning.Subject.TheVariants as subjects
use Rattle.bosh_records.specs.Recorded.{Recorded, recorded}
use Rattle.bosh_records.specs.Table.{found, with_room}
use Rattle.bosh_records.specs.declared.records.Records.{Records}
use Rattle.bosh_rows.specs.After.{bare, begun_row}
use Rattle.laws_choices.proofs.SameCallLemmas.{told_at, told_is}
use Rattle.laws_facts.proofs.CurrentLemmas.{done_works}
use Rattle.laws_facts.specs.KnownFacts.{KnownFacts}
use Rattle.laws_facts.specs.Owners.{works}
use Rattle.laws_stands.specs.Agrees.{Agrees}
use Rattle.laws_stands.specs.Reading.{row_of}
use Rattle.laws_stands.specs.Stands.{Stands, StandsIn, StandsInOrder}
use Rattle.laws_stands.specs.Told.{Told, telling}
use Rattle.laws_stands_after.proofs.DiskBegunLemmas.{after_disk_begin}
use Rattle.laws_stands_after.specs.Disks.{AllowsDisk}
use Rattle.laws_stands_noted.proofs.CallLemmas.{allows_call, allows_disk, allows_next_disk}
use Rattle.laws_stands_on.proofs.BegunLemmas.{after_begin}
use Rattle.laws_stands_on.proofs.RoomyLemmas.{call_there, instance_there, roomy_stands}
use Rattle.laws_stands_on.specs.Allows.{AllowsCall, AllowsNext, HasPlaces}

-- ---- what is planned for a call that begins, with the room that was made for it

pub begun_by : (was : Records) (b : Begin) (new : Told) (it : Recorded) (subject : Subject) → subject_of was b ≡ subject
    → StandsInOrder new (begun_in (record { begin = b; subject = subject }) it) → (change : Change)
    → IsBeginning b (subject_of was b) change → StandsInOrder new (learned (entries.Begin b) change it)
begun_by was b new it subject is stands (changes.Begun begun) (begin_is, subject_is) =
    subst (λ begin. StandsInOrder new (begun_in (record { begin = begin; subject = begun.subject }) it)) (sym begin_is)
    (subst (λ subject. StandsInOrder new (begun_in (record { begin = b; subject = subject }) it))
    (sym (subject_is ∙ is)) stands)
begun_by was b new it subject is stands (changes.Release other) planned = absurd planned
begun_by was b new it subject is stands (changes.Stemcell other) planned = absurd planned
begun_by was b new it subject is stands (changes.Config other) planned = absurd planned
begun_by was b new it subject is stands (changes.Opened other) planned = absurd planned
begun_by was b new it subject is stands (changes.Ended other) planned = absurd planned
begun_by was b new it subject is stands (changes.Updated other) planned = absurd planned
begun_by was b new it subject is stands (changes.Offers other) planned = absurd planned
begun_by was b new it subject is stands (changes.End other) planned = absurd planned
begun_by was b new it subject is stands (changes.Records other) planned = absurd planned
begun_by was b new it subject is stands changes.Nothing planned = absurd planned

module _ (told : Told) (was now : Records) (n number worker : ℕ) (call : Call) (stands : Stands told was) where
  -- ---- of an instance
  module _ (i : Inst)
      (learns : Learns was
      (entries.Begin (record { n = number; task = n; worker = worker; owner = Instance i; call = call })) now)
      (allows : AllowsCall told n number call i) where
    abbrev b : Begin
    b = record { n = number; task = n; worker = worker; owner = Instance i; call = call }

    abbrev it : Recorded
    it = recorded learns.roomy

    roomy : StandsIn told it
    roomy = roomy_stands told was (entries.Begin b) now learns stands

    places : HasPlaces it number i
    places = subst (λ it. HasPlaces it number i) (sym learns.room) (record {
      instance = instance_there i call (record (recorded was) {
        calls = with_room nat_cmp number None (recorded was).calls;
      });
      call = call_there b (recorded was);
    })

    subject_is : subject_of was b
        ≡ subjects.Instance (begun_row number call (unwrap_or (row_of it i) (bare i)))
    subject_is = ap (λ o. subjects.Instance (begun_row number call (unwrap_or o (bare i))))
        (stands.rows i ∙ sym (roomy.rows i))

    pub instance_begins : Stands (telling told (entries.Begin b)) now
    instance_begins = subst (StandsInOrder (telling told (entries.Begin b))) (sym learns.is_learned)
        (begun_by was b (telling told (entries.Begin b)) it
        (subjects.Instance (begun_row number call (unwrap_or (row_of it i) (bare i)))) subject_is
        (after_begin told it n number worker call i allows places roomy) learns.change learns.planned) learns.ordered

  -- ---- of a disk
  module _ (d : ℕ)
      (learns : Learns was
      (entries.Begin (record { n = number; task = n; worker = worker; owner = Disk d; call = call })) now)
      (next : AllowsNext told (record { n = number; task = n; worker = worker; owner = Disk d; call = call }))
      (allows : AllowsDisk told n call d) where
    abbrev c : Begin
    c = record { n = number; task = n; worker = worker; owner = Disk d; call = call }

    there : is_some (found nat_cmp (recorded learns.roomy).calls number) ≡ true
    there = subst (λ (it : Recorded). is_some (found nat_cmp it.calls number) ≡ true) (sym learns.room)
        (call_there c (recorded was))

    pub disk_begins : Stands (telling told (entries.Begin c)) now
    disk_begins = subst (StandsInOrder (telling told (entries.Begin c))) (sym learns.is_learned)
        (begun_by was c (telling told (entries.Begin c)) (recorded learns.roomy) (subject_of was c) refl
        (after_disk_begin told was (recorded learns.roomy) n number worker call d next allows there
        (roomy_stands told was (entries.Begin c) now learns stands)) learns.change learns.planned) learns.ordered

-- ---- where it may be noted

module _ (m : Moment) (told : Told) (was now : Records) (b : Begin) (stands : Stands told was) (agrees : Agrees m told)
    (facts : KnownFacts m) (numbers : m.known.last_call < 18446744073709551615) (noted : Begins m b)
    (follows : may_follow m (entries.Begin b) ≡ true) (learns : Learns was (entries.Begin b) now) where
  working : works m b.task ≡ true
  working = done_works m b.task follows noted.is_open

  told_now : told_at m told.snapped ≡ told
  told_now = sym (told_is m told b.task facts working agrees stands.tells_well)

  pub begins_instance : (i : Inst) → b.owner ≡ Instance i → Stands (telling told (entries.Begin b)) now
  begins_instance i own =
      subst (λ b. Stands (telling told (entries.Begin b)) now) (sym same)
      (instance_begins told was now b.task b.n b.worker b.call stands i
      (subst (λ b. Learns was (entries.Begin b) now) same learns)
      (subst (λ told. AllowsCall told b.task b.n b.call i) told_now
      (allows_call m told.snapped b facts working numbers noted i own)))
    where
      same : b ≡ record b { owner = Instance i }
      same = λ j. record b { owner = own j }

  pub begins_disk : (d : ℕ) → b.owner ≡ Disk d → Stands (telling told (entries.Begin b)) now
  begins_disk d own =
      subst (λ b. Stands (telling told (entries.Begin b)) now) (sym same)
      (disk_begins told was now b.task b.n b.worker b.call stands d
      (subst (λ b. Learns was (entries.Begin b) now) same learns)
      (subst (AllowsNext told) same
      (subst (λ told. AllowsNext told b) told_now (allows_next_disk m told.snapped b facts working numbers noted d own)))
      (subst (λ told. AllowsDisk told b.task b.call d) told_now
      (allows_disk m told.snapped b facts working numbers noted d own)))
    where
      same : b ≡ record b { owner = Disk d }
      same = λ j. record b { owner = own j }
