-- Uploads and updates that may be noted, as they are learned.
use Rattle.std.proofs.Common.{◌≡◌, ℕ, ◌<◌, true, List, sym, subst}
use Rattle.bosh_base.specs.declared.entry.Entry.TheVariants as entries
use Rattle.bosh_base.specs.declared.entry.Update.{Update}
use Rattle.bosh_base.specs.declared.release.Release.{Release}
use Rattle.bosh_base.specs.declared.stemcell.Stemcell.{Stemcell}
use Rattle.bosh_fold.specs.Learned.{learned}
use Rattle.bosh_fold.specs.Learns.{Learns}
use Rattle.bosh_fold.specs.declared.change.Change.{Change}
use Rattle.bosh_history.specs.Moments.{Moment}
use Rattle.bosh_history.specs.Notes.{BeginsUpdate, EndsUpdate, Leaves}
use Rattle.bosh_history.specs.Recovered.{may_follow}
use Rattle.bosh_records.specs.Recorded.{recorded}
use Rattle.bosh_records.specs.declared.records.Records.{Records}
use Rattle.laws_allowed.proofs.WorkingLemmas.{at_work}
use Rattle.laws_choices.proofs.SameCallLemmas.{told_at, told_is}
use Rattle.laws_facts.proofs.CurrentLemmas.{done_works}
use Rattle.laws_facts.specs.Facts.{Holds}
use Rattle.laws_facts.specs.KnownFacts.{KnownFacts}
use Rattle.laws_facts.specs.Owners.{works}
use Rattle.laws_stands.specs.Agrees.{Agrees}
use Rattle.laws_stands.specs.Stands.{Stands, StandsIn, StandsInOrder}
use Rattle.laws_stands.specs.Told.{Told, telling}
use Rattle.laws_stands_noted.proofs.UpdateLemmas.{allows_finish, allows_leave, allows_update}
use Rattle.laws_stands_on.proofs.RoomyLemmas.{roomy_stands}
use Rattle.laws_stands_on.proofs.UpdateBegunLemmas.{after_begun}
use Rattle.laws_stands_on.proofs.UploadLemmas.{after_config, after_release, after_stemcell}
use Rattle.laws_stands_on.specs.Allows.{AllowsUpdate}
use Rattle.laws_stands_updates.proofs.LeaveLemmas.{after_gone}
use Rattle.laws_stands_updates.proofs.UpdateDoneLemmas.{after_update_done}
use Rattle.laws_stands_updates.specs.Finished.{AllowsFinish, AllowsLeave}

-- ---- uploads

module _ (told : Told) (was now : Records) (stands : Stands told was) where
  pub release_noted : (release : Release) → Learns was (entries.Release release) now
      → Stands (telling told (entries.Release release)) now
  release_noted release learns =
      subst (StandsIn (telling told (entries.Release release))) (sym learns.is_learned)
      (subst (λ (change : Change). StandsIn (telling told (entries.Release release))
      (learned (entries.Release release) change (recorded learns.roomy))) (sym learns.planned)
      (after_release release told (recorded learns.roomy)
      (roomy_stands told was (entries.Release release) now learns stands)))

  pub stemcell_noted : (stemcell : Stemcell) → Learns was (entries.Stemcell stemcell) now
      → Stands (telling told (entries.Stemcell stemcell)) now
  stemcell_noted stemcell learns =
      subst (StandsIn (telling told (entries.Stemcell stemcell))) (sym learns.is_learned)
      (subst (λ (change : Change). StandsIn (telling told (entries.Stemcell stemcell))
      (learned (entries.Stemcell stemcell) change (recorded learns.roomy))) (sym learns.planned)
      (after_stemcell stemcell told (recorded learns.roomy)
      (roomy_stands told was (entries.Stemcell stemcell) now learns stands)))

  pub config_noted : (file : List ℕ) → Learns was (entries.Config file) now
      → Stands (telling told (entries.Config file)) now
  config_noted file learns =
      subst (StandsIn (telling told (entries.Config file))) (sym learns.is_learned)
      (subst (λ (change : Change). StandsIn (telling told (entries.Config file))
      (learned (entries.Config file) change (recorded learns.roomy))) (sym learns.planned)
      (after_config file told (recorded learns.roomy)
      (roomy_stands told was (entries.Config file) now learns stands)))

-- ---- updates

module _ (m : Moment) (told : Told) (was now : Records) (u : Update) (stands : Stands told was) (agrees : Agrees m told)
  where
    told_now : KnownFacts m → works m u.task ≡ true → told_at m told.snapped ≡ told
    told_now facts working = sym (told_is m told u.task facts working agrees stands.tells_well)

    pub update_begins : KnownFacts m → m.known.last_call < 18446744073709551615 → BeginsUpdate m u
        → may_follow m (entries.UpdBegin u) ≡ true → Learns was (entries.UpdBegin u) now
        → Stands (telling told (entries.UpdBegin u)) now
    update_begins facts numbers noted follows learns =
        subst (StandsInOrder (telling told (entries.UpdBegin u))) (sym learns.is_learned)
        (subst (λ (change : Change). StandsInOrder (telling told (entries.UpdBegin u))
        (learned (entries.UpdBegin u) change (recorded learns.roomy))) (sym learns.planned)
        (after_begun u told (recorded learns.roomy)
        (subst (λ told. AllowsUpdate told u) (told_now facts working)
        (allows_update m was u (at_work m told was u.task facts stands agrees working) facts working numbers noted
        told.snapped))
        (roomy_stands told was (entries.UpdBegin u) now learns stands))) learns.ordered
      where
        working : works m u.task ≡ true
        working = done_works m u.task follows noted.is_open

    pub update_done : Holds m → EndsUpdate m u → may_follow m (entries.UpdDone u) ≡ true
        → Learns was (entries.UpdDone u) now → Stands (telling told (entries.UpdDone u)) now
    update_done all noted follows learns =
        after_update_done u told was now
        (subst (λ told. AllowsFinish told u) (told_now all.known working)
        (allows_finish m told.snapped u all working noted)) learns stands
      where
        working : works m u.task ≡ true
        working = done_works m u.task follows noted.is_open

    pub instance_leaves : Holds m → Leaves m u → may_follow m (entries.Gone u) ≡ true → Learns was (entries.Gone u) now
        → Stands (telling told (entries.Gone u)) now
    instance_leaves all noted follows learns =
        after_gone u told was now
        (subst (λ told. AllowsLeave told u) (told_now all.known working)
        (allows_leave m told.snapped u all working noted)) learns stands
      where
        working : works m u.task ≡ true
        working = done_works m u.task follows noted.is_open
