-- The end of a call of an instance or of a disk, as it is learned.
use Rattle.std.proofs.Common.{◌≡◌, ◌∙◌, ℕ, Some, ap, sym, subst}
use Rattle.bosh_base.specs.declared.answer.Answer.{Answer}
use Rattle.bosh_base.specs.declared.entry.Begin.{Begin}
use Rattle.bosh_base.specs.declared.entry.End.{End}
use Rattle.bosh_base.specs.declared.entry.Entry.TheVariants as entries
use Rattle.bosh_base.specs.declared.inst.Inst.{Inst}
use Rattle.bosh_base.specs.declared.owner.Owner.TheVariants.{Disk, Instance}
use Rattle.bosh_fold.specs.Calls.{ended_in}
use Rattle.bosh_fold.specs.Learned.{learned}
use Rattle.bosh_fold.specs.Learns.{Learns}
use Rattle.bosh_fold.specs.declared.change.Change.{Change}
use Rattle.bosh_history.specs.Moments.{Moment, OpenCall}
use Rattle.bosh_plan.specs.Ended.{ended_of}
use Rattle.bosh_records.specs.Recorded.{recorded}
use Rattle.bosh_records.specs.declared.records.Records.{Records}
use Rattle.laws_choices.proofs.SameCallLemmas.{told_at, told_is}
use Rattle.laws_facts.specs.CallFacts.{CallFacts}
use Rattle.laws_facts.specs.KnownFacts.{KnownFacts}
use Rattle.laws_stands.specs.Agrees.{Agrees}
use Rattle.laws_stands.specs.Stands.{Stands, StandsInOrder}
use Rattle.laws_stands.specs.Told.{Told, telling}
use Rattle.laws_stands_after.proofs.DiskEndedLemmas.{after_disk_end}
use Rattle.laws_stands_after.specs.Disks.{AllowsDisk}
use Rattle.laws_stands_noted.proofs.CallLemmas.{allows_disk_end, allows_end}
use Rattle.laws_stands_on.proofs.EndedLemmas.{after_end}
use Rattle.laws_stands_on.proofs.RoomyLemmas.{roomy_stands}
use Rattle.laws_stands_on.specs.Allows.{AllowsEnd}

-- what is planned for a call that ends is learned
pub ended_by : (told : Told) (was now : Records) (e : End) (learns : Learns was (entries.End e) now)
    → StandsInOrder (telling told (entries.End e)) (ended_in (ended_of was e) (recorded learns.roomy))
    → Stands (telling told (entries.End e)) now
ended_by told was now e learns stands =
    subst (StandsInOrder (telling told (entries.End e))) (sym learns.is_learned)
    (subst (λ (change : Change). StandsInOrder (telling told (entries.End e))
    (learned (entries.End e) change (recorded learns.roomy))) (sym learns.planned) stands)
    learns.ordered

-- ---- where it may be noted

module _ (m : Moment) (told : Told) (was now : Records) (n : ℕ) (answer : Answer) (call : OpenCall)
    (is_open : m.calls n ≡ Some call) (stands : Stands told was) (agrees : Agrees m told) (facts : KnownFacts m)
    (learns : Learns was (entries.End (record { n = n; answer = answer })) now) where
  abbrev its : CallFacts m n call
  its = facts.calls n call is_open

  abbrev b : Begin
  b = call.begin

  told_now : told_at m told.snapped ≡ told
  told_now = sym (told_is m told b.task facts its.works agrees stands.tells_well)

  -- the end has the number of the call
  abbrev same_number : n ≡ b.n
  same_number = sym its.number

  there : told.calls b.n ≡ Some b
  there = ap told.calls its.number ∙ agrees.live n call is_open

  pub ends_instance : (i : Inst) → b.owner ≡ Instance i
      → Stands (telling told (entries.End (record { n = n; answer = answer }))) now
  ends_instance i own =
      ended_by told was now (record { n = n; answer = answer }) learns
      (subst (λ n. StandsInOrder (telling told (entries.End (record { n = n; answer = answer })))
      (ended_in (ended_of was (record { n = n; answer = answer })) (recorded learns.roomy))) its.number
      (after_end told was (recorded learns.roomy) b.task b.n b.worker b.call answer i
      (subst (λ (b : Begin). AllowsEnd told b answer i) (λ j. record b { owner = own j })
      (subst (λ told. AllowsEnd told b answer i) told_now (allows_end m told.snapped n call facts is_open answer i own)))
      stands (roomy_stands told was (entries.End (record { n = n; answer = answer })) now learns stands)))

  pub ends_disk : (d : ℕ) → b.owner ≡ Disk d
      → Stands (telling told (entries.End (record { n = n; answer = answer }))) now
  ends_disk d own =
      ended_by told was now (record { n = n; answer = answer }) learns
      (subst (λ n. StandsInOrder (telling told (entries.End (record { n = n; answer = answer })))
      (ended_in (ended_of was (record { n = n; answer = answer })) (recorded learns.roomy))) its.number
      (after_disk_end told was (recorded learns.roomy) b.task b.n b.worker b.call answer d
      (there ∙ (λ j. Some (record b { owner = own j })))
      (subst (λ told. AllowsDisk told b.task b.call d) told_now (allows_disk_end m told.snapped n call facts is_open d own))
      stands (roomy_stands told was (entries.End (record { n = n; answer = answer })) now learns stands)))
