-- A site goes well after each call of it where it went well before.
use Rattle.std.proofs.Common.{◌≡◌, ℕ, Bool, List, [], ◌∷◌, Option, Some, None, Result, Ok, refl}
use Rattle.std.specs.Prelude.{Err, IfErr, IfOk, OnOk, is_some, true}
use Rattle.bosh_asks.specs.Goals.{config_in}
use Rattle.bosh_asks.specs.declared.ask.Ask.{Ask}
use Rattle.bosh_base.specs.declared.entry.Entry.TheVariants as entries
use Rattle.bosh_base.specs.declared.inst.Inst.{Inst}
use Rattle.bosh_base.specs.declared.entry.Loss.{Loss}
use Rattle.bosh_base.specs.declared.moves.Move.TheVariants as moves
use Rattle.bosh_base.specs.declared.release.Release.{Release}
use Rattle.bosh_book.specs.Uploads.{IsAdded, IsUpload}
use Rattle.bosh_book.specs.declared.uploads.Added.{Added}
use Rattle.bosh_book.specs.declared.uploads.Added.TheVariants.{New}
use Rattle.bosh_crew.specs.Carried.{Carries}
use Rattle.bosh_directing.specs.Keeps.{Keeps}
use Rattle.bosh_holdings.specs.Finding.{lost_vm, written_disk}
use Rattle.bosh_ports.specs.declared.keeper.Keeper as keeper
use Rattle.bosh_traps.specs.declared.trap.Trap.{Trap}
use Rattle.bosh_world.specs.Arms.{Arms}
use Rattle.bosh_world.specs.Jobs.{Changes, IsLoss, IsMissing, IsNotRunning, IsWrite, RefusesJob}
use Rattle.bosh_world.specs.Pending.{IsAllowed, IsOpening, Pends}
use Rattle.bosh_world.specs.Refuses.{Refuses}
use Rattle.bosh_world.specs.Restarts.{RefusesRestart, Restarts}
use Rattle.bosh_world.specs.Steps.{IsSame, Notes, OpensTask, entries_for}
use Rattle.bosh_world.specs.declared.fault.SiteFault.{SiteFault}
use Rattle.bosh_world.specs.declared.site.Site.{Site}
use Rattle.laws_outside.specs.Shipped.{shipped}
use Rattle.laws_restarts.proofs.RestartLemmas.{goes_on_good}
use Rattle.laws_restarts.proofs.UnreadLemmas.{refused_good}
use Rattle.laws_sites.proofs.ChainLemmas.{carried_good}
use Rattle.laws_sites.proofs.FoundLemmas.{shipped_is_found_out}
use Rattle.laws_sites.proofs.KeepLemmas.{armed_good, same_parts_good}
use Rattle.laws_sites.proofs.OpenedLemmas.{task_good, task_refused}
use Rattle.laws_sites.proofs.UploadLemmas.{config_good, config_refused, release_good, release_refused, stemcell_good, stemcell_refused}
use Rattle.laws_sites.proofs.WrittenLemmas.{loss_refused_good, lost_good, write_refused_good, wrote_good}
use Rattle.laws_stands_kept.proofs.KeptLemmas.{one_more_stands}
use Rattle.laws_views.specs.Planned.{IsChecked}

-- nothing happens
pub keeps_none : {K L : Type 0} {k : keeper.Ghosts K} {l : keeper.Ghosts L} (bodies : K → Option (List (List ℕ)))
    (cloud_bodies : L → Option (List (List ℕ))) (site : Site K L k l) → Keeps bodies cloud_bodies site site
keeps_none bodies cloud_bodies site = λ it. it

module _ {K L : Type 0} {k : keeper.Ghosts K} {l : keeper.Ghosts L} (bodies : K → Option (List (List ℕ))) (faults : K → ℕ)
    (is_broken : K → Bool) (cloud_bodies : L → Option (List (List ℕ))) (cloud_faults : L → ℕ) (was now : Site K L k l) where
  -- ---- uploads

  pub keeps_release : (release : Release) (added : Added) → now.calls ≡ was.calls
      → IsUpload was.book.records.releases.items release added
      → Notes bodies faults was (entries_for added (entries.Release release)) None now → Keeps bodies cloud_bodies was now
  keeps_release release added calls is notes = λ it. (
    it.0,
    it.1,
    release_good shipped bodies cloud_bodies faults it.0 was now it.1 it.2 calls shipped_is_found_out release added is notes,
  )

  pub keeps_no_release : (release : Release) (fault : SiteFault) → now.calls ≡ was.calls
      → Refuses bodies faults was [] fault now
      → Pends was (IsAllowed (IsUpload was.book.records.releases.items release New) (entries.Release release)) now
      → Keeps bodies cloud_bodies was now
  keeps_no_release release fault calls refuses pends = λ it. (
    it.0,
    it.1,
    release_refused shipped bodies cloud_bodies faults it.0 was now it.1 it.2 calls shipped_is_found_out release fault refuses
        pends,
  )

  pub keeps_stemcell : (os version : List ℕ) (added : Added) → now.calls ≡ was.calls
      → IsAdded was.book.records.stemcells.items os version added
      → Notes bodies faults was (entries_for added (entries.Stemcell (record { os = os; version = version }))) None now
      → Keeps bodies cloud_bodies was now
  keeps_stemcell os version added calls is notes = λ it. (
    it.0,
    it.1,
    stemcell_good shipped bodies cloud_bodies faults it.0 was now it.1 it.2 calls shipped_is_found_out os version added is notes,
  )

  pub keeps_no_stemcell : (os version : List ℕ) (fault : SiteFault) → now.calls ≡ was.calls
      → Refuses bodies faults was [] fault now
      → Pends was (IsAllowed (IsAdded was.book.records.stemcells.items os version New)
      (entries.Stemcell (record { os = os; version = version }))) now → Keeps bodies cloud_bodies was now
  keeps_no_stemcell os version fault calls refuses pends = λ it. (
    it.0,
    it.1,
    stemcell_refused shipped bodies cloud_bodies faults it.0 was now it.1 it.2 calls shipped_is_found_out os version fault
        refuses pends,
  )

  pub keeps_config : (file : List ℕ) → now.calls ≡ was.calls → is_some (config_in file) ≡ true
      → Notes bodies faults was (entries.Config file ∷ []) None now → Keeps bodies cloud_bodies was now
  keeps_config file calls is notes = λ it. (
    it.0,
    it.1,
    config_good shipped bodies cloud_bodies faults it.0 was now it.1 it.2 calls shipped_is_found_out file is notes,
  )

  pub keeps_no_config : (file : List ℕ) (fault : SiteFault) → now.calls ≡ was.calls → Refuses bodies faults was [] fault now
      → Pends was (IsAllowed (is_some (config_in file) ≡ true) (entries.Config file)) now
      → Keeps bodies cloud_bodies was now
  keeps_no_config file fault calls refuses pends = λ it. (
    it.0,
    it.1,
    config_refused shipped bodies cloud_bodies faults it.0 was now it.1 it.2 calls shipped_is_found_out file fault refuses pends,
  )

  -- ---- tasks

  pub keeps_opened : (ask : Ask) (task : ℕ) → IsChecked ask → now.calls ≡ was.calls
      → OpensTask bodies faults was ask task now → Keeps bodies cloud_bodies was now
  keeps_opened ask task checked calls opens = λ it. (
    it.0,
    it.1,
    task_good shipped bodies cloud_bodies faults it.0 was now it.1 it.2 calls one_more_stands ask task checked opens,
  )

  pub keeps_unopened : (ask : Ask) (fault : SiteFault) → IsChecked ask → now.calls ≡ was.calls
      → Refuses bodies faults was [] fault now → Pends was (IsOpening was.book ask) now → Keeps bodies cloud_bodies was now
  keeps_unopened ask fault checked calls refuses pends = λ it. (
    it.0,
    it.1,
    task_refused shipped bodies cloud_bodies faults it.0 was now it.1 it.2 calls ask fault checked refuses pends,
  )

  pub keeps_carried : (tasks : List ℕ) (worker : ℕ) (result : Result (Unit {0}) SiteFault)
      → Carries bodies faults cloud_bodies cloud_faults tasks worker was result now → Keeps bodies cloud_bodies was now
  keeps_carried tasks worker result carries = λ it. (
    it.0,
    it.1,
    carried_good one_more_stands bodies faults cloud_bodies cloud_faults shipped refl it.0 it.1 tasks worker was result now it.2
        carries,
  )

  -- ---- what is answered at the desk

  pub keeps_release_answered : (release : Release) (result : Result Added SiteFault) → now.calls ≡ was.calls
      → IfOk result (IsUpload was.book.records.releases.items release)
      → IfOk result (λ added. Notes bodies faults was (entries_for added (entries.Release release)) None now)
      → IfErr result (λ fault. Refuses bodies faults was [] fault now)
      → Pends was (IsAllowed (IsUpload was.book.records.releases.items release New) (entries.Release release)) now
      → Keeps bodies cloud_bodies was now
  keeps_release_answered release (Ok added) calls is notes refused pends = keeps_release release added calls is notes
  keeps_release_answered release (Err fault) calls is notes refused pends =
      keeps_no_release release fault calls refused pends

  pub keeps_stemcell_answered : (os version : List ℕ) (result : Result Added SiteFault) → now.calls ≡ was.calls
      → IfOk result (IsAdded was.book.records.stemcells.items os version)
      → IfOk result (λ added. Notes bodies faults was
      (entries_for added (entries.Stemcell (record { os = os; version = version }))) None now)
      → IfErr result (λ fault. Refuses bodies faults was [] fault now)
      → Pends was (IsAllowed (IsAdded was.book.records.stemcells.items os version New)
      (entries.Stemcell (record { os = os; version = version }))) now → Keeps bodies cloud_bodies was now
  keeps_stemcell_answered os version (Ok added) calls is notes refused pends =
      keeps_stemcell os version added calls is notes
  keeps_stemcell_answered os version (Err fault) calls is notes refused pends =
      keeps_no_stemcell os version fault calls refused pends

  pub keeps_config_answered : (file : List ℕ) (result : Result (Unit {0}) SiteFault) → now.calls ≡ was.calls
      → OnOk result (is_some (config_in file) ≡ true)
      → OnOk result (Notes bodies faults was (entries.Config file ∷ []) None now)
      → IfErr result (λ fault. Refuses bodies faults was [] fault now)
      → Pends was (IsAllowed (is_some (config_in file) ≡ true) (entries.Config file)) now
      → Keeps bodies cloud_bodies was now
  keeps_config_answered file (Ok value) calls is notes refused pends = keeps_config file calls is notes
  keeps_config_answered file (Err fault) calls is notes refused pends = keeps_no_config file fault calls refused pends

  pub keeps_task_answered : (ask : Ask) (result : Result ℕ SiteFault) → IsChecked ask → now.calls ≡ was.calls
      → IfOk result (λ task. OpensTask bodies faults was ask task now)
      → IfErr result (λ fault. Refuses bodies faults was [] fault now)
      → Pends was (IsOpening was.book ask) now → Keeps bodies cloud_bodies was now
  keeps_task_answered ask (Ok task) checked calls opens refused pends = keeps_opened ask task checked calls opens
  keeps_task_answered ask (Err fault) checked calls opens refused pends =
      keeps_unopened ask fault checked calls refused pends

  -- ---- jobs and losses

  pub keeps_written : (inst : Inst) (text : List ℕ) (disk : ℕ)
      → written_disk was.book.records was.cloud.effects inst ≡ Some disk
      → Changes cloud_bodies cloud_faults was (entries.Write (record { disk = disk; text = text }))
      (moves.Wrote (record { inst = inst; text = text })) now → Keeps bodies cloud_bodies was now
  keeps_written inst text disk is changes = λ it. (
    it.0,
    it.1,
    wrote_good shipped bodies cloud_bodies cloud_faults it.0 was now it.1 it.2 inst text disk changes.running is changes,
  )

  pub keeps_unwritten : (inst : Inst) (text : List ℕ) (fault : SiteFault)
      → RefusesJob cloud_bodies cloud_faults was (IsWrite was inst text) (IsNotRunning was inst) fault now
      → Keeps bodies cloud_bodies was now
  keeps_unwritten inst text fault refuses = λ it. (
    it.0,
    it.1,
    write_refused_good shipped bodies cloud_bodies cloud_faults it.0 was now it.1 it.2 inst text fault refuses,
  )

  pub keeps_lost : (inst : Inst) (loss : Loss) → lost_vm was.book.records was.cloud.effects inst ≡ Some loss.vm
      → Changes cloud_bodies cloud_faults was (entries.Lost loss) (moves.Lost loss) now → Keeps bodies cloud_bodies was now
  keeps_lost inst loss is changes = λ it. (
    it.0,
    it.1,
    lost_good shipped bodies cloud_bodies cloud_faults it.0 was now it.1 it.2 inst loss changes.running is changes,
  )

  pub keeps_unlost : (inst : Inst) (whole : Bool) (fault : SiteFault)
      → RefusesJob cloud_bodies cloud_faults was (IsLoss was inst whole) (IsMissing was inst) fault now
      → Keeps bodies cloud_bodies was now
  keeps_unlost inst whole fault refuses = λ it. (
    it.0,
    it.1,
    loss_refused_good shipped bodies cloud_bodies cloud_faults it.0 was now it.1 it.2 inst whole fault refuses,
  )

  -- ---- traps, and a restart

  pub keeps_armed : (trap : Trap) → Arms was trap now → Keeps bodies cloud_bodies was now
  keeps_armed trap arms = λ it. (it.0, it.1, armed_good shipped bodies cloud_bodies it.0 was now it.2 trap arms)

  pub keeps_same : IsSame was now → Keeps bodies cloud_bodies was now
  keeps_same same = λ it. (it.0, it.1, same_parts_good shipped bodies cloud_bodies it.0 was now it.2 same)

  pub keeps_restarted : Restarts bodies faults is_broken cloud_bodies cloud_faults was (Ok tt) None now
      → Keeps bodies cloud_bodies was now
  keeps_restarted restarts = λ it. (
    it.0,
    it.1,
    goes_on_good shipped bodies faults is_broken cloud_bodies cloud_faults it.0 was now it.1 it.2 (Ok tt) None restarts refl refl,
  )

  pub keeps_unstarted : (fault : SiteFault)
      → RefusesRestart bodies faults is_broken cloud_bodies cloud_faults was fault now → Keeps bodies cloud_bodies was now
  keeps_unstarted fault refuses = λ it. (
    it.0,
    it.1,
    refused_good shipped bodies faults is_broken cloud_bodies cloud_faults it.0 was now it.1 it.2 fault refuses,
  )
