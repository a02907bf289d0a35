-- A task is done, of whatever kind, where that may be noted.
use Rattle.std.proofs.Common.{◌≡◌, ◌∙◌, ℕ, true, false, ap, refl, subst, sym}
use Rattle.bosh_base.specs.declared.entry.Entry.TheVariants as entries
use Rattle.bosh_base.specs.declared.task.TaskKind.{TaskKind}
use Rattle.bosh_base.specs.declared.task.TaskKind.TheVariants as kinds
use Rattle.bosh_fold.specs.Learns.{Learns}
use Rattle.bosh_history.specs.Deletions.{is_clean_up}
use Rattle.bosh_history.specs.Moments.{Moment}
use Rattle.bosh_history.specs.Notes.{EndsTask}
use Rattle.bosh_history.specs.Recovered.{may_follow}
use Rattle.bosh_records.specs.Kinds.{deploys}
use Rattle.bosh_records.specs.declared.records.Records.{Records}
use Rattle.laws_choices.proofs.SameCallLemmas.{told_at, told_is}
use Rattle.laws_facts.proofs.CurrentLemmas.{done_works}
use Rattle.laws_facts.specs.KnownFacts.{KnownFacts}
use Rattle.laws_facts.specs.Owners.{works}
use Rattle.laws_stands.specs.Agrees.{Agrees}
use Rattle.laws_stands.specs.Stands.{Stands}
use Rattle.laws_stands.specs.Told.{Told, telling}
use Rattle.laws_stands_closed.specs.Closed.{AllowsClose}
use Rattle.laws_stands_done.proofs.DoneLemmas.{deletion_is_done, deploy_is_done}
use Rattle.laws_stands_done.proofs.SettlesLemmas.{SettlesOne, settles_one}
use Rattle.laws_stands_done.specs.Settles.{Settles}
use Rattle.laws_stands_noted.proofs.DoneLemmas.{task_done}
use Rattle.laws_stands_noted.proofs.FailedLemmas.{allows_close}
use Rattle.laws_stands_noted.specs.Settling.{settles_nothing}

module _ (m : Moment) (told : Told) (was now : Records) (t : ℕ) (stands : Stands told was) (agrees : Agrees m told)
    (facts : KnownFacts m) (noted : EndsTask m t) (follows : may_follow m (entries.TaskDone t) ≡ true)
    (learns : Learns was (entries.TaskDone t) now) where
  working : works m t ≡ true
  working = done_works m t follows noted.is_open

  told_now : told_at m told.snapped ≡ told
  told_now = sym (told_is m told t facts working agrees stands.tells_well)

  allows : AllowsClose told t
  allows = subst (λ told. AllowsClose told t) told_now (allows_close m told.snapped t facts working noted.no_call)

  kind_told : (told.known.task t).kind ≡ (m.known.task t).kind
  kind_told = ap (λ k. (k.task t).kind) agrees.known_is

  one : is_clean_up (m.known.task t).kind ≡ false → SettlesOne m told.snapped t facts working
  one deploys = settles_one m told.snapped t facts working deploys

  deploy_noted : deploys (m.known.task t).kind ≡ true → is_clean_up (m.known.task t).kind ≡ false
      → Stands (telling told (entries.TaskDone t)) now
  deploy_noted deploy cleans =
      deploy_is_done told t (one cleans).dep (one cleans).goal
      (subst (λ told. Settles told t (one cleans).dep (one cleans).goal) told_now (one cleans).settles) allows was now
      stands learns (ap deploys kind_told ∙ deploy)

  deletion_noted : (m.known.task t).kind ≡ kinds.DeleteDeployment → is_clean_up (m.known.task t).kind ≡ false
      → Stands (telling told (entries.TaskDone t)) now
  deletion_noted deletion cleans =
      deletion_is_done told t (one cleans).dep (one cleans).goal
      (subst (λ told. Settles told t (one cleans).dep (one cleans).goal) told_now (one cleans).settles) allows was now
      stands learns (kind_told ∙ deletion)

  pub any_done : Stands (telling told (entries.TaskDone t)) now
  any_done = by (m.known.task t).kind refl
    where
      by : (kind : TaskKind) → (m.known.task t).kind ≡ kind → Stands (telling told (entries.TaskDone t)) now
      by kinds.Deploy is = deploy_noted (ap deploys is) (ap is_clean_up is)
      by kinds.Fix is = deploy_noted (ap deploys is) (ap is_clean_up is)
      by kinds.DeleteDeployment is = deletion_noted is (ap is_clean_up is)
      by kind is = task_done m told was now t stands agrees facts noted follows (ap settles_nothing is) learns
