-- A task that failed by a call ends, where that may be noted.
use Rattle.std.proofs.Common.{◌≡◌, ◌∙◌, ℕ, Bool, true, false, not, Option, Some, None, ap, refl, subst, sym}
use Rattle.std.specs.Prelude.{◌==◌, eqb, is_some, unwrap_or, if◌then◌else◌}
use Rattle.std.specs.Option.{option_and_then, option_map}
use Rattle.std.proofs.lemmas.Bool.{false≢true}
use Rattle.bosh_base.specs.Cloud.{numbers_to}
use Rattle.bosh_base.specs.declared.entry.Begin.{Begin}
use Rattle.bosh_base.specs.declared.entry.Entry.TheVariants as entries
use Rattle.bosh_base.specs.declared.entry.TaskError.{TaskError}
use Rattle.bosh_base.specs.declared.failure.Failure.{Failure}
use Rattle.bosh_base.specs.declared.failure.Failure.TheVariants as failures
use Rattle.bosh_base.specs.declared.task.TaskEnd.{TaskEnd}
use Rattle.bosh_base.specs.declared.task.TaskEnd.TheVariants as ends
use Rattle.bosh_fold.specs.Learned.{learned}
use Rattle.bosh_fold.specs.Learns.{Learns}
use Rattle.bosh_fold.specs.Tasks.{closed_task, interrupted_in}
use Rattle.bosh_fold.specs.declared.change.Change.{Change}
use Rattle.bosh_history.specs.Calls.{number_of}
use Rattle.bosh_history.specs.Moments.{Moment, OpenCall}
use Rattle.bosh_history.specs.Notes.{FailsTask}
use Rattle.bosh_history.specs.Recovered.{may_follow}
use Rattle.bosh_history.specs.Steps.{has_no_call}
use Rattle.bosh_history.specs.Tasks.{end_by}
use Rattle.bosh_history.specs.Words.{holds}
use Rattle.bosh_plan.specs.Closed.{end_after}
use Rattle.bosh_records.specs.Readers.{work_at}
use Rattle.bosh_records.specs.Recorded.{Recorded, recorded}
use Rattle.bosh_records.specs.declared.records.Records.{Records}
use Rattle.bosh_work.specs.declared.work.Work.{Work}
use Rattle.laws_allowed.proofs.WorkingLemmas.{IsAtWork, at_work}
use Rattle.laws_choices.proofs.SameCallLemmas.{told_at, told_is}
use Rattle.laws_claims.proofs.FactLemmas.{call_numbered}
use Rattle.laws_facts.proofs.CurrentLemmas.{done_works}
use Rattle.laws_facts.specs.KnownFacts.{KnownFacts}
use Rattle.laws_facts.specs.Owners.{works}
use Rattle.laws_items.proofs.ListLemmas.{all_in}
use Rattle.laws_items.proofs.ListedLemmas.{names_its_own}
use Rattle.laws_stands.specs.Agrees.{Agrees}
use Rattle.laws_stands.specs.Stands.{Stands, StandsInOrder}
use Rattle.laws_stands.specs.Told.{Told, of_others, telling}
use Rattle.laws_stands_closed.proofs.ClosedLemmas.{closed_stands}
use Rattle.laws_stands_closed.specs.Closed.{AllowsClose, told_ended}
use Rattle.laws_stands_noted.proofs.TaskLemmas.{other_dep}
use Rattle.laws_stands_on.proofs.ChangedLemmas.{eqb_flip}
use Rattle.laws_stands_on.proofs.RoomyLemmas.{roomy_stands}

-- ---- a task of which no call is open

module _ (m : Moment) (snapped t : ℕ) (facts : KnownFacts m) (working : works m t ≡ true)
    (none : has_no_call m t ≡ true) where
  none_open : (n : ℕ) (b : Begin) → (told_at m snapped).calls n ≡ Some b → eqb t b.task ≡ false
  none_open n b is = by (m.calls n) refl (eqb t b.task) refl is
    where
      by : (o : Option OpenCall) → m.calls n ≡ o → (u : Bool) → eqb t b.task ≡ u
          → option_map (λ (call : OpenCall). call.begin) (m.calls n) ≡ Some b → u ≡ false
      by o there false other is = refl
      by (Some call) there true own is =
          let e : Some call.begin ≡ Some b = sym (ap (option_map (λ (call : OpenCall). call.begin)) there) ∙ is in
          let same : call.begin ≡ b = cc in
          absurd (false≢true
          (sym (ap (λ o. not (holds (λ (call : OpenCall). call.begin.task == t) o)) there
          ∙ ap not (ap (λ (b : Begin). b.task == t) same ∙ eqb_flip b.task t ∙ own))
          ∙ all_in (λ n. not (holds (λ (call : OpenCall). call.begin.task == t) (m.calls n))) n
          (numbers_to m.known.last_call) none (call_numbered m t facts working n call there)))
      by None there true own is =
          absurd (let e : None ≡ Some b = sym (ap (option_map (λ (call : OpenCall). call.begin)) there) ∙ is in cc)

  pub allows_close : AllowsClose (told_at m snapped) t
  allows_close = record {
    none_open = none_open;
    alone = other_dep m t facts working;
    asked = (names_its_own m t facts working).asked;
    leaving = (names_its_own m t facts working).leaving;
    changing = (names_its_own m t facts working).changing;
    deleting = (names_its_own m t facts working).deleting;
  }

-- ---- the end that is planned

-- the failure of a call
abbrev pub IsOfCall : Failure → Type 0
IsOfCall failures.Interrupted = ⊥
IsOfCall failure = Unit {0}

not_interrupted : (failure : Failure) → IsOfCall failure → (o : Option Begin) → is_some o ≡ true → (t : ℕ)
    → (it : Recorded) → interrupted_in t (end_by failure o) it ≡ it
not_interrupted failures.Interrupted called o some t it = absurd called
not_interrupted (failures.Call n) called (Some b) some t it = refl
not_interrupted (failures.Gone n) called (Some b) some t it = refl
not_interrupted (failures.Call n) called None some t it = absurd (false≢true some)
not_interrupted (failures.Gone n) called None some t it = absurd (false≢true some)

module _ (m : Moment) (told : Told) (was now : Records) (t : ℕ) (cause : Failure) (called : IsOfCall cause)
    (stands : Stands told was) (agrees : Agrees m told) (facts : KnownFacts m) (working : works m t ≡ true)
    (failed : (m.known.task t).failed ≡ Some cause) (none : has_no_call m t ≡ true)
    (learns : Learns was (entries.TaskError (record { task = t; cause = cause })) now) where
  abbrev e : TaskError
  e = record { task = t; cause = cause }

  abbrev end : TaskEnd
  end = end_by cause (told.known.begun (number_of cause))

  told_failed : (told.known.task t).failed ≡ Some cause
  told_failed = ap (λ k. (k.task t).failed) agrees.known_is ∙ failed

  told_now : told_at m told.snapped ≡ told
  told_now = sym (told_is m told t facts working agrees stands.tells_well)

  allows : AllowsClose told t
  allows = subst (λ told. AllowsClose told t) told_now (allows_close m told.snapped t facts working none)

  begun : is_some (told.known.begun (number_of cause)) ≡ true
  begun = stands.tells_well.failed t cause told_failed

  plan_is : end_after was e ≡ end
  plan_is = by (at_work m told was t facts stands agrees working)
    where
      of_call : (cause : Failure) → IsOfCall cause
          → end_after was (record { task = t; cause = cause })
          ≡ unwrap_or (option_and_then (λ (work : Work). work.failed) (work_at was t)) ends.Interrupted
      of_call failures.Interrupted called = absurd called
      of_call (failures.Call n) called = refl
      of_call (failures.Gone n) called = refl

      by : IsAtWork m was t → end_after was e ≡ end
      by at =
          of_call cause called
          ∙ ap (λ o. unwrap_or (option_and_then (λ (work : Work). work.failed) o) ends.Interrupted) at.there
          ∙ ap (λ o. unwrap_or o ends.Interrupted)
          ((at.work_stands).failed_is
          ∙ ap (option_map (λ failure. end_by failure (m.known.begun (number_of failure)))) failed)
          ∙ ap (λ k. end_by cause (k.begun (number_of cause))) (sym agrees.known_is)

  -- no call of the task is forgotten
  calls_same : (n : ℕ) → told.calls n ≡ of_others t (told.calls n)
  calls_same n = by (told.calls n) refl
    where
      by : (o : Option Begin) → told.calls n ≡ o → o ≡ of_others t o
      by None is = refl
      by (Some b) is = λ j. if sym (eqb_flip b.task t ∙ allows.none_open n b is) j then None else Some b

  told_same : told_ended t end told ≡ telling told (entries.TaskError e)
  told_same = λ j. record (told_ended t end told) { calls = λ n. calls_same n j }

  pub task_failed : Stands (telling told (entries.TaskError e)) now
  task_failed =
      subst (λ told. StandsInOrder told (recorded now)) told_same
      (subst (StandsInOrder (told_ended t end told)) (sym learns.is_learned)
      (subst (λ (change : Change). StandsInOrder (told_ended t end told)
      (learned (entries.TaskError e) change (recorded learns.roomy))) (sym learns.planned)
      (subst (λ planned. StandsInOrder (told_ended t end told)
      (closed_task t planned (interrupted_in t planned (recorded learns.roomy)))) (sym plan_is)
      (subst (λ (it : Recorded). StandsInOrder (told_ended t end told) (closed_task t end it))
      (sym (not_interrupted cause called (told.known.begun (number_of cause)) begun t (recorded learns.roomy)))
      (closed_stands t end told (recorded learns.roomy) allows
      (roomy_stands told was (entries.TaskError e) now learns stands)))))) learns.ordered

pub failure_noted : (m : Moment) (told : Told) (was now : Records) (t : ℕ) (cause : Failure) → IsOfCall cause
    → Stands told was → Agrees m told → KnownFacts m → FailsTask m (record { task = t; cause = cause })
    → may_follow m (entries.TaskError (record { task = t; cause = cause })) ≡ true
    → Learns was (entries.TaskError (record { task = t; cause = cause })) now
    → Stands (telling told (entries.TaskError (record { task = t; cause = cause }))) now
failure_noted m told was now t failures.Interrupted called stands agrees facts noted follows learns = absurd called
failure_noted m told was now t (failures.Call n) called stands agrees facts noted follows learns =
    task_failed m told was now t (failures.Call n) called stands agrees facts
    (done_works m t follows noted.is_open) noted.cause noted.no_call learns
failure_noted m told was now t (failures.Gone n) called stands agrees facts noted follows learns =
    task_failed m told was now t (failures.Gone n) called stands agrees facts
    (done_works m t follows noted.is_open) noted.cause noted.no_call learns
