-- What is chosen for a task by the records of a good site is lawful, and so is the end that comes to it.
use Rattle.std.proofs.Common.{◌≡◌, ◌∙◌, ◌<◌, ◌≤◌, ℕ, Bool, true, false, List, Option, Some, None, ap, arith, refl, subst, sym}
use Rattle.std.specs.Prelude.{◌≢◌, ◌&&◌, ◌==◌, is_none, is_some, nat_le, nat_lt, option_map, if◌then◌else◌}
use Rattle.std.specs.Option.{option_and_then}
use Rattle.std.proofs.lemmas.Bool.{and_parts, false≢true, leb-true, ltb-true}
use Rattle.bosh_base.specs.declared.entry.Begin.{Begin}
use Rattle.bosh_base.specs.declared.entry.Entry.{Entry}
use Rattle.bosh_base.specs.declared.failure.Failure.{Failure}
use Rattle.bosh_base.specs.declared.failure.Failure.TheVariants as failures
use Rattle.bosh_base.specs.declared.moves.Move.TheVariants as moves
use Rattle.bosh_base.specs.declared.task.TaskEnd.{TaskEnd}
use Rattle.bosh_base.specs.declared.task.TaskEnd.TheVariants as ends
use Rattle.bosh_book.specs.Ends.{closing, coming_end, end_by}
use Rattle.bosh_claim.specs.Choice.{choice_of, in_phase, of_open, of_task}
use Rattle.bosh_claim.specs.Phase.{present}
use Rattle.bosh_claim.specs.declared.choice.Choice.{Choice}
use Rattle.bosh_claim.specs.declared.choice.Choice.TheVariants as choices
use Rattle.bosh_claim.specs.declared.phase.Phase.{Phase}
use Rattle.bosh_history.specs.Calls.{number_of}
use Rattle.bosh_history.specs.Claim.{claim_at}
use Rattle.bosh_history.specs.Fit.{IsFit}
use Rattle.bosh_history.specs.Held.{is_open}
use Rattle.bosh_history.specs.Moments.{Moment, Opening}
use Rattle.bosh_history.specs.Notes.{Outside}
use Rattle.bosh_history.specs.Openings.{HasSource}
use Rattle.bosh_history.specs.Permitted.{IsPermitted}
use Rattle.bosh_history.specs.Tasks as history
use Rattle.bosh_ports.specs.declared.keeper.Keeper as keeper
use Rattle.bosh_records.specs.Readers.{work_at}
use Rattle.bosh_records.specs.declared.records.Records.{Records}
use Rattle.bosh_work.specs.declared.work.Work.{Work}
use Rattle.bosh_world.specs.Told.{story_of}
use Rattle.bosh_world.specs.declared.site.Site.{Site}
use Rattle.laws_choices.proofs.ClaimLemmas.{choice_is_claim}
use Rattle.laws_claims.proofs.ToldLemmas.{told_well}
use Rattle.laws_claims.specs.Progress.{IsLawful, ending}
use Rattle.laws_facts.specs.Owners.{works}
use Rattle.laws_runs.proofs.ClaimLemmas.{claims_are_lawful}
use Rattle.laws_runs.proofs.ReadLemmas.{run_facts}
use Rattle.laws_sites.proofs.StepLemmas.{book_goes_on}
use Rattle.laws_sites.specs.Good.{IsGood, IsRecorded, moment_of}
use Rattle.laws_stands.specs.Agrees.{claimed_of}
use Rattle.laws_stands.specs.Stands.{IsWork}
use Rattle.laws_stands.specs.Told.{Told}
use Rattle.laws_stands.specs.WorkStands.{end_of}
use Rattle.laws_sites.proofs.CountLemmas.{calls_numbered}

-- what is over by the records, where an end comes to the task
over_is : (records : Records) (worker : ℕ) (work : Work) (end : TaskEnd) → end_by records work.failed work ≡ Some end
    → of_task records worker (Some work) ≡ choices.Over
over_is records worker work end is = by work.failed is
  where
    failed_over : (b : Bool) (failed : TaskEnd) → ◌≡◌ {A = Option TaskEnd} (if b then Some failed else None) (Some end)
        → ◌≡◌ {A = Choice} (if b then choices.Over else choices.Waits) choices.Over
    failed_over true failed is = refl
    failed_over false failed is = absurd (let no = is in cc)

    done_over : (phase : Option Phase)
        → ◌≡◌ {A = Option TaskEnd} (if is_none phase then Some ends.Finished else None) (Some end)
        → in_phase records work worker phase ≡ choices.Over
    done_over None is = refl
    done_over (Some phase) is = absurd (let no = is in cc)

    by : (failed : Option TaskEnd) → end_by records failed work ≡ Some end
        → of_open records work worker failed ≡ choices.Over
    by (Some failed) is = failed_over (work.open == 0) failed is
    by None is = done_over (present records work) is

-- the entry of the end that comes is that of the end of a task that is over
closing_is : (told : Told) (records : Records) (t : ℕ) (work : Work) (failed : Option Failure) (end : TaskEnd)
    → work.failed ≡ option_map (end_of told.known) failed
    → ((failure : Failure) → failed ≡ Some failure → is_some (told.known.begun (number_of failure)) ≡ true)
    → ((failure : Failure) → failed ≡ Some failure → failure ≢ failures.Interrupted)
    → end_by records work.failed work ≡ Some end → closing t end ≡ ending t failed
closing_is told records t work None end is begun stopped comes =
    by (present records work) ((λ i. end_by records (sym is i) work) ∙ comes)
  where
    some_end : (a b : TaskEnd) → ◌≡◌ {A = Option TaskEnd} (Some a) (Some b) → a ≡ b
    some_end a b is = cc

    by : (phase : Option Phase)
        → ◌≡◌ {A = Option TaskEnd} (if is_none phase then Some ends.Finished else None) (Some end)
        → closing t end ≡ ending t None
    by None is = ap (closing t) (sym (some_end ends.Finished end is))
    by (Some phase) is = absurd (let no = is in cc)
closing_is told records t work (Some failure) end is begun stopped comes =
    by (work.open == 0) ((λ i. end_by records (sym is i) work) ∙ comes)
  where
    some_end : (a b : TaskEnd) → ◌≡◌ {A = Option TaskEnd} (Some a) (Some b) → a ≡ b
    some_end a b is = cc

    of_failure : (it : Failure) (o : Option Begin) → is_some o ≡ true → it ≢ failures.Interrupted
        → closing t (history.end_by it o) ≡ ending t (Some it)
    of_failure failures.Interrupted o some other = absurd (other refl)
    of_failure (failures.Call n) (Some b) some other = refl
    of_failure (failures.Gone n) (Some b) some other = refl
    of_failure it None some other = absurd (false≢true some)

    by : (b : Bool)
        → ◌≡◌ {A = Option TaskEnd} (if b then Some (end_of told.known failure) else None) (Some end)
        → closing t end ≡ ending t (Some failure)
    by true is = ap (closing t) (sym (some_end (end_of told.known failure) end is))
        ∙ of_failure failure (told.known.begun (number_of failure)) (begun failure refl) (stopped failure refl)
    by false is = absurd (let no = is in cc)

-- the end of a task opens none, so that it has no source to tell
pub closing_tells : (task : ℕ) (end : TaskEnd) → HasSource (closing task end)
closing_tells task ends.Finished = tt
closing_tells task (ends.Fault n method owner) = tt
closing_tells task ends.Interrupted = tt
closing_tells task (ends.Gone n method owner) = tt

module _ {K L : Type 0} {k : keeper.Ghosts K} {l : keeper.Ghosts L} (outside : Outside) (bodies : K → Option (List (List ℕ)))
    (cloud_bodies : L → Option (List (List ℕ))) (o : Opening) (site : Site K L k l) (t : ℕ) (fit : IsFit outside o)
    (good : IsGood outside bodies cloud_bodies o site) (running : site.history.is_halted ≡ false)
    (working : works (moment_of o site) t ≡ true) where
  abbrev m : Moment
  m = moment_of o site

  recorded : IsRecorded m site
  recorded = good.recorded (book_goes_on site running).1

  numbers : m.known.last_call < 18446744073709551615
  numbers = calls_numbered m.known good.numbers

  parts : (nat_lt m.stopped t ≡ true) × ((nat_le t m.known.tasks && is_open m.known t) ≡ true)
  parts = and_parts (nat_lt m.stopped t) (nat_le t m.known.tasks && is_open m.known t) working

  choice : (worker : ℕ) → claimed_of (choice_of site.book.records t worker) ≡ claim_at m t worker
  choice worker = choice_is_claim m recorded.told site.book.records t worker recorded.whole.stands recorded.agrees
      (run_facts outside o (story_of site) fit good.run) (ltb-true m.stopped t parts.0)
      (leb-true t m.known.tasks (and_parts (nat_le t m.known.tasks) (is_open m.known t) parts.1).0) numbers

  -- what is chosen
  pub chosen_lawful : (worker : ℕ) → IsLawful outside m t (claimed_of (choice_of site.book.records t worker))
  chosen_lawful worker = subst (IsLawful outside m t) (sym (choice worker))
      (claims_are_lawful outside o (story_of site) t worker fit good.run working (good.halted ∙ running))

  -- the end that comes
  pub end_lawful : (end : TaskEnd) → coming_end site.book.records t ≡ Some end
      → IsPermitted outside m (moves.Note (closing t end))
  end_lawful end comes = by (work_at site.book.records t) refl comes
    where
      by : (found : Option Work) → work_at site.book.records t ≡ found
          → option_and_then (λ (work : Work). end_by site.book.records work.failed work) found ≡ Some end
          → IsPermitted outside m (moves.Note (closing t end))
      by None is comes = absurd (let no = comes in cc)
      by (Some work) is comes =
          subst (λ (entry : Entry). IsPermitted outside m (moves.Note entry)) (sym entry_is)
          (subst (λ (it : Choice). IsLawful outside m t (claimed_of it))
          (ap (of_task site.book.records 0) is ∙ over_is site.book.records 0 work end comes) (chosen_lawful 0))
        where
          it : IsWork recorded.told t (Some work)
          it = subst (IsWork recorded.told t) is (recorded.whole.stands.works t)

          known : recorded.told.known ≡ m.known
          known = recorded.agrees.known_is

          begun : (failure : Failure) → (recorded.told.known.task t).failed ≡ Some failure
              → is_some (recorded.told.known.begun (number_of failure)) ≡ true
          begun = recorded.whole.stands.tells_well.failed t

          called : (failure : Failure) → (recorded.told.known.task t).failed ≡ Some failure
              → failure ≢ failures.Interrupted
          called failure failed same = (told_well o (story_of site) t).failures_are_calls
              ((λ i. ((sym known i).task t).failed) ∙ failed ∙ ap (λ (f : Failure). Some f) same)

          entry_is : closing t end ≡ ending t (m.known.task t).failed
          entry_is =
              closing_is recorded.told site.book.records t work (recorded.told.known.task t).failed end it.2.1.failed_is
              begun called comes
              ∙ (λ i. ending t ((known i).task t).failed)
