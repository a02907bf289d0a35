-- A worker is never stopped by a lock where all that is open on a good site is what it has at hand.
use Rattle.std.proofs.Common.{◌≡◌, ◌∙◌, ◌≤◌, ℕ, true, false, List, [], Option, Err, ap, subst, sym}
use Rattle.std.specs.Prelude.{All}
use Rattle.std.specs.Option.{option_map_or}
use Rattle.std.proofs.lemmas.List.Elements.{All-contains}
use Rattle.bosh_agent.specs.Compiled.{compiled_digest}
use Rattle.bosh_asks.specs.declared.fault.BookFault.TheVariants as book
use Rattle.bosh_base.specs.Answer.{is_kind}
use Rattle.bosh_base.specs.Call.{method_of}
use Rattle.bosh_base.specs.declared.call.Call.{Call}
use Rattle.bosh_base.specs.declared.entry.Begin.{Begin}
use Rattle.bosh_book.specs.Current.{IsOpenCall}
use Rattle.bosh_book.specs.Running.{room_left}
use Rattle.bosh_crew.specs.Carried.{Carries, Stops}
use Rattle.bosh_crew.specs.Carried.Stops.{in_call, in_claim, in_end, in_settling, lacks, waits}
use Rattle.bosh_crew.specs.declared.place.Place.{Place}
use Rattle.bosh_crew.specs.declared.place.Place.TheVariants.{Empty}
use Rattle.bosh_history.specs.Fit.{IsFit}
use Rattle.bosh_history.specs.Moments.{Opening}
use Rattle.bosh_history.specs.Notes.{Outside}
use Rattle.bosh_ports.specs.Rigged.{faults_of}
use Rattle.bosh_ports.specs.declared.keeper.Keeper as keeper
use Rattle.bosh_world.specs.Holds.{IsHeld}
use Rattle.bosh_world.specs.Steps.{bodies_of}
use Rattle.bosh_world.specs.Told.{story_of}
use Rattle.bosh_world.specs.declared.fault.SiteFault.TheVariants as fault
use Rattle.bosh_world.specs.declared.held.HeldCall.{HeldCall}
use Rattle.bosh_world.specs.declared.site.Site.{Site}
use Rattle.laws_allowed.proofs.CallLemmas.{end_is_allowed}
use Rattle.laws_runs.proofs.ReadLemmas.{run_facts}
use Rattle.laws_sites.proofs.ChainLemmas.{reached_good}
use Rattle.laws_sites.proofs.HeldLemmas.{held_may_end}
use Rattle.laws_sites.proofs.NoteLemmas.{OneMoreStands}
use Rattle.laws_sites.proofs.StepLemmas.{book_goes_on}
use Rattle.laws_sites.specs.Good.{IsGood, IsRecorded, moment_of}
use Rattle.laws_waits.proofs.HandLemmas.{reached_at_hand}
use Rattle.laws_waits.proofs.OpenedLemmas.{reached_opened}
use Rattle.laws_waits.proofs.OverLemmas.{not_at_work}
use Rattle.laws_waits.proofs.SiteLemmas.{open_there}
use Rattle.laws_waits.proofs.TurnLemmas.{over_by}
use Rattle.laws_waits.specs.Hands.{IsAtHand}
use Rattle.laws_waits.specs.Opened.{IsOpened}

module _ {K L : Type 0} {k : keeper.Ghosts K} {l : keeper.Ghosts L} (outside : Outside)
    (bodies : K → Option (List (List ℕ))) (cloud_bodies : L → Option (List (List ℕ))) (o : Opening) (fit : IsFit outside o)
  where
    -- the answer of a call that is held is of its kind
    held_in_kind : (site : Site K L k l) (call : HeldCall) → IsGood outside bodies cloud_bodies o site
        → site.history.is_halted ≡ false → IsHeld site call → is_kind (method_of call.permit.call) call.answer ≡ true
    held_in_kind site call good running held =
        ap (λ (c : Call). is_kind (method_of c) call.answer) (sym begun.is_for.call)
        ∙ ap (λ (b : Option Begin). option_map_or (λ (begin : Begin). is_kind (method_of begin.call) call.answer) b false)
        (sym begun.is_open)
        ∙ end_is_allowed (moment_of o site) it.told site.book.records (record { n = call.permit.n; answer = call.answer })
        it.whole.stands it.agrees (run_facts outside o (story_of site) fit good.run)
        (held_may_end outside bodies cloud_bodies o site call good running held).2
      where
        begun : IsOpenCall site.book.records call.permit
        begun = held.0.1

        it : IsRecorded (moment_of o site) site
        it = good.recorded (book_goes_on site running).1

module _ (one_more : OneMoreStands) {K L : Type 0} {k : keeper.Ghosts K} {l : keeper.Ghosts L}
    (bodies : K → Option (List (List ℕ))) (faults : K → ℕ) (cloud_bodies : L → Option (List (List ℕ))) (cloud_faults : L → ℕ)
    (outside : Outside) (built : outside.built ≡ compiled_digest) (o : Opening) (fit : IsFit outside o) (tasks : List ℕ)
    (worker : ℕ) where
  -- the step in which it is stopped
  stopped_unlocked : (was : Site K L k l) (place : Place) (task : ℕ) (now : Site K L k l)
      → IsGood outside bodies cloud_bodies o was → IsAtHand place was.calls.unsettled
      → All (IsOpened was.book.records) tasks
      → Stops bodies faults cloud_bodies cloud_faults tasks worker was place (fault.Book (book.Locked task)) now → ⊥
  stopped_unlocked was place task now good has opened (in_claim other from among refuses is calls pends) = is
  stopped_unlocked was place task now good has opened (in_call permit mid from free refuses abandons) =
      refuses.1 free
  stopped_unlocked was place task now good has opened (in_settling call mid from held refuses is calls pends abandons) =
      is.1 (held, (held.0, held_in_kind outside bodies cloud_bodies o fit was call good refuses.0 held))
  stopped_unlocked was place task now good has opened (in_end other from among over refuses is calls pends) =
      not_at_work (moment_of o was) it.told was.book.records other worker (good.runs refuses.0).recovered it.agrees
      it.whole.stands (All-contains (IsOpened was.book.records) tasks other opened among)
      (over_by (bodies_of bodies) (faults_of faults) other worker (room_left over.0.book) over.0.book was.book
      over.1.by_turns) is.2
    where
      it : IsRecorded (moment_of o was) was
      it = good.recorded (book_goes_on was refuses.0).1
  stopped_unlocked was place task now good has opened (waits other from is told same) =
      open_there bodies cloud_bodies faults outside o is.1.0 was other worker fit good is.1.1
      (subst (λ (p : Place). IsAtHand p was.calls.unsettled) from has)
  stopped_unlocked was place task now good has opened (lacks from memory same) = absurd (let no = memory in cc)

  -- all that it does
  pub never_locked : (was : Site K L k l) (task : ℕ) (now : Site K L k l) → IsGood outside bodies cloud_bodies o was
      → was.calls.unsettled ≡ [] → All (IsOpened was.book.records) tasks
      → ¬ Carries bodies faults cloud_bodies cloud_faults tasks worker was (Err (fault.Book (book.Locked task))) now
  never_locked was task now good none opened (mid, (at, reached, stops)) =
      stopped_unlocked mid at task now
      (reached_good one_more bodies faults cloud_bodies cloud_faults outside built o fit tasks worker was Empty mid at good
      reached)
      (reached_at_hand bodies faults cloud_bodies cloud_faults tasks worker was Empty mid at none reached)
      (subst (λ (n : ℕ). All (λ (task : ℕ). (1 ≤ task) × (task ≤ n)) tasks)
      (sym (reached_opened bodies faults cloud_bodies cloud_faults tasks worker was Empty mid at reached)) opened) stops
