-- What it gives to perform a call, or to stop in it.
use Rattle.std.proofs.Common.{◌≡◌, ℕ, true, false, Option, Some, None, List, [], ◌∷◌, ◌++◌, length, slice_get, inr, refl, sym}
use Rattle.std.proofs.Common.{◌∙◌, ap, subst, append-nil}
use Rattle.bosh_base.specs.Call.{method_of}
use Rattle.bosh_base.specs.declared.answer.Answer.{Answer}
use Rattle.bosh_base.specs.declared.entry.Entry.{Entry}
use Rattle.bosh_base.specs.declared.moves.Cause.{Cause}
use Rattle.bosh_base.specs.declared.moves.Cause.TheVariants as causes
use Rattle.bosh_base.specs.declared.moves.Did as did
use Rattle.bosh_base.specs.declared.moves.Move.{Move}
use Rattle.bosh_base.specs.declared.moves.Move.TheVariants as moves
use Rattle.bosh_book.specs.Current.{IsCurrent}
use Rattle.bosh_book.specs.declared.granted.Granted.{Granted}
use Rattle.bosh_calls.proofs.CallLemmas.{place_performed}
use Rattle.bosh_calls.specs.Calls.{is_performable, place_of, with_performed}
use Rattle.bosh_calls.specs.declared.calls.OpenCall.{OpenCall}
use Rattle.bosh_cloud.specs.CloudView.{CloudView}
use Rattle.bosh_moves.proofs.TellLemmas.{bare_on, story_all, told_running}
use Rattle.bosh_moves.specs.Story.{Follows, HistoryView, IsOf, effects_told, story}
use Rattle.bosh_ports.specs.declared.keeper.Keeper as keeper
use Rattle.bosh_traps.specs.Traps.{decision, traps_after}
use Rattle.bosh_traps.specs.declared.trap.Armed.{Armed}
use Rattle.bosh_traps.specs.declared.trap.Firing.{Firing}
use Rattle.bosh_world.proofs.CallLemmas.{comes_nothing}
use Rattle.bosh_world.proofs.PushLemmas.{comes_then}
use Rattle.bosh_world.specs.Faults.{stop_fault}
use Rattle.bosh_world.specs.Holds.{HasAnswered, IsDid, IsHeld}
use Rattle.bosh_world.specs.Performing.{Asks, HaltsInCloud, Holds, IsAsked, LacksMemory, Performs, RefusesToPerform, StopsIn, did_of}
use Rattle.bosh_world.specs.Steps.{Comes, IsAllTold, KeepsBooks}
use Rattle.bosh_world.specs.Stopping.{EachTakes, GoesOn, TakesEffects}
use Rattle.bosh_world.specs.Told.{IsPerformable, story_of}
use Rattle.bosh_world.specs.declared.fault.SiteFault.{SiteFault}
use Rattle.bosh_world.specs.declared.site.Site.{Site}

-- ---- stops

-- what is to be told of a site that has not halted are entries, whatever was done to the cloud
story_same : (h : HistoryView) (entries effects effects_now : List Entry) → IsOf h entries → h.is_halted ≡ false →
    story h entries effects_now ≡ story h entries effects
story_same h entries effects effects_now of running =
    bare_on h entries effects_now of running ∙ sym (bare_on h entries effects of running)

pub halts_in_cloud : {K L : Type 0} {k : keeper.Ghosts K} {l : keeper.Ghosts L} (bodies : L → Option (List (List ℕ)))
    (faults : L → ℕ) (was now : Site K L k l) (cause : Cause) → IsOf was.history was.book.journal.entries →
    was.history.is_halted ≡ false → GoesOn bodies faults was.cloud now.cloud → now.book ≡ was.book →
    now.calls.unsettled ≡ was.calls.unsettled → now.opening ≡ was.opening →
    Follows was.history was.book.journal.entries now.cloud.effects (Some cause) now.history →
    HaltsInCloud bodies faults was cause now
halts_in_cloud bodies faults was now cause of running goes book calls opening follows = record {
  ran = running;
  comes = record {
    grows = follows.grows;
    story =
        ap (λ b. story now.history b.journal.entries now.cloud.effects) book
        ∙ follows.story
        ∙ ap (λ (ms : List Move). ms ++ moves.Halt cause ∷ [])
        (story_same was.history was.book.journal.entries was.cloud.effects now.cloud.effects of running);
    told =
        follows.same_effects
        ∙ told_running was.history was.book.journal.entries now.cloud.effects was.cloud.effects of running;
  };
  halted = follows.halted;
  effects = goes.effects;
  kept = goes.kept;
  count = goes.count;
  same_book = book;
  same_calls = calls;
  same_opening = opening;
}

-- a trap stops the director, for a cause
stops_in : {K L : Type 0} {k : keeper.Ghosts K} {l : keeper.Ghosts L} (bodies : L → Option (List (List ℕ)))
    (faults : L → ℕ) (was now : Site K L k l) (permit : Granted) (firing : Firing) (n : ℕ) (cause : Cause) → n ≡ permit.n →
    decision (method_of permit.call) permit.owner was.traps.items ≡ Some firing →
    EachTakes bodies faults was.book.records firing n false was.calls.unsettled was.cloud (Some cause) now.cloud →
    now.traps.items ≡ traps_after (method_of permit.call) permit.owner was.traps.items →
    HaltsInCloud bodies faults was cause now → StopsIn bodies faults was permit cause now
stops_in bodies faults was now permit firing n cause number stopped each armed halts = record {
  firing = firing;
  decides = stopped;
  each = subst (λ (m : ℕ). EachTakes bodies faults was.book.records firing m false was.calls.unsettled was.cloud (Some cause)
      now.cloud) number each;
  armed = armed;
  halts = halts;
}

pub stops_as : {K L : Type 0} {k : keeper.Ghosts K} {l : keeper.Ghosts L} (bodies : L → Option (List (List ℕ)))
    (faults : L → ℕ) (was now : Site K L k l) (permit : Granted) (firing : Firing) (n : ℕ) (cause : Cause) (fault : SiteFault) →
    n ≡ permit.n → fault ≡ stop_fault cause →
    decision (method_of permit.call) permit.owner was.traps.items ≡ Some firing →
    TakesEffects bodies faults was.cloud (Some cause) now.cloud →
    EachTakes bodies faults was.book.records firing n false was.calls.unsettled was.cloud (Some cause) now.cloud →
    now.traps.items ≡ traps_after (method_of permit.call) permit.owner was.traps.items →
    IsOf was.history was.book.journal.entries → was.history.is_halted ≡ false → now.book ≡ was.book →
    now.calls.unsettled ≡ was.calls.unsettled → now.opening ≡ was.opening →
    Follows was.history was.book.journal.entries now.cloud.effects (Some cause) now.history →
    RefusesToPerform bodies faults was permit fault now
stops_as bodies faults was now permit firing n causes.Stop fault number is stopped takes each armed of running book calls
    opening follows =
    subst (λ (f : SiteFault). RefusesToPerform bodies faults was permit f now) (sym is)
    (inr (stops_in bodies faults was now permit firing n causes.Stop number stopped each armed
    (halts_in_cloud bodies faults was now causes.Stop of running takes book calls opening follows)))
stops_as bodies faults was now permit firing n causes.CloudStore fault number is stopped takes each armed of running book
    calls opening follows =
    subst (λ (f : SiteFault). RefusesToPerform bodies faults was permit f now) (sym is)
    (inr (stops_in bodies faults was now permit firing n causes.CloudStore number stopped each armed
    (halts_in_cloud bodies faults was now causes.CloudStore of running takes.0 book calls opening follows)))
stops_as bodies faults was now permit firing n causes.Store fault number is stopped takes each armed of running book calls
    opening follows =
    absurd takes

-- ---- memory

-- nothing came but what was told
pub comes_followed : {K L : Type 0} {k : keeper.Ghosts K} {l : keeper.Ghosts L} (was now : Site K L k l) →
    IsOf was.history was.book.journal.entries → was.history.is_halted ≡ false → now.book ≡ was.book →
    Follows was.history was.book.journal.entries now.cloud.effects None now.history → Comes was [] now
comes_followed was now of running book follows = record {
  grows = follows.grows;
  story =
      ap (λ b. story now.history b.journal.entries now.cloud.effects) book
      ∙ follows.story
      ∙ ap (λ (ms : List Move). ms ++ [])
      (story_same was.history was.book.journal.entries was.cloud.effects now.cloud.effects of running);
  told =
      follows.same_effects
      ∙ told_running was.history was.book.journal.entries now.cloud.effects was.cloud.effects of running;
}

-- nothing was done
pub lacks_first : {K L : Type 0} {k : keeper.Ghosts K} {l : keeper.Ghosts L} (bodies : L → Option (List (List ℕ)))
    (was : Site K L k l) → was.history.is_halted ≡ false → LacksMemory bodies was was
lacks_first bodies was running = record {
  ran = running;
  running = running;
  comes = comes_nothing was was refl refl refl;
  same_effects = refl;
  same_fates = (refl, refl);
  kept = λ kept. kept;
  same_book = refl;
  same_calls = refl;
  same_armed = refl;
  same_opening = refl;
}

-- ---- calls that were performed

-- what was asked of the cloud, and then told
asked_comes : {K L : Type 0} {k : keeper.Ghosts K} {l : keeper.Ghosts L} (bodies : L → Option (List (List ℕ)))
    (faults : L → ℕ) (was mid : Site K L k l) (permit : Granted) (told : did.Did) (answer : Answer) →
    IsAsked bodies faults was permit told answer mid → IsOf was.history was.book.journal.entries →
    was.history.is_halted ≡ false → Comes was [] mid
asked_comes bodies faults was mid permit told answer asked of running = record {
  grows = ([], ap (λ h. h.moves) asked.same_history ∙ sym (append-nil was.history.moves));
  story =
      ap (λ b. story mid.history b.journal.entries mid.cloud.effects) asked.same_book
      ∙ ap (λ h. story h was.book.journal.entries mid.cloud.effects) asked.same_history
      ∙ story_same was.history was.book.journal.entries was.cloud.effects mid.cloud.effects of running
      ∙ sym (append-nil (story_of was));
  told =
      ap (λ h. effects_told h mid.cloud.effects) asked.same_history
      ∙ told_running was.history was.book.journal.entries mid.cloud.effects was.cloud.effects of running;
}

pub performs_as : {K L : Type 0} {k : keeper.Ghosts K} {l : keeper.Ghosts L} (bodies : L → Option (List (List ℕ)))
    (faults : L → ℕ) (was mid now : Site K L k l) (permit : Granted) (told : did.Did) (answer : Answer) →
    IsAsked bodies faults was permit told answer mid → Holds mid permit told now →
    IsOf was.history was.book.journal.entries → IsAllTold was → was.history.is_halted ≡ false →
    decision (method_of permit.call) permit.owner was.traps.items ≡ None → Performs bodies faults was permit answer now
performs_as bodies faults was mid now permit told answer asked holds of all running unstopped = record {
  asks = subst (λ (cloud : CloudView _). Asks bodies faults was.cloud permit answer cloud) (sym holds.same_cloud) asked.asks;
  comes = subst (λ (it : did.Did). Comes was (moves.Did it ∷ []) now) asked.told
      (comes_then was mid now (moves.Did told ∷ [])
      (asked_comes bodies faults was mid permit told answer asked of running) holds.comes);
  running = running;
  runs_on = holds.halted ∙ ap (λ h. h.is_halted) asked.same_history ∙ running;
  unstopped = unstopped;
  armed = holds.armed ∙ ap (λ (traps : List Armed). traps_after (method_of permit.call) permit.owner traps) asked.same_armed;
  calls =
      holds.calls
      ∙ ap (λ cs. with_performed permit.n (length mid.history.moves) cs.unsettled) asked.same_calls
      ∙ ap (λ h. with_performed permit.n (length h.moves) was.calls.unsettled) asked.same_history
      ∙ ap (λ (ms : List Move). with_performed permit.n (length ms) was.calls.unsettled)
      (sym (story_all was.history was.book.journal.entries was.cloud.effects all.told.no_restart all.entries
      all.told.no_halt));
  same_book = holds.same_book ∙ asked.same_book;
  same_opening = holds.same_opening ∙ asked.same_opening;
}

-- what had happened was told before
pub performs_told : {K L : Type 0} {k : keeper.Ghosts K} {l : keeper.Ghosts L} (bodies : L → Option (List (List ℕ)))
    (faults : L → ℕ) (was mid now : Site K L k l) (permit : Granted) (answer : Answer) → Comes was [] mid →
    KeepsBooks was mid → Performs bodies faults mid permit answer now → Performs bodies faults was permit answer now
performs_told bodies faults was mid now permit answer comes keeps performs = record {
  asks = subst (λ (cloud : CloudView _). Asks bodies faults cloud permit answer now.cloud) keeps.same_cloud performs.asks;
  comes = subst (λ (cloud : CloudView _). Comes was (moves.Did (did_of cloud permit answer) ∷ []) now) keeps.same_cloud
      (comes_then was mid now (moves.Did (did_of mid.cloud permit answer) ∷ []) comes performs.comes);
  running = sym keeps.same_halt ∙ performs.running;
  runs_on = performs.runs_on;
  unstopped = ap (decision (method_of permit.call) permit.owner) (sym keeps.same_armed) ∙ performs.unstopped;
  armed = performs.armed ∙ ap (traps_after (method_of permit.call) permit.owner) keeps.same_armed;
  calls =
      performs.calls
      ∙ ap (λ cs. with_performed permit.n (length (story_of mid)) cs.unsettled) keeps.same_calls
      ∙ ap (λ (ms : List Move). with_performed permit.n (length ms) was.calls.unsettled)
      (comes.story ∙ append-nil (story_of was));
  same_book = performs.same_book ∙ keeps.same_book;
  same_opening = performs.same_opening ∙ keeps.same_opening;
}

get_seam : (ms : List Move) (m : Move) → slice_get (ms ++ m ∷ []) (length ms) ≡ Some m
get_seam [] m = refl
get_seam (x ∷ ms) m = get_seam ms m

-- the call is held
pub held_as : {K L : Type 0} {k : keeper.Ghosts K} {l : keeper.Ghosts L} (bodies : L → Option (List (List ℕ)))
    (faults : L → ℕ) (was mid now : Site K L k l) (permit : Granted) (told : did.Did) (answer : Answer) →
    IsPerformable was permit → IsAsked bodies faults was permit told answer mid → Holds mid permit told now →
    IsHeld now (record { permit = permit; answer = answer })
held_as bodies faults was mid now permit told answer may asked holds =
    let free : is_performable mid.calls.unsettled permit.n ≡ true =
    ap (λ cs. is_performable cs.unsettled permit.n) asked.same_calls ∙ may.1 in
    let place : place_of now.calls.unsettled permit.n ≡ Some (length mid.history.moves) =
    ap (λ (cs : List OpenCall). place_of cs permit.n) holds.calls
    ∙ place_performed permit.n (length mid.history.moves) mid.calls.unsettled free in
    let step : slice_get now.history.moves (length mid.history.moves) ≡ Some (moves.Did told) =
    ap (λ (ms : List Move). slice_get ms (length mid.history.moves)) holds.moves
    ∙ get_seam mid.history.moves (moves.Did told) in (
      subst (λ b. IsCurrent b permit) (sym (holds.same_book ∙ asked.same_book)) may.0,
      subst (λ (at : Option ℕ). HasAnswered now.history.moves at permit.n answer) (sym place)
          (subst (λ (it : Option Move). IsDid it permit.n answer) (sym step)
          (ap (λ d. d.n) asked.told, ap (λ d. d.answer) asked.told)),
    )
