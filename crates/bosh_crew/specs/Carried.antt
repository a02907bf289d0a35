-- What a worker does for tasks, step by step, and the step in which it is stopped: nothing else happens to the site.
use Rattle.std.specs.Prelude.{◌≡◌, ℕ, List, [], ◌∷◌, Contains, Option, None, Result, Ok, Err}
use Rattle.bosh_asks.specs.declared.fault.BookFault.TheVariants as book
use Rattle.bosh_base.specs.declared.entry.Entry.TheVariants as entries
use Rattle.bosh_base.specs.declared.task.TaskEnd.{TaskEnd}
use Rattle.bosh_book.specs.Faults.{IsClaimFault, IsEndFault, MayEnd}
use Rattle.bosh_book.specs.declared.claim.Claim.{Claim}
use Rattle.bosh_book.specs.declared.claim.Claim.TheVariants.{Over, Wait, Work}
use Rattle.bosh_book.specs.declared.granted.Granted.{Granted}
use Rattle.bosh_calls.specs.Calls.{without}
use Rattle.bosh_crew.specs.Driven.{AreEnded}
use Rattle.bosh_crew.specs.declared.driver.Round.{Round}
use Rattle.bosh_crew.specs.declared.driver.Round.TheVariants as rounds
use Rattle.bosh_crew.specs.declared.place.Place.{Place}
use Rattle.bosh_crew.specs.declared.place.Place.TheVariants as places
use Rattle.bosh_crew.specs.declared.step.Step.{Step}
use Rattle.bosh_crew.specs.declared.step.Step.TheVariants as step
use Rattle.bosh_ports.specs.declared.keeper.Keeper as keeper
use Rattle.bosh_world.specs.Abandons.{Abandons}
use Rattle.bosh_world.specs.Holds.{IsHeld}
use Rattle.bosh_world.specs.Pending.{IsAllowed, IsClaimed, IsClosing, Pends}
use Rattle.bosh_world.specs.Performing.{Performs, RefusesToPerform}
use Rattle.bosh_world.specs.Refuses.{IsBooks, IsUnheld, Refuses, RefusesClaim}
use Rattle.bosh_world.specs.Steps.{Claims, EndsTask, Notes, calls_claimed}
use Rattle.bosh_world.specs.Told.{IsPerformable}
use Rattle.bosh_world.specs.declared.fault.SiteFault.{SiteFault}
use Rattle.bosh_world.specs.declared.fault.SiteFault.TheVariants.{Book, Memory}
use Rattle.bosh_world.specs.declared.held.HeldCall.{HeldCall}
use Rattle.bosh_world.specs.declared.site.Site.{Site}

-- what a worker has at hand after a claim
abbrev pub at_hand : Claim → Place
at_hand (Work permit) = places.Granted permit
at_hand claim = places.Empty

-- A worker takes a step for one of the tasks, by what it has at hand, and has something at hand then. With nothing at hand
-- it claims work of a task, or ends it; the call that it was given is performed; and the one that it holds is settled.
pub data Steps {K L : Type 0} {k : keeper.Ghosts K} {l : keeper.Ghosts L}
    (bodies : K → Option (List (List ℕ))) (faults : K → ℕ) (cloud_bodies : L → Option (List (List ℕ)))
    (cloud_faults : L → ℕ) (tasks : List ℕ) (worker : ℕ) (was : Site K L k l) (place : Place) (now : Site K L k l)
    (next : Place) : Type 0
  where
    claims : (task : ℕ) (claim : Claim) → place ≡ places.Empty → next ≡ at_hand claim → Contains tasks task →
        Claims bodies faults was task worker claim now →
        now.calls.unsettled ≡ calls_claimed {F = SiteFault} (Ok claim) was.calls.unsettled →
        Steps bodies faults cloud_bodies cloud_faults tasks worker was place now next
    performs : (permit : Granted) (call : HeldCall) → place ≡ places.Granted permit → next ≡ places.Held call →
        call.permit ≡ permit → IsPerformable was permit → Performs cloud_bodies cloud_faults was permit call.answer now →
        Steps bodies faults cloud_bodies cloud_faults tasks worker was place now next
    settles : (call : HeldCall) → place ≡ places.Held call → next ≡ places.Empty → IsHeld was call →
        MayEnd was.book call.permit call.answer →
        Notes bodies faults was (entries.End (record { n = call.permit.n; answer = call.answer }) ∷ []) None now →
        now.calls.unsettled ≡ without call.permit.n was.calls.unsettled →
        Steps bodies faults cloud_bodies cloud_faults tasks worker was place now next
    ends : (task : ℕ) (end : TaskEnd) → place ≡ places.Empty → next ≡ places.Empty → Contains tasks task →
        EndsTask bodies faults was task end now → now.calls ≡ was.calls →
        Steps bodies faults cloud_bodies cloud_faults tasks worker was place now next

-- One step after the other. So a call that was given is performed and settled before the worker claims again.
pub data Reaches {K L : Type 0} {k : keeper.Ghosts K} {l : keeper.Ghosts L}
    (bodies : K → Option (List (List ℕ))) (faults : K → ℕ) (cloud_bodies : L → Option (List (List ℕ)))
    (cloud_faults : L → ℕ) (tasks : List ℕ) (worker : ℕ) : Site K L k l → Place → Site K L k l → Place → Type 0
  where
    stays : (site : Site K L k l) (place : Place) →
        Reaches bodies faults cloud_bodies cloud_faults tasks worker site place site place
    steps : (was : Site K L k l) (place : Place) (mid : Site K L k l) (at : Place) (now : Site K L k l) (next : Place) →
        Steps bodies faults cloud_bodies cloud_faults tasks worker was place mid at →
        Reaches bodies faults cloud_bodies cloud_faults tasks worker mid at now next →
        Reaches bodies faults cloud_bodies cloud_faults tasks worker was place now next

-- the site is as a claim of work of the task left it, which was answered so
abbrev pub IsAfterClaim : {K L : Type 0} {k : keeper.Ghosts K} {l : keeper.Ghosts L} → (K → Option (List (List ℕ))) →
    (K → ℕ) → ℕ → ℕ → Claim → Site K L k l → Type 0
IsAfterClaim {K} {L} {k} {l} bodies faults task worker claim now =
    (before : Site K L k l) × Claims bodies faults before task worker claim now

-- .. of one of the tasks, which had to wait
abbrev pub IsWaiting : {K L : Type 0} {k : keeper.Ghosts K} {l : keeper.Ghosts L} → (K → Option (List (List ℕ))) → (K → ℕ) →
    List ℕ → ℕ → ℕ → Site K L k l → Type 0
IsWaiting bodies faults tasks worker task now =
    Contains tasks task × IsAfterClaim bodies faults task worker Wait now

-- The step in which the worker is stopped, by what it has at hand. With nothing at hand a claim is refused, or the end of a
-- task that is over, as a claim of its work said; all that is left waits for calls that were open before, or there is no
-- memory; a call that could be performed, or settled, is refused and given up.
pub data Stops {K L : Type 0} {k : keeper.Ghosts K} {l : keeper.Ghosts L}
    (bodies : K → Option (List (List ℕ))) (faults : K → ℕ) (cloud_bodies : L → Option (List (List ℕ)))
    (cloud_faults : L → ℕ) (tasks : List ℕ) (worker : ℕ) (was : Site K L k l) (place : Place) (fault : SiteFault)
    (now : Site K L k l) : Type 0
  where
    in_claim : (task : ℕ) → place ≡ places.Empty → Contains tasks task →
        RefusesClaim bodies faults task worker was fault now →
        IsBooks (IsClaimFault was.book now.book) fault → now.calls.unsettled ≡ was.calls.unsettled →
        Pends was (IsClaimed bodies faults task worker was now) now →
        Stops bodies faults cloud_bodies cloud_faults tasks worker was place fault now
    in_call : (permit : Granted) (mid : Site K L k l) → place ≡ places.Granted permit → IsPerformable was permit →
        RefusesToPerform cloud_bodies cloud_faults was permit fault mid → Abandons mid permit now →
        Stops bodies faults cloud_bodies cloud_faults tasks worker was place fault now
    in_settling : (call : HeldCall) (mid : Site K L k l) → place ≡ places.Held call → IsHeld was call →
        Refuses bodies faults was [] fault mid → IsUnheld was call fault → mid.calls.unsettled ≡ was.calls.unsettled →
        Pends was (IsAllowed (MayEnd was.book call.permit call.answer)
        (entries.End (record { n = call.permit.n; answer = call.answer }))) mid → Abandons mid call.permit now →
        Stops bodies faults cloud_bodies cloud_faults tasks worker was place fault now
    in_end : (task : ℕ) → place ≡ places.Empty → Contains tasks task →
        IsAfterClaim bodies faults task worker Over was → Refuses bodies faults was [] fault now →
        IsBooks (IsEndFault was.book task) fault → now.calls ≡ was.calls →
        Pends was (IsClosing was.book.records task) now →
        Stops bodies faults cloud_bodies cloud_faults tasks worker was place fault now
    waits : (task : ℕ) → place ≡ places.Empty → IsWaiting bodies faults tasks worker task was →
        fault ≡ Book (book.Locked task) → now ≡ was →
        Stops bodies faults cloud_bodies cloud_faults tasks worker was place fault now
    lacks : place ≡ places.Empty → fault ≡ Memory → now ≡ was →
        Stops bodies faults cloud_bodies cloud_faults tasks worker was place fault now

-- steps were taken, and then one in which the worker is stopped
abbrev pub IsStopped : {K L : Type 0} {k : keeper.Ghosts K} {l : keeper.Ghosts L} → (K → Option (List (List ℕ))) → (K → ℕ) →
    (L → Option (List (List ℕ))) → (L → ℕ) → List ℕ → ℕ → Site K L k l → Place → SiteFault → Site K L k l → Type 0
IsStopped {K} {L} {k} {l} bodies faults cloud_bodies cloud_faults tasks worker was place fault now =
    (mid : Site K L k l) × ((at : Place) × Reaches bodies faults cloud_bodies cloud_faults tasks worker was place mid at
    × Stops bodies faults cloud_bodies cloud_faults tasks worker mid at fault now)

-- what is left after a round of steps: where it waits, the last step was a claim that waits
abbrev pub IsLeft : {K L : Type 0} {k : keeper.Ghosts K} {l : keeper.Ghosts L} → (K → Option (List (List ℕ))) → (K → ℕ) →
    List ℕ → ℕ → Round → Site K L k l → Type 0
IsLeft bodies faults tasks worker (rounds.Waits task) now = IsWaiting bodies faults tasks worker task now
IsLeft bodies faults tasks worker round now = Unit {0}

-- work of the task was claimed, and this was answered
abbrev pub HasClaimed : {K L : Type 0} {k : keeper.Ghosts K} {l : keeper.Ghosts L} → (K → Option (List (List ℕ))) →
    (K → ℕ) → ℕ → ℕ → Site K L k l → Claim → Site K L k l → Type 0
HasClaimed bodies faults task worker was claim now =
    Claims bodies faults was task worker claim now
    × (now.calls.unsettled ≡ calls_claimed {F = SiteFault} (Ok claim) was.calls.unsettled)

-- A task ends, and nothing is at hand then; or that is refused, which stops a worker that was told that the task is over.
abbrev pub Ends : {K L : Type 0} {k : keeper.Ghosts K} {l : keeper.Ghosts L} → (K → Option (List (List ℕ))) → (K → ℕ) →
    (L → Option (List (List ℕ))) → (L → ℕ) → ℕ → Site K L k l → Result Step SiteFault → Site K L k l → Type 0
Ends bodies faults cloud_bodies cloud_faults task was (Ok (step.Moved places.Empty)) now =
    (end : TaskEnd) × EndsTask bodies faults was task end now × (now.calls ≡ was.calls)
Ends bodies faults cloud_bodies cloud_faults task was (Ok step) now = ⊥
Ends bodies faults cloud_bodies cloud_faults task was (Err fault) now =
    (tasks : List ℕ) (worker : ℕ) → Contains tasks task → IsAfterClaim bodies faults task worker Over was →
    Stops bodies faults cloud_bodies cloud_faults tasks worker was places.Empty fault now

-- The next step of a worker for a task. With nothing at hand it claims: it is given a call, has to wait, or ends the task,
-- which is over. With a call that it was given it performs that one, and holds it; with one that it holds it settles that
-- one. Else it is stopped in one of these.
abbrev pub Advances : {K L : Type 0} {k : keeper.Ghosts K} {l : keeper.Ghosts L} → (K → Option (List (List ℕ))) → (K → ℕ) →
    (L → Option (List (List ℕ))) → (L → ℕ) → ℕ → ℕ → Site K L k l → Place → Result Step SiteFault → Site K L k l → Type 0
Advances bodies faults cloud_bodies cloud_faults task worker was places.Empty (Ok (step.Moved (places.Granted permit))) now =
    HasClaimed bodies faults task worker was (Work permit) now
Advances bodies faults cloud_bodies cloud_faults task worker was places.Empty (Ok step.Waits) now =
    HasClaimed bodies faults task worker was Wait now
Advances {K} {L} {k} {l} bodies faults cloud_bodies cloud_faults task worker was places.Empty (Ok (step.Moved places.Empty)) now =
    (mid : Site K L k l) × HasClaimed bodies faults task worker was Over mid
    × ((end : TaskEnd) × EndsTask bodies faults mid task end now × (now.calls ≡ mid.calls))
Advances bodies faults cloud_bodies cloud_faults task worker was (places.Granted permit) (Ok (step.Moved (places.Held call))) now =
    (call.permit ≡ permit) × Performs cloud_bodies cloud_faults was permit call.answer now
Advances bodies faults cloud_bodies cloud_faults task worker was (places.Held call) (Ok (step.Moved places.Empty)) now =
    MayEnd was.book call.permit call.answer
    × Notes bodies faults was (entries.End (record { n = call.permit.n; answer = call.answer }) ∷ []) None now
    × (now.calls.unsettled ≡ without call.permit.n was.calls.unsettled)
Advances bodies faults cloud_bodies cloud_faults task worker was place (Err fault) now =
    (tasks : List ℕ) → Contains tasks task →
    IsStopped bodies faults cloud_bodies cloud_faults tasks worker was place fault now
Advances bodies faults cloud_bodies cloud_faults task worker was place (Ok step) now = ⊥

-- a round of steps for tasks, after which nothing is at hand
abbrev pub GoesRound : {K L : Type 0} {k : keeper.Ghosts K} {l : keeper.Ghosts L} → (K → Option (List (List ℕ))) → (K → ℕ) →
    (L → Option (List (List ℕ))) → (L → ℕ) → List ℕ → ℕ → Site K L k l → Place → Result Round SiteFault → Site K L k l →
    Type 0
GoesRound bodies faults cloud_bodies cloud_faults tasks worker was place (Ok round) now =
    Reaches bodies faults cloud_bodies cloud_faults tasks worker was place now places.Empty
    × IsLeft bodies faults tasks worker round now
GoesRound bodies faults cloud_bodies cloud_faults tasks worker was place (Err fault) now =
    IsStopped bodies faults cloud_bodies cloud_faults tasks worker was place fault now

-- Tasks are carried to their ends, or as far as a step in which the worker is stopped. Nothing is at hand before, and after.
abbrev pub Carries : {K L : Type 0} {k : keeper.Ghosts K} {l : keeper.Ghosts L} → (K → Option (List (List ℕ))) → (K → ℕ) →
    (L → Option (List (List ℕ))) → (L → ℕ) → List ℕ → ℕ → Site K L k l → Result (Unit {0}) SiteFault → Site K L k l → Type 0
Carries bodies faults cloud_bodies cloud_faults tasks worker was (Ok value) now =
    Reaches bodies faults cloud_bodies cloud_faults tasks worker was places.Empty now places.Empty × AreEnded now tasks
Carries bodies faults cloud_bodies cloud_faults tasks worker was (Err fault) now =
    IsStopped bodies faults cloud_bodies cloud_faults tasks worker was places.Empty fault now
