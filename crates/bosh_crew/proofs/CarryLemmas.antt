-- Steps of a worker, one after the other.
use Rattle.std.proofs.Common.{◌≡◌, ◌<◌, ℕ, zero, suc, Option, List, [], ◌∷◌, Result, Ok, Err, arith, inl, inr, length, refl, slice_index_or, subst, sym}
use Rattle.std.specs.Prelude.{◌⊎◌, ◌≢◌, Contains}
use Rattle.bosh_book.specs.declared.claim.Claim.TheVariants.{Over, Wait, Work}
use Rattle.bosh_crew.specs.Carried.{Advances, Ends, GoesRound, HasClaimed, IsLeft, IsStopped, IsWaiting, Reaches, Steps, Stops}
use Rattle.bosh_crew.specs.Carried.Reaches.{stays, steps}
use Rattle.bosh_crew.specs.Carried.Steps.{claims, ends, performs, settles}
use Rattle.bosh_crew.specs.Places.{IsAt, steps_left}
use Rattle.bosh_crew.specs.declared.driver.Round.{Round}
use Rattle.bosh_crew.specs.declared.driver.Round.TheVariants as rounds
use Rattle.bosh_crew.specs.declared.place.Place.{Place}
use Rattle.bosh_crew.specs.declared.place.Place.TheVariants as places
use Rattle.bosh_crew.specs.declared.step.Step.{Step}
use Rattle.bosh_crew.specs.declared.step.Step.TheVariants as step
use Rattle.bosh_ports.specs.declared.keeper.Keeper as keeper
use Rattle.bosh_world.specs.declared.fault.SiteFault.{SiteFault}
use Rattle.bosh_world.specs.declared.site.Site.{Site}

-- steps after steps
pub reached_then : {K L : Type 0} {k : keeper.Ghosts K} {l : keeper.Ghosts L} (bodies : K → Option (List (List ℕ)))
    (faults : K → ℕ) (cloud_bodies : L → Option (List (List ℕ))) (cloud_faults : L → ℕ) (tasks : List ℕ) (worker : ℕ)
    (was mid now : Site K L k l) (place at next : Place) →
    Reaches bodies faults cloud_bodies cloud_faults tasks worker was place mid at →
    Reaches bodies faults cloud_bodies cloud_faults tasks worker mid at now next →
    Reaches bodies faults cloud_bodies cloud_faults tasks worker was place now next
reached_then bodies faults cloud_bodies cloud_faults tasks worker was mid now place at next (stays site there) rest = rest
reached_then bodies faults cloud_bodies cloud_faults tasks worker was mid now place at next
    (steps first from one then last to step more) rest =
    steps first from one then now next step
    (reached_then bodies faults cloud_bodies cloud_faults tasks worker one last now then to next more rest)

-- a round after steps
pub round_then : {K L : Type 0} {k : keeper.Ghosts K} {l : keeper.Ghosts L} (bodies : K → Option (List (List ℕ)))
    (faults : K → ℕ) (cloud_bodies : L → Option (List (List ℕ))) (cloud_faults : L → ℕ) (tasks : List ℕ) (worker : ℕ)
    (was mid now : Site K L k l) (place at : Place) (result : Result Round SiteFault) →
    Reaches bodies faults cloud_bodies cloud_faults tasks worker was place mid at →
    GoesRound bodies faults cloud_bodies cloud_faults tasks worker mid at result now →
    GoesRound bodies faults cloud_bodies cloud_faults tasks worker was place result now
round_then bodies faults cloud_bodies cloud_faults tasks worker was mid now place at (Ok round) before goes =
    (reached_then bodies faults cloud_bodies cloud_faults tasks worker was mid now place at places.Empty before goes.0, goes.1)
round_then bodies faults cloud_bodies cloud_faults tasks worker was mid now place at (Err fault) before goes = (
  goes.0,
  (
    goes.1.0,
    reached_then bodies faults cloud_bodies cloud_faults tasks worker was mid goes.0 place at goes.1.0 before goes.1.1,
    goes.1.2,
  ),
)

-- a task that is over, as a claim said, ends or not
pub over_then : {K L : Type 0} {k : keeper.Ghosts K} {l : keeper.Ghosts L} (bodies : K → Option (List (List ℕ)))
    (faults : K → ℕ) (cloud_bodies : L → Option (List (List ℕ))) (cloud_faults : L → ℕ) (task worker : ℕ)
    (was mid now : Site K L k l) (result : Result Step SiteFault) → HasClaimed bodies faults task worker was Over mid →
    Ends bodies faults cloud_bodies cloud_faults task mid result now →
    Advances bodies faults cloud_bodies cloud_faults task worker was places.Empty result now
over_then bodies faults cloud_bodies cloud_faults task worker was mid now (Ok (step.Moved places.Empty)) claimed ended =
    (mid, claimed, ended)
over_then bodies faults cloud_bodies cloud_faults task worker was mid now (Ok step) claimed ended = absurd ended
over_then bodies faults cloud_bodies cloud_faults task worker was mid now (Err fault) claimed ended = λ tasks there. (
  mid,
  (
    places.Empty,
    steps was places.Empty mid places.Empty mid places.Empty (claims task Over refl refl there claimed.0 claimed.1)
        (stays mid places.Empty),
    ended tasks worker there (was, claimed.0),
  ),
)

-- a step of a worker is one for the tasks
pub advanced : {K L : Type 0} {k : keeper.Ghosts K} {l : keeper.Ghosts L} (bodies : K → Option (List (List ℕ)))
    (faults : K → ℕ) (cloud_bodies : L → Option (List (List ℕ))) (cloud_faults : L → ℕ) (tasks : List ℕ)
    (task worker : ℕ) (was now : Site K L k l) (place next : Place) → Contains tasks task → IsAt was place →
    Advances bodies faults cloud_bodies cloud_faults task worker was place (Ok (step.Moved next)) now →
    Reaches bodies faults cloud_bodies cloud_faults tasks worker was place now next
advanced bodies faults cloud_bodies cloud_faults tasks task worker was now places.Empty (places.Granted permit) there at goes =
    steps was places.Empty now (places.Granted permit) now (places.Granted permit)
    (claims task (Work permit) refl refl there goes.0 goes.1) (stays now (places.Granted permit))
advanced bodies faults cloud_bodies cloud_faults tasks task worker was now places.Empty places.Empty there at goes =
    steps was places.Empty goes.0 places.Empty now places.Empty (claims task Over refl refl there goes.1.0 goes.1.1)
    (steps goes.0 places.Empty now places.Empty now places.Empty (ends task goes.2.0 refl refl there goes.2.1 goes.2.2)
    (stays now places.Empty))
advanced bodies faults cloud_bodies cloud_faults tasks task worker was now (places.Granted permit) (places.Held call) there at goes =
    steps was (places.Granted permit) now (places.Held call) now (places.Held call)
    (performs permit call refl refl goes.0 at goes.1) (stays now (places.Held call))
advanced bodies faults cloud_bodies cloud_faults tasks task worker was now (places.Held call) places.Empty there at goes =
    steps was (places.Held call) now places.Empty now places.Empty
    (settles call refl refl at goes.0 goes.1 goes.2) (stays now places.Empty)
advanced bodies faults cloud_bodies cloud_faults tasks task worker was now places.Empty (places.Held call) there at goes = absurd goes
advanced bodies faults cloud_bodies cloud_faults tasks task worker was now (places.Granted permit) places.Empty there at goes = absurd goes
advanced bodies faults cloud_bodies cloud_faults tasks task worker was now (places.Granted permit) (places.Granted other) there at goes = absurd goes
advanced bodies faults cloud_bodies cloud_faults tasks task worker was now (places.Held call) (places.Granted permit) there at goes = absurd goes
advanced bodies faults cloud_bodies cloud_faults tasks task worker was now (places.Held call) (places.Held other) there at goes = absurd goes

-- .. and one with which it waits
pub advanced_waits : {K L : Type 0} {k : keeper.Ghosts K} {l : keeper.Ghosts L} (bodies : K → Option (List (List ℕ)))
    (faults : K → ℕ) (cloud_bodies : L → Option (List (List ℕ))) (cloud_faults : L → ℕ) (tasks : List ℕ)
    (task worker : ℕ) (was now : Site K L k l) (place : Place) → Contains tasks task →
    Advances bodies faults cloud_bodies cloud_faults task worker was place (Ok step.Waits) now →
    Reaches bodies faults cloud_bodies cloud_faults tasks worker was place now places.Empty
    × IsWaiting bodies faults tasks worker task now
advanced_waits bodies faults cloud_bodies cloud_faults tasks task worker was now places.Empty there goes = (
  steps was places.Empty now places.Empty now places.Empty (claims task Wait refl refl there goes.0 goes.1)
      (stays now places.Empty),
  (there, (was, goes.0)),
)
advanced_waits bodies faults cloud_bodies cloud_faults tasks task worker was now (places.Granted permit) there goes = absurd goes
advanced_waits bodies faults cloud_bodies cloud_faults tasks task worker was now (places.Held call) there goes = absurd goes

-- fewer steps are left after one, unless nothing is at hand
pub nearer : {K L : Type 0} {k : keeper.Ghosts K} {l : keeper.Ghosts L} (bodies : K → Option (List (List ℕ)))
    (faults : K → ℕ) (cloud_bodies : L → Option (List (List ℕ))) (cloud_faults : L → ℕ) (task worker : ℕ)
    (was now : Site K L k l) (place next : Place) →
    Advances bodies faults cloud_bodies cloud_faults task worker was place (Ok (step.Moved next)) now →
    (next ≢ places.Empty) → steps_left next < steps_left place
nearer bodies faults cloud_bodies cloud_faults task worker was now places.Empty (places.Granted permit) goes left = omega arith
nearer bodies faults cloud_bodies cloud_faults task worker was now (places.Granted permit) (places.Held call) goes left = omega arith
nearer bodies faults cloud_bodies cloud_faults task worker was now place places.Empty goes left = absurd (left refl)
nearer bodies faults cloud_bodies cloud_faults task worker was now places.Empty (places.Held call) goes left = absurd goes
nearer bodies faults cloud_bodies cloud_faults task worker was now (places.Granted permit) (places.Granted other) goes left = absurd goes
nearer bodies faults cloud_bodies cloud_faults task worker was now (places.Held call) (places.Granted permit) goes left = absurd goes
nearer bodies faults cloud_bodies cloud_faults task worker was now (places.Held call) (places.Held other) goes left = absurd goes

-- the worker is stopped at once
pub stopped_at_once : {K L : Type 0} {k : keeper.Ghosts K} {l : keeper.Ghosts L} (bodies : K → Option (List (List ℕ)))
    (faults : K → ℕ) (cloud_bodies : L → Option (List (List ℕ))) (cloud_faults : L → ℕ) (tasks : List ℕ) (worker : ℕ)
    (was : Site K L k l) (place : Place) (fault : SiteFault) (now : Site K L k l) →
    Stops bodies faults cloud_bodies cloud_faults tasks worker was place fault now →
    IsStopped bodies faults cloud_bodies cloud_faults tasks worker was place fault now
stopped_at_once bodies faults cloud_bodies cloud_faults tasks worker was place fault now stops =
    (was, (place, stays was place, stops))

-- after a step for one task a round waits only where that step does
pub left_by : {K L : Type 0} {k : keeper.Ghosts K} {l : keeper.Ghosts L} (bodies : K → Option (List (List ℕ)))
    (faults : K → ℕ) (tasks : List ℕ) (worker : ℕ) (round step : Round) (now : Site K L k l) →
    (round ≡ rounds.Moved) ⊎ (round ≡ step) → IsLeft bodies faults tasks worker step now → IsLeft bodies faults tasks worker round now
left_by bodies faults tasks worker round step now (inl moved) left =
    subst (λ (r : Round). IsLeft bodies faults tasks worker r now) (sym moved) tt
left_by bodies faults tasks worker round step now (inr same) left =
    subst (λ (r : Round). IsLeft bodies faults tasks worker r now) (sym same) left

-- what stands at a place, whatever would be there past the end
same_at : (xs : List ℕ) (place a b : ℕ) → place < length xs → slice_index_or xs place a ≡ slice_index_or xs place b
same_at [] place a b within = absurd (omega (arith, within))
same_at (x ∷ xs) zero a b within = refl
same_at (x ∷ xs) (suc place) a b within = same_at xs place a b (omega (arith, within))

-- the task at a place of the list is one of them
pub task_at : (tasks : List ℕ) (place : ℕ) → place < length tasks → Contains tasks (slice_index_or tasks place 0)
task_at tasks place within = (place, within, same_at tasks place (slice_index_or tasks place 0) 0 within)
