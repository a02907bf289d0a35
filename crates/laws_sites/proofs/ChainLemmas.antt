-- A site stays good as a worker takes steps for tasks, one after the other, until it is stopped.
use Rattle.std.proofs.Common.{◌≡◌, ℕ, List, Option, Result, Ok, Err}
use Rattle.bosh_agent.specs.Compiled.{compiled_digest}
use Rattle.bosh_crew.specs.Carried.{Carries, Reaches, Steps, Stops}
use Rattle.bosh_crew.specs.Carried.Reaches.{stays, steps}
use Rattle.bosh_crew.specs.Carried.Steps.{claims, ends, performs, settles}
use Rattle.bosh_crew.specs.Carried.Stops.{in_call, in_claim, in_end, in_settling, lacks, waits}
use Rattle.bosh_crew.specs.declared.place.Place.{Place}
use Rattle.bosh_crew.specs.declared.place.Place.TheVariants.{Empty}
use Rattle.bosh_history.specs.Fit.{IsFit}
use Rattle.bosh_history.specs.Moments.{Opening}
use Rattle.bosh_history.specs.Notes.{Outside}
use Rattle.bosh_ports.specs.declared.keeper.Keeper as keeper
use Rattle.bosh_world.specs.declared.fault.SiteFault.{SiteFault}
use Rattle.bosh_world.specs.declared.site.Site.{Site}
use Rattle.laws_sites.proofs.ClaimLemmas.{claimed_good}
use Rattle.laws_sites.proofs.ClaimStoppedLemmas.{claim_stopped_good}
use Rattle.laws_sites.proofs.EndLemmas.{ended_good}
use Rattle.laws_sites.proofs.HaltLemmas.{same_good}
use Rattle.laws_sites.proofs.NoteLemmas.{OneMoreStands, settled_good}
use Rattle.laws_sites.proofs.NumberLemmas.{numbers_left}
use Rattle.laws_sites.proofs.PerformedLemmas.{performed_good}
use Rattle.laws_sites.proofs.RefusedLemmas.{abandoned_good}
use Rattle.laws_sites.proofs.StoppedLemmas.{end_stopped_good, settling_stopped_good}
use Rattle.laws_sites.specs.Good.{IsGood}

module _ (one_more : OneMoreStands) {K L : Type 0} {k : keeper.Ghosts K} {l : keeper.Ghosts L}
    (bodies : K → Option (List (List ℕ))) (faults : K → ℕ) (cloud_bodies : L → Option (List (List ℕ))) (cloud_faults : L → ℕ)
    (outside : Outside) (built : outside.built ≡ compiled_digest) (o : Opening) (fit : IsFit outside o) (tasks : List ℕ)
    (worker : ℕ) where
  -- a step
  pub step_good : (was : Site K L k l) (place : Place) (now : Site K L k l) (next : Place)
      → IsGood outside bodies cloud_bodies o was
      → Steps bodies faults cloud_bodies cloud_faults tasks worker was place now next
      → IsGood outside bodies cloud_bodies o now
  step_good was place now next good (claims task claim from to among claimed calls) =
      claimed_good one_more bodies cloud_bodies faults outside o was now task worker claim fit good
      (numbers_left outside bodies cloud_bodies o was good claimed.notes.running claimed.has_room) claimed calls
  step_good was place now next good (performs permit call from to same free performed) =
      performed_good outside bodies cloud_bodies cloud_faults o was now permit call.answer fit built good free performed
  step_good was place now next good (settles call from to held may notes calls) =
      settled_good one_more outside bodies cloud_bodies faults o was now call fit good held notes calls
  step_good was place now next good (ends task end from to among ended calls) =
      ended_good one_more bodies cloud_bodies faults outside o was now task end fit good calls ended

  -- several
  pub reached_good : (was : Site K L k l) (place : Place) (now : Site K L k l) (next : Place)
      → IsGood outside bodies cloud_bodies o was
      → Reaches bodies faults cloud_bodies cloud_faults tasks worker was place now next
      → IsGood outside bodies cloud_bodies o now
  reached_good was place now next good (stays site there) = good
  reached_good was place now next good (steps first from mid at last to step more) =
      reached_good mid at last to (step_good first from mid at good step) more

  -- the step in which the worker is stopped
  pub stopped_good : (was : Site K L k l) (place : Place) (fault : SiteFault) (now : Site K L k l)
      → IsGood outside bodies cloud_bodies o was
      → Stops bodies faults cloud_bodies cloud_faults tasks worker was place fault now
      → IsGood outside bodies cloud_bodies o now
  stopped_good was place fault now good (in_claim task from among refuses is calls pends) =
      claim_stopped_good one_more bodies cloud_bodies faults outside o was now task worker fault fit good refuses calls
  stopped_good was place fault now good (in_call permit mid from free refuses abandons) =
      abandoned_good outside bodies cloud_bodies cloud_faults o was mid permit fit built good free fault now refuses
      abandons
  stopped_good was place fault now good (in_settling call mid from held refuses is calls pends abandons) =
      settling_stopped_good bodies cloud_bodies faults outside o was mid now call fault fit good held refuses
      calls pends abandons
  stopped_good was place fault now good (in_end task from among over refuses is calls pends) =
      end_stopped_good bodies cloud_bodies faults outside o was now task fault fit good refuses calls pends
  stopped_good was place fault now good (waits task from is told same) =
      same_good outside bodies cloud_bodies o was now good same
  stopped_good was place fault now good (lacks from memory same) =
      same_good outside bodies cloud_bodies o was now good same

  -- tasks are carried to their ends, or as far as they can be
  pub carried_good : (was : Site K L k l) (result : Result (Unit {0}) SiteFault) (now : Site K L k l)
      → IsGood outside bodies cloud_bodies o was
      → Carries bodies faults cloud_bodies cloud_faults tasks worker was result now
      → IsGood outside bodies cloud_bodies o now
  carried_good was (Ok value) now good (reached, ended) = reached_good was Empty now Empty good reached
  carried_good was (Err fault) now good (mid, (at, reached, stops)) =
      stopped_good mid at fault now (reached_good was Empty mid at good reached) stops
