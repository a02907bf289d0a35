-- What it gives to perform a call, or to stop in it.
use Rattle.std.specs.Prelude.{◌≡◌, ◌⊎◌, ℕ, true, false, List, [], ◌∷◌, ◌++◌, length, Option, Some, None, Ok, Err}
use Rattle.bosh_asks.specs.declared.fault.BookFault.TheVariants as book
use Rattle.bosh_base.specs.Call.{method_of}
use Rattle.bosh_base.specs.History.{Extends}
use Rattle.bosh_base.specs.declared.answer.Answer.{Answer}
use Rattle.bosh_base.specs.declared.entry.Effect as effect
use Rattle.bosh_base.specs.declared.method.Method.{Method}
use Rattle.bosh_base.specs.declared.moves.Cause.{Cause}
use Rattle.bosh_base.specs.declared.moves.Cause.TheVariants as causes
use Rattle.bosh_base.specs.declared.moves.Did as did
use Rattle.bosh_base.specs.declared.moves.Move.TheVariants as moves
use Rattle.bosh_base.specs.declared.owner.Owner.{Owner}
use Rattle.bosh_book.specs.declared.granted.Granted.{Granted}
use Rattle.bosh_calls.specs.Calls.{with_performed}
use Rattle.bosh_cloud.specs.CloudView.{CloudView}
use Rattle.bosh_cloud.specs.Loading.{IsKept}
use Rattle.bosh_cloud.specs.Notes.{Does, SameFates}
use Rattle.bosh_cloud.specs.Performs.{Spends, answer_under, fate_of, has_effect, new_effects}
use Rattle.bosh_cloud.specs.declared.fault.CloudFault.{CloudFault}
use Rattle.bosh_cloud.specs.declared.fault.CloudFault.TheVariants as cloud
use Rattle.bosh_ports.specs.Faults.{NeverFalls}
use Rattle.bosh_ports.specs.declared.keeper.Keeper as keeper
use Rattle.bosh_world.specs.declared.site.Site.{Site}
use Rattle.bosh_world.specs.Told.{IsPerformable, story_of}
use Rattle.bosh_world.specs.Steps.{Comes}
use Rattle.bosh_traps.specs.Traps.{decision, traps_after}
use Rattle.bosh_traps.specs.declared.trap.Armed.{Armed}
use Rattle.bosh_traps.specs.declared.trap.Firing.{Firing}
use Rattle.bosh_world.specs.Stopping.{EachTakes}
use Rattle.bosh_world.specs.declared.fault.SiteFault.{SiteFault}
use Rattle.bosh_world.specs.declared.fault.SiteFault.TheVariants.{Book, CloudStore, Memory}

-- the call of a permit, as its effect tells it
abbrev pub effect_of : Granted → effect.Effect
effect_of permit = record { n = permit.n; owner = permit.owner; dep = permit.dep; call = permit.call }

-- how an answer is told
abbrev pub did_of : {L : Type 0} → CloudView L → Granted → Answer → did.Did
did_of cloud permit answer = record {
  n = permit.n;
  effect = has_effect (fate_of cloud permit.owner permit.call) cloud.effects permit.call;
  answer = answer;
}

-- the cloud answers the call of a permit, and fates see it
pub record Asks {L : Type 0}
    (bodies : L → Option (List (List ℕ))) (faults : L → ℕ) (was : CloudView L) (permit : Granted) (answer : Answer)
    (now : CloudView L) : Type 0 where
  pub answers : answer ≡ answer_under (fate_of was permit.owner permit.call) was.effects permit.call
  pub does : Does {T = Answer} bodies faults (Ok answer) was (new_effects was (effect_of permit)) now
  pub fates : Spends (method_of permit.call) permit.owner was now

-- .. and nothing else happens
pub record IsAsked {K L : Type 0} {k : keeper.Ghosts K} {l : keeper.Ghosts L}
    (bodies : L → Option (List (List ℕ))) (faults : L → ℕ) (was : Site K L k l) (permit : Granted) (did : did.Did)
    (answer : Answer) (now : Site K L k l) : Type 0 where
  pub asks : Asks bodies faults was.cloud permit answer now.cloud
  pub told : did ≡ did_of was.cloud permit answer
  pub same_book : now.book ≡ was.book
  pub same_history : now.history ≡ was.history
  pub same_calls : now.calls ≡ was.calls
  pub same_armed : now.traps.items ≡ was.traps.items
  pub same_opening : now.opening ≡ was.opening

-- traps see the call of a permit, and how it was performed is told
pub record Holds {K L : Type 0} {k : keeper.Ghosts K} {l : keeper.Ghosts L} (was : Site K L k l) (permit : Granted)
    (did : did.Did) (now : Site K L k l) : Type 0
  where
    pub comes : Comes was (moves.Did did ∷ []) now
    pub moves : now.history.moves ≡ was.history.moves ++ moves.Did did ∷ []
    pub calls : now.calls.unsettled ≡ with_performed permit.n (length was.history.moves) was.calls.unsettled
    pub halted : now.history.is_halted ≡ was.history.is_halted
    pub armed : now.traps.items ≡ traps_after (method_of permit.call) permit.owner was.traps.items
    pub same_book : now.book ≡ was.book
    pub same_cloud : now.cloud ≡ was.cloud
    pub same_opening : now.opening ≡ was.opening

-- A call is performed: the cloud answers, traps see it, and the answer is told. It can be performed no more, and the place
-- of its answer is known.
pub record Performs {K L : Type 0} {k : keeper.Ghosts K} {l : keeper.Ghosts L}
    (bodies : L → Option (List (List ℕ))) (faults : L → ℕ) (was : Site K L k l) (permit : Granted) (answer : Answer)
    (now : Site K L k l) : Type 0 where
  pub asks : Asks bodies faults was.cloud permit answer now.cloud
  pub comes : Comes was (moves.Did (did_of was.cloud permit answer) ∷ []) now
  pub running : was.history.is_halted ≡ false
  pub runs_on : now.history.is_halted ≡ false
  pub unstopped : decision (method_of permit.call) permit.owner was.traps.items ≡ None
  pub armed : now.traps.items ≡ traps_after (method_of permit.call) permit.owner was.traps.items
  pub calls : now.calls.unsettled ≡ with_performed permit.n (length (story_of was)) was.calls.unsettled
  pub same_book : now.book ≡ was.book
  pub same_opening : now.opening ≡ was.opening

-- The site halts in a call on the cloud; what the cloud did is found at the restart.
pub record HaltsInCloud {K L : Type 0} {k : keeper.Ghosts K} {l : keeper.Ghosts L}
    (bodies : L → Option (List (List ℕ))) (faults : L → ℕ) (was : Site K L k l) (cause : Cause) (now : Site K L k l) :
    Type 0 where
  pub ran : was.history.is_halted ≡ false
  pub comes : Comes was (moves.Halt cause ∷ []) now
  pub halted : now.history.is_halted ≡ true
  pub effects : Extends was.cloud.effects now.cloud.effects
  pub kept : IsKept bodies was.cloud → IsKept bodies now.cloud
  pub count : NeverFalls (faults was.cloud.store) (faults now.cloud.store)
  pub same_book : now.book ≡ was.book
  pub same_calls : now.calls.unsettled ≡ was.calls.unsettled
  pub same_opening : now.opening ≡ was.opening

-- The cloud's store fails in a call in which no trap stops the director: the effect of the call is pending, fates and traps
-- see the call, and the site halts.
pub record FailsInCall {K L : Type 0} {k : keeper.Ghosts K} {l : keeper.Ghosts L}
    (bodies : L → Option (List (List ℕ))) (faults : L → ℕ) (was : Site K L k l) (permit : Granted) (now : Site K L k l) :
    Type 0 where
  pub unstopped : decision (method_of permit.call) permit.owner was.traps.items ≡ None
  pub does : Does {T = Answer} bodies faults (Err cloud.StoreFault) was.cloud
      (new_effects was.cloud (effect_of permit)) now.cloud
  pub fates : Spends (method_of permit.call) permit.owner was.cloud now.cloud
  pub armed : now.traps.items ≡ traps_after (method_of permit.call) permit.owner was.traps.items
  pub halts : HaltsInCloud bodies faults was causes.CloudStore now

-- A trap stops the director in a call: effects of open calls come as the trap says, and then the site halts; for the cloud's
-- store, where that failed in one of them.
pub record StopsIn {K L : Type 0} {k : keeper.Ghosts K} {l : keeper.Ghosts L}
    (bodies : L → Option (List (List ℕ))) (faults : L → ℕ) (was : Site K L k l) (permit : Granted) (cause : Cause)
    (now : Site K L k l) : Type 0 where
  pub firing : Firing
  pub decides : decision (method_of permit.call) permit.owner was.traps.items ≡ Some firing
  pub each : EachTakes bodies faults was.book.records firing permit.n false was.calls.unsettled was.cloud (Some cause)
      now.cloud
  pub armed : now.traps.items ≡ traps_after (method_of permit.call) permit.owner was.traps.items
  pub halts : HaltsInCloud bodies faults was cause now

-- the traps after a call that the cloud refused: they have seen it, but for one for which there was no memory
abbrev pub traps_by : CloudFault → Method → Owner → List Armed → List Armed
traps_by cloud.Memory method owner traps = traps
traps_by fault method owner traps = traps_after method owner traps

-- There was no memory in a call on the cloud: nothing was done, and no fate and no trap has seen the call.
pub record LacksMemory {K L : Type 0} {k : keeper.Ghosts K} {l : keeper.Ghosts L}
    (bodies : L → Option (List (List ℕ))) (was now : Site K L k l) : Type 0 where
  pub ran : was.history.is_halted ≡ false
  pub running : now.history.is_halted ≡ false
  pub comes : Comes was [] now
  pub same_effects : now.cloud.effects ≡ was.cloud.effects
  pub same_fates : SameFates was.cloud now.cloud
  pub kept : IsKept bodies was.cloud → IsKept bodies now.cloud
  pub same_book : now.book ≡ was.book
  pub same_calls : now.calls.unsettled ≡ was.calls.unsettled
  pub same_armed : now.traps.items ≡ was.traps.items
  pub same_opening : now.opening ≡ was.opening

-- A call is not performed: the site has halted, and nothing changes; a trap stops the director in it; the cloud's store
-- fails in it; the permit is not for a call that can be performed; or there is no memory, and nothing is done.
abbrev pub RefusesToPerform : {K L : Type 0} {k : keeper.Ghosts K} {l : keeper.Ghosts L} → (L → Option (List (List ℕ))) →
    (L → ℕ) → Site K L k l → Granted →
    SiteFault → Site K L k l → Type 0
RefusesToPerform bodies faults was permit (Book book.Stopped) now =
    ((was.history.is_halted ≡ true) × (now ≡ was)) ⊎ StopsIn bodies faults was permit causes.Stop now
RefusesToPerform bodies faults was permit (Book (book.Locked task)) now =
    (task ≡ permit.task) × (¬ IsPerformable was permit) × (now ≡ was)
RefusesToPerform bodies faults was permit CloudStore now =
    FailsInCall bodies faults was permit now ⊎ StopsIn bodies faults was permit causes.CloudStore now
RefusesToPerform bodies faults was permit Memory now = LacksMemory bodies was now
RefusesToPerform bodies faults was permit fault now = ⊥
