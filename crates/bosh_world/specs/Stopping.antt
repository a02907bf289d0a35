-- The effects of open calls in a stop.
use Rattle.std.specs.Prelude.{◌≡◌, ◌⊎◌, ℕ, ◌==◌, Bool, true, false, not, List, [], ◌∷◌, Option, Some, None, option_map}
use Rattle.std.specs.Prelude.{Result, Ok, Err}
use Rattle.std.specs.Option.{option_and_then}
use Rattle.bosh_base.specs.History.{Extends}
use Rattle.bosh_base.specs.declared.entry.Begin as begin
use Rattle.bosh_base.specs.declared.entry.Effect as effect
use Rattle.bosh_base.specs.declared.entry.Entry.{Entry}
use Rattle.bosh_base.specs.declared.moves.Cause.{Cause}
use Rattle.bosh_base.specs.declared.moves.Cause.TheVariants as causes
use Rattle.bosh_cloud.specs.CloudView.{CloudView}
use Rattle.bosh_base.specs.Call.{method_of}
use Rattle.bosh_book.specs.Current.{dep_of}
use Rattle.bosh_calls.specs.declared.calls.OpenCall.{OpenCall}
use Rattle.bosh_cloud.specs.Loading.{IsKept}
use Rattle.bosh_cloud.specs.Notes.{Does, SameFates}
use Rattle.bosh_cloud.specs.Performs.{MeetsFates, new_effects}
use Rattle.bosh_cloud.specs.declared.fault.CloudFault.{CloudFault}
use Rattle.bosh_cloud.specs.declared.fault.CloudFault.TheVariants as cloud
use Rattle.bosh_ports.specs.Faults.{NeverFalls, Rose}
use Rattle.bosh_records.specs.Readers.{call_at}
use Rattle.bosh_records.specs.declared.records.Records.{Records}
use Rattle.bosh_traps.specs.declared.trap.Firing.{Firing}

-- what was done to a cloud goes on, and a load finds it, as before
pub record GoesOn {L : Type 0}
    (bodies : L → Option (List (List ℕ))) (faults : L → ℕ) (was now : CloudView L) : Type 0 where
  pub effects : Extends was.effects now.effects
  pub kept : IsKept bodies was → IsKept bodies now
  pub count : NeverFalls (faults was.store) (faults now.store)

-- an effect comes, or the store fails in it, or there is no memory for it
abbrev pub TakesEffect : {L : Type 0} → (L → Option (List (List ℕ))) → (L → ℕ) → CloudView L →
    Result (Unit {0}) CloudFault → CloudView L → Type 0
TakesEffect bodies faults was (Ok value) now = GoesOn bodies faults was now × (now.is_stale ≡ false)
TakesEffect bodies faults was (Err cloud.Memory) now =
    GoesOn bodies faults was now × (now.is_stale ≡ false) × (now.effects ≡ was.effects) × SameFates was now
TakesEffect bodies faults was (Err fault) now =
    GoesOn bodies faults was now × Rose (faults was.store) (faults now.store)

-- effects come, and the director stops for a cause; or there is no memory for the first
abbrev pub TakesEffects : {L : Type 0} → (L → Option (List (List ℕ))) → (L → ℕ) → CloudView L → Option Cause →
    CloudView L → Type 0
TakesEffects bodies faults was None now =
    GoesOn bodies faults was now × (now.is_stale ≡ false) × (now.effects ≡ was.effects) × SameFates was now
TakesEffects bodies faults was (Some causes.Stop) now = GoesOn bodies faults was now
TakesEffects bodies faults was (Some causes.CloudStore) now =
    GoesOn bodies faults was now × Rose (faults was.store) (faults now.store)
TakesEffects bodies faults was (Some causes.Store) now = ⊥

-- the effect of a call that began so, for a deployment
abbrev pub effect_by : begin.Begin → List ℕ → effect.Effect
effect_by begun dep = record { n = begun.n; owner = begun.owner; dep = dep; call = begun.call }

-- the effect of an open call, by the records
abbrev pub effect_of : Records → ℕ → Option effect.Effect
effect_of records n =
    option_and_then (λ begun. option_map (effect_by begun) (dep_of records begun.owner)) (call_at records n)

-- what that adds to what was done to the cloud
abbrev pub new_effects_of : {L : Type 0} → CloudView L → Option effect.Effect → List Entry
new_effects_of cloud (Some e) = new_effects cloud e
new_effects_of cloud None = []

-- fates see the call, where something is known of it
abbrev pub MeetsFor : {L : Type 0} → Result (Unit {0}) CloudFault → Option effect.Effect → CloudView L → CloudView L → Type 0
MeetsFor result (Some e) was now = MeetsFates result (method_of e.call) e.owner was now
MeetsFor result None was now = SameFates was now

-- the effect of an open call comes, or is lost, and fates see the call
pub record Takes {L : Type 0} (bodies : L → Option (List (List ℕ))) (faults : L → ℕ) (result : Result (Unit {0}) CloudFault)
    (was : CloudView L) (it : Option effect.Effect) (now : CloudView L) : Type 0 where
  pub does : Does bodies faults result was (new_effects_of was it) now
  pub fates : MeetsFor result it was now

-- whether an open call has its effect in a stop: the one in which the director stops, unless it stops before it; any other,
-- where the trap says so, that was not performed
abbrev pub comes : Firing → Bool → Option ℕ → Bool
comes firing true performed = not firing.before
comes firing false (Some place) = false
comes firing false None = firing.all

-- why the director stops where there is no memory for an effect: nothing, for the first
abbrev pub cause_by : Bool → Option Cause
cause_by true = Some causes.Stop
cause_by false = None

-- The effects of open calls come one after the other; the store may fail in one, or there may be no memory for it, and then
-- no more come.
abbrev pub EachTakes : {L : Type 0} → (L → Option (List (List ℕ))) → (L → ℕ) → Records → Firing → ℕ → Bool →
    List OpenCall → CloudView L → Option Cause → CloudView L → Type 0
EachTakes bodies faults records firing n came [] was cause now = (cause ≡ Some causes.Stop) × (now ≡ was)
EachTakes {L} bodies faults records firing n came (it ∷ rest) was cause now =
    ((comes firing (it.n == n) it.place ≡ false) × EachTakes bodies faults records firing n came rest was cause now)
    ⊎ (((comes firing (it.n == n) it.place ≡ true) × ((mid : CloudView L)
    × (Takes bodies faults (Ok tt) was (effect_of records it.n) mid
    × EachTakes bodies faults records firing n true rest mid cause now)))
    ⊎ ((comes firing (it.n == n) it.place ≡ true) × ((fault : CloudFault)
    × (Takes bodies faults (Err fault) was (effect_of records it.n) now
    × (cause ≡ unless_memory fault came)))))
  where
    unless_memory : CloudFault → Bool → Option Cause
    unless_memory cloud.Memory came = cause_by came
    unless_memory fault came = Some causes.CloudStore
