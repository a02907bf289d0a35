-- What a call on the cloud answers and does, where fates may wait for it: one that a fate fires on fails, and has its
-- effect only where the fate leaves it (this project's profile).
use Rattle.std.specs.Prelude.{◌≡◌, Bool, true, false, List, [], ◌∷◌, Option, Some, None, Result, Ok, Err}
use Rattle.bosh_agent.specs.Compiled.{compiled_digest}
use Rattle.bosh_base.specs.Call.{method_of}
use Rattle.bosh_base.specs.CallStep.{answer_of, takes_effect}
use Rattle.bosh_base.specs.declared.answer.Answer.{Answer}
use Rattle.bosh_base.specs.declared.answer.Answer.TheVariants.{Failed}
use Rattle.bosh_base.specs.declared.call.Call.{Call}
use Rattle.bosh_base.specs.declared.entry.Effect as effect
use Rattle.bosh_base.specs.declared.entry.Entry.{Entry}
use Rattle.bosh_base.specs.declared.entry.Entry.TheVariants.{Effect}
use Rattle.bosh_base.specs.declared.method.Method.{Method}
use Rattle.bosh_base.specs.declared.owner.Owner.{Owner}
use Rattle.bosh_cloud.specs.CloudView.{CloudView}
use Rattle.bosh_fates.specs.Fates.{decision, due_count, fates_after}
use Rattle.bosh_cloud.specs.Notes.{SameFates}
use Rattle.bosh_fates.specs.declared.fate.Fate.{Fate}
use Rattle.bosh_fates.specs.declared.fate.Fate.TheVariants.{Lose, Late}
use Rattle.bosh_cloud.specs.declared.fault.CloudFault.{CloudFault}
use Rattle.bosh_cloud.specs.declared.fault.CloudFault.TheVariants.{StoreFault, Memory}
use Rattle.bosh_ports.specs.Faults.{count_with}

-- the fate that decides on a call
abbrev pub fate_of : {L : Type 0} → CloudView L → Owner → Call → Option Fate
fate_of cloud owner call = decision (method_of call) owner cloud.dooms

-- it is answered as the cloud has it, or fails
abbrev pub answer_under : Option Fate → List Entry → Call → Answer
answer_under None effects call = answer_of compiled_digest effects call
answer_under (Some it) effects call = Failed

-- whether it has its effect
abbrev pub has_effect : Option Fate → List Entry → Call → Bool
has_effect None effects call = takes_effect compiled_digest effects call
has_effect (Some Late) effects call = takes_effect compiled_digest effects call
has_effect (Some Lose) effects call = false

-- what that adds to what was done
abbrev pub effects_if : Bool → effect.Effect → List Entry
effects_if true e = Effect e ∷ []
effects_if false e = []

-- the same, of a call with its number, its owner and the deployment
abbrev pub new_effects : {L : Type 0} → CloudView L → effect.Effect → List Entry
new_effects cloud e = effects_if (has_effect (fate_of cloud e.owner e.call) cloud.effects e.call) e

-- a call brings the fates nearer that wait for its like, and those that it meets are spent and counted
pub record Spends {L : Type 0} (method : Method) (owner : Owner) (was now : CloudView L) : Type 0 where
  pub dooms : now.dooms ≡ fates_after method owner was.dooms
  pub fired : now.fired ≡ count_with was.fired (due_count method owner was.dooms)

-- memory was short
abbrev pub lacked_memory : {T : Type 0} → Result T CloudFault → Bool
lacked_memory (Err Memory) = true
lacked_memory answer = false

-- A call meets fates where it is answered, and where the store fails in it.
abbrev pub MeetsFates : {L T : Type 0} → Result T CloudFault → Method → Owner → CloudView L → CloudView L → Type 0
MeetsFates (Ok answer) method owner was now = Spends method owner was now
MeetsFates (Err StoreFault) method owner was now = Spends method owner was now
MeetsFates (Err fault) method owner was now = SameFates was now
