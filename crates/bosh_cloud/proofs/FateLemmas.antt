-- Which calls meet fates.
use Rattle.std.proofs.Common.{◌≡◌, ℕ, true, false, Option, List, Result, Ok, Err, ◌∙◌, ap, subst}
use Rattle.bosh_base.specs.declared.entry.Entry.{Entry}
use Rattle.bosh_base.specs.declared.method.Method.{Method}
use Rattle.bosh_base.specs.declared.owner.Owner.{Owner}
use Rattle.bosh_cloud.specs.CloudView.{CloudView}
use Rattle.bosh_fates.specs.Fates.{due_count, fates_after}
use Rattle.bosh_cloud.specs.Notes.{Does, SameFates}
use Rattle.bosh_cloud.specs.Performs.{lacked_memory, MeetsFates, Spends}
use Rattle.bosh_cloud.specs.declared.fault.CloudFault.{CloudFault}
use Rattle.bosh_cloud.specs.declared.fault.CloudFault.TheVariants.{StoreFault, Damaged, Broken, Memory}
use Rattle.bosh_ports.specs.Faults.{count_with}

-- fates that stayed are spent
spends_after : {L : Type 0} (method : Method) (owner : Owner) (was mid now : CloudView L) → SameFates was mid →
    Spends method owner mid now → Spends method owner was now
spends_after method owner was mid now same spends = record {
  dooms = spends.dooms ∙ ap (fates_after method owner) same.0;
  fired = spends.fired ∙ ap (λ dooms. count_with mid.fired (due_count method owner dooms)) same.0
      ∙ ap (λ fired. count_with fired (due_count method owner was.dooms)) same.1;
}

-- a call that did something or nothing, and did not lack memory, meets them
pub MeetsFates-spent : {L T : Type 0} (bodies : L → Option (List (List ℕ))) (faults : L → ℕ)
    (result : Result T CloudFault) (named method : Method) (owner : Owner) (added : List Entry)
    (was mid now : CloudView L) → named ≡ method → was.is_stale ≡ false → lacked_memory result ≡ false →
    Does bodies faults result was added mid → SameFates was mid → Spends named owner mid now →
    MeetsFates result method owner was now
MeetsFates-spent bodies faults (Ok value) named method owner added was mid now is whole enough does same spends =
    spends_after method owner was mid now same (subst (λ (it : Method). Spends it owner mid now) is spends)
MeetsFates-spent bodies faults (Err StoreFault) named method owner added was mid now is whole enough does same spends =
    spends_after method owner was mid now same (subst (λ (it : Method). Spends it owner mid now) is spends)
MeetsFates-spent bodies faults (Err (Damaged position)) named method owner added was mid now is whole enough does same
    spends =
    absurd does.notes
MeetsFates-spent bodies faults (Err Broken) named method owner added was mid now is whole enough does same spends =
    absurd (let stale : was.is_stale ≡ true = does.notes.0 in cc)
MeetsFates-spent bodies faults (Err Memory) named method owner added was mid now is whole enough does same spends =
    absurd cc
