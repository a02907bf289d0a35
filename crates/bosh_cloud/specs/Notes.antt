-- What a cloud is after something was to be done to it.
use Rattle.std.specs.Prelude.{◌≡◌, ◌⊎◌, ℕ, true, false, List, [], ◌∷◌, ◌++◌, map, Option, Some, IfSome, Result, Ok, Err}
use Rattle.bosh_base.specs.declared.entry.Entry.{Entry}
use Rattle.bosh_cloud.specs.CloudView.{CloudView}
use Rattle.bosh_cloud.specs.Loading.{IsKept}
use Rattle.bosh_cloud.specs.declared.fault.CloudFault.{CloudFault}
use Rattle.bosh_cloud.specs.declared.fault.CloudFault.TheVariants.{StoreFault, Broken, Memory}
use Rattle.bosh_entry.specs.Body.{entry_of, spelling}
use Rattle.bosh_ports.specs.Faults.{NeverFalls, Rose}

-- what was to be done is pending: the body that spells it, and nothing else
abbrev pub IsPending : List Entry → Option (List ℕ) → Type 0
IsPending (entry ∷ []) pending = (pending ≡ Some (spelling entry)) × (entry_of (spelling entry) ≡ Some entry)
IsPending added pending = ⊥

-- It was done, and its body stands at the end of the store. Where the store failed it was not done, is pending, and the
-- cloud is to be read again; that alone is answered until then. For want of memory nothing is done.
abbrev pub Notes : {L T : Type 0} → (L → Option (List (List ℕ))) → (L → ℕ) → Result T CloudFault → CloudView L →
    List Entry → CloudView L → Type 0
Notes bodies faults (Ok value) was added now =
    (was.is_stale ≡ false) × (now.is_stale ≡ false) × (now.effects ≡ was.effects ++ added)
    × IfSome (bodies was.store) (λ list. bodies now.store ≡ Some (list ++ map spelling added))
Notes bodies faults (Err StoreFault) was added now =
    (was.is_stale ≡ false) × (now.is_stale ≡ true) × (now.effects ≡ was.effects)
    × IsPending added now.pending × Rose (faults was.store) (faults now.store)
    × IfSome (bodies was.store)
    (λ list. (bodies now.store ≡ Some list) ⊎ (bodies now.store ≡ Some (list ++ map spelling added)))
Notes bodies faults (Err Broken) was added now =
    (was.is_stale ≡ true) × (now.is_stale ≡ true) × (now.effects ≡ was.effects) × (now.pending ≡ was.pending)
    × (now.store ≡ was.store)
Notes bodies faults (Err Memory) was added now =
    (was.is_stale ≡ false) × (now.is_stale ≡ false) × (now.effects ≡ was.effects)
    × IfSome (bodies was.store) (λ list. bodies now.store ≡ Some list)
Notes bodies faults (Err fault) was added now = ⊥

-- One thing is done, or nothing; a load finds what was done, as before.
pub record Does {L T : Type 0}
    (bodies : L → Option (List (List ℕ))) (faults : L → ℕ) (result : Result T CloudFault) (was : CloudView L)
    (added : List Entry) (now : CloudView L) : Type 0 where
  pub notes : Notes bodies faults result was added now
  pub count : NeverFalls (faults was.store) (faults now.store)
  pub kept : IsKept bodies was → IsKept bodies now

-- the fates stay
abbrev pub SameFates : {L : Type 0} → CloudView L → CloudView L → Type 0
SameFates was now = (now.dooms ≡ was.dooms) × (now.fired ≡ was.fired)
