-- What it gives to read a store.
use Rattle.std.specs.Prelude.{◌≡◌, ℕ, Bool, true, false, List, slice_get, Option, Some, None, IfSome, Result, Ok, Err}
use Rattle.bosh_base.specs.declared.entry.Entry.{Entry}
use Rattle.bosh_cloud.specs.Loading.{effects_in, with_body}
use Rattle.bosh_cloud.specs.declared.fault.CloudFault.{CloudFault}
use Rattle.bosh_cloud.specs.declared.fault.CloudFault.TheVariants.{StoreFault, Damaged, Broken, Memory}
use Rattle.bosh_ports.specs.Faults.{NeverFalls, Rose}

-- the answer with what was done
abbrev pub with_effects : {T : Type 0} → Result T CloudFault → List Entry → Result (List Entry) CloudFault
with_effects (Ok value) effects = Ok effects
with_effects (Err fault) effects = Err fault

-- an answer that neither failed nor lacked memory says what was found: what was done, or the place of a faulty body
abbrev pub Says : Result (List Entry) CloudFault → Result (List Entry) ℕ → Type 0
Says (Ok effects) found = found ≡ Ok effects
Says (Err (Damaged place)) found = found ≡ Err place
Says (Err fault) found = Unit {0}

-- it fails only where the count rose, and is never that the store was broken before
abbrev pub FailsByRise : {T : Type 0} → Result T CloudFault → ℕ → ℕ → Type 0
FailsByRise (Err StoreFault) before after = Rose before after
FailsByRise (Err Broken) before after = ⊥
FailsByRise answer before after = Unit {0}

-- What was done, or the first faulty body, where the store tells its bodies, which stay.
pub record Reads {L : Type 0}
    (bodies : L → Option (List (List ℕ))) (faults : L → ℕ) (was : L) (result : Result (List Entry) CloudFault)
    (now : L) : Type 0 where
  pub says : IfSome (bodies was) (λ list. Says result (effects_in list))
  pub list : IfSome (bodies was) (λ list. bodies now ≡ Some list)
  pub failed : FailsByRise result (faults was) (faults now)
  pub count : NeverFalls (faults was) (faults now)

-- the same of the body at a place, after what was done before
pub record ReadsOne {L : Type 0}
    (bodies : L → Option (List (List ℕ))) (faults : L → ℕ) (was : L) (place : ℕ) (before : List Entry)
    (result : Result (List Entry) CloudFault) (now : L) : Type 0 where
  pub says : IfSome (bodies was)
      (λ list. IfSome (slice_get list place) (λ body. Says result (with_body (Ok before) body)))
  pub list : IfSome (bodies was) (λ list. bodies now ≡ Some list)
  pub failed : FailsByRise result (faults was) (faults now)
  pub count : NeverFalls (faults was) (faults now)

-- A store that was read is whole, unless it failed, or memory was short before it was mended.
abbrev pub Mends : {T : Type 0} → Result T CloudFault → Bool → Bool → Type 0
Mends (Ok value) was is = is ≡ false
Mends (Err StoreFault) was is = Unit {0}
Mends (Err fault) was is = was ≡ false → is ≡ false

-- whether a cloud is to be reloaded, after a reload
abbrev pub is_stale_after : {T : Type 0} → Result T CloudFault → Bool → Bool
is_stale_after (Ok value) was = false
is_stale_after (Err Memory) was = was
is_stale_after (Err fault) was = true

-- what is pending then: nothing, once it was read
abbrev pub pending_after : {T : Type 0} → Result T CloudFault → Option (List ℕ) → Option (List ℕ)
pending_after (Ok value) was = None
pending_after (Err fault) was = was
