-- What the bodies of a store say that was done to a cloud (this project's profile).
use Rattle.std.specs.Prelude.{◌≡◌, ◌⊎◌, ℕ, Bool, true, false, if◌then◌else◌, List, [], ◌∷◌, ◌++◌, length, fold, Option, Some, None, Result, Ok, Err}
use Rattle.std.specs.Option.{option_and_then}
use Rattle.bosh_base.specs.declared.entry.Entry.{Entry}
use Rattle.bosh_cloud.specs.CloudView.{CloudView}
use Rattle.bosh_entry.specs.Body.{entry_of}
use Rattle.bosh_inventory.specs.Happens.{happens}

-- what a body says that was done, after what was done before: the entry that it spells, where that may be done then
abbrev pub happening : List Entry → List ℕ → Option Entry
happening before body = option_and_then (λ entry. if happens before entry then Some entry else None) (entry_of body)

-- what was done with it, or the place of a body that says nothing
abbrev pub done_with : List Entry → Option Entry → Result (List Entry) ℕ
done_with before (Some entry) = Ok (before ++ entry ∷ [])
done_with before None = Err (length before)

-- one body more
abbrev pub with_body : Result (List Entry) ℕ → List ℕ → Result (List Entry) ℕ
with_body (Ok before) body = done_with before (happening before body)
with_body (Err place) body = Err place

-- what the bodies say that was done, in order; or the place of the first that says nothing, counted from 0
abbrev pub effects_in : List (List ℕ) → Result (List Entry) ℕ
effects_in bodies = fold with_body (Ok []) bodies

-- the bodies say that this was done, and then what is pending, if anything is
abbrev pub TellPending : List (List ℕ) → Option (List ℕ) → List Entry → Type 0
TellPending bodies (Some body) effects =
    (entry : Entry) × (entry_of body ≡ Some entry) × (effects_in bodies ≡ Ok (effects ++ entry ∷ []))
TellPending bodies None effects = ⊥

-- the bodies say that this was done; where the store has failed since, they may say what it failed at
abbrev pub Tell : List (List ℕ) → Bool → Option (List ℕ) → List Entry → Type 0
Tell bodies false pending effects = effects_in bodies ≡ Ok effects
Tell bodies true pending effects = (effects_in bodies ≡ Ok effects) ⊎ TellPending bodies pending effects

-- the store tells its bodies, and they say what was done
abbrev pub TellsAll : Option (List (List ℕ)) → Bool → Option (List ℕ) → List Entry → Type 0
TellsAll (Some bodies) is_stale pending effects = Tell bodies is_stale pending effects
TellsAll None is_stale pending effects = ⊥

-- a load of the cloud's store finds what was done to the cloud
abbrev pub IsKept : {L : Type 0} → (L → Option (List (List ℕ))) → CloudView L → Type 0
IsKept bodies cloud = TellsAll (bodies cloud.store) cloud.is_stale cloud.pending cloud.effects
