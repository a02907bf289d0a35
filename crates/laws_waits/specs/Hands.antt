-- The open calls of a site, by what a worker has at hand.
use Rattle.std.specs.Prelude.{◌≡◌, ℕ, List, [], ◌∷◌, Some}
use Rattle.bosh_calls.specs.Calls.{begun}
use Rattle.bosh_calls.specs.declared.calls.OpenCall.{OpenCall}
use Rattle.bosh_crew.specs.declared.place.Place.{Place}
use Rattle.bosh_crew.specs.declared.place.Place.TheVariants.{Empty, Granted, Held}

-- all that is open is what the worker has at hand: nothing, a call that can be performed, or one that was performed
abbrev pub IsAtHand : Place → List OpenCall → Type 0
IsAtHand Empty calls = calls ≡ []
IsAtHand (Granted permit) calls = calls ≡ begun permit.n ∷ []
IsAtHand (Held call) calls = (place : ℕ) × (calls ≡ record { n = call.permit.n; place = Some place } ∷ [])
