-- The open calls of a site, as a moment of its history has them.
use Rattle.std.specs.Prelude.{◌≡◌, ◌<◌, ℕ, List, [], ◌∷◌, Option, Some, None, find, slice_get}
use Rattle.bosh_base.specs.declared.moves.Did as did
use Rattle.bosh_base.specs.declared.moves.Move.{Move}
use Rattle.bosh_base.specs.declared.moves.Move.TheVariants.{Did}
use Rattle.bosh_calls.specs.Calls.{is_of}
use Rattle.bosh_calls.specs.declared.calls.OpenCall as site
use Rattle.bosh_history.specs.Moments.{OpenCall}

-- it was performed as the move at its place tells, or not yet
abbrev pub HasDone : List Move → Option ℕ → Option did.Did → Type 0
HasDone moves None None = Unit {0}
HasDone moves (Some place) (Some it) = slice_get moves place ≡ Some (Did it)
HasDone moves place it = ⊥

-- an open call of the site is one of the moment
abbrev pub IsCall : List Move → Option site.OpenCall → Option OpenCall → Type 0
IsCall moves None None = Unit {0}
IsCall moves (Some it) (Some call) = HasDone moves it.place call.did
IsCall moves it call = ⊥

-- the calls of all numbers are
abbrev pub AreCalls : List Move → List site.OpenCall → (ℕ → Option OpenCall) → Type 0
AreCalls moves unsettled calls = (n : ℕ) → IsCall moves (find (is_of n) unsettled) (calls n)

-- they stand in the order of their numbers, above this one
abbrev pub AreRising : ℕ → List site.OpenCall → Type 0
AreRising last [] = Unit {0}
AreRising last (it ∷ rest) = (last < it.n) × AreRising it.n rest
