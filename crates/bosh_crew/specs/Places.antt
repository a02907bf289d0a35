-- What a worker has at hand.
use Rattle.std.specs.Prelude.{ℕ}
use Rattle.bosh_crew.specs.declared.place.Place.{Place}
use Rattle.bosh_crew.specs.declared.place.Place.TheVariants.{Empty, Granted, Held}
use Rattle.bosh_crew.specs.declared.step.Step.{Step}
use Rattle.bosh_crew.specs.declared.step.Step.TheVariants.{Moved, Waits}
use Rattle.bosh_ports.specs.declared.keeper.Keeper as keeper
use Rattle.bosh_world.specs.Holds.{IsHeld}
use Rattle.bosh_world.specs.Told.{IsPerformable}
use Rattle.bosh_world.specs.declared.site.Site.{Site}

-- a permit is for a call that can be performed, and a call that was performed can be settled
abbrev pub IsAt : {K L : Type 0} {k : keeper.Ghosts K} {l : keeper.Ghosts L} → Site K L k l → Place → Type 0
IsAt site Empty = Unit {0}
IsAt site (Granted permit) = IsPerformable site permit
IsAt site (Held call) = IsHeld site call

-- .. of what is at hand after a step
abbrev pub IsAtAfter : {K L : Type 0} {k : keeper.Ghosts K} {l : keeper.Ghosts L} → Site K L k l → Step → Type 0
IsAtAfter site (Moved place) = IsAt site place
IsAtAfter site Waits = Unit {0}

-- how many steps there may be until nothing is at hand again
abbrev pub steps_left : Place → ℕ
steps_left Empty = 3
steps_left (Granted permit) = 2
steps_left (Held call) = 1
